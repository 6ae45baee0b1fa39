-- The number of a cut, by how many statements before it are cuts.
use Rattle.std.proofs.Common.{◌≡◌, ℕ, ◌+◌, List, [], ◌∷◌, length, take, refl, sym, ap, ◌∙◌, Option, None, Some}
use Rattle.std.proofs.lemmas.List.{length-append}
use Rattle.std.specs.Prelude.{if◌then◌else◌, is_some}
use Rattle.civl_tree.specs.declared.stmt.Stmt.{Stmt}
use Rattle.civl_tree.specs.declared.program.Proc.{Proc}
use Rattle.civl_tree.specs.Numbering.{statements_of}
use Rattle.civl_layers.specs.declared.cut.CutKind.{CutKind}
use Rattle.civl_layers.specs.Cuts.{cut_at, cut_kind, cuts_among}
use Rattle.civl_conditions.specs.paths.Ends.{cut_number}
use Rattle.civl_losses.specs.inner.Routes.{cut_count}

one_at : (number : ℕ) (kind : Option CutKind) → length (cut_at number kind) ≡ (if is_some kind then 1 else 0)
one_at number None = refl
one_at number (Some kind) = refl

counted : (number : ℕ) (stmts : List Stmt) → length (cuts_among number stmts) ≡ cut_count stmts
unfolding cuts_among
counted number [] = refl
counted number (stmt ∷ stmts) =
    length-append (cut_at number (cut_kind stmt)) (cuts_among (number + 1) stmts)
    ∙ ap (λ (n : ℕ). n + length (cuts_among (number + 1) stmts)) (one_at number (cut_kind stmt))
    ∙ ap (λ (n : ℕ). (if is_some (cut_kind stmt) then 1 else 0) + n) (counted (number + 1) stmts)

-- the first so many statements of a procedure
pub number_is : (proc : Proc) (stmts first : List Stmt) (number : ℕ) → stmts ≡ statements_of proc.body → first ≡ take number stmts → 1 + cut_count first ≡ cut_number proc number
number_is proc stmts first number s f =
    ap (λ (n : ℕ). 1 + n) (sym (counted 0 first)) ∙ ap (λ (ss : List Stmt). 1 + length (cuts_among 0 ss)) (f ∙ ap (λ (ss : List Stmt). take number ss) s)
