-- Lengths of spellings.
use Rattle.std.proofs.Common.{◌≡◌, ℕ, ◌+◌, ◌-◌, ◌<◌, List, [], ◌∷◌, ◌++◌, map, length, get_or, drop, drop-cons, add-one, length-append, refl, sym, ap, ◌∙◌, arith}
use Rattle.civl_tree.specs.declared.expr.Expr.{the_lemmas as of_expr}
use Rattle.civl_tree.specs.declared.stmt.Stmt.{the_lemmas as of_stmt}
use Rattle.civl_tree.specs.Token.{Token}
use Rattle.civl_tree.specs.Spelling.{close_paren, comma, joined, enclosed}

pub ruleset counts = (length-append, of_expr, of_stmt)

-- the phrases from this one on, where x is the first
pub joined_rest : {X : Type 0} (spell : X → List Token) (xs : List X) (i : ℕ) (x : X) → i < length xs → x ≡ get_or xs i x
    → length (joined (map spell (drop i xs))) ≡ length (spell x) + length (joined (map spell (drop (i + 1) xs)))
joined_rest spell xs i x h e = rw (add-one, drop-cons xs i x, ← e) (length-append (spell x) _)

with_commas : {X : Type 0} (spell : X → List Token) (xs : List X)
    → length (joined (map (λ y. comma ∷ spell y) xs)) ≡ length (joined (map spell xs)) + length xs
with_commas spell [] = refl
with_commas spell (x ∷ xs) =
    omega (arith, with_commas spell xs, length-append (spell x) (joined (map spell xs)), length-append (spell x) (joined (map (λ y. comma ∷ spell y) xs)))

-- a list in parentheses: its phrases, the commas between them, and the parentheses
pub enclosed_length : {X : Type 0} (spell : X → List Token) (xs : List X)
    → length (enclosed spell xs) ≡ length (joined (map spell xs)) + (length xs - 1) + 2
enclosed_length spell [] = refl
enclosed_length spell (x ∷ xs) =
    omega (
      arith,
      with_commas spell xs,
      length-append (spell x) (joined (map spell xs)),
      length-append (spell x) (joined (map (λ y. comma ∷ spell y) xs)),
      length-append (spell x ++ joined (map (λ y. comma ∷ spell y) xs)) (close_paren ∷ []),
    )

pub enclosed_at : {X : Type 0} (spell : X → List Token) (xs ys : List X) → xs ≡ ys
    → length (enclosed spell ys) ≡ length (joined (map spell xs)) + (length xs - 1) + 2
enclosed_at spell xs ys same = ap (λ zs. length (enclosed spell zs)) (sym same) ∙ enclosed_length spell xs
