-- Names that statements write, in lists that grow, and their bits.
use Rattle.std.proofs.Common.{◌≡◌, ℕ, ◌+◌, Bool, true, false, List, [], ◌∷◌, ◌++◌, map, flat_map, refl, sym, ap, ◌∙◌, arith}
use Rattle.std.specs.Prelude.{Some, filter, if◌then◌else◌}
use Rattle.std.proofs.lemmas.Grind.{flat_map-append}
use Rattle.civl_tree.specs.declared.name.Name.{Name}
use Rattle.civl_tree.specs.declared.stmt.Stmt.{Stmt, out-Stmt, roll-Stmt, roll-out-Stmt}
use Rattle.civl_tree.specs.declared.stmt.Stmt.TheOpen as stmt
use Rattle.civl_tree.specs.declared.stmt.Stmt.TheFolds.{para-roll-Stmt}
use Rattle.civl_tree.specs.declared.expr.Expr.{Expr}
use Rattle.civl_tree.specs.declared.action.Update.{Update}
use Rattle.civl_tree.specs.declared.program.Global.{Global}
use Rattle.civl_tree.specs.Numbering.{inner_of, inner_step, statements_of, with_inner}
use Rattle.civl_tree.specs.rules.Names.{has_name}
use Rattle.civl_tree.specs.rules.Scopes.{Binding}
use Rattle.civl_tree.specs.rules.StoreSize.{bits_of}
use Rattle.civl_firing.specs.values.Weights.{bits_in}
use Rattle.civl_tree.specs.declared.program.Proc.{Proc}
use Rattle.civl_tree.proofs.Layers.{inner_all}
use Rattle.civl_meaning.specs.declared.config.Plain.{Plain}
use Rattle.civl_conditions.specs.Weights.{summed, written_bits, layer_weight}
use Rattle.civl_weighing.specs.declared.weight.Weight.{Weight}
use Rattle.civl_weighing.specs.Weighing.{Weighs}
use Rattle.civl_weighing.proofs.Capping.{weighs_same}
use Rattle.civl_weights.specs.sums.Sums.{updated_globals}
use Rattle.civl_weighing.proofs.Summing.{kept}

-- the names from two lists of statements, one behind the other
pub both_named : {A : Type 0} (now : A → Name) (f : Stmt → List Name) (none one both shown : List A) (a b : List Stmt) → none ≡ [] → map now one ≡ map now none ++ flat_map f a → map now both ≡ map now one ++ flat_map f b → shown ≡ both → map now shown ≡ flat_map f (a ++ b)
both_named now f none one both shown a b n e k s =
    ap (map now) s ∙ k ∙ ap (λ (ns : List Name). ns ++ flat_map f b) (e ∙ ap (λ (xs : List _). map now xs ++ flat_map f a) n) ∙ sym (flat_map-append f a b)

-- a statement's weight by its form
pub of_form : (plain : Plain) (proc : Proc) (s : Stmt) (l : stmt.Stmt-F Stmt) {w : Weight} → out-Stmt s ≡ l → Weighs w (layer_weight plain proc s l) → Weighs w (layer_weight plain proc s (out-Stmt s))
of_form plain proc s l h k = weighs_same (ap (layer_weight plain proc s) (sym h)) k

-- ---- the statements in the branches of an `if`

pub branches : (s : Stmt) (e : Expr) (a b : List Stmt) → out-Stmt s ≡ stmt.If e a b → inner_of s ≡ statements_of a ++ statements_of b
branches s e a b h =
    ap inner_of (sym (roll-out-Stmt s) ∙ ap roll-Stmt h) ∙ para-roll-Stmt (List Stmt) inner_step (stmt.If e a b)
    ∙ ap (λ (l : List Stmt). l ++ flat_map with_inner (map (λ s. (s, inner_of s)) b)) (inner_all a) ∙ ap (λ (l : List Stmt). statements_of a ++ l) (inner_all b)

-- ---- updates

module _ (globals : List Global) where
  one_update : (u : Update) (us : List Update) (b : Bool) → (if b then u.target ∷ updated_globals globals us else updated_globals globals us) ≡ (if b then u.target ∷ [] else []) ++ updated_globals globals us
  one_update u us true = refl
  one_update u us false = refl

  pub first_update : (u : Update) (us : List Update) → updated_globals globals (u ∷ us) ≡ (if has_name (map (λ g. g.name) globals) u.target then u.target ∷ [] else []) ++ updated_globals globals us
  first_update u us = one_update u us (has_name (map (λ g. g.name) globals) u.target)

-- ---- bits of what is written

bindings_kept : {A : Type 0} (names : List Name) (bind : A → Binding) (xs : List A)
    → summed (map (λ x. if has_name names (bind x).name then bits_of (bind x).sort else 0) xs) ≡ summed (map (λ b. if has_name names b.name then bits_of b.sort else 0) (map bind xs))
bindings_kept names bind [] = refl
bindings_kept names bind (x ∷ xs) = ap (λ (n : ℕ). (if has_name names (bind x).name then bits_of (bind x).sort else 0) + n) (bindings_kept names bind xs)

pub written_is : {A : Type 0} (names : List Name) (bind : A → Binding) (xs : List A) → summed (map (λ x. if has_name names (bind x).name then bits_of (bind x).sort else 0) xs) ≡ written_bits names (map bind xs)
written_is names bind xs = bindings_kept names bind xs ∙ kept (λ b. has_name names b.name) (λ b. bits_of b.sort) (map bind xs)

one_written : (b : Binding) (bs : List Binding) (names : List Name) (t : Bool) → summed (map (λ b. bits_in (Some b.sort)) (if t then b ∷ filter (λ b. has_name names b.name) bs else filter (λ b. has_name names b.name) bs)) ≡ (if t then bits_of b.sort else 0) + written_bits names bs
one_written b bs names true = refl
one_written b bs names false = omega arith

pub written_append : (names : List Name) (bs cs : List Binding) → written_bits names (bs ++ cs) ≡ written_bits names bs + written_bits names cs
written_append names [] cs = omega arith
written_append names (b ∷ bs) cs =
    one_written b (bs ++ cs) names (has_name names b.name)
    ∙ omega (arith, written_append names bs cs, one_written b bs names (has_name names b.name))
