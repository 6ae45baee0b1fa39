-- What the rules say of expressions: that they are typed, and which sorts they have.
use Rattle.std.specs.Prelude.{slice_get, IsSome}
use Rattle.std.proofs.Common.{◌≡◌, ℕ, zero, suc, true, false, List, [], ◌∷◌, refl, sym, subst, Option, Some}
use Rattle.std.proofs.lemmas.Bool.{not-false, or_parts}
use Rattle.civl_tree.specs.declared.expr.Expr.{Expr}
use Rattle.civl_tree.specs.declared.expr.Sort.{Sort}
use Rattle.civl_tree.specs.declared.expr.Sort.TheVariants.{Bool as Truth}
use Rattle.civl_tree.specs.declared.program.Invariant.{Invariant}
use Rattle.civl_tree.specs.declared.program.Program.{Program}
use Rattle.civl_tree.specs.rules.Scopes.{Scope, global_scope}
use Rattle.civl_tree.specs.rules.Sorts.{sort_of}
use Rattle.civl_tree.specs.rules.Exprs.{widths_fit, indices_fit}
use Rattle.civl_tree.specs.rules.Uses.{Use, Only, serves, truth_use, argument_uses}
use Rattle.civl_tree.specs.rules.Sorted.{any_missorted}
use Rattle.civl_tree.specs.rules.Width.{any_width}
use Rattle.civl_tree.specs.rules.Index.{any_index}
use Rattle.civl_tree.specs.rules.Rules.{Keeps}
use Rattle.civl_tree.specs.rules.Typing.{typing_rules, sort_rule, width_rule, index_rule}
use Rattle.civl_tree.proofs.Kept.{init_kept, invariant_kept, sort_among, width_among, index_among}
use Rattle.civl_firing.proofs.Serving.{served_only}
use Rattle.civl_states.specs.Notes.{HasType}

some_sort : (o : Option Sort) (s : Sort) → o ≡ Some s → IsSome o
some_sort o s e = subst (λ (p : Option Sort). IsSome p) (sym e) refl

-- an expression that serves where this sort is needed
pub type_from : (scope : Scope) (e : Expr) (s : Sort) → serves (sort_of scope e) (Only s) ≡ true → widths_fit scope e ≡ true → indices_fit e ≡ true → HasType scope e s
type_from scope e s p q r =
    let sorted = served_only (sort_of scope e) s p in
    record { typed = record { sorted = some_sort (sort_of scope e) s sorted; widths = q; indices = r }; sorted = sorted }

-- a bool, the first of the expressions that are used
pub truth_typed : (scope : Scope) (e : Expr) (uses : List Use) → any_missorted (truth_use scope e ∷ uses) ≡ false → any_width (truth_use scope e ∷ uses) ≡ false → any_index (truth_use scope e ∷ uses) ≡ false → HasType scope e Truth
truth_typed scope e uses p q r = type_from scope e Truth (not-false _ (or_parts _ _ p).0) (not-false _ (or_parts _ _ q).0) (not-false _ (or_parts _ _ r).0)

-- arguments, each of the sort in its place
pub args_typed : (scope : Scope) (args : List Expr) (wanted : List Sort) → any_missorted (argument_uses scope args wanted) ≡ false → any_width (argument_uses scope args wanted) ≡ false → any_index (argument_uses scope args wanted) ≡ false
    → (i : ℕ) (e : Expr) (s : Sort) → slice_get args i ≡ Some e → slice_get wanted i ≡ Some s → HasType scope e s
args_typed scope [] wanted m w x i e s p q = absurd (cc)
args_typed scope (a ∷ args) [] m w x i e s p q = absurd (cc)
args_typed scope (a ∷ args) (t ∷ wanted) m w x zero e s p q =
    let ea : a ≡ e = cc in
    let ts : t ≡ s = cc in
    subst (λ b. HasType scope b s) ea (subst (λ u. HasType scope a u) ts (type_from scope a t (not-false _ (or_parts _ _ m).0) (not-false _ (or_parts _ _ w).0) (not-false _ (or_parts _ _ x).0)))
args_typed scope (a ∷ args) (t ∷ wanted) m w x (suc i) e s p q = args_typed scope args wanted (or_parts _ _ m).1 (or_parts _ _ w).1 (or_parts _ _ x).1 i e s p q

module _ (program : Program) (keeps : Keeps typing_rules program) where
  pub init_typed : HasType (global_scope program) program.init Truth
  init_typed =
      truth_typed (global_scope program) program.init [] (init_kept typing_rules program keeps sort_rule sort_among) (init_kept typing_rules program keeps width_rule width_among) (init_kept typing_rules program keeps index_rule index_among)

  pub invariant_typed : (place : ℕ) (i : Invariant) → slice_get program.invariants place ≡ Some i → HasType (global_scope program) i.expr Truth
  invariant_typed place i at =
      truth_typed (global_scope program) i.expr [] (invariant_kept typing_rules program keeps sort_rule sort_among place i at) (invariant_kept typing_rules program keeps width_rule width_among place i at) (invariant_kept typing_rules program keeps index_rule index_among place i at)
