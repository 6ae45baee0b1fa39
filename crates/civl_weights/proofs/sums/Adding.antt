-- The weights of the invariants of a step.
use Rattle.std.proofs.Common.{◌≡◌, ℕ, ◌+◌, ◌<◌, List, [], ◌∷◌, ◌++◌, map, length, take, get_or, refl, sym, ap, ◌∙◌, subst, append-nil, append_assoc}
use Rattle.std.specs.Prelude.{Bool, true, false, nat_eq, filter, if◌then◌else◌}
use Rattle.std.proofs.lemmas.List.{take_more}
use Rattle.civl_tree.specs.declared.program.Invariant.{Invariant}
use Rattle.civl_tree.specs.rules.Scopes.{Scope}
use Rattle.civl_firing.specs.values.Weights.{weight_of}
use Rattle.civl_weights.specs.sums.Sums.{IsAdded, exprs_at}
use Rattle.civl_weighing.specs.declared.weight.Weight.{Weight}
use Rattle.civl_weighing.specs.Weighing.{AreWeights}

-- ---- invariants of a step

module _ (scope : Scope) (step : ℕ) where
  abbrev weights_at : List Invariant → List ℕ
  weights_at is = map (weight_of scope) (exprs_at step is)

  one_invariant : (is : List Invariant) (i : Invariant) (b : Bool) → map (weight_of scope) (map (λ x. x.expr) (if b then i ∷ filter (λ x. nat_eq x.step step) is else filter (λ x. nat_eq x.step step) is)) ≡ (if b then weight_of scope i.expr ∷ [] else []) ++ weights_at is
  one_invariant is i true = refl
  one_invariant is i false = refl

  behind : (is : List Invariant) (i : Invariant) → weights_at (is ++ i ∷ []) ≡ weights_at is ++ (if nat_eq i.step step then weight_of scope i.expr ∷ [] else [])
  behind [] i = one_invariant [] i (nat_eq i.step step) ∙ append-nil (if nat_eq i.step step then weight_of scope i.expr ∷ [] else [])
  behind (j ∷ is) i =
      one_invariant (is ++ i ∷ []) j (nat_eq j.step step) ∙ ap (λ (ns : List ℕ). (if nat_eq j.step step then weight_of scope j.expr ∷ [] else []) ++ ns) (behind is i)
      ∙ sym (append_assoc (if nat_eq j.step step then weight_of scope j.expr ∷ [] else []) (weights_at is) (if nat_eq i.step step then weight_of scope i.expr ∷ [] else []))
      ∙ ap (λ (ns : List ℕ). ns ++ (if nat_eq i.step step then weight_of scope i.expr ∷ [] else [])) (sym (one_invariant is j (nat_eq j.step step)))

  pub invariant_more : (is : List Invariant) (at : ℕ) (i : Invariant) {ws new : List Weight} → at < length is → i ≡ get_or is at i → IsAdded scope step i ws new → AreWeights ws (weights_at (take at is)) → AreWeights new (weights_at (take (at + 1) is))
  invariant_more is at i {ws} {new} l e a h =
      subst (AreWeights new) (sym (ap weights_at (take_more is at i l ∙ ap (λ y. take at is ++ y ∷ []) (sym e)) ∙ behind (take at is) i)) (a.is (weights_at (take at is)) h)
