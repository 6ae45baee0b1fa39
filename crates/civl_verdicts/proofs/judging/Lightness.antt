-- Where no formula is heavy each is light.
use Rattle.std.specs.Prelude.{slice_get, nat_lt}
use Rattle.std.specs.Option.{option_map_or}
use Rattle.std.specs.List.{find}
use Rattle.std.proofs.Common.{◌≡◌, ◌∙◌, ℕ, zero, suc, ◌≤◌, Bool, true, false, List, [], ◌∷◌, refl, sym, ap, Some, None}
use Rattle.std.proofs.lemmas.Bool.{ltb-false}
use Rattle.civl_tree.specs.declared.program.Program.{Program}
use Rattle.civl_conditions.specs.declared.condition.Condition.{Condition}
use Rattle.civl_conditions.specs.Listed.{conditions}
use Rattle.civl_conditions.specs.Weights.{weight, initial_weight, weight_limit, heavy}

none_is_some : {A : Type 0} (x : A) → Some x ≡ None → ⊥
none_is_some x e = absurd (cc)

-- a list in which none is found
not_found : (p : Condition → Bool) (cs : List Condition) → option_map_or (λ (c : Condition). Some (Some c)) (find p cs) None ≡ None → (i : ℕ) (c : Condition) → slice_get cs i ≡ Some c → p c ≡ false
not_found p [] h i c e = absurd (cc)
not_found p (d ∷ cs) h i c e = by (p d) refl (λ q k f. not_found p cs q k c f) i e
  where
    by : (b : Bool) → p d ≡ b → (option_map_or (λ (x : Condition). Some (Some x)) (find p cs) None ≡ None → (k : ℕ) → slice_get cs k ≡ Some c → p c ≡ false) → (k : ℕ) → slice_get (d ∷ cs) k ≡ Some c → p c ≡ false
    by true q rest k f = absurd (none_is_some (Some d) (sym (rw q refl) ∙ h))
    by false q rest zero f = let same : d ≡ c = cc in ap p (sym same) ∙ q
    by false q rest (suc k) f = rest (sym (rw q refl) ∙ h) k f

pub conditions_are_light : (program : Program) → heavy program ≡ None → (i : ℕ) (c : Condition) → slice_get (conditions program) i ≡ Some c → weight program c ≤ weight_limit
conditions_are_light program h i c e = by (nat_lt weight_limit (initial_weight program)) refl
  where
    by : (b : Bool) → nat_lt weight_limit (initial_weight program) ≡ b → weight program c ≤ weight_limit
    by true q = absurd (none_is_some None (sym (rw q refl) ∙ h))
    by false q = ltb-false weight_limit (weight program c) (not_found (λ d. nat_lt weight_limit (weight program d)) (conditions program) (sym (rw q refl) ∙ h) i c e)
