-- What differs between two lists of values.
use Rattle.std.proofs.Common.{◌≡◌, ℕ, zero, suc, ◌+◌, Bool, true, false, List, [], ◌∷◌, ◌++◌, length, refl, sym, ap, ◌∙◌, subst, Some, arith, append_assoc}
use Rattle.std.specs.Prelude.{if◌then◌else◌, slice_get, slice_set, IsTrue, ◌≢◌}
use Rattle.std.proofs.lemmas.Option.{none-some, same_Some}
use Rattle.std.proofs.lemmas.List.{length-append}
use Rattle.civl_bits.specs.declared.value.Value.{Value}
use Rattle.civl_bits.specs.Value.{same_value}
use Rattle.civl_bits.specs.ValueLaws.{SameValueIsEquality}
use Rattle.civl_history.specs.declared.changes.Changed.{Changed}
use Rattle.civl_history.specs.History.{changes_from}
use Rattle.civl_history.specs.Laws.{written, ChangesLead, ChangesDiffer}

-- a value behind others is replaced
set_seam : (front : List Value) (old new : Value) (rest : List Value) → slice_set (front ++ old ∷ rest) (length front) new ≡ front ++ new ∷ rest
set_seam [] old new rest = refl
set_seam (v ∷ front) old new rest = ap (λ (vs : List Value). v ∷ vs) (set_seam front old new rest)

module _ (same : SameValueIsEquality) where
  -- behind values that are alike already
  leads : (place : ℕ) (front befores afters : List Value) → length front ≡ place → length befores ≡ length afters → written (changes_from place befores afters) (front ++ befores) ≡ front ++ afters
  leads place front [] [] p l = refl
  leads place front [] (after ∷ afters) p l = absurd (omega arith)
  leads place front (before ∷ befores) [] p l = absurd (omega arith)
  leads place front (before ∷ befores) (after ∷ afters) p l = by (same_value before after) refl (leads (place + 1) (front ++ after ∷ []) befores afters (omega (arith, length-append front (after ∷ []))) (omega arith))
    where
      rest : List Changed
      rest = changes_from (place + 1) befores afters

      one : Changed
      one = record { place = place; before = before; after = after }

      next : written rest ((front ++ after ∷ []) ++ befores) ≡ (front ++ after ∷ []) ++ afters → written rest (front ++ after ∷ befores) ≡ front ++ after ∷ afters
      next h = ap (written rest) (sym (append_assoc front (after ∷ []) befores)) ∙ h ∙ append_assoc front (after ∷ []) afters

      by : (b : Bool) → same_value before after ≡ b → written rest ((front ++ after ∷ []) ++ befores) ≡ (front ++ after ∷ []) ++ afters → written ((if b then [] else one ∷ []) ++ rest) (front ++ before ∷ befores) ≡ front ++ after ∷ afters
      by true e h = ap (λ (v : Value). written rest (front ++ v ∷ befores)) ((same before after).0 e) ∙ next h
      by false e h =
          let set : slice_set (front ++ before ∷ befores) place after ≡ front ++ after ∷ befores
          = ap (λ (n : ℕ). slice_set (front ++ before ∷ befores) n after) (sym p) ∙ set_seam front before after befores in
          ap (written rest) set ∙ next h

  pub changes_lead : ChangesLead
  changes_lead before after l = leads 0 [] before after refl l

  -- a change among those from a place on
  record Differs (place : ℕ) (befores afters : List Value) (changed : Changed) : Type 0 where
    at : ℕ
    there : changed.place ≡ place + at
    before : slice_get befores at ≡ Some changed.before
    after : slice_get afters at ≡ Some changed.after
    other : changed.before ≢ changed.after

  differ : (place : ℕ) (befores afters : List Value) (number : ℕ) (changed : Changed) → slice_get (changes_from place befores afters) number ≡ Some changed → Differs place befores afters changed
  differ place [] afters number changed e = absurd (none-some changed e)
  differ place (before ∷ befores) [] number changed e = absurd (none-some changed e)
  differ place (before ∷ befores) (after ∷ afters) number changed e = by (differ (place + 1) befores afters) (same_value before after) refl number e
    where
      rest : List Changed
      rest = changes_from (place + 1) befores afters

      one : Changed
      one = record { place = place; before = before; after = after }

      later : Differs (place + 1) befores afters changed → Differs place (before ∷ befores) (after ∷ afters) changed
      later h = record { at = suc h.at; there = omega (arith, h.there); before = h.before; after = h.after; other = h.other }

      first : same_value before after ≡ false → Differs place (before ∷ befores) (after ∷ afters) one
      first e = record { at = 0; there = omega arith; before = refl; after = refl; other = λ h. not_same ((same before after).1 h) }
        where
          not_same : IsTrue (same_value before after) → ⊥
          not_same t = absurd (cc)

      by : ((number : ℕ) (changed : Changed) → slice_get rest number ≡ Some changed → Differs (place + 1) befores afters changed) → (b : Bool) → same_value before after ≡ b → (number : ℕ) → slice_get ((if b then [] else one ∷ []) ++ rest) number ≡ Some changed →
          Differs place (before ∷ befores) (after ∷ afters) changed
      by more true s number e = later (more number changed e)
      by more false s zero e = subst (Differs place (before ∷ befores) (after ∷ afters)) (same_Some one changed e) (first s)
      by more false s (suc number) e = later (more number changed e)

  pub changes_differ : ChangesDiffer
  changes_differ before after number changed e =
      let d = differ 0 before after number changed e in
      let at : d.at ≡ changed.place = omega (arith, d.there) in
      (subst (λ (n : ℕ). slice_get before n ≡ Some changed.before) at d.before, subst (λ (n : ℕ). slice_get after n ≡ Some changed.after) at d.after, d.other)
