-- What is violated with each marked value is violated with all.
use Rattle.std.specs.Option.{unwrap_or}
use Rattle.std.proofs.Common.{◌≡◌, ◌∙◌, Bool, true, false, if◌then◌else◌, List, [], ◌∷◌, ◌++◌, Option, None, Some, refl, sym, ap, append_assoc}
use Rattle.civl_bits.specs.declared.value.Value.{Value}
use Rattle.civl_conditions.specs.Violated.{violated}
use Rattle.civl_marks.specs.Others.{other_value}
use Rattle.civl_marks.specs.Marks.{marks_behind}
use Rattle.civl_marks.specs.Laws.{exchanged, StillViolated}

module _ (f : List Value → Bool) where
  moved : (before : List Value) (v : Value) (vs : List Value) → f ((before ++ v ∷ []) ++ vs) ≡ f (before ++ v ∷ vs)
  moved before v vs = ap f (append_assoc before (v ∷ []) vs)

  -- what stands in the place of one value, and what is said of the others then
  abbrev Step : List Value → Value → List Value → Option Value → Type 0
  Step before v vs mark =
      (f ((before ++ unwrap_or mark v ∷ []) ++ vs) ≡ true
      → f ((before ++ unwrap_or mark v ∷ []) ++ exchanged vs (marks_behind f (before ++ unwrap_or mark v ∷ []) vs)) ≡ true)
      → f (before ++ exchanged (v ∷ vs) (mark ∷ marks_behind f (before ++ unwrap_or mark v ∷ []) vs)) ≡ true

  step : (before : List Value) (v : Value) (vs : List Value) → f (before ++ v ∷ vs) ≡ true
      → (b : Bool) → f (before ++ other_value v ∷ vs) ≡ b → Step before v vs (if b then Some (other_value v) else None)
  step before v vs h true is = λ more.
      sym (moved before (other_value v) (exchanged vs (marks_behind f (before ++ other_value v ∷ []) vs)))
      ∙ more (moved before (other_value v) vs ∙ is)
  step before v vs h false is = λ more.
      sym (moved before v (exchanged vs (marks_behind f (before ++ v ∷ []) vs))) ∙ more (moved before v vs ∙ h)

  pub still : (rest before : List Value) → f (before ++ rest) ≡ true → f (before ++ exchanged rest (marks_behind f before rest)) ≡ true
  still [] before h = h
  still (v ∷ vs) before h = step before v vs h (f (before ++ other_value v ∷ vs)) refl (still vs _)

pub still_violated : StillViolated
still_violated program condition values h = still (violated program condition) values [] h
