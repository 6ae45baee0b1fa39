-- Worked programs keep the static rules.
use Rattle.std.proofs.Common.{◌≡◌, ℕ, [], ◌∷◌, zero, suc, refl, Some, None, slice_get, true}
use Rattle.civl_tree.proofs.Layers.{layers}
use Rattle.civl_tree.specs.declared.program.Proc.{Proc}
use Rattle.civl_tree.specs.declared.program.Refines.{Refines}
use Rattle.civl_tree.specs.rules.Rules.{numbers_where, each_place, places_of, Keeps}
use Rattle.civl_tree.specs.rules.Typing.{typing_rules, signature_rule}
use Rattle.civl_meaning.specs.Layers.{lowest}
use Rattle.civl_meaning.specs.examples.Increments.{increments}
use Rattle.civl_soundness.specs.examples.Increments.{IncrementsArePlain}
use Rattle.civl_soundness.specs.examples.Putting.{put_choice, ChoiceIsPlain}

increments_keep : Keeps typing_rules increments
unfolding numbers_where each_place places_of
increments_keep = simp layers

increments_sign : Keeps (signature_rule ∷ []) increments
unfolding numbers_where each_place places_of
increments_sign = refl

-- one with `refines` is no root
no_root : (r : Refines) → Some r ≡ None → ⊥
no_root r e = cc

increments_roots : (number : ℕ) (proc : Proc) → slice_get increments.procs number ≡ Some proc → proc.refines ≡ None → slice_get (lowest increments).bodies number ≡ Some true
increments_roots zero proc at root = refl
increments_roots (suc zero) proc at root = refl
increments_roots (suc (suc zero)) proc at root = refl
increments_roots (suc (suc (suc n))) proc at root = absurd (cc)

pub increments_are_plain : IncrementsArePlain
increments_are_plain = record { rules = increments_keep; signatures = increments_sign; bodies = refl; roots = increments_roots }

putting_keeps : Keeps typing_rules put_choice
unfolding numbers_where each_place places_of
putting_keeps = simp layers

putting_signs : Keeps (signature_rule ∷ []) put_choice
unfolding numbers_where each_place places_of
putting_signs = refl

putting_roots : (number : ℕ) (proc : Proc) → slice_get put_choice.procs number ≡ Some proc → proc.refines ≡ None → slice_get (lowest put_choice).bodies number ≡ Some true
putting_roots zero proc at root = refl
putting_roots (suc n) proc at root = absurd (cc)

pub choice_is_plain : ChoiceIsPlain
choice_is_plain = record { rules = putting_keeps; signatures = putting_signs; bodies = refl; roots = putting_roots }
