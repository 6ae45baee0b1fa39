-- A note of an outline is a bool of the globals and of its procedure's names, and what its term says.
use Rattle.std.specs.Prelude.{slice_get}
use Rattle.std.specs.Option.{option_map_or}
use Rattle.std.proofs.Common.{◌≡◌, ◌∙◌, ℕ, true, List, sym, ap, ap₂, Option, Some, None}
use Rattle.civl_bits.specs.declared.value.Value.{Value}
use Rattle.civl_tree.specs.declared.program.Proc.{Proc}
use Rattle.civl_tree.specs.declared.program.Program.{Program}
use Rattle.civl_firing.specs.declared.store.Store.{Store}
use Rattle.civl_terms.specs.declared.node.Node.{Node}
use Rattle.civl_terms.specs.Building.{Grows}
use Rattle.civl_actions.specs.Actions.{values_at, store_at}
use Rattle.civl_conditions.specs.paths.NoteValues.{plain_note_values}
use Rattle.civl_conditions.specs.Invariants.{holds_in}
use Rattle.civl_conditions.specs.Weights.{note_weight}
use Rattle.civl_states.specs.formula_parts.Said.{IsTest}
use Rattle.civl_states.proofs.formula_parts.Saying.{test_where, test_as}
use Rattle.civl_states.proofs.Variables.{there_is}
use Rattle.civl_outlines.specs.declared.outline.Note.{Note}
use Rattle.civl_outlines.specs.declared.outline.Outline.{Outline}
use Rattle.civl_goals.specs.Outlines.{written_before, note_holds}
use Rattle.civl_goals.specs.Weights.{note_before_weight}
use Rattle.civl_goal_terms.specs.inner.Told.{frame, TellsNote}

module _ (program : Program) (outline : Outline) (r s : ℕ) (proc : Proc) (there : slice_get program.procs r ≡ Some proc) where
  -- whether the note that is written there holds
  note_by : (g : Store) (l : List Value) (written : Option Note) → written ≡ written_before program outline r s
      → option_map_or (λ note. holds_in (plain_note_values program.globals proc g l) note.expr) written true ≡ note_holds program outline g (frame r s l)
  note_by g l written e =
      ap (λ (w : Option Note). option_map_or (λ note. holds_in (plain_note_values program.globals proc g l) note.expr) w true) e
      ∙ sym (there_is (slice_get program.procs r) proc true (λ (q : Proc). option_map_or (λ note. holds_in (plain_note_values program.globals q g l) note.expr) (written_before program outline r s) true) there)

  -- and what it weighs
  pub weight_of_note : (written : Option Note) → written ≡ written_before program outline r s
      → option_map_or (λ note. note_weight program proc note.expr) written 1 ≡ note_before_weight program outline r s
  weight_of_note written e =
      ap (λ (w : Option Note). option_map_or (λ note. note_weight program proc note.expr) w 1) e
      ∙ sym (there_is (slice_get program.procs r) proc 1 (λ (q : Proc). option_map_or (λ note. note_weight program q note.expr) (written_before program outline r s) 1) there)

  -- the term of the note that is written
  pub written_told : (old new : List Node) (globals locals : List ℕ) (note : Note) (id : ℕ) → Some note ≡ written_before program outline r s → Grows old new
      → IsTest new id (λ env. holds_in (plain_note_values program.globals proc (store_at env old globals) (values_at env old locals)) note.expr) → TellsNote old new program outline r proc s globals locals id
  written_told old new globals locals note id e grows test = λ g l are said.
      test_where new id (λ env. holds_in (plain_note_values program.globals proc (store_at env old globals) (values_at env old locals)) note.expr) (λ env. note_holds program outline (g env) (frame r s (l env)))
      (λ env fits.
      ap₂ (λ (vs ls : List Value). holds_in (plain_note_values program.globals proc (record { values = vs }) ls) note.expr) (are.are env (grows.fits env fits)) (said.are env (grows.fits env fits))
      ∙ note_by (g env) (l env) (Some note) e) test

  -- where none is, it is true
  pub none_told : (old new : List Node) (globals locals : List ℕ) (id : ℕ) → None ≡ written_before program outline r s → IsTest new id (λ env. true) → TellsNote old new program outline r proc s globals locals id
  none_told old new globals locals id e test = λ g l are said.
      test_as new id (λ env. true) (λ env. note_holds program outline (g env) (frame r s (l env))) (λ env. note_by (g env) (l env) None e) test
