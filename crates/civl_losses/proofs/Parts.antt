-- Each part's loss is told exactly where the part fails.
use Rattle.std.proofs.Common.{◌≡◌, ℕ, Bool, true, false, not, ◌&&◌, ◌||◌, nat_eq, List, [], Option, None, Some, refl, ap, ap₂, ◌∙◌, if◌then◌else◌, slice_get}
use Rattle.std.specs.Prelude.{is_some, option_and_then}
use Rattle.civl_bits.specs.declared.value.Value.{Value}
use Rattle.civl_tree.specs.declared.action.Action.{Action}
use Rattle.civl_tree.specs.declared.expr.Expr.{Expr}
use Rattle.civl_tree.specs.declared.expr.Two.TheVariants.{Lt}
use Rattle.civl_tree.specs.declared.program.Proc.{Proc}
use Rattle.civl_tree.specs.declared.program.Program.{Program}
use Rattle.civl_firing.specs.declared.store.Store.{Store}
use Rattle.civl_firing.specs.Fired.{fires}
use Rattle.civl_firing.specs.values.Operators.{two_value}
use Rattle.civl_firing.specs.values.Values.{is_true}
use Rattle.civl_meaning.specs.Change.{outs_in}
use Rattle.civl_layers.specs.declared.cut.Cut.{Cut}
use Rattle.civl_layers.specs.Cuts.{proc_cuts}
use Rattle.civl_conditions.specs.footprints.Agreement.{exists_at}
use Rattle.civl_conditions.specs.paths.Paths.{Course, Progress, Outcome, Past, Comes, Fails, Stops, progress_of, has_failed}
use Rattle.civl_conditions.specs.paths.Ends.{is_exit, cut_number, ends_block, arrived}
use Rattle.civl_conditions.specs.declared.condition.Part.{Part}
use Rattle.civl_conditions.specs.declared.condition.Part.TheVariants.{Gate, Invariant, Once, Stutter, Perform, Rank}
use Rattle.civl_conditions.specs.declared.condition.Target.{Target}
use Rattle.civl_conditions.specs.Movers.{on_some}
use Rattle.civl_conditions.specs.Values.{Begun, same_bool, same_values, same_stores}
use Rattle.civl_conditions.specs.Assumed.{cut_invariant, cut_rank, note_holds, refined_action, inputs_of}
use Rattle.civl_conditions.specs.Parts.{end_values, at_block_end, part_fails}
use Rattle.civl_conditions.specs.Targets.{target_lost}
use Rattle.civl_traces.specs.declared.walked.Passage.{Passage}
use Rattle.civl_traces.specs.Laws.{EndsSo}
use Rattle.civl_traces.specs.Told.{told, ending_of}
use Rattle.civl_traces.specs.Traces.{Trace}
use Rattle.civl_losses.specs.declared.loss.Loss.{Loss}
use Rattle.civl_losses.specs.declared.loss.Loss.TheVariants.{FalseNote, CommitAgain, NoCommit, Changes, ActionGives, RankStays, TargetLost}
use Rattle.civl_losses.specs.Losses.{course_of, is_none_left, where_any, globals_differ, outs_differ, arrival_by, arrival, is_failure, lost_at_block_end, note_lost, note_loss, again_at, once_loss, changes_lost, stutter_loss, chosen_behind, given, action_lost, perform_loss, rank_value, stays, rank_loss, part_loss, target_loss}
use Rattle.civl_losses.proofs.Told.{and_then_told, where_told, unless_told, when_told, either_told, any_told, globals_told, outs_told}

-- ---- tests

same_told : (loss gs os : Bool) → not (gs && (if loss then os else true)) ≡ (not gs || (loss && not os))
same_told true true true = refl
same_told true true false = refl
same_told true false os = refl
same_told false true os = refl
same_told false false os = refl

outs_if : (d : Bool) (vs ws : List Value) → is_none_left (if d then outs_differ 0 vs ws else []) ≡ (if d then same_values vs ws else true)
outs_if true vs ws = outs_told 0 vs ws
outs_if false vs ws = refl

pub both_and : (a b c : Bool) → ((a && b) && c) ≡ (a && (b && c))
both_and true b c = refl
both_and false b c = refl

-- ---- ends

-- a path that is told ends where it ends
pub arrival_is : (c : Course) (proc : Proc) (t : Trace) → EndsSo c t.at t.outcome → arrival proc (told t) ≡ arrived proc t.outcome
arrival_is c proc t e = by_outcome t.outcome t.at e
  where
    by_outcome : (o : Outcome) (at : ℕ) → EndsSo c at o → arrival_by proc at (ending_of o) ≡ arrived proc o
    by_outcome (Past p) at e = refl
    by_outcome (Comes n p) at e = ap (λ (k : ℕ). Some (cut_number proc k)) e
    by_outcome (Fails p) at e = refl
    by_outcome (Stops p) at e = refl

pub failure_is : (o : Outcome) → is_failure (ending_of o) ≡ has_failed o
failure_is (Past p) = refl
failure_is (Comes n p) = refl
failure_is (Fails p) = refl
failure_is (Stops p) = refl

module _ (proc : Proc) (end : Option ℕ) where
  block_end_told : (loss : Option Loss) (test : Bool) → is_some loss ≡ test → is_some (lost_at_block_end proc end loss) ≡ on_some end (λ e. ends_block proc e && test)
  block_end_told loss test h =
      and_then_told end (λ e. if ends_block proc e then loss else None) (λ e. ends_block proc e && test) (λ e. where_told (ends_block proc e) loss test h)

-- ---- the parts, of where the path ends and the state there

module _ (program : Program) (step : ℕ) (proc : Proc) (c : ℕ) (cut : Cut) (b : Begun) (end : Option ℕ) (p : Progress) where
  note_told : is_some (note_loss program proc b end p)
      ≡ on_some end (λ e. on_some (slice_get (proc_cuts proc) e) (λ k. not (note_holds (end_values program proc b e p) (cut_invariant proc k))))
  note_told =
      and_then_told end (λ e. option_and_then (note_lost program proc b e p) (slice_get (proc_cuts proc) e))
      (λ e. on_some (slice_get (proc_cuts proc) e) (λ k. not (note_holds (end_values program proc b e p) (cut_invariant proc k))))
      (λ e. and_then_told (slice_get (proc_cuts proc) e) (note_lost program proc b e p) (λ k. not (note_holds (end_values program proc b e p) (cut_invariant proc k)))
      (λ k. unless_told (note_holds (end_values program proc b e p) (cut_invariant proc k)) (FalseNote e)))

  once_told : (passed : List Passage) (at : ℕ) → is_some (once_loss proc passed at end p) ≡ (p.again || on_some end (λ e. is_exit proc e && not p.done))
  once_told passed at =
      let late : ℕ → Option Loss = λ e. if is_exit proc e && not p.done then Some NoCommit else None in
      either_told p.again (CommitAgain (again_at passed at)) (option_and_then late end)
      ∙ ap (λ (x : Bool). p.again || x) (and_then_told end late (λ e. is_exit proc e && not p.done) (λ e. when_told (is_exit proc e && not p.done) NoCommit))

  abbrev differs : Bool
  differs = not (same_stores (exists_at step) program p.store b.old) || (b.old_done && not (same_values (outs_in proc p.locals) b.old_outs))

  changes_told : is_some (changes_lost program step proc b p) ≡ (same_bool p.done b.old_done && differs)
  changes_told =
      let gs = globals_differ (exists_at step) 0 program.globals p.store.values b.old.values in
      let os = if b.old_done then outs_differ 0 (outs_in proc p.locals) b.old_outs else [] in
      where_told (same_bool p.done b.old_done) (where_any Changes gs os) differs
      (any_told Changes gs os
      ∙ ap₂ (λ (x y : Bool). not (x && y)) (globals_told (exists_at step) 0 program.globals p.store.values b.old.values) (outs_if b.old_done (outs_in proc p.locals) b.old_outs)
      ∙ same_told b.old_done (same_stores (exists_at step) program p.store b.old) (same_values (outs_in proc p.locals) b.old_outs))

  stutter_told : is_some (stutter_loss program step proc b end p) ≡ on_some end (λ e. ends_block proc e && (same_bool p.done b.old_done && differs))
  stutter_told = block_end_told proc end (changes_lost program step proc b p) (same_bool p.done b.old_done && differs) changes_told

  abbrev fired : Action → Option (Store × List Value)
  fired a = fires program.globals b.old a (inputs_of proc b.locals) (chosen_behind program proc p)

  abbrev agrees : Option (Store × List Value) → Bool
  agrees d = on_some d (λ e. same_stores (exists_at step) program p.store e.0 && same_values (outs_in proc p.locals) e.1)

  given_told : (d : Option (Store × List Value)) → is_some (given program step proc p d) ≡ not (agrees d)
  given_told None = refl
  given_told (Some e) =
      any_told ActionGives (globals_differ (exists_at step) 0 program.globals p.store.values e.0.values) (outs_differ 0 (outs_in proc p.locals) e.1)
      ∙ ap₂ (λ (x y : Bool). not (x && y)) (globals_told (exists_at step) 0 program.globals p.store.values e.0.values) (outs_told 0 (outs_in proc p.locals) e.1)

  abbrev performs : Bool
  performs = on_some (refined_action program proc) (λ a. not (agrees (fired a)))

  action_told : is_some (action_lost program step proc b p) ≡ (p.done && (not b.old_done && performs))
  action_told =
      where_told (p.done && not b.old_done) (option_and_then (λ a. given program step proc p (fired a)) (refined_action program proc)) performs
      (and_then_told (refined_action program proc) (λ a. given program step proc p (fired a)) (λ a. not (agrees (fired a))) (λ a. given_told (fired a)))
      ∙ both_and p.done (not b.old_done) performs

  perform_told : is_some (perform_loss program step proc b end p) ≡ on_some end (λ e. ends_block proc e && (p.done && (not b.old_done && performs)))
  perform_told = block_end_told proc end (action_lost program step proc b p) (p.done && (not b.old_done && performs)) action_told

  abbrev less : Expr → Bool
  less r = is_true (two_value Lt (rank_value program proc p.store p.locals r) (rank_value program proc b.store b.locals r))

  rank_told : is_some (rank_loss program proc c cut b end p) ≡ on_some end (λ e. nat_eq e c && on_some (cut_rank proc cut) (λ r. not (less r)))
  rank_told =
      let kept : Expr → Option Loss = λ r. stays (rank_value program proc b.store b.locals r) (rank_value program proc p.store p.locals r) in
      and_then_told end (λ e. if nat_eq e c then option_and_then kept (cut_rank proc cut) else None) (λ e. nat_eq e c && on_some (cut_rank proc cut) (λ r. not (less r)))
      (λ e. where_told (nat_eq e c) (option_and_then kept (cut_rank proc cut)) (on_some (cut_rank proc cut) (λ r. not (less r)))
      (and_then_told (cut_rank proc cut) kept (λ r. not (less r)) (λ r. unless_told (less r) (RankStays (rank_value program proc b.store b.locals r) (rank_value program proc p.store p.locals r)))))

-- ---- of a trace

module _ (program : Program) (step : ℕ) (proc : Proc) (c : ℕ) (cut : Cut) (b : Begun) (t : Trace) (e : EndsSo (course_of program step proc b) t.at t.outcome) where
  there : arrival proc (told t) ≡ arrived proc t.outcome
  there = arrival_is (course_of program step proc b) proc t e

  pub part_told : (part : Part) → is_some (part_loss program step proc c cut b (told t) part) ≡ part_fails program step proc c cut b t.outcome part
  part_told Gate = when_told (is_failure (ending_of t.outcome)) _ ∙ failure_is t.outcome
  part_told Invariant = ap (λ (o : Option ℕ). is_some (note_loss program proc b o (progress_of t.outcome))) there ∙ note_told program step proc c cut b (arrived proc t.outcome) (progress_of t.outcome)
  part_told Once =
      ap (λ (o : Option ℕ). is_some (once_loss proc (told t).passed t.at o (progress_of t.outcome))) there
      ∙ once_told program step proc c cut b (arrived proc t.outcome) (progress_of t.outcome) (told t).passed t.at
  part_told Stutter = ap (λ (o : Option ℕ). is_some (stutter_loss program step proc b o (progress_of t.outcome))) there ∙ stutter_told program step proc c cut b (arrived proc t.outcome) (progress_of t.outcome)
  part_told Perform = ap (λ (o : Option ℕ). is_some (perform_loss program step proc b o (progress_of t.outcome))) there ∙ perform_told program step proc c cut b (arrived proc t.outcome) (progress_of t.outcome)
  part_told Rank = ap (λ (o : Option ℕ). is_some (rank_loss program proc c cut b o (progress_of t.outcome))) there ∙ rank_told program step proc c cut b (arrived proc t.outcome) (progress_of t.outcome)

  pub target_told : (target : Target) (values : List Value) (first : ℕ)
      → is_some (target_loss program step proc b (told t) target values first) ≡ at_block_end proc t.outcome (λ p. target_lost program step target values first b.old p.store)
  target_told target values first =
      let lost = target_lost program step target values first b.old (progress_of t.outcome).store in
      ap (λ (o : Option ℕ). is_some (lost_at_block_end proc o (if lost then Some TargetLost else None))) there
      ∙ block_end_told proc (arrived proc t.outcome) (if lost then Some TargetLost else None) lost (when_told lost TargetLost)
