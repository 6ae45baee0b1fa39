-- The conditions' tests as facts of a path's end.
use Rattle.std.proofs.Common.{ℕ, ◌≤◌, ◌≡◌, Bool, true, false, not, ◌&&◌, ◌||◌, List, ◌++◌, Option, Some, None, slice_get, nat_eq, sym, refl, ap, ◌∙◌}
use Rattle.std.specs.List.{Contains}
use Rattle.std.proofs.lemmas.Bool.{false≢true, eq-eqb, or_parts, not-false, and_parts}
use Rattle.civl_bits.specs.declared.value.Value.{Value}
use Rattle.civl_firing.specs.values.Operators.{two_value}
use Rattle.civl_firing.specs.values.Values.{is_true}
use Rattle.civl_tree.specs.declared.expr.Expr.{Expr}
use Rattle.civl_tree.specs.declared.expr.Two.TheVariants.{Lt}
use Rattle.civl_tree.specs.declared.action.Action.{Action}
use Rattle.civl_tree.specs.declared.program.Proc.{Proc}
use Rattle.civl_tree.specs.declared.program.Program.{Program}
use Rattle.civl_firing.specs.Eval.{value_of, values_of}
use Rattle.civl_firing.specs.Fired.{fires}
use Rattle.civl_meaning.specs.Permissions.{pairwise_disjoint}
use Rattle.civl_meaning.specs.Change.{outs_in}
use Rattle.civl_layers.specs.declared.cut.Cut.{Cut}
use Rattle.civl_layers.specs.Cuts.{proc_cuts}
use Rattle.civl_layers.specs.Layered.{IsLayered}
use Rattle.civl_conditions.specs.footprints.Agreement.{exists_at}
use Rattle.civl_conditions.specs.paths.NoteValues.{plain_note_values}
use Rattle.civl_conditions.specs.paths.Paths.{Progress, Outcome, progress_of, has_failed}
use Rattle.civl_conditions.specs.paths.Ends.{is_rank_loop, is_exit, ends_block, arrived}
use Rattle.civl_conditions.specs.declared.condition.Condition.TheVariants.{Path, Block}
use Rattle.civl_conditions.specs.declared.condition.Part.{Part}
use Rattle.civl_conditions.specs.declared.condition.Part.TheVariants.{Gate, Invariant, Once, Stutter, Perform, Rank}
use Rattle.civl_conditions.specs.declared.condition.Target.{Target}
use Rattle.civl_conditions.specs.Listed.{targets, conditions}
use Rattle.civl_conditions.specs.Values.{Begun, same_bool, same_values, same_stores}
use Rattle.civl_conditions.specs.Movers.{on_some}
use Rattle.civl_conditions.specs.Assumed.{cut_invariant, cut_rank, note_holds, refined_action, with_of, inputs_of, owned, assumed}
use Rattle.civl_conditions.specs.Parts.{outcome_of, at_end, end_values, part_fails}
use Rattle.civl_conditions.specs.Targets.{target_owned, target_lost}
use Rattle.civl_conditions.specs.Violated.{AllHold}
use Rattle.civl_condition_laws.specs.States.{PathsHoldOfStates, AreOthersOf}
use Rattle.civl_condition_laws.proofs.Holding.{paths_of_states}
use Rattle.civl_condition_laws.proofs.Nearby.{layer_within}
use Rattle.civl_reduction.specs.open_blocks.Ends.{IsAssumed, Arrives, Performs, Concludes, PathsDoNotFail, PathsConclude}
use Rattle.civl_reduction.proofs.open_blocks.Ends.Listing.{IsPlainPart, part_listed, rank_listed, block_listed}

-- ---- tests

-- of two tests that aren't both true the second isn't where the first is
and_second : (a b : Bool) → (a && b) ≡ false → a ≡ true → b ≡ false
and_second true b e h = e
and_second false b e h = absurd (false≢true h)

or_second : (a b : Bool) → (a || b) ≡ false → b ≡ false
or_second a b e = (or_parts a b e).1

some_test : {A : Type 0} (o : Option A) (x : A) (f : A → Bool) → on_some o f ≡ false → o ≡ Some x → f x ≡ false
some_test o x f e h = ap (λ o. on_some o f) (sym h) ∙ e

-- where there is nothing, the negation of a test of it isn't false
some_kept : {A : Type 0} (o : Option A) (f : A → Bool) → on_some o f ≡ true → (x : A) × (o ≡ Some x) × (f x ≡ true)
some_kept None f e = absurd (false≢true e)
some_kept (Some x) f e = (x, refl, e)

same_true : (a b : Bool) → a ≡ b → same_bool a b ≡ true
same_true true b e = sym e
same_true false b e = ap not (sym e)

module _ (program : Program) (step q c : ℕ) (proc : Proc) (cut : Cut) (b : Begun) (layered : IsLayered program) (hold : AllHold program) (is : IsAssumed program step q c proc cut b) where
  says : PathsHoldOfStates program
  says = paths_of_states program layered

  within : (1 ≤ step) × (step ≤ program.layers)
  within = layer_within program layered step q proc is.of_cut.of_proc

  abbrev outcome : Outcome
  outcome = outcome_of program step proc cut b

  listed_kept : (part : Part) → Contains (conditions program) (Path part step q c) → part_fails program step proc c cut b outcome part ≡ false
  listed_kept part listed =
      and_second (assumed program step proc c cut b) (part_fails program step proc c cut b outcome part) (says.paths part step q c proc cut b (hold (Path part step q c) listed) is.of_cut is.begun) is.holds

  part_kept : (part : Part) → IsPlainPart part → part_fails program step proc c cut b outcome part ≡ false
  part_kept part h = listed_kept part (part_listed program step q c proc cut is.of_cut within.0 within.1 part h)

  pub safe : has_failed outcome ≡ false
  safe = part_kept Gate tt

  module _ (end : ℕ) (p : Progress) (arrives : Arrives program step proc cut b end p) where
    at : (test : ℕ → Progress → Bool) → at_end proc outcome test ≡ false → test end p ≡ false
    at test e = ap (test end) (sym arrives.state) ∙ some_test (arrived proc outcome) end (λ n. test n (progress_of outcome)) e arrives.arrived_at

    at_block : (test : Progress → Bool) → at_end proc outcome (λ n p. ends_block proc n && test p) ≡ false → ends_block proc end ≡ true → test p ≡ false
    at_block test e h = and_second (ends_block proc end) (test p) (at (λ n p. ends_block proc n && test p) e) h

    invariant : (there : Cut) → slice_get (proc_cuts proc) end ≡ Some there → note_holds (end_values program proc b end p) (cut_invariant proc there) ≡ true
    invariant there e =
        not-false (note_holds (end_values program proc b end p) (cut_invariant proc there))
        (some_test (slice_get (proc_cuts proc) end) there _ (at (λ n p. on_some (slice_get (proc_cuts proc) n) (λ cut. not (note_holds (end_values program proc b n p) (cut_invariant proc cut)))) (part_kept Invariant tt)) e)

    once : p.again ≡ false
    once = ap (λ (p : Progress). p.again) (sym arrives.state) ∙ (or_parts (progress_of outcome).again (at_end proc outcome (λ n p. is_exit proc n && not p.done)) (part_kept Once tt)).0

    done : is_exit proc end ≡ true → p.done ≡ true
    done e =
        not-false p.done
        (and_second (is_exit proc end) (not p.done) (at (λ n p. is_exit proc n && not p.done) (or_parts (progress_of outcome).again (at_end proc outcome (λ n p. is_exit proc n && not p.done)) (part_kept Once tt)).1) e)

    stuttered : ends_block proc end ≡ true → p.done ≡ b.old_done → (not (same_stores (exists_at step) program p.store b.old) || (b.old_done && not (same_values (outs_in proc p.locals) b.old_outs))) ≡ false
    stuttered h e =
        and_second (same_bool p.done b.old_done) _
        (at_block (λ p. same_bool p.done b.old_done && (not (same_stores (exists_at step) program p.store b.old) || (b.old_done && not (same_values (outs_in proc p.locals) b.old_outs)))) (part_kept Stutter tt) h)
        (same_true p.done b.old_done e)

    stutter : ends_block proc end ≡ true → p.done ≡ b.old_done → same_stores (exists_at step) program p.store b.old ≡ true
    stutter h e = not-false (same_stores (exists_at step) program p.store b.old) (or_parts (not (same_stores (exists_at step) program p.store b.old)) _ (stuttered h e)).0

    outs : ends_block proc end ≡ true → p.done ≡ b.old_done → b.old_done ≡ true → same_values (outs_in proc p.locals) b.old_outs ≡ true
    outs h e d =
        not-false (same_values (outs_in proc p.locals) b.old_outs)
        (and_second b.old_done (not (same_values (outs_in proc p.locals) b.old_outs)) (or_parts (not (same_stores (exists_at step) program p.store b.old)) _ (stuttered h e)).1 d)

    abbrev withs : List Value
    withs = values_of (plain_note_values program.globals proc p.store p.locals) (with_of proc.refines)

    abbrev performs_by : Action → Bool
    performs_by a = on_some (fires program.globals b.old a (inputs_of proc b.locals) withs) (λ d. same_stores (exists_at step) program p.store d.0 && same_values (outs_in proc p.locals) d.1)

    performed : (a : Action) → ends_block proc end ≡ true → p.done ≡ true → b.old_done ≡ false → refined_action program proc ≡ Some a → performs_by a ≡ true
    performed a h d o e =
        let tested = at_block (λ p.
        p.done && (not b.old_done && on_some (refined_action program proc) (λ a.
        not (on_some (fires program.globals b.old a (inputs_of proc b.locals) (values_of (plain_note_values program.globals proc p.store p.locals) (with_of proc.refines))) (λ d. same_stores (exists_at step) program p.store d.0 && same_values (outs_in proc p.locals) d.1))))) (part_kept Perform tt) h in
        let second = and_second p.done (not b.old_done && on_some (refined_action program proc) (λ a. not (performs_by a))) tested d in
        let third = and_second (not b.old_done) (on_some (refined_action program proc) (λ a. not (performs_by a))) second (ap not o) in
        not-false (performs_by a) (some_test (refined_action program proc) a (λ a. not (performs_by a)) third e)

    perform : (a : Action) → ends_block proc end ≡ true → p.done ≡ true → b.old_done ≡ false → refined_action program proc ≡ Some a → Performs program step proc b p a
    perform a h d o e =
        let kept = some_kept (fires program.globals b.old a (inputs_of proc b.locals) withs) _ (performed a h d o e) in
        let both = and_parts (same_stores (exists_at step) program p.store kept.0.0) (same_values (outs_in proc p.locals) kept.0.1) kept.2 in
        record { after = kept.0; fires = kept.1; globals = both.0; outs = both.1 }

    abbrev falls : Expr → Bool
    falls r = is_true (two_value Lt (value_of (plain_note_values program.globals proc p.store p.locals) r) (value_of (plain_note_values program.globals proc b.store b.locals) r))

    rank : (r : Expr) → is_rank_loop cut.kind ≡ true → end ≡ c → cut_rank proc cut ≡ Some r → falls r ≡ true
    rank r h same e =
        let tested = at (λ n p. nat_eq n c && on_some (cut_rank proc cut) (λ r. not (is_true (two_value Lt (value_of (plain_note_values program.globals proc p.store p.locals) r) (value_of (plain_note_values program.globals proc b.store b.locals) r))))) (listed_kept Rank (rank_listed program step q c proc cut is.of_cut within.0 within.1 h)) in
        not-false (falls r) (some_test (cut_rank proc cut) r (λ r. not (falls r)) (and_second (nat_eq end c) (on_some (cut_rank proc cut) (λ r. not (falls r))) tested (eq-eqb end c same)) e)

    keeps : (target : Target) (others : List Value) → Contains (targets program step) target → AreOthersOf program target others → ends_block proc end ≡ true
        → pairwise_disjoint (owned program proc c b ++ target_owned program target others 0) ≡ true → target_lost program step target others 0 b.old p.store ≡ false
    keeps target others among of h apart =
        let says_block = says.blocks step q c proc cut b target others (hold (Block step q c target) (block_listed program step q c proc cut is.of_cut within.0 within.1 target among)) is.of_cut is.begun among of in
        let second = and_second (assumed program step proc c cut b) _ says_block is.holds in
        let third = and_second (pairwise_disjoint (owned program proc c b ++ target_owned program target others 0)) _ second apart in
        at_block (λ p. target_lost program step target others 0 b.old p.store) third h

    pub concluded : Concludes program step c proc cut b end p
    concluded = record { invariant = invariant; once = once; done = done; stutter = stutter; outs = outs; perform = perform; rank = rank; keeps = keeps }

pub paths_do_not_fail : PathsDoNotFail
paths_do_not_fail program step q c proc cut b layered hold is = safe program step q c proc cut b layered hold is

pub paths_conclude : PathsConclude
paths_conclude program step q c proc cut b end p layered hold is arrives = concluded program step q c proc cut b layered hold is end p arrives
