-- What is lost on a path: by what values violate a condition K9 or K10 (refinement by blocks between yields: Hawblitzel, Petrank,
-- Qadeer, Tasiran, CAV 2015; Kragl, Qadeer, CAV 2018. Ranks: Floyd, 1967. Interference freedom: Owicki and Gries, 1976). The
-- conditions themselves stand in civl_conditions, and each loss here is told where its part of them fails.
use Rattle.std.specs.Prelude.{ℕ, ◌+◌, ◌-◌, Bool, true, false, not, ◌&&◌, nat_eq, if◌then◌else◌, List}
use Rattle.std.specs.Prelude.{[], ◌∷◌, ◌++◌, map, slice_get, Option, None, Some, option_and_then}
use Rattle.std.specs.Option.{option_map_or}
use Rattle.civl_bits.specs.declared.value.Value.{Value}
use Rattle.civl_bits.specs.Value.{same_value}
use Rattle.civl_tree.specs.declared.stmt.Stmt.{Stmt, out-Stmt}
use Rattle.civl_tree.specs.declared.stmt.Stmt.TheOpen as stmt
use Rattle.civl_tree.specs.declared.expr.Expr.{Expr}
use Rattle.civl_tree.specs.declared.expr.Two.TheVariants.{Lt}
use Rattle.civl_tree.specs.declared.program.Global.{Global}
use Rattle.civl_tree.specs.declared.program.Proc.{Proc}
use Rattle.civl_tree.specs.declared.program.Program.{Program}
use Rattle.civl_tree.specs.Numbering.{statement_at}
use Rattle.civl_firing.specs.declared.store.Store.{Store}
use Rattle.civl_firing.specs.Truth.{place_of}
use Rattle.civl_firing.specs.Eval.{value_of, values_of}
use Rattle.civl_firing.specs.Scope.{frame_values}
use Rattle.civl_firing.specs.Fired.{fires}
use Rattle.civl_firing.specs.values.Operators.{nothing, two_value}
use Rattle.civl_firing.specs.values.Values.{is_true}
use Rattle.civl_meaning.specs.Meaning.{called}
use Rattle.civl_meaning.specs.Change.{outs_in}
use Rattle.civl_meaning.specs.Layers.{program_at}
use Rattle.civl_layers.specs.declared.cut.Cut.{Cut}
use Rattle.civl_layers.specs.Cuts.{proc_cuts}
use Rattle.civl_conditions.specs.footprints.Agreement.{exists_at}
use Rattle.civl_conditions.specs.paths.NoteValues.{plain_note_values}
use Rattle.civl_conditions.specs.paths.Choices.{action_meant}
use Rattle.civl_conditions.specs.paths.Paths.{Course, Progress}
use Rattle.civl_conditions.specs.paths.Ends.{is_exit, exit_of, cut_number, ends_block}
use Rattle.civl_conditions.specs.declared.condition.Part.{Part}
use Rattle.civl_conditions.specs.declared.condition.Part.TheVariants.{Gate, Invariant, Once, Stutter, Perform, Rank}
use Rattle.civl_conditions.specs.declared.condition.Target.{Target}
use Rattle.civl_conditions.specs.declared.condition.Condition.{Condition}
use Rattle.civl_conditions.specs.declared.condition.Condition.TheVariants as condition
use Rattle.civl_conditions.specs.Steps.{of_cut}
use Rattle.civl_conditions.specs.Values.{Begun, same_bool, begun, layout}
use Rattle.civl_conditions.specs.Assumed.{cut_invariant, cut_rank, note_holds, refined_action, with_of, inputs_of, assumed, owned}
use Rattle.civl_conditions.specs.Parts.{end_values}
use Rattle.civl_conditions.specs.Targets.{target_lost, target_owned}
use Rattle.civl_meaning.specs.Permissions.{pairwise_disjoint}
use Rattle.civl_traces.specs.declared.walked.Changed.{Changed}
use Rattle.civl_traces.specs.declared.walked.Ending.{Ending}
use Rattle.civl_traces.specs.declared.walked.Ending.TheVariants as ending
use Rattle.civl_traces.specs.declared.walked.Passage.{Passage}
use Rattle.civl_traces.specs.declared.walked.Walked.{Walked}
use Rattle.civl_traces.specs.Told.{progress, told}
use Rattle.civl_traces.specs.Traces.{trace_from}
use Rattle.civl_losses.specs.declared.loss.Loss.{Loss}
use Rattle.civl_losses.specs.declared.loss.Loss.TheVariants.{FalseGate, FalseAssert, FalseNote, CommitAgain, NoCommit, Changes}
use Rattle.civl_losses.specs.declared.loss.Loss.TheVariants.{ActionWaits, ActionGives, RankStays, TargetLost}

-- the path from a cut, in the lower program of a step, told statement by statement
abbrev pub course_of : Program → ℕ → Proc → Begun → Course
course_of program step proc b = record { plain = program_at program (step - 1); proc = proc; chosen = b.chosen }

abbrev pub walked_of : Program → ℕ → Proc → Cut → Begun → Walked
walked_of program step proc cut b =
    told (trace_from (course_of program step proc b) cut (record { store = b.store; locals = b.locals; done = b.done; again = false }))

-- ---- what differs

-- two values of a place, what it is after and what it was before, if they differ
abbrev pub differ : ℕ → Value → Value → List Changed
differ at v w = if same_value v w then [] else record { place = at; before = w; after = v } ∷ []

-- the globals that pass the test and have one value after and another before; the first of these globals has this number
abbrev pub globals_differ : (Global → Bool) → ℕ → List Global → List Value → List Value → List Changed
globals_differ test at [] vs ws = []
globals_differ test at (g ∷ gs) [] ws = []
globals_differ test at (g ∷ gs) (v ∷ vs) [] = []
globals_differ test at (g ∷ gs) (v ∷ vs) (w ∷ ws) = (if test g then differ at v w else []) ++ globals_differ test (at + 1) gs vs ws

-- the outputs that have one value after and another before, the first having this place; where one of the lists has no value more,
-- its value is that of nothing
abbrev pub outs_differ : ℕ → List Value → List Value → List Changed
outs_differ at [] [] = []
outs_differ at [] (w ∷ ws) = record { place = at; before = w; after = nothing } ∷ outs_differ (at + 1) [] ws
outs_differ at (v ∷ vs) [] = record { place = at; before = nothing; after = v } ∷ outs_differ (at + 1) vs []
outs_differ at (v ∷ vs) (w ∷ ws) = differ at v w ++ outs_differ (at + 1) vs ws

abbrev pub is_none_left : List Changed → Bool
is_none_left [] = true
is_none_left (c ∷ cs) = false

-- a loss of these, if there are any
abbrev pub where_any : (List Changed → List Changed → Loss) → List Changed → List Changed → Option Loss
where_any loss gs os = if is_none_left gs && is_none_left os then None else Some (loss gs os)

-- ---- where a path ends

abbrev pub arrival_by : Proc → ℕ → Ending → Option ℕ
arrival_by proc at ending.Past = Some (exit_of proc)
arrival_by proc at ending.Comes = Some (cut_number proc at)
arrival_by proc at ending.Fails = None
arrival_by proc at ending.Stops = None

-- where it ends, if it does: the number of a cut, or that of the exit
abbrev pub arrival : Proc → Walked → Option ℕ
arrival proc w = arrival_by proc w.at w.ending

abbrev pub is_failure : Ending → Bool
is_failure ending.Fails = true
is_failure _ = false

-- what is lost where a block ends
abbrev pub lost_at_block_end : Proc → Option ℕ → Option Loss → Option Loss
lost_at_block_end proc end loss = option_and_then (λ e. if ends_block proc e then loss else None) end

-- ---- the parts, of where the path ends, if it does, and of the state there

-- gate: the statement fails
abbrev pub layer_fails : Course → Progress → stmt.Stmt-F Stmt → Loss
layer_fails c p (stmt.Call f es rs) =
    option_map_or (λ a. FalseGate (place_of (map (λ a. a.name) c.plain.program.actions) a.name)
    (values_of (frame_values c.plain.program.globals c.proc p.locals) es))
    (action_meant (called c.plain f)) FalseAssert
layer_fails c p _ = FalseAssert

abbrev pub gate_loss : Course → ℕ → Bool → Progress → Option Loss
gate_loss c at failed p =
    if failed then Some (option_map_or (λ s. layer_fails c p (out-Stmt s)) (statement_at c.proc.body at) FalseAssert) else None

-- invariant: what the cut says at which the path ends
abbrev pub note_lost : Program → Proc → Begun → ℕ → Progress → Cut → Option Loss
note_lost program proc b end p cut =
    if note_holds (end_values program proc b end p) (cut_invariant proc cut) then None else Some (FalseNote end)

abbrev pub note_loss : Program → Proc → Begun → Option ℕ → Progress → Option Loss
note_loss program proc b end p = option_and_then (λ e. option_and_then (note_lost program proc b e p) (slice_get (proc_cuts proc) e)) end

-- once: the first commit that is passed where `done` is true; or the exit without one
abbrev pub again_at : List Passage → ℕ → ℕ
again_at [] at = at
again_at (q ∷ qs) at = if q.again then q.statement else again_at qs at

abbrev pub once_loss : Proc → List Passage → ℕ → Option ℕ → Progress → Option Loss
once_loss proc passed at end p =
    if p.again then Some (CommitAgain (again_at passed at))
    else option_and_then (λ e. if is_exit proc e && not p.done then Some NoCommit else None) end

-- stutter
abbrev pub changes_lost : Program → ℕ → Proc → Begun → Progress → Option Loss
changes_lost program step proc b p =
    if same_bool p.done b.old_done
    then where_any Changes (globals_differ (exists_at step) 0 program.globals p.store.values b.old.values)
    (if b.old_done then outs_differ 0 (outs_in proc p.locals) b.old_outs else [])
    else None

abbrev pub stutter_loss : Program → ℕ → Proc → Begun → Option ℕ → Progress → Option Loss
stutter_loss program step proc b end p = lost_at_block_end proc end (changes_lost program step proc b p)

-- perform: the refined action from the old globals, with the present values behind `with` for its choices
abbrev pub chosen_behind : Program → Proc → Progress → List Value
chosen_behind program proc p = values_of (plain_note_values program.globals proc p.store p.locals) (with_of proc.refines)

abbrev pub given : Program → ℕ → Proc → Progress → Option (Store × List Value) → Option Loss
given program step proc p None = Some (ActionWaits (chosen_behind program proc p))
given program step proc p (Some d) =
    where_any ActionGives (globals_differ (exists_at step) 0 program.globals p.store.values d.0.values)
    (outs_differ 0 (outs_in proc p.locals) d.1)

abbrev pub action_lost : Program → ℕ → Proc → Begun → Progress → Option Loss
action_lost program step proc b p =
    if p.done && not b.old_done
    then option_and_then (λ a. given program step proc p (fires program.globals b.old a (inputs_of proc b.locals)
    (chosen_behind program proc p))) (refined_action program proc)
    else None

abbrev pub perform_loss : Program → ℕ → Proc → Begun → Option ℕ → Progress → Option Loss
perform_loss program step proc b end p = lost_at_block_end proc end (action_lost program step proc b p)

-- rank
abbrev pub rank_value : Program → Proc → Store → List Value → Expr → Value
rank_value program proc store locals r = value_of (plain_note_values program.globals proc store locals) r

abbrev pub stays : Value → Value → Option Loss
stays before after = if is_true (two_value Lt after before) then None else Some (RankStays before after)

abbrev pub rank_loss : Program → Proc → ℕ → Cut → Begun → Option ℕ → Progress → Option Loss
rank_loss program proc c cut b end p =
    option_and_then (λ e.
    if nat_eq e c
    then option_and_then (λ r. stays (rank_value program proc b.store b.locals r) (rank_value program proc p.store p.locals r))
    (cut_rank proc cut)
    else None) end

abbrev pub part_loss : Program → ℕ → Proc → ℕ → Cut → Begun → Walked → Part → Option Loss
part_loss program step proc c cut b w Gate = gate_loss (course_of program step proc b) w.at (is_failure w.ending) (progress w.end)
part_loss program step proc c cut b w Invariant = note_loss program proc b (arrival proc w) (progress w.end)
part_loss program step proc c cut b w Once = once_loss proc w.passed w.at (arrival proc w) (progress w.end)
part_loss program step proc c cut b w Stutter = stutter_loss program step proc b (arrival proc w) (progress w.end)
part_loss program step proc c cut b w Perform = perform_loss program step proc b (arrival proc w) (progress w.end)
part_loss program step proc c cut b w Rank = rank_loss program proc c cut b (arrival proc w) (progress w.end)

-- K10: the target, where a block ends
abbrev pub target_loss : Program → ℕ → Proc → Begun → Walked → Target → List Value → ℕ → Option Loss
target_loss program step proc b w target values at =
    lost_at_block_end proc (arrival proc w) (if target_lost program step target values at b.old w.end.store then Some TargetLost else None)

-- ---- conditions

-- what is lost, where what is assumed holds
abbrev pub where_assumed : Bool → Option Loss → Option Loss
where_assumed assumed loss = if assumed then loss else None

-- K9
abbrev pub path_loss : Program → ℕ → Part → Proc → ℕ → Cut → Begun → Option Loss
path_loss program step part proc c cut b =
    where_assumed (assumed program step proc c cut b) (part_loss program step proc c cut b (walked_of program step proc cut b) part)

-- K10
abbrev pub block_loss : Program → ℕ → Proc → ℕ → Cut → Begun → Target → List Value → ℕ → Option Loss
block_loss program step proc c cut b target values at =
    where_assumed (assumed program step proc c cut b && pairwise_disjoint (owned program proc c b ++ target_owned program target values at))
    (target_loss program step proc b (walked_of program step proc cut b) target values at)

-- what is lost by the values, one for each variable of the condition in their order; nothing where they don't violate it, and for a
-- condition on actions
unfoldable pub loss : Program → Condition → List Value → Option Loss
loss program (condition.Path part step q c) values =
    of_cut program q c None (λ proc cut. path_loss program step part proc c cut (begun program step proc cut values))
loss program (condition.Block step q c target) values =
    of_cut program q c None (λ proc cut. block_loss program step proc c cut (begun program step proc cut values) target values
    (layout program step proc cut).behind)
loss program _ values = None
