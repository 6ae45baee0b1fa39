-- What a condition assumes with values, one thing after the other, and when each of these is so (assumptions of proof obligations: the
-- invariants and interference freedom of Owicki and Gries, 1976; gates of actions: CAV 2015; linear permissions: CAV 2018).
use Rattle.std.specs.Prelude.{ℕ, ◌+◌, ◌-◌, Bool, true, false, not, nat_eq, nat_lt, if◌then◌else◌, List, [], ◌∷◌, ◌++◌, length, map, codes}
use Rattle.std.specs.Prelude.{Option, slice_get}
use Rattle.std.specs.Option.{option_map_or}
use Rattle.civl_bits.specs.declared.value.Value.{Value}
use Rattle.civl_tree.specs.declared.program.Invariant.{Invariant as Declared}
use Rattle.civl_tree.specs.declared.program.Proc.{Proc}
use Rattle.civl_tree.specs.declared.program.Program.{Program}
use Rattle.civl_tree.specs.Numbering.{init_item, action_item, proc_item}
use Rattle.civl_firing.specs.declared.store.Store.{Store}
use Rattle.civl_firing.specs.declared.scope.Scope.{Scope}
use Rattle.civl_firing.specs.Fired.{gate_holds}
use Rattle.civl_firing.specs.Truth.{place_of}
use Rattle.civl_meaning.specs.Initial.{initial_permissions}
use Rattle.civl_meaning.specs.Permissions.{pairwise_disjoint}
use Rattle.civl_layers.specs.declared.cut.Cut.{Cut}
use Rattle.civl_conditions.specs.declared.condition.Condition.{Condition}
use Rattle.civl_conditions.specs.declared.condition.Condition.TheVariants.{Start, Keep, Pair, Fire, Path, Block, Act}
use Rattle.civl_conditions.specs.declared.condition.Target.{Target}
use Rattle.civl_conditions.specs.declared.condition.Target.TheVariants as target
use Rattle.civl_conditions.specs.footprints.Agreement.{exists_at}
use Rattle.civl_conditions.specs.paths.Ends.{is_entry}
use Rattle.civl_conditions.specs.paths.NoteValues.{note_values, steady_note_values}
use Rattle.civl_conditions.specs.paths.Seen.{exists_near}
use Rattle.civl_conditions.specs.Assumed.{cut_invariant, inputs_of, note_holds, owned}
use Rattle.civl_conditions.specs.Invariants.{holds_of_globals}
use Rattle.civl_conditions.specs.Permissions.{held_at, in_store, of_inputs}
use Rattle.civl_conditions.specs.Steps.{each_at, of_action, of_proc, of_cut}
use Rattle.civl_conditions.specs.Targets.{other_of, target_owned}
use Rattle.civl_conditions.specs.Values.{Begun, Invoked, begun, count_of, instance_count, invoked, layout, store_of}
use Rattle.civl_assumptions.specs.Names.{at_start, of_globals, of_numbers, of_params, of_target}

-- ---- one thing that is assumed

pub data Assumption : Type 0 where
  -- `init` in a store
  Init : Store → Assumption
  -- the invariant with this place among all of them, in a store
  Invariant : ℕ → Store → Assumption
  -- what this cut of the procedure with this number says, whose names stand for this
  Said : ℕ → Cut → Scope → Assumption
  -- the same of another thread
  SaidElsewhere : ℕ → Cut → Scope → Assumption
  -- the gate of the action with this number, with these inputs in a store
  Gate : ℕ → Store → List Value → Assumption
  -- that it is false
  NoGate : ℕ → Store → List Value → Assumption
  -- what these names carry is apart: of the item with this number, whose first so many words name it
  Apart : ℕ → ℕ → List (List ℕ) → List (List ℕ) → Assumption

-- whether it is so; nothing is of what the program doesn't have
abbrev pub holds : Program → Assumption → Bool
holds program (Init g) = holds_of_globals program g program.init
holds program (Invariant place g) = option_map_or (λ i. holds_of_globals program g i.expr) (slice_get program.invariants place) false
holds program (Said q cut scope) = of_proc program q false (λ proc. note_holds scope (cut_invariant proc cut))
holds program (SaidElsewhere r cut scope) = of_proc program r false (λ proc. note_holds scope (cut_invariant proc cut))
holds program (Gate m g inputs) = of_action program m false (λ a. gate_holds program.globals g a inputs)
holds program (NoGate m g inputs) = of_action program m false (λ a. not (gate_holds program.globals g a inputs))
holds program (Apart item words names lists) = pairwise_disjoint lists

-- ---- pieces of lists

-- the invariants of the step, in a store
abbrev pub if_of_step : ℕ → Store → ℕ → Declared → List Assumption
if_of_step step g place i = if nat_eq i.step step then Invariant place g ∷ [] else []

abbrev pub of_invariants : Program → ℕ → Store → List Assumption
of_invariants program step g = each_at (if_of_step step g) 0 program.invariants

-- what these names carry is apart; nothing is said of less than two
abbrev pub apart_of : ℕ → ℕ → List (List ℕ) → List (List ℕ) → List Assumption
apart_of item words names lists = if nat_lt (length names) 2 then [] else Apart item words names lists ∷ []

-- what another thread's yield says in a store, of the frame whose values stand from a place on; no invariant of a step is assumed
abbrev pub said_by_other : Program → ℕ → List Value → ℕ → Store → Proc → Cut → List Assumption
said_by_other program r values at g proc cut =
    let other = other_of proc values at in
    if is_entry cut.kind then [] else SaidElsewhere r cut (steady_note_values program.globals proc g other.locals other.done) ∷ []

abbrev pub of_target_before : Program → Target → List Value → ℕ → Store → List Assumption
of_target_before program (target.Invariant i) values at g = []
of_target_before program (target.Yield r y) values at g = of_cut program r y [] (said_by_other program r values at g)

-- ---- actions

-- K2: what goes in is apart, and the gate
abbrev pub of_keep : Program → ℕ → ℕ → Store → Invoked → List Assumption
of_keep program step m g x =
    apart_of (action_item program m) 2 (of_globals (exists_at (step - 1)) program.globals ++ of_params (codes "X.") x.action.params)
    (in_store program g ++ of_inputs x)
    ++ Gate m g x.inputs ∷ []

-- K3 to K7: both gates, of which the second is false in K7; and what goes into both is apart
abbrev pub gates_of : ℕ → ℕ → ℕ → Store → Invoked → Invoked → List Assumption
gates_of number m n g x y = Gate m g x.inputs ∷ (if nat_eq number 7 then NoGate n g y.inputs else Gate n g y.inputs) ∷ []

abbrev pub of_pair : Program → ℕ → ℕ → ℕ → ℕ → Store → Invoked → Invoked → List Assumption
of_pair program number step m n g x y =
    gates_of number m n g x y
    ++ apart_of (action_item program m) 2
    (of_globals (exists_at (step - 1)) program.globals ++ (of_params (codes "X.") x.action.params ++ of_params (codes "Y.") y.action.params))
    (in_store program g ++ (of_inputs x ++ of_inputs y))

-- K11: the invariants of the step, the gate, what goes in and what is held at the target is apart, and what is said there
abbrev pub of_act : Program → ℕ → ℕ → Store → Invoked → Target → List Value → ℕ → List Assumption
of_act program step m g x target values at =
    of_invariants program step g
    ++ (Gate m g x.inputs
    ∷ apart_of (action_item program m) 2
    (of_globals (exists_near step) program.globals ++ (of_params (codes "X.") x.action.params ++ of_target program target))
    (in_store program g ++ (of_inputs x ++ target_owned program target values at))
    ++ of_target_before program target values at g)

-- ---- cuts

-- what a cut of the procedure with this number says, at a path's beginning; the entry says nothing
abbrev pub said_at : Program → ℕ → Proc → Cut → Begun → List Assumption
said_at program q proc cut b =
    if is_entry cut.kind then []
    else Said q cut (note_values program.globals proc b.store b.locals b.done b.old b.old_outs b.old_done) ∷ []

-- the number of the action that a procedure refines; that of no action, where it refines none
abbrev pub refined_number : Program → Proc → ℕ
refined_number program proc =
    option_map_or (λ r. place_of (map (λ a. a.name) program.actions) r.action) proc.refines (length program.actions)

-- the gate of the refined action, where old `done` is false
abbrev pub refined_gate_of : Program → Proc → Begun → List Assumption
refined_gate_of program proc b = if b.old_done then [] else Gate (refined_number program proc) b.old (inputs_of proc b.locals) ∷ []

-- the invariants of the step, what the cut says, and the gate of the refined action
abbrev pub facts_at : Program → ℕ → ℕ → Proc → Cut → Begun → List Assumption
facts_at program step q proc cut b =
    of_invariants program step b.old ++ (said_at program q proc cut b ++ refined_gate_of program proc b)

-- the names of what is owned at a cut: the linear globals, and what is held there
abbrev pub names_at : Program → ℕ → Proc → ℕ → List (List ℕ)
names_at program step proc c = of_globals (exists_near step) program.globals ++ of_numbers [] proc (held_at program proc c)

-- K9: these, and what is owned is apart
abbrev pub of_path : Program → ℕ → ℕ → ℕ → Proc → Cut → Begun → List Assumption
of_path program step q c proc cut b =
    facts_at program step q proc cut b
    ++ apart_of (proc_item program q) 2 (names_at program step proc c) (owned program proc c b)

-- K10: these, what is owned and what is held at the target is apart, and what is said there
abbrev pub of_block : Program → ℕ → ℕ → ℕ → Target → List Value → Proc → Cut → Begun → ℕ → List Assumption
of_block program step q c target values proc cut b at =
    facts_at program step q proc cut b
    ++ (apart_of (proc_item program q) 2 (names_at program step proc c ++ of_target program target)
    (owned program proc c b ++ target_owned program target values at)
    ++ of_target_before program target values at b.old)

-- ---- all

-- what a condition assumes with these values, in the order of docs/CONDITIONS.md
unfoldable pub assumptions : Program → Condition → List Value → List Assumption
assumptions program (Start step i) values =
    let g : Store = record { values = values } in
    Init g ∷ apart_of (init_item program) 1 (at_start program) (initial_permissions program g)
assumptions program (Keep step m) values =
    of_action program m [] (λ a. of_keep program step m (store_of (exists_at (step - 1)) program values)
    (invoked values (count_of (exists_at (step - 1)) program) a))
assumptions program (Pair number step m n) values =
    of_action program m [] (λ a. of_action program n [] (λ b.
    of_pair program number step m n (store_of (exists_at (step - 1)) program values)
    (invoked values (count_of (exists_at (step - 1)) program) a)
    (invoked values (count_of (exists_at (step - 1)) program + instance_count a) b)))
assumptions program (Fire step m) values =
    of_action program m [] (λ a. Gate m (store_of (exists_at (step - 1)) program values)
    (invoked values (count_of (exists_at (step - 1)) program) a).inputs ∷ [])
assumptions program (Path part step q c) values =
    of_cut program q c [] (λ proc cut. of_path program step q c proc cut (begun program step proc cut values))
assumptions program (Block step q c target) values =
    of_cut program q c [] (λ proc cut. of_block program step q c target values proc cut (begun program step proc cut values)
    (layout program step proc cut).behind)
assumptions program (Act step m target) values =
    of_action program m [] (λ a. of_act program step m (store_of (exists_near step) program values)
    (invoked values (count_of (exists_near step) program) a) target values (count_of (exists_near step) program + instance_count a))
