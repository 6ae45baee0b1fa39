-- The lines of all that is assumed, one piece behind the other.
use Rattle.std.proofs.Common.{◌≡◌, ◌∙◌, ℕ, ◌+◌, ◌-◌, Bool, true, false, if◌then◌else◌, List, [], ◌∷◌, ◌++◌, length, append-nil, refl, sym, ap, ap₂}
use Rattle.std.specs.Prelude.{Option, None, Some, nat_eq, nat_lt, slice_get, codes}
use Rattle.std.specs.List.{flat_map}
use Rattle.std.specs.Option.{option_map_or}
use Rattle.std.proofs.lemmas.List.Concat.{flat_map-append}
use Rattle.civl_bits.specs.declared.value.Value.{Value}
use Rattle.civl_tree.specs.declared.action.Action.{Action}
use Rattle.civl_tree.specs.declared.program.Invariant.{Invariant as Declared}
use Rattle.civl_tree.specs.declared.program.Proc.{Proc}
use Rattle.civl_tree.specs.declared.program.Program.{Program}
use Rattle.civl_tree.specs.Numbering.{init_item, action_item, proc_item}
use Rattle.civl_firing.specs.declared.store.Store.{Store}
use Rattle.civl_meaning.specs.Initial.{initial_permissions}
use Rattle.civl_layers.specs.declared.cut.Cut.{Cut}
use Rattle.civl_layers.specs.Cuts.{proc_cuts}
use Rattle.civl_conditions.specs.declared.condition.Condition.{Condition}
use Rattle.civl_conditions.specs.declared.condition.Condition.TheVariants.{Start, Keep, Pair, Fire, Path, Block, Act}
use Rattle.civl_conditions.specs.declared.condition.Target.{Target}
use Rattle.civl_conditions.specs.declared.condition.Target.TheVariants as target
use Rattle.civl_conditions.specs.footprints.Agreement.{exists_at}
use Rattle.civl_conditions.specs.paths.Ends.{is_entry}
use Rattle.civl_conditions.specs.paths.NoteValues.{note_values, steady_note_values}
use Rattle.civl_conditions.specs.paths.Seen.{exists_near}
use Rattle.civl_conditions.specs.Assumed.{inputs_of, owned}
use Rattle.civl_conditions.specs.Steps.{each_at, of_action, of_cut}
use Rattle.civl_conditions.specs.Targets.{other_of, target_owned}
use Rattle.civl_conditions.specs.Values.{Begun, Invoked, begun, count_of, instance_count, invoked, layout, store_of}
use Rattle.civl_lines.specs.declared.line.Line.{Line}
use Rattle.civl_assumptions.specs.Names.{at_start, of_target}
use Rattle.civl_assumptions.specs.Assumptions.{Assumption, Init, Invariant, Said, SaidElsewhere, Gate, NoGate, Apart}
use Rattle.civl_assumptions.specs.Assumptions.{apart_of, assumptions, facts_at, gates_of, if_of_step, names_at, of_act, of_block, of_invariants, of_keep, of_pair, of_path, of_target_before, refined_gate_of, refined_number, said_at, said_by_other}
use Rattle.civl_assumptions.specs.Lines.{apart_line, assumed_lines, cut_line, gate_lines, lines_of}
use Rattle.civl_assumptions.specs.inner.Told.{act_lines, apart_lines, cut_lines, facts_lines, invariant_lines, keep_lines, pair_lines, refined_lines}
use Rattle.civl_assumptions.specs.inner.Told.{said_lines, second_text, step_lines, target_lines, told_lines}

module _ (program : Program) where
  abbrev told : List Assumption → List Line
  told = flat_map (lines_of program)

  abbrev both : List Line → List Line → List Line
  both xs ys = xs ++ ys

  -- ---- pieces

  module _ (step : ℕ) (g : Store) where
    one_told : (place : ℕ) (b : Bool) → told (if b then Invariant place g ∷ [] else [])
        ≡ (if b then lines_of program (Invariant place g) else [])
    one_told place true = append-nil (lines_of program (Invariant place g))
    one_told place false = refl

    each_told : (at : ℕ) (xs : List Declared) → told (each_at (if_of_step step g) at xs) ≡ each_at (invariant_lines program step) at xs
    each_told at [] = refl
    each_told at (x ∷ xs) =
        flat_map-append (lines_of program) (if_of_step step g at x) (each_at (if_of_step step g) (at + 1) xs)
        ∙ ap₂ both (one_told at (nat_eq x.step step)) (each_told (at + 1) xs)

    step_told : told (of_invariants program step g) ≡ step_lines program step
    step_told = each_told 0 program.invariants

  apart_told : (item words : ℕ) (names lists : List (List ℕ)) → told (apart_of item words names lists) ≡ apart_lines program item words names
  apart_told item words names lists =
      elim (nat_lt (length names) 2) as (λ b. told (if b then [] else Apart item words names lists ∷ [])
      ≡ (if b then [] else apart_line program item words names ∷ []))
      [ true ↦ refl | false ↦ refl ]

  -- one thing behind others
  then_told : (a : Assumption) (rest : List Assumption) (lines : List Line) → told rest ≡ lines → told (a ∷ rest) ≡ lines_of program a ++ lines
  then_told a rest lines e = ap (λ (ls : List Line). lines_of program a ++ ls) e

  last_told : (a : Assumption) → told (a ∷ []) ≡ lines_of program a
  last_told a = append-nil (lines_of program a)

  said_told : (q : ℕ) (proc : Proc) (cut : Cut) (b : Begun) → told (said_at program q proc cut b) ≡ said_lines program q (codes "is assumed") cut
  said_told q proc cut b =
      let note = note_values program.globals proc b.store b.locals b.done b.old b.old_outs b.old_done in
      elim (is_entry cut.kind) as (λ e. told (if e then [] else Said q cut note ∷ []) ≡ (if e then [] else cut_line program q cut (codes "is assumed") ∷ []))
      [ true ↦ refl | false ↦ refl ]

  refined_told : (proc : Proc) (b : Begun) → told (refined_gate_of program proc b) ≡ refined_lines program proc b.old_done
  refined_told proc b =
      elim b.old_done as (λ d. told (if d then [] else Gate (refined_number program proc) b.old (inputs_of proc b.locals) ∷ [])
      ≡ (if d then [] else gate_lines program (refined_number program proc) (codes "is assumed")))
      [ true ↦ refl | false ↦ append-nil (gate_lines program (refined_number program proc) (codes "is assumed")) ]

  facts_told : (step q : ℕ) (proc : Proc) (cut : Cut) (b : Begun) → told (facts_at program step q proc cut b) ≡ facts_lines program step q proc cut b.old_done
  facts_told step q proc cut b =
      flat_map-append (lines_of program) (of_invariants program step b.old) (said_at program q proc cut b ++ refined_gate_of program proc b)
      ∙ ap₂ both (step_told step b.old) (
      flat_map-append (lines_of program) (said_at program q proc cut b) (refined_gate_of program proc b)
      ∙ ap₂ both (said_told q proc cut b) (refined_told proc b))

  module _ (r : ℕ) (values : List Value) (at : ℕ) (g : Store) where
    other_told : (proc : Proc) (cut : Cut) → told (said_by_other program r values at g proc cut) ≡ said_lines program r (codes "is assumed of another thread") cut
    other_told proc cut =
        let other = other_of proc values at in
        let note = steady_note_values program.globals proc g other.locals other.done in
        elim (is_entry cut.kind) as (λ e. told (if e then [] else SaidElsewhere r cut note ∷ [])
        ≡ (if e then [] else cut_line program r cut (codes "is assumed of another thread") ∷ []))
        [ true ↦ refl | false ↦ refl ]

  found_told : {A : Type 0} (o : Option A) (f : A → List Assumption) (k : A → List Line) → ((a : A) → told (f a) ≡ k a)
      → told (option_map_or f o []) ≡ option_map_or k o []
  found_told None f k h = refl
  found_told (Some a) f k h = h a

  target_told : (aim : Target) (values : List Value) (at : ℕ) (g : Store) → told (of_target_before program aim values at g) ≡ target_lines program aim
  target_told (target.Invariant i) values at g = refl
  target_told (target.Yield r y) values at g =
      found_told (slice_get program.procs r) _ _ (λ proc.
      found_told (slice_get (proc_cuts proc) y) _ _ (λ cut. other_told r values at g proc cut))

  -- ---- actions

  keep_told : (step m : ℕ) (g : Store) (x : Invoked) → told (of_keep program step m g x) ≡ keep_lines program step m x.action
  keep_told step m g x =
      flat_map-append (lines_of program) (apart_of (action_item program m) 2 _ _) (Gate m g x.inputs ∷ [])
      ∙ ap₂ both (apart_told (action_item program m) 2 _ _) (last_told (Gate m g x.inputs))

  second_told : (number n : ℕ) (g : Store) (inputs : List Value)
      → lines_of program (if nat_eq number 7 then NoGate n g inputs else Gate n g inputs) ≡ gate_lines program n (second_text number)
  second_told number n g inputs =
      elim (nat_eq number 7) as (λ b. lines_of program (if b then NoGate n g inputs else Gate n g inputs)
      ≡ gate_lines program n (if b then codes "is assumed to be false" else codes "is assumed"))
      [ true ↦ refl | false ↦ refl ]

  pair_told : (number step m n : ℕ) (g : Store) (x y : Invoked)
      → told (of_pair program number step m n g x y) ≡ pair_lines program number step m n x.action y.action
  pair_told number step m n g x y =
      ap₂ (λ (ls ks : List Line). gate_lines program m (codes "is assumed") ++ (ls ++ ks))
      (second_told number n g y.inputs) (apart_told (action_item program m) 2 _ _)

  act_told : (step m : ℕ) (g : Store) (x : Invoked) (aim : Target) (values : List Value) (at : ℕ)
      → told (of_act program step m g x aim values at) ≡ act_lines program step m aim x.action
  act_told step m g x aim values at =
      flat_map-append (lines_of program) (of_invariants program step g) _
      ∙ ap₂ both (step_told step g) (
      then_told (Gate m g x.inputs) _ _ (
      flat_map-append (lines_of program) (apart_of (action_item program m) 2 _ _) (of_target_before program aim values at g)
      ∙ ap₂ both (apart_told (action_item program m) 2 _ _) (target_told aim values at g)))

  -- ---- cuts

  module _ (step q c : ℕ) (proc : Proc) (cut : Cut) (values : List Value) where
    abbrev begins : Begun
    begins = begun program step proc cut values

    abbrev owner : ℕ
    owner = proc_item program q

    path_told : told (of_path program step q c proc cut begins) ≡ cut_lines program step q c None values proc cut
    path_told =
        let names = names_at program step proc c in
        let alone : apart_lines program owner 2 (names ++ []) ++ [] ≡ apart_lines program owner 2 names =
        append-nil (apart_lines program owner 2 (names ++ [])) ∙ ap (apart_lines program owner 2) (append-nil names) in
        flat_map-append (lines_of program) (facts_at program step q proc cut begins) (apart_of owner 2 names (owned program proc c begins))
        ∙ ap₂ both (facts_told step q proc cut begins) (apart_told owner 2 names (owned program proc c begins) ∙ sym alone)

    block_told : (aim : Target) (at : ℕ) → told (of_block program step q c aim values proc cut begins at) ≡ cut_lines program step q c (Some aim) values proc cut
    block_told aim at =
        let names = names_at program step proc c ++ of_target program aim in
        let lists = owned program proc c begins ++ target_owned program aim values at in
        let before = of_target_before program aim values at begins.old in
        flat_map-append (lines_of program) (facts_at program step q proc cut begins) (apart_of owner 2 names lists ++ before)
        ∙ ap₂ both (facts_told step q proc cut begins) (
        flat_map-append (lines_of program) (apart_of owner 2 names lists) before
        ∙ ap₂ both (apart_told owner 2 names lists) (target_told aim values at begins.old))

-- ---- all

pub lines_told : (program : Program) (condition : Condition) (values : List Value) → told_lines program condition values ≡ assumed_lines program condition values
unfolding assumptions assumed_lines told_lines
lines_told program (Start step i) values =
    let g : Store = record { values = values } in
    let item = init_item program in
    let lists = initial_permissions program g in
    sym (
    then_told program (Init g) (apart_of item 1 (at_start program) lists) (apart_lines program item 1 (at_start program))
    (apart_told program item 1 (at_start program) lists)
    )
lines_told program (Keep step m) values =
    let g = store_of (exists_at (step - 1)) program values in
    sym (found_told program (slice_get program.actions m) _ _ (λ a.
    keep_told program step m g (invoked values (count_of (exists_at (step - 1)) program) a)))
lines_told program (Pair number step m n) values =
    let g = store_of (exists_at (step - 1)) program values in
    let first = count_of (exists_at (step - 1)) program in
    sym (found_told program (slice_get program.actions m) _ _ (λ a. found_told program (slice_get program.actions n) _ _ (λ b.
    pair_told program number step m n g (invoked values first a) (invoked values (first + instance_count a) b))))
lines_told program (Fire step m) values =
    let g = store_of (exists_at (step - 1)) program values in
    sym (found_told program (slice_get program.actions m) _ _ (λ a.
    last_told program (Gate m g (invoked values (count_of (exists_at (step - 1)) program) a).inputs)))
lines_told program (Path part step q c) values =
    sym (found_told program (slice_get program.procs q) _ _ (λ proc.
    found_told program (slice_get (proc_cuts proc) c) _ _ (λ cut. path_told program step q c proc cut values)))
lines_told program (Block step q c aim) values =
    sym (found_told program (slice_get program.procs q) _ _ (λ proc.
    found_told program (slice_get (proc_cuts proc) c) _ _ (λ cut.
    block_told program step q c proc cut values aim (layout program step proc cut).behind)))
lines_told program (Act step m aim) values =
    let g = store_of (exists_near step) program values in
    let first = count_of (exists_near step) program in
    sym (found_told program (slice_get program.actions m) _ _ (λ a.
    act_told program step m g (invoked values first a) aim values (first + instance_count a)))
