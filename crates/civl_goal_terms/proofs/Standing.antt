-- The variables of a statement's goals: where they stand, how many there are and what they say; and the goal over them.
use Rattle.std.specs.Prelude.{map, filter, slice_get, IsTrue}
use Rattle.std.specs.Option.{option_map_or}
use Rattle.std.proofs.Common.{◌≡◌, ◌∙◌, ℕ, ◌+◌, ◌*◌, ◌≤◌, Bool, ◌&&◌, List, [], ◌++◌, length, append-nil, refl, sym, ap, ap₂, subst, arith, Option, Some, None}
use Rattle.std.proofs.lemmas.List.{length-map, length-append}
use Rattle.civl_bits.specs.declared.value.Value.{Value}
use Rattle.civl_tree.specs.declared.expr.Sort.{Sort}
use Rattle.civl_tree.specs.declared.stmt.Stmt.{Stmt, out-Stmt}
use Rattle.civl_tree.specs.declared.action.Choice.{Choice}
use Rattle.civl_tree.specs.declared.program.Proc.{Proc}
use Rattle.civl_tree.specs.declared.program.Program.{Program}
use Rattle.civl_tree.specs.Numbering.{statement_at}
use Rattle.civl_tree.specs.rules.Uses.{param_sorts}
use Rattle.civl_outlines.specs.declared.outline.Note.{Note}
use Rattle.civl_outlines.specs.declared.outline.Outline.{Outline}
use Rattle.civl_firing.specs.declared.store.Store.{Store}
use Rattle.civl_meaning.specs.declared.config.Activation.{Activation}
use Rattle.civl_meaning.specs.declared.config.Change.{Change}
use Rattle.civl_meaning.specs.Config.{frame_sorts}
use Rattle.civl_meaning.specs.Layers.{topmost}
use Rattle.civl_meaning.specs.Places.{Spot, spot_at}
use Rattle.civl_meaning.proofs.Bindings.{frame_length}
use Rattle.civl_layers.specs.Layered.{IsLayered}
use Rattle.civl_conditions.specs.Values.{part}
use Rattle.civl_conditions.specs.Variables.{layer_choices}
use Rattle.civl_conditions.specs.Weights.{lin, linear_globals, note_weight}
use Rattle.civl_states.specs.formula_parts.Said.{Env}
use Rattle.civl_states.specs.formula_parts.Given.{given, sorts_from, bits_of_sorts}
use Rattle.civl_states.specs.formula_parts.Lists.{AreSaid}
use Rattle.civl_terms.specs.declared.node.Node.{Node}
use Rattle.civl_states.proofs.formula_parts.Giving.{bits-append}
use Rattle.civl_states.specs.declared.stores.Existing.TheVariants.{Layer}
use Rattle.civl_states.specs.Groups.{StandFrom}
use Rattle.civl_states.proofs.Given.{part_given, stand_first, stand_front, stand_past, given_group, group_bits}
use Rattle.civl_states.proofs.Limits.{AreSorts, sorts_append, proc_few, proc_param_sorts_are, proc_out_sorts_are, local_sorts_are}
use Rattle.civl_states.proofs.Taking.{store_given}
use Rattle.civl_states.proofs.Variables.{existing_few, existing_are, bits_same}
use Rattle.civl_states.proofs.Weighing.{weighs_some}
use Rattle.civl_goals.specs.declared.goal.Goal.{Goal}
use Rattle.civl_goals.specs.Outlines.{exists_on_top, written_before}
use Rattle.civl_goals.specs.Variables.{frame_count, choices_at}
use Rattle.civl_goals.specs.Failed.{assumed, does, store_in, frame_of, behind_frame, chosen_of, step_fails, held_before}
use Rattle.civl_goals.specs.Weights.{invariant_weight, note_before_weight, form_weight, items_at, statement_weight, own_weight, weight}
use Rattle.civl_goals.specs.Variables.{variables}
use Rattle.civl_goal_terms.specs.declared.places.At.{At}
use Rattle.civl_goal_terms.specs.inner.Places.{IsAt}
use Rattle.civl_goal_terms.specs.declared.settings.Setting.{Setting}
use Rattle.civl_goal_terms.specs.inner.Settings.{Here, sorts_at, frame_at, CanStand, SaysHere}
use Rattle.civl_firing.specs.values.Values.{is_sort}
use Rattle.std.proofs.lemmas.List.Elements.{All-nil}
use Rattle.civl_goal_terms.specs.Formulas.{sorts_of}
use Rattle.civl_goal_terms.specs.inner.Sorted.{top_sorts, sorts_in_frame, statement_sorts}
use Rattle.civl_goal_terms.specs.inner.Given.{top_count, chosen_from, behind_chosen, here_from}
use Rattle.civl_goal_terms.specs.inner.Fails.{violated_at}
use Rattle.civl_goal_terms.proofs.Choosing.{form_few}

-- ---- how many

pub top_long : (program : Program) → length (top_sorts program) ≡ top_count program
top_long program = length-map (filter (exists_on_top program) program.globals) (λ g. g.sort)

pub counted : (program : Program) (r : ℕ) (proc : Proc) → slice_get program.procs r ≡ Some proc → frame_count program r ≡ length (frame_sorts proc)
counted program r proc at = ap (λ (o : Option Proc). option_map_or (λ p. length p.params + (length p.outs + length p.locals)) o 0) at ∙ sym (frame_length proc)

module _ (program : Program) (layered : IsLayered program) where
  pub frame_few : (r : ℕ) (proc : Proc) → slice_get program.procs r ≡ Some proc → length (frame_sorts proc) ≤ 32
  frame_few r proc at = omega (arith, frame_length proc, proc_few program layered.rules r proc at)

  pub frame_limits : (r : ℕ) (proc : Proc) → slice_get program.procs r ≡ Some proc → AreSorts (frame_sorts proc)
  frame_limits r proc at =
      sorts_append (param_sorts proc.params) (param_sorts proc.outs ++ map (λ l. l.sort) proc.locals) (proc_param_sorts_are program layered.rules r proc at)
      (sorts_append (param_sorts proc.outs) (map (λ l. l.sort) proc.locals) (proc_out_sorts_are program layered.rules r proc at) (local_sorts_are program layered.rules r proc at))

  pub top_few : top_count program ≤ 64
  top_few = existing_few program layered.rules (Layer program.layers)

  pub chosen_long : (at : At) → length (sorts_at program at) ≡ length (layer_choices (topmost program) (out-Stmt at.stmt.now))
  chosen_long at = length-map (layer_choices (topmost program) (out-Stmt at.stmt.now)) (λ c. c.sort)

  pub chosen_few : (at : At) → length (sorts_at program at) ≤ 32
  chosen_few at = omega (arith, chosen_long at, (form_few program layered.rules (out-Stmt at.stmt.now)).1)

-- ---- where they stand

module _ (program : Program) (at : At) (sorts rest : List Sort) (e : sorts ≡ top_sorts program ++ (frame_sorts at.proc.now ++ (sorts_at program at ++ rest))) where
  pub top_stand : StandFrom sorts 0 (top_sorts program)
  top_stand = stand_first sorts (top_sorts program) _ e

  behind_top : StandFrom sorts (top_count program) (frame_sorts at.proc.now ++ (sorts_at program at ++ rest))
  behind_top =
      let whole : StandFrom sorts 0 (top_sorts program ++ (frame_sorts at.proc.now ++ (sorts_at program at ++ rest))) = record { rest = []; within = omega arith; is = e ∙ sym (append-nil (top_sorts program ++ (frame_sorts at.proc.now ++ (sorts_at program at ++ rest)))) } in
      let here : 0 + top_count program ≡ top_count program = omega arith in
      subst (λ (k : ℕ). StandFrom sorts k (frame_sorts at.proc.now ++ (sorts_at program at ++ rest))) here (stand_past sorts 0 (top_sorts program) _ (top_count program) (top_long program) whole)

  pub frame_stand : StandFrom sorts (top_count program) (frame_sorts at.proc.now)
  frame_stand = stand_front sorts (top_count program) (frame_sorts at.proc.now) _ behind_top

  pub chosen_stand : StandFrom sorts (chosen_from program at) (sorts_at program at)
  chosen_stand = stand_front sorts (chosen_from program at) (sorts_at program at) rest (stand_past sorts (top_count program) (frame_sorts at.proc.now) _ (length (frame_sorts at.proc.now)) refl behind_top)

-- ---- the sorts of a goal

module _ (program : Program) (at : At) (is : IsAt program at) where
  pub frame_there : sorts_in_frame program at.root ≡ frame_sorts at.proc.now
  frame_there = ap (λ (o : Option Proc). option_map_or frame_sorts o []) is.proc

  pub choices_there : choices_at program at.root at.number ≡ layer_choices (topmost program) (out-Stmt at.stmt.now)
  choices_there =
      ap (λ (o : Option Proc). option_map_or (λ p. option_map_or (λ t. layer_choices (topmost program) (out-Stmt t)) (statement_at p.body at.number) []) o []) is.proc
      ∙ ap (λ (o : Option Stmt). option_map_or (λ t. layer_choices (topmost program) (out-Stmt t)) o []) is.stmt

  pub statement_there : statement_sorts program at.root at.number ≡ top_sorts program ++ (frame_sorts at.proc.now ++ sorts_at program at)
  statement_there = ap₂ (λ (ss ts : List Sort). top_sorts program ++ (ss ++ ts)) frame_there (ap (λ (cs : List Choice). map (λ c. c.sort) cs) choices_there)

  -- ---- what all values say

  module _ (env : Env) (n : ℕ) (long : behind_chosen program at ≤ n) where
    store_there : store_in program (given env 0 n) ≡ (here_from program at env).store
    store_there = store_given (exists_on_top program) program env n (omega (arith, long))

    own_there : frame_of program (given env 0 n) at.root at.number ≡ frame_at at (here_from program at env)
    own_there =
        let count = counted program at.root at.proc.now is.proc in
        ap (λ (vs : List Value). record { procedure = at.root; place = at.number; locals = vs })
        (ap (part (given env 0 n) (top_count program)) count ∙ part_given env n (top_count program) (length (frame_sorts at.proc.now)) (omega (arith, long)))

    chosen_there : chosen_of program (given env 0 n) at.root at.number ≡ (here_from program at env).chosen
    chosen_there =
        let from : behind_frame program at.root ≡ chosen_from program at = ap (λ (m : ℕ). top_count program + m) (counted program at.root at.proc.now is.proc) in
        let count : length (choices_at program at.root at.number) ≡ length (sorts_at program at) = ap length choices_there ∙ sym (length-map (layer_choices (topmost program) (out-Stmt at.stmt.now)) (λ c. c.sort)) in
        ap₂ (λ (m k : ℕ). part (given env 0 n) m k) from count ∙ part_given env n (chosen_from program at) (length (sorts_at program at)) (omega (arith, long))

    abbrev step_in : Outline → (Store → Activation → Change → Bool) → Store → Activation → List Value → Bool
    step_in outline fails g f c = assumed program outline g f && fails g f (does program g f c)

    pub step_there : (outline : Outline) (fails : Store → Activation → Change → Bool) → violated_at program outline at fails (here_from program at env) ≡ step_fails program outline (given env 0 n) at.root at.number fails
    step_there outline fails =
        sym (ap (λ (g : Store). step_in outline fails g (frame_of program (given env 0 n) at.root at.number) (chosen_of program (given env 0 n) at.root at.number)) store_there
        ∙ ap (λ (f : Activation). step_in outline fails (here_from program at env).store f (chosen_of program (given env 0 n) at.root at.number)) own_there
        ∙ ap (step_in outline fails (here_from program at env).store (frame_at at (here_from program at env))) chosen_there)

  -- ---- weights

  pub statement_weighs : (outline : Outline) (items : ℕ) (named : Spot → ℕ)
      → statement_weight program outline at.root at.number items named
      ≡ 2 * (invariant_weight program outline + note_before_weight program outline at.root at.number + form_weight program at.proc.now (out-Stmt at.stmt.now) + named (record { number = at.number; stmt = at.stmt.now; next = at.next })) + lin program items + 1
  statement_weighs outline items named =
      ap (λ (o : Option Proc). option_map_or (λ proc. option_map_or (λ spot.
      2 * (invariant_weight program outline + note_before_weight program outline at.root at.number + form_weight program proc (out-Stmt spot.stmt) + named spot) + lin program items + 1) (spot_at proc.body at.number) 0) o 0) is.proc
      ∙ ap (λ (o : Option Spot). option_map_or (λ spot.
      2 * (invariant_weight program outline + note_before_weight program outline at.root at.number + form_weight program at.proc.now (out-Stmt spot.stmt) + named spot) + lin program items + 1) o 0) is.spot

  pub items_there : items_at program at.root at.number ≡ linear_globals program + length (held_before program at.proc.now at.number)
  items_there = ap (λ (o : Option Proc). linear_globals program + option_map_or (λ proc. length (held_before program proc at.number)) o 0) is.proc

-- a note weighs something
pub note_some : (program : Program) (outline : Outline) (r s : ℕ) → 1 ≤ note_before_weight program outline r s
note_some program outline r s = by_proc (slice_get program.procs r)
  where
    by_note : (proc : Proc) (o : Option Note) → 1 ≤ option_map_or (λ note. note_weight program proc note.expr) o 1
    by_note proc None = omega arith
    by_note proc (Some note) = weighs_some _ note.expr

    by_proc : (o : Option Proc) → 1 ≤ option_map_or (λ proc. option_map_or (λ note. note_weight program proc note.expr) (written_before program outline r s) 1) o 1
    by_proc None = omega arith
    by_proc (Some proc) = by_note proc (written_before program outline r s)

pub goal_weighs : (program : Program) (outline : Outline) (g : Goal) → weight program outline g ≡ bits_of_sorts (sorts_of program g) + own_weight program outline g
unfolding weight
goal_weighs program outline g = ap (λ (n : ℕ). n + own_weight program outline g) (bits_same (variables program g))

pub three_bits : (program : Program) (at : At) (rest : List Sort) → bits_of_sorts (top_sorts program ++ (frame_sorts at.proc.now ++ (sorts_at program at ++ rest))) ≡ bits_of_sorts (top_sorts program) + (bits_of_sorts (frame_sorts at.proc.now) + (bits_of_sorts (sorts_at program at) + bits_of_sorts rest))
three_bits program at rest =
    bits-append (top_sorts program) _
    ∙ ap (λ (n : ℕ). bits_of_sorts (top_sorts program) + n) (bits-append (frame_sorts at.proc.now) _ ∙ ap (λ (n : ℕ). bits_of_sorts (frame_sorts at.proc.now) + n) (bits-append (sorts_at program at) rest))

-- ---- the variables of a group, by equal numbers

pub placed_said : (ns : List Node) (ids : List ℕ) (sorts : List Sort) (first place : ℕ) (group : List Sort) (count : ℕ) → first ≡ place → length group ≡ count → StandFrom sorts place group → AreSaid ns ids (sorts_from sorts first count) (λ env. given env first count)
    → AreSaid ns ids group (λ env. given env place (length group))
placed_said ns ids sorts first place group count e n stand said =
    given_group ns ids sorts place group count n stand (subst (λ (k : ℕ). AreSaid ns ids (sorts_from sorts k count) (λ env. given env k count)) e said)

pub placed_bits : (sorts : List Sort) (first place : ℕ) (group : List Sort) (count : ℕ) → first ≡ place → length group ≡ count → StandFrom sorts place group → bits_of_sorts (sorts_from sorts first count) ≡ bits_of_sorts group
placed_bits sorts first place group count e n stand = ap (λ (k : ℕ). bits_of_sorts (sorts_from sorts k count)) e ∙ group_bits sorts place group count n stand

-- ---- all of them

pub can_begin : (ns : List Node) (program : Program) (at : At) (setting : Setting) {h : Env → Here} → SaysHere ns program at setting h → CanStand ns program at setting
can_begin ns program at setting s = record { globals = s.globals.sorted; locals = s.locals.sorted; choices = s.choices.sorted }

module _ (program : Program) (at : At) where
  joined_long : length (top_sorts program ++ (frame_sorts at.proc.now ++ (sorts_at program at ++ []))) ≡ behind_chosen program at
  joined_long =
      let one = length-append (top_sorts program) (frame_sorts at.proc.now ++ (sorts_at program at ++ [])) in
      let two = length-append (frame_sorts at.proc.now) (sorts_at program at ++ []) in
      let three = length-append (sorts_at program at) [] in
      omega (arith, one, two, three, top_long program)

  pub whole_long : {sorts : List Sort} → sorts ≡ top_sorts program ++ (frame_sorts at.proc.now ++ (sorts_at program at ++ [])) → length sorts ≡ behind_chosen program at
  whole_long e = ap length e ∙ joined_long

module _ (program : Program) (layered : IsLayered program) (at : At) (is : IsAt program at) (sorts : List Sort) (e : sorts ≡ top_sorts program ++ (frame_sorts at.proc.now ++ (sorts_at program at ++ []))) where
  pub whole_few : length sorts ≤ 128
  whole_few = omega (arith, whole_long program at e, top_few program layered, frame_few program layered at.root at.proc.now is.proc, chosen_few program layered at)

  pub whole_are : AreSorts sorts
  whole_are =
      subst AreSorts (sym e)
      (sorts_append (top_sorts program) _ (existing_are program layered.rules (Layer program.layers))
      (sorts_append (frame_sorts at.proc.now) _ (frame_limits program layered at.root at.proc.now is.proc)
      (sorts_append (sorts_at program at) [] (form_few program layered.rules (out-Stmt at.stmt.now)).0 (All-nil (λ s. IsTrue (is_sort s))))))
