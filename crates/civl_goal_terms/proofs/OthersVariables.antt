-- The variables of the goals that calls keep the notes of other threads: their sorts, what their values give, and what the goals weigh.
use Rattle.std.specs.Prelude.{◌&&◌, map, slice_get, codes}
use Rattle.std.specs.Option.{option_map_or}
use Rattle.std.proofs.Common.{◌≡◌, ◌∙◌, ℕ, ◌+◌, ◌*◌, ◌≤◌, ◌<◌, ◌^◌, Bool, List, [], ◌++◌, length, append_assoc, sym, ap, ap₂, subst, arith, Some}
use Rattle.std.proofs.lemmas.List.{map-append, length-append, length-map, append-nil}
use mathlib.Core.List.{map-map}
use Rattle.civl_bits.specs.declared.value.Value.{Value}
use Rattle.civl_tree.specs.declared.expr.Sort.{Sort}
use Rattle.civl_tree.specs.declared.stmt.Stmt.{Stmt, out-Stmt}
use Rattle.civl_tree.specs.declared.action.Choice.{Choice}
use Rattle.civl_tree.specs.declared.program.Proc.{Proc}
use Rattle.civl_tree.specs.declared.program.Program.{Program}
use Rattle.civl_tree.specs.rules.Rules.{Keeps}
use Rattle.civl_tree.specs.rules.Typing.{typing_rules}
use Rattle.civl_tree.specs.rules.Uses.{param_sorts}
use Rattle.civl_firing.specs.declared.store.Store.{Store}
use Rattle.civl_terms.specs.declared.node.Node.{Node}
use Rattle.civl_meaning.specs.Config.{frame_sorts}
use Rattle.civl_meaning.specs.Layers.{topmost}
use Rattle.civl_meaning.specs.Places.{Spot, spot_at}
use Rattle.civl_meaning.proofs.Bindings.{frame_length}
use Rattle.civl_conditions.specs.declared.condition.Variable.{Variable}
use Rattle.civl_conditions.specs.Steps.{of_proc}
use Rattle.civl_conditions.specs.Values.{part}
use Rattle.civl_conditions.specs.Variables.{of_globals, of_choices, layer_choices, call_front}
use Rattle.civl_conditions.specs.Weights.{lin, linear_globals}
use Rattle.civl_states.specs.formula_parts.Said.{Env}
use Rattle.civl_states.specs.formula_parts.Given.{given, sorts_from, bits_of_sorts}
use Rattle.civl_states.specs.formula_parts.Lists.{AreSaid}
use Rattle.civl_states.proofs.formula_parts.Giving.{bits-append}
use Rattle.civl_states.specs.declared.stores.Existing.TheVariants.{Layer}
use Rattle.civl_states.specs.Groups.{StandFrom}
use Rattle.civl_states.proofs.Given.{part_given, stand_past, stand_sorts}
use Rattle.civl_states.proofs.Limits.{AreSorts, sorts_append, proc_few, proc_param_sorts_are, proc_out_sorts_are, local_sorts_are}
use Rattle.civl_states.proofs.Taking.{store_given}
use Rattle.civl_states.proofs.Variables.{globals_named, there_is, bits_same, existing_long, existing_are}
use Rattle.civl_outlines.specs.declared.outline.Outline.{Outline}
use Rattle.civl_goals.specs.declared.goal.Goal.TheVariants as goal
use Rattle.civl_goals.specs.Outlines.{exists_on_top, top_globals}
use Rattle.civl_goals.specs.Failed.{held_before, assumed, does, interferes, store_in, chosen_of, behind_frame, failed}
use Rattle.civl_goals.specs.Variables.{of_names, of_frame, frame_count, choices_at, of_statement, variables}
use Rattle.civl_goals.specs.Weights.{invariant_weight, note_before_weight, form_weight, weight, items_at}
use Rattle.civl_goal_terms.specs.declared.others.Beside.{Beside}
use Rattle.civl_goal_terms.specs.declared.places.At.{At}
use Rattle.civl_goal_terms.specs.Formulas.{sorts_of}
use Rattle.civl_goal_terms.specs.inner.Given.{top_count, chosen_from, behind_chosen, here_from}
use Rattle.civl_goal_terms.specs.inner.Others.{IsBeside, violated_beside}
use Rattle.civl_goal_terms.specs.inner.Places.{IsAt}
use Rattle.civl_goal_terms.specs.inner.Settings.{sorts_at}
use Rattle.civl_goal_terms.specs.inner.Sorted.{top_sorts}
use Rattle.civl_goal_terms.specs.inner.Told.{frame}
use Rattle.civl_goal_terms.proofs.Sorting.{names_are}
use Rattle.civl_goal_terms.proofs.Choosing.{form_few}
use Rattle.civl_goal_terms.proofs.Standing.{counted, choices_there}

-- ---- a frame

module _ (program : Program) (keeps : Keeps typing_rules program) where
  frame_are : (q : ℕ) (proc : Proc) → slice_get program.procs q ≡ Some proc → AreSorts (frame_sorts proc)
  frame_are q proc at =
      sorts_append (param_sorts proc.params) _ (proc_param_sorts_are program keeps q proc at)
      (sorts_append (param_sorts proc.outs) _ (proc_out_sorts_are program keeps q proc at) (local_sorts_are program keeps q proc at))

abbrev sort_of_variable : Variable → Sort
sort_of_variable v = v.sort

named_frame : (program : Program) (front : List ℕ) (q : ℕ) (proc : Proc) → slice_get program.procs q ≡ Some proc → map (λ v. v.sort) (of_frame front program q) ≡ frame_sorts proc
named_frame program front q proc at =
    ap (map sort_of_variable) (there_is (slice_get program.procs q) proc [] (of_names front) at) ∙ names_are front proc

-- ---- all of them

module _ (program : Program) (at : At) (other : Beside) (is : IsAt program at) (beside : IsBeside program other) where
  abbrev proc : Proc
  proc = at.proc.now

  abbrev next : Proc
  next = other.proc.now

  choices_counted : length (choices_at program at.root at.number) ≡ length (sorts_at program at)
  choices_counted = ap length (choices_there program at is) ∙ sym (length-map (layer_choices (topmost program) (out-Stmt at.stmt.now)) (λ c. c.sort))

  choices_sorted : map (λ v. v.sort) (of_choices (call_front at.number) (choices_at program at.root at.number)) ≡ sorts_at program at
  choices_sorted = map-map sort_of_variable _ (choices_at program at.root at.number) ∙ ap (map (λ (c : Choice). c.sort)) (choices_there program at is)

  statement_sorted : map (λ v. v.sort) (of_statement program at.root at.number) ≡ top_sorts program ++ (frame_sorts proc ++ sorts_at program at)
  statement_sorted =
      map-append sort_of_variable (of_globals [] (top_globals program)) (of_frame [] program at.root ++ of_choices (call_front at.number) (choices_at program at.root at.number))
      ∙ ap₂ (λ (a b : List Sort). a ++ b) (globals_named [] (top_globals program))
      (map-append sort_of_variable (of_frame [] program at.root) (of_choices (call_front at.number) (choices_at program at.root at.number))
      ∙ ap₂ (λ (a b : List Sort). a ++ b) (named_frame program [] at.root proc is.proc) choices_sorted)

  abbrev front : List Sort
  front = top_sorts program ++ (frame_sorts proc ++ sorts_at program at)

  abbrev all_sorts : List Sort
  all_sorts = sorts_of program (goal.Other at.root at.number other.root other.number)

  -- those of the other frame stand last
  pub sorted_behind : all_sorts ≡ front ++ frame_sorts next
  unfolding variables
  sorted_behind =
      map-append sort_of_variable (of_statement program at.root at.number) (of_frame (codes "other.") program other.root)
      ∙ ap₂ (λ (a b : List Sort). a ++ b) statement_sorted (named_frame program (codes "other.") other.root next beside)

  pub sorted_all : all_sorts ≡ top_sorts program ++ (frame_sorts proc ++ (sorts_at program at ++ frame_sorts next))
  sorted_all =
      sorted_behind ∙ append_assoc (top_sorts program) (frame_sorts proc ++ sorts_at program at) (frame_sorts next)
      ∙ ap (λ (ss : List Sort). top_sorts program ++ ss) (append_assoc (frame_sorts proc) (sorts_at program at) (frame_sorts next))

  top_long : length (top_sorts program) ≡ top_count program
  top_long = length-map (top_globals program) (λ g. g.sort)

  front_long : length front ≡ behind_chosen program at
  front_long =
      let one = length-append (top_sorts program) (frame_sorts proc ++ sorts_at program at) in
      let two = length-append (frame_sorts proc) (sorts_at program at) in
      omega (arith, one, two, top_long)

  pub counted_all : length all_sorts ≡ behind_chosen program at + length (frame_sorts next)
  counted_all = ap length sorted_behind ∙ length-append front (frame_sorts next) ∙ ap (λ (n : ℕ). n + length (frame_sorts next)) front_long

  pub other_stands : StandFrom all_sorts (behind_chosen program at) (frame_sorts next)
  other_stands =
      let whole : StandFrom all_sorts 0 (front ++ frame_sorts next) = record { rest = []; within = omega arith; is = sorted_behind ∙ sym (append-nil (front ++ frame_sorts next)) } in
      let here : 0 + behind_chosen program at ≡ behind_chosen program at = omega arith in
      subst (λ (k : ℕ). StandFrom all_sorts k (frame_sorts next)) here (stand_past all_sorts 0 front (frame_sorts next) (behind_chosen program at) front_long whole)

  pub other_from : sorts_from all_sorts (behind_chosen program at) (length (frame_sorts next)) ≡ frame_sorts next
  other_from = stand_sorts all_sorts (behind_chosen program at) (frame_sorts next) other_stands

  -- the variables that stand there
  module _ (sorts : List Sort) (first count : ℕ) (same : sorts ≡ all_sorts) (from : first ≡ behind_chosen program at) (so_many : count ≡ length (frame_sorts next)) where
    pub other_sorted : sorts_from sorts first count ≡ frame_sorts next
    other_sorted =
        ap (λ (ss : List Sort). sorts_from ss first count) same
        ∙ (ap₂ (λ (k n : ℕ). sorts_from all_sorts k n) from so_many ∙ other_from)

    -- their terms say the other frame's values
    pub other_said : (ns : List Node) (ids : List ℕ) → AreSaid ns ids (sorts_from sorts first count) (λ env. given env first count) → AreSaid ns ids (frame_sorts next) (λ env. given env (behind_chosen program at) (length (frame_sorts next)))
    other_said ns ids said =
        subst (λ (n : ℕ). AreSaid ns ids (frame_sorts next) (λ env. given env (behind_chosen program at) n)) so_many
        (subst (λ (k : ℕ). AreSaid ns ids (frame_sorts next) (λ env. given env k count)) from
        (subst (λ (ss : List Sort). AreSaid ns ids ss (λ env. given env first count)) other_sorted said))

  pub bits_all : bits_of_sorts all_sorts ≡ bits_of_sorts (top_sorts program) + bits_of_sorts (frame_sorts proc) + bits_of_sorts (sorts_at program at) + bits_of_sorts (frame_sorts next)
  bits_all =
      let one = ap bits_of_sorts sorted_behind in
      let two = bits-append front (frame_sorts next) in
      let three = bits-append (top_sorts program) (frame_sorts proc ++ sorts_at program at) in
      let four = bits-append (frame_sorts proc) (sorts_at program at) in
      omega (arith, one, two, three, four)

  -- ---- within the limits

  module _ (keeps : Keeps typing_rules program) where
    pub limited_all : AreSorts all_sorts
    limited_all =
        subst AreSorts (sym sorted_all)
        (sorts_append (top_sorts program) _ (existing_are program keeps (Layer program.layers))
        (sorts_append (frame_sorts proc) _ (frame_are program keeps at.root proc is.proc)
        (sorts_append (sorts_at program at) _ (form_few program keeps (out-Stmt at.stmt.now)).0 (frame_are program keeps other.root next beside))))

    pub small_all : length all_sorts < 2 ^ 32
    small_all =
        let top = existing_long program keeps (Layer program.layers) in
        let chosen = (form_few program keeps (out-Stmt at.stmt.now)).1 in
        let many = length-map (layer_choices (topmost program) (out-Stmt at.stmt.now)) (λ c. c.sort) in
        omega (arith, counted_all, top, top_long, chosen, many, frame_length proc, frame_length next, proc_few program keeps at.root proc is.proc, proc_few program keeps other.root next beside)

  -- ---- what the values give

  module _ (outline : Outline) (env : Env) (n : ℕ) (many : behind_chosen program at + length (frame_sorts next) ≤ n) where
    abbrev values : List Value
    values = given env 0 n

    abbrev told : Store → List Value → List Value → List Value → Bool
    told g locals chosen others =
        assumed program outline g (frame at.root at.number locals)
        && interferes program outline (frame other.root other.number others) g (frame at.root at.number locals) (does program g (frame at.root at.number locals) chosen)

    store_is : store_in program values ≡ (here_from program at env).store
    store_is = store_given (exists_on_top program) program env n (omega (arith, many))

    locals_are : part values (top_count program) (frame_count program at.root) ≡ (here_from program at env).locals
    locals_are =
        ap (part values (top_count program)) (counted program at.root proc is.proc) ∙ part_given env n (top_count program) (length (frame_sorts proc)) (omega (arith, many))

    chosen_is : chosen_of program values at.root at.number ≡ (here_from program at env).chosen
    chosen_is =
        ap₂ (λ (a b : ℕ). part values (top_count program + a) b) (counted program at.root proc is.proc) choices_counted
        ∙ part_given env n (chosen_from program at) (length (sorts_at program at)) (omega (arith, many))

    others_are : part values (behind_frame program at.root + length (choices_at program at.root at.number)) (frame_count program other.root) ≡ given env (behind_chosen program at) (length (frame_sorts next))
    others_are =
        ap₂ (λ (a b : ℕ). part values (top_count program + a + b) (frame_count program other.root)) (counted program at.root proc is.proc) choices_counted
        ∙ ap (part values (behind_chosen program at)) (counted program other.root next beside)
        ∙ part_given env n (behind_chosen program at) (length (frame_sorts next)) many

    pub other_is : violated_beside program outline at other (here_from program at env) (given env (behind_chosen program at) (length (frame_sorts next)))
        ≡ failed program outline (goal.Other at.root at.number other.root other.number) (given env 0 n)
    unfolding failed
    other_is =
        let h = here_from program at env in
        let rest = given env (behind_chosen program at) (length (frame_sorts next)) in
        sym
        (ap (λ (g : Store). told g (part values (top_count program) (frame_count program at.root)) (chosen_of program values at.root at.number) (part values (behind_frame program at.root + length (choices_at program at.root at.number)) (frame_count program other.root))) store_is
        ∙ (ap (λ (ls : List Value). told h.store ls (chosen_of program values at.root at.number) (part values (behind_frame program at.root + length (choices_at program at.root at.number)) (frame_count program other.root))) locals_are
        ∙ ap₂ (λ (cs os : List Value). told h.store h.locals cs os) chosen_is others_are))

  -- ---- weights

  module _ (outline : Outline) (held other_held : List ℕ) (same : held ≡ held_before program proc at.number) (there : other_held ≡ held_before program next other.number) where
    items_are : items_at program at.root at.number + of_proc program other.root 0 (λ p. length (held_before program p other.number)) ≡ linear_globals program + (length held + length other_held)
    items_are =
        let one = there_is (slice_get program.procs at.root) proc 0 (λ (p : Proc). length (held_before program p at.number)) is.proc ∙ ap length (sym same) in
        let two = there_is (slice_get program.procs other.root) next 0 (λ (p : Proc). length (held_before program p other.number)) beside ∙ ap length (sym there) in
        omega (arith, one, two)

    abbrev stated : Stmt → ℕ → ℕ
    stated stmt items =
        2 * (invariant_weight program outline + note_before_weight program outline at.root at.number + form_weight program proc (out-Stmt stmt) + note_before_weight program outline other.root other.number) + lin program items + 1

    pub other_weighs : weight program outline (goal.Other at.root at.number other.root other.number)
        ≡ bits_of_sorts all_sorts + stated at.stmt.now (linear_globals program + (length held + length other_held))
    unfolding weight
    other_weighs =
        let items : ℕ = items_at program at.root at.number + of_proc program other.root 0 (λ p. length (held_before program p other.number)) in
        ap₂ (λ (a b : ℕ). a + b) (bits_same (variables program (goal.Other at.root at.number other.root other.number)))
        (there_is (slice_get program.procs at.root) proc 0 (λ (p : Proc). option_map_or (λ spot.
        2 * (invariant_weight program outline + note_before_weight program outline at.root at.number + form_weight program p (out-Stmt spot.stmt) + note_before_weight program outline other.root other.number) + lin program items + 1)
        (spot_at p.body at.number) 0) is.proc
        ∙ (there_is (spot_at proc.body at.number) (record { number = at.number; stmt = at.stmt.now; next = at.next }) 0 (λ (spot : Spot). stated spot.stmt items) is.spot
        ∙ ap (stated at.stmt.now) items_are))
