-- A step of a frame that stands at a place whose note holds leads to what the outline says, and doesn't fail.
use Rattle.std.proofs.Common.{◌≡◌, ℕ, ◌+◌, Bool, true, false, not, List, [], ◌++◌, map, Option, Some, None, refl, sym, ap, ap₂, ◌∙◌, subst, inl, inr, ◌⊎◌, arith}
use Rattle.std.specs.Prelude.{slice_get, slice_set, is_some, All, if◌then◌else◌}
use Rattle.std.specs.List.{Contains, list_any}
use Rattle.std.specs.Option.{option_map, option_map_or}
use Rattle.std.proofs.lemmas.Bool.{and_from, or_parts, not-false, lt-ltb}
use Rattle.civl_bits.specs.Value.{IsValue}
use Rattle.civl_bits.specs.declared.value.Value.{Value}
use Rattle.civl_firing.specs.values.Values.{HaveSorts, is_true, zero_of}
use Rattle.civl_tree.specs.declared.name.Name.{Name}
use Rattle.civl_tree.specs.declared.expr.Expr.{Expr}
use Rattle.civl_tree.specs.declared.action.Action.{Action}
use Rattle.civl_tree.specs.declared.action.Choice.{Choice}
use Rattle.civl_tree.specs.declared.stmt.Stmt.{Stmt, out-Stmt}
use Rattle.civl_tree.specs.declared.stmt.Stmt.TheOpen.{Stmt-F, Assign, Assert, If, While, YieldLoop, RankLoop, Call, Yield, Commit, Intro, Spawn}
use Rattle.civl_tree.specs.declared.program.Proc.{Proc}
use Rattle.civl_tree.specs.declared.program.Program.{Program}
use Rattle.civl_tree.specs.Numbering.{statement_at, statements_of, sizes_of}
use Rattle.civl_tree.specs.rules.Names.{names_in_proc, proc_named}
use Rattle.civl_tree.specs.rules.Width.{sort_width_fits, choice_width, any_width, param_width}
use Rattle.civl_tree.specs.rules.Index.{sort_index, any_index}
use Rattle.civl_tree.specs.rules.Uses.{action_uses}
use Rattle.civl_tree.specs.rules.Rules.{Keeps}
use Rattle.civl_tree.specs.rules.Typing.{typing_rules, width_rule, index_rule}
use Rattle.civl_tree.proofs.Kept.{action_kept, width_among, index_among}
use Rattle.civl_tree.proofs.Numbers.{sizes_are_counts}
use Rattle.civl_tree.proofs.Bools.{not_second}
use Rattle.civl_tree.proofs.Lists.{get_there}
use Rattle.civl_outlines.specs.declared.outline.Note.{Note}
use Rattle.civl_outlines.specs.declared.outline.Outline.{Outline}
use Rattle.civl_firing.specs.declared.store.Store.{Store}
use Rattle.civl_firing.specs.declared.firing.Fired.{Fired}
use Rattle.civl_firing.specs.declared.firing.Fired.TheVariants as fire
use Rattle.civl_firing.specs.Stores.{IsStore}
use Rattle.civl_firing.specs.Truth.{place_of}
use Rattle.civl_firing.specs.Eval.{value_of, values_of}
use Rattle.civl_firing.specs.Scope.{frame_values}
use Rattle.civl_firing.specs.Fired.{gate_holds, choices_fit, fired}
use Rattle.civl_firing.proofs.Having.{no_sorts}
use Rattle.civl_firing.proofs.SortLimits.{limits}
use Rattle.civl_meaning.specs.declared.config.Plain.{Plain}
use Rattle.civl_meaning.specs.declared.config.Activation.{Activation}
use Rattle.civl_meaning.specs.declared.config.Running.{Running}
use Rattle.civl_meaning.specs.declared.config.State.TheVariants.{Before}
use Rattle.civl_meaning.specs.declared.config.Stepped.TheVariants as answer
use Rattle.civl_meaning.specs.declared.config.Change.{Change}
use Rattle.civl_meaning.specs.declared.config.Change.TheVariants.{Stays, Goes, Acts, Enters, Leaves, Spawns}
use Rattle.civl_meaning.specs.Permissions.{pairwise_disjoint}
use Rattle.civl_meaning.specs.Places.{Spot, spot_at, start_of}
use Rattle.civl_meaning.specs.Meaning.{Meaning, Does, Runs, Missing, called, proc_number}
use Rattle.civl_meaning.specs.Layers.{topmost}
use Rattle.civl_meaning.specs.Change.{new_frame, acted, done_by, call_doing, statement_doing, spot_doing, proc_doing}
use Rattle.civl_meaning.specs.Change as next
use Rattle.civl_meaning.specs.Failing.{answers_failing, fails_at}
use Rattle.civl_meaning.specs.Config.{frame_sorts, moved_frame}
use Rattle.civl_meaning.proofs.Begun.{proc_is}
use Rattle.civl_meaning.proofs.Failures.{failing_is_done}
use Rattle.civl_layers.specs.Layered.{IsLayered}
use Rattle.civl_conditions.specs.footprints.Agreement.{StoresAgree}
use Rattle.civl_conditions.specs.paths.Seen.{ChangesAgree}
use Rattle.civl_conditions.specs.paths.NoteValues.{plain_note_values}
use Rattle.civl_conditions.specs.Permissions.{in_store}
use Rattle.civl_conditions.specs.Invariants.{holds_in}
use Rattle.civl_conditions.specs.Variables.{choices_of, layer_choices}
use Rattle.civl_conditions.specs.Movers.{on_some}
use Rattle.civl_condition_laws.proofs.Carrying.{same_linear}
use Rattle.civl_soundness.proofs.Sorted.{zeros_fit, none_at}
use Rattle.civl_reduction.proofs.permissions.Reaching.{meant_begins}
use Rattle.civl_goals.specs.declared.goal.Goal.TheVariants as goal
use Rattle.civl_goals.specs.Outlines.{exists_on_top, invariant_holds, written_before, note_holds}
use Rattle.civl_goals.specs.Variables.{variables, choices_at}
use Rattle.civl_goals.specs.Listed.{is_root, has_statement, begins, goals}
use Rattle.civl_goals.specs.Rules.{descending, form_descends}
use Rattle.civl_goals.specs.Failed.{owned_in, beside, does, other_of, loses_invariant, begins_badly, leads_astray, interferes, failed}
use Rattle.civl_safety.specs.Outlined.{IsOutlined}
use Rattle.civl_safety.proofs.Agreeing.{invariant_same, note_same}
use Rattle.civl_safety.proofs.Fitting.{written}
use Rattle.civl_safety.proofs.Gathering.{other_there, other_fit}
use Rattle.civl_safety.proofs.Listed.{next_listed, assert_listed, safe_listed, keep_listed, other_listed, spawn_listed, noted_listed}
use Rattle.civl_safety.proofs.Rooting.{statement_descends, call_acts}
use Rattle.civl_safety.proofs.Concluding.{linear_on_top, does_is, does_alike, IsAssumed, given, store_given, agrees, concluded, given_fit}

-- ---- steps that do alike

module _ (program : Program) where
  abbrev Alike : Change → Change → Type 0
  Alike a b = ChangesAgree (exists_on_top program) program.globals a b

  -- an action in both
  record ActsAlso (after : Store) (locals : List Value) (place : ℕ) (other : Change) : Type 0 where
    store : Store
    is : other ≡ Acts store locals place
    agree : StoresAgree (exists_on_top program) program.globals after store

  acts_also : (after : Store) (locals : List Value) (place : ℕ) (other : Change) → Alike (Acts after locals place) other → ActsAlso after locals place other
  acts_also after locals place (Acts t m q) a = record { store = t; is = ap₂ (λ (l : List Value) (n : ℕ). Acts t l n) (sym a.1) (sym a.2); agree = a.0 }
  acts_also after locals place _ a = absurd a

  goes_also : (locals : List Value) (place : ℕ) (other : Change) → Alike (Goes locals place) other → Goes locals place ≡ other
  goes_also locals place (Acts t m q) a = absurd a
  goes_also locals place _ a = a

  spawns_also : (thread : Running) (place : ℕ) (other : Change) → Alike (Spawns thread place) other → Spawns thread place ≡ other
  spawns_also thread place (Acts t m q) a = absurd a
  spawns_also thread place _ a = a

  fails_also : (one other : Change) → Alike one other → answers_failing one ≡ answers_failing other
  fails_also (Acts s l p) (Acts t m q) a = refl
  fails_also (Acts s l p) _ a = absurd a
  fails_also _ (Acts t m q) a = absurd a
  fails_also _ _ a = ap answers_failing a

-- ---- a call that makes no frame

abbrev CallShape : Change → Type 0
CallShape (Stays a) = Unit {0}
CallShape (Acts store locals place) = Unit {0}
CallShape _ = ⊥

acted_shape : (names : List Name) (locals : List Value) (results : List Name) (next : ℕ) (f : Fired) → CallShape (acted names locals results next f)
acted_shape names locals results next fire.GateFalse = tt
acted_shape names locals results next fire.Blocked = tt
acted_shape names locals results next (fire.Moved store outs) = tt

call_shape : (plain : Plain) (g : Store) (chosen : List Value) (names : List Name) (locals : List Value) (results : List Name) (at next : ℕ) (m : Meaning) (args : List Value) → ((n : ℕ) (p : Proc) → m ≡ Runs n p → ⊥) → CallShape (done_by plain g chosen (call_doing names locals results at next m args))
call_shape plain g chosen names locals results at next (Does action) args h = by_tests (gate_holds plain.program.globals g action args) (choices_fit action chosen)
  where
    by_tests : (b c : Bool) → CallShape (if b then (if c then acted names locals results next (fired plain.program.globals g action args chosen) else Stays answer.BadChoices) else Stays answer.Failing)
    by_tests true true = acted_shape names locals results next (fired plain.program.globals g action args chosen)
    by_tests true false = tt
    by_tests false c = tt
call_shape plain g chosen names locals results at next (Runs n p) args h = h n p refl
call_shape plain g chosen names locals results at next Missing args h = tt

-- ---- choices

choices_zero : (program : Program) → Keeps typing_rules program → (number : ℕ) (action : Action) → slice_get program.actions number ≡ Some action → HaveSorts (map (λ c. zero_of c.sort) action.choices) (map (λ c. c.sort) action.choices)
choices_zero program keeps number action at =
    zeros_fit (λ (c : Choice). c.sort) action.choices (λ k c e. limits c.sort (not-false (sort_width_fits c.sort) (none_at choice_width action.choices wide k c e)) (none_at (λ (d : Choice). sort_index d.sort) action.choices low k c e))
  where
    wide : list_any choice_width action.choices ≡ false
    wide = (or_parts (list_any choice_width action.choices) (any_width (action_uses program action)) (or_parts (list_any (param_width program) (action.params ++ action.outs)) _ (action_kept typing_rules program keeps width_rule width_among number action at)).1).0

    low : list_any (λ c. sort_index c.sort) action.choices ≡ false
    low = (or_parts (list_any (λ c. sort_index c.sort) action.choices) (any_index (action_uses program action)) (or_parts (list_any (λ p. sort_index p.sort) (action.params ++ action.outs)) _ (action_kept typing_rules program keeps index_rule index_among number action at)).1).0

-- ---- notes

module _ (program : Program) (outline : Outline) where
  -- nothing is said where no note is written
  pub by_note : (h : Store) (f : Activation) (proc : Proc) → slice_get program.procs f.procedure ≡ Some proc → ((note : Note) → written_before program outline f.procedure f.place ≡ Some note → note_holds program outline h f ≡ true) → note_holds program outline h f ≡ true
  by_note h f proc at each = go (written_before program outline f.procedure f.place) refl
    where
      go : (w : Option Note) → written_before program outline f.procedure f.place ≡ w → note_holds program outline h f ≡ true
      go None e =
          ap (λ (q : Option Proc). option_map_or (λ p. option_map_or (λ note. holds_in (plain_note_values program.globals p h f.locals) note.expr) (written_before program outline f.procedure f.place) true) q true) at
          ∙ ap (λ (w : Option Note). option_map_or (λ note. holds_in (plain_note_values program.globals proc h f.locals) note.expr) w true) e
      go (Some note) e = each note e

module _ (program : Program) (layered : IsLayered program) (outline : Outline) (o : IsOutlined program outline)
    (r : ℕ) (proc : Proc) (at : slice_get program.procs r ≡ Some proc) (root : is_root proc ≡ true) (s : ℕ) (spot : Spot) (found : spot_at proc.body s ≡ Some spot) (stood : statement_at proc.body s ≡ Some spot.stmt)
    (g : Store) (fit : IsStore program.globals g) (locals : List Value) (sorted : HaveSorts locals (frame_sorts proc)) (is : IsAssumed program layered outline o r proc at root s spot found stood g fit locals sorted) where
  abbrev plain : Plain
  plain = topmost program

  abbrev frame : Activation
  frame = record { procedure = r; place = s; locals = locals }

  abbrev form : Stmt-F Stmt
  form = out-Stmt spot.stmt

  -- what the frame's statement does, by its form
  does_form : (chosen : List Value) (d : Stmt-F Stmt) → out-Stmt spot.stmt ≡ d → does program g frame chosen ≡ done_by plain g chosen (statement_doing plain proc locals spot.number spot.next d)
  does_form chosen d q = does_is program layered outline o r proc at root s spot found stood g fit locals sorted g chosen ∙ ap (λ (x : Stmt-F Stmt). done_by plain g chosen (statement_doing plain proc locals spot.number spot.next x)) q

  choices_are : choices_at program r s ≡ layer_choices plain (out-Stmt spot.stmt)
  choices_are =
      ap (λ (q : Option Proc). option_map_or (λ p. option_map_or (λ t. layer_choices plain (out-Stmt t)) (statement_at p.body s) []) q []) at
      ∙ ap (λ (q : Option Stmt). option_map_or (λ t. layer_choices plain (out-Stmt t)) q []) stood

  abbrev Chosen : Type 0
  Chosen = (chosen : List Value) × HaveSorts chosen (map (λ c. c.sort) (choices_at program r s))

  chosen_form : (d : Stmt-F Stmt) → out-Stmt spot.stmt ≡ d → (chosen : List Value) → HaveSorts chosen (map (λ c. c.sort) (layer_choices plain d)) → HaveSorts chosen (map (λ c. c.sort) (choices_at program r s))
  chosen_form d q chosen h = subst (λ (cs : List Choice). HaveSorts chosen (map (λ c. c.sort) cs)) (sym (choices_are ∙ ap (layer_choices plain) q)) h

  -- some choices fit
  some_chosen : Chosen
  some_chosen = by_form (out-Stmt spot.stmt) refl
    where
      by_meaning : (f : Name) (es : List Expr) (rs : List Name) → out-Stmt spot.stmt ≡ Call f es rs → (m : Meaning) → called plain f ≡ m → (chosen : List Value) × HaveSorts chosen (map (λ c. c.sort) (choices_of m))
      by_meaning f es rs q (Does action) e =
          let m = meant_begins program layered program.layers action (inl (r, s, proc, spot.stmt, f, es, rs, at, stood, q, e)) in
          (map (λ c. zero_of c.sort) action.choices, choices_zero program layered.rules m.0 action m.1)
      by_meaning f es rs q (Runs n p) e = ([], no_sorts)
      by_meaning f es rs q Missing e = ([], no_sorts)

      by_form : (d : Stmt-F Stmt) → out-Stmt spot.stmt ≡ d → Chosen
      by_form (Call f es rs) q = let c = by_meaning f es rs q (called plain f) refl in (c.0, chosen_form (Call f es rs) q c.0 c.1)
      by_form _ q = ([], chosen_form _ q [] no_sorts)

  -- a step stays, or it is made with choices that fit
  abbrev pub stays : Change → Bool
  stays (Stays a) = true
  stays _ = false

  abbrev pub Here : List Value → Type 0
  Here chosen = (stays (does program g frame chosen) ≡ true) ⊎ ((c : Chosen) × (does program g frame chosen ≡ does program g frame c.0))

  pub offered : (chosen : List Value) → All IsValue chosen → (stays (does program g frame chosen) ≡ true) ⊎ ((c : Chosen) × (does program g frame chosen ≡ does program g frame c.0))
  offered chosen fits = by_form (out-Stmt spot.stmt) refl
    where
      bad : (b : Bool) (c : Change) → stays (if b then (if false then c else Stays answer.BadChoices) else Stays answer.Failing) ≡ true
      bad true c = refl
      bad false c = refl

      by_call : (f : Name) (es : List Expr) (rs : List Name) → out-Stmt spot.stmt ≡ Call f es rs → (m : Meaning) → called plain f ≡ m → Here chosen
      by_call f es rs q (Does action) e = by_fit (choices_fit action chosen) refl
        where
          by_fit : (b : Bool) → choices_fit action chosen ≡ b → Here chosen
          by_fit true h = inr ((chosen, chosen_form (Call f es rs) q chosen (subst (λ (m : Meaning). HaveSorts chosen (map (λ c. c.sort) (choices_of m))) (sym e) (record { fit = fits; are = h }))), refl)
          by_fit false h =
              inl (ap stays (does_form chosen (Call f es rs) q ∙ ap (λ (m : Meaning). done_by plain g chosen (call_doing (names_in_proc proc) locals rs spot.number spot.next m (values_of (frame_values program.globals proc locals) es))) e)
              ∙ (ap (λ (b : Bool). stays (if gate_holds program.globals g action (values_of (frame_values program.globals proc locals) es) then (if b then acted (names_in_proc proc) locals rs spot.next (fired program.globals g action (values_of (frame_values program.globals proc locals) es) chosen) else Stays answer.BadChoices) else Stays answer.Failing)) h
              ∙ bad (gate_holds program.globals g action (values_of (frame_values program.globals proc locals) es)) (acted (names_in_proc proc) locals rs spot.next (fired program.globals g action (values_of (frame_values program.globals proc locals) es) chosen))))
      by_call f es rs q (Runs n p) e =
          inr (
            ([], chosen_form (Call f es rs) q [] (subst (λ (m : Meaning). HaveSorts [] (map (λ c. c.sort) (choices_of m))) (sym e) no_sorts)),
            does_form chosen (Call f es rs) q ∙ (ap (λ (m : Meaning). done_by plain g chosen (call_doing (names_in_proc proc) locals rs spot.number spot.next m (values_of (frame_values program.globals proc locals) es))) e
                ∙ (sym (ap (λ (m : Meaning). done_by plain g [] (call_doing (names_in_proc proc) locals rs spot.number spot.next m (values_of (frame_values program.globals proc locals) es))) e) ∙ sym (does_form [] (Call f es rs) q))),
          )
      by_call f es rs q Missing e =
          inr (
            ([], chosen_form (Call f es rs) q [] (subst (λ (m : Meaning). HaveSorts [] (map (λ c. c.sort) (choices_of m))) (sym e) no_sorts)),
            does_form chosen (Call f es rs) q ∙ (ap (λ (m : Meaning). done_by plain g chosen (call_doing (names_in_proc proc) locals rs spot.number spot.next m (values_of (frame_values program.globals proc locals) es))) e
                ∙ (sym (ap (λ (m : Meaning). done_by plain g [] (call_doing (names_in_proc proc) locals rs spot.number spot.next m (values_of (frame_values program.globals proc locals) es))) e) ∙ sym (does_form [] (Call f es rs) q))),
          )

      by_form : (d : Stmt-F Stmt) → out-Stmt spot.stmt ≡ d → Here chosen
      by_form (Call f es rs) q = by_call f es rs q (called plain f) refl
      by_form (Assert e) q = inr (([], chosen_form (Assert e) q [] no_sorts), does_form chosen (Assert e) q ∙ (by_truth (is_true (value_of (frame_values program.globals proc locals) e)) ∙ sym (does_form [] (Assert e) q)))
        where
          by_truth : (b : Bool) → done_by plain g chosen (if b then next.Goes locals spot.next else next.Fails) ≡ done_by plain g [] (if b then next.Goes locals spot.next else next.Fails)
          by_truth true = refl
          by_truth false = refl
      by_form _ q = inr (([], chosen_form _ q [] no_sorts), does_form chosen _ q ∙ sym (does_form [] _ q))

  -- ---- with choices that fit

  module _ (flat : descending program ≡ []) (chosen : List Value) (choices : HaveSorts chosen (map (λ c. c.sort) (choices_at program r s))) where
    abbrev values_with : List Value → List Value
    values_with rest = given program layered outline o r proc at root s spot found stood g fit locals sorted is chosen choices rest

    abbrev store_with : List Value → Store
    store_with rest = store_given program layered outline o r proc at root s spot found stood g fit locals sorted is chosen choices rest

    agree_with : (rest : List Value) → StoresAgree (exists_on_top program) program.globals g (store_with rest)
    agree_with rest = agrees program layered outline o r proc at root s spot found stood g fit locals sorted is chosen choices rest

    alike : (rest : List Value) → Alike program (does program g frame chosen) (does program (store_with rest) frame chosen)
    alike rest = does_alike program layered outline o r proc at root s spot found stood g fit locals sorted g (store_with rest) (agree_with rest) chosen

    -- as the goal on the next notes says
    next_there : leads_astray program outline (store_with []) frame (does program (store_with []) frame chosen) ≡ false
    unfolding failed variables
    next_there =
        concluded program layered outline o r proc at root s spot found stood g fit locals sorted is chosen choices [] (leads_astray program outline)
        (o.hold (goal.Next r s) (next_listed program outline r proc at root s spot.stmt stood) (values_with []) (given_fit program layered outline o r proc at root s spot found stood g fit locals sorted is chosen choices))

    goes_led : (ls : List Value) (place : ℕ) → does program g frame chosen ≡ Goes ls place → note_holds program outline g (moved_frame frame ls place) ≡ true
    goes_led ls place e =
        let same = goes_also program ls place (does program (store_with []) frame chosen) (subst (λ (c : Change). Alike program c (does program (store_with []) frame chosen)) e (alike [])) in
        let there : leads_astray program outline (store_with []) frame (Goes ls place) ≡ false = subst (λ (c : Change). leads_astray program outline (store_with []) frame c ≡ false) (sym same) next_there in
        note_same program layered outline o.fits g (store_with []) (agree_with []) (moved_frame frame ls place) ∙ not-false (note_holds program outline (store_with []) (moved_frame frame ls place)) there

    spawns_led : (new : Running) (place : ℕ) → does program g frame chosen ≡ Spawns new place → note_holds program outline g (moved_frame frame locals place) ≡ true
    spawns_led new place e =
        let same = spawns_also program new place (does program (store_with []) frame chosen) (subst (λ (c : Change). Alike program c (does program (store_with []) frame chosen)) e (alike [])) in
        let there : leads_astray program outline (store_with []) frame (Spawns new place) ≡ false = subst (λ (c : Change). leads_astray program outline (store_with []) frame c ≡ false) (sym same) next_there in
        note_same program layered outline o.fits g (store_with []) (agree_with []) (moved_frame frame locals place) ∙ not-false (note_holds program outline (store_with []) (moved_frame frame locals place)) there

    acts_led : (after : Store) (ls : List Value) (place : ℕ) → does program g frame chosen ≡ Acts after ls place → note_holds program outline after (moved_frame frame ls place) ≡ true
    acts_led after ls place e =
        let also = acts_also program after ls place (does program (store_with []) frame chosen) (subst (λ (c : Change). Alike program c (does program (store_with []) frame chosen)) e (alike [])) in
        let there : leads_astray program outline (store_with []) frame (Acts also.store ls place) ≡ false = subst (λ (c : Change). leads_astray program outline (store_with []) frame c ≡ false) also.is next_there in
        note_same program layered outline o.fits after also.store also.agree (moved_frame frame ls place) ∙ not-false (note_holds program outline also.store (moved_frame frame ls place)) there

    -- ---- a call

    module _ (f : Name) (es : List Expr) (rs : List Name) (q : out-Stmt spot.stmt ≡ Call f es rs) where
      keep_there : loses_invariant program outline (store_with []) frame (does program (store_with []) frame chosen) ≡ false
      unfolding failed variables
      keep_there =
          concluded program layered outline o r proc at root s spot found stood g fit locals sorted is chosen choices [] (loses_invariant program outline)
          (o.hold (goal.Keep r s) (keep_listed program outline r proc at root s spot.stmt stood f es rs q) (values_with []) (given_fit program layered outline o r proc at root s spot found stood g fit locals sorted is chosen choices))

      acts_kept : (after : Store) (ls : List Value) (place : ℕ) → does program g frame chosen ≡ Acts after ls place → invariant_holds program outline after ≡ true
      acts_kept after ls place e =
          let also = acts_also program after ls place (does program (store_with []) frame chosen) (subst (λ (c : Change). Alike program c (does program (store_with []) frame chosen)) e (alike [])) in
          let there : loses_invariant program outline (store_with []) frame (Acts also.store ls place) ≡ false = subst (λ (c : Change). loses_invariant program outline (store_with []) frame c ≡ false) also.is keep_there in
          invariant_same program layered outline o.fits after also.store also.agree ∙ not-false (invariant_holds program outline also.store) there

      -- another thread's frame
      module _ (k t : ℕ) (other : Proc) (there : slice_get program.procs k ≡ Some other) (rest : List Value) (sorts : HaveSorts rest (frame_sorts other)) where
        kept_beside : (stmt : Stmt) → statement_at other.body t ≡ Some stmt → is_root other ≡ true → is_some (written_before program outline k t) ≡ true
            → interferes program outline (record { procedure = k; place = t; locals = rest }) (store_with rest) frame (does program (store_with rest) frame chosen) ≡ false
        unfolding failed variables
        kept_beside stmt here roots w =
            subst (λ (f : Activation). interferes program outline f (store_with rest) frame (does program (store_with rest) frame chosen) ≡ false) (other_there program g fit r proc at locals sorted s chosen choices rest k t other there sorts)
            (concluded program layered outline o r proc at root s spot found stood g fit locals sorted is chosen choices rest (interferes program outline (other_of program (values_with rest) r s k t))
            (o.hold (goal.Other r s k t) (other_listed program outline r proc at root s spot.stmt stood f es rs q k t (noted_listed program outline k other there roots t stmt here w)) (values_with rest) (other_fit program g fit r proc at locals sorted s chosen choices k other there rest sorts)))

        pub others_kept : (after : Store) (ls : List Value) (place : ℕ) → does program g frame chosen ≡ Acts after ls place → note_holds program outline g (record { procedure = k; place = t; locals = rest }) ≡ true
            → pairwise_disjoint (in_store program g ++ (owned_in program frame ++ owned_in program (record { procedure = k; place = t; locals = rest }))) ≡ true → note_holds program outline after (record { procedure = k; place = t; locals = rest }) ≡ true
        others_kept after ls place e holds apart =
            by_note program outline after (record { procedure = k; place = t; locals = rest }) other there (λ note w.
            let known = written program outline o.fits k t other there note w in
            let within = known.within in
            let counts = sizes_are_counts other.body in
            let stmt = get_there (statements_of other.body) t (omega (arith, within, counts)) in
            by_goal (kept_beside stmt.0 stmt.1 known.root (ap is_some w)))
          where
            also : ActsAlso program after ls place (does program (store_with rest) frame chosen)
            also = acts_also program after ls place (does program (store_with rest) frame chosen) (subst (λ (c : Change). Alike program c (does program (store_with rest) frame chosen)) e (alike rest))

            beside_there : beside program outline (store_with rest) frame (record { procedure = k; place = t; locals = rest }) ≡ true
            beside_there =
                and_from _ _ (sym (note_same program layered outline o.fits g (store_with rest) (agree_with rest) (record { procedure = k; place = t; locals = rest })) ∙ holds)
                (ap (λ (ps : List (List ℕ)). pairwise_disjoint (ps ++ (owned_in program frame ++ owned_in program (record { procedure = k; place = t; locals = rest })))) (sym (same_linear (exists_on_top program) program.globals g.values (store_with rest).values (linear_on_top program layered) (agree_with rest))) ∙ apart)

            by_goal : interferes program outline (record { procedure = k; place = t; locals = rest }) (store_with rest) frame (does program (store_with rest) frame chosen) ≡ false → note_holds program outline after (record { procedure = k; place = t; locals = rest }) ≡ true
            by_goal h =
                let one : interferes program outline (record { procedure = k; place = t; locals = rest }) (store_with rest) frame (Acts also.store ls place) ≡ false = subst (λ (c : Change). interferes program outline (record { procedure = k; place = t; locals = rest }) (store_with rest) frame c ≡ false) also.is h in
                let two = not_second (beside program outline (store_with rest) frame (record { procedure = k; place = t; locals = rest })) _ beside_there one in
                note_same program layered outline o.fits after also.store also.agree (record { procedure = k; place = t; locals = rest }) ∙ not-false (note_holds program outline also.store (record { procedure = k; place = t; locals = rest })) two

    -- ---- a spawn

    module _ (f : Name) (es : List Expr) (q : out-Stmt spot.stmt ≡ Spawn f es) where
      first_there : begins program f ≡ true → begins_badly program outline (store_with []) frame (does program (store_with []) frame chosen) ≡ false
      unfolding failed variables
      first_there b =
          concluded program layered outline o r proc at root s spot found stood g fit locals sorted is chosen choices [] (begins_badly program outline)
          (o.hold (goal.Spawn r s) (spawn_listed program outline r proc at root s spot.stmt stood f es q b) (values_with []) (given_fit program layered outline o r proc at root s spot found stood g fit locals sorted is chosen choices))

      pub first_led : (new : Running) (place : ℕ) → new.callee ≡ proc_number program f → does program g frame chosen ≡ Spawns new place → (callee : Proc) → slice_get program.procs new.callee ≡ Some callee → note_holds program outline g (new_frame new.callee callee new.args) ≡ true
      first_led new place number e callee there =
          by_note program outline g (new_frame new.callee callee new.args) callee there (λ note w.
          let known = written program outline o.fits new.callee 0 callee there note w in
          let named : proc_named program f ≡ Some callee = sym (proc_is program f) ∙ (ap (slice_get program.procs) (sym number) ∙ there) in
          let some : begins program f ≡ true = ap (λ (p : Option Proc). option_map_or has_statement p false) named ∙ lt-ltb 0 (sizes_of callee.body) known.within in
          let same = spawns_also program new place (does program (store_with []) frame chosen) (subst (λ (c : Change). Alike program c (does program (store_with []) frame chosen)) e (alike [])) in
          let one : begins_badly program outline (store_with []) frame (Spawns new place) ≡ false = subst (λ (c : Change). begins_badly program outline (store_with []) frame c ≡ false) (sym same) (first_there some) in
          let two : not (note_holds program outline (store_with []) (new_frame new.callee callee new.args)) ≡ false =
          sym (ap (λ (p : Option Proc). on_some (option_map (λ p. new_frame new.callee p new.args) p) (λ first. not (note_holds program outline (store_with []) first))) there) ∙ one in
          note_same program layered outline o.fits g (store_with []) (agree_with []) (new_frame new.callee callee new.args) ∙ not-false (note_holds program outline (store_with []) (new_frame new.callee callee new.args)) two)

    -- ---- all changes

    -- the note of another root's frame beside it stays
    abbrev pub KeepsOthers : Store → Type 0
    KeepsOthers after =
        (k t : ℕ) (other : Proc) (rest : List Value) → slice_get program.procs k ≡ Some other → HaveSorts rest (frame_sorts other) → note_holds program outline g (record { procedure = k; place = t; locals = rest }) ≡ true
        → pairwise_disjoint (in_store program g ++ (owned_in program frame ++ owned_in program (record { procedure = k; place = t; locals = rest }))) ≡ true → note_holds program outline after (record { procedure = k; place = t; locals = rest }) ≡ true

    abbrev pub LedTo : Change → Type 0
    LedTo (Stays a) = Unit {0}
    LedTo (Goes ls place) = note_holds program outline g (moved_frame frame ls place) ≡ true
    LedTo (Acts after ls place) = (invariant_holds program outline after ≡ true) × (note_holds program outline after (moved_frame frame ls place) ≡ true) × KeepsOthers after
    LedTo (Enters top place) = ⊥
    LedTo (Leaves k) = k ≡ None
    LedTo (Spawns new place) =
        (note_holds program outline g (moved_frame frame locals place) ≡ true) × (new.state ≡ Before)
        × ((callee : Proc) → slice_get program.procs new.callee ≡ Some callee → note_holds program outline g (new_frame new.callee callee new.args) ≡ true)

    call_led : (f : Name) (es : List Expr) (rs : List Name) → out-Stmt spot.stmt ≡ Call f es rs → (c : Change) → CallShape c → does program g frame chosen ≡ c → LedTo c
    call_led f es rs q (Stays a) h e = tt
    call_led f es rs q (Acts after ls place) h e = (
      acts_kept f es rs q after ls place e,
      acts_led after ls place e,
      λ k t other rest there sorts holds apart. others_kept f es rs q k t other there rest sorts after ls place e holds apart,
    )
    call_led f es rs q _ h e = absurd h

    assert_led : (b : Bool) → does program g frame chosen ≡ done_by plain g chosen (if b then next.Goes locals spot.next else next.Fails) → LedTo (done_by plain g chosen (if b then next.Goes locals spot.next else next.Fails))
    assert_led true e = goes_led locals spot.next e
    assert_led false e = tt

    abbrev tested : Expr → Bool
    tested e = is_true (value_of (frame_values program.globals proc locals) e)

    abbrev spawned : Name → List Expr → Running
    spawned f es = record { callee = proc_number program f; args = values_of (frame_values program.globals proc locals) es; state = Before }

    form_led : (d : Stmt-F Stmt) → out-Stmt spot.stmt ≡ d → LedTo (done_by plain g chosen (statement_doing plain proc locals spot.number spot.next d))
    form_led (Call f es rs) q =
        call_led f es rs q (done_by plain g chosen (statement_doing plain proc locals spot.number spot.next (Call f es rs)))
        (call_shape plain g chosen (names_in_proc proc) locals rs spot.number spot.next (called plain f) (values_of (frame_values program.globals proc locals) es)
        (call_acts program layered flat f (subst (λ (d : Stmt-F Stmt). form_descends program d ≡ false) q (statement_descends program layered flat r proc at root s spot.stmt stood))))
        (does_form chosen (Call f es rs) q)
    form_led (Assert e) q = assert_led (is_true (value_of (frame_values program.globals proc locals) e)) (does_form chosen (Assert e) q)
    form_led (Spawn f es) q = (
      spawns_led (spawned f es) spot.next (does_form chosen (Spawn f es) q),
      refl,
      first_led f es q (spawned f es) spot.next refl (does_form chosen (Spawn f es) q),
    )
    form_led (Yield e) q = tt
    form_led Commit q = tt
    form_led (Intro x e) q = tt
    form_led (Assign x e) q = goes_led (slice_set locals (place_of (names_in_proc proc) x) (value_of (frame_values program.globals proc locals) e)) spot.next (does_form chosen (Assign x e) q)
    form_led (If e a b) q = goes_led locals (if tested e then start_of a (spot.number + 1) spot.next else start_of b (spot.number + 1 + sizes_of a) spot.next) (does_form chosen (If e a b) q)
    form_led (While e a) q = goes_led locals (if tested e then start_of a (spot.number + 1) spot.number else spot.next) (does_form chosen (While e a) q)
    form_led (YieldLoop e i a) q = goes_led locals (if tested e then start_of a (spot.number + 1) spot.number else spot.next) (does_form chosen (YieldLoop e i a) q)
    form_led (RankLoop e k i a) q = goes_led locals (if tested e then start_of a (spot.number + 1) spot.number else spot.next) (does_form chosen (RankLoop e k i a) q)

    pub led : LedTo (does program g frame chosen)
    led = subst LedTo (sym (does_form chosen (out-Stmt spot.stmt) refl)) (form_led (out-Stmt spot.stmt) refl)

  -- ---- it doesn't fail

  module _ (chosen : List Value) (choices : HaveSorts chosen (map (λ c. c.sort) (choices_at program r s))) where
    fails_is : (h : Store) → answers_failing (does program h frame chosen) ≡ fails_at plain h (proc_doing plain None frame (slice_get program.procs r))
    fails_is h = failing_is_done plain h chosen (proc_doing plain None frame (slice_get program.procs r))

    abbrev store_so : Store
    store_so = store_given program layered outline o r proc at root s spot found stood g fit locals sorted is chosen choices []

    by_safe : fails_at plain store_so (proc_doing plain None frame (slice_get program.procs r)) ≡ false → fails_at plain g (proc_doing plain None frame (slice_get program.procs r)) ≡ false
    by_safe h =
        sym (fails_is g)
        ∙ (fails_also program (does program g frame chosen) (does program store_so frame chosen)
        (does_alike program layered outline o r proc at root s spot found stood g fit locals sorted g store_so (agrees program layered outline o r proc at root s spot found stood g fit locals sorted is chosen choices []) chosen)
        ∙ (fails_is store_so ∙ h))

    safe_there : Contains (goals program outline) (goal.Safe r s) → fails_at plain g (proc_doing plain None frame (slice_get program.procs r)) ≡ false
    unfolding failed variables
    safe_there listed =
        by_safe
        (concluded program layered outline o r proc at root s spot found stood g fit locals sorted is chosen choices [] (λ h f change. fails_at plain h (proc_doing plain None f (slice_get program.procs r)))
        (o.hold (goal.Safe r s) listed (given program layered outline o r proc at root s spot found stood g fit locals sorted is chosen choices []) (given_fit program layered outline o r proc at root s spot found stood g fit locals sorted is chosen choices)))

    pub safe_so : fails_at plain g (proc_doing plain None frame (slice_get program.procs r)) ≡ false
    safe_so = by_form (out-Stmt spot.stmt) refl
      where
        fails_form : (d : Stmt-F Stmt) → out-Stmt spot.stmt ≡ d → fails_at plain g (proc_doing plain None frame (slice_get program.procs r)) ≡ fails_at plain g (statement_doing plain proc locals spot.number spot.next d)
        fails_form d q =
            ap (λ (x : Option Proc). fails_at plain g (proc_doing plain None frame x)) at
            ∙ (ap (λ (x : Option Spot). fails_at plain g (spot_doing plain None frame proc x)) found
            ∙ ap (λ (x : Stmt-F Stmt). fails_at plain g (statement_doing plain proc locals spot.number spot.next x)) q)

        by_form : (d : Stmt-F Stmt) → out-Stmt spot.stmt ≡ d → fails_at plain g (proc_doing plain None frame (slice_get program.procs r)) ≡ false
        by_form (Call f es rs) q = safe_there (safe_listed program outline r proc at root s spot.stmt stood f es rs q)
        by_form (Assert e) q = safe_there (assert_listed program outline r proc at root s spot.stmt stood e q)
        by_form _ q = fails_form _ q

  pub safe : fails_at plain g (proc_doing plain None frame (slice_get program.procs r)) ≡ false
  safe = safe_so some_chosen.0 some_chosen.1
