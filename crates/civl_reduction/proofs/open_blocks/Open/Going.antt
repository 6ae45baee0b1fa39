-- An open block stays open in the steps of its thread.
use Rattle.std.proofs.Common.{◌≡◌, ℕ, ◌+◌, ◌-◌, ◌≤◌, true, false, List, [], ◌∷◌, Option, None, Some, refl, sym, ap, ◌∙◌, subst, arith}
use Rattle.std.specs.Prelude.{slice_get, is_some, All}
use Rattle.std.proofs.lemmas.Bool.{true≢false}
use Rattle.std.proofs.lemmas.Option.{same_Some}
use Rattle.civl_bits.specs.Value.{IsValue}
use Rattle.civl_bits.specs.declared.value.Value.{Value}
use Rattle.civl_tree.specs.declared.program.Refines.{Refines}
use Rattle.civl_tree.specs.declared.program.Proc.{Proc}
use Rattle.civl_tree.specs.declared.program.Program.{Program}
use Rattle.civl_tree.specs.declared.stmt.Stmt.{Stmt, out-Stmt}
use Rattle.civl_tree.specs.declared.stmt.Stmt.TheOpen as stmt
use Rattle.civl_tree.specs.Numbering.{statement_at}
use Rattle.civl_tree.specs.rules.Rules.{Keeps}
use Rattle.civl_tree.proofs.Kept.{statement_kept}
use Rattle.civl_firing.specs.values.Values.{HaveSorts}
use Rattle.civl_firing.specs.declared.store.Store.{Store}
use Rattle.civl_firing.specs.Stores.{IsStore}
use Rattle.civl_meaning.specs.declared.config.Plain.{Plain}
use Rattle.civl_meaning.specs.declared.config.Activation.{Activation}
use Rattle.civl_meaning.specs.declared.config.Running.{Running}
use Rattle.civl_meaning.specs.declared.config.Stepped.TheVariants as answer
use Rattle.civl_meaning.specs.declared.config.State.{State}
use Rattle.civl_meaning.specs.declared.config.Change.{Change}
use Rattle.civl_meaning.specs.declared.config.Change.TheVariants.{Stays, Goes, Acts, Enters, Leaves, Spawns}
use Rattle.civl_meaning.specs.Places.{Spot, spot_at}
use Rattle.civl_meaning.specs.Rest.{rest_at}
use Rattle.civl_meaning.specs.Change.{done_by, spot_doing, proc_doing, state_doing, change_of, caller_of}
use Rattle.civl_meaning.specs.Config.{frame_sorts, StateIsSorted, moved_frame}
use Rattle.civl_meaning.specs.Layers.{program_at}
use Rattle.civl_meaning.proofs.Rests.{spot_of_rest}
use Rattle.civl_layers.specs.declared.cut.Cut.{Cut}
use Rattle.civl_layers.specs.declared.cut.CutKind.{CutKind}
use Rattle.civl_layers.specs.declared.cut.CutKind.TheVariants as kind
use Rattle.civl_layers.proofs.PlainPrograms.{layered_is_plain}
use Rattle.civl_yields.specs.Places.{form_misplaced, stmt_misplaced}
use Rattle.civl_yields.specs.YieldRules.{commit_rule, yield_rules}
use Rattle.civl_conditions.specs.paths.Paths.{Progress, path_from, has_failed}
use Rattle.civl_conditions.specs.paths.Runs.{Standing}
use Rattle.civl_conditions.specs.paths.Seen.{IsProcOf, lower_course}
use Rattle.civl_conditions.proofs.paths.Belonging.{own_place, rest_belongs}
use Rattle.civl_conditions.proofs.paths.Standing.{begins_stands}
use Rattle.civl_soundness.proofs.Fitting.{Fits}
use Rattle.civl_soundness.proofs.Changing.{change_fits}
use Rattle.civl_conditions.specs.Values.{Begun}
use Rattle.civl_conditions.specs.Assumed.{inputs_of}
use Rattle.civl_condition_laws.specs.States.{BeginsAs}
use Rattle.civl_reduction.specs.open_blocks.Ends.{IsAssumed}
use Rattle.civl_reduction.proofs.open_blocks.Ends.Concluding.{paths_do_not_fail}
use Rattle.civl_reduction.specs.open_blocks.Following.{with_choices, cut_ahead, form_plain, HasNoPlainLoops, led_here, frame_does, FollowsOn, StepFollows}
use Rattle.civl_reduction.proofs.open_blocks.Following.Onward.{rest_onward, head_splits}
use Rattle.civl_reduction.proofs.open_blocks.Following.Leading.{led_stays}
use Rattle.civl_reduction.proofs.open_blocks.Following.Frames.{frames_follow}
use Rattle.civl_reduction.specs.open_blocks.Open.{IsSound, IsTopmost, beginning, choosing, IsOpen, StaysOpen, StepStaysOpen, OpenBlocksGoOn}
use Rattle.civl_reduction.proofs.open_blocks.Open.Introducing.{led_sorted}
use Rattle.civl_reduction.proofs.open_blocks.Open.Inputs.{InputsStay, inputs_stay}
use Rattle.civl_reduction.proofs.open_blocks.Open.Choices.{goes_whatever, acts_fitting, AllFit, more_fit, same_fit}

-- ---- places

-- what comes next stands in the body at its number
pub spot_stands : (body : List Stmt) (place : ℕ) (s : Spot) → spot_at body place ≡ Some s → statement_at body s.number ≡ Some s.stmt
spot_stands body place s e =
    let split = head_splits body (rest_at body place) s (rest_belongs body place) (rest_onward body place) (sym (spot_of_rest body place) ∙ e) in
    begins_stands body s.number s.stmt split.behind (own_place body ((s.number, s.stmt) ∷ split.behind) split.belongs)

no_plain : (d : stmt.Stmt-F Stmt) → form_misplaced true d ≡ false → form_plain d ≡ false
no_plain (stmt.While t a) e = absurd (true≢false e)
no_plain _ e = refl

-- a procedure that refines an action has no plain loop
pub no_plain_loops : (program : Program) (q step : ℕ) (proc : Proc) → Keeps yield_rules program → IsProcOf program q step proc → HasNoPlainLoops proc
no_plain_loops program q step proc yields of number s at =
    no_plain (out-Stmt s)
    (sym (ap (λ (o : Option Refines). form_misplaced (is_some o) (out-Stmt s)) of.refined)
    ∙ statement_kept yield_rules program yields commit_rule (2, omega arith, refl) (stmt_misplaced proc) q proc of.there refl number s at)

-- ---- threads

module _ (program : Program) (step q : ℕ) (proc : Proc) (thread : Running) (frame : Activation) (there : slice_get program.procs q ≡ Some proc) (top : IsTopmost program step q thread frame) where
  abbrev plain : Plain
  plain = program_at program (step - 1)

  its_proc : slice_get program.procs frame.procedure ≡ Some proc
  its_proc = ap (slice_get program.procs) top.procedure ∙ there

  -- what a thread does is what its topmost frame does
  pub thread_does : (g : Store) (values : List Value) (s : Spot) → spot_at proc.body frame.place ≡ Some s → change_of plain g values thread ≡ frame_does program step proc g values frame s
  thread_does g values s e =
      ap (λ (x : State). done_by plain g values (state_doing plain thread x)) top.inside
      ∙ ap (λ (x : Option Proc). done_by plain g values (proc_doing plain (caller_of top.below) frame x)) its_proc
      ∙ ap (λ (x : Option Spot). done_by plain g values (spot_doing plain (caller_of top.below) frame proc x)) e

  -- the frame's locals have their sorts
  pub frame_sorted : HaveSorts frame.locals (frame_sorts proc)
  frame_sorted =
      let h = (subst (StateIsSorted plain thread) top.inside top.sorted).2 in
      let same : h.proc ≡ proc = same_Some h.proc proc (sym h.there ∙ its_proc) in
      subst (λ (p : Proc). HaveSorts frame.locals (frame_sorts p)) same h.locals

-- ---- the step

-- the beginning is of its kind whatever the choices
pub begins_with : (proc : Proc) (b : Begun) (chosen : ℕ → List Value) (k : CutKind) → BeginsAs proc k b → BeginsAs proc k (choosing b chosen)
begins_with proc b chosen kind.Entry h =
    (record { rest = h.0.rest; done = h.0.done }, record { store = h.1.store; outs = h.1.outs; done = h.1.done })
begins_with proc b chosen kind.Yield h = record { store = h.store; outs = h.outs; done = h.done }
begins_with proc b chosen kind.YieldLoop h = record { store = h.store; outs = h.outs; done = h.done }
begins_with proc b chosen kind.RankLoop h = tt

module _ (program : Program) (step q c : ℕ) (proc : Proc) (cut : Cut) (b : Begun) (bound : ℕ) (here : Standing) (store : Store) (frame : Activation) (thread : Running) (values : List Value) (s : Spot)
    (sound : IsSound program) (opened : IsOpen program step q c proc cut b bound here store frame) (top : IsTopmost program step q thread frame) (are : All IsValue values)
    (away : cut_ahead proc.body here.place ≡ None) (there : spot_at proc.body frame.place ≡ Some s) where
  abbrev lower : Plain
  lower = program_at program (step - 1)

  abbrev state : Progress
  state = led_here program step proc here

  of : IsProcOf program q step proc
  of = opened.assumed.of_cut.of_proc

  stands : statement_at proc.body s.number ≡ Some s.stmt
  stands = spot_stands proc.body frame.place s there

  follows : (v : List Value) → (bound ≤ s.number) × StepFollows program step proc cut (beginning b) b.chosen s v here store frame (frame_does program step proc store v frame s)
  follows v = frames_follow program q step proc cut (beginning b) b.chosen bound here store frame v s sound.layered of (no_plain_loops program q step proc sound.yields of) opened.follows away there

  fit : AllFit program step proc cut b.chosen
  fit number choices among = opened.assumed.begun.chosen number choices among

  -- what is assumed, with other choices
  assumed_with : (chosen : ℕ → List Value) → AllFit program step proc cut chosen → IsAssumed program step q c proc cut (choosing b chosen)
  assumed_with chosen h =
      let old = opened.assumed.begun in
      record {
        of_cut = opened.assumed.of_cut;
        begun = record { store = old.store; locals = old.locals; old = old.old; old_outs = old.old_outs; chosen = h; begins = begins_with proc b chosen cut.kind old.begins };
        holds = opened.assumed.holds;
      }

  locals_sorted : HaveSorts here.state.locals (frame_sorts proc)
  locals_sorted = subst (λ (ls : List Value). HaveSorts ls (frame_sorts proc)) (sym opened.follows.alike.locals) (frame_sorted program step q proc thread frame of.there top)

  state_fits : IsStore program.globals state.store
  state_fits = led_sorted program step q proc sound.layered of.there here opened.fits locals_sorted

  state_done : b.done ≡ true → state.done ≡ true
  state_done d = (led_stays program q step proc sound.layered of store (λ n. []) here.place here.state opened.follows.alike.stores).done (opened.done d)

  -- the parameters behind a step
  abbrev Inputs : Change → Type 0
  Inputs x = InputsStay proc frame.locals x

  inputs_kept : (v : List Value) → Inputs (frame_does program step proc store v frame s)
  inputs_kept v = inputs_stay program sound.layered.rules sound.linear q proc of.there s.number s.stmt stands lower refl store v frame.locals s.number s.next

  inputs_same : (locals : List Value) → inputs_of proc locals ≡ inputs_of proc frame.locals → inputs_of proc locals ≡ inputs_of proc b.locals
  inputs_same locals e = e ∙ ap (inputs_of proc) (sym opened.follows.alike.locals) ∙ opened.inputs

  open_on : (chosen : ℕ → List Value) (inner after : Store) (locals : List Value) (place : ℕ) → AllFit program step proc cut chosen → IsStore program.globals inner → inputs_of proc locals ≡ inputs_of proc frame.locals
      → bound ≤ s.number → FollowsOn program step proc cut (beginning b) chosen (s.number + 1) here inner after (moved_frame frame locals place)
      → StaysOpen program step q c proc cut b bound here inner after (moved_frame frame locals place)
  open_on chosen inner after locals place h hs i low f = record {
    chosen = chosen;
    later = s.number + 1;
    rises = omega (arith, low);
    next = f.next;
    goes = f.goes;
    place = f.place;
    state = f.state;
    opened = record {
      assumed = assumed_with chosen h;
      follows = f.follows;
      fits = subst (λ (p : Progress). IsStore program.globals p.store) (sym f.state) hs;
      inputs = ap (λ (p : Progress). inputs_of proc p.locals) f.state ∙ inputs_same locals i;
      done = λ d. ap (λ (p : Progress). p.done) f.state ∙ state_done d;
    };
  }

  -- an action's store behind it
  inner_fits : (inner : Store) (locals : List Value) (place : ℕ) → frame_does program step proc state.store values frame s ≡ Acts inner locals place → IsStore program.globals inner
  inner_fits inner locals place e =
      let fits = change_fits lower (layered_is_plain program sound.layered (step - 1)) state.store state_fits values are thread top.sorted top.stacked in
      (subst (Fits lower thread.state) (thread_does program step q proc thread frame of.there top state.store values s there ∙ e) fits).0

  abbrev Stays_so : Change → Type 0
  Stays_so x = StepStaysOpen program step q c proc cut b bound here store frame s values x

  goes_on : (locals : List Value) (place : ℕ) → frame_does program step proc store values frame s ≡ Goes locals place → Stays_so (Goes locals place)
  goes_on locals place e =
      let v = b.chosen s.number in
      let same = goes_whatever lower store proc frame.locals s.number s.next values v (out-Stmt s.stmt) locals place e in
      let f = follows v in
      open_on (with_choices b.chosen s.number v) state.store store locals place (same_fit program step proc cut b.chosen fit s.number) state_fits
      (subst Inputs e (inputs_kept values)) f.0 (subst (StepFollows program step proc cut (beginning b) b.chosen s v here store frame) same f.1)

  acts_on : (after : Store) (locals : List Value) (place : ℕ) → frame_does program step proc store values frame s ≡ Acts after locals place → Stays_so (Acts after locals place)
  acts_on after locals place e =
      let f = follows values in
      let g = subst (StepFollows program step proc cut (beginning b) b.chosen s values here store frame) e f.1 in
      let fits = more_fit program step proc cut b.chosen fit s.number s.stmt stands values (acts_fitting lower store proc frame.locals s.number s.next values are (out-Stmt s.stmt) after locals place e) in
      (g.0, g.1, open_on (with_choices b.chosen s.number values) g.0 after locals place fits (inner_fits g.0 locals place g.1) (subst Inputs e (inputs_kept values)) f.0 g.2)

  no_failure : frame_does program step proc store values frame s ≡ Stays answer.Failing → ⊥
  no_failure e =
      let failed : has_failed (path_from (lower_course program step proc b.chosen) cut (beginning b)) ≡ true = subst (StepFollows program step proc cut (beginning b) b.chosen s values here store frame) e (follows values).1 in
      true≢false (sym failed ∙ paths_do_not_fail program step q c proc cut b sound.layered sound.hold opened.assumed)

  by_change : (x : Change) → frame_does program step proc store values frame s ≡ x → Stays_so x
  by_change (Goes locals place) e = goes_on locals place e
  by_change (Acts after locals place) e = acts_on after locals place e
  by_change (Stays answer.Failing) e = no_failure e
  by_change (Stays answer.Moved) e = tt
  by_change (Stays answer.Blocked) e = tt
  by_change (Stays answer.NoThread) e = tt
  by_change (Stays answer.Ended) e = tt
  by_change (Stays answer.BadChoices) e = tt
  by_change (Enters other place) e = tt
  by_change (Leaves other) e = tt
  by_change (Spawns other place) e = tt

  pub stays_open : Stays_so (change_of lower store values thread)
  stays_open = subst Stays_so (sym (thread_does program step q proc thread frame of.there top store values s there)) (by_change (frame_does program step proc store values frame s) refl)

pub open_blocks_go_on : OpenBlocksGoOn
open_blocks_go_on program step q c proc cut b bound here store frame thread values s sound opened top are away there =
    stays_open program step q c proc cut b bound here store frame thread values s sound opened top are away there
