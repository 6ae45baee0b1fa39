-- What a thread does next, by where it stands.
use Rattle.std.proofs.Common.{◌≡◌, ◌≢◌, ℕ, suc, ◌+◌, ◌-◌, Bool, true, false, List, [], ◌∷◌, length, refl, sym, ap, ◌∙◌, subst, arith, Option, None, Some, slice_get}
use Rattle.std.specs.Prelude.{if◌then◌else◌}
use Rattle.std.proofs.lemmas.Bool.{false≢true, false_from_ne_true}
use Rattle.std.proofs.lemmas.Option.{none-some, same_Some}
use Rattle.civl_bits.specs.declared.value.Value.{Value}
use Rattle.civl_firing.specs.values.Values.{is_true}
use Rattle.civl_tree.specs.declared.name.Name.{Name}
use Rattle.civl_tree.specs.declared.expr.Expr.{Expr}
use Rattle.civl_tree.specs.declared.action.Action.{Action}
use Rattle.civl_tree.specs.declared.stmt.Stmt.{Stmt, out-Stmt}
use Rattle.civl_tree.specs.declared.stmt.Stmt.TheOpen.{Stmt-F, Assert, Call, Spawn}
use Rattle.civl_tree.specs.declared.stmt.Stmt.TheOpen as stmt
use Rattle.civl_tree.specs.declared.program.Refines.{Refines}
use Rattle.civl_tree.specs.declared.program.Proc.{Proc}
use Rattle.civl_tree.specs.declared.program.Program.{Program}
use Rattle.civl_tree.specs.rules.Rules.{Keeps}
use Rattle.civl_firing.specs.Eval.{value_of}
use Rattle.civl_firing.specs.Scope.{frame_values}
use Rattle.civl_meaning.specs.declared.config.Plain.{Plain}
use Rattle.civl_meaning.specs.declared.config.Activation.{Activation}
use Rattle.civl_meaning.specs.declared.config.State.{State}
use Rattle.civl_meaning.specs.declared.config.State.TheVariants.{Before, Inside, After}
use Rattle.civl_meaning.specs.declared.config.Running.{Running}
use Rattle.civl_meaning.specs.Places.{Spot, spot_at}
use Rattle.civl_meaning.specs.Rest.{Rest, rest_at}
use Rattle.civl_meaning.specs.Meaning.{Meaning, Does, Runs, Missing, called, meaning_of}
use Rattle.civl_meaning.specs.Layers.{program_at}
use Rattle.civl_meaning.specs.Change.{caller_of, outs_in, returned_at, returned_in, returned, Doing, call_doing, statement_doing, leaving, spot_doing, proc_doing, state_doing}
use Rattle.civl_meaning.specs.Config.{IsPlain, IsBodyOf, LayerCalls, SpotCalls, ProcCalls, Waits, AreWaiting, StateIsStacked}
use Rattle.civl_layers.specs.Layered.{IsLayered}
use Rattle.civl_layers.proofs.PlainPrograms.{layered_is_plain}
use Rattle.civl_conditions.specs.Steps.{refines_at, has_layer}
use Rattle.civl_conditions.proofs.Layered.{layered_by}
use Rattle.civl_yields.specs.Movers.{turns}
use Rattle.civl_yields.specs.Phases.{called_phase}
use Rattle.civl_yields.specs.YieldRules.{yield_rules}
use Rattle.civl_reduction.specs.interleavings.Reduction.{Place, Between, Early, Late}
use Rattle.civl_meaning.specs.Change as does
use Rattle.civl_reduction.specs.exchanges.Interleavings.{whole}
use Rattle.civl_reduction.specs.blocks.Blocks.{at_yield, framed_in, framed_state, block_in}
use Rattle.civl_reduction.specs.blocks.Ahead.{ahead_in}
use Rattle.civl_reduction.specs.blocks.Stands.{place_of_rest}
use Rattle.civl_reduction.specs.blocks.Turns.{NothingAheadBehindTurns, CallsRunNoBodies, LateDoes, AnyDoes, ThreadsTurnOnce}
use Rattle.civl_reduction.proofs.blocks.Standing.Below.{calls_no_body}
use Rattle.civl_reduction.proofs.blocks.Standing.Going.{roots_alone, AfterLate, late_goes_on, behind_turn}
use Rattle.civl_reduction.proofs.blocks.Standing.Phased.{layered_clean}
use Rattle.civl_reduction.proofs.blocks.Standing.Turning.{IsClean, enters_clean, nothing_ahead}
use Rattle.civl_reduction.proofs.blocks.Standing.Spots.{led, spot_belongs, stands_there, spot_clean}

module _ (program : Program) (layer : ℕ) where
  abbrev plain : Plain
  plain = program_at program layer

  abbrev state_stands : State → Place
  state_stands state = place_of_rest program (block_in (framed_state program (layer + 1) state))

  abbrev frame_stands : Activation → Option Proc → Place
  frame_stands frame o = place_of_rest program (block_in (framed_in (layer + 1) frame o))

  -- ---- frames

  -- the procedure with this number is of no layer above
  abbrev Outside : ℕ → Type 0
  Outside number = (proc : Proc) → slice_get program.procs number ≡ Some proc → has_layer (layer + 1) proc ≡ false

  outside : (frame : Activation) → Outside frame.procedure → frame_stands frame (slice_get program.procs frame.procedure) ≡ Between
  outside frame h = go (slice_get program.procs frame.procedure) h
    where
      by_layer : (b : Bool) (proc : Proc) → b ≡ false → place_of_rest program (block_in (if◌then◌else◌ {A = Option (Proc × Activation)} b (Some (proc, frame)) None)) ≡ Between
      by_layer false proc e = refl
      by_layer true proc e = absurd (false≢true (sym e))

      go : (o : Option Proc) → ((proc : Proc) → o ≡ Some proc → has_layer (layer + 1) proc ≡ false) → frame_stands frame o ≡ Between
      go None k = refl
      go (Some proc) k = by_layer (has_layer (layer + 1) proc) proc (k proc refl)

  -- where nothing is ahead a frame isn't early
  not_early : (proc : Proc) (frame : Activation) (o : Option Proc) → o ≡ Some proc → ahead_in program (rest_at proc.body frame.place) ≡ false → frame_stands frame o ≢ Early
  not_early proc frame o e h = subst (λ (p : Option Proc). frame_stands frame p ≢ Early) (sym e) (by_layer (has_layer (layer + 1) proc))
    where
      by_ahead : (b : Bool) → b ≡ false → (if b then Early else Late) ≢ Early
      by_ahead false q k = absurd cc
      by_ahead true q k = false≢true (sym q)

      by_yield : (b : Bool) → place_of_rest program (if◌then◌else◌ {A = Option Rest} b None (Some (rest_at proc.body frame.place))) ≢ Early
      by_yield true k = absurd cc
      by_yield false k = by_ahead (ahead_in program (rest_at proc.body frame.place)) h k

      by_layer : (b : Bool) → place_of_rest program (block_in (if◌then◌else◌ {A = Option (Proc × Activation)} b (Some (proc, frame)) None)) ≢ Early
      by_layer false k = absurd cc
      by_layer true k = by_yield (at_yield (rest_at proc.body frame.place)) k

  -- a frame that stands late
  record IsLate (frame : Activation) (proc : Proc) : Type 0 where
    pub refines : Refines
    pub refined : proc.refines ≡ Some refines
    pub layered : refines.layer ≡ layer + 1
    pub open_block : at_yield (rest_at proc.body frame.place) ≡ false
    pub nothing : ahead_in program (rest_at proc.body frame.place) ≡ false

  late_is : (frame : Activation) (proc : Proc) → frame_stands frame (Some proc) ≡ Late → IsLate frame proc
  late_is frame proc = by_layer (has_layer (layer + 1) proc) refl
    where
      rest : Rest
      rest = rest_at proc.body frame.place

      by_ahead : (b : Bool) → ahead_in program (rest_at proc.body frame.place) ≡ b → has_layer (layer + 1) proc ≡ true → at_yield (rest_at proc.body frame.place) ≡ false → (if b then Early else Late) ≡ Late → IsLate frame proc
      by_ahead true a l y e = absurd cc
      by_ahead false a l y e = let r = layered_by (layer + 1) proc.refines l in record { refines = r.0; refined = r.1; layered = r.2; open_block = y; nothing = a }

      by_yield : (b : Bool) → at_yield (rest_at proc.body frame.place) ≡ b → has_layer (layer + 1) proc ≡ true → place_of_rest program (if◌then◌else◌ {A = Option Rest} b None (Some (rest_at proc.body frame.place))) ≡ Late → IsLate frame proc
      by_yield true y l e = absurd cc
      by_yield false y l e = by_ahead (ahead_in program (rest_at proc.body frame.place)) refl l y e

      by_layer : (b : Bool) → has_layer (layer + 1) proc ≡ b → place_of_rest program (block_in (if◌then◌else◌ {A = Option (Proc × Activation)} b (Some (proc, frame)) None)) ≡ Late → IsLate frame proc
      by_layer false l e = absurd cc
      by_layer true l e = by_yield (at_yield (rest_at proc.body frame.place)) refl l e

  module _ (src : IsLayered program) (ok : IsPlain (program_at program layer)) (yields : Keeps yield_rules program) (callee : ℕ) (args : List Value) where
    abbrev at_state : State → Running
    at_state state = record { callee = callee; args = args; state = state }

    -- ---- frames that wait

    last_waits : (below : List Activation) (top f : Activation) → AreWaiting plain below top → slice_get below (length below - 1) ≡ Some f → Waits plain top.procedure f
    last_waits [] top f w e = absurd (none-some f e)
    last_waits (g ∷ []) top f w e = subst (Waits plain top.procedure) (same_Some g f e) w.0
    last_waits (g ∷ h ∷ fs) top f w e = last_waits (h ∷ fs) top f w.1 (sym (ap (slice_get (g ∷ h ∷ fs)) one) ∙ e)
      where
        one : length (g ∷ h ∷ fs) - 1 ≡ suc (length (h ∷ fs) - 1)
        one = omega arith

    -- a frame that waits in a call that runs a body is of no procedure of the layer above
    waits_outside : (n : ℕ) (f : Activation) → Waits plain n f → Outside f.procedure
    waits_outside n f w proc there = false_from_ne_true (has_layer (layer + 1) proc) (λ l. by_spot l (spot_at proc.body f.place) refl (subst (ProcCalls plain n f.place) there w))
      where
        by_meaning : (m : Meaning) → IsBodyOf n m → (number : ℕ) × (p : Proc) × (m ≡ Runs number p)
        by_meaning (Does a) b = absurd b
        by_meaning (Runs number p) b = (number, p, refl)
        by_meaning Missing b = absurd b

        by_form : has_layer (layer + 1) proc ≡ true → (s : Spot) → spot_at proc.body f.place ≡ Some s → (d : Stmt-F Stmt) → out-Stmt s.stmt ≡ d → LayerCalls plain n d → ⊥
        by_form l s at (Call g es rs) form c =
            let r = layered_by (layer + 1) proc.refines l in
            let low = r.2 in
            let m = by_meaning (called plain g) c in
            calls_no_body program layer src f.procedure proc r.0 there r.1 (omega (arith, low)) s.number s.stmt (stands_there program proc.body f.place s at) g es rs form m.0 m.1 m.2
        by_form l s at _ form c = c

        by_spot : has_layer (layer + 1) proc ≡ true → (o : Option Spot) → spot_at proc.body f.place ≡ o → SpotCalls plain n f.place o → ⊥
        by_spot l None at c = c
        by_spot l (Some s) at c = by_form l s at (out-Stmt s.stmt) refl c.1

    -- back from a body a frame is of the same procedure
    returned_same : (outs : List Value) (f : Activation) → (returned plain outs f).procedure ≡ f.procedure
    returned_same outs f = by_proc (slice_get program.procs f.procedure)
      where
        by_spot : (proc : Proc) (o : Option Spot) → (returned_at f outs proc o).procedure ≡ f.procedure
        by_spot proc None = refl
        by_spot proc (Some s) = refl

        by_proc : (o : Option Proc) → (returned_in f outs o).procedure ≡ f.procedure
        by_proc None = refl
        by_proc (Some proc) = by_spot proc (spot_at proc.body f.place)

    leaves_between : (below : List Activation) (top : Activation) → AreWaiting plain below top → (outs : List Value) → LateDoes program layer (whole (at_state (Inside below top)) (leaving plain outs (caller_of below)))
    leaves_between below top w outs = go (caller_of below) refl
      where
        go : (o : Option Activation) → caller_of below ≡ o → LateDoes program layer (whole (at_state (Inside below top)) (leaving plain outs o))
        go None e = λ h. absurd cc
        go (Some f) e = λ h.
            let out : Outside (returned plain outs f).procedure = subst Outside (sym (returned_same outs f)) (waits_outside top.procedure f (last_waits below top f w e)) in
            let b : Between ≡ Early = sym (outside (returned plain outs f) out) ∙ h in
            absurd cc

    -- ---- a thread that stands late

    late_whole : (below : List Activation) (top : Activation) (proc : Proc) → slice_get program.procs top.procedure ≡ Some proc → (D : Doing) → AfterLate program proc D → LateDoes program layer (whole (at_state (Inside below top)) D)
    late_whole below top proc there (does.Goes locals place) h = not_early proc (record { procedure = top.procedure; place = place; locals = locals }) (slice_get program.procs top.procedure) there h
    late_whole below top proc there (does.Calls names locals results next action vs) h = (h.0, λ outs. not_early proc (record { procedure = top.procedure; place = next; locals = _ }) (slice_get program.procs top.procedure) there h.1)
    late_whole below top proc there does.Fails h = tt
    late_whole below top proc there does.Waits h = h
    late_whole below top proc there does.Ends h = h
    late_whole below top proc there (does.Enters frame place) h = absurd h
    late_whole below top proc there (does.Leaves frame) h = absurd h
    late_whole below top proc there (does.Spawns thread place) h = h

    late_spot : (below : List Activation) (top : Activation) (proc : Proc) → slice_get program.procs top.procedure ≡ Some proc → IsLate top proc → AreWaiting plain below top → (o : Option Spot) → spot_at proc.body top.place ≡ o → LateDoes program layer (whole (at_state (Inside below top)) (spot_doing plain (caller_of below) top proc o))
    late_spot below top proc there l w None at = leaves_between below top w (outs_in proc top.locals)
    late_spot below top proc there l w (Some s) at =
        let lead = led program proc.body top.place s at in
        let too = lead.too l.open_block in
        let low = l.layered in
        late_whole below top proc there (statement_doing plain proc top.locals s.number s.next (out-Stmt s.stmt))
        (subst (λ (next : ℕ). AfterLate program proc (statement_doing plain proc top.locals s.number next (out-Stmt s.stmt))) (sym lead.next)
        (late_goes_on program layer src ok yields top.procedure proc l.refines there l.refined (omega (arith, low)) s.stmt s.number lead.rest top.locals lead.plain too.1 (stands_there program proc.body top.place s at) (spot_belongs program proc.body top.place s at) (sym too.0 ∙ l.nothing)))

    pub late_does : (state : State) → StateIsStacked plain callee state → state_stands state ≡ Late → LateDoes program layer (whole (at_state state) (state_doing plain (at_state state) state))
    late_does Before k e = absurd cc
    late_does After k e = absurd cc
    late_does (Inside below top) k e = by_proc (slice_get program.procs top.procedure) refl e
      where
        by_proc : (o : Option Proc) → slice_get program.procs top.procedure ≡ o → frame_stands top o ≡ Late → LateDoes program layer (whole (at_state (Inside below top)) (proc_doing plain (caller_of below) top o))
        by_proc None there h = absurd cc
        by_proc (Some proc) there h = late_spot below top proc there (late_is top proc h) k.waiting (spot_at proc.body top.place) refl

    -- ---- any thread

    module _ (below : List Activation) (top : Activation) (proc : Proc) (there : slice_get program.procs top.procedure ≡ Some proc) where
      same_proc : (other : Proc) → slice_get program.procs top.procedure ≡ Some other → proc ≡ other
      same_proc other e = same_Some proc other (sym there ∙ e)

      -- early behind a call, that is of a right mover
      early_call : (s : Spot) → spot_at proc.body top.place ≡ Some s → (g : Name) (es : List Expr) (rs : List Name) → out-Stmt s.stmt ≡ Call g es rs → (a : Action) → called plain g ≡ Does a → (frame : Activation) → frame.procedure ≡ top.procedure → frame.place ≡ s.next
          → frame_stands frame (slice_get program.procs frame.procedure) ≡ Early → turns a.mover ≡ false
      early_call s at g es rs form a does frame number place early = false_from_ne_true (turns a.mover) (λ t. by_layer (has_layer (layer + 1) proc) refl t)
        where
          here : slice_get program.procs frame.procedure ≡ Some proc
          here = ap (slice_get program.procs) number ∙ there

          by_layer : (b : Bool) → has_layer (layer + 1) proc ≡ b → turns a.mover ≡ true → ⊥
          by_layer false l t =
              let between = outside frame (λ other e. ap (λ (p : Proc). has_layer (layer + 1) p) (sym (same_Some proc other (sym here ∙ e))) ∙ l) in
              let b : Between ≡ Early = sym between ∙ early in
              absurd cc
          by_layer true l t =
              let r = layered_by (layer + 1) proc.refines l in
              let low = r.2 in
              let lead = led program proc.body top.place s at in
              let nothing = behind_turn program layer src ok yields top.procedure proc r.0 there r.1 (omega (arith, low)) s.stmt s.number lead.rest g es rs form (spot_belongs program proc.body top.place s at).1 (spot_clean program yields top.procedure proc r.0 there r.1 top.place s at) a does t in
              not_early proc frame (slice_get program.procs frame.procedure) here (ap (λ (n : ℕ). ahead_in program (rest_at proc.body n)) (place ∙ lead.next) ∙ nothing) early

      any_call : (s : Spot) → spot_at proc.body top.place ≡ Some s → (g : Name) (es : List Expr) (rs : List Name) → out-Stmt s.stmt ≡ Call g es rs → (names : List Name) (vs : List Value) → (m : Meaning) → called plain g ≡ m → AnyDoes program layer (whole (at_state (Inside below top)) (call_doing names top.locals rs s.number s.next m vs))
      any_call s at g es rs form names vs (Does a) e = λ outs early. early_call s at g es rs form a e (record { procedure = top.procedure; place = s.next; locals = _ }) refl refl early
      any_call s at g es rs form names vs (Runs n p) e = tt
      any_call s at g es rs form names vs Missing e = tt

      any_assert : (b : Bool) (next : ℕ) → AnyDoes program layer (whole (at_state (Inside below top)) (if b then does.Goes top.locals next else does.Fails))
      any_assert true next = tt
      any_assert false next = tt

      any_layer : (s : Spot) → spot_at proc.body top.place ≡ Some s → (d : Stmt-F Stmt) → out-Stmt s.stmt ≡ d → AnyDoes program layer (whole (at_state (Inside below top)) (statement_doing plain proc top.locals s.number s.next d))
      any_layer s at (Call g es rs) form = any_call s at g es rs form _ _ (called plain g) refl
      any_layer s at (Assert e) form = any_assert (is_true (value_of (frame_values program.globals proc top.locals) e)) s.next
      any_layer s at (Spawn g es) form =
          let root = roots_alone program yields top.procedure proc there s.number s.stmt (stands_there program proc.body top.place s at) g es form in
          (outside (record { procedure = top.procedure; place = s.next; locals = top.locals }) (λ other e. ap (λ (p : Proc). has_layer (layer + 1) p) (sym (same_proc other e)) ∙ ap (refines_at (layer + 1)) root), refl)
      any_layer s at _ form = tt

      any_leaves : (outs : List Value) (o : Option Activation) → AnyDoes program layer (whole (at_state (Inside below top)) (leaving plain outs o))
      any_leaves outs None = tt
      any_leaves outs (Some f) = tt

      any_spot : (o : Option Spot) → spot_at proc.body top.place ≡ o → AnyDoes program layer (whole (at_state (Inside below top)) (spot_doing plain (caller_of below) top proc o))
      any_spot None at = any_leaves (outs_in proc top.locals) (caller_of below)
      any_spot (Some s) at = any_layer s at (out-Stmt s.stmt) refl

    first_call : (m : Meaning) → AnyDoes program layer (whole (at_state Before) (call_doing [] [] [] 0 0 m args))
    first_call (Does a) = λ outs early. absurd cc
    first_call (Runs n p) = tt
    first_call Missing = tt

    pub any_does : (state : State) → AnyDoes program layer (whole (at_state state) (state_doing plain (at_state state) state))
    any_does Before = first_call (meaning_of plain callee)
    any_does After = tt
    any_does (Inside below top) = by_proc (slice_get program.procs top.procedure) refl
      where
        by_proc : (o : Option Proc) → slice_get program.procs top.procedure ≡ o → AnyDoes program layer (whole (at_state (Inside below top)) (proc_doing plain (caller_of below) top o))
        by_proc None there = tt
        by_proc (Some proc) there = any_spot below top proc there (spot_at proc.body top.place) refl

pub threads_turn_once : ThreadsTurnOnce
threads_turn_once program layer thread src yields stacked =
    let ok = layered_is_plain program src layer in
    (late_does program layer src ok yields thread.callee thread.args thread.state stacked, any_does program layer src ok yields thread.callee thread.args thread.state)

-- ---- bodies

pub calls_run_no_bodies : CallsRunNoBodies
calls_run_no_bodies program layer number at proc call callee args results src there layered here form n body =
    let r = layered_by (layer + 1) proc.refines layered in
    let low = r.2 in
    calls_no_body program layer src number proc r.0 there r.1 (omega (arith, low)) at call here callee args results form n body

pub nothing_ahead_behind_turns : NothingAheadBehindTurns
nothing_ahead_behind_turns program layer number place at proc call rest callee args results action yields there layered is form meant t =
    let r = layered_by layer proc.refines layered in
    let c = subst (IsClean program) is (layered_clean program yields number proc r.0 there r.1 place) in
    nothing_ahead program rest (enters_clean program call at rest c.0 c.1 (stmt.Call callee args results) form (ap (λ (o : Option Action). called_phase o false) meant ∙ t))
