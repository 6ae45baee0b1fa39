-- A frame of a procedure of the upper layer that is removed leaves its thread where the upper program's call of the refined
-- action leaves the caller.
use Rattle.std.proofs.Common.{◌≡◌, ℕ, ◌+◌, ◌-◌, Bool, true, false, List, [], ◌∷◌, ◌++◌, length, take, refl, sym, ap, ◌∙◌, subst, arith, Option, None, Some, slice_get}
use Rattle.std.specs.Prelude.{if◌then◌else◌}
use Rattle.std.proofs.lemmas.List.{length-append}
use Rattle.civl_bits.specs.declared.value.Value.{Value}
use Rattle.civl_firing.specs.values.Values.{is_true}
use Rattle.civl_tree.specs.declared.name.Name.{Name}
use Rattle.civl_tree.specs.declared.expr.Expr.{Expr}
use Rattle.civl_tree.specs.declared.program.Proc.{Proc}
use Rattle.civl_tree.specs.declared.program.Program.{Program}
use Rattle.civl_tree.specs.declared.stmt.Stmt.{Stmt, out-Stmt}
use Rattle.civl_tree.specs.declared.stmt.Stmt.TheOpen as stmt
use Rattle.civl_tree.specs.rules.Names.{names_in_proc}
use Rattle.civl_tree.proofs.Lists.{last_there}
use Rattle.civl_firing.specs.Eval.{value_of, values_of}
use Rattle.civl_firing.specs.Scope.{frame_values}
use Rattle.civl_meaning.specs.declared.config.Plain.{Plain}
use Rattle.civl_meaning.specs.declared.config.Activation.{Activation}
use Rattle.civl_meaning.specs.declared.config.State.{State}
use Rattle.civl_meaning.specs.declared.config.State.TheVariants.{Before, Inside, After}
use Rattle.civl_meaning.specs.declared.config.Running.{Running}
use Rattle.civl_meaning.specs.declared.config.Change.TheVariants as change
use Rattle.civl_meaning.specs.Places.{Spot, spot_at}
use Rattle.civl_meaning.specs.Meaning.{Meaning, Does, Runs, Missing, called}
use Rattle.civl_meaning.specs.Change.{with_results, returned_at, returned_in, returned_layer, returned, caller_of, outs_in, Doing, call_doing, statement_doing, leaving, spot_doing, proc_doing, state_doing, doing}
use Rattle.civl_meaning.specs.Layers.{program_at}
use Rattle.civl_meaning.specs.Step.{state_after, thread_after}
use Rattle.civl_meaning.proofs.Spots.{spot_stands}
use Rattle.civl_meaning.specs.Change as does
use Rattle.civl_reduction.specs.simulation.Alike.{CallsInstead}
use Rattle.civl_reduction.specs.simulation.Meets.{behind}

-- ---- the last of a list

without_last : {A : Type 0} (xs : List A) (x : A) → take (length xs) (xs ++ x ∷ []) ≡ xs
without_last [] x = refl
without_last {A = A} (y ∷ xs) x = ap (λ (r : List A). y ∷ r) (without_last xs x)

one_less : {A : Type 0} (xs : List A) (x : A) → length (xs ++ x ∷ []) - 1 ≡ length xs
one_less xs x = let e = length-append xs (x ∷ []) in omega (arith, e)

pub caller_is : (below : List Activation) (frame : Activation) → caller_of (below ++ frame ∷ []) ≡ Some frame
caller_is below frame = ap (slice_get (below ++ frame ∷ [])) (one_less below frame) ∙ last_there below frame

below_is : (below : List Activation) (frame : Activation) → take (length (below ++ frame ∷ []) - 1) (below ++ frame ∷ []) ≡ below
below_is below frame = ap (λ (n : ℕ). take n (below ++ frame ∷ [])) (one_less below frame) ∙ without_last below frame

-- ---- what a body is entered by

abbrev entered_at : Doing → Option ℕ
entered_at (does.Enters frame place) = Some place
entered_at _ = None

abbrev is_call : Doing → Bool
is_call (does.Calls names locals results next action args) = true
is_call _ = false

-- the frame that waits in a call, behind it
abbrev back : Activation → Doing → List Value → Activation
back frame (does.Calls names locals results next action args) outs = record { procedure = frame.procedure; place = next; locals = with_results names locals results outs }
back frame _ outs = frame

module _ (program : Program) (layer : ℕ) where
  abbrev lower : Plain
  lower = program_at program layer

  abbrev upper : Plain
  upper = program_at program (layer + 1)

  module _ (outs : List Value) (frame first : Activation) (place : ℕ) where
    abbrev waiting : Activation
    waiting = record { procedure = frame.procedure; place = place; locals = frame.locals }

    -- the lower program enters a body here, and the upper one calls an action
    record Differ (up low : Doing) : Type 0 where
      enters : low ≡ does.Enters first place
      calls : is_call up ≡ true

    module _ (proc : Proc) (s : Spot) (found : spot_at proc.body frame.place ≡ Some s) where
      by_meaning : (f : Name) (es : List Expr) (rs : List Name) → out-Stmt s.stmt ≡ stmt.Call f es rs → (up low : Meaning) (args : List Value)
          → Differ (call_doing (names_in_proc proc) frame.locals rs s.number s.next up args) (call_doing (names_in_proc proc) frame.locals rs s.number s.next low args)
          → returned_at waiting outs proc (spot_at proc.body place) ≡ back frame (call_doing (names_in_proc proc) frame.locals rs s.number s.next up args) outs
      by_meaning f es rs form (Does action) (Runs n p) args h =
          let at : s.number ≡ place = let e = ap entered_at h.enters in cc in
          ap (λ (k : ℕ). returned_at waiting outs proc (spot_at proc.body k)) (sym at)
          ∙ (ap (returned_at waiting outs proc) (spot_stands proc.body frame.place s found).again
          ∙ ap (λ (d : stmt.Stmt-F Stmt). record { procedure = frame.procedure; place = s.next; locals = returned_layer proc frame.locals outs d }) form)
      by_meaning f es rs form up (Does action) args h = absurd (let e = ap entered_at h.enters in cc)
      by_meaning f es rs form up Missing args h = absurd (let e = ap entered_at h.enters in cc)
      by_meaning f es rs form (Runs m q) (Runs n p) args h = absurd (let e = h.calls in cc)
      by_meaning f es rs form Missing (Runs n p) args h = absurd (let e = h.calls in cc)

      by_assert : (b : Bool) (locals : List Value) → (if b then does.Goes locals s.next else does.Fails) ≡ does.Enters first place → ⊥
      by_assert true locals e = let q = ap entered_at e in cc
      by_assert false locals e = let q = ap entered_at e in cc

      by_form : (d : stmt.Stmt-F Stmt) → out-Stmt s.stmt ≡ d → Differ (statement_doing upper proc frame.locals s.number s.next d) (statement_doing lower proc frame.locals s.number s.next d)
          → returned_at waiting outs proc (spot_at proc.body place) ≡ back frame (statement_doing upper proc frame.locals s.number s.next d) outs
      by_form (stmt.Call f es rs) form h = by_meaning f es rs form (called upper f) (called lower f) (values_of (frame_values program.globals proc frame.locals) es) h
      by_form (stmt.Assert e) form h = absurd (by_assert (is_true (value_of (frame_values program.globals proc frame.locals) e)) frame.locals h.enters)
      by_form _ form h = absurd (let e = h.calls in cc)

    by_leaving : (o : Option Activation) (vs : List Value) → leaving lower vs o ≡ does.Enters first place → ⊥
    by_leaving None vs e = let q = ap entered_at e in cc
    by_leaving (Some f) vs e = let q = ap entered_at e in cc

    by_spot : (o : Option Activation) (proc : Proc) (p : Option Spot) → spot_at proc.body frame.place ≡ p → Differ (spot_doing upper o frame proc p) (spot_doing lower o frame proc p)
        → returned_at waiting outs proc (spot_at proc.body place) ≡ back frame (spot_doing upper o frame proc p) outs
    by_spot o proc None found h = absurd (by_leaving o (outs_in proc frame.locals) h.enters)
    by_spot o proc (Some s) found h = by_form proc s found (out-Stmt s.stmt) refl h

    by_proc : (o : Option Activation) (p : Option Proc) → slice_get program.procs frame.procedure ≡ p → Differ (proc_doing upper o frame p) (proc_doing lower o frame p)
        → returned_in waiting outs p ≡ back frame (proc_doing upper o frame p) outs
    by_proc o None at h = absurd (let e = h.calls in cc)
    by_proc o (Some proc) at h = by_spot o proc (spot_at proc.body frame.place) refl h

  module _ (callee : ℕ) (args : List Value) where
    abbrev at_state : State → Running
    at_state state = record { callee = callee; args = args; state = state }

    abbrev behind_state : State → Doing → List Value → State
    behind_state state up outs = (behind (at_state state) up outs).state

    back_is : (below : List Activation) (frame : Activation) (up : Doing) (outs : List Value) → is_call up ≡ true → behind (at_state (Inside below frame)) up outs ≡ at_state (Inside below (back frame up outs))
    back_is below frame (does.Calls names locals results next action given) outs e = refl
    back_is below frame does.Fails outs e = absurd cc
    back_is below frame does.Waits outs e = absurd cc
    back_is below frame does.Ends outs e = absurd cc
    back_is below frame (does.Goes locals place) outs e = absurd cc
    back_is below frame (does.Enters f place) outs e = absurd cc
    back_is below frame (does.Leaves f) outs e = absurd cc
    back_is below frame (does.Spawns t place) outs e = absurd cc

    first_is : (up : Doing) (outs : List Value) → is_call up ≡ true → behind (at_state Before) up outs ≡ at_state After
    first_is (does.Calls names locals results next action given) outs e = refl
    first_is does.Fails outs e = absurd cc
    first_is does.Waits outs e = absurd cc
    first_is does.Ends outs e = absurd cc
    first_is (does.Goes locals place) outs e = absurd cc
    first_is (does.Enters f place) outs e = absurd cc
    first_is (does.Leaves f) outs e = absurd cc
    first_is (does.Spawns t place) outs e = absurd cc

    abbrev left_option : Doing → Option (Option Activation)
    left_option (does.Leaves o) = Some o
    left_option _ = None

    abbrev inside_below : State → List Activation
    inside_below (Inside below top) = below
    inside_below _ = []

    abbrev first_none : Option Activation
    first_none = None

    -- without the topmost frame
    abbrev gone : List Activation → Activation → Option (Option Activation) → Running
    gone below top (Some q) = at_state (state_after (Inside below top) (change.Leaves q))
    gone below top None = at_state After

    by_state : (state : State) (first top : Activation) (place : ℕ) (outs : List Value) → state_doing lower (at_state state) state ≡ does.Enters first place → is_call (state_doing upper (at_state state) state) ≡ true
        → (below : List Activation) → state_after state (change.Enters top place) ≡ Inside below top → (o : Option Activation) → leaving lower outs (caller_of below) ≡ does.Leaves o
        → at_state (state_after (state_after state (change.Enters top place)) (change.Leaves o)) ≡ behind (at_state state) (state_doing upper (at_state state) state) outs
    by_state Before first top place outs e c below s o l =
        let none : below ≡ [] = sym (ap inside_below s) in
        let is : Some first_none ≡ Some o = ap left_option (subst (λ (b : List Activation). leaving lower outs (caller_of b) ≡ does.Leaves o) none l) in
        ap (gone [] top) (sym is) ∙ sym (first_is (state_doing upper (at_state Before) Before) outs c)
    by_state (Inside below0 frame) first top place outs e c below s o l =
        let wait : Activation = record { procedure = frame.procedure; place = place; locals = frame.locals } in
        let all : below ≡ below0 ++ wait ∷ [] = sym (ap inside_below s) in
        let m : leaving lower outs (Some wait) ≡ does.Leaves o = ap (leaving lower outs) (sym (caller_is below0 wait)) ∙ subst (λ (b : List Activation). leaving lower outs (caller_of b) ≡ does.Leaves o) all l in
        let is : Some (Some (returned lower outs wait)) ≡ Some o = ap left_option m in
        let same = by_proc outs frame first place (caller_of below0) (slice_get program.procs frame.procedure) refl (record { enters = e; calls = c }) in
        ap (gone (below0 ++ wait ∷ []) top) (sym is)
        ∙ (ap (λ (bs : List Activation). at_state (Inside bs (returned lower outs wait))) (below_is below0 wait)
        ∙ (ap (λ (f : Activation). at_state (Inside below0 f)) same
        ∙ sym (back_is below0 frame (state_doing upper (at_state (Inside below0 frame)) (Inside below0 frame)) outs c)))
    by_state After first top place outs e c below s o l = absurd cc

-- where the frame that the call made is removed, with these outputs
pub returns_behind : (program : Program) (layer : ℕ) (caller : Running) (first top : Activation) (place : ℕ) (outs : List Value) (low : Doing) → doing (program_at program layer) caller ≡ does.Enters first place → CallsInstead program (layer + 1) (doing (program_at program (layer + 1)) caller) low
    → (below : List Activation) → (thread_after caller (change.Enters top place)).state ≡ Inside below top → (o : Option Activation) → leaving (program_at program layer) outs (caller_of below) ≡ does.Leaves o
    → thread_after (thread_after caller (change.Enters top place)) (change.Leaves o) ≡ behind caller (doing (program_at program (layer + 1)) caller) outs
returns_behind program layer caller first top place outs low e c below s o l = by_state program layer caller.callee caller.args caller.state first top place outs e (ap is_call c.calls) below s o l
