-- A sweep over a call follows the path.
use Rattle.std.proofs.Common.{◌≡◌, ◌∙◌, ℕ, ◌+◌, Bool, true, false, ◌&&◌, ◌||◌, not, List, refl, ap}
use Rattle.std.specs.Prelude.{if◌then◌else◌, Some, None}
use Rattle.std.proofs.lemmas.Bool.{or_right, and_left}
use Rattle.std.proofs.Math.Bool.{and-true, and-false, or-false}
use Rattle.civl_bits.specs.declared.value.Value.{Value}
use Rattle.civl_tree.specs.declared.name.Name.{Name}
use Rattle.civl_tree.specs.declared.expr.Expr.{Expr}
use Rattle.civl_tree.specs.declared.action.Action.{Action}
use Rattle.civl_tree.specs.declared.stmt.Stmt.TheOpen as stmt
use Rattle.civl_tree.specs.rules.Names.{names_in_proc}
use Rattle.civl_firing.specs.declared.store.Store.{Store}
use Rattle.civl_firing.specs.declared.firing.Fired.{Fired}
use Rattle.civl_firing.specs.declared.firing.Fired.TheVariants as fire
use Rattle.civl_firing.specs.Eval.{values_of}
use Rattle.civl_firing.specs.Scope.{frame_values}
use Rattle.civl_firing.specs.Fired.{gate_holds, guard_holds, choices_fit, store_after, outs_after, fires, fired, fired_by}
use Rattle.civl_meaning.specs.declared.config.Stepped.TheVariants as answer
use Rattle.civl_meaning.specs.declared.config.Change.TheVariants.{Stays}
use Rattle.civl_meaning.specs.Meaning.{Meaning, Does, Runs, Missing, called}
use Rattle.civl_meaning.specs.Change.{with_results, acted, action_change, done_by, call_doing}
use Rattle.civl_conditions.specs.paths.Paths.{Course, came, stepped}
use Rattle.civl_moves.specs.sweeps.Sweeps.{Swept, standing, with_action, with_meaning, with_call}
use Rattle.civl_moves.specs.sweeps.Draws.{Draws}
use Rattle.civl_moves.proofs.sweeps.Drawing.{Here, Idle, Follows, still_idle, past_draws, fails_draws, stops_draws}
use Rattle.civl_moves.proofs.sweeps.Following.{or_false_and, halted_follows}

-- by whether the gate is true, the choices fit, and the guard is true
abbrev pub fired_where : Bool → Bool → Store → List Value → Fired
fired_where gate guard store outs = if gate then fired_by (if guard then Some (store, outs) else None) else fire.GateFalse

abbrev done_where : Bool → Bool → Bool → Store → List Value → List Name → List Name → Swept → Swept
done_where gate fit guard store outs names results d = record d {
  live = (d.live && gate) && (fit && guard);
  broken = d.broken || (d.live && not gate);
  store = store;
  locals = with_results names d.locals results outs;
}

module _ (store : Store) (outs : List Value) (names results : List Name) (next : ℕ) (d : Swept) (h : Here d) where
  live_by : (gate go : Bool) → gate ≡ true → go ≡ true → ((d.live && gate) && go) ≡ true
  live_by gate go e f = ap (λ (b : Bool). (d.live && b) && go) e ∙ ap (λ (b : Bool). b && go) (and-true d.live ∙ h.live) ∙ f

  whole_by : (gate : Bool) → gate ≡ true → (d.broken || (d.live && not gate)) ≡ false
  whole_by gate e = ap (λ (b : Bool). d.broken || (d.live && not b)) e ∙ ap (λ (b : Bool). d.broken || b) (and-false d.live) ∙ or-false d.broken ∙ h.whole

  done_draws : (gate fit guard : Bool) → Draws (came (standing d) (if gate then (if fit then acted names d.locals results next (fired_where gate guard store outs) else Stays answer.BadChoices) else Stays answer.Failing)) (done_where gate fit guard store outs names results d)
  done_draws true true true = past_draws _ (record { onward = h.onward; live = live_by true true refl refl; whole = whole_by true refl; free = h.free })
  done_draws true true false = stops_draws (standing d) _ (and-false (d.live && true)) (whole_by true refl) refl h.free
  done_draws true false guard = stops_draws (standing d) _ (and-false (d.live && true)) (whole_by true refl) refl h.free
  done_draws false fit guard = fails_draws (standing d) _ (and_left (d.live && false) (fit && guard) (and-false d.live)) (or_right d.broken (d.live && true) (and-true d.live ∙ h.live)) refl h.free

action_draws : (c : Course) (results : List Name) (at : ℕ) (a : Action) (inputs chosen : List Value) (d : Swept) → Here d
    → Draws (came (standing d) (action_change c.plain d.store chosen (names_in_proc c.proc) d.locals results (at + 1) a inputs)) (with_action c results a inputs chosen d)
unfolding fired fires
action_draws c results at a inputs chosen d h =
    done_draws (store_after c.plain.program.globals d.store a inputs chosen) (outs_after c.plain.program.globals d.store a inputs chosen) (names_in_proc c.proc) results (at + 1) d h
    (gate_holds c.plain.program.globals d.store a inputs) (choices_fit a chosen) (guard_holds c.plain.program.globals d.store a inputs chosen)

meaning_draws : (c : Course) (results : List Name) (at : ℕ) (m : Meaning) (inputs chosen : List Value) (d : Swept) → Here d
    → Draws (came (standing d) (done_by c.plain d.store chosen (call_doing (names_in_proc c.proc) d.locals results at (at + 1) m inputs))) (with_meaning c results m inputs chosen d)
meaning_draws c results at (Does a) inputs chosen d h = action_draws c results at a inputs chosen d h
meaning_draws c results at (Runs number proc) inputs chosen d h = halted_follows.on d h
meaning_draws c results at Missing inputs chosen d h = halted_follows.on d h

meaning_idle : (c : Course) (results : List Name) (m : Meaning) (inputs chosen : List Value) (d : Swept) → d.live ≡ false → Idle d (with_meaning c results m inputs chosen d)
meaning_idle c results (Does a) inputs chosen d l =
    still_idle d (with_action c results a inputs chosen d)
    (and_left _ _ (and_left d.live (gate_holds c.plain.program.globals d.store a inputs) l))
    (or_false_and d.broken d.live (not (gate_holds c.plain.program.globals d.store a inputs)) l) refl refl
meaning_idle c results (Runs number proc) inputs chosen d l = halted_follows.idle d l
meaning_idle c results Missing inputs chosen d l = halted_follows.idle d l

pub call_follows : (c : Course) (f : Name) (es : List Expr) (results : List Name) (at : ℕ) → Follows (stepped c (stmt.Call f es results) at) (with_call c f es results at)
call_follows c f es results at = record {
  on = λ d h. meaning_draws c results at (called c.plain f) (values_of (frame_values c.plain.program.globals c.proc d.locals) es) (c.chosen at) d h;
  idle = λ d l. meaning_idle c results (called c.plain f) (values_of (frame_values c.plain.program.globals c.proc d.locals) es) (c.chosen at) d l;
}
