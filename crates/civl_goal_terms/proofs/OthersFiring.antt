-- What a call does in the topmost program, and what a sweep makes of it: it fires where the sweep is still here.
use Rattle.std.specs.Prelude.{◌&&◌, if◌then◌else◌}
use Rattle.std.proofs.Common.{◌≡◌, ◌∙◌, Bool, true, false, List, refl, ap, Option, None, Some}
use Rattle.civl_bits.specs.declared.value.Value.{Value}
use Rattle.civl_tree.specs.declared.name.Name.{Name}
use Rattle.civl_tree.specs.declared.stmt.Stmt.{Stmt, out-Stmt}
use Rattle.civl_tree.specs.declared.stmt.Stmt.TheOpen.{Stmt-F, Assign, Assert, If, While, YieldLoop, RankLoop, Call, Yield, Commit, Intro, Spawn}
use Rattle.civl_tree.specs.declared.action.Action.{Action}
use Rattle.civl_tree.specs.declared.program.Proc.{Proc}
use Rattle.civl_tree.specs.declared.program.Program.{Program}
use Rattle.civl_tree.specs.rules.Names.{names_in_proc}
use Rattle.civl_firing.specs.declared.store.Store.{Store}
use Rattle.civl_firing.specs.declared.firing.Fired.TheVariants as fire
use Rattle.civl_firing.specs.Fired.{gate_holds, guard_holds, choices_fit, store_after, outs_after, fires, fired, fired_by}
use Rattle.civl_meaning.specs.declared.config.Stepped.TheVariants as answer
use Rattle.civl_meaning.specs.declared.config.Change.{Change}
use Rattle.civl_meaning.specs.declared.config.Change.TheVariants.{Stays}
use Rattle.civl_meaning.specs.Change.{acted, done_by, call_doing, statement_doing, spot_doing, proc_doing}
use Rattle.civl_meaning.specs.Layers.{topmost}
use Rattle.civl_meaning.specs.Meaning.{Meaning, Does, Runs, Missing, called}
use Rattle.civl_meaning.specs.Places.{Spot}
use Rattle.civl_conditions.specs.Movers.{on_some}
use Rattle.civl_moves.specs.sweeps.Sweeps.{with_meaning}
use Rattle.civl_body.specs.Passing.{course_in}
use Rattle.civl_goals.specs.Failed.{does, fired_store}
use Rattle.civl_goal_terms.specs.declared.places.At.{At}
use Rattle.civl_goal_terms.specs.inner.Places.{IsAt}
use Rattle.civl_goal_terms.specs.inner.Settings.{Here, frame_at}
use Rattle.civl_goal_terms.specs.inner.Steps.{moved, begun, swept_by}
use Rattle.civl_goal_terms.specs.inner.There.{IsCall}

module _ (program : Program) (at : At) (here : Here) (test : Store → Bool) where
  abbrev proc : Proc
  proc = at.proc.now

  -- where an action fires, and then the test is true
  abbrev happens : Change → Bool
  happens change = on_some (fired_store change) test

  module _ (results : List Name) (a : Action) (args : List Value) where
    abbrev after : Store
    after = store_after program.globals here.store a args here.chosen

    abbrev outs : List Value
    outs = outs_after program.globals here.store a args here.chosen

    by_tests : (gate fits guard : Bool)
        → happens (if gate
        then (if fits then acted (names_in_proc proc) here.locals results at.next (if gate then fired_by (if guard then Some (after, outs) else None) else fire.GateFalse) else Stays answer.BadChoices)
        else Stays answer.Failing)
        ≡ (((true && gate) && (fits && guard)) && test after)
    by_tests true true true = refl
    by_tests true true false = refl
    by_tests true false guard = refl
    by_tests false fits guard = refl

  by_meaning : (m : Meaning) (results : List Name) (args : List Value)
      → happens (done_by (topmost program) here.store here.chosen (call_doing (names_in_proc proc) here.locals results at.number at.next m args))
      ≡ ((with_meaning (course_in program program.layers proc (λ number. here.chosen)) results m args here.chosen (begun here)).live
      && test (with_meaning (course_in program program.layers proc (λ number. here.chosen)) results m args here.chosen (begun here)).store)
  unfolding fired fires
  by_meaning (Does a) results args = by_tests results a args (gate_holds program.globals here.store a args) (choices_fit a here.chosen) (guard_holds program.globals here.store a args here.chosen)
  by_meaning (Runs number q) results args = refl
  by_meaning Missing results args = refl

  by_form : (form : Stmt-F Stmt) → IsCall form
      → happens (done_by (topmost program) here.store here.chosen (statement_doing (topmost program) proc here.locals at.number at.next form))
      ≡ ((moved (course_in program program.layers proc (λ number. here.chosen)) at.number form (begun here)).live && test (moved (course_in program program.layers proc (λ number. here.chosen)) at.number form (begun here)).store)
  by_form (Call f es rs) h = by_meaning (called (topmost program) f) rs _
  by_form (Assign x e) h = absurd h
  by_form (Assert e) h = absurd h
  by_form (If e a b) h = absurd h
  by_form (While e a) h = absurd h
  by_form (YieldLoop e i a) h = absurd h
  by_form (RankLoop e r i a) h = absurd h
  by_form (Yield i) h = absurd h
  by_form Commit h = absurd h
  by_form (Intro x e) h = absurd h
  by_form (Spawn f es) h = absurd h

  -- what stands there is what is done
  does_there : IsAt program at → does program here.store (frame_at at here) here.chosen ≡ done_by (topmost program) here.store here.chosen (statement_doing (topmost program) proc here.locals at.number at.next (out-Stmt at.stmt.now))
  does_there is =
      ap (λ (o : Option Proc). done_by (topmost program) here.store here.chosen (proc_doing (topmost program) None (frame_at at here) o)) is.proc
      ∙ ap (λ (o : Option Spot). done_by (topmost program) here.store here.chosen (spot_doing (topmost program) None (frame_at at here) proc o)) is.spot

  -- a call fires just where the sweep is here, and leads to its store
  pub call_fires : IsAt program at → IsCall (out-Stmt at.stmt.now) → on_some (fired_store (does program here.store (frame_at at here) here.chosen)) test ≡ ((swept_by program at here).live && test (swept_by program at here).store)
  call_fires is call = ap happens (does_there is) ∙ by_form (out-Stmt at.stmt.now) call
