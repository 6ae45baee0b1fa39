-- The bodies that a thread's frames run are run in its program, so that the actions they call exist in its layer.
use Rattle.std.proofs.Common.{◌≡◌, ℕ, Bool, true, false, List, [], ◌∷◌, refl, subst, Option, None, Some, slice_get}
use Rattle.civl_tree.specs.declared.name.Name.{Name}
use Rattle.civl_tree.specs.declared.action.Action.{Action}
use Rattle.civl_tree.specs.declared.program.Proc.{Proc}
use Rattle.civl_tree.specs.declared.program.Refines.{Refines}
use Rattle.civl_tree.specs.declared.stmt.Stmt.{Stmt, out-Stmt}
use Rattle.civl_tree.specs.declared.stmt.Stmt.TheOpen.{Stmt-F, Call}
use Rattle.civl_tree.specs.rules.Names.{action_named}
use Rattle.civl_meaning.specs.declared.config.Plain.{Plain}
use Rattle.civl_meaning.specs.declared.config.Activation.{Activation}
use Rattle.civl_meaning.specs.Places.{Spot, spot_at}
use Rattle.civl_meaning.specs.Meaning.{proc_number, meaning_of_action, refined, meaning_by, meaning_of, meaning_else, called}
use Rattle.civl_meaning.specs.Config.{IsBodyOf, LayerCalls, SpotCalls, ProcCalls, Waits, next_procedure, AreWaiting, IsStack}

module _ (plain : Plain) where
  -- a call of the procedure means its body
  abbrev pub BodyRuns : ℕ → Type 0
  BodyRuns n = slice_get plain.bodies n ≡ Some true

  action_runs_not : (o : Option Action) (n : ℕ) → IsBodyOf n (meaning_of_action o) → ⊥
  action_runs_not None n h = h
  action_runs_not (Some a) n h = h

  refined_runs_not : (o : Option Refines) (n : ℕ) → IsBodyOf n (refined plain.program o) → ⊥
  refined_runs_not None n h = h
  refined_runs_not (Some r) n h = action_runs_not (action_named plain.program r.action) n h

  by_meaning : (k n : ℕ) (body : Option Bool) (o : Option Proc) → slice_get plain.bodies k ≡ body → IsBodyOf n (meaning_by plain.program body k o) → BodyRuns n
  by_meaning k n body None e h = absurd h
  by_meaning k n (Some true) (Some proc) e h = subst BodyRuns h e
  by_meaning k n (Some false) (Some proc) e h = absurd (refined_runs_not proc.refines n h)
  by_meaning k n None (Some proc) e h = absurd h

  number_runs : (k n : ℕ) → IsBodyOf n (meaning_of plain k) → BodyRuns n
  number_runs k n h = by_meaning k n (slice_get plain.bodies k) (slice_get plain.program.procs k) refl h

  name_runs : (g : Name) (n : ℕ) → IsBodyOf n (called plain g) → BodyRuns n
  name_runs g n h = go (action_named plain.program g) h
    where
      go : (o : Option Action) → IsBodyOf n (meaning_else plain g o) → BodyRuns n
      go (Some a) k = absurd k
      go None k = number_runs (proc_number plain.program g) n k

  waits_run : (n : ℕ) (frame : Activation) → Waits plain n frame → BodyRuns n
  waits_run n frame w = by_proc (slice_get plain.program.procs frame.procedure) w
    where
      by_layer : (d : Stmt-F Stmt) → LayerCalls plain n d → BodyRuns n
      by_layer (Call g es rs) c = name_runs g n c
      by_layer _ c = absurd c

      by_spot : (o : Option Spot) → SpotCalls plain n frame.place o → BodyRuns n
      by_spot None c = absurd c
      by_spot (Some s) c = by_layer (out-Stmt s.stmt) c.1

      by_proc : (o : Option Proc) → ProcCalls plain n frame.place o → BodyRuns n
      by_proc None c = absurd c
      by_proc (Some proc) c = by_spot (spot_at proc.body frame.place) c

  last_runs : (below : List Activation) (top : Activation) → BodyRuns (next_procedure below top) → AreWaiting plain below top → BodyRuns top.procedure
  last_runs [] top h w = h
  last_runs (f ∷ fs) top h w = last_runs fs top (waits_run (next_procedure fs top) f w.0) w.1

  -- so it is with the topmost frame of a thread
  pub top_runs : (callee : ℕ) (below : List Activation) (top : Activation) → IsStack plain callee below top → BodyRuns top.procedure
  top_runs callee below top s = last_runs below top (number_runs callee (next_procedure below top) s.first) s.waiting
