-- What the topmost frame of a thread inside a block doesn't do.
use Rattle.std.proofs.Common.{◌≡◌, ℕ, ◌+◌, Bool, true, false, List, Option, None, Some, refl, ap, subst}
use Rattle.std.specs.Prelude.{slice_get, if◌then◌else◌}
use Rattle.civl_bits.specs.declared.value.Value.{Value}
use Rattle.civl_tree.specs.declared.name.Name.{Name}
use Rattle.civl_tree.specs.declared.expr.Expr.{Expr}
use Rattle.civl_tree.specs.declared.program.Proc.{Proc}
use Rattle.civl_tree.specs.declared.program.Program.{Program}
use Rattle.civl_tree.specs.declared.stmt.Stmt.{Stmt, out-Stmt}
use Rattle.civl_tree.specs.declared.stmt.Stmt.TheOpen as stmt
use Rattle.civl_tree.specs.rules.Names.{names_in_proc}
use Rattle.civl_firing.specs.declared.store.Store.{Store}
use Rattle.civl_firing.specs.declared.firing.Fired.{Fired}
use Rattle.civl_firing.specs.declared.firing.Fired.TheVariants as fire
use Rattle.civl_firing.specs.Eval.{value_of, values_of}
use Rattle.civl_firing.specs.Scope.{frame_values}
use Rattle.civl_firing.specs.Fired.{gate_holds, choices_fit, fired}
use Rattle.civl_firing.specs.values.Values.{is_true}
use Rattle.civl_meaning.specs.declared.config.Plain.{Plain}
use Rattle.civl_meaning.specs.declared.config.Activation.{Activation}
use Rattle.civl_meaning.specs.declared.config.Stepped.TheVariants as answer
use Rattle.civl_meaning.specs.declared.config.Change.{Change}
use Rattle.civl_meaning.specs.declared.config.Change.TheVariants.{Stays, Goes, Enters, Leaves, Spawns}
use Rattle.civl_meaning.specs.Meaning.{Meaning, Does, Runs, Missing, called}
use Rattle.civl_meaning.specs.Places.{Spot, spot_at}
use Rattle.civl_meaning.specs.Change.{acted, done_by, call_doing, statement_doing, returned_at, returned_in, returned}
use Rattle.civl_meaning.specs.Change as does
use Rattle.civl_meaning.specs.Config.{IsBodyOf, LayerCalls, SpotCalls, ProcCalls, Waits}
use Rattle.civl_meaning.specs.Layers.{program_at}
use Rattle.civl_layers.specs.Layered.{IsLayered}
use Rattle.civl_conditions.specs.Steps.{has_layer}
use Rattle.civl_reduction.proofs.blocks.Standing.Threads.{calls_run_no_bodies}
use Rattle.civl_reduction.proofs.open_blocks.Open.Going.{spot_stands}

-- ---- statements

abbrev pub Ordinary : Plain → stmt.Stmt-F Stmt → Change → Type 0
Ordinary plain d (Stays answer.Moved) = ⊥
Ordinary plain d (Leaves frame) = ⊥
Ordinary plain d (Enters frame place) = (g : Name) × (es : List Expr) × (rs : List Name) × (n : ℕ) × (p : Proc) × (d ≡ stmt.Call g es rs) × (called plain g ≡ Runs n p)
Ordinary plain d (Spawns thread place) = (f : Name) × (es : List Expr) × (d ≡ stmt.Spawn f es)
Ordinary plain d _ = Unit {0}

module _ (plain : Plain) (store : Store) (chosen : List Value) (proc : Proc) (locals : List Value) (n p : ℕ) where
  by_assert : (d : stmt.Stmt-F Stmt) (b : Bool) → Ordinary plain d (done_by plain store chosen (if b then does.Goes locals p else does.Fails))
  by_assert d true = tt
  by_assert d false = tt

  by_fired : (d : stmt.Stmt-F Stmt) (names rs : List Name) (f : Fired) → Ordinary plain d (acted names locals rs p f)
  by_fired d names rs fire.GateFalse = tt
  by_fired d names rs fire.Blocked = tt
  by_fired d names rs (fire.Moved g outs) = tt

  by_tests : (d : stmt.Stmt-F Stmt) (gate fit : Bool) (names rs : List Name) (f : Fired) → Ordinary plain d (if gate then (if fit then acted names locals rs p f else Stays answer.BadChoices) else Stays answer.Failing)
  by_tests d true true names rs f = by_fired d names rs f
  by_tests d true false names rs f = tt
  by_tests d false fit names rs f = tt

  by_call : (g : Name) (es : List Expr) (rs : List Name) (names : List Name) (args : List Value) (m : Meaning) → called plain g ≡ m → Ordinary plain (stmt.Call g es rs) (done_by plain store chosen (call_doing names locals rs n p m args))
  by_call g es rs names args (Does action) e = by_tests (stmt.Call g es rs) (gate_holds plain.program.globals store action args) (choices_fit action chosen) names rs (fired plain.program.globals store action args chosen)
  by_call g es rs names args (Runs number callee) e = (g, es, rs, number, callee, refl, e)
  by_call g es rs names args Missing e = tt

  pub ordinary : (d : stmt.Stmt-F Stmt) → Ordinary plain d (done_by plain store chosen (statement_doing plain proc locals n p d))
  ordinary (stmt.Call g es rs) = by_call g es rs (names_in_proc proc) (values_of (frame_values plain.program.globals proc locals) es) (called plain g) refl
  ordinary (stmt.Assert e) = by_assert (stmt.Assert e) (is_true (value_of (frame_values plain.program.globals proc locals) e))
  ordinary (stmt.Spawn f es) = (f, es, refl)
  ordinary (stmt.Assign x e) = tt
  ordinary (stmt.If e a b) = tt
  ordinary (stmt.While e a) = tt
  ordinary (stmt.YieldLoop e i a) = tt
  ordinary (stmt.RankLoop e r i a) = tt
  ordinary (stmt.Yield i) = tt
  ordinary stmt.Commit = tt
  ordinary (stmt.Intro x e) = tt

-- ---- frames that wait

module _ (program : Program) (layer : ℕ) (layered : IsLayered program) where
  abbrev lower : Plain
  lower = program_at program layer

  runs_body : (n : ℕ) (m : Meaning) → IsBodyOf n m → (p : Proc) × (m ≡ Runs n p)
  runs_body n (Does a) b = absurd b
  runs_body n (Runs number p) b = (p, ap (λ (k : ℕ). Runs k p) b)
  runs_body n Missing b = absurd b

  -- a frame that waits in a call that runs a body is of no procedure of the layer above
  pub waits_elsewhere : (n : ℕ) (f : Activation) (proc : Proc) → slice_get program.procs f.procedure ≡ Some proc → has_layer (layer + 1) proc ≡ true → Waits lower n f → ⊥
  waits_elsewhere n f proc there l w = by_spot (spot_at proc.body f.place) refl (subst (ProcCalls lower n f.place) there w)
    where
      by_form : (s : Spot) → spot_at proc.body f.place ≡ Some s → (d : stmt.Stmt-F Stmt) → out-Stmt s.stmt ≡ d → LayerCalls lower n d → ⊥
      by_form s at (stmt.Call g es rs) form c =
          let body = runs_body n (called lower g) c in
          calls_run_no_bodies program layer f.procedure s.number proc s.stmt g es rs layered there l (spot_stands proc.body f.place s at) form n body.0 body.1
      by_form s at _ form c = c

      by_spot : (o : Option Spot) → spot_at proc.body f.place ≡ o → SpotCalls lower n f.place o → ⊥
      by_spot None at c = c
      by_spot (Some s) at c = by_form s at (out-Stmt s.stmt) refl c.1

  -- back from a body a frame is of the same procedure
  pub returned_same : (outs : List Value) (f : Activation) → (returned lower outs f).procedure ≡ f.procedure
  returned_same outs f = by_proc (slice_get program.procs f.procedure)
    where
      by_spot : (proc : Proc) (o : Option Spot) → (returned_at f outs proc o).procedure ≡ f.procedure
      by_spot proc None = refl
      by_spot proc (Some s) = refl

      by_proc : (o : Option Proc) → (returned_in f outs o).procedure ≡ f.procedure
      by_proc None = refl
      by_proc (Some proc) = by_spot proc (spot_at proc.body f.place)
