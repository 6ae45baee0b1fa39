-- The upper program enters no body of a procedure of its layer. So where a frame of one was made in the lower program, the upper
-- one calls the refined action.
use Rattle.std.proofs.Common.{◌≡◌, ℕ, ◌+◌, Bool, true, false, List, [], ◌++◌, refl, sym, ap, ◌∙◌, subst, arith, Option, None, Some, slice_get, inl, inr}
use Rattle.std.specs.Prelude.{option_map, if◌then◌else◌, nat_eq}
use Rattle.std.proofs.lemmas.Bool.{true≢false, ltb-true, eqb-true}
use Rattle.std.proofs.lemmas.List.{append_cancel_right}
use Rattle.std.proofs.lemmas.Option.{slice_get-map, same_Some}
use Rattle.civl_bits.specs.declared.value.Value.{Value}
use Rattle.civl_firing.specs.values.Values.{is_true}
use Rattle.civl_tree.specs.declared.name.Name.{Name}
use Rattle.civl_tree.specs.declared.action.Action.{Action}
use Rattle.civl_tree.specs.declared.program.Proc.{Proc}
use Rattle.civl_tree.specs.declared.program.Refines.{Refines}
use Rattle.civl_tree.specs.declared.program.Program.{Program}
use Rattle.civl_tree.specs.declared.stmt.Stmt.{Stmt, out-Stmt}
use Rattle.civl_tree.specs.declared.stmt.Stmt.TheOpen as stmt
use Rattle.civl_tree.specs.rules.Names.{action_named, names_in_proc}
use Rattle.civl_firing.specs.Eval.{value_of, values_of}
use Rattle.civl_firing.specs.Scope.{frame_values, zeros_of_params, zeros_of_locals}
use Rattle.civl_meaning.specs.declared.config.Plain.{Plain}
use Rattle.civl_meaning.specs.declared.config.Activation.{Activation}
use Rattle.civl_meaning.specs.declared.config.State.{State}
use Rattle.civl_meaning.specs.declared.config.State.TheVariants.{Before, Inside, After}
use Rattle.civl_meaning.specs.declared.config.Running.{Running}
use Rattle.civl_meaning.specs.Places.{Spot, spot_at}
use Rattle.civl_meaning.specs.Meaning.{Meaning, Does, Runs, Missing, proc_number, meaning_of_action, refined, meaning_by, meaning_of, meaning_else, called}
use Rattle.civl_meaning.specs.Change.{caller_of, outs_in, new_frame, Doing, call_doing, statement_doing, leaving, spot_doing, proc_doing, state_doing, doing}
use Rattle.civl_meaning.specs.Layers.{means_body, program_at}
use Rattle.civl_layers.specs.Layered.{IsLayered}
use Rattle.civl_conditions.specs.Steps.{has_layer, refines_at}
use Rattle.civl_conditions.specs.Assumed.{refined_action, inputs_of}
use Rattle.civl_meaning.specs.Change as does
use Rattle.civl_reduction.specs.simulation.Alike.{CallsInstead}
use Rattle.civl_reduction.specs.simulation.Meets.{WasCalled}
use Rattle.civl_reduction.proofs.simulation.Meets.Meaning.{threads_do_alike}

-- a frame that is entered is of no procedure of the layer
abbrev pub EntersOther : Program → ℕ → Doing → Type 0
EntersOther program layer (does.Enters frame place) = (proc : Proc) → slice_get program.procs frame.procedure ≡ Some proc → has_layer layer proc ≡ false
EntersOther program layer _ = Unit {0}

module _ (program : Program) (layer : ℕ) where
  abbrev plain : Plain
  plain = program_at program layer

  -- a procedure whose body is run in the layer's program is not of the layer
  run_other : (o : Option Refines) → means_body layer o ≡ true → refines_at layer o ≡ false
  run_other None e = refl
  run_other (Some r) e = go (nat_eq r.layer layer) refl
    where
      go : (b : Bool) → nat_eq r.layer layer ≡ b → b ≡ false
      go false q = refl
      go true q = let same = eqb-true r.layer layer q in let less = ltb-true layer r.layer e in absurd (omega (arith, same, less))

  abbrev RunsOther : Meaning → Type 0
  RunsOther (Runs n p) = (slice_get program.procs n ≡ Some p) × (has_layer layer p ≡ false)
  RunsOther _ = Unit {0}

  action_other : (o : Option Action) → RunsOther (meaning_of_action o)
  action_other None = tt
  action_other (Some a) = tt

  number_other : (j : ℕ) → RunsOther (meaning_of plain j)
  number_other j = by_proc (slice_get program.procs j) refl
    where
      by_refines : (o : Option Refines) → RunsOther (refined program o)
      by_refines None = tt
      by_refines (Some r) = action_other (action_named program r.action)

      by_body : (p : Proc) → slice_get program.procs j ≡ Some p → (b : Bool) → means_body layer p.refines ≡ b → RunsOther (meaning_by program (Some b) j (Some p))
      by_body p at true e = (at, run_other p.refines e)
      by_body p at false e = by_refines p.refines

      by_proc : (o : Option Proc) → slice_get program.procs j ≡ o → RunsOther (meaning_of plain j)
      by_proc None at = subst (λ (o : Option Proc). RunsOther (meaning_by program (slice_get plain.bodies j) j o)) (sym at) tt
      by_proc (Some p) at =
          let body : slice_get plain.bodies j ≡ Some (means_body layer p.refines) = slice_get-map (λ (q : Proc). means_body layer q.refines) program.procs j ∙ ap (option_map (λ (q : Proc). means_body layer q.refines)) at in
          subst (λ (o : Option Proc). RunsOther (meaning_by program (slice_get plain.bodies j) j o)) (sym at)
          (subst (λ (b : Option Bool). RunsOther (meaning_by program b j (Some p))) (sym body) (by_body p at (means_body layer p.refines) refl))

  name_other : (name : Name) → RunsOther (called plain name)
  name_other name = go (action_named program name)
    where
      go : (o : Option Action) → RunsOther (meaning_else plain name o)
      go None = number_other (proc_number program name)
      go (Some action) = tt

  call_other : (ns : List Name) (ls : List Value) (rs : List Name) (at next : ℕ) (m : Meaning) (vs : List Value) → RunsOther m → EntersOther program layer (call_doing ns ls rs at next m vs)
  call_other ns ls rs at next (Does action) vs h = tt
  call_other ns ls rs at next (Runs n p) vs h = λ proc there. ap (has_layer layer) (same_Some proc p (sym there ∙ h.0)) ∙ h.1
  call_other ns ls rs at next Missing vs h = tt

  assert_other : (b : Bool) (ls : List Value) (next : ℕ) → EntersOther program layer (if b then does.Goes ls next else does.Fails)
  assert_other true ls next = tt
  assert_other false ls next = tt

  layer_other : (p : Proc) (ls : List Value) (at next : ℕ) (d : stmt.Stmt-F Stmt) → EntersOther program layer (statement_doing plain p ls at next d)
  layer_other p ls at next (stmt.Assert e) = assert_other (is_true (value_of (frame_values program.globals p ls) e)) ls next
  layer_other p ls at next (stmt.Call f es rs) = call_other (names_in_proc p) ls rs at next (called plain f) (values_of (frame_values program.globals p ls) es) (name_other f)
  layer_other p ls at next _ = tt

  leaving_other : (outs : List Value) (k : Option Activation) → EntersOther program layer (leaving plain outs k)
  leaving_other outs None = tt
  leaving_other outs (Some f) = tt

  spot_other : (k : Option Activation) (f : Activation) (p : Proc) (o : Option Spot) → EntersOther program layer (spot_doing plain k f p o)
  spot_other k f p None = leaving_other (outs_in p f.locals) k
  spot_other k f p (Some x) = layer_other p f.locals x.number x.next (out-Stmt x.stmt)

  proc_other : (k : Option Activation) (f : Activation) (o : Option Proc) → EntersOther program layer (proc_doing plain k f o)
  proc_other k f None = tt
  proc_other k f (Some p) = spot_other k f p (spot_at p.body f.place)

  state_other : (r : Running) (x : State) → EntersOther program layer (state_doing plain r x)
  state_other r After = tt
  state_other r Before = call_other [] [] [] 0 0 (meaning_of plain r.callee) r.args (number_other r.callee)
  state_other r (Inside below f) = proc_other (caller_of below) f (slice_get program.procs f.procedure)

pub enters_other : (program : Program) (layer : ℕ) (r : Running) → EntersOther program layer (doing (program_at program layer) r)
enters_other program layer r = state_other program layer r r.state

-- ---- where a frame of the layer's procedures was made

pub instead : (program : Program) (layer : ℕ) → IsLayered program → (caller : Running) (frame : Activation) (place : ℕ) (proc : Proc) → doing (program_at program layer) caller ≡ does.Enters frame place → slice_get program.procs frame.procedure ≡ Some proc → has_layer (layer + 1) proc ≡ true
    → CallsInstead program (layer + 1) (doing (program_at program (layer + 1)) caller) (doing (program_at program layer) caller)
instead program layer src caller frame place proc e there layered = elim (threads_do_alike program layer caller src) [
  | inl h ↦ absurd (true≢false (sym layered ∙ subst (EntersOther program (layer + 1)) (h ∙ e) (enters_other program (layer + 1) caller) proc there))
  | inr h ↦ h
]

abbrev frame_entered : Doing → Activation → Activation
frame_entered (does.Enters frame place) other = frame
frame_entered _ other = other

-- the call of the action has the frame's parameters for its inputs
pub record Instead (program : Program) (layer : ℕ) (f : Proc × Activation) (caller : Running) : Type 0 where
  pub names : List Name
  pub locals : List Value
  pub results : List Name
  pub next : ℕ
  pub action : Action
  pub refined : refined_action program f.0 ≡ Some action
  pub calls : doing (program_at program (layer + 1)) caller ≡ does.Calls names locals results next action (inputs_of f.0 f.1.locals)

pub called_instead : (program : Program) (layer : ℕ) → IsLayered program → (f : Proc × Activation) (thread caller : Running) → slice_get program.procs f.1.procedure ≡ Some f.0 → has_layer (layer + 1) f.0 ≡ true → WasCalled program layer f thread caller
    → Instead program layer f caller × CallsInstead program (layer + 1) (doing (program_at program (layer + 1)) caller) (doing (program_at program layer) caller)
called_instead program layer src f thread caller there layered w =
    let h = instead program layer src caller (new_frame f.1.procedure f.0 w.args) w.place f.0 w.enters there layered in
    let frames : new_frame h.number h.proc h.args ≡ new_frame f.1.procedure f.0 w.args = ap (λ (D : Doing). frame_entered D f.1) (sym h.enters ∙ w.enters) in
    let procs : h.proc ≡ f.0 = same_Some h.proc f.0 (sym h.there ∙ (ap (λ (a : Activation). slice_get program.procs a.procedure) frames ∙ there)) in
    let args : h.args ≡ w.args = append_cancel_right h.args w.args (zeros_of_params f.0.outs ++ zeros_of_locals f.0.locals) (ap (λ (p : Proc). h.args ++ (zeros_of_params p.outs ++ zeros_of_locals p.locals)) (sym procs) ∙ ap (λ (a : Activation). a.locals) frames) in (
      record {
        names = h.names;
        locals = h.locals;
        results = h.results;
        next = h.next;
        action = h.action;
        refined = ap (refined_action program) (sym procs) ∙ h.refined;
        calls = h.calls ∙ ap (λ (vs : List Value). does.Calls h.names h.locals h.results h.next h.action vs) (args ∙ sym w.inputs);
      },
      h,
    )
