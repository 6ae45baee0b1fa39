-- What a thread does next is known to the program: the action that it calls is one of it, and what it spawns is before its call.
use Rattle.std.proofs.Common.{◌≡◌, ℕ, Bool, true, false, List, [], map, refl, ap, ◌∙◌, Option, None, Some, slice_get}
use Rattle.std.specs.Prelude.{if◌then◌else◌}
use Rattle.civl_bits.specs.declared.value.Value.{Value}
use Rattle.civl_firing.specs.values.Values.{is_true}
use Rattle.civl_tree.specs.declared.name.Name.{Name}
use Rattle.civl_tree.specs.declared.action.Action.{Action}
use Rattle.civl_tree.specs.declared.program.Proc.{Proc}
use Rattle.civl_tree.specs.declared.program.Program.{Program}
use Rattle.civl_tree.specs.declared.stmt.Stmt.{Stmt, out-Stmt}
use Rattle.civl_tree.specs.declared.stmt.Stmt.TheOpen as stmt
use Rattle.civl_tree.specs.rules.Names.{action_named, names_in_proc}
use Rattle.civl_firing.specs.Eval.{value_of, values_of}
use Rattle.civl_firing.specs.Scope.{frame_values}
use Rattle.civl_firing.specs.Truth.{place_of}
use Rattle.civl_firing.proofs.Finding.{found_at}
use Rattle.civl_meaning.specs.declared.config.Plain.{Plain}
use Rattle.civl_meaning.specs.declared.config.Activation.{Activation}
use Rattle.civl_meaning.specs.declared.config.State.{State}
use Rattle.civl_meaning.specs.declared.config.State.TheVariants.{Before, Inside, After}
use Rattle.civl_meaning.specs.declared.config.Running.{Running}
use Rattle.civl_meaning.specs.Places.{Spot, spot_at}
use Rattle.civl_meaning.specs.Meaning.{Meaning, Does, Runs, Missing, proc_number, meaning_of, meaning_else, called}
use Rattle.civl_meaning.specs.Change.{caller_of, outs_in, Doing, call_doing, statement_doing, leaving, spot_doing, proc_doing, state_doing, doing}
use Rattle.civl_meaning.specs.Change as does
use Rattle.civl_reduction.proofs.permissions.Meant.{does_by, does_refined}

abbrev pub IsThere : Program → Action → Type 0
IsThere program action = (number : ℕ) × (slice_get program.actions number ≡ Some action)

abbrev pub Known : Program → Doing → Type 0
Known program (does.Calls names locals results next action args) = IsThere program action
Known program (does.Spawns other place) = other.state ≡ Before
Known program _ = Unit {0}

module _ (plain : Plain) where
  there : (name : Name) (action : Action) → action_named plain.program name ≡ Some action → IsThere plain.program action
  there name action e = (place_of (map (λ a. a.name) plain.program.actions) name, found_at (λ (a : Action). a.name) plain.program.actions name ∙ e)

  number_there : (k : ℕ) (action : Action) → meaning_of plain k ≡ Does action → IsThere plain.program action
  number_there k action e =
      let d = does_by plain.program (slice_get plain.bodies k) k (slice_get plain.program.procs k) action e in
      let r = does_refined plain.program d.0 d.0.refines action d.3 in
      there r.0.action action r.2

  name_there : (name : Name) (action : Action) → called plain name ≡ Does action → IsThere plain.program action
  name_there name action e = go (action_named plain.program name) refl e
    where
      go : (o : Option Action) → action_named plain.program name ≡ o → meaning_else plain name o ≡ Does action → IsThere plain.program action
      go None q h = number_there (proc_number plain.program name) action h
      go (Some a) q h = let same : a ≡ action = cc in there name action (q ∙ ap (λ (b : Action). Some b) same)

  call_known : (ns : List Name) (ls : List Value) (rs : List Name) (at next : ℕ) (m : Meaning) (vs : List Value) → ((action : Action) → m ≡ Does action → IsThere plain.program action) → Known plain.program (call_doing ns ls rs at next m vs)
  call_known ns ls rs at next (Does action) vs h = h action refl
  call_known ns ls rs at next (Runs n p) vs h = tt
  call_known ns ls rs at next Missing vs h = tt

  assert_known : (b : Bool) (ls : List Value) (next : ℕ) → Known plain.program (if b then does.Goes ls next else does.Fails)
  assert_known true ls next = tt
  assert_known false ls next = tt

  layer_known : (p : Proc) (ls : List Value) (at next : ℕ) (d : stmt.Stmt-F Stmt) → Known plain.program (statement_doing plain p ls at next d)
  layer_known p ls at next (stmt.Assert e) = assert_known (is_true (value_of (frame_values plain.program.globals p ls) e)) ls next
  layer_known p ls at next (stmt.Call f es rs) = call_known (names_in_proc p) ls rs at next (called plain f) (values_of (frame_values plain.program.globals p ls) es) (λ a e. name_there f a e)
  layer_known p ls at next (stmt.Spawn f es) = refl
  layer_known p ls at next _ = tt

  leaving_known : (outs : List Value) (k : Option Activation) → Known plain.program (leaving plain outs k)
  leaving_known outs None = tt
  leaving_known outs (Some f) = tt

  spot_known : (k : Option Activation) (f : Activation) (p : Proc) (o : Option Spot) → Known plain.program (spot_doing plain k f p o)
  spot_known k f p None = leaving_known (outs_in p f.locals) k
  spot_known k f p (Some x) = layer_known p f.locals x.number x.next (out-Stmt x.stmt)

  proc_known : (k : Option Activation) (f : Activation) (o : Option Proc) → Known plain.program (proc_doing plain k f o)
  proc_known k f None = tt
  proc_known k f (Some p) = spot_known k f p (spot_at p.body f.place)

  state_known : (r : Running) (x : State) → Known plain.program (state_doing plain r x)
  state_known r After = tt
  state_known r Before = call_known [] [] [] 0 0 (meaning_of plain r.callee) r.args (λ a e. number_there r.callee a e)
  state_known r (Inside below f) = proc_known (caller_of below) f (slice_get plain.program.procs f.procedure)

pub does_known : (plain : Plain) (r : Running) → Known plain.program (doing plain r)
does_known plain r = state_known plain r r.state
