-- The terms of actions, at terms that say these values.
use Rattle.std.specs.Prelude.{map, slice_get, IfSome}
use Rattle.std.proofs.Common.{◌≡◌, ◌∙◌, ℕ, List, sym, ap, ap₂, subst, Option, Some}
use Rattle.civl_bits.specs.declared.value.Value.{Value}
use Rattle.civl_bits.specs.declared.value.Value.TheVariants as value
use Rattle.civl_tree.specs.declared.action.Action.{Action}
use Rattle.civl_tree.specs.declared.program.Program.{Program}
use Rattle.civl_firing.specs.declared.store.Store.{Store}
use Rattle.civl_firing.specs.Fired.{gate_holds, guard_holds, store_after, outs_after}
use Rattle.civl_terms.specs.declared.node.Node.{Node}
use Rattle.civl_terms.specs.Graphs.{Fits}
use Rattle.civl_terms.specs.Building.{Grows}
use Rattle.civl_actions.specs.declared.made.Instance.{Instance}
use Rattle.civl_actions.specs.Actions.{store_at, IsGate, IsInstance}
use Rattle.civl_states.specs.formula_parts.Said.{Env}
use Rattle.civl_states.specs.formula_parts.Lists.{AreSaid}
use Rattle.civl_states.proofs.formula_parts.Saying.{test_stays}
use Rattle.civl_states.proofs.formula_parts.Listing.{sorts_stay, said_stay}
use Rattle.civl_states.specs.declared.invoked.Invoked.{Invoked}
use Rattle.civl_states.specs.Stores.{AreStore}
use Rattle.civl_states.specs.Runs.{IsReady, IsInvoked, IsRun, Runs, TellsGate, HasInputs}

-- ---- what stays

pub ready_stays : (old new : List Node) (program : Program) (x : Invoked) → Grows old new → IsReady old program x → IsReady new program x
ready_stays old new program x g f = record {
  action = f.action;
  is = f.is;
  inputs = sorts_stay old new x.inputs _ g f.inputs;
  choices = sorts_stay old new x.choices _ g f.choices;
}

pub inputs_stay : (old new : List Node) (program : Program) (number : ℕ) (inputs : List ℕ) → Grows old new → HasInputs old program number inputs → HasInputs new program number inputs
inputs_stay old new program number inputs g f = record { action = f.action; is = f.is; sorted = sorts_stay old new inputs _ g f.sorted }

pub inputs_of : (ns : List Node) (program : Program) (x : Invoked) → IsReady ns program x → HasInputs ns program x.action x.inputs
inputs_of ns program x f = record { action = f.action; is = f.is; sorted = f.inputs }

pub invoked_stays : (old new : List Node) (program : Program) (x : Invoked) (a : Action) (i c : Env → List Value) → Grows old new → IsInvoked old program x a i c → IsInvoked new program x a i c
invoked_stays old new program x a i c g h = record {
  is = h.is;
  inputs = said_stay old new x.inputs _ i g h.inputs;
  choices = said_stay old new x.choices _ c g h.choices;
}

pub run_stays : (old new : List Node) (program : Program) (a : Action) (made : Instance) (g : Env → Store) (i c : Env → List Value) → Grows old new → IsRun old program a made g i c → IsRun new program a made g i c
run_stays old new program a made g i c w r = record {
  gate = test_stays old new made.gate _ w r.gate;
  guard = test_stays old new made.guard _ w r.guard;
  store = said_stay old new made.globals _ _ w r.store;
  outs = said_stay old new made.outs _ _ w r.outs;
}

-- what is said of the element that is there
pub of_some : {A : Type 0} (o : Option A) (P : A → Type 0) (a : A) → o ≡ Some a → IfSome o P → P a
of_some o P a e h = subst (λ (p : Option _). IfSome p P) e h

pub if_some : {A : Type 0} (o : Option A) (P : A → Type 0) (a : A) → o ≡ Some a → P a → IfSome o P
if_some o P a e h = subst (λ (p : Option _). IfSome p P) (sym e) h

-- ---- one action

-- equal stores, inputs and choices
pub at_three : {A : Type 0} (f : Store → List Value → List Value → A) (s t : Store) (i j c d : List Value) → s ≡ t → i ≡ j → c ≡ d → f s i c ≡ f t j d
at_three f s t i j c d p q r = ap (λ (u : Store). f u i c) p ∙ ap₂ (λ (u v : List Value). f t u v) q r

pub stored : (old new : List Node) (program : Program) (globals : List ℕ) (g : Env → Store) → Grows old new → AreStore old program globals g → (env : Env) → Fits env new → store_at env old globals ≡ g env
stored old new program globals g w sg env f = ap (λ (vs : List Value). record { values = vs }) (sg.are env (w.fits env f))

pub run_is : (old new : List Node) (program : Program) (a : Action) (globals inputs chosen : List ℕ) (made : Instance) (g : Env → Store) (i c : Env → List Value)
    → Grows old new → IsInstance old new program a globals inputs chosen made
    → AreStore old program globals g → AreSaid old inputs (map (λ p. p.sort) a.params) i → AreSaid old chosen (map (λ p. p.sort) a.choices) c
    → IsRun new program a made g i c
run_is old new program a globals inputs chosen made g i c w m sg si sc = record {
  gate = record { sorted = m.gate.sort; is = λ env f. m.gate.is env f ∙ at_three (λ s u v. value.Bool (gate_holds program.globals s a u)) _ _ _ _ _ _ (stored old new program globals g w sg env f) (si.are env (w.fits env f)) (sc.are env (w.fits env f)) };
  guard = record { sorted = m.guard.sort; is = λ env f. m.guard.is env f ∙ at_three (λ s u v. value.Bool (guard_holds program.globals s a u v)) _ _ _ _ _ _ (stored old new program globals g w sg env f) (si.are env (w.fits env f)) (sc.are env (w.fits env f)) };
  store = record { sorted = m.change.global_sorts; are = λ env f. ap (λ (s : Store). s.values) (m.change.store env f ∙ at_three (λ s u v. store_after program.globals s a u v) _ _ _ _ _ _ (stored old new program globals g w sg env f) (si.are env (w.fits env f)) (sc.are env (w.fits env f))) };
  outs = record { sorted = m.change.out_sorts; are = λ env f. m.change.outs env f ∙ at_three (λ s u v. outs_after program.globals s a u v) _ _ _ _ _ _ (stored old new program globals g w sg env f) (si.are env (w.fits env f)) (sc.are env (w.fits env f)) };
}

pub runs : (old new : List Node) (program : Program) (globals : List ℕ) (x : Invoked) (made : Instance) → Grows old new
    → IfSome (slice_get program.actions x.action) (λ a. IsInstance old new program a globals x.inputs x.choices made) → Runs old new program globals x made
runs old new program globals x made w m = λ a g i c sg h. run_is old new program a globals x.inputs x.choices made g i c w (of_some _ _ a h.is m) sg h.inputs h.choices

pub tells_gate : (old new : List Node) (program : Program) (globals : List ℕ) (number : ℕ) (inputs : List ℕ) (id : ℕ) → Grows old new
    → IfSome (slice_get program.actions number) (λ a. IsGate old new program a globals inputs id) → TellsGate old new program globals number inputs id
tells_gate old new program globals number inputs id w m = λ b g j sg e h.
    let k = of_some _ _ b e m in
    record {
      sorted = k.sort;
      is = λ env f. k.is env f ∙ ap₂ (λ (s : Store) (u : List Value). value.Bool (gate_holds program.globals s b u)) (stored old new program globals g w sg env f) (h.are env (w.fits env f));
    }
