-- The guard and the updates of an action, at terms that say these values.
use Rattle.std.proofs.Common.{◌≡◌, ◌∙◌, ℕ, List, ap}
use Rattle.civl_bits.specs.declared.value.Value.{Value}
use Rattle.civl_bits.specs.declared.value.Value.TheVariants as value
use Rattle.civl_tree.specs.declared.action.Action.{Action}
use Rattle.civl_tree.specs.declared.program.Program.{Program}
use Rattle.civl_tree.specs.rules.Uses.{param_sorts}
use Rattle.civl_firing.specs.declared.store.Store.{Store}
use Rattle.civl_firing.specs.Fired.{guard_holds, store_after, outs_after}
use Rattle.civl_terms.specs.declared.node.Node.{Node}
use Rattle.civl_terms.specs.Graphs.{Fits}
use Rattle.civl_terms.specs.Building.{Grows}
use Rattle.civl_actions.specs.Actions.{store_at, IsGuard, IsChange}
use Rattle.civl_states.specs.formula_parts.Said.{Env, IsTest}
use Rattle.civl_states.specs.formula_parts.Lists.{AreSaid}
use Rattle.civl_states.specs.Stores.{AreStore}
use Rattle.civl_states.proofs.Runs.{at_three}
use Rattle.civl_meaning.specs.Config.{choice_sorts}

stored : (old : List Node) (program : Program) (globals : List ℕ) (g : Env → Store) → AreStore old program globals g → (env : Env) → Fits env old → store_at env old globals ≡ g env
stored old program globals g sg env f = ap (λ (vs : List Value). record { values = vs }) (sg.are env f)

module _ (old new : List Node) (program : Program) (a : Action) (globals inputs choices : List ℕ) where
  pub guard_said : (id : ℕ) (g : Env → Store) (i c : Env → List Value) → Grows old new → IsGuard old new program a globals inputs choices id → AreStore old program globals g → AreSaid old inputs (param_sorts a.params) i → AreSaid old choices (choice_sorts a) c
      → IsTest new id (λ env. guard_holds program.globals (g env) a (i env) (c env))
  guard_said id g i c w m sg si sc = record {
    sorted = m.sort;
    is = λ env f. m.is env f ∙ at_three (λ s u v. value.Bool (guard_holds program.globals s a u v)) _ _ _ _ _ _ (stored old program globals g sg env (w.fits env f)) (si.are env (w.fits env f)) (sc.are env (w.fits env f));
  }

  module _ (globals_then outs_then : List ℕ) (g : Env → Store) (i c : Env → List Value) (w : Grows old new) (m : IsChange old new program a globals inputs choices globals_then outs_then)
      (sg : AreStore old program globals g) (si : AreSaid old inputs (param_sorts a.params) i) (sc : AreSaid old choices (choice_sorts a) c) where
    pub store_said : AreStore new program globals_then (λ env. store_after program.globals (g env) a (i env) (c env))
    store_said = record {
      sorted = m.global_sorts;
      are = λ env f. ap (λ (s : Store). s.values) (m.store env f ∙ at_three (λ s u v. store_after program.globals s a u v) _ _ _ _ _ _ (stored old program globals g sg env (w.fits env f)) (si.are env (w.fits env f)) (sc.are env (w.fits env f)));
    }

    pub outs_change : AreSaid new outs_then (param_sorts a.outs) (λ env. outs_after program.globals (g env) a (i env) (c env))
    outs_change = record {
      sorted = m.out_sorts;
      are = λ env f. m.outs env f ∙ at_three (λ s u v. outs_after program.globals s a u v) _ _ _ _ _ _ (stored old program globals g sg env (w.fits env f)) (si.are env (w.fits env f)) (sc.are env (w.fits env f));
    }
