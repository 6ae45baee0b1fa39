-- Serves private functions: what two sequences of actions come to: whether they end alike.
use Rattle.std.specs.Prelude.{ℕ, Bool, ◌&&◌, List}
use Rattle.civl_bits.specs.declared.value.Value.{Value}
use Rattle.civl_tree.specs.declared.action.Action.{Action}
use Rattle.civl_tree.specs.declared.program.Program.{Program}
use Rattle.civl_firing.specs.declared.store.Store.{Store}
use Rattle.civl_firing.specs.Fired.{guard_holds, store_after, outs_after}
use Rattle.civl_terms.specs.declared.node.Node.{Node}
use Rattle.civl_conditions.specs.footprints.Agreement.{exists_at}
use Rattle.civl_conditions.specs.Values.{same_values, same_stores}
use Rattle.civl_states.specs.formula_parts.Said.{Env, IsTest}
use Rattle.civl_states.specs.Runs.{IsRun}
use Rattle.civl_movers.specs.declared.sequence.Sequence.{Sequence}

-- b fires first and then a, and this comes to the same end and the same outputs as a first and then b
abbrev pub end_alike : Program → ℕ → Store → Action → List Value → List Value → Action → List Value → List Value → Bool
end_alike program layer g a i c b j d =
    guard_holds program.globals g b j d
    && (guard_holds program.globals (store_after program.globals g b j d) a i c
    && (same_stores (exists_at layer) program (store_after program.globals (store_after program.globals g a i c) b j d) (store_after program.globals (store_after program.globals g b j d) a i c)
    && (same_values (outs_after program.globals g a i c) (outs_after program.globals (store_after program.globals g b j d) a i c)
    && same_values (outs_after program.globals (store_after program.globals g a i c) b j d) (outs_after program.globals g b j d))))

-- a first and then b, and b first and then a, from one store
pub record HaveExchanged (ns : List Node) (program : Program) (there back : Sequence) (a b : Action) (g : Env → Store) (i c j d : Env → List Value) : Type 0 where
  pub first : IsRun ns program a there.first g i c
  pub second : IsRun ns program b there.second (λ env. store_after program.globals (g env) a (i env) (c env)) j d
  pub first_back : IsRun ns program b back.first g j d
  pub second_back : IsRun ns program a back.second (λ env. store_after program.globals (g env) b (j env) (d env)) i c

-- the term says whether they end alike
abbrev pub TellsAlike : List Node → List Node → Program → ℕ → Sequence → Sequence → ℕ → Type 0
TellsAlike old new program layer there back id =
    (a b : Action) (g : Env → Store) (i c j d : Env → List Value) → HaveExchanged old program there back a b g i c j d
    → IsTest new id (λ env. end_alike program layer (g env) a (i env) (c env) b (j env) (d env))
