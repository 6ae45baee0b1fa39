-- The two ends of an `if` at terms: where a sweep stands, and what stands behind both branches.
use Rattle.std.specs.Prelude.{◌≡◌, ℕ, ◌+◌, nat_eq, if◌then◌else◌, List, [], ◌∷◌, map, slice_get, Some}
use Rattle.civl_tree.specs.declared.expr.Sort.{Sort}
use Rattle.civl_tree.specs.declared.program.Proc.{Proc}
use Rattle.civl_tree.specs.declared.program.Program.{Program}
use Rattle.civl_firing.specs.values.Weights.{bits_in}
use Rattle.civl_meaning.specs.Config.{frame_sorts}
use Rattle.civl_terms.specs.declared.node.Node.{Node}
use Rattle.civl_terms.specs.Graphs.{sort_at, Fits}
use Rattle.civl_actions.specs.Scopes.{AreOf}
use Rattle.civl_actions.specs.Actions.{values_at, store_at}
use Rattle.civl_moves.specs.sweeps.Sweeps.{Swept}
use Rattle.civl_states.specs.formula_parts.Said.{Env}
use Rattle.civl_moves.specs.declared.branches.Front.{Front}
use Rattle.civl_moves.specs.declared.sweep.Sweep.{Sweep}
use Rattle.civl_moves.specs.States.{bool_at, IsBool}

abbrev pub front_of : Sweep → Front
front_of s = record { onward = s.onward; live = s.live; globals = s.globals; locals = s.locals; done = s.done }

abbrev pub with_front : Front → Sweep → Sweep
with_front f s = record s { onward = f.onward; live = f.live; globals = f.globals; locals = f.locals; done = f.done }

-- a sweep that stands there
abbrev pub ended_at : Env → List Node → Front → Swept → Swept
ended_at env ns f d = record d {
  onward = f.onward;
  live = bool_at env ns f.live;
  store = store_at env ns f.globals;
  locals = values_at env ns f.locals;
  done = bool_at env ns f.done;
}

pub record CanEnd (ns : List Node) (program : Program) (proc : Proc) (f : Front) : Type 0 where
  pub live : IsBool ns f.live
  pub globals : AreOf ns f.globals (map (λ g. g.sort) program.globals)
  pub locals : AreOf ns f.locals (frame_sorts proc)
  pub done : IsBool ns f.done

-- the first terms' values where the test is true, and else the others'
pub record ArePicked (old new : List Node) (test : ℕ) (sorts : List Sort) (xs ys ids : List ℕ) : Type 0 where
  pub are : (env : Env) → Fits env new → values_at env new ids ≡ (if bool_at env old test then values_at env old xs else values_at env old ys)
  pub sorted : AreOf new ids sorts

-- a term that stands at one place of both lists stands there
abbrev pub KeepsSame : List ℕ → List ℕ → List ℕ → Type 0
KeepsSame xs ys ids = (place id : ℕ) → slice_get xs place ≡ Some id → slice_get ys place ≡ Some id → slice_get ids place ≡ Some id

-- the bits of the terms that aren't the same
abbrev pub differing : List Node → List ℕ → List ℕ → ℕ
differing ns [] ys = 0
differing ns (x ∷ xs) [] = 0
differing ns (x ∷ xs) (y ∷ ys) = (if nat_eq x y then 0 else bits_in (sort_at ns x)) + differing ns xs ys
