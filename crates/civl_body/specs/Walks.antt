-- What the terms of the paths from a cut say of what the path comes to.
use Rattle.std.specs.Prelude.{◌≡◌, ℕ, Bool, false, not, nat_eq, List, map, All, IsTrue, Some}
use Rattle.std.specs.Option.{option_map_or}
use Rattle.civl_bits.specs.declared.value.Value.TheVariants as value
use Rattle.civl_tree.specs.declared.expr.Sort.TheVariants.{Bool as Truth}
use Rattle.civl_tree.specs.declared.program.Proc.{Proc}
use Rattle.civl_tree.specs.declared.program.Program.{Program}
use Rattle.civl_meaning.specs.Config.{frame_sorts}
use Rattle.civl_terms.specs.declared.node.Node.{Node}
use Rattle.civl_terms.specs.Graphs.{value_at, sort_at, Fits}
use Rattle.civl_actions.specs.Scopes.{AreOf}
use Rattle.civl_actions.specs.Actions.{values_at}
use Rattle.civl_layers.specs.declared.cut.Cut.{Cut}
use Rattle.civl_conditions.specs.paths.Paths.{Outcome, progress_of, has_failed}
use Rattle.civl_conditions.specs.paths.Ends.{arrived, ends_from}
use Rattle.civl_states.specs.formula_parts.Said.{Env, IsTest}
use Rattle.civl_states.specs.Stores.{AreGlobals}
use Rattle.civl_body.specs.declared.way.Way.{Way}
use Rattle.civl_body.specs.declared.way.Walk.{Walk}

-- the path ends there
abbrev pub ends_at : Proc → Outcome → ℕ → Bool
ends_at proc o end = option_map_or (nat_eq end) (arrived proc o) false

-- the path ends there exactly where the way is taken, and then the way has its end's values
pub record IsWay (ns : List Node) (program : Program) (proc : Proc) (o : Env → Outcome) (way : Way) : Type 0 where
  pub taken : IsTest ns way.taken (λ env. ends_at proc (o env) way.end)
  pub globals_sorted : AreGlobals ns program way.globals
  pub locals_sorted : AreOf ns way.locals (frame_sorts proc)
  pub done_sorted : sort_at ns way.done ≡ Some Truth
  pub globals : (env : Env) → Fits env ns → IsTrue (ends_at proc (o env) way.end) → values_at env ns way.globals ≡ (progress_of (o env)).store.values
  pub locals : (env : Env) → Fits env ns → IsTrue (ends_at proc (o env) way.end) → values_at env ns way.locals ≡ (progress_of (o env)).locals
  pub done : (env : Env) → Fits env ns → IsTrue (ends_at proc (o env) way.end) → value_at env ns way.done ≡ value.Bool (progress_of (o env)).done

-- one way for each end that some path from the cut reaches, in rising order
pub record IsWalk (ns : List Node) (program : Program) (proc : Proc) (cut : Cut) (o : Env → Outcome) (walk : Walk) : Type 0 where
  pub safe : IsTest ns walk.safe (λ env. not (has_failed (o env)))
  pub once : IsTest ns walk.once (λ env. not (progress_of (o env)).again)
  pub ends : map (λ w. w.end) walk.ways ≡ ends_from proc cut
  pub ways : All (IsWay ns program proc o) walk.ways

-- ---- terms of the sorts that belong there

-- at an end
pub record CanEnd (ns : List Node) (program : Program) (proc : Proc) (way : Way) : Type 0 where
  pub globals : AreGlobals ns program way.globals
  pub locals : AreOf ns way.locals (frame_sorts proc)
  pub done : sort_at ns way.done ≡ Some Truth

-- and a test whether the way is taken
pub record CanTake (ns : List Node) (program : Program) (proc : Proc) (way : Way) : Type 0 where
  pub taken : sort_at ns way.taken ≡ Some Truth
  pub ends : CanEnd ns program proc way
