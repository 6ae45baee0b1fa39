-- The terms of a sweep: the state that they say, and what a move makes of it.
use Rattle.std.specs.Prelude.{◌≡◌, ℕ, Bool, not, List, [], map, All, Option, Some}
use Rattle.civl_tree.specs.declared.expr.Expr.{Expr}
use Rattle.civl_tree.specs.declared.expr.Sort.{Sort}
use Rattle.civl_tree.specs.declared.program.Proc.{Proc}
use Rattle.civl_tree.specs.declared.program.Program.{Program}
use Rattle.civl_tree.specs.rules.Scopes.{Scope as Sorts}
use Rattle.civl_tree.specs.rules.Sorts.{sort_of}
use Rattle.civl_firing.specs.values.Values.{is_true}
use Rattle.civl_firing.specs.Eval.{value_of}
use Rattle.civl_firing.specs.Scope.{frame_values}
use Rattle.civl_meaning.specs.Config.{frame_sorts}
use Rattle.civl_terms.specs.declared.node.Node.{Node}
use Rattle.civl_terms.specs.Graphs.{value_at, Fits}
use Rattle.civl_actions.specs.Scopes.{AreOf, IsTyped}
use Rattle.civl_actions.specs.Actions.{values_at, store_at}
use Rattle.civl_conditions.specs.paths.Paths.{Course}
use Rattle.civl_conditions.specs.paths.Seen.{lower_course}
use Rattle.civl_moves.specs.sweeps.Sweeps.{Swept}
use Rattle.civl_moves.specs.sweeps.Sweeps.{Stop as Stopped}
use Rattle.civl_states.specs.formula_parts.Said.{Env, IsTest}
use Rattle.civl_moves.specs.declared.sweep.Stop.{Stop}
use Rattle.civl_moves.specs.declared.sweep.Sweep.{Sweep}

-- ---- bools

abbrev pub bool_at : Env → List Node → ℕ → Bool
bool_at env ns id = is_true (value_at env ns id)

abbrev pub IsBool : List Node → ℕ → Type 0
IsBool ns id = IsTest ns id (λ env. bool_at env ns id)

-- ---- the state that a sweep's terms say

abbrev pub stop_at : Env → List Node → Stop → Stopped
stop_at env ns stop = record {
  number = stop.number;
  taken = bool_at env ns stop.taken;
  store = store_at env ns stop.globals;
  locals = values_at env ns stop.locals;
  done = bool_at env ns stop.done;
}

abbrev pub swept_at : Env → List Node → Sweep → Swept
swept_at env ns s = record {
  onward = s.onward;
  live = bool_at env ns s.live;
  store = store_at env ns s.globals;
  locals = values_at env ns s.locals;
  done = bool_at env ns s.done;
  broken = not (bool_at env ns s.safe);
  again = not (bool_at env ns s.once);
  stops = map (stop_at env ns) s.stops;
}

-- ---- terms of the sorts that belong there

pub record CanStop (ns : List Node) (program : Program) (proc : Proc) (stop : Stop) : Type 0 where
  pub taken : IsBool ns stop.taken
  pub globals : AreOf ns stop.globals (map (λ g. g.sort) program.globals)
  pub locals : AreOf ns stop.locals (frame_sorts proc)
  pub done : IsBool ns stop.done

pub record CanSweep (ns : List Node) (program : Program) (proc : Proc) (s : Sweep) : Type 0 where
  pub live : IsBool ns s.live
  pub globals : AreOf ns s.globals (map (λ g. g.sort) program.globals)
  pub locals : AreOf ns s.locals (frame_sorts proc)
  pub done : IsBool ns s.done
  pub safe : IsBool ns s.safe
  pub once : IsBool ns s.once
  pub stops : All (CanStop ns program proc) s.stops

-- ---- moves

-- the new terms say what the move makes of what the old ones said
pub record Moves (old new : List Node) (program : Program) (proc : Proc) (before after : Sweep) (move : Env → Swept → Swept) : Type 0 where
  pub can : CanSweep new program proc after
  pub is : (env : Env) → Fits env new → swept_at env new after ≡ move env (swept_at env old before)

-- an expression with a sort there, and with this one where there is one
pub record Suits (sorts : Sorts) (e : Expr) (target : Option Sort) : Type 0 where
  pub typed : IsTyped sorts e
  pub sorted : (s : Sort) → target ≡ Some s → sort_of sorts e ≡ Some s

-- a body, where the layer and the choices take no part
abbrev pub body_of : Program → Proc → Course
body_of program proc = lower_course program 0 proc (λ number. [])

-- whether a condition of the body holds
abbrev pub holds_at : Program → Proc → Expr → Swept → Bool
holds_at program proc e d = is_true (value_of (frame_values program.globals proc d.locals) e)
