-- Serves private functions: the variables of a goal of a statement, as terms: the store, the root's frame, and the choices of its call.
use Rattle.std.specs.Prelude.{ℕ, List, map, Bool}
use Rattle.civl_bits.specs.declared.value.Value.{Value}
use Rattle.civl_tree.specs.declared.expr.Sort.{Sort}
use Rattle.civl_tree.specs.declared.stmt.Stmt.{out-Stmt}
use Rattle.civl_tree.specs.declared.program.Program.{Program}
use Rattle.civl_firing.specs.declared.store.Store.{Store}
use Rattle.civl_meaning.specs.declared.config.Activation.{Activation}
use Rattle.civl_meaning.specs.declared.config.Change.{Change}
use Rattle.civl_meaning.specs.Config.{frame_sorts}
use Rattle.civl_meaning.specs.Layers.{topmost}
use Rattle.civl_terms.specs.declared.node.Node.{Node}
use Rattle.civl_actions.specs.Scopes.{AreOf}
use Rattle.civl_conditions.specs.Variables.{layer_choices}
use Rattle.civl_states.specs.formula_parts.Said.{Env, IsTest}
use Rattle.civl_states.specs.formula_parts.Lists.{AreSaid}
use Rattle.civl_states.specs.Stores.{AreGlobals, AreStore}
use Rattle.civl_goals.specs.Failed.{does}
use Rattle.civl_goal_terms.specs.declared.places.At.{At}
use Rattle.civl_goal_terms.specs.declared.settings.Setting.{Setting}
use Rattle.civl_goal_terms.specs.inner.Told.{frame}

-- their values
pub record Here : Type 0 where
  pub store : Store
  pub locals : List Value
  pub chosen : List Value

-- the sorts of the choices
abbrev pub sorts_at : Program → At → List Sort
sorts_at program at = map (λ c. c.sort) (layer_choices (topmost program) (out-Stmt at.stmt.now))

-- terms of the sorts that belong there
pub record CanStand (ns : List Node) (program : Program) (at : At) (setting : Setting) : Type 0 where
  pub globals : AreGlobals ns program setting.globals
  pub locals : AreOf ns setting.locals (frame_sorts at.proc.now)
  pub choices : AreOf ns setting.choices (sorts_at program at)

-- they say these values
pub record SaysHere (ns : List Node) (program : Program) (at : At) (setting : Setting) (h : Env → Here) : Type 0 where
  pub globals : AreStore ns program setting.globals (λ env. (h env).store)
  pub locals : AreSaid ns setting.locals (frame_sorts at.proc.now) (λ env. (h env).locals)
  pub choices : AreSaid ns setting.choices (sorts_at program at) (λ env. (h env).chosen)

-- the root's frame
abbrev pub frame_at : At → Here → Activation
frame_at at here = frame at.root at.number here.locals

-- whether a test of what the statement does is true
abbrev pub done_by : Program → At → (Store → Activation → Change → Bool) → Here → Bool
done_by program at test here = test here.store (frame_at at here) (does program here.store (frame_at at here) here.chosen)

-- the new term says whether a test is true, whatever the terms of the variables say
abbrev pub TellsHere : List Node → List Node → Program → At → Setting → (Here → Bool) → ℕ → Type 0
TellsHere old new program at setting test id = (h : Env → Here) → SaysHere old program at setting h → IsTest new id (λ env. test (h env))
