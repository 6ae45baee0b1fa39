-- What the terms at the beginning of a path say.
use Rattle.std.specs.Prelude.{◌≡◌, ℕ, ◌-◌, nat_eq, if◌then◌else◌, List, [], ◌∷◌, Some}
use Rattle.std.specs.List.{Contains}
use Rattle.civl_tree.specs.declared.expr.Sort.TheVariants.{Bool as Truth}
use Rattle.civl_tree.specs.declared.stmt.Stmt.{Stmt, out-Stmt}
use Rattle.civl_tree.specs.declared.action.Action.{Action}
use Rattle.civl_tree.specs.declared.program.Proc.{Proc}
use Rattle.civl_tree.specs.declared.program.Program.{Program}
use Rattle.civl_tree.specs.rules.Uses.{param_sorts}
use Rattle.civl_meaning.specs.Config.{frame_sorts, choice_sorts}
use Rattle.civl_meaning.specs.Layers.{program_at}
use Rattle.civl_terms.specs.declared.node.Node.{Node}
use Rattle.civl_terms.specs.Graphs.{sort_at}
use Rattle.civl_actions.specs.Scopes.{AreOf}
use Rattle.civl_layers.specs.declared.cut.Cut.{Cut}
use Rattle.civl_conditions.specs.paths.Flows.{flow_from}
use Rattle.civl_conditions.specs.paths.Choices.{layer_action}
use Rattle.civl_conditions.specs.Values.{Begun}
use Rattle.civl_states.specs.formula_parts.Said.{Env, IsTest}
use Rattle.civl_states.specs.formula_parts.Lists.{AreSaid}
use Rattle.civl_states.specs.declared.choices.Chosen.{Chosen}
use Rattle.civl_states.specs.declared.beginning.Beginning.{Beginning}
use Rattle.civl_states.specs.Stores.{AreGlobals, AreStore}

-- the terms for the choices of the call with this number
abbrev pub chosen_at : List Chosen → ℕ → List ℕ
chosen_at [] number = []
chosen_at (c ∷ cs) number = if nat_eq c.statement number then c.choices else chosen_at cs number

-- what is said of each call of an action that some path from the cut passes
abbrev pub OfCalls : Program → ℕ → Proc → Cut → (ℕ → Action → Type 0) → Type 0
OfCalls program step proc cut says =
    (q : ℕ × Stmt) (a : Action) → Contains (flow_from proc cut).passed q → layer_action (program_at program (step - 1)) (out-Stmt q.1) ≡ Some a → says q.0 a

-- terms of the sorts that belong there
pub record CanBegin (ns : List Node) (program : Program) (step : ℕ) (proc : Proc) (cut : Cut) (t : Beginning) : Type 0 where
  pub globals : AreGlobals ns program t.globals
  pub locals : AreOf ns t.locals (frame_sorts proc)
  pub done : sort_at ns t.done ≡ Some Truth
  pub old_globals : AreGlobals ns program t.old_globals
  pub old_outs : AreOf ns t.old_outs (param_sorts proc.outs)
  pub old_done : sort_at ns t.old_done ≡ Some Truth
  pub chosen : OfCalls program step proc cut (λ number a. AreOf ns (chosen_at t.chosen number) (choice_sorts a))

-- they say this beginning
pub record AreBegun (ns : List Node) (program : Program) (step : ℕ) (proc : Proc) (cut : Cut) (t : Beginning) (b : Env → Begun) : Type 0 where
  pub globals : AreStore ns program t.globals (λ env. (b env).store)
  pub locals : AreSaid ns t.locals (frame_sorts proc) (λ env. (b env).locals)
  pub done : IsTest ns t.done (λ env. (b env).done)
  pub old_globals : AreStore ns program t.old_globals (λ env. (b env).old)
  pub old_outs : AreSaid ns t.old_outs (param_sorts proc.outs) (λ env. (b env).old_outs)
  pub old_done : IsTest ns t.old_done (λ env. (b env).old_done)
  pub chosen : OfCalls program step proc cut (λ number a. AreSaid ns (chosen_at t.chosen number) (choice_sorts a) (λ env. (b env).chosen number))
