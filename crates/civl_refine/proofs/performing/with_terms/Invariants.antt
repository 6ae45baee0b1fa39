use Rattle.std.specs.Prelude.{◌≡◌, ◌+◌, ◌≤◌, take, drop, slice_get, Some}
use Rattle.civl_tree.specs.declared.action.Action.{Action}
use Rattle.civl_firing.specs.Eval.{values_of}
use Rattle.civl_terms.specs.Building.{Grows}
use Rattle.civl_terms.specs.Weights.{graph_weight}
use Rattle.civl_actions.specs.Scopes.{AreOf}
use Rattle.civl_conditions.specs.paths.NoteValues.{plain_note_values}
use Rattle.civl_conditions.specs.paths.Paths.{Progress}
use Rattle.civl_conditions.specs.Assumed.{with_of}
use Rattle.civl_conditions.specs.Weights.{note_weight, weights_of}
use Rattle.civl_states.specs.formula_parts.Said.{Env}
use Rattle.civl_states.specs.formula_parts.Lists.{AreSaid}
use Rattle.civl_meaning.specs.Config.{choice_sorts}
use Rattle.civl_refine.specs.Judging.{IsAt}
use Rattle.civl_refine.proofs.performing.with_terms.Given as goal

abbrev pub invariant-loop-expr : goal.invariant-loop-expr
invariant-loop-expr l =
    Grows l.initial.terms l.terms
    × (graph_weight l.terms + weights_of (note_weight l.start.program.now l.start.proc.now) (drop l.expr-index (with_of l.start.proc.now.refines)) ≤ graph_weight l.initial.terms + weights_of (note_weight l.start.program.now l.start.proc.now) (with_of l.start.proc.now.refines))
    × ((a : Action) → slice_get l.start.program.now.actions l.start.refined ≡ Some a → AreOf l.terms l.ids.items (take l.expr-index (choice_sorts a)))
    × ((a : Action) (p : Env → Progress) → slice_get l.start.program.now.actions l.start.refined ≡ Some a → IsAt l.initial.terms l.start.program.now l.start.proc.now l.way p
    → AreSaid l.terms l.ids.items (take l.expr-index (choice_sorts a)) (λ env. values_of (plain_note_values l.start.program.now.globals l.start.proc.now (p env).store (p env).locals) (take l.expr-index (with_of l.start.proc.now.refines))))
