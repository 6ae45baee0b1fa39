use Rattle.std.specs.Prelude.{◌≡◌, ◌+◌, ◌*◌, ◌≤◌, ◌&&◌, Bool, All, Some, drop, map}
use Rattle.std.specs.List.{list_all}
use Rattle.civl_tree.specs.declared.expr.Sort.TheVariants.{Bool as Truth}
use Rattle.civl_terms.specs.Graphs.{sort_at}
use Rattle.civl_terms.specs.Building.{Grows}
use Rattle.civl_terms.specs.Weights.{graph_weight}
use Rattle.civl_conditions.specs.paths.Paths.{Outcome}
use Rattle.civl_conditions.specs.Targets.{Other}
use Rattle.civl_conditions.specs.Values.{Begun}
use Rattle.civl_conditions.specs.Weights.{summed}
use Rattle.civl_states.specs.formula_parts.Said.{Env, IsTest}
use Rattle.civl_body.specs.Walks.{IsWay}
use Rattle.civl_refine.specs.inner.steadiness.Kept.{SaysOther, kept_before, kept_weight}
use Rattle.civl_refine.specs.inner.steadiness.Losing.{end_weight, kept_at_end}
use Rattle.civl_refine.proofs.steadiness.blocks.with_ways.Given as goal

abbrev pub invariant-loop-way : goal.invariant-loop-way
invariant-loop-way l =
    Grows l.initial.terms l.terms × (sort_at l.terms l.id ≡ Some Truth)
    × (graph_weight l.terms + 4 * summed (map (end_weight l.start (kept_weight l.start.program.now l.start.step l.kept)) (map (λ w. w.end) (drop l.way-index l.ways)))
    ≤ graph_weight l.initial.terms + 4 * summed (map (end_weight l.start (kept_weight l.start.program.now l.start.step l.kept)) (map (λ w. w.end) l.ways)))
    × ((f : Env → Bool) (b : Env → Begun) (o : Env → Other) (out : Env → Outcome) → IsTest l.initial.terms l.test f → IsTest l.initial.terms l.before (λ env. kept_before l.start.program.now l.kept (o env) (b env).old) → SaysOther l.initial.terms l.kept o
    → All (IsWay l.initial.terms l.start.program.now l.start.proc.now out) l.ways
    → (h : Env → Bool) × IsTest l.terms l.id h
    × ((env : Env) → (h env && list_all (kept_at_end l.start l.kept (b env) (o env) (out env)) (map (λ w. w.end) (drop l.way-index l.ways))) ≡ (f env && list_all (kept_at_end l.start l.kept (b env) (o env) (out env)) (map (λ w. w.end) l.ways))))
