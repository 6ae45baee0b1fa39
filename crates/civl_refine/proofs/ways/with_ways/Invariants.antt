use Rattle.std.specs.Prelude.{◌≡◌, ◌+◌, ◌*◌, ◌≤◌, ◌&&◌, Bool, All, Some, drop, map}
use Rattle.std.specs.List.{list_all}
use Rattle.civl_tree.specs.declared.expr.Sort.TheVariants.{Bool as Truth}
use Rattle.civl_terms.specs.Graphs.{sort_at}
use Rattle.civl_terms.specs.Building.{Grows}
use Rattle.civl_terms.specs.Weights.{graph_weight}
use Rattle.civl_conditions.specs.paths.Paths.{Outcome}
use Rattle.civl_conditions.specs.Values.{Begun}
use Rattle.civl_conditions.specs.Weights.{part_weight, summed}
use Rattle.civl_states.specs.formula_parts.Said.{Env, IsTest}
use Rattle.civl_states.specs.Beginnings.{AreBegun}
use Rattle.civl_body.specs.Walks.{IsWay}
use Rattle.civl_refine.specs.Ways.{kept_by}
use Rattle.civl_refine.proofs.ways.with_ways.Given as goal

abbrev pub invariant-loop-way : goal.invariant-loop-way
invariant-loop-way l =
    Grows l.initial.terms l.terms × (sort_at l.terms l.id ≡ Some Truth)
    × (graph_weight l.terms + 4 * summed (map (part_weight l.start.program.now l.start.step l.start.proc.now l.start.cut l.part) (map (λ w. w.end) (drop l.way-index l.ways)))
    ≤ graph_weight l.initial.terms + 4 * summed (map (part_weight l.start.program.now l.start.step l.start.proc.now l.start.cut l.part) (map (λ w. w.end) l.ways)))
    × ((f : Env → Bool) (b : Env → Begun) (o : Env → Outcome) → IsTest l.initial.terms l.test f → AreBegun l.initial.terms l.start.program.now l.start.step l.start.proc.now l.start.cut l.beginning b → All (IsWay l.initial.terms l.start.program.now l.start.proc.now o) l.ways
    → (h : Env → Bool) × IsTest l.terms l.id h
    × ((env : Env) → (h env && list_all (kept_by l.start l.part (b env) (o env)) (map (λ w. w.end) (drop l.way-index l.ways))) ≡ (f env && list_all (kept_by l.start l.part (b env) (o env)) (map (λ w. w.end) l.ways))))
