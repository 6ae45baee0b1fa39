use Rattle.std.specs.Prelude.{◌≡◌, ◌+◌, ◌*◌, ◌≤◌, ◌&&◌, Bool, drop, Some}
use Rattle.civl_tree.specs.declared.expr.Sort.TheVariants.{Bool as Truth}
use Rattle.civl_firing.specs.declared.store.Store.{Store}
use Rattle.civl_terms.specs.Graphs.{sort_at}
use Rattle.civl_terms.specs.Building.{Grows}
use Rattle.civl_terms.specs.Weights.{graph_weight}
use Rattle.civl_states.specs.formula_parts.Said.{Env, IsTest}
use Rattle.civl_states.specs.Stores.{AreStore}
use Rattle.civl_refine.proofs.Assuming.{all_hold, all_weigh}
use Rattle.civl_refine.proofs.invariants.with_invariants.Given as goal

abbrev pub invariant-loop-invariant : goal.invariant-loop-invariant
invariant-loop-invariant l =
    Grows l.initial.terms l.terms × (sort_at l.terms l.id ≡ Some Truth)
    × (graph_weight l.terms + 2 * all_weigh l.program l.step (drop l.invariant-index l.invariant-items) ≤ graph_weight l.initial.terms + 2 * all_weigh l.program l.step l.program.invariants)
    × ((f : Env → Bool) (g : Env → Store) → IsTest l.initial.terms l.test f → AreStore l.initial.terms l.program l.globals g
    → (h : Env → Bool) × IsTest l.terms l.id h × ((env : Env) → (h env && all_hold l.program l.step (g env) (drop l.invariant-index l.invariant-items)) ≡ (f env && all_hold l.program l.step (g env) l.program.invariants)))
