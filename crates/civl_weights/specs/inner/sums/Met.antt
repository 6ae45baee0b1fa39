-- Serves private functions: what is counted of what the paths from a cut meet.
use Rattle.std.specs.Prelude.{ℕ, Bool, true, not, List, map, length, filter, slice_get}
use Rattle.std.specs.Option.{option_map_or}
use Rattle.civl_tree.specs.declared.stmt.Stmt.{Stmt}
use Rattle.civl_tree.specs.declared.program.Proc.{Proc}
use Rattle.civl_tree.specs.Numbering.{statements_of}
use Rattle.civl_layers.specs.declared.cut.Cut.{Cut}
use Rattle.civl_layers.specs.Cuts.{proc_cuts}
use Rattle.civl_conditions.specs.paths.Flows.{flow_from}
use Rattle.civl_conditions.specs.paths.Ends.{is_rank_loop, ends_from, ends_block}
use Rattle.civl_conditions.specs.Weights.{summed}
use Rattle.civl_weighing.specs.declared.weight.Weight.{Weight}
use Rattle.civl_weights.specs.declared.sums.met.MetSums.{MetSums}
use Rattle.civl_weighing.specs.Weighing.{Weighs, AreWeights}

-- a block ends at the end with this number
abbrev pub block_end : List Cut → ℕ → Bool
block_end cuts end = option_map_or (λ cut. not (is_rank_loop cut.kind)) (slice_get cuts end) true

-- these are the sums from a cut, whatever is counted of the cuts and of the statements by these weights
pub record AreMet (proc : Proc) (cut : Cut) (kept counted chosen : List Weight) (met : MetSums) : Type 0 where
  pub passed : (f : Stmt → ℕ) → AreWeights counted (map f (statements_of proc.body)) → Weighs met.passed (summed (map (λ q. f q.1) (flow_from proc cut).passed))
  pub choices : (f : Stmt → ℕ) → AreWeights chosen (map f (statements_of proc.body)) → Weighs met.choices (summed (map (λ q. f q.1) (flow_from proc cut).passed))
  pub ends : Weighs met.ends (length (ends_from proc cut))
  pub invariants : (f : Cut → ℕ) → AreWeights kept (map f (proc_cuts proc)) → Weighs met.invariants (summed (map (λ end. option_map_or f (slice_get (proc_cuts proc) end) 0) (ends_from proc cut)))
  pub stops : Weighs met.stops (length (filter (ends_block proc) (ends_from proc cut)))
