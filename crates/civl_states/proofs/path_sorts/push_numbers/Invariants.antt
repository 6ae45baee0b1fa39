use Rattle.std.proofs.Common.{◌≡◌, ◌++◌, drop, map}
use Rattle.civl_states.specs.Laying.{calls_at, call_sorts}
use Rattle.civl_states.proofs.path_sorts.push_numbers.Given as goal

abbrev pub invariant-loop-number : goal.invariant-loop-number
invariant-loop-number l = l.sorts.items ++ call_sorts (calls_at l.program l.layer (map (λ s. s.now) l.flat) (drop l.number-index l.numbers)) ≡ l.fn.sorts.items ++ call_sorts (calls_at l.program l.layer (map (λ s. s.now) l.flat) l.numbers)
