use Rattle.std.proofs.Common.{◌≡◌, ◌++◌, drop, map, flat_map}
use Rattle.civl_conditions.specs.Passed.{choices_at}
use Rattle.civl_conditions.proofs.variables_calls.push_numbers.Given as goal

abbrev pub invariant-loop-number : goal.invariant-loop-number
invariant-loop-number l =
    l.list ++ flat_map (choices_at l.program l.layer (map (λ stmt. stmt.now) l.flat)) (drop l.number-index l.numbers) ≡ l.fn.list ++ flat_map (choices_at l.program l.layer (map (λ stmt. stmt.now) l.flat)) l.numbers
