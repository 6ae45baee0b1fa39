use Rattle.std.proofs.Common.{◌≡◌, drop, map}
use Rattle.civl_conditions.specs.Values.{choices_count}
use Rattle.civl_losses.specs.inner.Given.{calls_of}
use Rattle.civl_losses.proofs.behind.behind_numbers.Given as goal

abbrev pub invariant-loop-number : goal.invariant-loop-number
invariant-loop-number l =
    drop (choices_count (calls_of l.program l.layer (map (λ s. s.now) l.flat) (drop l.number-index l.numbers))) l.rest.values.now
    ≡ drop (choices_count (calls_of l.program l.layer (map (λ s. s.now) l.flat) l.numbers)) l.fn.values
