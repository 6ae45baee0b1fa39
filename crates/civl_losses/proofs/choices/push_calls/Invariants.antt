use Rattle.std.proofs.Common.{◌≡◌, ◌++◌, drop, map}
use Rattle.civl_losses.specs.inner.Given.{listed, calls_of}
use Rattle.civl_losses.proofs.choices.push_calls.Given as goal

abbrev pub invariant-loop-number : goal.invariant-loop-number
invariant-loop-number l =
    l.list ++ listed (calls_of l.program l.layer (map (λ s. s.now) l.flat) (drop l.number-index l.numbers)) l.rest.values.now
    ≡ l.initial.list ++ listed (calls_of l.program l.layer (map (λ s. s.now) l.flat) l.numbers) l.values
