use Rattle.std.proofs.Common.{◌≡◌, drop}
use Rattle.std.specs.List.{list_any}
use Rattle.civl_linear.specs.Modes.{is_given}
use Rattle.civl_goals.proofs.listing.has_given.Given as goal

abbrev pub invariant-loop-out : goal.invariant-loop-out
invariant-loop-out l = list_any (λ p. is_given p.mode) (drop l.out-index l.outs) ≡ list_any (λ p. is_given p.mode) l.fn.outs
