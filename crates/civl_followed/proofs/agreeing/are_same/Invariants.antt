use Rattle.std.proofs.Common.{◌≡◌, take}
use Rattle.civl_followed.proofs.agreeing.are_same.Given as goal

abbrev pub invariant-loop-at : goal.invariant-loop-at
invariant-loop-at l = take l.at l.before ≡ take l.at l.after
