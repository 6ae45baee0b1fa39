use Rattle.std.proofs.Common.{◌≡◌, take}
use Rattle.civl_meaning.proofs.copying.copies.Given as goal

abbrev pub invariant-loop-chosen : goal.invariant-loop-chosen
invariant-loop-chosen l = l.copies.items ≡ take l.chosen-index l.moves
