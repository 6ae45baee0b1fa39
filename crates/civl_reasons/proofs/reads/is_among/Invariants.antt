use Rattle.std.proofs.Common.{◌≡◌, drop, map}
use Rattle.civl_reasons.specs.inner.Told.{read_name, is_among}
use Rattle.civl_reasons.proofs.reads.is_among.Given as goal

abbrev pub invariant-loop-other : goal.invariant-loop-other
invariant-loop-other l = is_among (map read_name (drop l.other-index l.found)) (read_name l.read) ≡ is_among (map read_name l.found) (read_name l.read)
