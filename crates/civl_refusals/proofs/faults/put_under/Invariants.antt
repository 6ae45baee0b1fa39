use Rattle.std.proofs.Common.{◌≡◌, ◌++◌, drop, map}
use Rattle.civl_refusals.specs.Refusals.{margin_byte}
use Rattle.civl_refusals.proofs.faults.put_under.Given as goal

abbrev pub invariant-loop-byte : goal.invariant-loop-byte
invariant-loop-byte l = l.out.items ++ map margin_byte (drop l.byte-index l.bytes) ≡ l.fn.out.items ++ map margin_byte l.bytes
