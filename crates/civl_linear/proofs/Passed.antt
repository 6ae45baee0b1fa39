-- Arguments and results, one by one.
use Rattle.std.proofs.Common.{append_assoc, append-nil}

pub ruleset passed = (append_assoc, append-nil)
