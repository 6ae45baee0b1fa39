-- The statements of a body, one by one.
use Rattle.std.proofs.Common.{append_assoc, append-nil}
use Rattle.civl_tree.proofs.Preorder.{preorder}

pub ruleset collecting = (preorder, append_assoc, append-nil)
