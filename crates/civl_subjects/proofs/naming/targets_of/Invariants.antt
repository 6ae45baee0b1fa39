use Rattle.std.proofs.Common.{◌≡◌, map, take}
use Rattle.civl_subjects.proofs.naming.targets_of.Given as goal

abbrev pub invariant-loop-update : goal.invariant-loop-update
invariant-loop-update l = map (λ name. name.now) l.names.items ≡ map (λ update. update.target) (take l.update-index l.update-items)
