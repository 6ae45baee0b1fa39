use Rattle.std.proofs.Common.{◌≡◌, drop, map}
use Rattle.civl_tree.specs.rules.Names.{has_name}
use Rattle.civl_types.proofs.arity.is_updated.Given as goal

abbrev pub invariant-loop-update : goal.invariant-loop-update
invariant-loop-update l = has_name (map (λ update. update.target) (drop l.update-index l.updates)) l.name ≡ has_name (map (λ update. update.target) l.fn.updates) l.fn.name
