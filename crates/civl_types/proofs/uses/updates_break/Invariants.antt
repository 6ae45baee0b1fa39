use Rattle.std.proofs.Common.{◌≡◌, drop, map}
use Rattle.civl_tree.specs.rules.Scopes.{guard_scope}
use Rattle.civl_tree.specs.rules.Uses.{target_use, update_sort}
use Rattle.civl_types.specs.inner.Rules.{any_use}
use Rattle.civl_types.proofs.uses.updates_break.Given as goal

abbrev pub invariant-loop-update : goal.invariant-loop-update
invariant-loop-update l =
    any_use l.rule (map (λ update. target_use (guard_scope l.program l.action) update.expr (update_sort l.program l.action update.target)) (drop l.update-index l.updates))
    ≡ any_use l.fn.rule (map (λ update. target_use (guard_scope l.fn.program l.fn.action) update.expr (update_sort l.fn.program l.fn.action update.target)) l.fn.updates)
