use Rattle.std.proofs.Common.{◌≡◌, drop}
use Rattle.std.specs.Prelude.{◌||◌}
use Rattle.std.specs.List.{list_any}
use Rattle.civl_layers.specs.Names.{uses}
use Rattle.civl_layers.specs.inner.Spans.{hidden_by}
use Rattle.civl_layers.proofs.hidden.updates_hidden.Given as goal

abbrev pub invariant-loop-update : goal.invariant-loop-update
invariant-loop-update l =
    list_any (λ update. hidden_by l.span update.target || uses (hidden_by l.span) update.expr) (drop l.update-index l.updates)
    ≡ list_any (λ update. hidden_by l.fn.span update.target || uses (hidden_by l.fn.span) update.expr) l.fn.updates
