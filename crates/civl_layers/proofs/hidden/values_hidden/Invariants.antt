use Rattle.std.proofs.Common.{◌≡◌, drop}
use Rattle.std.specs.List.{list_any}
use Rattle.civl_layers.specs.Names.{uses}
use Rattle.civl_layers.specs.inner.Spans.{hidden_by}
use Rattle.civl_layers.proofs.hidden.values_hidden.Given as goal

abbrev pub invariant-loop-value : goal.invariant-loop-value
invariant-loop-value l =
    list_any (uses (hidden_by l.span)) (drop l.value-index l.values) ≡ list_any (uses (hidden_by l.fn.span)) l.fn.values
