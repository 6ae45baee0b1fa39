use Rattle.std.proofs.Common.{◌≡◌, drop}
use Rattle.std.specs.List.{list_any}
use Rattle.civl_layers.specs.Names.{uses}
use Rattle.civl_layers.specs.inner.Spans.{hidden_by}
use Rattle.civl_layers.proofs.hidden.offers_hidden.Given as goal

abbrev pub invariant-loop-choice : goal.invariant-loop-choice
invariant-loop-choice l =
    list_any (λ choice. uses (hidden_by l.span) choice.offer) (drop l.choice-index l.choices)
    ≡ list_any (λ choice. uses (hidden_by l.fn.span) choice.offer) l.fn.choices
