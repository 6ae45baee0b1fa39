use Rattle.std.proofs.Common.{◌∙◌, sym, ap, drop}
use Rattle.std.proofs.lemmas.List.{drop_all}
use Rattle.civl_linear.specs.Held.{covers}
use Rattle.civl_linear.proofs.Flagged.{covers_none}
use Rattle.civl_linear.proofs.flags.covers.Goals as goal

pub returns-in-None : goal.returns-in-None
returns-in-None c =
    sym (sym c.loop-at.invariant
    ∙ ap (covers (drop c.loop-at.at c.as_slice-one-items.result.now)) (drop_all c.loop-at.at c.as_slice-others.result.now c.in-None.ensures.lookup.3)
    ∙ covers_none (drop c.loop-at.at c.as_slice-one-items.result.now))
