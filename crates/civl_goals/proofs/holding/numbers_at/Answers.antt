use Rattle.std.proofs.Common.{◌∙◌, sym}
use Rattle.civl_goals.proofs.Unheld.{none_held}
use Rattle.civl_goals.proofs.holding.numbers_at.Goals as goal

pub returns-in-None : goal.returns-in-None
returns-in-None c = c.new.ensures ∙ sym (none_held 0 _ c.args.befores.now c.args.statement c.in-None.ensures.lookup.3)
