use Rattle.std.proofs.Common.{◌∙◌}
use Rattle.civl_goals.proofs.Noting.{noted_is}
use Rattle.civl_goals.proofs.listing.is_noted.Goals as goal

pub returns : goal.returns
returns c =
    c.has.ensures
    ∙ noted_is c.args.program.now c.args.outline.now c.args.place c.args.statement c.args.spots.now.keys.keys c.proc_item-item.result c.requires.spots c.proc_item-item.ensures
