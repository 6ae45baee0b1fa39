use Rattle.civl_outlined.proofs.Noted.{note_before_is}
use Rattle.civl_outlined.proofs.said.note_before.Goals as goal

pub returns : goal.returns
returns c = note_before_is c.args.said.now.program.now c.args.said.now.outline.now c.args.said.now.notes c.args.place c.args.statement c.proc_item-item.result _ c.requires.place c.requires.said.notes c.proc_item-item.ensures c.at.ensures
