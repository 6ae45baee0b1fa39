use Rattle.civl_names.proofs.walks.Placing.{body_fits}
use Rattle.civl_names.proofs.walks.item.ProcItem.refusal.Goals as goal

pub statement-requires-clause-body : goal.statement-requires-clause-body
statement-requires-clause-body g c = body_fits c.args.program.now c.requires.numbered c.args.place c.args.self.now c.requires.place
