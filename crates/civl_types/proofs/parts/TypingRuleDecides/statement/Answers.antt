use Rattle.std.proofs.Common.{◌∙◌, ap}
use Rattle.civl_tree.specs.rules.Rules.{first_of}
use Rattle.civl_types.proofs.Telling.{statements_told}
use Rattle.civl_types.proofs.parts.TypingRuleDecides.statement.Goals as goal

pub returns : goal.returns
returns c = c.first_in_body.ensures ∙ ap first_of (statements_told c.args.self.now c.args.program.now c.args._place c.args.proc.now)
