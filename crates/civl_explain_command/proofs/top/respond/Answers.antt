use Rattle.std.proofs.Common.{◌∙◌}
use Rattle.civl_frontend.proofs.Streaming.{loud}
use Rattle.civl_explain_command.proofs.Promising.{silent}
use Rattle.civl_explain_command.proofs.top.respond.Goals as goal

pub returns-in-All-clause-unwritten : goal.returns-in-All-clause-unwritten
returns-in-All-clause-unwritten g c = λ is. c.in-All.ensures.unwritten (c.as_slice.ensures ∙ silent _ _ _ _ _ c.judge-judged.ensures.judges is)

pub returns-in-Failed-clause-unwritten : goal.returns-in-Failed-clause-unwritten
returns-in-Failed-clause-unwritten g c = λ is. absurd (loud is)

pub returns-clause-unwritten : goal.returns-clause-unwritten
returns-clause-unwritten g c = λ is. absurd (loud is)
