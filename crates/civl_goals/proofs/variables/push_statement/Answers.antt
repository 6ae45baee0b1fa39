use Rattle.civl_goals.proofs.Grouping.{statement_behind}
use Rattle.civl_goals.proofs.variables.push_statement.Goals as goal

pub returns : goal.returns
returns c =
    rw (c.in_ok-push_at.ensures, c.in_ok-push_frame.ensures, c.in_ok-push_top.ensures)
    (statement_behind c.args.list.now c.args.program.now c.args.proc c.args.statement)
