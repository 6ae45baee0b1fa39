use Rattle.civl_places.proofs.Starting.{found_in, exit_in, none_in}
use Rattle.civl_places.proofs.start.start_in.Goals as goal

pub returns-in-Found : goal.returns-in-Found
returns-in-Found c = found_in _ _ c.args.proc.now _ _ c.head_count.ensures c.walk_stmts.ensures _ c.in-Found.is

pub returns-then-left-eq0 : goal.returns-then-left-eq0
returns-then-left-eq0 c =
    exit_in _ _ c.args.proc.now _ _ c.head_count.ensures c.walk_stmts.ensures _ _ c.in-Left.is c.if-left-eq0.true c.stmts_count.ensures

pub returns-else-left-eq0 : goal.returns-else-left-eq0
returns-else-left-eq0 c =
    none_in _ _ c.args.proc.now _ _ c.head_count.ensures c.walk_stmts.ensures _ c.in-Left.is c.if-left-eq0.false
