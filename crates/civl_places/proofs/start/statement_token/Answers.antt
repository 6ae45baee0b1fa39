use Rattle.std.proofs.Common.{arith}
use Rattle.civl_places.proofs.Starting.{proc_found, proc_wanting, start_is, program_length}
use Rattle.civl_places.proofs.Rising.{starts_within}
use Rattle.civl_places.proofs.start.statement_token.Goals as goal

pub get-requires : goal.get-requires
get-requires c = (proc_found c.args.program.now _ _ _ _ _ c.as_slice.ensures c.procs_start.ensures c.walk_each.ensures c.in-Found.is).there

pub start_in-requires : goal.start_in-requires
start_in-requires c =
    let placed = proc_found c.args.program.now _ _ _ _ _ c.as_slice.ensures c.procs_start.ensures c.walk_each.ensures c.in-Found.is in
    omega (arith, program_length c.args.program.now, placed.fits c.get.result.now c.get.ensures)

pub returns-in-Found : goal.returns-in-Found
returns-in-Found c =
    let placed = proc_found c.args.program.now _ _ _ _ _ c.as_slice.ensures c.procs_start.ensures c.walk_each.ensures c.in-Found.is in
    let start = start_is c.args.program.now _ _ _ _ _ c.get.ensures placed.starts c.start_in.ensures in record {
      start = start;
      within = starts_within c.args.program.now _ _ _ start;
    }

pub returns-in-Left-clause-start : goal.returns-in-Left-clause-start
returns-in-Left-clause-start c =
    proc_wanting c.args.program.now _ _ _ _ _ _ c.as_slice.ensures c.procs_start.ensures c.walk_each.ensures c.in-Left.is
