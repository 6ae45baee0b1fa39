use Rattle.std.proofs.Common.{Some, None}
use Rattle.civl_weighing.proofs.Listing.{got_of}
use Rattle.civl_outlined.proofs.Totals.{found_there, proc_lost, statement_lost}
use Rattle.civl_outlined.proofs.weights.look_up.Goals as goal

pub returns-in-Some-get : goal.returns-in-Some-get
returns-in-Some-get c =
    let proc = got_of c.as_slice.result.now _ c.args.number (Some c.in-Some.proc) c.as_slice.ensures c.in-Some.ensures.lookup in
    let own = got_of c.as_slice-in-Some.result.now _ c.args.statement (Some c.in-Some-get.own) c.as_slice-in-Some.ensures c.in-Some-get.ensures.lookup in
    found_there c.args.sums.now c.requires.sums c.args.number c.args.statement c.requires.there c.in-Some.proc.now c.in-Some-get.own.now proc own

pub returns-in-None-get : goal.returns-in-None-get
returns-in-None-get c =
    let proc = got_of c.as_slice.result.now _ c.args.number (Some c.in-Some.proc) c.as_slice.ensures c.in-Some.ensures.lookup in
    let own = got_of c.as_slice-in-Some.result.now _ c.args.statement None c.as_slice-in-Some.ensures c.in-None-get.ensures.lookup in
    statement_lost c.args.sums.now c.requires.sums c.args.number c.args.statement c.requires.there c.in-Some.proc.now proc own

pub returns-in-None : goal.returns-in-None
returns-in-None c =
    let proc = got_of c.as_slice.result.now _ c.args.number None c.as_slice.ensures c.in-None.ensures.lookup in
    proc_lost c.args.sums.now c.requires.sums c.args.number c.args.statement c.requires.there proc
