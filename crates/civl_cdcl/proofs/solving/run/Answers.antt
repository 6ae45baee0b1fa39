use Rattle.std.proofs.Common.{◌∙◌, subst}
use Rattle.civl_rup.specs.inner.Standing.{Stands}
use Rattle.civl_cdcl.specs.inner.Notes.{IsClear}
use Rattle.civl_cdcl.proofs.Outcomes.{refutes_at_once}
use Rattle.civl_cdcl.proofs.solving.run.Goals as goal

pub load-requires : goal.load-requires
load-requires c =
    let made = c.in_ok-engine.ensures in
    record {
      rest = made.rest;
      has = made.clauses;
      size = made.size ∙ c.variables-count.ensures.is;
      decided = made.decided;
    }

pub returns-then-refuted : goal.returns-then-refuted
returns-then-refuted c =
    let set = c.args.cnf.now in
    refutes_at_once set c.args.budget c.in_ok-log.log c.in_ok-log.ensures
    (subst (Stands c.load.new.engine set.variables set.clauses) c.if-refuted.true c.in_ok-refuted.ensures)

pub search-requires-clause-root : goal.search-requires-clause-root
search-requires-clause-root c =
    let set = c.args.cnf.now in
    subst (Stands c.load.new.engine set.variables set.clauses) c.if-refuted.false c.in_ok-refuted.ensures

pub search-requires-clause-clear : goal.search-requires-clause-clear
search-requires-clause-clear c = subst (IsClear c.in_ok-notes.notes.seen.items) c.variables-count.ensures.is c.in_ok-notes.ensures
