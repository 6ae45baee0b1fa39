use Rattle.civl_rup.proofs.Replays.{exactly_not_rup, exactly_no_empty, exactly_refutes, refuted}
use Rattle.civl_rup.proofs.replaying.replay.Goals as goal

pub returns-clause-not_rup : goal.returns-clause-not_rup
returns-clause-not_rup c = exactly_not_rup c.args.cnf.now c.args.log.now c.in_ok-found.found c.in_ok-found.ensures

pub returns-clause-no_empty : goal.returns-clause-no_empty
returns-clause-no_empty c = exactly_no_empty c.args.cnf.now c.args.log.now c.in_ok-found.found c.in_ok-found.ensures

pub returns-clause-refutes : goal.returns-clause-refutes
returns-clause-refutes c = exactly_refutes c.args.cnf.now c.args.log.now c.in_ok-found.found c.in_ok-found.ensures

pub returns-clause-sound : goal.returns-clause-sound
returns-clause-sound c = λ e. refuted c.args.cnf.now c.args.log.now ((exactly_refutes c.args.cnf.now c.args.log.now c.in_ok-found.found c.in_ok-found.ensures).0 e)
