use Rattle.civl_script.proofs.Only.{one_schedule as the_only}
use Rattle.civl_script.proofs.Deciding.{schedules_exist}
use Rattle.civl_script.proofs.laws.one_schedule.Goals as goal

pub returns-clause-most : goal.returns-clause-most
returns-clause-most c = the_only

pub returns-clause-some : goal.returns-clause-some
returns-clause-some c = schedules_exist
