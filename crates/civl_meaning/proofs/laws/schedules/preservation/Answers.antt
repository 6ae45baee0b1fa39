use Rattle.civl_meaning.proofs.Safe.{flag_is_safe, flag_is_preserved}
use Rattle.civl_meaning.proofs.Safe.{gated_is_not_preserved}
use Rattle.civl_meaning.proofs.laws.schedules.preservation.Goals as goal

pub returns-clause-safe : goal.returns-clause-safe
returns-clause-safe c = flag_is_safe

pub returns-clause-flag : goal.returns-clause-flag
returns-clause-flag c = flag_is_preserved

pub returns-clause-gated : goal.returns-clause-gated
returns-clause-gated c = gated_is_not_preserved
