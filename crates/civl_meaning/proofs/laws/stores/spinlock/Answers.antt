use Rattle.civl_meaning.proofs.Stores.{two_threads_are_initial}
use Rattle.civl_meaning.proofs.Stores.{one_number_twice}
use Rattle.civl_meaning.proofs.laws.stores.spinlock.Goals as goal

pub returns-clause-two : goal.returns-clause-two
returns-clause-two c = two_threads_are_initial

pub returns-clause-twice : goal.returns-clause-twice
returns-clause-twice c = one_number_twice
