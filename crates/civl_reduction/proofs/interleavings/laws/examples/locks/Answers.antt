use Rattle.std.proofs.Common.{Bool, true, false, [], ◌∷◌, refl}
use Rattle.civl_reduction.specs.interleavings.Threads.{Config}
use Rattle.civl_reduction.specs.interleavings.examples.Locks.{Locker, Idle, Wanting, Holding, Leaving, Gone}
use Rattle.civl_reduction.proofs.interleavings.laws.examples.locks.Goals as goal

abbrev at : Bool → Locker → Locker → Config Bool Locker
at taken one other = record { store = taken; threads = one ∷ other ∷ [] }

pub returns-clause-interleaved : goal.returns-clause-interleaved
returns-clause-interleaved c =
    (at false Wanting Idle, refl, (at true Holding Idle, refl, (at true Holding Wanting, refl, (at true Leaving Wanting, refl, (at false Gone Wanting, refl, refl)))))

pub returns-clause-exchanged : goal.returns-clause-exchanged
returns-clause-exchanged c =
    (at false Wanting Idle, refl, tt, (at true Holding Idle, refl, tt, (at true Leaving Idle, refl, refl, (at false Gone Idle, refl, refl, (at false Gone Wanting, refl, tt, (refl, refl))))))
