-- Two threads that each take a lock, do a step of their own, and give it back: an interleaving, and a block run.
use Rattle.std.specs.Prelude.{ℕ, Bool, true, false, List, [], ◌∷◌, Option, None, Some}
use Rattle.civl_reduction.specs.interleavings.Systems.{System}
use Rattle.civl_reduction.specs.interleavings.Runs.{SystemRuns, IsBlockRun}
use Rattle.civl_reduction.specs.interleavings.Threads.{Doing, Goes, Waits, Calls, Config, Move, Threads, system_of}

pub data Action : Type 0 where
  Take Return : Action

-- before the block, in it, and behind it
pub data Locker : Type 0 where
  Idle Wanting Holding Leaving Gone : Locker

abbrev pub locker_does : Locker → Doing Locker Action (Unit {0})
locker_does Idle = Goes Wanting
locker_does Wanting = Calls Take (λ o. Holding)
locker_does Holding = Goes Leaving
locker_does Leaving = Calls Return (λ o. Gone)
locker_does Gone = Waits

-- the block begins when the lock is taken, and ends when it is given back
abbrev pub has_lock : Locker → Bool
has_lock Idle = false
has_lock Wanting = false
has_lock Holding = true
has_lock Leaving = true
has_lock Gone = false

-- only a lock that is taken may be given back
abbrev pub gate_of : Action → Bool → Bool
gate_of Take taken = true
gate_of Return taken = taken

-- a lock that is taken can't be taken
abbrev pub takes : Bool → Option (Bool × Unit {0})
takes true = None
takes false = Some (true, tt)

abbrev pub fires_as : Action → Bool → Unit {0} → Option (Bool × Unit {0})
fires_as Take taken k = takes taken
fires_as Return taken k = Some (false, tt)

abbrev pub lockers : Threads Bool Locker Action (Unit {0}) (Unit {0})
lockers = record {
  first = record { store = false; threads = Idle ∷ Idle ∷ [] };
  doing = locker_does;
  inside = has_lock;
  gate = gate_of;
  fits = λ x k. true;
  fires = fires_as;
}

abbrev pub locks : System (Config Bool Locker) (Move (Unit {0}))
locks = system_of lockers (λ ms. false)

abbrev pub by : ℕ → Move (Unit {0})
by t = record { thread = t; chosen = tt }

-- the second thread's own step stands in the block of the first; and behind it
abbrev pub interleaved : List (Move (Unit {0}))
interleaved = by 0 ∷ by 0 ∷ by 1 ∷ by 0 ∷ by 0 ∷ []

abbrev pub exchanged : List (Move (Unit {0}))
exchanged = by 0 ∷ by 0 ∷ by 0 ∷ by 0 ∷ by 1 ∷ []

-- where both end
abbrev pub one_gone : Config Bool Locker
one_gone = record { store = false; threads = Gone ∷ Wanting ∷ [] }

abbrev pub InterleavedRuns : Type 0
InterleavedRuns = SystemRuns locks.steps interleaved locks.start one_gone

-- the first is no block run, though it runs
abbrev pub InterleavedIsNone : Type 0
InterleavedIsNone = (end : Config Bool Locker) → IsBlockRun locks interleaved end → ⊥

abbrev pub ExchangedIsOne : Type 0
ExchangedIsOne = IsBlockRun locks exchanged one_gone

-- nor is a run that ends inside a block
abbrev pub UnfinishedIsNone : Type 0
UnfinishedIsNone = (end : Config Bool Locker) → IsBlockRun locks (by 0 ∷ by 0 ∷ []) end → ⊥

-- the second thread can't take the lock while the first holds it
abbrev pub SecondIsBlocked : Type 0
SecondIsBlocked = (end : Config Bool Locker) → SystemRuns locks.steps (by 0 ∷ by 0 ∷ by 1 ∷ by 1 ∷ []) locks.start end → ⊥
