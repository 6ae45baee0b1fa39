-- What is told of paths of a worked program.
use Rattle.std.specs.Prelude.{ℕ, ◌≡◌, Bool, true, false, List, [], ◌∷◌, Option, None, Some}
use Rattle.civl_bits.specs.declared.value.Value.{Value}
use Rattle.civl_firing.specs.examples.Written.{word, array}
use Rattle.civl_layers.specs.declared.cut.Cut.{Cut}
use Rattle.civl_layers.specs.declared.cut.CutKind.TheVariants.{RankLoop}
use Rattle.civl_layers.specs.Cuts.{entry_cut}
use Rattle.civl_conditions.specs.paths.Paths.{Course, Progress}
use Rattle.civl_traces.specs.declared.walked.Changed.{Changed}
use Rattle.civl_traces.specs.declared.walked.Passage.{Passage}
use Rattle.civl_traces.specs.declared.walked.Ending.{Ending}
use Rattle.civl_traces.specs.declared.walked.Ending.TheVariants.{Past, Comes, Fails, Stops}
use Rattle.civl_traces.specs.declared.walked.Walked.{Walked}
use Rattle.civl_traces.specs.Traces.{trace_from}
use Rattle.civl_traces.specs.Told.{moment, told}
use Rattle.civl_traces.specs.examples.Rows.{choosing, state}

abbrev change : ℕ → Value → Value → Changed
change place before after = record { place = place; before = before; after = after }

abbrev passage : ℕ → Option Bool → List Changed → Bool × Bool → Passage
passage statement took changed commits = record { statement = statement; took = took; changed = changed; done = commits.0; again = commits.1 }

abbrev walked : List Passage → Ending → ℕ → Progress → Walked
walked passed ending at end = record { passed = passed; ending = ending; at = at; end = moment end }

abbrev pub loop_cut : Cut
loop_cut = record { statement = 0; kind = RankLoop }

abbrev told_from : Course → Cut → Progress → Walked
told_from c cut p = told (trace_from c cut p)

-- from the head of the loop through the call, the commit and the intro to the head again
abbrev pub ThroughTheCall : Type 0
ThroughTheCall =
    told_from (choosing 2 3) loop_cut (state (5 ∷ 9 ∷ [], 0) (7, 1) (false, false))
    ≡ walked (
    passage 0 (Some true) [] (false, false)
    ∷ passage 1 (Some true) [] (false, false)
    ∷ passage 2 None (change 0 (array 1 8 (5 ∷ 9 ∷ [])) (array 1 8 (5 ∷ 4 ∷ [])) ∷ change 3 (word 8 7) (word 8 9) ∷ []) (false, false)
    ∷ passage 3 None [] (true, false)
    ∷ passage 5 None (change 1 (word 8 0) (word 8 4) ∷ []) (true, false)
    ∷ passage 6 None (change 4 (word 8 1) (word 8 0) ∷ []) (true, false)
    ∷ []
    ) Comes 0 (state (5 ∷ 4 ∷ [], 4) (9, 0) (true, false))

-- by the other branch; an intro of the value that is there changes nothing
abbrev pub ByTheOtherBranch : Type 0
ByTheOtherBranch =
    told_from (choosing 2 3) loop_cut (state (5 ∷ 9 ∷ [], 9) (7, 3) (true, false))
    ≡ walked (
    passage 0 (Some true) [] (true, false)
    ∷ passage 1 (Some false) [] (true, false)
    ∷ passage 4 None (change 4 (word 8 3) (word 8 2) ∷ []) (true, false)
    ∷ passage 5 None [] (true, false)
    ∷ passage 6 None (change 4 (word 8 2) (word 8 1) ∷ []) (true, false)
    ∷ []
    ) Comes 0 (state (5 ∷ 9 ∷ [], 9) (7, 1) (true, false))

-- past the loop to the exit, and to the assert where it is false
abbrev pub PastTheLoop : Type 0
PastTheLoop =
    told_from (choosing 2 3) loop_cut (state (5 ∷ 9 ∷ [], 0) (7, 0) (false, false))
    ≡ walked (passage 0 (Some false) [] (false, false) ∷ passage 7 None [] (false, false) ∷ []) Past 8 (state (5 ∷ 9 ∷ [], 0) (7, 0) (false, false))

abbrev pub ToTheAssert : Type 0
ToTheAssert =
    told_from (choosing 2 3) loop_cut (state (5 ∷ 9 ∷ [], 0) (3, 0) (false, false))
    ≡ walked (passage 0 (Some false) [] (false, false) ∷ []) Fails 7 (state (5 ∷ 9 ∷ [], 0) (3, 0) (false, false))

abbrev as_far_as_call : List Passage
as_far_as_call = passage 0 (Some true) [] (false, false) ∷ passage 1 (Some true) [] (false, false) ∷ []

-- to the call, where its gate is false, and where its guard is
abbrev pub ToTheGate : Type 0
ToTheGate =
    told_from (choosing 2 3) loop_cut (state (5 ∷ 1 ∷ [], 0) (7, 1) (false, false))
    ≡ walked as_far_as_call Fails 2 (state (5 ∷ 1 ∷ [], 0) (7, 1) (false, false))

abbrev pub ToTheGuard : Type 0
ToTheGuard =
    told_from (choosing 2 0) loop_cut (state (5 ∷ 9 ∷ [], 0) (7, 1) (false, false))
    ≡ walked as_far_as_call Stops 2 (state (5 ∷ 9 ∷ [], 0) (7, 1) (false, false))

-- choices of another call are none for this one
abbrev pub OfAnotherCall : Type 0
OfAnotherCall =
    told_from (choosing 3 3) loop_cut (state (5 ∷ 9 ∷ [], 0) (7, 1) (false, false))
    ≡ walked as_far_as_call Stops 2 (state (5 ∷ 9 ∷ [], 0) (7, 1) (false, false))

-- from the entry to the loop nothing is passed
abbrev pub FromTheEntry : Type 0
FromTheEntry =
    told_from (choosing 2 3) entry_cut (state (5 ∷ 9 ∷ [], 0) (0, 0) (false, false))
    ≡ walked [] Comes 0 (state (5 ∷ 9 ∷ [], 0) (0, 0) (false, false))
