-- For private functions alone: how the code goes over a path.
use Rattle.std.specs.Prelude.{ℕ, ◌+◌, ◌≡◌, ◌<◌, ◌^◌, ⊤, Bool, true, false, if◌then◌else◌, List, [], ◌∷◌, ◌++◌}
use Rattle.civl_tree.specs.declared.stmt.Stmt.{Stmt}
use Rattle.civl_tree.specs.declared.stmt.Stmt.TheOpen as stmt
use Rattle.civl_tree.specs.Numbering.{size_of}
use Rattle.civl_meaning.specs.Rest.{Rest}
use Rattle.civl_conditions.specs.paths.Paths.{Progress, Outcome, Past, Comes, Fails, Stops, Course}
use Rattle.civl_traces.specs.declared.walked.Moment.{Moment}
use Rattle.civl_traces.specs.declared.walked.Passage.{Passage}
use Rattle.civl_traces.specs.declared.walked.Ending.{Ending}
use Rattle.civl_traces.specs.declared.walked.Ending.TheVariants as ending
use Rattle.civl_traces.specs.declared.walked.Walked.{Walked}
use Rattle.civl_traces.specs.declared.passing.Way.{Way}
use Rattle.civl_traces.specs.declared.walking.Walker.{Walker}
use Rattle.civl_traces.specs.Traces.{Passed, Trace, Onward}
use Rattle.civl_traces.specs.Told.{course, progress, passage, told}

abbrev pub course_of : Way → Course
course_of way = course way.plain.now way.proc.now way.chosen.now

-- what going over the statement with this number came to, in this state behind it or before it
abbrev pub outcome : Ending → ℕ → Moment → Outcome
outcome ending.Past number m = Past (progress m)
outcome ending.Comes number m = Comes number (progress m)
outcome ending.Fails number m = Fails (progress m)
outcome ending.Stops number m = Stops (progress m)

abbrev pub goes_on : Ending → Bool
goes_on ending.Past = true
goes_on ending.Comes = false
goes_on ending.Fails = false
goes_on ending.Stops = false

-- with what was passed before
abbrev pub behind : List Passage → Walked → Walked
behind passed w = record { passed = passed ++ w.passed; ending = w.ending; at = w.at; end = w.end }

-- where it ended
abbrev pub ended : Ending → Walker → Walked
ended e w = record { passed = []; ending = e; at = w.at; end = w.moment }

-- what is still to be told: what comes behind, or nothing
abbrev pub went : Ending → Walker → Onward → Walked
went ending.Past w onward = told (onward (progress w.moment))
went ending.Comes w onward = ended ending.Comes w
went ending.Fails w onward = ended ending.Fails w
went ending.Stops w onward = ended ending.Stops w

-- the code went over what is told so, whatever is told of what comes behind
abbrev pub Went : Walker → Ending → Walker → (Onward → Progress → Trace) → Type 0
Went old e new telling = (onward : Onward) → behind old.passed (told (telling onward (progress old.moment))) ≡ behind new.passed (went e new onward)

-- with one statement more that was passed
abbrev pub with_passage : Passed → Walker → Walker
with_passage q w = record { passed = w.passed ++ passage q ∷ []; moment = w.moment; at = w.at }

-- the whole, where the exit has this number
abbrev pub finished : Ending → ℕ → Walker → Walked
finished e exit w = record { passed = w.passed; ending = e; at = if goes_on e then exit else w.at; end = w.moment }

-- an `if`, which isn't passed at once
abbrev pub is_if : stmt.Stmt-F Stmt → Bool
is_if (stmt.If e a b) = true
is_if _ = false

-- a loop that is a cut
abbrev pub is_loop : stmt.Stmt-F Stmt → Bool
is_loop (stmt.YieldLoop e i a) = true
is_loop (stmt.RankLoop e r i a) = true
is_loop _ = false

-- the number behind each of these statements is one
abbrev pub AreWithin : Rest → Type 0
AreWithin [] = ⊤
AreWithin (q ∷ qs) = (q.0 + size_of q.1 < 2 ^ 64) × AreWithin qs

-- so is that behind so many statements in the first of these
abbrev pub HeadFits : Rest → ℕ → Type 0
HeadFits [] count = ⊤
HeadFits (q ∷ qs) count = q.0 + 1 + count < 2 ^ 64
