-- What holds of every trace.
use Rattle.std.specs.Prelude.{ℕ, ◌+◌, ◌≡◌, Bool, true, List, [], ◌∷◌, ◌++◌, slice_set, Option, None, Some}
use Rattle.std.specs.List.{Contains}
use Rattle.civl_bits.specs.declared.value.Value.{Value}
use Rattle.civl_tree.specs.declared.expr.Expr.{Expr}
use Rattle.civl_tree.specs.declared.stmt.Stmt.{Stmt, out-Stmt}
use Rattle.civl_tree.specs.declared.stmt.Stmt.TheOpen as stmt
use Rattle.civl_tree.specs.Numbering.{exit_number, statement_at}
use Rattle.civl_layers.specs.declared.cut.Cut.{Cut}
use Rattle.civl_meaning.specs.Change.{statement_doing}
use Rattle.civl_meaning.specs.Failing.{fails_at}
use Rattle.civl_conditions.specs.paths.Paths.{Course, Progress, Outcome, Past, Comes, Fails, Stops, tested, pass, path_from, progress_of}
use Rattle.civl_traces.specs.declared.walked.Changed.{Changed}
use Rattle.civl_traces.specs.Traces.{Passed, trace_from}
use Rattle.civl_traces.specs.Told.{changed}

-- the trace comes to what the path comes to
abbrev pub TracesAreOfPaths : Type 0
TracesAreOfPaths = (c : Course) (cut : Cut) (p : Progress) → (trace_from c cut p).outcome ≡ path_from c cut p

-- ---- the states

-- the first statement is passed from this state, each other one from where the one in front of it came, and the last one comes
-- to that state
abbrev pub AreJoined : Progress → List Passed → Progress → Type 0
AreJoined first [] last = first ≡ last
AreJoined first (q ∷ qs) last = (q.before ≡ first) × AreJoined q.behind qs last

abbrev pub TracesAreJoined : Type 0
TracesAreJoined = (c : Course) (cut : Cut) (p : Progress) → AreJoined p (trace_from c cut p).passed (progress_of (trace_from c cut p).outcome)

-- ---- the statements

-- the condition of an `if` or a loop
abbrev pub condition : stmt.Stmt-F Stmt → Option Expr
condition (stmt.If e a b) = Some e
condition (stmt.While e a) = Some e
condition (stmt.YieldLoop e i a) = Some e
condition (stmt.RankLoop e r i a) = Some e
condition _ = None

-- passed alone: with a condition, which has this truth, nothing changes; else the path over this statement comes behind it
abbrev pub PassesAlone : Course → Passed → Stmt → Option Bool → Type 0
PassesAlone c q s (Some truth) = (e : Expr) × (condition (out-Stmt s) ≡ Some e) × (tested c e q.before ≡ truth) × (q.behind ≡ q.before)
PassesAlone c q s None = (condition (out-Stmt s) ≡ None) × (pass c s q.statement q.before ≡ Past q.behind)

-- each statement that is passed stands in the body at its number, and is passed alone
abbrev pub StandsInBody : Course → Passed → Type 0
StandsInBody c q = (s : Stmt) × (statement_at c.proc.body q.statement ≡ Some s) × PassesAlone c q s q.took

abbrev pub PassedStandInBody : Type 0
PassedStandInBody = (c : Course) (cut : Cut) (p : Progress) (q : Passed) → Contains (trace_from c cut p).passed q → StandsInBody c q

-- ---- the end

-- past all statements is the exit; a cut has its number; what fails is an assert that is false, or a call of an action whose gate
-- is false; and what stops isn't passed
abbrev pub EndsSo : Course → ℕ → Outcome → Type 0
EndsSo c at (Past p) = at ≡ exit_number c.proc.body
EndsSo c at (Comes number p) = at ≡ number
EndsSo c at (Fails p) =
    (s : Stmt) × (statement_at c.proc.body at ≡ Some s) × (fails_at c.plain p.store (statement_doing c.plain c.proc p.locals at (at + 1) (out-Stmt s)) ≡ true)
EndsSo c at (Stops p) = (s : Stmt) × (statement_at c.proc.body at ≡ Some s) × (pass c s at p ≡ Stops p)

abbrev pub TracesEndSo : Type 0
TracesEndSo = (c : Course) (cut : Cut) (p : Progress) → EndsSo c (trace_from c cut p).at (trace_from c cut p).outcome

-- ---- what is told to change

-- these values, with what is told to have come in the place of others
abbrev pub with_changes : List Changed → List Value → List Value
with_changes [] vs = vs
with_changes (d ∷ ds) vs = with_changes ds (slice_set vs d.place d.after)

-- the values of a state, in the order of their places
abbrev pub values : Progress → List Value
values p = p.store.values ++ p.locals

-- the changes that are told of a statement lead from the values before it to those behind it
abbrev pub ChangesLead : Type 0
ChangesLead =
    (c : Course) (cut : Cut) (p : Progress) (q : Passed) → Contains (trace_from c cut p).passed q →
    with_changes (changed q.before q.behind) (values q.before) ≡ values q.behind
