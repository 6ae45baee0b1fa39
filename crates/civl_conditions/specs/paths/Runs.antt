-- Runs of one frame, which go by steps, and paths, which go over statements: a step of the frame is a step of its path (the
-- small-step and the big-step meaning of a program agree: Plotkin, A structural approach to operational semantics, 1981;
-- Kahn, Natural semantics, 1987).
use Rattle.std.specs.Prelude.{ℕ, zero, suc, ◌≡◌, Bool, true, false, if◌then◌else◌, [], ◌∷◌, drop, slice_get, Option, None, Some}
use Rattle.std.specs.Option.{option_map_or}
use Rattle.civl_tree.specs.declared.stmt.Stmt.{Stmt, out-Stmt}
use Rattle.civl_tree.specs.declared.stmt.Stmt.TheOpen as stmt
use Rattle.civl_tree.specs.Numbering.{sizes_of}
use Rattle.civl_meaning.specs.declared.config.Stepped.TheVariants as answer
use Rattle.civl_meaning.specs.declared.config.Change.{Change}
use Rattle.civl_meaning.specs.declared.config.Change.TheVariants.{Stays, Goes, Acts}
use Rattle.civl_meaning.specs.Places.{Spot, spot_at}
use Rattle.civl_meaning.specs.Rest.{Rest, rest_at, place_in}
use Rattle.civl_meaning.specs.Change.{done_by, statement_doing}
use Rattle.civl_layers.specs.declared.cut.Cut.{Cut}
use Rattle.civl_layers.specs.declared.cut.CutKind.{CutKind}
use Rattle.civl_layers.specs.declared.cut.CutKind.TheVariants as kind
use Rattle.civl_layers.specs.Cuts.{proc_cuts}
use Rattle.civl_conditions.specs.paths.Paths.{Course, Progress, Outcome, Past, Comes, Fails, Stops, committed, introduced, pass_all, path_from}

-- a frame of the procedure: the place where it stands, and the state there
pub record Standing : Type 0 where
  pub place : ℕ
  pub state : Progress

-- what is still to run from there
abbrev pub rest_of : Course → Standing → Rest
rest_of c frame = rest_at c.proc.body frame.place

-- what its path comes to from there
abbrev pub comes_to : Course → Standing → Outcome
comes_to c frame = pass_all c (rest_of c frame) frame.state

-- ---- what a step passes over

-- a commit or an intro takes effect before the next step; no other statement that a plain program passes over has one
abbrev pub layer_led : Course → stmt.Stmt-F Stmt → Progress → Option Progress
layer_led c stmt.Commit p = Some (committed p)
layer_led c (stmt.Intro x e) p = Some (introduced c x e p)
layer_led c _ p = None

-- the state behind the commits and intros at the head of what is still to run
abbrev pub led : Course → Rest → Progress → Progress
led c [] p = p
led c (q ∷ k) p = option_map_or (led c k) (layer_led c (out-Stmt q.1) p) p

-- the number of a yield that stands before the next statement of a plain program, if one does
abbrev pub layer_yields : stmt.Stmt-F Stmt → Bool
layer_yields (stmt.Yield i) = true
layer_yields _ = false

abbrev pub layer_leads : stmt.Stmt-F Stmt → Bool
layer_leads stmt.Commit = true
layer_leads (stmt.Intro x e) = true
layer_leads _ = false

abbrev pub yield_before : Rest → Option ℕ
yield_before [] = None
yield_before (q ∷ k) = if layer_yields (out-Stmt q.1) then Some q.0 else (if layer_leads (out-Stmt q.1) then yield_before k else None)

-- ---- a step of the frame

-- where a step comes to, from a state: a new place and state, or none
abbrev pub moved : Progress → Change → Option Standing
moved p (Goes locals place) = Some (record { place = place; state = record { store = p.store; locals = locals; done = p.done; again = p.again } })
moved p (Acts store locals place) = Some (record { place = place; state = record { store = store; locals = locals; done = p.done; again = p.again } })
moved p _ = None

-- what the plain program does with the statement at a spot, by its step
abbrev pub spot_does : Course → Spot → Progress → Change
spot_does c s p = done_by c.plain p.store (c.chosen s.number) (statement_doing c.plain c.proc p.locals s.number s.next (out-Stmt s.stmt))

-- why the frame doesn't go on: its path ends here, or it can't
abbrev pub halted : Progress → Change → Outcome
halted p (Stays answer.Failing) = Fails p
halted p _ = Stops p

-- what stands at a spot of a path: a loop, where the path ends; a plain loop or a spawn, at which it stops; or a statement
-- that it passes
abbrev pub layer_ends : ℕ → Progress → stmt.Stmt-F Stmt → Option Outcome
layer_ends number p (stmt.YieldLoop e i a) = Some (Comes number p)
layer_ends number p (stmt.RankLoop e r i a) = Some (Comes number p)
layer_ends number p (stmt.While e a) = Some (Stops p)
layer_ends number p (stmt.Spawn f es) = Some (Stops p)
layer_ends number p _ = None

-- one step on a path: an outcome, where it ends or doesn't go on, or where the frame then stands
pub data Advance : Type 0 where
  Ends : Outcome → Advance
  Stands : Standing → Advance

abbrev pub advance_by : Progress → Change → Advance
advance_by p change = option_map_or Stands (moved p change) (Ends (halted p change))

abbrev pub advance_from : Course → Spot → Progress → Advance
advance_from c s p = option_map_or Ends (layer_ends s.number p (out-Stmt s.stmt)) (advance_by p (spot_does c s p))

abbrev pub advance_at : Course → Option Spot → Progress → Advance
advance_at c None p = Ends (Past p)
advance_at c (Some s) p = advance_from c s p

abbrev pub advance_led : Course → Standing → Progress → Advance
advance_led c frame p = option_map_or (λ number. Ends (Comes number p)) (yield_before (rest_of c frame)) (advance_at c (spot_at c.proc.body frame.place) p)

abbrev pub advance : Course → Standing → Advance
advance c frame = advance_led c frame (led c (rest_of c frame) frame.state)

-- the path is at this outcome, or comes to it from where the frame then stands
abbrev pub Reaches : Course → Advance → Outcome → Type 0
Reaches c (Ends o) outcome = o ≡ outcome
Reaches c (Stands frame) outcome = comes_to c frame ≡ outcome

-- a step of the frame is a step of its path
abbrev pub StepIsOnPath : Type 0
StepIsOnPath = (c : Course) (frame : Standing) → Reaches c (advance c frame) (comes_to c frame)

-- ---- runs

abbrev pub next_steps : (Standing → Option Standing) → Advance → Option Standing
next_steps go (Ends o) = None
next_steps go (Stands frame) = go frame

-- where the frame stands after so many steps, where each of them goes on
abbrev pub after_steps : Course → ℕ → Standing → Option Standing
after_steps c zero frame = Some frame
after_steps c (suc n) frame = next_steps (after_steps c n) (advance c frame)

-- runs are on paths: where the frame stands after so many steps, its path comes to what it came to before
abbrev pub RunsAreOnPaths : Type 0
RunsAreOnPaths = (c : Course) (n : ℕ) (first last : Standing) → after_steps c n first ≡ Some last → comes_to c last ≡ comes_to c first

-- paths are runs: after some steps the frame stands where its path has ended, or doesn't go on
abbrev pub PathsAreRuns : Type 0
PathsAreRuns = (c : Course) (first : Standing) → (n : ℕ) × (last : Standing) × (after_steps c n first ≡ Some last) × (advance c last ≡ Ends (comes_to c first))

-- ---- from a cut

-- where the frame stands whose path begins at a cut: at the entry; behind a yield; and behind the first step of a loop
abbrev pub begins_by : Course → ℕ → CutKind → Progress → Advance
begins_by c number kind.Entry p = Stands (record { place = 0; state = p })
begins_by c number kind.Yield p = Stands (record { place = place_in (sizes_of c.proc.body) (drop 1 (rest_at c.proc.body number)); state = p })
begins_by c number kind.YieldLoop p = option_map_or (λ s. advance_by p (spot_does c s p)) (spot_at c.proc.body number) (Ends (Past p))
begins_by c number kind.RankLoop p = option_map_or (λ s. advance_by p (spot_does c s p)) (spot_at c.proc.body number) (Ends (Past p))

abbrev pub begins_at : Course → Cut → Progress → Advance
begins_at c cut p = begins_by c cut.statement cut.kind p

-- the path from a cut of the procedure is that of the frame
abbrev pub PathsBeginAtCuts : Type 0
PathsBeginAtCuts = (c : Course) (number : ℕ) (cut : Cut) (p : Progress) → slice_get (proc_cuts c.proc) number ≡ Some cut → Reaches c (begins_at c cut p) (path_from c cut p)
