-- Serves private functions: what the goals of a statement test of what it does.
use Rattle.std.specs.Prelude.{◌≡◌, ℕ, ◌*◌, Bool, false, ◌&&◌, None, slice_get}
use Rattle.civl_tree.specs.declared.stmt.Stmt.{out-Stmt}
use Rattle.civl_tree.specs.declared.program.Program.{Program}
use Rattle.civl_outlines.specs.declared.outline.Outline.{Outline}
use Rattle.civl_firing.specs.declared.store.Store.{Store}
use Rattle.civl_meaning.specs.declared.config.Activation.{Activation}
use Rattle.civl_meaning.specs.declared.config.Change.{Change}
use Rattle.civl_meaning.specs.Layers.{topmost}
use Rattle.civl_meaning.specs.Change.{proc_doing}
use Rattle.civl_meaning.specs.Failing.{fails_at}
use Rattle.civl_goals.specs.declared.goal.Goal.{Goal}
use Rattle.civl_goals.specs.declared.goal.Goal.TheVariants as goal
use Rattle.civl_goals.specs.Failed.{assumed, loses_invariant, begins_badly, leads_astray}
use Rattle.civl_goals.specs.Weights.{invariant_weight, note_before_weight, form_begins, form_reaches, summed_at}
use Rattle.civl_goal_terms.specs.declared.places.At.{At}
use Rattle.civl_goal_terms.specs.inner.There.{IsCall, IsSpawn}
use Rattle.civl_goal_terms.specs.inner.Settings.{Here, frame_at, done_by}

-- its call or its assert fails
abbrev pub is_unsafe : Program → ℕ → Store → Activation → Change → Bool
is_unsafe program r g frame change = fails_at (topmost program) g (proc_doing (topmost program) None frame (slice_get program.procs r))

-- those of the statement alone
abbrev pub fails_of : Program → Outline → Goal → Store → Activation → Change → Bool
fails_of program outline (goal.Safe r s) = is_unsafe program r
fails_of program outline (goal.Keep r s) = loses_invariant program outline
fails_of program outline (goal.Spawn r s) = begins_badly program outline
fails_of program outline (goal.Next r s) = leads_astray program outline
fails_of program outline _ = λ g frame change. false

-- what is assumed is so, and such a test is true
abbrev pub violated_at : Program → Outline → At → (Store → Activation → Change → Bool) → Here → Bool
violated_at program outline at fails here = assumed program outline here.store (frame_at at here) && done_by program at fails here

-- the goal is one of this statement alone, which is a call or a spawn where the goal is one of these
abbrev pub IsOwn : At → Goal → Type 0
IsOwn at (goal.Safe r s) = (r ≡ at.root) × (s ≡ at.number)
IsOwn at (goal.Keep r s) = (r ≡ at.root) × (s ≡ at.number) × IsCall (out-Stmt at.stmt.now)
IsOwn at (goal.Spawn r s) = (r ≡ at.root) × (s ≡ at.number) × IsSpawn (out-Stmt at.stmt.now)
IsOwn at (goal.Next r s) = (r ≡ at.root) × (s ≡ at.number)
IsOwn at _ = ⊥

-- it has these numbers
abbrev pub IsOwnOf : Goal → ℕ → ℕ → Type 0
IsOwnOf (goal.Safe r s) root number = (r ≡ root) × (s ≡ number)
IsOwnOf (goal.Keep r s) root number = (r ≡ root) × (s ≡ number)
IsOwnOf (goal.Spawn r s) root number = (r ≡ root) × (s ≡ number)
IsOwnOf (goal.Next r s) root number = (r ≡ root) × (s ≡ number)
IsOwnOf _ root number = ⊥

-- what the notes and holds weigh that the goal names beside those that are assumed
abbrev pub named_weight : Program → Outline → At → Goal → ℕ
named_weight program outline at (goal.Keep r s) = 2 * invariant_weight program outline
named_weight program outline at (goal.Spawn r s) = form_begins program outline (out-Stmt at.stmt.now)
named_weight program outline at (goal.Next r s) = summed_at (note_before_weight program outline at.root) (form_reaches at.number at.next (out-Stmt at.stmt.now))
named_weight program outline at _ = 0
