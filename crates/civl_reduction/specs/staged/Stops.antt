-- Where the blocks without a step end that begin at a frame's yield: just before the thread's next step. (Blocks between yields:
-- Kragl, Qadeer, Layered concurrent programs, CAV 2018.)
use Rattle.std.specs.Prelude.{◌≡◌, [], ◌∷◌, ◌⊎◌}
use Rattle.civl_tree.specs.declared.stmt.Stmt.{Stmt, out-Stmt}
use Rattle.civl_tree.specs.declared.stmt.Stmt.TheOpen as stmt
use Rattle.civl_firing.specs.declared.store.Store.{Store}
use Rattle.civl_meaning.specs.Rest.{Rest}
use Rattle.civl_conditions.specs.paths.Paths.{Course, Progress, committed, introduced}

-- where this is the first of the statements that are still to run, and `later` is so behind it
abbrev pub layer_stops : Course → stmt.Stmt-F Stmt → Progress → Store → (Progress → Type 0) → Type 0
layer_stops c stmt.Commit p x later = later (committed p)
layer_stops c (stmt.Intro name e) p x later = later (introduced c name e p)
layer_stops c (stmt.Yield i) p x later = (p.store ≡ x) ⊎ later p
layer_stops c (stmt.YieldLoop e i a) p x later = p.store ≡ x
layer_stops c _ p x later = ⊥

-- with this still to run, commits and intros take effect from this state on, and this is the store at one of the yields, or at the
-- yield loop, before which they stand
abbrev pub StopsAt : Course → Rest → Progress → Store → Type 0
StopsAt c [] p x = ⊥
StopsAt c (q ∷ k) p x = layer_stops c (out-Stmt q.1) p x (λ later. StopsAt c k later x)
