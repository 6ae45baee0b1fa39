-- The laws of gathering, of the program of a layer of a checked program. (Lipton, Reduction: a method of proving properties of
-- parallel programs, 1975; of layers: Hawblitzel, Petrank, Qadeer, Tasiran, CAV 2015.)
use Rattle.std.specs.Prelude.{ℕ, ◌≡◌, ◌≢◌, true, List, [], ◌∷◌, ◌++◌, None, Some, All, ◌⊎◌}
use Rattle.civl_tree.specs.declared.program.Program.{Program}
use Rattle.civl_firing.specs.declared.store.Store.{Store}
use Rattle.civl_meaning.specs.declared.config.Move.{Move}
use Rattle.civl_meaning.specs.declared.config.Config.{Config}
use Rattle.civl_meaning.specs.Failing.{IsMove}
use Rattle.civl_meaning.specs.Layers.{program_at}
use Rattle.civl_reduction.specs.interleavings.Systems.{Failing}
use Rattle.civl_reduction.specs.interleavings.Runs.{SystemRuns, Staged}
use Rattle.civl_reduction.specs.interleavings.Reduction.{Late, is_inside}
use Rattle.civl_reduction.specs.checked.Checked.{IsChecked}
use Rattle.civl_reduction.specs.gathering.Gathered.{others, FailsSooner, IsGathered, AllPass, AreEarly}
use Rattle.civl_reduction.specs.gathered.System.{layer_run, place_at}
use Rattle.civl_reduction.specs.gathered.Offered.{offered, AreOffered}

-- moves with values for their choices lead here from the start
pub record IsReached (program : Program) (layer : ℕ) (store : Store) (c : Config) : Type 0 where
  pub moves : List Move
  pub are_moves : All IsMove moves
  pub runs : SystemRuns (layer_run program layer store).steps moves (layer_run program layer store).start c

abbrev pub by_thread : Move → ℕ
by_thread m = m.thread

-- a thread is inside a block where it stands early or late
abbrev pub PlacesAreInside : Type 0
PlacesAreInside = (program : Program) (layer : ℕ) (store : Store) (c : Config) (t : ℕ) → IsChecked program layer store → (layer_run program layer store).inside c t ≡ is_inside (place_at program layer c t)

-- early steps of many threads and then a step of one of them: its moves can be gathered, or something fails sooner
abbrev pub EarlyMovesGather : Type 0
EarlyMovesGather =
    (program : Program) (layer : ℕ) (store : Store) (c d e : Config) (ms : List Move) (m : Move) → IsChecked program layer store → IsReached program layer store c → All IsMove ms → IsMove m
    → AreEarly (layer_run program layer store) (place_at program layer) ms c d → (layer_run program layer store).step d m ≡ Some e
    → IsGathered Config Move (layer_run program layer store) m.thread ms m c e ⊎ FailsSooner (layer_run program layer store) m.thread (ms ++ m ∷ []) c

-- where a thread fails behind early steps, which follow a block run that isn't challenged, something fails at once or sooner
abbrev pub EarlyMovesStop : Type 0
EarlyMovesStop =
    (program : Program) (layer : ℕ) (store : Store) (ps ms : List Move) (c e : Config) (t : ℕ) → IsChecked program layer store → All IsMove ps → All IsMove ms
    → Staged (layer_run program layer store) ps None c → AreEarly (layer_run program layer store) (place_at program layer) ms c e → (layer_run program layer store).fails e t ≡ true
    → Failing (layer_run program layer store).steps c ⊎ FailsSooner (layer_run program layer store) t ms c

-- a thread that stands late, and moves that leave it inside its block, then one more of it
abbrev pub LateMovesGather : Type 0
LateMovesGather =
    (program : Program) (layer : ℕ) (store : Store) (c d e : Config) (t : ℕ) (ms : List Move) (m : Move) → IsChecked program layer store → IsReached program layer store c → All IsMove ms → IsMove m
    → place_at program layer c t ≡ Late → AllPass (layer_run program layer store) t ms c d → m.thread ≡ t → (layer_run program layer store).step d m ≡ Some e
    → IsGathered Config Move (layer_run program layer store) t ms m c e ⊎ FailsSooner (layer_run program layer store) t (ms ++ m ∷ []) c

-- where such a thread fails behind such moves, and its block is open behind a block run, something fails sooner
abbrev pub LateMovesStop : Type 0
LateMovesStop =
    (program : Program) (layer : ℕ) (store : Store) (ps ms : List Move) (c e : Config) (t : ℕ) → IsChecked program layer store → All IsMove ps → All IsMove ms
    → Staged (layer_run program layer store) ps (Some t) c → place_at program layer c t ≡ Late → AllPass (layer_run program layer store) t ms c e → (layer_run program layer store).fails e t ≡ true
    → FailsSooner (layer_run program layer store) t ms c

-- behind them it stands late
abbrev pub LateThreadsStayLate : Type 0
LateThreadsStayLate =
    (program : Program) (layer : ℕ) (store : Store) (c e : Config) (t : ℕ) (ms : List Move) → IsChecked program layer store → IsReached program layer store c → All IsMove ms
    → place_at program layer c t ≡ Late → AllPass (layer_run program layer store) t ms c e → place_at program layer e t ≡ Late

-- it fails, or its offered step is made, whose choices are values; so it is behind offered steps
abbrev pub LateThreadsStep : Type 0
LateThreadsStep =
    (program : Program) (layer : ℕ) (store : Store) (c d : Config) (t : ℕ) (os : List Move) → IsChecked program layer store → IsReached program layer store c
    → place_at program layer c t ≡ Late → AreOffered program layer store t os c d
    → All IsMove os × IsMove (offered (program_at program layer) d t)
    × (((layer_run program layer store).fails d t ≡ true) ⊎ ((e : Config) × ((layer_run program layer store).step d (offered (program_at program layer) d t) ≡ Some e)))

-- another thread that fails goes on failing behind a late thread's steps
abbrev pub FailuresStay : Type 0
FailuresStay =
    (program : Program) (layer : ℕ) (store : Store) (c d e : Config) (t u : ℕ) (os : List Move) (m : Move) → IsChecked program layer store → IsReached program layer store c → All IsMove os → IsMove m
    → place_at program layer c t ≡ Late → AreOffered program layer store t os c d → m.thread ≡ t → (layer_run program layer store).step d m ≡ Some e
    → u ≢ t → (layer_run program layer store).fails c u ≡ true → (layer_run program layer store).fails e u ≡ true

-- and stands where it stood, behind moves of others
abbrev pub OthersLeave : Type 0
OthersLeave =
    (program : Program) (layer : ℕ) (store : Store) (c e : Config) (t : ℕ) (ms : List Move) → IsChecked program layer store → IsReached program layer store c → All IsMove ms
    → SystemRuns (layer_run program layer store).steps (others by_thread t ms) c e → place_at program layer e t ≡ place_at program layer c t
