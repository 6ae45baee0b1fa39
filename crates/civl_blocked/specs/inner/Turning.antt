-- Serves private functions: a run that is turned into a block run, on its way.
use Rattle.std.specs.Prelude.{ℕ, ◌+◌, ◌*◌, ◌≤◌, ◌<◌, ◌≡◌, List, [], ◌++◌, length, Option, None, Some, All, ◌⊎◌}
use Rattle.civl_meaning.specs.declared.config.Move.{Move}
use Rattle.civl_meaning.specs.declared.config.Config.{Config}
use Rattle.civl_meaning.specs.Failing.{IsMove}
use Rattle.civl_reduction.specs.interleavings.Systems.{Failing}
use Rattle.civl_reduction.specs.interleavings.Runs.{Staged}
use Rattle.civl_reduction.specs.interleavings.Reduction.{Late, Between}
use Rattle.civl_reduction.specs.blocks.Shadow.{shadowed}
use Rattle.civl_shadows.specs.Shadows.{Shows}
use Rattle.civl_shadows.specs.declared.shadow.Shadowed as kept
use Rattle.civl_reduction.specs.gathering.Gathered.{counted, blocks, others, FailsSooner, AllPass}
use Rattle.civl_reduction.specs.gathered.Laws.{by_thread}
use Rattle.civl_blocked.specs.declared.ground.Ground.{Ground}
use Rattle.civl_blocked.specs.declared.segment.Segment.{Segment}
use Rattle.civl_blocked.specs.declared.turning.Turning.{Turning}
use Rattle.civl_blocked.specs.declared.turning.Next.{Next}
use Rattle.civl_blocked.specs.declared.turning.Next.TheVariants.{Goes, Done, Spent}
use Rattle.civl_blocked.specs.Blocked.{IsTurned, IsUnended}
use Rattle.civl_blocked.specs.inner.Segments.{over, place_on, program_of, FailsTo, MayGather}

-- how many blocks can still come of these moves: none that is open has ended yet
abbrev pub left_of : Ground → Option ℕ → List Move → Config → ℕ
left_of g None rest c = length rest
left_of g (Some t) rest c = counted (over g) t rest c + 1

-- what becomes smaller
abbrev pub measure_of : Ground → Option ℕ → List Move → Config → ℕ
measure_of g None rest c = 2 * length rest
measure_of g (Some t) rest c = 2 * counted (over g) t rest c + 1

abbrev pub measure : Ground → Turning → ℕ
measure g t = measure_of g t.open t.rest.items t.beside.config

abbrev pub ended : Ground → List Move → ℕ
ended g moves = blocks (over g) moves (over g).start

-- the shadow beside these moves
abbrev pub IsBeside : Ground → List Move → kept.Shadowed → Type 0
IsBeside g moves s = Shows s (shadowed (program_of g) g.layer g.store.now moves)

-- a block run of these moves that isn't challenged, with the first moves of a block behind it, whose thread stands late, if one is
-- open
pub record Standing (g : Ground) (done : List Move) (open_block : Option ℕ) (beside : kept.Shadowed) : Type 0 where
  pub staged : Staged (over g) done open_block beside.config
  pub done_moves : All IsMove done
  pub beside_it : IsBeside g done beside
  pub late : (u : ℕ) → open_block ≡ Some u → place_on g beside.config u ≡ Late

-- with a rest that fails
pub record Going (g : Ground) (done : List Move) (open_block : Option ℕ) (beside : kept.Shadowed) (rest : List Move) : Type 0 where
  pub standing : Standing g done open_block beside
  pub rest_moves : All IsMove rest
  pub fails : FailsTo (over g) rest beside.config

-- of which no more blocks can come than this
abbrev pub Bounded : Ground → ℕ → List Move → Option ℕ → kept.Shadowed → List Move → Type 0
Bounded g bound done open_block beside rest = ended g done + left_of g open_block rest beside.config ≤ bound

-- so it is where there are so many moves in all, and so many that aren't of the open block
pub record Room (g : Ground) (bound before : ℕ) (done : List Move) (open_block : Option ℕ) (whole part : ℕ) : Type 0 where
  pub none : open_block ≡ None → (ended g done + whole ≤ bound) × (2 * whole ≤ before)
  pub some : (v : ℕ) → open_block ≡ Some v → (ended g done + part + 1 ≤ bound) × (2 * part + 1 ≤ before)

-- only this thread may step
abbrev pub OnlyMay : Option ℕ → ℕ → Type 0
OnlyMay open_block u = (v : ℕ) → open_block ≡ Some v → v ≡ u

abbrev pub IsStanding : Ground → Turning → Type 0
IsStanding g t = Standing g t.done.items t.open t.beside

abbrev pub IsGoing : Ground → Turning → Type 0
IsGoing g t = Going g t.done.items t.open t.beside t.rest.items

abbrev pub IsTurning : Ground → ℕ → Turning → Type 0
IsTurning g bound t = Bounded g bound t.done.items t.open t.beside t.rest.items

abbrev pub HasRoom : Ground → ℕ → ℕ → Turning → ℕ → ℕ → Type 0
HasRoom g bound before t whole part = Room g bound before t.done.items t.open whole part

abbrev pub whole_of : Segment → List Move → ℕ
whole_of s rest = length s.moves.items + 1 + length rest

abbrev pub part_of : ℕ → Segment → List Move → ℕ
part_of u s rest = length (others by_thread u s.moves.items) + length rest

-- a segment was taken off the rest, which fails behind it
pub record IsGathering (g : Ground) (t : Turning) (u : ℕ) (s : Segment) (rest : List Move) : Type 0 where
  pub standing : IsStanding g t
  pub mine : s.last.thread ≡ u
  pub may_go : OnlyMay t.open u
  pub may : MayGather g t.beside.config u s
  pub moves : All IsMove s.moves.items
  pub last : IsMove s.last
  pub rest_moves : All IsMove rest
  pub fails : FailsTo (over g) rest s.end
  pub turned : (place_on g s.end u ≡ Between) ⊎ ((t.open ≡ None) × (place_on g s.end u ≡ Late))

-- moves were taken off the rest that fail sooner
pub record IsShortening (g : Ground) (t : Turning) (u : ℕ) (moves : List Move) : Type 0 where
  pub standing : IsStanding g t
  pub may_go : OnlyMay t.open u
  pub sooner : FailsSooner (over g) u moves t.beside.config
  pub are_moves : All IsMove moves

-- the whole rest was taken off, and leaves the block of this thread open
pub record IsFinishing (g : Ground) (t : Turning) (u : ℕ) (moves : List Move) (end : Config) : Type 0 where
  pub standing : IsStanding g t
  pub open_is : t.open ≡ Some u
  pub none : t.rest.items ≡ []
  pub pass : AllPass (over g) u moves t.beside.config end
  pub are_moves : All IsMove moves
  pub fails : Failing (over g).steps end

abbrev pub IsNext : Ground → ℕ → ℕ → Turning → Next → Type 0
IsNext g bound before t Goes = IsGoing g t × IsTurning g bound t × (measure g t < before)
IsNext g bound before t Done = (given : List Move) → bound ≤ length given → IsTurned (program_of g) g.layer g.store.now given t.done.items
IsNext g bound before t (Spent u moves) = IsUnended (program_of g) g.layer g.store.now 1000000 u (t.done.items ++ moves.items)
