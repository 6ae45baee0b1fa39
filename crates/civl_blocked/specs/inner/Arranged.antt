-- Serves private functions: moves that are arranged block by block.
use Rattle.std.specs.Prelude.{ℕ, ◌+◌, ◌<◌, ◌≤◌, ◌≡◌, false, true, List, drop, length, Option, None, All}
use Rattle.civl_meaning.specs.declared.config.Move.{Move}
use Rattle.civl_meaning.specs.declared.config.Config.{Config}
use Rattle.civl_meaning.specs.Failing.{IsMove}
use Rattle.civl_reduction.specs.interleavings.Runs.{SystemRuns, BlocksTo, Staged}
use Rattle.civl_blocked.specs.declared.ground.Ground.{Ground}
use Rattle.civl_blocked.specs.declared.arranging.Arranged.{Arranged}
use Rattle.civl_blocked.specs.declared.leading.Found.{Found}
use Rattle.civl_blocked.specs.declared.leading.Found.TheVariants.{Whole, Nothing, Elsewhere}
use Rattle.civl_shadows.specs.declared.shadow.Shadowed as kept
use Rattle.civl_blocked.specs.inner.Segments.{over, FailsTo}
use Rattle.civl_blocked.specs.inner.Turning.{Standing, IsBeside, ended}

-- whole blocks, and behind them the others, lead there
pub record Leads (g : Ground) (from : Config) (a : Arranged) (end : Config) : Type 0 where
  pub middle : Config
  pub blocks : BlocksTo (over g) None a.blocks.items from None middle
  pub others : SystemRuns (over g).steps a.others.items middle end

abbrev pub count_of : Arranged → ℕ
count_of a = length a.blocks.items + length a.others.items

-- they stand for as many moves at the front of a rest, which fails behind them
pub record IsArranged (g : Ground) (from : Config) (rest : List Move) (a : Arranged) : Type 0 where
  pub end : Config
  pub leads : Leads g from a end
  pub fails : FailsTo (over g) (drop (count_of a) rest) end
  pub some : 0 < length a.blocks.items
  pub there : count_of a ≤ length rest
  pub block_moves : All IsMove a.blocks.items
  pub other_moves : All IsMove a.others.items

abbrev pub IsFound : Ground → Config → List Move → Found → Type 0
IsFound g from rest (Whole a) = IsArranged g from rest a
IsFound g from rest Nothing = Unit {0}
IsFound g from rest Elsewhere = Unit {0}

-- ---- blocks that are joined

-- a step that leaves its thread between blocks leaves the run unchallenged, or challenges it
abbrev pub IsCalm : Ground → Config → ℕ → List Move → Type 0
IsCalm g c t ms = (over g).inside c t ≡ false → (over g).challenged ms ≡ false

abbrev pub IsHard : Ground → Config → ℕ → List Move → Type 0
IsHard g c t ms = ((over g).inside c t ≡ false) × ((over g).challenged ms ≡ true)

-- on the way: some of the blocks' moves are joined, and the others are left
pub record IsJoining (g : Ground) (before : List Move) (from : Config) (joined left done : List Move) (beside : kept.Shadowed) : Type 0 where
  pub owner : Option ℕ
  pub end : Config
  pub staged : Staged (over g) done owner beside.config
  pub done_moves : All IsMove done
  pub beside_it : IsBeside g done beside
  pub joined_blocks : BlocksTo (over g) None joined from owner beside.config
  pub left_blocks : BlocksTo (over g) owner left beside.config None end
  pub few : ended g done ≤ ended g before + length joined

-- a block run, with whole blocks behind it
pub record IsLonger (g : Ground) (before after : List Move) (old new : kept.Shadowed) (blocks : List Move) : Type 0 where
  pub standing : Standing g after None new
  pub runs : BlocksTo (over g) None blocks old.config None new.config
  pub few : ended g after ≤ ended g before + length blocks
