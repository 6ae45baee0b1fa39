-- Serves private functions: the moves up to the turn of a block, and up to its end.
use Rattle.std.specs.Prelude.{ℕ, ◌≡◌, ◌≢◌, false, List, [], ◌∷◌, ◌++◌, Some}
use Rattle.civl_meaning.specs.declared.config.Move.{Move}
use Rattle.civl_meaning.specs.declared.config.Config.{Config}
use Rattle.civl_reduction.specs.interleavings.Systems.{Failing}
use Rattle.civl_reduction.specs.interleavings.Reduction.{Early}
use Rattle.civl_reduction.specs.gathering.Gathered.{AllPass, AreEarly}
use Rattle.civl_blocked.specs.declared.ground.Ground.{Ground}
use Rattle.civl_blocked.specs.declared.segment.Segment.{Segment}
use Rattle.civl_blocked.specs.declared.walking.Walked.{Walked}
use Rattle.civl_blocked.specs.declared.walking.Walked.TheVariants.{To, Past}
use Rattle.civl_blocked.specs.inner.Segments.{over, place_on, FailsTo}

-- these moves are a segment's, and then others
abbrev pub SplitAt : Segment → List Move → List Move → Type 0
SplitAt s given rest = given ≡ s.moves.items ++ s.last ∷ rest

-- a segment of steps each of which leaves its thread early, and then one that doesn't
pub record Turns (g : Ground) (from : Config) (given rest : List Move) (s : Segment) : Type 0 where
  pub split : SplitAt s given rest
  pub middle : Config
  pub early : AreEarly (over g) (place_on g) s.moves.items from middle
  pub last : (over g).step middle s.last ≡ Some s.end
  pub turns : place_on g s.end s.last.thread ≢ Early
  pub fails : FailsTo (over g) rest s.end

-- or none of them does
pub record IsAllEarly (g : Ground) (from : Config) (given rest moves : List Move) (end : Config) : Type 0 where
  pub all : given ≡ moves
  pub none : rest ≡ []
  pub early : AreEarly (over g) (place_on g) moves from end
  pub fails : Failing (over g).steps end

abbrev pub IsToTurn : Ground → Config → List Move → List Move → Walked → Type 0
IsToTurn g from given rest (To s) = Turns g from given rest s
IsToTurn g from given rest (Past moves end) = IsAllEarly g from given rest moves.items end

-- a segment whose last step ends the thread's block, and no other step does
pub record Ends (g : Ground) (from : Config) (t : ℕ) (given rest : List Move) (s : Segment) : Type 0 where
  pub split : SplitAt s given rest
  pub middle : Config
  pub pass : AllPass (over g) t s.moves.items from middle
  pub mine : s.last.thread ≡ t
  pub last : (over g).step middle s.last ≡ Some s.end
  pub ended : (over g).inside s.end t ≡ false
  pub fails : FailsTo (over g) rest s.end

pub record IsUnfinished (g : Ground) (from : Config) (t : ℕ) (given rest moves : List Move) (end : Config) : Type 0 where
  pub all : given ≡ moves
  pub none : rest ≡ []
  pub pass : AllPass (over g) t moves from end
  pub fails : Failing (over g).steps end

abbrev pub IsToEnd : Ground → Config → ℕ → List Move → List Move → Walked → Type 0
IsToEnd g from t given rest (To s) = Ends g from t given rest s
IsToEnd g from t given rest (Past moves end) = IsUnfinished g from t given rest moves.items end
