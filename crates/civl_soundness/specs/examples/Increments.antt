-- Increments without a lock, in the lowest program: configurations on a schedule of it are its own, by the laws.
use Rattle.civl_meaning.specs.Layers.{lowest}
use Rattle.civl_meaning.specs.Config.{IsPlain, IsOf}
use Rattle.civl_meaning.specs.examples.Increments.{increments, low_middle, low_later}

abbrev pub IncrementsArePlain : Type 0
IncrementsArePlain = IsPlain (lowest increments)

-- after eight moves: a thread inside a call, with a word among its locals, and one before its second call
abbrev pub MiddleIsOf : Type 0
MiddleIsOf = IsOf (lowest increments) low_middle

-- after three more: both inside a call
abbrev pub LaterIsOf : Type 0
LaterIsOf = IsOf (lowest increments) low_later
