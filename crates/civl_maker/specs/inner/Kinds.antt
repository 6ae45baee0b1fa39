-- Serves private functions: what conditions speak of.
use Rattle.civl_conditions.specs.declared.condition.Condition.{Condition}
use Rattle.civl_conditions.specs.declared.condition.Condition.TheVariants.{Start, Keep, Pair, Fire, Path, Block, Act}
use Rattle.civl_maker.specs.declared.violation.Kind.{Kind}
use Rattle.civl_maker.specs.declared.violation.Kind.TheVariants.{Actions, Paths, Steadiness}

-- K2 to K8 speak of actions, K9 of paths, and K1, K10 and K11 of what stays true
abbrev pub kind_of : Condition → Kind
kind_of (Start step i) = Steadiness
kind_of (Keep step x) = Actions
kind_of (Pair number step x y) = Actions
kind_of (Fire step x) = Actions
kind_of (Path part step q c) = Paths
kind_of (Block step q c t) = Steadiness
kind_of (Act step x t) = Steadiness
