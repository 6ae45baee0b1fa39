-- From a condition of the list and its kind to what the makers of its kind ask.
use Rattle.std.specs.List.{Contains}
use Rattle.std.proofs.Common.{◌≡◌}
use Rattle.civl_tree.specs.declared.program.Program.{Program}
use Rattle.civl_conditions.specs.declared.condition.Condition.{Condition}
use Rattle.civl_conditions.specs.declared.condition.Condition.TheVariants.{Start, Keep, Pair, Fire, Path, Block, Act}
use Rattle.civl_conditions.specs.Listed.{conditions}
use Rattle.civl_movers.specs.Settings.{IsOfActions}
use Rattle.civl_movers.proofs.Listed.{HasActions, listed_there}
use Rattle.civl_maker.specs.inner.Kinds.{kind_of}
use Rattle.civl_refine.specs.Kinds.{IsOfPaths}
use Rattle.civl_refine.specs.steadiness.Kinds.{IsOfSteadiness}
use Rattle.civl_maker.specs.declared.violation.Kind.TheVariants.{Actions, Paths, Steadiness}
use Rattle.civl_maker.proofs.Listed.{HasPlaces, places_there}

actions_of : (program : Program) (c : Condition) → HasActions program c → kind_of c ≡ Actions → IsOfActions program c
actions_of program (Start step i) h e = absurd (cc)
actions_of program (Keep step x) h e = h
actions_of program (Pair number step x y) h e = h
actions_of program (Fire step x) h e = h
actions_of program (Path part step q c) h e = absurd (cc)
actions_of program (Block step q c t) h e = absurd (cc)
actions_of program (Act step x t) h e = absurd (cc)

pub of_actions : (program : Program) (c : Condition) → Contains (conditions program) c → kind_of c ≡ Actions → IsOfActions program c
of_actions program c listed e = actions_of program c (listed_there program c listed) e

paths_of : (program : Program) (c : Condition) → HasPlaces program c → kind_of c ≡ Paths → IsOfPaths program c
paths_of program (Start step i) h e = absurd (cc)
paths_of program (Keep step x) h e = absurd (cc)
paths_of program (Pair number step x y) h e = absurd (cc)
paths_of program (Fire step x) h e = absurd (cc)
paths_of program (Path part step q c) h e = h
paths_of program (Block step q c t) h e = absurd (cc)
paths_of program (Act step x t) h e = absurd (cc)

pub of_paths : (program : Program) (c : Condition) → Contains (conditions program) c → kind_of c ≡ Paths → IsOfPaths program c
of_paths program c listed e = paths_of program c (places_there program c listed) e

steadiness_of : (program : Program) (c : Condition) → HasActions program c → HasPlaces program c → kind_of c ≡ Steadiness → IsOfSteadiness program c
steadiness_of program (Start step i) h k e = tt
steadiness_of program (Keep step x) h k e = absurd (cc)
steadiness_of program (Pair number step x y) h k e = absurd (cc)
steadiness_of program (Fire step x) h k e = absurd (cc)
steadiness_of program (Path part step q c) h k e = absurd (cc)
steadiness_of program (Block step q c t) h k e = k
steadiness_of program (Act step x t) h k e = (h, k)

pub of_steadiness : (program : Program) (c : Condition) → Contains (conditions program) c → kind_of c ≡ Steadiness → IsOfSteadiness program c
of_steadiness program c listed e = steadiness_of program c (listed_there program c listed) (places_there program c listed) e
