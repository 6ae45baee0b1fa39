-- All static rules, and programs that keep those on linear locals, yields and movers.
use Rattle.std.specs.Prelude.{Bool, List, ◌++◌, map}
use Rattle.civl_tree.specs.declared.program.Program.{Program}
use Rattle.civl_tree.specs.rules.Rules.{Rule}
use Rattle.civl_tree.specs.rules.Typing.{typing_rules}
use Rattle.civl_tree.specs.rules.Broken.{AreInOrder, AreSorted}
use Rattle.civl_layers.specs.LayerRules.{layer_rules}
use Rattle.civl_linear.specs.LinearRules.{linear_rules}
use Rattle.civl_yields.specs.YieldRules.{yield_rules}
use Rattle.civl_yields.specs.Phases.{phases_of}

-- E40 to E53, in their order
abbrev pub admission_rules : List Rule
admission_rules = linear_rules ++ yield_rules

-- all static rules, E10 to E53, in their order
abbrev pub static_rules : List Rule
static_rules = typing_rules ++ (layer_rules ++ admission_rules)

-- their codes rise, and each tells the statements of a procedure in their order; so all places at which a program breaks
-- them are listed by code, item and statement
pub record StaticRulesAreInOrder : Type 0 where
  pub in_order : AreInOrder static_rules
  pub sorted : AreSorted static_rules

-- the phase before each call of each procedure
abbrev pub all_phases : Program → List (List Bool)
all_phases program = map (phases_of program) program.procs
