-- Programs that keep the rules on layers.
use Rattle.std.specs.Prelude.{◌≡◌, List, Option, Some}
use Rattle.civl_tree.specs.declared.program.Program.{Program}
use Rattle.civl_tree.specs.declared.refusal.Refusal.{Refusal}
use Rattle.civl_tree.specs.declared.refusal.Refused.{Refused}
use Rattle.civl_tree.specs.declared.refusal.Refused.TheVariants.{At, Memory}
use Rattle.civl_tree.specs.Numbered.{IsNumbered}
use Rattle.civl_tree.specs.rules.Rules.{Rule, Keeps}
use Rattle.civl_tree.specs.rules.Typing.{typing_rules}
use Rattle.civl_tree.specs.rules.Broken.{IsFirstBroken}
use Rattle.civl_layers.specs.LayerRules.{layer_rules}

-- a program that breaks none of the rules E10 to E35, and whose items and statements have numbers of 32 bits
pub record IsLayered (program : Program) : Type 0 where
  pub rules : Keeps typing_rules program
  pub layers : Keeps layer_rules program
  pub numbered : IsNumbered program

-- the answer is this refusal, and there is one
abbrev pub IsAt : Option Refusal → Refused → Type 0
IsAt wanted (At refusal) = wanted ≡ Some refusal
IsAt wanted Memory = ⊥

-- the answer is the first of these rules that the program breaks
abbrev pub IsAtFirst : List Rule → Program → Refused → Type 0
IsAtFirst rules program (At refusal) = IsFirstBroken rules program refusal
IsAtFirst rules program Memory = ⊥
