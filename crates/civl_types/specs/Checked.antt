-- Why a program isn't taken.
use Rattle.std.specs.Prelude.{◌≡◌, List, Option, Some, ⊤}
use Rattle.civl_tree.specs.declared.program.Program.{Program}
use Rattle.civl_tree.specs.declared.refusal.Refusal.{Refusal}
use Rattle.civl_tree.specs.declared.refusal.Refused.{Refused}
use Rattle.civl_tree.specs.declared.refusal.Refused.TheVariants.{At, Memory}
use Rattle.civl_tree.specs.rules.Rules.{Rule}
use Rattle.civl_tree.specs.rules.Broken.{IsFirstBroken}

-- the answer says why: it has the refusal that there is, or memory is wanting
abbrev pub IsCause : Option Refusal → Refused → Type 0
IsCause wanted (At refusal) = wanted ≡ Some refusal
IsCause wanted Memory = ⊤

-- it has the first of these rules that the program breaks, or memory is wanting
abbrev pub IsFirstCause : List Rule → Program → Refused → Type 0
IsFirstCause rules program (At refusal) = IsFirstBroken rules program refusal
IsFirstCause rules program Memory = ⊤
