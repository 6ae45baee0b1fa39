-- Serves private functions: which parameters the code looks at.
use Rattle.std.specs.Prelude.{Bool, List, [], ◌∷◌, Option, None, Some}
use Rattle.std.specs.Borrow.{Bor}
use Rattle.civl_tree.specs.declared.name.Name.{Name}
use Rattle.civl_tree.specs.declared.action.Mode.{Mode}
use Rattle.civl_linear.specs.Modes.{is_passed, is_taken}
use Rattle.civl_linear.specs.declared.modes.Want.{Want}
use Rattle.civl_linear.specs.declared.modes.Want.TheVariants.{Passed, Taken}

abbrev pub wants : Want → Mode → Bool
wants Passed = is_passed
wants Taken = is_taken

-- a name that may be there
abbrev pub list_of : Option (Bor Name) → List Name
list_of None = []
list_of (Some name) = name.now ∷ []
