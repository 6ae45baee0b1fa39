-- Stores of as many bits as may be, and of more.
use Rattle.std.specs.Prelude.{ℕ, List, [], ◌∷◌}
use Rattle.civl_tree.specs.declared.expr.Sort.{Sort}
use Rattle.civl_tree.specs.declared.expr.Sort.TheVariants.{Bool as Truth, Word, Row}
use Rattle.civl_tree.specs.declared.program.Global.{Global}
use Rattle.civl_tree.specs.declared.program.Program.{Program}
use Rattle.civl_tree.specs.examples.RulesFlag.{plain_global, bare, Passes, Refused}

-- globals of these sorts, named `a`, `aa`, `aaa` and so on
abbrev pub globals_of : List ℕ → List Sort → List Global
globals_of prefix [] = []
globals_of prefix (sort ∷ sorts) = plain_global (97 ∷ prefix) sort ∷ globals_of (97 ∷ prefix) sorts

abbrev pub store : List Sort → Program
store sorts = record bare { globals = globals_of [] sorts }

abbrev pub RefusesSize : Type 0
RefusesSize =
    Passes (store (Row 6 32 ∷ Row 6 32 ∷ []))
    × Refused (store (Row 6 32 ∷ Row 6 32 ∷ Truth ∷ [])) 24 2 0
    × Passes (store (Row 6 31 ∷ Truth ∷ Word 31 ∷ Word 32 ∷ Row 6 32 ∷ []))
    × Refused (store (Row 6 31 ∷ Truth ∷ Word 32 ∷ Word 32 ∷ Row 6 32 ∷ Row 6 32 ∷ Truth ∷ [])) 24 4 0
