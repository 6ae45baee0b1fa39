-- A script with values of every form: the tokens at which its entries and its first moves begin.
use Rattle.std.specs.Prelude.{◌≡◌, [], ◌∷◌, map}
use Rattle.civl_tree.specs.examples.SpellingScripts.{script}
use Rattle.civl_refusals.specs.Scripts.{part_start}

-- f = true; x = 255:8; r = [0:8, 1:8]; e = []; m = [true]; move 0 (); move 4294967295 (..);
abbrev pub ScriptExamples : Type 0
ScriptExamples = map (part_start script) (0 ∷ 1 ∷ 2 ∷ 3 ∷ 4 ∷ 5 ∷ 6 ∷ []) ≡ 103 ∷ 107 ∷ 113 ∷ 125 ∷ 130 ∷ 136 ∷ 141 ∷ []
