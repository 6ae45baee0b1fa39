-- The text of a value, as reports show it: a bool by its word, and a word as its number and its width, both decimal, with `:`
-- between them, as the language writes a literal. A row is its cells from index 0 on, in brackets.
use Rattle.std.specs.Prelude.{ℕ, Bool, true, false, List, [], ◌∷◌, ◌++◌, map, codes, decimal}
use Rattle.std.specs.List.{flat_map}
use Rattle.civl_bits.specs.declared.value.Value.{Value}
use Rattle.civl_bits.specs.declared.value.Value.TheVariants as value

abbrev pub bool_text : Bool → List ℕ
bool_text true = codes "true"
bool_text false = codes "false"

-- `value:width`
abbrev pub word_text : ℕ → ℕ → List ℕ
word_text width number = decimal number ++ codes ":" ++ decimal width

-- the texts, joined by `, `
abbrev pub listed : List (List ℕ) → List ℕ
listed [] = []
listed (first ∷ others) = first ++ flat_map (λ text. codes ", " ++ text) others

abbrev pub value_text : Value → List ℕ
value_text (value.Bool flag) = bool_text flag
value_text (value.Word word) = word_text word.0 word.1
value_text (value.Row row) = codes "[" ++ listed (map (word_text row.width) row.cells) ++ codes "]"
