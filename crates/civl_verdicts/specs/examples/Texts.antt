-- Worked examples: the texts of some values.
use Rattle.std.specs.Prelude.{◌≡◌, true, false, [], ◌∷◌, codes}
use Rattle.civl_bits.specs.declared.value.Value.TheVariants as value
use Rattle.civl_verdicts.specs.models.Text.{value_text}

pub record Texts : Type 0 where
  pub yes : value_text (value.Bool true) ≡ codes "true"
  pub not : value_text (value.Bool false) ≡ codes "false"
  pub word : value_text (value.Word (8, 200)) ≡ codes "200:8"
  pub nought : value_text (value.Word (32, 0)) ≡ codes "0:32"
  pub pair : value_text (value.Row (record { index = 1; width = 4; cells = 3 ∷ 10 ∷ [] })) ≡ codes "[3:4, 10:4]"
  pub four : value_text (value.Row (record { index = 2; width = 1; cells = 0 ∷ 1 ∷ 0 ∷ 0 ∷ [] })) ≡ codes "[0:1, 1:1, 0:1, 0:1]"
