-- The bits of choices and locals, as the weights of conditions count those of outputs.
use Rattle.std.specs.Prelude.{ℕ, List, map}
use Rattle.civl_tree.specs.declared.action.Choice.{Choice}
use Rattle.civl_tree.specs.declared.program.Local.{Local}
use Rattle.civl_tree.specs.rules.StoreSize.{bits_of}
use Rattle.civl_conditions.specs.Weights.{summed}

abbrev pub choices_bits : List Choice → ℕ
choices_bits choices = summed (map (λ c. bits_of c.sort) choices)

abbrev pub locals_bits : List Local → ℕ
locals_bits locals = summed (map (λ l. bits_of l.sort) locals)
