-- The number of layers of a program that keeps the limits.
use Rattle.std.proofs.Common.{◌≡◌, ◌+◌, ◌<◌, ◌≤◌, Bool, true, false, ◌||◌, refl, arith}
use Rattle.std.specs.Prelude.{not, nat_le}
use Rattle.std.proofs.lemmas.Bool.{and_parts, leb-true}
use Rattle.civl_tree.specs.declared.program.Program.{Program}
use Rattle.civl_tree.specs.rules.Count.{is_within, layer_limit}
use Rattle.civl_tree.specs.rules.Typing.{typing_rules, count_rule}
use Rattle.civl_tree.proofs.Kept.{header_kept, count_among}
use Rattle.civl_layers.specs.Layered.{IsLayered}

second_by : (a b c : Bool) → (not a || (not b || not c)) ≡ false → b ≡ true
second_by false b c h = cc
second_by true true c h = refl
second_by true false c h = cc

pub layers_fit : (program : Program) → IsLayered program → program.layers + 1 < 4294967296
layers_fit program keeps =
    let within : is_within 1 layer_limit program.layers ≡ true = second_by _ _ _ (header_kept typing_rules program keeps.rules count_rule count_among) in
    let most : program.layers ≤ layer_limit = leb-true program.layers layer_limit (and_parts (nat_le 1 program.layers) (nat_le program.layers layer_limit) within).1 in
    omega (arith, most)
