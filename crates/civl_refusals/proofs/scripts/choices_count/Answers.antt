use Rattle.std.proofs.Common.{arith}
use Rattle.civl_tree.specs.SpellingScript.{spell_value}
use Rattle.civl_places.proofs.Counts.{enclosed_length}
use Rattle.civl_refusals.proofs.scripts.choices_count.Goals as goal

pub values_count-requires : goal.values_count-requires
values_count-requires c = omega (arith, enclosed_length spell_value c.args.choices.now)

pub overflow_add-result : goal.overflow_add-result
overflow_add-result c = omega (arith, enclosed_length spell_value c.args.choices.now)

pub overflow_add-result-2 : goal.overflow_add-result-2
overflow_add-result-2 c = omega (arith, enclosed_length spell_value c.args.choices.now)

pub returns : goal.returns
returns c = omega (arith, enclosed_length spell_value c.args.choices.now)
