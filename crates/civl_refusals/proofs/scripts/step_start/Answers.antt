use Rattle.std.proofs.Common.{List, length, map, take, ap, arith}
use Rattle.civl_tree.specs.declared.script.Told.{Told}
use Rattle.civl_tree.specs.Spelling.{joined}
use Rattle.civl_tree.specs.SpellingScript.{spell_step}
use Rattle.civl_refusals.proofs.ScriptsFit.{steps_fit}
use Rattle.civl_refusals.proofs.scripts.step_start.Goals as goal

pub steps_count-requires : goal.steps_count-requires
steps_count-requires c =
    omega (
      arith,
      steps_fit c.args.script.now c.args.number,
      ap (λ (xs : List Told). length (joined (map spell_step xs))) c.first_steps.ensures,
      ap (λ (xs : List Told). length (joined (map spell_step (take c.args.number xs)))) c.as_slice.ensures,
      c.requires,
    )

pub overflow_add-result : goal.overflow_add-result
overflow_add-result c =
    omega (
      arith,
      steps_fit c.args.script.now c.args.number,
      ap (λ (xs : List Told). length (joined (map spell_step xs))) c.first_steps.ensures,
      ap (λ (xs : List Told). length (joined (map spell_step (take c.args.number xs)))) c.as_slice.ensures,
      c.requires,
    )
