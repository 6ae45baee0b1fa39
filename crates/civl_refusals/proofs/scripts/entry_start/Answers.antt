use Rattle.std.proofs.Common.{List, length, map, take, ap, arith}
use Rattle.civl_tree.specs.declared.script.Entry.{Entry}
use Rattle.civl_tree.specs.Spelling.{joined}
use Rattle.civl_tree.specs.SpellingScript.{spell_entry}
use Rattle.civl_refusals.proofs.ScriptsFit.{entries_fit}
use Rattle.civl_refusals.proofs.scripts.entry_start.Goals as goal

pub entries_count-requires : goal.entries_count-requires
entries_count-requires c =
    omega (
      arith,
      entries_fit c.args.script.now c.args.number,
      ap (λ (xs : List Entry). length (joined (map spell_entry (take c.args.number xs)))) c.as_slice.ensures,
      c.requires.short,
    )

pub overflow_add-result : goal.overflow_add-result
overflow_add-result c =
    omega (
      arith,
      entries_fit c.args.script.now c.args.number,
      ap (λ (xs : List Entry). length (joined (map spell_entry (take c.args.number xs)))) c.as_slice.ensures,
      c.requires.short,
    )
