use Rattle.std.proofs.Common.{List, length, map, take, ap, arith}
use Rattle.civl_outlines.specs.declared.outline.Note.{Note}
use Rattle.civl_tree.specs.Spelling.{joined}
use Rattle.civl_outlines.specs.SpellingOutline.{spell_note}
use Rattle.civl_goal_stories.proofs.Fitting.{notes_fit}
use Rattle.civl_goal_stories.proofs.places.note_start.Goals as goal

pub notes_count-requires : goal.notes_count-requires
notes_count-requires c =
    omega (
      arith,
      notes_fit c.args.outline.now c.args.number,
      ap (λ (xs : List Note). length (joined (map spell_note (take c.args.number xs)))) c.as_slice.ensures,
      c.requires.short,
    )

pub overflow_add-result : goal.overflow_add-result
overflow_add-result c =
    omega (
      arith,
      notes_fit c.args.outline.now c.args.number,
      ap (λ (xs : List Note). length (joined (map spell_note (take c.args.number xs)))) c.as_slice.ensures,
      c.requires.short,
    )
