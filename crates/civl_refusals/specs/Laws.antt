-- What the definitions say together.
use Rattle.std.specs.Prelude.{◌≡◌, ◌+◌, ℕ, IfSome, length, slice_get}
use Rattle.civl_tree.specs.declared.script.Script.{Script}
use Rattle.civl_tree.specs.SpellingScript.{spell_entry, spell_script, spell_step}
use Rattle.civl_reasons.specs.Stands.{StandAt}
use Rattle.civl_refusals.specs.Scripts.{part_start}

-- At the token of an entry its spelling begins.
abbrev pub EntriesStand : Type 0
EntriesStand =
    (script : Script) (number : ℕ)
    → IfSome (slice_get script.store number) (λ entry. StandAt (spell_entry entry) (spell_script script) (part_start script number))

-- At the token of a move its spelling begins, where the moves are numbered behind the entries.
abbrev pub MovesStand : Type 0
MovesStand =
    (script : Script) (number : ℕ)
    → IfSome (slice_get script.moves number) (λ step.
    StandAt (spell_step step) (spell_script script) (part_start script (length script.store + number)))
