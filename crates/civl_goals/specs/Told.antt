-- A place as a pair.
use Rattle.std.specs.Prelude.{ℕ}
use Rattle.civl_tree.specs.rules.Rules.{Place}

-- its item and its statement
abbrev pub told : Place → ℕ × ℕ
told place = (place.item, place.statement)
