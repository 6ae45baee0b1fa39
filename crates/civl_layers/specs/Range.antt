-- E30, Range: a range with first above last, or last above the number of layers; a procedure's layer or an invariant's
-- step that isn't 1 to the number of layers.
use Rattle.std.specs.Prelude.{ℕ, Bool, false, not, ◌||◌, nat_lt, Option, None, Some}
use Rattle.civl_tree.specs.declared.program.Refines.{Refines}
use Rattle.civl_tree.specs.declared.program.Program.{Program}
use Rattle.civl_tree.specs.rules.Count.{is_within}
use Rattle.civl_layers.specs.Ranges.{Range}

-- the range of a global or an action
abbrev pub range_fails : Program → Range → Bool
range_fails program range = nat_lt range.last range.first || nat_lt program.layers range.last

-- a step, or the layer of a procedure
abbrev pub step_fails : Program → ℕ → Bool
step_fails program step = not (is_within 1 program.layers step)

-- a root has no layer
abbrev pub refines_range : Program → Option Refines → Bool
refines_range program None = false
refines_range program (Some refines) = step_fails program refines.layer
