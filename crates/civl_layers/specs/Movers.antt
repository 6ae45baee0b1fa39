-- In which ways actions move over others (Lipton, "Reduction: a method of proving properties of parallel programs", 1975).
use Rattle.std.specs.Prelude.{Bool, true, false}
use Rattle.civl_tree.specs.declared.action.Mover.{Mover}
use Rattle.civl_tree.specs.declared.action.Mover.TheVariants.{Atomic, Right, Left, Both}

-- to the right, over an action that comes behind
abbrev pub is_right : Mover → Bool
is_right Atomic = false
is_right Right = true
is_right Left = false
is_right Both = true

-- to the left, over an action that comes before
abbrev pub is_left : Mover → Bool
is_left Atomic = false
is_left Right = false
is_left Left = true
is_left Both = true
