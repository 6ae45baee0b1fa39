-- Serves private functions: one value of a store with the shadow's values.
use Rattle.std.specs.Prelude.{ℕ, nat_eq, if◌then◌else◌, List, [], ◌∷◌}
use Rattle.civl_bits.specs.declared.value.Value.{Value}
use Rattle.civl_tree.specs.declared.program.Global.{Global}

-- of a global that heads these, and has this value in the one store and the head of those in the other
abbrev pub picked : ℕ → List Global → Value → List Value → Value
picked first [] v ws = v
picked first (g ∷ gs) v [] = v
picked first (g ∷ gs) v (w ∷ ws) = if nat_eq g.first first then w else v
