-- Marks on the nodes that a term reaches.
use Rattle.std.specs.Prelude.{◌≡◌, ℕ, zero, suc, ◌+◌, ◌-◌, ◌≤◌, Bool, false, List, length, get_or, slice_get, Some, IsTrue, if◌then◌else◌}
use Rattle.civl_terms.specs.declared.node.Node.{Node}
use Rattle.civl_terms.specs.Weights.{is_part, own_weight, reached_weight, term_weight}
use Rattle.civl_blast.specs.reach.Reaching.{Reaches}

abbrev pub marked : List Bool → ℕ → Bool
marked marks i = get_or marks i false

-- the own weights of the marked nodes among so many, from a place on
abbrev pub weight_from : List Node → List Bool → ℕ → ℕ → ℕ
weight_from ns marks at zero = 0
weight_from ns marks at (suc count) = (if marked marks at then own_weight ns at else 0) + weight_from ns marks (at + 1) count

-- the marked nodes are those that the term reaches, once the first so many have been gone over
pub record IsMarking (ns : List Node) (id left : ℕ) (marks : List Bool) : Type 0 where
  pub size : length marks ≡ id + 1
  pub first : IsTrue (marked marks id)
  pub closed : (i k : ℕ) (n : Node) → left ≤ i → IsTrue (marked marks i) → slice_get ns i ≡ Some n → IsTrue (is_part n k) → IsTrue (marked marks k)
  pub only : (i : ℕ) → IsTrue (marked marks i) → Reaches ns id i
  pub weighs : reached_weight ns left (marked marks) + weight_from ns marks left (id + 1 - left) ≡ term_weight ns id
