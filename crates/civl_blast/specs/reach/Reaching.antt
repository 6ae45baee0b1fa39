-- What a term reaches: itself, and the parts of each node that it reaches.
use Rattle.std.specs.Prelude.{◌≡◌, ℕ, Bool, true, false, List, slice_get, Option, None, Some, IsTrue}
use Rattle.civl_tree.specs.declared.expr.Sort.{Sort}
use Rattle.civl_tree.specs.declared.expr.Sort.TheVariants as sort
use Rattle.civl_terms.specs.declared.node.Node.{Node}
use Rattle.civl_terms.specs.Graphs.{sort_at}
use Rattle.civl_terms.specs.Weights.{is_part}

pub data Reaches (ns : List Node) (id : ℕ) : ℕ → Type 0 where
  itself : Reaches ns id id
  part : (i k : ℕ) (n : Node) → Reaches ns id i → slice_get ns i ≡ Some n → IsTrue (is_part n k) → Reaches ns id k

-- a bool or a word
abbrev pub is_plain : Option Sort → Bool
is_plain None = false
is_plain (Some sort.Bool) = true
is_plain (Some (sort.Word width)) = true
is_plain (Some (sort.Row index width)) = false

-- each node that the term reaches is a bool or a word
abbrev pub IsRowless : List Node → ℕ → Type 0
IsRowless ns id = (i : ℕ) → Reaches ns id i → IsTrue (is_plain (sort_at ns i))
