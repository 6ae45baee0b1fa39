-- The weight of a graph, and of one of its terms.
use Rattle.std.specs.Prelude.{ℕ, zero, suc, ◌+◌, ◌<◌, ◌≤◌, Bool, false, ◌||◌, nat_eq, List, length, slice_get, Option, None, Some, if◌then◌else◌}
use Rattle.civl_tree.specs.declared.expr.Sort.{Sort}
use Rattle.civl_tree.specs.rules.StoreSize.{bits_of}
use Rattle.civl_firing.specs.values.Weights.{bits_in, one_weight, two_weight, pick_weight, get_weight, set_weight, move_weight}
use Rattle.civl_terms.specs.declared.node.Node.{Node}
use Rattle.civl_terms.specs.declared.node.Node.TheVariants.{Constant, Variable, One as Once, Two as Twice, Pick, Get, Set, Fill, Slice, Widen, Join}
use Rattle.civl_terms.specs.Graphs.{sorts, sort_in}

-- a node's own weight, from the sorts of the nodes before: a variable weighs its bits, and a constant nothing
abbrev pub node_weight : List (Option Sort) → Node → ℕ
node_weight ss (Constant v) = 0
node_weight ss (Variable k s) = bits_of s
node_weight ss (Once op a) = one_weight op (bits_in (sort_in ss a))
node_weight ss (Twice op a b) = two_weight op (bits_in (sort_in ss a))
node_weight ss (Pick c a b) = pick_weight (bits_in (sort_in ss a))
node_weight ss (Get row at) = get_weight (bits_in (sort_in ss row))
node_weight ss (Set row at cell) = set_weight (sort_in ss row)
node_weight ss (Fill index cell) = move_weight
node_weight ss (Slice a high low) = move_weight
node_weight ss (Widen a width) = move_weight
node_weight ss (Join a b) = move_weight

-- whether this is the number of a part of the node
abbrev pub is_part : Node → ℕ → Bool
is_part (Constant v) i = false
is_part (Variable k s) i = false
is_part (Once op a) i = nat_eq i a
is_part (Twice op a b) i = nat_eq i a || nat_eq i b
is_part (Pick c a b) i = nat_eq i c || (nat_eq i a || nat_eq i b)
is_part (Get row at) i = nat_eq i row || nat_eq i at
is_part (Set row at cell) i = nat_eq i row || (nat_eq i at || nat_eq i cell)
is_part (Fill index cell) i = nat_eq i cell
is_part (Slice a high low) i = nat_eq i a
is_part (Widen a width) i = nat_eq i a
is_part (Join a b) i = nat_eq i a || nat_eq i b

-- the own weight of the node with this number, if there is one
abbrev pub weight_in : List Node → Option Node → ℕ
weight_in ns None = 0
weight_in ns (Some n) = node_weight (sorts ns) n

abbrev pub own_weight : List Node → ℕ → ℕ
own_weight ns i = weight_in ns (slice_get ns i)

-- the weight of a graph: the sum of the own weights of its nodes, so many of them
abbrev pub first_weight : List Node → ℕ → ℕ
first_weight ns zero = 0
first_weight ns (suc i) = first_weight ns i + own_weight ns i

unfoldable pub graph_weight : List Node → ℕ
graph_weight ns = first_weight ns (length ns)

-- these numbers, and those of the parts of this node
abbrev pub with_parts : Option Node → (ℕ → Bool) → ℕ → Bool
with_parts None wanted i = wanted i
with_parts (Some n) wanted i = wanted i || is_part n i

-- the own weights of the wanted nodes among so many first ones, and of the nodes that these reach: since a part has a
-- smaller number, it is wanted before its turn comes
abbrev pub reached_weight : List Node → ℕ → (ℕ → Bool) → ℕ
reached_weight ns zero wanted = 0
reached_weight ns (suc i) wanted =
    if wanted i
    then reached_weight ns i (with_parts (slice_get ns i) wanted) + own_weight ns i
    else reached_weight ns i wanted

-- the weight of a term: the own weights of all nodes that it reaches, each counted once
unfoldable pub term_weight : List Node → ℕ → ℕ
term_weight ns id = reached_weight ns (id + 1) (λ i. nat_eq i id)

-- a graph weighs no less than one of its terms
abbrev pub TermsWeighLess : Type 0
TermsWeighLess = (ns : List Node) (id : ℕ) → id < length ns → term_weight ns id ≤ graph_weight ns
