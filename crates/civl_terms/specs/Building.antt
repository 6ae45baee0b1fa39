-- What a call that builds a term does to the graph.
use Rattle.std.specs.Prelude.{◌≡◌, ◌⊎◌, ℕ, ◌+◌, ◌<◌, ◌≤◌, nat_eq, List, [], ◌∷◌, ◌++◌, length, take, slice_get, Option, None, Some, Contains}
use Rattle.civl_bits.specs.declared.value.Value.{Value}
use Rattle.civl_tree.specs.declared.expr.Sort.{Sort}
use Rattle.civl_tree.specs.declared.expr.One.{One}
use Rattle.civl_tree.specs.declared.expr.Two.{Two}
use Rattle.civl_terms.specs.declared.foldings.folded.Folded.{Folded}
use Rattle.civl_terms.specs.declared.foldings.folded.Folded.TheVariants as folded
use Rattle.civl_terms.specs.foldings.Folding.{folded_one, folded_two, folded_pick, folded_get, folded_set, folded_fill, folded_slice, folded_widen, folded_join}
use Rattle.civl_terms.specs.declared.node.Node.{Node}
use Rattle.civl_terms.specs.declared.node.Node.TheVariants.{Constant, Variable}
use Rattle.civl_terms.specs.Graphs.{value_at, sort_at, Fits}
use Rattle.civl_terms.specs.Weights.{graph_weight}

-- the nodes before stay: their values and sorts too, and values that fit the new graph fit the old one
pub record Lengthens (old new : List Node) : Type 0 where
  pub longer : length old ≤ length new
  pub stay : take (length old) new ≡ old
  pub values : (env : ℕ → Value) (i : ℕ) → i < length old → value_at env new i ≡ value_at env old i
  pub sorts : (i : ℕ) → i < length old → sort_at new i ≡ sort_at old i
  pub fits : (env : ℕ → Value) → Fits env new → Fits env old

-- besides, no node that is added is a variable: the graph's variables are those of before
pub record Grows (old new : List Node) : Type 0 where
  pub longer : length old ≤ length new
  pub stay : take (length old) new ≡ old
  pub values : (env : ℕ → Value) (i : ℕ) → i < length old → value_at env new i ≡ value_at env old i
  pub sorts : (i : ℕ) → i < length old → sort_at new i ≡ sort_at old i
  pub fits : (env : ℕ → Value) → Fits env new → Fits env old
  pub variables : (i k : ℕ) (s : Sort) → slice_get new i ≡ Some (Variable k s) → slice_get old i ≡ Some (Variable k s)

-- the node has this number; where an equal node was there, nothing is added, and else this node alone
pub record Numbers (old new : List Node) (n : Node) (id : ℕ) : Type 0 where
  pub is : slice_get new id ≡ Some n
  pub adds : (new ≡ old) ⊎ (new ≡ old ++ n ∷ [])
  pub found : Contains old n → new ≡ old

-- what is answered for an operation with these operands: its node, a constant's node, or an operand
abbrev pub Answers : List Node → List Node → Folded → Node → ℕ → ℕ → ℕ → ℕ → Type 0
Answers old new folded.New n a b c id = Numbers old new n id
Answers old new (folded.Constant v) n a b c id = Numbers old new (Constant v) id
Answers old new folded.First n a b c id = (id ≡ a) × (new ≡ old)
Answers old new folded.Second n a b c id = (id ≡ b) × (new ≡ old)
Answers old new folded.Third n a b c id = (id ≡ c) × (new ≡ old)

-- a term was built: its value wherever the variables have values of their sorts, its sort, and by how much at most the
-- graph's weight rises
pub record Built (old new : List Node) (id : ℕ) (value : (ℕ → Value) → Value) (sort : Option Sort) (weight : ℕ) : Type 0 where
  pub within : id < length new
  pub is : (env : ℕ → Value) → Fits env new → value_at env new id ≡ value env
  pub sorted : sort_at new id ≡ sort
  pub weighs : graph_weight new ≤ graph_weight old + weight

-- the constant that a node is, if it is one
abbrev pub constant_of : Option Node → Option Value
constant_of (Some (Constant v)) = Some v
constant_of _ = None

abbrev pub constant_at : List Node → ℕ → Option Value
constant_at ns i = constant_of (slice_get ns i)

-- ---- how each operation is folded in a graph

abbrev pub one_in : List Node → One → ℕ → Folded
one_in ns op a = folded_one op (constant_at ns a)

abbrev pub two_in : List Node → Two → ℕ → ℕ → Folded
two_in ns op a b = folded_two op (sort_at ns a) (constant_at ns a) (constant_at ns b) (nat_eq a b)

abbrev pub pick_in : List Node → ℕ → ℕ → ℕ → Folded
pick_in ns c a b = folded_pick (constant_at ns c) (constant_at ns a) (constant_at ns b) (nat_eq a c) (nat_eq b c) (nat_eq a b)

abbrev pub get_in : List Node → ℕ → ℕ → Folded
get_in ns row at = folded_get (constant_at ns row) (constant_at ns at)

abbrev pub set_in : List Node → ℕ → ℕ → ℕ → Folded
set_in ns row at cell = folded_set (constant_at ns row) (constant_at ns at) (constant_at ns cell) (nat_eq at cell)

abbrev pub fill_in : List Node → ℕ → ℕ → Folded
fill_in ns index cell = folded_fill index (constant_at ns cell)

abbrev pub slice_in : List Node → ℕ → ℕ → ℕ → Folded
slice_in ns a high low = folded_slice (constant_at ns a) high low

abbrev pub widen_in : List Node → ℕ → ℕ → Folded
widen_in ns a width = folded_widen (constant_at ns a) width

abbrev pub join_in : List Node → ℕ → ℕ → Folded
join_in ns a b = folded_join (constant_at ns a) (constant_at ns b)
