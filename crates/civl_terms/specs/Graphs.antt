-- Graphs of terms: a list of nodes, each of which stands on earlier ones. The sort and the value of a node are those of its
-- operation at its parts.
use Rattle.std.specs.Prelude.{◌≡◌, ℕ, ◌<◌, List, [], ◌∷◌, ◌++◌, get_or, slice_get, map, Option, None, Some, IsTrue, IsSome}
use Rattle.civl_bits.specs.Value.{IsValue}
use Rattle.civl_bits.specs.declared.value.Value.{Value}
use Rattle.civl_tree.specs.declared.expr.Sort.{Sort}
use Rattle.civl_tree.specs.rules.Sorts.{one_sort, two_sort, pick_sort, get_sort, set_sort, fill_sort, slice_sort, widen_sort, join_sort}
use Rattle.civl_tree.specs.rules.Exprs.{is_index}
use Rattle.civl_firing.specs.values.Operators.{nothing, one_value, two_value, pick_value, get_value, set_value, fill_value, slice_value, widen_value, join_value}
use Rattle.civl_firing.specs.values.Values.{HasSort, is_sort, sort_of_value}
use Rattle.civl_terms.specs.declared.node.Node.{Node}
use Rattle.civl_terms.specs.declared.node.Node.TheVariants.{Constant, Variable, One as Once, Two as Twice, Pick, Get, Set, Fill, Slice, Widen, Join}

-- a node's parts have numbers below this one
abbrev pub PartsBelow : ℕ → Node → Type 0
PartsBelow n (Constant v) = Unit {0}
PartsBelow n (Variable k s) = Unit {0}
PartsBelow n (Once op a) = a < n
PartsBelow n (Twice op a b) = (a < n) × (b < n)
PartsBelow n (Pick c a b) = (c < n) × (a < n) × (b < n)
PartsBelow n (Get row at) = (row < n) × (at < n)
PartsBelow n (Set row at cell) = (row < n) × (at < n) × (cell < n)
PartsBelow n (Fill index cell) = cell < n
PartsBelow n (Slice a high low) = a < n
PartsBelow n (Widen a width) = a < n
PartsBelow n (Join a b) = (a < n) × (b < n)

-- what a step gives for each node, from what it gave for the nodes before, which stand in `known`
abbrev pub along : {A : Type 0} → (List A → Node → A) → List A → List Node → List A
along step known [] = known
along step known (n ∷ ns) = along step (known ++ step known n ∷ []) ns

-- ---- values, where env gives each variable its value

-- the value at a place
abbrev pub value_in : List Value → ℕ → Value
value_in vs i = get_or vs i nothing

-- the value of a node, from those of the nodes before
abbrev pub node_value : (ℕ → Value) → List Value → Node → Value
node_value env vs (Constant v) = v
node_value env vs (Variable k s) = env k
node_value env vs (Once op a) = one_value op (value_in vs a)
node_value env vs (Twice op a b) = two_value op (value_in vs a) (value_in vs b)
node_value env vs (Pick c a b) = pick_value (value_in vs c) (value_in vs a) (value_in vs b)
node_value env vs (Get row at) = get_value (value_in vs row) (value_in vs at)
node_value env vs (Set row at cell) = set_value (value_in vs row) (value_in vs at) (value_in vs cell)
node_value env vs (Fill index cell) = fill_value index (value_in vs cell)
node_value env vs (Slice a high low) = slice_value (value_in vs a) high low
node_value env vs (Widen a width) = widen_value (value_in vs a) width
node_value env vs (Join a b) = join_value (value_in vs a) (value_in vs b)

-- the values of all nodes
unfoldable pub values : (ℕ → Value) → List Node → List Value
values env ns = along (node_value env) [] ns

-- the value of a node
abbrev pub value_at : (ℕ → Value) → List Node → ℕ → Value
value_at env ns i = value_in (values env ns) i

-- ---- sorts

-- the sort at a place
abbrev pub sort_in : List (Option Sort) → ℕ → Option Sort
sort_in ss i = get_or ss i None

-- the sort of a node, from those of the nodes before
abbrev pub node_sort : List (Option Sort) → Node → Option Sort
node_sort ss (Constant v) = Some (sort_of_value v)
node_sort ss (Variable k s) = Some s
node_sort ss (Once op a) = one_sort op (sort_in ss a)
node_sort ss (Twice op a b) = two_sort op (sort_in ss a) (sort_in ss b)
node_sort ss (Pick c a b) = pick_sort (sort_in ss c) (sort_in ss a) (sort_in ss b)
node_sort ss (Get row at) = get_sort (sort_in ss row) (sort_in ss at)
node_sort ss (Set row at cell) = set_sort (sort_in ss row) (sort_in ss at) (sort_in ss cell)
node_sort ss (Fill index cell) = fill_sort index (sort_in ss cell)
node_sort ss (Slice a high low) = slice_sort (sort_in ss a) high low
node_sort ss (Widen a width) = widen_sort (sort_in ss a) width
node_sort ss (Join a b) = join_sort (sort_in ss a) (sort_in ss b)

-- the sorts of all nodes
unfoldable pub sorts : List Node → List (Option Sort)
sorts ns = along node_sort [] ns

-- the sort of a node
abbrev pub sort_at : List Node → ℕ → Option Sort
sort_at ns i = sort_in (sorts ns) i

-- ---- graphs

-- a node within the language's limits: a value that is one, a variable of a sort, a row whose index has 1 to 6 bits
abbrev pub InLimits : Node → Type 0
InLimits (Constant v) = IsValue v
InLimits (Variable k s) = IsTrue (is_sort s)
InLimits (Fill index cell) = IsTrue (is_index index)
InLimits _ = Unit {0}

-- a variable's number has one sort: where it is there already, it has this one
abbrev pub IsFree : List Node → ℕ → Sort → Type 0
IsFree ns k s = (i : ℕ) (t : Sort) → slice_get ns i ≡ Some (Variable k t) → t ≡ s

abbrev pub VariablesFit : List Node → Node → Type 0
VariablesFit ns (Variable k s) = IsFree ns k s
VariablesFit ns _ = Unit {0}

-- each node stands on earlier ones, has a sort and is within the limits, and a variable's number has one sort
pub record IsGraph (ns : List Node) : Type 0 where
  pub parts : (i : ℕ) (n : Node) → slice_get ns i ≡ Some n → PartsBelow i n
  pub sorted : (i : ℕ) (n : Node) → slice_get ns i ≡ Some n → IsSome (sort_at ns i)
  pub limits : (i : ℕ) (n : Node) → slice_get ns i ≡ Some n → InLimits n
  pub variables : (i : ℕ) (n : Node) → slice_get ns i ≡ Some n → VariablesFit ns n

-- no two places hold equal nodes
abbrev pub IsDistinct : List Node → Type 0
IsDistinct ns = (i j : ℕ) (n : Node) → slice_get ns i ≡ Some n → slice_get ns j ≡ Some n → i ≡ j

-- a graph with its sorts beside it
pub record HoldsGraph (ns : List Node) (ss : List Sort) : Type 0 where
  pub graph : IsGraph ns
  pub sorts : map (λ (s : Sort). Some s) ss ≡ sorts ns

-- env gives each variable of the graph a value of its sort
abbrev pub Fits : (ℕ → Value) → List Node → Type 0
Fits env ns = (i k : ℕ) (s : Sort) → slice_get ns i ≡ Some (Variable k s) → HasSort (env k) s

-- such values are a list's
abbrev pub listed : List Value → ℕ → Value
listed vs k = value_in vs k

-- where the variables have values of their sorts, so has each node
abbrev pub NodesHaveTheirSorts : Type 0
NodesHaveTheirSorts = (ns : List Node) → IsGraph ns → (env : ℕ → Value) → Fits env ns → (i : ℕ) (s : Sort) → sort_at ns i ≡ Some s → HasSort (value_at env ns i) s
