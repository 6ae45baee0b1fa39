-- For private functions alone: what building terms without rows does to a graph: what is reached together, what it weighs,
-- and that the cells of a node are made from those of its parts.
use Rattle.std.specs.Prelude.{◌≡◌, ◌⊎◌, ℕ, zero, suc, ◌+◌, ◌*◌, ◌<◌, ◌≤◌, Bool, true, false, List, [], ◌∷◌, length, get_or, slice_get, Option, Some, IsTrue}
use Rattle.civl_bits.specs.declared.value.Value.{Value}
use Rattle.civl_bits.specs.declared.value.Value.TheVariants as value
use Rattle.civl_tree.specs.declared.expr.Two.{Two}
use Rattle.civl_tree.specs.declared.expr.Two.TheVariants.{Eq, Ne, And, Or}
use Rattle.civl_firing.specs.values.Operators.{two_value, slice_value, pick_value}
use Rattle.civl_tree.specs.declared.expr.Sort.{Sort}
use Rattle.civl_tree.specs.declared.expr.Sort.TheVariants as sort
use Rattle.civl_terms.specs.declared.node.Node.{Node}
use Rattle.civl_terms.specs.declared.node.Node.TheVariants.{Variable}
use Rattle.civl_terms.specs.Graphs.{sort_at, value_at, Fits, IsGraph}
use Rattle.civl_terms.specs.Weights.{is_part, own_weight}
use Rattle.civl_terms.specs.Building.{Lengthens, Grows}
use Rattle.civl_blast.specs.reach.Reaching.{is_plain}
use Rattle.civl_blast.specs.rows.Cells.{cell_of, cells_in, cell_sort, next_number}

-- ---- sets of nodes that hold what they reach

-- the number is in the set
abbrev pub Has : List ℕ → ℕ → Type 0
Has [] i = ⊥
Has (x ∷ xs) i = (i ≡ x) ⊎ Has xs i

-- these numbers are in the set
abbrev pub AllIn : List ℕ → List ℕ → Type 0
AllIn set [] = Unit {0}
AllIn set (x ∷ xs) = Has set x × AllIn set xs

abbrev pub Covers : List ℕ → List ℕ → Type 0
Covers set more = (i : ℕ) → Has set i → Has more i

-- a set of nodes that are bools or words, with all that they reach
pub record IsSolid (ns : List Node) (set : List ℕ) : Type 0 where
  pub within : (i : ℕ) → Has set i → i < length ns
  pub closed : (i k : ℕ) (n : Node) → Has set i → slice_get ns i ≡ Some n → IsTrue (is_part n k) → Has set k
  pub plain : (i : ℕ) → Has set i → IsTrue (is_plain (sort_at ns i))

-- the own weights of these nodes together
abbrev pub nodes_weight : List Node → List ℕ → ℕ
nodes_weight ns [] = 0
nodes_weight ns (x ∷ xs) = own_weight ns x + nodes_weight ns xs

-- a set grew by these nodes and what they reach, at this cost, and each variable that came to it is an own one
pub record IsExtended (old new : List Node) (Own : ℕ → Type 0) (set more made : List ℕ) (cost : ℕ) : Type 0 where
  pub solid : IsSolid new more
  pub covers : Covers set more
  pub all : AllIn more made
  pub variables : (i k : ℕ) (s : Sort) → Has more i → slice_get new i ≡ Some (Variable k s) → Has set i ⊎ Own i
  pub weighs : nodes_weight new more ≤ nodes_weight old set + cost

-- any set of which this holds can grow so
pub record Takes (old new : List Node) (Uses : List ℕ → Type 0) (Own : ℕ → Type 0) (made : List ℕ) (cost : ℕ) : Type 0 where
  pub grows : Lengthens old new
  pub set : (s : List ℕ) → IsSolid old s → Uses s → (t : List ℕ) × IsExtended old new Own s t made cost

-- the own variables are none, ..
abbrev pub NoNode : ℕ → Type 0
NoNode i = ⊥

-- .. or new nodes, ..
abbrev pub IsNew : List Node → ℕ → Type 0
IsNew old i = length old ≤ i

-- .. or a node itself and new ones
abbrev pub IsOwn : List Node → ℕ → ℕ → Type 0
IsOwn old at i = (i ≡ at) ⊎ IsNew old i

-- the set grows, and no variable comes to it
abbrev pub Adds : List Node → List Node → (List ℕ → Type 0) → List ℕ → ℕ → Type 0
Adds old new Uses made cost = Takes old new Uses NoNode made cost

-- the sets that hold these nodes
abbrev pub UsesNone : List ℕ → Type 0
UsesNone set = Unit {0}

abbrev pub UsesOne : ℕ → List ℕ → Type 0
UsesOne a set = Has set a

abbrev pub UsesTwo : ℕ → ℕ → List ℕ → Type 0
UsesTwo a b set = Has set a × Has set b

abbrev pub UsesThree : ℕ → ℕ → ℕ → List ℕ → Type 0
UsesThree c a b set = Has set c × Has set a × Has set b

abbrev pub UsesPicks : ℕ → List ℕ → List ℕ → List ℕ → Type 0
UsesPicks c a b set = Has set c × AllIn set a × AllIn set b

abbrev pub UsesPairs : List ℕ → List ℕ → List ℕ → Type 0
UsesPairs a b set = AllIn set a × AllIn set b

abbrev pub UsesWrite : List ℕ → ℕ → ℕ → List ℕ → Type 0
UsesWrite row at cell set = AllIn set row × Has set at × Has set cell

abbrev pub UsesRead : List ℕ → ℕ → List ℕ → Type 0
UsesRead row at set = AllIn set row × Has set at

-- ---- nodes that were built

-- no variable is new
pub record IsCalm (old new : List Node) : Type 0 where
  pub grows : Grows old new
  pub numbers : next_number new ≡ next_number old

-- each of these nodes has this sort
abbrev pub HaveSort : List Node → List ℕ → Option Sort → Type 0
HaveSort ns ids sort = (c : ℕ) → c < length ids → sort_at ns (get_or ids c 0) ≡ sort

-- each of these nodes has its value
abbrev pub HaveValues : (ℕ → Value) → List Node → List ℕ → (ℕ → Value) → Type 0
HaveValues env ns ids value = (c : ℕ) → c < length ids → value_at env ns (get_or ids c 0) ≡ value c

-- so many nodes of a sort were built, with these values
pub record Makes (old new : List Node) (Uses : List ℕ → Type 0) (ids : List ℕ) (count : ℕ) (sort : Option Sort) (value : (ℕ → Value) → ℕ → Value) (cost : ℕ) : Type 0 where
  pub calm : IsCalm old new
  pub adds : Adds old new Uses ids cost
  pub size : length ids ≡ count
  pub sorted : HaveSort new ids sort
  pub is : (env : ℕ → Value) → Fits env new → HaveValues env new ids (value env)

-- one node was built
pub record MakesOne (old new : List Node) (Uses : List ℕ → Type 0) (id : ℕ) (sort : Option Sort) (value : (ℕ → Value) → Value) (cost : ℕ) : Type 0 where
  pub calm : IsCalm old new
  pub adds : Adds old new Uses (id ∷ []) cost
  pub sorted : sort_at new id ≡ sort
  pub is : (env : ℕ → Value) → Fits env new → value_at env new id ≡ value env

-- ---- the cells of nodes

-- these have the number and the sort of the node's cells
pub record HasShape (ns : List Node) (ids : List ℕ) (i : ℕ) : Type 0 where
  pub size : length ids ≡ cells_in (sort_at ns i)
  pub sorted : HaveSort ns ids (cell_sort (sort_at ns i))

-- and their values
abbrev pub HasCells : (ℕ → Value) → List Node → List ℕ → ℕ → Type 0
HasCells env ns ids i = HaveValues env ns ids (cell_of (value_at env ns i))

-- the cells of a node's parts
abbrev pub cells_at : List (List ℕ) → ℕ → List ℕ
cells_at table i = get_or table i []

abbrev pub PartsShaped : List Node → List (List ℕ) → Node → Type 0
PartsShaped ns table n = (k : ℕ) → IsTrue (is_part n k) → HasShape ns (cells_at table k) k

-- a node of a graph, whose parts' cells have their number and sort
pub record Here (ns : List Node) (table : List (List ℕ)) (n : Node) (at : ℕ) : Type 0 where
  pub graph : IsGraph ns
  pub node : slice_get ns at ≡ Some n
  pub shaped : PartsShaped ns table n

abbrev pub PartsHaveCells : (ℕ → Value) → List Node → List (List ℕ) → Node → Type 0
PartsHaveCells env ns table n = (k : ℕ) → IsTrue (is_part n k) → HasCells env ns (cells_at table k) k

abbrev pub HasParts : List (List ℕ) → Node → List ℕ → Type 0
HasParts table n set = (k : ℕ) → IsTrue (is_part n k) → AllIn set (cells_at table k)

-- the cells of a node were made from those of its parts
pub record MakesCells (old new : List Node) (table : List (List ℕ)) (n : Node) (at : ℕ) (ids : List ℕ) : Type 0 where
  pub calm : IsCalm old new
  pub shape : HasShape new ids at
  pub is : (env : ℕ → Value) → Fits env new → PartsHaveCells env old table n → HasCells env new ids at
  pub adds : Takes old new (HasParts table n) (IsOwn old at) ids (2 * own_weight old at)

-- ---- what is built for rows

-- the first cell and so many more, by one operation on both rows, joined by another
abbrev pub joined : Two → Two → (ℕ → Value) → (ℕ → Value) → ℕ → Value
joined op join x y zero = two_value op (x 0) (y 0)
joined op join x y (suc n) = two_value join (joined op join x y n) (two_value op (x (suc n)) (y (suc n)))

-- whether a bit of a word is 1
abbrev pub bit_value : Value → ℕ → Value
bit_value at bit = two_value Eq (slice_value at bit bit) (value.Word (1, 1))

-- whether an index is this number, and then a new cell, else the old one
abbrev pub written : ℕ → Value → Value → ℕ → Value → Value
written index at cell c old = pick_value (two_value Eq (value.Word (index, c)) at) cell old

-- the cell that so many bits choose: bit j between two blocks of 2 ^ j cells
abbrev pub chosen : (ℕ → Value) → (ℕ → Value) → ℕ → ℕ → Value
chosen bits cells zero c = cells c
chosen bits cells (suc j) c = pick_value (bits j) (chosen bits cells j (2 * c + 1)) (chosen bits cells j (2 * c))

-- `==` or `!=`, and the operation that joins them
abbrev pub is_comparison : Two → Bool
is_comparison Eq = true
is_comparison Ne = true
is_comparison _ = false

abbrev pub IsComparison : Two → Type 0
IsComparison op = (op ≡ Eq) ⊎ (op ≡ Ne)

abbrev pub IsJoin : Two → Type 0
IsJoin op = (op ≡ And) ⊎ (op ≡ Or)

-- a comparison of cells, and how all are joined
abbrev pub Joins : Two → Two → Type 0
Joins op join = ((op ≡ Eq) × (join ≡ And)) ⊎ ((op ≡ Ne) × (join ≡ Or))

-- the bits of a row's index
abbrev pub index_in : Option Sort → ℕ
index_in (Some (sort.Row index width)) = index
index_in _ = 0
