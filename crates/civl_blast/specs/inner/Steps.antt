-- For private functions alone: how a term's nodes are gone over, the first ones first.
use Rattle.std.specs.Prelude.{◌≡◌, ℕ, zero, suc, ◌+◌, ◌*◌, ◌<◌, ◌≤◌, List, [], ◌∷◌, ◌++◌, length, get_or, slice_get, Bool, true, false, Option, None, Some, IsTrue}
use Rattle.civl_bits.specs.declared.value.Value.{Value}
use Rattle.civl_tree.specs.declared.expr.Sort.{Sort}
use Rattle.civl_tree.specs.rules.StoreSize.{bits_of}
use Rattle.civl_firing.specs.values.Values.{HasSort, is_true}
use Rattle.civl_cnf.specs.Literal.{Literal, truth_of}
use Rattle.civl_cnf.specs.ClauseSet.{ClauseSet, Satisfies}
use Rattle.civl_cnf.specs.Gates.{Extends}
use Rattle.civl_circuits.specs.Circuits.{blank}
use Rattle.civl_symbolic.specs.declared.symbolic.Symbolic.{Symbolic}
use Rattle.civl_symbolic.specs.declared.symbolic.Symbolic.TheVariants as symbolic
use Rattle.civl_symbolic.specs.Symbolic.{value_under, sort_of, IsIn, Shows}
use Rattle.civl_terms.specs.declared.node.Node.{Node}
use Rattle.civl_terms.specs.declared.node.Node.TheVariants.{Constant, Variable, One as Once, Two as Twice, Pick, Get, Set, Fill, Slice, Widen, Join}
use Rattle.civl_terms.specs.Graphs.{IsGraph, sort_at, value_at}
use Rattle.civl_terms.specs.Weights.{is_part, own_weight, term_weight}
use Rattle.civl_blast.specs.reach.Reaching.{is_plain}
use Rattle.civl_blast.specs.reach.Marks.{marked}
use Rattle.civl_blast.specs.declared.blasted.Place.{Place}

-- what stands for a node
abbrev pub symbol_in : List Symbolic → ℕ → Symbolic
symbol_in table i = get_or table i (symbolic.Bool blank)

-- the bits that a node takes as an input: those of a variable, where it is marked
abbrev pub input_bits : Bool → Option Node → ℕ
input_bits true (Some (Variable k s)) = bits_of s
input_bits true (Some (Constant c)) = 0
input_bits true (Some (Once op a)) = 0
input_bits true (Some (Twice op a b)) = 0
input_bits true (Some (Pick c a b)) = 0
input_bits true (Some (Get row at)) = 0
input_bits true (Some (Set row at cell)) = 0
input_bits true (Some (Fill index cell)) = 0
input_bits true (Some (Slice a high low)) = 0
input_bits true (Some (Widen a width)) = 0
input_bits true (Some (Join a b)) = 0
input_bits true None = 0
input_bits false _ = 0

-- the place of a variable without cells
abbrev pub input_place : Bool → Option Node → ℕ → List Place
input_place true (Some (Variable k s)) first = record { variable = k; cell = 0; first = first } ∷ []
input_place true (Some (Constant c)) first = []
input_place true (Some (Once op a)) first = []
input_place true (Some (Twice op a b)) first = []
input_place true (Some (Pick c a b)) first = []
input_place true (Some (Get row at)) first = []
input_place true (Some (Set row at cell)) first = []
input_place true (Some (Fill index cell)) first = []
input_place true (Some (Slice a high low)) first = []
input_place true (Some (Widen a width)) first = []
input_place true (Some (Join a b)) first = []
input_place true None first = []
input_place false _ first = []

-- the input bits of so many first nodes, and their places
abbrev pub inputs_before : List Node → List Bool → ℕ → ℕ
inputs_before ns marks zero = 0
inputs_before ns marks (suc i) = inputs_before ns marks i + input_bits (marked marks i) (slice_get ns i)

abbrev pub places_before : List Node → List Bool → ℕ → List Place
places_before ns marks zero = []
places_before ns marks (suc i) = places_before ns marks i ++ input_place (marked marks i) (slice_get ns i) (inputs_before ns marks i)

-- a variable's node takes an input that is no row
abbrev pub TakesPlain : Node → Type 0
TakesPlain (Variable k s) = IsTrue (is_plain (Some s))
TakesPlain _ = Unit {0}

-- a node can be gone over: it is no row, its parts have symbolic values of their sorts, and its input bits are among the clauses' variables
pub record IsReady (ns : List Node) (at : ℕ) (set : ClauseSet) (first : ℕ) (table : List Symbolic) : Type 0 where
  pub graph : IsGraph ns
  pub within : at < length ns
  pub size : length table ≡ at
  pub plain : IsTrue (is_plain (sort_at ns at))
  pub parts : (n : Node) (i : ℕ) → slice_get ns at ≡ Some n → IsTrue (is_part n i) → IsIn set (symbol_in table i) × (sort_at ns i ≡ Some (sort_of (symbol_in table i)))
  pub inputs : first + input_bits true (slice_get ns at) ≤ set.variables

-- the input bits of a variable's node have the bits of its value
abbrev pub ShowsInput : (ℕ → Bool) → ℕ → (ℕ → Value) → Option Node → Type 0
ShowsInput v first env node = (k : ℕ) (s : Sort) → node ≡ Some (Variable k s) → HasSort (env k) s × Shows v first (env k)

-- a node's symbolic value, made of those of its parts by at most two variables for each unit of its own weight
pub record NodeMade (ns : List Node) (at : ℕ) (old new : ClauseSet) (first : ℕ) (table : List Symbolic) (made : Symbolic) : Type 0 where
  pub extends : Extends old new
  pub variables : new.variables + 2 * input_bits true (slice_get ns at) ≤ old.variables + 2 * own_weight ns at
  pub inside : IsIn new made
  pub sorted : sort_at ns at ≡ Some (sort_of made)
  pub is : (v : ℕ → Bool) (env : ℕ → Value) → Satisfies v new.clauses → ShowsInput v first env (slice_get ns at) → ((n : Node) (i : ℕ) → slice_get ns at ≡ Some n → IsTrue (is_part n i) → value_at env ns i ≡ value_under v (symbol_in table i)) → value_at env ns at ≡ value_under v made

-- the same, where the node is marked; else nothing was added
abbrev pub StepMade : Bool → List Node → ℕ → ClauseSet → ClauseSet → ℕ → List Symbolic → Symbolic → Type 0
StepMade true ns at old new first table made = NodeMade ns at old new first table made
StepMade false ns at old new first table made = new ≡ old

-- the literal of the term's truth value
abbrev pub output_of : Literal → Symbolic → Literal
output_of other (symbolic.Bool l) = l
output_of other (symbolic.Word ls) = other

-- where each marked variable's input bits have the bits of its value
abbrev pub ShowsInputs : (ℕ → Bool) → List Node → List Bool → ℕ → (ℕ → Value) → Type 0
ShowsInputs v ns marks count env = (i : ℕ) → i < count → IsTrue (marked marks i) → ShowsInput v (inputs_before ns marks i) env (slice_get ns i)

-- The gates of a term over its inputs: each assignment of the inputs extends to them in exactly one way, and where the inputs have the bits of values the output is whether the term is true at these.
pub record IsCircuit (ns : List Node) (id : ℕ) (marks : List Bool) (inputs : ℕ) (set : ClauseSet) (output : Literal) : Type 0 where
  pub extends : Extends (record { variables = inputs; clauses = [] }) set
  pub variables : set.variables ≤ 2 * term_weight ns id + 1
  pub below : output.variable < set.variables
  pub is : (v : ℕ → Bool) (env : ℕ → Value) → Satisfies v set.clauses → ShowsInputs v ns marks (id + 1) env → truth_of v output ≡ is_true (value_at env ns id)
