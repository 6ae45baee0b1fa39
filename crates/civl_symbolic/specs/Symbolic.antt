-- Symbolic values: literals that are a value under each assignment.
use Rattle.std.specs.Prelude.{◌≡◌, ◌<◌, ◌≤◌, ◌+◌, ℕ, length, Bool, true, false, Option, Some, IsTrue}
use Rattle.std.specs.Int.{bit_at}
use Rattle.civl_bits.specs.declared.value.Value.{Value}
use Rattle.civl_bits.specs.declared.value.Value.TheVariants as value
use Rattle.civl_tree.specs.declared.expr.Sort.{Sort}
use Rattle.civl_tree.specs.declared.expr.Sort.TheVariants as sort
use Rattle.civl_tree.specs.rules.StoreSize.{bits_of}
use Rattle.civl_firing.specs.values.Values.{is_sort, sort_of_value, HasSort}
use Rattle.civl_cnf.specs.Literal.{Literal, truth_of}
use Rattle.civl_cnf.specs.ClauseSet.{ClauseSet, IsBelow, Satisfies}
use Rattle.civl_cnf.specs.Gates.{Extends, bit}
use Rattle.civl_circuits.specs.Circuits.{number}
use Rattle.civl_symbolic.specs.declared.symbolic.Symbolic.{Symbolic}
use Rattle.civl_symbolic.specs.declared.symbolic.Symbolic.TheVariants as symbolic

-- the value under an assignment
abbrev pub value_under : (ℕ → Bool) → Symbolic → Value
value_under v (symbolic.Bool l) = value.Bool (truth_of v l)
value_under v (symbolic.Word ls) = value.Word (length ls, number v ls)

-- the sort of these values
abbrev pub sort_of : Symbolic → Sort
sort_of (symbolic.Bool l) = sort.Bool
sort_of (symbolic.Word ls) = sort.Word (length ls)

-- its variables are below a number
abbrev pub HasBelow : ℕ → Symbolic → Type 0
HasBelow n (symbolic.Bool l) = l.variable < n
HasBelow n (symbolic.Word ls) = IsBelow n ls

-- its variables are the set's, and a word has 1 to 32 bits
pub record IsIn (set : ClauseSet) (a : Symbolic) : Type 0 where
  pub below : HasBelow set.variables a
  pub limits : IsTrue (is_sort (sort_of a))

-- A symbolic value of this sort: at most `cost` variables were added, and wherever the new clauses are true, this is the value.
pub record Makes (old new : ClauseSet) (made : Symbolic) (kind : Option Sort) (cost : ℕ) (value_at : (ℕ → Bool) → Value) : Type 0 where
  pub extends : Extends old new
  pub variables : new.variables ≤ old.variables + cost
  pub inside : IsIn new made
  pub sorted : kind ≡ Some (sort_of made)
  pub is : (v : ℕ → Bool) → Satisfies v new.clauses → value_under v made ≡ value_at v

-- a sort that isn't a row
abbrev pub is_flat : Sort → Bool
is_flat sort.Bool = true
is_flat (sort.Word width) = true
is_flat (sort.Row index width) = false

abbrev pub is_flat_value : Value → Bool
is_flat_value (value.Bool b) = true
is_flat_value (value.Word w) = true
is_flat_value (value.Row r) = false

-- The constant: it is this value under every assignment at which `one` is true.
pub record IsConstant (one : Literal) (made : Symbolic) (constant : Value) : Type 0 where
  pub below : (n : ℕ) → one.variable < n → HasBelow n made
  pub limits : IsTrue (is_sort (sort_of made))
  pub sorted : sort_of made ≡ sort_of_value constant
  pub is : (v : ℕ → Bool) → IsTrue (truth_of v one) → value_under v made ≡ constant

-- the variables from `first` on have the bits of a value, the lowest first
abbrev pub Shows : (ℕ → Bool) → ℕ → Value → Type 0
Shows v first (value.Bool b) = v first ≡ b
Shows v first (value.Word w) = (j : ℕ) → j < w.0 → bit (v (first + j)) ≡ bit_at w.1 j
Shows v first (value.Row r) = ⊥

-- The variable of this sort, whose bits are the clauses' variables from `first` on: where these have the bits of a value, it is this value.
pub record IsVariable (first : ℕ) (made : Symbolic) (kind : Sort) : Type 0 where
  pub below : (n : ℕ) → first + bits_of kind ≤ n → HasBelow n made
  pub limits : IsTrue (is_sort (sort_of made))
  pub sorted : sort_of made ≡ kind
  pub is : (v : ℕ → Bool) (shown : Value) → HasSort shown kind → Shows v first shown → value_under v made ≡ shown

-- Bits of a and b, moved, with no variable: this is the value under every assignment at which `one` is true.
pub record Moves (one : Literal) (a b made : Symbolic) (kind : Option Sort) (value_at : (ℕ → Bool) → Value) : Type 0 where
  pub below : (n : ℕ) → one.variable < n → HasBelow n a → HasBelow n b → HasBelow n made
  pub limits : IsTrue (is_sort (sort_of a)) → IsTrue (is_sort (sort_of b)) → IsTrue (is_sort (sort_of made))
  pub sorted : kind ≡ Some (sort_of made)
  pub is : (v : ℕ → Bool) → IsTrue (truth_of v one) → value_under v made ≡ value_at v
