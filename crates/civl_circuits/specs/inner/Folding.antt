-- For private functions alone: what is folded, and what is brought into a normal form.
use Rattle.std.specs.Prelude.{◌≡◌, ℕ, ◌+◌, ◌*◌, ◌<◌, ◌≤◌, ◌⊎◌, Bool, ◌&&◌, ◌||◌, if◌then◌else◌, IsTrue}
use Rattle.civl_cnf.specs.Literal.{Literal, opposite, truth_of}
use Rattle.civl_cnf.specs.ClauseSet.{ClauseSet, Satisfies}
use Rattle.civl_cnf.specs.Gates.{Extends, bit, xor}
use Rattle.civl_circuits.specs.declared.folding.Choice.{Choice}
use Rattle.civl_circuits.specs.declared.folding.Choice.TheVariants as choice
use Rattle.civl_circuits.specs.declared.folding.Addition.{Addition}
use Rattle.civl_circuits.specs.declared.folding.Addition.TheVariants as addition

-- wherever `one` is true, the output is the value of a and b, and it is one of these three or an opposite
pub record Folds (one a b output : Literal) (value_of : Bool → Bool → Bool) : Type 0 where
  pub below : (n : ℕ) → one.variable < n → a.variable < n → b.variable < n → output.variable < n
  pub value : (v : ℕ → Bool) → IsTrue (truth_of v one) → truth_of v output ≡ value_of (truth_of v a) (truth_of v b)

-- neither is the constant or its opposite, and they are neither equal nor opposite
pub record AreApart (one a b : Literal) : Type 0 where
  pub first : a.variable ≡ one.variable → ⊥
  pub second : b.variable ≡ one.variable → ⊥
  pub both : a.variable ≡ b.variable → ⊥

-- a choice with fewer operands
abbrev pub choice_value : (ℕ → Bool) → (c a b : Literal) → Choice → Bool
choice_value v c a b (choice.Is x) = truth_of v x
choice_value v c a b (choice.And x y) = truth_of v x && truth_of v y
choice_value v c a b (choice.Or x y) = truth_of v x || truth_of v y
choice_value v c a b (choice.Xor x y) = xor (truth_of v x) (truth_of v y)
choice_value v c a b choice.Open = if truth_of v c then truth_of v a else truth_of v b

abbrev pub ChoiceBelow : ℕ → Choice → Type 0
ChoiceBelow n (choice.Is x) = x.variable < n
ChoiceBelow n (choice.And x y) = (x.variable < n) × (y.variable < n)
ChoiceBelow n (choice.Or x y) = (x.variable < n) × (y.variable < n)
ChoiceBelow n (choice.Xor x y) = (x.variable < n) × (y.variable < n)
ChoiceBelow n choice.Open = Unit {0}

pub record ReducesChoice (one c a b : Literal) (reduced : Choice) : Type 0 where
  pub below : (n : ℕ) → one.variable < n → c.variable < n → a.variable < n → b.variable < n → ChoiceBelow n reduced
  pub value : (v : ℕ → Bool) → IsTrue (truth_of v one) → choice_value v c a b reduced ≡ (if truth_of v c then truth_of v a else truth_of v b)

-- how many of the literals are true
abbrev pub count : (ℕ → Bool) → (a b c : Literal) → ℕ
count v a b c = bit (truth_of v a) + bit (truth_of v b) + bit (truth_of v c)

-- an addition with fewer operands
abbrev pub AdditionIs : (ℕ → Bool) → ℕ → Addition → Type 0
AdditionIs v n (addition.Is sum carry) = bit (truth_of v sum) + 2 * bit (truth_of v carry) ≡ n
AdditionIs v n (addition.Half x y) = bit (truth_of v x) + bit (truth_of v y) ≡ n
AdditionIs v n (addition.HalfAndOne x y) = bit (truth_of v x) + bit (truth_of v y) + 1 ≡ n
AdditionIs v n addition.Open = Unit {0}

abbrev pub AdditionBelow : ℕ → Addition → Type 0
AdditionBelow n (addition.Is x y) = (x.variable < n) × (y.variable < n)
AdditionBelow n (addition.Half x y) = (x.variable < n) × (y.variable < n)
AdditionBelow n (addition.HalfAndOne x y) = (x.variable < n) × (y.variable < n)
AdditionBelow n addition.Open = Unit {0}

pub record ReducesAddition (one a b c : Literal) (reduced : Addition) : Type 0 where
  pub below : (n : ℕ) → one.variable < n → a.variable < n → b.variable < n → c.variable < n → AdditionBelow n reduced
  pub value : (v : ℕ → Bool) → IsTrue (truth_of v one) → AdditionIs v (count v a b c) reduced

-- the same two literals
abbrev pub IsPair : Literal → Literal → Literal → Literal → Type 0
IsPair x y a b = ((x ≡ a) × (y ≡ b)) ⊎ ((x ≡ b) × (y ≡ a))

-- a literal, or its opposite
abbrev pub signed : Bool → Literal → Literal
signed keep l = if keep then l else opposite l

-- literals of which as many are true, over the same variables
pub record IsTriple (x y z a b c : Literal) : Type 0 where
  pub below : (n : ℕ) → a.variable < n → b.variable < n → c.variable < n → (x.variable < n) × (y.variable < n) × (z.variable < n)
  pub count_is : (v : ℕ → Bool) → count v x y z ≡ count v a b c

-- A sum and a carry: at most two variables were added, and wherever the new clauses are true, they are the two bits of how many inputs are true.
pub record MakesSum (old new : ClauseSet) (a b c sum carry : Literal) : Type 0 where
  pub extends : Extends old new
  pub variables : new.variables ≤ old.variables + 2
  pub sum_below : sum.variable < new.variables
  pub carry_below : carry.variable < new.variables
  pub count_is : (v : ℕ → Bool) → Satisfies v new.clauses → bit (truth_of v sum) + 2 * bit (truth_of v carry) ≡ count v a b c

-- the same for two inputs, and 1 more or not
pub record MakesHalf (old new : ClauseSet) (a b : Literal) (more : ℕ) (sum carry : Literal) : Type 0 where
  pub extends : Extends old new
  pub variables : new.variables ≤ old.variables + 2
  pub sum_below : sum.variable < new.variables
  pub carry_below : carry.variable < new.variables
  pub count_is : (v : ℕ → Bool) → Satisfies v new.clauses → bit (truth_of v sum) + 2 * bit (truth_of v carry) ≡ bit (truth_of v a) + bit (truth_of v b) + more
