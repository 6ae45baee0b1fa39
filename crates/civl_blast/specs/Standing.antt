-- Clause sets that stand for terms (Tseitin, "On the complexity of derivation in propositional calculus", 1968).
use Rattle.std.specs.Prelude.{◌≡◌, ℕ, ◌+◌, ◌*◌, ◌<◌, ◌≤◌, List, [], ◌∷◌, ◌++◌, length, slice_get, Bool, Some, All}
use Rattle.civl_bits.specs.declared.value.Value.{Value}
use Rattle.civl_tree.specs.declared.expr.Sort.{Sort}
use Rattle.civl_tree.specs.declared.expr.Sort.TheVariants as sort
use Rattle.civl_firing.specs.values.Values.{is_true}
use Rattle.civl_cnf.specs.Literal.{Literal, truth_of}
use Rattle.civl_cnf.specs.ClauseSet.{ClauseSet, Satisfies}
use Rattle.civl_cnf.specs.Gates.{Agree}
use Rattle.civl_symbolic.specs.Symbolic.{Shows}
use Rattle.civl_terms.specs.declared.node.Node.{Node}
use Rattle.civl_terms.specs.declared.node.Node.TheVariants.{Variable}
use Rattle.civl_terms.specs.Graphs.{Fits, value_at}
use Rattle.civl_blast.specs.reach.Reaching.{Reaches}
use Rattle.civl_blast.specs.rows.Cells.{cell_of, cells_in}
use Rattle.civl_blast.specs.declared.blasted.Place.{Place}

-- at each place stand the bits of the cell of the variable's value
abbrev pub ShowAll : (ℕ → Bool) → List Place → (ℕ → Value) → Type 0
ShowAll v places env = All (λ p. Shows v p.first (cell_of (env p.variable) p.cell)) places

-- the bits of each cell of a value of this sort
abbrev pub cell_bits : Sort → ℕ
cell_bits sort.Bool = 1
cell_bits (sort.Word width) = width
cell_bits (sort.Row index width) = width

-- the place is that of a cell of a variable that the term reaches, and its bits are among so many variables
abbrev pub IsPlaced : List Node → ℕ → ℕ → Place → Type 0
IsPlaced ns id count e = (i : ℕ) × (s : Sort) × Reaches ns id i × (slice_get ns i ≡ Some (Variable e.variable s)) × (e.cell < cells_in (Some s)) × (e.first + cell_bits s ≤ count)

-- each cell of each variable that the term reaches has a place, and there are no others
pub record HasPlaces (ns : List Node) (id : ℕ) (count : ℕ) (places : List Place) : Type 0 where
  pub each : (i k c : ℕ) (s : Sort) → Reaches ns id i → slice_get ns i ≡ Some (Variable k s) → c < cells_in (Some s) → (p first : ℕ) × (slice_get places p ≡ Some (record { variable = k; cell = c; first = first }))
  pub only : (p : ℕ) (e : Place) → slice_get places p ≡ Some e → IsPlaced ns id count e

-- each place is that of a cell of a variable that the term reaches
pub record NamesCells (ns : List Node) (id : ℕ) (count : ℕ) (places : List Place) : Type 0 where
  pub only : (p : ℕ) (e : Place) → slice_get places p ≡ Some e → IsPlaced ns id count e

-- The clauses but the last, which is the unit clause of the output, leave exactly one choice of bits beside those that show x
-- at the places, and this choice makes the output true exactly where x is true.
pub record Encodes {X : Type 0} (IsOne : X → Type 0) (values : X → ℕ → Value) (truth : X → Bool) (set : ClauseSet) (places : List Place) : Type 0 where
  pub gates : List (List Literal)
  pub output : Literal
  pub clauses : set.clauses ≡ gates ++ (output ∷ []) ∷ []
  pub some : (x : X) → IsOne x → (v : ℕ → Bool) × Satisfies v gates × ShowAll v places (values x)
  pub one : (x : X) → IsOne x → (v w : ℕ → Bool) → Satisfies v gates → Satisfies w gates → ShowAll v places (values x) → ShowAll w places (values x) → Agree set.variables v w
  pub is : (x : X) → IsOne x → (v : ℕ → Bool) → Satisfies v gates → ShowAll v places (values x) → truth_of v output ≡ truth x

-- it encodes the term over the values of the graph's variables
abbrev pub StandsFor : List Node → ℕ → ClauseSet → List Place → Type 0
StandsFor ns id set places = Encodes (λ (env : ℕ → Value). Fits env ns) (λ env. env) (λ env. is_true (value_at env ns id)) set places

-- bits give values: any bits are at each place those of some values
abbrev pub GivesValues : List Node → List Place → Type 0
GivesValues ns places = (v : ℕ → Bool) → (env : ℕ → Value) × Fits env ns × ShowAll v places env

-- at most so many variables, and eight clauses for each, and two more
pub record IsSmall (set : ClauseSet) (most : ℕ) : Type 0 where
  pub variables : set.variables ≤ most
  pub clauses : length set.clauses ≤ 8 * set.variables + 2
