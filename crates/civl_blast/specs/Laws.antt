-- What clauses that stand for a term tell.
use Rattle.std.specs.Prelude.{◌≡◌, ◌↔◌, ℕ, List, Bool, IsTrue, All}
use Rattle.civl_bits.specs.declared.value.Value.{Value}
use Rattle.civl_firing.specs.values.Values.{is_true}
use Rattle.civl_cnf.specs.ClauseSet.{ClauseSet, Satisfies}
use Rattle.civl_terms.specs.declared.node.Node.{Node}
use Rattle.civl_terms.specs.Graphs.{Fits, value_at}
use Rattle.civl_blast.specs.declared.blasted.Place.{Place}
use Rattle.civl_blast.specs.Standing.{GivesValues, StandsFor, ShowAll}
use Rattle.civl_blast.specs.rows.Cells.{cell_of}

-- bits that make the clauses true give values, through the places, that make the term true
abbrev pub BitsGiveValues : Type 0
BitsGiveValues = (ns : List Node) (id : ℕ) (set : ClauseSet) (places : List Place) → GivesValues ns places → StandsFor ns id set places → (v : ℕ → Bool) → Satisfies v set.clauses → (env : ℕ → Value) × Fits env ns × ShowAll v places env × IsTrue (is_true (value_at env ns id))

-- a term has one truth value at values that agree on the cells with places: no other cell tells
abbrev pub PlacesDecide : Type 0
PlacesDecide = (ns : List Node) (id : ℕ) (set : ClauseSet) (places : List Place) → StandsFor ns id set places → (env other : ℕ → Value) → Fits env ns → Fits other ns → All (λ (p : Place). cell_of (env p.variable) p.cell ≡ cell_of (other p.variable) p.cell) places → is_true (value_at env ns id) ≡ is_true (value_at other ns id)

-- the clauses are satisfiable exactly where some values make the term true
abbrev pub SatisfiableWhereTrue : Type 0
SatisfiableWhereTrue = (ns : List Node) (id : ℕ) (set : ClauseSet) (places : List Place) → GivesValues ns places → StandsFor ns id set places → ((v : ℕ → Bool) × Satisfies v set.clauses) ↔ ((env : ℕ → Value) × Fits env ns × IsTrue (is_true (value_at env ns id)))
