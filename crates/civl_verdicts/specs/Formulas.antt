-- Formulas over the values of variables, and clause sets that stand for them (Tseitin, "On the complexity of derivation in
-- propositional calculus", 1968).
use Rattle.std.specs.Prelude.{ℕ, ◌+◌, ◌*◌, ◌^◌, ◌<◌, ◌≤◌, List, map, length, get_or, Bool}
use Rattle.civl_bits.specs.declared.value.Value.{Value}
use Rattle.civl_tree.specs.declared.expr.Sort.{Sort}
use Rattle.civl_tree.specs.declared.program.Program.{Program}
use Rattle.civl_tree.specs.rules.StoreSize.{bits_of}
use Rattle.civl_firing.specs.values.Operators.{nothing}
use Rattle.civl_firing.specs.values.Values.{HaveSorts}
use Rattle.civl_cnf.specs.ClauseSet.{ClauseSet}
use Rattle.civl_blast.specs.declared.blasted.Place.{Place}
use Rattle.civl_blast.specs.Standing.{ShowAll, Encodes}
use Rattle.civl_conditions.specs.declared.condition.Condition.{Condition}
use Rattle.civl_conditions.specs.Variables.{variables}
use Rattle.civl_conditions.specs.Invariants.{meets_init}
use Rattle.civl_conditions.specs.Violated.{violated}
use Rattle.civl_conditions.specs.Weights.{summed, weight, initial_weight}

-- the sorts of its variables, its weight, and whether it is true at values of them
pub record Formula : Type 0 where
  pub sorts : List Sort
  pub weight : ℕ
  pub truth : List Value → Bool

-- that a store is initial, over all globals
abbrev pub initial_formula : Program → Formula
initial_formula program = record {
  sorts = map (λ g. g.sort) program.globals;
  weight = initial_weight program;
  truth = λ values. meets_init program (record { values = values });
}

-- that values violate the condition, over its variables
abbrev pub violation_formula : Program → Condition → Formula
violation_formula program condition = record {
  sorts = map (λ v. v.sort) (variables program condition);
  weight = weight program condition;
  truth = violated program condition;
}

-- the bits of its variables
abbrev pub formula_bits : Formula → ℕ
formula_bits formula = summed (map bits_of formula.sorts)

-- it has more lists of values than this number
abbrev pub IsWide : ℕ → Formula → Type 0
IsWide budget formula = budget < 2 ^ formula_bits formula

-- the values as an assignment of the variables
abbrev pub listed : List Value → ℕ → Value
listed values number = get_or values number nothing

-- Some bits of the clause set are those of the variables, at these places, and it encodes the formula over the lists of values.
-- Any bits are those of some values. The set is small.
pub record StandsForFormula (formula : Formula) (set : ClauseSet) : Type 0 where
  pub places : List Place
  pub encodes : Encodes (λ values. HaveSorts values formula.sorts) listed formula.truth set places
  pub given : (v : ℕ → Bool) → (values : List Value) × HaveSorts values formula.sorts × ShowAll v places (listed values)
  pub few_variables : set.variables ≤ 16 * formula.weight + 2
  pub few_clauses : length set.clauses ≤ 8 * set.variables + 2
