-- What a verdict on a layered program says, under a budget of learned clauses.
use Rattle.std.specs.Prelude.{◌≡◌, ℕ, ◌<◌, List, length, slice_get, Option, None, Some}
use Rattle.civl_tree.specs.declared.program.Program.{Program}
use Rattle.civl_firing.specs.declared.store.Store.{Store}
use Rattle.civl_meaning.specs.Initial.{IsInitial}
use Rattle.civl_cnf.specs.Literal.{Literal}
use Rattle.civl_cnf.specs.ClauseSet.{ClauseSet}
use Rattle.civl_rup.specs.Rup.{Spends}
use Rattle.civl_conditions.specs.declared.condition.Condition.{Condition}
use Rattle.civl_conditions.specs.Listed.{conditions}
use Rattle.civl_conditions.specs.Violated.{Violates, Holds, AllHold}
use Rattle.civl_verdicts.specs.declared.verdict.Counter.{Counter}
use Rattle.civl_verdicts.specs.declared.verdict.Verdict.{Verdict}
use Rattle.civl_verdicts.specs.declared.verdict.Verdict.TheVariants.{Accepted, Rejected, Undecided, NoInitial}
use Rattle.civl_verdicts.specs.Formulas.{Formula, initial_formula, violation_formula, IsWide, StandsForFormula}

abbrev pub HasInitial : Program → Type 0
HasInitial program = (store : Store) × IsInitial program store

-- the condition has this place in the list, and each condition before it holds
pub record IsReached (program : Program) (condition : Condition) (place : ℕ) : Type 0 where
  pub initial : HasInitial program
  pub there : slice_get (conditions program) place ≡ Some condition
  pub before : (i : ℕ) (c : Condition) → i < place → slice_get (conditions program) i ≡ Some c → Holds program c

-- the log spends the budget on some clause set that stands for the formula
abbrev pub SpendsOn : ℕ → Formula → List (List Literal) → Type 0
SpendsOn budget formula log = (set : ClauseSet) × StandsForFormula formula set × Spends set log budget

-- and the formula is wide for it
abbrev pub IsSpentOn : ℕ → Formula → List (List Literal) → Type 0
IsSpentOn budget formula log = IsWide budget formula × SpendsOn budget formula log

abbrev pub IsUndecided : Program → ℕ → Option Condition → List (List Literal) → Type 0
IsUndecided program budget None log = IsSpentOn budget (initial_formula program) log
IsUndecided program budget (Some condition) log = ((place : ℕ) × IsReached program condition place) × IsSpentOn budget (violation_formula program condition) log

abbrev pub IsVerdict : Program → ℕ → Verdict → Type 0
IsVerdict program budget (Accepted count) = HasInitial program × AllHold program × (count ≡ length (conditions program))
IsVerdict program budget (Rejected counter) = ((place : ℕ) × IsReached program counter.condition place) × Violates program counter.condition counter.values
IsVerdict program budget (Undecided condition log) = IsUndecided program budget condition log
IsVerdict program budget NoInitial = (store : Store) → IsInitial program store → ⊥

-- ---- laws

-- an accepted program isn't rejected, has an initial store, and has one number of conditions
pub record ExcludesOthers (program : Program) (count : ℕ) : Type 0 where
  pub rejected : (budget : ℕ) (counter : Counter) → IsVerdict program budget (Rejected counter) → ⊥
  pub no_initial : (budget : ℕ) → IsVerdict program budget NoInitial → ⊥
  pub counts : (budget other : ℕ) → IsVerdict program budget (Accepted other) → other ≡ count

abbrev pub AcceptedExcludesOthers : Type 0
AcceptedExcludesOthers = (program : Program) (budget count : ℕ) → IsVerdict program budget (Accepted count) → ExcludesOthers program count

abbrev pub OneCondition : Type 0
OneCondition = (program : Program) (budget other : ℕ) (first second : Counter) → IsVerdict program budget (Rejected first) → IsVerdict program other (Rejected second) → first.condition ≡ second.condition
