-- Serves private functions: what one prover gave.
use Rattle.std.specs.Prelude.{◌≡◌, ◌⊎◌, ℕ, ◌≤◌, IfSome, IsTrue}
use Rattle.civl_cnf.specs.ClauseSet.{ClauseSet}
use Rattle.civl_rup.specs.Rup.{Refutes, Spends}
use Rattle.civl_cdcl.specs.declared.outcome.Outcome.{Outcome}
use Rattle.civl_cdcl.specs.declared.outcome.Outcome.TheVariants.{Sat, Unsat, Spent}
use Rattle.civl_outside.specs.Count.{count_up, Rose}
use Rattle.civl_portfolio.specs.Attempt.{MakesTrue, IsCertificate, IsRefused}
use Rattle.civl_portfolio.specs.Prover.{Meanings}
use Rattle.civl_portfolio.specs.Asked.{IsOutcome, IsSpent}
use Rattle.civl_portfolio.specs.declared.hearing.Heard.{Heard}
use Rattle.civl_portfolio.specs.declared.hearing.Heard.TheVariants.{Certified, Nothing, Lied}

-- it was asked once, and stays
pub record WasAsked {B : Type 0} (before after : B) (m : Meanings B) : Type 0 where
  pub asked : m.asked after ≡ count_up (m.asked before)
  pub honest : m.honest after ≡ m.honest before
  pub lacks : m.lacks before ≤ m.lacks after

-- its plan is no certificate, neither a good one nor a refused one, or it lacked memory
pub record IsPassed {B : Type 0} (before after : B) (set : ClauseSet) (budget : ℕ) (m : Meanings B) : Type 0 where
  pub plan : IfSome (m.plan before) (λ plan. ((IsRefused set (plan set budget) → ⊥) × (IsCertificate set (plan set budget) → ⊥)) ⊎ Rose (m.lacks before) (m.lacks after))

-- its certificate was refused
pub record IsLiar {B : Type 0} (before : B) (set : ClauseSet) (budget : ℕ) (m : Meanings B) : Type 0 where
  pub honest : IsTrue (m.honest before) → ⊥
  pub plan : IfSome (m.plan before) (λ plan. IsRefused set (plan set budget))

-- the outcome has its certificate
abbrev pub IsProved : ClauseSet → ℕ → Outcome → Type 0
IsProved set budget (Sat bits) = MakesTrue set bits
IsProved set budget (Unsat log) = Refutes set log
IsProved set budget (Spent log) = Spends set log budget

-- its certificate stands: this is the outcome, and its plan, where it tells one
pub record IsCertified {B : Type 0} (before : B) (set : ClauseSet) (budget : ℕ) (outcome : Outcome) (m : Meanings B) : Type 0 where
  pub proved : IsProved set budget outcome
  pub unspent : IsSpent outcome → ⊥
  pub plan : IfSome (m.plan before) (λ plan. IsOutcome (plan set budget) outcome)

-- a prover was asked
abbrev pub HeardSays : {B : Type 0} → B → B → ClauseSet → ℕ → Meanings B → Heard → Type 0
HeardSays before after set budget m (Certified outcome) = WasAsked before after m × IsCertified before set budget outcome m
HeardSays before after set budget m Nothing = WasAsked before after m × IsPassed before after set budget m
HeardSays before after set budget m Lied = IsLiar before set budget m
