-- The rules by which the provers of a portfolio (Gomes and Selman, "Algorithm portfolios", 2001) are asked, and dropped.
use Rattle.std.specs.Prelude.{◌≡◌, ◌≢◌, ℕ, ◌+◌, ◌<◌, ◌≤◌, List, [], ◌∷◌, ◌++◌, Some, IfSome, IfNone, IsTrue, All, length, slice_index_or, ⊤}
use Rattle.civl_cnf.specs.ClauseSet.{ClauseSet}
use Rattle.civl_cdcl.specs.declared.outcome.Outcome.{Outcome}
use Rattle.civl_cdcl.specs.declared.outcome.Outcome.TheVariants.{Sat, Unsat, Spent}
use Rattle.civl_portfolio.specs.declared.attempt.Attempt.{Attempt}
use Rattle.civl_portfolio.specs.declared.attempt.Attempt.TheVariants as attempt
use Rattle.civl_outside.specs.Count.{count_up, Rose}
use Rattle.civl_portfolio.specs.Attempt.{IsCertificate, IsRefused}
use Rattle.civl_portfolio.specs.Prover.{Meanings}
use Rattle.civl_portfolio.specs.Fate.{Fate, AreFates, gone_of}

-- the answer is the outcome
abbrev pub IsOutcome : Attempt → Outcome → Type 0
IsOutcome answer (Sat bits) = answer ≡ attempt.Sat bits
IsOutcome answer (Unsat log) = answer ≡ attempt.Unsat log
IsOutcome answer (Spent log) = ⊥

abbrev pub IsSpent : Outcome → Type 0
IsSpent (Sat bits) = ⊥
IsSpent (Unsat log) = ⊥
IsSpent (Spent log) = ⊤

-- Who is asked: each of these once, which shows at those that stay; and the first, where there is one.
pub record WhoIsAsked {B : Type 0} (fates : List (Fate B)) (later : List B) (m : Meanings B) : Type 0 where
  pub once : All (λ f. IfSome f.after (λ after. m.asked after ≡ count_up (m.asked f.before))) fates
  pub first : fates ≡ [] → later ≡ []

-- Who is gone: no honest prover, and one that tells its plan only where this is a refused certificate.
pub record WhoIsGone {B : Type 0} (fates : List (Fate B)) (set : ClauseSet) (budget : ℕ) (m : Meanings B) : Type 0 where
  pub honest : All (λ f. IfNone f.after (IsTrue (m.honest f.before) → ⊥)) fates
  pub plan : All (λ f. IfNone f.after (IfSome (m.plan f.before) (λ plan. IsRefused set (plan set budget)))) fates

-- where the prover stays, tells its plan, and its count of want of memory didn't rise, the planned answer is so
abbrev pub AnswersSo : {B : Type 0} → Fate B → ClauseSet → ℕ → Meanings B → (Attempt → Type 0) → Type 0
AnswersSo f set budget m P =
    IfSome f.after (λ after. IfSome (m.plan f.before) (λ plan. (Rose (m.lacks f.before) (m.lacks after) → ⊥) → P (plan set budget)))

-- Who stays: it is as honest as before. Where it tells its plan and didn't lack memory, this is no refused certificate; and if it is a certificate that stands, this prover is the last that was asked, and its plan is the outcome.
pub record WhoStays {B : Type 0} (fates : List (Fate B)) (set : ClauseSet) (budget : ℕ) (outcome : Outcome) (m : Meanings B) : Type 0 where
  pub honest : All (λ f. IfSome f.after (λ after. m.honest after ≡ m.honest f.before)) fates
  pub lacks : All (λ f. IfSome f.after (λ after. m.lacks f.before ≤ m.lacks after)) fates
  pub unrefused : All (λ f. AnswersSo f set budget m (λ answer. IsRefused set answer → ⊥)) fates
  pub certificate : (i : ℕ) (d : Fate B) → i < length fates → AnswersSo (slice_index_or fates i d) set budget m (λ answer. IsCertificate set answer → (i + 1 ≡ length fates) × IsOutcome answer outcome)

-- The last that was asked: it stays, and where it tells its plan, this is the outcome.
pub record LastIsRight {B : Type 0} (fates : List (Fate B)) (set : ClauseSet) (budget : ℕ) (outcome : Outcome) (m : Meanings B) : Type 0 where
  pub earlier : List (Fate B)
  pub before : B
  pub after : B
  pub fates_are : fates ≡ earlier ++ record { before = before; after = Some after } ∷ []
  pub plan : IfSome (m.plan before) (λ plan. IsOutcome (plan set budget) outcome)

-- One round of asking, from the old list to the new one, in which so many provers were retired.
pub record IsRound {B : Type 0} (olds news : List B) (retired : ℕ) (set : ClauseSet) (budget : ℕ) (outcome : Outcome) (m : Meanings B) : Type 0 where
  -- those that were asked, in order, and those that weren't
  pub fates : List (Fate B)
  pub later : List B
  pub are_fates : AreFates fates later olds news
  pub asked : WhoIsAsked fates later m
  -- where the outcome is spent, all were asked
  pub spent : IsSpent outcome → later ≡ []
  pub gone : WhoIsGone fates set budget m
  pub retired_are : retired ≡ gone_of fates
  pub stays : WhoStays fates set budget outcome m
  -- where not all were asked, the last one's plan is the outcome
  pub last : later ≢ [] → LastIsRight fates set budget outcome m

-- A round that want of memory cut short: the provers of a first part were asked; of these some are gone, by the same rules, and all others stand in their order, the later ones as they were.
pub record IsCutShort {B : Type 0} (olds news : List B) (set : ClauseSet) (budget : ℕ) (m : Meanings B) : Type 0 where
  pub fates : List (Fate B)
  pub later : List B
  pub are_fates : AreFates fates later olds news
  pub asked : WhoIsAsked fates later m
  pub gone : WhoIsGone fates set budget m
  pub honest : All (λ f. IfSome f.after (λ after. m.honest after ≡ m.honest f.before)) fates
  pub lacks : All (λ f. IfSome f.after (λ after. m.lacks f.before ≤ m.lacks after)) fates
  -- none but the last may have told a refused certificate and stay
  pub unrefused : (i : ℕ) (d : Fate B) → i + 1 < length fates → AnswersSo (slice_index_or fates i d) set budget m (λ answer. (IsRefused set answer → ⊥) × (IsCertificate set answer → ⊥))
