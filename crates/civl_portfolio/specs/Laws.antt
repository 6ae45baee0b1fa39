-- What the rules mean together, and on examples.
use Rattle.std.specs.Prelude.{ℕ, List, [], ◌∷◌, true, false, not, nat_eq, Some, if◌then◌else◌}
use Rattle.civl_cnf.specs.Literal.{Literal}
use Rattle.civl_cnf.specs.ClauseSet.{ClauseSet}
use Rattle.civl_cdcl.specs.Laws.{variable, half, square}
use Rattle.civl_cdcl.specs.declared.outcome.Outcome.{Outcome}
use Rattle.civl_cdcl.specs.declared.outcome.Outcome.TheVariants as outcome
use Rattle.civl_portfolio.specs.declared.attempt.Attempt.TheVariants.{Unsat, Sat, GaveUp}
use Rattle.civl_portfolio.specs.Attempt.{IsCertificate, IsRefused}
use Rattle.civl_portfolio.specs.Prover.{Meanings}
use Rattle.civl_portfolio.specs.Asked.{IsRound, IsCutShort}
use Rattle.civl_portfolio.specs.First.{KeepsFirst}

-- whatever the others do, an honest first prover stays the first, and was asked once
abbrev pub HonestFirstStays : (B : Type 0) → Type 0
HonestFirstStays B = (olds news : List B) (retired : ℕ) (set : ClauseSet) (budget : ℕ) (outcome : Outcome) (m : Meanings B) → IsRound olds news retired set budget outcome m → KeepsFirst olds news 1 m

-- and so where want of memory cuts the round short
abbrev pub HonestFirstStaysInCut : (B : Type 0) → Type 0
HonestFirstStaysInCut B = (olds news : List B) (set : ClauseSet) (budget : ℕ) (m : Meanings B) → IsCutShort olds news set budget m → KeepsFirst olds news 1 m

-- Certificates on all four clauses over two variables, and on a or b, and a or not b: a log that refutes, one with no clause, one whose empty clause doesn't follow by propagation; bits that make the clauses true, more of them than variables, bits that don't, and too few.
pub record CertificatesStandOrNot : Type 0 where
  pub log : IsCertificate square (Unsat ((variable 0 ∷ []) ∷ [] ∷ []))
  pub no_clause : IsRefused square (Unsat [])
  pub at_once : IsRefused square (Unsat ([] ∷ []))
  pub bits : IsCertificate half (Sat (true ∷ false ∷ []))
  pub many : IsCertificate half (Sat (true ∷ false ∷ true ∷ []))
  pub wrong : IsRefused half (Sat (false ∷ true ∷ []))
  pub few : IsRefused half (Sat (true ∷ []))

-- a prover that gives up, lies or answers right bits of the second of these sets, by its kind, and how often it was asked
pub record Sample : Type 0 where
  pub kind : ℕ
  pub asked : ℕ

abbrev pub idle : ℕ → Sample
idle n = record { kind = 0; asked = n }

abbrev pub liar : ℕ → Sample
liar n = record { kind = 1; asked = n }

abbrev pub right : ℕ → Sample
right n = record { kind = 2; asked = n }

-- they tell their plans, and never lack memory
abbrev pub samples : Meanings Sample
samples = record {
  asked = λ s. s.asked;
  lacks = λ s. 0;
  honest = λ s. not (nat_eq s.kind 1);
  plan = λ s. Some (λ set budget. if nat_eq s.kind 0 then GaveUp else (if nat_eq s.kind 1 then Unsat [] else Sat (true ∷ true ∷ [])));
}

abbrev pub found : Outcome
found = outcome.Sat (true ∷ true ∷ [])

-- Rounds over such provers: one that is as it should be, and others where nobody is asked, a liar is kept, an honest one is dropped, or a right one is passed over for the house.
pub record RoundsOverSamples : Type 0 where
  pub right_round : IsRound (idle 0 ∷ liar 0 ∷ right 0 ∷ idle 0 ∷ []) (idle 1 ∷ right 1 ∷ idle 0 ∷ []) 1 half 5 found samples
  pub nobody_asked : (o : Outcome) → IsRound (idle 0 ∷ []) (idle 0 ∷ []) 0 half 5 o samples → ⊥
  pub liar_kept : (o : Outcome) → IsRound (liar 0 ∷ []) (liar 1 ∷ []) 0 half 5 o samples → ⊥
  pub honest_dropped : (o : Outcome) → IsRound (idle 0 ∷ []) [] 1 half 5 o samples → ⊥
  pub right_passed : (log : List (List Literal)) → IsRound (right 0 ∷ []) (right 1 ∷ []) 0 half 5 (outcome.Spent log) samples → ⊥
