-- What holds of certificates.
use Rattle.std.specs.Prelude.{◌≡◌, ◌⊎◌, ℕ, List}
use Rattle.civl_cnf.specs.Literal.{Literal}
use Rattle.civl_cnf.specs.ClauseSet.{ClauseSet}
use Rattle.civl_proofs.specs.Text.{IsCertificate, IsFirstFault, IsWhole, MayBeHeld, canonical}

-- a text is a certificate of one clause set and one log at most
abbrev pub OneReading : Type 0
OneReading = (text : List ℕ) (set other : ClauseSet) (log logged : List (List Literal)) → IsCertificate text set log → IsCertificate text other logged → (set ≡ other) × (log ≡ logged)

-- a text is a certificate, or has a first fault, and not both; and it has one first fault at most
pub record OneAnswer : Type 0 where
  pub some : (text : List ℕ) → IsWhole text ⊎ ((place : ℕ) × IsFirstFault text place)
  pub not_both : (text : List ℕ) (place : ℕ) → IsWhole text → IsFirstFault text place → ⊥
  pub one_place : (text : List ℕ) (place other : ℕ) → IsFirstFault text place → IsFirstFault text other → place ≡ other

-- the canonical text is a certificate
abbrev pub CanonicalIsRead : Type 0
CanonicalIsRead = (set : ClauseSet) (log : List (List Literal)) → MayBeHeld set log → IsCertificate (canonical set log) set log
