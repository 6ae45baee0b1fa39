-- What an answer is worth: as much as its certificate (McConnell, Mehlhorn, Näher and Schweitzer, "Certifying algorithms", 2011).
use Rattle.std.specs.Prelude.{◌≤◌, List, Bool, length, ⊤}
use Rattle.civl_cnf.specs.ClauseSet.{ClauseSet, Satisfies, assignment}
use Rattle.civl_rup.specs.Rup.{Refutes}
use Rattle.civl_portfolio.specs.declared.attempt.Attempt.{Attempt}
use Rattle.civl_portfolio.specs.declared.attempt.Attempt.TheVariants.{Unsat, Sat, GaveUp, Memory}

-- there is a bit for each variable, and the bits make the clauses true
pub record MakesTrue (set : ClauseSet) (bits : List Bool) : Type 0 where
  pub enough : set.variables ≤ length bits
  pub truth : Satisfies (assignment bits) set.clauses

-- a certificate that stands: a log that refutes the clause set, or bits that make it true
abbrev pub IsCertificate : ClauseSet → Attempt → Type 0
IsCertificate set (Unsat log) = Refutes set log
IsCertificate set (Sat bits) = MakesTrue set bits
IsCertificate set GaveUp = ⊥
IsCertificate set Memory = ⊥

-- a certificate that doesn't stand
abbrev pub IsRefused : ClauseSet → Attempt → Type 0
IsRefused set (Unsat log) = Refutes set log → ⊥
IsRefused set (Sat bits) = MakesTrue set bits → ⊥
IsRefused set GaveUp = ⊥
IsRefused set Memory = ⊥

-- an honest answer: a certificate stands
abbrev pub Stands : ClauseSet → Attempt → Type 0
Stands set (Unsat log) = Refutes set log
Stands set (Sat bits) = MakesTrue set bits
Stands set GaveUp = ⊤
Stands set Memory = ⊤
