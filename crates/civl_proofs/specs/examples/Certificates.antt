-- Worked examples of certificates, and of first faults.
use Rattle.std.specs.Prelude.{[], ◌∷◌, ◌++◌, true, false, codes}
use Rattle.civl_cnf.specs.Literal.{Literal}
use Rattle.civl_proofs.specs.Text.{IsCertificate, IsFirstFault}

-- the first two variables, and their negations
abbrev pub first : Literal
first = record { variable = 0; positive = true }

abbrev pub second : Literal
second = record { variable = 1; positive = true }

abbrev pub not_first : Literal
not_first = record { variable = 0; positive = false }

abbrev pub not_second : Literal
not_second = record { variable = 1; positive = false }

pub record Examples : Type 0 where
  -- two unit clauses, and the empty clause as a log
  pub refuting : IsCertificate
      (codes "p cnf 1 2" ++ 10 ∷ codes "1 0" ++ 10 ∷ codes "-1 0" ++ 10 ∷ codes "log" ++ 10 ∷ codes "0" ++ 10 ∷ [])
      (record { variables = 1; clauses = (first ∷ []) ∷ (not_first ∷ []) ∷ [] }) ([] ∷ [])
  -- no variables, no clauses and no log; the last line has no line feed
  pub least : IsCertificate (codes "p cnf 0 0" ++ 10 ∷ codes "log") (record { variables = 0; clauses = [] }) []
  -- comments, also within a clause that goes over lines, and blanks of all kinds
  pub free : IsCertificate
      (codes "c p" ++ 10 ∷ codes "p" ++ 9 ∷ codes "cnf" ++ 13 ∷ codes "2 2" ++ 10 ∷ codes "c" ++ 10 ∷ codes " 1" ++ 10 ∷ codes "c 0" ++ 10 ∷ codes "-2  0 0 " ++ 10 ∷ codes "log" ++ 10 ∷ codes " -1" ++ 10 ∷ codes "2 0")
      (record { variables = 2; clauses = (first ∷ not_second ∷ []) ∷ [] ∷ [] }) ((not_first ∷ second ∷ []) ∷ [])
  -- a variable that isn't there
  pub unknown : IsFirstFault (codes "p cnf 1 1" ++ 10 ∷ codes "2 0" ++ 10 ∷ []) 10
  -- a number with a leading zero, and 0 with a sign
  pub leading : IsFirstFault (codes "p cnf 01 1" ++ 10 ∷ []) 7
  pub signed : IsFirstFault (codes "p cnf 1 1" ++ 10 ∷ codes "-0 0") 11
  -- too many variables, and too many clauses
  pub many : IsFirstFault (codes "p cnf 10000001 1") 13
  pub long : IsFirstFault (codes "p cnf 1 100000001") 16
  -- one clause too few, and one too many
  pub few : IsFirstFault (codes "p cnf 1 1" ++ 10 ∷ codes "log") 10
  pub more : IsFirstFault (codes "p cnf 1 1" ++ 10 ∷ codes "1 0 1 0") 14
  -- `log` that doesn't begin its line
  pub inside : IsFirstFault (codes "p cnf 0 0" ++ 10 ∷ codes " log") 11
  -- a carriage return at the end of the header
  pub return : IsFirstFault (codes "p cnf 0 0" ++ 13 ∷ 10 ∷ codes "log") 9
  -- a comment behind `log`
  pub late : IsFirstFault (codes "p cnf 0 0" ++ 10 ∷ codes "log" ++ 10 ∷ codes "c") 14
  -- a clause without its 0, at the end of the text
  pub ends : IsFirstFault (codes "p cnf 1 0" ++ 10 ∷ codes "log" ++ 10 ∷ codes "1") 15
  pub nothing : IsFirstFault [] 0
