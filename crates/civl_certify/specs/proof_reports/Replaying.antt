-- What is found of a text that is to be a certificate: its first fault, or what the replay of its log finds (Goldberg and Novikov,
-- "Verification of proofs of unsatisfiability for CNF formulas", 2003).
use Rattle.std.specs.Prelude.{ℕ, List}
use Rattle.civl_cnf.specs.Literal.{Literal}
use Rattle.civl_cnf.specs.ClauseSet.{ClauseSet}
use Rattle.civl_rup.specs.Rup.{Refutes, IsFirstWithoutRup, HasRupAndNoEmpty}
use Rattle.civl_rup.specs.declared.answer.Replay.{Replay}
use Rattle.civl_rup.specs.declared.answer.Replay.TheVariants.{Refutes as Refuted, NotRup, NoEmpty}
use Rattle.civl_proofs.specs.Text.{IsCertificate, IsFirstFault}
use Rattle.civl_certify.specs.declared.proof_reports.replaying.Replaying.{Replaying}
use Rattle.civl_certify.specs.declared.proof_reports.replaying.Replaying.TheVariants.{Unread, Read}

-- the log refutes the clause set; this clause is its first without reverse unit propagation; or each clause has it, and none is empty
abbrev pub IsReplay : ClauseSet → List (List Literal) → Replay → Type 0
IsReplay set log Refuted = Refutes set log
IsReplay set log (NotRup place) = IsFirstWithoutRup set log place
IsReplay set log NoEmpty = HasRupAndNoEmpty set log

-- the text is no certificate, and this is its first fault; or it is one, and this is what the replay of its log finds
abbrev pub IsReplaying : List ℕ → Replaying → Type 0
IsReplaying text (Unread place) = IsFirstFault text place
IsReplaying text (Read found) = (set : ClauseSet) × (log : List (List Literal)) × IsCertificate text set log × IsReplay set log found
