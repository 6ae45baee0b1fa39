use Rattle.std.proofs.Common.{◌≡◌}
use Rattle.civl_meaning.specs.Meaning.{proc_number}
use Rattle.civl_outlined.proofs.Noted.{number_from}
use Rattle.civl_outlined.proofs.said.first_note.Given as goal

abbrev pub invariant-loop-place : goal.invariant-loop-place
invariant-loop-place l = number_from l.procs l.place l.name ≡ proc_number l.said.program.now l.name
