use Rattle.std.proofs.Common.{arith}
use Rattle.std.proofs.lemmas.Option.{slice_get_within}
use Rattle.civl_weighing.proofs.Capping.{sum_weighs, weighs_same}
use Rattle.civl_outlined.proofs.Stating.{stands_within}
use Rattle.civl_outlined.proofs.statements.statement_sums.Goals as goal

pub note_before-note-requires-clause-place : goal.note_before-note-requires-clause-place
note_before-note-requires-clause-place c = slice_get_within c.args.said.now.program.now.procs c.args.place c.args.proc.now c.requires.proc

pub reaches-requires-clause-place : goal.reaches-requires-clause-place
reaches-requires-clause-place c = slice_get_within c.args.said.now.program.now.procs c.args.place c.args.proc.now c.requires.proc

pub reaches-requires-clause-small : goal.reaches-requires-clause-small
reaches-requires-clause-small c = omega (arith, stands_within c.args.proc.now.body c.args.number c.args.stmt.now c.args.next c.requires.there, c.requires.small)

pub returns : goal.returns
returns c = record {
  base = sum_weighs c.plus-2.ensures (sum_weighs c.plus.ensures c.requires.said.holds c.note_before-note.ensures) c.form_weight-form.ensures;
  note = c.note_before-note.ensures;
  begins = c.begins.ensures;
  reaches = c.reaches.ensures;
  items = weighs_same c.requires.items c.of_count.ensures;
  choices = c.stmt_choices.ensures;
}
