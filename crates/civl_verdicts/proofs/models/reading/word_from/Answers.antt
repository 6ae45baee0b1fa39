use Rattle.std.proofs.lemmas.Bool.{false≢true}
use Rattle.civl_cnf.specs.ClauseSet.{assignment}
use Rattle.civl_verdicts.proofs.models.CellsRead.{is_word}
use Rattle.civl_verdicts.proofs.models.reading.word_from.Goals as goal

pub unreachable-requires : goal.unreachable-requires
unreachable-requires c = false≢true (c.in-None.ensures.exact.1 (is_word (assignment c.args.bits.now) c.args.first c.args.width _ c.requires.narrow c.requires.wide c.number_from-number.ensures))
