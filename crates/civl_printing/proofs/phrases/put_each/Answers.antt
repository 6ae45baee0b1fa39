use Rattle.std.proofs.Common.{arith, rules}
use Rattle.std.proofs.lemmas.Grind.{common_steps}
use Rattle.civl_printing.proofs.Writing.{written_rest, joins}
use Rattle.civl_printing.proofs.phrases.put_each.Goals as goal

pub loop-phrase-preserved : goal.loop-phrase-preserved
loop-phrase-preserved g c =
    let e = written_rest g.P.Phrase.spell c.as_slice-phrase-items.result.now c.loop-phrase.phrase-index c.phrase-item.result (search rules) (search rules) in
    grind (arith, joins)

pub returns : goal.returns
returns g c = grind (arith, joins, common_steps)
