use Rattle.std.proofs.Common.{arith, rules}
use Rattle.civl_places.proofs.Counts.{joined_rest}
use Rattle.civl_places.proofs.phrase.count_each.Goals as goal

pub count-sum-requires : goal.count-sum-requires
count-sum-requires g c =
    let e = joined_rest g.P.Phrase.spell c.args.phrases.now c.loop-phrase.phrase-index c.phrase-item.result (search rules) (search rules) in
    omega arith

pub overflow_add-sum : goal.overflow_add-sum
overflow_add-sum g c =
    let e = joined_rest g.P.Phrase.spell c.args.phrases.now c.loop-phrase.phrase-index c.phrase-item.result (search rules) (search rules) in
    omega arith

pub loop-phrase-preserved : goal.loop-phrase-preserved
loop-phrase-preserved g c =
    let e = joined_rest g.P.Phrase.spell c.args.phrases.now c.loop-phrase.phrase-index c.phrase-item.result (search rules) (search rules) in
    omega arith
