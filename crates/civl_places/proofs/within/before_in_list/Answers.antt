use Rattle.std.proofs.Common.{arith}
use Rattle.civl_places.proofs.Counts.{enclosed_length}
use Rattle.civl_places.proofs.Listing.{first_fit, before_counts}
use Rattle.civl_places.proofs.within.before_in_list.Goals as goal

pub count_each-requires : goal.count_each-requires
count_each-requires g c = omega (arith, first_fit g.P.Phrase.spell c.args.phrases.now c.args.number, enclosed_length g.P.Phrase.spell c.args.phrases.now)

pub overflow_add-result : goal.overflow_add-result
overflow_add-result g c = omega (arith, first_fit g.P.Phrase.spell c.args.phrases.now c.args.number, enclosed_length g.P.Phrase.spell c.args.phrases.now)

pub overflow_add-result-2 : goal.overflow_add-result-2
overflow_add-result-2 g c = omega (arith, first_fit g.P.Phrase.spell c.args.phrases.now c.args.number, enclosed_length g.P.Phrase.spell c.args.phrases.now)

pub returns : goal.returns
returns g c = omega (arith, before_counts g.P.Phrase.spell c.args.phrases.now c.args.number (omega arith))
