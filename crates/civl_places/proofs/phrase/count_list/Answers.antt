use Rattle.std.proofs.Common.{arith}
use Rattle.civl_places.proofs.Counts.{enclosed_at}
use Rattle.civl_places.proofs.phrase.count_list.Goals as goal

pub count_each-requires : goal.count_each-requires
count_each-requires g c = omega (arith, enclosed_at g.P.Phrase.spell _ _ c.as_slice-items.ensures)

pub overflow_add-result : goal.overflow_add-result
overflow_add-result g c = omega (arith, enclosed_at g.P.Phrase.spell _ _ c.as_slice-items.ensures)

pub overflow_add-result-2 : goal.overflow_add-result-2
overflow_add-result-2 g c = omega (arith, enclosed_at g.P.Phrase.spell _ _ c.as_slice-items.ensures)

pub returns : goal.returns
returns g c = omega (arith, enclosed_at g.P.Phrase.spell _ _ c.as_slice-items.ensures)
