use Rattle.civl_outlined.proofs.Fitted.{heavy_is}
use Rattle.civl_outlined.proofs.Rooted.{listed_name_roots}
use Rattle.civl_outlined.proofs.answer.weighed.Goals as goal

pub first_heavy-first-requires-clause-roots : goal.first_heavy-first-requires-clause-roots
first_heavy-first-requires-clause-roots c = listed_name_roots c.args.src.now _ c.args.outline.now c.in_ok-list.list _ c.in_ok-list.ensures c.as_slice.ensures c.in_ok-sums.ensures.of.in_program

pub returns-clause-heavy : goal.returns-clause-heavy
returns-clause-heavy c =
    heavy_is c.args.src.now _ c.args.outline.now _ c.in_ok-list.list _ _ c.first_heavy-first.ensures c.in_ok-sums.ensures.of.in_program c.in_ok-sums.ensures.of.of_outline c.as_slice.ensures c.in_ok-list.ensures
