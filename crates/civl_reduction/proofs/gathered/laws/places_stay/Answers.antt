use Rattle.civl_reduction.proofs.gathered.Gathering.{places_are_inside, others_stay_put}
use Rattle.civl_reduction.proofs.gathered.laws.places_stay.Goals as goal

pub returns-clause-inside : goal.returns-clause-inside
returns-clause-inside c = places_are_inside c.checked.ensures.roots c.checked.ensures.permissions c.checked.ensures.movers

pub returns-clause-others : goal.returns-clause-others
returns-clause-others c = others_stay_put c.checked.ensures.roots c.checked.ensures.permissions c.checked.ensures.movers
