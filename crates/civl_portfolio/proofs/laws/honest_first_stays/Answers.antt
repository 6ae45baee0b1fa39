use Rattle.civl_portfolio.proofs.Firsts.{first_stays, first_stays_in_cut}
use Rattle.civl_portfolio.proofs.laws.honest_first_stays.Goals as goal

pub returns-clause-whole : goal.returns-clause-whole
returns-clause-whole g c = first_stays _

pub returns-clause-cut : goal.returns-clause-cut
returns-clause-cut g c = first_stays_in_cut _
