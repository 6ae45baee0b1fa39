use Rattle.civl_prove.proofs.outline_reports.Asked.{searched_on}
use Rattle.civl_prove.proofs.outline_reports.proving.judge.Goals as goal

pub returns-in_ok-proving-in-Ok-Accepted-clause-searched : goal.returns-in_ok-proving-in-Ok-Accepted-clause-searched
returns-in_ok-proving-in-Ok-Accepted-clause-searched g c =
    searched_on _ c.args.src.now c.args.outline.now c.args.budget c.in-Ok-Accepted.count _ _ _ _ (rw c.in-Ok-Accepted.field-0-is at c.in-Ok-Accepted.ensures.searched) c.in_ok-proving-in-Ok-Accepted.ensures.searched
