use Rattle.civl_traces.proofs.Leading.{changes_lead}
use Rattle.civl_traces.proofs.laws.changes_lead.Goals as goal

pub returns : goal.returns
returns c = changes_lead
