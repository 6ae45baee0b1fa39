use Rattle.civl_losses.proofs.Worked.{gate_is_false, action_gives_more, commit_is_forgotten, commit_is_repeated}
use Rattle.civl_losses.proofs.laws.raising.Goals as goal

pub returns-clause-gate : goal.returns-clause-gate
returns-clause-gate c = gate_is_false

pub returns-clause-gives : goal.returns-clause-gives
returns-clause-gives c = action_gives_more

pub returns-clause-forgets : goal.returns-clause-forgets
returns-clause-forgets c = commit_is_forgotten

pub returns-clause-repeats : goal.returns-clause-repeats
returns-clause-repeats c = commit_is_repeated
