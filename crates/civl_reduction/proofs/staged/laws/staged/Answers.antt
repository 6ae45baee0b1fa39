use Rattle.civl_reduction.proofs.staged.Opened.Concluding.{open_blocks_end}
use Rattle.civl_reduction.proofs.staged.Opened.Round.{open_blocks_step}
use Rattle.civl_reduction.proofs.staged.Opened.Called.{calls_open_blocks}
use Rattle.civl_reduction.proofs.staged.laws.staged.Goals as goal

pub returns-clause-call : goal.returns-clause-call
returns-clause-call c = calls_open_blocks c.checked.ensures.permissions

pub returns-clause-step : goal.returns-clause-step
returns-clause-step c = open_blocks_step c.checked.ensures.permissions c.checked.ensures.roots

pub returns-clause-end : goal.returns-clause-end
returns-clause-end c = open_blocks_end c.checked.ensures.permissions
