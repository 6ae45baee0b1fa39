use Rattle.civl_reduction.proofs.blocks.Steady.Keeping.{invariants_begin, actions_are_steady, blocks_are_steady}
use Rattle.civl_reduction.proofs.blocks.laws.steady.Goals as goal

pub returns-clause-start : goal.returns-clause-start
returns-clause-start c = invariants_begin

pub returns-clause-actions : goal.returns-clause-actions
returns-clause-actions c = actions_are_steady

pub returns-clause-blocks : goal.returns-clause-blocks
returns-clause-blocks c = blocks_are_steady
