use Rattle.civl_circuits.specs.declared.folding.Choice.TheVariants as choice
use Rattle.civl_circuits.proofs.Hashing.{choice_as}
use Rattle.civl_circuits.proofs.circuit.Circuit.ite.Goals as goal

pub returns-in_ok-output-in-And-clause-ok : goal.returns-in_ok-output-in-And-clause-ok
returns-in_ok-output-in-And-clause-ok c = choice_as (choice.And _ _) c.one-one.ensures c.in-And.ensures c.in_ok-output-in-And.ensures.ok

pub returns-in_ok-output-in-Or-clause-ok : goal.returns-in_ok-output-in-Or-clause-ok
returns-in_ok-output-in-Or-clause-ok c = choice_as (choice.Or _ _) c.one-one.ensures c.in-Or.ensures c.in_ok-output-in-Or.ensures.ok

pub returns-in_ok-output-in-Xor-clause-ok : goal.returns-in_ok-output-in-Xor-clause-ok
returns-in_ok-output-in-Xor-clause-ok c = choice_as (choice.Xor _ _) c.one-one.ensures c.in-Xor.ensures c.in_ok-output-in-Xor.ensures.ok
