use Rattle.std.proofs.Common.{refl}
use Rattle.civl_prove.proofs.outline_reports.Asked.{unsearched}
use Rattle.civl_prove.proofs.outline_reports.proving.prove_outline.Goals as goal

pub returns-in_ok-proving-in-Err-Heavy-clause-proving : goal.returns-in_ok-proving-in-Err-Heavy-clause-proving
returns-in_ok-proving-in-Err-Heavy-clause-proving g c = c.in_ok-proving-in-Err-Heavy.ensures.proving c.args.budget

pub returns-in_ok-proving-in-Err-Heavy-clause-searched : goal.returns-in_ok-proving-in-Err-Heavy-clause-searched
returns-in_ok-proving-in-Err-Heavy-clause-searched g c = unsearched _ c.args.src.now c.args.outline.now c.args.budget _ _ _ c.in_ok-proving-in-Err-Heavy.ensures.refusal refl
