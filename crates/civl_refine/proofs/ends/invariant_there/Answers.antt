use Rattle.std.proofs.Common.{sym}
use Rattle.civl_states.proofs.formula_parts.Saying.{test_as}
use Rattle.civl_refine.proofs.Asking.{invariant_is}
use Rattle.civl_refine.proofs.ends.invariant_there.Goals as goal

pub returns-in_ok-id-in-Some-clause-keeps : goal.returns-in_ok-id-in-Some-clause-keeps
returns-in_ok-id-in-Some-clause-keeps c = λ b p begun at.
    let s = c.args.start.now in
    test_as _ _ _ _ (λ env. invariant_is s.program.now s.step s.proc.now s.number s.cut (b env) c.args.way.now.end (p env) c.args.cut c.in-Some.invariant.now c.requires.cut (sym c.in-Some.ensures)) (c.in_ok-id-in-Some.ensures.test b p begun at)
