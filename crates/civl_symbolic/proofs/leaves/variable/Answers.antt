use Rattle.std.proofs.Common.{◌≡◌, ℕ, subst, arith}
use Rattle.civl_symbolic.proofs.Leaving.{IsRun, run_none, run_more, variable_word}
use Rattle.civl_symbolic.proofs.leaves.variable.Goals as goal

pub loop-bit-init : goal.loop-bit-init
loop-bit-init c = rw c.new-lits.ensures.items (run_none _)

pub loop-bit-preserved : goal.loop-bit-preserved
loop-bit-preserved c = rw c.in_ok-push-in-Word.ensures.items (run_more _ _ _ _ c.loop-bit.invariant c.new-in-loop-bit.ensures)

pub returns-after-loop-bit : goal.returns-after-loop-bit
returns-after-loop-bit c =
    let all : c.loop-bit.bit ≡ c.in-Word.width = omega arith in
    variable_word _ c.in-Word.width _ _ _ c.in-Word.is c.requires.limits (subst (λ (n : ℕ). IsRun c.args.first n c.loop-bit.lits.items) all c.loop-bit.invariant) c.from_vec.ensures
