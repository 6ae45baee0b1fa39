use Rattle.civl_terms.proofs.Growing.{lengthens_trans}
use Rattle.civl_states.proofs.formula_parts.Listing.{said_after}
use Rattle.civl_states.proofs.Starting.{test_after}
use Rattle.civl_states.proofs.beginning_frames.begin_frame.Goals as goal

pub returns-in_err-old_outs-clause-lengthens : goal.returns-in_err-old_outs-clause-lengthens
returns-in_err-old_outs-clause-lengthens c = lengthens_trans _ _ _ c.in_ok-locals.ensures.lengthens c.in_err-old_outs.ensures.lengthens

pub returns-in_err-done-clause-lengthens : goal.returns-in_err-done-clause-lengthens
returns-in_err-done-clause-lengthens c = lengthens_trans _ _ _ c.in_ok-locals.ensures.lengthens (lengthens_trans _ _ _ c.in_ok-old_outs.ensures.lengthens c.in_err-done.ensures.lengthens)

pub returns-in_err-old_done-clause-lengthens : goal.returns-in_err-old_done-clause-lengthens
returns-in_err-old_done-clause-lengthens c =
    lengthens_trans _ _ _ c.in_ok-locals.ensures.lengthens (lengthens_trans _ _ _ c.in_ok-old_outs.ensures.lengthens (lengthens_trans _ _ _ c.in_ok-done.ensures.lengthens c.in_err-old_done.ensures.lengthens))

pub returns-clause-begins : goal.returns-clause-begins
returns-clause-begins c =
    let two = lengthens_trans _ _ _ c.in_ok-done.ensures.lengthens c.in_ok-old_done.ensures.lengthens in
    let three = lengthens_trans _ _ _ c.in_ok-old_outs.ensures.lengthens two in
    record {
      locals = said_after _ _ _ _ _ three c.in_ok-locals.ensures.said;
      old_outs = said_after _ _ _ _ _ two c.in_ok-old_outs.ensures.said;
      done = test_after _ _ _ _ c.in_ok-old_done.ensures.lengthens c.in_ok-done.ensures.test;
      old_done = c.in_ok-old_done.ensures.test;
    }

pub returns-clause-lengthens : goal.returns-clause-lengthens
returns-clause-lengthens c =
    lengthens_trans _ _ _ c.in_ok-locals.ensures.lengthens (lengthens_trans _ _ _ c.in_ok-old_outs.ensures.lengthens (lengthens_trans _ _ _ c.in_ok-done.ensures.lengthens c.in_ok-old_done.ensures.lengthens))
