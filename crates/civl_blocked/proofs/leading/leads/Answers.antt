use Rattle.std.proofs.Common.{None, subst}
use Rattle.civl_reduction.specs.interleavings.Runs.{SystemRuns, BlocksTo}
use Rattle.civl_blocked.specs.inner.Segments.{over}
use Rattle.civl_blocked.proofs.leading.leads.Goals as goal

pub returns : goal.returns
returns c t =
    let S = over c.args.ground.now in
    let a = c.args.arranged.now in
    record {
      middle = c.runs_blocks.new.config;
      blocks = subst (λ x. BlocksTo S None a.blocks.items x None c.runs_blocks.new.config) c.in_ok-config.ensures
          (subst (λ l. BlocksTo S None l c.in_ok-config.config None c.runs_blocks.new.config) c.as_slice.ensures.value (c.in_ok-runs_blocks.ensures c.if-not-branch.false));
      others = subst (λ x. SystemRuns S.steps a.others.items c.runs_blocks.new.config x) (c.same.ensures.0 t)
          (subst (λ l. SystemRuns S.steps l c.runs_blocks.new.config c.runs_all.new.config) c.as_slice-2.ensures.value (c.in_ok-runs_all.ensures c.if-not-branch-2.false));
    }
