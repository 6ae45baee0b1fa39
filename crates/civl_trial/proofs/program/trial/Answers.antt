use Rattle.std.proofs.Common.{refl}
use Rattle.civl_trial.proofs.program.trial.Goals as goal

pub returns : goal.returns
returns c =
    rw (c.in_ok-parts.ensures _ _ (c.together.ensures _ _ (c.together-state.ensures _ _ c.globals.ensures c.init.ensures) (c.together-rules.ensures _ _ c.invariants.ensures c.actions.ensures)) (c.together-code.ensures _ _ c.procs.ensures c.threads.ensures))
    refl
