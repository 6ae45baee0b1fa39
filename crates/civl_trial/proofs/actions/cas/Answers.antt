use Rattle.civl_trial.proofs.actions.cas.Goals as goal

pub returns : goal.returns
returns c = c.plain.ensures _ _ _ _ (c.headed-heading.ensures _ _ _ c.of_copy-name.ensures c.new.ensures c.success.ensures) c.raises_flag.ensures
