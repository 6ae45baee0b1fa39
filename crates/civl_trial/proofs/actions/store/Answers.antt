use Rattle.civl_trial.proofs.actions.store.Goals as goal

pub returns : goal.returns
returns c = c.plain.ensures _ _ _ _ (c.headed-heading.ensures _ _ _ c.of_copy-name.ensures c.plain_value.ensures c.new.ensures) c.writes_counter.ensures
