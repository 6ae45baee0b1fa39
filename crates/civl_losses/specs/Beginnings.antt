-- A path's beginning, as the code has it.
use Rattle.civl_conditions.specs.Values.{Begun}
use Rattle.civl_traces.specs.Told.{chosen_at}
use Rattle.civl_losses.specs.declared.beginning.Beginning.{Beginning}

abbrev pub begun_from : Beginning → Begun
begun_from b = record {
  store = b.store;
  locals = b.locals;
  done = b.done;
  old = b.old;
  old_outs = b.old_outs;
  old_done = b.old_done;
  chosen = chosen_at b.chosen;
}
