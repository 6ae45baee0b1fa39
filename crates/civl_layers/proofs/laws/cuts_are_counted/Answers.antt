use Rattle.civl_layers.proofs.Counting.{cuts_are_counted, cuts_before_are_counted}
use Rattle.civl_layers.proofs.laws.cuts_are_counted.Goals as goal

pub returns : goal.returns
returns c = record { each = cuts_are_counted; before = cuts_before_are_counted }
