use Rattle.std.proofs.Common.{◌≡◌, ◌+◌, ◌≤◌, drop}
use Rattle.civl_conditions.specs.paths.EndsMet.{cuts_before, number_among}
use Rattle.civl_conditions.proofs.paths.ends.number_among.Given as goal

abbrev pub invariant-loop-cut : goal.invariant-loop-cut
invariant-loop-cut l = record {
  counted : l.place + cuts_before l.number (drop l.cut-index l.cut-items) ≡ number_among l.fn.cuts l.number;
  small : l.place ≤ l.cut-index + 1;
}
