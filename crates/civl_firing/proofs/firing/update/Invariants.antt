use Rattle.std.proofs.Common.{◌≡◌, drop}
use Rattle.civl_firing.specs.Names.{names_of}
use Rattle.civl_firing.specs.Settings.{scope_in}
use Rattle.civl_firing.specs.Fired.{updated}
use Rattle.civl_firing.proofs.firing.update.Given as goal

abbrev pub invariant-loop-one : goal.invariant-loop-one
invariant-loop-one l = updated (names_of l.targets) l.values.items (scope_in l.setting) (drop l.one-index l.updates) ≡ updated (names_of l.targets) l.initial.values.items (scope_in l.setting) l.updates
