use Rattle.std.proofs.Common.{◌≡◌, drop, ◌&&◌}
use Rattle.std.specs.List.{list_any}
use Rattle.civl_tree.specs.rules.Names.{has_name, targets_of}
use Rattle.civl_goals.proofs.listing.updates_linear.Given as goal

abbrev pub invariant-loop-global : goal.invariant-loop-global
invariant-loop-global l = list_any (λ g. g.linear && has_name (targets_of l.action) g.name) (drop l.global-index l.global-items) ≡ list_any (λ g. g.linear && has_name (targets_of l.action) g.name) l.fn.program.globals
