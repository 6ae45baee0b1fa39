use Rattle.std.proofs.Common.{◌≡◌, drop}
use Rattle.std.specs.List.{list_any}
use Rattle.civl_tree.specs.rules.Width.{is_linear}
use Rattle.civl_goals.proofs.listing.has_linear.Given as goal

abbrev pub invariant-loop-param : goal.invariant-loop-param
invariant-loop-param l = list_any (λ p. is_linear p.mode) (drop l.param-index l.params) ≡ list_any (λ p. is_linear p.mode) l.fn.params
