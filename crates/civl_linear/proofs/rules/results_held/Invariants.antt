use Rattle.std.proofs.Common.{◌≡◌, drop, map}
use Rattle.std.specs.List.{list_any}
use Rattle.civl_linear.specs.Modes.{is_taken, passed_names, given_names}
use Rattle.civl_linear.specs.Held.{holds, without_names}
use Rattle.civl_linear.proofs.rules.results_held.Given as goal

abbrev pub invariant-loop-at : goal.invariant-loop-at
invariant-loop-at l = list_any (holds (map (λ name. name.now) l.names) (without_names (passed_names is_taken l.signature.params.now l.args) (map (λ name. name.now) l.names) l.held)) (given_names (drop l.at l.signature.outs.now) (drop l.at l.results)) ≡ list_any (holds (map (λ name. name.now) l.fn.names) (without_names (passed_names is_taken l.fn.signature.params.now l.fn.args) (map (λ name. name.now) l.fn.names) l.fn.held)) (given_names l.fn.signature.outs.now l.fn.results)
