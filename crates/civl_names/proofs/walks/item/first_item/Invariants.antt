use Rattle.std.proofs.Common.{◌≡◌, drop, map}
use Rattle.civl_tree.specs.rules.Rules.{refusal_at, each_place, first_of}
use Rattle.civl_names.proofs.walks.item.first_item.Given as goal

abbrev pub invariant-loop-place : goal.invariant-loop-place
invariant-loop-place g l =
    first_of (map (refusal_at (g.R.Decides.rule l.rule).code) (each_place (g.T.Item.places_in (g.R.Decides.rule l.rule) l.program) l.place (drop l.place l.items)))
    ≡ first_of (map (refusal_at (g.R.Decides.rule l.fn.rule).code) (each_place (g.T.Item.places_in (g.R.Decides.rule l.fn.rule) l.fn.program) 0 l.fn.items))
