use Rattle.std.proofs.Common.{◌≡◌, drop, map}
use Rattle.civl_tree.specs.rules.Codes.{E11}
use Rattle.civl_tree.specs.rules.Rules.{refusal_at, each_place, first_of}
use Rattle.civl_names.specs.inner.Strange.{declared_in, broken_items}
use Rattle.civl_names.proofs.unknown.first_item.Given as goal

abbrev pub invariant-loop-place : goal.invariant-loop-place
invariant-loop-place g l =
    first_of (map (refusal_at E11) (each_place (broken_items (g.T.Judged.unknown (declared_in l.sets)) l.before) l.place (drop l.place l.items)))
    ≡ first_of (map (refusal_at E11) (each_place (broken_items (g.T.Judged.unknown (declared_in l.fn.sets)) l.fn.before) 0 l.fn.items))
