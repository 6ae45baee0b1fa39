use Rattle.std.proofs.Common.{◌∙◌, ◌+◌, ℕ, List, [], ◌∷◌, ◌++◌, sym, ap, append_assoc}
use Rattle.civl_bodies.specs.Numbers.{counted}
use Rattle.civl_bodies.proofs.Counting.{counted_more}
use Rattle.civl_bodies.proofs.numbers.push_run.Goals as goal

pub loop-at-preserved : goal.loop-at-preserved
loop-at-preserved c =
    let first = c.args.run.first in
    let at = c.loop-at.at in
    let before = c.args.list.now.items in
    c.in_ok-push.ensures.items ∙ ap (λ (xs : List ℕ). xs ++ (first + at) ∷ []) c.loop-at.invariant
    ∙ append_assoc before (counted first at) ((first + at) ∷ []) ∙ ap (λ (xs : List ℕ). before ++ xs) (sym (counted_more first at))
