use Rattle.std.proofs.Common.{arith, ◌∙◌, ◌++◌, ap, Bool, [], ◌∷◌}
use Rattle.std.specs.Prelude.{if◌then◌else◌}
use Rattle.civl_conditions.specs.paths.EndsMet.{is_reached}
use Rattle.civl_conditions.proofs.paths.Reached.{one_more}
use Rattle.civl_conditions.proofs.paths.ends.ends_by.Goals as goal

pub loop-end-preserved : goal.loop-end-preserved
loop-end-preserved c =
    let l = c.loop-end in
    one_more (is_reached c.args.onward c.len-exit.result c.args.numbers.now) l.end c.args.cuts.now l.ends c.push_end.new.ends _ (omega (arith, c.loop-end-test.true, c.len-exit.ensures))
    (c.in_ok-push_end.ensures ∙ ap (λ (b : Bool). l.ends ++ (if b then l.end ∷ [] else [])) c.is_reached-reached.ensures) l.invariant
