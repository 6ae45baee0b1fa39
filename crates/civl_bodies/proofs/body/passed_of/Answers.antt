use Rattle.std.proofs.Common.{◌<◌, length, arith}
use Rattle.std.proofs.lemmas.List.{get_or_default}
use Rattle.civl_bodies.specs.Bodies.{ArePassed}
use Rattle.civl_meaning.proofs.Zipping.{zip_more}
use Rattle.civl_bodies.proofs.body.passed_of.Goals as goal

pub loop-cut-preserved : goal.loop-cut-preserved
loop-cut-preserved c =
    let cuts = c.args.cuts.now in
    let at = c.loop-cut.cut-index in
    let within : at < length cuts = omega (arith) in
    zip_more (ArePassed c.args.proc.now) cuts at _ _ _ _ within (get_or_default cuts at _ _ within) c.loop-cut.invariant c.in_ok-numbers.ensures c.in_ok-push.ensures.items
