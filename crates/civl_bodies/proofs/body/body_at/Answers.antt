use Rattle.std.proofs.Common.{◌<◌, length, ◌∙◌, ap, sym, arith, Some}
use Rattle.std.proofs.lemmas.Option.{slice_get-get_or}
use Rattle.civl_bodies.specs.Bodies.{IsBody}
use Rattle.civl_meaning.proofs.Zipping.{zip_long, zip_there}
use Rattle.civl_bodies.proofs.body.body_at.Goals as goal

pub index-requires : goal.index-requires
index-requires c = omega (arith, c.requires.there, zip_long IsBody _ _ c.requires.bodies)

pub returns : goal.returns
returns c =
    let all = c.args.bodies.now.procs.items in
    let within : c.args.number < length all = omega (arith, c.requires.there, zip_long IsBody _ _ c.requires.bodies) in
    zip_there IsBody c.args.src.now.procs all c.args.number c.index.result.now c.requires.bodies (slice_get-get_or all c.args.number c.index.result.now within ∙ ap Some (sym c.index.ensures))
