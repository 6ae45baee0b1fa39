use Rattle.std.proofs.Common.{◌<◌, length, ap, sym, ◌∙◌, subst, arith, Option, Some}
use Rattle.std.specs.Prelude.{IfSome}
use Rattle.std.proofs.lemmas.Option.{slice_get_within, slice_get-get_or}
use Rattle.civl_tree.specs.declared.program.Proc.{Proc}
use Rattle.civl_meaning.specs.declared.found.Found.{Found}
use Rattle.civl_meaning.specs.Places.{spot_at}
use Rattle.civl_meaning.specs.Table.{IsFound, ArePlacesOf}
use Rattle.civl_meaning.proofs.Zipping.{zip_long, zip_there}
use Rattle.civl_meaning.proofs.Tables.{entry_read, entry_past}
use Rattle.civl_meaning.proofs.filling.found_at.Goals as goal

pub index-requires : goal.index-requires
index-requires c =
    omega (arith, slice_get_within c.args.plain.now.program.procs c.args.number c.args.proc.now c.requires.proc, zip_long ArePlacesOf c.args.plain.now.program.procs c.args.places.now.procs.items c.requires.places)

pub returns-then-place-found : goal.returns-then-place-found
returns-then-place-found c =
    let procs = c.args.plain.now.program.procs in
    let all = c.args.places.now.procs.items in
    let within : c.args.number < length all = omega (arith, slice_get_within procs c.args.number c.args.proc.now c.requires.proc, zip_long ArePlacesOf procs all c.requires.places) in
    let own = zip_there ArePlacesOf procs all c.args.number c.index.result.now c.requires.places (slice_get-get_or all c.args.number c.index.result.now within ∙ ap Some (sym c.index.ensures)) in
    let places : ArePlacesOf c.args.proc.now c.index.result.now = subst (λ (o : Option Proc). IfSome o (λ p. ArePlacesOf p c.index.result.now)) c.requires.proc own in
    subst (λ (found : Option Found). IsFound found (spot_at c.args.proc.now.body c.args.place))
    (entry_read c.index.result.now.found.items c.as_slice-found.result.now c.args.place c.index-found-place.result c.as_slice-found.ensures.value c.if-place-found.true c.index-found-place.is) (places c.args.place)

pub returns-else-place-found : goal.returns-else-place-found
returns-else-place-found c =
    let procs = c.args.plain.now.program.procs in
    let all = c.args.places.now.procs.items in
    let within : c.args.number < length all = omega (arith, slice_get_within procs c.args.number c.args.proc.now c.requires.proc, zip_long ArePlacesOf procs all c.requires.places) in
    let own = zip_there ArePlacesOf procs all c.args.number c.index.result.now c.requires.places (slice_get-get_or all c.args.number c.index.result.now within ∙ ap Some (sym c.index.ensures)) in
    let places : ArePlacesOf c.args.proc.now c.index.result.now = subst (λ (o : Option Proc). IfSome o (λ p. ArePlacesOf p c.index.result.now)) c.requires.proc own in
    subst (λ (found : Option Found). IsFound found (spot_at c.args.proc.now.body c.args.place))
    (entry_past c.index.result.now.found.items c.as_slice-found.result.now c.args.place c.as_slice-found.ensures.value c.if-place-found.false) (places c.args.place)
