use Rattle.std.proofs.Common.{◌≡◌, ◌∙◌, List, Option, drop, sym, ap, subst}
use Rattle.civl_meaning.specs.Rest.{rest_at}
use Rattle.civl_reduction.specs.blocks.Cuts.{settled}
use Rattle.civl_shadows.specs.declared.frames.Framed.{Framed}
use Rattle.civl_meaning.specs.declared.remaining.Numbered.{Numbered}
use Rattle.civl_shadows.specs.Frames.{framed_of}
use Rattle.civl_meaning.specs.Remaining.{rest_of}
use Rattle.civl_followed.specs.inner.Along.{IsOffered}
use Rattle.civl_followed.proofs.Codes.{offered_so}
use Rattle.civl_followed.proofs.opening.offered.Goals as goal

pub returns-in_ok-push_stops-in-Some : goal.returns-in_ok-push_stops-in-Some
returns-in_ok-push_stops-in-Some c chosen h =
    let f = c.in-Some.framed in
    let there = subst (λ (o : Option Framed). IsOffered c.args.program.now c.args.layer c.args.store.now c.args.done (framed_of o) chosen) c.in-Some.is h in
    let rests : rest_of (drop c.settled.result c.deref.result.now) ≡ settled (rest_at f.proc.now.body f.frame.now.place) =
    ap (λ (l : List Numbered). rest_of (drop c.settled.result l)) (c.deref.ensures.value ∙ sym c.deref-in-Some.ensures.value)
    ∙ (sym c.settled.ensures ∙ ap settled (ap rest_of c.deref-in-Some.ensures.value ∙ c.in_ok-rest-in-Some.ensures)) in
    offered_so c.args.program.now c.args.layer f.proc.now f.frame.now c.args.store.now c.args.done c.as_slice.result.now c.in_ok-values-in-Some.values.items c.deref.result.now c.settled.result c.push_stops.new.offered.items chosen
    c.as_slice.ensures (c.in_ok-values-in-Some.ensures.items ∙ c.as_slice-in-Some.ensures) rests c.in_ok-push_stops-in-Some.ensures there
