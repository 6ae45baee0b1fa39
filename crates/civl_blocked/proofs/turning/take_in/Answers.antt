use Rattle.std.proofs.Common.{◌∙◌, sym, inl, inr}
use Rattle.std.proofs.lemmas.Bool.{false_from_ne_true}
use Rattle.civl_reduction.specs.blocks.Shadow.{shadowed}
use Rattle.civl_blocked.specs.inner.Segments.{program_of}
use Rattle.civl_blocked.proofs.Joinings.{last_runs, taken, same_place, between_late, late_goes, late_bounded, between_goes, between_bounded, between_done}
use Rattle.civl_blocked.proofs.turning.take_in.Goals as goal

pub join-requires-clause-runs : goal.join-requires-clause-runs
join-requires-clause-runs c =
    last_runs c.args.ground.now c.args.turning.now c.args.thread c.args.segment.now c.as_slice-moves.result.now c.join_own.new.done.items c.join_own.new.beside c.requires.gathering c.requires.gathered c.as_slice-moves.ensures.value c.in_ok-join_own.ensures.opens

pub returns-then-is_late-clause-going : goal.returns-then-is_late-clause-going
returns-then-is_late-clause-going c n bound before room =
    let g = c.args.ground.now in
    let t = c.args.turning.now in
    let s = c.args.segment.now in
    let u = c.args.thread in
    let i = c.places_stay.ensures.inside in
    let o = c.places_stay.ensures.others in
    let new = c.join.new.beside in
    let j = taken g t u s c.as_slice-moves.result.now c.join_own.new.done.items c.join_own.new.beside c.requires.gathering c.requires.gathered c.as_slice-moves.ensures.value c.in_ok-join_own.ensures.opens
    c.join.new.done.items new c.put_back.new.rest.items c.in_ok-join_own.ensures.done c.in_ok-join.ensures.done c.in_ok-join.ensures.step c.in_ok-join.ensures.beside c.in_ok-put_back.ensures in
    let same = same_place g c.requires.ground i o t.done.items c.join.new.done.items t.open t.beside new u s.moves.items s.last s.end t.rest.items c.put_back.new.rest.items j in
    let late = sym c.in_ok-place.ensures ∙ c.is_late.ensures.yes c.if-is_late.true in
    elim c.requires.gathering.turned [
      | inl l ↦ absurd (between_late (sym l ∙ (sym same ∙ late)))
      | inr l ↦ (
          let b = late_bounded g c.requires.ground i o t.done.items c.join.new.done.items t.open t.beside new u s.moves.items s.last s.end t.rest.items c.put_back.new.rest.items j l.1 l.0 bound before room in
          (late_goes g c.requires.ground i o t.done.items c.join.new.done.items t.open t.beside new u s.moves.items s.last s.end t.rest.items c.put_back.new.rest.items j l.1, b.0, b.1))
    ]

pub returns-clause-going : goal.returns-clause-going
returns-clause-going c n bound before room =
    let g = c.args.ground.now in
    let t = c.args.turning.now in
    let s = c.args.segment.now in
    let u = c.args.thread in
    let i = c.places_stay.ensures.inside in
    let o = c.places_stay.ensures.others in
    let new = c.join.new.beside in
    let j = taken g t u s c.as_slice-moves.result.now c.join_own.new.done.items c.join_own.new.beside c.requires.gathering c.requires.gathered c.as_slice-moves.ensures.value c.in_ok-join_own.ensures.opens
    c.join.new.done.items new c.put_back.new.rest.items c.in_ok-join_own.ensures.done c.in_ok-join.ensures.done c.in_ok-join.ensures.step c.in_ok-join.ensures.beside c.in_ok-put_back.ensures in
    let same = same_place g c.requires.ground i o t.done.items c.join.new.done.items t.open t.beside new u s.moves.items s.last s.end t.rest.items c.put_back.new.rest.items j in
    let calm = sym (c.in_ok-challenged.ensures (shadowed (program_of g) g.layer g.store.now c.join.new.done.items) c.in_ok-join.ensures.beside) ∙ false_from_ne_true c.in_ok-challenged.challenged n in
    elim c.requires.gathering.turned [
      | inl l ↦ (
          let b = between_bounded g c.requires.ground i o t.done.items c.join.new.done.items t.open t.beside new u s.moves.items s.last s.end t.rest.items c.put_back.new.rest.items j l bound before room in
          (between_goes g c.requires.ground i o t.done.items c.join.new.done.items t.open t.beside new u s.moves.items s.last s.end t.rest.items c.put_back.new.rest.items j l calm, b.0, b.1))
      | inr l ↦ absurd (c.is_late.ensures.no c.if-is_late.false (c.in_ok-place.ensures ∙ (same ∙ l.1)))
    ]

pub returns-clause-done : goal.returns-clause-done
returns-clause-done c hard bound before room =
    let g = c.args.ground.now in
    let t = c.args.turning.now in
    let s = c.args.segment.now in
    let u = c.args.thread in
    let i = c.places_stay.ensures.inside in
    let o = c.places_stay.ensures.others in
    let new = c.join.new.beside in
    let j = taken g t u s c.as_slice-moves.result.now c.join_own.new.done.items c.join_own.new.beside c.requires.gathering c.requires.gathered c.as_slice-moves.ensures.value c.in_ok-join_own.ensures.opens
    c.join.new.done.items new c.put_back.new.rest.items c.in_ok-join_own.ensures.done c.in_ok-join.ensures.done c.in_ok-join.ensures.step c.in_ok-join.ensures.beside c.in_ok-put_back.ensures in
    let same = same_place g c.requires.ground i o t.done.items c.join.new.done.items t.open t.beside new u s.moves.items s.last s.end t.rest.items c.put_back.new.rest.items j in
    let so = sym (c.in_ok-challenged.ensures (shadowed (program_of g) g.layer g.store.now c.join.new.done.items) c.in_ok-join.ensures.beside) ∙ hard in
    elim c.requires.gathering.turned [
      | inl l ↦ between_done g c.requires.ground i o t.done.items c.join.new.done.items t.open t.beside new u s.moves.items s.last s.end t.rest.items c.put_back.new.rest.items j l so bound before room
      | inr l ↦ absurd (c.is_late.ensures.no c.if-is_late.false (c.in_ok-place.ensures ∙ (same ∙ l.1)))
    ]
