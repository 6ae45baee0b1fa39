use Rattle.std.proofs.Common.{◌∙◌, ◌∷◌, sym, subst, inl}
use Rattle.std.specs.Prelude.{All}
use Rattle.std.proofs.lemmas.Option.{same_Some}
use Rattle.std.proofs.lemmas.List.Elements.{All-head, All-tail}
use Rattle.civl_tree.proofs.Lists.{all_left}
use Rattle.civl_meaning.specs.Failing.{IsMove}
use Rattle.civl_blocked.specs.inner.Segments.{program_of}
use Rattle.civl_blocked.specs.inner.Walked.{IsToEnd}
use Rattle.civl_blocked.proofs.Fewer.{all_right}
use Rattle.civl_blocked.proofs.Rooms.{ok_map, standing_reached, stands_between, counted_end, counted_whole, room_from}
use Rattle.civl_blocked.proofs.turning.go_late.Goals as goal

pub gather-requires-clause-gathering : goal.gather-requires-clause-gathering
gather-requires-clause-gathering c =
    let g = c.args.ground.now in
    let t = c.args.turning.now in
    let u = c.args.thread in
    let k = c.requires.going.standing in
    let s = c.in-To.segment in
    let w = subst (IsToEnd g t.beside.config u t.rest.items c.to_end.new.rest.items) c.in-To.is c.in_ok-segment.ensures in
    let v = subst (All IsMove) w.split c.requires.going.rest_moves in
    let vs = all_left IsMove s.moves.items (s.last ∷ c.to_end.new.rest.items) v in
    let vr = all_right IsMove s.moves.items (s.last ∷ c.to_end.new.rest.items) v in
    let first = All-head IsMove s.last c.to_end.new.rest.items vr in
    record {
      standing = k;
      mine = w.mine;
      may_go = λ x e. same_Some x u (sym e ∙ c.requires.open);
      may = c.moves_gather.ensures.late (program_of g) g.layer g.store.now t.beside.config w.middle s.end u s.moves.items s.last c.requires.ground.checked (standing_reached g t.done.items t.open t.beside k) vs first (k.late u c.requires.open) w.pass w.mine w.last;
      moves = vs;
      last = first;
      rest_moves = All-tail IsMove s.last c.to_end.new.rest.items vr;
      fails = w.fails;
      turned = inl (stands_between g c.requires.ground c.places_stay.ensures.inside s.end u w.ended);
    }

pub returns-in-To : goal.returns-in-To
returns-in-To c =
    let g = c.args.ground.now in
    let t = c.args.turning.now in
    let u = c.args.thread in
    let s = c.in-To.segment in
    let w = subst (IsToEnd g t.beside.config u t.rest.items c.to_end.new.rest.items) c.in-To.is c.in_ok-segment.ensures in
    ok_map _ _ c.gather.result (λ next h bound few. h bound _ (room_from g bound t.done.items t.open u t.rest.items t.beside.config _ _ c.requires.open (counted_end g u t.rest.items s.moves.items c.to_end.new.rest.items s.last t.beside.config w.middle s.end w.split w.pass w.mine w.last w.ended) few)) c.gather.ensures

pub returns-in-Past : goal.returns-in-Past
returns-in-Past c =
    let g = c.args.ground.now in
    let t = c.args.turning.now in
    let u = c.args.thread in
    let w = subst (IsToEnd g t.beside.config u t.rest.items c.to_end.new.rest.items) c.in-Past.is c.in_ok-segment.ensures in
    ok_map _ _ c.finish.result (λ next h bound few. h bound _ (room_from g bound t.done.items t.open u t.rest.items t.beside.config _ _ c.requires.open (counted_whole g u t.rest.items c.in-Past.moves.items t.beside.config c.in-Past.end w.all w.pass) few)) c.finish.ensures
