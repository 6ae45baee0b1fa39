use Rattle.std.proofs.Common.{◌∙◌, ◌+◌, ◌≤◌, ◌∷◌, ℕ, length, Option, arith, refl, sym, subst, inl, inr}
use Rattle.std.specs.Prelude.{All}
use Rattle.std.proofs.lemmas.Option.{none-some}
use Rattle.std.proofs.lemmas.List.Elements.{All-head, All-tail}
use Rattle.civl_tree.proofs.Lists.{all_left}
use Rattle.civl_meaning.specs.Failing.{IsMove}
use Rattle.civl_reduction.specs.interleavings.Runs.{Staged}
use Rattle.civl_reduction.proofs.interleavings.Staging.{staged_runs}
use Rattle.civl_blocked.specs.inner.Segments.{over, place_on, program_of}
use Rattle.civl_blocked.specs.inner.Turning.{ended, left_of}
use Rattle.civl_blocked.specs.inner.Walked.{IsToTurn}
use Rattle.civl_blocked.proofs.Fewer.{failing_from, all_right}
use Rattle.civl_blocked.proofs.Rooms.{standing_reached, plain_fails, late_or_between}
use Rattle.civl_blocked.proofs.turning.go_early.Goals as goal

pub returns-then-is_some : goal.returns-then-is_some
returns-then-is_some c bound few given small =
    let g = c.args.ground.now in
    let t = c.args.turning.now in
    let s = c.requires.going.standing in
    let n : ended g t.done.items + length t.rest.items ≤ bound = subst (λ (o : Option ℕ). ended g t.done.items + left_of g o t.rest.items t.beside.config ≤ bound) c.requires.open few in
    record {
      end = t.beside.config;
      are_moves = s.done_moves;
      runs = staged_runs (over g) (subst (λ (o : Option ℕ). Staged (over g) t.done.items o t.beside.config) c.requires.open s.staged);
      fails = inl (plain_fails g t.beside.config (failing_from g 0 t.beside.config c.in_ok-failing_in.field-0 c.in_ok-failing_in.ensures.some (sym c.is_some.ensures ∙ c.if-is_some.true)));
      few = omega (arith, n, small);
    }

pub gather-requires-clause-gathering : goal.gather-requires-clause-gathering
gather-requires-clause-gathering c =
    let g = c.args.ground.now in
    let t = c.args.turning.now in
    let k = c.requires.going.standing in
    let s = c.in-To.segment in
    let w = subst (IsToTurn g t.beside.config t.rest.items c.to_turn.new.rest.items) c.in-To.is c.in_ok-segment.ensures in
    let v = subst (All IsMove) w.split c.requires.going.rest_moves in
    let vs = all_left IsMove s.moves.items (s.last ∷ c.to_turn.new.rest.items) v in
    let vr = all_right IsMove s.moves.items (s.last ∷ c.to_turn.new.rest.items) v in
    let first = All-head IsMove s.last c.to_turn.new.rest.items vr in
    record {
      standing = k;
      mine = refl;
      may_go = λ u e. absurd (none-some u (sym c.requires.open ∙ e));
      may = c.moves_gather.ensures.early (program_of g) g.layer g.store.now t.beside.config w.middle s.end s.moves.items s.last c.requires.ground.checked (standing_reached g t.done.items t.open t.beside k) vs first w.early w.last;
      moves = vs;
      last = first;
      rest_moves = All-tail IsMove s.last c.to_turn.new.rest.items vr;
      fails = w.fails;
      turned = elim (late_or_between g (place_on g s.end s.last.thread) w.turns) [ inl l ↦ inl l | inr l ↦ inr (c.requires.open, l) ];
    }
