use Rattle.std.proofs.Common.{◌≡◌, ◌∙◌, ◌+◌, ◌∷◌, [], ◌++◌, ℕ, length, Option, arith, refl, sym, ap, subst, inl, ◌⊎◌}
use Rattle.std.specs.Prelude.{All}
use Rattle.std.proofs.lemmas.Option.{same_Some}
use Rattle.std.proofs.lemmas.List.Elements.{All-nil, All-append}
use Rattle.civl_meaning.specs.declared.config.Move.{Move}
use Rattle.civl_meaning.specs.declared.config.Config.{Config}
use Rattle.civl_meaning.specs.Failing.{IsMove}
use Rattle.civl_reduction.specs.interleavings.Runs.{SystemRuns, Staged}
use Rattle.civl_reduction.proofs.interleavings.Staging.{staged_runs}
use Rattle.civl_reduction.specs.gathering.Gathered.{others, IsGathered, FailsSooner}
use Rattle.civl_reduction.specs.gathered.Laws.{by_thread}
use Rattle.civl_blocked.specs.inner.Segments.{over, program_of, FailsTo}
use Rattle.civl_blocked.specs.inner.Completed.{IsCompleted}
use Rattle.civl_blocked.proofs.Strides.{runs_join}
use Rattle.civl_blocked.proofs.Picking.{if_some}
use Rattle.civl_blocked.proofs.Joinings.{blocks_run}
use Rattle.civl_blocked.proofs.Rooms.{ok_map, standing_reached, end_reached, pass_join, pass_runs, offered_passes, others_same, stands_between, room_open, plain_runs, plain_fails}
use Rattle.civl_blocked.proofs.turning.finish.Goals as goal

pub complete-requires-clause-late : goal.complete-requires-clause-late
complete-requires-clause-late c =
    let g = c.args.ground.now in
    let t = c.args.turning.now in
    let u = c.args.thread in
    let f = c.requires.finishing in
    record {
      reached = end_reached g t.done.items t.open t.beside u c.args.moves.items c.args.end f.standing f.are_moves f.pass;
      late = c.late_threads_step.ensures.stay (program_of g) g.layer g.store.now t.beside.config c.args.end u c.args.moves.items c.requires.ground.checked (standing_reached g t.done.items t.open t.beside f.standing) f.are_moves (f.standing.late u f.open_is) f.pass;
    }

pub gather-requires-clause-gathering : goal.gather-requires-clause-gathering
gather-requires-clause-gathering c =
    let g = c.args.ground.now in
    let t = c.args.turning.now in
    let u = c.args.thread in
    let f = c.requires.finishing in
    let k = c.requires.ground.checked in
    let ms = c.args.moves.items in
    let s = c.in-Whole.segment in
    let w = subst (IsCompleted g u 1000000 ms c.args.end) c.in-Whole.is c.in_ok-segment.ensures in
    let late = f.standing.late u f.open_is in
    let there = standing_reached g t.done.items t.open t.beside f.standing in
    let reached = end_reached g t.done.items t.open t.beside u ms c.args.end f.standing f.are_moves f.pass in
    let late_end = c.late_threads_step.ensures.stay (program_of g) g.layer g.store.now t.beside.config c.args.end u ms k there f.are_moves late f.pass in
    let pass = pass_join (over g) u ms w.steps t.beside.config c.args.end w.middle f.pass (offered_passes g u w.steps c.args.end w.middle w.offered) in
    let vs = All-append IsMove ms w.steps f.are_moves w.are_moves.0 in
    let law = c.moves_gather.ensures.late (program_of g) g.layer g.store.now t.beside.config w.middle s.end u (ms ++ w.steps) s.last k there vs w.are_moves.1 late pass w.mine w.last in
    let fails = if_some _ c.in_ok-failing.field-0 c.in-Some.failing c.in-Some.is c.in_ok-failing.ensures.some in
    let stays = c.late_threads_step.ensures.fail (program_of g) g.layer g.store.now c.args.end w.middle s.end u c.in-Some.failing w.steps s.last k reached w.are_moves.0 w.are_moves.1 late_end w.offered w.mine w.last c.if-failing-thread.false fails in
    record {
      standing = f.standing;
      mine = w.mine;
      may_go = λ x e. same_Some x u (sym e ∙ f.open_is);
      may = subst (λ l. IsGathered Config Move (over g) u l s.last t.beside.config s.end ⊎ FailsSooner (over g) u (l ++ s.last ∷ []) t.beside.config) (sym w.moves_are) law;
      moves = subst (All IsMove) (sym w.moves_are) vs;
      last = w.are_moves.1;
      rest_moves = subst (All IsMove) (sym f.none) (All-nil IsMove);
      fails = subst (λ l. FailsTo (over g) l s.end) (sym f.none) (s.end, refl, (c.in-Some.failing, stays));
      turned = inl (stands_between g c.requires.ground c.places_stay.ensures.inside s.end u w.ended);
    }

pub shorten-requires-in-Stopped-clause-shortening : goal.shorten-requires-in-Stopped-clause-shortening
shorten-requires-in-Stopped-clause-shortening c =
    let g = c.args.ground.now in
    let t = c.args.turning.now in
    let u = c.args.thread in
    let f = c.requires.finishing in
    let ms = c.args.moves.items in
    let w = subst (IsCompleted g u 1000000 ms c.args.end) c.in-Stopped.is c.in_ok-segment.ensures in
    let pass = pass_join (over g) u ms w.steps t.beside.config c.args.end w.after f.pass (offered_passes g u w.steps c.args.end w.after w.offered) in
    let vs = All-append IsMove ms w.steps f.are_moves w.are_moves in
    let staged = subst (λ (o : Option ℕ). Staged (over g) t.done.items o t.beside.config) f.open_is f.standing.staged in
    let law = c.moves_stop.ensures.late (program_of g) g.layer g.store.now t.done.items (ms ++ w.steps) t.beside.config w.after u c.requires.ground.checked f.standing.done_moves vs staged (f.standing.late u f.open_is) pass w.fails in
    let is = c.deref-in-Stopped.ensures.value ∙ w.moves_are in
    record {
      standing = f.standing;
      may_go = λ x e. same_Some x u (sym e ∙ f.open_is);
      sooner = subst (λ l. FailsSooner (over g) u l t.beside.config) (sym is) law;
      are_moves = subst (All IsMove) (sym is) vs;
    }

pub returns-in-Whole : goal.returns-in-Whole
returns-in-Whole c =
    let g = c.args.ground.now in
    let t = c.args.turning.now in
    let u = c.args.thread in
    let f = c.requires.finishing in
    let ms = c.args.moves.items in
    let w = subst (IsCompleted g u 1000000 ms c.args.end) c.in-Whole.is c.in_ok-segment.ensures in
    let a = ap length (ap (others by_thread u) w.moves_are ∙ others_same g u ms w.steps c.args.end w.middle w.offered) in
    let b = ap length f.none in
    let same : length (others by_thread u c.in-Whole.segment.moves.items) + length t.rest.items ≡ length (others by_thread u ms) = omega (arith, a, b) in
    ok_map _ _ c.gather.result (λ next h bound before room. h bound before (room_open g bound before t.done.items t.open u (length ms) (length (others by_thread u ms)) _ _ f.open_is room same)) c.gather.ensures

pub returns-in-Stopped : goal.returns-in-Stopped
returns-in-Stopped c =
    let g = c.args.ground.now in
    let t = c.args.turning.now in
    let u = c.args.thread in
    let f = c.requires.finishing in
    let ms = c.args.moves.items in
    let w = subst (IsCompleted g u 1000000 ms c.args.end) c.in-Stopped.is c.in_ok-segment.ensures in
    let same = ap length (ap (others by_thread u) (c.deref-in-Stopped.ensures.value ∙ w.moves_are) ∙ others_same g u ms w.steps c.args.end w.after w.offered) in
    ok_map _ _ c.shorten-in-Stopped.result (λ next h bound before room. h bound before (room_open g bound before t.done.items t.open u (length ms) (length (others by_thread u ms)) _ _ f.open_is room same)) c.shorten-in-Stopped.ensures

pub returns-in-Spent : goal.returns-in-Spent
returns-in-Spent c bound before room =
    let g = c.args.ground.now in
    let t = c.args.turning.now in
    let u = c.args.thread in
    let f = c.requires.finishing in
    let ms = c.args.moves.items in
    let w = subst (IsCompleted g u 1000000 ms c.args.end) c.in-Spent.is c.in_ok-segment.ensures in
    let there = standing_reached g t.done.items t.open t.beside f.standing in
    let all = ap (λ l. t.done.items ++ l) w.moves_are in
    let runs = runs_join (over g) t.done.items ms (over g).start t.beside.config c.args.end (blocks_run (over g) t.done.items _ t.open (over g).start t.beside.config (staged_runs (over g) f.standing.staged)) (pass_runs (over g) u ms t.beside.config c.args.end f.pass) in
    record {
      end = c.args.end;
      are_moves = subst (All IsMove) (sym all) (All-append IsMove t.done.items ms f.standing.done_moves f.are_moves);
      runs = plain_runs g (t.done.items ++ c.in-Spent.moves.items) (over g).start c.args.end (subst (λ l. SystemRuns (over g).steps l (over g).start c.args.end) (sym all) runs);
      fails = plain_fails g c.args.end f.fails;
      late = c.late_threads_step.ensures.stay (program_of g) g.layer g.store.now t.beside.config c.args.end u ms c.requires.ground.checked there f.are_moves (f.standing.late u f.open_is) f.pass;
      steps = w.steps;
      many = w.many;
      after = w.after;
      offered = w.offered;
    }
