use Rattle.std.specs.Prelude.{ℕ, List, if◌then◌else◌, Bool}
use Rattle.std.proofs.Common.{◌∙◌, sym, ap, subst}
use Rattle.civl_tree.specs.rules.Uses.{param_sorts}
use Rattle.civl_meaning.specs.Config.{frame_sorts}
use Rattle.civl_actions.specs.Scopes.{AreOf}
use Rattle.civl_conditions.specs.paths.NoteValues.{note_values, steady_note_values}
use Rattle.civl_conditions.specs.Invariants.{holds_in}
use Rattle.civl_states.specs.formula_parts.Lists.{AreSaid}
use Rattle.civl_states.proofs.formula_parts.Saying.{test_as}
use Rattle.civl_states.specs.Stores.{AreGlobals, AreStore}
use Rattle.civl_refine.proofs.Typing.{cut_typed, cut_truth}
use Rattle.civl_refine.proofs.ranks.invariant_kept.Goals as goal

pub note-requires-clause-typed : goal.note-requires-clause-typed
note-requires-clause-typed c = let s = c.args.start.now in cut_typed s.program.now c.requires.start.rules s.proc.now c.requires.start.proc c.args.cut c.args.invariant.now c.requires.invariant

pub note-requires-clause-view : goal.note-requires-clause-view
note-requires-clause-view c =
    let o = c.args.terms.now in
    let s = c.args.start.now in
    let b = c.requires.begins in
    let e = c.requires.ends in
    record {
      globals = subst (AreGlobals o s.program.now) (sym c.as_slice.ensures) e.globals;
      locals = subst (λ (xs : List ℕ). AreOf o xs (frame_sorts s.proc.now)) (sym c.as_slice-then-is_rank_loop.ensures) e.locals;
      done = e.done;
      old_globals = subst (AreGlobals o s.program.now) (sym c.as_slice-then-is_rank_loop-2.ensures) b.old_globals;
      old_outs = subst (λ (xs : List ℕ). AreOf o xs (param_sorts s.proc.now.outs)) (sym c.as_slice-then-is_rank_loop-3.ensures) b.old_outs;
      old_done = b.old_done;
    }

pub steady_note-requires-clause-typed : goal.steady_note-requires-clause-typed
steady_note-requires-clause-typed c = let s = c.args.start.now in cut_typed s.program.now c.requires.start.rules s.proc.now c.requires.start.proc c.args.cut c.args.invariant.now c.requires.invariant

pub returns-then-is_rank_loop-clause-test : goal.returns-then-is_rank_loop-clause-test
returns-then-is_rank_loop-clause-test c = λ b p begun at.
    let o = c.args.terms.now in
    let s = c.args.start.now in
    let q = s.proc.now in
    let e = sym c.is_rank_loop.ensures ∙ c.if-is_rank_loop.true in
    let truth = cut_truth s.program.now c.requires.start.rules q c.requires.start.proc c.args.cut c.args.invariant.now c.requires.invariant in
    test_as _ _ _ _ (λ env. ap (λ (t : Bool). holds_in (if t then note_values s.program.now.globals q (p env).store (p env).locals (p env).done (b env).old (b env).old_outs (b env).old_done else steady_note_values s.program.now.globals q (p env).store (p env).locals (p env).done) c.args.invariant.now) (sym e))
    (c.in_ok-id.ensures.note.holds (λ env. record { store = (p env).store; locals = (p env).locals; done = (p env).done; old = (b env).old; old_outs = (b env).old_outs; old_done = (b env).old_done }) truth
    (record {
      globals = subst (λ (xs : List ℕ). AreStore o s.program.now xs (λ env. (p env).store)) (sym c.as_slice.ensures) at.globals;
      locals = subst (λ (xs : List ℕ). AreSaid o xs (frame_sorts q) (λ env. (p env).locals)) (sym c.as_slice-then-is_rank_loop.ensures) at.locals;
      done = at.done;
      old_globals = subst (λ (xs : List ℕ). AreStore o s.program.now xs (λ env. (b env).old)) (sym c.as_slice-then-is_rank_loop-2.ensures) begun.old_globals;
      old_outs = subst (λ (xs : List ℕ). AreSaid o xs (param_sorts q.outs) (λ env. (b env).old_outs)) (sym c.as_slice-then-is_rank_loop-3.ensures) begun.old_outs;
      old_done = begun.old_done;
    }))

pub returns-then-is_rank_loop-clause-sorted : goal.returns-then-is_rank_loop-clause-sorted
returns-then-is_rank_loop-clause-sorted c =
    let s = c.args.start.now in
    c.in_ok-id.ensures.sorted ∙ cut_truth s.program.now c.requires.start.rules s.proc.now c.requires.start.proc c.args.cut c.args.invariant.now c.requires.invariant

pub returns-clause-test : goal.returns-clause-test
returns-clause-test c = λ b p begun at.
    let s = c.args.start.now in
    let q = s.proc.now in
    let e = sym c.is_rank_loop.ensures ∙ c.if-is_rank_loop.false in
    let truth = cut_truth s.program.now c.requires.start.rules q c.requires.start.proc c.args.cut c.args.invariant.now c.requires.invariant in
    test_as _ _ _ _ (λ env. ap (λ (t : Bool). holds_in (if t then note_values s.program.now.globals q (p env).store (p env).locals (p env).done (b env).old (b env).old_outs (b env).old_done else steady_note_values s.program.now.globals q (p env).store (p env).locals (p env).done) c.args.invariant.now) (sym e))
    (c.in_ok-id-2.ensures.note.holds (λ env. (p env).store) (λ env. (p env).locals) (λ env. (p env).done) truth at.globals at.locals at.done)

pub returns-clause-sorted : goal.returns-clause-sorted
returns-clause-sorted c =
    let s = c.args.start.now in
    c.in_ok-id-2.ensures.sorted ∙ cut_truth s.program.now c.requires.start.rules s.proc.now c.requires.start.proc c.args.cut c.args.invariant.now c.requires.invariant
