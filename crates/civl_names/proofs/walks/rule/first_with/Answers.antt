use Rattle.std.proofs.Common.{◌∙◌, sym}
use Rattle.civl_tree.proofs.Lists.{drop_is}
use Rattle.civl_names.proofs.walks.Finding.{next_seen, none_seen, none_noted, with_found, with_behind, with_none, with_noteless}
use Rattle.civl_names.proofs.walks.rule.first_with.Goals as goal

pub returns-then-breaks_with : goal.returns-then-breaks_with
returns-then-breaks_with g c =
    sym (sym c.loop-number.invariant
    ∙ with_found (g.R.NoteTest.breaks_with c.args.rule.now) c.loop-number.number _ _ _ _ _ _ (next_seen (λ stmt. stmt.now) c.args.flat.now c.loop-number.number c.index-flat-number.result c.loop-number-test.true c.index-flat-number.is) (drop_is c.args.notes.now c.loop-number.number c.in-Some.note.now c.in-Some.ensures.lookup.3.0 c.in-Some.ensures.lookup.1) (sym c.if-breaks_with.ensures))

pub returns-in-None : goal.returns-in-None
returns-in-None g c =
    sym (sym c.loop-number.invariant
    ∙ with_noteless (g.R.NoteTest.breaks_with c.args.rule.now) c.loop-number.number _ _ _ _ (next_seen (λ stmt. stmt.now) c.args.flat.now c.loop-number.number c.index-flat-number.result c.loop-number-test.true c.index-flat-number.is) (none_noted c.args.notes.now c.loop-number.number c.in-None.ensures.lookup.3))

pub loop-number-preserved : goal.loop-number-preserved
loop-number-preserved g c =
    sym (with_behind (g.R.NoteTest.breaks_with c.args.rule.now) c.loop-number.number _ _ _ _ _ _ (next_seen (λ stmt. stmt.now) c.args.flat.now c.loop-number.number c.index-flat-number.result c.loop-number-test.true c.index-flat-number.is) (drop_is c.args.notes.now c.loop-number.number c.in-Some.note.now c.in-Some.ensures.lookup.3.0 c.in-Some.ensures.lookup.1) (sym c.if-breaks_with.ensures))
    ∙ c.loop-number.invariant

pub returns : goal.returns
returns g c =
    sym (sym c.loop-number.invariant
    ∙ with_none (g.R.NoteTest.breaks_with c.args.rule.now) c.loop-number.number _ _ (none_seen (λ stmt. stmt.now) c.args.flat.now c.loop-number.number c.loop-number-test.false))
