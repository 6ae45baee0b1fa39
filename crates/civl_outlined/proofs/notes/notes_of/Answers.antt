use Rattle.std.proofs.Common.{◌≡◌, ℕ, drop, subst, arith}
use Rattle.civl_outlined.specs.inner.Notes.{AreNotes}
use Rattle.civl_outlined.proofs.Noted.{no_notes, one_more}
use Rattle.civl_outlined.proofs.notes.notes_of.Goals as goal

pub loop-left-init : goal.loop-left-init
loop-left-init c = record {
  left = omega arith;
  are = no_notes c.args.program.now c.new-found.result c.args.notes.now _ c.new-found.ensures (omega arith);
}

pub loop-left-preserved : goal.loop-left-preserved
loop-left-preserved c =
    let l = c.loop-left.invariant.left in
    record {
      left = omega arith;
      are = one_more c.args.program.now c.args.notes.now c.loop-left.left c.index-notes-left.result _ _ (omega arith) c.loop-left.invariant.left c.index-notes-left.is c.loop-left.invariant.are c.in_ok-add.ensures;
    }

pub returns : goal.returns
returns c = let none : c.loop-left.left ≡ 0 = omega arith in subst (λ (n : ℕ). AreNotes c.args.program.now (drop n c.args.notes.now) c.loop-left.found) none c.loop-left.invariant.are
