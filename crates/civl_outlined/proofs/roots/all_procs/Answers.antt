use Rattle.std.proofs.Common.{◌≡◌, ◌+◌, ℕ, List, Some, refl, ap, length, ◌∙◌, arith, subst}
use Rattle.std.specs.Prelude.{slice_get}
use Rattle.std.proofs.lemmas.Option.{slice_get_read}
use Rattle.std.proofs.lemmas.List.{length_push}
use Rattle.civl_tree.specs.declared.program.Proc.{Proc}
use Rattle.civl_outlined.proofs.Stating.{none_procs, one_proc, all_of}
use Rattle.civl_outlined.proofs.roots.all_procs.Goals as goal

pub loop-number-init : goal.loop-number-init
loop-number-init c = record {
  long = ap length c.new-all.ensures;
  are = none_procs c.args.said.now.program.now c.args.said.now.outline.now _ _ refl;
}

pub proc_sums-requires-clause-proc : goal.proc_sums-requires-clause-proc
proc_sums-requires-clause-proc c =
    subst (λ (ps : List Proc). slice_get ps c.loop-number.number ≡ Some c.index-procs-number.result) c.as_slice-procs.ensures
    (slice_get_read c.as_slice-procs.result.now (length c.as_slice-procs.result.now) c.loop-number.number c.index-procs-number.result refl c.loop-number-test.true c.index-procs-number.is)

pub loop-number-preserved : goal.loop-number-preserved
loop-number-preserved c =
    let there = subst (λ (ps : List Proc). slice_get ps c.loop-number.number ≡ Some c.index-procs-number.result) c.as_slice-procs.ensures
    (slice_get_read c.as_slice-procs.result.now (length c.as_slice-procs.result.now) c.loop-number.number c.index-procs-number.result refl c.loop-number-test.true c.index-procs-number.is) in
    record {
      long = ap length c.in_ok-push.ensures.ok ∙ length_push _ _ ∙ ap (λ (n : ℕ). n + 1) c.loop-number.invariant.long;
      are = one_proc c.args.said.now.program.now c.args.said.now.outline.now c.loop-number.number c.index-procs-number.result _ _ _ there c.in_ok-push.ensures.ok c.in_ok-sums.ensures c.loop-number.invariant.long c.loop-number.invariant.are;
    }

pub returns : goal.returns
returns c =
    let long = ap length c.as_slice-procs.ensures in
    all_of c.args.said.now.program.now c.args.said.now.outline.now c.loop-number.number _ _ (omega (arith, long, c.loop-number-test.false)) c.loop-number.invariant.are
