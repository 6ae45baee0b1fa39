use Rattle.std.proofs.Common.{◌∙◌, ◌+◌, ℕ, refl, ap, length}
use Rattle.std.proofs.lemmas.Option.{slice_get_read}
use Rattle.std.proofs.lemmas.List.{length_push}
use Rattle.civl_outlined.proofs.Stating.{none_there, one_there, all_there, stands_there}
use Rattle.civl_outlined.proofs.roots.statement_list.Goals as goal

pub loop-number-init : goal.loop-number-init
loop-number-init c = record {
  long = ap length c.new-all.ensures;
  are = none_there c.args.said.now.program.now c.args.said.now.outline.now c.args.place c.args.proc.now _ _ refl;
}

pub statement_sums-sums-requires-clause-there : goal.statement_sums-sums-requires-clause-there
statement_sums-sums-requires-clause-there c =
    stands_there c.args.proc.now.body c.args.places.now c.loop-number.number c.index-places-number.result c.requires.places c.requires.plain
    (slice_get_read c.args.places.now (length c.args.places.now) c.loop-number.number c.index-places-number.result refl c.loop-number-test.true c.index-places-number.is)

pub statement_sums-sums-requires-clause-items : goal.statement_sums-sums-requires-clause-items
statement_sums-sums-requires-clause-items c = c.count_at-items.ensures ∙ c.requires.counts c.loop-number.number

pub loop-number-preserved : goal.loop-number-preserved
loop-number-preserved c =
    let at = slice_get_read c.args.places.now (length c.args.places.now) c.loop-number.number c.index-places-number.result refl c.loop-number-test.true c.index-places-number.is in
    record {
      long = ap length c.in_ok-push.ensures.ok ∙ length_push _ _ ∙ ap (λ (n : ℕ). n + 1) c.loop-number.invariant.long;
      are = one_there c.args.said.now.program.now c.args.said.now.outline.now c.args.place c.args.proc.now c.args.places.now c.loop-number.number c.index-places-number.result _ _ c.statement_sums-sums.result c.requires.places at
          (stands_there c.args.proc.now.body c.args.places.now c.loop-number.number c.index-places-number.result c.requires.places c.requires.plain at) c.in_ok-push.ensures.ok c.statement_sums-sums.ensures c.loop-number.invariant.long c.loop-number.invariant.are;
    }

pub returns : goal.returns
returns c = all_there c.args.said.now.program.now c.args.said.now.outline.now c.args.place c.args.proc.now c.args.places.now c.loop-number.number _ c.requires.places c.loop-number-test.false c.loop-number.invariant.are
