use Rattle.std.proofs.Common.{refl, sym, ap, ◌∙◌}
use Rattle.civl_blast.specs.reach.Reaching.{is_plain}
use Rattle.civl_blast.proofs.rows.Made.{sort_stays}
use Rattle.civl_blast.proofs.rows.Choices.{chosen_by}
use Rattle.civl_blast.proofs.rows.read.choose.Goals as goal

pub halve-requires-clause-test : goal.halve-requires-clause-test
halve-requires-clause-test c = c.in_ok-test.ensures.made.sorted

pub halve-requires-clause-plain : goal.halve-requires-clause-plain
halve-requires-clause-plain c = ap is_plain (sort_stays _ _ c.bit_of.ensures.grows refl c.requires.plain) ∙ c.requires.plain

pub halve-requires-clause-sorted : goal.halve-requires-clause-sorted
halve-requires-clause-sorted c =
    let g = c.bit_of.ensures.grows in
    λ i h. sort_stays _ _ g (c.requires.sorted i h) c.requires.plain ∙ sym (sort_stays _ _ g refl c.requires.plain)

pub returns-clause-made : goal.returns-clause-made
returns-clause-made c =
    chosen_by c.args.at c.args.bit _ c.args.cells.now _ c.requires.plain c.requires.sorted c.requires.some c.in_ok-test.ensures.made c.in_ok-ids.ensures.made
