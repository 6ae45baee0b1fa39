use Rattle.std.proofs.Common.{length, ◌∙◌, sym, arith}
use Rattle.std.proofs.lemmas.Bool.{eqb-true}
use Rattle.civl_blast.proofs.Renaming.{no_cell, has_some, place_of_none, place_before, place_behind, place_at_cell}
use Rattle.civl_blast.proofs.flattened.place_of_cell.Goals as goal

pub returns-then-is_empty : goal.returns-then-is_empty
returns-then-is_empty c = sym (place_of_none c.args.cells.now c.args.place (eqb-true (length c.args.cells.now) 0 (sym c.is_empty.ensures ∙ c.if-is_empty.true)))

pub returns-then-place-first : goal.returns-then-place-first
returns-then-place-first c = sym (place_before c.args.cells.now c.args.place no_cell c.requires.counts (has_some (length c.args.cells.now) (sym c.is_empty.ensures ∙ c.if-is_empty.false)) c.if-place-first.true)

pub returns-then-at-cells : goal.returns-then-at-cells
returns-then-at-cells c = sym (place_behind c.args.cells.now c.args.place no_cell _ c.requires.counts (has_some (length c.args.cells.now) (sym c.is_empty.ensures ∙ c.if-is_empty.false)) (omega (arith, c.if-place-first.false)) c.if-at-cells.true)

pub returns : goal.returns
returns c = place_at_cell c.args.cells.now c.args.place no_cell _ c.requires.counts (omega (arith, c.if-place-first.false)) (omega (arith, c.if-at-cells.false))
