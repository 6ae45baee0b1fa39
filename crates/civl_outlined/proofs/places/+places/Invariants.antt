use Rattle.std.proofs.Common.{◌≡◌, ◌+◌, ◌*◌, ◌++◌, map, take}
use Rattle.civl_tree.specs.Numbering.{size_of, sizes_of, statements_of}
use Rattle.civl_meaning.specs.Places.{spot_among}
use Rattle.civl_outlined.specs.inner.Places.{Own}
use Rattle.civl_outlined.proofs.places.+places.Given as goal

abbrev pub invariant-add_all-loop-index : goal.invariant-add_all-loop-index
invariant-add_all-loop-index l = record {
  here : l.here ≡ l.fn.at + sizes_of (take l.index l.items);
  statements : map (λ p. p.stmt.now) l.places.items ≡ map (λ p. p.stmt.now) l.fn.places.items ++ statements_of (take l.index l.items);
  own : Own l.fn.places.items l.places.items l.fn.at l.here (spot_among l.items l.fn.at l.fn.next);
}

abbrev pub decreases-add_all : goal.decreases-add_all
decreases-add_all l = 2 * sizes_of l.stmts.now + 1

abbrev pub decreases-add_inner : goal.decreases-add_inner
decreases-add_inner l = 2 * size_of l.stmt.now
