use Rattle.std.proofs.Common.{◌≡◌, ◌+◌, ◌*◌, ◌≤◌, take, drop, length}
use Rattle.civl_tree.specs.Numbering.{size_of, sizes_of}
use Rattle.civl_meaning.specs.Found.{spot, Fits}
use Rattle.civl_meaning.specs.inner.Filled.{Filled}
use Rattle.civl_meaning.specs.Places.{start_of, first_in, spot_among}
use Rattle.civl_meaning.proofs.filling.+fill.Given as goal

abbrev pub invariant-fill-loop-left : goal.invariant-fill-loop-left
invariant-fill-loop-left l = record {
  left : l.left ≤ length l.items;
  behind : l.behind ≡ l.fn.at + sizes_of (take l.left l.items);
  next : l.next ≡ start_of (drop l.left l.items) l.behind l.fn.next;
  after : spot l.after ≡ first_in (drop l.left l.items) l.behind l.fn.next (spot l.fn.after);
  fits : Fits l.after;
  filled : Filled l.fn.entries l.entries l.behind (l.fn.at + sizes_of l.items) (spot_among (drop l.left l.items) l.behind l.fn.next (spot l.fn.after));
}

abbrev pub decreases-fill-loop-left : goal.decreases-fill-loop-left
decreases-fill-loop-left l = l.left

abbrev pub decreases-fill : goal.decreases-fill
decreases-fill l = 2 * sizes_of l.stmts.now + 1

abbrev pub decreases-fill_inside : goal.decreases-fill_inside
decreases-fill_inside l = 2 * size_of l.stmt.now
