use Rattle.std.proofs.Common.{ℕ, ◌≡◌, ◌+◌, ◌*◌, ◌≤◌, take, drop, length, Option}
use Rattle.civl_tree.specs.Numbering.{size_of, sizes_of}
use Rattle.civl_meaning.specs.Places.{Spot, first_in, spot_among}
use Rattle.civl_history.specs.inner.Spots.{IsFound, Filled}
use Rattle.civl_history.proofs.spots.+fill.Given as goal

abbrev pub invariant-fill-loop-left : goal.invariant-fill-loop-left
invariant-fill-loop-left l = record {
  left : l.left ≤ length l.items;
  behind : l.behind ≡ l.fn.at + sizes_of (take l.left l.items);
  long : length l.entries ≡ length l.fn.entries;
  after : (next : ℕ) (last : Option Spot) → IsFound l.fn.after last → IsFound l.after (first_in (drop l.left l.items) l.behind next last);
  filled : (next : ℕ) (last : Option Spot) → IsFound l.fn.after last → Filled l.fn.entries l.entries l.behind (l.fn.at + sizes_of l.items) (spot_among (drop l.left l.items) l.behind next last);
}

abbrev pub decreases-fill-loop-left : goal.decreases-fill-loop-left
decreases-fill-loop-left l = l.left

abbrev pub decreases-fill : goal.decreases-fill
decreases-fill l = 2 * sizes_of l.stmts.now + 1

abbrev pub decreases-fill_inside : goal.decreases-fill_inside
decreases-fill_inside l = 2 * size_of l.stmt.now
