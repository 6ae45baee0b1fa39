-- That foldings keep values.
use Rattle.std.specs.Prelude.{◌≡◌, ℕ, Bool, Option, Some}
use Rattle.civl_bits.specs.declared.value.Value.{Value}
use Rattle.civl_tree.specs.declared.expr.Sort.{Sort}
use Rattle.civl_tree.specs.declared.expr.One.{One}
use Rattle.civl_tree.specs.declared.expr.Two.{Two}
use Rattle.civl_tree.specs.rules.Sorts.{two_sort, pick_sort, get_sort, set_sort}
use Rattle.civl_firing.specs.values.Operators.{one_value, two_value, pick_value, get_value, set_value, fill_value, slice_value, widen_value, join_value}
use Rattle.civl_firing.specs.values.Values.{HasSort}
use Rattle.civl_terms.specs.foldings.Folding.{folded_one, folded_two, folded_pick, folded_get, folded_set, folded_fill, folded_slice, folded_widen, folded_join, IsFolded, IsKnown, AreSame}

-- operands of the sorts that the operation needs, of which some are known to be constants, and some to be one: the folding is
-- the operation's value. What an operation has no operand for may be any value.
abbrev pub TwosKeepValues : Type 0
TwosKeepValues =
    (op : Two) (s t r : Sort) (x y z : Value) (a b : Option Value) (same : Bool)
    → two_sort op (Some s) (Some t) ≡ Some r → HasSort x s → HasSort y t → IsKnown a x → IsKnown b y → AreSame same x y
    → IsFolded (folded_two op (Some s) a b same) (two_value op x y) x y z

abbrev pub OnesKeepValues : Type 0
OnesKeepValues = (op : One) (x y z : Value) (a : Option Value) → IsKnown a x → IsFolded (folded_one op a) (one_value op x) x y z

abbrev pub PicksKeepValues : Type 0
PicksKeepValues =
    (s t u r : Sort) (z x y : Value) (c a b : Option Value) (a_test b_test same : Bool)
    → pick_sort (Some s) (Some t) (Some u) ≡ Some r → HasSort z s → HasSort x t → HasSort y u
    → IsKnown c z → IsKnown a x → IsKnown b y → AreSame a_test x z → AreSame b_test y z → AreSame same x y
    → IsFolded (folded_pick c a b a_test b_test same) (pick_value z x y) z x y

abbrev pub GetsKeepValues : Type 0
GetsKeepValues =
    (s t r : Sort) (x y z : Value) (row at : Option Value)
    → get_sort (Some s) (Some t) ≡ Some r → HasSort x s → HasSort y t → IsKnown row x → IsKnown at y
    → IsFolded (folded_get row at) (get_value x y) x y z

abbrev pub SetsKeepValues : Type 0
SetsKeepValues =
    (s t u r : Sort) (x y z : Value) (row at cell : Option Value) (same : Bool)
    → set_sort (Some s) (Some t) (Some u) ≡ Some r → HasSort x s → HasSort y t → HasSort z u
    → IsKnown row x → IsKnown at y → IsKnown cell z → AreSame same y z
    → IsFolded (folded_set row at cell same) (set_value x y z) x y z

-- the operations that are folded only on constants
pub record OthersKeepValues : Type 0 where
  pub fill : (index : ℕ) (x y z : Value) (a : Option Value) → IsKnown a x → IsFolded (folded_fill index a) (fill_value index x) x y z
  pub slice : (high low : ℕ) (x y z : Value) (a : Option Value) → IsKnown a x → IsFolded (folded_slice a high low) (slice_value x high low) x y z
  pub widen : (width : ℕ) (x y z : Value) (a : Option Value) → IsKnown a x → IsFolded (folded_widen a width) (widen_value x width) x y z
  pub join : (x y z : Value) (a b : Option Value) → IsKnown a x → IsKnown b y → IsFolded (folded_join a b) (join_value x y) x y z
