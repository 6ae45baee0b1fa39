-- The size of an expression, by which the recursion over it ends.
use Rattle.std.proofs.Common.{◌≡◌, ◌∙◌, ℕ, ◌+◌, ◌<◌, ap, arith}
use Rattle.civl_tree.specs.declared.expr.One.{One}
use Rattle.civl_tree.specs.declared.expr.Two.{Two}
use Rattle.civl_tree.specs.declared.expr.Expr.{Expr}
use Rattle.civl_tree.specs.declared.expr.Expr as tree
use Rattle.civl_tree.specs.declared.expr.Expr.TheFolds.{fold-Expr, fold-roll-Expr}
use Rattle.civl_tree.specs.declared.expr.Expr.TheOpen as expr
use Rattle.civl_actions.proofs.Arms.{rolled_One, rolled_Two, rolled_Pick, rolled_Get, rolled_Set, rolled_Fill, rolled_Slice, rolled_Widen, rolled_Join}

abbrev pub size_step : expr.Expr-F ℕ → ℕ
size_step (expr.One op a) = a + 1
size_step (expr.Two op a b) = a + b + 1
size_step (expr.Pick c a b) = c + a + b + 1
size_step (expr.Get a b) = a + b + 1
size_step (expr.Set c a b) = c + a + b + 1
size_step (expr.Fill n a) = a + 1
size_step (expr.Slice a high low) = a + 1
size_step (expr.Widen a n) = a + 1
size_step (expr.Join a b) = a + b + 1
size_step _ = 0

abbrev pub expr_size : Expr → ℕ
expr_size = fold-Expr ℕ size_step

pub smaller_One_0 : (e : Expr) (op : One) (a x : Expr) → e ≡ tree.One op a → x ≡ a → expr_size x < expr_size e
smaller_One_0 e op a x is q =
    let r : expr_size e ≡ expr_size a + 1 = ap expr_size (is ∙ rolled_One op a) ∙ fold-roll-Expr ℕ size_step (expr.One op a) in
    omega (arith, r, ap expr_size q)

pub smaller_Two_0 : (e : Expr) (op : Two) (a b x : Expr) → e ≡ tree.Two op a b → x ≡ a → expr_size x < expr_size e
smaller_Two_0 e op a b x is q =
    let r : expr_size e ≡ expr_size a + expr_size b + 1 = ap expr_size (is ∙ rolled_Two op a b) ∙ fold-roll-Expr ℕ size_step (expr.Two op a b) in
    omega (arith, r, ap expr_size q)

pub smaller_Two_1 : (e : Expr) (op : Two) (a b x : Expr) → e ≡ tree.Two op a b → x ≡ b → expr_size x < expr_size e
smaller_Two_1 e op a b x is q =
    let r : expr_size e ≡ expr_size a + expr_size b + 1 = ap expr_size (is ∙ rolled_Two op a b) ∙ fold-roll-Expr ℕ size_step (expr.Two op a b) in
    omega (arith, r, ap expr_size q)

pub smaller_Pick_0 : (e : Expr) (c a b x : Expr) → e ≡ tree.Pick c a b → x ≡ c → expr_size x < expr_size e
smaller_Pick_0 e c a b x is q =
    let r : expr_size e ≡ expr_size c + expr_size a + expr_size b + 1 = ap expr_size (is ∙ rolled_Pick c a b) ∙ fold-roll-Expr ℕ size_step (expr.Pick c a b) in
    omega (arith, r, ap expr_size q)

pub smaller_Pick_1 : (e : Expr) (c a b x : Expr) → e ≡ tree.Pick c a b → x ≡ a → expr_size x < expr_size e
smaller_Pick_1 e c a b x is q =
    let r : expr_size e ≡ expr_size c + expr_size a + expr_size b + 1 = ap expr_size (is ∙ rolled_Pick c a b) ∙ fold-roll-Expr ℕ size_step (expr.Pick c a b) in
    omega (arith, r, ap expr_size q)

pub smaller_Pick_2 : (e : Expr) (c a b x : Expr) → e ≡ tree.Pick c a b → x ≡ b → expr_size x < expr_size e
smaller_Pick_2 e c a b x is q =
    let r : expr_size e ≡ expr_size c + expr_size a + expr_size b + 1 = ap expr_size (is ∙ rolled_Pick c a b) ∙ fold-roll-Expr ℕ size_step (expr.Pick c a b) in
    omega (arith, r, ap expr_size q)

pub smaller_Get_0 : (e : Expr) (a b x : Expr) → e ≡ tree.Get a b → x ≡ a → expr_size x < expr_size e
smaller_Get_0 e a b x is q =
    let r : expr_size e ≡ expr_size a + expr_size b + 1 = ap expr_size (is ∙ rolled_Get a b) ∙ fold-roll-Expr ℕ size_step (expr.Get a b) in
    omega (arith, r, ap expr_size q)

pub smaller_Get_1 : (e : Expr) (a b x : Expr) → e ≡ tree.Get a b → x ≡ b → expr_size x < expr_size e
smaller_Get_1 e a b x is q =
    let r : expr_size e ≡ expr_size a + expr_size b + 1 = ap expr_size (is ∙ rolled_Get a b) ∙ fold-roll-Expr ℕ size_step (expr.Get a b) in
    omega (arith, r, ap expr_size q)

pub smaller_Set_0 : (e : Expr) (c a b x : Expr) → e ≡ tree.Set c a b → x ≡ c → expr_size x < expr_size e
smaller_Set_0 e c a b x is q =
    let r : expr_size e ≡ expr_size c + expr_size a + expr_size b + 1 = ap expr_size (is ∙ rolled_Set c a b) ∙ fold-roll-Expr ℕ size_step (expr.Set c a b) in
    omega (arith, r, ap expr_size q)

pub smaller_Set_1 : (e : Expr) (c a b x : Expr) → e ≡ tree.Set c a b → x ≡ a → expr_size x < expr_size e
smaller_Set_1 e c a b x is q =
    let r : expr_size e ≡ expr_size c + expr_size a + expr_size b + 1 = ap expr_size (is ∙ rolled_Set c a b) ∙ fold-roll-Expr ℕ size_step (expr.Set c a b) in
    omega (arith, r, ap expr_size q)

pub smaller_Set_2 : (e : Expr) (c a b x : Expr) → e ≡ tree.Set c a b → x ≡ b → expr_size x < expr_size e
smaller_Set_2 e c a b x is q =
    let r : expr_size e ≡ expr_size c + expr_size a + expr_size b + 1 = ap expr_size (is ∙ rolled_Set c a b) ∙ fold-roll-Expr ℕ size_step (expr.Set c a b) in
    omega (arith, r, ap expr_size q)

pub smaller_Fill_0 : (e : Expr) (n : ℕ) (a x : Expr) → e ≡ tree.Fill n a → x ≡ a → expr_size x < expr_size e
smaller_Fill_0 e n a x is q =
    let r : expr_size e ≡ expr_size a + 1 = ap expr_size (is ∙ rolled_Fill n a) ∙ fold-roll-Expr ℕ size_step (expr.Fill n a) in
    omega (arith, r, ap expr_size q)

pub smaller_Slice_0 : (e : Expr) (a : Expr) (high low : ℕ) (x : Expr) → e ≡ tree.Slice a high low → x ≡ a → expr_size x < expr_size e
smaller_Slice_0 e a high low x is q =
    let r : expr_size e ≡ expr_size a + 1 = ap expr_size (is ∙ rolled_Slice a high low) ∙ fold-roll-Expr ℕ size_step (expr.Slice a high low) in
    omega (arith, r, ap expr_size q)

pub smaller_Widen_0 : (e : Expr) (a : Expr) (n : ℕ) (x : Expr) → e ≡ tree.Widen a n → x ≡ a → expr_size x < expr_size e
smaller_Widen_0 e a n x is q =
    let r : expr_size e ≡ expr_size a + 1 = ap expr_size (is ∙ rolled_Widen a n) ∙ fold-roll-Expr ℕ size_step (expr.Widen a n) in
    omega (arith, r, ap expr_size q)

pub smaller_Join_0 : (e : Expr) (a b x : Expr) → e ≡ tree.Join a b → x ≡ a → expr_size x < expr_size e
smaller_Join_0 e a b x is q =
    let r : expr_size e ≡ expr_size a + expr_size b + 1 = ap expr_size (is ∙ rolled_Join a b) ∙ fold-roll-Expr ℕ size_step (expr.Join a b) in
    omega (arith, r, ap expr_size q)

pub smaller_Join_1 : (e : Expr) (a b x : Expr) → e ≡ tree.Join a b → x ≡ b → expr_size x < expr_size e
smaller_Join_1 e a b x is q =
    let r : expr_size e ≡ expr_size a + expr_size b + 1 = ap expr_size (is ∙ rolled_Join a b) ∙ fold-roll-Expr ℕ size_step (expr.Join a b) in
    omega (arith, r, ap expr_size q)
