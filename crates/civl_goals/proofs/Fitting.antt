-- An expression says something of a place just where its fitting sort is a bool.
use Rattle.std.proofs.Common.{◌≡◌, ℕ, Bool, true, false, None, Some, refl, sym, ap, subst, ◌∙◌}
use Rattle.std.specs.Prelude.{◌&&◌, ◌||◌, not, Option, is_some, if◌then◌else◌}
use Rattle.civl_tree.specs.declared.expr.Sort.{Sort}
use Rattle.civl_tree.specs.declared.expr.Sort.TheVariants.{Bool as Truth, Word, Row}
use Rattle.civl_tree.specs.declared.expr.One.{One}
use Rattle.civl_tree.specs.declared.expr.One.TheVariants.{Not, Flip, Minus}
use Rattle.civl_tree.specs.declared.expr.Two.{Two}
use Rattle.civl_tree.specs.declared.expr.Two.TheVariants.{Add, Sub, Mul, BitAnd, BitOr, BitXor, Shl, Shr, Lt, Le, Eq, Ne, And, Or, Implies, Udiv, Urem, Slt, Sle, Sar}
use Rattle.civl_tree.specs.declared.expr.Expr.{Expr, roll-Expr, out-roll-Expr, map-Expr}
use Rattle.civl_tree.specs.declared.expr.Expr.TheOpen as expr
use Rattle.civl_tree.specs.declared.expr.Expr.TheFolds.{fold-roll-Expr, ind-Expr}
use Rattle.civl_tree.specs.rules.Scopes.{Scope, sort_in}
use Rattle.civl_tree.specs.rules.Sorts.{is_truth, is_word, common_sort, truths_sort, one_sort, two_sort, pick_sort, get_sort, set_sort, fill_sort, slice_sort, widen_sort, join_sort, sort_of, sort_step}
use Rattle.civl_tree.specs.rules.Exprs.{names_known, known_step, widths_fit, indices_fit, index_step, literal_fits, slice_in_range, widen_in_range, join_in_range, is_index}
use Rattle.civl_types.proofs.Widths.{width_layer, widths_is}
use Rattle.civl_yields.specs.Places.{stray, stray_step, no_leave}
use Rattle.civl_goals.specs.Rules.{says_of}
use Rattle.civl_goals.specs.inner.Sayings.{fitting_sort, fitting_step}

-- ---- tests

swap : (a b c d : Bool) → ((a && b) && (c && d)) ≡ ((a && c) && (b && d))
swap false b c d = refl
swap true true c d = refl
swap true false true d = refl
swap true false false d = refl

neither : (a b : Bool) → not (a || b) ≡ (not a && not b)
neither true b = refl
neither false b = refl

-- what stands before a part is known, fits, is in range and isn't stray
abbrev fine : Bool → Bool → Bool → Bool → Bool
fine known fits index strays = known && (fits && (index && not strays))

two_fine : (k1 k2 w1 w2 i1 i2 s1 s2 : Bool) → fine (k1 && k2) (w1 && w2) (i1 && i2) (s1 || s2) ≡ (fine k1 w1 i1 s1 && fine k2 w2 i2 s2)
two_fine k1 k2 w1 w2 i1 i2 s1 s2 =
    ap (λ (n : Bool). (k1 && k2) && ((w1 && w2) && ((i1 && i2) && n))) (neither s1 s2)
    ∙ ap (λ (n : Bool). (k1 && k2) && ((w1 && w2) && n)) (swap i1 i2 (not s1) (not s2))
    ∙ ap (λ (n : Bool). (k1 && k2) && n) (swap w1 w2 (i1 && not s1) (i2 && not s2))
    ∙ swap k1 k2 (w1 && (i1 && not s1)) (w2 && (i2 && not s2))

-- with a test more on widths, or on indices
more_width : (k w i s m : Bool) → fine k (w && m) i s ≡ (fine k w i s && m)
more_width false w i s m = refl
more_width true false i s m = refl
more_width true true false s true = refl
more_width true true false s false = refl
more_width true true true true true = refl
more_width true true true true false = refl
more_width true true true false true = refl
more_width true true true false false = refl

more_index : (k w i s m : Bool) → fine k w (m && i) s ≡ (m && fine k w i s)
more_index false w i s true = refl
more_index false w i s false = refl
more_index true false i s true = refl
more_index true false i s false = refl
more_index true true i s true = refl
more_index true true i s false = refl

-- ---- a sort, where the test is true

abbrev where_so : Bool → Option Sort → Option Sort
where_so b x = if b then x else None

one_where : (f : Option Sort → Option Sort) → f None ≡ None → (b : Bool) (x : Option Sort) → f (where_so b x) ≡ where_so b (f x)
one_where f n true x = refl
one_where f n false x = n

two_where : (f : Option Sort → Option Sort → Option Sort) → ((y : Option Sort) → f None y ≡ None) → ((x : Option Sort) → f x None ≡ None)
    → (a b : Bool) (x y : Option Sort) → f (where_so a x) (where_so b y) ≡ where_so (a && b) (f x y)
two_where f n m true true x y = refl
two_where f n m true false x y = m x
two_where f n m false b x y = n (where_so b y)

three_where : (f : Option Sort → Option Sort → Option Sort → Option Sort) → ((y z : Option Sort) → f None y z ≡ None) → ((x z : Option Sort) → f x None z ≡ None) → ((x y : Option Sort) → f x y None ≡ None)
    → (a b c : Bool) (x y z : Option Sort) → f (where_so a x) (where_so b y) (where_so c z) ≡ where_so (a && (b && c)) (f x y z)
three_where f n m l true true true x y z = refl
three_where f n m l true true false x y z = l x y
three_where f n m l true false c x y z = m x (where_so c z)
three_where f n m l false b c x y z = n (where_so b y) (where_so c z)

-- with a test more, without which the answer is none
also_where : (f : Option Sort → Option Sort) → f None ≡ None → (b r : Bool) (x : Option Sort) → (r ≡ false → f x ≡ None) → f (where_so b x) ≡ where_so (b && r) (f x)
also_where f n true true x h = refl
also_where f n true false x h = h refl
also_where f n false r x h = n

also_two : (f : Option Sort → Option Sort → Option Sort) → ((y : Option Sort) → f None y ≡ None) → ((x : Option Sort) → f x None ≡ None)
    → (a b r : Bool) (x y : Option Sort) → (r ≡ false → f x y ≡ None) → f (where_so a x) (where_so b y) ≡ where_so (a && (b && r)) (f x y)
also_two f n m true true true x y h = refl
also_two f n m true true false x y h = h refl
also_two f n m true false r x y h = m x
also_two f n m false b r x y h = n (where_so b y)

-- the same, where the parts are told by equations
two_are : (f : Option Sort → Option Sort → Option Sort) → ((y : Option Sort) → f None y ≡ None) → ((x : Option Sort) → f x None ≡ None)
    → (a b : Bool) (x y u v : Option Sort) → u ≡ where_so a x → v ≡ where_so b y → f u v ≡ where_so (a && b) (f x y)
two_are f n m a b x y u v e g = rw (e, g) (two_where f n m a b x y)

three_are : (f : Option Sort → Option Sort → Option Sort → Option Sort) → ((y z : Option Sort) → f None y z ≡ None) → ((x z : Option Sort) → f x None z ≡ None) → ((x y : Option Sort) → f x y None ≡ None)
    → (a b c : Bool) (x y z u v w : Option Sort) → u ≡ where_so a x → v ≡ where_so b y → w ≡ where_so c z → f u v w ≡ where_so (a && (b && c)) (f x y z)
three_are f n m l a b c x y z u v w e g h = rw (e, g, h) (three_where f n m l a b c x y z)

also_are : (f : Option Sort → Option Sort → Option Sort) → ((y : Option Sort) → f None y ≡ None) → ((x : Option Sort) → f x None ≡ None)
    → (a b r : Bool) (x y u v : Option Sort) → (r ≡ false → f x y ≡ None) → u ≡ where_so a x → v ≡ where_so b y → f u v ≡ where_so (a && (b && r)) (f x y)
also_are f n m a b r x y u v h e g = rw (e, g) (also_two f n m a b r x y h)

-- ---- operations on no sort

none_one : (op : One) → one_sort op None ≡ None
none_one Not = refl
none_one Flip = refl
none_one Minus = refl

common_none : (x : Option Sort) → common_sort x None ≡ None
common_none None = refl
common_none (Some s) = refl

truths_none : (x : Option Sort) → truths_sort x None ≡ None
truths_none None = refl
truths_none (Some Truth) = refl
truths_none (Some (Word w)) = refl
truths_none (Some (Row i w)) = refl

none_two : (op : Two) (y : Option Sort) → two_sort op None y ≡ None
none_two Add y = refl
none_two Sub y = refl
none_two Mul y = refl
none_two BitAnd y = refl
none_two BitOr y = refl
none_two BitXor y = refl
none_two Shl y = refl
none_two Shr y = refl
none_two Lt y = refl
none_two Le y = refl
none_two Eq y = refl
none_two Ne y = refl
none_two And y = refl
none_two Or y = refl
none_two Implies y = refl
none_two Udiv y = refl
none_two Urem y = refl
none_two Slt y = refl
none_two Sle y = refl
none_two Sar y = refl

two_none : (op : Two) (x : Option Sort) → two_sort op x None ≡ None
two_none Add x = rw (common_none x) refl
two_none Sub x = rw (common_none x) refl
two_none Mul x = rw (common_none x) refl
two_none BitAnd x = rw (common_none x) refl
two_none BitOr x = rw (common_none x) refl
two_none BitXor x = rw (common_none x) refl
two_none Shl x = rw (common_none x) refl
two_none Shr x = rw (common_none x) refl
two_none Lt x = rw (common_none x) refl
two_none Le x = rw (common_none x) refl
two_none Eq x = rw (common_none x) refl
two_none Ne x = rw (common_none x) refl
two_none And x = truths_none x
two_none Or x = truths_none x
two_none Implies x = truths_none x
two_none Udiv x = rw (common_none x) refl
two_none Urem x = rw (common_none x) refl
two_none Slt x = rw (common_none x) refl
two_none Sle x = rw (common_none x) refl
two_none Sar x = rw (common_none x) refl

pick_first : (t y : Option Sort) → pick_sort t None y ≡ None
pick_first None y = refl
pick_first (Some Truth) y = refl
pick_first (Some (Word w)) y = refl
pick_first (Some (Row i w)) y = refl

pick_second : (t x : Option Sort) → pick_sort t x None ≡ None
pick_second None x = refl
pick_second (Some Truth) x = common_none x
pick_second (Some (Word w)) x = refl
pick_second (Some (Row i w)) x = refl

get_none : (x : Option Sort) → get_sort x None ≡ None
get_none None = refl
get_none (Some Truth) = refl
get_none (Some (Word w)) = refl
get_none (Some (Row i w)) = refl

set_at_none : (x z : Option Sort) → set_sort x None z ≡ None
set_at_none None z = refl
set_at_none (Some Truth) z = refl
set_at_none (Some (Word w)) z = refl
set_at_none (Some (Row i w)) z = refl

none_and : (b : Bool) (s : Sort) → (if (b && false) then Some s else None) ≡ None
none_and true s = refl
none_and false s = refl

set_cell_none : (x y : Option Sort) → set_sort x y None ≡ None
set_cell_none None y = refl
set_cell_none (Some Truth) y = refl
set_cell_none (Some (Word w)) y = refl
set_cell_none (Some (Row i w)) y = none_and (is_word i y) (Row i w)

join_none : (x : Option Sort) → join_sort x None ≡ None
join_none None = refl
join_none (Some Truth) = refl
join_none (Some (Word w)) = refl
join_none (Some (Row i w)) = refl

-- out of range there is no sort
slice_off : (x : Option Sort) (high low : ℕ) → slice_in_range x high low ≡ false → slice_sort x high low ≡ None
slice_off None high low h = refl
slice_off (Some Truth) high low h = refl
slice_off (Some (Word w)) high low h = rw h refl
slice_off (Some (Row i w)) high low h = refl

widen_off : (x : Option Sort) (wider : ℕ) → widen_in_range x wider ≡ false → widen_sort x wider ≡ None
widen_off None wider h = refl
widen_off (Some Truth) wider h = refl
widen_off (Some (Word w)) wider h = rw h refl
widen_off (Some (Row i w)) wider h = refl

join_off : (x y : Option Sort) → join_in_range x y ≡ false → join_sort x y ≡ None
join_off None y h = refl
join_off (Some Truth) y h = refl
join_off (Some (Word w)) None h = refl
join_off (Some (Word w)) (Some Truth) h = refl
join_off (Some (Word w)) (Some (Word v)) h = rw h refl
join_off (Some (Word w)) (Some (Row i v)) h = refl
join_off (Some (Row i w)) y h = refl

-- ---- expressions

abbrev is_fine : Scope → Expr → Bool
is_fine scope e = fine (names_known scope e) (widths_fit scope e) (indices_fit e) (stray no_leave e)

abbrev Fits : Scope → Expr → Type 0
Fits scope e = fitting_sort scope e ≡ where_so (is_fine scope e) (sort_of scope e)

-- the same of one layer, over the parts themselves
abbrev layer_fine : Scope → expr.Expr-F Expr → Bool
layer_fine scope layer =
    fine (known_step scope (map-Expr Expr Bool (names_known scope) layer)) (width_layer scope layer) (index_step (map-Expr Expr Bool indices_fit layer)) (stray_step no_leave (map-Expr Expr Bool (stray no_leave) layer))

abbrev layer_sort : Scope → expr.Expr-F Expr → Option Sort
layer_sort scope layer = sort_step scope (map-Expr Expr (Option Sort) (sort_of scope) layer)

abbrev LayerFits : Scope → expr.Expr-F Expr → Type 0
LayerFits scope layer = fitting_step scope (map-Expr Expr (Option Sort) (fitting_sort scope) layer) ≡ where_so (layer_fine scope layer) (layer_sort scope layer)

name_fits : (s : Option Sort) → s ≡ where_so (fine (is_some s) true true false) s
name_fits None = refl
name_fits (Some s) = refl

literal_sort : (b : Bool) (s : Sort) → where_so b (Some s) ≡ where_so (fine true b true false) (Some s)
literal_sort true s = refl
literal_sort false s = refl

index_where : (m b : Bool) (x : Option Sort) → where_so m (where_so b x) ≡ where_so (m && b) x
index_where true b x = refl
index_where false b x = refl

old_none : (b : Bool) (x : Option Sort) → None ≡ where_so (fine b true true true) x
old_none true x = refl
old_none false x = refl

module _ (scope : Scope) where
  fine_two : (a b : Expr) → fine (names_known scope a && names_known scope b) (widths_fit scope a && widths_fit scope b) (indices_fit a && indices_fit b) (stray no_leave a || stray no_leave b) ≡ (is_fine scope a && is_fine scope b)
  fine_two a b = two_fine (names_known scope a) (names_known scope b) (widths_fit scope a) (widths_fit scope b) (indices_fit a) (indices_fit b) (stray no_leave a) (stray no_leave b)

  fine_three : (a b c : Expr)
      → fine (names_known scope a && (names_known scope b && names_known scope c)) (widths_fit scope a && (widths_fit scope b && widths_fit scope c)) (indices_fit a && (indices_fit b && indices_fit c)) (stray no_leave a || (stray no_leave b || stray no_leave c))
      ≡ (is_fine scope a && (is_fine scope b && is_fine scope c))
  fine_three a b c =
      two_fine (names_known scope a) (names_known scope b && names_known scope c) (widths_fit scope a) (widths_fit scope b && widths_fit scope c) (indices_fit a) (indices_fit b && indices_fit c) (stray no_leave a) (stray no_leave b || stray no_leave c)
      ∙ ap (λ (t : Bool). is_fine scope a && t) (fine_two b c)

  fine_ranged : (a : Expr) (r : Bool) → fine (names_known scope a) (widths_fit scope a && r) (indices_fit a) (stray no_leave a) ≡ (is_fine scope a && r)
  fine_ranged a r = more_width (names_known scope a) (widths_fit scope a) (indices_fit a) (stray no_leave a) r

  fine_join : (a b : Expr) (r : Bool) → fine (names_known scope a && names_known scope b) (widths_fit scope a && (widths_fit scope b && r)) (indices_fit a && indices_fit b) (stray no_leave a || stray no_leave b) ≡ (is_fine scope a && (is_fine scope b && r))
  fine_join a b r =
      two_fine (names_known scope a) (names_known scope b) (widths_fit scope a) (widths_fit scope b && r) (indices_fit a) (indices_fit b) (stray no_leave a) (stray no_leave b)
      ∙ ap (λ (t : Bool). is_fine scope a && t) (fine_ranged b r)

  layer_fits : {S : Type 0} (layer : expr.Expr-F S) (v : S → Expr) → ((s : S) → Fits scope (v s)) → LayerFits scope (map-Expr S Expr v layer)
  layer_fits (expr.Name name) v h = name_fits (sort_in scope.names name)
  layer_fits (expr.Literal value width) v h = literal_sort (literal_fits value width) (Word width)
  layer_fits expr.True v h = refl
  layer_fits expr.False v h = refl
  layer_fits expr.Done v h = refl
  layer_fits (expr.Old name) v h = old_none (is_some (sort_in scope.olds name)) (sort_in scope.olds name)
  layer_fits expr.OldDone v h = refl
  layer_fits (expr.One op a) v h = ap (one_sort op) (h a) ∙ one_where (one_sort op) (none_one op) (is_fine scope (v a)) (sort_of scope (v a))
  layer_fits (expr.Two op a b) v h =
      two_are (two_sort op) (none_two op) (two_none op) (is_fine scope (v a)) (is_fine scope (v b)) (sort_of scope (v a)) (sort_of scope (v b)) (fitting_sort scope (v a)) (fitting_sort scope (v b)) (h a) (h b)
      ∙ ap (λ (t : Bool). where_so t (two_sort op (sort_of scope (v a)) (sort_of scope (v b)))) (sym (fine_two (v a) (v b)))
  layer_fits (expr.Pick a b c) v h =
      three_are pick_sort (λ y z. refl) pick_first pick_second (is_fine scope (v a)) (is_fine scope (v b)) (is_fine scope (v c)) (sort_of scope (v a)) (sort_of scope (v b)) (sort_of scope (v c)) (fitting_sort scope (v a)) (fitting_sort scope (v b)) (fitting_sort scope (v c)) (h a) (h b) (h c)
      ∙ ap (λ (t : Bool). where_so t (pick_sort (sort_of scope (v a)) (sort_of scope (v b)) (sort_of scope (v c)))) (sym (fine_three (v a) (v b) (v c)))
  layer_fits (expr.Get a b) v h =
      two_are get_sort (λ y. refl) get_none (is_fine scope (v a)) (is_fine scope (v b)) (sort_of scope (v a)) (sort_of scope (v b)) (fitting_sort scope (v a)) (fitting_sort scope (v b)) (h a) (h b)
      ∙ ap (λ (t : Bool). where_so t (get_sort (sort_of scope (v a)) (sort_of scope (v b)))) (sym (fine_two (v a) (v b)))
  layer_fits (expr.Set a b c) v h =
      three_are set_sort (λ y z. refl) set_at_none set_cell_none (is_fine scope (v a)) (is_fine scope (v b)) (is_fine scope (v c)) (sort_of scope (v a)) (sort_of scope (v b)) (sort_of scope (v c)) (fitting_sort scope (v a)) (fitting_sort scope (v b)) (fitting_sort scope (v c)) (h a) (h b) (h c)
      ∙ ap (λ (t : Bool). where_so t (set_sort (sort_of scope (v a)) (sort_of scope (v b)) (sort_of scope (v c)))) (sym (fine_three (v a) (v b) (v c)))
  layer_fits (expr.Fill index a) v h =
      ap (λ (x : Option Sort). where_so (is_index index) (fill_sort index x)) (h a)
      ∙ ap (where_so (is_index index)) (one_where (fill_sort index) refl (is_fine scope (v a)) (sort_of scope (v a)))
      ∙ index_where (is_index index) (is_fine scope (v a)) (fill_sort index (sort_of scope (v a)))
      ∙ ap (λ (t : Bool). where_so t (fill_sort index (sort_of scope (v a)))) (sym (more_index (names_known scope (v a)) (widths_fit scope (v a)) (indices_fit (v a)) (stray no_leave (v a)) (is_index index)))
  layer_fits (expr.Slice a high low) v h =
      ap (λ (x : Option Sort). slice_sort x high low) (h a)
      ∙ also_where (λ x. slice_sort x high low) refl (is_fine scope (v a)) (slice_in_range (sort_of scope (v a)) high low) (sort_of scope (v a)) (slice_off (sort_of scope (v a)) high low)
      ∙ ap (λ (t : Bool). where_so t (slice_sort (sort_of scope (v a)) high low)) (sym (fine_ranged (v a) (slice_in_range (sort_of scope (v a)) high low)))
  layer_fits (expr.Widen a wider) v h =
      ap (λ (x : Option Sort). widen_sort x wider) (h a)
      ∙ also_where (λ x. widen_sort x wider) refl (is_fine scope (v a)) (widen_in_range (sort_of scope (v a)) wider) (sort_of scope (v a)) (widen_off (sort_of scope (v a)) wider)
      ∙ ap (λ (t : Bool). where_so t (widen_sort (sort_of scope (v a)) wider)) (sym (fine_ranged (v a) (widen_in_range (sort_of scope (v a)) wider)))
  layer_fits (expr.Join a b) v h =
      also_are join_sort (λ y. refl) join_none (is_fine scope (v a)) (is_fine scope (v b)) (join_in_range (sort_of scope (v a)) (sort_of scope (v b))) (sort_of scope (v a)) (sort_of scope (v b)) (fitting_sort scope (v a)) (fitting_sort scope (v b)) (join_off (sort_of scope (v a)) (sort_of scope (v b))) (h a) (h b)
      ∙ ap (λ (t : Bool). where_so t (join_sort (sort_of scope (v a)) (sort_of scope (v b)))) (sym (fine_join (v a) (v b) (join_in_range (sort_of scope (v a)) (sort_of scope (v b)))))

  fits_is : (e : Expr) → Fits scope e
  fits_is e =
      ind-Expr (Fits scope) (λ x y q.
      let here = subst (λ (layer : expr.Expr-F Expr). LayerFits scope layer) q (layer_fits y (λ z. z.0) (λ z. z.1)) in
      let sorted : sort_of scope (roll-Expr x) ≡ layer_sort scope x = fold-roll-Expr (Option Sort) (sort_step scope) x in
      let known : names_known scope (roll-Expr x) ≡ known_step scope (map-Expr Expr Bool (names_known scope) x) = fold-roll-Expr Bool (known_step scope) x in
      let wide : widths_fit scope (roll-Expr x) ≡ width_layer scope x = widths_is scope (roll-Expr x) ∙ ap (width_layer scope) (out-roll-Expr x) in
      let indexed : indices_fit (roll-Expr x) ≡ index_step (map-Expr Expr Bool indices_fit x) = fold-roll-Expr Bool index_step x in
      let strays : stray no_leave (roll-Expr x) ≡ stray_step no_leave (map-Expr Expr Bool (stray no_leave) x) = fold-roll-Expr Bool (stray_step no_leave) x in
      fold-roll-Expr (Option Sort) (fitting_step scope) x ∙ here
      ∙ sym (ap (where_so (is_fine scope (roll-Expr x))) sorted
      ∙ ap (λ (b : Bool). where_so (fine b (widths_fit scope (roll-Expr x)) (indices_fit (roll-Expr x)) (stray no_leave (roll-Expr x))) (layer_sort scope x)) known
      ∙ ap (λ (b : Bool). where_so (fine (known_step scope (map-Expr Expr Bool (names_known scope) x)) b (indices_fit (roll-Expr x)) (stray no_leave (roll-Expr x))) (layer_sort scope x)) wide
      ∙ ap (λ (b : Bool). where_so (fine (known_step scope (map-Expr Expr Bool (names_known scope) x)) (width_layer scope x) b (stray no_leave (roll-Expr x))) (layer_sort scope x)) indexed
      ∙ ap (λ (b : Bool). where_so (fine (known_step scope (map-Expr Expr Bool (names_known scope) x)) (width_layer scope x) (index_step (map-Expr Expr Bool indices_fit x)) b) (layer_sort scope x)) strays)) e

-- ---- that it says something

truth_where : (k w i s : Bool) (x : Option Sort) → is_truth (where_so (fine k w i s) x) ≡ (k && (w && (is_truth x && (i && not s))))
truth_where false w i s x = refl
truth_where true false i s x = refl
truth_where true true i s None = none_fine (fine true true i s)
  where
    none_fine : (b : Bool) → is_truth (where_so b None) ≡ false
    none_fine true = refl
    none_fine false = refl
truth_where true true i s (Some Truth) = truth_fine (i && not s)
  where
    truth_fine : (b : Bool) → is_truth (where_so b (Some Truth)) ≡ b
    truth_fine true = refl
    truth_fine false = refl
truth_where true true i s (Some (Word w)) = word_fine (fine true true i s)
  where
    word_fine : (b : Bool) → is_truth (where_so b (Some (Word w))) ≡ false
    word_fine true = refl
    word_fine false = refl
truth_where true true i s (Some (Row n w)) = row_fine (fine true true i s)
  where
    row_fine : (b : Bool) → is_truth (where_so b (Some (Row n w))) ≡ false
    row_fine true = refl
    row_fine false = refl

pub says_is : (scope : Scope) (e : Expr) → is_truth (fitting_sort scope e) ≡ says_of scope e
says_is scope e = ap is_truth (fits_is scope e) ∙ truth_where (names_known scope e) (widths_fit scope e) (indices_fit e) (stray no_leave e) (sort_of scope e)
