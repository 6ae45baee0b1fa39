-- The arms of the recursion over an expression.
use Rattle.std.specs.Prelude.{slice_get, IsSome}
use Rattle.std.proofs.Common.{◌≡◌, ◌∙◌, ℕ, ◌<◌, true, false, List, length, sym, ap, subst, Some}
use Rattle.std.proofs.lemmas.Option.{slice_get_within, same_Some}
use Rattle.civl_bits.specs.declared.value.Value.{Value}
use Rattle.civl_bits.specs.declared.value.Value.TheVariants as value
use Rattle.civl_tree.specs.declared.name.Name.{Name}
use Rattle.civl_tree.specs.declared.expr.One.{One}
use Rattle.civl_tree.specs.declared.expr.Two.{Two}
use Rattle.civl_tree.specs.declared.expr.Sort.TheVariants.{Bool as Truth}
use Rattle.civl_tree.specs.declared.expr.Expr.{Expr, roll-Expr, out-Expr, roll-out-Expr, the_lemmas as of_expr}
use Rattle.civl_tree.specs.declared.expr.Expr as tree
use Rattle.civl_tree.specs.declared.expr.Expr.TheOpen as expr
use Rattle.civl_tree.specs.rules.Sorts.{one_sort, two_sort, pick_sort, get_sort, set_sort, fill_sort, slice_sort, widen_sort, join_sort}
use Rattle.civl_firing.specs.values.Operators.{one_value, two_value, pick_value, get_value, set_value, fill_value, slice_value, widen_value, join_value}
use Rattle.civl_firing.specs.values.Weights.{bits_in, one_weight, two_weight, pick_weight, get_weight, set_weight, move_weight}
use Rattle.civl_firing.specs.Truth.{place_of}
use Rattle.civl_terms.specs.declared.node.Node.{Node}
use Rattle.civl_terms.specs.Graphs.{value_at, sort_at, IsGraph}
use Rattle.civl_terms.specs.Building.{Grows, Built}
use Rattle.civl_terms.proofs.Growing.{grows_trans}
use Rattle.civl_actions.specs.declared.scope.Scope.{Scope}
use Rattle.civl_actions.specs.Scopes.{names_in, HasTyping, Means}
use Rattle.civl_actions.proofs.Typing.{typed_one, typed_two, typed_pick, typed_get, typed_set, typed_fill, typed_slice, typed_widen, typed_join}
use Rattle.civl_tree.specs.rules.Exprs.{is_index}
use Rattle.civl_firing.specs.values.Values.{sort_of_value}
use Rattle.civl_firing.specs.values.Operators.{literal_value}
use Rattle.civl_actions.proofs.Building.{name_there, old_there, means_name, means_old, means_done, means_old_done}
use Rattle.civl_actions.proofs.Operations.{typing, means_literal, means_true, means_false, fits_one, means_one, fits_fill, means_fill, fits_slice, means_slice, fits_widen, means_widen, fits_two, means_two, fits_get, means_get, fits_join, means_join, fits_pick, means_pick, fits_set, means_set}

-- ---- the constructors are layers, rolled

pub rolled_Name : (name : Name) → tree.Name name ≡ roll-Expr (expr.Name name)
rolled_Name name = let o : out-Expr (tree.Name name) ≡ expr.Name name = simp (of_expr) in sym (roll-out-Expr (tree.Name name)) ∙ ap roll-Expr o

pub rolled_Old : (name : Name) → tree.Old name ≡ roll-Expr (expr.Old name)
rolled_Old name = let o : out-Expr (tree.Old name) ≡ expr.Old name = simp (of_expr) in sym (roll-out-Expr (tree.Old name)) ∙ ap roll-Expr o

pub rolled_Done : tree.Done ≡ roll-Expr expr.Done
rolled_Done = let o : out-Expr tree.Done ≡ expr.Done = simp (of_expr) in sym (roll-out-Expr tree.Done) ∙ ap roll-Expr o

pub rolled_OldDone : tree.OldDone ≡ roll-Expr expr.OldDone
rolled_OldDone = let o : out-Expr tree.OldDone ≡ expr.OldDone = simp (of_expr) in sym (roll-out-Expr tree.OldDone) ∙ ap roll-Expr o

pub rolled_Literal : (n w : ℕ) → tree.Literal n w ≡ roll-Expr (expr.Literal n w)
rolled_Literal n w = let o : out-Expr (tree.Literal n w) ≡ expr.Literal n w = simp (of_expr) in sym (roll-out-Expr (tree.Literal n w)) ∙ ap roll-Expr o

pub rolled_True : tree.True ≡ roll-Expr expr.True
rolled_True = let o : out-Expr tree.True ≡ expr.True = simp (of_expr) in sym (roll-out-Expr tree.True) ∙ ap roll-Expr o

pub rolled_False : tree.False ≡ roll-Expr expr.False
rolled_False = let o : out-Expr tree.False ≡ expr.False = simp (of_expr) in sym (roll-out-Expr tree.False) ∙ ap roll-Expr o

pub rolled_One : (op : One) (a : Expr) → tree.One op a ≡ roll-Expr (expr.One op a)
rolled_One op a = let o : out-Expr (tree.One op a) ≡ expr.One op a = simp (of_expr) in sym (roll-out-Expr (tree.One op a)) ∙ ap roll-Expr o

pub rolled_Two : (op : Two) (a b : Expr) → tree.Two op a b ≡ roll-Expr (expr.Two op a b)
rolled_Two op a b = let o : out-Expr (tree.Two op a b) ≡ expr.Two op a b = simp (of_expr) in sym (roll-out-Expr (tree.Two op a b)) ∙ ap roll-Expr o

pub rolled_Pick : (c a b : Expr) → tree.Pick c a b ≡ roll-Expr (expr.Pick c a b)
rolled_Pick c a b = let o : out-Expr (tree.Pick c a b) ≡ expr.Pick c a b = simp (of_expr) in sym (roll-out-Expr (tree.Pick c a b)) ∙ ap roll-Expr o

pub rolled_Get : (a b : Expr) → tree.Get a b ≡ roll-Expr (expr.Get a b)
rolled_Get a b = let o : out-Expr (tree.Get a b) ≡ expr.Get a b = simp (of_expr) in sym (roll-out-Expr (tree.Get a b)) ∙ ap roll-Expr o

pub rolled_Set : (c a b : Expr) → tree.Set c a b ≡ roll-Expr (expr.Set c a b)
rolled_Set c a b = let o : out-Expr (tree.Set c a b) ≡ expr.Set c a b = simp (of_expr) in sym (roll-out-Expr (tree.Set c a b)) ∙ ap roll-Expr o

pub rolled_Fill : (n : ℕ) (a : Expr) → tree.Fill n a ≡ roll-Expr (expr.Fill n a)
rolled_Fill n a = let o : out-Expr (tree.Fill n a) ≡ expr.Fill n a = simp (of_expr) in sym (roll-out-Expr (tree.Fill n a)) ∙ ap roll-Expr o

pub rolled_Slice : (a : Expr) (high low : ℕ) → tree.Slice a high low ≡ roll-Expr (expr.Slice a high low)
rolled_Slice a high low = let o : out-Expr (tree.Slice a high low) ≡ expr.Slice a high low = simp (of_expr) in sym (roll-out-Expr (tree.Slice a high low)) ∙ ap roll-Expr o

pub rolled_Widen : (a : Expr) (n : ℕ) → tree.Widen a n ≡ roll-Expr (expr.Widen a n)
rolled_Widen a n = let o : out-Expr (tree.Widen a n) ≡ expr.Widen a n = simp (of_expr) in sym (roll-out-Expr (tree.Widen a n)) ∙ ap roll-Expr o

pub rolled_Join : (a b : Expr) → tree.Join a b ≡ roll-Expr (expr.Join a b)
rolled_Join a b = let o : out-Expr (tree.Join a b) ≡ expr.Join a b = simp (of_expr) in sym (roll-out-Expr (tree.Join a b)) ∙ ap roll-Expr o

-- ---- as the code has them: the expression and its parts are known by equations

module _ (sc : Scope) where
  typing_is : (ns : List Node) (e f : Expr) → e ≡ f → HasTyping ns sc e → HasTyping ns sc f
  typing_is ns e f is h = subst (λ (q : Expr). HasTyping ns sc q) is h

  means_is : (old new : List Node) (e f : Expr) (i : ℕ) → e ≡ f → Means old new sc e i → Means old new sc f i
  means_is old new e f i is m = subst (λ (q : Expr). Means old new sc q i) is m

  pub asks_name : (ns : List Node) (e : Expr) (name : Name) → e ≡ tree.Name name → HasTyping ns sc e → place_of (names_in sc) name < length sc.values.now
  asks_name ns e name is h = let k = name_there ns sc name (typing_is ns e (roll-Expr (expr.Name name)) (is ∙ rolled_Name name) h) in slice_get_within sc.values.now (place_of (names_in sc) name) k.0 k.1

  pub asks_old : (ns : List Node) (e : Expr) (name : Name) → e ≡ tree.Old name → HasTyping ns sc e → place_of (names_in sc) name < length sc.old.now
  asks_old ns e name is h = let k = old_there ns sc name (typing_is ns e (roll-Expr (expr.Old name)) (is ∙ rolled_Old name) h) in slice_get_within sc.old.now (place_of (names_in sc) name) k.0 k.1

  pub built_name : (ns : List Node) (e : Expr) (name : Name) (place id : ℕ) → e ≡ tree.Name name → place ≡ place_of (names_in sc) name → HasTyping ns sc e → slice_get sc.values.now place ≡ Some id → Means ns ns sc e id
  built_name ns e name place id is at h found =
      let k = name_there ns sc name (typing_is ns e (roll-Expr (expr.Name name)) (is ∙ rolled_Name name) h) in
      let f : slice_get sc.values.now (place_of (names_in sc) name) ≡ Some id = ap (slice_get sc.values.now) (sym at) ∙ found in
      let same : k.0 ≡ id = same_Some k.0 id (sym k.1 ∙ f) in
      means_is ns ns (roll-Expr (expr.Name name)) e id (sym (is ∙ rolled_Name name)) (means_name ns sc name id f (subst (λ (j : ℕ). j < length ns) same k.2))

  pub built_old : (ns : List Node) (e : Expr) (name : Name) (place id : ℕ) → e ≡ tree.Old name → place ≡ place_of (names_in sc) name → HasTyping ns sc e → slice_get sc.old.now place ≡ Some id → Means ns ns sc e id
  built_old ns e name place id is at h found =
      let k = old_there ns sc name (typing_is ns e (roll-Expr (expr.Old name)) (is ∙ rolled_Old name) h) in
      let f : slice_get sc.old.now (place_of (names_in sc) name) ≡ Some id = ap (slice_get sc.old.now) (sym at) ∙ found in
      let same : k.0 ≡ id = same_Some k.0 id (sym k.1 ∙ f) in
      means_is ns ns (roll-Expr (expr.Old name)) e id (sym (is ∙ rolled_Old name)) (means_old ns sc name id f (subst (λ (j : ℕ). j < length ns) same k.2))

  pub built_done : (ns : List Node) → IsGraph ns → (e : Expr) → e ≡ tree.Done → HasTyping ns sc e → Means ns ns sc e sc.done
  built_done ns graph e is h = means_is ns ns (roll-Expr expr.Done) e sc.done (sym (is ∙ rolled_Done)) (means_done ns graph sc (typing_is ns e (roll-Expr expr.Done) (is ∙ rolled_Done) h))

  pub built_old_done : (ns : List Node) → IsGraph ns → (e : Expr) → e ≡ tree.OldDone → HasTyping ns sc e → Means ns ns sc e sc.old_done
  built_old_done ns graph e is h = means_is ns ns (roll-Expr expr.OldDone) e sc.old_done (sym (is ∙ rolled_OldDone)) (means_old_done ns graph sc (typing_is ns e (roll-Expr expr.OldDone) (is ∙ rolled_OldDone) h))

  pub built_literal : (old new : List Node) (e : Expr) (n w : ℕ) (v : Value) (id : ℕ) → e ≡ tree.Literal n w → HasTyping old sc e → v ≡ literal_value n w → Built old new id (λ env. v) (Some (sort_of_value v)) 0 → Means old new sc e id
  built_literal old new e n w v id is h q b =
      means_is old new (roll-Expr (expr.Literal n w)) e id (sym (is ∙ rolled_Literal n w)) (means_literal old new sc n w id (typing_is old e (roll-Expr (expr.Literal n w)) (is ∙ rolled_Literal n w) h) (subst (λ (x : Value). Built old new id (λ env. x) (Some (sort_of_value x)) 0) q b))

  pub built_true : (old new : List Node) (e : Expr) (id : ℕ) → e ≡ tree.True → Built old new id (λ env. value.Bool true) (Some Truth) 0 → Means old new sc e id
  built_true old new e id is b = means_is old new (roll-Expr expr.True) e id (sym (is ∙ rolled_True)) (means_true old new sc id b)

  pub built_false : (old new : List Node) (e : Expr) (id : ℕ) → e ≡ tree.False → Built old new id (λ env. value.Bool false) (Some Truth) 0 → Means old new sc e id
  built_false old new e id is b = means_is old new (roll-Expr expr.False) e id (sym (is ∙ rolled_False)) (means_false old new sc id b)

  pub asks_one : (ns : List Node) (e : Expr) (op : One) (a x : Expr) → e ≡ tree.One op a → HasTyping ns sc e → x ≡ a → HasTyping ns sc x
  asks_one ns e op a x is h q =
      let k = typing_is ns e (roll-Expr (expr.One op a)) (is ∙ rolled_One op a) h in
      typing_is ns a x (sym q) (k.0, k.1, (typed_one k.0 op a k.2))

  pub there_one : (old now : List Node) (e : Expr) (op : One) (a x : Expr) (i : ℕ) → e ≡ tree.One op a → HasTyping old sc e → x ≡ a → Means old now sc x i → IsSome (one_sort op (sort_at now i))
  there_one old now e op a x i is h q m = fits_one old now sc op a i (typing_is old e (roll-Expr (expr.One op a)) (is ∙ rolled_One op a) h) (means_is old now x a i q m)

  pub built_one : (old now new : List Node) (e : Expr) (op : One) (a x : Expr) (i id : ℕ) → e ≡ tree.One op a → x ≡ a → Means old now sc x i → Grows now new
      → Built now new id (λ env. one_value op (value_at env now i)) (one_sort op (sort_at now i)) (one_weight op (bits_in (sort_at now i))) → Means old new sc e id
  built_one old now new e op a x i id is q m g b = means_is old new (roll-Expr (expr.One op a)) e id (sym (is ∙ rolled_One op a)) (means_one old now new sc op a i id (means_is old now x a i q m) g b)

  pub asks_fill : (ns : List Node) (e : Expr) (n : ℕ) (a x : Expr) → e ≡ tree.Fill n a → HasTyping ns sc e → x ≡ a → HasTyping ns sc x
  asks_fill ns e n a x is h q =
      let k = typing_is ns e (roll-Expr (expr.Fill n a)) (is ∙ rolled_Fill n a) h in
      typing_is ns a x (sym q) (k.0, k.1, (typed_fill k.0 n a k.2).1)

  pub there_fill : (old now : List Node) (e : Expr) (n : ℕ) (a x : Expr) (i : ℕ) → e ≡ tree.Fill n a → HasTyping old sc e → x ≡ a → Means old now sc x i → IsSome (fill_sort n (sort_at now i))
  there_fill old now e n a x i is h q m = fits_fill old now sc n a i (typing_is old e (roll-Expr (expr.Fill n a)) (is ∙ rolled_Fill n a) h) (means_is old now x a i q m)

  pub built_fill : (old now new : List Node) (e : Expr) (n : ℕ) (a x : Expr) (i id : ℕ) → e ≡ tree.Fill n a → x ≡ a → Means old now sc x i → Grows now new
      → Built now new id (λ env. fill_value n (value_at env now i)) (fill_sort n (sort_at now i)) (move_weight) → Means old new sc e id
  built_fill old now new e n a x i id is q m g b = means_is old new (roll-Expr (expr.Fill n a)) e id (sym (is ∙ rolled_Fill n a)) (means_fill old now new sc n a i id (means_is old now x a i q m) g b)

  pub asks_slice : (ns : List Node) (e : Expr) (high low : ℕ) (a x : Expr) → e ≡ tree.Slice a high low → HasTyping ns sc e → x ≡ a → HasTyping ns sc x
  asks_slice ns e high low a x is h q =
      let k = typing_is ns e (roll-Expr (expr.Slice a high low)) (is ∙ rolled_Slice a high low) h in
      typing_is ns a x (sym q) (k.0, k.1, (typed_slice k.0 a high low k.2))

  pub there_slice : (old now : List Node) (e : Expr) (high low : ℕ) (a x : Expr) (i : ℕ) → e ≡ tree.Slice a high low → HasTyping old sc e → x ≡ a → Means old now sc x i → IsSome (slice_sort (sort_at now i) high low)
  there_slice old now e high low a x i is h q m = fits_slice old now sc high low a i (typing_is old e (roll-Expr (expr.Slice a high low)) (is ∙ rolled_Slice a high low) h) (means_is old now x a i q m)

  pub built_slice : (old now new : List Node) (e : Expr) (high low : ℕ) (a x : Expr) (i id : ℕ) → e ≡ tree.Slice a high low → x ≡ a → Means old now sc x i → Grows now new
      → Built now new id (λ env. slice_value (value_at env now i) high low) (slice_sort (sort_at now i) high low) (move_weight) → Means old new sc e id
  built_slice old now new e high low a x i id is q m g b = means_is old new (roll-Expr (expr.Slice a high low)) e id (sym (is ∙ rolled_Slice a high low)) (means_slice old now new sc high low a i id (means_is old now x a i q m) g b)

  pub asks_widen : (ns : List Node) (e : Expr) (n : ℕ) (a x : Expr) → e ≡ tree.Widen a n → HasTyping ns sc e → x ≡ a → HasTyping ns sc x
  asks_widen ns e n a x is h q =
      let k = typing_is ns e (roll-Expr (expr.Widen a n)) (is ∙ rolled_Widen a n) h in
      typing_is ns a x (sym q) (k.0, k.1, (typed_widen k.0 a n k.2))

  pub there_widen : (old now : List Node) (e : Expr) (n : ℕ) (a x : Expr) (i : ℕ) → e ≡ tree.Widen a n → HasTyping old sc e → x ≡ a → Means old now sc x i → IsSome (widen_sort (sort_at now i) n)
  there_widen old now e n a x i is h q m = fits_widen old now sc n a i (typing_is old e (roll-Expr (expr.Widen a n)) (is ∙ rolled_Widen a n) h) (means_is old now x a i q m)

  pub built_widen : (old now new : List Node) (e : Expr) (n : ℕ) (a x : Expr) (i id : ℕ) → e ≡ tree.Widen a n → x ≡ a → Means old now sc x i → Grows now new
      → Built now new id (λ env. widen_value (value_at env now i) n) (widen_sort (sort_at now i) n) (move_weight) → Means old new sc e id
  built_widen old now new e n a x i id is q m g b = means_is old new (roll-Expr (expr.Widen a n)) e id (sym (is ∙ rolled_Widen a n)) (means_widen old now new sc n a i id (means_is old now x a i q m) g b)

  pub index_fill : (ns : List Node) (e : Expr) (n : ℕ) (a : Expr) → e ≡ tree.Fill n a → HasTyping ns sc e → is_index n ≡ true
  index_fill ns e n a is h = let k = typing_is ns e (roll-Expr (expr.Fill n a)) (is ∙ rolled_Fill n a) h in (typed_fill k.0 n a k.2).0

  pub asks_two_first : (ns : List Node) (e : Expr) (op : Two) (a b x : Expr) → e ≡ tree.Two op a b → HasTyping ns sc e → x ≡ a → HasTyping ns sc x
  asks_two_first ns e op a b x is h q =
      let k = typing_is ns e (roll-Expr (expr.Two op a b)) (is ∙ rolled_Two op a b) h in
      typing_is ns a x (sym q) (k.0, k.1, (typed_two k.0 op a b k.2).0)

  pub asks_two_second : (ns now : List Node) (e : Expr) (op : Two) (a b y : Expr) → e ≡ tree.Two op a b → HasTyping ns sc e → y ≡ b → Grows ns now → HasTyping now sc y
  asks_two_second ns now e op a b y is h q g =
      let k = typing_is ns e (roll-Expr (expr.Two op a b)) (is ∙ rolled_Two op a b) h in
      typing_is now b y (sym q) (typing ns now sc b k.0 k.1 g (typed_two k.0 op a b k.2).1)

  pub there_two : (old mid now : List Node) (e : Expr) (op : Two) (a b x y : Expr) (i j : ℕ) → e ≡ tree.Two op a b → HasTyping old sc e → x ≡ a → y ≡ b → Means old mid sc x i → Grows old mid → Means mid now sc y j → Grows mid now → IsSome (two_sort op (sort_at now i) (sort_at now j))
  there_two old mid now e op a b x y i j is h q r m g k l = fits_two old mid now sc op a b i j (typing_is old e (roll-Expr (expr.Two op a b)) (is ∙ rolled_Two op a b) h) (means_is old mid x a i q m) g (means_is mid now y b j r k) l

  pub built_two : (old mid now new : List Node) (e : Expr) (op : Two) (a b x y : Expr) (i j id : ℕ) → e ≡ tree.Two op a b → HasTyping old sc e → x ≡ a → y ≡ b → Means old mid sc x i → Grows old mid → Means mid now sc y j → Grows mid now → Grows now new
      → Built now new id (λ env. two_value op (value_at env now i) (value_at env now j)) (two_sort op (sort_at now i) (sort_at now j)) (two_weight op (bits_in (sort_at now i))) → Means old new sc e id
  built_two old mid now new e op a b x y i j id is h q r m g k l s built =
      means_is old new (roll-Expr (expr.Two op a b)) e id (sym (is ∙ rolled_Two op a b)) (means_two old mid now new sc op a b i j id (typing_is old e (roll-Expr (expr.Two op a b)) (is ∙ rolled_Two op a b) h) (means_is old mid x a i q m) g (means_is mid now y b j r k) l s built)

  pub asks_get_first : (ns : List Node) (e : Expr) (a b x : Expr) → e ≡ tree.Get a b → HasTyping ns sc e → x ≡ a → HasTyping ns sc x
  asks_get_first ns e a b x is h q =
      let k = typing_is ns e (roll-Expr (expr.Get a b)) (is ∙ rolled_Get a b) h in
      typing_is ns a x (sym q) (k.0, k.1, (typed_get k.0 a b k.2).0)

  pub asks_get_second : (ns now : List Node) (e : Expr) (a b y : Expr) → e ≡ tree.Get a b → HasTyping ns sc e → y ≡ b → Grows ns now → HasTyping now sc y
  asks_get_second ns now e a b y is h q g =
      let k = typing_is ns e (roll-Expr (expr.Get a b)) (is ∙ rolled_Get a b) h in
      typing_is now b y (sym q) (typing ns now sc b k.0 k.1 g (typed_get k.0 a b k.2).1)

  pub there_get : (old mid now : List Node) (e : Expr) (a b x y : Expr) (i j : ℕ) → e ≡ tree.Get a b → HasTyping old sc e → x ≡ a → y ≡ b → Means old mid sc x i → Grows old mid → Means mid now sc y j → Grows mid now → IsSome (get_sort (sort_at now i) (sort_at now j))
  there_get old mid now e a b x y i j is h q r m g k l = fits_get old mid now sc a b i j (typing_is old e (roll-Expr (expr.Get a b)) (is ∙ rolled_Get a b) h) (means_is old mid x a i q m) g (means_is mid now y b j r k) l

  pub built_get : (old mid now new : List Node) (e : Expr) (a b x y : Expr) (i j id : ℕ) → e ≡ tree.Get a b → HasTyping old sc e → x ≡ a → y ≡ b → Means old mid sc x i → Grows old mid → Means mid now sc y j → Grows mid now → Grows now new
      → Built now new id (λ env. get_value (value_at env now i) (value_at env now j)) (get_sort (sort_at now i) (sort_at now j)) (get_weight (bits_in (sort_at now i))) → Means old new sc e id
  built_get old mid now new e a b x y i j id is h q r m g k l s built =
      means_is old new (roll-Expr (expr.Get a b)) e id (sym (is ∙ rolled_Get a b)) (means_get old mid now new sc a b i j id (typing_is old e (roll-Expr (expr.Get a b)) (is ∙ rolled_Get a b) h) (means_is old mid x a i q m) g (means_is mid now y b j r k) l s built)

  pub asks_join_first : (ns : List Node) (e : Expr) (a b x : Expr) → e ≡ tree.Join a b → HasTyping ns sc e → x ≡ a → HasTyping ns sc x
  asks_join_first ns e a b x is h q =
      let k = typing_is ns e (roll-Expr (expr.Join a b)) (is ∙ rolled_Join a b) h in
      typing_is ns a x (sym q) (k.0, k.1, (typed_join k.0 a b k.2).0)

  pub asks_join_second : (ns now : List Node) (e : Expr) (a b y : Expr) → e ≡ tree.Join a b → HasTyping ns sc e → y ≡ b → Grows ns now → HasTyping now sc y
  asks_join_second ns now e a b y is h q g =
      let k = typing_is ns e (roll-Expr (expr.Join a b)) (is ∙ rolled_Join a b) h in
      typing_is now b y (sym q) (typing ns now sc b k.0 k.1 g (typed_join k.0 a b k.2).1)

  pub there_join : (old mid now : List Node) (e : Expr) (a b x y : Expr) (i j : ℕ) → e ≡ tree.Join a b → HasTyping old sc e → x ≡ a → y ≡ b → Means old mid sc x i → Grows old mid → Means mid now sc y j → Grows mid now → IsSome (join_sort (sort_at now i) (sort_at now j))
  there_join old mid now e a b x y i j is h q r m g k l = fits_join old mid now sc a b i j (typing_is old e (roll-Expr (expr.Join a b)) (is ∙ rolled_Join a b) h) (means_is old mid x a i q m) g (means_is mid now y b j r k) l

  pub built_join : (old mid now new : List Node) (e : Expr) (a b x y : Expr) (i j id : ℕ) → e ≡ tree.Join a b → HasTyping old sc e → x ≡ a → y ≡ b → Means old mid sc x i → Grows old mid → Means mid now sc y j → Grows mid now → Grows now new
      → Built now new id (λ env. join_value (value_at env now i) (value_at env now j)) (join_sort (sort_at now i) (sort_at now j)) (move_weight) → Means old new sc e id
  built_join old mid now new e a b x y i j id is h q r m g k l s built =
      means_is old new (roll-Expr (expr.Join a b)) e id (sym (is ∙ rolled_Join a b)) (means_join old mid now new sc a b i j id (typing_is old e (roll-Expr (expr.Join a b)) (is ∙ rolled_Join a b) h) (means_is old mid x a i q m) g (means_is mid now y b j r k) l s built)

  pub asks_pick_first : (ns : List Node) (e c a b x : Expr) → e ≡ tree.Pick c a b → HasTyping ns sc e → x ≡ c → HasTyping ns sc x
  asks_pick_first ns e c a b x is h q =
      let k = typing_is ns e (roll-Expr (expr.Pick c a b)) (is ∙ rolled_Pick c a b) h in
      typing_is ns c x (sym q) (k.0, k.1, (typed_pick k.0 c a b k.2).0)

  pub asks_pick_second : (ns now : List Node) (e c a b y : Expr) → e ≡ tree.Pick c a b → HasTyping ns sc e → y ≡ a → Grows ns now → HasTyping now sc y
  asks_pick_second ns now e c a b y is h q g =
      let k = typing_is ns e (roll-Expr (expr.Pick c a b)) (is ∙ rolled_Pick c a b) h in
      typing_is now a y (sym q) (typing ns now sc a k.0 k.1 g (typed_pick k.0 c a b k.2).1)

  pub asks_pick_third : (ns mid now : List Node) (e c a b y : Expr) → e ≡ tree.Pick c a b → HasTyping ns sc e → y ≡ b → Grows ns mid → Grows mid now → HasTyping now sc y
  asks_pick_third ns mid now e c a b y is h q f g =
      let k = typing_is ns e (roll-Expr (expr.Pick c a b)) (is ∙ rolled_Pick c a b) h in
      typing_is now b y (sym q) (typing ns now sc b k.0 k.1 (grows_trans ns mid now f g) (typed_pick k.0 c a b k.2).2)

  pub there_pick : (old one two now : List Node) (e c a b x y z : Expr) (k i j : ℕ) → e ≡ tree.Pick c a b → HasTyping old sc e → x ≡ c → y ≡ a → z ≡ b → Means old one sc x k → Grows old one → Means one two sc y i → Grows one two → Means two now sc z j → Grows two now → IsSome (pick_sort (sort_at now k) (sort_at now i) (sort_at now j))
  there_pick old one two now e c a b x y z k i j is h q r s mx gx my gy mz gz =
      fits_pick old one two now sc c a b k i j (typing_is old e (roll-Expr (expr.Pick c a b)) (is ∙ rolled_Pick c a b) h) (means_is old one x c k q mx) gx (means_is one two y a i r my) gy (means_is two now z b j s mz) gz

  pub built_pick : (old one two now new : List Node) (e c a b x y z : Expr) (k i j id : ℕ) → e ≡ tree.Pick c a b → HasTyping old sc e → x ≡ c → y ≡ a → z ≡ b → Means old one sc x k → Grows old one → Means one two sc y i → Grows one two → Means two now sc z j → Grows two now → Grows now new
      → Built now new id (λ env. pick_value (value_at env now k) (value_at env now i) (value_at env now j)) (pick_sort (sort_at now k) (sort_at now i) (sort_at now j)) (pick_weight (bits_in (sort_at now i))) → Means old new sc e id
  built_pick old one two now new e c a b x y z k i j id is h q r s mx gx my gy mz gz g built =
      means_is old new (roll-Expr (expr.Pick c a b)) e id (sym (is ∙ rolled_Pick c a b)) (means_pick old one two now new sc c a b k i j id (typing_is old e (roll-Expr (expr.Pick c a b)) (is ∙ rolled_Pick c a b) h) (means_is old one x c k q mx) gx (means_is one two y a i r my) gy (means_is two now z b j s mz) gz g built)

  pub asks_set_first : (ns : List Node) (e c a b x : Expr) → e ≡ tree.Set c a b → HasTyping ns sc e → x ≡ c → HasTyping ns sc x
  asks_set_first ns e c a b x is h q =
      let k = typing_is ns e (roll-Expr (expr.Set c a b)) (is ∙ rolled_Set c a b) h in
      typing_is ns c x (sym q) (k.0, k.1, (typed_set k.0 c a b k.2).0)

  pub asks_set_second : (ns now : List Node) (e c a b y : Expr) → e ≡ tree.Set c a b → HasTyping ns sc e → y ≡ a → Grows ns now → HasTyping now sc y
  asks_set_second ns now e c a b y is h q g =
      let k = typing_is ns e (roll-Expr (expr.Set c a b)) (is ∙ rolled_Set c a b) h in
      typing_is now a y (sym q) (typing ns now sc a k.0 k.1 g (typed_set k.0 c a b k.2).1)

  pub asks_set_third : (ns mid now : List Node) (e c a b y : Expr) → e ≡ tree.Set c a b → HasTyping ns sc e → y ≡ b → Grows ns mid → Grows mid now → HasTyping now sc y
  asks_set_third ns mid now e c a b y is h q f g =
      let k = typing_is ns e (roll-Expr (expr.Set c a b)) (is ∙ rolled_Set c a b) h in
      typing_is now b y (sym q) (typing ns now sc b k.0 k.1 (grows_trans ns mid now f g) (typed_set k.0 c a b k.2).2)

  pub there_set : (old one two now : List Node) (e c a b x y z : Expr) (k i j : ℕ) → e ≡ tree.Set c a b → HasTyping old sc e → x ≡ c → y ≡ a → z ≡ b → Means old one sc x k → Grows old one → Means one two sc y i → Grows one two → Means two now sc z j → Grows two now → IsSome (set_sort (sort_at now k) (sort_at now i) (sort_at now j))
  there_set old one two now e c a b x y z k i j is h q r s mx gx my gy mz gz =
      fits_set old one two now sc c a b k i j (typing_is old e (roll-Expr (expr.Set c a b)) (is ∙ rolled_Set c a b) h) (means_is old one x c k q mx) gx (means_is one two y a i r my) gy (means_is two now z b j s mz) gz

  pub built_set : (old one two now new : List Node) (e c a b x y z : Expr) (k i j id : ℕ) → e ≡ tree.Set c a b → HasTyping old sc e → x ≡ c → y ≡ a → z ≡ b → Means old one sc x k → Grows old one → Means one two sc y i → Grows one two → Means two now sc z j → Grows two now → Grows now new
      → Built now new id (λ env. set_value (value_at env now k) (value_at env now i) (value_at env now j)) (set_sort (sort_at now k) (sort_at now i) (sort_at now j)) (set_weight (sort_at now k)) → Means old new sc e id
  built_set old one two now new e c a b x y z k i j id is h q r s mx gx my gy mz gz g built =
      means_is old new (roll-Expr (expr.Set c a b)) e id (sym (is ∙ rolled_Set c a b)) (means_set old one two now new sc c a b k i j id (typing_is old e (roll-Expr (expr.Set c a b)) (is ∙ rolled_Set c a b) h) (means_is old one x c k q mx) gx (means_is one two y a i r my) gy (means_is two now z b j s mz) gz g built)
