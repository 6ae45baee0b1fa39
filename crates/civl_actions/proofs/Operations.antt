-- The term of an operation, from the terms of its parts.
use Rattle.std.specs.Prelude.{IsSome}
use Rattle.std.proofs.Common.{◌≡◌, ◌∙◌, ℕ, true, false, List, sym, ap, ap₂, subst, arith, Option, Some}
use Rattle.civl_bits.specs.declared.value.Value.{Value}
use Rattle.civl_bits.specs.declared.value.Value.TheVariants as value
use Rattle.civl_tree.specs.declared.expr.One.{One}
use Rattle.civl_tree.specs.declared.expr.Two.{Two}
use Rattle.civl_tree.specs.declared.expr.Sort.{Sort}
use Rattle.civl_tree.specs.declared.expr.Sort.TheVariants.{Bool as Truth, Word}
use Rattle.civl_tree.specs.declared.expr.Expr.{Expr, roll-Expr}
use Rattle.civl_tree.specs.declared.expr.Expr.TheFolds.{fold-roll-Expr}
use Rattle.civl_tree.specs.declared.expr.Expr.TheOpen as expr
use Rattle.civl_tree.specs.rules.Scopes.{Scope as Sorts}
use Rattle.civl_tree.specs.rules.Sorts.{sort_of, one_sort, two_sort, pick_sort, get_sort, set_sort, fill_sort, slice_sort, widen_sort, join_sort}
use Rattle.civl_firing.specs.values.Operators.{one_value, two_value, pick_value, get_value, set_value, fill_value, slice_value, widen_value, join_value}
use Rattle.civl_firing.proofs.values.Sorting.{literal_has_sort}
use Rattle.civl_firing.specs.values.Weights.{bits_in, one_weight, two_weight, pick_weight, get_weight, set_weight, move_weight}
use Rattle.civl_firing.specs.Eval.{value_of, value_step}
use Rattle.civl_terms.specs.declared.node.Node.{Node}
use Rattle.civl_terms.specs.Graphs.{value_at, sort_at, sorts}
use Rattle.civl_terms.specs.Building.{Grows, Built}
use Rattle.civl_terms.proofs.Growing.{grows_trans}
use Rattle.civl_actions.specs.declared.scope.Scope.{Scope}
use Rattle.civl_actions.specs.Scopes.{meant, ScopeFits, IsTyped, HasTyping, Means}
use Rattle.civl_actions.proofs.Typing.{sort_layer, weight_layer, typed_one, typed_two, typed_pick, typed_get, typed_set, typed_fill, typed_slice, typed_widen, typed_join}
use Rattle.civl_tree.specs.rules.Exprs.{literal_fits}
use Rattle.civl_firing.specs.values.Values.{sort_of_value}
use Rattle.civl_firing.specs.values.Operators.{literal_value}
use Rattle.civl_terms.proofs.Soundness.{sort_is}
use Rattle.civl_actions.proofs.Typing.{layer_typed}
use Rattle.civl_actions.proofs.Staying.{term_stays, term_since, fits_stay}
use Rattle.civl_actions.proofs.Building.{weighs_from}

-- ---- constants

pub means_literal : (old new : List Node) (scope : Scope) (n w id : ℕ) → HasTyping old scope (roll-Expr (expr.Literal n w))
    → Built old new id (λ env. literal_value n w) (Some (sort_of_value (literal_value n w))) 0 → Means old new scope (roll-Expr (expr.Literal n w)) id
means_literal old new scope n w id h b =
    let fits : literal_fits n w ≡ true = (layer_typed h.0 (expr.Literal n w) h.2).widths in
    let s : sort_of_value (literal_value n w) ≡ Word w = sort_is (literal_value n w) (Word w) (literal_has_sort n w fits) in
    record {
      within = b.within;
      is = λ env f. b.is env f ∙ sym (fold-roll-Expr Value (value_step (meant env old scope)) (expr.Literal n w));
      sorted = λ sorts f t. b.sorted ∙ ap (λ (x : Sort). Some x) s ∙ sym (sort_layer sorts (expr.Literal n w));
      weighs = λ sorts f t. omega (arith, b.weighs);
    }

pub means_true : (old new : List Node) (scope : Scope) (id : ℕ) → Built old new id (λ env. value.Bool true) (Some Truth) 0 → Means old new scope (roll-Expr expr.True) id
means_true old new scope id b = record {
  within = b.within;
  is = λ env f. b.is env f ∙ sym (fold-roll-Expr Value (value_step (meant env old scope)) expr.True);
  sorted = λ sorts f t. b.sorted ∙ sym (sort_layer sorts expr.True);
  weighs = λ sorts f t. omega (arith, b.weighs);
}

pub means_false : (old new : List Node) (scope : Scope) (id : ℕ) → Built old new id (λ env. value.Bool false) (Some Truth) 0 → Means old new scope (roll-Expr expr.False) id
means_false old new scope id b = record {
  within = b.within;
  is = λ env f. b.is env f ∙ sym (fold-roll-Expr Value (value_step (meant env old scope)) expr.False);
  sorted = λ sorts f t. b.sorted ∙ sym (sort_layer sorts expr.False);
  weighs = λ sorts f t. omega (arith, b.weighs);
}

-- ---- one part

pub typing : (old now : List Node) (scope : Scope) (e : Expr) (sorts : Sorts) → ScopeFits old scope sorts → Grows old now → IsTyped sorts e → HasTyping now scope e
typing old now scope e sorts f g t = (sorts, fits_stay old now scope sorts g f, t)

pub fits_one : (old now : List Node) (scope : Scope) (op : One) (a : Expr) (i : ℕ) (h : HasTyping old scope (roll-Expr (expr.One op a))) → Means old now scope a i → IsSome (one_sort op (sort_at now i))
fits_one old now scope op a i h m =
    let e : sort_at now i ≡ sort_of h.0 a = m.sorted h.0 h.1 ((typed_one h.0 op a h.2)) in
    subst (λ (o : Option Sort). IsSome (one_sort op o)) (sym e) (layer_typed h.0 (expr.One op a) h.2).sorted

pub means_one : (old now new : List Node) (scope : Scope) (op : One) (a : Expr) (i id : ℕ) → Means old now scope a i → Grows now new
    → Built now new id (λ env. one_value op (value_at env now i)) (one_sort op (sort_at now i)) (one_weight op (bits_in (sort_at now i))) → Means old new scope (roll-Expr (expr.One op a)) id
means_one old now new scope op a i id m g b = record {
  within = b.within;
  is = λ env f. b.is env f ∙ ap (λ (v : Value). one_value op v) (m.is env (g.fits env f)) ∙ sym (fold-roll-Expr Value (value_step (meant env old scope)) (expr.One op a));
  sorted = λ sorts f t. b.sorted ∙ ap (λ (o : Option Sort). one_sort op o) (m.sorted sorts f ((typed_one sorts op a t))) ∙ sym (sort_layer sorts (expr.One op a));
  weighs = λ sorts f t.
      let e : sort_at now i ≡ sort_of sorts a = m.sorted sorts f ((typed_one sorts op a t)) in
      let w : one_weight op (bits_in (sort_at now i)) ≡ one_weight op (bits_in (sort_of sorts a)) = ap (λ (o : Option Sort). one_weight op (bits_in o)) e in
      omega (arith, b.weighs, w, m.weighs sorts f ((typed_one sorts op a t)), weight_layer sorts (expr.One op a));
}

pub fits_fill : (old now : List Node) (scope : Scope) (n : ℕ) (a : Expr) (i : ℕ) (h : HasTyping old scope (roll-Expr (expr.Fill n a))) → Means old now scope a i → IsSome (fill_sort n (sort_at now i))
fits_fill old now scope n a i h m =
    let e : sort_at now i ≡ sort_of h.0 a = m.sorted h.0 h.1 ((typed_fill h.0 n a h.2).1) in
    subst (λ (o : Option Sort). IsSome (fill_sort n o)) (sym e) (layer_typed h.0 (expr.Fill n a) h.2).sorted

pub means_fill : (old now new : List Node) (scope : Scope) (n : ℕ) (a : Expr) (i id : ℕ) → Means old now scope a i → Grows now new
    → Built now new id (λ env. fill_value n (value_at env now i)) (fill_sort n (sort_at now i)) (move_weight) → Means old new scope (roll-Expr (expr.Fill n a)) id
means_fill old now new scope n a i id m g b = record {
  within = b.within;
  is = λ env f. b.is env f ∙ ap (λ (v : Value). fill_value n v) (m.is env (g.fits env f)) ∙ sym (fold-roll-Expr Value (value_step (meant env old scope)) (expr.Fill n a));
  sorted = λ sorts f t. b.sorted ∙ ap (λ (o : Option Sort). fill_sort n o) (m.sorted sorts f ((typed_fill sorts n a t).1)) ∙ sym (sort_layer sorts (expr.Fill n a));
  weighs = λ sorts f t.
      let e : sort_at now i ≡ sort_of sorts a = m.sorted sorts f ((typed_fill sorts n a t).1) in
      let w : move_weight ≡ move_weight = ap (λ (o : Option Sort). move_weight) e in
      omega (arith, b.weighs, w, m.weighs sorts f ((typed_fill sorts n a t).1), weight_layer sorts (expr.Fill n a));
}

pub fits_slice : (old now : List Node) (scope : Scope) (high low : ℕ) (a : Expr) (i : ℕ) (h : HasTyping old scope (roll-Expr (expr.Slice a high low))) → Means old now scope a i → IsSome (slice_sort (sort_at now i) high low)
fits_slice old now scope high low a i h m =
    let e : sort_at now i ≡ sort_of h.0 a = m.sorted h.0 h.1 ((typed_slice h.0 a high low h.2)) in
    subst (λ (o : Option Sort). IsSome (slice_sort o high low)) (sym e) (layer_typed h.0 (expr.Slice a high low) h.2).sorted

pub means_slice : (old now new : List Node) (scope : Scope) (high low : ℕ) (a : Expr) (i id : ℕ) → Means old now scope a i → Grows now new
    → Built now new id (λ env. slice_value (value_at env now i) high low) (slice_sort (sort_at now i) high low) (move_weight) → Means old new scope (roll-Expr (expr.Slice a high low)) id
means_slice old now new scope high low a i id m g b = record {
  within = b.within;
  is = λ env f. b.is env f ∙ ap (λ (v : Value). slice_value v high low) (m.is env (g.fits env f)) ∙ sym (fold-roll-Expr Value (value_step (meant env old scope)) (expr.Slice a high low));
  sorted = λ sorts f t. b.sorted ∙ ap (λ (o : Option Sort). slice_sort o high low) (m.sorted sorts f ((typed_slice sorts a high low t))) ∙ sym (sort_layer sorts (expr.Slice a high low));
  weighs = λ sorts f t.
      let e : sort_at now i ≡ sort_of sorts a = m.sorted sorts f ((typed_slice sorts a high low t)) in
      let w : move_weight ≡ move_weight = ap (λ (o : Option Sort). move_weight) e in
      omega (arith, b.weighs, w, m.weighs sorts f ((typed_slice sorts a high low t)), weight_layer sorts (expr.Slice a high low));
}

pub fits_widen : (old now : List Node) (scope : Scope) (n : ℕ) (a : Expr) (i : ℕ) (h : HasTyping old scope (roll-Expr (expr.Widen a n))) → Means old now scope a i → IsSome (widen_sort (sort_at now i) n)
fits_widen old now scope n a i h m =
    let e : sort_at now i ≡ sort_of h.0 a = m.sorted h.0 h.1 ((typed_widen h.0 a n h.2)) in
    subst (λ (o : Option Sort). IsSome (widen_sort o n)) (sym e) (layer_typed h.0 (expr.Widen a n) h.2).sorted

pub means_widen : (old now new : List Node) (scope : Scope) (n : ℕ) (a : Expr) (i id : ℕ) → Means old now scope a i → Grows now new
    → Built now new id (λ env. widen_value (value_at env now i) n) (widen_sort (sort_at now i) n) (move_weight) → Means old new scope (roll-Expr (expr.Widen a n)) id
means_widen old now new scope n a i id m g b = record {
  within = b.within;
  is = λ env f. b.is env f ∙ ap (λ (v : Value). widen_value v n) (m.is env (g.fits env f)) ∙ sym (fold-roll-Expr Value (value_step (meant env old scope)) (expr.Widen a n));
  sorted = λ sorts f t. b.sorted ∙ ap (λ (o : Option Sort). widen_sort o n) (m.sorted sorts f ((typed_widen sorts a n t))) ∙ sym (sort_layer sorts (expr.Widen a n));
  weighs = λ sorts f t.
      let e : sort_at now i ≡ sort_of sorts a = m.sorted sorts f ((typed_widen sorts a n t)) in
      let w : move_weight ≡ move_weight = ap (λ (o : Option Sort). move_weight) e in
      omega (arith, b.weighs, w, m.weighs sorts f ((typed_widen sorts a n t)), weight_layer sorts (expr.Widen a n));
}

-- ---- two parts

pub fits_two : (old mid now : List Node) (scope : Scope) (op : Two) (a b : Expr) (i j : ℕ) (h : HasTyping old scope (roll-Expr (expr.Two op a b))) → Means old mid scope a i → Grows old mid → Means mid now scope b j → Grows mid now → IsSome (two_sort op (sort_at now i) (sort_at now j))
fits_two old mid now scope op a b i j h m g k l =
    let p = term_stays old mid now scope a i m l in
    let q = term_since old mid now scope h.0 b j h.1 g k in
    let e : sort_at now i ≡ sort_of h.0 a = p.sorted h.0 h.1 ((typed_two h.0 op a b h.2).0) in
    let f : sort_at now j ≡ sort_of h.0 b = q.sorted h.0 h.1 ((typed_two h.0 op a b h.2).1) in
    subst (λ (o : Option Sort). IsSome (two_sort op o (sort_at now j))) (sym e)
    (subst (λ (o : Option Sort). IsSome (two_sort op (sort_of h.0 a) o)) (sym f) (layer_typed h.0 (expr.Two op a b) h.2).sorted)

pub means_two : (old mid now new : List Node) (scope : Scope) (op : Two) (a b : Expr) (i j id : ℕ) (h : HasTyping old scope (roll-Expr (expr.Two op a b))) → Means old mid scope a i → Grows old mid → Means mid now scope b j → Grows mid now → Grows now new
    → Built now new id (λ env. two_value op (value_at env now i) (value_at env now j)) (two_sort op (sort_at now i) (sort_at now j)) (two_weight op (bits_in (sort_at now i))) → Means old new scope (roll-Expr (expr.Two op a b)) id
means_two old mid now new scope op a b i j id h m g k l r built =
    let p = term_stays old mid now scope a i m l in
    let q = term_since old mid now scope h.0 b j h.1 g k in
    record {
      within = built.within;
      is = λ env f. built.is env f ∙ ap₂ (λ (v u : Value). two_value op v u) (p.is env (r.fits env f)) (q.is env (r.fits env f)) ∙ sym (fold-roll-Expr Value (value_step (meant env old scope)) (expr.Two op a b));
      sorted = λ sorts f t. built.sorted ∙ ap₂ (λ (o u : Option Sort). two_sort op o u) (p.sorted sorts f ((typed_two sorts op a b t).0)) (q.sorted sorts f ((typed_two sorts op a b t).1)) ∙ sym (sort_layer sorts (expr.Two op a b));
      weighs = λ sorts f t.
          let w : two_weight op (bits_in (sort_at now i)) ≡ two_weight op (bits_in (sort_of sorts a)) = ap (λ (o : Option Sort). two_weight op (bits_in o)) (p.sorted sorts f ((typed_two sorts op a b t).0)) in
          omega (arith, built.weighs, w, m.weighs sorts f ((typed_two sorts op a b t).0), weighs_from old mid now scope sorts b j g f ((typed_two sorts op a b t).1) k, weight_layer sorts (expr.Two op a b));
    }

pub fits_get : (old mid now : List Node) (scope : Scope) (a b : Expr) (i j : ℕ) (h : HasTyping old scope (roll-Expr (expr.Get a b))) → Means old mid scope a i → Grows old mid → Means mid now scope b j → Grows mid now → IsSome (get_sort (sort_at now i) (sort_at now j))
fits_get old mid now scope a b i j h m g k l =
    let p = term_stays old mid now scope a i m l in
    let q = term_since old mid now scope h.0 b j h.1 g k in
    let e : sort_at now i ≡ sort_of h.0 a = p.sorted h.0 h.1 ((typed_get h.0 a b h.2).0) in
    let f : sort_at now j ≡ sort_of h.0 b = q.sorted h.0 h.1 ((typed_get h.0 a b h.2).1) in
    subst (λ (o : Option Sort). IsSome (get_sort o (sort_at now j))) (sym e)
    (subst (λ (o : Option Sort). IsSome (get_sort (sort_of h.0 a) o)) (sym f) (layer_typed h.0 (expr.Get a b) h.2).sorted)

pub means_get : (old mid now new : List Node) (scope : Scope) (a b : Expr) (i j id : ℕ) (h : HasTyping old scope (roll-Expr (expr.Get a b))) → Means old mid scope a i → Grows old mid → Means mid now scope b j → Grows mid now → Grows now new
    → Built now new id (λ env. get_value (value_at env now i) (value_at env now j)) (get_sort (sort_at now i) (sort_at now j)) (get_weight (bits_in (sort_at now i))) → Means old new scope (roll-Expr (expr.Get a b)) id
means_get old mid now new scope a b i j id h m g k l r built =
    let p = term_stays old mid now scope a i m l in
    let q = term_since old mid now scope h.0 b j h.1 g k in
    record {
      within = built.within;
      is = λ env f. built.is env f ∙ ap₂ (λ (v u : Value). get_value v u) (p.is env (r.fits env f)) (q.is env (r.fits env f)) ∙ sym (fold-roll-Expr Value (value_step (meant env old scope)) (expr.Get a b));
      sorted = λ sorts f t. built.sorted ∙ ap₂ (λ (o u : Option Sort). get_sort o u) (p.sorted sorts f ((typed_get sorts a b t).0)) (q.sorted sorts f ((typed_get sorts a b t).1)) ∙ sym (sort_layer sorts (expr.Get a b));
      weighs = λ sorts f t.
          let w : get_weight (bits_in (sort_at now i)) ≡ get_weight (bits_in (sort_of sorts a)) = ap (λ (o : Option Sort). get_weight (bits_in o)) (p.sorted sorts f ((typed_get sorts a b t).0)) in
          omega (arith, built.weighs, w, m.weighs sorts f ((typed_get sorts a b t).0), weighs_from old mid now scope sorts b j g f ((typed_get sorts a b t).1) k, weight_layer sorts (expr.Get a b));
    }

pub fits_join : (old mid now : List Node) (scope : Scope) (a b : Expr) (i j : ℕ) (h : HasTyping old scope (roll-Expr (expr.Join a b))) → Means old mid scope a i → Grows old mid → Means mid now scope b j → Grows mid now → IsSome (join_sort (sort_at now i) (sort_at now j))
fits_join old mid now scope a b i j h m g k l =
    let p = term_stays old mid now scope a i m l in
    let q = term_since old mid now scope h.0 b j h.1 g k in
    let e : sort_at now i ≡ sort_of h.0 a = p.sorted h.0 h.1 ((typed_join h.0 a b h.2).0) in
    let f : sort_at now j ≡ sort_of h.0 b = q.sorted h.0 h.1 ((typed_join h.0 a b h.2).1) in
    subst (λ (o : Option Sort). IsSome (join_sort o (sort_at now j))) (sym e)
    (subst (λ (o : Option Sort). IsSome (join_sort (sort_of h.0 a) o)) (sym f) (layer_typed h.0 (expr.Join a b) h.2).sorted)

pub means_join : (old mid now new : List Node) (scope : Scope) (a b : Expr) (i j id : ℕ) (h : HasTyping old scope (roll-Expr (expr.Join a b))) → Means old mid scope a i → Grows old mid → Means mid now scope b j → Grows mid now → Grows now new
    → Built now new id (λ env. join_value (value_at env now i) (value_at env now j)) (join_sort (sort_at now i) (sort_at now j)) (move_weight) → Means old new scope (roll-Expr (expr.Join a b)) id
means_join old mid now new scope a b i j id h m g k l r built =
    let p = term_stays old mid now scope a i m l in
    let q = term_since old mid now scope h.0 b j h.1 g k in
    record {
      within = built.within;
      is = λ env f. built.is env f ∙ ap₂ (λ (v u : Value). join_value v u) (p.is env (r.fits env f)) (q.is env (r.fits env f)) ∙ sym (fold-roll-Expr Value (value_step (meant env old scope)) (expr.Join a b));
      sorted = λ sorts f t. built.sorted ∙ ap₂ (λ (o u : Option Sort). join_sort o u) (p.sorted sorts f ((typed_join sorts a b t).0)) (q.sorted sorts f ((typed_join sorts a b t).1)) ∙ sym (sort_layer sorts (expr.Join a b));
      weighs = λ sorts f t.
          let w : move_weight ≡ move_weight = ap (λ (o : Option Sort). move_weight) (p.sorted sorts f ((typed_join sorts a b t).0)) in
          omega (arith, built.weighs, w, m.weighs sorts f ((typed_join sorts a b t).0), weighs_from old mid now scope sorts b j g f ((typed_join sorts a b t).1) k, weight_layer sorts (expr.Join a b));
    }

-- ---- three parts

pub fits_pick : (old one two now : List Node) (scope : Scope) (c a b : Expr) (k i j : ℕ) (h : HasTyping old scope (roll-Expr (expr.Pick c a b))) → Means old one scope c k → Grows old one → Means one two scope a i → Grows one two → Means two now scope b j → Grows two now → IsSome (pick_sort (sort_at now k) (sort_at now i) (sort_at now j))
fits_pick old one two now scope c a b k i j h mc gc ma ga mb gb =
    let g = grows_trans old one two gc ga in
    let x = term_stays old one now scope c k mc (grows_trans one two now ga gb) in
    let y = term_since old one two scope h.0 a i h.1 gc ma in
    let z = term_since old two now scope h.0 b j h.1 g mb in
    let d : sort_at now k ≡ sort_of h.0 c = x.sorted h.0 h.1 ((typed_pick h.0 c a b h.2).0) in
    let e : sort_at now i ≡ sort_of h.0 a = gb.sorts i y.within ∙ y.sorted h.0 h.1 ((typed_pick h.0 c a b h.2).1) in
    let f : sort_at now j ≡ sort_of h.0 b = z.sorted h.0 h.1 ((typed_pick h.0 c a b h.2).2) in
    subst (λ (o : Option Sort). IsSome (pick_sort o (sort_at now i) (sort_at now j))) (sym d)
    (subst (λ (o : Option Sort). IsSome (pick_sort (sort_of h.0 c) o (sort_at now j))) (sym e)
    (subst (λ (o : Option Sort). IsSome (pick_sort (sort_of h.0 c) (sort_of h.0 a) o)) (sym f) (layer_typed h.0 (expr.Pick c a b) h.2).sorted))

pub means_pick : (old one two now new : List Node) (scope : Scope) (c a b : Expr) (k i j id : ℕ) (h : HasTyping old scope (roll-Expr (expr.Pick c a b))) → Means old one scope c k → Grows old one → Means one two scope a i → Grows one two → Means two now scope b j → Grows two now → Grows now new
    → Built now new id (λ env. pick_value (value_at env now k) (value_at env now i) (value_at env now j)) (pick_sort (sort_at now k) (sort_at now i) (sort_at now j)) (pick_weight (bits_in (sort_at now i))) → Means old new scope (roll-Expr (expr.Pick c a b)) id
means_pick old one two now new scope c a b k i j id h mc gc ma ga mb gb r built =
    let g = grows_trans old one two gc ga in
    let x = term_stays old one now scope c k mc (grows_trans one two now ga gb) in
    let y = term_since old one two scope h.0 a i h.1 gc ma in
    let z = term_since old two now scope h.0 b j h.1 g mb in
    record {
      within = built.within;
      is = λ env f.
          let v = r.fits env f in
          built.is env f
          ∙ ap (λ (q : Value). pick_value q (value_at env now i) (value_at env now j)) (x.is env v)
          ∙ ap (λ (q : Value). pick_value (value_of (meant env old scope) c) q (value_at env now j)) (gb.values env i y.within ∙ y.is env (gb.fits env v))
          ∙ ap (λ (q : Value). pick_value (value_of (meant env old scope) c) (value_of (meant env old scope) a) q) (z.is env v)
          ∙ sym (fold-roll-Expr Value (value_step (meant env old scope)) (expr.Pick c a b));
      sorted = λ sorts f t.
          built.sorted
          ∙ ap (λ (o : Option Sort). pick_sort o (sort_at now i) (sort_at now j)) (x.sorted sorts f ((typed_pick sorts c a b t).0))
          ∙ ap (λ (o : Option Sort). pick_sort (sort_of sorts c) o (sort_at now j)) (gb.sorts i y.within ∙ y.sorted sorts f ((typed_pick sorts c a b t).1))
          ∙ ap (λ (o : Option Sort). pick_sort (sort_of sorts c) (sort_of sorts a) o) (z.sorted sorts f ((typed_pick sorts c a b t).2))
          ∙ sym (sort_layer sorts (expr.Pick c a b));
      weighs = λ sorts f t.
          let w : pick_weight (bits_in (sort_at now i)) ≡ pick_weight (bits_in (sort_of sorts a)) = ap (λ (o : Option Sort). pick_weight (bits_in o)) (gb.sorts i y.within ∙ y.sorted sorts f ((typed_pick sorts c a b t).1)) in
          omega (arith, built.weighs, w, mc.weighs sorts f ((typed_pick sorts c a b t).0), weighs_from old one two scope sorts a i gc f ((typed_pick sorts c a b t).1) ma, weighs_from old two now scope sorts b j g f ((typed_pick sorts c a b t).2) mb, weight_layer sorts (expr.Pick c a b));
    }

pub fits_set : (old one two now : List Node) (scope : Scope) (c a b : Expr) (k i j : ℕ) (h : HasTyping old scope (roll-Expr (expr.Set c a b))) → Means old one scope c k → Grows old one → Means one two scope a i → Grows one two → Means two now scope b j → Grows two now → IsSome (set_sort (sort_at now k) (sort_at now i) (sort_at now j))
fits_set old one two now scope c a b k i j h mc gc ma ga mb gb =
    let g = grows_trans old one two gc ga in
    let x = term_stays old one now scope c k mc (grows_trans one two now ga gb) in
    let y = term_since old one two scope h.0 a i h.1 gc ma in
    let z = term_since old two now scope h.0 b j h.1 g mb in
    let d : sort_at now k ≡ sort_of h.0 c = x.sorted h.0 h.1 ((typed_set h.0 c a b h.2).0) in
    let e : sort_at now i ≡ sort_of h.0 a = gb.sorts i y.within ∙ y.sorted h.0 h.1 ((typed_set h.0 c a b h.2).1) in
    let f : sort_at now j ≡ sort_of h.0 b = z.sorted h.0 h.1 ((typed_set h.0 c a b h.2).2) in
    subst (λ (o : Option Sort). IsSome (set_sort o (sort_at now i) (sort_at now j))) (sym d)
    (subst (λ (o : Option Sort). IsSome (set_sort (sort_of h.0 c) o (sort_at now j))) (sym e)
    (subst (λ (o : Option Sort). IsSome (set_sort (sort_of h.0 c) (sort_of h.0 a) o)) (sym f) (layer_typed h.0 (expr.Set c a b) h.2).sorted))

pub means_set : (old one two now new : List Node) (scope : Scope) (c a b : Expr) (k i j id : ℕ) (h : HasTyping old scope (roll-Expr (expr.Set c a b))) → Means old one scope c k → Grows old one → Means one two scope a i → Grows one two → Means two now scope b j → Grows two now → Grows now new
    → Built now new id (λ env. set_value (value_at env now k) (value_at env now i) (value_at env now j)) (set_sort (sort_at now k) (sort_at now i) (sort_at now j)) (set_weight (sort_at now k)) → Means old new scope (roll-Expr (expr.Set c a b)) id
means_set old one two now new scope c a b k i j id h mc gc ma ga mb gb r built =
    let g = grows_trans old one two gc ga in
    let x = term_stays old one now scope c k mc (grows_trans one two now ga gb) in
    let y = term_since old one two scope h.0 a i h.1 gc ma in
    let z = term_since old two now scope h.0 b j h.1 g mb in
    record {
      within = built.within;
      is = λ env f.
          let v = r.fits env f in
          built.is env f
          ∙ ap (λ (q : Value). set_value q (value_at env now i) (value_at env now j)) (x.is env v)
          ∙ ap (λ (q : Value). set_value (value_of (meant env old scope) c) q (value_at env now j)) (gb.values env i y.within ∙ y.is env (gb.fits env v))
          ∙ ap (λ (q : Value). set_value (value_of (meant env old scope) c) (value_of (meant env old scope) a) q) (z.is env v)
          ∙ sym (fold-roll-Expr Value (value_step (meant env old scope)) (expr.Set c a b));
      sorted = λ sorts f t.
          built.sorted
          ∙ ap (λ (o : Option Sort). set_sort o (sort_at now i) (sort_at now j)) (x.sorted sorts f ((typed_set sorts c a b t).0))
          ∙ ap (λ (o : Option Sort). set_sort (sort_of sorts c) o (sort_at now j)) (gb.sorts i y.within ∙ y.sorted sorts f ((typed_set sorts c a b t).1))
          ∙ ap (λ (o : Option Sort). set_sort (sort_of sorts c) (sort_of sorts a) o) (z.sorted sorts f ((typed_set sorts c a b t).2))
          ∙ sym (sort_layer sorts (expr.Set c a b));
      weighs = λ sorts f t.
          let w : set_weight (sort_at now k) ≡ set_weight (sort_of sorts c) = ap (λ (o : Option Sort). set_weight o) (x.sorted sorts f ((typed_set sorts c a b t).0)) in
          omega (arith, built.weighs, w, mc.weighs sorts f ((typed_set sorts c a b t).0), weighs_from old one two scope sorts a i gc f ((typed_set sorts c a b t).1) ma, weighs_from old two now scope sorts b j g f ((typed_set sorts c a b t).2) mb, weight_layer sorts (expr.Set c a b));
    }
