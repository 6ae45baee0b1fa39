-- Each operation's node, and that its folding has its value.
use Rattle.std.specs.Prelude.{IsSome, IsTrue, nat_eq}
use Rattle.std.proofs.Common.{◌≡◌, ◌∙◌, ℕ, ◌<◌, List, length, refl, sym, ap, subst, Option, Some, None}
use Rattle.std.proofs.lemmas.Bool.{false≢true}
use Rattle.civl_bits.specs.declared.value.Value.{Value}
use Rattle.civl_tree.specs.declared.expr.Sort.{Sort}
use Rattle.civl_tree.specs.declared.expr.One.{One}
use Rattle.civl_tree.specs.declared.expr.Two.{Two}
use Rattle.civl_tree.specs.rules.Sorts.{one_sort, two_sort, pick_sort, get_sort, set_sort, fill_sort, slice_sort, widen_sort, join_sort}
use Rattle.civl_tree.specs.rules.Exprs.{is_index}
use Rattle.civl_firing.specs.values.Values.{HasSort}
use Rattle.civl_firing.specs.values.Operators.{two_value}
use Rattle.civl_terms.specs.foldings.Folding.{folded_two, IsFolded}
use Rattle.civl_terms.proofs.foldings.Keeping.{twos_keep_values}
use Rattle.civl_terms.proofs.foldings.Choices.{picks_keep_values}
use Rattle.civl_terms.proofs.foldings.Rows.{ones_keep_values, gets_keep_values, sets_keep_values, others_keep_values}
use Rattle.civl_terms.specs.declared.node.Node.{Node}
use Rattle.civl_terms.specs.declared.node.Node.TheVariants.{One as Once, Two as Twice, Pick, Get, Set, Fill, Slice, Widen, Join}
use Rattle.civl_terms.specs.Graphs.{PartsBelow, node_value, values, value_at, node_sort, sorts, sort_at, InLimits, IsGraph, Fits}
use Rattle.civl_terms.specs.Building.{one_in, two_in, pick_in, get_in, set_in, fill_in, slice_in, widen_in, join_in, constant_at}
use Rattle.civl_terms.proofs.Soundness.{VariableFits, node_fits, given_below}
use Rattle.civl_terms.proofs.Answering.{Operation, known_at, same_at, value_fits, sort_there}

-- the sort of an operation that has one
pub the_sort : (o : Option Sort) → IsSome o → (s : Sort) × (o ≡ Some s)
the_sort None e = absurd (false≢true e)
the_sort (Some s) e = (s, refl)

-- its value has this sort
fits_at : (ns : List Node) → IsGraph ns → (n : Node) (s : Sort) → PartsBelow (length ns) n → node_sort (sorts ns) n ≡ Some s → InLimits n → ((env : ℕ → Value) → VariableFits env n)
    → (env : ℕ → Value) → Fits env ns → HasSort (node_value env (values env ns) n) s
fits_at ns graph n s p e l v env f =
    node_fits env (values env ns) (sorts ns) (length ns) n p (λ i m. given_below ns graph env f (length ns) i m) l (v env) s e

-- a choice over sorts that are there
picked : (o p q : Option Sort) (s t u : Sort) (r : Option Sort) → o ≡ Some s → p ≡ Some t → q ≡ Some u → pick_sort o p q ≡ r → pick_sort (Some s) (Some t) (Some u) ≡ r
picked o p q s t u r e f g h =
    sym (ap (λ (x : Option Sort). pick_sort x p q) e ∙ ap (λ (x : Option Sort). pick_sort (Some s) x q) f ∙ ap (λ (x : Option Sort). pick_sort (Some s) (Some t) x) g) ∙ h

module _ (ns : List Node) (graph : IsGraph ns) where
  pub one_operation : (op : One) (a : ℕ) → a < length ns → IsSome (one_sort op (sort_at ns a)) → Operation ns (one_in ns op a) (Once op a) a a a
  one_operation op a l fits =
      let s = the_sort (one_sort op (sort_at ns a)) fits in
      record {
        sort = s.0;
        parts = l;
        sorted = s.1;
        first = l;
        second = l;
        third = l;
        value = fits_at ns graph (Once op a) s.0 l s.1 tt (λ env. tt);
        is = λ env f. ones_keep_values op (value_at env ns a) (value_at env ns a) (value_at env ns a) (constant_at ns a) (known_at ns graph env a);
      }

  pub two_operation : (op : Two) (a b : ℕ) → a < length ns → b < length ns → IsSome (two_sort op (sort_at ns a) (sort_at ns b)) → Operation ns (two_in ns op a b) (Twice op a b) a b b
  two_operation op a b l m fits =
      let s = the_sort (two_sort op (sort_at ns a) (sort_at ns b)) fits in
      let t = sort_there ns graph a l in
      let u = sort_there ns graph b m in
      record {
        sort = s.0;
        parts = (l, m);
        sorted = s.1;
        first = l;
        second = m;
        third = m;
        value = fits_at ns graph (Twice op a b) s.0 (l, m) s.1 tt (λ env. tt);
        is = λ env f.
            subst (λ (o : Option Sort). IsFolded (folded_two op o (constant_at ns a) (constant_at ns b) (nat_eq a b)) (two_value op (value_at env ns a) (value_at env ns b)) (value_at env ns a) (value_at env ns b) (value_at env ns b)) (sym t.1)
            (twos_keep_values op t.0 u.0 s.0 (value_at env ns a) (value_at env ns b) (value_at env ns b) (constant_at ns a) (constant_at ns b) (nat_eq a b)
            (rw (sym t.1, sym u.1) s.1) (value_fits ns graph env f a t.0 t.1) (value_fits ns graph env f b u.0 u.1)
            (known_at ns graph env a) (known_at ns graph env b) (same_at env ns a b));
      }

  pub pick_operation : (c a b : ℕ) → c < length ns → a < length ns → b < length ns → IsSome (pick_sort (sort_at ns c) (sort_at ns a) (sort_at ns b)) → Operation ns (pick_in ns c a b) (Pick c a b) c a b
  pick_operation c a b k l m fits =
      let s = the_sort (pick_sort (sort_at ns c) (sort_at ns a) (sort_at ns b)) fits in
      let r = sort_there ns graph c k in
      let t = sort_there ns graph a l in
      let u = sort_there ns graph b m in
      record {
        sort = s.0;
        parts = (k, l, m);
        sorted = s.1;
        first = k;
        second = l;
        third = m;
        value = fits_at ns graph (Pick c a b) s.0 (k, l, m) s.1 tt (λ env. tt);
        is = λ env f.
            picks_keep_values r.0 t.0 u.0 s.0 (value_at env ns c) (value_at env ns a) (value_at env ns b) (constant_at ns c) (constant_at ns a) (constant_at ns b) (nat_eq a c) (nat_eq b c) (nat_eq a b)
            (picked (sort_at ns c) (sort_at ns a) (sort_at ns b) r.0 t.0 u.0 (Some s.0) r.1 t.1 u.1 s.1) (value_fits ns graph env f c r.0 r.1) (value_fits ns graph env f a t.0 t.1) (value_fits ns graph env f b u.0 u.1)
            (known_at ns graph env c) (known_at ns graph env a) (known_at ns graph env b) (same_at env ns a c) (same_at env ns b c) (same_at env ns a b);
      }

  pub get_operation : (row at : ℕ) → row < length ns → at < length ns → IsSome (get_sort (sort_at ns row) (sort_at ns at)) → Operation ns (get_in ns row at) (Get row at) row at at
  get_operation row at l m fits =
      let s = the_sort (get_sort (sort_at ns row) (sort_at ns at)) fits in
      let t = sort_there ns graph row l in
      let u = sort_there ns graph at m in
      record {
        sort = s.0;
        parts = (l, m);
        sorted = s.1;
        first = l;
        second = m;
        third = m;
        value = fits_at ns graph (Get row at) s.0 (l, m) s.1 tt (λ env. tt);
        is = λ env f.
            gets_keep_values t.0 u.0 s.0 (value_at env ns row) (value_at env ns at) (value_at env ns at) (constant_at ns row) (constant_at ns at)
            (rw (sym t.1, sym u.1) s.1) (value_fits ns graph env f row t.0 t.1) (value_fits ns graph env f at u.0 u.1)
            (known_at ns graph env row) (known_at ns graph env at);
      }

  pub set_operation : (row at cell : ℕ) → row < length ns → at < length ns → cell < length ns → IsSome (set_sort (sort_at ns row) (sort_at ns at) (sort_at ns cell)) → Operation ns (set_in ns row at cell) (Set row at cell) row at cell
  set_operation row at cell k l m fits =
      let s = the_sort (set_sort (sort_at ns row) (sort_at ns at) (sort_at ns cell)) fits in
      let r = sort_there ns graph row k in
      let t = sort_there ns graph at l in
      let u = sort_there ns graph cell m in
      record {
        sort = s.0;
        parts = (k, l, m);
        sorted = s.1;
        first = k;
        second = l;
        third = m;
        value = fits_at ns graph (Set row at cell) s.0 (k, l, m) s.1 tt (λ env. tt);
        is = λ env f.
            sets_keep_values r.0 t.0 u.0 s.0 (value_at env ns row) (value_at env ns at) (value_at env ns cell) (constant_at ns row) (constant_at ns at) (constant_at ns cell) (nat_eq at cell)
            (rw (sym r.1, sym t.1, sym u.1) s.1) (value_fits ns graph env f row r.0 r.1) (value_fits ns graph env f at t.0 t.1) (value_fits ns graph env f cell u.0 u.1)
            (known_at ns graph env row) (known_at ns graph env at) (known_at ns graph env cell) (same_at env ns at cell);
      }

  pub fill_operation : (index cell : ℕ) → cell < length ns → IsTrue (is_index index) → IsSome (fill_sort index (sort_at ns cell)) → Operation ns (fill_in ns index cell) (Fill index cell) cell cell cell
  fill_operation index cell l i fits =
      let s = the_sort (fill_sort index (sort_at ns cell)) fits in
      record {
        sort = s.0;
        parts = l;
        sorted = s.1;
        first = l;
        second = l;
        third = l;
        value = fits_at ns graph (Fill index cell) s.0 l s.1 i (λ env. tt);
        is = λ env f. others_keep_values.fill index (value_at env ns cell) (value_at env ns cell) (value_at env ns cell) (constant_at ns cell) (known_at ns graph env cell);
      }

  pub slice_operation : (a high low : ℕ) → a < length ns → IsSome (slice_sort (sort_at ns a) high low) → Operation ns (slice_in ns a high low) (Slice a high low) a a a
  slice_operation a high low l fits =
      let s = the_sort (slice_sort (sort_at ns a) high low) fits in
      record {
        sort = s.0;
        parts = l;
        sorted = s.1;
        first = l;
        second = l;
        third = l;
        value = fits_at ns graph (Slice a high low) s.0 l s.1 tt (λ env. tt);
        is = λ env f. others_keep_values.slice high low (value_at env ns a) (value_at env ns a) (value_at env ns a) (constant_at ns a) (known_at ns graph env a);
      }

  pub widen_operation : (a width : ℕ) → a < length ns → IsSome (widen_sort (sort_at ns a) width) → Operation ns (widen_in ns a width) (Widen a width) a a a
  widen_operation a width l fits =
      let s = the_sort (widen_sort (sort_at ns a) width) fits in
      record {
        sort = s.0;
        parts = l;
        sorted = s.1;
        first = l;
        second = l;
        third = l;
        value = fits_at ns graph (Widen a width) s.0 l s.1 tt (λ env. tt);
        is = λ env f. others_keep_values.widen width (value_at env ns a) (value_at env ns a) (value_at env ns a) (constant_at ns a) (known_at ns graph env a);
      }

  pub join_operation : (a b : ℕ) → a < length ns → b < length ns → IsSome (join_sort (sort_at ns a) (sort_at ns b)) → Operation ns (join_in ns a b) (Join a b) a b b
  join_operation a b l m fits =
      let s = the_sort (join_sort (sort_at ns a) (sort_at ns b)) fits in
      record {
        sort = s.0;
        parts = (l, m);
        sorted = s.1;
        first = l;
        second = m;
        third = m;
        value = fits_at ns graph (Join a b) s.0 (l, m) s.1 tt (λ env. tt);
        is = λ env f. others_keep_values.join (value_at env ns a) (value_at env ns b) (value_at env ns b) (constant_at ns a) (constant_at ns b) (known_at ns graph env a) (known_at ns graph env b);
      }
