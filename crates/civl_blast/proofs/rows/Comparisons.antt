-- Whether rows are the same, cell by cell.
use Rattle.std.proofs.Common.{◌≡◌, ℕ, ◌+◌, ◌*◌, ◌<◌, ◌≤◌, List, [], ◌∷◌, length, get_or, refl, sym, ap, ap₂, ◌∙◌, inl, inr, arith, Some, Option, IsTrue, add-one}
use Rattle.civl_bits.specs.declared.value.Value.{Value}
use Rattle.civl_tree.specs.declared.expr.Sort.{Sort}
use Rattle.civl_tree.specs.declared.expr.Sort.TheVariants as sort
use Rattle.civl_tree.specs.declared.expr.Two.{Two}
use Rattle.civl_tree.specs.declared.expr.Two.TheVariants.{And, Or}
use Rattle.civl_tree.specs.rules.Sorts.{two_sort}
use Rattle.civl_firing.specs.values.Operators.{two_value}
use Rattle.civl_firing.specs.values.Weights.{bits_in, two_weight}
use Rattle.civl_terms.specs.declared.node.Node.{Node}
use Rattle.civl_terms.specs.Graphs.{sort_at, value_at}
use Rattle.civl_blast.specs.reach.Reaching.{is_plain}
use Rattle.civl_blast.specs.inner.rows.Making.{HaveSort, MakesOne, UsesTwo, UsesThree, UsesPairs, joined, IsComparison, IsJoin}
use Rattle.civl_blast.proofs.rows.Growth.{calm_trans}
use Rattle.civl_blast.proofs.rows.Solid.{all_at, adds_then, adds_as}
use Rattle.civl_blast.proofs.rows.Made.{sort_stays, value_stays, eq_sort_is, one_then}

-- ---- sorts and weights of these operations

pub comparison_sort : (op : Two) (x y s : Option Sort) → IsComparison op → x ≡ s → y ≡ s → IsTrue (is_plain s) → two_sort op x y ≡ Some sort.Bool
comparison_sort op x y s (inl e) ex ey p = ap (λ (o : Two). two_sort o x y) e ∙ eq_sort_is x y s ex ey p
comparison_sort op x y s (inr e) ex ey p = ap (λ (o : Two). two_sort o x y) e ∙ eq_sort_is x y s ex ey p

pub comparison_weight : (op : Two) (n : ℕ) → IsComparison op → two_weight op n ≡ n
comparison_weight op n (inl e) = ap (λ (o : Two). two_weight o n) e
comparison_weight op n (inr e) = ap (λ (o : Two). two_weight o n) e

pub join_sort_is : (join : Two) (x y : Option Sort) → IsJoin join → x ≡ Some sort.Bool → y ≡ Some sort.Bool → two_sort join x y ≡ Some sort.Bool
join_sort_is join x y (inl e) ex ey = ap (λ (o : Two). two_sort o x y) e ∙ ap₂ (two_sort And) ex ey
join_sort_is join x y (inr e) ex ey = ap (λ (o : Two). two_sort o x y) e ∙ ap₂ (two_sort Or) ex ey

join_weight : (join : Two) (n : ℕ) → IsJoin join → two_weight join n ≡ 1
join_weight join n (inl e) = ap (λ (o : Two). two_weight o n) e
join_weight join n (inr e) = ap (λ (o : Two). two_weight o n) e

-- ---- one more pair

pub next_made : {old mid new : List Node} (op join : Two) (all a b next id : ℕ) (s : Option Sort) → IsComparison op → IsJoin join → sort_at old all ≡ Some sort.Bool → sort_at old a ≡ s → sort_at old b ≡ s → IsTrue (is_plain s)
    → MakesOne old mid (UsesTwo a b) next (two_sort op (sort_at old a) (sort_at old b)) (λ env. two_value op (value_at env old a) (value_at env old b)) (two_weight op (bits_in (sort_at old a)))
    → MakesOne mid new (UsesTwo all next) id (two_sort join (sort_at mid all) (sort_at mid next)) (λ env. two_value join (value_at env mid all) (value_at env mid next)) (two_weight join (bits_in (sort_at mid all)))
    → MakesOne old new (UsesThree all a b) id (Some sort.Bool) (λ env. two_value join (value_at env old all) (two_value op (value_at env old a) (value_at env old b))) (bits_in s + 1)
next_made {old} {mid} {new} op join all a b next id s io ij el ea eb p m n =
    let w : Option Sort = Some sort.Bool in
    let en : sort_at mid next ≡ w = m.sorted ∙ comparison_sort op (sort_at old a) (sort_at old b) s io ea eb p in
    let g = m.calm.grows in
    let light : two_weight op (bits_in (sort_at old a)) ≡ bits_in s = comparison_weight op (bits_in (sort_at old a)) io ∙ ap bits_in ea in
    record {
      calm = calm_trans m.calm n.calm;
      adds = adds_then {Uses = UsesThree all a b} (id ∷ []) (bits_in s + 1) (adds_as (UsesThree all a b) (next ∷ []) (bits_in s) m.adds (λ t u. (u.1, u.2)) (λ t u y c x. x) (omega (arith, light))) n.adds
          (λ u k h c x. (c all h.0, x.0)) (λ u k h c x y. y) (omega (arith, join_weight join (bits_in (sort_at mid all)) ij));
      sorted = n.sorted ∙ join_sort_is join (sort_at mid all) (sort_at mid next) ij (sort_stays all w g el refl) en;
      is = λ env f. n.is env f ∙ ap₂ (two_value join) (value_stays env all w g el refl) (m.is env (n.calm.grows.fits env f));
    }

-- ---- all pairs

pub first_pair : {old new : List Node} (op join : Two) (a b : List ℕ) (id : ℕ) (s : Option Sort) → IsComparison op → HaveSort old a s → HaveSort old b s → IsTrue (is_plain s) → 0 < length a → length b ≡ length a
    → MakesOne old new (UsesTwo (get_or a 0 0) (get_or b 0 0)) id (two_sort op (sort_at old (get_or a 0 0)) (sort_at old (get_or b 0 0))) (λ env. two_value op (value_at env old (get_or a 0 0)) (value_at env old (get_or b 0 0))) (two_weight op (bits_in (sort_at old (get_or a 0 0))))
    → MakesOne old new (UsesPairs a b) id (Some sort.Bool) (λ env. joined op join (λ c. value_at env old (get_or a c 0)) (λ c. value_at env old (get_or b c 0)) 0) ((0 + 1) * (bits_in s + 1))
first_pair {old} {new} op join a b id s io ea eb p l size m =
    let light : two_weight op (bits_in (sort_at old (get_or a 0 0))) ≡ bits_in s = comparison_weight op (bits_in (sort_at old (get_or a 0 0))) io ∙ ap bits_in (ea 0 l) in
    record {
      calm = m.calm;
      adds = adds_as (UsesPairs a b) (id ∷ []) ((0 + 1) * (bits_in s + 1)) m.adds (λ t u. (all_at t a 0 0 u.0 l, all_at t b 0 0 u.1 (omega arith))) (λ t u y c x. x) (omega (arith, light));
      sorted = m.sorted ∙ comparison_sort op (sort_at old (get_or a 0 0)) (sort_at old (get_or b 0 0)) s io (ea 0 l) (eb 0 (omega arith)) p;
      is = m.is;
    }

pairs_more : (i b q : ℕ) → q ≡ b → (i + 1) * (b + 1) + (q + 1) ≤ (i + 1 + 1) * (b + 1)
pairs_more i b q e = grind arith

pub more_pairs : {old mid new : List Node} (op join : Two) (a b : List ℕ) (i all id : ℕ) (s : Option Sort) → HaveSort old a s → HaveSort old b s → IsTrue (is_plain s) → i + 1 < length a → length b ≡ length a
    → MakesOne old mid (UsesPairs a b) all (Some sort.Bool) (λ env. joined op join (λ c. value_at env old (get_or a c 0)) (λ c. value_at env old (get_or b c 0)) i) ((i + 1) * (bits_in s + 1))
    → MakesOne mid new (UsesThree all (get_or a (i + 1) 0) (get_or b (i + 1) 0)) id (Some sort.Bool) (λ env. two_value join (value_at env mid all) (two_value op (value_at env mid (get_or a (i + 1) 0)) (value_at env mid (get_or b (i + 1) 0)))) (bits_in (sort_at mid (get_or a (i + 1) 0)) + 1)
    → MakesOne old new (UsesPairs a b) id (Some sort.Bool) (λ env. joined op join (λ c. value_at env old (get_or a c 0)) (λ c. value_at env old (get_or b c 0)) (i + 1)) ((i + 1 + 1) * (bits_in s + 1))
more_pairs {old} {mid} {new} op join a b i all id s ea eb p l size m n =
    let g = m.calm.grows in
    let k = i + 1 in
    let x : (ℕ → Value) → ℕ → Value = λ env c. value_at env old (get_or a c 0) in
    let y : (ℕ → Value) → ℕ → Value = λ env c. value_at env old (get_or b c 0) in
    one_then (Some sort.Bool) (λ env. joined op join (x env) (y env) (i + 1)) ((i + 1 + 1) * (bits_in s + 1)) m n
    (λ u t h c z. (z, c (get_or a (i + 1) 0) (all_at u a (i + 1) 0 h.0 l), c (get_or b (i + 1) 0) (all_at u b (i + 1) 0 h.1 (omega arith))))
    refl
    (λ env f.
    ap₂ (two_value join) (m.is env (n.calm.grows.fits env f))
    (ap₂ (two_value op) (value_stays env (get_or a (i + 1) 0) s g (ea (i + 1) l) p) (value_stays env (get_or b (i + 1) 0) s g (eb (i + 1) (omega arith)) p))
    ∙ ap (λ (c : ℕ). two_value join (joined op join (x env) (y env) i) (two_value op (x env c) (y env c))) (add-one i)
    ∙ ap (joined op join (x env) (y env)) (sym (add-one i)))
    (pairs_more i (bits_in s) (bits_in (sort_at mid (get_or a (i + 1) 0))) (ap bits_in (sort_stays (get_or a (i + 1) 0) s g (ea (i + 1) l) p)))
