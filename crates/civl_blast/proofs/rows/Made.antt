-- Several nodes that are built, one after the other.
use Rattle.std.proofs.Common.{◌≡◌, ℕ, ◌+◌, ◌<◌, ◌≤◌, List, [], ◌∷◌, ◌++◌, length, get_or, refl, sym, ap, ap₂, ◌∙◌, subst, inl, inr, arith, Some, None, Option, IsTrue, Bool}
use Rattle.std.specs.Prelude.{if◌then◌else◌}
use Rattle.std.proofs.lemmas.Bool.{false≢true, cases_lt}
use Rattle.std.proofs.lemmas.List.{get_or_append_left, get_or_push, length_push}
use Rattle.civl_bits.specs.declared.value.Value.{Value}
use Rattle.civl_tree.specs.declared.expr.Sort.{Sort}
use Rattle.civl_tree.specs.declared.expr.Sort.TheVariants as sort
use Rattle.civl_tree.specs.declared.expr.Two.TheVariants.{Eq}
use Rattle.civl_tree.specs.rules.Sorts.{two_sort, pick_sort, common_sort}
use Rattle.civl_firing.specs.values.Operators.{pick_value}
use Rattle.civl_firing.proofs.SortLimits.{same_self}
use Rattle.civl_terms.specs.declared.node.Node.{Node}
use Rattle.civl_terms.specs.Graphs.{sort_at, value_at, Fits}
use Rattle.civl_terms.specs.Building.{Lengthens, Grows}
use Rattle.civl_blast.specs.reach.Reaching.{is_plain}
use Rattle.civl_blast.specs.inner.rows.Making.{Has, AllIn, Covers, Makes, MakesOne}
use Rattle.std.proofs.lemmas.List.{get_or_past}
use Rattle.civl_terms.specs.Graphs.{sorts}
use Rattle.civl_terms.proofs.Nodes.{length-sorts}
use Rattle.civl_blast.proofs.rows.Growth.{calm_refl, calm_trans, grows_refl, longer}
use Rattle.civl_blast.proofs.rows.Solid.{adds_none, adds_then, adds_as, all-append}

-- ---- a node that has a sort is there

pub sort_past : (ns : List Node) (i : ℕ) → length ns ≤ i → sort_at ns i ≡ None
sort_past ns i h = get_or_past (sorts ns) i None (omega (arith, length-sorts ns))

pub within_plain : (ns : List Node) (i : ℕ) → IsTrue (is_plain (sort_at ns i)) → i < length ns
within_plain ns i h = elim (cases_lt i (length ns)) [
  | inl l ↦ l
  | inr l ↦ absurd (false≢true (sym (ap is_plain (sort_past ns i l)) ∙ h))
]

pub within_sorted : (ns : List Node) (i : ℕ) (s : Option Sort) → sort_at ns i ≡ s → IsTrue (is_plain s) → i < length ns
within_sorted ns i s e h = within_plain ns i (ap is_plain e ∙ h)

pub within_some : (ns : List Node) (i : ℕ) (s : Sort) → sort_at ns i ≡ Some s → i < length ns
within_some ns i s e = elim (cases_lt i (length ns)) [
  | inl l ↦ l
  | inr l ↦ absurd (no (sym (sort_past ns i l) ∙ e))
] where
  no : None ≡ Some s → ⊥
  no q = cc

-- and keeps it, and its value
pub sort_kept : {old new : List Node} (i : ℕ) (s : Option Sort) → Lengthens old new → sort_at old i ≡ s → IsTrue (is_plain s) → sort_at new i ≡ s
sort_kept {old} {new} i s g e h = g.sorts i (within_sorted old i s e h) ∙ e

pub value_kept : {old new : List Node} (env : ℕ → Value) (i : ℕ) (s : Option Sort) → Lengthens old new → sort_at old i ≡ s → IsTrue (is_plain s) → value_at env new i ≡ value_at env old i
value_kept {old} {new} env i s g e h = g.values env i (within_sorted old i s e h)

pub sort_stays : {old new : List Node} (i : ℕ) (s : Option Sort) → Grows old new → sort_at old i ≡ s → IsTrue (is_plain s) → sort_at new i ≡ s
sort_stays i s g e h = sort_kept i s (longer g) e h

pub value_stays : {old new : List Node} (env : ℕ → Value) (i : ℕ) (s : Option Sort) → Grows old new → sort_at old i ≡ s → IsTrue (is_plain s) → value_at env new i ≡ value_at env old i
value_stays env i s g e h = value_kept env i s (longer g) e h

-- ---- lists of nodes

pub makes_none : (ns : List Node) (Uses : List ℕ → Type 0) (s : Option Sort) (value : (ℕ → Value) → ℕ → Value) → Makes ns ns Uses [] 0 s value 0
makes_none ns Uses s value = record {
  calm = calm_refl ns;
  adds = adds_none Uses [] 0 (grows_refl ns) (λ t u. tt);
  size = refl;
  sorted = λ c h. absurd (omega arith);
  is = λ env f c h. absurd (omega arith);
}

pub makes_push : {old mid new : List Node} {Uses More : List ℕ → Type 0} {ids : List ℕ} {n p q : ℕ} {s : Option Sort} {value : (ℕ → Value) → ℕ → Value} {one : (ℕ → Value) → Value} {t : Option Sort} (id cost : ℕ) → IsTrue (is_plain s) → Makes old mid Uses ids n s value p → MakesOne mid new More id t one q → t ≡ s → ((u v : List ℕ) → Uses u → Covers u v → AllIn v ids → More v) → ((env : ℕ → Value) → one env ≡ value env n) → p + q ≤ cost → Makes old new Uses (ids ++ id ∷ []) (n + 1) s value cost
makes_push {old} {mid} {new} {Uses} {More} {ids} {n} {p} {q} {s} {value} {one} {t} id cost plain m o e uses values light = record {
  calm = calm_trans m.calm o.calm;
  adds = adds_then (ids ++ id ∷ []) cost m.adds o.adds uses (λ u v y c a b. all-append v ids (id ∷ []) a b) light;
  size = length_push ids id ∙ ap (λ (k : ℕ). k + 1) m.size;
  sorted = λ c h. elim (cases_lt c n) [
    | inl l ↦
        let k : get_or (ids ++ id ∷ []) c 0 ≡ get_or ids c 0 = get_or_append_left ids (id ∷ []) 0 c (omega (arith, m.size)) in
        ap (sort_at new) k ∙ sort_stays (get_or ids c 0) s o.calm.grows (m.sorted c (omega (arith, m.size))) plain
    | inr l ↦
        let k : get_or (ids ++ id ∷ []) c 0 ≡ id = get_or_push ids id 0 c (omega (arith, m.size, length_push ids id)) in
        ap (sort_at new) k ∙ o.sorted ∙ e
  ];
  is = λ env f c h. elim (cases_lt c n) [
    | inl l ↦
        let k : get_or (ids ++ id ∷ []) c 0 ≡ get_or ids c 0 = get_or_append_left ids (id ∷ []) 0 c (omega (arith, m.size)) in
        ap (value_at env new) k ∙ value_stays env (get_or ids c 0) s o.calm.grows (m.sorted c (omega (arith, m.size))) plain ∙ m.is env (o.calm.grows.fits env f) c (omega (arith, m.size))
    | inr l ↦
        let z : c ≡ n = omega (arith, m.size, length_push ids id) in
        let k : get_or (ids ++ id ∷ []) c 0 ≡ id = get_or_push ids id 0 c (omega (arith, m.size)) in
        ap (value_at env new) k ∙ o.is env f ∙ values env ∙ ap (value env) (sym z)
  ];
}

-- ---- sorts that fit

common_itself : (s : Option Sort) → common_sort s s ≡ s
common_itself None = refl
common_itself (Some s) = ap (λ (b : Bool). if b then Some s else None) (same_self s)

pub pick_sort_is : (o p q s : Option Sort) → o ≡ Some sort.Bool → p ≡ s → q ≡ s → pick_sort o p q ≡ s
pick_sort_is o p q s eo ep eq =
    ap (λ (z : Option Sort). pick_sort z p q) eo ∙ ap₂ common_sort ep eq ∙ common_itself s

pub eq_sort_is : (p q s : Option Sort) → p ≡ s → q ≡ s → IsTrue (is_plain s) → two_sort Eq p q ≡ Some sort.Bool
eq_sort_is p q s ep eq h = ap₂ (two_sort Eq) ep eq ∙ over s h where
  over : (s : Option Sort) → IsTrue (is_plain s) → two_sort Eq s s ≡ Some sort.Bool
  over None y = absurd (false≢true y)
  over (Some t) y = ap (λ (b : Bool). two_sort Eq (Some t) (Some t)) (same_self t) ∙ (rw (same_self t) refl)

-- ---- values

pub pick_same : {a b c x y z : Value} → a ≡ x → b ≡ y → c ≡ z → pick_value a b c ≡ pick_value x y z
pick_same {a} {b} {c} {x} {y} {z} e f g = ap (λ (v : Value). pick_value v b c) e ∙ ap₂ (pick_value x) f g

-- ---- one node after another

-- for sets that hold more
pub one_as : {a b : List Node} {Uses : List ℕ → Type 0} {x p : ℕ} {s : Option Sort} {v : (ℕ → Value) → Value} (More : List ℕ → Type 0) → MakesOne a b Uses x s v p → ((t : List ℕ) → More t → Uses t) → MakesOne a b More x s v p
one_as {a} {b} {Uses} {x} {p} More m h = record { calm = m.calm; adds = adds_as More (x ∷ []) p m.adds h (λ s t u c y. y) (omega arith); sorted = m.sorted; is = m.is }

pub one_then : {a b c : List Node} {Uses More : List ℕ → Type 0} {x y p q : ℕ} {s t : Option Sort} {v w : (ℕ → Value) → Value} (r : Option Sort) (z : (ℕ → Value) → Value) (cost : ℕ) → MakesOne a b Uses x s v p → MakesOne b c More y t w q → ((u k : List ℕ) → Uses u → Covers u k → Has k x → More k) → t ≡ r → ((env : ℕ → Value) → Fits env c → w env ≡ z env) → p + q ≤ cost → MakesOne a c Uses y r z cost
one_then {a} {b} {c} {Uses} {More} {x} {y} r z cost m n uses e values light = record {
  calm = calm_trans m.calm n.calm;
  adds = adds_then (y ∷ []) cost m.adds n.adds (λ u k h g i. uses u k h g i.0) (λ u k h g i j. j) light;
  sorted = n.sorted ∙ e;
  is = λ env f. n.is env f ∙ values env f;
}

-- one list after another
pub makes_then : {a b c : List Node} {Uses More : List ℕ → Type 0} {ids out : List ℕ} {n m p q : ℕ} {s t : Option Sort} {v w : (ℕ → Value) → ℕ → Value} (z : (ℕ → Value) → ℕ → Value) (cost : ℕ) → Makes a b Uses ids n s v p → Makes b c More out m t w q → ((u k : List ℕ) → Uses u → Covers u k → AllIn k ids → More k) → t ≡ s → ((env : ℕ → Value) → Fits env c → (i : ℕ) → i < m → w env i ≡ z env i) → p + q ≤ cost → Makes a c Uses out m s z cost
makes_then {a} {b} {c} {Uses} {More} {ids} {out} z cost m n uses e values light = record {
  calm = calm_trans m.calm n.calm;
  adds = adds_then out cost m.adds n.adds uses (λ u k h g i j. j) light;
  size = n.size;
  sorted = λ i h. n.sorted i h ∙ e;
  is = λ env f i h. n.is env f i h ∙ values env f i (omega (arith, n.size));
}

-- a node before a list
pub one_makes : {a b c : List Node} {Uses More : List ℕ → Type 0} {out : List ℕ} {x m p q : ℕ} {s t : Option Sort} {v : (ℕ → Value) → Value} {w : (ℕ → Value) → ℕ → Value} (r : Option Sort) (z : (ℕ → Value) → ℕ → Value) (cost : ℕ) → MakesOne a b Uses x s v p → Makes b c More out m t w q → ((u k : List ℕ) → Uses u → Covers u k → Has k x → More k) → t ≡ r → ((env : ℕ → Value) → Fits env c → (i : ℕ) → i < m → w env i ≡ z env i) → p + q ≤ cost → Makes a c Uses out m r z cost
one_makes {a} {b} {c} {Uses} {More} {out} r z cost m n uses e values light = record {
  calm = calm_trans m.calm n.calm;
  adds = adds_then out cost m.adds n.adds (λ u k h g i. uses u k h g i.0) (λ u k h g i j. j) light;
  size = n.size;
  sorted = λ i h. n.sorted i h ∙ e;
  is = λ env f i h. n.is env f i h ∙ values env f i (omega (arith, n.size));
}

-- one more, in a loop
pub makes_more : {old mid new : List Node} {Uses More : List ℕ → Type 0} {ids : List ℕ} {n p q : ℕ} {s : Option Sort} {value : (ℕ → Value) → ℕ → Value} {one : (ℕ → Value) → Value} {t : Option Sort} (id cost : ℕ) (out : List ℕ) → IsTrue (is_plain s) → Makes old mid Uses ids n s value p → MakesOne mid new More id t one q → t ≡ s → ((u v : List ℕ) → Uses u → Covers u v → More v) → ((env : ℕ → Value) → one env ≡ value env n) → p + q ≤ cost → out ≡ ids ++ id ∷ [] → Makes old new Uses out (n + 1) s value cost
makes_more {old} {mid} {new} {Uses} {More} {ids} {n} {p} {q} {s} {value} id cost out plain m o e uses values light eq =
    let P : List ℕ → Type 0 = λ xs. Makes old new Uses xs (n + 1) s value cost in
    subst P (sym eq) (makes_push id cost plain m o e (λ u v y c a. uses u v y c) values light)
