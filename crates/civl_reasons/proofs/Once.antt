-- Readings, each once.
use Rattle.std.proofs.Common.{◌≡◌, Bool, true, false, not, ◌&&◌, ◌||◌, inl, inr, List, [], ◌∷◌, ◌++◌, refl, sym, ap, ◌∙◌, append_assoc}
use Rattle.std.specs.List.{filter}
use Rattle.std.proofs.lemmas.Bool.{cases_Bool, and_parts, and_from}
use Rattle.std.proofs.lemmas.List.{append-nil}
use Rattle.std.proofs.lemmas.List.Folds.{list_any-append}
use Rattle.civl_tree.specs.declared.name.Name.{Name}
use Rattle.civl_tree.specs.declared.expr.Expr.{the_lemmas as of_expr}
use Rattle.civl_tree.specs.rules.Names.{same_name}
use Rattle.civl_tree.proofs.Naming.{same_is, is_same}
use Rattle.civl_reasons.specs.Reads.{ReadName, same_bool, same_read, each_once}
use Rattle.civl_reasons.specs.inner.Told.{is_among, with_read, with_reads}

-- ---- one reading and another

bool_is : (a b : Bool) → same_bool a b ≡ true → a ≡ b
bool_is true true h = refl
bool_is true false h = sym h
bool_is false true h = h
bool_is false false h = refl

bool_self : (a : Bool) → same_bool a a ≡ true
bool_self true = refl
bool_self false = refl

abbrev made : Name → Bool → ReadName
made n old = record { name = n; is_old = old }

pub read_is : (r s : ReadName) → same_read r s ≡ true → r ≡ s
read_is r s h =
    let parts = and_parts (same_name r.name s.name) (same_bool r.is_old s.is_old) h in
    ap (λ (n : Name). made n r.is_old) (same_is r.name s.name parts.0) ∙ ap (made s.name) (bool_is r.is_old s.is_old parts.1)

pub read_self : (r : ReadName) → same_read r r ≡ true
read_self r = and_from (same_name r.name r.name) (same_bool r.is_old r.is_old) (is_same r.name r.name refl) (bool_self r.is_old)

-- ---- lists of readings

-- two filters, one behind the other
two_filters : {X : Type 0} (p q r : X → Bool) (h : (x : X) → r x ≡ (q x && p x)) (xs : List X) → filter p (filter q xs) ≡ filter r xs
two_filters p q r h [] = refl
two_filters p q r h (x ∷ xs) = elim (cases_Bool (q x)) [
  | inl y ↦ elim (cases_Bool (p x)) [
    | inl z ↦
        let e : r x ≡ true = h x ∙ rw (y, z) refl in
        rw (y, z, e) (ap (λ (l : List _). x ∷ l) (two_filters p q r h xs))
    | inr z ↦
        let e : r x ≡ false = h x ∙ rw (y, z) refl in
        rw (y, z, e) (two_filters p q r h xs)
  ]
  | inr y ↦
      let e : r x ≡ false = h x ∙ rw y refl in
      rw (y, e) (two_filters p q r h xs)
]

-- what isn't among these, and what isn't this one
abbrev is_new : List ReadName → ReadName → Bool
is_new found s = not (is_among found s)

new_there : (found : List ReadName) (r s : ReadName) → is_among found r ≡ true → is_new found s ≡ (not (same_read r s) && is_new found s)
new_there found r s there = elim (cases_Bool (same_read r s)) [
  | inl y ↦
      let same = ap (is_among found) (sym (read_is r s y)) ∙ there in
      rw (y, same) refl
  | inr y ↦ rw y refl
]

not_either : (a b : Bool) → not (a || (b || false)) ≡ (not b && not a)
not_either true true = refl
not_either true false = refl
not_either false true = refl
not_either false false = refl

new_behind : (found : List ReadName) (r s : ReadName) → is_new (found ++ r ∷ []) s ≡ (not (same_read r s) && is_new found s)
new_behind found r s =
    ap not (list_any-append (λ (o : ReadName). same_read o s) found (r ∷ [])) ∙ not_either (is_among found s) (same_read r s)

pub with_reads_is : (found rs : List ReadName) → with_reads found rs ≡ found ++ filter (is_new found) (each_once rs)
with_reads_is found [] = sym (append-nil found)
with_reads_is found (r ∷ rs) = elim (cases_Bool (is_among found r)) [
  | inl y ↦ rw y (with_reads_is found rs ∙ ap (λ (l : List ReadName). found ++ l) (sym (two_filters (is_new found) (λ s. not (same_read r s)) (is_new found) (λ s. new_there found r s y) (each_once rs))))
  | inr y ↦ rw y (
      with_reads_is (found ++ r ∷ []) rs
      ∙ append_assoc found (r ∷ []) (filter (is_new (found ++ r ∷ [])) (each_once rs))
      ∙ ap (λ (l : List ReadName). found ++ (r ∷ l)) (sym (two_filters (is_new found) (λ s. not (same_read r s)) (is_new (found ++ r ∷ [])) (λ s. new_behind found r s) (each_once rs)))
      )
]

all_new : (rs : List ReadName) → filter (is_new []) rs ≡ rs
all_new [] = refl
all_new (r ∷ rs) = ap (λ (l : List ReadName). r ∷ l) (all_new rs)

pub from_none : (rs : List ReadName) → with_reads [] rs ≡ each_once rs
from_none rs = with_reads_is [] rs ∙ all_new (each_once rs)

-- ---- readings of several parts

pub with_both : (found firsts bs : List ReadName) → with_reads found (firsts ++ bs) ≡ with_reads (with_reads found firsts) bs
with_both found [] bs = refl
with_both found (r ∷ rs) bs = with_both (with_read found r) rs bs

pub ruleset reading = (with_both, of_expr)
