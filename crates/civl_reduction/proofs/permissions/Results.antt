-- The results of a call: what is held behind it carries no more than what was held before and what the call gave; and the
-- parameters keep their values.
use Rattle.std.proofs.Common.{◌≡◌, ℕ, zero, suc, ◌+◌, ◌≤◌, Bool, true, false, not, ◌&&◌, ◌||◌, List, [], ◌∷◌, ◌++◌, length, take, refl, sym, ap, ◌∙◌, subst, arith, slice_set, add-one, inl, inr}
use Rattle.std.specs.Prelude.{if◌then◌else◌}
use Rattle.std.specs.List.{list_any}
use Rattle.std.proofs.lemmas.Bool.{false≢true, or_parts, not-false, or_left, or_right, or_cases, and_parts, false_from_ne_true, both_ways}
use Rattle.std.proofs.lemmas.List.{length-map}
use Rattle.civl_bits.specs.declared.value.Value.{Value}
use Rattle.civl_tree.specs.declared.name.Name.{Name}
use Rattle.civl_tree.specs.declared.action.Param.{Param}
use Rattle.civl_tree.specs.declared.program.Proc.{Proc}
use Rattle.civl_tree.specs.rules.Names.{same_name, has_name, any_twice, param_names, names_in_proc}
use Rattle.civl_tree.proofs.Naming.{same_is}
use Rattle.civl_firing.specs.Truth.{place_of}
use Rattle.civl_meaning.specs.Permissions.{permissions_of_word}
use Rattle.civl_meaning.specs.Change.{with_results}
use Rattle.civl_linear.specs.Modes.{is_passed, is_given, given_names}
use Rattle.civl_linear.specs.Held.{holds, with_names}
use Rattle.civl_linear.specs.Places.{passes_in, is_param, may_get, misgiven, any_misgiven}
use Rattle.civl_linear.specs.Lengths.{OneEach}
use Rattle.civl_linear.proofs.Beside.{with_names_each}
use Rattle.civl_conditions.specs.Permissions.{of_modes}
use Rattle.civl_reduction.proofs.permissions.Counting.{carriers}
use Rattle.civl_reduction.proofs.permissions.Flags.{IsWithin, amount, within_less, same_back}
use Rattle.civl_reduction.proofs.permissions.Putting.{set_apart, set_held, holds_with, with_both}
use Rattle.civl_reduction.proofs.permissions.Linear.{IsLinear}

with_none : (names : List Name) (f : List Bool) → IsWithin (with_names [] names f) f
with_none [] f i e = absurd cc
with_none (n ∷ ns) [] i e = absurd cc
with_none (n ∷ ns) (true ∷ f) zero e = refl
with_none (n ∷ ns) (false ∷ f) zero e = absurd cc
with_none (n ∷ ns) (b ∷ f) (suc i) e = with_none ns f i e

-- a parameter that passes a linear value in is a parameter
passes_param : (ps : List Param) (x : Name) → passes_in ps x ≡ true → has_name (param_names ps) x ≡ true
passes_param [] x h = absurd (false≢true h)
passes_param (p ∷ ps) x h = elim (or_cases (is_passed p.mode && same_name p.name x) (passes_in ps x) h) [
  | inl e ↦ or_left (same_name x p.name) _ (same_back p.name x (and_parts (is_passed p.mode) (same_name p.name x) e).1)
  | inr e ↦ or_right (same_name x p.name) _ (passes_param ps x e)
]

given_among : (os : List Param) (rs : List Name) (x : Name) → has_name (given_names os rs) x ≡ true → has_name rs x ≡ true
given_among [] rs x h = absurd (false≢true h)
given_among (o ∷ os) [] x h = absurd (false≢true h)
given_among (o ∷ os) (r ∷ rs) x h = go (is_given o.mode) h (given_among os rs x)
  where
    go : (b : Bool) → has_name ((if b then r ∷ [] else []) ++ given_names os rs) x ≡ true → (has_name (given_names os rs) x ≡ true → has_name rs x ≡ true) → (same_name x r || has_name rs x) ≡ true
    go false k ih = or_right (same_name x r) _ (ih k)
    go true k ih = elim (or_cases (same_name x r) (has_name (given_names os rs) x) k) [ inl e ↦ or_left _ _ e | inr e ↦ or_right (same_name x r) _ (ih e) ]

module _ (proc : Proc) where
  abbrev names : List Name
  names = names_in_proc proc

  -- what may not be held isn't
  pub not_target : (f : List Bool) (x : Name) → IsLinear proc f → is_param proc x ≡ false → may_get proc x ≡ false → holds names f x ≡ false
  not_target f x h p g = false_from_ne_true (holds names f x) (λ e. elim (or_cases (passes_in proc.params x) (may_get proc x) (h x e)) [
    | inl q ↦ both_ways (is_param proc x) p (passes_param proc.params x q)
    | inr q ↦ both_ways (may_get proc x) g q
  ])

  -- names that aren't this one and weren't held aren't held with it
  none_with : (f : List Bool) (r : Name) (xs : List Name) → has_name xs r ≡ false → list_any (holds names f) xs ≡ false → list_any (holds names (with_names (r ∷ []) names f)) xs ≡ false
  none_with f r [] n h = refl
  none_with f r (x ∷ xs) n h =
      let a = or_parts (same_name r x) (has_name xs r) n in
      let b = or_parts (holds names f x) (list_any (holds names f) xs) h in
      let here : holds names (with_names (r ∷ []) names f) x ≡ false = false_from_ne_true _ (λ e. elim (holds_with (r ∷ []) names f x e) [
        | inl q ↦ both_ways (holds names f x) b.0 q
        | inr q ↦ both_ways (same_name r x) a.0 (same_back x r (elim (or_cases (same_name x r) false q) [ inl u ↦ u | inr u ↦ absurd (false≢true u) ]))
      ]) in
      rw here (none_with f r xs a.1 b.1)

  linear_with : (f : List Bool) (r : Name) → may_get proc r ≡ true → IsLinear proc f → IsLinear proc (with_names (r ∷ []) names f)
  linear_with f r g h x e = elim (holds_with (r ∷ []) names f x e) [
    | inl q ↦ h x q
    | inr q ↦ or_right (passes_in proc.params x) (may_get proc x) (elim (or_cases (same_name x r) false q) [ inl u ↦ subst (λ (n : Name). may_get proc n ≡ true) (sym (same_is x r u)) g | inr u ↦ absurd (false≢true u) ])
  ]

  module _ (p : ℕ) (once : any_twice names ≡ false) where
    pub results_carry : (os : List Param) (rs : List Name) (vals : List Value) (f : List Bool) (vs : List Value) → length rs ≡ length os → length vals ≡ length os → any_twice rs ≡ false → any_misgiven proc os rs ≡ false
        → list_any (holds names f) (given_names os rs) ≡ false → IsLinear proc f → OneEach names f
        → amount p (with_names (given_names os rs) names f) (with_results names vs rs vals) ≤ amount p f vs + carriers p (of_modes is_given os vals)
    results_carry [] [] vals f vs e g t m h l o = let w = within_less p (with_names [] names f) f vs (with_none names f) in omega (arith, w)
    results_carry [] (r ∷ rs) vals f vs e g t m h l o = absurd (omega (arith, e))
    results_carry (out ∷ os) [] vals f vs e g t m h l o = absurd (omega (arith, e))
    results_carry (out ∷ os) (r ∷ rs) [] f vs e g t m h l o = absurd (omega (arith, g))
    results_carry (out ∷ os) (r ∷ rs) (v ∷ vals) f vs e g t m h l o =
        go (is_given out.mode) refl h (λ f2. results_carry os rs vals f2 (slice_set vs (place_of names r) v) (omega (arith, e)) (omega (arith, g)) (or_parts (has_name rs r) (any_twice rs) t).1 (or_parts (misgiven proc out.mode r) (any_misgiven proc os rs) m).1)
      where
        set : List Value
        set = slice_set vs (place_of names r) v

        wrong : (is_param proc r ≡ false) × ((if is_given out.mode then not (may_get proc r) else may_get proc r) ≡ false)
        wrong = or_parts _ _ (or_parts (misgiven proc out.mode r) (any_misgiven proc os rs) m).0

        go : (b : Bool) → is_given out.mode ≡ b → list_any (holds names f) ((if b then r ∷ [] else []) ++ given_names os rs) ≡ false
            → ((f2 : List Bool) → list_any (holds names f2) (given_names os rs) ≡ false → IsLinear proc f2 → OneEach names f2
            → amount p (with_names (given_names os rs) names f2) (with_results names (slice_set vs (place_of names r) v) rs vals) ≤ amount p f2 (slice_set vs (place_of names r) v) + carriers p (of_modes is_given os vals))
            → amount p (with_names ((if b then r ∷ [] else []) ++ given_names os rs) names f) (with_results names (slice_set vs (place_of names r) v) rs vals) ≤ amount p f vs + carriers p ((if b then permissions_of_word v ∷ [] else []) ++ of_modes is_given os vals)
        go false q k ih =
            let gets : may_get proc r ≡ false = subst (λ (c : Bool). (if c then not (may_get proc r) else may_get proc r) ≡ false) q wrong.1 in
            let rest = ih f k l o in
            let one = set_apart p names r f vs v o (not_target f r l wrong.0 gets) in
            omega (arith, rest, one)
        go true q k ih =
            let gets : may_get proc r ≡ true = not-false (may_get proc r) (subst (λ (c : Bool). (if c then not (may_get proc r) else may_get proc r) ≡ false) q wrong.1) in
            let a = or_parts (holds names f r) (list_any (holds names f) (given_names os rs)) k in
            let absent = false_from_ne_true (has_name (given_names os rs) r) (λ u. both_ways (has_name rs r) (or_parts (has_name rs r) (any_twice rs) t).0 (given_among os rs r u)) in
            let rest = ih (with_names (r ∷ []) names f) (none_with f r (given_names os rs) absent a.1) (linear_with f r gets l) (with_names_each (r ∷ []) names f o) in
            let one = set_held p names r f vs v once a.0 in
            let both = within_less p (with_names (r ∷ given_names os rs) names f) _ (with_results names (slice_set vs (place_of names r) v) rs vals) (with_both r (given_names os rs) names f) in
            omega (arith, rest, one, both)

-- ---- parameters keep their values

first_kept : (ps others : List Name) (x : Name) (vs : List Value) (v : Value) → has_name ps x ≡ false → take (length ps) (slice_set vs (place_of (ps ++ others) x) v) ≡ take (length ps) vs
first_kept [] others x vs v h = refl
first_kept (n ∷ ps) others x [] v h = refl
first_kept (n ∷ ps) others x (w ∷ vs) v h = go (same_name n x) refl (first_kept ps others x vs v (or_parts (same_name x n) (has_name ps x) h).1)
  where
    go : (c : Bool) → same_name n x ≡ c → take (length ps) (slice_set vs (place_of (ps ++ others) x) v) ≡ take (length ps) vs → take (suc (length ps)) (slice_set (w ∷ vs) (if c then 0 else place_of (ps ++ others) x + 1) v) ≡ w ∷ take (length ps) vs
    go true e ih = absurd (both_ways (same_name x n) (or_parts (same_name x n) (has_name ps x) h).0 (same_back n x e))
    go false e ih = rw (add-one (place_of (ps ++ others) x)) (ap (λ (l : List Value). w ∷ l) ih)

pub set_kept : (proc : Proc) (x : Name) (vs : List Value) (v : Value) → is_param proc x ≡ false → take (length proc.params) (slice_set vs (place_of (names_in_proc proc) x) v) ≡ take (length proc.params) vs
set_kept proc x vs v h =
    let size : length (param_names proc.params) ≡ length proc.params = length-map proc.params (λ p. p.name) in
    subst (λ n. take n (slice_set vs (place_of (names_in_proc proc) x) v) ≡ take n vs) size (first_kept (param_names proc.params) _ x vs v h)

pub results_kept : (proc : Proc) (os : List Param) (rs : List Name) (vals vs : List Value) → length rs ≡ length os → any_misgiven proc os rs ≡ false → take (length proc.params) (with_results (names_in_proc proc) vs rs vals) ≡ take (length proc.params) vs
results_kept proc os [] vals vs e m = refl
results_kept proc os (r ∷ rs) [] vs e m = refl
results_kept proc [] (r ∷ rs) (v ∷ vals) vs e m = absurd (omega (arith, e))
results_kept proc (o ∷ os) (r ∷ rs) (v ∷ vals) vs e m =
    let a = or_parts (misgiven proc o.mode r) (any_misgiven proc os rs) m in
    results_kept proc os rs vals (slice_set vs (place_of (names_in_proc proc) r) v) (omega (arith, e)) a.1 ∙ set_kept proc r vs v (or_parts _ _ a.0).0
