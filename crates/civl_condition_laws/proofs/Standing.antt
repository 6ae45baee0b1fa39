-- Where the values of a path's beginning stand in a list of them, one part behind the other.
use Rattle.std.proofs.Common.{◌≡◌, ℕ, ◌+◌, zero, suc, Bool, true, false, List, [], ◌∷◌, ◌++◌, map, length, take, drop, get_or, inl, inr, refl, sym, ap, ◌∙◌, arith}
use Rattle.std.specs.Prelude.{nat_eq, if◌then◌else◌}
use Rattle.std.specs.List.{Contains}
use Rattle.std.proofs.lemmas.Bool.{false≢true, true≢false, eqb-true, eq-eqb}
use Rattle.std.proofs.lemmas.List.{length-append, length-map, append_assoc, take_at, drop_at, drop-drop, get_or-drop}
use Rattle.civl_bits.specs.declared.value.Value.{Value}
use Rattle.civl_bits.specs.declared.value.Value.TheVariants as value
use Rattle.civl_firing.specs.values.Operators.{nothing}
use Rattle.civl_firing.specs.values.Values.{HaveSorts, is_true}
use Rattle.civl_tree.specs.declared.expr.Sort.{Sort}
use Rattle.civl_tree.specs.declared.action.Choice.{Choice}
use Rattle.civl_tree.proofs.Pairs.{contains_nil, contains_here, contains_there, contains_cons}
use Rattle.civl_firing.proofs.Having.{no_sorts, more_sorts, first_sort, rest_sorts, have_length}
use Rattle.civl_conditions.specs.declared.condition.Variable.{Variable}
use Rattle.civl_conditions.specs.Variables.{where_has, call_front, of_choices, of_passed, flag}
use Rattle.civl_conditions.specs.Values.{part, flag_at, where_so, choices_count, chosen_in}
use Rattle.civl_condition_laws.proofs.Gathering.{Fit, fit_more, fit_named}

-- ---- sorts

-- the first values have the first sorts, and the others the other ones
pub sorts_apart : (ss ts : List Sort) (vs : List Value) (n : ℕ) → length ss ≡ n → HaveSorts vs (ss ++ ts) → HaveSorts (take n vs) ss × HaveSorts (drop n vs) ts
sorts_apart [] ts vs zero e h = (no_sorts, h)
sorts_apart [] ts vs (suc n) e h = absurd (omega (arith, e))
sorts_apart (s ∷ ss) ts vs zero e h = absurd (omega (arith, e))
sorts_apart (s ∷ ss) ts [] (suc n) e h = absurd (false≢true h.are)
sorts_apart (s ∷ ss) ts (v ∷ vs) (suc n) e h =
    let others = sorts_apart ss ts vs n (omega (arith, e)) (rest_sorts v s vs (ss ++ ts) h) in
    (more_sorts v s (take n vs) ss (first_sort v s vs (ss ++ ts) h) others.0, others.1)

-- ---- one part behind the other

-- past a part stand those behind it
pub past : (values here tail others : List Value) (at n : ℕ) → drop at values ≡ (here ++ tail) ++ others → length here ≡ n → drop (at + n) values ≡ tail ++ others
past values here tail others at n there e = sym (drop-drop n at values) ∙ (ap (drop n) (there ∙ append_assoc here tail others) ∙ drop_at here (tail ++ others) n e)

pub stands : (values here tail others : List Value) (at n : ℕ) → drop at values ≡ (here ++ tail) ++ others → length here ≡ n → part values at n ≡ here
stands values here tail others at n there e = ap (take n) (there ∙ append_assoc here tail others) ∙ take_at here (tail ++ others) n e

pub flag_stands : (values tail others : List Value) (at : ℕ) (d : Bool) → drop at values ≡ ((value.Bool d ∷ []) ++ tail) ++ others → flag_at values at ≡ d
flag_stands values tail others at d there =
    ap (λ (n : ℕ). is_true (get_or values n nothing)) (omega arith)
    ∙ (ap is_true (sym (get_or-drop at values 0 nothing)) ∙ ap (λ (vs : List Value). is_true (get_or vs 0 nothing)) there)

-- ---- where there are some

abbrev pub where_vals : Bool → List Value → List Value
where_vals has values = if has then values else []

pub where_length : (has : Bool) (values : List Value) (n : ℕ) → length values ≡ n → length (where_vals has values) ≡ where_so has n
where_length true values n e = e
where_length false values n e = refl

pub where_fit : (has : Bool) (values : List Value) (variables : List Variable) → Fit values variables → Fit (where_vals has values) (where_has has variables)
where_fit true values variables h = h
where_fit false values variables h = no_sorts

pub flag_fit : (d : Bool) (bytes : List ℕ) → Fit (value.Bool d ∷ []) (flag bytes ∷ [])
flag_fit d bytes = more_sorts (value.Bool d) (flag bytes).sort [] [] (tt, refl) no_sorts

-- ---- choices

module _ (chosen : ℕ → List Value) where
  -- those of these statements, one behind the other
  abbrev pub picked : List (ℕ × List Choice) → List Value
  picked [] = []
  picked (q ∷ qs) = chosen q.0 ++ picked qs

  -- they are of the choices' sorts
  abbrev pub AreChosen : List (ℕ × List Choice) → Type 0
  AreChosen qs = (q : ℕ × List Choice) → Contains qs q → HaveSorts (chosen q.0) (map (λ c. c.sort) q.1)

  chosen_length : (q : ℕ × List Choice) → HaveSorts (chosen q.0) (map (λ c. c.sort) q.1) → length (chosen q.0) ≡ length q.1
  chosen_length q h = have_length (chosen q.0) (map (λ c. c.sort) q.1) h ∙ length-map q.1 (λ c. c.sort)

  pub picked_length : (qs : List (ℕ × List Choice)) → AreChosen qs → length (picked qs) ≡ choices_count qs
  picked_length [] h = refl
  picked_length (q ∷ qs) h =
      length-append (chosen q.0) (picked qs)
      ∙ (ap (λ (n : ℕ). n + length (picked qs)) (chosen_length q (h q (contains_here q qs))) ∙ ap (λ (n : ℕ). length q.1 + n) (picked_length qs (λ p a. h p (contains_there q qs p a))))

  pub picked_fit : (qs : List (ℕ × List Choice)) → AreChosen qs → Fit (picked qs) (of_passed qs)
  picked_fit [] h = no_sorts
  picked_fit (q ∷ qs) h =
      fit_more (chosen q.0) (picked qs) (of_choices (call_front q.0) q.1) (of_passed qs) (fit_named (λ c. c.name) (λ c. c.sort) (call_front q.0) q.1 (chosen q.0) (h q (contains_here q qs)))
      (picked_fit qs (λ p a. h p (contains_there q qs p a)))

  -- and so each of these statements finds its own
  pub chosen_there : (qs : List (ℕ × List Choice)) → AreChosen qs → (values others : List Value) (at : ℕ) → drop at values ≡ picked qs ++ others → (q : ℕ × List Choice) → Contains qs q → chosen_in qs values at q.0 ≡ chosen q.0
  chosen_there [] h values others at there q a = absurd (contains_nil q a)
  chosen_there (p ∷ qs) h values others at there q a =
      by_test (nat_eq p.0 q.0) refl
      (chosen_there qs (λ r b. h r (contains_there p qs r b)) values others (at + length p.1) (past values (chosen p.0) (picked qs) others at (length p.1) there long) q)
    where
      long : length (chosen p.0) ≡ length p.1
      long = chosen_length p (h p (contains_here p qs))

      by_test : (b : Bool) → nat_eq p.0 q.0 ≡ b → (Contains qs q → chosen_in qs values (at + length p.1) q.0 ≡ chosen q.0) → (if b then part values at (length p.1) else chosen_in qs values (at + length p.1) q.0) ≡ chosen q.0
      by_test true e later = stands values (chosen p.0) (picked qs) others at (length p.1) there long ∙ ap chosen (eqb-true p.0 q.0 e)
      by_test false e later =
          elim (contains_cons p qs q a) [
            | inl same ↦ absurd (true≢false (sym (eq-eqb q.0 q.0 refl) ∙ (ap (λ (r : ℕ × List Choice). nat_eq r.0 q.0) (sym same) ∙ e)))
            | inr among ↦ later among
          ]
