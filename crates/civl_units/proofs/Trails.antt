-- Trails that grow and shrink.
use Rattle.std.proofs.Common.{◌≡◌, ℕ, zero, suc, ◌+◌, ◌<◌, List, [], ◌∷◌, ◌++◌, length, get_or, replicate, sym, ◌∙◌, ap, subst, inl, inr, arith, Bool, refl}
use Rattle.std.specs.Prelude.{All, Contains, Option, None, Some}
use Rattle.std.proofs.Math.ListN.{set, length-set}
use Rattle.std.proofs.lemmas.Bool.Decides.{eqb_tells}
use Rattle.std.proofs.lemmas.List.{get_or-set_same, get_or-set_other, get_or-replicate, get_or_past, length-replicate, length_push}
use Rattle.std.proofs.lemmas.List.Elements.{All-nil, All-push, Contains-push, Contains-append_left, Contains-push_cases}
use Rattle.std.proofs.lemmas.Bool.{cases_lt}
use Rattle.civl_units.specs.Trail.{open_count, IsTrail}
use Rattle.civl_units.proofs.Propagating.{all_left}

-- a value for a variable without one
pub open_set : (values : List (Option Bool)) (v : ℕ) (b : Bool) → v < length values → get_or values v None ≡ None → open_count (set values v (Some b)) + 1 ≡ open_count values
open_set [] v b low free = absurd (omega arith)
open_set (None ∷ values) zero b low free = omega arith
open_set (Some a ∷ values) zero b low free = cc
open_set (None ∷ values) (suc v) b low free =
    let rest : open_count (set values v (Some b)) + 1 ≡ open_count values = open_set values v b (omega arith) free in omega arith
open_set (Some a ∷ values) (suc v) b low free = open_set values v b (omega arith) free

-- no values
open_all : (values : List (Option Bool)) → ((v : ℕ) → get_or values v None ≡ None) → open_count values ≡ length values
open_all [] free = refl
open_all (None ∷ values) free = let rest : open_count values ≡ length values = open_all values (λ v. free (suc v)) in omega arith
open_all (Some a ∷ values) free = let bad : Some a ≡ None = free zero in cc

pub trail_none : (values : List (Option Bool)) → ((v : ℕ) → get_or values v None ≡ None) → IsTrail values []
trail_none values free =
    let all = open_all values free in
    record { below = All-nil (λ (v : ℕ). v < length values); whole = λ v _. free v; count = omega arith }

pub trail_new : (n : ℕ) → IsTrail (replicate n None) []
trail_new n =
    let free : List (Option Bool) = replicate n None in
    let size : length free ≡ n = length-replicate n None in
    trail_none free (λ v. elim (cases_lt v n) [
      | inl low ↦ get_or-replicate n v None None low
      | inr above ↦ get_or_past free v None (omega arith)
    ])

-- what stays of a trail while it shrinks: each variable that has a value stands in it
pub record Covers (values : List (Option Bool)) (trail : List ℕ) : Type 0 where
  pub below : All (λ v. v < length values) trail
  pub whole : (v : ℕ) → (Contains trail v → ⊥) → get_or values v None ≡ None

pub trail_covers : (values : List (Option Bool)) (trail : List ℕ) → IsTrail values trail → Covers values trail
trail_covers values trail t = record { below = t.below; whole = t.whole }

pub covers_none : (values : List (Option Bool)) (all trail : List ℕ) → Covers values all → all ≡ trail ++ [] → trail ≡ [] → IsTrail values trail
covers_none values all trail c e f =
    let none : all ≡ [] = e ∙ ap (λ (us : List ℕ). us ++ []) f in
    let size = ap length none in
    subst (IsTrail values) (sym f) (trail_none values (λ v. c.whole v (λ there. let low = there.1 in absurd (omega arith))))

pub trail_set : (values : List (Option Bool)) (trail : List ℕ) (v : ℕ) (b : Bool) → IsTrail values trail → v < length values → get_or values v None ≡ None → IsTrail (set values v (Some b)) (trail ++ v ∷ [])
trail_set values trail v b t low free =
    let size : length (set values v (Some b)) ≡ length values = length-set values v (Some b) in
    let more : open_count (set values v (Some b)) + 1 ≡ open_count values = open_set values v b low free in
    let count = t.count in
    record {
      below = subst (λ (n : ℕ). All (λ u. u < n) (trail ++ v ∷ [])) (sym size) (All-push (λ (u : ℕ). u < length values) trail v t.below low);
      whole = λ u no. elim (eqb_tells u v) [
        | inl e ↦ absurd (no (subst (Contains (trail ++ v ∷ [])) (sym e.1) (Contains-push trail v)))
        | inr e ↦ get_or-set_other values v u (Some b) None e.1 ∙ t.whole u (λ there. no (Contains-append_left trail (v ∷ []) u there))
      ];
      count = omega (arith, length_push trail v);
    }

pub trail_last : (values : List (Option Bool)) (all trail : List ℕ) (v : ℕ) → Covers values all → all ≡ trail ++ v ∷ [] → v < length values
trail_last values all trail v t e =
    let below : All (λ u. u < length values) (trail ++ v ∷ []) = subst (All (λ u. u < length values)) e t.below in
    let there = Contains-push trail v in
    let low = below there.0 v there.1 in
    let is = there.2 in
    omega arith

pub trail_pop : (values : List (Option Bool)) (all trail : List ℕ) (v : ℕ) → Covers values all → all ≡ trail ++ v ∷ [] → Covers (set values v None) trail
trail_pop values all trail v t e =
    let low : v < length values = trail_last values all trail v t e in
    let size : length (set values v None) ≡ length values = length-set values v None in
    record {
      below = subst (λ (n : ℕ). All (λ u. u < n) trail) (sym size) (all_left (λ (u : ℕ). u < length values) trail (v ∷ []) (subst (All (λ u. u < length values)) e t.below));
      whole = λ u no. elim (eqb_tells u v) [
        | inl is ↦ ap (λ (i : ℕ). get_or (set values v None) i None) is.1 ∙ get_or-set_same values v None None low
        | inr differ ↦
            get_or-set_other values v u None None differ.1 ∙ t.whole u (λ there. elim (Contains-push_cases trail v u (subst (λ (us : List ℕ). Contains us u) e there)) [
              | inl earlier ↦ no earlier
              | inr last ↦ differ.1 (sym last)
            ])
      ];
    }
