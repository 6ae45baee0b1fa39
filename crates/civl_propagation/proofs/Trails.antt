-- Trails with levels that grow and shrink.
use Rattle.std.proofs.Common.{◌≡◌, ℕ, ◌+◌, ◌<◌, ◌≤◌, List, [], ◌∷◌, ◌++◌, length, get_or, take, refl, sym, ◌∙◌, ap, subst, inl, inr, arith, Bool, true, false, ◌&&◌}
use mathlib.Core.Path.{fun_ext}
use Rattle.std.specs.Prelude.{IsTrue, All, Contains, Option, None, Some, nat_lt}
use Rattle.std.proofs.Math.ListN.{set, length-set}
use Rattle.std.proofs.lemmas.Bool.Decides.{eqb_tells}
use Rattle.std.proofs.lemmas.Bool.{ltb-true, lt-ltb, le-ltb, and_from, and_parts}
use Rattle.std.proofs.lemmas.List.{get_or-set_same, get_or-set_other, get_or_append_left, get_or_push, length_push, get_or-take, length-take-le}
use Rattle.std.proofs.lemmas.List.Elements.{Contains-append_left}
use Rattle.civl_cnf.specs.Literal.{Literal}
use Rattle.civl_units.specs.Marks.{is_marked, marked, IsQuiet}
use Rattle.civl_units.proofs.MarkLemmas.{lt_or_eq, mark_absent}
use Rattle.civl_propagation.specs.Trail.{those, before, IsStep, ReasonSays, IsTrail}
use Rattle.civl_propagation.specs.declared.trail.Step.{Step}

pub some_lit : Literal
some_lit = record { variable = 0; positive = true }

pub some_step : Step
some_step = record { lit = some_lit; reason = None }

-- a mark passes the test, and the other way round
pub those_test : (marks : List (Option Bool)) (test : ℕ → Bool) (v : ℕ) (b : Bool) → IsTrue (those marks test v b) → IsTrue (test v)
those_test marks test v b h = (and_parts (test v) (marked marks v b) h).0

pub those_marked : (marks : List (Option Bool)) (test : ℕ → Bool) (v : ℕ) (b : Bool) → IsTrue (those marks test v b) → IsTrue (marked marks v b)
those_marked marks test v b h = (and_parts (test v) (marked marks v b) h).1

pub those_by : (marks : List (Option Bool)) (test : ℕ → Bool) (v : ℕ) (b : Bool) → IsTrue (test v) → IsTrue (marked marks v b) → IsTrue (those marks test v b)
those_by marks test v b h m = and_from (test v) (marked marks v b) h m

pub before_place : (marks : List (Option Bool)) (places : List ℕ) (p v : ℕ) (b : Bool) → IsTrue (before marks places p v b) → get_or places v 0 < p
before_place marks places p v b h = ltb-true (get_or places v 0) p (and_parts (nat_lt (get_or places v 0) p) (marked marks v b) h).0

pub before_by : (marks : List (Option Bool)) (places : List ℕ) (p v : ℕ) (b : Bool) → get_or places v 0 < p → IsTrue (marked marks v b) → IsTrue (before marks places p v b)
before_by marks places p v b low m = and_from (nat_lt (get_or places v 0) p) (marked marks v b) (lt-ltb (get_or places v 0) p low) m

pub before_marked : (marks : List (Option Bool)) (places : List ℕ) (p v : ℕ) (b : Bool) → IsTrue (before marks places p v b) → IsTrue (marked marks v b)
before_marked marks places p v b h = (and_parts (nat_lt (get_or places v 0) p) (marked marks v b) h).1

false_and : (a b c : Bool) → a ≡ false → c ≡ false → (a && b) ≡ false
false_and true b c e f = cc
false_and false b c e f = refl

and_none : (a : Bool) (m : Option Bool) (b : Bool) → m ≡ None → (a && is_marked m b) ≡ false
and_none true None b e = refl
and_none false None b e = refl
and_none a (Some x) b e = cc

-- a mark at the end changes nothing before it
pub before_push : (marks : List (Option Bool)) (places : List ℕ) (n p v : ℕ) (b : Bool) → p ≤ n → v < length marks → length places ≡ length marks → get_or marks v None ≡ None → before (set marks v (Some b)) (set places v n) p ≡ before marks places p
before_push marks places n p v b low below size free = fun_ext (λ u. fun_ext (λ x. elim (eqb_tells u v) [
  | inl e ↦
      let at : get_or (set places v n) u 0 ≡ n = ap (λ i. get_or (set places v n) i 0) e.1 ∙ get_or-set_same places v n 0 (omega arith) in
      let after : before (set marks v (Some b)) (set places v n) p u x ≡ false = false_and (nat_lt (get_or (set places v n) u 0) p) (marked (set marks v (Some b)) u x) false (le-ltb (get_or (set places v n) u 0) p (omega arith)) refl in
      let first : before marks places p u x ≡ false = and_none (nat_lt (get_or places u 0) p) (get_or marks u None) x (ap (λ i. get_or marks i None) e.1 ∙ free) in
      after ∙ sym first
  | inr e ↦
      ap (λ m. nat_lt (get_or (set places v n) u 0) p && is_marked m x) (get_or-set_other marks v u (Some b) None e.1)
      ∙ ap (λ i. nat_lt i p && marked marks u x) (get_or-set_other places v u n 0 e.1)
]))

all_by : (a b : Bool) → (b ≡ true → a ≡ true) → (a && b) ≡ b
all_by true b h = refl
all_by false true h = let e = h refl in cc
all_by false false h = refl

-- all marks are before the end
pub before_all : (marks : List (Option Bool)) (places : List ℕ) (steps : List Step) (starts : List ℕ) (clauses : List (List Literal)) → IsTrail marks places steps starts clauses → before marks places (length steps) ≡ marked marks
before_all marks places steps starts clauses t = fun_ext (λ v. fun_ext (λ b. all_by (nat_lt (get_or places v 0) (length steps)) (marked marks v b) (λ m. lt-ltb (get_or places v 0) (length steps) (t.marks_are v b some_step m).0)))

-- one more literal is marked
pub trail_push : (marks : List (Option Bool)) (places : List ℕ) (steps : List Step) (starts : List ℕ) (clauses : List (List Literal)) (l : Literal) (r : Option ℕ) → IsTrail marks places steps starts clauses → l.variable < length marks → get_or marks l.variable None ≡ None → ReasonSays (before marks places (length steps)) clauses starts (length steps) l r → IsTrail (set marks l.variable (Some l.positive)) (set places l.variable (length steps)) (steps ++ record { lit = l; reason = r } ∷ []) starts clauses
trail_push marks places steps starts clauses l r t below free reason =
    let n = length steps in
    let s : Step = record { lit = l; reason = r } in
    let marks' = set marks l.variable (Some l.positive) in
    let places' = set places l.variable n in
    let size = t.size in
    let longer = length_push steps s in
    let same : (p : ℕ) → p ≤ n → before marks' places' p ≡ before marks places p = λ p low. before_push marks places n p l.variable l.positive low below size free in
    let last : (i : ℕ) (d : Step) → i ≡ n → get_or (steps ++ s ∷ []) i d ≡ s = λ i d e. get_or_push steps s d i (sym e) in
    let older : (i : ℕ) (d : Step) → i < n → get_or (steps ++ s ∷ []) i d ≡ get_or steps i d = λ i d low. get_or_append_left steps (s ∷ []) d i low in
    let end : IsStep marks' places' n l = record {
      within = omega (arith, length-set marks l.variable (Some l.positive));
      mark = get_or-set_same marks l.variable (Some l.positive) None below;
      place = get_or-set_same places l.variable n 0 (omega arith);
    } in
    let stays : (i : ℕ) (m : Literal) → IsStep marks places i m → IsStep marks' places' i m = λ i m h.
    let apart : m.variable ≡ l.variable → ⊥ = λ e. let f : Some m.positive ≡ None = sym h.mark ∙ ap (λ u. get_or marks u None) e ∙ free in cc in
    record {
      within = omega (arith, h.within, length-set marks l.variable (Some l.positive));
      mark = get_or-set_other marks l.variable m.variable (Some l.positive) None apart ∙ h.mark;
      place = get_or-set_other places l.variable m.variable n 0 apart ∙ h.place;
    } in
    record {
      size = length-set places l.variable n ∙ size ∙ sym (length-set marks l.variable (Some l.positive));
      steps_are = λ i d low. elim (lt_or_eq i n (omega arith)) [
        | inl less ↦ subst (λ x. IsStep marks' places' i x.lit) (sym (older i d less)) (stays i (get_or steps i d).lit (t.steps_are i d less))
        | inr is ↦ subst (λ x. IsStep marks' places' i x.lit) (sym (last i d is)) (subst (λ j. IsStep marks' places' j l) (sym is) end)
      ];
      marks_are = λ v b d held. elim (eqb_tells v l.variable) [
        | inl e ↦
            let at : get_or places' v 0 ≡ n = ap (λ u. get_or places' u 0) e.1 ∙ end.place in
            (omega arith, ap (λ (x : Step). x.lit.variable) (last (get_or places' v 0) d at) ∙ sym e.1)
        | inr e ↦
            let held' : IsTrue (marked marks v b) = ap (λ m. is_marked m b) (sym (get_or-set_other marks l.variable v (Some l.positive) None e.1)) ∙ held in
            let at : get_or places' v 0 ≡ get_or places v 0 = get_or-set_other places l.variable v n 0 e.1 in
            let old = t.marks_are v b d held' in
            let low : get_or places v 0 < n = old.0 in
            (omega arith, ap (λ i. (get_or (steps ++ s ∷ []) i d).lit.variable) at ∙ ap (λ (x : Step). x.lit.variable) (older (get_or places v 0) d low) ∙ old.1)
      ];
      reasons = λ i d low. elim (lt_or_eq i n (omega arith)) [
        | inl less ↦ subst (λ x. ReasonSays (before marks' places' i) clauses starts i x.lit x.reason) (sym (older i d less))
            (subst (λ f. ReasonSays f clauses starts i (get_or steps i d).lit (get_or steps i d).reason) (sym (same i (omega arith))) (t.reasons i d less))
        | inr is ↦ subst (λ x. ReasonSays (before marks' places' i) clauses starts i x.lit x.reason) (sym (last i d is))
            (subst (λ j. ReasonSays (before marks' places' j) clauses starts j l r) (sym is)
            (subst (λ f. ReasonSays f clauses starts n l r) (sym (same n (omega arith))) reason))
      ];
      rise = t.rise;
      low = λ k below. omega (arith, t.low k below);
      closed = λ k below. subst (λ f. All (IsQuiet f) clauses) (sym (same (get_or starts k 0) (t.low k below))) (t.closed k below);
    }

-- taking back the last mark changes nothing before it
pub before_pop : (marks : List (Option Bool)) (places : List ℕ) (p v : ℕ) → p ≤ get_or places v 0 → before (set marks v None) places p ≡ before marks places p
before_pop marks places p v low = fun_ext (λ u. fun_ext (λ x. elim (eqb_tells u v) [
  | inl e ↦
      let late : nat_lt (get_or places u 0) p ≡ false = ap (λ i. nat_lt (get_or places i 0) p) e.1 ∙ le-ltb (get_or places v 0) p low in
      false_and (nat_lt (get_or places u 0) p) (marked (set marks v None) u x) false late refl
      ∙ sym (false_and (nat_lt (get_or places u 0) p) (marked marks u x) false late refl)
  | inr e ↦ ap (λ m. nat_lt (get_or places u 0) p && is_marked m x) (get_or-set_other marks v u None None e.1)
]))

-- the last literal is taken back
pub trail_pop : (marks : List (Option Bool)) (places : List ℕ) (steps : List Step) (starts : List ℕ) (clauses : List (List Literal)) (n : ℕ) (s : Step) → IsTrail marks places steps starts clauses → length steps ≡ n + 1 → ((d : Step) → get_or steps n d ≡ s) → ((k : ℕ) → k < length starts → get_or starts k 0 ≤ n) → IsTrail (set marks s.lit.variable None) places (take n steps) starts clauses
trail_pop marks places steps starts clauses n s t count last below =
    let v = s.lit.variable in
    let marks' = set marks v None in
    let size : length (take n steps) ≡ n = length-take-le n steps (omega arith) in
    let top : IsStep marks places n s.lit = subst (λ (x : Step). IsStep marks places n x.lit) (last s) (t.steps_are n s (omega arith)) in
    let here : get_or marks' v None ≡ None = get_or-set_same marks v None None top.within in
    let same : (p : ℕ) → p ≤ n → before marks' places p ≡ before marks places p = λ p low. before_pop marks places p v (omega (arith, top.place)) in
    let older : (i : ℕ) (d : Step) → i < n → get_or (take n steps) i d ≡ get_or steps i d = λ i d low. get_or-take n steps i d low in
    let stays : (i : ℕ) (m : Literal) → i < n → IsStep marks places i m → IsStep marks' places i m = λ i m low h.
    let apart : m.variable ≡ v → ⊥ = λ e. let f : i ≡ n = sym h.place ∙ ap (λ u. get_or places u 0) e ∙ top.place in absurd (omega arith) in
    record {
      within = omega (arith, h.within, length-set marks v None);
      mark = get_or-set_other marks v m.variable None None apart ∙ h.mark;
      place = h.place;
    } in
    record {
      size = t.size ∙ sym (length-set marks v None);
      steps_are = λ i d low. subst (λ x. IsStep marks' places i x.lit) (sym (older i d (omega arith))) (stays i (get_or steps i d).lit (omega arith) (t.steps_are i d (omega arith)));
      marks_are = λ u b d held. elim (eqb_tells u v) [
        | inl e ↦ absurd (mark_absent (get_or marks' v None) b here (ap (λ i. is_marked (get_or marks' i None) b) (sym e.1) ∙ held))
        | inr e ↦
            let old = t.marks_are u b d (ap (λ m. is_marked m b) (sym (get_or-set_other marks v u None None e.1)) ∙ held) in
            let upper : get_or places u 0 < length steps = old.0 in
            let apart : get_or places u 0 ≡ n → ⊥ = λ f. e.1 (sym old.1 ∙ ap (λ i. (get_or steps i d).lit.variable) f ∙ ap (λ (x : Step). x.lit.variable) (last d)) in
            let low : get_or places u 0 < n = elim (lt_or_eq (get_or places u 0) n (omega arith)) [ inl less ↦ less | inr is ↦ absurd (apart is) ] in
            (omega arith, ap (λ (x : Step). x.lit.variable) (older (get_or places u 0) d low) ∙ old.1)
      ];
      reasons = λ i d low. subst (λ x. ReasonSays (before marks' places i) clauses starts i x.lit x.reason) (sym (older i d (omega arith)))
          (subst (λ f. ReasonSays f clauses starts i (get_or steps i d).lit (get_or steps i d).reason) (sym (same i (omega arith))) (t.reasons i d (omega arith)));
      rise = t.rise;
      low = λ k low. omega (arith, below k low);
      closed = λ k low. subst (λ f. All (IsQuiet f) clauses) (sym (same (get_or starts k 0) (below k low))) (t.closed k low);
    }

reason_start : (set : ℕ → Bool → Bool) (clauses : List (List Literal)) (starts starts' : List ℕ) (i : ℕ) (l : Literal) (r : Option ℕ) → (Contains starts i → Contains starts' i) → ReasonSays set clauses starts i l r → ReasonSays set clauses starts' i l r
reason_start set clauses starts starts' i l None more h = more h
reason_start set clauses starts starts' i l (Some r) more h = h

-- a level with no step is taken back
pub trail_unstart : (marks : List (Option Bool)) (places : List ℕ) (steps : List Step) (starts : List ℕ) (clauses : List (List Literal)) (n : ℕ) → IsTrail marks places steps starts clauses → length starts ≡ n + 1 → ((d : ℕ) → get_or starts n d ≡ length steps) → IsTrail marks places steps (take n starts) clauses
trail_unstart marks places steps starts clauses n t count last =
    let size : length (take n starts) ≡ n = length-take-le n starts (omega arith) in
    let older : (k d : ℕ) → k < n → get_or (take n starts) k d ≡ get_or starts k d = λ k d low. get_or-take n starts k d low in
    record {
      size = t.size;
      steps_are = t.steps_are;
      marks_are = t.marks_are;
      reasons = λ i d low. reason_start (before marks places i) clauses starts (take n starts) i (get_or steps i d).lit (get_or steps i d).reason
          (λ there.
          let k = there.0 in
          let below : k < length starts = there.1 in
          elim (lt_or_eq k n (omega arith)) [
            | inl less ↦ (k, omega arith, older k i less ∙ there.2)
            | inr is ↦ let e : length steps ≡ i = sym (last i) ∙ ap (λ j. get_or starts j i) (sym is) ∙ there.2 in absurd (omega arith)
          ])
          (t.reasons i d low);
      rise = λ i j le low.
          let a = older i 0 (omega arith) in
          let b = older j 0 (omega arith) in
          let r = t.rise i j le (omega arith) in
          omega arith;
      low = λ k low.
          let a = older k 0 (omega arith) in
          let r = t.low k (omega arith) in
          omega arith;
      closed = λ k low.
          let a = older k 0 (omega arith) in
          subst (λ p. All (IsQuiet (before marks places p)) clauses) (sym a) (t.closed k (omega arith));
    }

-- a level begins where nothing more is forced
pub trail_start : (marks : List (Option Bool)) (places : List ℕ) (steps : List Step) (starts : List ℕ) (clauses : List (List Literal)) → IsTrail marks places steps starts clauses → All (IsQuiet (before marks places (length steps))) clauses → IsTrail marks places steps (starts ++ length steps ∷ []) clauses
trail_start marks places steps starts clauses t quiet =
    let n = length steps in
    let starts' = starts ++ n ∷ [] in
    let longer = length_push starts n in
    let older : (k : ℕ) → k < length starts → get_or starts' k 0 ≡ get_or starts k 0 = λ k low. get_or_append_left starts (n ∷ []) 0 k low in
    let newest : (k : ℕ) → k ≡ length starts → get_or starts' k 0 ≡ n = λ k e. get_or_push starts n 0 k (sym e) in
    let lower : (k : ℕ) → k < length starts' → get_or starts' k 0 ≤ n = λ k low. elim (lt_or_eq k (length starts) (omega arith)) [
      | inl less ↦ let a = older k less in let b = t.low k less in omega arith
      | inr is ↦ let a = newest k is in omega arith
    ] in
    record {
      size = t.size;
      steps_are = t.steps_are;
      marks_are = t.marks_are;
      reasons = λ i d low. reason_start (before marks places i) clauses starts starts' i (get_or steps i d).lit (get_or steps i d).reason (Contains-append_left starts (n ∷ []) i) (t.reasons i d low);
      rise = λ i j le low. elim (lt_or_eq j (length starts) (omega arith)) [
        | inl less ↦
            let a = older i (omega arith) in
            let b = older j less in
            let r = t.rise i j le less in
            omega arith
        | inr is ↦ let a = newest j is in let b = lower i (omega arith) in omega arith
      ];
      low = lower;
      closed = λ k low. elim (lt_or_eq k (length starts) (omega arith)) [
        | inl less ↦ subst (λ p. All (IsQuiet (before marks places p)) clauses) (sym (older k less)) (t.closed k less)
        | inr is ↦ subst (λ p. All (IsQuiet (before marks places p)) clauses) (sym (newest k is)) quiet
      ];
    }

-- a trail by the equations of its parts
pub trail_same : (m m' : List (Option Bool)) (p p' : List ℕ) (s s' : List Step) (t t' : List ℕ) (clauses : List (List Literal)) → m' ≡ m → p' ≡ p → s' ≡ s → t' ≡ t → IsTrail m p s t clauses → IsTrail m' p' s' t' clauses
trail_same m m' p p' s s' t t' clauses em ep es et h =
    subst (λ x. IsTrail x p' s' t' clauses) (sym em)
    (subst (λ x. IsTrail m x s' t' clauses) (sym ep)
    (subst (λ x. IsTrail m p x t' clauses) (sym es)
    (subst (λ x. IsTrail m p s x clauses) (sym et) h)))
