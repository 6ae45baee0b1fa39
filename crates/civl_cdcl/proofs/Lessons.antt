-- The clause that a conflict teaches.
use Rattle.std.proofs.Common.{◌≡◌, ◌⊎◌, ℕ, suc, zero, ◌+◌, ◌-◌, ◌<◌, ◌≤◌, List, [], ◌∷◌, ◌++◌, length, get_or, refl, sym, ◌∙◌, ap, subst, inl, inr, arith, Bool, true, false, not}
use Rattle.std.specs.Prelude.{IsTrue, All, Option, None, Some}
use Rattle.std.proofs.Math.ListN.{set, length-set}
use Rattle.std.proofs.lemmas.Bool.Decides.{eqb_tells}
use Rattle.std.proofs.lemmas.List.{get_or_default, get_or_past, get_or-set_same, get_or-set_other, get_or_append_left, get_or_push, length_push}
use Rattle.std.proofs.lemmas.List.Elements.{All-push}
use Rattle.std.proofs.lemmas.Bool.{cases_lt}
use Rattle.std.proofs.Math.Bool.{not-not}
use Rattle.civl_cnf.specs.Literal.{Literal, opposite}
use Rattle.civl_cnf.specs.ClauseSet.{IsBelow}
use Rattle.civl_units.specs.Propagation.{Fails, IsFalsified, IsClosed}
use Rattle.civl_units.specs.Marks.{is_marked, marked, IsQuiet, IsIncluded}
use Rattle.civl_units.proofs.MarkLemmas.{same_self, lt_or_eq, mark_absent}
use Rattle.civl_propagation.specs.Trail.{TrailState, before, IsTrailOver, ReasonSays}
use Rattle.civl_propagation.specs.declared.trail.Step.{Step}
use Rattle.civl_propagation.proofs.Trails.{some_lit, before_place, before_by, before_marked}
use Rattle.civl_propagation.proofs.Serving.{mark_is}
use Rattle.civl_cdcl.specs.inner.Levels.{FirstSays, LastSays, AreBefore}
use Rattle.civl_cdcl.specs.inner.Analysis.{sees, seen_before, AreFound, HasOne, AreSeen, Follows, KeepSays, with_kept, HasOpposite, Teaches, ReachSays, LearnSays}
use Rattle.civl_cdcl.proofs.Analysing.{at_same, quiet_unfalsified, seen_by, seen_sees, seen_low, seen_place, seen_marked, start_quiet, forced_by}

zero_is : (j : ℕ) → j < 1 → j ≡ 0
zero_is j low = omega arith

false_or_true : (b : Bool) → (b ≡ false) ⊎ (b ≡ true)
false_or_true true = inr refl
false_or_true false = inl refl

none_seen : (seen : List Bool) → All (λ b. b ≡ false) seen → (v : ℕ) → IsTrue (sees seen v) → ⊥
none_seen seen none v h = elim (cases_lt v (length seen)) [
  | inl low ↦ let clash : false ≡ true = sym (none v false low) ∙ h in cc
  | inr above ↦ let clash : false ≡ true = sym (get_or_past seen v false above) ∙ h in cc
]

-- a value is of one sign
one_sign : (m : Option Bool) (a b : Bool) → is_marked m a ≡ true → is_marked m b ≡ true → a ≡ b
one_sign None a b e f = cc
one_sign (Some true) true true e f = refl
one_sign (Some true) true false e f = cc
one_sign (Some true) false b e f = cc
one_sign (Some false) false false e f = refl
one_sign (Some false) false true e f = cc
one_sign (Some false) true b e f = cc

-- one literal more is known
pub known_next : (places : List ℕ) (root : ℕ) (seen : List Bool) (besides : ℕ) (clause : List Literal) (n v place : ℕ) → n < length clause → v ≡ (get_or clause n some_lit).variable → place ≡ get_or places v 0 → ((k : ℕ) (d : Literal) → k < n → let u = (get_or clause k d).variable in (u ≡ besides) ⊎ (get_or places u 0 < root) ⊎ IsTrue (sees seen u)) → (v ≡ besides) ⊎ (place < root) ⊎ IsTrue (sees seen v) → (k : ℕ) (d : Literal) → k < n + 1 → let u = (get_or clause k d).variable in (u ≡ besides) ⊎ (get_or places u 0 < root) ⊎ IsTrue (sees seen u)
known_next places root seen besides clause n v place below is at before here k d low = elim (lt_or_eq k n low) [
  | inl less ↦ before k d less
  | inr last ↦
      let same : v ≡ (get_or clause k d).variable = is ∙ ap (λ (m : Literal). m.variable) (at_same clause n k some_lit d below last) in
      let P : ℕ → Type 0 = λ u. (u ≡ besides) ⊎ (get_or places u 0 < root) ⊎ IsTrue (sees seen u) in
      subst P same (subst (λ p. (v ≡ besides) ⊎ (p < root) ⊎ IsTrue (sees seen v)) at here)
]

-- a literal whose reason's other literals are seen follows from these
pub follows_by : (t : TrailState) (clauses : List (List Literal)) (root v at r : ℕ) (s : Step) (clause : List Literal) (seen : List Bool) → IsTrailOver t clauses → FirstSays t.starts root → at ≡ get_or t.places v 0 → at < length t.steps → ((d : Step) → s ≡ get_or t.steps at d) → s.reason ≡ Some r → clause ≡ get_or clauses r [] → AreSeen t.places root seen v clause → Follows t.marks t.places clauses seen v
follows_by t clauses root v at r s clause seen h first place low is reason clause_is all set within closed b held =
    let variable : s.lit.variable ≡ v = ap (λ (x : Step). x.lit.variable) (is s) ∙ ap (λ i. (get_or t.steps i s).lit.variable) place ∙ (h.marks_are v b s held).1 in
    let step = subst (λ (x : Step). ReasonSays (before t.marks t.places at) clauses t.starts at x.lit x.reason) (sym (is s)) (h.reasons at s low) in
    let says : ReasonSays (before t.marks t.places at) clauses t.starts at s.lit (Some r) = subst (ReasonSays (before t.marks t.places at) clauses t.starts at s.lit) reason step in
    let here = subst (λ (x : Step). get_or t.marks x.lit.variable None ≡ Some x.lit.positive) (sym (is s)) (h.steps_are at s low).mark in
    let holds = forced_by t clauses root at r s.lit clause seen set h first says clause_is (λ k d below f. elim (all k d below) [
      | inl same ↦
          let p = before_place t.marks t.places at (get_or clause k d).variable (not (get_or clause k d).positive) f in
          let q : get_or t.places (get_or clause k d).variable 0 ≡ at = ap (λ u. get_or t.places u 0) same ∙ sym place in
          absurd (omega arith)
      | inr rest ↦ rest
    ]) (subst (λ p. IsIncluded (seen_before t.marks t.places seen p) set) (sym place) within) closed in
    let sign : s.lit.positive ≡ b = mark_is t.marks s.lit.variable s.lit.positive b here (subst (λ u. IsTrue (marked t.marks u b)) (sym variable) held) in
    subst (λ u. IsTrue (set u b)) variable (subst (λ x. IsTrue (set s.lit.variable x)) sign holds)

-- a variable without a value
pub follows_none : (marks : List (Option Bool)) (places : List ℕ) (clauses : List (List Literal)) (seen : List Bool) (v : ℕ) → get_or marks v None ≡ None → Follows marks places clauses seen v
follows_none marks places clauses seen v none set within closed b held = absurd (mark_absent (get_or marks v None) b none held)

-- the opposite of a variable's literal is false
pub mark_fails : (marks : List (Option Bool)) (v : ℕ) (value : Bool) → get_or marks v None ≡ Some value → Fails (marked marks) (record { variable = v; positive = not value })
mark_fails marks v value mark = ap (λ m. is_marked m (not (not value))) mark ∙ ap (is_marked (Some value)) (not-not value) ∙ same_self value

-- the opposite of the literal of a variable that has a value
pub kept_by : (marks : List (Option Bool)) (places : List ℕ) (clauses : List (List Literal)) (start : ℕ) (seen : List Bool) (v : ℕ) (value : Bool) (l : Literal) → get_or marks v None ≡ Some value → l ≡ record { variable = v; positive = not value } → get_or places v 0 < start → KeepSays marks places clauses start seen v (Some l)
kept_by marks places clauses start seen v value l mark is early = (
  ap (λ (x : Literal). x.variable) is,
  subst (λ (x : Literal). Fails (marked marks) x) (sym is) (mark_fails marks v value mark),
  early,
)

-- the opposite of the one literal and of what was kept of the first variables
pub record Collects (marks : List (Option Bool)) (places : List ℕ) (clauses : List (List Literal)) (start : ℕ) (one : Literal) (seen : List Bool) (found : List ℕ) (n : ℕ) (clause : List Literal) : Type 0 where
  pub within : IsBelow (length marks) clause
  pub once : (i j : ℕ) (d : Literal) → i < j → j < length clause → (get_or clause i d).variable ≡ (get_or clause j d).variable → ⊥
  pub fails : All (λ l. Fails (marked marks) l × ((l ≡ opposite one) ⊎ (get_or places l.variable 0 < start))) clause
  pub has : HasOpposite clause one.variable one.positive
  pub from : (j : ℕ) (d : Literal) → j < length clause → ((get_or clause j d).variable ≡ one.variable) ⊎ ((k : ℕ) × (k < n) × (get_or found k 0 ≡ (get_or clause j d).variable))
  pub covers : (k : ℕ) (b : Bool) → k < n → IsTrue (before marks places start (get_or found k 0) b) → HasOpposite clause (get_or found k 0) b ⊎ Follows marks places clauses seen (get_or found k 0)

pub collects_none : (marks : List (Option Bool)) (places : List ℕ) (clauses : List (List Literal)) (start : ℕ) (one : Literal) (seen : List Bool) (found : List ℕ) (clause : List Literal) → HasOne marks places clauses start one seen → clause ≡ opposite one ∷ [] → Collects marks places clauses start one seen found 0 clause
collects_none marks places clauses start one seen found clause h is =
    let l : Literal = opposite one in
    let P : List Literal → Type 0 = Collects marks places clauses start one seen found 0 in
    let fails : Fails (marked marks) l = subst (λ (x : Bool). IsTrue (marked marks one.variable x)) (sym (not-not one.positive)) h.held in
    let at : (j : ℕ) (d : Literal) → j < 1 → get_or (l ∷ []) j d ≡ l = λ j d low. ap (λ i. get_or (l ∷ []) i d) (zero_is j low) in
    subst P (sym is) (record {
      within = λ j d low. subst (λ (m : Literal). m.variable < length marks) (sym (at j d low)) h.within;
      once = λ i j d less low e. absurd (omega arith);
      fails = λ j d low. subst (λ (m : Literal). Fails (marked marks) m × ((m ≡ opposite one) ⊎ (get_or places m.variable 0 < start))) (sym (at j d low)) (fails, inl refl);
      has = (0, omega arith, λ d. refl);
      from = λ j d low. inl (ap (λ (m : Literal). m.variable) (at j d low));
      covers = λ k b low m. absurd (omega arith);
    })

has_more : (clause : List Literal) (l : Literal) (v : ℕ) (b : Bool) → HasOpposite clause v b → HasOpposite (clause ++ l ∷ []) v b
has_more clause l v b h =
    let longer = length_push clause l in
    let low : h.0 < length clause = h.1 in
    (h.0, omega arith, λ d. get_or_append_left clause (l ∷ []) d h.0 low ∙ h.2 d)

-- a literal that fails is the opposite of its variable's
opposite_of : (marks : List (Option Bool)) (l : Literal) (v : ℕ) (b : Bool) → l.variable ≡ v → Fails (marked marks) l → IsTrue (marked marks v b) → l ≡ record { variable = v; positive = not b }
opposite_of marks l v b same fails held =
    let f : IsTrue (marked marks v (not l.positive)) = subst (λ u. IsTrue (marked marks u (not l.positive))) same fails in
    let sign : not l.positive ≡ b = one_sign (get_or marks v None) (not l.positive) b f held in
    ap (λ (u : ℕ). record { variable = u; positive = l.positive }) same ∙ ap (λ (x : Bool). record { variable = v; positive = x }) (sym (not-not l.positive) ∙ ap not sign)

-- one variable more, of which nothing is kept
collects_skip : (marks : List (Option Bool)) (places : List ℕ) (clauses : List (List Literal)) (start : ℕ) (one : Literal) (seen : List Bool) (found : List ℕ) (n v : ℕ) (clause : List Literal) → get_or found n 0 ≡ v → (start ≤ get_or places v 0) ⊎ Follows marks places clauses seen v → Collects marks places clauses start one seen found n clause → Collects marks places clauses start one seen found (n + 1) clause
collects_skip marks places clauses start one seen found n v clause is out c = record {
  within = c.within;
  once = c.once;
  fails = c.fails;
  has = c.has;
  from = λ j d low. elim (c.from j d low) [
    | inl first ↦ inl first
    | inr there ↦ let below : there.0 < n = there.1 in inr (there.0, omega arith, there.2)
  ];
  covers = λ k b low m. elim (lt_or_eq k n low) [
    | inl less ↦ c.covers k b less m
    | inr last ↦
        let same : v ≡ get_or found k 0 = sym (ap (λ i. get_or found i 0) last ∙ is) in
        elim out [
          | inl late ↦
              let p : get_or places (get_or found k 0) 0 < start = before_place marks places start (get_or found k 0) b m in
              let q : get_or places v 0 ≡ get_or places (get_or found k 0) 0 = ap (λ u. get_or places u 0) same in
              absurd (omega arith)
          | inr follows ↦ inr (subst (Follows marks places clauses seen) same follows)
        ]
  ];
}

-- one variable more, of which the opposite literal is kept
collects_push : (marks : List (Option Bool)) (places : List ℕ) (clauses : List (List Literal)) (start : ℕ) (one : Literal) (seen : List Bool) (found : List ℕ) (n v : ℕ) (clause : List Literal) (l : Literal) → HasOne marks places clauses start one seen → AreFound seen found → n < length found → get_or found n 0 ≡ v → v < length marks → l.variable ≡ v → Fails (marked marks) l → get_or places v 0 < start → Collects marks places clauses start one seen found n clause → Collects marks places clauses start one seen found (n + 1) (clause ++ l ∷ [])
collects_push marks places clauses start one seen found n v clause l h f below is known variable fails early c =
    let longer = length_push clause l in
    let older : (i : ℕ) (d : Literal) → i < length clause → get_or (clause ++ l ∷ []) i d ≡ get_or clause i d = λ i d low. get_or_append_left clause (l ∷ []) d i low in
    let last : (i : ℕ) (d : Literal) → i ≡ length clause → get_or (clause ++ l ∷ []) i d ≡ l = λ i d e. get_or_push clause l d i (sym e) in
    let var : (m k : Literal) → m ≡ k → m.variable ≡ k.variable = λ m k e. ap (λ (x : Literal). x.variable) e in
    let place : get_or places l.variable 0 ≡ get_or places v 0 = ap (λ u. get_or places u 0) variable in
    let level = h.level in
    record {
      within = All-push (λ (m : Literal). m.variable < length marks) clause l c.within (omega arith);
      once = λ i j d less low e. elim (lt_or_eq j (length clause) (omega arith)) [
        | inl earlier ↦ c.once i j d less earlier (var _ _ (sym (older i d (omega arith))) ∙ e ∙ var _ _ (older j d earlier))
        | inr end ↦
            let same : (get_or clause i d).variable ≡ v = var _ _ (sym (older i d (omega arith))) ∙ e ∙ var _ _ (last j d end) ∙ variable in
            elim (c.from i d (omega arith)) [
              | inl first ↦
                  let p : get_or places one.variable 0 ≡ get_or places v 0 = ap (λ u. get_or places u 0) (sym first ∙ same) in
                  absurd (omega arith)
              | inr there ↦ f.once there.0 n there.1 below (there.2 ∙ same ∙ sym is)
            ]
      ];
      fails = All-push (λ (m : Literal). Fails (marked marks) m × ((m ≡ opposite one) ⊎ (get_or places m.variable 0 < start))) clause l c.fails (fails, inr (omega arith));
      has = has_more clause l one.variable one.positive c.has;
      from = λ j d low. elim (lt_or_eq j (length clause) (omega arith)) [
        | inl earlier ↦ elim (c.from j d earlier) [
          | inl first ↦ inl (var _ _ (older j d earlier) ∙ first)
          | inr there ↦ let few : there.0 < n = there.1 in inr (there.0, omega arith, there.2 ∙ var _ _ (sym (older j d earlier)))
        ]
        | inr end ↦ inr (n, omega arith, is ∙ sym variable ∙ var _ _ (sym (last j d end)))
      ];
      covers = λ k b low m. elim (lt_or_eq k n low) [
        | inl less ↦ elim (c.covers k b less m) [
          | inl there ↦ inl (has_more clause l (get_or found k 0) b there)
          | inr follows ↦ inr follows
        ]
        | inr end ↦
            let same : get_or found k 0 ≡ v = ap (λ i. get_or found i 0) end ∙ is in
            inl (length clause, omega arith, λ d. last (length clause) d refl ∙ opposite_of marks l (get_or found k 0) b (variable ∙ sym same) fails (before_marked marks places start (get_or found k 0) b m))
      ];
    }

pub collects_next : (marks : List (Option Bool)) (places : List ℕ) (clauses : List (List Literal)) (start : ℕ) (one : Literal) (seen : List Bool) (found : List ℕ) (n v : ℕ) (clause new : List Literal) (kept : Option Literal) → HasOne marks places clauses start one seen → AreFound seen found → n < length found → get_or found n 0 ≡ v → v < length marks → KeepSays marks places clauses start seen v kept → new ≡ with_kept clause kept → Collects marks places clauses start one seen found n clause → Collects marks places clauses start one seen found (n + 1) new
collects_next marks places clauses start one seen found n v clause new None h f below is known says new_is c =
    subst (Collects marks places clauses start one seen found (n + 1)) (sym new_is) (collects_skip marks places clauses start one seen found n v clause is says c)
collects_next marks places clauses start one seen found n v clause new (Some l) h f below is known says new_is c =
    subst (Collects marks places clauses start one seen found (n + 1)) (sym new_is) (collects_push marks places clauses start one seen found n v clause l h f below is known says.0 says.1 says.2 c)

pub collects_at : (marks : List (Option Bool)) (places : List ℕ) (clauses : List (List Literal)) (start : ℕ) (one : Literal) (seen : List Bool) (found : List ℕ) (n e : ℕ) (clause new : List Literal) (kept : Option Literal) → HasOne marks places clauses start one seen → AreFound seen found → n < length found → get_or found n e < length marks → KeepSays marks places clauses start seen (get_or found n e) kept → new ≡ with_kept clause kept → Collects marks places clauses start one seen found n clause → Collects marks places clauses start one seen found (n + 1) new
collects_at marks places clauses start one seen found n e clause new kept h f below low says new_is c =
    collects_next marks places clauses start one seen found n (get_or found n e) clause new kept h f below (get_or_default found n 0 e below) low says new_is c

-- all variables that are seen were looked at
pub teaches_by : (marks : List (Option Bool)) (places : List ℕ) (clauses : List (List Literal)) (start : ℕ) (one : Literal) (seen : List Bool) (found : List ℕ) (n : ℕ) (clause : List Literal) → AreFound seen found → length found ≤ n → Collects marks places clauses start one seen found n clause → Teaches marks places clauses start one seen clause
teaches_by marks places clauses start one seen found n clause f whole c = record {
  within = c.within;
  once = c.once;
  fails = c.fails;
  has = c.has;
  covers = λ v b m.
      let at = f.every v (seen_sees marks places seen start v b m) in
      let low : at.0 < length found = at.1 in
      let P : ℕ → Type 0 = λ u. HasOpposite clause u b ⊎ Follows marks places clauses seen u in
      subst P at.2 (c.covers at.0 b (omega arith) (subst (λ u. IsTrue (before marks places start u b)) (sym at.2) (seen_low marks places seen start v b m)));
}

-- a variable that is listed is known
pub found_known : (seen : List Bool) (found : List ℕ) (n v : ℕ) → AreFound seen found → n < length found → get_or found n 0 ≡ v → v < length seen
found_known seen found n v f below is = elim (cases_lt v (length seen)) [
  | inl low ↦ low
  | inr above ↦
      let here : IsTrue (sees seen v) = subst (λ u. IsTrue (sees seen u)) is (f.only n below) in
      let clash : false ≡ true = sym (get_or_past seen v false above) ∙ here in
      cc
]

-- a listed variable, read with any default, is known
pub known_under : (seen : List Bool) (found : List ℕ) (n e m : ℕ) → AreFound seen found → n < length found → length seen ≡ m → get_or found n e < m
known_under seen found n e m f below size = let low = found_known seen found n (get_or found n e) f below (get_or_default found n 0 e below) in omega arith

-- what is still seen is listed from a place on
pub record Clears (old new : List Bool) (found : List ℕ) (n : ℕ) : Type 0 where
  pub size : length new ≡ length old
  pub left : (v : ℕ) → IsTrue (sees new v) → (k : ℕ) × (n ≤ k) × (k < length found) × (get_or found k 0 ≡ v)

pub clears_first : (seen : List Bool) (found : List ℕ) → AreFound seen found → Clears seen seen found 0
clears_first seen found f = record { size = refl; left = λ v h. let at = f.every v h in (at.0, omega arith, at.1, at.2) }

pub clears_next : (old new : List Bool) (found : List ℕ) (n v : ℕ) → v < length old → get_or found n 0 ≡ v → Clears old new found n → Clears old (set new v false) found (n + 1)
clears_next old new found n v low is c =
    let size = c.size in
    record {
      size = length-set new v false ∙ size;
      left = λ u h. elim (eqb_tells u v) [
        | inl same ↦
            let gone : get_or (set new v false) v false ≡ false = get_or-set_same new v false false (omega arith) in
            let clash : false ≡ true = sym gone ∙ ap (λ i. get_or (set new v false) i false) (sym same.1) ∙ h in
            cc
        | inr other ↦
            let at = c.left u (sym (get_or-set_other new v u false false other.1) ∙ h) in
            let late : n ≤ at.0 = at.1 in
            let differ : at.0 ≡ n → ⊥ = λ e. other.1 (sym at.3 ∙ ap (λ i. get_or found i 0) e ∙ is) in
            let later : n < at.0 = elim (lt_or_eq n at.0 (omega arith)) [ inl less ↦ less | inr e ↦ absurd (differ (sym e)) ] in
            (at.0, omega arith, at.2, at.3)
      ];
    }

pub clears_at : (old new : List Bool) (found : List ℕ) (n e : ℕ) → AreFound old found → n < length found → Clears old new found n → Clears old (set new (get_or found n e) false) found (n + 1)
clears_at old new found n e f below c =
    let is : get_or found n 0 ≡ get_or found n e = get_or_default found n 0 e below in
    clears_next old new found n (get_or found n e) (found_known old found n (get_or found n e) f below is) is c

pub cleared : (old new : List Bool) (found : List ℕ) (n : ℕ) → length found ≤ n → Clears old new found n → All (λ b. b ≡ false) new
cleared old new found n whole c k d low = elim (false_or_true (get_or new k d)) [
  | inl is ↦ is
  | inr held ↦
      let at = c.left k (get_or_default new k false d low ∙ held) in
      let late : n ≤ at.0 = at.1 in
      let there : at.0 < length found = at.2 in
      absurd (omega arith)
]

-- nothing is seen, and nothing listed
pub found_none : (seen : List Bool) (found : List ℕ) → found ≡ [] → All (λ b. b ≡ false) seen → AreFound seen found
found_none seen found is none =
    let size : length found ≡ 0 = ap length is in
    record {
      once = λ i j less low. absurd (omega arith);
      only = λ k low. absurd (omega arith);
      every = λ v h. absurd (none_seen seen none v h);
    }

-- two literals of different variables neither of which fails
two_free : (set : ℕ → Bool → Bool) (clause : List Literal) (i j : ℕ) → i < length clause → j < length clause → (Fails set (get_or clause i some_lit) → ⊥) → (Fails set (get_or clause j some_lit) → ⊥) → ((get_or clause i some_lit).variable ≡ (get_or clause j some_lit).variable → ⊥) → IsQuiet set clause
two_free set clause i j low_i low_j free_i free_j differ = (
  λ l unit. elim (unit.1 i some_lit low_i) [
    | inl e ↦ elim (unit.1 j some_lit low_j) [
      | inl f ↦ absurd (differ (ap (λ (m : Literal). m.variable) (e ∙ sym f)))
      | inr f ↦ absurd (free_j f)
    ]
    | inr f ↦ absurd (free_i f)
  ],
  λ all. free_i (all i some_lit low_i),
)

-- the starts of the levels that stay are before the limit
start_before : (t : TrailState) (clauses : List (List Literal)) (limit levels k : ℕ) → IsTrailOver t clauses → AreBefore t.starts limit levels → k < levels → get_or t.starts k 0 < limit
start_before t clauses limit levels k h cuts few =
    let fewer = cuts.fewer in
    elim cuts.under [
      | inl none ↦ absurd (omega arith)
      | inr low ↦ let r = h.rise k (levels - 1) (omega arith) (omega arith) in omega arith
    ]

-- the limit isn't behind the last start
pub reach_low : (starts places : List ℕ) (clause : List Literal) (start limit : ℕ) → LastSays starts (Some start) → ReachSays places clause start limit → limit ≤ get_or starts (length starts - 1) 0
reach_low starts places clause start limit last reach =
    let is = last.1 in
    elim reach [
      | inl none ↦ omega arith
      | inr there ↦ let top = (there.2 some_lit).1 in omega arith
    ]

-- all that is seen before the level lies in each closed set in which the clause is false
all_kept : (t : TrailState) (clauses : List (List Literal)) (start : ℕ) (one : Literal) (seen : List Bool) (clause : List Literal) (set : ℕ → Bool → Bool) → Teaches t.marks t.places clauses start one seen clause → IsFalsified set clause → IsClosed set clauses → (n : ℕ) → n ≤ start → IsIncluded (seen_before t.marks t.places seen n) set
all_kept t clauses start one seen clause set g fails closed zero fits v b m = let p = seen_place t.marks t.places seen 0 v b m in absurd (omega arith)
all_kept t clauses start one seen clause set g fails closed (suc n) fits v b m =
    let here = seen_sees t.marks t.places seen (suc n) v b m in
    let held = seen_marked t.marks t.places seen (suc n) v b m in
    let p : get_or t.places v 0 < suc n = seen_place t.marks t.places seen (suc n) v b m in
    let rest = all_kept t clauses start one seen clause set g fails closed n (omega arith) in
    elim (lt_or_eq (get_or t.places v 0) n (omega arith)) [
      | inl less ↦ rest v b (seen_by t.marks t.places seen n v b here (before_by t.marks t.places n v b less held))
      | inr is ↦ elim (g.covers v b (seen_by t.marks t.places seen start v b here (before_by t.marks t.places start v b (omega arith) held))) [
        | inl there ↦
            let f : Fails set (record { variable = v; positive = not b }) = subst (λ (x : Literal). Fails set x) (there.2 some_lit) (fails there.0 some_lit there.1) in
            subst (λ x. IsTrue (set v x)) (not-not b) f
        | inr follows ↦ follows set (subst (λ p. IsIncluded (seen_before t.marks t.places seen p) set) (sym is) rest) closed b held
      ]
    ]

-- the clause of the opposite literals was learned
pub learned_by : (t : TrailState) (clauses : List (List Literal)) (start : ℕ) (one : Literal) (seen : List Bool) (clause : List Literal) (limit levels : ℕ) → IsTrailOver t clauses → LastSays t.starts (Some start) → HasOne t.marks t.places clauses start one seen → Teaches t.marks t.places clauses start one seen clause → ReachSays t.places clause start limit → AreBefore t.starts limit levels → LearnSays t clauses clause levels
learned_by t clauses start one seen clause limit levels h last o g reach cuts =
    let marks = t.marks in
    let places = t.places in
    let quiet = start_quiet t clauses start h last in
    let at = g.has.0 in
    let low : at < length clause = g.has.1 in
    let l : Literal = opposite one in
    let level = o.level in
    let l_at : (d : Literal) → get_or clause at d ≡ l = g.has.2 in
    record {
      learned = record {
        rup = record {
          below = g.within;
          once = g.once;
          conflict = λ set fails closed.
              let f : Fails set l = subst (λ (x : Literal). Fails set x) (l_at some_lit) (fails at some_lit low) in
              o.conflict set (all_kept t clauses start one seen clause set g fails closed start (omega arith)) (subst (λ x. IsTrue (set one.variable x)) (not-not one.positive) f) closed;
        };
        fresh = (
          l,
          record {
            there = (at, low, l_at l);
            set = before marks places start;
            others = λ k d below. elim (g.fails k d below).1 [
              | inl same ↦ inl same
              | inr early ↦ inr (before_by marks places start (get_or clause k d).variable (not (get_or clause k d).positive) early (g.fails k d below).0)
            ];
            closed = λ k d below. (quiet k d below).0;
            quiet = quiet_unfalsified (before marks places start) clauses quiet;
            free = λ held. let p = before_place marks places start l.variable l.positive held in absurd (omega arith);
          },
        );
        some = λ e. let none = ap length e in absurd (omega arith);
      };
      fewer = cuts.fewer;
      quiet = λ k few. let p = get_or t.starts k 0 in let small : p < limit = start_before t clauses limit levels k h cuts few in elim reach [
        | inl zero_is ↦ absurd (omega arith)
        | inr there ↦
            let j = there.0 in
            let below : j < length clause = there.1 in
            let far : get_or places (get_or clause j some_lit).variable 0 + 1 ≡ limit = (there.2 some_lit).0 in
            let top : limit ≤ start = (there.2 some_lit).1 in
            let l_place : get_or places (get_or clause at some_lit).variable 0 ≡ get_or places one.variable 0 = ap (λ (x : Literal). get_or places x.variable 0) (l_at some_lit) in
            two_free (before marks places p) clause j at below low
            (λ f. let q = before_place marks places p (get_or clause j some_lit).variable (not (get_or clause j some_lit).positive) f in absurd (omega arith))
            (λ f. let q = before_place marks places p (get_or clause at some_lit).variable (not (get_or clause at some_lit).positive) f in absurd (omega arith))
            (λ e. let same = ap (λ v. get_or places v 0) e in absurd (omega arith))
      ];
    }

pub clause_placed : (t : TrailState) (clauses : List (List Literal)) (start : ℕ) (one : Literal) (seen : List Bool) (clause : List Literal) → IsTrailOver t clauses → Teaches t.marks t.places clauses start one seen clause → All (λ l. l.variable < length t.places) clause
clause_placed t clauses start one seen clause h g k d low =
    let size = h.size in
    let below = g.within k d low in
    omega arith
