-- Visits of clauses along the trail.
use Rattle.std.proofs.Common.{◌≡◌, ◌⊎◌, ℕ, ◌+◌, ◌<◌, ◌≤◌, List, [], ◌∷◌, ◌++◌, length, get_or, take, refl, sym, ◌∙◌, ap, ap₂, subst, inl, inr, arith, Bool, true, false, not}
use Rattle.std.specs.Prelude.{All, Contains, IsTrue, Option, None, Some, ◌≢◌, slice_get}
use Rattle.std.proofs.Math.ListN.{set}
use Rattle.std.proofs.lemmas.Bool.Decides.{eqb_tells}
use Rattle.std.proofs.lemmas.Option.{slice_get_within, slice_get-get_or, get_or_from_slice_get}
use Rattle.std.proofs.lemmas.List.{get_or-set_same, get_or-set_other, get_or_append_left, get_or_push, get_or_default, length_push}
use Rattle.std.proofs.lemmas.List.Elements.{All-nil, All-cons, All-more, All-contains, All-from_get_or, Contains-get_or, Contains-append_right, Contains-append_cases}
use Rattle.std.proofs.lemmas.Bool.{cases_lt}
use Rattle.std.proofs.Math.Bool.{not-not}
use Rattle.civl_cnf.specs.Literal.{Literal, opposite}
use Rattle.civl_cnf.specs.ClauseSet.{IsBelow}
use Rattle.civl_units.specs.Propagation.{Holds, Fails, IsFalsified, IsUnit}
use Rattle.civl_units.specs.Trail.{Marking, IsOpen, with_mark, open_count, IsTrail}
use Rattle.civl_units.specs.Occurrences.{OccurrenceLists, numbers_of, IsSingle, AreOccurrences}
use Rattle.civl_units.specs.Marks.{is_marked, marked, IsQuiet, Propagates, IsVisited, VisitSays, IsPending, IsSettled, Advances, MeetsConflict, NumbersSay, VariableSays, EndsBy}
use Rattle.civl_units.proofs.MarkLemmas.{same_self, not_both}
use Rattle.civl_units.proofs.Trails.{open_set}
use Rattle.civl_units.proofs.Listing.{contains_or_not, single_or_not}
use Rattle.civl_units.proofs.Propagating.{any_by, same_is, marks_stay, propagates_none, propagates_then, forced_propagates}

-- what is true after a literal was marked was true before, or is that literal
new_mark : (values : List (Option Bool)) (l : Literal) (v : ℕ) (b : Bool) → l.variable < length values → IsTrue (marked (set values l.variable (Some l.positive)) v b) → IsTrue (marked values v b) ⊎ ((v ≡ l.variable) × (l.positive ≡ b))
new_mark values l v b low held = elim (eqb_tells v l.variable) [
  | inl e ↦
      let here : get_or (set values l.variable (Some l.positive)) v None ≡ Some l.positive
      = ap (λ n. get_or (set values l.variable (Some l.positive)) n None) e.1 ∙ get_or-set_same values l.variable (Some l.positive) None low in
      inr (e.1, same_is l.positive b (ap (λ m. is_marked m b) (sym here) ∙ held))
  | inr e ↦ inl (ap (λ m. is_marked m b) (sym (get_or-set_other values l.variable v (Some l.positive) None e.1)) ∙ held)
]

mark_here : (values : List (Option Bool)) (l : Literal) → l.variable < length values → Holds (marked (set values l.variable (Some l.positive))) l
mark_here values l low = ap (λ m. is_marked m l.positive) (get_or-set_same values l.variable (Some l.positive) None low) ∙ same_self l.positive

opposite_is : (l m : Literal) → m.variable ≡ l.variable → l.positive ≡ not m.positive → m ≡ opposite l
opposite_is l m e f = ap₂ (λ (v : ℕ) (b : Bool). record { variable = v; positive = b }) e (sym (not-not m.positive) ∙ ap not (sym f))

fails_before : (values : List (Option Bool)) (l m : Literal) → l.variable < length values → m ≢ opposite l → Fails (marked (set values l.variable (Some l.positive))) m → Fails (marked values) m
fails_before values l m low differ f = elim (new_mark values l m.variable (not m.positive) low f) [
  | inl earlier ↦ earlier
  | inr is ↦ absurd (differ (opposite_is l m is.0 is.1))
]

-- a quiet clause stays quiet while none of its literals becomes false
quiet_stays : (values : List (Option Bool)) (l : Literal) (clause : List Literal) → l.variable < length values → IsOpen values l → (Contains clause (opposite l) → ⊥) → IsQuiet (marked values) clause → IsQuiet (marked (set values l.variable (Some l.positive))) clause
quiet_stays values l clause low free none quiet =
    let before : (i : ℕ) (d : Literal) → i < length clause → Fails (marked (set values l.variable (Some l.positive))) (get_or clause i d) → Fails (marked values) (get_or clause i d)
    = λ i d below f. fails_before values l (get_or clause i d) low (λ is. none (subst (Contains clause) is (Contains-get_or clause i d below))) f in (
      λ k unit. marks_stay values l free k.variable k.positive (quiet.0 k (unit.0, λ i d below. elim (unit.1 i d below) [ inl is ↦ inl is | inr f ↦ inr (before i d below f) ])),
      λ falsified. quiet.1 (λ i d below. before i d below (falsified i d below)),
    )

-- a clause with a true literal is quiet
forced_quiet : (values : List (Option Bool)) (l : Literal) (clause : List Literal) → l.variable < length values → Contains clause l → IsQuiet (marked (set values l.variable (Some l.positive))) clause
forced_quiet values l clause low there =
    let new = set values l.variable (Some l.positive) in
    let holds = mark_here values l low in
    let never : Fails (marked new) l → ⊥ = λ f. not_both (get_or new l.variable None) l.positive holds f in (
      λ k unit. elim (All-contains (λ m. (m ≡ k) ⊎ Fails (marked new) m) clause l unit.1 there) [
        | inl is ↦ subst (λ (x : Literal). Holds (marked new) x) is holds
        | inr f ↦ absurd (never f)
      ],
      λ falsified. never (All-contains (λ m. Fails (marked new) m) clause l falsified there),
    )

-- a later part of the trail, or an earlier one
settled_from : (m : Marking) (low from : ℕ) (clause : List Literal) → low ≤ from → IsSettled m from clause → IsSettled m low clause
settled_from m low from clause fits settled = elim settled [
  | inl quiet ↦ inl quiet
  | inr p ↦
      let after = p.after in
      inr (record { place = p.place; after = omega arith; before = p.before; literal = p.literal; there = p.there; variable = p.variable; fails = p.fails })
]

pending_then : (a b : Marking) (clauses : List (List Literal)) (from : ℕ) (clause : List Literal) → IsPending a from clause → Advances a b clauses → IsPending b from clause
pending_then a b clauses from clause p adv =
    let before = p.before in
    let longer = adv.longer in
    record {
      place = p.place;
      after = p.after;
      before = omega arith;
      literal = p.literal;
      there = p.there;
      variable = p.variable ∙ sym (adv.order p.place p.before);
      fails = adv.reached.stay p.literal.variable (not p.literal.positive) p.fails;
    }

settled_then : (a b : Marking) (clauses : List (List Literal)) (from : ℕ) (clause : List Literal) → from ≤ length a.trail → IsSettled a from clause → Advances a b clauses → IsSettled b from clause
settled_then a b clauses from clause fits settled adv = elim settled [
  | inl quiet ↦ settled_from b from (length a.trail) clause fits (adv.quiet clause quiet)
  | inr p ↦ inr (pending_then a b clauses from clause p adv)
]

advances_none : (m : Marking) (clauses : List (List Literal)) → Advances m m clauses
advances_none m clauses = record {
  reached = propagates_none m.values clauses;
  longer = omega arith;
  order = λ i low. refl;
  count = refl;
  quiet = λ clause quiet. inl quiet;
}

advances_then : (a b c : Marking) (clauses : List (List Literal)) → Advances a b clauses → Advances b c clauses → Advances a c clauses
advances_then a b c clauses p q =
    let first = p.longer in
    let second = q.longer in
    record {
      reached = propagates_then a.values b.values c.values clauses p.reached q.reached;
      longer = omega arith;
      order = λ i low. q.order i (omega arith) ∙ p.order i low;
      count = q.count ∙ p.count;
      quiet = λ clause quiet. settled_then b c clauses (length a.trail) clause first (p.quiet clause quiet) q;
    }

forced_advances : (m : Marking) (clauses : List (List Literal)) (clause : List Literal) (l : Literal) → Contains clauses clause → l.variable < length m.values → IsUnit (marked m.values) clause l → IsOpen m.values l → Advances m (with_mark m l) clauses
forced_advances m clauses clause l there low unit free =
    let size : length (m.trail ++ l.variable ∷ []) ≡ length m.trail + 1 = length_push m.trail l.variable in
    let count : open_count (set m.values l.variable (Some l.positive)) + 1 ≡ open_count m.values = open_set m.values l.variable l.positive low free in
    record {
      reached = forced_propagates m.values clauses clause l there low unit free;
      longer = omega arith;
      order = λ i below. get_or_append_left m.trail (l.variable ∷ []) 0 i below;
      count = omega arith;
      quiet = λ other quiet. elim (contains_or_not other (opposite l)) [
        | inl stands ↦ inr (record {
          place = length m.trail;
          after = omega arith;
          before = omega arith;
          literal = opposite l;
          there = stands;
          variable = sym (get_or_push m.trail l.variable 0 (length m.trail) refl);
          fails = ap (λ (b : Bool). marked (set m.values l.variable (Some l.positive)) l.variable b) (not-not l.positive) ∙ mark_here m.values l low;
        })
        | inr none ↦ inl (quiet_stays m.values l other low free none quiet)
      ];
    }

-- a visit of one of the clauses
visited : (old new : Marking) (clauses : List (List Literal)) (clause : List Literal) → Contains clauses clause → IsBelow (length old.values) clause → IsVisited old new clause → Advances old new clauses × IsSettled new (length old.trail) clause
visited old new clauses clause there below says =
    let P : Marking → Type 0 = λ m. Advances old m clauses × IsSettled m (length old.trail) clause in
    elim says [
      | inl quiet ↦ subst P (sym quiet.1) (advances_none old clauses, inl quiet.0)
      | inr forced ↦
          let l = forced.0 in
          let low : l.variable < length old.values = All-contains (λ m. m.variable < length old.values) clause l below forced.1.0 in
          subst P (sym forced.3) (forced_advances old clauses clause l there low forced.1 forced.2, inl (forced_quiet old.values l clause low forced.1.0))
    ]

-- a clause by its number
pub number_says : (old new : Marking) (clauses : List (List Literal)) (clause : List Literal) (number : ℕ) (r : Bool) → number < length clauses → clause ≡ get_or clauses number [] → IsBelow (length old.values) clause → VisitSays old new clause r → NumbersSay old new clauses (number ∷ []) r
number_says old new clauses clause number true low is below says =
    let there : Contains clauses clause = subst (Contains clauses) (sym is) (Contains-get_or clauses number [] low) in
    let P : Marking → Type 0 = λ m. MeetsConflict old m clauses in
    subst P (sym says.1) (record { reached = propagates_none old.values clauses; found = any_by (IsFalsified (marked old.values)) clauses clause there says.0 })
number_says old new clauses clause number false low is below says =
    let there : Contains clauses clause = subst (Contains clauses) (sym is) (Contains-get_or clauses number [] low) in
    let both = visited old new clauses clause there below says in
    let P : ℕ → Type 0 = λ n. n < length clauses → IsSettled new (length old.trail) (get_or clauses n []) in
    (both.0, All-cons P number [] (λ fits. subst (IsSettled new (length old.trail)) is both.1) (All-nil P))

-- one more number
pub numbers_more : (a b c : Marking) (clauses : List (List Literal)) (numbers : List ℕ) (i d : ℕ) → i < length numbers → NumbersSay a b clauses (take i numbers) false → NumbersSay b c clauses (get_or numbers i d ∷ []) false → NumbersSay a c clauses (take (i + 1) numbers) false
numbers_more a b c clauses numbers i d low p q =
    let P : ℕ → Type 0 = λ n. n < length clauses → IsSettled c (length a.trail) (get_or clauses n []) in
    let longer = p.0.longer in
    let earlier : All P (take i numbers) = λ k e below fits. settled_then b c clauses (length a.trail) (get_or clauses (get_or (take i numbers) k e) []) longer (p.1 k e below fits) q.0 in
    let last : P (get_or numbers i d) = λ fits. settled_from c (length a.trail) (length b.trail) (get_or clauses (get_or numbers i d) []) longer (q.1 0 d (omega arith) fits) in
    (advances_then a b c clauses p.0 q.0, All-more P numbers i d low earlier last)

pub conflict_then : (a b c : Marking) (clauses : List (List Literal)) → Propagates a.values b.values clauses → MeetsConflict b c clauses → MeetsConflict a c clauses
conflict_then a b c clauses p q = record { reached = propagates_then a.values b.values c.values clauses p q.reached; found = q.found }

-- a literal of a variable with a value is false where the value is its opposite
fails_value : (m : Option Bool) (value b : Bool) → m ≡ Some value → is_marked m (not b) ≡ true → b ≡ not value
fails_value m value b e f = sym (not-not b) ∙ ap not (sym (same_is value (not b) (ap (λ o. is_marked o (not b)) (sym e) ∙ f)))

pub variable_says : (old new : Marking) (clauses : List (List Literal)) (lists : OccurrenceLists) (variable : ℕ) (value : Bool) (r : Bool) → AreOccurrences clauses lists → get_or old.values variable None ≡ Some value → NumbersSay old new clauses (numbers_of lists (record { variable = variable; positive = not value })) r → VariableSays old new clauses variable r
variable_says old new clauses lists variable value true are is says = says
variable_says old new clauses lists variable value false are is says = (
  says.0,
  λ k d low l there same_variable fails.
      let sign : l.positive ≡ not value = fails_value (get_or old.values l.variable None) value l.positive (ap (λ v. get_or old.values v None) same_variable ∙ is) fails in
      let literal : l ≡ record { variable = variable; positive = not value } = ap₂ (λ (v : ℕ) (b : Bool). record { variable = v; positive = b }) same_variable sign in
      let e : get_or clauses k [] ≡ get_or clauses k d = get_or_default clauses k [] d low in
      let listed : Contains (numbers_of lists l) k = (are.numbers l k).1 (low, subst (λ (c : List Literal). Contains c l) (sym e) there) in
      let P : ℕ → Type 0 = λ n. n < length clauses → IsSettled new (length old.trail) (get_or clauses n []) in
      let settled = All-contains P (numbers_of lists (record { variable = variable; positive = not value })) k says.1 (subst (λ (m : Literal). Contains (numbers_of lists m) k) literal listed) low in
      subst (IsSettled new (length old.trail)) e settled,
)

-- whether a literal of a clause is false
falsity : (b : Bool) → (b ≡ true) ⊎ (b ≡ true → ⊥)
falsity true = inl refl
falsity false = inr (λ e. cc)

some_fails : (values : List (Option Bool)) (clause : List Literal) → ((l : Literal) × Contains clause l × Fails (marked values) l) ⊎ All (λ m. Fails (marked values) m → ⊥) clause
some_fails values [] = inr (All-nil (λ m. Fails (marked values) m → ⊥))
some_fails values (l ∷ clause) = elim (falsity (marked values l.variable (not l.positive))) [
  | inl f ↦ inl (l, (0, omega arith, refl), f)
  | inr none ↦ elim (some_fails values clause) [
    | inl some ↦ inl (some.0, Contains-append_right (l ∷ []) clause some.0 some.1, some.2)
    | inr rest ↦ inr (All-cons (λ m. Fails (marked values) m → ⊥) l clause none rest)
  ]
]

-- whether a variable stands in a trail
stands_or_not : (trail : List ℕ) (v : ℕ) → Contains trail v ⊎ (Contains trail v → ⊥)
stands_or_not [] v = inr (λ there. let low = there.1 in absurd (omega arith))
stands_or_not (u ∷ trail) v = elim (eqb_tells u v) [
  | inl is ↦ inl (0, omega arith, is.1)
  | inr differ ↦ elim (stands_or_not trail v) [
    | inl there ↦ inl (Contains-append_right (u ∷ []) trail v there)
    | inr none ↦ inr (λ there. elim (Contains-append_cases (u ∷ []) trail v there) [
      | inl here ↦
          let P : ℕ → Type 0 = λ x. u ≡ x in
          differ.1 (All-contains P (u ∷ []) v (All-cons P u [] refl (All-nil P)) here)
      | inr later ↦ none later
    ])
  ]
]

in_trail : (m : Marking) (v : ℕ) (b : Bool) → IsTrail m.values m.trail → IsTrue (marked m.values v b) → Contains m.trail v
in_trail m v b trail held = elim (stands_or_not m.trail v) [
  | inl there ↦ there
  | inr none ↦ let bad : is_marked None b ≡ true = ap (λ o. is_marked o b) (sym (trail.whole v none)) ∙ held in absurd cc
]

-- a clause with two literals or more, none of them false, is quiet
open_quiet : (values : List (Option Bool)) (clause : List Literal) → All (λ m. Fails (marked values) m → ⊥) clause → (IsSingle clause → ⊥) → IsQuiet (marked values) clause
open_quiet values clause none other =
    let never : (l : Literal) → Contains clause l → Fails (marked values) l → ⊥ = λ l there. All-contains (λ m. Fails (marked values) m → ⊥) clause l none there in (
      λ k unit. absurd (other (λ l m there also.
          let only : (x : Literal) → Contains clause x → x ≡ k = λ x stands. elim (All-contains (λ y. (y ≡ k) ⊎ Fails (marked values) y) clause x unit.1 stands) [ inl is ↦ is | inr f ↦ absurd (never x stands f) ] in
          only l there ∙ sym (only m also))),
      λ falsified. other (λ l m there also. absurd (never l there (All-contains (Fails (marked values)) clause l falsified there))),
    )

-- once the clauses that force by themselves are settled, each is
pub start_settled : (a b : Marking) (clauses : List (List Literal)) (lists : OccurrenceLists) → IsTrail a.values a.trail → AreOccurrences clauses lists → NumbersSay a b clauses lists.units false → (n : ℕ) → n < length clauses → IsSettled b 0 (get_or clauses n [])
start_settled a b clauses lists trail are says n low =
    let clause = get_or clauses n [] in
    elim (some_fails a.values clause) [
      | inl some ↦
          let l = some.0 in
          let there = in_trail a l.variable (not l.positive) trail some.2 in
          let pending : IsPending a 0 clause = record {
            place = there.0;
            after = omega arith;
            before = there.1;
            literal = l;
            there = some.1;
            variable = sym (get_or_default a.trail there.0 0 l.variable there.1 ∙ there.2);
            fails = some.2;
          } in
          settled_then a b clauses 0 clause (omega arith) (inr pending) says.0
      | inr none ↦ elim (single_or_not clause) [
        | inl single ↦
            let P : ℕ → Type 0 = λ k. k < length clauses → IsSettled b (length a.trail) (get_or clauses k []) in
            settled_from b 0 (length a.trail) clause (omega arith) (All-contains P lists.units n says.1 ((are.singles n).1 (low, single)) low)
        | inr other ↦ settled_from b 0 (length a.trail) clause (omega arith) (says.0.quiet clause (open_quiet a.values clause none other))
      ]
    ]

-- the next place of the trail
pub next_settled : (a b : Marking) (clauses : List (List Literal)) (at variable : ℕ) → slice_get a.trail at ≡ Some variable → ((n : ℕ) → n < length clauses → IsSettled a at (get_or clauses n [])) → VariableSays a b clauses variable false → (n : ℕ) → n < length clauses → IsSettled b (at + 1) (get_or clauses n [])
next_settled a b clauses at variable e settled says n low =
    let clause = get_or clauses n [] in
    let within : at < length a.trail = slice_get_within a.trail at variable e in
    let is : get_or a.trail at 0 ≡ variable = get_or_from_slice_get a.trail at variable 0 e in
    elim (settled n low) [
      | inl quiet ↦ settled_from b (at + 1) (length a.trail) clause (omega arith) (says.0.quiet clause quiet)
      | inr p ↦ elim (eqb_tells p.place at) [
        | inl here ↦
            let same_variable = p.variable ∙ ap (λ (i : ℕ). get_or a.trail i 0) here.1 ∙ is in
            settled_from b (at + 1) (length a.trail) clause (omega arith) (says.1 n [] low p.literal p.there same_variable p.fails)
        | inr differ ↦
            let after = p.after in
            let other = differ.1 in
            let later : IsPending a (at + 1) clause = record { place = p.place; after = omega arith; before = p.before; literal = p.literal; there = p.there; variable = p.variable; fails = p.fails } in
            settled_then a b clauses (at + 1) clause (omega arith) (inr later) says.0
      ]
    ]

-- the end of the trail
pub past_end : (trail : List ℕ) (at : ℕ) → slice_get trail at ≡ None → length trail ≤ at
past_end trail at e = elim (cases_lt at (length trail)) [
  | inl low ↦ let some : slice_get trail at ≡ Some (get_or trail at 0) = slice_get-get_or trail at 0 low in absurd cc
  | inr above ↦ above
]

pub ends_quietly : (m : Marking) (clauses : List (List Literal)) (at : ℕ) → length m.trail ≤ at → ((n : ℕ) → n < length clauses → IsSettled m at (get_or clauses n [])) → EndsBy m.values clauses false
ends_quietly m clauses at above settled =
    All-from_get_or (IsQuiet (marked m.values)) clauses [] (λ n low. elim (settled n low) [
      | inl quiet ↦ quiet
      | inr p ↦ let after = p.after in let before = p.before in absurd (omega arith)
    ])
