-- Visits of clauses by their watches.
use Rattle.std.proofs.Common.{◌≡◌, ◌⊎◌, ℕ, ◌+◌, ◌<◌, ◌≤◌, List, [], ◌∷◌, length, get_or, refl, sym, ◌∙◌, ap, subst, inl, inr, arith, Bool}
use Rattle.std.specs.Prelude.{All, Contains, Option, None, Some, ◌≢◌}
use Rattle.std.specs.List.{swap_remove}
use Rattle.std.proofs.Math.ListN.{set, length-set}
use Rattle.std.proofs.lemmas.Bool.Decides.{eqb_tells}
use Rattle.std.proofs.lemmas.List.{get_or-set_same, get_or-set_other, get_or_default}
use Rattle.std.proofs.lemmas.List.Elements.{All-contains, All-push, Contains-push, Contains-append_left}
use Rattle.civl_cnf.specs.Literal.{Literal, opposite}
use Rattle.civl_cnf.specs.ClauseSet.{AreBelow}
use Rattle.civl_cnf.proofs.Literals.{opposite_twice, literal_or_not}
use Rattle.civl_units.specs.Propagation.{Holds, Fails, IsFalsified}
use Rattle.civl_units.specs.Marks.{is_marked, marked, IsIncluded}
use Rattle.civl_units.specs.Occurrences.{BothSigns}
use Rattle.civl_units.proofs.MarkLemmas.{same_self}
use Rattle.civl_propagation.specs.Trail.{TrailState, before, IsAt, IsStep}
use Rattle.civl_propagation.specs.Propagation.{Grows, Goes}
use Rattle.civl_propagation.specs.Watches.{WatchState, watchers, IsListed, IsUnlisted, IsWatchedBy, IsWatched, AreWatched, Answers, KeepsUp, AllKeepUp, IsHeld, IsDueFrom, IsVisiting, IsRelisted, IsRewatched, IsPair, OtherSays, ReplacementSays, ForceSays, VisitSays}
use Rattle.civl_propagation.specs.declared.watches.Visit.{Visit}
use Rattle.civl_propagation.specs.declared.watches.Visit.TheVariants.{Falsified, Stays, Moved}
use Rattle.civl_propagation.specs.declared.watches.Pair.{Pair}
use Rattle.civl_propagation.specs.declared.trail.Step.{Step}
use Rattle.civl_propagation.proofs.Trails.{some_step, before_marked}
use Rattle.civl_propagation.proofs.Serving.{fails_older, grows_self, goes_push, holds_push}
use Rattle.civl_propagation.proofs.Watching.{removed_keeps, removed_size, removed_all, keeps_grow, pair_answers, answers_true, answers_moved, answers_older}

-- what holds stays so while the trail grows
pub held_grows : (t new : TrailState) (clauses : List (List Literal)) (w : WatchState) → IsHeld t clauses w → Goes t new clauses → IsHeld new clauses w
held_grows t new clauses w h g =
    let size : length new.marks ≡ length t.marks = g.grows.size in
    let at : (k : ℕ) → get_or new.starts k 0 ≡ get_or t.starts k 0 = λ k. ap (λ (x : List ℕ). get_or x k 0) g.grows.starts in
    let count : length new.starts ≡ length t.starts = ap length g.grows.starts in
    record {
      trail = g.trail;
      watched = subst (λ (n : ℕ). AreWatched n clauses w) (sym size) h.watched;
      below = λ k low n inside.
          let here : k < length t.starts = omega arith in
          let same : before new.marks new.places (get_or new.starts k 0) ≡ before t.marks t.places (get_or t.starts k 0) = ap (before new.marks new.places) (at k) ∙ g.grows.same (get_or t.starts k 0) (h.trail.low k here) in
          subst (λ f. KeepsUp f f (get_or clauses n []) (get_or w.pairs n None)) (sym same) (h.below k here n inside);
    }

-- and so do visits
pub visiting_grows : (t new : TrailState) (clauses : List (List Literal)) (w : WatchState) (falsified : Literal) (step at : ℕ) → IsVisiting t clauses w falsified step at → Goes t new clauses → IsVisiting new clauses w falsified step at
visiting_grows t new clauses w falsified step at v g =
    let longer = g.grows.longer in
    let here = v.here in
    let now : before new.marks new.places (step + 1) ≡ before t.marks t.places (step + 1) = g.grows.same (step + 1) (omega arith) in
    let then_ : before new.marks new.places step ≡ before t.marks t.places step = g.grows.same step (omega arith) in
    record {
      held = held_grows t new clauses w v.held g;
      here = omega arith;
      falsity = λ d. ap (λ (x : Step). x.lit) (g.grows.steps step d here) ∙ v.falsity d;
      due = λ n low. elim (v.due n low) [
        | inl keeps ↦ inl (subst (λ f. KeepsUp f (marked new.marks) (get_or clauses n []) (get_or w.pairs n None)) (sym now)
            (keeps_grow (before t.marks t.places (step + 1)) (marked t.marks) (marked new.marks) (get_or clauses n []) (get_or w.pairs n None) g.grows.stays keeps))
        | inr due ↦ inr (record {
          place = due.place;
          after = due.after;
          within = due.within;
          is = due.is;
          keeps = subst (λ f. KeepsUp f (marked new.marks) (get_or clauses n []) (get_or w.pairs n None)) (sym then_)
              (keeps_grow (before t.marks t.places step) (marked t.marks) (marked new.marks) (get_or clauses n []) (get_or w.pairs n None) g.grows.stays due.keeps);
        })
      ];
    }

-- the clause at the place keeps up with the step
pub visiting_next : (t : TrailState) (clauses : List (List Literal)) (w : WatchState) (falsified : Literal) (step at : ℕ) → IsVisiting t clauses w falsified step at → KeepsUp (before t.marks t.places (step + 1)) (marked t.marks) (get_or clauses (get_or (watchers w.lists falsified) at 0) []) (get_or w.pairs (get_or (watchers w.lists falsified) at 0) None) → IsVisiting t clauses w falsified step (at + 1)
visiting_next t clauses w falsified step at v keeps = record {
  held = v.held;
  here = v.here;
  falsity = v.falsity;
  due = λ n low. elim (v.due n low) [
    | inl kept ↦ inl kept
    | inr due ↦ elim (eqb_tells due.place at) [
      | inl is ↦
          let number : get_or (watchers w.lists falsified) at 0 ≡ n = ap (λ (k : ℕ). get_or (watchers w.lists falsified) k 0) (sym is.1) ∙ due.is in
          inl (subst (λ (k : ℕ). KeepsUp (before t.marks t.places (step + 1)) (marked t.marks) (get_or clauses k []) (get_or w.pairs k None)) number keeps)
      | inr other ↦
          let after = due.after in
          let apart = other.1 in
          inr (record { place = due.place; after = omega arith; within = due.within; is = due.is; keeps = due.keeps })
    ]
  ];
}

-- the literal is false
pub visiting_false : (t : TrailState) (clauses : List (List Literal)) (w : WatchState) (falsified : Literal) (step at : ℕ) → IsVisiting t clauses w falsified step at → Fails (marked t.marks) falsified
visiting_false t clauses w falsified step at v =
    let l = (get_or t.steps step some_step).lit in
    let one : IsStep t.marks t.places step l = v.held.trail.steps_are step some_step v.here in
    let holds : Holds (marked t.marks) l = ap (λ (m : Option Bool). is_marked m l.positive) one.mark ∙ same_self l.positive in
    subst (λ (m : Literal). Holds (marked t.marks) m) (v.falsity some_step) holds

-- another literal that fails with the step failed before it
pub visiting_older : (t : TrailState) (clauses : List (List Literal)) (w : WatchState) (falsified m : Literal) (step at : ℕ) → IsVisiting t clauses w falsified step at → m ≢ falsified → Fails (before t.marks t.places (step + 1)) m → Fails (before t.marks t.places step) m
visiting_older t clauses w falsified m step at v apart f =
    let one : IsStep t.marks t.places step (opposite falsified) = subst (IsStep t.marks t.places step) (v.falsity some_step) (v.held.trail.steps_are step some_step v.here) in
    fails_older t.marks t.places t.steps t.starts clauses step (opposite falsified) m v.held.trail v.here v.falsity one (λ e. apart (e ∙ opposite_twice falsified)) f

step_within : (t : TrailState) (p : ℕ) → IsIncluded (before t.marks t.places p) (marked t.marks)
step_within t p = λ v b m. before_marked t.marks t.places p v b m

-- the other watched literal of a clause that is visited: where it failed with the step, the one that became false is true, which it isn't
pub visiting_back : (t : TrailState) (clauses : List (List Literal)) (w : WatchState) (falsified other : Literal) (step at n : ℕ) (pair : Pair) → IsVisiting t clauses w falsified step at → n < length clauses → get_or w.pairs n None ≡ Some pair → IsPair pair falsified other → other ≢ falsified → Fails (before t.marks t.places (step + 1)) other → Holds (marked t.marks) falsified
visiting_back t clauses w falsified other step at n pair v low is both apart f = elim (v.due n low) [
  | inl keeps ↦ pair_answers (before t.marks t.places (step + 1)) (marked t.marks) pair falsified other both (subst (KeepsUp (before t.marks t.places (step + 1)) (marked t.marks) (get_or clauses n [])) is keeps) f
  | inr due ↦ pair_answers (before t.marks t.places step) (marked t.marks) pair falsified other both (subst (KeepsUp (before t.marks t.places step) (marked t.marks) (get_or clauses n [])) is due.keeps) (visiting_older t clauses w falsified other step at v apart f)
]

-- the lists once a number went from one literal's to another's
pub relisted_by : (old mid new : List BothSigns) (from to : Literal) (at number : ℕ) → to ≢ from → IsListed old mid to number → IsUnlisted mid new from at → IsRelisted old new from to at number
relisted_by old mid new from to at number apart l u =
    let same : watchers mid from ≡ watchers old from = l.others from (λ e. apart (sym e)) in
    record {
      size = u.size ∙ l.size;
      gone = u.here ∙ ap (λ (xs : List ℕ). swap_remove xs at (get_or xs at 0)) same;
      come = u.others to apart ∙ l.here;
      others = λ m other more. u.others m other ∙ l.others m more;
    }

-- a number that isn't the one that went stands where it did
pub relisted_stays : (old new : List BothSigns) (from to m : Literal) (at number n : ℕ) → IsRelisted old new from to at number → at < length (watchers old from) → get_or (watchers old from) at 0 ≡ number → n ≢ number → Contains (watchers old m) n → Contains (watchers new m) n
relisted_stays old new from to m at number n r low here apart there = elim (literal_or_not m from) [
  | inl is ↦
      let xs = watchers old from in
      let ys = swap_remove xs at (get_or xs at 0) in
      let before : Contains xs n = subst (λ (l : Literal). Contains (watchers old l) n) is there in
      let value : get_or xs before.0 0 ≡ n = get_or_default xs before.0 0 n before.1 ∙ before.2 in
      let kept = removed_keeps xs at (get_or xs at 0) before.0 low before.1 (λ e. apart (sym value ∙ ap (λ (k : ℕ). get_or xs k 0) e ∙ here)) in
      let found : Contains ys n = (kept.0, kept.1, get_or_default ys kept.0 n 0 kept.1 ∙ kept.2 ∙ value) in
      subst (λ (l : Literal). Contains (watchers new l) n) (sym is) (subst (λ (zs : List ℕ). Contains zs n) (sym r.gone) found)
  | inr other ↦ elim (literal_or_not m to) [
    | inl is ↦ subst (λ (l : Literal). Contains (watchers new l) n) (sym is)
        (subst (λ (zs : List ℕ). Contains zs n) (sym r.come) (Contains-append_left (watchers old to) (number ∷ []) n (subst (λ (l : Literal). Contains (watchers old l) n) is there)))
    | inr more ↦ subst (λ (zs : List ℕ). Contains zs n) (sym (r.others m other more)) there
  ]
]

relisted_numbers : (P : ℕ → Type 0) (old new : List BothSigns) (from to l : Literal) (at number : ℕ) → IsRelisted old new from to at number → at < length (watchers old from) → P number → ((m : Literal) → All P (watchers old m)) → All P (watchers new l)
relisted_numbers P old new from to l at number r low one all = elim (literal_or_not l from) [
  | inl is ↦ subst (λ (m : Literal). All P (watchers new m)) (sym is) (subst (All P) (sym r.gone) (removed_all P (watchers old from) at (get_or (watchers old from) at 0) low (all from)))
  | inr other ↦ elim (literal_or_not l to) [
    | inl is ↦ subst (λ (m : Literal). All P (watchers new m)) (sym is) (subst (All P) (sym r.come) (All-push P (watchers old to) number (all to) one))
    | inr more ↦ subst (All P) (sym (r.others l other more)) (all l)
  ]
]

watched_stays : (clause : List Literal) (n : ℕ) (old new : List BothSigns) (from to : Literal) (at number : ℕ) (pair : Option Pair) → IsRelisted old new from to at number → at < length (watchers old from) → get_or (watchers old from) at 0 ≡ number → n ≢ number → IsWatched clause n old pair → IsWatched clause n new pair
watched_stays clause n old new from to at number None r low here apart w = w
watched_stays clause n old new from to at number (Some pair) r low here apart w = record {
  first = w.first;
  second = w.second;
  apart = w.apart;
  first_listed = relisted_stays old new from to pair.first at number n r low here apart w.first_listed;
  second_listed = relisted_stays old new from to pair.second at number n r low here apart w.second_listed;
}

-- what stands of the two literals of a pair, in one order or the other
pair_facts : (clause : List Literal) (n : ℕ) (lists : List BothSigns) (pair : Pair) (a b : Literal) → IsPair pair a b → IsWatchedBy clause n lists pair → Contains clause b × (b ≢ a) × Contains (watchers lists b) n
pair_facts clause n lists pair a b (inl is) w = (
  subst (Contains clause) is.1 w.second,
  λ e. w.apart (is.0 ∙ sym e ∙ sym is.1),
  subst (λ (l : Literal). Contains (watchers lists l) n) is.1 w.second_listed,
)
pair_facts clause n lists pair a b (inr is) w = (
  subst (Contains clause) is.0 w.first,
  λ e. w.apart (is.0 ∙ e ∙ sym is.1),
  subst (λ (l : Literal). Contains (watchers lists l) n) is.0 w.first_listed,
)

-- the watch of a clause was moved from the literal that became false to one that isn't
pub visiting_moved : (t : TrailState) (clauses : List (List Literal)) (w new : WatchState) (falsified other next : Literal) (step at number : ℕ) (pair : Pair) → IsVisiting t clauses w falsified step at → at < length (watchers w.lists falsified) → number ≡ get_or (watchers w.lists falsified) at 0 → number < length clauses → get_or w.pairs number None ≡ Some pair → IsPair pair falsified other → Contains (get_or clauses number []) next → next ≢ other → (Fails (marked t.marks) next → ⊥) → new.pairs ≡ set w.pairs number (Some (record { first = next; second = other })) → IsRelisted w.lists new.lists falsified next at number → IsVisiting t clauses new falsified step at × (length (watchers new.lists falsified) + 1 ≡ length (watchers w.lists falsified))
visiting_moved t clauses w new falsified other next step at number pair v low is inside pair_is both there apart free pairs r =
    let marks = t.marks in
    let moved : Pair = record { first = next; second = other } in
    let old_watched = v.held.watched in
    let fails = visiting_false t clauses w falsified step at v in
    let never : next ≢ falsified = λ e. free (subst (λ (m : Literal). Fails (marked marks) m) (sym e) fails) in
    let by : IsWatchedBy (get_or clauses number []) number w.lists pair = subst (IsWatched (get_or clauses number []) number w.lists) pair_is (old_watched.each number inside) in
    let two = pair_facts (get_or clauses number []) number w.lists pair falsified other both by in
    let count : number < length w.pairs = omega (arith, old_watched.pairs) in
    let pair_new : get_or new.pairs number None ≡ Some moved = ap (λ (xs : List (Option Pair)). get_or xs number None) pairs ∙ get_or-set_same w.pairs number (Some moved) None count in
    let pair_old : (n : ℕ) → n ≢ number → get_or new.pairs n None ≡ get_or w.pairs n None = λ n differ. ap (λ (xs : List (Option Pair)). get_or xs n None) pairs ∙ get_or-set_other w.pairs number n (Some moved) None differ in
    let value : get_or (watchers w.lists falsified) at 0 ≡ number = sym is in
    let listed_other : Contains (watchers new.lists other) number = subst (λ (zs : List ℕ). Contains zs number) (sym (r.others other two.1 (λ e. apart (sym e)))) two.2 in
    let listed_next : Contains (watchers new.lists next) number = subst (λ (zs : List ℕ). Contains zs number) (sym r.come) (Contains-push (watchers w.lists next) number) in
    let claim : (small large : ℕ → Bool → Bool) → IsIncluded small (marked marks) → (Fails small other → Holds (marked marks) falsified) → Answers small large moved
    = λ small large within back. answers_moved marks small large pair falsified other next both within back fails free in (
      record {
        held = record {
          trail = v.held.trail;
          watched = record {
            pairs = ap length pairs ∙ length-set w.pairs number (Some moved) ∙ old_watched.pairs;
            lists = r.size ∙ old_watched.lists;
            numbers = λ l. relisted_numbers (λ n. n < length clauses) w.lists new.lists falsified next l at number r low inside old_watched.numbers;
            each = λ n below. elim (eqb_tells n number) [
              | inl same ↦ subst (λ (k : ℕ). IsWatched (get_or clauses k []) k new.lists (get_or new.pairs k None)) (sym same.1)
                  (subst (IsWatched (get_or clauses number []) number new.lists) (sym pair_new) (record {
                    first = there;
                    second = two.0;
                    apart = apart;
                    first_listed = listed_next;
                    second_listed = listed_other;
                  }))
              | inr differ ↦ subst (IsWatched (get_or clauses n []) n new.lists) (sym (pair_old n differ.1))
                  (watched_stays (get_or clauses n []) n w.lists new.lists falsified next at number (get_or w.pairs n None) r low value differ.1 (old_watched.each n below))
            ];
          };
          below = λ k start n low_n.
              let f = before marks t.places (get_or t.starts k 0) in
              elim (eqb_tells n number) [
                | inl same ↦ subst (λ (i : ℕ). KeepsUp f f (get_or clauses i []) (get_or new.pairs i None)) (sym same.1)
                    (subst (KeepsUp f f (get_or clauses number [])) (sym pair_new)
                    (claim f f (step_within t (get_or t.starts k 0)) (λ g.
                    step_within t (get_or t.starts k 0) falsified.variable falsified.positive
                    (pair_answers f f pair falsified other both (subst (KeepsUp f f (get_or clauses number [])) pair_is (v.held.below k start number inside)) g))))
                | inr differ ↦ subst (KeepsUp f f (get_or clauses n [])) (sym (pair_old n differ.1)) (v.held.below k start n low_n)
              ];
        };
        here = v.here;
        falsity = v.falsity;
        due = λ n low_n. elim (eqb_tells n number) [
          | inl same ↦ inl (subst (λ (i : ℕ). KeepsUp (before marks t.places (step + 1)) (marked marks) (get_or clauses i []) (get_or new.pairs i None)) (sym same.1)
              (subst (KeepsUp (before marks t.places (step + 1)) (marked marks) (get_or clauses number [])) (sym pair_new)
              (claim (before marks t.places (step + 1)) (marked marks) (step_within t (step + 1)) (visiting_back t clauses w falsified other step at number pair v inside pair_is both two.1))))
          | inr differ ↦ elim (v.due n low_n) [
            | inl keeps ↦ inl (subst (KeepsUp (before marks t.places (step + 1)) (marked marks) (get_or clauses n [])) (sym (pair_old n differ.1)) keeps)
            | inr due ↦
                let xs = watchers w.lists falsified in
                let kept = removed_keeps xs at (get_or xs at 0) due.place low due.within (λ e. differ.1 (sym due.is ∙ ap (λ (k : ℕ). get_or xs k 0) e ∙ value)) in
                inr (record {
                  place = kept.0;
                  after = kept.3 due.after;
                  within = subst (λ (zs : List ℕ). kept.0 < length zs) (sym r.gone) kept.1;
                  is = ap (λ (zs : List ℕ). get_or zs kept.0 0) r.gone ∙ kept.2 ∙ due.is;
                  keeps = subst (KeepsUp (before marks t.places step) (marked marks) (get_or clauses n [])) (sym (pair_old n differ.1)) due.keeps;
                })
          ]
        ];
      },
      ap (λ (zs : List ℕ). length zs + 1) r.gone ∙ removed_size (watchers w.lists falsified) at (get_or (watchers w.lists falsified) at 0) low,
    )

begun_by : (t : TrailState) (clauses : List (List Literal)) (w : WatchState) (falsified : Literal) (step n : ℕ) (pair : Option Pair) → IsHeld t clauses w → step < length t.steps → ((d : Step) → (get_or t.steps step d).lit ≡ opposite falsified) → get_or w.pairs n None ≡ pair → IsWatched (get_or clauses n []) n w.lists pair → KeepsUp (before t.marks t.places step) (marked t.marks) (get_or clauses n []) pair → KeepsUp (before t.marks t.places (step + 1)) (marked t.marks) (get_or clauses n []) pair ⊎ IsDueFrom t clauses w falsified step 0 n
begun_by t clauses w falsified step n None h here falsity is w_is keeps = inl keeps
begun_by t clauses w falsified step n (Some pair) h here falsity is by keeps =
    let set = before t.marks t.places step in
    let due : Contains (watchers w.lists falsified) n → IsDueFrom t clauses w falsified step 0 n = λ there. record {
      place = there.0;
      after = omega arith;
      within = there.1;
      is = get_or_default (watchers w.lists falsified) there.0 0 n there.1 ∙ there.2;
      keeps = subst (KeepsUp set (marked t.marks) (get_or clauses n [])) (sym is) keeps;
    } in
    let one : IsStep t.marks t.places step (opposite falsified) = subst (IsStep t.marks t.places step) (falsity some_step) (h.trail.steps_are step some_step here) in
    let older : (m : Literal) → m ≢ falsified → Fails (before t.marks t.places (step + 1)) m → Fails set m = λ m apart f.
    fails_older t.marks t.places t.steps t.starts clauses step (opposite falsified) m h.trail here falsity one (λ e. apart (e ∙ opposite_twice falsified)) f in
    elim (literal_or_not pair.first falsified) [
      | inl e ↦ inr (due (subst (λ (m : Literal). Contains (watchers w.lists m) n) e by.first_listed))
      | inr first ↦ elim (literal_or_not pair.second falsified) [
        | inl e ↦ inr (due (subst (λ (m : Literal). Contains (watchers w.lists m) n) e by.second_listed))
        | inr second ↦ inl (answers_older (before t.marks t.places (step + 1)) set (marked t.marks) pair (older pair.first first) (older pair.second second) keeps)
      ]
    ]

-- visits begin: a clause that doesn't watch the literal keeps up, the others stand in its list
pub visiting_begins : (t : TrailState) (clauses : List (List Literal)) (w : WatchState) (falsified : Literal) (step : ℕ) → IsHeld t clauses w → step < length t.steps → ((d : Step) → (get_or t.steps step d).lit ≡ opposite falsified) → AllKeepUp (before t.marks t.places step) (marked t.marks) clauses w.pairs → IsVisiting t clauses w falsified step 0
visiting_begins t clauses w falsified step h here falsity keeps = record {
  held = h;
  here = here;
  falsity = falsity;
  due = λ n low. begun_by t clauses w falsified step n (get_or w.pairs n None) h here falsity refl (h.watched.each n low) (keeps n low);
}

-- visits end: each clause keeps up with the step
pub visiting_ends : (t : TrailState) (clauses : List (List Literal)) (w : WatchState) (falsified : Literal) (step at : ℕ) → IsVisiting t clauses w falsified step at → length (watchers w.lists falsified) ≤ at → AllKeepUp (before t.marks t.places (step + 1)) (marked t.marks) clauses w.pairs
visiting_ends t clauses w falsified step at v end n low = elim (v.due n low) [
  | inl keeps ↦ keeps
  | inr due ↦ let after = due.after in let within = due.within in absurd (omega arith)
]

-- the number at a place of a list is that of a clause
pub visiting_number : (t : TrailState) (clauses : List (List Literal)) (w : WatchState) (falsified : Literal) (step at number : ℕ) → IsVisiting t clauses w falsified step at → at < length (watchers w.lists falsified) → number ≡ get_or (watchers w.lists falsified) at 0 → number < length clauses
visiting_number t clauses w falsified step at number v low is = subst (λ (n : ℕ). n < length clauses) (sym is) (v.held.watched.numbers falsified at 0 low)

-- a clause that doesn't watch the literal keeps up with the step
unwatched_keeps : (t : TrailState) (clauses : List (List Literal)) (w : WatchState) (falsified : Literal) (step at n : ℕ) (pair : Option Pair) → IsVisiting t clauses w falsified step at → n < length clauses → get_or w.pairs n None ≡ pair → OtherSays pair falsified None → KeepsUp (before t.marks t.places (step + 1)) (marked t.marks) (get_or clauses n []) (get_or w.pairs n None)
unwatched_keeps t clauses w falsified step at n None v low is says = elim (v.due n low) [
  | inl keeps ↦ keeps
  | inr due ↦ subst (KeepsUp (before t.marks t.places (step + 1)) (marked t.marks) (get_or clauses n [])) (sym is) (subst (KeepsUp (before t.marks t.places step) (marked t.marks) (get_or clauses n [])) is due.keeps)
]
unwatched_keeps t clauses w falsified step at n (Some pair) v low is says = elim (v.due n low) [
  | inl keeps ↦ keeps
  | inr due ↦ subst (KeepsUp (before t.marks t.places (step + 1)) (marked t.marks) (get_or clauses n [])) (sym is)
      (answers_older (before t.marks t.places (step + 1)) (before t.marks t.places step) (marked t.marks) pair
      (visiting_older t clauses w falsified pair.first step at v says.0) (visiting_older t clauses w falsified pair.second step at v says.1)
      (subst (KeepsUp (before t.marks t.places step) (marked t.marks) (get_or clauses n [])) is due.keeps))
]

-- and so does one whose other watched literal is true
true_keeps : (marks : List (Option Bool)) (small : ℕ → Bool → Bool) (clause : List Literal) (pair : Option Pair) (a b : Literal) → OtherSays pair a (Some b) → IsIncluded small (marked marks) → Holds (marked marks) b → KeepsUp small (marked marks) clause pair
true_keeps marks small clause None a b says within holds = absurd says
true_keeps marks small clause (Some pair) a b says within holds = answers_true marks small pair a b says within holds

-- the other watched literal is in the clause, and isn't the one that became false
other_facts : (clause : List Literal) (n : ℕ) (lists : List BothSigns) (pair : Option Pair) (a b : Literal) → OtherSays pair a (Some b) → IsWatched clause n lists pair → Contains clause b × (b ≢ a)
other_facts clause n lists None a b says w = absurd says
other_facts clause n lists (Some pair) a b says w = let f = pair_facts clause n lists pair a b says w in (f.0, f.1)

-- a visit that leaves the watches: of a clause that doesn't watch the literal
pub visit_unwatched : (t : TrailState) (clauses : List (List Literal)) (w : WatchState) (falsified : Literal) (step at number : ℕ) (pair : Option Pair) → IsVisiting t clauses w falsified step at → at < length (watchers w.lists falsified) → number ≡ get_or (watchers w.lists falsified) at 0 → pair ≡ get_or w.pairs number None → OtherSays pair falsified None → VisitSays t w t w clauses falsified step at Stays
visit_unwatched t clauses w falsified step at number pair v low is pair_is says = (
  grows_self t,
  visiting_next t clauses w falsified step at v (subst (λ (n : ℕ). KeepsUp (before t.marks t.places (step + 1)) (marked t.marks) (get_or clauses n []) (get_or w.pairs n None)) is
      (unwatched_keeps t clauses w falsified step at number pair v (visiting_number t clauses w falsified step at number v low is) (sym pair_is) says)),
  refl,
)

-- or whose other watched literal is true
pub visit_true : (t : TrailState) (clauses : List (List Literal)) (w : WatchState) (falsified other : Literal) (step at number : ℕ) (pair : Option Pair) → IsVisiting t clauses w falsified step at → at < length (watchers w.lists falsified) → number ≡ get_or (watchers w.lists falsified) at 0 → pair ≡ get_or w.pairs number None → OtherSays pair falsified (Some other) → Holds (marked t.marks) other → VisitSays t w t w clauses falsified step at Stays
visit_true t clauses w falsified other step at number pair v low is pair_is says holds = (
  grows_self t,
  visiting_next t clauses w falsified step at v (subst (λ (n : ℕ). KeepsUp (before t.marks t.places (step + 1)) (marked t.marks) (get_or clauses n []) (get_or w.pairs n None)) is
      (subst (KeepsUp (before t.marks t.places (step + 1)) (marked t.marks) (get_or clauses number [])) pair_is
      (true_keeps t.marks (before t.marks t.places (step + 1)) (get_or clauses number []) pair falsified other says (step_within t (step + 1)) holds))),
  refl,
)

-- a literal that isn't false isn't the one that became false
pub never_falsified : (t : TrailState) (clauses : List (List Literal)) (w : WatchState) (falsified next : Literal) (step at : ℕ) → IsVisiting t clauses w falsified step at → (Fails (marked t.marks) next → ⊥) → next ≢ falsified
never_falsified t clauses w falsified next step at v free e = free (subst (λ (m : Literal). Fails (marked t.marks) m) (sym e) (visiting_false t clauses w falsified step at v))

-- a visit that moves a watch
pub visit_moved : (t : TrailState) (clauses : List (List Literal)) (w new : WatchState) (falsified other next : Literal) (step at number : ℕ) (pair : Option Pair) → IsVisiting t clauses w falsified step at → at < length (watchers w.lists falsified) → number ≡ get_or (watchers w.lists falsified) at 0 → pair ≡ get_or w.pairs number None → OtherSays pair falsified (Some other) → ReplacementSays t.marks (get_or clauses number []) other (Some next) → IsRewatched w new falsified at (record { first = next; second = other }) → VisitSays t w t new clauses falsified step at Moved
visit_moved t clauses w new falsified other next step at number None v low is pair_is says found re = absurd says
visit_moved t clauses w new falsified other next step at number (Some pair) v low is pair_is says found re =
    let moved : Pair = record { first = next; second = other } in
    let inside = visiting_number t clauses w falsified step at number v low is in
    let r = visiting_moved t clauses w new falsified other next step at number pair v low is inside (sym pair_is) says found.0 found.1 found.2
    (re.pairs ∙ ap (λ (n : ℕ). set w.pairs n (Some moved)) (sym is))
    (subst (IsRelisted w.lists new.lists falsified next at) (sym is) re.lists) in
    (grows_self t, r.0, r.1)

falsified_by : (t new : TrailState) (clauses : List (List Literal)) (w : WatchState) (number r : ℕ) → IsHeld t clauses w → number < length clauses → r ≡ number → new ≡ t → IsFalsified (marked t.marks) (get_or clauses number []) → Grows t new × IsHeld new clauses w × IsAt clauses r (IsFalsified (marked new.marks))
falsified_by t new clauses w number r h inside same is all =
    let now : Grows t t × IsHeld t clauses w × IsAt clauses r (IsFalsified (marked t.marks)) = (grows_self t, h, subst (λ (n : ℕ). IsAt clauses n (IsFalsified (marked t.marks))) (sym same) (inside, all)) in
    subst (λ (x : TrailState). Grows t x × IsHeld x clauses w × IsAt clauses r (IsFalsified (marked x.marks))) (sym is) now

-- a visit of a clause that leaves only the other watched literal
pub visit_forced : (t new : TrailState) (clauses : List (List Literal)) (w : WatchState) (falsified other : Literal) (step at number : ℕ) (pair : Option Pair) (did : Visit) → IsVisiting t clauses w falsified step at → AreBelow (length t.marks) clauses → at < length (watchers w.lists falsified) → number ≡ get_or (watchers w.lists falsified) at 0 → pair ≡ get_or w.pairs number None → OtherSays pair falsified (Some other) → ReplacementSays t.marks (get_or clauses number []) other None → ForceSays t new other number did → VisitSays t w new w clauses falsified step at did
visit_forced t new clauses w falsified other step at number pair (Falsified r) v below low is pair_is says others forced =
    falsified_by t new clauses w number r v.held (visiting_number t clauses w falsified step at number v low is) forced.0 forced.1
    (λ k d inside. elim (others k d inside) [ inl e ↦ subst (λ (m : Literal). Fails (marked t.marks) m) (sym e) forced.2 | inr f ↦ f ])
visit_forced t new clauses w falsified other step at number pair Stays v below low is pair_is says others forced =
    let clause = get_or clauses number [] in
    let inside = visiting_number t clauses w falsified step at number v low is in
    let facts = other_facts clause number w.lists pair falsified other says (subst (IsWatched clause number w.lists) (sym pair_is) (v.held.watched.each number inside)) in
    let known : other.variable < length t.marks = All-contains (λ (m : Literal). m.variable < length t.marks) clause other (below number [] inside) facts.0 in
    let goes = goes_push t new clauses other number v.held.trail forced.0 (inside, (facts.0, others)) forced.1 known in
    let now = visiting_grows t new clauses w falsified step at v goes in (
      goes.grows,
      visiting_next new clauses w falsified step at now (subst (λ (n : ℕ). KeepsUp (before new.marks new.places (step + 1)) (marked new.marks) (get_or clauses n []) (get_or w.pairs n None)) is
          (subst (KeepsUp (before new.marks new.places (step + 1)) (marked new.marks) clause) pair_is
          (true_keeps new.marks (before new.marks new.places (step + 1)) clause pair falsified other says (step_within new (step + 1)) (holds_push t new other (Some number) forced.0 known)))),
      refl,
    )
visit_forced t new clauses w falsified other step at number pair Moved v below low is pair_is says others forced = absurd forced
