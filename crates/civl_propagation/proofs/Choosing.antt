-- The two literals of a clause that are watched.
use Rattle.std.proofs.Common.{◌≡◌, ◌⊎◌, ℕ, ◌+◌, ◌<◌, ◌≤◌, List, [], ◌∷◌, ◌++◌, length, get_or, take, refl, sym, ◌∙◌, ap, subst, inl, inr, arith, Bool, true, false, not}
use Rattle.std.specs.Prelude.{All, Contains, Option, None, Some, ◌≢◌}
use Rattle.std.proofs.lemmas.List.{get_or_append_left, get_or_push, length_push, take_all, take_more}
use Rattle.std.proofs.lemmas.List.Elements.{All-contains, All-nil, All-push, Contains-get_or, Contains-push, Contains-append_left}
use Rattle.std.proofs.lemmas.Bool.{cond-true, cond-false}
use Rattle.civl_cnf.specs.Literal.{Literal}
use Rattle.civl_cnf.specs.ClauseSet.{IsBelow}
use Rattle.civl_cnf.proofs.Literals.{literal_or_not}
use Rattle.civl_units.specs.Propagation.{Fails}
use Rattle.civl_units.specs.Marks.{marked, IsQuiet}
use Rattle.civl_units.specs.Occurrences.{BothSigns, IsSingle}
use Rattle.civl_units.proofs.MarkLemmas.{lt_or_eq}
use Rattle.civl_propagation.specs.Trail.{TrailState, before, IsTrailOver}
use Rattle.civl_propagation.specs.Propagation.{IsServed}
use Rattle.civl_propagation.specs.Watches.{WatchState, watchers, with_listed, with_pair, IsListed, IsPairBelow, IsWatched, AreWatched, AllKeepUp, rank, IsRanked, IsOrdered, IsBest, BestSays, IsFreeIn, IsFreePair, ChoiceSays, Answers, KeepsUp}
use Rattle.civl_propagation.specs.declared.choice.Ranked.{Ranked}
use Rattle.civl_propagation.specs.declared.choice.Best.{Best}
use Rattle.civl_propagation.specs.declared.choice.Best.TheVariants.{Nothing, One, Two}
use Rattle.civl_propagation.specs.declared.watches.Pair.{Pair}
use Rattle.civl_propagation.proofs.Trails.{some_step, before_place, before_marked, before_by}
use Rattle.civl_propagation.proofs.Watching.{listed_by}

-- the first literal is the best so far
pub first_best : (t : TrailState) (seen : List Literal) (next : Ranked) → IsRanked t next → BestSays t seen Nothing → BestSays t (seen ++ next.lit ∷ []) (One next)
first_best t seen next ranked none = (
  ranked,
  Contains-push seen next.lit,
  All-push (λ (m : Literal). m ≡ next.lit) seen next.lit (subst (All (λ (m : Literal). m ≡ next.lit)) (sym none) (All-nil (λ (m : Literal). m ≡ next.lit))) refl,
)

-- the same literal once more
pub same_best : (t : TrailState) (seen : List Literal) (first next : Ranked) → first.lit ≡ next.lit → BestSays t seen (One first) → BestSays t (seen ++ next.lit ∷ []) (One first)
same_best t seen first next same says = (
  says.0,
  Contains-append_left seen (next.lit ∷ []) first.lit says.1,
  All-push (λ (m : Literal). m ≡ first.lit) seen next.lit says.2 (sym same),
)

-- the literals so far but the best are no better than it, nor than the next
abbrev pub AreBelow : TrailState → Ranked → Ranked → List Literal → Type 0
AreBelow t first next seen = All (λ (m : Literal). (m ≡ first.lit) ⊎ ((rank t m ≤ first.rank) × (rank t m ≤ next.rank))) seen

best_first : (t : TrailState) (seen : List Literal) (first next : Ranked) → IsRanked t first → IsRanked t next → first.lit ≢ next.lit → Contains seen first.lit → AreBelow t first next seen → next.rank ≤ first.rank → BestSays t (seen ++ next.lit ∷ []) (Two first next)
best_first t seen first next ranked ranked_next apart there others order =
    let f : first.rank ≡ rank t first.lit = ranked in
    let n : next.rank ≡ rank t next.lit = ranked_next in (
      ranked,
      ranked_next,
      record {
        first = Contains-append_left seen (next.lit ∷ []) first.lit there;
        second = Contains-push seen next.lit;
        apart = apart;
        order = omega arith;
        latest = All-push (λ (m : Literal). (m ≡ first.lit) ⊎ (rank t m ≤ rank t next.lit)) seen next.lit
            (λ k d low. elim (others k d low) [ inl e ↦ inl e | inr both ↦ let less = both.1 in inr (omega arith) ])
            (inr (omega arith));
      },
    )

best_next : (t : TrailState) (seen : List Literal) (first next : Ranked) → IsRanked t first → IsRanked t next → first.lit ≢ next.lit → Contains seen first.lit → AreBelow t first next seen → first.rank ≤ next.rank → BestSays t (seen ++ next.lit ∷ []) (Two next first)
best_next t seen first next ranked ranked_next apart there others order =
    let f : first.rank ≡ rank t first.lit = ranked in
    let n : next.rank ≡ rank t next.lit = ranked_next in (
      ranked_next,
      ranked,
      record {
        first = Contains-push seen next.lit;
        second = Contains-append_left seen (next.lit ∷ []) first.lit there;
        apart = λ e. apart (sym e);
        order = omega arith;
        latest = All-push (λ (m : Literal). (m ≡ next.lit) ⊎ (rank t m ≤ rank t first.lit)) seen next.lit
            (λ k d low. elim (others k d low) [
              | inl e ↦ let same : rank t (get_or seen k d) ≡ rank t first.lit = ap (rank t) e in inr (omega arith)
              | inr both ↦ let less = both.0 in inr (omega arith)
            ])
            (inl refl);
      },
    )

-- the best of the best one and the next, in order
ordered_best : (t : TrailState) (seen : List Literal) (first next : Ranked) (best : Best) → IsRanked t first → IsRanked t next → first.lit ≢ next.lit → Contains seen first.lit → AreBelow t first next seen → IsOrdered first next best → BestSays t (seen ++ next.lit ∷ []) best
ordered_best t seen first next Nothing ranked ranked_next apart there others is = absurd is
ordered_best t seen first next (One a) ranked ranked_next apart there others is = absurd is
ordered_best t seen first next (Two a b) ranked ranked_next apart there others is = elim is [
  | inl e ↦
      subst (λ (x : Ranked). BestSays t (seen ++ next.lit ∷ []) (Two x b)) (sym e.0)
      (subst (λ (y : Ranked). BestSays t (seen ++ next.lit ∷ []) (Two first y)) (sym e.1) (best_first t seen first next ranked ranked_next apart there others e.2))
  | inr e ↦
      subst (λ (x : Ranked). BestSays t (seen ++ next.lit ∷ []) (Two x b)) (sym e.0)
      (subst (λ (y : Ranked). BestSays t (seen ++ next.lit ∷ []) (Two next y)) (sym e.1) (best_next t seen first next ranked ranked_next apart there others e.2))
]

-- a second literal that differs
pub second_by : (t : TrailState) (seen : List Literal) (first next : Ranked) (best : Best) → IsRanked t next → first.lit ≢ next.lit → IsOrdered first next best → BestSays t seen (One first) → BestSays t (seen ++ next.lit ∷ []) best
second_by t seen first next best ranked apart is says = ordered_best t seen first next best says.0 ranked apart says.1 (λ k d low. inl (says.2 k d low)) is

-- the next literal is no better than the two best, or is the best one
pub two_stay : (t : TrailState) (seen : List Literal) (first second next : Ranked) → (first.lit ≡ next.lit) ⊎ (next.rank ≤ second.rank) → IsRanked t next → BestSays t seen (Two first second) → BestSays t (seen ++ next.lit ∷ []) (Two first second)
two_stay t seen first second next worse ranked says =
    let b = says.2 in
    let s : second.rank ≡ rank t second.lit = says.1 in
    let n : next.rank ≡ rank t next.lit = ranked in (
      says.0,
      says.1,
      record {
        first = Contains-append_left seen (next.lit ∷ []) first.lit b.first;
        second = Contains-append_left seen (next.lit ∷ []) second.lit b.second;
        apart = b.apart;
        order = b.order;
        latest = All-push (λ (m : Literal). (m ≡ first.lit) ⊎ (rank t m ≤ rank t second.lit)) seen next.lit b.latest (elim worse [ inl e ↦ inl (sym e) | inr low ↦ inr (omega arith) ]);
      },
    )

-- the next literal takes the second one's place
pub better_by : (t : TrailState) (seen : List Literal) (first second next : Ranked) (best : Best) → IsRanked t next → first.lit ≢ next.lit → second.rank < next.rank → IsOrdered first next best → BestSays t seen (Two first second) → BestSays t (seen ++ next.lit ∷ []) best
better_by t seen first second next best ranked apart more is says =
    let b = says.2 in
    let f : first.rank ≡ rank t first.lit = says.0 in
    let s : second.rank ≡ rank t second.lit = says.1 in
    let order : rank t second.lit ≤ rank t first.lit = b.order in
    ordered_best t seen first next best says.0 ranked apart b.first (λ k d low. elim (b.latest k d low) [ inl e ↦ inl e | inr less ↦ inr (omega arith, omega arith) ]) is

-- one literal more of the clause was looked at
pub best_more : (t : TrailState) (clause : List Literal) (n : ℕ) (x : Literal) (best : Best) → n < length clause → x ≡ get_or clause n x → BestSays t (take n clause ++ x ∷ []) best → BestSays t (take (n + 1) clause) best
best_more t clause n x best low is says =
    subst (λ (seen : List Literal). BestSays t seen best) (sym (take_more clause n x low ∙ ap (λ (l : Literal). take n clause ++ l ∷ []) (sym is))) says

-- all were looked at
pub best_all : (t : TrailState) (clause : List Literal) (n : ℕ) (best : Best) → length clause ≤ n → BestSays t (take n clause) best → BestSays t clause best
best_all t clause n best end says = subst (λ (seen : List Literal). BestSays t seen best) (take_all n clause end) says

-- no two literals differ: there is none, or all are the best one
pub single_none : (t : TrailState) (clause : List Literal) → BestSays t clause Nothing → ChoiceSays t clause None
single_none t clause none l m there more = let low = there.1 in let size : length clause ≡ 0 = ap length none in absurd (omega arith)

pub single_one : (t : TrailState) (clause : List Literal) (first : Ranked) → BestSays t clause (One first) → ChoiceSays t clause None
single_one t clause first says l m there more = All-contains (λ (x : Literal). x ≡ first.lit) clause l says.2 there ∙ sym (All-contains (λ (x : Literal). x ≡ first.lit) clause m says.2 more)

-- a literal is false before a place exactly where its rank is lower
pub fails_rank : (t : TrailState) (l : Literal) (p : ℕ) → Fails (before t.marks t.places p) l → rank t l < p
fails_rank t l p f =
    let low : get_or t.places l.variable 0 < p = before_place t.marks t.places p l.variable (not l.positive) f in
    let held = before_marked t.marks t.places p l.variable (not l.positive) f in
    let is : rank t l ≡ get_or t.places l.variable 0 = cond-true (marked t.marks l.variable (not l.positive)) (get_or t.places l.variable 0) (length t.steps) held in
    omega arith

rank_by : (t : TrailState) (l : Literal) (p : ℕ) (b : Bool) → marked t.marks l.variable (not l.positive) ≡ b → p ≤ length t.steps → rank t l < p → Fails (before t.marks t.places p) l
rank_by t l p true is fits low =
    let same : rank t l ≡ get_or t.places l.variable 0 = cond-true (marked t.marks l.variable (not l.positive)) (get_or t.places l.variable 0) (length t.steps) is in
    before_by t.marks t.places p l.variable (not l.positive) (omega arith) is
rank_by t l p false is fits low =
    let same : rank t l ≡ length t.steps = cond-false (marked t.marks l.variable (not l.positive)) (get_or t.places l.variable 0) (length t.steps) is in
    absurd (omega arith)

pub rank_fails : (t : TrailState) (l : Literal) (p : ℕ) → p ≤ length t.steps → rank t l < p → Fails (before t.marks t.places p) l
rank_fails t l p fits low = rank_by t l p (marked t.marks l.variable (not l.positive)) refl fits low

-- none became false later than one that isn't false
rank_low : (t : TrailState) (clauses : List (List Literal)) (l : Literal) (b : Bool) → IsTrailOver t clauses → marked t.marks l.variable (not l.positive) ≡ b → rank t l ≤ length t.steps
rank_low t clauses l true h is =
    let same : rank t l ≡ get_or t.places l.variable 0 = cond-true (marked t.marks l.variable (not l.positive)) (get_or t.places l.variable 0) (length t.steps) is in
    let low = (h.marks_are l.variable (not l.positive) some_step is).0 in
    omega arith
rank_low t clauses l false h is =
    let same : rank t l ≡ length t.steps = cond-false (marked t.marks l.variable (not l.positive)) (get_or t.places l.variable 0) (length t.steps) is in
    omega arith

rank_free : (t : TrailState) (l : Literal) (b : Bool) → marked t.marks l.variable (not l.positive) ≡ b → (Fails (marked t.marks) l → ⊥) → rank t l ≡ length t.steps
rank_free t l true is free = absurd (free is)
rank_free t l false is free = cond-false (marked t.marks l.variable (not l.positive)) (get_or t.places l.variable 0) (length t.steps) is

-- two that aren't false are the best two
pub free_best : (t : TrailState) (clauses : List (List Literal)) (clause : List Literal) (pair : Pair) → IsTrailOver t clauses → IsFreeIn t clause pair → IsBest t clause pair
free_best t clauses clause pair h f =
    let one = rank_free t pair.first (marked t.marks pair.first.variable (not pair.first.positive)) refl f.first_free in
    let two = rank_free t pair.second (marked t.marks pair.second.variable (not pair.second.positive)) refl f.second_free in
    record {
      first = f.first;
      second = f.second;
      apart = f.apart;
      order = omega arith;
      latest = λ k d low.
          let m = get_or clause k d in
          let under = rank_low t clauses m (marked t.marks m.variable (not m.positive)) h refl in
          inr (omega arith);
    }

free_quiet : (set : ℕ → Bool → Bool) (clause : List Literal) (a b : Literal) → Contains clause a → Contains clause b → a ≢ b → (Fails set a → ⊥) → (Fails set b → ⊥) → IsQuiet set clause
free_quiet set clause a b one two apart free other = (
  λ l unit. elim (All-contains (λ (m : Literal). (m ≡ l) ⊎ Fails set m) clause a unit.1 one) [
    | inl e ↦ elim (All-contains (λ (m : Literal). (m ≡ l) ⊎ Fails set m) clause b unit.1 two) [ inl f ↦ absurd (apart (e ∙ sym f)) | inr g ↦ absurd (other g) ]
    | inr g ↦ absurd (free g)
  ],
  λ all. free (All-contains (Fails set) clause a all one),
)

-- a clause that watches two literals that aren't false forces nothing
pub chosen_quiet : (t : TrailState) (clause : List Literal) (pair : Option Pair) → ChoiceSays t clause pair → IsFreePair t pair → IsQuiet (marked t.marks) clause
chosen_quiet t clause None says free = absurd free
chosen_quiet t clause (Some pair) says free = free_quiet (marked t.marks) clause pair.first pair.second says.first says.second says.apart free.0 free.1

-- what the two best literals owe, at each place at which the clause is served
pub best_answers : (t : TrailState) (large : ℕ → Bool → Bool) (clause : List Literal) (pair : Pair) (p : ℕ) → IsBest t clause pair → p ≤ length t.steps → IsServed (before t.marks t.places p) large clause → Answers (before t.marks t.places p) large pair
best_answers t large clause pair p b fits s =
    let set = before t.marks t.places p in
    let others : Fails set pair.second → All (λ m. (m ≡ pair.first) ⊎ Fails set m) clause = λ f k d low. elim (b.latest k d low) [
      | inl e ↦ inl e
      | inr below ↦
          let under = fails_rank t pair.second p f in
          inr (rank_fails t (get_or clause k d) p fits (omega arith))
    ] in
    record {
      first = λ f.
          let under = fails_rank t pair.first p f in
          let order = b.order in
          let second : Fails set pair.second = rank_fails t pair.second p fits (omega arith) in
          absurd (s.quiet (λ k d low. elim (others second k d low) [ inl e ↦ subst (λ (m : Literal). Fails set m) (sym e) f | inr g ↦ g ]));
      second = λ f. s.forced pair.first (b.first, others f);
    }

single_keeps : (small large : ℕ → Bool → Bool) (clause : List Literal) → IsSingle clause → IsServed small large clause → KeepsUp small large clause None
single_keeps small large [] single s = absurd (s.quiet (All-nil (Fails small)))
single_keeps small large (l ∷ rest) single s =
    let there : Contains (l ∷ rest) l = (0, omega arith, refl) in
    (l, there, s.forced l (there, λ k d low. inl (single (get_or (l ∷ rest) k d) l (Contains-get_or (l ∷ rest) k d low) there)))

pub chosen_keeps : (t : TrailState) (large : ℕ → Bool → Bool) (clause : List Literal) (pair : Option Pair) (p : ℕ) → ChoiceSays t clause pair → p ≤ length t.steps → IsServed (before t.marks t.places p) large clause → KeepsUp (before t.marks t.places p) large clause pair
chosen_keeps t large clause None p says fits s = single_keeps (before t.marks t.places p) large clause says s
chosen_keeps t large clause (Some pair) p says fits s = best_answers t large clause pair p says fits s

-- of known variables
pub chosen_below : (n : ℕ) (t : TrailState) (clause : List Literal) (pair : Option Pair) → IsBelow n clause → ChoiceSays t clause pair → IsPairBelow n pair
chosen_below n t clause None below says = tt
chosen_below n t clause (Some pair) below says = (All-contains (λ (m : Literal). m.variable < n) clause pair.first below says.first, All-contains (λ (m : Literal). m.variable < n) clause pair.second below says.second)

-- a number more in a literal's list
listed_keeps : (old new : List BothSigns) (l m : Literal) (number k : ℕ) → IsListed old new l number → Contains (watchers old m) k → Contains (watchers new m) k
listed_keeps old new l m number k is there = elim (literal_or_not m l) [
  | inl e ↦ subst (λ (x : Literal). Contains (watchers new x) k) (sym e) (subst (λ (zs : List ℕ). Contains zs k) (sym is.here) (Contains-append_left (watchers old l) (number ∷ []) k (subst (λ (x : Literal). Contains (watchers old x) k) e there)))
  | inr other ↦ subst (λ (zs : List ℕ). Contains zs k) (sym (is.others m other)) there
]

listed_there : (old new : List BothSigns) (l : Literal) (number : ℕ) → IsListed old new l number → Contains (watchers new l) number
listed_there old new l number is = subst (λ (zs : List ℕ). Contains zs number) (sym is.here) (Contains-push (watchers old l) number)

listed_all : (P : ℕ → Type 0) (old new : List BothSigns) (l m : Literal) (number : ℕ) → IsListed old new l number → P number → All P (watchers old l) → All P (watchers old m) → All P (watchers new m)
listed_all P old new l m number is one here there = elim (literal_or_not m l) [
  | inl e ↦ subst (λ (x : Literal). All P (watchers new x)) (sym e) (subst (All P) (sym is.here) (All-push P (watchers old l) number here one))
  | inr other ↦ subst (All P) (sym (is.others m other)) there
]

watched_keeps : (clause : List Literal) (n : ℕ) (old new : List BothSigns) (pair : Option Pair) → ((m : Literal) → Contains (watchers old m) n → Contains (watchers new m) n) → IsWatched clause n old pair → IsWatched clause n new pair
watched_keeps clause n old new None keeps w = w
watched_keeps clause n old new (Some pair) keeps w = record {
  first = w.first;
  second = w.second;
  apart = w.apart;
  first_listed = keeps pair.first w.first_listed;
  second_listed = keeps pair.second w.second_listed;
}

-- the lists with one clause more keep what stands in them, and have the clause where it is watched
pub record IsLonger (n : ℕ) (old new : List BothSigns) (clause : List Literal) (pair : Option Pair) : Type 0 where
  pub size : length new ≡ length old
  pub keeps : (m : Literal) (k : ℕ) → Contains (watchers old m) k → Contains (watchers new m) k
  pub numbers : ((m : Literal) → All (λ k. k < n) (watchers old m)) → (m : Literal) → All (λ k. k < n + 1) (watchers new m)
  pub last : IsWatched clause n new pair

less_next : (n : ℕ) (xs : List ℕ) → All (λ k. k < n) xs → All (λ k. k < n + 1) xs
less_next n xs h k d low = let r = h k d low in omega arith

pub longer_by : (t : TrailState) (variables : ℕ) (clause : List Literal) (w new : WatchState) (pair : Option Pair) → IsBelow variables clause → length w.lists ≡ variables → ChoiceSays t clause pair → new ≡ with_pair w pair → IsLonger (length w.pairs) w.lists new.lists clause pair
longer_by t variables clause w new None below size says is =
    let lists : new.lists ≡ w.lists = ap (λ (x : WatchState). x.lists) is in
    record {
      size = ap length lists;
      keeps = λ m k there. subst (λ (ls : List BothSigns). Contains (watchers ls m) k) (sym lists) there;
      numbers = λ h m. subst (λ (ls : List BothSigns). All (λ k. k < length w.pairs + 1) (watchers ls m)) (sym lists) (less_next (length w.pairs) (watchers w.lists m) (h m));
      last = says;
    }
longer_by t variables clause w new (Some pair) below size says is =
    let n = length w.pairs in
    let mid = with_listed w.lists pair.first n in
    let known = chosen_below variables t clause (Some pair) below says in
    let low : pair.first.variable < length w.lists = omega (arith, known.0) in
    let one = listed_by w.lists pair.first n low in
    let count : length mid ≡ length w.lists = one.size in
    let low_two : pair.second.variable < length mid = omega (arith, known.1) in
    let lists : new.lists ≡ with_listed mid pair.second n = ap (λ (x : WatchState). x.lists) is in
    let two : IsListed mid new.lists pair.second n = subst (λ (ls : List BothSigns). IsListed mid ls pair.second n) (sym lists) (listed_by mid pair.second n low_two) in
    record {
      size = two.size ∙ one.size;
      keeps = λ m k there. listed_keeps mid new.lists pair.second m n k two (listed_keeps w.lists mid pair.first m n k one there);
      numbers = λ h m.
          let P : ℕ → Type 0 = λ k. k < n + 1 in
          let at : (x : Literal) → All P (watchers mid x) = λ x. listed_all P w.lists mid pair.first x n one (omega arith) (less_next n (watchers w.lists pair.first) (h pair.first)) (less_next n (watchers w.lists x) (h x)) in
          listed_all P mid new.lists pair.second m n two (omega arith) (at pair.second) (at m);
      last = record {
        first = says.first;
        second = says.second;
        apart = says.apart;
        first_listed = listed_keeps mid new.lists pair.second pair.first n n two (listed_there w.lists mid pair.first n one);
        second_listed = listed_there mid new.lists pair.second n two;
      };
    }

pairs_by : (w new : WatchState) (pair : Option Pair) → new ≡ with_pair w pair → new.pairs ≡ w.pairs ++ pair ∷ []
pairs_by w new None is = ap (λ (x : WatchState). x.pairs) is
pairs_by w new (Some pair) is = ap (λ (x : WatchState). x.pairs) is

-- one clause more is watched
pub watched_more : (t : TrailState) (variables : ℕ) (clauses : List (List Literal)) (clause : List Literal) (w new : WatchState) (pair : Option Pair) → IsBelow variables clause → AreWatched variables clauses w → ChoiceSays t clause pair → new ≡ with_pair w pair → AreWatched variables (clauses ++ clause ∷ []) new
watched_more t variables clauses clause w new pair below are says is =
    let pairs = pairs_by w new pair is in
    let count : length w.pairs ≡ length clauses = are.pairs in
    let long = longer_by t variables clause w new pair below are.lists says is in
    let more : length (clauses ++ clause ∷ []) ≡ length clauses + 1 = length_push clauses clause in
    let older : (n : ℕ) → n < length clauses → get_or new.pairs n None ≡ get_or w.pairs n None = λ n low. ap (λ (xs : List (Option Pair)). get_or xs n None) pairs ∙ get_or_append_left w.pairs (pair ∷ []) None n (omega arith) in
    let newest : (n : ℕ) → n ≡ length clauses → get_or new.pairs n None ≡ pair = λ n e. ap (λ (xs : List (Option Pair)). get_or xs n None) pairs ∙ get_or_push w.pairs pair None n (omega arith) in
    record {
      pairs = ap length pairs ∙ length_push w.pairs pair ∙ ap (λ (n : ℕ). n + 1) count ∙ sym more;
      lists = long.size ∙ are.lists;
      numbers = λ l.
          let small : (m : Literal) → All (λ k. k < length w.pairs) (watchers w.lists m) = λ m. subst (λ (n : ℕ). All (λ k. k < n) (watchers w.lists m)) (sym count) (are.numbers m) in
          subst (λ (n : ℕ). All (λ k. k < n) (watchers new.lists l)) (ap (λ (n : ℕ). n + 1) count ∙ sym more) (long.numbers small l);
      each = λ n low. elim (lt_or_eq n (length clauses) (omega arith)) [
        | inl less ↦
            subst (IsWatched (get_or (clauses ++ clause ∷ []) n []) n new.lists) (sym (older n less))
            (subst (λ (x : List Literal). IsWatched x n new.lists (get_or w.pairs n None)) (sym (get_or_append_left clauses (clause ∷ []) [] n less))
            (watched_keeps (get_or clauses n []) n w.lists new.lists (get_or w.pairs n None) (λ m there. long.keeps m n there) (are.each n less)))
        | inr same ↦
            subst (IsWatched (get_or (clauses ++ clause ∷ []) n []) n new.lists) (sym (newest n same))
            (subst (λ (x : List Literal). IsWatched x n new.lists pair) (sym (get_or_push clauses clause [] n (sym same)))
            (subst (λ (k : ℕ). IsWatched clause k new.lists pair) (count ∙ sym same) long.last))
      ];
    }

-- one clause more keeps up
pub keep_up_more : (small large : ℕ → Bool → Bool) (clauses : List (List Literal)) (clause : List Literal) (w new : WatchState) (pair : Option Pair) → length w.pairs ≡ length clauses → new ≡ with_pair w pair → AllKeepUp small large clauses w.pairs → KeepsUp small large clause pair → AllKeepUp small large (clauses ++ clause ∷ []) new.pairs
keep_up_more small large clauses clause w new pair count is all one n low =
    let pairs = pairs_by w new pair is in
    let more : length (clauses ++ clause ∷ []) ≡ length clauses + 1 = length_push clauses clause in
    elim (lt_or_eq n (length clauses) (omega arith)) [
      | inl less ↦
          subst (KeepsUp small large (get_or (clauses ++ clause ∷ []) n []))
          (sym (ap (λ (xs : List (Option Pair)). get_or xs n None) pairs ∙ get_or_append_left w.pairs (pair ∷ []) None n (omega arith)))
          (subst (λ (x : List Literal). KeepsUp small large x (get_or w.pairs n None)) (sym (get_or_append_left clauses (clause ∷ []) [] n less)) (all n less))
      | inr same ↦
          subst (KeepsUp small large (get_or (clauses ++ clause ∷ []) n []))
          (sym (ap (λ (xs : List (Option Pair)). get_or xs n None) pairs ∙ get_or_push w.pairs pair None n (omega arith)))
          (subst (λ (x : List Literal). KeepsUp small large x pair) (sym (get_or_push clauses clause [] n (sym same))) one)
    ]
