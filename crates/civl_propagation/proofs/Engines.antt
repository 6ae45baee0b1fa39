-- What holds of an engine, and what its decisions and marks are to each other.
use Rattle.std.proofs.Common.{◌≡◌, ℕ, suc, zero, ◌+◌, ◌^◌, ◌<◌, ◌≤◌, List, [], ◌∷◌, ◌++◌, length, get_or, replicate, refl, sym, ◌∙◌, ap, subst, inl, inr, arith, Bool, true, false}
use Rattle.std.specs.Prelude.{IsTrue, All, Option, None, Some}
use Rattle.std.proofs.Math.ListN.{set, length-set}
use Rattle.std.proofs.lemmas.List.{get_or_default, get_or_append_left, get_or_push, length_push, length-append, length-replicate, get_or-replicate, get_or_past, get_or-take}
use Rattle.std.proofs.lemmas.List.Elements.{All-nil, All-push}
use Rattle.std.proofs.lemmas.Bool.{cases_lt}
use Rattle.civl_cnf.specs.Literal.{Literal}
use Rattle.civl_cnf.specs.ClauseSet.{IsBelow, AreBelow}
use Rattle.civl_units.specs.Propagation.{Holds, IsFalsified, IsUnit, IsClosed, HasConflict}
use Rattle.civl_units.specs.Marks.{is_marked, marked, IsQuiet, IsIncluded}
use Rattle.civl_units.specs.Occurrences.{nowhere, of_sign}
use Rattle.civl_units.specs.Trail.{IsOpen}
use Rattle.civl_units.proofs.MarkLemmas.{lt_or_eq, same_self, mark_absent}
use Rattle.civl_units.proofs.Propagating.{marks_stay, unit_grows}
use Rattle.civl_propagation.specs.Trail.{TrailState, before, IsAt, ReasonSays, IsTrailOver, IsDecided, IsCut, AreDecided, Deepens}
use Rattle.civl_propagation.specs.Propagation.{IsServed, Grows, ServeSays}
use Rattle.civl_propagation.specs.Watches.{WatchState, watchers, with_pair, AreWatched, KeepsUp, AllKeepUp, IsHeld, ChoiceSays, PropagationSays}
use Rattle.civl_propagation.specs.Engine.{EngineState, IsEngine, IsAtRest, IsQuietBelow, EndsBy}
use Rattle.civl_propagation.specs.declared.trail.Step.{Step}
use Rattle.civl_propagation.specs.declared.watches.Pair.{Pair}
use Rattle.civl_propagation.specs.declared.propagation.Ended.{Ended}
use Rattle.civl_propagation.specs.declared.propagation.Ended.TheVariants.{Conflict, Quiet}
use Rattle.civl_propagation.proofs.Trails.{some_step, before_place, before_by, before_marked, before_push, before_all}
use Rattle.civl_propagation.proofs.Serving.{mark_is, falsified_grows, served_quiet, trail_decides}
use Rattle.civl_propagation.proofs.Cutting.{cut_count, cut_quiet}
use Rattle.civl_propagation.proofs.Watching.{keeps_served, keeps_grow}
use Rattle.civl_propagation.proofs.Visiting.{held_grows}
use Rattle.civl_propagation.proofs.Choosing.{chosen_keeps, watched_more, keep_up_more}

abbrev no_mark : Option Bool
no_mark = None

get_or_at_zero : (xs : List ℕ) (k n : ℕ) → k < length xs → get_or xs k n ≡ n → get_or xs k 0 ≡ n
get_or_at_zero xs k n low e = get_or_default xs k 0 n low ∙ e

get_or_same : (xs : List (List Literal)) (r : ℕ) → r < length xs → get_or xs r (get_or xs r []) ≡ get_or xs r []
get_or_same xs r low = get_or_default xs r (get_or xs r []) [] low

step_lit : (steps : List Step) (n : ℕ) (d e : Step) → n < length steps → (get_or steps n d).lit ≡ (get_or steps n e).lit
step_lit steps n d e low = ap (λ (x : Step). x.lit) (get_or_default steps n d e low)

marked_by : (m : Option Bool) (b : Bool) → m ≡ Some b → IsTrue (is_marked m b)
marked_by m b e = ap (λ (o : Option Bool). is_marked o b) e ∙ same_self b

none_marked : (n v : ℕ) (b : Bool) → IsTrue (marked (replicate n None) v b) → ⊥
none_marked n v b h =
    let marks : List (Option Bool) = replicate n None in
    let size : length marks ≡ n = length-replicate n no_mark in
    mark_absent (get_or marks v None) b (elim (cases_lt v n) [
      | inl low ↦ get_or-replicate n v no_mark no_mark low
      | inr above ↦ get_or_past marks v no_mark (omega arith)
    ]) h

reason_more : (set : ℕ → Bool → Bool) (clauses more : List (List Literal)) (starts : List ℕ) (i : ℕ) (l : Literal) (r : Option ℕ) → ReasonSays set clauses starts i l r → ReasonSays set (clauses ++ more) starts i l r
reason_more set clauses more starts i l None h = h
reason_more set clauses more starts i l (Some r) h =
    let size = length-append clauses more in
    let low : r < length clauses = h.0 in
    (omega arith, subst (λ c. IsUnit set c l) (sym (get_or_append_left clauses more [] r low)) h.1)

-- the decisions stay where the trail grows at its end
pub decided_grows : (old new : TrailState) (decisions : List Literal) → Grows old new → AreDecided old decisions → AreDecided new decisions
decided_grows old new decisions g d =
    let size : length new.starts ≡ length old.starts = ap length g.starts in
    let longer = g.longer in
    let at : (k : ℕ) → get_or new.starts k 0 ≡ get_or old.starts k 0 = λ k. ap (λ (x : List ℕ). get_or x k 0) g.starts in
    let count = d.size in
    record {
      size = size ∙ d.size;
      rise = λ i j less low.
          let a = at i in
          let b = at j in
          let r = d.rise i j less (omega arith) in
          omega arith;
      low = λ k low.
          let a = at k in
          let r = d.low k (omega arith) in
          omega arith;
      each = λ k s e low.
          let r = d.low k (omega arith) in
          ap (λ i. (get_or new.steps i s).lit) (at k) ∙ ap (λ (x : Step). x.lit) (g.steps (get_or old.starts k 0) s r) ∙ d.each k s e low;
    }

-- one more decision
pub decided_more : (old new : TrailState) (decisions : List Literal) (l : Literal) → IsDecided old new l → AreDecided old decisions → AreDecided new (decisions ++ l ∷ [])
decided_more old new decisions l is d =
    let n = length old.steps in
    let s : Step = record { lit = l; reason = None } in
    let starts : length new.starts ≡ length old.starts + 1 = ap length is.starts ∙ length_push old.starts n in
    let steps : length new.steps ≡ n + 1 = ap length is.steps ∙ length_push old.steps s in
    let more : length (decisions ++ l ∷ []) ≡ length decisions + 1 = length_push decisions l in
    let count = d.size in
    let older : (k : ℕ) → k < length old.starts → get_or new.starts k 0 ≡ get_or old.starts k 0 = λ k low. ap (λ (x : List ℕ). get_or x k 0) is.starts ∙ get_or_append_left old.starts (n ∷ []) 0 k low in
    let newest : (k : ℕ) → k ≡ length old.starts → get_or new.starts k 0 ≡ n = λ k e. ap (λ (x : List ℕ). get_or x k 0) is.starts ∙ get_or_push old.starts n 0 k (sym e) in
    record {
      size = omega arith;
      rise = λ i j less low. elim (lt_or_eq j (length old.starts) (omega arith)) [
        | inl below ↦
            let a = older i (omega arith) in
            let b = older j below in
            let r = d.rise i j less below in
            omega arith
        | inr e ↦
            let a = older i (omega arith) in
            let b = newest j e in
            let r = d.low i (omega arith) in
            omega arith
      ];
      low = λ k low. elim (lt_or_eq k (length old.starts) (omega arith)) [
        | inl below ↦ let a = older k below in let r = d.low k below in omega arith
        | inr e ↦ let a = newest k e in omega arith
      ];
      each = λ k x e low. elim (lt_or_eq k (length old.starts) (omega arith)) [
        | inl below ↦
            let r = d.low k below in
            let here : k < length decisions = omega arith in
            ap (λ i. (get_or new.steps i x).lit) (older k below)
            ∙ ap (λ (xs : List Step). (get_or xs (get_or old.starts k 0) x).lit) is.steps
            ∙ ap (λ (y : Step). y.lit) (get_or_append_left old.steps (s ∷ []) x (get_or old.starts k 0) r)
            ∙ d.each k x e here
            ∙ sym (get_or_append_left decisions (l ∷ []) e k here)
        | inr is_last ↦
            let there : k ≡ length decisions = omega arith in
            ap (λ i. (get_or new.steps i x).lit) (newest k is_last)
            ∙ ap (λ (xs : List Step). (get_or xs n x).lit) is.steps
            ∙ ap (λ (y : Step). y.lit) (get_or_push old.steps s x n refl)
            ∙ sym (get_or_push decisions l e k (sym there))
      ];
    }

-- a step's literal is in each closed set that has what was decided and what is true before
forced : (t : TrailState) (clauses : List (List Literal)) (decisions : List Literal) (n : ℕ) (l : Literal) (r : Option ℕ) (set : ℕ → Bool → Bool) → ((d : Step) → (get_or t.steps n d).lit ≡ l) → AreDecided t decisions → All (Holds set) decisions → IsClosed set clauses → IsIncluded (before t.marks t.places n) set → ReasonSays (before t.marks t.places n) clauses t.starts n l r → Holds set l
forced t clauses decisions n l None set is d hold closed within h =
    let low : h.0 < length t.starts = h.1 in
    let count = d.size in
    let here : h.0 < length decisions = omega arith in
    let k : get_or t.starts h.0 0 ≡ n = get_or_at_zero t.starts h.0 n low h.2 in
    let same : get_or decisions h.0 l ≡ l = sym (d.each h.0 some_step l here) ∙ ap (λ i. (get_or t.steps i some_step).lit) k ∙ is some_step in
    subst (λ (m : Literal). Holds set m) same (hold h.0 l here)
forced t clauses decisions n l (Some r) set is d hold closed within h = closed r [] h.0 l (unit_grows (before t.marks t.places n) set (get_or clauses r []) l within h.1)

-- all that is true before a place lies in each closed set that has what was decided
least_before : (t : TrailState) (clauses : List (List Literal)) (decisions : List Literal) (set : ℕ → Bool → Bool) → IsTrailOver t clauses → AreDecided t decisions → All (Holds set) decisions → IsClosed set clauses → (n : ℕ) → n ≤ length t.steps → IsIncluded (before t.marks t.places n) set
least_before t clauses decisions set h d hold closed zero low v b m = let p = before_place t.marks t.places 0 v b m in absurd (omega arith)
least_before t clauses decisions set h d hold closed (suc n) low v b m =
    let p : get_or t.places v 0 < suc n = before_place t.marks t.places (suc n) v b m in
    let held = before_marked t.marks t.places (suc n) v b m in
    let rest = least_before t clauses decisions set h d hold closed n (omega arith) in
    elim (lt_or_eq (get_or t.places v 0) n (omega arith)) [
      | inl less ↦ rest v b (before_by t.marks t.places n v b less held)
      | inr is ↦
          let s = get_or t.steps n some_step in
          let step = h.steps_are n some_step (omega arith) in
          let same : (e : Step) → (get_or t.steps n e).lit ≡ s.lit = λ e. step_lit t.steps n e some_step (omega arith) in
          let holds = forced t clauses decisions n s.lit s.reason set same d hold closed rest (h.reasons n some_step (omega arith)) in
          let variable : s.lit.variable ≡ v = ap (λ i. (get_or t.steps i some_step).lit.variable) (sym is) ∙ (h.marks_are v b some_step held).1 in
          let sign : s.lit.positive ≡ b = mark_is t.marks s.lit.variable s.lit.positive b step.mark (subst (λ u. IsTrue (marked t.marks u b)) (sym variable) held) in
          subst (λ u. IsTrue (set u b)) variable (subst (λ x. IsTrue (set s.lit.variable x)) sign holds)
    ]

-- what is true lies in each closed set that has what was decided
pub least_by : (t : TrailState) (clauses : List (List Literal)) (decisions : List Literal) → IsTrailOver t clauses → AreDecided t decisions → (set : ℕ → Bool → Bool) → All (Holds set) decisions → IsClosed set clauses → IsIncluded (marked t.marks) set
least_by t clauses decisions h d set hold closed =
    subst (λ f. IsIncluded f set) (before_all t.marks t.places t.steps t.starts clauses h) (least_before t clauses decisions set h d hold closed (length t.steps) (omega arith))

-- what was decided is true
pub decided_hold : (t : TrailState) (clauses : List (List Literal)) (decisions : List Literal) → IsTrailOver t clauses → AreDecided t decisions → All (Holds (marked t.marks)) decisions
decided_hold t clauses decisions h d k e low =
    let count = d.size in
    let at = get_or t.starts k 0 in
    let l = (get_or t.steps at some_step).lit in
    let step = h.steps_are at some_step (d.low k (omega arith)) in
    subst (λ (m : Literal). Holds (marked t.marks) m) (d.each k some_step e low) (marked_by (get_or t.marks l.variable None) l.positive step.mark)

-- what was decided leads to a conflict, where a clause is falsified
pub conflict_by : (t : TrailState) (clauses : List (List Literal)) (decisions : List Literal) (r : ℕ) → IsTrailOver t clauses → AreDecided t decisions → IsAt clauses r (IsFalsified (marked t.marks)) → (set : ℕ → Bool → Bool) → All (Holds set) decisions → IsClosed set clauses → HasConflict set clauses
conflict_by t clauses decisions r h d at set hold closed =
    let clause = get_or clauses r [] in
    (r, clause, at.0, get_or_same clauses r at.0, falsified_grows (marked t.marks) set clause (least_by t clauses decisions h d set hold closed) at.1)

of_nowhere : (b : Bool) → of_sign b nowhere ≡ []
of_nowhere true = refl
of_nowhere false = refl

-- where no clause is watched, each list is empty
none_watch : (n : ℕ) (l : Literal) → watchers (replicate n nowhere) l ≡ []
none_watch n l = elim (cases_lt l.variable n) [
  | inl low ↦ ap (of_sign l.positive) (get_or-replicate n l.variable nowhere nowhere low) ∙ of_nowhere l.positive
  | inr above ↦
      let size : length (replicate n nowhere) ≡ n = length-replicate n nowhere in
      ap (of_sign l.positive) (get_or_past (replicate n nowhere) l.variable nowhere (omega arith)) ∙ of_nowhere l.positive
]

-- a decision at the end changes nothing before it
pub before_decide : (old new : TrailState) (l : Literal) (p : ℕ) → length old.places ≡ length old.marks → IsDecided old new l → l.variable < length old.marks → IsOpen old.marks l → p ≤ length old.steps → before new.marks new.places p ≡ before old.marks old.places p
before_decide old new l p size is low free fits =
    ap (λ m. before m new.places p) is.marks
    ∙ ap (λ x. before (set old.marks l.variable (Some l.positive)) x p) is.places
    ∙ before_push old.marks old.places (length old.steps) p l.variable l.positive fits low size free

-- an engine with no clause
pub engine_none : (n : ℕ) → IsTrailOver (record { marks = replicate n None; places = replicate n 0; steps = []; starts = [] }) []
engine_none n = record {
  size = length-replicate n 0 ∙ sym (length-replicate n no_mark);
  steps_are = λ i d low. absurd (omega arith);
  marks_are = λ v b d held. absurd (none_marked n v b held);
  reasons = λ i d low. absurd (omega arith);
  rise = λ i j le low. absurd (omega arith);
  low = λ k low. absurd (omega arith);
  closed = λ k low. absurd (omega arith);
}

pub decided_none : (t : TrailState) → t.starts ≡ [] → AreDecided t []
decided_none t none =
    let size : length t.starts ≡ 0 = ap length none in
    record {
      size = size;
      rise = λ i j less low. absurd (omega arith);
      low = λ k low. absurd (omega arith);
      each = λ k d e low. absurd (omega arith);
    }

-- a trail over one clause more
pub trail_more : (t : TrailState) (clauses : List (List Literal)) (clause : List Literal) → IsTrailOver t clauses → IsQuietBelow t clause → IsTrailOver t (clauses ++ clause ∷ [])
trail_more t clauses clause h quiet = record {
  size = h.size;
  steps_are = h.steps_are;
  marks_are = h.marks_are;
  reasons = λ i d low. reason_more (before t.marks t.places i) clauses (clause ∷ []) t.starts i (get_or t.steps i d).lit (get_or t.steps i d).reason (h.reasons i d low);
  rise = h.rise;
  low = h.low;
  closed = λ k low. All-push (IsQuiet (before t.marks t.places (get_or t.starts k 0))) clauses clause (h.closed k low) (quiet k low);
}

-- what an engine holds of its trail, its clauses and their watches
pub held_of : (e : EngineState) → IsEngine e → IsHeld e.trail e.clauses e.watches
held_of e h = record { trail = h.trail; watched = h.watched; below = h.keeps }

-- an engine whose trail went on
pub engine_held : (e : EngineState) (t : TrailState) (w : WatchState) → IsEngine e → Grows e.trail t → IsHeld t e.clauses w → IsEngine (record { trail = t; clauses = e.clauses; watches = w })
engine_held e t w h g held =
    let size : length t.marks ≡ length e.trail.marks = g.size in
    let few = h.few in
    record {
      few = omega arith;
      below = subst (λ (n : ℕ). AreBelow n e.clauses) (sym size) h.below;
      trail = held.trail;
      watched = held.watched;
      keeps = held.below;
    }

-- where all clauses keep up, none forces anything more, and none is falsified
pub quiet_by : (t : TrailState) (clauses : List (List Literal)) (w : WatchState) → AreWatched (length t.marks) clauses w → AllKeepUp (marked t.marks) (marked t.marks) clauses w.pairs → All (IsQuiet (marked t.marks)) clauses
quiet_by t clauses w are keeps n d low =
    let set = marked t.marks in
    let s = keeps_served t.marks set set (get_or clauses n []) n w.lists (get_or w.pairs n None) (λ v b m. m) (λ v b m. m) (are.each n low) (keeps n low) in
    subst (IsQuiet set) (get_or_default clauses n [] d low) (s.forced, s.quiet)

-- how propagation in an engine ended
pub ends_by : (e : EngineState) (t : TrailState) (w : WatchState) (ended : Ended) → IsEngine e → PropagationSays e.trail t e.clauses w ended → EndsBy (record { trail = t; clauses = e.clauses; watches = w }) ended
ends_by e t w (Conflict r) h says = (engine_held e t w h says.0 says.1, says.2)
ends_by e t w Quiet h says = record {
  engine = engine_held e t w h says.0 says.1;
  quiet = quiet_by t e.clauses w says.1.watched says.2;
  keeps = says.2;
}

pub grows_of : (old new : TrailState) (clauses : List (List Literal)) (w : WatchState) (ended : Ended) → PropagationSays old new clauses w ended → Grows old new
grows_of old new clauses w (Conflict r) says = says.0
grows_of old new clauses w Quiet says = says.0

-- what adding a clause comes to, up to the look at the clause
pub record Adding (e : EngineState) (clause : List Literal) (pair : Option Pair) (clauses : List (List Literal)) (w : WatchState) (number from : ℕ) : Type 0 where
  pub rest : IsAtRest e
  pub is : clauses ≡ e.clauses ++ clause ∷ []
  pub watches_are : w ≡ with_pair e.watches pair
  pub chosen : ChoiceSays e.trail clause pair
  pub engine : IsEngine (record { trail = e.trail; clauses = clauses; watches = w })
  pub number_is : number ≡ length e.clauses
  pub from_is : from ≡ length e.trail.steps

pub adding_by : (e : EngineState) (clause : List Literal) (pair : Option Pair) (clauses : List (List Literal)) (w : WatchState) (number from : ℕ) → IsAtRest e → IsBelow (length e.trail.marks) clause → IsQuietBelow e.trail clause → clauses ≡ e.clauses ++ clause ∷ [] → w ≡ with_pair e.watches pair → ChoiceSays e.trail clause pair → number ≡ length e.clauses → from ≡ length e.trail.steps → Adding e clause pair clauses w number from
adding_by e clause pair clauses w number from rest below quiet is watches_are chosen at start =
    let h = rest.engine in
    let t = e.trail in
    let whole : IsEngine (record { trail = t; clauses = e.clauses ++ clause ∷ []; watches = w }) = record {
      few = h.few;
      below = All-push (IsBelow (length t.marks)) e.clauses clause h.below below;
      trail = trail_more t e.clauses clause h.trail quiet;
      watched = watched_more t (length t.marks) e.clauses clause e.watches w pair below h.watched chosen watches_are;
      keeps = λ k low.
          let p = get_or t.starts k 0 in
          keep_up_more (before t.marks t.places p) (before t.marks t.places p) e.clauses clause e.watches w pair h.watched.pairs watches_are (h.keeps k low)
          (chosen_keeps t (before t.marks t.places p) clause pair p chosen (h.trail.low k low) (served_quiet (before t.marks t.places p) clause (quiet k low)));
    } in
    record {
      rest = rest;
      is = is;
      watches_are = watches_are;
      chosen = chosen;
      engine = subst (λ (cs : List (List Literal)). IsEngine (record { trail = t; clauses = cs; watches = w })) (sym is) whole;
      number_is = at;
      from_is = start;
    }

-- once the new clause was looked at, all keep up
pub added_keeps : (e : EngineState) (clause : List Literal) (pair : Option Pair) (clauses : List (List Literal)) (w : WatchState) (number from : ℕ) (new : TrailState) → Adding e clause pair clauses w number from → Grows e.trail new → IsAt clauses number (IsServed (marked e.trail.marks) (marked new.marks)) → AllKeepUp (before new.marks new.places from) (marked new.marks) clauses w.pairs
added_keeps e clause pair clauses w number from new a g at =
    let old = e.trail in
    let h = a.rest.engine in
    let n = length old.steps in
    let all : before old.marks old.places n ≡ marked old.marks = before_all old.marks old.places old.steps old.starts e.clauses h.trail in
    let same : before new.marks new.places from ≡ before old.marks old.places n = ap (before new.marks new.places) a.from_is ∙ g.same n (omega arith) in
    let here : get_or clauses number [] ≡ clause = ap (λ (cs : List (List Literal)). get_or cs number []) a.is ∙ get_or_push e.clauses clause [] number (sym a.number_is) in
    let served : IsServed (before old.marks old.places n) (marked new.marks) clause = subst (λ f. IsServed f (marked new.marks) clause) (sym all) (subst (IsServed (marked old.marks) (marked new.marks)) here at.1) in
    let last = chosen_keeps old (marked new.marks) clause pair n a.chosen (omega arith) served in
    let older : AllKeepUp (before old.marks old.places n) (marked new.marks) e.clauses e.watches.pairs = λ k low.
    keeps_grow (before old.marks old.places n) (marked old.marks) (marked new.marks) (get_or e.clauses k []) (get_or e.watches.pairs k None) g.stays
    (subst (λ f. KeepsUp f (marked old.marks) (get_or e.clauses k []) (get_or e.watches.pairs k None)) (sym all) (a.rest.keeps k low)) in
    subst (λ f. AllKeepUp f (marked new.marks) clauses w.pairs) (sym same)
    (subst (λ (cs : List (List Literal)). AllKeepUp (before old.marks old.places n) (marked new.marks) cs w.pairs) (sym a.is)
    (keep_up_more (before old.marks old.places n) (marked new.marks) e.clauses clause e.watches w pair h.watched.pairs a.watches_are older last))

-- what stands when propagation begins
pub record Added (old new : TrailState) (clauses : List (List Literal)) (w : WatchState) (from : ℕ) : Type 0 where
  pub grows : Grows old new
  pub held : IsHeld new clauses w
  pub low : from ≤ length new.steps
  pub keeps : AllKeepUp (before new.marks new.places from) (marked new.marks) clauses w.pairs

pub adding_served : (e : EngineState) (clause : List Literal) (pair : Option Pair) (clauses : List (List Literal)) (w : WatchState) (number from : ℕ) (t : TrailState) (ended : Ended) → Adding e clause pair clauses w number from → ServeSays e.trail t clauses number ended → ended ≡ Quiet → Added e.trail t clauses w from
adding_served e clause pair clauses w number from t ended a says end =
    let now : ServeSays e.trail t clauses number Quiet = subst (ServeSays e.trail t clauses number) end says in
    let start = a.from_is in
    let longer = now.0.grows.longer in
    record {
      grows = now.0.grows;
      held = held_grows e.trail t clauses w (held_of (record { trail = e.trail; clauses = clauses; watches = w }) a.engine) now.0;
      low = omega arith;
      keeps = added_keeps e clause pair clauses w number from t a now.0.grows now.1;
    }

-- the new clause is falsified at once
pub adding_falsified : (e : EngineState) (clause : List Literal) (pair : Option Pair) (clauses : List (List Literal)) (w : WatchState) (number from : ℕ) (t : TrailState) (r : ℕ) → Adding e clause pair clauses w number from → ServeSays e.trail t clauses number (Conflict r) → EndsBy (record { trail = t; clauses = clauses; watches = w }) (Conflict r)
adding_falsified e clause pair clauses w number from t r a says =
    let mid : EngineState = record { trail = e.trail; clauses = clauses; watches = w } in
    (engine_held mid t w a.engine says.0.grows (held_grows e.trail t clauses w (held_of mid a.engine) says.0), says.1)

-- a level begins with a decision: what keeps up with all that was true does so below its start
decided_held : (old new : TrailState) (clauses : List (List Literal)) (w : WatchState) (l : Literal) → IsHeld old clauses w → All (IsQuiet (marked old.marks)) clauses → AllKeepUp (marked old.marks) (marked old.marks) clauses w.pairs → IsDecided old new l → l.variable < length old.marks → IsOpen old.marks l → IsHeld new clauses w
decided_held old new clauses w l h quiet keeps is low free =
    let n = length old.steps in
    let size : length new.marks ≡ length old.marks = ap length is.marks ∙ length-set old.marks l.variable (Some l.positive) in
    let same : (p : ℕ) → p ≤ n → before new.marks new.places p ≡ before old.marks old.places p = λ p fits. before_decide old new l p h.trail.size is low free fits in
    let count : length new.starts ≡ length old.starts + 1 = ap length is.starts ∙ length_push old.starts n in
    record {
      trail = trail_decides old new clauses l h.trail quiet is low free;
      watched = subst (λ (k : ℕ). AreWatched k clauses w) (sym size) h.watched;
      below = λ k inside. elim (lt_or_eq k (length old.starts) (omega arith)) [
        | inl less ↦
            let at : get_or new.starts k 0 ≡ get_or old.starts k 0 = ap (λ (x : List ℕ). get_or x k 0) is.starts ∙ get_or_append_left old.starts (n ∷ []) 0 k less in
            let f : before new.marks new.places (get_or new.starts k 0) ≡ before old.marks old.places (get_or old.starts k 0) = ap (before new.marks new.places) at ∙ same (get_or old.starts k 0) (h.trail.low k less) in
            subst (λ s. AllKeepUp s s clauses w.pairs) (sym f) (h.below k less)
        | inr last ↦
            let at : get_or new.starts k 0 ≡ n = ap (λ (x : List ℕ). get_or x k 0) is.starts ∙ get_or_push old.starts n 0 k (sym last) in
            let f : before new.marks new.places (get_or new.starts k 0) ≡ marked old.marks = ap (before new.marks new.places) at ∙ same n (omega arith) ∙ before_all old.marks old.places old.steps old.starts clauses h.trail in
            subst (λ s. AllKeepUp s s clauses w.pairs) (sym f) keeps
      ];
    }

-- an engine with a decision, of which propagation is due
pub record Deciding (e : EngineState) (t : TrailState) (from : ℕ) : Type 0 where
  pub engine : IsEngine (record { trail = t; clauses = e.clauses; watches = e.watches })
  pub low : from ≤ length t.steps
  pub keeps : AllKeepUp (before t.marks t.places from) (marked t.marks) e.clauses e.watches.pairs

pub engine_decides : (e : EngineState) (t : TrailState) (l : Literal) (from : ℕ) → IsAtRest e → IsDecided e.trail t l → l.variable < length e.trail.marks → IsOpen e.trail.marks l → from ≡ length e.trail.steps → Deciding e t from
engine_decides e t l from rest is low free start =
    let h = rest.engine in
    let old = e.trail in
    let n = length old.steps in
    let size : length t.marks ≡ length old.marks = ap length is.marks ∙ length-set old.marks l.variable (Some l.positive) in
    let few = h.few in
    let held = decided_held old t e.clauses e.watches l (held_of e h) rest.quiet rest.keeps is low free in
    let longer : length t.steps ≡ n + 1 = ap length is.steps ∙ length_push old.steps (record { lit = l; reason = None }) in
    let same : before t.marks t.places from ≡ marked old.marks = ap (before t.marks t.places) start ∙ before_decide old t l n h.trail.size is low free (omega arith) ∙ before_all old.marks old.places old.steps old.starts e.clauses h.trail in
    let grown : IsIncluded (marked old.marks) (marked t.marks) = λ v b m. subst (λ x. IsTrue (marked x v b)) (sym is.marks) (marks_stay old.marks l free v b m) in
    record {
      engine = record {
        few = omega arith;
        below = subst (λ (k : ℕ). AreBelow k e.clauses) (sym size) h.below;
        trail = held.trail;
        watched = held.watched;
        keeps = held.below;
      };
      low = omega arith;
      keeps = λ k inside.
          keeps_grow (before t.marks t.places from) (marked old.marks) (marked t.marks) (get_or e.clauses k []) (get_or e.watches.pairs k None) grown
          (subst (λ f. KeepsUp f (marked old.marks) (get_or e.clauses k []) (get_or e.watches.pairs k None)) (sym same) (rest.keeps k inside));
    }

-- an engine whose levels were taken back: its watches stay as they are
pub engine_cut : (e : EngineState) (t : TrailState) (levels : ℕ) → IsEngine e → levels < length e.trail.starts → IsCut e.trail t levels → IsAtRest (record { trail = t; clauses = e.clauses; watches = e.watches })
engine_cut e t levels h fits cut =
    let old = e.trail in
    let size : length t.marks ≡ length old.marks = cut.size in
    let few = h.few in
    let count : length t.starts ≡ levels = cut_count old t levels (omega arith) cut in
    let end = cut.end in
    let older : (k : ℕ) → k < levels → get_or t.starts k 0 ≡ get_or old.starts k 0 = λ k low. ap (λ (x : List ℕ). get_or x k 0) cut.starts ∙ get_or-take levels old.starts k 0 low in
    let all : before old.marks old.places (get_or old.starts levels 0) ≡ marked t.marks = ap (before old.marks old.places) (sym end) ∙ sym (cut.same (length t.steps) (omega arith)) ∙ before_all t.marks t.places t.steps t.starts e.clauses (cut.keeps e.clauses h.trail) in
    let watched = subst (λ (n : ℕ). AreWatched n e.clauses e.watches) (sym size) h.watched in
    record {
      engine = record {
        few = omega arith;
        below = subst (λ (n : ℕ). AreBelow n e.clauses) (sym size) h.below;
        trail = cut.keeps e.clauses h.trail;
        watched = watched;
        keeps = λ k inside.
            let here : k < levels = omega arith in
            let rise = h.trail.rise k levels (omega arith) fits in
            let f : before t.marks t.places (get_or t.starts k 0) ≡ before old.marks old.places (get_or old.starts k 0) = ap (before t.marks t.places) (older k here) ∙ cut.same (get_or old.starts k 0) (omega arith) in
            subst (λ s. AllKeepUp s s e.clauses e.watches.pairs) (sym f) (h.keeps k (omega arith));
      };
      quiet = cut_quiet old t levels e.clauses fits h.trail cut;
      keeps = subst (λ s. AllKeepUp s s e.clauses e.watches.pairs) all (h.keeps levels fits);
    }

-- a level begins, and the trail goes on
pub deepens_by : (old mid new : TrailState) (l : Literal) → length old.places ≡ length old.marks → IsDecided old mid l → l.variable < length old.marks → IsOpen old.marks l → Grows mid new → Deepens old new
deepens_by old mid new l size is low free g =
    let longer : length mid.steps ≡ length old.steps + 1 = ap length is.steps ∙ length_push old.steps (record { lit = l; reason = None }) in
    record {
      starts = g.starts ∙ is.starts;
      same = λ p fits. g.same p (omega arith) ∙ before_decide old mid l p size is low free fits;
    }

-- an engine with no clause and no mark
pub engine_new : (n : ℕ) (t : TrailState) (clauses : List (List Literal)) (w : WatchState) → n ≤ 2 ^ 31 → t ≡ record { marks = replicate n None; places = replicate n 0; steps = []; starts = [] } → clauses ≡ [] → w ≡ record { pairs = []; lists = replicate n nowhere } → IsAtRest (record { trail = t; clauses = clauses; watches = w })
engine_new n t clauses w few is none watches_are =
    let marks : length t.marks ≡ n = ap (λ (x : TrailState). length x.marks) is ∙ length-replicate n no_mark in
    let starts : length t.starts ≡ 0 = ap (λ (x : TrailState). length x.starts) is in
    let lists : length w.lists ≡ n = ap (λ (x : WatchState). length x.lists) watches_are ∙ length-replicate n nowhere in
    let free : (l : Literal) → watchers w.lists l ≡ [] = λ l. ap (λ (x : WatchState). watchers x.lists l) watches_are ∙ none_watch n l in
    subst (λ (cs : List (List Literal)). IsAtRest (record { trail = t; clauses = cs; watches = w })) (sym none) (record {
      engine = record {
        few = omega arith;
        below = All-nil (IsBelow (length t.marks));
        trail = subst (λ (x : TrailState). IsTrailOver x []) (sym is) (engine_none n);
        watched = record {
          pairs = ap (λ (x : WatchState). length x.pairs) watches_are;
          lists = lists ∙ sym marks;
          numbers = λ l. subst (All (λ k. k < 0)) (sym (free l)) (All-nil (λ k. k < 0));
          each = λ k low. absurd (omega arith);
        };
        keeps = λ k low. absurd (omega arith);
      };
      quiet = All-nil (IsQuiet (marked t.marks));
      keeps = λ k low. absurd (omega arith);
    })
