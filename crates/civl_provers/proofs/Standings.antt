-- Where the engine of propagation stands in a splitting.
use Rattle.std.proofs.Common.{◌≡◌, ◌⊎◌, ℕ, ◌+◌, ◌-◌, ◌<◌, ◌≤◌, List, [], ◌∷◌, ◌++◌, length, get_or, take, drop, map, refl, sym, ◌∙◌, ap, subst, inl, inr, arith, Bool, true, false}
use Rattle.std.specs.Prelude.{IsTrue, All, Option, None, Some}
use Rattle.std.proofs.lemmas.List.{map-append, take-map, length-map, length_push, length-append, get_or_push, get_or_append_left, get_or-take, take-append-le, take_all, take-append-drop}
use Rattle.std.proofs.lemmas.List.Elements.{All-nil, All-cons, All-head, All-tail}
use Rattle.civl_cnf.specs.Literal.{Literal, opposite}
use Rattle.civl_cnf.specs.ClauseSet.{ClauseSet}
use Rattle.civl_units.specs.Propagation.{Holds, Fails, IsFalsified, IsClosed, GivesConflict}
use Rattle.civl_units.specs.Marks.{is_marked, marked, IsQuiet}
use Rattle.civl_units.proofs.MarkLemmas.{same_self, lt_or_eq, mark_absent}
use Rattle.civl_propagation.specs.Trail.{before, IsAt, IsCut, Deepens, AreDecided}
use Rattle.civl_propagation.specs.Engine.{EngineState, IsEngine, IsAtRest}
use Rattle.civl_propagation.proofs.Trails.{before_marked, before_all}
use Rattle.civl_propagation.proofs.Engines.{least_by, decided_hold, conflict_by}
use Rattle.civl_rup.proofs.Standings.{conflict_more}
use Rattle.civl_provers.specs.Branch.{IsLeftOpen, IsBranch}
use Rattle.civl_provers.specs.Splitter.{IsSplit}
use Rattle.civl_provers.specs.inner.Node.{IsPropagated, HaveValuesFrom, EndSays}
use Rattle.civl_provers.specs.inner.Standing.{AreLast, IsAtBranch, LookSays, Turns, IsTurning}
use Rattle.civl_provers.proofs.Branches.{IsChoice, choices_last}

-- literals that fail have opposites that hold, and the other way round
pub hold_opposites : (s : ℕ → Bool → Bool) (xs : List Literal) → All (Fails s) xs → All (Holds s) (map opposite xs)
hold_opposites s [] h = All-nil (Holds s)
hold_opposites s (x ∷ xs) h = All-cons (Holds s) (opposite x) (map opposite xs) (All-head (Fails s) x xs h) (hold_opposites s xs (All-tail (Fails s) x xs h))

pub fail_opposites : (s : ℕ → Bool → Bool) (xs : List Literal) → All (Holds s) (map opposite xs) → All (Fails s) xs
fail_opposites s [] h = All-nil (Fails s)
fail_opposites s (x ∷ xs) h = All-cons (Fails s) x xs (All-head (Holds s) (opposite x) (map opposite xs) h) (fail_opposites s xs (All-tail (Holds s) (opposite x) (map opposite xs) h))

-- a branch under which a clause is falsified is refuted
pub refuted_at : (e : EngineState) (set : ClauseSet) (falses : List Literal) (r : ℕ) → IsAtBranch e set falses → IsAt e.clauses r (IsFalsified (marked e.trail.marks)) → GivesConflict set.clauses falses
refuted_at e set falses r b at =
    subst (λ (cs : List (List Literal)). GivesConflict cs falses) b.clauses
    (λ s fails closed. conflict_by e.trail e.clauses (map opposite falses) r b.engine.trail b.decided at s (hold_opposites s falses fails) closed)

-- where propagation is complete the marks are what it makes true
pub propagated_at : (e : EngineState) (set : ClauseSet) (falses : List Literal) → IsAtBranch e set falses → IsAtRest e → IsPropagated e.trail.marks set falses
propagated_at e set falses b rest = record {
  size = b.size;
  fails = fail_opposites (marked e.trail.marks) falses (decided_hold e.trail e.clauses (map opposite falses) b.engine.trail b.decided);
  least = λ s fails closed. least_by e.trail e.clauses (map opposite falses) b.engine.trail b.decided s (hold_opposites s falses fails) (subst (IsClosed s) (sym b.clauses) closed);
  quiet = subst (All (IsQuiet (marked e.trail.marks))) b.clauses rest.quiet;
}

has_value : (m : Option Bool) → (m ≡ None) ⊎ ((b : Bool) × (is_marked m b ≡ true))
has_value None = inl refl
has_value (Some b) = inr (b, same_self b)

-- a variable that was left open has no value
pub open_at : (e : EngineState) (set : ClauseSet) (falses : List Literal) (v : ℕ) → IsAtBranch e set falses → IsLeftOpen set.clauses falses v → get_or e.trail.marks v None ≡ None
open_at e set falses v b free = elim (has_value (get_or e.trail.marks v None)) [
  | inl none ↦ none
  | inr some ↦ absurd (free some.0 (λ s fails closed.
      least_by e.trail e.clauses (map opposite falses) b.engine.trail b.decided s (hold_opposites s falses fails) (subst (IsClosed s) (sym b.clauses) closed) v some.0 some.1))
]

-- behind the last choice all variables have values
pub values_behind : (e : EngineState) (set : ClauseSet) (falses : List Literal) (n : ℕ) → IsAtBranch e set falses → EndSays set.variables falses n → HaveValuesFrom e.trail.marks n
values_behind e set falses n b (inl none) w low inside free = let size = b.size in let end = none.1 in absurd (omega arith)
values_behind e set falses n b (inr some) w low inside free =
    let count = some.0 in
    let d : Literal = record { variable = 0; positive = true } in
    let end = some.1 d in
    let value = b.last (length falses - 1) w d (omega arith) (omega arith) inside in
    mark_absent (get_or e.trail.marks w None) value.0 free (before_marked e.trail.marks e.trail.places (get_or e.trail.starts (length falses - 1) 0) w value.0 value.1)

pub end_within : (set : ClauseSet) (falses : List Literal) (n : ℕ) → IsBranch set falses → EndSays set.variables falses n → n ≤ set.variables
end_within set falses n branch (inl none) = let end = none.1 in omega arith
end_within set falses n branch (inr some) =
    let count = some.0 in
    let d : Literal = record { variable = 0; positive = true } in
    let end = some.1 d in
    let known = (branch (length falses - 1) d (omega arith)).0 in
    omega arith

-- one more choice, of the last variable without a value
last_more : (old new : EngineState) (set : ClauseSet) (falses : List Literal) (l : Literal) → IsAtBranch old set falses → length new.trail.marks ≡ length old.trail.marks → Deepens old.trail new.trail → HaveValuesFrom old.trail.marks (l.variable + 1) → AreLast new.trail (falses ++ l ∷ [])
last_more old new set falses l b size deep behind k w d low later inside =
    let t = old.trail in
    let u = new.trail in
    let n = length falses in
    let count : length t.starts ≡ n = b.decided.size ∙ length-map falses opposite in
    let more : length (falses ++ l ∷ []) ≡ n + 1 = length_push falses l in
    elim (lt_or_eq k n (omega arith)) [
      | inl less ↦
          let lit : get_or (falses ++ l ∷ []) k d ≡ get_or falses k d = get_or_append_left falses (l ∷ []) d k less in
          let variable : (get_or (falses ++ l ∷ []) k d).variable ≡ (get_or falses k d).variable = ap (λ (x : Literal). x.variable) lit in
          let start : get_or u.starts k 0 ≡ get_or t.starts k 0 = ap (λ (x : List ℕ). get_or x k 0) deep.starts ∙ get_or_append_left t.starts (length t.steps ∷ []) 0 k (omega arith) in
          let f : before u.marks u.places (get_or u.starts k 0) ≡ before t.marks t.places (get_or t.starts k 0) = ap (before u.marks u.places) start ∙ deep.same (get_or t.starts k 0) (b.engine.trail.low k (omega arith)) in
          subst (λ s. (x : Bool) × IsTrue (s w x)) (sym f) (b.last k w d less (omega arith) (omega arith))
      | inr same ↦
          let lit : get_or (falses ++ l ∷ []) k d ≡ l = get_or_push falses l d k (sym same) in
          let variable : (get_or (falses ++ l ∷ []) k d).variable ≡ l.variable = ap (λ (x : Literal). x.variable) lit in
          let start : get_or u.starts k 0 ≡ length t.steps = ap (λ (x : List ℕ). get_or x k 0) deep.starts ∙ get_or_push t.starts (length t.steps) 0 k (omega arith) in
          let f : before u.marks u.places (get_or u.starts k 0) ≡ marked t.marks = ap (before u.marks u.places) start ∙ deep.same (length t.steps) (omega arith) ∙ before_all t.marks t.places t.steps t.starts old.clauses b.engine.trail in
          subst (λ s. (x : Bool) × IsTrue (s w x)) (sym f) (elim (has_value (get_or t.marks w None)) [
            | inl none ↦ absurd (behind w (omega arith) (omega arith) none)
            | inr some ↦ some
          ])
    ]

-- one more literal was made false
pub at_more : (old new : EngineState) (set : ClauseSet) (falses : List Literal) (l : Literal) → IsAtBranch old set falses → IsEngine new → new.clauses ≡ old.clauses → length new.trail.marks ≡ length old.trail.marks → ((decisions : List Literal) → AreDecided old.trail decisions → AreDecided new.trail (decisions ++ opposite l ∷ [])) → Deepens old.trail new.trail → HaveValuesFrom old.trail.marks (l.variable + 1) → IsAtBranch new set (falses ++ l ∷ [])
at_more old new set falses l b engine same size more deep behind = record {
  engine = engine;
  clauses = same ∙ b.clauses;
  size = size ∙ b.size;
  decided = subst (AreDecided new.trail) (sym (map-append opposite falses (l ∷ []))) (more (map opposite falses) b.decided);
  last = last_more old new set falses l b size deep behind;
}

get_or_middle : (rest tail : List Literal) (l d : Literal) → get_or (rest ++ l ∷ tail) (length rest) d ≡ l
get_or_middle [] tail l d = refl
get_or_middle (x ∷ rest) tail l d = get_or_middle rest tail l d

front_is : (rest more : List Literal) → take (length rest) (rest ++ more) ≡ rest
front_is rest more = take-append-le (length rest) rest more (omega arith) ∙ take_all (length rest) rest (omega arith)

-- what was true where the levels were cut
cut_set : (old new : EngineState) (n : ℕ) → IsEngine new → IsCut old.trail new.trail n → before old.trail.marks old.trail.places (get_or old.trail.starts n 0) ≡ marked new.trail.marks
cut_set old new n h cut =
    let u = new.trail in
    ap (before old.trail.marks old.trail.places) (sym cut.end) ∙ sym (cut.same (length u.steps) (omega arith)) ∙ before_all u.marks u.places u.steps u.starts new.clauses h.trail

-- the choices that are left
last_cut : (old new : EngineState) (set : ClauseSet) (falses rest more : List Literal) (n : ℕ) → IsAtBranch old set falses → falses ≡ rest ++ more → n ≡ length rest → n < length falses → IsCut old.trail new.trail n → AreLast new.trail rest
last_cut old new set falses rest more n b was at fits cut k w d low later inside =
    let t = old.trail in
    let u = new.trail in
    let count : length t.starts ≡ length falses = b.decided.size ∙ length-map falses opposite in
    let size = cut.size in
    let end = cut.end in
    let rise = b.engine.trail.rise k n (omega arith) (omega arith) in
    let lit : get_or falses k d ≡ get_or rest k d = ap (λ (x : List Literal). get_or x k d) was ∙ get_or_append_left rest more d k low in
    let variable : (get_or falses k d).variable ≡ (get_or rest k d).variable = ap (λ (x : Literal). x.variable) lit in
    let start : get_or u.starts k 0 ≡ get_or t.starts k 0 = ap (λ (x : List ℕ). get_or x k 0) cut.starts ∙ get_or-take n t.starts k 0 (omega arith) in
    let f : before u.marks u.places (get_or u.starts k 0) ≡ before t.marks t.places (get_or t.starts k 0) = ap (before u.marks u.places) start ∙ cut.same (get_or t.starts k 0) (omega arith) in
    subst (λ s. (x : Bool) × IsTrue (s w x)) (sym f) (b.last k w d (omega arith) (omega arith) (omega arith))

-- behind the choice that is turned all variables have values
pub behind_cut : (old new : EngineState) (set : ClauseSet) (falses rest tail : List Literal) (l : Literal) (n : ℕ) → IsAtBranch old set falses → falses ≡ rest ++ l ∷ tail → n ≡ length rest → IsAtRest new → IsCut old.trail new.trail n → HaveValuesFrom new.trail.marks (l.variable + 1)
behind_cut old new set falses rest tail l n b was at settled cut w low inside free =
    let long = ap length was ∙ length-append rest (l ∷ tail) in
    let size = cut.size in
    let lit : get_or falses n l ≡ l = ap (λ (x : List Literal). get_or x n l) was ∙ ap (λ (k : ℕ). get_or (rest ++ l ∷ tail) k l) at ∙ get_or_middle rest tail l l in
    let variable : (get_or falses n l).variable ≡ l.variable = ap (λ (x : Literal). x.variable) lit in
    let value = b.last n w l (omega arith) (omega arith) (omega arith) in
    mark_absent (get_or new.trail.marks w None) value.0 free (subst (λ s. IsTrue (s w value.0)) (cut_set old new n settled.engine cut) value.1)

-- choices were taken back
pub at_cut : (old new : EngineState) (set : ClauseSet) (falses rest more : List Literal) (n : ℕ) → IsAtBranch old set falses → falses ≡ rest ++ more → n ≡ length rest → n < length falses → IsAtRest new → new.clauses ≡ old.clauses → IsCut old.trail new.trail n → ((decisions : List Literal) → AreDecided old.trail decisions → AreDecided new.trail (take n decisions)) → IsAtBranch new set rest
at_cut old new set falses rest more n b was at fits settled same cut decided =
    let left : take n (map opposite falses) ≡ map opposite rest =
    take-map opposite n falses ∙ ap (map opposite) (ap (λ (k : ℕ). take k falses) at ∙ ap (take (length rest)) was ∙ front_is rest more) in
    record {
      engine = settled.engine;
      clauses = same ∙ b.clauses;
      size = cut.size ∙ b.size;
      decided = subst (AreDecided new.trail) left (decided (map opposite falses) b.decided);
      last = last_cut old new set falses rest more n b was at fits cut;
    }

-- how many levels there are
pub levels_at : (e : EngineState) (set : ClauseSet) (falses : List Literal) → IsAtBranch e set falses → length e.trail.starts ≡ length falses
levels_at e set falses b = b.decided.size ∙ length-map falses opposite

-- how long the branches are, where choices were taken back
pub turns_sizes : (old new : List Literal) (t : Turns old new) → (length new ≡ length t.rest + 1) × (length t.rest < length old)
turns_sizes old new t =
    let longer = ap length t.was ∙ length-append t.rest (t.last ∷ t.tail) in
    (ap length t.now ∙ length_push t.rest (opposite t.last), omega arith)

-- the last choice
pub turns_last : (old new : List Literal) (t : Turns old new) (n : ℕ) (d : Literal) → n + 1 ≡ length new → get_or new n d ≡ opposite t.last
turns_last old new t n d at =
    let sizes = turns_sizes old new t in
    let first = sizes.0 in
    ap (λ (x : List Literal). get_or x n d) t.now ∙ get_or_push t.rest (opposite t.last) d n (omega arith)

-- the last choice was left open by those before it
pub turns_choice : (set : ClauseSet) (old new : List Literal) (t : Turns old new) → IsBranch set new → IsChoice set t.rest (opposite t.last)
turns_choice set old new t b = choices_last (IsChoice set) t.rest (opposite t.last) (subst (IsBranch set) t.now b)

-- the engine is at the branch that was refuted
pub turns_at : (e : EngineState) (set : ClauseSet) (old new : List Literal) → ((old ≡ []) ⊎ IsAtBranch e set old) → Turns old new → IsAtBranch e set old
turns_at e set old new (inl none) t =
    let sizes = turns_sizes old new t in
    let some = sizes.1 in
    let size : length old ≡ 0 = ap length none in
    absurd (omega arith)
turns_at e set old new (inr at) t = at

-- an engine that has the first clauses of a set, and no decision
pub refuted_front : (e : EngineState) (set : ClauseSet) (n r : ℕ) → IsEngine e → e.clauses ≡ take n set.clauses → AreDecided e.trail [] → IsAt e.clauses r (IsFalsified (marked e.trail.marks)) → GivesConflict set.clauses []
refuted_front e set n r engine is none at =
    let first : GivesConflict e.clauses [] = λ s fails closed. conflict_by e.trail e.clauses [] r engine.trail none at s (All-nil (Holds s)) closed in
    subst (λ (cs : List (List Literal)). GivesConflict cs []) (take-append-drop n set.clauses)
    (conflict_more (take n set.clauses) (drop n set.clauses) [] (subst (λ (cs : List (List Literal)). GivesConflict cs []) is first))

-- an engine that has the clauses of a set, and no decision
pub at_root : (e : EngineState) (set : ClauseSet) (n : ℕ) → IsAtRest e → length set.clauses ≤ n → e.clauses ≡ take n set.clauses → length e.trail.marks ≡ set.variables → AreDecided e.trail [] → LookSays e set [] false
at_root e set n rest whole is size none = (
  record { engine = rest.engine; clauses = is ∙ take_all n set.clauses whole; size = size; decided = none; last = λ k w d low. absurd (omega arith) },
  rest,
)

-- the first branch, with no choice
pub split_none : (set : ClauseSet) → IsSplit set [] []
split_none set = record {
  branch = λ i d low. absurd (omega arith);
  rup = λ i low. absurd (omega arith);
  turned = λ i d low f. absurd (omega arith);
}

pub turning : (e : EngineState) (set : ClauseSet) (old new : List Literal) → ((old ≡ []) ⊎ IsAtBranch e set old) → Turns old new → IsBranch set new → IsTurning e set old new
turning e set old new where_ t branch = record { at = turns_at e set old new where_ t; turned = t; branch = branch }
