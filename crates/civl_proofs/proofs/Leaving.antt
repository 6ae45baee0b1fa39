-- Logs of which clauses are left out: what refutes still refutes with a clause more that has reverse unit propagation there.
use Rattle.std.proofs.Common.{◌≡◌, inl, inr, ℕ, ◌+◌, ◌-◌, ◌<◌, ◌≤◌, zero, suc, List, [], ◌∷◌, ◌++◌, length, get_or, take, drop, refl, sym, ap, subst, ◌∙◌, arith, append_assoc, length-append, zero-add, Bool}
use Rattle.std.specs.Prelude.{Contains}
use Rattle.std.specs.List.{remove}
use Rattle.std.proofs.lemmas.Bool.{cases_eq}
use Rattle.std.proofs.lemmas.List.{append-nil, drop_more, take-append-drop, length-take-le, take-append-le, get_or_append_left}
use Rattle.std.proofs.lemmas.List.Elements.{All-contains, Contains-get_or, Contains-append_left, Contains-append_right, Contains-append_cases}
use Rattle.civl_cnf.specs.Literal.{Literal}
use Rattle.civl_cnf.specs.ClauseSet.{ClauseSet}
use Rattle.civl_units.specs.Propagation.{IsFalsified, IsClosedAt, IsClosed, HasConflict}
use Rattle.civl_rup.specs.Rup.{HasRup, HaveRup, Refutes}
use Rattle.civl_proofs.specs.Lean.{IsSublist}

abbrev Clauses : Type 0
Clauses = List (List Literal)

-- ---- more clauses

abbrev IsAmong : Clauses → Clauses → Type 0
IsAmong some all = (c : List Literal) → Contains some c → Contains all c

closed_fewer : (set : ℕ → Bool → Bool) (some all : Clauses) → IsAmong some all → IsClosed set all → IsClosed set some
closed_fewer set some all among closed = λ k d low. All-contains (IsClosedAt set) all (get_or some k d) closed (among (get_or some k d) (Contains-get_or some k d low))

found_again : (set : ℕ → Bool → Bool) (all : Clauses) (c : List Literal) → Contains all c → IsFalsified set c → HasConflict set all
found_again set all c there falsified = (there.0, c, there.1, there.2, falsified)

contains_at : (some : Clauses) (k : ℕ) (c : List Literal) → k < length some → get_or some k c ≡ c → Contains some c
contains_at some k c low e = (k, low, e)

conflict_more : (set : ℕ → Bool → Bool) (some all : Clauses) → IsAmong some all → HasConflict set some → HasConflict set all
conflict_more set some all among f = found_again set all f.1 (among f.1 (contains_at some f.0 f.1 f.2 f.3)) f.4

rup_more : (n : ℕ) (some all : Clauses) (c : List Literal) → IsAmong some all → HasRup n some c → HasRup n all c
rup_more n some all c among h = record {
  below = h.below;
  once = h.once;
  conflict = λ set fails closed. conflict_more set some all among (h.conflict set fails (closed_fewer set some all among closed));
}

among_push : (some all : Clauses) (x : List Literal) → IsAmong some all → IsAmong (some ++ x ∷ []) (all ++ x ∷ [])
among_push some all x among = λ c h. elim (Contains-append_cases some (x ∷ []) c h) [
  | inl e ↦ Contains-append_left all (x ∷ []) c (among c e)
  | inr e ↦ Contains-append_right all (x ∷ []) c e
]

-- ---- logs, clause by clause

-- each clause has reverse unit propagation from the clauses before the log and those before it
abbrev Chains : ℕ → Clauses → Clauses → Type 0
Chains n before [] = Unit {0}
Chains n before (c ∷ log) = HasRup n before c × Chains n (before ++ c ∷ []) log

chains_more : (n : ℕ) (some all log : Clauses) → IsAmong some all → Chains n some log → Chains n all log
chains_more n some all [] among h = tt
chains_more n some all (c ∷ log) among h = (rup_more n some all c among h.0, chains_more n (some ++ c ∷ []) (all ++ c ∷ []) log (among_push some all c among) h.1)

-- one clause more between two parts
chains_with : (n : ℕ) (before front back : Clauses) (x : List Literal) → Chains n before (front ++ back) → HasRup n (before ++ front) x → Chains n before (front ++ x ∷ back)
chains_with n before [] back x h rup = (
  subst (λ (cs : Clauses). HasRup n cs x) (append-nil before) rup,
  chains_more n before (before ++ x ∷ []) back (λ c there. Contains-append_left before (x ∷ []) c there) h,
)
chains_with n before (c ∷ front) back x h rup =
    (h.0, chains_with n (before ++ c ∷ []) front back x h.1 (subst (λ (cs : Clauses). HasRup n cs x) (sym (append_assoc before (c ∷ []) front)) rup))

chains_at : (n : ℕ) (before front back : Clauses) (x : List Literal) → Chains n before (front ++ x ∷ back) → HasRup n (before ++ front) x
chains_at n before [] back x h = subst (λ (cs : Clauses). HasRup n cs x) (sym (append-nil before)) h.0
chains_at n before (c ∷ front) back x h = subst (λ (cs : Clauses). HasRup n cs x) (append_assoc before (c ∷ []) front) (chains_at n (before ++ c ∷ []) front back x h.1)

abbrev ByPlaces : ℕ → Clauses → Clauses → Type 0
ByPlaces n before log = (i : ℕ) → i < length log → HasRup n (before ++ take i log) (get_or log i [])

to_chains : (n : ℕ) (before log : Clauses) → ByPlaces n before log → Chains n before log
to_chains n before [] h = tt
to_chains n before (c ∷ log) h = (
  subst (λ (cs : Clauses). HasRup n cs c) (append-nil before) (h 0 (omega arith)),
  to_chains n (before ++ c ∷ []) log (λ i low. subst (λ (cs : Clauses). HasRup n cs (get_or log i [])) (sym (append_assoc before (c ∷ []) (take i log))) (h (suc i) (omega (arith, low)))),
)

from_chains : (n : ℕ) (before log : Clauses) → Chains n before log → ByPlaces n before log
from_chains n before [] h i low = absurd (omega (arith, low))
from_chains n before (c ∷ log) h zero low = subst (λ (cs : Clauses). HasRup n cs c) (sym (append-nil before)) h.0
from_chains n before (c ∷ log) h (suc i) low = subst (λ (cs : Clauses). HasRup n cs (get_or log i [])) (append_assoc before (c ∷ []) (take i log)) (from_chains n (before ++ c ∷ []) log h.1 i (omega (arith, low)))

-- ---- logs that refute

empty_more : (front back : Clauses) (x : List Literal) → Contains (front ++ back) [] → Contains (front ++ x ∷ back) []
empty_more front back x h = elim (Contains-append_cases front back [] h) [
  | inl e ↦ Contains-append_left front (x ∷ back) [] e
  | inr e ↦ Contains-append_right front (x ∷ back) [] (Contains-append_right (x ∷ []) back [] e)
]

refutes_with : (set : ClauseSet) (front back : Clauses) (x : List Literal) → Refutes set (front ++ back) → HasRup set.variables (set.clauses ++ front) x → Refutes set (front ++ x ∷ back)
refutes_with set front back x h rup = record {
  rup = from_chains set.variables set.clauses (front ++ x ∷ back) (chains_with set.variables set.clauses front back x (to_chains set.variables set.clauses (front ++ back) h.rup) rup);
  empty = empty_more front back x h.empty;
}

rup_between : (set : ClauseSet) (front back : Clauses) (x : List Literal) → Refutes set (front ++ x ∷ back) → HasRup set.variables (set.clauses ++ front) x
rup_between set front back x h = chains_at set.variables set.clauses front back x (to_chains set.variables set.clauses (front ++ x ∷ back) h.rup)

-- ---- one clause left out

remove_behind : (front back : Clauses) (k : ℕ) → remove (front ++ back) (length front + k) ≡ front ++ remove back k
remove_behind [] back k = ap (remove back) (zero-add k)
remove_behind (c ∷ front) back k =
    let e : length (c ∷ front) + k ≡ suc (length front + k) = omega arith in
    ap (remove (c ∷ (front ++ back))) e ∙ ap (λ (xs : Clauses). c ∷ xs) (remove_behind front back k)

-- a log that is cut at a place
record IsCutAt (log : Clauses) (place : ℕ) : Type 0 where
  front : Clauses
  back : Clauses
  clause : List Literal
  is : log ≡ front ++ clause ∷ back
  shorter : remove log place ≡ front ++ back
  size : length front ≡ place

cut_at : (log : Clauses) (place : ℕ) → place < length log → IsCutAt log place
cut_at log place low = record {
  front = take place log;
  back = drop (suc place) log;
  clause = get_or log place [];
  is = sym (take-append-drop place log) ∙ ap (λ (xs : Clauses). take place log ++ xs) (drop_more log place [] low ∙ ap (λ (n : ℕ). get_or log place [] ∷ drop n log) (let e : place + 1 ≡ suc place = omega arith in e));
  shorter = refl;
  size = length-take-le place log (omega (arith, low));
}

-- no clause at this place or later can be left out
abbrev pub NeededFrom : ClauseSet → Clauses → ℕ → Type 0
NeededFrom set log from = (place : ℕ) → from ≤ place → place < length log → Refutes set (remove log place) → ⊥

-- the clause was left out: what was needed is
pub needed_shorter : (set : ClauseSet) (log : Clauses) (at : ℕ) → at < length log → Refutes set log → NeededFrom set log (at + 1) → NeededFrom set (remove log at) at
needed_shorter set log at low refuting needed place from within less =
    let cut = cut_at log at low in
    let k : ℕ = place - at in
    let there : place ≡ length cut.front + k = omega (arith, from, cut.size) in
    let smaller : Refutes set (cut.front ++ remove cut.back k) = subst (Refutes set) (ap (λ (xs : Clauses). remove xs place) cut.shorter ∙ ap (remove (cut.front ++ cut.back)) there ∙ remove_behind cut.front cut.back k) less in
    let rup = rup_between set cut.front cut.back cut.clause (subst (Refutes set) cut.is refuting) in
    let larger : Refutes set (cut.front ++ cut.clause ∷ remove cut.back k) = refutes_with set cut.front (remove cut.back k) cut.clause smaller rup in
    let whole : remove log (place + 1) ≡ cut.front ++ cut.clause ∷ remove cut.back k =
    ap (λ (xs : Clauses). remove xs (place + 1)) (cut.is ∙ sym (append_assoc cut.front (cut.clause ∷ []) cut.back))
    ∙ ap (remove ((cut.front ++ cut.clause ∷ []) ++ cut.back)) (let e : place + 1 ≡ length (cut.front ++ cut.clause ∷ []) + k = omega (arith, there, length-append cut.front (cut.clause ∷ [])) in e)
    ∙ remove_behind (cut.front ++ cut.clause ∷ []) cut.back k
    ∙ append_assoc cut.front (cut.clause ∷ []) (remove cut.back k) in
    let size : length (remove log at) + 1 ≡ length log = omega (arith, ap length cut.shorter, ap length cut.is, length-append cut.front cut.back, length-append cut.front (cut.clause ∷ cut.back)) in
    needed (place + 1) (omega (arith, from)) (omega (arith, within, size)) (subst (Refutes set) (sym whole) larger)

-- the clause is needed
pub needed_here : (set : ClauseSet) (log : Clauses) (at : ℕ) → (Refutes set (remove log at) → ⊥) → NeededFrom set log (at + 1) → NeededFrom set log at
needed_here set log at not needed place from within = elim (cases_eq at place) [
  | inl e ↦ λ h. not (subst (λ (n : ℕ). Refutes set (remove log n)) (sym e) h)
  | inr e ↦ let more : at + 1 ≤ place = omega (arith, from, e) in needed place more within
]

-- the clauses before the one that was left out still have reverse unit propagation
pub rup_before : (set : ClauseSet) (log : Clauses) (at : ℕ) → at < length log → Refutes set log → HaveRup set (remove log at) at
rup_before set log at low refuting i less =
    let cut = cut_at log at low in
    let n : ℕ = length cut.front in
    let inside : i < length cut.front = omega (arith, less, cut.size) in
    let old = refuting.rup i (omega (arith, less, low)) in
    let takes : take i log ≡ take i (remove log at) = ap (take i) cut.is ∙ take-append-le i cut.front (cut.clause ∷ cut.back) (omega (arith, inside)) ∙ sym (take-append-le i cut.front cut.back (omega (arith, inside))) ∙ ap (take i) (sym cut.shorter) in
    let gets : get_or log i [] ≡ get_or (remove log at) i [] = ap (λ (xs : Clauses). get_or xs i []) cut.is ∙ get_or_append_left cut.front (cut.clause ∷ cut.back) [] i inside ∙ sym (get_or_append_left cut.front cut.back [] i inside) ∙ ap (λ (xs : Clauses). get_or xs i []) (sym cut.shorter) in
    subst (λ (c : List Literal). HasRup set.variables (set.clauses ++ take i (remove log at)) c) gets (subst (λ (xs : Clauses). HasRup set.variables (set.clauses ++ xs) (get_or log i [])) takes old)

pub length_shorter : (log : Clauses) (at : ℕ) → at < length log → length (remove log at) + 1 ≡ length log
length_shorter log at low =
    let cut = cut_at log at low in
    omega (arith, ap length cut.shorter, ap length cut.is, length-append cut.front cut.back, length-append cut.front (cut.clause ∷ cut.back))

-- ---- sublists

pub sublist_same : (log : Clauses) → IsSublist log log
sublist_same [] = refl
sublist_same (c ∷ log) = inr (log, refl, sublist_same log)

sublist_none : (short : Clauses) (log : Clauses) → short ≡ [] → IsSublist short log
sublist_none short [] e = e
sublist_none short (c ∷ log) e = inl (sublist_none short log e)

sublist_step : (a rest c : Clauses) (x : List Literal) → ((d : Clauses) → IsSublist d rest → IsSublist d c) → IsSublist a (x ∷ rest) → IsSublist a (x ∷ c)
sublist_step a rest c x f (inl e) = inl (f a e)
sublist_step a rest c x f (inr e) = inr (e.0, e.1, f e.0 e.2)

pub sublist_trans : (a b c : Clauses) → IsSublist a b → IsSublist b c → IsSublist a c
sublist_trans a b [] h k = subst (IsSublist a) k h
sublist_trans a b (x ∷ c) h (inl k) = inl (sublist_trans a b c h k)
sublist_trans a b (x ∷ c) h (inr k) = sublist_step a k.0 c x (λ d g. sublist_trans d k.0 c g k.2) (subst (IsSublist a) k.1 h)

sublist_cut : (front back : Clauses) (x : List Literal) → IsSublist (front ++ back) (front ++ x ∷ back)
sublist_cut [] back x = inl (sublist_same back)
sublist_cut (c ∷ front) back x = inr (front ++ back, refl, sublist_cut front back x)

pub sublist_shorter : (log : Clauses) (at : ℕ) → at < length log → IsSublist (remove log at) log
sublist_shorter log at low =
    let cut = cut_at log at low in
    subst (λ (xs : Clauses). IsSublist xs log) (sym cut.shorter) (subst (IsSublist (cut.front ++ cut.back)) (sym cut.is) (sublist_cut cut.front cut.back cut.clause))
