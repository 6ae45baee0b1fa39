-- Statements that break a rule, one by one.
use Rattle.std.proofs.Common.{◌≡◌, ℕ, ◌+◌, ◌<◌, ◌≤◌, Bool, true, false, List, [], ◌∷◌, ◌++◌, map, drop, length, get_or, None, Some, refl, sym, ap, ap₂, ◌∙◌, arith}
use Rattle.std.specs.Prelude.{if◌then◌else◌}
use Rattle.std.specs.List.{All, AllPairs}
use Rattle.std.proofs.lemmas.List.Elements.{All-nil, All-cons, All-weaker}
use Rattle.std.proofs.lemmas.List.Kept.{AllPairs-cons}
use Rattle.civl_tree.proofs.Pairs.{pairs_nil, pairs_one, pairs_append}
use Rattle.std.proofs.lemmas.List.{drop-map, drop_more, drop_all}
use Rattle.civl_tree.specs.declared.stmt.Stmt.{Stmt}
use Rattle.civl_tree.specs.rules.Rules.{numbers_where, first_of}
use Rattle.civl_names.specs.walks.Walks.{numbers_with}

-- the elements from this place on, as they are seen
pub next_seen : {A B : Type 0} (see : B → A) (items : List B) (at : ℕ) (item : B) → at < length items → item ≡ get_or items at item
    → drop at (map see items) ≡ see item ∷ drop (at + 1) (map see items)
next_seen {A = A} {B = B} see items at item l e =
    drop-map see at items ∙ ap (map see) (drop_more items at item l ∙ ap (λ (x : B). x ∷ drop (at + 1) items) (sym e))
    ∙ ap (λ (xs : List A). see item ∷ xs) (sym (drop-map see (at + 1) items))

pub none_seen : {A B : Type 0} (see : B → A) (items : List B) (at : ℕ) → length items ≤ at → drop at (map see items) ≡ []
none_seen see items at l = drop-map see at items ∙ ap (map see) (drop_all at items l)

pub none_noted : {A : Type 0} (notes : List A) (at : ℕ) → length notes ≤ at → drop at notes ≡ []
none_noted notes at l = drop_all at notes l

module _ (breaks : Stmt → Bool) (number : ℕ) (stmts : List Stmt) where
  pub where_found : (stmt : Stmt) (rest : List Stmt) → stmts ≡ stmt ∷ rest → breaks stmt ≡ true → first_of (numbers_where breaks number stmts) ≡ Some number
  unfolding numbers_where
  where_found stmt rest e h = ap (λ (ss : List Stmt). first_of (numbers_where breaks number ss)) e ∙ ap (λ (b : Bool). first_of ((if b then number ∷ [] else []) ++ numbers_where breaks (number + 1) rest)) h

  pub where_behind : (stmt : Stmt) (rest : List Stmt) → stmts ≡ stmt ∷ rest → breaks stmt ≡ false → first_of (numbers_where breaks number stmts) ≡ first_of (numbers_where breaks (number + 1) rest)
  unfolding numbers_where
  where_behind stmt rest e h = ap (λ (ss : List Stmt). first_of (numbers_where breaks number ss)) e ∙ ap (λ (b : Bool). first_of ((if b then number ∷ [] else []) ++ numbers_where breaks (number + 1) rest)) h

  pub where_none : stmts ≡ [] → first_of (numbers_where breaks number stmts) ≡ None
  unfolding numbers_where
  where_none e = ap (λ (ss : List Stmt). first_of (numbers_where breaks number ss)) e

module _ {A : Type 0} (breaks : Stmt → A → Bool) (number : ℕ) (stmts : List Stmt) (notes : List A) where
  pub with_found : (stmt : Stmt) (rest : List Stmt) (note : A) (others : List A) → stmts ≡ stmt ∷ rest → notes ≡ note ∷ others → breaks stmt note ≡ true
      → first_of (numbers_with breaks number stmts notes) ≡ Some number
  unfolding numbers_with
  with_found stmt rest note others e f h =
      ap₂ (λ (ss : List Stmt) (ns : List A). first_of (numbers_with breaks number ss ns)) e f
      ∙ ap (λ (b : Bool). first_of ((if b then number ∷ [] else []) ++ numbers_with breaks (number + 1) rest others)) h

  pub with_behind : (stmt : Stmt) (rest : List Stmt) (note : A) (others : List A) → stmts ≡ stmt ∷ rest → notes ≡ note ∷ others → breaks stmt note ≡ false
      → first_of (numbers_with breaks number stmts notes) ≡ first_of (numbers_with breaks (number + 1) rest others)
  unfolding numbers_with
  with_behind stmt rest note others e f h =
      ap₂ (λ (ss : List Stmt) (ns : List A). first_of (numbers_with breaks number ss ns)) e f
      ∙ ap (λ (b : Bool). first_of ((if b then number ∷ [] else []) ++ numbers_with breaks (number + 1) rest others)) h

  pub with_none : stmts ≡ [] → first_of (numbers_with breaks number stmts notes) ≡ None
  unfolding numbers_with
  with_none e = ap (λ (ss : List Stmt). first_of (numbers_with breaks number ss notes)) e

  pub with_noteless : (stmt : Stmt) (rest : List Stmt) → stmts ≡ stmt ∷ rest → notes ≡ [] → first_of (numbers_with breaks number stmts notes) ≡ None
  unfolding numbers_with
  with_noteless stmt rest e f = ap₂ (λ (ss : List Stmt) (ns : List A). first_of (numbers_with breaks number ss ns)) e f

-- ---- that both lists of numbers compute

pub with_nil : {A : Type 0} (breaks : Stmt → A → Bool) (number : ℕ) (notes : List A) → numbers_with breaks number [] notes ≡ []
unfolding numbers_with
with_nil breaks number notes = refl

pub with_cons : {A : Type 0} (breaks : Stmt → A → Bool) (number : ℕ) (stmt : Stmt) (stmts : List Stmt) (note : A) (notes : List A)
    → numbers_with breaks number (stmt ∷ stmts) (note ∷ notes) ≡ (if breaks stmt note then number ∷ [] else []) ++ numbers_with breaks (number + 1) stmts notes
unfolding numbers_with
with_cons breaks number stmt stmts note notes = refl

pub where_nil : (breaks : Stmt → Bool) (number : ℕ) → numbers_where breaks number [] ≡ []
unfolding numbers_where
where_nil breaks number = refl

pub where_cons : (breaks : Stmt → Bool) (number : ℕ) (stmt : Stmt) (stmts : List Stmt) → numbers_where breaks number (stmt ∷ stmts) ≡ (if breaks stmt then number ∷ [] else []) ++ numbers_where breaks (number + 1) stmts
unfolding numbers_where
where_cons breaks number stmt stmts = refl

pub ruleset computing = (with_nil, with_cons, where_nil, where_cons)

-- ---- the numbers of statements with notes rise

with_from : {A : Type 0} (breaks : Stmt → A → Bool) (from : ℕ) (stmts : List Stmt) (notes : List A) → All (λ n. (from ≤ n) × (n < from + length stmts)) (numbers_with breaks from stmts notes)
unfolding numbers_with
with_from breaks from [] notes = All-nil (λ n. (from ≤ n) × (n < from + 0))
with_from breaks from (stmt ∷ stmts) [] = All-nil (λ n. (from ≤ n) × (n < from + length (stmt ∷ stmts)))
with_from breaks from (stmt ∷ stmts) (note ∷ notes) =
    here (breaks stmt note)
    (All-weaker (λ n. (from + 1 ≤ n) × (n < from + 1 + length stmts)) (λ n. (from ≤ n) × (n < from + length (stmt ∷ stmts))) (λ n w. let a = w.0 in let b = w.1 in (omega arith, omega arith)) (numbers_with breaks (from + 1) stmts notes) (with_from breaks (from + 1) stmts notes))
  where
    here : (b : Bool) → All (λ n. (from ≤ n) × (n < from + length (stmt ∷ stmts))) (numbers_with breaks (from + 1) stmts notes) → All (λ n. (from ≤ n) × (n < from + length (stmt ∷ stmts))) ((if b then from ∷ [] else []) ++ numbers_with breaks (from + 1) stmts notes)
    here true rest = All-cons (λ n. (from ≤ n) × (n < from + length (stmt ∷ stmts))) from (numbers_with breaks (from + 1) stmts notes) (omega arith, omega arith) rest
    here false rest = rest

pub with_in_order : {A : Type 0} (breaks : Stmt → A → Bool) (from : ℕ) (stmts : List Stmt) (notes : List A) → AllPairs (λ first second. first ≤ second) (numbers_with breaks from stmts notes)
unfolding numbers_with
with_in_order breaks from [] notes = pairs_nil (λ first second. first ≤ second)
with_in_order breaks from (stmt ∷ stmts) [] = pairs_nil (λ first second. first ≤ second)
with_in_order breaks from (stmt ∷ stmts) (note ∷ notes) = here (breaks stmt note) (with_in_order breaks (from + 1) stmts notes)
  where
    here : (b : Bool) → AllPairs (λ first second. first ≤ second) (numbers_with breaks (from + 1) stmts notes) → AllPairs (λ first second. first ≤ second) ((if b then from ∷ [] else []) ++ numbers_with breaks (from + 1) stmts notes)
    here true rest =
        AllPairs-cons (λ first second. first ≤ second) from (numbers_with breaks (from + 1) stmts notes)
        (All-weaker (λ n. (from + 1 ≤ n) × (n < from + 1 + length stmts)) (λ n. from ≤ n) (λ n w. let a = w.0 in omega arith) (numbers_with breaks (from + 1) stmts notes) (with_from breaks (from + 1) stmts notes)) rest
    here false rest = rest

-- with a number behind all of them, where there is one
pub with_last_in_order : {A : Type 0} (breaks : Stmt → A → Bool) (stmts : List Stmt) (notes : List A) (b : Bool) (last : ℕ) → length stmts ≤ last → AllPairs (λ first second. first ≤ second) (numbers_with breaks 0 stmts notes ++ (if b then last ∷ [] else []))
with_last_in_order breaks stmts notes true last l =
    pairs_append (λ first second. first ≤ second) (numbers_with breaks 0 stmts notes) (last ∷ []) (with_in_order breaks 0 stmts notes) (pairs_one (λ first second. first ≤ second) last)
    (All-weaker (λ n. (0 ≤ n) × (n < 0 + length stmts)) (λ n. All (λ m. n ≤ m) (last ∷ [])) (λ n w. let b = w.1 in All-cons (λ m. n ≤ m) last [] (omega arith) (All-nil (λ m. n ≤ m))) (numbers_with breaks 0 stmts notes) (with_from breaks 0 stmts notes))
with_last_in_order breaks stmts notes false last l =
    pairs_append (λ first second. first ≤ second) (numbers_with breaks 0 stmts notes) [] (with_in_order breaks 0 stmts notes) (pairs_nil (λ first second. first ≤ second))
    (All-weaker (λ n. (0 ≤ n) × (n < 0 + length stmts)) (λ n. All (λ m. n ≤ m) []) (λ n w. All-nil (λ m. n ≤ m)) (numbers_with breaks 0 stmts notes) (with_from breaks 0 stmts notes))
