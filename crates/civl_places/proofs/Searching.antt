-- Searches through the statements of a body.
use Rattle.std.proofs.Common.{◌≡◌, ℕ, zero, suc, ◌+◌, ◌<◌, List, [], ◌∷◌, ◌++◌, length, get_or, drop, drop-cons, add-one, None, Some, refl, sym, ap, ◌∙◌}
use Rattle.std.specs.Prelude.{slice_get}
use Rattle.civl_tree.specs.declared.stmt.Stmt.{Stmt, the_lemmas as of_stmt}
use Rattle.civl_tree.specs.Numbering.{inner_of, statements_of, statement_at}
use Rattle.civl_tree.proofs.Preorder.{inner_is}
use Rattle.civl_places.specs.inner.Searched.{Searched, Here, Past, searched, search_on}

pub searched_both : (xs ys : List Stmt) (number : ℕ) → searched (xs ++ ys) number ≡ search_on (searched xs number) ys
searched_both [] ys number = refl
searched_both (x ∷ xs) ys zero = refl
searched_both (x ∷ xs) ys (suc number) = searched_both xs ys number

statements_rest : (stmts : List Stmt) (i : ℕ) (s : Stmt) → i < length stmts → s ≡ get_or stmts i s
    → statements_of (drop i stmts) ≡ (s ∷ inner_of s) ++ statements_of (drop (i + 1) stmts)
statements_rest stmts i s h e = rw (add-one, drop-cons stmts i s, ← e) refl

-- the search goes on with the statement at this place
steps_on : (stmts : List Stmt) (i : ℕ) (s : Stmt) (left : ℕ) (w : Searched) → i < length stmts → s ≡ get_or stmts i s
    → w ≡ searched (s ∷ inner_of s) left → searched (statements_of (drop i stmts)) left ≡ search_on w (statements_of (drop (i + 1) stmts))
steps_on stmts i s left w h e known =
    ap (λ (l : List Stmt). searched l left) (statements_rest stmts i s h e)
    ∙ searched_both (s ∷ inner_of s) (statements_of (drop (i + 1) stmts)) left
    ∙ ap (λ (x : Searched). search_on x (statements_of (drop (i + 1) stmts))) (sym known)

pub ends_here : (stmts : List Stmt) (i : ℕ) (s : Stmt) (left : ℕ) (w : Searched) (x : Stmt) → i < length stmts → s ≡ get_or stmts i s
    → w ≡ searched (s ∷ inner_of s) left → w ≡ Here x → searched (statements_of (drop i stmts)) left ≡ Here x
ends_here stmts i s left w x h e known is =
    steps_on stmts i s left w h e known ∙ ap (λ (v : Searched). search_on v (statements_of (drop (i + 1) stmts))) is

pub goes_on : (stmts : List Stmt) (i : ℕ) (s : Stmt) (left rest : ℕ) (w : Searched) → i < length stmts → s ≡ get_or stmts i s
    → w ≡ searched (s ∷ inner_of s) left → w ≡ Past rest → searched (statements_of (drop i stmts)) left ≡ searched (statements_of (drop (i + 1) stmts)) rest
goes_on stmts i s left rest w h e known is =
    steps_on stmts i s left w h e known ∙ ap (λ (v : Searched). search_on v (statements_of (drop (i + 1) stmts))) is

pub ruleset searching = (inner_is, searched_both, of_stmt)

-- ---- what is at a number

here_at : (xs : List Stmt) (n : ℕ) (s : Stmt) → searched xs n ≡ Here s → slice_get xs n ≡ Some s
here_at [] n s h = absurd (let none = h in cc)
here_at (x ∷ xs) zero s h = let same : x ≡ s = cc in ap (λ (y : Stmt). Some y) same
here_at (x ∷ xs) (suc n) s h = here_at xs n s h

past_at : (xs : List Stmt) (n k : ℕ) → searched xs n ≡ Past k → slice_get xs n ≡ None
past_at [] n k h = refl
past_at (x ∷ xs) zero k h = absurd (let none = h in cc)
past_at (x ∷ xs) (suc n) k h = past_at xs n k h

pub found_at : (body : List Stmt) (n : ℕ) (s : Stmt) → Here s ≡ searched (statements_of body) n → statement_at body n ≡ Some s
found_at body n s h = here_at (statements_of body) n s (sym h)

pub none_at : (body : List Stmt) (n k : ℕ) → Past k ≡ searched (statements_of body) n → statement_at body n ≡ None
none_at body n k h = past_at (statements_of body) n k (sym h)
