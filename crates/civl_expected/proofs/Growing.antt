-- Tokens with one more behind them, and what is chosen of some tokens, one by one.
use Rattle.std.proofs.Common.{◌≡◌, ℕ, ◌+◌, ◌<◌, ◌≤◌, List, [], ◌∷◌, ◌++◌, length, drop, map, get_or, refl, sym, ap, subst, ◌∙◌, append_assoc, drop-cons, add-one, inl, inr}
use Rattle.std.proofs.lemmas.List.{append-nil, map-append, drop_all}
use Rattle.civl_tree.specs.Token.{Token}
use Rattle.civl_lex.specs.Spelled.{spelled, spelled_token}
use Rattle.civl_lex.specs.declared.token.Token.{Token as Placed}
use Rattle.civl_expected.specs.declared.candidate.Candidate.{Candidate}
use Rattle.civl_expected.specs.Expected.{token_of, AreThose}
use Rattle.civl_expected.specs.inner.Growing.{GrowsBy}

pub spelled_with : (front : List Placed) (last : Placed) (all : List Placed) (token : Token) → all ≡ front ++ last ∷ [] → spelled_token last ≡ token
    → spelled all ≡ spelled front ++ token ∷ []
spelled_with front last all token e same = ap spelled e ∙ map-append spelled_token front (last ∷ []) ∙ ap (λ t. spelled front ++ t ∷ []) same

-- what goes on behind a token goes on behind the next one
pub one_more : (holds : Token → Type 0) (token : Token) (all before after tokens : List Token) → GrowsBy holds token before after
    → ((rest : List Token) → AreThose holds (token ∷ tokens) rest → AreThose holds all (before ++ rest))
    → (rest : List Token) → AreThose holds tokens rest → AreThose holds all (after ++ rest)
one_more holds token all before after tokens (inl w) go rest h =
    subst (AreThose holds all) (sym (append_assoc before (token ∷ []) rest) ∙ ap (λ ts. ts ++ rest) (sym w.1)) (go (token ∷ rest) (inl (w.0, (rest, refl, h))))
one_more holds token all before after tokens (inr w) go rest h =
    subst (AreThose holds all) (ap (λ ts. ts ++ rest) (sym w.1)) (go rest (inr (w.0, h)))

at_place : (candidates : List Candidate) (place : ℕ) (d : Candidate) → place < length candidates
    → drop place candidates ≡ get_or candidates place d ∷ drop (place + 1) candidates
at_place candidates place d h = rw (add-one, drop-cons candidates place d)

-- the same of a list of candidates, where the one at this place comes behind what was found, or doesn't
pub next_place : (holds : Token → Type 0) (candidates : List Candidate) (place : ℕ) (d : Candidate) (before after : List Token) → place < length candidates
    → GrowsBy holds (token_of (get_or candidates place d)) before after
    → ((rest : List Token) → AreThose holds (map token_of (drop place candidates)) rest → AreThose holds (map token_of candidates) (before ++ rest))
    → (rest : List Token) → AreThose holds (map token_of (drop (place + 1) candidates)) rest → AreThose holds (map token_of candidates) (after ++ rest)
next_place holds candidates place d before after within grows go rest h =
    one_more holds (token_of (get_or candidates place d)) (map token_of candidates) before after (map token_of (drop (place + 1) candidates)) grows
    (λ tail k. go tail (subst (λ cs. AreThose holds (map token_of cs) tail) (sym (at_place candidates place d within)) k)) rest h

-- behind the last place all is chosen
pub no_more : (holds : Token → Type 0) (candidates : List Candidate) (place : ℕ) (found : List Token) → length candidates ≤ place
    → ((rest : List Token) → AreThose holds (map token_of (drop place candidates)) rest → AreThose holds (map token_of candidates) (found ++ rest))
    → AreThose holds (map token_of candidates) found
no_more holds candidates place found past go =
    subst (AreThose holds (map token_of candidates)) (append-nil found)
    (go [] (subst (λ cs. AreThose holds (map token_of cs) []) (sym (drop_all place candidates past)) refl))
