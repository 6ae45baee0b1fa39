-- What is chosen of some tokens, and what a fault says of it.
use Rattle.std.proofs.Common.{◌≡◌, ◌↔◌, ◌⊎◌, Bool, true, false, IsTrue, List, [], ◌∷◌, ◌++◌, length, take, drop, refl, sym, ap, subst, ◌∙◌, append_assoc, inl, inr}
use Rattle.std.specs.List.{Contains}
use Rattle.civl_tree.specs.Token.{Token}
use Rattle.civl_tree.proofs.Pairs.{contains_nil, contains_here, contains_there, contains_cons}
use Rattle.civl_phrases.specs.Reader.{lookahead}
use Rattle.civl_expected.specs.Expected.{MayStandIn, AreThose}
use Rattle.civl_expected.specs.Laws.{OneList, ExactlyThose, ThoseThatPass, FaultIsUnexpected}
use Rattle.civl_expected.proofs.Viable.{not_here_goes_on}

one_choice : (holds : Token → Type 0) (all one other : List Token) → AreThose holds all one → AreThose holds all other → one ≡ other
one_choice holds [] one other h k = h ∙ sym k
one_choice holds (token ∷ all) one other (inl h) (inl k) =
    h.1.1 ∙ ap (λ ts. token ∷ ts) (one_choice holds all h.1.0 k.1.0 h.1.2 k.1.2) ∙ sym k.1.1
one_choice holds (token ∷ all) one other (inl h) (inr k) = absurd (k.0 h.0)
one_choice holds (token ∷ all) one other (inr h) (inl k) = absurd (h.0 k.0)
one_choice holds (token ∷ all) one other (inr h) (inr k) = one_choice holds all one other h.1 k.1

pub one_list : OneList
one_list text front = one_choice (MayStandIn text front)

-- a token is chosen exactly where it is one of all and it holds of it
abbrev Exactly : (Token → Type 0) → List Token → List Token → Token → Type 0
Exactly holds all chosen token = Contains chosen token ↔ (Contains all token × holds token)

with_first : (holds : Token → Type 0) (first : Token) (all rest chosen : List Token) (token : Token) → holds first → chosen ≡ first ∷ rest
    → Exactly holds all rest token → Exactly holds (first ∷ all) chosen token
with_first holds first all rest chosen token yes_first e same =
    (λ k. there (contains_cons first rest token (subst (λ ts. Contains ts token) e k)), λ w. subst (λ ts. Contains ts token) (sym e) (back w.1 (contains_cons first all token w.0)))
  where
    there : (first ≡ token) ⊎ Contains rest token → Contains (first ∷ all) token × holds token
    there (inl is) = (subst (Contains (first ∷ all)) is (contains_here first all), subst holds is yes_first)
    there (inr k) = let w = same.0 k in (contains_there first all token w.0, w.1)

    back : holds token → (first ≡ token) ⊎ Contains all token → Contains (first ∷ rest) token
    back y (inl is) = subst (Contains (first ∷ rest)) is (contains_here first rest)
    back y (inr k) = contains_there first rest token (same.1 (k, y))

without_first : (holds : Token → Type 0) (first : Token) (all chosen : List Token) (token : Token) → (holds first → ⊥)
    → Exactly holds all chosen token → Exactly holds (first ∷ all) chosen token
without_first holds first all chosen token no_first same =
    (λ k. let w = same.0 k in (contains_there first all token w.0, w.1), λ w. back w.1 (contains_cons first all token w.0))
  where
    back : holds token → (first ≡ token) ⊎ Contains all token → Contains chosen token
    back y (inl is) = absurd (no_first (subst holds (sym is) y))
    back y (inr k) = same.1 (k, y)

exactly : (holds : Token → Type 0) (all chosen : List Token) → AreThose holds all chosen → (token : Token) → Exactly holds all chosen token
exactly holds [] chosen h token =
    (λ k. absurd (contains_nil token (subst (λ ts. Contains ts token) h k)), λ k. absurd (contains_nil token k.0))
exactly holds (first ∷ all) chosen (inl h) token = with_first holds first all h.1.0 chosen token h.0 h.1.1 (exactly holds all h.1.0 h.1.2 token)
exactly holds (first ∷ all) chosen (inr h) token = without_first holds first all chosen token h.0 (exactly holds all chosen h.1 token)

pub exactly_those : ExactlyThose
exactly_those text front = exactly (MayStandIn text front)

not_false : (b : Bool) → (b ≡ true → ⊥) → b ≡ false
not_false true h = absurd (h refl)
not_false false h = refl

pub those_that_pass : ThoseThatPass
those_that_pass test [] chosen h = h
those_that_pass test (token ∷ all) chosen (inl h) =
    rw h.0 (h.1.1 ∙ ap (λ ts. token ∷ ts) (those_that_pass test all h.1.0 h.1.2))
those_that_pass test (token ∷ all) chosen (inr h) = rw (not_false (test token) h.0) (those_that_pass test all chosen h.1)

take_front : (front rest : List Token) → take (length front) (front ++ rest) ≡ front
take_front [] rest = refl
take_front (t ∷ front) rest = ap (λ ts. t ∷ ts) (take_front front rest)

drop_front : (front rest : List Token) → drop (length front) (front ++ rest) ≡ rest
drop_front [] rest = refl
drop_front (t ∷ front) rest = drop_front front rest

pub fault_is_unexpected : {A : Type 0} → FaultIsUnexpected A
fault_is_unexpected = record {
  token = λ s f front rest token h m.
      h.stops m.begins.0 (token ∷ m.begins.1) m.begins.2
      (m.begins.3 ∙ append_assoc front (token ∷ []) m.begins.1 ∙ ap (λ ts. ts ++ token ∷ m.begins.1) (sym (take_front front (token ∷ rest))))
      (ap lookahead (sym (drop_front front (token ∷ rest))));
  end = λ s f tokens h m. not_here_goes_on s (λ a. IsTrue (f a)) tokens (length tokens) h m;
}
