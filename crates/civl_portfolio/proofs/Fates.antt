-- The fates of provers, one more at the end.
use Rattle.std.proofs.Common.{◌≡◌, ◌+◌, List, [], ◌∷◌, ◌++◌, refl, sym, ◌∙◌, ap, arith}
use Rattle.std.specs.Prelude.{Option, None, Some}
use Rattle.civl_portfolio.specs.Fate.{Fate, asked_of, in_front, staying_of, one_if_gone, gone_of}

pub asked_push : {B : Type 0} (fates : List (Fate B)) (f : Fate B) (rest : List B) → asked_of (fates ++ f ∷ []) ++ rest ≡ asked_of fates ++ f.before ∷ rest
asked_push [] f rest = refl
asked_push (x ∷ fates) f rest = ap (λ l. x.before ∷ l) (asked_push fates f rest)

in_front_append : {B : Type 0} (o : Option B) (xs ys : List B) → in_front o xs ++ ys ≡ in_front o (xs ++ ys)
in_front_append None xs ys = refl
in_front_append (Some b) xs ys = refl

pub staying_push : {B : Type 0} (fates : List (Fate B)) (f : Fate B) (rest : List B) → staying_of (fates ++ f ∷ []) ++ rest ≡ staying_of fates ++ in_front f.after rest
staying_push [] f rest = in_front_append f.after [] rest
staying_push (x ∷ fates) f rest =
    in_front_append x.after (staying_of (fates ++ f ∷ [])) rest
    ∙ ap (in_front x.after) (staying_push fates f rest)
    ∙ sym (in_front_append x.after (staying_of fates) (in_front f.after rest))

pub gone_push : {B : Type 0} (fates : List (Fate B)) (f : Fate B) → gone_of (fates ++ f ∷ []) ≡ gone_of fates + one_if_gone f.after
gone_push [] f = omega arith
gone_push (x ∷ fates) f = let e = gone_push fates f in omega arith

pub some_left : {A : Type 0} (xs : List A) (x : A) → xs ++ x ∷ [] ≡ [] → ⊥
some_left [] x e = cc
some_left (y ∷ xs) x e = cc
