-- What holds of all that pass a test.
use Rattle.std.proofs.Common.{◌≡◌, Bool, true, false, ◌&&◌, ◌||◌, not, List, [], ◌∷◌, map, refl, ap, if◌then◌else◌}
use Rattle.std.specs.Prelude.{filter}
use Rattle.std.specs.List.{list_all}

pub all_filtered : {A B : Type 0} (f : B → Bool) (g : A → B) (test : A → Bool) (xs : List A) → list_all f (map g (filter test xs)) ≡ list_all (λ x. not (test x) || f (g x)) xs
all_filtered f g test [] = refl
all_filtered f g test (x ∷ xs) =
    elim (test x) as (λ b. list_all f (map g (if b then x ∷ filter test xs else filter test xs)) ≡ ((not b || f (g x)) && list_all (λ x. not (test x) || f (g x)) xs))
    [ true ↦ ap (λ (b : Bool). f (g x) && b) (all_filtered f g test xs) | false ↦ all_filtered f g test xs ]
