-- Texts and lines behind one another.
use Rattle.std.proofs.Common.{◌≡◌, ◌∙◌, ℕ, zero, suc, ◌+◌, ◌<◌, ◌≤◌, List, [], ◌∷◌, ◌++◌, length, get_or, map, drop, flat_map, Option, None, Some, refl, sym, ap, append_assoc, append-nil, arith}
use Rattle.std.specs.Prelude.{slice_get}
use Rattle.std.specs.Option.{option_map_or}
use Rattle.std.proofs.lemmas.List.{drop_more}
use Rattle.std.proofs.lemmas.Option.{slice_get_past}

-- three texts, of which the first is told by another
pub three : (a b text c d x y z : List ℕ) → text ≡ b → x ≡ a ++ text → y ≡ x ++ c → z ≡ y ++ d → z ≡ a ++ (b ++ (c ++ d))
three a b text c d x y z same first second third =
    third
    ∙ ap (λ (l : List ℕ). l ++ d) (second ∙ ap (λ (l : List ℕ). l ++ c) (first ∙ ap (λ (l : List ℕ). a ++ l) same))
    ∙ append_assoc (a ++ b) c d
    ∙ append_assoc a b (c ++ d)

-- one line and then others
pub behind_one : {X : Type 0} (x : X) (ps front middle result : List X) → middle ≡ front ++ x ∷ [] → result ≡ middle ++ ps → result ≡ front ++ x ∷ ps
behind_one {X} x ps front middle result pushed told = told ∙ ap (λ (l : List X). l ++ ps) pushed ∙ append_assoc front (x ∷ []) ps

-- nothing comes where nothing has this number
pub none_there : {A X : Type 0} (f : A → List X) (front : List X) (shown items : List A) (number : ℕ) → shown ≡ items → length shown ≤ number
    → front ≡ front ++ option_map_or f (slice_get items number) []
none_there {A} {X} f front shown items number same past =
    sym (append-nil front)
    ∙ ap (λ (o : Option A). front ++ option_map_or f o []) (sym (ap (λ (ys : List A). slice_get ys number) (sym same) ∙ slice_get_past shown number past))

pub none_here : {A X : Type 0} (f : A → List X) (front : List X) (found there : Option A) → found ≡ there → found ≡ None → front ≡ front ++ option_map_or f there []
none_here {A} f front found there same none = sym (append-nil front) ∙ ap (λ (o : Option A). front ++ option_map_or f o []) (sym none ∙ same)

module _ {X : Type 0} (xs : List X) (i : ℕ) (x : X) (below : i < length xs) (here : x ≡ get_or xs i x) where
  opened : drop i xs ≡ x ∷ drop (i + 1) xs
  opened = drop_more xs i x below ∙ ap (λ (y : X). y ∷ drop (i + 1) xs) (sym here)

  -- a step of a loop that puts what is said of each
  pub flat_step : {Y : Type 0} (f : X → List Y) (out new all : List Y) → new ≡ out ++ f x → out ++ flat_map f (drop i xs) ≡ all → new ++ flat_map f (drop (i + 1) xs) ≡ all
  flat_step {Y} f out new all said so_far =
      ap (λ (l : List Y). l ++ flat_map f (drop (i + 1) xs)) said
      ∙ append_assoc out (f x) (flat_map f (drop (i + 1) xs))
      ∙ ap (λ (ys : List X). out ++ flat_map f ys) (sym opened)
      ∙ so_far

  -- of a loop that puts one for each
  pub map_step : {Y : Type 0} (f : X → Y) (out new all : List Y) → new ≡ out ++ f x ∷ [] → out ++ map f (drop i xs) ≡ all → new ++ map f (drop (i + 1) xs) ≡ all
  map_step {Y} f out new all said so_far =
      ap (λ (l : List Y). l ++ map f (drop (i + 1) xs)) said
      ∙ append_assoc out (f x ∷ []) (map f (drop (i + 1) xs))
      ∙ ap (λ (ys : List X). out ++ map f ys) (sym opened)
      ∙ so_far

-- what is read within a list doesn't hang on what stands for the rest
pub read_within : {X : Type 0} (xs : List X) (i : ℕ) (d e : X) → i < length xs → get_or xs i d ≡ get_or xs i e
read_within [] i d e h = absurd (omega (arith, h))
read_within (x ∷ xs) zero d e h = refl
read_within (x ∷ xs) (suc i) d e h = read_within xs i d e (omega (arith, h))
