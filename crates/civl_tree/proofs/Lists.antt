-- Lists: their heads, what stands at their places, what is so of their elements, and lists with nothing in them.
use Rattle.std.proofs.Common.{◌≡◌, ◌≢◌, ℕ, zero, suc, ◌+◌, ◌<◌, Bool, true, false, ◌||◌, List, [], ◌∷◌, ◌++◌, drop, length, get_or, None, Some, find, slice_get, slice_set, slice_index, inl, inr, refl, sym, ap, ◌∙◌, subst, add-one, drop-cons, arith}
use Rattle.std.specs.Prelude.{is_some, nat_lt, not, if◌then◌else◌}
use Rattle.std.specs.List.{All, list_any, list_all, position, position_or_len}
use Rattle.std.specs.List.Sorted.{IsStrictlyIncreasing}
use Rattle.std.proofs.lemmas.Bool.{false≢true, and_parts, cases_lt, lt-ltb, le-ltb}
use Rattle.std.proofs.lemmas.Option.{same_Some, none-some, slice_get_within, get_or_from_slice_get}
use Rattle.std.proofs.lemmas.List.Elements.{All-nil, All-cons, All-head, All-tail, All-get_or}

module _ {A : Type 0} where
  pub heads : (x y : A) (xs ys : List A) → x ∷ xs ≡ y ∷ ys → (x ≡ y) × (xs ≡ ys)
  heads x y xs ys e = (cc, cc)

-- a text begins with one byte
pub one_first : (x y : ℕ) (xs ys : List ℕ) → x ∷ xs ≡ y ∷ ys → x ≡ y
one_first x y xs ys e = (heads x y xs ys e).0

-- ---- places

pub get_there : {A : Type 0} (xs : List A) (n : ℕ) → n < length xs → (a : A) × (slice_get xs n ≡ Some a)
get_there [] n h = absurd (omega (arith, h))
get_there (x ∷ xs) zero h = (x, refl)
get_there (x ∷ xs) (suc n) h = get_there xs n (omega (arith, h))

-- what stands before what is put behind a list
pub get_front : {A : Type 0} (xs ys : List A) (i : ℕ) (x : A) → slice_get xs i ≡ Some x → slice_get (xs ++ ys) i ≡ Some x
get_front [] ys i x e = absurd (none-some x e)
get_front (z ∷ xs) ys zero x e = e
get_front (z ∷ xs) ys (suc i) x e = get_front xs ys i x e

-- what stands behind a list
pub last_there : {A : Type 0} (xs : List A) (x : A) → slice_get (xs ++ x ∷ []) (length xs) ≡ Some x
last_there [] x = refl
last_there (y ∷ xs) x = last_there xs x

pub get_other : {A : Type 0} (xs : List A) (i j : ℕ) (a : A) → j ≢ i → slice_get (slice_set xs i a) j ≡ slice_get xs j
get_other [] i j a n = refl
get_other (x ∷ xs) zero zero a n = absurd (n refl)
get_other (x ∷ xs) zero (suc j) a n = refl
get_other (x ∷ xs) (suc i) zero a n = refl
get_other (x ∷ xs) (suc i) (suc j) a n = get_other xs i j a (λ e. n (ap (λ (k : ℕ). suc k) e))

pub get_same : {A : Type 0} (xs : List A) (i : ℕ) (a r : A) → slice_get xs i ≡ Some r → slice_get (slice_set xs i a) i ≡ Some a
get_same [] i a r e = absurd (none-some r e)
get_same (x ∷ xs) zero a r e = refl
get_same (x ∷ xs) (suc i) a r e = get_same xs i a r e

pub drop_is : {A : Type 0} (xs : List A) (i : ℕ) (x : A) → i < length xs → x ≡ get_or xs i x → drop i xs ≡ x ∷ drop (i + 1) xs
drop_is xs i x h e = rw (add-one, drop-cons xs i x, ← e)

-- ---- tests of their elements

-- one that passes a test stands somewhere
pub any_place : {A : Type 0} (p : A → Bool) (xs : List A) → list_any p xs ≡ true → (i : ℕ) × (x : A) × (slice_get xs i ≡ Some x) × (p x ≡ true)
any_place p [] e = absurd (false≢true e)
any_place {A = A} p (x ∷ xs) e = go (p x) refl e (λ h. any_place p xs h)
  where
    go : (b : Bool) → p x ≡ b → (b || list_any p xs) ≡ true → (list_any p xs ≡ true → (i : ℕ) × (y : A) × (slice_get xs i ≡ Some y) × (p y ≡ true)) → (i : ℕ) × (y : A) × (slice_get (x ∷ xs) i ≡ Some y) × (p y ≡ true)
    go true h f ih = (0, x, refl, h)
    go false h f ih = let r = ih f in (suc r.0, r.1, r.2, r.3)

pub all_get : {A : Type 0} (p : A → Bool) (xs : List A) (i : ℕ) (x : A) → list_all p xs ≡ true → slice_get xs i ≡ Some x → p x ≡ true
all_get p [] i x h e = absurd (none-some x e)
all_get p (y ∷ ys) zero x h e = ap p (sym (same_Some y x e)) ∙ (and_parts (p y) (list_all p ys) h).0
all_get p (y ∷ ys) (suc i) x h e = all_get p ys i x (and_parts (p y) (list_all p ys) h).1 e

pub found_one : {A : Type 0} (test : A → Bool) (xs : List A) (x : A) → find test xs ≡ Some x → (i : ℕ) × (slice_get xs i ≡ Some x) × (test x ≡ true)
found_one test [] x e = absurd (none-some x e)
found_one {A = A} test (y ∷ ys) x e = go (test y) refl e (found_one test ys x)
  where
    go : (b : Bool) → test y ≡ b → (if b then Some y else find test ys) ≡ Some x → (find test ys ≡ Some x → (i : ℕ) × (slice_get ys i ≡ Some x) × (test x ≡ true)) → (i : ℕ) × (slice_get (y ∷ ys) i ≡ Some x) × (test x ≡ true)
    go true t h later = let same = same_Some y x h in (0, ap (λ (z : A). Some z) same, ap test (sym same) ∙ t)
    go false t h later = let r = later h in (suc r.0, r.1, r.2)

some_at : (b : Bool) (n : ℕ) → is_some (if b then Some n else None) ≡ b
some_at true n = refl
some_at false n = refl

next_less : (a n : ℕ) → nat_lt (1 + a) (1 + n) ≡ nat_lt a n
next_less a n = elim (cases_lt a n) [
  | inl h ↦ lt-ltb (1 + a) (1 + n) (omega (arith, h)) ∙ sym (lt-ltb a n h)
  | inr h ↦ le-ltb (1 + a) (1 + n) (omega (arith, h)) ∙ sym (le-ltb a n h)
]

some_within : {A : Type 0} (p : A → Bool) (xs : List A) → nat_lt (position_or_len p xs) (length xs) ≡ list_any p xs
some_within p [] = refl
some_within p (x ∷ xs) = go (p x) (some_within p xs)
  where
    go : (b : Bool) → nat_lt (position_or_len p xs) (length xs) ≡ list_any p xs → nat_lt (if not b then 1 + position_or_len p xs else 0) (length (x ∷ xs)) ≡ (b || list_any p xs)
    go true ih = lt-ltb 0 (length (x ∷ xs)) (omega arith)
    go false ih =
        let count : length (x ∷ xs) ≡ 1 + length xs = omega arith in
        ap (λ (n : ℕ). nat_lt (1 + position_or_len p xs) n) count ∙ (next_less (position_or_len p xs) (length xs) ∙ ih)

-- there is a first one that passes where any does
pub some_position : {A : Type 0} (p : A → Bool) (xs : List A) → is_some (position p xs) ≡ list_any p xs
some_position p xs = some_at (nat_lt (position_or_len p xs) (length xs)) (position_or_len p xs) ∙ some_within p xs

-- ---- what is so of each element

pub all_at : {A : Type 0} (P : A → Type 0) (xs : List A) (k : ℕ) (x : A) → All P xs → slice_get xs k ≡ Some x → P x
all_at P xs k x h e = subst P (get_or_from_slice_get xs k x x e) (All-get_or P xs k x (slice_get_within xs k x e) h)

pub all_by_get : {A : Type 0} (P : A → Type 0) (xs : List A) → ((i : ℕ) (x : A) → slice_get xs i ≡ Some x → P x) → All P xs
all_by_get P [] f = All-nil P
all_by_get P (x ∷ xs) f = All-cons P x xs (f zero x refl) (all_by_get P xs (λ i y e. f (suc i) y e))

pub all_left : {A : Type 0} (P : A → Type 0) (xs ys : List A) → All P (xs ++ ys) → All P xs
all_left P [] ys h = All-nil P
all_left P (x ∷ xs) ys h = All-cons P x xs (All-head P x (xs ++ ys) h) (all_left P xs ys (All-tail P x (xs ++ ys) h))

-- ---- lists with nothing in them

pub none_left : {A : Type 0} (xs ys : List A) → xs ++ ys ≡ [] → xs ≡ []
none_left [] ys e = refl
none_left (x ∷ xs) ys e = absurd cc

pub none_right : {A : Type 0} (xs ys : List A) → xs ++ ys ≡ [] → ys ≡ []
none_right [] ys e = e
none_right (x ∷ xs) ys e = absurd cc

pub none_hidden : {A : Type 0} (b : Bool) (x : A) (xs : List A) → (if b then [] else x ∷ xs) ≡ [] → b ≡ true
none_hidden true x xs e = refl
none_hidden false x xs e = absurd cc

-- ---- numbers in order

pub rises_tail : (p : ℕ) (ps : List ℕ) → IsStrictlyIncreasing (p ∷ ps) → IsStrictlyIncreasing ps
rises_tail p ps h k l =
    let x = h (suc k) (omega (arith, l)) in
    subst (λ n. slice_index ps k < slice_index ps n) (sym (add-one k)) (subst (λ n. slice_index ps k < slice_index (p ∷ ps) n) (add-one (suc k)) x)
