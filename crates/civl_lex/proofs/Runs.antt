-- Runs: the elements at the front of a list that pass a test.
use Rattle.std.proofs.Common.{◌≡◌, ◌+◌, ◌≤◌, suc, Bool, true, false, cond, List, [], ◌∷◌, ◌++◌, length, take, drop, refl, arith}
use Rattle.std.specs.List.{prefix_len, list_all}
use Rattle.std.proofs.lemmas.Bool.{and_parts}

-- whether the first element passes
abbrev pub first_passes : {X : Type 0} → (X → Bool) → List X → Bool
first_passes p [] = false
first_passes p (x ∷ xs) = p x

run_all_at : {X : Type 0} (p : X → Bool) (x : X) (xs : List X) (b : Bool) → p x ≡ b → list_all p (take (prefix_len p xs) xs) ≡ true → list_all p (take (cond b (1 + prefix_len p xs) 0) (x ∷ xs)) ≡ true
run_all_at p x xs true e h = let one : 1 + prefix_len p xs ≡ suc (prefix_len p xs) = omega arith in rw (one, e, h) refl
run_all_at p x xs false e h = refl

-- each element of the run passes
pub run_all : {X : Type 0} (p : X → Bool) (xs : List X) → list_all p (take (prefix_len p xs) xs) ≡ true
run_all p [] = refl
run_all p (x ∷ xs) = run_all_at p x xs (p x) refl (run_all p xs)

run_stops_at : {X : Type 0} (p : X → Bool) (x : X) (xs : List X) (b : Bool) → p x ≡ b → first_passes p (drop (prefix_len p xs) xs) ≡ false → first_passes p (drop (cond b (1 + prefix_len p xs) 0) (x ∷ xs)) ≡ false
run_stops_at p x xs true e h = let one : 1 + prefix_len p xs ≡ suc (prefix_len p xs) = omega arith in rw one h
run_stops_at p x xs false e h = e

-- the element behind the run does not
pub run_stops : {X : Type 0} (p : X → Bool) (xs : List X) → first_passes p (drop (prefix_len p xs) xs) ≡ false
run_stops p [] = refl
run_stops p (x ∷ xs) = run_stops_at p x xs (p x) refl (run_stops p xs)

-- a front of elements that pass is within the run
pub run_covers : {X : Type 0} (p : X → Bool) (xs rest : List X) → list_all p xs ≡ true → length xs ≤ prefix_len p (xs ++ rest)
run_covers p [] rest h = omega arith
run_covers p (x ∷ xs) rest h = let parts = and_parts (p x) (list_all p xs) h in let more = run_covers p xs rest parts.1 in rw parts.0 (omega arith)

stopped_is_zero : {X : Type 0} (p : X → Bool) (rest : List X) → first_passes p rest ≡ false → prefix_len p rest ≡ 0
stopped_is_zero p [] h = refl
stopped_is_zero p (x ∷ rest) h = rw h refl

-- and is the run, where the element behind it does not pass
pub run_is : {X : Type 0} (p : X → Bool) (xs rest : List X) → list_all p xs ≡ true → first_passes p rest ≡ false → prefix_len p (xs ++ rest) ≡ length xs
run_is p [] rest h stops = stopped_is_zero p rest stops
run_is p (x ∷ xs) rest h stops = let parts = and_parts (p x) (list_all p xs) h in let more = run_is p xs rest parts.1 stops in rw parts.0 (omega arith)
