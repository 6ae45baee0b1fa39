-- Exchanges one after the other.
use Rattle.std.proofs.Common.{ℕ, zero, suc, ◌+◌, ◌-◌, ◌<◌, ◌≤◌, ◌≡◌, List, [], ◌∷◌, ◌++◌, length, drop, sym, ap, ◌∙◌, subst, arith, inl, inr, Some, slice_get, add-one}
use Rattle.std.specs.Prelude.{All, slice_index}
use Rattle.std.specs.List.Sorted.{IsStrictlyIncreasing}
use Rattle.std.proofs.lemmas.List.Elements.{All-head, All-tail}
use Rattle.std.proofs.lemmas.Option.{same_Some, none-some, slice_get_within}
use Rattle.std.proofs.lemmas.List.Edits.{length-swap}
use Rattle.civl_meaning.specs.declared.config.Move.{Move}
use Rattle.civl_meaning.specs.declared.config.Plain.{Plain}
use Rattle.civl_meaning.specs.declared.config.Config.{Config}
use Rattle.civl_reduction.specs.declared.swapped.Swapped.{Swapped}
use Rattle.civl_reduction.specs.declared.swapped.Swapped.TheVariants.{Same}
use Rattle.civl_reduction.specs.Swap.{IsSwapped}
use Rattle.civl_reduction.specs.Front.{down, exchanges, IsStop, AreExchanged}

module _ (plain : Plain) (from : Config) where
  -- the next exchange of a move that goes down
  next_is : (count done target : ℕ) → done < count → down (count - done) target ≡ (target + (count - 1 - done)) ∷ down (count - (done + 1)) target
  next_is count done target h =
      let n : count - done ≡ suc (count - 1 - done) = omega (arith, h) in
      let m : count - (done + 1) ≡ count - 1 - done = omega (arith, h) in
      ap (λ k. down k target) n ∙ ap (λ k. (target + (count - 1 - done)) ∷ down k target) (sym m)

  pub goes_down : (count done target : ℕ) (moves next : List Move) (answer : Swapped) → done < count → IsSwapped plain from moves (target + (count - 1 - done)) (Same next) → AreExchanged plain from (down (count - (done + 1)) target) next answer → AreExchanged plain from (down (count - done) target) moves answer
  goes_down count done target moves next answer h s rest = subst (λ (ps : List ℕ). AreExchanged plain from ps moves answer) (sym (next_is count done target h)) (inr (next, s, rest))

  pub stops_down : (count done target : ℕ) (moves : List Move) (answer : Swapped) → done < count → IsSwapped plain from moves (target + (count - 1 - done)) answer → IsStop answer → AreExchanged plain from (down (count - done) target) moves answer
  stops_down count done target moves answer h s stop = subst (λ (ps : List ℕ). AreExchanged plain from ps moves answer) (sym (next_is count done target h)) (inl (s, stop))

  -- an exchange keeps the number of moves
  pub keeps_length : (moves next : List Move) (place : ℕ) → IsSwapped plain from moves place (Same next) → length next ≡ length moves
  keeps_length moves next place s = ap (λ (l : List Move). length l) s.0 ∙ length-swap moves place (place + 1)

  -- and so do several
  pub all_keep_length : (places : List ℕ) (moves next : List Move) → AreExchanged plain from places moves (Same next) → length next ≡ length moves
  all_keep_length [] moves next e = let same : next ≡ moves = cc in ap (λ (l : List Move). length l) same
  all_keep_length (p ∷ ps) moves next (inl x) = absurd x.1
  all_keep_length (p ∷ ps) moves next (inr x) = all_keep_length ps x.0 next x.2 ∙ keeps_length moves x.0 p x.1

  -- exchanges and then others
  pub exchanged_then : (ps qs : List ℕ) (moves next : List Move) (answer : Swapped) → AreExchanged plain from ps moves (Same next) → AreExchanged plain from qs next answer → AreExchanged plain from (ps ++ qs) moves answer
  exchanged_then [] qs moves next answer e r = let same : next ≡ moves = cc in subst (λ (l : List Move). AreExchanged plain from qs l answer) same r
  exchanged_then (p ∷ ps) qs moves next answer (inl x) r = absurd x.1
  exchanged_then (p ∷ ps) qs moves next answer (inr x) r = inr (x.0, x.1, exchanged_then ps qs x.0 next answer x.2 r)

  pub stopped_then : (ps qs : List ℕ) (moves : List Move) (answer : Swapped) → IsStop answer → AreExchanged plain from ps moves answer → AreExchanged plain from (ps ++ qs) moves answer
  stopped_then [] qs moves answer stop e = absurd (subst IsStop e stop)
  stopped_then (p ∷ ps) qs moves answer stop (inl x) = inl x
  stopped_then (p ∷ ps) qs moves answer stop (inr x) = inr (x.0, x.1, stopped_then ps qs x.0 answer stop x.2)

-- ---- rising places

get_is : (xs : List ℕ) (i x : ℕ) → slice_get xs i ≡ Some x → slice_index xs i ≡ x
get_is [] i x e = absurd (none-some x e)
get_is (y ∷ ys) zero x e = same_Some y x e
get_is (y ∷ ys) (suc i) x e = get_is ys i x e

above : (xs : List ℕ) → IsStrictlyIncreasing xs → (i : ℕ) → i < length xs → i ≤ slice_index xs i
above xs h zero l = omega arith
above xs h (suc i) l =
    let ih = above xs h i (omega (arith, l)) in
    let next = h i (omega (arith, l)) in
    subst (λ n. suc i ≤ slice_index xs n) (add-one i) (omega (arith, ih, next))

-- a rising list has no less than its place at each place
pub rises_above : (xs : List ℕ) → IsStrictlyIncreasing xs → (i x : ℕ) → slice_get xs i ≡ Some x → i ≤ x
rises_above xs h i x e = subst (λ n. i ≤ n) (get_is xs i x e) (above xs h i (slice_get_within xs i x e))

pub all_there : (P : ℕ → Type 0) (xs : List ℕ) (i x : ℕ) → slice_get xs i ≡ Some x → All P xs → P x
all_there P [] i x e a = absurd (none-some x e)
all_there P (y ∷ ys) zero x e a = subst P (same_Some y x e) (All-head P y ys a)
all_there P (y ∷ ys) (suc i) x e a = all_there P ys i x e (All-tail P y ys a)

drop_next : (xs : List ℕ) (i x : ℕ) → slice_get xs i ≡ Some x → drop i xs ≡ x ∷ drop (i + 1) xs
drop_next [] i x e = absurd (none-some x e)
drop_next (y ∷ ys) zero x e = ap (λ n. n ∷ ys) (same_Some y x e)
drop_next (y ∷ ys) (suc i) x e = drop_next ys i x e ∙ ap (λ n. x ∷ drop n ys) (add-one i) ∙ ap (λ n. x ∷ drop n (y ∷ ys)) (sym (add-one (suc i)))

module _ (plain : Plain) (from : Config) (chosen : List ℕ) where
  -- a chosen move was brought behind those before it
  pub goes_next : (target place : ℕ) (moves next : List Move) (answer : Swapped) → slice_get chosen target ≡ Some place → AreExchanged plain from (down (place - target) target) moves (Same next) → AreExchanged plain from (exchanges (target + 1) (drop (target + 1) chosen)) next answer
      → AreExchanged plain from (exchanges target (drop target chosen)) moves answer
  goes_next target place moves next answer e h rest =
      subst (λ (ps : List ℕ). AreExchanged plain from (exchanges target ps) moves answer) (sym (drop_next chosen target place e))
      (exchanged_then plain from (down (place - target) target) (exchanges (target + 1) (drop (target + 1) chosen)) moves next answer h rest)

  pub stops_next : (target place : ℕ) (moves : List Move) (answer : Swapped) → slice_get chosen target ≡ Some place → IsStop answer → AreExchanged plain from (down (place - target) target) moves answer → AreExchanged plain from (exchanges target (drop target chosen)) moves answer
  stops_next target place moves answer e stop h =
      subst (λ (ps : List ℕ). AreExchanged plain from (exchanges target ps) moves answer) (sym (drop_next chosen target place e))
      (stopped_then plain from (down (place - target) target) (exchanges (target + 1) (drop (target + 1) chosen)) moves answer stop h)
