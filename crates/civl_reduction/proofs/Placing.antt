-- Moves that were brought to the front: their order, and where they run.
use Rattle.std.proofs.Common.{ℕ, zero, suc, ◌+◌, ◌-◌, ◌<◌, ◌≤◌, ◌≡◌, List, [], ◌∷◌, ◌++◌, length, Bool, true, false, nat_eq, true≢false, if◌then◌else◌, sym, refl, ap, ◌∙◌, subst, arith, inl, inr, slice_index, append_assoc}
use Rattle.std.specs.Prelude.{All}
use Rattle.std.specs.List.Sorted.{IsStrictlyIncreasing}
use Rattle.std.proofs.lemmas.List.{length-append}
use Rattle.std.proofs.lemmas.List.Elements.{All-head, All-tail}
use Rattle.std.proofs.lemmas.Bool.{eqb-true, eq-eqb}
use Rattle.std.proofs.lemmas.Option.{same_Some}
use Rattle.civl_tree.proofs.Lists.{rises_tail}
use Rattle.civl_meaning.specs.declared.config.Move.{Move}
use Rattle.civl_meaning.specs.declared.config.Plain.{Plain}
use Rattle.civl_meaning.specs.declared.config.Config.{Config}
use Rattle.civl_meaning.specs.Run.{RunsTo}
use Rattle.civl_reduction.specs.declared.swapped.Swapped.TheVariants.{Same, Fails}
use Rattle.civl_reduction.specs.Swap.{exchanged_at, RunsFailing}
use Rattle.civl_reduction.specs.Front.{down, exchanges, AreExchanged}
use Rattle.civl_reduction.specs.Fronted.{chosen_of, others_of, ChosenComeFirst, FrontedRunAlike, FrontedFail}
use Rattle.civl_reduction.proofs.Neighbours.{exchanged_is}
use Rattle.civl_reduction.proofs.Ending.{runs_end}

-- ---- rising places

-- each is this one or behind it, and rises above those before
abbrev Rising : ℕ → List ℕ → Type 0
Rising n [] = Unit {0}
Rising n (p ∷ ps) = (n ≤ p) × Rising (p + 1) ps

rises : (n : ℕ) (ps : List ℕ) → IsStrictlyIncreasing ps → (0 < length ps → n ≤ slice_index ps 0) → Rising n ps
rises n [] h low = tt
rises n (p ∷ ps) h low = (low (omega arith), rises (p + 1) ps (rises_tail p ps h) (λ l. let x = h 0 (omega (arith, l)) in omega (arith, x)))

split_last : {A : Type 0} (n : ℕ) (xs : List A) → length xs ≡ suc n → (ys : List A) × (y : A) × (xs ≡ ys ++ y ∷ []) × (length ys ≡ n)
split_last n [] e = absurd (omega (arith, e))
split_last zero (x ∷ []) e = ([], x, refl, refl)
split_last zero (x ∷ (z ∷ zs)) e = absurd (omega (arith, e))
split_last (suc n) (x ∷ xs) e =
    let s = split_last n xs (omega (arith, e)) in
    (x ∷ s.0, s.1, ap (λ (l : List _). x ∷ l) s.2, ap suc s.3)

module _ (plain : Plain) (from : Config) where
  -- exchanges of two lists of places, one after the other
  between : (ps qs : List ℕ) (moves last : List Move) → AreExchanged plain from (ps ++ qs) moves (Same last) → (next : List Move) × AreExchanged plain from ps moves (Same next) × AreExchanged plain from qs next (Same last)
  between [] qs moves last e = (moves, refl, e)
  between (p ∷ ps) qs moves last (inl x) = absurd x.1
  between (p ∷ ps) qs moves last (inr x) = let r = between ps qs x.0 last x.2 in (r.0, inr (x.0, x.1, r.1), r.2)

  -- a move goes down past these
  goes_past : (count : ℕ) (front back : List Move) (m : Move) (rest next : List Move) → length back ≡ count → AreExchanged plain from (down count (length front)) (front ++ (back ++ m ∷ rest)) (Same next) → next ≡ front ++ (m ∷ (back ++ rest))
  goes_past zero front [] m rest next e h = cc
  goes_past zero front (b ∷ back) m rest next e h = absurd (omega (arith, e))
  goes_past (suc count) front back m rest next e (inl x) = absurd x.1
  goes_past (suc count) front back m rest next e (inr x) =
      let s = split_last count back e in
      let all_is : front ++ (back ++ m ∷ rest) ≡ (front ++ s.0) ++ s.1 ∷ (m ∷ rest) = ap (λ (l : List Move). front ++ (l ++ m ∷ rest)) s.2 ∙ (ap (λ (l : List Move). front ++ l) (append_assoc s.0 (s.1 ∷ []) (m ∷ rest)) ∙ sym (append_assoc front s.0 (s.1 ∷ (m ∷ rest)))) in
      let long = length-append front s.0 in
      let at : length front + count ≡ length (front ++ s.0) = omega (arith, long, s.3) in
      let turned : x.0 ≡ front ++ (s.0 ++ m ∷ (s.1 ∷ rest)) = x.1.0 ∙ (ap (λ (n : ℕ). exchanged_at n (front ++ (back ++ m ∷ rest))) at ∙ (ap (λ (l : List Move). exchanged_at (length (front ++ s.0)) l) all_is ∙ (exchanged_is (front ++ s.0) s.1 m rest ∙ append_assoc front s.0 (m ∷ (s.1 ∷ rest))))) in
      let ends = goes_past count front s.0 m (s.1 ∷ rest) next s.3 (subst (λ (l : List Move). AreExchanged plain from (down count (length front)) l (Same next)) turned x.2) in
      ends ∙ ap (λ (l : List Move). front ++ (m ∷ l)) (sym (append_assoc s.0 (s.1 ∷ []) rest) ∙ ap (λ (l : List Move). l ++ rest) (sym s.2))

  -- the front that is done, the others that were passed, and the rest
  abbrev StandsSo : List Move → ℕ → ℕ → Type 0
  StandsSo rest n total =
      (places : List ℕ) (front back last : List Move) → Rising n places → All (λ (place : ℕ). place < total) places → n + length rest ≡ total → length front + length back ≡ n → AreExchanged plain from (exchanges (length front) places) (front ++ (back ++ rest)) (Same last)
      → last ≡ front ++ (chosen_of n places rest ++ (back ++ others_of n places rest))

  stands_so : (rest : List Move) (n total : ℕ) → StandsSo rest n total
  stands_so [] n total [] front back last r w e f h = cc
  stands_so [] n total (p ∷ ps) front back last r w e f h = let l = All-head (λ (place : ℕ). place < total) p ps w in absurd (omega (arith, l, e, r.0))
  stands_so (m ∷ rest) n total [] front back last r w e f h = cc
  stands_so (m ∷ rest) n total (p ∷ ps) front back last r w e f h = go (nat_eq p n) refl (stands_so rest (n + 1) total)
    where
      chosen : Bool → List Move
      chosen b = if b then m ∷ chosen_of (n + 1) ps rest else chosen_of (n + 1) (p ∷ ps) rest

      others : Bool → List Move
      others b = if b then others_of (n + 1) ps rest else m ∷ others_of (n + 1) (p ∷ ps) rest

      go : (b : Bool) → nat_eq p n ≡ b → StandsSo rest (n + 1) total → last ≡ front ++ (chosen b ++ (back ++ others b))
      go true s ih =
          let here : p ≡ n = eqb-true p n s in
          let count : p - length front ≡ length back = omega (arith, here, f) in
          let parts = between (down (p - length front) (length front)) (exchanges (length front + 1) ps) (front ++ (back ++ m ∷ rest)) last h in
          let first = goes_past (p - length front) front back m rest parts.0 (sym count) parts.1 in
          let long : length (front ++ m ∷ []) ≡ length front + 1 = length-append front (m ∷ []) in
          let moved : parts.0 ≡ (front ++ m ∷ []) ++ (back ++ rest) = first ∙ sym (append_assoc front (m ∷ []) (back ++ rest)) in
          let ends = ih ps (front ++ m ∷ []) back last (subst (λ (k : ℕ). Rising (k + 1) ps) here r.1) (All-tail (λ (place : ℕ). place < total) p ps w) (omega (arith, e)) (omega (arith, f, long))
          (subst (λ (k : ℕ). AreExchanged plain from (exchanges k ps) ((front ++ m ∷ []) ++ (back ++ rest)) (Same last)) (sym long) (subst (λ (l : List Move). AreExchanged plain from (exchanges (length front + 1) ps) l (Same last)) moved parts.2)) in
          ends ∙ append_assoc front (m ∷ []) (chosen_of (n + 1) ps rest ++ (back ++ others_of (n + 1) ps rest))
      go false s ih =
          let apart : p ≡ n → ⊥ = λ x. true≢false (sym (eq-eqb p n x) ∙ s) in
          let off : n + 1 ≤ p = omega (arith, apart, r.0) in
          let long : length (back ++ m ∷ []) ≡ length back + 1 = length-append back (m ∷ []) in
          let ends = ih (p ∷ ps) front (back ++ m ∷ []) last (off, r.1) w (omega (arith, e)) (omega (arith, f, long))
          (subst (λ (l : List Move). AreExchanged plain from (exchanges (length front) (p ∷ ps)) (front ++ l) (Same last)) (sym (append_assoc back (m ∷ []) rest)) h) in
          ends ∙ ap (λ (l : List Move). front ++ (chosen_of (n + 1) (p ∷ ps) rest ++ l)) (append_assoc back (m ∷ []) (others_of (n + 1) (p ∷ ps) rest))

  -- lists that are exchanged run alike
  runs_alike : (places : List ℕ) (moves last : List Move) (end : Config) → AreExchanged plain from places moves (Same last) → RunsTo plain moves from end → RunsTo plain last from end
  runs_alike [] moves last end h r = let same : last ≡ moves = cc in subst (λ (l : List Move). RunsTo plain l from end) (sym same) r
  runs_alike (p ∷ ps) moves last end (inl x) r = absurd x.1
  runs_alike (p ∷ ps) moves last end (inr x) r =
      let also = x.1.1 in
      let same = same_Some also.0 end (sym (runs_end plain moves from also.0 also.1) ∙ runs_end plain moves from end r) in
      runs_alike ps x.0 last end x.2 (subst (λ (c : Config). RunsTo plain x.0 from c) same also.2)

  fails_there : (places : List ℕ) (moves shorter : List Move) → AreExchanged plain from places moves (Fails shorter) → RunsFailing plain from shorter
  fails_there [] moves shorter h = absurd cc
  fails_there (p ∷ ps) moves shorter (inl x) = x.0.2
  fails_there (p ∷ ps) moves shorter (inr x) = fails_there ps x.0 shorter x.2

pub chosen_come_first : ChosenComeFirst
chosen_come_first plain from moves chosen fronted r w h = stands_so plain from moves 0 (length moves) chosen [] [] fronted (rises 0 chosen r (λ l. omega arith)) w (omega arith) refl h

pub fronted_run_alike : FrontedRunAlike
fronted_run_alike plain from end moves chosen fronted h r = runs_alike plain from (exchanges 0 chosen) moves fronted end h r

pub fronted_fail : FrontedFail
fronted_fail plain from moves chosen shorter h = fails_there plain from (exchanges 0 chosen) moves shorter h
