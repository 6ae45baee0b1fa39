-- What goals assume of permissions holds in a configuration that is parted.
use Rattle.std.proofs.Common.{◌≡◌, ℕ, zero, suc, ◌+◌, ◌<◌, ◌≤◌, Bool, true, false, List, [], ◌∷◌, ◌++◌, length, get_or, Option, Some, refl, sym, ap, ap₂, ◌∙◌, inl, inr, ◌⊎◌, arith}
use Rattle.std.specs.Prelude.{slice_get, flat_map, if◌then◌else◌}
use Rattle.std.specs.Option.{option_map_or}
use Rattle.std.proofs.lemmas.Bool.{cases_lt}
use Rattle.std.proofs.lemmas.Option.{same_Some, none-some}
use Rattle.std.proofs.lemmas.List.{append_assoc, length-append, get_or-append-add, get_or_append_left, get_or_past}
use Rattle.civl_bits.specs.declared.value.Value.{Value}
use Rattle.civl_firing.specs.values.Operators.{nothing}
use Rattle.civl_firing.specs.values.Values.{HaveSorts}
use Rattle.civl_tree.specs.declared.name.Name.{Name}
use Rattle.civl_tree.specs.declared.program.Proc.{Proc}
use Rattle.civl_tree.specs.declared.program.Program.{Program}
use Rattle.civl_tree.specs.rules.Names.{names_in_proc}
use Rattle.civl_firing.specs.declared.store.Store.{Store}
use Rattle.civl_meaning.specs.declared.config.Activation.{Activation}
use Rattle.civl_meaning.specs.declared.config.Running.{Running}
use Rattle.civl_meaning.specs.Permissions.{permissions_of_word, pairwise_disjoint, of_globals}
use Rattle.civl_meaning.specs.Config.{frame_sorts}
use Rattle.civl_linear.specs.Cuts.{held_numbers}
use Rattle.civl_linear.specs.Held.{traced_proc}
use Rattle.civl_conditions.specs.Permissions.{of_held, in_store}
use Rattle.civl_reduction.specs.permissions.Owned as owned
use Rattle.civl_reduction.specs.permissions.Owned.{of_flagged, of_locals, of_frame}
use Rattle.civl_reduction.proofs.permissions.Counting.{carriers, carriers_joined, counts_of, disjoint_by}
use Rattle.civl_reduction.proofs.permissions.Changing.{owns}
use Rattle.civl_reduction.proofs.permissions.Staying.{all_own, one_own}
use Rattle.civl_reduction.proofs.permissions.Threads.{locals_count}
use Rattle.civl_goals.specs.Failed.{held_before, owned_in}

-- ---- numbers and flags

at_front : (front : List Value) (k : ℕ) (v : Value) (vs : List Value) → length front ≡ k → get_or (front ++ v ∷ vs) k nothing ≡ v
at_front front k v vs e = let n : k ≡ length front + 0 = omega (arith, e) in ap (λ (i : ℕ). get_or (front ++ v ∷ vs) i nothing) n ∙ get_or-append-add front (v ∷ vs) 0 nothing

-- the values with these numbers are those with the flags
held_is : (front : List Value) (k : ℕ) (names : List Name) (flags : List Bool) (values : List Value) → length front ≡ k → length values ≡ length names → of_held (held_numbers k names flags) (front ++ values) ≡ of_flagged flags values
held_is front k [] [] [] e n = refl
held_is front k [] (b ∷ flags) [] e n = refl
held_is front k [] flags (v ∷ vs) e n = absurd (omega (arith, n))
held_is front k (x ∷ names) [] values e n = refl
held_is front k (x ∷ names) (b ∷ flags) [] e n = absurd (omega (arith, n))
held_is front k (x ∷ names) (b ∷ flags) (v ∷ vs) e n =
    let long : length (front ++ v ∷ []) ≡ k + 1 = length-append front (v ∷ []) ∙ ap (λ (m : ℕ). m + 1) e in
    go b (ap (of_held (held_numbers (k + 1) names flags)) (sym (append_assoc front (v ∷ []) vs)) ∙ held_is (front ++ v ∷ []) (k + 1) names flags vs long (omega (arith, n)))
  where
    go : (c : Bool) → of_held (held_numbers (k + 1) names flags) (front ++ v ∷ vs) ≡ of_flagged flags vs → of_held ((if c then k ∷ [] else []) ++ held_numbers (k + 1) names flags) (front ++ v ∷ vs) ≡ (if c then permissions_of_word v ∷ [] else []) ++ of_flagged flags vs
    go true rest = ap₂ (λ (u : Value) (ps : List (List ℕ)). permissions_of_word u ∷ ps) (at_front front k v vs e) rest
    go false rest = rest

none_flagged : (names : List Name) → held_numbers 0 names [] ≡ []
none_flagged [] = refl
none_flagged (x ∷ names) = refl

module _ (program : Program) where
  -- what is held before a statement is owned by the frame
  pub owned_less : (frame : Activation) (proc : Proc) → slice_get program.procs frame.procedure ≡ Some proc → HaveSorts frame.locals (frame_sorts proc) → (p : ℕ) → carriers p (owned_in program frame) ≤ carriers p (of_frame program (owned.held_before program) frame)
  owned_less frame proc at sorted p = by_place (cases_lt frame.place (length (traced_proc program proc).befores))
    where
      here : owned_in program frame ≡ of_held (held_before program proc frame.place) frame.locals
      here = ap (λ (o : Option Proc). option_map_or (λ q. of_held (held_before program q frame.place) frame.locals) o []) at

      there : of_frame program (owned.held_before program) frame ≡ of_flagged (owned.held_before program proc frame.place) frame.locals
      there = ap (of_locals (owned.held_before program) frame) at

      by_place : (frame.place < length (traced_proc program proc).befores) ⊎ (length (traced_proc program proc).befores ≤ frame.place) → carriers p (owned_in program frame) ≤ carriers p (of_frame program (owned.held_before program) frame)
      by_place (inl l) =
          let same : owned.held_before program proc frame.place ≡ get_or (traced_proc program proc).befores frame.place [] = get_or_append_left (traced_proc program proc).befores ((traced_proc program proc).after ∷ []) [] frame.place l in
          let e : owned_in program frame ≡ of_frame program (owned.held_before program) frame =
          here ∙ (held_is [] 0 (names_in_proc proc) (get_or (traced_proc program proc).befores frame.place []) frame.locals refl (locals_count proc frame.locals sorted)
          ∙ (ap (λ (f : List Bool). of_flagged f frame.locals) (sym same) ∙ sym there)) in
          let q = ap (carriers p) e in
          omega (arith, q)
      by_place (inr g) =
          let none : owned_in program frame ≡ [] =
          here ∙ ap (λ (ns : List ℕ). of_held ns frame.locals) (ap (held_numbers 0 (names_in_proc proc)) (get_or_past (traced_proc program proc).befores frame.place [] g) ∙ none_flagged (names_in_proc proc)) in
          let q = ap (carriers p) none in
          omega (arith, q)

  -- what two threads own
  two_own : (threads : List Running) (t u : ℕ) (one other : Running) → (t ≡ u → ⊥) → slice_get threads t ≡ Some one → slice_get threads u ≡ Some other → (p : ℕ) → owns program one one.state p + owns program other other.state p ≤ all_own program threads p
  two_own [] t u one other n e f p = absurd (none-some one e)
  two_own (r ∷ rs) zero zero one other n e f p = absurd (n refl)
  two_own (r ∷ rs) zero (suc u) one other n e f p =
      let joined = carriers_joined p (owned.owned program r) (flat_map (owned.owned program) rs) in
      let is : carriers p (owned.owned program r) ≡ carriers p (owned.owned program one) = ap (λ (x : Running). carriers p (owned.owned program x)) (same_Some r one e) in
      let rest = one_own program rs u other f p in
      omega (arith, joined, is, rest)
  two_own (r ∷ rs) (suc t) zero one other n e f p =
      let joined = carriers_joined p (owned.owned program r) (flat_map (owned.owned program) rs) in
      let is : carriers p (owned.owned program r) ≡ carriers p (owned.owned program other) = ap (λ (x : Running). carriers p (owned.owned program x)) (same_Some r other f) in
      let rest = one_own program rs t one e p in
      omega (arith, joined, is, rest)
  two_own (r ∷ rs) (suc t) (suc u) one other n e f p =
      let joined = carriers_joined p (owned.owned program r) (flat_map (owned.owned program) rs) in
      let rest = two_own rs t u one other (λ q. n (ap suc q)) e f p in
      omega (arith, joined, rest)

  module _ (store : Store) (threads : List Running) (parted : pairwise_disjoint (of_globals program.globals store.values ++ flat_map (owned.owned program) threads) ≡ true) where
    counted : (p : ℕ) → carriers p (of_globals program.globals store.values) + all_own program threads p ≤ 1
    counted p =
        let one = counts_of (of_globals program.globals store.values ++ flat_map (owned.owned program) threads) parted p in
        let two = carriers_joined p (of_globals program.globals store.values) (flat_map (owned.owned program) threads) in
        omega (arith, one, two)

    -- a thread's frame
    pub frame_apart : (t : ℕ) (thread : Running) (frame : Activation) → slice_get threads t ≡ Some thread → ((p : ℕ) → carriers p (owned_in program frame) ≤ owns program thread thread.state p) → pairwise_disjoint (in_store program store ++ owned_in program frame) ≡ true
    frame_apart t thread frame at less =
        disjoint_by (in_store program store ++ owned_in program frame) (λ p.
        let one = counted p in
        let two = one_own program threads t thread at p in
        let three = less p in
        let four = carriers_joined p (of_globals program.globals store.values) (owned_in program frame) in
        omega (arith, one, two, three, four))

    -- those of two threads
    pub frames_apart : (t u : ℕ) (thread other : Running) (frame beside : Activation) → (t ≡ u → ⊥) → slice_get threads t ≡ Some thread → slice_get threads u ≡ Some other
        → ((p : ℕ) → carriers p (owned_in program frame) ≤ owns program thread thread.state p) → ((p : ℕ) → carriers p (owned_in program beside) ≤ owns program other other.state p)
        → pairwise_disjoint (in_store program store ++ (owned_in program frame ++ owned_in program beside)) ≡ true
    frames_apart t u thread other frame beside n at there less fewer =
        disjoint_by (in_store program store ++ (owned_in program frame ++ owned_in program beside)) (λ p.
        let one = counted p in
        let two = two_own threads t u thread other n at there p in
        let three = less p in
        let four = fewer p in
        let five = carriers_joined p (of_globals program.globals store.values) (owned_in program frame ++ owned_in program beside) in
        let six = carriers_joined p (owned_in program frame) (owned_in program beside) in
        omega (arith, one, two, three, four, five, six))
