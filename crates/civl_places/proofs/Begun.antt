-- Where the items of each kind begin.
use Rattle.std.proofs.Common.{◌≡◌, ℕ, zero, suc, ◌+◌, ◌<◌, ◌≤◌, inl, inr, List, [], ◌∷◌, ◌++◌, map, length, take, length-append, refl, sym, ap, ◌∙◌, arith}
use Rattle.std.proofs.lemmas.Bool.{cases_lt}
use Rattle.std.proofs.lemmas.List.{length-map, take-map}
use Rattle.civl_tree.specs.declared.program.Program.{Program}
use Rattle.civl_tree.specs.Token.{Token}
use Rattle.civl_tree.specs.Spelling.{joined}
use Rattle.civl_tree.specs.SpellingProgram.{spell_init, spell_invariant, spell_action, spell_thread, spell_program}
use Rattle.civl_tree.specs.SpellingLaws.{spell_item, IsItem}
use Rattle.civl_tree.specs.Numbering.{Item, OfGlobal, OfInit, OfInvariant, OfAction, OfProc, OfThread, init_item, invariant_item, action_item, thread_item}
use Rattle.civl_places.specs.declared.walk.Walk.{Walk}
use Rattle.civl_places.specs.declared.walk.Walk.TheVariants.{Found, Left}
use Rattle.civl_places.specs.Starts.{item_start}
use Rattle.civl_places.specs.inner.Walked.{walked, starts_each}
use Rattle.civl_places.specs.inner.Kinds.{init_at, invariants_at, actions_at, threads_at}
use Rattle.civl_places.proofs.Itemized.{walked_each, walked_past}
use Rattle.civl_places.proofs.Starting.{past_kind, within_kind}
use Rattle.civl_places.proofs.Standing.{items_begin}

-- ---- walks over phrases of one kind

module _ {X : Type 0} (spell : X → List Token) (xs ys : List X) (first at n : ℕ) (w : Walk) (same : xs ≡ ys) (begins : first ≡ at)
    (known : w ≡ walked (starts_each first (map spell xs)) n) where
  walk_is : walked (starts_each at (map spell ys)) n ≡ w
  walk_is = ap (λ (k : ℕ). walked (starts_each k (map spell ys)) n) (sym begins) ∙ ap (λ (l : List X). walked (starts_each first (map spell l)) n) (sym same) ∙ sym known

  pub each_found : (token : ℕ) → w ≡ Found token → (n < length ys) × (token ≡ at + length (joined (map spell (take n ys))))
  each_found token is = elim (cases_lt n (length ys)) [
    | inl less ↦
        let there = walked_each at (map spell ys) n (omega (arith, length-map ys spell)) in
        let token_is : token ≡ at + length (joined (take n (map spell ys))) = let h = walk_is ∙ is in cc in
        (less, token_is ∙ rw (take-map spell n ys) refl)
    | inr past ↦ absurd (let none = walked_past at (map spell ys) n (omega (arith, length-map ys spell)) in let h = walk_is ∙ is in cc)
  ]

  pub each_left : (left : ℕ) → w ≡ Left left → n < length ys → ⊥
  each_left left is less = let there = walked_each at (map spell ys) n (omega (arith, length-map ys spell)) in let h = walk_is ∙ is in cc

-- ---- the items of each kind

within_last : {X : Type 0} (kind : X → Item) (xs : List X) (n : ℕ) → length (joined (map spell_item (take n (map kind xs)))) ≡ length (joined (map (λ x. spell_item (kind x)) (take n xs)))
within_last kind xs zero = refl
within_last kind [] (suc n) = refl
within_last kind (x ∷ xs) (suc n) =
    omega (
      arith,
      within_last kind xs n,
      length-append (spell_item (kind x)) (joined (map spell_item (take n (map kind xs)))),
      length-append (spell_item (kind x)) (joined (map (λ x. spell_item (kind x)) (take n xs))),
    )

abbrev threads : Program → List Item
threads p = map OfThread p.threads

abbrev procs : Program → List Item
procs p = map OfProc p.procs ++ threads p

abbrev actions : Program → List Item
actions p = map OfAction p.actions ++ procs p

abbrev invariants : Program → List Item
invariants p = map OfInvariant p.invariants ++ actions p

plus_none : (n : ℕ) → n + 0 ≡ n
plus_none n = omega arith

pub init_start : (p : Program) → item_start p (init_item p) ≡ init_at p
init_start p = omega (arith, past_kind OfGlobal p.globals (OfInit p.init ∷ invariants p) 0 (init_item p) (plus_none (length p.globals)))

pub invariant_start : (p : Program) (place : ℕ) → place ≤ length p.invariants → item_start p (invariant_item p place) ≡ invariants_at p + length (joined (map spell_invariant (take place p.invariants)))
invariant_start p place inside =
    let one : length p.globals + suc place ≡ invariant_item p place = omega arith in
    omega (
      arith,
      past_kind OfGlobal p.globals (OfInit p.init ∷ invariants p) (suc place) (invariant_item p place) one,
      length-append (spell_init p.init) (joined (map spell_item (take place (invariants p)))),
      within_kind OfInvariant p.invariants (actions p) place inside,
    )

pub action_start : (p : Program) (place : ℕ) → place ≤ length p.actions → item_start p (action_item p place) ≡ actions_at p + length (joined (map spell_action (take place p.actions)))
action_start p place inside =
    let i = length p.invariants in
    let one : length p.globals + suc (i + place) ≡ action_item p place = omega arith in
    omega (
      arith,
      past_kind OfGlobal p.globals (OfInit p.init ∷ invariants p) (suc (i + place)) (action_item p place) one,
      length-append (spell_init p.init) (joined (map spell_item (take (i + place) (invariants p)))),
      past_kind OfInvariant p.invariants (actions p) place (i + place) refl,
      within_kind OfAction p.actions (procs p) place inside,
    )

pub thread_start : (p : Program) (place : ℕ) → item_start p (thread_item p place) ≡ threads_at p + length (joined (map spell_thread (take place p.threads)))
thread_start p place =
    let i = length p.invariants in
    let a = length p.actions in
    let r = length p.procs in
    let one : length p.globals + suc (i + (a + (r + place))) ≡ thread_item p place = omega arith in
    omega (
      arith,
      past_kind OfGlobal p.globals (OfInit p.init ∷ invariants p) (suc (i + (a + (r + place)))) (thread_item p place) one,
      length-append (spell_init p.init) (joined (map spell_item (take (i + (a + (r + place))) (invariants p)))),
      past_kind OfInvariant p.invariants (actions p) (a + (r + place)) (i + (a + (r + place))) refl,
      past_kind OfAction p.actions (procs p) (r + place) (a + (r + place)) refl,
      past_kind OfProc p.procs (threads p) place (r + place) refl,
      within_last OfThread p.threads place,
    )

-- an item stands in the program
pub item_fits : (p : Program) (n : ℕ) (item : Item) → IsItem p n item → item_start p n + length (spell_item item) ≤ length (spell_program p)
item_fits p n item h =
    let stands = items_begin p n item h in
    omega (
      arith,
      ap length stands.parts,
      stands.place_is,
      length-append stands.before (spell_item item ++ stands.after),
      length-append (spell_item item) stands.after,
    )
