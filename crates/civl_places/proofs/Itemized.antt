-- A walk over all items, kind by kind, comes to where the items begin.
use Rattle.std.proofs.Common.{◌≡◌, ℕ, zero, suc, ◌+◌, ◌-◌, ◌<◌, ◌≤◌, inl, inr, List, [], ◌∷◌, ◌++◌, map, length, take, length-append, refl, sym, ap, ◌∙◌, arith}
use Rattle.std.proofs.lemmas.Bool.{cases_lt}
use Rattle.std.proofs.lemmas.List.{length-map, take-map}
use Rattle.civl_tree.specs.declared.program.Program.{Program}
use Rattle.civl_tree.specs.Token.{Token}
use Rattle.civl_tree.specs.Spelling.{joined}
use Rattle.civl_tree.specs.SpellingProgram.{spell_init}
use Rattle.civl_tree.specs.SpellingLaws.{spell_item}
use Rattle.civl_tree.specs.Numbering.{Item, OfGlobal, OfInit, OfInvariant, OfAction, OfProc, OfThread, items_of, item_count}
use Rattle.civl_tree.proofs.Items.{items_are_numbered}
use Rattle.civl_places.specs.declared.walk.Walk.{Walk}
use Rattle.civl_places.specs.declared.walk.Walk.TheVariants.{Found, Left}
use Rattle.civl_places.specs.Starts.{item_start}
use Rattle.civl_places.specs.inner.Walked.{walked, go_on, starts_each}
use Rattle.civl_places.specs.inner.Kinds.{init_at, invariants_at, actions_at, procs_at, threads_at, walked_first, walked_items}
use Rattle.civl_places.proofs.Walking.{walked_both}

-- ---- two lists of phrases

plus_none : (n : ℕ) → n + 0 ≡ n
plus_none n = omega arith

each_both : (at : ℕ) (xs ys : List (List Token)) → starts_each at (xs ++ ys) ≡ starts_each at xs ++ starts_each (at + length (joined xs)) ys
each_both at [] ys = rw (plus_none at) refl
each_both at (x ∷ xs) ys =
    let sum : at + length x + length (joined xs) ≡ at + length (x ++ joined xs) = omega (arith, length-append x (joined xs)) in
    ap (λ (l : List ℕ). at ∷ l) (each_both (at + length x) xs ys ∙ ap (λ (n : ℕ). starts_each (at + length x) xs ++ starts_each n ys) sum)

pub go_on_both : (w : Walk) (xs ys : List ℕ) → go_on w (xs ++ ys) ≡ go_on (go_on w xs) ys
go_on_both (Found token) xs ys = refl
go_on_both (Left number) xs ys = walked_both xs ys number

map_kind : {X : Type 0} (kind : X → Item) (xs : List X) (rest : List Item) → map spell_item (map kind xs ++ rest) ≡ map (λ x. spell_item (kind x)) xs ++ map spell_item rest
map_kind kind [] rest = refl
map_kind kind (x ∷ xs) rest = ap (λ (l : List (List Token)). spell_item (kind x) ∷ l) (map_kind kind xs rest)

map_last : {X : Type 0} (kind : X → Item) (xs : List X) → map spell_item (map kind xs) ≡ map (λ x. spell_item (kind x)) xs
map_last kind [] = refl
map_last kind (x ∷ xs) = ap (λ (l : List (List Token)). spell_item (kind x) ∷ l) (map_last kind xs)

-- the items of one kind, and then the rest
kind_on : {X : Type 0} (w : Walk) (kind : X → Item) (xs : List X) (rest : List Item) (at : ℕ)
    → go_on w (starts_each at (map spell_item (map kind xs ++ rest)))
    ≡ go_on (go_on w (starts_each at (map (λ x. spell_item (kind x)) xs))) (starts_each (at + length (joined (map (λ x. spell_item (kind x)) xs))) (map spell_item rest))
kind_on w kind xs rest at =
    ap (λ (l : List (List Token)). go_on w (starts_each at l)) (map_kind kind xs rest)
    ∙ ap (λ (l : List ℕ). go_on w l) (each_both at (map (λ x. spell_item (kind x)) xs) (map spell_item rest))
    ∙ go_on_both w (starts_each at (map (λ x. spell_item (kind x)) xs)) _

last_on : {X : Type 0} (w : Walk) (kind : X → Item) (xs : List X) (at : ℕ)
    → go_on w (starts_each at (map spell_item (map kind xs))) ≡ go_on w (starts_each at (map (λ x. spell_item (kind x)) xs))
last_on w kind xs at = ap (λ (l : List (List Token)). go_on w (starts_each at l)) (map_last kind xs)

pub items_walk : (p : Program) (item : ℕ) → walked (starts_each 9 (map spell_item (items_of p))) item ≡ walked_items p item
items_walk p item =
    let threads = map OfThread p.threads in
    let procs = map OfProc p.procs ++ threads in
    let actions = map OfAction p.actions ++ procs in
    let invariants = map OfInvariant p.invariants ++ actions in
    kind_on (Left item) OfGlobal p.globals (OfInit p.init ∷ invariants) 9
    ∙ go_on_both _ (init_at p ∷ []) (starts_each (init_at p + length (spell_init p.init)) (map spell_item invariants))
    ∙ kind_on _ OfInvariant p.invariants actions (invariants_at p)
    ∙ kind_on (walked_first p item) OfAction p.actions procs (actions_at p)
    ∙ kind_on _ OfProc p.procs threads (procs_at p)
    ∙ last_on _ OfThread p.threads (threads_at p)

-- ---- what is at a place

pub walked_each : (at : ℕ) (xs : List (List Token)) (n : ℕ) → n < length xs → walked (starts_each at xs) n ≡ Found (at + length (joined (take n xs)))
walked_each at [] n h = absurd (omega arith)
walked_each at (x ∷ xs) zero h = ap Found (sym (plus_none at))
walked_each at (x ∷ xs) (suc n) h =
    let sum : at + length x + length (joined (take n xs)) ≡ at + length (x ++ joined (take n xs)) = omega (arith, length-append x (joined (take n xs))) in
    walked_each (at + length x) xs n (omega arith) ∙ ap Found sum

pub walked_past : (at : ℕ) (xs : List (List Token)) (n : ℕ) → length xs ≤ n → walked (starts_each at xs) n ≡ Left (n - length xs)
walked_past at [] n h = let same : n ≡ n - 0 = omega arith in ap Left same
walked_past at (x ∷ xs) zero h = absurd (omega arith)
walked_past at (x ∷ xs) (suc n) h =
    let same : n - length xs ≡ suc n - suc (length xs) = omega arith in
    walked_past (at + length x) xs n (omega arith) ∙ ap Left same

count_is : (p : Program) → length (map spell_item (items_of p)) ≡ item_count p
count_is p = length-map (items_of p) spell_item ∙ (items_are_numbered p 0).6

start_is : (p : Program) (item : ℕ) → 9 + length (joined (take item (map spell_item (items_of p)))) ≡ item_start p item
start_is p item = rw (take-map spell_item item (items_of p)) (omega arith)

pub item_is : (p : Program) (item : ℕ) → item < item_count p → walked_items p item ≡ Found (item_start p item)
item_is p item h =
    sym (items_walk p item) ∙ walked_each 9 (map spell_item (items_of p)) item (omega (arith, count_is p)) ∙ ap Found (start_is p item)

item_past : (p : Program) (item : ℕ) → item_count p ≤ item → walked_items p item ≡ Left (item - length (map spell_item (items_of p)))
item_past p item h = sym (items_walk p item) ∙ walked_past 9 (map spell_item (items_of p)) item (omega (arith, count_is p))

pub item_found : (p : Program) (item token : ℕ) (w : Walk) → w ≡ walked_items p item → w ≡ Found token → (item < item_count p) × (token ≡ item_start p item)
item_found p item token w known is = elim (cases_lt item (item_count p)) [
  | inl less ↦ (less, let start = item_is p item less in cc)
  | inr past ↦ absurd (let none = item_past p item past in cc)
]

pub item_left : (p : Program) (item left : ℕ) (w : Walk) → w ≡ walked_items p item → w ≡ Left left → item < item_count p → ⊥
item_left p item left w known is less = let start = item_is p item less in cc
