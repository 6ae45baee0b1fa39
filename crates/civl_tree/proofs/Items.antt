-- The number of an item is its place in text order.
use Rattle.std.proofs.Common.{◌≡◌, ℕ, zero, suc, ◌+◌, List, [], ◌∷◌, ◌++◌, map, length, Some, refl, sym, ap, ◌∙◌, subst, arith}
use Rattle.std.proofs.lemmas.List.{append_assoc, length-append, length-map}
use Rattle.std.proofs.lemmas.Option.{slice_get-map}
use Rattle.std.specs.Prelude.{slice_get}
use Rattle.std.specs.Option.{option_map}
use Rattle.civl_tree.specs.Token.{Token}
use Rattle.civl_tree.specs.Spelling.{joined}
use Rattle.civl_tree.specs.SpellingProgram.{spell_global, spell_init, spell_invariant, spell_action, spell_proc}
use Rattle.civl_tree.specs.Numbering.{Item, OfGlobal, OfInit, OfInvariant, OfAction, OfProc, OfThread}
use Rattle.civl_tree.specs.SpellingLaws.{spell_item, spell_header, ItemsAreInTextOrder, ItemsAreNumbered}
use Rattle.civl_tree.proofs.Lists.{get_front}

-- ---- the text

spelled_both : (xs ys : List Item) → joined (map spell_item (xs ++ ys)) ≡ joined (map spell_item xs) ++ joined (map spell_item ys)
spelled_both [] ys = refl
spelled_both (x ∷ xs) ys = ap (λ (l : List Token). spell_item x ++ l) (spelled_both xs ys) ∙ sym (append_assoc (spell_item x) (joined (map spell_item xs)) (joined (map spell_item ys)))

-- declarations of one kind
spelled_kind : {X : Type 0} (kind : X → Item) (xs : List X) → joined (map spell_item (map kind xs)) ≡ joined (map (λ x. spell_item (kind x)) xs)
spelled_kind kind [] = refl
spelled_kind kind (x ∷ xs) = ap (λ (l : List Token). spell_item (kind x) ++ l) (spelled_kind kind xs)

spelled_more : {X : Type 0} (kind : X → Item) (xs : List X) (rest : List Item) → joined (map spell_item (map kind xs ++ rest)) ≡ joined (map (λ x. spell_item (kind x)) xs) ++ joined (map spell_item rest)
spelled_more kind xs rest = spelled_both (map kind xs) rest ∙ ap (λ (l : List Token). l ++ joined (map spell_item rest)) (spelled_kind kind xs)

pub items_are_in_text_order : ItemsAreInTextOrder
items_are_in_text_order p =
    let threads = map OfThread p.threads in
    let procs = map OfProc p.procs ++ threads in
    let actions = map OfAction p.actions ++ procs in
    let invariants = map OfInvariant p.invariants ++ actions in
    let spelled_procs = spelled_more OfProc p.procs threads ∙ ap (λ (l : List Token). joined (map spell_proc p.procs) ++ l) (spelled_kind OfThread p.threads) in
    let spelled_actions = spelled_more OfAction p.actions procs ∙ ap (λ (l : List Token). joined (map spell_action p.actions) ++ l) spelled_procs in
    let spelled_invariants = spelled_more OfInvariant p.invariants actions ∙ ap (λ (l : List Token). joined (map spell_invariant p.invariants) ++ l) spelled_actions in
    let spelled = spelled_more OfGlobal p.globals (OfInit p.init ∷ invariants) ∙ ap (λ (l : List Token). joined (map spell_global p.globals) ++ (spell_init p.init ++ l)) spelled_invariants in
    ap (λ (l : List Token). spell_header p ++ l) (sym spelled)

-- ---- the numbers

behind : {X : Type 0} (xs ys : List X) (place n : ℕ) (y : X) → slice_get ys place ≡ Some y → length xs + place ≡ n → slice_get (xs ++ ys) n ≡ Some y
behind [] ys place n y h e = let same : place ≡ n = omega (arith, e) in subst (λ (k : ℕ). slice_get ys k ≡ Some y) same h
behind (x ∷ xs) ys place zero y h e = absurd (omega (arith, e))
behind (x ∷ xs) ys place (suc n) y h e = behind xs ys place n y h (omega (arith, e))

of_kind : {X : Type 0} (kind : X → Item) (xs : List X) (n : ℕ) (x : X) → slice_get xs n ≡ Some x → slice_get (map kind xs) n ≡ Some (kind x)
of_kind kind xs n x h = slice_get-map kind xs n ∙ ap (option_map kind) h

-- behind all declarations of one kind
past : {X : Type 0} (kind : X → Item) (xs : List X) (rest : List Item) (place n : ℕ) (item : Item) → slice_get rest place ≡ Some item → length xs + place ≡ n → slice_get (map kind xs ++ rest) n ≡ Some item
past kind xs rest place n item h e = behind (map kind xs) rest place n item h (omega (arith, length-map xs kind, e))

joined_length : {X : Type 0} (kind : X → Item) (xs : List X) (rest : List Item) → length (map kind xs ++ rest) ≡ length xs + length rest
joined_length kind xs rest = length-append (map kind xs) rest ∙ omega (arith, length-map xs kind)

pub items_are_numbered : ItemsAreNumbered
items_are_numbered p place =
    let threads = map OfThread p.threads in
    let procs = map OfProc p.procs ++ threads in
    let actions = map OfAction p.actions ++ procs in
    let invariants = map OfInvariant p.invariants ++ actions in
    let init = OfInit p.init ∷ invariants in
    let g = length p.globals in
    let i = length p.invariants in
    let a = length p.actions in
    let r = length p.procs in (
      λ x h. get_front (map OfGlobal p.globals) init place (OfGlobal x) (of_kind OfGlobal p.globals place x h),
      past OfGlobal p.globals init 0 g (OfInit p.init) refl (omega arith),
      λ x h. past OfGlobal p.globals init (suc place) (g + 1 + place) (OfInvariant x) (get_front (map OfInvariant p.invariants) actions place (OfInvariant x) (of_kind OfInvariant p.invariants place x h)) (omega arith),
      λ x h. past OfGlobal p.globals init (suc (i + place)) (g + 1 + i + place) (OfAction x)
          (past OfInvariant p.invariants actions place (i + place) (OfAction x) (get_front (map OfAction p.actions) procs place (OfAction x) (of_kind OfAction p.actions place x h)) refl) (omega arith),
      λ x h. past OfGlobal p.globals init (suc (i + (a + place))) (g + 1 + i + a + place) (OfProc x)
          (past OfInvariant p.invariants actions (a + place) (i + (a + place)) (OfProc x)
          (past OfAction p.actions procs place (a + place) (OfProc x) (get_front (map OfProc p.procs) threads place (OfProc x) (of_kind OfProc p.procs place x h)) refl) refl) (omega arith),
      λ x h. past OfGlobal p.globals init (suc (i + (a + (r + place)))) (g + 1 + i + a + r + place) (OfThread x)
          (past OfInvariant p.invariants actions (a + (r + place)) (i + (a + (r + place))) (OfThread x)
          (past OfAction p.actions procs (r + place) (a + (r + place)) (OfThread x)
          (past OfProc p.procs threads place (r + place) (OfThread x) (of_kind OfThread p.threads place x h) refl) refl) refl) (omega arith),
      joined_length OfGlobal p.globals init ∙ omega (arith, joined_length OfInvariant p.invariants actions, joined_length OfAction p.actions procs, joined_length OfProc p.procs threads, length-map p.threads OfThread),
    )
