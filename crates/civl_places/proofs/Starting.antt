-- Where procedures and their statements begin.
use Rattle.std.proofs.Common.{◌≡◌, ℕ, zero, suc, ◌+◌, ◌<◌, ◌≤◌, inl, inr, List, [], ◌∷◌, ◌++◌, map, length, take, Option, None, Some, length-append, refl, sym, ap, ◌∙◌, arith}
use Rattle.std.specs.Prelude.{slice_get, option_and_then}
use Rattle.std.specs.Option.{option_map}
use Rattle.std.proofs.lemmas.Bool.{cases_lt}
use Rattle.std.proofs.lemmas.Option.{slice_get_past, slice_get-map}
use Rattle.std.proofs.lemmas.List.{length-map, take-map}
use Rattle.civl_tree.specs.declared.program.Proc.{Proc}
use Rattle.civl_tree.specs.declared.program.Program.{Program}
use Rattle.civl_tree.specs.Token.{Token}
use Rattle.civl_tree.specs.Spelling.{joined}
use Rattle.civl_tree.specs.SpellingStmt.{spell_stmt}
use Rattle.civl_tree.specs.SpellingProgram.{spell_init, spell_proc, spell_program}
use Rattle.civl_tree.specs.SpellingLaws.{spell_item}
use Rattle.civl_tree.specs.Numbering.{Item, OfGlobal, OfInit, OfInvariant, OfAction, OfProc, OfThread, proc_item}
use Rattle.civl_places.specs.declared.walk.Walk.{Walk}
use Rattle.civl_places.specs.declared.walk.Walk.TheVariants.{Found, Left}
use Rattle.civl_places.specs.Starts.{item_start, starts_of, spell_head, proc_starts, statement_start}
use Rattle.civl_places.specs.inner.Walked.{walked, starts_each}
use Rattle.civl_places.specs.inner.Kinds.{procs_at, program_end}
use Rattle.civl_places.proofs.Counts.{counts}
use Rattle.civl_places.proofs.Itemized.{walked_each, walked_past}

-- ---- in a procedure

get_found : (xs ys : List ℕ) (n t : ℕ) → walked xs n ≡ Found t → slice_get (xs ++ ys) n ≡ Some t
get_found [] ys n t h = absurd (let none = h in cc)
get_found (x ∷ xs) ys zero t h = let same : x ≡ t = cc in ap (λ (k : ℕ). Some k) same
get_found (x ∷ xs) ys (suc n) t h = get_found xs ys n t h

get_left : (xs ys : List ℕ) (n k : ℕ) → walked xs n ≡ Left k → slice_get (xs ++ ys) n ≡ slice_get ys k
get_left [] ys n k h = let same : n ≡ k = cc in ap (λ (m : ℕ). slice_get ys m) same
get_left (x ∷ xs) ys zero k h = absurd (let none = h in cc)
get_left (x ∷ xs) ys (suc n) k h = get_left xs ys n k h

module _ (at head : ℕ) (proc : Proc) (n : ℕ) (w : Walk) (headed : head ≡ length (spell_head proc)) (known : w ≡ walked (starts_of (at + head) proc.body) n) where
  walk_is : walked (starts_of (at + length (spell_head proc)) proc.body) n ≡ w
  walk_is = ap (λ (h : ℕ). walked (starts_of (at + h) proc.body) n) (sym headed) ∙ sym known

  pub found_in : (t : ℕ) → w ≡ Found t → Some t ≡ slice_get (proc_starts at proc) n
  found_in t is = sym (get_found (starts_of (at + length (spell_head proc)) proc.body) _ n t (walk_is ∙ is))

  pub exit_in : (k size : ℕ) → w ≡ Left k → k ≡ 0 → size ≡ length (joined (map spell_stmt proc.body)) → Some (at + head + size) ≡ slice_get (proc_starts at proc) n
  exit_in k size is none sized =
      let last = get_left (starts_of (at + length (spell_head proc)) proc.body) ((at + length (spell_head proc) + length (joined (map spell_stmt proc.body))) ∷ []) n k (walk_is ∙ is) in
      let there : at + head + size ≡ at + length (spell_head proc) + length (joined (map spell_stmt proc.body)) = omega arith in
      ap (λ (m : ℕ). Some m) there
      ∙ ap (λ (m : ℕ). slice_get ((at + length (spell_head proc) + length (joined (map spell_stmt proc.body))) ∷ []) m) (sym none) ∙ sym last

  past_one : (x k : ℕ) → (k ≡ 0 → ⊥) → None ≡ slice_get (x ∷ []) k
  past_one x zero some = absurd (some refl)
  past_one x (suc k) some = refl

  pub none_in : (k : ℕ) → w ≡ Left k → (k ≡ 0 → ⊥) → None ≡ slice_get (proc_starts at proc) n
  none_in k is some =
      past_one _ k some ∙ sym (get_left (starts_of (at + length (spell_head proc)) proc.body) _ n k (walk_is ∙ is))

-- ---- where procedures begin

-- the tokens of the items before one that stands behind all of a kind
pub past_kind : {X : Type 0} (kind : X → Item) (xs : List X) (rest : List Item) (k n : ℕ) → length xs + k ≡ n
    → length (joined (map spell_item (take n (map kind xs ++ rest)))) ≡ length (joined (map (λ x. spell_item (kind x)) xs)) + length (joined (map spell_item (take k rest)))
past_kind kind [] rest k n e = let same : n ≡ k = omega arith in rw same (omega arith)
past_kind kind (x ∷ xs) rest k zero e = absurd (omega arith)
past_kind kind (x ∷ xs) rest k (suc n) e =
    omega (
      arith,
      past_kind kind xs rest k n (omega arith),
      length-append (spell_item (kind x)) (joined (map spell_item (take n (map kind xs ++ rest)))),
      length-append (spell_item (kind x)) (joined (map (λ x. spell_item (kind x)) xs)),
    )

pub within_kind : {X : Type 0} (kind : X → Item) (xs : List X) (rest : List Item) (n : ℕ) → n ≤ length xs
    → length (joined (map spell_item (take n (map kind xs ++ rest)))) ≡ length (joined (map (λ x. spell_item (kind x)) (take n xs)))
within_kind kind xs rest zero h = refl
within_kind kind [] rest (suc n) h = absurd (omega arith)
within_kind kind (x ∷ xs) rest (suc n) h =
    omega (
      arith,
      within_kind kind xs rest n (omega arith),
      length-append (spell_item (kind x)) (joined (map spell_item (take n (map kind xs ++ rest)))),
      length-append (spell_item (kind x)) (joined (map (λ x. spell_item (kind x)) (take n xs))),
    )

pub proc_start : (p : Program) (place : ℕ) → place ≤ length p.procs → item_start p (proc_item p place) ≡ procs_at p + length (joined (map spell_proc (take place p.procs)))
proc_start p place inside =
    let g = length p.globals in
    let i = length p.invariants in
    let a = length p.actions in
    let threads = map OfThread p.threads in
    let procs = map OfProc p.procs ++ threads in
    let actions = map OfAction p.actions ++ procs in
    let invariants = map OfInvariant p.invariants ++ actions in
    let one : g + suc (i + (a + place)) ≡ proc_item p place = omega arith in
    omega (
      arith,
      past_kind OfGlobal p.globals (OfInit p.init ∷ invariants) (suc (i + (a + place))) (proc_item p place) one,
      length-append (spell_init p.init) (joined (map spell_item (take (i + (a + place)) invariants))),
      past_kind OfInvariant p.invariants actions (a + place) (i + (a + place)) refl,
      past_kind OfAction p.actions procs place (a + place) refl,
      within_kind OfProc p.procs threads place inside,
    )

joined_part : (xs : List (List Token)) (k : ℕ) (x : List Token) → slice_get xs k ≡ Some x → length (joined (take k xs)) + length x ≤ length (joined xs)
joined_part [] k x h = absurd (let none = h in cc)
joined_part (y ∷ xs) zero x h = let same : y ≡ x = cc in rw same (omega (arith, length-append x (joined xs)))
joined_part (y ∷ xs) (suc k) x h = omega (arith, joined_part xs k x h, length-append y (joined (take k xs)), length-append y (joined xs))

-- what is known of a procedure at its place, and of the token at which it begins
pub record IsPlaced (p : Program) (place start : ℕ) : Type 0 where
  pub there : place < length p.procs
  pub starts : start ≡ item_start p (proc_item p place)
  pub fits : (proc : Proc) → slice_get p.procs place ≡ Some proc → start + length (spell_proc proc) ≤ program_end p

pub proc_found : (p : Program) (place start first : ℕ) (procs : List Proc) (w : Walk) → procs ≡ p.procs → first ≡ procs_at p
    → w ≡ walked (starts_each first (map spell_proc procs)) place → w ≡ Found start → IsPlaced p place start
proc_found p place start first procs w same at known is =
    let walk : walked (starts_each (procs_at p) (map spell_proc p.procs)) place ≡ Found start
    = ap (λ (n : ℕ). walked (starts_each n (map spell_proc p.procs)) place) (sym at) ∙ ap (λ (l : List Proc). walked (starts_each first (map spell_proc l)) place) (sym same) ∙ sym known ∙ is in
    elim (cases_lt place (length p.procs)) [
      | inl less ↦
          let there = walked_each (procs_at p) (map spell_proc p.procs) place (omega (arith, length-map p.procs spell_proc)) in
          let begins : start ≡ procs_at p + length (joined (take place (map spell_proc p.procs))) = cc in record {
            there = less;
            starts = begins ∙ rw (take-map spell_proc place p.procs) (sym (proc_start p place (omega arith)));
            fits = λ proc found. omega (arith, joined_part (map spell_proc p.procs) place (spell_proc proc) (slice_get-map spell_proc p.procs place ∙ ap (option_map spell_proc) found));
          }
      | inr past ↦ absurd (let none = walked_past (procs_at p) (map spell_proc p.procs) place (omega (arith, length-map p.procs spell_proc)) in cc)
    ]

pub proc_wanting : (p : Program) (place first left n : ℕ) (procs : List Proc) (w : Walk) → procs ≡ p.procs → first ≡ procs_at p
    → w ≡ walked (starts_each first (map spell_proc procs)) place → w ≡ Left left → None ≡ statement_start p place n
proc_wanting p place first left n procs w same at known is =
    let walk : walked (starts_each (procs_at p) (map spell_proc p.procs)) place ≡ Left left
    = ap (λ (n : ℕ). walked (starts_each n (map spell_proc p.procs)) place) (sym at) ∙ ap (λ (l : List Proc). walked (starts_each first (map spell_proc l)) place) (sym same) ∙ sym known ∙ is in
    elim (cases_lt place (length p.procs)) [
      | inl less ↦ absurd (let there = walked_each (procs_at p) (map spell_proc p.procs) place (omega (arith, length-map p.procs spell_proc)) in cc)
      | inr past ↦ rw (slice_get_past p.procs place past) refl
    ]

pub start_is : (p : Program) (place start n : ℕ) (proc : Proc) (r : Option ℕ) → slice_get p.procs place ≡ Some proc → start ≡ item_start p (proc_item p place)
    → r ≡ slice_get (proc_starts start proc) n → r ≡ statement_start p place n
start_is p place start n proc r found begins known =
    known ∙ ap (λ (at : ℕ). slice_get (proc_starts at proc) n) begins
    ∙ sym (ap (λ (o : Option Proc). option_and_then (λ proc. slice_get (proc_starts (item_start p (proc_item p place)) proc) n) o) found)

pub program_length : (p : Program) → length (spell_program p) ≡ program_end p
program_length p = grind (arith, counts)
