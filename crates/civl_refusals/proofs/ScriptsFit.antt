-- Entries and moves end within the spelling of their script.
use Rattle.std.proofs.Common.{◌≡◌, ℕ, ◌+◌, ◌-◌, ◌<◌, ◌≤◌, List, [], ◌∷◌, ◌++◌, map, length, take, drop, get_or, length-append, sym, ap, arith}
use Rattle.std.proofs.lemmas.Option.{get_or_from_slice_get, slice_get-get_or}
use Rattle.civl_tree.specs.declared.script.Entry.{Entry}
use Rattle.civl_tree.specs.declared.script.Script.{Script}
use Rattle.civl_tree.specs.Token.{Token}
use Rattle.civl_tree.specs.Spelling.{close_paren, joined, separated}
use Rattle.civl_tree.specs.SpellingScript.{spell_entry, spell_script, spell_step}
use Rattle.civl_places.proofs.Counts.{enclosed_length, joined_rest}
use Rattle.civl_places.proofs.Listing.{first_fit}
use Rattle.civl_refusals.specs.Scripts.{before_entries, before_steps, entry_start, step_start}
use Rattle.civl_refusals.proofs.ScriptsStand.{with_entries, with_steps}

-- a phrase that is read in its place, and those behind it
pub counted : {X : Type 0} (spell : X → List Token) (xs : List X) (i : ℕ) (d : X) (n : ℕ) → i < length xs
    → n ≡ length (spell (get_or xs i d))
    → length (joined (map spell (drop i xs))) ≡ n + length (joined (map spell (drop (i + 1) xs)))
counted spell xs i d n below is =
    let x = get_or xs i d in
    let here : x ≡ get_or xs i x = sym (get_or_from_slice_get xs i x x (slice_get-get_or xs i d below)) in
    omega (arith, joined_rest spell xs i x below here, is)

-- the first ones, and all
pub entries_fit : (s : Script) (n : ℕ)
    → entry_start s 0 + length (joined (map spell_entry (take n s.store))) ≤ length (spell_script s)
entries_fit s n =
    omega (
      arith,
      first_fit spell_entry s.store n,
      ap length (with_entries s),
      length-append (before_entries s) [],
      length-append (before_entries s) (joined (map spell_entry s.store) ++ joined (map spell_step s.moves)),
      length-append (joined (map spell_entry s.store)) (joined (map spell_step s.moves)),
    )

pub all_entries_fit : (s : Script) → entry_start s 0 + length (joined (map spell_entry s.store)) ≤ length (spell_script s)
all_entries_fit s =
    omega (
      arith,
      ap length (with_entries s),
      length-append (before_entries s) [],
      length-append (before_entries s) (joined (map spell_entry s.store) ++ joined (map spell_step s.moves)),
      length-append (joined (map spell_entry s.store)) (joined (map spell_step s.moves)),
    )

pub entry_behind : (s : Script) (n : ℕ) → entry_start s 0 + length (joined (map spell_entry (take n s.store))) ≡ entry_start s n
entry_behind s n =
    omega (arith, length-append (before_entries s) [], length-append (before_entries s) (joined (map spell_entry (take n s.store))))

pub steps_behind : (s : Script) → entry_start s 0 + length (joined (map spell_entry s.store)) ≡ step_start s 0
steps_behind s =
    omega (
      arith,
      length-append (before_entries s) [],
      length-append (before_entries s) (joined (map spell_entry s.store)),
      length-append (before_steps s) [],
    )

pub steps_fit : (s : Script) (n : ℕ)
    → step_start s 0 + length (joined (map spell_step (take n s.moves))) ≤ length (spell_script s)
steps_fit s n =
    omega (
      arith,
      first_fit spell_step s.moves n,
      ap length (with_steps s),
      length-append (before_steps s) [],
      length-append (before_steps s) (joined (map spell_step s.moves) ++ []),
      length-append (joined (map spell_step s.moves)) [],
    )

pub step_behind : (s : Script) (n : ℕ) → step_start s 0 + length (joined (map spell_step (take n s.moves))) ≡ step_start s n
step_behind s n =
    omega (arith, length-append (before_steps s) [], length-append (before_steps s) (joined (map spell_step (take n s.moves))))

-- a list in brackets: its phrases, the commas between them, and the brackets
pub bracketed_length : {X : Type 0} (spell : X → List Token) (open_sign close_sign : Token) (xs : List X)
    → length (open_sign ∷ separated spell xs ++ close_sign ∷ []) ≡ length (joined (map spell xs)) + (length xs - 1) + 2
bracketed_length spell open_sign close_sign xs =
    omega (
      arith,
      enclosed_length spell xs,
      length-append (separated spell xs) (close_sign ∷ []),
      length-append (separated spell xs) (close_paren ∷ []),
    )
