-- The program, the entries and the moves in the spelling of a script.
use Rattle.std.proofs.Common.{◌≡◌, ℕ, ◌+◌, ◌-◌, ◌<◌, ◌≤◌, Bool, List, [], ◌∷◌, ◌++◌, map, length}
use Rattle.std.proofs.Common.{append-nil, append_assoc, refl, sym, ap, ◌∙◌, subst, arith}
use Rattle.std.specs.Prelude.{codes, if◌then◌else◌, slice_get}
use Rattle.std.proofs.lemmas.Bool.{lt-ltb, le-ltb}
use Rattle.std.proofs.lemmas.Option.{slice_get_within}
use Rattle.civl_tree.specs.declared.script.Script.{Script}
use Rattle.civl_tree.specs.Token.{Token, Reserved}
use Rattle.civl_tree.specs.Spelling.{joined}
use Rattle.civl_tree.specs.SpellingProgram.{spell_program}
use Rattle.civl_tree.specs.SpellingScript.{spell_entry, spell_script, spell_step}
use Rattle.civl_reasons.specs.Stands.{StandAt}
use Rattle.civl_goal_stories.proofs.Standing.{if_there, phrase_stands}
use Rattle.civl_refusals.specs.Scripts.{before_entries, before_steps, entry_start, part_start, step_start}
use Rattle.civl_refusals.specs.Laws.{EntriesStand, MovesStand}

pub with_entries : (s : Script)
    → spell_script s ≡ before_entries s ++ (joined (map spell_entry s.store) ++ joined (map spell_step s.moves))
with_entries s =
    sym (append_assoc (spell_program s.program) (Reserved (codes "schedule") ∷ [])
    (joined (map spell_entry s.store) ++ joined (map spell_step s.moves)))

pub with_steps : (s : Script) → spell_script s ≡ before_steps s ++ (joined (map spell_step s.moves) ++ [])
with_steps s =
    with_entries s ∙ sym (append_assoc (before_entries s) (joined (map spell_entry s.store)) (joined (map spell_step s.moves)))
    ∙ ap (λ (l : List Token). before_steps s ++ l) (sym (append-nil (joined (map spell_step s.moves))))

-- the place of a part, by what it is
abbrev start_by : Script → ℕ → Bool → ℕ
start_by s n b = if b then entry_start s n else step_start s (n - length s.store)

pub entry_there : (s : Script) (n : ℕ) → n < length s.store → part_start s n ≡ entry_start s n
entry_there s n less = ap (start_by s n) (lt-ltb n (length s.store) less)

pub step_there : (s : Script) (n : ℕ) → part_start s (length s.store + n) ≡ step_start s n
step_there s n =
    let past : length s.store ≤ length s.store + n = omega arith in
    let left : length s.store + n - length s.store ≡ n = omega arith in
    ap (start_by s (length s.store + n)) (le-ltb (length s.store + n) (length s.store) past) ∙ ap (step_start s) left

pub entries_stand : EntriesStand
entries_stand s n =
    if_there _ (slice_get s.store n) (λ entry found.
    subst (StandAt (spell_entry entry) (spell_script s)) (sym (entry_there s n (slice_get_within s.store n entry found)))
    (phrase_stands spell_entry (before_entries s) (joined (map spell_step s.moves)) (spell_script s) s.store n entry (with_entries s) found))

pub moves_stand : MovesStand
moves_stand s n =
    if_there _ (slice_get s.moves n) (λ step found.
    subst (StandAt (spell_step step) (spell_script s)) (sym (step_there s n))
    (phrase_stands spell_step (before_steps s) [] (spell_script s) s.moves n step (with_steps s) found))
