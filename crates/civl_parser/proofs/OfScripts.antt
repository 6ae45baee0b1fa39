-- Scripts are read as they are spelled.
use Rattle.std.proofs.Common.{◌≡◌, ℕ, Bool, true, false, List, [], ◌∷◌, ◌++◌, map, Option, Some, refl, sym, ap, append-nil}
use Rattle.std.specs.Prelude.{codes}
use Rattle.std.specs.List.{AllByRecursion, list_all}
use Rattle.std.proofs.lemmas.Bool.{and_from}
use Rattle.civl_tree.specs.Token.{Token, Reserved}
use Rattle.civl_tree.specs.Spelling.{joined}
use Rattle.civl_tree.specs.SpellingScript.{spell_entry, spell_step, spell_script}
use Rattle.civl_tree.specs.SpellingDomain.{allows_program, allows_entry, allows_told, HasSpelling, ScriptHasSpelling}
use Rattle.civl_tree.specs.declared.program.Program.{Program}
use Rattle.civl_tree.specs.declared.script.Script.{Script}
use Rattle.civl_phrases.specs.Reader.{begins}
use Rattle.civl_phrases.specs.Leaf.{is_named}
use Rattle.civl_phrases.specs.Phrase.{Any, AtEnd, IsReader, Heads}
use Rattle.civl_phrases.proofs.Joins.{mapped_is}
use Rattle.civl_phrases.proofs.Tokens.{after_is, ended_is}
use Rattle.civl_phrases.proofs.Lists.{repeated_is}
use Rattle.civl_phrases.proofs.Heads.{heads_after, heads_repeated, heads_end}
use Rattle.civl_phrases.proofs.Tables.{and_parts}
use Rattle.civl_parser.specs.declared.script.Schedule.{Schedule}
use Rattle.civl_declarations.specs.readers.Actions.{action_word}
use Rattle.civl_statements.specs.readers.Procs.{proc_word}
use Rattle.civl_declarations.specs.readers.Declarations.{invariant_word, thread_word}
use Rattle.civl_declarations.specs.readers.Steps.{move_word}
use Rattle.civl_parser.specs.inner.readers.Scripts.{make_schedule, schedule_at, make_script, script_text_at}
use Rattle.civl_expressions.proofs.Lists.{all_from, all_to}
use Rattle.civl_parser.proofs.OfPrograms.{BeginsNone, program_then_is}
use Rattle.civl_declarations.proofs.OfSteps.{FitsEntry, entry_is, FitsTold, step_is}

abbrev schedule_spell : Schedule → List Token
schedule_spell s = Reserved (codes "schedule") ∷ (joined (map spell_entry s.store) ++ joined (map spell_step s.moves))

abbrev ScheduleFits : Schedule → Type 0
ScheduleFits s = AllByRecursion FitsEntry s.store × AllByRecursion FitsTold s.moves

entries_next : Heads Any spell_entry FitsEntry is_named true
entries_next = record { next = λ e rest fits ends. refl }

steps_next : (test : Option Token → Bool) (b : Bool) → test (Some move_word) ≡ b → Heads Any spell_step FitsTold test b
steps_next test b e = record { next = λ s rest fits ends. e }

schedule_is : (d : ℕ) → IsReader d d AtEnd schedule_spell ScheduleFits (schedule_at d)
unfolding schedule_at
schedule_is d = mapped_is {f = λ p. AllByRecursion FitsEntry p.0 × (AllByRecursion FitsTold p.1.0 × Unit {0})} make_schedule schedule_spell ScheduleFits
    (λ p h. ap (λ w. Reserved (codes "schedule") ∷ (joined (map spell_entry p.0) ++ w)) (sym (append-nil (joined (map spell_step p.1.0))))) (λ p h. (h.0, h.1.0)) (λ s h. ((s.store, (s.moves, tt)), refl, (h.0, (h.1, tt))))
    (after_is d (Reserved (codes "schedule")) refl refl
    (repeated_is {s2 = λ p. joined (map spell_step p.0) ++ []} {f2 = λ p. AllByRecursion FitsTold p.0 × Unit {0}} is_named refl entries_next
    (heads_repeated {s2 = λ (u : Unit {0}). []} {f2 = λ _. Unit {0}} is_named false (steps_next is_named false refl) (heads_end is_named false refl)) (entry_is d)
    (repeated_is {s2 = λ (u : Unit {0}). []} {f2 = λ _. Unit {0}} (begins move_word) refl (steps_next (begins move_word) true refl) (heads_end (begins move_word) false refl) (step_is d) (ended_is d))))

schedule_behind : BeginsNone AtEnd schedule_spell ScheduleFits
schedule_behind = record {
  no_invariant = heads_after (Reserved (codes "schedule")) (begins invariant_word) false refl;
  no_action = heads_after (Reserved (codes "schedule")) (begins action_word) false refl;
  no_proc = heads_after (Reserved (codes "schedule")) (begins proc_word) false refl;
  no_thread = heads_after (Reserved (codes "schedule")) (begins thread_word) false refl;
}

script_to : (p : Program) (s : Schedule) → HasSpelling p → ScheduleFits s → ScriptHasSpelling (make_script (p, s))
script_to p s f g = and_from (allows_program p) _ f (and_from (list_all allows_entry s.store) _ (all_from allows_entry s.store g.0) (all_from allows_told s.moves g.1))

script_from : (s : Script) → ScriptHasSpelling s → (v : Program × Schedule) × (make_script v ≡ s) × (HasSpelling v.0 × ScheduleFits v.1)
script_from s h =
    let k = and_parts (allows_program s.program) _ h in
    let m = and_parts (list_all allows_entry s.store) (list_all allows_told s.moves) k.1 in
    ((s.program, record { store = s.store; moves = s.moves }), refl, (k.0, (all_to allows_entry s.store m.0, all_to allows_told s.moves m.1)))

pub script_text_is : (d : ℕ) → IsReader d d AtEnd spell_script ScriptHasSpelling (script_text_at d)
unfolding script_text_at
script_text_is d = mapped_is make_script spell_script ScriptHasSpelling (λ v h. refl) (λ v h. script_to v.0 v.1 h.0 h.1) (λ s h. script_from s h)
    (program_then_is AtEnd schedule_spell (λ _. ScheduleFits) (λ _. schedule_at d) d (λ _. schedule_is d) (λ _. schedule_behind))
