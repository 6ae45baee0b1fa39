-- Outlines are read as they are spelled.
use Rattle.std.proofs.Common.{◌≡◌, ℕ, Bool, true, false, List, [], ◌∷◌, ◌++◌, map, Some, refl, sym, ap, append-nil}
use Rattle.std.specs.Prelude.{codes, ◌==◌, IsTrue}
use Rattle.std.specs.List.{AllByRecursion, list_all}
use Rattle.std.proofs.lemmas.Bool.{and_from}
use Rattle.civl_tree.specs.Token.{Token, Reserved}
use Rattle.civl_tree.specs.Spelling.{semicolon, joined}
use Rattle.civl_tree.specs.SpellingDomain.{allows_expr, allows_program, HasSpelling}
use Rattle.civl_tree.specs.declared.program.Program.{Program}
use Rattle.civl_phrases.specs.Reader.{begins}
use Rattle.civl_phrases.specs.Phrase.{Any, AtEnd, IsReader, Heads}
use Rattle.civl_phrases.proofs.Joins.{both_is, mapped_is}
use Rattle.civl_phrases.proofs.Tokens.{after_is, then_is, ended_is}
use Rattle.civl_phrases.proofs.Lists.{repeated_is}
use Rattle.civl_phrases.proofs.Heads.{heads_after, heads_repeated, heads_end}
use Rattle.civl_phrases.proofs.Tables.{and_parts}
use Rattle.civl_phrases.proofs.Leaves.{number_is}
use Rattle.civl_expressions.specs.readers.Exprs.{FitsExpr}
use Rattle.civl_expressions.proofs.Lists.{all_from, all_to}
use Rattle.civl_expressions.proofs.OfExprs.{expr_is}
use Rattle.civl_declarations.specs.readers.Actions.{action_word}
use Rattle.civl_declarations.specs.readers.Declarations.{invariant_word, thread_word}
use Rattle.civl_statements.specs.readers.Procs.{proc_word}
use Rattle.civl_parser.proofs.OfPrograms.{BeginsNone, program_then_is}
use Rattle.civl_outlines.specs.declared.outline.Note.{Note}
use Rattle.civl_outlines.specs.declared.outline.Outline.{Outline}
use Rattle.civl_outlines.specs.declared.reading.Saying.{Saying}
use Rattle.civl_outlines.specs.SpellingOutline.{spell_hold, spell_note, spell_outline, OutlineHasSpelling}
use Rattle.civl_outlines.specs.inner.readers.Outlines.{hold_word, hold_at, note_word, make_note, note_at, make_saying, saying_at, make_outline, outline_text_at}

-- ---- holds and notes

hold_is : (new : Bool) (d : ℕ) → IsReader d d Any spell_hold (FitsExpr new) (hold_at new d)
unfolding hold_at
hold_is new d = after_is d hold_word refl refl (then_is d semicolon refl refl (expr_is new d))

abbrev FitsNote : Bool → Note → Type 0
FitsNote new note = IsTrue (allows_expr new note.expr)

note_is : (new : Bool) (d : ℕ) → IsReader d d Any spell_note (FitsNote new) (note_at new d)
unfolding note_at
note_is new d = mapped_is make_note spell_note (FitsNote new) (λ p h. refl) (λ p h. h.1.1) (λ note h. ((note.item, (note.statement, note.expr)), refl, (tt, (tt, h))))
    (after_is d note_word refl refl (both_is (number_is d) (λ _. both_is (number_is d) (λ _. then_is d semicolon refl refl (expr_is new d)))))

-- ---- what stands behind the program

abbrev saying_spell : Saying → List Token
saying_spell s = Reserved (codes "schedule") ∷ (joined (map spell_hold s.holds) ++ joined (map spell_note s.notes))

abbrev SayingFits : Bool → Saying → Type 0
SayingFits new s = AllByRecursion (FitsExpr new) s.holds × AllByRecursion (FitsNote new) s.notes

holds_next : (new : Bool) → Heads Any spell_hold (FitsExpr new) (begins hold_word) true
holds_next new = record { next = λ e rest fits ends. refl }

notes_next : (new : Bool) (t : Token) (b : Bool) → begins t (Some note_word) ≡ b → Heads Any spell_note (FitsNote new) (begins t) b
notes_next new t b e = record { next = λ note rest fits ends. e }

saying_is : (new : Bool) (d : ℕ) → IsReader d d AtEnd saying_spell (SayingFits new) (saying_at new d)
unfolding saying_at
saying_is new d = mapped_is {f = λ p. AllByRecursion (FitsExpr new) p.0 × (AllByRecursion (FitsNote new) p.1.0 × Unit {0})} make_saying saying_spell (SayingFits new)
    (λ p h. ap (λ w. Reserved (codes "schedule") ∷ (joined (map spell_hold p.0) ++ w)) (sym (append-nil (joined (map spell_note p.1.0))))) (λ p h. (h.0, h.1.0)) (λ s h. ((s.holds, (s.notes, tt)), refl, (h.0, (h.1, tt))))
    (after_is d (Reserved (codes "schedule")) refl refl
    (repeated_is {s2 = λ p. joined (map spell_note p.0) ++ []} {f2 = λ p. AllByRecursion (FitsNote new) p.0 × Unit {0}} (begins hold_word) refl (holds_next new)
    (heads_repeated {s2 = λ (u : Unit {0}). []} {f2 = λ _. Unit {0}} (begins hold_word) false (notes_next new hold_word false refl) (heads_end (begins hold_word) false refl)) (hold_is new d)
    (repeated_is {s2 = λ (u : Unit {0}). []} {f2 = λ _. Unit {0}} (begins note_word) refl (notes_next new note_word true refl) (heads_end (begins note_word) false refl) (note_is new d) (ended_is d))))

saying_behind : (new : Bool) → BeginsNone AtEnd saying_spell (SayingFits new)
saying_behind new = record {
  no_invariant = heads_after (Reserved (codes "schedule")) (begins invariant_word) false refl;
  no_action = heads_after (Reserved (codes "schedule")) (begins action_word) false refl;
  no_proc = heads_after (Reserved (codes "schedule")) (begins proc_word) false refl;
  no_thread = heads_after (Reserved (codes "schedule")) (begins thread_word) false refl;
}

-- ---- outlines

outline_to : (p : Program) (s : Saying) → HasSpelling p → SayingFits (p.version == 2) s → OutlineHasSpelling (make_outline (p, s))
outline_to p s f g =
    let new = p.version == 2 in
    and_from (allows_program p) _ f (and_from (list_all (allows_expr new) s.holds) _ (all_from (allows_expr new) s.holds g.0) (all_from (λ (note : Note). allows_expr new note.expr) s.notes g.1))

outline_from : (o : Outline) → OutlineHasSpelling o → (v : Program × Saying) × (make_outline v ≡ o) × (HasSpelling v.0 × SayingFits (v.0.version == 2) v.1)
outline_from o h =
    let new = o.program.version == 2 in
    let k = and_parts (allows_program o.program) _ h in
    let m = and_parts (list_all (allows_expr new) o.holds) (list_all (λ (note : Note). allows_expr new note.expr) o.notes) k.1 in
    ((o.program, record { holds = o.holds; notes = o.notes }), refl, (k.0, (all_to (allows_expr new) o.holds m.0, all_to (λ (note : Note). allows_expr new note.expr) o.notes m.1)))

pub outline_text_is : (d : ℕ) → IsReader d d AtEnd spell_outline OutlineHasSpelling (outline_text_at d)
unfolding outline_text_at
outline_text_is d = mapped_is make_outline spell_outline OutlineHasSpelling (λ v h. refl) (λ v h. outline_to v.0 v.1 h.0 h.1) (λ o h. outline_from o h)
    (program_then_is AtEnd saying_spell SayingFits (λ new. saying_at new d) d (λ new. saying_is new d) saying_behind)
