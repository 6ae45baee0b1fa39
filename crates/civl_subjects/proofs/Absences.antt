-- What is told under E33 is an action that doesn't exist where it is needed.
use Rattle.std.proofs.Common.{◌≡◌, inl, inr, ℕ, Bool, true, false, Option, None, Some, refl}
use Rattle.std.specs.Prelude.{if◌then◌else◌}
use Rattle.std.specs.Option.{option_map}
use Rattle.std.proofs.lemmas.Option.{none-some}
use Rattle.civl_tree.specs.declared.name.Name.{Name}
use Rattle.civl_tree.specs.declared.stmt.Stmt.{out-Stmt}
use Rattle.civl_tree.specs.declared.program.Program.{Program}
use Rattle.civl_tree.specs.Numbering.{statement_at}
use Rattle.civl_layers.specs.NotThere.{refines_missing, stmt_missing, thread_missing}
use Rattle.civl_yields.specs.Movers.{refined_action}
use Rattle.civl_subjects.specs.declared.code.Code.TheVariants.{E33}
use Rattle.civl_subjects.specs.Subjects.{Subject, OfName}
use Rattle.civl_subjects.specs.Parts.{Part, GlobalPart, InitPart, InvariantPart, ActionPart, ProcPart, ThreadPart}
use Rattle.civl_subjects.specs.Layers.{name_of_action, refines_absent, form_absent, stmt_absent, run_absent, thread_absent}
use Rattle.civl_subjects.specs.Told.{in_part, in_statement}
use Rattle.civl_subjects.specs.Laws.{AbsentIn, AbsentIsTold}
use Rattle.civl_subjects.proofs.Choosing.{or_some, and_some}
use Rattle.civl_subjects.proofs.Telling.{Names, of_option, tells}

-- what is there under a test
under : (b : Bool) (found : Option Name) (name : Name) → (if b then found else None) ≡ Some name → (b ≡ true) × (found ≡ Some name)
under true found name h = (refl, h)
under false found name h = absurd (none-some name h)

absent_here : (program : Program) (number : ℕ) (part : Part) (told : Subject) → in_part E33 program number part ≡ Some told
    → Names (AbsentIn program number part) told
absent_here program number (GlobalPart place global) told h = absurd (none-some told h)
absent_here program number InitPart told h = absurd (none-some told h)
absent_here program number (InvariantPart place invariant) told h = absurd (none-some told h)
absent_here program number (ActionPart place action) told h = absurd (none-some told h)
absent_here program number (ProcPart place proc) told h =
    let Whole = AbsentIn program number (ProcPart place proc) in
    elim (or_some (option_map OfName (refines_absent program proc.refines)) _ told h) [
      | inl e ↦ of_option Whole (refines_absent program proc.refines) told e
          (λ name e. inl (under (refines_missing program proc.refines) (name_of_action (refined_action program proc.refines)) name e))
      | inr e ↦
          let found = and_some (in_statement E33 program proc number) (statement_at proc.body number) told e in
          of_option Whole (stmt_absent program proc found.0) told found.2 (λ name e.
          let s = under (stmt_missing program proc found.0) (form_absent program (out-Stmt found.0)) name e in
          inr (found.0, found.1, s.0, s.1))
    ]
absent_here program number (ThreadPart place thread) told h =
    of_option (AbsentIn program number (ThreadPart place thread)) (thread_absent program thread) told h
    (λ name e. under (thread_missing program thread) (run_absent program thread) name e)

pub absent_is_told : AbsentIsTold
absent_is_told program refusal told code h =
    tells 33 E33 AbsentIn program refusal told code refl (λ t e. absurd (none-some t e)) (absent_here program refusal.statement) h
