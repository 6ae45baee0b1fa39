-- What is told under E10 is a name that stands for two things.
use Rattle.std.proofs.Common.{◌≡◌, inl, inr, ℕ, true, List, [], ◌∷◌, ◌++◌, append_assoc, append-nil, Some, refl, sym, ap, subst, take}
use Rattle.std.specs.Option.{option_map}
use Rattle.std.proofs.lemmas.Option.{none-some}
use Rattle.civl_tree.specs.declared.name.Name.{Name}
use Rattle.civl_tree.specs.declared.stmt.Stmt.{Stmt, out-Stmt}
use Rattle.civl_tree.specs.declared.stmt.Stmt.TheOpen.{Stmt-F, Call}
use Rattle.civl_tree.specs.declared.program.Program.{Program}
use Rattle.civl_tree.specs.Numbering.{statement_at}
use Rattle.civl_tree.specs.rules.Names.{has_name, global_names, action_names, proc_names, names_in_action, names_in_proc, targets_of}
use Rattle.civl_subjects.specs.declared.code.Code.TheVariants.{E10}
use Rattle.civl_subjects.specs.Subjects.{Subject, OfName}
use Rattle.civl_subjects.specs.Parts.{Part, GlobalPart, InitPart, InvariantPart, ActionPart, ProcPart, ThreadPart}
use Rattle.civl_subjects.specs.Twice.{first_again, name_again, global_again, action_again, proc_again, form_again, stmt_again}
use Rattle.civl_subjects.specs.Told.{in_part, in_statement}
use Rattle.civl_subjects.specs.Laws.{StandsAgain, AgainInForm, AgainIn, AgainIsTold}
use Rattle.civl_subjects.proofs.Choosing.{or_some, and_some, if_some, if_only}
use Rattle.civl_subjects.proofs.Telling.{Names, of_option, tells}

-- behind one more of the earlier ones
behind : (earlier names : List Name) (first name : Name) → StandsAgain (earlier ++ first ∷ []) names name
    → StandsAgain earlier (first ∷ names) name
behind earlier names first name s = record {
  front = first ∷ s.front;
  rest = s.rest;
  names_are = ap (λ (l : List Name). first ∷ l) s.names_are;
  again = subst (λ (l : List Name). has_name l name ≡ true) (append_assoc earlier (first ∷ []) s.front) s.again;
}

stands_again : (earlier names : List Name) (name : Name) → first_again earlier names ≡ Some name → StandsAgain earlier names name
stands_again earlier [] name h = absurd (none-some name h)
stands_again earlier (first ∷ names) name h =
    elim (if_some (has_name earlier first) first name (first_again (earlier ++ first ∷ []) names) h) [
      | inl here ↦
          let same : first ≡ name = here.1 in
          record {
            front = [];
            rest = names;
            names_are = ap (λ (n : Name). n ∷ names) same;
            again =
                subst (λ (l : List Name). has_name l name ≡ true) (sym (append-nil earlier)) (subst (λ (n : Name). has_name earlier n
                ≡ true) same here.0);
          }
      | inr there ↦ behind earlier names first name (stands_again (earlier ++ first ∷ []) names name there)
    ]

in_form : (layer : Stmt-F Stmt) (name : Name) → form_again layer ≡ Some name → AgainInForm layer name
in_form (Call callee args results) name h = stands_again [] results name h
in_form _ name h = absurd (none-some name h)

named_again : (earlier : List Name) (own name : Name) → name_again earlier own ≡ Some name → (own ≡ name) × (has_name earlier own ≡ true)
named_again earlier own name h = let s = if_only (has_name earlier own) own name h in (s.1, s.0)

again_here : (program : Program) (number : ℕ) (part : Part) (told : Subject) → in_part E10 program number part ≡ Some told
    → Names (AgainIn program number part) told
again_here program number (GlobalPart place global) told h =
    of_option (AgainIn program number (GlobalPart place global)) (global_again program place global) told h
    (λ name e. named_again (global_names (take place program.globals)) global.name name e)
again_here program number InitPart told h = absurd (none-some told h)
again_here program number (InvariantPart place invariant) told h = absurd (none-some told h)
again_here program number (ActionPart place action) told h =
    of_option (AgainIn program number (ActionPart place action)) (action_again program place action) told h (λ name e.
    elim (or_some (name_again (global_names program.globals ++ action_names (take place program.actions)) action.name) _ name e) [
      | inl e ↦ inl (named_again (global_names program.globals ++ action_names (take place program.actions)) action.name name e)
      | inr e ↦ inr (elim (or_some (first_again (global_names program.globals) (names_in_action action)) (first_again [] (targets_of action)) name e) [
        | inl e ↦ inl (stands_again (global_names program.globals) (names_in_action action) name e)
        | inr e ↦ inr (stands_again [] (targets_of action) name e)
      ])
    ])
again_here program number (ProcPart place proc) told h =
    let earlier = global_names program.globals ++ (action_names program.actions ++ proc_names (take place program.procs)) in
    let Whole = AgainIn program number (ProcPart place proc) in
    elim (or_some (option_map OfName (proc_again program place proc)) _ told h) [
      | inl e ↦ of_option Whole (proc_again program place proc) told e (λ name e.
          elim (or_some (name_again earlier proc.name) (first_again (global_names program.globals) (names_in_proc proc)) name e) [
            | inl e ↦ inl (inl (named_again earlier proc.name name e))
            | inr e ↦ inl (inr (stands_again (global_names program.globals) (names_in_proc proc) name e))
          ])
      | inr e ↦
          let found = and_some (in_statement E10 program proc number) (statement_at proc.body number) told e in
          of_option Whole (stmt_again found.0) told found.2 (λ name e. inr (found.0, found.1, in_form (out-Stmt found.0) name e))
    ]
again_here program number (ThreadPart place thread) told h = absurd (none-some told h)

pub again_is_told : AgainIsTold
again_is_told program refusal told code h =
    tells 10 E10 AgainIn program refusal told code refl (λ t e. absurd (none-some t e)) (again_here program refusal.statement) h
