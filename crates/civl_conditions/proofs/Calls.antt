-- What a call means in the program of a layer, found by names; and the choices of calls, found by numbers.
use Rattle.std.proofs.Common.{◌≡◌, ℕ, Bool, true, false, List, [], ◌∷◌, ◌++◌, ◌-◌, ◌≤◌, length, map, flat_map, refl, sym, ap, ◌∙◌, append-nil, Option, None, Some}
use Rattle.std.specs.Prelude.{slice_get, nat_lt, if◌then◌else◌, option_map}
use Rattle.std.specs.Option.{option_map_or}
use Rattle.std.proofs.lemmas.Option.{slice_get-map, slice_get_past}
use Rattle.civl_tree.specs.declared.name.Name.{Name}
use Rattle.civl_tree.specs.declared.action.Action.{Action}
use Rattle.civl_tree.specs.declared.stmt.Stmt.{Stmt, out-Stmt}
use Rattle.civl_tree.specs.declared.program.Refines.{Refines}
use Rattle.civl_tree.specs.declared.program.Proc.{Proc}
use Rattle.civl_tree.specs.declared.program.Program.{Program}
use Rattle.civl_tree.specs.rules.Names.{action_named, proc_named}
use Rattle.civl_firing.proofs.Finding.{found_at}
use Rattle.civl_meaning.specs.Layers.{means_body, program_at}
use Rattle.civl_meaning.specs.Meaning.{Meaning, Does, Runs, Missing, meaning_of_action, meaning_by, meaning_of, meaning_else, proc_number, called}
use Rattle.civl_layers.specs.declared.cut.Cut.{Cut}
use Rattle.civl_conditions.specs.declared.paths.met.Met.{Met}
use Rattle.civl_conditions.specs.paths.Flows.{flow_from}
use Rattle.civl_conditions.specs.paths.Meets.{numbers_met}
use Rattle.civl_conditions.proofs.paths.Standing.{Stand, passed_stand}
use Rattle.civl_conditions.specs.paths.Choices.{action_meant}
use Rattle.civl_conditions.specs.declared.condition.Variable.{Variable}
use Rattle.civl_conditions.specs.Passed.{refined_at, choices_at}
use Rattle.civl_conditions.specs.Variables.{choices_of, layer_choices, passed_choices, of_passed}
use Rattle.civl_tree.specs.Numbering.{statements_of}

-- ---- what a call means

-- the action that is found, or what a procedure means
abbrev pub else_refined : Program → ℕ → Option Action → Option Proc → Option Action
else_refined program layer (Some action) proc = Some action
else_refined program layer None None = None
else_refined program layer None (Some proc) = refined_at program layer proc.refines

meant_of : (found : Option Action) → action_meant (meaning_of_action found) ≡ found
meant_of None = refl
meant_of (Some action) = refl

module _ (program : Program) (layer number : ℕ) where
  by_refined : (proc : Proc) (refines : Option Refines) → proc.refines ≡ refines → action_meant (meaning_by program (Some (means_body layer refines)) number (Some proc)) ≡ refined_at program layer refines
  by_refined proc None e = refl
  by_refined proc (Some r) e = by_test (nat_lt layer r.layer)
    where
      by_test : (test : Bool) → action_meant (meaning_by program (Some test) number (Some proc)) ≡ (if test then None else action_named program r.action)
      by_test true = refl
      by_test false = rw e (meant_of (action_named program r.action))

  by_proc : (found : Option Proc) → action_meant (meaning_by program (option_map (λ p. means_body layer p.refines) found) number found) ≡ else_refined program layer None found
  by_proc None = refl
  by_proc (Some proc) = by_refined proc proc.refines refl

module _ (program : Program) (layer : ℕ) (name : Name) where
  proc_meant : action_meant (meaning_of (program_at program layer) (proc_number program name)) ≡ else_refined program layer None (proc_named program name)
  proc_meant =
      ap (λ (body : Option Bool). action_meant (meaning_by program body (proc_number program name) (slice_get program.procs (proc_number program name)))) (slice_get-map (λ (p : Proc). means_body layer p.refines) program.procs (proc_number program name))
      ∙ by_proc program layer (proc_number program name) (slice_get program.procs (proc_number program name))
      ∙ ap (else_refined program layer None) (found_at (λ (p : Proc). p.name) program.procs name)

  pub meant_is : (found : Option Action) → action_meant (meaning_else (program_at program layer) name found) ≡ else_refined program layer found (proc_named program name)
  meant_is (Some action) = refl
  meant_is None = proc_meant

  pub called_is : (found : Option Action) (proc : Option Proc) → found ≡ action_named program name → proc ≡ proc_named program name → else_refined program layer found proc ≡ action_meant (called (program_at program layer) name)
  called_is found proc e f =
      ap (λ (a : Option Action). else_refined program layer a proc) e
      ∙ ap (else_refined program layer (action_named program name)) f
      ∙ sym (meant_is (action_named program name))

-- ---- choices

pub choices_meant : (m : Meaning) → choices_of m ≡ option_map_or (λ a. a.choices) (action_meant m) []
choices_meant (Does action) = refl
choices_meant (Runs number proc) = refl
choices_meant Missing = refl

-- by the numbers of statements that stand in a body
numbers_are : (program : Program) (layer : ℕ) (body : List Stmt) (qs : List (ℕ × Stmt)) → Stand body qs → flat_map (choices_at program layer (statements_of body)) (map (λ q. q.0) qs) ≡ of_passed (map (λ q. (q.0, layer_choices (program_at program layer) (out-Stmt q.1))) qs)
numbers_are program layer body [] h = refl
numbers_are program layer body (q ∷ qs) h =
    rw (h.0, numbers_are program layer body qs h.1) refl

-- where no statement has this number
pub none_at : {A : Type 0} (now : A → Stmt) (list : List Variable) (program : Program) (layer : ℕ) (flat : List A) (number : ℕ) → length flat ≤ number → list ≡ list ++ choices_at program layer (map now flat) number
none_at now list program layer flat number past = rw (slice_get-map now flat number, slice_get_past flat number past) (sym (append-nil list))

-- what is found by the numbers that are met is of the statements that are passed
pub passed_are : (list : List Variable) (program : Program) (step layer : ℕ) (proc : Proc) (cut : Cut) (numbers : List ℕ) (stmts : List Stmt) (met : Met) → layer ≡ step - 1 → numbers ≡ met.passed → met ≡ numbers_met (flow_from proc cut) → stmts ≡ statements_of proc.body
    → list ++ flat_map (choices_at program layer stmts) numbers ≡ list ++ of_passed (passed_choices program step proc cut)
passed_are list program step layer proc cut numbers stmts met e n m s =
    ap (λ (k : ℕ). list ++ flat_map (choices_at program k stmts) numbers) e
    ∙ ap (λ (ss : List Stmt). list ++ flat_map (choices_at program (step - 1) ss) numbers) s
    ∙ ap (λ (ns : List ℕ). list ++ flat_map (choices_at program (step - 1) (statements_of proc.body)) ns) (n ∙ ap (λ (t : Met). t.passed) m)
    ∙ ap (λ (vs : List Variable). list ++ vs) (numbers_are program (step - 1) proc.body (flow_from proc cut).passed (passed_stand proc cut))
