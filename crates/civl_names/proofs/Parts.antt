-- The first place at which E11 is broken, kind by kind.
use Rattle.std.proofs.Common.{◌≡◌, ℕ, Bool, List, [], ◌∷◌, ◌++◌, map, refl, sym, ap, ap₂, ◌∙◌}
use Rattle.std.specs.Prelude.{Option}
use Rattle.std.proofs.lemmas.List.{map-append}
use Rattle.civl_tree.specs.declared.program.Proc.{Proc}
use Rattle.civl_tree.specs.declared.program.Program.{Program}
use Rattle.civl_tree.specs.declared.refusal.Refusal.{Refusal}
use Rattle.civl_tree.specs.Numbering.{init_item, invariant_item, action_item, proc_item, thread_item, statements_of}
use Rattle.civl_tree.specs.rules.Codes.{E11}
use Rattle.civl_tree.specs.rules.Rules.{Rule, Place, item_place, statement_places, each_place, invariant_places, action_places, proc_places, thread_places, places_of, refusal_at, refusals_of, first_of}
use Rattle.civl_tree.specs.rules.Typing.{unknown_rule}
use Rattle.civl_tree.specs.rules.Unknown.{stmt_unknown}
use Rattle.std.specs.Option.{option_or}
use Rattle.civl_tree.specs.declared.name.Name.{Name}
use Rattle.civl_tree.specs.rules.Names.{global_names, action_names, proc_names}
use Rattle.civl_names.proofs.walks.Placing.{no_globals}
use Rattle.civl_names.specs.inner.Strange.{Declared, declared_by, inner_names, global_strange, stmt_strange, strange_rule, first_strange}
use Rattle.civl_names.proofs.Same.{numbers_same, each_same}
use Rattle.civl_names.proofs.Strangers.{init_is, invariant_is, action_is, refines_is, stmt_is, thread_is}

abbrev told : List Place → Option Refusal
told places = first_of (map (refusal_at E11) places)

first_or : {A : Type 0} (xs ys : List A) → first_of (xs ++ ys) ≡ option_or (first_of xs) (first_of ys)
first_or [] ys = refl
first_or (x ∷ xs) ys = refl

told_split : (xs ys : List Place) → told (xs ++ ys) ≡ option_or (told xs) (told ys)
told_split xs ys = ap first_of (map-append (refusal_at E11) xs ys) ∙ first_or (map (refusal_at E11) xs) (map (refusal_at E11) ys)

module _ (program : Program) where
  abbrev the_rule : Rule
  the_rule = strange_rule (declared_by program)

  invariants_are : each_place (invariant_places unknown_rule program) 0 program.invariants ≡ each_place (invariant_places the_rule program) 0 program.invariants
  invariants_are = each_same (invariant_places unknown_rule program) (invariant_places the_rule program) (λ place invariant. ap (item_place (invariant_item program place)) (invariant_is program invariant)) 0 program.invariants

  actions_are : each_place (action_places unknown_rule program) 0 program.actions ≡ each_place (action_places the_rule program) 0 program.actions
  actions_are = each_same (action_places unknown_rule program) (action_places the_rule program) (λ place action. ap (item_place (action_item program place)) (action_is program action)) 0 program.actions

  proc_are : (place : ℕ) (proc : Proc) → proc_places unknown_rule program place proc ≡ proc_places the_rule program place proc
  proc_are place proc =
      ap₂ (λ (b : Bool) (numbers : List ℕ). item_place (proc_item program place) b ++ statement_places (proc_item program place) numbers)
      (refines_is program proc proc.refines)
      (numbers_same (stmt_unknown program proc) (stmt_strange (inner_names (declared_by program) proc)) (stmt_is program proc) 0 (statements_of proc.body))

  procs_are : each_place (proc_places unknown_rule program) 0 program.procs ≡ each_place (proc_places the_rule program) 0 program.procs
  procs_are = each_same (proc_places unknown_rule program) (proc_places the_rule program) proc_are 0 program.procs

  threads_are : each_place (thread_places unknown_rule program) 0 program.threads ≡ each_place (thread_places the_rule program) 0 program.threads
  threads_are = each_same (thread_places unknown_rule program) (thread_places the_rule program) (λ place thread. ap (item_place (thread_item program place)) (thread_is program thread)) 0 program.threads

  -- init, the invariants, the actions, the procedures and the threads
  places_are : places_of unknown_rule program
      ≡ item_place (init_item program) (global_strange (declared_by program) program.init)
      ++ (each_place (invariant_places the_rule program) 0 program.invariants
      ++ (each_place (action_places the_rule program) 0 program.actions
      ++ (each_place (proc_places the_rule program) 0 program.procs
      ++ each_place (thread_places the_rule program) 0 program.threads)))
  unfolding places_of
  places_are =
      ap₂ (λ (xs ys : List Place). xs ++ ys) (no_globals unknown_rule program (λ place global. refl))
      (ap₂ (λ (b : Bool) (ys : List Place). item_place (init_item program) b ++ ys) (init_is program)
      (ap₂ (λ (xs ys : List Place). xs ++ ys) invariants_are
      (ap₂ (λ (xs ys : List Place). xs ++ ys) actions_are
      (ap₂ (λ (xs ys : List Place). xs ++ ys) procs_are threads_are))))

in_parts : (program : Program) → first_of (refusals_of unknown_rule program) ≡ first_strange (declared_by program) program
in_parts program =
    let rule : Rule = strange_rule (declared_by program) in
    let init : List Place = item_place (init_item program) (global_strange (declared_by program) program.init) in
    let invariants : List Place = each_place (invariant_places rule program) 0 program.invariants in
    let actions : List Place = each_place (action_places rule program) 0 program.actions in
    let procs : List Place = each_place (proc_places rule program) 0 program.procs in
    let threads : List Place = each_place (thread_places rule program) 0 program.threads in
    ap told (places_are program)
    ∙ told_split init (invariants ++ (actions ++ (procs ++ threads)))
    ∙ ap (option_or (told init))
    (told_split invariants (actions ++ (procs ++ threads))
    ∙ ap (option_or (told invariants)) (told_split actions (procs ++ threads) ∙ ap (option_or (told actions)) (told_split procs threads)))

-- the same by any lists that are the names which the program declares
abbrev declared_of : List Name → List Name → List Name → Declared
declared_of globals actions procs = record { globals = globals; actions = actions; procs = procs }

pub unknown_in_parts : (program : Program) (globals actions procs : List Name) → globals ≡ global_names program.globals → actions ≡ action_names program.actions → procs ≡ proc_names program.procs
    → first_strange (record { globals = globals; actions = actions; procs = procs }) program ≡ first_of (refusals_of unknown_rule program)
unknown_in_parts program globals actions procs g a p =
    ap (λ (names : List Name). first_strange (declared_of names actions procs) program) g
    ∙ ap (λ (names : List Name). first_strange (declared_of (global_names program.globals) names procs) program) a
    ∙ ap (λ (names : List Name). first_strange (declared_of (global_names program.globals) (action_names program.actions) names) program) p
    ∙ sym (in_parts program)
