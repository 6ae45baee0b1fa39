-- The choices of a statement's call: their sorts are within the limits, and they are few.
use Rattle.std.specs.Prelude.{map, slice_get, IsTrue}
use Rattle.std.proofs.Common.{◌≡◌, ℕ, ◌≤◌, Bool, true, false, List, [], length, arith, Option, Some, None}
use Rattle.std.proofs.lemmas.List.Elements.{All-nil}
use Rattle.civl_tree.specs.declared.name.Name.{Name}
use Rattle.civl_tree.specs.declared.stmt.Stmt.{Stmt}
use Rattle.civl_tree.specs.declared.stmt.Stmt.TheOpen.{Stmt-F, Call}
use Rattle.civl_tree.specs.declared.action.Action.{Action}
use Rattle.civl_tree.specs.declared.action.Choice.{Choice}
use Rattle.civl_tree.specs.declared.program.Proc.{Proc}
use Rattle.civl_tree.specs.declared.program.Refines.{Refines}
use Rattle.civl_tree.specs.declared.program.Program.{Program}
use Rattle.civl_tree.specs.rules.Names.{action_named}
use Rattle.civl_tree.specs.rules.Rules.{Keeps}
use Rattle.civl_tree.specs.rules.Typing.{typing_rules}
use Rattle.civl_firing.specs.values.Values.{is_sort}
use Rattle.civl_firing.specs.Truth.{place_of}
use Rattle.civl_firing.proofs.Finding.{found_at}
use Rattle.civl_meaning.specs.Layers.{topmost}
use Rattle.civl_meaning.specs.Meaning.{Meaning, proc_number, meaning_of_action, refined, meaning_by, meaning_else, called}
use Rattle.civl_conditions.specs.Variables.{choices_of, layer_choices}
use Rattle.civl_states.proofs.Limits.{AreSorts, action_few, choice_sorts_are}

-- sorts within the limits, and not more than 32
abbrev pub AreFew : List Choice → Type 0
AreFew cs = AreSorts (map (λ c. c.sort) cs) × (length cs ≤ 32)

no_choices : AreFew []
no_choices = (All-nil (λ s. IsTrue (is_sort s)), omega arith)

module _ (program : Program) (keeps : Keeps typing_rules program) where
  abbrev Few : Meaning → Type 0
  Few m = AreFew (choices_of m)

  action_is_few : (name : Name) → Few (meaning_of_action (action_named program name))
  action_is_few name = by (action_named program name) (found_at (λ (a : Action). a.name) program.actions name)
    where
      by : (o : Option Action) → slice_get program.actions (place_of (map (λ a. a.name) program.actions) name) ≡ o → Few (meaning_of_action o)
      by None e = no_choices
      by (Some a) e = (choice_sorts_are program keeps _ a e, omega (arith, action_few program keeps _ a e))

  refined_few : (o : Option Refines) → Few (refined program o)
  refined_few None = no_choices
  refined_few (Some r) = action_is_few r.action

  by_few : (b : Option Bool) (k : ℕ) (p : Option Proc) → Few (meaning_by program b k p)
  by_few None k None = no_choices
  by_few (Some b) k None = no_choices
  by_few None k (Some proc) = no_choices
  by_few (Some true) k (Some proc) = no_choices
  by_few (Some false) k (Some proc) = refined_few proc.refines

  pub called_few : (name : Name) → Few (called (topmost program) name)
  called_few name = by (action_named program name) (action_is_few name)
    where
      by : (o : Option Action) → Few (meaning_of_action o) → Few (meaning_else (topmost program) name o)
      by None h = by_few (slice_get (topmost program).bodies (proc_number program name)) (proc_number program name) (slice_get program.procs (proc_number program name))
      by (Some a) h = h

  pub form_few : (d : Stmt-F Stmt) → AreFew (layer_choices (topmost program) d)
  form_few (Call f es rs) = called_few f
  form_few _ = no_choices
