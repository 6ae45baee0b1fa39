-- A program that keeps rules keeps each of them at each of its parts.
use Rattle.std.proofs.Common.{◌≡◌, ℕ, Bool, false, List, [], ◌∷◌, Some, refl, sym, subst, arith}
use Rattle.std.specs.Prelude.{slice_get}
use Rattle.std.specs.List.{Contains}
use Rattle.std.proofs.lemmas.Bool.{false_from_ne_true}
use Rattle.civl_tree.specs.declared.action.Action.{Action}
use Rattle.civl_tree.specs.declared.program.Global.{Global}
use Rattle.civl_tree.specs.declared.program.Invariant.{Invariant}
use Rattle.civl_tree.specs.declared.program.Proc.{Proc}
use Rattle.civl_tree.specs.declared.program.Thread.{Thread}
use Rattle.civl_tree.specs.declared.program.Program.{Program}
use Rattle.civl_tree.specs.declared.stmt.Stmt.{Stmt}
use Rattle.civl_tree.specs.Numbering.{no_statement, header_item, global_item, init_item, invariant_item, action_item, proc_item, thread_item, statement_at}
use Rattle.civl_tree.specs.rules.Rules.{Rule, Keeps, refusals_by, statements_where}
use Rattle.civl_tree.specs.rules.Typing.{twice_rule, unknown_rule, count_rule, width_rule, sort_rule, index_rule, arity_rule, store_size_rule, typing_rules}
use Rattle.civl_tree.specs.rules.Broken.{Broken, InHeader, InGlobal, InInit, InInvariant, InAction, InProc, InStatement, InThread, broken_at}
use Rattle.civl_tree.specs.declared.refusal.Refusal.{Refusal}
use Rattle.civl_tree.proofs.Pairs.{contains_here, contains_one}
use Rattle.civl_tree.proofs.Placed.{broken_of, statement_told}
use Rattle.civl_tree.proofs.First.{no_rule_broken}

module _ (rules : List Rule) (program : Program) (keeps : Keeps rules program) (rule : Rule) (among : Contains rules rule) where
  pub unbroken : (item statement : ℕ) → Broken rule program item statement → ⊥
  unbroken item statement broken = no_rule_broken rules program keeps (broken_at rule item statement) (record { rule = rule; among = among; number = refl; broken = broken })

  pub header_kept : rule.header program ≡ false
  header_kept = false_from_ne_true (rule.header program) (λ b. unbroken header_item no_statement (InHeader refl refl b))

  pub global_kept : (place : ℕ) (global : Global) → slice_get program.globals place ≡ Some global → rule.global program place global ≡ false
  global_kept place global at = false_from_ne_true (rule.global program place global) (λ b. unbroken (global_item program place) no_statement (InGlobal place global at refl refl b))

  pub init_kept : rule.init program ≡ false
  init_kept = false_from_ne_true (rule.init program) (λ b. unbroken (init_item program) no_statement (InInit refl refl b))

  pub invariant_kept : (place : ℕ) (invariant : Invariant) → slice_get program.invariants place ≡ Some invariant → rule.invariant program place invariant ≡ false
  invariant_kept place invariant at = false_from_ne_true (rule.invariant program place invariant) (λ b. unbroken (invariant_item program place) no_statement (InInvariant place invariant at refl refl b))

  pub action_kept : (place : ℕ) (action : Action) → slice_get program.actions place ≡ Some action → rule.action program place action ≡ false
  action_kept place action at = false_from_ne_true (rule.action program place action) (λ b. unbroken (action_item program place) no_statement (InAction place action at refl refl b))

  pub proc_kept : (place : ℕ) (proc : Proc) → slice_get program.procs place ≡ Some proc → rule.proc program place proc ≡ false
  proc_kept place proc at = false_from_ne_true (rule.proc program place proc) (λ b. unbroken (proc_item program place) no_statement (InProc place proc at refl refl b))

  pub thread_kept : (place : ℕ) (thread : Thread) → slice_get program.threads place ≡ Some thread → rule.thread program place thread ≡ false
  thread_kept place thread at = false_from_ne_true (rule.thread program place thread) (λ b. unbroken (thread_item program place) no_statement (InThread place thread at refl refl b))

  -- of a rule that asks each statement by itself
  pub statement_kept : (breaks : Stmt → Bool) (place : ℕ) (proc : Proc) → slice_get program.procs place ≡ Some proc → rule.statements program place proc ≡ statements_where breaks proc
      → (number : ℕ) (stmt : Stmt) → statement_at proc.body number ≡ Some stmt → breaks stmt ≡ false
  statement_kept breaks place proc at asks number stmt here =
      false_from_ne_true (breaks stmt) (λ b. unbroken (proc_item program place) number
      (InStatement place proc at refl (subst (λ numbers. Contains numbers number) (sym asks) (statement_told breaks proc number stmt here b))))

-- a program that keeps rules keeps each of them alone
none_contained : (refusals : List Refusal) → ((refusal : Refusal) → Contains refusals refusal → ⊥) → refusals ≡ []
none_contained [] h = refl
none_contained (refusal ∷ refusals) h = absurd (h refusal (contains_here refusal refusals))

pub keeps_alone : (rules : List Rule) (program : Program) → Keeps rules program → (rule : Rule) → Contains rules rule → Keeps (rule ∷ []) program
keeps_alone rules program keeps rule among =
    none_contained (refusals_by (rule ∷ []) program) (λ refusal there.
    let broken = broken_of (rule ∷ []) program refusal there in
    no_rule_broken rules program keeps refusal (record {
      rule = broken.rule;
      among = subst (Contains rules) (contains_one rule broken.rule broken.among) among;
      number = broken.number;
      broken = broken.broken;
    }))

-- ---- the rules E10 to E24

pub twice_among : Contains typing_rules twice_rule
twice_among = (0, omega arith, refl)

pub unknown_among : Contains typing_rules unknown_rule
unknown_among = (1, omega arith, refl)

pub count_among : Contains typing_rules count_rule
count_among = (2, omega arith, refl)

pub width_among : Contains typing_rules width_rule
width_among = (3, omega arith, refl)

pub sort_among : Contains typing_rules sort_rule
sort_among = (4, omega arith, refl)

pub index_among : Contains typing_rules index_rule
index_among = (5, omega arith, refl)

pub arity_among : Contains typing_rules arity_rule
arity_among = (6, omega arith, refl)

pub store_size_among : Contains typing_rules store_size_rule
store_size_among = (7, omega arith, refl)
