-- Where a static rule is broken, as a relation over a program, an item and a statement; and what it is to be the first of
-- some rules that a program breaks.
use Rattle.std.specs.Prelude.{ℕ, ◌≡◌, ◌<◌, ◌≤◌, ◌⊎◌, IsTrue, List, Option, None, Some, slice_get}
use Rattle.std.specs.List.{Contains, AllPairs, All}
use Rattle.civl_tree.specs.declared.action.Action.{Action}
use Rattle.civl_tree.specs.declared.program.Global.{Global}
use Rattle.civl_tree.specs.declared.program.Invariant.{Invariant}
use Rattle.civl_tree.specs.declared.program.Proc.{Proc}
use Rattle.civl_tree.specs.declared.program.Thread.{Thread}
use Rattle.civl_tree.specs.declared.program.Program.{Program}
use Rattle.civl_tree.specs.declared.refusal.Refusal.{Refusal}
use Rattle.civl_tree.specs.Numbering.{header_item, global_item, init_item, invariant_item, action_item, proc_item, thread_item, no_statement}
use Rattle.civl_tree.specs.rules.Codes.{number_of}
use Rattle.civl_tree.specs.rules.Rules.{Rule, refusals_by, refusal_by}
use Rattle.civl_tree.specs.rules.Typing.{typing_rules}

-- the part of the program with these numbers breaks the rule: an item as a whole, with the number of no statement, or a
-- statement of a procedure
pub data Broken (rule : Rule) (program : Program) (item statement : ℕ) : Type 0 where
  InHeader : item ≡ header_item → statement ≡ no_statement → IsTrue (rule.header program) → Broken rule program item statement
  InGlobal : (place : ℕ) (global : Global) → slice_get program.globals place ≡ Some global → item ≡ global_item program place → statement ≡ no_statement → IsTrue (rule.global program place global) → Broken rule program item statement
  InInit : item ≡ init_item program → statement ≡ no_statement → IsTrue (rule.init program) → Broken rule program item statement
  InInvariant : (place : ℕ) (invariant : Invariant) → slice_get program.invariants place ≡ Some invariant → item ≡ invariant_item program place → statement ≡ no_statement → IsTrue (rule.invariant program place invariant) → Broken rule program item statement
  InAction : (place : ℕ) (action : Action) → slice_get program.actions place ≡ Some action → item ≡ action_item program place → statement ≡ no_statement → IsTrue (rule.action program place action) → Broken rule program item statement
  InProc : (place : ℕ) (proc : Proc) → slice_get program.procs place ≡ Some proc → item ≡ proc_item program place → statement ≡ no_statement → IsTrue (rule.proc program place proc) → Broken rule program item statement
  InStatement : (place : ℕ) (proc : Proc) → slice_get program.procs place ≡ Some proc → item ≡ proc_item program place → Contains (rule.statements program place proc) statement → Broken rule program item statement
  InThread : (place : ℕ) (thread : Thread) → slice_get program.threads place ≡ Some thread → item ≡ thread_item program place → statement ≡ no_statement → IsTrue (rule.thread program place thread) → Broken rule program item statement

-- ---- the first broken rule

-- by code, then item, then statement
abbrev pub NotAfter : Refusal → Refusal → Type 0
NotAfter first second =
    (first.code < second.code)
    ⊎ ((first.code ≡ second.code) × ((first.item < second.item) ⊎ ((first.item ≡ second.item) × (first.statement ≤ second.statement))))

-- this rule is broken at this place
abbrev pub broken_at : Rule → ℕ → ℕ → Refusal
broken_at rule item statement = record { code = number_of rule.code; item = item; statement = statement }

-- one of these rules is broken at this place
pub record IsBroken (rules : List Rule) (program : Program) (refusal : Refusal) : Type 0 where
  pub rule : Rule
  pub among : Contains rules rule
  pub number : refusal.code ≡ number_of rule.code
  pub broken : Broken rule program refusal.item refusal.statement

-- one of these rules is broken at this place, and none of them at an earlier one
pub record IsFirstBroken (rules : List Rule) (program : Program) (refusal : Refusal) : Type 0 where
  pub broken : IsBroken rules program refusal
  pub first : (other : Refusal) → IsBroken rules program other → NotAfter refusal other

-- the answer for a program: nothing where it breaks none of these rules, else the first that it breaks
abbrev pub IsRefusal : List Rule → Program → Option Refusal → Type 0
IsRefusal rules program None = (refusal : Refusal) → ¬ IsBroken rules program refusal
IsRefusal rules program (Some refusal) = IsFirstBroken rules program refusal

-- ---- lists of rules in their order

-- the rule tells the statements of a procedure in their order
abbrev pub TellsInOrder : Rule → Type 0
TellsInOrder rule = (program : Program) (place : ℕ) (proc : Proc) → AllPairs (λ first second. first ≤ second) (rule.statements program place proc)

-- their codes rise, and each tells statements in their order
pub record AreInOrder (rules : List Rule) : Type 0 where
  pub codes : AllPairs (λ first second. number_of first.code < number_of second.code) rules
  pub statements : All TellsInOrder rules

-- all places at which a program breaks these rules are listed in the order of code, item and statement
abbrev pub AreSorted : List Rule → Type 0
AreSorted rules = (program : Program) → AllPairs NotAfter (refusals_by rules program)

-- of rules in their order, `refusal_by` is the first that a program breaks, if there is one
abbrev pub RefusalIsFirst : Type 0
RefusalIsFirst = (rules : List Rule) → AreInOrder rules → AreSorted rules × ((program : Program) → IsRefusal rules program (refusal_by rules program))

-- so it is of the rules E10 to E24
abbrev pub TypingIsInOrder : Type 0
TypingIsInOrder = AreInOrder typing_rules
