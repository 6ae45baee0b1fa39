-- What a static rule is: its code, and what it asks of each kind of part of a program. A part is an item as a whole, but for
-- the statements of a procedure, or one statement, without those in it. And the places at which a program breaks rules, in
-- the order of code, item and statement.
use Rattle.std.specs.Prelude.{ℕ, ◌≡◌, ◌+◌, Bool, false, List, [], ◌∷◌, ◌++◌, map, Option, None, Some, if◌then◌else◌}
use Rattle.std.specs.List.{flat_map}
use Rattle.civl_tree.specs.declared.stmt.Stmt.{Stmt}
use Rattle.civl_tree.specs.declared.action.Action.{Action}
use Rattle.civl_tree.specs.declared.program.Global.{Global}
use Rattle.civl_tree.specs.declared.program.Invariant.{Invariant}
use Rattle.civl_tree.specs.declared.program.Proc.{Proc}
use Rattle.civl_tree.specs.declared.program.Thread.{Thread}
use Rattle.civl_tree.specs.declared.program.Program.{Program}
use Rattle.civl_tree.specs.declared.refusal.Refusal.{Refusal}
use Rattle.civl_tree.specs.Numbering.{header_item, global_item, init_item, invariant_item, action_item, proc_item, thread_item, no_statement, statements_of}
use Rattle.civl_tree.specs.rules.Codes.{Code, number_of}

-- ---- rules

-- A rule: whether a part breaks it. An item stands with its place among those of its kind. Of a procedure it says whether
-- the procedure as a whole breaks it, and which of its statements do, by their numbers.
pub record Rule : Type 0 where
  pub code : Code
  pub header : Program → Bool
  pub global : Program → ℕ → Global → Bool
  pub init : Program → Bool
  pub invariant : Program → ℕ → Invariant → Bool
  pub action : Program → ℕ → Action → Bool
  pub proc : Program → ℕ → Proc → Bool
  pub statements : Program → ℕ → Proc → List ℕ
  pub thread : Program → ℕ → Thread → Bool

-- it asks nothing of any part
abbrev pub asks_nothing : Code → Rule
asks_nothing code = record {
  code = code;
  header = λ program. false;
  global = λ program place global. false;
  init = λ program. false;
  invariant = λ program place invariant. false;
  action = λ program place action. false;
  proc = λ program place proc. false;
  statements = λ program place proc. [];
  thread = λ program place thread. false;
}

-- ---- statements

-- the numbers of the statements that don't pass, where the first has this number
unfoldable pub numbers_where : (Stmt → Bool) → ℕ → List Stmt → List ℕ
numbers_where breaks number [] = []
numbers_where breaks number (stmt ∷ stmts) = (if breaks stmt then number ∷ [] else []) ++ numbers_where breaks (number + 1) stmts

-- the numbers of the statements of a procedure that don't pass
abbrev pub statements_where : (Stmt → Bool) → Proc → List ℕ
statements_where breaks proc = numbers_where breaks 0 (statements_of proc.body)

-- ---- places

-- a place of a program: an item, and a statement in it
pub record Place : Type 0 where
  pub item : ℕ
  pub statement : ℕ

-- an item as a whole, where it is broken
abbrev pub item_place : ℕ → Bool → List Place
item_place item broken = if broken then record { item = item; statement = no_statement } ∷ [] else []

-- these statements of an item
abbrev pub statement_places : ℕ → List ℕ → List Place
statement_places item numbers = map (λ number. record { item = item; statement = number }) numbers

-- what is said of each item of one kind, in text order, where the first has this place among them
unfoldable pub each_place : {A : Type 0} → (ℕ → A → List Place) → ℕ → List A → List Place
each_place places_in place [] = []
each_place places_in place (item ∷ items) = places_in place item ++ each_place places_in (place + 1) items

-- the places in one item of each kind at which a rule is broken; in a procedure, the procedure itself, then its statements
abbrev pub global_places : Rule → Program → ℕ → Global → List Place
global_places rule program place global = item_place (global_item program place) (rule.global program place global)

abbrev pub invariant_places : Rule → Program → ℕ → Invariant → List Place
invariant_places rule program place invariant = item_place (invariant_item program place) (rule.invariant program place invariant)

abbrev pub action_places : Rule → Program → ℕ → Action → List Place
action_places rule program place action = item_place (action_item program place) (rule.action program place action)

abbrev pub proc_places : Rule → Program → ℕ → Proc → List Place
proc_places rule program place proc = item_place (proc_item program place) (rule.proc program place proc) ++ statement_places (proc_item program place) (rule.statements program place proc)

abbrev pub thread_places : Rule → Program → ℕ → Thread → List Place
thread_places rule program place thread = item_place (thread_item program place) (rule.thread program place thread)

-- all places at which a program breaks a rule, in the order of item and statement
unfoldable pub places_of : Rule → Program → List Place
places_of rule program =
    item_place header_item (rule.header program)
    ++ (each_place (global_places rule program) 0 program.globals
    ++ (item_place (init_item program) (rule.init program)
    ++ (each_place (invariant_places rule program) 0 program.invariants
    ++ (each_place (action_places rule program) 0 program.actions
    ++ (each_place (proc_places rule program) 0 program.procs
    ++ each_place (thread_places rule program) 0 program.threads)))))

-- ---- refusals

-- the rule with this code is broken at this place
abbrev pub refusal_at : Code → Place → Refusal
refusal_at code place = record { code = number_of code; item = place.item; statement = place.statement }

-- a rule at all places at which a program breaks it
abbrev pub refusals_of : Rule → Program → List Refusal
refusals_of rule program = map (refusal_at rule.code) (places_of rule program)

-- these rules at all places at which a program breaks them: in the order of code, item and statement, where the codes rise
abbrev pub refusals_by : List Rule → Program → List Refusal
refusals_by rules program = flat_map (λ rule. refusals_of rule program) rules

abbrev pub first_of : {A : Type 0} → List A → Option A
first_of [] = None
first_of (value ∷ values) = Some value

-- the first of these rules that a program breaks, with its place
abbrev pub refusal_by : List Rule → Program → Option Refusal
refusal_by rules program = first_of (refusals_by rules program)

-- a program breaks none of these rules
abbrev pub Keeps : List Rule → Program → Type 0
Keeps rules program = refusals_by rules program ≡ []
