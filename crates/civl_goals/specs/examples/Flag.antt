-- The goals of outlines of the flag program with a root:
--
--     civl 1; layers 1; permissions 1;
--     global f : bool layers 0 to 1;
--     init true;
--     action Set() -> () choose () layers 0 to 0 atomic gate true guard true { f := true; }
--     action AtomSet() -> () choose () layers 1 to 1 atomic gate GATE guard true { f := true; }
--     action Get() -> (val v : bool) choose () layers 0 to 1 atomic gate true guard true { v := f; }
--     proc DoSet() -> () refines AtomSet with () layer 1 { call Set() -> (); commit; }
--     proc Main() -> () root { call DoSet() -> (); }
--     thread Main();
--
-- The first two programs have no Get; Main of the last one reads the flag into w behind the call and asserts it.
use Rattle.std.specs.Prelude.{ℕ, ◌≡◌, true, false, List, [], ◌∷◌, map, codes}
use Rattle.civl_tree.specs.declared.expr.Expr.{Expr}
use Rattle.civl_tree.specs.declared.expr.Expr as expr
use Rattle.civl_tree.specs.declared.expr.Sort.TheVariants as sort
use Rattle.civl_tree.specs.declared.action.Action.{Action}
use Rattle.civl_tree.specs.declared.action.Mode.TheVariants.{Val}
use Rattle.civl_tree.specs.declared.program.Proc.{Proc}
use Rattle.civl_tree.specs.declared.program.Program.{Program}
use Rattle.civl_tree.specs.declared.stmt.Stmt as stmt
use Rattle.civl_firing.specs.examples.Written.{name, named, bool, global, param, local, update, action, refines, root, proc, thread, call}
use Rattle.civl_outlines.specs.declared.outline.Note.{Note}
use Rattle.civl_outlines.specs.declared.outline.Outline.{Outline}
use Rattle.civl_goals.specs.declared.goal.Goal.TheVariants.{Safe, Next}
use Rattle.civl_goals.specs.Rules.{unfit, descending}
use Rattle.civl_goals.specs.Listed.{goals}
use Rattle.civl_goals.specs.Names.{goal_text}
use Rattle.civl_goals.specs.Variables.{variables}
use Rattle.civl_goals.specs.Failed.{failed}
use Rattle.civl_goals.specs.Weights.{weight}
use Rattle.civl_goals.specs.Told.{told}

-- ---- programs

abbrev pub setting : List ℕ → ℕ → Expr → Action
setting bytes layer gate = action bytes [] [] [] layer layer gate expr.True (update (codes "f") expr.True ∷ [])

abbrev pub getting : Action
getting = action (codes "Get") [] (param Val (codes "v") sort.Bool ∷ []) [] 0 1 expr.True expr.True (update (codes "v") (name (codes "f")) ∷ [])

abbrev pub do_set : Proc
do_set = proc (codes "DoSet") [] [] (refines (codes "AtomSet") 1) [] (call (codes "Set") [] [] ∷ stmt.Commit ∷ [])

abbrev pub program_with : Expr → Expr → List Action → Proc → Program
program_with init gate actions main = record {
  version = 1;
  layers = 1;
  permissions = 1;
  globals = global (codes "f") sort.Bool 0 1 ∷ [];
  init = init;
  invariants = [];
  actions = setting (codes "Set") 0 expr.True ∷ setting (codes "AtomSet") 1 gate ∷ actions;
  procs = do_set ∷ main ∷ [];
  threads = thread (codes "Main") [] ∷ [];
}

-- Main calls DoSet alone
abbrev pub sets : Expr → Expr → Program
sets init gate = program_with init gate [] (proc (codes "Main") [] [] root [] (call (codes "DoSet") [] [] ∷ []))

-- it reads the flag behind the call, and asserts what it read
abbrev pub reads : Program
reads =
    program_with expr.True expr.True (getting ∷ [])
    (proc (codes "Main") [] [] root (local (codes "w") sort.Bool ∷ []) (call (codes "DoSet") [] [] ∷ call (codes "Get") [] (named (codes "w") ∷ []) ∷ stmt.Assert (name (codes "w")) ∷ []))

-- the thread calls DoSet, and no root is there
abbrev pub descends : Program
descends = record {
  version = 1;
  layers = 1;
  permissions = 1;
  globals = global (codes "f") sort.Bool 0 1 ∷ [];
  init = expr.True;
  invariants = [];
  actions = setting (codes "Set") 0 expr.True ∷ setting (codes "AtomSet") 1 expr.True ∷ [];
  procs = do_set ∷ [];
  threads = thread (codes "DoSet") [] ∷ [];
}

-- ---- outlines

abbrev pub outline_of : Program → List Expr → List Note → Outline
outline_of program holds notes = record { program = program; holds = holds; notes = notes }

abbrev pub note : ℕ → ℕ → Expr → Note
note item statement e = record { item = item; statement = statement; expr = e }

-- without holds and notes
abbrev pub silent : Outline
silent = outline_of (sets expr.True expr.True) [] []

-- before the read the flag is set, and before the assert what was read is true
abbrev pub noted_reads : Outline
noted_reads = outline_of reads [] (note 6 1 (name (codes "f")) ∷ note 6 2 (name (codes "w")) ∷ [])

-- the second note alone
abbrev pub half_noted : Outline
half_noted = outline_of reads [] (note 6 2 (name (codes "w")) ∷ [])

-- the first note stands behind the body
abbrev pub misplaced_note : Outline
misplaced_note = outline_of reads [] (note 6 3 (name (codes "f")) ∷ note 6 2 (name (codes "w")) ∷ [])

-- ---- the goals

abbrev pub SetGoals : Type 0
SetGoals =
    map (goal_text silent.program) (goals silent.program silent)
    ≡ codes "O1 invariant"
    ∷ codes "O1 thread 0"
    ∷ codes "O2 safe Main at 0"
    ∷ codes "O2 invariant Main at 0"
    ∷ codes "O2 next Main at 0"
    ∷ []

abbrev pub ReadGoals : Type 0
ReadGoals =
    map (goal_text reads) (goals reads noted_reads)
    ≡ codes "O1 invariant"
    ∷ codes "O1 thread 0"
    ∷ codes "O2 safe Main at 0"
    ∷ codes "O2 invariant Main at 0"
    ∷ codes "O2 next Main at 0"
    ∷ codes "O3 Main at 0 keeps Main at 1"
    ∷ codes "O3 Main at 0 keeps Main at 2"
    ∷ codes "O2 safe Main at 1"
    ∷ codes "O2 invariant Main at 1"
    ∷ codes "O2 next Main at 1"
    ∷ codes "O3 Main at 1 keeps Main at 1"
    ∷ codes "O3 Main at 1 keeps Main at 2"
    ∷ codes "O2 safe Main at 2"
    ∷ codes "O2 next Main at 2"
    ∷ []

-- ---- their variables

-- the names of the variables of each goal
abbrev pub ReadVariables : Type 0
ReadVariables =
    map (λ goal. map (λ v. v.name.bytes) (variables reads goal)) (goals reads noted_reads)
    ≡ (codes "f" ∷ [])
    ∷ (codes "f" ∷ [])
    ∷ (codes "f" ∷ codes "w" ∷ [])
    ∷ (codes "f" ∷ codes "w" ∷ [])
    ∷ (codes "f" ∷ codes "w" ∷ [])
    ∷ (codes "f" ∷ codes "w" ∷ codes "other.w" ∷ [])
    ∷ (codes "f" ∷ codes "w" ∷ codes "other.w" ∷ [])
    ∷ (codes "f" ∷ codes "w" ∷ [])
    ∷ (codes "f" ∷ codes "w" ∷ [])
    ∷ (codes "f" ∷ codes "w" ∷ [])
    ∷ (codes "f" ∷ codes "w" ∷ codes "other.w" ∷ [])
    ∷ (codes "f" ∷ codes "w" ∷ codes "other.w" ∷ [])
    ∷ (codes "f" ∷ codes "w" ∷ [])
    ∷ (codes "f" ∷ codes "w" ∷ [])
    ∷ []

-- ---- their weights

-- bit by bit: the flag, twice what is said and called, `init` where stores are initial, and 1
abbrev pub SetWeights : Type 0
SetWeights = map (weight silent.program silent) (goals silent.program silent) ≡ 3 ∷ 5 ∷ 10 ∷ 10 ∷ 12 ∷ []

-- ---- what violates them

-- the first call's gate is `f`: it is false where f is
abbrev pub GateFails : Type 0
GateFails =
    map (λ f. failed (sets expr.True (name (codes "f"))) (outline_of (sets expr.True (name (codes "f"))) [] []) (Safe 1 0) (bool f ∷ [])) (false ∷ true ∷ []) ≡ true ∷ false ∷ []

-- with the invariant `f` nothing violates it
abbrev pub HeldGateHolds : Type 0
HeldGateHolds =
    map (λ f. failed (sets (name (codes "f")) (name (codes "f"))) (outline_of (sets (name (codes "f")) (name (codes "f"))) (name (codes "f") ∷ []) []) (Safe 1 0) (bool f ∷ [])) (false ∷ true ∷ []) ≡ false ∷ false ∷ []

-- without the note before the read nothing is known of the flag there
abbrev pub ReadLeadsAstray : Type 0
ReadLeadsAstray = map (λ f. failed reads half_noted (Next 1 1) (bool f ∷ bool false ∷ [])) (false ∷ true ∷ []) ≡ true ∷ false ∷ []

-- with it the goal holds
abbrev pub NotedReadLeadsOn : Type 0
NotedReadLeadsOn = map (λ f. failed reads noted_reads (Next 1 1) (bool f ∷ bool false ∷ [])) (false ∷ true ∷ []) ≡ false ∷ false ∷ []

-- ---- the rules

-- all notes fit, but for the one behind the body
abbrev pub NotesFit : Type 0
NotesFit = (unfit reads noted_reads ≡ []) × (unfit reads misplaced_note ≡ 0 ∷ [])

-- the thread of a procedure that refines an action is item 5
abbrev pub ThreadDescends : Type 0
ThreadDescends = (map told (descending descends) ≡ (5, 0) ∷ []) × (map told (descending reads) ≡ [])
