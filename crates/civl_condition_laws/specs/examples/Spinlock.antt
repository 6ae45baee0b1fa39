-- The conditions of the spinlock and its counter.
use Rattle.std.specs.Prelude.{ℕ, ◌-◌, ◌≡◌, true, false, nat_eq, List, [], ◌∷◌, ◌++◌, length, map, filter, take, drop, codes}
use Rattle.civl_bits.specs.declared.value.Value.{Value}
use Rattle.civl_tree.specs.declared.expr.Expr as expr
use Rattle.civl_tree.specs.declared.expr.Two.TheVariants.{Add, Ne}
use Rattle.civl_tree.specs.declared.expr.Sort.TheVariants as sort
use Rattle.civl_tree.specs.declared.action.Mode.TheVariants.{Lend}
use Rattle.civl_tree.specs.declared.stmt.Stmt as stmt
use Rattle.civl_tree.specs.declared.program.Proc.{Proc}
use Rattle.civl_tree.specs.declared.program.Program.{Program}
use Rattle.civl_firing.specs.examples.Written.{word, bool, named, name, lit, param, update, action, refines, proc}
use Rattle.civl_meaning.specs.examples.Spinlock.{spinlock}
use Rattle.civl_conditions.specs.declared.condition.Condition.{Condition}
use Rattle.civl_conditions.specs.declared.condition.Condition.TheVariants.{Start, Keep, Pair, Fire, Path, Block, Act}
use Rattle.civl_conditions.specs.declared.condition.Part.TheVariants.{Perform}
use Rattle.civl_conditions.specs.declared.condition.Target.TheVariants as target
use Rattle.civl_conditions.specs.Listed.{at_step, conditions}
use Rattle.civl_conditions.specs.Names.{name_text}
use Rattle.civl_conditions.specs.Violated.{violated}
use Rattle.civl_condition_laws.specs.examples.Short.{Tells}
use Rattle.civl_conditions.specs.Weights.{weight, initial_weight}

abbrev pub SpinlockCounts : Type 0
SpinlockCounts = (length (at_step (spinlock 1 2) 1) ≡ 40) × (length (at_step (spinlock 1 2) 2) ≡ 72)

-- the number behind the K of a name
abbrev pub kind_of : Condition → ℕ
kind_of (Start step i) = 1
kind_of (Keep step x) = 2
kind_of (Pair number step x y) = number
kind_of (Fire step x) = 8
kind_of (Path part step q c) = 9
kind_of (Block step q c target) = 10
kind_of (Act step x target) = 11

abbrev pub of_kind : Program → ℕ → List Condition
of_kind program number = filter (λ c. nat_eq (kind_of c) number) (conditions program)

-- the names of the first and the last of these
abbrev pub first_and_last : Program → List Condition → List (List ℕ)
first_and_last program cs = map (name_text program) (take 1 cs ++ drop (length cs - 1) cs)

-- how many there are of each kind: together 112
abbrev pub SpinlockKinds : Type 0
SpinlockKinds =
    map (λ number. length (of_kind (spinlock 1 2) number)) (1 ∷ 2 ∷ 3 ∷ 4 ∷ 5 ∷ 6 ∷ 7 ∷ 8 ∷ 9 ∷ 10 ∷ 11 ∷ [])
    ≡ 1 ∷ 8 ∷ 12 ∷ 12 ∷ 12 ∷ 12 ∷ 12 ∷ 3 ∷ 30 ∷ 10 ∷ 0 ∷ []

abbrev pub SpinlockEnds : Type 0
SpinlockEnds =
    map (λ number. first_and_last (spinlock 1 2) (of_kind (spinlock 1 2) number)) (1 ∷ 2 ∷ 3 ∷ 4 ∷ 5 ∷ 6 ∷ 7 ∷ 8 ∷ 9 ∷ 10 ∷ [])
    ≡ (codes "K1 step 1 invariant 0" ∷ codes "K1 step 1 invariant 0" ∷ [])
    ∷ (codes "K2 step 1 Cas" ∷ codes "K2 step 2 AtomWrite" ∷ [])
    ∷ (codes "K3 step 2 AtomAcquire AtomAcquire" ∷ codes "K3 step 2 AtomWrite AtomWrite" ∷ [])
    ∷ (codes "K4 step 2 AtomAcquire AtomAcquire" ∷ codes "K4 step 2 AtomWrite AtomWrite" ∷ [])
    ∷ (codes "K5 step 2 AtomRelease AtomAcquire" ∷ codes "K5 step 2 AtomWrite AtomWrite" ∷ [])
    ∷ (codes "K6 step 2 AtomRelease AtomAcquire" ∷ codes "K6 step 2 AtomWrite AtomWrite" ∷ [])
    ∷ (codes "K7 step 2 AtomRelease AtomAcquire" ∷ codes "K7 step 2 AtomWrite AtomWrite" ∷ [])
    ∷ (codes "K8 step 2 AtomRelease" ∷ codes "K8 step 2 AtomWrite" ∷ [])
    ∷ (codes "K9 gate step 1 Acquire from 0" ∷ codes "K9 perform step 2 Incr from 0" ∷ [])
    ∷ (codes "K10 step 1 Acquire from 0 invariant 0" ∷ codes "K10 step 1 Write from 0 yield Acquire 1" ∷ [])
    ∷ []

-- two linear items weigh 28. The search for an initial store without its variables: init 1 + (1 + 2 + 4) + 10 = 18, the arguments 2,
-- and 28 make 48. With its variables 11 more; K1 also has the invariant 1 + 1 + 4. K3 of AtomAcquire, which weighs 4 + 4 + 1, and
-- AtomRelease, which weighs 9 + 1 + 1: lock, x, t and t 14; twice 9 + 11; lock and x 10; and the two permissions 28
abbrev pub SpinlockWeights : Type 0
SpinlockWeights = (initial_weight (spinlock 1 2) ≡ 59) × (weight (spinlock 1 2) (Start 1 0) ≡ 65) × (weight (spinlock 1 2) (Pair 3 2 4 5) ≡ 92)

-- from the loop of Acquire: b, lock, x, t, ok and done 15; the step's invariant 6, the loop's 3, the gate 4 and the permission 12; the
-- loop 1 + 2, the call 1 + 5, the `if` 1 + 1 + 2 and its join 2 + 1, the commit 1 and the intro 1 + 1; at both ends 1, lock and x 10,
-- and guard and update of AtomAcquire 4 + 1
abbrev pub AcquireWeight : Type 0
AcquireWeight = weight (spinlock 1 2) (Path Perform 1 0 1) ≡ 91

-- from the entry of Release to the yield of Acquire: b, lock, x and t 13, and the other's t, ok and done 4; the step's invariant 6, the
-- gate 9 and the permission 12; the call 1 + 3, the commit 1 and the intro 1 + 1; the invariant at the end 3 + 1 and before it 3; and
-- the two permissions 28
abbrev pub ReleaseWeight : Type 0
ReleaseWeight = weight (spinlock 1 2) (Block 1 1 0 (target.Yield 0 1)) ≡ 86

-- ---- a Release that doesn't reset the bit

-- `proc Release(lend t : word(2)) -> () refines AtomRelease with () layer 1 { commit; intro lock := 0:2; }`
abbrev pub forgets : Proc
forgets = proc (codes "Release") (param Lend (codes "t") (sort.Word 2) ∷ []) [] (refines (codes "AtomRelease") 1) [] (stmt.Commit ∷ stmt.Intro (named (codes "lock")) (lit 0 2) ∷ [])

abbrev pub forgetful : Program
forgetful = record {
  version = 1;
  layers = 2;
  permissions = 2;
  globals = (spinlock 1 2).globals;
  init = (spinlock 1 2).init;
  invariants = (spinlock 1 2).invariants;
  actions = (spinlock 1 2).actions;
  procs = take 1 (spinlock 1 2).procs ++ forgets ∷ drop 2 (spinlock 1 2).procs;
  threads = (spinlock 1 2).threads;
}

-- b, lock, x and t: where t has the lock, it is free in the end, and the bit is still set
abbrev pub ForgetfulFails : Type 0
ForgetfulFails =
    Tells (violated forgetful (Block 1 1 0 (target.Invariant 0))) (
    (bool true ∷ word 2 1 ∷ word 8 0 ∷ word 2 1 ∷ [], true)
    ∷ (bool true ∷ word 2 2 ∷ word 8 0 ∷ word 2 1 ∷ [], false)
    ∷ (bool false ∷ word 2 1 ∷ word 8 0 ∷ word 2 1 ∷ [], false)
    ∷ []
    )

-- ---- an increment whose action adds another number

-- `action AtomIncr(lend t : word(2)) -> () choose () layers 2 to 2 atomic gate (t != 0:2) guard true { x := (x + n:8); }`
abbrev pub adding : ℕ → Program
adding n = record {
  version = 1;
  layers = 2;
  permissions = 2;
  globals = (spinlock 1 2).globals;
  init = (spinlock 1 2).init;
  invariants = (spinlock 1 2).invariants;
  actions =
      take 8 (spinlock 1 2).actions
      ++ action (codes "AtomIncr") (param Lend (codes "t") (sort.Word 2) ∷ []) [] [] 2 2 (expr.Two Ne (name (codes "t")) (lit 0 2)) expr.True (update (codes "x") (expr.Two Add (name (codes "x")) (lit n 8)) ∷ [])
      ∷ [];
  procs = (spinlock 1 2).procs;
  threads = (spinlock 1 2).threads;
}

-- lock, x and t
abbrev pub increment_row : ℕ → ℕ → ℕ → List Value
increment_row lock x t = word 2 lock ∷ word 8 x ∷ word 2 t ∷ []

-- the body adds 1, where the lock is free and t is a thread: so it refines the action that adds 1, and not the one that adds 2
abbrev pub AddingFails : Type 0
AddingFails =
    (Tells (violated (adding 2) (Path Perform 2 4 0)) ((increment_row 0 0 1, true) ∷ (increment_row 2 0 1, false) ∷ (increment_row 0 0 0, false) ∷ []))
    × (Tells (violated (adding 1) (Path Perform 2 4 0)) ((increment_row 0 0 1, false) ∷ []))
