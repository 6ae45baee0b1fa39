-- A spinlock, a counter under it, and two threads that increment the counter. Layer 1 takes the lock's implementation
-- for atomic actions, and layer 2 the increment.
--
--   civl 1; layers 2; permissions 2;
--   global b : bool layers 0 to 0;
--   global lock : word(2) layers 1 to 1;
--   global x : word(8) layers 0 to 2;
--   init (((!b) && (lock == 0:2)) && (x == 0:8));
--   invariant 1 (b == (lock != 0:2));
--   action Cas() -> (val ok : bool) choose () layers 0 to 0 atomic gate true guard true { b := true; ok := (!b); }
--   action Reset() -> () choose () layers 0 to 0 atomic gate true guard true { b := false; }
--   action Load() -> (val v : word(8)) choose () layers 0 to 0 atomic gate true guard true { v := x; }
--   action Store(val v : word(8)) -> () choose () layers 0 to 0 atomic gate true guard true { x := v; }
--   action AtomAcquire(lend t : word(2)) -> () choose () layers 1 to 1 right
--     gate (t != 0:2) guard (lock == 0:2) { lock := t; }
--   action AtomRelease(lend t : word(2)) -> () choose () layers 1 to 1 left
--     gate ((t != 0:2) && (lock == t)) guard true { lock := 0:2; }
--   action AtomRead(lend t : word(2)) -> (val v : word(8)) choose () layers 1 to 1 both
--     gate ((t != 0:2) && (lock == t)) guard true { v := x; }
--   action AtomWrite(lend t : word(2), val v : word(8)) -> () choose () layers 1 to 1 both
--     gate ((t != 0:2) && (lock == t)) guard true { x := v; }
--   action AtomIncr(lend t : word(2)) -> () choose () layers 2 to 2 atomic
--     gate (t != 0:2) guard true { x := (x + 1:8); }
--   proc Acquire(lend t : word(2)) -> () refines AtomAcquire with () layer 1 {
--     var ok : bool;
--     while yield (!ok) inv (ok == done) {
--       call Cas() -> (ok);
--       if ok { commit; intro lock := t; } else { }
--     }
--   }
--   proc Release(lend t : word(2)) -> () refines AtomRelease with () layer 1
--     { call Reset() -> (); commit; intro lock := 0:2; }
--   proc Read(lend t : word(2)) -> (val v : word(8)) refines AtomRead with () layer 1
--     { call Load() -> (v); commit; }
--   proc Write(lend t : word(2), val v : word(8)) -> () refines AtomWrite with () layer 1
--     { call Store(v) -> (); commit; }
--   proc Incr(lend t : word(2)) -> () refines AtomIncr with () layer 2 {
--     var v : word(8);
--     call Acquire(t) -> (); call Read(t) -> (v); call Write(t, (v + 1:8)) -> (); call Release(t) -> (); commit;
--   }
--   proc Main(lend t : word(2)) -> () root { call Incr(t) -> (); }
--   thread Main(1:2);
--   thread Main(2:2);
use Rattle.std.specs.Prelude.{ℕ, ◌≡◌, true, false, List, [], ◌∷◌, map, Option, Some, None, codes}
use Rattle.civl_bits.specs.declared.value.Value.{Value}
use Rattle.civl_tree.specs.declared.name.Name.{Name}
use Rattle.civl_tree.specs.declared.expr.Expr.{Expr}
use Rattle.civl_tree.specs.declared.expr.Expr as expr
use Rattle.civl_tree.specs.declared.expr.One.TheVariants.{Not}
use Rattle.civl_tree.specs.declared.expr.Two.TheVariants.{Add, And, Eq, Ne}
use Rattle.civl_tree.specs.declared.expr.Sort.{Sort}
use Rattle.civl_tree.specs.declared.expr.Sort.TheVariants as sort
use Rattle.civl_tree.specs.declared.action.Mode.TheVariants.{Val, Lend}
use Rattle.civl_tree.specs.declared.action.Mover.{Mover}
use Rattle.civl_tree.specs.declared.action.Mover.TheVariants as mover
use Rattle.civl_tree.specs.declared.action.Param.{Param}
use Rattle.civl_tree.specs.declared.action.Update.{Update}
use Rattle.civl_tree.specs.declared.action.Action.{Action}
use Rattle.civl_tree.specs.declared.program.Proc.{Proc}
use Rattle.civl_tree.specs.declared.program.Program.{Program}
use Rattle.civl_tree.specs.declared.stmt.Stmt as stmt
use Rattle.civl_meaning.specs.declared.config.Plain.{Plain}
use Rattle.civl_meaning.specs.Meaning.{Meaning, Does, Runs, Missing, called}
use Rattle.civl_meaning.specs.Layers.{program_at, lowest, topmost}
use Rattle.civl_meaning.specs.Initial.{IsInitial}
use Rattle.civl_firing.specs.examples.Written.{word, bool, named, name, lit, global, param, local, update, refines, root, proc, thread, call, holding}

abbrev tid : Sort
tid = sort.Word 2

abbrev byte : Sort
byte = sort.Word 8

abbrev x : Expr
x = name (codes "x")

abbrev t : Expr
t = name (codes "t")

abbrev v : Expr
v = name (codes "v")

-- `lend t : word(2)`, and more parameters
abbrev lent : List Param → List Param
lent more = param Lend (codes "t") tid ∷ more

-- `val v : word(8)`
abbrev value_v : List Param
value_v = param Val (codes "v") byte ∷ []

abbrev act : List ℕ → List Param → List Param → ℕ → Mover → Expr → Expr → List Update → Action
act bytes params outs layer mover gate guard updates = record {
  name = named bytes;
  params = params;
  outs = outs;
  choices = [];
  first = layer;
  last = layer;
  mover = mover;
  gate = gate;
  guard = guard;
  updates = updates;
}

-- `t != 0:2`, and the lock is t's
abbrev is_thread : Expr
is_thread = expr.Two Ne t (lit 0 2)

abbrev owns : Expr
owns = expr.Two And is_thread (expr.Two Eq (name (codes "lock")) t)

abbrev acquire : Proc
acquire = proc (codes "Acquire") (lent []) [] (refines (codes "AtomAcquire") 1) (local (codes "ok") sort.Bool ∷ []) (
    stmt.YieldLoop (expr.One Not (name (codes "ok"))) (expr.Two Eq (name (codes "ok")) expr.Done) (
    call (codes "Cas") [] (named (codes "ok") ∷ [])
    ∷ stmt.If (name (codes "ok")) (stmt.Commit ∷ stmt.Intro (named (codes "lock")) t ∷ []) []
    ∷ []
    )
    ∷ []
    )

abbrev increment : Proc
increment = proc (codes "Incr") (lent []) [] (refines (codes "AtomIncr") 2) (local (codes "v") byte ∷ []) (
    call (codes "Acquire") (t ∷ []) []
    ∷ call (codes "Read") (t ∷ []) (named (codes "v") ∷ [])
    ∷ call (codes "Write") (t ∷ expr.Two Add v (lit 1 8) ∷ []) []
    ∷ call (codes "Release") (t ∷ []) []
    ∷ stmt.Commit
    ∷ []
    )

-- with these arguments for the two threads
abbrev pub spinlock : ℕ → ℕ → Program
spinlock first second = record {
  version = 1;
  layers = 2;
  permissions = 2;
  globals = global (codes "b") sort.Bool 0 0 ∷ global (codes "lock") tid 1 1 ∷ global (codes "x") byte 0 2 ∷ [];
  init = expr.Two And (expr.Two And (expr.One Not (name (codes "b"))) (expr.Two Eq (name (codes "lock")) (lit 0 2))) (expr.Two Eq x (lit 0 8));
  invariants = record { step = 1; expr = expr.Two Eq (name (codes "b")) (expr.Two Ne (name (codes "lock")) (lit 0 2)) } ∷ [];
  actions =
      act (codes "Cas") [] (param Val (codes "ok") sort.Bool ∷ []) 0 mover.Atomic expr.True expr.True (
      update (codes "b") expr.True ∷ update (codes "ok") (expr.One Not (name (codes "b"))) ∷ []
      )
      ∷ act (codes "Reset") [] [] 0 mover.Atomic expr.True expr.True (update (codes "b") expr.False ∷ [])
      ∷ act (codes "Load") [] value_v 0 mover.Atomic expr.True expr.True (update (codes "v") x ∷ [])
      ∷ act (codes "Store") value_v [] 0 mover.Atomic expr.True expr.True (update (codes "x") v ∷ [])
      ∷ act (codes "AtomAcquire") (lent []) [] 1 mover.Right is_thread (expr.Two Eq (name (codes "lock")) (lit 0 2)) (update (codes "lock") t ∷ [])
      ∷ act (codes "AtomRelease") (lent []) [] 1 mover.Left owns expr.True (update (codes "lock") (lit 0 2) ∷ [])
      ∷ act (codes "AtomRead") (lent []) value_v 1 mover.Both owns expr.True (update (codes "v") x ∷ [])
      ∷ act (codes "AtomWrite") (lent value_v) [] 1 mover.Both owns expr.True (update (codes "x") v ∷ [])
      ∷ act (codes "AtomIncr") (lent []) [] 2 mover.Atomic is_thread expr.True (update (codes "x") (expr.Two Add x (lit 1 8)) ∷ [])
      ∷ [];
  procs =
      acquire
      ∷ proc (codes "Release") (lent []) [] (refines (codes "AtomRelease") 1) [] (
      call (codes "Reset") [] [] ∷ stmt.Commit ∷ stmt.Intro (named (codes "lock")) (lit 0 2) ∷ []
      )
      ∷ proc (codes "Read") (lent []) value_v (refines (codes "AtomRead") 1) [] (call (codes "Load") [] (named (codes "v") ∷ []) ∷ stmt.Commit ∷ [])
      ∷ proc (codes "Write") (lent value_v) [] (refines (codes "AtomWrite") 1) [] (call (codes "Store") (v ∷ []) [] ∷ stmt.Commit ∷ [])
      ∷ increment
      ∷ proc (codes "Main") (lent []) [] root [] (call (codes "Incr") (t ∷ []) [] ∷ [])
      ∷ [];
  threads = thread (codes "Main") (lit first 2 ∷ []) ∷ thread (codes "Main") (lit second 2 ∷ []) ∷ [];
}

-- the two threads hold the permissions 1 and 2
abbrev pub TwoThreadsAreInitial : Type 0
TwoThreadsAreInitial = IsInitial (spinlock 1 2) (holding (bool false ∷ word 2 0 ∷ word 8 0 ∷ []))

-- two threads with one permission: no store is initial
abbrev pub OneNumberTwice : Type 0
OneNumberTwice = (b lock x : Value) → IsInitial (spinlock 1 1) (holding (b ∷ lock ∷ x ∷ [])) → ⊥

-- whose calls mean bodies, in the programs of the layers 0, 1 and 2
abbrev pub BodiesByLayer : Type 0
BodiesByLayer =
    map (λ (p : Plain). p.bodies) (lowest (spinlock 1 2) ∷ program_at (spinlock 1 2) 1 ∷ topmost (spinlock 1 2) ∷ [])
    ≡ (true ∷ true ∷ true ∷ true ∷ true ∷ true ∷ []) ∷ (false ∷ false ∷ false ∷ false ∷ true ∷ true ∷ []) ∷ (false ∷ false ∷ false ∷ false ∷ false ∷ true ∷ []) ∷ []

-- an action by its name, a body by its number
abbrev pub meant : Meaning → Option (List ℕ) × Option ℕ
meant (Does a) = (Some a.name.bytes, None)
meant (Runs n p) = (None, Some n)
meant Missing = (None, None)

abbrev pub NamesByLayer : Type 0
NamesByLayer =
    map (λ (c : Plain × Name). meant (called c.0 c.1)) (
    (lowest (spinlock 1 2), named (codes "Acquire"))
    ∷ (program_at (spinlock 1 2) 1, named (codes "Acquire"))
    ∷ (program_at (spinlock 1 2) 1, named (codes "Incr"))
    ∷ (topmost (spinlock 1 2), named (codes "Incr"))
    ∷ (topmost (spinlock 1 2), named (codes "Main"))
    ∷ (lowest (spinlock 1 2), named (codes "Cas"))
    ∷ (lowest (spinlock 1 2), named (codes "None"))
    ∷ []
    )
    ≡ (None, Some 0) ∷ (Some (codes "AtomAcquire"), None) ∷ (None, Some 4) ∷ (Some (codes "AtomIncr"), None) ∷ (None, Some 5) ∷ (Some (codes "Cas"), None) ∷ (None, None) ∷ []
