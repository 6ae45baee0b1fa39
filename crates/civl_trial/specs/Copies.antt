-- The declarations of one copy of a spinlock and a counter, each in the order and the words of its text. A flag, set by
-- compare and swap, is refined by a lock that says which thread holds it; reads and writes under the lock are refined
-- by one increment.
use Rattle.std.specs.Prelude.{ℕ, false, Some, List, [], ◌∷◌}
use Rattle.civl_tree.specs.declared.expr.Sort.TheVariants.{Bool, Word}
use Rattle.civl_tree.specs.declared.expr.One.TheVariants.{Not}
use Rattle.civl_tree.specs.declared.expr.Expr.{Expr, True, False, Done, Literal, One}
use Rattle.civl_tree.specs.declared.stmt.Stmt.{Stmt, If, YieldLoop, Call, Commit, Intro}
use Rattle.civl_tree.specs.declared.action.Mover.TheVariants.{Atomic, Right, Left, Both}
use Rattle.civl_tree.specs.declared.action.Action.{Action}
use Rattle.civl_tree.specs.declared.program.Global.{Global}
use Rattle.civl_tree.specs.declared.program.Invariant.{Invariant}
use Rattle.civl_tree.specs.declared.program.Proc.{Proc}
use Rattle.civl_trial.specs.Phrases.{named, of_copy, local, global, equal, different, both, sum_of, val, lend, becomes, var}

-- ---- globals, their first values, and what joins them

-- global b : bool layers 0 to 0 ;
abbrev pub flag : ℕ → Global
flag copy = record { linear = false; name = of_copy "b" copy; sort = Bool; first = 0; last = 0 }

-- global lock : word(2) layers 1 to 1 ;
abbrev pub lock : ℕ → Global
lock copy = record { linear = false; name = of_copy "lock" copy; sort = Word 2; first = 1; last = 1 }

-- global x : word(8) layers 0 to 2 ;
abbrev pub counter : ℕ → Global
counter copy = record { linear = false; name = of_copy "x" copy; sort = Word 8; first = 0; last = 2 }

-- (lock == 0:2)
abbrev pub lock_is_free : ℕ → Expr
lock_is_free copy = equal (global "lock" copy) (Literal 0 2)

-- (x == 0:8)
abbrev pub counts_nothing : ℕ → Expr
counts_nothing copy = equal (global "x" copy) (Literal 0 8)

-- (((!b) && (lock == 0:2)) && (x == 0:8)): what `init` asks of the copy
abbrev pub starts : ℕ → Expr
starts copy = both (both (One Not (global "b" copy)) (lock_is_free copy)) (counts_nothing copy)

-- invariant 1 (b == (lock != 0:2)) ;
abbrev pub flag_is_lock : ℕ → Invariant
flag_is_lock copy = record { step = 1; expr = equal (global "b" copy) (different (global "lock" copy) (Literal 0 2)) }

-- ---- actions of layer 0

-- action Cas() -> (val ok : bool) choose () layers 0 to 0 atomic gate true guard true { b := true; ok := (!b); }
abbrev pub cas : ℕ → Action
cas copy = record {
  name = of_copy "Cas" copy;
  params = [];
  outs = val "ok" Bool ∷ [];
  choices = [];
  first = 0;
  last = 0;
  mover = Atomic;
  gate = True;
  guard = True;
  updates = becomes (of_copy "b" copy) True ∷ becomes (named "ok") (One Not (global "b" copy)) ∷ [];
}

-- action Reset() -> () choose () layers 0 to 0 atomic gate true guard true { b := false; }
abbrev pub reset : ℕ → Action
reset copy = record {
  name = of_copy "Reset" copy;
  params = [];
  outs = [];
  choices = [];
  first = 0;
  last = 0;
  mover = Atomic;
  gate = True;
  guard = True;
  updates = becomes (of_copy "b" copy) False ∷ [];
}

-- action Load() -> (val v : word(8)) choose () layers 0 to 0 atomic gate true guard true { v := x; }
abbrev pub load : ℕ → Action
load copy = record {
  name = of_copy "Load" copy;
  params = [];
  outs = val "v" (Word 8) ∷ [];
  choices = [];
  first = 0;
  last = 0;
  mover = Atomic;
  gate = True;
  guard = True;
  updates = becomes (named "v") (global "x" copy) ∷ [];
}

-- action Store(val v : word(8)) -> () choose () layers 0 to 0 atomic gate true guard true { x := v; }
abbrev pub store : ℕ → Action
store copy = record {
  name = of_copy "Store" copy;
  params = val "v" (Word 8) ∷ [];
  outs = [];
  choices = [];
  first = 0;
  last = 0;
  mover = Atomic;
  gate = True;
  guard = True;
  updates = becomes (of_copy "x" copy) (local "v") ∷ [];
}

-- ---- actions of layers 1 and 2

-- (t != 0:2)
abbrev pub is_thread : Expr
is_thread = different (local "t") (Literal 0 2)

-- ((t != 0:2) && (lock == t))
abbrev pub is_holder : ℕ → Expr
is_holder copy = both is_thread (equal (global "lock" copy) (local "t"))

-- action AtomAcquire(lend t : word(2)) -> () choose () layers 1 to 1 right
-- gate (t != 0:2) guard (lock == 0:2) { lock := t; }
abbrev pub atom_acquire : ℕ → Action
atom_acquire copy = record {
  name = of_copy "AtomAcquire" copy;
  params = lend "t" (Word 2) ∷ [];
  outs = [];
  choices = [];
  first = 1;
  last = 1;
  mover = Right;
  gate = is_thread;
  guard = lock_is_free copy;
  updates = becomes (of_copy "lock" copy) (local "t") ∷ [];
}

-- action AtomRelease(lend t : word(2)) -> () choose () layers 1 to 1 left
-- gate ((t != 0:2) && (lock == t)) guard true { lock := 0:2; }
abbrev pub atom_release : ℕ → Action
atom_release copy = record {
  name = of_copy "AtomRelease" copy;
  params = lend "t" (Word 2) ∷ [];
  outs = [];
  choices = [];
  first = 1;
  last = 1;
  mover = Left;
  gate = is_holder copy;
  guard = True;
  updates = becomes (of_copy "lock" copy) (Literal 0 2) ∷ [];
}

-- action AtomRead(lend t : word(2)) -> (val v : word(8)) choose () layers 1 to 1 both
-- gate ((t != 0:2) && (lock == t)) guard true { v := x; }
abbrev pub atom_read : ℕ → Action
atom_read copy = record {
  name = of_copy "AtomRead" copy;
  params = lend "t" (Word 2) ∷ [];
  outs = val "v" (Word 8) ∷ [];
  choices = [];
  first = 1;
  last = 1;
  mover = Both;
  gate = is_holder copy;
  guard = True;
  updates = becomes (named "v") (global "x" copy) ∷ [];
}

-- action AtomWrite(lend t : word(2), val v : word(8)) -> () choose () layers 1 to 1 both
-- gate ((t != 0:2) && (lock == t)) guard true { x := v; }
abbrev pub atom_write : ℕ → Action
atom_write copy = record {
  name = of_copy "AtomWrite" copy;
  params = lend "t" (Word 2) ∷ val "v" (Word 8) ∷ [];
  outs = [];
  choices = [];
  first = 1;
  last = 1;
  mover = Both;
  gate = is_holder copy;
  guard = True;
  updates = becomes (of_copy "x" copy) (local "v") ∷ [];
}

-- action AtomIncr(lend t : word(2)) -> () choose () layers 2 to 2 atomic
-- gate (t != 0:2) guard true { x := (x + 1:8); }
abbrev pub atom_incr : ℕ → Action
atom_incr copy = record {
  name = of_copy "AtomIncr" copy;
  params = lend "t" (Word 2) ∷ [];
  outs = [];
  choices = [];
  first = 2;
  last = 2;
  mover = Atomic;
  gate = is_thread;
  guard = True;
  updates = becomes (of_copy "x" copy) (sum_of (global "x" copy) (Literal 1 8)) ∷ [];
}

-- ---- procedures

-- call Cas() -> (ok); if ok { commit; intro lock := t; } else { }
abbrev pub tries_once : ℕ → List Stmt
tries_once copy =
    Call (of_copy "Cas" copy) [] (named "ok" ∷ [])
    ∷ If (local "ok") (Commit ∷ Intro (of_copy "lock" copy) (local "t") ∷ []) []
    ∷ []

-- proc Acquire(lend t : word(2)) -> () refines AtomAcquire with () layer 1
-- { var ok : bool; while yield (!ok) inv (ok == done) { .. } }
abbrev pub acquire : ℕ → Proc
acquire copy = record {
  name = of_copy "Acquire" copy;
  params = lend "t" (Word 2) ∷ [];
  outs = [];
  refines = Some (record { action = of_copy "AtomAcquire" copy; with = []; layer = 1 });
  locals = var "ok" Bool ∷ [];
  body = YieldLoop (One Not (local "ok")) (equal (local "ok") Done) (tries_once copy) ∷ [];
}

-- proc Release(lend t : word(2)) -> () refines AtomRelease with () layer 1
-- { call Reset() -> (); commit; intro lock := 0:2; }
abbrev pub release : ℕ → Proc
release copy = record {
  name = of_copy "Release" copy;
  params = lend "t" (Word 2) ∷ [];
  outs = [];
  refines = Some (record { action = of_copy "AtomRelease" copy; with = []; layer = 1 });
  locals = [];
  body = Call (of_copy "Reset" copy) [] [] ∷ Commit ∷ Intro (of_copy "lock" copy) (Literal 0 2) ∷ [];
}

-- proc Read(lend t : word(2)) -> (val v : word(8)) refines AtomRead with () layer 1 { call Load() -> (v); commit; }
abbrev pub read : ℕ → Proc
read copy = record {
  name = of_copy "Read" copy;
  params = lend "t" (Word 2) ∷ [];
  outs = val "v" (Word 8) ∷ [];
  refines = Some (record { action = of_copy "AtomRead" copy; with = []; layer = 1 });
  locals = [];
  body = Call (of_copy "Load" copy) [] (named "v" ∷ []) ∷ Commit ∷ [];
}

-- proc Write(lend t : word(2), val v : word(8)) -> () refines AtomWrite with () layer 1
-- { call Store(v) -> (); commit; }
abbrev pub write : ℕ → Proc
write copy = record {
  name = of_copy "Write" copy;
  params = lend "t" (Word 2) ∷ val "v" (Word 8) ∷ [];
  outs = [];
  refines = Some (record { action = of_copy "AtomWrite" copy; with = []; layer = 1 });
  locals = [];
  body = Call (of_copy "Store" copy) (local "v" ∷ []) [] ∷ Commit ∷ [];
}

-- proc Incr(lend t : word(2)) -> () refines AtomIncr with () layer 2 { var v : word(8);
-- call Acquire(t) -> (); call Read(t) -> (v); call Write(t, (v + 1:8)) -> (); call Release(t) -> (); commit; }
abbrev pub incr : ℕ → Proc
incr copy = record {
  name = of_copy "Incr" copy;
  params = lend "t" (Word 2) ∷ [];
  outs = [];
  refines = Some (record { action = of_copy "AtomIncr" copy; with = []; layer = 2 });
  locals = var "v" (Word 8) ∷ [];
  body =
      Call (of_copy "Acquire" copy) (local "t" ∷ []) []
      ∷ Call (of_copy "Read" copy) (local "t" ∷ []) (named "v" ∷ [])
      ∷ Call (of_copy "Write" copy) (local "t" ∷ sum_of (local "v") (Literal 1 8) ∷ []) []
      ∷ Call (of_copy "Release" copy) (local "t" ∷ []) []
      ∷ Commit
      ∷ [];
}

-- ---- the declarations of a copy, section by section

abbrev pub globals_of : ℕ → List Global
globals_of copy = flag copy ∷ lock copy ∷ counter copy ∷ []

abbrev pub invariants_of : ℕ → List Invariant
invariants_of copy = flag_is_lock copy ∷ []

abbrev pub actions_of : ℕ → List Action
actions_of copy =
    cas copy ∷ reset copy ∷ load copy ∷ store copy
    ∷ atom_acquire copy ∷ atom_release copy ∷ atom_read copy ∷ atom_write copy ∷ atom_incr copy
    ∷ []

abbrev pub procs_of : ℕ → List Proc
procs_of copy = acquire copy ∷ release copy ∷ read copy ∷ write copy ∷ incr copy ∷ []
