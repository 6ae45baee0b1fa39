-- A lock and what it guards, with movers that fail:
--
--     civl 1; layers 1; permissions 1;
--     global f : bool layers 0 to 1;
--     global x : word(8) layers 0 to 1;
--     init true;
--     action Lock() -> () choose () layers 0 to 0 right gate true guard (!f) { f := true; }
--     action Free() -> () choose () layers 0 to 0 right gate true guard f { f := false; }
--     action Clear() -> () choose () layers 0 to 0 both gate true guard true { f := false; }
--     action Read() -> (val v : word(8)) choose () layers 0 to 0 right gate true guard true { v := x; }
--     action Write(val w : word(8)) -> () choose () layers 0 to 0 right gate f guard true { x := w; }
--     action Pick(val b : bool) -> () choose (c : bool = b) layers 0 to 0 left gate f guard c { }
use Rattle.std.specs.Prelude.{ℕ, ◌≡◌, Bool, true, false, List, [], ◌∷◌, Option, None, Some, codes}
use Rattle.civl_bits.specs.declared.value.Value.{Value}
use Rattle.civl_tree.specs.declared.expr.Expr.{Expr}
use Rattle.civl_tree.specs.declared.expr.Expr as expr
use Rattle.civl_tree.specs.declared.expr.One.TheVariants.{Not}
use Rattle.civl_tree.specs.declared.expr.Sort.TheVariants as sort
use Rattle.civl_tree.specs.declared.action.Mode.TheVariants.{Val}
use Rattle.civl_tree.specs.declared.action.Mover.{Mover}
use Rattle.civl_tree.specs.declared.action.Mover.TheVariants.{Right, Left, Both}
use Rattle.civl_tree.specs.declared.action.Action.{Action}
use Rattle.civl_tree.specs.declared.program.Program.{Program}
use Rattle.civl_firing.specs.declared.store.Store.{Store}
use Rattle.civl_firing.specs.examples.Written.{word, bool, name, global, param, choice, update, action, holding}
use Rattle.civl_conditions.specs.declared.condition.Condition.TheVariants.{Pair, Fire}
use Rattle.civl_clashes.specs.declared.violations.Effect.{Effect}
use Rattle.civl_clashes.specs.declared.violations.Instance.{Instance}
use Rattle.civl_clashes.specs.declared.violations.Which.TheVariants.{First}
use Rattle.civl_clashes.specs.declared.violations.Place.TheVariants as place
use Rattle.civl_clashes.specs.declared.violations.Exchanged.{Exchanged}
use Rattle.civl_clashes.specs.declared.violations.Exchanged.TheVariants.{WaitsAtOnce, WaitsBehind, Ends}
use Rattle.civl_clashes.specs.declared.violations.Violation.{Violation}
use Rattle.civl_clashes.specs.declared.violations.Violation.TheVariants.{Clashes, Spoils, Reveals, Waits}
use Rattle.civl_clashes.specs.Effects.{order}
use Rattle.civl_clashes.specs.Told.{violation}

abbrev f : Expr
f = name (codes "f")

abbrev moving : Mover → Action → Action
moving mover a = record a { mover = mover }

abbrev sets_f : Mover → List ℕ → Expr → Expr → Action
sets_f mover bytes guard e = moving mover (action bytes [] [] [] 0 0 expr.True guard (update (codes "f") e ∷ []))

abbrev locking : Program
locking = record {
  version = 1;
  layers = 1;
  permissions = 1;
  globals = global (codes "f") sort.Bool 0 1 ∷ global (codes "x") (sort.Word 8) 0 1 ∷ [];
  init = expr.True;
  invariants = [];
  actions =
      sets_f Right (codes "Lock") (expr.One Not f) expr.True
      ∷ sets_f Right (codes "Free") f expr.False
      ∷ sets_f Both (codes "Clear") expr.True expr.False
      ∷ moving Right (action (codes "Read") [] (param Val (codes "v") (sort.Word 8)
      ∷ []) [] 0 0 expr.True expr.True (update (codes "v") (name (codes "x")) ∷ []))
      ∷ moving Right (action (codes "Write") (param Val (codes "w") (sort.Word 8) ∷ []) [] [] 0 0 f expr.True (update (codes "x")
      (name (codes "w")) ∷ []))
      ∷ moving Left (action (codes "Pick") (param Val (codes "b") sort.Bool ∷ []) [] (choice (codes "c") sort.Bool (name (codes "b"))
      ∷ []) 0 0 f (name (codes "c")) [])
      ∷ [];
  procs = [];
  threads = [];
}

-- f and x
abbrev store : Bool → ℕ → Store
store b n = holding (bool b ∷ word 8 n ∷ [])

abbrev leaves : Bool → ℕ → List Value → Effect
leaves b n outs = record { store = store b n; outs = outs }

abbrev plain : ℕ → Instance
plain m = record { action = m; inputs = []; chosen = [] }

abbrev writing : ℕ → Instance
writing n = record { action = 4; inputs = word 8 n ∷ []; chosen = [] }

abbrev clash : Store → Instance → Instance → Effect → Effect → Exchanged → Option Violation
clash g m n a b e = Some (Clashes (record { store = g; first = m; second = n }) (record { kept = order a b; exchanged = e }))

-- ---- K3 and K5

-- Lock and then Free; but where the lock is free, Free waits at once
abbrev pub LockClashes : Type 0
LockClashes = violation locking (Pair 3 1 0 1) (bool false ∷ word 8 3 ∷ [])
    ≡ clash (store false 3) (plain 0) (plain 1) (leaves true 3 []) (leaves false 3 []) WaitsAtOnce

-- where it is held, Lock itself waits, and nothing is told
abbrev pub HeldLockDoesNot : Type 0
HeldLockDoesNot = violation locking (Pair 3 1 0 1) (bool true ∷ word 8 3 ∷ []) ≡ None

-- Free and then Clear; but behind Clear, Free waits. K5 asks it of the second action and then the first
abbrev pub FreeClashes : Type 0
FreeClashes =
    (violation locking (Pair 3 1 1 2) (bool true ∷ word 8 3 ∷ []) ≡ clash (store true 3) (plain 1) (plain 2) (leaves false 3 [])
    (leaves false 3 []) (WaitsBehind (leaves false 3 [])))
    × (violation locking (Pair 5 1 2 1) (bool true ∷ word 8 3 ∷ []) ≡ clash (store true 3) (plain 1) (plain 2) (leaves false 3 [])
    (leaves false 3 []) (WaitsBehind (leaves false 3 [])))

-- Read gives 3 before Write, and 7 behind it
abbrev pub ReadClashes : Type 0
ReadClashes =
    violation locking (Pair 3 1 3 4) (bool true ∷ word 8 3 ∷ word 8 7 ∷ [])
    ≡ clash (store true 3) (plain 3) (writing 7) (leaves true 3 (word 8 3 ∷ [])) (leaves true 7 []) (
    Ends (order (leaves true 7 []) (leaves true 7 (word 8 7 ∷ [])))
    (record { place = place.Output First 0; kept = word 8 3; exchanged = word 8 7 } ∷ [])
    )

-- of two that write, the later one's value stays; where both write the same, nothing is told
abbrev pub WriteClashes : Type 0
WriteClashes =
    (violation locking (Pair 3 1 4 4) (bool true ∷ word 8 3 ∷ word 8 7 ∷ word 8 9 ∷ [])
    ≡ clash (store true 3) (writing 7) (writing 9) (leaves true 7 []) (leaves true 9 []) (
    Ends (order (leaves true 9 []) (leaves true 7 [])) (record { place = place.Global 1; kept = word 8 9; exchanged = word 8 7 } ∷ [])
    ))
    × (violation locking (Pair 3 1 4 4) (bool true ∷ word 8 3 ∷ word 8 7 ∷ word 8 7 ∷ []) ≡ None)

-- ---- K4, K6 and K7

-- Free makes the gate of Write false, and Lock makes it true
abbrev pub GateChanges : Type 0
GateChanges =
    (violation locking (Pair 4 1 1 4) (bool true ∷ word 8 3 ∷ word 8 7 ∷ [])
    ≡ Some (Spoils (record { store = store true 3; first = plain 1; second = writing 7 }) (leaves false 3 [])))
    × (violation locking (Pair 6 1 4 1) (bool true ∷ word 8 3 ∷ word 8 7 ∷ [])
    ≡ Some (Spoils (record { store = store true 3; first = plain 1; second = writing 7 }) (leaves false 3 [])))
    × (violation locking (Pair 4 1 0 4) (bool false ∷ word 8 3 ∷ word 8 7 ∷ []) ≡ None)
    × (violation locking (Pair 7 1 0 4) (bool false ∷ word 8 3 ∷ word 8 7 ∷ [])
    ≡ Some (Reveals (record { store = store false 3; first = plain 0; second = writing 7 }) (leaves true 3 [])))

-- ---- K8

-- Pick waits at the choice that it offers, where its gate is true
abbrev pub PickWaits : Type 0
PickWaits =
    (violation locking (Fire 1 5) (bool true ∷ word 8 3 ∷ bool false ∷ [])
    ≡ Some (Waits (store true 3) (record { action = 5; inputs = bool false ∷ []; chosen = bool false ∷ [] })))
    × (violation locking (Fire 1 5) (bool true ∷ word 8 3 ∷ bool true ∷ []) ≡ None)
    × (violation locking (Fire 1 5) (bool false ∷ word 8 3 ∷ bool false ∷ []) ≡ None)
