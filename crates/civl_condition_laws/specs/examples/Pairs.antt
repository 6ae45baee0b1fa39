-- Values that violate conditions on two actions, and the same with one value changed.
use Rattle.std.specs.Prelude.{ℕ, ◌≡◌, Bool, true, false, List, [], ◌∷◌, map, codes}
use Rattle.civl_tree.specs.declared.expr.Expr.{Expr}
use Rattle.civl_tree.specs.declared.expr.Expr as expr
use Rattle.civl_tree.specs.declared.expr.Sort.TheVariants as sort
use Rattle.civl_tree.specs.declared.action.Mode.TheVariants.{Val, Lend}
use Rattle.civl_tree.specs.declared.action.Mover.TheVariants.{Right, Left, Both}
use Rattle.civl_tree.specs.declared.action.Action.{Action}
use Rattle.civl_tree.specs.declared.program.Program.{Program}
use Rattle.civl_firing.specs.examples.Written.{word, bool, name, global, param, choice, update, action}
use Rattle.civl_conditions.specs.declared.condition.Condition.TheVariants.{Pair}
use Rattle.civl_conditions.specs.Listed.{conditions}
use Rattle.civl_conditions.specs.Violated.{violated}
use Rattle.civl_condition_laws.specs.examples.Short.{moving, not_so, linear_global, one_step}

abbrev f : Expr
f = name (codes "f")

-- two actions over a flag
abbrev two : Action → Action → Program
two x y = one_step (global (codes "f") sort.Bool 0 1 ∷ []) [] (x ∷ y ∷ []) []

-- `action NAME() -> () choose () layers 0 to 0 atomic gate GATE guard GUARD { f := e; }`
abbrev sets : List ℕ → Expr → Expr → Expr → Action
sets bytes gate guard e = action bytes [] [] [] 0 0 gate guard (update (codes "f") e ∷ [])

-- `gate GATE guard true { }`
abbrev asks : List ℕ → Expr → Action
asks bytes gate = action bytes [] [] [] 0 0 gate expr.True []

abbrev flags : List Bool
flags = false ∷ true ∷ []

-- which values of f violate this condition
abbrev fails_by : Program → ℕ → List Bool
fails_by program number = map (λ b. violated program (Pair number 1 0 1) (bool b ∷ [])) flags

-- ---- all conditions of one program

-- action Clear() -> () choose () layers 0 to 0 right gate true guard true { f := false; }
-- action Need() -> () choose () layers 0 to 0 atomic gate f guard true { }
abbrev clearing : Program
clearing = two (moving Right (sets (codes "Clear") expr.True expr.True expr.False)) (asks (codes "Need") f)

-- K2 of both, K3 and K4 of Clear with itself and with Need: the last fails where f is true, and no other does
abbrev pub ClearingConditions : Type 0
ClearingConditions =
    map (λ c. map (λ b. violated clearing c (bool b ∷ [])) flags) (conditions clearing)
    ≡ (false ∷ false ∷ [])
    ∷ (false ∷ false ∷ [])
    ∷ (false ∷ false ∷ [])
    ∷ (false ∷ false ∷ [])
    ∷ (false ∷ false ∷ [])
    ∷ (false ∷ true ∷ [])
    ∷ []

-- ---- K3

-- global x : word(8) layers 0 to 1;
-- action Read() -> (val v : word(8)) choose () layers 0 to 0 right gate true guard true { v := x; }
-- action Write(val w : word(8)) -> () choose () layers 0 to 0 atomic gate true guard true { x := w; }
abbrev reading : Program
reading =
    one_step (global (codes "x") (sort.Word 8) 0 1 ∷ []) [] (
    moving Right (action (codes "Read") [] (param Val (codes "v") (sort.Word 8) ∷ []) [] 0 0 expr.True expr.True (update (codes "v") (name (codes "x")) ∷ []))
    ∷ action (codes "Write") (param Val (codes "w") (sort.Word 8) ∷ []) [] [] 0 0 expr.True expr.True (update (codes "x") (name (codes "w")) ∷ [])
    ∷ []
    ) []

-- x and w: what is read differs, unless it is what is written
abbrev pub ReadingClashes : Type 0
ReadingClashes = map (violated reading (Pair 3 1 0 1)) ((word 8 0 ∷ word 8 1 ∷ []) ∷ (word 8 1 ∷ word 8 1 ∷ []) ∷ []) ≡ true ∷ false ∷ []

-- action Put() -> () choose (c : bool = true) layers 0 to 0 right gate true guard true { f := c; }
-- action Get() -> () choose () layers 0 to 0 atomic gate GATE guard f { f := false; }
abbrev handing : Expr → Program
handing gate =
    two (moving Right (action (codes "Put") [] [] (choice (codes "c") sort.Bool expr.True ∷ []) 0 0 expr.True expr.True (update (codes "f") (name (codes "c")) ∷ []))) (
    sets (codes "Get") gate f expr.False
    )

-- f and c. Get fires behind Put where c is true: but not before it where f is false, and where f is true, f is then true in
-- the end. It isn't asked where a gate is false, at the beginning or behind Put
abbrev pub EndingClashes : Type 0
EndingClashes =
    (map (violated (handing expr.True) (Pair 3 1 0 1)) ((bool false ∷ bool true ∷ []) ∷ (bool false ∷ bool false ∷ []) ∷ (bool true ∷ bool true ∷ []) ∷ []) ≡ true ∷ false ∷ true ∷ [])
    × (map (violated (handing f) (Pair 3 1 0 1)) ((bool false ∷ bool true ∷ []) ∷ (bool true ∷ bool true ∷ []) ∷ []) ≡ false ∷ true ∷ [])
    × (map (violated (handing (not_so f)) (Pair 3 1 0 1)) ((bool false ∷ bool true ∷ []) ∷ (bool true ∷ bool true ∷ []) ∷ []) ≡ false ∷ false ∷ [])

-- ---- K5

-- action Free() -> () choose () layers 0 to 0 left gate true guard GUARD { f := false; }
-- action Lock() -> () choose () layers 0 to 0 atomic gate true guard (!f) { f := true; }
abbrev freeing : Expr → Program
freeing guard = two (moving Left (sets (codes "Free") expr.True guard expr.False)) (sets (codes "Lock") expr.True (not_so f) expr.True)

-- Lock and then Free frees, Free and then Lock locks; where f is true, Lock doesn't fire. Also where Free can't come first
abbrev pub FreeingClashes : Type 0
FreeingClashes = (fails_by (freeing expr.True) 5 ≡ true ∷ false ∷ []) × (fails_by (freeing f) 5 ≡ true ∷ false ∷ []) × (fails_by (freeing (not_so f)) 5 ≡ false ∷ false ∷ [])

-- ---- K4 and K6

-- action Use() -> () choose () layers 0 to 0 both gate f guard true { }
-- action Clear() -> () choose () layers 0 to 0 atomic gate true guard GUARD { f := false; }
abbrev needing : Expr → Program
needing guard = two (moving Both (asks (codes "Use") f)) (sets (codes "Clear") expr.True guard expr.False)

-- Clear spoils the gate of Use where that is true and Clear fires; Use spoils nothing
abbrev pub NeedingFails : Type 0
NeedingFails =
    (fails_by (needing expr.True) 6 ≡ false ∷ true ∷ [])
    × (fails_by (needing (not_so f)) 6 ≡ false ∷ false ∷ [])
    × (fails_by (needing expr.True) 4 ≡ false ∷ false ∷ [])
    × (fails_by (needing expr.True) 7 ≡ false ∷ false ∷ [])

-- ---- K7

-- action Set() -> () choose () layers 0 to 0 left gate GATE guard true { f := true; }
-- action Need() -> () choose () layers 0 to 0 atomic gate f guard true { }
abbrev revealing : Expr → Program
revealing gate = two (moving Left (sets (codes "Set") gate expr.True expr.True)) (asks (codes "Need") f)

-- Set makes the gate of Need true, where it was false and Set's own is true
abbrev pub RevealingFails : Type 0
RevealingFails = (fails_by (revealing expr.True) 7 ≡ true ∷ false ∷ []) × (fails_by (revealing f) 7 ≡ false ∷ false ∷ [])

-- ---- permissions that are apart

-- global linear pool : word(2) layers 0 to 1;
-- action Set(lend t : word(1)) -> () choose () layers 0 to 0 left gate true guard true { f := true; }
-- action Need(lend u : word(1)) -> () choose () layers 0 to 0 atomic gate f guard true { }
abbrev sharing : Program
sharing =
    one_step (global (codes "f") sort.Bool 0 1 ∷ linear_global (codes "pool") (sort.Word 2) 0 1 ∷ []) [] (
    moving Left (action (codes "Set") (param Lend (codes "t") (sort.Word 1) ∷ []) [] [] 0 0 expr.True expr.True (update (codes "f") expr.True ∷ []))
    ∷ action (codes "Need") (param Lend (codes "u") (sort.Word 1) ∷ []) [] [] 0 0 f expr.True []
    ∷ []
    ) []

-- f is false; pool, t and u: only with an empty pool and two permissions
abbrev pub ApartFails : Type 0
ApartFails =
    map (λ r. violated sharing (Pair 7 1 0 1) (bool false ∷ r)) ((word 2 0 ∷ word 1 0 ∷ word 1 1 ∷ []) ∷ (word 2 0 ∷ word 1 0 ∷ word 1 0 ∷ []) ∷ (word 2 2 ∷ word 1 0 ∷ word 1 1 ∷ []) ∷ (word 2 0 ∷ word 1 1 ∷ word 1 0 ∷ []) ∷ [])
    ≡ true ∷ false ∷ false ∷ true ∷ []
