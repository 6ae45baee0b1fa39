-- The conditions of a loop whose rank goes from 255 to 0:
--
--     civl 1; layers 1; permissions 1;
--     global x : word(8) layers 0 to 1;
--     init true;
--     action Skip() -> () choose () layers 1 to 1 atomic gate true guard true { }
--     proc Spin() -> () refines Skip with () layer 1 {
--       var i : word(8);
--       0  i := 255:8;
--       1  while rank (i != 0:8) by i inv ((!done) && (x == old(x))) { 2  i := (i - 1:8); }
--       3  commit;
--     }
--     thread Spin();
use Rattle.std.specs.Prelude.{ℕ, ◌≡◌, Bool, true, false, List, [], ◌∷◌, map, codes}
use Rattle.civl_bits.specs.declared.value.Value.{Value}
use Rattle.civl_tree.specs.declared.expr.Expr.{Expr}
use Rattle.civl_tree.specs.declared.expr.Expr as expr
use Rattle.civl_tree.specs.declared.expr.One.TheVariants.{Not}
use Rattle.civl_tree.specs.declared.expr.Two.TheVariants.{Sub, Ne, And, Eq}
use Rattle.civl_tree.specs.declared.expr.Sort.{Sort}
use Rattle.civl_tree.specs.declared.expr.Sort.TheVariants as sort
use Rattle.civl_tree.specs.declared.stmt.Stmt.{Stmt}
use Rattle.civl_tree.specs.declared.stmt.Stmt as stmt
use Rattle.civl_tree.specs.declared.program.Proc.{Proc}
use Rattle.civl_tree.specs.declared.program.Program.{Program}
use Rattle.civl_firing.specs.examples.Written.{word, bool, named, name, lit, global, local, update, action, refines, proc, thread, call}
use Rattle.civl_conditions.specs.declared.condition.Condition.TheVariants.{Path}
use Rattle.civl_conditions.specs.declared.condition.Part.TheVariants.{Rank}
use Rattle.civl_conditions.specs.Listed.{conditions}
use Rattle.civl_conditions.specs.Names.{name_text}
use Rattle.civl_conditions.specs.Violated.{violated}
use Rattle.civl_conditions.specs.Weights.{weight}
use Rattle.civl_condition_laws.specs.examples.Short.{Tells, one_step}

abbrev pub byte : Sort
byte = sort.Word 8

abbrev pub i : Expr
i = name (codes "i")

abbrev pub steady : Expr
steady = expr.Two And (expr.One Not expr.Done) (expr.Two Eq (name (codes "x")) (expr.Old (named (codes "x"))))

abbrev pub goes_on : Expr
goes_on = expr.Two Ne i (lit 0 8)

-- with any invariant, and any expression that the body gives to i
abbrev pub loop : Expr → Expr → Stmt
loop inv next = stmt.RankLoop goes_on i inv (stmt.Assign (named (codes "i")) next ∷ [])

abbrev pub spin : Expr → Proc
spin next = proc (codes "Spin") [] [] (refines (codes "Skip") 1) (local (codes "i") byte ∷ []) (stmt.Assign (named (codes "i")) (lit 255 8) ∷ loop steady next ∷ stmt.Commit ∷ [])

abbrev pub counting : Expr → Program
counting next = record {
  version = 1;
  layers = 1;
  permissions = 1;
  globals = global (codes "x") byte 0 1 ∷ [];
  init = expr.True;
  invariants = [];
  actions = action (codes "Skip") [] [] [] 1 1 expr.True expr.True [] ∷ [];
  procs = spin next ∷ [];
  threads = thread (codes "Spin") [] ∷ [];
}

abbrev pub countdown : Program
countdown = counting (expr.Two Sub i (lit 1 8))

-- x, old.x, i, done and old.done
abbrev pub row : ℕ → ℕ → ℕ → Bool → Bool → List Value
row x old_x i done old_done = word 8 x ∷ word 8 old_x ∷ word 8 i ∷ bool done ∷ bool old_done ∷ []

-- i goes down, or stays, which is too much where the loop is entered again and its invariant holds
abbrev pub CountdownFails : Type 0
CountdownFails =
    (Tells (violated countdown (Path Rank 1 0 1)) ((row 0 0 5 false false, false) ∷ []))
    × (Tells (violated (counting i) (Path Rank 1 0 1)) ((row 0 0 5 false false, true) ∷ (row 0 0 0 false false, false) ∷ (row 0 1 5 false false, false) ∷ (row 0 0 5 true false, false) ∷ []))

-- a loop that stays where it is, behind a commit of the same block:
--
--     global f : bool layers 0 to 1;
--     action Set() -> () choose () layers 0 to 0 atomic gate true guard true { f := true; }
--     action AtomSet() -> () choose () layers 1 to 1 atomic gate true guard true { f := true; }
--     proc DoSet() -> () refines AtomSet with () layer 1 {
--       var i : word(8);
--       0  call Set() -> (); 1  commit; 2  i := 3:8;
--       3  while rank (i != 0:8) by i inv (done && (f && (!old(done)))) { 4  i := i; }
--     }
abbrev pub anew : Expr
anew = expr.Two And expr.Done (expr.Two And (name (codes "f")) (expr.One Not expr.OldDone))

abbrev pub settle : Proc
settle =
    proc (codes "DoSet") [] [] (refines (codes "AtomSet") 1) (local (codes "i") byte ∷ []) (
    call (codes "Set") [] [] ∷ stmt.Commit ∷ stmt.Assign (named (codes "i")) (lit 3 8) ∷ loop anew i ∷ []
    )

abbrev pub settling : Program
settling =
    one_step (global (codes "f") sort.Bool 0 1 ∷ []) [] (
    action (codes "Set") [] [] [] 0 0 expr.True expr.True (update (codes "f") expr.True ∷ [])
    ∷ action (codes "AtomSet") [] [] [] 1 1 expr.True expr.True (update (codes "f") expr.True ∷ [])
    ∷ []
    ) (settle ∷ [])

-- f, old.f, i, done and old.done
abbrev pub settling_row : Bool → Bool → ℕ → Bool → Bool → List Value
settling_row f old_f i done old_done = bool f ∷ bool old_f ∷ word 8 i ∷ bool done ∷ bool old_done ∷ []

abbrev pub SettlingFails : Type 0
SettlingFails =
    Tells (violated settling (Path Rank 1 0 1)) (
    (settling_row true false 3 true false, true)
    ∷ (settling_row true false 0 true false, false)
    ∷ (settling_row false false 3 true false, false)
    ∷ (settling_row true false 3 true true, false)
    ∷ []
    )

abbrev pub CountdownNames : Type 0
CountdownNames =
    map (name_text countdown) (conditions countdown)
    ≡ codes "K9 gate step 1 Spin from 0"
    ∷ codes "K9 invariant step 1 Spin from 0"
    ∷ codes "K9 once step 1 Spin from 0"
    ∷ codes "K9 stutter step 1 Spin from 0"
    ∷ codes "K9 perform step 1 Spin from 0"
    ∷ codes "K9 gate step 1 Spin from 1"
    ∷ codes "K9 invariant step 1 Spin from 1"
    ∷ codes "K9 once step 1 Spin from 1"
    ∷ codes "K9 stutter step 1 Spin from 1"
    ∷ codes "K9 perform step 1 Spin from 1"
    ∷ codes "K9 rank step 1 Spin from 1"
    ∷ []

-- x, old.x, i, done and old.done are 26; the loop's invariant 1 + 2 + 10 and the gate 1; the loop 1 + 10, the assign 1 + 18 and the
-- commit 1; and at two ends, the head and the exit, 1, three times i 3 and twice its width 16
abbrev pub CountdownWeight : Type 0
CountdownWeight = weight countdown (Path Rank 1 0 1) ≡ 111
