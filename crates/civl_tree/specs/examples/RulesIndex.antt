-- Programs with a row whose index has no bit, or more than 6.
use Rattle.std.specs.Prelude.{ℕ, List, [], ◌∷◌, Some, codes}
use Rattle.civl_tree.specs.declared.expr.Expr.{Expr}
use Rattle.civl_tree.specs.declared.expr.Expr as expr
use Rattle.civl_tree.specs.declared.expr.Two.TheVariants.{Eq}
use Rattle.civl_tree.specs.declared.expr.Sort.TheVariants.{Word, Row}
use Rattle.civl_tree.specs.declared.stmt.Stmt as stmt
use Rattle.civl_tree.specs.declared.action.Action.{Action}
use Rattle.civl_tree.specs.declared.program.Program.{Program}
use Rattle.civl_tree.specs.examples.RulesFlag.{named, name, plain_global, update, plain_action, val, var, do_set, call, flag, Passes, Refused}
use Rattle.civl_tree.specs.examples.RulesUnit.{with_invariant, with_refined, with_thread, unit_thread, unit_action, with_action, with_init, with_gate, with_body, with_proc, unit_proc}
use Rattle.civl_tree.specs.examples.RulesWidth.{of_sort}

-- a row of 2 to the `index` words of 8 bits whose cell `high` is written, and whose cell 0 is then read:
--
--     civl 1; layers 1; permissions 1;
--     global r : row(INDEX, 8) layers 0 to 1;
--     init true;
--     action Poke() -> (val v : word(8)) choose () layers 0 to 0 atomic gate true guard true
--       { r := set(r, HIGH:INDEX, 1:8); v := get(set(r, HIGH:INDEX, 1:8), 0:INDEX); }
--     action AtomPoke() -> (val v : word(8)) choose () layers 1 to 1 atomic gate true guard true
--       { r := set(r, HIGH:INDEX, 1:8); v := get(r, 0:INDEX); }
--     proc DoPoke() -> (val v : word(8)) refines AtomPoke with () layer 1 { call Poke() -> (v); commit; }
abbrev pub r : Expr
r = name (codes "r")

abbrev pub written : ℕ → ℕ → Expr
written index high = expr.Set r (expr.Literal high index) (expr.Literal 1 8)

abbrev pub poke_action : List ℕ → ℕ → ℕ → ℕ → Expr → Action
poke_action bytes layer index high row =
    record (plain_action bytes layer (update (codes "r") (written index high) ∷ update (codes "v") (expr.Get row (expr.Literal 0 index)) ∷ [])) {
      outs = val (codes "v") (Word 8) ∷ [];
    }

abbrev pub poke : ℕ → ℕ → Program
poke index high = record flag {
  globals = plain_global (codes "r") (Row index 8) ∷ [];
  actions = poke_action (codes "Poke") 0 index high (written index high) ∷ poke_action (codes "AtomPoke") 1 index high r ∷ [];
  procs = record (do_set (call (codes "Poke") [] (named (codes "v") ∷ []) ∷ stmt.Commit ∷ [])) {
    name = named (codes "DoPoke");
    outs = val (codes "v") (Word 8) ∷ [];
    refines = Some (record { action = named (codes "AtomPoke"); with = []; layer = 1 });
  } ∷ [];
  threads = [];
}

-- an expression equals itself
abbrev pub itself : Expr → Expr
itself value = expr.Two Eq value value

abbrev pub filled : ℕ → Expr
filled index = itself (expr.Fill index (expr.Literal 1 2))

abbrev pub RefusesIndex : Type 0
RefusesIndex =
    Passes (poke 6 63)
    × Refused (poke 7 63) 22 0 0
    × Passes (of_sort (Row 1 8))
    × Refused (of_sort (Row 0 8)) 22 0 0
    × Passes (with_init (filled 6))
    × Refused (with_init (filled 7)) 22 1 0
    × Refused (with_invariant (filled 7)) 22 2 0
    × Refused (with_gate (filled 0)) 22 3 0
    × Refused (with_refined (codes "A") (filled 7 ∷ [])) 22 4 0
    × Refused (with_thread (unit_thread (filled 7 ∷ []))) 22 6 0
    × Refused (with_body (stmt.Commit ∷ stmt.Assert (filled 7) ∷ [])) 22 4 1
    × Refused (with_body (stmt.Assert (expr.Fill 7 (expr.Literal 1 2)) ∷ [])) 21 4 0
    × Refused (with_action (record unit_action { params = val (codes "p") (Row 7 1) ∷ [] })) 22 3 0
    × Refused (with_proc (record (unit_proc []) { locals = var (codes "v") (Row 7 1) ∷ [] })) 22 4 0
