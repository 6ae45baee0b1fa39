-- Values that violate conditions on paths that begin at a yield and the same with one value changed. The
-- programs are those of paths from the entry.
use Rattle.std.specs.Prelude.{Bool, true, false, List, [], ◌∷◌}
use Rattle.civl_bits.specs.declared.value.Value.{Value}
use Rattle.civl_tree.specs.declared.expr.Expr.{Expr}
use Rattle.civl_tree.specs.declared.expr.Expr as expr
use Rattle.civl_tree.specs.declared.stmt.Stmt as stmt
use Rattle.civl_tree.specs.declared.program.Program.{Program}
use Rattle.civl_firing.specs.examples.Written.{word, bool}
use Rattle.civl_meaning.specs.examples.Increments.{increments}
use Rattle.civl_conditions.specs.declared.condition.Condition.TheVariants.{Path}
use Rattle.civl_conditions.specs.declared.condition.Part.{Part}
use Rattle.civl_conditions.specs.declared.condition.Part.TheVariants.{Gate, Invariant, Once, Stutter, Perform}
use Rattle.civl_conditions.specs.Violated.{violated}
use Rattle.civl_condition_laws.specs.examples.Short.{Tells, not_so}
use Rattle.civl_condition_laws.specs.examples.Blocks.{f, b, top, doing, idle, set}

-- f, b and done
abbrev pub flags : Bool → Bool → Bool → List Value
flags f b done = bool f ∷ bool b ∷ bool done ∷ []

abbrev pub Fails : Program → Part → List (List Value × Bool) → Type 0
Fails program part rows = Tells (violated program (Path part 1 0 1)) rows

-- the invariant of the yield is assumed; so is Top's gate, but not behind a commit
abbrev pub YieldGateFails : Type 0
YieldGateFails =
    (Fails (doing idle (stmt.Yield f ∷ stmt.Assert b ∷ stmt.Commit ∷ [])) Gate ((flags true false false, true) ∷ (flags true true false, false) ∷ (flags false false false, false) ∷ []))
    × (Fails (doing (top b expr.True f) (stmt.Yield f ∷ stmt.Assert b ∷ stmt.Commit ∷ [])) Gate ((flags true false false, false) ∷ (flags true false true, true) ∷ []))

-- `yield INV; call Set(e) -> (); yield LATER; commit;`
abbrev pub yielding : Expr → Expr → Expr → Program
yielding inv e later = doing idle (stmt.Yield inv ∷ set e ∷ stmt.Yield later ∷ stmt.Commit ∷ [])

-- the invariant of the next yield
abbrev pub YieldInvariantFails : Type 0
YieldInvariantFails = Fails (yielding f b f) Invariant ((flags true false false, true) ∷ (flags true true false, false) ∷ [])

-- a commit behind a commit
abbrev pub YieldOnceFails : Type 0
YieldOnceFails = Fails (doing idle (stmt.Yield expr.True ∷ set b ∷ stmt.Commit ∷ [])) Once ((flags true true true, true) ∷ (flags true true false, false) ∷ [])

-- f changes, before a commit and behind one
abbrev pub YieldStutterFails : Type 0
YieldStutterFails = Fails (yielding expr.True b expr.True) Stutter ((flags false true false, true) ∷ (flags true true false, false) ∷ (flags false true true, true) ∷ [])

-- Top turns f over; a block behind a commit is no step of it
abbrev pub YieldPerformFails : Type 0
YieldPerformFails =
    Fails (doing (top expr.True expr.True (not_so f)) (stmt.Yield expr.True ∷ set b ∷ stmt.Commit ∷ [])) Perform ((flags true true false, true) ∷ (flags false true false, false) ∷ (flags true true true, false) ∷ [])

-- the increments without a lock, behind their yield: x, u, which was read before, and done
abbrev pub IncrementsFail : Type 0
IncrementsFail =
    Tells (violated increments (Path Perform 1 0 1)) (
    (word 8 0 ∷ word 8 1 ∷ bool false ∷ [], true)
    ∷ (word 8 0 ∷ word 8 0 ∷ bool false ∷ [], false)
    ∷ (word 8 0 ∷ word 8 1 ∷ bool true ∷ [], false)
    ∷ []
    )
