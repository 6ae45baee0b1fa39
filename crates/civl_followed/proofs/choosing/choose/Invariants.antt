use Rattle.std.proofs.Common.{ℕ, ◌<◌, List, get_or}
use Rattle.civl_bits.specs.declared.value.Value.{Value}
use Rattle.civl_followed.specs.inner.Along.{Does}
use Rattle.civl_followed.proofs.choosing.choose.Given as goal

abbrev pub invariant-loop-at : goal.invariant-loop-at
invariant-loop-at l =
    (k : ℕ) (d : List Value) → k < l.at → (procedure place : ℕ)
    → Does l.done.program.now l.done.layer (l.done.proc.now, record { procedure = procedure; place = place; locals = l.done.locals.now }) l.done.before.now l.done.after.now (get_or l.offered k d) → ⊥
