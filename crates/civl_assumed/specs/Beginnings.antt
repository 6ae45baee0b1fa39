-- A path's beginning, as the code has it.
use Rattle.std.specs.Prelude.{ℕ, List}
use Rattle.civl_bits.specs.declared.value.Value.{Value}
use Rattle.civl_conditions.specs.Values.{Begun as Beginning}
use Rattle.civl_assumed.specs.declared.begun.Begun.{Begun}

-- with these choices of its calls
abbrev pub begun_of : Begun → (ℕ → List Value) → Beginning
begun_of b chosen = record {
  store = b.store.now;
  locals = b.locals.now;
  done = b.done;
  old = b.old.now;
  old_outs = b.old_outs.now;
  old_done = b.old_done;
  chosen = chosen;
}
