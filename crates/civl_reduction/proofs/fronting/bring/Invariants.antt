use Rattle.std.proofs.Common.{◌≡◌, ◌-◌, length}
use Rattle.civl_reduction.specs.declared.swapped.Swapped.{Swapped}
use Rattle.civl_reduction.specs.Front.{down, AreExchanged}
use Rattle.civl_reduction.proofs.fronting.bring.Given as goal

abbrev pub invariant-loop-done : goal.invariant-loop-done
invariant-loop-done l = record {
  rest : (answer : Swapped) → AreExchanged l.plain l.from (down (l.count - l.done) l.target) l.current answer → AreExchanged l.plain l.from (down l.count l.target) l.fn.moves answer;
  long : length l.current ≡ length l.fn.moves;
}
