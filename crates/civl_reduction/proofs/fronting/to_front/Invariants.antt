use Rattle.std.proofs.Common.{◌≡◌, length, drop}
use Rattle.civl_reduction.specs.declared.swapped.Swapped.{Swapped}
use Rattle.civl_reduction.specs.Front.{exchanges, AreExchanged}
use Rattle.civl_reduction.proofs.fronting.to_front.Given as goal

abbrev pub invariant-loop-target : goal.invariant-loop-target
invariant-loop-target l = record {
  rest : (answer : Swapped) → AreExchanged l.plain l.from (exchanges l.target (drop l.target l.chosen)) l.current answer → AreExchanged l.plain l.from (exchanges 0 l.chosen) l.moves answer;
  long : length l.current ≡ length l.moves;
}
