use Rattle.std.proofs.Common.{sym, subst, IsTrue, IfSome}
use Rattle.civl_tree.specs.SpellingDomain.{allows_program}
use Rattle.civl_term_tests.proofs.counting.found_in.Goals as goal

pub lines_of-requires : goal.lines_of-requires
lines_of-requires c = record {
  written = subst (λ p. IsTrue (allows_program p)) (sym c.in_ok-admitted.ensures) (subst (λ found. IfSome found (λ p. IsTrue (allows_program p))) c.in-Some.is c.in_ok-program.ensures.written);
}
