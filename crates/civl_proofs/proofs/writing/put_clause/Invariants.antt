use Rattle.std.proofs.Common.{◌≡◌, ◌++◌, drop}
use Rattle.std.specs.Prelude.{codes}
use Rattle.std.specs.List.{flat_map}
use Rattle.civl_proofs.specs.Text.{literal_word}
use Rattle.civl_proofs.proofs.writing.put_clause.Given as goal

abbrev pub invariant-loop-lit : goal.invariant-loop-lit
invariant-loop-lit l = l.out.items ++ flat_map (λ m. literal_word m ++ codes " ") (drop l.lit-index l.clause) ≡ l.fn.out.items ++ flat_map (λ m. literal_word m ++ codes " ") l.clause
