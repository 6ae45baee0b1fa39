use Rattle.std.proofs.Common.{arith}
use Rattle.std.specs.Prelude.{codes}
use Rattle.civl_tree.specs.Token.{Sign}
use Rattle.civl_tree.specs.SpellingScript.{spell_literal}
use Rattle.civl_refusals.proofs.ScriptsFit.{bracketed_length}
use Rattle.civl_refusals.proofs.scripts.row_count.Goals as goal

pub literals_count-requires : goal.literals_count-requires
literals_count-requires c = omega (arith, bracketed_length spell_literal (Sign (codes "[")) (Sign (codes "]")) c.args.cells.now)

pub overflow_add-result : goal.overflow_add-result
overflow_add-result c = omega (arith, bracketed_length spell_literal (Sign (codes "[")) (Sign (codes "]")) c.args.cells.now)

pub overflow_add-result-2 : goal.overflow_add-result-2
overflow_add-result-2 c = omega (arith, bracketed_length spell_literal (Sign (codes "[")) (Sign (codes "]")) c.args.cells.now)

pub returns : goal.returns
returns c = omega (arith, bracketed_length spell_literal (Sign (codes "[")) (Sign (codes "]")) c.args.cells.now)
