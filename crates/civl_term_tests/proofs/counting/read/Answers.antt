use Rattle.std.proofs.Common.{◌≡◌, ◌≤◌, List, length, sym, ap, subst, arith}
use Rattle.civl_tree.specs.Token.{Token}
use Rattle.civl_lex.specs.Spelled.{spelled}
use Rattle.civl_lex.specs.Text.{HasTokens}
use Rattle.civl_script.proofs.Counting.{text_numbers}
use Rattle.civl_term_tests.proofs.counting.read.Goals as goal

pub returns-clause-written : goal.returns-clause-written
returns-clause-written c = c.in_ok-program.ensures.right.fits

pub returns-clause-numbered : goal.returns-clause-numbered
returns-clause-numbered c =
    let bytes = c.as_bytes-bytes.result.now in
    let tokens = spelled c.as_slice.result.now in
    let e : tokens ≡ spelled c.in_ok-tokens.tokens.items = ap spelled c.as_slice.ensures.value in
    let has : HasTokens bytes tokens = subst (λ (ts : List Token). HasTokens bytes ts) (sym e) c.in_ok-tokens.ensures.tokens in
    let read = c.in_ok-program.ensures.right in
    let short : length bytes ≤ 1048576 = omega (arith, c.if-bytes-gt1048576.false) in
    text_numbers bytes tokens c.in_ok-program.program has (read.fits, read.parts) short
