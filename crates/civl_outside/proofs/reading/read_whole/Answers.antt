use Rattle.std.proofs.Common.{arith, refl, ◌+◌, ◌≤◌, ◌++◌, length, ap, take, ℕ}
use Rattle.std.proofs.KnownBytes.{Consumes-trans}
use Rattle.std.proofs.lemmas.Grind.{common_steps}
use Rattle.civl_outside.proofs.Pieces.{consumes_none}
use Rattle.civl_outside.proofs.reading.read_whole.Goals as goal

pub returns-in-End-clause-bytes : goal.returns-in-End-clause-bytes
returns-in-End-clause-bytes g c =
    let e = c.in-End.ensures.bytes in
    (consumes_none _ _ _ _ _ c.loop-piece.invariant.bytes e.0 refl, e.1, omega arith)

pub returns-in-Bytes-eq0-clause-bytes : goal.returns-in-Bytes-eq0-clause-bytes
returns-in-Bytes-eq0-clause-bytes g c =
    let e = c.in-Bytes-eq0.ensures.bytes in
    let none = c.in-Bytes-eq0.field-0-test in
    (consumes_none _ _ _ _ _ c.loop-piece.invariant.bytes e.0 (ap (λ (n : ℕ). take n c.read.new.into) none), e.1 none, omega arith)

pub returns-then-is_err-clause-bytes : goal.returns-then-is_err-clause-bytes
returns-then-is_err-clause-bytes g c =
    let e = c.in-Bytes.ensures.bytes in
    let bound = c.in-Bytes.ensures.bound in
    let more = take c.in-Bytes.count c.read.new.into in
    let size : length (c.loop-piece.bytes.items ++ more) ≤ c.args.limit + 1 = grind (arith, common_steps) in
    (c.loop-piece.bytes.items ++ more, Consumes-trans _ _ _ _ _ c.loop-piece.invariant.bytes e.0, size)
