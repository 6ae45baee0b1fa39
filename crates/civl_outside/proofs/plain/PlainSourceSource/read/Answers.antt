use Rattle.std.proofs.Common.{arith, length, ◌+◌, ◌≤◌}
use Rattle.civl_outside.proofs.Pieces.{read_from}
use Rattle.civl_outside.proofs.plain.PlainSourceSource.read.Goals as goal

pub returns-clause-bytes : goal.returns-clause-bytes
returns-clause-bytes c =
    let fits : c.self.inside.at + c.min-count.result ≤ length c.self.inside.bytes.items = omega arith in
    rw (← c.self.view_is) (read_from _ _ _ _ _ _ c.deref.ensures.value c.copy_from_slice.ensures.after fits, λ none. absurd (omega arith))
