use Rattle.std.proofs.Common.{◌≡◌, ◌++◌, drop, map}
use Rattle.civl_reasons.specs.inner.Told.{read_name}
use Rattle.civl_lines.specs.Pieces.{reads_text}
use Rattle.civl_lines.specs.inner.Named.{told}
use Rattle.civl_lines.proofs.parts.put_reads.Given as goal

abbrev pub invariant-loop-read : goal.invariant-loop-read
invariant-loop-read g l =
    l.out.items ++ reads_text (told l.naming) (g.B.Bindings.scope l.bindings) (map read_name (drop l.read-index l.reads))
    ≡ l.fn.out.items ++ reads_text (told l.naming) (g.B.Bindings.scope l.bindings) (map read_name l.reads)
