use Rattle.std.proofs.Common.{◌≡◌, ◌++◌, drop, map}
use Rattle.civl_reasons.specs.inner.Told.{subformula}
use Rattle.civl_lines.specs.Pieces.{part_line}
use Rattle.civl_lines.specs.inner.Named.{told}
use Rattle.civl_lines.proofs.parts.push_named_parts.Given as goal

abbrev pub invariant-loop-part : goal.invariant-loop-part
invariant-loop-part g l =
    l.lines.items ++ map (part_line (told l.naming) (g.B.Bindings.scope l.bindings) l.formula.token) (map subformula (drop l.part-index l.part-items))
    ≡ l.fn.lines.items ++ map (part_line (told l.naming) (g.B.Bindings.scope l.bindings) l.formula.token) (map subformula l.part-items)
