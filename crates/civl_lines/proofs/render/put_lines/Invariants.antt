use Rattle.std.proofs.Common.{◌≡◌, ◌++◌, drop}
use Rattle.civl_lines.specs.Rendered.{lines_text}
use Rattle.civl_lines.proofs.render.put_lines.Given as goal

abbrev pub invariant-loop-line : goal.invariant-loop-line
invariant-loop-line l =
    l.out.items ++ lines_text l.form l.text.bytes.now l.text.tokens.now (drop l.line-index l.lines)
    ≡ l.fn.out.items ++ lines_text l.form l.text.bytes.now l.text.tokens.now l.lines
