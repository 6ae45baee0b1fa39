use Rattle.std.proofs.Common.{ap, List, length, map, arith}
use Rattle.civl_tree.specs.declared.program.Global.{Global}
use Rattle.civl_tree.specs.Spelling.{joined}
use Rattle.civl_tree.specs.SpellingProgram.{spell_global}
use Rattle.civl_places.proofs.Begun.{init_start}
use Rattle.civl_places.proofs.kind.init_token.Goals as goal

pub returns : goal.returns
returns c = omega (arith, init_start c.args.program.now, ap (λ (l : List Global). length (joined (map spell_global l))) c.as_slice.ensures)
