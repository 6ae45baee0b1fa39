use Rattle.std.proofs.Common.{sym, ◌∙◌, arith}
use Rattle.civl_tree.specs.SpellingProgram.{spell_proc}
use Rattle.civl_places.specs.inner.Kinds.{procs_at}
use Rattle.civl_places.proofs.Begun.{each_found, each_left}
use Rattle.civl_places.proofs.Starting.{proc_start}
use Rattle.civl_places.proofs.kind.proc_token.Goals as goal

pub returns-in-Found : goal.returns-in-Found
returns-in-Found c =
    let placed = each_found spell_proc _ c.args.program.now.procs _ (procs_at c.args.program.now) _ _ c.as_slice.ensures c.procs_start.ensures c.walk_each.ensures _ c.in-Found.is in
    (placed.0, placed.1 ∙ sym (proc_start c.args.program.now _ (omega (arith, placed.0))))

pub returns-in-Left : goal.returns-in-Left
returns-in-Left c =
    each_left spell_proc _ c.args.program.now.procs _ (procs_at c.args.program.now) _ _ c.as_slice.ensures c.procs_start.ensures c.walk_each.ensures _ c.in-Left.is
