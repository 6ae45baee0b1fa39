use Rattle.std.proofs.Common.{sym, ◌∙◌}
use Rattle.civl_tree.specs.SpellingProgram.{spell_thread}
use Rattle.civl_places.specs.inner.Kinds.{threads_at}
use Rattle.civl_places.proofs.Begun.{each_found, each_left, thread_start}
use Rattle.civl_places.proofs.kind.thread_token.Goals as goal

pub returns-in-Found : goal.returns-in-Found
returns-in-Found c =
    let placed = each_found spell_thread _ c.args.program.now.threads _ (threads_at c.args.program.now) _ _ c.as_slice.ensures c.threads_start.ensures c.walk_each.ensures _ c.in-Found.is in
    (placed.0, placed.1 ∙ sym (thread_start c.args.program.now _))

pub returns-in-Left : goal.returns-in-Left
returns-in-Left c =
    each_left spell_thread _ c.args.program.now.threads _ (threads_at c.args.program.now) _ _ c.as_slice.ensures c.threads_start.ensures c.walk_each.ensures _ c.in-Left.is
