use Rattle.std.proofs.Common.{arith}
use Rattle.civl_action_stories.proofs.Items.{items_fit}
use Rattle.civl_goal_stories.proofs.beginnings.thread_token.Goals as goal

pub overflow_add-procs : goal.overflow_add-procs
overflow_add-procs c = omega (arith, items_fit c.args.program.now, c.requires.short, c.requires.there, c.len.ensures)

pub overflow_add-procs-2 : goal.overflow_add-procs-2
overflow_add-procs-2 c = omega (arith, items_fit c.args.program.now, c.requires.short, c.requires.there, c.len.ensures, c.len-2.ensures)

pub overflow_add-procs-3 : goal.overflow_add-procs-3
overflow_add-procs-3 c =
    omega (arith, items_fit c.args.program.now, c.requires.short, c.requires.there, c.len.ensures, c.len-2.ensures, c.len-3.ensures)

pub overflow_add-item : goal.overflow_add-item
overflow_add-item c =
    omega (
      arith,
      items_fit c.args.program.now,
      c.requires.short,
      c.requires.there,
      c.len.ensures,
      c.len-2.ensures,
      c.len-3.ensures,
      c.len-4.ensures,
    )

pub overflow_add-item-2 : goal.overflow_add-item-2
overflow_add-item-2 c =
    omega (
      arith,
      items_fit c.args.program.now,
      c.requires.short,
      c.requires.there,
      c.len.ensures,
      c.len-2.ensures,
      c.len-3.ensures,
      c.len-4.ensures,
    )
