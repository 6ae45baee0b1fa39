use Rattle.std.proofs.Common.{Option, ◌∙◌, sym, ap, arith, ◌≡◌}
use Rattle.std.specs.Prelude.{false}
use Rattle.std.specs.Option.{option_map_or}
use Rattle.civl_tree.specs.declared.program.Proc.{Proc}
use Rattle.civl_goals.specs.Rules.{stands_in}
use Rattle.civl_goals.proofs.Misplacing.{root_here, is_root_item}
use Rattle.civl_goals.proofs.rules.stands.Goals as goal

pub returns-then-is_root : goal.returns-then-is_root
returns-then-is_root c =
    let number : c.proc_item.result ≡ c.args.note.now.item = omega (arith, c.if-proc_item-note.true) in
    let it = is_root_item c.args.program.now c.args.note.now.item c.loop-place.place c.proc_item.result c.index-procs-place.result c.proc_item.ensures number (sym c.is_root.ensures ∙ c.if-is_root.true) in
    c.stands_in.ensures
    ∙ ap (λ (o : Option Proc). option_map_or (stands_in c.args.program.now c.args.note.now) o false)
    (sym (root_here c.args.program.now c.args.note.now.item c.loop-place.place c.as_slice-procs.result.now c.index-procs-place.result c.loop-place-test.true c.index-procs-place.is it))
    ∙ c.loop-place.invariant
