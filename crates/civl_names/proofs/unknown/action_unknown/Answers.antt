use Rattle.std.proofs.Common.{List, ◌++◌, ◌∙◌, ap, map, sym}
use Rattle.std.specs.Prelude.{not}
use Rattle.std.specs.List.{list_any}
use Rattle.civl_tree.specs.declared.action.Choice.{Choice}
use Rattle.civl_tree.specs.declared.action.Update.{Update}
use Rattle.civl_tree.specs.rules.Names.{has_name}
use Rattle.civl_names.specs.inner.NameSets.{names_in, with_names}
use Rattle.civl_names.specs.inner.Strange.{declared_in}
use Rattle.civl_names.proofs.Telling.{targets_first, gate_next, guard_last}
use Rattle.civl_names.proofs.unknown.action_unknown.Goals as goal

pub returns-then-targets_unknown : goal.returns-then-targets_unknown
returns-then-targets_unknown c =
    let declared = declared_in c.args.sets.now in
    let outs = names_in c.args.own.now.outs in
    let targets = ap (list_any (λ (update : Update). not (has_name (declared.globals ++ outs) update.target))) (sym c.as_slice.ensures) ∙ sym c.targets_unknown.ensures ∙ c.if-targets_unknown.true in
    sym (targets_first declared c.args.action.now outs c.requires.outs targets)

pub returns-then-gate_unknown : goal.returns-then-gate_unknown
returns-then-gate_unknown c =
    sym (gate_next (declared_in c.args.sets.now) c.args.action.now
    (names_in c.args.own.now.outs) c.requires.outs (names_in c.args.own.now.names) c.requires.names
    (sym c.gate_unknown.ensures ∙ c.if-gate_unknown.true))

pub returns : goal.returns
returns c =
    let declared = declared_in c.args.sets.now in
    let outs = names_in c.args.own.now.outs in
    let params = names_in c.args.own.now.names in
    let targets = ap (list_any (λ (update : Update). not (has_name (declared.globals ++ outs) update.target))) (sym c.as_slice.ensures) ∙ sym c.targets_unknown.ensures ∙ c.if-targets_unknown.false in
    c.guard_unknown.ensures
    ∙ guard_last declared c.args.action.now outs c.requires.outs params c.requires.names
    (names_in c.add_all.new.set) (c.in_ok-add_all.ensures ∙ ap (λ (cs : List Choice). with_names params (map (λ choice. choice.name) cs)) c.as_slice-2.ensures)
    targets (sym c.gate_unknown.ensures ∙ c.if-gate_unknown.false)
