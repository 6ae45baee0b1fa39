use Rattle.std.proofs.Common.{◌≡◌, ◌∙◌, take, true, false, sym, ap, List, length, ◌≤◌, subst}
use Rattle.civl_tree.specs.declared.program.Global.{Global}
use Rattle.civl_tree.specs.declared.name.Name.{Name}
use Rattle.civl_tree.specs.rules.Names.{has_name, global_names}
use Rattle.civl_tree.specs.rules.Codes.{E10}
use Rattle.civl_tree.specs.rules.Rules.{global_places, refusal_at}
use Rattle.civl_tree.specs.rules.Typing.{twice_rule}
use Rattle.civl_names.specs.inner.NameSets.{names_in}
use Rattle.civl_names.proofs.walks.Placing.{found_item, found_behind, found_none}
use Rattle.civl_names.proofs.Declares.{within, stands, set_more, set_all, global_found, global_kept}
use Rattle.civl_names.proofs.declare.declare_globals.Goals as goal

pub returns-then-branch : goal.returns-then-branch
returns-then-branch c =
    let program = c.args.program.now in
    let global = c.index-items-place.result in
    let there : has_name (global_names (take c.loop-place.place program.globals)) global.name ≡ true =
    ap (λ (ns : List Name). has_name ns global.name) (sym c.loop-place.invariant.1) ∙ sym c.in_ok-add.ensures.old ∙ c.if-branch.true in
    sym c.loop-place.invariant.0
    ∙ found_item (refusal_at E10) (global_places twice_rule program) c.as_slice-items.result.now c.loop-place.place global c.twice_at.result c.loop-place-test.true c.index-items-place.is (global_found program c.loop-place.place global c.twice_at.result there c.twice_at.ensures)

pub loop-place-preserved : goal.loop-place-preserved
loop-place-preserved c =
    let program = c.args.program.now in
    let global = c.index-items-place.result in
    let items = c.as_slice-items.result.now in
    let same = c.as_slice-items.ensures in
    let absent : has_name (names_in c.loop-place.globals) global.name ≡ false = sym c.in_ok-add.ensures.old ∙ c.if-branch.false in
    let new : has_name (global_names (take c.loop-place.place program.globals)) global.name ≡ false =
    ap (λ (ns : List Name). has_name ns global.name) (sym c.loop-place.invariant.1) ∙ absent in (
      found_behind (refusal_at E10) (global_places twice_rule program) items c.loop-place.place global c.loop-place-test.true c.index-items-place.is (global_kept program c.loop-place.place global new) ∙ c.loop-place.invariant.0,
      set_more (λ global. global.name) program.globals c.loop-place.place global (names_in c.loop-place.globals) (names_in c.add.new.self)
          (within items program.globals same c.loop-place.place global c.loop-place-test.true) (stands items program.globals same c.loop-place.place global c.index-items-place.is)
          c.loop-place.invariant.1 absent c.in_ok-add.ensures.names,
    )

pub returns : goal.returns
returns c =
    let program = c.args.program.now in
    let items = c.as_slice-items.result.now in
    let past : length program.globals ≤ c.loop-place.place = subst (λ (gs : List Global). length gs ≤ c.loop-place.place) c.as_slice-items.ensures c.loop-place-test.false in (
      sym c.loop-place.invariant.0 ∙ found_none (refusal_at E10) (global_places twice_rule program) items c.loop-place.place c.loop-place-test.false,
      set_all (λ global. global.name) program.globals c.loop-place.place (names_in c.loop-place.globals) past c.loop-place.invariant.1,
    )
