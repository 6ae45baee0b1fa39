use Rattle.std.proofs.Common.{map, ◌≡◌, ◌∙◌, ◌≤◌, List, None, length, false, sym, ap, subst}
use Rattle.civl_tree.specs.declared.name.Name.{Name}
use Rattle.civl_tree.specs.declared.program.Proc.{Proc}
use Rattle.civl_tree.specs.rules.Names.{has_name}
use Rattle.civl_tree.specs.rules.Codes.{E10}
use Rattle.civl_tree.specs.rules.Rules.{proc_places, refusal_at, first_of}
use Rattle.civl_tree.specs.rules.Typing.{twice_rule}
use Rattle.civl_names.specs.inner.NameSets.{names_in}
use Rattle.civl_names.proofs.walks.Placing.{found_item, found_behind, found_none, body_fits}
use Rattle.civl_names.proofs.Declares.{slice_get_same, within, stands, set_more, set_all, proc_new}
use Rattle.civl_names.proofs.declare.declare_procs.Goals as goal

pub proc_refusal-requires-clause-body : goal.proc_refusal-requires-clause-body
proc_refusal-requires-clause-body c =
    body_fits c.args.program.now c.requires.numbered c.loop-place.place c.index-items-place.result
    (slice_get_same c.as_slice-items.result.now c.args.program.now.procs c.as_slice-items.ensures c.loop-place.place c.index-items-place.result c.loop-place-test.true c.index-items-place.is)

pub returns-in-Some : goal.returns-in-Some
returns-in-Some c =
    sym c.loop-place.invariant.0
    ∙ found_item (refusal_at E10) (proc_places twice_rule c.args.program.now) c.as_slice-items.result.now c.loop-place.place c.index-items-place.result c.in-Some.refusal c.loop-place-test.true c.index-items-place.is (sym c.in-Some.is ∙ c.in_ok-refusal.ensures)

pub loop-place-preserved : goal.loop-place-preserved
loop-place-preserved c =
    let program = c.args.program.now in
    let item = c.index-items-place.result in
    let items = c.as_slice-items.result.now in
    let same = c.as_slice-items.ensures in
    let none : None ≡ first_of (map (refusal_at E10) (proc_places twice_rule program c.loop-place.place item)) = sym c.in_default.is ∙ c.in_ok-refusal.ensures in
    let absent : has_name (names_in c.loop-place.procs) item.name ≡ false =
    ap (λ (ns : List Name). has_name ns item.name) c.loop-place.invariant.1 ∙ proc_new program c.loop-place.place item none in (
      found_behind (refusal_at E10) (proc_places twice_rule program) items c.loop-place.place item c.loop-place-test.true c.index-items-place.is none ∙ c.loop-place.invariant.0,
      set_more (λ proc. proc.name) program.procs c.loop-place.place item (names_in c.loop-place.procs) (names_in c.add.new.self)
          (within items program.procs same c.loop-place.place item c.loop-place-test.true) (stands items program.procs same c.loop-place.place item c.index-items-place.is)
          c.loop-place.invariant.1 absent c.in_ok-add.ensures.names,
    )

pub returns : goal.returns
returns c =
    let program = c.args.program.now in
    let past : length program.procs ≤ c.loop-place.place = subst (λ (xs : List Proc). length xs ≤ c.loop-place.place) c.as_slice-items.ensures c.loop-place-test.false in (
      sym c.loop-place.invariant.0 ∙ found_none (refusal_at E10) (proc_places twice_rule program) c.as_slice-items.result.now c.loop-place.place c.loop-place-test.false,
      set_all (λ proc. proc.name) program.procs c.loop-place.place (names_in c.loop-place.procs) past c.loop-place.invariant.1,
    )
