use Rattle.std.proofs.Common.{◌≡◌, ◌++◌, ◌∷◌, [], ◌∙◌, true, false, ap, map, take}
use Rattle.civl_tree.specs.rules.Names.{has_name, any_twice}
use Rattle.civl_names.specs.inner.NameSets.{names_in, with_name}
use Rattle.civl_names.proofs.Repeats.{twice_at, twice_more, with_new, names_more}
use Rattle.civl_names.proofs.named.add_new.Goals as goal

pub returns-then-branch : goal.returns-then-branch
returns-then-branch g c =
    let there : has_name (names_in c.args.set.now ++ map g.T.Named.name_of (take c.loop-item.item-index c.args.items.now)) (g.T.Named.name_of c.item-item.result) ≡ true = cc (c.in_ok-add.ensures.old) in
    twice_at g.T.Named.name_of (names_in c.args.set.now) c.args.items.now c.loop-item.item-index c.item-item.result c.loop-item-test.true c.item-item.is there

pub loop-item-preserved : goal.loop-item-preserved
loop-item-preserved g c =
    let name = g.T.Named.name_of c.item-item.result in
    let set = names_in c.loop-item.set in
    let absent : has_name set name ≡ false = cc (c.in_ok-add.ensures.old) in
    let added : names_in c.add.new.self ≡ set ++ name ∷ [] = c.in_ok-add.ensures.names ∙ ap (with_name set) c.name.ensures ∙ with_new set name absent in
    let before : set ++ name ∷ [] ≡ (names_in c.args.set.now ++ map g.T.Named.name_of (take c.loop-item.item-index c.args.items.now)) ++ name ∷ [] = cc in (
      added ∙ before ∙ names_more g.T.Named.name_of (names_in c.args.set.now) c.args.items.now c.loop-item.item-index c.item-item.result c.loop-item-test.true c.item-item.is,
      ap any_twice added ∙ twice_more set name c.loop-item.invariant.1 absent,
    )
