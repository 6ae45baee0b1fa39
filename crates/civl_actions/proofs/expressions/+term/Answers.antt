use Rattle.std.proofs.Common.{rules, ◌<◌, length, sym, subst}
use Rattle.civl_actions.specs.Scopes.{HasTyping}
use Rattle.civl_actions.proofs.Sizes.{expr_size, smaller_One_0, smaller_Two_0, smaller_Two_1, smaller_Pick_0, smaller_Pick_1, smaller_Pick_2, smaller_Get_0, smaller_Get_1, smaller_Set_0, smaller_Set_1, smaller_Set_2, smaller_Fill_0, smaller_Slice_0, smaller_Widen_0, smaller_Join_0, smaller_Join_1}
use Rattle.civl_actions.proofs.Arms.{asks_name, asks_old, asks_one, asks_fill, asks_slice, asks_widen, asks_two_first, asks_two_second, asks_get_first, asks_get_second, asks_join_first, asks_join_second, asks_pick_first, asks_pick_second, asks_pick_third, asks_set_first, asks_set_second, asks_set_third, built_name, built_old, built_done, built_old_done, built_literal, there_one, built_one, there_fill, built_fill, index_fill, there_slice, built_slice, there_widen, built_widen, there_two, built_two, there_get, built_get, there_join, built_join, there_pick, built_pick, there_set, built_set}
use Rattle.civl_actions.proofs.expressions.+term.Goals as goal

pub returns-in-Name-clause-built : goal.returns-in-Name-clause-built
returns-in-Name-clause-built t c =
    built_name c.args.scope.now c.args.terms.now _ _ _ _ c.in-Name.is c.place.ensures.place c.requires c.term_at.ensures

pub returns-in-Old-clause-built : goal.returns-in-Old-clause-built
returns-in-Old-clause-built t c =
    built_old c.args.scope.now c.args.terms.now _ _ _ _ c.in-Old.is c.place-in-Old.ensures.place c.requires c.term_at-in-Old.ensures

pub returns-in-Done-clause-built : goal.returns-in-Done-clause-built
returns-in-Done-clause-built t c =
    built_done c.args.scope.now c.args.terms.now c.len-count.ensures.graph _ c.in-Done.is c.requires

pub returns-in-OldDone-clause-built : goal.returns-in-OldDone-clause-built
returns-in-OldDone-clause-built t c =
    built_old_done c.args.scope.now c.args.terms.now c.len-count.ensures.graph _ c.in-OldDone.is c.requires

pub returns-in_ok-id-in-Literal-clause-built : goal.returns-in_ok-id-in-Literal-clause-built
returns-in_ok-id-in-Literal-clause-built t c =
    built_literal c.args.scope.now c.args.terms.now _ _ _ _ _ _ c.in-Literal.is c.requires c.literal.ensures c.in_ok-id-in-Literal.ensures.built

pub one-requires-clause-fits : goal.one-requires-clause-fits
one-requires-clause-fits t c =
    there_one c.args.scope.now c.args.terms.now _ _ _ _ _ _ c.in-One.is c.requires c.get.ensures c.in_ok-a-in-One.ensures.built

pub returns-in_ok-id-in-One-clause-built : goal.returns-in_ok-id-in-One-clause-built
returns-in_ok-id-in-One-clause-built t c =
    built_one c.args.scope.now c.args.terms.now _ _ _ _ _ _ _ _ c.in-One.is c.get.ensures c.in_ok-a-in-One.ensures.built c.in_ok-id-in-One.ensures.grows c.in_ok-id-in-One.ensures.built

pub fill-requires-clause-fits : goal.fill-requires-clause-fits
fill-requires-clause-fits t c =
    there_fill c.args.scope.now c.args.terms.now _ _ _ _ _ _ c.in-Fill.is c.requires c.get-in-Fill.ensures c.in_ok-cell-in-Fill.ensures.built

pub returns-in_ok-id-in-Fill-clause-built : goal.returns-in_ok-id-in-Fill-clause-built
returns-in_ok-id-in-Fill-clause-built t c =
    built_fill c.args.scope.now c.args.terms.now _ _ _ _ _ _ _ _ c.in-Fill.is c.get-in-Fill.ensures c.in_ok-cell-in-Fill.ensures.built c.in_ok-id-in-Fill.ensures.grows c.in_ok-id-in-Fill.ensures.built

pub slice-requires-clause-fits : goal.slice-requires-clause-fits
slice-requires-clause-fits t c =
    there_slice c.args.scope.now c.args.terms.now _ _ _ _ _ _ _ c.in-Slice.is c.requires c.get-in-Slice.ensures c.in_ok-a-in-Slice.ensures.built

pub returns-in_ok-id-in-Slice-clause-built : goal.returns-in_ok-id-in-Slice-clause-built
returns-in_ok-id-in-Slice-clause-built t c =
    built_slice c.args.scope.now c.args.terms.now _ _ _ _ _ _ _ _ _ c.in-Slice.is c.get-in-Slice.ensures c.in_ok-a-in-Slice.ensures.built c.in_ok-id-in-Slice.ensures.grows c.in_ok-id-in-Slice.ensures.built

pub widen-requires-clause-fits : goal.widen-requires-clause-fits
widen-requires-clause-fits t c =
    there_widen c.args.scope.now c.args.terms.now _ _ _ _ _ _ c.in-Widen.is c.requires c.get-in-Widen.ensures c.in_ok-a-in-Widen.ensures.built

pub returns-in_ok-id-in-Widen-clause-built : goal.returns-in_ok-id-in-Widen-clause-built
returns-in_ok-id-in-Widen-clause-built t c =
    built_widen c.args.scope.now c.args.terms.now _ _ _ _ _ _ _ _ c.in-Widen.is c.get-in-Widen.ensures c.in_ok-a-in-Widen.ensures.built c.in_ok-id-in-Widen.ensures.grows c.in_ok-id-in-Widen.ensures.built

pub fill-requires-clause-index : goal.fill-requires-clause-index
fill-requires-clause-index t c =
    index_fill c.args.scope.now c.args.terms.now _ _ _ c.in-Fill.is c.requires

pub two-requires-clause-fits : goal.two-requires-clause-fits
two-requires-clause-fits t c =
    there_two c.args.scope.now c.args.terms.now _ _ _ _ _ _ _ _ _ _ c.in-Two.is c.requires c.get-in-Two.ensures c.get-in-Two-2.ensures c.in_ok-a-in-Two.ensures.built c.in_ok-a-in-Two.ensures.grows c.in_ok-b-in-Two.ensures.built c.in_ok-b-in-Two.ensures.grows

pub returns-in_ok-id-in-Two-clause-built : goal.returns-in_ok-id-in-Two-clause-built
returns-in_ok-id-in-Two-clause-built t c =
    built_two c.args.scope.now c.args.terms.now _ _ _ _ _ _ _ _ _ _ _ _ c.in-Two.is c.requires c.get-in-Two.ensures c.get-in-Two-2.ensures c.in_ok-a-in-Two.ensures.built c.in_ok-a-in-Two.ensures.grows c.in_ok-b-in-Two.ensures.built c.in_ok-b-in-Two.ensures.grows c.in_ok-id-in-Two.ensures.grows c.in_ok-id-in-Two.ensures.built

pub get-requires-in-Get-3-clause-fits : goal.get-requires-in-Get-3-clause-fits
get-requires-in-Get-3-clause-fits t c =
    there_get c.args.scope.now c.args.terms.now _ _ _ _ _ _ _ _ _ c.in-Get.is c.requires c.get-in-Get.ensures c.get-in-Get-2.ensures c.in_ok-row-in-Get.ensures.built c.in_ok-row-in-Get.ensures.grows c.in_ok-at-in-Get.ensures.built c.in_ok-at-in-Get.ensures.grows

pub returns-in_ok-id-in-Get-clause-built : goal.returns-in_ok-id-in-Get-clause-built
returns-in_ok-id-in-Get-clause-built t c =
    built_get c.args.scope.now c.args.terms.now _ _ _ _ _ _ _ _ _ _ _ c.in-Get.is c.requires c.get-in-Get.ensures c.get-in-Get-2.ensures c.in_ok-row-in-Get.ensures.built c.in_ok-row-in-Get.ensures.grows c.in_ok-at-in-Get.ensures.built c.in_ok-at-in-Get.ensures.grows c.in_ok-id-in-Get.ensures.grows c.in_ok-id-in-Get.ensures.built

pub join-requires-clause-fits : goal.join-requires-clause-fits
join-requires-clause-fits t c =
    there_join c.args.scope.now c.args.terms.now _ _ _ _ _ _ _ _ _ c.in-Join.is c.requires c.get-in-Join.ensures c.get-in-Join-2.ensures c.in_ok-a-in-Join.ensures.built c.in_ok-a-in-Join.ensures.grows c.in_ok-b-in-Join.ensures.built c.in_ok-b-in-Join.ensures.grows

pub returns-in_ok-id-in-Join-clause-built : goal.returns-in_ok-id-in-Join-clause-built
returns-in_ok-id-in-Join-clause-built t c =
    built_join c.args.scope.now c.args.terms.now _ _ _ _ _ _ _ _ _ _ _ c.in-Join.is c.requires c.get-in-Join.ensures c.get-in-Join-2.ensures c.in_ok-a-in-Join.ensures.built c.in_ok-a-in-Join.ensures.grows c.in_ok-b-in-Join.ensures.built c.in_ok-b-in-Join.ensures.grows c.in_ok-id-in-Join.ensures.grows c.in_ok-id-in-Join.ensures.built

pub pick-requires-clause-fits : goal.pick-requires-clause-fits
pick-requires-clause-fits t c =
    there_pick c.args.scope.now c.args.terms.now _ _ _ _ _ _ _ _ _ _ _ _ _ c.in-Pick.is c.requires c.get-in-Pick.ensures c.get-in-Pick-2.ensures c.get-in-Pick-3.ensures c.in_ok-test-in-Pick.ensures.built c.in_ok-test-in-Pick.ensures.grows c.in_ok-a-in-Pick.ensures.built c.in_ok-a-in-Pick.ensures.grows c.in_ok-b-in-Pick.ensures.built c.in_ok-b-in-Pick.ensures.grows

pub returns-in_ok-id-in-Pick-clause-built : goal.returns-in_ok-id-in-Pick-clause-built
returns-in_ok-id-in-Pick-clause-built t c =
    built_pick c.args.scope.now c.args.terms.now _ _ _ _ _ _ _ _ _ _ _ _ _ _ _ c.in-Pick.is c.requires c.get-in-Pick.ensures c.get-in-Pick-2.ensures c.get-in-Pick-3.ensures c.in_ok-test-in-Pick.ensures.built c.in_ok-test-in-Pick.ensures.grows c.in_ok-a-in-Pick.ensures.built c.in_ok-a-in-Pick.ensures.grows c.in_ok-b-in-Pick.ensures.built c.in_ok-b-in-Pick.ensures.grows c.in_ok-id-in-Pick.ensures.grows c.in_ok-id-in-Pick.ensures.built

pub set-requires-clause-fits : goal.set-requires-clause-fits
set-requires-clause-fits t c =
    there_set c.args.scope.now c.args.terms.now _ _ _ _ _ _ _ _ _ _ _ _ _ c.in-Set.is c.requires c.get-in-Set.ensures c.get-in-Set-2.ensures c.get-in-Set-3.ensures c.in_ok-row-in-Set.ensures.built c.in_ok-row-in-Set.ensures.grows c.in_ok-at-in-Set.ensures.built c.in_ok-at-in-Set.ensures.grows c.in_ok-cell-in-Set.ensures.built c.in_ok-cell-in-Set.ensures.grows

pub returns-in_ok-id-in-Set-clause-built : goal.returns-in_ok-id-in-Set-clause-built
returns-in_ok-id-in-Set-clause-built t c =
    built_set c.args.scope.now c.args.terms.now _ _ _ _ _ _ _ _ _ _ _ _ _ _ _ c.in-Set.is c.requires c.get-in-Set.ensures c.get-in-Set-2.ensures c.get-in-Set-3.ensures c.in_ok-row-in-Set.ensures.built c.in_ok-row-in-Set.ensures.grows c.in_ok-at-in-Set.ensures.built c.in_ok-at-in-Set.ensures.grows c.in_ok-cell-in-Set.ensures.built c.in_ok-cell-in-Set.ensures.grows c.in_ok-id-in-Set.ensures.grows c.in_ok-id-in-Set.ensures.built

pub term_at-requires : goal.term_at-requires
term_at-requires t c =
    subst (λ k. k < length c.args.scope.now.values.now) (sym c.place.ensures.place) (asks_name c.args.scope.now c.args.terms.now _ _ c.in-Name.is c.requires)

pub term_at-requires-in-Old : goal.term_at-requires-in-Old
term_at-requires-in-Old t c =
    subst (λ k. k < length c.args.scope.now.old.now) (sym c.place-in-Old.ensures.place) (asks_old c.args.scope.now c.args.terms.now _ _ c.in-Old.is c.requires)

pub term-requires : goal.term-requires
term-requires t c =
    let smaller : expr_size c.get.result.now < expr_size c.args.expr.now = smaller_One_0 _ _ _ _ c.in-One.is c.get.ensures in
    let typed : HasTyping c.args.terms.now c.args.scope.now c.get.result.now = asks_one c.args.scope.now c.args.terms.now _ _ _ _ c.in-One.is c.requires c.get.ensures in
    search rules

pub term-requires-in-Fill : goal.term-requires-in-Fill
term-requires-in-Fill t c =
    let smaller : expr_size c.get-in-Fill.result.now < expr_size c.args.expr.now = smaller_Fill_0 _ _ _ _ c.in-Fill.is c.get-in-Fill.ensures in
    let typed : HasTyping c.args.terms.now c.args.scope.now c.get-in-Fill.result.now = asks_fill c.args.scope.now c.args.terms.now _ _ _ _ c.in-Fill.is c.requires c.get-in-Fill.ensures in
    search rules

pub term-requires-in-Slice : goal.term-requires-in-Slice
term-requires-in-Slice t c =
    let smaller : expr_size c.get-in-Slice.result.now < expr_size c.args.expr.now = smaller_Slice_0 _ _ _ _ _ c.in-Slice.is c.get-in-Slice.ensures in
    let typed : HasTyping c.args.terms.now c.args.scope.now c.get-in-Slice.result.now = asks_slice c.args.scope.now c.args.terms.now _ _ _ _ _ c.in-Slice.is c.requires c.get-in-Slice.ensures in
    search rules

pub term-requires-in-Widen : goal.term-requires-in-Widen
term-requires-in-Widen t c =
    let smaller : expr_size c.get-in-Widen.result.now < expr_size c.args.expr.now = smaller_Widen_0 _ _ _ _ c.in-Widen.is c.get-in-Widen.ensures in
    let typed : HasTyping c.args.terms.now c.args.scope.now c.get-in-Widen.result.now = asks_widen c.args.scope.now c.args.terms.now _ _ _ _ c.in-Widen.is c.requires c.get-in-Widen.ensures in
    search rules

pub term-requires-in-Two : goal.term-requires-in-Two
term-requires-in-Two t c =
    let smaller : expr_size c.get-in-Two.result.now < expr_size c.args.expr.now = smaller_Two_0 _ _ _ _ _ c.in-Two.is c.get-in-Two.ensures in
    let typed : HasTyping c.args.terms.now c.args.scope.now c.get-in-Two.result.now = asks_two_first c.args.scope.now c.args.terms.now _ _ _ _ _ c.in-Two.is c.requires c.get-in-Two.ensures in
    search rules

pub term-requires-in-Two-2 : goal.term-requires-in-Two-2
term-requires-in-Two-2 t c =
    let smaller : expr_size c.get-in-Two-2.result.now < expr_size c.args.expr.now = smaller_Two_1 _ _ _ _ _ c.in-Two.is c.get-in-Two-2.ensures in
    let typed : HasTyping c.term-in-Two.new.terms c.args.scope.now c.get-in-Two-2.result.now = asks_two_second c.args.scope.now c.args.terms.now _ _ _ _ _ _ c.in-Two.is c.requires c.get-in-Two-2.ensures c.in_ok-a-in-Two.ensures.grows in
    search rules

pub term-requires-in-Get : goal.term-requires-in-Get
term-requires-in-Get t c =
    let smaller : expr_size c.get-in-Get.result.now < expr_size c.args.expr.now = smaller_Get_0 _ _ _ _ c.in-Get.is c.get-in-Get.ensures in
    let typed : HasTyping c.args.terms.now c.args.scope.now c.get-in-Get.result.now = asks_get_first c.args.scope.now c.args.terms.now _ _ _ _ c.in-Get.is c.requires c.get-in-Get.ensures in
    search rules

pub term-requires-in-Get-2 : goal.term-requires-in-Get-2
term-requires-in-Get-2 t c =
    let smaller : expr_size c.get-in-Get-2.result.now < expr_size c.args.expr.now = smaller_Get_1 _ _ _ _ c.in-Get.is c.get-in-Get-2.ensures in
    let typed : HasTyping c.term-in-Get.new.terms c.args.scope.now c.get-in-Get-2.result.now = asks_get_second c.args.scope.now c.args.terms.now _ _ _ _ _ c.in-Get.is c.requires c.get-in-Get-2.ensures c.in_ok-row-in-Get.ensures.grows in
    search rules

pub term-requires-in-Join : goal.term-requires-in-Join
term-requires-in-Join t c =
    let smaller : expr_size c.get-in-Join.result.now < expr_size c.args.expr.now = smaller_Join_0 _ _ _ _ c.in-Join.is c.get-in-Join.ensures in
    let typed : HasTyping c.args.terms.now c.args.scope.now c.get-in-Join.result.now = asks_join_first c.args.scope.now c.args.terms.now _ _ _ _ c.in-Join.is c.requires c.get-in-Join.ensures in
    search rules

pub term-requires-in-Join-2 : goal.term-requires-in-Join-2
term-requires-in-Join-2 t c =
    let smaller : expr_size c.get-in-Join-2.result.now < expr_size c.args.expr.now = smaller_Join_1 _ _ _ _ c.in-Join.is c.get-in-Join-2.ensures in
    let typed : HasTyping c.term-in-Join.new.terms c.args.scope.now c.get-in-Join-2.result.now = asks_join_second c.args.scope.now c.args.terms.now _ _ _ _ _ c.in-Join.is c.requires c.get-in-Join-2.ensures c.in_ok-a-in-Join.ensures.grows in
    search rules

pub term-requires-in-Pick : goal.term-requires-in-Pick
term-requires-in-Pick t c =
    let smaller : expr_size c.get-in-Pick.result.now < expr_size c.args.expr.now = smaller_Pick_0 _ _ _ _ _ c.in-Pick.is c.get-in-Pick.ensures in
    let typed : HasTyping c.args.terms.now c.args.scope.now c.get-in-Pick.result.now = asks_pick_first c.args.scope.now c.args.terms.now _ _ _ _ _ c.in-Pick.is c.requires c.get-in-Pick.ensures in
    search rules

pub term-requires-in-Pick-2 : goal.term-requires-in-Pick-2
term-requires-in-Pick-2 t c =
    let smaller : expr_size c.get-in-Pick-2.result.now < expr_size c.args.expr.now = smaller_Pick_1 _ _ _ _ _ c.in-Pick.is c.get-in-Pick-2.ensures in
    let typed : HasTyping c.term-in-Pick.new.terms c.args.scope.now c.get-in-Pick-2.result.now = asks_pick_second c.args.scope.now c.args.terms.now _ _ _ _ _ _ c.in-Pick.is c.requires c.get-in-Pick-2.ensures c.in_ok-test-in-Pick.ensures.grows in
    search rules

pub term-requires-in-Pick-3 : goal.term-requires-in-Pick-3
term-requires-in-Pick-3 t c =
    let smaller : expr_size c.get-in-Pick-3.result.now < expr_size c.args.expr.now = smaller_Pick_2 _ _ _ _ _ c.in-Pick.is c.get-in-Pick-3.ensures in
    let typed : HasTyping c.term-in-Pick-2.new.terms c.args.scope.now c.get-in-Pick-3.result.now = asks_pick_third c.args.scope.now c.args.terms.now _ _ _ _ _ _ _ c.in-Pick.is c.requires c.get-in-Pick-3.ensures c.in_ok-test-in-Pick.ensures.grows c.in_ok-a-in-Pick.ensures.grows in
    search rules

pub term-requires-in-Set : goal.term-requires-in-Set
term-requires-in-Set t c =
    let smaller : expr_size c.get-in-Set.result.now < expr_size c.args.expr.now = smaller_Set_0 _ _ _ _ _ c.in-Set.is c.get-in-Set.ensures in
    let typed : HasTyping c.args.terms.now c.args.scope.now c.get-in-Set.result.now = asks_set_first c.args.scope.now c.args.terms.now _ _ _ _ _ c.in-Set.is c.requires c.get-in-Set.ensures in
    search rules

pub term-requires-in-Set-2 : goal.term-requires-in-Set-2
term-requires-in-Set-2 t c =
    let smaller : expr_size c.get-in-Set-2.result.now < expr_size c.args.expr.now = smaller_Set_1 _ _ _ _ _ c.in-Set.is c.get-in-Set-2.ensures in
    let typed : HasTyping c.term-in-Set.new.terms c.args.scope.now c.get-in-Set-2.result.now = asks_set_second c.args.scope.now c.args.terms.now _ _ _ _ _ _ c.in-Set.is c.requires c.get-in-Set-2.ensures c.in_ok-row-in-Set.ensures.grows in
    search rules

pub term-requires-in-Set-3 : goal.term-requires-in-Set-3
term-requires-in-Set-3 t c =
    let smaller : expr_size c.get-in-Set-3.result.now < expr_size c.args.expr.now = smaller_Set_2 _ _ _ _ _ c.in-Set.is c.get-in-Set-3.ensures in
    let typed : HasTyping c.term-in-Set-2.new.terms c.args.scope.now c.get-in-Set-3.result.now = asks_set_third c.args.scope.now c.args.terms.now _ _ _ _ _ _ _ c.in-Set.is c.requires c.get-in-Set-3.ensures c.in_ok-row-in-Set.ensures.grows c.in_ok-at-in-Set.ensures.grows in
    search rules
