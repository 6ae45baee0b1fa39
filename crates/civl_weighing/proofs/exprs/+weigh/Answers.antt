use Rattle.std.proofs.Common.{rules, ◌∙◌}
use Rattle.civl_tree.specs.declared.expr.Expr.TheOpen as expr
use Rattle.civl_tree.specs.declared.expr.Expr.{the_lemmas as of_expr}
use Rattle.civl_weighing.proofs.Operations.{by_layer, is_layer, is_truth, one_weighed, two_weighed, pick_weighed, get_weighed, set_weighed, fill_weighed, slice_weighed, widen_weighed, join_weighed}
use Rattle.civl_weighing.proofs.exprs.+weigh.Goals as goal

pub returns-in-Name : goal.returns-in-Name
returns-in-Name t c = by_layer (is_layer _ (expr.Name c.in-Name.name) _ (c.leaf.ensures.sort ∙ c.name_sort.ensures) c.leaf.ensures.weight) (rw c.in-Name.is (simp of_expr))

pub returns-in-Old : goal.returns-in-Old
returns-in-Old t c = by_layer (is_layer _ (expr.Old c.in-Old.name) _ (c.leaf-in-Old.ensures.sort ∙ c.old_sort.ensures) c.leaf-in-Old.ensures.weight) (rw c.in-Old.is (simp of_expr))

pub returns-in-Literal : goal.returns-in-Literal
returns-in-Literal t c = by_layer (is_layer _ (expr.Literal c.in-Literal.field-0 c.in-Literal.width) _ c.leaf-in-Literal.ensures.sort c.leaf-in-Literal.ensures.weight) (rw c.in-Literal.is (simp of_expr))

pub returns-in-True : goal.returns-in-True
returns-in-True t c = is_truth c.args.expr.now (search rules) c.leaf-in-True.ensures.sort c.leaf-in-True.ensures.weight

pub returns-in-One : goal.returns-in-One
returns-in-One t c = by_layer (one_weighed c.weigh_one.ensures c.weigh.ensures) (rw (c.in-One.is, c.deref.ensures) (simp of_expr))

pub returns-in-Two : goal.returns-in-Two
returns-in-Two t c = by_layer (two_weighed c.weigh_two.ensures c.weigh-in-Two.ensures c.weigh-in-Two-2.ensures) (rw (c.in-Two.is, c.deref-in-Two.ensures, c.deref-in-Two-2.ensures) (simp of_expr))

pub returns-in-Pick : goal.returns-in-Pick
returns-in-Pick t c = by_layer (pick_weighed c.weigh_pick.ensures c.weigh-in-Pick.ensures c.weigh-in-Pick-2.ensures c.weigh-in-Pick-3.ensures) (rw (c.in-Pick.is, c.deref-in-Pick.ensures, c.deref-in-Pick-2.ensures, c.deref-in-Pick-3.ensures) (simp of_expr))

pub returns-in-Get : goal.returns-in-Get
returns-in-Get t c = by_layer (get_weighed c.weigh_get.ensures c.weigh-in-Get.ensures c.weigh-in-Get-2.ensures) (rw (c.in-Get.is, c.deref-in-Get.ensures, c.deref-in-Get-2.ensures) (simp of_expr))

pub returns-in-Set : goal.returns-in-Set
returns-in-Set t c = by_layer (set_weighed c.weigh_set.ensures c.weigh-in-Set.ensures c.weigh-in-Set-2.ensures c.weigh-in-Set-3.ensures) (rw (c.in-Set.is, c.deref-in-Set.ensures, c.deref-in-Set-2.ensures, c.deref-in-Set-3.ensures) (simp of_expr))

pub returns-in-Fill : goal.returns-in-Fill
returns-in-Fill t c = by_layer (fill_weighed c.weigh_fill.ensures c.weigh-in-Fill.ensures) (rw (c.in-Fill.is, c.deref-in-Fill.ensures) (simp of_expr))

pub returns-in-Slice : goal.returns-in-Slice
returns-in-Slice t c = by_layer (slice_weighed c.weigh_slice.ensures c.weigh-in-Slice.ensures) (rw (c.in-Slice.is, c.deref-in-Slice.ensures) (simp of_expr))

pub returns-in-Widen : goal.returns-in-Widen
returns-in-Widen t c = by_layer (widen_weighed c.weigh_widen.ensures c.weigh-in-Widen.ensures) (rw (c.in-Widen.is, c.deref-in-Widen.ensures) (simp of_expr))

pub returns-in-Join : goal.returns-in-Join
returns-in-Join t c = by_layer (join_weighed c.weigh_join.ensures c.weigh-in-Join.ensures c.weigh-in-Join-2.ensures) (rw (c.in-Join.is, c.deref-in-Join.ensures, c.deref-in-Join-2.ensures) (simp of_expr))
