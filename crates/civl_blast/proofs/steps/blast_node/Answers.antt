use Rattle.std.specs.Prelude.{Some}
use Rattle.std.proofs.Common.{◌∙◌, ap, inl, inr}
use Rattle.civl_terms.specs.declared.node.Node.{Node}
use Rattle.civl_blast.proofs.Nodes.{constant_flat, constant_made, variable_flat, variable_made, one_part, one_made, two_parts, two_made, pick_parts, pick_made, slice_part, slice_made, widen_part, widen_made, join_parts, join_made, no_get, no_set, no_fill}
use Rattle.civl_blast.proofs.steps.blast_node.Goals as goal

pub constant-requires : goal.constant-requires
constant-requires c = constant_flat c.requires.ready _ (c.node.ensures.is ∙ ap (λ (n : Node). Some n) c.in-Constant.is)

pub returns-in_ok-made-in-Constant-clause-ok : goal.returns-in_ok-made-in-Constant-clause-ok
returns-in_ok-made-in-Constant-clause-ok c = constant_made c.requires.ready c.requires.one _ (c.node.ensures.is ∙ ap (λ (n : Node). Some n) c.in-Constant.is) c.in_ok-made-in-Constant.ensures

pub variable-requires-clause-flat : goal.variable-requires-clause-flat
variable-requires-clause-flat c = (variable_flat c.requires.ready _ _ (c.node.ensures.is ∙ ap (λ (n : Node). Some n) c.in-Variable.is)).0

pub variable-requires-clause-limits : goal.variable-requires-clause-limits
variable-requires-clause-limits c = (variable_flat c.requires.ready _ _ (c.node.ensures.is ∙ ap (λ (n : Node). Some n) c.in-Variable.is)).1

pub returns-in_ok-made-in-Variable-clause-ok : goal.returns-in_ok-made-in-Variable-clause-ok
returns-in_ok-made-in-Variable-clause-ok c = variable_made c.requires.ready _ _ (c.node.ensures.is ∙ ap (λ (n : Node). Some n) c.in-Variable.is) c.in_ok-made-in-Variable.ensures

pub unary-requires-clause-a : goal.unary-requires-clause-a
unary-requires-clause-a c = (one_part c.requires.ready _ _ _ (c.node.ensures.is ∙ ap (λ (n : Node). Some n) c.in-One.is) c.index-table-a.is).0.inside

pub unary-requires-clause-sorts : goal.unary-requires-clause-sorts
unary-requires-clause-sorts c = (one_part c.requires.ready _ _ _ (c.node.ensures.is ∙ ap (λ (n : Node). Some n) c.in-One.is) c.index-table-a.is).1

pub returns-in_ok-made-in-One-clause-ok : goal.returns-in_ok-made-in-One-clause-ok
returns-in_ok-made-in-One-clause-ok c = one_made c.requires.ready _ _ _ (c.node.ensures.is ∙ ap (λ (n : Node). Some n) c.in-One.is) c.index-table-a.is c.in_ok-made-in-One.ensures.ok

pub binary-requires-clause-a : goal.binary-requires-clause-a
binary-requires-clause-a c = (two_parts c.requires.ready _ _ _ _ _ (c.node.ensures.is ∙ ap (λ (n : Node). Some n) c.in-Two.is) c.index-table-a-in-Two.is c.index-table-b.is).0.inside

pub binary-requires-clause-b : goal.binary-requires-clause-b
binary-requires-clause-b c = (two_parts c.requires.ready _ _ _ _ _ (c.node.ensures.is ∙ ap (λ (n : Node). Some n) c.in-Two.is) c.index-table-a-in-Two.is c.index-table-b.is).1.inside

pub binary-requires-clause-sorts : goal.binary-requires-clause-sorts
binary-requires-clause-sorts c = (two_parts c.requires.ready _ _ _ _ _ (c.node.ensures.is ∙ ap (λ (n : Node). Some n) c.in-Two.is) c.index-table-a-in-Two.is c.index-table-b.is).2

pub returns-in_ok-made-in-Two-clause-ok : goal.returns-in_ok-made-in-Two-clause-ok
returns-in_ok-made-in-Two-clause-ok c = two_made c.requires.ready _ _ _ _ _ (c.node.ensures.is ∙ ap (λ (n : Node). Some n) c.in-Two.is) c.index-table-a-in-Two.is c.index-table-b.is c.in_ok-made-in-Two.ensures.ok

pub pick-requires-clause-c : goal.pick-requires-clause-c
pick-requires-clause-c c = (pick_parts c.requires.ready _ _ _ _ _ _ (c.node.ensures.is ∙ ap (λ (n : Node). Some n) c.in-Pick.is) c.index-table-c.is c.index-table-a-in-Pick.is c.index-table-b-in-Pick.is).test.inside

pub pick-requires-clause-a : goal.pick-requires-clause-a
pick-requires-clause-a c = (pick_parts c.requires.ready _ _ _ _ _ _ (c.node.ensures.is ∙ ap (λ (n : Node). Some n) c.in-Pick.is) c.index-table-c.is c.index-table-a-in-Pick.is c.index-table-b-in-Pick.is).first.inside

pub pick-requires-clause-b : goal.pick-requires-clause-b
pick-requires-clause-b c = (pick_parts c.requires.ready _ _ _ _ _ _ (c.node.ensures.is ∙ ap (λ (n : Node). Some n) c.in-Pick.is) c.index-table-c.is c.index-table-a-in-Pick.is c.index-table-b-in-Pick.is).second.inside

pub pick-requires-clause-sorts : goal.pick-requires-clause-sorts
pick-requires-clause-sorts c = (pick_parts c.requires.ready _ _ _ _ _ _ (c.node.ensures.is ∙ ap (λ (n : Node). Some n) c.in-Pick.is) c.index-table-c.is c.index-table-a-in-Pick.is c.index-table-b-in-Pick.is).fits

pub returns-in_ok-made-in-Pick-clause-ok : goal.returns-in_ok-made-in-Pick-clause-ok
returns-in_ok-made-in-Pick-clause-ok c = pick_made c.requires.ready _ _ _ _ _ _ (c.node.ensures.is ∙ ap (λ (n : Node). Some n) c.in-Pick.is) c.index-table-c.is c.index-table-a-in-Pick.is c.index-table-b-in-Pick.is c.in_ok-made-in-Pick.ensures.ok

pub slice-requires : goal.slice-requires
slice-requires c = (slice_part c.requires.ready _ _ _ _ (c.node.ensures.is ∙ ap (λ (n : Node). Some n) c.in-Slice.is) c.index-table-a-in-Slice.is).1

pub returns-in_ok-made-in-Slice-clause-ok : goal.returns-in_ok-made-in-Slice-clause-ok
returns-in_ok-made-in-Slice-clause-ok c = slice_made c.requires.ready c.requires.one _ _ _ _ (c.node.ensures.is ∙ ap (λ (n : Node). Some n) c.in-Slice.is) c.index-table-a-in-Slice.is (c.in_ok-made-in-Slice.ensures c.args.one)

pub widen-requires : goal.widen-requires
widen-requires c = (widen_part c.requires.ready _ _ _ (c.node.ensures.is ∙ ap (λ (n : Node). Some n) c.in-Widen.is) c.index-table-a-in-Widen.is).1

pub returns-in_ok-made-in-Widen-clause-ok : goal.returns-in_ok-made-in-Widen-clause-ok
returns-in_ok-made-in-Widen-clause-ok c = widen_made c.requires.ready c.requires.one _ _ _ (c.node.ensures.is ∙ ap (λ (n : Node). Some n) c.in-Widen.is) c.index-table-a-in-Widen.is c.in_ok-made-in-Widen.ensures

pub join-requires : goal.join-requires
join-requires c = (join_parts c.requires.ready _ _ _ _ (c.node.ensures.is ∙ ap (λ (n : Node). Some n) c.in-Join.is) c.index-table-a-in-Join.is c.index-table-b-in-Join.is).2

pub returns-in_ok-made-in-Join-clause-ok : goal.returns-in_ok-made-in-Join-clause-ok
returns-in_ok-made-in-Join-clause-ok c = join_made c.requires.ready c.requires.one _ _ _ _ (c.node.ensures.is ∙ ap (λ (n : Node). Some n) c.in-Join.is) c.index-table-a-in-Join.is c.index-table-b-in-Join.is (c.in_ok-made-in-Join.ensures c.args.one)

pub unreachable-requires : goal.unreachable-requires
unreachable-requires c = elim c.in-Get.is [
  | inl g ↦ no_get c.requires.ready g.0 g.1 (c.node.ensures.is ∙ ap (λ (n : Node). Some n) g.2)
  | inr h ↦ elim h [
    | inl s ↦ no_set c.requires.ready s.0 s.1 s.2 (c.node.ensures.is ∙ ap (λ (n : Node). Some n) s.3)
    | inr f ↦ no_fill c.requires.ready f.0 f.1 (c.node.ensures.is ∙ ap (λ (n : Node). Some n) f.2)
  ]
]
