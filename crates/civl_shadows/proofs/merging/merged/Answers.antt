use Rattle.std.proofs.Common.{◌+◌, ◌++◌, ◌∷◌, [], List, drop, sym, ap, ◌∙◌, arith, append_assoc}
use Rattle.std.proofs.lemmas.List.{append-nil}
use Rattle.civl_bits.specs.declared.value.Value.{Value}
use Rattle.civl_reduction.specs.blocks.Shadow.{merged_values}
use Rattle.civl_shadows.specs.inner.Merging.{picked}
use Rattle.civl_shadows.proofs.Merges.{merged_at, merged_end}
use Rattle.civl_shadows.proofs.merging.merged.Goals as goal

pub loop-at-preserved : goal.loop-at-preserved
loop-at-preserved c =
    let first = c.args.layer + 1 in
    let globals = c.args.globals.now in
    let kept = c.as_slice-kept.result.now in
    let others = c.args.introduced.now.values in
    let at = c.loop-at.at in
    let value = c.index-kept-at.result in
    let more = merged_at first at globals kept others value (omega arith) c.index-kept-at.is in
    let seen = c.picked-value.ensures ∙ ap (λ (l : List Value). picked first (drop at globals) value (drop at l)) c.as_slice.ensures in
    let rest = merged_values first (drop (at + 1) globals) (drop (at + 1) kept) (drop (at + 1) others) in
    let pushed = ap (λ (l : List Value). l ++ rest) c.in_ok-push.ensures.items in
    let joined = append_assoc c.loop-at.values.items (c.picked-value.result ∷ []) rest in
    let front = ap (λ (v : Value). c.loop-at.values.items ++ (v ∷ rest)) seen in
    pushed ∙ (joined ∙ (front ∙ (ap (λ (l : List Value). c.loop-at.values.items ++ l) (sym more) ∙ c.loop-at.invariant)))

pub returns : goal.returns
returns c =
    let kept = c.as_slice-kept.result.now in
    let end = merged_end (c.args.layer + 1) c.loop-at.at c.args.globals.now kept c.args.introduced.now.values (omega arith) in
    sym (append-nil c.loop-at.values.items)
    ∙ (ap (λ (l : List Value). c.loop-at.values.items ++ l) (sym end)
    ∙ (c.loop-at.invariant ∙ ap (λ (l : List Value). merged_values (c.args.layer + 1) c.args.globals.now l c.args.introduced.now.values) c.as_slice-kept.ensures))
