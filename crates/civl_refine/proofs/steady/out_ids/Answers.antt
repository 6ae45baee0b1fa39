use Rattle.std.specs.Prelude.{List, ℕ, take, drop, length}
use Rattle.std.proofs.Common.{◌∙◌, ◌-◌, ap, ap₂}
use Rattle.civl_tree.proofs.Parts.{part_to}
use Rattle.civl_refine.proofs.steady.out_ids.Goals as goal

pub returns : goal.returns
returns c =
    c.from_vec.ensures ∙ c.in_ok-ids.ensures.items ∙ ap (λ (xs : List ℕ). take c.len.result (take (length xs - c.len-from.result) (drop c.len-from.result xs))) c.as_slice.ensures
    ∙ part_to c.len.result c.len-from.result c.args.locals.now ∙ ap₂ (λ (m n : ℕ). take m (drop n c.args.locals.now)) c.len.ensures c.len-from.ensures
