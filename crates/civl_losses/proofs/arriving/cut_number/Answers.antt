use Rattle.std.proofs.Common.{arith, map, sym, ap, ◌∙◌, ◌+◌, ℕ}
use Rattle.std.proofs.lemmas.List.{take-map}
use Rattle.civl_losses.proofs.Counting.{number_is}
use Rattle.civl_losses.proofs.arriving.cut_number.Goals as goal

pub overflow_add-result : goal.overflow_add-result
overflow_add-result c = omega (arith, c.cut_count.ensures.few, c.first.ensures.few, c.requires.few)

pub returns : goal.returns
returns c =
    let all = c.args.stmts.now in
    ap (λ (n : ℕ). 1 + n) c.cut_count.ensures.is
    ∙ number_is c.args.proc.now (map (λ s. s.now) all) (map (λ s. s.now) c.first.result.now) c.args.number c.requires.stmts
    (ap (λ ss. map (λ s. s.now) ss) c.first.ensures.is ∙ sym (take-map (λ s. s.now) c.args.number all))
