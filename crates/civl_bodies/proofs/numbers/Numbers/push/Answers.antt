use Rattle.std.specs.Prelude.{flat_map}
use Rattle.std.proofs.Common.{◌≡◌, ◌∙◌, ◌+◌, ℕ, List, [], ◌∷◌, ◌++◌, sym, ap, ap₂, append_assoc, arith}
use Rattle.civl_bodies.specs.Numbers.{counted, numbers_in}
use Rattle.civl_bodies.proofs.Counting.{counted_more}
use Rattle.civl_bodies.proofs.numbers.Numbers.push.Goals as goal

pub returns-then-count-lt4294967295 : goal.returns-then-count-lt4294967295
returns-then-count-lt4294967295 c =
    let runs = flat_map numbers_in c.self.inside.runs.items in
    let first = c.self.inside.last.first in
    let count = c.self.inside.last.count in
    let next : first + count ≡ c.args.number = omega (arith, c.if-first-number.true, c.if-number-first.true) in
    ap (λ (xs : List ℕ). runs ++ xs) (counted_more first count) ∙ sym (append_assoc runs (counted first count) ((first + count) ∷ []))
    ∙ ap₂ (λ (xs : List ℕ) (n : ℕ). xs ++ n ∷ []) c.self.view_is next
