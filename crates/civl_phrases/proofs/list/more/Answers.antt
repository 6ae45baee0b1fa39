use Rattle.std.proofs.Common.{ℕ, ◌+◌, ◌-◌, ◌∙◌, length, sym, arith}
use Rattle.std.proofs.lemmas.List.{length-map}
use Rattle.std.proofs.lemmas.Result.{err_from_is_err_and}
use Rattle.civl_lex.specs.Spelled.{spelled, spelled_token}
use Rattle.civl_phrases.specs.List.{repeated, front}
use Rattle.civl_phrases.proofs.Repeated.{loop_is}
use Rattle.civl_phrases.proofs.list.more.Goals as goal

pub items-init : goal.items-init
items-init g c =
    let loop = loop_is (g.P.Headed.heads c.args.phrase.now) (g.P.Phrase.reader c.args.phrase.now) in
    loop.starts (length c.args.tokens.now + 1 - 0) c.args.items (spelled c.args.tokens.now) (omega (arith, length-map c.args.tokens.now spelled_token))

pub items-preserved : goal.items-preserved
items-preserved g c =
    let loop = loop_is (g.P.Headed.heads c.args.phrase.now) (g.P.Phrase.reader c.args.phrase.now) in
    let n : ℕ = length c.args.tokens.now + 1 - c.items.counter in
    let m : ℕ = length c.args.tokens.now + 1 - (c.items.counter + 1) in
    rw c.in_ok-push.ensures.ok (loop.goes_on n m c.items.items (spelled c.items.left.tokens.now) (spelled c.in_ok-item.next.tokens.now) c.in_ok-item.item
    (front c.args.items (repeated (g.P.Headed.heads c.args.phrase.now) (g.P.Phrase.reader c.args.phrase.now) (spelled c.args.tokens.now)))
    (omega arith) (sym c.is_next.ensures ∙ c.if-not-is_next.false) c.in_ok-item.ensures c.items.invariant)

pub returns-then-not-is_next : goal.returns-then-not-is_next
returns-then-not-is_next g c =
    let loop = loop_is (g.P.Headed.heads c.args.phrase.now) (g.P.Phrase.reader c.args.phrase.now) in
    loop.ends (length c.args.tokens.now + 1 - c.items.counter) c.items.items (spelled c.items.left.tokens.now)
    (front c.args.items (repeated (g.P.Headed.heads c.args.phrase.now) (g.P.Phrase.reader c.args.phrase.now) (spelled c.args.tokens.now)))
    (omega arith) (sym c.is_next.ensures ∙ c.if-not-is_next.true) c.items.invariant

pub returns-in_err-item : goal.returns-in_err-item
returns-in_err-item g c =
    let loop = loop_is (g.P.Headed.heads c.args.phrase.now) (g.P.Phrase.reader c.args.phrase.now) in
    let p = err_from_is_err_and c.from_residual.result c.from_residual.ensures.1 in
    rw (p.1, p.2) (loop.fails (length c.args.tokens.now + 1 - c.items.counter) c.in_err-item.field-0.0 c.items.items (spelled c.items.left.tokens.now)
    (front c.args.items (repeated (g.P.Headed.heads c.args.phrase.now) (g.P.Phrase.reader c.args.phrase.now) (spelled c.args.tokens.now)))
    (omega arith) (sym c.is_next.ensures ∙ c.if-not-is_next.false) c.in_err-item.ensures c.items.invariant)

pub returns : goal.returns
returns g c =
    let loop = loop_is (g.P.Headed.heads c.args.phrase.now) (g.P.Phrase.reader c.args.phrase.now) in
    let total = loop.spent (length c.args.tokens.now + 1 - c.items.counter) c.items.items (spelled c.items.left.tokens.now)
    (front c.args.items (repeated (g.P.Headed.heads c.args.phrase.now) (g.P.Phrase.reader c.args.phrase.now) (spelled c.args.tokens.now)))
    (omega arith) c.items.invariant in
    rw c.not_here.ensures (rw (length-map c.items.left.tokens.now spelled_token) at total)
