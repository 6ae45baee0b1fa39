use Rattle.std.proofs.Common.{◌≡◌, ◌∙◌, Bool, true, List, get_or, sym, ap, arith}
use Rattle.std.specs.List.{position}
use Rattle.civl_meaning.specs.declared.config.Running.{Running}
use Rattle.civl_meaning.specs.Failing.{thread_fails}
use Rattle.civl_meaning.proofs.Firsts.{first_at, first_none}
use Rattle.civl_meaning.proofs.faults.failing.Goals as goal

pub returns-then-thread_fails : goal.returns-then-thread_fails
returns-then-thread_fails c =
    let fails : Running → Bool = thread_fails c.args.plain.now c.args.config.now.store in
    let threads = c.as_slice-threads.result.now in
    let item = c.index-threads-at.result in
    let here : fails (get_or threads c.loop-at.at item) ≡ true = ap fails (sym c.index-threads-at.is) ∙ sym c.thread_fails.ensures ∙ c.if-thread_fails.true in
    sym (first_at fails threads c.loop-at.at item (omega arith) c.loop-at.invariant here) ∙ ap (λ (ts : List Running). position fails ts) c.as_slice-threads.ensures

pub returns : goal.returns
returns c =
    let fails : Running → Bool = thread_fails c.args.plain.now c.args.config.now.store in
    let threads = c.as_slice-threads.result.now in
    sym (first_none fails threads (λ k d h. c.loop-at.invariant k d (omega arith))) ∙ ap (λ (ts : List Running). position fails ts) c.as_slice-threads.ensures
