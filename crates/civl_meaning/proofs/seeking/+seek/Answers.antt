use Rattle.std.proofs.Common.{◌+◌, ◌-◌, ◌∙◌, ℕ, List, drop, sym, ap, arith, Option}
use Rattle.std.specs.Prelude.{option_copied}
use Rattle.std.proofs.lemmas.List.{drop_all, take_rest}
use Rattle.civl_tree.specs.declared.stmt.Stmt.{Stmt}
use Rattle.civl_meaning.specs.inner.Left.{first_left, among_left, inside_left}
use Rattle.civl_meaning.proofs.Shifting.{here_left, within_left, past_left, none_left}
use Rattle.civl_meaning.proofs.seeking.+seek.Goals as goal

pub seek-returns-then-left-eq0 : goal.seek-returns-then-left-eq0
seek-returns-then-left-eq0 t c =
    let after = option_copied c.args.after in
    let items = c.as_slice-items.result.now in
    let k = here_left items c.loop-i.i c.index-items-i.result after c.loop-i.left (omega arith) c.index-items-i.is c.in_default.ensures (omega arith) in
    c.first.ensures ∙ ap (λ (r : List Stmt). first_left r after) (take_rest items c.loop-i.i) ∙ sym k ∙ c.loop-i.invariant

pub seek-returns-in_default : goal.seek-returns-in_default
seek-returns-in_default t c =
    let after = option_copied c.args.after in
    let items = c.as_slice-items.result.now in
    let k = within_left items c.loop-i.i c.index-items-i.result after c.loop-i.left (omega arith) c.index-items-i.is c.in_default.ensures (omega arith) in
    let rest = c.first-in_default.ensures ∙ ap (λ (r : List Stmt). first_left r after) (take_rest items (c.loop-i.i + 1)) in
    c.seek_inside.ensures ∙ ap (λ (o : Option Stmt). inside_left c.index-items-i.result o c.loop-i.left) rest ∙ sym k ∙ c.loop-i.invariant

pub seek-loop-i-preserved : goal.seek-loop-i-preserved
seek-loop-i-preserved t c =
    let after = option_copied c.args.after in
    let items = c.as_slice-items.result.now in
    let size = c.in-Some.ensures.0 in
    let k = past_left items c.loop-i.i c.index-items-i.result after c.loop-i.left (omega arith) c.index-items-i.is (omega (arith, size, c.in-Some.ensures.1)) in
    ap (λ (n : ℕ). among_left (drop (c.loop-i.i + 1) items) after (c.loop-i.left - n)) size ∙ sym k ∙ c.loop-i.invariant

pub seek-returns : goal.seek-returns
seek-returns t c =
    let after = option_copied c.args.after in
    let items = c.as_slice-items.result.now in
    sym (none_left after c.loop-i.left) ∙ ap (λ (r : List Stmt). among_left r after c.loop-i.left) (sym (drop_all c.loop-i.i items (omega arith))) ∙ c.loop-i.invariant
