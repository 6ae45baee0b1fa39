use Rattle.std.proofs.Common.{◌≡◌, ◌+◌, ◌++◌, ◌∙◌, ℕ, List, [], drop, ap, sym, arith, append_assoc, false}
use Rattle.std.specs.Prelude.{nat_lt}
use Rattle.std.proofs.lemmas.Bool.{le-ltb}
use Rattle.std.proofs.lemmas.Grind.{common_steps}
use Rattle.std.proofs.lemmas.List.{append-nil, drop_all, take_rest}
use Rattle.civl_tree.specs.declared.stmt.Stmt.{Stmt}
use Rattle.civl_tree.specs.Numbering.{size_of, numbered}
use Rattle.civl_meaning.specs.Rest.{Rest, rest_among, rest_inside}
use Rattle.civl_meaning.specs.Remaining.{rest_of}
use Rattle.civl_meaning.proofs.Left.{here_left, within_left, past_left, left_none}
use Rattle.civl_meaning.proofs.remaining.+rest.Goals as goal

pub push_among-returns-then-wanted-here : goal.push_among-returns-then-wanted-here
push_among-returns-then-wanted-here t c =
    let items = c.as_slice-items.result.now in
    let k = here_left items c.loop-i.i c.index-items-i.result c.loop-i.here c.args.wanted (omega arith) c.index-items-i.is (omega arith) (omega arith) in
    let e = take_rest items c.loop-i.i in
    let r = ap rest_of c.loop-i.invariant.rest in
    cc (c.in_ok-push_numbered.ensures, k, e, r, c.loop-i.invariant.left)

pub push_among-loop-i-preserved : goal.push_among-loop-i-preserved
push_among-loop-i-preserved t c =
    let items = c.as_slice-items.result.now in
    let size = c.size.ensures in
    let far : nat_lt c.args.wanted (c.loop-i.here + size_of c.index-items-i.result) ≡ false = le-ltb c.args.wanted (c.loop-i.here + size_of c.index-items-i.result) (omega arith) in
    let k = past_left items c.loop-i.i c.index-items-i.result c.loop-i.here c.args.wanted (omega arith) c.index-items-i.is far in
    record {
      counted = grind (arith, common_steps);
      left = ap (λ (n : ℕ). rest_among (drop (c.loop-i.i + 1) items) (c.loop-i.here + n) [] c.args.wanted) size ∙ sym k ∙ c.loop-i.invariant.left;
      rest = c.loop-i.invariant.rest;
    }

pub push_among-returns-then-wanted-behind : goal.push_among-returns-then-wanted-behind
push_among-returns-then-wanted-behind t c =
    let items = c.as_slice-items.result.now in
    let stmt = c.index-items-i.result in
    let k = within_left items c.loop-i.i stmt c.loop-i.here c.args.wanted (omega arith) c.index-items-i.is (omega arith) (omega arith) in
    let e = take_rest items (c.loop-i.i + 1) in
    let n : numbered (c.loop-i.here + c.size.result) (drop (c.loop-i.i + 1) items) ≡ numbered (c.loop-i.here + size_of stmt) (drop (c.loop-i.i + 1) items) = ap (λ (m : ℕ). numbered (c.loop-i.here + m) (drop (c.loop-i.i + 1) items)) c.size.ensures in
    let a = append_assoc (rest_of c.loop-i.rest.items) (rest_inside stmt stmt c.loop-i.here [] c.args.wanted) (numbered (c.loop-i.here + size_of stmt) (drop (c.loop-i.i + 1) items)) in
    let r = ap rest_of c.loop-i.invariant.rest in
    cc (c.in_ok-push_inside.ensures, c.in_ok-push_numbered-2.ensures, k, e, n, a, r, c.loop-i.invariant.left)

pub push_among-returns : goal.push_among-returns
push_among-returns t c =
    let items = c.as_slice-items.result.now in
    let d = ap (λ (r : List Stmt). rest_among r c.loop-i.here [] c.args.wanted) (drop_all c.loop-i.i items (omega arith)) ∙ left_none c.loop-i.here c.args.wanted in
    ap rest_of c.loop-i.invariant.rest ∙ sym (append-nil (rest_of c.args.rest.now.items)) ∙ ap (λ (r : Rest). rest_of c.args.rest.now.items ++ r) (sym d ∙ c.loop-i.invariant.left)
