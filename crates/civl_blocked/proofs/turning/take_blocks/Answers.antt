use Rattle.std.proofs.Common.{ℕ, ◌≡◌, ◌+◌, ◌∙◌, ◌++◌, take, drop, arith, sym, ap, subst, take-append-drop}
use Rattle.std.specs.Prelude.{All}
use Rattle.civl_meaning.specs.Failing.{IsMove}
use Rattle.civl_blocked.specs.inner.Arranged.{IsLonger, count_of}
use Rattle.civl_blocked.proofs.Fewer.{all_right}
use Rattle.civl_blocked.proofs.Wholes.{wholes_next, part_length}
use Rattle.civl_blocked.proofs.turning.take_blocks.Goals as goal

pub returns : goal.returns
returns c bound few =
    let g = c.args.ground.now in
    let t = c.args.turning.now in
    let a = c.args.arranged in
    let k = c.requires.arranged in
    let rest = t.rest.items in
    let count : c.len.result + c.len-2.result ≡ count_of a = omega (arith, c.len.ensures, c.len-2.ensures, a.blocks.ok.0, a.others.ok.0) in
    let longer = subst (IsLonger g t.done.items c.join_blocks.new.done.items t.beside c.join_blocks.new.beside) c.deref.ensures.value (c.in_ok-challenged.ensures.goes c.if-challenged.false) in
    let is = c.in_ok-put_others.ensures ∙ ap (λ (n : ℕ). a.others.items ++ drop n rest) count in
    let left = all_right IsMove (take (count_of a) rest) (drop (count_of a) rest) (subst (All IsMove) (sym (take-append-drop (count_of a) rest)) c.requires.going.rest_moves) in
    wholes_next g t.done.items c.join_blocks.new.done.items t.beside c.join_blocks.new.beside rest c.put_others.new.rest.items a k longer c.requires.going.rest_moves is left t.open c.requires.open (part_length rest (count_of a) k.there) bound few
