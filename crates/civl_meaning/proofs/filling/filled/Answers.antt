use Rattle.std.proofs.Common.{◌≡◌, ◌+◌, List, length, sym, subst, arith, Option, None}
use Rattle.std.proofs.lemmas.List.{with_items_is}
use Rattle.std.proofs.lemmas.Grind.{common_steps}
use Rattle.civl_tree.specs.Numbering.{sizes_of}
use Rattle.civl_meaning.specs.declared.found.Found.{Found}
use Rattle.civl_meaning.specs.Places.{spot_at, spot_among}
use Rattle.civl_meaning.specs.Table.{IsFound, entry}
use Rattle.civl_meaning.specs.inner.Filled.{Filled}
use Rattle.civl_meaning.proofs.Tables.{body_is_filled}
use Rattle.civl_meaning.proofs.filling.filled.Goals as goal

pub returns : goal.returns
returns c =
    let old = c.as_mut_slice.result.now in
    let new = c.fill.new.entries in
    let body = c.args.body.now in
    let long : length old ≡ c.args.count = grind (arith, common_steps) in
    let count = c.requires in
    let all = body_is_filled body old new (omega arith) (subst (λ n. Filled old new 0 (0 + sizes_of body) (spot_among body 0 n None)) count c.fill.ensures) in
    let back = with_items_is c.in_ok-found.found new (grind (arith, common_steps)) in
    λ place. subst (λ (es : List (Option Found)). IsFound (entry es place) (spot_at body place)) (sym back) (all place)
