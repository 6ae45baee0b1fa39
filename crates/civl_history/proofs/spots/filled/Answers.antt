use Rattle.std.proofs.Common.{◌≡◌, List, length, sym, subst, arith, refl, Option, None}
use Rattle.std.proofs.lemmas.List.{with_items_is}
use Rattle.std.proofs.lemmas.Grind.{common_steps}
use Rattle.civl_tree.specs.Numbering.{sizes_of}
use Rattle.civl_meaning.specs.declared.remaining.Numbered.{Numbered}
use Rattle.civl_meaning.specs.Places.{spot_at}
use Rattle.civl_history.specs.inner.Spots.{IsFound, entry}
use Rattle.civl_history.proofs.Filling.{body_is_filled}
use Rattle.civl_history.proofs.spots.filled.Goals as goal

pub returns : goal.returns
returns c =
    let old = c.as_mut_slice.result.now in
    let new = c.fill.new.entries in
    let body = c.args.body.now in
    let long : length old ≡ c.args.count = grind (arith, common_steps) in
    let all = body_is_filled body old new (let count = c.requires in omega arith) (c.fill.ensures.filled (sizes_of body) None refl) in
    let back = with_items_is c.in_ok-entries.entries new (grind (arith, common_steps)) in
    λ place. subst (λ (es : List (Option Numbered)). IsFound (entry es place) (spot_at body place)) (sym back) (all place)
