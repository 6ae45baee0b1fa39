use Rattle.civl_places.proofs.Itemized.{item_found, item_left}
use Rattle.civl_places.proofs.Rising.{item_within}
use Rattle.civl_places.proofs.item.item_token.Goals as goal

pub returns-in-Found : goal.returns-in-Found
returns-in-Found c =
    let start = item_found c.args.program.now _ _ _ c.walk_items.ensures c.in-Found.is in record {
      start = start;
      within = item_within c.args.program.now _ _ start.0 start.1;
    }

pub returns-in-Left-clause-start : goal.returns-in-Left-clause-start
returns-in-Left-clause-start c = item_left c.args.program.now _ _ _ c.walk_items.ensures c.in-Left.is
