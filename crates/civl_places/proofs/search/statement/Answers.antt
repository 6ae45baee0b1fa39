use Rattle.std.proofs.Common.{sym, ap, ◌∙◌, refl}
use Rattle.civl_places.specs.inner.Searched.{told}
use Rattle.civl_places.proofs.Searching.{found_at, none_at}
use Rattle.civl_places.proofs.search.statement.Goals as goal

pub returns-in-Found : goal.returns-in-Found
returns-in-Found c = rw (found_at c.args.body.now c.args.number _ (sym (ap told c.in-Found.is) ∙ c.search_stmts.ensures)) refl

pub returns-in-Left : goal.returns-in-Left
returns-in-Left c = rw (none_at c.args.body.now c.args.number _ (sym (ap told c.in-Left.is) ∙ c.search_stmts.ensures)) refl
