use Rattle.std.proofs.Common.{◌∙◌, [], ◌∷◌}
use Rattle.civl_tree.specs.declared.stmt.Stmt.{the_lemmas as of_stmt}
use Rattle.civl_meaning.specs.examples.Places.{nested, numbers, PlacesInOrder, PlacesBehind}
use Rattle.civl_meaning.proofs.Placing.{inside_is}
use Rattle.civl_meaning.proofs.Tables.{entries_are}
use Rattle.civl_meaning.proofs.laws.places.entries.Goals as goal

in_order : PlacesInOrder
in_order = simp (of_stmt, inside_is)

behind : PlacesBehind
behind = simp (of_stmt, inside_is)

pub returns-clause-first : goal.returns-clause-first
returns-clause-first c = λ proc places e h. entries_are numbers proc nested places (0 ∷ 1 ∷ 2 ∷ 3 ∷ 4 ∷ 5 ∷ 6 ∷ []) e h ∙ in_order

pub returns-clause-second : goal.returns-clause-second
returns-clause-second c = λ proc places e h. entries_are numbers proc nested places (7 ∷ 8 ∷ 9 ∷ 10 ∷ 11 ∷ 12 ∷ 13 ∷ []) e h ∙ behind
