use Rattle.std.proofs.Common.{◌≡◌, ◌++◌, List, map, drop}
use Rattle.civl_tree.specs.Token.{Token}
use Rattle.civl_lex.specs.Spelled.{spelled}
use Rattle.civl_expected.specs.Expected.{MayStand, token_of, AreThose}
use Rattle.civl_expected.proofs.trying.may_follow_of.Given as goal

-- the front stays, and whatever is chosen of those that are left, with what was found before it is chosen of all
abbrev pub invariant-loop-candidate : goal.invariant-loop-candidate
invariant-loop-candidate g l = record {
  stays : l.front.items ≡ l.fn.front.items;
  goes_on : (rest : List Token) → AreThose (MayStand g.T.Text.spell g.T.Text.fits (spelled l.fn.front.items)) (map token_of (drop l.candidate-index l.candidates)) rest
      → AreThose (MayStand g.T.Text.spell g.T.Text.fits (spelled l.fn.front.items)) (map token_of l.candidates) (map token_of l.found ++ rest);
}
