use Rattle.std.proofs.Common.{List, map, subst}
use Rattle.civl_tree.specs.Token.{Token}
use Rattle.civl_lex.specs.declared.token.Token.{Token as Placed}
use Rattle.civl_lex.specs.Spelled.{spelled}
use Rattle.civl_expected.specs.Expected.{MayStand, AreThose, token_of}
use Rattle.civl_expected.proofs.expected.expected_behind.Goals as goal

pub returns-clause-listed : goal.returns-clause-listed
returns-clause-listed g c =
    let found = map token_of c.in_ok-candidates.candidates in
    subst (λ (all : List Token). AreThose (MayStand g.T.Text.spell g.T.Text.fits (spelled c.args.tokens.now)) all found) c.all_candidates.ensures
    (subst (λ (items : List Placed). AreThose (MayStand g.T.Text.spell g.T.Text.fits (spelled items)) (map token_of c.all_candidates.result.now) found) c.in_ok-front.ensures.items c.in_ok-candidates.ensures)
