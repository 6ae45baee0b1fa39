use Rattle.std.proofs.Common.{List, [], map, get_or, subst, ◌∙◌}
use Rattle.civl_lex.specs.declared.token.Token.{Token as Placed}
use Rattle.civl_lex.specs.Spelled.{spelled}
use Rattle.civl_expected.specs.declared.candidate.Candidate.{Candidate}
use Rattle.civl_expected.specs.declared.candidate.Candidate.TheVariants.{Sign}
use Rattle.civl_expected.specs.Expected.{MayStand, token_of}
use Rattle.civl_expected.specs.inner.Growing.{GrowsBy}
use Rattle.civl_expected.proofs.Growing.{next_place, no_more}
use Rattle.civl_expected.proofs.trying.may_follow_of.Goals as goal

-- what is read behind the last place
abbrev none : Candidate
none = Sign (record { ref_ptr = (0, 0); now = [] })

pub loop-candidate-preserved : goal.loop-candidate-preserved
loop-candidate-preserved g c =
    let stays = c.loop-candidate.invariant.stays in
    let next = token_of (get_or c.args.candidates.now c.loop-candidate.candidate-index none) in
    let before = map token_of c.loop-candidate.found in
    let after = map token_of c.try_one.new.found in
    record {
      stays = c.in_ok-try_one.ensures.0 ∙ stays;
      goes_on = next_place (MayStand g.T.Text.spell g.T.Text.fits (spelled c.args.front.now.items)) c.args.candidates.now c.loop-candidate.candidate-index none before after c.loop-candidate-test.true
          (subst (λ (items : List Placed). GrowsBy (MayStand g.T.Text.spell g.T.Text.fits (spelled items)) next before after) stays c.in_ok-try_one.ensures.1)
          c.loop-candidate.invariant.goes_on;
    }

pub returns : goal.returns
returns g c =
    no_more (MayStand g.T.Text.spell g.T.Text.fits (spelled c.args.front.now.items)) c.args.candidates.now c.loop-candidate.candidate-index (map token_of c.loop-candidate.found) c.loop-candidate-test.false c.loop-candidate.invariant.goes_on
