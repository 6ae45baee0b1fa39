use Rattle.std.proofs.Common.{refl}
use Rattle.std.proofs.lemmas.List.{length-map}
use Rattle.civl_lex.specs.Spelled.{spelled, spelled_token}
use Rattle.civl_expected.proofs.Viable.{read_stands, not_here_stands, deep_stands}
use Rattle.civl_expected.proofs.trying.may_stand.Goals.{in-Ok, in-Err-NotHere, in-Err-Deep, in-Err-Memory}
use Rattle.civl_expected.proofs.trying.may_stand.Goals as goal

pub returns : goal.returns
returns g c front token e =
    let s = g.T.Text.spell in
    let f = g.T.Text.fits in
    let tokens = spelled c.args.tokens.now in
    let long = length-map c.args.tokens.now spelled_token in
    elim c.match-read.branch [
      | in-Ok w ↦ rw w.result-is (λ _. read_stands s f front token tokens e _ w.in-Ok.ensures, λ _. refl)
      | in-Err-NotHere w ↦ rw w.result-is (not_here_stands s f front token tokens e _ w.in-Err-NotHere.place long (rw w.in-Err-NotHere.field-0-is at w.in-Err-NotHere.ensures))
      | in-Err-Deep w ↦ rw w.result-is (deep_stands s f front token tokens e _ w.in-Err-Deep.place long (rw w.in-Err-Deep.field-0-is at w.in-Err-Deep.ensures))
      | in-Err-Memory w ↦ rw w.result-is tt
    ]
