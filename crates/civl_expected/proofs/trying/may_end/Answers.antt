use Rattle.std.proofs.Common.{◌≡◌, refl, true, false}
use Rattle.civl_lex.specs.Spelled.{spelled}
use Rattle.civl_expected.proofs.Viable.{read_ends, not_here_goes_on, deep_goes_on}
use Rattle.civl_expected.proofs.trying.may_end.Goals.{in-Ok, in-Err-NotHere, in-Err-Deep, in-Err-Memory}
use Rattle.civl_expected.proofs.trying.may_end.Goals as goal

pub returns : goal.returns
returns g c =
    let s = g.T.Text.spell in
    let f = g.T.Text.fits in
    let tokens = spelled c.args.tokens.now in
    elim c.match-read.branch [
      | in-Ok w ↦ rw w.result-is (λ _. read_ends s f tokens _ w.in-Ok.ensures, λ _. refl)
      | in-Err-NotHere w ↦ rw w.result-is (λ e. absurd (false_not e), λ m. absurd (not_here_goes_on s f tokens w.in-Err-NotHere.field-0-0 (rw w.in-Err-NotHere.field-0-is at w.in-Err-NotHere.ensures) m))
      | in-Err-Deep w ↦ rw w.result-is (λ e. absurd (false_not e), λ m. absurd (deep_goes_on s f tokens w.in-Err-Deep.field-0-0 (rw w.in-Err-Deep.field-0-is at w.in-Err-Deep.ensures) m))
      | in-Err-Memory w ↦ rw w.result-is tt
    ]
  where
    false_not : false ≡ true → ⊥
    false_not e = cc
