use Rattle.std.proofs.Common.{refl}
use Rattle.std.proofs.lemmas.Result.{err_from_is_err_and}
use Rattle.civl_lex.specs.Spelled.{spelled}
use Rattle.civl_phrases.specs.Reader.{both}
use Rattle.civl_parser.specs.readers.Programs.{sizes_at}
use Rattle.civl_parser.proofs.Sizes.{sizes_fail}
use Rattle.civl_parser.proofs.programs.sizes.Goals as goal

pub returns : goal.returns
unfolding sizes_at both
returns c = rw (c.in_ok-layers.ensures, c.in_ok-permissions.ensures) refl

pub returns-in_err-permissions : goal.returns-in_err-permissions
returns-in_err-permissions c =
    let p = err_from_is_err_and c.from_residual-in_err-permissions.result c.from_residual-in_err-permissions.ensures.1 in
    rw (p.1, p.2) (sizes_fail c.in_err-permissions.field-0.0 (spelled c.args.tokens.now) (spelled c.in_ok-layers.rest.now) c.in_ok-layers.layers c.in_ok-layers.ensures c.in_err-permissions.ensures)
