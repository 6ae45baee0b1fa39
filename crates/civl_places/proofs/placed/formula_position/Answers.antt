use Rattle.std.proofs.Common.{arith}
use Rattle.civl_places.proofs.Offsets.{spelling_within, start_there}
use Rattle.civl_places.proofs.placed.formula_position.Goals as goal

pub formula_token-requires : goal.formula_token-requires
formula_token-requires c = omega (arith, spelling_within c.args.program.now c.args.tokens.now c.requires.spelling)

pub token_position-requires-clause-there : goal.token_position-requires-clause-there
token_position-requires-clause-there c =
    start_there c.args.program.now _ c.args.tokens.now c.requires.spelling (rw c.in-Some.is at c.formula_token.ensures.within)
