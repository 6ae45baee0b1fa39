use Rattle.civl_phrases.proofs.Places.{here_is}
use Rattle.civl_phrases.proofs.take.from.Goals as goal

pub returns-clause-tokens : goal.returns-clause-tokens
returns-clause-tokens c = here_is c.args.tokens.now c.args.at
