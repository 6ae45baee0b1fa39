use Rattle.std.proofs.Common.{sym}
use Rattle.civl_layers.proofs.Signatures.{unlike}
use Rattle.civl_layers.proofs.signature.same_params.Goals as goal

pub returns-then-first-second : goal.returns-then-first-second
returns-then-first-second c = sym (unlike c.args.first.now c.args.second.now c.if-first-second.true)
