use Rattle.std.proofs.Common.{◌≤◌, ◌-◌, length}
use Rattle.civl_lex.proofs.Steps.{IsUpTo}
use Rattle.civl_lex.proofs.lex.tokens.Given as goal

abbrev pub invariant-text : goal.invariant-text
invariant-text l = record { within : l.at ≤ length l.bytes; found : IsUpTo l.bytes l.found.items l.at }

abbrev pub decreases-text : goal.decreases-text
decreases-text l = length l.bytes - l.at
