use Rattle.std.proofs.Common.{◌≡◌, ◌+◌, ◌-◌, length}
use Rattle.civl_lex.specs.Spelled.{spelled}
use Rattle.civl_phrases.specs.List.{repeated_by, repeated, front}
use Rattle.civl_phrases.proofs.list.more.Given as goal

-- what is read so far, and what is left, make all of it
abbrev pub invariant-items : goal.invariant-items
invariant-items g l = front l.items (repeated_by (g.P.Headed.heads l.phrase) (g.P.Phrase.reader l.phrase) (length l.tokens + 1 - l.counter) (spelled l.left.tokens.now))
    ≡ front l.initial.items (repeated (g.P.Headed.heads l.phrase) (g.P.Phrase.reader l.phrase) (spelled l.tokens))
