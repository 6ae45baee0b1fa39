use Rattle.std.specs.Prelude.{slice_get}
use Rattle.std.proofs.Common.{◌≡◌, length, refl, Some, None}
use Rattle.std.proofs.lemmas.Option.{slice_get_read, slice_get_past}
use Rattle.civl_lines.proofs.Within.{start_within}
use Rattle.civl_lines.proofs.source.offset_of.Goals as goal

pub returns-in-Some-clause-offset : goal.returns-in-Some-clause-offset
returns-in-Some-clause-offset c =
    let tokens = c.args.text.now.tokens.now in
    let there : slice_get tokens c.args.number ≡ Some c.in-Some.token.now =
    slice_get_read tokens (length tokens) c.args.number c.in-Some.token.now refl c.in-Some.ensures.lookup.3.0 c.in-Some.ensures.lookup.1 in
    rw there refl

pub returns-in-Some-clause-within : goal.returns-in-Some-clause-within
returns-in-Some-clause-within c =
    let tokens = c.args.text.now.tokens.now in
    start_within _ _ c.args.number _ c.requires
    (slice_get_read tokens (length tokens) c.args.number c.in-Some.token.now refl c.in-Some.ensures.lookup.3.0 c.in-Some.ensures.lookup.1)

pub returns-in-None-clause-offset : goal.returns-in-None-clause-offset
returns-in-None-clause-offset c =
    let none : slice_get c.args.text.now.tokens.now c.args.number ≡ None = slice_get_past c.args.text.now.tokens.now c.args.number c.in-None.ensures.lookup.3 in
    rw none refl
