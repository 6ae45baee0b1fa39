use Rattle.std.proofs.Common.{◌∙◌, arith}
use Rattle.std.specs.Str.Parse.{ParsesUnsigned, ExplainsUnsignedError, HasUnsignedDigitsIfOk}
use Rattle.clap.specs.Walk.{one_of, rows_of}
use Rattle.clap.specs.Matches.{found_of}
use Rattle.clap.proofs.WalkLemmas.{one_text-rows}
use Rattle.civl_explain_words.proofs.Numbers.{none_there, one_there}
use Rattle.civl_explain_words.proofs.words.number_of.Goals as goal

pub returns-in-None : goal.returns-in-None
returns-in-None c =
    let found = found_of c.args.matches.now in
    none_there (λ bs r. ParsesUnsigned 32 10 bs r × ExplainsUnsignedError 10 bs r × HasUnsignedDigitsIfOk bs r) (λ text x h. h.0)
    c.args.least c.args.most (omega arith) (one_of c.args.id.now (rows_of found)) c.get_one.result
    (λ e. c.get_one.ensures.none (one_text-rows found c.args.id.now ∙ e))
    (λ text e. c.get_one.ensures.value text (one_text-rows found c.args.id.now ∙ e)) c.in-None.is

pub returns-in-Some : goal.returns-in-Some
returns-in-Some c =
    let found = found_of c.args.matches.now in
    c.between.ensures ∙ one_there (λ bs r. ParsesUnsigned 32 10 bs r × ExplainsUnsignedError 10 bs r × HasUnsignedDigitsIfOk bs r) (λ text x h. h.0)
    c.args.least c.args.most (omega arith) (one_of c.args.id.now (rows_of found)) c.get_one.result
    (λ e. c.get_one.ensures.none (one_text-rows found c.args.id.now ∙ e))
    (λ text e. c.get_one.ensures.value text (one_text-rows found c.args.id.now ∙ e)) c.in-Some.number c.in-Some.is
