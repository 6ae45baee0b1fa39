use Rattle.std.proofs.Common.{◌≡◌, List, sym, ap, ◌∙◌, subst, Ok, Err}
use Rattle.civl_tree.specs.Token.{Token}
use Rattle.civl_tree.specs.SpellingDomain.{HasSpelling}
use Rattle.civl_tree.specs.SpellingProgram.{spell_program}
use Rattle.civl_lex.specs.Spelled.{spelled}
use Rattle.civl_lex.specs.Text.{HasTokens}
use Rattle.civl_frontend.proofs.Reading.{reading}
use Rattle.civl_frontend.proofs.reader.read_program.Goals as goal

pub returns-in-Ok-parse : goal.returns-in-Ok-parse
returns-in-Ok-parse c =
    let bytes = c.args.bytes.now in
    let tokens = spelled c.as_slice.result.now in
    let e : tokens ≡ spelled c.in-Ok.tokens.items = ap spelled c.as_slice.ensures.value in
    let has : HasTokens bytes tokens = subst (λ (ts : List Token). HasTokens bytes ts) (sym e) c.in-Ok.ensures.tokens in
    let only : (other : List Token) → HasTokens bytes other → tokens ≡ other = λ other h. e ∙ c.in-Ok.ensures.only_tokens other h in
    reading spell_program HasSpelling bytes tokens only c.in-Ok-parse.program has c.in-Ok-parse.ensures.right (λ other read. let is : Ok other ≡ Ok c.in-Ok-parse.program = c.in-Ok-parse.ensures.only (Ok other) read in cc)

pub returns-in-Err-NotHere : goal.returns-in-Err-NotHere
returns-in-Err-NotHere c = record {
  tokens = spelled c.as_slice.result.now;
  has = subst (λ (ts : List Token). HasTokens c.args.bytes.now ts) (sym (ap spelled c.as_slice.ensures.value)) c.in-Ok.ensures.tokens;
  stops = rw c.in-Err-NotHere.field-0-is at c.in-Err-NotHere.ensures.right;
}

pub returns-in-Err-Deep : goal.returns-in-Err-Deep
returns-in-Err-Deep c = record {
  tokens = spelled c.as_slice.result.now;
  has = subst (λ (ts : List Token). HasTokens c.args.bytes.now ts) (sym (ap spelled c.as_slice.ensures.value)) c.in-Ok.ensures.tokens;
  sinks = rw c.in-Err-Deep.field-0-is at c.in-Err-Deep.ensures.right;
}

pub returns-in-Err-NoToken : goal.returns-in-Err-NoToken
returns-in-Err-NoToken c = rw c.in-Err-NoToken.field-0-is (c.in-Err-NoToken.ensures.no_token c.in-Err-NoToken.place (ap Err c.in-Err-NoToken.field-0-is))
