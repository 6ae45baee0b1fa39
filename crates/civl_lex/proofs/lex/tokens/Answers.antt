use Rattle.std.proofs.Common.{◌≡◌, ℕ, List, Ok, Err, sym, ap, subst, inl, arith}
use Rattle.civl_lex.specs.declared.token.Token.{Token}
use Rattle.civl_lex.specs.declared.fault.LexFault.TheVariants.{NoToken}
use Rattle.civl_lex.specs.Spelled.{spelled}
use Rattle.civl_lex.specs.Text.{NoTokenAt}
use Rattle.civl_lex.proofs.Steps.{IsUpTo, up_to_none, up_to_all, up_to_fault, up_to_more, token_some}
use Rattle.civl_lex.proofs.Texts.{answer_once}
use Rattle.civl_lex.proofs.lex.tokens.Goals as goal

pub text-init : goal.text-init
text-init c = record {
  within = c.gap_end-at.ensures.within;
  found = subst (λ (xs : List Token). IsUpTo c.args.bytes.now xs c.gap_end-at.result) (sym c.new-found.ensures.items) (up_to_none c.args.bytes.now c.gap_end-at.result c.gap_end-at.ensures.rest);
}

pub returns-in_default-clause-no_token : goal.returns-in_default-clause-no_token
returns-in_default-clause-no_token c = λ p h.
    let place : c.text.at ≡ p = cc in
    subst (NoTokenAt c.args.bytes.now) place (up_to_fault c.args.bytes.now c.text.found.items c.text.at c.text.invariant.found c.text-test.true c.in_default.ensures.token)

pub returns-in_default-clause-only_tokens : goal.returns-in_default-clause-only_tokens
returns-in_default-clause-only_tokens c = λ tokens h.
    let fault = up_to_fault c.args.bytes.now c.text.found.items c.text.at c.text.invariant.found c.text-test.true c.in_default.ensures.token in
    let clash = answer_once c.args.bytes.now (Ok tokens) (Err c.text.at) h fault in
    absurd cc

pub returns-in_default-clause-only_no_token : goal.returns-in_default-clause-only_no_token
returns-in_default-clause-only_no_token c = λ p h.
    let fault = up_to_fault c.args.bytes.now c.text.found.items c.text.at c.text.invariant.found c.text-test.true c.in_default.ensures.token in
    let same = answer_once c.args.bytes.now (Err c.text.at) (Err p) fault h in
    let place : c.text.at ≡ p = cc in
    inl (ap (λ (n : ℕ). Err (NoToken n)) place)

pub text-smaller : goal.text-smaller
text-smaller c =
    let some = token_some c.args.bytes.now c.text.at c.in-Some.token c.in-Some.ensures.token c.in-Some.ensures.cut in
    omega (arith, c.gap_end-at-in-text.ensures.later)

pub text-preserved : goal.text-preserved
text-preserved c = record {
  within = c.gap_end-at-in-text.ensures.within;
  found = subst (λ (xs : List Token). IsUpTo c.args.bytes.now xs c.gap_end-at-in-text.result) (sym c.in_ok-push.ensures.items)
      (up_to_more c.args.bytes.now c.text.found.items c.text.at c.gap_end-at-in-text.result c.in-Some.token c.text.invariant.found c.text-test.true
      c.in-Some.ensures.token c.in-Some.ensures.cut c.gap_end-at-in-text.ensures.rest);
}

pub returns-clause-only_tokens : goal.returns-clause-only_tokens
returns-clause-only_tokens c = λ tokens h.
    let all = up_to_all c.args.bytes.now c.text.found.items c.text.at c.text.invariant.found c.text-test.false in
    let same = answer_once c.args.bytes.now (Ok (spelled c.text.found.items)) (Ok tokens) all h in
    cc

pub returns-clause-only_no_token : goal.returns-clause-only_no_token
returns-clause-only_no_token c = λ p h.
    let all = up_to_all c.args.bytes.now c.text.found.items c.text.at c.text.invariant.found c.text-test.false in
    let clash = answer_once c.args.bytes.now (Ok (spelled c.text.found.items)) (Err p) all h in
    absurd cc
