use Rattle.std.proofs.Common.{List, ◌↔◌, IsTrue, IfOk, map, sym, subst}
use Rattle.std.proofs.lemmas.List.{take-map}
use Rattle.civl_tree.specs.Token.{Token}
use Rattle.civl_lex.specs.Spelled.{spelled_token}
use Rattle.civl_expected.specs.declared.kind.TextKind.TheVariants as kinds
use Rattle.civl_expected.specs.Expected.{MayStandIn, MayEndIn, tried_tokens, token_of, AreThose}
use Rattle.civl_expected.proofs.expected.expected_at.Goals as goal

pub returns-in-Program-clause-listed : goal.returns-in-Program-clause-listed
returns-in-Program-clause-listed c =
    rw c.in-Program.is
    (subst (λ (front : List Token). IfOk c.expected_behind.result (λ expected. AreThose (MayStandIn kinds.Program front) tried_tokens (map token_of expected.candidates)))
    (sym (take-map spelled_token c.args.place c.args.tokens.now)) c.expected_behind.ensures.listed)

pub returns-in-Program-clause-end : goal.returns-in-Program-clause-end
returns-in-Program-clause-end c =
    rw c.in-Program.is
    (subst (λ (front : List Token). IfOk c.expected_behind.result (λ expected. IsTrue expected.end ↔ MayEndIn kinds.Program front))
    (sym (take-map spelled_token c.args.place c.args.tokens.now)) c.expected_behind.ensures.end)

pub returns-in-Script-clause-listed : goal.returns-in-Script-clause-listed
returns-in-Script-clause-listed c =
    rw c.in-Script.is
    (subst (λ (front : List Token). IfOk c.expected_behind-in-Script.result (λ expected. AreThose (MayStandIn kinds.Script front) tried_tokens (map token_of expected.candidates)))
    (sym (take-map spelled_token c.args.place c.args.tokens.now)) c.expected_behind-in-Script.ensures.listed)

pub returns-in-Script-clause-end : goal.returns-in-Script-clause-end
returns-in-Script-clause-end c =
    rw c.in-Script.is
    (subst (λ (front : List Token). IfOk c.expected_behind-in-Script.result (λ expected. IsTrue expected.end ↔ MayEndIn kinds.Script front))
    (sym (take-map spelled_token c.args.place c.args.tokens.now)) c.expected_behind-in-Script.ensures.end)

pub returns-in-Outline-clause-listed : goal.returns-in-Outline-clause-listed
returns-in-Outline-clause-listed c =
    rw c.in-Outline.is
    (subst (λ (front : List Token). IfOk c.expected_behind-in-Outline.result (λ expected. AreThose (MayStandIn kinds.Outline front) tried_tokens (map token_of expected.candidates)))
    (sym (take-map spelled_token c.args.place c.args.tokens.now)) c.expected_behind-in-Outline.ensures.listed)

pub returns-in-Outline-clause-end : goal.returns-in-Outline-clause-end
returns-in-Outline-clause-end c =
    rw c.in-Outline.is
    (subst (λ (front : List Token). IfOk c.expected_behind-in-Outline.result (λ expected. IsTrue expected.end ↔ MayEndIn kinds.Outline front))
    (sym (take-map spelled_token c.args.place c.args.tokens.now)) c.expected_behind-in-Outline.ensures.end)
