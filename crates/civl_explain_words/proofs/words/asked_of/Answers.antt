use Rattle.std.proofs.Common.{◌≡◌, ◌∙◌, None, map, string_bytes, subst}
use Rattle.clap.specs.Simple.{app_of}
use Rattle.clap.specs.Values.{kind_of}
use Rattle.civl_explain_words.specs.Words.{asked_of}
use Rattle.civl_explain_words.proofs.Found.{found_is, fault_is}
use Rattle.civl_explain_words.proofs.words.asked_of.Goals as goal

pub returns-in-Ok : goal.returns-in-Ok
returns-in-Ok c =
    let words = map string_bytes c.as_slice.result.now in
    let found = found_is (app_of c.in_ok-line.line) words c.in_ok-line.ensures c.in-Ok.matches c.in-Ok.ensures.kinds c.in-Ok.ensures.matches in
    subst (λ ws. c.found.result ≡ asked_of (map string_bytes ws)) c.as_slice.ensures.value (c.found.ensures ∙ found)

pub returns : goal.returns
returns c =
    let words = map string_bytes c.as_slice.result.now in
    let none = fault_is (app_of c.in_ok-line.line) words c.in_ok-line.ensures (kind_of c.in-Err.error) c.in-Err.ensures.kinds
    (λ memory. c.in_default.not-OutOfMemory (c.kind.ensures ∙ memory)) in
    subst (λ ws. None ≡ asked_of (map string_bytes ws)) c.as_slice.ensures.value none
