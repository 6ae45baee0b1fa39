use Rattle.std.proofs.Common.{◌≡◌, ◌<◌, ℕ, length, take, sym, ap, refl, ◌∙◌, arith, Some}
use Rattle.std.specs.Char.{is_ascii_digit}
use Rattle.std.specs.List.{take_while}
use Rattle.std.proofs.lemmas.List.Folds.{length-prefix_len}
use Rattle.civl_lex.specs.inner.Front.{number_of}
use Rattle.civl_lex.proofs.Numbers.{decimal-number_of}
use Rattle.civl_lex.proofs.Runs.{run_all}
use Rattle.civl_lex.proofs.number.number.Goals as goal

pub value_of-requires : goal.value_of-requires
value_of-requires c = rw c.digit_len.ensures (run_all is_ascii_digit c.args.rest.now)

pub returns-clause-cut : goal.returns-clause-cut
returns-clause-cut c =
    let bytes = c.args.rest.now in
    let text = take_while is_ascii_digit bytes in
    let cut : take c.digit_len.result bytes ≡ text = ap (λ (n : ℕ). take n bytes) c.digit_len.ensures in
    let value : number_of text ≡ Some c.in_ok-value.value = sym (ap number_of cut) ∙ sym c.in_ok-value.ensures in
    let some : 0 < length text = omega (arith, length-prefix_len is_ascii_digit bytes, c.requires) in
    record {
      own = cut ∙ sym (decimal-number_of text c.in_ok-value.value (run_all is_ascii_digit bytes) some value);
      slice = ap (λ (n : ℕ). take n bytes) (sym (ap length cut ∙ length-prefix_len is_ascii_digit bytes ∙ sym c.digit_len.ensures));
      start = refl;
    }
