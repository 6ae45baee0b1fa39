-- Numbers in words.
use Rattle.std.proofs.Common.{◌≡◌, ◌∙◌, ◌&&◌, ℕ, ◌<◌, ◌≤◌, ◌^◌, Bool, true, false, cond, Option, None, Some, Result, Ok, Err, refl, sym, ap, subst, arith}
use Rattle.std.specs.Prelude.{nat_le, option_and_then}
use Rattle.std.specs.Str.Parse.{IsNumeral, ParsesUnsigned, digits_value, without_leading_plus}
use Rattle.std.proofs.lemmas.Bool.{le-leb, leb-true, false_from_ne_true}
use Rattle.clap.specs.Walk.{Text}
use Rattle.clap.specs.Values.{IsUnsignedIn}
use Rattle.clap.specs.ValueTests.{is_unsigned_in}
use Rattle.clap.specs.Matches.{ReadsOne}
use Rattle.clap.specs.declared.builder.value_parser.ValueParser.TheVariants as vp
use Rattle.clap.proofs.ValueTestLemmas.{accepts-Accepts, Accepts-accepts}
use Rattle.civl_explain_words.specs.Words.{number_between}

-- the number of a text, by a test
abbrev pub by : Text → Bool → Option ℕ
by text b = cond b (Some (digits_value 10 (without_leading_plus text))) None

refused : (least most : ℕ) (text : Text) → (IsUnsignedIn least most text → ⊥) → number_between least most text ≡ None
refused least most text h = ap (by text) (false_from_ne_true (is_unsigned_in least most text) (λ e. h (accepts-Accepts false (vp.Unsigned least most) text e)))

taken : (least most : ℕ) (text : Text) → IsUnsignedIn least most text → number_between least most text ≡ Some (digits_value 10 (without_leading_plus text))
taken least most text h = ap (by text) (Accepts-accepts false (vp.Unsigned least most) text h)

-- a number, where it lies between these two
abbrev kept : ℕ → ℕ → ℕ → Option ℕ
kept least most number = cond (nat_le least number && nat_le number most) (Some number) None

-- as it lies, or doesn't
kept_in : (least most number : ℕ) → least ≤ number → number ≤ most → kept least most number ≡ Some number
kept_in least most number a b = ap (λ x. cond (x && nat_le number most) (Some number) None) (le-leb least number a) ∙ ap (λ x. cond x (Some number) None) (le-leb number most b)

kept_out : (least most number : ℕ) → (least ≤ number → number ≤ most → ⊥) → kept least most number ≡ None
kept_out least most number h = ap (λ x. cond x (Some number) None) (go (nat_le least number) (nat_le number most) refl refl)
  where
    go : (x y : Bool) → nat_le least number ≡ x → nat_le number most ≡ y → (nat_le least number && nat_le number most) ≡ false
    go true true a b = absurd (h (leb-true _ _ a) (leb-true _ _ b))
    go true false a b = ap (λ x. x && nat_le number most) a ∙ b
    go false y a b = ap (λ x. x && nat_le number most) a

module _ {E : Type 0} (G : Text → Result ℕ E → Type 0) (parses : (text : Text) (x : Result ℕ E) → G text x → ParsesUnsigned 32 10 text x) (least most : ℕ) (fits : most < 2 ^ 32) where
  -- what isn't read as a number is none between the two
  unread : (text : Text) → ReadsOne G text None → number_between least most text ≡ None
  unread text h = refused least most text (λ u. parses text (Err h.0) h.1 (u.0, omega arith))

  -- what is read as a number is that number
  read : (text : Text) (number : ℕ) → ReadsOne G text (Some number) → kept least most number ≡ number_between least most text
  read text number h = go (nat_le least number) (nat_le number most) refl refl
    where
      parsed : (IsNumeral 10 (without_leading_plus text) × (digits_value 10 (without_leading_plus text) < 2 ^ 32)) × (number ≡ digits_value 10 (without_leading_plus text))
      parsed = parses text (Ok number) h

      out : (least ≤ number → number ≤ most → ⊥) → kept least most number ≡ number_between least most text
      out not = kept_out least most number not ∙ sym (refused least most text (λ u. not (omega (arith, parsed.1)) (omega (arith, parsed.1))))

      go : (x y : Bool) → nat_le least number ≡ x → nat_le number most ≡ y → kept least most number ≡ number_between least most text
      go true true a b =
          let low = leb-true _ _ a in
          let high = leb-true _ _ b in
          kept_in least most number low high ∙ ap (λ (n : ℕ). Some n) parsed.1
          ∙ sym (taken least most text (parsed.0.0, omega (arith, parsed.0.1), omega (arith, parsed.1), omega (arith, parsed.1)))
      go true false a b = out (λ low high. let bad = sym b ∙ le-leb _ _ high in absurd (cc))
      go false y a b = out (λ low high. let bad = sym a ∙ le-leb _ _ low in absurd (cc))

  module _ (o : Option Text) (r : Option ℕ) (none : o ≡ None → r ≡ None) (value : (text : Text) → o ≡ Some text → ReadsOne G text r) where
    pub none_there : r ≡ None → None ≡ option_and_then (number_between least most) o
    none_there is = go o refl
      where
        go : (p : Option Text) → o ≡ p → None ≡ option_and_then (number_between least most) o
        go None e = ap (option_and_then (number_between least most)) (sym e)
        go (Some text) e = sym (ap (option_and_then (number_between least most)) e ∙ unread text (subst (ReadsOne G text) is (value text e)))

    pub one_there : (number : ℕ) → r ≡ Some number → kept least most number ≡ option_and_then (number_between least most) o
    one_there number is = go o refl
      where
        go : (p : Option Text) → o ≡ p → kept least most number ≡ option_and_then (number_between least most) o
        go None e = let bad = sym (none e) ∙ is in absurd (cc)
        go (Some text) e = read text number (subst (ReadsOne G text) is (value text e)) ∙ sym (ap (option_and_then (number_between least most)) e)
