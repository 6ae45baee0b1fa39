-- The words ask for lifting under one budget, or for nothing.
use Rattle.std.proofs.Common.{◌≡◌, ◌∙◌, ℕ, ◌<◌, ◌≤◌, Bool, true, inl, inr, List, [], ◌∷◌, map, length, get_or, Option, None, Some, Result, Ok, refl, sym, ap, arith, slice_get}
use Rattle.std.specs.Prelude.{codes, decimal, IsTrue, option_map}
use Rattle.std.specs.Str.{bytes_eq}
use Rattle.std.specs.Str.Parse.{ParsesUnsigned, digits_value}
use Rattle.std.proofs.lemmas.Fmt.{decimal_is_IsNumeral, parse-decimal}
use Rattle.std.proofs.lemmas.Option.{same_Some, slice_get-map, slice_get_read}
use Rattle.std.proofs.lemmas.Slice.Eq.{bytes_eq-Decides}
use Rattle.civl_words.specs.Words.{most_budget}
use Rattle.civl_lift_command.specs.Words.{AskToLift, AskToLiftSome, IsAsked, IsBudgetIn}

-- ---- numbers

same_number : (m n : ℕ) → m ≤ most_budget → n ≤ most_budget → decimal m ≡ decimal n → m ≡ n
same_number m n a b e =
    let p = (decimal_is_IsNumeral m (omega (arith, a))).1 in
    let q = (decimal_is_IsNumeral n (omega (arith, b))).1 in
    sym p ∙ (ap (λ (w : List ℕ). digits_value 10 w) e ∙ q)

-- a number that is written so is parsed
pub parsed : {E : Type 0} (word : List ℕ) (r : Result ℕ E) → ParsesUnsigned 32 10 word r → (n : ℕ) → word ≡ decimal n → n ≤ most_budget → r ≡ Ok n
parsed word r parses n is within = parse-decimal 32 n word r (omega (arith, within)) (omega (arith, within)) is parses

-- two numbers that are parsed are one
same_parsed : {E : Type 0} (m n : ℕ) → ◌≡◌ {A = Result ℕ E} (Ok m) (Ok n) → m ≡ n
same_parsed m n e = cc

pub parsed_as : {E : Type 0} (word : List ℕ) (r : Result ℕ E) → ParsesUnsigned 32 10 word r → (found : ℕ) → r ≡ Ok found → (n : ℕ) → word ≡ decimal n → n ≤ most_budget → n ≡ found
parsed_as word r parses found is n written within = same_parsed n found (sym (parsed word r parses n written within) ∙ is)

-- ---- texts

pub same_text : (text : List ℕ) (r : Bool) → r ≡ bytes_eq text text → r ≡ true
same_text text r is = is ∙ (bytes_eq-Decides text text).1 refl

module _ {S : Type 0} (bytes : S → List ℕ) (words : List S) (at : ℕ) (word : S) (below : at < length words) (is : word ≡ get_or words at word) where
  pub text_at : slice_get (map bytes words) at ≡ Some (bytes word)
  text_at = slice_get-map bytes words at ∙ ap (option_map bytes) (slice_get_read words (length words) at word refl below is)

  pub is_text : (found text : List ℕ) (r : Bool) → found ≡ bytes word → r ≡ bytes_eq found text → (IsTrue r → slice_get (map bytes words) at ≡ Some text) × (slice_get (map bytes words) at ≡ Some text → IsTrue r)
  is_text found text r there e = (
    λ h. text_at ∙ ap (λ (w : List ℕ). Some w) (sym there ∙ (bytes_eq-Decides found text).0 (sym e ∙ h)),
    λ h. e ∙ (bytes_eq-Decides found text).1 (there ∙ same_Some (bytes word) text (sym text_at ∙ h)),
  )

-- ---- words

abbrev third : List (List ℕ) → List ℕ
third (a ∷ b ∷ c ∷ rest) = c
third _ = []

pub one_word : (words : List (List ℕ)) (word : List ℕ) → length words ≡ 1 → slice_get words 0 ≡ Some word → words ≡ word ∷ []
one_word [] word size is = absurd (omega (arith, size))
one_word (w ∷ []) word size is = ap (λ (x : List ℕ). x ∷ []) (same_Some w word is)
one_word (w ∷ v ∷ rest) word size is = absurd (omega (arith, size))

pub three_words : (words : List (List ℕ)) (one two three : List ℕ) → length words ≡ 3 → slice_get words 0 ≡ Some one → slice_get words 1 ≡ Some two → slice_get words 2 ≡ Some three → words ≡ one ∷ two ∷ three ∷ []
three_words [] one two three size a b c = absurd (omega (arith, size))
three_words (x ∷ []) one two three size a b c = absurd (omega (arith, size))
three_words (x ∷ y ∷ []) one two three size a b c = absurd (omega (arith, size))
three_words (x ∷ y ∷ z ∷ []) one two three size a b c =
    let p = same_Some x one a in
    let q = same_Some y two b in
    let r = same_Some z three c in
    rw (p, q, r) refl
three_words (x ∷ y ∷ z ∷ w ∷ rest) one two three size a b c = absurd (omega (arith, size))

-- one word isn't three
not_three : (words : List (List ℕ)) (a b c d : List ℕ) → words ≡ a ∷ [] → words ≡ b ∷ c ∷ d ∷ [] → ⊥
not_three words a b c d p q = let size = ap length (sym p ∙ q) in omega (arith, size)

pub one_budget : (words : List (List ℕ)) (m n : ℕ) → AskToLift m words → AskToLift n words → m ≡ n
one_budget words m n (inl a) (inl b) = a.1 ∙ sym b.1
one_budget words m n (inl a) (inr b) = absurd (not_three words (codes "lift") (codes "lift") (codes "--budget") (decimal n) a.0 b.0)
one_budget words m n (inr a) (inl b) = absurd (not_three words (codes "lift") (codes "lift") (codes "--budget") (decimal m) b.0 a.0)
one_budget words m n (inr a) (inr b) = same_number m n a.1 b.1 (ap third (sym a.0 ∙ b.0))

third_there : (words : List (List ℕ)) → length words ≡ 3 → slice_get words 2 ≡ Some (third words)
third_there [] size = absurd (omega (arith, size))
third_there (x ∷ []) size = absurd (omega (arith, size))
third_there (x ∷ y ∷ []) size = absurd (omega (arith, size))
third_there (x ∷ y ∷ z ∷ rest) size = refl

abbrev Asks : List (List ℕ) → Type 0
Asks words = (number : List ℕ) × (words ≡ codes "lift" ∷ codes "--budget" ∷ number ∷ [])

pub usually : (words : List (List ℕ)) (r : Bool) → length words ≡ 1 → (IsTrue r → slice_get words 0 ≡ Some (codes "lift")) × (slice_get words 0 ≡ Some (codes "lift") → IsTrue r)
    → (IsTrue r → words ≡ codes "lift" ∷ []) × (words ≡ codes "lift" ∷ [] → IsTrue r)
usually words r size first = (λ h. one_word words (codes "lift") size (first.0 h), λ e. first.1 (ap (λ (ws : List (List ℕ)). slice_get ws 0) e))

pub with_budget : (words : List (List ℕ)) (r : Bool) → length words ≡ 3 → slice_get words 0 ≡ Some (codes "lift") → (IsTrue r → slice_get words 1 ≡ Some (codes "--budget")) × (slice_get words 1 ≡ Some (codes "--budget") → IsTrue r)
    → (IsTrue r → Asks words) × (Asks words → IsTrue r)
with_budget words r size first second = (
  λ h. (third words, three_words words (codes "lift") (codes "--budget") (third words) size first (second.0 h) (third_there words size)),
  λ a. second.1 (ap (λ (ws : List (List ℕ)). slice_get ws 1) a.1),
)

-- ---- what the words ask for

pub asked_by : (words : List (List ℕ)) (number : List ℕ) → words ≡ codes "lift" ∷ codes "--budget" ∷ number ∷ [] → (r : Option ℕ) → IsBudgetIn number r → IsAsked words r
asked_by words number is (Some n) h = inr (is ∙ ap (λ (w : List ℕ). codes "lift" ∷ codes "--budget" ∷ w ∷ []) h.0, h.1)
asked_by words number is None h = none
  where
    none : AskToLiftSome words → ⊥
    none (b, inl a) = not_three words (codes "lift") (codes "lift") (codes "--budget") number a.0 is
    none (b, inr a) = h b (ap third (sym is ∙ a.0)) a.1

pub unasked_by : (words : List (List ℕ)) → (words ≡ codes "lift" ∷ [] → ⊥) → ((number : List ℕ) → words ≡ codes "lift" ∷ codes "--budget" ∷ number ∷ [] → ⊥) → AskToLiftSome words → ⊥
unasked_by words one three (b, inl a) = one a.0
unasked_by words one three (b, inr a) = three (decimal b) a.0
