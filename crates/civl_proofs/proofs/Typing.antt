-- Words of clauses, byte by byte.
use Rattle.std.proofs.Common.{◌≡◌, ◌⊎◌, inl, inr, ℕ, ◌+◌, ◌^◌, ◌<◌, ◌≤◌, Bool, true, false, cond, List, [], ◌∷◌, ◌++◌, Some, None, Option, refl, sym, ap, subst, ◌∙◌, arith, eqb, ltb, append_assoc}
use Rattle.std.specs.Prelude.{codes}
use Rattle.std.specs.Option.{option_map}
use Rattle.std.specs.Fmt.{decimal}
use Rattle.std.proofs.lemmas.Bool.{false≢true, eqb-true, eqb-false, ltb-true, lt-ltb}
use Rattle.civl_proofs.specs.declared.word.Word.{Word}
use Rattle.civl_proofs.specs.declared.word.Word.TheVariants.{Empty, Minus, Zero, Number}
use Rattle.civl_proofs.specs.Text.{sign_of}
use Rattle.civl_proofs.specs.inner.Reading.{with_digit, begun, typed, IsSoundWord}
use Rattle.civl_proofs.proofs.Words.{is_dense}
use Rattle.civl_proofs.proofs.Numbers.{one_more, more_text, first_text, digit_fits, first_fits, cond_split, has_first, decimal_dense}
use Rattle.civl_proofs.proofs.Decoding.{IsWord, cons_once, cons_some, later_some, no_minus}

-- what was read of the word
abbrev pub text_of : Word → List ℕ
text_of Empty = []
text_of Minus = codes "-"
text_of Zero = codes "0"
text_of (Number positive value) = sign_of positive ++ decimal value

dense_sign : (p : Bool) (text : List ℕ) → is_dense text ≡ true → is_dense (sign_of p ++ text) ≡ true
dense_sign true text h = h
dense_sign false text h = h

pub text_dense : (variables : ℕ) (word : Word) → variables < 2 ^ 32 → IsSoundWord variables word → is_dense (text_of word) ≡ true
text_dense variables Empty few sound = refl
text_dense variables Minus few sound = refl
text_dense variables Zero few sound = refl
text_dense variables (Number positive value) few sound = dense_sign positive (decimal value) (decimal_dense value (omega (arith, few, sound.1)))

-- ---- one byte more

pub record IsTyped (variables : ℕ) (word : Word) (byte : ℕ) (more : Word) : Type 0 where
  pub text : text_of more ≡ text_of word ++ byte ∷ []
  pub sound : IsSoundWord variables more

map_none : {A B : Type 0} (f : A → B) (o : Option A) → option_map f o ≡ None → o ≡ None
map_none f None h = refl
map_none f (Some a) h = absurd (cc)

record IsMapped {A B : Type 0} (f : A → B) (o : Option A) (b : B) : Type 0 where
  value : A
  is : o ≡ Some value
  gives : b ≡ f value

map_some : {A B : Type 0} (f : A → B) (o : Option A) (b : B) → option_map f o ≡ Some b → IsMapped f o b
map_some f None b h = absurd (cc)
map_some f (Some a) b h = record { value = a; is = refl; gives = cc }

begun_some : (variables : ℕ) (positive : Bool) (byte : ℕ) (more : Word) → begun variables positive byte ≡ Some more → (text_of more ≡ sign_of positive ++ byte ∷ []) × IsSoundWord variables more
begun_some variables positive byte more h = elim (cond_split (eqb byte 48) None (option_map (Number positive) (with_digit variables 0 byte)) (Some more) h) [
  | inl e ↦ let nothing : None ≡ Some more = e.1 in absurd (cc)
  | inr e ↦
      let m = map_some (Number positive) (with_digit variables 0 byte) more e.1 in
      let one = one_more variables 0 byte m.value m.is in
      let apart = eqb-false byte 48 e.0 in
      let above : 0 < m.value = omega (arith, one.is, one.low, apart) in
      let text : text_of (Number positive m.value) ≡ sign_of positive ++ byte ∷ [] = ap (λ (xs : List ℕ). sign_of positive ++ xs) (first_text variables byte m.value m.is) in
      let sound : IsSoundWord variables (Number positive m.value) = (above, one.within) in
      (subst (λ (w : Word). text_of w ≡ sign_of positive ++ byte ∷ []) (sym m.gives) text, subst (IsSoundWord variables) (sym m.gives) sound)
]

typed_empty : (variables byte : ℕ) (more : Word) → typed variables Empty byte ≡ Some more → IsTyped variables Empty byte more
typed_empty variables byte more h = elim (cond_split (eqb byte 45) (cond (ltb 0 variables) (Some Minus) None) (cond (eqb byte 48) (Some Zero) (begun variables true byte)) (Some more) h) [
  | inl e ↦ elim (cond_split (ltb 0 variables) (Some Minus) None (Some more) e.1) [
    | inl f ↦
        let same : Minus ≡ more = cc (f.1) in
        let text : text_of Minus ≡ byte ∷ [] = ap (λ (x : ℕ). x ∷ []) (sym (eqb-true byte 45 e.0)) in
        let sound : IsSoundWord variables Minus = ltb-true 0 variables f.0 in
        record { text = subst (λ (w : Word). text_of w ≡ byte ∷ []) same text; sound = subst (IsSoundWord variables) same sound }
    | inr f ↦ let nothing : None ≡ Some more = f.1 in absurd (cc)
  ]
  | inr e ↦ elim (cond_split (eqb byte 48) (Some Zero) (begun variables true byte) (Some more) e.1) [
    | inl f ↦
        let same : Zero ≡ more = cc (f.1) in
        let text : text_of Zero ≡ byte ∷ [] = ap (λ (x : ℕ). x ∷ []) (sym (eqb-true byte 48 f.0)) in
        let sound : IsSoundWord variables Zero = tt in
        record { text = subst (λ (w : Word). text_of w ≡ byte ∷ []) same text; sound = subst (IsSoundWord variables) same sound }
    | inr f ↦ let b = begun_some variables true byte more f.1 in record { text = b.0; sound = b.1 }
  ]
]

pub typed_some : (variables : ℕ) (word : Word) (byte : ℕ) (more : Word) → variables < 2 ^ 32 → IsSoundWord variables word → typed variables word byte ≡ Some more → IsTyped variables word byte more
typed_some variables Empty byte more few sound h = typed_empty variables byte more h
typed_some variables Minus byte more few sound h = let b = begun_some variables false byte more h in record { text = b.0; sound = b.1 }
typed_some variables Zero byte more few sound h = absurd (cc)
typed_some variables (Number positive value) byte more few sound h =
    let m = map_some (Number positive) (with_digit variables value byte) more h in
    let one = one_more variables value byte m.value m.is in
    let text : text_of (Number positive m.value) ≡ (sign_of positive ++ decimal value) ++ byte ∷ [] =
    ap (λ (xs : List ℕ). sign_of positive ++ xs) (more_text variables value byte m.value few sound.0 m.is) ∙ sym (append_assoc (sign_of positive) (decimal value) (byte ∷ [])) in
    let above : 0 < m.value = omega (arith, one.is, sound.0) in
    let is_sound : IsSoundWord variables (Number positive m.value) = (above, one.within) in
    record { text = subst (λ (w : Word). text_of w ≡ (sign_of positive ++ decimal value) ++ byte ∷ []) (sym m.gives) text; sound = subst (IsSoundWord variables) (sym m.gives) is_sound }

-- ---- no byte more

-- the words that begin with a digit
abbrev IsNumberWord : ℕ → Bool → List ℕ → Type 0
IsNumberWord variables positive text = (n : ℕ) × (0 < n) × (n ≤ variables) × (text ≡ decimal n)

-- a word is `0`, or a number, or `-` and a number
word_cases_at : (variables v : ℕ) (p : Bool) (word : List ℕ) → v < variables → word ≡ sign_of p ++ decimal (v + 1) → (word ≡ codes "0") ⊎ (IsNumberWord variables true word ⊎ ((text : List ℕ) × IsNumberWord variables false text × (word ≡ 45 ∷ text)))
word_cases_at variables v true word low e = inr (inl (v + 1, omega arith, omega (arith, low), e))
word_cases_at variables v false word low e = inr (inr (decimal (v + 1), (v + 1, omega arith, omega (arith, low), refl), e))

word_cases : (variables : ℕ) (word : List ℕ) → IsWord variables word → (word ≡ codes "0") ⊎ (IsNumberWord variables true word ⊎ ((text : List ℕ) × IsNumberWord variables false text × (word ≡ 45 ∷ text)))
word_cases variables word (inl e) = inl e
word_cases variables word (inr l) = word_cases_at variables l.0.variable l.0.positive word l.1 l.2

first_is : (n byte : ℕ) (more : List ℕ) → n < 2 ^ 32 → 0 < n → byte ∷ more ≡ decimal n → 48 < byte
first_is n byte more small some e =
    let f = has_first n small in
    let same = cons_once byte f.first more f.more (e ∙ f.is) in
    omega (arith, f.plain some, same.0)

begun_none : (variables : ℕ) (positive : Bool) (byte n : ℕ) (more : List ℕ) → variables < 2 ^ 32 → 0 < n → n ≤ variables → byte ∷ more ≡ decimal n → begun variables positive byte ≡ None → ⊥
begun_none variables positive byte n more few some low e h = elim (cond_split (eqb byte 48) None (option_map (Number positive) (with_digit variables 0 byte)) None h) [
  | inl f ↦ absurd (omega (arith, eqb-true byte 48 f.0, first_is n byte more (omega (arith, few, low)) some e))
  | inr f ↦ first_fits variables byte n more few low (sym e) (map_none (Number positive) (with_digit variables 0 byte) f.1)
]

empty_none : (variables byte : ℕ) (more : List ℕ) → variables < 2 ^ 32 → typed variables Empty byte ≡ None → (byte ∷ more ≡ codes "0") ⊎ (IsNumberWord variables true (byte ∷ more) ⊎ ((text : List ℕ) × IsNumberWord variables false text × (byte ∷ more ≡ 45 ∷ text))) → ⊥
empty_none variables byte more few h w = elim (cond_split (eqb byte 45) (cond (ltb 0 variables) (Some Minus) None) (cond (eqb byte 48) (Some Zero) (begun variables true byte)) None h) [
  | inl e ↦ elim w [
    | inl z ↦ absurd (omega (arith, eqb-true byte 45 e.0, (cons_once byte 48 more [] z).0))
    | inr z ↦ elim z [
      | inl n ↦ absurd (omega (arith, eqb-true byte 45 e.0, first_is n.0 byte more (omega (arith, few, n.2)) n.1 n.3))
      | inr n ↦ elim (cond_split (ltb 0 variables) (Some Minus) None None e.1) [
        | inl f ↦ let nothing : Some Minus ≡ None = f.1 in absurd (cc)
        | inr f ↦ absurd (false≢true (sym f.0 ∙ lt-ltb 0 variables (omega (arith, n.1.1, n.1.2))))
      ]
    ]
  ]
  | inr e ↦ elim (cond_split (eqb byte 48) (Some Zero) (begun variables true byte) None e.1) [
    | inl f ↦ let nothing : Some Zero ≡ None = f.1 in absurd (cc)
    | inr f ↦ elim w [
      | inl z ↦ absurd (eqb-false byte 48 f.0 (cons_once byte 48 more [] z).0)
      | inr z ↦ elim z [
        | inl n ↦ begun_none variables true byte n.0 more few n.1 n.2 n.3 f.1
        | inr n ↦ absurd (eqb-false byte 45 e.0 (cons_once byte 45 more n.0 n.2).0)
      ]
    ]
  ]
]

minus_none : (variables byte : ℕ) (more : List ℕ) → variables < 2 ^ 32 → typed variables Minus byte ≡ None → (45 ∷ byte ∷ more ≡ codes "0") ⊎ (IsNumberWord variables true (45 ∷ byte ∷ more) ⊎ ((text : List ℕ) × IsNumberWord variables false text × (45 ∷ byte ∷ more ≡ 45 ∷ text))) → ⊥
minus_none variables byte more few h (inl z) = let same = cons_once 45 48 (byte ∷ more) [] z in absurd (omega (arith, same.0))
minus_none variables byte more few h (inr (inl n)) = absurd (omega (arith, first_is n.0 45 (byte ∷ more) (omega (arith, few, n.2)) n.1 n.3))
minus_none variables byte more few h (inr (inr n)) = begun_none variables false byte n.1.0 more few n.1.1 n.1.2 ((cons_once 45 45 (byte ∷ more) n.0 n.2).1 ∙ n.1.3) h

zero_none : (variables byte : ℕ) (more : List ℕ) → variables < 2 ^ 32 → (48 ∷ byte ∷ more ≡ codes "0") ⊎ (IsNumberWord variables true (48 ∷ byte ∷ more) ⊎ ((text : List ℕ) × IsNumberWord variables false text × (48 ∷ byte ∷ more ≡ 45 ∷ text))) → ⊥
zero_none variables byte more few (inl z) = cons_some byte more (cons_once 48 48 (byte ∷ more) [] z).1
zero_none variables byte more few (inr (inl n)) = absurd (omega (arith, first_is n.0 48 (byte ∷ more) (omega (arith, few, n.2)) n.1 n.3))
zero_none variables byte more few (inr (inr n)) = let same = cons_once 48 45 (byte ∷ more) n.0 n.2 in absurd (omega (arith, same.0))

long_zero : (value byte : ℕ) (more : List ℕ) → value < 2 ^ 32 → decimal value ++ byte ∷ more ≡ codes "0" → ⊥
long_zero value byte more small e =
    let f = has_first value small in
    let same = cons_once f.first 48 (f.more ++ byte ∷ more) [] (sym (ap (λ (xs : List ℕ). xs ++ byte ∷ more) f.is) ∙ e) in
    later_some f.more more byte same.1

long_minus : (value byte : ℕ) (more text : List ℕ) → value < 2 ^ 32 → decimal value ++ byte ∷ more ≡ 45 ∷ text → ⊥
long_minus value byte more text small e =
    let f = has_first value small in
    let same = cons_once f.first 45 (f.more ++ byte ∷ more) text (sym (ap (λ (xs : List ℕ). xs ++ byte ∷ more) f.is) ∙ e) in
    absurd (omega (arith, f.digit, same.0))

number_none : (variables value byte : ℕ) (p : Bool) (more : List ℕ) → variables < 2 ^ 32 → value ≤ variables → with_digit variables value byte ≡ None → (sign_of p ++ (decimal value ++ byte ∷ more) ≡ codes "0") ⊎ (IsNumberWord variables true (sign_of p ++ (decimal value ++ byte ∷ more)) ⊎ ((text : List ℕ) × IsNumberWord variables false text × (sign_of p ++ (decimal value ++ byte ∷ more) ≡ 45 ∷ text))) → ⊥
number_none variables value byte true more few low h (inl z) = long_zero value byte more (omega (arith, few, low)) z
number_none variables value byte true more few low h (inr (inl n)) = digit_fits variables value byte n.0 more few (omega (arith, few, low)) n.2 (sym n.3) h
number_none variables value byte true more few low h (inr (inr n)) = long_minus value byte more n.0 (omega (arith, few, low)) n.2
number_none variables value byte false more few low h (inl z) = let same = cons_once 45 48 (decimal value ++ byte ∷ more) [] z in absurd (omega (arith, same.0))
number_none variables value byte false more few low h (inr (inl n)) = no_minus n.0 (decimal value ++ byte ∷ more) (omega (arith, few, n.2)) (sym n.3)
number_none variables value byte false more few low h (inr (inr n)) = digit_fits variables value byte n.1.0 more few (omega (arith, few, low)) n.1.2 (sym ((cons_once 45 45 (decimal value ++ byte ∷ more) n.0 n.2).1 ∙ n.1.3)) h

-- where no byte may follow, no word begins so
pub typed_none : (variables : ℕ) (word : Word) (byte : ℕ) (more : List ℕ) → variables < 2 ^ 32 → IsSoundWord variables word → typed variables word byte ≡ None → IsWord variables (text_of word ++ byte ∷ more) → ⊥
typed_none variables Empty byte more few sound h w = empty_none variables byte more few h (word_cases variables (byte ∷ more) w)
typed_none variables Minus byte more few sound h w = minus_none variables byte more few h (word_cases variables (45 ∷ byte ∷ more) w)
typed_none variables Zero byte more few sound h w = zero_none variables byte more few (word_cases variables (48 ∷ byte ∷ more) w)
typed_none variables (Number p value) byte more few sound h w =
    number_none variables value byte p more few sound.1 (map_none (Number p) (with_digit variables value byte) h)
    (word_cases variables (sign_of p ++ (decimal value ++ byte ∷ more)) (subst (IsWord variables) (append_assoc (sign_of p) (decimal value) (byte ∷ more)) w))

lone_minus : (variables : ℕ) → variables < 2 ^ 32 → (codes "-" ≡ codes "0") ⊎ (IsNumberWord variables true (codes "-") ⊎ ((text : List ℕ) × IsNumberWord variables false text × (codes "-" ≡ 45 ∷ text))) → ⊥
lone_minus variables few (inl z) = let same = cons_once 45 48 [] [] z in absurd (omega (arith, same.0))
lone_minus variables few (inr (inl n)) = no_minus n.0 [] (omega (arith, few, n.2)) (sym n.3)
lone_minus variables few (inr (inr n)) =
    let f = has_first n.1.0 (omega (arith, few, n.1.2)) in
    cons_some f.first f.more (sym f.is ∙ sym n.1.3 ∙ sym (cons_once 45 45 [] n.0 n.2).1)

-- `-` alone is no word
pub minus_no_word : (variables : ℕ) → variables < 2 ^ 32 → IsWord variables (codes "-") → ⊥
minus_no_word variables few w = lone_minus variables few (word_cases variables (codes "-") w)
