-- Texts of whose lines none begins with the byte of `a`.
use Rattle.std.specs.Prelude.{◌&&◌, not, nat_eq, nat_lt, if◌then◌else◌, IsTrue, decimal}
use Rattle.std.specs.Fmt.{digits, digits_onto, digit_glyph}
use Rattle.std.specs.List.{list_all}
use Rattle.std.proofs.Common.{◌≡◌, ◌∙◌, ℕ, zero, suc, ◌+◌, ◌/◌, ◌%◌, ◌⊎◌, inl, inr, Bool, true, false, List, [], ◌∷◌, ◌++◌, refl, sym, ap, arith, Option, None, Some}
use Rattle.std.proofs.lemmas.Bool.{false≢true, and_parts, eqb-true, ltb-true, lt-ltb, not-true, ne_eqb}
use Rattle.std.proofs.Math.Nat.{mod-lt}
use Rattle.civl_tree.specs.Token.{is_name, is_name_byte, begins_name}
use Rattle.civl_verdicts.specs.reports.Lines.{EndsLine, HasLineThatBegins}

-- whether a line begins behind these bytes, if no line of theirs begins with `a`
scan : Bool → List ℕ → Option Bool
scan start [] = Some start
scan start (b ∷ bs) = if start && nat_eq b 97 then None else scan (nat_eq b 10) bs

scan_on : Option Bool → List ℕ → Option Bool
scan_on None bs = None
scan_on (Some start) bs = scan start bs

scan_append : (start : Bool) (xs ys : List ℕ) → scan start (xs ++ ys) ≡ scan_on (scan start xs) ys
unfolding scan scan_on
scan_append start [] ys = refl
scan_append start (x ∷ xs) ys = by (start && nat_eq x 97) (scan_append (nat_eq x 10) xs ys)
  where
    by : (b : Bool) → scan (nat_eq x 10) (xs ++ ys) ≡ scan_on (scan (nat_eq x 10) xs) ys → (if b then None else scan (nat_eq x 10) (xs ++ ys)) ≡ scan_on (if b then None else scan (nat_eq x 10) xs) ys
    by true rest = refl
    by false rest = rest

-- ---- texts of lines

-- lines of which none begins with `a`
pub IsQuiet : List ℕ → Type 0
IsQuiet text = scan true text ≡ Some true

pub quiet_none : IsQuiet []
unfolding IsQuiet scan
quiet_none = refl

pub quiet_append : (xs ys : List ℕ) → IsQuiet xs → IsQuiet ys → IsQuiet (xs ++ ys)
unfolding IsQuiet scan_on
quiet_append xs ys p q = scan_append true xs ys ∙ ap (λ (o : Option Bool). scan_on o ys) p ∙ q

-- ---- bytes of one line

-- no byte ends a line
abbrev pub is_clean : List ℕ → Bool
is_clean bytes = list_all (λ b. not (nat_eq b 10)) bytes

-- and none is that of `a`
abbrev pub is_mild : List ℕ → Bool
is_mild bytes = list_all (λ b. not (nat_eq b 10) && not (nat_eq b 97)) bytes

pub record IsClean (bytes : List ℕ) : Type 0 where
  pub is : is_clean bytes ≡ true

pub IsMild : List ℕ → Type 0
IsMild bytes = is_mild bytes ≡ true

-- bytes that are written out
pub clean_by : (bytes : List ℕ) → is_clean bytes ≡ true → IsClean bytes
clean_by bytes h = record { is = h }

all_append : (p : ℕ → Bool) (xs ys : List ℕ) → list_all p xs ≡ true → list_all p ys ≡ true → list_all p (xs ++ ys) ≡ true
all_append p [] ys h k = k
all_append p (x ∷ xs) ys h k = let q = and_parts (p x) (list_all p xs) h in by (p x) q.0 (all_append p xs ys q.1 k)
  where
    by : (b : Bool) → b ≡ true → list_all p (xs ++ ys) ≡ true → (b && list_all p (xs ++ ys)) ≡ true
    by true e rest = rest
    by false e rest = absurd (false≢true e)

pub joined : {xs ys : List ℕ} → IsClean xs → IsClean ys → IsClean (xs ++ ys)
joined {xs} {ys} h k = record { is = all_append (λ b. not (nat_eq b 10)) xs ys h.is k.is }

clean_scan : (xs : List ℕ) → is_clean xs ≡ true → scan false xs ≡ Some false
unfolding scan
clean_scan [] h = refl
clean_scan (x ∷ xs) h =
    let p = and_parts (not (nat_eq x 10)) (is_clean xs) h in
    ap (λ (b : Bool). scan b xs) (not-true (nat_eq x 10) p.0) ∙ clean_scan xs p.1

-- a line that begins otherwise
pub quiet_line : (x : ℕ) (xs : List ℕ) → nat_eq x 97 ≡ false → nat_eq x 10 ≡ false → IsClean xs → IsQuiet (x ∷ (xs ++ 10 ∷ []))
unfolding IsQuiet scan scan_on
quiet_line x xs a n h =
    ap (λ (b : Bool). if b then None else scan (nat_eq x 10) (xs ++ 10 ∷ [])) a
    ∙ ap (λ (b : Bool). scan b (xs ++ 10 ∷ [])) n ∙ scan_append false xs (10 ∷ []) ∙ ap (λ (o : Option Bool). scan_on o (10 ∷ [])) (clean_scan xs h.is)

mild_clean : (xs : List ℕ) → is_mild xs ≡ true → is_clean xs ≡ true
mild_clean [] h = refl
mild_clean (x ∷ xs) h =
    let p = and_parts (not (nat_eq x 10) && not (nat_eq x 97)) (is_mild xs) h in
    by (not (nat_eq x 10)) (and_parts (not (nat_eq x 10)) (not (nat_eq x 97)) p.0).0 (mild_clean xs p.1)
  where
    by : (b : Bool) → b ≡ true → is_clean xs ≡ true → (b && is_clean xs) ≡ true
    by true q k = k
    by false q k = absurd (false≢true q)

blank : {ys : List ℕ} → IsClean ys → IsClean (32 ∷ ys)
blank k = record { is = k.is }

-- one that begins with mild bytes, and then a blank
pub quiet_counted : (xs ys : List ℕ) → IsMild xs → IsClean ys → IsQuiet ((xs ++ 32 ∷ ys) ++ 10 ∷ [])
unfolding IsMild
quiet_counted [] ys h k = quiet_line 32 ys refl refl k
quiet_counted (x ∷ xs) ys h k =
    let p = and_parts (not (nat_eq x 10) && not (nat_eq x 97)) (is_mild xs) h in
    let q = and_parts (not (nat_eq x 10)) (not (nat_eq x 97)) p.0 in
    quiet_line x (xs ++ 32 ∷ ys) (not-true (nat_eq x 97) q.1) (not-true (nat_eq x 10) q.0) (joined (clean_by xs (mild_clean xs p.1)) (blank k))

-- ---- numbers

glyph_mild : (d : ℕ) → nat_lt d 10 ≡ true → (not (nat_eq (digit_glyph false d) 10) && not (nat_eq (digit_glyph false d) 97)) ≡ true
glyph_mild d small =
    let l = ltb-true d 10 small in
    let g : digit_glyph false d ≡ 48 + d = rw small refl in
    let a : nat_eq (digit_glyph false d) 10 ≡ false = ne_eqb (digit_glyph false d) 10 (λ e. omega (arith, l, g, e)) in
    let b : nat_eq (digit_glyph false d) 97 ≡ false = ne_eqb (digit_glyph false d) 97 (λ e. omega (arith, l, g, e)) in
    rw (a, b) refl

digits_mild : (k n : ℕ) (acc : List ℕ) → is_mild acc ≡ true → is_mild (digits_onto k 10 false n acc) ≡ true
digits_mild zero n acc h = h
digits_mild (suc k) n acc h =
    let digit = glyph_mild (n % 10) (lt-ltb (n % 10) 10 (mod-lt n (omega arith))) in
    let more = all_append (λ b. not (nat_eq b 10) && not (nat_eq b 97)) (digit_glyph false (n % 10) ∷ []) acc (rw digit refl) h in
    by (nat_eq (n / 10) 0) more (digits_mild k (n / 10) (digit_glyph false (n % 10) ∷ acc) more)
  where
    by : (b : Bool) → is_mild (digit_glyph false (n % 10) ∷ acc) ≡ true → is_mild (digits_onto k 10 false (n / 10) (digit_glyph false (n % 10) ∷ acc)) ≡ true
        → is_mild (if b then digit_glyph false (n % 10) ∷ acc else digits_onto k 10 false (n / 10) (digit_glyph false (n % 10) ∷ acc)) ≡ true
    by true last more = last
    by false last more = more

pub decimal_mild : (n : ℕ) → IsMild (decimal n)
unfolding IsMild digits
decimal_mild n = digits_mild 64 n [] refl

pub decimal_clean : (n : ℕ) → IsClean (decimal n)
unfolding IsMild
decimal_clean n = record { is = mild_clean (decimal n) (decimal_mild n) }

-- ---- names

name_byte_clean : (b : ℕ) → is_name_byte b ≡ true → not (nat_eq b 10) ≡ true
name_byte_clean b h = by (nat_eq b 10) refl
  where
    by : (t : Bool) → nat_eq b 10 ≡ t → not t ≡ true
    by false e = refl
    by true e = absurd (false≢true (sym (ap is_name_byte (eqb-true b 10 e)) ∙ h))

name_bytes_clean : (bs : List ℕ) → list_all is_name_byte bs ≡ true → is_clean bs ≡ true
name_bytes_clean [] h = refl
name_bytes_clean (b ∷ bs) h =
    let p = and_parts (is_name_byte b) (list_all is_name_byte bs) h in
    all_append (λ x. not (nat_eq x 10)) (b ∷ []) bs (rw (name_byte_clean b p.0) refl) (name_bytes_clean bs p.1)

pub name_clean : (bytes : List ℕ) → IsTrue (is_name bytes) → IsClean bytes
name_clean [] h = record { is = refl }
name_clean (b ∷ bs) h =
    let p = and_parts (begins_name b && list_all is_name_byte bs) _ h in
    let q = and_parts (begins_name b) (list_all is_name_byte bs) p.0 in
    record { is = all_append (λ x. not (nat_eq x 10)) (b ∷ []) bs (rw (name_byte_clean b (begins b q.0)) refl) (name_bytes_clean bs q.1) }
  where
    begins : (x : ℕ) → begins_name x ≡ true → is_name_byte x ≡ true
    begins x e = rw e refl

-- ---- no line begins with `a`

none_is_some : (b : Bool) → ◌≡◌ {A = Option Bool} None (Some b) → ⊥
none_is_some b e = cc

pub no_such_line : (word text : List ℕ) → IsQuiet text → HasLineThatBegins (97 ∷ word) text → ⊥
unfolding IsQuiet scan scan_on
no_such_line word text quiet h = by h.ends
  where
    whole : scan_on (scan true h.before) (97 ∷ (word ++ h.after)) ≡ Some true
    whole = sym (scan_append true h.before (97 ∷ (word ++ h.after))) ∙ ap (scan true) (sym h.parts) ∙ quiet

    at : (o : Option Bool) → scan true h.before ≡ o → (o ≡ None) ⊎ (o ≡ Some true) → ⊥
    at o e (inl none) = none_is_some true (sym (ap (λ (p : Option Bool). scan_on p (97 ∷ (word ++ h.after))) (e ∙ none)) ∙ whole)
    at o e (inr some) = none_is_some true (sym (ap (λ (p : Option Bool). scan_on p (97 ∷ (word ++ h.after))) (e ∙ some)) ∙ whole)

    ended : (o : Option Bool) → (scan_on o (10 ∷ []) ≡ None) ⊎ (scan_on o (10 ∷ []) ≡ Some true)
    ended None = inl refl
    ended (Some true) = inr refl
    ended (Some false) = inr refl

    by : EndsLine h.before → ⊥
    by (inl none) = at (scan true h.before) refl (inr (ap (scan true) none))
    by (inr earlier) =
        let e = ap (scan true) earlier.1 ∙ scan_append true earlier.0 (10 ∷ []) in
        at (scan_on (scan true earlier.0) (10 ∷ [])) e (ended (scan true earlier.0))
