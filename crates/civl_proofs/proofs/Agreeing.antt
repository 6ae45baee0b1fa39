-- Each byte goes on with just the certificates that go on so: what is still to come before the byte is the byte, and what is still to come behind it.
use Rattle.std.proofs.Common.{◌≡◌, inl, inr, ℕ, ◌^◌, ◌<◌, ◌≤◌, zero, suc, Bool, true, false, not, ◌&&◌, cond, List, [], ◌∷◌, ◌++◌, length, Some, None, Option, refl, sym, ap, ap₂, subst, ◌∙◌, arith, append_assoc, eqb}
use Rattle.std.specs.Prelude.{codes, IsTrue}
use Rattle.std.specs.Option.{option_map}
use Rattle.std.specs.Fmt.{decimal}
use Rattle.std.proofs.lemmas.List.{append-nil}
use Rattle.std.proofs.lemmas.Fmt.{decimal_injective}
use Rattle.std.proofs.lemmas.Bool.{and_parts, false≢true, eqb-true, eqb-false, ne_eqb, not-true}
use Rattle.std.proofs.Math.Bool.{and-true}
use Rattle.civl_cnf.specs.Literal.{Literal}
use Rattle.civl_cnf.specs.ClauseSet.{ClauseSet}
use Rattle.civl_proofs.specs.declared.reading.Spot.TheVariants.{First}
use Rattle.civl_proofs.specs.Text.{is_blank, IsHeader, most_variables, most_clauses}
use Rattle.civl_proofs.specs.inner.Reading.{IsWithin, no_draft, counted, State, Opening, Remark, Title, Variables, Count, Setting, parts_words, meets, after_title, in_title, in_variables, in_count, step}
use Rattle.civl_proofs.proofs.Words.{is_dense}
use Rattle.civl_proofs.proofs.Numbers.{digits_of, counted_some, counted_none, counted_digit, no_blank, decimal_dense, has_first}
use Rattle.civl_proofs.proofs.Decoding.{cons_once, cons_some, later_some}
use Rattle.civl_proofs.proofs.Drafting.{no_draft_sound, HasRoom}
use Rattle.civl_proofs.proofs.Resting.{IsSetRest, IsOpeningRest, IsNumbersRest, fits, IsTitleRest, IsRest, is_one_line, IsSoundTitle, IsSound, OpeningCase, remarks, heads, opening_case, rest_of_remark, rest_of_header}

-- There is no next state, and nothing goes on so; or there is one, and just what goes on from there goes on so.
abbrev pub Agrees : Option State → Type 0 → (State → Type 0) → Type 0
Agrees None P Q = P → ⊥
Agrees (Some s) P Q = IsSound s × (Q s → P) × (P → Q s)

pub agrees_if : (b : Bool) (x y : Option State) (P : Type 0) (Q : State → Type 0) → (b ≡ true → Agrees x P Q) → (b ≡ false → Agrees y P Q) → Agrees (cond b x y) P Q
agrees_if true x y P Q f g = f refl
agrees_if false x y P Q f g = g refl

pub agrees_map : {X : Type 0} (f : X → State) (o : Option X) (P : Type 0) (Q : State → Type 0) → (o ≡ None → P → ⊥) → ((x : X) → o ≡ Some x → Agrees (Some (f x)) P Q) → Agrees (option_map f o) P Q
agrees_map f None P Q none some = none refl
agrees_map f (Some x) P Q none some = some x refl

pub agrees_from : (o : Option State) (P R : Type 0) (Q : State → Type 0) → (P → R) → (R → P) → Agrees o R Q → Agrees o P Q
agrees_from None P R Q to from a = λ p. a (to p)
agrees_from (Some s) P R Q to from a = (a.0, (λ q. from (a.1 q)), (λ p. a.2 (to p)))

pub small : (n : ℕ) → n ≤ most_variables → n < 2 ^ 32
small n h = omega (arith, h)

small_count : (n : ℕ) → n ≤ most_clauses → n < 2 ^ 32
small_count n h = omega (arith, h)

-- ---- before the header

no_blank_blank : (a b : ℕ) → is_blank a ≡ true → not (is_blank b) ≡ true → a ≡ b → ⊥
no_blank_blank a b blank inked e = false≢true (sym (not-true (is_blank b) inked) ∙ ap is_blank (sym e) ∙ blank)

header_first : (variables count byte : ℕ) (line : List ℕ) → IsHeader variables count (byte ∷ line) → byte ≡ 112
header_first variables count byte line h = (cons_once byte 112 line (h.0 ∷ codes "cnf" ++ (h.1 ∷ decimal variables ++ h.2 ∷ decimal count)) h.6).0

header_title : (byte : ℕ) (line : List ℕ) (set : ClauseSet) → IsHeader set.variables (length set.clauses) (byte ∷ line) → IsTitleRest (codes " cnf ") line set
header_title byte line set h =
    let numbers : List ℕ = decimal set.variables ++ h.2 ∷ decimal (length set.clauses) in
    let tail = (cons_once byte 112 line (h.0 ∷ codes "cnf" ++ (h.1 ∷ numbers)) h.6).1 in (
      h.0,
      codes "cnf" ++ (h.1 ∷ numbers),
      h.3,
      tail,
      (
        99,
        codes "nf" ++ (h.1 ∷ numbers),
        refl,
        refl,
        (
          110,
          codes "f" ++ (h.1 ∷ numbers),
          refl,
          refl,
          (
            102,
            h.1 ∷ numbers,
            refl,
            refl,
            (
              h.1,
              numbers,
              h.4,
              refl,
              (h.2, h.5, refl),
            ),
          ),
        ),
      ),
    )

letter : (expected byte : ℕ) (line tail rest : List ℕ) → eqb byte expected ≡ true → line ≡ byte ∷ tail → tail ≡ rest → line ≡ expected ∷ rest
letter expected byte line tail rest e f g = f ∙ ap₂ (λ (x : ℕ) (xs : List ℕ). x ∷ xs) (eqb-true byte expected e) g

title_header : (line : List ℕ) (set : ClauseSet) → IsTitleRest (codes " cnf ") line set → IsHeader set.variables (length set.clauses) (112 ∷ line)
title_header line set t =
    let c = t.4 in
    let n = c.4 in
    let f = n.4 in
    let b = f.4 in
    let last : f.1 ≡ b.0 ∷ (decimal set.variables ++ b.4.0 ∷ decimal (length set.clauses)) = b.3 ∙ ap (λ (xs : List ℕ). b.0 ∷ xs) b.4.2 in
    let nf = letter 102 f.0 n.1 f.1 _ f.2 f.3 last in
    let cnf = letter 110 n.0 c.1 n.1 _ n.2 n.3 nf in
    let all = letter 99 c.0 t.1 c.1 _ c.2 c.3 cnf in
    (t.0, b.0, b.4.0, t.2, b.2, b.4.1, ap (λ (xs : List ℕ). 112 ∷ xs) (t.3 ∙ ap (λ (xs : List ℕ). t.0 ∷ xs) all))

as_remark : (byte : ℕ) (line : List ℕ) (others : List (List ℕ)) (set : ClauseSet) (log : List (List Literal)) → eqb byte 99 ≡ true → OpeningCase (byte ∷ line) others set log → IsOpeningRest others set log
as_remark byte line others set log e (remarks f r) = r
as_remark byte line others set log e (heads h r) = absurd (omega (arith, eqb-true byte 99 e, header_first set.variables (length set.clauses) byte line h))

as_header : (byte : ℕ) (line : List ℕ) (others : List (List ℕ)) (set : ClauseSet) (log : List (List Literal)) → eqb byte 99 ≡ false → OpeningCase (byte ∷ line) others set log → IsTitleRest (codes " cnf ") line set × IsSetRest [] others set log
as_header byte line others set log e (remarks f r) = absurd (false≢true (sym e ∙ f))
as_header byte line others set log e (heads h r) = (header_title byte line set h, r)

no_opening : (byte : ℕ) (line : List ℕ) (others : List (List ℕ)) (set : ClauseSet) (log : List (List Literal)) → eqb byte 99 ≡ false → eqb byte 112 ≡ false → OpeningCase (byte ∷ line) others set log → ⊥
no_opening byte line others set log e f (remarks g r) = false≢true (sym e ∙ g)
no_opening byte line others set log e f (heads h r) = eqb-false byte 112 f (header_first set.variables (length set.clauses) byte line h)

pub opening_byte : (byte : ℕ) (line : List ℕ) (others : List (List ℕ)) (set : ClauseSet) (log : List (List Literal)) → Agrees (step Opening byte) (IsRest Opening (byte ∷ line) others set log) (λ t. IsRest t line others set log)
opening_byte byte line others set log =
    agrees_if (eqb byte 99) (Some Remark) (cond (eqb byte 112) (Some (Title (codes " cnf "))) None) (IsOpeningRest ((byte ∷ line) ∷ others) set log) (λ t. IsRest t line others set log)
    (λ e. (tt, (λ q. rest_of_remark (byte ∷ line) others set log e q), (λ p. as_remark byte line others set log e (opening_case (byte ∷ line) others set log p))))
    (λ e. agrees_if (eqb byte 112) (Some (Title (codes " cnf "))) None (IsOpeningRest ((byte ∷ line) ∷ others) set log) (λ t. IsRest t line others set log)
    (λ f. (
      refl,
      (λ q. rest_of_header (byte ∷ line) others set log (subst (λ (x : ℕ). IsHeader set.variables (length set.clauses) (x ∷ line)) (sym (eqb-true byte 112 f)) (title_header line set q.0)) q.1),
      (λ p. as_header byte line others set log e (opening_case (byte ∷ line) others set log p)),
    ))
    (λ f p. no_opening byte line others set log e f (opening_case (byte ∷ line) others set log p)))

no_empty_opening : (others : List (List ℕ)) (set : ClauseSet) (log : List (List Literal)) → OpeningCase [] others set log → ⊥
no_empty_opening others set log (remarks e r) = false≢true e
no_empty_opening others set log (heads h r) = cons_some 112 (h.0 ∷ codes "cnf" ++ (h.1 ∷ decimal set.variables ++ h.2 ∷ decimal (length set.clauses))) (sym h.6)

pub empty_opening : (others : List (List ℕ)) (set : ClauseSet) (log : List (List Literal)) → IsOpeningRest ([] ∷ others) set log → ⊥
empty_opening others set log p = no_empty_opening others set log (opening_case [] others set log p)

pub remark_byte : (byte : ℕ) (line : List ℕ) (others : List (List ℕ)) (set : ClauseSet) (log : List (List Literal)) → eqb byte 10 ≡ false → Agrees (step Remark byte) (IsRest Remark (byte ∷ line) others set log) (λ t. IsRest t line others set log)
remark_byte byte line others set log e =
    subst (λ (b : Bool). Agrees (Some (cond b Opening Remark)) (IsOpeningRest others set log) (λ t. IsRest t line others set log)) (sym e) (tt, (λ q. q), (λ p. p))

-- ---- the header

parts_blank : (byte : ℕ) → eqb byte 10 ≡ false → parts_words byte ≡ is_blank byte
parts_blank byte e = ap (λ (b : Bool). is_blank byte && not b) e ∙ and-true (is_blank byte)

meets_fits : (expected byte : ℕ) → eqb byte 10 ≡ false → meets expected byte ≡ fits expected byte
meets_fits expected byte e = ap (λ (b : Bool). cond (eqb expected 32) b (eqb byte expected)) (parts_blank byte e)

title_tail : (expected byte : ℕ) (more line : List ℕ) (set : ClauseSet) → IsTitleRest (expected ∷ more) (byte ∷ line) set → IsTitleRest more line set
title_tail expected byte more line set p = subst (λ (xs : List ℕ). IsTitleRest more xs set) (sym (cons_once byte p.0 line p.1 p.3).1) p.4

title_next : (expected byte : ℕ) (more line : List ℕ) (others : List (List ℕ)) (set : ClauseSet) (log : List (List Literal)) → IsTrue (is_one_line (expected ∷ more)) → fits expected byte ≡ true
    → Agrees (Some (after_title more)) (IsTitleRest (expected ∷ more) (byte ∷ line) set × IsSetRest [] others set log) (λ t. IsRest t line others set log)
title_next expected byte [] line others set log sound e = (tt, (λ q. ((byte, line, e, refl, q.0), q.1)), (λ p. (title_tail expected byte [] line set p.0, p.1)))
title_next expected byte (next ∷ more) line others set log sound e =
    ((and_parts (not (eqb expected 10)) (is_one_line (next ∷ more)) sound).1, (λ q. ((byte, line, e, refl, q.0), q.1)), (λ p. (title_tail expected byte (next ∷ more) line set p.0, p.1)))

no_title : (expected byte : ℕ) (more line : List ℕ) (set : ClauseSet) → fits expected byte ≡ false → IsTitleRest (expected ∷ more) (byte ∷ line) set → ⊥
no_title expected byte more line set e p = false≢true (sym e ∙ ap (fits expected) (cons_once byte p.0 line p.1 p.3).0 ∙ p.2)

pub title_byte : (expected : List ℕ) (byte : ℕ) (line : List ℕ) (others : List (List ℕ)) (set : ClauseSet) (log : List (List Literal)) → eqb byte 10 ≡ false → IsSoundTitle expected → Agrees (in_title expected byte) (IsRest (Title expected) (byte ∷ line) others set log) (λ t. IsRest t line others set log)
title_byte [] byte line others set log e sound = absurd sound
title_byte (x ∷ more) byte line others set log e sound =
    agrees_if (meets x byte) (Some (after_title more)) None (IsTitleRest (x ∷ more) (byte ∷ line) set × IsSetRest [] others set log) (λ t. IsRest t line others set log)
    (λ f. title_next x byte more line others set log sound (sym (meets_fits x byte e) ∙ f))
    (λ f p. no_title x byte more line set (sym (meets_fits x byte e) ∙ f) p.0)

no_feed_at : (expected : ℕ) → not (eqb expected 10) ≡ true → (b : Bool) → eqb expected 32 ≡ b → cond b (parts_words 10) (eqb 10 expected) ≡ false
no_feed_at expected h true e = refl
no_feed_at expected h false e = ne_eqb 10 expected (λ f. eqb-false expected 10 (not-true (eqb expected 10) h) (sym f))

pub title_feed : (expected : List ℕ) (line : List ℕ) (others : List (List ℕ)) (set : ClauseSet) (log : List (List Literal)) → IsSoundTitle expected → Agrees (in_title expected 10) (IsRest (Title expected) [] (line ∷ others) set log) (λ t. IsRest t line others set log)
title_feed [] line others set log sound = absurd sound
title_feed (x ∷ more) line others set log sound =
    agrees_if (meets x 10) (Some (after_title more)) None (IsTitleRest (x ∷ more) [] set × IsSetRest [] (line ∷ others) set log) (λ t. IsRest t line others set log)
    (λ f. absurd (false≢true (sym (no_feed_at x (and_parts (not (eqb x 10)) (is_one_line more) sound).0 (eqb x 32) refl) ∙ f)))
    (λ f p. cons_some p.0.0 p.0.1 (sym p.0.3))

-- bytes without blanks, up to a blank, are the same in one list
same_fronts : (xs ys l m : List ℕ) (b c : ℕ) → is_dense xs ≡ true → is_dense ys ≡ true → is_blank b ≡ true → is_blank c ≡ true → xs ++ b ∷ l ≡ ys ++ c ∷ m → (xs ≡ ys) × (l ≡ m)
same_fronts [] [] l m b c dense solid blank gap e = (refl, (cons_once b c l m e).1)
same_fronts [] (y ∷ ys) l m b c dense solid blank gap e = absurd (no_blank_blank b y blank (and_parts (not (is_blank y)) (is_dense ys) solid).0 (cons_once b y l (ys ++ c ∷ m) e).0)
same_fronts (x ∷ xs) [] l m b c dense solid blank gap e = absurd (no_blank_blank c x gap (and_parts (not (is_blank x)) (is_dense xs) dense).0 (sym (cons_once x c (xs ++ b ∷ l) m e).0))
same_fronts (x ∷ xs) (y ∷ ys) l m b c dense solid blank gap e =
    let parts = cons_once x y (xs ++ b ∷ l) (ys ++ c ∷ m) e in
    let more = same_fronts xs ys l m b c (and_parts (not (is_blank x)) (is_dense xs) dense).1 (and_parts (not (is_blank y)) (is_dense ys) solid).1 blank gap parts.1 in
    (ap₂ (λ (z : ℕ) (zs : List ℕ). z ∷ zs) parts.0 more.0, more.1)

record IsLongerFront (xs ys : List ℕ) (byte : ℕ) : Type 0 where
  more : List ℕ
  is : ys ≡ xs ++ byte ∷ more

longer_front : (xs ys l m : List ℕ) (b c : ℕ) → is_dense xs ≡ true → is_blank b ≡ false → is_blank c ≡ true → xs ++ b ∷ l ≡ ys ++ c ∷ m → IsLongerFront xs ys b
longer_front [] [] l m b c dense inked blank e = absurd (false≢true (sym inked ∙ ap is_blank (cons_once b c l m e).0 ∙ blank))
longer_front [] (y ∷ ys) l m b c dense inked blank e = record { more = ys; is = ap (λ (z : ℕ). z ∷ ys) (sym (cons_once b y l (ys ++ c ∷ m) e).0) }
longer_front (x ∷ xs) [] l m b c dense inked blank e = absurd (no_blank_blank c x blank (and_parts (not (is_blank x)) (is_dense xs) dense).0 (sym (cons_once x c (xs ++ b ∷ l) m e).0))
longer_front (x ∷ xs) (y ∷ ys) l m b c dense inked blank e =
    let parts = cons_once x y (xs ++ b ∷ l) (ys ++ c ∷ m) e in
    let more = longer_front xs ys l m b c (and_parts (not (is_blank x)) (is_dense xs) dense).1 inked blank parts.1 in
    record { more = more.more; is = ap₂ (λ (z : ℕ) (zs : List ℕ). z ∷ zs) (sym parts.0) more.is }

no_blank_in : (xs ys m : List ℕ) (c : ℕ) → is_dense xs ≡ true → is_blank c ≡ true → xs ≡ ys ++ c ∷ m → ⊥
no_blank_in [] ys m c dense blank e = later_some ys m c (sym e)
no_blank_in (x ∷ xs) [] m c dense blank e = no_blank_blank c x blank (and_parts (not (is_blank x)) (is_dense xs) dense).0 (sym (cons_once x c xs m e).0)
no_blank_in (x ∷ xs) (y ∷ ys) m c dense blank e = no_blank_in xs ys m c (and_parts (not (is_blank x)) (is_dense xs) dense).1 blank (cons_once x y xs (ys ++ c ∷ m) e).1

decimal_some : (n : ℕ) → n < 2 ^ 32 → decimal n ≡ [] → ⊥
decimal_some n low e = let f = has_first n low in cons_some f.first f.more (sym f.is ∙ e)

digits_dense : (limit : ℕ) (value : Option ℕ) → limit < 2 ^ 32 → IsWithin limit value → is_dense (digits_of value) ≡ true
digits_dense limit None fits within = refl
digits_dense limit (Some value) fits within = decimal_dense value (omega (arith, fits, within))

-- one more digit of a text
more_digits : (value : Option ℕ) (byte more : ℕ) (line : List ℕ) → decimal more ≡ digits_of value ++ byte ∷ [] → decimal more ++ line ≡ digits_of value ++ byte ∷ line
more_digits value byte more line e = ap (λ (xs : List ℕ). xs ++ line) e ∙ append_assoc (digits_of value) (byte ∷ []) line

variables_digit : (value : Option ℕ) (byte : ℕ) (line : List ℕ) (others : List (List ℕ)) (set : ClauseSet) (log : List (List Literal)) → set.variables ≤ most_variables → IsWithin most_variables value
    → (IsNumbersRest (digits_of value) (byte ∷ line) set → is_blank byte ≡ false)
    → Agrees (option_map (λ n. Variables (Some n)) (counted most_variables value byte)) (IsRest (Variables value) (byte ∷ line) others set log) (λ t. IsRest t line others set log)
variables_digit value byte line others set log few within inked =
    agrees_map (λ n. Variables (Some n)) (counted most_variables value byte) (IsRest (Variables value) (byte ∷ line) others set log) (λ t. IsRest t line others set log)
    (λ h p.
    let front = longer_front (digits_of value) (decimal set.variables) line (decimal (length set.clauses)) byte p.0.0 (digits_dense most_variables value (omega arith) within) (inked p.0) p.0.1 p.0.2 in
    counted_none most_variables value byte set.variables front.more (omega arith) within few front.is h)
    (λ n h.
    let more = counted_some most_variables value byte n (omega arith) h in
    let join = more_digits value byte n line more.0 in
    (more.1, (λ q. ((q.0.0, q.0.1, sym join ∙ q.0.2), q.1)), (λ p. ((p.0.0, p.0.1, join ∙ p.0.2), p.1))))

inked_first : (byte : ℕ) (line : List ℕ) (set : ClauseSet) → set.variables ≤ most_variables → IsNumbersRest [] (byte ∷ line) set → is_blank byte ≡ false
inked_first byte line set few p =
    let f = has_first set.variables (small set.variables few) in
    let same = cons_once byte f.first line (f.more ++ p.0 ∷ decimal (length set.clauses)) (p.2 ∙ ap (λ (xs : List ℕ). xs ++ p.0 ∷ decimal (length set.clauses)) f.is) in
    no_blank byte (omega (arith, f.digit, same.0))

pub variables_byte : (value : Option ℕ) (byte : ℕ) (line : List ℕ) (others : List (List ℕ)) (set : ClauseSet) (log : List (List Literal)) → eqb byte 10 ≡ false → set.variables ≤ most_variables → IsWithin most_variables value
    → Agrees (in_variables value byte) (IsRest (Variables value) (byte ∷ line) others set log) (λ t. IsRest t line others set log)
variables_byte None byte line others set log e few within = variables_digit None byte line others set log few within (inked_first byte line set few)
variables_byte (Some value) byte line others set log e few within =
    agrees_if (parts_words byte) (Some (Count value None)) (option_map (λ n. Variables (Some n)) (counted most_variables (Some value) byte)) (IsRest (Variables (Some value)) (byte ∷ line) others set log) (λ t. IsRest t line others set log)
    (λ f.
    let blank : is_blank byte ≡ true = sym (parts_blank byte e) ∙ f in (
      (within, tt),
      (λ q. ((byte, blank, ap₂ (λ (n : ℕ) (xs : List ℕ). decimal n ++ byte ∷ xs) q.0 (sym q.1)), q.2)),
      (λ p.
          let same = same_fronts (decimal value) (decimal set.variables) line (decimal (length set.clauses)) byte p.0.0 (decimal_dense value (small value within)) (decimal_dense set.variables (small set.variables few)) blank p.0.1 p.0.2 in
          (decimal_injective value set.variables (omega (arith, within)) (omega (arith, few)) same.0, sym same.1, p.1)),
    ))
    (λ f. variables_digit (Some value) byte line others set log few within (λ p. sym (parts_blank byte e) ∙ f))

pub variables_feed : (value : Option ℕ) (line : List ℕ) (others : List (List ℕ)) (set : ClauseSet) (log : List (List Literal)) → set.variables ≤ most_variables → IsWithin most_variables value
    → Agrees (in_variables value 10) (IsRest (Variables value) [] (line ∷ others) set log) (λ t. IsRest t line others set log)
variables_feed None line others set log few within = λ p. later_some (decimal set.variables) (decimal (length set.clauses)) p.0.0 (sym p.0.2)
variables_feed (Some value) line others set log few within =
    agrees_map (λ n. Variables (Some n)) (counted most_variables (Some value) 10) (IsRest (Variables (Some value)) [] (line ∷ others) set log) (λ t. IsRest t line others set log)
    (λ h p. no_blank_in (decimal value) (decimal set.variables) (decimal (length set.clauses)) p.0.0 (decimal_dense value (small value within)) p.0.1 (sym (append-nil (decimal value)) ∙ p.0.2))
    (λ n h. absurd (omega (arith, counted_digit most_variables (Some value) 10 n h)))

count_digit : (variables : ℕ) (value : Option ℕ) (byte : ℕ) (line : List ℕ) (others : List (List ℕ)) (set : ClauseSet) (log : List (List Literal)) → length set.clauses ≤ most_clauses → variables ≤ most_variables → IsWithin most_clauses value
    → Agrees (option_map (λ n. Count variables (Some n)) (counted most_clauses value byte)) (IsRest (Count variables value) (byte ∷ line) others set log) (λ t. IsRest t line others set log)
count_digit variables value byte line others set log few low within =
    agrees_map (λ n. Count variables (Some n)) (counted most_clauses value byte) (IsRest (Count variables value) (byte ∷ line) others set log) (λ t. IsRest t line others set log)
    (λ h p. counted_none most_clauses value byte (length set.clauses) line (omega arith) within few p.1 h)
    (λ n h.
    let more = counted_some most_clauses value byte n (omega arith) h in
    let join = more_digits value byte n line more.0 in
    ((low, more.1), (λ q. (q.0, q.1 ∙ join, q.2)), (λ p. (p.0, p.1 ∙ sym join, p.2))))

pub count_byte : (variables : ℕ) (value : Option ℕ) (byte : ℕ) (line : List ℕ) (others : List (List ℕ)) (set : ClauseSet) (log : List (List Literal)) → eqb byte 10 ≡ false → length set.clauses ≤ most_clauses → variables ≤ most_variables → IsWithin most_clauses value
    → Agrees (in_count variables value byte) (IsRest (Count variables value) (byte ∷ line) others set log) (λ t. IsRest t line others set log)
count_byte variables None byte line others set log e few low within = count_digit variables None byte line others set log few low within
count_byte variables (Some value) byte line others set log e few low within =
    subst (λ (b : Bool). Agrees (cond b (Some (Setting variables value First no_draft)) (option_map (λ n. Count variables (Some n)) (counted most_clauses (Some value) byte))) (IsRest (Count variables (Some value)) (byte ∷ line) others set log) (λ t. IsRest t line others set log))
    (sym e) (count_digit variables (Some value) byte line others set log few low within)

nought_or_more : (n : ℕ) → HasRoom n no_draft
nought_or_more zero = inr (refl, refl, refl)
nought_or_more (suc n) = inl (omega arith)

pub count_feed : (variables : ℕ) (value : Option ℕ) (line : List ℕ) (others : List (List ℕ)) (set : ClauseSet) (log : List (List Literal)) → length set.clauses ≤ most_clauses → variables ≤ most_variables → IsWithin most_clauses value
    → Agrees (in_count variables value 10) (IsRest (Count variables value) [] (line ∷ others) set log) (λ t. IsRest t line others set log)
count_feed variables None line others set log few low within = λ p. decimal_some (length set.clauses) (small_count (length set.clauses) few) p.1
count_feed variables (Some value) line others set log few low within = (
  record { few_variables = low; few_clauses = within; draft = no_draft_sound variables; room = nought_or_more value; empty = refl },
  (λ q. (q.0, ap decimal (sym q.1) ∙ sym (append-nil (decimal value)), q.2)),
  (λ p. (p.0, sym (decimal_injective (length set.clauses) value (omega (arith, few)) (omega (arith, within)) (p.1 ∙ append-nil (decimal value))), p.2)),
)
