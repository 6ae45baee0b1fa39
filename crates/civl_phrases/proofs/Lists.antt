-- Readers of lists with commas, of flags and of optional parts.
use Rattle.std.proofs.Common.{◌≡◌, ℕ, suc, Bool, true, false, cond, List, [], ◌∷◌, ◌++◌, map, Option, Some, None, Result, Ok, Err, refl, sym, ap, subst, ◌∙◌, append_assoc, inl, inr, ◌⊎◌}
use Rattle.std.specs.List.{AllByRecursion}
use Rattle.civl_tree.specs.Token.{Token}
use Rattle.civl_phrases.specs.declared.halt.Stop.{Stop}
use Rattle.civl_phrases.specs.Bracket.{opens, closes, Opens, Closes, side, turn}
use Rattle.civl_phrases.specs.Reader.{lookahead, is_same, begins, Answer, Reader, ◌>>=◌, expect, after, opened, done, both, mapped, then_token, chosen, flagged}
use Rattle.civl_tree.specs.Spelling.{comma, joined, separated}
use Rattle.civl_phrases.specs.List.{perhaps, repeated, cons, series, enclosed, option_of, flag_spelled}
use Rattle.civl_phrases.specs.Phrase.{Any, PerhapsFits, IsReader, Heads, Image}
use Rattle.civl_phrases.proofs.Joins.{both_is, mapped_is, image_is, refit_is, chosen_is}
use Rattle.civl_phrases.proofs.Tokens.{after_is, done_is, opened_is}
use Rattle.civl_phrases.proofs.Repeated.{push, nothing, many, many_is, many_repeated}
use Rattle.civl_phrases.proofs.Heads.{heads_after, heads_both, heads_image}

-- ---- a list, and then what follows

pub repeated_is : {A B : Type 0} {d e : ℕ} {z : List Token → Type 0} {s1 : A → List Token} {f1 : A → Type 0} {x : Reader A} {s2 : B → List Token} {f2 : B → Type 0} {y : Reader B}
    (test : Option Token → Bool) → test None ≡ false → Heads Any s1 f1 test true → Heads z s2 f2 test false → IsReader d d Any s1 f1 x → IsReader d e z s2 f2 y
    → IsReader d e z (λ v. joined (map s1 v.0) ++ s2 v.1) (λ v. AllByRecursion f1 v.0 × f2 v.1) (both (repeated test x) (λ _. y))
repeated_is {A} {B} {d} {e} {z} {s1} {f1} {x} {s2} {f2} {y} test off on not_y p q =
    subst (λ r. IsReader d e z (λ v. joined (map s1 v.0) ++ s2 v.1) (λ v. AllByRecursion f1 v.0 × f2 v.1) r) (many_repeated test x y) (many_is test off on not_y p q)

-- ---- a list with commas

-- x's with commas between them, and then y, which is next where the test holds
unfoldable commas : {A B : Type 0} → (Option Token → Bool) → Reader A → Reader B → Reader (List A × B)
commas stop x y = chosen stop (mapped nothing y) (mapped push (both x (λ _. many (begins comma) (after comma x) y)))

module _ {A B : Type 0} (d e : ℕ) (z : List Token → Type 0) (s1 : A → List Token) (f1 : A → Type 0) (x : Reader A) (s2 : B → List Token) (f2 : B → Type 0) (y : Reader B) (stop : Option Token → Bool) where
  abbrev commas_spell : List A × B → List Token
  commas_spell v = separated s1 v.0 ++ s2 v.1

  abbrev CommasFit : List A × B → Type 0
  CommasFit v = AllByRecursion f1 v.0 × f2 v.1

  abbrev none_of : B → List A × B
  none_of b = ([], b)

  abbrev RestFits : List A × B → Type 0
  RestFits v = AllByRecursion f1 v.0 × f2 v.1

  abbrev rest_spell : List A × B → List Token
  rest_spell v = joined (map (λ a. comma ∷ s1 a) v.0) ++ s2 v.1

  push_spells : (v : A × (List A × B)) → commas_spell (push v) ≡ s1 v.0 ++ rest_spell v.1
  push_spells v = append_assoc (s1 v.0) (joined (map (λ a. comma ∷ s1 a) v.1.0)) (s2 v.1.1)

  to_fits : (v : List A × B) → Image none_of f2 v ⊎ Image (push {A = A} {B = B}) (λ q. f1 q.0 × RestFits q.1) v → CommasFit v
  to_fits v (inl h) = subst CommasFit h.1 (tt, h.2)
  to_fits v (inr h) = subst CommasFit h.1 ((h.2.0, h.2.1.0), h.2.1.1)

  from_fits : (xs : List A) (b : B) → CommasFit (xs, b) → Image none_of f2 (xs, b) ⊎ Image (push {A = A} {B = B}) (λ q. f1 q.0 × RestFits q.1) (xs, b)
  from_fits [] b h = inl (b, refl, h.1)
  from_fits (a ∷ xs) b h = inr ((a, (xs, b)), refl, (h.0.0, (h.0.1, h.1)))

commas_is : {A B : Type 0} {d e : ℕ} {z : List Token → Type 0} {s1 : A → List Token} {f1 : A → Type 0} {x : Reader A} {s2 : B → List Token} {f2 : B → Type 0} {y : Reader B}
    (stop : Option Token → Bool) → Heads z s2 f2 stop true → Heads Any s1 f1 stop false → Heads z s2 f2 (begins comma) false → IsReader d d Any s1 f1 x → IsReader d e z s2 f2 y
    → IsReader d e z (λ v. separated s1 v.0 ++ s2 v.1) (λ v. AllByRecursion f1 v.0 × f2 v.1) (commas stop x y)
unfolding commas
commas_is {A} {B} {d} {e} {z} {s1} {f1} {x} {s2} {f2} {y} stop on off no_comma p q =
    let S = commas_spell d e z s1 f1 x s2 f2 y stop in
    let none : B → List A × B = λ b. ([], b) in
    let cons : A × (List A × B) → List A × B = push in
    let push_is = push_spells d e z s1 f1 x s2 f2 y stop in
    refit_is (λ v. AllByRecursion f1 v.0 × f2 v.1) (λ v h. to_fits d e z s1 f1 x s2 f2 y stop v h) (λ v h. from_fits d e z s1 f1 x s2 f2 y stop v.0 v.1 h)
    (chosen_is stop (heads_image none S stop true (λ b. refl) on)
    (heads_image cons S stop false push_is (heads_both z (λ _. rest_spell d e z s1 f1 x s2 f2 y stop) (λ _. RestFits d e z s1 f1 x s2 f2 y stop) stop false off))
    (image_is none S (λ b. refl) q)
    (image_is cons S push_is (both_is p (λ _. many_is (begins comma) refl (heads_after comma (begins comma) true refl) no_comma (after_is d comma refl refl p) q))))

-- ---- a word or a sign that may stand before a phrase

unfoldable flag : {A : Type 0} → Token → Reader A → Reader (Bool × A)
flag token r = chosen (begins token) (mapped (λ a. (true, a)) (after token r)) (mapped (λ a. (false, a)) r)

flag_back : {A : Type 0} (f : A → Type 0) (b : Bool) (a : A) → f a → Image {B = Bool × A} (λ (a : A). (true, a)) f (b, a) ⊎ Image {B = Bool × A} (λ (a : A). (false, a)) f (b, a)
flag_back f true a h = inl (a, refl, h)
flag_back f false a h = inr (a, refl, h)

flag_is : {A : Type 0} {d e : ℕ} {z : List Token → Type 0} {s : A → List Token} {f : A → Type 0} {r : Reader A} (t : Token) → is_same t t ≡ true → turn (side t) d ≡ Some d
    → Heads z s f (begins t) false → IsReader d e z s f r → IsReader d e z (flag_spelled t s) (λ p. f p.1) (flag t r)
unfolding flag
flag_is {A} {d} {e} {z} {s} {f} {r} t same turns off p =
    let yes : A → Bool × A = λ a. (true, a) in
    let no : A → Bool × A = λ a. (false, a) in
    refit_is (λ (p : Bool × A). f p.1) (λ v h. elim h [ inl i ↦ subst (λ (p : Bool × A). f p.1) i.1 i.2 | inr i ↦ subst (λ (p : Bool × A). f p.1) i.1 i.2 ]) (λ v h. flag_back f v.0 v.1 h)
    (chosen_is (begins t) (heads_image yes (flag_spelled t s) (begins t) true (λ a. refl) (heads_after t (begins t) true same)) (heads_image no (flag_spelled t s) (begins t) false (λ a. refl) off)
    (image_is yes (flag_spelled t s) (λ a. refl) (after_is d t same turns p)) (image_is no (flag_spelled t s) (λ a. refl) p))

-- ---- an optional part

abbrev with_some : {A B : Type 0} → A × B → Option A × B
with_some p = (Some p.0, p.1)

abbrev with_none : {A B : Type 0} → B → Option A × B
with_none b = (None, b)

unfoldable optional : {A B : Type 0} → (Option Token → Bool) → Reader A → Reader B → Reader (Option A × B)
optional test x y = chosen test (mapped with_some (both x (λ _. y))) (mapped with_none y)

optional_back : {A B : Type 0} (f : A → Type 0) (g : B → Type 0) (o : Option A) (b : B) → PerhapsFits f o × g b
    → Image {B = Option A × B} with_some (λ (p : A × B). f p.0 × g p.1) (o, b) ⊎ Image {B = Option A × B} with_none g (o, b)
optional_back f g (Some a) b h = inl ((a, b), refl, h)
optional_back f g None b h = inr (b, refl, h.1)

optional_is : {A B : Type 0} {d e : ℕ} {z : List Token → Type 0} {s1 : A → List Token} {f1 : A → Type 0} {x : Reader A} {s2 : B → List Token} {f2 : B → Type 0} {y : Reader B}
    (test : Option Token → Bool) → Heads Any s1 f1 test true → Heads z s2 f2 test false → IsReader d d Any s1 f1 x → IsReader d e z s2 f2 y
    → IsReader d e z (λ v. perhaps s1 v.0 ++ s2 v.1) (λ v. PerhapsFits f1 v.0 × f2 v.1) (optional test x y)
unfolding optional
optional_is {A} {B} {d} {e} {z} {s1} {f1} {x} {s2} {f2} {y} test on off p q =
    let fits : Option A × B → Type 0 = λ v. PerhapsFits f1 v.0 × f2 v.1 in
    let spell : Option A × B → List Token = λ v. perhaps s1 v.0 ++ s2 v.1 in
    let some : A × B → Option A × B = with_some in
    let none : B → Option A × B = with_none in
    refit_is fits (λ v h. elim h [ inl i ↦ subst fits i.1 i.2 | inr i ↦ subst fits i.1 (tt, i.2) ]) (λ v h. optional_back f1 f2 v.0 v.1 h)
    (chosen_is test (heads_image some spell test true (λ p. refl) (heads_both z (λ _. s2) (λ _. f2) test true on)) (heads_image none spell test false (λ b. refl) off)
    (image_is some spell (λ p. refl) (both_is p (λ _. q))) (image_is none spell (λ b. refl) q))

module _ {A B : Type 0} (test : Option Token → Bool) (x : Reader A) (y : Reader B) where
  abbrev with_option : Option A → Answer B → Answer (Option A × B)
  with_option o r = r >>= λ b. Ok ((o, b.0), b.1)

  abbrev then_rest : Answer (Option A) → Answer (Option A × B)
  then_rest r = r >>= λ v. with_option v.0 (y v.1)

  abbrev option_some : Answer A → Answer (Option A)
  option_some r = r >>= λ v. Ok (Some v.0, v.1)

  abbrev pair_rest : A → Answer B → Answer (A × B)
  pair_rest a r = r >>= λ b. Ok ((a, b.0), b.1)

  abbrev some_rest : Answer (A × B) → Answer (Option A × B)
  some_rest r = r >>= λ v. Ok (with_some v.0, v.1)

  abbrev none_rest : Answer B → Answer (Option A × B)
  none_rest r = r >>= λ b. Ok (with_none b.0, b.1)

  some_second : (a : A) (r : Answer B) → some_rest (pair_rest a r) ≡ with_option (Some a) r
  some_second a (Ok v) = refl
  some_second a (Err e) = refl

  some_first : (o : Answer A) → some_rest (o >>= λ v. pair_rest v.0 (y v.1)) ≡ then_rest (option_some o)
  some_first (Ok v) = some_second v.0 (y v.1)
  some_first (Err e) = refl

  none_first : (r : Answer B) → none_rest r ≡ with_option None r
  none_first (Ok v) = refl
  none_first (Err e) = refl

  optional_by : (b : Bool) (ts : List Token) → cond b (some_rest (x ts >>= λ v. pair_rest v.0 (y v.1))) (none_rest (y ts)) ≡ then_rest (cond b (option_some (x ts)) (Ok (None, ts)))
  optional_by true ts = some_first (x ts)
  optional_by false ts = none_first (y ts)

  -- an optional part by itself, and then what follows
  optional_split : (ts : List Token) → optional test x y ts ≡ (option_of test x ts >>= λ v. y v.1 >>= λ b. Ok ((v.0, b.0), b.1))
  unfolding optional option_of chosen mapped both done
  optional_split ts = optional_by (test (lookahead ts)) ts

-- ---- x's with commas, up to a closing bracket

module _ {A : Type 0} (x : Reader A) (y : Reader (Unit {0})) where
  abbrev alone : Answer (List A × Unit {0}) → Answer (List A)
  alone r = r >>= λ v. Ok (v.0.0, v.1)

  abbrev pushed : Answer (A × (List A × Unit {0})) → Answer (List A × Unit {0})
  pushed r = r >>= λ v. Ok (push v.0, v.1)

  abbrev with_first : A → Answer (List A × Unit {0}) → Answer (A × (List A × Unit {0}))
  with_first a r = r >>= λ v. Ok ((a, v.0), v.1)

  abbrev pair_of : A → Answer (List A) → Answer (A × List A)
  pair_of a r = r >>= λ v. Ok ((a, v.0), v.1)

  abbrev consed : Answer (A × List A) → Answer (List A)
  consed r = r >>= λ v. Ok (cons v.0, v.1)

  abbrev with_end : List A → Answer (Unit {0}) → Answer (List A × Unit {0})
  with_end xs r = r >>= λ b. Ok ((xs, b.0), b.1)

  abbrev to_end : Answer (List A) → Answer (List A × Unit {0})
  to_end r = r >>= λ v. with_end v.0 (y v.1)

  end_last : (a : A) (xs : List A) (r : Answer (Unit {0})) → alone (pushed (with_first a (with_end xs r))) ≡ alone (with_end (a ∷ xs) r)
  end_last a xs (Ok v) = refl
  end_last a xs (Err e) = refl

  end_second : (a : A) (r : Answer (List A)) → alone (pushed (with_first a (to_end r))) ≡ alone (to_end (consed (pair_of a r)))
  end_second a (Ok v) = end_last a v.0 (y v.1)
  end_second a (Err e) = refl

  end_first : (o : Answer A) → alone (pushed (o >>= λ v. with_first v.0 (to_end (repeated (begins comma) (after comma x) v.1)))) ≡ alone (to_end (consed (o >>= λ v. pair_of v.0 (repeated (begins comma) (after comma x) v.1))))
  end_first (Ok v) = end_second v.0 (repeated (begins comma) (after comma x) v.1)
  end_first (Err e) = refl

  abbrev many_after : List Token → Answer (List A × Unit {0})
  many_after ts = many (begins comma) (after comma x) y ts

  in_two : (o : Answer A) → (o >>= λ v. with_first v.0 (many_after v.1)) ≡ (o >>= λ v. with_first v.0 (to_end (repeated (begins comma) (after comma x) v.1)))
  unfolding both
  in_two (Ok v) = ap (λ (r : Reader (List A × Unit {0})). with_first v.0 (r v.1)) (many_repeated (begins comma) (after comma x) y)
  in_two (Err e) = refl

  abbrev none_alone : Answer (Unit {0}) → Answer (List A)
  none_alone r = r >>= λ v. Ok ([], v.1)

  abbrev none_end : Answer (Unit {0}) → Answer (List A × Unit {0})
  none_end r = r >>= λ v. Ok (([], v.0), v.1)

  end_none : (r : Answer (Unit {0})) → alone (none_end r) ≡ none_alone r
  end_none (Ok v) = refl
  end_none (Err e) = refl

  enclosed_by : (b : Bool) (ts : List Token) → alone (cond b (none_end (y ts)) (pushed (x ts >>= λ v. with_first v.0 (many_after v.1))))
      ≡ cond b (none_alone (y ts)) (alone (to_end (consed (x ts >>= λ v. pair_of v.0 (repeated (begins comma) (after comma x) v.1)))))
  enclosed_by true ts = end_none (y ts)
  enclosed_by false ts = ap (λ (o : Answer (A × (List A × Unit {0}))). alone (pushed o)) (in_two (x ts)) ∙ end_first (x ts)

enclosed_path : {A : Type 0} (x : Reader A) (close : Token) → mapped (λ v. v.0) (commas (begins close) x (after close done)) ≡ enclosed close x
unfolding enclosed series then_token mapped commas chosen both
enclosed_path x close = λ i ts. enclosed_by x (after close done) (begins close (lookahead ts)) ts i

pub enclosed_is : {A : Type 0} {d e : ℕ} {s1 : A → List Token} {f1 : A → Type 0} {x : Reader A} (close : Token) → is_same close close ≡ true → is_same comma close ≡ false → turn (side close) d ≡ Some e
    → Heads Any s1 f1 (begins close) false → IsReader d d Any s1 f1 x → IsReader d e Any (λ xs. separated s1 xs ++ close ∷ []) (AllByRecursion f1) (enclosed close x)
enclosed_is {A} {d} {e} {s1} {f1} {x} close same other turns off p =
    let end : IsReader d e Any (λ (u : Unit {0}). close ∷ []) (λ _. Unit {0}) (after close done) = after_is d close same turns (done_is e) in
    subst (λ r. IsReader d e Any (λ xs. separated s1 xs ++ close ∷ []) (AllByRecursion f1) r)
    (enclosed_path x close)
    (mapped_is {f = λ v. AllByRecursion f1 v.0 × Unit {0}} (λ (v : List A × Unit {0}). v.0) (λ xs. separated s1 xs ++ close ∷ []) (AllByRecursion f1) (λ v h. refl) (λ v h. h.0) (λ xs h. ((xs, tt), refl, (h, tt)))
    (commas_is (begins close) (heads_after close (begins close) true same) off (heads_after close (begins comma) false other) p end))

-- the same behind an opening bracket, where d more may be open
pub bracketed_is : {A : Type 0} {s1 : A → List Token} {f1 : A → Type 0} {x : Reader A} (d : ℕ) (start close : Token) → is_same start start ≡ true → side start ≡ Opens
    → is_same close close ≡ true → is_same comma close ≡ false → side close ≡ Closes → Heads Any s1 f1 (begins close) false → ((c : ℕ) → d ≡ suc c → IsReader c c Any s1 f1 x)
    → IsReader d d Any (λ xs. start ∷ (separated s1 xs ++ close ∷ [])) (AllByRecursion f1) (opened start d (enclosed close x))
bracketed_is {A} {s1} {f1} {x} d start close same opens same2 other closes off p = opened_is {s = λ xs. separated s1 xs ++ close ∷ []} d start same opens ([], tt)
    (λ c e. subst (λ k. IsReader c k Any (λ xs. separated s1 xs ++ close ∷ []) (AllByRecursion f1) (enclosed close x)) (sym e) (enclosed_is close same2 other (ap (λ k. turn k c) closes) off (p c e)))

-- ---- a word or a sign that may stand before a phrase, by itself

module _ {A : Type 0} (t : Token) (r : Reader A) where
  abbrev true_of : Answer A → Answer (Bool × A)
  true_of o = o >>= λ x. Ok ((true, x.0), x.1)

  abbrev false_of : Answer A → Answer (Bool × A)
  false_of o = o >>= λ x. Ok ((false, x.0), x.1)

  abbrev flag_then : Answer Bool → Answer (Bool × A)
  flag_then o = o >>= λ v. r v.1 >>= λ y. Ok ((v.0, y.0), y.1)

  abbrev true_alone : Result (List Token) Stop → Answer Bool
  true_alone o = (o >>= λ rest. done rest) >>= λ x. Ok (true, x.1)

  flag_true : (o : Result (List Token) Stop) → true_of (o >>= λ rest. r rest) ≡ flag_then (true_alone o)
  unfolding done
  flag_true (Ok rest) = refl
  flag_true (Err e) = refl

  flag_by : (b : Bool) (ts : List Token) → cond b (true_of (expect t ts >>= λ rest. r rest)) (false_of (r ts)) ≡ flag_then (cond b (true_alone (expect t ts)) (Ok (false, ts)))
  flag_by true ts = flag_true (expect t ts)
  flag_by false ts = refl

  flag_path : flag t r ≡ both (flagged t) (λ _. r)
  unfolding flag flagged chosen mapped both after done
  flag_path = λ i ts. flag_by (begins t (lookahead ts)) ts i

pub flagged_is : {A : Type 0} {d e : ℕ} {z : List Token → Type 0} {s : A → List Token} {f : A → Type 0} {r : Reader A} (t : Token) → is_same t t ≡ true → turn (side t) d ≡ Some d
    → Heads z s f (begins t) false → IsReader d e z s f r → IsReader d e z (flag_spelled t s) (λ p. f p.1) (both (flagged t) (λ _. r))
flagged_is {A} {d} {e} {z} {s} {f} {r} t same turns off p = subst (λ k. IsReader d e z (flag_spelled t s) (λ p. f p.1) k) (flag_path t r) (flag_is t same turns off p)

-- ---- an optional part by itself, and then what follows

optional_path : {A B : Type 0} (test : Option Token → Bool) (x : Reader A) (y : Reader B) → optional test x y ≡ both (option_of test x) (λ _. y)
unfolding both
optional_path test x y = λ i ts. optional_split test x y ts i

pub option_is : {A B : Type 0} {d e : ℕ} {z : List Token → Type 0} {s1 : A → List Token} {f1 : A → Type 0} {x : Reader A} {s2 : B → List Token} {f2 : B → Type 0} {y : Reader B}
    (test : Option Token → Bool) → Heads Any s1 f1 test true → Heads z s2 f2 test false → IsReader d d Any s1 f1 x → IsReader d e z s2 f2 y
    → IsReader d e z (λ v. perhaps s1 v.0 ++ s2 v.1) (λ v. PerhapsFits f1 v.0 × f2 v.1) (both (option_of test x) (λ _. y))
option_is {A} {B} {d} {e} {z} {s1} {f1} {x} {s2} {f2} {y} test on off p q =
    subst (λ r. IsReader d e z (λ v. perhaps s1 v.0 ++ s2 v.1) (λ v. PerhapsFits f1 v.0 × f2 v.1) r) (optional_path test x y) (optional_is test on off p q)

-- ---- a list, and then a word or a sign

pub repeated_then_is : {A : Type 0} {d e : ℕ} {s1 : A → List Token} {f1 : A → Type 0} {x : Reader A} (test : Option Token → Bool) (t : Token) → test None ≡ false → test (Some t) ≡ false
    → is_same t t ≡ true → turn (side t) d ≡ Some e → Heads Any s1 f1 test true → IsReader d d Any s1 f1 x
    → IsReader d e Any (λ xs. joined (map s1 xs) ++ t ∷ []) (AllByRecursion f1) (then_token t (repeated test x))
unfolding then_token
repeated_then_is {A} {d} {e} {s1} {f1} {x} test t off not_t same turns on p =
    mapped_is {f = λ v. AllByRecursion f1 v.0 × Unit {0}} (λ (v : List A × Unit {0}). v.0) (λ xs. joined (map s1 xs) ++ t ∷ []) (AllByRecursion f1) (λ v h. refl) (λ v h. h.0) (λ xs h. ((xs, tt), refl, (h, tt)))
    (repeated_is test off on (heads_after t test false not_t) p (after_is d t same turns (done_is e)))

-- the same in brackets, where d more may be open
pub braced_is : {A : Type 0} {s1 : A → List Token} {f1 : A → Type 0} {x : Reader A} (d : ℕ) (test : Option Token → Bool) (start close : Token) → is_same start start ≡ true → side start ≡ Opens
    → is_same close close ≡ true → side close ≡ Closes → test None ≡ false → test (Some close) ≡ false → Heads Any s1 f1 test true → ((c : ℕ) → d ≡ suc c → IsReader c c Any s1 f1 x)
    → IsReader d d Any (λ xs. start ∷ (joined (map s1 xs) ++ close ∷ [])) (AllByRecursion f1) (opened start d (then_token close (repeated test x)))
braced_is {A} {s1} {f1} {x} d test start close same opens same2 closes off not_close on p = opened_is {s = λ xs. joined (map s1 xs) ++ close ∷ []} d start same opens ([], tt)
    (λ c e. subst (λ k. IsReader c k Any (λ xs. joined (map s1 xs) ++ close ∷ []) (AllByRecursion f1) (then_token close (repeated test x))) (sym e)
    (repeated_then_is test close off not_close same2 (ap (λ k. turn k c) closes) on (p c e)))
