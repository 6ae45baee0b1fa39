-- Readers of many phrases of one kind, and the loops that read them.
use Rattle.std.proofs.Common.{◌≡◌, ℕ, zero, suc, ◌<◌, Bool, true, false, cond, List, [], ◌∷◌, ◌++◌, length, map, Option, None, Ok, Err, refl, sym, ap, subst, ◌∙◌, append_assoc, arith, inl, inr, ◌⊎◌}
use Rattle.std.proofs.lemmas.List.{append-nil, length-append}
use Rattle.std.specs.List.{AllByRecursion}
use Rattle.civl_tree.specs.Token.{Token}
use Rattle.civl_phrases.specs.declared.halt.Stop.{Stop}
use Rattle.civl_phrases.specs.declared.halt.Halt.{Halt}
use Rattle.civl_phrases.specs.declared.halt.Halt.TheVariants as halts
use Rattle.civl_phrases.specs.Reader.{lookahead, Answer, Reader, ◌>>=◌, Fails, miss, done, both, mapped, chosen}
use Rattle.civl_tree.specs.Spelling.{joined}
use Rattle.civl_phrases.specs.List.{repeated_by, repeated, front, cons}
use Rattle.civl_phrases.specs.Phrase.{Any, Says, Again, IsReader, Heads, IsLoop}
use Rattle.civl_phrases.proofs.Joins.{both_says, both_again, mapped_says, mapped_again, weaker_says, chosen_says, chosen_true, chosen_false}

-- ---- many phrases, and then what follows

abbrev pub push : {A B : Type 0} → A × (List A × B) → List A × B
push p = (p.0 ∷ p.1.0, p.1.1)

abbrev pub nothing : {A B : Type 0} → B → List A × B
nothing b = ([], b)

unfoldable pub many_by : {A B : Type 0} → (Option Token → Bool) → Reader A → Reader B → ℕ → Reader (List A × B)
many_by test x y zero = miss
many_by test x y (suc n) = chosen test (mapped push (both x (λ _. many_by test x y n))) (mapped nothing y)

unfoldable pub many : {A B : Type 0} → (Option Token → Bool) → Reader A → Reader B → Reader (List A × B)
many test x y ts = many_by test x y (suc (length ts)) ts

abbrev pub Shortens : {A : Type 0} → Reader A → Type 0
Shortens {A} x = (ts rest : List Token) (a : A) → x ts ≡ Ok (a, rest) → length rest < length ts

abbrev one_more : {A B : Type 0} → (Option Token → Bool) → Reader A → Reader B → Reader (List A × B) → Reader (List A × B)
one_more test x y r = chosen test (mapped push (both x (λ _. r))) (mapped nothing y)

module _ {A : Type 0} (d : ℕ) (s1 : A → List Token) (f1 : A → Type 0) (x : Reader A) (test : Option Token → Bool) (off : test None ≡ false) (on : Heads Any s1 f1 test true) (p : IsReader d d Any s1 f1 x) where
  not_empty : (a : A) → f1 a → (s1 a ≡ []) → ⊥
  not_empty a fits e = let h : test (lookahead (s1 a ++ [])) ≡ true = on.next a [] fits tt in absurd (true_false (sym h ∙ ap (λ w. test (lookahead (w ++ []))) e ∙ off))
    where
      true_false : true ≡ false → ⊥
      true_false k = cc

  pub shorter : Shortens x
  shorter ts rest a e = go (x ts) e (p.says ts)
    where
      longer : (w : List Token) → ((w ≡ []) → ⊥) → length rest < length (w ++ rest)
      longer [] h = absurd (h refl)
      longer (t ∷ w) h = omega (arith, length-append w rest)

      go : (o : Answer A) → o ≡ Ok (a, rest) → Says d d Any s1 f1 x ts o → length rest < length ts
      go (Ok v) k h = let e0 : v.0 ≡ a = cc in let e1 : v.1 ≡ rest = cc in
          rw (h.parts, e1) (longer (s1 v.0) (not_empty v.0 h.fits))
      go (Err k) k2 h = absurd cc

-- ---- what a list does at its next element

module _ {A B : Type 0} (x : Reader A) (y : Reader B) (test : Option Token → Bool) (less : Shortens x) where
  abbrev paired : A → Answer (List A × B) → Answer (A × (List A × B))
  paired a o = o >>= λ w. Ok ((a, w.0), w.1)

  abbrev paired_by : Answer A → Reader (List A × B) → Answer (A × (List A × B))
  paired_by o g = o >>= λ v. paired v.0 (g v.1)

  bind_same : (o : Answer A) (g h : Reader (List A × B)) → ((a : A) (rest : List Token) → o ≡ Ok (a, rest) → g rest ≡ h rest) → paired_by o g ≡ paired_by o h
  bind_same (Ok v) g h k = ap (paired v.0) (k v.0 v.1 refl)
  bind_same (Err k) g h l = refl

  more_same : (g h : Reader (List A × B)) (ts : List Token) → ((a : A) (rest : List Token) → x ts ≡ Ok (a, rest) → g rest ≡ h rest) → one_more test x y g ts ≡ one_more test x y h ts
  unfolding chosen mapped both
  more_same g h ts k = ap (λ (o : Answer (A × (List A × B))). cond (test (lookahead ts)) (o >>= λ v. Ok (push v.0, v.1)) (y ts >>= λ v. Ok (nothing v.0, v.1))) (bind_same (x ts) g h k)

  enough : (n m : ℕ) (ts : List Token) → length ts < n → length ts < m → many_by test x y n ts ≡ many_by test x y m ts
  unfolding many_by
  enough zero m ts h k = absurd (omega arith)
  enough (suc n) zero ts h k = absurd (omega arith)
  enough (suc n) (suc m) ts h k = more_same (many_by test x y n) (many_by test x y m) ts (λ a rest e. let l = less ts rest a e in enough n m rest (omega arith) (omega arith))

  many_step : many test x y ≡ one_more test x y (many test x y)
  unfolding many many_by
  many_step = λ i ts. more_same (many_by test x y (length ts)) (many test x y) ts (λ a rest e. enough (length ts) (suc (length rest)) rest (less ts rest a e) (omega arith)) i

module _ {A B : Type 0} (d e : ℕ) (z : List Token → Type 0) (s1 : A → List Token) (f1 : A → Type 0) (x : Reader A) (s2 : B → List Token) (f2 : B → Type 0) (y : Reader B)
    (test : Option Token → Bool) (off : test None ≡ false) (on : Heads Any s1 f1 test true) (not_y : Heads z s2 f2 test false) (p : IsReader d d Any s1 f1 x) (q : IsReader d e z s2 f2 y) where
  abbrev many_spell : List A × B → List Token
  many_spell v = joined (map s1 v.0) ++ s2 v.1

  abbrev ManyFits : List A × B → Type 0
  ManyFits v = AllByRecursion f1 v.0 × f2 v.1

  abbrev ManySays : Reader (List A × B) → List Token → Answer (List A × B) → Type 0
  ManySays r ts o = Says d e z many_spell ManyFits r ts o

  cons_spells : (v : A × (List A × B)) → many_spell (push v) ≡ s1 v.0 ++ many_spell v.1
  cons_spells v = append_assoc (s1 v.0) (joined (map s1 v.1.0)) (s2 v.1.1)

  either : (v : List A × B) → ManyFits v ⊎ ManyFits v → ManyFits v
  either v (inl h) = h
  either v (inr h) = h

  cons_says : (ts : List Token) → ((rest : List Token) → length rest < length ts → ManySays (many test x y) rest (many test x y rest)) → ManySays (mapped push (both x (λ _. many test x y))) ts (mapped push (both x (λ _. many test x y)) ts)
  unfolding mapped both
  cons_says ts ih = mapped_says d e z (λ v. s1 v.0 ++ many_spell v.1) (λ v. f1 v.0 × ManyFits v.1) (both x (λ _. many test x y)) push many_spell ManyFits
      (λ v h. cons_spells v) (λ v h. ((h.0, h.1.0), h.1.1)) ts _
      (both_says d d e z s1 f1 x (λ _. many_spell) (λ _. ManyFits) (λ _. many test x y) ts (λ a h. (([], q.example.0), (tt, q.example.1))) (x ts) (p.says ts)
      (λ a rest e. ih rest (shorter d s1 f1 x test off on p ts rest a e)))

  nil_says : (ts : List Token) → ManySays (mapped nothing y) ts (mapped nothing y ts)
  unfolding mapped
  nil_says ts = mapped_says d e z s2 f2 y nothing many_spell ManyFits (λ b h. refl) (λ b h. (tt, h)) ts (y ts) (q.says ts)

  many_says : (n : ℕ) (ts : List Token) → length ts < n → ManySays (many test x y) ts (many test x y ts)
  unfolding chosen
  many_says zero ts h = absurd (omega arith)
  many_says (suc n) ts h = subst (λ r. ManySays r ts (r ts)) (sym (many_step x y test (shorter d s1 f1 x test off on p)))
      (weaker_says d e z many_spell (λ v. ManyFits v ⊎ ManyFits v) ManyFits either (one_more test x y (many test x y)) ts _
      (chosen_says d e z many_spell ManyFits ManyFits test (mapped push (both x (λ _. many test x y))) (mapped nothing y) ts (test (lookahead ts)) refl
      (λ _. cons_says ts (λ rest l. many_says n rest (omega arith))) (λ _. nil_says ts)))

  many_again : (xs : List A) (b : B) (rest : List Token) → AllByRecursion f1 xs → f2 b → z rest → Again (many test x y) (many_spell (xs, b) ++ rest) (xs, b) rest
  many_again [] b rest fits fits2 ends = subst (λ r. Again r (s2 b ++ rest) ([], b) rest) (sym (many_step x y test (shorter d s1 f1 x test off on p)))
      (chosen_false test (mapped push (both x (λ _. many test x y))) (mapped nothing y) (s2 b ++ rest) ([], b) rest (not_y.next b rest fits2 ends)
      (mapped_again y nothing (s2 b ++ rest) b rest (q.again b rest fits2 ends)))
  many_again (a ∷ xs) b rest fits fits2 ends =
      let w : List Token = s1 a ++ many_spell (xs, b) in
      let whole : many_spell (a ∷ xs, b) ≡ w = cons_spells (a, (xs, b)) in
      subst (λ r. Again r (many_spell (a ∷ xs, b) ++ rest) (a ∷ xs, b) rest) (sym (many_step x y test (shorter d s1 f1 x test off on p)))
      (subst (λ v. Again (one_more test x y (many test x y)) (v ++ rest) (a ∷ xs, b) rest) (sym whole)
      (chosen_true test (mapped push (both x (λ _. many test x y))) (mapped nothing y) (w ++ rest) (a ∷ xs, b) rest
      (ap (λ v. test (lookahead v)) (append_assoc (s1 a) (many_spell (xs, b)) rest) ∙ on.next a (many_spell (xs, b) ++ rest) fits.0 tt)
      (mapped_again (both x (λ _. many test x y)) push (w ++ rest) (a, (xs, b)) rest
      (both_again s1 x (λ _. many_spell) (λ _. many test x y) a (xs, b) rest (p.again a (many_spell (xs, b) ++ rest) fits.0 tt) (many_again xs b rest fits.1 fits2 ends)))))

  pub many_reads : IsReader d e z many_spell ManyFits (many test x y)
  many_reads = record {
    says = λ ts. many_says (suc (length ts)) ts (omega arith);
    again = λ v rest fits ends. many_again v.0 v.1 rest fits.0 fits.1 ends;
    example = (([], q.example.0), (tt, q.example.1));
  }

pub many_is : {A B : Type 0} {d e : ℕ} {z : List Token → Type 0} {s1 : A → List Token} {f1 : A → Type 0} {x : Reader A} {s2 : B → List Token} {f2 : B → Type 0} {y : Reader B}
    (test : Option Token → Bool) → test None ≡ false → Heads Any s1 f1 test true → Heads z s2 f2 test false → IsReader d d Any s1 f1 x → IsReader d e z s2 f2 y
    → IsReader d e z (λ v. joined (map s1 v.0) ++ s2 v.1) (λ v. AllByRecursion f1 v.0 × f2 v.1) (many test x y)
many_is {d} {e} {z} {s1} {f1} {x} {s2} {f2} {y} test off on not_y p q = many_reads d e z s1 f1 x s2 f2 y test off on not_y p q

-- ---- the list by itself, and then what follows

module _ {A B : Type 0} (test : Option Token → Bool) (x : Reader A) (y : Reader B) where
  abbrev with_list : List A → Answer B → Answer (List A × B)
  with_list xs r = r >>= λ b. Ok ((xs, b.0), b.1)

  abbrev then_y : Answer (List A) → Answer (List A × B)
  then_y r = r >>= λ v. with_list v.0 (y v.1)

  abbrev pair_y : A → Answer (List A × B) → Answer (A × (List A × B))
  pair_y a r = r >>= λ v. Ok ((a, v.0), v.1)

  abbrev push_y : Answer (A × (List A × B)) → Answer (List A × B)
  push_y r = r >>= λ v. Ok (push v.0, v.1)

  abbrev pair_of : A → Answer (List A) → Answer (A × List A)
  pair_of a r = r >>= λ v. Ok ((a, v.0), v.1)

  abbrev consed : Answer (A × List A) → Answer (List A)
  consed r = r >>= λ v. Ok (cons v.0, v.1)

  split_last : (a : A) (xs : List A) (r : Answer B) → push_y (pair_y a (with_list xs r)) ≡ with_list (a ∷ xs) r
  split_last a xs (Ok v) = refl
  split_last a xs (Err e) = refl

  split_second : (a : A) (r : Answer (List A)) → push_y (pair_y a (then_y r)) ≡ then_y (consed (pair_of a r))
  split_second a (Ok v) = split_last a v.0 (y v.1)
  split_second a (Err e) = refl

  split_first : (o : Answer A) (f : Reader (List A × B)) (g : Reader (List A)) → ((ts : List Token) → f ts ≡ then_y (g ts)) → push_y (o >>= λ v. pair_y v.0 (f v.1)) ≡ then_y (consed (o >>= λ v. pair_of v.0 (g v.1)))
  split_first (Ok v) f g h = ap (λ r. push_y (pair_y v.0 r)) (h v.1) ∙ split_second v.0 (g v.1)
  split_first (Err e) f g h = refl

  abbrev none_y : Answer B → Answer (List A × B)
  none_y r = r >>= λ v. Ok (nothing v.0, v.1)

  split_none : (r : Answer B) → none_y r ≡ with_list [] r
  split_none (Ok v) = refl
  split_none (Err e) = refl

  split_choice : (b : Bool) (o : Answer A) (f : Reader (List A × B)) (g : Reader (List A)) (ts : List Token) → ((ts : List Token) → f ts ≡ then_y (g ts))
      → cond b (push_y (o >>= λ v. pair_y v.0 (f v.1))) (none_y (y ts)) ≡ then_y (cond b (consed (o >>= λ v. pair_of v.0 (g v.1))) (Ok ([], ts)))
  split_choice true o f g ts h = split_first o f g h
  split_choice false o f g ts h = split_none (y ts)

  split_by : (n : ℕ) (ts : List Token) → many_by test x y n ts ≡ then_y (repeated_by test x n ts)
  unfolding many_by repeated_by chosen mapped both done
  split_by zero ts = refl
  split_by (suc n) ts = split_choice (test (lookahead ts)) (x ts) (many_by test x y n) (repeated_by test x n) ts (split_by n)

  pub many_repeated : many test x y ≡ both (repeated test x) (λ _. y)
  unfolding both many repeated
  many_repeated = λ i ts. split_by (suc (length ts)) ts i

-- ---- a list, as a loop reads it

module _ {A : Type 0} (test : Option Token → Bool) (x : Reader A) where
  abbrev pair_with : A → Answer (List A) → Answer (A × List A)
  pair_with a r = r >>= λ v. Ok ((a, v.0), v.1)

  abbrev cons_all : Answer (A × List A) → Answer (List A)
  cons_all r = r >>= λ v. Ok (cons v.0, v.1)

  cons_front : (a : A) (r : Answer (List A)) → cons_all (pair_with a r) ≡ front (a ∷ []) r
  cons_front a (Ok v) = refl
  cons_front a (Err e) = refl

  front_front : (xs : List A) (a : A) (r : Answer (List A)) → front xs (front (a ∷ []) r) ≡ front (xs ++ a ∷ []) r
  front_front xs a (Ok v) = ap (λ (w : List A). Ok (w, v.1)) (sym (append_assoc xs (a ∷ []) v.0))
  front_front xs a (Err e) = refl

  step_on : (n : ℕ) (ts rest : List Token) (a : A) → test (lookahead ts) ≡ true → x ts ≡ Ok (a, rest) → repeated_by test x (suc n) ts ≡ front (a ∷ []) (repeated_by test x n rest)
  unfolding repeated_by chosen mapped both
  step_on n ts rest a h e = rw (h, e) (cons_front a (repeated_by test x n rest))

  step_fails : (n : ℕ) (k : Stop) (ts : List Token) → test (lookahead ts) ≡ true → x ts ≡ Err k → repeated_by test x (suc n) ts ≡ Err k
  unfolding repeated_by chosen mapped both
  step_fails n k ts h e = rw (h, e) refl

  step_off : (n : ℕ) (ts : List Token) → test (lookahead ts) ≡ false → repeated_by test x (suc n) ts ≡ Ok ([], ts)
  unfolding repeated_by chosen mapped done
  step_off n ts h = rw h refl

  starts : (n : ℕ) (xs : List A) (ts : List Token) → n ≡ suc (length ts) → front xs (repeated_by test x n ts) ≡ front xs (repeated test x ts)
  unfolding repeated
  starts n xs ts e = ap (λ (k : ℕ). front xs (repeated_by test x k ts)) e

  front_none : (r : Answer (List A)) → front [] r ≡ r
  front_none (Ok v) = refl
  front_none (Err e) = refl

  from_none : (n : ℕ) (ts : List Token) → n ≡ suc (length ts) → front [] (repeated_by test x n ts) ≡ repeated test x ts
  unfolding repeated
  from_none n ts e = front_none (repeated_by test x n ts) ∙ ap (λ (k : ℕ). repeated_by test x k ts) e

  goes_on : (n m : ℕ) (xs : List A) (ts rest : List Token) (a : A) (total : Answer (List A)) → n ≡ suc m → test (lookahead ts) ≡ true → x ts ≡ Ok (a, rest) → front xs (repeated_by test x n ts) ≡ total → front (xs ++ a ∷ []) (repeated_by test x m rest) ≡ total
  goes_on zero m xs ts rest a total l h e so_far = absurd (omega arith)
  goes_on (suc n) m xs ts rest a total l h e so_far =
      let same : n ≡ m = omega arith in
      ap (λ (k : ℕ). front (xs ++ a ∷ []) (repeated_by test x k rest)) (sym same) ∙ sym (ap (front xs) (step_on n ts rest a h e) ∙ front_front xs a (repeated_by test x n rest)) ∙ so_far

  fails : (n : ℕ) (k : Halt) (xs : List A) (ts : List Token) (total : Answer (List A)) → 0 < n → test (lookahead ts) ≡ true → Fails k (x ts) → front xs (repeated_by test x n ts) ≡ total → Fails k total
  fails zero k xs ts total l h e so_far = absurd (omega arith)
  fails (suc n) halts.Memory xs ts total l h e so_far = tt
  fails (suc n) (halts.Stop k) xs ts total l h e so_far = sym so_far ∙ ap (front xs) (step_fails n k ts h e)

  ends : (n : ℕ) (xs : List A) (ts : List Token) (total : Answer (List A)) → 0 < n → test (lookahead ts) ≡ false → front xs (repeated_by test x n ts) ≡ total → total ≡ Ok (xs, ts)
  ends zero xs ts total l h so_far = absurd (omega arith)
  ends (suc n) xs ts total l h so_far = sym so_far ∙ ap (front xs) (step_off n ts h) ∙ ap (λ (w : List A). Ok (w, ts)) (append-nil xs)

  spent : (n : ℕ) (xs : List A) (ts : List Token) (total : Answer (List A)) → n ≡ 0 → front xs (repeated_by test x n ts) ≡ total → total ≡ miss ts
  unfolding repeated_by
  spent zero xs ts total l so_far = sym so_far
  spent (suc n) xs ts total l so_far = absurd (omega arith)

  pub loop_reads : IsLoop test x
  loop_reads = record { starts = starts; from_none = from_none; goes_on = goes_on; fails = fails; ends = ends; spent = spent }

pub loop_is : {A : Type 0} (test : Option Token → Bool) (x : Reader A) → IsLoop test x
loop_is test x = loop_reads test x

-- ---- the bound on a list never tells

module _ {A : Type 0} (test : Option Token → Bool) (x : Reader A) (less : Shortens x) where
  abbrev unfolded : Reader (List A) → Reader (List A)
  unfolded r = chosen test (mapped cons (both x (λ _. r))) (mapped (λ _. []) done)

  abbrev paired_list : A → Answer (List A) → Answer (A × List A)
  paired_list a r = r >>= λ v. Ok ((a, v.0), v.1)

  abbrev then_list : Answer A → Reader (List A) → Answer (A × List A)
  then_list o g = o >>= λ v. paired_list v.0 (g v.1)

  list_same : (o : Answer A) (g h : Reader (List A)) → ((a : A) (rest : List Token) → o ≡ Ok (a, rest) → g rest ≡ h rest) → then_list o g ≡ then_list o h
  list_same (Ok v) g h k = ap (paired_list v.0) (k v.0 v.1 refl)
  list_same (Err e) g h k = refl

  unfolded_same : (g h : Reader (List A)) (ts : List Token) → ((a : A) (rest : List Token) → x ts ≡ Ok (a, rest) → g rest ≡ h rest) → unfolded g ts ≡ unfolded h ts
  unfolding chosen mapped both
  unfolded_same g h ts k = ap (λ (o : Answer (A × List A)). cond (test (lookahead ts)) (o >>= λ v. Ok (cons v.0, v.1)) (done ts >>= λ v. Ok ([], v.1))) (list_same (x ts) g h k)

  list_enough : (n m : ℕ) (ts : List Token) → length ts < n → length ts < m → repeated_by test x n ts ≡ repeated_by test x m ts
  unfolding repeated_by
  list_enough zero m ts h k = absurd (omega arith)
  list_enough (suc n) zero ts h k = absurd (omega arith)
  list_enough (suc n) (suc m) ts h k = unfolded_same (repeated_by test x n) (repeated_by test x m) ts (λ a rest e. let l = less ts rest a e in list_enough n m rest (omega arith) (omega arith))

  pub list_unfolds : repeated test x ≡ chosen test (mapped cons (both x (λ _. repeated test x))) (mapped (λ _. []) done)
  unfolding repeated repeated_by
  list_unfolds = λ i ts. unfolded_same (repeated_by test x (length ts)) (repeated test x) ts (λ a rest e. list_enough (length ts) (suc (length rest)) rest (less ts rest a e) (omega arith)) i
