-- A reader of whole texts answers what is right, and nothing else is.
use Rattle.std.proofs.Common.{◌≡◌, ℕ, zero, suc, ◌+◌, ◌-◌, ◌≤◌, ◌<◌, List, [], ◌∷◌, ◌++◌, length, take, drop, Option, Some, None, Result, Ok, Err, refl, sym, ap, subst, ◌∙◌, append_assoc, arith, inl, inr, ◌⊎◌}
use Rattle.std.proofs.lemmas.List.{append-nil, length-append, drop_at, take_at, take-append-drop, length-drop}
use Rattle.civl_tree.specs.Token.{Token}
use Rattle.civl_phrases.specs.declared.halt.Stop.{Stop}
use Rattle.civl_phrases.specs.declared.halt.Stop.TheVariants.{NotHere, Deep}
use Rattle.civl_phrases.specs.Bracket.{opens, IsShallow, Opens, side, turn, and_then, room}
use Rattle.civl_phrases.specs.Reader.{lookahead, Answer, Reader}
use Rattle.civl_phrases.specs.Phrase.{AtEnd, Missed, Sank, Says, Again, IsReader}
use Rattle.civl_phrases.specs.Exact.{IsPrefix, IsRead, IsNotHere, IsDeep, IsRight, placed}
use Rattle.civl_phrases.proofs.Nesting.{room_then, lookahead_join, to_shallow, from_shallow, no_room}

-- ---- lists

lookahead_more : (b o r : List Token) → 0 < length b → lookahead (b ++ o) ≡ lookahead (b ++ r)
lookahead_more [] o r h = absurd (omega arith)
lookahead_more (t ∷ b) o r h = refl

-- the place i in b, or behind it, where ts is b and then r
take_front : (b r : List Token) (i : ℕ) → i ≤ length b → take i (b ++ r) ++ drop i b ≡ b
take_front [] r zero h = refl
take_front [] r (suc i) h = absurd (omega arith)
take_front (t ∷ b) r zero h = refl
take_front (t ∷ b) r (suc i) h = ap (λ w. t ∷ w) (take_front b r i (omega arith))

drop_front : (b r : List Token) (i : ℕ) → i ≤ length b → drop i (b ++ r) ≡ drop i b ++ r
drop_front [] r zero h = refl
drop_front [] r (suc i) h = absurd (omega arith)
drop_front (t ∷ b) r zero h = refl
drop_front (t ∷ b) r (suc i) h = drop_front b r i (omega arith)

pub take_past : (b r : List Token) (i : ℕ) → length b ≤ i → take i (b ++ r) ≡ b ++ take (i - length b) r
take_past [] r i h = let e : i ≡ i - 0 = omega arith in ap (λ n. take n r) e
take_past (t ∷ b) r zero h = absurd (omega arith)
take_past (t ∷ b) r (suc i) h = let e : i - length b ≡ suc i - suc (length b) = omega arith in ap (λ w. t ∷ w) (take_past b r i (omega arith) ∙ ap (λ n. b ++ take n r) e)

room_out : (d : ℕ) (x y : List Token) → room d x ≡ None → room d (x ++ y) ≡ None
unfolding room
room_out d [] y e = absurd cc
room_out d (t ∷ x) y e = go (turn (side t) d) (λ k h. room_out k x y h) e
  where
    go : (o : Option ℕ) → ((k : ℕ) → room k x ≡ None → room k (x ++ y) ≡ None) → and_then o (λ k. room k x) ≡ None → and_then o (λ k. room k (x ++ y)) ≡ None
    go (Some k) ih h = ih k h
    go None ih h = refl

room_opens : (d : ℕ) (b : List Token) (t : Token) (r : List Token) → side t ≡ Opens → room d b ≡ Some 0 → room d (b ++ t ∷ r) ≡ None
unfolding room
room_opens d b t r opens e = room_then d 0 b (t ∷ r) e ∙ ap (λ k. and_then (turn k 0) (λ m. room m r)) opens

not_both : (o : Option ℕ) (m : ℕ) → o ≡ Some m → o ≡ None → ⊥
not_both o m h k = cc

abbrev ok_answer : {A : Type 0} → A × List Token → Answer A
ok_answer x = Ok x

abbrev no_answer : {A : Type 0} → Stop → Answer A
no_answer k = Err k

ok_not : {A : Type 0} (x : A × List Token) (k : Stop) → ok_answer x ≡ no_answer k → ⊥
ok_not x k e = cc

deep_not : {A : Type 0} (m n : ℕ) → no_answer {A = A} (Deep m) ≡ no_answer (NotHere n) → ⊥
deep_not m n e = cc

lookahead_take : (k : ℕ) (r more : List Token) → 0 < k → 0 < length r → lookahead (take k r ++ more) ≡ lookahead r
lookahead_take zero r more h l = absurd (omega arith)
lookahead_take (suc k) [] more h l = absurd (omega arith)
lookahead_take (suc k) (t ∷ r) more h l = refl

-- ---- a whole text

module _ {A : Type 0} (d : ℕ) (s : A → List Token) (f : A → Type 0) (r : Reader A) (p : IsReader d d AtEnd s f r) where
  whole_not : (a : A) → f a → (n : ℕ) → r (s a) ≡ Err (NotHere n) → ⊥
  whole_not a fits n e = go (p.again a [] fits refl)
    where
      here : r (s a ++ []) ≡ Err (NotHere n)
      here = ap r (append-nil (s a)) ∙ e

      go : Again r (s a ++ []) a [] → ⊥
      go (inl h) = ok_not (a, []) (NotHere n) (sym h ∙ here)
      go (inr h) = deep_not {A = A} h.0 n (sym h.1 ∙ here)

  -- whatever has the front before a fault, and the same next token, is no spelling
  missed_stops : (ts : List Token) (n : ℕ) (h : Missed d s f r ts n) (a : A) (more : List Token) → f a → s a ≡ h.before ++ more → lookahead more ≡ lookahead h.rest → ⊥
  missed_stops ts n h a more fits e same = whole_not a fits (length more) (ap r e ∙ h.keeps more same)

  right_missed : (ts : List Token) (n : ℕ) → Missed d s f r ts n → IsNotHere d s f ts (length ts - n)
  right_missed ts n h =
      let long : length ts ≡ length h.before + length h.rest = ap length h.parts ∙ length-append h.before h.rest in
      let i : length h.before ≡ length ts - n = omega (arith, long, h.left) in
      let front : take (length ts - n) ts ≡ h.before = ap (take (length ts - n)) h.parts ∙ take_at h.before h.rest (length ts - n) i in
      let back : drop (length ts - n) ts ≡ h.rest = ap (drop (length ts - n)) h.parts ∙ drop_at h.before h.rest (length ts - n) i in
      record {
        within = omega arith;
        begun = (h.some, h.more, h.fits, h.viable ∙ ap (λ w. w ++ h.more) (sym front));
        shallow = to_shallow d (take (length ts - n) ts) h.at (ap (room d) front ∙ h.depth);
        stops = λ a more fits e same. missed_stops ts n h a more fits (e ∙ ap (λ w. w ++ more) front) (same ∙ ap lookahead back);
      }

  right_sank : (ts : List Token) (n : ℕ) → Sank d s f ts n → IsDeep d s f ts (length ts - n)
  right_sank ts n h =
      let long : length ts ≡ length h.before + suc (length h.rest) = ap length h.parts ∙ length-append h.before (h.token ∷ h.rest) in
      let i : length h.before ≡ length ts - n = omega (arith, long, h.left) in
      let front : take (length ts - n) ts ≡ h.before = ap (take (length ts - n)) h.parts ∙ take_at h.before (h.token ∷ h.rest) (length ts - n) i in
      let regrouped : ts ≡ (h.before ++ h.token ∷ []) ++ h.rest = h.parts ∙ sym (append_assoc h.before (h.token ∷ []) h.rest) in
      let j : length (h.before ++ h.token ∷ []) ≡ length ts - n + 1 = length-append h.before (h.token ∷ []) ∙ omega (arith, i) in
      let through : take (length ts - n + 1) ts ≡ h.before ++ h.token ∷ [] = ap (take (length ts - n + 1)) regrouped ∙ take_at (h.before ++ h.token ∷ []) h.rest (length ts - n + 1) j in
      record {
        within = omega (arith, long, h.left);
        begun = (h.some, h.more, h.fits, h.viable ∙ sym (append_assoc h.before (h.token ∷ []) h.more) ∙ ap (λ w. w ++ h.more) (sym through));
        shallow = to_shallow d (take (length ts - n) ts) 0 (ap (room d) front ∙ h.depth);
        deep = λ k. let m = from_shallow d (take (length ts - n + 1) ts) k in not_both (room d (take (length ts - n + 1) ts)) m.0 m.1 (ap (room d) through ∙ room_opens d h.before h.token [] h.opens h.depth);
      }

  right_by : (ts : List Token) (x : Answer A) → Says d d AtEnd s f r ts x → IsRight d s f ts (placed (length ts) x)
  right_by ts (Ok x) h = let whole : ts ≡ s x.0 = h.parts ∙ ap (λ w. s x.0 ++ w) h.ends ∙ append-nil (s x.0) in record { fits = h.fits; parts = whole; shallow = to_shallow d ts d (ap (room d) whole ∙ h.depth) }
  right_by ts (Err (NotHere n)) h = right_missed ts n h
  right_by ts (Err (Deep n)) h = right_sank ts n h

  pub is_right : (ts : List Token) → IsRight d s f ts (placed (length ts) (r ts))
  is_right ts = right_by ts (r ts) (p.says ts)

  -- ---- no other answer is right

  not_shallow : (ts : List Token) (n : ℕ) (h : Sank d s f ts n) → IsShallow d ts → ⊥
  not_shallow ts n h k = let m = from_shallow d ts k in not_both (room d ts) m.0 m.1 (ap (room d) h.parts ∙ room_opens d h.before h.token h.rest h.opens h.depth)

  only_read : (ts : List Token) (a : A) → IsRead d s f ts a → (x : Answer A) → r ts ≡ x → Says d d AtEnd s f r ts x → placed (length ts) x ≡ Ok a
  only_read ts a h x e says = go (p.again a [] h.fits refl) x e says
    where
      here : r (s a ++ []) ≡ r ts
      here = ap r (append-nil (s a) ∙ sym h.parts)

      go : Again r (s a ++ []) a [] → (x : Answer A) → r ts ≡ x → Says d d AtEnd s f r ts x → placed (length ts) x ≡ Ok a
      go (inl k) x e says = ap (placed (length ts)) (sym e ∙ sym here ∙ k)
      go (inr k) (Ok v) e says = absurd (ok_not v (Deep k.0) (sym e ∙ sym here ∙ k.1))
      go (inr k) (Err (NotHere n)) e says = absurd (deep_not {A = A} k.0 n (sym k.1 ∙ here ∙ e))
      go (inr k) (Err (Deep n)) e says = absurd (not_shallow ts n says h.shallow)

  tri : (i j : ℕ) → (i < j) ⊎ ((i ≡ j) ⊎ (j < i))
  tri i j = grind arith

  -- the place of a fault behind b, and another
  cut_front : (ts b c : List Token) (i : ℕ) → ts ≡ b ++ c → i ≤ length b → b ≡ take i ts ++ drop i b
  cut_front ts b c i parts h = sym (take_front b c i h) ∙ ap (λ w. take i w ++ drop i b) (sym parts)

  cut_back : (ts b c : List Token) (i : ℕ) → ts ≡ b ++ c → i ≤ length b → drop i ts ≡ drop i b ++ c
  cut_back ts b c i parts h = ap (drop i) parts ∙ drop_front b c i h

  cut_past : (ts b c : List Token) (i : ℕ) → ts ≡ b ++ c → length b ≤ i → take i ts ≡ b ++ take (i - length b) c
  cut_past ts b c i parts h = ap (take i) parts ∙ take_past b c i h

  -- a spelling that goes on behind the place where another went wrong
  past_missed : (ts : List Token) (n i : ℕ) (h : Missed d s f r ts n) → IsPrefix s f (take i ts) → length h.before < i → i ≤ length ts → ⊥
  past_missed ts n i h (a, more, fits, e) lt le =
      let long : length ts ≡ length h.before + length h.rest = ap length h.parts ∙ length-append h.before h.rest in
      let w : List Token = take (i - length h.before) h.rest in
      missed_stops ts n h a (w ++ more) fits (e ∙ ap (λ v. v ++ more) (cut_past ts h.before h.rest i h.parts (omega arith)) ∙ append_assoc h.before w more)
      (lookahead_take (i - length h.before) h.rest more (omega arith) (omega (arith, long)))

  past_sank : (ts : List Token) (n i : ℕ) (h : Sank d s f ts n) → IsShallow d (take i ts) → length h.before < i → ⊥
  past_sank ts n i h k lt =
      let e : i - length h.before ≡ suc (i - length h.before - 1) = omega arith in
      let m = from_shallow d (take i ts) k in
      not_both (room d (take i ts)) m.0 m.1 (ap (room d) (cut_past ts h.before (h.token ∷ h.rest) i h.parts (omega arith) ∙ ap (λ m. h.before ++ take m (h.token ∷ h.rest)) e)
      ∙ room_opens d h.before h.token (take (i - length h.before - 1) h.rest) h.opens h.depth)

  before_deep : (ts b c : List Token) (i : ℕ) → room d (take (i + 1) ts) ≡ None → ts ≡ b ++ c → i < length b → (m : ℕ) → room d b ≡ Some m → ⊥
  before_deep ts b c i deep parts lt m h = not_both (room d b) m h (ap (room d) (cut_front ts b c (i + 1) parts (omega arith)) ∙ room_out d (take (i + 1) ts) (drop (i + 1) b) deep)

  only_not_here : (ts : List Token) (i : ℕ) → IsNotHere d s f ts i → (x : Answer A) → Says d d AtEnd s f r ts x → placed (length ts) x ≡ Err (NotHere i)
  only_not_here ts i y (Ok v) h = let w = right_by ts (Ok v) h in absurd (y.stops v.0 (drop i ts) h.fits (sym w.parts ∙ sym (take-append-drop i ts)) refl)
  only_not_here ts i y (Err (NotHere n)) h = go (tri i (length h.before))
    where
      long : length ts ≡ length h.before + length h.rest
      long = ap length h.parts ∙ length-append h.before h.rest

      go : (i < length h.before) ⊎ ((i ≡ length h.before) ⊎ (length h.before < i)) → placed {A = A} (length ts) (Err (NotHere n)) ≡ Err (NotHere i)
      go (inl lt) = absurd (y.stops h.some (drop i h.before ++ h.more) h.fits
          (h.viable ∙ ap (λ w. w ++ h.more) (cut_front ts h.before h.rest i h.parts (omega arith)) ∙ append_assoc (take i ts) (drop i h.before) h.more)
          (lookahead_more (drop i h.before) h.more h.rest (omega (arith, length-drop i h.before)) ∙ ap lookahead (sym (cut_back ts h.before h.rest i h.parts (omega arith)))))
      go (inr (inl e)) = let k : length ts - n ≡ i = omega (arith, long, h.left) in ap (λ (m : ℕ). Err (NotHere m)) k
      go (inr (inr gt)) = absurd (past_missed ts n i h y.begun gt y.within)
  only_not_here ts i y (Err (Deep n)) h = absurd (go (tri i (length h.before)))
    where
      stop : i ≤ length h.before → ⊥
      stop le = y.stops h.some (drop i h.before ++ h.token ∷ h.more) h.fits
          (h.viable ∙ ap (λ w. w ++ h.token ∷ h.more) (cut_front ts h.before (h.token ∷ h.rest) i h.parts le) ∙ append_assoc (take i ts) (drop i h.before) (h.token ∷ h.more))
          (lookahead_join (drop i h.before) (h.token ∷ h.rest) (h.token ∷ h.more) refl ∙ ap lookahead (sym (cut_back ts h.before (h.token ∷ h.rest) i h.parts le)))

      go : (i < length h.before) ⊎ ((i ≡ length h.before) ⊎ (length h.before < i)) → ⊥
      go (inl lt) = stop (omega arith)
      go (inr (inl e)) = stop (omega arith)
      go (inr (inr gt)) = past_sank ts n i h y.shallow gt

  only_deep : (ts : List Token) (i : ℕ) → IsDeep d s f ts i → (x : Answer A) → Says d d AtEnd s f r ts x → placed (length ts) x ≡ Err (Deep i)
  only_deep ts i y (Ok v) h = let w = right_by ts (Ok v) h in
      let m = from_shallow d ts w.shallow in absurd (not_both (room d ts) m.0 m.1 (ap (room d) (sym (take-append-drop (i + 1) ts)) ∙ room_out d (take (i + 1) ts) (drop (i + 1) ts) (no_room d (take (i + 1) ts) y.deep)))
  only_deep ts i y (Err (NotHere n)) h = absurd (go (tri i (length h.before)))
    where
      go : (i < length h.before) ⊎ ((i ≡ length h.before) ⊎ (length h.before < i)) → ⊥
      go (inl lt) = before_deep ts h.before h.rest i (no_room d (take (i + 1) ts) y.deep) h.parts lt h.at h.depth
      go (inr (inl e)) = past_missed ts n (i + 1) h y.begun (omega arith) (omega (arith, y.within))
      go (inr (inr gt)) = past_missed ts n (i + 1) h y.begun (omega arith) (omega (arith, y.within))
  only_deep ts i y (Err (Deep n)) h = go (tri i (length h.before))
    where
      long : length ts ≡ length h.before + suc (length h.rest)
      long = ap length h.parts ∙ length-append h.before (h.token ∷ h.rest)

      go : (i < length h.before) ⊎ ((i ≡ length h.before) ⊎ (length h.before < i)) → placed {A = A} (length ts) (Err (Deep n)) ≡ Err (Deep i)
      go (inl lt) = absurd (before_deep ts h.before (h.token ∷ h.rest) i (no_room d (take (i + 1) ts) y.deep) h.parts lt 0 h.depth)
      go (inr (inl e)) = let k : length ts - n ≡ i = omega (arith, long, h.left) in ap (λ (m : ℕ). Err (Deep m)) k
      go (inr (inr gt)) = absurd (past_sank ts n i h y.shallow gt)

  only_by : (ts : List Token) (y : Result A Stop) → IsRight d s f ts y → placed (length ts) (r ts) ≡ y
  only_by ts (Ok a) y = only_read ts a y (r ts) refl (p.says ts)
  only_by ts (Err (NotHere i)) y = only_not_here ts i y (r ts) (p.says ts)
  only_by ts (Err (Deep i)) y = only_deep ts i y (r ts) (p.says ts)

pub is_exact : {A : Type 0} {d : ℕ} {s : A → List Token} {f : A → Type 0} {r : Reader A} → IsReader d d AtEnd s f r → (ts : List Token) → IsRight d s f ts (placed (length ts) (r ts)) × ((y : Result A Stop) → IsRight d s f ts y → placed (length ts) (r ts) ≡ y)
is_exact {d} {s} {f} {r} p ts = (is_right d s f r p ts, only_by d s f r p ts)

-- ---- the same, for a result that has the places

pub right_of : {A : Type 0} {d : ℕ} {s : A → List Token} {f : A → Type 0} {r : Reader A} → IsReader d d AtEnd s f r → (ts : List Token) (n : ℕ) (x : Answer A) → n ≡ length ts → r ts ≡ x → IsRight d s f ts (placed n x)
right_of {d} {s} {f} {r} p ts n x h e = subst (λ (m : ℕ). IsRight d s f ts (placed m x)) (sym h) (subst (λ o. IsRight d s f ts (placed (length ts) o)) e (is_exact p ts).0)

pub only_of : {A : Type 0} {d : ℕ} {s : A → List Token} {f : A → Type 0} {r : Reader A} → IsReader d d AtEnd s f r → (ts : List Token) (n : ℕ) (x : Answer A) → n ≡ length ts → r ts ≡ x
    → (y : Result A Stop) → IsRight d s f ts y → y ≡ placed n x
only_of p ts n x h e y k = sym ((is_exact p ts).1 y k) ∙ ap (placed (length ts)) e ∙ ap (λ (m : ℕ). placed m x) (sym h)

-- ---- no two values have one spelling

same_ok : {A : Type 0} (o : Result A Stop) (a b : A) → o ≡ Ok a → o ≡ Ok b → a ≡ b
same_ok o a b e h = cc

pub one_spelling : {A : Type 0} {d : ℕ} {s : A → List Token} {f : A → Type 0} {r : Reader A} → IsReader d d AtEnd s f r → (a b : A) → f a → f b → s a ≡ s b → IsShallow d (s a) → a ≡ b
one_spelling {d} {s} {f} {r} p a b fits_a fits_b e shallow =
    let is : (y : Result _ Stop) → IsRight d s f (s a) y → placed (length (s a)) (r (s a)) ≡ y = (is_exact p (s a)).1 in
    same_ok (placed (length (s a)) (r (s a))) a b (is (Ok a) (record { fits = fits_a; parts = refl; shallow = shallow })) (is (Ok b) (record { fits = fits_b; parts = e; shallow = shallow }))
