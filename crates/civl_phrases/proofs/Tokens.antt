-- Readers of single tokens, and of phrases with a word or a sign before or behind them.
use Rattle.std.proofs.Common.{◌≡◌, ℕ, zero, suc, Bool, true, false, cond, List, [], ◌∷◌, ◌++◌, length, Option, Some, None, Result, Ok, Err, refl, sym, ap, subst, ◌∙◌, arith, inl, inr}
use Rattle.std.specs.Prelude.{◌==◌}
use Rattle.civl_tree.specs.Token.{Token, Named, Reserved, Sign, Number}
use Rattle.civl_phrases.specs.declared.halt.Stop.{Stop}
use Rattle.civl_phrases.specs.declared.halt.Stop.TheVariants.{NotHere, Deep}
use Rattle.civl_phrases.specs.Bracket.{opens, Opens, side, turn, and_then, room}
use Rattle.civl_phrases.specs.Reader.{lookahead, is_same, Answer, Reader, ◌>>=◌, expect, enter, after, opened, taken, leaf, done, ended, then_token}
use Rattle.civl_phrases.specs.Phrase.{Any, AtEnd, Says, IsReader, IsLeaf}
use Rattle.civl_phrases.proofs.Nesting.{is_bytes}
use Rattle.civl_phrases.proofs.Joins.{both_is, mapped_is}

-- ---- single tokens

module _ {A : Type 0} (d : ℕ) (f : A → Type 0) (get : Token → Option A) (put : A → Token) (some : (a : A) × f a) (h : IsLeaf f get put) where
  abbrev LeafSays : List Token → Answer A → Type 0
  LeafSays ts x = Says d d Any (λ a. put a ∷ []) f (leaf get) ts x

  leaf_missed : (ts : List Token) → ((other : List Token) → lookahead other ≡ lookahead ts → leaf get other ≡ Err (NotHere (length other))) → LeafSays ts (Err (NotHere (length ts)))
  unfolding room
  leaf_missed ts keeps = record { before = []; rest = ts; parts = refl; left = refl; some = some.0; more = put some.0 ∷ []; fits = some.1; viable = refl; at = d; depth = refl; keeps = keeps }

  leaf_other : (t : Token) → get t ≡ None → (other : List Token) → lookahead other ≡ Some t → leaf get other ≡ Err (NotHere (length other))
  unfolding leaf
  leaf_other t e [] same = absurd cc
  leaf_other t e (u ∷ us) same = let k : u ≡ t = some_token u t same in ap (λ o. taken o (u ∷ us) us) (ap get k ∙ e)
    where
      some_token : (u t : Token) → Some u ≡ Some t → u ≡ t
      some_token u t e = cc

  leaf_says : (t : Token) (ts : List Token) (o : Option A) → get t ≡ o → LeafSays (t ∷ ts) (taken o (t ∷ ts) ts)
  unfolding leaf room
  leaf_says t ts None e = leaf_missed (t ∷ ts) (λ other same. leaf_other t e other same)
  leaf_says t ts (Some a) e = record {
    parts = ap (λ u. u ∷ ts) (h.puts t a e).0;
    fits = (h.puts t a e).1;
    ends = tt;
    depth = ap (λ k. and_then (turn k d) (λ m. Some m)) (h.plain a);
    keeps = λ other same. ap (λ o. taken o (put a ∷ other) other) (h.gets a (h.puts t a e).1);
  }

  leaf_nil : (other : List Token) → lookahead other ≡ lookahead [] → leaf get other ≡ Err (NotHere (length other))
  unfolding leaf
  leaf_nil [] same = refl
  leaf_nil (u ∷ us) same = absurd (some_none u same)
    where
      some_none : (u : Token) → Some u ≡ lookahead [] → ⊥
      some_none u e = cc

  leaf_all : (ts : List Token) → LeafSays ts (leaf get ts)
  unfolding leaf
  leaf_all [] = leaf_missed [] leaf_nil
  leaf_all (t ∷ ts) = leaf_says t ts (get t) refl

  pub leaf_is : IsReader d d Any (λ a. put a ∷ []) f (leaf get)
  unfolding leaf
  leaf_is = record {
    says = leaf_all;
    again = λ a rest fits ends. inl (ap (λ o. taken o (put a ∷ rest) rest) (h.gets a fits));
    example = some;
  }

-- ---- a word or a sign before a phrase

pub same_token : (t u : Token) → is_same t u ≡ true → u ≡ t
same_token (Reserved a) (Reserved b) e = ap (λ w. Reserved w) (is_bytes a b e)
same_token (Sign a) (Sign b) e = ap (λ w. Sign w) (is_bytes a b e)
same_token (Reserved a) (Sign b) e = absurd cc
same_token (Reserved a) (Named b) e = absurd cc
same_token (Reserved a) (Number b) e = absurd cc
same_token (Sign a) (Reserved b) e = absurd cc
same_token (Sign a) (Named b) e = absurd cc
same_token (Sign a) (Number b) e = absurd cc
same_token (Named a) u e = absurd cc
same_token (Number a) u e = absurd cc

module _ (t : Token) (same : is_same t t ≡ true) where
  expect_it : (us : List Token) → expect t (t ∷ us) ≡ Ok us
  unfolding expect
  expect_it us = rw same refl

  expect_other : (u : Token) → is_same t u ≡ false → (other : List Token) → lookahead other ≡ Some u → expect t other ≡ Err (NotHere (length other))
  unfolding expect
  expect_other u e [] h = absurd cc
  expect_other u e (v ∷ vs) h = let k : v ≡ u = cc in rw (k, e) refl

  expect_nil : (other : List Token) → lookahead other ≡ None → expect t other ≡ Err (NotHere (length other))
  unfolding expect
  expect_nil [] h = refl
  expect_nil (v ∷ vs) h = absurd cc

module _ {A : Type 0} (d m e : ℕ) (z : List Token → Type 0) (t : Token) (same : is_same t t ≡ true) (turns : turn (side t) d ≡ Some m) (s : A → List Token) (f : A → Type 0) (r : Reader A) where
  abbrev AfterSays : List Token → Answer A → Type 0
  AfterSays ts x = Says d e z (λ a. t ∷ s a) f (after t r) ts x

  after_depth : (w : List Token) → room d (t ∷ w) ≡ room m w
  unfolding room
  after_depth w = ap (λ o. and_then o (λ m. room m w)) turns

  after_then : (us : List Token) (x : Answer A) → Says m e z s f r us x → AfterSays (t ∷ us) x
  unfolding after
  after_then us (Ok x) h = record {
    parts = ap (λ w. t ∷ w) h.parts;
    fits = h.fits;
    ends = h.ends;
    depth = after_depth (s x.0) ∙ h.depth;
    keeps = λ other e. rw (expect_it t same (s x.0 ++ other)) (h.keeps other e);
  }
  after_then us (Err (NotHere n)) h = record {
    before = t ∷ h.before;
    rest = h.rest;
    parts = ap (λ w. t ∷ w) h.parts;
    left = h.left;
    some = h.some;
    more = h.more;
    fits = h.fits;
    viable = ap (λ w. t ∷ w) h.viable;
    at = h.at;
    depth = after_depth h.before ∙ h.depth;
    keeps = λ other e. rw (expect_it t same (h.before ++ other)) (h.keeps other e);
  }
  after_then us (Err (Deep n)) h = record {
    before = t ∷ h.before;
    token = h.token;
    rest = h.rest;
    parts = ap (λ w. t ∷ w) h.parts;
    left = h.left;
    some = h.some;
    more = h.more;
    fits = h.fits;
    viable = ap (λ w. t ∷ w) h.viable;
    opens = h.opens;
    depth = after_depth h.before ∙ h.depth;
  }

  after_missed : (ts : List Token) → ((a : A) × f a) → ((other : List Token) → lookahead other ≡ lookahead ts → expect t other ≡ Err (NotHere (length other))) → AfterSays ts (Err (NotHere (length ts)))
  unfolding after room
  after_missed ts ex keeps = record { before = []; rest = ts; parts = refl; left = refl; some = ex.0; more = t ∷ s ex.0; fits = ex.1; viable = refl; at = d; depth = refl; keeps = λ other e. rw (keeps other e) refl }

  after_one : (u : Token) (us : List Token) → ((a : A) × f a) → Says m e z s f r us (r us) → (b : Bool) → is_same t u ≡ b → AfterSays (u ∷ us) (cond b (Ok us) (Err (NotHere (length (u ∷ us)))) >>= λ rest. r rest)
  after_one u us ex h true e = subst (λ v. AfterSays (v ∷ us) (r us)) (sym (same_token t u e)) (after_then us (r us) h)
  after_one u us ex h false e = after_missed (u ∷ us) ex (λ other k. expect_other t same u e other k)

  after_says : ((a : A) × f a) → ((us : List Token) → Says m e z s f r us (r us)) → (ts : List Token) → AfterSays ts (after t r ts)
  unfolding after expect
  after_says ex h [] = after_missed [] ex (λ other k. expect_nil t same other k)
  after_says ex h (u ∷ us) = after_one u us ex (h us) (is_same t u) refl

pub after_is : {A : Type 0} {m e : ℕ} {z : List Token → Type 0} {s : A → List Token} {f : A → Type 0} {r : Reader A} (d : ℕ) (t : Token) → is_same t t ≡ true → turn (side t) d ≡ Some m
    → IsReader m e z s f r → IsReader d e z (λ a. t ∷ s a) f (after t r)
unfolding after
after_is {m} {e} {z} {s} {f} {r} d t same turns p = record {
  says = after_says d m e z t same turns s f r p.example p.says;
  again = λ a rest fits ends. rw (expect_it t same (s a ++ rest)) (p.again a rest fits ends);
  example = p.example;
}

-- ---- a bracket that opens

module _ {A : Type 0} (e : ℕ) (z : List Token → Type 0) (t : Token) (same : is_same t t ≡ true) (opens : side t ≡ Opens) (s : A → List Token) (f : A → Type 0) (r : Reader A) (ex : (a : A) × f a) where
  abbrev SinkSays : List Token → Answer A → Type 0
  SinkSays ts x = Says 0 e z (λ a. t ∷ s a) f (opened t 0 r) ts x

  sink_missed : (ts : List Token) → ((other : List Token) → lookahead other ≡ lookahead ts → expect t other ≡ Err (NotHere (length other))) → SinkSays ts (Err (NotHere (length ts)))
  unfolding opened enter room
  sink_missed ts keeps = record { before = []; rest = ts; parts = refl; left = refl; some = ex.0; more = t ∷ s ex.0; fits = ex.1; viable = refl; at = 0; depth = refl; keeps = λ other e. rw (keeps other e) refl }

  sink_one : (u : Token) (us : List Token) (b : Bool) → is_same t u ≡ b → SinkSays (u ∷ us) (cond b (Ok us) (Err (NotHere (length (u ∷ us)))) >>= (λ rest. Err (Deep (length (u ∷ us)))) >>= λ rest. r rest)
  unfolding room
  sink_one u us true e = let k = same_token t u e in record {
    before = [];
    token = t;
    rest = us;
    parts = ap (λ v. v ∷ us) k;
    left = refl;
    some = ex.0;
    more = s ex.0;
    fits = ex.1;
    viable = refl;
    opens = opens;
    depth = refl;
  }
  sink_one u us false e = sink_missed (u ∷ us) (λ other k. expect_other t same u e other k)

  sink_says : (ts : List Token) → SinkSays ts (opened t 0 r ts)
  unfolding opened enter expect
  sink_says [] = sink_missed [] (λ other k. expect_nil t same other k)
  sink_says (u ∷ us) = sink_one u us (is_same t u) refl

  sink_is : IsReader 0 e z (λ a. t ∷ s a) f (opened t 0 r)
  unfolding opened enter
  sink_is = record {
    says = sink_says;
    again = λ a rest fits ends. inr (length (t ∷ (s a ++ rest)), rw (expect_it t same (s a ++ rest)) refl);
    example = ex;
  }

not_zero : (c : ℕ) → (suc c == 0) ≡ false
not_zero c = grind arith

entered : (c : ℕ) (ts : List Token) (o : Result (List Token) Stop) → o ≡ (o >>= λ rest. cond (suc c == 0) (Err (Deep (length ts))) (Ok rest))
entered c ts (Ok x) = rw (not_zero c) refl
entered c ts (Err e) = refl

opened_after : {A : Type 0} (c : ℕ) (t : Token) (r : Reader A) → after t r ≡ opened t (suc c) r
unfolding opened after enter
opened_after c t r = λ i ts. entered c ts (expect t ts) i >>= λ rest. r rest

pub opened_is : {A : Type 0} {e : ℕ} {z : List Token → Type 0} {s : A → List Token} {f : A → Type 0} {r : Reader A} (d : ℕ) (t : Token) → is_same t t ≡ true → side t ≡ Opens → ((a : A) × f a)
    → ((c : ℕ) → d ≡ suc c → IsReader c e z s f r) → IsReader d e z (λ a. t ∷ s a) f (opened t d r)
opened_is {e} {z} {s} {f} {r} zero t same opens ex p = sink_is e z t same opens s f r ex
opened_is {e} {z} {s} {f} {r} (suc c) t same opens ex p = subst (λ k. IsReader (suc c) e z (λ a. t ∷ s a) f k) (opened_after c t r) (after_is (suc c) t same (ap (λ k. turn k (suc c)) opens) (p c refl))

-- ---- nothing, and the end

pub done_is : (d : ℕ) → IsReader d d Any (λ (a : Unit {0}). []) (λ _. Unit {0}) done
unfolding done room
done_is d = record {
  says = λ ts. record { parts = refl; fits = tt; ends = tt; depth = refl; keeps = λ other same. refl };
  again = λ a rest fits ends. inl refl;
  example = (tt, tt);
}

abbrev end_at : Reader (Unit {0})
end_at ts = Ok (tt, ts)

ended_nil : (other : List Token) → lookahead other ≡ None → ended other ≡ end_at other
unfolding ended
ended_nil [] e = refl
ended_nil (t ∷ ts) e = absurd cc

ended_more : (t : Token) (other : List Token) → lookahead other ≡ Some t → ended other ≡ Err (NotHere (length other))
unfolding ended
ended_more t [] e = absurd cc
ended_more t (u ∷ us) e = refl

ended_says : (d : ℕ) (ts : List Token) → Says d d AtEnd (λ (a : Unit {0}). []) (λ _. Unit {0}) ended ts (ended ts)
unfolding ended room
ended_says d [] = record { parts = refl; fits = tt; ends = refl; depth = refl; keeps = ended_nil }
ended_says d (t ∷ ts) = record { before = []; rest = t ∷ ts; parts = refl; left = refl; some = tt; more = []; fits = tt; viable = refl; at = d; depth = refl; keeps = ended_more t }

pub ended_is : (d : ℕ) → IsReader d d AtEnd (λ (a : Unit {0}). []) (λ _. Unit {0}) ended
unfolding ended
ended_is d = record {
  says = ended_says d;
  again = λ a rest fits ends. inl (ap ended ends ∙ ap end_at (sym ends));
  example = (tt, tt);
}

-- ---- a word or a sign behind a phrase

pub then_is : {A : Type 0} {d m : ℕ} {s : A → List Token} {f : A → Type 0} {r : Reader A} (e : ℕ) (t : Token) → is_same t t ≡ true → turn (side t) m ≡ Some e
    → IsReader d m Any s f r → IsReader d e Any (λ a. s a ++ t ∷ []) f (then_token t r)
unfolding then_token
then_is {A} {s} {f} e t same turns p = mapped_is (λ (v : A × Unit {0}). v.0) (λ a. s a ++ t ∷ []) f (λ v h. refl) (λ v h. h.0) (λ a h. ((a, tt), refl, (h, tt))) (both_is p (λ _. after_is _ t same turns (done_is e)))
