-- Readers made of others: one behind the other, with another value, by a choice.
use Rattle.std.proofs.Common.{◌≡◌, ℕ, Bool, true, false, cond, List, [], ◌∷◌, ◌++◌, Option, Some, None, Ok, Err, refl, sym, ap, subst, ◌∙◌, append_assoc, inl, inr, ◌⊎◌}
use Rattle.civl_tree.specs.Token.{Token}
use Rattle.civl_phrases.specs.declared.halt.Stop.TheVariants.{NotHere, Deep}
use Rattle.civl_phrases.specs.Bracket.{room}
use Rattle.civl_phrases.specs.Reader.{lookahead, Answer, Reader, ◌>>=◌, after, both, mapped, chosen, read_as, by_form}
use Rattle.civl_phrases.specs.Phrase.{Any, Took, Says, Again, IsReader, Heads, Image}
use Rattle.civl_phrases.proofs.Nesting.{lookahead_join, room_then}

-- ---- one phrase after another

module _ {A B : Type 0} (d m e : ℕ) (z : List Token → Type 0) (s1 : A → List Token) (f1 : A → Type 0) (r1 : Reader A) (s2 : A → B → List Token) (f2 : A → B → Type 0) (r2 : A → Reader B) (ts : List Token) where
  abbrev SaysBoth : Answer (A × B) → Type 0
  SaysBoth x = Says d e z (λ (p : A × B). s1 p.0 ++ s2 p.0 p.1) (λ p. f1 p.0 × f2 p.0 p.1) (both r1 r2) ts x

  keep : (a : A) (after b r other : List Token) → Took d m Any s1 f1 r1 ts a after → after ≡ b ++ r → lookahead other ≡ lookahead r → r1 ((s1 a ++ b) ++ other) ≡ Ok (a, b ++ other)
  keep a after b r other h parts same = ap r1 (append_assoc (s1 a) b other) ∙ h.keeps (b ++ other) (lookahead_join b r other same ∙ ap lookahead (sym parts))

  rejoin : (a : A) (after b r : List Token) → Took d m Any s1 f1 r1 ts a after → after ≡ b ++ r → ts ≡ (s1 a ++ b) ++ r
  rejoin a after b r h parts = h.parts ∙ ap (λ w. s1 a ++ w) parts ∙ sym (append_assoc (s1 a) b r)

  both_second : (a : A) (after : List Token) (x2 : Answer B) → Took d m Any s1 f1 r1 ts a after → Says m e z (s2 a) (f2 a) (r2 a) after x2 → SaysBoth (x2 >>= λ y. Ok ((a, y.0), y.1))
  unfolding both
  both_second a after (Ok y) h1 h = record {
    parts = rejoin a after _ _ h1 h.parts;
    fits = (h1.fits, h.fits);
    ends = h.ends;
    depth = room_then d m (s1 a) (s2 a y.0) h1.depth ∙ h.depth;
    keeps = λ other same. rw (keep a after _ _ other h1 h.parts same, h.keeps other same) refl;
  }
  both_second a after (Err (NotHere n)) h1 h = record {
    before = s1 a ++ h.before;
    rest = h.rest;
    parts = rejoin a after _ _ h1 h.parts;
    left = h.left;
    some = (a, h.some);
    more = h.more;
    fits = (h1.fits, h.fits);
    viable = ap (λ w. s1 a ++ w) h.viable ∙ sym (append_assoc (s1 a) h.before h.more);
    at = h.at;
    depth = room_then d m (s1 a) h.before h1.depth ∙ h.depth;
    keeps = λ other same. rw (keep a after _ _ other h1 h.parts same, h.keeps other same) refl;
  }
  both_second a after (Err (Deep n)) h1 h = record {
    before = s1 a ++ h.before;
    token = h.token;
    rest = h.rest;
    parts = rejoin a after _ _ h1 h.parts;
    left = h.left;
    some = (a, h.some);
    more = h.more;
    fits = (h1.fits, h.fits);
    viable = ap (λ w. s1 a ++ w) h.viable ∙ sym (append_assoc (s1 a) h.before (h.token ∷ h.more));
    opens = h.opens;
    depth = room_then d m (s1 a) h.before h1.depth ∙ h.depth;
  }

  pub both_says : ((a : A) → f1 a → (b : B) × f2 a b) → (x1 : Answer A) → Says d m Any s1 f1 r1 ts x1
      → ((a : A) (rest : List Token) → x1 ≡ Ok (a, rest) → Says m e z (s2 a) (f2 a) (r2 a) rest (r2 a rest))
      → SaysBoth (x1 >>= λ x. r2 x.0 x.1 >>= λ y. Ok ((x.0, y.0), y.1))
  unfolding both
  both_says ex (Err (NotHere n)) h1 h2 = record {
    before = h1.before;
    rest = h1.rest;
    parts = h1.parts;
    left = h1.left;
    some = (h1.some, (ex h1.some h1.fits).0);
    more = h1.more ++ s2 h1.some (ex h1.some h1.fits).0;
    fits = (h1.fits, (ex h1.some h1.fits).1);
    viable = ap (λ w. w ++ s2 h1.some (ex h1.some h1.fits).0) h1.viable ∙ append_assoc h1.before h1.more (s2 h1.some (ex h1.some h1.fits).0);
    at = h1.at;
    depth = h1.depth;
    keeps = λ other same. rw (h1.keeps other same) refl;
  }
  both_says ex (Err (Deep n)) h1 h2 = record {
    before = h1.before;
    token = h1.token;
    rest = h1.rest;
    parts = h1.parts;
    left = h1.left;
    some = (h1.some, (ex h1.some h1.fits).0);
    more = h1.more ++ s2 h1.some (ex h1.some h1.fits).0;
    fits = (h1.fits, (ex h1.some h1.fits).1);
    viable = ap (λ w. w ++ s2 h1.some (ex h1.some h1.fits).0) h1.viable ∙ append_assoc h1.before (h1.token ∷ h1.more) (s2 h1.some (ex h1.some h1.fits).0);
    opens = h1.opens;
    depth = h1.depth;
  }
  both_says ex (Ok x) h1 h2 = both_second x.0 x.1 (r2 x.0 x.1) h1 (h2 x.0 x.1 refl)

module _ {A B : Type 0} (s1 : A → List Token) (r1 : Reader A) (s2 : A → B → List Token) (r2 : A → Reader B) (a : A) (b : B) (rest : List Token) where
  pub both_again : Again r1 (s1 a ++ (s2 a b ++ rest)) a (s2 a b ++ rest) → Again (r2 a) (s2 a b ++ rest) b rest → Again (both r1 r2) ((s1 a ++ s2 a b) ++ rest) (a, b) rest
  unfolding both
  both_again (inl e1) (inl e2) = inl (rw (append_assoc (s1 a) (s2 a b) rest, e1, e2) refl)
  both_again (inl e1) (inr e2) = inr (e2.0, rw (append_assoc (s1 a) (s2 a b) rest, e1, e2.1) refl)
  both_again (inr e1) h = inr (e1.0, rw (append_assoc (s1 a) (s2 a b) rest, e1.1) refl)

pub both_is : {A B : Type 0} {d m e : ℕ} {z : List Token → Type 0} {s1 : A → List Token} {f1 : A → Type 0} {r1 : Reader A} {s2 : A → B → List Token} {f2 : A → B → Type 0} {r2 : A → Reader B}
    → IsReader d m Any s1 f1 r1 → ((a : A) → IsReader m e z (s2 a) (f2 a) (r2 a))
    → IsReader d e z (λ (p : A × B). s1 p.0 ++ s2 p.0 p.1) (λ p. f1 p.0 × f2 p.0 p.1) (both r1 r2)
unfolding both
both_is {d} {m} {e} {z} {s1} {f1} {r1} {s2} {f2} {r2} p q = record {
  says = λ ts. both_says d m e z s1 f1 r1 s2 f2 r2 ts (λ a h. (q a).example) (r1 ts) (p.says ts) (λ a rest h. (q a).says rest);
  again = λ x rest fits ends. both_again s1 r1 s2 r2 x.0 x.1 rest (p.again x.0 _ fits.0 tt) ((q x.0).again x.1 rest fits.1 ends);
  example = ((p.example.0, (q p.example.0).example.0), (p.example.1, (q p.example.0).example.1));
}

-- ---- a value made of another

module _ {A B : Type 0} (d e : ℕ) (z : List Token → Type 0) (s : A → List Token) (f : A → Type 0) (r : Reader A) (g : A → B) (s' : B → List Token) (f' : B → Type 0)
    (spells : (a : A) → f a → s' (g a) ≡ s a) (there : (a : A) → f a → f' (g a)) (ts : List Token) where
  pub mapped_says : (x : Answer A) → Says d e z s f r ts x → Says d e z s' f' (mapped g r) ts (x >>= λ x. Ok (g x.0, x.1))
  unfolding mapped
  mapped_says (Err (NotHere n)) h = record {
    before = h.before;
    rest = h.rest;
    parts = h.parts;
    left = h.left;
    some = g h.some;
    more = h.more;
    fits = there h.some h.fits;
    viable = spells h.some h.fits ∙ h.viable;
    at = h.at;
    depth = h.depth;
    keeps = λ other same. rw (h.keeps other same) refl;
  }
  mapped_says (Err (Deep n)) h = record {
    before = h.before;
    token = h.token;
    rest = h.rest;
    parts = h.parts;
    left = h.left;
    some = g h.some;
    more = h.more;
    fits = there h.some h.fits;
    viable = spells h.some h.fits ∙ h.viable;
    opens = h.opens;
    depth = h.depth;
  }
  mapped_says (Ok x) h = record {
    parts = h.parts ∙ ap (λ w. w ++ x.1) (sym (spells x.0 h.fits));
    fits = there x.0 h.fits;
    ends = h.ends;
    depth = ap (room d) (spells x.0 h.fits) ∙ h.depth;
    keeps = λ other same. ap (mapped g r) (ap (λ w. w ++ other) (spells x.0 h.fits)) ∙ rw (h.keeps other same) refl;
  }

module _ {A B : Type 0} (r : Reader A) (g : A → B) (ts : List Token) (a : A) (rest : List Token) where
  pub mapped_again : Again r ts a rest → Again (mapped g r) ts (g a) rest
  unfolding mapped
  mapped_again (inl e) = inl (rw e refl)
  mapped_again (inr e) = inr (e.0, rw e.1 refl)

pub mapped_is : {A B : Type 0} {d e : ℕ} {z : List Token → Type 0} {s : A → List Token} {f : A → Type 0} {r : Reader A} (g : A → B) (s' : B → List Token) (f' : B → Type 0)
    → ((a : A) → f a → s' (g a) ≡ s a) → ((a : A) → f a → f' (g a)) → ((b : B) → f' b → (a : A) × (g a ≡ b) × f a)
    → IsReader d e z s f r → IsReader d e z s' f' (mapped g r)
unfolding mapped
mapped_is {d} {e} {z} {s} {f} {r} g s' f' spells there back p = record {
  says = λ ts. mapped_says d e z s f r g s' f' spells there ts (r ts) (p.says ts);
  again = λ b rest fits ends. let h = back b fits in
      subst (λ b. Again (mapped g r) (s' b ++ rest) b rest) h.1
      (subst (λ w. Again (mapped g r) (w ++ rest) (g h.0) rest) (sym (spells h.0 h.2)) (mapped_again r g (s h.0 ++ rest) h.0 rest (p.again h.0 rest h.2 ends)));
  example = (g p.example.0, there p.example.0 p.example.1);
}

pub image_is : {A B : Type 0} {d e : ℕ} {z : List Token → Type 0} {s : A → List Token} {f : A → Type 0} {r : Reader A} (g : A → B) (s' : B → List Token)
    → ((a : A) → s' (g a) ≡ s a) → IsReader d e z s f r → IsReader d e z s' (Image g f) (mapped g r)
image_is {f} g s' spells p = mapped_is g s' (Image g f) (λ a _. spells a) (λ a h. (a, refl, h)) (λ b h. h) p

-- ---- the values told otherwise

module _ {A : Type 0} (d e : ℕ) (z : List Token → Type 0) (s : A → List Token) (f f' : A → Type 0) (there : (a : A) → f a → f' a) (r : Reader A) (ts : List Token) where
  pub weaker_says : (x : Answer A) → Says d e z s f r ts x → Says d e z s f' r ts x
  weaker_says (Err (NotHere n)) h = record { before = h.before; rest = h.rest; parts = h.parts; left = h.left; some = h.some; more = h.more; fits = there h.some h.fits; viable = h.viable; at = h.at; depth = h.depth; keeps = h.keeps }
  weaker_says (Err (Deep n)) h = record { before = h.before; token = h.token; rest = h.rest; parts = h.parts; left = h.left; some = h.some; more = h.more; fits = there h.some h.fits; viable = h.viable; opens = h.opens; depth = h.depth }
  weaker_says (Ok x) h = record { parts = h.parts; fits = there x.0 h.fits; ends = h.ends; depth = h.depth; keeps = h.keeps }

pub refit_is : {A : Type 0} {d e : ℕ} {z : List Token → Type 0} {s : A → List Token} {f : A → Type 0} {r : Reader A} (f' : A → Type 0)
    → ((a : A) → f a → f' a) → ((a : A) → f' a → f a) → IsReader d e z s f r → IsReader d e z s f' r
refit_is {d} {e} {z} {s} {f} {r} f' there back p = record {
  says = λ ts. weaker_says d e z s f f' there r ts (r ts) (p.says ts);
  again = λ a rest fits ends. p.again a rest (back a fits) ends;
  example = (p.example.0, there p.example.0 p.example.1);
}

-- ---- a choice by the next token

module _ {A : Type 0} (d e : ℕ) (z : List Token → Type 0) (s : A → List Token) (f : A → Type 0) (r r' : Reader A) (ts : List Token) (agree : (other : List Token) → lookahead other ≡ lookahead ts → r' other ≡ r other) where
  -- a reader that does as r where the next token is this one
  pub agree_says : (x : Answer A) → Says d e z s f r ts x → Says d e z s f r' ts x
  agree_says (Err (NotHere n)) h = record {
    before = h.before;
    rest = h.rest;
    parts = h.parts;
    left = h.left;
    some = h.some;
    more = h.more;
    fits = h.fits;
    viable = h.viable;
    at = h.at;
    depth = h.depth;
    keeps = λ other same. agree (h.before ++ other) (lookahead_join h.before h.rest other same ∙ ap lookahead (sym h.parts)) ∙ h.keeps other same;
  }
  agree_says (Err (Deep n)) h = record { before = h.before; token = h.token; rest = h.rest; parts = h.parts; left = h.left; some = h.some; more = h.more; fits = h.fits; viable = h.viable; opens = h.opens; depth = h.depth }
  agree_says (Ok x) h = record {
    parts = h.parts;
    fits = h.fits;
    ends = h.ends;
    depth = h.depth;
    keeps = λ other same. agree (s x.0 ++ other) (lookahead_join (s x.0) x.1 other same ∙ ap lookahead (sym h.parts)) ∙ h.keeps other same;
  }

module _ {A : Type 0} (d e : ℕ) (z : List Token → Type 0) (s : A → List Token) (f1 f2 : A → Type 0) (test : Option Token → Bool) (r1 r2 : Reader A) (ts : List Token) where
  pub chosen_says : (b : Bool) → test (lookahead ts) ≡ b → (b ≡ true → Says d e z s f1 r1 ts (r1 ts)) → (b ≡ false → Says d e z s f2 r2 ts (r2 ts)) → Says d e z s (λ a. f1 a ⊎ f2 a) (chosen test r1 r2) ts (cond b (r1 ts) (r2 ts))
  unfolding chosen
  chosen_says true b h1 h2 = agree_says d e z s _ r1 (chosen test r1 r2) ts (λ other same. rw (same, b) refl) (r1 ts) (weaker_says d e z s f1 (λ a. f1 a ⊎ f2 a) (λ a h. inl h) r1 ts (r1 ts) (h1 refl))
  chosen_says false b h1 h2 = agree_says d e z s _ r2 (chosen test r1 r2) ts (λ other same. rw (same, b) refl) (r2 ts) (weaker_says d e z s f2 (λ a. f1 a ⊎ f2 a) (λ a h. inr h) r2 ts (r2 ts) (h2 refl))

module _ {A : Type 0} (test : Option Token → Bool) (r1 r2 : Reader A) (ts : List Token) (a : A) (rest : List Token) where
  pub chosen_true : test (lookahead ts) ≡ true → Again r1 ts a rest → Again (chosen test r1 r2) ts a rest
  unfolding chosen
  chosen_true b h = rw b h

  pub chosen_false : test (lookahead ts) ≡ false → Again r2 ts a rest → Again (chosen test r1 r2) ts a rest
  unfolding chosen
  chosen_false b h = rw b h

pub chosen_is : {A : Type 0} {d e : ℕ} {z : List Token → Type 0} {s : A → List Token} {f1 f2 : A → Type 0} {r1 r2 : Reader A} (test : Option Token → Bool)
    → Heads z s f1 test true → Heads z s f2 test false → IsReader d e z s f1 r1 → IsReader d e z s f2 r2 → IsReader d e z s (λ a. f1 a ⊎ f2 a) (chosen test r1 r2)
unfolding chosen
chosen_is {d} {e} {z} {s} {f1} {f2} {r1} {r2} test on off p q = record {
  says = λ ts. chosen_says d e z s f1 f2 test r1 r2 ts (test (lookahead ts)) refl (λ _. p.says ts) (λ _. q.says ts);
  again = λ a rest fits ends. elim fits [ inl h ↦ chosen_true test r1 r2 (s a ++ rest) a rest (on.next a rest h ends) (p.again a rest h ends) | inr h ↦ chosen_false test r1 r2 (s a ++ rest) a rest (off.next a rest h ends) (q.again a rest h ends) ];
  example = (p.example.0, inl p.example.1);
}

module _ {A K : Type 0} (d e : ℕ) (z : List Token → Type 0) (s : A → List Token) (f : K → A → Type 0) (form : Option Token → Option K) (r : K → Reader A) (example : (a : A) × ((k : K) × f k a)) (ts : List Token) where
  form_at : (o : Option K) → form (lookahead ts) ≡ o → (other : List Token) → lookahead other ≡ lookahead ts → by_form form r other ≡ read_as r o other
  unfolding by_form
  form_at o b other same = ap (λ n. read_as r (form n) other) same ∙ ap (λ o. read_as r o other) b

  form_says : (o : Option K) → form (lookahead ts) ≡ o → ((k : K) → form (lookahead ts) ≡ Some k → Says d e z s (f k) (r k) ts (r k ts)) → Says d e z s (λ a. (k : K) × f k a) (by_form form r) ts (read_as r o ts)
  unfolding by_form room
  form_says None b h = record {
    before = [];
    rest = ts;
    parts = refl;
    left = refl;
    some = example.0;
    more = s example.0;
    fits = example.1;
    viable = refl;
    at = d;
    depth = refl;
    keeps = λ other same. form_at None b other same;
  }
  form_says (Some k) b h = agree_says d e z s (λ a. (k : K) × f k a) (r k) (by_form form r) ts (λ other same. form_at (Some k) b other same) (r k ts) (weaker_says d e z s (f k) (λ a. (k : K) × f k a) (λ a h. (k, h)) (r k) ts (r k ts) (h k b))

pub by_form_is : {A K : Type 0} {d e : ℕ} {z : List Token → Type 0} {s : A → List Token} {f : K → A → Type 0} {r : K → Reader A} (form : Option Token → Option K) (o0 : Option Token) (k0 : K) → form o0 ≡ Some k0
    → ((k : K) → Heads z s (f k) form (Some k)) → ((k : K) (o : Option Token) → form o ≡ Some k → IsReader d e z s (f k) (r k)) → IsReader d e z s (λ a. (k : K) × f k a) (by_form form r)
unfolding by_form
by_form_is {d} {e} {z} {s} {f} {r} form o0 k0 e0 heads p = let ex = (p k0 o0 e0).example in record {
  says = λ ts. form_says d e z s f form r (ex.0, (k0, ex.1)) ts (form (lookahead ts)) refl (λ k h. (p k (lookahead ts) h).says ts);
  again = λ a rest fits ends. let h = (heads fits.0).next a rest fits.1 ends in subst (λ o. Again (read_as r o) (s a ++ rest) a rest) (sym h) ((p fits.0 (lookahead (s a ++ rest)) h).again a rest fits.1 ends);
  example = (ex.0, (k0, ex.1));
}
