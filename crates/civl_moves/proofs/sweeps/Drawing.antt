-- What a sweep draws, where the path is here, and where it isn't.
use Rattle.std.proofs.Common.{◌≡◌, ◌∙◌, ℕ, Bool, true, false, ◌&&◌, ◌||◌, List, [], ◌∷◌, ◌++◌, refl, sym, ap, subst, append-nil, append_assoc}
use Rattle.std.specs.Prelude.{nat_eq, ⊤, if◌then◌else◌}
use Rattle.std.proofs.lemmas.Bool.{true≢false, false≢true, or_left}
use Rattle.civl_conditions.specs.paths.Paths.{Progress, Outcome, Past, Comes, Fails, Stops, after}
use Rattle.civl_moves.specs.sweeps.Sweeps.{Stop, Swept, standing, where_onward}
use Rattle.civl_moves.specs.sweeps.Draws.{is_past, AreStops, takes, Draws}

-- no stop is taken
abbrev pub NoneTaken : List Stop → Type 0
NoneTaken [] = ⊤
NoneTaken (s ∷ ss) = (s.taken ≡ false) × NoneTaken ss

-- the path is here, and ended nowhere
pub record Here (d : Swept) : Type 0 where
  pub onward : d.onward ≡ true
  pub live : d.live ≡ true
  pub whole : d.broken ≡ false
  pub free : NoneTaken d.stops

-- the path isn't here, and what was collected is as before
pub record Idle (d e : Swept) : Type 0 where
  pub live : e.live ≡ false
  pub broken : e.broken ≡ d.broken
  pub again : e.again ≡ d.again
  pub more : List Stop
  pub stops : e.stops ≡ d.stops ++ more
  pub free : NoneTaken more

-- where the path is here, the sweep draws what the path then comes to; where it isn't, the sweep is idle
pub record Follows (f : Progress → Outcome) (g : Swept → Swept) : Type 0 where
  pub on : (d : Swept) → Here d → Draws (f (standing d)) (g d)
  pub idle : (d : Swept) → d.live ≡ false → Idle d (g d)

-- ---- stops

pub none_append : (xs ys : List Stop) → NoneTaken xs → NoneTaken ys → NoneTaken (xs ++ ys)
none_append [] ys h k = k
none_append (x ∷ xs) ys h k = (h.0, none_append xs ys h.1 k)

pub none_are : (o : Outcome) (ss : List Stop) → NoneTaken ss → AreStops o ss
none_are o [] h = tt
none_are o (s ∷ ss) h = (record { before = λ t. absurd (true≢false (sym t ∙ h.0)); there = λ t. absurd (true≢false (sym t ∙ h.0)) }, none_are o ss h.1)

pub stops_append : (o : Outcome) (xs ys : List Stop) → AreStops o xs → AreStops o ys → AreStops o (xs ++ ys)
stops_append o [] ys h k = k
stops_append o (x ∷ xs) ys h k = (h.0, stops_append o xs ys h.1 k)

pub takes_first : (n : ℕ) (xs ys : List Stop) → takes n xs ≡ true → takes n (xs ++ ys) ≡ true
takes_first n [] ys h = absurd (false≢true h)
takes_first n (x ∷ xs) ys h = by_cases (nat_eq n x.number && x.taken) refl (takes_first n xs ys) h
  where
    by_cases : (b : Bool) → (nat_eq n x.number && x.taken) ≡ b → (takes n xs ≡ true → takes n (xs ++ ys) ≡ true) → (b || takes n xs) ≡ true → ((nat_eq n x.number && x.taken) || takes n (xs ++ ys)) ≡ true
    by_cases true e f k = or_left (nat_eq n x.number && x.taken) (takes n (xs ++ ys)) e
    by_cases false e f k = ap (λ (b : Bool). b || takes n (xs ++ ys)) e ∙ f k

-- a path that is past has ended nowhere
past_none : (p : Progress) (ss : List Stop) → AreStops (Past p) ss → NoneTaken ss
past_none p [] h = tt
past_none p (s ∷ ss) h = (by_cases s.taken refl, past_none p ss h.1)
  where
    by_cases : (b : Bool) → s.taken ≡ b → s.taken ≡ false
    by_cases true e = absurd (false≢true (h.0.before e))
    by_cases false e = e

-- ---- where the path isn't here

pub still_idle : (d e : Swept) → e.live ≡ false → e.broken ≡ d.broken → e.again ≡ d.again → e.stops ≡ d.stops → Idle d e
still_idle d e l b a s = record { live = l; broken = b; again = a; more = []; stops = s ∙ sym (append-nil d.stops); free = tt }

pub idle_trans : (d e f : Swept) → Idle d e → Idle e f → Idle d f
idle_trans d e f i j = record {
  live = j.live;
  broken = j.broken ∙ i.broken;
  again = j.again ∙ i.again;
  more = i.more ++ j.more;
  stops = j.stops ∙ ap (λ (ss : List Stop). ss ++ j.more) i.stops ∙ append_assoc d.stops i.more j.more;
  free = none_append i.more j.more i.free j.free;
}

pub idle_draws : (o : Outcome) (d e : Swept) → is_past o ≡ false → Draws o d → Idle d e → Draws o e
idle_draws o d e n h i = record {
  live = i.live ∙ sym n;
  here = λ l. absurd (true≢false (sym l ∙ i.live));
  onward = λ b. i.live;
  broken = i.broken ∙ h.broken;
  again = i.again ∙ h.again;
  stops = subst (AreStops o) (sym i.stops) (stops_append o d.stops i.more h.stops (none_are o i.more i.free));
  all = λ m b. ap (takes m) i.stops ∙ takes_first m d.stops i.more (h.all m b);
}

-- ---- where it is here

pub past_draws : (e : Swept) → Here e → Draws (Past (standing e)) e
past_draws e h = record {
  live = h.live;
  here = λ l. refl;
  onward = λ b. absurd (true≢false (sym h.onward ∙ b));
  broken = h.whole;
  again = refl;
  stops = none_are (Past (standing e)) e.stops h.free;
  all = λ m b. absurd (false≢true b);
}

pub fails_draws : (p : Progress) (e : Swept) → e.live ≡ false → e.broken ≡ true → e.again ≡ p.again → NoneTaken e.stops → Draws (Fails p) e
fails_draws p e l b a f = record {
  live = l;
  here = λ t. absurd (true≢false (sym t ∙ l));
  onward = λ o. l;
  broken = b;
  again = a;
  stops = none_are (Fails p) e.stops f;
  all = λ m t. absurd (false≢true t);
}

pub stops_draws : (p : Progress) (e : Swept) → e.live ≡ false → e.broken ≡ false → e.again ≡ p.again → NoneTaken e.stops → Draws (Stops p) e
stops_draws p e l b a f = record {
  live = l;
  here = λ t. absurd (true≢false (sym t ∙ l));
  onward = λ o. l;
  broken = b;
  again = a;
  stops = none_are (Stops p) e.stops f;
  all = λ m t. absurd (false≢true t);
}

onward_here : (d : Swept) → (d.onward ≡ false → d.live ≡ false) → d.live ≡ true → d.onward ≡ true
onward_here d h l = by_cases d.onward refl
  where
    by_cases : (b : Bool) → d.onward ≡ b → d.onward ≡ true
    by_cases true e = e
    by_cases false e = absurd (true≢false (sym l ∙ h e))

pub is_here : (p : Progress) (d : Swept) → Draws (Past p) d → Here d
is_here p d h = record { onward = onward_here d h.onward h.live; live = h.live; whole = h.broken; free = past_none p d.stops h.stops }

-- ---- one behind the other

-- from wherever the path is
pub follow : (f : Progress → Outcome) (g : Swept → Swept) → Follows f g → (o : Outcome) (d : Swept) → Draws o d → Draws (after o f) (g d)
follow f g s (Past p) d h = subst (λ (q : Progress). Draws (f q) (g d)) (sym (h.here h.live)) (s.on d (is_here p d h))
follow f g s (Comes n p) d h = idle_draws (Comes n p) d (g d) refl h (s.idle d h.live)
follow f g s (Fails p) d h = idle_draws (Fails p) d (g d) refl h (s.idle d h.live)
follow f g s (Stops p) d h = idle_draws (Stops p) d (g d) refl h (s.idle d h.live)

pub follow_onward : (f : Progress → Outcome) (g : Swept → Swept) → Follows f g → Follows f (where_onward g)
follow_onward f g s = record {
  on = λ d h. subst (λ (b : Bool). Draws (f (standing d)) (if b then g d else d)) (sym h.onward) (s.on d h);
  idle = λ d l. by_cases d l d.onward;
}
  where
    by_cases : (d : Swept) → d.live ≡ false → (b : Bool) → Idle d (if b then g d else d)
    by_cases d l true = s.idle d l
    by_cases d l false = still_idle d d l refl refl refl

pub follow_then : (f k : Progress → Outcome) (g h : Swept → Swept) → Follows f g → Follows k h → Follows (λ p. after (f p) k) (λ d. h (g d))
follow_then f k g h s t = record {
  on = λ d e. follow k h t (f (standing d)) (g d) (s.on d e);
  idle = λ d l. (let i = s.idle d l in idle_trans d (g d) (h (g d)) i (t.idle (g d) i.live));
}

pub follow_none : Follows Past (λ d. d)
follow_none = record { on = past_draws; idle = λ d l. still_idle d d l refl refl refl }

-- the same path, said otherwise
pub follow_as : (f k : Progress → Outcome) (g h : Swept → Swept) → ((p : Progress) → f p ≡ k p) → ((d : Swept) → g d ≡ h d) → Follows f g → Follows k h
follow_as f k g h e r s = record {
  on = λ d i. subst (λ (o : Outcome). Draws o (h d)) (e (standing d)) (subst (Draws (f (standing d))) (r d) (s.on d i));
  idle = λ d l. subst (Idle d) (r d) (s.idle d l);
}
