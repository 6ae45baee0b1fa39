-- A sweep over two branches, or from the head of a loop, follows the path.
use Rattle.std.proofs.Common.{◌≡◌, ◌∙◌, Bool, true, false, ◌||◌, not, sym, ap, ap₂, subst}
use Rattle.std.specs.Prelude.{if◌then◌else◌}
use Rattle.std.proofs.lemmas.Bool.{or_parts, and_left}
use Rattle.std.proofs.Math.Bool.{and-true, and-false, or-false}
use Rattle.civl_conditions.specs.paths.Paths.{Progress, Outcome}
use Rattle.civl_moves.specs.sweeps.Sweeps.{Swept, standing, first_begins, second_begins, joined, by_both}
use Rattle.civl_moves.specs.sweeps.Draws.{is_past, AreStops, takes, Draws}
use Rattle.civl_moves.proofs.sweeps.Drawing.{NoneTaken, Here, Idle, Follows, idle_trans, idle_draws, none_append, none_are, stops_append, takes_first}

-- the first branch, where the test is true
first_here : (d : Swept) → Here d → Here (first_begins true d)
first_here d h = record { onward = h.onward; live = and-true d.live ∙ h.live; whole = h.whole; free = h.free }

-- the second, where it is false, behind a first one that was idle
second_here : (d a : Swept) → Here d → Idle d a → Here (second_begins false d a)
second_here d a h i = record {
  onward = h.onward;
  live = and-true d.live ∙ h.live;
  whole = i.broken ∙ h.whole;
  free = subst NoneTaken (sym i.stops) (none_append d.stops i.more h.free i.free);
}

first_idle : (t : Bool) (d a : Swept) → Idle (first_begins t d) a → Idle d a
first_idle t d a i = record { live = i.live; broken = i.broken; again = i.again; more = i.more; stops = i.stops; free = i.free }

second_idle : (t : Bool) (d a b : Swept) → Idle (second_begins t d a) b → Idle a b
second_idle t d a b i = record { live = i.live; broken = i.broken; again = i.again; more = i.more; stops = i.stops; free = i.free }

true_join : (o : Outcome) (a b : Swept) → Draws o a → Idle a b → Draws o (joined true a b)
true_join o a b h i = record {
  live = ap (λ (l : Bool). a.live || l) i.live ∙ or-false a.live ∙ h.live;
  here = λ l.
      h.here (sym (ap (λ (m : Bool). a.live || m) i.live ∙ or-false a.live) ∙ l)
      ∙ ap (λ (g : Bool). record { store = a.store; locals = a.locals; done = a.done; again = g }) (sym i.again);
  onward = λ e. ap (λ (l : Bool). a.live || l) i.live ∙ or-false a.live ∙ h.onward (or_parts a.onward b.onward e).0;
  broken = i.broken ∙ h.broken;
  again = i.again ∙ h.again;
  stops = subst (AreStops o) (sym i.stops) (stops_append o a.stops i.more h.stops (none_are o i.more i.free));
  all = λ m e. ap (takes m) i.stops ∙ takes_first m a.stops i.more (h.all m e);
}

false_join : (o : Outcome) (a b : Swept) → a.live ≡ false → Draws o b → Draws o (joined false a b)
false_join o a b e h = record {
  live = ap (λ (l : Bool). l || b.live) e ∙ h.live;
  here = λ l. h.here (sym (ap (λ (m : Bool). m || b.live) e) ∙ l);
  onward = λ f. ap (λ (l : Bool). l || b.live) e ∙ h.onward (or_parts a.onward b.onward f).1;
  broken = h.broken;
  again = h.again;
  stops = h.stops;
  all = h.all;
}

-- the second branch is as from the state before, but for what was collected
second_as : (g : Progress → Outcome) (d a b : Swept) → Idle d a → Draws (g (standing (second_begins false d a))) b → Draws (g (standing d)) b
second_as g d a b i h = subst (λ (x : Bool). Draws (g (record { store = d.store; locals = d.locals; done = d.done; again = x })) b) i.again h

module _ (f k : Progress → Outcome) (g h : Swept → Swept) (s : Follows f g) (t : Follows k h) where
  join_on : (b : Bool) (d : Swept) → Here d → Draws (if b then f (standing d) else k (standing d)) (by_both b g h d)
  join_on true d e =
      let a = g (first_begins true d) in
      true_join (f (standing d)) a (h (second_begins true d a)) (s.on (first_begins true d) (first_here d e)) (second_idle true d a _ (t.idle (second_begins true d a) (and-false d.live)))
  join_on false d e =
      let a = g (first_begins false d) in
      let i = first_idle false d a (s.idle (first_begins false d) (and-false d.live)) in
      false_join (k (standing d)) a (h (second_begins false d a)) i.live (second_as k d a _ i (t.on (second_begins false d a) (second_here d a e i)))

  join_idle : (b : Bool) (d : Swept) → d.live ≡ false → Idle d (by_both b g h d)
  join_idle b d l =
      let a = g (first_begins b d) in
      let i = first_idle b d a (s.idle (first_begins b d) (and_left d.live b l)) in
      let j = second_idle b d a _ (t.idle (second_begins b d a) (and_left d.live (not b) l)) in
      let both = idle_trans d a (h (second_begins b d a)) i j in
      record { live = ap₂ (λ (x y : Bool). x || y) i.live j.live; broken = both.broken; again = both.again; more = both.more; stops = both.stops; free = both.free }

  pub both_follow : (test : Progress → Bool) → Follows (λ p. if test p then f p else k p) (λ d. by_both (test (standing d)) g h d)
  both_follow test = record { on = λ d e. join_on (test (standing d)) d e; idle = λ d l. join_idle (test (standing d)) d l }

  -- ---- from the head of a loop, whose first branch comes to no place behind it

  abbrev by_head : Bool → Swept → Swept
  by_head b d = h (second_begins b d (g (first_begins b d)))

  head_on : ((p : Progress) → is_past (f p) ≡ false) → (b : Bool) (d : Swept) → Here d → Draws (if b then f (standing d) else k (standing d)) (by_head b d)
  head_on n true d e =
      let a = g (first_begins true d) in
      let over = s.on (first_begins true d) (first_here d e) in
      idle_draws (f (standing d)) a _ (n (standing d)) over (second_idle true d a _ (t.idle (second_begins true d a) (and-false d.live)))
  head_on n false d e =
      let a = g (first_begins false d) in
      let i = first_idle false d a (s.idle (first_begins false d) (and-false d.live)) in
      second_as k d a _ i (t.on (second_begins false d a) (second_here d a e i))

  head_idle : (b : Bool) (d : Swept) → d.live ≡ false → Idle d (by_head b d)
  head_idle b d l =
      let a = g (first_begins b d) in
      let i = first_idle b d a (s.idle (first_begins b d) (and_left d.live b l)) in
      idle_trans d a (by_head b d) i (second_idle b d a _ (t.idle (second_begins b d a) (and_left d.live (not b) l)))

  pub head_follows : ((p : Progress) → is_past (f p) ≡ false) → (test : Progress → Bool) → Follows (λ p. if test p then f p else k p) (λ d. by_head (test (standing d)) d)
  head_follows n test = record { on = λ d e. head_on n (test (standing d)) d e; idle = λ d l. head_idle (test (standing d)) d l }
