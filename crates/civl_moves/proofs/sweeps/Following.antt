-- A sweep over one plain statement follows the path.
use Rattle.std.proofs.Common.{◌≡◌, ◌∙◌, ℕ, ◌+◌, Bool, true, false, ◌&&◌, ◌||◌, not, List, [], ◌∷◌, ◌++◌, refl, sym, ap}
use Rattle.std.specs.Prelude.{if◌then◌else◌}
use Rattle.std.proofs.lemmas.Bool.{false≢true, eq-eqb, and_left, or_right}
use Rattle.std.proofs.Math.Bool.{and-true, and-false, or-false}
use Rattle.civl_tree.specs.declared.name.Name.{Name}
use Rattle.civl_tree.specs.declared.expr.Expr.{Expr}
use Rattle.civl_tree.specs.declared.stmt.Stmt.TheOpen as stmt
use Rattle.civl_meaning.specs.Change.{done_by}
use Rattle.civl_meaning.specs.Change as does
use Rattle.civl_conditions.specs.paths.Paths.{Course, Outcome, Past, Comes, Stops, came, stepped, tested, committed, introduced}
use Rattle.civl_moves.specs.sweeps.Sweeps.{Stop, Swept, standing, gated, halted, stopped, cut_at, with_commit, with_intro, with_assign}
use Rattle.civl_moves.specs.sweeps.Draws.{IsStop, AreStops, takes, Draws}
use Rattle.civl_moves.proofs.sweeps.Drawing.{Here, Idle, Follows, still_idle, past_draws, fails_draws, stops_draws, none_are}

pub or_false_and : (x a b : Bool) → a ≡ false → (x || (a && b)) ≡ x
or_false_and x a b e = ap (λ (y : Bool). x || y) (and_left a b e) ∙ or-false x

pub assign_follows : (c : Course) (x : Name) (e : Expr) (at : ℕ) → Follows (stepped c (stmt.Assign x e) at) (with_assign c x e)
assign_follows c x e at = record {
  on = λ d h. past_draws (with_assign c x e d) (record { onward = h.onward; live = h.live; whole = h.whole; free = h.free });
  idle = λ d l. still_idle d (with_assign c x e d) l refl refl refl;
}

pub gated_idle : (t : Bool) (d : Swept) → d.live ≡ false → Idle d (gated t d)
gated_idle t d l = still_idle d (gated t d) (and_left d.live t l) (or_false_and d.broken d.live (not t) l) refl refl

gated_draws : (c : Course) (at : ℕ) (t : Bool) (d : Swept) → Here d → Draws (came (standing d) (done_by c.plain d.store (c.chosen at) (if t then does.Goes d.locals (at + 1) else does.Fails))) (gated t d)
gated_draws c at true d h =
    past_draws (gated true d) (record { onward = h.onward; live = and-true d.live ∙ h.live; whole = ap (λ (b : Bool). d.broken || b) (and-false d.live) ∙ or-false d.broken ∙ h.whole; free = h.free })
gated_draws c at false d h =
    fails_draws (standing d) (gated false d) (and-false d.live) (or_right d.broken (d.live && true) (and-true d.live ∙ h.live)) refl h.free

pub assert_follows : (c : Course) (e : Expr) (at : ℕ) → Follows (stepped c (stmt.Assert e) at) (λ d. gated (tested c e (standing d)) d)
assert_follows c e at = record {
  on = λ d h. gated_draws c at (tested c e (standing d)) d h;
  idle = λ d l. gated_idle (tested c e (standing d)) d l;
}

pub commit_follows : Follows (λ p. Past (committed p)) with_commit
commit_follows = record {
  on = λ d h.
      (let same : d.again || d.done ≡ d.again || (d.live && d.done) = ap (λ (b : Bool). d.again || (b && d.done)) (sym h.live) in
      record {
        live = h.live;
        here = λ l. ap (λ (b : Bool). record { store = d.store; locals = d.locals; done = true; again = b }) same;
        onward = λ b. absurd (false≢true (sym b ∙ h.onward));
        broken = h.whole;
        again = sym same;
        stops = none_are (Past (committed (standing d))) d.stops h.free;
        all = λ m b. absurd (false≢true b);
      });
  idle = λ d l. still_idle d (with_commit d) l refl (or_false_and d.again d.live d.done l) refl;
}

pub intro_follows : (c : Course) (x : Name) (e : Expr) → Follows (λ p. Past (introduced c x e p)) (with_intro c x e)
intro_follows c x e = record {
  on = λ d h. past_draws (with_intro c x e d) (record { onward = h.onward; live = h.live; whole = h.whole; free = h.free });
  idle = λ d l. still_idle d (with_intro c x e d) l refl refl refl;
}

pub stopped_follows : Follows Stops stopped
stopped_follows = record {
  on = λ d h. stops_draws (standing d) (stopped d) refl h.whole refl h.free;
  idle = λ d l. still_idle d (stopped d) refl refl refl refl;
}

pub halted_follows : Follows Stops halted
halted_follows = record {
  on = λ d h. stops_draws (standing d) (halted d) refl h.whole refl h.free;
  idle = λ d l. still_idle d (halted d) refl refl refl refl;
}

-- ---- a cut

abbrev stop_of : ℕ → Swept → Stop
stop_of at d = record { number = at; taken = d.live; store = d.store; locals = d.locals; done = d.done }

last_is : (o : Outcome) (ss : List Stop) (s : Stop) → AreStops o ss → IsStop o s → AreStops o (ss ++ s ∷ [])
last_is o [] s h k = (k, tt)
last_is o (x ∷ ss) s h k = (h.0, last_is o ss s h.1 k)

takes_last : (n : ℕ) (ss : List Stop) (s : Stop) → (takes n (s ∷ []) ≡ true) → takes n (ss ++ s ∷ []) ≡ true
takes_last n [] s h = h
takes_last n (x ∷ ss) s h = or_right _ (takes n (ss ++ s ∷ [])) (takes_last n ss s h)

takes_one : (a b : Bool) → a ≡ true → b ≡ true → ((a && b) || false) ≡ true
takes_one a b e f = ap (λ (x : Bool). (x && b) || false) e ∙ or-false b ∙ f

pub cut_follows : (at : ℕ) → Follows (Comes at) (cut_at at)
cut_follows at = record {
  on = λ d h. record {
    live = refl;
    here = λ l. absurd (false≢true l);
    onward = λ b. refl;
    broken = h.whole;
    again = refl;
    stops = last_is (Comes at (standing d)) d.stops (stop_of at d) (none_are (Comes at (standing d)) d.stops h.free) (record {
      before = λ t. eq-eqb at at refl;
      there = λ t. record { store = refl; locals = refl; done = refl };
    });
    all = λ m b. takes_last m d.stops (stop_of at d) (takes_one _ d.live b h.live);
  };
  idle = λ d l. record {
    live = refl;
    broken = refl;
    again = refl;
    more = stop_of at d ∷ [];
    stops = refl;
    free = (l, tt);
  };
}
