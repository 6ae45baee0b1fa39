-- What a sweep knows of the path: whether it is here, with what; whether it failed; whether it passed a second commit; and where it
-- came to an end, with what.
use Rattle.std.specs.Prelude.{ℕ, ◌≡◌, Bool, true, false, ◌&&◌, nat_eq, List, [], ◌∷◌, ⊤}
use Rattle.std.specs.List.{list_any}
use Rattle.civl_meaning.specs.Rest.{Rest}
use Rattle.civl_layers.specs.declared.cut.Cut.{Cut}
use Rattle.civl_conditions.specs.paths.Paths.{Course, Progress, Outcome, Past, Comes, Fails, Stops, after, pass_all, path_from, progress_of, has_failed}
use Rattle.civl_moves.specs.sweeps.Sweeps.{Stop, Swept, standing, sweep_all, sweep_from, sweep_begins}

abbrev pub is_past : Outcome → Bool
is_past (Past p) = true
is_past (Comes number p) = false
is_past (Fails p) = false
is_past (Stops p) = false

-- the path is before the cut that is the statement with this number
abbrev pub is_before : ℕ → Outcome → Bool
is_before number (Past p) = false
is_before number (Comes here p) = nat_eq number here
is_before number (Fails p) = false
is_before number (Stops p) = false

pub record IsThere (p : Progress) (stop : Stop) : Type 0 where
  pub store : p.store ≡ stop.store
  pub locals : p.locals ≡ stop.locals
  pub done : p.done ≡ stop.done

-- where a stop is taken, the path is there
pub record IsStop (o : Outcome) (stop : Stop) : Type 0 where
  pub before : stop.taken ≡ true → is_before stop.number o ≡ true
  pub there : stop.taken ≡ true → IsThere (progress_of o) stop

abbrev pub AreStops : Outcome → List Stop → Type 0
AreStops o [] = ⊤
AreStops o (s ∷ ss) = IsStop o s × AreStops o ss

-- a stop with this number is taken
abbrev pub takes : ℕ → List Stop → Bool
takes number stops = list_any (λ s. nat_eq number s.number && s.taken) stops

pub record Draws (o : Outcome) (d : Swept) : Type 0 where
  pub live : d.live ≡ is_past o
  pub here : d.live ≡ true → progress_of o ≡ standing d
  pub onward : d.onward ≡ false → d.live ≡ false
  pub broken : d.broken ≡ has_failed o
  pub again : d.again ≡ (progress_of o).again
  pub stops : AreStops o d.stops
  pub all : (number : ℕ) → is_before number o ≡ true → takes number d.stops ≡ true

-- a sweep over statements draws what going over them comes to
abbrev pub SweepsDrawRests : Type 0
SweepsDrawRests = (c : Course) (rest : Rest) (o : Outcome) (d : Swept) → Draws o d → Draws (after o (pass_all c rest)) (sweep_all c rest d)

-- from a cut
abbrev pub SweepsDrawPaths : Type 0
SweepsDrawPaths = (c : Course) (cut : Cut) (p : Progress) → Draws (path_from c cut p) (sweep_from c cut (sweep_begins p))
