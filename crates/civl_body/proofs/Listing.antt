-- The ways of a sweep, one for each end.
use Rattle.std.specs.Prelude.{slice_get, get_or, drop, if◌then◌else◌, All}
use Rattle.std.specs.List.{Contains, list_any}
use Rattle.std.proofs.Common.{◌≡◌, ◌∙◌, ℕ, suc, ◌+◌, ◌<◌, Bool, true, false, ◌||◌, List, [], ◌∷◌, ◌++◌, length, map, refl, sym, ap, ap₂, subst, arith, append_assoc, Some}
use Rattle.std.proofs.lemmas.List.{map-append, drop_more, drop_all}
use Rattle.std.proofs.lemmas.List.Elements.{All-nil, All-cons, All-append, Contains-append_right}
use Rattle.civl_tree.proofs.Pairs.{contains_here}
use Rattle.civl_layers.specs.declared.cut.Cut.{Cut}
use Rattle.civl_conditions.specs.paths.Ends.{ends_among}
use Rattle.civl_moves.specs.sweeps.Flowing.{is_statement}
use Rattle.civl_moves.specs.declared.sweep.Stop.{Stop}
use Rattle.civl_moves.specs.declared.sweep.Sweep.{Sweep}
use Rattle.civl_body.specs.declared.way.Way.{Way}
use Rattle.civl_body.specs.inner.Ways.{way_from, ways_before, exit_way, exit_ways, ways_from}

-- ---- lists

-- two tests that agree on the elements
pub any_where : (p q : ℕ → Bool) (xs : List ℕ) → ((x : ℕ) → Contains xs x → p x ≡ q x) → list_any p xs ≡ list_any q xs
any_where p q [] h = refl
any_where p q (x ∷ xs) h = ap₂ (λ (a b : Bool). a || b) (h x (contains_here x xs)) (any_where p q xs (λ y c. h y (Contains-append_right (x ∷ []) xs y c)))

pub any_none : (xs : List ℕ) → list_any (λ (x : ℕ). false) xs ≡ false
any_none [] = refl
any_none (x ∷ xs) = any_none xs

-- ---- ends

abbrev pub numbers : List Stop → List ℕ
numbers stops = map (λ (s : Stop). s.number) stops

-- whether one of these stops stands before the cut
abbrev pub stops_at : Cut → List Stop → Bool
stops_at cut stops = list_any (λ (n : ℕ). is_statement n cut) (numbers stops)

before_ends : (cut : Cut) (end : ℕ) (stops : List Stop) → map (λ (w : Way). w.end) (ways_before cut end stops) ≡ (if stops_at cut stops then end ∷ [] else [])
before_ends cut end [] = refl
before_ends cut end (s ∷ ss) = by (is_statement s.number cut) (before_ends cut end ss)
  where
    by : (b : Bool) → map (λ (w : Way). w.end) (ways_before cut end ss) ≡ (if stops_at cut ss then end ∷ [] else [])
        → map (λ (w : Way). w.end) (if b then way_from end s ∷ [] else ways_before cut end ss) ≡ (if b || stops_at cut ss then end ∷ [] else [])
    by true h = refl
    by false h = h

exit_ends : (at : ℕ) (s : Sweep) (b : Bool) → map (λ (w : Way). w.end) (if b then exit_way at s ∷ [] else []) ≡ (if b then at ∷ [] else [])
exit_ends at s true = refl
exit_ends at s false = refl

pub ways_ends : (at : ℕ) (cuts : List Cut) (s : Sweep) (test : ℕ → Bool) → ((i : ℕ) (cut : Cut) → slice_get cuts i ≡ Some cut → stops_at cut s.stops ≡ test (at + i)) → s.onward ≡ test (at + length cuts)
    → map (λ (w : Way). w.end) (ways_from at cuts s) ≡ ends_among test at cuts
ways_ends at [] s test f o =
    let here : at + 0 ≡ at = omega arith in
    exit_ends at s s.onward ∙ ap (λ (b : Bool). if b then at ∷ [] else []) (o ∙ ap test here)
ways_ends at (cut ∷ cuts) s test f o =
    let here : at + 0 ≡ at = omega arith in
    let long : at + suc (length cuts) ≡ at + 1 + length cuts = omega arith in
    map-append (λ (w : Way). w.end) (ways_before cut at s.stops) (ways_from (at + 1) cuts s)
    ∙ ap₂ (λ (xs ys : List ℕ). xs ++ ys) (before_ends cut at s.stops ∙ ap (λ (b : Bool). if b then at ∷ [] else []) (f 0 cut refl ∙ ap test here))
    (ways_ends (at + 1) cuts s test (λ i c e. let next : at + suc i ≡ at + 1 + i = omega arith in f (suc i) c e ∙ ap test next) (o ∙ ap test long))

-- ---- what holds of each way

each_before : (P : Way → Type 0) (cut : Cut) (end : ℕ) (stops : List Stop) → ((k : ℕ) (s : Stop) → slice_get stops k ≡ Some s → is_statement s.number cut ≡ true → P (way_from end s)) → All P (ways_before cut end stops)
each_before P cut end [] f = All-nil P
each_before P cut end (s ∷ ss) f = by (is_statement s.number cut) refl (each_before P cut end ss (λ k t g h. f (suc k) t g h))
  where
    by : (b : Bool) → is_statement s.number cut ≡ b → All P (ways_before cut end ss) → All P (if b then way_from end s ∷ [] else ways_before cut end ss)
    by true e others = All-cons P (way_from end s) [] (f 0 s refl e) (All-nil P)
    by false e others = others

each_exit : (P : Way → Type 0) (at : ℕ) (s : Sweep) → (s.onward ≡ true → P (exit_way at s)) → All P (exit_ways at s)
each_exit P at s f = by s.onward refl
  where
    by : (b : Bool) → s.onward ≡ b → All P (if b then exit_way at s ∷ [] else [])
    by true e = All-cons P (exit_way at s) [] (f e) (All-nil P)
    by false e = All-nil P

pub each_way : (P : Way → Type 0) (at : ℕ) (cuts : List Cut) (s : Sweep) → ((i k : ℕ) (cut : Cut) (t : Stop) → slice_get cuts i ≡ Some cut → slice_get s.stops k ≡ Some t → is_statement t.number cut ≡ true → P (way_from (at + i) t))
    → (s.onward ≡ true → P (exit_way (at + length cuts) s)) → All P (ways_from at cuts s)
each_way P at [] s f g =
    let here : at + 0 ≡ at = omega arith in
    each_exit P at s (λ o. subst (λ (n : ℕ). P (exit_way n s)) here (g o))
each_way P at (cut ∷ cuts) s f g =
    let here : at + 0 ≡ at = omega arith in
    let long : at + suc (length cuts) ≡ at + 1 + length cuts = omega arith in
    All-append P (ways_before cut at s.stops) (ways_from (at + 1) cuts s)
    (each_before P cut at s.stops (λ k t e h. subst (λ (n : ℕ). P (way_from n t)) here (f 0 k cut t refl e h)))
    (each_way P (at + 1) cuts s (λ i k c t e h m. let next : at + suc i ≡ at + 1 + i = omega arith in subst (λ (n : ℕ). P (way_from n t)) next (f (suc i) k c t e h m)) (λ o. subst (λ (n : ℕ). P (exit_way n s)) long (g o)))

-- ---- in a loop over cuts

pub next_cut : (ways more : List Way) (i : ℕ) (cuts : List Cut) (cut : Cut) (s : Sweep) (all : List Way) → i < length cuts → cut ≡ get_or cuts i cut → more ≡ ways ++ ways_before cut i s.stops
    → ways ++ ways_from i (drop i cuts) s ≡ all → more ++ ways_from (i + 1) (drop (i + 1) cuts) s ≡ all
next_cut ways more i cuts cut s all l e m h =
    let is : drop i cuts ≡ cut ∷ drop (i + 1) cuts = drop_more cuts i cut l ∙ ap (λ (c : Cut). c ∷ drop (i + 1) cuts) (sym e) in
    ap (λ (ws : List Way). ws ++ ways_from (i + 1) (drop (i + 1) cuts) s) m
    ∙ append_assoc ways (ways_before cut i s.stops) (ways_from (i + 1) (drop (i + 1) cuts) s)
    ∙ ap (λ (cs : List Cut). ways ++ ways_from i cs s) (sym is) ∙ h

pub last_cut : (ways more : List Way) (i : ℕ) (cuts : List Cut) (s : Sweep) (all : List Way) → i ≡ length cuts → more ≡ ways ++ exit_ways (length cuts) s → ways ++ ways_from i (drop i cuts) s ≡ all → more ≡ all
last_cut ways more i cuts s all l m h =
    m ∙ ap (λ (k : ℕ). ways ++ exit_ways k s) (sym l) ∙ ap (λ (cs : List Cut). ways ++ ways_from i cs s) (sym (drop_all i cuts (omega (arith, l)))) ∙ h
