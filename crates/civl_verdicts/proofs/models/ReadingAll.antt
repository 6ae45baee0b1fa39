-- All places are read, one behind the other.
use Rattle.std.specs.Prelude.{slice_get, get_or, All, IsTrue}
use Rattle.std.proofs.Common.{◌≡◌, ◌∙◌, ℕ, zero, suc, ◌+◌, ◌<◌, ◌≤◌, Bool, List, [], ◌∷◌, length, drop, refl, ap, arith, Some}
use Rattle.std.proofs.Math.Seq.{drop-cons}
use Rattle.std.proofs.lemmas.List.{drop_all}
use Rattle.std.proofs.lemmas.List.Elements.{All-nil, All-cons, All-head, All-tail}
use Rattle.civl_bits.specs.declared.value.Value.{Value}
use Rattle.civl_tree.specs.declared.expr.Sort.{Sort}
use Rattle.civl_firing.specs.values.Values.{zero_of, HasSort, HaveSorts, is_sort}
use Rattle.civl_firing.proofs.values.Zeros.{zeros_have_their_sorts}
use Rattle.civl_firing.proofs.Having.{no_sorts, more_sorts}
use Rattle.civl_symbolic.specs.Symbolic.{Shows}
use Rattle.civl_terms.specs.Graphs.{listed}
use Rattle.civl_blast.specs.rows.Cells.{cell_of, cells_in}
use Rattle.civl_blast.specs.declared.blasted.Place.{Place}
use Rattle.civl_verdicts.specs.models.Reading.{IsCellPlace, AgreeAt, HasNoPlace, AreRead}
use Rattle.civl_verdicts.specs.inner.models.Zeros.{zeros_of}
use Rattle.civl_verdicts.proofs.models.Placing.{placed, sorts_stay, cell_stays, cell_placed, shown_stays}

-- the values with the cells at all these places
abbrev pub read_all : (ℕ → Bool) → List Place → List Value → List Value
read_all v [] values = values
read_all v (p ∷ ps) values = read_all v ps (placed v p values)

pub read_next : (v : ℕ → Bool) (places : List Place) (i : ℕ) (d : Place) (values : List Value) → i < length places → read_all v (drop i places) values ≡ read_all v (drop (i + 1) places) (placed v (get_or places i d) values)
read_next v places i d values l = let one : suc i ≡ i + 1 = omega arith in ap (λ (ps : List Place). read_all v ps values) (drop-cons places i d l) ∙ ap (λ (n : ℕ). read_all v (drop n places) (placed v (get_or places i d) values)) one

pub read_none : (v : ℕ → Bool) (places : List Place) (i : ℕ) (values : List Value) → length places ≤ i → read_all v (drop i places) values ≡ values
read_none v places i values l = ap (λ (ps : List Place). read_all v ps values) (drop_all i places l)

abbrev Agrees : (ℕ → Value) → List Value → Place → Type 0
Agrees env values q = cell_of (listed values q.variable) q.cell ≡ cell_of (env q.variable) q.cell

module _ (sorts : List Sort) (count : ℕ) (v : ℕ → Bool) where
  abbrev IsPlaceHere : Place → Type 0
  IsPlaceHere p = IsCellPlace sorts count p

  sorted_all : (places : List Place) (values : List Value) → All IsPlaceHere places → HaveSorts values sorts → HaveSorts (read_all v places values) sorts
  sorted_all [] values h fit = fit
  sorted_all (p ∷ ps) values h fit = sorted_all ps (placed v p values) (All-tail IsPlaceHere p ps h) (sorts_stay v sorts count p values (All-head IsPlaceHere p ps h) fit)

  stays_all : (places : List Place) (values : List Value) (k c : ℕ) (s : Sort) → All IsPlaceHere places → HaveSorts values sorts → slice_get sorts k ≡ Some s → c < cells_in (Some s) → HasNoPlace places k c
      → cell_of (listed (read_all v places values) k) c ≡ cell_of (listed values k) c
  stays_all [] values k c s h fit e l none = refl
  stays_all (p ∷ ps) values k c s h fit e l none =
      let here = All-head IsPlaceHere p ps h in
      let Not : Place → Type 0 = λ q. q.variable ≡ k → q.cell ≡ c → ⊥ in
      stays_all ps (placed v p values) k c s (All-tail IsPlaceHere p ps h) (sorts_stay v sorts count p values here fit) e l (All-tail Not p ps none)
      ∙ cell_stays v sorts count p values k c s here fit e l (All-head Not p ps none)

  module _ (env : ℕ → Value) where
    abbrev Has : Place → Type 0
    Has p = (s : Sort) → slice_get sorts p.variable ≡ Some s → HasSort (env p.variable) s

    abbrev Shown : Place → Type 0
    Shown p = Shows v p.first (cell_of (env p.variable) p.cell)

    agrees_all : (places : List Place) (values : List Value) (q : Place) → All IsPlaceHere places → IsPlaceHere q → HaveSorts values sorts → All Has places → All Shown places → Agrees env values q → Agrees env (read_all v places values) q
    agrees_all [] values q h g fit has shows was = was
    agrees_all (p ∷ ps) values q h g fit has shows was =
        let here = All-head IsPlaceHere p ps h in
        agrees_all ps (placed v p values) q (All-tail IsPlaceHere p ps h) g (sorts_stay v sorts count p values here fit) (All-tail Has p ps has) (All-tail Shown p ps shows)
        (shown_stays v sorts count p q values env here g fit (All-head Has p ps has here.sort here.there) (All-head Shown p ps shows) was)

    agree_all : (places : List Place) (values : List Value) → All IsPlaceHere places → HaveSorts values sorts → All Has places → All Shown places → AgreeAt places (listed (read_all v places values)) env
    agree_all [] values h fit has shows = All-nil (Agrees env values)
    agree_all (p ∷ ps) values h fit has shows =
        let here = All-head IsPlaceHere p ps h in
        let rest = All-tail IsPlaceHere p ps h in
        let then = sorts_stay v sorts count p values here fit in
        let is = cell_placed v sorts count p values env here fit (All-head Has p ps has here.sort here.there) (All-head Shown p ps shows) in
        All-cons (Agrees env (read_all v ps (placed v p values))) p ps
        (agrees_all ps (placed v p values) p rest here then (All-tail Has p ps has) (All-tail Shown p ps shows) is)
        (agree_all ps (placed v p values) rest then (All-tail Has p ps has) (All-tail Shown p ps shows))

-- ---- from zeros

pub zeros_have : (sorts : List Sort) → All (λ s. IsTrue (is_sort s)) sorts → HaveSorts (zeros_of sorts) sorts
zeros_have [] h = no_sorts
zeros_have (s ∷ ss) h =
    let In : Sort → Type 0 = λ t. IsTrue (is_sort t) in
    more_sorts (zero_of s) s (zeros_of ss) ss (zeros_have_their_sorts s (All-head In s ss h)) (zeros_have ss (All-tail In s ss h))

zero_at : (sorts : List Sort) (k : ℕ) (s : Sort) → slice_get sorts k ≡ Some s → listed (zeros_of sorts) k ≡ zero_of s
zero_at [] k s e = absurd (cc)
zero_at (t ∷ ts) zero s e = let same : t ≡ s = cc in ap zero_of same
zero_at (t ∷ ts) (suc k) s e = zero_at ts k s e

pub are_read : (sorts : List Sort) (count : ℕ) (places : List Place) (v : ℕ → Bool) → All (λ s. IsTrue (is_sort s)) sorts → All (IsCellPlace sorts count) places → AreRead sorts places v (read_all v places (zeros_of sorts))
are_read sorts count places v limits h =
    let fit = zeros_have sorts limits in
    record {
      sorted = sorted_all sorts count v places (zeros_of sorts) h fit;
      shown = λ env has shows. agree_all sorts count v env places (zeros_of sorts) h fit has shows;
      rest = λ k c s e l none. stays_all sorts count v places (zeros_of sorts) k c s h fit e l none ∙ ap (λ (x : Value). cell_of x c) (zero_at sorts k s e);
    }
