-- The terms of a store, one global after the other: a given term where the global is one of these, and a zero where it isn't.
use Rattle.std.specs.Prelude.{map, filter, drop, take, get_or, All, IsTrue, if◌then◌else◌}
use Rattle.std.proofs.Common.{◌≡◌, ◌∙◌, ℕ, zero, suc, ◌+◌, ◌<◌, ◌≤◌, Bool, true, false, List, [], ◌∷◌, ◌++◌, length, append_assoc, refl, sym, ap, ap₂, subst, arith, Option, Some}
use Rattle.std.proofs.lemmas.List.{append-nil, map-append, drop_more, drop_all, take_more, take_all}
use Rattle.std.proofs.lemmas.List.Elements.{All-nil, All-cons, All-get_or}
use Rattle.civl_bits.specs.declared.value.Value.{Value}
use Rattle.civl_tree.specs.declared.expr.Sort.{Sort}
use Rattle.civl_tree.specs.declared.program.Global.{Global}
use Rattle.civl_tree.proofs.Lists.{heads}
use Rattle.civl_firing.specs.values.Values.{zero_of, is_sort, sort_of_value}
use Rattle.civl_firing.proofs.values.Zeros.{zeros_have_their_sorts}
use Rattle.civl_terms.specs.declared.node.Node.{Node}
use Rattle.civl_terms.specs.Graphs.{value_at, sort_at, Fits}
use Rattle.civl_terms.specs.Building.{Grows, Built}
use Rattle.civl_terms.proofs.Soundness.{sort_is}
use Rattle.civl_actions.specs.Scopes.{AreOf}
use Rattle.civl_actions.specs.Actions.{values_at}
use Rattle.civl_actions.proofs.Staying.{sorted_within, are_stay, values_stay}
use Rattle.civl_conditions.specs.Values.{spread}
use Rattle.civl_states.specs.formula_parts.Said.{Env}
use Rattle.civl_states.specs.formula_parts.Lists.{AreSaid}

-- ---- one global

module _ (test : Global → Bool) (g : Global) (gs : List Global) where
  spread_kept : test g ≡ true → (v : Value) (vs : List Value) → spread test (g ∷ gs) (v ∷ vs) ≡ v ∷ spread test gs vs
  spread_kept e v vs = ap (λ (b : Bool). if b then v ∷ spread test gs vs else zero_of g.sort ∷ spread test gs (v ∷ vs)) e

  spread_passed : test g ≡ false → (vs : List Value) → spread test (g ∷ gs) vs ≡ zero_of g.sort ∷ spread test gs vs
  spread_passed e [] = refl
  spread_passed e (v ∷ vs) = ap (λ (b : Bool). if b then v ∷ spread test gs vs else zero_of g.sort ∷ spread test gs (v ∷ vs)) e

  kept : test g ≡ true → filter test (g ∷ gs) ≡ g ∷ filter test gs
  kept e = ap (λ (b : Bool). if b then g ∷ filter test gs else filter test gs) e

  passed : test g ≡ false → filter test (g ∷ gs) ≡ filter test gs
  passed e = ap (λ (b : Bool). if b then g ∷ filter test gs else filter test gs) e

-- ---- so many globals

module _ (old : List Node) (test : Global → Bool) (globals : List Global) (given : List ℕ) where
  -- the terms for the first globals, with what is left
  pub record SpreadTo (now : List Node) (i at : ℕ) (ids : List ℕ) : Type 0 where
    pub left : AreOf old (drop at given) (map (λ g. g.sort) (filter test (drop i globals)))
    pub sorted : AreOf now ids (map (λ g. g.sort) (take i globals))
    pub values : (env : Env) → Fits env now → values_at env now ids ++ spread test (drop i globals) (values_at env old (drop at given)) ≡ spread test globals (values_at env old given)

  pub spread_begin : AreOf old given (map (λ g. g.sort) (filter test globals)) → SpreadTo old 0 0 []
  spread_begin h = record { left = h; sorted = refl; values = λ env f. refl }

  pub spread_end : (now : List Node) (i at : ℕ) (ids : List ℕ) → length globals ≤ i → SpreadTo now i at ids → AreSaid now ids (map (λ g. g.sort) globals) (λ env. spread test globals (values_at env old given))
  spread_end now i at ids l s = record {
    sorted = subst (λ (gs : List Global). AreOf now ids (map (λ g. g.sort) gs)) (take_all i globals l) s.sorted;
    are = λ env f.
        sym (append-nil (values_at env now ids))
        ∙ ap (λ (gs : List Global). values_at env now ids ++ spread test gs (values_at env old (drop at given))) (sym (drop_all i globals l))
        ∙ s.values env f;
  }

  module _ (now later : List Node) (i at : ℕ) (ids more : List ℕ) (id : ℕ) (g : Global) (l : i < length globals) (is : g ≡ get_or globals i g) (s : SpreadTo now i at ids) (w : Grows now later) (m : more ≡ ids ++ id ∷ []) where
    abbrev behind : List Global
    behind = drop (i + 1) globals

    here : drop i globals ≡ g ∷ behind
    here = drop_more globals i g l ∙ ap (λ (h : Global). h ∷ behind) (sym is)

    left_here : AreOf old (drop at given) (map (λ g. g.sort) (filter test (g ∷ behind)))
    left_here = subst (λ (gs : List Global). AreOf old (drop at given) (map (λ g. g.sort) (filter test gs))) here s.left

    sorts_next : sort_at later id ≡ Some g.sort → AreOf later more (map (λ g. g.sort) (take (i + 1) globals))
    sorts_next e =
        let next : take (i + 1) globals ≡ take i globals ++ g ∷ [] = take_more globals i g l ∙ ap (λ (h : Global). take i globals ++ h ∷ []) (sym is) in
        ap (map (sort_at later)) m ∙ map-append (sort_at later) ids (id ∷ [])
        ∙ ap₂ (λ (os : List (Option Sort)) (o : Option Sort). os ++ o ∷ []) (are_stay now later ids (map (λ g. g.sort) (take i globals)) s.sorted w) e
        ∙ sym (map-append (λ (t : Sort). Some t) (map (λ g. g.sort) (take i globals)) (g.sort ∷ []))
        ∙ ap (map (λ (t : Sort). Some t)) (sym (map-append (λ (h : Global). h.sort) (take i globals) (g ∷ [])) ∙ ap (map (λ (h : Global). h.sort)) (sym next))

    values_next : (env : Env) → Fits env later → (rest : List Value) → spread test (drop i globals) (values_at env old (drop at given)) ≡ value_at env later id ∷ spread test behind rest
        → values_at env later more ++ spread test behind rest ≡ spread test globals (values_at env old given)
    values_next env f rest e =
        ap (λ (xs : List ℕ). values_at env later xs ++ spread test behind rest) m
        ∙ ap (λ (vs : List Value). vs ++ spread test behind rest) (map-append (value_at env later) ids (id ∷ []) ∙ ap (λ (vs : List Value). vs ++ value_at env later id ∷ []) (values_stay env now later ids (map (λ g. g.sort) (take i globals)) s.sorted w))
        ∙ append_assoc (values_at env now ids) (value_at env later id ∷ []) (spread test behind rest)
        ∙ ap (λ (vs : List Value). values_at env now ids ++ vs) (sym e)
        ∙ s.values env (w.fits env f)

    -- a zero
    pub spread_zero : test g ≡ false → sort_at later id ≡ Some g.sort → ((env : Env) → Fits env later → value_at env later id ≡ zero_of g.sort) → SpreadTo later (i + 1) at more
    spread_zero t e v = record {
      left = subst (λ (gs : List Global). AreOf old (drop at given) (map (λ g. g.sort) gs)) (passed test g behind t) left_here;
      sorted = sorts_next e;
      values = λ env f.
          values_next env f (values_at env old (drop at given))
          (ap (λ (gs : List Global). spread test gs (values_at env old (drop at given))) here ∙ spread_passed test g behind t (values_at env old (drop at given))
          ∙ ap (λ (u : Value). u ∷ spread test behind (values_at env old (drop at given))) (sym (v env f)));
    }

    -- a given term is left
    left_kept : test g ≡ true → AreOf old (drop at given) (g.sort ∷ map (λ g. g.sort) (filter test behind))
    left_kept t = subst (λ (gs : List Global). AreOf old (drop at given) (map (λ g. g.sort) gs)) (kept test g behind t) left_here

    pub spread_within : test g ≡ true → at < length given
    spread_within t = long (drop at given) at given refl (left_kept t)
      where
        long : (xs : List ℕ) (n : ℕ) (ys : List ℕ) → drop n ys ≡ xs → AreOf old xs (g.sort ∷ map (λ g. g.sort) (filter test behind)) → n < length ys
        long [] n ys e h = absurd (cc)
        long (x ∷ xs) zero [] e h = absurd (cc)
        long (x ∷ xs) zero (y ∷ ys) e h = omega arith
        long (x ∷ xs) (suc n) [] e h = absurd (cc)
        long (x ∷ xs) (suc n) (y ∷ ys) e h = omega (arith, long (x ∷ xs) n ys e h)

    -- a given term
    pub spread_given : test g ≡ true → id ≡ get_or given at 0 → Grows old later → SpreadTo later (i + 1) (at + 1) more
    spread_given t j v =
        let d : drop at given ≡ id ∷ drop (at + 1) given = drop_more given at 0 (spread_within t) ∙ ap (λ (k : ℕ). k ∷ drop (at + 1) given) (sym j) in
        let h = heads (sort_at old id) (Some g.sort) (map (sort_at old) (drop (at + 1) given)) (map (λ (s : Sort). Some s) (map (λ g. g.sort) (filter test behind))) (ap (map (sort_at old)) (sym d) ∙ left_kept t) in
        let inside : id < length old = sorted_within old id g.sort h.0 in
        record {
          left = h.1;
          sorted = sorts_next (v.sorts id inside ∙ h.0);
          values = λ env f.
              values_next env f (values_at env old (drop (at + 1) given))
              (ap₂ (λ (gs : List Global) (ks : List ℕ). spread test gs (values_at env old ks)) here d
              ∙ spread_kept test g behind t (value_at env old id) (values_at env old (drop (at + 1) given))
              ∙ ap (λ (u : Value). u ∷ spread test behind (values_at env old (drop (at + 1) given))) (sym (v.values env id inside)));
        }

-- the term of a zero
pub zero_sorted : (now later : List Node) (g : Global) (v : Value) (id : ℕ) → IsTrue (is_sort g.sort) → v ≡ zero_of g.sort → Built now later id (λ env. v) (Some (sort_of_value v)) 0
    → (sort_at later id ≡ Some g.sort) × ((env : Env) → Fits env later → value_at env later id ≡ zero_of g.sort)
zero_sorted now later g v id limit e b = (
  b.sorted ∙ ap (λ (u : Value). Some (sort_of_value u)) e ∙ ap (λ (s : Sort). Some s) (sort_is (zero_of g.sort) g.sort (zeros_have_their_sorts g.sort limit)),
  λ env f. b.is env f ∙ e,
)

-- sorts within the language's limits, said of the globals
pub each_limited : (gs : List Global) → All (λ s. IsTrue (is_sort s)) (map (λ g. g.sort) gs) → All (λ g. IsTrue (is_sort g.sort)) gs
each_limited [] h = All-nil (λ g. IsTrue (is_sort g.sort))
each_limited (g ∷ gs) h =
    All-cons (λ h. IsTrue (is_sort h.sort)) g gs (All-get_or (λ s. IsTrue (is_sort s)) (g.sort ∷ map (λ g. g.sort) gs) 0 g.sort (omega arith) h)
    (each_limited gs (λ k d l. h (suc k) d (omega (arith, l))))

-- ---- a store of variables

-- what the terms of a spread store say, where the given ones say this
pub spread_said : (old new : List Node) (test : Global → Bool) (gs : List Global) (ids xs : List ℕ) (f : Env → List Value) → Grows old new → AreSaid new ids (map (λ g. g.sort) gs) (λ env. spread test gs (values_at env old xs))
    → ((env : Env) → Fits env old → values_at env old xs ≡ f env) → AreSaid new ids (map (λ g. g.sort) gs) (λ env. spread test gs (f env))
spread_said old new test gs ids xs f w s e = record { sorted = s.sorted; are = λ env fits. s.are env fits ∙ ap (spread test gs) (e env (w.fits env fits)) }
