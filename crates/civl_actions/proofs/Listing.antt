-- Lists of terms in a graph that grows.
use Rattle.std.specs.Prelude.{map, slice_get, All, IsTrue}
use Rattle.std.specs.Str.{bytes_eq}
use Rattle.std.proofs.Common.{◌≡◌, ◌∙◌, ℕ, zero, suc, ◌+◌, ◌<◌, Bool, true, false, ◌||◌, List, [], ◌∷◌, ◌++◌, length, get_or, take, set, refl, sym, ap, ap₂, subst, arith, add-one, Option, Some}
use Rattle.std.specs.Prelude.{if◌then◌else◌}
use Rattle.std.proofs.lemmas.Bool.{false≢true, or_parts, or_left, or_right}
use Rattle.std.proofs.lemmas.List.{map-append, append-nil, take_more}
use Rattle.std.proofs.lemmas.Option.{slice_get_within, get_or_from_slice_get, slice_get-get_or}
use Rattle.std.proofs.lemmas.List.Elements.{All-get_or}
use Rattle.std.proofs.lemmas.Slice.Eq.{bytes_eq-Decides}
use Rattle.civl_bits.specs.declared.value.Value.{Value}
use Rattle.civl_tree.specs.declared.name.Name.{Name}
use Rattle.civl_tree.specs.declared.expr.Sort.{Sort}
use Rattle.civl_tree.specs.declared.action.Action.{Action}
use Rattle.civl_tree.specs.declared.action.Choice.{Choice}
use Rattle.civl_tree.specs.declared.action.Param.{Param}
use Rattle.civl_tree.specs.declared.action.Update.{Update}
use Rattle.civl_tree.specs.declared.program.Global.{Global}
use Rattle.civl_tree.specs.declared.program.Program.{Program}
use Rattle.civl_tree.specs.rules.Names.{same_name, has_name, global_names, param_names}
use Rattle.civl_tree.specs.rules.Scopes.{Scope as Sorts, Binding, sort_in, bind_globals, bind_params, gate_scope, guard_scope}
use Rattle.civl_tree.specs.rules.Sorts.{sort_of}
use Rattle.civl_tree.proofs.Naming.{bytes_same}
use Rattle.civl_firing.specs.values.Values.{zero_of, is_sort, sort_of_value}
use Rattle.civl_firing.specs.values.Weights.{weight_of}
use Rattle.civl_firing.specs.values.ActionWeights.{update_weights, offer_weights}
use Rattle.civl_firing.proofs.values.Zeros.{zeros_have_their_sorts}
use Rattle.civl_firing.specs.declared.scope.Scope.{Scope as Meant}
use Rattle.civl_firing.specs.Eval.{value_of}
use Rattle.civl_firing.specs.Fired.{updated}
use Rattle.civl_firing.specs.Truth.{place_of}
use Rattle.civl_terms.specs.declared.node.Node.{Node}
use Rattle.civl_terms.specs.Graphs.{value_at, sort_at, Fits}
use Rattle.civl_terms.specs.Building.{Grows, Built}
use Rattle.civl_terms.proofs.Soundness.{sort_is}
use Rattle.civl_actions.specs.declared.scope.Scope.{Scope}
use Rattle.civl_actions.specs.Scopes.{AreOf, meant, ScopeFits, IsTyped, Means}
use Rattle.civl_actions.specs.Actions.{values_at}
use Rattle.civl_actions.specs.inner.Steps.{AreZeros, AreOffered, AreUpdated}
use Rattle.civl_actions.proofs.Staying.{are_stay, values_stay, meant_stays, fits_stay}
use Rattle.civl_actions.proofs.Rules.{Kept, out_apart, offer_typed, offer_sorted, update_typed, update_sorted}

-- ---- zeros

pub zeros_none : (ns : List Node) → AreZeros ns ns [] []
zeros_none ns = record { values = λ env f. refl; sorts = refl; weighs = omega arith }

pub zeros_more : (old now new : List Node) (ps : List Param) (p : Param) (ids : List ℕ) (id : ℕ) → AreZeros old now ps ids → IsTrue (is_sort p.sort) → Grows now new
    → Built now new id (λ env. zero_of p.sort) (Some (sort_of_value (zero_of p.sort))) 0 → AreZeros old new (ps ++ p ∷ []) (ids ++ id ∷ [])
zeros_more old now new ps p ids id z l g b = record {
  values = λ env f.
      map-append (value_at env new) ids (id ∷ [])
      ∙ ap₂ (λ (vs : List Value) (v : Value). vs ++ v ∷ []) (values_stay env now new ids (map (λ q. q.sort) ps) z.sorts g ∙ z.values env (g.fits env f)) (b.is env f)
      ∙ sym (map-append (λ (q : Param). zero_of q.sort) ps (p ∷ []));
  sorts =
      map-append (sort_at new) ids (id ∷ [])
      ∙ ap₂ (λ (os : List (Option Sort)) (o : Option Sort). os ++ o ∷ []) (are_stay now new ids (map (λ q. q.sort) ps) z.sorts g) (b.sorted ∙ ap (λ (s : Sort). Some s) (sort_is (zero_of p.sort) p.sort (zeros_have_their_sorts p.sort l)))
      ∙ sym (map-append (λ (s : Sort). Some s) (map (λ (q : Param). q.sort) ps) (p.sort ∷ []))
      ∙ ap (map (λ (s : Sort). Some s)) (sym (map-append (λ (q : Param). q.sort) ps (p ∷ [])));
  weighs = omega (arith, z.weighs, b.weighs);
}

-- an item of a list that is gone over
pub item_at : {X : Type 0} (xs ys : List X) (i : ℕ) (x : X) → ys ≡ xs → i < length ys → x ≡ get_or ys i x → slice_get xs i ≡ Some x
item_at {X = X} xs ys i x e l is = ap (λ (zs : List X). slice_get zs i) (sym e) ∙ slice_get-get_or ys i x l ∙ ap (λ (y : X). Some y) (sym is)

pub zeros_step : (old now new : List Node) (outs : List Param) (i : ℕ) (p : Param) (ids more : List ℕ) (v : Value) (id : ℕ) → All (λ (q : Param). IsTrue (is_sort q.sort)) outs → i < length outs → p ≡ get_or outs i p
    → AreZeros old now (take i outs) ids → Grows now new → v ≡ zero_of p.sort → Built now new id (λ env. v) (Some (sort_of_value v)) 0 → more ≡ ids ++ id ∷ [] → AreZeros old new (take (i + 1) outs) more
zeros_step old now new outs i p ids more v id all l is z g e b m =
    let limit : IsTrue (is_sort p.sort) = subst (λ (q : Param). IsTrue (is_sort q.sort)) (sym is) (All-get_or (λ (q : Param). IsTrue (is_sort q.sort)) outs i p l all) in
    let made = subst (λ (x : Value). Built now new id (λ env. x) (Some (sort_of_value x)) 0) e b in
    let next : take (i + 1) outs ≡ take i outs ++ p ∷ [] = take_more outs i p l ∙ ap (λ (q : Param). take i outs ++ q ∷ []) (sym is) in
    subst (λ (ps : List Param). AreZeros old new ps more) (sym next) (subst (AreZeros old new (take i outs ++ p ∷ [])) (sym m) (zeros_more old now new (take i outs) p ids id z limit g made))

-- ---- offers

module _ (program : Program) (a : Action) (k : Kept program a) where
  abbrev sorts : Sorts
  sorts = gate_scope program a

  offer_weights-push : (cs : List Choice) (c : Choice) → offer_weights sorts (cs ++ c ∷ []) ≡ offer_weights sorts cs + weight_of sorts c.offer
  offer_weights-push [] c = omega arith
  offer_weights-push (x ∷ cs) c = omega (arith, offer_weights-push cs c)

  pub offered_none : (ns : List Node) (scope : Scope) → AreOffered ns ns scope sorts [] []
  offered_none ns scope = record { values = λ env f. refl; are = refl; weighs = omega arith }

  offered_push : (old now new : List Node) (scope : Scope) (cs : List Choice) (i : ℕ) (c : Choice) (ids : List ℕ) (id : ℕ) → slice_get a.choices i ≡ Some c → ScopeFits old scope sorts → Grows old now
      → AreOffered old now scope sorts cs ids → Grows now new → Means now new scope c.offer id → AreOffered old new scope sorts (cs ++ c ∷ []) (ids ++ id ∷ [])
  offered_push old now new scope cs i c ids id at fits g o h m = record {
    values = λ env f.
        map-append (value_at env new) ids (id ∷ [])
        ∙ ap₂ (λ (vs : List Value) (v : Value). vs ++ v ∷ []) (values_stay env now new ids (map (λ d. d.sort) cs) o.are h ∙ o.values env (h.fits env f)) (m.is env f ∙ ap (λ (s : Meant). value_of s c.offer) (meant_stays env old now scope sorts fits g))
        ∙ sym (map-append (λ (d : Choice). value_of (meant env old scope) d.offer) cs (c ∷ []));
    are =
        map-append (sort_at new) ids (id ∷ [])
        ∙ ap₂ (λ (os : List (Option Sort)) (s : Option Sort). os ++ s ∷ []) (are_stay now new ids (map (λ d. d.sort) cs) o.are h) (m.sorted sorts there typed ∙ offer_sorted program a k i c at)
        ∙ sym (map-append (λ (s : Sort). Some s) (map (λ (d : Choice). d.sort) cs) (c.sort ∷ []))
        ∙ ap (map (λ (s : Sort). Some s)) (sym (map-append (λ (d : Choice). d.sort) cs (c ∷ [])));
    weighs = omega (arith, o.weighs, m.weighs sorts there typed, offer_weights-push cs c);
  }
    where
      there : ScopeFits now scope sorts
      there = fits_stay old now scope sorts g fits

      typed : IsTyped sorts c.offer
      typed = offer_typed program a k i c at

  pub offered_step : (old now new : List Node) (scope : Scope) (i : ℕ) (c : Choice) (ids more : List ℕ) (id : ℕ) → slice_get a.choices i ≡ Some c → ScopeFits old scope sorts → Grows old now
      → AreOffered old now scope sorts (take i a.choices) ids → Grows now new → Means now new scope c.offer id → more ≡ ids ++ id ∷ [] → AreOffered old new scope sorts (take (i + 1) a.choices) more
  offered_step old now new scope i c ids more id at fits g o h m e =
      let next : take (i + 1) a.choices ≡ take i a.choices ++ c ∷ [] = take_more a.choices i c (slice_get_within a.choices i c at) ∙ ap (λ (d : Choice). take i a.choices ++ d ∷ []) (get_or_from_slice_get a.choices i c c at) in
      subst (λ (cs : List Choice). AreOffered old new scope sorts cs more) (sym next)
      (subst (AreOffered old new scope sorts (take i a.choices ++ c ∷ [])) (sym e) (offered_push old now new scope (take i a.choices) i c ids id at fits g o h m))

-- ---- writes

map_set : {A B : Type 0} (f : A → B) (xs : List A) (k : ℕ) (x : A) → map f (set xs k x) ≡ set (map f xs) k (f x)
map_set f [] k x = refl
map_set f (y ∷ ys) zero x = refl
map_set f (y ∷ ys) (suc k) x = ap (λ zs. f y ∷ zs) (map_set f ys k x)

set_same : (ss : List Sort) (k : ℕ) (o : Option Sort) → ((s : Sort) → slice_get ss k ≡ Some s → o ≡ Some s) → set (map (λ (s : Sort). Some s) ss) k o ≡ map (λ (s : Sort). Some s) ss
set_same [] k o h = refl
set_same (s ∷ ss) zero o h = ap (λ q. q ∷ map (λ (t : Sort). Some t) ss) (h s refl)
set_same (s ∷ ss) (suc k) o h = ap (λ qs. Some s ∷ qs) (set_same ss k o (λ t e. h t e))

pub are_written : (ns : List Node) (ids : List ℕ) (ss : List Sort) (k id : ℕ) → AreOf ns ids ss → ((s : Sort) → slice_get ss k ≡ Some s → sort_at ns id ≡ Some s) → AreOf ns (set ids k id) ss
are_written ns ids ss k id h f = map_set (sort_at ns) ids k id ∙ ap (λ os. set os k (sort_at ns id)) h ∙ set_same ss k (sort_at ns id) f

updated-push : (names : List Name) (vs : List Value) (scope : Meant) (us : List Update) (u : Update) → updated names vs scope (us ++ u ∷ []) ≡ set (updated names vs scope us) (place_of names u.target) (value_of scope u.expr)
updated-push names vs scope [] u = refl
updated-push names vs scope (x ∷ us) u = updated-push names (set vs (place_of names x.target) (value_of scope x.expr)) scope us u

update_weights-push : (program : Program) (a : Action) (us : List Update) (u : Update) → update_weights (guard_scope program a) (us ++ u ∷ []) ≡ update_weights (guard_scope program a) us + weight_of (guard_scope program a) u.expr
update_weights-push program a [] u = omega arith
update_weights-push program a (x ∷ us) u = omega (arith, update_weights-push program a us u)

-- ---- the sort of a target

place_sort : {A : Type 0} (name_of : A → Name) (sort_at : A → Sort) (xs : List A) (rest : List Binding) (t : Name) (s : Sort) → slice_get (map sort_at xs) (place_of (map name_of xs) t) ≡ Some s → sort_in (map (λ x. record { name = name_of x; sort = sort_at x }) xs ++ rest) t ≡ Some s
place_sort name_of sort_at [] rest t s e = absurd (cc)
place_sort name_of sort_at (x ∷ xs) rest t s e = by (bytes_eq (name_of x).bytes t.bytes) (place_sort name_of sort_at xs rest t s) e
  where
    by : (b : Bool) → (slice_get (map sort_at xs) (place_of (map name_of xs) t) ≡ Some s → sort_in (map (λ y. record { name = name_of y; sort = sort_at y }) xs ++ rest) t ≡ Some s)
        → slice_get (sort_at x ∷ map sort_at xs) (if b then 0 else place_of (map name_of xs) t + 1) ≡ Some s
        → (if b then Some (sort_at x) else sort_in (map (λ y. record { name = name_of y; sort = sort_at y }) xs ++ rest) t) ≡ Some s
    by true f q = q
    by false f q = f (sym (ap (slice_get (sort_at x ∷ map sort_at xs)) (add-one (place_of (map name_of xs) t))) ∙ q)

placed : {A : Type 0} (name_of : A → Name) (sort_at : A → Sort) (xs : List A) (t : Name) (s : Sort) → slice_get (map sort_at xs) (place_of (map name_of xs) t) ≡ Some s → has_name (map name_of xs) t ≡ true
placed name_of sort_at [] t s e = absurd (cc)
placed name_of sort_at (x ∷ xs) t s e = by (bytes_eq (name_of x).bytes t.bytes) refl (placed name_of sort_at xs t s) e
  where
    by : (b : Bool) → bytes_eq (name_of x).bytes t.bytes ≡ b → (slice_get (map sort_at xs) (place_of (map name_of xs) t) ≡ Some s → has_name (map name_of xs) t ≡ true)
        → slice_get (sort_at x ∷ map sort_at xs) (if b then 0 else place_of (map name_of xs) t + 1) ≡ Some s
        → (same_name t (name_of x) || has_name (map name_of xs) t) ≡ true
    by true r f q = or_left (same_name t (name_of x)) (has_name (map name_of xs) t) (bytes_same t (name_of x) (sym ((bytes_eq-Decides (name_of x).bytes t.bytes).0 r)))
    by false r f q = or_right (same_name t (name_of x)) (has_name (map name_of xs) t) (f (sym (ap (slice_get (sort_at x ∷ map sort_at xs)) (add-one (place_of (map name_of xs) t))) ∙ q))

past_globals : (gs : List Global) (rest : List Binding) (t : Name) → has_name (global_names gs) t ≡ false → sort_in (bind_globals gs ++ rest) t ≡ sort_in rest t
past_globals [] rest t h = refl
past_globals (g ∷ gs) rest t h =
    let o = or_parts (same_name t g.name) (has_name (global_names gs) t) h in
    by (bytes_eq g.name.bytes t.bytes) refl o.0 (past_globals gs rest t o.1)
  where
    by : (b : Bool) → bytes_eq g.name.bytes t.bytes ≡ b → same_name t g.name ≡ false → sort_in (bind_globals gs ++ rest) t ≡ sort_in rest t → (if b then Some g.sort else sort_in (bind_globals gs ++ rest) t) ≡ sort_in rest t
    by true q n r = absurd (false≢true (sym n ∙ bytes_same t g.name (sym ((bytes_eq-Decides g.name.bytes t.bytes).0 q))))
    by false q n r = r

-- ---- updates

module _ (program : Program) (a : Action) (k : Kept program a) where
  global_target : (i : ℕ) (u : Update) → slice_get a.updates i ≡ Some u → (s : Sort) → slice_get (map (λ (g : Global). g.sort) program.globals) (place_of (global_names program.globals) u.target) ≡ Some s → sort_of (guard_scope program a) u.expr ≡ Some s
  global_target i u at s e = update_sorted program a k i u at s (place_sort (λ (g : Global). g.name) (λ (g : Global). g.sort) program.globals (bind_params a.outs) u.target s e)

  out_target : (i : ℕ) (u : Update) → slice_get a.updates i ≡ Some u → (s : Sort) → slice_get (map (λ (p : Param). p.sort) a.outs) (place_of (param_names a.outs) u.target) ≡ Some s → sort_of (guard_scope program a) u.expr ≡ Some s
  out_target i u at s e =
      let there = placed (λ (p : Param). p.name) (λ (p : Param). p.sort) a.outs u.target s e in
      let apart = (out_apart program a k u.target there).globals in
      update_sorted program a k i u at s (past_globals program.globals (bind_params a.outs) u.target apart ∙ end)
    where
      end : sort_in (bind_params a.outs) u.target ≡ Some s
      end = ap (λ (bs : List Binding). sort_in bs u.target) (sym (append-nil (bind_params a.outs))) ∙ place_sort (λ (p : Param). p.name) (λ (p : Param). p.sort) a.outs [] u.target s e

  pub updated_none : (ns : List Node) (scope : Scope) (gs os : List ℕ) → AreOf ns gs (map (λ g. g.sort) program.globals) → AreOf ns os (map (λ p. p.sort) a.outs) → AreUpdated ns ns scope program a 0 gs os gs os
  updated_none ns scope gs os hg ho = record { globals = λ env f. refl; outs = λ env f. refl; global_sorts = hg; out_sorts = ho; weighs = omega arith }

  pub updated_more : (old now new : List Node) (scope : Scope) (i : ℕ) (u : Update) (gs os more_gs more_os : List ℕ) (id : ℕ) → slice_get a.updates i ≡ Some u → ScopeFits old scope (guard_scope program a) → Grows old now
      → AreUpdated old now scope program a i gs os more_gs more_os → Grows now new → Means now new scope u.expr id
      → AreUpdated old new scope program a (i + 1) gs os (set more_gs (place_of (global_names program.globals) u.target) id) (set more_os (place_of (param_names a.outs) u.target) id)
  updated_more old now new scope i u gs os more_gs more_os id at fits g h r m = record {
    globals = λ env f. written env f (global_names program.globals) gs more_gs (values_stay env now new more_gs (map (λ q. q.sort) program.globals) h.global_sorts r ∙ h.globals env (r.fits env f));
    outs = λ env f. written env f (param_names a.outs) os more_os (values_stay env now new more_os (map (λ q. q.sort) a.outs) h.out_sorts r ∙ h.outs env (r.fits env f));
    global_sorts = are_written new more_gs (map (λ q. q.sort) program.globals) (place_of (global_names program.globals) u.target) id (are_stay now new more_gs (map (λ q. q.sort) program.globals) h.global_sorts r) (λ s e. sorted ∙ global_target i u at s e);
    out_sorts = are_written new more_os (map (λ q. q.sort) a.outs) (place_of (param_names a.outs) u.target) id (are_stay now new more_os (map (λ q. q.sort) a.outs) h.out_sorts r) (λ s e. sorted ∙ out_target i u at s e);
    weighs = omega (arith, h.weighs, m.weighs (guard_scope program a) (fits_stay old now scope (guard_scope program a) g fits) (update_typed program a k i u at), update_weights-push program a (take i a.updates) u, ap (update_weights (guard_scope program a)) (take_next a.updates i u at));
  }
    where
      take_next : (us : List Update) (j : ℕ) (x : Update) → slice_get us j ≡ Some x → take (j + 1) us ≡ take j us ++ x ∷ []
      take_next us j x e = take_more us j x (slice_get_within us j x e) ∙ ap (λ y. take j us ++ y ∷ []) (get_or_from_slice_get us j x x e)

      sorted : sort_at new id ≡ sort_of (guard_scope program a) u.expr
      sorted = m.sorted (guard_scope program a) (fits_stay old now scope (guard_scope program a) g fits) (update_typed program a k i u at)

      written : (env : ℕ → Value) → Fits env new → (names : List Name) (ids more_ids : List ℕ) → values_at env new more_ids ≡ updated names (values_at env old ids) (meant env old scope) (take i a.updates)
          → values_at env new (set more_ids (place_of names u.target) id) ≡ updated names (values_at env old ids) (meant env old scope) (take (i + 1) a.updates)
      written env f names ids more_ids e =
          map_set (value_at env new) more_ids (place_of names u.target) id
          ∙ ap₂ (λ (vs : List Value) (v : Value). set vs (place_of names u.target) v) e (m.is env f ∙ ap (λ (s : Meant). value_of s u.expr) (meant_stays env old now scope (guard_scope program a) fits g))
          ∙ sym (updated-push names (values_at env old ids) (meant env old scope) (take i a.updates) u)
          ∙ ap (updated names (values_at env old ids) (meant env old scope)) (sym (take_next a.updates i u at))
