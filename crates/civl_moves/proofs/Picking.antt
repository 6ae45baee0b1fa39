-- What stands behind both branches of an `if`.
use Rattle.std.specs.Prelude.{map, slice_index_or, take, IsSome, if◌then◌else◌, nat_eq}
use Rattle.std.proofs.Common.{◌≡◌, ◌∙◌, ℕ, zero, suc, ◌+◌, ◌<◌, Bool, true, false, ◌||◌, not, List, [], ◌∷◌, ◌++◌, length, refl, sym, ap, ap₂, subst, arith, Some, None, Option}
use Rattle.std.proofs.lemmas.List.{map-append, take_more}
use Rattle.std.proofs.lemmas.Bool.{false≢true}
use Rattle.std.proofs.lemmas.Option.{same_Some}
use Rattle.civl_bits.specs.declared.value.Value.{Value}
use Rattle.civl_bits.specs.declared.value.Value.TheVariants as value
use Rattle.civl_firing.specs.declared.store.Store.{Store}
use Rattle.civl_meaning.specs.Config.{frame_sorts}
use Rattle.civl_states.specs.formula_parts.Lists.{AreAlike}
use Rattle.civl_tree.specs.declared.expr.Sort.{Sort}
use Rattle.civl_tree.specs.declared.expr.Sort.TheVariants.{Bool as Truth}
use Rattle.civl_tree.specs.declared.program.Proc.{Proc}
use Rattle.civl_tree.specs.declared.program.Program.{Program}
use Rattle.civl_tree.specs.rules.Sorts.{common_sort, pick_sort}
use Rattle.civl_tree.proofs.Lists.{heads}
use Rattle.civl_firing.specs.values.Operators.{pick_value}
use Rattle.civl_firing.specs.values.Weights.{bits_in}
use Rattle.civl_firing.proofs.SortLimits.{same_self}
use Rattle.civl_terms.specs.declared.node.Node.{Node}
use Rattle.civl_terms.specs.Graphs.{value_at, sort_at}
use Rattle.civl_terms.specs.Building.{Grows, Built}
use Rattle.civl_actions.specs.Scopes.{AreOf}
use Rattle.civl_actions.specs.Actions.{values_at}
use Rattle.civl_actions.proofs.Staying.{are_stay, values_stay}
use Rattle.civl_states.specs.formula_parts.Said.{Env, IsTest, IsSaid}
use Rattle.civl_states.proofs.formula_parts.Saying.{sort_stays, said_stays, test_stays}
use Rattle.civl_states.proofs.formula_parts.Listing.{alike_at}
use Rattle.civl_moves.specs.sweeps.Sweeps.{joined}
use Rattle.civl_moves.specs.declared.branches.Front.{Front}
use Rattle.civl_moves.specs.declared.sweep.Sweep.{Sweep}
use Rattle.civl_moves.specs.Branches.{ArePicked, CanEnd, ended_at, differing}
use Rattle.civl_moves.specs.States.{bool_at, swept_at, IsBool, CanSweep, Moves}
use Rattle.civl_moves.proofs.States.{test_value, test_bool, bool_same, same_swept, stops_same, can_stays}

-- ---- one term

common_self : (s : Sort) → common_sort (Some s) (Some s) ≡ Some s
common_self s = ap (λ (b : Bool). if b then Some s else None) (same_self s)

pub pick_fits : (o p q : Option Sort) → o ≡ Some Truth → IsSome p → q ≡ p → IsSome (pick_sort o p q)
pick_fits o None q e h k = absurd (false≢true h)
pick_fits o (Some s) q e h k =
    let is : pick_sort o (Some s) q ≡ Some s = ap (λ (x : Option Sort). pick_sort x (Some s) q) e ∙ ap (common_sort (Some s)) k ∙ common_self s in
    subst (λ (x : Option Sort). IsSome x) (sym is) refl

pub picked_said : (old new : List Node) (test a b id : ℕ) (s : Sort) (t : Env → Bool) (f g : Env → Value) (w : ℕ) → Grows old new
    → Built old new id (λ env. pick_value (value_at env old test) (value_at env old a) (value_at env old b)) (pick_sort (sort_at old test) (sort_at old a) (sort_at old b)) w
    → IsTest old test t → IsSaid old a s f → IsSaid old b s g → IsSaid new id s (λ env. if t env then f env else g env)
picked_said old new test a b id s t f g w r u c p q = record {
  sorted = u.sorted ∙ ap (λ (x : Option Sort). pick_sort x (sort_at old a) (sort_at old b)) c.sorted ∙ ap₂ common_sort p.sorted q.sorted ∙ common_self s;
  is = λ env fits.
      let there = r.fits env fits in
      u.is env fits ∙ ap (λ (x : Value). pick_value x (value_at env old a) (value_at env old b)) (c.is env there) ∙ ap₂ (λ (x y : Value). if t env then x else y) (p.is env there) (q.is env there);
}

either_same : (c : Bool) (x y z : Value) → z ≡ x → z ≡ y → z ≡ (if c then x else y)
either_same true x y z p q = p
either_same false x y z p q = q

pub same_said : (ns : List Node) (test a b : ℕ) (s : Sort) (t : Env → Bool) (f g : Env → Value) → a ≡ b → IsTest ns test t → IsSaid ns a s f → IsSaid ns b s g → IsSaid ns a s (λ env. if t env then f env else g env)
same_said ns test a b s t f g e c p q = record {
  sorted = p.sorted;
  is = λ env fits. either_same (t env) (f env) (g env) (value_at env ns a) (p.is env fits) (ap (value_at env ns) e ∙ q.is env fits);
}

-- ---- lists

pub picked_none : (ns : List Node) (test : ℕ) → ArePicked ns ns test [] [] [] []
picked_none ns test = record { are = λ env f. both (bool_at env ns test); sorted = refl }
  where
    both : (b : Bool) → ◌≡◌ {A = List Value} [] (if b then [] else [])
    both true = refl
    both false = refl

each_side : (b : Bool) (xs ys : List Value) (x y : Value) → ((if b then xs else ys) ++ (if b then x else y) ∷ []) ≡ (if b then xs ++ x ∷ [] else ys ++ y ∷ [])
each_side true xs ys x y = refl
each_side false xs ys x y = refl

picked_push : (old now new : List Node) (test : ℕ) (ss : List Sort) (s : Sort) (xs ys ids : List ℕ) (x y id : ℕ) → ArePicked old now test ss xs ys ids → Grows now new
    → IsSaid new id s (λ env. if bool_at env old test then value_at env old x else value_at env old y) → ArePicked old new test (ss ++ s ∷ []) (xs ++ x ∷ []) (ys ++ y ∷ []) (ids ++ id ∷ [])
picked_push old now new test ss s xs ys ids x y id h g t = record {
  are = λ env f.
      let b = bool_at env old test in
      map-append (value_at env new) ids (id ∷ [])
      ∙ ap₂ (λ (vs : List Value) (v : Value). vs ++ v ∷ []) (values_stay env now new ids ss h.sorted g ∙ h.are env (g.fits env f)) (t.is env f)
      ∙ each_side b (values_at env old xs) (values_at env old ys) (value_at env old x) (value_at env old y)
      ∙ ap₂ (λ (us vs : List Value). if b then us else vs) (sym (map-append (value_at env old) xs (x ∷ []))) (sym (map-append (value_at env old) ys (y ∷ [])));
  sorted =
      map-append (sort_at new) ids (id ∷ []) ∙ ap₂ (λ (os : List (Option Sort)) (o : Option Sort). os ++ o ∷ []) (are_stay now new ids ss h.sorted g) t.sorted
      ∙ sym (map-append (λ (r : Sort). Some r) ss (s ∷ []));
}

sorts_more : (ns : List Node) (xs : List ℕ) (ss : List Sort) (i : ℕ) (s : Sort) → AreOf ns xs ss → i < length xs → sort_at ns (slice_index_or xs i 0) ≡ Some s → take (suc i) ss ≡ take i ss ++ s ∷ []
sorts_more ns [] ss i s h l e = absurd (omega arith)
sorts_more ns (x ∷ xs) [] i s h l e = absurd (cc)
sorts_more ns (x ∷ xs) (r ∷ ss) zero s h l e =
    let p = heads (sort_at ns x) (Some r) (map (sort_at ns) xs) (map (λ (t : Sort). Some t) ss) h in
    ap (λ (q : Sort). q ∷ []) (same_Some r s (sym p.0 ∙ e))
sorts_more ns (x ∷ xs) (r ∷ ss) (suc i) s h l e =
    let p = heads (sort_at ns x) (Some r) (map (sort_at ns) xs) (map (λ (t : Sort). Some t) ss) h in
    ap (λ (q : List Sort). r ∷ q) (sorts_more ns xs ss i s p.1 (omega (arith, l)) e)

pub picked_step : (old now new : List Node) (test : ℕ) (ss : List Sort) (xs ys ids more : List ℕ) (i id : ℕ) → Grows old now → Grows now new → IsBool old test → AreOf old xs ss → AreOf old ys ss → i < length xs
    → ArePicked old now test (take i ss) (take i xs) (take i ys) ids
    → ((s : Sort) (t : Env → Bool) (f g : Env → Value) → IsTest now test t → IsSaid now (slice_index_or xs i 0) s f → IsSaid now (slice_index_or ys i 0) s g → IsSaid new id s (λ env. if t env then f env else g env))
    → more ≡ ids ++ id ∷ [] → ArePicked old new test (take (i + 1) ss) (take (i + 1) xs) (take (i + 1) ys) more
picked_step old now new test ss xs ys ids more i id w g b hx hy l h said m =
    let one : i + 1 ≡ suc i = omega arith in
    let r = alike_at old xs ys ss i hx hy l in
    let s = r.0 in
    let x = slice_index_or xs i 0 in
    let y = slice_index_or ys i 0 in
    let tx : IsSaid old x s (λ env. value_at env old x) = record { sorted = r.2; is = λ env f. refl } in
    let ty : IsSaid old y s (λ env. value_at env old y) = record { sorted = r.3; is = λ env f. refl } in
    let t = said s (λ env. bool_at env old test) (λ env. value_at env old x) (λ env. value_at env old y) (test_stays old now test _ w b) (said_stays old now x s _ w tx) (said_stays old now y s _ w ty) in
    let e1 = ap (λ (k : ℕ). take k ss) one ∙ sorts_more old xs ss i s hx l r.2 in
    let e2 = take_more xs i 0 l in
    let e3 = take_more ys i 0 r.1 in
    subst (λ (zs : List ℕ). ArePicked old new test (take (i + 1) ss) (take (i + 1) xs) (take (i + 1) ys) zs) (sym m)
    (subst (λ (zs : List ℕ). ArePicked old new test (take (i + 1) ss) (take (i + 1) xs) zs (ids ++ id ∷ [])) (sym e3)
    (subst (λ (zs : List ℕ). ArePicked old new test (take (i + 1) ss) zs (take i ys ++ y ∷ []) (ids ++ id ∷ [])) (sym e2)
    (subst (λ (zs : List Sort). ArePicked old new test zs (take i xs ++ x ∷ []) (take i ys ++ y ∷ []) (ids ++ id ∷ [])) (sym e1)
    (picked_push old now new test (take i ss) s (take i xs) (take i ys) ids x y id h g t))))

-- ---- weights

differ_suc : (ns : List Node) (xs ys : List ℕ) (i : ℕ) → i < length xs → i < length ys
    → differing ns (take (suc i) xs) (take (suc i) ys) ≡ differing ns (take i xs) (take i ys) + (if nat_eq (slice_index_or xs i 0) (slice_index_or ys i 0) then 0 else bits_in (sort_at ns (slice_index_or xs i 0)))
differ_suc ns [] ys i h k = absurd (omega arith)
differ_suc ns (x ∷ xs) [] i h k = absurd (omega arith)
differ_suc ns (x ∷ xs) (y ∷ ys) zero h k = omega arith
differ_suc ns (x ∷ xs) (y ∷ ys) (suc i) h k = omega (arith, differ_suc ns xs ys i (omega (arith, h)) (omega (arith, k)))

pub differ_next : (ns now : List Node) (xs ys : List ℕ) (ss : List Sort) (i : ℕ) → Grows ns now → AreOf ns xs ss → AreOf ns ys ss → i < length xs
    → differing ns (take (i + 1) xs) (take (i + 1) ys) ≡ differing ns (take i xs) (take i ys) + (if nat_eq (slice_index_or xs i 0) (slice_index_or ys i 0) then 0 else bits_in (sort_at now (slice_index_or xs i 0)))
differ_next ns now xs ys ss i g hx hy l =
    let r = alike_at ns xs ys ss i hx hy l in
    let one : suc i ≡ i + 1 = omega arith in
    let same = sort_stays ns now (slice_index_or xs i 0) r.0 g r.2 ∙ sym r.2 in
    subst (λ (k : ℕ). differing ns (take k xs) (take k ys) ≡ differing ns (take i xs) (take i ys) + (if nat_eq (slice_index_or xs i 0) (slice_index_or ys i 0) then 0 else bits_in (sort_at ns (slice_index_or xs i 0)))) one (differ_suc ns xs ys i l r.1)
    ∙ ap (λ (o : Option Sort). differing ns (take i xs) (take i ys) + (if nat_eq (slice_index_or xs i 0) (slice_index_or ys i 0) then 0 else bits_in o)) (sym same)

pub differ_stays : (old new : List Node) (xs ys : List ℕ) (ss : List Sort) → Grows old new → AreOf old xs ss → differing new xs ys ≡ differing old xs ys
differ_stays old new [] ys ss g h = refl
differ_stays old new (x ∷ xs) [] ss g h = refl
differ_stays old new (x ∷ xs) (y ∷ ys) [] g h = absurd (cc)
differ_stays old new (x ∷ xs) (y ∷ ys) (s ∷ ss) g h =
    let p = heads (sort_at old x) (Some s) (map (sort_at old) xs) (map (λ (t : Sort). Some t) ss) h in
    ap₂ (λ (a b : ℕ). a + b) (ap (λ (o : Option Sort). if nat_eq x y then 0 else bits_in o) (sort_stays old new x s g p.0 ∙ sym p.0)) (differ_stays old new xs ys ss g p.1)

-- ---- the same lists

pub alike_of : (ns : List Node) (xs ys us vs : List ℕ) → us ≡ xs → vs ≡ ys → AreAlike ns xs ys → AreAlike ns us vs
alike_of ns xs ys us vs p q a = record {
  sorts = a.sorts;
  first = subst (λ (is : List ℕ). AreOf ns is a.sorts) (sym p) a.first;
  second = subst (λ (is : List ℕ). AreOf ns is a.sorts) (sym q) a.second;
}

pub picked_of : (old new : List Node) (test : ℕ) (xs ys us vs ids : List ℕ) → us ≡ xs → vs ≡ ys → ((ss : List Sort) → AreOf old us ss → AreOf old vs ss → ArePicked old new test ss us vs ids)
    → (ss : List Sort) → AreOf old xs ss → AreOf old ys ss → ArePicked old new test ss xs ys ids
picked_of old new test xs ys us vs ids p q f =
    subst (λ (ls : List ℕ). (ss : List Sort) → AreOf old xs ss → AreOf old ls ss → ArePicked old new test ss xs ls ids) q
    (subst (λ (ls : List ℕ). (ss : List Sort) → AreOf old ls ss → AreOf old vs ss → ArePicked old new test ss ls vs ids) p f)

-- in a graph from before, and in one from behind
pub picked_since : (o m n : List Node) (test : ℕ) (ss : List Sort) (xs ys ids : List ℕ) → Grows o m → IsBool o test → AreOf o xs ss → AreOf o ys ss → ArePicked m n test ss xs ys ids → ArePicked o n test ss xs ys ids
picked_since o m n test ss xs ys ids g b hx hy h = record {
  are = λ env f.
      h.are env f ∙ ap (λ (c : Bool). if c then values_at env m xs else values_at env m ys) (bool_same o m test g b env)
      ∙ ap₂ (λ (us vs : List Value). if bool_at env o test then us else vs) (values_stay env o m xs ss hx g) (values_stay env o m ys ss hy g);
  sorted = h.sorted;
}

pub picked_stays : (o m n : List Node) (test : ℕ) (ss : List Sort) (xs ys ids : List ℕ) → Grows m n → ArePicked o m test ss xs ys ids → ArePicked o n test ss xs ys ids
picked_stays o m n test ss xs ys ids g h = record {
  are = λ env f. values_stay env m n ids ss h.sorted g ∙ h.are env (g.fits env f);
  sorted = are_stay m n ids ss h.sorted g;
}

-- ---- behind both branches

if_bool : (c a b : Bool) → ◌≡◌ {A = Value} (if c then value.Bool a else value.Bool b) (value.Bool (if c then a else b))
if_bool true a b = refl
if_bool false a b = refl

pub as_said : (ns : List Node) (i : ℕ) (f : Env → Bool) → IsTest ns i f → IsSaid ns i Truth (λ env. value.Bool (f env))
as_said ns i f t = record { sorted = t.sorted; is = t.is }

pub picked_test : (ns : List Node) (i : ℕ) (t f g : Env → Bool) → IsSaid ns i Truth (λ env. if t env then value.Bool (f env) else value.Bool (g env)) → IsTest ns i (λ env. if t env then f env else g env)
picked_test ns i t f g h = record { sorted = h.sorted; is = λ env fits. h.is env fits ∙ if_bool (t env) (f env) (g env) }

abbrev store_of : List Value → Store
store_of vs = record { values = vs }

stored : (c : Bool) (us vs : List Value) → (if c then us else vs) ≡ (if c then store_of us else store_of vs).values
stored true us vs = refl
stored false us vs = refl

pub join_moves : (old new : List Node) (program : Program) (proc : Proc) (s : Sweep) (e : Front) (test live done : ℕ) (globals locals : List ℕ) (onward : Bool) → Grows old new → CanSweep old program proc s → CanEnd old program proc e
    → IsTest new live (λ env. bool_at env old e.live || bool_at env old s.live)
    → IsTest new done (λ env. if bool_at env old test then bool_at env old e.done else bool_at env old s.done)
    → ArePicked old new test (map (λ q. q.sort) program.globals) e.globals s.globals globals → ArePicked old new test (frame_sorts proc) e.locals s.locals locals → onward ≡ e.onward || s.onward
    → Moves old new program proc s (record s { onward = onward; live = live; globals = globals; locals = locals; done = done }) (λ env d. joined (bool_at env old test) (ended_at env old e d) d)
join_moves old new program proc s e test live done globals locals onward g c k l d hg hl o =
    let now = can_stays old new program proc g s c in
    record {
      can = record { live = test_bool new live _ l; globals = hg.sorted; locals = hl.sorted; done = test_bool new done _ d; safe = now.safe; once = now.once; stops = now.stops };
      is = λ env f.
          let t = bool_at env old test in
          ap (λ (b : Bool). swept_at env new (record s { onward = b; live = live; globals = globals; locals = locals; done = done })) o
          ∙ same_swept (e.onward || s.onward) _ _ _ _ _ _ _ _ _ _ _ _ _ _ (test_value new live _ l env f)
          (hg.are env f ∙ stored t (values_at env old e.globals) (values_at env old s.globals)) (hl.are env f) (test_value new done _ d env f)
          (ap not (bool_same old new s.safe g c.safe env)) (ap not (bool_same old new s.once g c.once env)) (stops_same old new program proc g s.stops c.stops env);
    }
