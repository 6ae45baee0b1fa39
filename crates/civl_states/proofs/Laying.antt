-- The variables of a path's beginning, group by group.
use Rattle.std.specs.Prelude.{map, take, drop, filter, slice_get, if◌then◌else◌, IsTrue}
use Rattle.std.proofs.Common.{◌≡◌, ◌∙◌, ℕ, zero, suc, ◌+◌, ◌≤◌, Bool, true, false, List, [], ◌∷◌, ◌++◌, length, refl, sym, ap, ap₂, subst, arith, Option, Some}
use Rattle.std.proofs.lemmas.List.{length-map, length-append, map-append, take-map, drop-map, take_at, drop_at}
use Rattle.civl_bits.specs.declared.value.Value.{Value}
use Rattle.civl_tree.specs.declared.expr.Sort.{Sort}
use Rattle.civl_tree.specs.declared.expr.Sort.TheVariants.{Bool as Truth}
use Rattle.civl_tree.specs.declared.program.Global.{Global}
use Rattle.civl_tree.specs.declared.program.Proc.{Proc}
use Rattle.civl_tree.specs.rules.Uses.{param_sorts}
use Rattle.civl_firing.specs.values.Values.{is_true, zero_of, is_sort, sort_of_value}
use Rattle.civl_firing.proofs.values.Zeros.{zeros_have_their_sorts}
use Rattle.civl_firing.specs.Scope.{zeros_of_params, zeros_of_locals}
use Rattle.civl_meaning.specs.Config.{frame_sorts}
use Rattle.civl_meaning.specs.Change.{outs_in}
use Rattle.civl_terms.specs.declared.node.Node.{Node}
use Rattle.civl_terms.specs.declared.node.Node.TheVariants.{Variable}
use Rattle.civl_terms.specs.Graphs.{value_at, sort_at}
use Rattle.civl_terms.specs.Building.{Numbers, Built, Grows}
use Rattle.civl_terms.proofs.Soundness.{sort_is}
use Rattle.civl_terms.proofs.Growing.{lengthened}
use Rattle.civl_actions.proofs.Building.{truth_value}
use Rattle.civl_states.specs.formula_parts.Said.{Env, IsTest}
use Rattle.civl_states.specs.formula_parts.Lists.{AreSaid}
use Rattle.civl_states.proofs.formula_parts.Listing.{said_more}
use Rattle.civl_states.specs.Groups.{StandFrom}
use Rattle.civl_states.specs.Laying.{sorts_where, inner_sorts}

-- ---- one variable

here_of : (n : ℕ) (xs : List Sort) (s : Sort) (ys : List Sort) → drop n xs ≡ s ∷ ys → slice_get xs n ≡ Some s
here_of zero [] s ys e = absurd (cc)
here_of zero (x ∷ xs) s ys e = let q : x ≡ s = cc in ap (λ (t : Sort). Some t) q
here_of (suc n) [] s ys e = absurd (cc)
here_of (suc n) (x ∷ xs) s ys e = here_of n xs s ys e

pub stand_here : (sorts : List Sort) (first : ℕ) (s : Sort) (more : List Sort) → StandFrom sorts first (s ∷ more) → slice_get sorts first ≡ Some s
stand_here sorts first s more h = here_of first sorts s (more ++ h.rest) h.is

pub flag_said : (old new : List Node) (number id : ℕ) → Numbers old new (Variable number Truth) id → Built old new id (λ env. env number) (Some Truth) 1 → IsTest new id (λ env. is_true (env number))
flag_said old new number id n b = record { sorted = b.sorted; is = λ env f. b.is env f ∙ truth_value (env number) (f id number Truth n.is) }

-- ---- groups that are there at some cuts alone

pub where_there : (b : Bool) (sorts : List Sort) (first : ℕ) (group : List Sort) → b ≡ true → StandFrom sorts first (sorts_where b group) → StandFrom sorts first group
where_there b sorts first group e s = subst (λ (c : Bool). StandFrom sorts first (sorts_where c group)) e s

pub said_then : (b : Bool) (ns : List Node) (ids : List ℕ) (ss : List Sort) (f g : Env → List Value) → b ≡ true → AreSaid ns ids ss f → AreSaid ns ids ss (λ env. if b then f env else g env)
said_then b ns ids ss f g e s = subst (λ (c : Bool). AreSaid ns ids ss (λ env. if c then f env else g env)) (sym e) s

pub said_else : (b : Bool) (ns : List Node) (ids : List ℕ) (ss : List Sort) (f g : Env → List Value) → b ≡ false → AreSaid ns ids ss g → AreSaid ns ids ss (λ env. if b then f env else g env)
said_else b ns ids ss f g e s = subst (λ (c : Bool). AreSaid ns ids ss (λ env. if c then f env else g env)) (sym e) s

-- ---- zeros

zeros_twice : {A : Type 0} (f : A → Sort) (xs : List A) → map zero_of (map f xs) ≡ map (λ x. zero_of (f x)) xs
zeros_twice f [] = refl
zeros_twice f (x ∷ xs) = ap (λ (vs : List Value). zero_of (f x) ∷ vs) (zeros_twice f xs)

pub inner_zeros : (proc : Proc) → map zero_of (inner_sorts proc) ≡ zeros_of_params proc.outs ++ zeros_of_locals proc.locals
inner_zeros proc =
    map-append zero_of (param_sorts proc.outs) (map (λ l. l.sort) proc.locals)
    ∙ ap₂ (λ (us vs : List Value). us ++ vs) (zeros_twice (λ p. p.sort) proc.outs) (zeros_twice (λ l. l.sort) proc.locals)

pub zero_more : (old now : List Node) (ids more : List ℕ) (ss : List Sort) (s : Sort) (v : Value) (id : ℕ) → AreSaid old ids ss (λ env. map zero_of ss) → IsTrue (is_sort s) → Grows old now → v ≡ zero_of s
    → Built old now id (λ env. v) (Some (sort_of_value v)) 0 → more ≡ ids ++ id ∷ [] → AreSaid now more (ss ++ s ∷ []) (λ env. map zero_of (ss ++ s ∷ []))
zero_more old now ids more ss s v id said limit g e b m =
    let one : AreSaid now (id ∷ []) (s ∷ []) (λ env. zero_of s ∷ []) =
    record {
      sorted = ap (λ (o : Option Sort). o ∷ []) (b.sorted ∙ ap (λ (u : Value). Some (sort_of_value u)) e ∙ ap (λ (t : Sort). Some t) (sort_is (zero_of s) s (zeros_have_their_sorts s limit)));
      are = λ env f. ap (λ (u : Value). u ∷ []) (b.is env f ∙ e);
    } in
    let both = said_more old now ids (id ∷ []) ss (s ∷ []) (λ env. map zero_of ss) (λ env. zero_of s ∷ []) (lengthened old now g) said one in
    subst (λ (xs : List ℕ). AreSaid now xs (ss ++ s ∷ []) (λ env. map zero_of (ss ++ s ∷ []))) (sym m)
    (record { sorted = both.sorted; are = λ env f. both.are env f ∙ sym (map-append zero_of ss (s ∷ [])) })

-- ---- the outputs among the values of a frame

module _ (ns : List Node) (proc : Proc) (ids : List ℕ) (f : Env → List Value) (s : AreSaid ns ids (frame_sorts proc) f) where
  pub frame_terms_long : length ids ≡ length proc.params + (length proc.outs + length proc.locals)
  frame_terms_long =
      sym (length-map ids (sort_at ns)) ∙ ap length s.sorted ∙ length-map (frame_sorts proc) (λ (t : Sort). Some t)
      ∙ length-append (param_sorts proc.params) (param_sorts proc.outs ++ map (λ l. l.sort) proc.locals)
      ∙ ap₂ (λ (a b : ℕ). a + b) (length-map proc.params (λ p. p.sort))
      (length-append (param_sorts proc.outs) (map (λ l. l.sort) proc.locals) ∙ ap₂ (λ (a b : ℕ). a + b) (length-map proc.outs (λ p. p.sort)) (length-map proc.locals (λ l. l.sort)))

  pub outs_said : AreSaid ns (take (length proc.outs) (drop (length proc.params) ids)) (param_sorts proc.outs) (λ env. outs_in proc (f env))
  outs_said =
      let p = length proc.params in
      let o = length proc.outs in
      let here : take o (drop p (frame_sorts proc)) ≡ param_sorts proc.outs =
      ap (take o) (drop_at (param_sorts proc.params) (param_sorts proc.outs ++ map (λ l. l.sort) proc.locals) p (length-map proc.params (λ q. q.sort)))
      ∙ take_at (param_sorts proc.outs) (map (λ l. l.sort) proc.locals) o (length-map proc.outs (λ q. q.sort)) in
      record {
        sorted = sym (take-map (sort_at ns) o (drop p ids)) ∙ ap (take o) (sym (drop-map (sort_at ns) p ids) ∙ ap (drop p) s.sorted ∙ drop-map (λ (t : Sort). Some t) p (frame_sorts proc))
            ∙ take-map (λ (t : Sort). Some t) o (drop p (frame_sorts proc)) ∙ ap (map (λ (t : Sort). Some t)) here;
        are = λ env fits. sym (take-map (value_at env ns) o (drop p ids)) ∙ ap (take o) (sym (drop-map (value_at env ns) p ids) ∙ ap (drop p) (s.are env fits));
      }

pub inner_long : (proc : Proc) → length (inner_sorts proc) ≡ length proc.outs + length proc.locals
inner_long proc = length-append (param_sorts proc.outs) (map (λ l. l.sort) proc.locals) ∙ ap₂ (λ (a b : ℕ). a + b) (length-map proc.outs (λ p. p.sort)) (length-map proc.locals (λ l. l.sort))

-- so many globals at most pass a test
pub few_pass : (test : Global → Bool) (gs : List Global) → length (filter test gs) ≤ length gs
few_pass test [] = omega arith
few_pass test (g ∷ gs) = by (test g) (few_pass test gs)
  where
    by : (b : Bool) → length (filter test gs) ≤ length gs → length (if b then g ∷ filter test gs else filter test gs) ≤ length (g ∷ gs)
    by true l = omega (arith, l)
    by false l = omega (arith, l)
