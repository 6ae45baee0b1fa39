-- What is held at the cut at which a frame stands is owned by its thread.
use Rattle.std.proofs.Common.{ℕ, zero, suc, ◌+◌, ◌≤◌, ◌≡◌, Bool, true, false, if◌then◌else◌, List, [], ◌∷◌, ◌++◌, length, take, drop, get_or, Some, None, Option, slice_get, sym, refl, ap, ◌∙◌, subst, arith, is_some}
use Rattle.std.proofs.lemmas.Bool.{false≢true}
use Rattle.std.proofs.lemmas.Option.{same_Some, none-some}
use Rattle.civl_bits.specs.declared.value.Value.{Value}
use Rattle.civl_firing.specs.values.Operators.{nothing}
use Rattle.civl_tree.specs.declared.name.Name.{Name}
use Rattle.civl_tree.specs.declared.stmt.Stmt.{Stmt, out-Stmt}
use Rattle.civl_tree.specs.declared.stmt.Stmt.TheOpen as stmt
use Rattle.civl_tree.specs.declared.program.Refines.{Refines}
use Rattle.civl_tree.specs.declared.program.Proc.{Proc}
use Rattle.civl_tree.specs.declared.program.Program.{Program}
use Rattle.civl_tree.specs.Numbering.{sizes_of, statements_of, statement_at}
use Rattle.civl_tree.specs.rules.Names.{names_in_proc}
use Rattle.civl_tree.specs.rules.Rules.{Keeps}
use Rattle.civl_tree.specs.rules.Typing.{typing_rules}
use Rattle.civl_meaning.specs.Permissions.{permissions_of_word}
use Rattle.civl_meaning.specs.Places.{is_skipped, skip_layer}
use Rattle.civl_meaning.specs.Rest.{Rest, rest_at, place_in}
use Rattle.civl_layers.specs.declared.cut.CutKind.{CutKind}
use Rattle.civl_layers.specs.Cuts.{cut_kind, cut_at, cuts_among}
use Rattle.civl_linear.specs.Held.{Traced, traced, traced_proc}
use Rattle.civl_linear.specs.Cuts.{held_numbers, held_at_cuts, held_under}
use Rattle.civl_linear.specs.LinearRules.{linear_rules}
use Rattle.civl_linear.proofs.Examples.{traced_form, traced_is}
use Rattle.civl_conditions.specs.paths.Ends.{cut_number}
use Rattle.civl_conditions.specs.paths.Seen.{IsProcOf}
use Rattle.civl_conditions.proofs.paths.Each.{EachIn, each_own}
use Rattle.civl_conditions.specs.Permissions.{held_at, of_held}
use Rattle.civl_reduction.specs.permissions.Owned.{held_before, of_flagged}
use Rattle.civl_reduction.proofs.permissions.Counting.{has, one_if, carriers}
use Rattle.civl_reduction.proofs.permissions.Flags.{IsWithin, within_less}
use Rattle.civl_reduction.proofs.permissions.Tracing.{Holding, holding_more}
use Rattle.civl_reduction.proofs.permissions.Standing.{at_place, place_is, all_numbered, told_before}
use Rattle.civl_reduction.specs.blocks.Cuts.{settled_layer, settled}

-- ---- what is held, as numbers and as flags

drop_more : (all : List Value) (n : ℕ) (v : Value) (vs : List Value) → drop n all ≡ v ∷ vs → (get_or all n nothing ≡ v) × (drop (suc n) all ≡ vs)
drop_more [] zero v vs e = absurd cc
drop_more [] (suc n) v vs e = absurd cc
drop_more (x ∷ xs) zero v vs e = (ap (λ (l : List Value). get_or l 0 nothing) e, ap (drop 1) e)
drop_more (x ∷ xs) (suc n) v vs e = drop_more xs n v vs e

pub numbers_flagged : (p : ℕ) (all : List Value) (names : List Name) (f : List Bool) (vs : List Value) (n : ℕ) → drop n all ≡ vs → length names ≤ length vs → carriers p (of_held (held_numbers n names f) all) ≤ carriers p (of_flagged f vs)
numbers_flagged p all [] f vs n e h = omega arith
numbers_flagged p all (x ∷ names) [] vs n e h = omega arith
numbers_flagged p all (x ∷ names) (b ∷ f) [] n e h = absurd (omega (arith, h))
numbers_flagged p all (x ∷ names) (b ∷ f) (v ∷ vs) n e h = go b (subst (λ (m : ℕ). carriers p (of_held (held_numbers m names f) all) ≤ carriers p (of_flagged f vs)) next (numbers_flagged p all names f vs (suc n) there.1 (omega (arith, h))))
  where
    there : (get_or all n nothing ≡ v) × (drop (suc n) all ≡ vs)
    there = drop_more all n v vs e

    next : suc n ≡ n + 1
    next = omega arith

    go : (c : Bool) → carriers p (of_held (held_numbers (n + 1) names f) all) ≤ carriers p (of_flagged f vs)
        → carriers p (of_held ((if c then n ∷ [] else []) ++ held_numbers (n + 1) names f) all) ≤ carriers p ((if c then permissions_of_word v ∷ [] else []) ++ of_flagged f vs)
    go false ih = ih
    go true ih = let same : one_if (has p (permissions_of_word (get_or all n nothing))) ≡ one_if (has p (permissions_of_word v)) = ap (λ (w : Value). one_if (has p (permissions_of_word w))) there.0 in omega (arith, ih, same)

-- the numbers held at a cut are those of what is held before its statement
held_there : (names : List Name) (at n : ℕ) (ss : List Stmt) (befores : List (List Bool)) (s : Stmt) (k : CutKind) (held : List Bool) → slice_get ss n ≡ Some s → cut_kind s ≡ Some k → slice_get befores n ≡ Some held
    → get_or (held_at_cuts names ss befores) (length (cuts_among at (take n ss))) [] ≡ held_numbers 0 names held
unfolding cuts_among
held_there names at n [] befores s k held e h g = absurd (none-some s e)
held_there names at n (x ∷ xs) [] s k held e h g = absurd (none-some held g)
held_there names at zero (x ∷ xs) (b ∷ bs) s k held e h g =
    ap (λ (o : Option CutKind). get_or ((if is_some o then held_numbers 0 names b ∷ [] else []) ++ held_at_cuts names xs bs) 0 []) (ap cut_kind (same_Some x s e) ∙ h)
    ∙ ap (held_numbers 0 names) (same_Some b held g)
held_there names at (suc n) (x ∷ xs) (b ∷ bs) s k held e h g = go (cut_kind x) (held_there names (at + 1) n xs bs s k held e h g)
  where
    go : (o : Option CutKind) → get_or (held_at_cuts names xs bs) (length (cuts_among (at + 1) (take n xs))) [] ≡ held_numbers 0 names held
        → get_or ((if is_some o then held_numbers 0 names b ∷ [] else []) ++ held_at_cuts names xs bs) (length (cut_at at o ++ cuts_among (at + 1) (take n xs))) [] ≡ held_numbers 0 names held
    go None ih = ih
    go (Some c) ih = ih

-- ---- along what is still to run

-- past commits, intros and yields
pub data Skips : Rest → Rest → Type 0 where
  stays : {k : Rest} → Skips k k
  passes : {q : ℕ × Stmt} {r k : Rest} → is_skipped q.1 ≡ true → Skips r k → Skips (q ∷ r) k

pub settled_skips : (r : Rest) → Skips r (settled r)
settled_skips [] = stays
settled_skips (q ∷ k) = by_layer (out-Stmt q.1) refl (settled_skips k)
  where
    by_layer : (d : stmt.Stmt-F Stmt) → out-Stmt q.1 ≡ d → Skips k (settled k) → Skips (q ∷ k) (settled_layer d (q ∷ k) (settled k))
    by_layer stmt.Commit e ih = passes (ap skip_layer e) ih
    by_layer (stmt.Intro x v) e ih = passes (ap skip_layer e) ih
    by_layer _ e ih = stays

skips_each : (Holds : ℕ → Stmt → Type 0) (r k : Rest) → Skips r k → EachIn Holds r → EachIn Holds k
skips_each Holds r _ stays h = h
skips_each Holds _ k (passes e s) h = skips_each Holds _ k s h.1

module _ (program : Program) (typed : Keeps typing_rules program) (linear : Keeps linear_rules program) (step i : ℕ) (proc : Proc) (of : IsProcOf program i step proc) where
  abbrev names : List Name
  names = names_in_proc proc

  abbrev H : ℕ → List Bool
  H = held_before program proc

  abbrev end : ℕ
  end = sizes_of proc.body

  layer_passed : (d : stmt.Stmt-F Stmt) (held : List Bool) → skip_layer d ≡ true → (traced_form program names d held).after ≡ held
  layer_passed (stmt.Yield e) held h = refl
  layer_passed stmt.Commit held h = refl
  layer_passed (stmt.Intro x e) held h = refl
  layer_passed _ held h = absurd (false≢true h)

  passed : (s : Stmt) (held : List Bool) → is_skipped s ≡ true → (traced program names s held).after ≡ held
  passed s held h = ap (λ (t : Traced). t.after) (traced_is program names s held) ∙ layer_passed (out-Stmt s) held h

  skips_hold : (r k : Rest) → Skips r k → (held : List Bool) → Holding program names H end r held → Holding program names H end k held
  skips_hold r _ stays held h = h
  skips_hold _ k (passes {q = q} e s) held h =
      skips_hold _ k s held (holding_more program names H end _ (traced program names q.1 (H q.0)).after held (subst (λ (f : List Bool). IsWithin f held) (sym (passed q.1 (H q.0) e)) h.0) h.2)

  own_first : (r : Rest) (held : List Bool) → Holding program names H end r held → Holding program names H end r (H (place_in end r))
  own_first [] held h = λ j e. e
  own_first (q ∷ k) held h = ((λ j e. e), h.1, h.2)

  holds_at : (w : ℕ) → w ≤ end → Holding program names H end (rest_at proc.body w) (H w)
  holds_at w h =
      let r = at_place program typed linear i proc of.there w in
      subst (λ m. Holding program names H end (rest_at proc.body w) (H m)) (place_is program typed linear i proc of.there w h) (own_first (rest_at proc.body w) r.0 r.1)

  -- what is held at the cut of this statement
  held_at_cut : (n : ℕ) (s : Stmt) (k : CutKind) → statement_at proc.body n ≡ Some s → cut_kind s ≡ Some k → held_at program proc (cut_number proc n) ≡ held_numbers 0 names (H n)
  held_at_cut n s k here cut = by_refines proc.refines of.refined
    where
      befores : List (List Bool)
      befores = (traced_proc program proc).befores

      below : (r : Refines) → get_or (held_under program proc (Some r)) (1 + length (cuts_among 0 (take n (statements_of proc.body)))) [] ≡ held_numbers 0 names (H n)
      below r =
          let next : 1 + length (cuts_among 0 (take n (statements_of proc.body))) ≡ suc (length (cuts_among 0 (take n (statements_of proc.body)))) = omega arith in
          ap (λ (m : ℕ). get_or (held_under program proc (Some r)) m []) next
          ∙ held_there names 0 n (statements_of proc.body) (traced_proc program proc).befores s k (H n) here cut (told_before program typed linear i proc of.there n s here)

      by_refines : (o : Option Refines) → o ≡ Some of.refines → get_or (held_under program proc o) (1 + length (cuts_among 0 (take n (statements_of proc.body)))) [] ≡ held_numbers 0 names (H n)
      by_refines None g = absurd (none-some of.refines g)
      by_refines (Some r) g = below r

  -- a frame that stands at a place, from which nothing but commits, intros and yields comes before this cut
  pub cut_owned : (w : ℕ) → w ≤ end → (locals : List Value) → length locals ≡ length names → (n : ℕ) (s : Stmt) (k : CutKind) (behind : Rest) → Skips (rest_at proc.body w) ((n, s) ∷ behind) → cut_kind s ≡ Some k → (p : ℕ)
      → carriers p (of_held (held_at program proc (cut_number proc n)) locals) ≤ carriers p (of_flagged (H w) locals)
  cut_owned w fits locals count n s k behind skips cut p =
      let each = skips_each (λ m t. statement_at proc.body m ≡ Some t) (rest_at proc.body w) ((n, s) ∷ behind) skips (all_numbered program typed linear i proc of.there w) in
      let here = each_own (λ m t. statement_at proc.body m ≡ Some t) n s each.0 in
      let holds = skips_hold (rest_at proc.body w) ((n, s) ∷ behind) skips (H w) (holds_at w fits) in
      let one = subst (λ (ns : List ℕ). carriers p (of_held ns locals) ≤ carriers p (of_flagged (H n) locals)) (sym (held_at_cut n s k here cut)) (numbers_flagged p locals names (H n) locals 0 refl (omega (arith, count))) in
      let two = within_less p (H n) (H w) locals holds.0 in
      omega (arith, one, two)
