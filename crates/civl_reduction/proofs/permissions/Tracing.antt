-- What is held along the rests of a body: each step from a place comes to one before which no more is held than behind it.
use Rattle.std.proofs.Common.{◌≡◌, ℕ, suc, ◌+◌, Bool, true, false, not, ◌||◌, List, [], ◌∷◌, ◌++◌, length, map, refl, sym, ap, ◌∙◌, subst, arith, Some, slice_get, map-id}
use Rattle.std.specs.Prelude.{nat_lt, nat_eq}
use Rattle.std.specs.List.{list_any}
use Rattle.std.proofs.lemmas.Bool.{false≢true, or_parts}
use Rattle.std.proofs.lemmas.List.{length-append}
use Rattle.std.proofs.lemmas.List.Folds.{list_any-append}
use Rattle.civl_tree.specs.declared.name.Name.{Name}
use Rattle.civl_tree.specs.declared.stmt.Stmt.{Stmt, out-Stmt, roll-Stmt, out-roll-Stmt, map-Stmt}
use Rattle.civl_tree.specs.declared.stmt.Stmt.TheOpen.{Stmt-F, If, While, YieldLoop, RankLoop}
use Rattle.civl_tree.specs.declared.stmt.Stmt.TheFolds.{ind-Stmt}
use Rattle.civl_tree.specs.declared.program.Program.{Program}
use Rattle.civl_tree.specs.Numbering.{size_of, sizes_of, numbered}
use Rattle.civl_tree.proofs.Numbers.{sizes_more, sizes_are_counts}
use Rattle.civl_tree.proofs.Lists.{get_front}
use Rattle.civl_tree.proofs.Bools.{either}
use Rattle.civl_meaning.specs.Rest.{Rest, rest_inside, rest_among, rest_at, place_in}
use Rattle.civl_meaning.proofs.Rests.{rest_layer, rest_is, among_rest, rest_none}
use Rattle.civl_linear.specs.Held.{Traced, traced, traced_all, both_held, covers}
use Rattle.civl_linear.specs.Lengths.{OneEach}
use Rattle.civl_linear.proofs.Examples.{traced_form, traced_is}
use Rattle.civl_linear.proofs.Beside.{body_beside}
use Rattle.civl_reduction.proofs.permissions.Flags.{IsWithin, within_then, covers_within, both_first, both_second}

right_at : {A : Type 0} (xs ys : List A) (j : ℕ) (a : A) → slice_get ys j ≡ Some a → (i : ℕ) × (i ≡ length xs + j) × (slice_get (xs ++ ys) i ≡ Some a)
right_at [] ys j a e = (j, omega arith, e)
right_at (x ∷ xs) ys j a e = let r = right_at xs ys j a e in let place = r.1 in (suc r.0, omega arith, r.2)

-- none of these loops loses what was held at its head
abbrev pub NoLoss : Traced → Type 0
NoLoss t = list_any (λ b. b) t.losses ≡ false

-- what was held first
head_held : (program : Program) (names : List Name) (form : Stmt-F Stmt) (held : List Bool) → slice_get (traced_form program names form held).befores 0 ≡ Some held
head_held program names (If e a b) held = refl
head_held program names (While e a) held = refl
head_held program names (YieldLoop e i a) held = refl
head_held program names (RankLoop e r i a) held = refl
head_held program names _ held = refl

-- a procedure with these names, where H tells what is held before each of its statements, and at the exit, whose number is `end`
module _ (program : Program) (names : List Name) (H : ℕ → List Bool) (end : ℕ) where
  -- H tells this of the numbers from here on
  abbrev pub Tells : ℕ → List (List Bool) → Type 0
  Tells at befores = (j n : ℕ) (held : List Bool) → n ≡ at + j → slice_get befores j ≡ Some held → H n ≡ held

  pub tells_left : (at : ℕ) (xs ys : List (List Bool)) → Tells at (xs ++ ys) → Tells at xs
  tells_left at xs ys h j n held e g = h j n held e (get_front xs ys j held g)

  pub tells_right : (at next : ℕ) (xs ys : List (List Bool)) → next ≡ at + length xs → Tells at (xs ++ ys) → Tells next ys
  tells_right at next xs ys f h j n held e g = let r = right_at xs ys j held g in let place = r.1 in h r.0 n held (omega arith) r.2

  pub no_left : (xs ys : List Bool) → list_any (λ b. b) (xs ++ ys) ≡ false → list_any (λ b. b) xs ≡ false
  no_left xs ys e = (or_parts _ _ (sym (list_any-append (λ b. b) xs ys) ∙ e)).0

  pub no_right : (xs ys : List Bool) → list_any (λ b. b) (xs ++ ys) ≡ false → list_any (λ b. b) ys ≡ false
  no_right xs ys e = (or_parts _ _ (sym (list_any-append (λ b. b) xs ys) ∙ e)).1

  -- going over the statement with this number, as H tells
  pub record Inside (n : ℕ) (s : Stmt) : Type 0 where
    pub each : OneEach names (H n)
    pub tells : Tells n (traced program names s (H n)).befores
    pub kept : NoLoss (traced program names s (H n))

  -- this is held where the rest begins, and what H tells lies in what is held
  abbrev pub Holding : Rest → List Bool → Type 0
  Holding [] held = IsWithin (H end) held
  Holding ((n, s) ∷ k) held = IsWithin (H n) held × Inside n s × Holding k (traced program names s (H n)).after

  pub holding_more : (r : Rest) (held more : List Bool) → IsWithin held more → Holding r held → Holding r more
  holding_more [] held more w h = within_then (H end) held more h w
  holding_more ((n, s) ∷ k) held more w h = (within_then (H n) held more h.0 w, h.1, h.2)

  pub first_within : (r : Rest) (held : List Bool) → Holding r held → IsWithin (H (place_in end r)) held
  first_within [] held h = h
  first_within ((n, s) ∷ k) held h = h.0

  -- ---- one statement

  one_beside : (s : Stmt) (held : List Bool) → OneEach names held → (length (traced program names s held).befores ≡ size_of s) × OneEach names (traced program names s held).after
  one_beside s held each =
      let b = body_beside names program (s ∷ []) held each in
      let n = length-append (traced program names s held).befores [] in
      let counts = sizes_are_counts (s ∷ []) in
      let alone = sizes_more s [] in
      let all = b.befores in
      (omega (arith, n, counts, alone, all), b.after)

  here_is : (s : Stmt) (held : List Bool) → slice_get (traced program names s held).befores 0 ≡ Some held
  here_is s held = ap (λ (t : Traced). slice_get t.befores 0) (traced_is program names s held) ∙ head_held program names (out-Stmt s) held

  pub inside_by : (at : ℕ) (s : Stmt) (held : List Bool) → OneEach names held → Tells at (traced program names s held).befores → NoLoss (traced program names s held) → Inside at s × (H at ≡ held)
  inside_by at s held each tells kept =
      let e : H at ≡ held = tells 0 at held (omega arith) (here_is s held) in (
        record {
          each = subst (OneEach names) (sym e) each;
          tells = subst (λ h. Tells at (traced program names s h).befores) (sym e) tells;
          kept = subst (λ h. NoLoss (traced program names s h)) (sym e) kept;
        },
        e,
      )

  -- ---- statements one behind the other

  pub list_holds : (ss : List Stmt) (at : ℕ) (k : Rest) (held : List Bool) → OneEach names held → Tells at (traced_all program names ss held).befores → NoLoss (traced_all program names ss held)
      → Holding k (traced_all program names ss held).after → Holding (numbered at ss ++ k) held
  list_holds [] at k held each tells kept h = h
  list_holds (s ∷ ss) at k held each tells kept h =
      let here = traced program names s held in
      let rest = traced_all program names ss here.after in
      let beside = one_beside s held each in
      let inside = inside_by at s held each (tells_left at here.befores rest.befores tells) (no_left here.losses rest.losses kept) in
      let size = beside.0 in
      let others = list_holds ss (at + size_of s) k here.after beside.1 (tells_right at (at + size_of s) here.befores rest.befores (omega arith) tells) (no_right here.losses rest.losses kept) h in
      (λ i e. subst (λ h. slice_get h i ≡ Some true) inside.1 e, inside.0, subst (λ h. Holding (numbered (at + size_of s) ss ++ k) (traced program names s h).after) (sym inside.1) others)

  -- ---- from any place on

  abbrev pub Some_held : Rest → Type 0
  Some_held r = (held : List Bool) × Holding r held

  -- what is to be shown of a statement
  abbrev Finds : Stmt → Type 0
  Finds s = (at : ℕ) (k : Rest) (w : ℕ) (held : List Bool) → OneEach names held → Tells at (traced program names s held).befores → NoLoss (traced program names s held)
      → Holding k (traced program names s held).after → Some_held (rest_inside s s at k w)

  among_finds : {S : Type 0} (ys : List S) (v : S → Stmt) → ((x : S) → Finds (v x)) → (at : ℕ) (k : Rest) (w : ℕ) (held : List Bool) → OneEach names held
      → Tells at (traced_all program names (map v ys) held).befores → NoLoss (traced_all program names (map v ys) held) → Holding k (traced_all program names (map v ys) held).after
      → Some_held (rest_among (map v ys) at k w)
  among_finds [] v f at k w held each tells kept h = subst Some_held (sym (rest_none at k w)) (held, h)
  among_finds (y ∷ ys) v f at k w held each tells kept h =
      let s = v y in
      let ss = map v ys in
      let here = traced program names s held in
      let rest = traced_all program names ss here.after in
      let beside = one_beside s held each in
      let size = beside.0 in
      let first = tells_left at here.befores rest.befores tells in
      let behind = tells_right at (at + size_of s) here.befores rest.befores (omega arith) tells in
      let others = list_holds ss (at + size_of s) k here.after beside.1 behind (no_right here.losses rest.losses kept) h in
      subst Some_held (sym (among_rest s ss at k w))
      (either Some_held (nat_lt w (at + size_of s)) _ _
      (either Some_held (nat_eq w at) _ _ (held, list_holds (s ∷ ss) at k held each tells kept h) (f y at (numbered (at + size_of s) ss ++ k) w held each first (no_left here.losses rest.losses kept) others))
      (among_finds ys v f (at + size_of s) k w here.after beside.1 behind (no_right here.losses rest.losses kept) h))

  pub not_not : (a b : Bool) → (not a || b) ≡ false → (a ≡ true) × (b ≡ false)
  not_not true b e = (refl, e)
  not_not false b e = absurd (false≢true (sym e))

  -- in the body of a loop, behind which the loop comes again
  loop_finds : {S : Type 0} (ys : List S) (v : S → Stmt) → ((x : S) → Finds (v x)) → (s : Stmt) (at : ℕ) (k : Rest) (w : ℕ) (held : List Bool) → OneEach names held
      → Tells at (traced program names s held).befores → NoLoss (traced program names s held) → Holding k (traced program names s held).after
      → Tells at (held ∷ (traced_all program names (map v ys) held).befores) → (not (covers held (traced_all program names (map v ys) held).after) || list_any (λ b. b) (traced_all program names (map v ys) held).losses) ≡ false
      → Some_held (rest_among (map v ys) (at + 1) ((at, s) ∷ k) w)
  loop_finds ys v f s at k w held each tells kept h inner losses =
      let body = traced_all program names (map v ys) held in
      let n = not_not (covers held body.after) (list_any (λ b. b) body.losses) losses in
      let inside = inside_by at s held each tells kept in
      let beside = body_beside names program (map v ys) held each in
      let same : length held ≡ length body.after = each ∙ sym beside.after in
      let covered : IsWithin held body.after = covers_within held body.after same n.0 in
      let again : Holding ((at, s) ∷ k) body.after = (λ i e. covered i (subst (λ h. slice_get h i ≡ Some true) inside.1 e), inside.0, subst (λ h. Holding k (traced program names s h).after) (sym inside.1) h) in
      among_finds ys v f (at + 1) ((at, s) ∷ k) w held each (tells_right at (at + 1) (held ∷ []) body.befores (omega arith) inner) n.1 again

  layer_finds : {S : Type 0} (d : Stmt-F S) (v : S → Stmt) → ((x : S) → Finds (v x)) → (s : Stmt) → (at : ℕ) (k : Rest) (w : ℕ) (held : List Bool) → traced program names s held ≡ traced_form program names (map-Stmt S Stmt v d) held → OneEach names held
      → Tells at (traced program names s held).befores → NoLoss (traced program names s held) → Holding k (traced program names s held).after → Some_held (rest_layer (map-Stmt S Stmt v d) s at k w)
  layer_finds (If e x y) v f s at k w held same each tells kept h =
      let first = traced_all program names (map v x) held in
      let second = traced_all program names (map v y) held in
      let beside = body_beside names program (map v x) held each in
      let all = subst (λ (t : Traced). Tells at t.befores) same tells in
      let losses : list_any (λ b. b) (first.losses ++ second.losses) ≡ false = subst NoLoss same kept in
      let parts = tells_right at (at + 1) (held ∷ []) (first.befores ++ second.befores) (omega arith) all in
      let behind : Holding k (both_held first.after second.after) = subst (λ (t : Traced). Holding k t.after) same h in
      let size : length first.befores ≡ sizes_of (map v x) = beside.befores ∙ sizes_are_counts (map v x) in
      either Some_held (nat_lt w (at + 1 + sizes_of (map v x))) _ _
      (among_finds x v f (at + 1) k w held each (tells_left (at + 1) first.befores second.befores parts) (no_left first.losses second.losses losses) (holding_more k _ first.after (both_first first.after second.after) behind))
      (among_finds y v f (at + 1 + sizes_of (map v x)) k w held each (tells_right (at + 1) (at + 1 + sizes_of (map v x)) first.befores second.befores (omega (arith, size)) parts) (no_right first.losses second.losses losses) (holding_more k _ second.after (both_second first.after second.after) behind))
  layer_finds (While e x) v f s at k w held same each tells kept h =
      loop_finds x v f s at k w held each tells kept h (subst (λ (t : Traced). Tells at t.befores) same tells) (subst NoLoss same kept)
  layer_finds (YieldLoop e i x) v f s at k w held same each tells kept h =
      loop_finds x v f s at k w held each tells kept h (subst (λ (t : Traced). Tells at t.befores) same tells) (subst NoLoss same kept)
  layer_finds (RankLoop e r i x) v f s at k w held same each tells kept h =
      loop_finds x v f s at k w held each tells kept h (subst (λ (t : Traced). Tells at t.befores) same tells) (subst NoLoss same kept)
  layer_finds _ v f s at k w held same each tells kept h = ((traced program names s held).after, h)

  finds : (s : Stmt) → Finds s
  finds s =
      ind-Stmt Finds (λ x y e at k w held each tells kept h.
      let r = roll-Stmt x in
      let q = out-roll-Stmt x ∙ sym e in
      subst Some_held (sym (rest_is r r at k w ∙ ap (λ (d : Stmt-F Stmt). rest_layer d r at k w) q))
      (layer_finds y (λ z. z.0) (λ z. z.1) r at k w held (traced_is program names r held ∙ ap (λ (d : Stmt-F Stmt). traced_form program names d held) q) each tells kept h)) s

  -- whatever place of the body: something is held where its rest begins
  pub rest_holds : (body : List Stmt) (held : List Bool) → OneEach names held → Tells 0 (traced_all program names body held).befores → NoLoss (traced_all program names body held) → IsWithin (H end) (traced_all program names body held).after
      → (w : ℕ) → Some_held (rest_at body w)
  rest_holds body held each tells kept h w =
      subst (λ (ss : List Stmt). Tells 0 (traced_all program names ss held).befores → NoLoss (traced_all program names ss held) → IsWithin (H end) (traced_all program names ss held).after → Some_held (rest_among ss 0 [] w)) (map-id body)
      (λ t n g. among_finds body (λ (s : Stmt). s) finds 0 [] w held each t n g) tells kept h
