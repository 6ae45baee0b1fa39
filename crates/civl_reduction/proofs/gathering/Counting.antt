-- Counting moves of others, and blocks.
use Rattle.std.proofs.Common.{ℕ, suc, ◌+◌, ◌≤◌, ◌≡◌, ◌≢◌, Bool, true, false, List, [], ◌∷◌, ◌++◌, length, Option, Some, None, refl, sym, ap, subst, ◌∙◌, arith, inl, inr}
use Rattle.std.specs.Prelude.{nat_eq, if◌then◌else◌}
use Rattle.std.specs.Option.{option_map_or}
use Rattle.std.proofs.lemmas.Bool.{cases_eq, eq-eqb, ne_eqb}
use Rattle.civl_reduction.specs.interleavings.Systems.{System}
use Rattle.civl_reduction.specs.interleavings.Runs.{SystemRuns, Opens}
use Rattle.civl_reduction.specs.gathering.Gathered.{own, others, AllPass, counted, blocks}
use Rattle.civl_reduction.proofs.gathering.Gathering.{own_mine, own_other, others_mine, others_other}

pub split_length : {M : Type 0} (mover : M → ℕ) (t : ℕ) (ms : List M) → length (own mover t ms) + length (others mover t ms) ≡ length ms
split_length mover t [] = refl
split_length mover t (m ∷ ms) = elim (cases_eq (mover m) t) [
  | inl w ↦ (let a = ap length (own_mine mover t m ms w) in let b = ap length (others_mine mover t m ms w) in let c = split_length mover t ms in omega (arith, a, b, c))
  | inr w ↦ (let a = ap length (own_other mover t m ms w) in let b = ap length (others_other mover t m ms w) in let c = split_length mover t ms in omega (arith, a, b, c))
]

pub others_more : {M : Type 0} (mover : M → ℕ) (t : ℕ) (ms ns : List M) → others mover t (ms ++ ns) ≡ others mover t ms ++ others mover t ns
others_more mover t [] ns = refl
others_more mover t (m ∷ ms) ns = elim (cases_eq (mover m) t) [
  | inl e ↦ others_mine mover t m (ms ++ ns) e ∙ (others_more mover t ms ns ∙ ap (λ l. l ++ others mover t ns) (sym (others_mine mover t m ms e)))
  | inr e ↦ others_other mover t m (ms ++ ns) e ∙ (ap (λ l. m ∷ l) (others_more mover t ms ns) ∙ ap (λ l. l ++ others mover t ns) (sym (others_other mover t m ms e)))
]

module _ {C M : Type 0} (S : System C M) (t : ℕ) where
  -- one layer
  abbrev pub count_one : M → List M → C → ℕ
  count_one m ms d = if nat_eq (S.mover m) t then (if S.inside d t then counted S t ms d else length ms) else 1 + counted S t ms d

  counted_step : (m : M) (ms : List M) (c d : C) → S.step c m ≡ Some d → counted S t (m ∷ ms) c ≡ count_one m ms d
  counted_step m ms c d s = ap (λ o. option_map_or (count_one m ms) o 0) s

  pub counted_other : (m : M) (ms : List M) (c d : C) → S.step c m ≡ Some d → S.mover m ≢ t → counted S t (m ∷ ms) c ≡ 1 + counted S t ms d
  counted_other m ms c d s w = counted_step m ms c d s ∙ ap (λ b. if b then (if S.inside d t then counted S t ms d else length ms) else 1 + counted S t ms d) (ne_eqb (S.mover m) t w)

  counted_mine : (m : M) (ms : List M) (c d : C) (b : Bool) → S.step c m ≡ Some d → S.mover m ≡ t → S.inside d t ≡ b → counted S t (m ∷ ms) c ≡ (if b then counted S t ms d else length ms)
  counted_mine m ms c d b s w i =
      counted_step m ms c d s
      ∙ (ap (λ b. if b then (if S.inside d t then counted S t ms d else length ms) else 1 + counted S t ms d) (eq-eqb (S.mover m) t w)
      ∙ ap (λ b. if b then counted S t ms d else length ms) i)

  pub counted_own : (m : M) (ms : List M) (c d : C) → S.step c m ≡ Some d → S.mover m ≡ t → S.inside d t ≡ true → counted S t (m ∷ ms) c ≡ counted S t ms d
  counted_own m ms c d s w i = counted_mine m ms c d true s w i

  pub counted_last : (m : M) (ms : List M) (c d : C) → S.step c m ≡ Some d → S.mover m ≡ t → S.inside d t ≡ false → counted S t (m ∷ ms) c ≡ length ms
  counted_last m ms c d s w i = counted_mine m ms c d false s w i

  -- no more than there are moves
  pub counted_few : (ms : List M) (c : C) → counted S t ms c ≤ length ms
  counted_few [] c = omega arith
  counted_few (m ∷ ms) c = go (S.step c m) (λ d. counted_few ms d)
    where
      by_tests : (a b : Bool) (d : C) → counted S t ms d ≤ length ms → (if a then (if b then counted S t ms d else length ms) else 1 + counted S t ms d) ≤ suc (length ms)
      by_tests true true d h = omega (arith, h)
      by_tests true false d h = omega arith
      by_tests false b d h = omega (arith, h)

      go : (o : Option C) → ((d : C) → counted S t ms d ≤ length ms) → option_map_or (count_one m ms) o 0 ≤ suc (length ms)
      go None ih = omega arith
      go (Some d) ih = by_tests (nat_eq (S.mover m) t) (S.inside d t) d (ih d)

  -- behind moves that leave the thread inside its block
  pub counted_behind : (ms ns : List M) (c d : C) → AllPass S t ms c d → counted S t (ms ++ ns) c ≡ length (others S.mover t ms) + counted S t ns d
  counted_behind [] ns c d a = let e = ap (counted S t ns) a in omega (arith, e)
  counted_behind (m ∷ ms) ns c d a = elim (cases_eq (S.mover m) t) [
    | inl w ↦ (let e = counted_own m (ms ++ ns) c a.0 a.1.0 w (a.1.1 w) in let f = counted_behind ms ns a.0 d a.2 in let g = ap length (others_mine S.mover t m ms w) in omega (arith, e, f, g))
    | inr w ↦ (let e = counted_other m (ms ++ ns) c a.0 a.1.0 w in let f = counted_behind ms ns a.0 d a.2 in let g = ap length (others_other S.mover t m ms w) in omega (arith, e, f, g))
  ]

  -- the thread's own moves
  pub counted_opens : (os : List M) (c x : C) → Opens S t os c x → counted S t os c ≡ 0
  counted_opens [] c x o = refl
  counted_opens (m ∷ os) c x o = counted_own m os c o.0 o.2 o.1 o.3 ∙ counted_opens os o.0 x o.4

  pub counted_opens_then : (os : List M) (m : M) (c x y : C) → Opens S t os c x → S.mover m ≡ t → S.step x m ≡ Some y → counted S t (os ++ m ∷ []) c ≡ 0
  counted_opens_then [] m c x y o w s = go (S.inside y t) refl
    where
      first : S.step c m ≡ Some y
      first = subst (λ z. S.step z m ≡ Some y) (sym o) s

      go : (b : Bool) → S.inside y t ≡ b → counted S t (m ∷ []) c ≡ 0
      go true i = counted_own m [] c y first w i
      go false i = counted_last m [] c y first w i
  counted_opens_then (n ∷ os) m c x y o w s = counted_own n (os ++ m ∷ []) c o.0 o.2 o.1 o.3 ∙ counted_opens_then os m o.0 x y o.4 w s

-- ---- blocks

module _ {C M : Type 0} (S : System C M) where
  abbrev pub block_end : Bool → ℕ
  block_end b = if b then 0 else 1

  pub blocks_step : (m : M) (ms : List M) (c d : C) → S.step c m ≡ Some d → blocks S (m ∷ ms) c ≡ block_end (S.inside d (S.mover m)) + blocks S ms d
  blocks_step m ms c d s = ap (λ o. option_map_or (λ d. block_end (S.inside d (S.mover m)) + blocks S ms d) o 0) s

  pub blocks_more : (ms ns : List M) (c d : C) → SystemRuns S.steps ms c d → blocks S (ms ++ ns) c ≡ blocks S ms c + blocks S ns d
  blocks_more [] ns c d r = let e = ap (blocks S ns) r in omega (arith, e)
  blocks_more (m ∷ ms) ns c d r =
      let a = blocks_step m (ms ++ ns) c r.0 r.1 in
      let b = blocks_step m ms c r.0 r.1 in
      let e = blocks_more ms ns r.0 d r.2 in
      omega (arith, a, b, e)

  -- moves that leave their thread inside its block end none
  pub blocks_opens : (t : ℕ) (os : List M) (c x : C) → Opens S t os c x → blocks S os c ≡ 0
  blocks_opens t [] c x o = refl
  blocks_opens t (m ∷ os) c x o =
      let a = blocks_step m os c o.0 o.2 in
      let i = ap block_end (subst (λ u. S.inside o.0 u ≡ true) (sym o.1) o.3) in
      let e = blocks_opens t os o.0 x o.4 in
      omega (arith, a, i, e)
