-- A rest goes forward: behind each of its statements comes one with a greater number, or a loop.
use Rattle.std.proofs.Common.{◌≡◌, ℕ, ◌+◌, ◌<◌, ◌≤◌, Bool, true, false, List, [], ◌∷◌, ◌++◌, map, ◌⊎◌, inl, inr, Some, refl, sym, ap, ◌∙◌, subst, arith, map-id}
use Rattle.std.proofs.lemmas.Bool.{cases_lt, lt-ltb, le-ltb, true≢false}
use Rattle.std.proofs.lemmas.Option.{none-some, same_Some}
use Rattle.std.specs.Prelude.{if◌then◌else◌}
use Rattle.civl_tree.specs.declared.stmt.Stmt.{Stmt, out-Stmt, roll-Stmt, out-roll-Stmt, map-Stmt}
use Rattle.civl_tree.specs.declared.stmt.Stmt.TheOpen as stmt
use Rattle.civl_tree.specs.declared.stmt.Stmt.TheFolds.{ind-Stmt}
use Rattle.civl_tree.specs.Numbering.{size_of, sizes_of, numbered}
use Rattle.civl_tree.proofs.Numbers.{sizes_more}
use Rattle.civl_tree.proofs.Sizes.{size_is_some, size_by}
use Rattle.civl_meaning.specs.Places.{Spot, skip_layer, is_skipped}
use Rattle.civl_meaning.specs.Rest.{Rest, rest_inside, rest_among, rest_at, place_in, head_of}
use Rattle.civl_meaning.proofs.Rests.{rest_layer, rest_is, rest_none}
use Rattle.civl_conditions.proofs.paths.Belonging.{Belongs, at_first, in_first, past_first}
use Rattle.civl_reduction.specs.open_blocks.Following.{form_loops, IsNotBelow}

-- a rest begins with this number or a later one, or with a loop
abbrev pub Beyond : ℕ → Rest → Type 0
Beyond n [] = Unit {0}
Beyond n (q ∷ k) = (n ≤ q.0) ⊎ (form_loops (out-Stmt q.1) ≡ true)

abbrev pub Onward : Rest → Type 0
Onward [] = Unit {0}
Onward (q ∷ k) = Beyond (q.0 + size_of q.1) k × Onward k

pub beyond_less : (m n : ℕ) (k : Rest) → m ≤ n → Beyond n k → Beyond m k
beyond_less m n [] l b = tt
beyond_less m n (q ∷ k) l (inl i) = inl (omega (arith, l, i))
beyond_less m n (q ∷ k) l (inr i) = inr i

pub beyond_joined : (ss : List Stmt) (n at : ℕ) (k : Rest) → n ≤ at → Beyond (at + sizes_of ss) k → Beyond n (numbered at ss ++ k)
beyond_joined [] n at k l b = beyond_less n (at + sizes_of []) k (omega arith) b
beyond_joined (s ∷ ss) n at k l b = inl l

pub onward_joined : (ss : List Stmt) (at : ℕ) (k : Rest) → Beyond (at + sizes_of ss) k → Onward k → Onward (numbered at ss ++ k)
onward_joined [] at k b h = h
onward_joined (s ∷ ss) at k b h =
    let more = sizes_more s ss in
    let later = beyond_less (at + size_of s + sizes_of ss) (at + sizes_of (s ∷ ss)) k (omega arith) b in
    (beyond_joined ss (at + size_of s) (at + size_of s) k (omega arith) later, onward_joined ss (at + size_of s) k later h)

-- what is to be shown of a statement
abbrev Within : Stmt → Type 0
Within s = (at : ℕ) (k : Rest) (w : ℕ) → at < w → Beyond (at + size_of s) k → Onward k → Onward (rest_inside s s at k w)

among_onward : {S : Type 0} (ys : List S) (v : S → Stmt) → ((x : S) → Within (v x)) → (at : ℕ) (k : Rest) (w : ℕ) → at ≤ w → Beyond (at + sizes_of (map v ys)) k → Onward k → Onward (rest_among (map v ys) at k w)
among_onward [] v h at k w low b o = subst Onward (sym (rest_none at k w)) o
among_onward (y ∷ ys) v h at k w low b o =
    let s = v y in
    let ss = map v ys in
    let more = sizes_more s ss in
    let later = beyond_less (at + size_of s + sizes_of ss) (at + sizes_of (s ∷ ss)) k (omega arith) b in
    elim (cases_lt w (at + size_of s)) [
      | inl below ↦ elim (cases_lt at w) [
        | inl inside ↦
            subst Onward (sym (in_first s ss at k w inside below))
            (h y at (numbered (at + size_of s) ss ++ k) w inside (beyond_joined ss (at + size_of s) (at + size_of s) k (omega arith) later) (onward_joined ss (at + size_of s) k later o))
        | inr here ↦ subst Onward (sym (at_first s ss at k w (omega arith))) (onward_joined (s ∷ ss) at k b o)
      ]
      | inr above ↦ subst Onward (sym (past_first s ss at k w above)) (among_onward ys v h (at + size_of s) k w above later o)
    ]

loop_onward : {S : Type 0} (a : List S) (v : S → Stmt) → ((x : S) → Within (v x)) → (s : Stmt) → form_loops (out-Stmt s) ≡ true → (at : ℕ) (k : Rest) (w : ℕ) → at < w → Beyond (at + size_of s) k → Onward k → Onward (rest_among (map v a) (at + 1) ((at, s) ∷ k) w)
loop_onward a v h s loops at k w low b o = among_onward a v h (at + 1) ((at, s) ∷ k) w (omega arith) (inr loops) (b, o)

layer_onward : {S : Type 0} (d : stmt.Stmt-F S) (v : S → Stmt) → ((x : S) → Within (v x)) → (s : Stmt) → out-Stmt s ≡ map-Stmt S Stmt v d → (at : ℕ) (k : Rest) (w : ℕ) → at < w → Beyond (at + size_of s) k → Onward k → Onward (rest_layer (map-Stmt S Stmt v d) s at k w)
layer_onward (stmt.If e a b) v h s o at k w low y n =
    let size : size_of s ≡ 1 + sizes_of (map v a) + sizes_of (map v b) = size_by s (stmt.If e (map v a) (map v b)) o in
    elim (cases_lt w (at + 1 + sizes_of (map v a))) [
      | inl below ↦ rw (lt-ltb w (at + 1 + sizes_of (map v a)) below) (among_onward a v h (at + 1) k w (omega arith) (beyond_less (at + 1 + sizes_of (map v a)) (at + size_of s) k (omega arith) y) n)
      | inr above ↦ rw (le-ltb w (at + 1 + sizes_of (map v a)) above) (among_onward b v h (at + 1 + sizes_of (map v a)) k w above (beyond_less (at + 1 + sizes_of (map v a) + sizes_of (map v b)) (at + size_of s) k (omega arith) y) n)
    ]
layer_onward (stmt.While e a) v h s o at k w low y n = loop_onward a v h s (ap form_loops o) at k w low y n
layer_onward (stmt.YieldLoop e i a) v h s o at k w low y n = loop_onward a v h s (ap form_loops o) at k w low y n
layer_onward (stmt.RankLoop e r i a) v h s o at k w low y n = loop_onward a v h s (ap form_loops o) at k w low y n
layer_onward _ v h s o at k w low y n = n

within : (s : Stmt) → Within s
within s =
    ind-Stmt Within (λ x y e at k w low b o.
    let r = roll-Stmt x in
    let q = out-roll-Stmt x ∙ sym e in
    subst Onward (sym (rest_is r r at k w ∙ ap (λ (d : stmt.Stmt-F Stmt). rest_layer d r at k w) q))
    (layer_onward y (λ z. z.0) (λ z. z.1) r q at k w low b o)) s

-- what is still to run from any place goes forward
pub rest_onward : (body : List Stmt) (w : ℕ) → Onward (rest_at body w)
rest_onward body w =
    subst (λ (ss : List Stmt). Onward (rest_among ss 0 [] w)) (map-id body)
    (among_onward body (λ (s : Stmt). s) within 0 [] w (omega arith) tt tt)

-- ---- the next statement of a plain program

no_loop_skipped : (d : stmt.Stmt-F Stmt) → skip_layer d ≡ true → form_loops d ≡ false
no_loop_skipped (stmt.Yield i) e = refl
no_loop_skipped stmt.Commit e = refl
no_loop_skipped (stmt.Intro x v) e = refl
no_loop_skipped _ e = absurd (cc)

pub head_beyond : (end n : ℕ) (r : Rest) → Beyond n r → Onward r → IsNotBelow n (head_of end r)
head_beyond end n [] b o = tt
head_beyond end n (q ∷ k) b o = by_skip (is_skipped q.1) refl (head_beyond end n k)
  where
    by_skip : (skips : Bool) → is_skipped q.1 ≡ skips → (Beyond n k → Onward k → IsNotBelow n (head_of end k)) → IsNotBelow n (if skips then head_of end k else Some (record { number = q.0; stmt = q.1; next = place_in end k }))
    by_skip false e later = b
    by_skip true e later = elim b [
      | inl low ↦ let some = size_is_some q.1 in later (beyond_less n (q.0 + size_of q.1) k (omega (arith, low, some)) o.0) o.1
      | inr loops ↦ absurd (true≢false (sym loops ∙ no_loop_skipped (out-Stmt q.1) e))
    ]

-- the rest that begins with it
pub record Split (body : List Stmt) (s : Spot) : Type 0 where
  pub behind : Rest
  pub next : s.next ≡ place_in (sizes_of body) behind
  pub belongs : Belongs body ((s.number, s.stmt) ∷ behind)
  pub onward : Onward ((s.number, s.stmt) ∷ behind)

pub head_splits : (body : List Stmt) (r : Rest) (s : Spot) → Belongs body r → Onward r → head_of (sizes_of body) r ≡ Some s → Split body s
head_splits body [] s b o e = absurd (none-some s e)
head_splits body (q ∷ k) s b o e = by_skip (is_skipped q.1) (head_splits body k s b.1 o.1) e
  where
    by_skip : (skips : Bool) → (head_of (sizes_of body) k ≡ Some s → Split body s) → (if skips then head_of (sizes_of body) k else Some (record { number = q.0; stmt = q.1; next = place_in (sizes_of body) k })) ≡ Some s → Split body s
    by_skip true later e = later e
    by_skip false later e =
        subst (Split body) (same_Some (record { number = q.0; stmt = q.1; next = place_in (sizes_of body) k }) s e)
        (record { behind = k; next = refl; belongs = b; onward = o })
