-- A walk passes statements in the order of the text.
use Rattle.std.proofs.Common.{◌≡◌, ℕ, zero, suc, ◌+◌, ◌<◌, ◌≤◌, Bool, true, false, List, [], ◌∷◌, ◌++◌, map, refl, sym, ap, ◌∙◌, subst, append_assoc, Option, arith, map-id}
use Rattle.std.proofs.lemmas.List.{append-nil}
use Rattle.std.specs.List.Sorted.{IsStrictlyIncreasing}
use Rattle.std.specs.Prelude.{slice_index, nat_lt, if◌then◌else◌}
use Rattle.std.specs.Option.{option_map_or}
use Rattle.civl_tree.specs.declared.stmt.Stmt.{Stmt, roll-Stmt, out-roll-Stmt, map-Stmt}
use Rattle.civl_tree.specs.declared.stmt.Stmt.TheOpen.{Stmt-F, If, While, YieldLoop, RankLoop, Yield, Spawn}
use Rattle.civl_tree.specs.declared.stmt.Stmt.TheFolds.{ind-Stmt}
use Rattle.civl_tree.specs.Numbering.{size_step, size_of, sizes_of}
use Rattle.civl_tree.proofs.Numbers.{sizes_more}
use Rattle.civl_tree.proofs.Sizes.{size_is}
use Rattle.civl_conditions.specs.declared.paths.met.Met.{Met}
use Rattle.civl_conditions.specs.paths.Meets.{is_from, with_onward, met_passing, met_ending, met_entering, met_behind, met_past, nothing_met, walk, walk_all}
use Rattle.civl_conditions.proofs.paths.Walked.{walk_layer, walk_is, walk_none, walk_more}

-- ---- rising numbers from one number on and below another

abbrev Within : ℕ → ℕ → List ℕ → Type 0
Within low high [] = low ≤ high
Within low high (x ∷ xs) = (low ≤ x) × Within (x + 1) high xs

lower : (low mid high : ℕ) (xs : List ℕ) → low ≤ mid → Within mid high xs → Within low high xs
lower low mid high [] l w = omega (arith, l, w)
lower low mid high (x ∷ xs) l w = (omega (arith, l, w.0), w.1)

joined : (low mid high : ℕ) (xs ys : List ℕ) → Within low mid xs → Within mid high ys → Within low high (xs ++ ys)
joined low mid high [] ys h k = lower low mid high ys h k
joined low mid high (x ∷ xs) ys h k = (h.0, joined (x + 1) mid high xs ys h.1 k)

rising : (low high : ℕ) (xs : List ℕ) → Within low high xs → IsStrictlyIncreasing xs
rising low high [] w k h = absurd (omega arith)
rising low high (x ∷ []) w k h = absurd (omega arith)
rising low high (x ∷ y ∷ xs) w zero h = omega (arith, w.1.0)
rising low high (x ∷ y ∷ xs) w (suc k) h =
    let next : suc k + 1 ≡ suc (k + 1) = omega arith in
    subst (λ (n : ℕ). slice_index (y ∷ xs) k < slice_index (x ∷ y ∷ xs) n) (sym next) (rising (x + 1) high (y ∷ xs) w.1 k (omega arith))

-- ---- numbers that are put behind others

record Added (at size : ℕ) (before after : List ℕ) : Type 0 where
  more : List ℕ
  is : after ≡ before ++ more
  within : Within at (at + size) more

none_added : (at size : ℕ) (before after : List ℕ) → after ≡ before → Added at size before after
none_added at size before after e = record { more = []; is = e ∙ sym (append-nil before); within = omega arith }

one_added : (at : ℕ) (before : List ℕ) → Added at 1 before (before ++ at ∷ [])
one_added at before = record { more = at ∷ []; is = refl; within = (omega arith, omega arith) }

two_added : (at m n : ℕ) (p q r : List ℕ) → Added at m p q → Added (at + m) n q r → Added at (m + n) p r
two_added at m n p q r a b = record {
  more = a.more ++ b.more;
  is = b.is ∙ ap (λ (xs : List ℕ). xs ++ b.more) a.is ∙ append_assoc p a.more b.more;
  within = subst (λ (k : ℕ). Within at k (a.more ++ b.more)) (omega arith) (joined at (at + m) (at + m + n) a.more b.more a.within b.within);
}

abbrev made : List ℕ → List ℕ → Bool → Met
made passed ends onward = record { passed = passed; ends = ends; onward = onward }

passing_cases : (at : ℕ) (p e : List ℕ) (x : Bool) → Added at 1 p (met_passing at (made p e x)).passed
passing_cases at p e true = one_added at p
passing_cases at p e false = none_added at 1 p p refl

passing_adds : (at : ℕ) (m : Met) → Added at 1 m.passed (met_passing at m).passed
passing_adds at m = passing_cases at m.passed m.ends m.onward

ending_cases : (at : ℕ) (p e : List ℕ) (x : Bool) → (met_ending at (made p e x)).passed ≡ p
ending_cases at p e true = refl
ending_cases at p e false = refl

ending_same : (at : ℕ) (m : Met) → (met_ending at m).passed ≡ m.passed
ending_same at m = ending_cases at m.passed m.ends m.onward

entering_adds : (from : Option ℕ) (at : ℕ) (m : Met) → Added at 1 m.passed (met_entering from at m).passed
entering_adds from at m = by_test (is_from from at)
  where
    by_test : (b : Bool) → Added at 1 m.passed (if b then met_passing at (with_onward true m) else met_ending at m).passed
    by_test true = passing_adds at (with_onward true m)
    by_test false = none_added at 1 m.passed _ (ending_same at m)

behind_same : (from : Option ℕ) (at : ℕ) (m : Met) → (met_behind from at m).passed ≡ m.passed
behind_same from at m = by_test (is_from from at)
  where
    by_test : (b : Bool) → (if b then with_onward true m else m).passed ≡ m.passed
    by_test true = refl
    by_test false = refl

-- ---- the walk

abbrev Adds : Stmt → Type 0
Adds s = (from : Option ℕ) (at : ℕ) (m : Met) → Added at (size_of s) m.passed (walk from s at m).passed

all_add : {S : Type 0} (ys : List S) (v : S → Stmt) (h : (x : S) → Adds (v x)) (from : Option ℕ) (at : ℕ) (m : Met) → Added at (sizes_of (map v ys)) m.passed (walk_all from (map v ys) at m).passed
all_add [] v h from at m = none_added at 0 m.passed _ (ap (λ (x : Met). x.passed) (walk_none from at m))
all_add (y ∷ ys) v h from at m =
    let s = v y in
    let next = met_behind from at (walk from s at m) in
    let own = subst (λ (xs : List ℕ). Added at (size_of s) m.passed xs) (sym (behind_same from at (walk from s at m))) (h y from at m) in
    let all = two_added at (size_of s) (sizes_of (map v ys)) m.passed next.passed _ own (all_add ys v h from (at + size_of s) next) in
    subst (λ (n : ℕ). Added at n m.passed (walk_all from (s ∷ map v ys) at m).passed) (sym (sizes_more s (map v ys)))
    (subst (λ (x : Met). Added at (size_of s + sizes_of (map v ys)) m.passed x.passed) (sym (walk_more from s (map v ys) at m)) all)

loop_adds : {S : Type 0} (a : List S) (v : S → Stmt) (h : (x : S) → Adds (v x)) (from : Option ℕ) (at : ℕ) (m : Met) → Added at (1 + sizes_of (map v a)) m.passed (met_ending at (walk_all from (map v a) (at + 1) (met_entering from at m))).passed
loop_adds a v h from at m =
    let head = met_entering from at m in
    subst (λ (xs : List ℕ). Added at (1 + sizes_of (map v a)) m.passed xs) (sym (ending_same at (walk_all from (map v a) (at + 1) head)))
    (two_added at 1 (sizes_of (map v a)) m.passed head.passed _ (entering_adds from at m) (all_add a v h from (at + 1) head))

layer_adds : {S : Type 0} (y : Stmt-F S) (v : S → Stmt) (h : (x : S) → Adds (v x)) (from : Option ℕ) (at : ℕ) (m : Met) → Added at (size_step (map-Stmt Stmt ℕ size_of (map-Stmt S Stmt v y))) m.passed (walk_layer from (map-Stmt S Stmt v y) at m).passed
layer_adds (If e a b) v h from at m =
    let na = sizes_of (map v a) in
    let nb = sizes_of (map v b) in
    let start = met_passing at m in
    let first = walk_all from (map v a) (at + 1) start in
    let again = with_onward start.onward first in
    two_added at (1 + na) nb m.passed first.passed _ (two_added at 1 na m.passed start.passed _ (passing_adds at m) (all_add a v h from (at + 1) start))
    (subst (λ (n : ℕ). Added n nb first.passed (walk_all from (map v b) (at + 1 + na) again).passed) (omega arith) (all_add b v h from (at + 1 + na) again))
layer_adds (While e a) v h from at m =
    two_added at 1 (sizes_of (map v a)) m.passed m.passed _ (none_added at 1 m.passed _ refl) (all_add a v h from (at + 1) (with_onward false m))
layer_adds (YieldLoop e i a) v h from at m = loop_adds a v h from at m
layer_adds (RankLoop e r i a) v h from at m = loop_adds a v h from at m
layer_adds (Yield i) v h from at m = none_added at 1 m.passed _ (ending_same at m)
layer_adds (Spawn f es) v h from at m = none_added at 1 m.passed _ refl
layer_adds _ v h from at m = passing_adds at m

adds : (s : Stmt) → Adds s
adds s =
    ind-Stmt Adds (λ x y e from at m.
    let r = roll-Stmt x in
    let q = out-roll-Stmt x ∙ sym e in
    let sized : size_of r ≡ size_step (map-Stmt Stmt ℕ size_of (map-Stmt _ Stmt (λ z. z.0) y)) = size_is r ∙ ap (λ (d : Stmt-F Stmt). size_step (map-Stmt Stmt ℕ size_of d)) q in
    let walked : walk from r at m ≡ walk_layer from (map-Stmt _ Stmt (λ z. z.0) y) at m = walk_is from r at m ∙ ap (λ (d : Stmt-F Stmt). walk_layer from d at m) q in
    subst (λ (n : ℕ). Added at n m.passed (walk from r at m).passed) (sym sized)
    (subst (λ (w : Met). Added at (size_step (map-Stmt Stmt ℕ size_of (map-Stmt _ Stmt (λ z. z.0) y))) m.passed w.passed) (sym walked) (layer_adds y (λ z. z.0) (λ z. z.1) from at m))) s

past_same : (from : Option ℕ) (end : ℕ) (m : Met) → (met_past from end m).passed ≡ m.passed
past_same from end m = by_test (option_map_or (λ n. nat_lt n end) from true)
  where
    by_test : (b : Bool) → (if b then m else with_onward true m).passed ≡ m.passed
    by_test true = refl
    by_test false = refl

-- what a walk over a body passes, in the order of the text
pub walk_rises : (from : Option ℕ) (body : List Stmt) (onward : Bool) (end : ℕ) → IsStrictlyIncreasing (met_past from end (walk_all from body 0 (nothing_met onward))).passed
walk_rises from body onward end =
    let added = subst (λ (ss : List Stmt). Added 0 (sizes_of ss) [] (walk_all from ss 0 (nothing_met onward)).passed) (map-id body) (all_add body (λ (s : Stmt). s) adds from 0 (nothing_met onward)) in
    subst IsStrictlyIncreasing (sym (past_same from end (walk_all from body 0 (nothing_met onward)) ∙ added.is)) (rising 0 (0 + sizes_of body) added.more added.within)
