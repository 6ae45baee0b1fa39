-- What is still to run, one statement at a time.
use Rattle.std.proofs.Common.{◌≡◌, ℕ, ◌+◌, ◌<◌, ◌≤◌, Bool, true, false, List, [], ◌∷◌, drop, length, get_or, sym, ap, ◌∙◌, Option, Some, None}
use Rattle.std.specs.Prelude.{if◌then◌else◌}
use Rattle.std.specs.Option.{option_map_or}
use Rattle.std.proofs.lemmas.List.{drop_all}
use Rattle.civl_tree.specs.declared.stmt.Stmt.{Stmt, out-Stmt}
use Rattle.civl_tree.proofs.Lists.{drop_is}
use Rattle.civl_meaning.specs.Places.{Spot, is_skipped}
use Rattle.civl_meaning.specs.Rest.{Rest, place_in, head_of}
use Rattle.civl_conditions.specs.paths.Paths.{Progress}
use Rattle.civl_conditions.specs.paths.Runs.{layer_led, led}
use Rattle.civl_reduction.specs.blocks.Blocks.{layer_at_yield, at_yield}
use Rattle.civl_reduction.specs.blocks.Cuts.{settled_layer, settled}
use Rattle.civl_reduction.specs.blocks.Shadow.{glided_layer, glided}
use Rattle.civl_meaning.specs.inner.Left.{stmt_of}
use Rattle.civl_shadows.specs.declared.notes.Noting.{Noting}
use Rattle.civl_meaning.specs.declared.remaining.Numbered.{Numbered}
use Rattle.civl_shadows.specs.Notes.{noted}
use Rattle.civl_meaning.specs.Remaining.{rest_of}

abbrev entry : Numbered → ℕ × Stmt
entry q = (q.number, q.stmt.now)

pub rest_more : (items : List Numbered) (at : ℕ) (q : Numbered) → at < length items → q ≡ get_or items at q → rest_of (drop at items) ≡ (q.number, q.stmt.now) ∷ rest_of (drop (at + 1) items)
rest_more items at q h e = ap rest_of (drop_is items at q h e)

pub rest_end : (items : List Numbered) (at : ℕ) → length items ≤ at → rest_of (drop at items) ≡ []
rest_end items at h = ap rest_of (drop_all at items h)

module _ (items : List Numbered) (at : ℕ) (q : Numbered) (h : at < length items) (e : q ≡ get_or items at q) where
  -- ---- commits and intros

  pub led_more : (n : Noting) (p next : Progress) → layer_led (noted n) (out-Stmt q.stmt.now) p ≡ Some next → led (noted n) (rest_of (drop at items)) p ≡ led (noted n) (rest_of (drop (at + 1) items)) next
  led_more n p next l = ap (λ (r : Rest). led (noted n) r p) (rest_more items at q h e) ∙ ap (λ (o : Option Progress). option_map_or (led (noted n) (rest_of (drop (at + 1) items))) o p) l

  pub led_stops : (n : Noting) (p : Progress) → layer_led (noted n) (out-Stmt q.stmt.now) p ≡ None → led (noted n) (rest_of (drop at items)) p ≡ p
  led_stops n p l = ap (λ (r : Rest). led (noted n) r p) (rest_more items at q h e) ∙ ap (λ (o : Option Progress). option_map_or (led (noted n) (rest_of (drop (at + 1) items))) o p) l

  -- and yields
  pub glided_more : (n : Noting) (p next : Progress) → ((later : Progress → Progress) → glided_layer (noted n) (out-Stmt q.stmt.now) p later ≡ later next) → glided (noted n) (rest_of (drop at items)) p ≡ glided (noted n) (rest_of (drop (at + 1) items)) next
  glided_more n p next l = ap (λ (r : Rest). glided (noted n) r p) (rest_more items at q h e) ∙ l (glided (noted n) (rest_of (drop (at + 1) items)))

  pub glided_stops : (n : Noting) (p next : Progress) → ((later : Progress → Progress) → glided_layer (noted n) (out-Stmt q.stmt.now) p later ≡ next) → glided (noted n) (rest_of (drop at items)) p ≡ next
  glided_stops n p next l = ap (λ (r : Rest). glided (noted n) r p) (rest_more items at q h e) ∙ l (glided (noted n) (rest_of (drop (at + 1) items)))

  -- ---- past them

  pub settled_more : ((whole later : Rest) → settled_layer (out-Stmt q.stmt.now) whole later ≡ later) → settled (rest_of (drop at items)) ≡ settled (rest_of (drop (at + 1) items))
  settled_more l = ap settled (rest_more items at q h e) ∙ l ((q.number, q.stmt.now) ∷ rest_of (drop (at + 1) items)) (settled (rest_of (drop (at + 1) items)))

  pub settled_stops : ((whole later : Rest) → settled_layer (out-Stmt q.stmt.now) whole later ≡ whole) → settled (rest_of (drop at items)) ≡ rest_of (drop at items)
  settled_stops l =
      ap settled (rest_more items at q h e) ∙ (l ((q.number, q.stmt.now) ∷ rest_of (drop (at + 1) items)) (settled (rest_of (drop (at + 1) items))) ∙ sym (rest_more items at q h e))

  pub yield_is : at_yield (rest_of (drop at items)) ≡ layer_at_yield (out-Stmt q.stmt.now) (at_yield (rest_of (drop (at + 1) items)))
  yield_is = ap at_yield (rest_more items at q h e)

  -- ---- the first statement of a plain program

  head_as : (end : ℕ) (b : Bool) → is_skipped q.stmt.now ≡ b → stmt_of (head_of end (rest_of (drop at items)))
      ≡ stmt_of (if◌then◌else◌ {A = Option Spot} b (head_of end (rest_of (drop (at + 1) items))) (Some (record { number = q.number; stmt = q.stmt.now; next = place_in end (rest_of (drop (at + 1) items)) })))
  head_as end b s =
      ap (λ (r : Rest). stmt_of (head_of end r)) (rest_more items at q h e)
      ∙ ap (λ (x : Bool). stmt_of (if◌then◌else◌ {A = Option Spot} x (head_of end (rest_of (drop (at + 1) items))) (Some (record { number = q.number; stmt = q.stmt.now; next = place_in end (rest_of (drop (at + 1) items)) })))) s

  pub head_more : (end : ℕ) → is_skipped q.stmt.now ≡ true → stmt_of (head_of end (rest_of (drop at items))) ≡ stmt_of (head_of end (rest_of (drop (at + 1) items)))
  head_more end s = head_as end true s

  pub head_stops : (end : ℕ) → is_skipped q.stmt.now ≡ false → stmt_of (head_of end (rest_of (drop at items))) ≡ Some q.stmt.now
  head_stops end s = head_as end false s

-- ---- at the end

pub led_end : (n : Noting) (items : List Numbered) (at : ℕ) (p : Progress) → length items ≤ at → led (noted n) (rest_of (drop at items)) p ≡ p
led_end n items at p h = ap (λ (r : Rest). led (noted n) r p) (rest_end items at h)

pub glided_end : (n : Noting) (items : List Numbered) (at : ℕ) (p : Progress) → length items ≤ at → glided (noted n) (rest_of (drop at items)) p ≡ p
glided_end n items at p h = ap (λ (r : Rest). glided (noted n) r p) (rest_end items at h)

pub settled_end : (items : List Numbered) (at : ℕ) → length items ≤ at → settled (rest_of (drop at items)) ≡ rest_of (drop at items)
settled_end items at h = ap settled (rest_end items at h) ∙ sym (rest_end items at h)

pub yield_end : (items : List Numbered) (at : ℕ) → length items ≤ at → at_yield (rest_of (drop at items)) ≡ false
yield_end items at h = ap at_yield (rest_end items at h)

pub head_end : (end : ℕ) (items : List Numbered) (at : ℕ) → length items ≤ at → stmt_of (head_of end (rest_of (drop at items))) ≡ None
head_end end items at h = ap (λ (r : Rest). stmt_of (head_of end r)) (rest_end items at h)
