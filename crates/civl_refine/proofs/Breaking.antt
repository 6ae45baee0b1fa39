-- A part of the condition on paths fails where it isn't kept: before an end, or at one of the ends.
use Rattle.std.specs.Prelude.{nat_eq, not, ◌||◌, ◌+◌, ◌*◌, ◌≤◌, All, Option, None, if◌then◌else◌}
use Rattle.std.specs.Option.{option_map_or}
use Rattle.std.specs.List.{list_all, Contains}
use Rattle.std.proofs.Common.{◌≡◌, ◌∙◌, ℕ, Bool, true, false, ◌&&◌, List, [], ◌∷◌, refl, sym, ap, ap₂, Some, inl, inr, arith}
use Rattle.std.proofs.lemmas.Bool.{eq-eqb, eqb-true}
use Rattle.std.proofs.lemmas.List.Elements.{All-weaker}
use Rattle.std.proofs.Math.Bool.{or-false, and-false}
use Rattle.civl_tree.specs.declared.program.Proc.{Proc}
use Rattle.civl_tree.specs.declared.program.Program.{Program}
use Rattle.civl_tree.proofs.Pairs.{contains_cons, contains_nil}
use Rattle.civl_layers.specs.declared.cut.Cut.{Cut}
use Rattle.civl_conditions.specs.paths.Paths.{Outcome, progress_of, has_failed}
use Rattle.civl_conditions.specs.paths.Ends.{arrived}
use Rattle.civl_conditions.specs.declared.condition.Part.{Part}
use Rattle.civl_conditions.specs.declared.condition.Part.TheVariants.{Gate, Invariant, Once, Stutter, Perform, Rank}
use Rattle.civl_conditions.specs.Values.{Begun}
use Rattle.civl_conditions.specs.Movers.{on_some}
use Rattle.civl_conditions.specs.Parts.{at_end, part_fails}
use Rattle.civl_terms.specs.declared.node.Node.{Node}
use Rattle.civl_terms.specs.Building.{Grows}
use Rattle.civl_states.specs.formula_parts.Said.{Env}
use Rattle.civl_body.specs.declared.way.Way.{Way}
use Rattle.civl_body.specs.Walks.{IsWay, CanTake}
use Rattle.civl_refine.specs.declared.start.Start.{Start}
use Rattle.civl_refine.specs.Judging.{fails_at, fails_before}
use Rattle.civl_refine.specs.Ways.{kept_by}
use Rattle.civl_refine.specs.Failing.{ArrivesAmong}
use Rattle.civl_refine.proofs.Taking.{take_stays, way_stays}

never_on : (a : Option ℕ) → on_some a (λ end. false) ≡ false
never_on None = refl
never_on (Some end) = refl

pub part_split : (program : Program) (step : ℕ) (proc : Proc) (c : ℕ) (cut : Cut) (b : Begun) (o : Outcome) (part : Part) → part_fails program step proc c cut b o part ≡ (fails_before o part || at_end proc o (fails_at program step proc c cut b part))
part_split program step proc c cut b o Gate = sym (ap (λ (x : Bool). has_failed o || x) (never_on (arrived proc o)) ∙ or-false (has_failed o))
part_split program step proc c cut b o Invariant = refl
part_split program step proc c cut b o Once = refl
part_split program step proc c cut b o Stutter = refl
part_split program step proc c cut b o Perform = refl
part_split program step proc c cut b o Rank = refl

-- ---- at one of the ends

module _ (t : ℕ → Bool) (e : ℕ) where
  abbrev kept_here : ℕ → Bool
  kept_here k = not (nat_eq k e && t k)

  not_here : (k : ℕ) (b : Bool) → t e ≡ false → nat_eq k e ≡ b → not (b && t k) ≡ true
  not_here k true f q = ap not (ap t (eqb-true k e q) ∙ f)
  not_here k false f q = refl

  all_kept : (ends : List ℕ) → t e ≡ false → list_all kept_here ends ≡ true
  all_kept [] f = refl
  all_kept (k ∷ ks) f = ap₂ (λ (x y : Bool). x && y) (not_here k (nat_eq k e) f refl) (all_kept ks f)

  one_fails : (ends : List ℕ) → t e ≡ true → Contains ends e → list_all kept_here ends ≡ false
  one_fails [] q there = absurd (contains_nil e there)
  one_fails (k ∷ ks) q there = elim (contains_cons k ks e there) [
    | inl same ↦ ap (λ (x : Bool). x && list_all kept_here ks) (ap₂ (λ (x y : Bool). not (x && y)) (eq-eqb k e same) (ap t same ∙ q))
    | inr more ↦ ap (λ (x : Bool). kept_here k && x) (one_fails ks q more) ∙ and-false (kept_here k)
  ]

  pub at_one : (ends : List ℕ) (b : Bool) → t e ≡ b → Contains ends e → list_all kept_here ends ≡ not b
  at_one ends true q there = one_fails ends q there
  at_one ends false q there = all_kept ends q

none_kept : (t : ℕ → Bool) (ends : List ℕ) → list_all (λ k. not (false && t k)) ends ≡ true
none_kept t [] = refl
none_kept t (k ∷ ks) = none_kept t ks

pub kept_at_all : (t : ℕ → Bool) (ends : List ℕ) (a : Option ℕ) → ((end : ℕ) → a ≡ Some end → Contains ends end) → list_all (λ k. not (option_map_or (nat_eq k) a false && t k)) ends ≡ not (on_some a t)
kept_at_all t ends None among = none_kept t ends
kept_at_all t ends (Some e) among = at_one t e ends (t e) refl (among e refl)

not_both : (x y : Bool) → not (not x && not y) ≡ (x || y)
not_both true y = refl
not_both false true = refl
not_both false false = refl

pub fails_as : (start : Start) (part : Part) (b : Begun) (o : Outcome) (ends : List ℕ) → ArrivesAmong start.proc.now ends o
    → not (not (fails_before o part) && list_all (kept_by start part b o) ends) ≡ part_fails start.program.now start.step start.proc.now start.number start.cut b o part
fails_as start part b o ends among =
    let t : ℕ → Bool = λ k. fails_at start.program.now start.step start.proc.now start.number start.cut b part k (progress_of o) in
    ap (λ (x : Bool). not (not (fails_before o part) && x)) (kept_at_all t ends (arrived start.proc.now o) among)
    ∙ not_both (fails_before o part) (on_some (arrived start.proc.now o) t)
    ∙ sym (part_split start.program.now start.step start.proc.now start.number start.cut b o part)

-- ---- what stays, and what it weighs

pub takes_stay : (old new : List Node) (program : Program) (proc : Proc) (ways : List Way) → Grows old new → All (CanTake old program proc) ways → All (CanTake new program proc) ways
takes_stay old new program proc ways g all = All-weaker (CanTake old program proc) (CanTake new program proc) (λ way. take_stays old new program proc way g) ways all

pub ways_stay : (old new : List Node) (program : Program) (proc : Proc) (o : Env → Outcome) (ways : List Way) → Grows old new → All (IsWay old program proc o) ways → All (IsWay new program proc o) ways
ways_stay old new program proc o ways g all = All-weaker (IsWay old program proc o) (IsWay new program proc o) (λ way. way_stays old new program proc o way g) ways all

pub weighs_all : (rank : Bool) (a b c d e f base ends : ℕ) → b ≤ a → c ≤ b + 4 * ends → d ≤ c + 1 → e + (if rank then 0 else 2) ≤ d + 4 * base → f ≤ e + 1 → f ≤ a + 4 * base + 4 * ends + (if rank then 2 else 0)
weighs_all true a b c d e f base ends p q r s t = omega (arith, p, q, r, s, t)
weighs_all false a b c d e f base ends p q r s t = omega (arith, p, q, r, s, t)
