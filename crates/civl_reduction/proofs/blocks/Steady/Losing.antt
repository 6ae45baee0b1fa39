-- Where no target is lost, invariants hold and the invariants of yields are kept.
use Rattle.std.proofs.Common.{ℕ, suc, ◌+◌, ◌≡◌, Bool, true, false, not, ◌&&◌, List, [], ◌∷◌, ◌++◌, length, map, Some, Option, slice_get, sym, refl, ap, ◌∙◌, subst, Contains, append-nil}
use Rattle.std.specs.List.{list_all}
use Rattle.std.specs.Option.{option_map_or}
use Rattle.std.specs.Prelude.{codes}
use Rattle.std.proofs.lemmas.Bool.{not-false}
use Rattle.std.proofs.lemmas.List.{map-append, append_assoc, length-append, length-map}
use Rattle.civl_bits.specs.declared.value.Value.{Value}
use Rattle.civl_bits.specs.declared.value.Value.TheVariants as value
use Rattle.civl_firing.specs.values.Values.{HaveSorts}
use Rattle.civl_tree.specs.declared.expr.Expr.{Expr}
use Rattle.civl_tree.specs.declared.expr.Sort.{Sort}
use Rattle.civl_tree.specs.declared.expr.Sort.TheVariants as sort
use Rattle.civl_tree.specs.declared.program.Proc.{Proc}
use Rattle.civl_tree.specs.declared.program.Program.{Program}
use Rattle.civl_tree.proofs.Bools.{not_second}
use Rattle.civl_firing.specs.declared.store.Store.{Store}
use Rattle.civl_firing.proofs.Having.{no_sorts, have_length, have_more}
use Rattle.civl_meaning.specs.Permissions.{pairwise_disjoint}
use Rattle.civl_layers.specs.declared.cut.Cut.{Cut}
use Rattle.civl_layers.specs.Cuts.{proc_cuts}
use Rattle.civl_conditions.specs.declared.condition.Variable.{Variable}
use Rattle.civl_conditions.specs.declared.condition.Target.{Target}
use Rattle.civl_conditions.specs.declared.condition.Target.TheVariants as target
use Rattle.civl_conditions.specs.Steps.{step_invariants}
use Rattle.civl_conditions.specs.Listed.{targets}
use Rattle.civl_conditions.specs.Variables.{flag, of_params, of_locals}
use Rattle.civl_conditions.specs.Values.{flag_at}
use Rattle.civl_conditions.specs.Permissions.{held_at, of_held}
use Rattle.civl_conditions.specs.Invariants.{holds_of_globals, invariants_hold}
use Rattle.civl_conditions.specs.Targets.{Other, frame_size, other_of, yield_holds, target_owned, target_lost}
use Rattle.civl_condition_laws.specs.States.{frame_sorts, AreOthersOf}
use Rattle.civl_condition_laws.proofs.Standing.{past, stands, flag_stands, flag_fit}
use Rattle.civl_condition_laws.proofs.Gathering.{sorts_named}
use Rattle.civl_reduction.specs.blocks.Steady.{Pauses, IsSteady}
use Rattle.civl_reduction.proofs.blocks.Steady.Listing.{invariant_listed, yield_listed}

-- ---- bools and lists

pub all_of : {A : Type 0} (p : A → Bool) (xs : List A) → ((i : ℕ) (x : A) → slice_get xs i ≡ Some x → p x ≡ true) → list_all p xs ≡ true
all_of p [] h = refl
all_of p (x ∷ xs) h = ap (λ (b : Bool). b && list_all p xs) (h 0 x refl) ∙ all_of p xs (λ i y e. h (suc i) y e)

-- ---- the values of another thread's frame

abbrev values_of_other : Other → List Value
values_of_other other = other.locals ++ value.Bool other.done ∷ []

module _ (proc : Proc) (other : Other) (fit : HaveSorts other.locals (frame_sorts proc)) where
  long : length other.locals ≡ frame_size proc
  long =
      have_length other.locals (frame_sorts proc) fit
      ∙ (length-append (map (λ p. p.sort) proc.params) (map (λ p. p.sort) proc.outs ++ map (λ l. l.sort) proc.locals)
      ∙ (ap (λ (n : ℕ). n + length (map (λ p. p.sort) proc.outs ++ map (λ l. l.sort) proc.locals)) (length-map proc.params (λ p. p.sort))
      ∙ ap (λ (n : ℕ). length proc.params + n)
      (length-append (map (λ p. p.sort) proc.outs) (map (λ l. l.sort) proc.locals)
      ∙ (ap (λ (n : ℕ). n + length (map (λ l. l.sort) proc.locals)) (length-map proc.outs (λ p. p.sort)) ∙ ap (λ (n : ℕ). length proc.outs + n) (length-map proc.locals (λ l. l.sort))))))

  pub other_is : other_of proc (values_of_other other) 0 ≡ other
  other_is =
      let there = sym (append-nil (other.locals ++ value.Bool other.done ∷ [])) in
      ap (λ (ls : List Value). record { locals = ls; done = flag_at (other.locals ++ value.Bool other.done ∷ []) (0 + frame_size proc) })
      (stands (other.locals ++ value.Bool other.done ∷ []) other.locals (value.Bool other.done ∷ []) [] 0 (frame_size proc) there long)
      ∙ ap (λ (d : Bool). record { locals = other.locals; done = d })
      (flag_stands (other.locals ++ value.Bool other.done ∷ []) [] [] (0 + frame_size proc) other.done
      (past (other.locals ++ value.Bool other.done ∷ []) other.locals (value.Bool other.done ∷ []) [] 0 (frame_size proc) there long))

  frame_variables : List Variable
  frame_variables = of_params (codes "other.") proc.params ++ (of_params (codes "other.") proc.outs ++ (of_locals (codes "other.") proc.locals ++ flag (codes "other.done") ∷ []))

  sorts_are : map (λ (v : Variable). v.sort) frame_variables ≡ frame_sorts proc ++ sort.Bool ∷ []
  unfolding frame_variables
  sorts_are =
      let P = of_params (codes "other.") proc.params in
      let O = of_params (codes "other.") proc.outs in
      let L = of_locals (codes "other.") proc.locals in
      let F = flag (codes "other.done") ∷ [] in
      let ps = map (λ p. p.sort) proc.params in
      let os = map (λ p. p.sort) proc.outs in
      let ls = map (λ l. l.sort) proc.locals in
      map-append (λ (v : Variable). v.sort) P (O ++ (L ++ F))
      ∙ (ap (λ (xs : List Sort). xs ++ map (λ (v : Variable). v.sort) (O ++ (L ++ F))) (sorts_named (λ p. p.name) (λ p. p.sort) (codes "other.") proc.params)
      ∙ (ap (λ (xs : List Sort). ps ++ xs)
      (map-append (λ (v : Variable). v.sort) O (L ++ F)
      ∙ (ap (λ (xs : List Sort). xs ++ map (λ (v : Variable). v.sort) (L ++ F)) (sorts_named (λ p. p.name) (λ p. p.sort) (codes "other.") proc.outs)
      ∙ ap (λ (xs : List Sort). os ++ xs)
      (map-append (λ (v : Variable). v.sort) L F ∙ ap (λ (xs : List Sort). xs ++ sort.Bool ∷ []) (sorts_named (λ l. l.name) (λ l. l.sort) (codes "other.") proc.locals))))
      ∙ (ap (λ (xs : List Sort). ps ++ xs) (sym (append_assoc os ls (sort.Bool ∷ []))) ∙ sym (append_assoc ps (os ++ ls) (sort.Bool ∷ [])))))

  pub others_fit : (program : Program) (r y : ℕ) → slice_get program.procs r ≡ Some proc → AreOthersOf program (target.Yield r y) (values_of_other other)
  unfolding frame_variables
  others_fit program r y at =
      subst (λ (o : Option Proc). HaveSorts (other.locals ++ value.Bool other.done ∷ [])
      (map (λ (v : Variable). v.sort) (option_map_or (λ (p : Proc). of_params (codes "other.") p.params ++ (of_params (codes "other.") p.outs ++ (of_locals (codes "other.") p.locals ++ flag (codes "other.done") ∷ []))) o []))) (sym at)
      (subst (HaveSorts (other.locals ++ value.Bool other.done ∷ [])) (sym sorts_are)
      (have_more other.locals (value.Bool other.done ∷ []) (frame_sorts proc) (sort.Bool ∷ []) fit (flag_fit other.done (codes "other.done"))))

-- ---- where no target is lost

module _ (program : Program) (step : ℕ) (owns : List (List ℕ)) (before after : Store)
    (keeps : (t : Target) (others : List Value) → Contains (targets program step) t → AreOthersOf program t others → pairwise_disjoint (owns ++ target_owned program t others 0) ≡ true → target_lost program step t others 0 before after ≡ false) where
  all_hold : pairwise_disjoint owns ≡ true → invariants_hold program step after ≡ true
  all_hold apart = all_of (holds_of_globals program after) (step_invariants program step) (λ i e at.
      let kept = keeps (target.Invariant i) [] (invariant_listed program step i e at) no_sorts (subst (λ (ps : List (List ℕ)). pairwise_disjoint ps ≡ true) (sym (append-nil owns)) apart) in
      not-false (holds_of_globals program after e) (sym (ap (λ (o : Option Expr). option_map_or (λ x. not (holds_of_globals program after x)) o false) at) ∙ kept))

  -- what is said of the yield's frame is said of this one
  lost_of : Proc → Cut → Other → Bool
  lost_of proc cut other = yield_holds program proc cut other before && not (yield_holds program proc cut other after)

  yield_kept : (r y : ℕ) (proc : Proc) (cut : Cut) (other : Other) → Pauses program step r y proc cut other → pairwise_disjoint (owns ++ of_held (held_at program proc y) other.locals) ≡ true
      → yield_holds program proc cut other before ≡ true → yield_holds program proc cut other after ≡ true
  unfolding lost_of
  yield_kept r y proc cut other is apart holds =
      let values = values_of_other other in
      let same = other_is proc other is.locals in
      let own : of_held (held_at program proc y) other.locals ≡ target_owned program (target.Yield r y) values 0 =
      ap (λ (o : Other). of_held (held_at program proc y) o.locals) (sym same)
      ∙ ap (λ (o : Option Proc). option_map_or (λ (p : Proc). of_held (held_at program p y) (other_of p values 0).locals) o []) (sym is.at.of_proc.there) in
      let kept = keeps (target.Yield r y) values (yield_listed program step r y proc cut is.at is.yields) (others_fit proc other is.locals program r y is.at.of_proc.there)
      (subst (λ (ps : List (List ℕ)). pairwise_disjoint (owns ++ ps) ≡ true) own apart) in
      let lost : lost_of proc cut other ≡ false =
      ap (lost_of proc cut) (sym same)
      ∙ (ap (λ (o : Option Cut). option_map_or (λ (k : Cut). lost_of proc k (other_of proc values 0)) o false) (sym is.at.there)
      ∙ (ap (λ (o : Option Proc). option_map_or (λ (p : Proc). option_map_or (λ (k : Cut). lost_of p k (other_of p values 0)) (slice_get (proc_cuts p) y) false) o false) (sym is.at.of_proc.there)
      ∙ kept)) in
      not-false (yield_holds program proc cut other after) (not_second (yield_holds program proc cut other before) (not (yield_holds program proc cut other after)) holds lost)

  pub is_steady : IsSteady program step owns before after
  is_steady = record { invariants = all_hold; yields = yield_kept }
