-- K10 and K11 at the values of all their variables.
use Rattle.std.specs.Prelude.{slice_get, map, filter, if◌then◌else◌}
use Rattle.std.proofs.Common.{◌≡◌, ◌∙◌, ℕ, ◌+◌, ◌*◌, ◌≤◌, Bool, true, false, List, [], ◌∷◌, ◌++◌, length, append_assoc, refl, sym, ap, ap₂, subst, arith, Some}
use Rattle.std.proofs.lemmas.List.{length-map, length-append, map-append}
use Rattle.civl_bits.specs.declared.value.Value.{Value}
use Rattle.civl_tree.specs.declared.expr.Sort.{Sort}
use Rattle.civl_tree.specs.declared.action.Action.{Action}
use Rattle.civl_tree.specs.declared.program.Program.{Program}
use Rattle.civl_tree.specs.rules.Rules.{Keeps}
use Rattle.civl_tree.specs.rules.Scopes.{note_scope}
use Rattle.civl_tree.specs.rules.Typing.{typing_rules}
use Rattle.civl_firing.specs.values.ActionWeights.{action_weight}
use Rattle.civl_firing.specs.declared.store.Store.{Store}
use Rattle.civl_layers.specs.Layered.{IsLayered}
use Rattle.civl_conditions.specs.paths.Seen.{exists_near}
use Rattle.civl_conditions.specs.declared.condition.Condition.TheVariants.{Act, Block}
use Rattle.civl_conditions.specs.declared.condition.Target.{Target}
use Rattle.civl_conditions.specs.declared.condition.Target.TheVariants as target
use Rattle.civl_conditions.specs.Steps.{step_invariants, of_cut}
use Rattle.civl_conditions.specs.Values.{Invoked as Meant, begun, layout, store_of, count_of, invoked, instance_count}
use Rattle.civl_conditions.specs.Targets.{act_fails, block_fails}
use Rattle.civl_conditions.specs.Variables.{variables, other_variables, path_variables}
use Rattle.civl_conditions.specs.Violated.{violated}
use Rattle.civl_meaning.specs.Config.{frame_sorts, choice_sorts}
use Rattle.civl_tree.specs.declared.expr.Sort.TheVariants.{Bool as Truth}
use Rattle.civl_conditions.specs.paths.Ends.{ends_block, ends_from, is_rank_loop}
use Rattle.civl_conditions.specs.Permissions.{held_at}
use Rattle.civl_conditions.specs.Weights.{bits_of_variables, base_weight, passed_weight, block_weight, summed, together, weight, lin, linear_globals, linear_inputs, weights_of, global_weight, target_weight, target_items}
use Rattle.civl_states.specs.formula_parts.Said.{Env}
use Rattle.civl_states.specs.formula_parts.Given.{given, bits_of_sorts}
use Rattle.civl_states.proofs.formula_parts.Giving.{bits-append}
use Rattle.civl_states.specs.Runs.{param_sorts, instance_sorts}
use Rattle.civl_states.specs.Existing.{existing_sorts}
use Rattle.civl_states.specs.declared.stores.Existing.TheVariants.{Near}
use Rattle.civl_states.specs.Groups.{StandFrom}
use Rattle.civl_states.specs.Formulas.{sorts_of}
use Rattle.civl_states.proofs.Given.{stand_front}
use Rattle.civl_states.proofs.Limits.{AreSorts, sorts_append}
use Rattle.civl_states.proofs.Variables.{there_is, bits_same, act_sorts, instance_are}
use Rattle.civl_states.proofs.Taking.{store_given, invoked_given, front_stand, tail_stand, whole_are}
use Rattle.civl_states.proofs.Weighing.{weighs_some}
use Rattle.civl_refine.specs.declared.start.Start.{Start}
use Rattle.civl_refine.specs.Walked.{StartsAt, sorts_from}
use Rattle.civl_refine.specs.Assuming.{IsStart}
use Rattle.civl_refine.proofs.Placing.{rank_some}
use Rattle.civl_refine.proofs.Violating.{cut_there, start_same, from_same}
use Rattle.civl_refine.specs.declared.steadiness.kept.Kept.{Kept}
use Rattle.civl_refine.specs.declared.steadiness.kept.Kept.TheVariants.{Invariant, Yield}
use Rattle.civl_refine.specs.inner.steadiness.Kept.{IsTarget, kept_weight}
use Rattle.civl_refine.specs.steadiness.Kinds.{HasTarget}
use Rattle.civl_refine.specs.inner.steadiness.Making.{others_from}
use Rattle.civl_refine.specs.inner.steadiness.Losing.{end_weight, together_weight}
use Rattle.civl_refine.proofs.steadiness.Aiming.{weight_same, items_same}
use Rattle.civl_refine.proofs.steadiness.Ending.{ends_weigh}
use Rattle.civl_refine.proofs.steadiness.Framing.{others_front, others_limited, others_weigh}

abbrev pub near_count_of : Program → ℕ → ℕ
near_count_of program step = count_of (exists_near step) program

pub rules_of : (p q : Program) → IsLayered p → p ≡ q → Keeps typing_rules q
rules_of p q layered e = subst (λ (o : Program). Keeps typing_rules o) e layered.rules

abbrev pub other_sorts_of : Program → Target → List Sort
other_sorts_of program t = map (λ v. v.sort) (other_variables program t)

-- ---- K11

module _ (program : Program) (step x : ℕ) (t : Target) (a : Action) (at : slice_get program.actions x ≡ Some a) where
  abbrev near_count : ℕ
  near_count = count_of (exists_near step) program

  counted : length (instance_sorts a) ≡ instance_count a
  counted = omega (arith, length-append (param_sorts a) (choice_sorts a), length-map a.params (λ p. p.sort), length-map a.choices (λ c. c.sort))

  pub acts_are : (env : Env) (n : ℕ) → near_count + length a.params + length a.choices ≤ n
      → act_fails program step (store_of (exists_near step) program (given env 0 near_count))
      (record { action = a; inputs = given env near_count (length a.params); chosen = given env (near_count + length a.params) (length a.choices) }) t (given env 0 n) (near_count + instance_count a)
      ≡ violated program (Act step x t) (given env 0 n)
  unfolding violated
  acts_are env n l =
      ap₂ (λ (g : Store) (m : Meant). act_fails program step g m t (given env 0 n) (near_count + instance_count a)) (sym (store_given (exists_near step) program env n (omega (arith, l)))) (sym (invoked_given env n near_count a l))
      ∙ sym (there_is (slice_get program.actions x) a false (λ b. act_fails program step (store_of (exists_near step) program (given env 0 n)) (invoked (given env 0 n) near_count b) t (given env 0 n) (near_count + instance_count b)) at)

  pub acts_weigh : weight program (Act step x t)
      ≡ bits_of_sorts (sorts_of program (Act step x t))
      + (action_weight program a + weights_of (global_weight program) (step_invariants program step) + 2 * target_weight program step t + lin program (linear_globals program + linear_inputs a.params + target_items program t))
  unfolding weight
  acts_weigh =
      ap₂ (λ (n m : ℕ). n + m) (bits_same (variables program (Act step x t)))
      (there_is (slice_get program.actions x) a 0
      (λ b. action_weight program b + weights_of (global_weight program) (step_invariants program step) + 2 * target_weight program step t + lin program (linear_globals program + linear_inputs b.params + target_items program t)) at)

  module _ (keeps : Keeps typing_rules program) (sorts : List Sort) (e : sorts ≡ sorts_of program (Act step x t)) where
    pub act_view : sorts ≡ existing_sorts (Near step) program ++ (instance_sorts a ++ other_sorts_of program t)
    act_view = e ∙ act_sorts program step x a at t

    pub act_ends : sorts ≡ (existing_sorts (Near step) program ++ instance_sorts a) ++ other_sorts_of program t
    act_ends = act_view ∙ sym (append_assoc (existing_sorts (Near step) program) (instance_sorts a) (other_sorts_of program t))

    pub act_front : StandFrom sorts 0 (existing_sorts (Near step) program)
    act_front = front_stand program keeps (Near step) sorts (instance_sorts a ++ other_sorts_of program t) act_view (Near step) refl

    pub act_tail : (n : ℕ) → n ≡ near_count → StandFrom sorts n (instance_sorts a)
    act_tail n same = stand_front sorts n (instance_sorts a) (other_sorts_of program t) (tail_stand program keeps (Near step) sorts (instance_sorts a ++ other_sorts_of program t) act_view n same)

    pub act_limits : HasTarget program t → AreSorts sorts
    act_limits h = whole_are program keeps (Near step) sorts (instance_sorts a ++ other_sorts_of program t) act_view (sorts_append (instance_sorts a) (other_sorts_of program t) (instance_are program keeps x a at) (others_limited program keeps t h))

    front_long : length (existing_sorts (Near step) program ++ instance_sorts a) ≡ near_count + instance_count a
    front_long = omega (arith, length-append (existing_sorts (Near step) program) (instance_sorts a), length-map (filter (exists_near step) program.globals) (λ g. g.sort), counted)

    pub act_from : others_from sorts program t ≡ near_count + instance_count a
    act_from = others_front sorts program t (existing_sorts (Near step) program ++ instance_sorts a) act_ends ∙ front_long

    pub act_long : near_count + length a.params + length a.choices ≤ length sorts
    act_long = omega (arith, ap length act_ends, length-append (existing_sorts (Near step) program ++ instance_sorts a) (other_sorts_of program t), front_long)

    pub act_bits : bits_of_sorts sorts ≡ bits_of_sorts (existing_sorts (Near step) program) + bits_of_sorts (instance_sorts a) + bits_of_variables (other_variables program t)
    act_bits =
        omega (
          arith,
          ap bits_of_sorts act_view,
          bits-append (existing_sorts (Near step) program) (instance_sorts a ++ other_sorts_of program t),
          bits-append (instance_sorts a) (other_sorts_of program t),
          bits_same (other_variables program t),
        )

-- a yield's invariant weighs something
pub yield_some : (program : Program) (step r y : ℕ) (k : Kept) → IsTarget program (target.Yield r y) k → 1 ≤ kept_weight program step k
yield_some program step r y (Invariant j) e = absurd e
yield_some program step r y (Yield place frame) e = weighs_some (note_scope program place.proc.now) place.note.now

-- ---- K10

module _ (program : Program) (step q c : ℕ) (start : Start) (at : StartsAt program step q c start) (t : Target) where
  pub block_view : sorts_of program (Block step q c t) ≡ sorts_from start ++ other_sorts_of program t
  unfolding variables
  block_view =
      map-append (λ v. v.sort) (of_cut program q c [] (path_variables program step)) (other_variables program t)
      ∙ ap (λ (ss : List Sort). ss ++ other_sorts_of program t) (sym (from_same program step q c start at))

  pub block_violated : (values : List Value)
      → block_fails start.program.now start.step start.proc.now start.number start.cut (begun start.program.now start.step start.proc.now start.cut values) t values (layout start.program.now start.step start.proc.now start.cut).behind
      ≡ violated program (Block step q c t) values
  unfolding violated
  block_violated values =
      start_same program step q c start at (λ p k n. block_fails p k start.proc.now n start.cut (begun p k start.proc.now start.cut values) t values (layout p k start.proc.now start.cut).behind)
      ∙ sym (cut_there program q c start.proc.now start.cut false (λ proc cut. block_fails program step proc c cut (begun program step proc cut values) t values (layout program step proc cut).behind) at.proc at.cut)

  pub block_weighs : weight program (Block step q c t)
      ≡ bits_of_variables (path_variables start.program.now start.step start.proc.now start.cut) + bits_of_variables (other_variables program t) + block_weight start.program.now start.step start.proc.now start.number start.cut t
  unfolding weight
  block_weighs =
      ap₂ (λ (n m : ℕ). n + m)
      (bits_same (variables program (Block step q c t)) ∙ ap bits_of_sorts block_view ∙ bits-append (sorts_from start) (other_sorts_of program t)
      ∙ ap₂ (λ (n m : ℕ). n + m) (sym (bits_same (path_variables start.program.now start.step start.proc.now start.cut))) (sym (bits_same (other_variables program t))))
      (cut_there program q c start.proc.now start.cut 0 (λ proc cut. block_weight program step proc c cut t) at.proc at.cut
      ∙ sym (start_same program step q c start at (λ p k n. block_weight p k start.proc.now n start.cut t)))

-- for a yield the frame's `done` is a variable
together_same : (start : Start) → IsStart start → (t : Target) (k : Kept) → IsTarget start.program.now t k
    → together_weight start k ≤ 4 * together start.program.now (length (held_at start.program.now start.proc.now start.number) + linear_globals start.program.now) t + bits_of_variables (other_variables start.program.now t)
together_same start h (target.Invariant i) (Invariant j) e = omega arith
together_same start h (target.Invariant i) (Yield place frame) e = absurd e
together_same start h (target.Yield r y) (Invariant j) e = absurd e
together_same start h (target.Yield r y) (Yield place frame) e =
    let p = start.program.now in
    let held : length start.held.now ≡ length (held_at p start.proc.now start.number) = ap length h.held in
    let items : length place.held.now ≡ target_items p (target.Yield r y) = items_same p (target.Yield r y) (Yield place frame) e in
    let n : length start.held.now + linear_globals p + length place.held.now ≡ length (held_at p start.proc.now start.number) + linear_globals p + target_items p (target.Yield r y) = omega (arith, held, items) in
    omega (arith, ap (lin p) n, others_weigh p r y place.proc.now e.proc, bits-append (frame_sorts place.proc.now) (Truth ∷ []))

weighs_all : (rank : Bool) (old mid new bits others passed base weight ends same together own all : ℕ) → (rank ≡ true → 1 ≤ bits) → mid ≤ old + others → new ≤ mid + bits + 4 * passed + 4 * base + weight + 4 * ends + together + (if rank then 2 else 0)
    → ends ≡ same → together ≤ 4 * own + others → all ≡ bits + others + (base + passed + same + weight + own) → new ≤ old + 4 * all
weighs_all true old mid new bits others passed base weight ends same together own all some m n e t a = omega (arith, some refl, m, n, e, t, a)
weighs_all false old mid new bits others passed base weight ends same together own all some m n e t a = omega (arith, m, n, e, t, a)

pub block_sum : (program : Program) (step q c : ℕ) (start : Start) (at : StartsAt program step q c start) → IsStart start → (t : Target) (k : Kept) → IsTarget start.program.now t k → (old mid new : ℕ)
    → mid ≤ old + bits_of_variables (other_variables program t)
    → new ≤ mid + bits_of_variables (path_variables start.program.now start.step start.proc.now start.cut) + 4 * passed_weight start.program.now start.step start.proc.now start.cut + 4 * base_weight start.program.now start.step start.proc.now start.number start.cut
    + kept_weight start.program.now start.step k + 4 * summed (map (end_weight start (kept_weight start.program.now start.step k)) (ends_from start.proc.now start.cut)) + together_weight start k + (if is_rank_loop start.cut.kind then 2 else 0)
    → new ≤ old + 4 * weight program (Block step q c t)
block_sum program step q c start at h t k is old mid new m n =
    let p = start.program.now in
    let s = start.step in
    let proc = start.proc.now in
    let cut = start.cut in
    let kept = kept_weight p s k in
    let stops = length (filter (ends_block proc) (ends_from proc cut)) in
    let own = together p (length (held_at p proc start.number) + linear_globals p) t in
    let same : kept ≡ target_weight p s t = weight_same p s t k is in
    let others : bits_of_variables (other_variables p t) ≡ bits_of_variables (other_variables program t) = ap (λ (o : Program). bits_of_variables (other_variables o t)) at.of in
    let all : weight program (Block step q c t) ≡ bits_of_variables (path_variables p s proc cut) + bits_of_variables (other_variables program t) + (base_weight p s proc start.number cut + passed_weight p s proc cut + stops * (kept + 1) + kept + own) =
    block_weighs program step q c start at t ∙ ap (λ (w : ℕ). bits_of_variables (path_variables p s proc cut) + bits_of_variables (other_variables program t) + (base_weight p s proc start.number cut + passed_weight p s proc cut + stops * (w + 1) + w + own)) (sym same) in
    weighs_all (is_rank_loop cut.kind) old mid new (bits_of_variables (path_variables p s proc cut)) (bits_of_variables (other_variables program t)) (passed_weight p s proc cut) (base_weight p s proc start.number cut) kept
    (summed (map (end_weight start kept) (ends_from proc cut))) (stops * (kept + 1)) (together_weight start k) own (weight program (Block step q c t))
    (rank_some p s proc cut) m n (ends_weigh start kept (ends_from proc cut)) (omega (arith, together_same start h t k is, others)) all
