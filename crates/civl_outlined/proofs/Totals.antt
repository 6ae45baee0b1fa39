-- The weights of goals, put together.
use Rattle.std.proofs.Common.{◌≡◌, ℕ, ◌+◌, ◌-◌, ◌*◌, List, [], ◌++◌, length, refl, sym, ap, ◌∙◌, subst, arith, Option, None, Some}
use Rattle.std.specs.Prelude.{slice_get, codes}
use Rattle.std.specs.Option.{option_map_or}
use Rattle.std.specs.List.{AllZip}
use Rattle.std.proofs.lemmas.Option.{same_Some, none-some, slice_get_within}
use Rattle.civl_tree.specs.declared.stmt.Stmt.{Stmt, out-Stmt}
use Rattle.civl_tree.specs.declared.action.Choice.{Choice}
use Rattle.civl_tree.specs.declared.program.Proc.{Proc}
use Rattle.civl_tree.specs.declared.program.Program.{Program}
use Rattle.civl_tree.specs.Numbering.{statement_at}
use Rattle.civl_outlines.specs.declared.outline.Outline.{Outline}
use Rattle.civl_meaning.specs.Meaning.{proc_number}
use Rattle.civl_meaning.specs.Layers.{topmost}
use Rattle.civl_meaning.specs.Places.{Spot, spot_at}
use Rattle.civl_conditions.specs.Steps.{of_action}
use Rattle.civl_conditions.specs.Variables.{of_globals, of_choices, of_instance, lower_globals, layer_choices, call_front, variables as condition_variables}
use Rattle.civl_conditions.specs.Weights.{bits_of_variables, globals_bits, linear_globals, initial_own, keep_weight, lin}
use Rattle.civl_goals.specs.declared.goal.Goal.TheVariants as goal
use Rattle.civl_goals.specs.Outlines.{top_globals}
use Rattle.civl_goals.specs.Variables.{of_names, of_frame, choices_at, of_statement, variables}
use Rattle.civl_goals.specs.Failed.{held_before}
use Rattle.civl_goals.specs.Weights.{invariant_weight, note_before_weight, first_note_weight, form_weight, form_begins, form_reaches, summed_at, items_at, statement_weight, weight}
use Rattle.civl_weighing.specs.Bits.{choices_bits}
use Rattle.civl_weighing.specs.Weighing.{Weighs}
use Rattle.civl_weights.specs.declared.sums.actions.ActionSums.{ActionSums}
use Rattle.civl_weights.specs.sums.Sums.{OfAction}
use Rattle.civl_weights.proofs.sums.Groups.{two_groups, choices_bits_are}
use Rattle.civl_weights.specs.Kinds.{instance_bits}
use Rattle.civl_weights.proofs.Groups.{instances}
use Rattle.civl_outlined.specs.declared.statements.StatementSums.{StatementSums}
use Rattle.civl_outlined.specs.declared.roots.ProcSums.{ProcSums}
use Rattle.civl_outlined.specs.declared.weights.Sums.{Sums}
use Rattle.civl_outlined.specs.inner.Said.{IsSaid}
use Rattle.civl_outlined.specs.inner.Sums.{OfSums, HasProc, IsThere, AreProcs, IsOfRoot, OfFound}

module _ (program : Program) (outline : Outline) where
  -- ---- beginnings

  pub invariant_is : bits_of_variables (of_globals [] program.globals) + (2 * invariant_weight program outline + initial_own program + 1) ≡ weight program outline goal.Invariant
  unfolding weight variables
  invariant_is = refl

  pub thread_is : (i : ℕ) → bits_of_variables (of_globals [] program.globals) + (2 * (invariant_weight program outline + option_map_or (λ t. first_note_weight program outline (proc_number program t.callee)) (slice_get program.threads i) 0) + initial_own program + 1)
      ≡ weight program outline (goal.Thread i)
  unfolding weight variables
  thread_is i = refl

  -- ---- actions

  as_condition : (x : ℕ) → bits_of_variables (lower_globals program (program.layers + 1) ++ of_action program x [] (of_instance (codes "X."))) + of_action program x 0 (keep_weight program) ≡ weight program outline (goal.Linear x)
  unfolding weight variables condition_variables
  as_condition x = refl

  pub linear_is : (x : ℕ) → globals_bits program program.layers + of_action program x 0 instance_bits + of_action program x 0 (keep_weight program) ≡ weight program outline (goal.Linear x)
  linear_is x =
      let step : program.layers ≡ program.layers + 1 - 1 = omega arith in
      ap (λ (n : ℕ). globals_bits program n + of_action program x 0 instance_bits + of_action program x 0 (keep_weight program)) step
      ∙ ap (λ (i : ℕ). i + of_action program x 0 (keep_weight program)) (two_groups (lower_globals program (program.layers + 1)) (of_action program x [] (of_instance (codes "X."))) refl (instances program (codes "X.") x)) ∙ as_condition x

  -- ---- statements

  pub safe_is : (r s : ℕ) → bits_of_variables (of_statement program r s) + statement_weight program outline r s (items_at program r s) (λ spot. 0) ≡ weight program outline (goal.Safe r s)
  unfolding weight variables
  safe_is r s = refl

  pub spawn_is : (r s : ℕ) → bits_of_variables (of_statement program r s) + statement_weight program outline r s (items_at program r s) (λ x. form_begins program outline (out-Stmt x.stmt)) ≡ weight program outline (goal.Spawn r s)
  unfolding weight variables
  spawn_is r s = refl

  pub next_is : (r s : ℕ) → bits_of_variables (of_statement program r s) + statement_weight program outline r s (items_at program r s) (λ x. summed_at (note_before_weight program outline r) (form_reaches x.number x.next (out-Stmt x.stmt))) ≡ weight program outline (goal.Next r s)
  unfolding weight variables
  next_is r s = refl

  pub kept_is : (r s : ℕ) → weight program outline (goal.Safe r s) ≡ weight program outline (goal.Keep r s)
  unfolding weight variables
  kept_is r s = refl

  module _ (r s : ℕ) (proc : Proc) (stmt : Stmt) (next : ℕ) (there : slice_get program.procs r ≡ Some proc) where
    pub variables_are : statement_at proc.body s ≡ Some stmt → globals_bits program program.layers + (bits_of_variables (of_names [] proc) + choices_bits (layer_choices (topmost program) (out-Stmt stmt))) ≡ bits_of_variables (of_statement program r s)
    variables_are at =
        let frame : of_frame [] program r ≡ of_names [] proc = ap (λ (o : Option Proc). option_map_or (of_names []) o []) there in
        let choices : choices_at program r s ≡ layer_choices (topmost program) (out-Stmt stmt) =
        ap (λ (o : Option Proc). option_map_or (λ p. option_map_or (λ x. layer_choices (topmost program) (out-Stmt x)) (statement_at p.body s) []) o []) there ∙ ap (λ (o : Option Stmt). option_map_or (λ x. layer_choices (topmost program) (out-Stmt x)) o []) at in
        two_groups (of_globals [] (top_globals program)) (of_frame [] program r ++ of_choices (call_front s) (choices_at program r s)) refl
        (sym (two_groups (of_frame [] program r) (of_choices (call_front s) (choices_at program r s)) (ap bits_of_variables frame) (ap (λ (cs : List Choice). bits_of_variables (of_choices (call_front s) cs)) choices ∙ choices_bits_are (call_front s) (layer_choices (topmost program) (out-Stmt stmt)))))

    items_are : items_at program r s ≡ linear_globals program + length (held_before program proc s)
    items_are = ap (λ (o : Option Proc). linear_globals program + option_map_or (λ p. length (held_before program p s)) o 0) there

    abbrev spot : Spot
    spot = record { number = s; stmt = stmt; next = next }

    abbrev says : (Spot → ℕ) → ℕ
    says f = invariant_weight program outline + note_before_weight program outline r s + form_weight program proc (out-Stmt stmt) + f spot

    statement_is : (items : ℕ) (f : Spot → ℕ) → spot_at proc.body s ≡ Some spot → statement_weight program outline r s items f ≡ 2 * says f + lin program items + 1
    statement_is items f at =
        ap (λ (o : Option Proc). option_map_or (λ p. option_map_or (λ x. 2 * (invariant_weight program outline + note_before_weight program outline r s + form_weight program p (out-Stmt x.stmt) + f x) + lin program items + 1) (spot_at p.body s) 0) o 0) there
        ∙ ap (λ (o : Option Spot). option_map_or (λ x. 2 * (invariant_weight program outline + note_before_weight program outline r s + form_weight program proc (out-Stmt x.stmt) + f x) + lin program items + 1) o 0) at

    pub goal_is : (v : ℕ) (f : Spot → ℕ) → spot_at proc.body s ≡ Some spot → v + (2 * says f + lin program (linear_globals program + length (held_before program proc s)) + 1) ≡ v + statement_weight program outline r s (items_at program r s) f
    goal_is v f at = ap (λ (n : ℕ). v + n) (ap (λ (i : ℕ). 2 * says f + lin program i + 1) (sym items_are) ∙ sym (statement_is (items_at program r s) f at))

    pub other_is : (q t : ℕ) (other : Proc) → spot_at proc.body s ≡ Some spot → slice_get program.procs q ≡ Some other
        → bits_of_variables (of_statement program r s) + bits_of_variables (of_names (codes "other.") other) + (2 * says (λ x. note_before_weight program outline q t) + lin program (linear_globals program + length (held_before program proc s) + length (held_before program other t)) + 1)
        ≡ weight program outline (goal.Other r s q t)
    unfolding weight variables
    other_is q t other at beside =
        let both : items_at program r s + option_map_or (λ p. length (held_before program p t)) (slice_get program.procs q) 0 ≡ linear_globals program + length (held_before program proc s) + length (held_before program other t) =
        ap (λ (n : ℕ). n + option_map_or (λ p. length (held_before program p t)) (slice_get program.procs q) 0) items_are ∙ ap (λ (o : Option Proc). linear_globals program + length (held_before program proc s) + option_map_or (λ p. length (held_before program p t)) o 0) beside in
        let frame : of_frame (codes "other.") program q ≡ of_names (codes "other.") other = ap (λ (o : Option Proc). option_map_or (of_names (codes "other.")) o []) beside in
        let variable_bits : bits_of_variables (of_statement program r s) + bits_of_variables (of_names (codes "other.") other) ≡ bits_of_variables (of_statement program r s ++ of_frame (codes "other.") program q) =
        two_groups (of_statement program r s) (of_frame (codes "other.") program q) refl (ap bits_of_variables frame) in
        let own = statement_is (items_at program r s + option_map_or (λ p. length (held_before program p t)) (slice_get program.procs q) 0) (λ x. note_before_weight program outline q t) at in
        ap (λ (n : ℕ). n + (2 * says (λ x. note_before_weight program outline q t) + lin program (linear_globals program + length (held_before program proc s) + length (held_before program other t)) + 1)) variable_bits
        ∙ ap (λ (n : ℕ). bits_of_variables (of_statement program r s ++ of_frame (codes "other.") program q) + n) (ap (λ (i : ℕ). 2 * says (λ x. note_before_weight program outline q t) + lin program i + 1) (sym both) ∙ sym own)

-- ---- all that is worked out

pub actions_as : (program other : Program) (list shown : List ActionSums) → other ≡ program → shown ≡ list → AllZip (OfAction program) program.actions list → AllZip (OfAction other) other.actions shown
actions_as program other list shown p s h = subst (λ (l : List ActionSums). AllZip (OfAction other) other.actions l) (sym s) (subst (λ (q : Program). AllZip (OfAction q) q.actions list) (sym p) h)

pub of_parts : (sums : Sums) (program : Program) → sums.said.program.now ≡ program → IsSaid sums.said → Weighs sums.bits (bits_of_variables (of_globals [] program.globals)) → Weighs sums.top (globals_bits program program.layers) → Weighs sums.globals (linear_globals program) →
    Weighs sums.initial (initial_own program) → AllZip (OfAction program) program.actions sums.actions → AreProcs sums.said.program.now sums.said.outline.now (length sums.said.program.now.procs) sums.procs → OfSums sums
of_parts sums program e said bits top linear initial actions procs = record {
  said = said;
  bits = subst (λ (q : Program). Weighs sums.bits (bits_of_variables (of_globals [] q.globals))) (sym e) bits;
  top = subst (λ (q : Program). Weighs sums.top (globals_bits q q.layers)) (sym e) top;
  globals = subst (λ (q : Program). Weighs sums.globals (linear_globals q)) (sym e) linear;
  initial = subst (λ (q : Program). Weighs sums.initial (initial_own q)) (sym e) initial;
  actions = actions_as program sums.said.program.now sums.actions sums.actions e refl actions;
  procs = procs;
}

-- ---- what is found

module _ (sums : Sums) (all : OfSums sums) (r s : ℕ) (named : IsOfRoot sums.said.program.now r s) where
  has : HasProc sums.said.program.now sums.said.outline.now r named.0 sums.procs
  has = all.procs.each r named.0 (slice_get_within sums.said.program.now.procs r named.0 named.1) named.1

  is_there : IsThere sums.said.program.now sums.said.outline.now r s named.0 has.sums.statements
  is_there = (has.own.statements named.2).each s named.3

  pub found_there : (p : ProcSums) (o : StatementSums) → slice_get sums.procs r ≡ Some p → slice_get p.statements s ≡ Some o → OfFound sums.said.program.now sums.said.outline.now r s (record { own = o; frame = p.frame })
  found_there p o e g =
      let same : has.sums ≡ p = same_Some has.sums p (sym has.found ∙ e) in
      let own : is_there.sums ≡ o = same_Some is_there.sums o (sym is_there.found ∙ ap (λ (x : ProcSums). slice_get x.statements s) same ∙ g) in
      subst (λ (x : StatementSums). OfFound sums.said.program.now sums.said.outline.now r s (record { own = x; frame = p.frame })) own
      (subst (λ (x : ProcSums). OfFound sums.said.program.now sums.said.outline.now r s (record { own = is_there.sums; frame = x.frame })) same (record {
        proc = named.0;
        stmt = is_there.stmt;
        next = is_there.next;
        there = named.1;
        spot = is_there.spot;
        statement = is_there.statement;
        own = is_there.own;
        frame = has.own.frame;
      }))

  pub proc_lost : slice_get sums.procs r ≡ None → ⊥
  proc_lost e = absurd (none-some has.sums (sym e ∙ has.found))

  pub statement_lost : (p : ProcSums) → slice_get sums.procs r ≡ Some p → slice_get p.statements s ≡ None → ⊥
  statement_lost p e g =
      let same : has.sums ≡ p = same_Some has.sums p (sym has.found ∙ e) in
      absurd (none-some is_there.sums (sym g ∙ ap (λ (x : ProcSums). slice_get x.statements s) (sym same) ∙ is_there.found))
