-- A goal of a statement alone: its variables, when it is violated, and what it weighs.
use Rattle.std.specs.Prelude.{slice_get}
use Rattle.std.specs.Option.{option_map_or}
use Rattle.std.proofs.Common.{◌≡◌, ◌∙◌, ℕ, ◌+◌, ◌*◌, ◌≤◌, Bool, List, [], ◌++◌, length, append-nil, sym, ap, ap₂, subst, arith, Option}
use Rattle.std.proofs.lemmas.Option.{same_Some}
use Rattle.civl_bits.specs.declared.value.Value.{Value}
use Rattle.civl_tree.specs.declared.expr.Sort.{Sort}
use Rattle.civl_tree.specs.declared.stmt.Stmt.{Stmt, out-Stmt}
use Rattle.civl_tree.specs.declared.program.Proc.{Proc}
use Rattle.civl_tree.specs.declared.program.Program.{Program}
use Rattle.civl_tree.specs.Numbering.{statement_at}
use Rattle.civl_outlines.specs.declared.outline.Outline.{Outline}
use Rattle.civl_firing.specs.declared.store.Store.{Store}
use Rattle.civl_meaning.specs.declared.config.Activation.{Activation}
use Rattle.civl_meaning.specs.declared.config.Change.{Change}
use Rattle.civl_meaning.specs.Config.{frame_sorts}
use Rattle.civl_conditions.specs.Steps.{of_proc}
use Rattle.civl_conditions.specs.Weights.{lin, linear_globals}
use Rattle.civl_goals.specs.declared.goal.Goal.{Goal}
use Rattle.civl_goals.specs.declared.goal.Goal.TheVariants as goal
use Rattle.civl_goals.specs.Failed.{loses_invariant, begins_badly, leads_astray, step_fails, held_before, failed}
use Rattle.civl_goals.specs.Weights.{invariant_weight, note_before_weight, form_weight, form_begins, form_reaches, summed_at, items_at, own_weight}
use Rattle.civl_goal_terms.specs.declared.places.At.{At}
use Rattle.civl_goal_terms.specs.inner.There.{HasStatement, IsCall, IsSpawn, IsThere}
use Rattle.civl_goal_terms.specs.inner.Places.{IsAt}
use Rattle.civl_terms.specs.declared.node.Node.{Node}
use Rattle.civl_goal_terms.specs.declared.settings.Setting.{Setting}
use Rattle.civl_goal_terms.specs.inner.Settings.{sorts_at, done_by, TellsHere}
use Rattle.civl_goal_terms.specs.Formulas.{sorts_of}
use Rattle.civl_goal_terms.specs.inner.Sorted.{top_sorts, statement_sorts}
use Rattle.civl_goal_terms.specs.inner.Fails.{is_unsafe, fails_of, named_weight, IsOwn, IsOwnOf}
use Rattle.civl_goal_terms.proofs.Sorting.{grouped_are}
use Rattle.civl_goal_terms.proofs.Standing.{statement_there, statement_weighs, items_there, note_some}

module _ (program : Program) (at : At) (is : IsAt program at) where
  -- ---- its variables

  sorts_like : (g : Goal) (r s : ℕ) → statement_sorts program r s ≡ sorts_of program g → r ≡ at.root → s ≡ at.number → sorts_of program g ≡ top_sorts program ++ (frame_sorts at.proc.now ++ (sorts_at program at ++ []))
  sorts_like g r s e p q =
      sym e ∙ ap₂ (statement_sorts program) p q ∙ statement_there program at is
      ∙ ap (λ (ss : List Sort). top_sorts program ++ (frame_sorts at.proc.now ++ ss)) (sym (append-nil (sorts_at program at)))

  pub own_sorts : (g : Goal) → IsOwn at g → sorts_of program g ≡ top_sorts program ++ (frame_sorts at.proc.now ++ (sorts_at program at ++ []))
  own_sorts (goal.Safe r s) o = sorts_like (goal.Safe r s) r s (grouped_are program (goal.Safe r s)) o.0 o.1
  own_sorts (goal.Keep r s) o = sorts_like (goal.Keep r s) r s (grouped_are program (goal.Keep r s)) o.0 o.1
  own_sorts (goal.Spawn r s) o = sorts_like (goal.Spawn r s) r s (grouped_are program (goal.Spawn r s)) o.0 o.1
  own_sorts (goal.Next r s) o = sorts_like (goal.Next r s) r s (grouped_are program (goal.Next r s)) o.0 o.1
  own_sorts _ o = absurd o

  module _ (outline : Outline) where
    -- ---- when it is violated

    step_like : (r s : ℕ) (fails : Store → Activation → Change → Bool) (values : List Value) → r ≡ at.root → s ≡ at.number → step_fails program outline values r s fails ≡ step_fails program outline values at.root at.number fails
    step_like r s fails values p q = ap₂ (λ (m n : ℕ). step_fails program outline values m n fails) p q

    pub own_failed : (g : Goal) → IsOwn at g → (values : List Value) → step_fails program outline values at.root at.number (fails_of program outline g) ≡ failed program outline g values
    unfolding failed
    own_failed (goal.Safe r s) o values = sym (step_like r s (is_unsafe program r) values o.0 o.1)
    own_failed (goal.Keep r s) o values = sym (step_like r s (loses_invariant program outline) values o.0 o.1)
    own_failed (goal.Spawn r s) o values = sym (step_like r s (begins_badly program outline) values o.0 o.1)
    own_failed (goal.Next r s) o values = sym (step_like r s (leads_astray program outline) values o.0 o.1)
    own_failed _ o values = absurd o

    -- ---- what it weighs

    abbrev spent : Goal → ℕ
    spent g =
        2 * invariant_weight program outline + note_before_weight program outline at.root at.number + 4 * lin program (linear_globals program + length (held_before program at.proc.now at.number))
        + form_weight program at.proc.now (out-Stmt at.stmt.now) + named_weight program outline at g + 9

    pub own_weighs : (g : Goal) → IsOwn at g → spent g ≤ 4 * own_weight program outline g
    own_weighs (goal.Safe r s) o =
        let w = ap₂ (λ (m n : ℕ). own_weight program outline (goal.Safe m n)) o.0 o.1 ∙ statement_weighs program at is outline (items_at program at.root at.number) (λ spot. 0) in
        omega (arith, w, ap (lin program) (items_there program at is), note_some program outline at.root at.number)
    own_weighs (goal.Keep r s) o =
        let w = ap₂ (λ (m n : ℕ). own_weight program outline (goal.Keep m n)) o.0 o.1 ∙ statement_weighs program at is outline (items_at program at.root at.number) (λ spot. 0) in
        omega (arith, w, ap (lin program) (items_there program at is), note_some program outline at.root at.number)
    own_weighs (goal.Spawn r s) o =
        let w = ap₂ (λ (m n : ℕ). own_weight program outline (goal.Spawn m n)) o.0 o.1
        ∙ statement_weighs program at is outline (items_at program at.root at.number) (λ spot. form_begins program outline (out-Stmt spot.stmt)) in
        omega (arith, w, ap (lin program) (items_there program at is), note_some program outline at.root at.number)
    own_weighs (goal.Next r s) o =
        let w = ap₂ (λ (m n : ℕ). own_weight program outline (goal.Next m n)) o.0 o.1
        ∙ statement_weighs program at is outline (items_at program at.root at.number) (λ spot. summed_at (note_before_weight program outline at.root) (form_reaches spot.number spot.next (out-Stmt spot.stmt))) in
        omega (arith, w, ap (lin program) (items_there program at is), note_some program outline at.root at.number)
    own_weighs _ o = absurd o

  -- ---- its statement

  same_stmt : (r s : ℕ) (h : HasStatement program r s) → r ≡ at.root → s ≡ at.number → h.stmt ≡ at.stmt.now
  same_stmt r s h p q =
      let proc : h.proc ≡ at.proc.now = same_Some h.proc at.proc.now (sym h.there ∙ ap (slice_get program.procs) p ∙ is.proc) in
      same_Some h.stmt at.stmt.now (sym h.is ∙ ap₂ (λ (x : Proc) (n : ℕ). statement_at x.body n) proc q ∙ is.stmt)

  pub owned : (g : Goal) (root number : ℕ) → IsOwnOf g root number → IsThere program g → at.root ≡ root → at.number ≡ number → IsOwn at g
  owned (goal.Safe r s) root number o there p q = (o.0 ∙ sym p, o.1 ∙ sym q)
  owned (goal.Keep r s) root number o there p q = (o.0 ∙ sym p, o.1 ∙ sym q, subst (λ (x : Stmt). IsCall (out-Stmt x)) (same_stmt r s there.0 (o.0 ∙ sym p) (o.1 ∙ sym q)) there.1)
  owned (goal.Spawn r s) root number o there p q = (o.0 ∙ sym p, o.1 ∙ sym q, subst (λ (x : Stmt). IsSpawn (out-Stmt x)) (same_stmt r s there.0 (o.0 ∙ sym p) (o.1 ∙ sym q)) there.1)
  owned (goal.Next r s) root number o there p q = (o.0 ∙ sym p, o.1 ∙ sym q)
  owned _ root number o there p q = absurd o

-- the statement is there
pub stands : (program : Program) (g : Goal) (root number : ℕ) → IsOwnOf g root number → IsThere program g → HasStatement program root number
stands program (goal.Safe r s) root number o there = subst (HasStatement program root) o.1 (subst (λ (n : ℕ). HasStatement program n s) o.0 there)
stands program (goal.Keep r s) root number o there = subst (HasStatement program root) o.1 (subst (λ (n : ℕ). HasStatement program n s) o.0 there.0)
stands program (goal.Spawn r s) root number o there = subst (HasStatement program root) o.1 (subst (λ (n : ℕ). HasStatement program n s) o.0 there.0)
stands program (goal.Next r s) root number o there = subst (HasStatement program root) o.1 (subst (λ (n : ℕ). HasStatement program n s) o.0 there)
stands program _ root number o there = absurd o

-- what is held there, by its numbers in the same program
pub held_there : (program src : Program) → program ≡ src → (at : At) → IsAt program at → (root number : ℕ) → at.root ≡ root → at.number ≡ number → of_proc src root [] (λ proc. held_before src proc number) ≡ held_before program at.proc.now at.number
held_there program src same at is root number p q =
    sym (ap (λ (x : Program). of_proc x root [] (λ proc. held_before x proc number)) same)
    ∙ sym (ap₂ (λ (m n : ℕ). of_proc program m [] (λ proc. held_before program proc n)) p q)
    ∙ ap (λ (o : Option Proc). option_map_or (λ proc. held_before program proc at.number) o []) is.proc

-- ---- what the goal tests of the statement

module _ (program : Program) (outline : Outline) (at : At) (g : Goal) (own : IsOwn at g) where
  pub fails_safe : (r s : ℕ) → g ≡ goal.Safe r s → is_unsafe program at.root ≡ fails_of program outline g
  fails_safe r s e = let o = subst (IsOwn at) e own in sym (ap (fails_of program outline) e ∙ ap (is_unsafe program) o.0)

  module _ (old new : List Node) (setting : Setting) (id : ℕ) where
    pub tells_as : (f : Store → Activation → Change → Bool) → f ≡ fails_of program outline g → TellsHere old new program at setting (done_by program at f) id → TellsHere old new program at setting (done_by program at (fails_of program outline g)) id
    tells_as f e t = subst (λ (k : Store → Activation → Change → Bool). TellsHere old new program at setting (done_by program at k) id) e t
