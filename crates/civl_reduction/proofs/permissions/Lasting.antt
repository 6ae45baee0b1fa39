-- The actions before whose calls threads stand exist in the layer of their program.
use Rattle.std.proofs.Common.{◌≡◌, ℕ, ◌≤◌, true, false, ◌&&◌, List, refl, sym, ap, ◌∙◌, subst, arith, Option, None, Some, slice_get, inl, inr, ◌⊎◌}
use Rattle.std.specs.Prelude.{nat_eq, nat_le, nat_lt, IsTrue}
use Rattle.std.specs.List.{list_any}
use Rattle.std.proofs.lemmas.Bool.{false≢true, not-false, leb-true, le-leb, ltb-true, ltb-false, eqb-true, or_cases, and_parts, and_from}
use Rattle.std.proofs.lemmas.Option.{same_Some}
use Rattle.civl_tree.specs.declared.name.Name.{Name}
use Rattle.civl_tree.specs.declared.expr.Expr.{Expr}
use Rattle.civl_tree.specs.declared.action.Action.{Action}
use Rattle.civl_tree.specs.declared.stmt.Stmt.{Stmt, out-Stmt}
use Rattle.civl_tree.specs.declared.stmt.Stmt.TheOpen.{Stmt-F, Call, Spawn}
use Rattle.civl_tree.specs.declared.program.Proc.{Proc}
use Rattle.civl_tree.specs.declared.program.Refines.{Refines}
use Rattle.civl_tree.specs.declared.program.Program.{Program}
use Rattle.civl_tree.specs.declared.program.Thread.{Thread}
use Rattle.civl_tree.specs.Numbering.{statement_at, statements_of}
use Rattle.civl_tree.specs.rules.Names.{action_named, proc_named}
use Rattle.civl_tree.proofs.Kept.{statement_kept, thread_kept}
use Rattle.civl_tree.proofs.Lists.{any_place}
use Rattle.civl_meaning.specs.declared.config.Plain.{Plain}
use Rattle.civl_meaning.specs.Meaning.{Does, proc_number, meaning_of, meaning_else, called}
use Rattle.civl_meaning.specs.Layers.{means_body, program_at}
use Rattle.civl_meaning.specs.Config.{begins_threads, spawns, layer_spawns}
use Rattle.civl_meaning.proofs.Begun.{proc_is}
use Rattle.civl_meaning.proofs.Bodies.{bodies_at}
use Rattle.civl_layers.specs.Ranges.{exists_in, exists_through, life_end}
use Rattle.civl_layers.specs.Names.{action_range}
use Rattle.civl_layers.specs.NotThere.{action_missing, refined_missing, run_missing, call_missing, form_missing, stmt_missing, thread_missing}
use Rattle.civl_layers.specs.LayerRules.{layer_rules, not_there_rule}
use Rattle.civl_layers.specs.Layered.{IsLayered}
use Rattle.civl_reduction.specs.permissions.Apart.{SpawnsStandInRoots}
use Rattle.civl_reduction.proofs.permissions.Meant.{does_by, does_refined}

-- an action that exists from one layer to another exists in those between
exists_between : (from to layer : ℕ) (action : Action) → from ≤ layer → layer ≤ to → action_missing from to (Some action) ≡ false → exists_in layer (action_range action) ≡ true
exists_between from to layer action h k e = go (or_cases (nat_lt to from) (nat_le action.first from && nat_le to action.last) (not-false (exists_through from to (action_range action)) e))
  where
    go : (nat_lt to from ≡ true) ⊎ ((nat_le action.first from && nat_le to action.last) ≡ true) → exists_in layer (action_range action) ≡ true
    go (inl q) = let l = ltb-true to from q in absurd (omega (arith, h, k, l))
    go (inr q) =
        let p = and_parts (nat_le action.first from) (nat_le to action.last) q in
        let low = leb-true action.first from p.0 in
        let high = leb-true to action.last p.1 in
        and_from _ _ (le-leb action.first layer (omega (arith, h, low))) (le-leb layer action.last (omega (arith, k, high)))

module _ (program : Program) (src : IsLayered program) (layer : ℕ) (within : layer ≤ program.layers) where
  abbrev plain : Plain
  plain = program_at program layer

  -- ---- the action that a procedure stands for

  stands_for : (k : ℕ) (action : Action) → meaning_of plain k ≡ Does action → (proc : Proc) × (slice_get program.procs k ≡ Some proc) × (r : Refines) × (proc.refines ≡ Some r) × (action_named program r.action ≡ Some action) × (r.layer ≤ layer)
  stands_for k action e =
      let d = does_by program (slice_get plain.bodies k) k (slice_get program.procs k) action e in
      let r = does_refined program d.0 d.0.refines action d.3 in
      let body : means_body layer d.0.refines ≡ false = same_Some (means_body layer d.0.refines) false (sym (bodies_at layer program.procs k d.0 d.1) ∙ d.2) in
      let low : nat_lt layer r.0.layer ≡ false = subst (λ (o : Option Refines). means_body layer o ≡ false) r.1 body in
      (d.0, d.1, r.0, r.1, r.2, ltb-false layer r.0.layer low)

  -- where the procedure may be run up to a layer
  run_exists : (k : ℕ) (action : Action) → meaning_of plain k ≡ Does action → (to : ℕ) → layer ≤ to → (o : Option Proc) → o ≡ slice_get program.procs k → run_missing program to o ≡ false → exists_in layer (action_range action) ≡ true
  run_exists k action e to high o is missing =
      let s = stands_for k action e in
      let proc_is_so : o ≡ Some s.0 = is ∙ s.1 in
      let one : refined_missing program to s.0.refines ≡ false = subst (λ (p : Option Proc). run_missing program to p ≡ false) proc_is_so missing in
      let two : action_missing s.2.layer to (action_named program s.2.action) ≡ false = subst (λ (r : Option Refines). refined_missing program to r ≡ false) s.3 one in
      exists_between s.2.layer to layer action s.5 high (subst (λ (a : Option Action). action_missing s.2.layer to a ≡ false) s.4 two)

  -- ---- a call in a body

  -- the body of a procedure that is run in this program lives up to this layer
  body_lives : (n : ℕ) (proc : Proc) → slice_get program.procs n ≡ Some proc → slice_get plain.bodies n ≡ Some true → layer ≤ life_end program proc.refines
  body_lives n proc at body = go proc.refines (same_Some (means_body layer proc.refines) true (sym (bodies_at layer program.procs n proc at) ∙ body))
    where
      go : (o : Option Refines) → means_body layer o ≡ true → layer ≤ life_end program o
      go None e = within
      go (Some r) e = let l = ltb-true layer r.layer e in omega (arith, l)

  pub call_exists : (n : ℕ) (proc : Proc) → slice_get program.procs n ≡ Some proc → slice_get plain.bodies n ≡ Some true → (place : ℕ) (stmt : Stmt) (g : Name) (es : List Expr) (rs : List Name) → statement_at proc.body place ≡ Some stmt → out-Stmt stmt ≡ Call g es rs → (action : Action) → called plain g ≡ Does action
      → exists_in layer (action_range action) ≡ true
  call_exists n proc at body place stmt g es rs here q action does = by_action (action_named program g) refl does
    where
      to : ℕ
      to = life_end program proc.refines

      kept : call_missing program (life_end program proc.refines) (action_named program g) (proc_named program g) ≡ false
      kept =
          subst (λ (d : Stmt-F Stmt). form_missing program (life_end program proc.refines) d ≡ false) q
          (statement_kept layer_rules program src.layers not_there_rule (3, omega arith, refl) (stmt_missing program proc) n proc at refl place stmt here)

      lives : layer ≤ life_end program proc.refines
      lives = body_lives n proc at body

      by_action : (o : Option Action) → action_named program g ≡ o → meaning_else plain g o ≡ Does action → exists_in layer (action_range action) ≡ true
      by_action None f e = run_exists (proc_number program g) action e (life_end program proc.refines) lives (proc_named program g) (sym (proc_is program g)) (subst (λ (o : Option Action). call_missing program (life_end program proc.refines) o (proc_named program g) ≡ false) f kept)
      by_action (Some a) f e =
          let same : a ≡ action = cc in
          let missing : action_missing 0 (life_end program proc.refines) (Some a) ≡ false = subst (λ (o : Option Action). call_missing program (life_end program proc.refines) o (proc_named program g) ≡ false) f kept in
          exists_between 0 (life_end program proc.refines) layer action (omega arith) lives (subst (λ (x : Action). action_missing 0 (life_end program proc.refines) (Some x) ≡ false) same missing)

  -- ---- a thread's first call

  pub first_exists : SpawnsStandInRoots program → (k : ℕ) (action : Action) → meaning_of plain k ≡ Does action → IsTrue (begins_threads program k) → exists_in layer (action_range action) ≡ true
  first_exists roots k action e begins = elim (or_cases (list_any (λ (t : Thread). nat_eq (proc_number program t.callee) k) program.threads) (list_any (λ (p : Proc). list_any (spawns program k) (statements_of p.body)) program.procs) begins) [
    | inl h ↦
        let t = any_place (λ (t : Thread). nat_eq (proc_number program t.callee) k) program.threads h in
        let number : proc_number program t.1.callee ≡ k = eqb-true (proc_number program t.1.callee) k t.3 in
        let missing : thread_missing program t.1 ≡ false = thread_kept layer_rules program src.layers not_there_rule (3, omega arith, refl) t.0 t.1 t.2 in
        run_exists k action e program.layers within (proc_named program t.1.callee) (sym (proc_is program t.1.callee) ∙ ap (slice_get program.procs) number) missing
    | inr h ↦
        let p = any_place (λ (p : Proc). list_any (spawns program k) (statements_of p.body)) program.procs h in
        let s = any_place (spawns program k) (statements_of p.1.body) p.3 in
        by_form p.0 p.1 p.2 s.0 s.1 s.2 (out-Stmt s.1) refl s.3
  ]
    where
      by_form : (i : ℕ) (proc : Proc) → slice_get program.procs i ≡ Some proc → (n : ℕ) (stmt : Stmt) → statement_at proc.body n ≡ Some stmt → (d : Stmt-F Stmt) → out-Stmt stmt ≡ d → layer_spawns program k d ≡ true → exists_in layer (action_range action) ≡ true
      by_form i proc at n stmt here (Spawn f es) q h =
          let number : proc_number program f ≡ k = eqb-true (proc_number program f) k h in
          let root : proc.refines ≡ None = roots i proc at n stmt here f es q in
          let missing : run_missing program (life_end program proc.refines) (proc_named program f) ≡ false =
          subst (λ (d : Stmt-F Stmt). form_missing program (life_end program proc.refines) d ≡ false) q (statement_kept layer_rules program src.layers not_there_rule (3, omega arith, refl) (stmt_missing program proc) i proc at refl n stmt here) in
          run_exists k action e program.layers within (proc_named program f) (sym (proc_is program f) ∙ ap (slice_get program.procs) number) (subst (λ (o : Option Refines). run_missing program (life_end program o) (proc_named program f) ≡ false) root missing)
      by_form i proc at n stmt here _ q h = absurd (false≢true h)
