-- What the end of a frame does to what its thread owns.
use Rattle.std.proofs.Common.{◌≡◌, ℕ, ◌+◌, ◌-◌, ◌≤◌, Bool, List, [], ◌∷◌, ◌++◌, take, drop, length, refl, sym, ap, ap₂, ◌∙◌, subst, arith, Option, None, Some, slice_get}
use Rattle.std.specs.Prelude.{All}
use Rattle.std.proofs.lemmas.Option.{same_Some}
use Rattle.std.proofs.lemmas.List.{length-append, length-map, length-take, length-drop}
use Rattle.civl_bits.specs.Value.{IsValue}
use Rattle.civl_bits.specs.declared.value.Value.{Value}
use Rattle.civl_firing.specs.values.Values.{HaveSorts}
use Rattle.civl_tree.specs.declared.name.Name.{Name}
use Rattle.civl_tree.specs.declared.expr.Expr.{Expr}
use Rattle.civl_tree.specs.declared.action.Action.{Action}
use Rattle.civl_tree.specs.declared.stmt.Stmt.{Stmt, out-Stmt}
use Rattle.civl_tree.specs.declared.stmt.Stmt.TheOpen.{Stmt-F, Call}
use Rattle.civl_tree.specs.declared.program.Proc.{Proc}
use Rattle.civl_tree.specs.declared.program.Program.{Program}
use Rattle.civl_tree.specs.Numbering.{sizes_of, statement_at}
use Rattle.civl_tree.specs.rules.Names.{param_names, names_in_proc, callee_signature, proc_signature}
use Rattle.civl_tree.specs.rules.Rules.{Keeps}
use Rattle.civl_firing.specs.declared.store.Store.{Store}
use Rattle.civl_firing.specs.Eval.{values_of}
use Rattle.civl_firing.specs.Scope.{frame_values}
use Rattle.civl_firing.specs.Stores.{IsStore}
use Rattle.civl_meaning.specs.declared.config.Plain.{Plain}
use Rattle.civl_meaning.specs.declared.config.Activation.{Activation}
use Rattle.civl_meaning.specs.declared.config.State.TheVariants.{Inside}
use Rattle.civl_meaning.specs.declared.config.Running.{Running}
use Rattle.civl_meaning.specs.declared.config.Change.TheVariants.{Leaves}
use Rattle.civl_meaning.specs.Places.{Spot, spot_at}
use Rattle.civl_meaning.specs.Meaning.{Meaning, Does, Runs, Missing, called}
use Rattle.civl_meaning.specs.Change.{with_results, outs_in, returned_layer, returned_at, returned_in, returned}
use Rattle.civl_meaning.specs.Config.{IsPlain, frame_sorts, IsBodyOf, LayerCalls, SpotCalls, ProcCalls, Waits}
use Rattle.civl_linear.specs.Modes.{is_lent, is_passed, passed_names}
use Rattle.civl_linear.specs.Held.{exit_owed, without_names}
use Rattle.civl_linear.specs.LinearRules.{linear_rules}
use Rattle.civl_conditions.specs.Permissions.{of_modes}
use Rattle.civl_reduction.specs.permissions.Owned.{held_before, held_during}
use Rattle.civl_reduction.specs.permissions.Stay.{KeepsPermissions}
use Rattle.civl_reduction.proofs.permissions.Counting.{carriers}
use Rattle.civl_reduction.proofs.permissions.Flags.{amount, within_less}
use Rattle.civl_reduction.proofs.permissions.Results.{results_kept}
use Rattle.civl_reduction.proofs.permissions.Frames.{call_facts, exit_carries}
use Rattle.civl_reduction.proofs.permissions.Next.{steps, exits}
use Rattle.civl_reduction.proofs.permissions.Standing.{owed_held}
use Rattle.civl_reduction.proofs.permissions.Meant.{called_runs}
use Rattle.civl_reduction.proofs.permissions.Lending.{Lends, AreLent, lent_same, lent_front}
use Rattle.civl_reduction.proofs.permissions.Changing.{Meant, AreWritable, Kept, below_owns, inside_owns, below_more, during_is, back}

-- what the frame of this procedure was called as
called_as : (plain : Plain) (ok : IsPlain plain) (n : ℕ) (callee : Proc) → slice_get plain.program.procs n ≡ Some callee → (g : Name) → IsBodyOf n (called plain g) → callee_signature plain.program g ≡ Some (proc_signature callee)
called_as plain ok n callee there g h = go (called plain g) refl h
  where
    go : (m : Meaning) → called plain g ≡ m → IsBodyOf n m → callee_signature plain.program g ≡ Some (proc_signature callee)
    go (Runs number other) e b =
        let r = called_runs plain ok g number other e in
        let is : other ≡ callee = same_Some other callee (sym (ap (slice_get plain.program.procs) (sym b) ∙ r.0) ∙ there) in
        subst (λ (q : Proc). callee_signature plain.program g ≡ Some (proc_signature q)) is r.1
    go (Does action) e b = absurd b
    go Missing e b = absurd b

module _ (plain : Plain) (ok : IsPlain plain) (linear : Keeps linear_rules plain.program) (writable : AreWritable plain.program) (keeps : (action : Action) → Meant plain action → KeepsPermissions plain.program action)
    (store : Store) (fits : IsStore plain.program.globals store) (chosen : List Value) (chosen_fit : All IsValue chosen) (thread : Running)
    (front : List Activation) (frame : Activation) (caller : Proc) (at : slice_get plain.program.procs frame.procedure ≡ Some caller) (locals_fit : HaveSorts frame.locals (frame_sorts caller)) (same : length frame.locals ≡ length (names_in_proc caller)) (placed : frame.place ≤ sizes_of caller.body)
    (top : Activation) (proc : Proc) (there : slice_get plain.program.procs top.procedure ≡ Some proc) (top_placed : top.place ≤ sizes_of proc.body) (ends : spot_at proc.body top.place ≡ None) (top_same : length top.locals ≡ length (names_in_proc proc))
    (lent : AreLent plain.program (front ++ frame ∷ []) top) where
  abbrev program : Program
  program = plain.program

  lent_below : AreLent program front frame × Lends program frame top
  lent_below = lent_front program front frame top lent

  outs_length : length (outs_in proc top.locals) ≡ length proc.outs
  outs_length =
      let names : length (names_in_proc proc) ≡ length proc.params + (length proc.outs + length proc.locals) = counted in
      let dropped = length-drop (length proc.params) top.locals in
      let taken = length-take (length proc.outs) (drop (length proc.params) top.locals) in
      omega (arith, top_same, names, dropped, taken)
    where
      counted : length (names_in_proc proc) ≡ length proc.params + (length proc.outs + length proc.locals)
      counted =
          length-append (param_names proc.params) _
          ∙ ap₂ (λ (m n : ℕ). m + n) (length-map proc.params (λ p. p.name))
          (length-append (param_names proc.outs) _ ∙ ap₂ (λ (m n : ℕ). m + n) (length-map proc.outs (λ p. p.name)) (length-map proc.locals (λ l. l.name)))

  -- the frame that waits, behind the call
  behind : (s : Spot) → spot_at caller.body frame.place ≡ Some s → s.number ≡ frame.place → (g : Name) (es : List Expr) (rs : List Name) → out-Stmt s.stmt ≡ Call g es rs → IsBodyOf top.procedure (called plain g)
      → ((p : ℕ) → below_owns program front p + amount p (held_before program caller s.next) (with_results (names_in_proc caller) frame.locals rs (outs_in proc top.locals))
      ≤ below_owns program (front ++ frame ∷ []) p + amount p (held_before program proc top.place) top.locals)
      × (take (length caller.params) (with_results (names_in_proc caller) frame.locals rs (outs_in proc top.locals)) ≡ take (length caller.params) frame.locals)
  behind s found here g es rs q body =
      let st = steps program ok.rules linear frame.procedure caller at frame.place placed s found in
      let outs = outs_in proc top.locals in
      let known = called_as plain ok top.procedure proc there g body in
      let facts = call_facts program caller s.stmt (held_before program caller s.number) st.keeps g es rs q (proc_signature proc) known in
      let stands : statement_at caller.body frame.place ≡ Some s.stmt = subst (λ n. statement_at caller.body n ≡ Some s.stmt) here st.here in
      let lends : take (length proc.params) top.locals ≡ values_of (frame_values program.globals caller frame.locals) es = lent_below.1 caller proc s.stmt g es rs at there stands q in
      let flags : held_during program caller frame.place ≡ without_names (passed_names is_passed proc.params es) (names_in_proc caller) (held_before program caller s.number) =
      during_is program caller frame.place s.stmt g es rs (proc_signature proc) stands q known ∙ ap (λ n. without_names (passed_names is_passed proc.params es) (names_in_proc caller) (held_before program caller n)) (sym here) in (
        (λ p.
            let one = below_more program front frame caller at p in
            let two : amount p (held_during program caller frame.place) frame.locals ≡ amount p (without_names (passed_names is_passed proc.params es) (names_in_proc caller) (held_before program caller s.number)) frame.locals = ap (λ (f : List Bool). amount p f frame.locals) flags in
            let three = back plain ok linear writable keeps store fits chosen chosen_fit thread front frame caller at locals_fit same lent_below.0 s st g es rs q (proc_signature proc) known outs outs_length p in
            let four : carriers p (of_modes is_lent proc.params (take (length proc.params) top.locals)) ≡ carriers p (of_modes is_lent proc.params (values_of (frame_values program.globals caller frame.locals) es)) = ap (λ (vs : List Value). carriers p (of_modes is_lent proc.params vs)) lends in
            let five = exit_carries p proc top.locals in
            let six = within_less p (exit_owed proc) (held_before program proc (sizes_of proc.body)) top.locals (owed_held program ok.rules linear top.procedure proc there) in
            let seven = within_less p (held_before program proc (sizes_of proc.body)) (held_before program proc top.place) top.locals (exits program ok.rules linear top.procedure proc there top.place top_placed ends) in
            omega (arith, one, two, three, four, five, six, seven)),
        results_kept caller proc.outs rs outs frame.locals facts.results_count facts.right,
      )

  -- the whole, with the frame below on top
  pub returned_kept : Waits plain top.procedure frame → (below : List Activation) → below ≡ front ++ frame ∷ [] → take (length below - 1) below ≡ front → Kept program store thread (Inside below top) (Leaves (Some (returned plain (outs_in proc top.locals) frame)))
  returned_kept waits below is fore =
      subst (λ (o : Option Proc). Kept program store thread (Inside below top) (Leaves (Some (returned_in frame (outs_in proc top.locals) o)))) (sym at)
      (by_spot (spot_at caller.body frame.place) refl (subst (ProcCalls plain top.procedure frame.place) at waits))
    where
      by_form : (s : Spot) → spot_at caller.body frame.place ≡ Some s → s.number ≡ frame.place → (d : Stmt-F Stmt) → out-Stmt s.stmt ≡ d → LayerCalls plain top.procedure d
          → Kept program store thread (Inside below top) (Leaves (Some (record { procedure = frame.procedure; place = s.next; locals = returned_layer caller frame.locals (outs_in proc top.locals) d })))
      by_form s found here (Call g es rs) q body =
          let b = behind s found here g es rs q body in
          let after : Activation = record { procedure = frame.procedure; place = s.next; locals = with_results (names_in_proc caller) frame.locals rs (outs_in proc top.locals) } in (
            (λ p.
                let one = inside_owns program thread below top proc there p in
                let two = inside_owns program thread (take (length below - 1) below) after caller at p in
                let three = b.0 p in
                let four : below_owns program below p ≡ below_owns program (front ++ frame ∷ []) p = ap (λ (l : List Activation). below_owns program l p) is in
                let five : below_owns program (take (length below - 1) below) p ≡ below_owns program front p = ap (λ (l : List Activation). below_owns program l p) fore in
                omega (arith, one, two, three, four, five)),
            subst (λ (l : List Activation). AreLent program l after) (sym fore)
                (lent_same program front frame after (refl, λ other o. let same_caller : caller ≡ other = same_Some caller other (sym at ∙ o) in subst (λ (x : Proc). take (length x.params) after.locals ≡ take (length x.params) frame.locals) same_caller b.1) lent_below.0),
          )
      by_form s found here _ q body = absurd body

      by_spot : (o : Option Spot) → spot_at caller.body frame.place ≡ o → SpotCalls plain top.procedure frame.place o → Kept program store thread (Inside below top) (Leaves (Some (returned_at frame (outs_in proc top.locals) caller o)))
      by_spot None found c = absurd c
      by_spot (Some s) found c = by_form s found c.0 (out-Stmt s.stmt) refl c.1
