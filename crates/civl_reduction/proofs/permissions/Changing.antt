-- What a step of a thread does to what the thread owns, by the next statement of its topmost frame.
use Rattle.std.proofs.Common.{◌≡◌, ℕ, zero, suc, ◌+◌, ◌<◌, ◌≤◌, Bool, true, false, List, [], ◌∷◌, ◌++◌, take, length, map, refl, sym, ap, ◌∙◌, subst, arith, Option, None, Some, slice_get, slice_set, inl, ◌⊎◌}
use Rattle.std.specs.Prelude.{All, flat_map, if◌then◌else◌}
use Rattle.std.specs.List.{list_all}
use Rattle.std.proofs.lemmas.Bool.{or_parts}
use Rattle.std.proofs.lemmas.Option.{same_Some}
use Rattle.std.proofs.lemmas.List.{length-map}
use Rattle.std.proofs.lemmas.Grind.{flat_map-append}
use Rattle.civl_bits.specs.Value.{IsValue}
use Rattle.civl_bits.specs.declared.value.Value.{Value}
use Rattle.civl_firing.specs.values.Values.{is_true, HaveSorts}
use Rattle.civl_tree.specs.declared.name.Name.{Name}
use Rattle.civl_tree.specs.declared.expr.Expr.{Expr}
use Rattle.civl_tree.specs.declared.action.Action.{Action}
use Rattle.civl_tree.specs.declared.stmt.Stmt.{Stmt, out-Stmt}
use Rattle.civl_tree.specs.declared.stmt.Stmt.TheOpen.{Stmt-F, Assign, Assert, If, While, YieldLoop, RankLoop, Call, Yield, Commit, Intro, Spawn}
use Rattle.civl_tree.specs.declared.program.Proc.{Proc}
use Rattle.civl_tree.specs.declared.program.Program.{Program}
use Rattle.civl_tree.specs.Numbering.{statement_at}
use Rattle.civl_tree.specs.SpellingDomain.{allows_param}
use Rattle.civl_tree.specs.rules.Names.{Signature, any_twice, names_in_proc, callee_signature, proc_named, proc_signature, proc_signature_of}
use Rattle.civl_tree.specs.rules.Uses.{param_sorts}
use Rattle.civl_tree.specs.rules.Rules.{Keeps}
use Rattle.civl_firing.specs.declared.store.Store.{Store}
use Rattle.civl_firing.specs.declared.firing.Fired.{Fired}
use Rattle.civl_firing.specs.declared.firing.Fired.TheVariants as fire
use Rattle.civl_firing.specs.Truth.{place_of}
use Rattle.civl_firing.specs.Eval.{value_of, values_of}
use Rattle.civl_firing.specs.Scope.{frame_values, zeros_of_params, zeros_of_locals}
use Rattle.civl_firing.specs.Stores.{IsStore}
use Rattle.civl_firing.specs.Fired.{gate_holds, choices_fit, fires, fired_by, fired}
use Rattle.civl_meaning.specs.declared.config.Plain.{Plain}
use Rattle.civl_meaning.specs.declared.config.Activation.{Activation}
use Rattle.civl_meaning.specs.declared.config.State.{State}
use Rattle.civl_meaning.specs.declared.config.State.TheVariants.{Before, Inside}
use Rattle.civl_meaning.specs.declared.config.Running.{Running}
use Rattle.civl_meaning.specs.declared.config.Stepped.TheVariants as answer
use Rattle.civl_meaning.specs.declared.config.Change.{Change}
use Rattle.civl_meaning.specs.declared.config.Change.TheVariants.{Stays, Goes, Acts, Enters, Leaves, Spawns}
use Rattle.civl_meaning.specs.Places.{Spot}
use Rattle.civl_meaning.specs.Permissions.{pairwise_disjoint, of_globals, of_params}
use Rattle.civl_meaning.specs.Meaning.{Meaning, Does, Runs, Missing, called, meaning_of, proc_number}
use Rattle.civl_meaning.specs.Initial.{of_args}
use Rattle.civl_meaning.proofs.Begun.{proc_is}
use Rattle.civl_tree.specs.declared.action.Param.{Param}
use Rattle.civl_meaning.specs.Change.{with_results, new_frame, acted, action_change, done_by, call_doing, statement_doing}
use Rattle.civl_meaning.specs.Change as does
use Rattle.civl_meaning.specs.Step.{state_after}
use Rattle.civl_meaning.specs.Config.{IsPlain, frame_sorts}
use Rattle.civl_linear.specs.Modes.{is_passed, is_lent, is_given, passed_names}
use Rattle.civl_linear.specs.Held.{entry_held, call_held, spawn_held, without_names}
use Rattle.civl_linear.specs.Places.{is_param, may_get, form_assigned, form_not_held, any_not_held, form_held_twice, passed_twice}
use Rattle.civl_linear.specs.LinearRules.{linear_rules}
use Rattle.civl_conditions.specs.Permissions.{of_modes}
use Rattle.civl_soundness.proofs.Called as sorts
use Rattle.civl_reduction.specs.permissions.Owned.{held_before, held_during, layer_keeps, statement_keeps, of_locals, of_frame, of_state}
use Rattle.civl_reduction.specs.permissions.Stay.{KeepsPermissions}
use Rattle.civl_reduction.proofs.permissions.Counting.{carriers, carriers_joined}
use Rattle.civl_reduction.proofs.permissions.Flags.{IsWithin, amount, within_less, within_then}
use Rattle.civl_reduction.proofs.permissions.Putting.{set_apart}
use Rattle.civl_reduction.proofs.permissions.Rules.{names_once}
use Rattle.civl_reduction.proofs.permissions.Args.{params_passed, given_linear}
use Rattle.civl_reduction.proofs.permissions.Results.{not_target, set_kept, results_kept}
use Rattle.civl_reduction.proofs.permissions.Frames.{CallFacts, call_facts, hands_over, takes_back, entry_carries}
use Rattle.civl_reduction.proofs.permissions.Next.{GoesTo, Steps}
use Rattle.civl_reduction.proofs.permissions.Standing.{entry_within}
use Rattle.civl_reduction.proofs.permissions.Meant.{Serves, called_serves, called_runs}
use Rattle.civl_reduction.proofs.permissions.Giving.{gives, outs_count}
use Rattle.civl_reduction.proofs.permissions.Lending.{Lends, AreLent, StateIsLent, SameParams, lent_same, lent_more}
use Rattle.civl_reduction.proofs.permissions.Sorting.{callee_known, spawned_known, args_sorted}

-- an action that the program calls: in a body, or with which a thread may begin
abbrev pub Meant : Plain → Action → Type 0
Meant plain action =
    ((number place : ℕ) × (proc : Proc) × (stmt : Stmt) × (g : Name) × (es : List Expr) × (rs : List Name)
    × (slice_get plain.program.procs number ≡ Some proc) × (statement_at proc.body place ≡ Some stmt) × (out-Stmt stmt ≡ Call g es rs) × (called plain g ≡ Does action))
    ⊎ ((number : ℕ) × (meaning_of plain number ≡ Does action))

-- what a thread owns carries a permission this often
abbrev pub owns : Program → Running → State → ℕ → ℕ
owns program thread state p = carriers p (of_state program thread state)

-- what a change does to what a thread owns in this state
abbrev pub Fair : Program → Store → Running → State → Change → Type 0
Fair program store thread state (Stays a) = Unit {0}
Fair program store thread state (Goes locals place) = (p : ℕ) → owns program thread (state_after state (Goes locals place)) p ≤ owns program thread state p
Fair program store thread state (Enters frame place) = (p : ℕ) → owns program thread (state_after state (Enters frame place)) p ≤ owns program thread state p
Fair program store thread state (Leaves frame) = (p : ℕ) → owns program thread (state_after state (Leaves frame)) p ≤ owns program thread state p
Fair program store thread state (Spawns other place) =
    ((p : ℕ) → owns program thread (state_after state (Spawns other place)) p + owns program other other.state p ≤ owns program thread state p) × (other.state ≡ Before)
Fair program store thread state (Acts after locals place) =
    (rest : ℕ → ℕ) × (taken given : List (List ℕ)) × ((p : ℕ) → rest p + carriers p taken ≤ owns program thread state p)
    × ((p : ℕ) → owns program thread (state_after state (Acts after locals place)) p ≤ rest p + carriers p given)
    × (pairwise_disjoint (of_globals program.globals store.values ++ taken) ≡ true
    → (pairwise_disjoint (of_globals program.globals after.values ++ given) ≡ true)
    × ((p : ℕ) → 0 < carriers p (of_globals program.globals after.values ++ given) → 0 < carriers p (of_globals program.globals store.values ++ taken)))

-- and the frames stay lent
abbrev pub Kept : Program → Store → Running → State → Change → Type 0
Kept program store thread state change = Fair program store thread state change × StateIsLent program (state_after state change)

pub moved_is : (program : Program) (store after : Store) (action : Action) (args chosen outs : List Value) → gate_holds program.globals store action args ≡ true → fired program.globals store action args chosen ≡ fire.Moved after outs → fires program.globals store action args chosen ≡ Some (after, outs)
unfolding fired
moved_is program store after action args chosen outs gate e = go (fires program.globals store action args chosen) (sym (ap (λ (b : Bool). if b then fired_by (fires program.globals store action args chosen) else fire.GateFalse) gate) ∙ e)
  where
    go : (o : Option (Store × List Value)) → fired_by o ≡ fire.Moved after outs → o ≡ Some (after, outs)
    go None h = absurd cc
    go (Some p) h = let one : p.0 ≡ after = cc in let two : p.1 ≡ outs = cc in ap (λ (s : Store). Some (s, p.1)) one ∙ ap (λ (l : List Value). Some (after, l)) two

-- the frames below the topmost
abbrev pub below_owns : Program → List Activation → ℕ → ℕ
below_owns program below p = carriers p (flat_map (of_frame program (held_during program)) below)

pub inside_owns : (program : Program) (thread : Running) (below : List Activation) (top : Activation) (proc : Proc) → slice_get program.procs top.procedure ≡ Some proc → (p : ℕ)
    → owns program thread (Inside below top) p ≡ below_owns program below p + amount p (held_before program proc top.place) top.locals
inside_owns program thread below top proc at p =
    carriers_joined p (flat_map (of_frame program (held_during program)) below) (of_frame program (held_before program) top)
    ∙ ap (λ (o : Option Proc). below_owns program below p + carriers p (of_locals (held_before program) top o)) at

pub below_more : (program : Program) (below : List Activation) (frame : Activation) (proc : Proc) → slice_get program.procs frame.procedure ≡ Some proc → (p : ℕ)
    → below_owns program (below ++ frame ∷ []) p ≡ below_owns program below p + amount p (held_during program proc frame.place) frame.locals
below_more program below frame proc at p =
    ap (carriers p) (flat_map-append (of_frame program (held_during program)) below (frame ∷ []))
    ∙ carriers_joined p (flat_map (of_frame program (held_during program)) below) (of_frame program (held_during program) frame ++ [])
    ∙ ap (λ n. below_owns program below p + n) (carriers_joined p (of_frame program (held_during program) frame) [] ∙ (by_zero (carriers p (of_frame program (held_during program) frame)) ∙ ap (λ (o : Option Proc). carriers p (of_locals (held_during program) frame o)) at))
  where
    by_zero : (n : ℕ) → n + 0 ≡ n
    by_zero n = omega arith

-- what is held while a call runs
pub during_is : (program : Program) (proc : Proc) (place : ℕ) (stmt : Stmt) (g : Name) (es : List Expr) (rs : List Name) (signature : Signature) → statement_at proc.body place ≡ Some stmt → out-Stmt stmt ≡ Call g es rs → callee_signature program g ≡ Some signature
    → held_during program proc place ≡ without_names (passed_names is_passed signature.params es) (names_in_proc proc) (held_before program proc place)
during_is program proc place stmt g es rs signature here q known =
    let names = names_in_proc proc in
    ap (statement_keeps program names (held_before program proc place)) here
    ∙ (ap (layer_keeps program names (held_before program proc place)) q
    ∙ ap (λ (o : Option Signature). spawn_held names o es (held_before program proc place)) known)

-- the parameters of an action that the grammar can write
abbrev pub AreWritable : Program → Type 0
AreWritable program =
    ((place : ℕ) (action : Action) → slice_get program.actions place ≡ Some action → list_all allows_param action.params ≡ true)
    × ((place : ℕ) (proc : Proc) → slice_get program.procs place ≡ Some proc → list_all allows_param proc.params ≡ true)

module _ (plain : Plain) (ok : IsPlain plain) (linear : Keeps linear_rules plain.program) (writable : AreWritable plain.program) (keeps : (action : Action) → Meant plain action → KeepsPermissions plain.program action)
    (store : Store) (fits : IsStore plain.program.globals store) (chosen : List Value) (chosen_fit : All IsValue chosen) (thread : Running) (below : List Activation) (top : Activation) (proc : Proc)
    (at : slice_get plain.program.procs top.procedure ≡ Some proc) (locals_fit : HaveSorts top.locals (frame_sorts proc)) (same : length top.locals ≡ length (names_in_proc proc)) (lent : AreLent plain.program below top) where
  abbrev program : Program
  program = plain.program

  abbrev names : List Name
  names = names_in_proc proc

  abbrev H : ℕ → List Bool
  H = held_before program proc

  abbrev KeptBy : Change → Type 0
  KeptBy change = Kept program store thread (Inside below top) change

  same_params : (locals : List Value) (place : ℕ) → take (length proc.params) locals ≡ take (length proc.params) top.locals → SameParams program top (record { procedure = top.procedure; place = place; locals = locals })
  same_params locals place e = (refl, λ other there. let is : proc ≡ other = same_Some proc other (sym at ∙ there) in subst (λ (q : Proc). take (length q.params) locals ≡ take (length q.params) top.locals) is e)

  lent_at : (locals : List Value) (place : ℕ) → take (length proc.params) locals ≡ take (length proc.params) top.locals → AreLent program below (record { procedure = top.procedure; place = place; locals = locals })
  lent_at locals place e = lent_same program below top _ (same_params locals place e) lent

  -- on to another place, with no more in what is held
  goes_by : (locals : List Value) (place : ℕ) → ((p : ℕ) → amount p (H place) locals ≤ amount p (H top.place) top.locals) → take (length proc.params) locals ≡ take (length proc.params) top.locals → KeptBy (Goes locals place)
  goes_by locals place less e = (
    (λ p.
        let one = inside_owns program thread below top proc at p in
        let two = inside_owns program thread below (record { procedure = top.procedure; place = place; locals = locals }) proc at p in
        let l = less p in
        omega (arith, one, two, l)),
    lent_at locals place e,
  )

  stays_by : (place : ℕ) → IsWithin (H place) (H top.place) → KeptBy (Goes top.locals place)
  stays_by place w = goes_by top.locals place (λ p. within_less p (H place) (H top.place) top.locals w) refl

  module _ (spot : Spot) (st : Steps program ok.rules linear top.procedure proc at top.place spot) where
    -- ---- an assign
    assign_kept : (x : Name) (e : Expr) → out-Stmt spot.stmt ≡ Assign x e → KeptBy (Goes (slice_set top.locals (place_of names x) (value_of (frame_values program.globals proc top.locals) e)) spot.next)
    assign_kept x e q =
        let v = value_of (frame_values program.globals proc top.locals) e in
        let wrong = or_parts (may_get proc x) (is_param proc x) (subst (λ (d : Stmt-F Stmt). form_assigned program proc d ≡ false) q st.keeps.targets) in
        let next : IsWithin (H spot.next) (H spot.number) = subst (λ (d : Stmt-F Stmt). GoesTo program ok.rules linear top.procedure proc at spot.number spot.next d) q st.goes in
        goes_by (slice_set top.locals (place_of names x) v) spot.next
        (λ p.
        let a = within_less p (H spot.next) (H spot.number) (slice_set top.locals (place_of names x) v) next in
        let b = set_apart p names x (H spot.number) top.locals v st.each (not_target proc (H spot.number) x st.are_linear wrong.1 wrong.0) in
        let c = within_less p (H spot.number) (H top.place) top.locals st.flags in
        omega (arith, a, b, c))
        (set_kept proc x top.locals v wrong.1)

    -- what is held goes to the next place
    next_within : (d : Stmt-F Stmt) → out-Stmt spot.stmt ≡ d → GoesTo program ok.rules linear top.procedure proc at spot.number spot.next d
    next_within d q = subst (λ (x : Stmt-F Stmt). GoesTo program ok.rules linear top.procedure proc at spot.number spot.next x) q st.goes

    from_here : (place : ℕ) → IsWithin (H place) (H spot.number) → IsWithin (H place) (H top.place)
    from_here place w = within_then (H place) (H spot.number) (H top.place) w st.flags

    if_kept : (b : Bool) (x y : ℕ) → IsWithin (H x) (H spot.number) → IsWithin (H y) (H spot.number) → KeptBy (Goes top.locals (if b then x else y))
    if_kept true x y v w = stays_by x (from_here x v)
    if_kept false x y v w = stays_by y (from_here y w)

    -- ---- a call
    module _ (g : Name) (es : List Expr) (rs : List Name) (q : out-Stmt spot.stmt ≡ Call g es rs) (signature : Signature) (known : callee_signature program g ≡ Some signature) where
      abbrev args : List Value
      args = values_of (frame_values program.globals proc top.locals) es

      abbrev kept_flags : List Bool
      kept_flags = without_names (passed_names is_passed signature.params es) names (H spot.number)

      about : CallFacts proc signature es rs (H spot.number)
      about = call_facts program proc spot.stmt (H spot.number) st.keeps g es rs q signature known

      once : any_twice names ≡ false
      once = names_once program ok.rules linear top.procedure proc at

      -- what is handed over
      over : (p : ℕ) → amount p kept_flags top.locals + carriers p (of_modes is_passed signature.params args) ≤ amount p (H top.place) top.locals
      over p =
          let a = hands_over program.globals proc once top.locals same p signature.params es (H spot.number) about.held about.once in
          let b = within_less p (H spot.number) (H top.place) top.locals st.flags in
          omega (arith, a, b)

      -- what is taken back
      pub back : (vals : List Value) → length vals ≡ length signature.outs → (p : ℕ)
          → amount p (H spot.next) (with_results names top.locals rs vals) ≤ amount p kept_flags top.locals + carriers p (of_modes is_lent signature.params args) + carriers p (of_modes is_given signature.outs vals)
      back vals count p =
          let next : IsWithin (H spot.next) (call_held names (callee_signature program g) es rs (H spot.number)) = next_within (Call g es rs) q in
          let to : IsWithin (H spot.next) (call_held names (Some signature) es rs (H spot.number)) = subst (λ (o : Option Signature). IsWithin (H spot.next) (call_held names o es rs (H spot.number))) known next in
          let a = within_less p (H spot.next) (call_held names (Some signature) es rs (H spot.number)) (with_results names top.locals rs vals) to in
          let b = takes_back program.globals proc once top.locals same p signature es rs (H spot.number) about st.are_linear st.each vals count in
          omega (arith, a, b)

      -- ---- of an action
      module _ (action : Action) (does : called plain g ≡ Does action) where
        serves : Serves program signature action
        serves = called_serves plain ok g action signature does known

        pub inputs_fit : HaveSorts args (param_sorts action.params)
        inputs_fit =
            let h = args_sorted program ok.rules top.procedure proc at spot.number spot.stmt st.here top.locals locals_fit g es rs q signature known about.args_count in
            let s = subst (sorts.Serves program (param_sorts signature.params) (param_sorts signature.outs)) does (sorts.called_serves plain ok g signature known) in
            subst (HaveSorts args) (sym s.2) h

        pub meant : Meant plain action
        meant = inl (top.procedure, spot.number, proc, spot.stmt, g, es, rs, at, st.here, q, does)

        -- what goes in
        ins : (p : ℕ) → carriers p (of_params action.params args) ≡ carriers p (of_modes is_passed signature.params args)
        ins p = ap (carriers p) (params_passed action.params args (writable.0 serves.place action serves.there) ∙ sym (serves.params.carry is_passed args))

        -- the thread owns what goes in
        pub call_owns : (p : ℕ) → carriers p (of_params action.params args) ≤ owns program thread (Inside below top) p
        call_owns p =
            let one = inside_owns program thread below top proc at p in
            let two = over p in
            let three = ins p in
            omega (arith, one, two, three)

        acted_kept : (after : Store) (outs : List Value) → HaveSorts chosen (map (λ c. c.sort) action.choices) → gate_holds program.globals store action args ≡ true → fires program.globals store action args chosen ≡ Some (after, outs)
            → KeptBy (Acts after (with_results names top.locals rs outs) spot.next)
        acted_kept after outs fit gate fired_so =
            let count : length outs ≡ length signature.outs = outs_count program action store after args chosen outs fired_so ∙ sym serves.outs.count in (
              (
                (λ p. below_owns program below p + amount p kept_flags top.locals),
                of_params action.params args,
                of_modes is_lent action.params args ++ of_params action.outs outs,
                (λ p.
                    let one = inside_owns program thread below top proc at p in
                    let two = over p in
                    let three = ins p in
                    omega (arith, one, two, three)),
                (λ p.
                    let one = inside_owns program thread below (record { procedure = top.procedure; place = spot.next; locals = with_results names top.locals rs outs }) proc at p in
                    let two = back outs count p in
                    let lends : carriers p (of_modes is_lent signature.params args) ≡ carriers p (of_modes is_lent action.params args) = ap (carriers p) (serves.params.carry is_lent args) in
                    let given : carriers p (of_modes is_given signature.outs outs) ≡ carriers p (of_modes is_given action.outs outs) = ap (carriers p) (serves.outs.carry is_given outs) in
                    let more = given_linear p action.outs outs in
                    let all = carriers_joined p (of_modes is_lent action.params args) (of_params action.outs outs) in
                    omega (arith, one, two, lends, given, more, all)),
                (λ apart. gives program action store after args chosen outs (keeps action meant) fits inputs_fit fit gate fired_so apart),
              ),
              lent_at (with_results names top.locals rs outs) spot.next (results_kept proc signature.outs rs outs top.locals about.results_count about.right),
            )

        action_kept : KeptBy (action_change plain store chosen names top.locals rs spot.next action args)
        action_kept = by_gate (gate_holds program.globals store action args) (choices_fit action chosen) refl refl (fired program.globals store action args chosen) refl
          where
            by_gate : (a b : Bool) → gate_holds program.globals store action args ≡ a → choices_fit action chosen ≡ b → (f : Fired) → fired program.globals store action args chosen ≡ f → KeptBy (if a then (if b then acted names top.locals rs spot.next f else Stays answer.BadChoices) else Stays answer.Failing)
            by_gate false b e c f h = (tt, lent)
            by_gate true false e c f h = (tt, lent)
            by_gate true true e c fire.GateFalse h = (tt, lent)
            by_gate true true e c fire.Blocked h = (tt, lent)
            by_gate true true e c (fire.Moved after outs) h = acted_kept after outs (record { fit = chosen_fit; are = c }) e (moved_is program store after action args chosen outs e h)

      -- ---- of a body
      body_kept : (number : ℕ) (callee : Proc) → called plain g ≡ Runs number callee → KeptBy (Enters (new_frame number callee args) spot.number)
      body_kept number callee runs =
          let known_so = called_runs plain ok g number callee runs in
          let is : signature ≡ proc_signature callee = same_Some signature (proc_signature callee) (sym known ∙ known_so.1) in
          let params : signature.params ≡ callee.params = ap (λ (x : Signature). x.params) is in
          let count : length args ≡ length callee.params = length-map es (value_of (frame_values program.globals proc top.locals)) ∙ (about.args_count ∙ ap (λ (ps : List Param). length ps) params) in
          let waiting : Activation = record { procedure = top.procedure; place = spot.number; locals = top.locals } in (
            (λ p.
                let one = inside_owns program thread below top proc at p in
                let two = inside_owns program thread (below ++ waiting ∷ []) (new_frame number callee args) callee known_so.0 p in
                let three = below_more program below waiting proc at p in
                let held : amount p (held_during program proc spot.number) top.locals ≡ amount p kept_flags top.locals = ap (λ (f : List Bool). amount p f top.locals) (during_is program proc spot.number spot.stmt g es rs signature st.here q known) in
                let four = over p in
                let five = within_less p (held_before program callee 0) (entry_held callee) (new_frame number callee args).locals (entry_within program ok.rules linear number callee known_so.0) in
                let six = entry_carries p callee args (zeros_of_params callee.outs ++ zeros_of_locals callee.locals) count in
                let seven : carriers p (of_modes is_passed signature.params args) ≡ carriers p (of_modes is_passed callee.params args) = ap (λ (ps : List Param). carriers p (of_modes is_passed ps args)) params in
                omega (arith, one, two, three, held, four, five, six, seven)),
            lent_more program below waiting (new_frame number callee args) (lent_at top.locals spot.number refl) (lends number callee known_so.0 count),
          )
        where
          first_of : (xs ys : List Value) (n : ℕ) → length xs ≡ n → take n (xs ++ ys) ≡ xs
          first_of [] ys zero e = refl
          first_of [] ys (suc n) e = absurd (omega (arith, e))
          first_of (x ∷ xs) ys zero e = absurd (omega (arith, e))
          first_of (x ∷ xs) ys (suc n) e = ap (λ (l : List Value). x ∷ l) (first_of xs ys n (omega (arith, e)))

          lends : (number : ℕ) (callee : Proc) → slice_get program.procs number ≡ Some callee → length args ≡ length callee.params → Lends program (record { procedure = top.procedure; place = spot.number; locals = top.locals }) (new_frame number callee args)
          lends number callee there count caller other stmt h xs ys a b c d =
              let caller_is : proc ≡ caller = same_Some proc caller (sym at ∙ a) in
              let callee_is : callee ≡ other = same_Some callee other (sym there ∙ b) in
              let stmt_is : spot.stmt ≡ stmt = same_Some spot.stmt stmt (sym st.here ∙ subst (λ (x : Proc). statement_at x.body spot.number ≡ Some stmt) (sym caller_is) c) in
              let form : Call g es rs ≡ Call h xs ys = sym q ∙ (ap (λ (x : Stmt). out-Stmt x) stmt_is ∙ d) in
              let args_are : es ≡ xs = cc in
              ap (λ (x : Proc). take (length x.params) (new_frame number callee args).locals) (sym callee_is)
              ∙ (first_of args (zeros_of_params callee.outs ++ zeros_of_locals callee.locals) (length callee.params) count
              ∙ (ap (λ (l : List Expr). values_of (frame_values program.globals proc top.locals) l) args_are
              ∙ ap (λ (x : Proc). values_of (frame_values program.globals x top.locals) xs) caller_is))

      call_kept : KeptBy (done_by plain store chosen (call_doing names top.locals rs spot.number spot.next (called plain g) args))
      call_kept = by_meaning (called plain g) refl
        where
          by_meaning : (m : Meaning) → called plain g ≡ m → KeptBy (done_by plain store chosen (call_doing names top.locals rs spot.number spot.next m args))
          by_meaning (Does action) e = action_kept action e
          by_meaning (Runs number callee) e = body_kept number callee e
          by_meaning Missing e = (tt, lent)

    -- ---- a spawn
    spawn_kept : (g : Name) (es : List Expr) → out-Stmt spot.stmt ≡ Spawn g es → KeptBy (Spawns (record { callee = proc_number program g; args = values_of (frame_values program.globals proc top.locals) es; state = Before }) spot.next)
    spawn_kept g es q =
        let found = spawned_known program ok.rules top.procedure proc at spot.number spot.stmt st.here g es q in
        let other = found.0 in
        let args = values_of (frame_values program.globals proc top.locals) es in
        let signature_is : proc_signature_of (proc_named program g) ≡ Some (proc_signature other) = ap proc_signature_of found.1 in
        let held = subst (λ (o : Option Signature). any_not_held proc names (H spot.number) o es ≡ false) signature_is (subst (λ (d : Stmt-F Stmt). form_not_held program proc names d (H spot.number) ≡ false) q st.keeps.args) in
        let twice = subst (λ (o : Option Signature). passed_twice o es ≡ false) signature_is (subst (λ (d : Stmt-F Stmt). form_held_twice program names d (H spot.number) ≡ false) q st.keeps.once) in
        let once = names_once program ok.rules linear top.procedure proc at in
        let to : IsWithin (H spot.next) (spawn_held names (Some (proc_signature other)) es (H spot.number)) = subst (λ (o : Option Signature). IsWithin (H spot.next) (spawn_held names o es (H spot.number))) signature_is (next_within (Spawn g es) q) in
        let there : slice_get program.procs (proc_number program g) ≡ Some other = proc_is program g ∙ found.1 in (
          (
            (λ p.
                let one = inside_owns program thread below top proc at p in
                let two = inside_owns program thread below (record { procedure = top.procedure; place = spot.next; locals = top.locals }) proc at p in
                let three = hands_over program.globals proc once top.locals same p other.params es (H spot.number) held twice in
                let four = within_less p (H spot.number) (H top.place) top.locals st.flags in
                let five = within_less p (H spot.next) (spawn_held names (Some (proc_signature other)) es (H spot.number)) top.locals to in
                let six : carriers p (of_args (slice_get program.procs (proc_number program g)) args) ≡ carriers p (of_modes is_passed other.params args) =
                ap (λ (o : Option Proc). carriers p (of_args o args)) there ∙ ap (carriers p) (params_passed other.params args (writable.1 (proc_number program g) other there)) in
                omega (arith, one, two, three, four, five, six)),
            refl,
          ),
          lent_at top.locals spot.next refl,
        )

    -- ---- a statement by its form
    pub layer_kept : (d : Stmt-F Stmt) → out-Stmt spot.stmt ≡ d → KeptBy (done_by plain store chosen (statement_doing plain proc top.locals spot.number spot.next d))
    layer_kept (Assign x e) q = assign_kept x e q
    layer_kept (Assert e) q = by_truth (is_true (value_of (frame_values program.globals proc top.locals) e))
      where
        by_truth : (b : Bool) → KeptBy (done_by plain store chosen (if b then does.Goes top.locals spot.next else does.Fails))
        by_truth true = stays_by spot.next (from_here spot.next (next_within (Assert e) q))
        by_truth false = (tt, lent)
    layer_kept (If e a b) q = let w = next_within (If e a b) q in if_kept (is_true (value_of (frame_values program.globals proc top.locals) e)) _ _ w.0 w.1
    layer_kept (While e a) q = let w = next_within (While e a) q in if_kept (is_true (value_of (frame_values program.globals proc top.locals) e)) _ _ w.0 w.1
    layer_kept (YieldLoop e i a) q = let w = next_within (YieldLoop e i a) q in if_kept (is_true (value_of (frame_values program.globals proc top.locals) e)) _ _ w.0 w.1
    layer_kept (RankLoop e r i a) q = let w = next_within (RankLoop e r i a) q in if_kept (is_true (value_of (frame_values program.globals proc top.locals) e)) _ _ w.0 w.1
    layer_kept (Call g es rs) q = let found = callee_known program ok.rules top.procedure proc at spot.number spot.stmt st.here g es rs q in call_kept g es rs q found.0 found.1
    layer_kept (Spawn g es) q = spawn_kept g es q
    layer_kept (Yield e) q = (tt, lent)
    layer_kept Commit q = (tt, lent)
    layer_kept (Intro x e) q = (tt, lent)
