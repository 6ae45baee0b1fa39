-- What each form of statement leaves as it was, and how much of an `if` differs behind its branches.
use Rattle.std.specs.Prelude.{slice_get, map, filter}
use Rattle.std.specs.Option.{option_map_or}
use Rattle.std.proofs.Common.{◌≡◌, ◌∙◌, ℕ, ◌≤◌, true, false, List, [], ◌∷◌, ◌++◌, sym, ap, subst, arith, Some, Option}
use Rattle.std.proofs.lemmas.Bool.{false≢true, or_parts}
use Rattle.civl_tree.specs.declared.name.Name.{Name}
use Rattle.civl_tree.specs.declared.expr.Expr.{Expr}
use Rattle.civl_tree.specs.declared.action.Action.{Action}
use Rattle.civl_tree.specs.declared.stmt.Stmt.{Stmt, out-Stmt}
use Rattle.civl_tree.specs.declared.stmt.Stmt.TheOpen as stmt
use Rattle.civl_tree.specs.declared.program.Global.{Global}
use Rattle.civl_tree.specs.declared.program.Proc.{Proc}
use Rattle.civl_tree.specs.declared.program.Program.{Program}
use Rattle.civl_tree.specs.Numbering.{inner_of, statements_of, statement_at}
use Rattle.civl_tree.specs.rules.Names.{Signature, has_name, global_names, names_in_proc, targets_of}
use Rattle.civl_tree.specs.rules.Rules.{Keeps}
use Rattle.civl_tree.specs.rules.Scopes.{bind_globals, bind_params, bind_locals, bind_proc}
use Rattle.civl_tree.proofs.Preorder.{inner_layer, inner_is}
use Rattle.civl_tree.proofs.Naming.{has_first, has_second}
use Rattle.civl_meaning.specs.Config.{frame_sorts}
use Rattle.civl_meaning.specs.Layers.{program_at}
use Rattle.civl_meaning.specs.Meaning.{called}
use Rattle.civl_meaning.proofs.Bindings.{names_bound, sorts_bound, proc_names, proc_sorts}
use Rattle.civl_linear.specs.LinearRules.{linear_rules}
use Rattle.civl_linear.specs.Places.{is_param, may_get, any_misgiven, call_misgiven}
use Rattle.civl_layers.specs.Layered.{IsLayered}
use Rattle.civl_terms.specs.declared.node.Node.{Node}
use Rattle.civl_actions.specs.Scopes.{AreOf}
use Rattle.civl_actions.specs.Actions.{LeavesOthers}
use Rattle.civl_actions.proofs.Leaving.{leaves_none}
use Rattle.civl_conditions.specs.paths.Choices.{action_meant}
use Rattle.civl_conditions.specs.Weights.{layer_written, written_bits}
use Rattle.civl_states.specs.Notes.{IsProcIn}
use Rattle.civl_moves.specs.declared.branches.Front.{Front}
use Rattle.civl_moves.specs.declared.sweep.Sweep.{Sweep}
use Rattle.civl_moves.specs.Branches.{KeepsSame, front_of, with_front, differing}
use Rattle.civl_moves.specs.States.{CanSweep}
use Rattle.civl_body.specs.Passing.{StandsCall}
use Rattle.civl_body.specs.Weights.{written, may_change, Leaves}
use Rattle.civl_body.proofs.Typed.{call_kept}
use Rattle.civl_body.proofs.Joining.{before_second}
use Rattle.civl_body.proofs.Differing.{differ_few, frame_bits}
use Rattle.civl_body.proofs.Keeping.{one_name, not_param, no_params, updated_there, leaves_more, leaves_written, in_range, both_leave, written_first, written_second, own_written, targets_right}

module _ (program : Program) (layer : ℕ) (proc : Proc) where
  -- ---- statements without branches

  pub assign_leaves : Keeps linear_rules program → IsProcIn program proc → (number : ℕ) (x : Stmt) (target : Name) (e : Expr) → statement_at proc.body number ≡ Some x → out-Stmt x ≡ stmt.Assign target e → (s t : Sweep)
      → LeavesOthers (names_in_proc proc) (target ∷ []) s.locals t.locals → t.globals ≡ s.globals → Leaves program proc (written program layer (x ∷ inner_of x)) s t
  assign_leaves linear there number x target e at o s t l g =
      let no = (or_parts (may_get proc target) (is_param proc target) (targets_right program linear proc there number x _ at o)).1 in
      leaves_written program proc (written program layer (x ∷ inner_of x)) [] (target ∷ []) s t (λ place n there h. absurd (false≢true h))
      (λ n h. (own_written program layer x (stmt.Assign target e) n o h, not_param proc target n no (one_name target n h)))
      (subst (LeavesOthers (global_names program.globals) [] s.globals) (sym g) (leaves_none (global_names program.globals) [] s.globals)) l

  pub intro_leaves : (x : Stmt) (target : Name) (e : Expr) → out-Stmt x ≡ stmt.Intro target e → (s t : Sweep) → LeavesOthers (global_names program.globals) (target ∷ []) s.globals t.globals → t.locals ≡ s.locals → Leaves program proc (written program layer (x ∷ inner_of x)) s t
  intro_leaves x target e o s t g l =
      leaves_written program proc (written program layer (x ∷ inner_of x)) (target ∷ []) [] s t (λ place n there h. own_written program layer x (stmt.Intro target e) n o h)
      (λ n h. absurd (false≢true h)) g (subst (LeavesOthers (names_in_proc proc) [] s.locals) (sym l) (leaves_none (names_in_proc proc) [] s.locals))

  pub call_leaves : (x : Stmt) (d : stmt.Stmt-F Stmt) → out-Stmt x ≡ d → (s t : Sweep) → Leaves program proc (layer_written (program_at program layer) d) s t → Leaves program proc (written program layer (x ∷ inner_of x)) s t
  call_leaves x d o s t h = leaves_more program proc _ _ s t (λ n e. own_written program layer x d n o e) h

  pub action_leaves : Keeps linear_rules program → IsLayered program → IsProcIn program proc → (number : ℕ) (f : Name) (es : List Expr) (rs : List Name) → StandsCall proc number f es rs → (a : Action) → action_meant (called (program_at program layer) f) ≡ Some a
      → (s t : Sweep) → LeavesOthers (global_names program.globals) (targets_of a) s.globals t.globals → LeavesOthers (names_in_proc proc) rs s.locals t.locals → Leaves program proc (layer_written (program_at program layer) (stmt.Call f es rs)) s t
  action_leaves linear layered there number f es rs stands a meant s t g l =
      let kept = call_kept program layered.rules proc there number stands.0 f es rs stands.1 stands.2 in
      let right = targets_right program linear proc there number stands.0 (stmt.Call f es rs) stands.1 stands.2 in
      let none : any_misgiven proc kept.signature.outs rs ≡ false = ap (λ (o : Option Signature). call_misgiven proc o rs) (sym kept.is) ∙ right in
      let updated : option_map_or (λ (b : Action). filter (has_name (global_names program.globals)) (targets_of b)) (action_meant (called (program_at program layer) f)) [] ≡ filter (has_name (global_names program.globals)) (targets_of a) =
      ap (λ (o : Option Action). option_map_or (λ (b : Action). filter (has_name (global_names program.globals)) (targets_of b)) o []) meant in
      leaves_written program proc _ (targets_of a) rs s t
      (λ place n there h. has_second rs _ n (ap (λ (names : List Name). has_name names n) updated ∙ updated_there (global_names program.globals) (targets_of a) place n there h))
      (λ n h. (has_first rs _ n h, no_params proc kept.signature.outs rs kept.given none n h)) g l

  -- ---- an `if`

  module _ (x : Stmt) (e : Expr) (a b : List Stmt) (form : out-Stmt x ≡ stmt.If e a b) (o0 : List Node) (s : Sweep) (can : CanSweep o0 program proc s) (live1 live2 : ℕ) (s2 s3 s4 : Sweep)
      (l1 : Leaves program proc (written program layer (statements_of a)) (record s { live = live1 }) s2) (swapped : s3 ≡ with_front (before_second s live2) s2)
      (l2 : Leaves program proc (written program layer (statements_of b)) s3 s4) (ended : Front) (was : ended ≡ front_of s2) where
    abbrev names : List Name
    names = written program layer (inner_of x)

    inner : inner_of x ≡ statements_of a ++ statements_of b
    inner = inner_is x ∙ ap inner_layer form

    first_more : (n : Name) → has_name (written program layer (statements_of a)) n ≡ true → has_name names n ≡ true
    first_more n h = ap (λ (ss : List Stmt). has_name (written program layer ss) n) inner ∙ written_first program layer (statements_of a) (statements_of b) n h

    second_more : (n : Name) → has_name (written program layer (statements_of b)) n ≡ true → has_name names n ≡ true
    second_more n h = ap (λ (ss : List Stmt). has_name (written program layer ss) n) inner ∙ written_second program layer (statements_of a) (statements_of b) n h

    first : Leaves program proc names (record s { live = live1 }) s2
    first = leaves_more program proc _ names (record s { live = live1 }) s2 first_more l1

    second : Leaves program proc names s3 s4
    second = leaves_more program proc _ names s3 s4 second_more l2

    first_globals : (place : ℕ) (n : Name) → slice_get (global_names program.globals) place ≡ Some n → has_name names n ≡ false → slice_get ended.globals place ≡ slice_get s.globals place
    first_globals place n at missing = ap (λ (f : Front). slice_get f.globals place) was ∙ first.globals place n at missing

    second_globals : (place : ℕ) (n : Name) → slice_get (global_names program.globals) place ≡ Some n → has_name names n ≡ false → slice_get s4.globals place ≡ slice_get s.globals place
    second_globals place n at missing = second.globals place n at missing ∙ ap (λ (y : Sweep). slice_get y.globals place) swapped

    first_locals : (place : ℕ) (n : Name) → slice_get (names_in_proc proc) place ≡ Some n → may_change proc names n ≡ false → slice_get ended.locals place ≡ slice_get s.locals place
    first_locals place n at missing = ap (λ (f : Front). slice_get f.locals place) was ∙ first.locals place n at missing

    second_locals : (place : ℕ) (n : Name) → slice_get (names_in_proc proc) place ≡ Some n → may_change proc names n ≡ false → slice_get s4.locals place ≡ slice_get s.locals place
    second_locals place n at missing = second.locals place n at missing ∙ ap (λ (y : Sweep). slice_get y.locals place) swapped

    pub globals_differ : (ns : List Node) → AreOf ns ended.globals (map (λ (g : Global). g.sort) program.globals) → differing ns ended.globals s4.globals ≤ written_bits names (bind_globals program.globals)
    globals_differ ns h =
        differ_few ns (has_name names) (bind_globals program.globals) ended.globals s4.globals
        (subst (AreOf ns ended.globals) (sym (sorts_bound (λ (g : Global). g.name) (λ (g : Global). g.sort) program.globals)) h)
        (λ place n at missing.
        let there = ap (λ (ms : List Name). slice_get ms place) (sym (names_bound (λ (g : Global). g.name) (λ (g : Global). g.sort) program.globals)) ∙ at in
        first_globals place n there missing ∙ sym (second_globals place n there missing))

    pub locals_differ : (ns : List Node) → AreOf ns ended.locals (frame_sorts proc) → differing ns ended.locals s4.locals ≤ written_bits names (bind_params proc.outs ++ bind_locals proc.locals)
    locals_differ ns h =
        let few = differ_few ns (may_change proc names) (bind_proc proc) ended.locals s4.locals (subst (AreOf ns ended.locals) (sym (proc_sorts proc)) h)
        (λ place n at missing.
        let there = ap (λ (ms : List Name). slice_get ms place) (sym (proc_names proc)) ∙ at in
        first_locals place n there missing ∙ sym (second_locals place n there missing)) in
        omega (arith, few, frame_bits proc names)

    frame_range : (place : ℕ) (n : Name) → slice_get (names_in_proc proc) place ≡ Some n → (id : ℕ) × (slice_get s.locals place ≡ Some id)
    frame_range place n at =
        in_range program proc o0 (λ b. b.name) (bind_proc proc) (λ b. b.sort) s.locals place n (subst (AreOf o0 s.locals) (sym (proc_sorts proc)) can.locals) (ap (λ (ms : List Name). slice_get ms place) (proc_names proc) ∙ at)

    pub if_leaves : (s5 : Sweep) → KeepsSame ended.globals s4.globals s5.globals → KeepsSame ended.locals s4.locals s5.locals → Leaves program proc (written program layer (x ∷ inner_of x)) s s5
    if_leaves s5 kg kl =
        leaves_more program proc names _ s s5 (λ n h. has_second (layer_written (program_at program layer) (out-Stmt x)) names n h) (record {
          globals = λ place n at missing.
              let range = in_range program proc o0 (λ g. g.name) program.globals (λ g. g.sort) s.globals place n can.globals at in
              both_leave program proc s.globals ended.globals s4.globals s5.globals place range.0 range.1 (first_globals place n at missing) (second_globals place n at missing) kg;
          locals = λ place n at missing.
              let range = frame_range place n at in
              both_leave program proc s.locals ended.locals s4.locals s5.locals place range.0 range.1 (first_locals place n at missing) (second_locals place n at missing) kl;
        })
