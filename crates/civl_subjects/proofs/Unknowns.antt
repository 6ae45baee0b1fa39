-- What is told under E11 is a name that isn't in scope as what is needed there.
use Rattle.std.proofs.Common.{◌≡◌, ◌⊎◌, inl, inr, ℕ, Bool, true, false, List, ◌∷◌, map, Contains, Option, None, Some, refl, sym, ap, ◌∙◌, subst}
use Rattle.std.specs.Prelude.{not, is_none}
use Rattle.std.proofs.lemmas.Option.{none-some}
use Rattle.std.proofs.lemmas.List.Elements.{Contains-append_left, Contains-append_right}
use Rattle.civl_tree.proofs.Pairs.{contains_here, contains_there, contains_map}
use Rattle.civl_tree.specs.declared.name.Name.{Name}
use Rattle.civl_tree.specs.declared.expr.Expr.{Expr, out-Expr, roll-Expr, roll-out-Expr, the_lemmas as of_expr}
use Rattle.civl_tree.specs.declared.expr.Expr as tree
use Rattle.civl_tree.specs.declared.expr.Expr.TheOpen as expr
use Rattle.civl_tree.specs.declared.stmt.Stmt.{Stmt, out-Stmt}
use Rattle.civl_tree.specs.declared.stmt.Stmt.TheOpen.{Stmt-F, Assign, Call, Intro, Spawn}
use Rattle.civl_tree.specs.declared.action.Param.{Param}
use Rattle.civl_tree.specs.declared.action.Action.{Action}
use Rattle.civl_tree.specs.declared.action.Choice.{Choice}
use Rattle.civl_tree.specs.declared.action.Update.{Update}
use Rattle.civl_tree.specs.declared.program.Local.{Local}
use Rattle.civl_tree.specs.declared.program.Refines.{Refines}
use Rattle.civl_tree.specs.declared.program.Proc.{Proc}
use Rattle.civl_tree.specs.declared.program.Thread.{Thread}
use Rattle.civl_tree.specs.declared.program.Program.{Program}
use Rattle.civl_tree.specs.Numbering.{statement_at}
use Rattle.civl_tree.specs.rules.Names.{has_name, global_names, targets_of, action_named, proc_named, callee_signature}
use Rattle.civl_tree.specs.rules.Scopes.{Scope, sort_in, gate_scope, guard_scope}
use Rattle.civl_tree.specs.rules.Unknown.{target_unknown, place_unknown}
use Rattle.civl_tree.specs.rules.Uses.{Use, truth_use, target_use, update_sort, init_uses, invariant_uses, action_uses, with_uses, stmt_uses, thread_uses}
use Rattle.civl_subjects.specs.declared.code.Code.TheVariants.{E11}
use Rattle.civl_subjects.specs.declared.expr_rule.ExprRule.TheVariants.{Unknown}
use Rattle.civl_subjects.specs.Subjects.{Subject, OfName}
use Rattle.civl_subjects.specs.Parts.{Part, GlobalPart, InitPart, InvariantPart, ActionPart, ProcPart, ThreadPart, parts_of, first_part, first_told}
use Rattle.civl_subjects.specs.Places.{form_unknown, name_or_part, part_breaks, part_subject, use_subject, uses_subject, name_subject, param_subject, local_subject, choice_subject, update_subject, conditions_subject, action_subject, refined_subject, proc_subject, thread_subject, front_subject, last_subject, stmt_subject}
use Rattle.civl_subjects.specs.Told.{in_part, in_statement}
use Rattle.civl_subjects.specs.Laws.{Lacks, Plainly, InOld, AnyLacks, UnknownInForm, UnknownInStmt, UnknownRefined, UnknownIn, UnknownIsTold}
use Rattle.civl_subjects.proofs.Choosing.{or_some, map_some, and_some, is_absent, told_some, if_only, found_some}
use Rattle.civl_subjects.proofs.Telling.{Names, weaker, tells}

-- ---- an expression

name_rolls : (name : Name) → roll-Expr (expr.Name name) ≡ tree.Name name
name_rolls name =
    let out : out-Expr (tree.Name name) ≡ expr.Name name = simp of_expr in
    ap roll-Expr (sym out) ∙ roll-out-Expr (tree.Name name)

old_rolls : (name : Name) → roll-Expr (expr.Old name) ≡ tree.Old name
old_rolls name =
    let out : out-Expr (tree.Old name) ≡ expr.Old name = simp of_expr in
    ap roll-Expr (sym out) ∙ roll-out-Expr (tree.Old name)

layer_lacks : (scope : Scope) (whole part : Expr) (layer : expr.Expr-F Expr) (told : Subject) → roll-Expr layer ≡ part
    → Contains (parts_of whole) part
    → form_unknown scope layer ≡ true → name_or_part part layer ≡ told → Names (Lacks scope whole) told
layer_lacks scope whole part (expr.Name name) told same there lacks is =
    record {
      name =
          name;
      told_is = sym is;
      held = Plainly (subst (Contains (parts_of whole)) (sym same
          ∙ name_rolls name) there) (is_absent (sort_in scope.names name) lacks);
    }
layer_lacks scope whole part (expr.Old name) told same there lacks is =
    record {
      name =
          name;
      told_is = sym is;
      held = InOld (subst (Contains (parts_of whole)) (sym same
          ∙ old_rolls name) there) (is_absent (sort_in scope.olds name) lacks);
    }
layer_lacks scope whole part _ told same there lacks is = absurd (let no = lacks in cc)

use_lacks : (use_of : Use) (told : Subject) → use_subject Unknown use_of ≡ Some told → Names (Lacks use_of.scope use_of.expression) told
unfolding first_part
use_lacks use_of told h =
    elim (or_some _ None told h) [
      | inl found ↦
          let m = map_some (part_subject Unknown) (first_part (part_breaks Unknown use_of.scope) use_of.expression) told found in
          let f = found_some (part_breaks Unknown use_of.scope) (parts_of use_of.expression) m.0 m.1 in
          layer_lacks use_of.scope use_of.expression m.0 (out-Expr m.0) told (roll-out-Expr m.0) f.0 f.1 m.2
      | inr none ↦ absurd (none-some told none)
    ]

-- one of these expressions
of_use : (uses : List Use) (use_of : Use) (told : Subject) → Contains uses use_of → use_subject Unknown use_of ≡ Some told
    → Names (AnyLacks uses) told
of_use uses use_of told there h =
    weaker (Lacks use_of.scope use_of.expression) (AnyLacks uses) told (λ name lacks. (use_of, there, lacks)) (use_lacks use_of told h)

any_lacks : (uses : List Use) (told : Subject) → uses_subject Unknown uses ≡ Some told → Names (AnyLacks uses) told
any_lacks uses told h = let found = told_some (use_subject Unknown) uses told h in of_use uses found.0 told found.1 found.2

is_false : (b : Bool) → not b ≡ true → b ≡ false
is_false true h = absurd (let no = h in cc)
is_false false h = refl

-- a name that stands in no expression
named : (P : Name → Type 0) (strange : Bool) (name : Name) (told : Subject) → name_subject Unknown strange name ≡ Some told
    → (strange ≡ true → P name) → Names P told
named P strange name told h holds =
    let s = if_only strange (OfName name) told h in record { name = name; told_is = sym s.1; held = holds s.0 }

-- nothing is told of declared names
no_params : (program : Program) (params : List Param) (told : Subject) → first_told (param_subject Unknown program) params ≡ Some told → ⊥
no_params program params told h = let found = told_some (param_subject Unknown program) params told h in none-some told found.2

no_locals : (program : Program) (locals : List Local) (told : Subject) → first_told (local_subject Unknown program) locals ≡ Some told → ⊥
no_locals program locals told h = let found = told_some (local_subject Unknown program) locals told h in none-some told found.2

-- ---- actions

module _ (program : Program) (action : Action) where
  abbrev offers : List Use
  offers = map (λ choice. target_use (gate_scope program action) choice.offer (Some choice.sort)) action.choices

  abbrev values : List Use
  values = map (λ update. target_use (guard_scope program action) update.expr (update_sort program action update.target)) action.updates

  abbrev Here : Name → Type 0
  Here name = (Contains (targets_of action) name × (target_unknown program action name ≡ true)) ⊎ AnyLacks (action_uses program action) name

  in_choices : (told : Subject) → first_told (choice_subject Unknown program action) action.choices ≡ Some told → Names Here told
  in_choices told h =
      let found = told_some (choice_subject Unknown program action) action.choices told h in
      let use_of = target_use (gate_scope program action) found.0.offer (Some found.0.sort) in
      let there =
      Contains-append_left offers (truth_use (gate_scope program action) action.gate ∷ truth_use (guard_scope program action) action.guard ∷ values) use_of
      (contains_map (λ (choice : Choice). target_use (gate_scope program action) choice.offer (Some choice.sort)) action.choices found.0 found.1) in
      weaker (AnyLacks (action_uses program action)) Here told (λ name l. inr l) (of_use (action_uses program action) use_of told there found.2)

  in_conditions : (told : Subject) → conditions_subject Unknown program action ≡ Some told → Names Here told
  in_conditions told h =
      let gate = truth_use (gate_scope program action) action.gate in
      let guard = truth_use (guard_scope program action) action.guard in
      elim (or_some (use_subject Unknown gate) (use_subject Unknown guard) told h) [
        | inl e ↦ weaker (AnyLacks (action_uses program action)) Here told (λ name l. inr l) (of_use (action_uses program action) gate told (Contains-append_right offers (gate ∷ guard ∷ values) gate (contains_here gate (guard ∷ values))) e)
        | inr e ↦ weaker (AnyLacks (action_uses program action)) Here told (λ name l. inr l)
            (of_use (action_uses program action) guard told (Contains-append_right offers (gate ∷ guard ∷ values) guard (contains_there gate (guard ∷ values) guard (contains_here guard values))) e)
      ]

  in_updates : (told : Subject) → first_told (update_subject Unknown program action) action.updates ≡ Some told → Names Here told
  in_updates told h =
      let found = told_some (update_subject Unknown program action) action.updates told h in
      let update = found.0 in
      let use_of = target_use (guard_scope program action) update.expr (update_sort program action update.target) in
      elim (or_some (name_subject Unknown (target_unknown program action update.target) update.target) (use_subject Unknown use_of) told found.2) [
        | inl e ↦ named Here (target_unknown program action update.target) update.target told e
            (λ strange. inl (contains_map (λ (other : Update). other.target) action.updates update found.1, strange))
        | inr e ↦
            let gate = truth_use (gate_scope program action) action.gate in
            let guard = truth_use (guard_scope program action) action.guard in
            let last =
            contains_map (λ (other : Update). target_use (guard_scope program action) other.expr (update_sort program action other.target)) action.updates update found.1 in
            let there =
            Contains-append_right offers (gate ∷ guard ∷ values) use_of (contains_there gate (guard ∷ values) use_of (contains_there guard values use_of last)) in
            weaker (AnyLacks (action_uses program action)) Here told (λ name l. inr l) (of_use (action_uses program action) use_of told there e)
      ]

  in_action : (told : Subject) → action_subject Unknown program action ≡ Some told → Names Here told
  in_action told h =
      elim (or_some (first_told (param_subject Unknown program) action.params) _ told h) [
        | inl none ↦ absurd (no_params program action.params told none)
        | inr h ↦ elim (or_some (first_told (param_subject Unknown program) action.outs) _ told h) [
          | inl none ↦ absurd (no_params program action.outs told none)
          | inr h ↦ elim (or_some (first_told (choice_subject Unknown program action) action.choices) _ told h) [
            | inl e ↦ in_choices told e
            | inr h ↦ elim (or_some (conditions_subject Unknown program action) _ told h) [
              | inl e ↦ in_conditions told e
              | inr e ↦ in_updates told e
            ]
          ]
        ]
      ]

-- ---- statements

module _ (program : Program) (proc : Proc) where
  in_front : (layer : Stmt-F Stmt) (told : Subject) → front_subject Unknown program proc layer ≡ Some told
      → Names (UnknownInForm program proc layer) told
  in_front (Assign target value) told h =
      named (UnknownInForm program proc (Assign target value)) (place_unknown proc target) target told h (λ strange. (refl, strange))
  in_front (Call callee args results) told h =
      named (UnknownInForm program proc (Call callee args results)) (is_none (callee_signature program callee)) callee told h
      (λ strange. inl (refl, is_absent (callee_signature program callee) strange))
  in_front (Intro target value) told h =
      named (UnknownInForm program proc (Intro target value)) (not (has_name (global_names program.globals) target)) target told h
      (λ strange. (refl, is_false (has_name (global_names program.globals) target) strange))
  in_front (Spawn callee args) told h =
      named (UnknownInForm program proc (Spawn callee args)) (is_none (proc_named program callee)) callee told h
      (λ strange. (refl, is_absent (proc_named program callee) strange))
  in_front _ told h = absurd (none-some told h)

  in_last : (layer : Stmt-F Stmt) (told : Subject) → last_subject Unknown program proc layer ≡ Some told
      → Names (UnknownInForm program proc layer) told
  in_last (Call callee args results) told h =
      let found = told_some (λ (result : Name). name_subject Unknown (place_unknown proc result) result) results told h in
      named (UnknownInForm program proc (Call callee args results)) (place_unknown proc found.0) found.0 told found.2 (λ strange. inr (found.1, strange))
  in_last _ told h = absurd (none-some told h)

  in_stmt : (stmt : Stmt) (told : Subject) → stmt_subject Unknown program proc stmt ≡ Some told
      → Names (UnknownInStmt program proc stmt) told
  in_stmt stmt told h =
      let Form = UnknownInForm program proc (out-Stmt stmt) in
      let Whole = UnknownInStmt program proc stmt in
      elim (or_some (front_subject Unknown program proc (out-Stmt stmt)) _ told h) [
        | inl e ↦ weaker Form Whole told (λ name u. inl u) (in_front (out-Stmt stmt) told e)
        | inr h ↦ elim (or_some (uses_subject Unknown (stmt_uses program proc stmt)) _ told h) [
          | inl e ↦ weaker (AnyLacks (stmt_uses program proc stmt)) Whole told (λ name u. inr u) (any_lacks (stmt_uses program proc stmt) told e)
          | inr e ↦ weaker Form Whole told (λ name u. inl u) (in_last (out-Stmt stmt) told e)
        ]
      ]

  -- ---- procedures

  in_refined : (refines : Option Refines) (told : Subject) → refined_subject Unknown program refines ≡ Some told
      → Names (UnknownRefined program refines) told
  in_refined None told h = absurd (none-some told h)
  in_refined (Some refines) told h =
      named (UnknownRefined program (Some refines)) (is_none (action_named program refines.action)) refines.action told h
      (λ strange. (refl, is_absent (action_named program refines.action) strange))

  abbrev Head : Name → Type 0
  Head name = UnknownRefined program proc.refines name ⊎ AnyLacks (with_uses program proc proc.refines) name

  in_proc_head : (told : Subject) → proc_subject Unknown program proc ≡ Some told → Names Head told
  in_proc_head told h =
      elim (or_some (first_told (param_subject Unknown program) proc.params) _ told h) [
        | inl none ↦ absurd (no_params program proc.params told none)
        | inr h ↦ elim (or_some (first_told (param_subject Unknown program) proc.outs) _ told h) [
          | inl none ↦ absurd (no_params program proc.outs told none)
          | inr h ↦ elim (or_some (refined_subject Unknown program proc.refines) _ told h) [
            | inl e ↦ weaker (UnknownRefined program proc.refines) Head told (λ name u. inl u) (in_refined proc.refines told e)
            | inr h ↦ elim (or_some (uses_subject Unknown (with_uses program proc proc.refines)) _ told h) [
              | inl e ↦ weaker (AnyLacks (with_uses program proc proc.refines)) Head told (λ name u. inr u) (any_lacks (with_uses program proc proc.refines) told e)
              | inr none ↦ absurd (no_locals program proc.locals told none)
            ]
          ]
        ]
      ]

-- ---- threads

module _ (program : Program) (thread : Thread) where
  abbrev Run : Name → Type 0
  Run name = ((thread.callee ≡ name) × (proc_named program thread.callee ≡ None)) ⊎ AnyLacks (thread_uses program thread) name

  in_thread_here : (told : Subject) → thread_subject Unknown program thread ≡ Some told → Names Run told
  in_thread_here told h =
      elim (or_some (name_subject Unknown (is_none (proc_named program thread.callee)) thread.callee) _ told h) [
        | inl e ↦ named Run (is_none (proc_named program thread.callee)) thread.callee told e (λ strange. inl (refl, is_absent (proc_named program thread.callee) strange))
        | inr e ↦ weaker (AnyLacks (thread_uses program thread)) Run told (λ name u. inr u) (any_lacks (thread_uses program thread) told e)
      ]

-- ---- parts

in_part_here : (program : Program) (number : ℕ) (part : Part) (told : Subject) → in_part E11 program number part ≡ Some told
    → Names (UnknownIn program number part) told
in_part_here program number (GlobalPart place global) told h = absurd (none-some told h)
in_part_here program number InitPart told h = any_lacks (init_uses program) told h
in_part_here program number (InvariantPart place invariant) told h = any_lacks (invariant_uses program invariant) told h
in_part_here program number (ActionPart place action) told h = in_action program action told h
in_part_here program number (ProcPart place proc) told h =
    let Whole = UnknownIn program number (ProcPart place proc) in
    elim (or_some (proc_subject Unknown program proc) _ told h) [
      | inl e ↦ weaker (Head program proc) Whole told (λ name u. inl u) (in_proc_head program proc told e)
      | inr e ↦
          let found = and_some (in_statement E11 program proc number) (statement_at proc.body number) told e in
          weaker (UnknownInStmt program proc found.0) Whole told (λ name u. inr (found.0, found.1, u)) (in_stmt program proc found.0 told found.2)
    ]
in_part_here program number (ThreadPart place thread) told h = in_thread_here program thread told h

pub unknown_is_told : UnknownIsTold
unknown_is_told program refusal told code h =
    tells 11 E11 UnknownIn program refusal told code refl (λ t e. absurd (none-some t e)) (in_part_here program refusal.statement) h
