-- What comes of going over statements has one entry for each of them, and one flag for each name in it.
use Rattle.std.proofs.Common.{◌≡◌, ℕ, suc, ◌+◌, Bool, false, List, [], ◌∷◌, ◌++◌, map, length, None, Some, refl, sym, ap, ap₂, ◌∙◌, subst, arith}
use Rattle.std.specs.Prelude.{Option, is_some, if◌then◌else◌}
use Rattle.std.proofs.lemmas.List.{length-append, length-map}
use Rattle.std.proofs.lemmas.List.Elements.{All-nil, All-cons, All-append}
use Rattle.civl_tree.specs.declared.name.Name.{Name}
use Rattle.civl_tree.specs.declared.expr.Expr.{Expr}
use Rattle.civl_tree.specs.declared.stmt.Stmt.{Stmt, roll-Stmt, out-roll-Stmt, map-Stmt}
use Rattle.civl_tree.specs.declared.stmt.Stmt.TheOpen.{Stmt-F, If, While, YieldLoop, RankLoop, Call, Spawn}
use Rattle.civl_tree.specs.declared.stmt.Stmt.TheFolds.{ind-Stmt}
use Rattle.civl_tree.specs.declared.program.Refines.{Refines}
use Rattle.civl_tree.specs.declared.program.Proc.{Proc}
use Rattle.civl_tree.specs.declared.program.Program.{Program}
use Rattle.civl_tree.specs.Numbering.{inner_of, statements_of}
use Rattle.civl_tree.specs.rules.Names.{Signature, param_names, names_in_proc, proc_named, proc_signature_of, callee_signature}
use Rattle.civl_tree.proofs.Preorder.{inner_layer, inner_is}
use Rattle.civl_layers.specs.declared.cut.CutKind.{CutKind}
use Rattle.civl_layers.specs.Cuts.{cut_kind, cut_at, cuts_among, cuts_below}
use Rattle.civl_linear.specs.Modes.{is_passed, is_taken, is_lent, is_given, passed_names, given_names}
use Rattle.civl_linear.specs.Held.{Traced, traced, traced_all, traced_proc, trace_one, without_names, with_names, both_held, call_held, spawn_held, entry_held, exit_owed}
use Rattle.civl_linear.specs.Cuts.{held_numbers, held_at_cuts, held_under}
use Rattle.civl_linear.specs.Lengths.{OneEach, StandsBeside, ProcsAreTraced, HeldAtEachCut}
use Rattle.civl_linear.proofs.Examples.{traced_form, traced_is}

-- ---- one flag for each name

pub without_names_each : (gone names : List Name) (held : List Bool) → OneEach names held → OneEach names (without_names gone names held)
without_names_each gone [] held h = refl
without_names_each gone (name ∷ names) [] h = h
without_names_each gone (name ∷ names) (is_held ∷ held) h = let rest : length held ≡ length names = omega (arith, h) in ap suc (without_names_each gone names held rest)

pub with_names_each : (new names : List Name) (held : List Bool) → OneEach names held → OneEach names (with_names new names held)
with_names_each new [] held h = refl
with_names_each new (name ∷ names) [] h = h
with_names_each new (name ∷ names) (is_held ∷ held) h = let rest : length held ≡ length names = omega (arith, h) in ap suc (with_names_each new names held rest)

pub both_each : (first second : List Bool) → length first ≡ length second → length (both_held first second) ≡ length first
both_each [] second h = refl
both_each (one ∷ first) [] h = sym h
both_each (one ∷ first) (other ∷ second) h = let rest : length first ≡ length second = omega (arith, h) in ap suc (both_each first second rest)

module _ (names : List Name) (held : List Bool) (each : OneEach names held) where
  call_each : (signature : Option Signature) (args : List Expr) (results : List Name) → OneEach names (call_held names signature args results held)
  call_each None args results = each
  call_each (Some signature) args results =
      with_names_each (given_names signature.outs results) names (without_names (passed_names is_taken signature.params args) names held) (without_names_each (passed_names is_taken signature.params args) names held each)

  spawn_each : (signature : Option Signature) (args : List Expr) → OneEach names (spawn_held names signature args held)
  spawn_each None args = each
  spawn_each (Some signature) args = without_names_each (passed_names is_passed signature.params args) names held each

-- ---- going over statements

module _ (names : List Name) where
  none_beside : (held : List Bool) → OneEach names held → StandsBeside [] names (record { after = held; befores = []; losses = [] })
  none_beside held h = record { befores = refl; losses = refl; flags = All-nil (OneEach names); after = h }

  -- a statement, and what stands in it
  one_beside : (stmt : Stmt) (held after : List Bool) → OneEach names held → OneEach names after → StandsBeside (stmt ∷ []) names (trace_one held after)
  one_beside stmt held after h k = record { befores = refl; losses = refl; flags = All-cons (OneEach names) held [] h (All-nil (OneEach names)); after = k }

  above_beside : (stmt : Stmt) (stmts : List Stmt) (held : List Bool) (lost : Bool) (after : List Bool) (inner : Traced) → OneEach names held → OneEach names after → StandsBeside stmts names inner
      → StandsBeside (stmt ∷ stmts) names (record { after = after; befores = held ∷ inner.befores; losses = lost ∷ inner.losses })
  above_beside stmt stmts held lost after inner h k b =
      record { befores = ap suc b.befores; losses = ap suc b.losses; flags = All-cons (OneEach names) held inner.befores h b.flags; after = k }

  -- statements behind others
  behind_beside : (xs ys : List Stmt) (first second : Traced) → StandsBeside xs names first → StandsBeside ys names second
      → StandsBeside (xs ++ ys) names (record { after = second.after; befores = first.befores ++ second.befores; losses = first.losses ++ second.losses })
  behind_beside xs ys first second b c = record {
    befores = omega (arith, length-append first.befores second.befores, length-append xs ys, b.befores, c.befores);
    losses = omega (arith, length-append first.losses second.losses, length-append xs ys, b.losses, c.losses);
    flags = All-append (OneEach names) first.befores second.befores b.flags c.flags;
    after = c.after;
  }

  module _ (program : Program) where
    abbrev Beside : Stmt → Type 0
    Beside stmt = (held : List Bool) → OneEach names held → StandsBeside (stmt ∷ inner_of stmt) names (traced program names stmt held)

    parts_beside : {S : Type 0} (ys : List S) (v : S → Stmt) → ((s : S) → Beside (v s)) → (held : List Bool) → OneEach names held
        → StandsBeside (statements_of (map v ys)) names (traced_all program names (map v ys) held)
    parts_beside [] v h held each = none_beside held each
    parts_beside (y ∷ ys) v h held each =
        let here = h y held each in
        let this = traced program names (v y) held in
        behind_beside (v y ∷ inner_of (v y)) (statements_of (map v ys)) this (traced_all program names (map v ys) this.after) here (parts_beside ys v h this.after here.after)

    form_beside : {S : Type 0} (form : Stmt-F S) (v : S → Stmt) → ((s : S) → Beside (v s)) → (stmt : Stmt) (held : List Bool) → OneEach names held
        → StandsBeside (stmt ∷ inner_layer (map-Stmt S Stmt v form)) names (traced_form program names (map-Stmt S Stmt v form) held)
    form_beside (If test first second) v h stmt held each =
        let one = parts_beside first v h held each in
        let other = parts_beside second v h held each in
        let x = traced_all program names (map v first) held in
        let y = traced_all program names (map v second) held in
        let same : length x.after ≡ length y.after = one.after ∙ sym other.after in
        above_beside stmt (statements_of (map v first) ++ statements_of (map v second)) held false (both_held x.after y.after) _ each (both_each x.after y.after same ∙ one.after)
        (behind_beside (statements_of (map v first)) (statements_of (map v second)) x y one other)
    form_beside (While test body) v h stmt held each = above_beside stmt (statements_of (map v body)) held _ held _ each each (parts_beside body v h held each)
    form_beside (YieldLoop test inv body) v h stmt held each = above_beside stmt (statements_of (map v body)) held _ held _ each each (parts_beside body v h held each)
    form_beside (RankLoop test rank inv body) v h stmt held each = above_beside stmt (statements_of (map v body)) held _ held _ each each (parts_beside body v h held each)
    form_beside (Call callee args results) v h stmt held each = one_beside stmt held _ each (call_each names held each (callee_signature program callee) args results)
    form_beside (Spawn callee args) v h stmt held each = one_beside stmt held _ each (spawn_each names held each (proc_signature_of (proc_named program callee)) args)
    form_beside _ v h stmt held each = one_beside stmt held held each each

    beside : (stmt : Stmt) → Beside stmt
    beside stmt =
        ind-Stmt Beside (λ x y q held each.
        let here = subst (λ (form : Stmt-F Stmt). StandsBeside (roll-Stmt x ∷ inner_layer form) names (traced_form program names form held)) q (form_beside y (λ z. z.0) (λ z. z.1) (roll-Stmt x) held each) in
        let inside : inner_of (roll-Stmt x) ≡ inner_layer x = inner_is (roll-Stmt x) ∙ ap inner_layer (out-roll-Stmt x) in
        let over : traced program names (roll-Stmt x) held ≡ traced_form program names x held = traced_is program names (roll-Stmt x) held ∙ ap (λ (form : Stmt-F Stmt). traced_form program names form held) (out-roll-Stmt x) in
        subst (λ (stmts : List Stmt). StandsBeside (roll-Stmt x ∷ stmts) names (traced program names (roll-Stmt x) held)) (sym inside)
        (subst (λ (t : Traced). StandsBeside (roll-Stmt x ∷ inner_layer x) names t) (sym over) here)) stmt

    pub body_beside : (body : List Stmt) (held : List Bool) → OneEach names held → StandsBeside (statements_of body) names (traced_all program names body held)
    body_beside [] held each = none_beside held each
    body_beside (stmt ∷ stmts) held each =
        let here = beside stmt held each in
        let this = traced program names stmt held in
        behind_beside (stmt ∷ inner_of stmt) (statements_of stmts) this (traced_all program names stmts this.after) here (body_beside stmts this.after here.after)

-- ---- procedures

module _ (proc : Proc) where
  -- as many flags as names, where each parameter, output and local has one
  three_each : (a b c : List Bool) → length a ≡ length proc.params → length b ≡ length proc.outs → length c ≡ length proc.locals → OneEach (names_in_proc proc) (a ++ (b ++ c))
  three_each a b c h k l =
      let locals : List Name = map (λ declared. declared.name) proc.locals in
      let params : length (param_names proc.params) ≡ length proc.params = length-map proc.params (λ param. param.name) in
      let outs : length (param_names proc.outs) ≡ length proc.outs = length-map proc.outs (λ param. param.name) in
      let names : length locals ≡ length proc.locals = length-map proc.locals (λ declared. declared.name) in
      omega (arith, h, k, l, params, outs, names, length-append a (b ++ c), length-append b c, length-append (param_names proc.params) (param_names proc.outs ++ locals), length-append (param_names proc.outs) locals)

  pub entry_each : OneEach (names_in_proc proc) (entry_held proc)
  entry_each = three_each _ _ _ (length-map proc.params (λ param. is_passed param.mode)) (length-map proc.outs (λ out. false)) (length-map proc.locals (λ declared. false))

  pub exit_each : OneEach (names_in_proc proc) (exit_owed proc)
  exit_each = three_each _ _ _ (length-map proc.params (λ param. is_lent param.mode)) (length-map proc.outs (λ out. is_given out.mode)) (length-map proc.locals (λ declared. false))

pub procs_are_traced : ProcsAreTraced
procs_are_traced program proc = record { entry = entry_each proc; body = body_beside (names_in_proc proc) program proc.body (entry_held proc) (entry_each proc); exit = exit_each proc }

-- ---- cuts

one_cut : (kind : Option CutKind) (number : ℕ) (numbers : List ℕ) → length (if is_some kind then numbers ∷ [] else []) ≡ length (cut_at number kind)
one_cut None number numbers = refl
one_cut (Some kind) number numbers = refl

-- what is held at the cuts among statements
pub at_each_cut : (names : List Name) (stmts : List Stmt) (befores : List (List Bool)) (number : ℕ) → length befores ≡ length stmts → length (held_at_cuts names stmts befores) ≡ length (cuts_among number stmts)
unfolding cuts_among
at_each_cut names [] befores number h = refl
at_each_cut names (stmt ∷ stmts) [] number h = absurd (omega (arith, h))
at_each_cut names (stmt ∷ stmts) (held ∷ befores) number h =
    let rest : length befores ≡ length stmts = omega (arith, h) in
    length-append (if is_some (cut_kind stmt) then held_numbers 0 names held ∷ [] else []) (held_at_cuts names stmts befores)
    ∙ ap₂ (λ (m n : ℕ). m + n) (one_cut (cut_kind stmt) number (held_numbers 0 names held)) (at_each_cut names stmts befores (number + 1) rest)
    ∙ sym (length-append (cut_at number (cut_kind stmt)) (cuts_among (number + 1) stmts))

held_each : (program : Program) (proc : Proc) (refines : Option Refines) → length (held_under program proc refines) ≡ length (cuts_below refines proc.body)
held_each program proc None = refl
held_each program proc (Some refines) = ap suc (at_each_cut (names_in_proc proc) (statements_of proc.body) (traced_proc program proc).befores 0 (procs_are_traced program proc).body.befores)

pub held_at_each_cut : HeldAtEachCut
held_at_each_cut program proc = held_each program proc proc.refines
