-- What is told under E31 is a global that may not be used there.
use Rattle.std.proofs.Common.{◌≡◌, ◌⊎◌, inl, inr, ℕ, Bool, true, false, List, Contains, Option, None, Some, refl, sym, ◌∙◌, subst}
use Rattle.std.specs.Prelude.{◌||◌, if◌then◌else◌}
use Rattle.std.specs.Option.{option_or, option_map}
use Rattle.std.proofs.lemmas.Option.{none-some}
use Rattle.civl_tree.specs.declared.name.Name.{Name}
use Rattle.civl_tree.specs.declared.expr.Expr.{Expr, map-Expr}
use Rattle.civl_tree.specs.declared.expr.Expr.TheOpen as expr
use Rattle.civl_tree.specs.declared.expr.Expr.TheFolds.{fold-roll-Expr, ind-Expr}
use Rattle.civl_tree.specs.declared.stmt.Stmt.{Stmt, out-Stmt}
use Rattle.civl_tree.specs.declared.stmt.Stmt.TheOpen.{Stmt-F, YieldLoop, RankLoop, Yield, Intro}
use Rattle.civl_tree.specs.declared.action.Action.{Action}
use Rattle.civl_tree.specs.declared.action.Update.{Update}
use Rattle.civl_tree.specs.declared.program.Refines.{Refines}
use Rattle.civl_tree.specs.declared.program.Proc.{Proc}
use Rattle.civl_tree.specs.declared.program.Program.{Program}
use Rattle.civl_tree.specs.Numbering.{statement_at}
use Rattle.civl_tree.specs.rules.Names.{same_name}
use Rattle.civl_tree.proofs.Naming.{is_same}
use Rattle.civl_layers.specs.Names.{uses}
use Rattle.civl_layers.specs.Names as names
use Rattle.civl_layers.specs.Hidden.{hidden_in_action, hidden_at_step}
use Rattle.civl_subjects.specs.declared.code.Code.TheVariants.{E31}
use Rattle.civl_subjects.specs.Subjects.{Subject, OfName}
use Rattle.civl_subjects.specs.Parts.{Part, GlobalPart, InitPart, InvariantPart, ActionPart, ProcPart, ThreadPart, first_told}
use Rattle.civl_subjects.specs.Layers.{use_step, first_use, update_use, action_hidden, invariant_hidden, with_hidden, form_use, stmt_hidden}
use Rattle.civl_subjects.specs.Told.{in_part, in_statement}
use Rattle.civl_subjects.specs.Laws.{AnyHas, HasInAction, InOffer, InGate, InGuard, IsTarget, InValue, HasInForm, HiddenInProc, HiddenIn, HiddenIsTold}
use Rattle.civl_subjects.proofs.Choosing.{or_some, and_some, told_some, if_only}
use Rattle.civl_subjects.proofs.Telling.{Names, of_option, tells}

-- ---- an expression

-- a name that is found passes the test, and the expression has it
abbrev Finds : (Name → Bool) → Option Name → (Name → Bool) → Type 0
Finds test found has = (name : Name) → found ≡ Some name → (test name ≡ true) × (has name ≡ true)

either_true : (a b : Bool) → (a ≡ true) ⊎ (b ≡ true) → (a || b) ≡ true
either_true true b h = refl
either_true false b (inl e) = absurd (let no = e in cc)
either_true false b (inr e) = e

both_find : (test : Name → Bool) (a b : Option Name) (h k : Name → Bool) → Finds test a h → Finds test b k
    → Finds test (option_or a b) (λ name. h name || k name)
both_find test a b h k f g name e =
    elim (or_some a b name e) [
      | inl e ↦ let s = f name e in (s.0, either_true (h name) (k name) (inl s.1))
      | inr e ↦ let s = g name e in (s.0, either_true (h name) (k name) (inr s.1))
    ]

-- a layer over the parts of an expression
abbrev found_in : (Name → Bool) → expr.Expr-F Expr → Option Name
found_in test layer = use_step test (map-Expr Expr (Option Name) (first_use test) layer)

abbrev had_in : Name → expr.Expr-F Expr → Bool
had_in name layer = names.use_step (same_name name) (map-Expr Expr Bool (uses (same_name name)) layer)

abbrev ExprFinds : (Name → Bool) → Expr → Type 0
ExprFinds test e = Finds test (first_use test e) (λ name. uses (same_name name) e)

this_one : (test : Name → Bool) (own : Name) → Finds test (if test own then Some own else None) (λ name. same_name name own)
this_one test own name h =
    let s = if_only (test own) own name h in (subst (λ (n : Name). test n ≡ true) s.1 s.0, is_same name own (sym s.1))

layer_finds : {S : Type 0} (test : Name → Bool) (layer : expr.Expr-F S) (v : S → Expr) → ((s : S) → ExprFinds test (v s))
    → Finds test (found_in test (map-Expr S Expr v layer)) (λ name. had_in name (map-Expr S Expr v layer))
layer_finds test (expr.Name own) v h = this_one test own
layer_finds test (expr.Literal value width) v h = λ name e. absurd (none-some name e)
layer_finds test expr.True v h = λ name e. absurd (none-some name e)
layer_finds test expr.False v h = λ name e. absurd (none-some name e)
layer_finds test expr.Done v h = λ name e. absurd (none-some name e)
layer_finds test (expr.Old own) v h = this_one test own
layer_finds test expr.OldDone v h = λ name e. absurd (none-some name e)
layer_finds test (expr.One op a) v h = h a
layer_finds test (expr.Two op a b) v h = both_find test _ _ _ _ (h a) (h b)
layer_finds test (expr.Pick c a b) v h = both_find test _ _ _ _ (h c) (both_find test _ _ _ _ (h a) (h b))
layer_finds test (expr.Get r i) v h = both_find test _ _ _ _ (h r) (h i)
layer_finds test (expr.Set r i c) v h = both_find test _ _ _ _ (h r) (both_find test _ _ _ _ (h i) (h c))
layer_finds test (expr.Fill k c) v h = h c
layer_finds test (expr.Slice a high low) v h = h a
layer_finds test (expr.Widen a width) v h = h a
layer_finds test (expr.Join a b) v h = both_find test _ _ _ _ (h a) (h b)

expr_finds : (test : Name → Bool) (e : Expr) → ExprFinds test e
expr_finds test e =
    ind-Expr (ExprFinds test) (λ x y q name found.
    let finds = layer_finds test y (λ z. z.0) (λ z. z.1) in
    let here = subst (λ (layer : expr.Expr-F Expr). Finds test (found_in test layer) (λ n. had_in n layer)) q finds in
    let s = here name (sym (fold-roll-Expr (Option Name) (use_step test) x) ∙ found) in
    (s.0, fold-roll-Expr Bool (names.use_step (same_name name)) x ∙ s.1)) e

-- one of these expressions
any_finds : (test : Name → Bool) (exprs : List Expr) (name : Name) → first_told (first_use test) exprs ≡ Some name
    → (test name ≡ true) × AnyHas exprs name
any_finds test exprs name h =
    let found = told_some (first_use test) exprs name h in
    let s = expr_finds test found.0 name found.2 in
    (s.0, (found.0, found.1, s.1))

-- ---- actions

module _ (program : Program) (action : Action) where
  abbrev test : Name → Bool
  test = hidden_in_action program action

  in_update : (update : Update) (name : Name) → Contains action.updates update → update_use test update ≡ Some name
      → (test name ≡ true) × HasInAction action name
  in_update update name there h =
      elim (or_some (if test update.target then Some update.target else None) (first_use test update.expr) name h) [
        | inl e ↦ let s =
            if_only (test update.target) update.target name e in (subst (λ (n : Name). test n ≡ true) s.1 s.0, IsTarget update there s.1)
        | inr e ↦ let s = expr_finds test update.expr name e in (s.0, InValue update there s.1)
      ]

  in_action : (name : Name) → action_hidden program action ≡ Some name → (test name ≡ true) × HasInAction action name
  in_action name h =
      elim (or_some (first_told (λ choice. first_use test choice.offer) action.choices) _ name h) [
        | inl e ↦
            let found = told_some (λ choice. first_use test choice.offer) action.choices name e in
            let s = expr_finds test found.0.offer name found.2 in
            (s.0, InOffer found.0 found.1 s.1)
        | inr h ↦ elim (or_some (first_use test action.gate) _ name h) [
          | inl e ↦ let s = expr_finds test action.gate name e in (s.0, InGate s.1)
          | inr h ↦ elim (or_some (first_use test action.guard) (first_told (update_use test) action.updates) name h) [
            | inl e ↦ let s = expr_finds test action.guard name e in (s.0, InGuard s.1)
            | inr e ↦ let found = told_some (update_use test) action.updates name e in in_update found.0 name found.1 found.2
          ]
        ]
      ]

-- ---- procedures

form_finds : (test : Name → Bool) (layer : Stmt-F Stmt) (name : Name) → form_use test layer ≡ Some name
    → (test name ≡ true) × HasInForm layer name
form_finds test (YieldLoop condition inv body) name h = expr_finds test inv name h
form_finds test (RankLoop condition rank inv body) name h =
    elim (or_some (first_use test rank) (first_use test inv) name h) [
      | inl e ↦ let s = expr_finds test rank name e in (s.0, inl s.1)
      | inr e ↦ let s = expr_finds test inv name e in (s.0, inr s.1)
    ]
form_finds test (Yield inv) name h = expr_finds test inv name h
form_finds test (Intro target value) name h = expr_finds test value name h
form_finds test _ name h = absurd (none-some name h)

behind_with : (program : Program) (number : ℕ) (proc : Proc) (refines : Option Refines) (name : Name)
    → with_hidden program refines ≡ Some name → HiddenInProc program number proc refines name
behind_with program number proc None name h = absurd (none-some name h)
behind_with program number proc (Some refines) name h =
    let s = any_finds (hidden_at_step program refines.layer) refines.with name h in (s.0, inl s.1)

in_stmt : (program : Program) (number : ℕ) (proc : Proc) (refines : Option Refines) (stmt : Stmt) (name : Name)
    → statement_at proc.body number ≡ Some stmt
    → stmt_hidden program refines stmt ≡ Some name → HiddenInProc program number proc refines name
in_stmt program number proc None stmt name at h = absurd (none-some name h)
in_stmt program number proc (Some refines) stmt name at h =
    let s = form_finds (hidden_at_step program refines.layer) (out-Stmt stmt) name h in (s.0, inr (stmt, at, s.1))

-- ---- parts

hidden_here : (program : Program) (number : ℕ) (part : Part) (told : Subject) → in_part E31 program number part ≡ Some told
    → Names (HiddenIn program number part) told
hidden_here program number (GlobalPart place global) told h = absurd (none-some told h)
hidden_here program number InitPart told h = absurd (none-some told h)
hidden_here program number (InvariantPart place invariant) told h =
    of_option (HiddenIn program number (InvariantPart place invariant)) (invariant_hidden program invariant) told h
    (λ name e. expr_finds (hidden_at_step program invariant.step) invariant.expr name e)
hidden_here program number (ActionPart place action) told h =
    of_option (HiddenIn program number (ActionPart place action)) (action_hidden program action) told h (λ name e. in_action program action name e)
hidden_here program number (ProcPart place proc) told h =
    let Whole = HiddenIn program number (ProcPart place proc) in
    elim (or_some (option_map OfName (with_hidden program proc.refines)) _ told h) [
      | inl e ↦ of_option Whole (with_hidden program proc.refines) told e (λ name e. behind_with program number proc proc.refines name e)
      | inr e ↦
          let found = and_some (in_statement E31 program proc number) (statement_at proc.body number) told e in
          of_option Whole (stmt_hidden program proc.refines found.0) told found.2 (λ name e. in_stmt program number proc proc.refines found.0 name found.1 e)
    ]
hidden_here program number (ThreadPart place thread) told h = absurd (none-some told h)

pub hidden_is_told : HiddenIsTold
hidden_is_told program refusal told code h =
    tells 31 E31 HiddenIn program refusal told code refl (λ t e. absurd (none-some t e)) (hidden_here program refusal.statement) h
