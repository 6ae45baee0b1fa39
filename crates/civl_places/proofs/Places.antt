-- Expressions of statements, and of a program.
use Rattle.std.proofs.Common.{◌≡◌, ℕ, ◌+◌, ◌<◌, ◌≤◌, inl, inr, List, [], ◌∷◌, ◌++◌, map, length, Option, None, Some, append_assoc, length-append, refl, sym, ap, ◌∙◌, subst, arith, Bor}
use Rattle.std.specs.Prelude.{slice_get, option_and_then, MatchOption, IfSome, IsSomeAnd, codes}
use Rattle.std.specs.Option.{option_map}
use Rattle.std.proofs.lemmas.Bool.{cases_lt}
use Rattle.std.proofs.lemmas.Option.{slice_get_past}
use Rattle.civl_tree.specs.declared.expr.Expr.{Expr, out-Expr, roll-out-Expr, map-Expr}
use Rattle.civl_tree.specs.declared.expr.Expr.TheFolds.{fold-roll-Expr}
use Rattle.civl_tree.specs.declared.expr.Expr.TheOpen as expr
use Rattle.civl_tree.specs.declared.program.Proc.{Proc}
use Rattle.civl_tree.specs.declared.program.Program.{Program}
use Rattle.civl_tree.specs.declared.stmt.Stmt.{Stmt, out-Stmt, roll-out-Stmt, map-Stmt}
use Rattle.civl_tree.specs.declared.stmt.Stmt.TheOpen.{Stmt-F, Assign, Assert, If, While, YieldLoop, RankLoop, Call, Yield, Intro, Spawn}
use Rattle.civl_tree.specs.declared.stmt.Stmt.TheFolds.{fold-roll-Stmt}
use Rattle.civl_tree.specs.Token.{Token, Reserved, Number}
use Rattle.civl_tree.specs.Spelling.{semicolon, becomes, arrow, name_token, enclosed, block, expr_step, spell_expr}
use Rattle.civl_tree.specs.SpellingStmt.{spell_name, stmt_step, spell_stmt}
use Rattle.civl_tree.specs.SpellingProgram.{spell_init, spell_invariant, spell_program}
use Rattle.civl_tree.specs.Numbering.{OfInit, OfInvariant, OfAction, OfProc, OfThread, init_item, invariant_item, action_item, proc_item, thread_item, statement_at}
use Rattle.civl_tree.proofs.Items.{items_are_numbered}
use Rattle.civl_reasons.specs.Reasons.{Subformula}
use Rattle.civl_reasons.specs.Stands.{StandAt}
use Rattle.civl_places.specs.declared.formula.Formula.{Formula}
use Rattle.civl_places.specs.declared.formula.Formula.TheVariants as formula
use Rattle.civl_places.specs.declared.formula.InStatement.{InStatement}
use Rattle.civl_places.specs.declared.formula.InStatement.TheVariants as of_statement
use Rattle.civl_places.specs.Starts.{item_start, proc_starts, statement_start}
use Rattle.civl_places.specs.Formulas.{condition_in, rank_in, invariant_in, argument_in, value_in, in_statement, formula_at}
use Rattle.civl_places.specs.Laws.{FormulasStand}
use Rattle.civl_places.proofs.Standing.{items_begin, statements_begin}
use Rattle.civl_places.proofs.Expressions.{Stands, within, cut, if_map, if_then, list_part, action_part, with_part, thread_part}

-- ---- statements

abbrev layer_tokens : Stmt-F Stmt → List Token
layer_tokens d = stmt_step (map-Stmt Stmt (List Token) spell_stmt d)

spelled : (s : Stmt) → spell_stmt s ≡ layer_tokens (out-Stmt s)
spelled s = ap spell_stmt (sym (roll-out-Stmt s)) ∙ fold-roll-Stmt (List Token) stmt_step (out-Stmt s)

second_cut : (E I rest : List Token) (x y w : Token) → x ∷ y ∷ E ++ (w ∷ I ++ rest) ≡ (x ∷ y ∷ E ++ w ∷ []) ++ (I ++ rest)
second_cut E I rest x y w = simp append_assoc

third_cut : (E R I rest : List Token) (x y v w : Token) → x ∷ y ∷ E ++ (v ∷ R ++ (w ∷ I ++ rest)) ≡ (x ∷ y ∷ E ++ (v ∷ R ++ w ∷ [])) ++ (I ++ rest)
third_cut E R I rest x y v w = simp append_assoc

module _ (all : List Token) where
  -- an expression behind these tokens
  behind : (X : List Token) (at : ℕ) (before : List Token) (e : Expr) (after : List Token) (token : ℕ) → StandAt X all at → X ≡ before ++ (spell_expr e ++ after)
      → token ≡ at + length before → StandAt (spell_expr e) all token
  behind X at before e after token stands parts sum = within X (spell_expr e) all at (length before) token stands (cut before (spell_expr e) after X parts) sum

  condition_part : (d : Stmt-F Stmt) (at : ℕ) → StandAt (layer_tokens d) all at → IfSome (condition_in at d) (Stands all)
  condition_part (Assert fact) at s = behind _ at (Reserved (codes "assert") ∷ []) fact _ _ s refl refl
  condition_part (If test first second) at s = behind _ at (Reserved (codes "if") ∷ []) test _ _ s refl refl
  condition_part (While test body) at s = behind _ at (Reserved (codes "while") ∷ []) test _ _ s refl refl
  condition_part (YieldLoop test inv body) at s = behind _ at (Reserved (codes "while") ∷ Reserved (codes "yield") ∷ []) test _ _ s refl refl
  condition_part (RankLoop test rank inv body) at s = behind _ at (Reserved (codes "while") ∷ Reserved (codes "rank") ∷ []) test _ _ s refl refl
  condition_part _ at s = tt

  rank_part : (d : Stmt-F Stmt) (at : ℕ) → StandAt (layer_tokens d) all at → IfSome (rank_in at d) (Stands all)
  rank_part (RankLoop test rank inv body) at s =
      behind _ at (Reserved (codes "while") ∷ Reserved (codes "rank") ∷ spell_expr test ++ Reserved (codes "by") ∷ []) rank (Reserved (codes "inv") ∷ spell_expr inv ++ block (map spell_stmt body)) _ s
      (second_cut (spell_expr test) (spell_expr rank) (Reserved (codes "inv") ∷ spell_expr inv ++ block (map spell_stmt body)) _ _ _)
      (omega (arith, length-append (spell_expr test) (Reserved (codes "by") ∷ [])))
  rank_part _ at s = tt

  invariant_part : (d : Stmt-F Stmt) (at : ℕ) → StandAt (layer_tokens d) all at → IfSome (invariant_in at d) (Stands all)
  invariant_part (Yield inv) at s = behind _ at (Reserved (codes "yield") ∷ []) inv _ _ s refl refl
  invariant_part (YieldLoop test inv body) at s =
      behind _ at (Reserved (codes "while") ∷ Reserved (codes "yield") ∷ spell_expr test ++ Reserved (codes "inv") ∷ []) inv (block (map spell_stmt body)) _ s
      (second_cut (spell_expr test) (spell_expr inv) (block (map spell_stmt body)) _ _ _)
      (omega (arith, length-append (spell_expr test) (Reserved (codes "inv") ∷ [])))
  invariant_part (RankLoop test rank inv body) at s =
      behind _ at (Reserved (codes "while") ∷ Reserved (codes "rank") ∷ spell_expr test ++ (Reserved (codes "by") ∷ spell_expr rank ++ Reserved (codes "inv") ∷ [])) inv (block (map spell_stmt body)) _ s
      (third_cut (spell_expr test) (spell_expr rank) (spell_expr inv) (block (map spell_stmt body)) _ _ _ _)
      (omega (arith, length-append (spell_expr test) (Reserved (codes "by") ∷ spell_expr rank ++ Reserved (codes "inv") ∷ []), length-append (spell_expr rank) (Reserved (codes "inv") ∷ [])))
  invariant_part _ at s = tt

  argument_part : (d : Stmt-F Stmt) (at number : ℕ) → StandAt (layer_tokens d) all at → IfSome (argument_in at d number) (Stands all)
  argument_part (Call callee args results) at number s =
      list_part all args (at + 2) number (within _ (enclosed spell_expr args) all at 2 _ s (cut (Reserved (codes "call") ∷ name_token callee ∷ []) (enclosed spell_expr args) (arrow ∷ enclosed spell_name results ++ semicolon ∷ []) _ refl) refl)
  argument_part (Spawn callee args) at number s =
      list_part all args (at + 2) number (within _ (enclosed spell_expr args) all at 2 _ s (cut (Reserved (codes "spawn") ∷ name_token callee ∷ []) (enclosed spell_expr args) (semicolon ∷ []) _ refl) refl)
  argument_part _ at number s = tt

  value_part : (d : Stmt-F Stmt) (at : ℕ) → StandAt (layer_tokens d) all at → IfSome (value_in at d) (Stands all)
  value_part (Assign target value) at s = behind _ at (name_token target ∷ becomes ∷ []) value _ _ s refl refl
  value_part (Intro target value) at s = behind _ at (Reserved (codes "intro") ∷ name_token target ∷ becomes ∷ []) value _ _ s refl refl
  value_part _ at s = tt

  statement_part : (stmt : Stmt) (at : ℕ) (part : InStatement) → StandAt (spell_stmt stmt) all at → IfSome (in_statement at stmt part) (Stands all)
  statement_part stmt at part stands =
      let layer = subst (λ (l : List Token). StandAt l all at) (spelled stmt) stands in
      by_part part layer
    where
      by_part : (part : InStatement) → StandAt (layer_tokens (out-Stmt stmt)) all at → IfSome (in_statement at stmt part) (Stands all)
      by_part of_statement.Condition s = condition_part (out-Stmt stmt) at s
      by_part of_statement.Rank s = rank_part (out-Stmt stmt) at s
      by_part of_statement.Invariant s = invariant_part (out-Stmt stmt) at s
      by_part (of_statement.Argument number) s = argument_part (out-Stmt stmt) at number s
      by_part of_statement.Value s = value_part (out-Stmt stmt) at s

-- ---- programs

pub formulas_stand : FormulasStand
formulas_stand p formula.Init =
    behind (spell_program p) (spell_init p.init) (item_start p (init_item p)) (Reserved (codes "init") ∷ []) p.init (semicolon ∷ []) _ (items_begin p (init_item p) (OfInit p.init) ((items_are_numbered p 0).1)) refl refl
formulas_stand p (formula.Invariant place) =
    if_map (Stands (spell_program p)) _ (slice_get p.invariants place) (λ inv found.
    behind (spell_program p) (spell_invariant inv) (item_start p (invariant_item p place)) (Reserved (codes "invariant") ∷ Number inv.step ∷ []) inv.expr (semicolon ∷ []) _
    (items_begin p (invariant_item p place) (OfInvariant inv) ((items_are_numbered p place).2 inv found)) refl refl)
formulas_stand p (formula.Action place part) =
    if_then (Stands (spell_program p)) _ (slice_get p.actions place) (λ action found.
    action_part (spell_program p) action (item_start p (action_item p place)) part (items_begin p (action_item p place) (OfAction action) ((items_are_numbered p place).3 action found)))
formulas_stand p (formula.With place number) =
    if_then (Stands (spell_program p)) _ (slice_get p.procs place) (λ proc found.
    with_part (spell_program p) proc (item_start p (proc_item p place)) number (items_begin p (proc_item p place) (OfProc proc) ((items_are_numbered p place).4 proc found)))
formulas_stand p (formula.Thread place number) =
    if_then (Stands (spell_program p)) _ (slice_get p.threads place) (λ thread found.
    thread_part (spell_program p) thread (item_start p (thread_item p place)) number (items_begin p (thread_item p place) (OfThread thread) ((items_are_numbered p place).5 thread found)))
formulas_stand p (formula.Statement place number part) =
    if_then (Stands (spell_program p)) _ (slice_get p.procs place) (λ proc found.
    if_then (Stands (spell_program p)) _ (statement_at proc.body number) (λ stmt there.
    if_then (Stands (spell_program p)) _ (statement_start p place number) (λ at begins.
    statement_part (spell_program p) stmt at part
    (subst (λ (o : Option ℕ). IsSomeAnd o (StandAt (spell_stmt stmt) (spell_program p))) begins (statements_begin p place number proc stmt found there)))))

-- ---- within the spelling

expr_layer_some : (d : expr.Expr-F (List Token)) → 0 < length (expr_step d)
expr_layer_some (expr.Name n) = omega arith
expr_layer_some (expr.Literal v w) = omega arith
expr_layer_some expr.True = omega arith
expr_layer_some expr.False = omega arith
expr_layer_some expr.Done = omega arith
expr_layer_some (expr.Old n) = omega arith
expr_layer_some expr.OldDone = omega arith
expr_layer_some (expr.One op a) = omega arith
expr_layer_some (expr.Two op a b) = omega arith
expr_layer_some (expr.Pick c a b) = omega arith
expr_layer_some (expr.Get a b) = omega arith
expr_layer_some (expr.Set a b c) = omega arith
expr_layer_some (expr.Fill i a) = omega arith
expr_layer_some (expr.Slice a i j) = omega arith
expr_layer_some (expr.Widen a w) = omega arith
expr_layer_some (expr.Join a b) = omega arith

expr_some : (e : Expr) → 0 < length (spell_expr e)
expr_some e =
    let is : spell_expr e ≡ expr_step (map-Expr Expr (List Token) spell_expr (out-Expr e)) = ap spell_expr (sym (roll-out-Expr e)) ∙ fold-roll-Expr (List Token) expr_step (out-Expr e) in
    rw is (expr_layer_some (map-Expr Expr (List Token) spell_expr (out-Expr e)))

pub formula_within : (p : Program) (f : Formula) (part : Subformula) → formula_at p f ≡ Some part → part.token < length (spell_program p)
formula_within p f part found =
    let stands = subst (λ (o : Option Subformula). IfSome o (Stands (spell_program p))) found (formulas_stand p f) in
    omega (
      arith,
      expr_some part.expr,
      ap length stands.parts,
      stands.place_is,
      length-append stands.before (spell_expr part.expr ++ stands.after),
      length-append (spell_expr part.expr) stands.after,
    )

-- ---- what code comes to

pub in_body : (p : Program) (place number at : ℕ) (part : InStatement) (proc : Proc) (stmt : Stmt) → slice_get p.procs place ≡ Some proc → statement_at proc.body number ≡ Some stmt
    → statement_start p place number ≡ Some at → formula_at p (formula.Statement place number part) ≡ in_statement at stmt part
in_body p place number at part proc stmt found there begins =
    let rest = λ (s : Stmt). option_and_then (λ (k : ℕ). in_statement k s part) (statement_start p place number) in
    ap (option_and_then (λ (x : Proc). option_and_then rest (statement_at x.body number))) found
    ∙ ap (option_and_then rest) there
    ∙ ap (option_and_then (λ (k : ℕ). in_statement k stmt part)) begins

pub no_statement_there : (p : Program) (place number : ℕ) (part : InStatement) (proc : Proc) → slice_get p.procs place ≡ Some proc → statement_at proc.body number ≡ None
    → formula_at p (formula.Statement place number part) ≡ None
no_statement_there p place number part proc found there = rw (found, there) refl

-- what stands in one of some things, where that begins at this token
pub then_is : {A : Type 0} (f : ℕ → A → Option Subformula) (xs : List A) (place at start : ℕ) (x : A) (r : Option Subformula) → slice_get xs place ≡ Some x → at ≡ start
    → r ≡ f at x → r ≡ option_and_then (f start) (slice_get xs place)
then_is f xs place at start x r found begins known = known ∙ ap (λ (n : ℕ). f n x) begins ∙ sym (rw found refl)

pub then_none : {A : Type 0} (f : A → Option Subformula) (xs : List A) (place : ℕ) → (place < length xs → ⊥) → None ≡ option_and_then f (slice_get xs place)
then_none f xs place none = elim (cases_lt place (length xs)) [
  | inl less ↦ absurd (none less)
  | inr past ↦ rw (slice_get_past xs place past) refl
]

pub map_none : {A : Type 0} (f : A → Subformula) (xs : List A) (place : ℕ) → (place < length xs → ⊥) → None ≡ option_map f (slice_get xs place)
map_none f xs place none = elim (cases_lt place (length xs)) [
  | inl less ↦ absurd (none less)
  | inr past ↦ rw (slice_get_past xs place past) refl
]

-- a statement begins only where there is its procedure
pub proc_there : (p : Program) (place number at : ℕ) → statement_start p place number ≡ Some at → place < length p.procs
proc_there p place number at begins = elim (cases_lt place (length p.procs)) [
  | inl less ↦ less
  | inr past ↦ absurd (let none = ap (option_and_then (λ proc. slice_get (proc_starts (item_start p (proc_item p place)) proc) number)) (slice_get_past p.procs place past) in cc)
]

pub no_start : (p : Program) (place number : ℕ) (part : InStatement) → statement_start p place number ≡ None → None ≡ formula_at p (formula.Statement place number part)
no_start p place number part none = by_proc (slice_get p.procs place)
  where
    by_stmt : (o : Option Stmt) → None ≡ option_and_then (λ stmt. option_and_then (λ at. in_statement at stmt part) (statement_start p place number)) o
    by_stmt None = refl
    by_stmt (Some stmt) = rw none refl

    by_proc : (o : Option Proc) → None ≡ option_and_then (λ proc. option_and_then (λ stmt. option_and_then (λ at. in_statement at stmt part) (statement_start p place number)) (statement_at proc.body number)) o
    by_proc None = refl
    by_proc (Some proc) = by_stmt (statement_at proc.body number)

-- a statement stands in the program
pub statement_fits : (p : Program) (place number at : ℕ) (proc : Proc) (stmt : Stmt) → slice_get p.procs place ≡ Some proc → statement_at proc.body number ≡ Some stmt
    → statement_start p place number ≡ Some at → at + length (spell_stmt stmt) ≤ length (spell_program p)
statement_fits p place number at proc stmt found there begins =
    let stands = subst (λ (o : Option ℕ). IsSomeAnd o (StandAt (spell_stmt stmt) (spell_program p))) begins (statements_begin p place number proc stmt found there) in
    omega (arith, ap length stands.parts, stands.place_is, length-append stands.before (spell_stmt stmt ++ stands.after), length-append (spell_stmt stmt) stands.after)

-- what a search says of the statement that it finds
pub said : (o : Option Stmt) (found : Bor Stmt) → MatchOption o (Some found ≡ None) (λ s. found.now ≡ s) → o ≡ Some found.now
said None found h = absurd (let none = h in cc)
said (Some s) found h = ap (λ (x : Stmt). Some x) (sym h)
