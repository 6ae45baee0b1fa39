-- A step of a frame leaves its parameters.
use Rattle.std.proofs.Common.{◌≡◌, ℕ, Bool, true, false, List, Option, None, Some, refl, arith}
use Rattle.std.specs.Prelude.{slice_get, take, length, is_none, nat_eq, if◌then◌else◌}
use Rattle.std.proofs.lemmas.Bool.{or_parts, not-false, eqb-true, true≢false}
use Rattle.civl_bits.specs.declared.value.Value.{Value}
use Rattle.civl_tree.specs.declared.name.Name.{Name}
use Rattle.civl_tree.specs.declared.expr.Expr.{Expr}
use Rattle.civl_tree.specs.declared.program.Proc.{Proc}
use Rattle.civl_tree.specs.declared.program.Program.{Program}
use Rattle.civl_tree.specs.declared.stmt.Stmt.{Stmt, out-Stmt}
use Rattle.civl_tree.specs.declared.stmt.Stmt.TheOpen as stmt
use Rattle.civl_tree.specs.Numbering.{statement_at}
use Rattle.civl_tree.specs.rules.Rules.{Keeps}
use Rattle.civl_tree.specs.rules.Names.{Signature, callee_signature, names_in_proc}
use Rattle.civl_tree.specs.rules.Arity.{call_arity, form_arity, stmt_arity}
use Rattle.civl_tree.specs.rules.Unknown.{form_unknown, any_unknown, stmt_unknown}
use Rattle.civl_tree.specs.rules.Uses.{form_uses}
use Rattle.civl_tree.specs.rules.Typing.{typing_rules, unknown_rule, arity_rule}
use Rattle.civl_tree.proofs.Kept.{statement_kept, unknown_among, arity_among}
use Rattle.civl_firing.specs.declared.store.Store.{Store}
use Rattle.civl_firing.specs.declared.firing.Fired.{Fired}
use Rattle.civl_firing.specs.declared.firing.Fired.TheVariants as fire
use Rattle.civl_firing.specs.Eval.{value_of, values_of}
use Rattle.civl_firing.specs.Scope.{frame_values}
use Rattle.civl_firing.specs.Fired.{gate_holds, choices_fit, fired}
use Rattle.civl_firing.specs.values.Values.{is_true}
use Rattle.civl_meaning.specs.declared.config.Plain.{Plain}
use Rattle.civl_meaning.specs.declared.config.Stepped.TheVariants as answer
use Rattle.civl_meaning.specs.declared.config.Change.{Change}
use Rattle.civl_meaning.specs.declared.config.Change.TheVariants.{Stays, Goes, Acts}
use Rattle.civl_meaning.specs.Meaning.{Meaning, Does, Runs, Missing, called}
use Rattle.civl_meaning.specs.Change.{with_results, acted, done_by, call_doing, statement_doing}
use Rattle.civl_meaning.specs.Change as does
use Rattle.civl_linear.specs.LinearRules.{linear_rules, assigned_rule}
use Rattle.civl_linear.specs.Places.{is_param, may_get, call_misgiven, form_assigned, stmt_assigned}
use Rattle.civl_reduction.proofs.permissions.Results.{set_kept, results_kept}

module _ (proc : Proc) (locals : List Value) where
  abbrev pub InputsStay : Change → Type 0
  InputsStay (Goes after place) = take (length proc.params) after ≡ take (length proc.params) locals
  InputsStay (Acts store after place) = take (length proc.params) after ≡ take (length proc.params) locals
  InputsStay _ = Unit {0}

  -- results of a call with this signature
  abbrev ResultsStay : List Name → Type 0
  ResultsStay rs = (outs : List Value) → take (length proc.params) (with_results (names_in_proc proc) locals rs outs) ≡ take (length proc.params) locals

  by_assert : (plain : Plain) (store : Store) (chosen : List Value) (b : Bool) (p : ℕ) → InputsStay (done_by plain store chosen (if b then does.Goes locals p else does.Fails))
  by_assert plain store chosen true p = refl
  by_assert plain store chosen false p = tt

  by_fired : (rs : List Name) (p : ℕ) (f : Fired) → ResultsStay rs → InputsStay (acted (names_in_proc proc) locals rs p f)
  by_fired rs p fire.GateFalse h = tt
  by_fired rs p fire.Blocked h = tt
  by_fired rs p (fire.Moved g outs) h = h outs

  by_tests : (gate fit : Bool) (rs : List Name) (p : ℕ) (f : Fired) → ResultsStay rs → InputsStay (if gate then (if fit then acted (names_in_proc proc) locals rs p f else Stays answer.BadChoices) else Stays answer.Failing)
  by_tests true true rs p f h = by_fired rs p f h
  by_tests true false rs p f h = tt
  by_tests false fit rs p f h = tt

  by_call : (plain : Plain) (store : Store) (chosen : List Value) (m : Meaning) (rs : List Name) (args : List Value) (n p : ℕ) → ResultsStay rs → InputsStay (done_by plain store chosen (call_doing (names_in_proc proc) locals rs n p m args))
  by_call plain store chosen (Does action) rs args n p h = by_tests (gate_holds plain.program.globals store action args) (choices_fit action chosen) rs p (fired plain.program.globals store action args chosen) h
  by_call plain store chosen (Runs number callee) rs args n p h = tt
  by_call plain store chosen Missing rs args n p h = tt

  results_stay : (es : List Expr) (rs : List Name) (o : Option Signature) → is_none o ≡ false → call_arity es rs o ≡ false → call_misgiven proc o rs ≡ false → ResultsStay rs
  results_stay es rs None u a m outs = absurd (true≢false u)
  results_stay es rs (Some signature) u a m outs =
      let counts = or_parts _ _ a in
      results_kept proc signature.outs rs outs locals (eqb-true (length rs) (length signature.outs) (not-false (nat_eq (length rs) (length signature.outs)) counts.1)) m

  module _ (program : Program) (plain : Plain) (store : Store) (chosen : List Value) (n p : ℕ) where
    by_form : (d : stmt.Stmt-F Stmt) → form_assigned program proc d ≡ false → form_unknown program proc d ≡ false → form_arity program d ≡ false → plain.program ≡ program → InputsStay (done_by plain store chosen (statement_doing plain proc locals n p d))
    by_form (stmt.Assign x e) g u a same = set_kept proc x locals (value_of (frame_values plain.program.globals proc locals) e) (or_parts (may_get proc x) (is_param proc x) g).1
    by_form (stmt.Assert e) g u a same = by_assert plain store chosen (is_true (value_of (frame_values plain.program.globals proc locals) e)) p
    by_form (stmt.Call f es rs) g u a same =
        by_call plain store chosen (called plain f) rs (values_of (frame_values plain.program.globals proc locals) es) n p
        (results_stay es rs (callee_signature program f) (or_parts (is_none (callee_signature program f)) _ u).0 a g)
    by_form (stmt.If e x y) g u a same = refl
    by_form (stmt.While e x) g u a same = refl
    by_form (stmt.YieldLoop e i x) g u a same = refl
    by_form (stmt.RankLoop e r i x) g u a same = refl
    by_form _ g u a same = tt

-- a step of this procedure's frame
pub inputs_stay : (program : Program) (layered : Keeps typing_rules program) (linear : Keeps linear_rules program) (q : ℕ) (proc : Proc) → slice_get program.procs q ≡ Some proc → (number : ℕ) (s : Stmt) → statement_at proc.body number ≡ Some s
    → (plain : Plain) → plain.program ≡ program → (store : Store) (chosen locals : List Value) (n p : ℕ) → InputsStay proc locals (done_by plain store chosen (statement_doing plain proc locals n p (out-Stmt s)))
inputs_stay program layered linear q proc there number s at plain same store chosen locals n p =
    by_form proc locals program plain store chosen n p (out-Stmt s)
    (statement_kept linear_rules program linear assigned_rule (3, omega arith, refl) (stmt_assigned program proc) q proc there refl number s at)
    (or_parts (form_unknown program proc (out-Stmt s)) (any_unknown (form_uses program proc (out-Stmt s))) (statement_kept typing_rules program layered unknown_rule unknown_among (stmt_unknown program proc) q proc there refl number s at)).0
    (statement_kept typing_rules program layered arity_rule arity_among (stmt_arity program) q proc there refl number s at)
    same
