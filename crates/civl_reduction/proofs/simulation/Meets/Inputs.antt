-- What a frame of a procedure of a layer does next, in the program of the layer below: it stays in its body, with its parameters
-- as they are, until it is removed.
use Rattle.std.proofs.Common.{◌≡◌, ℕ, ◌+◌, Bool, true, false, List, refl, sym, ◌∙◌, subst, arith, length, Option, None, Some, slice_get}
use Rattle.std.specs.Prelude.{is_none, nat_eq, if◌then◌else◌}
use Rattle.std.proofs.lemmas.Bool.{true≢false, not-false, or_parts, eqb-true}
use Rattle.std.proofs.lemmas.Option.{none-some}
use Rattle.civl_bits.specs.declared.value.Value.{Value}
use Rattle.civl_firing.specs.values.Values.{is_true}
use Rattle.civl_tree.specs.declared.name.Name.{Name}
use Rattle.civl_tree.specs.declared.expr.Expr.{Expr}
use Rattle.civl_tree.specs.declared.program.Proc.{Proc}
use Rattle.civl_tree.specs.declared.program.Refines.{Refines}
use Rattle.civl_tree.specs.declared.program.Program.{Program}
use Rattle.civl_tree.specs.declared.stmt.Stmt.{Stmt, out-Stmt}
use Rattle.civl_tree.specs.declared.stmt.Stmt.TheOpen as stmt
use Rattle.civl_tree.specs.Numbering.{statement_at}
use Rattle.civl_tree.specs.rules.Rules.{Keeps}
use Rattle.civl_tree.specs.rules.Names.{Signature, callee_signature, names_in_proc}
use Rattle.civl_tree.specs.rules.Arity.{call_arity, form_arity, stmt_arity}
use Rattle.civl_tree.specs.rules.Unknown.{form_unknown, any_unknown, stmt_unknown}
use Rattle.civl_tree.specs.rules.Uses.{form_uses}
use Rattle.civl_tree.specs.rules.Typing.{typing_rules, unknown_rule, arity_rule}
use Rattle.civl_tree.proofs.Kept.{statement_kept, unknown_among, arity_among}
use Rattle.civl_firing.specs.Eval.{value_of, values_of}
use Rattle.civl_firing.specs.Scope.{frame_values}
use Rattle.civl_meaning.specs.declared.config.Plain.{Plain}
use Rattle.civl_meaning.specs.declared.config.Activation.{Activation}
use Rattle.civl_meaning.specs.Places.{Spot, spot_at}
use Rattle.civl_meaning.specs.Meaning.{Meaning, Does, Runs, Missing, called}
use Rattle.civl_meaning.specs.Change.{with_results, outs_in, Doing, call_doing, statement_doing, leaving, spot_doing}
use Rattle.civl_meaning.specs.Layers.{program_at}
use Rattle.civl_layers.specs.Layered.{IsLayered}
use Rattle.civl_linear.specs.LinearRules.{linear_rules, assigned_rule}
use Rattle.civl_linear.specs.Places.{is_param, may_get, call_misgiven, form_assigned, stmt_assigned}
use Rattle.civl_yields.specs.YieldRules.{yield_rules}
use Rattle.civl_conditions.specs.Steps.{has_layer}
use Rattle.civl_conditions.specs.Assumed.{inputs_of}
use Rattle.civl_conditions.proofs.Layered.{layered_by}
use Rattle.civl_meaning.specs.Change as does
use Rattle.civl_reduction.proofs.permissions.Results.{set_kept, results_kept}
use Rattle.civl_reduction.proofs.blocks.Standing.Below.{calls_no_body}
use Rattle.civl_reduction.proofs.blocks.Standing.Going.{roots_alone}
use Rattle.civl_reduction.proofs.blocks.Standing.Spots.{stands_there}

-- what a frame with these locals does: it goes on with the same parameters, or is removed as this says
abbrev pub StaysIn : Proc → List Value → Doing → Doing → Type 0
StaysIn proc locals away (does.Goes after place) = inputs_of proc after ≡ inputs_of proc locals
StaysIn proc locals away (does.Calls names kept results next action args) = (outs : List Value) → inputs_of proc (with_results names kept results outs) ≡ inputs_of proc locals
StaysIn proc locals away (does.Leaves o) = away ≡ does.Leaves o
StaysIn proc locals away (does.Enters frame place) = ⊥
StaysIn proc locals away (does.Spawns thread place) = ⊥
StaysIn proc locals away does.Fails = Unit {0}
StaysIn proc locals away does.Waits = Unit {0}
StaysIn proc locals away does.Ends = Unit {0}

module _ (program : Program) (layer : ℕ) (src : IsLayered program) (linear : Keeps linear_rules program) (yields : Keeps yield_rules program)
    (number : ℕ) (proc : Proc) (there : slice_get program.procs number ≡ Some proc) (layered : has_layer (layer + 1) proc ≡ true) (locals : List Value) (away : Doing) where
  abbrev plain : Plain
  plain = program_at program layer

  refines : (r : Refines) × (proc.refines ≡ Some r) × (r.layer ≡ layer + 1)
  refines = layered_by (layer + 1) proc.refines layered

  -- results of a call with this signature
  results_stay : (es : List Expr) (rs : List Name) (o : Option Signature) → is_none o ≡ false → call_arity es rs o ≡ false → call_misgiven proc o rs ≡ false
      → (outs : List Value) → inputs_of proc (with_results (names_in_proc proc) locals rs outs) ≡ inputs_of proc locals
  results_stay es rs None u a m outs = absurd (true≢false u)
  results_stay es rs (Some signature) u a m outs =
      let counts = or_parts _ _ a in
      results_kept proc signature.outs rs outs locals (eqb-true (length rs) (length signature.outs) (not-false (nat_eq (length rs) (length signature.outs)) counts.1)) m

  module _ (place : ℕ) (s : Stmt) (here : statement_at proc.body place ≡ Some s) (next : ℕ) where
    assigned : form_assigned program proc (out-Stmt s) ≡ false
    assigned = statement_kept linear_rules program linear assigned_rule (3, omega arith, refl) (stmt_assigned program proc) number proc there refl place s here

    known : form_unknown program proc (out-Stmt s) ≡ false
    known = (or_parts (form_unknown program proc (out-Stmt s)) (any_unknown (form_uses program proc (out-Stmt s))) (statement_kept typing_rules program src.rules unknown_rule unknown_among (stmt_unknown program proc) number proc there refl place s here)).0

    counted : form_arity program (out-Stmt s) ≡ false
    counted = statement_kept typing_rules program src.rules arity_rule arity_among (stmt_arity program) number proc there refl place s here

    by_call : (f : Name) (es : List Expr) (rs : List Name) → out-Stmt s ≡ stmt.Call f es rs → ((outs : List Value) → inputs_of proc (with_results (names_in_proc proc) locals rs outs) ≡ inputs_of proc locals)
        → (m : Meaning) → called plain f ≡ m → (args : List Value) → StaysIn proc locals away (call_doing (names_in_proc proc) locals rs place next m args)
    by_call f es rs form h (Does action) e args = h
    by_call f es rs form h (Runs n p) e args =
        let r = refines in
        let low = r.2 in
        absurd (calls_no_body program layer src number proc r.0 there r.1 (omega (arith, low)) place s here f es rs form n p e)
    by_call f es rs form h Missing e args = tt

    by_assert : (b : Bool) → StaysIn proc locals away (if b then does.Goes locals next else does.Fails)
    by_assert true = refl
    by_assert false = tt

    by_form : (d : stmt.Stmt-F Stmt) → out-Stmt s ≡ d → StaysIn proc locals away (statement_doing plain proc locals place next d)
    by_form (stmt.Assign x e) form =
        set_kept proc x locals (value_of (frame_values program.globals proc locals) e) (or_parts (may_get proc x) (is_param proc x) (subst (λ (d : stmt.Stmt-F Stmt). form_assigned program proc d ≡ false) form assigned)).1
    by_form (stmt.Assert e) form = by_assert (is_true (value_of (frame_values program.globals proc locals) e))
    by_form (stmt.Call f es rs) form =
        by_call f es rs form
        (results_stay es rs (callee_signature program f)
        (or_parts (is_none (callee_signature program f)) _ (subst (λ (d : stmt.Stmt-F Stmt). form_unknown program proc d ≡ false) form known)).0
        (subst (λ (d : stmt.Stmt-F Stmt). form_arity program d ≡ false) form counted)
        (subst (λ (d : stmt.Stmt-F Stmt). form_assigned program proc d ≡ false) form assigned))
        (called plain f) refl (values_of (frame_values program.globals proc locals) es)
    by_form (stmt.If e a b) form = refl
    by_form (stmt.While e a) form = refl
    by_form (stmt.YieldLoop e i a) form = refl
    by_form (stmt.RankLoop e r i a) form = refl
    by_form (stmt.Spawn f es) form = absurd (none-some refines.0 (sym (roots_alone program yields number proc there place s here f es form) ∙ refines.1))
    by_form (stmt.Yield e) form = tt
    by_form stmt.Commit form = tt
    by_form (stmt.Intro x e) form = tt

-- what it does next
pub stays_in : (program : Program) (layer : ℕ) → IsLayered program → Keeps linear_rules program → Keeps yield_rules program → (frame : Activation) (proc : Proc) → slice_get program.procs frame.procedure ≡ Some proc → has_layer (layer + 1) proc ≡ true
    → (caller : Option Activation) → StaysIn proc frame.locals (leaving (program_at program layer) (outs_in proc frame.locals) caller) (spot_doing (program_at program layer) caller frame proc (spot_at proc.body frame.place))
stays_in program layer src linear yields frame proc there layered caller = go (spot_at proc.body frame.place) refl
  where
    by_caller : (o : Option Activation) → StaysIn proc frame.locals (leaving (program_at program layer) (outs_in proc frame.locals) o) (leaving (program_at program layer) (outs_in proc frame.locals) o)
    by_caller None = refl
    by_caller (Some f) = refl

    go : (o : Option Spot) → spot_at proc.body frame.place ≡ o → StaysIn proc frame.locals (leaving (program_at program layer) (outs_in proc frame.locals) caller) (spot_doing (program_at program layer) caller frame proc o)
    go None e = by_caller caller
    go (Some s) e =
        by_form program layer src linear yields frame.procedure proc there layered frame.locals (leaving (program_at program layer) (outs_in proc frame.locals) caller)
        s.number s.stmt (stands_there program proc.body frame.place s e) s.next (out-Stmt s.stmt) refl
