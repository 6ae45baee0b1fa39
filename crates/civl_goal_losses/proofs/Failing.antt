-- What fails where a statement is found.
use Rattle.std.proofs.Common.{◌≡◌, ◌∙◌, ℕ, Bool, true, false, List, Result, Ok, Err, refl, ap, sym}
use Rattle.std.specs.Prelude.{IfOk, Option, None, Some, option_and_then, slice_get, if◌then◌else◌}
use Rattle.std.proofs.lemmas.Option.{same_Some}
use Rattle.civl_bits.specs.declared.value.Value.{Value}
use Rattle.civl_tree.specs.declared.action.Action.{Action}
use Rattle.civl_tree.specs.declared.expr.Expr.{Expr}
use Rattle.civl_tree.specs.declared.name.Name.{Name}
use Rattle.civl_tree.specs.declared.program.Proc.{Proc}
use Rattle.civl_tree.specs.declared.program.Program.{Program}
use Rattle.civl_tree.specs.declared.stmt.Stmt.{Stmt, out-Stmt}
use Rattle.civl_firing.specs.declared.store.Store.{Store}
use Rattle.civl_meaning.specs.declared.config.Activation.{Activation}
use Rattle.civl_meaning.specs.Change as doing
use Rattle.civl_meaning.specs.Layers.{topmost}
use Rattle.civl_meaning.specs.Meaning.{Meaning, Does, Runs, Missing}
use Rattle.civl_meaning.specs.Places.{Spot, spot_at}
use Rattle.civl_meaning.specs.inner.Left.{stmt_of}
use Rattle.civl_conditions.specs.paths.Choices.{action_meant}
use Rattle.civl_goal_losses.specs.declared.losses.Fault.{Fault}
use Rattle.civl_goal_losses.specs.declared.losses.Fault.TheVariants.{FalseAssert}
use Rattle.civl_goal_losses.specs.GoalLosses.{fault, gate_fault, doing_at}
use Rattle.civl_goal_losses.specs.inner.Faults.{assert_fault, proc_fault}

pub ok_map : {A E : Type 0} (P Q : A → Type 0) (r : Result A E) → ((x : A) → P x → Q x) → IfOk r P → IfOk r Q
ok_map P Q (Ok x) f h = f x h
ok_map P Q (Err e) f h = tt

module _ (program : Program) (g : Store) where
  -- a call fails by what it means
  meant_fails : (names : List Name) (locals : List Value) (results : List Name) (at next : ℕ) (m : Meaning) (args : List Value)
      → option_and_then (λ (a : Action). gate_fault program g a args) (action_meant m) ≡ fault program g (doing.call_doing names locals results at next m args)
  meant_fails names locals results at next (Does action) args = refl
  meant_fails names locals results at next (Runs number proc) args = refl
  meant_fails names locals results at next Missing args = refl

  pub call_fails : (names : List Name) (locals : List Value) (results : List Name) (at next : ℕ) (m : Meaning) (o : Option Action) → o ≡ action_meant m → (args : List Value)
      → option_and_then (λ (a : Action). gate_fault program g a args) o ≡ fault program g (doing.call_doing names locals results at next m args)
  call_fails names locals results at next m o e args =
      ap (λ (p : Option Action). option_and_then (λ (a : Action). gate_fault program g a args) p) e ∙ meant_fails names locals results at next m args

  by_truth : (b : Bool) (locals : List Value) (next : ℕ) → if◌then◌else◌ {A = Option Fault} b None (Some FalseAssert) ≡ fault program g (if◌then◌else◌ {A = doing.Doing} b (doing.Goes locals next) doing.Fails)
  by_truth true locals next = refl
  by_truth false locals next = refl

  pub assert_fails : (proc : Proc) (locals : List Value) (next : ℕ) (e : Expr) → assert_fault program proc locals e
      ≡ fault program g (if◌then◌else◌ {A = doing.Doing} (doing.is_true_in (topmost program) proc locals e) (doing.Goes locals next) doing.Fails)
  assert_fails proc locals next e = by_truth (doing.is_true_in (topmost program) proc locals e) locals next

  module _ (frame : Activation) (proc : Proc) where
    none_there : (o : Option Spot) → stmt_of o ≡ None → None ≡ fault program g (doing.spot_doing (topmost program) None frame proc o)
    none_there None e = refl
    none_there (Some s) e = absurd cc

    pub nothing_fails : stmt_of (spot_at proc.body frame.place) ≡ None → None ≡ proc_fault program g frame proc
    nothing_fails e = none_there (spot_at proc.body frame.place) e

    one_there : (stmt : Stmt) (f : Option Fault) → ((at next : ℕ) → f ≡ fault program g (doing.statement_doing (topmost program) proc frame.locals at next (out-Stmt stmt)))
        → (o : Option Spot) → stmt_of o ≡ Some stmt → f ≡ fault program g (doing.spot_doing (topmost program) None frame proc o)
    one_there stmt f h None e = absurd cc
    one_there stmt f h (Some s) e =
        h s.number s.next ∙ ap (λ (t : Stmt). fault program g (doing.statement_doing (topmost program) proc frame.locals s.number s.next (out-Stmt t))) (sym (same_Some s.stmt stmt e))

    pub stmt_fails : (stmt : Stmt) (f : Option Fault) → ((at next : ℕ) → f ≡ fault program g (doing.statement_doing (topmost program) proc frame.locals at next (out-Stmt stmt)))
        → stmt_of (spot_at proc.body frame.place) ≡ Some stmt → f ≡ proc_fault program g frame proc
    stmt_fails stmt f h e = one_there stmt f h (spot_at proc.body frame.place) e

  pub proc_fails : (frame : Activation) (proc : Proc) → slice_get program.procs frame.procedure ≡ Some proc → proc_fault program g frame proc ≡ fault program g (doing_at program frame)
  proc_fails frame proc e = sym (ap (λ (o : Option Proc). fault program g (doing.proc_doing (topmost program) None frame o)) e)

  pub no_proc_fails : (frame : Activation) → slice_get program.procs frame.procedure ≡ None → None ≡ fault program g (doing_at program frame)
  no_proc_fails frame e = sym (ap (λ (o : Option Proc). fault program g (doing.proc_doing (topmost program) None frame o)) e)
