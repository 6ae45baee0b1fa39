-- What calls and frames offer.
use Rattle.std.proofs.Common.{◌≡◌, ℕ, List, [], refl, sym, ap, ◌∙◌, Option, Some, None, slice_get}
use Rattle.std.proofs.lemmas.Option.{none-some, same_Some}
use Rattle.civl_bits.specs.declared.value.Value.{Value}
use Rattle.civl_tree.specs.declared.name.Name.{Name}
use Rattle.civl_tree.specs.declared.program.Proc.{Proc}
use Rattle.civl_tree.specs.declared.stmt.Stmt.{Stmt, out-Stmt}
use Rattle.civl_firing.specs.declared.store.Store.{Store}
use Rattle.civl_meaning.specs.declared.config.Activation.{Activation}
use Rattle.civl_meaning.specs.declared.config.Plain.{Plain}
use Rattle.civl_meaning.specs.Change.{outs_in, call_doing, statement_doing, leaving, spot_doing, proc_doing}
use Rattle.civl_meaning.specs.Places.{Spot, spot_at}
use Rattle.civl_meaning.specs.Meaning.{Meaning, Does, Runs, Missing}
use Rattle.civl_reduction.specs.gathered.Offered.{offers_of}
use Rattle.civl_meaning.specs.inner.Left.{stmt_of}
use Rattle.civl_conditions.specs.paths.Choices.{action_meant}
use Rattle.civl_blocked.specs.inner.Offering.{offers_in}

pub call_so : (plain : Plain) (store : Store) (names : List Name) (locals : List Value) (results : List Name) (at next : ℕ) (m : Meaning) (args : List Value)
    → offers_in plain.program.globals store (action_meant m) args ≡ offers_of plain.program.globals store (call_doing names locals results at next m args)
call_so plain store names locals results at next (Does action) args = refl
call_so plain store names locals results at next (Runs number proc) args = refl
call_so plain store names locals results at next Missing args = refl

module _ (plain : Plain) (store : Store) (frame : Activation) (proc : Proc) (there : slice_get plain.program.procs frame.procedure ≡ Some proc) where
  abbrev Does_so : Option Activation → List Value
  Does_so caller = offers_of plain.program.globals store (proc_doing plain caller frame (slice_get plain.program.procs frame.procedure))

  at_spot : (caller : Option Activation) (o : Option Spot) → spot_at proc.body frame.place ≡ o → Does_so caller ≡ offers_of plain.program.globals store (spot_doing plain caller frame proc o)
  at_spot caller o e =
      ap (λ (p : Option Proc). offers_of plain.program.globals store (proc_doing plain caller frame p)) there
      ∙ ap (λ (x : Option Spot). offers_of plain.program.globals store (spot_doing plain caller frame proc x)) e

  pub frame_none : (caller : Option Activation) → stmt_of (spot_at proc.body frame.place) ≡ None → [] ≡ Does_so caller
  frame_none caller = go (spot_at proc.body frame.place) refl
    where
      by_caller : (c : Option Activation) → offers_of plain.program.globals store (leaving plain (outs_in proc frame.locals) c) ≡ []
      by_caller None = refl
      by_caller (Some f) = refl

      go : (o : Option Spot) → spot_at proc.body frame.place ≡ o → stmt_of o ≡ None → [] ≡ Does_so caller
      go None e h = sym (at_spot caller None e ∙ by_caller caller)
      go (Some s) e h = absurd (none-some s.stmt (sym h))

  pub frame_some : (caller : Option Activation) (st : Stmt) (vs : List Value) → stmt_of (spot_at proc.body frame.place) ≡ Some st
      → ((at next : ℕ) → vs ≡ offers_of plain.program.globals store (statement_doing plain proc frame.locals at next (out-Stmt st))) → vs ≡ Does_so caller
  frame_some caller st vs h says = go (spot_at proc.body frame.place) refl h
    where
      go : (o : Option Spot) → spot_at proc.body frame.place ≡ o → stmt_of o ≡ Some st → vs ≡ Does_so caller
      go None e q = absurd (none-some st q)
      go (Some s) e q =
          says s.number s.next
          ∙ (ap (λ (x : Stmt). offers_of plain.program.globals store (statement_doing plain proc frame.locals s.number s.next (out-Stmt x))) (sym (same_Some s.stmt st q))
          ∙ sym (at_spot caller (Some s) e))
