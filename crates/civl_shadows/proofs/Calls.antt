-- Calls that make a frame, and those that don't, where they are challenged.
use Rattle.std.proofs.Common.{◌≡◌, ℕ, Bool, true, false, not, List, refl, sym, ap, ◌∙◌, Option, Some, None, slice_get}
use Rattle.std.specs.Prelude.{if◌then◌else◌}
use Rattle.civl_bits.specs.declared.value.Value.{Value}
use Rattle.civl_tree.specs.declared.action.Action.{Action}
use Rattle.civl_tree.specs.declared.name.Name.{Name}
use Rattle.civl_tree.specs.declared.program.Proc.{Proc}
use Rattle.civl_tree.specs.rules.Names.{action_named}
use Rattle.civl_firing.specs.declared.store.Store.{Store}
use Rattle.civl_meaning.specs.declared.config.Activation.{Activation}
use Rattle.civl_meaning.specs.declared.config.Plain.{Plain}
use Rattle.civl_tree.specs.declared.stmt.Stmt.{Stmt, out-Stmt}
use Rattle.civl_meaning.specs.Change.{new_frame, outs_in, call_doing, statement_doing, leaving, spot_doing, proc_doing}
use Rattle.civl_meaning.specs.Places.{Spot, spot_at}
use Rattle.civl_meaning.specs.Meaning.{Meaning, Runs, meaning_by, meaning_of, meaning_else, called, proc_number}
use Rattle.civl_conditions.specs.Steps.{has_layer}
use Rattle.civl_reduction.specs.blocks.Blocks.{framed_in}
use Rattle.civl_reduction.specs.blocks.Challenged.{allows, refuses, call_challenged}
use Rattle.civl_meaning.specs.inner.Left.{stmt_of}
use Rattle.std.proofs.lemmas.Option.{none-some, same_Some}

-- of what is called, whatever stands around the call
abbrev pub Says : Plain → ℕ → Store → ℕ → List Value → Bool → Type 0
Says plain layer store number args b = (names : List Name) (locals : List Value) (results : List Name) (at next : ℕ) → b ≡ call_challenged plain.program layer store (call_doing names locals results at next (meaning_of plain number) args)

module _ (plain : Plain) (layer : ℕ) (store : Store) (number : ℕ) (proc : Proc) (args : List Value) (body : slice_get plain.bodies number ≡ Some true) (there : slice_get plain.program.procs number ≡ Some proc) where
  runs : meaning_of plain number ≡ Runs number proc
  runs = ap (λ (b : Option Bool). meaning_by plain.program b number (slice_get plain.program.procs number)) body ∙ ap (meaning_by plain.program (Some true) number) there

  abbrev frame : Activation
  frame = new_frame number proc args

  pub runs_so : (b : Bool) → has_layer layer proc ≡ true → b ≡ not (allows plain.program store proc (new_frame number proc args).locals) → Says plain layer store number args b
  runs_so b l e names locals results at next =
      e ∙ sym (ap (λ (m : Meaning). call_challenged plain.program layer store (call_doing names locals results at next m args)) runs
      ∙ (ap (λ (o : Option Proc). refuses plain.program store (framed_in layer (new_frame number proc args) o)) there
      ∙ ap (λ (x : Bool). refuses plain.program store (if◌then◌else◌ {A = Option (Proc × Activation)} x (Some (proc, new_frame number proc args)) None)) l))

pub named_so : (plain : Plain) (layer : ℕ) (store : Store) (name : Name) (number : ℕ) (args : List Value) (b : Bool) → action_named plain.program name ≡ None → number ≡ proc_number plain.program name → Says plain layer store number args b
    → (names : List Name) (locals : List Value) (results : List Name) (at next : ℕ) → b ≡ call_challenged plain.program layer store (call_doing names locals results at next (called plain name) args)
named_so plain layer store name number args b none is says names locals results at next =
    says names locals results at next
    ∙ sym (ap (λ (o : Option Action). call_challenged plain.program layer store (call_doing names locals results at next (meaning_else plain name o) args)) none
    ∙ ap (λ (n : ℕ). call_challenged plain.program layer store (call_doing names locals results at next (meaning_of plain n) args)) (sym is))

pub action_so : (plain : Plain) (layer : ℕ) (store : Store) (name : Name) (action : Action) (args : List Value) → action_named plain.program name ≡ Some action
    → (names : List Name) (locals : List Value) (results : List Name) (at next : ℕ) → false ≡ call_challenged plain.program layer store (call_doing names locals results at next (called plain name) args)
action_so plain layer store name action args there names locals results at next =
    sym (ap (λ (o : Option Action). call_challenged plain.program layer store (call_doing names locals results at next (meaning_else plain name o) args)) there)

-- ---- the topmost frame

module _ (plain : Plain) (layer : ℕ) (store : Store) (frame : Activation) (proc : Proc) (there : slice_get plain.program.procs frame.procedure ≡ Some proc) where
  abbrev Does : Option Activation → Bool
  Does caller = call_challenged plain.program layer store (proc_doing plain caller frame (slice_get plain.program.procs frame.procedure))

  at_spot : (caller : Option Activation) (o : Option Spot) → spot_at proc.body frame.place ≡ o → Does caller ≡ call_challenged plain.program layer store (spot_doing plain caller frame proc o)
  at_spot caller o e =
      ap (λ (p : Option Proc). call_challenged plain.program layer store (proc_doing plain caller frame p)) there
      ∙ ap (λ (x : Option Spot). call_challenged plain.program layer store (spot_doing plain caller frame proc x)) e

  pub frame_none : (caller : Option Activation) → stmt_of (spot_at proc.body frame.place) ≡ None → false ≡ Does caller
  frame_none caller = go (spot_at proc.body frame.place) refl
    where
      by_caller : (c : Option Activation) → call_challenged plain.program layer store (leaving plain (outs_in proc frame.locals) c) ≡ false
      by_caller None = refl
      by_caller (Some f) = refl

      go : (o : Option Spot) → spot_at proc.body frame.place ≡ o → stmt_of o ≡ None → false ≡ Does caller
      go None e h = sym (at_spot caller None e ∙ by_caller caller)
      go (Some s) e h = absurd (none-some s.stmt (sym h))

  pub frame_some : (caller : Option Activation) (st : Stmt) (b : Bool) → stmt_of (spot_at proc.body frame.place) ≡ Some st
      → ((at next : ℕ) → b ≡ call_challenged plain.program layer store (statement_doing plain proc frame.locals at next (out-Stmt st))) → b ≡ Does caller
  frame_some caller st b h says = go (spot_at proc.body frame.place) refl h
    where
      go : (o : Option Spot) → spot_at proc.body frame.place ≡ o → stmt_of o ≡ Some st → b ≡ Does caller
      go None e q = absurd (none-some st q)
      go (Some s) e q =
          says s.number s.next
          ∙ (ap (λ (x : Stmt). call_challenged plain.program layer store (statement_doing plain proc frame.locals s.number s.next (out-Stmt x))) (sym (same_Some s.stmt st q))
          ∙ sym (at_spot caller (Some s) e))
