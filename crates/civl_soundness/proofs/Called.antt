-- What a call means has the sorts of its callee's signature.
use Rattle.std.proofs.Common.{◌≡◌, ℕ, Bool, true, false, List, map, refl, sym, ap, ◌∙◌, subst, Option, Some, None, slice_get}
use Rattle.std.proofs.lemmas.Bool.{not-false, and_parts}
use Rattle.civl_tree.specs.declared.name.Name.{Name}
use Rattle.civl_tree.specs.declared.expr.Sort.{Sort}
use Rattle.civl_tree.specs.declared.action.Action.{Action}
use Rattle.civl_tree.specs.declared.program.Proc.{Proc}
use Rattle.civl_tree.specs.declared.program.Refines.{Refines}
use Rattle.civl_tree.specs.declared.program.Program.{Program}
use Rattle.civl_tree.specs.rules.Names.{Signature, action_named, proc_named, action_signature, proc_signature, proc_signature_of, first_signature, callee_signature}
use Rattle.civl_tree.specs.rules.Signature.{same_params, signature_differs, refined_differs}
use Rattle.civl_tree.specs.rules.Uses.{param_sorts}
use Rattle.civl_meaning.specs.declared.config.Plain.{Plain}
use Rattle.civl_firing.specs.Truth.{place_of}
use Rattle.civl_meaning.specs.Meaning.{Meaning, Does, Runs, Missing, proc_number, meaning_of_action, refined, meaning_by, meaning_of, meaning_else, called}
use Rattle.civl_meaning.specs.Config.{IsPlain}
use Rattle.civl_firing.proofs.Finding.{found_at}
use Rattle.civl_firing.proofs.SortLimits.{same_sorts}
use Rattle.civl_meaning.proofs.Begun.{proc_is}
use Rattle.civl_soundness.proofs.Kept.{signature_kept}

-- ---- signatures

-- a meaning that the program has, which takes and gives values of these sorts
abbrev pub Serves : Program → List Sort → List Sort → Meaning → Type 0
Serves program taken given (Does action) = (place : ℕ) × (slice_get program.actions place ≡ Some action) × (param_sorts action.params ≡ taken) × (param_sorts action.outs ≡ given)
Serves program taken given (Runs number proc) = (slice_get program.procs number ≡ Some proc) × (param_sorts proc.params ≡ taken) × (param_sorts proc.outs ≡ given)
Serves program taken given Missing = Unit {0}

module _ (plain : Plain) (ok : IsPlain plain) where
  abbrev program : Program
  program = plain.program

  -- the action that a procedure refines
  refined_serves : (k : ℕ) (proc : Proc) → slice_get program.procs k ≡ Some proc → Serves program (param_sorts proc.params) (param_sorts proc.outs) (refined program proc.refines)
  refined_serves k proc at = by_refines proc.refines (signature_kept program ok.signatures k proc at)
    where
      by_action : (r : Refines) (o : Option Action) → action_named program r.action ≡ o → signature_differs proc o ≡ false → Serves program (param_sorts proc.params) (param_sorts proc.outs) (meaning_of_action o)
      by_action r None e h = tt
      by_action r (Some action) e h =
          let same = and_parts (same_params proc.params action.params) (same_params proc.outs action.outs) (not-false _ h) in
          (place_of (map (λ a. a.name) program.actions) r.action, found_at (λ (a : Action). a.name) program.actions r.action ∙ e, sym (same_sorts proc.params action.params same.0), sym (same_sorts proc.outs action.outs same.1))

      by_refines : (o : Option Refines) → refined_differs program proc o ≡ false → Serves program (param_sorts proc.params) (param_sorts proc.outs) (refined program o)
      by_refines None h = tt
      by_refines (Some r) h = by_action r (action_named program r.action) refl h

  -- a procedure's meaning
  pub number_serves : (k : ℕ) (proc : Proc) → slice_get program.procs k ≡ Some proc → Serves program (param_sorts proc.params) (param_sorts proc.outs) (meaning_of plain k)
  number_serves k proc at =
      subst (λ (o : Option Proc). Serves program (param_sorts proc.params) (param_sorts proc.outs) (meaning_by program (slice_get plain.bodies k) k o)) (sym at) (by_body (slice_get plain.bodies k))
    where
      by_body : (b : Option Bool) → Serves program (param_sorts proc.params) (param_sorts proc.outs) (meaning_by program b k (Some proc))
      by_body None = tt
      by_body (Some true) = (at, refl, refl)
      by_body (Some false) = refined_serves k proc at

  -- the meaning of a name
  pub called_serves : (name : Name) (signature : Signature) → callee_signature program name ≡ Some signature → Serves program (param_sorts signature.params) (param_sorts signature.outs) (called plain name)
  called_serves name signature e = by_action (action_named program name) refl
    where
      by_proc : (o : Option Proc) → proc_named program name ≡ o → proc_signature_of o ≡ Some signature → Serves program (param_sorts signature.params) (param_sorts signature.outs) (meaning_of plain (proc_number program name))
      by_proc None p s = absurd (cc)
      by_proc (Some proc) p s =
          let q : proc_signature proc ≡ signature = cc in
          subst (λ (x : Signature). Serves program (param_sorts x.params) (param_sorts x.outs) (meaning_of plain (proc_number program name))) q (number_serves (proc_number program name) proc (proc_is program name ∙ p))

      by_action : (o : Option Action) → action_named program name ≡ o → Serves program (param_sorts signature.params) (param_sorts signature.outs) (meaning_else plain name o)
      by_action None q =
          by_proc (proc_named program name) refl (ap (λ (o : Option Action). first_signature o (proc_named program name)) (sym q) ∙ e)
      by_action (Some action) q =
          let s : Some (action_signature action) ≡ Some signature = ap (λ (o : Option Action). first_signature o (proc_named program name)) (sym q) ∙ e in
          let r : action_signature action ≡ signature = cc in
          (place_of (map (λ a. a.name) program.actions) name, found_at (λ (a : Action). a.name) program.actions name ∙ q, ap (λ (x : Signature). param_sorts x.params) r, ap (λ (x : Signature). param_sorts x.outs) r)
