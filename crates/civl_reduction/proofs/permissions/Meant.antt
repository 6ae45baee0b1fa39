-- What a call means takes and gives linear values as its callee's signature says.
use Rattle.std.proofs.Common.{◌≡◌, ℕ, suc, Bool, true, false, ◌&&◌, List, [], ◌∷◌, ◌++◌, length, map, refl, sym, ap, ap₂, ◌∙◌, subst, Option, Some, None, slice_get}
use Rattle.std.specs.Prelude.{if◌then◌else◌}
use Rattle.std.proofs.lemmas.Bool.{false≢true, not-false, and_parts}
use Rattle.std.proofs.lemmas.Option.{none-some, same_Some}
use Rattle.civl_bits.specs.declared.value.Value.{Value}
use Rattle.civl_tree.specs.declared.name.Name.{Name}
use Rattle.civl_tree.specs.declared.action.Action.{Action}
use Rattle.civl_tree.specs.declared.action.Mode.{Mode}
use Rattle.civl_tree.specs.declared.action.Mode.TheVariants.{Val, Lend, Take, Give}
use Rattle.civl_tree.specs.declared.action.Param.{Param}
use Rattle.civl_tree.specs.declared.program.Proc.{Proc}
use Rattle.civl_tree.specs.declared.program.Refines.{Refines}
use Rattle.civl_tree.specs.declared.program.Program.{Program}
use Rattle.civl_tree.specs.rules.Names.{Signature, action_named, proc_named, action_signature, proc_signature, proc_signature_of, first_signature, callee_signature}
use Rattle.civl_tree.specs.rules.Signature.{same_mode, same_params, signature_differs, refined_differs}
use Rattle.civl_tree.specs.rules.Sorts.{same_sort}
use Rattle.civl_tree.specs.rules.Rules.{Keeps}
use Rattle.civl_tree.specs.rules.Typing.{signature_rule}
use Rattle.civl_tree.proofs.Pairs.{contains_here}
use Rattle.civl_tree.proofs.Kept.{proc_kept}
use Rattle.civl_firing.specs.Truth.{place_of}
use Rattle.civl_firing.proofs.Finding.{found_at}
use Rattle.civl_meaning.specs.declared.config.Plain.{Plain}
use Rattle.civl_meaning.specs.Permissions.{permissions_of_word}
use Rattle.civl_meaning.specs.Meaning.{Does, Runs, proc_number, meaning_of_action, refined, meaning_by, meaning_of, meaning_else, called}
use Rattle.civl_meaning.specs.Config.{IsPlain}
use Rattle.civl_meaning.proofs.Begun.{proc_is}
use Rattle.civl_conditions.specs.Permissions.{of_modes}

-- these parameters stand for linear values as those do
pub record SameModes (ps qs : List Param) : Type 0 where
  pub count : length ps ≡ length qs
  pub carry : (test : Mode → Bool) (vs : List Value) → of_modes test ps vs ≡ of_modes test qs vs

equal_modes : (ps qs : List Param) → ps ≡ qs → SameModes ps qs
equal_modes ps qs e = record { count = ap (λ (l : List Param). length l) e; carry = λ test vs. ap (λ (l : List Param). of_modes test l vs) e }

mode_is : (m n : Mode) → same_mode m n ≡ true → m ≡ n
mode_is Val Val e = refl
mode_is Val Lend e = absurd (false≢true e)
mode_is Val Take e = absurd (false≢true e)
mode_is Val Give e = absurd (false≢true e)
mode_is Lend Val e = absurd (false≢true e)
mode_is Lend Lend e = refl
mode_is Lend Take e = absurd (false≢true e)
mode_is Lend Give e = absurd (false≢true e)
mode_is Take Val e = absurd (false≢true e)
mode_is Take Lend e = absurd (false≢true e)
mode_is Take Take e = refl
mode_is Take Give e = absurd (false≢true e)
mode_is Give Val e = absurd (false≢true e)
mode_is Give Lend e = absurd (false≢true e)
mode_is Give Take e = absurd (false≢true e)
mode_is Give Give e = refl

params_modes : (ps qs : List Param) → same_params ps qs ≡ true → SameModes ps qs
params_modes [] [] e = record { count = refl; carry = λ test vs. refl }
params_modes [] (q ∷ qs) e = absurd (false≢true e)
params_modes (p ∷ ps) [] e = absurd (false≢true e)
params_modes (p ∷ ps) (q ∷ qs) e =
    let a = and_parts (same_mode p.mode q.mode) (same_sort p.sort q.sort && same_params ps qs) e in
    let rest = params_modes ps qs (and_parts (same_sort p.sort q.sort) (same_params ps qs) a.1).1 in
    record { count = ap suc rest.count; carry = carry (mode_is p.mode q.mode a.0) rest.carry }
  where
    carry : p.mode ≡ q.mode → ((test : Mode → Bool) (vs : List Value) → of_modes test ps vs ≡ of_modes test qs vs) → (test : Mode → Bool) (vs : List Value) → of_modes test (p ∷ ps) vs ≡ of_modes test (q ∷ qs) vs
    carry same h test [] = refl
    carry same h test (v ∷ vs) = ap₂ (λ (m : Mode) (r : List (List ℕ)). (if test m then permissions_of_word v ∷ [] else []) ++ r) same (h test vs)

-- an action of the program, which serves this signature
pub record Serves (program : Program) (signature : Signature) (action : Action) : Type 0 where
  pub place : ℕ
  pub there : slice_get program.actions place ≡ Some action
  pub params : SameModes signature.params action.params
  pub outs : SameModes signature.outs action.outs

-- ---- what is an action

pub does_refined : (program : Program) (proc : Proc) (o : Option Refines) (action : Action) → refined program o ≡ Does action → (r : Refines) × (o ≡ Some r) × (action_named program r.action ≡ Some action)
does_refined program proc None action e = absurd cc
does_refined program proc (Some r) action e = go (action_named program r.action) refl e
  where
    go : (a : Option Action) → action_named program r.action ≡ a → meaning_of_action a ≡ Does action → (s : Refines) × (Some r ≡ Some s) × (action_named program s.action ≡ Some action)
    go None q h = absurd cc
    go (Some b) q h = let same : b ≡ action = cc in (r, refl, q ∙ ap (λ (c : Action). Some c) same)

pub does_by : (program : Program) (body : Option Bool) (k : ℕ) (o : Option Proc) (action : Action) → meaning_by program body k o ≡ Does action → (proc : Proc) × (o ≡ Some proc) × (body ≡ Some false) × (refined program proc.refines ≡ Does action)
does_by program body k None action e = absurd cc
does_by program (Some true) k (Some proc) action e = absurd cc
does_by program (Some false) k (Some proc) action e = (proc, refl, refl, e)
does_by program None k (Some proc) action e = absurd cc

module _ (program : Program) (signatures : Keeps (signature_rule ∷ []) program) where
  -- the action that a procedure refines
  refined_serves : (k : ℕ) (proc : Proc) → slice_get program.procs k ≡ Some proc → (action : Action) → refined program proc.refines ≡ Does action → Serves program (proc_signature proc) action
  refined_serves k proc at action e = go (does_refined program proc proc.refines action e)
    where
      kept : refined_differs program proc proc.refines ≡ false
      kept = proc_kept (signature_rule ∷ []) program signatures signature_rule (contains_here signature_rule []) k proc at

      go : (r : Refines) × (proc.refines ≡ Some r) × (action_named program r.action ≡ Some action) → Serves program (proc_signature proc) action
      go x =
          let differs : signature_differs proc (action_named program x.0.action) ≡ false = subst (λ (o : Option Refines). refined_differs program proc o ≡ false) x.1 kept in
          let same : (same_params proc.params action.params && same_params proc.outs action.outs) ≡ true = not-false _ (subst (λ (o : Option Action). signature_differs proc o ≡ false) x.2 differs) in
          let parts = and_parts (same_params proc.params action.params) (same_params proc.outs action.outs) same in
          record {
            place = place_of (map (λ a. a.name) program.actions) x.0.action;
            there = found_at (λ (a : Action). a.name) program.actions x.0.action ∙ x.2;
            params = params_modes proc.params action.params parts.0;
            outs = params_modes proc.outs action.outs parts.1;
          }

  -- what a procedure's number means
  pub number_serves : (plain : Plain) → plain.program ≡ program → (k : ℕ) (proc : Proc) → slice_get program.procs k ≡ Some proc → (action : Action) → meaning_by program (slice_get plain.bodies k) k (slice_get program.procs k) ≡ Does action → Serves program (proc_signature proc) action
  number_serves plain same k proc at action e =
      let d = does_by program (slice_get plain.bodies k) k (slice_get program.procs k) action e in
      let is : d.0 ≡ proc = same_Some d.0 proc (sym d.1 ∙ at) in
      refined_serves k proc at action (subst (λ (q : Proc). refined program q.refines ≡ Does action) is d.3)

module _ (plain : Plain) (ok : IsPlain plain) where
  -- a name
  pub called_serves : (name : Name) (action : Action) (signature : Signature) → called plain name ≡ Does action → callee_signature plain.program name ≡ Some signature → Serves plain.program signature action
  called_serves name action signature e s = by_action (action_named plain.program name) refl e s
    where
      by_proc : (o : Option Proc) → proc_named plain.program name ≡ o → proc_signature_of o ≡ Some signature → meaning_of plain (proc_number plain.program name) ≡ Does action → Serves plain.program signature action
      by_proc None q g h = absurd (none-some signature g)
      by_proc (Some proc) q g h =
          subst (λ (x : Signature). Serves plain.program x action) (same_Some (proc_signature proc) signature g)
          (number_serves plain.program ok.signatures plain refl (proc_number plain.program name) proc (proc_is plain.program name ∙ q) action h)

      by_action : (o : Option Action) → action_named plain.program name ≡ o → meaning_else plain name o ≡ Does action → first_signature o (proc_named plain.program name) ≡ Some signature → Serves plain.program signature action
      by_action None q h g = by_proc (proc_named plain.program name) refl g h
      by_action (Some a) q h g =
          let same : a ≡ action = cc in
          let is : action_signature a ≡ signature = same_Some (action_signature a) signature g in
          record {
            place = place_of (map (λ a. a.name) plain.program.actions) name;
            there = found_at (λ (a : Action). a.name) plain.program.actions name ∙ (q ∙ ap (λ (b : Action). Some b) same);
            params = equal_modes signature.params action.params (ap (λ (x : Signature). x.params) (sym is) ∙ ap (λ (b : Action). b.params) same);
            outs = equal_modes signature.outs action.outs (ap (λ (x : Signature). x.outs) (sym is) ∙ ap (λ (b : Action). b.outs) same);
          }

  -- ---- what is a body

  runs_by : (body : Option Bool) (k : ℕ) (o : Option Proc) (n : ℕ) (p : Proc) → meaning_by plain.program body k o ≡ Runs n p → (k ≡ n) × (o ≡ Some p)
  runs_by body k None n p e = absurd cc
  runs_by (Some true) k (Some q) n p e = (cc, cc)
  runs_by (Some false) k (Some q) n p e = absurd (refined_runs q.refines e)
    where
      action_runs : (o : Option Action) → meaning_of_action o ≡ Runs n p → ⊥
      action_runs None h = cc
      action_runs (Some a) h = cc

      refined_runs : (o : Option Refines) → refined plain.program o ≡ Runs n p → ⊥
      refined_runs None h = cc
      refined_runs (Some r) h = action_runs (action_named plain.program r.action) h
  runs_by None k (Some q) n p e = absurd cc

  pub number_runs : (k n : ℕ) (p : Proc) → meaning_of plain k ≡ Runs n p → (k ≡ n) × (slice_get plain.program.procs k ≡ Some p)
  number_runs k n p e = runs_by (slice_get plain.bodies k) k (slice_get plain.program.procs k) n p e

  pub called_runs : (name : Name) (n : ℕ) (p : Proc) → called plain name ≡ Runs n p → (slice_get plain.program.procs n ≡ Some p) × (callee_signature plain.program name ≡ Some (proc_signature p))
  called_runs name n p e = go (action_named plain.program name) refl e
    where
      go : (o : Option Action) → action_named plain.program name ≡ o → meaning_else plain name o ≡ Runs n p → (slice_get plain.program.procs n ≡ Some p) × (callee_signature plain.program name ≡ Some (proc_signature p))
      go (Some a) q h = absurd cc
      go None q h =
          let r = number_runs (proc_number plain.program name) n p h in
          let named : proc_named plain.program name ≡ Some p = sym (proc_is plain.program name) ∙ r.1 in
          (ap (slice_get plain.program.procs) (sym r.0) ∙ r.1, ap (λ (o : Option Action). first_signature o (proc_named plain.program name)) q ∙ ap proc_signature_of named)
