-- A call that makes a frame of a procedure of the layer above opens a block.
use Rattle.std.proofs.Common.{◌≡◌, ℕ, zero, suc, ◌+◌, Bool, true, false, List, [], ◌∷◌, ◌++◌, length, drop, get_or, Option, None, Some, slice_get, refl, sym, ap, ◌∙◌, subst, arith}
use Rattle.std.specs.Prelude.{if◌then◌else◌}
use Rattle.std.proofs.lemmas.Bool.{or_parts}
use Rattle.std.proofs.lemmas.Option.{same_Some, none-some}
use Rattle.std.proofs.lemmas.List.{length-append, length-map}
use Rattle.civl_bits.specs.declared.value.Value.{Value}
use Rattle.civl_firing.specs.values.Values.{is_true, zero_of}
use Rattle.civl_tree.specs.declared.action.Action.{Action}
use Rattle.civl_tree.specs.declared.name.Name.{Name}
use Rattle.civl_tree.specs.declared.program.Proc.{Proc}
use Rattle.civl_tree.specs.declared.program.Refines.{Refines}
use Rattle.civl_tree.specs.declared.program.Program.{Program}
use Rattle.civl_tree.specs.declared.stmt.Stmt.{Stmt, out-Stmt}
use Rattle.civl_tree.specs.declared.stmt.Stmt.TheOpen as stmt
use Rattle.civl_tree.specs.rules.Names.{action_named, names_in_proc}
use Rattle.civl_firing.specs.declared.store.Store.{Store}
use Rattle.civl_firing.specs.Eval.{value_of, values_of}
use Rattle.civl_firing.specs.Scope.{frame_values, zeros_of_params, zeros_of_locals}
use Rattle.civl_meaning.specs.declared.config.Activation.{Activation}
use Rattle.civl_meaning.specs.declared.config.Plain.{Plain}
use Rattle.civl_meaning.specs.declared.config.State.{State}
use Rattle.civl_meaning.specs.declared.config.State.TheVariants.{Before, Inside, After}
use Rattle.civl_meaning.specs.declared.config.Running.{Running}
use Rattle.civl_meaning.specs.Places.{Spot, spot_at}
use Rattle.civl_meaning.specs.Meaning.{Meaning, Does, Runs, Missing, called, meaning_of, meaning_by, meaning_of_action, meaning_else, refined, proc_number}
use Rattle.civl_meaning.specs.Change.{new_frame, caller_of, outs_in, Doing, call_doing, statement_doing, leaving, spot_doing, proc_doing, state_doing, doing}
use Rattle.civl_meaning.specs.Change as does
use Rattle.civl_linear.specs.Held.{Traced, traced, traced_all, entry_held}
use Rattle.civl_linear.proofs.Examples.{traced_form, traced_is}
use Rattle.civl_reduction.specs.permissions.Owned.{held_before}
use Rattle.civl_reduction.specs.blocks.Challenged.{thread_challenged, some_challenged}

-- ---- new frames

-- a call makes a new frame of the procedure
abbrev pub MakesNew : Program → Doing → Type 0
MakesNew program (does.Enters frame place) = (number : ℕ) × (proc : Proc) × (args : List Value) × (slice_get program.procs number ≡ Some proc) × (frame ≡ new_frame number proc args)
MakesNew program _ = Unit {0}

module _ (plain : Plain) where
  abbrev program : Program
  program = plain.program

  abbrev runs_there : (m : Meaning) → Type 0
  runs_there (Runs n p) = slice_get plain.program.procs n ≡ Some p
  runs_there _ = Unit {0}

  action_runs : (o : Option Action) → runs_there (meaning_of_action o)
  action_runs None = tt
  action_runs (Some a) = tt

  refined_runs : (o : Option Refines) → runs_there (refined plain.program o)
  refined_runs None = tt
  refined_runs (Some r) = action_runs (action_named plain.program r.action)

  by_runs : (k : ℕ) (b : Option Bool) (o : Option Proc) → slice_get plain.program.procs k ≡ o → runs_there (meaning_by plain.program b k o)
  by_runs k b None e = tt
  by_runs k (Some true) (Some p) e = e
  by_runs k (Some false) (Some p) e = refined_runs p.refines
  by_runs k None (Some p) e = tt

  name_runs : (f : Name) → runs_there (called plain f)
  name_runs f = go (action_named plain.program f)
    where
      go : (o : Option Action) → runs_there (meaning_else plain f o)
      go (Some a) = tt
      go None = by_runs (proc_number plain.program f) (slice_get plain.bodies (proc_number plain.program f)) (slice_get plain.program.procs (proc_number plain.program f)) refl

  new_call : (ns : List Name) (ls : List Value) (rs : List Name) (at next : ℕ) (m : Meaning) (vs : List Value) → runs_there m → MakesNew plain.program (call_doing ns ls rs at next m vs)
  new_call ns ls rs at next (Does a) vs h = tt
  new_call ns ls rs at next (Runs n p) vs h = (n, p, vs, h, refl)
  new_call ns ls rs at next Missing vs h = tt

  new_assert : (b : Bool) (ls : List Value) (next : ℕ) → MakesNew plain.program (if b then does.Goes ls next else does.Fails)
  new_assert true ls next = tt
  new_assert false ls next = tt

  new_layer : (p : Proc) (ls : List Value) (at next : ℕ) (d : stmt.Stmt-F Stmt) → MakesNew plain.program (statement_doing plain p ls at next d)
  new_layer p ls at next (stmt.Assert e) = new_assert (is_true (value_of (frame_values plain.program.globals p ls) e)) ls next
  new_layer p ls at next (stmt.Call f es rs) = new_call (names_in_proc p) ls rs at next (called plain f) (values_of (frame_values plain.program.globals p ls) es) (name_runs f)
  new_layer p ls at next _ = tt

  new_leaving : (outs : List Value) (k : Option Activation) → MakesNew plain.program (leaving plain outs k)
  new_leaving outs None = tt
  new_leaving outs (Some f) = tt

  new_spot : (k : Option Activation) (f : Activation) (p : Proc) (o : Option Spot) → MakesNew plain.program (spot_doing plain k f p o)
  new_spot k f p None = new_leaving (outs_in p f.locals) k
  new_spot k f p (Some x) = new_layer p f.locals x.number x.next (out-Stmt x.stmt)

  new_proc : (k : Option Activation) (f : Activation) (o : Option Proc) → MakesNew plain.program (proc_doing plain k f o)
  new_proc k f None = tt
  new_proc k f (Some p) = new_spot k f p (spot_at p.body f.place)

  pub makes_new : (r : Running) → MakesNew plain.program (doing plain r)
  makes_new r = by_state r.state
    where
      by_state : (x : State) → MakesNew plain.program (state_doing plain r x)
      by_state After = tt
      by_state Before = new_call [] [] [] 0 0 (meaning_of plain r.callee) r.args (by_runs r.callee (slice_get plain.bodies r.callee) (slice_get plain.program.procs r.callee) refl)
      by_state (Inside below f) = new_proc (caller_of below) f (slice_get plain.program.procs f.procedure)

-- ---- what isn't challenged

pub not_some : (program : Program) (layer : ℕ) (store : Store) (done : ℕ → Bool) (t : ℕ) (threads : List Running) (u : ℕ) (thread : Running) → some_challenged program layer store done t threads ≡ false → slice_get threads u ≡ Some thread
    → (n : ℕ) × (n ≡ t + u) × (thread_challenged program layer store (done n) thread ≡ false)
not_some program layer store done t [] u thread h e = absurd (none-some thread e)
not_some program layer store done t (x ∷ xs) zero thread h e =
    (t, omega arith, ap (thread_challenged program layer store (done t)) (sym (same_Some x thread e)) ∙ (or_parts (thread_challenged program layer store (done t) x) (some_challenged program layer store done (t + 1) xs) h).0)
not_some program layer store done t (x ∷ xs) (suc u) thread h e =
    let r = not_some program layer store done (t + 1) xs u thread (or_parts (thread_challenged program layer store (done t) x) (some_challenged program layer store done (t + 1) xs) h).1 e in
    let is = r.1 in
    (r.0, omega (arith, is), r.2)

pub not_challenged : (program : Program) (layer : ℕ) (store : Store) (done : ℕ → Bool) (threads : List Running) (u : ℕ) (thread : Running) → some_challenged program layer store done 0 threads ≡ false → slice_get threads u ≡ Some thread → thread_challenged program layer store (done u) thread ≡ false
not_challenged program layer store done threads u thread h e =
    let r = not_some program layer store done 0 threads u thread h e in
    let same : r.0 ≡ u = let is = r.1 in omega (arith, is) in
    subst (λ (n : ℕ). thread_challenged program layer store (done n) thread ≡ false) same r.2

-- ---- what is held at the entry

head_held : (program : Program) (names : List Name) (form : stmt.Stmt-F Stmt) (held : List Bool) → slice_get (traced_form program names form held).befores 0 ≡ Some held
head_held p names (stmt.If e a b) held = refl
head_held p names (stmt.While e a) held = refl
head_held p names (stmt.YieldLoop e i a) held = refl
head_held p names (stmt.RankLoop e r i a) held = refl
head_held p names _ held = refl

first_get : (xs ys : List (List Bool)) (a : List Bool) → slice_get xs 0 ≡ Some a → get_or (xs ++ ys) 0 [] ≡ a
first_get [] ys a e = absurd (none-some a e)
first_get (x ∷ xs) ys a e = same_Some x a e

-- before the first statement what is held at the entry is
pub held_first : (program : Program) (proc : Proc) → held_before program proc 0 ≡ entry_held proc
held_first program proc = by_body proc.body
  where
    names : List Name
    names = names_in_proc proc

    by_body : (ss : List Stmt) → get_or ((traced_all program (names_in_proc proc) ss (entry_held proc)).befores ++ (traced_all program (names_in_proc proc) ss (entry_held proc)).after ∷ []) 0 [] ≡ entry_held proc
    by_body [] = refl
    by_body (s ∷ ss) =
        let here = traced program (names_in_proc proc) s (entry_held proc) in
        let rest = traced_all program (names_in_proc proc) ss here.after in
        first_get (here.befores ++ rest.befores) (rest.after ∷ []) (entry_held proc)
        (in_front here.befores rest.befores (ap (λ (t : Traced). slice_get t.befores 0) (traced_is program (names_in_proc proc) s (entry_held proc)) ∙ head_held program (names_in_proc proc) (out-Stmt s) (entry_held proc)))
      where
        in_front : (xs ys : List (List Bool)) → slice_get xs 0 ≡ Some (entry_held proc) → slice_get (xs ++ ys) 0 ≡ Some (entry_held proc)
        in_front [] ys e = absurd (none-some (entry_held proc) e)
        in_front (x ∷ xs) ys e = e

-- ---- lengths

drop_front : (xs ys : List Value) (n : ℕ) → length xs ≡ n → drop n (xs ++ ys) ≡ ys
drop_front [] ys zero e = refl
drop_front [] ys (suc n) e = absurd (omega (arith, e))
drop_front (x ∷ xs) ys zero e = absurd (omega (arith, e))
drop_front (x ∷ xs) ys (suc n) e = drop_front xs ys n (omega (arith, e))

-- behind as many values as there are parameters the outputs and locals of a new frame are zeros
pub rest_is_zeros : (proc : Proc) (args : List Value) → length (args ++ (zeros_of_params proc.outs ++ zeros_of_locals proc.locals)) ≡ length proc.params + (length proc.outs + length proc.locals)
    → drop (length proc.params) (args ++ (zeros_of_params proc.outs ++ zeros_of_locals proc.locals)) ≡ zeros_of_params proc.outs ++ zeros_of_locals proc.locals
rest_is_zeros proc args e =
    drop_front args (zeros_of_params proc.outs ++ zeros_of_locals proc.locals) (length proc.params)
    (let a = length-append args (zeros_of_params proc.outs ++ zeros_of_locals proc.locals) in
    let b = length-append (zeros_of_params proc.outs) (zeros_of_locals proc.locals) in
    let c : length (zeros_of_params proc.outs) ≡ length proc.outs = length-map proc.outs (λ p. zero_of p.sort) in
    let d : length (zeros_of_locals proc.locals) ≡ length proc.locals = length-map proc.locals (λ l. zero_of l.sort) in
    omega (arith, a, b, c, d, e))
