-- A frame that a call makes has the values of the arguments for its parameters.
use Rattle.std.proofs.Common.{◌≡◌, ℕ, List, [], ◌++◌, length, map, sym, ◌∙◌, subst, arith, Some, slice_get}
use Rattle.std.proofs.lemmas.List.{length-append, length-map, take_at}
use Rattle.std.proofs.lemmas.List.Elements.{All-nil}
use Rattle.std.proofs.lemmas.Option.{same_Some}
use Rattle.civl_bits.specs.Value.{IsValue}
use Rattle.civl_bits.specs.declared.value.Value.{Value}
use Rattle.civl_tree.specs.declared.program.Proc.{Proc}
use Rattle.civl_tree.specs.rules.Uses.{param_sorts}
use Rattle.civl_firing.specs.declared.store.Store.{Store}
use Rattle.civl_firing.specs.Scope.{zeros_of_params, zeros_of_locals}
use Rattle.civl_firing.specs.Stores.{IsStore}
use Rattle.civl_firing.specs.values.Values.{HaveSorts}
use Rattle.civl_firing.proofs.Having.{have_length}
use Rattle.civl_meaning.specs.declared.config.Plain.{Plain}
use Rattle.civl_meaning.specs.declared.config.Running.{Running}
use Rattle.civl_meaning.specs.Change.{new_frame, Doing, done_by, doing}
use Rattle.civl_meaning.specs.Config.{IsPlain, frame_sorts, HasLocals, ThreadIsSorted, IsStacked}
use Rattle.civl_soundness.proofs.Fitting.{Fits}
use Rattle.civl_soundness.proofs.Changing.{change_fits}
use Rattle.civl_conditions.specs.Assumed.{inputs_of}
use Rattle.civl_meaning.specs.Change as does

-- the locals of a frame have the number of the arguments, the outputs and the locals
count_is : (proc : Proc) (args : List Value) → HaveSorts (args ++ (zeros_of_params proc.outs ++ zeros_of_locals proc.locals)) (frame_sorts proc) → length args ≡ length proc.params
count_is proc args h =
    let all = have_length (args ++ (zeros_of_params proc.outs ++ zeros_of_locals proc.locals)) (frame_sorts proc) h in
    let one = length-append args (zeros_of_params proc.outs ++ zeros_of_locals proc.locals) in
    let two = length-append (zeros_of_params proc.outs) (zeros_of_locals proc.locals) in
    let three = length-append (param_sorts proc.params) (param_sorts proc.outs ++ map (λ l. l.sort) proc.locals) in
    let four = length-append (param_sorts proc.outs) (map (λ l. l.sort) proc.locals) in
    let five = length-map proc.params (λ p. p.sort) in
    omega (arith, all, one, two, three, four, five, zeros, others, sorts, more)
  where
    zeros : length (zeros_of_params proc.outs) ≡ length proc.outs
    zeros = length-map proc.outs _

    others : length (zeros_of_locals proc.locals) ≡ length proc.locals
    others = length-map proc.locals _

    sorts : length (param_sorts proc.outs) ≡ length proc.outs
    sorts = length-map proc.outs _

    more : length (map (λ l. l.sort) proc.locals) ≡ length proc.locals
    more = length-map proc.locals _

-- where a thread enters a body
pub entered_inputs : (plain : Plain) → IsPlain plain → (store : Store) → IsStore plain.program.globals store → (thread : Running) → ThreadIsSorted plain thread → IsStacked plain thread
    → (number : ℕ) (proc : Proc) (args : List Value) (place : ℕ) → slice_get plain.program.procs number ≡ Some proc → doing plain thread ≡ does.Enters (new_frame number proc args) place → inputs_of proc (new_frame number proc args).locals ≡ args
entered_inputs plain ok store fits thread sorted stacked number proc args place there e =
    let change : Fits plain thread.state (done_by plain store [] (doing plain thread)) = change_fits plain ok store fits [] (All-nil IsValue) thread sorted stacked in
    let has : HasLocals plain (new_frame number proc args) = subst (λ (D : Doing). Fits plain thread.state (done_by plain store [] D)) e change in
    let same : has.proc ≡ proc = same_Some has.proc proc (sym has.there ∙ there) in
    take_at args (zeros_of_params proc.outs ++ zeros_of_locals proc.locals) (length proc.params) (count_is proc args (subst (λ (p : Proc). HaveSorts (new_frame number proc args).locals (frame_sorts p)) same has.locals))
