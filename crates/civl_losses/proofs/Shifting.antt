-- What another thread's frame owns and whether it loses its yield's invariant, where its values are read behind others.
use Rattle.std.proofs.Common.{◌≡◌, ℕ, zero, suc, ◌+◌, Bool, false, not, ◌&&◌, List, [], ◌∷◌, ◌++◌, drop, refl, ap, ap₂, ◌∙◌, arith, if◌then◌else◌}
use Rattle.std.specs.Prelude.{Some, None}
use Rattle.civl_bits.specs.declared.value.Value.{Value}
use Rattle.civl_tree.specs.declared.program.Proc.{Proc}
use Rattle.civl_tree.specs.declared.program.Program.{Program}
use Rattle.civl_firing.specs.declared.store.Store.{Store}
use Rattle.civl_meaning.specs.Permissions.{pairwise_disjoint}
use Rattle.civl_conditions.specs.declared.condition.Target.{Target}
use Rattle.civl_conditions.specs.declared.condition.Target.TheVariants as target
use Rattle.civl_conditions.specs.Assumed.{assumed, owned}
use Rattle.civl_conditions.specs.Permissions.{held_at, of_held}
use Rattle.civl_conditions.specs.Steps.{of_proc, of_cut}
use Rattle.civl_conditions.specs.Values.{part, flag_at}
use Rattle.civl_conditions.specs.Targets.{frame_size, other_of, yield_holds, target_lost, target_owned}
use Rattle.civl_losses.specs.declared.loss.Loss.TheVariants.{TargetLost}
use Rattle.civl_losses.specs.declared.route.Route.{Route}
use Rattle.civl_losses.specs.Losses.{arrival, lost_at_block_end, where_assumed}
use Rattle.civl_losses.specs.inner.Routes.{begun_on, block_lost}

flag_behind : (vs : List Value) (k n : ℕ) → flag_at (drop k vs) n ≡ flag_at vs (k + n)
flag_behind vs zero n = let e : n ≡ 0 + n = omega arith in ap (λ (m : ℕ). flag_at vs m) e
flag_behind [] (suc k) n = refl
flag_behind (v ∷ vs) (suc k) n = let e : suc (k + n) ≡ suc k + n = omega arith in flag_behind vs k n ∙ ap (λ (m : ℕ). flag_at (v ∷ vs) m) e

other_here : (proc : Proc) (values : List Value) (at : ℕ) → other_of proc (drop at values) 0 ≡ other_of proc values at
other_here proc values at =
    let e : 0 + frame_size proc ≡ frame_size proc = omega arith in
    let flag = ap (λ (m : ℕ). flag_at (drop at values) m) e ∙ flag_behind values at (frame_size proc) in
    λ i. record { locals = part values at (frame_size proc); done = flag i }

lost_here : (program : Program) (step : ℕ) (target : Target) (values : List Value) (at : ℕ) (before after : Store)
    → target_lost program step target (drop at values) 0 before after ≡ target_lost program step target values at before after
lost_here program step (target.Invariant n) values at before after = refl
lost_here program step (target.Yield r y) values at before after =
    λ i. of_cut program r y false (λ proc cut.
    yield_holds program proc cut (other_here proc values at i) before && not (yield_holds program proc cut (other_here proc values at i) after))

owned_here : (program : Program) (target : Target) (values : List Value) (at : ℕ) → target_owned program target (drop at values) 0 ≡ target_owned program target values at
owned_here program (target.Invariant n) values at = refl
owned_here program (target.Yield r y) values at = λ i. of_proc program r [] (λ proc. of_held (held_at program proc y) (other_here proc values at i).locals)

pub block_here : (program : Program) (route : Route) (target : Target) (values : List Value) (at : ℕ)
    → block_lost program route target (drop at values) 0 ≡ block_lost program route target values at
block_here program route target values at =
    let proc = route.proc.now in
    let b = begun_on route in
    ap₂ (λ (pss : List (List ℕ)) (lost : Bool).
    where_assumed (assumed program route.step proc route.number route.cut b && pairwise_disjoint (owned program proc route.number b ++ pss))
    (lost_at_block_end proc (arrival proc route.walked.now) (if lost then Some TargetLost else None))) (owned_here program target values at)
    (lost_here program route.step target values at b.old route.walked.now.end.store)
