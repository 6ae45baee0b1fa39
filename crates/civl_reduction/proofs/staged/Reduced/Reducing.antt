-- Blocks that are open behind block runs are open as the conditions see it; so they end, and runs reduce.
use Rattle.std.proofs.Common.{◌≡◌, ℕ, suc, ◌+◌, map, Some, sym, ap, ◌∙◌, subst, arith}
use Rattle.std.specs.Prelude.{slice_get}
use Rattle.std.proofs.lemmas.Option.{same_Some}
use Rattle.civl_tree.specs.declared.program.Proc.{Proc}
use Rattle.civl_tree.specs.declared.program.Program.{Program}
use Rattle.civl_firing.specs.declared.store.Store.{Store}
use Rattle.civl_meaning.specs.declared.config.Activation.{Activation}
use Rattle.civl_meaning.specs.declared.config.Running.{Running}
use Rattle.civl_meaning.specs.declared.config.Config as meaning
use Rattle.civl_reduction.specs.checked.Checked.{IsChecked}
use Rattle.civl_reduction.specs.blocks.Blocks.{frame_of_layer}
use Rattle.civl_reduction.specs.blocks.Reduces.{plain_move, plain_config}
use Rattle.civl_reduction.specs.staged.Reduction.{CheckedReduce}
use Rattle.civl_reduction.specs.blocks.Shadow.{Shadowed, shadowed}
use Rattle.civl_reduction.specs.blocks.Challenged.{challenged}
use Rattle.civl_reduction.specs.staged.Opened.{BlockIsOpen, StandsThere}
use Rattle.civl_reduction.specs.staged.Inside.{StagesAreBeside, CheckedAreSafeInside}
use Rattle.civl_reduction.specs.staged.Measures.{measure, IsNear}
use Rattle.civl_reduction.specs.staged.Bounded.{IsOpenThere, OpenInside, OpenBlocksAreBounded}
use Rattle.civl_reduction.specs.staged.Reduced.{CheckedEndInside, CheckedProgramsReduce}

-- a block that is open beside a shadow, by the frame of its thread
open_there : (program : Program) (layer : ℕ) (s : Shadowed) (t : ℕ) (o : BlockIsOpen program layer s t) → StandsThere o → (c : meaning.Config) → s.config ≡ c → (thread : Running) → slice_get c.threads t ≡ Some thread
    → (f : Proc × Activation) → frame_of_layer program (layer + 1) thread ≡ Some f → IsOpenThere program layer c.store f
open_there program layer s t o stands c is thread there f framed =
    let thread_is : o.thread ≡ thread = same_Some o.thread thread (sym o.there ∙ ap (λ (d : meaning.Config). slice_get d.threads t) is ∙ there) in
    let same : o.f ≡ f = same_Some o.f f (sym o.framed ∙ ap (frame_of_layer program (layer + 1)) thread_is ∙ framed) in
    let size = measure program o.f.0 o.cut o.b o.bound in
    let near : IsNear program (layer + 1) o.f.1.procedure o.f.0 s.config.store o.f.1 (suc size) =
    record { number = o.c; cut = o.cut; begun = o.b; bound = o.bound; here = o.here; opened = o.opened; place = stands; near = omega arith } in
    subst (λ (f : Proc × Activation). IsOpenThere program layer c.store f) same (subst (λ (d : meaning.Config). IsOpenThere program layer d.store o.f) is (suc size, near))

open_inside : StagesAreBeside → (program : Program) (layer : ℕ) (store : Store) → IsChecked program layer store → OpenInside program layer store (challenged program layer store)
open_inside stages program layer store k ms t c thread f g there framed =
    let b = stages program layer store ms (Some t) c k g in
    open_there program layer (shadowed program layer store (map plain_move ms)) t b.beside.0 b.beside.1 (plain_config c) b.config_is thread there f framed

pub checked_end_inside : StagesAreBeside → OpenBlocksAreBounded → CheckedEndInside
checked_end_inside stages bounded program layer store k = bounded program layer store (challenged program layer store) k (open_inside stages program layer store k)

pub checked_programs_reduce : CheckedReduce → StagesAreBeside → CheckedAreSafeInside → OpenBlocksAreBounded → CheckedProgramsReduce
checked_programs_reduce reduces stages safe bounded program layer store k =
    reduces program layer store (challenged program layer store) k (safe program layer store k) (checked_end_inside stages bounded program layer store k)
