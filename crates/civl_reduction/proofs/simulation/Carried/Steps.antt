-- What an open block has done since it began is carried along: by its steps, from the call that makes its frame, and from a yield.
use Rattle.std.proofs.Common.{◌≡◌, ℕ, ◌+◌, Bool, true, List, None, Some, refl, sym, ap, ◌∙◌, subst, inl, inr, ◌⊎◌}
use Rattle.std.proofs.lemmas.Bool.{false≢true}
use Rattle.std.proofs.lemmas.Option.{same_Some}
use Rattle.civl_bits.specs.declared.value.Value.{Value}
use Rattle.civl_tree.specs.declared.program.Proc.{Proc}
use Rattle.civl_tree.specs.declared.program.Program.{Program}
use Rattle.civl_firing.specs.declared.store.Store.{Store}
use Rattle.civl_meaning.specs.declared.config.Activation.{Activation}
use Rattle.civl_meaning.specs.declared.config.Config.{Config}
use Rattle.civl_meaning.specs.Change.{outs_in}
use Rattle.civl_conditions.specs.footprints.Agreement.{exists_at}
use Rattle.civl_conditions.proofs.footprints.Keeping.{agree_self}
use Rattle.civl_layers.specs.Layered.{IsLayered}
use Rattle.civl_conditions.specs.paths.Ends.{exit_of}
use Rattle.civl_conditions.specs.Assumed.{inputs_of}
use Rattle.civl_reduction.specs.checked.Checked.{ActionsKeepPermissions, SpawnsAreInRoots}
use Rattle.civl_reduction.specs.blocks.Cuts.{frame_in, frame_at}
use Rattle.civl_reduction.specs.blocks.Shadow.{Shadowed, before_step, seen}
use Rattle.civl_reduction.proofs.blocks.Merged.Merging.{merged_fit}
use Rattle.civl_reduction.proofs.staged.Pausing.Apart.{run_is_kept}
use Rattle.civl_reduction.specs.staged.Opened.{stepped, IsReached}
use Rattle.civl_reduction.proofs.staged.Opened.Beginning.{HasEnded, LeavesSo}
use Rattle.civl_reduction.proofs.staged.Opened.Round.{exit_ends, open_blocks_leave}
use Rattle.civl_reduction.proofs.staged.Opened.Called.{fits, opens_so}
use Rattle.civl_reduction.proofs.staged.Chains.Quiet.{BlocksKeep}
use Rattle.civl_reduction.proofs.staged.Chains.Yielding.{yields_leave}
use Rattle.civl_reduction.specs.simulation.Refined.{Sight, IsRefined, with_values, IsPickedBefore, sight, sight_before}
use Rattle.civl_reduction.specs.simulation.Joined.{ConclusionsRefine, sight_old, sight_at}
use Rattle.civl_reduction.specs.simulation.Carried.{StepCarries, OpenBlocksCarry, CallsCarry, YieldsCarry}
use Rattle.civl_reduction.proofs.simulation.Refined.Joining.{NothingAnyhow, JoinAnyhow, refined_weaker}
use Rattle.civl_reduction.proofs.simulation.Carried.Ending.{exit_is_exit, block_refined}

-- from where it began to there all is refined
abbrev RefinedFrom : (List Value → Type 0) → Program → ℕ → Sight → Proc → List Value → Store → Bool → List Value → Type 0
RefinedFrom picked program layer began proc inputs store done outs = IsRefined picked program (layer + 1) proc inputs began (record { store = store; done = done; outs = outs })

module _ (conclude : ConclusionsRefine) (join : JoinAnyhow) (program : Program) (layer : ℕ) (picked : List Value → Type 0) (began : Sight) where
  -- the blocks of a procedure keep it
  keeps : IsLayered program → (q : ℕ) (proc : Proc) → BlocksKeep (λ x ls. picked (with_values program proc x ls)) (RefinedFrom picked program layer began) program layer q proc
  keeps layered q proc c cut b end p assumed concludes ends done fits sorts stop so =
      join picked program q (layer + 1) proc (inputs_of proc b.locals) began (sight_old b) (sight_at proc p) layered assumed.of_cut.of_proc so
      (refined_weaker (λ chosen. chosen ≡ with_values program proc p.store p.locals) picked (λ chosen e. subst picked (sym e) stop) program (layer + 1) proc (inputs_of proc b.locals) (sight_old b) (sight_at proc p)
      (conclude program (layer + 1) q c proc cut b end p layered assumed concludes ends done fits sorts))

  module _ (keep : ActionsKeepPermissions) (store : Store) (last : Config) (reached : IsReached program layer store last) (s : Shadowed) (t : ℕ) where
    -- what has ended is refined
    ends_refined : (e : HasEnded (RefinedFrom picked program layer began) program layer last s t) (f : Proc × Activation) → frame_at program (layer + 1) last.threads t ≡ Some f
        → IsRefined (λ chosen. (chosen ≡ with_values program f.0 (seen program layer s) f.1.locals) ⊎ picked chosen) program (layer + 1) f.0 (inputs_of f.0 f.1.locals) began (sight program layer s t f) × (s.shadow.done t ≡ true)
    ends_refined e f is =
        let o = e.block in
        let now : frame_at program (layer + 1) e.before.config.threads t ≡ Some e.block.f = ap (frame_in program (layer + 1)) o.there ∙ o.framed in
        let same : e.block.f ≡ f = same_Some e.block.f f (sym now ∙ (ap (λ (c : Config). frame_at program (layer + 1) c.threads t) e.config ∙ is)) in
        let seen_so : sight program layer e.before t e.block.f ≡ sight program layer s t e.block.f =
        ap (λ (z : Store). record { store = z; done = e.before.shadow.done t; outs = outs_in e.block.f.0 e.block.f.1.locals }) (sym e.store)
        ∙ ap (λ (z : Bool). record { store = seen program layer s; done = z; outs = outs_in e.block.f.0 e.block.f.1.locals }) (sym e.done) in
        let refined = block_refined conclude join keep program layer store e.before t (subst (IsReached program layer store) (sym e.config) reached) o picked began e.began (exit_of o.f.0) (exit_ends o.f.0) e.concludes in (
          subst (λ (g : Proc × Activation). IsRefined (λ chosen. (chosen ≡ with_values program g.0 (seen program layer s) g.1.locals) ⊎ picked chosen) program (layer + 1) g.0 (inputs_of g.0 g.1.locals) began (sight program layer s t g)) same
              (subst (λ (z : Store). IsRefined (λ chosen. (chosen ≡ with_values program o.f.0 z o.f.1.locals) ⊎ picked chosen) program (layer + 1) o.f.0 (inputs_of o.f.0 o.f.1.locals) began (sight program layer s t o.f)) (sym e.store)
              (subst (IsRefined (λ chosen. (chosen ≡ with_values program o.f.0 (seen program layer e.before) o.f.1.locals) ⊎ picked chosen) program (layer + 1) o.f.0 (inputs_of o.f.0 o.f.1.locals) began) seen_so refined)),
          e.done ∙ (sym o.done ∙ e.concludes.done (exit_is_exit o.f.0)),
        )

    carries : LeavesSo (RefinedFrom picked program layer began) program layer last s t → StepCarries picked program layer began last s t
    carries (inl x) = inl (x.0, x.1, x.2)
    carries (inr x) = inr (x.1, x.0.fits, λ f is. ends_refined x.2 f is)

pub carried_step : ConclusionsRefine → JoinAnyhow → ActionsKeepPermissions → SpawnsAreInRoots → OpenBlocksCarry
carried_step conclude join keep in_roots program layer store s m d r mv e o goes picked began carried =
    carries conclude join program layer picked began keep store s.config r (stepped program layer s m d) m.thread
    (open_blocks_leave keep in_roots program layer store s m d r mv e o goes (RefinedFrom picked program layer began) carried)

pub calls_carry : ActionsKeepPermissions → CallsCarry
calls_carry keep program layer store s m d f r mv e calm unchallenged before after picked =
    opens_so keep program layer store s m d f r mv e calm unchallenged before after (RefinedFrom picked program layer (sight_before program layer s m.thread None))
    (record {
      stays = λ q. absurd (false≢true q);
      same = λ q. agree_self (exists_at (layer + 1)) program.globals (seen program layer s).values (fits keep program layer store s m d f r mv e calm unchallenged before after);
      outs = λ q. absurd (false≢true q);
      acts = λ q z. absurd (false≢true z);
    })

pub yields_carry : ConclusionsRefine → JoinAnyhow → NothingAnyhow → ActionsKeepPermissions → SpawnsAreInRoots → YieldsCarry
yields_carry conclude join nothing keep in_roots program layer store s m d f r mv e calm unchallenged now yields =
    let c = r.checked in
    let kept = run_is_kept keep program layer store c r.moves s.config r.are r.runs in
    let began : Sight = sight program layer s m.thread f in
    let picked : List Value → Type 0 = IsPickedBefore program layer s m.thread (Some f) in
    carries conclude join program layer picked began keep store s.config r (stepped program layer (record { config = s.config; shadow = before_step program layer m.thread s.config s.shadow }) m d) m.thread
    (yields_leave keep in_roots program layer store s m d f r mv e calm unchallenged now yields (λ x ls. IsPickedBefore program layer s m.thread (Some f) (with_values program f.0 x ls)) (λ x h. (x, h, refl))
    (RefinedFrom picked program layer began) (keeps conclude join program layer picked began c.layered f.1.procedure f.0)
    (nothing picked program (layer + 1) f.0 (inputs_of f.0 f.1.locals) began (merged_fit program layer s.config.store s.shadow.store kept.of_plain.store calm.fits)))
