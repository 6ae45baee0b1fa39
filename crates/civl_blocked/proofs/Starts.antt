-- Where a run starts.
use Rattle.std.proofs.Common.{ℕ, ◌≡◌, true, false, List, [], ◌∷◌, None, refl, sym, ap, subst, ◌∙◌, arith, inr}
use Rattle.std.specs.Prelude.{All}
use Rattle.std.proofs.lemmas.Option.{none-some}
use Rattle.std.proofs.lemmas.List.Elements.{All-nil}
use Rattle.civl_tree.specs.declared.program.Program.{Program}
use Rattle.civl_firing.specs.declared.store.Store.{Store}
use Rattle.civl_meaning.specs.declared.config.Move.{Move}
use Rattle.civl_meaning.specs.declared.config.Plain.{Plain}
use Rattle.civl_meaning.specs.declared.config.Config.{Config}
use Rattle.civl_meaning.specs.Failing.{IsMove}
use Rattle.civl_meaning.specs.Step.{start}
use Rattle.civl_meaning.specs.Run as meaning
use Rattle.civl_meaning.specs.Layers.{program_at}
use Rattle.civl_reduction.specs.interleavings.Runs.{SystemRuns, Staged, begun}
use Rattle.civl_reduction.specs.blocks.Challenged.{challenged}
use Rattle.civl_reduction.specs.blocks.Shadow.{shadowed_start}
use Rattle.civl_shadows.specs.Shadows.{Shows}
use Rattle.civl_shadows.specs.declared.shadow.Shadowed as kept
use Rattle.civl_reduction.specs.gathered.System.{made}
use Rattle.civl_blocked.specs.declared.ground.Ground.{Ground}
use Rattle.civl_blocked.specs.Blocked.{Fails, IsTurned}
use Rattle.civl_blocked.specs.inner.Segments.{over, program_of, FailsTo}
use Rattle.civl_blocked.specs.inner.Turning.{Going}
use Rattle.civl_blocked.proofs.Failures.{any_fails}

-- the program is that of the layer
pub layer_is : (plain : Plain) (source : Program) (layer : ℕ) → plain ≡ program_at source layer → plain ≡ program_at plain.program layer
layer_is plain source layer e = e ∙ sym (ap (λ (p : Plain). program_at p.program layer) e)

module _ (g : Ground) where
  pub system_runs : (ms : List Move) (c e : Config) → meaning.RunsTo (program_at (program_of g) g.layer) ms c e → SystemRuns (over g).steps ms c e
  system_runs [] c e r = r
  system_runs (m ∷ ms) c e r = (r.0, ap made r.1, system_runs ms r.0 e r.2)

  pub started : (moves : List Move) (beside : kept.Shadowed) → All IsMove moves → Fails (program_of g) g.layer g.store.now moves → challenged (program_of g) g.layer g.store.now [] ≡ false
      → Shows beside (shadowed_start (program_of g) g.layer g.store.now) → Going g [] None beside moves
  started moves beside v f calm shows = record {
    standing = record {
      staged = subst (Staged (over g) [] None) (sym shows.config) (begun calm);
      done_moves = All-nil IsMove;
      beside_it = shows;
      late = λ u e. absurd (none-some u e);
    };
    rest_moves = v;
    fails = subst (FailsTo (over g) moves) (sym shows.config) (f.0, system_runs moves (start (program_at (program_of g) g.layer) g.store.now) f.0 f.1, any_fails (program_at (program_of g) g.layer) f.0 f.2);
  }

pub started_with : (g : Ground) (moves none rest : List Move) (beside : kept.Shadowed) → none ≡ [] → rest ≡ moves → All IsMove moves → Fails (program_of g) g.layer g.store.now moves → challenged (program_of g) g.layer g.store.now [] ≡ false
    → Shows beside (shadowed_start (program_of g) g.layer g.store.now) → Going g none None beside rest
started_with g moves none rest beside e f v w calm shows =
    subst (λ (l : List Move). Going g l None beside rest) (sym e) (subst (λ (l : List Move). Going g [] None beside l) (sym f) (started g moves beside v w calm shows))

pub challenged_at_once : (program : Program) (layer : ℕ) (store : Store) (moves none : List Move) → none ≡ [] → challenged program layer store [] ≡ true → IsTurned program layer store moves none
challenged_at_once program layer store moves none is hard = subst (IsTurned program layer store moves) (sym is) (record {
  end = start (program_at program layer) store;
  are_moves = All-nil IsMove;
  runs = (refl, refl);
  fails = inr hard;
  few = omega arith;
})
