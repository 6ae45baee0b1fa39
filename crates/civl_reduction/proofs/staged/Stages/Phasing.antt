-- The phases of the blocks of a layer's program are as the reduction asks.
use Rattle.std.proofs.Common.{◌≡◌, ◌≢◌, ℕ, ◌+◌, Bool, true, false, List, refl, sym, ◌∙◌, subst, Option, None, Some}
use Rattle.std.specs.Prelude.{is_some, if◌then◌else◌}
use Rattle.std.proofs.lemmas.Bool.{false≢true}
use Rattle.civl_bits.specs.declared.value.Value.{Value}
use Rattle.civl_tree.specs.declared.action.Mover.{Mover}
use Rattle.civl_tree.specs.declared.action.Mover.TheVariants.{Atomic, Right, Left, Both}
use Rattle.civl_tree.specs.declared.program.Program.{Program}
use Rattle.civl_tree.specs.rules.Rules.{Keeps}
use Rattle.civl_firing.specs.declared.store.Store.{Store}
use Rattle.civl_meaning.specs.declared.config.Plain.{Plain}
use Rattle.civl_meaning.specs.declared.config.Running.{Running}
use Rattle.civl_meaning.specs.Rest.{Rest}
use Rattle.civl_meaning.specs.Layers.{program_at}
use Rattle.civl_meaning.specs.Config.{IsPlain, IsStacked}
use Rattle.civl_soundness.proofs.Fitting.{all_at}
use Rattle.civl_layers.specs.Layered.{IsLayered}
use Rattle.civl_yields.specs.Movers.{turns}
use Rattle.civl_layers.specs.Movers.{is_right}
use Rattle.civl_yields.specs.YieldRules.{yield_rules}
use Rattle.civl_reduction.specs.interleavings.Reduction.{Place, Between, Early, Late, is_inside}
use Rattle.civl_reduction.specs.interleavings.Threads.{IsIn, Phases}
use Rattle.civl_reduction.specs.interleavings.Threads as threads
use Rattle.civl_reduction.specs.exchanges.Interleavings.{Chosen, Call, whole}
use Rattle.civl_meaning.specs.Change.{doing}
use Rattle.civl_reduction.proofs.exchanges.Exchanging.{config_of}
use Rattle.civl_reduction.proofs.permissions.Staying.{IsKept}
use Rattle.civl_reduction.proofs.mover_laws.Instance as mover
use Rattle.civl_reduction.specs.blocks.Blocks.{block_rest, inside}
use Rattle.civl_reduction.specs.blocks.Ahead.{ahead_in}
use Rattle.civl_reduction.specs.blocks.Stands.{place_of_rest, stands}
use Rattle.civl_reduction.specs.blocks.Reduces.{layer_threads}
use Rattle.civl_reduction.specs.blocks.Turns.{LateDoes, AnyDoes}
use Rattle.civl_reduction.proofs.blocks.Standing.Threads.{late_does, any_does}

right_is : (m : Mover) → turns m ≡ false → is_right m ≡ true
right_is Atomic e = absurd (false≢true (sym e))
right_is Right e = refl
right_is Left e = absurd (false≢true (sym e))
right_is Both e = refl

between_not : (p q : Place) → p ≡ Between → q ≢ Between → p ≢ q
between_not p q e n h = n (sym h ∙ e)

early_not_between : Early ≢ Between
early_not_between e = cc

module _ (program : Program) (layer : ℕ) (src : IsLayered program) (ok : IsPlain (program_at program layer)) (yields : Keeps yield_rules program) (store : Store) where
  abbrev plain : Plain
  plain = program_at program layer

  abbrev Holds : threads.Config Store Running → Type 0
  Holds c = IsKept plain (config_of c)

  -- a thread is inside a block where it stands early or late
  inside_so : (r : Running) → inside program layer r ≡ is_inside (stands program layer r)
  inside_so r = by_rest (block_rest program (layer + 1) r)
    where
      by_ahead : (b : Bool) → true ≡ is_inside (if b then Early else Late)
      by_ahead true = refl
      by_ahead false = refl

      by_rest : (o : Option Rest) → is_some o ≡ is_inside (place_of_rest program o)
      by_rest None = refl
      by_rest (Some rest) = by_ahead (ahead_in program rest)

  late : (r : Running) → IsIn Holds r → stands program layer r ≡ Late → LateDoes program layer (whole r (doing plain r))
  late r i l = late_does program layer src ok yields r.callee r.args r.state (all_at (IsStacked plain) i.0.threads i.1 r i.3 i.2.of_plain.stacked) l

  any : (r : Running) → AnyDoes program layer (whole r (doing plain r))
  any r = any_does program layer src ok yields r.callee r.args r.state

  late_then : (r : Running) (d : threads.Doing Running Call (List Value)) → IsIn Holds r → whole r (doing plain r) ≡ d → stands program layer r ≡ Late → LateDoes program layer d
  late_then r d i e l = subst (LateDoes program layer) e (late r i l)

  any_then : (r : Running) (d : threads.Doing Running Call (List Value)) → whole r (doing plain r) ≡ d → AnyDoes program layer d
  any_then r d e = subst (AnyDoes program layer) e (any r)

  pub are_phases : Phases Store Running Call Chosen (List Value) (layer_threads program layer store) (stands program layer) mover.Right mover.Left Holds
  are_phases = record {
    inside_is = inside_so;
    early_right = λ r x f o i e h. right_is x.0.mover (any_then r (threads.Calls x f) e o h);
    early_spawn = λ r s n i e. between_not (stands program layer s) Early (any_then r (threads.Spawns s n) e).0 early_not_between;
    late_spawn = λ r s n i e l. late_then r (threads.Spawns s n) i e l;
    new_between = λ r s n i e. (any_then r (threads.Spawns s n) e).1;
    late_left = λ r x f i e l. (late_then r (threads.Calls x f) i e l).0;
    late_goes = λ r s i e l. late_then r (threads.Goes s) i e l;
    late_calls = λ r x f o i e l. (late_then r (threads.Calls x f) i e l).1 o;
    late_waits = λ r i l e. late_then r threads.Waits i e l;
  }
