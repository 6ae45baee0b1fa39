-- Serves private functions: when an action, or a block, loses what has to be kept.
use Rattle.std.specs.Prelude.{ℕ, Bool, not, ◌&&◌, ◌++◌, List, ◌+◌, ◌*◌, length, if◌then◌else◌}
use Rattle.civl_bits.specs.declared.value.Value.{Value}
use Rattle.civl_tree.specs.declared.action.Action.{Action}
use Rattle.civl_tree.specs.declared.program.Program.{Program}
use Rattle.civl_firing.specs.declared.store.Store.{Store}
use Rattle.civl_meaning.specs.Permissions.{pairwise_disjoint}
use Rattle.civl_conditions.specs.paths.Paths.{Outcome, progress_of}
use Rattle.civl_conditions.specs.paths.Ends.{ends_block}
use Rattle.civl_terms.specs.declared.node.Node.{Node}
use Rattle.civl_conditions.specs.Values.{Begun, Invoked as Meant}
use Rattle.civl_conditions.specs.Permissions.{in_store, of_inputs, of_held}
use Rattle.civl_conditions.specs.Weights.{lin, linear_globals}
use Rattle.civl_conditions.specs.Invariants.{invariants_hold}
use Rattle.civl_conditions.specs.Movers.{on_some, gate_of, fires_of}
use Rattle.civl_conditions.specs.Assumed.{owned, assumed}
use Rattle.civl_conditions.specs.Parts.{at_block_end}
use Rattle.civl_conditions.specs.Targets.{Other}
use Rattle.civl_states.specs.formula_parts.Said.{Env, IsTest}
use Rattle.civl_states.specs.declared.invoked.Invoked.{Invoked}
use Rattle.civl_states.specs.Stores.{AreStore}
use Rattle.civl_states.specs.Runs.{IsInvoked}
use Rattle.civl_body.specs.Walks.{ends_at}
use Rattle.civl_refine.specs.declared.start.Start.{Start}
use Rattle.civl_refine.specs.Walked.{outcome_from}
use Rattle.civl_refine.specs.declared.steadiness.kept.Kept.{Kept}
use Rattle.civl_refine.specs.declared.steadiness.kept.Kept.TheVariants.{Invariant, Yield}
use Rattle.civl_refine.specs.inner.steadiness.Kept.{SaysOther, is_lost, words_of}

-- ---- actions

-- it does, from a store where what is assumed of actions holds
abbrev pub act_loses : Program → ℕ → Kept → Other → Store → Meant → Bool
act_loses program step kept o g x =
    invariants_hold program step g
    && (gate_of program g x
    && (pairwise_disjoint (in_store program g ++ (of_inputs x ++ words_of kept o))
    && on_some (fires_of program g x) (λ a. is_lost program step kept o g a.0)))

-- the term says whether it does
abbrev pub TellsLost : List Node → List Node → Program → ℕ → List ℕ → Invoked → Kept → ℕ → Type 0
TellsLost old new program step globals x kept id =
    (a : Action) (g : Env → Store) (i c : Env → List Value) (o : Env → Other) → AreStore old program globals g → IsInvoked old program x a i c → SaysOther old kept o
    → IsTest new id (λ env. act_loses program step kept (o env) (g env) (record { action = a; inputs = i env; chosen = c env }))

-- ---- blocks

-- where the path ends at this end, it is kept there
abbrev pub kept_on_way : Start → Kept → Begun → Other → Outcome → ℕ → Bool
kept_on_way start kept b o out end = not (ends_at start.proc.now out end && is_lost start.program.now start.step kept o b.old (progress_of out).store)

-- where the path ends a block at this end, it is kept there
abbrev pub kept_at_end : Start → Kept → Begun → Other → Outcome → ℕ → Bool
kept_at_end start kept b o out end =
    not (ends_at start.proc.now out end && (ends_block start.proc.now end && is_lost start.program.now start.step kept o b.old (progress_of out).store))

-- by so much at most it raises a graph's weight
abbrev pub end_weight : Start → ℕ → ℕ → ℕ
end_weight start weight end = if ends_block start.proc.now end then weight + 1 else 0

-- the path from a cut ends a block, and there it is lost
abbrev pub block_lost : Start → Kept → Begun → Other → Bool
block_lost start kept b o = at_block_end start.proc.now (outcome_from start b) (λ p. is_lost start.program.now start.step kept o b.old p.store)

-- a block from a cut loses it, where what is assumed there holds
abbrev pub block_loses : Start → Kept → Begun → Other → Bool
block_loses start kept b o =
    assumed start.program.now start.step start.proc.now start.number start.cut b
    && (pairwise_disjoint (owned start.program.now start.proc.now start.number b ++ words_of kept o)
    && block_lost start kept b o)

-- besides, what is owned at the cut and by the frame is disjoint, where that isn't assumed in any case
abbrev pub apart_too : Start → Kept → Begun → Other → Bool → Bool
apart_too start (Invariant i) b o test = test
apart_too start (Yield place frame) b o test = pairwise_disjoint (owned start.program.now start.proc.now start.number b ++ of_held place.held.now o.locals) && test

abbrev pub together_weight : Start → Kept → ℕ
together_weight start (Invariant i) = 0
together_weight start (Yield place frame) = 4 * lin start.program.now (length start.held.now + linear_globals start.program.now + length place.held.now) + 1
