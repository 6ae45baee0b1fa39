-- Serves private functions: what blocks and actions have to keep, with the terms of another thread's frame where it is a yield's invariant.
use Rattle.std.specs.Prelude.{◌≡◌, ◌<◌, ⊤, ℕ, All, Bool, true, not, ◌&&◌, List, [], map, length, get_or}
use Rattle.civl_bits.specs.declared.value.Value.{Value}
use Rattle.civl_tree.specs.declared.program.Program.{Program}
use Rattle.civl_firing.specs.declared.store.Store.{Store}
use Rattle.civl_terms.specs.declared.node.Node.{Node}
use Rattle.civl_conditions.specs.declared.condition.Target.{Target}
use Rattle.civl_conditions.specs.declared.condition.Target.TheVariants as target
use Rattle.civl_conditions.specs.Invariants.{invariant_at, invariant_lost}
use Rattle.civl_conditions.specs.Permissions.{of_held}
use Rattle.civl_conditions.specs.Targets.{Other, other_of, yield_holds}
use Rattle.civl_conditions.specs.Weights.{global_weight, note_weight, maybe_weight}
use Rattle.civl_states.specs.formula_parts.Said.{Env}
use Rattle.civl_refine.specs.declared.steadiness.kept.Kept.{Kept}
use Rattle.civl_refine.specs.declared.steadiness.kept.Kept.TheVariants.{Invariant, Yield}
use Rattle.civl_refine.specs.inner.steadiness.Others.{IsYieldIn, YieldsAt, AreFrame, SayFrame}

-- it is the target of a condition
abbrev pub IsTarget : Program → Target → Kept → Type 0
IsTarget program (target.Invariant i) (Invariant j) = j ≡ i
IsTarget program (target.Invariant i) (Yield place frame) = ⊥
IsTarget program (target.Yield r y) (Invariant j) = ⊥
IsTarget program (target.Yield r y) (Yield place frame) = YieldsAt program r y place

-- a yield is one of the program, and the terms have the sorts that belong there
abbrev pub CanKeep : List Node → Program → Kept → Type 0
CanKeep ns program (Invariant i) = ⊤
CanKeep ns program (Yield place frame) = IsYieldIn program place × AreFrame ns place.proc.now frame

-- the terms say this frame
abbrev pub SaysOther : List Node → Kept → (Env → Other) → Type 0
SaysOther ns (Invariant i) o = ⊤
SaysOther ns (Yield place frame) o = SayFrame ns place.proc.now frame o

-- the frame whose values stand from this place on
abbrev pub other_at : Kept → List Value → ℕ → Other
other_at (Invariant i) values at = record { locals = []; done = true }
other_at (Yield place frame) values at = other_of place.proc.now values at

-- what has to be kept is so before: of an invariant of the step nothing is said
abbrev pub kept_before : Program → Kept → Other → Store → Bool
kept_before program (Invariant i) o g = true
kept_before program (Yield place frame) o g = yield_holds program place.proc.now place.cut o g

-- it is so after
abbrev pub kept_after : Program → ℕ → Kept → Other → Store → Bool
kept_after program step (Invariant i) o g = not (invariant_lost program step i g)
kept_after program step (Yield place frame) o g = yield_holds program place.proc.now place.cut o g

-- it is lost
abbrev pub is_lost : Program → ℕ → Kept → Other → Store → Store → Bool
is_lost program step kept o before after = kept_before program kept o before && not (kept_after program step kept o after)

-- the permissions that the frame holds, and the terms of these words
abbrev pub words_of : Kept → Other → List (List ℕ)
words_of (Invariant i) o = []
words_of (Yield place frame) o = of_held place.held.now o.locals

abbrev pub word_ids : Kept → List ℕ
word_ids (Invariant i) = []
word_ids (Yield place frame) = map (λ n. get_or frame.locals n 0) place.held.now

-- these words are there
abbrev pub WordsWithin : Kept → Type 0
WordsWithin (Invariant i) = ⊤
WordsWithin (Yield place frame) = All (λ n. n < length frame.locals) place.held.now

abbrev pub words_count : Kept → ℕ
words_count (Invariant i) = 0
words_count (Yield place frame) = length place.held.now

-- what it weighs
abbrev pub kept_weight : Program → ℕ → Kept → ℕ
kept_weight program step (Invariant i) = maybe_weight (global_weight program) (invariant_at program step i)
kept_weight program step (Yield place frame) = note_weight program place.proc.now place.note.now
