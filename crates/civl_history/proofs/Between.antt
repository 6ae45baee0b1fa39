-- What a change does to the locals is what differs in the topmost of the frames that its thread has before it and behind it.
use Rattle.std.proofs.Common.{◌≡◌, ℕ, ◌+◌, ◌-◌, Bool, true, false, List, [], ◌∷◌, ◌++◌, length, take, refl, sym, ap, ◌∙◌, Option, Some, None, arith, min}
use Rattle.std.specs.Prelude.{if◌then◌else◌, slice_get, IsTrue}
use Rattle.std.proofs.lemmas.List.{length-append}
use Rattle.std.proofs.lemmas.Grind.{common_steps}
use Rattle.civl_bits.specs.declared.value.Value.{Value}
use Rattle.civl_bits.specs.Value.{same_value}
use Rattle.civl_bits.specs.ValueLaws.{SameValueIsEquality}
use Rattle.civl_tree.proofs.Lists.{get_front, last_there}
use Rattle.civl_meaning.specs.declared.config.Activation.{Activation}
use Rattle.civl_meaning.specs.declared.config.Change.{Change}
use Rattle.civl_meaning.specs.declared.config.Change.TheVariants as change
use Rattle.civl_meaning.specs.declared.config.State.{State}
use Rattle.civl_meaning.specs.declared.config.State.TheVariants.{Before, Inside, After}
use Rattle.civl_meaning.specs.Change.{caller_of}
use Rattle.civl_meaning.specs.Step.{state_after}
use Rattle.civl_history.specs.declared.changes.Changed.{Changed}
use Rattle.civl_history.specs.declared.moves.StepKind.{StepKind}
use Rattle.civl_history.specs.History.{locals_of, change_at, changes_from, changes, local_changes}
use Rattle.civl_history.specs.Laws.{shared_changes}
use Rattle.civl_history.proofs.Seen.{IsSeen}

-- nothing differs from no values
pub none_first : (values : List Value) → changes [] values ≡ []
none_first values = refl

pub none_second : (values : List Value) → changes values [] ≡ []
none_second [] = refl
none_second (v ∷ values) = refl

-- nothing differs from itself
module _ (same : SameValueIsEquality) where
  same_at : (place : ℕ) (v : Value) → change_at place v v ≡ []
  same_at place v = by (same_value v v) ((same v v).1 refl)
    where
      one : Changed
      one = record { place = place; before = v; after = v }

      by : (b : Bool) → IsTrue b → (if b then [] else one ∷ []) ≡ []
      by true t = refl
      by false t = absurd (cc)

  same_from : (place : ℕ) (values : List Value) → changes_from place values values ≡ []
  same_from place [] = refl
  same_from place (v ∷ values) = ap (λ (l : List Changed). l ++ changes_from (place + 1) values values) (same_at place v) ∙ same_from (place + 1) values

-- frames, of which the last shared one is this in both
shared_is : (before behind : List Activation) (count : ℕ) (first second : Activation) → min (length before) (length behind) - 1 ≡ count → slice_get before count ≡ Some first → slice_get behind count ≡ Some second →
    changes (locals_of (slice_get before (min (length before) (length behind) - 1))) (locals_of (slice_get behind (min (length before) (length behind) - 1))) ≡ changes first.locals second.locals
shared_is before behind count first second n e f =
    let one : slice_get before (min (length before) (length behind) - 1) ≡ Some first = ap (slice_get before) n ∙ e in
    let two : slice_get behind (min (length before) (length behind) - 1) ≡ Some second = ap (slice_get behind) n ∙ f in
    ap (λ (o : Option Activation). changes (locals_of o) (locals_of (slice_get behind (min (length before) (length behind) - 1)))) one
    ∙ ap (λ (o : Option Activation). changes first.locals (locals_of o)) two

-- the topmost frame is changed
top_shared : (below : List Activation) (top other : Activation) → changes top.locals other.locals ≡ shared_changes (Inside below top) (Inside below other)
top_shared below top other =
    sym (shared_is (below ++ top ∷ []) (below ++ other ∷ []) (length below) top other (omega (arith, length-append below (top ∷ []), length-append below (other ∷ []))) (last_there below top) (last_there below other))

-- a frame is put on it, which waits
entered_shared : SameValueIsEquality → (below : List Activation) (top waiting new : Activation) → top.locals ≡ waiting.locals → [] ≡ shared_changes (Inside below top) (Inside (below ++ waiting ∷ []) new)
entered_shared same below top waiting new e =
    sym (shared_is (below ++ top ∷ []) ((below ++ waiting ∷ []) ++ new ∷ []) (length below) top waiting
    (omega (arith, length-append below (top ∷ []), length-append (below ++ waiting ∷ []) (new ∷ []), length-append below (waiting ∷ []))) (last_there below top) (get_front (below ++ waiting ∷ []) (new ∷ []) (length below) waiting (last_there below waiting))
    ∙ ap (λ (vs : List Value). changes top.locals vs) (sym e) ∙ same_from same 0 top.locals)

-- it goes, and the one below is changed
length_front : (below : List Activation) → length (take (length below - 1) below) ≡ length below - 1
length_front below = grind (arith, common_steps)

returned_shared : (below : List Activation) (top waiting caller : Activation) → caller_of below ≡ Some waiting → changes (locals_of (caller_of below)) caller.locals ≡ shared_changes (Inside below top) (Inside (take (length below - 1) below) caller)
returned_shared [] top waiting caller e = absurd (cc)
returned_shared (frame ∷ frames) top waiting caller e =
    let below : List Activation = frame ∷ frames in
    let front = length_front below in
    ap (λ (o : Option Activation). changes (locals_of o) caller.locals) e
    ∙ sym (shared_is (below ++ top ∷ []) (take (length below - 1) below ++ caller ∷ []) (length below - 1) waiting caller
    (omega (arith, length-append below (top ∷ []), length-append (take (length below - 1) below) (caller ∷ []))) (get_front below (top ∷ []) (length below - 1) waiting e)
    (ap (slice_get (take (length below - 1) below ++ caller ∷ [])) (sym front) ∙ last_there (take (length below - 1) below) caller))

-- whatever the change is
pub locals_shared : SameValueIsEquality → (threads : ℕ) (state : State) (seen : State → StepKind) (kept : List Value) (made : Change) → IsSeen threads state seen kept made → local_changes state made ≡ shared_changes state (state_after state made)
locals_shared same threads Before seen kept (change.Stays stepped) h = refl
locals_shared same threads Before seen kept (change.Goes locals place) h = refl
locals_shared same threads Before seen kept (change.Acts store locals place) h = refl
locals_shared same threads Before seen kept (change.Enters frame place) h = refl
locals_shared same threads Before seen kept (change.Leaves caller) h = refl
locals_shared same threads Before seen kept (change.Spawns spawned place) h = refl
locals_shared same threads After seen kept (change.Stays stepped) h = refl
locals_shared same threads After seen kept (change.Goes locals place) h = refl
locals_shared same threads After seen kept (change.Acts store locals place) h = refl
locals_shared same threads After seen kept (change.Enters frame place) h = refl
locals_shared same threads After seen kept (change.Leaves caller) h = refl
locals_shared same threads After seen kept (change.Spawns spawned place) h = refl
locals_shared same threads (Inside below top) seen kept (change.Stays stepped) h = sym (same_from same 0 top.locals) ∙ top_shared below top top
locals_shared same threads (Inside below top) seen kept (change.Goes locals place) h = top_shared below top (record { procedure = top.procedure; place = place; locals = locals })
locals_shared same threads (Inside below top) seen kept (change.Acts store locals place) h = top_shared below top (record { procedure = top.procedure; place = place; locals = locals })
locals_shared same threads (Inside below top) seen kept (change.Enters frame place) h = entered_shared same below top (record { procedure = top.procedure; place = place; locals = top.locals }) frame refl
locals_shared same threads (Inside below top) seen kept (change.Leaves None) h = sym (none_second _)
locals_shared same threads (Inside below top) seen kept (change.Leaves (Some caller)) h = returned_shared below top h.caller.0 caller h.caller.1
locals_shared same threads (Inside below top) seen kept (change.Spawns spawned place) h = sym (same_from same 0 top.locals) ∙ top_shared below top (record { procedure = top.procedure; place = place; locals = top.locals })
