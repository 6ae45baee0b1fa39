-- What has to be kept, and the target of a condition.
use Rattle.std.specs.Prelude.{not, map, get_or, slice_get, All}
use Rattle.std.specs.Option.{option_map_or}
use Rattle.std.proofs.Common.{◌≡◌, ◌∙◌, ℕ, true, false, ◌&&◌, List, [], length, refl, sym, ap, Option, Some, None}
use Rattle.std.proofs.lemmas.List.{length-map}
use Rattle.std.proofs.lemmas.List.Elements.{All-nil}
use Rattle.std.proofs.Math.Bool.{not-not}
use Rattle.civl_bits.specs.declared.value.Value.{Value}
use Rattle.civl_tree.specs.declared.expr.Expr.{Expr}
use Rattle.civl_tree.specs.declared.expr.Sort.TheVariants.{Bool as Truth, Word}
use Rattle.civl_tree.specs.declared.program.Program.{Program}
use Rattle.civl_firing.specs.declared.store.Store.{Store}
use Rattle.civl_meaning.specs.Config.{frame_sorts}
use Rattle.civl_meaning.specs.Permissions.{permissions_of_word}
use Rattle.civl_terms.specs.declared.node.Node.{Node}
use Rattle.civl_terms.specs.Graphs.{sort_at, Fits}
use Rattle.civl_terms.specs.Building.{Grows, Lengthens}
use Rattle.civl_terms.proofs.Growing.{grows_same}
use Rattle.civl_actions.specs.Actions.{values_at}
use Rattle.civl_actions.proofs.Staying.{sorted_within}
use Rattle.civl_conditions.specs.declared.condition.Target.{Target}
use Rattle.civl_conditions.specs.declared.condition.Target.TheVariants as target
use Rattle.civl_conditions.specs.Assumed.{cut_invariant}
use Rattle.civl_conditions.specs.Invariants.{invariant_at, invariant_lost, holds_of_globals}
use Rattle.civl_conditions.specs.Permissions.{held_at, of_held}
use Rattle.civl_conditions.specs.Targets.{Other, other_of, yield_holds, target_lost, target_owned}
use Rattle.civl_conditions.specs.Weights.{note_weight, global_weight, maybe_weight, target_weight, target_items}
use Rattle.civl_states.specs.formula_parts.Said.{Env}
use Rattle.civl_states.proofs.formula_parts.Saying.{sort_stays, test_stays}
use Rattle.civl_states.proofs.formula_parts.Listing.{sorts_stay, said_stay, sorts_after, said_after}
use Rattle.civl_states.proofs.Starting.{test_after}
use Rattle.civl_states.proofs.Variables.{there_is}
use Rattle.civl_refine.proofs.Assuming.{held_words, held_carry, words_stay}
use Rattle.civl_refine.proofs.Violating.{cut_there}
use Rattle.civl_refine.specs.declared.steadiness.kept.Kept.{Kept}
use Rattle.civl_refine.specs.declared.steadiness.kept.Kept.TheVariants.{Invariant, Yield}
use Rattle.civl_refine.specs.inner.steadiness.Kept.{IsTarget, CanKeep, SaysOther, WordsWithin, other_at, is_lost, words_of, word_ids, words_count, kept_weight}

-- ---- the target of a condition

pub lost_same : (program : Program) (step : ℕ) (t : Target) (k : Kept) → IsTarget program t k → (values : List Value) (at : ℕ) (g h : Store) → is_lost program step k (other_at k values at) g h ≡ target_lost program step t values at g h
lost_same program step (target.Invariant i) (Invariant j) e values at g h = sym (sym (not-not (invariant_lost program step j h))) ∙ ap (λ (n : ℕ). invariant_lost program step n h) e
lost_same program step (target.Invariant i) (Yield place frame) e values at g h = absurd e
lost_same program step (target.Yield r y) (Invariant j) e values at g h = absurd e
lost_same program step (target.Yield r y) (Yield place frame) e values at g h =
    sym (cut_there program r y place.proc.now place.cut false (λ proc cut. yield_holds program proc cut (other_of proc values at) g && not (yield_holds program proc cut (other_of proc values at) h)) e.proc e.cut)

pub owned_same : (program : Program) (t : Target) (k : Kept) → IsTarget program t k → (values : List Value) (at : ℕ) → words_of k (other_at k values at) ≡ target_owned program t values at
owned_same program (target.Invariant i) (Invariant j) e values at = refl
owned_same program (target.Invariant i) (Yield place frame) e values at = absurd e
owned_same program (target.Yield r y) (Invariant j) e values at = absurd e
owned_same program (target.Yield r y) (Yield place frame) e values at =
    ap (λ (ns : List ℕ). of_held ns (other_of place.proc.now values at).locals) e.held
    ∙ sym (there_is (slice_get program.procs r) place.proc.now [] (λ proc. of_held (held_at program proc y) (other_of proc values at).locals) e.proc)

pub weight_same : (program : Program) (step : ℕ) (t : Target) (k : Kept) → IsTarget program t k → kept_weight program step k ≡ target_weight program step t
weight_same program step (target.Invariant i) (Invariant j) e = ap (λ (n : ℕ). maybe_weight (global_weight program) (invariant_at program step n)) e
weight_same program step (target.Invariant i) (Yield place frame) e = absurd e
weight_same program step (target.Yield r y) (Invariant j) e = absurd e
weight_same program step (target.Yield r y) (Yield place frame) e =
    sym (cut_there program r y place.proc.now place.cut 0 (λ proc cut. maybe_weight (note_weight program proc) (cut_invariant proc cut)) e.proc e.cut ∙ ap (maybe_weight (note_weight program place.proc.now)) e.note)

pub items_same : (program : Program) (t : Target) (k : Kept) → IsTarget program t k → words_count k ≡ target_items program t
items_same program (target.Invariant i) (Invariant j) e = refl
items_same program (target.Invariant i) (Yield place frame) e = absurd e
items_same program (target.Yield r y) (Invariant j) e = absurd e
items_same program (target.Yield r y) (Yield place frame) e =
    ap length e.held ∙ sym (there_is (slice_get program.procs r) place.proc.now 0 (λ proc. length (held_at program proc y)) e.proc)

-- ---- an invariant of the step

pub kept_there : (program : Program) (step place : ℕ) (g : Store) (e : Expr) → invariant_at program step place ≡ Some e → holds_of_globals program g e ≡ not (invariant_lost program step place g)
kept_there program step place g e at = sym (not-not (holds_of_globals program g e)) ∙ sym (ap (λ (o : Option Expr). not (option_map_or (λ d. not (holds_of_globals program g d)) o false)) at)

pub none_lost : (program : Program) (step place : ℕ) (g : Store) → invariant_at program step place ≡ None → true ≡ not (invariant_lost program step place g)
none_lost program step place g at = sym (ap (λ (o : Option Expr). not (option_map_or (λ d. not (holds_of_globals program g d)) o false)) at)

-- ---- what stays

flag_after : (old new : List Node) (i : ℕ) → Lengthens old new → sort_at old i ≡ Some Truth → sort_at new i ≡ Some Truth
flag_after old new i g e = g.sorts i (sorted_within old i Truth e) ∙ e

pub frame_stays : (old new : List Node) (program : Program) (k : Kept) → Grows old new → CanKeep old program k → CanKeep new program k
frame_stays old new program (Invariant i) w h = tt
frame_stays old new program (Yield place frame) w h = (h.0, record { locals = sorts_stay old new frame.locals (frame_sorts place.proc.now) w h.1.locals; done = sort_stays old new frame.done _ w h.1.done })

pub other_stays : (old new : List Node) (k : Kept) (o : Env → Other) → Grows old new → SaysOther old k o → SaysOther new k o
other_stays old new (Invariant i) o w h = tt
other_stays old new (Yield place frame) o w h = record { locals = said_stay old new frame.locals (frame_sorts place.proc.now) _ w h.locals; done = test_stays old new frame.done _ w h.done }

pub frame_after : (old new : List Node) (program : Program) (k : Kept) → Lengthens old new → CanKeep old program k → CanKeep new program k
frame_after old new program (Invariant i) w h = tt
frame_after old new program (Yield place frame) w h = (h.0, record { locals = sorts_after old new frame.locals (frame_sorts place.proc.now) w h.1.locals; done = flag_after old new frame.done w h.1.done })

pub other_after : (old new : List Node) (k : Kept) (o : Env → Other) → Lengthens old new → SaysOther old k o → SaysOther new k o
other_after old new (Invariant i) o w h = tt
other_after old new (Yield place frame) o w h = record { locals = said_after old new frame.locals (frame_sorts place.proc.now) _ w h.locals; done = test_after old new frame.done _ w h.done }

-- ---- the words that the frame holds

pub words_there : (ns : List Node) (program : Program) (k : Kept) → CanKeep ns program k → WordsWithin k
words_there ns program (Invariant i) h = tt
words_there ns program (Yield place frame) h = (held_words ns program.permissions frame.locals (frame_sorts place.proc.now) place.held.now h.1.locals h.0.words).0

pub words_sorted : (ns : List Node) (program : Program) (k : Kept) → CanKeep ns program k → All (λ i. sort_at ns i ≡ Some (Word program.permissions)) (word_ids k)
words_sorted ns program (Invariant i) h = All-nil (λ i. sort_at ns i ≡ Some (Word program.permissions))
words_sorted ns program (Yield place frame) h = words_stay ns ns program.permissions frame.locals place.held.now (grows_same ns) (held_words ns program.permissions frame.locals (frame_sorts place.proc.now) place.held.now h.1.locals h.0.words).1

pub words_long : (k : Kept) → length (word_ids k) ≡ words_count k
words_long (Invariant i) = refl
words_long (Yield place frame) = length-map place.held.now (λ n. get_or frame.locals n 0)

pub words_carry : (ns : List Node) (k : Kept) (o : Env → Other) → WordsWithin k → SaysOther ns k o → (env : Env) → Fits env ns → map permissions_of_word (values_at env ns (word_ids k)) ≡ words_of k (o env)
words_carry ns (Invariant i) o h s env fits = refl
words_carry ns (Yield place frame) o h s env fits = held_carry env ns frame.locals place.held.now (o env).locals h (s.locals.are env fits)
