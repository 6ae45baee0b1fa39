-- A trace is told by its runs.
use Rattle.std.proofs.Common.{ℕ, ◌≡◌, ◌+◌, ◌≤◌, List, [], ◌∷◌, length, take, Option, Some, refl, sym, ap, ◌∙◌, subst, arith, zero, suc, Bool, false}
use Rattle.std.specs.Prelude.{if◌then◌else◌, slice_get, ◌≢◌}
use Rattle.civl_firing.specs.declared.store.Store.{Store}
use Rattle.civl_meaning.specs.declared.config.Plain.{Plain}
use Rattle.civl_meaning.specs.declared.config.Config.{Config}
use Rattle.civl_meaning.specs.declared.config.Move.{Move}
use Rattle.civl_meaning.specs.declared.config.Stepped.{Stepped}
use Rattle.civl_meaning.specs.declared.config.Stepped.TheVariants as answer
use Rattle.civl_meaning.specs.Step.{start, step_of}
use Rattle.civl_meaning.specs.Run.{RunsTo, has_moved, run_of}
use Rattle.civl_meaning.specs.Failing.{failing_thread}
use Rattle.civl_meaning.proofs.Runs.{run_more}
use Rattle.civl_script.specs.declared.replays.trace.Trace.{Trace}
use Rattle.civl_script.specs.replays.Trace.{read_off, trace_of, EndsBy, IsTrace, TracesAreTold}

-- so many of the moves are made, to this configuration, and the run ends there
record Ends (plain : Plain) (moves : List Move) (from : Config) (n : ℕ) (stopped : Option Stepped) (last : Config) : Type 0 where
  within : n ≤ length moves
  made : RunsTo plain (take n moves) from last
  ends : EndsBy plain last (slice_get moves n) stopped

-- a run, of which so many were made before
record HasRun (plain : Plain) (moves : List Move) (k : ℕ) (from : Config) (run : ℕ × Option Stepped × Config) : Type 0 where
  count : ℕ
  sum : run.0 ≡ k + count
  ends : Ends plain moves from count run.1 run.2

not_moved : (a : Stepped) → a ≢ answer.Moved → has_moved a ≡ false
not_moved answer.Moved n = absurd (n refl)
not_moved answer.Blocked n = refl
not_moved answer.NoThread n = refl
not_moved answer.Ended n = refl
not_moved answer.Failing n = refl
not_moved answer.BadChoices n = refl

-- a step that isn't made ends a run
run_stops : (plain : Plain) (m : Move) (ms : List Move) (k : ℕ) (from : Config) → (step_of plain from m).0 ≢ answer.Moved → run_of plain (m ∷ ms) k from ≡ (k, Some (step_of plain from m).0, from)
run_stops plain m ms k from n =
    ap (λ (b : Bool). if b then run_of plain ms (k + 1) (step_of plain from m).1 else (k, Some (step_of plain from m).0, from)) (not_moved (step_of plain from m).0 n)

goes_on : (plain : Plain) (m : Move) (ms : List Move) (k : ℕ) (from next : Config) (run : ℕ × Option Stepped × Config) → step_of plain from m ≡ (answer.Moved, next) → HasRun plain ms (k + 1) next run → HasRun plain (m ∷ ms) k from run
goes_on plain m ms k from next run e h = record {
  count = suc h.count;
  sum = let s = h.sum in omega arith;
  ends = record { within = let w = h.ends.within in omega arith; made = (next, e, h.ends.made); ends = h.ends.ends };
}

stops : (plain : Plain) (m : Move) (ms : List Move) (k : ℕ) (from : Config) → (step_of plain from m).0 ≢ answer.Moved → HasRun plain (m ∷ ms) k from (k, Some (step_of plain from m).0, from)
stops plain m ms k from n = record { count = 0; sum = omega arith; ends = record { within = omega arith; made = refl; ends = (refl, n) } }

refused : (plain : Plain) (m : Move) (ms : List Move) (k : ℕ) (from : Config) (a : Stepped) (next : Config) → step_of plain from m ≡ (a, next) → a ≢ answer.Moved → HasRun plain (m ∷ ms) k from (run_of plain (m ∷ ms) k from)
refused plain m ms k from a next e n =
    let d : (step_of plain from m).0 ≢ answer.Moved = λ q. n (sym (ap (λ (s : Stepped × Config). s.0) e) ∙ q) in
    subst (HasRun plain (m ∷ ms) k from) (sym (run_stops plain m ms k from d)) (stops plain m ms k from d)

-- one move before others, by its answer
has_next : (plain : Plain) (m : Move) (ms : List Move) (k : ℕ) (from : Config) (later : (next : Config) → HasRun plain ms (k + 1) next (run_of plain ms (k + 1) next)) (a : Stepped) (next : Config) → step_of plain from m ≡ (a, next) → HasRun plain (m ∷ ms) k from (run_of plain (m ∷ ms) k from)
has_next plain m ms k from later answer.Moved next e =
    subst (HasRun plain (m ∷ ms) k from) (sym (run_more plain m ms k from next e)) (goes_on plain m ms k from next (run_of plain ms (k + 1) next) e (later next))
has_next plain m ms k from later answer.Blocked next e = refused plain m ms k from answer.Blocked next e (λ q. absurd (cc))
has_next plain m ms k from later answer.NoThread next e = refused plain m ms k from answer.NoThread next e (λ q. absurd (cc))
has_next plain m ms k from later answer.Ended next e = refused plain m ms k from answer.Ended next e (λ q. absurd (cc))
has_next plain m ms k from later answer.Failing next e = refused plain m ms k from answer.Failing next e (λ q. absurd (cc))
has_next plain m ms k from later answer.BadChoices next e = refused plain m ms k from answer.BadChoices next e (λ q. absurd (cc))

has_run : (plain : Plain) (ms : List Move) (k : ℕ) (from : Config) → HasRun plain ms k from (run_of plain ms k from)
has_run plain [] k from = record { count = 0; sum = omega arith; ends = record { within = omega arith; made = refl; ends = refl } }
has_run plain (m ∷ ms) k from =
    has_next plain m ms k from (λ next. has_run plain ms (k + 1) next) (step_of plain from m).0 (step_of plain from m).1 refl

-- and there is no other
ended : (plain : Plain) (ms : List Move) (k n : ℕ) (from last : Config) (stopped : Option Stepped) → n ≤ length ms → RunsTo plain (take n ms) from last → EndsBy plain last (slice_get ms n) stopped → run_of plain ms k from ≡ (k + n, stopped, last)
ended plain [] k zero from last stopped w r e = let s : k ≡ k + 0 = omega arith in cc
ended plain [] k (suc n) from last stopped w r e = absurd (omega arith)
ended plain (m ∷ ms) k zero from last stopped w r e =
    let s : k ≡ k + 0 = omega arith in
    ap (λ (c : Config). run_of plain (m ∷ ms) k c) r
    ∙ run_stops plain m ms k last e.1
    ∙ ap (λ (o : Option Stepped). (k, o, last)) (sym e.0)
    ∙ ap (λ (i : ℕ). (i, stopped, last)) s
ended plain (m ∷ ms) k (suc n) from last stopped w r e =
    let s : k + 1 + n ≡ k + suc n = omega arith in
    run_more plain m ms k from r.0 r.1
    ∙ ended plain ms (k + 1) n r.0 last stopped (omega arith) r.2 e
    ∙ ap (λ (i : ℕ). (i, stopped, last)) s

-- what is read off a run that ends so
told : (plain : Plain) (store : Store) (moves : List Move) (trace : Trace) → IsTrace plain store moves trace → trace ≡ trace_of plain store moves
told plain store moves trace t =
    let z : 0 + trace.moved ≡ trace.moved = omega arith in
    let e = ended plain moves 0 trace.moved (start plain store) t.last trace.stopped t.within t.made t.ends in
    let f = ap (read_off plain) (e ∙ ap (λ (i : ℕ). (i, trace.stopped, t.last)) z) in
    ap (λ (o : Option ℕ). record { moved = trace.moved; stopped = trace.stopped; failing = o; end = trace.end }) t.fails
    ∙ ap (λ (s : Store). record { moved = trace.moved; stopped = trace.stopped; failing = failing_thread plain t.last; end = s }) t.store_there
    ∙ sym f

is_trace : (plain : Plain) (store : Store) (moves : List Move) → IsTrace plain store moves (trace_of plain store moves)
is_trace plain store moves =
    let run = run_of plain moves 0 (start plain store) in
    let h = has_run plain moves 0 (start plain store) in
    let e : h.count ≡ run.0 = let s = h.sum in omega arith in
    record {
      last = run.2;
      within = let w = h.ends.within in omega arith;
      made = subst (λ (i : ℕ). RunsTo plain (take i moves) (start plain store) run.2) e h.ends.made;
      ends = subst (λ (i : ℕ). EndsBy plain run.2 (slice_get moves i) run.1) e h.ends.ends;
      fails = refl;
      store_there = refl;
    }

pub traces_are_told : TracesAreTold
traces_are_told plain store moves trace =
    (λ t. told plain store moves trace t, λ e. subst (IsTrace plain store moves) (sym e) (is_trace plain store moves))
