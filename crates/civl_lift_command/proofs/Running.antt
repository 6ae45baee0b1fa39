-- What a trace says of failing.
use Rattle.std.proofs.Common.{ℕ, ◌≡◌, ◌+◌, Bool, true, false, ◌&&◌, List, [], ◌∷◌, length, Option, None, Some, refl, sym, ap, ap₂, ◌∙◌, arith}
use Rattle.std.specs.Prelude.{is_some, is_none, if◌then◌else◌}
use Rattle.std.specs.List.{All}
use Rattle.std.proofs.lemmas.Option.{none-some}
use Rattle.std.proofs.lemmas.Bool.{and_parts}
use Rattle.civl_tree.proofs.Lists.{some_position}
use Rattle.civl_firing.specs.declared.store.Store.{Store}
use Rattle.civl_meaning.specs.declared.config.Plain.{Plain}
use Rattle.civl_meaning.specs.declared.config.Config.{Config}
use Rattle.civl_meaning.specs.declared.config.Move.{Move}
use Rattle.civl_meaning.specs.declared.config.Stepped.{Stepped}
use Rattle.civl_meaning.specs.declared.config.Stepped.TheVariants as answer
use Rattle.civl_meaning.specs.Failing.{IsMove, thread_fails, is_failing, failing_thread}
use Rattle.civl_meaning.specs.Step.{start, step_of}
use Rattle.civl_meaning.specs.Run.{RunsTo, has_moved, run_of}
use Rattle.civl_meaning.proofs.Runs.{runs_are_made}
use Rattle.civl_script.specs.replays.Trace.{read_off, trace_of}
use Rattle.civl_script.specs.declared.replays.trace.Trace.{Trace}
use Rattle.civl_lifting.specs.Lifted.{FailsBy}

-- ---- there is a first one that passes where any does

-- so some thread fails just where there is a least one that does
pub least_fails : (plain : Plain) (config : Config) → is_some (failing_thread plain config) ≡ is_failing plain config
least_fails plain config = some_position (thread_fails plain config.store) config.threads

-- ---- a run that isn't stopped makes all its moves

went_on : (a : Stepped) (rest : ℕ × Option Stepped × Config) (k : ℕ) (from : Config) → (if has_moved a then rest else (k, Some a, from)).1 ≡ None → (if has_moved a then rest else (k, Some a, from)) ≡ rest
went_on answer.Moved rest k from e = refl
went_on answer.Blocked rest k from e = absurd (none-some answer.Blocked (sym e))
went_on answer.NoThread rest k from e = absurd (none-some answer.NoThread (sym e))
went_on answer.Ended rest k from e = absurd (none-some answer.Ended (sym e))
went_on answer.Failing rest k from e = absurd (none-some answer.Failing (sym e))
went_on answer.BadChoices rest k from e = absurd (none-some answer.BadChoices (sym e))

all_made : (plain : Plain) (ms : List Move) (k : ℕ) (from : Config) → (run_of plain ms k from).1 ≡ None → (run_of plain ms k from).0 ≡ k + length ms
all_made plain [] k from e = omega arith
all_made plain (m ∷ ms) k from e =
    let s = step_of plain from m in
    let w = went_on s.0 (run_of plain ms (k + 1) s.1) k from e in
    let stopped = sym (ap (λ (t : ℕ × Option Stepped × Config). t.1) w) ∙ e in
    let n : k + 1 + length ms ≡ k + length (m ∷ ms) = omega arith in
    ap (λ (t : ℕ × Option Stepped × Config). t.0) w ∙ (all_made plain ms (k + 1) s.1 stopped ∙ n)

-- ---- failing, and its trace

none_is : (o : Option Stepped) → is_none o ≡ true → o ≡ None
none_is None e = refl
none_is (Some a) e = absurd cc

module _ (plain : Plain) (store : Store) (moves : List Move) where
  abbrev made : ℕ × Option Stepped × Config
  made = run_of plain moves 0 (start plain store)

  runs_whole : made.1 ≡ None → RunsTo plain moves (start plain store) made.2
  runs_whole e =
      let n : 0 + length moves ≡ length moves = omega arith in
      let count = all_made plain moves 0 (start plain store) e ∙ n in
      (runs_are_made plain moves (start plain store) made.2).1 (ap₂ (λ (i : ℕ) (o : Option Stepped). (i, o, made.2)) count e)

  -- moves that fail give this trace
  pub failing_trace : (f : FailsBy plain store moves) → trace_of plain store moves ≡ read_off plain (length moves, None, f.end)
  failing_trace f = ap (read_off plain) ((runs_are_made plain moves (start plain store) f.end).0 f.runs)

  module _ (trace : Trace) (is : trace ≡ trace_of plain store moves) where
    -- the trace of moves that aren't stopped, at whose end some thread fails
    pub fails_by : All IsMove moves → (is_none trace.stopped && is_some trace.failing) ≡ true → FailsBy plain store moves
    fails_by are e =
        let h = and_parts (is_none trace.stopped) (is_some trace.failing) e in
        record {
          are_moves = are;
          end = made.2;
          runs = runs_whole (sym (ap (λ (t : Trace). t.stopped) is) ∙ none_is trace.stopped h.0);
          fails = sym (least_fails plain made.2) ∙ (sym (ap (λ (t : Trace). is_some t.failing) is) ∙ h.1);
        }

    -- the least thread that fails at the end
    pub least_at : (f : FailsBy plain store moves) → trace.failing ≡ failing_thread plain f.end
    least_at f = ap (λ (t : Trace). t.failing) (is ∙ failing_trace f)

    pub some_fails : FailsBy plain store moves → is_some trace.failing ≡ true
    some_fails f = ap is_some (least_at f) ∙ (least_fails plain f.end ∙ f.fails)

    pub fails_not : (is_none trace.stopped && is_some trace.failing) ≡ false → FailsBy plain store moves → ⊥
    fails_not e f =
        let none = ap (λ (t : Trace). is_none t.stopped) (is ∙ failing_trace f) in
        let whole = ap₂ (λ (a b : Bool). a && b) none (some_fails f) in
        clash (sym whole ∙ e)
      where
        clash : true ≡ false → ⊥
        clash q = cc
