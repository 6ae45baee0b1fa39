-- Histories, move by move.
use Rattle.std.proofs.Common.{ℕ, ◌≡◌, ◌+◌, Bool, true, false, List, [], ◌∷◌, ◌++◌, length, Option, Some, None, refl, sym, ap, ◌∙◌, subst, arith, zero, suc}
use Rattle.std.specs.Prelude.{slice_get, option_map, if◌then◌else◌}
use Rattle.std.proofs.lemmas.Option.{none-some, same_Some}
use Rattle.civl_bits.specs.declared.value.Value.{Value}
use Rattle.civl_bits.specs.ValueLaws.{SameValueIsEquality}
use Rattle.civl_meaning.specs.declared.config.Config.{Config}
use Rattle.civl_meaning.specs.declared.config.Move.{Move}
use Rattle.civl_meaning.specs.declared.config.Plain.{Plain}
use Rattle.civl_meaning.specs.declared.config.Running.{Running}
use Rattle.civl_meaning.specs.declared.config.Change.{Change}
use Rattle.civl_meaning.specs.declared.config.Change.TheVariants as change
use Rattle.civl_meaning.specs.declared.config.Stepped.{Stepped}
use Rattle.civl_meaning.specs.declared.config.Stepped.TheVariants as answer
use Rattle.civl_meaning.specs.Change.{change_of}
use Rattle.civl_meaning.specs.Run.{has_moved, run_of}
use Rattle.civl_meaning.specs.Step.{state_after, thread_after, config_after, step_with, step_in, step_of}
use Rattle.civl_history.specs.declared.moves.MadeMove.{MadeMove}
use Rattle.civl_history.specs.declared.moves.StepKind.{StepKind}
use Rattle.civl_history.specs.Stands.{stands}
use Rattle.civl_history.specs.History.{kind_of, local_changes, changes, told_in, told, told_before, history}
use Rattle.civl_history.specs.Laws.{shared_changes, IsToldOf, IsToldAt, EachIsTold, AsManyAsMade}
use Rattle.civl_history.specs.inner.Ahead.{kind_seen, below_of, next_of, locals_kept}
use Rattle.civl_meaning.specs.declared.config.State.{State}
use Rattle.civl_history.proofs.Between.{locals_shared}
use Rattle.civl_history.proofs.Seen.{thread_there, thread_seen, Seen, refused_told}

-- ---- one move is made and told, or neither

-- a change is made and of some kind, or neither
data Comes (plain : Plain) (config : Config) (t : ℕ) (thread : Running) (threads : ℕ) (made : Change) : Type 0 where
  Makes : (kind : StepKind) → (SameValueIsEquality → local_changes thread.state made ≡ shared_changes thread.state (state_after thread.state made)) → kind_of threads made ≡ Some kind → step_with config t thread made ≡ (answer.Moved, config_after config t thread made) → Comes plain config t thread threads made
  Stops : (has_moved (step_with config t thread made).0 ≡ false) → Comes plain config t thread threads made

seen_comes : (plain : Plain) (config : Config) (t : ℕ) (thread : Running) (threads : ℕ) (seen : State → StepKind) (kept : List Value) (made : Change) → Seen threads thread.state seen kept made → Comes plain config t thread threads made
seen_comes plain config t thread threads seen kept (change.Stays stepped) h = Stops h
seen_comes plain config t thread threads seen kept (change.Goes locals place) h = Makes _ (λ same. locals_shared same threads thread.state seen kept _ h) h.kind refl
seen_comes plain config t thread threads seen kept (change.Acts store locals place) h = Makes _ (λ same. locals_shared same threads thread.state seen kept _ h) h.kind refl
seen_comes plain config t thread threads seen kept (change.Enters frame place) h = Makes _ (λ same. locals_shared same threads thread.state seen kept _ h) h.kind refl
seen_comes plain config t thread threads seen kept (change.Leaves caller) h = Makes _ (λ same. locals_shared same threads thread.state seen kept _ h) h.kind refl
seen_comes plain config t thread threads seen kept (change.Spawns spawned place) h = Makes _ (λ same. locals_shared same threads thread.state seen kept _ h) h.kind refl

comes : (plain : Plain) (config : Config) (move : Move) (thread : Running) → Comes plain config move.thread thread (length config.threads) (change_of plain config.store move.choices thread)
comes plain config move thread =
    seen_comes plain config move.thread thread (length config.threads) (λ behind. kind_seen (length config.threads) (below_of thread.state) (next_of plain thread) behind) (locals_kept thread.state (next_of plain thread)) (change_of plain config.store move.choices thread)
    (thread_seen (length config.threads) plain config.store move.choices thread thread.state)

-- what comes of a move: it is told as it is made, or it isn't made
data Ends (plain : Plain) (config : Config) (move : Move) : Type 0 where
  Made : (made : MadeMove) → told plain config move ≡ Some made → step_of plain config move ≡ (answer.Moved, (step_of plain config move).1) → (SameValueIsEquality → IsToldOf plain config move (step_of plain config move).1 made) → Ends plain config move
  Refused : told plain config move ≡ None → has_moved (step_of plain config move).0 ≡ false → Ends plain config move

ends : (plain : Plain) (config : Config) (move : Move) → Ends plain config move
ends plain config move = by_thread (slice_get config.threads move.thread) refl
  where
    refused : has_moved (step_of plain config move).0 ≡ false → Ends plain config move
    refused h = Refused (refused_told plain config move h) h

    by_thread : (o : Option Running) → slice_get config.threads move.thread ≡ o → Ends plain config move
    by_thread None none = refused (ap (λ (o : Option Running). has_moved (step_in plain config move o).0) none)
    by_thread (Some thread) there = by (comes plain config move thread)
      where
        made : Change
        made = change_of plain config.store move.choices thread

        by : Comes plain config move.thread thread (length config.threads) made → Ends plain config move
        by (Stops h) = refused (ap (λ (o : Option Running). has_moved (step_in plain config move o).0) there ∙ h)
        by (Makes kind locals is step) =
            let moved : step_of plain config move ≡ (answer.Moved, config_after config move.thread thread made) = ap (step_in plain config move) there ∙ step in
            let next : (step_of plain config move).1 ≡ config_after config move.thread thread made = ap (λ (s : Stepped × Config). s.1) moved in
            Made (record {
              thread = move.thread;
              stood = stands plain thread;
              kind = kind;
              globals = changes config.store.values (step_of plain config move).1.store.values;
              locals = local_changes thread.state made;
            }) (ap (told_in plain config move) there ∙ ap (option_map (λ (k : StepKind). record {
              thread = move.thread;
              stood = stands plain thread;
              kind = k;
              globals = changes config.store.values (step_of plain config move).1.store.values;
              locals = local_changes thread.state made;
            })) is) (moved ∙ ap (λ (c : Config). (answer.Moved, c)) (sym next)) (λ same. record {
              step = moved ∙ ap (λ (c : Config). (answer.Moved, c)) (sym next);
              thread = thread;
              there = there;
              number = refl;
              stood = refl;
              kind = is;
              globals = refl;
              behind = thread_after thread made;
              there_behind = ap (λ (c : Config). slice_get c.threads move.thread) next ∙ thread_there config move.thread thread made there;
              locals = locals same;
            })

-- ---- runs

-- a run goes on behind a move that was made
run_made : (plain : Plain) (move : Move) (moves : List Move) (count : ℕ) (config : Config) → has_moved (step_of plain config move).0 ≡ true → run_of plain (move ∷ moves) count config ≡ run_of plain moves (count + 1) (step_of plain config move).1
run_made plain move moves count config h = rw h refl

run_stopped : (plain : Plain) (move : Move) (moves : List Move) (count : ℕ) (config : Config) → has_moved (step_of plain config move).0 ≡ false → (run_of plain (move ∷ moves) count config).0 ≡ count
run_stopped plain move moves count config h = ap (λ (b : Bool). (if b then run_of plain moves (count + 1) (step_of plain config move).1 else (count, Some (step_of plain config move).0, config)).0) h

many_from : (plain : Plain) (moves : List Move) (count : ℕ) (config : Config) → count + length (history plain config moves) ≡ (run_of plain moves count config).0
many_from plain [] count config = omega arith
many_from plain (move ∷ moves) count config = by (many_from plain moves (count + 1) (step_of plain config move).1) (ends plain config move)
  where
    next : Config
    next = (step_of plain config move).1

    by : count + 1 + length (history plain next moves) ≡ (run_of plain moves (count + 1) next).0 → Ends plain config move → count + length (history plain config (move ∷ moves)) ≡ (run_of plain (move ∷ moves) count config).0
    by rest (Refused none h) =
        let nothing : length (history plain config (move ∷ moves)) ≡ 0 = ap (λ (o : Option MadeMove). length (told_before o (history plain next moves))) none in
        let stop = run_stopped plain move moves count config h in
        omega arith
    by rest (Made made is step h) =
        let one : length (history plain config (move ∷ moves)) ≡ suc (length (history plain next moves)) = ap (λ (o : Option MadeMove). length (told_before o (history plain next moves))) is in
        let moved : has_moved (step_of plain config move).0 ≡ true = ap (λ (s : Stepped × Config). has_moved s.0) step in
        let more = ap (λ (r : ℕ × Option Stepped × Config). r.0) (run_made plain move moves count config moved) in
        omega arith

pub as_many_as_made : AsManyAsMade
as_many_as_made plain first moves = let e = many_from plain moves 0 first in omega arith

abbrev Later : Plain → Config → List Move → Type 0
Later plain next moves = (number : ℕ) (made : MadeMove) → slice_get (history plain next moves) number ≡ Some made → IsToldAt plain next moves number made

pub each_is_told : SameValueIsEquality → EachIsTold
each_is_told same plain first [] number made e = absurd (none-some made e)
each_is_told same plain first (move ∷ moves) number made e = by (each_is_told same plain (step_of plain first move).1 moves) (ends plain first move)
  where
    next : Config
    next = (step_of plain first move).1

    behind : Later plain (step_of plain first move).1 moves → (entry : MadeMove) → IsToldOf plain first move next entry → (number : ℕ) → slice_get (history plain next moves) number ≡ Some made → IsToldAt plain first (move ∷ moves) (suc number) made
    behind rest entry h number e =
        let later = rest number made e in
        record { move = later.move; there = later.there; here = later.here; runs = (next, h.step, later.runs); next = later.next; told = later.told }

    here : Later plain (step_of plain first move).1 moves → (entry : MadeMove) → IsToldOf plain first move next entry → (number : ℕ) → slice_get (entry ∷ history plain next moves) number ≡ Some made → IsToldAt plain first (move ∷ moves) number made
    here rest entry h zero e =
        let same : entry ≡ made = same_Some entry made e in
        record { move = move; there = refl; here = first; runs = refl; next = next; told = subst (IsToldOf plain first move next) same h }
    here rest entry h (suc number) e = behind rest entry h number e

    by : Later plain (step_of plain first move).1 moves → Ends plain first move → IsToldAt plain first (move ∷ moves) number made
    by rest (Refused none h) = absurd (none-some made (ap (λ (o : Option MadeMove). slice_get (told_before o (history plain next moves)) number) (sym none) ∙ e))
    by rest (Made entry is step h) = here rest entry (h same) number (ap (λ (o : Option MadeMove). slice_get (told_before o (history plain next moves)) number) (sym is) ∙ e)

-- ---- moves and then others

stopped_not : (plain : Plain) (move : Move) (moves : List Move) (made count : ℕ) (from to : Config) → has_moved (step_of plain from move).0 ≡ false → run_of plain (move ∷ moves) made from ≡ (count, None, to) → ⊥
stopped_not plain move moves made count from to h e =
    let stop : run_of plain (move ∷ moves) made from ≡ (made, Some (step_of plain from move).0, from)
    = ap (λ (b : Bool). if b then run_of plain moves (made + 1) (step_of plain from move).1 else (made, Some (step_of plain from move).0, from)) h in
    let f : Some (step_of plain from move).0 ≡ None = ap (λ (r : ℕ × Option Stepped × Config). r.1) (sym stop ∙ e) in
    absurd (cc)

-- a history of moves that are all made, and of others behind them
pub histories_join : (plain : Plain) (moves others : List Move) (made count : ℕ) (from middle : Config) → run_of plain moves made from ≡ (count, None, middle) → history plain from (moves ++ others) ≡ history plain from moves ++ history plain middle others
histories_join plain [] others made count from middle e = ap (λ (r : ℕ × Option Stepped × Config). history plain r.2 others) e
histories_join plain (move ∷ moves) others made count from middle e = by (histories_join plain moves others (made + 1) count (step_of plain from move).1 middle) (ends plain from move)
  where
    next : Config
    next = (step_of plain from move).1

    by : (run_of plain moves (made + 1) next ≡ (count, None, middle) → history plain next (moves ++ others) ≡ history plain next moves ++ history plain middle others) → Ends plain from move → history plain from (move ∷ (moves ++ others)) ≡ history plain from (move ∷ moves) ++ history plain middle others
    by later (Refused none h) = absurd (stopped_not plain move moves made count from middle h e)
    by later (Made entry is step h) =
        let moved : has_moved (step_of plain from move).0 ≡ true = ap (λ (s : Stepped × Config). has_moved s.0) step in
        let rest = later (sym (run_made plain move moves made from moved) ∙ e) in
        ap (λ (o : Option MadeMove). told_before o (history plain next (moves ++ others))) is
        ∙ ap (λ (l : List MadeMove). entry ∷ l) rest
        ∙ ap (λ (o : Option MadeMove). told_before o (history plain next moves) ++ history plain middle others) (sym is)
