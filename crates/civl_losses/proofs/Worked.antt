-- The worked procedures: where their paths begin, and what they pass.
use Rattle.std.proofs.Common.{◌≡◌, ℕ, Bool, true, false, not, ◌&&◌, nat_eq, List, [], ◌∷◌, length, ap, ◌∙◌, if◌then◌else◌, Option, None, Some, slice_get}
use Rattle.std.specs.Prelude.{option_and_then}
use Rattle.std.specs.Option.{option_map_or}
use Rattle.civl_bits.specs.declared.value.Value.{Value}
use Rattle.civl_tree.specs.declared.action.Choice.{Choice}
use Rattle.civl_tree.specs.declared.expr.Expr.{the_lemmas as of_expr}
use Rattle.civl_tree.specs.declared.program.Proc.{Proc}
use Rattle.civl_tree.proofs.Layers.{layers}
use Rattle.civl_firing.specs.Fired.{gate_holds, fires, fired}
use Rattle.civl_firing.specs.examples.Written.{word, holding}
use Rattle.civl_meaning.specs.Rest.{with_rest, rest_among}
use Rattle.civl_layers.specs.declared.cut.Cut.{Cut}
use Rattle.civl_layers.specs.Cuts.{entry_cut, cuts_among, proc_cuts}
use Rattle.civl_conditions.specs.declared.condition.Part.{Part}
use Rattle.civl_conditions.specs.declared.condition.Part.TheVariants.{Gate, Once, Stutter, Perform}
use Rattle.civl_conditions.specs.paths.Ends.{is_rank_loop}
use Rattle.civl_conditions.specs.paths.Flows.{flow_from}
use Rattle.civl_conditions.specs.Assumed.{assumed}
use Rattle.civl_conditions.specs.Variables.{passed_choices}
use Rattle.civl_conditions.specs.Values.{Begun, begun, chosen_in}
use Rattle.civl_conditions.proofs.paths.Flowing.{flowing}
use Rattle.civl_conditions.proofs.paths.Passing.{passing}
use Rattle.civl_traces.specs.declared.walked.Changed.{Changed}
use Rattle.civl_traces.specs.declared.walked.Passage.{Passage}
use Rattle.civl_traces.specs.declared.walked.Ending.{Ending}
use Rattle.civl_traces.specs.declared.walked.Ending.TheVariants.{Past, Fails}
use Rattle.civl_traces.specs.declared.walked.Walked.{Walked}
use Rattle.civl_traces.specs.Traces.{trace_from}
use Rattle.civl_traces.specs.Told.{progress}
use Rattle.civl_traces.proofs.Known.{as_known, knowing}
use Rattle.civl_losses.specs.declared.loss.Loss.{Loss}
use Rattle.civl_losses.specs.declared.loss.Loss.TheVariants.{CommitAgain, NoCommit}
use Rattle.civl_losses.specs.Losses.{walked_of, part_loss, path_loss, where_assumed, again_at, changes_lost, action_lost, loss}
use Rattle.civl_losses.specs.examples.Raising.{raising, puts, forgets, repeats, GateIsFalse, ActionGivesMore, CommitIsForgotten, CommitIsRepeated}

-- ---- where they begin

-- x and n
abbrev pub given : ℕ → ℕ → List Value
given a b = word 8 a ∷ word 8 b ∷ []

abbrev pub begins : List (ℕ × List Choice) → ℕ → ℕ → Begun
begins calls a b = record {
  store = holding (word 8 a ∷ []);
  locals = word 8 b ∷ [];
  done = false;
  old = holding (word 8 a ∷ []);
  old_outs = [];
  old_done = false;
  chosen = chosen_in calls (given a b) 2;
}

puts_calls : passed_choices raising 1 puts entry_cut ≡ (0, []) ∷ (1, []) ∷ []
unfolding flow_from rest_among with_rest
puts_calls = simp (layers, flowing)

forgets_calls : passed_choices raising 1 forgets entry_cut ≡ (0, []) ∷ []
unfolding flow_from rest_among with_rest
forgets_calls = simp (layers, flowing)

repeats_calls : passed_choices raising 1 repeats entry_cut ≡ (0, []) ∷ (1, []) ∷ (2, []) ∷ []
unfolding flow_from rest_among with_rest
repeats_calls = simp (layers, flowing)

pub puts_begins : (a b : ℕ) → begun raising 1 puts entry_cut (given a b) ≡ begins ((0, []) ∷ (1, []) ∷ []) a b
puts_begins a b = ap (λ calls. begins calls a b) puts_calls

pub forgets_begins : (a b : ℕ) → begun raising 1 forgets entry_cut (given a b) ≡ begins ((0, []) ∷ []) a b
forgets_begins a b = ap (λ calls. begins calls a b) forgets_calls

pub repeats_begins : (a b : ℕ) → begun raising 1 repeats entry_cut (given a b) ≡ begins ((0, []) ∷ (1, []) ∷ (2, []) ∷ []) a b
repeats_begins a b = ap (λ calls. begins calls a b) repeats_calls

-- ---- what they pass

abbrev passage : ℕ → List Changed → Bool × Bool → Passage
passage statement changed commits = record { statement = statement; took = None; changed = changed; done = commits.0; again = commits.1 }

-- x is set
abbrev sets : ℕ → ℕ → ℕ → Bool × Bool → Passage
sets statement before after commits = passage statement (record { place = 0; before = word 8 before; after = word 8 after } ∷ []) commits

abbrev pub walked : List Passage → Ending → ℕ → ℕ × ℕ → Bool × Bool → Walked
walked passed ending at values commits = record {
  passed = passed;
  ending = ending;
  at = at;
  end = record { store = holding (word 8 values.0 ∷ []); locals = word 8 values.1 ∷ []; done = commits.0; again = commits.1 };
}

abbrev of_puts : List (ℕ × List Choice)
of_puts = (0, []) ∷ (1, []) ∷ []

abbrev of_forgets : List (ℕ × List Choice)
of_forgets = (0, []) ∷ []

abbrev of_repeats : List (ℕ × List Choice)
of_repeats = (0, []) ∷ (1, []) ∷ (2, []) ∷ []

puts_fails : walked_of raising 1 puts entry_cut (begins of_puts 5 9) ≡ walked [] Fails 0 (5, 9) (false, false)
unfolding trace_from rest_among with_rest gate_holds fires fired
puts_fails = as_known _ _ (simp (layers, of_expr, passing, knowing))

puts_from_5 : walked_of raising 1 puts entry_cut (begins of_puts 5 3) ≡ walked (sets 0 5 3 (false, false) ∷ passage 1 [] (true, false) ∷ []) Past 2 (3, 3) (true, false)
unfolding trace_from rest_among with_rest gate_holds fires fired
puts_from_5 = as_known _ _ (simp (layers, of_expr, passing, knowing))

puts_from_0 : walked_of raising 1 puts entry_cut (begins of_puts 0 3) ≡ walked (sets 0 0 3 (false, false) ∷ passage 1 [] (true, false) ∷ []) Past 2 (3, 3) (true, false)
unfolding trace_from rest_among with_rest gate_holds fires fired
puts_from_0 = as_known _ _ (simp (layers, of_expr, passing, knowing))

forgets_from_5 : walked_of raising 1 forgets entry_cut (begins of_forgets 5 3) ≡ walked (sets 0 5 3 (false, false) ∷ []) Past 1 (3, 3) (false, false)
unfolding trace_from rest_among with_rest gate_holds fires fired
forgets_from_5 = as_known _ _ (simp (layers, of_expr, passing, knowing))

forgets_from_3 : walked_of raising 1 forgets entry_cut (begins of_forgets 3 3) ≡ walked (passage 0 [] (false, false) ∷ []) Past 1 (3, 3) (false, false)
unfolding trace_from rest_among with_rest gate_holds fires fired
forgets_from_3 = as_known _ _ (simp (layers, of_expr, passing, knowing))

repeats_from_5 : walked_of raising 1 repeats entry_cut (begins of_repeats 5 3)
    ≡ walked (passage 0 [] (true, false) ∷ sets 1 5 3 (true, false) ∷ passage 2 [] (true, true) ∷ []) Past 3 (3, 3) (true, true)
unfolding trace_from rest_among with_rest gate_holds fires fired
repeats_from_5 = as_known _ _ (simp (layers, of_expr, passing, knowing))

-- ---- what is lost

lost_on : (part : Part) (proc : Proc) (b : Begun) (w : Walked) (l : Option Loss) → walked_of raising 1 proc entry_cut b ≡ w
    → where_assumed (assumed raising 1 proc 0 entry_cut b) (part_loss raising 1 proc 0 entry_cut b w part) ≡ l → path_loss raising 1 part proc 0 entry_cut b ≡ l
lost_on part proc b w l walks loses =
    ap (λ (v : Walked). where_assumed (assumed raising 1 proc 0 entry_cut b) (part_loss raising 1 proc 0 entry_cut b v part)) walks ∙ loses

-- from values to the path
lost_from : (part : Part) (proc : Proc) (values : List Value) (b : Begun) (l : Option Loss) → begun raising 1 proc entry_cut values ≡ b
    → path_loss raising 1 part proc 0 entry_cut b ≡ l → path_loss raising 1 part proc 0 entry_cut (begun raising 1 proc entry_cut values) ≡ l
lost_from part proc values b l start loses = ap (λ (c : Begun). path_loss raising 1 part proc 0 entry_cut c) start ∙ loses

pub gate_is_false : GateIsFalse
unfolding loss gate_holds fires
gate_is_false = (
  lost_from Gate puts (given 5 9) (begins of_puts 5 9) _ (puts_begins 5 9) (lost_on Gate puts (begins of_puts 5 9) _ _ puts_fails (simp (layers, of_expr))),
  lost_from Gate puts (given 5 3) (begins of_puts 5 3) _ (puts_begins 5 3) (lost_on Gate puts (begins of_puts 5 3) _ _ puts_from_5 (simp (layers, of_expr))),
)

-- ---- at the exit, which is the only end

puts_cuts : proc_cuts puts ≡ entry_cut ∷ []
unfolding cuts_among
puts_cuts = simp layers

forgets_cuts : proc_cuts forgets ≡ entry_cut ∷ []
unfolding cuts_among
forgets_cuts = simp layers

-- the parts of a path that ends there, by the procedure's cuts
abbrev once_by : Walked → List Cut → Option Loss
once_by w cuts =
    if w.end.again then Some (CommitAgain (again_at w.passed w.at))
    else option_and_then (λ e. if nat_eq e (length cuts) && not w.end.done then Some NoCommit else None) (Some (length cuts))

abbrev ended : Option Loss → List Cut → Option Loss
ended l cuts =
    option_and_then (λ e. if option_map_or (λ cut. not (is_rank_loop cut.kind)) (slice_get cuts e) true then l else None) (Some (length cuts))

lost_there : (f : List Cut → Option Loss) (proc : Proc) (b : Begun) (l : Option Loss) → proc_cuts proc ≡ entry_cut ∷ []
    → where_assumed (assumed raising 1 proc 0 entry_cut b) (f (entry_cut ∷ [])) ≡ l → where_assumed (assumed raising 1 proc 0 entry_cut b) (f (proc_cuts proc)) ≡ l
lost_there f proc b l cuts loses = ap (λ (cs : List Cut). where_assumed (assumed raising 1 proc 0 entry_cut b) (f cs)) cuts ∙ loses

pub action_gives_more : ActionGivesMore
unfolding loss gate_holds fires
action_gives_more =
    let b = begins of_puts 5 3 in
    let w = walked (sets 0 5 3 (false, false) ∷ passage 1 [] (true, false) ∷ []) Past 2 (3, 3) (true, false) in
    let c = begins of_puts 0 3 in
    let v = walked (sets 0 0 3 (false, false) ∷ passage 1 [] (true, false) ∷ []) Past 2 (3, 3) (true, false) in (
      lost_from Perform puts (given 5 3) b _ (puts_begins 5 3) (lost_on Perform puts b w _ puts_from_5 (
          lost_there (ended (action_lost raising 1 puts b (progress w.end))) puts b _ puts_cuts (simp (layers, of_expr)))),
      lost_from Perform puts (given 0 3) c _ (puts_begins 0 3) (lost_on Perform puts c v _ puts_from_0 (
          lost_there (ended (action_lost raising 1 puts c (progress v.end))) puts c _ puts_cuts (simp (layers, of_expr)))),
    )

pub commit_is_forgotten : CommitIsForgotten
unfolding loss gate_holds fires
commit_is_forgotten =
    let b = begins of_forgets 5 3 in
    let w = walked (sets 0 5 3 (false, false) ∷ []) Past 1 (3, 3) (false, false) in
    let c = begins of_forgets 3 3 in
    let v = walked (passage 0 [] (false, false) ∷ []) Past 1 (3, 3) (false, false) in (
      lost_from Once forgets (given 5 3) b _ (forgets_begins 5 3) (lost_on Once forgets b w _ forgets_from_5 (lost_there (once_by w) forgets b _ forgets_cuts (simp (layers, of_expr)))),
      lost_from Stutter forgets (given 5 3) b _ (forgets_begins 5 3) (lost_on Stutter forgets b w _ forgets_from_5 (
          lost_there (ended (changes_lost raising 1 forgets b (progress w.end))) forgets b _ forgets_cuts (simp (layers, of_expr)))),
      lost_from Stutter forgets (given 3 3) c _ (forgets_begins 3 3) (lost_on Stutter forgets c v _ forgets_from_3 (
          lost_there (ended (changes_lost raising 1 forgets c (progress v.end))) forgets c _ forgets_cuts (simp (layers, of_expr)))),
    )

pub commit_is_repeated : CommitIsRepeated
unfolding loss gate_holds fires
commit_is_repeated =
    let b = begins of_puts 5 3 in
    let w = walked (sets 0 5 3 (false, false) ∷ passage 1 [] (true, false) ∷ []) Past 2 (3, 3) (true, false) in (
      lost_from Once repeats (given 5 3) (begins of_repeats 5 3) _ (repeats_begins 5 3) (lost_on Once repeats (begins of_repeats 5 3) _ _ repeats_from_5 (simp (layers, of_expr))),
      lost_from Once puts (given 5 3) b _ (puts_begins 5 3) (lost_on Once puts b w _ puts_from_5 (lost_there (once_by w) puts b _ puts_cuts (simp (layers, of_expr)))),
    )
