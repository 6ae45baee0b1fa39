-- The worked procedure: where its path begins, what it passes, and the lines that are told of it.
use Rattle.std.proofs.Common.{◌≡◌, ℕ, Bool, true, false, List, [], ◌∷◌, ap, ◌∙◌, Option, None, Some}
use Rattle.civl_bits.specs.declared.value.Value.{Value}
use Rattle.civl_tree.specs.declared.action.Choice.{Choice}
use Rattle.civl_tree.specs.declared.expr.Expr.{the_lemmas as of_expr}
use Rattle.civl_tree.proofs.Layers.{layers}
use Rattle.civl_tree.proofs.Trees.{of_trees}
use Rattle.civl_firing.specs.Fired.{gate_holds, fires, fired}
use Rattle.civl_firing.specs.examples.Written.{bool, holding}
use Rattle.civl_meaning.specs.Rest.{with_rest, rest_among}
use Rattle.civl_layers.specs.Cuts.{entry_cut}
use Rattle.civl_conditions.specs.paths.Flows.{flow_from}
use Rattle.civl_conditions.specs.Variables.{passed_choices}
use Rattle.civl_conditions.specs.Values.{Begun, begun, chosen_in}
use Rattle.civl_conditions.proofs.paths.Flowing.{flowing}
use Rattle.civl_conditions.proofs.paths.Passing.{passing}
use Rattle.civl_traces.specs.declared.walked.Changed.{Changed}
use Rattle.civl_traces.specs.declared.walked.Passage.{Passage}
use Rattle.civl_traces.specs.declared.walked.Ending.TheVariants.{Fails}
use Rattle.civl_traces.specs.declared.walked.Walked.{Walked}
use Rattle.civl_traces.specs.Traces.{trace_from}
use Rattle.civl_traces.proofs.Known.{as_known, knowing}
use Rattle.civl_losses.specs.declared.loss.Loss.TheVariants.{FalseGate}
use Rattle.civl_losses.specs.Losses.{walked_of}
use Rattle.civl_losses.specs.Stories.{PathStory, story_from}
use Rattle.civl_reasons.proofs.Parts.{parts_is}
use Rattle.civl_places.proofs.Walking.{starts_is}
use Rattle.civl_path_stories.specs.Paths.{Told, named_parts, told_lines, path_story}
use Rattle.civl_path_stories.specs.Around.{around_among}
use Rattle.civl_path_stories.specs.examples.Gates.{procedure, gating, given, story, WorkedStory}

abbrev calls : List (ℕ × List Choice)
calls = (0, []) ∷ (1, []) ∷ (2, []) ∷ (3, []) ∷ []

calls_are : passed_choices gating 1 procedure entry_cut ≡ calls
unfolding flow_from rest_among with_rest
calls_are = simp (layers, flowing)

abbrev begins : List (ℕ × List Choice) → Begun
begins calls = record {
  store = holding (bool false ∷ []);
  locals = bool true ∷ [];
  done = false;
  old = holding (bool false ∷ []);
  old_outs = [];
  old_done = false;
  chosen = chosen_in calls given 2;
}

begins_are : begun gating 1 procedure entry_cut given ≡ begins calls
begins_are = ap begins calls_are

abbrev passage : ℕ → Option Bool → List Changed → Passage
passage statement took changed = record { statement = statement; took = took; changed = changed; done = false; again = false }

abbrev walked : Walked
walked = record {
  passed =
      passage 0 (Some true) []
      ∷ passage 1 None (record { place = 0; before = bool false; after = bool true } ∷ [])
      ∷ [];
  ending = Fails;
  at = 2;
  end = record { store = holding (bool true ∷ []); locals = bool true ∷ []; done = false; again = false };
}

walks : walked_of gating 1 procedure entry_cut (begins calls) ≡ walked
unfolding trace_from rest_among with_rest gate_holds fires fired
walks = as_known _ _ (simp (layers, of_expr, passing, knowing))

path_is : story_from gating 1 given procedure entry_cut ≡ record { begun = begins calls; walked = walked }
path_is =
    ap (λ (b : Begun). the_path b (walked_of gating 1 procedure entry_cut b)) begins_are ∙ ap (the_path (begins calls)) walks
  where
    the_path : Begun → Walked → PathStory
    the_path b w = record { begun = b; walked = w }

abbrev told_by : PathStory → Told
told_by path = record { program = gating; step = 1; number = 0; proc = procedure; cut = entry_cut; path = path }

lines_are : told_lines (told_by (record { begun = begins calls; walked = walked })) None given (FalseGate 1 (bool true ∷ [])) ≡ story
unfolding named_parts around_among
lines_are = simp (layers, starts_is, parts_is, of_trees)

pub worked_story : WorkedStory
unfolding path_story
worked_story = ap (λ (path : PathStory). told_lines (told_by path) None given (FalseGate 1 (bool true ∷ []))) path_is ∙ lines_are
