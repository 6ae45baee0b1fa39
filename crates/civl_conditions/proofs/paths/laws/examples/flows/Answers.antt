use Rattle.std.proofs.Common.{◌≡◌, true, false, [], ◌∷◌, map, refl}
use Rattle.civl_tree.proofs.Layers.{layers}
use Rattle.civl_layers.specs.declared.cut.CutKind.TheVariants.{Entry, Yield, YieldLoop}
use Rattle.civl_layers.specs.Cuts.{entry_cut, cuts_among, proc_cuts}
use Rattle.civl_meaning.specs.Rest.{with_rest, rest_among}
use Rattle.civl_meaning.proofs.Rests.{rest_is}
use Rattle.civl_conditions.specs.paths.Flows.{flow_from}
use Rattle.civl_conditions.specs.paths.Ends.{cut_number}
use Rattle.civl_conditions.specs.paths.examples.Courses.{proc_with, cut}
use Rattle.civl_conditions.specs.paths.examples.Ways.{waits}
use Rattle.civl_conditions.proofs.paths.Flowing.{flowing, ends_are}
use Rattle.civl_conditions.proofs.paths.laws.examples.flows.Goals as goal

pub returns-clause-ifs : goal.returns-clause-ifs
unfolding flow_from rest_among with_rest
returns-clause-ifs c = simp (layers, flowing)

pub returns-clause-loop_flows : goal.returns-clause-loop_flows
unfolding flow_from rest_among with_rest
returns-clause-loop_flows c = simp (layers, flowing, rest_is)

cuts_are : proc_cuts (proc_with waits) ≡ cut 0 Entry ∷ cut 0 YieldLoop ∷ cut 3 Yield ∷ []
unfolding cuts_among
cuts_are = simp layers

to_loop : map (cut_number (proc_with waits)) (0 ∷ []) ≡ 1 ∷ []
unfolding cuts_among
to_loop = refl

to_both : map (cut_number (proc_with waits)) (3 ∷ 0 ∷ []) ≡ 2 ∷ 1 ∷ []
unfolding cuts_among
to_both = simp layers

pub returns-clause-ends : goal.returns-clause-ends
unfolding flow_from rest_among with_rest
returns-clause-ends c = (
  ends_are (proc_with waits) entry_cut (0 ∷ []) (1 ∷ []) false _ (simp (layers, flowing)) (simp (layers, flowing)) cuts_are to_loop,
  ends_are (proc_with waits) (cut 0 YieldLoop) (3 ∷ 0 ∷ []) (2 ∷ 1 ∷ []) true _ (simp (layers, flowing)) (simp (layers, flowing)) cuts_are to_both,
  ends_are (proc_with waits) (cut 3 Yield) (0 ∷ []) (1 ∷ []) false _ (simp (layers, flowing, rest_is)) (simp (layers, flowing, rest_is)) cuts_are to_loop,
)
