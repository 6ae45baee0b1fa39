use Rattle.std.proofs.Common.{ap, subst, sym, ◌∙◌}
use Rattle.civl_meaning.specs.Remaining.{rest_of}
use Rattle.civl_traces.specs.inner.Walking.{course_of, AreWithin}
use Rattle.civl_traces.proofs.Going.{ok_as, went_cut}
use Rattle.civl_traces.proofs.Within.{rest_within}
use Rattle.civl_traces.proofs.walking.walk_from.Goals as goal

pub walk_rest-requires : goal.walk_rest-requires
walk_rest-requires c =
    subst AreWithin (sym (ap rest_of c.as_slice.ensures.value ∙ c.in_ok-rest.ensures)) (rest_within c.args.way.now.proc.now.body c.args.cut.statement c.requires)

pub returns : goal.returns
returns c =
    ok_as _ _ c.walk_rest.result
    (λ e h. went_cut (course_of c.args.way.now) c.args.walker.now c.walk_rest.new.walker e c.args.cut.statement c.args.cut.kind _ (sym c.if-is_entry.ensures) (ap rest_of c.as_slice.ensures.value ∙ c.in_ok-rest.ensures) h) c.walk_rest.ensures
