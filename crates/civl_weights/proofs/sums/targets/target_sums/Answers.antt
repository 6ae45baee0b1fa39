use Rattle.std.proofs.Common.{Some, None, length}
use Rattle.std.specs.Prelude.{slice_get}
use Rattle.std.specs.Option.{option_map_or}
use Rattle.civl_layers.specs.Cuts.{proc_cuts}
use Rattle.civl_linear.specs.Cuts.{held_of}
use Rattle.civl_conditions.specs.Steps.{step_invariants}
use Rattle.civl_conditions.specs.Permissions.{held_at}
use Rattle.civl_conditions.specs.Assumed.{cut_invariant}
use Rattle.civl_conditions.specs.Weights.{global_weight, note_weight, maybe_weight}
use Rattle.civl_weights.specs.sums.Sums.{frame_bits}
use Rattle.civl_weighing.proofs.Capping.{weighs_same}
use Rattle.civl_weighing.proofs.Listing.{got_of, listed_at, lengths_at}
use Rattle.civl_weights.proofs.sums.Groups.{frames_are}
use Rattle.civl_weights.proofs.sums.Finding.{proc_there, proc_none}
use Rattle.civl_weights.proofs.sums.targets.target_sums.Goals as goal

pub returns-in-Invariant : goal.returns-in-Invariant
returns-in-Invariant c = rw c.in-Invariant.is record { weight = listed_at (global_weight c.args.program.now) (step_invariants c.args.program.now c.args.step.now.step) c.in-Invariant.number c.as_slice.ensures c.requires.step.invariants c.weight_at.ensures; items = c.of-nothing.ensures; frame = c.of-nothing.ensures }

pub returns-in-Some : goal.returns-in-Some
returns-in-Some c =
    let e = (got_of c.as_slice-in-Yield.result.now _ c.in-Yield.proc (Some c.in-Some.sums) c.as_slice-in-Yield.ensures c.in-Some.ensures.lookup) in
    rw c.in-Yield.is record {
      weight = proc_there c.args.program.now c.args.tables.now.procs c.in-Yield.proc (λ proc. option_map_or (λ cut. maybe_weight (note_weight c.args.program.now proc) (cut_invariant proc cut)) (slice_get (proc_cuts proc) c.in-Yield.cut) 0) c.requires.tables.procs _ e (λ p h. listed_at (λ cut. maybe_weight (note_weight c.args.program.now p) (cut_invariant p cut)) (proc_cuts p) c.in-Yield.cut c.as_slice-in-Some.ensures h.notes.invariants c.weight_at-in-Some.ensures);
      items = proc_there c.args.program.now c.args.tables.now.procs c.in-Yield.proc (λ proc. length (held_at c.args.program.now proc c.in-Yield.cut)) c.requires.tables.procs _ e (λ p h. lengths_at (held_of c.args.program.now p) c.in-Yield.cut c.as_slice-in-Some-2.ensures h.notes.items c.weight_at-in-Some-2.ensures);
      frame = weighs_same (frames_are c.args.program.now c.in-Yield.proc c.in-Yield.cut (slice_get c.args.program.now.procs c.in-Yield.proc)) (proc_there c.args.program.now c.args.tables.now.procs c.in-Yield.proc frame_bits c.requires.tables.procs _ e (λ p h. h.notes.frame));
    }

pub returns-in-None : goal.returns-in-None
returns-in-None c =
    let e = (got_of c.as_slice-in-Yield.result.now _ c.in-Yield.proc None c.as_slice-in-Yield.ensures c.in-None.ensures.lookup) in
    rw c.in-Yield.is record {
      weight = proc_none c.args.program.now c.args.tables.now.procs c.in-Yield.proc (λ proc. option_map_or (λ cut. maybe_weight (note_weight c.args.program.now proc) (cut_invariant proc cut)) (slice_get (proc_cuts proc) c.in-Yield.cut) 0) c.requires.tables.procs e c.of-nothing.ensures;
      items = proc_none c.args.program.now c.args.tables.now.procs c.in-Yield.proc (λ proc. length (held_at c.args.program.now proc c.in-Yield.cut)) c.requires.tables.procs e c.of-nothing.ensures;
      frame = weighs_same (frames_are c.args.program.now c.in-Yield.proc c.in-Yield.cut (slice_get c.args.program.now.procs c.in-Yield.proc)) (proc_none c.args.program.now c.args.tables.now.procs c.in-Yield.proc frame_bits c.requires.tables.procs e c.of-nothing.ensures);
    }
