use Rattle.std.proofs.Common.{Option, Some, None, ap, sym}
use Rattle.std.specs.Option.{option_map_or}
use Rattle.civl_tree.specs.declared.program.Thread.{Thread}
use Rattle.civl_meaning.specs.Meaning.{proc_number}
use Rattle.civl_goals.specs.Weights.{first_note_weight}
use Rattle.civl_weighing.proofs.Capping.{weighs_same}
use Rattle.civl_weighing.proofs.Listing.{got_of}
use Rattle.civl_outlined.proofs.weights.thread_note.Goals as goal

pub returns-in-Some : goal.returns-in-Some
returns-in-Some c =
    let there = got_of c.as_slice.result.now _ c.args.number (Some c.in-Some.thread) c.as_slice.ensures c.in-Some.ensures.lookup in
    weighs_same (sym (ap (λ (o : Option Thread). option_map_or (λ t. first_note_weight c.args.said.now.program.now c.args.said.now.outline.now (proc_number c.args.said.now.program.now t.callee)) o 0) there)) c.first_note.ensures

pub returns-in-None : goal.returns-in-None
returns-in-None c =
    let there = got_of c.as_slice.result.now _ c.args.number None c.as_slice.ensures c.in-None.ensures.lookup in
    weighs_same (sym (ap (λ (o : Option Thread). option_map_or (λ t. first_note_weight c.args.said.now.program.now c.args.said.now.outline.now (proc_number c.args.said.now.program.now t.callee)) o 0) there)) c.of.ensures
