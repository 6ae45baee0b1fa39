use Rattle.std.proofs.Common.{◌∙◌}
use Rattle.civl_states.proofs.Holding.{held_are_words}
use Rattle.civl_refine.proofs.Cutting.{cut_says, held_is}
use Rattle.civl_refine.proofs.finding.start_at.Goals as goal

pub returns-clause-is : goal.returns-clause-is
returns-clause-is c =
    let p = c.args.program.now in
    let q = c.args.proc.now in
    record {
      rules = c.requires.layered.rules;
      proc = (c.args.number, c.requires.proc);
      refined = c.refined_number-refined.ensures;
      note = c.invariant_of-note.ensures;
      said = cut_says q c.args.place c.args.cut c.requires.cut;
      held = c.held_numbers-numbers.ensures ∙ held_is p c.args.number c.args.place q c.args.held.now.cuts c.requires.proc c.requires.held;
      words = held_are_words p c.requires.layered.rules q (c.args.number, c.requires.proc) c.args.place;
    }
