use Rattle.civl_prove.proofs.outline_reports.Asked.{no_note, no_roots, no_heavy}
use Rattle.civl_prove.proofs.outline_reports.proving.decide_goals.Goals as goal

pub returns-in-Err-Note-clause-searched : goal.returns-in-Err-Note-clause-searched
returns-in-Err-Note-clause-searched g c = absurd (no_note c.args.src.now c.args.outline.now _ c.requires.fits (rw c.in-Err-Note.field-0-is at c.in-Err-Note.ensures.fault))

pub returns-in-Err-Roots-clause-searched : goal.returns-in-Err-Roots-clause-searched
returns-in-Err-Roots-clause-searched g c = absurd (no_roots c.args.src.now c.args.outline.now _ _ c.requires.fits (rw c.in-Err-Roots.field-0-is at c.in-Err-Roots.ensures.fault))

pub returns-in-Err-Heavy-clause-searched : goal.returns-in-Err-Heavy-clause-searched
returns-in-Err-Heavy-clause-searched g c = absurd (no_heavy c.args.src.now c.args.outline.now _ c.requires.light_goals (rw c.in-Err-Heavy.field-0-is at c.in-Err-Heavy.ensures.fault))
