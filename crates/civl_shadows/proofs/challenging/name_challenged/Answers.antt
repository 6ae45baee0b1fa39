use Rattle.std.proofs.Common.{sym, ap, ◌∙◌}
use Rattle.std.specs.Prelude.{option_copied}
use Rattle.civl_shadows.proofs.Calls.{action_so}
use Rattle.civl_shadows.proofs.challenging.name_challenged.Goals as goal

pub returns-in-Some : goal.returns-in-Some
returns-in-Some c =
    let there = sym c.action_named.ensures ∙ ap option_copied c.in-Some.is in
    action_so c.args.plain.now c.args.layer c.args.store.now c.args.name.now c.in-Some.field-0.now c.args.args.now there
