use Rattle.std.proofs.Common.{◌∙◌, ap}
use Rattle.civl_meaning.specs.declared.config.Plain.{Plain}
use Rattle.civl_meaning.specs.Failing.{failing_thread}
use Rattle.civl_meaning.specs.Layers.{program_at}
use Rattle.civl_blocked.proofs.Failures.{first_fails, none_fails}
use Rattle.civl_blocked.proofs.stepping.failing_in.Goals as goal

pub returns-clause-some : goal.returns-clause-some
returns-clause-some c =
    first_fails (program_at c.args.ground.now.plain.now.program c.args.ground.now.layer) c.args.config.now c.failing.result
    (c.failing.ensures ∙ ap (λ (p : Plain). failing_thread p c.args.config.now) c.requires.layer.is)

pub returns-clause-none : goal.returns-clause-none
returns-clause-none c =
    none_fails (program_at c.args.ground.now.plain.now.program c.args.ground.now.layer) c.args.config.now c.failing.result
    (c.failing.ensures ∙ ap (λ (p : Plain). failing_thread p c.args.config.now) c.requires.layer.is)
