use Rattle.std.specs.Prelude.{length}
use Rattle.std.proofs.Common.{◌∙◌, ◌+◌, ◌≡◌, sym, ap, arith}
use Rattle.civl_meaning.specs.Config.{frame_sorts}
use Rattle.civl_terms.proofs.Growing.{lengthens_trans}
use Rattle.civl_states.proofs.formula_parts.Listing.{said_after}
use Rattle.civl_states.proofs.Given.{stand_within}
use Rattle.civl_goal_terms.specs.inner.Given.{top_count, chosen_from}
use Rattle.civl_goal_terms.specs.inner.Settings.{sorts_at}
use Rattle.civl_goal_terms.proofs.Standing.{top_few, frame_few, chosen_few, chosen_long, top_stand, frame_stand, chosen_stand, placed_said, placed_bits}
use Rattle.civl_goal_terms.proofs.statements.set.Goals as goal

pub store-requires-clause-rules : goal.store-requires-clause-rules
store-requires-clause-rules c = c.requires.layered.rules

pub store-requires-clause-stand : goal.store-requires-clause-stand
store-requires-clause-stand c = top_stand c.args.program.now c.args.at.now c.args.sorts.now c.requires.stand.0 c.requires.stand.1

pub frame_count-count-requires-clause-rules : goal.frame_count-count-requires-clause-rules
frame_count-count-requires-clause-rules c = c.requires.layered.rules

pub frame_count-count-requires-clause-proc : goal.frame_count-count-requires-clause-proc
frame_count-count-requires-clause-proc c = c.requires.at.proc

pub overflow_cast-first : goal.overflow_cast-first
overflow_cast-first c = omega (arith, c.existing_count-first.ensures, top_few c.args.program.now c.requires.layered)

pub variables-requires-clause-within : goal.variables-requires-clause-within
variables-requires-clause-within c =
    omega (arith, c.existing_count-first.ensures, c.frame_count-count.ensures, stand_within _ _ _ (frame_stand c.args.program.now c.args.at.now c.args.sorts.now c.requires.stand.0 c.requires.stand.1))

pub variables-requires-clause-small : goal.variables-requires-clause-small
variables-requires-clause-small c =
    omega (arith, c.requires.small, c.existing_count-first.ensures, c.frame_count-count.ensures, stand_within _ _ _ (frame_stand c.args.program.now c.args.at.now c.args.sorts.now c.requires.stand.0 c.requires.stand.1))

pub overflow_add-behind : goal.overflow_add-behind
overflow_add-behind c =
    omega (arith, c.existing_count-first.ensures, c.frame_count-count.ensures, top_few c.args.program.now c.requires.layered, frame_few c.args.program.now c.requires.layered c.args.at.now.root c.args.at.now.proc.now c.requires.at.proc)

pub overflow_cast-chosen : goal.overflow_cast-chosen
overflow_cast-chosen c =
    let p = c.args.program.now in
    omega (arith, ap length c.stmt_choices.ensures, chosen_long p c.requires.layered c.args.at.now, chosen_few p c.requires.layered c.args.at.now)

pub variables-requires-2-clause-within : goal.variables-requires-2-clause-within
variables-requires-2-clause-within c =
    let p = c.args.program.now in
    omega (
      arith,
      c.existing_count-first.ensures,
      c.frame_count-count.ensures,
      ap length c.stmt_choices.ensures,
      chosen_long p c.requires.layered c.args.at.now,
      stand_within _ _ _ (chosen_stand p c.args.at.now c.args.sorts.now c.requires.stand.0 c.requires.stand.1),
    )

pub variables-requires-2-clause-small : goal.variables-requires-2-clause-small
variables-requires-2-clause-small c =
    let p = c.args.program.now in
    omega (
      arith,
      c.requires.small,
      c.existing_count-first.ensures,
      c.frame_count-count.ensures,
      ap length c.stmt_choices.ensures,
      chosen_long p c.requires.layered c.args.at.now,
      stand_within _ _ _ (chosen_stand p c.args.at.now c.args.sorts.now c.requires.stand.0 c.requires.stand.1),
    )

pub returns-in_err-locals-clause-lengthens : goal.returns-in_err-locals-clause-lengthens
returns-in_err-locals-clause-lengthens c = lengthens_trans _ _ _ c.in_ok-globals.ensures.lengthens c.in_err-locals.ensures.lengthens

pub returns-in_err-choices-clause-lengthens : goal.returns-in_err-choices-clause-lengthens
returns-in_err-choices-clause-lengthens c = lengthens_trans _ _ _ c.in_ok-globals.ensures.lengthens (lengthens_trans _ _ _ c.in_ok-locals.ensures.lengthens c.in_err-choices.ensures.lengthens)

pub returns-clause-lengthens : goal.returns-clause-lengthens
returns-clause-lengthens c = lengthens_trans _ _ _ c.in_ok-globals.ensures.lengthens (lengthens_trans _ _ _ c.in_ok-locals.ensures.lengthens c.in_ok-choices.ensures.lengthens)

pub returns-clause-says : goal.returns-clause-says
returns-clause-says c =
    let p = c.args.program.now in
    let a = c.args.at.now in
    let ss = c.args.sorts.now in
    let m = c.variables.new.terms in
    let n = c.variables-2.new.terms in
    let w2 = c.in_ok-locals.ensures.lengthens in
    let w3 = c.in_ok-choices.ensures.lengthens in
    let count : c.frame_count-count.result ≡ length (frame_sorts a.proc.now) = c.frame_count-count.ensures in
    let chosen : length (sorts_at p a) ≡ length c.stmt_choices.result.now = chosen_long p c.requires.layered a ∙ sym (ap length c.stmt_choices.ensures) in
    let behind : c.existing_count-first.result + c.frame_count-count.result ≡ chosen_from p a = omega (arith, c.existing_count-first.ensures, count) in
    record {
      globals = said_after _ _ _ _ _ (lengthens_trans _ _ _ w2 w3) c.in_ok-globals.ensures.store;
      locals = said_after _ _ _ _ _ w3 (placed_said m _ ss _ (top_count p) (frame_sorts a.proc.now) _ c.existing_count-first.ensures (sym count) (frame_stand p a ss c.requires.stand.0 c.requires.stand.1) c.in_ok-locals.ensures.said);
      choices = placed_said n _ ss _ (chosen_from p a) (sorts_at p a) _ behind chosen (chosen_stand p a ss c.requires.stand.0 c.requires.stand.1) c.in_ok-choices.ensures.said;
    }

pub returns-clause-weighs : goal.returns-clause-weighs
returns-clause-weighs c =
    let p = c.args.program.now in
    let a = c.args.at.now in
    let ss = c.args.sorts.now in
    let count : c.frame_count-count.result ≡ length (frame_sorts a.proc.now) = c.frame_count-count.ensures in
    let chosen : length (sorts_at p a) ≡ length c.stmt_choices.result.now = chosen_long p c.requires.layered a ∙ sym (ap length c.stmt_choices.ensures) in
    let behind : c.existing_count-first.result + c.frame_count-count.result ≡ chosen_from p a = omega (arith, c.existing_count-first.ensures, count) in
    omega (
      arith,
      c.in_ok-globals.ensures.weighs,
      c.in_ok-locals.ensures.weighs,
      c.in_ok-choices.ensures.weighs,
      placed_bits ss _ (top_count p) (frame_sorts a.proc.now) _ c.existing_count-first.ensures (sym count) (frame_stand p a ss c.requires.stand.0 c.requires.stand.1),
      placed_bits ss _ (chosen_from p a) (sorts_at p a) _ behind chosen (chosen_stand p a ss c.requires.stand.0 c.requires.stand.1),
    )
