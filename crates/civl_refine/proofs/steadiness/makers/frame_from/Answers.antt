use Rattle.std.specs.Prelude.{[], ◌∷◌, ℕ}
use Rattle.std.proofs.Common.{◌≡◌, ◌∙◌, ◌+◌, sym, subst, arith}
use Rattle.civl_tree.specs.declared.expr.Sort.TheVariants.{Bool as Truth}
use Rattle.civl_firing.specs.values.Values.{is_true}
use Rattle.civl_meaning.specs.Config.{frame_sorts}
use Rattle.civl_terms.proofs.Growing.{lengthens_trans}
use Rattle.civl_conditions.specs.Targets.{frame_size}
use Rattle.civl_states.specs.formula_parts.Said.{IsTest}
use Rattle.civl_states.specs.formula_parts.Lists.{AreSaid}
use Rattle.civl_states.specs.formula_parts.Given.{given, sorts_from}
use Rattle.civl_states.proofs.formula_parts.Giving.{bits-append}
use Rattle.civl_states.proofs.formula_parts.Listing.{said_after}
use Rattle.civl_states.proofs.Given.{stand_front, stand_past, given_group, group_bits}
use Rattle.civl_refine.proofs.steadiness.Framing.{frame_long}
use Rattle.civl_refine.proofs.steadiness.makers.frame_from.Goals as goal

pub flag-requires-clause-stand : goal.flag-requires-clause-stand
flag-requires-clause-stand c =
    let q = c.args.proc.now in
    let size : c.len.result + (c.len-2.result + c.len-3.result) ≡ frame_size q = omega (arith, c.len.ensures, c.len-2.ensures, c.len-3.ensures) in
    stand_past c.args.sorts.now c.args.first (frame_sorts q) (Truth ∷ []) _ (frame_long q ∙ sym size) c.requires.stand

pub returns-in_err-done-clause-lengthens : goal.returns-in_err-done-clause-lengthens
returns-in_err-done-clause-lengthens c = lengthens_trans _ _ _ c.in_ok-locals.ensures.lengthens c.in_err-done.ensures.lengthens

pub returns-clause-lengthens : goal.returns-clause-lengthens
returns-clause-lengthens c = lengthens_trans _ _ _ c.in_ok-locals.ensures.lengthens c.in_ok-done.ensures.lengthens

pub returns-clause-frame : goal.returns-clause-frame
returns-clause-frame c =
    let q = c.args.proc.now in
    let m = c.variables.new.terms in
    let n = c.flag.new.terms in
    let ss = c.args.sorts.now in
    let ids = c.in_ok-locals.locals in
    let first = c.args.first in
    let size : c.len.result + (c.len-2.result + c.len-3.result) ≡ frame_size q = omega (arith, c.len.ensures, c.len-2.ensures, c.len-3.ensures) in
    let said = subst (λ (k : ℕ). AreSaid m ids (sorts_from ss first k) (λ env. given env first k)) size c.in_ok-locals.ensures.said in
    record {
      locals = said_after m n ids (frame_sorts q) (λ env. given env first (frame_size q)) c.in_ok-done.ensures.lengthens
          (subst (λ (k : ℕ). AreSaid m ids (frame_sorts q) (λ env. given env first k)) (frame_long q) (given_group m ids ss first (frame_sorts q) (frame_size q) (frame_long q) (stand_front ss first (frame_sorts q) (Truth ∷ []) c.requires.stand) said));
      done = subst (λ (k : ℕ). IsTest n c.in_ok-done.done (λ env. is_true (env (first + k)))) size c.in_ok-done.ensures.test;
    }

pub returns-clause-weighs : goal.returns-clause-weighs
returns-clause-weighs c =
    let q = c.args.proc.now in
    let ss = c.args.sorts.now in
    let size : c.len.result + (c.len-2.result + c.len-3.result) ≡ frame_size q = omega (arith, c.len.ensures, c.len-2.ensures, c.len-3.ensures) in
    omega (
      arith,
      c.in_ok-locals.ensures.weighs,
      c.in_ok-done.ensures.weighs,
      group_bits ss c.args.first (frame_sorts q) _ (frame_long q ∙ sym size) (stand_front ss c.args.first (frame_sorts q) (Truth ∷ []) c.requires.stand),
      bits-append (frame_sorts q) (Truth ∷ []),
    )
