use Rattle.std.proofs.Common.{◌≡◌, ◌∙◌, ap, subst, map, option_copied, IfOk, List, Bor}
use Rattle.std.specs.List.{find}
use Rattle.civl_tree.specs.declared.name.Name.{Name}
use Rattle.civl_tree.specs.rules.Names.{names_in_proc}
use Rattle.civl_linear.specs.Held.{holds, without_names}
use Rattle.civl_linear.specs.Modes.{given_names, is_taken, passed_names}
use Rattle.civl_subjects.proofs.linear.given_again.Goals as goal

pub returns-in_ok-gone-in-Some : goal.returns-in_ok-gone-in-Some
returns-in_ok-gone-in-Some c =
    let names = names_in_proc c.args.proc.now in
    let signature = c.in-Some.signature in
    let gone : map (λ (name : Bor Name). name.now) c.deref.result.now ≡ passed_names is_taken signature.params.now c.args.args.now =
    ap (map (λ (name : Bor Name). name.now)) c.deref.ensures.value ∙ c.in_ok-gone-in-Some.ensures in
    rw (c.in-Some.is) (subst (λ (taken : List Name). IfOk c.given_without.result (λ again. option_copied again
    ≡ find (holds names (without_names taken names c.args.held.now)) (given_names signature.outs.now c.args.results.now))) gone c.given_without.ensures)
