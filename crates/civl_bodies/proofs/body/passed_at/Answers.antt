use Rattle.std.specs.Prelude.{Some, IfSome, slice_get}
use Rattle.std.proofs.Common.{◌≡◌, ◌∙◌, ℕ, List, Option, sym, ap, subst}
use Rattle.std.proofs.lemmas.Option.{slice_get-get_or}
use Rattle.civl_layers.specs.declared.cut.Cut.{Cut}
use Rattle.civl_bodies.specs.Bodies.{ArePassed}
use Rattle.civl_meaning.proofs.Zipping.{zip_there}
use Rattle.civl_bodies.proofs.body.passed_at.Goals as goal

pub returns : goal.returns
returns c = λ proc cut body at.
    let all = c.args.body.now.passed.items in
    let found = slice_get-get_or all c.args.place c.index.result.now c.requires ∙ ap (λ (ns : List ℕ). Some ns) (sym c.index.ensures) in
    let here = zip_there (ArePassed proc) _ all c.args.place c.index.result.now body.passed found in
    let there : slice_get _ c.args.place ≡ Some cut = ap (λ (cs : List Cut). slice_get cs c.args.place) (sym body.cuts) ∙ at in
    subst (ArePassed proc cut) (sym c.in_ok-list.ensures) (subst (λ (o : Option Cut). IfSome o (λ x. ArePassed proc x c.index.result.now)) there here)
