use Rattle.std.proofs.Common.{ℕ, List, ◌∙◌, ap, sym, drop}
use Rattle.std.specs.Prelude.{count_by}
use Rattle.std.proofs.lemmas.List.Sums.{length-filter}
use Rattle.civl_tree.specs.declared.program.Global.{Global}
use Rattle.civl_assumed.specs.Among.{test_of}
use Rattle.civl_assumed.proofs.stores.behind_globals.Goals as goal

pub returns : goal.returns
returns c =
    c.behind.ensures
    ∙ ap (λ (n : ℕ). drop n c.args.values.now) (
    c.count.ensures
    ∙ (ap (λ (gs : List Global). count_by (test_of c.args.among) gs) c.as_slice.ensures ∙ sym (length-filter (test_of c.args.among) c.args.program.now.globals))
    )
