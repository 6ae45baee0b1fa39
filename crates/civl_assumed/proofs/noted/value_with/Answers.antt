use Rattle.std.proofs.Common.{length}
use Rattle.std.proofs.lemmas.List.{drop-drop}
use Rattle.civl_assumed.proofs.noted.value_with.Goals as goal

pub returns : goal.returns
returns c =
    let rest = drop-drop (length c.args.proc.now.outs) (length c.args.proc.now.params) c.args.locals.now in
    simp (c.value_in_three.ensures, c.first-params.ensures, c.behind-rest.ensures, c.behind.ensures, c.len.ensures, c.len-2.ensures, c.len-3.ensures, rest)
