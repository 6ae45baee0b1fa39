use Rattle.std.proofs.Common.{◌∙◌, sym}
use Rattle.civl_reduction.specs.blocks.Shadow.{shadowed_start}
use Rattle.civl_blocked.proofs.Starts.{started_with, challenged_at_once}
use Rattle.civl_blocked.proofs.running.turned.Goals as goal

pub returns-then-branch : goal.returns-then-branch
returns-then-branch c =
    let program = c.args.plain.now.program in
    let shows = c.in_ok-beside.ensures c.args.layer c.requires.layer in
    challenged_at_once program c.args.layer c.args.store.now c.args.moves.now c.new.result c.new.ensures
    (sym (c.in_ok-is_challenged.ensures (shadowed_start program c.args.layer c.args.store.now) shows) ∙ c.if-branch.true)

pub turn-requires-clause-going : goal.turn-requires-clause-going
turn-requires-clause-going c =
    let program = c.args.plain.now.program in
    let shows = c.in_ok-beside.ensures c.args.layer c.requires.layer in
    let calm = sym (c.in_ok-is_challenged.ensures (shadowed_start program c.args.layer c.args.store.now) shows) ∙ c.if-branch.false in
    started_with _ c.args.moves.now c.new-2.result.items c.in_ok-rest.rest.items c.in_ok-beside.beside c.new-2.ensures.items (c.in_ok-rest.ensures ∙ c.as_slice.ensures) c.requires.moves c.requires.fails calm shows
