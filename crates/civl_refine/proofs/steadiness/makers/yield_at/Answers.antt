use Rattle.std.specs.Prelude.{IsSome, List, ℕ, All, Some, slice_get}
use Rattle.std.proofs.Common.{◌≡◌, ◌∙◌, sym, subst}
use Rattle.std.proofs.lemmas.Bool.{false≢true}
use Rattle.civl_tree.specs.declared.expr.Sort.TheVariants.{Word}
use Rattle.civl_meaning.specs.Config.{frame_sorts}
use Rattle.civl_states.proofs.Holding.{held_are_words}
use Rattle.civl_refine.proofs.Cutting.{cut_says, held_is}
use Rattle.civl_refine.proofs.steadiness.Framing.{yields_not}
use Rattle.civl_refine.proofs.steadiness.makers.yield_at.Goals as goal

pub unreachable-requires : goal.unreachable-requires
unreachable-requires c =
    let some = cut_says c.args.proc.now c.args.place c.args.cut c.requires.cut (yields_not c.args.cut.kind c.requires.yields) in
    false≢true (subst IsSome (sym c.in-None.ensures) some)

pub returns-clause-is : goal.returns-clause-is
returns-clause-is c =
    let p = c.args.program.now in
    let q = c.args.proc.now in
    let held = c.held_numbers.ensures ∙ held_is p c.args.number c.args.place q c.args.held.now.cuts c.requires.proc c.requires.held in
    record {
      proc = (c.args.number, c.requires.proc);
      note = sym c.in-Some.ensures;
      words = subst (λ (ns : List ℕ). All (λ n. slice_get (frame_sorts q) n ≡ Some (Word p.permissions)) ns) (sym held) (held_are_words p c.requires.rules q (c.args.number, c.requires.proc) c.args.place);
    }

pub returns-clause-at : goal.returns-clause-at
returns-clause-at c = record {
  proc = c.requires.proc;
  cut = c.requires.cut;
  note = sym c.in-Some.ensures;
  held = c.held_numbers.ensures ∙ held_is c.args.program.now c.args.number c.args.place c.args.proc.now c.args.held.now.cuts c.requires.proc c.requires.held;
}
