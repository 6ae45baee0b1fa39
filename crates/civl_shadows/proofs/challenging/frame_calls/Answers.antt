use Rattle.std.proofs.Common.{◌≡◌, ◌∙◌, List, Some, None, slice_get, length, refl, sym, ap, subst, arith, ℕ}
use Rattle.std.specs.Prelude.{option_copied}
use Rattle.std.proofs.lemmas.Option.{slice_get_read}
use Rattle.civl_bits.specs.declared.value.Value.{Value}
use Rattle.civl_tree.specs.declared.stmt.Stmt.{out-Stmt}
use Rattle.civl_tree.specs.declared.program.Proc.{Proc}
use Rattle.civl_meaning.specs.Change.{caller_of, statement_doing}
use Rattle.civl_meaning.specs.Rest.{rest_at}
use Rattle.civl_meaning.proofs.Rests.{head_at}
use Rattle.civl_reduction.specs.blocks.Challenged.{call_challenged}
use Rattle.civl_meaning.specs.Remaining.{rest_of}
use Rattle.civl_shadows.proofs.Calls.{frame_none, frame_some}
use Rattle.civl_shadows.proofs.challenging.frame_calls.Goals as goal

pub returns-in-None : goal.returns-in-None
returns-in-None c below =
    let plain = c.args.plain.now in
    let proc = c.index-procs-frame.result in
    let procs = c.as_slice-procs.result.now in
    let place = c.args.frame.now.place in
    let there : slice_get plain.program.procs c.args.frame.now.procedure ≡ Some proc =
    sym (ap (λ (l : List Proc). slice_get l c.args.frame.now.procedure) c.as_slice-procs.ensures) ∙ slice_get_read procs (length procs) c.args.frame.now.procedure proc refl (omega arith) c.index-procs-frame.is in
    let rest : rest_of c.deref.result.now ≡ rest_at proc.body place = ap rest_of c.deref.ensures.value ∙ c.in_ok-rest.ensures in
    let head = head_at proc place (rest_of c.deref.result.now) None rest (λ end. sym (ap option_copied c.in-None.is) ∙ c.head.ensures end) in
    frame_none plain c.args.layer c.args.store.now c.args.frame.now proc there (caller_of below) head

pub returns : goal.returns
returns c below =
    let plain = c.args.plain.now in
    let proc = c.index-procs-frame.result in
    let procs = c.as_slice-procs.result.now in
    let place = c.args.frame.now.place in
    let there : slice_get plain.program.procs c.args.frame.now.procedure ≡ Some proc =
    sym (ap (λ (l : List Proc). slice_get l c.args.frame.now.procedure) c.as_slice-procs.ensures) ∙ slice_get_read procs (length procs) c.args.frame.now.procedure proc refl (omega arith) c.index-procs-frame.is in
    let rest : rest_of c.deref.result.now ≡ rest_at proc.body place = ap rest_of c.deref.ensures.value ∙ c.in_ok-rest.ensures in
    let stmt = c.in-Some.stmt.now in
    let head = head_at proc place (rest_of c.deref.result.now) (Some stmt) rest (λ end. sym (ap option_copied c.in-Some.is) ∙ c.head.ensures end) in
    frame_some plain c.args.layer c.args.store.now c.args.frame.now proc there (caller_of below) stmt c.in_ok-challenged-in-Some.challenged head (subst (λ (ls : List Value). (at next : ℕ) → c.in_ok-challenged-in-Some.challenged ≡ call_challenged plain.program c.args.layer c.args.store.now (statement_doing plain proc ls at next (out-Stmt stmt))) c.as_slice-locals.ensures (λ at next. c.in_ok-challenged-in-Some.ensures at next))
