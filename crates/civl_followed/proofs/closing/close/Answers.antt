use Rattle.std.proofs.Common.{◌≡◌, ◌∙◌, Bool, Option, List, sym, ap, subst}
use Rattle.civl_tree.specs.declared.program.Proc.{Proc}
use Rattle.civl_meaning.specs.declared.config.Activation.{Activation}
use Rattle.civl_reduction.specs.simulation.Refined.{last_frame}
use Rattle.civl_shadows.specs.Shadows.{done_in}
use Rattle.civl_followed.specs.inner.Frames.{IsKept}
use Rattle.civl_followed.proofs.Closes.{closes_outside, closes_quietly, closes_by}
use Rattle.civl_followed.proofs.closing.close.Goals as goal

other : {a b d : Bool} → (a ≡ b → ⊥) → a ≡ d → d ≡ b → ⊥
other n e q = n (e ∙ q)

pub returns-in_ok-make-in-None-clause-closes : goal.returns-in_ok-make-in-None-clause-closes
returns-in_ok-make-in-None-clause-closes c =
    let program = c.args.program.now in
    let lasts = subst (λ (o : Option Activation). (first second : Option (Proc × Activation)) → IsKept program c.in_ok-now.now first → IsKept program c.args.before second → IsKept program o (last_frame first second)) c.in-None.is (c.last_of.ensures program) in
    closes_outside program c.args.layer c.args.walk.now c.args.opening.now c.args.last.now c.args.before c.in_ok-now.now c.as_slice-threads.result.now c.as_slice-threads.ensures c.in_ok-now.ensures
    c.make.new.walk c.args.upper.now c.in_ok-same-in-None.same lasts c.requires.upper c.in_ok-same-in-None.ensures c.in_ok-make-in-None.ensures.lower c.in_ok-make-in-None.ensures.upper c.in_ok-make-in-None.ensures.followed

pub returns-then-is_same-clause-closes : goal.returns-then-is_same-clause-closes
returns-then-is_same-clause-closes c =
    let program = c.args.program.now in
    let lasts = subst (λ (o : Option Activation). (first second : Option (Proc × Activation)) → IsKept program c.in_ok-now.now first → IsKept program c.args.before second → IsKept program o (last_frame first second)) c.in-Some.is (c.last_of.ensures program) in
    closes_quietly program c.args.layer c.args.walk.now c.args.opening.now c.args.last.now c.args.before c.in_ok-now.now c.as_slice-threads.result.now c.as_slice-threads.ensures c.in_ok-now.ensures c.in-Some.frame lasts
    (ap (λ (ds : List Bool). done_in ds c.args.last.now.thread) (sym c.deref.ensures.value) ∙ (sym c.done_at-done.ensures ∙ c.is_same.ensures.yes c.if-is_same.true))

pub returns-in_ok-make-in-Some-clause-closes : goal.returns-in_ok-make-in-Some-clause-closes
returns-in_ok-make-in-Some-clause-closes c =
    let program = c.args.program.now in
    let lasts = subst (λ (o : Option Activation). (first second : Option (Proc × Activation)) → IsKept program c.in_ok-now.now first → IsKept program c.args.before second → IsKept program o (last_frame first second)) c.in-Some.is (c.last_of.ensures program) in
    closes_by program c.args.layer c.args.walk.now c.args.opening.now c.args.last.now c.args.before c.in_ok-now.now c.as_slice-threads.result.now c.as_slice-threads.ensures c.in_ok-now.ensures
    c.make-in-Some.new.walk c.args.upper.now c.in-Some.frame c.in_ok-choices-in-Some.choices lasts
    (other (c.is_same.ensures.no c.if-is_same.false) (c.done_at-done.ensures ∙ ap (λ (ds : List Bool). done_in ds c.args.last.now.thread) c.deref.ensures.value)) c.in_ok-choices-in-Some.ensures c.requires.upper c.in_ok-make-in-Some.ensures.lower c.in_ok-make-in-Some.ensures.upper c.in_ok-make-in-Some.ensures.followed
