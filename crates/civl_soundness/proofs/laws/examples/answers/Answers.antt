use Rattle.std.proofs.Common.{◌≡◌, [], sym, ◌∙◌, subst, None, Some, codes}
use Rattle.civl_tree.specs.declared.expr.Expr.{the_lemmas as of_expr}
use Rattle.civl_tree.specs.declared.stmt.Stmt.{the_lemmas as of_stmt}
use Rattle.civl_meaning.specs.declared.config.State.TheVariants.{Inside}
use Rattle.civl_meaning.specs.declared.config.Running.{Running}
use Rattle.civl_meaning.specs.declared.config.Config.{Config}
use Rattle.civl_meaning.specs.declared.config.Stepped.{Stepped}
use Rattle.civl_meaning.specs.declared.config.Stepped.TheVariants.{Blocked}
use Rattle.civl_firing.specs.Fired.{gate_holds, fires, fired}
use Rattle.civl_meaning.specs.Layers.{lowest}
use Rattle.civl_meaning.specs.Step.{step_of}
use Rattle.civl_firing.specs.examples.Written.{name}
use Rattle.civl_meaning.specs.examples.Moves.{by}
use Rattle.civl_meaning.specs.examples.Flag.{bare, running}
use Rattle.civl_soundness.specs.Stepped.{Cause, next_action}
use Rattle.civl_soundness.specs.examples.Putting.{put_choice, put_nothing, before, choosing, WithoutChoice}
use Rattle.civl_soundness.proofs.Plain.{choice_is_plain}
use Rattle.civl_soundness.proofs.Before.{before_is_of}
use Rattle.civl_soundness.proofs.Progress.{answers_have_causes}
use Rattle.civl_soundness.proofs.laws.examples.answers.Goals as goal

without_choice : WithoutChoice
unfolding gate_holds fires fired
without_choice = simp (of_expr, of_stmt)

pub returns-clause-answered : goal.returns-clause-answered
returns-clause-answered c = without_choice

pub returns-clause-cause : goal.returns-clause-cause
returns-clause-cause c =
    subst (λ (s : Stepped × Config). Cause (lowest put_choice) before (by 0) s.0) without_choice (answers_have_causes (lowest put_choice) before (by 0) choice_is_plain (before_is_of (name (codes "c"))))

stuck : step_of (lowest put_nothing) before (choosing 7) ≡ (Blocked, before)
unfolding gate_holds fires fired
stuck = simp (of_expr, of_stmt)

abbrev first : Running
first = running 0 (Inside [] (bare 0 0))

nothing_next : next_action (lowest put_nothing) first ≡ None
nothing_next = simp (of_expr, of_stmt)

pub returns-clause-stuck : goal.returns-clause-stuck
returns-clause-stuck c = (
  stuck,
  λ h.
      let same : first ≡ h.2.thread = (let e = h.2.there in cc) in
      let none : next_action (lowest put_nothing) h.2.thread ≡ None = subst (λ (t : Running). next_action (lowest put_nothing) t ≡ None) same nothing_next in
      let e : Some (h.0, h.1) ≡ None = sym h.2.next ∙ none in
      cc,
)
