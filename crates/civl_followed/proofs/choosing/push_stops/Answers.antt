use Rattle.std.proofs.Common.{◌∙◌, ◌+◌, drop, Contains, sym, ap, subst, arith, inl, inr}
use Rattle.std.specs.Prelude.{Bool, Option, Some, None, if◌then◌else◌}
use Rattle.std.proofs.lemmas.Option.{none-some, same_Some}
use Rattle.civl_firing.specs.declared.store.Store.{Store}
use Rattle.civl_conditions.specs.paths.Paths.{Progress}
use Rattle.civl_reduction.specs.simulation.Refined.{with_values}
use Rattle.civl_reduction.specs.staged.Stops.{StopsAt}
use Rattle.civl_shadows.specs.Notes.{noted, progress_of}
use Rattle.civl_meaning.specs.Remaining.{rest_of}
use Rattle.civl_followed.proofs.Codes.{splits_at}
use Rattle.civl_followed.proofs.choosing.push_stops.Goals as goal

pub returns-then-not-glides : goal.returns-then-not-glides
returns-then-not-glides c x h =
    let noting = c.args.noting.now in
    elim (c.loop-at.invariant x h) [
      | inl k ↦ c.in_ok-push_here.ensures.kept (with_values noting.program.now noting.proc.now x noting.locals.now) k
      | inr s ↦ elim (splits_at (noted noting) c.args.rest.now c.loop-at.at c.index-rest-at.result (progress_of noting c.loop-at.progress) x (omega arith) c.index-rest-at.is s) [
        | inl y ↦ subst (λ (z : Store). Contains c.push_here.new.offered.items (with_values noting.program.now noting.proc.now z noting.locals.now)) y.1 (c.in_ok-push_here.ensures.here y.0)
        | inr z ↦ absurd (none-some z.0 (sym (c.glides.ensures.next ∙ ap (λ (b : Bool). if◌then◌else◌ {A = Option Progress} b (Some (progress_of noting c.glides.new.progress)) None) c.if-not-glides.true) ∙ z.1))
      ]
    ]

pub loop-at-preserved : goal.loop-at-preserved
loop-at-preserved c x h =
    let noting = c.args.noting.now in
    elim (c.loop-at.invariant x h) [
      | inl k ↦ inl (c.in_ok-push_here.ensures.kept (with_values noting.program.now noting.proc.now x noting.locals.now) k)
      | inr s ↦ elim (splits_at (noted noting) c.args.rest.now c.loop-at.at c.index-rest-at.result (progress_of noting c.loop-at.progress) x (omega arith) c.index-rest-at.is s) [
        | inl y ↦ inl (subst (λ (z : Store). Contains c.push_here.new.offered.items (with_values noting.program.now noting.proc.now z noting.locals.now)) y.1 (c.in_ok-push_here.ensures.here y.0))
        | inr z ↦ inr (subst (λ (p : Progress). StopsAt (noted noting) (rest_of (drop (c.loop-at.at + 1) c.args.rest.now)) p x) (same_Some z.0 (progress_of noting c.glides.new.progress) (sym z.1 ∙ (c.glides.ensures.next ∙ ap (λ (b : Bool). if◌then◌else◌ {A = Option Progress} b (Some (progress_of noting c.glides.new.progress)) None) c.if-not-glides.false))) z.2)
      ]
    ]
