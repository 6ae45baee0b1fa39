use Rattle.std.proofs.Common.{Bool, ◌&&◌, ap₂, sym, ◌∙◌, Option}
use Rattle.civl_firing.specs.declared.scope.Scope.{Scope}
use Rattle.civl_tree.specs.declared.expr.Expr.{Expr}
use Rattle.civl_conditions.specs.Assumed.{note_holds}
use Rattle.civl_assumed.specs.Beginnings.{begun_of}
use Rattle.civl_assumed.specs.inner.Met.{may_begin}
use Rattle.civl_assumed.proofs.begun.values_meet.Goals as goal

pub returns-then-not-note_holds : goal.returns-then-not-note_holds
returns-then-not-note_holds c = λ chosen.
    let place = c.args.place.now in
    let rest = may_begin place.program.now place.proc.now (begun_of c.args.begun.now chosen) in
    let note = sym (c.note_holds.ensures ∙ ap₂ (λ (s : Scope) (n : Option Expr). note_holds s n) (c.noted.ensures chosen) c.requires.note) ∙ c.if-not-note_holds.true in
    sym (ap₂ (λ (a b : Bool). a && (b && rest)) (sym c.invariants_hold.ensures ∙ c.if-not-invariants_hold.false) note)

pub returns : goal.returns
returns c = λ chosen.
    let place = c.args.place.now in
    let rest = may_begin place.program.now place.proc.now (begun_of c.args.begun.now chosen) in
    let note = sym (c.note_holds.ensures ∙ ap₂ (λ (s : Scope) (n : Option Expr). note_holds s n) (c.noted.ensures chosen) c.requires.note) ∙ c.if-not-note_holds.false in
    c.may_begin.ensures chosen ∙ sym (ap₂ (λ (a b : Bool). a && (b && rest)) (sym c.invariants_hold.ensures ∙ c.if-not-invariants_hold.false) note)
