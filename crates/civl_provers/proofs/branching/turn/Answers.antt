use Rattle.std.proofs.Common.{◌≡◌, ◌∙◌, ◌++◌, ◌∷◌, [], ◌+◌, ℕ, List, get_or, sym, ap, subst, arith}
use Rattle.std.specs.Prelude.{None}
use Rattle.civl_cnf.specs.Literal.{Literal, opposite}
use Rattle.civl_provers.specs.inner.Node.{HaveValuesFrom}
use Rattle.civl_provers.specs.inner.Standing.{LookSays}
use Rattle.civl_provers.proofs.Standings.{levels_at, turns_sizes, turns_last, turns_choice, at_cut, behind_cut, open_at}
use Rattle.civl_provers.proofs.branching.turn.Goals as goal

pub overflow_sub-last : goal.overflow_sub-last
overflow_sub-last c =
    let h = c.requires.2 in
    let sizes = turns_sizes c.requires.1 c.args.falses.now h.turned in
    omega (arith, sizes.0)

pub cut-requires-clause-engine : goal.cut-requires-clause-engine
cut-requires-clause-engine c = c.requires.2.at.engine

pub cut-requires-clause-levels : goal.cut-requires-clause-levels
cut-requires-clause-levels c =
    let h = c.requires.2 in
    let sizes = turns_sizes c.requires.1 c.args.falses.now h.turned in
    let levels = levels_at c.args.engine.now c.requires.0 c.requires.1 h.at in
    omega (arith, sizes.0, sizes.1)

pub assume_false-requires-clause-below : goal.assume_false-requires-clause-below
assume_false-requires-clause-below c =
    let h = c.requires.2 in
    let sizes = turns_sizes c.requires.1 c.args.falses.now h.turned in
    let lit : c.index-falses-last.result ≡ opposite h.turned.last = c.index-falses-last.is ∙ turns_last c.requires.1 c.args.falses.now h.turned _ _ (omega (arith, sizes.0)) in
    let choice = turns_choice c.requires.0 c.requires.1 c.args.falses.now h.turned h.branch in
    omega (arith, ap (λ (l : Literal). l.variable) lit, choice.0, c.cut.ensures.cut.size, h.at.size)

pub assume_false-requires-clause-open : goal.assume_false-requires-clause-open
assume_false-requires-clause-open c =
    let h = c.requires.2 in
    let sizes = turns_sizes c.requires.1 c.args.falses.now h.turned in
    let lit : c.index-falses-last.result ≡ opposite h.turned.last = c.index-falses-last.is ∙ turns_last c.requires.1 c.args.falses.now h.turned _ _ (omega (arith, sizes.0)) in
    let choice = turns_choice c.requires.0 c.requires.1 c.args.falses.now h.turned h.branch in
    let back = at_cut c.args.engine.now c.cut.new.self c.requires.0 c.requires.1 h.turned.rest (h.turned.last ∷ h.turned.tail) _ h.at h.turned.was (omega (arith, sizes.0)) (omega (arith, sizes.0, sizes.1)) c.cut.ensures.rest c.cut.ensures.clauses c.cut.ensures.cut c.cut.ensures.decided in
    ap (λ (l : Literal). get_or c.cut.new.self.trail.marks l.variable None) lit ∙ open_at c.cut.new.self c.requires.0 h.turned.rest h.turned.last.variable back choice.1

pub assume_false-requires-clause-behind : goal.assume_false-requires-clause-behind
assume_false-requires-clause-behind c =
    let h = c.requires.2 in
    let sizes = turns_sizes c.requires.1 c.args.falses.now h.turned in
    let lit : c.index-falses-last.result ≡ opposite h.turned.last = c.index-falses-last.is ∙ turns_last c.requires.1 c.args.falses.now h.turned _ _ (omega (arith, sizes.0)) in
    subst (λ (n : ℕ). HaveValuesFrom c.cut.new.self.trail.marks (n + 1)) (sym (ap (λ (l : Literal). l.variable) lit))
    (behind_cut c.args.engine.now c.cut.new.self c.requires.0 c.requires.1 h.turned.rest h.turned.tail h.turned.last _ h.at h.turned.was (omega (arith, sizes.0)) c.cut.ensures.rest c.cut.ensures.cut)

pub returns : goal.returns
returns c set old h =
    let sizes = turns_sizes old c.args.falses.now h.turned in
    let lit : c.index-falses-last.result ≡ opposite h.turned.last = c.index-falses-last.is ∙ turns_last old c.args.falses.now h.turned _ _ (omega (arith, sizes.0)) in
    let back = at_cut c.args.engine.now c.cut.new.self set old h.turned.rest (h.turned.last ∷ h.turned.tail) _ h.at h.turned.was (omega (arith, sizes.0)) (omega (arith, sizes.0, sizes.1)) c.cut.ensures.rest c.cut.ensures.clauses c.cut.ensures.cut c.cut.ensures.decided in
    let now : h.turned.rest ++ c.index-falses-last.result ∷ [] ≡ c.args.falses.now = ap (λ (l : Literal). h.turned.rest ++ l ∷ []) lit ∙ sym h.turned.now in
    subst (λ (x : List Literal). LookSays c.assume_false.new.engine set x c.in_ok-conflict.conflict) now (c.in_ok-conflict.ensures set h.turned.rest back)
