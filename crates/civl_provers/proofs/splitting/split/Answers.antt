use Rattle.std.proofs.Common.{◌≡◌, ℕ, ◌∙◌, ◌+◌, ◌<◌, ◌++◌, ◌∷◌, [], refl, sym, ap, subst, arith, List, length, get_or, true}
use Rattle.std.specs.Prelude.{All, None, nat_lt}
use Rattle.std.proofs.lemmas.Bool.{ltb-true, ltb-false}
use Rattle.std.proofs.lemmas.List.{length_push}
use Rattle.civl_cnf.specs.Literal.{Literal}
use Rattle.civl_units.specs.Marks.{marked, IsQuiet}
use Rattle.civl_provers.specs.Splitter.{IsSplit, AfterRefuted, left}
use Rattle.civl_provers.specs.inner.Standing.{LookSays, IsTurning}
use Rattle.civl_provers.specs.inner.Node.{JudgeSays, HaveValuesFrom, EndSays}
use Rattle.civl_provers.specs.declared.looking.Node.TheVariants.{Open, Stuck}
use Rattle.civl_provers.proofs.Branches.{chosen, refuted_by}
use Rattle.civl_provers.proofs.Nodes.{node_by}
use Rattle.civl_provers.proofs.Standings.{propagated_at, values_behind, end_within, turning, split_none}
use Rattle.civl_provers.proofs.Steps.{choice_fewer}
use Rattle.civl_provers.proofs.splitting.split.Goals as goal

pub branches-init : goal.branches-init
branches-init c =
    let set = c.args.cnf.now in
    let falses : c.new-falses.result.items ≡ [] = c.new-falses.ensures.items in
    let log : c.new-log.result ≡ [] = c.new-log.ensures in
    record {
      split = subst (λ (x : List Literal). IsSplit set x c.new-log.result) (sym falses) (subst (IsSplit set []) (sym log) (split_none set));
      low = omega (arith, ap length falses);
      looks = subst (λ (x : List Literal). LookSays c.load.new.engine set x c.in_ok-conflict.conflict) (sym falses) c.in_ok-conflict.ensures;
    }

pub returns-then-branch : goal.returns-then-branch
returns-then-branch c =
    let set = c.args.cnf.now in
    let falses = c.branches.falses.items in
    let inv = c.branches.invariant in
    let looks = subst (LookSays c.branches.engine set falses) c.if-conflict.true inv.looks in
    subst (AfterRefuted set c.refute.new.falses.items c.refute.new.log) c.if-branch.true (c.in_ok-refute.ensures.after set (refuted_by set falses c.branches.log inv.split looks.0))

pub turn-requires : goal.turn-requires
turn-requires c =
    let set = c.args.cnf.now in
    let falses = c.branches.falses.items in
    let inv = c.branches.invariant in
    let looks = subst (LookSays c.branches.engine set falses) c.if-conflict.true inv.looks in
    let turned = c.in_ok-refute.ensures.turned c.if-branch.false in
    let split = subst (AfterRefuted set c.refute.new.falses.items c.refute.new.log) c.if-branch.false (c.in_ok-refute.ensures.after set (refuted_by set falses c.branches.log inv.split looks.0)) in
    let now = turning c.branches.engine set falses c.refute.new.falses.items looks.1 turned split.branch in
    (set, falses, subst (λ (x : List Literal). IsTurning c.branches.engine set falses x) (sym c.as_slice.ensures.value) now)

pub judge-requires-clause-size : goal.judge-requires-clause-size
judge-requires-clause-size c =
    let looks = subst (LookSays c.branches.engine c.args.cnf.now c.branches.falses.items) c.if-conflict.false c.branches.invariant.looks in
    omega (arith, ap length c.marks.ensures, ap (λ t. length t.marks) c.trail.ensures, looks.0.size)

pub judge-requires-clause-quiet : goal.judge-requires-clause-quiet
judge-requires-clause-quiet c =
    let e = c.branches.engine in
    let set = c.args.cnf.now in
    let falses = c.branches.falses.items in
    let inv = c.branches.invariant in
    let looks = subst (LookSays e set falses) c.if-conflict.false inv.looks in
    let is : c.marks.result.now ≡ e.trail.marks = c.marks.ensures ∙ ap (λ t. t.marks) c.trail.ensures in
    let p = propagated_at e set falses looks.0 looks.1 in
    subst (λ m. All (IsQuiet (marked m)) set.clauses) (sym is) p.quiet

pub judge-requires-clause-within : goal.judge-requires-clause-within
judge-requires-clause-within c =
    let e = c.branches.engine in
    let set = c.args.cnf.now in
    let falses = c.branches.falses.items in
    let inv = c.branches.invariant in
    let looks = subst (LookSays e set falses) c.if-conflict.false inv.looks in
    let is : c.marks.result.now ≡ e.trail.marks = c.marks.ensures ∙ ap (λ t. t.marks) c.trail.ensures in
    let end = subst (λ (n : ℕ). EndSays n falses c.end_of-end.result) c.variables-else-conflict.ensures.is (subst (λ (x : List Literal). EndSays c.variables-else-conflict.result x c.end_of-end.result) c.as_slice-else-conflict.ensures.value c.end_of-end.ensures) in
    let low = end_within set falses c.end_of-end.result inv.split.branch end in
    omega (arith, ap length is, looks.0.size)

pub judge-requires-clause-behind : goal.judge-requires-clause-behind
judge-requires-clause-behind c =
    let e = c.branches.engine in
    let set = c.args.cnf.now in
    let falses = c.branches.falses.items in
    let inv = c.branches.invariant in
    let looks = subst (LookSays e set falses) c.if-conflict.false inv.looks in
    let is : c.marks.result.now ≡ e.trail.marks = c.marks.ensures ∙ ap (λ t. t.marks) c.trail.ensures in
    let end = subst (λ (n : ℕ). EndSays n falses c.end_of-end.result) c.variables-else-conflict.ensures.is (subst (λ (x : List Literal). EndSays c.variables-else-conflict.result x c.end_of-end.result) c.as_slice-else-conflict.ensures.value c.end_of-end.ensures) in
    subst (λ m. HaveValuesFrom m c.end_of-end.result) (sym is) (values_behind e set falses c.end_of-end.result looks.0 end)

pub branches-preserved-then-conflict : goal.branches-preserved-then-conflict
branches-preserved-then-conflict c =
    let e = c.branches.engine in
    let set = c.args.cnf.now in
    let falses = c.branches.falses.items in
    let new = c.refute.new.falses.items in
    let inv = c.branches.invariant in
    let looks = subst (LookSays e set falses) c.if-conflict.true inv.looks in
    let turned = c.in_ok-refute.ensures.turned c.if-branch.false in
    let split = subst (AfterRefuted set new c.refute.new.log) c.if-branch.false (c.in_ok-refute.ensures.after set (refuted_by set falses c.branches.log inv.split looks.0)) in
    let now = turning e set falses new looks.1 turned split.branch in
    record {
      split = split;
      low = (c.in_ok-refute.ensures.fewer c.if-branch.false c.args.depth inv.low).0;
      looks = subst (λ (x : List Literal). LookSays c.turn.new.engine set x c.in_ok-conflict-2.conflict) c.as_slice.ensures.value
          (c.in_ok-conflict-2.ensures set falses (subst (λ (x : List Literal). IsTurning e set falses x) (sym c.as_slice.ensures.value) now));
    }

pub returns-in-Stuck : goal.returns-in-Stuck
returns-in-Stuck c =
    let e = c.branches.engine in
    let set = c.args.cnf.now in
    let falses = c.branches.falses.items in
    let inv = c.branches.invariant in
    let looks = subst (LookSays e set falses) c.if-conflict.false inv.looks in
    let is : c.marks.result.now ≡ e.trail.marks = c.marks.ensures ∙ ap (λ t. t.marks) c.trail.ensures in
    let may = nat_lt c.len.result c.args.depth in
    let judged = subst (λ m. JudgeSays m set may Stuck) is (subst (JudgeSays c.marks.result.now set may) c.in-Stuck.is c.in_ok-bits.ensures) in
    let full = ltb-false c.len.result c.args.depth judged.0 in
    let low = inv.low in (
      falses,
      record {
        size = omega (arith, c.len.ensures);
        branch = inv.split.branch;
        unsettled = node_by e.trail.marks set falses may Stuck (propagated_at e set falses looks.0 looks.1) judged;
      },
    )

pub assume_false-requires-clause-rest : goal.assume_false-requires-clause-rest
assume_false-requires-clause-rest c = (subst (LookSays c.branches.engine c.args.cnf.now c.branches.falses.items) c.if-conflict.false c.branches.invariant.looks).1

pub assume_false-requires-clause-below : goal.assume_false-requires-clause-below
assume_false-requires-clause-below c =
    let e = c.branches.engine in
    let set = c.args.cnf.now in
    let falses = c.branches.falses.items in
    let inv = c.branches.invariant in
    let looks = subst (LookSays e set falses) c.if-conflict.false inv.looks in
    let is : c.marks.result.now ≡ e.trail.marks = c.marks.ensures ∙ ap (λ t. t.marks) c.trail.ensures in
    let may = nat_lt c.len.result c.args.depth in
    let judged = subst (λ m. JudgeSays m set may (Open c.in-Open.variable)) is (subst (JudgeSays c.marks.result.now set may) c.in-Open.is c.in_ok-bits.ensures) in
    let low = judged.1.0 in
    omega (arith, ap (λ (l : Literal). l.variable) c.new-lit.ensures)

pub assume_false-requires-clause-open : goal.assume_false-requires-clause-open
assume_false-requires-clause-open c =
    let e = c.branches.engine in
    let set = c.args.cnf.now in
    let falses = c.branches.falses.items in
    let inv = c.branches.invariant in
    let looks = subst (LookSays e set falses) c.if-conflict.false inv.looks in
    let is : c.marks.result.now ≡ e.trail.marks = c.marks.ensures ∙ ap (λ t. t.marks) c.trail.ensures in
    let may = nat_lt c.len.result c.args.depth in
    let judged = subst (λ m. JudgeSays m set may (Open c.in-Open.variable)) is (subst (JudgeSays c.marks.result.now set may) c.in-Open.is c.in_ok-bits.ensures) in
    ap (λ (l : Literal). get_or e.trail.marks l.variable None) c.new-lit.ensures ∙ judged.1.1

pub assume_false-requires-clause-behind : goal.assume_false-requires-clause-behind
assume_false-requires-clause-behind c =
    let e = c.branches.engine in
    let set = c.args.cnf.now in
    let falses = c.branches.falses.items in
    let inv = c.branches.invariant in
    let looks = subst (LookSays e set falses) c.if-conflict.false inv.looks in
    let is : c.marks.result.now ≡ e.trail.marks = c.marks.ensures ∙ ap (λ t. t.marks) c.trail.ensures in
    let may = nat_lt c.len.result c.args.depth in
    let judged = subst (λ m. JudgeSays m set may (Open c.in-Open.variable)) is (subst (JudgeSays c.marks.result.now set may) c.in-Open.is c.in_ok-bits.ensures) in
    let later = judged.1.2 in
    let variable = ap (λ (l : Literal). l.variable) c.new-lit.ensures in
    λ w low inside. later w (omega arith) inside

pub branches-smaller : goal.branches-smaller
branches-smaller c =
    let e = c.branches.engine in
    let set = c.args.cnf.now in
    let falses = c.branches.falses.items in
    let inv = c.branches.invariant in
    let looks = subst (LookSays e set falses) c.if-conflict.false inv.looks in
    let is : c.marks.result.now ≡ e.trail.marks = c.marks.ensures ∙ ap (λ t. t.marks) c.trail.ensures in
    let may = nat_lt c.len.result c.args.depth in
    let judged = subst (λ m. JudgeSays m set may (Open c.in-Open.variable)) is (subst (JudgeSays c.marks.result.now set may) c.in-Open.is c.in_ok-bits.ensures) in
    let l : Literal = record { variable = c.in-Open.variable; positive = true } in
    let now : c.push.new.self.items ≡ falses ++ l ∷ [] = c.in_ok-push-in-Open.ensures.items ∙ ap (λ x. falses ++ x ∷ []) c.new-lit.ensures in
    let few = ltb-true c.len.result c.args.depth judged.0 in
    let low : length falses < c.args.depth = omega (arith, c.len.ensures) in
    subst (λ (x : List Literal). left c.args.depth x < left c.args.depth falses) (sym now) (choice_fewer c.args.depth falses l refl low)

pub branches-preserved : goal.branches-preserved
branches-preserved c =
    let e = c.branches.engine in
    let set = c.args.cnf.now in
    let falses = c.branches.falses.items in
    let inv = c.branches.invariant in
    let looks = subst (LookSays e set falses) c.if-conflict.false inv.looks in
    let is : c.marks.result.now ≡ e.trail.marks = c.marks.ensures ∙ ap (λ t. t.marks) c.trail.ensures in
    let may = nat_lt c.len.result c.args.depth in
    let judged = subst (λ m. JudgeSays m set may (Open c.in-Open.variable)) is (subst (JudgeSays c.marks.result.now set may) c.in-Open.is c.in_ok-bits.ensures) in
    let log = c.branches.log in
    let v = c.in-Open.variable in
    let l : Literal = record { variable = v; positive = true } in
    let says = node_by e.trail.marks set falses may (Open v) (propagated_at e set falses looks.0 looks.1) judged in
    let now : c.push.new.self.items ≡ falses ++ l ∷ [] = c.in_ok-push-in-Open.ensures.items ∙ ap (λ x. falses ++ x ∷ []) c.new-lit.ensures in
    let longer : length c.push.new.self.items ≡ length falses + 1 = ap length now ∙ length_push falses l in
    let few = ltb-true c.len.result c.args.depth judged.0 in
    record {
      split = subst (λ (x : List Literal). IsSplit set x log) (sym now) (chosen set falses v log says.0 says.1 inv.split);
      low = omega (arith, c.len.ensures);
      looks = subst (λ (x : List Literal). LookSays c.assume_false.new.engine set x c.in_ok-conflict-in-Open.conflict) (sym c.in_ok-push-in-Open.ensures.items)
          (c.in_ok-conflict-in-Open.ensures set falses looks.0);
    }
