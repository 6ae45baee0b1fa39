use Rattle.std.proofs.Common.{◌≡◌, ◌-◌, ◌+◌, ◌<◌, ◌++◌, ℕ, List, length, None, sym, subst, ap, ap₂, ◌∙◌, arith}
use Rattle.std.proofs.lemmas.List.{length-replicate}
use Rattle.civl_cnf.specs.Literal.{Literal}
use Rattle.civl_rup.specs.Rup.{Refutes, HaveRup}
use Rattle.civl_units.specs.Trail.{Marking}
use Rattle.civl_proofs.specs.Lean.{IsSublist}
use Rattle.civl_proofs.proofs.Leaving.{NeededFrom, needed_shorter, needed_here, rup_before, length_shorter, sublist_same, sublist_trans, sublist_shorter}
use Rattle.civl_proofs.proofs.trimming.trim.Goals as goal

pub places-init : goal.places-init
places-init c =
    let copy = c.copy_all.new.copy in
    let log = c.args.log.now in
    let is : copy ≡ log = c.in_ok-copy_all.ensures ∙ ap₂ (λ (xs ys : List (List Literal)). xs ++ ys) c.new-short.ensures c.clauses.ensures in
    record {
      marks = ap (λ (m : Marking). length m.values) c.in_ok-marks.ensures ∙ length-replicate c.variables.result None ∙ c.variables.ensures.is;
      refutes = subst (Refutes c.args.cnf.now) (sym is) c.requires;
      part = subst (λ (xs : List (List Literal)). IsSublist xs log) (sym is) (sublist_same log);
      low = omega (arith, c.len-at.ensures);
      needed = λ place from within. absurd (omega (arith, from, within, c.len-at.ensures));
    }

pub refutes-requires-clause-known : goal.refutes-requires-clause-known
refutes-requires-clause-known c =
    let at : ℕ = c.places.at - 1 in
    let low : at < length c.places.short = omega (arith, c.places.invariant.low, c.places-test.true) in
    subst (λ (xs : List (List Literal)). HaveRup c.args.cnf.now xs at) (sym c.in_ok-shorter.ensures) (rup_before c.args.cnf.now c.places.short at low c.places.invariant.refutes)

pub places-preserved-then-branch : goal.places-preserved-then-branch
places-preserved-then-branch c =
    let at : ℕ = c.places.at - 1 in
    let old = c.places.invariant in
    let short = c.places.short in
    let shorter = c.in_ok-shorter.shorter in
    let is = c.in_ok-shorter.ensures in
    let low : at < length short = omega (arith, old.low, c.places-test.true) in
    let next : c.places.at ≡ at + 1 = omega (arith, c.places-test.true) in
    record {
      marks = c.in_ok-refutes.ensures.size ∙ old.marks;
      refutes = c.in_ok-refutes.ensures.exact.0 c.if-branch.true;
      part = sublist_trans shorter short c.args.log.now (subst (λ (xs : List (List Literal)). IsSublist xs short) (sym is) (sublist_shorter short at low)) old.part;
      low = omega (arith, length_shorter short at low, ap length is, low);
      needed = subst (λ (xs : List (List Literal)). NeededFrom c.args.cnf.now xs at) (sym is) (needed_shorter c.args.cnf.now short at low old.refutes (subst (NeededFrom c.args.cnf.now short) next old.needed));
    }

pub places-preserved : goal.places-preserved
places-preserved c =
    let at : ℕ = c.places.at - 1 in
    let old = c.places.invariant in
    let short = c.places.short in
    let next : c.places.at ≡ at + 1 = omega (arith, c.places-test.true) in
    record {
      marks = c.in_ok-refutes.ensures.size ∙ old.marks;
      refutes = old.refutes;
      part = old.part;
      low = omega (arith, old.low);
      needed = needed_here c.args.cnf.now short at
          (λ h.
          let yes = c.in_ok-refutes.ensures.exact.1 (subst (Refutes c.args.cnf.now) (sym c.in_ok-shorter.ensures) h) in
          let no_more = c.if-branch.false in
          cc)
          (subst (NeededFrom c.args.cnf.now short) next old.needed);
    }

pub returns-clause-lean : goal.returns-clause-lean
returns-clause-lean c = record {
  refutes = c.places.invariant.refutes;
  needed = λ place low. c.places.invariant.needed place (omega (arith, c.places-test.false)) low;
}
