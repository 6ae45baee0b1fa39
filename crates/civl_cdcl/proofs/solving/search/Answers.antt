use Rattle.std.proofs.Common.{arith, ◌++◌, [], ◌∷◌, sym, ◌∙◌, ap, ap₂, subst, length, ◌≡◌, ◌<◌, ◌+◌, List, ℕ, Bool, append-nil}
use Rattle.std.specs.Prelude.{Option}
use Rattle.std.proofs.lemmas.Bool.{ltb-true}
use Rattle.std.proofs.lemmas.List.{length_push}
use Rattle.civl_cnf.specs.Literal.{Literal}
use Rattle.civl_cnf.specs.ClauseSet.{IsBelow}
use Rattle.civl_propagation.specs.Trail.{TrailState}
use Rattle.civl_propagation.specs.Engine.{IsQuietBelow}
use Rattle.civl_cdcl.specs.inner.Notes.{IsClear}
use Rattle.civl_cdcl.specs.Turn.{AreBits}
use Rattle.civl_cdcl.specs.declared.turn.Turn.TheVariants.{Marked, Refuted, Full, Learns}
use Rattle.civl_cdcl.proofs.Turning.{turned_as}
use Rattle.civl_cdcl.proofs.Outcomes.{below_first, learned_over, rup_over, full_over, behind, model_by, learned_push, refutes_by, spends_by}
use Rattle.civl_cdcl.proofs.solving.search.Goals as goal

pub turns-init : goal.turns-init
turns-init c =
    let set = c.args.cnf.now in
    let e = c.args.engine.now in
    let root = c.requires.root in
    let log = c.new-log.result in
    let none : set.clauses ++ log ≡ set.clauses = ap (λ (x : List (List Literal)). set.clauses ++ x) c.new-log.ensures ∙ append-nil set.clauses in
    let size : length log ≡ 0 = ap length c.new-log.ensures in
    let same : e.clauses ≡ set.clauses ++ log = root.has ∙ sym none in
    record {
      size = root.size;
      below = below_first (length e.trail.marks) set.variables set.clauses log e.clauses root.size same root.rest.engine.below;
      clauses = same;
      ends = root.rest;
      learned = λ i low. absurd (omega arith);
      few = omega arith;
      clear = c.requires.clear;
    }

pub take_turn-requires-clause-clear : goal.take_turn-requires-clause-clear
take_turn-requires-clause-clear c = subst (IsClear c.turns.notes.seen.items) (sym c.turns.invariant.size) c.turns.invariant.clear

pub returns-in-Marked : goal.returns-in-Marked
returns-in-Marked c =
    let set = c.args.cnf.now in
    let inv = c.turns.invariant in
    let e = c.take_turn.new.engine in
    let bits = c.in_ok-bits-in-Marked.bits in
    let says = turned_as _ c.turns.engine e c.in_ok-turned.turned Marked c.in-Marked.is c.in_ok-turned.ensures.says in
    model_by set c.turns.log c.turns.engine e bits inv.size inv.clauses inv.below says
    (subst (λ (m : List (Option Bool)). AreBits m bits) (c.marks.ensures ∙ ap (λ (t : TrailState). t.marks) c.trail.ensures) c.in_ok-bits-in-Marked.ensures)

pub returns-in-Refuted : goal.returns-in-Refuted
returns-in-Refuted c =
    let set = c.args.cnf.now in
    let inv = c.turns.invariant in
    let log = c.turns.log in
    let old = c.turns.engine in
    let says = turned_as _ old c.take_turn.new.engine c.in_ok-turned.turned Refuted c.in-Refuted.is c.in_ok-turned.ensures.says in
    refutes_by set c.args.budget log c.push_empty.new.log c.in_ok-push_empty-in-Refuted.ensures inv.few inv.learned
    (rup_over (length old.trail.marks) set.variables old.clauses (set.clauses ++ log) inv.size inv.clauses says)

pub returns-in-Full : goal.returns-in-Full
returns-in-Full c =
    let set = c.args.cnf.now in
    let inv = c.turns.invariant in
    let log = c.turns.log in
    let old = c.turns.engine in
    let says = turned_as _ old c.take_turn.new.engine c.in_ok-turned.turned Full c.in-Full.is c.in_ok-turned.ensures.says in
    spends_by set c.args.budget c.len.result log c.len.ensures inv.few inv.learned
    (full_over _ (length old.trail.marks) set.variables old.clauses (set.clauses ++ log) inv.size inv.clauses says)

pub add-requires-clause-rest : goal.add-requires-clause-rest
add-requires-clause-rest c =
    let says = turned_as _ c.turns.engine c.take_turn.new.engine c.in_ok-turned.turned (Learns c.in-Learns.clause) c.in-Learns.is c.in_ok-turned.ensures.says in
    says.rest

pub add-requires-clause-below : goal.add-requires-clause-below
add-requires-clause-below c =
    let e = c.take_turn.new.engine in
    let says = turned_as _ c.turns.engine e c.in_ok-turned.turned (Learns c.in-Learns.clause) c.in-Learns.is c.in_ok-turned.ensures.says in
    subst (IsBelow (length e.trail.marks)) (sym c.lits.ensures) (subst (λ (n : ℕ). IsBelow n c.in-Learns.clause) (sym says.size) says.learned.rup.below)

pub add-requires-clause-levels : goal.add-requires-clause-levels
add-requires-clause-levels c =
    let e = c.take_turn.new.engine in
    let says = turned_as _ c.turns.engine e c.in_ok-turned.turned (Learns c.in-Learns.clause) c.in-Learns.is c.in_ok-turned.ensures.says in
    subst (IsQuietBelow e.trail) (sym c.lits.ensures) says.levels

pub turns-smaller : goal.turns-smaller
turns-smaller c =
    let clause = c.in-Learns.clause in
    let says = turned_as _ c.turns.engine c.take_turn.new.engine c.in_ok-turned.turned (Learns clause) c.in-Learns.is c.in_ok-turned.ensures.says in
    let less : c.len.result < c.args.budget = ltb-true c.len.result c.args.budget says.limit in
    let longer : length c.push_hinted.new.self ≡ length c.turns.log + 1 = ap length c.in_ok-push_hinted-in-Learns.ensures.ok ∙ length_push c.turns.log clause in
    omega (arith, c.len.ensures)

pub turns-preserved : goal.turns-preserved
turns-preserved c =
    let set = c.args.cnf.now in
    let inv = c.turns.invariant in
    let log = c.turns.log in
    let old = c.turns.engine in
    let clause = c.in-Learns.clause in
    let more = c.push_hinted.new.self in
    let says = turned_as _ old c.take_turn.new.engine c.in_ok-turned.turned (Learns clause) c.in-Learns.is c.in_ok-turned.ensures.says in
    let added = c.in_ok-next-in-Learns.ensures in
    let less : c.len.result < c.args.budget = ltb-true c.len.result c.args.budget says.limit in
    let more_is : more ≡ log ++ clause ∷ [] = c.in_ok-push_hinted-in-Learns.ensures.ok in
    let longer : length more ≡ length log + 1 = ap length more_is ∙ length_push log clause in
    record {
      size = added.grows.size ∙ says.size ∙ inv.size;
      below = inv.below;
      clauses = added.clauses ∙ ap₂ (λ (cs : List (List Literal)) (x : List Literal). cs ++ x ∷ []) (says.clauses ∙ inv.clauses) c.lits.ensures ∙ behind set.clauses log more clause more_is;
      ends = added.ended;
      learned = learned_push set log more clause more_is inv.learned (learned_over (length old.trail.marks) set.variables old.clauses (set.clauses ++ log) clause inv.size inv.clauses says.learned);
      few = omega (arith, c.len.ensures);
      clear = subst (IsClear c.take_turn.new.notes.seen.items) inv.size c.in_ok-turned.ensures.clear;
    }
