use Rattle.std.proofs.Common.{ℕ, List, sym, subst}
use Rattle.civl_tree.specs.declared.expr.Sort.TheVariants.{Bool as Truth, Word}
use Rattle.civl_terms.proofs.Growing.{grows_trans}
use Rattle.civl_conditions.specs.Invariants.{invariants_hold}
use Rattle.civl_states.proofs.formula_parts.Saying.{sort_stays, test_stays}
use Rattle.civl_states.proofs.formula_parts.Listing.{sorts_stay, said_stay}
use Rattle.civl_states.specs.Stores.{AreStore}
use Rattle.civl_states.proofs.Runs.{ready_stays, invoked_stays}
use Rattle.civl_movers.proofs.interfere.Beside.{words_stay, apart_told}
use Rattle.civl_movers.proofs.interfere.acting.act.Goals as goal

pub items_apart-requires-clause-globals : goal.items_apart-requires-clause-globals
items_apart-requires-clause-globals c = sorts_stay _ _ _ _ c.in_ok-holds.ensures.grows c.requires.globals

pub items_apart-requires-clause-x : goal.items_apart-requires-clause-x
items_apart-requires-clause-x c = ready_stays _ _ _ _ c.in_ok-holds.ensures.grows c.requires.x

pub items_apart-requires-clause-owned : goal.items_apart-requires-clause-owned
items_apart-requires-clause-owned c = words_stay c.args.terms.now c.invariants_at.new.terms (Word c.args.program.now.permissions) c.in_ok-holds.ensures.grows c.args.owned.now c.requires.owned

pub run-requires-clause-globals : goal.run-requires-clause-globals
run-requires-clause-globals c = sorts_stay _ _ _ _ (grows_trans _ _ _ c.in_ok-holds.ensures.grows c.in_ok-apart.ensures.grows) c.requires.globals

pub run-requires-clause-x : goal.run-requires-clause-x
run-requires-clause-x c = ready_stays _ _ _ _ (grows_trans _ _ _ c.in_ok-holds.ensures.grows c.in_ok-apart.ensures.grows) c.requires.x

pub returns-in_err-apart-clause-grows : goal.returns-in_err-apart-clause-grows
returns-in_err-apart-clause-grows c = grows_trans _ _ _ c.in_ok-holds.ensures.grows c.in_err-apart.ensures.grows

pub returns-in_err-made-clause-grows : goal.returns-in_err-made-clause-grows
returns-in_err-made-clause-grows c = grows_trans _ _ _ c.in_ok-holds.ensures.grows (grows_trans _ _ _ c.in_ok-apart.ensures.grows c.in_err-made.ensures.grows)

pub returns-clause-grows : goal.returns-clause-grows
returns-clause-grows c = grows_trans _ _ _ c.in_ok-holds.ensures.grows (grows_trans _ _ _ c.in_ok-apart.ensures.grows c.in_ok-made.ensures.grows)

pub returns-clause-holds : goal.returns-clause-holds
returns-clause-holds c = sort_stays _ _ _ Truth (grows_trans _ _ _ c.in_ok-apart.ensures.grows c.in_ok-made.ensures.grows) c.in_ok-holds.ensures.sorted

pub returns-clause-apart : goal.returns-clause-apart
returns-clause-apart c = sort_stays _ _ _ Truth c.in_ok-made.ensures.grows c.in_ok-apart.ensures.sorted

pub returns-clause-is : goal.returns-clause-is
returns-clause-is c =
    let p = c.args.program.now in
    let o = c.args.terms.now in
    let n1 = c.invariants_at.new.terms in
    let n2 = c.items_apart.new.terms in
    let n3 = c.run.new.terms in
    let u = c.in_ok-holds.ensures.grows in
    let v = c.in_ok-apart.ensures.grows in
    let w = c.in_ok-made.ensures.grows in
    let uv = grows_trans o n1 n2 u v in
    record {
      holds = λ g s. test_stays n1 n3 _ (λ env. invariants_hold p c.args.step (g env)) (grows_trans n1 n2 n3 v w) (c.in_ok-holds.ensures.tells g (subst (λ (ids : List ℕ). AreStore o p ids g) (sym c.as_slice.ensures) s));
      apart = apart_told o n1 n2 n3 p c.args.globals.now c.args.x.now c.args.owned.now (Word p.permissions) c.in_ok-apart.apart u v w c.requires.owned c.in_ok-apart.ensures.tells;
      runs = λ a g i e s x. c.in_ok-made.ensures.runs a g i e (said_stay o n2 _ _ _ uv s) (invoked_stays o n2 p c.args.x.now a i e uv x);
    }
