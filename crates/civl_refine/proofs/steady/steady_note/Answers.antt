use Rattle.std.specs.Prelude.{List, ℕ, Bool}
use Rattle.civl_bits.specs.declared.value.Value.{Value}
use Rattle.civl_firing.specs.declared.store.Store.{Store}
use Rattle.std.proofs.Common.{◌∙◌, sym, subst}
use Rattle.civl_tree.specs.rules.Uses.{param_sorts}
use Rattle.civl_meaning.specs.Config.{frame_sorts}
use Rattle.civl_meaning.specs.Change.{outs_in}
use Rattle.civl_actions.specs.Scopes.{AreOf}
use Rattle.civl_states.specs.formula_parts.Said.{Env, IsTest}
use Rattle.civl_states.specs.formula_parts.Lists.{AreSaid}
use Rattle.civl_states.specs.declared.notes.View.{View}
use Rattle.civl_states.specs.Stores.{AreGlobals, AreStore}
use Rattle.civl_states.specs.Notes.{AreSeen}
use Rattle.civl_refine.proofs.Judging.{outs_sorted, outs_said, outs_within}
use Rattle.civl_refine.proofs.steady.steady_note.Goals as goal

pub out_ids-requires : goal.out_ids-requires
out_ids-requires c = outs_within c.args.terms.now c.args.proc.now c.args.locals.now c.requires.locals

pub note-requires-clause-view : goal.note-requires-clause-view
note-requires-clause-view c =
    let o = c.args.terms.now in
    let p = c.args.program.now in
    let q = c.args.proc.now in
    let outs = subst (λ (xs : List ℕ). AreOf o xs (param_sorts q.outs)) (sym (c.as_slice-4.ensures ∙ c.in_ok-outs.ensures)) (outs_sorted o q c.args.locals.now c.requires.locals) in
    record {
      globals = subst (AreGlobals o p) (sym c.as_slice.ensures) c.requires.globals;
      locals = subst (λ (xs : List ℕ). AreOf o xs (frame_sorts q)) (sym c.as_slice-2.ensures) c.requires.locals;
      done = c.requires.done;
      old_globals = subst (AreGlobals o p) (sym c.as_slice-3.ensures) c.requires.globals;
      old_outs = outs;
      old_done = c.requires.done;
    }

pub returns-clause-note : goal.returns-clause-note
returns-clause-note c =
    let o = c.args.terms.now in
    let p = c.args.program.now in
    let q = c.args.proc.now in
    let view : View = record { globals = c.as_slice.result; locals = c.as_slice-2.result; done = c.args.done; old_globals = c.as_slice-3.result; old_outs = c.as_slice-4.result; old_done = c.args.done } in
    let seen : (g : Env → Store) (v : Env → List Value) (d : Env → Bool) → AreStore o p c.args.globals.now g → AreSaid o c.args.locals.now (frame_sorts q) v → IsTest o c.args.done d
    → AreSeen o p q view (λ env. record { store = g env; locals = v env; done = d env; old = g env; old_outs = outs_in q (v env); old_done = d env }) =
    λ g v d s t u. record {
      globals = subst (λ (xs : List ℕ). AreStore o p xs g) (sym c.as_slice.ensures) s;
      locals = subst (λ (xs : List ℕ). AreSaid o xs (frame_sorts q) v) (sym c.as_slice-2.ensures) t;
      done = u;
      old_globals = subst (λ (xs : List ℕ). AreStore o p xs g) (sym c.as_slice-3.ensures) s;
      old_outs = subst (λ (xs : List ℕ). AreSaid o xs (param_sorts q.outs) (λ env. outs_in q (v env))) (sym (c.as_slice-4.ensures ∙ c.in_ok-outs.ensures)) (outs_said o q c.args.locals.now v t);
      old_done = u;
    } in
    record {
      said = λ sort g v d e s t u. c.in_ok-id.ensures.note.said sort _ e (seen g v d s t u);
      holds = λ g v d e s t u. c.in_ok-id.ensures.note.holds _ e (seen g v d s t u);
    }
