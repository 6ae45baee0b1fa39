use Rattle.std.proofs.Common.{refl, false, arith}
use Rattle.civl_tree.specs.rules.Scopes.{global_scope}
use Rattle.civl_actions.specs.declared.scope.Scope.{Scope}
use Rattle.civl_states.proofs.formula_parts.Saying.{constant_test}
use Rattle.civl_states.proofs.Noting.{global_fits, global_meant, said_of, test_of}
use Rattle.civl_states.proofs.notes.global_note.Goals as goal

pub term-requires : goal.term-requires
term-requires c =
    let p = c.args.program.now in
    let m = c.constant.new.self in
    let gs = c.args.globals.now in
    let no = c.in_ok-no.no in
    let fits = global_fits c.args.terms.now m p gs c.in_ok-no.ensures.grows c.requires.globals no (constant_test c.args.terms.now m no false c.in_ok-no.ensures.built)
    (record { names = c.global_names.result; values = c.args.globals; old = c.args.globals; done = no; old_done = no }) c.global_names.ensures refl refl refl refl in
    (global_scope p, fits, c.requires.typed)

pub returns-clause-note : goal.returns-clause-note
returns-clause-note c =
    let p = c.args.program.now in
    let o = c.args.terms.now in
    let m = c.constant.new.self in
    let n = c.term.new.terms in
    let gs = c.args.globals.now in
    let no = c.in_ok-no.no in
    let is_no = constant_test o m no false c.in_ok-no.ensures.built in
    let sc : Scope = record { names = c.global_names.result; values = c.args.globals; old = c.args.globals; done = no; old_done = no } in
    let fits = global_fits o m p gs c.in_ok-no.ensures.grows c.requires.globals no is_no sc c.global_names.ensures refl refl refl refl in
    let meant = global_meant o m p gs c.in_ok-no.ensures.grows c.requires.globals no is_no sc c.global_names.ensures refl refl refl refl in
    record {
      said = λ sort g sorted said. said_of m n sc (global_scope p) c.args.expr.now c.in_ok-id.id sort _ c.in_ok-id.ensures.grows fits (meant g said) c.requires.typed sorted c.in_ok-id.ensures.built;
      holds = λ g sorted said. test_of m n sc (global_scope p) c.args.expr.now c.in_ok-id.id _ c.len-count.ensures.graph c.in_ok-id.ensures.grows fits (meant g said) c.requires.typed sorted c.in_ok-id.ensures.built;
    }

pub returns-clause-sorted : goal.returns-clause-sorted
returns-clause-sorted c =
    let p = c.args.program.now in
    let m = c.constant.new.self in
    let no = c.in_ok-no.no in
    let fits = global_fits c.args.terms.now m p c.args.globals.now c.in_ok-no.ensures.grows c.requires.globals no (constant_test c.args.terms.now m no false c.in_ok-no.ensures.built)
    (record { names = c.global_names.result; values = c.args.globals; old = c.args.globals; done = no; old_done = no }) c.global_names.ensures refl refl refl refl in
    c.in_ok-id.ensures.built.sorted (global_scope p) fits c.requires.typed

pub returns-clause-weighs : goal.returns-clause-weighs
returns-clause-weighs c =
    let p = c.args.program.now in
    let m = c.constant.new.self in
    let no = c.in_ok-no.no in
    let fits = global_fits c.args.terms.now m p c.args.globals.now c.in_ok-no.ensures.grows c.requires.globals no (constant_test c.args.terms.now m no false c.in_ok-no.ensures.built)
    (record { names = c.global_names.result; values = c.args.globals; old = c.args.globals; done = no; old_done = no }) c.global_names.ensures refl refl refl refl in
    omega (arith, c.in_ok-no.ensures.built.weighs, c.in_ok-id.ensures.built.weighs (global_scope p) fits c.requires.typed)
