-- The outputs of actions have modes of outputs, where a text can spell the program.
use Rattle.std.specs.Prelude.{◌==◌, IsTrue}
use Rattle.std.specs.List.{list_all}
use Rattle.std.proofs.Common.{Bool}
use Rattle.std.proofs.lemmas.Bool.{and_parts}
use Rattle.civl_tree.specs.SpellingDomain.{allows_name, allows_expr, allows_global, allows_invariant, allows_param, allows_out, allows_action, allows_program}
use Rattle.civl_tree.specs.declared.program.Program.{Program}
use Rattle.civl_tree.proofs.Lists.{all_get}
use Rattle.civl_movers.specs.Settings.{HaveOutModes}

pub have_out_modes : (program : Program) → IsTrue (allows_program program) → HaveOutModes program
have_out_modes program written x a at =
    let new : Bool = program.version == 2 in
    let globals = and_parts (list_all allows_global program.globals) _ written in
    let init = and_parts (allows_expr new program.init) _ globals.1 in
    let invariants = and_parts (list_all (allows_invariant new) program.invariants) _ init.1 in
    let actions = and_parts (list_all (allows_action new) program.actions) _ invariants.1 in
    let action = all_get (allows_action new) program.actions x a actions.0 at in
    let params = and_parts (list_all allows_param a.params) _ (and_parts (allows_name a.name) _ action).1 in
    (and_parts (list_all allows_out a.outs) _ params.1).0
