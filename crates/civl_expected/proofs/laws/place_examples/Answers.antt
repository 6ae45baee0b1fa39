use Rattle.std.proofs.Common.{◌≡◌, Bool, filter, List, refl}
use Rattle.civl_tree.specs.Token.{Token}
use Rattle.civl_phrases.specs.Reader.{opened, enter, expect, after, done, ended, chosen, mapped, both, then_token, leaf, by_form}
use Rattle.civl_phrases.specs.List.{enclosed, series, repeated, repeated_by}
use Rattle.civl_phrases.specs.Leaf.{a_number}
use Rattle.civl_expressions.specs.readers.Names.{name_at}
use Rattle.civl_expressions.specs.readers.Exprs.{one_at, two_at, pick_at, binary_at, tail_at, inside_at, paren_at, literal_at, constant_at, olden_at, old_at, pair_at, get_at, join_at, exprs_at, set_at, fill_at, slice_at, widen_at, inner_expr, expr_by, expr_at}
use Rattle.civl_expressions.specs.readers.Headings.{mode_at, param_at, params_at, heading_at}
use Rattle.civl_declarations.specs.readers.Declarations.{global_at, init_at, invariant_at, thread_at}
use Rattle.civl_declarations.specs.readers.Actions.{action_at}
use Rattle.civl_declarations.specs.readers.Steps.{entry_at, step_at}
use Rattle.civl_statements.specs.readers.Stmts.{assign_at, assert_at, call_at, yield_at, commit_at, intro_at, spawn_at, if_at, plain_loop_at, yield_loop_at, rank_loop_at, while_at, stmt_by, inner_stmt, stmt_at}
use Rattle.civl_statements.specs.readers.Procs.{rank_of_at, local_word_at, local_at, body_at, proc_at}
use Rattle.civl_parser.specs.readers.Programs.{number_line_at, sizes_at, header_at, bodies_at, claims_at, program_at, program_text_at}
use Rattle.civl_parser.specs.inner.readers.Scripts.{schedule_at, script_text_at}
use Rattle.civl_outlines.specs.inner.readers.Outlines.{hold_at, note_at, saying_at, outline_text_at}
use Rattle.civl_parser.proofs.OfPrograms.{program_text_is}
use Rattle.civl_parser.proofs.OfScripts.{script_text_is}
use Rattle.civl_outlines.proofs.OfOutlines.{outline_text_is}
use Rattle.civl_expected.specs.declared.kind.TextKind.TheVariants.{Program, Script, Outline}
use Rattle.civl_expected.specs.Expected.{tried_tokens}
use Rattle.civl_expected.specs.examples.Places.{Expects}
use Rattle.civl_expected.proofs.Reading.{answer, stands_by, ends, expects, ends_by}
use Rattle.civl_expected.proofs.laws.place_examples.Goals as goal

in_program : (front chosen : List Token) (end : Bool) → filter (stands_by (program_text_at 64) (program_text_is 64) front) tried_tokens ≡ chosen
    → ends (answer (program_text_at 64) (program_text_is 64) front) ≡ end → Expects Program front chosen end
in_program front chosen end e k = record {
  those = expects (program_text_at 64) (program_text_is 64) front tried_tokens chosen e;
  ends = ends_by (program_text_at 64) (program_text_is 64) front end k;
}

in_script : (front chosen : List Token) (end : Bool) → filter (stands_by (script_text_at 64) (script_text_is 64) front) tried_tokens ≡ chosen
    → ends (answer (script_text_at 64) (script_text_is 64) front) ≡ end → Expects Script front chosen end
in_script front chosen end e k = record {
  those = expects (script_text_at 64) (script_text_is 64) front tried_tokens chosen e;
  ends = ends_by (script_text_at 64) (script_text_is 64) front end k;
}

in_outline : (front chosen : List Token) (end : Bool) → filter (stands_by (outline_text_at 64) (outline_text_is 64) front) tried_tokens ≡ chosen
    → ends (answer (outline_text_at 64) (outline_text_is 64) front) ≡ end → Expects Outline front chosen end
in_outline front chosen end e k = record {
  those = expects (outline_text_at 64) (outline_text_is 64) front tried_tokens chosen e;
  ends = ends_by (outline_text_at 64) (outline_text_is 64) front end k;
}

pub returns : goal.returns
unfolding opened enter expect after done ended chosen mapped both then_token leaf by_form enclosed series repeated repeated_by a_number name_at one_at two_at pick_at binary_at tail_at inside_at paren_at literal_at constant_at olden_at old_at pair_at get_at join_at exprs_at set_at fill_at slice_at widen_at inner_expr expr_by expr_at mode_at param_at params_at heading_at global_at init_at invariant_at thread_at action_at entry_at step_at assign_at assert_at call_at yield_at commit_at intro_at spawn_at if_at plain_loop_at yield_loop_at rank_loop_at while_at stmt_by inner_stmt stmt_at rank_of_at local_word_at local_at body_at proc_at number_line_at sizes_at header_at bodies_at claims_at program_at program_text_at schedule_at script_text_at hold_at note_at saying_at outline_text_at tried_tokens
returns c = record {
  at_start = in_program _ _ _ refl refl;
  behind_civl = in_program _ _ _ refl refl;
  behind_version = in_program _ _ _ refl refl;
  behind_fault = in_program _ _ _ refl refl;
  at_expression = in_program _ _ _ refl refl;
  in_parentheses = in_program _ _ _ refl refl;
  behind_operand = in_program _ _ _ refl refl;
  behind_operand_new = in_program _ _ _ refl refl;
  brackets_64 = in_program _ _ _ refl refl;
  brackets_65 = in_program _ _ _ refl refl;
  in_body = in_program _ _ _ refl refl;
  behind_yield = in_program _ _ _ refl refl;
  behind_statement = in_program _ _ _ refl refl;
  behind_program = in_program _ _ _ refl refl;
  behind_program_of_script = in_script _ _ _ refl refl;
  in_schedule = in_script _ _ _ refl refl;
  in_outline = in_outline _ _ _ refl refl;
}
