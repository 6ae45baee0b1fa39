-- The rules on names, counts and sorts, E10 to E24.
use Rattle.std.specs.Prelude.{List, [], ◌∷◌}
use Rattle.civl_tree.specs.rules.Names.{proc_named}
use Rattle.civl_tree.specs.rules.Uses.{init_uses, invariant_uses, with_uses, action_uses, stmt_uses, thread_uses}
use Rattle.civl_tree.specs.rules.Twice.{global_twice, action_twice, proc_twice, stmt_twice}
use Rattle.civl_tree.specs.rules.Unknown.{any_unknown, action_unknown, proc_unknown, stmt_unknown, thread_unknown}
use Rattle.civl_tree.specs.rules.Count.{header_count, action_count, proc_count, passes_limit, global_limit, invariant_limit, thread_limit}
use Rattle.civl_tree.specs.rules.Width.{any_width, global_width, action_width, proc_width}
use Rattle.civl_tree.specs.rules.Sorted.{any_missorted, stmt_missorted}
use Rattle.civl_tree.specs.rules.Index.{any_index, sort_index, action_index, proc_index}
use Rattle.civl_tree.specs.rules.Arity.{action_arity, refines_arity, stmt_arity, thread_arity}
use Rattle.civl_tree.specs.rules.StoreSize.{global_store_size}
use Rattle.civl_tree.specs.rules.Signature.{proc_signature_differs}
use Rattle.civl_tree.specs.rules.Codes.{E10, E11, E12, E20, E21, E22, E23, E24, E34}
use Rattle.civl_tree.specs.rules.Rules.{Rule, asks_nothing, statements_where}

-- E10: names that stand twice
abbrev pub twice_rule : Rule
twice_rule = record (asks_nothing E10) {
  global = λ program place global. global_twice program place global;
  action = λ program place action. action_twice program place action;
  proc = λ program place proc. proc_twice program place proc;
  statements = λ program place proc. statements_where stmt_twice proc;
}

-- E11: unknown names
abbrev pub unknown_rule : Rule
unknown_rule = record (asks_nothing E11) {
  init = λ program. any_unknown (init_uses program);
  invariant = λ program place invariant. any_unknown (invariant_uses program invariant);
  action = λ program place action. action_unknown program action;
  proc = λ program place proc. proc_unknown program proc;
  statements = λ program place proc. statements_where (stmt_unknown program proc) proc;
  thread = λ program place thread. thread_unknown program thread;
}

-- E12: counts, the three numbers of the header among them
abbrev pub count_rule : Rule
count_rule = record (asks_nothing E12) {
  header = λ program. header_count program;
  global = λ program place global. passes_limit global_limit place;
  invariant = λ program place invariant. passes_limit invariant_limit place;
  action = λ program place action. action_count place action;
  proc = λ program place proc. proc_count program place proc;
  thread = λ program place thread. passes_limit thread_limit place;
}

-- E20: widths
abbrev pub width_rule : Rule
width_rule = record (asks_nothing E20) {
  global = λ program place global. global_width program global;
  init = λ program. any_width (init_uses program);
  invariant = λ program place invariant. any_width (invariant_uses program invariant);
  action = λ program place action. action_width program action;
  proc = λ program place proc. proc_width program proc;
  statements = λ program place proc. statements_where (λ stmt. any_width (stmt_uses program proc stmt)) proc;
  thread = λ program place thread. any_width (thread_uses program thread);
}

-- E21: sorts
abbrev pub sort_rule : Rule
sort_rule = record (asks_nothing E21) {
  init = λ program. any_missorted (init_uses program);
  invariant = λ program place invariant. any_missorted (invariant_uses program invariant);
  action = λ program place action. any_missorted (action_uses program action);
  proc = λ program place proc. any_missorted (with_uses program proc proc.refines);
  statements = λ program place proc. statements_where (stmt_missorted program proc) proc;
  thread = λ program place thread. any_missorted (thread_uses program thread);
}

-- E22: the indices of rows
abbrev pub index_rule : Rule
index_rule = record (asks_nothing E22) {
  global = λ program place global. sort_index global.sort;
  init = λ program. any_index (init_uses program);
  invariant = λ program place invariant. any_index (invariant_uses program invariant);
  action = λ program place action. action_index program action;
  proc = λ program place proc. proc_index program proc;
  statements = λ program place proc. statements_where (λ stmt. any_index (stmt_uses program proc stmt)) proc;
  thread = λ program place thread. any_index (thread_uses program thread);
}

-- E23: numbers of arguments
abbrev pub arity_rule : Rule
arity_rule = record (asks_nothing E23) {
  action = λ program place action. action_arity action;
  proc = λ program place proc. refines_arity program proc.refines;
  statements = λ program place proc. statements_where (stmt_arity program) proc;
  thread = λ program place thread. thread_arity thread.args (proc_named program thread.callee);
}

-- E24: the size of a store
abbrev pub store_size_rule : Rule
store_size_rule = record (asks_nothing E24) { global = λ program place global. global_store_size program place global }

-- E10 to E24, in their order
abbrev pub typing_rules : List Rule
typing_rules = twice_rule ∷ unknown_rule ∷ count_rule ∷ width_rule ∷ sort_rule ∷ index_rule ∷ arity_rule ∷ store_size_rule ∷ []

-- E34: the signature of a procedure and of the action that it refines. It comes with the rules on layers, and stands here
-- since the meaning of programs rests on it.
abbrev pub signature_rule : Rule
signature_rule = record (asks_nothing E34) { proc = λ program place proc. proc_signature_differs program proc }
