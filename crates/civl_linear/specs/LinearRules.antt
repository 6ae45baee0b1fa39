-- The rules on linear locals, E40 to E43.
use Rattle.std.specs.Prelude.{ℕ, Bool, List, [], ◌∷◌, ◌++◌, if◌then◌else◌}
use Rattle.civl_tree.specs.declared.program.Proc.{Proc}
use Rattle.civl_tree.specs.declared.program.Program.{Program}
use Rattle.civl_tree.specs.declared.stmt.Stmt.{Stmt}
use Rattle.civl_tree.specs.Numbering.{statements_of, exit_number}
use Rattle.civl_tree.specs.rules.Names.{names_in_proc}
use Rattle.civl_tree.specs.rules.Codes.{E40, E41, E42, E43}
use Rattle.civl_tree.specs.rules.Rules.{Rule, asks_nothing, statements_where}
use Rattle.civl_names.specs.walks.Walks.{numbers_with}
use Rattle.civl_linear.specs.Held.{traced_proc}
use Rattle.civl_linear.specs.Places.{stmt_not_held, stmt_held_twice, stmt_assigned, not_returned}

-- E40: the numbers of a procedure's calls and spawns with an argument that isn't held
abbrev pub not_held_numbers : Program → Proc → List ℕ
not_held_numbers program proc = numbers_with (stmt_not_held program proc (names_in_proc proc)) 0 (statements_of proc.body) (traced_proc program proc).befores

-- E41: the numbers of a procedure's calls and spawns that hold something twice
abbrev pub held_twice_numbers : Program → Proc → List ℕ
held_twice_numbers program proc = numbers_with (stmt_held_twice program (names_in_proc proc)) 0 (statements_of proc.body) (traced_proc program proc).befores

-- the statement is a loop that loses what was held at its head
abbrev pub is_lost : Stmt → Bool → Bool
is_lost stmt lost = lost

-- E42: the numbers of a procedure's loops that lose what was held, and that of its exit, where something is owed there
abbrev pub lost_numbers : Program → Proc → List ℕ
lost_numbers program proc =
    numbers_with is_lost 0 (statements_of proc.body) (traced_proc program proc).losses
    ++ (if not_returned proc (traced_proc program proc).after then exit_number proc.body ∷ [] else [])

-- E43: the numbers of a procedure's assigns and calls with a target that may not be one
abbrev pub assigned_numbers : Program → Proc → List ℕ
assigned_numbers program proc = statements_where (stmt_assigned program proc) proc

-- E40: arguments that aren't held
abbrev pub not_held_rule : Rule
not_held_rule = record (asks_nothing E40) { statements = λ program place proc. not_held_numbers program proc }

-- E41: what is held twice
abbrev pub held_twice_rule : Rule
held_twice_rule = record (asks_nothing E41) { statements = λ program place proc. held_twice_numbers program proc }

-- E42: what is lost by loops, or owed at the exit
abbrev pub lost_rule : Rule
lost_rule = record (asks_nothing E42) { statements = λ program place proc. lost_numbers program proc }

-- E43: assigns and results to what they may not go to
abbrev pub assigned_rule : Rule
assigned_rule = record (asks_nothing E43) { statements = λ program place proc. assigned_numbers program proc }

-- E40 to E43, in their order
abbrev pub linear_rules : List Rule
linear_rules = not_held_rule ∷ held_twice_rule ∷ lost_rule ∷ assigned_rule ∷ []
