-- The first refusal, kind by kind and rule by rule.
use Rattle.std.proofs.Common.{◌≡◌, List, [], ◌∷◌, ◌++◌, map, refl, sym, ap, ◌∙◌, subst, append-nil, arith}
use Rattle.std.specs.Prelude.{Option}
use Rattle.std.proofs.lemmas.List.{map-append}
use Rattle.civl_tree.specs.declared.program.Program.{Program}
use Rattle.civl_tree.specs.declared.refusal.Refusal.{Refusal}
use Rattle.civl_tree.specs.rules.Codes.{E10}
use Rattle.civl_tree.specs.rules.Rules.{Rule, Place, each_place, global_places, action_places, proc_places, places_of, refusal_at, refusals_of, refusal_by, first_of}
use Rattle.civl_tree.specs.rules.Typing.{twice_rule, unknown_rule}
use Rattle.civl_tree.specs.rules.Twice.{stmt_twice}
use Rattle.civl_tree.specs.rules.Unknown.{stmt_unknown}
use Rattle.civl_tree.specs.Numbering.{statements_of}
use Rattle.civl_tree.specs.rules.Broken.{IsRefusal, AreInOrder}
use Rattle.civl_tree.proofs.First.{first_is_answer, in_order}
use Rattle.civl_tree.proofs.Ordered.{where_in_order}
use Rattle.civl_names.proofs.walks.Walking.{or_first, first_append}
use Rattle.civl_names.proofs.walks.Placing.{no_invariants, no_threads}
use Rattle.civl_names.specs.inner.NameSets.{first_twice}

-- E10 asks nothing of the header, `init`, the invariants and the threads
twice_places : (program : Program) → places_of twice_rule program ≡ each_place (global_places twice_rule program) 0 program.globals ++ (each_place (action_places twice_rule program) 0 program.actions ++ each_place (proc_places twice_rule program) 0 program.procs)
unfolding places_of
twice_places program = simp (no_invariants twice_rule program (λ place invariant. refl), no_threads twice_rule program (λ place thread. refl), append-nil {A = Place})

twice_in_parts : (program : Program) → first_of (refusals_of twice_rule program)
    ≡ or_first (first_twice (global_places twice_rule program) 0 program.globals) (or_first (first_twice (action_places twice_rule program) 0 program.actions) (first_twice (proc_places twice_rule program) 0 program.procs))
twice_in_parts program =
    let globals : List Place = each_place (global_places twice_rule program) 0 program.globals in
    let actions : List Place = each_place (action_places twice_rule program) 0 program.actions in
    let procs : List Place = each_place (proc_places twice_rule program) 0 program.procs in
    ap (λ (places : List Place). first_of (map (refusal_at E10) places)) (twice_places program)
    ∙ ap first_of (map-append (refusal_at E10) globals (actions ++ procs))
    ∙ first_append (map (refusal_at E10) globals) (map (refusal_at E10) (actions ++ procs))
    ∙ ap (or_first (first_twice (global_places twice_rule program) 0 program.globals)) (ap first_of (map-append (refusal_at E10) actions procs) ∙ first_append (map (refusal_at E10) actions) (map (refusal_at E10) procs))

abbrev pub name_rules : List Rule
name_rules = twice_rule ∷ unknown_rule ∷ []

pub in_parts : (program : Program) → refusal_by name_rules program
    ≡ or_first (or_first (first_twice (global_places twice_rule program) 0 program.globals) (or_first (first_twice (action_places twice_rule program) 0 program.actions) (first_twice (proc_places twice_rule program) 0 program.procs))) (first_of (refusals_of unknown_rule program))
in_parts program =
    first_append (refusals_of twice_rule program) (refusals_of unknown_rule program ++ [])
    ∙ ap (λ (o : Option Refusal). or_first o (first_of (refusals_of unknown_rule program ++ []))) (twice_in_parts program)
    ∙ ap (λ (rest : List Refusal). or_first (or_first (first_twice (global_places twice_rule program) 0 program.globals) (or_first (first_twice (action_places twice_rule program) 0 program.actions) (first_twice (proc_places twice_rule program) 0 program.procs))) (first_of rest)) (append-nil (refusals_of unknown_rule program))

-- what is the first by the list is the first by the relation
names_in_order : AreInOrder name_rules
names_in_order =
    in_order name_rules (omega arith, (omega arith, tt)) (
      λ program place proc. where_in_order stmt_twice 0 (statements_of proc.body),
      (λ program place proc. where_in_order (stmt_unknown program proc) 0 (statements_of proc.body), tt),
    )

pub is_answer : (program : Program) (refusal : Option Refusal) → refusal ≡ refusal_by name_rules program → IsRefusal name_rules program refusal
is_answer program refusal e = subst (IsRefusal name_rules program) (sym e) (first_is_answer name_rules program names_in_order)
