-- That going over statements computes, by the form of each.
use Rattle.std.proofs.Common.{◌≡◌, Bool, List, refl, sym, ap, ◌∙◌}
use Rattle.civl_tree.specs.declared.name.Name.{Name}
use Rattle.civl_tree.specs.declared.stmt.Stmt.{Stmt, out-Stmt, roll-out-Stmt, map-Stmt}
use Rattle.civl_tree.specs.declared.stmt.Stmt.TheOpen.{Stmt-F, If, While, YieldLoop, RankLoop, Call, Spawn}
use Rattle.civl_tree.specs.declared.stmt.Stmt.TheFolds.{fold-roll-Stmt}
use Rattle.civl_tree.specs.declared.program.Program.{Program}
use Rattle.civl_tree.specs.rules.Names.{proc_named, proc_signature_of, callee_signature}
use Rattle.civl_tree.proofs.Layers.{layers}
use Rattle.civl_names.proofs.walks.Finding.{computing}
use Rattle.civl_linear.specs.Held.{Traced, traced, traced_all, trace_step, trace_one, trace_if, trace_loop, call_held, spawn_held}

abbrev pub traced_form : Program → List Name → Stmt-F Stmt → List Bool → Traced
traced_form program names (If test first second) held = trace_if held (traced_all program names first held) (traced_all program names second held)
traced_form program names (While test body) held = trace_loop held (traced_all program names body held)
traced_form program names (YieldLoop test inv body) held = trace_loop held (traced_all program names body held)
traced_form program names (RankLoop test rank inv body) held = trace_loop held (traced_all program names body held)
traced_form program names (Call callee args results) held = trace_one held (call_held names (callee_signature program callee) args results held)
traced_form program names (Spawn callee args) held = trace_one held (spawn_held names (proc_signature_of (proc_named program callee)) args held)
traced_form program names _ held = trace_one held held

form_traced : (program : Program) (names : List Name) (form : Stmt-F Stmt) (held : List Bool) → trace_step program names (map-Stmt Stmt (List Bool → Traced) (traced program names) form) held ≡ traced_form program names form held
form_traced program names (If test first second) held = refl
form_traced program names _ held = refl

pub traced_is : (program : Program) (names : List Name) (stmt : Stmt) (held : List Bool) → traced program names stmt held ≡ traced_form program names (out-Stmt stmt) held
traced_is program names stmt held =
    ap (λ (s : Stmt). traced program names s held) (sym (roll-out-Stmt stmt))
    ∙ ap (λ (f : List Bool → Traced). f held) (fold-roll-Stmt (List Bool → Traced) (trace_step program names) (out-Stmt stmt))
    ∙ form_traced program names (out-Stmt stmt) held

pub ruleset examples = (traced_is, computing, layers)
