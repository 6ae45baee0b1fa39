-- A program starts with one of its configurations.
use Rattle.std.proofs.Common.{◌≡◌, ℕ, Bool, false, ◌||◌, List, length, refl, sym, ap, ◌∙◌, subst, Option, Some, None, slice_get}
use Rattle.std.specs.Prelude.{All, is_none, nat_eq}
use Rattle.std.specs.List.{list_any}
use Rattle.std.proofs.lemmas.Bool.{not-false, or_parts, eqb-true, eq-eqb}
use Rattle.std.proofs.lemmas.List.{length-map}
use Rattle.std.proofs.lemmas.List.Elements.{All-map}
use Rattle.std.proofs.lemmas.Map.Keys.{any_passes_from_place}
use Rattle.civl_tree.specs.declared.name.Name.{Name}
use Rattle.civl_tree.specs.declared.expr.Expr.{Expr}
use Rattle.civl_tree.specs.declared.program.Global.{Global}
use Rattle.civl_tree.specs.declared.program.Proc.{Proc}
use Rattle.civl_tree.specs.declared.program.Thread.{Thread}
use Rattle.civl_tree.specs.declared.program.Program.{Program}
use Rattle.civl_tree.specs.Numbering.{statements_of}
use Rattle.civl_tree.specs.rules.Names.{proc_named, proc_signature_of}
use Rattle.civl_tree.specs.rules.Scopes.{global_scope}
use Rattle.civl_tree.specs.rules.Uses.{param_sorts, taken_sorts, argument_uses, thread_uses}
use Rattle.civl_tree.specs.rules.Width.{any_width}
use Rattle.civl_tree.specs.rules.Index.{any_index}
use Rattle.civl_tree.specs.rules.Sorted.{any_missorted}
use Rattle.civl_tree.specs.rules.Unknown.{any_unknown}
use Rattle.civl_tree.specs.rules.Arity.{thread_arity}
use Rattle.civl_tree.specs.rules.Typing.{typing_rules, unknown_rule, width_rule, sort_rule, index_rule, arity_rule}
use Rattle.civl_tree.proofs.Kept.{thread_kept, unknown_among, width_among, sort_among, index_among, arity_among}
use Rattle.civl_tree.proofs.Options.{some_of}
use Rattle.civl_tree.proofs.Lists.{all_by_get}
use Rattle.civl_firing.specs.declared.store.Store.{Store}
use Rattle.civl_meaning.specs.declared.config.Plain.{Plain}
use Rattle.civl_firing.specs.values.Values.{HaveSorts}
use Rattle.civl_firing.specs.Stores.{IsStore}
use Rattle.civl_firing.specs.Eval.{values_of}
use Rattle.civl_firing.specs.Scope.{global_values}
use Rattle.civl_firing.specs.Sorts.{IsSorted}
use Rattle.civl_meaning.specs.Meaning.{proc_number}
use Rattle.civl_meaning.specs.Step.{begun}
use Rattle.civl_meaning.specs.Config.{IsPlain, spawns, IsBegun, ThreadIsSorted, IsStacked, StartIsOf}
use Rattle.civl_firing.proofs.Finding.{found_at}
use Rattle.civl_firing.proofs.Having.{found_alone, args_have_sorts}

-- ---- the procedure of a name

pub proc_is : (program : Program) (name : Name) → slice_get program.procs (proc_number program name) ≡ proc_named program name
proc_is program name = found_at (λ (p : Proc). p.name) program.procs name

-- ---- threads

pub globals_sorted : (program : Program) (store : Store) → IsStore program.globals store → IsSorted (global_values program.globals store) (global_scope program)
globals_sorted program store h =
    let f = found_alone (λ (g : Global). g.name) (λ (g : Global). g.sort) program.globals store.values h in
    record { names = f; olds = f }

-- the arguments of a thread of this procedure
thread_args : (program : Program) (store : Store) → IsStore program.globals store → (args : List Expr) (o : Option Proc) (p : Proc) → o ≡ Some p →
    any_missorted (argument_uses (global_scope program) args (taken_sorts (proc_signature_of o))) ≡ false →
    any_width (argument_uses (global_scope program) args (taken_sorts (proc_signature_of o))) ≡ false →
    any_index (argument_uses (global_scope program) args (taken_sorts (proc_signature_of o))) ≡ false →
    thread_arity args o ≡ false → HaveSorts (values_of (global_values program.globals store) args) (param_sorts p.params)
thread_args program store h args None p e m w i n = absurd (cc)
thread_args program store h args (Some q) p e m w i n =
    let r : q ≡ p = cc in
    let len = eqb-true (length args) (length q.params) (not-false _ (or_parts _ _ n).0) in
    let same : length args ≡ length (param_sorts q.params) = len ∙ sym (length-map q.params (λ x. x.sort)) in
    subst (λ (x : Proc). HaveSorts (values_of (global_values program.globals store) args) (param_sorts x.params)) r
    (args_have_sorts (global_values program.globals store) (global_scope program) (globals_sorted program store h) args (param_sorts q.params) m w i same)

thread_begun : (plain : Plain) (store : Store) → IsPlain plain → IsStore plain.program.globals store → (i : ℕ) (t : Thread) → slice_get plain.program.threads i ≡ Some t → IsBegun plain (begun plain.program store t)
thread_begun plain store ok h i t at =
    let program = plain.program in
    let known = or_parts (is_none (proc_named program t.callee)) (any_unknown (thread_uses program t)) (thread_kept typing_rules program ok.rules unknown_rule unknown_among i t at) in
    let p = some_of (proc_named program t.callee) known.0 in
    record {
      proc = p.0;
      there = proc_is program t.callee ∙ p.1;
      args = thread_args program store h t.args (proc_named program t.callee) p.0 p.1 (thread_kept typing_rules program ok.rules sort_rule sort_among i t at) (thread_kept typing_rules program ok.rules width_rule width_among i t at) (thread_kept typing_rules program ok.rules index_rule index_among i t at) (thread_kept typing_rules program ok.rules arity_rule arity_among i t at);
      begins = ap (λ (b : Bool). b || list_any (λ (p : Proc). list_any (spawns program (proc_number program t.callee)) (statements_of p.body)) program.procs) (any_passes_from_place (λ (x : Thread). nat_eq (proc_number program x.callee) (proc_number program t.callee)) program.threads i t at (eq-eqb (proc_number program t.callee) (proc_number program t.callee) refl));
    }

pub start_is_of : StartIsOf
start_is_of plain store ok h =
    let threads = plain.program.threads in
    let each : All (λ (t : Thread). ThreadIsSorted plain (begun plain.program store t)) threads = all_by_get (λ (t : Thread). ThreadIsSorted plain (begun plain.program store t)) threads (λ i t at. thread_begun plain store ok h i t at) in
    let before : All (λ (t : Thread). IsStacked plain (begun plain.program store t)) threads = all_by_get (λ (t : Thread). IsStacked plain (begun plain.program store t)) threads (λ i t at. tt) in
    record { store = h; sorted = All-map (ThreadIsSorted plain) (begun plain.program store) threads each; stacked = All-map (IsStacked plain) (begun plain.program store) threads before }
