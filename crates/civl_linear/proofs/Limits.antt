-- The number of names of a procedure that keeps the limits.
use Rattle.std.proofs.Common.{◌≡◌, ℕ, ◌+◌, ◌<◌, ◌≤◌, Bool, true, false, ◌||◌, List, ◌++◌, map, length, get_or, Some, refl, subst, arith, slice_get}
use Rattle.std.proofs.lemmas.Bool.{ltb-false}
use Rattle.std.proofs.lemmas.List.{length-append, length-map}
use Rattle.std.proofs.lemmas.Option.{slice_get_read}
use Rattle.civl_tree.specs.declared.name.Name.{Name}
use Rattle.civl_tree.specs.declared.program.Proc.{Proc}
use Rattle.civl_tree.specs.declared.program.Program.{Program}
use Rattle.civl_tree.specs.rules.Names.{param_names, names_in_proc}
use Rattle.civl_tree.specs.rules.Rules.{Keeps}
use Rattle.civl_tree.specs.rules.Typing.{typing_rules, count_rule}
use Rattle.civl_tree.proofs.Kept.{proc_kept, count_among}

few_by : (a b c : Bool) → (a || (b || c)) ≡ false → b ≡ false
few_by true b c h = cc
few_by false true c h = cc
few_by false false c h = refl

few_names : (program : Program) → Keeps typing_rules program → (place : ℕ) (proc : Proc) → slice_get program.procs place ≡ Some proc → length proc.params + length proc.outs + length proc.locals ≤ 32
few_names program none place proc found =
    ltb-false 32 (length proc.params + length proc.outs + length proc.locals) (few_by _ _ _ (proc_kept typing_rules program none count_rule count_among place proc found))

counted : (proc : Proc) → length (names_in_proc proc) ≡ length proc.params + length proc.outs + length proc.locals
counted proc =
    let locals : List Name = map (λ declared. declared.name) proc.locals in
    let e = length-append (param_names proc.params) (param_names proc.outs ++ locals) in
    let f = length-append (param_names proc.outs) locals in
    let a : length (param_names proc.params) ≡ length proc.params = length-map proc.params (λ param. param.name) in
    let b : length (param_names proc.outs) ≡ length proc.outs = length-map proc.outs (λ param. param.name) in
    let d : length locals ≡ length proc.locals = length-map proc.locals (λ declared. declared.name) in
    omega (arith, e, f, a, b, d)

-- the names of a procedure have numbers of 32 bits
pub names_fit : (program : Program) → Keeps typing_rules program → (items : List Proc) → items ≡ program.procs → (at : ℕ) (proc : Proc) → at < length items → proc ≡ get_or items at proc
    → length (names_in_proc proc) < 4294967296
names_fit program none items same at proc l e =
    let found : slice_get program.procs at ≡ Some proc = subst (λ (ps : List Proc). slice_get ps at ≡ Some proc) same (slice_get_read items (length items) at proc refl l e) in
    omega (arith, counted proc, few_names program none at proc found)
