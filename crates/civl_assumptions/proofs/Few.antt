-- What fewer than two names carry is apart.
use Rattle.std.proofs.Common.{◌≡◌, ◌∙◌, ℕ, zero, suc, ◌+◌, ◌<◌, ◌≤◌, Bool, true, false, ◌&&◌, nat_eq, if◌then◌else◌, cond, List, [], ◌∷◌, ◌++◌, map, length, length-append, refl, ap, arith}
use Rattle.std.specs.Prelude.{Option, None, Some, filter, get_or, slice_get, codes}
use Rattle.std.specs.Int.{bit_at}
use Rattle.std.specs.List.{list_all, flat_map}
use Rattle.std.specs.Option.{option_map_or}
use Rattle.std.proofs.lemmas.Bool.{and_from}
use Rattle.std.proofs.lemmas.Nat.Bits.{bit_at-zero}
use Rattle.civl_bits.specs.declared.value.Value.{Value}
use Rattle.civl_bits.specs.declared.value.Value.TheVariants as value
use Rattle.civl_bits.specs.Row.{filled_row}
use Rattle.civl_tree.specs.declared.action.Param.{Param}
use Rattle.civl_tree.specs.declared.expr.Sort.{Sort}
use Rattle.civl_tree.specs.declared.expr.Sort.TheVariants as sort
use Rattle.civl_tree.specs.declared.program.Global.{Global}
use Rattle.civl_tree.specs.declared.program.Proc.{Proc}
use Rattle.civl_tree.specs.declared.program.Thread.{Thread}
use Rattle.civl_tree.specs.declared.program.Program.{Program}
use Rattle.civl_tree.specs.rules.Exprs.{is_index, is_width}
use Rattle.civl_tree.specs.rules.Width.{is_linear}
use Rattle.civl_firing.specs.declared.store.Store.{Store}
use Rattle.civl_firing.specs.values.Operators.{nothing}
use Rattle.civl_firing.specs.values.Values.{zero_of}
use Rattle.civl_firing.specs.Eval.{values_of}
use Rattle.civl_firing.specs.Scope.{global_values}
use Rattle.civl_meaning.specs.Initial.{of_args, of_thread, initial_permissions}
use Rattle.civl_meaning.specs.Meaning.{proc_number}
use Rattle.civl_meaning.specs.Permissions.{disjoint, of_globals, of_params, pairwise_disjoint, permissions_of_global, permissions_of_word, set_bits}
use Rattle.civl_conditions.specs.declared.condition.Target.{Target}
use Rattle.civl_conditions.specs.declared.condition.Target.TheVariants as target
use Rattle.civl_conditions.specs.Permissions.{held_at, of_held}
use Rattle.civl_conditions.specs.Targets.{other_of, target_owned}
use Rattle.civl_conditions.specs.Values.{spread}
use Rattle.civl_assumptions.specs.Names.{is_among, of_callee}
use Rattle.civl_assumptions.specs.Names as names

-- ---- how many carry something

abbrev pub carrying : List ℕ → ℕ
carrying [] = 0
carrying (p ∷ ps) = 1

abbrev pub carriers : List (List ℕ) → ℕ
carriers [] = 0
carriers (ps ∷ rest) = carrying ps + carriers rest

carriers_join : (xs ys : List (List ℕ)) → carriers (xs ++ ys) ≡ carriers xs + carriers ys
carriers_join [] ys = omega arith
carriers_join (x ∷ xs) ys = omega (arith, carriers_join xs ys)

one_most : (ps : List ℕ) → carrying ps ≤ 1
one_most [] = omega arith
one_most (p ∷ ps) = omega arith

-- ---- fewer than two are apart

nothing_apart : (xs : List (List ℕ)) → list_all (disjoint []) xs ≡ true
nothing_apart [] = refl
nothing_apart (x ∷ xs) = nothing_apart xs

from_nothing : (ps : List ℕ) → disjoint ps [] ≡ true
from_nothing [] = refl
from_nothing (p ∷ ps) = from_nothing ps

none_shared : (ps : List ℕ) (xs : List (List ℕ)) → carriers xs ≡ 0 → list_all (disjoint ps) xs ≡ true
none_shared ps [] h = refl
none_shared ps ([] ∷ xs) h =
    let more : 0 + carriers xs ≡ 0 = h in
    and_from (disjoint ps []) (list_all (disjoint ps) xs) (from_nothing ps) (none_shared ps xs (omega (arith, more)))
none_shared ps ((q ∷ qs) ∷ xs) h =
    let more : 1 + carriers xs ≡ 0 = h in
    absurd (omega (arith, more))

pub few : (xs : List (List ℕ)) → carriers xs < 2 → pairwise_disjoint xs ≡ true
few [] h = refl
few ([] ∷ xs) h =
    let more : 0 + carriers xs < 2 = h in
    and_from (list_all (disjoint []) xs) (pairwise_disjoint xs) (nothing_apart xs) (few xs (omega (arith, more)))
few ((p ∷ ps) ∷ xs) h =
    let more : 1 + carriers xs < 2 = h in
    let none : carriers xs ≡ 0 = omega (arith, more) in
    and_from (list_all (disjoint (p ∷ ps)) xs) (pairwise_disjoint xs) (none_shared (p ∷ ps) xs none) (few xs (omega (arith, none)))

-- ---- a zero carries nothing

no_bits : (w : ℕ) → set_bits w 0 ≡ []
no_bits zero = refl
no_bits (suc w) =
    ap (λ (ps : List ℕ). ps ++ (if nat_eq (bit_at 0 w) 1 then w ∷ [] else [])) (no_bits w)
    ∙ ap (λ (n : ℕ). if nat_eq n 1 then w ∷ [] else []) (bit_at-zero w)

zero_carries : (s : Sort) → permissions_of_global (zero_of s) ≡ []
zero_carries sort.Bool = refl
zero_carries (sort.Word width) =
    elim (is_width width) as (λ b. permissions_of_global (if b then value.Word (width, 0) else nothing) ≡ [])
    [ true ↦ no_bits width | false ↦ refl ]
zero_carries (sort.Row index width) =
    elim (is_index index && is_width width) as (λ b. permissions_of_global (if b then value.Row (filled_row index width 0) else nothing) ≡ [])
    [ true ↦ refl | false ↦ refl ]

-- ---- no more carry something than there are names

module _ {A : Type 0} (f : A → List ℕ) where
  here_few : (l : Bool) (ps : List ℕ) (rest : List (List ℕ)) (x : A) (xs : List A) → carriers rest ≤ length (map f xs)
      → carriers ((if l then ps ∷ [] else []) ++ rest) ≤ length (map f (cond l (x ∷ xs) xs))
  here_few true ps rest x xs h = omega (arith, one_most ps, h)
  here_few false ps rest x xs h = h

  more_named : (b : Bool) (x : A) (xs : List A) → length (map f xs) ≤ length (map f (cond b (x ∷ xs) xs))
  more_named true x xs = omega arith
  more_named false x xs = omega arith

zero_few : (l : Bool) (ps : List ℕ) (rest : List (List ℕ)) → ps ≡ [] → carriers ((if l then ps ∷ [] else []) ++ rest) ≡ carriers rest
zero_few true ps rest e =
    let none : carrying ps ≡ 0 = ap carrying e in
    omega (arith, none)
zero_few false ps rest e = refl

module _ (test : Global → Bool) where
  pub globals_few : (gs : List Global) (vs : List Value) → carriers (of_globals gs (spread test gs vs)) ≤ length (names.of_globals test gs)
  globals_few [] vs = omega arith
  globals_few (g ∷ gs) [] =
      omega (
        arith,
        zero_few g.linear (permissions_of_global (zero_of g.sort)) (of_globals gs (spread test gs [])) (zero_carries g.sort),
        globals_few gs [],
        more_named (λ (h : Global). h.name.bytes) (is_among test g) g (filter (is_among test) gs),
      )
  globals_few (g ∷ gs) (v ∷ vs) =
      elim (test g) as (λ t. carriers (of_globals (g ∷ gs) (if t then v ∷ spread test gs vs else zero_of g.sort ∷ spread test gs (v ∷ vs)))
      ≤ length (map (λ (h : Global). h.name.bytes) (cond (t && g.linear) (g ∷ filter (is_among test) gs) (filter (is_among test) gs)))) [
        | true ↦ here_few (λ (h : Global). h.name.bytes) g.linear (permissions_of_global v) (of_globals gs (spread test gs vs)) g (filter (is_among test) gs) (globals_few gs vs)
        | false ↦ omega (
          arith,
          zero_few g.linear (permissions_of_global (zero_of g.sort)) (of_globals gs (spread test gs (v ∷ vs))) (zero_carries g.sort),
          globals_few gs (v ∷ vs),
        )
      ]

all_few : (gs : List Global) (vs : List Value) → carriers (of_globals gs vs) ≤ length (names.of_globals (λ g. true) gs)
all_few [] vs = omega arith
all_few (g ∷ gs) [] = omega arith
all_few (g ∷ gs) (v ∷ vs) =
    here_few (λ (h : Global). h.name.bytes) g.linear (permissions_of_global v) (of_globals gs vs) g (filter (is_among (λ h. true)) gs) (all_few gs vs)

pub params_few : (word : List ℕ) (ps : List Param) (vs : List Value) → carriers (of_params ps vs) ≤ length (names.of_params word ps)
params_few word [] vs = omega arith
params_few word (p ∷ ps) [] = omega arith
params_few word (p ∷ ps) (v ∷ vs) =
    here_few (λ (q : Param). word ++ q.name.bytes) (is_linear p.mode) (permissions_of_word v) (of_params ps vs) p (filter (λ q. is_linear q.mode) ps)
    (params_few word ps vs)

pub held_few : (word : List ℕ) (proc : Proc) (ns : List ℕ) (locals : List Value) → carriers (of_held ns locals) ≤ length (names.of_numbers word proc ns)
held_few word proc [] locals = omega arith
held_few word proc (n ∷ ns) locals =
    omega (arith, one_most (permissions_of_word (get_or locals n nothing)), held_few word proc ns locals)

pub join_few : (xs ys ms ns : List (List ℕ)) → carriers xs ≤ length ms → carriers ys ≤ length ns → carriers (xs ++ ys) ≤ length (ms ++ ns)
join_few xs ys ms ns h k = omega (arith, carriers_join xs ys, length-append ms ns, h, k)

pub target_few : (program : Program) (aim : Target) (values : List Value) (at : ℕ)
    → carriers (target_owned program aim values at) ≤ length (names.of_target program aim)
target_few program (target.Invariant i) values at = omega arith
target_few program (target.Yield r y) values at =
    elim (slice_get program.procs r) as (λ o. carriers (option_map_or (λ (proc : Proc). of_held (held_at program proc y) (other_of proc values at).locals) o [])
    ≤ length (option_map_or (λ (proc : Proc). names.of_numbers (codes "other.") proc (held_at program proc y)) o [])) [
      | None ↦ omega arith
      | Some proc ↦ held_few (codes "other.") proc (held_at program proc y) (other_of proc values at).locals
    ]

module _ (program : Program) (g : Store) where
  callee_few : (o : Option Proc) (args : List Value) → carriers (of_args o args) ≤ length (option_map_or of_callee o [])
  callee_few None args = omega arith
  callee_few (Some proc) args = params_few (proc.name.bytes ++ codes ".") proc.params args

  threads_few : (ts : List Thread) → carriers (flat_map (of_thread program g) ts) ≤ length (flat_map (names.of_thread program) ts)
  threads_few [] = omega arith
  threads_few (t ∷ ts) =
      join_few (of_thread program g t) (flat_map (of_thread program g) ts) (names.of_thread program t) (flat_map (names.of_thread program) ts)
      (callee_few (slice_get program.procs (proc_number program t.callee)) (values_of (global_values program.globals g) t.args)) (threads_few ts)

  pub start_few : carriers (initial_permissions program g) ≤ length (names.at_start program)
  start_few =
      join_few (of_globals program.globals g.values) (flat_map (of_thread program g) program.threads)
      (names.of_globals (λ h. true) program.globals) (flat_map (names.of_thread program) program.threads) (all_few program.globals g.values) (threads_few program.threads)
