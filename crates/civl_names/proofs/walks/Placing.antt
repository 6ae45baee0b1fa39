-- The first place at which a program breaks a rule, part by part.
use Rattle.std.proofs.Common.{◌≡◌, ℕ, ◌+◌, ◌<◌, ◌≤◌, List, [], ◌∷◌, ◌++◌, map, drop, length, get_or, None, Some, refl, sym, ap, ◌∙◌, subst, arith, append-nil}
use Rattle.std.specs.Prelude.{false, Option, option_map, slice_get}
use Rattle.civl_tree.specs.declared.action.Action.{Action}
use Rattle.civl_tree.specs.declared.program.Global.{Global}
use Rattle.civl_tree.specs.declared.program.Invariant.{Invariant}
use Rattle.civl_tree.specs.declared.program.Thread.{Thread}
use Rattle.std.proofs.lemmas.List.{drop_more, drop_all, map-append}
use Rattle.std.proofs.lemmas.Option.{get_or_from_slice_get, slice_get_within}
use Rattle.civl_tree.specs.declared.program.Proc.{Proc}
use Rattle.civl_tree.specs.declared.stmt.Stmt.{Stmt}
use Rattle.civl_tree.specs.declared.program.Program.{Program}
use Rattle.civl_tree.specs.declared.refusal.Refusal.{Refusal}
use Rattle.civl_tree.specs.Numbering.{global_item, invariant_item, action_item, thread_item, statements_of, sizes_of}
use Rattle.civl_tree.specs.rules.Rules.{Rule, Place, item_place, each_place, global_places, invariant_places, action_places, proc_places, thread_places, places_of, refusal_at, refusals_of, refusals_by, refusal_by, first_of}
use Rattle.civl_tree.proofs.Numbers.{sizes_are_counts}
use Rattle.civl_tree.specs.Numbered.{IsNumbered}
use Rattle.civl_names.proofs.walks.Walking.{or_first, first_append}

module _ {T : Type 0} (told : Place → Refusal) (f : ℕ → T → List Place) (items : List T) (at : ℕ) where
  -- the item at this place, and those behind
  step : (item : T) → at < length items → item ≡ get_or items at item → each_place f at (drop at items) ≡ f at item ++ each_place f (at + 1) (drop (at + 1) items)
  unfolding each_place
  step item l e = ap (each_place f at) (drop_more items at item l ∙ ap (λ (x : T). x ∷ drop (at + 1) items) (sym e))

  abbrev from_next : Option Refusal
  from_next = first_of (map told (each_place f (at + 1) (drop (at + 1) items)))

  split : (item : T) → at < length items → item ≡ get_or items at item
      → first_of (map told (each_place f at (drop at items))) ≡ or_first (first_of (map told (f at item))) from_next
  split item l e =
      ap (λ (places : List Place). first_of (map told places)) (step item l e)
      ∙ ap first_of (map-append told (f at item) (each_place f (at + 1) (drop (at + 1) items)))
      ∙ first_append (map told (f at item)) (map told (each_place f (at + 1) (drop (at + 1) items)))

  pub found_item : (item : T) (refusal : Refusal) → at < length items → item ≡ get_or items at item → Some refusal ≡ first_of (map told (f at item))
      → first_of (map told (each_place f at (drop at items))) ≡ Some refusal
  found_item item refusal l e h = split item l e ∙ ap (λ (o : Option Refusal). or_first o from_next) (sym h)

  pub found_behind : (item : T) → at < length items → item ≡ get_or items at item → None ≡ first_of (map told (f at item))
      → from_next ≡ first_of (map told (each_place f at (drop at items)))
  found_behind item l e h = sym (split item l e ∙ ap (λ (o : Option Refusal). or_first o from_next) (sym h))

  pub found_none : length items ≤ at → first_of (map told (each_place f at (drop at items))) ≡ None
  unfolding each_place
  found_none l = ap (λ (xs : List T). first_of (map told (each_place f at xs))) (drop_all at items l)

-- the statements of a procedure of a program whose parts have numbers
pub body_fits : (program : Program) → IsNumbered program → (at : ℕ) (proc : Proc) → slice_get program.procs at ≡ Some proc → length (statements_of proc.body) < 4294967296
body_fits program numbered at proc h =
    let within : at < length program.procs = slice_get_within program.procs at proc h in
    let counted : sizes_of (get_or program.procs at proc).body < 4294967296 = numbered.statements at proc within in
    let small : sizes_of proc.body < 4294967296 = subst (λ (p : Proc). sizes_of p.body < 4294967296) (get_or_from_slice_get program.procs at proc proc h) counted in
    omega (arith, small, sizes_are_counts proc.body)

pub body_counts : (stmts : List Stmt) → sizes_of stmts < 4294967296 → length (statements_of stmts) < 4294967296
body_counts stmts small = omega (arith, small, sizes_are_counts stmts)

pub map_parts : {A B : Type 0} (f : A → B) (xs ys : List A) → map f (xs ++ ys) ≡ map f xs ++ map f ys
map_parts f xs ys = map-append f xs ys

-- the first of what is told of statements
pub first_map : {A B : Type 0} (f : A → B) (xs : List A) → first_of (map f xs) ≡ option_map f (first_of xs)
first_map f [] = refl
first_map f (x ∷ xs) = refl

-- ---- parts of which a rule asks nothing

each_nothing : {T : Type 0} (f : ℕ → T → List Place) → ((place : ℕ) (item : T) → f place item ≡ []) → (at : ℕ) (items : List T) → each_place f at items ≡ []
unfolding each_place
each_nothing f h at [] = refl
each_nothing f h at (x ∷ xs) = ap (λ (places : List Place). places ++ each_place f (at + 1) xs) (h at x) ∙ each_nothing f h (at + 1) xs

module _ (rule : Rule) (program : Program) where
  pub no_globals : ((place : ℕ) (global : Global) → rule.global program place global ≡ false) → each_place (global_places rule program) 0 program.globals ≡ []
  no_globals h = each_nothing (global_places rule program) (λ place item. ap (item_place (global_item program place)) (h place item)) 0 program.globals

  pub no_invariants : ((place : ℕ) (invariant : Invariant) → rule.invariant program place invariant ≡ false) → each_place (invariant_places rule program) 0 program.invariants ≡ []
  no_invariants h = each_nothing (invariant_places rule program) (λ place item. ap (item_place (invariant_item program place)) (h place item)) 0 program.invariants

  pub no_actions : ((place : ℕ) (action : Action) → rule.action program place action ≡ false) → each_place (action_places rule program) 0 program.actions ≡ []
  no_actions h = each_nothing (action_places rule program) (λ place item. ap (item_place (action_item program place)) (h place item)) 0 program.actions

  pub no_threads : ((place : ℕ) (thread : Thread) → rule.thread program place thread ≡ false) → each_place (thread_places rule program) 0 program.threads ≡ []
  no_threads h = each_nothing (thread_places rule program) (λ place item. ap (item_place (thread_item program place)) (h place item)) 0 program.threads

-- a rule that asks only of procedures and their statements
pub record AsksProcs (rule : Rule) : Type 0 where
  pub header : (program : Program) → rule.header program ≡ false
  pub global : (program : Program) (place : ℕ) (global : Global) → rule.global program place global ≡ false
  pub init : (program : Program) → rule.init program ≡ false
  pub invariant : (program : Program) (place : ℕ) (invariant : Invariant) → rule.invariant program place invariant ≡ false
  pub action : (program : Program) (place : ℕ) (action : Action) → rule.action program place action ≡ false
  pub thread : (program : Program) (place : ℕ) (thread : Thread) → rule.thread program place thread ≡ false

pub places_of_procs : (rule : Rule) → AsksProcs rule → (program : Program) → places_of rule program ≡ each_place (proc_places rule program) 0 program.procs
unfolding places_of
places_of_procs rule asks program =
    simp (asks.header program, asks.init program, no_globals rule program (asks.global program), no_invariants rule program (asks.invariant program), no_actions rule program (asks.action program), no_threads rule program (asks.thread program), append-nil {A = Place})

pub told_of_procs : (rule : Rule) → AsksProcs rule → (program : Program) → refusals_of rule program ≡ map (refusal_at rule.code) (each_place (proc_places rule program) 0 program.procs)
told_of_procs rule asks program = ap (map (refusal_at rule.code)) (places_of_procs rule asks program)

-- ---- several rules, one by one

pub or_nothing : {A : Type 0} (first : Option A) → or_first first None ≡ first
or_nothing None = refl
or_nothing (Some value) = refl

pub rule_first : (rule : Rule) (rules : List Rule) (program : Program) → refusal_by (rule ∷ rules) program ≡ or_first (first_of (refusals_of rule program)) (refusal_by rules program)
rule_first rule rules program = first_append (refusals_of rule program) (refusals_by rules program)

pub ruleset of_procs = (first_append, first_map, map_parts)

pub ruleset of_places = (first_append, map_parts)

pub ruleset of_rules = (first_append, append-nil)
