-- Items that declare their names one by one.
use Rattle.std.proofs.Common.{◌≡◌, ℕ, ◌+◌, ◌<◌, ◌≤◌, Bool, true, false, List, [], ◌∷◌, ◌++◌, map, take, length, get_or, None, Some, refl, sym, ap, ◌∙◌, subst}
use Rattle.std.specs.Prelude.{slice_get}
use Rattle.std.proofs.lemmas.List.{take_all}
use Rattle.std.proofs.lemmas.Option.{slice_get_read}
use Rattle.std.proofs.lemmas.List.Folds.{list_any-append}
use Rattle.std.proofs.lemmas.Bool.{or_parts}
use Rattle.civl_tree.specs.declared.name.Name.{Name}
use Rattle.civl_tree.specs.declared.action.Action.{Action}
use Rattle.civl_tree.specs.declared.program.Global.{Global}
use Rattle.civl_tree.specs.declared.program.Proc.{Proc}
use Rattle.civl_tree.specs.declared.program.Program.{Program}
use Rattle.civl_tree.specs.declared.refusal.Refusal.{Refusal}
use Rattle.civl_tree.specs.rules.Names.{has_name, global_names, action_names, proc_names}
use Rattle.civl_tree.specs.rules.Codes.{E10}
use Rattle.civl_tree.specs.rules.Rules.{item_place, statement_places, global_places, action_places, proc_places, refusal_at, first_of}
use Rattle.civl_tree.specs.rules.Typing.{twice_rule}
use Rattle.civl_names.specs.inner.NameSets.{with_name}
use Rattle.civl_names.proofs.Repeats.{with_new, names_more}

-- a place among items, and among the same under another name
pub within : {T : Type 0} (xs ys : List T) → xs ≡ ys → (at : ℕ) (x : T) → at < length xs → at < length ys
within {T = T} xs ys e at x l = subst (λ (zs : List T). at < length zs) e l

pub stands : {T : Type 0} (xs ys : List T) → xs ≡ ys → (at : ℕ) (x : T) → x ≡ get_or xs at x → x ≡ get_or ys at x
stands {T = T} xs ys e at x h = h ∙ ap (λ (zs : List T). get_or zs at x) e

pub slice_get_same : {T : Type 0} (xs ys : List T) → xs ≡ ys → (at : ℕ) (x : T) → at < length xs → x ≡ get_or xs at x → slice_get ys at ≡ Some x
slice_get_same {T = T} xs ys e at x l h = subst (λ (zs : List T). slice_get zs at ≡ Some x) e (slice_get_read xs (length xs) at x refl l h)

-- the names with the next one
pub set_more : {T : Type 0} (f : T → Name) (items : List T) (at : ℕ) (item : T) (old new : List Name) → at < length items → item ≡ get_or items at item
    → old ≡ map f (take at items) → has_name old (f item) ≡ false → new ≡ with_name old (f item) → new ≡ map f (take (at + 1) items)
set_more f items at item old new l e o h n =
    n ∙ with_new old (f item) h ∙ ap (λ (ns : List Name). ns ++ f item ∷ []) o ∙ names_more f [] items at item l e

-- all names
pub set_all : {T : Type 0} (f : T → Name) (items : List T) (at : ℕ) (names : List Name) → length items ≤ at → names ≡ map f (take at items) → names ≡ map f items
set_all {T = T} f items at names l h = h ∙ ap (λ (xs : List T). map f xs) (take_all at items l)

item_kept : (item : ℕ) (b : Bool) → None ≡ first_of (map (refusal_at E10) (item_place item b)) → b ≡ false
item_kept item true h = cc
item_kept item false h = refl

whole_kept : (item : ℕ) (b : Bool) (numbers : List ℕ) → None ≡ first_of (map (refusal_at E10) (item_place item b ++ statement_places item numbers)) → b ≡ false
whole_kept item true numbers h = cc
whole_kept item false numbers h = refl

last_part : (xs ys : List Name) (name : Name) → has_name (xs ++ ys) name ≡ false → has_name ys name ≡ false
last_part xs ys name h = (or_parts _ _ (sym (list_any-append _ xs ys) ∙ h)).1

pub global_found : (program : Program) (place : ℕ) (global : Global) (refusal : Refusal) → has_name (global_names (take place program.globals)) global.name ≡ true
    → refusal ≡ refusal_at E10 (record { item = place; statement = 0 }) → Some refusal ≡ first_of (map (refusal_at E10) (global_places twice_rule program place global))
global_found program place global refusal h e =
    ap (λ (r : Refusal). Some r) e ∙ sym (ap (λ (b : Bool). first_of (map (refusal_at E10) (item_place place b))) h)

pub global_kept : (program : Program) (place : ℕ) (global : Global) → has_name (global_names (take place program.globals)) global.name ≡ false
    → None ≡ first_of (map (refusal_at E10) (global_places twice_rule program place global))
global_kept program place global h = sym (ap (λ (b : Bool). first_of (map (refusal_at E10) (item_place place b))) h)

pub action_new : (program : Program) (place : ℕ) (action : Action) → None ≡ first_of (map (refusal_at E10) (action_places twice_rule program place action))
    → has_name (action_names (take place program.actions)) action.name ≡ false
action_new program place action h =
    last_part (global_names program.globals) (action_names (take place program.actions)) action.name (or_parts _ _ (item_kept _ _ h)).0

pub proc_new : (program : Program) (place : ℕ) (proc : Proc) → None ≡ first_of (map (refusal_at E10) (proc_places twice_rule program place proc))
    → has_name (proc_names (take place program.procs)) proc.name ≡ false
proc_new program place proc h =
    last_part (action_names program.actions) (proc_names (take place program.procs)) proc.name
    (last_part (global_names program.globals) (action_names program.actions ++ proc_names (take place program.procs)) proc.name
    (or_parts _ _ (whole_kept _ _ _ h)).0)
