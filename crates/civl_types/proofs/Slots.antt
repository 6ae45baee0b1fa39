-- Places for arguments.
use Rattle.std.proofs.Common.{◌≡◌, ℕ, zero, suc, ◌+◌, ◌<◌, List, [], ◌∷◌, map, drop, length, get_or, refl, sym, ap, ◌∙◌, arith}
use Rattle.std.specs.Prelude.{option_map, slice_get}
use Rattle.std.proofs.lemmas.List.{drop_more}
use Rattle.civl_tree.specs.declared.expr.Sort.{Sort}
use Rattle.civl_tree.specs.declared.expr.Expr.{Expr}
use Rattle.civl_tree.specs.declared.action.Param.{Param}
use Rattle.civl_tree.specs.declared.action.Choice.{Choice}
use Rattle.civl_tree.specs.rules.Scopes.{Scope}
use Rattle.civl_tree.specs.rules.Uses.{argument_uses, target_use}

pub get_map : {A B : Type 0} (f : A → B) (xs : List A) (at : ℕ) → slice_get (map f xs) at ≡ option_map f (slice_get xs at)
get_map f [] at = refl
get_map f (x ∷ xs) zero = refl
get_map f (x ∷ xs) (suc at) = get_map f xs at

pub get_param : (xs : List Param) (at : ℕ) → slice_get (map (λ param. param.sort) xs) at ≡ option_map (λ param. param.sort) (slice_get xs at)
get_param xs at = get_map (λ param. param.sort) xs at

pub get_choice : (xs : List Choice) (at : ℕ) → slice_get (map (λ choice. choice.sort) xs) at ≡ option_map (λ choice. choice.sort) (slice_get xs at)
get_choice xs at = get_map (λ choice. choice.sort) xs at

pub ruleset slots = (get_param, get_choice)

-- the next argument, with its place
head_uses : (scope : Scope) (arg : Expr) (args : List Expr) (sorts : List Sort) (at : ℕ)
    → argument_uses scope (arg ∷ args) (drop at sorts) ≡ target_use scope arg (slice_get sorts at) ∷ argument_uses scope args (drop (suc at) sorts)
head_uses scope arg args [] zero = refl
head_uses scope arg args (sort ∷ sorts) zero = refl
head_uses scope arg args [] (suc at) = refl
head_uses scope arg args (sort ∷ sorts) (suc at) = head_uses scope arg args sorts at

pub next_use : (scope : Scope) (args : List Expr) (sorts : List Sort) (at : ℕ) (arg : Expr) → at < length args → arg ≡ get_or args at arg
    → argument_uses scope (drop at args) (drop at sorts) ≡ target_use scope arg (slice_get sorts at) ∷ argument_uses scope (drop (at + 1) args) (drop (at + 1) sorts)
next_use scope args sorts at arg l e =
    let next : suc at ≡ at + 1 = omega arith in
    ap (λ (xs : List Expr). argument_uses scope xs (drop at sorts)) (drop_more args at arg l ∙ ap (λ (x : Expr). x ∷ drop (at + 1) args) (sym e))
    ∙ head_uses scope arg (drop (at + 1) args) sorts at
    ∙ ap (λ (n : ℕ). target_use scope arg (slice_get sorts at) ∷ argument_uses scope (drop (at + 1) args) (drop n sorts)) next
