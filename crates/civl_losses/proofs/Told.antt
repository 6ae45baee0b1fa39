-- Whether something is told: of options, of lists of differences.
use Rattle.std.proofs.Common.{◌≡◌, ℕ, ◌+◌, Bool, true, false, not, ◌&&◌, ◌||◌, List, [], ◌∷◌, ◌++◌, Option, None, Some, refl, ap₂, ◌∙◌, if◌then◌else◌}
use Rattle.std.specs.Prelude.{is_some, option_and_then}
use Rattle.civl_bits.specs.declared.value.Value.{Value}
use Rattle.civl_bits.specs.Value.{same_value}
use Rattle.civl_tree.specs.declared.program.Global.{Global}
use Rattle.civl_conditions.specs.Movers.{on_some}
use Rattle.civl_conditions.specs.Values.{same_in, same_values}
use Rattle.civl_traces.specs.declared.walked.Changed.{Changed}
use Rattle.civl_losses.specs.declared.loss.Loss.{Loss}
use Rattle.civl_losses.specs.Losses.{is_none_left, differ, globals_differ, outs_differ, where_any}

module _ {A B : Type 0} where
  pub and_then_told : (o : Option A) (f : A → Option B) (g : A → Bool) → ((x : A) → is_some (f x) ≡ g x) → is_some (option_and_then f o) ≡ on_some o g
  and_then_told None f g h = refl
  and_then_told (Some x) f g h = h x

module _ {B : Type 0} where
  pub where_told : (b : Bool) (o : Option B) (c : Bool) → is_some o ≡ c → is_some (if b then o else None) ≡ (b && c)
  where_told true o c h = h
  where_told false o c h = refl

  pub unless_told : (b : Bool) (x : B) → is_some (if b then None else Some x) ≡ not b
  unless_told true x = refl
  unless_told false x = refl

  pub when_told : (b : Bool) (x : B) → is_some (if b then Some x else None) ≡ b
  when_told true x = refl
  when_told false x = refl

  pub either_told : (b : Bool) (x : B) (o : Option B) → is_some (if b then Some x else o) ≡ (b || is_some o)
  either_told true x o = refl
  either_told false x o = refl

pub both_empty : (xs ys : List Changed) → is_none_left (xs ++ ys) ≡ (is_none_left xs && is_none_left ys)
both_empty [] ys = refl
both_empty (x ∷ xs) ys = refl

pub any_told : (loss : List Changed → List Changed → Loss) (gs os : List Changed) → is_some (where_any loss gs os) ≡ not (is_none_left gs && is_none_left os)
any_told loss gs os = unless_told (is_none_left gs && is_none_left os) (loss gs os)

pub differ_told : (at : ℕ) (v w : Value) → is_none_left (differ at v w) ≡ same_value v w
differ_told at v w = elim (same_value v w) as (λ b. is_none_left (if b then [] else record { place = at; before = w; after = v } ∷ []) ≡ b) [ true ↦ refl | false ↦ refl ]

global_told : (t : Bool) (at : ℕ) (v w : Value) → is_none_left (if t then differ at v w else []) ≡ (not t || same_value v w)
global_told true at v w = differ_told at v w
global_told false at v w = refl

pub globals_told : (test : Global → Bool) (at : ℕ) (gs : List Global) (vs ws : List Value) → is_none_left (globals_differ test at gs vs ws) ≡ same_in test gs vs ws
globals_told test at [] vs ws = refl
globals_told test at (g ∷ gs) [] ws = refl
globals_told test at (g ∷ gs) (v ∷ vs) [] = refl
globals_told test at (g ∷ gs) (v ∷ vs) (w ∷ ws) =
    both_empty (if test g then differ at v w else []) (globals_differ test (at + 1) gs vs ws)
    ∙ ap₂ (λ (a b : Bool). a && b) (global_told (test g) at v w) (globals_told test (at + 1) gs vs ws)

pub outs_told : (at : ℕ) (vs ws : List Value) → is_none_left (outs_differ at vs ws) ≡ same_values vs ws
outs_told at [] [] = refl
outs_told at [] (w ∷ ws) = refl
outs_told at (v ∷ vs) [] = refl
outs_told at (v ∷ vs) (w ∷ ws) =
    both_empty (differ at v w) (outs_differ (at + 1) vs ws) ∙ ap₂ (λ (a b : Bool). a && b) (differ_told at v w) (outs_told (at + 1) vs ws)
