-- Old `done` at the places of a path's beginning.
use Rattle.std.proofs.Common.{◌≡◌, ◌∙◌, ℕ, zero, suc, ◌+◌, List, [], ◌∷◌, length, drop, refl, sym, ap, subst, arith}
use Rattle.std.proofs.lemmas.List.{drop-drop}
use Rattle.civl_bits.specs.declared.value.Value.{Value}
use Rattle.civl_tree.specs.declared.program.Proc.{Proc}
use Rattle.civl_tree.specs.declared.program.Program.{Program}
use Rattle.civl_layers.specs.declared.cut.Cut.{Cut}
use Rattle.civl_layers.specs.declared.cut.CutKind.{CutKind}
use Rattle.civl_layers.specs.declared.cut.CutKind.TheVariants.{Entry, Yield, YieldLoop, RankLoop}
use Rattle.civl_conditions.specs.paths.Seen.{exists_near}
use Rattle.civl_conditions.specs.Targets.{frame_size}
use Rattle.civl_conditions.specs.Values.{begun, count_of, flag_at}
use Rattle.std.specs.Prelude.{Bool, false}

flag_drop : (vs : List Value) (k : ℕ) → flag_at (drop k vs) 0 ≡ flag_at vs k
flag_drop vs zero = refl
flag_drop [] (suc k) = refl
flag_drop (v ∷ vs) (suc k) = flag_drop vs k

-- behind values that stand one behind the other
two_behind : (vs : List Value) (a b k : ℕ) → a + b ≡ k → flag_at (drop b (drop a vs)) 0 ≡ flag_at vs k
two_behind vs a b k e = ap (λ (xs : List Value). flag_at xs 0) (drop-drop b a vs ∙ ap (λ (n : ℕ). drop n vs) e) ∙ flag_drop vs k

module _ (program : Program) (step : ℕ) (proc : Proc) (values : List Value) where
  abbrev near : ℕ
  near = count_of (exists_near step) program

  abbrev size : ℕ
  size = frame_size proc

  abbrev outs : ℕ
  outs = length proc.outs

  abbrev at_yield : Bool
  at_yield = flag_at (drop size (drop near values)) 0

  abbrev at_rank : Bool
  at_rank = flag_at (drop 1 (drop outs (drop size (drop near (drop near values))))) 0

  module _ (cut : Cut) where
    by_kind : (b : Bool) (kind : CutKind) → cut.kind ≡ kind
        → b ≡ (begun program step proc (record { statement = cut.statement; kind = kind }) values).old_done
        → b ≡ (begun program step proc cut values).old_done
    by_kind b kind e h =
        subst (λ (k : CutKind). b ≡ (begun program step proc (record { statement = cut.statement; kind = k }) values).old_done) (sym e) h

    pub entry_done : cut.kind ≡ Entry → false ≡ (begun program step proc cut values).old_done
    entry_done e = by_kind false Entry e refl

    yield_at : at_yield ≡ flag_at values (near + 0 + length proc.params + (length proc.outs + length proc.locals) + 0)
    yield_at = two_behind values near size (near + 0 + length proc.params + (length proc.outs + length proc.locals) + 0) (omega arith)

    pub yield_done : cut.kind ≡ Yield → at_yield ≡ (begun program step proc cut values).old_done
    yield_done e = by_kind at_yield Yield e yield_at

    pub yield_loop_done : cut.kind ≡ YieldLoop → at_yield ≡ (begun program step proc cut values).old_done
    yield_loop_done e = by_kind at_yield YieldLoop e yield_at

    rank_at : at_rank ≡ flag_at values (near + near + length proc.params + (length proc.outs + length proc.locals) + length proc.outs + 1)
    rank_at =
        let place = near + near + length proc.params + (length proc.outs + length proc.locals) + length proc.outs + 1 in
        let frame : near + near + size ≡ near + near + length proc.params + (length proc.outs + length proc.locals) = omega arith in
        ap (λ (xs : List Value). flag_at (drop 1 (drop outs (drop size xs))) 0) (drop-drop near near values)
        ∙ ap (λ (xs : List Value). flag_at (drop 1 (drop outs xs)) 0) (drop-drop size (near + near) values)
        ∙ ap (λ (xs : List Value). flag_at (drop 1 xs) 0) (drop-drop outs (near + near + size) values)
        ∙ two_behind values (near + near + size + outs) 1 place (omega (arith, frame))

    pub rank_done : cut.kind ≡ RankLoop → at_rank ≡ (begun program step proc cut values).old_done
    rank_done e = by_kind at_rank RankLoop e rank_at
