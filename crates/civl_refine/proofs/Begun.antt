-- What a path begins with, as a condition's values say it: but for a rank loop old means the present.
use Rattle.std.specs.Prelude.{if◌then◌else◌}
use Rattle.std.proofs.Common.{◌≡◌, ℕ, Bool, true, false, List, refl, ap}
use Rattle.std.proofs.lemmas.Bool.{false≢true}
use Rattle.civl_bits.specs.declared.value.Value.{Value}
use Rattle.civl_tree.specs.declared.program.Proc.{Proc}
use Rattle.civl_tree.specs.declared.program.Program.{Program}
use Rattle.civl_layers.specs.declared.cut.Cut.{Cut}
use Rattle.civl_layers.specs.declared.cut.CutKind.{CutKind}
use Rattle.civl_layers.specs.declared.cut.CutKind.TheVariants.{Entry, Yield, YieldLoop, RankLoop}
use Rattle.civl_conditions.specs.paths.Ends.{is_entry, is_rank_loop}
use Rattle.civl_conditions.specs.Values.{begun, flag_at, layout}
use Rattle.civl_refine.specs.Assuming.{BeginsAt}

at_entry : (kind : CutKind) (a b : Bool) → is_entry kind ≡ true → (if is_rank_loop kind then a else (if is_entry kind then false else b)) ≡ false
at_entry Entry a b e = refl
at_entry Yield a b e = absurd (false≢true e)
at_entry YieldLoop a b e = absurd (false≢true e)
at_entry RankLoop a b e = absurd (false≢true e)

pub begins_at : (program : Program) (step : ℕ) (proc : Proc) (cut : Cut) (values : List Value) → BeginsAt cut.kind (begun program step proc cut values)
begins_at program step proc cut values = record {
  entry = λ e. at_entry cut.kind _ _ e;
  present = λ e. ap (λ (rank : Bool). if rank then flag_at values (layout program step proc cut).old_done else (begun program step proc cut values).done) e;
}
