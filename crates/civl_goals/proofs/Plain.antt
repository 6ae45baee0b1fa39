-- The statements of roots are all of a plain program.
use Rattle.std.proofs.Common.{◌≡◌, false, refl, true, Option, None, Some, ℕ, sym, ap, ◌∙◌, arith}
use Rattle.std.proofs.lemmas.Bool.{true≢false, false≢true}
use Rattle.std.specs.Prelude.{is_some, slice_get}
use Rattle.std.specs.Option.{option_map_or}
use Rattle.civl_tree.specs.declared.stmt.Stmt.{Stmt, out-Stmt}
use Rattle.civl_tree.specs.declared.stmt.Stmt.TheOpen.{Stmt-F, Yield, Commit, Intro}
use Rattle.civl_tree.specs.declared.program.Refines.{Refines}
use Rattle.civl_tree.specs.declared.program.Proc.{Proc}
use Rattle.civl_tree.specs.declared.program.Program.{Program}
use Rattle.civl_tree.specs.Numbering.{statement_at}
use Rattle.civl_tree.specs.rules.Rules.{Keeps}
use Rattle.civl_tree.proofs.Kept.{statement_kept}
use Rattle.civl_meaning.specs.Places.{skip_layer, is_skipped}
use Rattle.civl_yields.specs.Places.{form_misplaced, stmt_misplaced}
use Rattle.civl_yields.specs.YieldRules.{commit_rule, yield_rules}
use Rattle.civl_goals.specs.Listed.{is_root}

not_skipped : (d : Stmt-F Stmt) → form_misplaced false d ≡ false → skip_layer d ≡ false
not_skipped (Yield e) h = absurd (true≢false h)
not_skipped Commit h = absurd (true≢false h)
not_skipped (Intro x e) h = absurd (true≢false h)
not_skipped _ h = refl

unlayered : (o : Option Refines) → option_map_or (λ r. false) o true ≡ true → is_some o ≡ false
unlayered None h = refl
unlayered (Some r) h = absurd (false≢true h)

pub roots_are_plain : (program : Program) → Keeps yield_rules program → (r : ℕ) (proc : Proc) → slice_get program.procs r ≡ Some proc → is_root proc ≡ true → (s : ℕ) (stmt : Stmt) → statement_at proc.body s ≡ Some stmt → is_skipped stmt ≡ false
roots_are_plain program yields r proc there root s stmt here =
    not_skipped (out-Stmt stmt)
    (sym (ap (λ b. form_misplaced b (out-Stmt stmt)) (unlayered proc.refines root))
    ∙ statement_kept yield_rules program yields commit_rule (2, omega arith, refl) (stmt_misplaced proc) r proc there refl s stmt here)
