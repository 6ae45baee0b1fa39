-- The first place at which a rule on the topmost program is broken: of roots, else of threads.
use Rattle.std.proofs.Common.{◌≡◌, ℕ, map, None, Some, sym, ap, ◌∙◌, subst}
use Rattle.std.specs.Prelude.{Option}
use Rattle.civl_tree.specs.declared.program.Program.{Program}
use Rattle.civl_tree.specs.rules.Rules.{each_place, first_of}
use Rattle.civl_names.proofs.walks.Walking.{or_first}
use Rattle.civl_goals.specs.Rules.{descending_in, descending_thread, descending}
use Rattle.civl_goals.specs.Told.{told}
use Rattle.civl_goals.proofs.Placed.{first_both}

module _ (program src : Program) (same : program ≡ src) where
  abbrev of_roots : Option (ℕ × ℕ)
  of_roots = first_of (map told (each_place (descending_in program) 0 program.procs))

  abbrev of_threads : Option (ℕ × ℕ)
  of_threads = first_of (map told (each_place (descending_thread program) 0 program.threads))

  of_both : or_first of_roots of_threads ≡ first_of (map told (descending src))
  of_both = subst (λ (p : Program). or_first of_roots of_threads ≡ first_of (map told (descending p))) same (sym (first_both (each_place (descending_in program) 0 program.procs) (each_place (descending_thread program) 0 program.threads)))

  pub root_first : (place : ℕ × ℕ) → Some place ≡ of_roots → Some place ≡ first_of (map told (descending src))
  root_first place h = ap (λ (o : Option (ℕ × ℕ)). or_first o of_threads) h ∙ of_both

  pub thread_first : (place : Option (ℕ × ℕ)) → None ≡ of_roots → place ≡ of_threads → place ≡ first_of (map told (descending src))
  thread_first place h e = e ∙ ap (λ (o : Option (ℕ × ℕ)). or_first o of_threads) h ∙ of_both
