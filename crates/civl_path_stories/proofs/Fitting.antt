-- The parts of a path of which a story is told fit together.
use Rattle.std.specs.Prelude.{slice_get}
use Rattle.std.specs.List.{All}
use Rattle.std.proofs.Common.{◌≡◌, ℕ, ◌<◌, ◌^◌, List, length, sym, subst, ◌∙◌, ap, Some}
use Rattle.std.proofs.lemmas.Option.{slice_get_within}
use Rattle.civl_tree.specs.declared.program.Proc.{Proc}
use Rattle.civl_tree.specs.declared.program.Program.{Program}
use Rattle.civl_tree.specs.Numbered.{IsNumbered}
use Rattle.civl_tree.specs.Numbering.{item_count, sizes_of}
use Rattle.civl_tree.specs.SpellingProgram.{spell_program}
use Rattle.civl_tree.proofs.Lists.{all_at}
use Rattle.civl_layers.specs.Cuts.{proc_cuts}
use Rattle.civl_path_stories.specs.declared.route.Route.{Route}
use Rattle.civl_path_stories.specs.inner.Routes.{Fits}

pub fits_from : (route : Route) (p : Program) → route.program.now ≡ p → length (spell_program p) < 2 ^ 64 → IsNumbered p
    → slice_get p.procs route.number ≡ Some route.proc.now → route.cuts.now ≡ proc_cuts route.proc.now
    → slice_get (proc_cuts route.proc.now) route.from ≡ Some route.cut → Fits route
fits_from route p same tokens numbered found cuts begins =
    let there : slice_get route.program.now.procs route.number ≡ Some route.proc.now =
    ap (λ (q : Program). slice_get q.procs route.number) same ∙ found in
    record {
      tokens = subst (λ (q : Program). length (spell_program q) < 2 ^ 64) (sym same) tokens;
      items = subst (λ (q : Program). item_count q < 2 ^ 32) (sym same) numbered.items;
      there = slice_get_within route.program.now.procs route.number route.proc.now there;
      statements = all_at (λ (proc : Proc). sizes_of proc.body < 2 ^ 32) p.procs route.number route.proc.now numbered.statements found;
      found = there;
      cuts = cuts;
      begins = begins;
    }
