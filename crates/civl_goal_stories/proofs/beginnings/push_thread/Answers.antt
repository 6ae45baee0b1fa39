use Rattle.std.proofs.Common.{◌≡◌, ◌++◌, ℕ, List, [], ◌∷◌, length, Option, Some, refl, sym, ap, ◌∙◌, subst}
use Rattle.std.specs.Prelude.{OnOk, codes, slice_get}
use Rattle.std.specs.Option.{option_map_or}
use Rattle.std.proofs.lemmas.Option.{slice_get_read}
use Rattle.civl_tree.specs.declared.program.Thread.{Thread}
use Rattle.civl_tree.specs.Numbering.{thread_item}
use Rattle.civl_lines.specs.declared.line.Line.{Line}
use Rattle.civl_lines.specs.declared.line.Shown.TheVariants.{Head}
use Rattle.civl_places.specs.Starts.{item_start}
use Rattle.civl_path_stories.specs.Paths.{info}
use Rattle.civl_path_stories.proofs.Chains.{none_there}
use Rattle.civl_goal_stories.proofs.beginnings.push_thread.Goals as goal

pub returns-in-Some : goal.returns-in-Some
returns-in-Some c =
    let program = c.args.program.now in
    let shown = c.as_slice.result.now in
    let thread = c.in-Some.field-0.now in
    let line : ℕ → List Line = λ at. info at Head (codes "in this initial store") ∷ [] in
    let found : slice_get program.threads c.args.number ≡ Some thread =
    subst (λ (ts : List Thread). slice_get ts c.args.number ≡ Some thread) c.as_slice.ensures
    (slice_get_read shown (length shown) c.args.number thread refl c.in-Some.ensures.lookup.3.0 c.in-Some.ensures.lookup.1) in
    let told = ap line c.thread_token.ensures
    ∙ sym (ap (λ (o : Option Thread). option_map_or (λ t. line (item_start program (thread_item program c.args.number))) o [])
    found) in
    subst (λ (ls : List Line). OnOk c.push_info.result (c.push_info.new.lines.items ≡ c.args.lines.now.items ++ ls)) told
    c.push_info.ensures

pub returns-in-None : goal.returns-in-None
returns-in-None c =
    none_there _ c.args.lines.now.items _ c.args.program.now.threads c.args.number c.as_slice.ensures c.in-None.ensures.lookup.3
