-- Where the values behind those of a path begin.
use Rattle.std.specs.Prelude.{map, filter, not, slice_get, codes}
use Rattle.std.specs.Option.{option_map_or}
use Rattle.std.proofs.Common.{◌≡◌, ◌∙◌, ℕ, ◌+◌, Bool, true, false, List, [], ◌∷◌, ◌++◌, length, refl, sym, ap, ap₂, append_assoc, arith, Option, Some, None}
use Rattle.std.proofs.lemmas.List.{length-map, length-append}
use Rattle.civl_tree.specs.declared.action.Choice.{Choice}
use Rattle.civl_tree.specs.declared.program.Proc.{Proc}
use Rattle.civl_tree.specs.declared.program.Program.{Program}
use Rattle.civl_layers.specs.declared.cut.Cut.{Cut}
use Rattle.civl_layers.specs.Cuts.{proc_cuts}
use Rattle.civl_conditions.specs.paths.Ends.{is_entry, is_rank_loop}
use Rattle.civl_conditions.specs.paths.Seen.{exists_near}
use Rattle.civl_conditions.specs.declared.condition.Condition.TheVariants.{Path}
use Rattle.civl_conditions.specs.declared.condition.Part.TheVariants.{Gate}
use Rattle.civl_conditions.specs.declared.condition.Variable.{Variable}
use Rattle.civl_conditions.specs.Variables.{variable, variables, flag, where_has, of_params, of_locals, of_choices, of_passed, call_front, near_globals, passed_choices, path_variables}
use Rattle.civl_conditions.specs.Values.{where_so, count_of, choices_count, layout}
use Rattle.civl_bits.specs.declared.value.Value.{Value}
use Rattle.civl_conditions.specs.declared.condition.Target.{Target}
use Rattle.civl_lines.specs.declared.line.Line.{Line}
use Rattle.civl_path_stories.specs.declared.route.Route.{Route}
use Rattle.civl_path_stories.specs.Paths.{lost_at_end, target_lines, target_parts, target_text}
use Rattle.civl_path_stories.specs.inner.Routes.{told, Fits}

has_long : (has : Bool) (vs : List Variable) → length (where_has has vs) ≡ where_so has (length vs)
has_long true vs = refl
has_long false vs = refl

calls_long : (qs : List (ℕ × List Choice)) → length (of_passed qs) ≡ choices_count qs
calls_long [] = refl
calls_long (q ∷ qs) = omega (
  arith,
  length-append (of_choices (call_front q.0) q.1) (of_passed qs),
  length-map q.1 (λ c. variable (call_front q.0) c.name c.sort),
  calls_long qs,
)

-- as many as the variables of a path
pub paths_long : (program : Program) (step : ℕ) (proc : Proc) (cut : Cut) → length (path_variables program step proc cut) ≡ (layout program step proc cut).behind
paths_long program step proc cut =
    let r = is_rank_loop cut.kind in
    let e = not (is_entry cut.kind) in
    let near = near_globals [] program step in
    let olds = near_globals (codes "old.") program step in
    let params = of_params [] proc.params in
    let inner = of_params [] proc.outs ++ of_locals [] proc.locals in
    let outs = of_params (codes "old.") proc.outs in
    let one = of_passed (passed_choices program step proc cut) in
    let done = flag (codes "done") ∷ [] in
    let was = flag (codes "old.done") ∷ [] in
    let two = where_has r was ++ one in
    let three = where_has e done ++ two in
    let four = where_has r outs ++ three in
    let five = where_has e inner ++ four in
    let six = params ++ five in
    let seven = where_has r olds ++ six in
    let near_long : length near ≡ count_of (exists_near step) program = length-map (filter (exists_near step) program.globals) (λ g. variable [] g.name g.sort) in
    let olds_long : length olds ≡ count_of (exists_near step) program =
    length-map (filter (exists_near step) program.globals) (λ g. variable (codes "old.") g.name g.sort) in
    let params_long : length params ≡ length proc.params = length-map proc.params (λ p. variable [] p.name p.sort) in
    let outs_long : length outs ≡ length proc.outs = length-map proc.outs (λ p. variable (codes "old.") p.name p.sort) in
    let inner_long : length inner ≡ length proc.outs + length proc.locals = omega (
      arith,
      length-append (of_params [] proc.outs) (of_locals [] proc.locals),
      length-map proc.outs (λ p. variable [] p.name p.sort),
      length-map proc.locals (λ l. variable [] l.name l.sort),
    ) in
    omega (
      arith,
      near_long,
      params_long,
      length-append near seven,
      length-append (where_has r olds) six,
      length-append params five,
      length-append (where_has e inner) four,
      length-append (where_has r outs) three,
      length-append (where_has e done) two,
      length-append (where_has r was) one,
      has_long r olds ∙ ap (where_so r) olds_long,
      has_long e inner ∙ ap (where_so e) inner_long,
      has_long r outs ∙ ap (where_so r) outs_long,
      has_long e done,
      has_long r was,
      calls_long (passed_choices program step proc cut),
    )

-- of a path that a story is told of
pub behind_is : (route : Route) → Fits route →
    length (variables route.program.now (Path Gate route.step route.number route.from)) ≡ (layout route.program.now route.step route.proc.now route.cut).behind
unfolding variables
behind_is route fits =
    ap length (
    ap (λ (o : Option Proc). option_map_or (λ proc. option_map_or (path_variables route.program.now route.step proc) (slice_get (proc_cuts proc) route.from) []) o [])
    fits.found
    ∙ ap (λ (o : Option Cut). option_map_or (path_variables route.program.now route.step route.proc.now) o []) fits.begins)
    ∙ paths_long route.program.now route.step route.proc.now route.cut

-- ---- a target that is lost

pub lost_target : (route : Route) (p : Program) (target : Target) (values : List Value) (at : ℕ) (text : List ℕ) (front lines result : List Line)
    → Fits route → route.program.now ≡ p → at ≡ length (variables p (Path Gate route.step route.number route.from)) → text ≡ target_text target
    → lines ≡ front ++ lost_at_end (told route) text ∷ []
    → result ≡ lines ++ target_parts p route.step target values at route.path.now.walked.end.store
    → result ≡ front ++ target_lines (told route) values target
lost_target route p target values at text front lines result fits same at_is text_is pushed said =
    let behind : at ≡ (layout route.program.now route.step route.proc.now route.cut).behind =
    at_is ∙ ap (λ (q : Program). length (variables q (Path Gate route.step route.number route.from))) (sym same) ∙ behind_is route fits in
    let one : lines ≡ front ++ lost_at_end (told route) (target_text target) ∷ [] =
    pushed ∙ ap (λ (t : List ℕ). front ++ lost_at_end (told route) t ∷ []) text_is in
    let two : target_parts p route.step target values at route.path.now.walked.end.store
    ≡ target_parts route.program.now route.step target values (layout route.program.now route.step route.proc.now route.cut).behind
    route.path.now.walked.end.store =
    ap₂ (λ (q : Program) (n : ℕ). target_parts q route.step target values n route.path.now.walked.end.store) (sym same) behind in
    said ∙ ap₂ (λ (ls : List Line) (ps : List Line). ls ++ ps) one two ∙ append_assoc front (lost_at_end (told route) (target_text target) ∷ []) _
