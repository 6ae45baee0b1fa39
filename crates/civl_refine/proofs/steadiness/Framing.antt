-- The variables of another thread's frame.
use Rattle.std.specs.Prelude.{map, slice_get, IsTrue}
use Rattle.std.proofs.Common.{◌≡◌, ◌∙◌, ℕ, ◌+◌, ◌≤◌, Bool, true, false, List, [], ◌∷◌, ◌++◌, length, append_assoc, refl, sym, ap, ap₂, subst, arith, Some}
use Rattle.std.proofs.lemmas.List.{length-map, length-append, map-append, append-nil}
use Rattle.std.proofs.lemmas.List.Elements.{All-nil, All-cons}
use Rattle.civl_bits.specs.declared.value.Value.{Value}
use Rattle.civl_firing.specs.values.Values.{is_sort, is_true}
use Rattle.civl_tree.specs.declared.expr.Sort.{Sort}
use Rattle.civl_tree.specs.declared.expr.Sort.TheVariants.{Bool as Truth}
use Rattle.civl_tree.specs.declared.action.Param.{Param}
use Rattle.civl_tree.specs.declared.program.Local.{Local}
use Rattle.civl_tree.specs.declared.program.Proc.{Proc}
use Rattle.civl_tree.specs.declared.program.Program.{Program}
use Rattle.civl_tree.specs.rules.Rules.{Keeps}
use Rattle.civl_tree.specs.rules.Typing.{typing_rules}
use Rattle.civl_tree.specs.rules.Uses.{param_sorts}
use Rattle.civl_meaning.specs.Config.{frame_sorts}
use Rattle.civl_terms.specs.declared.node.Node.{Node}
use Rattle.civl_layers.specs.declared.cut.CutKind.{CutKind}
use Rattle.civl_layers.specs.declared.cut.CutKind.TheVariants as kind
use Rattle.civl_conditions.specs.paths.Ends.{is_entry, is_yield_cut}
use Rattle.std.proofs.lemmas.Bool.{false≢true}
use Rattle.civl_conditions.specs.declared.condition.Variable.{Variable}
use Rattle.civl_conditions.specs.declared.condition.Target.{Target}
use Rattle.civl_conditions.specs.declared.condition.Target.TheVariants as target
use Rattle.civl_conditions.specs.Targets.{Other, frame_size, other_of}
use Rattle.civl_conditions.specs.Variables.{of_params, of_locals, flag, other_variables}
use Rattle.civl_conditions.specs.Weights.{bits_of_variables}
use Rattle.civl_states.specs.formula_parts.Said.{Env}
use Rattle.civl_states.proofs.formula_parts.Saying.{test_as}
use Rattle.civl_refine.specs.declared.steadiness.yielding.Frame.{Frame}
use Rattle.civl_states.specs.formula_parts.Given.{given, bits_of_sorts}
use Rattle.civl_states.specs.Groups.{StandFrom}
use Rattle.civl_states.specs.Notes.{IsProcIn}
use Rattle.civl_states.proofs.Given.{part_given, get_given, stand_past}
use Rattle.civl_states.proofs.Limits.{AreSorts, sorts_append, proc_param_sorts_are}
use Rattle.civl_states.proofs.Starting.{inner_limits}
use Rattle.civl_states.proofs.Variables.{there_is, bits_same}
use Rattle.civl_refine.specs.inner.steadiness.Others.{SayFrame, other_sorts}
use Rattle.civl_refine.specs.steadiness.Kinds.{HasTarget}
use Rattle.civl_refine.specs.inner.steadiness.Making.{IsFrameFrom, others_from}
use Rattle.std.specs.Prelude.{codes}

-- ---- their sorts

params_sorts : (front : List ℕ) (ps : List Param) → map (λ v. v.sort) (of_params front ps) ≡ param_sorts ps
params_sorts front [] = refl
params_sorts front (p ∷ ps) = ap (λ ss. p.sort ∷ ss) (params_sorts front ps)

locals_sorts : (front : List ℕ) (ls : List Local) → map (λ v. v.sort) (of_locals front ls) ≡ map (λ l. l.sort) ls
locals_sorts front [] = refl
locals_sorts front (l ∷ ls) = ap (λ ss. l.sort ∷ ss) (locals_sorts front ls)

sort_of_variable : Variable → Sort
sort_of_variable v = v.sort

abbrev frame_variables : Proc → List Variable
frame_variables proc = of_params (codes "other.") proc.params ++ (of_params (codes "other.") proc.outs ++ (of_locals (codes "other.") proc.locals ++ flag (codes "other.done") ∷ []))

frame_variables_sorts : (proc : Proc) → map (λ v. v.sort) (frame_variables proc) ≡ other_sorts proc
frame_variables_sorts proc =
    let ps = of_params (codes "other.") proc.params in
    let os = of_params (codes "other.") proc.outs in
    let ls = of_locals (codes "other.") proc.locals in
    let d = flag (codes "other.done") ∷ [] in
    let inner : map (λ v. v.sort) (os ++ (ls ++ d)) ≡ (param_sorts proc.outs ++ map (λ l. l.sort) proc.locals) ++ Truth ∷ [] =
    map-append (λ v. v.sort) os (ls ++ d) ∙ ap₂ (λ (a b : List Sort). a ++ b) (params_sorts (codes "other.") proc.outs) (map-append (λ v. v.sort) ls d ∙ ap (λ (a : List Sort). a ++ Truth ∷ []) (locals_sorts (codes "other.") proc.locals))
    ∙ sym (append_assoc (param_sorts proc.outs) (map (λ l. l.sort) proc.locals) (Truth ∷ [])) in
    map-append (λ v. v.sort) ps (os ++ (ls ++ d)) ∙ ap₂ (λ (a b : List Sort). a ++ b) (params_sorts (codes "other.") proc.params) inner
    ∙ sym (append_assoc (param_sorts proc.params) (param_sorts proc.outs ++ map (λ l. l.sort) proc.locals) (Truth ∷ []))

pub others_are : (program : Program) (r y : ℕ) (proc : Proc) → slice_get program.procs r ≡ Some proc → map (λ v. v.sort) (other_variables program (target.Yield r y)) ≡ other_sorts proc
others_are program r y proc at = ap (map (λ v. v.sort)) (there_is (slice_get program.procs r) proc [] frame_variables at) ∙ frame_variables_sorts proc

pub others_long : (program : Program) (r y : ℕ) (proc : Proc) → slice_get program.procs r ≡ Some proc → length (other_variables program (target.Yield r y)) ≡ frame_size proc + 1
others_long program r y proc at =
    omega (
      arith,
      length-map (other_variables program (target.Yield r y)) (λ v. v.sort),
      ap length (others_are program r y proc at),
      length-append (frame_sorts proc) (Truth ∷ []),
      length-append (param_sorts proc.params) (param_sorts proc.outs ++ map (λ l. l.sort) proc.locals),
      length-append (param_sorts proc.outs) (map (λ l. l.sort) proc.locals),
      length-map proc.params (λ p. p.sort),
      length-map proc.outs (λ p. p.sort),
      length-map proc.locals (λ l. l.sort),
    )

pub frame_long : (proc : Proc) → length (frame_sorts proc) ≡ frame_size proc
frame_long proc =
    omega (
      arith,
      length-append (param_sorts proc.params) (param_sorts proc.outs ++ map (λ l. l.sort) proc.locals),
      length-append (param_sorts proc.outs) (map (λ l. l.sort) proc.locals),
      length-map proc.params (λ p. p.sort),
      length-map proc.outs (λ p. p.sort),
      length-map proc.locals (λ l. l.sort),
    )

pub others_weigh : (program : Program) (r y : ℕ) (proc : Proc) → slice_get program.procs r ≡ Some proc → bits_of_variables (other_variables program (target.Yield r y)) ≡ bits_of_sorts (other_sorts proc)
others_weigh program r y proc at = bits_same (other_variables program (target.Yield r y)) ∙ ap bits_of_sorts (others_are program r y proc at)

-- ---- where they stand

pub last_stand : (sorts front group : List Sort) → sorts ≡ front ++ group → StandFrom sorts (length front) group
last_stand sorts front group e =
    let whole : StandFrom sorts 0 (front ++ group) = record { rest = []; within = omega arith; is = e ∙ sym (append-nil (front ++ group)) } in
    let here : 0 + length front ≡ length front = omega arith in
    subst (λ (n : ℕ). StandFrom sorts n group) here (stand_past sorts 0 front group (length front) refl whole)

pub others_front : (sorts : List Sort) (program : Program) (t : Target) (front : List Sort) → sorts ≡ front ++ map (λ v. v.sort) (other_variables program t) → others_from sorts program t ≡ length front
others_front sorts program t front e =
    omega (arith, ap length e, length-append front (map (λ v. v.sort) (other_variables program t)), length-map (other_variables program t) (λ v. v.sort))

-- ---- they are within the limits

pub frame_sorts_are : (program : Program) → Keeps typing_rules program → (proc : Proc) → IsProcIn program proc → AreSorts (frame_sorts proc)
frame_sorts_are program keeps proc there =
    sorts_append (param_sorts proc.params) (param_sorts proc.outs ++ map (λ l. l.sort) proc.locals) (proc_param_sorts_are program keeps there.0 proc there.1) (inner_limits program keeps proc there)

pub others_limited : (program : Program) → Keeps typing_rules program → (t : Target) → HasTarget program t → AreSorts (map (λ v. v.sort) (other_variables program t))
others_limited program keeps (target.Invariant i) h = All-nil (λ s. IsTrue (is_sort s))
others_limited program keeps (target.Yield r y) h =
    subst AreSorts (sym (others_are program r y h.proc h.there))
    (sorts_append (frame_sorts h.proc) (Truth ∷ []) (frame_sorts_are program keeps h.proc (r, h.there)) (All-cons (λ s. IsTrue (is_sort s)) Truth [] refl (All-nil (λ s. IsTrue (is_sort s)))))

-- ---- what they say

pub other_given : (proc : Proc) (env : Env) (n at : ℕ) → at + frame_size proc + 1 ≤ n → other_of proc (given env 0 n) at ≡ record { locals = given env at (frame_size proc); done = is_true (env (at + frame_size proc)) }
other_given proc env n at l =
    ap₂ (λ (vs : List Value) (d : Bool). record { locals = vs; done = d }) (part_given env n at (frame_size proc) (omega (arith, l))) (ap is_true (get_given env n (at + frame_size proc) (omega (arith, l))))

-- a yield isn't the entry
pub yields_not : (k : CutKind) → is_yield_cut k ≡ true → is_entry k ≡ false
yields_not kind.Entry e = absurd (false≢true e)
yields_not kind.Yield e = refl
yields_not kind.YieldLoop e = refl
yields_not kind.RankLoop e = absurd (false≢true e)

-- the last variables end with those of the frame
pub frame_ends : (sorts : List Sort) (program : Program) (r y : ℕ) (proc : Proc) → slice_get program.procs r ≡ Some proc → (front : List Sort) → sorts ≡ front ++ map (λ v. v.sort) (other_variables program (target.Yield r y))
    → others_from sorts program (target.Yield r y) + frame_size proc + 1 ≤ length sorts
frame_ends sorts program r y proc at front e =
    omega (
      arith,
      others_front sorts program (target.Yield r y) front e,
      ap length e,
      length-append front (map (λ v. v.sort) (other_variables program (target.Yield r y))),
      length-map (other_variables program (target.Yield r y)) (λ v. v.sort),
      others_long program r y proc at,
    )

pub frame_says : (ns : List Node) (proc : Proc) (frame : Frame) (first at n : ℕ) → IsFrameFrom ns proc first frame → first ≡ at → at + frame_size proc + 1 ≤ n → SayFrame ns proc frame (λ env. other_of proc (given env 0 n) at)
frame_says ns proc frame first at n h e l =
    let f = subst (λ (k : ℕ). IsFrameFrom ns proc k frame) e h in
    record {
      locals = record { sorted = f.locals.sorted; are = λ env fits. f.locals.are env fits ∙ sym (ap (λ (o : Other). o.locals) (other_given proc env n at l)) };
      done = test_as ns frame.done _ _ (λ env. sym (ap (λ (o : Other). o.done) (other_given proc env n at l))) f.done;
    }
