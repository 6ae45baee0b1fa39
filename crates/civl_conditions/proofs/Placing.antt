-- The cuts of a step as one list: how many there are, and what is said of each.
use Rattle.std.proofs.Common.{◌≡◌, ℕ, suc, ◌+◌, ◌≤◌, Bool, true, false, List, [], ◌∷◌, ◌++◌, length, map, flat_map, None, Some, refl, sym, ap, ◌∙◌, subst, arith, append-nil}
use Rattle.std.specs.Prelude.{Option, slice_get, if◌then◌else◌, IfSome}
use Rattle.std.proofs.lemmas.List.{append_assoc, length-append}
use Rattle.std.proofs.lemmas.Grind.{flat_map-append}
use Rattle.std.proofs.lemmas.Option.{get_or_from_slice_get, slice_get_within}
use Rattle.civl_tree.specs.declared.stmt.Stmt.{Stmt}
use Rattle.civl_tree.specs.declared.program.Refines.{Refines}
use Rattle.civl_tree.specs.declared.program.Proc.{Proc}
use Rattle.civl_tree.specs.declared.program.Program.{Program}
use Rattle.civl_tree.specs.Numbered.{IsNumbered}
use Rattle.civl_tree.specs.Numbering.{statements_of, sizes_of}
use Rattle.civl_tree.proofs.Numbers.{sizes_are_counts}
use Rattle.civl_layers.specs.declared.cut.Cut.{Cut}
use Rattle.civl_layers.specs.declared.cut.CutKind.{CutKind}
use Rattle.civl_layers.specs.Cuts.{cut_at, cut_kind, cuts_among, cuts_below, proc_cuts}
use Rattle.civl_conditions.specs.declared.condition.Condition.{Condition}
use Rattle.civl_conditions.specs.declared.condition.Condition.TheVariants.{Act}
use Rattle.civl_conditions.specs.declared.condition.Target.{Target}
use Rattle.civl_conditions.specs.declared.condition.Target.TheVariants as target
use Rattle.civl_conditions.specs.declared.places.Place.{Place}
use Rattle.civl_conditions.specs.Steps.{each_at, each_cut, has_layer, lasts_through, step_invariants}
use Rattle.civl_conditions.specs.Listed.{starts, keeps, movers, targets, at_step}
use Rattle.civl_conditions.specs.inner.Placed.{place_of, step_places, parts_from, yield_at, blocks_from}

-- ---- how many cuts there are

one_at_most : (number : ℕ) (kind : Option CutKind) → length (cut_at number kind) ≤ 1
one_at_most number None = omega arith
one_at_most number (Some kind) = omega arith

few_among : (number : ℕ) (stmts : List Stmt) → length (cuts_among number stmts) ≤ length stmts
unfolding cuts_among
few_among number [] = omega arith
few_among number (stmt ∷ stmts) =
    omega (arith, length-append (cut_at number (cut_kind stmt)) (cuts_among (number + 1) stmts), one_at_most number (cut_kind stmt), few_among (number + 1) stmts)

few_below : (refines : Option Refines) (body : List Stmt) → length (cuts_below refines body) ≤ suc (length (statements_of body))
few_below None body = omega arith
few_below (Some refines) body = omega (arith, few_among 0 (statements_of body))

-- the cuts of a procedure have numbers of 32 bits
pub cuts_fit : (program : Program) → IsNumbered program → (number : ℕ) (proc : Proc) → slice_get program.procs number ≡ Some proc → length (proc_cuts proc) ≤ 4294967296
cuts_fit program numbered number proc found =
    let counted = numbered.statements number proc (slice_get_within program.procs number proc found) in
    let small : suc (sizes_of proc.body) ≤ 4294967296 = subst (λ (p : Proc). suc (sizes_of p.body) ≤ 4294967296) (get_or_from_slice_get program.procs number proc proc found) (omega (arith, counted)) in
    omega (arith, small, sizes_are_counts proc.body, few_below proc.refines proc.body)

pub found_cuts : {proc : Proc} {cuts : List Cut} (found : Option Proc) → found ≡ Some proc → IfSome found (λ p. cuts ≡ proc_cuts p) → cuts ≡ proc_cuts proc
found_cuts {proc} {cuts} found e h = let P : Option Proc → Type 0 = λ f. IfSome f (λ p. cuts ≡ proc_cuts p) in subst P e h

-- ---- what is said of each

same_each : {A B : Type 0} (f g : ℕ → A → List B) → ((n : ℕ) (x : A) → f n x ≡ g n x) → (at : ℕ) (xs : List A) → each_at f at xs ≡ each_at g at xs
same_each f g h at [] = refl
same_each f g h at (x ∷ xs) = ap (λ (ys : List _). ys ++ each_at f (at + 1) xs) (h at x) ∙ ap (λ (ys : List _). g at x ++ ys) (same_each f g h (at + 1) xs)

flat_each : {A B C : Type 0} (g : B → List C) (f : ℕ → A → List B) (at : ℕ) (xs : List A) → flat_map g (each_at f at xs) ≡ each_at (λ n x. flat_map g (f n x)) at xs
flat_each g f at [] = refl
flat_each g f at (x ∷ xs) = flat_map-append g (f at x) (each_at f (at + 1) xs) ∙ ap (λ (ys : List _). flat_map g (f at x) ++ ys) (flat_each g f (at + 1) xs)

flat_when : {A B : Type 0} (g : A → List B) (b : Bool) (xs : List A) (ys : List B) → flat_map g xs ≡ ys → flat_map g (if b then xs else []) ≡ (if b then ys else [])
flat_when g true xs ys h = h
flat_when g false xs ys h = refl

flat_cuts : {B : Type 0} (g : Place → List B) (q : ℕ) (cuts : List Cut) → flat_map g (each_at (λ c cut. place_of q c cut ∷ []) 0 cuts) ≡ each_at (λ c cut. g (place_of q c cut)) 0 cuts
flat_cuts g q cuts =
    flat_each g (λ c cut. place_of q c cut ∷ []) 0 cuts ∙ same_each (λ c cut. g (place_of q c cut) ++ []) (λ c cut. g (place_of q c cut)) (λ c cut. append-nil (g (place_of q c cut))) 0 cuts

pub flat_places : {B : Type 0} (g : Place → List B) (program : Program) (step : ℕ) → flat_map g (step_places program step) ≡ each_cut (λ q c cut. g (place_of q c cut)) program step
flat_places g program step =
    flat_each g _ 0 program.procs
    ∙ same_each _ _ (λ q proc. flat_when g (has_layer step proc) (each_at (λ c cut. place_of q c cut ∷ []) 0 (proc_cuts proc)) (each_at (λ c cut. g (place_of q c cut)) 0 (proc_cuts proc)) (flat_cuts g q (proc_cuts proc))) 0 program.procs

-- ---- a step

abbrev wanted_of : Program → ℕ → List Place → List Target
wanted_of program step places = each_at (λ i e. target.Invariant i ∷ []) 0 (step_invariants program step) ++ flat_map yield_at places

abbrev acts_of : Program → ℕ → List Target → List Condition
acts_of program step wanted = each_at (λ x a. if lasts_through step a then map (Act step x) wanted else []) 0 program.actions

own_targets : (program : Program) (step : ℕ) (places : List Place) → places ≡ step_places program step → wanted_of program step places ≡ targets program step
own_targets program step places e =
    ap (λ (ps : List Place). wanted_of program step ps) e ∙ ap (λ (ts : List Target). each_at (λ i e. target.Invariant i ∷ []) 0 (step_invariants program step) ++ ts) (flat_places yield_at program step)

module _ (list : List Condition) (program : Program) (step : ℕ) where
  abbrev behind : List Place → List Target → List Condition
  behind places wanted =
      list ++ starts program step ++ keeps program step ++ movers program step ++ flat_map (parts_from step) places ++ flat_map (blocks_from step wanted) places ++ acts_of program step wanted

  own : (places : List Place) (wanted : List Target) → places ≡ step_places program step → wanted ≡ targets program step → behind places wanted ≡ list ++ at_step program step
  own places wanted e t =
      ap (λ (ps : List Place). behind ps wanted) e ∙ ap (λ (ts : List Target). behind (step_places program step) ts) t
      ∙ rw (flat_places (parts_from step) program step, flat_places (blocks_from step (targets program step)) program step) (simp append_assoc)

-- what is listed part by part is the list of the step
pub in_order : (list : List Condition) (program src : Program) (step : ℕ) (places : List Place) (wanted : List Target) → program ≡ src → places ≡ step_places src step
    → wanted ≡ wanted_of program step places → behind list program step places wanted ≡ list ++ at_step src step
in_order list program src step places wanted e p t =
    let q : places ≡ step_places program step = p ∙ ap (λ (s : Program). step_places s step) (sym e) in
    own list program step places wanted q (t ∙ own_targets program step places q) ∙ ap (λ (s : Program). list ++ at_step s step) e
