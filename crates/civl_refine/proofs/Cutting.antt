-- A cut that has its place among a procedure's cuts, and the action that the procedure refines.
use Rattle.std.specs.Prelude.{map, slice_get, IsSome}
use Rattle.std.proofs.Common.{◌≡◌, ◌∙◌, ℕ, zero, suc, ◌+◌, ◌<◌, ◌^◌, false, List, [], ◌∷◌, ◌++◌, refl, sym, ap, subst, arith, Option, Some, None}
use Rattle.std.proofs.lemmas.Bool.{false≢true, not-false, or_parts, and_parts}
use Rattle.std.proofs.lemmas.Option.{slice_get-map, slice_get_within, get_or_from_slice_get}
use Rattle.civl_tree.specs.declared.name.Name.{Name}
use Rattle.civl_tree.specs.declared.action.Action.{Action}
use Rattle.civl_tree.specs.declared.stmt.Stmt.{Stmt, out-Stmt}
use Rattle.civl_tree.specs.declared.stmt.Stmt.TheOpen as stmt
use Rattle.civl_tree.specs.declared.program.Refines.{Refines}
use Rattle.civl_tree.specs.declared.program.Proc.{Proc}
use Rattle.civl_tree.specs.declared.program.Program.{Program}
use Rattle.civl_tree.specs.Numbering.{statements_of, statement_at, sizes_of}
use Rattle.civl_tree.specs.rules.Names.{action_named}
use Rattle.civl_tree.specs.rules.Signature.{same_params, signature_differs, refined_differs}
use Rattle.civl_tree.specs.rules.Typing.{typing_rules, unknown_rule, signature_rule}
use Rattle.civl_tree.specs.rules.Unknown.{refined_unknown, any_unknown}
use Rattle.civl_tree.specs.rules.Uses.{with_uses}
use Rattle.civl_tree.proofs.Kept.{proc_kept, unknown_among}
use Rattle.civl_tree.proofs.Options.{some_of}
use Rattle.civl_firing.specs.Truth.{place_of}
use Rattle.civl_firing.proofs.Finding.{found_at}
use Rattle.civl_firing.proofs.SortLimits.{same_sorts}
use Rattle.civl_meaning.specs.Meaning.{refined, meaning_of_action}
use Rattle.civl_layers.specs.declared.cut.Cut.{Cut}
use Rattle.civl_layers.specs.declared.cut.CutKind.{CutKind}
use Rattle.civl_layers.specs.declared.cut.CutKind.TheVariants as kind
use Rattle.civl_layers.specs.Cuts.{form_cut, cut_kind, cut_at, cuts_among, entry_cut, cuts_below, proc_cuts}
use Rattle.civl_layers.specs.LayerRules.{layer_rules}
use Rattle.civl_layers.specs.Layered.{IsLayered}
use Rattle.civl_linear.specs.Cuts.{held_of, all_held}
use Rattle.civl_conditions.specs.paths.Choices.{action_meant}
use Rattle.civl_conditions.specs.paths.Ends.{is_entry}
use Rattle.civl_conditions.specs.Assumed.{layer_invariant, said_at, cut_invariant}
use Rattle.civl_conditions.specs.Permissions.{held_at}
use Rattle.civl_states.specs.Notes.{IsProcIn}
use Rattle.civl_refine.specs.Assuming.{IsRefined}
use Rattle.std.specs.Prelude.{get_or}
use Rattle.std.specs.Option.{option_map, option_map_or}

-- ---- where a cut stands

-- a statement among these, from this number on, that is the cut
abbrev pub StandsAmong : Cut → ℕ → List Stmt → Type 0
StandsAmong cut number stmts = (j : ℕ) × (s : Stmt) × (slice_get stmts j ≡ Some s) × (cut.statement ≡ number + j) × (cut_kind s ≡ Some cut.kind)

stands_later : (cut : Cut) (number : ℕ) (s : Stmt) (stmts : List Stmt) → StandsAmong cut (number + 1) stmts → StandsAmong cut number (s ∷ stmts)
stands_later cut number s stmts (j, t, at, is, same) = (suc j, t, at, omega (arith, is), same)

stands_by : (cut : Cut) (number : ℕ) (s : Stmt) (stmts : List Stmt) (o : Option CutKind) → cut_kind s ≡ o → ((k : ℕ) → slice_get (cuts_among (number + 1) stmts) k ≡ Some cut → StandsAmong cut (number + 1) stmts)
    → (k : ℕ) → slice_get (cut_at number o ++ cuts_among (number + 1) stmts) k ≡ Some cut → StandsAmong cut number (s ∷ stmts)
stands_by cut number s stmts None q ind k e = stands_later cut number s stmts (ind k e)
stands_by cut number s stmts (Some kind) q ind zero e =
    let same : ◌≡◌ {A = Cut} (record { statement = number; kind = kind }) cut = cc in
    (0, s, refl, (let p : cut.statement ≡ number = ap (λ (c : Cut). c.statement) (sym same) in omega (arith, p)), q ∙ ap (λ (c : Cut). Some c.kind) same)
stands_by cut number s stmts (Some kind) q ind (suc k) e = stands_later cut number s stmts (ind k e)

stands_among : (cut : Cut) (number : ℕ) (stmts : List Stmt) (k : ℕ) → slice_get (cuts_among number stmts) k ≡ Some cut → StandsAmong cut number stmts
unfolding cuts_among
stands_among cut number [] k e = absurd (cc)
stands_among cut number (s ∷ stmts) k e = stands_by cut number s stmts (cut_kind s) refl (stands_among cut (number + 1) stmts) k e

-- ---- what it says

form_says : (f : stmt.Stmt-F Stmt) (kind : CutKind) → form_cut f ≡ Some kind → IsSome (layer_invariant f)
form_says (stmt.YieldLoop t i a) kind e = refl
form_says (stmt.RankLoop t r i a) kind e = refl
form_says (stmt.Yield i) kind e = refl
form_says (stmt.Assign x v) kind e = absurd (cc)
form_says (stmt.Assert v) kind e = absurd (cc)
form_says (stmt.If v a b) kind e = absurd (cc)
form_says (stmt.While v a) kind e = absurd (cc)
form_says (stmt.Call f es rs) kind e = absurd (cc)
form_says stmt.Commit kind e = absurd (cc)
form_says (stmt.Intro x v) kind e = absurd (cc)
form_says (stmt.Spawn f es) kind e = absurd (cc)

said_by : (proc : Proc) (number : ℕ) (k : CutKind) → is_entry k ≡ false → said_at layer_invariant proc number k ≡ option_map_or (λ s. layer_invariant (out-Stmt s)) (statement_at proc.body number) None
said_by proc number kind.Entry n = absurd (false≢true (sym n))
said_by proc number kind.Yield n = refl
said_by proc number kind.YieldLoop n = refl
said_by proc number kind.RankLoop n = refl

stands_says : (proc : Proc) (cut : Cut) → is_entry cut.kind ≡ false → StandsAmong cut 0 (statements_of proc.body) → IsSome (cut_invariant proc cut)
stands_says proc cut n (j, s, at, is, same) =
    let here : cut.statement ≡ j = omega (arith, is) in
    let found : statement_at proc.body cut.statement ≡ Some s = ap (slice_get (statements_of proc.body)) here ∙ at in
    let said : cut_invariant proc cut ≡ layer_invariant (out-Stmt s) = said_by proc cut.statement cut.kind n ∙ ap (λ (o : Option Stmt). option_map_or (λ t. layer_invariant (out-Stmt t)) o None) found in
    subst IsSome (sym said) (form_says (out-Stmt s) cut.kind same)

pub cut_says : (proc : Proc) (c : ℕ) (cut : Cut) → slice_get (proc_cuts proc) c ≡ Some cut → is_entry cut.kind ≡ false → IsSome (cut_invariant proc cut)
cut_says proc c cut e n = by proc.refines c e
  where
    by : (o : Option Refines) (k : ℕ) → slice_get (cuts_below o proc.body) k ≡ Some cut → IsSome (cut_invariant proc cut)
    by None k q = absurd (cc)
    by (Some r) zero q =
        let same : ◌≡◌ {A = Cut} entry_cut cut = cc in
        absurd (false≢true (sym n ∙ ap (λ (x : Cut). is_entry x.kind) (sym same)))
    by (Some r) (suc k) q = stands_says proc cut n (stands_among cut 0 (statements_of proc.body) k q)

-- a procedure that has a cut refines an action
pub cut_refines : (proc : Proc) (c : ℕ) (cut : Cut) → slice_get (proc_cuts proc) c ≡ Some cut → IsSome proc.refines
cut_refines proc c cut e = by proc.refines e
  where
    by : (o : Option Refines) → slice_get (cuts_below o proc.body) c ≡ Some cut → IsSome o
    by None q = absurd (cc)
    by (Some r) q = refl

pub some_is : {A : Type 0} (o : Option A) → IsSome o → (x : A) × (o ≡ Some x)
some_is None h = absurd (false≢true h)
some_is (Some x) h = (x, refl)

-- ---- the action that a procedure refines

abbrev place_named : Program → Name → ℕ
place_named program name = place_of (map (λ a. a.name) program.actions) name

pub is_refined : (program : Program) → IsLayered program → (proc : Proc) → IsProcIn program proc → (r : Refines) → proc.refines ≡ Some r → IsRefined program proc (place_named program r.action)
is_refined program layered proc there r e =
    let known = or_parts (refined_unknown program proc.refines) (any_unknown (with_uses program proc proc.refines)) (proc_kept typing_rules program layered.rules unknown_rule unknown_among there.0 proc there.1) in
    let found = some_of (action_named program r.action) (ap (refined_unknown program) (sym e) ∙ known.0) in
    let signed : refined_differs program proc proc.refines ≡ false = proc_kept layer_rules program layered.layers signature_rule (4, omega arith, refl) there.0 proc there.1 in
    let differs : signature_differs proc (Some found.0) ≡ false = ap (signature_differs proc) (sym found.1) ∙ ap (refined_differs program proc) (sym e) ∙ signed in
    let same = and_parts (same_params proc.params found.0.params) (same_params proc.outs found.0.outs) (not-false _ differs) in
    record {
      action = found.0;
      is = found_at (λ (a : Action). a.name) program.actions r.action ∙ found.1;
      refined = ap (λ (o : Option Refines). action_meant (refined program o)) e ∙ ap (λ (o : Option Action). action_meant (meaning_of_action o)) found.1;
      params = sym (same_sorts proc.params found.0.params same.0);
      outs = sym (same_sorts proc.outs found.0.outs same.1);
    }

-- ---- what is held

pub held_is : (program : Program) (q c : ℕ) (proc : Proc) (cuts : List (List (List ℕ))) → slice_get program.procs q ≡ Some proc → cuts ≡ all_held program → get_or (get_or cuts q []) c [] ≡ held_at program proc c
held_is program q c proc cuts at e =
    let here : slice_get (all_held program) q ≡ Some (held_of program proc) = slice_get-map (held_of program) program.procs q ∙ ap (option_map (held_of program)) at in
    ap (λ (list : List (List (List ℕ))). get_or (get_or list q []) c []) e ∙ ap (λ (list : List (List ℕ)). get_or list c []) (get_or_from_slice_get (all_held program) q (held_of program proc) [] here)

-- ---- a procedure of a layered program has few statements

pub statements_few : (program : Program) → IsLayered program → (number : ℕ) (proc : Proc) → slice_get program.procs number ≡ Some proc → sizes_of proc.body < 2 ^ 32
statements_few program layered number proc found =
    subst (λ (p : Proc). sizes_of p.body < 4294967296) (get_or_from_slice_get program.procs number proc proc found) (omega (arith, layered.numbered.statements number proc (slice_get_within program.procs number proc found)))

-- a procedure that refines an action does so by its `refines`
pub refines_some : (program : Program) (proc : Proc) (number : ℕ) → IsRefined program proc number → IsSome proc.refines
refines_some program proc number r = by proc.refines r.refined
  where
    by : (o : Option Refines) → action_meant (refined program o) ≡ Some r.action → IsSome o
    by None e = absurd (cc)
    by (Some of) e = refl
