-- Where no statement has a number, nothing is held before it; and what is said of the procedure with a number.
use Rattle.std.proofs.Common.{◌≡◌, ℕ, zero, suc, ◌≤◌, Bool, List, [], ◌∷◌, length, map, get_or, Some, refl, sym, ap, ◌∙◌, subst, ◌<◌}
use Rattle.std.specs.Prelude.{Option, slice_get}
use Rattle.std.specs.Option.{option_map_or}
use Rattle.std.proofs.lemmas.Option.{slice_get_read, slice_get_past}
use Rattle.std.proofs.lemmas.List.{get_or_past, length-map}
use Rattle.civl_tree.specs.declared.name.Name.{Name}
use Rattle.civl_tree.specs.declared.stmt.Stmt.{Stmt}
use Rattle.civl_tree.specs.declared.program.Proc.{Proc}
use Rattle.civl_tree.specs.declared.program.Program.{Program}
use Rattle.civl_tree.specs.Numbering.{sizes_of, statements_of}
use Rattle.civl_tree.proofs.Numbers.{sizes_are_counts}
use Rattle.civl_linear.specs.Cuts.{held_numbers}
use Rattle.civl_conditions.specs.Steps.{of_proc}

no_flags : (number : ℕ) (names : List Name) → held_numbers number names [] ≡ []
no_flags number [] = refl
no_flags number (name ∷ names) = refl

pub none_held : (number : ℕ) (names : List Name) (befores : List (List Bool)) (at : ℕ) → length befores ≤ at → held_numbers number names (get_or befores at []) ≡ []
none_held number names befores at past = ap (held_numbers number names) (get_or_past befores at [] past) ∙ no_flags number names

module _ {A : Type 0} (f : Proc → A) (none : A) (program : Program) (procs : List Proc) (number : ℕ) where
  pub of_some : (proc : Proc) → procs ≡ program.procs → number < length procs → proc ≡ get_or procs number proc → f proc ≡ of_proc program number none f
  of_some proc e l is =
      ap (λ (o : Option Proc). option_map_or f o none) (sym (subst (λ (ps : List Proc). slice_get ps number ≡ Some proc) e (slice_get_read procs (length procs) number proc refl l is)))

  pub of_none : procs ≡ program.procs → length procs ≤ number → none ≡ of_proc program number none f
  of_none e past = sym (subst (λ (ps : List Proc). option_map_or f (slice_get ps number) none ≡ none) e (ap (λ (o : Option Proc). option_map_or f o none) (slice_get_past procs number past)))

-- ---- how many

counts_at : (names : List Name) (befores : List (List Bool)) (at : ℕ) → get_or (map (λ held. length (held_numbers 0 names held)) befores) at 0 ≡ length (held_numbers 0 names (get_or befores at []))
counts_at names [] at = sym (ap length (no_flags 0 names))
counts_at names (held ∷ befores) zero = refl
counts_at names (held ∷ befores) (suc at) = counts_at names befores at

-- where the names and the flags are lent
pub counted : (counts : List ℕ) (names lent : List Name) (befores shown wanted : List (List Bool)) (at : ℕ) → counts ≡ map (λ held. length (held_numbers 0 lent held)) shown → lent ≡ names → shown ≡ befores → befores ≡ wanted →
    get_or counts at 0 ≡ length (held_numbers 0 names (get_or wanted at []))
counted counts names lent befores shown wanted at e n s w =
    ap (λ (ns : List ℕ). get_or ns at 0) (e ∙ ap (λ (ms : List Name). map (λ held. length (held_numbers 0 ms held)) shown) n ∙ ap (λ (bs : List (List Bool)). map (λ held. length (held_numbers 0 names held)) bs) (s ∙ w))
    ∙ counts_at names wanted at

-- one count for each statement
pub counted_each : (counts : List ℕ) (names : List Name) (befores shown wanted : List (List Bool)) (body : List Stmt) → counts ≡ map (λ held. length (held_numbers 0 names held)) shown → shown ≡ befores → befores ≡ wanted →
    length wanted ≡ length (statements_of body) → length counts ≡ sizes_of body
counted_each counts names befores shown wanted body e s w each =
    ap length e ∙ length-map shown (λ held. length (held_numbers 0 names held)) ∙ ap length (s ∙ w) ∙ each ∙ sizes_are_counts body
