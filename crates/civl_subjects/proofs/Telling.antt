-- A name that is told, of which something holds.
use Rattle.std.proofs.Common.{◌≡◌, ℕ, Option, Some, sym, subst, inl, inr}
use Rattle.std.specs.Prelude.{option_and_then}
use Rattle.std.specs.Option.{option_map}
use Rattle.civl_tree.specs.declared.name.Name.{Name}
use Rattle.civl_tree.specs.declared.program.Program.{Program}
use Rattle.civl_tree.specs.declared.refusal.Refusal.{Refusal}
use Rattle.civl_subjects.specs.declared.code.Code.{Code}
use Rattle.civl_subjects.specs.Subjects.{Subject, OfName}
use Rattle.civl_subjects.specs.Parts.{Part, part_at}
use Rattle.civl_subjects.specs.Told.{code_of, subject_of, in_header, in_part, subject}
use Rattle.civl_subjects.specs.Laws.{TellsName}
use Rattle.civl_subjects.proofs.Choosing.{or_some, map_some, and_some}

-- a name is told, of which this holds
pub record Names (holds : Name → Type 0) (told : Subject) : Type 0 where
  pub name : Name
  pub told_is : told ≡ OfName name
  pub held : holds name

-- it holds of the same name then
pub weaker : (P Q : Name → Type 0) (told : Subject) → ((name : Name) → P name → Q name) → Names P told → Names Q told
weaker P Q told f names = record { name = names.name; told_is = names.told_is; held = f names.name names.held }

-- of a name that is told of an option
pub of_option : (P : Name → Type 0) (found : Option Name) (told : Subject) → option_map OfName found ≡ Some told → ((name : Name)
    → found ≡ Some name → P name) → Names P told
of_option P found told h holds = let m = map_some OfName found told h in record { name = m.0; told_is = sym m.2; held = holds m.0 m.1 }

-- what is told of a refusal with this code, where nothing is told of the header
pub tells : (number : ℕ) (code : Code) (holds : Program → ℕ → Part → Name → Type 0) (program : Program) (refusal : Refusal) (told : Subject)
    → refusal.code ≡ number → code_of number ≡ Some code
    → ((other : Subject) → in_header code program refusal.item ≡ Some other → ⊥)
    → ((part : Part) (other : Subject) → in_part code program refusal.statement part ≡ Some other
    → Names (holds program refusal.statement part) other)
    → subject program refusal ≡ Some told → TellsName holds program refusal told
tells number code holds program refusal told is coded header parts h =
    let numbered : option_and_then (subject_of program refusal) (code_of number)
    ≡ Some told = subst (λ (n : ℕ). option_and_then (subject_of program refusal) (code_of n) ≡ Some told) is h in
    let known : subject_of program refusal code ≡ Some told = subst (λ (c : Option Code). option_and_then (subject_of program refusal) c
    ≡ Some told) coded numbered in
    elim (or_some (in_header code program refusal.item) (option_and_then (in_part code program refusal.statement) (part_at program refusal.item)) told known) [
      | inl e ↦ absurd (header told e)
      | inr e ↦
          let found = and_some (in_part code program refusal.statement) (part_at program refusal.item) told e in
          let names = parts found.0 told found.2 in
          record { part = found.0; name = names.name; there = found.1; told_is = names.told_is; held = names.held }
    ]
