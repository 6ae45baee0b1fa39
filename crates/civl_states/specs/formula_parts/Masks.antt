-- Permissions as bits (linear permissions: Kragl, Qadeer, CAV 2018): a word whose bit is 1 exactly at the permissions that some
-- linear values carry.
use Rattle.std.specs.Prelude.{◌≡◌, ℕ, ◌+◌, ◌*◌, ◌<◌, ◌^◌, nat_eq, List, [], flat_map, Option, None, Some, IfSome, All}
use Rattle.std.specs.Int.{bit_at}
use Rattle.std.specs.List.{list_any}
use Rattle.civl_bits.specs.declared.value.Value.{Value}
use Rattle.civl_bits.specs.declared.value.Value.TheVariants as value
use Rattle.civl_tree.specs.declared.expr.Sort.TheVariants.{Bool as Truth, Word}
use Rattle.civl_meaning.specs.Permissions.{pairwise_disjoint}
use Rattle.civl_terms.specs.declared.node.Node.{Node}
use Rattle.civl_terms.specs.Graphs.{value_at, sort_at, Fits}
use Rattle.civl_states.specs.declared.formula_parts.carried.Carried.{Carried}
use Rattle.civl_states.specs.formula_parts.Said.{Env, IsTest}

-- a word of so many bits whose bits are 1 exactly at these permissions
pub record IsMask (bits : ℕ) (v : Value) (permissions : List ℕ) : Type 0 where
  pub number : ℕ
  pub is : v ≡ value.Word (bits, number)
  pub fits : number < 2 ^ bits
  pub each : (q : ℕ) → q < bits → nat_eq (bit_at number q) 1 ≡ list_any (nat_eq q) permissions
  pub within : All (λ q. q < bits) permissions

-- a term of so many bits that is the mask of these permissions
pub record Masks (ns : List Node) (bits : ℕ) (id : ℕ) (f : Env → List ℕ) : Type 0 where
  pub sorted : sort_at ns id ≡ Some (Word bits)
  pub is : (env : Env) → Fits env ns → IsMask bits (value_at env ns id) (f env)

-- the mask of all permissions of these items; there is none where there are no items
abbrev pub MasksAll : List Node → ℕ → Option ℕ → (Env → List (List ℕ)) → Type 0
MasksAll ns bits None f = (env : Env) → Fits env ns → f env ≡ []
MasksAll ns bits (Some id) f = Masks ns bits id (λ env. flat_map (λ ps. ps) (f env))

-- what these items carry: the mask of all of it, and whether no permission is in two of them
pub record AreCarried (ns : List Node) (bits : ℕ) (carried : Carried) (f : Env → List (List ℕ)) : Type 0 where
  pub mask : MasksAll ns bits carried.mask f
  pub apart : IsTest ns carried.apart (λ env. pairwise_disjoint (f env))

-- terms of these sorts: a mask of so many bits, if there is one, and a test
pub record CanCarry (ns : List Node) (bits : ℕ) (carried : Carried) : Type 0 where
  pub mask : IfSome carried.mask (λ id. sort_at ns id ≡ Some (Word bits))
  pub apart : sort_at ns carried.apart ≡ Some Truth

-- what it weighs to join one more item to a mask, if there is one: the comparison of the two, and their union
abbrev pub joining_weight : ℕ → Option ℕ → ℕ
joining_weight bits None = 0
joining_weight bits (Some mask) = 3 * bits + 1
