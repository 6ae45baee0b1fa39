-- Part of the claim: docs/CLAIM.md.
-- Linear permissions (Kragl, Qadeer, CAV 2018; linear variables of the Civl verifier): what a linear value carries, and
-- which carriers are disjoint. A permission is its number.
use Rattle.std.specs.Prelude.{ℕ, zero, suc, Bool, true, not, ◌&&◌, nat_eq, List, [], ◌∷◌, ◌++◌, if◌then◌else◌}
use Rattle.std.specs.Int.{bit_at}
use Rattle.std.specs.List.{list_all, list_any}
use Rattle.civl_bits.specs.declared.value.Value.{Value}
use Rattle.civl_bits.specs.declared.value.Value.TheVariants as value
use Rattle.civl_tree.specs.declared.action.Param.{Param}
use Rattle.civl_tree.specs.declared.program.Global.{Global}
use Rattle.civl_tree.specs.rules.Width.{is_linear}

-- the places of the set bits among the lowest w, from the lowest on
abbrev pub set_bits : ℕ → ℕ → List ℕ
set_bits zero a = []
set_bits (suc w) a = set_bits w a ++ (if nat_eq (bit_at a w) 1 then w ∷ [] else [])

-- a linear word carries the one permission whose number is its value
abbrev pub permissions_of_word : Value → List ℕ
permissions_of_word (value.Word a) = a.1 ∷ []
permissions_of_word _ = []

-- a linear global carries the permissions of its set bits, bit 0 being the lowest
abbrev pub permissions_of_global : Value → List ℕ
permissions_of_global (value.Word a) = set_bits a.0 a.1
permissions_of_global _ = []

-- no permission is in both
abbrev pub disjoint : List ℕ → List ℕ → Bool
disjoint ps qs = list_all (λ p. not (list_any (nat_eq p) qs)) ps

-- none is in two of them
abbrev pub pairwise_disjoint : List (List ℕ) → Bool
pairwise_disjoint [] = true
pairwise_disjoint (ps ∷ rest) = list_all (disjoint ps) rest && pairwise_disjoint rest

-- the permissions of each linear global
abbrev pub of_globals : List Global → List Value → List (List ℕ)
of_globals [] values = []
of_globals (g ∷ gs) [] = []
of_globals (g ∷ gs) (v ∷ vs) = (if g.linear then permissions_of_global v ∷ [] else []) ++ of_globals gs vs

-- those of each linear parameter with these values
abbrev pub of_params : List Param → List Value → List (List ℕ)
of_params [] values = []
of_params (p ∷ ps) [] = []
of_params (p ∷ ps) (v ∷ vs) = (if is_linear p.mode then permissions_of_word v ∷ [] else []) ++ of_params ps vs
