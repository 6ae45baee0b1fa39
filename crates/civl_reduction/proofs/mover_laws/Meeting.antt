-- Two actions of a layer, at the first step at which both are there.
use Rattle.std.proofs.Common.{◌≡◌, ℕ, ◌+◌, ◌-◌, ◌<◌, ◌≤◌, Bool, true, refl, ap, arith, inl, inr, ◌⊎◌}
use Rattle.std.specs.Prelude.{nat_le, nat_lt, if◌then◌else◌}
use Rattle.std.proofs.lemmas.Bool.{cases_lt, lt-ltb, le-ltb, le-leb, leb-true, eq-eqb, and_parts, and_from}
use Rattle.civl_tree.specs.declared.action.Action.{Action}
use Rattle.civl_layers.specs.Ranges.{exists_in}
use Rattle.civl_layers.specs.Names.{action_range}
use Rattle.civl_conditions.specs.Steps.{meet_below}

-- the first layer of both
abbrev pub meeting : Action → Action → ℕ
meeting a b = if nat_lt a.first b.first then b.first else a.first

-- it is there in both, where some layer is
abbrev pub MetAt : ℕ → Action → Action → Type 0
MetAt layer a b = (meet_below (meeting a b + 1) a b ≡ true) × (exists_in (meeting a b + 1 - 1) (action_range a) ≡ true) × (exists_in (meeting a b + 1 - 1) (action_range b) ≡ true) × (meeting a b + 1 ≤ layer + 1)

pub met_at : (layer : ℕ) (a b : Action) → exists_in layer (action_range a) ≡ true → exists_in layer (action_range b) ≡ true → MetAt layer a b
met_at layer a b h k = go (meeting a b) refl (cases_lt a.first b.first)
  where
    p : (nat_le a.first layer ≡ true) × (nat_le layer a.last ≡ true)
    p = and_parts (nat_le a.first layer) (nat_le layer a.last) h

    q : (nat_le b.first layer ≡ true) × (nat_le layer b.last ≡ true)
    q = and_parts (nat_le b.first layer) (nat_le layer b.last) k

    a_first : a.first ≤ layer
    a_first = leb-true a.first layer p.0

    a_last : layer ≤ a.last
    a_last = leb-true layer a.last p.1

    b_first : b.first ≤ layer
    b_first = leb-true b.first layer q.0

    b_last : layer ≤ b.last
    b_last = leb-true layer b.last q.1

    by_number : (n : ℕ) → meeting a b ≡ n → a.first ≤ n → b.first ≤ n → n ≤ layer → MetAt layer a b
    by_number n e i j l = (
      and_from _ _ (eq-eqb (meeting a b + 1) (meeting a b + 1) refl) (and_from _ _ (le-leb (meeting a b + 1) (a.last + 1) (omega (arith, e, l, a_last))) (le-leb (meeting a b + 1) (b.last + 1) (omega (arith, e, l, b_last)))),
      and_from _ _ (le-leb a.first (meeting a b + 1 - 1) (omega (arith, e, i))) (le-leb (meeting a b + 1 - 1) a.last (omega (arith, e, l, a_last))),
      and_from _ _ (le-leb b.first (meeting a b + 1 - 1) (omega (arith, e, j))) (le-leb (meeting a b + 1 - 1) b.last (omega (arith, e, l, b_last))),
      omega (arith, e, l),
    )

    go : (n : ℕ) → meeting a b ≡ n → (a.first < b.first) ⊎ (b.first ≤ a.first) → MetAt layer a b
    go n e (inl l) =
        let is : meeting a b ≡ b.first = ap (λ (c : Bool). if c then b.first else a.first) (lt-ltb a.first b.first l) in
        by_number b.first is (omega (arith, l)) (omega arith) b_first
    go n e (inr g) =
        let is : meeting a b ≡ a.first = ap (λ (c : Bool). if c then b.first else a.first) (le-ltb a.first b.first g) in
        by_number a.first is (omega arith) g a_first
