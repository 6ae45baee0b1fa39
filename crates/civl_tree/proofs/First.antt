-- The first of the places at which a program breaks rules is the first by code, item and statement.
use Rattle.std.proofs.Common.{◌≡◌, ℕ, ◌≤◌, ◌<◌, inl, inr, List, [], ◌∷◌, None, refl, subst, arith}
use Rattle.std.specs.List.{All, AllPairs, Contains}
use Rattle.std.specs.List.{AllByRecursion}
use Rattle.std.specs.Prelude.{⊤}
use Rattle.std.proofs.lemmas.List.Elements.{All-nil, All-cons, All-weaker, All-contains, All-from_recursion}
use Rattle.std.proofs.lemmas.List.Kept.{AllPairs-cons}
use Rattle.civl_tree.specs.declared.program.Program.{Program}
use Rattle.civl_tree.specs.declared.refusal.Refusal.{Refusal}
use Rattle.civl_tree.specs.Numbering.{statements_of}
use Rattle.civl_tree.specs.rules.Uses.{stmt_uses}
use Rattle.civl_tree.specs.rules.Twice.{stmt_twice}
use Rattle.civl_tree.specs.rules.Unknown.{stmt_unknown}
use Rattle.civl_tree.specs.rules.Width.{any_width}
use Rattle.civl_tree.specs.rules.Sorted.{stmt_missorted}
use Rattle.civl_tree.specs.rules.Index.{any_index}
use Rattle.civl_tree.specs.rules.Arity.{stmt_arity}
use Rattle.civl_tree.specs.rules.Codes.{number_of}
use Rattle.civl_tree.specs.rules.Rules.{Rule, refusals_by, refusal_by, first_of, Keeps}
use Rattle.civl_tree.specs.rules.Typing.{typing_rules}
use Rattle.civl_tree.specs.rules.Broken.{NotAfter, IsBroken, IsRefusal, TellsInOrder, AreInOrder, AreSorted}
use Rattle.civl_tree.proofs.Pairs.{contains_nil, contains_here, contains_cons, pairs_nil, pairs_head}
use Rattle.civl_tree.proofs.Placed.{listed, broken_of}
use Rattle.civl_tree.proofs.Ordered.{sorted, CodesRise, where_in_order}

module _ (rules : List Rule) (program : Program) where
  answered : (refusals : List Refusal) → AllPairs NotAfter refusals → ((refusal : Refusal) → IsBroken rules program refusal → Contains refusals refusal) → ((refusal : Refusal) → Contains refusals refusal → IsBroken rules program refusal)
      → IsRefusal rules program (first_of refusals)
  answered [] pairs lists broken = λ refusal h. contains_nil refusal (lists refusal h)
  answered (first ∷ refusals) pairs lists broken = record {
    broken = broken first (contains_here first refusals);
    first = λ other h. elim (contains_cons first refusals other (lists other h)) [
      | inl e ↦ subst (NotAfter first) e (inr (refl, inr (refl, omega arith)))
      | inr there ↦ All-contains (NotAfter first) refusals other (pairs_head NotAfter first refusals pairs) there
    ];
  }

  pub first_is_answer : AreInOrder rules → IsRefusal rules program (refusal_by rules program)
  first_is_answer ordered = answered (refusals_by rules program) (sorted program rules ordered.codes ordered.statements) (listed rules program) (broken_of rules program)

  -- a program that keeps the rules breaks none of them at any place
  pub no_rule_broken : Keeps rules program → (refusal : Refusal) → IsBroken rules program refusal → ⊥
  no_rule_broken keeps refusal broken = contains_nil refusal (subst (λ refusals. Contains refusals refusal) keeps (listed rules program refusal broken))

pub refusal_is_first : (rules : List Rule) → AreInOrder rules → AreSorted rules × ((program : Program) → IsRefusal rules program (refusal_by rules program))
refusal_is_first rules ordered = (λ program. sorted program rules ordered.codes ordered.statements, λ program. first_is_answer rules program ordered)

-- a list without a first is empty
pub none_first : {A : Type 0} (xs : List A) → first_of xs ≡ None → xs ≡ []
none_first [] h = refl
none_first (x ∷ xs) h = cc

-- ---- lists of rules in their order

-- each code is above the one before it
abbrev pub RisesFrom : ℕ → List Rule → Type 0
RisesFrom n [] = ⊤
RisesFrom n (rule ∷ rules) = (n < number_of rule.code) × RisesFrom (number_of rule.code) rules

above : (n : ℕ) (rules : List Rule) → RisesFrom n rules → All (λ rule. n < number_of rule.code) rules
above n [] h = All-nil (λ rule. n < number_of rule.code)
above n (rule ∷ rules) h =
    let l = h.0 in
    All-cons (λ r. n < number_of r.code) rule rules l (All-weaker (λ r. number_of rule.code < number_of r.code) (λ r. n < number_of r.code) (λ r m. omega arith) rules (above (number_of rule.code) rules h.1))

pub codes_rise : (n : ℕ) (rules : List Rule) → RisesFrom n rules → AllPairs CodesRise rules
codes_rise n [] h = pairs_nil CodesRise
codes_rise n (rule ∷ rules) h = AllPairs-cons CodesRise rule rules (above (number_of rule.code) rules h.1) (codes_rise (number_of rule.code) rules h.1)

pub in_order : (rules : List Rule) → RisesFrom 0 rules → AllByRecursion TellsInOrder rules → AreInOrder rules
in_order rules rise tell = record { codes = codes_rise 0 rules rise; statements = All-from_recursion TellsInOrder rules tell }

-- a rule that tells no statement, and one that asks each by itself
pub no_statements : AllPairs (λ first second. first ≤ second) []
no_statements = pairs_nil (λ first second. first ≤ second)

pub typing_in_order : AreInOrder typing_rules
typing_in_order =
    in_order typing_rules
    (omega arith, (omega arith, (omega arith, (omega arith, (omega arith, (omega arith, (omega arith, (omega arith, tt)))))))) (
      λ program place proc. where_in_order stmt_twice 0 (statements_of proc.body),
      (
        λ program place proc. where_in_order (stmt_unknown program proc) 0 (statements_of proc.body),
        (
          λ program place proc. no_statements,
          (
            λ program place proc. where_in_order (λ stmt. any_width (stmt_uses program proc stmt)) 0 (statements_of proc.body),
            (
              λ program place proc. where_in_order (stmt_missorted program proc) 0 (statements_of proc.body),
              (
                λ program place proc. where_in_order (λ stmt. any_index (stmt_uses program proc stmt)) 0 (statements_of proc.body),
                (λ program place proc. where_in_order (stmt_arity program) 0 (statements_of proc.body), (λ program place proc. no_statements, tt)),
              ),
            ),
          ),
        ),
      ),
    )
