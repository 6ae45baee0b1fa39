-- The statement with a number of a root is what stands there, and where its branches begin.
use Rattle.std.specs.Prelude.{slice_get, drop, if◌then◌else◌}
use Rattle.std.proofs.Common.{◌≡◌, ◌∙◌, ℕ, ◌+◌, ◌≤◌, ◌<◌, ◌^◌, Bool, true, false, List, [], ◌∷◌, length, get_or, refl, sym, ap, ap₂, subst, arith, Option, Some}
use Rattle.std.proofs.lemmas.Option.{same_Some, slice_get_within, get_or_from_slice_get}
use Rattle.std.proofs.lemmas.List.Elements.{All-get_or}
use Rattle.civl_tree.specs.declared.expr.Expr.{Expr}
use Rattle.civl_tree.specs.declared.stmt.Stmt.{Stmt}
use Rattle.civl_tree.specs.declared.stmt.Stmt as tree
use Rattle.civl_tree.specs.declared.program.Proc.{Proc}
use Rattle.civl_tree.specs.declared.program.Program.{Program}
use Rattle.civl_tree.specs.Numbered.{IsNumbered}
use Rattle.civl_tree.specs.Numbering.{statement_at, size_of, sizes_of}
use Rattle.civl_tree.specs.rules.Rules.{Keeps}
use Rattle.civl_tree.proofs.Lists.{heads}
use Rattle.civl_meaning.specs.Places.{Spot, is_skipped, spot_at}
use Rattle.civl_meaning.specs.Rest.{Rest, rest_at, place_in, head_of}
use Rattle.civl_meaning.proofs.Rests.{spot_of_rest}
use Rattle.civl_meaning.proofs.Spots.{spot_stands}
use Rattle.civl_layers.specs.Layered.{IsLayered}
use Rattle.civl_yields.specs.YieldRules.{yield_rules}
use Rattle.civl_conditions.proofs.paths.Heading.{number_begins}
use Rattle.civl_meaning.specs.declared.remaining.Numbered.{Numbered}
use Rattle.civl_meaning.specs.Remaining.{rest_of}
use Rattle.civl_body.proofs.Forms.{if_size, is_if}
use Rattle.civl_goals.specs.Listed.{is_root}
use Rattle.civl_goals.proofs.Plain.{roots_are_plain}
use Rattle.civl_goal_terms.specs.inner.There.{HasStatement}

-- ---- procedures

pub few_statements : (program : Program) → IsNumbered program → (r : ℕ) (proc : Proc) → slice_get program.procs r ≡ Some proc → sizes_of proc.body < 2 ^ 32
few_statements program n r proc there =
    subst (λ (p : Proc). sizes_of p.body < 2 ^ 32) (get_or_from_slice_get program.procs r proc proc there)
    (All-get_or (λ (p : Proc). sizes_of p.body < 2 ^ 32) program.procs r proc (slice_get_within program.procs r proc there) n.statements)

-- ---- lists

pub behind_first : (items : List Numbered) → rest_of (drop 1 items) ≡ drop 1 (rest_of items)
behind_first [] = refl
behind_first (x ∷ xs) = refl

-- ---- a statement of a root

module _ (program : Program) (layered : IsLayered program) (yields : Keeps yield_rules program) (root number : ℕ) (h : HasStatement program root number) where
  pub within : root < length program.procs
  within = slice_get_within program.procs root h.proc h.there

  module _ (proc : Proc) (at : slice_get program.procs root ≡ Some proc) where
    same_proc : h.proc ≡ proc
    same_proc = same_Some h.proc proc (sym h.there ∙ at)

    here : statement_at proc.body number ≡ Some h.stmt
    here = subst (λ (p : Proc). statement_at p.body number ≡ Some h.stmt) same_proc h.is

    plain : is_skipped h.stmt ≡ false
    plain =
        let own : is_root proc ≡ true = subst (λ (p : Proc). is_root p ≡ true) same_proc h.root in
        roots_are_plain program yields root proc at own number h.stmt here

    pub small : sizes_of proc.body < 2 ^ 32
    small = few_statements program layered.numbered root proc at

    -- what is still to run from there
    module _ (items : List Numbered) (are : rest_of items ≡ rest_at proc.body number) where
      pub record First : Type 0 where
        pub head : Numbered
        pub more : List Numbered
        pub is : items ≡ head ∷ more
        pub same : head.number ≡ number
        pub stmt : head.stmt.now ≡ h.stmt

      pub first : First
      first = go items refl
        where
          go : (xs : List Numbered) → items ≡ xs → First
          go [] e = absurd (empty (sym (ap rest_of e) ∙ are ∙ (number_begins proc.body number h.stmt here).1))
            where
              empty : {A : Type 0} {x : A} {xs : List A} → [] ≡ x ∷ xs → ⊥
              empty e = cc
          go (x ∷ xs) e =
              let both = heads (x.number, x.stmt.now) (number, h.stmt) (rest_of xs) _ (sym (ap rest_of e) ∙ are ∙ (number_begins proc.body number h.stmt here).1) in
              record { head = x; more = xs; is = e; same = ap (λ (q : ℕ × Stmt). q.0) both.0; stmt = ap (λ (q : ℕ × Stmt). q.1) both.0 }

      pub some_there : 0 < length items
      some_there = omega (arith, ap length first.is)

      pub first_is : (head d : Numbered) → head ≡ get_or items 0 d → (head.number ≡ number) × (head.stmt.now ≡ h.stmt)
      first_is head d e =
          let f = first in
          let q : head ≡ f.head = e ∙ ap (λ (xs : List Numbered). get_or xs 0 d) f.is in
          (ap (λ (x : Numbered). x.number) q ∙ f.same, ap (λ (x : Numbered). x.stmt.now) q ∙ f.stmt)

      pub record Stands (head : Numbered) (next : ℕ) : Type 0 where
        pub same : head.number ≡ number
        pub stmt : statement_at proc.body head.number ≡ Some head.stmt.now
        pub spot : spot_at proc.body head.number ≡ Some (record { number = head.number; stmt = head.stmt.now; next = next })
        pub stays : is_skipped head.stmt.now ≡ false

      -- it stands there, and what comes next is the second that is still to run, or the exit
      shown : spot_at proc.body number ≡ Some (record { number = number; stmt = h.stmt; next = place_in (sizes_of proc.body) (rest_of (drop 1 items)) })
      shown =
          let b = number_begins proc.body number h.stmt here in
          let k : rest_of (drop 1 items) ≡ b.0 = behind_first items ∙ ap (drop 1) (are ∙ b.1) in
          spot_of_rest proc.body number ∙ ap (head_of (sizes_of proc.body)) b.1
          ∙ ap (λ (t : Bool). if◌then◌else◌ {A = Option Spot} t (head_of (sizes_of proc.body) b.0) (Some (record { number = number; stmt = h.stmt; next = place_in (sizes_of proc.body) b.0 }))) plain
          ∙ ap (λ (r : Rest). Some (record { number = number; stmt = h.stmt; next = place_in (sizes_of proc.body) r })) (sym k)

      pub next_within : place_in (sizes_of proc.body) (rest_of (drop 1 items)) ≤ sizes_of proc.body
      next_within = (spot_stands proc.body number (record { number = number; stmt = h.stmt; next = place_in (sizes_of proc.body) (rest_of (drop 1 items)) }) shown).next

      pub stands : (head d : Numbered) (next : ℕ) → head ≡ get_or items 0 d → next ≡ place_in (sizes_of proc.body) (rest_of (drop 1 items)) → Stands head next
      stands head d next e f =
          let own = first_is head d e in
          record {
            same = own.0;
            stmt = ap (statement_at proc.body) own.0 ∙ here ∙ ap (λ (s : Stmt). Some s) (sym own.1);
            spot = ap (spot_at proc.body) own.0 ∙ shown
                ∙ ap (λ (n : ℕ). Some (record { number = number; stmt = h.stmt; next = n })) (sym f)
                ∙ ap₂ (λ (n : ℕ) (s : Stmt). Some (record { number = n; stmt = s; next = next })) (sym own.0) (sym own.1);
            stays = ap is_skipped own.1 ∙ plain;
          }

-- ---- where branches begin

module _ (body : List Stmt) (number : ℕ) (s : Stmt) (next : ℕ) (spot : spot_at body number ≡ Some (record { number = number; stmt = s; next = next })) where
  pub inside : number + size_of s ≤ sizes_of body
  inside = (spot_stands body number (record { number = number; stmt = s; next = next }) spot).inside

  pub second_inside : (e : Expr) (a b : List Stmt) → s ≡ tree.If e a b → number + 1 + sizes_of a + sizes_of b ≤ sizes_of body
  second_inside e a b is = omega (arith, inside, if_size s e a b (is_if s e a b is))
