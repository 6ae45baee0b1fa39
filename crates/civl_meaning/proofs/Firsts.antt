-- The first thread that fails, and the failing of what was found.
use Rattle.std.proofs.Common.{◌≡◌, ℕ, ◌<◌, Bool, true, false, not, List, [], ◌∷◌, length, get_or, Option, None, Some, refl, sym, subst, arith}
use Rattle.std.specs.Prelude.{if◌then◌else◌}
use Rattle.std.specs.List.{position}
use Rattle.civl_bits.specs.declared.value.Value.{Value}
use Rattle.std.proofs.lemmas.List.Sums.{position_or_len_is}
use Rattle.std.proofs.lemmas.Bool.{lt-ltb, le-ltb}
use Rattle.civl_tree.specs.declared.program.Proc.{Proc}
use Rattle.civl_tree.specs.declared.stmt.Stmt.{Stmt, out-Stmt}
use Rattle.civl_firing.specs.declared.store.Store.{Store}
use Rattle.civl_meaning.specs.declared.config.Plain.{Plain}
use Rattle.civl_meaning.specs.declared.config.Activation.{Activation}
use Rattle.civl_meaning.specs.Places.{Spot}
use Rattle.civl_meaning.specs.inner.Left.{stmt_of}
use Rattle.civl_meaning.specs.Change.{Fails, Goes, statement_doing, spot_doing}
use Rattle.civl_meaning.specs.Failing.{fails_at}

pub first_at : {X : Type 0} (p : X → Bool) (xs : List X) (i : ℕ) (d : X) → i < length xs → ((k : ℕ) (d : X) → k < i → p (get_or xs k d) ≡ false) → p (get_or xs i d) ≡ true → position p xs ≡ Some i
first_at p xs i d h before here =
    rw (position_or_len_is p xs i d (omega arith) (λ k. before k d) (λ l. here), lt-ltb i (length xs) h) refl

pub first_none : {X : Type 0} (p : X → Bool) (xs : List X) → ((k : ℕ) (d : X) → k < length xs → p (get_or xs k d) ≡ false) → position p xs ≡ None
first_none p [] before = refl
first_none p (x ∷ xs) before =
    rw (position_or_len_is p (x ∷ xs) (length (x ∷ xs)) x (omega arith) (λ k. before k x) (λ l. absurd (omega arith)), le-ltb (length (x ∷ xs)) (length (x ∷ xs)) (omega arith)) refl

-- a false assert
pub fails_assert : (plain : Plain) (store : Store) (locals : List Value) (next : ℕ) (b : Bool) → fails_at plain store (if b then Goes locals next else Fails) ≡ not b
fails_assert plain store locals next true = refl
fails_assert plain store locals next false = refl

-- what was found at a frame's place, whatever the frame below it is: nothing
pub fails_none : (plain : Plain) (store : Store) (caller : Option Activation) (frame : Activation) (proc : Proc) (o : Option Spot) → stmt_of o ≡ None → fails_at plain store (spot_doing plain caller frame proc o) ≡ false
fails_none plain store caller frame proc None e = refl
fails_none plain store caller frame proc (Some s) e = absurd (cc)

-- a statement
pub fails_some : (plain : Plain) (store : Store) (caller : Option Activation) (frame : Activation) (proc : Proc) (o : Option Spot) (s : Stmt) (fails : Bool) → stmt_of o ≡ Some s →
    ((at next : ℕ) → fails ≡ fails_at plain store (statement_doing plain proc frame.locals at next (out-Stmt s))) → fails ≡ fails_at plain store (spot_doing plain caller frame proc o)
fails_some plain store caller frame proc None s fails e h = absurd (cc)
fails_some plain store caller frame proc (Some t) s fails e h =
    let is : t.stmt ≡ s = cc in
    subst (λ (u : Stmt). fails ≡ fails_at plain store (statement_doing plain proc frame.locals t.number t.next (out-Stmt u))) (sym is) (h t.number t.next)
