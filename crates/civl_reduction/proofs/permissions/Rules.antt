-- What the rules on linear locals say of a procedure's statements, each with what is held before it.
use Rattle.std.proofs.Common.{◌≡◌, ℕ, zero, suc, ◌+◌, Bool, true, false, ◌||◌, List, [], ◌∷◌, ◌++◌, length, refl, subst, arith, Some, slice_get}
use Rattle.std.specs.Prelude.{if◌then◌else◌}
use Rattle.std.specs.List.{Contains, list_any}
use Rattle.std.proofs.lemmas.Bool.{or_parts, false_from_ne_true}
use Rattle.std.proofs.lemmas.List.Elements.{Contains-append_left, Contains-append_right}
use Rattle.civl_tree.specs.declared.stmt.Stmt.{Stmt}
use Rattle.civl_tree.specs.declared.program.Proc.{Proc}
use Rattle.civl_tree.specs.declared.program.Program.{Program}
use Rattle.civl_tree.specs.Numbering.{proc_item, statement_at, statements_of, exit_number}
use Rattle.civl_tree.specs.rules.Names.{any_twice, names_in_proc}
use Rattle.civl_tree.specs.rules.Twice.{stmt_twice}
use Rattle.civl_tree.specs.rules.Arity.{stmt_arity}
use Rattle.civl_tree.specs.rules.Rules.{Rule, Keeps}
use Rattle.civl_tree.specs.rules.Typing.{typing_rules, twice_rule, arity_rule}
use Rattle.civl_tree.specs.rules.Broken.{InStatement}
use Rattle.civl_tree.proofs.Pairs.{contains_here}
use Rattle.civl_tree.proofs.Kept.{unbroken, proc_kept, statement_kept, twice_among, arity_among}
use Rattle.civl_names.specs.walks.Walks.{numbers_with}
use Rattle.civl_linear.specs.Held.{traced_proc}
use Rattle.civl_linear.specs.Places.{stmt_not_held, stmt_held_twice, stmt_assigned, not_returned}
use Rattle.civl_linear.specs.LinearRules.{not_held_rule, held_twice_rule, lost_rule, assigned_rule, linear_rules, is_lost, lost_numbers}

-- a statement that doesn't pass, with its note, is among those that are told
with_told : {A : Type 0} (breaks : Stmt → A → Bool) (from : ℕ) (stmts : List Stmt) (notes : List A) (k : ℕ) (stmt : Stmt) (note : A) (n : ℕ) → n ≡ from + k → slice_get stmts k ≡ Some stmt → slice_get notes k ≡ Some note → breaks stmt note ≡ true → Contains (numbers_with breaks from stmts notes) n
unfolding numbers_with
with_told breaks from [] notes k stmt note n e g h t = cc
with_told breaks from (s ∷ stmts) [] k stmt note n e g h t = cc
with_told breaks from (s ∷ stmts) (a ∷ notes) zero stmt note n e g h t =
    let here : breaks s a ≡ true = cc in
    let same : from ≡ n = omega arith in
    rw here (subst (λ m. Contains (from ∷ numbers_with breaks (from + 1) stmts notes) m) same (contains_here from (numbers_with breaks (from + 1) stmts notes)))
with_told breaks from (s ∷ stmts) (a ∷ notes) (suc k) stmt note n e g h t =
    Contains-append_right (if breaks s a then from ∷ [] else []) (numbers_with breaks (from + 1) stmts notes) n (with_told breaks (from + 1) stmts notes k stmt note n (omega arith) g h t)

-- what isn't told of any passes
none_told : {A : Type 0} (breaks : Stmt → A → Bool) (stmts : List Stmt) (notes : List A) → ((n : ℕ) → Contains (numbers_with breaks 0 stmts notes) n → ⊥) → (k : ℕ) (stmt : Stmt) (note : A) → slice_get stmts k ≡ Some stmt → slice_get notes k ≡ Some note → breaks stmt note ≡ false
none_told breaks stmts notes none k stmt note g h = false_from_ne_true (breaks stmt note) (λ t. none k (with_told breaks 0 stmts notes k stmt note k (omega arith) g h t))

there : {A : Type 0} (xs : List A) (n : ℕ) → suc n ≡ length xs → (x : A) × (slice_get xs 0 ≡ Some x)
there [] n e = absurd (omega (arith, e))
there (x ∷ xs) n e = (x, refl)

-- no loss among as many statements
none_lost : (from : ℕ) (stmts : List Stmt) (losses : List Bool) → length losses ≡ length stmts → ((n : ℕ) → Contains (numbers_with is_lost from stmts losses) n → ⊥) → list_any (λ b. b) losses ≡ false
unfolding numbers_with
none_lost from stmts [] e none = refl
none_lost from [] (b ∷ losses) e none = absurd (omega (arith, e))
none_lost from (s ∷ stmts) (b ∷ losses) e none = go b none (none_lost (from + 1) stmts losses (omega (arith, e)))
  where
    go : (c : Bool) → ((n : ℕ) → Contains ((if c then from ∷ [] else []) ++ numbers_with is_lost (from + 1) stmts losses) n → ⊥)
        → (((n : ℕ) → Contains (numbers_with is_lost (from + 1) stmts losses) n → ⊥) → list_any (λ b. b) losses ≡ false) → (c || list_any (λ b. b) losses) ≡ false
    go true h ih = absurd (h from (contains_here from (numbers_with is_lost (from + 1) stmts losses)))
    go false h ih = ih h

-- a statement of a procedure, before which this is held
pub record Facts (program : Program) (proc : Proc) (s : Stmt) (held : List Bool) : Type 0 where
  pub args : stmt_not_held program proc (names_in_proc proc) s held ≡ false
  pub once : stmt_held_twice program (names_in_proc proc) s held ≡ false
  pub targets : stmt_assigned program proc s ≡ false
  pub results : stmt_twice s ≡ false
  pub arity : stmt_arity program s ≡ false

module _ (program : Program) (typed : Keeps typing_rules program) (linear : Keeps linear_rules program) (i : ℕ) (proc : Proc) (at : slice_get program.procs i ≡ Some proc) where
  none_of : (rule : Rule) → Contains linear_rules rule → (n : ℕ) → Contains (rule.statements program i proc) n → ⊥
  none_of rule among n c = unbroken linear_rules program linear rule among (proc_item program i) n (InStatement i proc at refl c)

  -- its targets are as the rules want them
  pub right_targets : (n : ℕ) (s : Stmt) → statement_at proc.body n ≡ Some s → stmt_assigned program proc s ≡ false
  right_targets n s here = statement_kept linear_rules program linear assigned_rule (3, omega arith, refl) (stmt_assigned program proc) i proc at refl n s here

  pub facts : (n : ℕ) (s : Stmt) (held : List Bool) → statement_at proc.body n ≡ Some s → slice_get (traced_proc program proc).befores n ≡ Some held → Facts program proc s held
  facts n s held here before = record {
    args = none_told (stmt_not_held program proc (names_in_proc proc)) (statements_of proc.body) (traced_proc program proc).befores (none_of not_held_rule (0, omega arith, refl)) n s held here before;
    once = none_told (stmt_held_twice program (names_in_proc proc)) (statements_of proc.body) (traced_proc program proc).befores (none_of held_twice_rule (1, omega arith, refl)) n s held here before;
    targets = right_targets n s here;
    results = statement_kept typing_rules program typed twice_rule twice_among stmt_twice i proc at refl n s here;
    arity = statement_kept typing_rules program typed arity_rule arity_among (stmt_arity program) i proc at refl n s here;
  }

  lost_none : (n : ℕ) → Contains (lost_numbers program proc) n → ⊥
  lost_none = none_of lost_rule (2, omega arith, refl)

  -- no loop loses what was held at its head
  pub no_loss : length (traced_proc program proc).losses ≡ length (statements_of proc.body) → list_any (λ b. b) (traced_proc program proc).losses ≡ false
  no_loss e = none_lost 0 (statements_of proc.body) (traced_proc program proc).losses e (λ n c. lost_none n (Contains-append_left (numbers_with is_lost 0 (statements_of proc.body) (traced_proc program proc).losses) _ n c))

  -- nothing is owed at the exit
  pub returned_all : not_returned proc (traced_proc program proc).after ≡ false
  returned_all = false_from_ne_true (not_returned proc (traced_proc program proc).after) (λ e. lost_none (exit_number proc.body) (told e))
    where
      told : not_returned proc (traced_proc program proc).after ≡ true → Contains (lost_numbers program proc) (exit_number proc.body)
      told e =
          Contains-append_right (numbers_with is_lost 0 (statements_of proc.body) (traced_proc program proc).losses) _ (exit_number proc.body)
          (rw e (contains_here (exit_number proc.body) []))

  -- its names stand once
  pub names_once : any_twice (names_in_proc proc) ≡ false
  names_once = (or_parts _ _ (or_parts _ _ (proc_kept typing_rules program typed twice_rule twice_among i proc at)).1).0
