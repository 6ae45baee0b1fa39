-- The places at which a program breaks a rule are those at which the rule is broken.
use Rattle.std.proofs.Common.{◌≡◌, ℕ, zero, suc, ◌+◌, inl, inr, Bool, true, false, List, [], ◌∷◌, ◌++◌, Some, refl, sym, subst, arith}
use Rattle.std.specs.Prelude.{IsTrue, slice_get, if◌then◌else◌}
use Rattle.std.specs.List.{Contains, flat_map}
use Rattle.std.proofs.lemmas.List.Elements.{Contains-append_left, Contains-append_right, Contains-append_cases}
use Rattle.civl_tree.specs.declared.stmt.Stmt.{Stmt}
use Rattle.civl_tree.specs.declared.program.Proc.{Proc}
use Rattle.civl_tree.specs.declared.program.Program.{Program}
use Rattle.civl_tree.specs.declared.refusal.Refusal.{Refusal}
use Rattle.civl_tree.specs.Numbering.{header_item, global_item, init_item, invariant_item, action_item, proc_item, thread_item, no_statement, statement_at, statements_of}
use Rattle.civl_tree.specs.rules.Codes.{number_of}
use Rattle.civl_tree.specs.rules.Rules.{Rule, Place, numbers_where, statements_where, item_place, statement_places, each_place, global_places, invariant_places, action_places, proc_places, thread_places, places_of, refusal_at, refusals_of, refusals_by}
use Rattle.civl_tree.specs.rules.Broken.{Broken, InHeader, InGlobal, InInit, InInvariant, InAction, InProc, InStatement, InThread, IsBroken}
use Rattle.civl_tree.proofs.Pairs.{contains_nil, contains_here, contains_there, contains_cons, contains_one, contains_map, from_map}

abbrev at : ℕ → ℕ → Place
at item statement = record { item = item; statement = statement }

-- ---- one item

-- the place is this item as a whole, which is broken
pub record IsWhole (item : ℕ) (broken : Bool) (place : Place) : Type 0 where
  pub item_is : place.item ≡ item
  pub statement_is : place.statement ≡ no_statement
  pub broken_is : IsTrue broken

whole_placed : (item : ℕ) (broken : Bool) → IsTrue broken → Contains (item_place item broken) (at item no_statement)
whole_placed item true h = contains_here (at item no_statement) []
whole_placed item false h = cc

whole_of : (item : ℕ) (broken : Bool) (place : Place) → Contains (item_place item broken) place → IsWhole item broken place
whole_of item true place h =
    let e : at item no_statement ≡ place = contains_one (at item no_statement) place h in
    record { item_is = cc; statement_is = cc; broken_is = refl }
whole_of item false place h = absurd (contains_nil place h)

-- ---- items of one kind

module _ {A : Type 0} (f : ℕ → A → List Place) where
  each_placed : (from : ℕ) (items : List A) (k : ℕ) (item : A) (place : Place) → slice_get items k ≡ Some item → ((n : ℕ) → n ≡ from + k → Contains (f n item) place) → Contains (each_place f from items) place
  unfolding each_place
  each_placed from [] k item place g h = cc
  each_placed from (x ∷ items) zero item place g h =
      let same : item ≡ x = cc in
      Contains-append_left (f from x) (each_place f (from + 1) items) place (subst (λ y. Contains (f from y) place) same (h from (omega arith)))
  each_placed from (x ∷ items) (suc k) item place g h =
      Contains-append_right (f from x) (each_place f (from + 1) items) place (each_placed (from + 1) items k item place g (λ n e. h n (omega arith)))

  -- the place stands in the item at this place
  pub record IsIn (items : List A) (place : Place) : Type 0 where
    pub number : ℕ
    pub item : A
    pub there : slice_get items number ≡ Some item
    pub holds : Contains (f number item) place

  -- the same, where the first item has this number
  record IsFrom (from : ℕ) (items : List A) (place : Place) : Type 0 where
    number : ℕ
    item : A
    behind : ℕ
    same : number ≡ from + behind
    there : slice_get items behind ≡ Some item
    holds : Contains (f number item) place

  each_from : (from : ℕ) (items : List A) (place : Place) → Contains (each_place f from items) place → IsFrom from items place
  unfolding each_place
  each_from from [] place h = absurd (contains_nil place h)
  each_from from (x ∷ items) place h =
      elim (Contains-append_cases (f from x) (each_place f (from + 1) items) place h) [
        | inl here ↦ record { number = from; item = x; behind = 0; same = omega arith; there = refl; holds = here }
        | inr there ↦
            let found = each_from (from + 1) items place there in
            let same = found.same in
            record { number = found.number; item = found.item; behind = suc found.behind; same = omega arith; there = found.there; holds = found.holds }
      ]

  each_of : (items : List A) (place : Place) → Contains (each_place f 0 items) place → IsIn items place
  each_of items place h =
      let found = each_from 0 items place h in
      let e : found.behind ≡ found.number = let same = found.same in omega arith in
      record { number = found.number; item = found.item; there = subst (λ k. slice_get items k ≡ Some found.item) e found.there; holds = found.holds }

-- ---- a rule

module _ (rule : Rule) (program : Program) where
  abbrev from_threads : List Place
  from_threads = each_place (thread_places rule program) 0 program.threads

  abbrev from_procs : List Place
  from_procs = each_place (proc_places rule program) 0 program.procs ++ from_threads

  abbrev from_actions : List Place
  from_actions = each_place (action_places rule program) 0 program.actions ++ from_procs

  abbrev from_invariants : List Place
  from_invariants = each_place (invariant_places rule program) 0 program.invariants ++ from_actions

  abbrev from_init : List Place
  from_init = item_place (init_item program) (rule.init program) ++ from_invariants

  abbrev from_globals : List Place
  from_globals = each_place (global_places rule program) 0 program.globals ++ from_init

  to_globals : (place : Place) → Contains from_globals place → Contains (places_of rule program) place
  unfolding places_of
  to_globals place h = Contains-append_right (item_place header_item (rule.header program)) from_globals place h

  to_init : (place : Place) → Contains from_init place → Contains (places_of rule program) place
  to_init place h = to_globals place (Contains-append_right (each_place (global_places rule program) 0 program.globals) from_init place h)

  to_invariants : (place : Place) → Contains from_invariants place → Contains (places_of rule program) place
  to_invariants place h = to_init place (Contains-append_right (item_place (init_item program) (rule.init program)) from_invariants place h)

  to_actions : (place : Place) → Contains from_actions place → Contains (places_of rule program) place
  to_actions place h = to_invariants place (Contains-append_right (each_place (invariant_places rule program) 0 program.invariants) from_actions place h)

  to_procs : (place : Place) → Contains from_procs place → Contains (places_of rule program) place
  to_procs place h = to_actions place (Contains-append_right (each_place (action_places rule program) 0 program.actions) from_procs place h)

  to_threads : (place : Place) → Contains from_threads place → Contains (places_of rule program) place
  to_threads place h = to_procs place (Contains-append_right (each_place (proc_places rule program) 0 program.procs) from_threads place h)

  -- with the numbers of a place as they are told
  told : (places : List Place) (item statement i s : ℕ) → item ≡ i → statement ≡ s → Contains places (at i s) → Contains places (at item statement)
  told places item statement i s e f h = subst (λ n. Contains places (at n statement)) (sym e) (subst (λ n. Contains places (at i n)) (sym f) h)

  pub placed : (item statement : ℕ) → Broken rule program item statement → Contains (places_of rule program) (at item statement)
  unfolding places_of
  placed item statement (InHeader i s t) =
      told _ item statement header_item no_statement i s
      (Contains-append_left (item_place header_item (rule.header program)) from_globals _ (whole_placed header_item (rule.header program) t))
  placed item statement (InGlobal k g e i s t) =
      told _ item statement (global_item program k) no_statement i s
      (to_globals _ (Contains-append_left (each_place (global_places rule program) 0 program.globals) from_init _
      (each_placed (global_places rule program) 0 program.globals k g _ e (λ n d. let j : k ≡ n = omega arith in
      subst (λ x. Contains (global_places rule program x g) (at (global_item program k) no_statement)) j (whole_placed (global_item program k) (rule.global program k g) t)))))
  placed item statement (InInit i s t) =
      told _ item statement (init_item program) no_statement i s
      (to_init _ (Contains-append_left (item_place (init_item program) (rule.init program)) from_invariants _ (whole_placed (init_item program) (rule.init program) t)))
  placed item statement (InInvariant k g e i s t) =
      told _ item statement (invariant_item program k) no_statement i s
      (to_invariants _ (Contains-append_left (each_place (invariant_places rule program) 0 program.invariants) from_actions _
      (each_placed (invariant_places rule program) 0 program.invariants k g _ e (λ n d. let j : k ≡ n = omega arith in
      subst (λ x. Contains (invariant_places rule program x g) (at (invariant_item program k) no_statement)) j (whole_placed (invariant_item program k) (rule.invariant program k g) t)))))
  placed item statement (InAction k g e i s t) =
      told _ item statement (action_item program k) no_statement i s
      (to_actions _ (Contains-append_left (each_place (action_places rule program) 0 program.actions) from_procs _
      (each_placed (action_places rule program) 0 program.actions k g _ e (λ n d. let j : k ≡ n = omega arith in
      subst (λ x. Contains (action_places rule program x g) (at (action_item program k) no_statement)) j (whole_placed (action_item program k) (rule.action program k g) t)))))
  placed item statement (InProc k q e i s t) =
      told _ item statement (proc_item program k) no_statement i s
      (to_procs _ (Contains-append_left (each_place (proc_places rule program) 0 program.procs) from_threads _
      (each_placed (proc_places rule program) 0 program.procs k q _ e (λ n d. let j : k ≡ n = omega arith in
      subst (λ x. Contains (proc_places rule program x q) (at (proc_item program k) no_statement)) j
      (Contains-append_left (item_place (proc_item program k) (rule.proc program k q)) (statement_places (proc_item program k) (rule.statements program k q)) _ (whole_placed (proc_item program k) (rule.proc program k q) t))))))
  placed item statement (InStatement k q e i t) =
      told _ item statement (proc_item program k) statement i refl
      (to_procs _ (Contains-append_left (each_place (proc_places rule program) 0 program.procs) from_threads _
      (each_placed (proc_places rule program) 0 program.procs k q _ e (λ n d. let j : k ≡ n = omega arith in
      subst (λ x. Contains (proc_places rule program x q) (at (proc_item program k) statement)) j
      (Contains-append_right (item_place (proc_item program k) (rule.proc program k q)) (statement_places (proc_item program k) (rule.statements program k q)) _
      (contains_map (λ number. at (proc_item program k) number) (rule.statements program k q) statement t))))))
  placed item statement (InThread k g e i s t) =
      told _ item statement (thread_item program k) no_statement i s
      (to_threads _
      (each_placed (thread_places rule program) 0 program.threads k g _ e (λ n d. let j : k ≡ n = omega arith in
      subst (λ x. Contains (thread_places rule program x g) (at (thread_item program k) no_statement)) j (whole_placed (thread_item program k) (rule.thread program k g) t))))

  in_proc : (place : Place) → IsIn (proc_places rule program) program.procs place → Broken rule program place.item place.statement
  in_proc place found =
      elim (Contains-append_cases (item_place (proc_item program found.number) (rule.proc program found.number found.item)) (statement_places (proc_item program found.number) (rule.statements program found.number found.item)) place found.holds) [
        | inl whole ↦
            let w = whole_of (proc_item program found.number) (rule.proc program found.number found.item) place whole in
            InProc found.number found.item found.there w.item_is w.statement_is w.broken_is
        | inr inner ↦
            let m = from_map (λ number. at (proc_item program found.number) number) (rule.statements program found.number found.item) place inner in
            let same : at (proc_item program found.number) m.0 ≡ place = m.2 in
            let number : m.0 ≡ place.statement = cc in
            let item : place.item ≡ proc_item program found.number = cc in
            InStatement found.number found.item found.there item (subst (λ n. Contains (rule.statements program found.number found.item) n) number m.1)
      ]

  in_threads : (place : Place) → Contains from_threads place → Broken rule program place.item place.statement
  in_threads place h =
      let found = each_of (thread_places rule program) program.threads place h in
      let w = whole_of (thread_item program found.number) (rule.thread program found.number found.item) place found.holds in
      InThread found.number found.item found.there w.item_is w.statement_is w.broken_is

  in_procs : (place : Place) → Contains from_procs place → Broken rule program place.item place.statement
  in_procs place h =
      elim (Contains-append_cases (each_place (proc_places rule program) 0 program.procs) from_threads place h) [
        | inl here ↦ in_proc place (each_of (proc_places rule program) program.procs place here)
        | inr there ↦ in_threads place there
      ]

  in_actions : (place : Place) → Contains from_actions place → Broken rule program place.item place.statement
  in_actions place h =
      elim (Contains-append_cases (each_place (action_places rule program) 0 program.actions) from_procs place h) [
        | inl here ↦
            let found = each_of (action_places rule program) program.actions place here in
            let w = whole_of (action_item program found.number) (rule.action program found.number found.item) place found.holds in
            InAction found.number found.item found.there w.item_is w.statement_is w.broken_is
        | inr there ↦ in_procs place there
      ]

  in_invariants : (place : Place) → Contains from_invariants place → Broken rule program place.item place.statement
  in_invariants place h =
      elim (Contains-append_cases (each_place (invariant_places rule program) 0 program.invariants) from_actions place h) [
        | inl here ↦
            let found = each_of (invariant_places rule program) program.invariants place here in
            let w = whole_of (invariant_item program found.number) (rule.invariant program found.number found.item) place found.holds in
            InInvariant found.number found.item found.there w.item_is w.statement_is w.broken_is
        | inr there ↦ in_actions place there
      ]

  in_init : (place : Place) → Contains from_init place → Broken rule program place.item place.statement
  in_init place h =
      elim (Contains-append_cases (item_place (init_item program) (rule.init program)) from_invariants place h) [
        | inl here ↦ let w = whole_of (init_item program) (rule.init program) place here in InInit w.item_is w.statement_is w.broken_is
        | inr there ↦ in_invariants place there
      ]

  in_globals : (place : Place) → Contains from_globals place → Broken rule program place.item place.statement
  in_globals place h =
      elim (Contains-append_cases (each_place (global_places rule program) 0 program.globals) from_init place h) [
        | inl here ↦
            let found = each_of (global_places rule program) program.globals place here in
            let w = whole_of (global_item program found.number) (rule.global program found.number found.item) place found.holds in
            InGlobal found.number found.item found.there w.item_is w.statement_is w.broken_is
        | inr there ↦ in_init place there
      ]

  pub broken_at_place : (place : Place) → Contains (places_of rule program) place → Broken rule program place.item place.statement
  unfolding places_of
  broken_at_place place h =
      elim (Contains-append_cases (item_place header_item (rule.header program)) from_globals place h) [
        | inl here ↦ let w = whole_of header_item (rule.header program) place here in InHeader w.item_is w.statement_is w.broken_is
        | inr there ↦ in_globals place there
      ]

-- ---- several rules

flat_there : {A B : Type 0} (f : A → List B) (xs : List A) (x : A) (y : B) → Contains xs x → Contains (f x) y → Contains (flat_map f xs) y
flat_there f [] x y h k = absurd (contains_nil x h)
flat_there f (z ∷ xs) x y h k =
    elim (contains_cons z xs x h) [
      | inl e ↦ Contains-append_left (f z) (flat_map f xs) y (subst (λ w. Contains (f w) y) (sym e) k)
      | inr there ↦ Contains-append_right (f z) (flat_map f xs) y (flat_there f xs x y there k)
    ]

flat_from : {A B : Type 0} (f : A → List B) (xs : List A) (y : B) → Contains (flat_map f xs) y → (x : A) × Contains xs x × Contains (f x) y
flat_from f [] y h = absurd (contains_nil y h)
flat_from f (z ∷ xs) y h =
    elim (Contains-append_cases (f z) (flat_map f xs) y h) [
      | inl here ↦ (z, contains_here z xs, here)
      | inr there ↦ let found = flat_from f xs y there in (found.0, contains_there z xs found.0 found.1, found.2)
    ]

module _ (rules : List Rule) (program : Program) where
  -- a rule that is broken is listed
  pub listed : (refusal : Refusal) → IsBroken rules program refusal → Contains (refusals_by rules program) refusal
  listed refusal broken =
      let place = at refusal.item refusal.statement in
      let told : Contains (refusals_of broken.rule program) (refusal_at broken.rule.code place) = contains_map (refusal_at broken.rule.code) (places_of broken.rule program) place (placed broken.rule program refusal.item refusal.statement broken.broken) in
      let same : number_of broken.rule.code ≡ refusal.code = sym broken.number in
      flat_there (λ rule. refusals_of rule program) rules broken.rule refusal broken.among
      (subst (λ code. Contains (refusals_of broken.rule program) (record { code = code; item = refusal.item; statement = refusal.statement })) same told)

  -- and what is listed is broken
  pub broken_of : (refusal : Refusal) → Contains (refusals_by rules program) refusal → IsBroken rules program refusal
  broken_of refusal h =
      let found = flat_from (λ rule. refusals_of rule program) rules refusal h in
      let m = from_map (refusal_at found.0.code) (places_of found.0 program) refusal found.2 in
      let same : refusal_at found.0.code m.0 ≡ refusal = m.2 in
      let number : number_of found.0.code ≡ refusal.code = cc in
      let item : m.0.item ≡ refusal.item = cc in
      let statement : m.0.statement ≡ refusal.statement = cc in
      record {
        rule = found.0;
        among = found.1;
        number = sym number;
        broken = subst (λ n. Broken found.0 program refusal.item n) statement (subst (λ n. Broken found.0 program n m.0.statement) item (broken_at_place found.0 program m.0 m.1));
      }

-- ---- statements

-- a statement that doesn't pass is among those that are told
pub where_told : (breaks : Stmt → Bool) (from : ℕ) (stmts : List Stmt) (k : ℕ) (stmt : Stmt) (n : ℕ) → n ≡ from + k → slice_get stmts k ≡ Some stmt → IsTrue (breaks stmt) → Contains (numbers_where breaks from stmts) n
unfolding numbers_where
where_told breaks from [] k stmt n e g t = cc
where_told breaks from (s ∷ stmts) zero stmt n e g t =
    let here : breaks s ≡ true = cc in
    let same : from ≡ n = omega arith in
    rw here (subst (λ m. Contains (from ∷ numbers_where breaks (from + 1) stmts) m) same (contains_here from (numbers_where breaks (from + 1) stmts)))
where_told breaks from (s ∷ stmts) (suc k) stmt n e g t =
    Contains-append_right (if breaks s then from ∷ [] else []) (numbers_where breaks (from + 1) stmts) n (where_told breaks (from + 1) stmts k stmt n (omega arith) g t)

pub statement_told : (breaks : Stmt → Bool) (proc : Proc) (number : ℕ) (stmt : Stmt) → statement_at proc.body number ≡ Some stmt → IsTrue (breaks stmt) → Contains (statements_where breaks proc) number
statement_told breaks proc number stmt g t = where_told breaks 0 (statements_of proc.body) number stmt number (omega arith) g t
