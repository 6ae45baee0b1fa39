-- The names of conditions and of their variables end no line, where a text can spell the program.
use Rattle.std.specs.Prelude.{map, slice_get, ◌==◌, IsTrue, All, codes, decimal}
use Rattle.std.specs.Option.{option_map_or}
use Rattle.std.specs.List.{list_all}
use Rattle.std.proofs.Common.{◌≡◌, ℕ, Bool, true, List, [], ◌∷◌, ◌++◌, refl, Option, None, Some}
use Rattle.std.proofs.lemmas.Bool.{and_parts}
use Rattle.std.proofs.lemmas.List.Elements.{All-nil, All-cons}
use Rattle.civl_tree.specs.declared.name.Name.{Name}
use Rattle.civl_tree.specs.declared.expr.Sort.{Sort}
use Rattle.civl_tree.specs.declared.action.Action.{Action}
use Rattle.civl_tree.specs.declared.program.Proc.{Proc}
use Rattle.civl_tree.specs.declared.program.Program.{Program}
use Rattle.civl_tree.specs.SpellingDomain.{allows_name, allows_expr, allows_global, allows_invariant, allows_param, allows_out, allows_choice, allows_local, allows_rank_of, allows_action, allows_proc, allows_program}
use Rattle.civl_tree.proofs.Lists.{all_get}
use Rattle.civl_conditions.specs.declared.condition.Condition.{Condition}
use Rattle.civl_conditions.specs.declared.condition.Condition.TheVariants.{Start, Keep, Pair, Fire, Path, Block, Act}
use Rattle.civl_conditions.specs.declared.condition.Part.{Part}
use Rattle.civl_conditions.specs.declared.condition.Part.TheVariants as part
use Rattle.civl_conditions.specs.declared.condition.Target.{Target}
use Rattle.civl_conditions.specs.declared.condition.Target.TheVariants as target
use Rattle.civl_conditions.specs.declared.condition.Variable.{Variable}
use Rattle.civl_conditions.specs.Names.{action_text, proc_text, part_text, step_text, cut_text, target_text, name_text}
use Rattle.civl_conditions.specs.Variables.{variables, variable}
use Rattle.civl_verdicts.proofs.findings.Each.{HoldsOfAll, each_variable}
use Rattle.civl_verdicts.proofs.reports.Scanning.{IsClean, clean_by, joined, decimal_clean, name_clean}

-- a name that begins with `K` and ends no line
pub record IsNamed (text : List ℕ) : Type 0 where
  pub rest : List ℕ
  pub is : text ≡ 75 ∷ rest
  pub clean : IsClean rest

abbrev IsCleanVariable : Variable → Type 0
IsCleanVariable v = IsClean v.name.bytes

-- from the names of declarations to their variables
named : {A : Type 0} (p : A → Bool) (name : A → Name) (sort : A → Sort) → ((x : A) → p x ≡ true → IsTrue (allows_name (name x))) → (front : List ℕ) → IsClean front → (xs : List A) → list_all p xs ≡ true
    → All IsCleanVariable (map (λ x. variable front (name x) (sort x)) xs)
named p name sort allowed front f [] h = All-nil IsCleanVariable
named p name sort allowed front f (x ∷ xs) h =
    let q = and_parts (p x) (list_all p xs) h in
    All-cons IsCleanVariable (variable front (name x) (sort x)) _ (joined f (name_clean (name x).bytes (allowed x q.0))) (named p name sort allowed front f xs q.1)

-- and to what is said of each of them
named_each : {A : Type 0} (p : A → Bool) (name : A → Name) (sort : A → Sort) → ((x : A) → p x ≡ true → IsTrue (allows_name (name x))) → (front : List ℕ) → IsClean front → (xs : List A) → list_all p xs ≡ true
    → All (λ x. IsCleanVariable (variable front (name x) (sort x))) xs
named_each p name sort allowed front f [] h = All-nil (λ x. IsCleanVariable (variable front (name x) (sort x)))
named_each p name sort allowed front f (x ∷ xs) h =
    let q = and_parts (p x) (list_all p xs) h in
    All-cons (λ y. IsCleanVariable (variable front (name y) (sort y))) x xs (joined f (name_clean (name x).bytes (allowed x q.0))) (named_each p name sort allowed front f xs q.1)

module _ (program : Program) (written : IsTrue (allows_program program)) where
  abbrev new : Bool
  new = program.version == 2

  record Parts : Type 0 where
    globals : list_all allows_global program.globals ≡ true
    actions : list_all (allows_action new) program.actions ≡ true
    procs : list_all (allows_proc new) program.procs ≡ true

  parts : Parts
  parts =
      let a = and_parts (list_all allows_global program.globals) _ written in
      let b = and_parts (allows_expr new program.init) _ a.1 in
      let c = and_parts (list_all (allows_invariant new) program.invariants) _ b.1 in
      let d = and_parts (list_all (allows_action new) program.actions) _ c.1 in
      record { globals = a.0; actions = d.0; procs = (and_parts (list_all (allows_proc new) program.procs) _ d.1).0 }

  -- ---- actions and procedures

  record OfAction (a : Action) : Type 0 where
    name : IsTrue (allows_name a.name)
    params : list_all allows_param a.params ≡ true
    outs : list_all allows_out a.outs ≡ true
    choices : list_all (allows_choice new) a.choices ≡ true

  of_action : (x : ℕ) (a : Action) → slice_get program.actions x ≡ Some a → OfAction a
  of_action x a at =
      let p = and_parts (allows_name a.name) _ (all_get (allows_action new) program.actions x a parts.actions at) in
      let q = and_parts (list_all allows_param a.params) _ p.1 in
      let r = and_parts (list_all allows_out a.outs) _ q.1 in
      record { name = p.0; params = q.0; outs = r.0; choices = (and_parts (list_all (allows_choice new) a.choices) _ r.1).0 }

  record OfProc (proc : Proc) : Type 0 where
    name : IsTrue (allows_name proc.name)
    params : list_all allows_param proc.params ≡ true
    outs : list_all allows_out proc.outs ≡ true
    locals : list_all allows_local proc.locals ≡ true

  of_proc : (q : ℕ) (proc : Proc) → slice_get program.procs q ≡ Some proc → OfProc proc
  of_proc q proc at =
      let p = and_parts (allows_name proc.name) _ (all_get (allows_proc new) program.procs q proc parts.procs at) in
      let r = and_parts (list_all allows_param proc.params) _ p.1 in
      let s = and_parts (list_all allows_out proc.outs) _ r.1 in
      let t = and_parts (allows_rank_of new proc.refines) _ s.1 in
      record { name = p.0; params = r.0; outs = s.0; locals = (and_parts (list_all allows_local proc.locals) _ t.1).0 }

  -- ---- names of conditions

  action_clean : (x : ℕ) → IsClean (action_text program x)
  action_clean x = by (slice_get program.actions x) refl
    where
      by : (o : Option Action) → slice_get program.actions x ≡ o → IsClean (option_map_or (λ a. a.name.bytes) o [])
      by None e = clean_by [] refl
      by (Some a) e = name_clean a.name.bytes (of_action x a e).name

  proc_clean : (q : ℕ) → IsClean (proc_text program q)
  proc_clean q = by (slice_get program.procs q) refl
    where
      by : (o : Option Proc) → slice_get program.procs q ≡ o → IsClean (option_map_or (λ p. p.name.bytes) o [])
      by None e = clean_by [] refl
      by (Some proc) e = name_clean proc.name.bytes (of_proc q proc e).name

  part_clean : (p : Part) → IsClean (part_text p)
  part_clean part.Gate = clean_by (codes "gate") refl
  part_clean part.Invariant = clean_by (codes "invariant") refl
  part_clean part.Once = clean_by (codes "once") refl
  part_clean part.Stutter = clean_by (codes "stutter") refl
  part_clean part.Perform = clean_by (codes "perform") refl
  part_clean part.Rank = clean_by (codes "rank") refl

  step_clean : (step : ℕ) → IsClean (step_text step)
  step_clean step = joined (joined (clean_by (codes " step ") refl) (decimal_clean step)) (clean_by (codes " ") refl)

  cut_clean : (q c : ℕ) → IsClean (cut_text program q c)
  cut_clean q c = joined (joined (proc_clean q) (clean_by (codes " from ") refl)) (decimal_clean c)

  target_clean : (t : Target) → IsClean (target_text program t)
  target_clean (target.Invariant i) = joined (clean_by (codes " invariant ") refl) (decimal_clean i)
  target_clean (target.Yield r y) = joined (joined (joined (clean_by (codes " yield ") refl) (proc_clean r)) (clean_by (codes " ") refl)) (decimal_clean y)

  -- behind the `K`
  begun : (front : List ℕ) (step : ℕ) → IsClean front → IsClean (front ++ step_text step)
  begun front step f = joined f (step_clean step)

  pub name_named : (c : Condition) → IsNamed (name_text program c)
  unfolding name_text
  name_named (Start step i) = record { rest = _; is = refl; clean = joined (joined (begun (codes "1") step (clean_by (codes "1") refl)) (clean_by (codes "invariant ") refl)) (decimal_clean i) }
  name_named (Keep step x) = record { rest = _; is = refl; clean = joined (begun (codes "2") step (clean_by (codes "2") refl)) (action_clean x) }
  name_named (Pair number step x y) = record {
    rest = _;
    is = refl;
    clean = joined (joined (joined (begun (decimal number) step (decimal_clean number)) (action_clean x)) (clean_by (codes " ") refl)) (action_clean y);
  }
  name_named (Fire step x) = record { rest = _; is = refl; clean = joined (begun (codes "8") step (clean_by (codes "8") refl)) (action_clean x) }
  name_named (Path p step q c) = record { rest = _; is = refl; clean = joined (begun (codes "9 " ++ part_text p) step (joined (clean_by (codes "9 ") refl) (part_clean p))) (cut_clean q c) }
  name_named (Block step q c t) = record { rest = _; is = refl; clean = joined (joined (begun (codes "10") step (clean_by (codes "10") refl)) (cut_clean q c)) (target_clean t) }
  name_named (Act step x t) = record { rest = _; is = refl; clean = joined (joined (begun (codes "11") step (clean_by (codes "11") refl)) (action_clean x)) (target_clean t) }

  -- ---- names of variables

  all_clean : HoldsOfAll program IsClean IsCleanVariable
  all_clean = record {
    none = clean_by [] refl;
    old = clean_by (codes "old.") refl;
    first = clean_by (codes "X.") refl;
    second = clean_by (codes "Y.") refl;
    other = clean_by (codes "other.") refl;
    call = λ n. joined (joined (clean_by (codes "call") refl) (decimal_clean n)) (clean_by (codes ".") refl);
    globals = λ front f. named_each allows_global (λ g. g.name) (λ g. g.sort) (λ g h. h) front f program.globals parts.globals;
    params = λ front f x a at. named allows_param (λ p. p.name) (λ p. p.sort) (λ p h. (and_parts _ (allows_name p.name) h).1) front f a.params (of_action x a at).params;
    choices = λ front f x a at. named (allows_choice new) (λ c. c.name) (λ c. c.sort) (λ c h. (and_parts (allows_name c.name) _ h).0) front f a.choices (of_action x a at).choices;
    inputs = λ front f q proc at. named allows_param (λ p. p.name) (λ p. p.sort) (λ p h. (and_parts _ (allows_name p.name) h).1) front f proc.params (of_proc q proc at).params;
    outs = λ front f q proc at. named allows_out (λ p. p.name) (λ p. p.sort) (λ p h. (and_parts _ (allows_name p.name) h).1) front f proc.outs (of_proc q proc at).outs;
    locals = λ front f q proc at. named allows_local (λ l. l.name) (λ l. l.sort) (λ l h. h) front f proc.locals (of_proc q proc at).locals;
    done = clean_by (codes "done") refl;
    old_done = clean_by (codes "old.done") refl;
    other_done = clean_by (codes "other.done") refl;
  }

  pub variables_clean : (c : Condition) → All (λ (v : Variable). IsClean v.name.bytes) (variables program c)
  variables_clean c = each_variable program IsClean IsCleanVariable all_clean c
