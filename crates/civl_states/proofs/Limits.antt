-- What the rules say of the sorts and the numbers of a program's declarations.
use Rattle.std.specs.Prelude.{map, slice_get, nat_lt, IsTrue, All}
use Rattle.std.specs.List.{list_any}
use Rattle.std.proofs.Common.{◌≡◌, ◌∙◌, ℕ, zero, suc, ◌+◌, ◌≤◌, Bool, true, false, List, [], ◌∷◌, ◌++◌, length, refl, sym, arith, Some, inl, inr}
use Rattle.std.proofs.lemmas.Bool.{false≢true, not-false, or_parts, lt-ltb, cases_lt}
use Rattle.std.proofs.lemmas.List.Elements.{All-nil, All-cons, All-append}
use Rattle.civl_tree.specs.declared.expr.Sort.{Sort}
use Rattle.civl_tree.specs.declared.action.Action.{Action}
use Rattle.civl_tree.specs.declared.action.Choice.{Choice}
use Rattle.civl_tree.specs.declared.action.Param.{Param}
use Rattle.civl_tree.specs.declared.program.Global.{Global}
use Rattle.civl_tree.specs.declared.program.Local.{Local}
use Rattle.civl_tree.specs.declared.program.Proc.{Proc}
use Rattle.civl_tree.specs.declared.program.Program.{Program}
use Rattle.civl_tree.specs.rules.Width.{sort_width_fits, param_width, choice_width, local_width, action_width, proc_width}
use Rattle.civl_tree.specs.rules.Index.{sort_index, action_index, proc_index}
use Rattle.civl_tree.specs.rules.Rules.{Keeps}
use Rattle.civl_tree.specs.rules.Typing.{typing_rules, count_rule, width_rule, index_rule}
use Rattle.civl_tree.proofs.Kept.{global_kept, action_kept, proc_kept, count_among, width_among, index_among}
use Rattle.civl_tree.proofs.Parts.{any_split}
use Rattle.civl_firing.specs.values.Values.{is_sort}
use Rattle.civl_firing.proofs.SortLimits.{limits}

-- ---- lists

-- sorts within the language's limits
abbrev pub AreSorts : List Sort → Type 0
AreSorts sorts = All (λ s. IsTrue (is_sort s)) sorts

pub sorts_append : (ss ts : List Sort) → AreSorts ss → AreSorts ts → AreSorts (ss ++ ts)
sorts_append ss ts p q = All-append (λ s. IsTrue (is_sort s)) ss ts p q

-- each of them is within the limits, where none has a width or an index that isn't
each_sort : {A : Type 0} (sort_of : A → Sort) (wide : A → Bool) → ((a : A) → wide a ≡ false → sort_width_fits (sort_of a) ≡ true)
    → (xs : List A) → list_any wide xs ≡ false → list_any (λ a. sort_index (sort_of a)) xs ≡ false → AreSorts (map sort_of xs)
each_sort sort_of wide fits [] e f = All-nil (λ s. IsTrue (is_sort s))
each_sort sort_of wide fits (x ∷ xs) e f =
    let c = or_parts (wide x) (list_any wide xs) e in
    let d = or_parts (sort_index (sort_of x)) (list_any (λ a. sort_index (sort_of a)) xs) f in
    All-cons (λ s. IsTrue (is_sort s)) (sort_of x) (map sort_of xs) (limits (sort_of x) (fits x c.0) d.0) (each_sort sort_of wide fits xs c.1 d.1)

-- the same where it is said of each place
placed_sort : {A : Type 0} (sort_of : A → Sort) (xs : List A) → ((place : ℕ) (a : A) → slice_get xs place ≡ Some a → is_sort (sort_of a) ≡ true) → AreSorts (map sort_of xs)
placed_sort sort_of [] f = All-nil (λ s. IsTrue (is_sort s))
placed_sort sort_of (x ∷ xs) f = All-cons (λ s. IsTrue (is_sort s)) (sort_of x) (map sort_of xs) (f 0 x refl) (placed_sort sort_of xs (λ place a at. f (suc place) a at))

-- no element stands at this place
short : {A : Type 0} (xs : List A) (limit : ℕ) → ((a : A) → slice_get xs limit ≡ Some a → ⊥) → length xs ≤ limit
short [] limit f = omega arith
short (x ∷ xs) zero f = absurd (f x refl)
short (x ∷ xs) (suc limit) f = omega (arith, short xs limit f)

not_over : (limit n : ℕ) → nat_lt limit n ≡ false → n ≤ limit
not_over limit n e = elim (cases_lt limit n) [ inl l ↦ absurd (false≢true (sym e ∙ lt-ltb limit n l)) | inr g ↦ g ]

-- ---- a program that keeps the rules

module _ (program : Program) (keeps : Keeps typing_rules program) where
  pub globals_few : length program.globals ≤ 64
  globals_few = short program.globals 64 (λ g at. false≢true (sym (global_kept typing_rules program keeps count_rule count_among 64 g at) ∙ refl))

  wide_global : (place : ℕ) (g : Global) → slice_get program.globals place ≡ Some g → is_sort g.sort ≡ true
  wide_global place g at =
      limits g.sort (not-false (sort_width_fits g.sort) (or_parts _ _ (global_kept typing_rules program keeps width_rule width_among place g at)).0)
      (global_kept typing_rules program keeps index_rule index_among place g at)

  pub global_sorts_are : AreSorts (map (λ g. g.sort) program.globals)
  global_sorts_are = placed_sort (λ (g : Global). g.sort) program.globals wide_global

  wide_param : (p : Param) → param_width program p ≡ false → sort_width_fits p.sort ≡ true
  wide_param p e = not-false (sort_width_fits p.sort) (or_parts _ _ e).0

  -- ---- an action

  module _ (place : ℕ) (a : Action) (at : slice_get program.actions place ≡ Some a) where
    wide : action_width program a ≡ false
    wide = action_kept typing_rules program keeps width_rule width_among place a at

    indexed : action_index program a ≡ false
    indexed = action_kept typing_rules program keeps index_rule index_among place a at

    pub action_few : length a.params + length a.outs + length a.choices ≤ 32
    action_few = not_over 32 _ (or_parts _ _ (action_kept typing_rules program keeps count_rule count_among place a at)).1

    pub param_sorts_are : AreSorts (map (λ p. p.sort) a.params)
    param_sorts_are =
        each_sort (λ (p : Param). p.sort) (param_width program) wide_param a.params
        (any_split (param_width program) a.params a.outs (or_parts _ _ wide).0).0 (any_split (λ (p : Param). sort_index p.sort) a.params a.outs (or_parts _ _ indexed).0).0

    pub out_sorts_are : AreSorts (map (λ p. p.sort) a.outs)
    out_sorts_are =
        each_sort (λ (p : Param). p.sort) (param_width program) wide_param a.outs
        (any_split (param_width program) a.params a.outs (or_parts _ _ wide).0).1 (any_split (λ (p : Param). sort_index p.sort) a.params a.outs (or_parts _ _ indexed).0).1

    pub choice_sorts_are : AreSorts (map (λ c. c.sort) a.choices)
    choice_sorts_are =
        each_sort (λ (c : Choice). c.sort) choice_width (λ c e. not-false (sort_width_fits c.sort) e) a.choices
        (or_parts _ _ (or_parts _ _ wide).1).0 (or_parts _ _ (or_parts _ _ indexed).1).0

  -- ---- a procedure

  module _ (place : ℕ) (q : Proc) (at : slice_get program.procs place ≡ Some q) where
    wide_proc : proc_width program q ≡ false
    wide_proc = proc_kept typing_rules program keeps width_rule width_among place q at

    indexed_proc : proc_index program q ≡ false
    indexed_proc = proc_kept typing_rules program keeps index_rule index_among place q at

    pub proc_few : length q.params + length q.outs + length q.locals ≤ 32
    proc_few = not_over 32 _ (or_parts _ _ (or_parts _ _ (proc_kept typing_rules program keeps count_rule count_among place q at)).1).0

    pub proc_param_sorts_are : AreSorts (map (λ p. p.sort) q.params)
    proc_param_sorts_are =
        each_sort (λ (p : Param). p.sort) (param_width program) wide_param q.params
        (any_split (param_width program) q.params q.outs (or_parts _ _ wide_proc).0).0 (any_split (λ (p : Param). sort_index p.sort) q.params q.outs (or_parts _ _ indexed_proc).0).0

    pub proc_out_sorts_are : AreSorts (map (λ p. p.sort) q.outs)
    proc_out_sorts_are =
        each_sort (λ (p : Param). p.sort) (param_width program) wide_param q.outs
        (any_split (param_width program) q.params q.outs (or_parts _ _ wide_proc).0).1 (any_split (λ (p : Param). sort_index p.sort) q.params q.outs (or_parts _ _ indexed_proc).0).1

    pub local_sorts_are : AreSorts (map (λ l. l.sort) q.locals)
    local_sorts_are =
        each_sort (λ (l : Local). l.sort) (local_width program) (λ l e. not-false (sort_width_fits l.sort) (or_parts _ _ e).0) q.locals
        (or_parts _ _ (or_parts _ _ wide_proc).1).0 (or_parts _ _ (or_parts _ _ indexed_proc).1).0
