-- Names with their sorts: which binding a name finds among those of several lists.
use Rattle.std.proofs.Common.{◌≡◌, ℕ, ◌+◌, length, Bool, true, false, ◌||◌, List, [], ◌∷◌, ◌++◌, map, refl, sym, ap, ap₂, ◌∙◌, Option, None, Some, ◌⊎◌, inl, inr}
use Rattle.std.specs.Prelude.{if◌then◌else◌}
use Rattle.std.specs.List.{list_any}
use Rattle.std.proofs.lemmas.Bool.{false≢true, or_parts}
use Rattle.std.proofs.lemmas.List.{map-append, length-append, length-map}
use Rattle.civl_tree.specs.declared.name.Name.{Name}
use Rattle.civl_tree.specs.declared.expr.Sort.{Sort}
use Rattle.civl_tree.specs.declared.program.Global.{Global}
use Rattle.civl_tree.specs.declared.program.Proc.{Proc}
use Rattle.civl_tree.specs.declared.program.Program.{Program}
use Rattle.civl_tree.specs.rules.Names.{same_name, has_name, any_twice, names_in_proc, global_names}
use Rattle.civl_tree.specs.rules.Scopes.{Binding, sort_in, bind_globals, bind_params, bind_locals, bind_proc}
use Rattle.civl_tree.proofs.Naming.{same_is, is_same, apart, twice_behind}
use Rattle.civl_tree.specs.rules.Uses.{param_sorts}
use Rattle.civl_meaning.specs.Config.{frame_sorts}

-- ---- names

-- what isn't so of any of these names isn't so of one that stands among them
pub none_of : (p : Name → Bool) (names : List Name) (name : Name) → list_any p names ≡ false → has_name names name ≡ true → p name ≡ false
none_of p [] name n h = absurd (false≢true h)
none_of p (x ∷ xs) name n h = by_first (same_name name x) refl (λ k. none_of p xs name (or_parts (p x) (list_any p xs) n).1 k) h
  where
    by_first : (b : Bool) → same_name name x ≡ b → (has_name xs name ≡ true → p name ≡ false) → (b || has_name xs name) ≡ true → p name ≡ false
    by_first true e later k = ap p (same_is name x e) ∙ (or_parts (p x) (list_any p xs) n).0
    by_first false e later k = later k

-- a name isn't among these where it is among those
pub not_both : (xs ys : List Name) (name : Name) → (has_name xs name ≡ true → has_name ys name ≡ false) → has_name ys name ≡ true → has_name xs name ≡ false
not_both xs ys name apart h = by_first (has_name xs name) refl
  where
    by_first : (b : Bool) → has_name xs name ≡ b → has_name xs name ≡ false
    by_first true e = absurd (false≢true (sym (apart e) ∙ h))
    by_first false e = e

-- ---- bindings

abbrev pub names_of : List Binding → List Name
names_of bindings = map (λ binding. binding.name) bindings

abbrev pub sorts_of : List Binding → List Sort
sorts_of bindings = map (λ binding. binding.sort) bindings

-- a name with a sort is one of the names
pub bound : (bs : List Binding) (name : Name) (s : Sort) → sort_in bs name ≡ Some s → has_name (names_of bs) name ≡ true
bound [] name s e = absurd (cc)
bound (b ∷ bs) name s e = by_first (same_name b.name name) refl (bound bs name s) e
  where
    later : (c : Bool) → has_name (names_of bs) name ≡ true → (c || has_name (names_of bs) name) ≡ true
    later true h = refl
    later false h = h

    by_first : (c : Bool) → same_name b.name name ≡ c → (sort_in bs name ≡ Some s → has_name (names_of bs) name ≡ true) → (if c then Some b.sort else sort_in bs name) ≡ Some s → (same_name name b.name || has_name (names_of bs) name) ≡ true
    by_first true q h k = ap (λ (c : Bool). c || has_name (names_of bs) name) (is_same name b.name (sym (same_is b.name name q)))
    by_first false q h k = later (same_name name b.name) (h k)

-- and what is none of the names has no sort
pub unbound : (bs : List Binding) (name : Name) → has_name (names_of bs) name ≡ false → sort_in bs name ≡ None
unbound bs name h = by_sort (sort_in bs name) refl
  where
    by_sort : (o : Option Sort) → sort_in bs name ≡ o → sort_in bs name ≡ None
    by_sort None e = e
    by_sort (Some s) e = absurd (false≢true (sym h ∙ bound bs name s e))

-- ---- among two lists

pub in_front : (bs cs : List Binding) (name : Name) (s : Sort) → sort_in bs name ≡ Some s → sort_in (bs ++ cs) name ≡ Some s
in_front [] cs name s e = absurd (cc)
in_front (b ∷ bs) cs name s e = by_first (same_name b.name name) (in_front bs cs name s) e
  where
    by_first : (c : Bool) → (sort_in bs name ≡ Some s → sort_in (bs ++ cs) name ≡ Some s) → (if c then Some b.sort else sort_in bs name) ≡ Some s → (if c then Some b.sort else sort_in (bs ++ cs) name) ≡ Some s
    by_first true h k = k
    by_first false h k = h k

pub in_back : (bs cs : List Binding) (name : Name) → sort_in bs name ≡ None → sort_in (bs ++ cs) name ≡ sort_in cs name
in_back [] cs name e = refl
in_back (b ∷ bs) cs name e = by_first (same_name b.name name) (in_back bs cs name) e
  where
    by_first : (c : Bool) → (sort_in bs name ≡ None → sort_in (bs ++ cs) name ≡ sort_in cs name) → (if c then Some b.sort else sort_in bs name) ≡ None → (if c then Some b.sort else sort_in (bs ++ cs) name) ≡ sort_in cs name
    by_first true h k = absurd (cc)
    by_first false h k = h k

pub in_either : (bs cs : List Binding) (name : Name) (s : Sort) → sort_in (bs ++ cs) name ≡ Some s → (sort_in bs name ≡ Some s) ⊎ ((sort_in bs name ≡ None) × (sort_in cs name ≡ Some s))
in_either bs cs name s e = by_front (sort_in bs name) refl
  where
    by_front : (o : Option Sort) → sort_in bs name ≡ o → (sort_in bs name ≡ Some s) ⊎ ((sort_in bs name ≡ None) × (sort_in cs name ≡ Some s))
    by_front None q = inr (q, sym (in_back bs cs name q) ∙ e)
    by_front (Some t) q = inl (q ∙ (sym (in_front bs cs name t q) ∙ e))

-- ---- lists in which no name stands twice

once : (bs cs : List Binding) → any_twice (names_of (bs ++ cs)) ≡ false → any_twice (names_of bs ++ names_of cs) ≡ false
once bs cs t = ap any_twice (sym (map-append (λ b. b.name) bs cs)) ∙ t

pub once_behind : (bs cs : List Binding) → any_twice (names_of (bs ++ cs)) ≡ false → any_twice (names_of cs) ≡ false
once_behind bs cs t = twice_behind (names_of bs) (names_of cs) (once bs cs t)

-- a name of the second list is none of the first
pub not_in_first : (bs cs : List Binding) (name : Name) (s : Sort) → any_twice (names_of (bs ++ cs)) ≡ false → sort_in cs name ≡ Some s → sort_in bs name ≡ None
not_in_first bs cs name s t e = unbound bs name (not_both (names_of bs) (names_of cs) name (apart (names_of bs) (names_of cs) name (once bs cs t)) (bound cs name s e))

-- nor the other way
pub not_in_second : (bs cs : List Binding) (name : Name) (s : Sort) → any_twice (names_of (bs ++ cs)) ≡ false → sort_in bs name ≡ Some s → sort_in cs name ≡ None
not_in_second bs cs name s t e = unbound cs name (apart (names_of bs) (names_of cs) name (once bs cs t) (bound bs name s e))

-- names that a declaration declares, none of them twice, and none of them a global's
pub record Declared (globals bs : List Binding) : Type 0 where
  pub own : any_twice (names_of bs) ≡ false
  pub new : list_any (has_name (names_of globals)) (names_of bs) ≡ false

pub no_global : (globals bs : List Binding) (name : Name) (s : Sort) → Declared globals bs → sort_in bs name ≡ Some s → sort_in globals name ≡ None
no_global globals bs name s d e = unbound globals name (none_of (has_name (names_of globals)) (names_of bs) name d.new (bound bs name s e))

pub not_declared : (globals bs : List Binding) (name : Name) (s : Sort) → Declared globals bs → sort_in globals name ≡ Some s → sort_in bs name ≡ None
not_declared globals bs name s d e = unbound bs name (not_both (names_of bs) (names_of globals) name (λ k. none_of (has_name (names_of globals)) (names_of bs) name d.new k) (bound globals name s e))

-- ---- what declarations bind

pub names_bound : {A : Type 0} (name_of : A → Name) (sort_at : A → Sort) (xs : List A) → names_of (map (λ x. record { name = name_of x; sort = sort_at x }) xs) ≡ map name_of xs
names_bound name_of sort_at [] = refl
names_bound name_of sort_at (x ∷ xs) = ap (λ (l : List Name). name_of x ∷ l) (names_bound name_of sort_at xs)

pub sorts_bound : {A : Type 0} (name_of : A → Name) (sort_at : A → Sort) (xs : List A) → sorts_of (map (λ x. record { name = name_of x; sort = sort_at x }) xs) ≡ map sort_at xs
sorts_bound name_of sort_at [] = refl
sorts_bound name_of sort_at (x ∷ xs) = ap (λ (l : List Sort). sort_at x ∷ l) (sorts_bound name_of sort_at xs)

pub joined : {B : Type 0} (f : Binding → B) (bs cs : List Binding) (xs ys : List B) → map f bs ≡ xs → map f cs ≡ ys → map f (bs ++ cs) ≡ xs ++ ys
joined {B = B} f bs cs xs ys e h = map-append f bs cs ∙ ap₂ (λ (us vs : List B). us ++ vs) e h

pub proc_names : (proc : Proc) → names_of (bind_proc proc) ≡ names_in_proc proc
proc_names proc =
    joined (λ b. b.name) (bind_params proc.params) (bind_params proc.outs ++ bind_locals proc.locals) _ _ (names_bound (λ p. p.name) (λ p. p.sort) proc.params)
    (joined (λ b. b.name) (bind_params proc.outs) (bind_locals proc.locals) _ _ (names_bound (λ p. p.name) (λ p. p.sort) proc.outs) (names_bound (λ l. l.name) (λ l. l.sort) proc.locals))

pub proc_sorts : (proc : Proc) → sorts_of (bind_proc proc) ≡ frame_sorts proc
proc_sorts proc =
    joined (λ b. b.sort) (bind_params proc.params) (bind_params proc.outs ++ bind_locals proc.locals) _ _ (sorts_bound (λ p. p.name) (λ p. p.sort) proc.params)
    (joined (λ b. b.sort) (bind_params proc.outs) (bind_locals proc.locals) _ _ (sorts_bound (λ p. p.name) (λ p. p.sort) proc.outs) (sorts_bound (λ l. l.name) (λ l. l.sort) proc.locals))

pub frame_length : (proc : Proc) → length (frame_sorts proc) ≡ length proc.params + (length proc.outs + length proc.locals)
frame_length proc =
    length-append (param_sorts proc.params) (param_sorts proc.outs ++ map (λ l. l.sort) proc.locals)
    ∙ ap₂ (λ (m n : ℕ). m + n) (length-map proc.params (λ p. p.sort))
    (length-append (param_sorts proc.outs) (map (λ l. l.sort) proc.locals) ∙ ap₂ (λ (m n : ℕ). m + n) (length-map proc.outs (λ p. p.sort)) (length-map proc.locals (λ l. l.sort)))

module _ (program : Program) where
  pub global_names_are : names_of (bind_globals program.globals) ≡ global_names program.globals
  global_names_are = names_bound (λ (g : Global). g.name) (λ (g : Global). g.sort) program.globals

  pub global_sorts_are : sorts_of (bind_globals program.globals) ≡ map (λ g. g.sort) program.globals
  global_sorts_are = sorts_bound (λ (g : Global). g.name) (λ (g : Global). g.sort) program.globals
