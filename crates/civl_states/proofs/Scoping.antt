-- Names that stand for terms of their sorts: those of declarations one behind the other, and those of notes.
use Rattle.std.specs.Prelude.{map, if◌then◌else◌}
use Rattle.std.specs.Str.{bytes_eq}
use Rattle.std.proofs.Common.{◌≡◌, ◌∙◌, ℕ, Bool, true, false, ◌||◌, List, [], ◌∷◌, ◌++◌, refl, sym, ap₂, subst, Some}
use Rattle.std.proofs.lemmas.Bool.{or_parts, or_left, or_right}
use Rattle.std.proofs.lemmas.List.{append-nil, map-append}
use Rattle.std.proofs.lemmas.Slice.Eq.{bytes_eq-Decides}
use mathlib.Core.List.{map-map}
use Rattle.civl_tree.specs.declared.name.Name.{Name}
use Rattle.civl_tree.specs.declared.expr.Sort.{Sort}
use Rattle.civl_tree.specs.declared.action.Param.{Param}
use Rattle.civl_tree.specs.declared.program.Global.{Global}
use Rattle.civl_tree.specs.declared.program.Local.{Local}
use Rattle.civl_tree.specs.declared.program.Proc.{Proc}
use Rattle.civl_tree.specs.declared.program.Program.{Program}
use Rattle.civl_tree.specs.rules.Names.{same_name, has_name, any_twice, global_names, param_names, names_in_proc}
use Rattle.civl_tree.specs.rules.Scopes.{Binding, sort_in, bind_globals, bind_params, bind_locals, bind_proc}
use Rattle.civl_tree.specs.rules.Rules.{Keeps}
use Rattle.civl_tree.specs.rules.Typing.{typing_rules, twice_rule}
use Rattle.civl_tree.proofs.Kept.{proc_kept, twice_among}
use Rattle.civl_tree.proofs.Lists.{heads}
use Rattle.civl_tree.proofs.Naming.{bytes_same, has_first}
use Rattle.civl_terms.specs.declared.node.Node.{Node}
use Rattle.civl_terms.specs.Graphs.{sort_at}
use Rattle.civl_actions.specs.Scopes.{AreOf}
use Rattle.civl_actions.proofs.Rules.{apart}
use Rattle.civl_actions.proofs.Scoping.{Found, nothing_found, found_by}
use Rattle.civl_states.specs.Notes.{IsProcIn}

abbrev pub binding_names : List Binding → List Name
binding_names bs = map (λ b. b.name) bs

abbrev pub binding_sorts : List Binding → List Sort
binding_sorts bs = map (λ b. b.sort) bs

found_more : (ns : List Node) (b : Binding) (names : List Name) (i : ℕ) (ids : List ℕ) (bindings : List Binding) → sort_at ns i ≡ Some b.sort → Found ns names ids bindings → Found ns (b.name ∷ names) (i ∷ ids) (b ∷ bindings)
found_more ns b names i ids bindings h f name s e = found_by ns b.name names i ids b.sort bindings h f name s (bytes_eq b.name.bytes name.bytes) refl e

-- the names of some declarations, before others
pub found_all : (ns : List Node) (bs : List Binding) (ids : List ℕ) (names : List Name) (others : List ℕ) (bindings : List Binding) →
    AreOf ns ids (binding_sorts bs) → Found ns names others bindings → Found ns (binding_names bs ++ names) (ids ++ others) (bs ++ bindings)
found_all ns [] [] names others bindings h f = f
found_all ns [] (i ∷ ids) names others bindings h f = absurd (cc)
found_all ns (b ∷ bs) [] names others bindings h f = absurd (cc)
found_all ns (b ∷ bs) (i ∷ ids) names others bindings h f =
    let p = heads (sort_at ns i) (Some b.sort) (map (sort_at ns) ids) (map (λ (s : Sort). Some s) (binding_sorts bs)) h in
    found_more ns b (binding_names bs ++ names) i (ids ++ others) (bs ++ bindings) p.0 (found_all ns bs ids names others bindings p.1 f)

-- all names
pub found_whole : (ns : List Node) (bs : List Binding) (ids : List ℕ) → AreOf ns ids (binding_sorts bs) → Found ns (binding_names bs) ids bs
found_whole ns bs ids h =
    let f = found_all ns bs ids [] [] [] h (nothing_found ns [] []) in
    let g = subst (λ (xs : List Name). Found ns xs (ids ++ []) (bs ++ [])) (append-nil (binding_names bs)) f in
    let k = subst (λ (is : List ℕ). Found ns (binding_names bs) is (bs ++ [])) (append-nil ids) g in
    subst (λ (cs : List Binding). Found ns (binding_names bs) ids cs) (append-nil bs) k

-- a name that is bound is one of the names
pub bound : (bs : List Binding) (name : Name) (s : Sort) → sort_in bs name ≡ Some s → has_name (binding_names bs) name ≡ true
bound [] name s e = absurd (cc)
bound (b ∷ bs) name s e = by (same_name b.name name) refl e (bound bs name s)
  where
    turned : (c : Bool) → same_name b.name name ≡ c → c ≡ true → same_name name b.name ≡ true
    turned c q t = bytes_same name b.name (sym ((bytes_eq-Decides b.name.bytes name.bytes).0 (q ∙ t)))

    by : (c : Bool) → same_name b.name name ≡ c → (if c then Some b.sort else sort_in bs name) ≡ Some s → (sort_in bs name ≡ Some s → has_name (binding_names bs) name ≡ true)
        → (same_name name b.name || has_name (binding_names bs) name) ≡ true
    by true q k r = or_left (same_name name b.name) (has_name (binding_names bs) name) (turned true q refl)
    by false q k r = or_right (same_name name b.name) (has_name (binding_names bs) name) (r k)

-- ---- names of declarations

module _ (proc : Proc) where
  -- those of a procedure
  pub proc_bound_names : binding_names (bind_proc proc) ≡ names_in_proc proc
  proc_bound_names =
      map-append (λ (b : Binding). b.name) (bind_params proc.params) (bind_params proc.outs ++ bind_locals proc.locals)
      ∙ ap₂ (λ (xs ys : List Name). xs ++ ys) (map-map (λ (b : Binding). b.name) (λ (p : Param). record { name = p.name; sort = p.sort }) proc.params)
      (map-append (λ (b : Binding). b.name) (bind_params proc.outs) (bind_locals proc.locals)
      ∙ ap₂ (λ (xs ys : List Name). xs ++ ys) (map-map (λ (b : Binding). b.name) (λ (p : Param). record { name = p.name; sort = p.sort }) proc.outs)
      (map-map (λ (b : Binding). b.name) (λ (l : Local). record { name = l.name; sort = l.sort }) proc.locals))

  pub proc_bound_sorts : binding_sorts (bind_proc proc) ≡ map (λ p. p.sort) proc.params ++ (map (λ p. p.sort) proc.outs ++ map (λ l. l.sort) proc.locals)
  proc_bound_sorts =
      map-append (λ (b : Binding). b.sort) (bind_params proc.params) (bind_params proc.outs ++ bind_locals proc.locals)
      ∙ ap₂ (λ (xs ys : List Sort). xs ++ ys) (map-map (λ (b : Binding). b.sort) (λ (p : Param). record { name = p.name; sort = p.sort }) proc.params)
      (map-append (λ (b : Binding). b.sort) (bind_params proc.outs) (bind_locals proc.locals)
      ∙ ap₂ (λ (xs ys : List Sort). xs ++ ys) (map-map (λ (b : Binding). b.sort) (λ (p : Param). record { name = p.name; sort = p.sort }) proc.outs)
      (map-map (λ (b : Binding). b.sort) (λ (l : Local). record { name = l.name; sort = l.sort }) proc.locals))

pub global_bound_names : (gs : List Global) → binding_names (bind_globals gs) ≡ global_names gs
global_bound_names gs = map-map (λ (b : Binding). b.name) (λ (g : Global). record { name = g.name; sort = g.sort }) gs

pub global_bound_sorts : (gs : List Global) → binding_sorts (bind_globals gs) ≡ map (λ g. g.sort) gs
global_bound_sorts gs = map-map (λ (b : Binding). b.sort) (λ (g : Global). record { name = g.name; sort = g.sort }) gs

pub param_bound_names : (ps : List Param) → binding_names (bind_params ps) ≡ param_names ps
param_bound_names ps = map-map (λ (b : Binding). b.name) (λ (p : Param). record { name = p.name; sort = p.sort }) ps

pub param_bound_sorts : (ps : List Param) → binding_sorts (bind_params ps) ≡ map (λ p. p.sort) ps
param_bound_sorts ps = map-map (λ (b : Binding). b.sort) (λ (p : Param). record { name = p.name; sort = p.sort }) ps

-- ---- a procedure of a checked program

pub names_once : (program : Program) → Keeps typing_rules program → (proc : Proc) → IsProcIn program proc → any_twice (names_in_proc proc) ≡ false
names_once program keeps proc there = (or_parts _ _ (or_parts _ _ (proc_kept typing_rules program keeps twice_rule twice_among there.0 proc there.1)).1).0

-- an output has the name of no parameter
pub out_past_params : (proc : Proc) (x : Name) → any_twice (names_in_proc proc) ≡ false → has_name (param_names proc.outs) x ≡ true → has_name (param_names proc.params) x ≡ false
out_past_params proc x once h = apart (param_names proc.params) (param_names proc.outs ++ map (λ (l : Local). l.name) proc.locals) x once (has_first (param_names proc.outs) (map (λ (l : Local). l.name) proc.locals) x h)
