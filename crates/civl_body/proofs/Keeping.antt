-- Which terms statements leave as they were.
use Rattle.std.specs.Prelude.{slice_get, map, filter, not, ◌&&◌, if◌then◌else◌}
use Rattle.std.proofs.Common.{◌≡◌, ◌∙◌, ℕ, zero, suc, Bool, true, false, ◌||◌, List, [], ◌∷◌, ◌++◌, length, refl, sym, ap, subst, arith, Some}
use Rattle.std.proofs.lemmas.Bool.{false≢true, or_parts, or_left, or_right}
use Rattle.std.proofs.lemmas.List.{length-map}
use Rattle.std.proofs.lemmas.Option.{none-some, slice_get_within, same_Some}
use Rattle.std.proofs.lemmas.Slice.Eq.{bytes_eq-Decides}
use Rattle.civl_tree.specs.declared.name.Name.{Name}
use Rattle.civl_tree.specs.declared.expr.Sort.{Sort}
use Rattle.civl_tree.specs.declared.action.Param.{Param}
use Rattle.civl_tree.specs.declared.stmt.Stmt.{Stmt, out-Stmt}
use Rattle.civl_tree.specs.declared.stmt.Stmt.TheOpen as stmt
use Rattle.civl_tree.specs.declared.program.Proc.{Proc}
use Rattle.civl_tree.specs.declared.program.Program.{Program}
use Rattle.civl_tree.specs.Numbering.{inner_of, statements_of, statement_at}
use Rattle.civl_tree.specs.rules.Names.{same_name, has_name, global_names, names_in_proc}
use Rattle.civl_tree.specs.rules.Rules.{Keeps}
use Rattle.civl_tree.proofs.Kept.{statement_kept}
use Rattle.civl_tree.proofs.Naming.{bytes_same, has_first, has_second}
use Rattle.civl_tree.proofs.Lists.{get_there}
use Rattle.civl_meaning.specs.Layers.{program_at}
use Rattle.civl_linear.specs.LinearRules.{assigned_rule, linear_rules}
use Rattle.civl_linear.specs.Places.{is_param, any_misgiven, form_assigned, stmt_assigned}
use Rattle.civl_terms.specs.declared.node.Node.{Node}
use Rattle.civl_actions.specs.Scopes.{AreOf}
use Rattle.civl_actions.specs.Actions.{LeavesOthers}
use Rattle.civl_actions.proofs.Rules.{has_same}
use Rattle.civl_actions.proofs.Nodes.{are_long}
use Rattle.civl_conditions.specs.Weights.{layer_written}
use Rattle.civl_states.specs.Notes.{IsProcIn}
use Rattle.civl_moves.specs.declared.sweep.Sweep.{Sweep}
use Rattle.civl_moves.specs.Branches.{KeepsSame}
use Rattle.civl_body.specs.Weights.{written, may_change, Leaves}

-- ---- names

less : (a b : Bool) → (a ≡ true → b ≡ true) → b ≡ false → a ≡ false
less true b f e = absurd (false≢true (sym e ∙ f refl))
less false b f e = refl

less_and : (a b p : Bool) → (a ≡ true → b ≡ true) → (b && not p) ≡ false → (a && not p) ≡ false
less_and false b p f e = refl
less_and true true p f e = e
less_and true false p f e = absurd (false≢true (f refl))

-- the only name of a list
pub one_name : (x n : Name) → has_name (x ∷ []) n ≡ true → n.bytes ≡ x.bytes
one_name x n e = by (same_name n x) refl e
  where
    by : (b : Bool) → same_name n x ≡ b → (b || false) ≡ true → n.bytes ≡ x.bytes
    by true q h = (bytes_eq-Decides n.bytes x.bytes).0 q
    by false q h = absurd (false≢true h)

-- names that pass a test which tells names by their bytes
filtered : (p : Name → Bool) → ((m n : Name) → m.bytes ≡ n.bytes → p m ≡ p n) → (xs : List Name) (n : Name) → has_name xs n ≡ true → p n ≡ true → has_name (filter p xs) n ≡ true
filtered p same [] n h t = absurd (false≢true h)
filtered p same (x ∷ xs) n h t = by_name (same_name n x) refl h (filtered p same xs n)
  where
    kept : (b : Bool) → b ≡ true → n.bytes ≡ x.bytes → has_name (if b then x ∷ filter p xs else filter p xs) n ≡ true
    kept true e q = or_left (same_name n x) (has_name (filter p xs) n) (bytes_same n x q)
    kept false e q = absurd (false≢true e)

    other : (b : Bool) → has_name (filter p xs) n ≡ true → has_name (if b then x ∷ filter p xs else filter p xs) n ≡ true
    other true e = or_right (same_name n x) (has_name (filter p xs) n) e
    other false e = e

    by_name : (b : Bool) → same_name n x ≡ b → (b || has_name xs n) ≡ true → (has_name xs n ≡ true → p n ≡ true → has_name (filter p xs) n ≡ true) → has_name (filter p (x ∷ xs)) n ≡ true
    by_name true q e f = let bytes = (bytes_eq-Decides n.bytes x.bytes).0 q in kept (p x) (sym (same n x bytes) ∙ t) bytes
    by_name false q e f = other (p x) (f e t)

-- a name of a list stands in it
stands_there : (names : List Name) (place : ℕ) (n : Name) → slice_get names place ≡ Some n → has_name names n ≡ true
stands_there [] place n e = absurd (none-some n e)
stands_there (x ∷ names) zero n e = or_left (same_name n x) (has_name names n) (bytes_same n x (same x n e))
  where
    same : (a b : Name) → Some a ≡ Some b → b.bytes ≡ a.bytes
    same a b q = let s : a ≡ b = cc in ap (λ (m : Name). m.bytes) (sym s)
stands_there (x ∷ names) (suc place) n e = or_right (same_name n x) (has_name names n) (stands_there names place n e)

-- ---- sweeps

module _ (program : Program) (proc : Proc) where
  pub leaves_same : (names : List Name) (s t : Sweep) → t.globals ≡ s.globals → t.locals ≡ s.locals → Leaves program proc names s t
  leaves_same names s t g l = record { globals = λ place name at missing. ap (λ (ids : List ℕ). slice_get ids place) g; locals = λ place name at missing. ap (λ (ids : List ℕ). slice_get ids place) l }

  pub leaves_then : (names : List Name) (s t u : Sweep) → Leaves program proc names s t → Leaves program proc names t u → Leaves program proc names s u
  leaves_then names s t u h k = record {
    globals = λ place name at missing. k.globals place name at missing ∙ h.globals place name at missing;
    locals = λ place name at missing. k.locals place name at missing ∙ h.locals place name at missing;
  }

  pub leaves_more : (few many : List Name) (s t : Sweep) → ((n : Name) → has_name few n ≡ true → has_name many n ≡ true) → Leaves program proc few s t → Leaves program proc many s t
  leaves_more few many s t f h = record {
    globals = λ place name at missing. h.globals place name at (less (has_name few name) (has_name many name) (f name) missing);
    locals = λ place name at missing. h.locals place name at (less_and (has_name few name) (has_name many name) (is_param proc name) (f name) missing);
  }

  -- what is written among globals, and among outputs and locals
  pub leaves_written : (names gs ls : List Name) (s t : Sweep) → ((place : ℕ) (n : Name) → slice_get (global_names program.globals) place ≡ Some n → has_name gs n ≡ true → has_name names n ≡ true)
      → ((n : Name) → has_name ls n ≡ true → (has_name names n ≡ true) × (is_param proc n ≡ false)) → LeavesOthers (global_names program.globals) gs s.globals t.globals → LeavesOthers (names_in_proc proc) ls s.locals t.locals → Leaves program proc names s t
  leaves_written names gs ls s t f k g l = record {
    globals = λ place name at missing. g place name at (less (has_name gs name) (has_name names name) (f place name at) missing);
    locals = λ place name at missing. l place name at (by name missing (has_name ls name) refl);
  }
    where
      changes : (a b : Bool) → a ≡ true → b ≡ false → (a && not b) ≡ true
      changes true false p q = refl
      changes true true p q = absurd (false≢true (sym q))
      changes false b p q = absurd (false≢true p)

      by : (name : Name) → may_change proc names name ≡ false → (b : Bool) → has_name ls name ≡ b → has_name ls name ≡ false
      by name missing true e = let both = k name e in absurd (false≢true (sym missing ∙ changes (has_name names name) (is_param proc name) both.0 both.1))
      by name missing false e = e

  -- behind both branches
  pub in_range : {A : Type 0} (ns : List Node) (name_of : A → Name) (xs : List A) (sort_at : A → Sort) (ids : List ℕ) (place : ℕ) (n : Name) → AreOf ns ids (map sort_at xs) → slice_get (map name_of xs) place ≡ Some n → (id : ℕ) × (slice_get ids place ≡ Some id)
  in_range ns name_of xs sort_at ids place n h e =
      let l = slice_get_within (map name_of xs) place n e in
      let a = length-map xs name_of in
      let b = length-map xs sort_at in
      let c = are_long ns ids (map sort_at xs) h in
      get_there ids place (omega (arith, l, a, b, c))

  pub both_leave : (before first second after : List ℕ) (place id : ℕ) → slice_get before place ≡ Some id → slice_get first place ≡ slice_get before place → slice_get second place ≡ slice_get before place → KeepsSame first second after → slice_get after place ≡ slice_get before place
  both_leave before first second after place id e f g k = k place id (f ∙ e) (g ∙ e) ∙ sym e

-- ---- statements

module _ (program : Program) (layer : ℕ) where
  pub written_first : (xs ys : List Stmt) (n : Name) → has_name (written program layer xs) n ≡ true → has_name (written program layer (xs ++ ys)) n ≡ true
  written_first [] ys n e = absurd (false≢true e)
  written_first (x ∷ xs) ys n e = in_either (layer_written (program_at program layer) (out-Stmt x)) (written program layer xs) (written program layer (xs ++ ys)) (written_first xs ys n) e
    where
      in_either : (us bs cs : List Name) → (has_name bs n ≡ true → has_name cs n ≡ true) → has_name (us ++ bs) n ≡ true → has_name (us ++ cs) n ≡ true
      in_either [] bs cs f q = f q
      in_either (u ∷ us) bs cs f q = by (same_name n u) (in_either us bs cs f) q
        where
          by : (b : Bool) → (has_name (us ++ bs) n ≡ true → has_name (us ++ cs) n ≡ true) → (b || has_name (us ++ bs) n) ≡ true → (b || has_name (us ++ cs) n) ≡ true
          by true g r = refl
          by false g r = g r

  pub written_second : (xs ys : List Stmt) (n : Name) → has_name (written program layer ys) n ≡ true → has_name (written program layer (xs ++ ys)) n ≡ true
  written_second [] ys n e = e
  written_second (x ∷ xs) ys n e = has_second (layer_written (program_at program layer) (out-Stmt x)) (written program layer (xs ++ ys)) n (written_second xs ys n e)

  -- a statement's own names
  pub own_written : (s : Stmt) (d : stmt.Stmt-F Stmt) (n : Name) → out-Stmt s ≡ d → has_name (layer_written (program_at program layer) d) n ≡ true → has_name (written program layer (s ∷ inner_of s)) n ≡ true
  own_written s d n o e =
      has_first (layer_written (program_at program layer) (out-Stmt s)) (written program layer (inner_of s)) n (ap (λ (x : stmt.Stmt-F Stmt). has_name (layer_written (program_at program layer) x) n) o ∙ e)

  -- one of some statements, with those in it
  pub item_written : (ss : List Stmt) (i : ℕ) (s : Stmt) (n : Name) → slice_get ss i ≡ Some s → has_name (written program layer (s ∷ inner_of s)) n ≡ true → has_name (written program layer (statements_of ss)) n ≡ true
  item_written [] i s n e h = absurd (none-some s e)
  item_written (x ∷ ss) zero s n e h = written_first (x ∷ inner_of x) (statements_of ss) n (subst (λ (y : Stmt). has_name (written program layer (y ∷ inner_of y)) n ≡ true) (same_Some s x (sym e)) h)
  item_written (x ∷ ss) (suc i) s n e h = written_second (x ∷ inner_of x) (statements_of ss) n (item_written ss i s n e h)

-- ---- the rule on targets

pub targets_right : (program : Program) → Keeps linear_rules program → (proc : Proc) → IsProcIn program proc → (number : ℕ) (s : Stmt) (d : stmt.Stmt-F Stmt) → statement_at proc.body number ≡ Some s → out-Stmt s ≡ d → form_assigned program proc d ≡ false
targets_right program linear proc there number s d at o =
    ap (form_assigned program proc) (sym o) ∙ statement_kept linear_rules program linear assigned_rule (3, omega arith, refl) (stmt_assigned program proc) there.0 proc there.1 refl number s at

pub no_params : (proc : Proc) (outs : List Param) (rs : List Name) → length rs ≡ length outs → any_misgiven proc outs rs ≡ false → (n : Name) → has_name rs n ≡ true → is_param proc n ≡ false
no_params proc [] [] l h n e = absurd (false≢true e)
no_params proc [] (r ∷ rs) l h n e = absurd (omega (arith, l))
no_params proc (o ∷ outs) [] l h n e = absurd (omega (arith, l))
no_params proc (o ∷ outs) (r ∷ rs) l h n e =
    let parts = or_parts _ (any_misgiven proc outs rs) h in
    let own = (or_parts (is_param proc r) _ parts.0).0 in
    by (same_name n r) refl e own (no_params proc outs rs (omega (arith, l)) parts.1 n)
  where
    by : (b : Bool) → same_name n r ≡ b → (b || has_name rs n) ≡ true → is_param proc r ≡ false → (has_name rs n ≡ true → is_param proc n ≡ false) → is_param proc n ≡ false
    by true q e own f = has_same _ n r ((bytes_eq-Decides n.bytes r.bytes).0 q) ∙ own
    by false q e own f = f e

pub not_param : (proc : Proc) (x n : Name) → is_param proc x ≡ false → n.bytes ≡ x.bytes → is_param proc n ≡ false
not_param proc x n e q = has_same _ n x q ∙ e

pub updated_there : (globals names : List Name) (place : ℕ) (n : Name) → slice_get globals place ≡ Some n → has_name names n ≡ true → has_name (filter (has_name globals) names) n ≡ true
updated_there globals names place n at e = filtered (has_name globals) (λ a b q. has_same globals a b q) names n e (stands_there globals place n at)
