-- Gathering, in the program of a layer of a checked program.
use Rattle.std.proofs.Common.{ℕ, ◌≡◌, ◌≢◌, true, false, List, [], ◌∷◌, ◌++◌, Option, Some, None, ap, sym, subst, ◌∙◌, inl, inr, ◌⊎◌}
use Rattle.std.specs.Prelude.{All}
use Rattle.std.proofs.lemmas.List.Elements.{All-nil, All-cons, All-head, All-tail, All-append}
use Rattle.civl_tree.specs.declared.program.Program.{Program}
use Rattle.civl_firing.specs.declared.store.Store.{Store}
use Rattle.civl_meaning.specs.declared.config.Move.{Move}
use Rattle.civl_meaning.specs.declared.config.Config.{Config}
use Rattle.civl_meaning.specs.Failing.{IsMove}
use Rattle.civl_meaning.specs.Layers.{program_at}
use Rattle.civl_reduction.specs.interleavings.Systems.{Failing, System}
use Rattle.civl_reduction.specs.interleavings.Runs.{Staged, begun, goes, ends, Opens}
use Rattle.civl_reduction.specs.interleavings.Reduction.{Late}
use Rattle.civl_reduction.specs.checked.Checked.{SpawnsAreInRoots, ActionsKeepPermissions, ActionsAreMovers, IsChecked}
use Rattle.civl_reduction.specs.staged.Inside.{CheckedAreSafeInside}
use Rattle.civl_reduction.specs.gathering.Gathered.{own, FailsInside}
use Rattle.civl_reduction.proofs.gathering.Places.{early_gathered, early_stopped, late_gathered, late_stopped, late_along, others_leave, holds_along, stays_late}
use Rattle.civl_reduction.proofs.gathering.Gathering.{own_all}
use Rattle.civl_reduction.proofs.gathering.Standing.{none_inside, fails_at_once}
use Rattle.civl_reduction.specs.gathered.System.{layer_run, place_at}
use Rattle.civl_reduction.specs.gathered.Offered.{offered, AreOffered}
use Rattle.civl_reduction.specs.gathered.Laws.{IsReached, PlacesAreInside, EarlyMovesGather, EarlyMovesStop, LateMovesGather, LateMovesStop, LateThreadsStayLate, LateThreadsStep, FailuresStay, OthersLeave}
use Rattle.civl_reduction.proofs.gathered.Moving.{Kept, are_movers, starts}
use Rattle.civl_reduction.proofs.gathered.Stages.{safe_there, all_first, all_last}
use Rattle.civl_reduction.proofs.gathered.Offering.{late_steps, offered_is_move}

module _ (r : SpawnsAreInRoots) (p : ActionsKeepPermissions) (a : ActionsAreMovers) where
  module _ (program : Program) (layer : ℕ) (store : Store) (k : IsChecked program layer store) where
    abbrev L : System Config Move
    L = layer_run program layer store

    abbrev Holds : Config → Type 0
    Holds = Kept r p a program layer store k

    kept : (c : Config) → IsReached program layer store c → Holds c
    kept c x = holds_along L (place_at program layer) Holds IsMove (are_movers r p a program layer store k) x.moves L.start c x.are_moves (starts r p a program layer store k) x.runs

    kept_staged : {ms : List Move} {o : Option ℕ} {c : Config} → Staged L ms o c → All IsMove ms → Holds c
    kept_staged (begun e) v = starts r p a program layer store k
    kept_staged (goes {ms = ms} {c = c} m d g may s i) v = (are_movers r p a program layer store k).holds_on c d m (all_last ms m v) (kept_staged g (all_first ms m v)) s
    kept_staged (ends {ms = ms} {c = c} m d g may s i e) v = (are_movers r p a program layer store k).holds_on c d m (all_last ms m v) (kept_staged g (all_first ms m v)) s

    -- offered steps of a late thread, by values
    abbrev Offers : ℕ → List Move → Config → Config → Type 0
    Offers t os c d = AreOffered program layer store t os c d

    -- the step of a late thread
    abbrev Goes : Config → ℕ → Type 0
    Goes d t = IsMove (offered (program_at program layer) d t) × ((L.fails d t ≡ true) ⊎ ((e : Config) × (L.step d (offered (program_at program layer) d t) ≡ Some e)))

    goes_there : (c : Config) (t : ℕ) → Holds c → place_at program layer c t ≡ Late → Goes c t
    goes_there c t h l = (offered_is_move r p a program layer store k c t h, elim (late_steps r p a program layer store k c t h l) [ inl f ↦ inl f | inr s ↦ inr (s.0, s.1) ])

    stepped : (t : ℕ) (os : List Move) (c d : Config) → Holds c → place_at program layer c t ≡ Late → Offers t os c d → All IsMove os × Goes d t
    stepped t [] c d h l o = subst (λ (z : Config). All IsMove [] × Goes z t) o (All-nil IsMove, goes_there c t h l)
    stepped t (m ∷ os) c d h l o =
        let first : IsMove m = subst IsMove (sym o.1) (offered_is_move r p a program layer store k c t h) in
        let q = stays_late L (place_at program layer) Holds IsMove (are_movers r p a program layer store k) t c o.0 m first h (ap (λ (n : Move). n.thread) o.1) l o.2 o.3 in
        let x = stepped t os o.0 d ((are_movers r p a program layer store k).holds_on c o.0 m first h o.2) q o.4 in
        (All-cons IsMove m os first x.0, x.1)

    opened : (t : ℕ) (os : List Move) (c d : Config) → Offers t os c d → Opens L t os c d
    opened t [] c d o = o
    opened t (m ∷ os) c d o = (o.0, ap (λ (n : Move). n.thread) o.1, o.2, o.3, opened t os o.0 d o.4)

    -- a thread that fails behind a late one's steps, and one more
    stays_failed : (t u : ℕ) (os : List Move) (m : Move) (c d e : Config) → All IsMove os → IsMove m → Holds c → place_at program layer c t ≡ Late → Opens L t os c d → m.thread ≡ t → L.step d m ≡ Some e → u ≢ t → L.fails c u ≡ true → L.fails e u ≡ true
    stays_failed t u [] m c d e vs v h l o w s n f = (are_movers r p a program layer store k).fails_on c e m u v h (subst (λ (z : Config). L.step z m ≡ Some e) (sym o) s) (λ x. n (sym x ∙ w)) (subst (λ (z : ℕ). place_at program layer c z ≡ Late) (sym w) l) f
    stays_failed t u (q ∷ os) m c d e vs v h l o w s n f =
        let first = All-head IsMove q os vs in
        stays_failed t u os m o.0 d e (All-tail IsMove q os vs) v ((are_movers r p a program layer store k).holds_on c o.0 q first h o.2)
        (stays_late L (place_at program layer) Holds IsMove (are_movers r p a program layer store k) t c o.0 q first h o.1 l o.2 o.3) o.4 w s n
        ((are_movers r p a program layer store k).fails_on c o.0 q u first h o.2 (λ x. n (sym x ∙ o.1)) (subst (λ (z : ℕ). place_at program layer c z ≡ Late) (sym o.1) l) f)

    safe_behind : CheckedAreSafeInside → (ps ms : List Move) (t : ℕ) → All IsMove ps → All IsMove ms → (x : Config) → Staged L (ps ++ own (λ m. m.thread) t ms) (Some t) x → L.fails x t ≡ false
    safe_behind safe ps ms t vs ws x g = safe_there program layer store (safe program layer store k) (ps ++ own (λ m. m.thread) t ms) t x (All-append IsMove ps (own (λ m. m.thread) t ms) vs (own_all IsMove (λ m. m.thread) t ms ws)) g

    -- where it fails behind its own moves, none of them is made
    at_once : CheckedAreSafeInside → (ps ms : List Move) (t : ℕ) (c : Config) → All IsMove ps → All IsMove ms → Staged L ps None c → FailsInside L t ms c → Failing L.steps c
    at_once safe ps ms t c vs ws g f = fails_at_once L ps (own (λ m. m.thread) t ms) t c f.0 (safe_behind safe ps ms t vs ws) g f.1 f.2

    never : CheckedAreSafeInside → (ps ms : List Move) (t : ℕ) (c : Config) → All IsMove ps → All IsMove ms → Staged L ps (Some t) c → FailsInside L t ms c → ⊥
    never safe ps ms t c vs ws g f = none_inside L ps ms t c (safe_behind safe ps ms t vs ws) g f

  pub places_are_inside : PlacesAreInside
  places_are_inside program layer store c t k = (are_movers r p a program layer store k).inside_is c t

  pub others_stay_put : OthersLeave
  others_stay_put program layer store c e t ms k x v run = others_leave (layer_run program layer store) (place_at program layer) (Kept r p a program layer store k) IsMove (are_movers r p a program layer store k) t ms c e v (kept program layer store k c x) run

  pub early_moves_gather : EarlyMovesGather
  early_moves_gather program layer store c d e ms m k x vs v early s =
      early_gathered (layer_run program layer store) (place_at program layer) (Kept r p a program layer store k) IsMove (are_movers r p a program layer store k) ms m c d e vs v (kept program layer store k c x) early s

  pub late_moves_gather : LateMovesGather
  late_moves_gather program layer store c d e t ms m k x vs v late pass w s =
      late_gathered (layer_run program layer store) (place_at program layer) (Kept r p a program layer store k) IsMove (are_movers r p a program layer store k) t ms m c d e vs v (kept program layer store k c x) late pass w s

  pub late_threads_stay_late : LateThreadsStayLate
  late_threads_stay_late program layer store c e t ms k x vs late pass =
      late_along (layer_run program layer store) (place_at program layer) (Kept r p a program layer store k) IsMove (are_movers r p a program layer store k) t ms c e vs (kept program layer store k c x) late pass

  pub late_threads_step : LateThreadsStep
  late_threads_step program layer store c d t os k x late o = let z = stepped program layer store k t os c d (kept program layer store k c x) late o in (z.0, z.1.0, z.1.1)

  pub failures_stay : FailuresStay
  failures_stay program layer store c d e t u os m k x vs v late o w s n f = stays_failed program layer store k t u os m c d e vs v (kept program layer store k c x) late (opened program layer store k t os c d o) w s n f

  module _ (safe : CheckedAreSafeInside) where
    pub early_moves_stop : EarlyMovesStop
    early_moves_stop program layer store ps ms c e t k vs ws g early f =
        elim (early_stopped (layer_run program layer store) (place_at program layer) (Kept r p a program layer store k) IsMove (are_movers r p a program layer store k) ms t c e ws (kept_staged program layer store k g vs) early f) [
          | inl x ↦ inl (at_once program layer store k safe ps ms t c vs ws g x)
          | inr x ↦ inr x
        ]

    pub late_moves_stop : LateMovesStop
    late_moves_stop program layer store ps ms c e t k vs ws g late pass f =
        elim (late_stopped (layer_run program layer store) (place_at program layer) (Kept r p a program layer store k) IsMove (are_movers r p a program layer store k) t ms c e ws (kept_staged program layer store k g vs) late pass f) [
          | inl x ↦ absurd (never program layer store k safe ps ms t c vs ws g x)
          | inr x ↦ x
        ]
