-- Block runs over the program's own configurations are block runs of the system that reduces.
use Rattle.std.proofs.Common.{subst, ℕ, ◌≡◌, Bool, true, false, List, [], ◌∷◌, ◌++◌, map, Option, Some, refl, slice_get, ap, sym, ◌∙◌}
use Rattle.std.specs.Prelude.{All}
use Rattle.std.proofs.lemmas.List.{map-append}
use Rattle.std.proofs.lemmas.List.Elements.{All-nil, All-head, All-tail, All-cons}
use Rattle.civl_tree.specs.declared.program.Program.{Program}
use Rattle.civl_firing.specs.declared.store.Store.{Store}
use Rattle.civl_meaning.specs.declared.config.Move.{Move}
use Rattle.civl_meaning.specs.declared.config.Running.{Running}
use Rattle.civl_meaning.specs.declared.config.Config.{Config}
use Rattle.civl_meaning.specs.Failing.{IsMove}
use Rattle.civl_reduction.specs.interleavings.Systems.{System}
use Rattle.civl_reduction.specs.interleavings.Runs.{BlocksTo, opened, Staged, begun, goes, ends}
use Rattle.civl_reduction.specs.interleavings.Threads as threads
use Rattle.civl_reduction.specs.exchanges.Interleavings.{Chosen, as_config, as_move}
use Rattle.civl_reduction.specs.blocks.Challenged.{challenged}
use Rattle.civl_reduction.specs.blocks.Reduces.{plain_move, layer_system, SafeInside}
use Rattle.civl_reduction.specs.gathered.System.{layer_run}
use Rattle.civl_reduction.proofs.gathered.Moving.{step_up, inside_same, fails_same}

pub all_first : (ms : List Move) (m : Move) → All IsMove (ms ++ m ∷ []) → All IsMove ms
all_first [] m v = All-nil IsMove
all_first (n ∷ ms) m v = All-cons IsMove n ms (All-head IsMove n (ms ++ m ∷ []) v) (all_first ms m (All-tail IsMove n (ms ++ m ∷ []) v))

pub all_last : (ms : List Move) (m : Move) → All IsMove (ms ++ m ∷ []) → IsMove m
all_last [] m v = All-head IsMove m [] v
all_last (n ∷ ms) m v = all_last ms m (All-tail IsMove n (ms ++ m ∷ []) v)

module _ (program : Program) (layer : ℕ) (store : Store) where
  abbrev T : System (threads.Config Store Running) (threads.Move Chosen)
  T = layer_system program layer store (challenged program layer store)

  abbrev L : System Config Move
  L = layer_run program layer store

  abbrev Raised : List Move → Option ℕ → Config → Type 0
  Raised ms o c = (raising : List (threads.Move Chosen)) × (map plain_move raising ≡ ms) × Staged T raising o (as_config c)

  one_more : (ns : List (threads.Move Chosen)) (ms : List Move) (m : Move) (v : IsMove m) → map plain_move ns ≡ ms → map plain_move (ns ++ (as_move m v) ∷ []) ≡ ms ++ m ∷ []
  one_more ns ms m v e = map-append plain_move ns ((as_move m v) ∷ []) ∙ ap (λ (l : List Move). l ++ m ∷ []) e

  inside_up : (d : Config) (t : ℕ) (b : Bool) → L.inside d t ≡ b → T.inside (as_config d) t ≡ b
  inside_up d t b i = sym (inside_same program layer store (slice_get d.threads t)) ∙ i

  pub raised : {ms : List Move} {o : Option ℕ} {c : Config} → Staged L ms o c → All IsMove ms → Raised ms o c
  raised (begun e) v = ([], refl, begun e)
  raised (goes {ms = ms} {c = c} m d g may s i) v =
      let u = all_last ms m v in
      let x = raised g (all_first ms m v) in
      (x.0 ++ (as_move m u) ∷ [], one_more x.0 ms m u x.1, goes (as_move m u) (as_config d) x.2 may (step_up program layer store c d m u s) (inside_up d m.thread true i))
  raised (ends {ms = ms} {c = c} m d g may s i e) v =
      let u = all_last ms m v in
      let x = raised g (all_first ms m v) in (
        x.0 ++ (as_move m u) ∷ [],
        one_more x.0 ms m u x.1,
        ends (as_move m u) (as_config d) x.2 may (step_up program layer store c d m u s) (inside_up d m.thread false i) (ap (challenged program layer store) (one_more x.0 ms m u x.1) ∙ e),
      )

  -- so the thread of an open block doesn't fail
  pub safe_there : SafeInside program layer store (challenged program layer store)
      → (ms : List Move) (t : ℕ) (c : Config) → All IsMove ms → Staged L ms (Some t) c → L.fails c t ≡ false
  safe_there safe ms t c v g = let x = raised g v in fails_same program layer store c.store (slice_get c.threads t) ∙ safe x.0 t (as_config c) x.2

  -- and so is a whole block run
  pub blocks_raised : (ms : List Move) (o p : Option ℕ) (c d : Config) → All IsMove ms → BlocksTo L o ms c p d
      → (raising : List (threads.Move Chosen)) × (map plain_move raising ≡ ms) × BlocksTo T o raising (as_config c) p (as_config d)
  blocks_raised [] o p c d v b = ([], refl, (b.0, ap as_config b.1))
  blocks_raised (m ∷ ms) o p c d v b =
      let u = All-head IsMove m ms v in
      let x = blocks_raised ms (opened (L.inside b.0 m.thread) m.thread) p b.0 d (All-tail IsMove m ms v) b.3 in (
        (as_move m u) ∷ x.0,
        ap (λ (l : List Move). m ∷ l) x.1,
        (
          as_config b.0,
          step_up program layer store c b.0 m u b.1,
          b.2,
          subst (λ (i : Bool). BlocksTo T (opened i m.thread) x.0 (as_config b.0) p (as_config d)) (inside_same program layer store (slice_get b.0.threads m.thread)) x.2,
        ),
      )
