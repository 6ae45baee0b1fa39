-- At a yield no thread fails: behind blocks without a step the block of its next step opens.
use Rattle.std.proofs.Common.{◌≡◌, ℕ, ◌+◌, Bool, true, false, ◌∷◌, map, Option, None, Some, refl, sym, ap, ◌∙◌, subst, inl, inr}
use Rattle.std.specs.Prelude.{slice_get, is_some, if◌then◌else◌}
use Rattle.std.proofs.lemmas.Bool.{true≢false}
use Rattle.civl_tree.specs.declared.program.Proc.{Proc}
use Rattle.civl_tree.specs.declared.program.Program.{Program}
use Rattle.civl_tree.specs.declared.stmt.Stmt.{Stmt, out-Stmt}
use Rattle.civl_tree.specs.Numbering.{sizes_of}
use Rattle.civl_firing.specs.declared.store.Store.{Store}
use Rattle.civl_meaning.specs.declared.config.Activation.{Activation}
use Rattle.civl_meaning.specs.declared.config.Running.{Running}
use Rattle.civl_meaning.specs.declared.config.Config as config
use Rattle.civl_meaning.specs.Places.{Spot, is_skipped, spot_at}
use Rattle.civl_meaning.specs.Rest.{Rest, place_in, head_of}
use Rattle.civl_meaning.specs.Failing.{thread_fails}
use Rattle.civl_meaning.specs.Layers.{program_at}
use Rattle.civl_meaning.specs.Config.{ThreadIsSorted, IsStacked}
use Rattle.civl_meaning.proofs.Rests.{spot_of_rest}
use Rattle.civl_soundness.proofs.Fitting.{all_at}
use Rattle.civl_conditions.specs.paths.Paths.{Progress}
use Rattle.civl_conditions.specs.paths.Ends.{cut_number}
use Rattle.civl_reduction.proofs.permissions.Staying.{IsKept}
use Rattle.civl_reduction.specs.interleavings.Runs.{ends}
use Rattle.civl_reduction.specs.interleavings.Threads.{fails_in}
use Rattle.civl_reduction.proofs.exchanges.Agreeing.{fails_agree}
use Rattle.civl_reduction.specs.checked.Checked.{ActionsKeepPermissions}
use Rattle.civl_reduction.specs.blocks.Blocks.{at_yield, frame_of_layer, rest_of, block_in, inside}
use Rattle.civl_reduction.specs.blocks.Reduces.{plain_move, plain_config, layer_threads}
use Rattle.civl_reduction.specs.staged.Stages.{StagesAreRuns}
use Rattle.civl_reduction.specs.open_blocks.Following.{layer_head}
use Rattle.civl_reduction.specs.open_blocks.Open.{IsTopmost}
use Rattle.civl_reduction.specs.blocks.Shadow.{Shadowed, shadowed}
use Rattle.civl_reduction.specs.blocks.Challenged.{is_challenged, challenged}
use Rattle.civl_reduction.proofs.staged.Pausing.Cutting.{Topmost, topmost}
use Rattle.civl_reduction.proofs.staged.Pausing.Apart.{run_is_kept}
use Rattle.civl_reduction.specs.staged.Calm.{AllIsCalm}
use Rattle.civl_reduction.proofs.staged.Calm.Outside.{thread_of}
use Rattle.civl_reduction.specs.staged.Opened.{IsReached}
use Rattle.civl_reduction.proofs.staged.Opened.Concluding.{sound}
use Rattle.civl_reduction.proofs.staged.Opened.Stepping.{same_layer}
use Rattle.civl_reduction.proofs.staged.Chains.Gliding.{skips_head}
use Rattle.civl_reduction.proofs.staged.Chains.Waiting.{WaitsAt}
use Rattle.civl_reduction.specs.staged.Inside.{StagesAreBeside}
use Rattle.civl_reduction.specs.simulation.Between.{BetweenAreSafe}
use Rattle.civl_reduction.proofs.simulation.Between.Safe.{head_fails_not, fails_there, open_is_safe}
use Rattle.civl_reduction.proofs.staged.Opened.Beginning.{nothing_said}
use Rattle.civl_reduction.proofs.staged.Chains.Quiet.{rest_is, opened}
use Rattle.civl_reduction.proofs.staged.Chains.Chaining.{ChainEnds, chain_ends}
use Rattle.civl_reduction.proofs.staged.Inside.Beside.{unchallenged}

module _ (keep : ActionsKeepPermissions) (program : Program) (layer : ℕ) (store : Store) (s : Shadowed) (t : ℕ) (f : Proc × Activation) (r : IsReached program layer store s.config)
    (thread : Running) (there : slice_get s.config.threads t ≡ Some thread) (framed : frame_of_layer program (layer + 1) thread ≡ Some f) where
  abbrev Safe : Type 0
  Safe = thread_fails (program_at program layer) s.config.store thread ≡ false

  top : Topmost program (layer + 1) thread.state f
  top = topmost program (layer + 1) thread.state f framed

  s_kept : IsKept (program_at program layer) s.config
  s_kept = run_is_kept keep program layer store r.checked r.moves s.config r.are r.runs

  is_top : IsTopmost program (layer + 1) f.1.procedure thread f.1
  is_top = record {
    below = top.below;
    inside = top.is;
    procedure = refl;
    sorted = subst (λ (k : ℕ). ThreadIsSorted (program_at program k) thread) (sym (same_layer layer)) (all_at (ThreadIsSorted (program_at program layer)) s.config.threads t thread there s_kept.of_plain.sorted);
    stacked = subst (λ (k : ℕ). IsStacked (program_at program k) thread) (sym (same_layer layer)) (all_at (IsStacked (program_at program layer)) s.config.threads t thread there s_kept.of_plain.stacked);
  }

  -- at the head of a yield loop
  safe_at_loop : (n : ℕ) (st : Stmt) (k : Rest) (p : Progress) → WaitsAt program layer s t f n st k p → layer_head n (out-Stmt st) ≡ Some n → is_skipped st ≡ false → Safe
  safe_at_loop n st k p w head shown =
      let spot : spot_at f.0.body f.1.place ≡ Some (record { number = n; stmt = st; next = place_in (sizes_of f.0.body) k }) =
      spot_of_rest f.0.body f.1.place
      ∙ (skips_head (sizes_of f.0.body) (rest_of f) ((n, st) ∷ k) w.skips
      ∙ ap (λ (x : Bool). if◌then◌else◌ {A = Option Spot} x (head_of (sizes_of f.0.body) k) (Some (record { number = n; stmt = st; next = place_in (sizes_of f.0.body) k }))) shown) in
      fails_there program layer f.1.procedure f.0 s.config.store f.1 thread top.of.there is_top (Some (record { number = n; stmt = st; next = place_in (sizes_of f.0.body) k })) spot
      ∙ head_fails_not (program_at program layer) s.config.store f.0 f.1.locals n (place_in (sizes_of f.0.body) k) n (out-Stmt st) head

  at_end : ChainEnds nothing_said program layer s t f → Safe
  at_end (inl x) =
      open_is_safe program layer f.1.procedure f.0 s.config.store f.1 thread top.of.there is_top (cut_number f.0 x.n) _ _ 0 _ (sound program layer store r.checked)
      (opened keep program layer store s t f r thread there framed x.n x.st x.k x.p x.begins)
      (ap at_yield (rest_is keep program layer store s t f r thread there framed x.n x.st x.k x.p x.begins) ∙ x.away)
  at_end (inr x) = safe_at_loop x.n x.st x.k x.p x.waits x.head x.shown

  pub safe_at_yield : AllIsCalm program layer s → is_challenged program layer s ≡ false → at_yield (rest_of f) ≡ true → Safe
  safe_at_yield calm unchallenged yields =
      at_end (chain_ends keep program layer store s t f r thread there framed (λ x ls. Unit {0}) (λ x h. tt) nothing_said (λ c cut b end p assumed concludes ends done fits sorts stops so. so) calm unchallenged yields tt)

-- ---- behind block runs

outside_yields : (b : Bool) (rest : Rest) → is_some (if◌then◌else◌ {A = Option Rest} b None (Some rest)) ≡ false → b ≡ true
outside_yields true rest e = refl
outside_yields false rest e = absurd (true≢false e)

pub between_are_safe : ActionsKeepPermissions → StagesAreRuns → StagesAreBeside → BetweenAreSafe
between_are_safe keep runs stages program layer store moves c t f k staged now =
    let stage = runs program layer store (challenged program layer store) moves None c k staged in
    let was = stages program layer store moves None c k staged in
    let s : Shadowed = shadowed program layer store (map plain_move moves) in
    let reached : IsReached program layer store (plain_config c) = record { checked = k; moves = map plain_move moves; are = stage.are_moves; runs = stage.runs } in
    let z = thread_of program (layer + 1) c.threads t f now in
    let outside : inside program layer z.0 ≡ false = stage.standing t z.0 z.1 in
    let yields = outside_yields (at_yield (rest_of f)) (rest_of f) (sym (ap (λ (o : Option (Proc × Activation)). is_some (block_in o)) z.2) ∙ outside) in
    let there = ap (λ (d : config.Config). slice_get d.threads t) was.config_is ∙ z.1 in
    let quiet = safe_at_yield keep program layer store s t f (subst (IsReached program layer store) (sym was.config_is) reached) z.0 there z.2 was.beside (unchallenged program layer store staged refl) yields in
    let same : thread_fails (program_at program layer) c.store z.0 ≡ false = subst (λ (d : config.Config). thread_fails (program_at program layer) d.store z.0 ≡ false) was.config_is quiet in
    ap (fails_in (layer_threads program layer store) c.store) z.1 ∙ (sym (fails_agree (program_at program layer) store (inside program layer) c.store z.0) ∙ same)
