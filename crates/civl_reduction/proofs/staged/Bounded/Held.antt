-- What a frame holds before a rank loop is apart from the linear globals, where all permissions are held once.
use Rattle.std.proofs.Common.{◌≡◌, ℕ, ◌+◌, ◌≤◌, true, false, List, ◌++◌, length, Option, None, Some, refl, sym, ap, ◌∙◌, subst, arith}
use Rattle.std.specs.Prelude.{slice_get, flat_map}
use Rattle.std.proofs.lemmas.Option.{none-some, same_Some}
use Rattle.civl_tree.specs.declared.program.Proc.{Proc}
use Rattle.civl_tree.specs.declared.program.Program.{Program}
use Rattle.civl_tree.specs.declared.stmt.Stmt.{out-Stmt}
use Rattle.civl_tree.specs.Numbering.{sizes_of}
use Rattle.civl_tree.specs.rules.Names.{names_in_proc}
use Rattle.civl_tree.specs.rules.Rules.{Keeps}
use Rattle.civl_meaning.specs.declared.config.Plain.{Plain}
use Rattle.civl_meaning.specs.declared.config.Activation.{Activation}
use Rattle.civl_meaning.specs.declared.config.State.{State}
use Rattle.civl_meaning.specs.declared.config.State.TheVariants.{Inside}
use Rattle.civl_meaning.specs.declared.config.Running.{Running}
use Rattle.civl_meaning.specs.declared.config.Config.{Config}
use Rattle.civl_meaning.specs.Permissions.{pairwise_disjoint, of_globals}
use Rattle.civl_meaning.specs.Places.{Spot, spot_at}
use Rattle.civl_meaning.specs.Rest.{rest_at}
use Rattle.civl_meaning.specs.Layers.{program_at}
use Rattle.civl_meaning.specs.Config.{StateIsSorted, StateIsStacked, ThreadIsSorted, IsStacked, IsOf}
use Rattle.civl_meaning.proofs.Rests.{spot_of_rest}
use Rattle.civl_layers.specs.declared.cut.CutKind.{CutKind}
use Rattle.civl_layers.specs.Cuts.{cut_kind}
use Rattle.civl_layers.specs.Layered.{IsLayered}
use Rattle.civl_linear.specs.LinearRules.{linear_rules}
use Rattle.civl_soundness.proofs.Fitting.{all_at}
use Rattle.civl_conditions.specs.paths.Ends.{cut_number}
use Rattle.civl_conditions.specs.paths.Runs.{yield_before}
use Rattle.civl_conditions.specs.paths.Seen.{IsProcOf}
use Rattle.civl_conditions.specs.Permissions.{held_at, of_held}
use Rattle.civl_reduction.specs.permissions.Owned.{owned, of_frame, of_locals, of_flagged, held_before, held_during, IsParted}
use Rattle.civl_reduction.proofs.permissions.Counting.{carriers, carriers_joined, counts_of, disjoint_by}
use Rattle.civl_reduction.proofs.permissions.Changing.{owns}
use Rattle.civl_reduction.proofs.permissions.Threads.{locals_count}
use Rattle.civl_reduction.proofs.permissions.Staying.{one_own}
use Rattle.civl_reduction.specs.blocks.Blocks.{at_yield}
use Rattle.civl_reduction.proofs.staged.Pausing.Holding.{cut_owned}
use Rattle.civl_reduction.specs.open_blocks.Following.{head_there}
use Rattle.civl_reduction.proofs.open_blocks.Open.Cuts.{head_cut}
use Rattle.civl_reduction.specs.staged.Measures.{HeldIsApart}
use Rattle.civl_reduction.proofs.staged.Measures.Nearing.{none_or}
use Rattle.civl_reduction.proofs.staged.Opened.Forms.{no_yield, head_skips}

module _ (program : Program) (layer q : ℕ) (proc : Proc) (config : Config) (layered : IsLayered program) (linear : Keeps linear_rules program) (of_plain : IsOf (program_at program layer) config) (parted : IsParted program config)
    (t : ℕ) (thread : Running) (below : List Activation) (frame : Activation) (at : slice_get config.threads t ≡ Some thread) (is : thread.state ≡ Inside below frame) (of : IsProcOf program q (layer + 1) proc) (its : frame.procedure ≡ q) where
  abbrev plain : Plain
  plain = program_at program layer

  there : slice_get program.procs frame.procedure ≡ Some proc
  there = ap (slice_get program.procs) its ∙ of.there

  -- what a topmost frame holds its thread owns
  frame_owned : (p : ℕ) → carriers p (of_flagged (held_before program proc frame.place) frame.locals) ≤ owns program thread thread.state p
  frame_owned p =
      subst (λ (s : State). carriers p (of_flagged (held_before program proc frame.place) frame.locals) ≤ owns program thread s p) (sym is)
      (let joined = carriers_joined p (flat_map (of_frame program (held_during program)) below) (of_frame program (held_before program) frame) in
      let own : carriers p (of_frame program (held_before program) frame) ≡ carriers p (of_flagged (held_before program proc frame.place) frame.locals) = ap (λ (o : Option Proc). carriers p (of_locals (held_before program) frame o)) there in
      omega (arith, joined, own))

  count : length frame.locals ≡ length (names_in_proc proc)
  count =
      let sorted = (subst (StateIsSorted plain thread) is (all_at (ThreadIsSorted plain) config.threads t thread at of_plain.sorted)).2 in
      let same : sorted.proc ≡ proc = same_Some sorted.proc proc (sym sorted.there ∙ there) in
      subst (λ (p : Proc). length frame.locals ≡ length (names_in_proc p)) same (locals_count sorted.proc frame.locals sorted.locals)

  placed : frame.place ≤ sizes_of proc.body
  placed =
      let stack = subst (StateIsStacked plain thread.callee) is (all_at (IsStacked plain) config.threads t thread at of_plain.stacked) in
      let top = stack.topmost in
      subst (λ (p : Proc). frame.place ≤ sizes_of p.body) (same_Some top.proc proc (sym top.there ∙ there)) top.place

  cut_held : (number : ℕ) (s : Spot) (k : CutKind) → spot_at proc.body frame.place ≡ Some s → s.number ≡ number → cut_kind s.stmt ≡ Some k → (p : ℕ) → carriers p (of_held (held_at program proc (cut_number proc number)) frame.locals) ≤ owns program thread thread.state p
  cut_held number s k e same kind p =
      let skips = head_skips (sizes_of proc.body) (rest_at proc.body frame.place) s (sym (spot_of_rest proc.body frame.place) ∙ e) in
      let one = cut_owned program layered.rules linear (layer + 1) q proc of frame.place placed frame.locals count s.number s.stmt k skips.0 skips.1 kind p in
      let two = frame_owned p in
      let here : carriers p (of_held (held_at program proc (cut_number proc s.number)) frame.locals) ≡ carriers p (of_held (held_at program proc (cut_number proc number)) frame.locals) = ap (λ (n : ℕ). carriers p (of_held (held_at program proc (cut_number proc n)) frame.locals)) same in
      omega (arith, one, two, here)

  apart : (held : List (List ℕ)) → ((p : ℕ) → carriers p held ≤ owns program thread thread.state p) → pairwise_disjoint (of_globals program.globals config.store.values ++ held) ≡ true
  apart held low = disjoint_by (of_globals program.globals config.store.values ++ held) (λ p.
      let all = counts_of (of_globals program.globals config.store.values ++ flat_map (owned program) config.threads) parted p in
      let a = carriers_joined p (of_globals program.globals config.store.values) (flat_map (owned program) config.threads) in
      let b = carriers_joined p (of_globals program.globals config.store.values) held in
      let c = low p in
      let d = one_own program config.threads t thread at p in
      omega (arith, all, a, b, c, d))

  pub held_is_apart : at_yield (rest_at proc.body frame.place) ≡ false → HeldIsApart program proc config.store frame
  held_is_apart inside number ahead =
      by_spot (spot_at proc.body frame.place) refl (none_or (yield_before (rest_at proc.body frame.place)) (head_there (spot_at proc.body frame.place)) number (no_yield (rest_at proc.body frame.place) inside) ahead)
    where
      by_spot : (o : Option Spot) → spot_at proc.body frame.place ≡ o → head_there o ≡ Some number → pairwise_disjoint (of_globals program.globals config.store.values ++ of_held (held_at program proc (cut_number proc number)) frame.locals) ≡ true
      by_spot None e h = absurd (none-some number h)
      by_spot (Some s) e h =
          let head = head_cut s.number number (out-Stmt s.stmt) h in
          apart (of_held (held_at program proc (cut_number proc number)) frame.locals) (cut_held number s head.1 e head.0 head.2)
