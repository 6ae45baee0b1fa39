-- A frame that waits at a yield, with what has taken effect so far: all is so there that the conditions assume.
use Rattle.std.proofs.Common.{◌≡◌, ◌≢◌, ℕ, ◌+◌, ◌-◌, ◌≤◌, Bool, true, false, not, ◌||◌, List, ◌∷◌, ◌++◌, map, Some, slice_get, Contains, refl, sym, ap, ◌∙◌, subst, arith}
use Rattle.std.specs.Prelude.{nat_eq, nat_le}
use Rattle.std.proofs.lemmas.Bool.{false≢true, eqb-true, leb-true, and_parts}
use Rattle.std.proofs.lemmas.Option.{same_Some}
use Rattle.civl_bits.specs.declared.value.Value.{Value}
use Rattle.civl_firing.specs.values.Values.{HaveSorts}
use Rattle.civl_tree.specs.declared.action.Choice.{Choice}
use Rattle.civl_tree.specs.declared.program.Global.{Global}
use Rattle.civl_tree.specs.declared.program.Proc.{Proc}
use Rattle.civl_tree.specs.declared.program.Program.{Program}
use Rattle.civl_tree.specs.declared.stmt.Stmt.{Stmt}
use Rattle.civl_tree.specs.Numbering.{sizes_of, statement_at}
use Rattle.civl_tree.proofs.Bools.{five}
use Rattle.civl_firing.specs.declared.store.Store.{Store}
use Rattle.civl_firing.specs.Stores.{IsStore}
use Rattle.civl_meaning.specs.declared.config.Activation.{Activation}
use Rattle.civl_meaning.specs.declared.config.Running.{Running}
use Rattle.civl_meaning.specs.Permissions.{pairwise_disjoint}
use Rattle.civl_meaning.specs.Places.{is_skipped}
use Rattle.civl_meaning.specs.Rest.{Rest, rest_at}
use Rattle.civl_meaning.specs.Change.{outs_in}
use Rattle.civl_meaning.specs.Layers.{program_at}
use Rattle.civl_layers.specs.declared.cut.Cut.{Cut}
use Rattle.civl_layers.specs.declared.cut.CutKind.{CutKind}
use Rattle.civl_layers.specs.declared.cut.CutKind.TheVariants as kind
use Rattle.civl_layers.specs.Cuts.{cut_kind}
use Rattle.civl_conditions.specs.footprints.Agreement.{AgreeOn, StoresAgree, exists_at}
use Rattle.civl_conditions.specs.paths.NoteValues.{steady_note_values}
use Rattle.civl_conditions.specs.paths.Paths.{Progress}
use Rattle.civl_conditions.specs.paths.Ends.{is_yield_cut, cut_number}
use Rattle.civl_conditions.proofs.paths.Belonging.{Belongs}
use Rattle.civl_conditions.specs.Invariants.{invariants_hold}
use Rattle.civl_conditions.specs.Variables.{passed_choices}
use Rattle.civl_conditions.specs.Values.{Begun}
use Rattle.civl_conditions.specs.Permissions.{in_store, held_at, of_held}
use Rattle.civl_conditions.specs.Assumed.{cut_invariant, note_holds, owned}
use Rattle.civl_condition_laws.specs.States.{frame_sorts, BeginsAs, IsBegun, IsCutOf}
use Rattle.civl_condition_laws.proofs.Carrying.{LinearPass, same_linear}
use Rattle.civl_condition_laws.proofs.Nearby.{agree_less}
use Rattle.civl_reduction.proofs.permissions.Counting.{carriers}
use Rattle.civl_reduction.proofs.permissions.Changing.{owns}
use Rattle.civl_reduction.proofs.permissions.Threads.{locals_count}
use Rattle.civl_reduction.proofs.permissions.Staying.{IsKept}
use Rattle.civl_reduction.specs.checked.Checked.{ActionsKeepPermissions}
use Rattle.civl_reduction.specs.blocks.Blocks.{frame_of_layer, rest_of}
use Rattle.civl_reduction.specs.open_blocks.Ends.{IsAssumed}
use Rattle.civl_reduction.proofs.open_blocks.Open.Choices.{choices_are_there}
use Rattle.civl_reduction.specs.blocks.Cuts.{frame_at, settled}
use Rattle.civl_reduction.specs.blocks.Shadow.{Shadowed, course_of, glided, progress_in}
use Rattle.civl_reduction.specs.blocks.Challenged.{allows}
use Rattle.civl_reduction.specs.staged.Pausing.{StandsAt}
use Rattle.civl_reduction.proofs.staged.Pausing.Cutting.{Topmost, topmost, cut_there}
use Rattle.civl_reduction.proofs.staged.Pausing.Holding.{Skips, cut_owned}
use Rattle.civl_reduction.proofs.staged.Pausing.Apart.{run_is_kept, known, frame_owned, pause_owned, apart_of_two}
use Rattle.civl_reduction.proofs.blocks.Merged.Merging.{linear_there}
use Rattle.civl_reduction.specs.staged.Calm.{IsCalm}
use Rattle.civl_reduction.proofs.staged.Calm.Outside.{thread_of}
use Rattle.civl_reduction.specs.staged.Stops.{StopsAt}
use Rattle.civl_reduction.specs.staged.Opened.{IsReached}
use Rattle.civl_reduction.proofs.staged.Opened.Noting.{bare}
use Rattle.civl_reduction.proofs.staged.Opened.Old.{is_old}
use Rattle.civl_reduction.proofs.staged.Opened.Round.{one_apart}
use Rattle.civl_reduction.proofs.staged.Opened.Stepping.{same_layer}
use Rattle.civl_conditions.proofs.paths.Standing.{begins_stands}
use Rattle.civl_reduction.proofs.staged.Opened.Called.{outs_sorted}

-- what exists in the layer is old in the next
pub there_is_old : (layer : ℕ) (g : Global) → exists_at layer g ≡ true → is_old (layer + 1) g ≡ true
there_is_old layer g e = go (nat_eq g.first (layer + 1)) refl
  where
    go : (b : Bool) → nat_eq g.first (layer + 1) ≡ b → not b ≡ true
    go false q = refl
    go true q = let is = eqb-true g.first (layer + 1) q in let low = leb-true g.first layer (and_parts (nat_le g.first layer) (nat_le layer g.last) e).0 in absurd (omega (arith, is, low))

-- the frame of a thread waits at the cut that heads this rest, in this state
pub record WaitsAt (program : Program) (layer : ℕ) (s : Shadowed) (t : ℕ) (f : Proc × Activation) (n : ℕ) (stmt : Stmt) (k : Rest) (p : Progress) : Type 0 where
  pub place : rest_at f.0.body n ≡ (n, stmt) ∷ k
  pub skips : Skips (rest_of f) ((n, stmt) ∷ k)
  pub kind : CutKind
  pub cut : cut_kind stmt ≡ Some kind
  pub yields : is_yield_cut kind ≡ true
  pub fits : IsStore program.globals p.store
  pub old : AgreeOn (is_old (layer + 1)) program.globals p.store.values s.config.store.values
  pub locals : p.locals ≡ f.1.locals
  pub calm : IsCalm program (layer + 1) p.store s.shadow.done s.config.threads (Some t)
  pub own : note_holds (steady_note_values program.globals f.0 p.store p.locals p.done) (cut_invariant f.0 (record { statement = n; kind = kind })) ≡ true
  pub gate : (p.done || allows program p.store f.0 p.locals) ≡ true
  pub glides : bare (glided (course_of program layer f.0) ((n, stmt) ∷ k) p) ≡ bare (glided (course_of program layer f.0) (settled (rest_of f)) (progress_in program layer t s.config.store s.shadow f.1))
  pub stops : (x : Store) → StopsAt (course_of program layer f.0) ((n, stmt) ∷ k) p x → StopsAt (course_of program layer f.0) (settled (rest_of f)) (progress_in program layer t s.config.store s.shadow f.1) x

-- it waits at a yield, from which a block begins
pub record WaitsAtYield (program : Program) (layer : ℕ) (s : Shadowed) (t : ℕ) (f : Proc × Activation) (n : ℕ) (stmt : Stmt) (k : Rest) (p : Progress) : Type 0 where
  pub waits : WaitsAt program layer s t f n stmt k p
  pub form : waits.kind ≡ kind.Yield
  pub skipped : is_skipped stmt ≡ true
  pub glide : (x : Progress) → glided (course_of program layer f.0) ((n, stmt) ∷ k) x ≡ glided (course_of program layer f.0) k x
  pub passes : (z : Progress) (x : Store) → StopsAt (course_of program layer f.0) k z x → StopsAt (course_of program layer f.0) ((n, stmt) ∷ k) z x
  pub belongs : Belongs f.0.body ((n, stmt) ∷ k)

one_or_other : (b : Bool) → (not b || b) ≡ true
one_or_other true = refl
one_or_other false = refl

module _ (keep : ActionsKeepPermissions) (program : Program) (layer : ℕ) (store : Store) (s : Shadowed) (t : ℕ) (f : Proc × Activation) (r : IsReached program layer store s.config) (thread : Running) (there : slice_get s.config.threads t ≡ Some thread) (framed : frame_of_layer program (layer + 1) thread ≡ Some f)
    (n : ℕ) (stmt : Stmt) (k : Rest) (p : Progress) (w : WaitsAt program layer s t f n stmt k p) where
  top : Topmost program (layer + 1) thread.state f
  top = topmost program (layer + 1) thread.state f framed

  s_kept : IsKept (program_at program layer) s.config
  s_kept = run_is_kept keep program layer store r.checked r.moves s.config r.are r.runs

  abbrev pub cut : Cut
  cut = record { statement = n; kind = w.kind }

  abbrev pub c : ℕ
  c = cut_number f.0 n

  pub sorts : HaveSorts f.1.locals (frame_sorts f.0)
  sorts =
      let q = r.checked in
      let z = known program layer s.config q.layered q.linear s_kept t thread top.below f there top.is top.of.there in
      subst (λ (x : Proc). HaveSorts f.1.locals (frame_sorts x)) z.proc z.locals.locals

  state_sorts : HaveSorts p.locals (frame_sorts f.0)
  state_sorts = subst (λ (ls : List Value). HaveSorts ls (frame_sorts f.0)) (sym w.locals) sorts

  pub choices : (chosen : ℕ → List Value) × ((number : ℕ) (cs : List Choice) → Contains (passed_choices program (layer + 1) f.0 cut) (number, cs) → HaveSorts (chosen number) (map (λ x. x.sort) cs))
  choices = let q = r.checked in choices_are_there program (layer + 1) f.1.procedure f.0 cut q.layered top.of

  abbrev pub b : Begun
  b = record { store = p.store; locals = p.locals; done = p.done; old = p.store; old_outs = outs_in f.0 p.locals; old_done = p.done; chosen = choices.0 }

  stands : statement_at f.0.body n ≡ Some stmt
  stands = begins_stands f.0.body n stmt k w.place

  of_cut : IsCutOf program (layer + 1) f.1.procedure c f.0 cut
  of_cut = record { of_proc = top.of; there = cut_there program f.1.procedure (layer + 1) f.0 top.of n stmt w.kind stands w.cut }

  begins : (x : CutKind) → is_yield_cut x ≡ true → BeginsAs f.0 x b
  begins kind.Entry y = absurd (false≢true y)
  begins kind.Yield y = record { store = refl; outs = refl; done = refl }
  begins kind.YieldLoop y = record { store = refl; outs = refl; done = refl }
  begins kind.RankLoop y = absurd (false≢true y)

  begun : IsBegun program (layer + 1) f.0 cut b
  begun = record { store = w.fits; locals = state_sorts; old = w.fits; old_outs = outs_sorted f.0 p.locals state_sorts; chosen = choices.1; begins = begins w.kind w.yields }

  -- what is held there the thread owns
  held_owned : (x : ℕ) → carriers x (of_held (held_at program f.0 c) p.locals) ≤ owns program thread thread.state x
  held_owned x =
      let q = r.checked in
      let z = known program layer s.config q.layered q.linear s_kept t thread top.below f there top.is top.of.there in
      let count = locals_count f.0 f.1.locals sorts in
      let placed = subst (λ (y : Proc). f.1.place ≤ sizes_of y.body) (same_Some z.stack.topmost.proc f.0 (sym z.stack.topmost.there ∙ top.of.there)) z.stack.topmost.place in
      let one = cut_owned program q.layered.rules q.linear (layer + 1) f.1.procedure f.0 top.of f.1.place placed f.1.locals count n stmt w.kind k w.skips w.cut x in
      let two = frame_owned program layer s.config q.layered q.linear s_kept thread top.below f top.is top.of.there x in
      let same : carriers x (of_held (held_at program f.0 c) p.locals) ≡ carriers x (of_held (held_at program f.0 c) f.1.locals) = ap (λ (ls : List Value). carriers x (of_held (held_at program f.0 c) ls)) w.locals in
      omega (arith, one, two, same)

  linear_old : LinearPass (is_old (layer + 1)) program.globals
  linear_old at g is lin = let q = r.checked in let y = q.below in there_is_old layer g (linear_there program layer q.layered (omega (arith, y)) at g is lin)

  carried : in_store program p.store ≡ in_store program s.config.store
  carried = same_linear (is_old (layer + 1)) program.globals p.store.values s.config.store.values linear_old w.old

  disjoint : pairwise_disjoint (owned program f.0 c b) ≡ true
  disjoint =
      subst (λ (ps : List (List ℕ)). pairwise_disjoint (ps ++ of_held (held_at program f.0 c) p.locals) ≡ true) (sym carried)
      (one_apart program layer s.config s_kept t thread there (of_held (held_at program f.0 c) p.locals) held_owned)

  pub apart : (u : ℕ) (q : Proc × Activation) (y : ℕ) (other : Cut) → u ≢ t → frame_at program (layer + 1) s.config.threads u ≡ Some q → StandsAt program (layer + 1) q y other
      → pairwise_disjoint (owned program f.0 c b ++ of_held (held_at program q.0 y) q.1.locals) ≡ true
  apart u q y other ne is at =
      let z = r.checked in
      let a = thread_of program (layer + 1) s.config.threads u q is in
      subst (λ (ps : List (List ℕ)). pairwise_disjoint ((ps ++ of_held (held_at program f.0 c) p.locals) ++ of_held (held_at program q.0 y) q.1.locals) ≡ true) (sym carried)
      (apart_of_two program layer s.config s_kept t u thread a.0 (λ x. ne (sym x)) there a.1 (of_held (held_at program f.0 c) p.locals) (of_held (held_at program q.0 y) q.1.locals) held_owned
      (pause_owned program layer s.config z.layered z.linear s_kept u a.0 q y other a.1 a.2 at))

  pub assumes : IsAssumed program (layer + 1) f.1.procedure c f.0 cut b
  assumes = record {
    of_cut = of_cut;
    begun = begun;
    holds = five (invariants_hold program (layer + 1) p.store) (note_holds (steady_note_values program.globals f.0 p.store p.locals p.done) (cut_invariant f.0 cut)) (p.done || allows program p.store f.0 p.locals) (not p.done || p.done) (pairwise_disjoint (owned program f.0 c b))
        w.calm.invariants w.own w.gate (one_or_other p.done) disjoint;
  }

  -- the store agrees with the configuration's on the globals of the layer
  pub layer_agrees : StoresAgree (exists_at (layer + 1 - 1)) program.globals p.store s.config.store
  layer_agrees =
      subst (λ (z : ℕ). StoresAgree (exists_at z) program.globals p.store s.config.store) (sym (same_layer layer))
      (agree_less (is_old (layer + 1)) (exists_at layer) (there_is_old layer) program.globals p.store.values s.config.store.values w.old)
