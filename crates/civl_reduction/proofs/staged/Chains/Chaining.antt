-- The chain of blocks from a yield: blocks without a step, one behind the other, up to the last yield before the step, or to the head of a
-- yield loop.
use Rattle.std.proofs.Common.{◌≡◌, ℕ, zero, suc, ◌+◌, ◌<◌, Bool, true, false, not, ◌&&◌, ◌||◌, List, ◌∷◌, length, None, Some, slice_get, refl, sym, ap, ◌∙◌, subst, arith, inl, inr, ◌⊎◌}
use Rattle.std.proofs.lemmas.Bool.{false≢true, or_parts}
use Rattle.std.proofs.lemmas.Option.{none-some, same_Some}
use Rattle.civl_bits.specs.declared.value.Value.{Value}
use Rattle.civl_tree.specs.declared.program.Proc.{Proc}
use Rattle.civl_tree.specs.declared.program.Program.{Program}
use Rattle.civl_tree.specs.declared.stmt.Stmt.{Stmt, out-Stmt}
use Rattle.civl_tree.specs.declared.stmt.Stmt.TheOpen as stmt
use Rattle.civl_firing.specs.declared.store.Store.{Store}
use Rattle.civl_meaning.specs.declared.config.Activation.{Activation}
use Rattle.civl_meaning.specs.declared.config.Running.{Running}
use Rattle.civl_meaning.specs.Rest.{Rest}
use Rattle.civl_meaning.specs.Layers.{program_at}
use Rattle.civl_layers.specs.declared.cut.CutKind.{CutKind}
use Rattle.civl_layers.specs.declared.cut.CutKind.TheVariants as kind
use Rattle.civl_layers.specs.Cuts.{form_cut, cut_kind}
use Rattle.civl_conditions.specs.paths.Paths.{Progress}
use Rattle.civl_conditions.specs.paths.Ends.{is_yield_cut, cut_number}
use Rattle.civl_conditions.proofs.paths.Belonging.{Belongs, own_place, rest_belongs}
use Rattle.civl_reduction.proofs.permissions.Staying.{IsKept}
use Rattle.civl_meaning.specs.Change.{doing, outs_in}
use Rattle.civl_reduction.specs.checked.Checked.{ActionsKeepPermissions}
use Rattle.civl_reduction.specs.open_blocks.Following.{layer_head}
use Rattle.civl_reduction.specs.blocks.Cuts.{frame_in, frame_at, settled}
use Rattle.civl_reduction.proofs.staged.Pausing.Cutting.{Head, yield_head, Topmost, topmost, stands_at}
use Rattle.civl_reduction.proofs.staged.Pausing.Holding.{settled_skips, Skips}
use Rattle.civl_reduction.proofs.staged.Pausing.Apart.{run_is_kept}
use Rattle.civl_reduction.proofs.blocks.Merged.Merging.{merged_fit}
use Rattle.civl_reduction.specs.staged.Calm.{FrameIsCalm, AllIsCalm}
use Rattle.civl_reduction.specs.staged.Stops.{layer_stops, StopsAt}
use Rattle.civl_reduction.specs.staged.Opened.{IsReached}
use Rattle.civl_reduction.proofs.staged.Opened.Noting.{bare}
use Rattle.civl_reduction.proofs.staged.Opened.Old.{merged_is_old}
use Rattle.civl_reduction.proofs.staged.Opened.Entering.{not_challenged}
use Rattle.civl_reduction.proofs.staged.Chains.Gliding.{settled_belongs}
use Rattle.civl_meaning.specs.Places.{skip_layer, is_skipped}
use Rattle.civl_conditions.specs.Assumed.{inputs_of}
use Rattle.civl_reduction.specs.blocks.Blocks.{at_yield, frame_of_layer, rest_of}
use Rattle.civl_reduction.specs.blocks.Shadow.{Shadowed, course_of, glided_layer, glided, progress_in, seen}
use Rattle.civl_reduction.specs.blocks.Challenged.{allows, call_challenged, frame_challenged, is_challenged}
use Rattle.civl_reduction.proofs.staged.Chains.Waiting.{WaitsAt, WaitsAtYield}
use Rattle.civl_reduction.proofs.staged.Chains.Quiet.{BlocksKeep, later_belongs, waits_later, later_so, later_shorter}

-- ---- where a chain ends

-- the frame waits at the last yield before the step
pub record EndsAtYield (says : Proc → List Value → Store → Bool → List Value → Type 0) (program : Program) (layer : ℕ) (s : Shadowed) (t : ℕ) (f : Proc × Activation) : Type 0 where
  pub n : ℕ
  pub st : Stmt
  pub k : Rest
  pub p : Progress
  pub begins : WaitsAtYield program layer s t f n st k p
  pub away : at_yield k ≡ false
  pub so : says f.0 (inputs_of f.0 f.1.locals) p.store p.done (outs_in f.0 p.locals)

-- or at the head of a yield loop
pub record EndsAtLoop (says : Proc → List Value → Store → Bool → List Value → Type 0) (program : Program) (layer : ℕ) (s : Shadowed) (t : ℕ) (f : Proc × Activation) : Type 0 where
  pub n : ℕ
  pub st : Stmt
  pub k : Rest
  pub p : Progress
  pub waits : WaitsAt program layer s t f n st k p
  pub form : waits.kind ≡ kind.YieldLoop
  pub head : layer_head n (out-Stmt st) ≡ Some n
  pub shown : is_skipped st ≡ false
  pub glide : glided (course_of program layer f.0) ((n, st) ∷ k) p ≡ p
  pub so : says f.0 (inputs_of f.0 f.1.locals) p.store p.done (outs_in f.0 p.locals)

abbrev pub ChainEnds : (Proc → List Value → Store → Bool → List Value → Type 0) → Program → ℕ → Shadowed → ℕ → Proc × Activation → Type 0
ChainEnds says program layer s t f = EndsAtYield says program layer s t f ⊎ EndsAtLoop says program layer s t f

module _ (keep : ActionsKeepPermissions) (program : Program) (layer : ℕ) (store : Store) (s : Shadowed) (t : ℕ) (f : Proc × Activation) (r : IsReached program layer store s.config)
    (thread : Running) (there : slice_get s.config.threads t ≡ Some thread) (framed : frame_of_layer program (layer + 1) thread ≡ Some f) (stops : Store → List Value → Type 0)
    (all : (x : Store) → StopsAt (course_of program layer f.0) (settled (rest_of f)) (progress_in program layer t s.config.store s.shadow f.1) x → stops x f.1.locals)
    (says : Proc → List Value → Store → Bool → List Value → Type 0) (keeps : BlocksKeep stops says program layer f.1.procedure f.0) where
  abbrev Ends : Type 0
  Ends = ChainEnds says program layer s t f

  abbrev SaidAt : Progress → Type 0
  SaidAt p = says f.0 (inputs_of f.0 f.1.locals) p.store p.done (outs_in f.0 p.locals)

  top : Topmost program (layer + 1) thread.state f
  top = topmost program (layer + 1) thread.state f framed

  s_kept : IsKept (program_at program layer) s.config
  s_kept = run_is_kept keep program layer store r.checked r.moves s.config r.are r.runs

  now : frame_at program (layer + 1) s.config.threads t ≡ Some f
  now = ap (frame_in program (layer + 1)) there ∙ framed

  -- ---- the chain

  kind_is : (st : Stmt) (x : CutKind) (q : stmt.Stmt-F Stmt) (y : CutKind) → out-Stmt st ≡ q → cut_kind st ≡ Some x → form_cut q ≡ Some y → x ≡ y
  kind_is st x q y is c h = same_Some x y (sym c ∙ (ap form_cut is ∙ h))

  no_cut : (st : Stmt) (x : CutKind) (q : stmt.Stmt-F Stmt) → out-Stmt st ≡ q → cut_kind st ≡ Some x → form_cut q ≡ None → ⊥
  no_cut st x q is c h = none-some x (sym (ap form_cut is ∙ h) ∙ c)

  chain : (bound n : ℕ) (st : Stmt) (k : Rest) (p : Progress) → WaitsAt program layer s t f n st k p → SaidAt p → Belongs f.0.body ((n, st) ∷ k) → length ((n, st) ∷ k) < bound → Ends
  chain zero n st k p w so belongs less = absurd (omega (arith, less))
  chain (suc bound) n st k p w so belongs less = by_form (out-Stmt st) refl (λ i u j q v z a l. chain bound i u j q v z a l)
    where
      by_form : (q : stmt.Stmt-F Stmt) → out-Stmt st ≡ q → ((i : ℕ) (u : Stmt) (j : Rest) (x : Progress) → WaitsAt program layer s t f i u j x → SaidAt x → Belongs f.0.body ((i, u) ∷ j) → length ((i, u) ∷ j) < bound → Ends) → Ends
      by_form (stmt.Yield i) is ih = by_yield (at_yield k) refl
        where
          form : w.kind ≡ kind.Yield
          form = kind_is st w.kind (stmt.Yield i) kind.Yield is w.cut refl

          skipped : is_skipped st ≡ true
          skipped = ap skip_layer is

          glide : (x : Progress) → glided (course_of program layer f.0) ((n, st) ∷ k) x ≡ glided (course_of program layer f.0) k x
          glide x = ap (λ (y : stmt.Stmt-F Stmt). glided_layer (course_of program layer f.0) y x (glided (course_of program layer f.0) k)) is

          passes : (z : Progress) (x : Store) → StopsAt (course_of program layer f.0) k z x → StopsAt (course_of program layer f.0) ((n, st) ∷ k) z x
          passes z x h = subst (λ (y : stmt.Stmt-F Stmt). layer_stops (course_of program layer f.0) y z x (λ later. StopsAt (course_of program layer f.0) k later x)) (sym is) (inr h)

          begins : WaitsAtYield program layer s t f n st k p
          begins = record { waits = w; form = form; skipped = skipped; glide = glide; passes = passes; belongs = belongs }

          by_yield : (x : Bool) → at_yield k ≡ x → Ends
          by_yield false q = inl (record { n = n; st = st; k = k; p = p; begins = begins; away = q; so = so })
          by_yield true q =
              let later = yield_head k q in
              let shorter = later_shorter keep program layer store s t f r thread there framed n st k p begins later in
              ih later.number later.stmt later.behind _ (waits_later keep program layer store s t f r thread there framed n st k p begins later)
              (later_so keep program layer store s t f r thread there framed n st k p begins later stops all says keeps so)
              (later_belongs keep program layer store s t f r thread there framed n st k p begins later) (omega (arith, shorter, less))
      by_form (stmt.YieldLoop x i a) is ih =
          inr (record {
            n = n;
            st = st;
            k = k;
            p = p;
            waits = w;
            form = kind_is st w.kind (stmt.YieldLoop x i a) kind.YieldLoop is w.cut refl;
            head = ap (layer_head n) is;
            shown = ap skip_layer is;
            glide = ap (λ (y : stmt.Stmt-F Stmt). glided_layer (course_of program layer f.0) y p (glided (course_of program layer f.0) k)) is;
            so = so;
          })
      by_form (stmt.RankLoop x v i a) is ih = absurd (false≢true (sym (ap is_yield_cut (kind_is st w.kind (stmt.RankLoop x v i a) kind.RankLoop is w.cut refl)) ∙ w.yields))
      by_form (stmt.Assign v x) is ih = absurd (no_cut st w.kind (stmt.Assign v x) is w.cut refl)
      by_form (stmt.Assert x) is ih = absurd (no_cut st w.kind (stmt.Assert x) is w.cut refl)
      by_form (stmt.If x a b) is ih = absurd (no_cut st w.kind (stmt.If x a b) is w.cut refl)
      by_form (stmt.While x a) is ih = absurd (no_cut st w.kind (stmt.While x a) is w.cut refl)
      by_form (stmt.Call v es rs) is ih = absurd (no_cut st w.kind (stmt.Call v es rs) is w.cut refl)
      by_form (stmt.Spawn v es) is ih = absurd (no_cut st w.kind (stmt.Spawn v es) is w.cut refl)
      by_form stmt.Commit is ih = absurd (no_cut st w.kind stmt.Commit is w.cut refl)
      by_form (stmt.Intro v x) is ih = absurd (no_cut st w.kind (stmt.Intro v x) is w.cut refl)

  -- ---- where it begins

  module _ (calm : AllIsCalm program layer s) (unchallenged : is_challenged program layer s ≡ false) (yields : at_yield (rest_of f) ≡ true) where
    head : Head (rest_of f)
    head = yield_head (rest_of f) yields

    abbrev P : Progress
    P = progress_in program layer t s.config.store s.shadow f.1

    belongs : Belongs f.0.body ((head.number, head.stmt) ∷ head.behind)
    belongs = subst (Belongs f.0.body) head.is (settled_belongs f.0.body (rest_of f) (rest_belongs f.0.body f.1.place))

    by_bools : (a b c : Bool) → b ≡ true → (not a && (b && not c)) ≡ false → (a || c) ≡ true
    by_bools true b c y h = refl
    by_bools false true true y h = refl
    by_bools false true false y h = absurd (false≢true (sym h))
    by_bools false false c y h = absurd (false≢true y)

    gate : (s.shadow.done t || allows program (seen program layer s) f.0 f.1.locals) ≡ true
    gate =
        let thread_not = not_challenged program layer (seen program layer s) s.shadow.done s.config.threads t thread unchallenged there in
        let frame_not = (or_parts (call_challenged program (layer + 1) (seen program layer s) (doing (program_at program layer) thread)) _ thread_not).1 in
        by_bools (s.shadow.done t) (at_yield (rest_of f)) (allows program (seen program layer s) f.0 f.1.locals) yields
        (sym (ap (frame_challenged program (seen program layer s) (s.shadow.done t)) framed) ∙ frame_not)

    first : WaitsAt program layer s t f head.number head.stmt head.behind P
    first = record {
      place = own_place f.0.body ((head.number, head.stmt) ∷ head.behind) belongs;
      skips = subst (Skips (rest_of f)) head.is (settled_skips (rest_of f));
      kind = head.kind;
      cut = head.cut;
      yields = head.yields;
      fits = merged_fit program layer s.config.store s.shadow.store s_kept.of_plain.store calm.fits;
      old = merged_is_old program layer s.config.store s.shadow.store s_kept.of_plain.store calm.fits;
      locals = refl;
      calm = record { invariants = calm.calm.invariants; frames = λ u q. calm.calm.frames u (λ x. none-some u x) };
      own = subst (FrameIsCalm program (layer + 1) (seen program layer s) (s.shadow.done t)) now (calm.calm.frames t (λ x. none-some t x)) (cut_number f.0 head.number) (record { statement = head.number; kind = head.kind }) (stands_at program (layer + 1) f top.of head);
      gate = gate;
      glides = ap (λ (x : Rest). bare (glided (course_of program layer f.0) x P)) (sym head.is);
      stops = λ x h. subst (λ (l : Rest). StopsAt (course_of program layer f.0) l P x) (sym head.is) h;
    }

    pub chain_ends : says f.0 (inputs_of f.0 f.1.locals) (seen program layer s) (s.shadow.done t) (outs_in f.0 f.1.locals) → ChainEnds says program layer s t f
    chain_ends so = chain (suc (length ((head.number, head.stmt) ∷ head.behind))) head.number head.stmt head.behind P first so belongs (omega arith)
