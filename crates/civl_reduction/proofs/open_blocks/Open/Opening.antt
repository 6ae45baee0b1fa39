-- How blocks open.
use Rattle.std.proofs.Common.{◌≡◌, ℕ, ◌+◌, ◌-◌, Bool, List, ◌∷◌, Option, None, Some, ◌⊎◌, inl, inr, refl, sym, ap, ◌∙◌, subst, arith}
use Rattle.std.specs.Prelude.{if◌then◌else◌}
use Rattle.std.specs.Option.{option_map_or}
use Rattle.std.proofs.lemmas.Option.{none-some, same_Some}
use Rattle.civl_bits.specs.declared.value.Value.{Value}
use Rattle.civl_tree.specs.declared.program.Proc.{Proc}
use Rattle.civl_tree.specs.declared.program.Program.{Program}
use Rattle.civl_tree.specs.declared.stmt.Stmt.{Stmt, out-Stmt}
use Rattle.civl_tree.specs.declared.stmt.Stmt.TheOpen as stmt
use Rattle.civl_tree.specs.Numbering.{sizes_of}
use Rattle.civl_firing.specs.declared.store.Store.{Store}
use Rattle.civl_meaning.specs.declared.config.Plain.{Plain}
use Rattle.civl_meaning.specs.declared.config.Activation.{Activation}
use Rattle.civl_meaning.specs.declared.config.Running.{Running}
use Rattle.civl_meaning.specs.declared.config.Change.TheVariants.{Goes}
use Rattle.civl_meaning.specs.Places.{Spot, spot_at}
use Rattle.civl_meaning.specs.Rest.{rest_at, place_in, head_of}
use Rattle.civl_meaning.specs.Change.{done_by, statement_doing, change_of}
use Rattle.civl_meaning.specs.Layers.{program_at}
use Rattle.civl_meaning.proofs.Rests.{spot_of_rest}
use Rattle.civl_layers.specs.declared.cut.Cut.{Cut}
use Rattle.civl_layers.specs.declared.cut.CutKind.{CutKind}
use Rattle.civl_layers.specs.declared.cut.CutKind.TheVariants as kind
use Rattle.civl_conditions.specs.footprints.Agreement.{StoresAgree, exists_at}
use Rattle.civl_conditions.specs.paths.Paths.{Course, Past, path_from}
use Rattle.civl_conditions.specs.paths.Runs.{Standing, spot_does, Advance, Ends, Stands, advance_by, begins_by, begins_at, Reaches}
use Rattle.civl_conditions.specs.paths.Seen.{lower_course}
use Rattle.civl_conditions.proofs.paths.Beginning.{paths_begin_at_cuts}
use Rattle.civl_conditions.proofs.paths.Belonging.{own_place, rest_belongs}
use Rattle.civl_soundness.proofs.Among.{spot_is_plain}
use Rattle.civl_conditions.specs.Values.{Begun}
use Rattle.civl_reduction.specs.open_blocks.Ends.{IsAssumed}
use Rattle.civl_reduction.specs.open_blocks.Following.{IsNotBelow, layer_head, StandsAlike, frame_does}
use Rattle.civl_meaning.specs.Config.{moved_frame}
use Rattle.civl_reduction.proofs.open_blocks.Following.Onward.{rest_onward, Split, head_splits}
use Rattle.civl_reduction.proofs.open_blocks.Following.Frames.{GoesForward, forward}
use Rattle.civl_reduction.specs.open_blocks.Open.{IsTopmost, beginning, IsOpen, OpensInLoop, BlocksOpenAtEntries, BlocksOpenBehindYields, BlocksOpenInLoops}
use Rattle.civl_reduction.proofs.open_blocks.Open.Going.{thread_does}

zero_ahead : (o : Option Spot) → IsNotBelow 0 o
zero_ahead None = tt
zero_ahead (Some s) = inl (omega arith)

abbrev standing_of : Standing → Advance → Standing
standing_of here (Stands other) = other
standing_of here (Ends o) = here

module _ (program : Program) (step q c : ℕ) (proc : Proc) (cut : Cut) (b : Begun) (assumed : IsAssumed program step q c proc cut b) where
  abbrev course : (ℕ → List Value) → Course
  course f = lower_course program step proc f

  reaches : (f : ℕ → List Value) → Reaches (course f) (begins_at (course f) cut (beginning b)) (path_from (course f) cut (beginning b))
  reaches f = paths_begin_at_cuts (course f) c cut (beginning b) assumed.of_cut.there

  -- the block is open where the path begins
  opens_where : (bound : ℕ) (place : ℕ) (store : Store) (frame : Activation) → ((f : ℕ → List Value) → begins_at (course f) cut (beginning b) ≡ Stands (record { place = place; state = beginning b })) → IsNotBelow bound (spot_at proc.body place)
      → StandsAlike program step proc (record { place = place; state = beginning b }) store frame → IsOpen program step q c proc cut b bound (record { place = place; state = beginning b }) store frame
  opens_where bound place store frame begins ahead alike = record {
    assumed = assumed;
    follows = record {
      on_path = record { comes = λ f h. sym (subst (λ (a : Advance). Reaches (course f) a (path_from (course f) cut (beginning b))) (begins f) (reaches f)); ahead = ahead };
      alike = alike;
    };
    fits = assumed.begun.store;
    inputs = refl;
    done = λ d. d;
  }

  by_kind : (k : CutKind) → cut.kind ≡ k → (f : ℕ → List Value) → begins_at (course f) cut (beginning b) ≡ begins_by (course f) cut.statement k (beginning b)
  by_kind k e f = ap (λ (k : CutKind). begins_by (course f) cut.statement k (beginning b)) e

  pub at_entry : (store : Store) (frame : Activation) → cut.kind ≡ kind.Entry → StandsAlike program step proc (record { place = 0; state = beginning b }) store frame → IsOpen program step q c proc cut b 0 (record { place = 0; state = beginning b }) store frame
  at_entry store frame e alike = opens_where 0 0 store frame (λ f. by_kind kind.Entry e f) (zero_ahead (spot_at proc.body 0)) alike

  pub behind_yield : (here : Standing) (store : Store) (frame : Activation) → cut.kind ≡ kind.Yield → begins_at (course b.chosen) cut (beginning b) ≡ Stands here → StandsAlike program step proc here store frame → IsOpen program step q c proc cut b 0 here store frame
  behind_yield here store frame e at alike =
      let standing : Standing = standing_of here (begins_by (course b.chosen) cut.statement kind.Yield (beginning b)) in
      let same : standing ≡ here = ap (standing_of here) (sym (by_kind kind.Yield e b.chosen) ∙ at) in
      subst (λ (here : Standing). IsOpen program step q c proc cut b 0 here store frame) same
      (opens_where 0 standing.place store frame (λ f. by_kind kind.Yield e f) (zero_ahead (spot_at proc.body standing.place)) (subst (λ (here : Standing). StandsAlike program step proc here store frame) (sym same) alike))

pub blocks_open_at_entries : BlocksOpenAtEntries
blocks_open_at_entries program step q c proc cut b store frame assumed e alike = at_entry program step q c proc cut b assumed store frame e alike

pub blocks_open_behind_yields : BlocksOpenBehindYields
blocks_open_behind_yields program step q c proc cut b here store frame assumed e at alike = behind_yield program step q c proc cut b assumed here store frame e at alike

-- ---- loops

-- the head of a loop has this number
pub head_number : (n m : ℕ) (d : stmt.Stmt-F Stmt) → layer_head n d ≡ Some m → n ≡ m
head_number n m (stmt.YieldLoop t i a) e = same_Some n m e
head_number n m (stmt.RankLoop t r i a) e = same_Some n m e
head_number n m _ e = absurd (none-some m e)

-- its step goes on with the same locals, whatever the store and the choices
loop_goes : (plain : Plain) (proc : Proc) (locals : List Value) (n p m : ℕ) (d : stmt.Stmt-F Stmt) → layer_head n d ≡ Some m → (w : ℕ) × ((store : Store) (v : List Value) → done_by plain store v (statement_doing plain proc locals n p d) ≡ Goes locals w)
loop_goes plain proc locals n p m (stmt.YieldLoop t i a) e = (_, λ store v. refl)
loop_goes plain proc locals n p m (stmt.RankLoop t r i a) e = (_, λ store v. refl)
loop_goes plain proc locals n p m _ e = absurd (none-some m e)

-- from its own number the same comes next
pub spot_again : (body : List Stmt) (place : ℕ) (s : Spot) → spot_at body place ≡ Some s → spot_at body s.number ≡ Some s
spot_again body place s e =
    let split : Split body s = head_splits body (rest_at body place) s (rest_belongs body place) (rest_onward body place) (sym (spot_of_rest body place) ∙ e) in
    let own = own_place body ((s.number, s.stmt) ∷ split.behind) split.belongs in
    let last : ℕ = sizes_of body in
    spot_of_rest body s.number ∙ ap (head_of last) own
    ∙ ap (λ (skips : Bool). if skips then head_of last split.behind else Some (record { number = s.number; stmt = s.stmt; next = place_in last split.behind })) (spot_is_plain body place s e)
    ∙ ap (λ (p : ℕ). Some (record { number = s.number; stmt = s.stmt; next = p })) (sym split.next)

module _ (program : Program) (step q c : ℕ) (proc : Proc) (cut : Cut) (b : Begun) (store : Store) (frame : Activation) (thread : Running) (values : List Value) (s : Spot) (assumed : IsAssumed program step q c proc cut b)
    (loops : (cut.kind ≡ kind.YieldLoop) ⊎ (cut.kind ≡ kind.RankLoop)) (top : IsTopmost program step q thread frame) (there : spot_at proc.body frame.place ≡ Some s) (head : layer_head s.number (out-Stmt s.stmt) ≡ Some cut.statement)
    (same : b.locals ≡ frame.locals) (agree : StoresAgree (exists_at (step - 1)) program.globals b.store store) where
  abbrev plain : Plain
  plain = program_at program (step - 1)

  number_is : s.number ≡ cut.statement
  number_is = head_number s.number cut.statement (out-Stmt s.stmt) head

  goes : (w : ℕ) × ((store : Store) (v : List Value) → done_by plain store v (statement_doing plain proc b.locals s.number s.next (out-Stmt s.stmt)) ≡ Goes b.locals w)
  goes = loop_goes plain proc b.locals s.number s.next cut.statement (out-Stmt s.stmt) head

  abbrev place : ℕ
  place = goes.0

  frame_goes : frame_does program step proc store values frame s ≡ Goes frame.locals place
  frame_goes =
      subst (λ (ls : List Value). done_by plain store values (statement_doing plain proc ls s.number s.next (out-Stmt s.stmt)) ≡ Goes ls place) same (goes.1 store values)

  spot_there : spot_at proc.body cut.statement ≡ Some s
  spot_there = ap (spot_at proc.body) (sym number_is) ∙ spot_again proc.body frame.place s there

  abbrev steps : (ℕ → List Value) → Option Spot → Advance
  steps f o = option_map_or (λ s. advance_by (beginning b) (spot_does (lower_course program step proc f) s (beginning b))) o (Ends (Past (beginning b)))

  stepped : (f : ℕ → List Value) → steps f (spot_at proc.body cut.statement) ≡ Stands (record { place = place; state = beginning b })
  stepped f = ap (steps f) spot_there ∙ ap (advance_by (beginning b)) (goes.1 b.store (f s.number))

  begins : (f : ℕ → List Value) → begins_at (lower_course program step proc f) cut (beginning b) ≡ Stands (record { place = place; state = beginning b })
  begins f = elim loops [
    | inl e ↦ by_kind program step q c proc cut b assumed kind.YieldLoop e f ∙ stepped f
    | inr e ↦ by_kind program step q c proc cut b assumed kind.RankLoop e f ∙ stepped f
  ]

  ahead : IsNotBelow (cut.statement + 1) (spot_at proc.body place)
  ahead =
      let split : Split proc.body s = head_splits proc.body (rest_at proc.body frame.place) s (rest_belongs proc.body frame.place) (rest_onward proc.body frame.place) (sym (spot_of_rest proc.body frame.place) ∙ there) in
      let forth = forward plain b.store values proc b.locals s.number s.stmt split.behind split.belongs split.onward (out-Stmt s.stmt) refl in
      let moved : GoesForward proc.body s.number (done_by plain b.store values (statement_doing plain proc b.locals s.number s.next (out-Stmt s.stmt))) =
      subst (λ (p : ℕ). GoesForward proc.body s.number (done_by plain b.store values (statement_doing plain proc b.locals s.number p (out-Stmt s.stmt)))) (sym split.next) forth in
      subst (λ (n : ℕ). IsNotBelow (n + 1) (spot_at proc.body place)) number_is (subst (GoesForward proc.body s.number) (goes.1 b.store values) moved)

  pub in_loop : OpensInLoop program step q c proc cut b store frame (change_of plain store values thread)
  in_loop = (
    place,
    thread_does program step q proc thread frame assumed.of_cut.of_proc.there top store values s there ∙ frame_goes,
    opens_where program step q c proc cut b assumed (cut.statement + 1) place store (moved_frame frame frame.locals place) begins ahead (record { spot = refl; locals = same; stores = agree }),
  )

pub blocks_open_in_loops : BlocksOpenInLoops
blocks_open_in_loops program step q c proc cut b store frame thread values s assumed loops top there head same agree =
    in_loop program step q c proc cut b store frame thread values s assumed loops top there head same agree
