-- An expression in which no `old(..)` of a name stands: its sort, its weight and its value stand on the names alone.
use Rattle.std.specs.Prelude.{if◌then◌else◌, slice_index_or, IsSome}
use Rattle.std.specs.Str.{bytes_eq}
use Rattle.std.proofs.Common.{◌≡◌, ◌∙◌, ℕ, ◌+◌, Bool, true, false, ◌&&◌, ◌||◌, List, [], ◌∷◌, ◌++◌, length, refl, sym, ap, ap₂, subst, arith, add-one, Option, Some, None}
use Rattle.std.proofs.lemmas.Bool.{or_parts, false≢true}
use Rattle.std.proofs.lemmas.List.{length-map}
use Rattle.civl_bits.specs.declared.value.Value.{Value}
use Rattle.civl_bits.specs.declared.value.Value.TheVariants as value
use Rattle.civl_tree.specs.declared.name.Name.{Name}
use Rattle.civl_tree.specs.declared.expr.Sort.{Sort}
use Rattle.civl_tree.specs.declared.expr.Sort.TheVariants.{Bool as Truth}
use Rattle.civl_tree.specs.declared.expr.Expr.{Expr, roll-Expr, map-Expr}
use Rattle.civl_tree.specs.declared.expr.Expr.TheFolds.{fold-roll-Expr, ind-Expr}
use Rattle.civl_tree.specs.declared.expr.Expr.TheOpen as expr
use Rattle.civl_tree.specs.declared.program.Proc.{Proc}
use Rattle.civl_tree.specs.declared.program.Program.{Program}
use Rattle.civl_tree.specs.rules.Names.{names_in_proc, global_names}
use Rattle.civl_tree.specs.rules.Scopes.{Scope as Sorts, Binding, sort_in, bind_proc, bind_globals, bind_params, body_scope}
use Rattle.civl_tree.specs.rules.Sorts.{sort_of, sort_step, one_sort, two_sort, pick_sort, get_sort, set_sort, fill_sort, slice_sort, widen_sort, join_sort}
use Rattle.civl_tree.specs.rules.Exprs.{widths_fit, slice_in_range, widen_in_range, join_in_range}
use Rattle.civl_tree.proofs.Layers.{width_layer}
use Rattle.civl_firing.specs.values.Operators.{nothing, one_value, two_value, pick_value, get_value, set_value, fill_value, slice_value, widen_value, join_value}
use Rattle.civl_firing.specs.values.Values.{is_true}
use Rattle.civl_firing.specs.values.Weights.{weight_of, weight_step, bits_in, one_weight, two_weight, pick_weight, get_weight, set_weight, move_weight}
use Rattle.civl_firing.specs.declared.scope.Scope.{Scope as Meant}
use Rattle.civl_firing.specs.Truth.{place_of}
use Rattle.civl_firing.specs.Eval.{look, value_of, value_step}
use Rattle.civl_firing.specs.Scope.{present_values, frame_values, zeros_of_globals}
use Rattle.civl_meaning.specs.Config.{frame_sorts}
use Rattle.civl_meaning.proofs.Bindings.{names_of, proc_names, proc_sorts}
use Rattle.civl_terms.specs.declared.node.Node.{Node}
use Rattle.civl_terms.specs.Graphs.{sort_at}
use Rattle.civl_actions.specs.declared.scope.Scope.{Scope}
use Rattle.civl_actions.specs.Scopes.{AreOf, IsTyped, ScopeFits}
use Rattle.civl_actions.proofs.Typing.{sort_layer, widths_layer, weight_layer, layer_typed, typed_one, typed_two, typed_pick, typed_get, typed_set, typed_fill, typed_slice, typed_widen, typed_join}
use Rattle.civl_states.specs.formula_parts.Said.{Env}
use Rattle.civl_moves.specs.Expressions.{IsTermOf, has_old, old_step}
use Rattle.civl_moves.proofs.Scoping.{Made, scope_fits}

-- ---- sorts and weights

module _ (bindings olds : List Binding) where
  -- with these names alone, and with names in `old(..)` too
  abbrev plain : Sorts
  plain = record { names = bindings; olds = [] }

  abbrev whole : Sorts
  whole = record { names = bindings; olds = olds }

  record Alike (e : Expr) : Type 0 where
    pub sort : sort_of plain e ≡ sort_of whole e
    pub widths : widths_fit plain e ≡ widths_fit whole e
    pub weight : weight_of plain e ≡ weight_of whole e

  record LayersAlike (x : expr.Expr-F Expr) : Type 0 where
    pub sort : sort_step plain (map-Expr Expr (Option Sort) (sort_of plain) x) ≡ sort_step whole (map-Expr Expr (Option Sort) (sort_of whole) x)
    pub widths : width_layer plain x ≡ width_layer whole x
    pub weight : weight_step plain (map-Expr Expr (Expr × ℕ) (λ e. (e, weight_of plain e)) x) ≡ weight_step whole (map-Expr Expr (Expr × ℕ) (λ e. (e, weight_of whole e)) x)

  abbrev IsAlike : Expr → Type 0
  IsAlike e = has_old e ≡ false → Alike e

  abbrev plus : ℕ → ℕ → ℕ
  plus m n = m + n

  abbrev and : Bool → Bool → Bool
  and a b = a && b

  form_alike : {A : Type 0} (y : expr.Expr-F A) (v : A → Expr) (h : (x : A) → IsAlike (v x)) → old_step (map-Expr Expr Bool has_old (map-Expr A Expr v y)) ≡ false → LayersAlike (map-Expr A Expr v y)
  form_alike (expr.Old n) v h p = absurd (false≢true (sym p))
  form_alike (expr.One op a) v h p =
      let i = h a p in
      record { sort = ap (one_sort op) i.sort; widths = i.widths; weight = ap₂ plus (ap (λ (o : Option Sort). one_weight op (bits_in o)) i.sort) i.weight }
  form_alike (expr.Two op a b) v h p =
      let o = or_parts (has_old (v a)) (has_old (v b)) p in
      let i = h a o.0 in
      let j = h b o.1 in
      record {
        sort = ap₂ (two_sort op) i.sort j.sort;
        widths = ap₂ and i.widths j.widths;
        weight = ap₂ plus (ap₂ plus (ap (λ (o : Option Sort). two_weight op (bits_in o)) i.sort) i.weight) j.weight;
      }
  form_alike (expr.Pick c a b) v h p =
      let o = or_parts (has_old (v c)) (has_old (v a) || has_old (v b)) p in
      let q = or_parts (has_old (v a)) (has_old (v b)) o.1 in
      let i = h c o.0 in
      let j = h a q.0 in
      let k = h b q.1 in
      record {
        sort = ap (λ (s : Option Sort). pick_sort s (sort_of plain (v a)) (sort_of plain (v b))) i.sort ∙ ap₂ (pick_sort (sort_of whole (v c))) j.sort k.sort;
        widths = ap₂ and i.widths (ap₂ and j.widths k.widths);
        weight = ap₂ plus (ap₂ plus (ap₂ plus (ap (λ (o : Option Sort). pick_weight (bits_in o)) j.sort) i.weight) j.weight) k.weight;
      }
  form_alike (expr.Get a b) v h p =
      let o = or_parts (has_old (v a)) (has_old (v b)) p in
      let i = h a o.0 in
      let j = h b o.1 in
      record {
        sort = ap₂ get_sort i.sort j.sort;
        widths = ap₂ and i.widths j.widths;
        weight = ap₂ plus (ap₂ plus (ap (λ (o : Option Sort). get_weight (bits_in o)) i.sort) i.weight) j.weight;
      }
  form_alike (expr.Set c a b) v h p =
      let o = or_parts (has_old (v c)) (has_old (v a) || has_old (v b)) p in
      let q = or_parts (has_old (v a)) (has_old (v b)) o.1 in
      let i = h c o.0 in
      let j = h a q.0 in
      let k = h b q.1 in
      record {
        sort = ap (λ (s : Option Sort). set_sort s (sort_of plain (v a)) (sort_of plain (v b))) i.sort ∙ ap₂ (set_sort (sort_of whole (v c))) j.sort k.sort;
        widths = ap₂ and i.widths (ap₂ and j.widths k.widths);
        weight = ap₂ plus (ap₂ plus (ap₂ plus (ap set_weight i.sort) i.weight) j.weight) k.weight;
      }
  form_alike (expr.Fill n a) v h p =
      let i = h a p in
      record { sort = ap (fill_sort n) i.sort; widths = i.widths; weight = ap (plus move_weight) i.weight }
  form_alike (expr.Slice a high low) v h p =
      let i = h a p in
      record { sort = ap (λ (s : Option Sort). slice_sort s high low) i.sort; widths = ap₂ and i.widths (ap (λ (s : Option Sort). slice_in_range s high low) i.sort); weight = ap (plus move_weight) i.weight }
  form_alike (expr.Widen a w) v h p =
      let i = h a p in
      record { sort = ap (λ (s : Option Sort). widen_sort s w) i.sort; widths = ap₂ and i.widths (ap (λ (s : Option Sort). widen_in_range s w) i.sort); weight = ap (plus move_weight) i.weight }
  form_alike (expr.Join a b) v h p =
      let o = or_parts (has_old (v a)) (has_old (v b)) p in
      let i = h a o.0 in
      let j = h b o.1 in
      record {
        sort = ap₂ join_sort i.sort j.sort;
        widths = ap₂ and i.widths (ap₂ and j.widths (ap₂ join_in_range i.sort j.sort));
        weight = ap₂ plus (ap (plus move_weight) i.weight) j.weight;
      }
  form_alike (expr.Name n) v h p = record { sort = refl; widths = refl; weight = refl }
  form_alike (expr.Literal n w) v h p = record { sort = refl; widths = refl; weight = refl }
  form_alike expr.True v h p = record { sort = refl; widths = refl; weight = refl }
  form_alike expr.False v h p = record { sort = refl; widths = refl; weight = refl }
  form_alike expr.Done v h p = record { sort = refl; widths = refl; weight = refl }
  form_alike expr.OldDone v h p = record { sort = refl; widths = refl; weight = refl }

  no_old : {A : Type 0} (x : expr.Expr-F Expr) (y : expr.Expr-F A) (v : A → Expr) → map-Expr A Expr v y ≡ x → has_old (roll-Expr x) ≡ false → old_step (map-Expr Expr Bool has_old (map-Expr A Expr v y)) ≡ false
  no_old x y v q p = ap (λ (d : expr.Expr-F Expr). old_step (map-Expr Expr Bool has_old d)) q ∙ (sym (fold-roll-Expr Bool old_step x) ∙ p)

  alike : (e : Expr) → IsAlike e
  alike e =
      ind-Expr IsAlike (λ x y q p.
      let l = subst LayersAlike q (form_alike y (λ z. z.0) (λ z. z.1) (no_old x y (λ z. z.0) q p)) in
      record {
        sort = sort_layer plain x ∙ l.sort ∙ sym (sort_layer whole x);
        widths = widths_layer plain x ∙ l.widths ∙ sym (widths_layer whole x);
        weight = weight_layer plain x ∙ l.weight ∙ sym (weight_layer whole x);
      }) e

  typed_plain : (e : Expr) → has_old e ≡ false → IsTyped whole e → IsTyped plain e
  typed_plain e p t =
      let a = alike e p in
      record { sorted = subst (λ (o : Option Sort). IsSome o) (sym a.sort) t.sorted; widths = a.widths ∙ t.widths; indices = t.indices }

  -- ---- values

  -- with these values for the names, and with others behind them
  module _ (names : List Name) (values others : List Value) (long : length values ≡ length bindings) where
    abbrev first : Meant
    first = present_values (names_of bindings) values

    abbrev joined : Meant
    joined = present_values (names_of bindings ++ names) (values ++ others)

    abbrev IsSame : Expr → Type 0
    IsSame e = has_old e ≡ false → IsTyped whole e → value_of first e ≡ value_of joined e

    looked : (bs : List Binding) (vs : List Value) (name : Name) (s : Sort) → length vs ≡ length bs → sort_in bs name ≡ Some s → look (names_of bs) vs name ≡ look (names_of bs ++ names) (vs ++ others) name
    looked [] vs name s l e = absurd (cc)
    looked (b ∷ bs) [] name s l e = absurd (omega (arith, l))
    looked (b ∷ bs) (v ∷ vs) name s l e = by_first (bytes_eq b.name.bytes name.bytes) e (λ q. looked bs vs name s (omega (arith, l)) q)
      where
        by_first : (c : Bool) → (if c then Some b.sort else sort_in bs name) ≡ Some s → (sort_in bs name ≡ Some s → look (names_of bs) vs name ≡ look (names_of bs ++ names) (vs ++ others) name)
            → slice_index_or (v ∷ vs) (if c then 0 else place_of (names_of bs) name + 1) nothing ≡ slice_index_or (v ∷ (vs ++ others)) (if c then 0 else place_of (names_of bs ++ names) name + 1) nothing
        by_first true q later = refl
        by_first false q later =
            ap (λ (n : ℕ). slice_index_or (v ∷ vs) n nothing) (add-one (place_of (names_of bs) name)) ∙ later q
            ∙ sym (ap (λ (n : ℕ). slice_index_or (v ∷ (vs ++ others)) n nothing) (add-one (place_of (names_of bs ++ names) name)))

    found : (name : Name) (o : Option Sort) → sort_in bindings name ≡ o → IsSome o → look (names_of bindings) values name ≡ look (names_of bindings ++ names) (values ++ others) name
    found name None e some = absurd (false≢true some)
    found name (Some s) e some = looked bindings values name s long e

    form_same : {A : Type 0} (y : expr.Expr-F A) (v : A → Expr) (h : (x : A) → IsSame (v x)) → old_step (map-Expr Expr Bool has_old (map-Expr A Expr v y)) ≡ false → IsTyped whole (roll-Expr (map-Expr A Expr v y))
        → value_step first (map-Expr Expr Value (value_of first) (map-Expr A Expr v y)) ≡ value_step joined (map-Expr Expr Value (value_of joined) (map-Expr A Expr v y))
    form_same (expr.Name n) v h p t = found n (sort_in bindings n) refl (layer_typed whole (expr.Name n) t).sorted
    form_same (expr.Old n) v h p t = absurd (false≢true (sym p))
    form_same (expr.One op a) v h p t = ap (one_value op) (h a p (typed_one whole op (v a) t))
    form_same (expr.Two op a b) v h p t =
        let o = or_parts (has_old (v a)) (has_old (v b)) p in
        let k = typed_two whole op (v a) (v b) t in
        ap₂ (two_value op) (h a o.0 k.0) (h b o.1 k.1)
    form_same (expr.Pick c a b) v h p t =
        let o = or_parts (has_old (v c)) (has_old (v a) || has_old (v b)) p in
        let q = or_parts (has_old (v a)) (has_old (v b)) o.1 in
        let k = typed_pick whole (v c) (v a) (v b) t in
        ap (λ (x : Value). pick_value x (value_of first (v a)) (value_of first (v b))) (h c o.0 k.0) ∙ ap₂ (pick_value (value_of joined (v c))) (h a q.0 k.1) (h b q.1 k.2)
    form_same (expr.Get a b) v h p t =
        let o = or_parts (has_old (v a)) (has_old (v b)) p in
        let k = typed_get whole (v a) (v b) t in
        ap₂ get_value (h a o.0 k.0) (h b o.1 k.1)
    form_same (expr.Set c a b) v h p t =
        let o = or_parts (has_old (v c)) (has_old (v a) || has_old (v b)) p in
        let q = or_parts (has_old (v a)) (has_old (v b)) o.1 in
        let k = typed_set whole (v c) (v a) (v b) t in
        ap (λ (x : Value). set_value x (value_of first (v a)) (value_of first (v b))) (h c o.0 k.0) ∙ ap₂ (set_value (value_of joined (v c))) (h a q.0 k.1) (h b q.1 k.2)
    form_same (expr.Fill n a) v h p t = ap (fill_value n) (h a p (typed_fill whole n (v a) t).1)
    form_same (expr.Slice a high low) v h p t = ap (λ (x : Value). slice_value x high low) (h a p (typed_slice whole (v a) high low t))
    form_same (expr.Widen a w) v h p t = ap (λ (x : Value). widen_value x w) (h a p (typed_widen whole (v a) w t))
    form_same (expr.Join a b) v h p t =
        let o = or_parts (has_old (v a)) (has_old (v b)) p in
        let k = typed_join whole (v a) (v b) t in
        ap₂ join_value (h a o.0 k.0) (h b o.1 k.1)
    form_same (expr.Literal n w) v h p t = refl
    form_same expr.True v h p t = refl
    form_same expr.False v h p t = refl
    form_same expr.Done v h p t = refl
    form_same expr.OldDone v h p t = refl

    same_value_of : (e : Expr) → IsSame e
    same_value_of e =
        ind-Expr IsSame (λ x y q p t.
        fold-roll-Expr Value (value_step first) x
        ∙ ap (λ (d : expr.Expr-F Expr). value_step first (map-Expr Expr Value (value_of first) d)) (sym q)
        ∙ form_same y (λ z. z.0) (λ z. z.1) (no_old x y (λ z. z.0) q p) (subst (λ (d : expr.Expr-F Expr). IsTyped whole (roll-Expr d)) (sym q) t)
        ∙ ap (λ (d : expr.Expr-F Expr). value_step joined (map-Expr Expr Value (value_of joined) d)) q
        ∙ sym (fold-roll-Expr Value (value_step joined) x)) e

-- ---- a body's expression in the scope of its procedure's names

module _ (program : Program) (proc : Proc) where
  abbrev others : List Binding
  others = bind_globals program.globals ++ bind_params proc.outs

  abbrev pub local_sorts : Sorts
  local_sorts = record { names = bind_proc proc; olds = [] }

  pub local_fits : (ns : List Node) (sc : Scope) (locals : List ℕ) (nay : ℕ) → Made sc (names_in_proc proc) locals nay → AreOf ns locals (frame_sorts proc) → sort_at ns nay ≡ Some Truth → ScopeFits ns sc local_sorts
  local_fits ns sc locals nay m l n =
      scope_fits ns sc _ locals nay (bind_proc proc) local_sorts m (sym (proc_names proc)) (subst (AreOf ns locals) (sym (proc_sorts proc)) l) n (λ name s e. e) (λ name s e. absurd (cc))

  module _ (e : Expr) (old : has_old e ≡ false) (typed : IsTyped (body_scope program proc) e) where
    pub local_typed : IsTyped local_sorts e
    local_typed = typed_plain (bind_proc proc) others e old typed

    pub local_weight : weight_of local_sorts e ≡ weight_of (body_scope program proc) e
    local_weight = (alike (bind_proc proc) others e old).weight

    local_value : (values : List Value) → length values ≡ length (frame_sorts proc) → value_of (present_values (names_in_proc proc) values) e ≡ value_of (frame_values program.globals proc values) e
    local_value values long =
        let sized : length values ≡ length (bind_proc proc) = long ∙ sym (ap length (proc_sorts proc)) ∙ length-map (bind_proc proc) (λ (b : Binding). b.sort) in
        let same = same_value_of (bind_proc proc) others (global_names program.globals) values (zeros_of_globals program.globals) sized e old typed in
        subst (λ (names : List Name). value_of (present_values names values) e ≡ value_of (present_values (names ++ global_names program.globals) (values ++ zeros_of_globals program.globals)) e) (proc_names proc) same

    pub local_is : (ns : List Node) (values : Env → List Value) (id : ℕ) → ((env : Env) → length (values env) ≡ length (frame_sorts proc)) → IsTermOf ns local_sorts (λ env. present_values (names_in_proc proc) (values env)) e id
        → IsTermOf ns (body_scope program proc) (λ env. frame_values program.globals proc (values env)) e id
    local_is ns values id long t =
        let sort = (alike (bind_proc proc) others e old).sort in
        record {
          is = λ env fits. t.is env fits ∙ local_value (values env) (long env);
          sorted = t.sorted ∙ sort;
          test = λ truth. (let said = t.test (sort ∙ truth) in
              record { sorted = said.sorted; is = λ env fits. said.is env fits ∙ ap (λ (v : Value). value.Bool (is_true v)) (local_value (values env) (long env)) });
        }
