-- What a step gives along the nodes of a graph.
use Rattle.std.proofs.Common.{◌≡◌, ◌∙◌, ℕ, ◌+◌, ◌<◌, ◌≤◌, List, [], ◌∷◌, ◌++◌, length, get_or, take, drop, refl, sym, ap, arith, length-append, append-nil, take-append-drop, append_assoc}
use Rattle.std.proofs.Math.ListN.{get_or-append}
use Rattle.std.proofs.Math.Seq.{get_or-append_seam}
use Rattle.std.proofs.lemmas.List.{take_more, length-take-le}
use Rattle.civl_terms.specs.declared.node.Node.{Node}
use Rattle.civl_terms.specs.Graphs.{along}

module _ {A : Type 0} (step : List A → Node → A) where
  pub along-append : (known : List A) (ms ns : List Node) → along step known (ms ++ ns) ≡ along step (along step known ms) ns
  along-append known [] ns = refl
  along-append known (m ∷ ms) ns = along-append (known ++ step known m ∷ []) ms ns

  pub along-push : (ns : List Node) (n : Node) → along step [] (ns ++ n ∷ []) ≡ along step [] ns ++ step (along step [] ns) n ∷ []
  along-push ns n = along-append [] ns (n ∷ [])

  length-from : (known : List A) (ns : List Node) → length (along step known ns) ≡ length known + length ns
  length-from known [] = omega arith
  length-from known (n ∷ ns) = omega (arith, length-from (known ++ step known n ∷ []) ns, length-append known (step known n ∷ []))

  pub length-along : (ns : List Node) → length (along step [] ns) ≡ length ns
  length-along ns = omega (arith, length-from [] ns)

  -- what comes later stands behind
  begins : (known : List A) (ns : List Node) → (rest : List A) × (along step known ns ≡ known ++ rest)
  begins known [] = ([], sym (append-nil known))
  begins known (n ∷ ns) =
      let r = begins (known ++ step known n ∷ []) ns in
      (step known n ∷ r.0, r.1 ∙ append_assoc known (step known n ∷ []) r.0)

  pub along_begins : (ms ns : List Node) (i : ℕ) (d : A) → i < length ms → get_or (along step [] (ms ++ ns)) i d ≡ get_or (along step [] ms) i d
  along_begins ms ns i d h =
      let r = begins (along step [] ms) ns in
      ap (λ vs. get_or vs i d) (along-append [] ms ns ∙ r.1) ∙ get_or-append (along step [] ms) r.0 d i (omega (arith, length-along ms))

  pub along_take : (ns : List Node) (i k : ℕ) (d : A) → i < k → k ≤ length ns → get_or (along step [] (take k ns)) i d ≡ get_or (along step [] ns) i d
  along_take ns i k d h l =
      sym (ap (λ ms. get_or (along step [] ms) i d) (sym (take-append-drop k ns)) ∙ along_begins (take k ns) (drop k ns) i d (omega (arith, length-take-le k ns l)))

  pub along_last : (ns : List Node) (n : Node) (d : A) → get_or (along step [] (ns ++ n ∷ [])) (length ns) d ≡ step (along step [] ns) n
  along_last ns n d =
      ap (λ vs. get_or vs (length ns) d) (along-push ns n)
      ∙ ap (λ k. get_or (along step [] ns ++ step (along step [] ns) n ∷ []) k d) (sym (length-along ns))
      ∙ get_or-append_seam (along step [] ns) (step (along step [] ns) n) [] d

  pub along_more : (ns : List Node) (i : ℕ) (m : Node) → i < length ns → along step [] (take (i + 1) ns) ≡ along step [] (take i ns) ++ step (along step [] (take i ns)) (get_or ns i m) ∷ []
  along_more ns i m h = ap (along step []) (take_more ns i m h) ∙ along-push (take i ns) (get_or ns i m)

  -- from what comes before
  pub along_from : (ns : List Node) (i : ℕ) (m : Node) (d : A) → i < length ns → get_or (along step [] ns) i d ≡ step (along step [] (take i ns)) (get_or ns i m)
  along_from ns i m d h =
      let size : length (along step [] (take i ns)) ≡ i = length-along (take i ns) ∙ length-take-le i ns (omega arith) in
      sym (along_take ns i (i + 1) d (omega arith) (omega arith))
      ∙ ap (λ vs. get_or vs i d) (along_more ns i m h)
      ∙ ap (λ k. get_or (along step [] (take i ns) ++ step (along step [] (take i ns)) (get_or ns i m) ∷ []) k d) (sym size)
      ∙ get_or-append_seam (along step [] (take i ns)) (step (along step [] (take i ns)) (get_or ns i m)) [] d
