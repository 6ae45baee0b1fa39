-- `Boxed` among the types that may hold the type that holds them: the type former that is the type itself, and that
-- a boxed value in memory is that of the value.
use mathlib.Core.Path.{refl}
use mathlib.Core.Former.{Former, this, const, pair, via}
use base.Stored.{gnil}
use base.Fml.{ftrue}
use denote.RattleType.{RattleType}
use denote.Memory.{part_of}
use denote.RawPtr.{Ptr}
use denote.Sharing.{nothing}
use denote.HoleLaws.{Alike}
use denote.HolePlaces.{Recodes, struct_places, laid, one_value}
use denote.Hole.Fix.{over}
use denote.Param.Weighed.{Weighed}
use denote.Model.Placed.{view_places}
use Rattle.std.specs.declared.boxed.Box.{Box}
use Rattle.std.specs.contracts.boxed.Box as box
use Rattle.std.specs.declared.alloc.Global.{Global}
use Rattle.std.specs.contracts.alloc.Global as heap
use Rattle.std.specs.contracts.impls.GlobalAllocator.TheImpl.{ghosts}
use Rattle.civl_tree.specs.declared.boxed.Boxed.TheInside.{Inside}
use Rattle.civl_tree.specs.declared.boxed.Boxed.TheView.{view, invariant}
use Rattle.civl_tree.specs.contracts.boxed.Boxed as C
use Rattle.civl_tree.specs.contracts.boxed.Boxed.TheInside as I

abbrev pub the_former : Former {0} → Former {0}
the_former content = content

abbrev pub the_weighed : {content : Former {0}} → Weighed content → Weighed (the_former content)
the_weighed weight = weight

-- the one field: a box, which is a pointer, an allocator and the value
abbrev fields : Former {0}
fields = via (pair (const (Ptr × Global)) this) Inside (λ X a. ((a.inner.ptr, a.inner.alloc), a.inner.value))
    (λ X v. record { inner = record { ptr = v.0.0; alloc = v.0.1; value = v.1 } }) (λ X a. refl) (λ X v. refl)

abbrev holding : {X Y : Type 0} → Box X Global → Y → Box Y Global
holding b y = record { ptr = b.ptr; alloc = b.alloc; value = y }

abbrev row_of : RattleType → RattleType
row_of R = box.the_row R heap.the_row ghosts

module _ (R S : RattleType) (h : R.Denot → S.Denot) where
  boxes_alike : Alike R S h → Alike (row_of R) (row_of S) (λ b. holding b (h b.value))
  unfolding part_of
  boxes_alike alike = record {
    mir_same = λ i. (row_of (one_value R (alike.mir_same i) (λ _. ftrue) (λ _ _. nothing) gnil)).mir;
    own_same = λ b i. (row_of (one_value R (alike.mir_same i) (alike.own_same b.value i) (alike.shr_same b.value i) gnil)).own_val (holding b tt);
    shr_same = λ b i. (row_of (one_value R (alike.mir_same i) (alike.own_same b.value i) (alike.shr_same b.value i) gnil)).shr_at (holding b tt);
  }

  pub the_places : Alike R S h → Alike (C.the_row R) (C.the_row S) ((the_former this).map R.Denot S.Denot h)
  the_places alike =
      let boxes = laid _ _ _ (boxes_alike alike) in
      view_places fields this view (λ X Y k u. refl) (λ X u. refl) R.Denot S.Denot h (C.the_row R).coded (C.the_row S).coded
      (invariant R.Denot) (invariant S.Denot) (λ u p q. refl) (λ u p q. refl) (λ u e. tt) (λ u e. tt)
      (over (I.the_row R)) (over (I.the_row S))
      (struct_places (I.the_type R) (I.the_type S) ((λ b. holding b (h b.value)), tt) _ (λ d. refl) refl (boxes, tt))

  pub the_codes_placed : Recodes R S h → Recodes (C.the_row R) (C.the_row S) ((the_former this).map R.Denot S.Denot h)
  the_codes_placed recodes value = recodes value
