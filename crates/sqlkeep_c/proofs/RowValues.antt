-- The machine values of a pointer to rows. Assumes `Logic`.
use Rattle.std.proofs.Common.{◌≡◌, ℕ, List, [], ◌∷◌, ◌++◌, refl, subst}
use seplogic.Ra.Ura.{Ura}
use mir.Raw.{raw as bare}
use mir.Val.{Val, vptr, vstruct, of_list}
use base.Logic.{never, fst∗}
use types.Logic.{Logic, sem}
use types.Kit.{Item, Goal, Seq, Step, step, ‵, ◌$◌, move, drop, fsplit, fjoin, fpick, fpack, rewrite, feq_i, feq_l}
use denote.RattleType.{RattleType, Valss}
use denote.Builtin.{RawPtr}
use denote.Memory.{lone}
use denote.RawPtr.{Ptr, block_ptr, null_ptr, ptr_val, in_a_block}
use denote.Steps.{nothing}
use denote.Param.{layout}
use denote.Struct.Struct.{within}
use denote.Struct.Owning.{shape, to}
use Rattle.core.proofs.alloc.Calls.{handle_tells}
use Rattle.core.proofs.cell.Inside.{Good}
use Rattle.std_alloc.specs.Box.Ownership.{box_owns}
use Rattle.std.proofs.Common.{Option, Some, None}
use Rattle.std.specs.contracts.alloc.Global as heap
use Rattle.std.specs.contracts.impls.GlobalAllocator.TheImpl.{ghosts}
use Rattle.sqlkeep_c.specs.BehindResult.{owns_rows}
use Rattle.iv_connection.specs.contracts.results.QueryResult as opened
use Rattle.sqlkeep_c.specs.contracts.kept_rows.KeptRows as kept
use Rattle.sqlkeep_c.proofs.Values.{both, Heap, heap_al, null_val}

abbrev pub Inside : RattleType
Inside = opened.the_row

abbrev pub Kept : RattleType
Kept = kept.the_row

module _ {M : Type 1} {𝓤 : Ura M} {𝓛 : Logic 𝓤} {K : Type 0} {Γ : List (Item 𝓤)} {G : Goal 𝓤 𝓛.H} where
  pub kept_out : K → (d : Kept.Denot) (vs : List Val) (x : Inside.Denot) → d.behind ≡ Some x
      → ((b o : ℕ) (h : Val) → d.at ≡ block_ptr b o → vs ≡ both (vptr b o) h ∷ [] → Good (layout Heap) h → Seq K 𝓛 (‵ (box_owns (ghosts.dealloc_token d.alloc) Inside (block_ptr b o) x) ∷ ‵ (Heap.own_val d.alloc (h ∷ [])) ∷ Γ) G)
      → Seq K 𝓛 (‵ (Kept.own_val d vs) ∷ Γ) G
  kept_out t d vs x full k =
      fsplit t $ fpick t (λ vss. fsplit t $ feq_l t (λ ev. fsplit t $ feq_l t (λ ep. fsplit t $ handle_tells heap_al t d.alloc vss.1.0 (λ h ea fits. move t (1 ∷ []) $ drop t $ move t (1 ∷ []) $
      rewrite t 0 (λ (m : Option Inside.Denot). ‵ (owns_rows d.alloc d.at m)) full refl $
      in_a_block t d.at (λ p. box_owns (ghosts.dealloc_token d.alloc) Inside p x) (fst∗ 𝓤 (never 𝓤) (sem 𝓛 (ghosts.dealloc_token d.alloc (bare (lone Inside.mir)) null_ptr))) (λ b o e. k b o h e
      (subst (λ (p : Ptr). vs ≡ vstruct (of_list (ptr_val p ∷ h ∷ [])) ∷ []) e
      (subst (λ (ws : List Val). vs ≡ vstruct (of_list (ptr_val d.at ∷ (ws ++ []))) ∷ []) ea (subst (λ (ps : List Val). vs ≡ vstruct (of_list (ps ++ (vss.1.0 ++ []))) ∷ []) ep ev))) fits)))))

  pub kept_in : K → (b o : ℕ) (h : Val) (a : Heap.Denot) (x : Inside.Denot)
      → Step K 𝓛 (‵ (Kept.own_val (record { at = block_ptr b o; alloc = a; behind = Some x }) (both (vptr b o) h ∷ [])) ∷ Γ) G (‵ (box_owns (ghosts.dealloc_token a) Inside (block_ptr b o) x) ∷ ‵ (Heap.own_val a (h ∷ [])) ∷ Γ) G
  kept_in t b o h a x = step (λ s. let v : Val = both (vptr b o) h in
      nothing t $ move t (2 ∷ 0 ∷ []) $ fjoin t $ feq_i t (List Val) (vptr b o ∷ []) (vptr b o ∷ []) refl $ fjoin t $ feq_i t (List Val) (v ∷ []) (v ∷ []) refl $ fjoin t $
      fpack t (Valss (RawPtr ∷ (heap.the_field).row ∷ [])) (within (shape kept.the_type) (to kept.the_type (record { at = block_ptr b o; alloc = a; behind = Some x })) (v ∷ [])) (vptr b o ∷ [], (h ∷ [], tt)) $ fjoin t $ s)

  pub kept_none : K → (h : Val) (a : Heap.Denot)
      → Step K 𝓛 (‵ (Kept.own_val (record { at = null_ptr; alloc = a; behind = None }) (both null_val h ∷ [])) ∷ Γ) G (‵ (Heap.own_val a (h ∷ [])) ∷ Γ) G
  kept_none t h a = step (λ s. let v : Val = both null_val h in
      nothing t $ nothing t $ move t (2 ∷ 0 ∷ []) $ fjoin t $ feq_i t (List Val) (null_val ∷ []) (null_val ∷ []) refl $ fjoin t $ feq_i t (List Val) (v ∷ []) (v ∷ []) refl $ fjoin t $
      fpack t (Valss (RawPtr ∷ (heap.the_field).row ∷ [])) (within (shape kept.the_type) (to kept.the_type (record { at = null_ptr; alloc = a; behind = None })) (v ∷ [])) (null_val ∷ [], (h ∷ [], tt)) $ fjoin t $ s)
