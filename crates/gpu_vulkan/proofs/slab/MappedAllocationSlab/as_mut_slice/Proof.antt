-- `as_mut_slice` lends the slice that a slab holds, and the slab follows it.
use Rattle.std.proofs.Common.{◌≡◌, ℕ, List, [], ◌∷◌, ◌++◌, refl, sym, ap, ◌∙◌, MutBor}
use Rattle.std.proofs.raw_atomic.Walks.{proved}
use Rattle.std.specs.Prelude.{length}
use base.Fraction.{full_share}
use base.Stored.{coded_list}
use base.Logic.{SProp, ent, sep, ex, emp, guard}
use base.Fml.{Lft, Share, Incl, GName, Fml, fsep, feq, ftrue, flft, fobs, fbor, fat}
use contract.Monad.{fact, fact_i}
use contract.Running.{tables}
use mir.Syntax.{Ty, named, erased}
use mir.Val.{Val, of_list, vstruct}
use seplogic.Ra.Ura.{Ura}
use types.Kit.{Item, ‵, raw, ◌⊛◌, some, later, ◌$◌, ◌∵◌, !, qed, move, keep, use0, use1, use2, use3, split, split3, join, fsplit, fsplit3, fjoin, fjoin3, fpick, fpack, feq_i, feq_l, check, pick, await, updating, now as at_once, show, suffices, frame, rewrite, done}
use types.Logic.{Logic, sem}
use types.Run.{enter, of_opd, load, addr, stop, fld, hop, no_more, and_then, returns}
use types.ByLocal.{alloc_all, pass_all, free_all, look_at, get, through, sets}
use types.Part.{agg, sub, whole, look_in}
use types.SemTy.{Arr, Body}
use types.Through.{hands_through}
use denote.Array.{Array}
use denote.Builtin.{u8}
use denote.Exit.{no}
use denote.Follow.{follows}
use denote.FollowSlice.{heres_id, slice_of}
use denote.Laws.{shows}
use denote.Memory.{lone, mem, cell_at, part_of}
use denote.RattleType.{RattleType, Valss}
use denote.Ref.{MutRef, mut_vals, mut_Tells, at_last}
use denote.Signature.{plain, mut_ref_to, named_lft}
use denote.Slice.{MutSlice, Room, room, slice_val, mut_slice_vals}
use denote.Steps.{nothing, opens, closes, peeks}
use denote.Through.{renamed}
use denote.Triple.Walked.{Stays, walk_of, stay_dropped, Goes-spent_ref, ends_at}
use Rattle.gpu_vulkan.specs.declared.slab.MappedAllocationSlab.{MappedAllocationSlab}
use Rattle.gpu_vulkan.specs.contracts.slab.MappedAllocationSlab as slab
use Rattle.gpu_vulkan.proofs.slab.MappedAllocationSlab.TheLaws.{lowers}
use Rattle.gpu_vulkan.specs.contracts.slab.MappedAllocationSlab.as_mut_slice as f
use Rattle.gpu_vulkan.proofs.slab.MappedAllocationSlab.as_mut_slice.Statement.{statement}
use Rattle.gpu_vulkan.proofs.slab.MappedAllocationSlab.as_mut_slice.Code as code

abbrev Seen : Lft → RattleType
Seen κ = slab.the_row (record { mir = named 1; lft = κ })

abbrev with_bytes : MappedAllocationSlab → List ℕ → MappedAllocationSlab
with_bytes v ws = record v { bytes = at_last v.bytes ws }

abbrev word : MutBor (List ℕ) → Val
word s = vstruct (of_list (slice_val s.ref_ptr (length s.now) ∷ []))

module _ {M : Type 1} {𝓤 : Ura M} (𝓛 : Logic 𝓤) (κ κ' : Lft) (x : MutBor MappedAllocationSlab) where
  open 𝓛 use {H, A}

  abbrev S : RattleType
  S = Seen κ'

  abbrev Sl : RattleType
  Sl = MutSlice (named 1) κ' u8

  abbrev h : MutBor (List ℕ)
  h = x.now.bytes

  abbrev n : ℕ
  n = length h.now

  abbrev Held : GName → Fml
  Held δ = Body (Arr (mem u8) n) h.ref_ptr.0 h.ref_ptr.1 δ

  abbrev Cell : Fml
  Cell = cell_at full_share S.mir (word h ∷ []) x.ref_ptr.0 x.ref_ptr.1

  abbrev Has : List ℕ → SProp 𝓤
  Has ws = sep 𝓤 (A.obs h.ghost_name ((coded_list u8.coded).code ws)) (sep 𝓤 (A.bor κ' (Held h.ghost_name)) (sem 𝓛 (fsep Cell (room u8 n))))

  counts : (ws : List ℕ) → ent 𝓤 (sem 𝓛 ((Arr (mem u8) n).own_at ws h.ref_ptr.0 h.ref_ptr.1)) (guard 𝓤 (length ws ≡ n) (sem 𝓛 ((Arr (mem u8) n).own_at ws h.ref_ptr.0 h.ref_ptr.1)))
  counts ws = qed 𝓛 (‵ ((Arr (mem u8) n).own_at ws h.ref_ptr.0 h.ref_ptr.1) ∷ []) ∵ fsplit ! $ feq_l ! (λ e. check ! e $ feq_i ! ℕ (length ws) n e $ done !)

  slab_of : (s : MutBor (List ℕ)) → ent 𝓤 (sem 𝓛 (Sl.own_val s (mut_slice_vals s))) (sem 𝓛 (S.own_val (record { bytes = s }) (word s ∷ [])))
  slab_of s =
      qed 𝓛 (‵ (Sl.own_val s (mut_slice_vals s)) ∷ []) ∵ nothing ! $ move ! (1 ∷ 0 ∷ []) $ fjoin ! $ feq_i ! (List Val) (word s ∷ []) (word s ∷ []) refl $ fjoin ! $
      fpack ! (Valss (Sl ∷ [])) (λ vss. fsep (feq (List Val) (word s ∷ []) (vstruct (of_list (vss.0 ++ [])) ∷ [])) (fsep (Sl.own_val s vss.0) ftrue)) (mut_slice_vals s, tt) $ done !

  slice_out : ent 𝓤 (sem 𝓛 ((mem S).own_at x.now x.ref_ptr.0 x.ref_ptr.1)) (Has h.now)
  unfolding part_of
  slice_out = qed 𝓛 (‵ ((mem S).own_at x.now x.ref_ptr.0 x.ref_ptr.1) ∷ []) ∵ fpick ! (λ us. fsplit ! $ move ! (1 ∷ []) $ fpick ! (λ vss. fsplit ! $ feq_l ! (λ e. fsplit ! $ fsplit3 ! $ fsplit ! $ feq_l ! (λ e'.
      -- [room; the name; the borrow; nothing; the cell]
      rewrite ! 4 (λ (ws : List Val). ‵ (cell_at full_share S.mir ws x.ref_ptr.0 x.ref_ptr.1)) (e ∙ ap (λ (ws : List Val). vstruct (of_list (ws ++ [])) ∷ []) e') refl $
      rewrite ! 1 (λ (l : List ℕ). ‵ (fobs h.ghost_name ((coded_list u8.coded).code l))) (heres_id u8 h.now) refl $ keep ! (1 ∷ 2 ∷ 4 ∷ 0 ∷ []) $ done !))))

  slice_in : (ws : List ℕ) → length ws ≡ n → ent 𝓤 (Has ws) (sem 𝓛 ((mem S).own_at (with_bytes x.now ws) x.ref_ptr.0 x.ref_ptr.1))
  unfolding part_of
  slice_in ws e = qed 𝓛 (‵ (fobs h.ghost_name ((coded_list u8.coded).code ws)) ∷ ‵ (fbor κ' (Held h.ghost_name)) ∷ ‵ (fsep Cell (room u8 n)) ∷ []) ∵
      rewrite ! 0 (λ (l : List ℕ). ‵ (fobs h.ghost_name ((coded_list u8.coded).code l))) (sym (heres_id u8 ws)) refl $
      rewrite ! 1 (λ (k : ℕ). ‵ (fbor κ' (Body (Arr (mem u8) k) h.ref_ptr.0 h.ref_ptr.1 h.ghost_name))) (sym e) refl $
      rewrite ! 2 (λ (k : ℕ). ‵ (fsep (cell_at full_share S.mir (vstruct (of_list (slice_val h.ref_ptr k ∷ [])) ∷ []) x.ref_ptr.0 x.ref_ptr.1) (room u8 k))) (sym e) refl $
      move ! (2 ∷ []) $ fsplit ! $ move ! (1 ∷ []) $ feq_i ! (List Val) (mut_slice_vals (at_last h ws)) (mut_slice_vals (at_last h ws)) refl $ fjoin ! $ move ! (0 ∷ 2 ∷ 3 ∷ []) $ fjoin3 ! $
      use1 𝓛 (‵ (S.own_val (with_bytes x.now ws) (word (at_last h ws) ∷ []))) (slab_of (at_last h ws)) $ move ! (1 ∷ 0 ∷ []) $ fjoin ! $
      fpack ! (List Val) (λ us. fsep (cell_at full_share S.mir us x.ref_ptr.0 x.ref_ptr.1) (S.own_val (with_bytes x.now ws) us)) (word (at_last h ws) ∷ []) $ done !

  abbrev LentSlice : Share → GName → SProp 𝓤
  LentSlice q γ' = sep 𝓤 (sem 𝓛 ((MutSlice (named 0) κ u8).own_val (renamed h γ') (mut_slice_vals h))) (sep 𝓤 (A.lft κ q) (sem 𝓛 (follows S (Array u8 0) x.ghost_name γ' (with_bytes x.now))))

  lends_bytes : Incl κ κ' → Room u8 n → (q : Share)
      → ent 𝓤 (sep 𝓤 (A.obs x.ghost_name (S.coded.code x.now)) (sep 𝓤 (A.bor κ (Body (mem S) x.ref_ptr.0 x.ref_ptr.1 x.ghost_name)) (A.lft κ q))) (H.⇛ (ex 𝓤 (LentSlice q)))
  lends_bytes inc rm q =
      qed 𝓛 (‵ (fobs x.ghost_name (S.coded.code x.now)) ∷ ‵ (fbor κ (Body (mem S) x.ref_ptr.0 x.ref_ptr.1 x.ghost_name)) ∷ ‵ (flft κ q) ∷ []) ∵ updating ! $
      use3 𝓛 (later (some (λ (γ' : GName). ‵ (fobs γ' ((coded_list u8.coded).code h.now)) ⊛ ‵ (fbor κ (Held γ')) ⊛ ‵ (flft κ q) ⊛ ‵ (follows S (Array u8 0) x.ghost_name γ' (with_bytes x.now)))))
      (hands_through 𝓛 (mem S) (Arr (mem u8) n) (with_bytes x.now) κ κ' inc x.ref_ptr.0 x.ref_ptr.1 h.ref_ptr.0 h.ref_ptr.1 x.ghost_name h.ghost_name (sem 𝓛 (fsep Cell (room u8 n))) (λ ws. length ws ≡ n) counts slice_in q x.now h.now slice_out) $
      await ! tt $ pick ! (λ γ'. split3 ! $ use2 𝓛 (‵ ((MutSlice (named 0) κ u8).own_val (renamed h γ') (mut_slice_vals h))) (slice_of 𝓛 u8 (named 0) κ h.ref_ptr.0 h.ref_ptr.1 γ' h.now rm) $ at_once ! $ show ! (LentSlice q) γ' $ done !)

abbrev hs : Stays f.ended.signature.params f.ended.kept
hs = (stay_dropped (mut_ref_to (0 ∷ []) tt (plain (λ κs. slab.the_row (named_lft 2 1 tt κs)))) no, tt)

pub as_mut_slice_spec : {M : Type 1} → statement M
as_mut_slice_spec 𝓤 𝓛 𝓜 𝓡 wired =
    let c = f.clauses 𝓛 𝓜.mem 𝓡.returns in let W = walk_of 𝓛 f.ended hs c in let 𝓣 = tables 𝓤 𝓛.H 𝓜 𝓡 𝓡.env in
    proved 𝓛 f.ended hs c 𝓜 𝓡 (Goes-spent_ref 𝓛 2 (0 ∷ []) tt (plain (λ κs. slab.the_row (named_lft 2 1 tt κs))), tt)
    f.Key.name code.function (code.unfolded 𝓤 𝓛.H 𝓜 𝓡 wired)
    (λ κs. (mut_vals, tt)) (λ κs. (mut_Tells (named 0) κs.0 (Seen κs.1.0), tt)) (λ κs qs bounds a _ are.
    let κ = κs.0 in let κ₁ = κs.1.0 in let r = a.0 in let b = r.ref_ptr.0 in let o = r.ref_ptr.1 in let v = r.now in let s = v.bytes in let R : RattleType = Seen κ₁ in
    let y : W.Ghost = ((κs, qs, bounds, a, (mut_vals r, tt)), tt) in
    let out : Val = slice_val s.ref_ptr (length s.now) in
    qed 𝓛 (((‵ (flft κ qs.0) ⊛ ‵ (flft κ₁ qs.1.0) ⊛ ‵ ftrue) ⊛ ‵ ((MutRef (named 0) κ R).own_val r (mut_vals r)) ⊛ ‵ ftrue) ∷ ‵ ftrue ∷ []) ∵
    split ! $ split ! $ move ! (2 ∷ []) $ split ! $ keep ! (0 ∷ 2 ∷ 3 ∷ []) $
    -- [self; its token; the other token]
    enter ! _ _ _ _ _ $ alloc_all ! (λ l. pass_all ! refl ((tt, tt), tt) $
    fsplit3 ! $ move ! (1 ∷ 2 ∷ 3 ∷ []) $ opens ! tt R b o (λ us.
    move ! (1 ∷ []) $ peeks ! R _ (shows 𝓛 R) v us (λ is.
    let rm : Room u8 (length s.now) = is.1.1.0.0.1 in
    let value : us ≡ word s ∷ [] = (lowers (record { mir = named 1; lft = κ₁ })).val_is v us is in
    let τ : Ty = lone (slab.the_row (record { mir = erased; lft = κ₁ })).mir in
    let Cell : List Val → Item 𝓤 = λ (ws : List Val). ‵ (cell_at full_share R.mir ws b o) in
    rewrite ! 1 Cell value refl $ move ! (1 ∷ []) $ use1 𝓛 (‵ (fat full_share τ b o (word s))) (𝓛.laws.raw_at full_share τ b o (word s)) $
    -- [the slab's cell; what it owns; the open borrow, in three entries; ..]
    sets ! (of_opd ! (load ! (through ! refl (fld ! refl (fld ! refl (stop !)))) (look_in ! 0 (sub ! 1 refl (sub ! 0 refl (whole !)))))) refl (tt, record { fits = rm.0 }) $
    sets ! (addr ! (through ! refl (fld ! refl (fld ! refl (hop ! (look_in ! 0 (sub ! 0 refl (sub ! 0 refl (whole !)))) (stop !)))))) refl (tt, tt) $
    sets ! (agg ! (and_then ! (get ! refl) (and_then ! (get ! refl) (no_more !)))) refl (tt, (tt, (record { fits = rm.0 }, tt))) $
    use1 𝓛 (Cell (word s ∷ [])) (𝓛.laws.at_raw full_share τ b o (word s)) $ rewrite ! 0 Cell (sym value) refl $ closes ! tt R v us b o $
    use3 𝓛 (later (some (λ (γ' : GName). ‵ ((MutSlice (named 0) κ u8).own_val (renamed s γ') (mut_slice_vals s)) ⊛ ‵ (flft κ qs.0) ⊛ ‵ (follows R (Array u8 0) r.ghost_name γ' (with_bytes v)))))
    (lends_bytes 𝓛 κ κ₁ r bounds.0 rm qs.0) $ await ! tt $ pick ! (λ γ'. split3 ! $
    -- [the slice; self's token; self follows; ..; the other token]
    returns ! (look_at ! 0 refl) $ free_all ! refl $ keep ! (1 ∷ 4 ∷ 0 ∷ 2 ∷ []) $ join ! $ move ! (1 ∷ []) $
    suffices ! _ (ends_at 𝓛 f.ended hs c y out (renamed s γ') (tt, tt) (tt, tt)) $
    nothing ! $ nothing ! $ fjoin ! $ join ! $ move ! (1 ∷ 0 ∷ []) $ join ! $ frame ! $
    use0 𝓛 (raw (fact 𝓤 (s.now ≡ s.now))) (fact_i 𝓤 (s.now ≡ s.now) (emp 𝓤) refl) $ move ! (1 ∷ 0 ∷ []) $ join ! $ done !)))))
