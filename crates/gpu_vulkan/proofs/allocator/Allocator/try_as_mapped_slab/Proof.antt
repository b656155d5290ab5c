-- `try_as_mapped_slab` lends a piece's bytes in a slab, or nothing, and the allocator follows them.
use Rattle.std.proofs.Common.{◌≡◌, ℕ, List, [], ◌∷◌, ◌++◌, Bool, refl, sym, ap, subst, ◌∙◌, ◌↔◌, lit<, MutBor, IsSome, IsTrue, IfSome, OnSome}
use Rattle.std.proofs.lemmas.Bool.{false≢true}
use Rattle.std.proofs.raw_atomic.Walks.{proved}
use Rattle.std.proofs.VecSteps.Element.{Some-of, none_of}
use Rattle.std.proofs.VecSteps.Shapes.{after}
use Rattle.std.specs.Prelude.{Option, Some, None, length}
use Rattle.std.specs.contracts.option.Option as OP
use Prim.Native.Nat.{◌^◌}
use lib.Ieee.Bits.{is_true, is_false}
use seplogic.Ra.Ura.{Ura}
use base.Logic.{SProp, ent, sep, id⊢, emp}
use types.Logic.{Logic, sem}
use prog.Memory.{Memory}
use prog.Routine.{Routine}
use contract.Monad.{Fun}
use base.Fml.{Lft, feq, fsep, ftrue, flft, fres, GName}
use contract.BorrowLft.{◌⊑◌}
use contract.Monad.{fact, fact_i}
use contract.Running.{tables}
use mir.MapTy.{inst_fn}
use mir.Syntax.{Args, Dict, Fn, named, a_type, dcons, dnil}
use mir.Val.{Val, of_list, vstruct}
use types.Kit.{Item, mean, by, ‵, raw, ◌⊛◌, some, later, at_ret, ◌$◌, ◌∵◌, !, qed, done, move, keep, drop, use0, use1, split, split3, join, fsplit, fsplit3, fjoin, fjoin3, fpick, fpack, feq_i, feq_l, flt_i, flt_l, pick, await, suffices, frame, rewrite}
use types.Run.{enter, of_opd, lit, addr, stop, fld, no_more, and_then, first, branches, exec, returns}
use types.ByLocal.{alloc_all, pass_all, free_all, look_at, get, get_in, through, sets, sets_last, lands_as, env}
use types.Part.{agg, sub, whole}
use types.Match.{live}
use denote.Array.{Array}
use denote.Builtin.{u8, bool}
use denote.Exit.{yes, no}
use denote.Follow.{follows, follows_by}
use denote.Param.{param, bounded}
use denote.Ref.{MutRef, mut_vals, mut_Tells, ShrRef, shr_vals, shr_Tells, shr_copy}
use denote.RattleType.{RattleType, Valss}
use denote.Signature.{plain, mut_ref_to, shr_ref_to}
use denote.Slice.{MutSlice, slice_val, mut_slice_vals}
use denote.Steps.{nothing, heard, only}
use denote.Struct.Tuple.{Tuple}
use denote.Triple.Call.{calls_at}
use denote.Triple.Clauses.{Lasts, lasts, Ended, Clauses}
use denote.Triple.Entry.{Args as Arguments}
use contract.Lifetimes.{Lfts, Shares, AllOutlive}
use denote.Triple.Spec.{triple_of}
use denote.Triple.Table.{framed}
use denote.Triple.Walked.{Stays, walk_of, stay_dropped, Goes-dropped, Goes-spent_ref, ends_at}
use Rattle.gpu_device.specs.declared.vulkan.device.VulkanDevice.{Ghosts}
use Rattle.gpu_vulkan.specs.Lends.{written_at, ChangesOnly}
use Rattle.gpu_vulkan.specs.Live.{IsMapped, bytes_at}
use Rattle.gpu_vulkan.specs.Step.{IsStep, Write}
use Rattle.gpu_vulkan.specs.Reply.{Done}
use Rattle.gpu_vulkan.specs.State.{State}
use Rattle.gpu_vulkan.specs.declared.allocation.Allocation.{Allocation}
use Rattle.gpu_vulkan.specs.declared.slab.MappedAllocationSlab.{MappedAllocationSlab}
use Rattle.gpu_vulkan.specs.contracts.allocation.Allocation.{the_row as Ra}
use Rattle.gpu_vulkan.specs.contracts.allocator.Allocator.{the_row}
use Rattle.gpu_vulkan.specs.contracts.slab.MappedAllocationSlab as slab
use Rattle.gpu_vulkan.proofs.allocation.Allocation.TheLaws.{the_row_laws}
use Rattle.gpu_vulkan.specs.contracts.allocator.Allocator.try_as_mapped_slab as f
use Rattle.gpu_vulkan.proofs.allocator.Allocator.try_as_mapped_slab.Statement.{statement}
use Rattle.gpu_vulkan.proofs.allocator.Allocator.try_as_mapped_slab.Code as code
use Rattle.gpu_vulkan.specs.contracts.allocator.Allocator.with_mapped_found as looked
use Rattle.gpu_vulkan.proofs.allocator.Allocator.with_mapped_found.Met as looked_met
use Rattle.gpu_vulkan.specs.contracts.allocator.Allocator.slice_mut as lends
use Rattle.gpu_vulkan.proofs.allocator.Allocator.slice_mut.Met as lends_met

abbrev no_slab : Option MappedAllocationSlab
no_slab = None

shown : {M : Type 1} (𝓤 : Ura M) {φ : Type 0} → φ → ent 𝓤 (emp 𝓤) (fact 𝓤 φ)
shown 𝓤 {φ} x = fact_i 𝓤 φ (emp 𝓤) x

abbrev Seen : Lft → RattleType
Seen κ = slab.the_row (record { mir = named 0; lft = κ })

abbrev Slice : Lft → RattleType
Slice κ = MutSlice (named 0) κ u8

abbrev word : MutBor (List ℕ) → Val
word s = vstruct (of_list (slice_val s.ref_ptr (length s.now) ∷ []))

slab_of : {M : Type 1} {𝓤 : Ura M} (𝓛 : Logic 𝓤) (κ : Lft) (s : MutBor (List ℕ))
    → ent 𝓤 (sem 𝓛 ((Slice κ).own_val s (mut_slice_vals s))) (sem 𝓛 ((Seen κ).own_val (record { bytes = s }) (word s ∷ [])))
slab_of {𝓤 = 𝓤} 𝓛 κ s =
    qed 𝓛 (‵ ((Slice κ).own_val s (mut_slice_vals s)) ∷ []) ∵ nothing ! $ move ! (1 ∷ 0 ∷ []) $ fjoin ! $ feq_i ! (List Val) (word s ∷ []) (word s ∷ []) refl $ fjoin ! $
    fpack ! (Valss (Slice κ ∷ [])) (λ vss. fsep (feq (List Val) (word s ∷ []) (vstruct (of_list (vss.0 ++ [])) ∷ [])) (fsep ((Slice κ).own_val s vss.0) ftrue)) (mut_slice_vals s, tt) $ done !

module _ (D : RattleType) (d : Ghosts D.Denot) (dict : Dict) where
  abbrev Mapped : Allocation → State D.Denot → Type 0
  Mapped p s = IsMapped s.setup.properties s.slots p

  abbrev Value : Allocation → MutBor (List ℕ) → State D.Denot → Type 0
  Value p b s = bytes_at (d.held s.device) p ≡ Some b.now

  abbrev Long : Allocation → MutBor (List ℕ) → Type 0
  Long p b = length b.now ≡ p.size

  abbrev Isolated : Allocation → State D.Denot → Type 0
  Isolated p s = (ws : List ℕ) → length ws ≡ p.size → ChangesOnly d s p ws (written_at d s p ws)

  abbrev Stepped : Allocation → State D.Denot → Type 0
  Stepped p s = (ws : List ℕ) → length ws ≡ p.size → IsStep d (Write p ws) Done s (written_at d s p ws)

  abbrev R : RattleType
  R = the_row (param 0 D) d

  abbrev En : Ended
  En = f.ended D d dict

  abbrev hs : Stays En.signature.params En.kept
  hs = (stay_dropped (mut_ref_to (0 ∷ []) tt (plain (λ _. R))) no, (stay_dropped (shr_ref_to (1 ∷ []) tt (plain (λ _. Ra))) yes, tt))

  module _ {M : Type 1} {𝓤 : Ura M} (𝓛 : Logic 𝓤) (at_mem : Memory → SProp 𝓤) (run : Routine → Fun 𝓤) where
    abbrev c : Clauses 𝓤 En
    c = f.clauses D d dict 𝓛 at_mem run

    module _ (κs : Lfts 3) (qs : Shares 3) (bounds : AllOutlive 3 En.signature.outlives κs) (a : Arguments En.signature κs) where
      abbrev y : (walk_of 𝓛 En hs c).Ghost
      y = ((κs, qs, bounds, a, (mut_vals a.0, (shr_vals a.1.0, tt))), tt)

      abbrev toks : Item 𝓤
      toks = ‵ (flft κs.0 qs.0) ⊛ ‵ (flft κs.1.0 qs.1.0) ⊛ ‵ (flft κs.1.1.0 qs.1.1.0) ⊛ ‵ ftrue

      -- with the bytes
      exits : (s : MutBor (List ℕ)) → Mapped a.1.0.now a.0.now → Value a.1.0.now s a.0.now → Long a.1.0.now s → Isolated a.1.0.now a.0.now → Stepped a.1.0.now a.0.now
          → ent 𝓤 (sep 𝓤 (sem 𝓛 ((Slice κs.0).own_val s (mut_slice_vals s))) (sep 𝓤 (mean 𝓛 toks) (sem 𝓛 (follows R (Array u8 0) a.0.ghost_name s.ghost_name (written_at d a.0.now a.1.0.now)))))
          ((walk_of 𝓛 En hs c).post y (live 1 (of_list (word s ∷ []))))
      unfolding follows_by
      exits s mapped value long isolated stepped =
          let out : Val = live 1 (of_list (word s ∷ [])) in let w : MappedAllocationSlab = record { bytes = s } in
          qed 𝓛 (‵ ((Slice κs.0).own_val s (mut_slice_vals s)) ∷ toks ∷ ‵ (follows R (Array u8 0) a.0.ghost_name s.ghost_name (written_at d a.0.now a.1.0.now)) ∷ []) ∵
          use1 𝓛 (‵ ((Seen κs.0).own_val w (word s ∷ []))) (slab_of 𝓛 κs.0 s) $ use1 𝓛 (‵ ((OP.the_row (Seen κs.0)).own_val (Some w) (out ∷ []))) (Some-of 𝓛 (Seen κs.0) w (word s)) $
          suffices ! _ (ends_at 𝓛 En hs c y out (Some w) (tt, (tt, tt)) (tt, (tt, tt))) $
          nothing ! $ nothing ! $ fjoin ! $ nothing ! $ fjoin ! $ join ! $ move ! (1 ∷ 0 ∷ []) $ join ! $ frame ! $
          use0 𝓛 (raw (fact 𝓤 (IsSome (Some w) ↔ Mapped a.1.0.now a.0.now))) (shown 𝓤 (λ _. mapped, λ _. refl)) $
          use0 𝓛 (raw (fact 𝓤 (Value a.1.0.now s a.0.now))) (shown 𝓤 value) $ use0 𝓛 (raw (fact 𝓤 (Long a.1.0.now s))) (shown 𝓤 long) $
          use0 𝓛 (raw (fact 𝓤 (Isolated a.1.0.now a.0.now))) (shown 𝓤 isolated) $ use0 𝓛 (raw (fact 𝓤 (Stepped a.1.0.now a.0.now))) (shown 𝓤 stepped) $
          -- [step; isolated; len; value; mapped; follows]
          move ! (1 ∷ 0 ∷ []) $ join ! $ move ! (1 ∷ 0 ∷ []) $ join ! $ move ! (1 ∷ 0 ∷ []) $ join ! $ move ! (1 ∷ 0 ∷ []) $ join ! $ move ! (1 ∷ 0 ∷ []) $ join ! $ done !

      -- without
      leaves : (Mapped a.1.0.now a.0.now → ⊥) → ent 𝓤 (sep 𝓤 (sem 𝓛 (fres a.0.ghost_name (R.coded.code a.0.now))) (mean 𝓛 toks)) ((walk_of 𝓛 En hs c).post y (live 0 (of_list [])))
      unfolding follows_by
      leaves unmapped =
          let out : Val = live 0 (of_list []) in
          qed 𝓛 (‵ (fres a.0.ghost_name (R.coded.code a.0.now)) ∷ toks ∷ []) ∵ move ! (1 ∷ []) $
          use0 𝓛 (‵ ((OP.the_row (Seen κs.0)).own_val None (out ∷ []))) (none_of 𝓛 (Seen κs.0)) $
          suffices ! _ (ends_at 𝓛 En hs c y out None (tt, (tt, tt)) (tt, (tt, tt))) $
          nothing ! $ nothing ! $ fjoin ! $ nothing ! $ fjoin ! $ join ! $ move ! (1 ∷ 0 ∷ []) $ join ! $ frame ! $
          use0 𝓛 (raw (fact 𝓤 (IsSome no_slab ↔ Mapped a.1.0.now a.0.now))) (shown 𝓤 (λ e. absurd (false≢true e), λ m. absurd (unmapped m))) $
          use0 𝓛 (raw (fact 𝓤 (IfSome no_slab (λ w. Value a.1.0.now w.bytes a.0.now)))) (shown 𝓤 tt) $ use0 𝓛 (raw (fact 𝓤 (IfSome no_slab (λ w. Long a.1.0.now w.bytes)))) (shown 𝓤 tt) $
          use0 𝓛 (raw (fact 𝓤 (OnSome no_slab (Isolated a.1.0.now a.0.now)))) (shown 𝓤 tt) $ use0 𝓛 (raw (fact 𝓤 (OnSome no_slab (Stepped a.1.0.now a.0.now)))) (shown 𝓤 tt) $
          move ! (1 ∷ 0 ∷ []) $ join ! $ move ! (1 ∷ 0 ∷ []) $ join ! $ move ! (1 ∷ 0 ∷ []) $ join ! $ move ! (1 ∷ 0 ∷ []) $ join ! $ move ! (1 ∷ 0 ∷ []) $ join ! $ done !

pub try_as_mapped_slab_spec : {M : Type 1} → statement M
try_as_mapped_slab_spec 𝓤 𝓛 𝓜 𝓡 wired D LD d dict met =
    let args : Args = bounded (a_type ∷ []) (D, tt) (dcons dict dnil) in let fn : Fn = inst_fn args code.function in
    let E = En D d dict in let k = c D d dict 𝓛 𝓜.mem 𝓡.returns in let R' : RattleType = R D d dict in let stays = hs D d dict in let 𝓣 = tables 𝓤 𝓛.H 𝓜 𝓡 𝓡.env in
    let W = walk_of 𝓛 E stays k in
    proved 𝓛 E stays k 𝓜 𝓡 (Goes-spent_ref 𝓛 3 (0 ∷ []) tt (plain (λ _. R')), (Goes-dropped 𝓛 3 (shr_ref_to (1 ∷ []) tt (plain (λ _. Ra))) yes (λ κs x f. refl), tt))
    (f.Key.name args) fn (code.unfolded 𝓤 𝓛.H 𝓜 𝓡 wired (D, tt) dict)
    (λ κs. (mut_vals, (shr_vals, tt))) (λ κs. (mut_Tells (named 0) κs.0 R', (shr_Tells (named 1) κs.1.0 Ra, tt))) (λ κs qs bounds a _ are.
    let r = a.0 in let p = a.1.0 in let s₀ = r.now in let alive : Type 0 = κs.1.1.0 ⊑ D.lives in
    let Mine : MutBor (State D.Denot) → Item 𝓤 = λ (x : MutBor (State D.Denot)). ‵ ((MutRef (named 0) κs.0 R').own_val x (mut_vals x)) in
    let Piece : Item 𝓤 = ‵ ((ShrRef (named 1) κs.1.0 Ra).own_val p (shr_vals p)) in
    let Pair : RattleType = Tuple (MutRef (named 0) κs.0 R' ∷ bool ∷ []) in
    let ts : Item 𝓤 = toks D d dict 𝓛 𝓜.mem 𝓡.returns κs qs bounds a in
    let y : W.Ghost = ((κs, qs, bounds, a, (mut_vals r, (shr_vals p, tt))), tt) in
    let Post = W.post y in
    qed 𝓛 ((ts ⊛ Mine r ⊛ Piece ⊛ ‵ ftrue) ∷ (raw (fact 𝓤 alive) ⊛ ‵ ftrue) ∷ []) ∵
    split ! $ move ! (2 ∷ []) $ split ! $ heard ! _ (λ lives. drop ! $ move ! (1 ∷ []) $ split3 ! $ move ! (2 ∷ []) $ drop ! $ move ! (1 ∷ []) $
    use1 𝓛 (Piece ⊛ Piece) ((shr_copy 𝓛 (named 1) κs.1.0 Ra the_row_laws.shr_laws).twice p (shr_vals p)) $ split ! $
    -- [the piece; the piece; self; the tokens]
    enter ! _ _ _ _ _ $ alloc_all ! (λ l. pass_all ! refl ((tt, tt), ((tt, tt), tt)) $
    sets ! (addr ! (through ! refl (stop !))) refl (tt, tt) $
    let G₁ = triple_of 𝓛 (looked.signature D d dict) (looked.spec D d dict 𝓛 𝓜.mem 𝓡.returns) in
    let z₁ : G₁.Ghost = ((κs, qs, bounds, a, (mut_vals r, (shr_vals p, tt))), tt) in
    nothing ! $ move ! (1 ∷ 0 ∷ []) $ join ! $ move ! (2 ∷ 0 ∷ []) $ join ! $ move ! (2 ∷ 0 ∷ []) $ join ! $
    nothing ! $ use0 𝓛 (raw (fact 𝓤 alive)) (shown 𝓤 lives) $ join ! $ move ! (1 ∷ 0 ∷ []) $ join ! $ use1 𝓛 (raw (G₁.pre z₁)) (id⊢ 𝓤 _) $
    calls_at ! (framed 𝓤 𝓛.H 𝓜 𝓣) G₁ (looked_met.met 𝓤 𝓛 𝓜 𝓡 (code.calls-gpu_vulkan::allocator::Allocator::with_mapped_found 𝓡.env wired) D LD d dict met) z₁
    (and_then ! (get ! refl) (and_then ! (get ! refl) (no_more !))) (λ v.
    use1 𝓛 (later (some (λ (t : MutBor (State D.Denot) × Bool). (ts ⊛ ‵ (Pair.own_val t (v ∷ []))) ⊛
    some (λ (ws : Lasts (looked.ended D d dict) κs a). ‵ (lasts (looked.ended D d dict) κs a ws) ⊛ (raw (fact 𝓤 (t.0.ghost_name ≡ r.ghost_name)) ⊛ (raw (fact 𝓤 (t.0.now ≡ s₀)) ⊛ raw (fact 𝓤 (IsTrue t.1 ↔ Mapped D d dict p.now s₀)))))))) (id⊢ 𝓤 _) $
    await ! tt $ pick ! (λ t. split ! $ move ! (1 ∷ []) $ pick ! (λ ws. split3 ! $ drop ! $ heard ! _ (λ same. split ! $ heard ! _ (λ unchanged. heard ! _ (λ found.
    split ! $ move ! (1 ∷ []) $ fpick ! (λ vss. fsplit ! $ feq_l ! (λ eu. fsplit ! $ fsplit3 ! $ feq_l ! (λ em. feq_i ! (List Val) (mut_vals t.0) (mut_vals t.0) refl $ fjoin3 ! $
    move ! (1 ∷ []) $ fsplit ! $ feq_l ! (λ eb. drop ! $
    -- [self; the tokens; the piece]
    lands_as ! (ap only (eu ∙ (λ j. vstruct (of_list (em j ++ (eb j ++ []))) ∷ []))) refl (tt, (tt, (tt, tt))) $
    sets ! (of_opd ! (get_in ! (fld ! refl (stop !)) (sub ! 0 refl (whole !)))) refl (tt, tt) $
    sets ! (of_opd ! (get_in ! (fld ! refl (stop !)) (sub ! 1 refl (whole !)))) refl (tt, tt) $
    sets ! (of_opd ! (get ! refl)) refl (tt, tt) $
    first ! $ branches ! (get ! refl)
    (λ yes'. let mapped : Mapped D d dict p.now s₀ = found.0 (is_true t.1 yes') in
    sets ! (addr ! (through ! refl (stop !))) refl (tt, tt) $
    let G₂ = triple_of 𝓛 (lends.signature D d dict) (lends.spec D d dict 𝓛 𝓜.mem 𝓡.returns) in
    let z₂ : G₂.Ghost = ((κs, qs, bounds, (t.0, (p, tt)), (mut_vals t.0, (shr_vals p, tt))), tt) in
    nothing ! $ move ! (3 ∷ 0 ∷ []) $ join ! $ move ! (1 ∷ 0 ∷ []) $ join ! $ move ! (1 ∷ 0 ∷ []) $ join ! $
    use0 𝓛 (raw (fact 𝓤 (Mapped D d dict p.now t.0.now))) (shown 𝓤 (subst (Mapped D d dict p.now) (sym unchanged) mapped)) $
    use0 𝓛 (raw (fact 𝓤 alive)) (shown 𝓤 lives) $ join ! $ move ! (1 ∷ 0 ∷ []) $ join ! $ use1 𝓛 (raw (G₂.pre z₂)) (id⊢ 𝓤 _) $
    calls_at ! (framed 𝓤 𝓛.H 𝓜 𝓣) G₂ (lends_met.met 𝓤 𝓛 𝓜 𝓡 (code.calls-gpu_vulkan::allocator::Allocator::slice_mut 𝓡.env wired) D LD d dict met) z₂
    (and_then ! (get ! refl) (and_then ! (get ! refl) (no_more !))) (λ u.
    use1 𝓛 (later (some (λ (s : MutBor (List ℕ)). (ts ⊛ ‵ ((Slice κs.0).own_val s (u ∷ []))) ⊛
    some (λ (ws' : Lasts (lends.ended D d dict) κs (t.0, (p, tt))). ‵ (lasts (lends.ended D d dict) κs (t.0, (p, tt)) ws') ⊛
    (‵ (follows R' (Array u8 0) t.0.ghost_name s.ghost_name (written_at d t.0.now p.now)) ⊛ (raw (fact 𝓤 (Value D d dict p.now s t.0.now)) ⊛ (raw (fact 𝓤 (Long D d dict p.now s)) ⊛ (raw (fact 𝓤 (Isolated D d dict p.now t.0.now)) ⊛ raw (fact 𝓤 (Stepped D d dict p.now t.0.now)))))))))) (id⊢ 𝓤 _) $
    await ! tt $ pick ! (λ s. split ! $ move ! (1 ∷ []) $ pick ! (λ ws'. split3 ! $ drop ! $ move ! (1 ∷ []) $ split3 ! $ heard ! _ (λ value. heard ! _ (λ long. split ! $ heard ! _ (λ isolated. heard ! _ (λ stepped.
    rewrite ! 0 (λ (γ : GName). ‵ (follows R' (Array u8 0) γ s.ghost_name (written_at d t.0.now p.now))) same refl $
    rewrite ! 0 (λ (s' : State D.Denot). ‵ (follows R' (Array u8 0) r.ghost_name s.ghost_name (written_at d s' p.now))) unchanged refl $
    -- [follows; the tokens and the slice]
    move ! (1 ∷ []) $ split ! $ move ! (1 ∷ []) $ fsplit ! $ fsplit ! $ feq_l ! (λ is. fsplit ! $ flt_l ! (λ few.
    let sv : Val = slice_val s.ref_ptr (length s.now) in
    flt_i ! (length s.now) (2 ^ 64) few $ fjoin ! $ feq_i ! (List Val) (sv ∷ []) (mut_slice_vals s) refl $ fjoin ! $ fjoin ! $
    -- [the slice; the tokens; follows]
    lands_as ! (ap only is) refl (tt, (tt, (record { fits = few }, tt))) $
    sets ! (agg ! (and_then ! (get ! refl) (no_more !))) refl (tt, ((tt, (record { fits = few }, tt)), tt)) $
    sets_last ! (agg ! (and_then ! (lit ! tt) (and_then ! (get ! refl) (no_more !)))) refl (tt, (record { fits = lit< tt }, (((tt, (record { fits = few }, tt)), tt), tt))) $
    exec ! 𝓣.C 𝓣.Λ (env fn.locals l) (after 6 fn.body) (at_ret _ Post) $
    sets ! (of_opd ! (get ! refl)) refl (tt, (record { fits = lit< tt }, (((tt, (record { fits = few }, tt)), tt), tt))) $
    returns ! (look_at ! 0 refl) $ free_all ! refl $
    keep ! (0 ∷ 1 ∷ 2 ∷ []) $ by ! (exits D d dict 𝓛 𝓜.mem 𝓡.returns κs qs bounds a s mapped (subst (Value D d dict p.now s) unchanged value) long (subst (Isolated D d dict p.now) unchanged isolated) (subst (Stepped D d dict p.now) unchanged stepped))))))))))))
    (λ no'. sets_last ! (agg ! (and_then ! (lit ! tt) (no_more !))) refl (tt, (record { fits = lit< tt }, tt)) $
    exec ! 𝓣.C 𝓣.Λ (env fn.locals l) (after 6 fn.body) (at_ret _ Post) $
    sets ! (of_opd ! (get ! refl)) refl (tt, (record { fits = lit< tt }, tt)) $
    returns ! (look_at ! 0 refl) $ free_all ! refl $
    fsplit3 ! $ keep ! (1 ∷ 3 ∷ []) $ use1 𝓛 (‵ (fres t.0.ghost_name (R'.coded.code t.0.now))) (𝓛.names.obs-res t.0.ghost_name (R'.coded.code t.0.now)) $
    rewrite ! 0 (λ (γ : GName). ‵ (fres γ (R'.coded.code t.0.now))) same refl $ rewrite ! 0 (λ (s' : State D.Denot). ‵ (fres r.ghost_name (R'.coded.code s'))) unchanged refl $
    -- [self's last value; the tokens]
    by ! (leaves D d dict 𝓛 𝓜.mem 𝓡.returns κs qs bounds a (λ m. false≢true (sym (is_false t.1 no') ∙ found.1 m)))))))))))))))))
