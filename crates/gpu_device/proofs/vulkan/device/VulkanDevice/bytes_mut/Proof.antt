-- `bytes_mut` lends a range or nothing, and the device follows it.
use Rattle.std.proofs.Common.{◌≡◌, ℕ, List, [], ◌∷◌, ◌++◌, Bool, refl, sym, ap, subst, ◌∙◌, ◌↔◌, lit<, MutBor, IsSome, IsTrue, IfSome}
use Rattle.std.proofs.lemmas.Bool.{false≢true}
use Rattle.std.proofs.raw_atomic.Walks.{proved}
use Rattle.std.proofs.VecSteps.Element.{Some-of, none_of}
use Rattle.std.proofs.VecSteps.Shapes.{after}
use Rattle.std.specs.Prelude.{Option, Some, None, length}
use Rattle.std.specs.contracts.option.Option as OP
use Prim.Native.Nat.{◌^◌}
use lib.Ieee.Bits.{is_true, is_false}
use seplogic.Ra.Ura.{Ura}
use base.Logic.{ent, id⊢, emp}
use base.Fml.{ftrue, flft, fres, GName}
use contract.BorrowLft.{◌⊑◌}
use contract.Monad.{fact, fact_i}
use contract.Running.{tables}
use mir.MapTy.{inst_fn}
use mir.Syntax.{Args, Fn, named, w64, a_type, dcons, dnil}
use mir.Val.{Val, of_list, vstruct}
use types.Kit.{Item, ‵, raw, ◌⊛◌, some, later, at_ret, ◌$◌, ◌∵◌, !, qed, done, move, keep, drop, use0, use1, split, split3, join, fsplit, fsplit3, fjoin, fjoin3, fpick, feq_i, feq_l, flt_i, flt_l, pick, await, suffices, frame, rewrite}
use types.Run.{enter, of_opd, lit, addr, stop, fld, no_more, and_then, first, branches, exec, returns}
use types.ByLocal.{alloc_all, pass_all, free_all, look_at, get, get_in, through, sets, sets_last, lands_as, env}
use types.Part.{agg, sub, whole}
use types.Match.{live}
use denote.Array.{Array}
use denote.Builtin.{u8, u64, bool}
use denote.Exit.{yes, no}
use denote.Follow.{follows, follows_by}
use denote.Param.{param, bounded}
use denote.Plain.{uint_vals, uint_Tells, uint_Makes}
use denote.Ref.{MutRef, mut_vals, mut_Tells}
use denote.RattleType.{RattleType}
use denote.Signature.{plain, mut_ref_to}
use denote.Slice.{MutSlice, slice_val, mut_slice_vals}
use denote.Steps.{nothing, heard, only, owned}
use denote.Struct.Laws.{vals as memory_vals, tells as memory_tells, makes as memory_makes}
use denote.Struct.Tuple.{Tuple}
use denote.Triple.Call.{calls_at}
use denote.Triple.Clauses.{Lasts, lasts}
use denote.Triple.Spec.{triple_of}
use denote.Triple.Table.{framed}
use denote.Triple.Walked.{Stays, walk_of, stay_dropped, Goes-dropped, Goes-spent_ref, ends_at}
use Rattle.gpu_device.specs.Held.{range_of}
use Rattle.gpu_device.specs.declared.vulkan.types.DeviceMemory.{DeviceMemory}
use Rattle.gpu_device.specs.contracts.vulkan.types.DeviceMemory.{the_row as Memory, the_type}
use Rattle.gpu_device.proofs.vulkan.types.DeviceMemory.TheLaws.{the_laws, the_plain}
use Rattle.gpu_device.specs.contracts.vulkan.device.VulkanDevice.bytes_mut as f
use Rattle.gpu_device.proofs.vulkan.device.VulkanDevice.bytes_mut.Statement.{statement}
use Rattle.gpu_device.proofs.vulkan.device.VulkanDevice.bytes_mut.Code as code
use Rattle.gpu_device.specs.contracts.vulkan.device.VulkanDevice.with_range_found as looked
use Rattle.gpu_device.proofs.vulkan.device.VulkanDevice.with_range_found.Met as looked_met
use Rattle.gpu_device.specs.contracts.vulkan.device.VulkanDevice.range_mut as lends

abbrev no_slice : Option (MutBor (List ℕ))
no_slice = None

shown : {M : Type 1} (𝓤 : Ura M) {φ : Type 0} → φ → ent 𝓤 (emp 𝓤) (fact 𝓤 φ)
shown 𝓤 {φ} x = fact_i 𝓤 φ (emp 𝓤) x

abbrev number_vals : DeviceMemory → List Val
number_vals = memory_vals the_type the_laws

pub bytes_mut_spec : {M : Type 1} → statement M
unfolding follows_by
bytes_mut_spec 𝓤 𝓛 𝓜 𝓡 wired D LD d dict met =
    let args : Args = bounded (a_type ∷ []) (D, tt) (dcons dict dnil) in let fn : Fn = inst_fn args code.function in
    let En = f.ended D d dict in let c = f.clauses D d dict 𝓛 𝓜.mem 𝓡.returns in let 𝓣 = tables 𝓤 𝓛.H 𝓜 𝓡 𝓡.env in
    let R : RattleType = param 0 D in
    let hs : Stays En.signature.params En.kept = (stay_dropped (mut_ref_to (0 ∷ []) tt (plain (λ _. R))) no, (stay_dropped (plain (λ _. Memory)) yes, (stay_dropped (plain (λ _. u64)) yes, (stay_dropped (plain (λ _. u64)) yes, tt)))) in
    let W = walk_of 𝓛 En hs c in
    proved 𝓛 En hs c 𝓜 𝓡 (Goes-spent_ref 𝓛 2 (0 ∷ []) tt (plain (λ _. R)), (Goes-dropped 𝓛 2 (plain (λ _. Memory)) yes (λ κs x f. refl), (Goes-dropped 𝓛 2 (plain (λ _. u64)) yes (λ κs x f. refl), (Goes-dropped 𝓛 2 (plain (λ _. u64)) yes (λ κs x f. refl), tt))))
    (f.Key.name args) fn (code.unfolded 𝓤 𝓛.H 𝓜 𝓡 wired (D, tt) dict)
    (λ κs. (mut_vals, (number_vals, (uint_vals w64, (uint_vals w64, tt))))) (λ κs. (mut_Tells (named 0) κs.0 R, (memory_tells the_type the_laws, (uint_Tells w64, (uint_Tells w64, tt))))) (λ κs qs bounds a _ are.
    let r = a.0 in let m = a.1.0 in let i = a.1.1.0 in let n = a.1.1.1.0 in let s₀ = r.now in let alive : Type 0 = κs.1.0 ⊑ D.lives in
    let fm = are.1.0.1.1.0.1 in let fi = are.1.1.0.1 in let fn' = are.1.1.1.0.1 in
    let There : D.Denot → Type 0 = λ s. IsSome (range_of (d.held s) m.0 i n) in let Value : MutBor (List ℕ) → D.Denot → Type 0 = λ b s. range_of (d.held s) m.0 i n ≡ Some b.now in
    let Mine : MutBor (D.Denot) → Item 𝓤 = λ (x : MutBor (D.Denot)). ‵ ((MutRef (named 0) κs.0 R).own_val x (mut_vals x)) in
    let Slice : RattleType = MutSlice (named 0) κs.0 u8 in
    let Pair : RattleType = Tuple (MutRef (named 0) κs.0 R ∷ bool ∷ []) in
    let toks : Item 𝓤 = ‵ (flft κs.0 qs.0) ⊛ ‵ (flft κs.1.0 qs.1.0) ⊛ ‵ ftrue in
    let y : W.Ghost = ((κs, qs, bounds, a, (mut_vals r, (number_vals m, (uint_vals w64 i, (uint_vals w64 n, tt))))), tt) in
    let Post = W.post y in
    qed 𝓛 ((toks ⊛ Mine r ⊛ ‵ (Memory.own_val m (number_vals m)) ⊛ ‵ (u64.own_val i (uint_vals w64 i)) ⊛ ‵ (u64.own_val n (uint_vals w64 n)) ⊛ ‵ ftrue) ∷ (raw (fact 𝓤 alive) ⊛ ‵ ftrue) ∷ []) ∵
    split ! $ move ! (2 ∷ []) $ split ! $ heard ! _ (λ lives. drop ! $ move ! (1 ∷ []) $ split ! $ move ! (1 ∷ []) $ drop ! $
    -- [self; the tokens]
    enter ! _ _ _ _ _ $ alloc_all ! (λ l. pass_all ! refl ((tt, tt), ((tt, (record { fits = fm }, tt)), ((tt, record { fits = fi }), ((tt, record { fits = fn' }), tt)))) $
    sets ! (addr ! (through ! refl (stop !))) refl (tt, tt) $
    let G₁ = triple_of 𝓛 (looked.signature D) (looked.spec D d dict 𝓛 𝓜.mem 𝓡.returns) in
    let z₁ : G₁.Ghost = ((κs, qs, bounds, a, (mut_vals r, (number_vals m, (uint_vals w64 i, (uint_vals w64 n, tt))))), tt) in
    nothing ! $ owned ! u64 _ (uint_Makes 𝓛 w64) n _ (refl, fn') $ join ! $ owned ! u64 _ (uint_Makes 𝓛 w64) i _ (refl, fi) $ join ! $ owned ! Memory _ (memory_makes the_type the_plain 𝓛) m _ are.1.0 $ join ! $ move ! (1 ∷ 0 ∷ []) $ join ! $ move ! (1 ∷ 0 ∷ []) $ join ! $
    nothing ! $ use0 𝓛 (raw (fact 𝓤 alive)) (shown 𝓤 lives) $ join ! $ move ! (1 ∷ 0 ∷ []) $ join ! $ use1 𝓛 (raw (G₁.pre z₁)) (id⊢ 𝓤 _) $
    calls_at ! (framed 𝓤 𝓛.H 𝓜 𝓣) G₁ (looked_met.met 𝓤 𝓛 𝓜 𝓡 (code.calls-gpu_device::vulkan::device::VulkanDevice::with_range_found 𝓡.env wired) D LD d dict met) z₁
    (and_then ! (get ! refl) (and_then ! (get ! refl) (and_then ! (get ! refl) (and_then ! (get ! refl) (no_more !))))) (λ v.
    use1 𝓛 (later (some (λ (t : MutBor (D.Denot) × Bool). (toks ⊛ ‵ (Pair.own_val t (v ∷ []))) ⊛
    some (λ (ws : Lasts (looked.ended D d dict) κs a). ‵ (lasts (looked.ended D d dict) κs a ws) ⊛ (raw (fact 𝓤 (t.0.ghost_name ≡ r.ghost_name)) ⊛ (raw (fact 𝓤 (t.0.now ≡ s₀)) ⊛ raw (fact 𝓤 (IsTrue t.1 ↔ There s₀)))))))) (id⊢ 𝓤 _) $
    await ! tt $ pick ! (λ t. split ! $ move ! (1 ∷ []) $ pick ! (λ ws. split3 ! $ drop ! $ heard ! _ (λ same. split ! $ heard ! _ (λ unchanged. heard ! _ (λ found.
    split ! $ move ! (1 ∷ []) $ fpick ! (λ vss. fsplit ! $ feq_l ! (λ eu. fsplit ! $ fsplit3 ! $ feq_l ! (λ em. feq_i ! (List Val) (mut_vals t.0) (mut_vals t.0) refl $ fjoin3 ! $
    move ! (1 ∷ []) $ fsplit ! $ feq_l ! (λ eb. drop ! $
    -- [self; the tokens; the piece]
    lands_as ! (ap only (eu ∙ (λ j. vstruct (of_list (em j ++ (eb j ++ []))) ∷ []))) refl (tt, (tt, (tt, tt))) $
    sets ! (of_opd ! (get_in ! (fld ! refl (stop !)) (sub ! 0 refl (whole !)))) refl (tt, tt) $
    sets ! (of_opd ! (get_in ! (fld ! refl (stop !)) (sub ! 1 refl (whole !)))) refl (tt, tt) $
    sets ! (of_opd ! (get ! refl)) refl (tt, tt) $
    first ! $ branches ! (get ! refl)
    (λ yes'. let mapped : There s₀ = found.0 (is_true t.1 yes') in
    sets ! (addr ! (through ! refl (stop !))) refl (tt, tt) $
    let G₂ = triple_of 𝓛 (lends.signature D) (lends.spec D d dict 𝓛 𝓜.mem 𝓡.returns) in
    let z₂ : G₂.Ghost = ((κs, qs, bounds, (t.0, a.1), (mut_vals t.0, (number_vals m, (uint_vals w64 i, (uint_vals w64 n, tt))))), tt) in
    nothing ! $ owned ! u64 _ (uint_Makes 𝓛 w64) n _ (refl, fn') $ join ! $ owned ! u64 _ (uint_Makes 𝓛 w64) i _ (refl, fi) $ join ! $ owned ! Memory _ (memory_makes the_type the_plain 𝓛) m _ are.1.0 $ join ! $ move ! (1 ∷ 0 ∷ []) $ join ! $ move ! (1 ∷ 0 ∷ []) $ join ! $
    use0 𝓛 (raw (fact 𝓤 (There t.0.now))) (shown 𝓤 (subst There (sym unchanged) mapped)) $
    use0 𝓛 (raw (fact 𝓤 alive)) (shown 𝓤 lives) $ join ! $ move ! (1 ∷ 0 ∷ []) $ join ! $ use1 𝓛 (raw (G₂.pre z₂)) (id⊢ 𝓤 _) $
    calls_at ! (framed 𝓤 𝓛.H 𝓜 𝓣) G₂ met.range_mut z₂
    (and_then ! (get ! refl) (and_then ! (get ! refl) (and_then ! (get ! refl) (and_then ! (get ! refl) (no_more !))))) (λ u.
    use1 𝓛 (later (some (λ (s : MutBor (List ℕ)). (toks ⊛ ‵ (Slice.own_val s (u ∷ []))) ⊛
    some (λ (ws' : Lasts (lends.ended D d dict) κs (t.0, a.1)). ‵ (lasts (lends.ended D d dict) κs (t.0, a.1) ws') ⊛
    (raw (fact 𝓤 (Value s t.0.now)) ⊛ ‵ (follows R (Array u8 0) t.0.ghost_name s.ghost_name (d.written t.0.now m.0 i))))))) (id⊢ 𝓤 _) $
    await ! tt $ pick ! (λ s. split ! $ move ! (1 ∷ []) $ pick ! (λ ws'. split3 ! $ drop ! $ heard ! _ (λ value.
    rewrite ! 0 (λ (γ : GName). ‵ (follows R (Array u8 0) γ s.ghost_name (d.written t.0.now m.0 i))) same refl $
    rewrite ! 0 (λ (s' : D.Denot). ‵ (follows R (Array u8 0) r.ghost_name s.ghost_name (d.written s' m.0 i))) unchanged refl $
    -- [follows; the tokens and the slice]
    move ! (1 ∷ []) $ split ! $ move ! (1 ∷ []) $ fsplit ! $ fsplit ! $ feq_l ! (λ is. fsplit ! $ flt_l ! (λ few.
    let sv : Val = slice_val s.ref_ptr (length s.now) in
    let out : Val = live 1 (of_list (sv ∷ [])) in
    flt_i ! (length s.now) (2 ^ 64) few $ fjoin ! $ feq_i ! (List Val) (sv ∷ []) (mut_slice_vals s) refl $ fjoin ! $ fjoin ! $
    -- [the slice; the tokens; follows]
    lands_as ! (ap only is) refl (tt, (tt, (record { fits = few }, tt))) $
    sets_last ! (agg ! (and_then ! (lit ! tt) (and_then ! (get ! refl) (no_more !)))) refl (tt, (record { fits = lit< tt }, ((tt, (record { fits = few }, tt)), tt))) $
    exec ! 𝓣.C 𝓣.Λ (env fn.locals l) (after 6 fn.body) (at_ret _ Post) $
    sets ! (of_opd ! (get ! refl)) refl (tt, (record { fits = lit< tt }, ((tt, (record { fits = few }, tt)), tt))) $
    returns ! (look_at ! 0 refl) $ free_all ! refl $
    keep ! (0 ∷ 1 ∷ 2 ∷ []) $ use1 𝓛 (‵ ((OP.the_row Slice).own_val (Some s) (out ∷ []))) (Some-of 𝓛 Slice s sv) $
    suffices ! _ (ends_at 𝓛 En hs c y out (Some s) (tt, (tt, (tt, (tt, tt)))) (tt, (tt, (tt, (tt, tt))))) $
    nothing ! $ nothing ! $ fjoin ! $ nothing ! $ fjoin ! $ nothing ! $ fjoin ! $ nothing ! $ fjoin ! $ join ! $ move ! (1 ∷ 0 ∷ []) $ join ! $ frame ! $
    use0 𝓛 (raw (fact 𝓤 (IsSome (Some s) ↔ There s₀))) (shown 𝓤 (λ _. mapped, λ _. refl)) $
    use0 𝓛 (raw (fact 𝓤 (Value s s₀))) (shown 𝓤 (subst (Value s) unchanged value)) $
    move ! (1 ∷ 0 ∷ []) $ join ! $ move ! (1 ∷ 0 ∷ []) $ join ! $ done !)))))))
    (λ no'. sets_last ! (agg ! (and_then ! (lit ! tt) (no_more !))) refl (tt, (record { fits = lit< tt }, tt)) $
    exec ! 𝓣.C 𝓣.Λ (env fn.locals l) (after 6 fn.body) (at_ret _ Post) $
    sets ! (of_opd ! (get ! refl)) refl (tt, (record { fits = lit< tt }, tt)) $
    returns ! (look_at ! 0 refl) $ free_all ! refl $
    fsplit3 ! $ keep ! (1 ∷ 3 ∷ []) $ use1 𝓛 (‵ (fres t.0.ghost_name (R.coded.code t.0.now))) (𝓛.names.obs-res t.0.ghost_name (R.coded.code t.0.now)) $
    rewrite ! 0 (λ (γ : GName). ‵ (fres γ (R.coded.code t.0.now))) same refl $ rewrite ! 0 (λ (s' : D.Denot). ‵ (fres r.ghost_name (R.coded.code s'))) unchanged refl $
    -- [self's last value; the tokens]
    move ! (1 ∷ []) $ let out : Val = live 0 (of_list []) in
    use0 𝓛 (‵ ((OP.the_row Slice).own_val None (out ∷ []))) (none_of 𝓛 Slice) $
    suffices ! _ (ends_at 𝓛 En hs c y out None (tt, (tt, (tt, (tt, tt)))) (tt, (tt, (tt, (tt, tt))))) $
    nothing ! $ nothing ! $ fjoin ! $ nothing ! $ fjoin ! $ nothing ! $ fjoin ! $ nothing ! $ fjoin ! $ join ! $ move ! (1 ∷ 0 ∷ []) $ join ! $ frame ! $
    use0 𝓛 (raw (fact 𝓤 (IsSome no_slice ↔ There s₀))) (shown 𝓤 (λ e. absurd (false≢true e), λ m. absurd (false≢true (sym (is_false t.1 no') ∙ found.1 m)))) $
    use0 𝓛 (raw (fact 𝓤 (IfSome no_slice (λ s. Value s s₀)))) (shown 𝓤 tt) $
    move ! (1 ∷ 0 ∷ []) $ join ! $ move ! (1 ∷ 0 ∷ []) $ join ! $ done !))))))))))))))
