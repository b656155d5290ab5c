-- `into_raw_box` tests the pointer, and has the box back where it is not null.
use Rattle.std.proofs.Common.{◌≡◌, List, [], ◌∷◌, ◌++◌, refl, sym, ap, ◌∙◌, subst, lit<}
use mir.Val.{Val, vptr, vcons, vnil}
use base.Logic.{SProp, ent, emp, id⊢}
use prog.Wp.{WpFn}
use types.Kit.{‵, raw, ◌⊛◌, at_ret, ◌$◌, ◌∵◌, !, qed, by, move, keep, drop, split, fsplit, fjoin, rewrite, suffices, use0, use1}
use types.Run.{stop, fld, lit, of_opd, bin, no_more, and_then, first, branches, exec, returns, enter}
use types.ByLocal.{alloc_all, pass_all, free_all, look_at, get, get_in, sets, sets_last, env}
use types.Part.{agg, sub, whole}
use types.Match.{live}
use contract.Monad.{fact, fact_i}
use contract.Running.{tables}
use denote.Exit.{yes}
use denote.RattleType.{RattleType, owns}
use denote.Signature.{types_at, type_at, plain}
use denote.RawPtr.{Ptr, block_ptr, null_ptr, tests_null}
use denote.Steps.{nothing}
use denote.Param.{layout}
use denote.Triple.Entry.{alive}
use denote.Triple.Walked.{Stays, stay_dropped, walk_of, Goes-dropped}
use Rattle.core.proofs.alloc.Calls.{Goes-blank}
use Rattle.core.proofs.alloc.Shapes.{after}
use Rattle.core.proofs.cell.Inside.{Good, one}
use Rattle.core.proofs.option.Made.{Some-of, none_of}
use Rattle.std.specs.contracts.alloc.Global as heap
use Rattle.std.proofs.alloc.Global.TheLaws as heap_laws
use Rattle.std.specs.contracts.impls.GlobalAllocator.TheImpl.{ghosts}
use Rattle.std.specs.declared.option.Option.TheVariants.{None, Some}
use Rattle.std.proofs.ResultValues.{and_tt}
use Rattle.std.proofs.raw_atomic.Walks.{proved_at, leaves}
use Rattle.gpu_c.proofs.RawBoxValues.{both, RawBox, raw_box_good, raw_box_in}
use Rattle.gpu_c.proofs.Owned.{by_cases}
use Rattle.gpu_c.proofs.CaptureHandleWords.{Behind, Hand, word}
use Rattle.gpu_c.proofs.capture_handle.CaptureHandle.TheLaws.{lowers}
use Rattle.gpu_c.specs.contracts.capture_handle.CaptureHandle.into_raw_box as f
use Rattle.gpu_c.proofs.capture_handle.CaptureHandle.into_raw_box.Statement.{statement}
use Rattle.gpu_c.proofs.capture_handle.CaptureHandle.into_raw_box.Code as code

pub into_raw_box_spec : {M : Type 1} → statement M
into_raw_box_spec 𝓤 𝓛 𝓜 𝓡 wired =
    let H = 𝓛.H in let 𝓣 = tables 𝓤 H 𝓜 𝓡 𝓡.env in let c = f.clauses 𝓛 𝓜.mem 𝓡.returns in let fn = code.function in let Z : RattleType = heap.the_row in let LZ = heap_laws.the_row_laws in let Lr :
    RattleType = RawBox Behind Z LZ ghosts in
    let hs : Stays (f.ended).signature.params (f.ended).kept = (stay_dropped (plain (λ _. Hand)) yes, (stay_dropped (plain (λ _. Z)) yes, tt)) in
    proved_at 𝓛 f.ended hs c 𝓜 𝓡 (Goes-blank 𝓛 0 (plain (λ _. Hand)) yes (λ κs x f. tt), (Goes-dropped 𝓛 0 (plain (λ _. Z)) yes (λ κs x f. refl), tt)) f.Key.name fn (code.unfolded 𝓤 H 𝓜 𝓡 wired)
    (λ z are.
    let κs = z.0.0 in let qs = z.0.1 in let d = z.0.3.0 in let a = z.0.3.1.0 in let Post : Val → SProp 𝓤 = (walk_of 𝓛 f.ended hs c).post z in let Run : List Val → SProp 𝓤 = λ ws. WpFn 𝓤 H 𝓣.C 𝓣.Λ fn
    ws Post in
    let Out : RattleType = type_at (f.signature).result κs in let h = one (layout Z) z.0.4.1.0 ((LZ.lawful 𝓛).typed a z.0.4.1.0 are.1.0) in let told = lowers.val_is d z.0.4.0 are.0 in
    qed 𝓛 ((raw (alive 𝓛 f.signature κs qs) ⊛ ‵ (owns (types_at (f.signature).params κs) z.0.3 z.0.4)) ∷ raw ((c κs z.0.3).requires z.1) ∷ []) ∵ split ! $ move ! (1 ∷ []) $ fsplit ! $ fsplit ! $ drop
    ! $ move ! (1 ∷ []) $ fsplit ! $
    rewrite ! 0 (λ (us : List Val). ‵ (Z.own_val a us)) h.1 refl $ move ! (2 ∷ []) $
    -- [what the handle owns; the allocator; nothing; the tokens; the `requires`]
    by_cases Behind a ! d.opaque d.value
    (λ is none. let w : Val = word null_ptr in let out : Val = live 0 vnil in
    suffices ! (Run (w ∷ h.0 ∷ [])) (subst (λ (us : List Val). ent 𝓤 (Run (w ∷ h.0 ∷ [])) (Run us)) (sym (λ i. (told ∙ ap (λ (p : Ptr). word p ∷ []) is) i ++ (h.1 i ++ [])))
    (id⊢ 𝓤 (Run (w ∷ h.0 ∷ [])))) $
    enter ! 𝓣.C 𝓣.Λ fn (w ∷ h.0 ∷ []) Post $ alloc_all ! (λ l. pass_all ! refl ((tt, (record { fits = lit< tt }, tt)), (h.2, tt)) $ let Ev = env fn.locals l in
    sets ! (of_opd ! (get_in ! (fld ! refl (stop !)) (sub ! 0 refl (whole !)))) refl (tt, record { fits = lit< tt }) $ sets ! (bin ! (get ! refl) (lit ! tt) tt) refl (tt, tt) $ first ! $ branches !
    (get ! refl)
    (λ _. sets_last ! (agg ! (and_then ! (lit ! tt) (no_more !))) refl (tt, (record { fits = lit< tt }, tt)) $ exec ! 𝓣.C 𝓣.Λ Ev (after 3 fn.body) (at_ret Ev Post) $ sets ! (of_opd ! (get ! refl))
    refl (tt, (record { fits = lit< tt }, tt)) $
    use0 𝓛 (‵ (Out.own_val None (out ∷ []))) (none_of 𝓛 Lr) $ use0 𝓛 (raw (fact 𝓤 (d.value ≡ None))) (fact_i 𝓤 (d.value ≡ None) (emp 𝓤) none) $ nothing ! $ nothing ! $ fjoin ! $ nothing ! $ fjoin ! $
    returns ! (look_at ! 0 refl) $ free_all ! refl $ keep ! (5 ∷ 0 ∷ 2 ∷ 1 ∷ []) $ by ! (leaves 𝓛 f.ended hs c z out None (_, (tt, tt)) (tt, (tt, tt)))) (λ wrong. absurd wrong)))
    (λ b o x is some t. let w : Val = word (block_ptr b o) in let made : Val = both (vptr b o) h.0 in let typed = raw_box_good Behind Z LZ ghosts b o h.0 h.2 in let out : Val = live 1
    (vcons made vnil) in
    let n : Lr.Denot = record { at = block_ptr b o; alloc = a; value = x } in let good : Good (layout Out) out = (and_tt _ typed.0, (record { fits = lit< tt }, (typed.1, tt))) in
    suffices ! (Run (w ∷ h.0 ∷ [])) (subst (λ (us : List Val). ent 𝓤 (Run (w ∷ h.0 ∷ [])) (Run us)) (sym (λ i. (told ∙ ap (λ (p : Ptr). word p ∷ []) is) i ++ (h.1 i ++ [])))
    (id⊢ 𝓤 (Run (w ∷ h.0 ∷ [])))) $
    enter ! 𝓣.C 𝓣.Λ fn (w ∷ h.0 ∷ []) Post $ alloc_all ! (λ l. pass_all ! refl ((tt, (tt, tt)), (h.2, tt)) $ let Ev = env fn.locals l in
    sets ! (of_opd ! (get_in ! (fld ! refl (stop !)) (sub ! 0 refl (whole !)))) refl (tt, tt) $ sets ! (bin ! (get ! refl) (lit ! tt) (tests_null (block_ptr b o) t)) refl (tt, tt) $ first ! $
    branches ! (get ! refl) (λ wrong. absurd wrong)
    (λ _. sets ! (of_opd ! (get ! refl)) refl (tt, tt) $ sets ! (agg ! (and_then ! (get ! refl) (and_then ! (get ! refl) (no_more !)))) refl typed $ sets_last !
    (agg ! (and_then ! (lit ! tt) (and_then ! (get ! refl) (no_more !)))) refl good $
    exec ! 𝓣.C 𝓣.Λ Ev (after 3 fn.body) (at_ret Ev Post) $ sets ! (of_opd ! (get ! refl)) refl good $ raw_box_in Behind Z LZ ghosts ! b o h.0 a x $
    use1 𝓛 (‵ (Out.own_val (Some n) (out ∷ []))) (Some-of 𝓛 Lr n made) $ use0 𝓛 (raw (fact 𝓤 (d.value ≡ Some n.value))) (fact_i 𝓤 (d.value ≡ Some n.value) (emp 𝓤) some) $ nothing ! $ nothing ! $
    fjoin ! $ nothing ! $ fjoin ! $
    returns ! (look_at ! 0 refl) $ free_all ! refl $ keep ! (4 ∷ 0 ∷ 2 ∷ 1 ∷ []) $ by ! (leaves 𝓛 f.ended hs c z out (Some n) (_, (tt, tt)) (tt, (tt, tt)))))))
