-- `of` keeps the pointer of a box.
use Rattle.std.proofs.Common.{◌≡◌, List, [], ◌∷◌, ◌++◌, refl, sym, subst}
use mir.Val.{Val, vptr}
use base.Logic.{SProp, ent, emp, id⊢}
use prog.Wp.{WpFn}
use types.Kit.{‵, raw, ◌⊛◌, ◌$◌, ◌∵◌, !, qed, by, move, keep, split, fsplit, fjoin, fpack, suffices, use0}
use types.Run.{stop, fld, of_opd, no_more, and_then, returns, enter}
use types.ByLocal.{alloc_all, pass_all, free_all, look_at, get, get_in, sets}
use types.Part.{agg, sub, whole}
use contract.Monad.{fact, fact_i}
use contract.Running.{tables}
use denote.Exit.{yes}
use denote.RattleType.{RattleType, owns}
use denote.Signature.{types_at, plain}
use denote.RawPtr.{block_ptr}
use denote.Steps.{nothing}
use denote.Triple.Entry.{alive}
use denote.Triple.Walked.{Stays, stay_dropped, walk_of}
use Rattle.core.proofs.alloc.Calls.{Goes-blank}
use Rattle.std.specs.contracts.alloc.Global as heap
use Rattle.std.proofs.alloc.Global.TheLaws as heap_laws
use Rattle.std.specs.contracts.impls.GlobalAllocator.TheImpl.{ghosts}
use Rattle.std.specs.declared.alloc.Global.{Global}
use Rattle.std.specs.Box.Ownership.{box_owns}
use Rattle.std.specs.declared.option.Option.TheVariants.{Some}
use Rattle.std.proofs.raw_atomic.Walks.{proved_at, leaves}
use Rattle.gpu_c.proofs.RawBoxValues.{both, RawBox, raw_box_good, raw_box_out}
use Rattle.gpu_c.proofs.CaptureHandleWords.{Behind, Hand, word, Data, data_made}
use Rattle.gpu_c.specs.contracts.capture_handle.CaptureHandle.of as f
use Rattle.gpu_c.proofs.capture_handle.CaptureHandle.of.Statement.{statement}
use Rattle.gpu_c.proofs.capture_handle.CaptureHandle.of.Code as code

pub of_spec : {M : Type 1} → statement M
of_spec 𝓤 𝓛 𝓜 𝓡 wired =
    let H = 𝓛.H in let 𝓣 = tables 𝓤 H 𝓜 𝓡 𝓡.env in let c = f.clauses 𝓛 𝓜.mem 𝓡.returns in let fn = code.function in let Z : RattleType = heap.the_row in let LZ = heap_laws.the_row_laws in let Lr :
    RattleType = RawBox Behind Z LZ ghosts in
    let hs : Stays (f.ended).signature.params (f.ended).kept = (stay_dropped (plain (λ _. Lr)) yes, tt) in
    proved_at 𝓛 f.ended hs c 𝓜 𝓡 (Goes-blank 𝓛 0 (plain (λ _. Lr)) yes (λ κs x f. tt), tt) f.Key.name fn (code.unfolded 𝓤 H 𝓜 𝓡 wired) (λ z are.
    let κs = z.0.0 in let qs = z.0.1 in let v = z.0.3.0 in let Post : Val → SProp 𝓤 = (walk_of 𝓛 f.ended hs c).post z in let Run : List Val → SProp 𝓤 = λ ws. WpFn 𝓤 H 𝓣.C 𝓣.Λ fn ws Post in
    qed 𝓛 ((raw (alive 𝓛 f.signature κs qs) ⊛ ‵ (owns (types_at (f.signature).params κs) z.0.3 z.0.4)) ∷ raw ((c κs z.0.3).requires z.1) ∷ []) ∵ split ! $ move ! (1 ∷ []) $ fsplit ! $ raw_box_out
    Behind Z LZ ghosts ! v z.0.4.0 (λ b o h e ws fits.
    let w : Val = both (vptr b o) h in let typed = raw_box_good Behind Z LZ ghosts b o h fits in
    let n : Hand.Denot = record { opaque = block_ptr b o; value = Some v.value } in let Told : Type 0 = n.value ≡ Some v.value in
    suffices ! (Run (w ∷ [])) (subst (λ (us : List Val). ent 𝓤 (Run (w ∷ [])) (Run us)) (sym (λ i. ws i ++ [])) (id⊢ 𝓤 (Run (w ∷ [])))) $
    enter ! 𝓣.C 𝓣.Λ fn (w ∷ []) Post $ alloc_all ! (λ l. pass_all ! refl (typed, tt) $
    sets ! (of_opd ! (get_in ! (fld ! refl (stop !)) (sub ! 0 refl (whole !)))) refl (tt, tt) $ sets ! (of_opd ! (get ! refl)) refl (tt, tt) $
    sets ! (agg ! (and_then ! (get ! refl) (no_more !))) refl (tt, (tt, tt)) $
    fpack ! Global (λ (g : Global). box_owns (ghosts.dealloc_token g) Behind (block_ptr b o) v.value) v.alloc $ use0 𝓛 (‵ (Data (block_ptr b o) (word (block_ptr b o) ∷ [])))
    (data_made 𝓛 (block_ptr b o)) $ fjoin ! $
    use0 𝓛 (raw (fact 𝓤 Told)) (fact_i 𝓤 Told (emp 𝓤) refl) $ nothing ! $ nothing ! $ fjoin ! $
    returns ! (look_at ! 0 refl) $ free_all ! refl $ keep ! (5 ∷ 0 ∷ 2 ∷ 1 ∷ []) $ by ! (leaves 𝓛 f.ended hs c z (word (block_ptr b o)) n (_, tt) (tt, tt)))))
