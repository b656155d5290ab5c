-- The machine value of a `CaptureHandle`. Assumes `Logic`.
use Rattle.std.proofs.Common.{List, [], ◌∷◌, refl}
use seplogic.Ra.Ura.{Ura}
use mir.Val.{Val, vstruct, vcons, vnil}
use base.Logic.{ent, emp}
use base.Fml.{Fml}
use types.Logic.{Logic, sem}
use denote.RattleType.{RattleType}
use denote.RawPtr.{Ptr, ptr_val}
use denote.Shadow.{makes_shadow}
use denote.Struct.Struct.{Struct}
use denote.Struct.Owning.{shape}
use Rattle.gpu_c.specs.contracts.capture_handle.CaptureHandle as handle
use Rattle.gpu_capture.specs.contracts.capture.Capture as kept

-- what lies behind a handle
abbrev pub Behind : RattleType
Behind = kept.the_row

abbrev pub Hand : RattleType
Hand = handle.the_row

abbrev pub word : Ptr → Val
word p = vstruct (vcons (ptr_val p) vnil)

abbrev pub Data : Ptr → List Val → Fml
Data p vs = (Struct (shape handle.the_type)).own_val (p, tt) vs

pub data_made : {M : Type 1} {𝓤 : Ura M} (𝓛 : Logic 𝓤) (p : Ptr) → ent 𝓤 (emp 𝓤) (sem 𝓛 (Data p (word p ∷ [])))
data_made 𝓛 p = makes_shadow 𝓛 (Data p (word p ∷ [])) (λ vss. (tt, (tt, tt))) ((ptr_val p ∷ [], tt), (refl, (refl, tt)))
