-- What a handle owns names no thread's token where the value's type names none.
use base.Shift.{Keyless}
use mir.Raw.{raw}
use denote.RattleType.{RattleType}
use denote.Memory.{lone}
use denote.RawPtr.{Ptr, block_ptr, null_ptr}
use denote.Param.Send.{IsSend}
use Rattle.std.specs.declared.option.Option.{Option}
use Rattle.std.specs.declared.option.Option.TheVariants.{None, Some}
use Rattle.std.proofs.Crossing.{frees}
use Rattle.std_alloc.proofs.SendSync.{lies}
use Rattle.gpu_c.specs.Owned.{handle_owns}

pub handle_keyless : (R : RattleType) → IsSend R → (p : Ptr) (x : Option R.Denot) → Keyless (handle_owns R p x)
handle_keyless R s null_ptr None = tt
handle_keyless R s null_ptr (Some x) = tt
handle_keyless R s (block_ptr b o) None = tt
handle_keyless R s (block_ptr b o) (Some x) = λ a. (lies R s (block_ptr b o) x, frees.frees a (raw (lone R.mir)) (block_ptr b o))
