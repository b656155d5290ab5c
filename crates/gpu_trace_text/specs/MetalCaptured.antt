-- What the reader of Metal traces makes of the lines that a capture wrote.
use Rattle.std.specs.Prelude.{◌≡◌, ◌<◌, ◌^◌, string_bytes}
use Rattle.gpu_capture.specs.declared.request.MetalRequest.{MetalRequest}
use Rattle.gpu_capture.specs.Line.{name_word}
use Rattle.gpu_run.specs.declared.metal.command.Request.{Request}

-- what a request's numbers may be; its name may be any bytes
pub record FitsCaptured (r : MetalRequest) : Type 0 where
  pub size_fits : r.size < 2 ^ 64
  pub alignment_fits : r.alignment < 2 ^ 64

-- the same is asked for, under a name as a trace has it
pub record IsRequest (r : MetalRequest) (q : Request) : Type 0 where
  pub size : q.size ≡ r.size
  pub alignment : q.alignment ≡ r.alignment
  pub location : q.location ≡ r.location
  pub name : string_bytes q.name ≡ name_word r.name.now
