-- Bytes of the line, rolled up.
use Rattle.std.specs.Prelude.{ℕ, ◌-◌, ◌%◌, min}
use Rattle.gpu_ring.specs.declared.ring.Stretch.{Stretch}

-- so many bytes of the line from a place on, in a ring of a size: as many as there are up to the ring's end, and the rest from its start on
abbrev pub stretch_of : (size place bytes : ℕ) → Stretch
stretch_of size place bytes = record {
  offset = place % size;
  size = min bytes (size - place % size);
  rest = bytes - (size - place % size);
}
