-- What the changes of a list of chunks leave.
use Rattle.std.proofs.Common.{◌≡◌, ℕ, ◌+◌, ◌-◌, ◌<◌, List, [], ◌∷◌, ◌++◌, length, refl, ap, ◌∙◌, arith}
use Rattle.gpu_block_chunks.specs.declared.chunk.Chunk.{Chunk}
use Rattle.gpu_values.specs.declared.allocation_type.AllocationType.{AllocationType}
use Rattle.gpu_values.specs.declared.allocation_type.AllocationType.TheVariants.{Free, Linear, NonLinear}
use Rattle.gpu_block_chunks.specs.ChunkList.{Covers, cut_chunk, joined_chunk, join_front, join_kinds, IsFree}

pub Covers-swap : (front xs ys : List Chunk) (from to : ℕ) → Covers (front ++ xs) from to → ((m : ℕ) → Covers xs m to → Covers ys m to) → Covers (front ++ ys) from to
Covers-swap [] xs ys from to h f = f from h
Covers-swap (c ∷ front) xs ys from to h f = (h.0, h.1, Covers-swap front xs ys (from + c.size) to h.2 f)

pub Covers-like : (front back : List Chunk) (c d : Chunk) (from to : ℕ) → d.start ≡ c.start → d.size ≡ c.size → Covers (front ++ c ∷ back) from to → Covers (front ++ d ∷ back) from to
Covers-like front back c d from to s z h = Covers-swap front (c ∷ back) (d ∷ back) from to h (λ m q. (s ∙ q.0, rw z q.1, rw z q.2))

pub Covers-joined : (front back : List Chunk) (a b : Chunk) (from to : ℕ) → Covers (front ++ a ∷ b ∷ back) from to → Covers (front ++ joined_chunk a b ∷ back) from to
Covers-joined front back a b from to h =
    Covers-swap front (a ∷ b ∷ back) (joined_chunk a b ∷ back) from to h (λ m q.
    let sum : m + (a.size + b.size) ≡ m + a.size + b.size = omega arith in
    let inner = q.2 in
    let pos : 0 < a.size = q.1 in
    (q.0, omega arith, rw sum inner.2))

pub Covers-cut : (front back : List Chunk) (c piece : Chunk) (from to : ℕ) → piece.start ≡ c.start → 0 < piece.size → piece.size < c.size → Covers (front ++ c ∷ back) from to → Covers
    (front ++ piece ∷ cut_chunk c piece.size ∷ back) from to
Covers-cut front back c piece from to s pos lt h =
    Covers-swap front (c ∷ back) (piece ∷ cut_chunk c piece.size ∷ back) from to h (λ m q.
    let sum : m + piece.size + (c.size - piece.size) ≡ m + c.size = omega arith in
    (s ∙ q.0, pos, (omega arith, omega arith, rw sum q.2)))

-- ---- the parts before a place

pub record Snoc (xs : List Chunk) : Type 0 where
  pub front : List Chunk
  pub last : Chunk
  pub is : xs ≡ front ++ last ∷ []
  pub len : length xs ≡ length front + 1

pub snoc : (x : Chunk) (xs : List Chunk) → Snoc (x ∷ xs)
snoc x [] = record { front = []; last = x; is = refl; len = omega arith }
snoc x (y ∷ xs) = let r = snoc y xs in record { front = x ∷ r.front; last = r.last; is = ap (λ ys. x ∷ ys) r.is; len = omega (arith, r.len) }

pub join_front-push : (front : List Chunk) (a c : Chunk) (back : List Chunk) → join_front (front ++ a ∷ []) (c ∷ back) ≡ front ++ join_kinds a.kind a c back
join_front-push [] a c back = refl
join_front-push (x ∷ []) a c back = refl
join_front-push (x ∷ y ∷ front) a c back = ap (λ ys. x ∷ ys) (join_front-push (y ∷ front) a c back)

-- ---- two chunks side by side

-- ---- the front of a chunk

-- ---- a chunk joined with the one before it

pub join_kinds-free : (k : AllocationType) (a b : Chunk) (cs : List Chunk) → IsFree k → join_kinds k a b cs ≡ joined_chunk a b ∷ cs
join_kinds-free Free a b cs h = refl
join_kinds-free Linear a b cs h = absurd h
join_kinds-free NonLinear a b cs h = absurd h

pub join_kinds-live : (k : AllocationType) (a b : Chunk) (cs : List Chunk) → (IsFree k → ⊥) → join_kinds k a b cs ≡ a ∷ b ∷ cs
join_kinds-live Free a b cs h = absurd (h tt)
join_kinds-live Linear a b cs h = refl
join_kinds-live NonLinear a b cs h = refl

-- ---- the whole release
