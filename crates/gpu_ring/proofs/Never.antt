-- A ring that is large enough for all frames in flight, the open one and one request serves each request of each list of calls.
use Rattle.std.proofs.Common.{◌≡◌, ◌∙◌, refl, sym, ap, subst, ℕ, zero, suc, ◌+◌, ◌-◌, ◌*◌, ◌%◌, ◌==◌, ◌<◌, ◌≤◌, inl, inr, if◌then◌else◌, Bool, true, false, List, [], ◌∷◌, ◌++◌, length, take, take-add, drop, suc-mul, Option, Some, None, IsSome, arith}
use Rattle.std.specs.Prelude.{All, sum, sum_by}
use Rattle.std.proofs.Math.Nat.{mod-lt}
use Rattle.std.proofs.lemmas.Bool.{cases_lt}
use Rattle.std.proofs.lemmas.Bool.Decides.{nat_tests}
use Rattle.std.proofs.lemmas.List.Elements.{All-nil, All-cons, All-head, All-tail, All-append, All-drop}
use Rattle.std.proofs.lemmas.List.Sums.{sum_by-cons, sum_by-append, sum_by-take-drop, sum_by-take-le}
use Rattle.std.proofs.lemmas.List.{length-append, length-drop, take-append-le, drop-append-le}
use Rattle.gpu_ring.specs.Line.{IsFull, IsFed}
use Rattle.gpu_ring.specs.Calls.{empty_ring, no_pieces, with_piece, RingAllocates, Places, EndsFrame, Retires, IsInFlight, frames_up_to, bytes_up_to, without_frames}
use Rattle.gpu_ring.specs.RingState.{RingState, bytes_of}
use Rattle.gpu_ring.specs.Runs.{Call, Request, End, Retire, cost, Asked, after_request, after_end, after_retire, ServesAll}
use Rattle.gpu_ring.specs.declared.ring.Frame.{Frame}
use Rattle.gpu_ring.specs.declared.ring.FrameStatistics.{FrameStatistics}
use Rattle.gpu_ring.proofs.Places.{lap, first_lap}
use Rattle.gpu_ring.proofs.Runs.{fed_serves, fed_on}

times : (k n : ℕ) → suc k * n ≡ k * n + n
times k n = suc-mul k n

is_zero : (x : ℕ) → (x == 0) ≡ true → x ≡ 0
is_zero x none = grind (arith, nat_tests)

-- the bytes of the first j of these frames
abbrev bytes : ℕ → List FrameStatistics → ℕ
bytes j frames = bytes_of (take j frames)

abbrev held : FrameStatistics → ℕ
held f = f.bytes

module _ (most most_a_frame most_frames : ℕ) (some : 0 < most) where
  -- what was asked for bounds the taken bytes, from each frame's start on
  pub record IsKept (s : Asked) : Type 0 where
    pub rolled : s.ring.tail < s.ring.size
    pub within : s.ring.taken ≤ s.ring.size
    pub whole : bytes_of s.ring.frames + s.ring.current.bytes ≡ s.ring.taken
    pub as_many : length s.frames ≡ length s.ring.frames
    pub few : length s.frames ≤ most_frames
    pub each : All (λ n. n ≤ most_a_frame) s.frames
    pub open_one : s.current ≤ most_a_frame
    pub fed : (j : ℕ) → j ≤ length s.ring.frames → IsFed s.ring.size most (s.ring.tail + bytes j s.ring.frames) (s.ring.taken - bytes j s.ring.frames) (sum (drop j s.frames) + s.current)

  -- ---- a request

  -- the bytes of some frames are among the taken ones
  some_bytes : (s : Asked) → IsKept s → (j : ℕ) → bytes j s.ring.frames ≤ s.ring.taken
  some_bytes s k j =
      let part = sum_by-take-le held s.ring.frames j in
      let all = k.whole in
      omega (arith, part, all)

  sums : (n : ℕ) (xs : List ℕ) → All (λ x. x ≤ n) xs → sum xs ≤ length xs * n
  sums n [] all = omega arith
  sums n (x ∷ xs) all =
      let here : x ≤ n = All-head (λ x. x ≤ n) x xs all in
      let rest = sums n xs (All-tail (λ x. x ≤ n) x xs all) in
      let split = sum_by-cons (λ (x : ℕ). x) x xs in
      let more = times (length xs) n in
      omega (arith, here, rest, split, more)

  fewer : (k n m : ℕ) → k ≤ m → k * n ≤ m * n
  fewer zero n m le = omega arith
  fewer (suc k) n zero le = absurd (omega (arith, le))
  fewer (suc k) n (suc m) le =
      let rest = fewer k n m (omega (arith, le)) in
      let a = times k n in
      let b = times m n in
      omega (arith, rest, a, b)

  total : (s : Asked) → IsKept s → sum s.frames ≤ most_frames * most_a_frame
  total s k =
      let part = sums most_a_frame s.frames k.each in
      let all = fewer (length s.frames) most_a_frame most_frames k.few in
      omega (arith, part, all)

  fits : (s : Asked) → IsKept s → (most_frames * most_a_frame + most_a_frame + most ≤ s.ring.size + 1) → (size alignment : ℕ) → 0 < size → 0 < alignment → cost size alignment ≤ most
      → s.current + cost size alignment ≤ most_a_frame → IsFull s.ring.size s.ring.tail s.ring.taken alignment size → ⊥
  fits s k large size alignment sized aligned one frame =
      let start = k.fed 0 (omega arith) in
      let none : bytes 0 s.ring.frames ≡ 0 = refl in
      let whole : sum (drop 0 s.frames) ≡ sum s.frames = refl in
      let at : IsFed s.ring.size most s.ring.tail s.ring.taken (sum s.frames + s.current) = record {
        over = let o = start.over in omega (arith, o, none, whole);
        before = λ up. let o = start.before (omega (arith, up, none)) in omega (arith, o, none, whole);
        after = λ up. let o = start.after (omega (arith, up, none)) in omega (arith, o, none, whole);
      } in
      let all = total s k in
      fed_serves s.ring.size s.ring.tail s.ring.taken alignment size most (most_frames * most_a_frame + most_a_frame) (sum s.frames + s.current) k.rolled sized aligned k.within at (omega arith) (omega arith) large

  module _ (s : Asked) (k : IsKept s) (size alignment offset : ℕ) (new : RingState) (p : Places s.ring size alignment offset new) (sized : 0 < size) (aligned : 0 < alignment) (one : cost size alignment ≤ most)
      (frame : s.current + cost size alignment ≤ most_a_frame) where
    abbrev placed : RingState
    placed = record s.ring { taken = p.place + size - s.ring.tail; current = with_piece s.ring.current (p.place + size - (s.ring.tail + s.ring.taken)) }

    kept_placed : IsKept (after_request s size alignment placed)
    kept_placed =
        let room = p.served.room in
        let after = p.served.next.begins.after in
        let whole = k.whole in
        record {
          rolled = k.rolled;
          within = omega arith;
          whole = omega arith;
          as_many = k.as_many;
          few = k.few;
          each = k.each;
          open_one = frame;
          fed = λ j le.
              let part = some_bytes s k j in
              let fed = k.fed j le in
              let rest : s.ring.tail + s.ring.taken - (s.ring.tail + bytes j s.ring.frames) ≡ s.ring.taken - bytes j s.ring.frames = omega arith in
              let was : IsFed s.ring.size most (s.ring.tail + bytes j s.ring.frames) (s.ring.tail + s.ring.taken - (s.ring.tail + bytes j s.ring.frames)) (sum (drop j s.frames) + s.current) =
              subst (λ n. IsFed s.ring.size most (s.ring.tail + bytes j s.ring.frames) n (sum (drop j s.frames) + s.current)) (sym rest) fed in
              let now = fed_on s.ring.size s.ring.tail s.ring.taken alignment size most (s.ring.tail + bytes j s.ring.frames) (sum (drop j s.frames) + s.current) p.place k.rolled sized aligned k.within
              (omega arith) (omega arith) (omega arith) p.served was in
              let length_is : p.place + size - (s.ring.tail + bytes j s.ring.frames) ≡ p.place + size - s.ring.tail - bytes j s.ring.frames = omega arith in
              let cost_is : sum (drop j s.frames) + s.current + size + alignment - 1 ≡ sum (drop j s.frames) + (s.current + cost size alignment) = omega arith in
              subst (λ n. IsFed s.ring.size most (s.ring.tail + bytes j s.ring.frames) n (sum (drop j s.frames) + (s.current + cost size alignment))) length_is
              (subst (λ n. IsFed s.ring.size most (s.ring.tail + bytes j s.ring.frames) (p.place + size - (s.ring.tail + bytes j s.ring.frames)) n) cost_is now);
        }

    pub kept_request : IsKept (after_request s size alignment new)
    kept_request = subst (λ r. IsKept (after_request s size alignment r)) (sym p.state) kept_placed

  -- ---- the end of a frame

  module _ (s : Asked) (k : IsKept s) (room : length s.frames < most_frames) where
    abbrev ended : RingState
    ended = record s.ring { frames = s.ring.frames ++ (s.ring.current ∷ []); current = no_pieces }

    fed_after : (j : ℕ) → j ≤ length (s.ring.frames ++ (s.ring.current ∷ [])) → IsFed s.ring.size most (s.ring.tail + bytes j (s.ring.frames ++ (s.ring.current ∷ [])))
        (s.ring.taken - bytes j (s.ring.frames ++ (s.ring.current ∷ []))) (sum (drop j (s.frames ++ (s.current ∷ []))) + 0)
    fed_after j le = elim (cases_lt j (length s.ring.frames + 1)) [
      | inl inside ↦
          let before : j ≤ length s.ring.frames = omega arith in
          let many = k.as_many in
          let fed = k.fed j before in
          let takes : bytes j (s.ring.frames ++ (s.ring.current ∷ [])) ≡ bytes j s.ring.frames = ap (λ xs. bytes_of xs) (take-append-le j s.ring.frames (s.ring.current ∷ []) before) in
          let drops : sum (drop j (s.frames ++ (s.current ∷ []))) ≡ sum (drop j s.frames) + sum (s.current ∷ []) =
          ap (λ xs. sum xs) (drop-append-le j s.frames (s.current ∷ []) (omega arith)) ∙ sum_by-append (λ (x : ℕ). x) (drop j s.frames) (s.current ∷ []) in
          let last : sum (s.current ∷ []) ≡ s.current = omega arith in
          record {
            over = let o = fed.over in omega (arith, o, takes, drops, last);
            before = λ up. let o = fed.before (omega (arith, up, takes)) in omega (arith, o, takes, drops, last);
            after = λ up. let o = fed.after (omega (arith, up, takes)) in omega (arith, o, takes, drops, last);
          }
      | inr past ↦
          let all : length (s.ring.frames ++ (s.ring.current ∷ [])) ≡ length s.ring.frames + 1 = length-append s.ring.frames (s.ring.current ∷ []) in
          let j_is : j ≡ length s.ring.frames + 1 = omega arith in
          let parts = sum_by-take-drop held (s.ring.frames ++ (s.ring.current ∷ [])) j in
          let rest : length (drop j (s.ring.frames ++ (s.ring.current ∷ []))) ≡ 0 = length-drop j (s.ring.frames ++ (s.ring.current ∷ [])) ∙ omega (arith, all, j_is) in
          let nothing = sum_none (drop j (s.ring.frames ++ (s.ring.current ∷ []))) rest in
          let joined = sum_by-append held s.ring.frames (s.ring.current ∷ []) in
          let last : bytes_of (s.ring.current ∷ []) ≡ s.ring.current.bytes = omega arith in
          let whole = k.whole in
          record { over = omega (arith, parts, nothing, joined, last, whole, some); before = λ up. omega (arith, parts, nothing, joined, last, whole); after = λ up. omega (arith, parts, nothing, joined, last, whole) }
    ]
      where
        sum_none : (xs : List FrameStatistics) → length xs ≡ 0 → bytes_of xs ≡ 0
        sum_none [] none = refl
        sum_none (x ∷ xs) none = absurd (omega (arith, none))

    kept_ended : IsKept (record { ring = ended; frames = s.frames ++ (s.current ∷ []); current = 0 })
    kept_ended =
        let joined = sum_by-append held s.ring.frames (s.ring.current ∷ []) in
        let last : bytes_of (s.ring.current ∷ []) ≡ s.ring.current.bytes = omega arith in
        let whole = k.whole in
        let many = k.as_many in
        let a = length-append s.frames (s.current ∷ []) in
        let b = length-append s.ring.frames (s.ring.current ∷ []) in
        record {
          rolled = k.rolled;
          within = k.within;
          whole = omega (arith, joined, last, whole);
          as_many = omega (arith, a, b, many);
          few = omega (arith, a, room);
          each = All-append (λ n. n ≤ most_a_frame) s.frames (s.current ∷ []) k.each (All-cons (λ n. n ≤ most_a_frame) s.current [] k.open_one (All-nil (λ n. n ≤ most_a_frame)));
          open_one = omega arith;
          fed = fed_after;
        }

    pub kept_end : (answer : Option Frame) (new : RingState) → EndsFrame s.ring answer new → IsKept (after_end s answer new)
    kept_end None new e = subst (λ r. IsKept (record { ring = r; frames = s.frames; current = s.current })) (sym e.1) k
    kept_end (Some frame) new e = subst (λ r. IsKept (record { ring = r; frames = s.frames ++ (s.current ∷ []); current = 0 })) (sym e.2) kept_ended

  -- ---- a retired frame

  module _ (s : Asked) (k : IsKept s) (frame : Frame) (live : IsInFlight s.ring frame) where
    rolled_after : (b : Bool) → (if b then 0 else (s.ring.tail + bytes_up_to s.ring frame) % s.ring.size) < s.ring.size
    rolled_after true = let low = k.rolled in omega (arith, low)
    rolled_after false = let low = k.rolled in mod-lt (s.ring.tail + bytes_up_to s.ring frame) (omega (arith, low))

    -- the frames behind it, counted from the first one
    behind : {X : Type 0} (f : X → ℕ) (j : ℕ) (xs : List X) → sum_by f (take (frames_up_to s.ring frame + j) xs) ≡ sum_by f (take (frames_up_to s.ring frame) xs) + sum_by f (take j (drop (frames_up_to s.ring frame) xs))
    behind f j xs = ap (λ ys. sum_by f ys) (take-add (frames_up_to s.ring frame) j xs) ∙ sum_by-append f (take (frames_up_to s.ring frame) xs) (take j (drop (frames_up_to s.ring frame) xs))

    rest_behind : (j : ℕ) (xs : List ℕ) → sum (drop (frames_up_to s.ring frame + j) xs) ≡ sum (drop j (drop (frames_up_to s.ring frame) xs))
    rest_behind j xs =
        let a = sum_by-take-drop (λ (x : ℕ). x) xs (frames_up_to s.ring frame) in
        let b = sum_by-take-drop (λ (x : ℕ). x) (drop (frames_up_to s.ring frame) xs) j in
        let c = sum_by-take-drop (λ (x : ℕ). x) xs (frames_up_to s.ring frame + j) in
        let d = behind (λ (x : ℕ). x) j xs in
        omega (arith, a, b, c, d)

    fed_moved : (b : Bool) → (s.ring.taken - bytes_up_to s.ring frame == 0) ≡ b → (j : ℕ) → j ≤ length (drop (frames_up_to s.ring frame) s.ring.frames)
        → IsFed s.ring.size most ((if b then 0 else (s.ring.tail + bytes_up_to s.ring frame) % s.ring.size) + bytes j (drop (frames_up_to s.ring frame) s.ring.frames))
        (s.ring.taken - bytes_up_to s.ring frame - bytes j (drop (frames_up_to s.ring frame) s.ring.frames)) (sum (drop j (drop (frames_up_to s.ring frame) s.frames)) + s.current)
    fed_moved true none j le =
        let part = some_bytes s k (frames_up_to s.ring frame + j) in
        let split = behind held j s.ring.frames in
        let empty = is_zero (s.ring.taken - bytes_up_to s.ring frame) none in
        record { over = omega (arith, part, split, empty, some); before = λ up. omega (arith, part, split, empty); after = λ up. omega (arith, part, split, empty) }
    fed_moved false more j le =
        let long = length-drop (frames_up_to s.ring frame) s.ring.frames in
        let first = live.0 in
        let last = live.1 in
        let fed = k.fed (frames_up_to s.ring frame + j) (omega arith) in
        let split = behind held j s.ring.frames in
        let rest = rest_behind j s.frames in
        let part = some_bytes s k (frames_up_to s.ring frame) in
        let within = k.within in
        let low = k.rolled in
        let over = fed.over in
        elim (cases_lt (s.ring.tail + bytes_up_to s.ring frame) s.ring.size) [
          | inl lt ↦
              let at = first_lap s.ring.size (s.ring.tail + bytes_up_to s.ring frame) lt in
              record {
                over = omega (arith, over, split, rest);
                before = λ up. let o = fed.before (omega (arith, up, at, split)) in omega (arith, o, split, rest);
                after = λ up. let o = fed.after (omega (arith, up, at, split)) in omega (arith, o, split, rest);
              }
          | inr ge ↦
              let at = lap s.ring.size (s.ring.tail + bytes_up_to s.ring frame) ge (omega arith) in
              let o = fed.after (omega (arith, ge, split)) in
              record { over = omega (arith, over, split, rest); before = λ up. omega (arith, o, split, rest); after = λ up. omega (arith, o, split, rest) }
        ]

    kept_retired : IsKept (record { ring = without_frames s.ring frame; frames = drop (frames_up_to s.ring frame) s.frames; current = s.current })
    kept_retired =
        let parts = sum_by-take-drop held s.ring.frames (frames_up_to s.ring frame) in
        let whole = k.whole in
        let within = k.within in
        let many = k.as_many in
        let few = k.few in
        let a = length-drop (frames_up_to s.ring frame) s.frames in
        let b = length-drop (frames_up_to s.ring frame) s.ring.frames in
        record {
          rolled = rolled_after (s.ring.taken - bytes_up_to s.ring frame == 0);
          within = omega (arith, within);
          whole = omega (arith, parts, whole);
          as_many = omega (arith, a, b, many);
          few = omega (arith, a, few);
          each = All-drop (λ n. n ≤ most_a_frame) (frames_up_to s.ring frame) s.frames k.each;
          open_one = k.open_one;
          fed = fed_moved (s.ring.taken - bytes_up_to s.ring frame == 0) refl;
        }

  pub kept_retire : (s : Asked) → IsKept s → (frame : Frame) (answer : Bool) (new : RingState) → Retires s.ring frame answer new → IsKept (after_retire s frame answer new)
  kept_retire s k frame false new r = subst (λ q. IsKept (record { ring = q; frames = s.frames; current = s.current })) (sym r.1) k
  kept_retire s k frame true new r =
      subst (λ q. IsKept (record { ring = q; frames = drop (frames_up_to s.ring frame) s.frames; current = s.current })) (sym r.1) (kept_retired s k frame r.0)

  -- ---- all calls

  pub serves : (ring : ℕ) → most_frames * most_a_frame + most_a_frame + most ≤ ring + 1 → (calls : List Call) (s : Asked) → s.ring.size ≡ ring → IsKept s → ServesAll most most_a_frame most_frames calls s
  serves ring large [] s same k = tt
  serves ring large (Request size alignment ∷ calls) s same k = λ sized aligned one frame answer new a.
      by_answer sized aligned one frame answer new a (λ same_new kept. serves ring large calls (after_request s size alignment new) same_new kept)
    where
      by_answer : 0 < size → 0 < alignment → cost size alignment ≤ most → s.current + cost size alignment ≤ most_a_frame → (answer : Option ℕ) (new : RingState) → RingAllocates s.ring size alignment answer new
          → (new.size ≡ ring → IsKept (after_request s size alignment new) → ServesAll most most_a_frame most_frames calls (after_request s size alignment new))
          → IsSome answer × ServesAll most most_a_frame most_frames calls (after_request s size alignment new)
      by_answer sized aligned one frame None new a later = absurd (fits s k (omega (arith, large, same)) size alignment sized aligned one frame a.0)
      by_answer sized aligned one frame (Some offset) new p later =
          (refl, later (ap (λ (r : RingState). r.size) p.state ∙ same) (kept_request s k size alignment offset new p sized aligned one frame))
  serves ring large (End ∷ calls) s same k = λ room answer new e. serves ring large calls (after_end s answer new) (same_end answer new e) (kept_end s k room answer new e)
    where
      same_end : (answer : Option Frame) (new : RingState) → EndsFrame s.ring answer new → (after_end s answer new).ring.size ≡ ring
      same_end None new e = ap (λ (r : RingState). r.size) e.1 ∙ same
      same_end (Some f) new e = ap (λ (r : RingState). r.size) e.2 ∙ same
  serves ring large (Retire f ∷ calls) s same k = λ answer new r. serves ring large calls (after_retire s f answer new) (same_retire answer new r) (kept_retire s k f answer new r)
    where
      same_retire : (answer : Bool) (new : RingState) → Retires s.ring f answer new → (after_retire s f answer new).ring.size ≡ ring
      same_retire true new r = ap (λ (q : RingState). q.size) r.1 ∙ same
      same_retire false new r = ap (λ (q : RingState). q.size) r.1 ∙ same

  none_taken : (j : ℕ) → bytes j [] ≡ 0
  none_taken zero = refl
  none_taken (suc j) = refl

  none_left : (j : ℕ) → sum (drop j []) ≡ 0
  none_left zero = refl
  none_left (suc j) = refl

  pub kept_first : (size room : ℕ) → 0 < size → IsKept (record { ring = empty_ring size room; frames = []; current = 0 })
  kept_first size room sized = record {
    rolled = sized;
    within = omega arith;
    whole = refl;
    as_many = refl;
    few = omega arith;
    each = All-nil (λ n. n ≤ most_a_frame);
    open_one = omega arith;
    fed = λ j le. let a = none_taken j in let b = none_left j in record { over = omega (arith, a, b, some); before = λ up. omega (arith, a, b); after = λ up. omega (arith, a, b) };
  }
