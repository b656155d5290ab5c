-- Runs, spans and stretches of slots: what their numbers say of the marks.
use Rattle.std.proofs.Common.{◌≡◌, ℕ, zero, suc, [], ◌∷◌, ◌++◌, refl, inl, inr, ◌∙◌, ap, slice_set, length-set, ◌+◌, ◌*◌, ◌/◌, ◌<◌, ◌≤◌, List, length, arith, slice_index_or}
use Rattle.std.specs.Prelude.{slice_index, max}
use Rattle.std.proofs.lemmas.Bool.{cases_eq, cases_lt}
use Rattle.std.proofs.lemmas.List.{get_or_read, get_or_past, get_or-set_same, get_or-set_other}
use Rattle.gpu_core.specs.Marks.{BoundRuns, AreWithin}

-- a 0 behind all numbers is what is read there without it
pub zero_behind : (numbers : List ℕ) (i : ℕ) → slice_index (numbers ++ 0 ∷ []) i ≡ slice_index numbers i
zero_behind [] zero = refl
zero_behind [] (suc i) = refl
zero_behind (n ∷ ns) zero = refl
zero_behind (n ∷ ns) (suc i) = zero_behind ns i

-- numbers and runs that got a 0 each, or none
pub bound_longer : (marks runs new more : List ℕ) → BoundRuns marks runs → ((i : ℕ) → slice_index new i ≡ slice_index marks i) → ((i : ℕ) → slice_index more i ≡ slice_index runs i)
    → length new ≤ 16 * length more → 16 * length more < length new + 16 → BoundRuns new more
bound_longer marks runs new more b same kept enough no_more = record {
  enough = enough;
  no_more = no_more;
  each = λ run i from to within.
      let mark = same i in
      let number = kept run in
      elim (cases_lt i (length marks)) [
        | inl lt ↦ (let was = b.each run i from to lt in omega arith)
        | inr past ↦ (let none = get_or_past marks i 0 past in omega arith)
      ];
}

-- where a span's number is too low, so is each of its marks
under_span : (marks runs spans stretches : List ℕ) (span least i : ℕ) → AreWithin marks runs spans stretches → slice_index spans span < least
    → 256 * span ≤ i → i < 256 * span + 256 → i < length marks → slice_index marks i < least
under_span marks runs spans stretches span least i b low from to within =
    let enough = b.of_marks.enough in
    let mark = b.of_marks.each (i / 16) i (omega arith) (omega arith) within in
    let run = b.of_runs.each span (i / 16) (omega arith) (omega arith) (omega arith) in
    omega arith

-- the same where that number was read
pub low_span : (marks runs spans stretches : List ℕ) (span read least i : ℕ) → AreWithin marks runs spans stretches → read ≡ slice_index_or spans span read → read < least
    → 256 * span ≤ i → i < 256 * span + 256 → i < length marks → slice_index marks i < least
low_span marks runs spans stretches span read least i b is low from to within =
    let enough = b.of_marks.enough in
    let more = b.of_runs.enough in
    let number = get_or_read spans span read (omega arith) is 0 in
    under_span marks runs spans stretches span least i b (omega arith) from to within

-- and of a stretch
pub low_stretch : (marks runs spans stretches : List ℕ) (stretch read least i : ℕ) → AreWithin marks runs spans stretches → read ≡ slice_index_or stretches stretch read → read < least
    → 4096 * stretch ≤ i → i < 4096 * stretch + 4096 → i < length marks → slice_index marks i < least
low_stretch marks runs spans stretches stretch read least i b is low from to within =
    let enough = b.of_marks.enough in
    let more = b.of_runs.enough in
    let most = b.of_spans.enough in
    let number = get_or_read stretches stretch read (omega arith) is 0 in
    let span = b.of_spans.each stretch (i / 256) (omega arith) (omega arith) (omega arith) in
    under_span marks runs spans stretches (i / 256) least i b (omega arith) (omega arith) (omega arith) within

-- ---- a mark is raised, and what is above it

bound_set : (marks runs : List ℕ) (i run m n : ℕ) → BoundRuns marks runs → run ≡ i / 16 → i < length marks → m ≤ n → slice_index runs run ≤ n → BoundRuns (slice_set marks i m) (slice_set runs run n)
bound_set marks runs i run m n b is below under kept =
    let long = length-set marks i m in
    let many = length-set runs run n in
    let enough = b.enough in
    let no_more = b.no_more in
    let there : run < length runs = omega arith in
    record {
      enough = omega arith;
      no_more = omega arith;
      each = λ r j from to within. elim (cases_eq j i) [
        | inl e ↦ (let same : r ≡ run = omega arith in
            let mark : slice_index (slice_set marks i m) j ≡ m = ap (slice_index (slice_set marks i m)) e ∙ get_or-set_same marks i m 0 below in
            let number : slice_index (slice_set runs run n) r ≡ n = ap (slice_index (slice_set runs run n)) same ∙ get_or-set_same runs run n 0 there in
            omega arith)
        | inr ne ↦ (let mark : slice_index (slice_set marks i m) j ≡ slice_index marks j = get_or-set_other marks i j m 0 ne in
            let was = b.each r j from to (omega arith) in
            elim (cases_eq r run) [
              | inl same ↦ (let number : slice_index (slice_set runs run n) r ≡ n = ap (slice_index (slice_set runs run n)) same ∙ get_or-set_same runs run n 0 there in
                  let old : slice_index runs r ≡ slice_index runs run = ap (slice_index runs) same in
                  omega arith)
              | inr other ↦ (let number : slice_index (slice_set runs run n) r ≡ slice_index runs r = get_or-set_other runs run r n 0 other in omega arith)
            ])
      ];
    }

pub within_raised : (marks runs spans stretches more longer most : List ℕ) (slot mark : ℕ) → AreWithin marks runs spans stretches → slot < length marks
    → more ≡ slice_set runs (slot / 16) (max (slice_index runs (slot / 16)) mark)
    → longer ≡ slice_set spans (slot / 16 / 16) (max (slice_index spans (slot / 16 / 16)) mark)
    → most ≡ slice_set stretches (slot / 16 / 16 / 16) (max (slice_index stretches (slot / 16 / 16 / 16)) mark)
    → AreWithin (slice_set marks slot mark) more longer most
within_raised marks runs spans stretches more longer most slot mark b below e f h =
    let enough = b.of_marks.enough in
    let covered = b.of_runs.enough in
    let run = b.of_runs.each (slot / 16 / 16) (slot / 16) (omega arith) (omega arith) (omega arith) in
    let span = b.of_spans.each (slot / 16 / 16 / 16) (slot / 16 / 16) (omega arith) (omega arith) (omega arith) in
    rw (e, f, h) (record {
      of_marks = bound_set marks runs slot (slot / 16) mark (max (slice_index runs (slot / 16)) mark) b.of_marks refl below (omega arith) (omega arith);
      of_runs = bound_set runs spans (slot / 16) (slot / 16 / 16) (max (slice_index runs (slot / 16)) mark) (max (slice_index spans (slot / 16 / 16)) mark) b.of_runs refl (omega arith) (omega arith)
          (omega arith);
      of_spans = bound_set spans stretches (slot / 16 / 16) (slot / 16 / 16 / 16) (max (slice_index spans (slot / 16 / 16)) mark) (max (slice_index stretches (slot / 16 / 16 / 16)) mark) b.of_spans refl
          (omega arith) (omega arith) (omega arith);
    })
