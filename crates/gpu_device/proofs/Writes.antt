-- What a write to a range of one memory leaves there and elsewhere.
use Rattle.std.proofs.Common.{◌≡◌, ◌≢◌, ℕ, ◌+◌, ◌≤◌, ◌⊎◌, List, length, take, drop, Option, Some, None, IsSome, Bool, true, false, cond, nat_le, refl, sym, ap, subst, ◌∙◌, arith, inl, inr, ⊎_elim}
use Rattle.std.proofs.Common.{length-append, length-take, length-drop}
use Rattle.std.proofs.lemmas.List.{drop-take, take_all, drop-drop, drop_at}
use Rattle.std.proofs.lemmas.Bool.{cases_eq}
use Rattle.std.proofs.lemmas.Slice.{take-put_mid_below, take-put_mid, drop-put_mid}
use borrow.Rule.Slice.PartMut.{put_mid}
use Rattle.std.specs.FinMap.{get}
use Rattle.gpu_device.specs.Held.{Entry, Held, HasRange, entry_bytes, bytes_of, range_in, range_of, with_bytes, put_range, put_bytes, put_entry, with_range}
use Rattle.gpu_device.proofs.Maps.{get-insert_same, get-insert_other}

-- ---- lists

pub length-put_range : (xs : List ℕ) (s : ℕ) (ws : List ℕ) → length (put_range xs s ws) ≡ length xs
length-put_range xs s ws = simp (length-take, length-append, length-drop) (omega arith)

put_range_is : (xs : List ℕ) (s : ℕ) (ws : List ℕ) → s + length ws ≤ length xs → put_range xs s ws ≡ put_mid s (length ws) xs ws
put_range_is xs s ws h =
    rw (← drop-drop (length ws) s xs)
    (take_all _ _ (simp (length-take, length-append, length-drop) (omega arith)))

pub reads_written : (xs : List ℕ) (s : ℕ) (ws : List ℕ) → s + length ws ≤ length xs → take (length ws) (drop s (put_range xs s ws)) ≡ ws
reads_written xs s ws h =
    ap (λ l. take (length ws) (drop s l)) (put_range_is xs s ws h)
    ∙ sym (drop-take s (length ws) _)
    ∙ ap (drop s) (take-put_mid s (length ws) xs ws (s + length ws) refl (omega arith))
    ∙ drop_at (take s xs) ws s (simp length-take (omega arith))

pub reads_below : (xs : List ℕ) (s : ℕ) (ws : List ℕ) (o l : ℕ) → s + length ws ≤ length xs → o + l ≤ s → take l (drop o (put_range xs s ws)) ≡ take l (drop o xs)
reads_below xs s ws o l h below =
    ap (λ k. take l (drop o k)) (put_range_is xs s ws h)
    ∙ sym (drop-take o l _)
    ∙ ap (drop o) (take-put_mid_below s (length ws) xs ws (o + l) below (omega arith))
    ∙ drop-take o l xs

pub reads_above : (xs : List ℕ) (s : ℕ) (ws : List ℕ) (o l : ℕ) → s + length ws ≤ length xs → s + length ws ≤ o → take l (drop o (put_range xs s ws)) ≡ take l (drop o xs)
reads_above xs s ws o l h above =
    ap (λ k. take l (drop o k)) (put_range_is xs s ws h)
    ∙ ap (take l) (drop-put_mid s (length ws) xs ws o above (omega arith) refl)

-- ---- a memory that was written

-- an entry after a write
abbrev pub written_entry : Option Entry → ℕ → List ℕ → Option Entry
written_entry None s ws = None
written_entry (Some e) s ws = Some (with_bytes e (put_bytes e.bytes s ws))

put_there : (h : Held) (n s : ℕ) (ws : List ℕ) (x : Option Entry) → get h n ≡ x → get (put_entry h n x s ws) n ≡ written_entry x s ws
put_there h n s ws None e = e
put_there h n s ws (Some d) e = get-insert_same h n _

pub get_there : (h : Held) (n s : ℕ) (ws : List ℕ) → get (with_range h n s ws) n ≡ written_entry (get h n) s ws
get_there h n s ws = put_there h n s ws (get h n) refl

written_bytes : (x : Option Entry) (s : ℕ) (ws : List ℕ) → entry_bytes (written_entry x s ws) ≡ put_bytes (entry_bytes x) s ws
written_bytes None s ws = refl
written_bytes (Some e) s ws = refl

pub bytes_there : (h : Held) (n s : ℕ) (ws : List ℕ) → bytes_of (with_range h n s ws) n ≡ put_bytes (bytes_of h n) s ws
bytes_there h n s ws = ap entry_bytes (get_there h n s ws) ∙ written_bytes (get h n) s ws

put_elsewhere : (h : Held) (n s : ℕ) (ws : List ℕ) (x : Option Entry) (m : ℕ) → m ≢ n → get (put_entry h n x s ws) m ≡ get h m
put_elsewhere h n s ws None m ne = refl
put_elsewhere h n s ws (Some d) m ne = get-insert_other h n m _ ne

pub get_elsewhere : (h : Held) (n s : ℕ) (ws : List ℕ) (m : ℕ) → m ≢ n → get (with_range h n s ws) m ≡ get h m
get_elsewhere h n s ws m ne = put_elsewhere h n s ws (get h n) m ne

pub bytes_elsewhere : (h : Held) (n s : ℕ) (ws : List ℕ) (m : ℕ) → m ≢ n → bytes_of (with_range h n s ws) m ≡ bytes_of h m
bytes_elsewhere h n s ws m ne = ap entry_bytes (get_elsewhere h n s ws m ne)

written_not_there : (h : Held) (n s : ℕ) (ws : List ℕ) (x : Option Entry) → x ≡ None → put_entry h n x s ws ≡ h
written_not_there h n s ws None e = refl
written_not_there h n s ws (Some d) e = cc

-- what isn't there is written without a change
pub written_none : (h : Held) (n s : ℕ) (ws : List ℕ) → get h n ≡ None → with_range h n s ws ≡ h
written_none h n s ws none = written_not_there h n s ws (get h n) none

-- ---- ranges

pub fits_within : (a n : ℕ) → a ≤ n → nat_le a n ≡ true
fits_within a n h = grind arith

cut_within : (b : Bool) (xs : List ℕ) (o l : ℕ) → nat_le (o + l) (length xs) ≡ b → IsSome (cond b (Some (take l (drop o xs))) None) → o + l ≤ length xs
cut_within true xs o l fits some = grind arith
cut_within false xs o l fits some = cc

-- a range that reads as something is there
pub range_is_there : (b : Option (List ℕ)) (o l : ℕ) → IsSome (range_in o l b) → HasRange b o l
range_is_there None o l some = cc
range_is_there (Some xs) o l some = cut_within (nat_le (o + l) (length xs)) xs o l refl some

pub range_from : (b : Option (List ℕ)) (o l : ℕ) → HasRange b o l → IsSome (range_in o l b)
range_from None o l h = absurd h
range_from (Some xs) o l h = rw (fits_within (o + l) (length xs) h) refl

cut_length : (b : Bool) (xs ys : List ℕ) (o l : ℕ) → nat_le (o + l) (length ys) ≡ b → cond b (Some (take l (drop o ys))) None ≡ Some xs → length xs ≡ l
cut_length true xs ys o l fits e =
    let same : take l (drop o ys) ≡ xs = cc in
    let le : o + l ≤ length ys = grind arith in
    sym (ap length same) ∙ simp (length-take, length-drop) (omega arith)
cut_length false xs ys o l fits e = cc

-- a range that was read is as long as was asked
pub length_of_range : (b : Option (List ℕ)) (o l : ℕ) (xs : List ℕ) → range_in o l b ≡ Some xs → length xs ≡ l
length_of_range None o l xs e = cc
length_of_range (Some ys) o l xs e = cut_length (nat_le (o + l) (length ys)) xs ys o l refl e

-- a range that was written reads as what was written
pub written_in : (b : Option (List ℕ)) (s : ℕ) (ws : List ℕ) → HasRange b s (length ws) → range_in s (length ws) (put_bytes b s ws) ≡ Some ws
written_in None s ws h = absurd h
written_in (Some xs) s ws h =
    ap (λ c. cond c (Some (take (length ws) (drop s (put_range xs s ws)))) None) (fits_within _ _ (simp length-put_range h))
    ∙ ap Some (reads_written xs s ws h)

-- a range apart from it reads as before
pub kept_in : (b : Option (List ℕ)) (s : ℕ) (ws : List ℕ) (o l : ℕ) → HasRange b s (length ws) → (o + l ≤ s) ⊎ (s + length ws ≤ o)
    → range_in o l (put_bytes b s ws) ≡ range_in o l b
kept_in None s ws o l h apart = absurd h
kept_in (Some xs) s ws o l h (inl below) = rw (length-put_range xs s ws, reads_below xs s ws o l h below) refl
kept_in (Some xs) s ws o l h (inr above) = rw (length-put_range xs s ws, reads_above xs s ws o l h above) refl

has_range_kept : (b : Option (List ℕ)) (s : ℕ) (ws : List ℕ) (o l : ℕ) → HasRange b o l → HasRange (put_bytes b s ws) o l
has_range_kept None s ws o l h = h
has_range_kept (Some xs) s ws o l h = simp length-put_range h

-- a range that is there stays there, whatever is written
pub range_stays : (h : Held) (n s : ℕ) (ws : List ℕ) (m o l : ℕ) → HasRange (bytes_of h m) o l → HasRange (bytes_of (with_range h n s ws) m) o l
range_stays h n s ws m o l has =
    let P : Option (List ℕ) → Type 0 = λ b. HasRange b o l in
    ⊎_elim
    (λ e.
    subst (λ k. HasRange (bytes_of (with_range h n s ws) k) o l) (sym e)
    (subst P (sym (bytes_there h n s ws)) (has_range_kept (bytes_of h n) s ws o l (subst (λ k. HasRange (bytes_of h k) o l) e has))))
    (λ ne. subst P (sym (bytes_elsewhere h n s ws m ne)) has)
    (cases_eq m n)

-- the range that was written reads as what was written
pub range_there : (h : Held) (n s : ℕ) (ws : List ℕ) → HasRange (bytes_of h n) s (length ws) → range_of (with_range h n s ws) n s (length ws) ≡ Some ws
range_there h n s ws has = ap (range_in s (length ws)) (bytes_there h n s ws) ∙ written_in (bytes_of h n) s ws has

-- a range of another memory, or one apart from what was written, reads as before
pub range_elsewhere : (h : Held) (n s : ℕ) (ws : List ℕ) (m o l : ℕ) → HasRange (bytes_of h n) s (length ws)
    → (m ≢ n) ⊎ ((o + l ≤ s) ⊎ (s + length ws ≤ o)) → range_of (with_range h n s ws) m o l ≡ range_of h m o l
range_elsewhere h n s ws m o l has (inl ne) = ap (range_in o l) (bytes_elsewhere h n s ws m ne)
range_elsewhere h n s ws m o l has (inr apart) =
    ⊎_elim
    (λ e. subst (λ k. range_of (with_range h n s ws) k o l ≡ range_of h k o l) (sym e)
    (ap (range_in o l) (bytes_there h n s ws) ∙ kept_in (bytes_of h n) s ws o l has apart))
    (λ ne. ap (range_in o l) (bytes_elsewhere h n s ws m ne))
    (cases_eq m n)

-- what a caller at any device needs of a write
pub ruleset writes = (range_is_there, range_from, length_of_range, range_there, range_elsewhere, range_stays, get_elsewhere)
