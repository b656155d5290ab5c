-- A residency set has room for each heap that isn't a member yet.
use Rattle.std.proofs.Common.{if◌then◌else◌, ◌≡◌, ◌≢◌, ℕ, zero, suc, ◌+◌, ◌<◌, ◌≤◌, ◌||◌, Bool, true, false, not, cond, nat_eq, List, [], ◌∷◌, ◌++◌, length, refl, sym, ap, subst, ◌∙◌, arith, ⊎_elim}
use Rattle.std.proofs.lemmas.Bool.{cases_eq}
use Rattle.std.proofs.lemmas.List.Folds.{list_any-append}
use Rattle.std.specs.List.{list_any}
use Rattle.gpu_device.specs.declared.metal.types.MTLHeap.{MTLHeap}
use Rattle.gpu_device.specs.Metal.{add_member, remove_member}
use Rattle.gpu_sim_metal.specs.ResidencySet.{among}

-- the number is among the members
abbrev pub has : List MTLHeap → ℕ → Bool
has ms n = list_any (λ member. nat_eq member.0 n) ms

same : (a b : ℕ) → nat_eq a b ≡ true → a ≡ b
same a b e = grind arith

apart : (a b : ℕ) → a ≢ b → nat_eq a b ≡ false
apart a b ne = grind arith

-- one where the test holds
abbrev pub one_if : Bool → ℕ
one_if b = cond b 1 0

at_most_one : (b : Bool) → one_if b ≤ 1
at_most_one true = omega arith
at_most_one false = omega arith

pub among_le : (ms : List MTLHeap) (k : ℕ) → among ms k ≤ k
among_le ms zero = omega arith
among_le ms (suc k) = omega (arith, among_le ms k, at_most_one (has ms (suc k)))

none : (b : Bool) → b ≡ false → one_if b ≡ 0
none true e = cc
none false e = refl

-- a number that isn't among them leaves a place
pub among_lt : (ms : List MTLHeap) (h k : ℕ) → 1 ≤ h → h ≤ k → has ms h ≡ false → among ms k + 1 ≤ k
among_lt ms h zero one le lacks = absurd (omega arith)
among_lt ms h (suc k) one le lacks =
    ⊎_elim
    (λ (e : h ≡ suc k). omega (arith, among_le ms k, none (has ms (suc k)) (subst (λ n. has ms n ≡ false) e lacks)))
    (λ ne. omega (arith, among_lt ms h k one (omega arith) lacks, at_most_one (has ms (suc k))))
    (cases_eq h (suc k))

pub among_grow : (ms : List MTLHeap) (k j : ℕ) → k ≤ j → among ms k ≤ among ms j
among_grow ms k zero le = let e : k ≡ 0 = omega arith in subst (λ n. among ms n ≤ 0) (sym e) (omega arith)
among_grow ms k (suc j) le =
    ⊎_elim
    (λ (e : k ≡ suc j). subst (λ n. among ms n ≤ among ms (suc j)) (sym e) (omega arith))
    (λ ne. omega (arith, among_grow ms k j (omega arith)))
    (cases_eq k (suc j))

-- ---- a heap that is added

or_false : (b : Bool) → (b || false) ≡ b
or_false true = refl
or_false false = refl

has_added : (ms : List MTLHeap) (h : MTLHeap) (n : ℕ) → h.0 ≢ n → has (ms ++ h ∷ []) n ≡ has ms n
has_added ms h n ne =
    list_any-append (λ member. nat_eq member.0 n) ms (h ∷ []) ∙ ap (λ b. has ms n || (b || false)) (apart h.0 n ne) ∙ or_false (has ms n)

or_true : (b : Bool) → (b || true) ≡ true
or_true true = refl
or_true false = refl

has_itself : (ms : List MTLHeap) (h : MTLHeap) → has (ms ++ h ∷ []) h.0 ≡ true
has_itself ms h =
    let e : nat_eq h.0 h.0 ≡ true = grind arith in
    list_any-append (λ member. nat_eq member.0 h.0) ms (h ∷ []) ∙ ap (λ b. has ms h.0 || (b || false)) e ∙ or_true (has ms h.0)

added_below : (ms : List MTLHeap) (h : MTLHeap) (k : ℕ) → k < h.0 → among (ms ++ h ∷ []) k ≡ among ms k
added_below ms h zero lt = refl
added_below ms h (suc k) lt =
    let ne : h.0 ≢ suc k = λ e. omega arith in
    ap (λ b. among (ms ++ h ∷ []) k + one_if b) (has_added ms h (suc k) ne) ∙ ap (λ n. n + one_if (has ms (suc k))) (added_below ms h k (omega arith))

pub among_add : (ms : List MTLHeap) (h : MTLHeap) (k : ℕ) → 1 ≤ h.0 → h.0 ≤ k → has ms h.0 ≡ false → among (ms ++ h ∷ []) k ≡ among ms k + 1
among_add ms h zero one le lacks = absurd (omega arith)
among_add ms h (suc k) one le lacks =
    ⊎_elim
    (λ (e : h.0 ≡ suc k).
    let now : has (ms ++ h ∷ []) (suc k) ≡ true = subst (λ n. has (ms ++ h ∷ []) n ≡ true) e (has_itself ms h) in
    let before : has ms (suc k) ≡ false = subst (λ n. has ms n ≡ false) e lacks in
    ap (λ b. among (ms ++ h ∷ []) k + one_if b) now ∙ ap (λ n. n + 1) (added_below ms h k (omega arith))
    ∙ omega (arith, none (has ms (suc k)) before))
    (λ ne.
    ap (λ b. among (ms ++ h ∷ []) k + one_if b) (has_added ms h (suc k) ne)
    ∙ omega (arith, among_add ms h k one (omega arith) lacks))
    (cases_eq h.0 (suc k))

-- ---- a heap that is removed

kept_step : (b : Bool) (x : MTLHeap) (xs ys : List MTLHeap) (h : MTLHeap) (n : ℕ) → nat_eq x.0 h.0 ≡ b → n ≢ h.0 → has ys n ≡ has xs n
    → has (cond (not b) (x ∷ ys) ys) n ≡ has (x ∷ xs) n
kept_step true x xs ys h n e ne rest =
    let ne2 : x.0 ≢ n = λ is. ne (sym is ∙ same x.0 h.0 e) in
    rest ∙ sym (ap (λ b. b || has xs n) (apart x.0 n ne2))
kept_step false x xs ys h n e ne rest = ap (λ b. nat_eq x.0 n || b) rest

has_removed : (ms : List MTLHeap) (h : MTLHeap) (n : ℕ) → n ≢ h.0 → has (remove_member ms h) n ≡ has ms n
has_removed [] h n ne = refl
has_removed (x ∷ xs) h n ne = kept_step (nat_eq x.0 h.0) x xs (remove_member xs h) h n refl ne (has_removed xs h n ne)

absent_step : (b : Bool) (x : MTLHeap) (xs ys : List MTLHeap) (c : Bool) → (b || c) ≡ false → (c ≡ false → ys ≡ xs) → cond (not b) (x ∷ ys) ys ≡ x ∷ xs
absent_step true x xs ys c e rest = cc
absent_step false x xs ys c e rest = ap (λ l. x ∷ l) (rest e)

pub remove_absent : (ms : List MTLHeap) (h : MTLHeap) → has ms h.0 ≡ false → remove_member ms h ≡ ms
remove_absent [] h lacks = refl
remove_absent (x ∷ xs) h lacks = absent_step (nat_eq x.0 h.0) x xs (remove_member xs h) (has xs h.0) lacks (remove_absent xs h)

shorter_step : (b : Bool) (x : MTLHeap) (xs ys : List MTLHeap) → length ys ≤ length xs → length (cond (not b) (x ∷ ys) ys) ≤ length (x ∷ xs)
shorter_step true x xs ys le = omega arith
shorter_step false x xs ys le = omega arith

shorter : (ms : List MTLHeap) (h : MTLHeap) → length (remove_member ms h) ≤ length ms
shorter [] h = omega arith
shorter (x ∷ xs) h = shorter_step (nat_eq x.0 h.0) x xs (remove_member xs h) (shorter xs h)

gone_step : (b : Bool) (x : MTLHeap) (xs ys : List MTLHeap) (c : Bool) → (b || c) ≡ true → length ys ≤ length xs → (c ≡ true → length ys + 1 ≤ length xs)
    → length (cond (not b) (x ∷ ys) ys) + 1 ≤ length (x ∷ xs)
gone_step true x xs ys c e le rest = omega arith
gone_step false x xs ys c e le rest = omega (arith, rest e)

pub remove_length : (ms : List MTLHeap) (h : MTLHeap) → has ms h.0 ≡ true → length (remove_member ms h) + 1 ≤ length ms
remove_length [] h is_in = cc
remove_length (x ∷ xs) h is_in = gone_step (nat_eq x.0 h.0) x xs (remove_member xs h) (has xs h.0) is_in (shorter xs h) (remove_length xs h)

removed_below : (ms : List MTLHeap) (h : MTLHeap) (k : ℕ) → k < h.0 → among (remove_member ms h) k ≡ among ms k
removed_below ms h zero lt = refl
removed_below ms h (suc k) lt =
    let ne : suc k ≢ h.0 = λ e. omega arith in
    ap (λ b. among (remove_member ms h) k + one_if b) (has_removed ms h (suc k) ne) ∙ ap (λ n. n + one_if (has ms (suc k))) (removed_below ms h k (omega arith))

pub among_remove : (ms : List MTLHeap) (h : MTLHeap) (k : ℕ) → among ms k ≤ among (remove_member ms h) k + 1
among_remove ms h zero = omega arith
among_remove ms h (suc k) =
    ⊎_elim
    (λ (e : suc k ≡ h.0). omega (arith, removed_below ms h k (omega arith), at_most_one (has ms (suc k))))
    (λ ne. omega (arith, among_remove ms h k, ap (λ b. one_if b) (has_removed ms h (suc k) ne)))
    (cases_eq (suc k) h.0)

once_step : (b : Bool) (ms : List MTLHeap) (h : MTLHeap) (k : ℕ) → has ms h.0 ≡ b → length ms ≤ among ms k → length (remove_member ms h) ≤ among (remove_member ms h) k
once_step true ms h k e le = omega (arith, remove_length ms h e, among_remove ms h k)
once_step false ms h k e le = subst (λ l. length l ≤ among l k) (sym (remove_absent ms h e)) le

pub once_removed : (ms : List MTLHeap) (h : MTLHeap) (k : ℕ) → length ms ≤ among ms k → length (remove_member ms h) ≤ among (remove_member ms h) k
once_removed ms h k le = once_step (has ms h.0) ms h k refl le

-- a set that has a heap once has room for one that it lacks
pub has_place : (ms : List MTLHeap) (h len room : ℕ) → 1 ≤ h → h ≤ room → has ms h ≡ false → len ≤ among ms room → len + 1 ≤ room
has_place ms h len room one le lacks once = omega (arith, among_lt ms h room one le lacks)

pub added_is : (ms : List MTLHeap) (h : MTLHeap) → has ms h.0 ≡ false → ms ++ h ∷ [] ≡ add_member ms h
added_is ms h lacks = sym (ap (λ b. if b then ms else (ms ++ h ∷ [])) lacks)
