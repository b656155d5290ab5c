-- A session's numbers stand for live pieces, each for its own, after a take and after a give.
use Rattle.std.proofs.Common.{◌≡◌, ◌≢◌, ℕ, ◌<◌, ◌⊎◌, List, [], ◌∷◌, Option, Some, None, Bool, true, false, cond, sym, ap, ◌∙◌, subst, inl, inr, refl, arith}
use Rattle.std.specs.Prelude.{Contains}
use Rattle.std.specs.Ordering.{nat_cmp, match_ordering}
use Rattle.std.specs.declared.cmp.Ordering.{Ordering}
use Rattle.std.specs.declared.cmp.Ordering.TheVariants.{Less, Equal, Greater}
use Rattle.std.specs.Int.NonZero.{non_zero_u64_get}
use Rattle.std.specs.declared.num.NonZeroU64.{NonZeroU64}
use Rattle.std.specs.BTreeMap.{is_at, insert_entry}
use Rattle.std.specs.Map.{lookup}
use Rattle.std.proofs.lemmas.Cmp.{ranked}
use Rattle.std.proofs.lemmas.Bool.Decides.{nat_tests}
use Rattle.std.proofs.lemmas.Bool.{false≢true}
use Rattle.gpu_block_pieces.specs.FreeList.{Extent}
use Rattle.gpu_block_pieces.specs.Request.{Request}
use Rattle.gpu_block.specs.Block.{Block, free_list, dedicated, extents_of, size_of, is_shared, TakesIn, ReleasesIn, IsSoundBlock}
use Rattle.gpu_block_pieces.proofs.Live.{takes_keeps, takes_adds, takes_new_chunk_id, releases_keeps}
use Rattle.gpu_block_session.specs.BlockSession.{State, piece_at, Allocating, OwnsPieces}
use Rattle.gpu_block_session.specs.declared.block.reply.Reply.{Reply}
use Rattle.gpu_block_session.specs.declared.block.reply.Reply.TheVariants as replies

-- ---- a map whose value at one key changed

abbrev pub Bound : Type 0
Bound = List (ℕ × NonZeroU64)

-- at `key` the map now gives w, and elsewhere what it gave
abbrev pub SetsAt : Bound → ℕ → Option NonZeroU64 → Bound → Type 0
SetsAt old key w new = (q : ℕ) → lookup (is_at (nat_cmp q)) new ≡ cond (is_at (nat_cmp key) q) w (lookup (is_at (nat_cmp q)) old)

pub at_key : (key q : ℕ) → is_at (nat_cmp key) q ≡ true → q ≡ key
at_key key q h = grind (arith, nat_tests)

pub at_itself : (key : ℕ) → is_at (nat_cmp key) key ≡ true
at_itself key = grind (arith, nat_tests)

at_sym : (q k : ℕ) → is_at (nat_cmp q) k ≡ is_at (nat_cmp k) q
at_sym q k = grind (arith, nat_tests)

cond_again : (b c : Bool) (x y z : Option NonZeroU64) → b ≡ c → cond b x z ≡ cond c x (cond b y z)
cond_again true c x y z e = ap (λ d. cond d x y) e
cond_again false c x y z e = ap (λ d. cond d x z) e

cond_swap : (b c : Bool) (x y z : Option NonZeroU64) → (b ≡ true → c ≡ true → ⊥) → cond c y (cond b x z) ≡ cond b x (cond c y z)
cond_swap true true x y z apart = absurd (apart refl refl)
cond_swap true false x y z apart = refl
cond_swap false true x y z apart = refl
cond_swap false false x y z apart = refl

insert_step : (key : ℕ) (e : ℕ × NonZeroU64) (es : Bound) (v : NonZeroU64) (q : ℕ) (o : Ordering) → o ≡ nat_cmp key e.0
    → lookup (is_at (nat_cmp q)) (insert_entry nat_cmp es key v) ≡ cond (is_at (nat_cmp key) q) (Some v) (lookup (is_at (nat_cmp q)) es)
    → lookup (is_at (nat_cmp q)) (match_ordering o ((key, v) ∷ e ∷ es) ((e.0, v) ∷ es) (e ∷ insert_entry nat_cmp es key v)) ≡ cond (is_at (nat_cmp key) q) (Some v)
    (lookup (is_at (nat_cmp q)) (e ∷ es))
insert_step key e es v q Less is rest = ap (λ b. cond b (Some v) (lookup (is_at (nat_cmp q)) (e ∷ es))) (at_sym q key)
insert_step key e es v q Equal is rest =
    let same : key ≡ e.0 = ranked key e.0 Equal is in
    let at : is_at (nat_cmp q) e.0 ≡ is_at (nat_cmp key) q = ap (λ k. is_at (nat_cmp q) k) (sym same) ∙ at_sym q key in
    cond_again (is_at (nat_cmp q) e.0) (is_at (nat_cmp key) q) (Some v) (Some e.1) (lookup (is_at (nat_cmp q)) es) at
insert_step key e es v q Greater is rest =
    let below : e.0 < key = ranked key e.0 Greater is in
    let apart : is_at (nat_cmp key) q ≡ true → is_at (nat_cmp q) e.0 ≡ true → ⊥ = λ a b. (let x : q ≡ key = at_key key q a in let y : e.0 ≡ q = at_key q e.0 b in omega arith) in
    ap (λ o. cond (is_at (nat_cmp q) e.0) (Some e.1) o) rest ∙ cond_swap (is_at (nat_cmp key) q) (is_at (nat_cmp q) e.0) (Some v) (Some e.1) (lookup (is_at (nat_cmp q)) es) apart

pub sets-insert_entry : (es : Bound) (key : ℕ) (v : NonZeroU64) → SetsAt es key (Some v) (insert_entry nat_cmp es key v)
sets-insert_entry [] key v q = ap (λ b. cond b (Some v) None) (at_sym q key)
sets-insert_entry (e ∷ es) key v q =
    let rest : lookup (is_at (nat_cmp q)) (insert_entry nat_cmp es key v) ≡ cond (is_at (nat_cmp key) q) (Some v) (lookup (is_at (nat_cmp q)) es) = sets-insert_entry es key v q in
    insert_step key e es v q (nat_cmp key e.0) refl rest

-- what is bound after the key was taken out was bound before, under another key
kept_at : (r : Bool) (key q : ℕ) (m : NonZeroU64) (v now : Option NonZeroU64) → now ≡ cond r None v → (q ≡ key → r ≡ true) → now ≡ Some m → (q ≢ key) × (v ≡ Some m)
kept_at true key q m v now e back is = absurd (let h : None ≡ Some m = sym e ∙ is in cc)
kept_at false key q m v now e back is = (λ same. false≢true (back same), sym e ∙ is)

-- what is bound after a key was bound is that, or was bound before
set_at : (r : Bool) (key q : ℕ) (m n : NonZeroU64) (v now : Option NonZeroU64) → now ≡ cond r (Some n) v → (r ≡ true → q ≡ key) → now ≡ Some m → ((q ≡ key) × (m ≡ n)) ⊎ (v ≡ Some m)
set_at true key q m n v now e to is = let h : Some n ≡ Some m = sym e ∙ is in inl (to refl, cc)
set_at false key q m n v now e to is = inr (sym e ∙ is)

-- ---- the pieces of a block that is cut into pieces, after a take and a release

keeps_in : (old : Block) (r : Request) (o n : ℕ) (new : Block) → is_shared old ≡ true → TakesIn old r o n new → (x : Extent) → Contains (extents_of old) x → Contains (extents_of new) x
keeps_in (free_list old) r o n (free_list new) is t x h = takes_keeps old r o n new t x h
keeps_in (free_list old) r o n (dedicated new) is t x h = absurd t
keeps_in (dedicated old) r o n new is t x h = absurd (false≢true is)

adds_in : (old : Block) (r : Request) (o n : ℕ) (new : Block) → is_shared old ≡ true → TakesIn old r o n new → (x : Extent) × Contains (extents_of new) x × (x.chunk_id ≡ n)
adds_in (free_list old) r o n (free_list new) is t = takes_adds old r o n new t
adds_in (free_list old) r o n (dedicated new) is t = absurd t
adds_in (dedicated old) r o n new is t = absurd (false≢true is)

new_number_in : (old : Block) (r : Request) (o n : ℕ) (new : Block) → is_shared old ≡ true → IsSoundBlock old → IsSoundBlock new → TakesIn old r o n new → (x : Extent) → Contains (extents_of old) x
    → x.chunk_id ≡ n → ⊥
new_number_in (free_list old) r o n (free_list new) is before after t x h e = takes_new_chunk_id old r o n new before after t (x, h, e)
new_number_in (free_list old) r o n (dedicated new) is before after t x h e = t
new_number_in (dedicated old) r o n new is before after t x h e = false≢true is

stays_general : (old : Block) (r : Request) (o n : ℕ) (new : Block) → is_shared old ≡ true → TakesIn old r o n new → is_shared new ≡ true
stays_general (free_list old) r o n (free_list new) is t = refl
stays_general (free_list old) r o n (dedicated new) is t = absurd t
stays_general (dedicated old) r o n new is t = absurd (false≢true is)

others_in : (old : Block) (n : ℕ) (new : Block) → is_shared old ≡ true → IsSoundBlock old → ReleasesIn old n new → (x : Extent) → Contains (extents_of old) x → x.chunk_id ≢ n → Contains
    (extents_of new) x
others_in (free_list old) n (free_list new) is sound t x h ne = releases_keeps old n new sound t x h ne
others_in (free_list old) n (dedicated new) is sound t x h ne = absurd t
others_in (dedicated old) n new is sound t x h ne = absurd (false≢true is)

still_general : (old : Block) (n : ℕ) (new : Block) → is_shared old ≡ true → ReleasesIn old n new → is_shared new ≡ true
still_general (free_list old) n (free_list new) is t = refl
still_general (free_list old) n (dedicated new) is t = absurd t
still_general (dedicated old) n new is t = absurd (false≢true is)

-- ---- a give and a take

pub owns_released : (old : State) (key : ℕ) (n : NonZeroU64) (block : Block) (bound : Bound) → OwnsPieces old → piece_at old key ≡ Some n → ReleasesIn old.block (non_zero_u64_get n) block →
    IsSoundBlock block → SetsAt old.bound key None bound
    → OwnsPieces (record { block = block; bound = bound })
owns_released old key n block bound own is t sound set =
    let before : (q : ℕ) (m : NonZeroU64) → lookup (is_at (nat_cmp q)) bound ≡ Some m → (q ≢ key) × (piece_at old q ≡ Some m) =
    λ q m e. kept_at (is_at (nat_cmp key) q) key q m (piece_at old q) (lookup (is_at (nat_cmp q)) bound) (set q) (λ same. subst (λ z. is_at (nat_cmp key) z ≡ true) (sym same) (at_itself key)) e in
    record {
      shared = still_general old.block (non_zero_u64_get n) block own.shared t;
      sound = sound;
      live = λ q m e.
          let b = before q m e in
          let x = own.live q m b.1 in
          let other : x.0.chunk_id ≢ non_zero_u64_get n = λ same. b.0 (own.apart q key m n b.1 is (sym x.2 ∙ same)) in
          (x.0, others_in old.block (non_zero_u64_get n) block own.shared own.sound t x.0 x.1 other, x.2);
      apart = λ j k m m' e f same. own.apart j k m m' (before j m e).1 (before k m' f).1 same;
    }

pub owns_taken : (old : State) (key : ℕ) (r : Request) (o : ℕ) (n : NonZeroU64) (block : Block) (bound : Bound) → OwnsPieces old → TakesIn old.block r o (non_zero_u64_get n) block → IsSoundBlock
    block → SetsAt old.bound key (Some n) bound
    → OwnsPieces (record { block = block; bound = bound })
owns_taken old key r o n block bound own t sound set =
    let before : (q : ℕ) (m : NonZeroU64) → lookup (is_at (nat_cmp q)) bound ≡ Some m → ((q ≡ key) × (m ≡ n)) ⊎ (piece_at old q ≡ Some m) =
    λ q m e. set_at (is_at (nat_cmp key) q) key q m n (piece_at old q) (lookup (is_at (nat_cmp q)) bound) (set q) (at_key key q) e in
    let none : (x : Extent) → Contains (extents_of old.block) x → x.chunk_id ≡ non_zero_u64_get n → ⊥ = new_number_in old.block r o (non_zero_u64_get n) block own.shared own.sound sound t in
    record {
      shared = stays_general old.block r o (non_zero_u64_get n) block own.shared t;
      sound = sound;
      live = λ q m e.
          elim (before q m e) [
            | inl at ↦ (let a = adds_in old.block r o (non_zero_u64_get n) block own.shared t in (a.0, a.1, a.2 ∙ ap non_zero_u64_get (sym at.1)))
            | inr was ↦ (let x = own.live q m was in (x.0, keeps_in old.block r o (non_zero_u64_get n) block own.shared t x.0 x.1, x.2))
          ];
      apart = λ j k m m' e f same.
          elim (before j m e) [
            | inl a ↦ elim (before k m' f) [
              | inl b ↦ a.0 ∙ sym b.0
              | inr b ↦ (let x = own.live k m' b in absurd (none x.0 x.1 (x.2 ∙ (sym same ∙ ap non_zero_u64_get a.1))))
            ]
            | inr a ↦ elim (before k m' f) [
              | inl b ↦ (let x = own.live j m a in absurd (none x.0 x.1 (x.2 ∙ (same ∙ ap non_zero_u64_get b.1))))
              | inr b ↦ own.apart j k m m' a b same
            ]
          ];
    }

pub owns_after_taking : (old : State) (key : ℕ) (r : Request) (reply : Reply) (new : State) → Allocating old key r reply new → IsSoundBlock new.block → OwnsPieces old → OwnsPieces new
owns_after_taking old key r replies.Busy new t sound own = subst OwnsPieces (sym t.1) own
owns_after_taking old key r (replies.Allocated offset chunk) new t sound own =
    owns_taken old key r offset chunk new.block new.bound own t.2 sound (λ q. ap (λ (es : Bound). lookup (is_at (nat_cmp q)) es) t.3 ∙ sets-insert_entry old.bound key chunk q)
owns_after_taking old key r (replies.Refused number) new t sound own = subst OwnsPieces (sym t.2) own
owns_after_taking old key r (replies.Block size) new t sound own = absurd t
owns_after_taking old key r replies.Freed new t sound own = absurd t
owns_after_taking old key r replies.Unbound new t sound own = absurd t
owns_after_taking old key r (replies.Report report) new t sound own = absurd t

-- ---- the block keeps its size

taken_size : (old : Block) (r : Request) (o n : ℕ) (new : Block) → TakesIn old r o n new → size_of new ≡ size_of old
taken_size (free_list old) r o n (free_list new) t = t.same.0
taken_size (free_list old) r o n (dedicated new) t = absurd t
taken_size (dedicated old) r o n (free_list new) t = absurd t
taken_size (dedicated old) r o n (dedicated new) t = ap (λ d. d.size) t.4

pub released_size : (old : Block) (n : ℕ) (new : Block) → ReleasesIn old n new → size_of new ≡ size_of old
released_size (free_list old) n (free_list new) t = t.same.0
released_size (free_list old) n (dedicated new) t = absurd t
released_size (dedicated old) n (free_list new) t = absurd t
released_size (dedicated old) n (dedicated new) t = ap (λ d. d.size) t.2

pub size_after_taking : (old : State) (key : ℕ) (r : Request) (reply : Reply) (new : State) → Allocating old key r reply new → size_of new.block ≡ size_of old.block
size_after_taking old key r replies.Busy new t = ap (λ s. size_of s.block) t.1
size_after_taking old key r (replies.Allocated offset chunk) new t = taken_size old.block r offset (non_zero_u64_get chunk) new.block t.2
size_after_taking old key r (replies.Refused number) new t = ap (λ s. size_of s.block) t.2
size_after_taking old key r (replies.Block size) new t = absurd t
size_after_taking old key r replies.Freed new t = absurd t
size_after_taking old key r replies.Unbound new t = absurd t
size_after_taking old key r (replies.Report report) new t = absurd t
