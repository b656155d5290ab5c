-- Two sessions that are alike but for bytes, and what keeps them so.
use Rattle.std.proofs.Common.{◌≡◌, ◌∙◌, ℕ, ◌+◌, ◌≤◌, List, length, Option, Some, None, Bool, true, false, refl, sym, ap, subst, inl, inr, arith, ⊎_elim}
use Rattle.std.specs.Prelude.{◌&&◌, ◌==◌, if◌then◌else◌, nat_le, nat_lt, slice_get}
use Rattle.std.specs.Option.{option_map}
use Rattle.std.proofs.lemmas.Bool.{cases_eq, cases_Bool, eqb-true}
use Rattle.std.proofs.lemmas.Bool.Decides.{nat_tests}
use Rattle.gpu_core.specs.declared.piece.Piece.{Piece}
use Rattle.gpu_device.specs.declared.vulkan.types.DeviceMemory.{DeviceMemory}
use Rattle.gpu_vulkan.specs.Blocks.{Slots}
use Rattle.gpu_vulkan.specs.ByteView.{AllocationId, is_same_id, ByteView, Writes}
use Rattle.gpu_vulkan.specs.Lends.{AreDistinct}
use Rattle.gpu_vulkan.specs.Live.{IsLiveIn}
use Rattle.gpu_vulkan.specs.Live.{piece_of, IsLive}
use Rattle.gpu_vulkan.specs.Setup.{Setup}
use Rattle.gpu_vulkan.specs.Step.{id_of}
use Rattle.gpu_vulkan.specs.declared.allocation.Allocation.{Allocation}
use Rattle.gpu_run.specs.Bindings.{bind}
use Rattle.gpu_run.specs.VulkanSession.{SessionState, SessionInvariant, overwritten}
use Rattle.gpu_run.specs.VulkanLaws.{Written}
use Rattle.gpu_run.proofs.Binding.{bound_here, bound_other, eq_true, eq_false}
use Rattle.gpu_run.proofs.VulkanOwning.{was_live, null_dead, some_same, none_some}
use Rattle.gpu_run.proofs.VulkanRanges.{length_put, put_alike}
use Rattle.gpu_run.proofs.VulkanChanges.{Gained, Lost}

-- the byte at an index of a list that may be there
abbrev pub byte_of : Option (List ℕ) → ℕ → Option ℕ
byte_of None i = None
byte_of (Some xs) i = slice_get xs i

-- what the allocator's calls see of an allocation
pub record Handle : Type 0 where
  pub memory_type : ℕ
  pub piece : Option (Piece DeviceMemory)
  pub size : ℕ

abbrev pub handle : Allocation → Handle
handle a = record { memory_type = a.memory_type_index; piece = piece_of a; size = a.size }

-- what has the handle is live
abbrev pub live_by : Slots → Handle → Type 0
live_by slots h = IsLiveIn slots h.memory_type h.piece

-- the same but for names and bytes; of our own numbers' pieces the written bytes are the same too
pub record Alike (ours : ℕ → Bool) (written : Written) (s t : SessionState) : Type 0 where
  pub bound : (k : ℕ) → option_map handle (s.bound k) ≡ option_map handle (t.bound k)
  pub slots : s.model.slots ≡ t.model.slots
  pub sizes : (q : AllocationId) → option_map length (s.model.byte_view.allocation_bytes q) ≡ option_map length (t.model.byte_view.allocation_bytes q)
  pub bytes : (key : ℕ) (a : Allocation) → ours key ≡ true → s.bound key ≡ Some a → IsLive s.model.slots a → (i : ℕ) → written key i ≡ true
      → byte_of (s.model.byte_view.allocation_bytes (id_of a)) i ≡ byte_of (t.model.byte_view.allocation_bytes (id_of a)) i

-- ---- places

pub is_place_same : (p : AllocationId) → is_same_id p p ≡ true
is_place_same p = grind (arith, nat_tests)

both_true : (a b : Bool) → (a && b) ≡ true → (a ≡ true) × (b ≡ true)
both_true true true e = (refl, refl)
both_true true false e = cc
both_true false b e = cc

pub same_place : (p q : AllocationId) → is_same_id p q ≡ true → p ≡ q
same_place p q e =
    let a = both_true (p.memory_type == q.memory_type) ((p.slot == q.slot) && (p.chunk_id == q.chunk_id)) e in
    let b = both_true (p.slot == q.slot) (p.chunk_id == q.chunk_id) a.1 in
    let types = eqb-true p.memory_type q.memory_type a.0 in
    let slots = eqb-true p.slot q.slot b.0 in
    let numbers = eqb-true p.chunk_id q.chunk_id b.1 in
    λ i. record { memory_type = types i; slot = slots i; chunk_id = numbers i }

-- different pieces have different places
pub other_place : (a b : Allocation) → AreDistinct a b → is_same_id (id_of a) (id_of b) ≡ false
other_place a b other = ⊎_elim
    (λ same.
    let e = same_place (id_of a) (id_of b) same in
    absurd (other (ap (λ p. p.memory_type) e) (ap (λ p. p.slot) e) (ap (λ p. p.chunk_id) e)))
    (λ apart. apart)
    (cases_Bool (is_same_id (id_of a) (id_of b)))

-- a list at one place has one length in both, and others are as they were
pub sizes_at : (q : AllocationId) (s t new next : ByteView) → ((r : AllocationId) → option_map length (s.allocation_bytes r) ≡ option_map length (t.allocation_bytes r)) → option_map length
    (new.allocation_bytes q) ≡ option_map length (next.allocation_bytes q)
    → ((r : AllocationId) → is_same_id q r ≡ false → new.allocation_bytes r ≡ s.allocation_bytes r) → ((r : AllocationId) → is_same_id q r ≡ false → next.allocation_bytes r ≡ t.allocation_bytes r) →
    (r : AllocationId) → option_map length (new.allocation_bytes r) ≡ option_map length (next.allocation_bytes r)
sizes_at q s t new next old here a b r = ⊎_elim
    (λ same. subst (λ x. option_map length (new.allocation_bytes x) ≡ option_map length (next.allocation_bytes x)) (same_place q r same) here)
    (λ apart. ap (option_map length) (a r apart) ∙ old r ∙ sym (ap (option_map length) (b r apart)))
    (cases_Bool (is_same_id q r))

-- ---- bytes

module _ (ours : ℕ → Bool) (written : Written) (setup : Setup) (s t new next : SessionState) (kept : SessionInvariant setup s) (kept_new : SessionInvariant setup new) (a : Alike ours written s t)
  where
    -- the bindings and bytes of neither change
    pub alike_kept : new.bound ≡ s.bound → next.bound ≡ t.bound → new.model.slots ≡ next.model.slots → new.model.byte_view ≡ s.model.byte_view → next.model.byte_view ≡ t.model.byte_view → Alike ours
        written new next
    alike_kept b c slots m n = record {
      bound = λ k. ap (λ f. option_map handle (f k)) b ∙ a.bound k ∙ sym (ap (λ f. option_map handle (f k)) c);
      slots = slots;
      sizes = λ q. ap (λ x. option_map length (x.allocation_bytes q)) m ∙ a.sizes q ∙ sym (ap (λ x. option_map length (x.allocation_bytes q)) n);
      bytes = λ key d mine e live i w.
          let was = sym (ap (λ f. f key) b) ∙ e in
          ap (λ x. byte_of (x.allocation_bytes (id_of d)) i) m ∙ a.bytes key d mine was (was_live s kept.own key d new.model.slots was live) i w
          ∙ sym (ap (λ x. byte_of (x.allocation_bytes (id_of d)) i) n);
    }

    -- a number stands for something else in both, with the same handle
    rebound_alike : (key : ℕ) (to other : Option Allocation) → new.bound ≡ bind s.bound key to → next.bound ≡ bind t.bound key other → option_map handle to ≡ option_map handle other
        → (k : ℕ) → option_map handle (new.bound k) ≡ option_map handle (next.bound k)
    rebound_alike key to other b c same k = elim (cases_eq key k) [
      | inl here ↦
          ap (λ f. option_map handle (f k)) b ∙ ap (option_map handle) (bound_here s.bound key k to here) ∙ same
          ∙ sym (ap (λ f. option_map handle (f k)) c ∙ ap (option_map handle) (bound_here t.bound key k other here))
      | inr apart ↦
          ap (λ f. option_map handle (f k)) b ∙ ap (option_map handle) (bound_other s.bound key k to apart) ∙ a.bound k
          ∙ sym (ap (λ f. option_map handle (f k)) c ∙ ap (option_map handle) (bound_other t.bound key k other apart))
    ]

    -- the bytes of a number whose list is as it was in both
    kept_bytes : (k : ℕ) (d : Allocation) → ours k ≡ true → s.bound k ≡ Some d → IsLive s.model.slots d → (i : ℕ) → written k i ≡ true
        → new.model.byte_view.allocation_bytes (id_of d) ≡ s.model.byte_view.allocation_bytes (id_of d) → next.model.byte_view.allocation_bytes (id_of d) ≡ t.model.byte_view.allocation_bytes
        (id_of d)
        → byte_of (new.model.byte_view.allocation_bytes (id_of d)) i ≡ byte_of (next.model.byte_view.allocation_bytes (id_of d)) i
    kept_bytes k d mine was live i w m n = ap (λ o. byte_of o i) m ∙ a.bytes k d mine was live i w ∙ sym (ap (λ o. byte_of o i) n)

    -- a number stands for a new piece of the same place in both
    pub alike_given : (key : ℕ) (b c : Allocation) (mapped : Bool) (size : ℕ) → new.bound ≡ bind s.bound key (Some b) → next.bound ≡ bind t.bound key (Some c) → handle b ≡ handle c
        → IsLive new.model.slots b → new.model.slots ≡ next.model.slots → Gained mapped (id_of b) size s.model.byte_view new.model.byte_view → Gained mapped (id_of b) size t.model.byte_view
        next.model.byte_view
        → Alike ours (λ k i. if key == k then false else written k i) new next
    alike_given key b c mapped size is is_too same live slots m n = record {
      bound = rebound_alike key (Some b) (Some c) is is_too (ap Some same);
      slots = slots;
      sizes = sizes_at (id_of b) s.model.byte_view t.model.byte_view new.model.byte_view next.model.byte_view a.sizes (m.here ∙ sym n.here) m.others n.others;
      bytes = λ k d mine e live_d i w. elim (cases_eq key k) [
        | inl here ↦ absurd (let f = ap (λ z. if z then false else written k i) (eq_true key k here) in let g = sym f ∙ w in cc)
        | inr apart ↦
            let w2 : written k i ≡ true = sym (ap (λ z. if z then false else written k i) (eq_false key k apart)) ∙ w in
            let was : s.bound k ≡ Some d = sym (ap (λ f. f k) is ∙ bound_other s.bound key k (Some b) apart) ∙ e in
            let b_here : new.bound key ≡ Some b = ap (λ f. f key) is ∙ bound_here s.bound key key (Some b) refl in
            let other = other_place b d (kept_new.own.apart key k b d b_here e live live_d apart) in
            kept_bytes k d mine was (was_live s kept.own k d new.model.slots was live_d) i w2 (m.others (id_of d) other) (n.others (id_of d) other)
      ];
    }

    -- a number stands for a null allocation in both
    pub alike_null : (key : ℕ) (b c : Allocation) → new.bound ≡ bind s.bound key (Some b) → next.bound ≡ bind t.bound key (Some c) → handle b ≡ handle c → piece_of b ≡ None
        → new.model.slots ≡ next.model.slots → new.model.byte_view ≡ s.model.byte_view → next.model.byte_view ≡ t.model.byte_view → Alike ours written new next
    alike_null key b c is is_too same null slots m n = record {
      bound = rebound_alike key (Some b) (Some c) is is_too (ap Some same);
      slots = slots;
      sizes = λ q. ap (λ x. option_map length (x.allocation_bytes q)) m ∙ a.sizes q ∙ sym (ap (λ x. option_map length (x.allocation_bytes q)) n);
      bytes = λ k d mine e live i w. elim (cases_eq key k) [
        | inl here ↦
            let f : Some b ≡ Some d = sym (ap (λ g. g k) is ∙ bound_here s.bound key k (Some b) here) ∙ e in
            absurd (null_dead new.model.slots d (ap piece_of (sym (some_same b d f)) ∙ null) live)
        | inr apart ↦
            let was : s.bound k ≡ Some d = sym (ap (λ f. f k) is ∙ bound_other s.bound key k (Some b) apart) ∙ e in
            kept_bytes k d mine was (was_live s kept.own k d new.model.slots was live) i w (ap (λ x. x.allocation_bytes (id_of d)) m) (ap (λ x. x.allocation_bytes (id_of d)) n)
      ];
    }

    -- a number's allocation has another name in both
    pub alike_named : (key : ℕ) (b b2 c2 : Allocation) → s.bound key ≡ Some b → new.bound ≡ bind s.bound key (Some b2) → next.bound ≡ bind t.bound key (Some c2) → handle b2 ≡ handle c2 → handle b2 ≡
        handle b → id_of b2 ≡ id_of b
        → new.model.slots ≡ next.model.slots → new.model.byte_view ≡ s.model.byte_view → next.model.byte_view ≡ t.model.byte_view → Alike ours written new next
    alike_named key b b2 c2 found is is_too same stays place slots m n = record {
      bound = rebound_alike key (Some b2) (Some c2) is is_too (ap Some same);
      slots = slots;
      sizes = λ q. ap (λ x. option_map length (x.allocation_bytes q)) m ∙ a.sizes q ∙ sym (ap (λ x. option_map length (x.allocation_bytes q)) n);
      bytes = λ k d mine e live i w. elim (cases_eq key k) [
        | inl here ↦
            let f : Some b2 ≡ Some d = sym (ap (λ g. g k) is ∙ bound_here s.bound key k (Some b2) here) ∙ e in
            let is_b2 = some_same b2 d f in
            let was : s.bound k ≡ Some b = ap s.bound (sym here) ∙ found in
            let L : Handle → Type 0 = λ h. live_by new.model.slots h in
            let live_b : IsLive new.model.slots b = subst L (ap handle (sym is_b2) ∙ stays) live in
            let at : id_of d ≡ id_of b = ap id_of (sym is_b2) ∙ place in
            subst (λ q. byte_of (new.model.byte_view.allocation_bytes q) i ≡ byte_of (next.model.byte_view.allocation_bytes q) i) (sym at)
            (kept_bytes k b mine was (was_live s kept.own k b new.model.slots was live_b) i w (ap (λ x. x.allocation_bytes (id_of b)) m) (ap (λ x. x.allocation_bytes (id_of b)) n))
        | inr apart ↦
            let was : s.bound k ≡ Some d = sym (ap (λ f. f k) is ∙ bound_other s.bound key k (Some b2) apart) ∙ e in
            kept_bytes k d mine was (was_live s kept.own k d new.model.slots was live) i w (ap (λ x. x.allocation_bytes (id_of d)) m) (ap (λ x. x.allocation_bytes (id_of d)) n)
      ];
    }

    -- a number stands for nothing any more, and its live piece went in both
    pub alike_returned : (key : ℕ) (b : Allocation) → s.bound key ≡ Some b → IsLive s.model.slots b → new.bound ≡ bind s.bound key None → next.bound ≡ bind t.bound key None
        → new.model.slots ≡ next.model.slots → Lost (id_of b) s.model.byte_view new.model.byte_view → Lost (id_of b) t.model.byte_view next.model.byte_view → Alike ours written new next
    alike_returned key b found live is is_too slots m n = record {
      bound = rebound_alike key None None is is_too refl;
      slots = slots;
      sizes = sizes_at (id_of b) s.model.byte_view t.model.byte_view new.model.byte_view next.model.byte_view a.sizes (ap (option_map length) m.gone ∙ sym (ap (option_map length) n.gone)) m.others
          n.others;
      bytes = λ k d mine e live_d i w. elim (cases_eq key k) [
        | inl here ↦ absurd (none_some d (sym (ap (λ g. g k) is ∙ bound_here s.bound key k None here) ∙ e))
        | inr apart ↦
            let was : s.bound k ≡ Some d = sym (ap (λ f. f k) is ∙ bound_other s.bound key k None apart) ∙ e in
            let live_was = was_live s kept.own k d new.model.slots was live_d in
            let other = other_place b d (kept.own.apart key k b d found was live live_was apart) in
            kept_bytes k d mine was live_was i w (m.others (id_of d) other) (n.others (id_of d) other)
      ];
    }

    -- the same, where it stood for no piece
    pub alike_unbound : (key : ℕ) → new.bound ≡ bind s.bound key None → next.bound ≡ bind t.bound key None → new.model.slots ≡ next.model.slots → new.model.byte_view ≡ s.model.byte_view →
        next.model.byte_view ≡ t.model.byte_view
        → Alike ours written new next
    alike_unbound key is is_too slots m n = record {
      bound = rebound_alike key None None is is_too refl;
      slots = slots;
      sizes = λ q. ap (λ x. option_map length (x.allocation_bytes q)) m ∙ a.sizes q ∙ sym (ap (λ x. option_map length (x.allocation_bytes q)) n);
      bytes = λ k d mine e live i w. elim (cases_eq key k) [
        | inl here ↦ absurd (none_some d (sym (ap (λ g. g k) is ∙ bound_here s.bound key k None here) ∙ e))
        | inr apart ↦
            let was : s.bound k ≡ Some d = sym (ap (λ f. f k) is ∙ bound_other s.bound key k None apart) ∙ e in
            kept_bytes k d mine was (was_live s kept.own k d new.model.slots was live) i w (ap (λ x. x.allocation_bytes (id_of d)) m) (ap (λ x. x.allocation_bytes (id_of d)) n)
      ];
    }

    -- as many bytes were put over the same range of one number's list in both, and the same ones if the number is ours
    pub alike_written : (key at : ℕ) (b : Allocation) (ws vs xs ys : List ℕ) → s.bound key ≡ Some b → IsLive s.model.slots b → new.bound ≡ s.bound → next.bound ≡ t.bound → new.model.slots ≡
        next.model.slots
        → length ws ≡ length vs → (ours key ≡ true → ws ≡ vs) → s.model.byte_view.allocation_bytes (id_of b) ≡ Some xs → t.model.byte_view.allocation_bytes (id_of b) ≡ Some ys → at + length ws ≤
        length
        xs → at + length vs ≤ length ys
        → Writes (id_of b) (overwritten xs at ws) s.model.byte_view new.model.byte_view → Writes (id_of b) (overwritten ys at vs) t.model.byte_view next.model.byte_view
        → Alike ours (λ k i. if (key == k) && (nat_le at i && nat_lt i (at + length ws)) then true else written k i) new next
    alike_written key at b ws vs xs ys found live is is_too slots as_many same_bytes here there fits fits_too m n =
        let q = id_of b in
        let long : length xs ≡ length ys = (let e : Some (length xs) ≡ Some (length ys) = sym (ap (option_map length) here) ∙ a.sizes q ∙ ap (option_map length) there in some_same (length xs)
        (length ys) e) in
        record {
          bound = λ k. ap (λ f. option_map handle (f k)) is ∙ a.bound k ∙ sym (ap (λ f. option_map handle (f k)) is_too);
          slots = slots;
          sizes = sizes_at q s.model.byte_view t.model.byte_view new.model.byte_view next.model.byte_view a.sizes
              (ap (option_map length) m.list ∙ ap Some (length_put xs at ws fits ∙ long ∙ sym (length_put ys at vs fits_too)) ∙ sym (ap (option_map length) n.list)) m.others n.others;
          bytes = λ k d mine e live_d i w.
              let was : s.bound k ≡ Some d = sym (ap (λ f. f k) is) ∙ e in
              let live_was = was_live s kept.own k d new.model.slots was live_d in
              elim (cases_eq key k) [
                | inl same ↦
                    let f : Some b ≡ Some d = sym found ∙ ap s.bound same ∙ was in
                    let at_b : id_of d ≡ q = ap id_of (sym (some_same b d f)) in
                    let mine_too : ours key ≡ true = ap ours same ∙ mine in
                    let old : written k i ≡ true → slice_get xs i ≡ slice_get ys i = λ w2.
                    sym (ap (λ o. byte_of o i) here) ∙ ap (λ r. byte_of (s.model.byte_view.allocation_bytes r) i) (sym at_b) ∙ a.bytes k d mine was live_was i w2
                    ∙ ap (λ r. byte_of (t.model.byte_view.allocation_bytes r) i) at_b ∙ ap (λ o. byte_of o i) there in
                    let w2 : (if nat_le at i && nat_lt i (at + length ws) then true else written k i) ≡ true = sym
                    (ap (λ z. if z && (nat_le at i && nat_lt i (at + length ws)) then true else written k i) (eq_true key k same)) ∙ w in
                    subst (λ r. byte_of (new.model.byte_view.allocation_bytes r) i ≡ byte_of (next.model.byte_view.allocation_bytes r) i) (sym at_b)
                    (ap (λ o. byte_of o i) m.list ∙ put_alike xs ys at ws vs i fits fits_too (same_bytes mine_too) (written k i) old w2 ∙ sym (ap (λ o. byte_of o i) n.list))
                | inr apart ↦
                    let w2 : written k i ≡ true = sym (ap (λ z. if z && (nat_le at i && nat_lt i (at + length ws)) then true else written k i) (eq_false key k apart)) ∙ w in
                    let other = other_place b d (kept.own.apart key k b d found was live live_was apart) in
                    kept_bytes k d mine was live_was i w2 (m.others (id_of d) other) (n.others (id_of d) other)
              ];
        }
