-- What a Vulkan device holds, as memory comes or goes.
use Rattle.std.specs.Prelude.{IsSome}
use Rattle.std.proofs.Common.{◌≡◌, ◌≢◌, ◌∙◌, refl, sym, ap, subst, ⊎_elim, ℕ, zero, suc, ◌<◌, List, [], ◌∷◌, length, slice_get, IfSome, arith, Bool, Option, Some, None, Ok, Err, Result}
use Rattle.std.proofs.lemmas.Bool.{cases_eq}
use Rattle.std.specs.FinMap.{get, insert, remove}
use Rattle.std.specs.Option.{is_some}
use Rattle.gpu_values.specs.Refusal.{Refusal}
use Rattle.gpu_device.specs.Held.{Held, Entry, new_entry, with_bytes, map_entry, mapped_with, put_bytes, put_entry, with_range}
use Rattle.gpu_device.specs.Properties.{Properties}
use Rattle.gpu_device.specs.declared.vulkan.device.VulkanDevice.{Ghosts}
use Rattle.gpu_device.specs.declared.vulkan.types.DeviceMemory.{DeviceMemory}
use Rattle.gpu_device.specs.declared.vulkan.types.MemoryAllocateInfo.{MemoryAllocateInfo}
use Rattle.gpu_device.proofs.Maps.{get-insert_same, get-insert_other, get-remove_same, get-remove_other, held_alike}
use Rattle.gpu_core.proofs.Options.{none_some, some_same}
use Rattle.gpu_pool.specs.Source.{HeldBlock, Adds, Removes, HoldsAfter}
use Rattle.gpu_vulkan.specs.Source.{IsResult}
use Rattle.gpu_vulkan.specs.BlockAnswer.{BlockAnswer, Declined, Granted, Mapped, NotMapped, Asks, IsResultOf}
use Rattle.gpu_pool.specs.Source.{result_of}
use Rattle.gpu_values.specs.declared.error.AllocationError.{AllocationError}
use Rattle.gpu_vulkan.specs.Source.{new_block, blocks_of, HoldsFirst}
use Rattle.gpu_vulkan.specs.Types.{is_mapped, is_host_visible, mapped_by}
use Rattle.gpu_device.specs.declared.vulkan.types.MemoryTypeInfo.{MemoryTypeInfo}

new_none : (x : Option Entry) → new_block x None ≡ None
new_none None = refl
new_none (Some e) = refl

new_is : (x now : Option Entry) → IsSome (new_block x now) → x ≡ None
new_is None now is = refl
new_is (Some e) now is = cc

module _ (p : Properties) (first held now : Held) (h : HoldsFirst p first held) (n : ℕ) where
  first_none : get held n ≡ None → get first n ≡ None
  first_none none = by (get first n) refl
    where
      by : (x : Option Entry) → get first n ≡ x → get first n ≡ None
      by None is = is
      by (Some e) is = absurd (none_some e (sym none ∙ h.stays n e is))

  -- memory of this entry came
  module _ (e : Entry) (fresh : get held n ≡ None) (at : get now n ≡ Some e) (others : (m : ℕ) → m ≢ n → get now m ≡ get held m) (mapped : is_some e.bytes ≡ is_mapped p e.memory_type_index) where
    pub adds : Adds (blocks_of first held) n (record { memory_type = e.memory_type_index; size = e.size }) (blocks_of first now)
    adds = record {
      was_free = ap (new_block (get first n)) fresh ∙ new_none (get first n);
      held = λ i. new_block (first_none fresh i) (at i);
      others = λ m ne. ap (new_block (get first m)) (others m ne);
    }

    pub comes : HoldsFirst p first now
    comes = record {
      stays = λ m x is. others m (λ same. none_some x (sym (ap (get first) same ∙ first_none fresh) ∙ is)) ∙ h.stays m x is;
      came = λ m x new is.
          ⊎_elim
          (λ same. let one : e ≡ x = some_same e x (sym at ∙ ap (get now) (sym same) ∙ is) in subst (λ (y : Entry). is_some y.bytes ≡ is_mapped p y.memory_type_index) one mapped)
          (λ ne. h.came m x new (sym (others m ne) ∙ is))
          (cases_eq m n);
    }

  -- memory went
  module _ (some : IsSome (blocks_of first held n)) (is : now ≡ remove held n) where
    gone : get now n ≡ None
    gone = ap (λ (k : Held). get k n) is ∙ get-remove_same held n

    others : (m : ℕ) → m ≢ n → get now m ≡ get held m
    others m ne = ap (λ (k : Held). get k m) is ∙ get-remove_other held n m ne

    pub removes : Removes (blocks_of first held) n (blocks_of first now)
    removes = record { gone = ap (new_block (get first n)) gone ∙ new_none (get first n); others = λ m ne. ap (new_block (get first m)) (others m ne) }

    pub goes : HoldsFirst p first now
    goes = record {
      stays = λ m x at. others m (λ same. none_some x (sym (ap (get first) same ∙ new_is (get first n) (get held n) some) ∙ at)) ∙ h.stays m x at;
      came = λ m x new at.
          ⊎_elim
          (λ same. absurd (none_some x (sym (ap (get now) same ∙ gone) ∙ at)))
          (λ ne. h.came m x new (sym (others m ne) ∙ at))
          (cases_eq m n);
    }

-- ---- an answer

abbrev pub Leaves : Properties → (first held : Held) → (t size : ℕ) → Result DeviceMemory Refusal → Held → Type 0
Leaves p first held t size result now =
    HoldsAfter (λ memory. memory.0) (blocks_of first held) (record { memory_type = t; size = size }) result (blocks_of first now) × HoldsFirst p first now

module _ {D : Type 0} (g : Ghosts D) (p : Properties) (first : Held) (old new : D) (info : MemoryAllocateInfo) (h : HoldsFirst p first (g.held old)) where
  abbrev held : Held
  held = g.held old

  abbrev t : ℕ
  t = info.memory_type_index

  same : (result : Result DeviceMemory Refusal) (e : Refusal) → result ≡ Err e → g.held new ≡ held → Leaves p first held t info.size result (g.held new)
  same result e is unchanged =
      subst (λ r. Leaves p first held t info.size r (g.held new)) (sym is)
      (λ n. ap (λ k. blocks_of first k n) unchanged, subst (HoldsFirst p first) (sym unchanged) h)

  came : (memory : DeviceMemory) (number : ℕ) (bytes : Option (List ℕ)) → number ≡ memory.0 → get held number ≡ None → is_some bytes ≡ is_mapped p t
      → get (g.held new) number ≡ Some (with_bytes (new_entry info) bytes) → ((m : ℕ) → m ≢ number → get (g.held new) m ≡ get held m) → Leaves p first held t info.size (Ok memory) (g.held new)
  came memory number bytes same fresh mapped at others =
      let e : Entry = with_bytes (new_entry info) bytes in (
        subst (λ k. Adds (blocks_of first held) k (record { memory_type = t; size = info.size }) (blocks_of first (g.held new))) same
            (adds p first held (g.held new) h number e fresh at others mapped),
        comes p first held (g.held new) h number e fresh at others mapped,
      )

  mapped_is : (number : ℕ) (bytes : List ℕ) → mapped_with (insert held number (new_entry info)) number bytes ≡ insert (insert held number (new_entry info)) number (with_bytes (new_entry info) (Some bytes))
  mapped_is number bytes = ap (λ x. map_entry (insert held number (new_entry info)) number x bytes) (get-insert_same held number (new_entry info))

  pub leaves : (result : Result DeviceMemory Refusal) (answer : BlockAnswer) → IsResult result answer → Asks g old info (is_mapped p t) answer new → Leaves p first held t info.size result (g.held new)
  leaves (Ok memory) (Declined code) told a = absurd (none_some memory.0 told)
  leaves (Err e) (Declined code) told a = same (Err e) e refl a.held
  leaves (Ok memory) (NotMapped number code) told a = absurd (none_some memory.0 told)
  leaves (Err e) (NotMapped number code) told a = same (Err e) e refl a.held
  leaves (Err e) (Granted number) told a = absurd (none_some e told)
  leaves (Err e) (Mapped number bytes) told a = absurd (none_some e told)
  leaves (Ok memory) (Granted number) told a =
      came memory number None (some_same number memory.0 told) a.number.1 (sym a.fits)
      (ap (λ (k : Held). get k number) a.held ∙ get-insert_same held number (new_entry info))
      (λ m ne. ap (λ (k : Held). get k m) a.held ∙ get-insert_other held number m (new_entry info) ne)
  leaves (Ok memory) (Mapped number bytes) told a =
      let is = a.held ∙ mapped_is number bytes in
      let full : Entry = with_bytes (new_entry info) (Some bytes) in
      came memory number (Some bytes) (some_same number memory.0 told) a.number.1 (sym a.fits.0)
      (ap (λ (k : Held). get k number) is ∙ get-insert_same (insert held number (new_entry info)) number full)
      (λ m ne. ap (λ (k : Held). get k m) is ∙ get-insert_other (insert held number (new_entry info)) number m full ne ∙ get-insert_other held number m (new_entry info) ne)

pub is_result : (result : Result DeviceMemory AllocationError) (answer : BlockAnswer) → IsResultOf result answer → IsResult (result_of result) answer
is_result (Ok memory) answer is = is
is_result (Err e) answer is = is

-- what a memory type that is there is of mapping
pub mapped_told : (types : List MemoryTypeInfo) (t : ℕ) (b : Bool) → t < length types → IfSome (slice_get types t) (λ info. b ≡ is_host_visible info) → b ≡ mapped_by (slice_get types t)
mapped_told [] t b below is = absurd (omega (arith, below))
mapped_told (x ∷ xs) zero b below is = is
mapped_told (x ∷ xs) (suc t) b below is = mapped_told xs t b (omega (arith, below)) is

-- ---- a write

put_some : (xs : Option (List ℕ)) (start : ℕ) (ws : List ℕ) → is_some (put_bytes xs start ws) ≡ is_some xs
put_some None start ws = refl
put_some (Some xs) start ws = refl

alike : (x : Option Entry) (e : Entry) (bytes : Option (List ℕ)) → new_block x (Some (with_bytes e bytes)) ≡ new_block x (Some e)
alike None e bytes = refl
alike (Some y) e bytes = refl

abbrev pub Keeps : Properties → (first held now : Held) → Type 0
Keeps p first held now = HoldsFirst p first now × ((m : ℕ) → blocks_of first now m ≡ blocks_of first held m)

module _ (p : Properties) (first held : Held) (h : HoldsFirst p first held) (n : ℕ) (some : IsSome (blocks_of first held n)) (start : ℕ) (ws : List ℕ) where
  none_at_first : get first n ≡ None
  none_at_first = new_is (get first n) (get held n) some

  puts : (x : Option Entry) → get held n ≡ x → Keeps p first held (put_entry held n x start ws)
  puts None is = (h, λ m. refl)
  puts (Some e) is =
      let now_e : Entry = with_bytes e (put_bytes e.bytes start ws) in (
        record {
          stays = λ m x at. get-insert_other held n m now_e (λ same. none_some x (sym (ap (get first) same ∙ none_at_first) ∙ at)) ∙ h.stays m x at;
          came = λ m x new at.
              ⊎_elim
              (λ same.
              let one : now_e ≡ x = some_same now_e x (sym (get-insert_same held n now_e) ∙ ap (get (insert held n now_e)) (sym same) ∙ at) in
              subst (λ (y : Entry). is_some y.bytes ≡ is_mapped p y.memory_type_index) one (put_some e.bytes start ws ∙ h.came n e none_at_first is))
              (λ ne. h.came m x new (sym (get-insert_other held n m now_e ne) ∙ at))
              (cases_eq m n);
        },
        λ m. ⊎_elim
            (λ same.
            ap (blocks_of first (insert held n now_e)) same ∙ ap (new_block (get first n)) (get-insert_same held n now_e) ∙ alike (get first n) e (put_bytes e.bytes start ws)
            ∙ ap (new_block (get first n)) (sym is) ∙ ap (blocks_of first held) (sym same))
            (λ ne. ap (new_block (get first m)) (get-insert_other held n m now_e ne))
            (cases_eq m n),
      )

  pub writes : Keeps p first held (with_range held n start ws)
  writes = puts (get held n) refl

-- ---- what is no block

-- what is no block is as it was at first
pub beside_blocks : (p : Properties) (first held : Held) → HoldsFirst p first held → (n : ℕ) → blocks_of first held n ≡ None → get held n ≡ get first n
beside_blocks p first held h n none = by (get first n) refl (get held n) refl
  where
    by : (x : Option Entry) → get first n ≡ x → (y : Option Entry) → get held n ≡ y → get held n ≡ get first n
    by None is None at = at ∙ sym is
    by None is (Some e) at =
        let block : HeldBlock = record { memory_type = e.memory_type_index; size = e.size } in
        absurd (none_some block (sym none ∙ (λ i. new_block (is i) (at i))))
    by (Some e) is y at = h.stays n e is ∙ sym is

-- without blocks the device holds what it held at first
pub all_left : (p : Properties) (first held : Held) → HoldsFirst p first held → ((n : ℕ) → blocks_of first held n ≡ None) → held ≡ first
all_left p first held h none = held_alike held first (λ n. beside_blocks p first held h n (none n))

new_same : (x : Option Entry) → new_block x x ≡ None
new_same None = refl
new_same (Some e) = refl

-- a device has no blocks at first
pub none_at_start : (first : Held) (n : ℕ) → blocks_of first first n ≡ None
none_at_start first n = new_same (get first n)

pub holds_at_start : (p : Properties) (first : Held) → HoldsFirst p first first
holds_at_start p first = record { stays = λ n e at. at; came = λ n e none at. absurd (none_some e (sym none ∙ at)) }
