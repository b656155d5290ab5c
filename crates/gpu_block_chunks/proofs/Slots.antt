-- Chunks in slots: what is held under each number after one slot is written, a chunk is put into a slot, or taken out of it.
use Rattle.std.proofs.Common.{◌≡◌, ◌≢◌, ℕ, Bool, ◌-◌, ◌<◌, ◌≤◌, ◌^◌, min, List, ◌++◌, length, get_or, set, replicate}
use Rattle.std.proofs.Common.{Option, Some, None, IsSome, IsSomeAnd, IfSome, cond, ◌==◌, refl, sym, ap, ◌∙◌, subst, inl, inr, arith}
use Rattle.std.specs.Option.{option_map}
use Rattle.std.proofs.lemmas.Bool.{cases_eq, false≢true}
use Rattle.std.proofs.lemmas.Option.{same_Some}
use Rattle.std.proofs.lemmas.List.{length-append, length-set, get_or-set_same, get_or-set_other, get_or_past}
use Rattle.gpu_block_chunks.specs.declared.chain.link.Link.{Link}
use Rattle.gpu_block_chunks.specs.declared.chain.link.LinkedChunk.{LinkedChunk}
use Rattle.gpu_block_chunks.specs.declared.chunk.Chunk.{Chunk}
use Rattle.gpu_block_chunks.specs.Chain.{Node, ChangesAt, node_of}
use Rattle.gpu_block_chunks.specs.Nodes.{Slotted, AreSound, IsAlone, IsTaken, LeadsIn, Leads, Reaches, stored_in, held_at, node_value, number_at, link_chunk_id, link_slot}
use Rattle.gpu_block_chunks.specs.ChunkIds.{id_at, slot_of}
use Rattle.gpu_block_chunks.specs.declared.chain.link.LinkedView.{LinkedView}
use Rattle.gpu_block_chunks.specs.Slots.{Stored, taken, linked_of, IsFirst}
use Rattle.gpu_block_chunks.specs.SlotLink.{IsLinkable}
use Rattle.gpu_block_chunks.proofs.Links.{same_test, apart_test}
use Rattle.gpu_block_chunks.proofs.IdChains.{was, left}
use Rattle.gpu_block_chunks.proofs.IdSlots.{slot_has, slot_none, slot_found, slot_set, slot_out, slot_more}
use Rattle.gpu_block_chunks.proofs.IdRows.{id_within}
use Rattle.gpu_block_chunks.proofs.IdGrowth.{get_more}

pub some_and : (P : Node → Type 0) → (o : Option Node) → IsSomeAnd o P → IsSome o
some_and P None h = absurd h
some_and P (Some n) h = refl

-- ---- where a link leads to

-- the link to a slot that is taken has its number
pub number_is : (ids : List (Option ℕ)) (link : Option Link) → LeadsIn ids link → number_at ids (link_slot link) ≡ link_chunk_id link
number_is ids None leads = refl
number_is ids (Some l) leads = leads

pub taken_by : (ids : List (Option ℕ)) (link : Option Link) → LeadsIn ids link → IsTaken ids (link_slot link)
taken_by ids None leads = tt
taken_by ids (Some l) leads = subst (λ (o : Option ℕ). IsSome o) (sym leads) refl

-- what stands in a slot is found under its number
pub found_in : (ids : List (Option ℕ)) (chunks : List (Option LinkedChunk)) → AreSound ids chunks → (k s : ℕ) → id_at ids s ≡ Some k → slot_of ids k ≡ Some s
found_in ids chunks sound k s at = slot_found ids k s at (λ t there. sound.distinct t s k there at)

pub found : (v : Slotted) → AreSound v.ids v.chunks → (at : Link) → Leads v (Some at) → slot_of v.ids at.chunk_id ≡ Some at.slot
found v sound at leads = found_in v.ids v.chunks sound at.chunk_id at.slot leads

-- in the slot of a number stands its chunk
some_chunk : (o : Option LinkedChunk) (k : ℕ) → option_map (λ n. (n.chunk).chunk_id) o ≡ Some k → (n : LinkedChunk) × (o ≡ Some n)
some_chunk None k e = absurd (let no : None ≡ Some k = e in cc)
some_chunk (Some n) k e = (n, refl)

pub chunk_there : (ids : List (Option ℕ)) (chunks : List (Option LinkedChunk)) → AreSound ids chunks → (k s : ℕ) → id_at ids s ≡ Some k → (n : LinkedChunk) × (get_or chunks s None ≡ Some n)
chunk_there ids chunks sound k s at = some_chunk (get_or chunks s None) k (sym (sound.numbered s) ∙ at)

-- a chunk is found under its number
pub number_of_chunk : (ids : List (Option ℕ)) (chunks : List (Option LinkedChunk)) → AreSound ids chunks → (s : ℕ) (n : LinkedChunk) → get_or chunks s None ≡ Some n → id_at ids s ≡ Some (n.chunk).chunk_id
number_of_chunk ids chunks sound s n at = sound.numbered s ∙ ap (option_map (λ (x : LinkedChunk). (x.chunk).chunk_id)) at

pub held_there : (ids : List (Option ℕ)) (chunks : List (Option LinkedChunk)) → AreSound ids chunks → (s : ℕ) (n : LinkedChunk) → get_or chunks s None ≡ Some n
    → option_map (node_value ids) (stored_in chunks (slot_of ids (n.chunk).chunk_id)) ≡ Some (node_value ids n)
held_there ids chunks sound s n at =
    ap (λ (o : Option ℕ). option_map (node_value ids) (stored_in chunks o)) (found_in ids chunks sound (n.chunk).chunk_id s (number_of_chunk ids chunks sound s n at)) ∙ ap (option_map (node_value ids)) at

-- a link to a slot that is taken reaches its chunk
pub reaches_in : (w v : Slotted) → w ≡ v → AreSound w.ids w.chunks → (s : ℕ) (n : LinkedChunk) → get_or w.chunks s None ≡ Some n → Reaches v (Some (record { chunk_id = (n.chunk).chunk_id; slot = s }))
reaches_in w v is sound s n at =
    subst (λ (u : Slotted). Reaches u (Some (record { chunk_id = (n.chunk).chunk_id; slot = s }))) is
    (number_of_chunk w.ids w.chunks sound s n at, subst (λ (o : Option Node). IsSome o) (sym (held_there w.ids w.chunks sound s n at)) refl)

-- the link to a number's slot reaches its chunk
pub reaches_found : (w v : Slotted) → w ≡ v → AreSound w.ids w.chunks → (k s : ℕ) → slot_of w.ids k ≡ Some s → Reaches v (Some (record { chunk_id = k; slot = s }))
reaches_found w v is sound k s at =
    let leads = slot_has w.ids k s at in
    let there = chunk_there w.ids w.chunks sound k s leads in
    subst (λ (u : Slotted). Reaches u (Some (record { chunk_id = k; slot = s }))) is
    (leads, subst (λ (o : Option LinkedChunk). IsSome (option_map (node_value w.ids) o)) (sym (ap (stored_in w.chunks) at ∙ there.1)) refl)

-- a number that nothing is held under has no slot
no_slot : (ids : List (Option ℕ)) (chunks : List (Option LinkedChunk)) → AreSound ids chunks → (k : ℕ) (o : Option ℕ) → slot_of ids k ≡ o
    → option_map (node_value ids) (stored_in chunks o) ≡ None → slot_of ids k ≡ None
no_slot ids chunks sound k None e none = e
no_slot ids chunks sound k (Some t) e none =
    let there = chunk_there ids chunks sound k t (slot_has ids k t e) in
    absurd (let no : Some (node_value ids there.0) ≡ None = ap (option_map (node_value ids)) (sym there.1) ∙ none in cc)

pub slotless : (w v : Slotted) → w ≡ v → AreSound w.ids w.chunks → (k : ℕ) → held_at v k ≡ None → slot_of w.ids k ≡ None
slotless w v is sound k none = no_slot w.ids w.chunks sound k (slot_of w.ids k) refl (subst (λ (u : Slotted). held_at u k ≡ None) (sym is) none)

-- ---- one slot is written
module _ (ids : List (Option ℕ)) (old new : List (Option LinkedChunk)) (sound : AreSound ids old) (k s : ℕ) (at : slot_of ids k ≡ Some s)
    (n m : LinkedChunk) (was_there : get_or old s None ≡ Some n) (here : get_or new s None ≡ Some m) (others : (t : ℕ) → t ≢ s → get_or new t None ≡ get_or old t None) where
  write_numbered : (m.chunk).chunk_id ≡ (n.chunk).chunk_id → (t : ℕ) → id_at ids t ≡ option_map (λ x. (x.chunk).chunk_id) (get_or new t None)
  write_numbered same t =
      elim (cases_eq t s) as (λ _. id_at ids t ≡ option_map (λ x. (x.chunk).chunk_id) (get_or new t None)) [
        | inl is ↦
            sound.numbered t ∙ ap (λ (u : ℕ). option_map (λ (x : LinkedChunk). (x.chunk).chunk_id) (get_or old u None)) is ∙ ap (option_map (λ (x : LinkedChunk). (x.chunk).chunk_id)) was_there
            ∙ ap (λ (k : ℕ). Some k) (sym same)
            ∙ ap (option_map (λ (x : LinkedChunk). (x.chunk).chunk_id)) (sym here) ∙ ap (λ (u : ℕ). option_map (λ (x : LinkedChunk). (x.chunk).chunk_id) (get_or new u None)) (sym is)
        | inr ne ↦ sound.numbered t ∙ ap (option_map (λ (x : LinkedChunk). (x.chunk).chunk_id)) (sym (others t ne))
      ]

  -- what stands in a slot afterwards stood there before, or was written
  written : (P : LinkedChunk → Type 0) → P m → ((t : ℕ) (x : LinkedChunk) → get_or old t None ≡ Some x → P x) → (t : ℕ) (x : LinkedChunk) → get_or new t None ≡ Some x → P x
  written P p keeps t x f =
      elim (cases_eq t s) as (λ _. P x) [
        | inl is ↦ subst P (same_Some m x (sym here ∙ ap (λ (u : ℕ). get_or new u None) (sym is) ∙ f)) p
        | inr ne ↦ keeps t x (sym (others t ne) ∙ f)
      ]

  pub write_sound : length new ≡ length old → (m.chunk).chunk_id ≡ (n.chunk).chunk_id → IsTaken ids m.prev → IsTaken ids m.next → AreSound ids new
  write_sound long same prev next =
      record {
        numbered = write_numbered same;
        enough = (let old_long = sound.enough in omega arith);
        few = sound.few;
        distinct = sound.distinct;
        prev = written (λ x. IsTaken ids x.prev) prev sound.prev;
        next = written (λ x. IsTaken ids x.next) next sound.next;
      }

  untouched : (q : ℕ) → (k ≡ q → ⊥) → (o : Option ℕ) → slot_of ids q ≡ o → stored_in new o ≡ stored_in old o
  untouched q ne None e = refl
  untouched q ne (Some t) e = others t (λ (is : t ≡ s). ne (same_Some k q (sym (slot_has ids k s at) ∙ ap (id_at ids) (sym is) ∙ slot_has ids q t e)))

  pub write_changes : (change : Node → Node) → node_value ids m ≡ change (node_value ids n) → (q : ℕ)
      → option_map (node_value ids) (stored_in new (slot_of ids q)) ≡ cond (k == q) (option_map change (option_map (node_value ids) (stored_in old (slot_of ids q))))
      (option_map (node_value ids) (stored_in old (slot_of ids q)))
  write_changes change makes q =
      elim (cases_eq k q) [
        | inl is ↦
            let e : slot_of ids q ≡ Some s = ap (slot_of ids) (sym is) ∙ at in
            rw (e, here, was_there, sym is, same_test k) (ap (λ (y : Node). Some y) makes)
        | inr ne ↦ rw (apart_test k q ne) (ap (λ (o : Option LinkedChunk). option_map (node_value ids) o) (untouched q ne (slot_of ids q) refl))
      ]

inside_of : (ids : List (Option ℕ)) (s : ℕ) → IsSome (get_or ids s None) → s < length ids
inside_of ids s there = grind (arith, get_or_past)

-- a link to a slot that is taken can be stored
pub linkable : (ids : List (Option ℕ)) → length ids < 2 ^ 32 → (p : Option ℕ) → IsTaken ids p → IfSome p IsLinkable
linkable ids few None taken = tt
linkable ids few (Some s) taken = let inside = inside_of ids s taken in omega arith

-- the same, for a write through a link
module _ (w v : Slotted) (is : w ≡ v) (sound : AreSound w.ids w.chunks) (at : Link) (reaches : Leads v (Some at)) where
  pub led : id_at w.ids at.slot ≡ Some at.chunk_id
  led = subst (λ (u : Slotted). Leads u (Some at)) (sym is) reaches

  pub reached : slot_of w.ids at.chunk_id ≡ Some at.slot
  reached = found w sound at led

  pub given : (link : Option Link) → Leads v link → IsTaken w.ids (link_slot link)
  given link leads = taken_by w.ids link (subst (λ (u : Slotted). Leads u link) (sym is) leads)

  pub numbers : (link : Option Link) → Leads v link → number_at w.ids (link_slot link) ≡ link_chunk_id link
  numbers link leads = number_is w.ids link (subst (λ (u : Slotted). Leads u link) (sym is) leads)

  module _ (n : LinkedChunk) (was_there : Some n ≡ get_or w.chunks at.slot None) where
    -- the slots that it was linked to are taken
    pub prev_kept : IsTaken w.ids n.prev
    prev_kept = sound.prev at.slot n (sym was_there)

    pub next_kept : IsTaken w.ids n.next
    next_kept = sound.next at.slot n (sym was_there)

    -- it is what is held under the link's number
    read_here : held_at w at.chunk_id ≡ Some (node_value w.ids n)
    read_here = ap (λ (o : Option ℕ). option_map (node_value w.ids) (stored_in w.chunks o)) reached ∙ ap (option_map (node_value w.ids)) (sym was_there)

    pub read_is : held_at v at.chunk_id ≡ Some (node_value v.ids n)
    read_is = subst (λ (u : Slotted). held_at u at.chunk_id ≡ Some (node_value u.ids n)) is read_here

    pub read_and : (P : Node → Type 0) → IsSomeAnd (held_at v at.chunk_id) P → P (node_value w.ids n)
    read_and P h = subst (λ (o : Option Node). IsSomeAnd o P) read_here (subst (λ (u : Slotted). IsSomeAnd (held_at u at.chunk_id) P) (sym is) h)

    within : at.slot < length w.chunks
    within = grind (arith, get_or_past)

    pub set_sound : (m : LinkedChunk) → (m.chunk).chunk_id ≡ (n.chunk).chunk_id → IsTaken w.ids m.prev → IsTaken w.ids m.next → AreSound w.ids (set w.chunks at.slot (Some m))
    set_sound m =
        write_sound w.ids w.chunks (set w.chunks at.slot (Some m)) sound at.chunk_id at.slot reached n m (sym was_there)
        (get_or-set_same w.chunks at.slot (Some m) None within) (λ t ne. get_or-set_other w.chunks at.slot t (Some m) None ne)
        (length-set w.chunks at.slot (Some m))

    pub set_changes : (m : LinkedChunk) (change : Node → Node) → node_value w.ids m ≡ change (node_value w.ids n)
        → ChangesAt at.chunk_id change (held_at v) (λ q. option_map (node_value w.ids) (stored_in (set w.chunks at.slot (Some m)) (slot_of w.ids q)))
    set_changes m change makes =
        subst (λ (u : Slotted). ChangesAt at.chunk_id change (held_at u) (λ q. option_map (node_value w.ids) (stored_in (set w.chunks at.slot (Some m)) (slot_of w.ids q)))) is
        (write_changes w.ids w.chunks (set w.chunks at.slot (Some m)) sound at.chunk_id at.slot reached n m (sym was_there)
        (get_or-set_same w.chunks at.slot (Some m) None within) (λ t ne. get_or-set_other w.chunks at.slot t (Some m) None ne) change makes)

  -- a chunk stands where it leads to
  pub stands : (n : LinkedChunk) × (Some n ≡ get_or w.chunks at.slot None)
  stands = let there = chunk_there w.ids w.chunks sound at.chunk_id at.slot led in (there.0, sym there.1)

  pub some_there : IsSome (get_or w.chunks at.slot None)
  some_there = subst (λ (o : Option LinkedChunk). IsSome o) stands.1 refl

  pub there_and : (P : Chunk → Type 0) → IsSomeAnd (held_at v at.chunk_id) (λ n. P n.chunk) → IsSomeAnd (get_or w.chunks at.slot None) (λ n. P n.chunk)
  there_and P h = subst (λ (o : Option LinkedChunk). IsSomeAnd o (λ n. P n.chunk)) stands.1 (read_and stands.0 stands.1 (λ n. P n.chunk) h)

  -- links that lead right can be stored
  pub storable : (link : Option Link) → Leads v link → IfSome (link_slot link) IsLinkable
  storable link leads = linkable w.ids sound.few (link_slot link) (given link leads)

  -- the chunk there is changed
  module _ (new : List (Option LinkedChunk)) (change : LinkedChunk → LinkedChunk) (written_is : new ≡ set w.chunks at.slot (option_map change (get_or w.chunks at.slot None))) where
    one_changed : new ≡ set w.chunks at.slot (Some (change stands.0))
    one_changed = written_is ∙ ap (λ (o : Option LinkedChunk). set w.chunks at.slot (option_map change o)) (sym stands.1)

    pub changed_sound : ((n : LinkedChunk) → ((change n).chunk).chunk_id ≡ (n.chunk).chunk_id)
        → ((n : LinkedChunk) → IsTaken w.ids n.prev → IsTaken w.ids (change n).prev) → ((n : LinkedChunk) → IsTaken w.ids n.next → IsTaken w.ids (change n).next) → AreSound w.ids new
    changed_sound same prev next =
        subst (λ (row : List (Option LinkedChunk)). AreSound w.ids row) (sym one_changed)
        (set_sound stands.0 stands.1 (change stands.0) (same stands.0) (prev stands.0 (prev_kept stands.0 stands.1)) (next stands.0 (next_kept stands.0 stands.1)))

    pub changed_changes : (change_node : Node → Node) → ((n : LinkedChunk) → node_value w.ids (change n) ≡ change_node (node_value w.ids n))
        → ChangesAt at.chunk_id change_node (held_at v) (λ q. option_map (node_value w.ids) (stored_in new (slot_of w.ids q)))
    changed_changes change_node makes =
        subst (λ (row : List (Option LinkedChunk)). ChangesAt at.chunk_id change_node (held_at v) (λ q. option_map (node_value w.ids) (stored_in row (slot_of w.ids q)))) (sym one_changed)
        (set_changes stands.0 stands.1 (change stands.0) change_node (makes stands.0))

-- ---- there are more slots
more_taken : (ids : List (Option ℕ)) (more : ℕ) (p : Option ℕ) → number_at (ids ++ replicate more None) p ≡ number_at ids p
more_taken ids more None = refl
more_taken ids more (Some s) = get_more ids more s

taken_same : (ids now : List (Option ℕ)) (p : Option ℕ) → number_at now p ≡ number_at ids p → IsTaken ids p → IsTaken now p
taken_same ids now None e taken = tt
taken_same ids now (Some s) e taken = subst (λ (o : Option ℕ). IsSome o) (sym e) taken

same_value : (ids now : List (Option ℕ)) (n : LinkedChunk) → number_at now n.prev ≡ number_at ids n.prev → number_at now n.next ≡ number_at ids n.next → node_value now n ≡ node_value ids n
same_value ids now n prev next =
    ap (λ (p : Option ℕ). record { chunk = n.chunk; prev = p; next = number_at now n.next }) prev ∙ ap (λ (p : Option ℕ). record { chunk = n.chunk; prev = number_at ids n.prev; next = p }) next

same_values : (ids now : List (Option ℕ)) (o : Option LinkedChunk) → ((n : LinkedChunk) → o ≡ Some n → node_value now n ≡ node_value ids n) → option_map (node_value now) o ≡ option_map (node_value ids) o
same_values ids now None same = refl
same_values ids now (Some n) same = ap (λ (y : Node). Some y) (same n refl)

module _ (ids : List (Option ℕ)) (chunks : List (Option LinkedChunk)) (more : ℕ) where
  pub more_sound : AreSound ids chunks → length (ids ++ replicate more None) < 2 ^ 32 → AreSound (ids ++ replicate more None) chunks
  more_sound sound few =
      record {
        numbered = λ s. get_more ids more s ∙ sound.numbered s;
        enough = (let long = length-append ids (replicate more None) in let before = sound.enough in omega arith);
        few = few;
        distinct = λ s t k at_s at_t. sound.distinct s t k (sym (get_more ids more s) ∙ at_s) (sym (get_more ids more t) ∙ at_t);
        prev = λ s x f. taken_same ids (ids ++ replicate more None) x.prev (more_taken ids more x.prev) (sound.prev s x f);
        next = λ s x f. taken_same ids (ids ++ replicate more None) x.next (more_taken ids more x.next) (sound.next s x f);
      }

  pub more_held : (k : ℕ) → option_map (node_value (ids ++ replicate more None)) (stored_in chunks (slot_of (ids ++ replicate more None) k)) ≡ option_map (node_value ids) (stored_in chunks (slot_of ids k))
  more_held k =
      ap (λ (o : Option ℕ). option_map (node_value (ids ++ replicate more None)) (stored_in chunks o)) (slot_more ids more k)
      ∙ same_values ids (ids ++ replicate more None) (stored_in chunks (slot_of ids k)) (λ n e. same_value ids (ids ++ replicate more None) n (more_taken ids more n.prev) (more_taken ids more n.next))

-- ---- the slot of a new chunk has no number, and there is one
module _ (ids : List (Option ℕ)) (old new : Stored) (s : ℕ) (enough : length old.slots ≤ length ids) (room : 0 < min (length ids - taken old) old.room) where
  pub first_within : IsFirst old new s → s < length ids
  first_within (inl a) = let less = a.0 in omega arith
  first_within (inr b) = let same = b.0 in let all = b.1 in omega arith

  pub first_long : IsFirst old new s → length new.slots ≤ length ids
  first_long (inl a) = let same = a.1 in omega arith
  first_long (inr b) = let more = b.2 in let all = b.1 in omega arith

pub no_number : (ids : List (Option ℕ)) (chunks : List (Option LinkedChunk)) (s : ℕ) → AreSound ids chunks → get_or chunks s None ≡ None → id_at ids s ≡ None
no_number ids chunks s sound vacant = sound.numbered s ∙ ap (option_map (λ (x : LinkedChunk). (x.chunk).chunk_id)) vacant

-- ---- a chunk is put into a slot that is empty
module _ (ids ids2 : List (Option ℕ)) (old new : List (Option LinkedChunk)) (sound : AreSound ids old) (k s : ℕ) (m : LinkedChunk)
    (is2 : ids2 ≡ set ids s (Some k)) (within : s < length ids) (fresh : slot_of ids k ≡ None) (vacant : get_or old s None ≡ None)
    (here : get_or new s None ≡ Some m) (others : (t : ℕ) → t ≢ s → get_or new t None ≡ get_or old t None) where
  put : (q : ℕ) → slot_of ids2 q ≡ cond (k == q) (Some s) (slot_of ids q)
  put q = ap (λ (row : List (Option ℕ)). slot_of row q) is2 ∙ slot_set ids k s within (no_number ids old s sound vacant) fresh q

  put_at : (q : ℕ) → k ≡ q → slot_of ids2 q ≡ Some s
  put_at q is = put q ∙ ap (λ (j : ℕ). cond (k == j) (Some s) (slot_of ids j)) (sym is) ∙ ap (λ (b : Bool). cond b (Some s) (slot_of ids k)) (same_test k)

  put_other : (q : ℕ) → (k ≡ q → ⊥) → slot_of ids2 q ≡ slot_of ids q
  put_other q ne = put q ∙ ap (λ (b : Bool). cond b (Some s) (slot_of ids q)) (apart_test k q ne)

  -- the slots that were taken have the numbers that they had
  number_kept : (p : Option ℕ) → IsTaken ids p → number_at ids2 p ≡ number_at ids p
  number_kept None taken = refl
  number_kept (Some u) taken =
      ap (λ (row : List (Option ℕ)). id_at row u) is2
      ∙ get_or-set_other ids s u (Some k) None (λ (is : u ≡ s). false≢true (subst (λ (o : Option ℕ). IsSome o) (ap (id_at ids) is ∙ no_number ids old s sound vacant) taken))

  still_taken : (p : Option ℕ) → IsTaken ids p → IsTaken ids2 p
  still_taken p taken = taken_same ids ids2 p (number_kept p taken) taken

  put_same : (q : ℕ) (o : Option ℕ) → slot_of ids q ≡ o → stored_in new o ≡ stored_in old o
  put_same q None e = refl
  put_same q (Some t) e =
      others t (λ (is : t ≡ s). let no : None ≡ Some q = sym (no_number ids old s sound vacant) ∙ ap (id_at ids) (sym is) ∙ slot_has ids q t e in cc)

  value_kept : (q : ℕ) (o : Option ℕ) → slot_of ids q ≡ o → option_map (node_value ids2) (stored_in old o) ≡ option_map (node_value ids) (stored_in old o)
  value_kept q None e = refl
  value_kept q (Some t) e = same_values ids ids2 (get_or old t None) (λ n f. same_value ids ids2 n (number_kept n.prev (sound.prev t n f)) (number_kept n.next (sound.next t n f)))

  pub put_sets : IsTaken ids m.prev → IsTaken ids m.next → (q : ℕ)
      → option_map (node_value ids2) (stored_in new (slot_of ids2 q)) ≡ cond (k == q) (Some (node_value ids m)) (option_map (node_value ids) (stored_in old (slot_of ids q)))
  put_sets prev next q =
      elim (cases_eq k q) as (λ _. option_map (node_value ids2) (stored_in new (slot_of ids2 q)) ≡ cond (k == q) (Some (node_value ids m)) (option_map (node_value ids) (stored_in old (slot_of ids q)))) [
        | inl is ↦ rw (put_at q is, here, sym is, same_test k) (ap (λ (y : Node). Some y) (same_value ids ids2 m (number_kept m.prev prev) (number_kept m.next next)))
        | inr ne ↦
            rw (apart_test k q ne) (ap (λ (o : Option ℕ). option_map (node_value ids2) (stored_in new o)) (put_other q ne)
            ∙ ap (λ (o : Option LinkedChunk). option_map (node_value ids2) o) (put_same q (slot_of ids q) refl) ∙ value_kept q (slot_of ids q) refl)
      ]

  pub put_keeps : (l : Option Link) → LeadsIn ids l → LeadsIn ids2 l
  put_keeps None leads = tt
  put_keeps (Some l) leads = number_kept (Some l.slot) (taken_by ids (Some l) leads) ∙ leads

  pub put_leads : id_at ids2 s ≡ Some k
  put_leads = ap (λ (row : List (Option ℕ)). id_at row s) is2 ∙ get_or-set_same ids s (Some k) None within

  put_numbered : (m.chunk).chunk_id ≡ k → (t : ℕ) → id_at ids2 t ≡ option_map (λ x. (x.chunk).chunk_id) (get_or new t None)
  put_numbered same t =
      elim (cases_eq t s) as (λ _. id_at ids2 t ≡ option_map (λ x. (x.chunk).chunk_id) (get_or new t None)) [
        | inl is ↦
            ap (id_at ids2) is ∙ put_leads ∙ ap (λ (j : ℕ). Some j) (sym same)
            ∙ ap (option_map (λ (x : LinkedChunk). (x.chunk).chunk_id)) (sym here) ∙ ap (λ (u : ℕ). option_map (λ (x : LinkedChunk). (x.chunk).chunk_id) (get_or new u None)) (sym is)
        | inr ne ↦
            ap (λ (row : List (Option ℕ)). id_at row t) is2 ∙ get_or-set_other ids s t (Some k) None ne ∙ sound.numbered t
            ∙ ap (option_map (λ (x : LinkedChunk). (x.chunk).chunk_id)) (sym (others t ne))
      ]

  put_distinct : (t u j : ℕ) → id_at ids2 t ≡ Some j → id_at ids2 u ≡ Some j → t ≡ u
  put_distinct t u j at_t at_u =
      let free = no_number ids old s sound vacant in
      elim (was ids s k within free t j (subst (λ (row : List (Option ℕ)). id_at row t ≡ Some j) is2 at_t)) as (λ _. t ≡ u) [
        | inl a ↦
            elim (was ids s k within free u j (subst (λ (row : List (Option ℕ)). id_at row u ≡ Some j) is2 at_u)) as (λ _. t ≡ u) [
              | inl b ↦ a.0 ∙ sym b.0
              | inr b ↦ absurd (slot_none ids k fresh u (b ∙ ap (λ (v : ℕ). Some v) a.1))
            ]
        | inr a ↦
            elim (was ids s k within free u j (subst (λ (row : List (Option ℕ)). id_at row u ≡ Some j) is2 at_u)) as (λ _. t ≡ u) [
              | inl b ↦ absurd (slot_none ids k fresh t (a ∙ ap (λ (v : ℕ). Some v) b.1))
              | inr b ↦ sound.distinct t u j a b
            ]
      ]

  put_taken : (link : LinkedChunk → Option ℕ) → IsTaken ids (link m) → ((t : ℕ) (x : LinkedChunk) → get_or old t None ≡ Some x → IsTaken ids (link x))
      → (t : ℕ) (x : LinkedChunk) → get_or new t None ≡ Some x → IsTaken ids2 (link x)
  put_taken link mine keeps t x f =
      elim (cases_eq t s) as (λ _. IsTaken ids2 (link x)) [
        | inl is ↦ subst (λ (y : LinkedChunk). IsTaken ids2 (link y)) (same_Some m x (sym here ∙ ap (λ (u : ℕ). get_or new u None) (sym is) ∙ f)) (still_taken (link m) mine)
        | inr ne ↦ still_taken (link x) (keeps t x (sym (others t ne) ∙ f))
      ]

  pub put_sound : length new ≤ length ids → (m.chunk).chunk_id ≡ k → IsTaken ids m.prev → IsTaken ids m.next → AreSound ids2 new
  put_sound long same prev next =
      record {
        numbered = put_numbered same;
        enough = (let kept = ap length is2 ∙ length-set ids s (Some k) in omega arith);
        few = (let kept = ap length is2 ∙ length-set ids s (Some k) in let before = sound.few in omega arith);
        distinct = put_distinct;
        prev = put_taken (λ x. x.prev) prev sound.prev;
        next = put_taken (λ x. x.next) next sound.next;
      }

-- ---- a chunk is taken out of its slot, to which no other is linked
module _ (ids ids2 : List (Option ℕ)) (old new : List (Option LinkedChunk)) (sound : AreSound ids old) (k s : ℕ) (at : id_at ids s ≡ Some k)
    (is2 : ids2 ≡ set ids s None) (gone : slot_of ids2 k ≡ None) (empty : get_or new s None ≡ None) (others : (t : ℕ) → t ≢ s → get_or new t None ≡ get_or old t None)
    (alone : IsAlone k (λ q. option_map (node_value ids) (stored_in old (slot_of ids q)))) where
  out : (q : ℕ) → slot_of ids2 q ≡ cond (k == q) None (slot_of ids q)
  out q = ap (λ (row : List (Option ℕ)). slot_of row q) is2 ∙ slot_out ids k s at (subst (λ (row : List (Option ℕ)). slot_of row k ≡ None) is2 gone) q

  out_at : (q : ℕ) → k ≡ q → slot_of ids2 q ≡ None
  out_at q is = out q ∙ ap (λ (j : ℕ). cond (k == j) None (slot_of ids j)) (sym is) ∙ ap (λ (b : Bool). cond b None (slot_of ids k)) (same_test k)

  out_other : (q : ℕ) → (k ≡ q → ⊥) → slot_of ids2 q ≡ slot_of ids q
  out_other q ne = out q ∙ ap (λ (b : Bool). cond b None (slot_of ids q)) (apart_test k q ne)

  number_left : (p : Option ℕ) → number_at ids p ≢ Some k → number_at ids2 p ≡ number_at ids p
  number_left None ne = refl
  number_left (Some u) ne =
      ap (λ (row : List (Option ℕ)). id_at row u) is2 ∙ get_or-set_other ids s u None None (λ (is : u ≡ s). ne (ap (id_at ids) is ∙ at))

  apart : (t : ℕ) (n : LinkedChunk) → t ≢ s → get_or old t None ≡ Some n → (number_at ids n.prev ≢ Some k) × (number_at ids n.next ≢ Some k)
  apart t n ne f =
      let mine = number_of_chunk ids old sound t n f in
      alone (n.chunk).chunk_id (node_value ids n) (λ (e : (n.chunk).chunk_id ≡ k). ne (sound.distinct t s k (mine ∙ ap (λ (u : ℕ). Some u) e) at)) (held_there ids old sound t n f)

  out_same : (q : ℕ) → (k ≡ q → ⊥) → (o : Option ℕ) → slot_of ids q ≡ o → stored_in new o ≡ stored_in old o
  out_same q ne None e = refl
  out_same q ne (Some t) e = others t (λ (is : t ≡ s). ne (same_Some k q (sym at ∙ ap (id_at ids) (sym is) ∙ slot_has ids q t e)))

  value_left : (q : ℕ) → (k ≡ q → ⊥) → (o : Option ℕ) → slot_of ids q ≡ o → option_map (node_value ids2) (stored_in old o) ≡ option_map (node_value ids) (stored_in old o)
  value_left q other None e = refl
  value_left q other (Some t) e =
      let ne : t ≢ s = λ is. other (same_Some k q (sym at ∙ ap (id_at ids) (sym is) ∙ slot_has ids q t e)) in
      same_values ids ids2 (get_or old t None) (λ n f. same_value ids ids2 n (number_left n.prev (apart t n ne f).0) (number_left n.next (apart t n ne f).1))

  pub out_sets : (q : ℕ) → option_map (node_value ids2) (stored_in new (slot_of ids2 q)) ≡ cond (k == q) None (option_map (node_value ids) (stored_in old (slot_of ids q)))
  out_sets q =
      elim (cases_eq k q) as (λ _. option_map (node_value ids2) (stored_in new (slot_of ids2 q)) ≡ cond (k == q) None (option_map (node_value ids) (stored_in old (slot_of ids q)))) [
        | inl is ↦ rw (out_at q is, sym is, same_test k) refl
        | inr ne ↦
            rw (apart_test k q ne) (ap (λ (o : Option ℕ). option_map (node_value ids2) (stored_in new o)) (out_other q ne)
            ∙ ap (λ (o : Option LinkedChunk). option_map (node_value ids2) o) (out_same q ne (slot_of ids q) refl) ∙ value_left q ne (slot_of ids q) refl)
      ]

  pub out_keeps : (l : Option Link) → LeadsIn ids l → link_chunk_id l ≢ Some k → LeadsIn ids2 l
  out_keeps None leads ne = tt
  out_keeps (Some l) leads ne = number_left (Some l.slot) (λ (e : id_at ids l.slot ≡ Some k). ne (sym leads ∙ e)) ∙ leads

  out_numbered : (t : ℕ) → id_at ids2 t ≡ option_map (λ x. (x.chunk).chunk_id) (get_or new t None)
  out_numbered t =
      elim (cases_eq t s) as (λ _. id_at ids2 t ≡ option_map (λ x. (x.chunk).chunk_id) (get_or new t None)) [
        | inl is ↦
            ap (id_at ids2) is ∙ ap (λ (row : List (Option ℕ)). id_at row s) is2 ∙ get_or-set_same ids s None None (id_within ids s k at)
            ∙ ap (option_map (λ (x : LinkedChunk). (x.chunk).chunk_id)) (sym empty) ∙ ap (λ (u : ℕ). option_map (λ (x : LinkedChunk). (x.chunk).chunk_id) (get_or new u None)) (sym is)
        | inr ne ↦
            ap (λ (row : List (Option ℕ)). id_at row t) is2 ∙ get_or-set_other ids s t None None ne ∙ sound.numbered t
            ∙ ap (option_map (λ (x : LinkedChunk). (x.chunk).chunk_id)) (sym (others t ne))
      ]

  out_taken : (link : LinkedChunk → Option ℕ) → ((t : ℕ) (x : LinkedChunk) → t ≢ s → get_or old t None ≡ Some x → IsTaken ids (link x) × (number_at ids (link x) ≢ Some k))
      → (t : ℕ) (x : LinkedChunk) → get_or new t None ≡ Some x → IsTaken ids2 (link x)
  out_taken link keeps t x f =
      elim (cases_eq t s) as (λ _. IsTaken ids2 (link x)) [
        | inl is ↦ absurd (let no : None ≡ Some x = sym empty ∙ ap (λ (u : ℕ). get_or new u None) (sym is) ∙ f in cc)
        | inr ne ↦ let had = keeps t x ne (sym (others t ne) ∙ f) in taken_same ids ids2 (link x) (number_left (link x) had.1) had.0
      ]

  out_distinct : (t u j : ℕ) → id_at ids2 t ≡ Some j → id_at ids2 u ≡ Some j → t ≡ u
  out_distinct t u j at_t at_u =
      let inside = id_within ids s k at in
      sound.distinct t u j (left ids s k at inside t j (subst (λ (row : List (Option ℕ)). id_at row t ≡ Some j) is2 at_t)).1
      (left ids s k at inside u j (subst (λ (row : List (Option ℕ)). id_at row u ≡ Some j) is2 at_u)).1

  pub out_sound : length new ≡ length old → AreSound ids2 new
  out_sound long =
      record {
        numbered = out_numbered;
        enough = (let kept = ap length is2 ∙ length-set ids s None in let before = sound.enough in omega arith);
        few = (let kept = ap length is2 ∙ length-set ids s None in let before = sound.few in omega arith);
        distinct = out_distinct;
        prev = out_taken (λ x. x.prev) (λ t x ne f. (sound.prev t x f, (apart t x ne f).0));
        next = out_taken (λ x. x.next) (λ t x ne f. (sound.next t x f, (apart t x ne f).1));
      }

-- ---- the slots beside a chunk that is held
pub links_lead : (w v : Slotted) → w ≡ v → AreSound w.ids w.chunks → (s : ℕ) (o : Option LinkedView) → option_map linked_of o ≡ get_or w.chunks s None
    → IfSome o (λ n. IsTaken v.ids n.prev × IsTaken v.ids n.next)
links_lead w v is sound s None e = tt
links_lead w v is sound s (Some r) e =
    subst (λ (u : Slotted). IsTaken u.ids r.prev × IsTaken u.ids r.next) is (sound.prev s (linked_of r) (sym e), sound.next s (linked_of r) (sym e))

-- a new chunk, with the numbers of the ones beside it
pub value_of_new : (ids : List (Option ℕ)) (n : LinkedChunk) (c : Chunk) (p q prev next : Option ℕ) → n.chunk ≡ c → (n.prev ≡ p) × (n.next ≡ q) → number_at ids p ≡ prev → number_at ids q ≡ next
    → node_value ids n ≡ node_of c prev next
value_of_new ids n c p q prev next chunk links before after =
    ap (λ (d : Chunk). record { chunk = d; prev = number_at ids n.prev; next = number_at ids n.next }) chunk
    ∙ ap (λ (o : Option ℕ). record { chunk = c; prev = o; next = number_at ids n.next }) (ap (number_at ids) links.0 ∙ before)
    ∙ ap (λ (o : Option ℕ). record { chunk = c; prev = prev; next = o }) (ap (number_at ids) links.1 ∙ after)
