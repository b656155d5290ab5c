-- Chunks in slots that stay found by their numbers, after a chunk is changed, put into a slot or taken out of one.
use Rattle.std.proofs.Common.{◌≡◌, ◌≢◌, ℕ, ◌-◌, ◌<◌, ◌≤◌, ◌++◌, min, max, List, [], length, get_or, set, replicate, cond, ◌==◌, Option, Some, None, sym, ap, ◌∙◌, subst, arith}
use Rattle.std.specs.Option.{option_map}
use Rattle.std.proofs.lemmas.List.{length-set}
use Rattle.gpu_block_chunks.specs.declared.chain.eras.Eras.{Eras}
use Rattle.gpu_block_chunks.specs.declared.chain.link.Link.{Link}
use Rattle.gpu_block_chunks.specs.declared.chain.link.LinkedChunk.{LinkedChunk}
use Rattle.gpu_block_chunks.specs.Chain.{Node, ChangesAt}
use Rattle.gpu_block_chunks.specs.Slots.{Stored, taken, ChangesSlot, IsFirst}
use Rattle.gpu_block_chunks.specs.Nodes.{AreNodes, AreSound, IsAlone, IsTaken, LeadsIn, link_chunk_id, stored_in, node_value}
use Rattle.gpu_block_chunks.specs.Eras.{own_chain}
use Rattle.gpu_block_chunks.specs.ChunkIds.{ids_of, slot_of, link_at, id_at, AreChains, AreKnown, AreFound, IsPlace, PutsBehind}
use Rattle.gpu_block_chunks.proofs.IdRows.{id_within, put_chains, put_known, out_known, out_gone}
use Rattle.gpu_block_chunks.proofs.IdsOf.{ids_at, ids_changed, ids_set, ids_more, ids_long}
use Rattle.gpu_block_chunks.proofs.Slots.{put_sound, put_sets, put_keeps, no_number, first_within, first_long, out_sound, out_sets, out_keeps, more_sound, more_held}

-- ---- there are no chunks yet
pub nodes_none : (eras : Eras) (heads fs : List (Option ℕ)) (chunks : List (Option LinkedChunk)) → chunks ≡ [] → AreFound eras heads fs [] → AreNodes eras heads fs chunks
nodes_none eras heads fs chunks none found =
    let few = found.chained.few in
    let long = ids_long [] (length fs) found.enough in
    subst (AreNodes eras heads fs) (sym none) (record {
      found = found;
      sound = record {
        numbered = ids_at [] (length fs);
        enough = omega arith;
        few = omega arith;
        distinct = found.chained.distinct;
        prev = λ s n at. absurd (let no : None ≡ Some n = at in cc);
        next = λ s n at. absurd (let no : None ≡ Some n = at in cc);
      };
    })

-- ---- a chunk is changed, and keeps its number
module _ (eras : Eras) (heads fs : List (Option ℕ)) (old new : List (Option LinkedChunk)) (s : ℕ) (change : LinkedChunk → LinkedChunk) (written : new ≡ set old s (option_map change (get_or old s None)))
    (same : (n : LinkedChunk) → ((change n).chunk).chunk_id ≡ (n.chunk).chunk_id) where
  pub numbers_kept : ids_of new (length fs) ≡ ids_of old (length fs)
  numbers_kept = ids_changed old new (length fs) s change written same

  pub nodes_kept : AreNodes eras heads fs old → AreSound (ids_of old (length fs)) new → AreNodes eras heads fs new
  nodes_kept are sound =
      let long = ap length written ∙ length-set old s (option_map change (get_or old s None)) in
      let had = are.found.enough in
      record {
        found = record {
          chained = subst (AreChains (own_chain eras) heads fs) (sym numbers_kept) are.found.chained;
          known = subst (AreKnown eras) (sym numbers_kept) are.found.known;
          short = are.found.short;
          headed = are.found.headed;
          eras_few = are.found.eras_few;
          enough = omega arith;
        };
        sound = subst (λ (ids : List (Option ℕ)). AreSound ids new) (sym numbers_kept) sound;
      }

  pub held_kept : (k : ℕ) (change_node : Node → Node) (held : ℕ → Option Node)
      → ChangesAt k change_node held (λ q. option_map (node_value (ids_of old (length fs))) (stored_in new (slot_of (ids_of old (length fs)) q)))
      → ChangesAt k change_node held (λ q. option_map (node_value (ids_of new (length fs))) (stored_in new (slot_of (ids_of new (length fs)) q)))
  held_kept k change_node held changes =
      subst (λ (ids : List (Option ℕ)). ChangesAt k change_node held (λ q. option_map (node_value ids) (stored_in new (slot_of ids q)))) (sym numbers_kept) changes

-- ---- a chunk is put into a slot
module _ (eras new_eras : Eras) (heads fs new_heads new_fs : List (Option ℕ)) (old new : Stored) (k s : ℕ) (n : LinkedChunk) (before : Option ℕ) (are : AreNodes eras heads fs old.slots)
    (room : 0 < min (length fs - taken old) old.room) (fresh : slot_of (ids_of old.slots (length fs)) k ≡ None) (place : IsPlace (own_chain eras) heads fs (ids_of old.slots (length fs)) (own_chain eras k) k before)
    (was_free : get_or old.slots s None ≡ None) (changes : ChangesSlot old new s (Some n)) (first : IsFirst old new s) (numbered : (n.chunk).chunk_id ≡ k)
    (links : PutsBehind (link_at heads fs) (link_at new_heads new_fs) (own_chain eras k) before s) (heads_length : length new_heads ≡ length heads) (fs_length : length new_fs ≡ length fs)
    (raised : new_eras ≡ record eras { latest = max eras.latest k }) where
  put_few : length new.slots ≤ length fs
  put_few = first_long fs old new s are.found.enough room first

  put_within : s < length (ids_of old.slots (length fs))
  put_within = let long = ids_long old.slots (length fs) are.found.enough in let within = first_within fs old new s are.found.enough room first in omega arith

  put_numbers : ids_of new.slots (length new_fs) ≡ set (ids_of old.slots (length fs)) s (Some k)
  put_numbers =
      ap (ids_of new.slots) fs_length
      ∙ ids_set old.slots new.slots (length fs) s (Some n) are.found.enough put_few (first_within fs old new s are.found.enough room first) changes.changed changes.others
      ∙ ap (λ (u : ℕ). set (ids_of old.slots (length fs)) s (Some u)) numbered

  put_chained : AreChains (own_chain eras) new_heads new_fs (set (ids_of old.slots (length fs)) s (Some k))
  put_chained =
      put_chains (own_chain eras) heads fs new_heads new_fs (ids_of old.slots (length fs)) are.found.chained k s before heads_length fs_length place put_within
      (no_number (ids_of old.slots (length fs)) old.slots s are.sound was_free) fresh links

  pub nodes_put : IsTaken (ids_of old.slots (length fs)) n.prev → IsTaken (ids_of old.slots (length fs)) n.next → AreNodes new_eras new_heads new_fs new.slots
  nodes_put prev next =
      let long = ids_long old.slots (length fs) are.found.enough in
      let few = put_few in
      let headed = are.found.headed in
      let short = are.found.short in
      record {
        found = subst (λ (e : Eras). AreFound e new_heads new_fs new.slots) (sym raised) (record {
          chained = subst (AreChains (own_chain eras) new_heads new_fs) (sym put_numbers) put_chained;
          known = subst (AreKnown (record eras { latest = max eras.latest k })) (sym put_numbers) (put_known eras (ids_of old.slots (length fs)) s k put_within
              (no_number (ids_of old.slots (length fs)) old.slots s are.sound was_free) are.found.known);
          short = omega arith;
          headed = omega arith;
          eras_few = are.found.eras_few;
          enough = omega arith;
        });
        sound = put_sound (ids_of old.slots (length fs)) (ids_of new.slots (length new_fs)) old.slots new.slots are.sound k s n put_numbers put_within fresh was_free changes.changed changes.others
            (omega arith) numbered prev next;
      }

  pub held_put : IsTaken (ids_of old.slots (length fs)) n.prev → IsTaken (ids_of old.slots (length fs)) n.next → (q : ℕ)
      → option_map (node_value (ids_of new.slots (length new_fs))) (stored_in new.slots (slot_of (ids_of new.slots (length new_fs)) q))
      ≡ cond (k == q) (Some (node_value (ids_of old.slots (length fs)) n)) (option_map (node_value (ids_of old.slots (length fs))) (stored_in old.slots (slot_of (ids_of old.slots (length fs)) q)))
  held_put =
      put_sets (ids_of old.slots (length fs)) (ids_of new.slots (length new_fs)) old.slots new.slots are.sound k s n put_numbers put_within fresh was_free changes.changed changes.others

  pub links_put : (l : Option Link) → LeadsIn (ids_of old.slots (length fs)) l → LeadsIn (ids_of new.slots (length new_fs)) l
  links_put =
      put_keeps (ids_of old.slots (length fs)) (ids_of new.slots (length new_fs)) old.slots new.slots are.sound k s n put_numbers put_within fresh was_free changes.changed changes.others

-- ---- a chunk is taken out of its slot
module _ (eras new_eras : Eras) (heads fs new_heads new_fs : List (Option ℕ)) (old new : Stored) (k s : ℕ) (are : AreNodes eras heads fs old.slots) (there : id_at (ids_of old.slots (length fs)) s ≡ Some k)
    (changes : ChangesSlot old new s None) (long : length new.slots ≡ length old.slots) (chained : AreChains (own_chain eras) new_heads new_fs (set (ids_of old.slots (length fs)) s None))
    (heads_length : length new_heads ≡ length heads) (eras_same : new_eras ≡ eras) (fs_length : length new_fs ≡ length fs) (alone : IsAlone k (λ q. option_map (node_value (ids_of old.slots (length fs))) (stored_in old.slots (slot_of (ids_of old.slots (length fs)) q)))) where
  out_numbers : ids_of new.slots (length new_fs) ≡ set (ids_of old.slots (length fs)) s None
  out_numbers =
      let enough = are.found.enough in
      let within = id_within (ids_of old.slots (length fs)) s k there in
      let whole = ids_long old.slots (length fs) are.found.enough in
      ap (ids_of new.slots) fs_length ∙ ids_set old.slots new.slots (length fs) s None are.found.enough (omega arith) (omega arith) changes.changed changes.others

  gone : slot_of (ids_of new.slots (length new_fs)) k ≡ None
  gone = ap (λ (ids : List (Option ℕ)). slot_of ids k) out_numbers ∙ out_gone (own_chain eras) heads fs (ids_of old.slots (length fs)) k s are.found.chained there

  pub nodes_out : AreNodes new_eras new_heads new_fs new.slots
  nodes_out =
      let enough = are.found.enough in
      let headed = are.found.headed in
      let short = are.found.short in
      record {
        found = subst (λ (e : Eras). AreFound e new_heads new_fs new.slots) (sym eras_same) (record {
          chained = subst (AreChains (own_chain eras) new_heads new_fs) (sym out_numbers) chained;
          known = subst (AreKnown eras) (sym out_numbers) (out_known eras (ids_of old.slots (length fs)) s k there are.found.known);
          short = omega arith;
          headed = omega arith;
          eras_few = are.found.eras_few;
          enough = omega arith;
        });
        sound = out_sound (ids_of old.slots (length fs)) (ids_of new.slots (length new_fs)) old.slots new.slots are.sound k s there out_numbers gone changes.changed changes.others alone long;
      }

  pub held_out : (q : ℕ) → option_map (node_value (ids_of new.slots (length new_fs))) (stored_in new.slots (slot_of (ids_of new.slots (length new_fs)) q))
      ≡ cond (k == q) None (option_map (node_value (ids_of old.slots (length fs))) (stored_in old.slots (slot_of (ids_of old.slots (length fs)) q)))
  held_out = out_sets (ids_of old.slots (length fs)) (ids_of new.slots (length new_fs)) old.slots new.slots are.sound k s there out_numbers gone changes.changed changes.others alone

  pub links_out : (l : Option Link) → LeadsIn (ids_of old.slots (length fs)) l → link_chunk_id l ≢ Some k → LeadsIn (ids_of new.slots (length new_fs)) l
  links_out = out_keeps (ids_of old.slots (length fs)) (ids_of new.slots (length new_fs)) old.slots new.slots are.sound k s there out_numbers gone changes.changed changes.others alone

-- ---- there are more slots
module _ (eras new_eras : Eras) (heads fs new_heads new_fs : List (Option ℕ)) (chunks : List (Option LinkedChunk)) (are : AreNodes eras heads fs chunks) (found : AreFound new_eras new_heads new_fs chunks)
    (more : length fs ≤ length new_fs) where
  more_numbers : ids_of chunks (length new_fs) ≡ ids_of chunks (length fs) ++ replicate (length new_fs - length fs) None
  more_numbers = ids_more chunks (length fs) (length new_fs) are.found.enough more

  pub nodes_more : AreNodes new_eras new_heads new_fs chunks
  nodes_more =
      let long = ap length more_numbers in
      let whole = ids_long chunks (length new_fs) found.enough in
      let few = found.chained.few in
      record {
        found = found;
        sound = subst (λ (ids : List (Option ℕ)). AreSound ids chunks) (sym more_numbers)
            (more_sound (ids_of chunks (length fs)) chunks (length new_fs - length fs) are.sound (omega arith));
      }

  pub held_more : (k : ℕ) → option_map (node_value (ids_of chunks (length new_fs))) (stored_in chunks (slot_of (ids_of chunks (length new_fs)) k))
      ≡ option_map (node_value (ids_of chunks (length fs))) (stored_in chunks (slot_of (ids_of chunks (length fs)) k))
  held_more k =
      ap (λ (ids : List (Option ℕ)). option_map (node_value ids) (stored_in chunks (slot_of ids k))) more_numbers
      ∙ more_held (ids_of chunks (length fs)) chunks (length new_fs - length fs) k
