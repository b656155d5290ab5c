use Rattle.std.proofs.Common.{◌≡◌, ◌<◌, ◌∷◌, ◌++◌, [], List, ℕ, length, ap, sym, subst, ◌∙◌, arith}
use Rattle.std.proofs.lemmas.Bool.Decides.{nat_tests}
use Rattle.gpu_rows.specs.Rows.{Rows}
use Rattle.gpu_block_gaps.specs.declared.thread.Record.{Record}
use Rattle.gpu_block_gaps.specs.Records.{blank_record, order_of, IsThread}
use Rattle.gpu_block_gaps.proofs.Threads.{threaded_first, threaded_wide, whole}
use Rattle.gpu_block_gaps.proofs.thread.add_slot.Goals.{then-not-is_empty, else-not-is_empty, After-push_reserved-2}
use Rattle.gpu_block_gaps.proofs.thread.add_slot.Goals as goal

-- the same slots, in other memory
seen : (rs : List Record) (spare' spare : List ℕ) (room' room : ℕ) → spare' ≡ spare → room' ≡ room
    → IsThread (rs ++ blank_record ∷ []) spare room × (order_of (rs ++ blank_record ∷ []) ≡ order_of rs) → IsThread (rs ++ blank_record ∷ []) spare' room' × (order_of (rs ++ blank_record ∷ []) ≡ order_of rs)
seen rs spare' spare room' room same capacity made = (
  subst (λ (ss : List ℕ). IsThread (rs ++ blank_record ∷ []) ss room') (sym same) (subst (λ r. IsThread (rs ++ blank_record ∷ []) spare r) (sym capacity) made.0),
  made.1,
)

both : (c : After-push_reserved-2) → IsThread c.push_reserved-2.new.self.items c.if-not-is_empty.spare.items c.if-not-is_empty.spare.capacity × (order_of c.push_reserved-2.new.self.items ≡ order_of c.args.records.now.items)
both c =
    subst (λ (rs : List Record). IsThread rs c.if-not-is_empty.spare.items c.if-not-is_empty.spare.capacity × (order_of rs ≡ order_of c.args.records.now.items)) (sym (c.push_reserved-2.ensures.items ∙ ap (λ (r : Record). c.args.records.now.items ++ r ∷ []) c.new.ensures)) (
    elim c.if-not-is_empty.branch [
      | then-not-is_empty w ↦ (
          let some : 0 < length c.args.records.now.items = grind (arith, nat_tests) in
          let len : w.len.result ≡ length c.args.records.now.items = omega arith in
          let made = whole _ _ _ _ (threaded_wide c.args.records.now.items c.args.spare.now.items c.args.spare.now.capacity (order_of c.args.records.now.items) c.requires.thread (omega arith) (omega arith) some) in
          let items : c.if-not-is_empty.spare.items ≡ c.args.spare.now.items ++ length c.args.records.now.items ∷ [] =
          ap (λ (v : Rows ℕ). v.items) w.spare-is ∙ w.push_reserved.ensures.items ∙ ap (λ n. c.args.spare.now.items ++ n ∷ []) len in
          let room : c.if-not-is_empty.spare.capacity ≡ c.args.spare.now.capacity = ap (λ (v : Rows ℕ). v.capacity) w.spare-is ∙ w.push_reserved.ensures.capacity in
          seen c.args.records.now.items c.if-not-is_empty.spare.items (c.args.spare.now.items ++ length c.args.records.now.items ∷ []) c.if-not-is_empty.spare.capacity c.args.spare.now.capacity items room made)
      | else-not-is_empty w ↦ (
          let none : length c.args.records.now.items ≡ 0 = grind (arith, nat_tests) in
          let made = whole _ _ _ _ (threaded_first c.args.records.now.items c.args.spare.now.items c.args.spare.now.capacity (order_of c.args.records.now.items) c.requires.thread (omega arith) (omega arith) none) in
          seen c.args.records.now.items c.if-not-is_empty.spare.items c.args.spare.now.items c.if-not-is_empty.spare.capacity c.args.spare.now.capacity (ap (λ (v : Rows ℕ). v.items) w.spare-is) (ap (λ (v : Rows ℕ). v.capacity) w.spare-is) made)
    ])

pub returns-clause-thread : goal.returns-clause-thread
returns-clause-thread c = (both c).0

pub returns-clause-order : goal.returns-clause-order
returns-clause-order c = (both c).1
