-- What reads and writes under a number come to.
use Rattle.std.proofs.Common.{◌≡◌, ◌∙◌, ℕ, ◌+◌, ◌≤◌, arith, List, length, take, drop, Option, Some, Bool, true, false, refl, sym, ap, subst}
use Rattle.std.specs.Prelude.{nat_le, if◌then◌else◌}
use Rattle.std.proofs.lemmas.Bool.Decides.{nat_tests}
use Rattle.gpu_device.specs.declared.vulkan.device.VulkanDevice.{Ghosts}
use Rattle.gpu_vulkan.specs.State.{State}
use Rattle.gpu_vulkan.specs.Reply as answers
use Rattle.gpu_vulkan.specs.Step as model
use Rattle.gpu_vulkan.specs.Step.{IsRead, IsStep}
use Rattle.gpu_vulkan.specs.declared.allocation.Allocation.{Allocation}
use Rattle.gpu_run.specs.VulkanReply as replies
use Rattle.gpu_run.specs.VulkanCommand.{Under, Write, Read}
use Rattle.gpu_run.specs.VulkanReply.{SessionReply}
use Rattle.gpu_run.specs.VulkanSession.{CommandEnvironment, overwritten, reply_to_read, reply_to_part, WritesOver, WritesIn}
use Rattle.gpu_run.specs.VulkanServed.{SessionValue, session_of, IsCommandServed}
use Rattle.gpu_run.specs.Bindings.{bindings_of}
use Rattle.gpu_run.proofs.VulkanRanges.{length_put}
use Rattle.gpu_run.proofs.VulkanServing.{quiet, stayed, served_quietly, serves_at}

-- bytes that are read in the model
pub read_of : {D : Type 0} (g : Ghosts D) (s : SessionValue D) (a : Allocation) (bytes : Option (List ℕ)) → IsStep g (model.Read a) (answers.Bytes bytes) s.allocator s.allocator → IsRead
    s.allocator.setup a (session_of g s).model bytes
read_of g s a bytes step =
    let k = step.step in
    let same : bytes ≡ k.1 = (let e = k.2 in cc) in
    subst (IsRead s.allocator.setup a (session_of g s).model) (sym same) k.3

module _ {D : Type 0} (g : Ghosts D) (s : SessionValue D) (key at : ℕ) where
  -- a read that is reply something, with room for its bytes or not
  pub gets_bound : (size : ℕ) (a : Allocation) (bytes : Option (List ℕ)) (o : CommandEnvironment) (reply : SessionReply) → bindings_of s.bound key ≡ Some a → IsRead s.allocator.setup a
      (session_of g s).model bytes
      → o.call ≡ quiet.call → reply ≡ reply_to_read o.room at size bytes → IsCommandServed g (Under key (Read at size)) reply s s
  gets_bound size a bytes o reply found read met is =
      served_quietly g key (Read at size) reply s o (Some a) met found (bytes, read, is, (subst (λ c. model.MeetsNothing c) (sym met) (refl, refl), refl))

  -- a write that is reply that nothing was done
  pub puts_nothing : (others : List ℕ) (a : Allocation) (bytes : Option (List ℕ)) (reply : SessionReply) → bindings_of s.bound key ≡ Some a → IsRead s.allocator.setup a (session_of g s).model bytes
      → WritesOver s.allocator.setup a at others bytes quiet reply (session_of g s) (session_of g s) → IsCommandServed g (Under key (Write at others)) reply s s
  puts_nothing others a bytes reply found read puts = served_quietly g key (Write at others) reply s quiet (Some a) refl found (bytes, read, puts)

pub past_told : (room : Bool) (at size : ℕ) (xs : List ℕ) → nat_le (at + size) (length xs) ≡ false → reply_to_read room at size (Some xs) ≡ replies.OutOfRange
past_told room at size xs e = ap (λ b. if b then reply_to_part room (take size (drop at xs)) else replies.OutOfRange) e

pub data_told : (room : Bool) (at size : ℕ) (xs : List ℕ) → nat_le (at + size) (length xs) ≡ true → reply_to_read room at size (Some xs) ≡ reply_to_part room (take size (drop at xs))
data_told room at size xs e = ap (λ b. if b then reply_to_part room (take size (drop at xs)) else replies.OutOfRange) e

true_false : true ≡ false → ⊥
true_false e = cc

fits_le : (n m : ℕ) → nat_le n m ≡ true → n ≤ m
fits_le n m fits = grind (arith, nat_tests, fits)

module _ {D : Type 0} (g : Ghosts D) (s : SessionValue D) (key at : ℕ) where
  -- a write over an allocation's bytes
  pub puts_bound : (others : List ℕ) (a : Allocation) (xs ys zs : List ℕ) (size : ℕ) (after : State D) → bindings_of s.bound key ≡ Some a → IsRead s.allocator.setup a (session_of g s).model (Some xs)
      → nat_le (at + length others) (length xs) ≡ true → Some xs ≡ Some ys → zs ≡ overwritten ys at others → length xs ≡ size
      → (length zs ≡ size → IsStep g (model.Write a zs) answers.Done s.allocator after) → (after.setup ≡ s.allocator.setup) × (after.first ≡ s.allocator.first)
      → IsCommandServed g (Under key (Write at others)) replies.Done s (record { allocator = after; bound = s.bound })
  puts_bound others a xs ys zs size after found read fits same put long writes constant =
      let is : xs ≡ ys = cc in
      let put_xs : zs ≡ overwritten xs at others = put ∙ ap (λ l. overwritten l at others) (sym is) in
      let step = subst (λ l. IsStep g (model.Write a l) answers.Done s.allocator after) put_xs
      (writes (ap length put_xs ∙ length_put xs at others (fits_le (at + length others) (length xs) fits) ∙ long)) in
      let o : CommandEnvironment = record { room = true; call = step.environment } in
      let new : SessionValue D = record { allocator = after; bound = s.bound } in
      record {
        environment = o;
        serves = serves_at s.allocator.setup (session_of g s) (session_of g new) key (Write at others) o replies.Done (Some a) found
            (Some xs, read, subst (λ b. WritesIn s.allocator.setup a at others xs b o replies.Done (session_of g s) (session_of g new)) (sym fits) (refl, step.step, refl));
        count = step.count;
        latest = step.latest;
        untouched = λ e. absurd (true_false e);
        constant = constant;
      }

  -- a write past the end
  pub puts_past : (others : List ℕ) (a : Allocation) (xs : List ℕ) → bindings_of s.bound key ≡ Some a → IsRead s.allocator.setup a (session_of g s).model (Some xs)
      → nat_le (at + length others) (length xs) ≡ false → IsCommandServed g (Under key (Write at others)) replies.OutOfRange s s
  puts_past others a xs found read past =
      puts_nothing g s key at others a (Some xs) replies.OutOfRange found read
      (subst (λ b. WritesIn s.allocator.setup a at others xs b quiet replies.OutOfRange (session_of g s) (session_of g s)) (sym past) (refl, stayed (session_of g s)))
