-- The calls of an allocator are steps of the model.
use Rattle.std.proofs.Common.{◌≡◌, ◌∙◌, ℕ, ◌<◌, refl, sym, ap, subst, Bool, true, false, length, Option, Some, None, Ok, Err, Result, arith}
use Rattle.std.specs.FinMap.{get}
use Rattle.gpu_values.specs.Refusal.{Refusal, refusal_of, refusal_in, invalid_allocation_create_desc, no_compatible_memory_type_found}
use Rattle.gpu_core.specs.declared.piece.Piece.{Piece}
use Rattle.gpu_values.specs.declared.error.AllocationError.{AllocationError}
use Rattle.gpu_device.specs.Held.{Held, IsWhole}
use Rattle.gpu_device.specs.declared.vulkan.device.VulkanDevice.{Ghosts}
use Rattle.gpu_device.specs.declared.vulkan.types.DeviceMemory.{DeviceMemory}
use Rattle.gpu_core.specs.Budgets.{Budgets}
use Rattle.gpu_vulkan.specs.Allocate.{Attempts, IsAttempt, Answers, IsRequestServed, IsFollowed, is_valid, next_after, next_type}
use Rattle.gpu_vulkan.specs.Attempt.{AttemptEnvironment, Asked, Answer, IsAfter}
use Rattle.gpu_vulkan.specs.Types.{is_mapped}
use Rattle.gpu_vulkan.specs.Blocks.{Slots, HoldsJustLiveBlocks}
use Rattle.gpu_core.specs.Blocks.{BlocksWellFormed}
use Rattle.gpu_vulkan.specs.ByteView.{byte_view_of}
use Rattle.gpu_vulkan.specs.Choice.{best_type}
use Rattle.gpu_vulkan.specs.Setup.{Setup}
use Rattle.gpu_vulkan.specs.State.{State}
use Rattle.gpu_vulkan.specs.Reply.{Reply, Error}
use Rattle.gpu_vulkan.specs.Step.{ModelState, model_of, CallEnvironment, reply_of, next_by, AttemptStep, Follows, ServeStep, RefuseStep, FoundStep, AllocateStep, IsAllocateStep}
use Rattle.gpu_vulkan.specs.Step.{Replies, nothing_met, count_after, latest_after, asked_recorded}
use Rattle.gpu_vulkan.specs.declared.allocation.Allocation.{Allocation}
use Rattle.gpu_vulkan.specs.declared.describe.AllocationCreateDesc.{AllocationCreateDesc}
use Rattle.gpu_vulkan.proofs.Attempts.{refused_same, attempt_held}
use Rattle.gpu_vulkan.proofs.Following.{next_below}
use Rattle.gpu_vulkan.proofs.Stepping.{attempt_bytes}
use Rattle.gpu_core.proofs.Options.{none_some, some_same}

-- ---- what the device counts and names

counted : {D : Type 0} (g : Ghosts D) (mapped : Bool) (o : Option Asked) (device after : D) → IsAfter g device mapped o after → g.refused after ≡ count_after (g.refused device) o
counted g mapped None device after is = ap g.refused is
counted g mapped (Some a) device after is = is.count

named : {D : Type 0} (g : Ghosts D) (mapped : Bool) (o : Option Asked) (device after : D) → IsAfter g device mapped o after → g.latest after ≡ latest_after (g.latest device) o
named g mapped None device after is = ap g.latest is
named g mapped (Some a) device after is = is.latest

recorded_so : {D : Type 0} (g : Ghosts D) (mapped : Bool) (o : Option Asked) (device after : D) → IsAfter g device mapped o after → g.history after ≡ asked_recorded o (g.history device)
recorded_so g mapped None device after is = ap g.history is
recorded_so g mapped (Some a) device after is = is.history

-- ---- what the caller gets

replies_of : (setup : Setup) (t : ℕ) (d : AllocationCreateDesc) (result : Result Allocation AllocationError) (answer : Answer) → Answers setup t d result answer → Replies setup d result
    (reply_of t answer)
replies_of setup t d (Ok a) (Ok p) h = h
replies_of setup t d (Ok a) (Err r) h = absurd h
replies_of setup t d (Err e) (Ok p) h = absurd h
replies_of setup t d (Err e) (Err r) h = h

pub next_same : (setup : Setup) (t : ℕ) (d : AllocationCreateDesc) (result : Result Allocation AllocationError) (answer : Answer) → Answers setup t d result answer → next_after setup d result ≡
    next_by setup d answer
next_same setup t d (Ok a) (Ok p) h = refl
next_same setup t d (Ok a) (Err r) h = absurd h
next_same setup t d (Err e) (Ok p) h = absurd h
next_same setup t d (Err e) (Err r) h = ap (next_type setup d) h

pub none_next : (setup : Setup) (d : AllocationCreateDesc) (u : ℕ) (p : Piece DeviceMemory) → next_by setup d (Ok p) ≡ Some u → ⊥
none_next setup d u p e = cc

-- a second attempt begins where a refused one left everything
pub mid_is_old : (setup : Setup) (budgets : Budgets) (d : AllocationCreateDesc) (t u : ℕ) (old : Slots) (o : AttemptEnvironment) (answer : Answer) (mid : Slots) → next_by setup d answer ≡ Some u →
    Attempts setup budgets old t d o answer mid → mid ≡ old
mid_is_old setup budgets d t u old o (Ok p) mid is a = absurd (none_next setup d u p is)
mid_is_old setup budgets d t u old o (Err r) mid is a = refused_same setup budgets old t d o r mid a

mid_is_held : {D : Type 0} (g : Ghosts D) (setup : Setup) (budgets : Budgets) (d : AllocationCreateDesc) (t u : ℕ) (old : Slots) (device : D) (result : Result Allocation AllocationError) (mid : Slots)
    (between : D) (a : IsAttempt g setup budgets t d old device result mid between) → next_by setup d a.answer ≡ Some u → g.held between ≡ g.held device
mid_is_held g setup budgets d t u old device result mid between a is = by a.answer is a.attempts
  where
    by : (answer : Answer) → next_by setup d answer ≡ Some u → Attempts setup budgets old t d a.environment answer mid → g.held between ≡ g.held device
    by (Ok p) is at = absurd (none_next setup d u p is)
    by (Err r) is at = attempt_held g (is_mapped setup.properties t) device between setup budgets old t d a.environment r mid at a.asked

module _ {D : Type 0} (g : Ghosts D) (whole : (x : D) (n : ℕ) → IsWhole (get (g.held x) n)) (setup : Setup) (budgets : Budgets) (d : AllocationCreateDesc) (first : Held) where
  abbrev at : D → Slots → ModelState
  at device slots = record { slots = slots; budgets = budgets; byte_view = byte_view_of (g.held device) slots; history = g.history device }

  attempt_step : (t : ℕ) (old : Slots) (device : D) (result : Result Allocation AllocationError) (new : Slots) (after : D) → t < length old
      → BlocksWellFormed setup.properties.granularity old → BlocksWellFormed setup.properties.granularity new → HoldsJustLiveBlocks setup.properties first (g.held device) old
      → HoldsJustLiveBlocks setup.properties first (g.held after) new → (a : IsAttempt g setup budgets t d old device result new after) → AttemptStep setup t d a.environment a.answer (at device old) (at after new)
  attempt_step t old device result new after below sound sound_after before holds a =
      record { slots = a.attempts; budgets = refl; bytes = attempt_bytes g setup budgets d first t old below sound new device after sound_after before holds (whole after) result a; recorded = recorded_so g (is_mapped setup.properties t) a.environment.asked device after a.asked }

  pub record Served (t : ℕ) (old : Slots) (device : D) (result : Result Allocation AllocationError) (new : Slots) (after : D) : Type 0 where
    pub environment : CallEnvironment
    pub reply : Reply
    pub step : ServeStep setup t d environment reply (at device old) (at after new)
    pub count : g.refused after ≡ count_after (count_after (g.refused device) environment.first.asked) environment.second.asked
    pub latest : g.latest after ≡ latest_after (latest_after (g.latest device) environment.first.asked) environment.second.asked
    pub replies : Replies setup d result reply

  module _ (t : ℕ) (old : Slots) (device : D) (result : Result Allocation AllocationError) (new : Slots) (after : D) (below : t < length old) (long : length old ≡ length setup.properties.types)
      (sound : BlocksWellFormed setup.properties.granularity old) (sound_after : BlocksWellFormed setup.properties.granularity new)
      (before : HoldsJustLiveBlocks setup.properties first (g.held device) old) (holds : HoldsJustLiveBlocks setup.properties first (g.held after) new) (s : IsRequestServed g setup budgets t d old device result new after) where
    abbrev one : IsAttempt g setup budgets t d old device s.first s.mid s.between
    one = s.attempt

    served_by : (o : Option ℕ) → next_after setup d s.first ≡ o → IsFollowed g setup budgets d o s.mid s.between s.first result new after → Served t old device result new after
    served_by None is f =
        let sound_mid : BlocksWellFormed setup.properties.granularity s.mid = subst (BlocksWellFormed setup.properties.granularity) f.1 sound_after in
        let holds_mid : HoldsJustLiveBlocks setup.properties first (g.held s.between) s.mid =
        subst (λ (ss : Slots). HoldsJustLiveBlocks setup.properties first (g.held s.between) ss) f.1 (subst (λ (x : D). HoldsJustLiveBlocks setup.properties first (g.held x) new) f.2 holds) in
        let here = attempt_step t old device s.first s.mid s.between below sound sound_mid before holds_mid one in
        let next : next_by setup d one.answer ≡ None = sym (next_same setup t d s.first one.answer one.answers) ∙ is in
        record {
          environment = record { first = one.environment; second = nothing_met };
          reply = reply_of t one.answer;
          step = record {
            answer = one.answer;
            mid = at s.between s.mid;
            attempt = here;
            follows = subst (λ o. Follows setup d o nothing_met t one.answer (at s.between s.mid) (reply_of t one.answer) (at after new)) (sym next)
                (refl, refl, (λ i. at (f.2 i) (f.1 i)));
          };
          count = ap g.refused f.2 ∙ counted g (is_mapped setup.properties t) one.environment.asked device s.between one.asked;
          latest = ap g.latest f.2 ∙ named g (is_mapped setup.properties t) one.environment.asked device s.between one.asked;
          replies = subst (λ r. Replies setup d r (reply_of t one.answer)) (sym f.0) (replies_of setup t d s.first one.answer one.answers);
        }
    served_by (Some u) is two =
        let next : next_by setup d one.answer ≡ Some u = sym (next_same setup t d s.first one.answer one.answers) ∙ is in
        let same : s.mid ≡ old = mid_is_old setup budgets d t u old one.environment one.answer s.mid next one.attempts in
        let sound_mid : BlocksWellFormed setup.properties.granularity s.mid = subst (BlocksWellFormed setup.properties.granularity) (sym same) sound in
        let holds_mid : HoldsJustLiveBlocks setup.properties first (g.held s.between) s.mid =
        subst (λ (k : Held). HoldsJustLiveBlocks setup.properties first k s.mid) (sym (mid_is_held g setup budgets d t u old device s.first s.mid s.between one next))
        (subst (λ (ss : Slots). HoldsJustLiveBlocks setup.properties first (g.held device) ss) (sym same) before) in
        let here = attempt_step t old device s.first s.mid s.between below sound sound_mid before holds_mid one in
        let inside = next_below setup d one.answer u next in
        let many = ap (λ (ss : Slots). length ss) same in
        let there = attempt_step u s.mid s.between result new after (omega (arith, inside, many, long)) sound_mid sound_after holds_mid holds two in
        record {
          environment = record { first = one.environment; second = two.environment };
          reply = reply_of u two.answer;
          step = record {
            answer = one.answer;
            mid = at s.between s.mid;
            attempt = here;
            follows = subst (λ o. Follows setup d o two.environment t one.answer (at s.between s.mid) (reply_of u two.answer) (at after new)) (sym next) (two.answer, there, refl);
          };
          count = counted g (is_mapped setup.properties u) two.environment.asked s.between after two.asked ∙ ap (λ n. count_after n two.environment.asked)
              (counted g (is_mapped setup.properties t) one.environment.asked device s.between one.asked);
          latest = named g (is_mapped setup.properties u) two.environment.asked s.between after two.asked ∙ ap (λ n. latest_after n two.environment.asked)
              (named g (is_mapped setup.properties t) one.environment.asked device s.between one.asked);
          replies = replies_of setup u d result two.answer two.answers;
        }

    pub served : Served t old device result new after
    served = served_by (next_after setup d s.first) refl s.followed

  -- an allocation that was served is a step
  pub served_step : (t : ℕ) (old new : State D) (result : Result Allocation AllocationError) → old.setup ≡ setup → old.budgets ≡ budgets → new.budgets ≡ budgets
      → best_type setup.properties.types d.requirements.memory_type_bits d.location ≡ Some t → is_valid d ≡ true
      → Served t old.slots old.device result new.slots new.device → IsAllocateStep g d result old new
  served_step t old new result is before after found valid s =
      let With : Budgets → Budgets → Type 0 =
      λ a b. ServeStep setup t d s.environment s.reply (record { slots = old.slots; budgets = a; byte_view = byte_view_of (g.held old.device) old.slots; history = g.history old.device })
      (record { slots = new.slots; budgets = b; byte_view = byte_view_of (g.held new.device) new.slots; history = g.history new.device }) in
      let step : ServeStep setup t d s.environment s.reply (model_of g old) (model_of g new) =
      subst (λ b. With old.budgets b) (sym after) (subst (λ b. With b budgets) (sym before) s.step) in
      record {
        reply = s.reply;
        step = record {
          environment = s.environment;
          step = subst (λ (k : Setup). AllocateStep k d (is_valid d) s.environment s.reply (model_of g old) (model_of g new)) (sym is)
              (subst (λ v. AllocateStep setup d v s.environment s.reply (model_of g old) (model_of g new)) (sym valid)
              (subst (λ o. FoundStep setup d o s.environment s.reply (model_of g old) (model_of g new)) (sym found) step));
          count = s.count;
          latest = s.latest;
        };
        replies = subst (λ (k : Setup). Replies k d result s.reply) (sym is) s.replies;
      }

-- ---- a refusal before any attempt

refused_replies : (setup : Setup) (d : AllocationCreateDesc) (result : Result Allocation AllocationError) (r : Refusal) → refusal_in result ≡ Some r → Replies setup d result (Error r)
refused_replies setup d (Ok a) r is = absurd (none_some r is)
refused_replies setup d (Err e) r is = some_same (refusal_of e) r is

module _ {D : Type 0} (g : Ghosts D) (d : AllocationCreateDesc) (old new : State D) (result : Result Allocation AllocationError) (device : new.device ≡ old.device) (slots : new.slots ≡ old.slots)
    (budgets : new.budgets ≡ old.budgets) where
  refused_with : (r : Refusal) → RefuseStep r (record { first = nothing_met; second = nothing_met }) (Error r) (model_of g old) (model_of g new)
  refused_with r = record {
    met = (refl, refl);
    reply_is = refl;
    same = λ i. record { slots = slots i; budgets = budgets i; byte_view = byte_view_of (g.held (device i)) (slots i); history = g.history (device i) };
  }

  refused_by : (r : Refusal) → refusal_in result ≡ Some r
      → AllocateStep old.setup d (is_valid d) (record { first = nothing_met; second = nothing_met }) (Error r) (model_of g old) (model_of g new) → IsAllocateStep g d result old new
  refused_by r is step = record {
    reply = Error r;
    step = record {
      environment = record { first = nothing_met; second = nothing_met };
      step = step;
      count = ap g.refused device;
      latest = ap g.latest device;
    };
    replies = refused_replies old.setup d result r is;
  }

  pub invalid_step : refusal_in result ≡ Some invalid_allocation_create_desc → is_valid d ≡ false → IsAllocateStep g d result old new
  invalid_step is invalid =
      refused_by invalid_allocation_create_desc is
      (subst (λ v. AllocateStep old.setup d v (record { first = nothing_met; second = nothing_met }) (Error invalid_allocation_create_desc) (model_of g old) (model_of g new)) (sym invalid)
      (refused_with invalid_allocation_create_desc))

  pub unfit_step : refusal_in result ≡ Some no_compatible_memory_type_found → is_valid d ≡ true
      → best_type old.setup.properties.types d.requirements.memory_type_bits d.location ≡ None → IsAllocateStep g d result old new
  unfit_step is valid none =
      refused_by no_compatible_memory_type_found is
      (subst (λ v. AllocateStep old.setup d v (record { first = nothing_met; second = nothing_met }) (Error no_compatible_memory_type_found) (model_of g old) (model_of g new)) (sym valid)
      (subst (λ o. FoundStep old.setup d o (record { first = nothing_met; second = nothing_met }) (Error no_compatible_memory_type_found) (model_of g old) (model_of g new)) (sym none)
      (refused_with no_compatible_memory_type_found)))
