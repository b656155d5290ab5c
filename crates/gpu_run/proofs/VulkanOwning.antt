-- The numbers go on owning their pieces.
use Rattle.std.proofs.Common.{◌≡◌, ◌⊎◌, ℕ, List, Option, Some, None, Ok, ap, sym, subst, ◌∙◌, inl, inr, ⊎_elim}
use Rattle.std.proofs.lemmas.Bool.{cases_eq}
use Rattle.gpu_vulkan.specs.Blocks.{Slots}
use Rattle.gpu_vulkan.specs.Lends.{AreDistinct}
use Rattle.gpu_vulkan.specs.Live.{IsLiveIn}
use Rattle.gpu_vulkan.specs.Live.{piece_of, null_allocation, IsLive}
use Rattle.gpu_vulkan.specs.Rename.{IsNamed, StayLive}
use Rattle.gpu_vulkan.specs.Setup.{Setup}
use Rattle.gpu_vulkan.specs.Reply as answers
use Rattle.gpu_vulkan.specs.Step.{ModelState, CallEnvironment, Step, Free, FreeStep}
use Rattle.gpu_vulkan.specs.declared.allocation.Allocation.{Allocation}
use Rattle.gpu_run.specs.Bindings.{bind}
use Rattle.gpu_run.specs.VulkanSession.{SessionState, IsOwn}
use Rattle.gpu_run.proofs.Binding.{bound_here, bound_other}
use Rattle.gpu_run.proofs.VulkanChanges.{freed}

pub null_dead : (slots : Slots) (a : Allocation) → piece_of a ≡ None → IsLive slots a → ⊥
null_dead slots a e live = subst (λ p. IsLiveIn slots a.memory_type_index p) e live

other_sym : (a b : Allocation) → AreDistinct a b → AreDistinct b a
other_sym a b h = λ x y z. h (sym x) (sym y) (sym z)

pub none_some : {A : Type 0} (a : A) → None ≡ Some a → ⊥
none_some a e = cc

pub some_same : {A : Type 0} (a b : A) → Some a ≡ Some b → a ≡ b
some_same a b e = cc

module _ (old : SessionState) (own : IsOwn old) where
  -- what is live later and was bound was live
  pub was_live : (key : ℕ) (a : Allocation) (slots : Slots) → old.bound key ≡ Some a → IsLive slots a → IsLive old.model.slots a
  was_live key a slots e live = ⊎_elim (λ null. absurd (null_dead slots a null live)) (λ was. was) (own.live key a e)

  stays : (slots : Slots) (key : ℕ) (a : Allocation) → old.bound key ≡ Some a → (IsLive old.model.slots a → IsLive slots a) → (piece_of a ≡ None) ⊎ IsLive slots a
  stays slots key a e keeps = ⊎_elim (λ null. inl null) (λ was. inr (keeps was)) (own.live key a e)

  -- all numbers stand for what they stood for
  pub own_kept : (new : SessionState) → new.bound ≡ old.bound → StayLive old.model.slots new.model.slots → IsOwn new
  own_kept new same keeps = record {
    live = λ key a e. let was = sym (ap (λ b. b key) same) ∙ e in stays new.model.slots key a was (keeps a);
    apart = λ key other a b e f x y apart.
        let was = sym (ap (λ b. b key) same) ∙ e in
        let and_was = sym (ap (λ b. b other) same) ∙ f in
        own.apart key other a b was and_was (was_live key a new.model.slots was x) (was_live other b new.model.slots and_was y) apart;
  }

  -- one number stands for something else
  pub own_changed : (new : SessionState) (key : ℕ) (to : Option Allocation) → new.bound ≡ bind old.bound key to
      → ((k : ℕ) (a : Allocation) → (key ≡ k → ⊥) → old.bound k ≡ Some a → IsLive old.model.slots a → IsLive new.model.slots a)
      → ((a : Allocation) → to ≡ Some a → (piece_of a ≡ None) ⊎ IsLive new.model.slots a)
      → ((k : ℕ) (a b : Allocation) → (key ≡ k → ⊥) → to ≡ Some a → old.bound k ≡ Some b → IsLive new.model.slots a → IsLive old.model.slots b → AreDistinct a b)
      → IsOwn new
  own_changed new key to is keeps here others =
      let at : (k : ℕ) → new.bound k ≡ bind old.bound key to k = λ k. ap (λ b. b k) is in
      let to_here : (k : ℕ) (a : Allocation) → key ≡ k → new.bound k ≡ Some a → to ≡ Some a = λ k a same e. sym (at k ∙ bound_here old.bound key k to same) ∙ e in
      let to_old : (k : ℕ) (a : Allocation) → (key ≡ k → ⊥) → new.bound k ≡ Some a → old.bound k ≡ Some a = λ k a apart e. sym (at k ∙ bound_other old.bound key k to apart) ∙ e in
      record {
        live = λ k a e. elim (cases_eq key k) [
          | inl same ↦ here a (to_here k a same e)
          | inr apart ↦ let was = to_old k a apart e in stays new.model.slots k a was (keeps k a apart was)
        ];
        apart = λ k j a b e f x y differ. elim (cases_eq key k) [
          | inl same ↦ elim (cases_eq key j) [
            | inl also ↦ absurd (differ (sym same ∙ also))
            | inr apart ↦ let was = to_old j b apart f in others j a b apart (to_here k a same e) was x (was_live j b new.model.slots was y)
          ]
          | inr apart ↦ elim (cases_eq key j) [
            | inl also ↦ let was = to_old k a apart e in other_sym b a (others k b a apart (to_here j b also f) was y (was_live k a new.model.slots was x))
            | inr too ↦
                let was = to_old k a apart e in
                let and_was = to_old j b too f in
                own.apart k j a b was and_was (was_live k a new.model.slots was x) (was_live j b new.model.slots and_was y) differ
          ]
        ];
      }

  -- a number stands for a new allocation
  pub own_given : (new : SessionState) (key : ℕ) (a : Allocation) → new.bound ≡ bind old.bound key (Some a) → StayLive old.model.slots new.model.slots
      → IsLive new.model.slots a → ((b : Allocation) → IsLive old.model.slots b → AreDistinct b a) → IsOwn new
  own_given new key a is keeps live gives =
      own_changed new key (Some a) is
      (λ k b apart was x. keeps b x)
      (λ b e. inr (subst (IsLive new.model.slots) (some_same a b e) live))
      (λ k b c apart e was x y. subst (λ z. AreDistinct z c) (some_same a b e) (other_sym c a (gives c y)))

  -- a number stands for a null allocation
  pub own_null : (new : SessionState) (key : ℕ) → new.model ≡ old.model → new.bound ≡ bind old.bound key (Some null_allocation) → IsOwn new
  own_null new key same is =
      own_changed new key (Some null_allocation) is
      (λ k b apart was x. subst (λ m. IsLive m.slots b) (sym same) x)
      (λ b e. inl (ap piece_of (sym (some_same null_allocation b e))))
      (λ k b c apart e was x y. absurd (null_dead new.model.slots b (ap piece_of (sym (some_same null_allocation b e))) x))

  -- a number stands for nothing any more, and its piece has gone
  pub own_returned : (new : SessionState) (key : ℕ) (a : Allocation) → old.bound key ≡ Some a → new.bound ≡ bind old.bound key None
      → (IsLive old.model.slots a → (b : Allocation) → IsLive old.model.slots b → AreDistinct b a → IsLive new.model.slots b)
      → (piece_of a ≡ None → new.model ≡ old.model) → IsOwn new
  own_returned new key a was is keeps null =
      own_changed new key None is
      (λ k b apart bound x. ⊎_elim
      (λ none. subst (λ m. IsLive m.slots b) (sym (null none)) x)
      (λ live. keeps live b x (own.apart k key b a bound was x live (λ same. apart (sym same))))
      (own.live key a was))
      (λ b e. absurd (none_some b e))
      (λ k b c apart e. absurd (none_some b e))

  -- a number's allocation has another name
  pub own_named : (new : SessionState) (key : ℕ) (a b : Allocation) (name : List ℕ) → old.bound key ≡ Some a → new.bound ≡ bind old.bound key (Some b)
      → IsNamed a name b → StayLive old.model.slots new.model.slots → IsOwn new
  own_named new key a b name was is named keeps =
      let alike : b ≡ record a { name = b.name } = named.others in
      let live_a : (slots : Slots) → IsLive slots b → IsLive slots a = λ slots x. subst (IsLive slots) alike x in
      let live_b : (slots : Slots) → IsLive slots a → IsLive slots b = λ slots x. subst (IsLive slots) (sym alike) x in
      own_changed new key (Some b) is
      (λ k c apart bound x. keeps c x)
      (λ c e. ⊎_elim
      (λ null. inl (ap piece_of (sym (some_same b c e)) ∙ ap piece_of alike ∙ null))
      (λ live. inr (subst (IsLive new.model.slots) (some_same b c e) (live_b new.model.slots (keeps a live))))
      (own.live key a was))
      (λ k c d apart e bound x y.
      let is_b = some_same b c e in
      let x_a = live_a new.model.slots (subst (IsLive new.model.slots) (sym is_b) x) in
      let apart_a = own.apart key k a d was bound (was_live key a new.model.slots was x_a) y apart in
      subst (λ z. AreDistinct z d) is_b (subst (λ z. AreDistinct z d) (sym alike) apart_a))

-- a null allocation's free changes nothing
pub freed_null : (setup : Setup) (a : Allocation) (o : CallEnvironment) (old new : ModelState) → Step setup (Free a) o answers.Done old new → piece_of a ≡ None → new ≡ old
freed_null setup a o old new step e = subst (λ p. FreeStep setup a.memory_type_index p (Ok tt) old new) e (freed setup a o old new step)
