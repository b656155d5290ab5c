-- The numbers go on owning what they stand for.
use Rattle.std.proofs.Common.{◌≡◌, ℕ, Option, Some, None, ap, sym, subst, ◌∙◌, inl, inr}
use Rattle.std.proofs.lemmas.Bool.{cases_eq}
use Rattle.gpu_run.specs.Bindings.{Bindings, bind, AreOwn}
use Rattle.gpu_run.proofs.Binding.{bound_here, bound_other}

none_some : {T : Type 0} (a : T) → None ≡ Some a → ⊥
none_some a e = cc

some_same : {T : Type 0} (a b : T) → Some a ≡ Some b → a ≡ b
some_same a b e = cc

module _ {T : Type 0} (IsLive IsLiveAfter : T → Type 0) (AreDistinct : T → T → Type 0) (symmetric : (a b : T) → AreDistinct a b → AreDistinct b a) (old : Bindings T)
    (own : AreOwn IsLive AreDistinct old) where
  -- all numbers stand for what they stood for
  pub own_kept : (new : Bindings T) → new ≡ old → ((a : T) → IsLive a → IsLiveAfter a) → AreOwn IsLiveAfter AreDistinct new
  own_kept new same keeps = record {
    live = λ key a e. keeps a (own.live key a (sym (ap (λ b. b key) same) ∙ e));
    apart = λ key other a b e f. own.apart key other a b (sym (ap (λ b. b key) same) ∙ e) (sym (ap (λ b. b other) same) ∙ f);
  }

  -- one number stands for something else
  own_changed : (new : Bindings T) (key : ℕ) (to : Option T) → new ≡ bind old key to
      → ((k : ℕ) (a : T) → (key ≡ k → ⊥) → old k ≡ Some a → IsLiveAfter a)
      → ((a : T) → to ≡ Some a → IsLiveAfter a)
      → ((k : ℕ) (a b : T) → (key ≡ k → ⊥) → to ≡ Some a → old k ≡ Some b → AreDistinct a b)
      → AreOwn IsLiveAfter AreDistinct new
  own_changed new key to is keeps here others =
      let at : (k : ℕ) → new k ≡ bind old key to k = λ k. ap (λ b. b k) is in
      let to_here : (k : ℕ) (a : T) → key ≡ k → new k ≡ Some a → to ≡ Some a = λ k a same e. sym (at k ∙ bound_here old key k to same) ∙ e in
      let to_old : (k : ℕ) (a : T) → (key ≡ k → ⊥) → new k ≡ Some a → old k ≡ Some a = λ k a apart e. sym (at k ∙ bound_other old key k to apart) ∙ e in
      record {
        live = λ k a e. elim (cases_eq key k) [
          | inl same ↦ here a (to_here k a same e)
          | inr apart ↦ keeps k a apart (to_old k a apart e)
        ];
        apart = λ k j a b e f differ. elim (cases_eq key k) [
          | inl same ↦ elim (cases_eq key j) [
            | inl also ↦ absurd (differ (sym same ∙ also))
            | inr apart ↦ others j a b apart (to_here k a same e) (to_old j b apart f)
          ]
          | inr apart ↦ elim (cases_eq key j) [
            | inl also ↦ symmetric b a (others k b a apart (to_here j b also f) (to_old k a apart e))
            | inr too ↦ own.apart k j a b (to_old k a apart e) (to_old j b too f) differ
          ]
        ];
      }

  -- a number stands for something new
  pub own_bound : (new : Bindings T) (key : ℕ) (a : T) → new ≡ bind old key (Some a) → ((b : T) → IsLive b → IsLiveAfter b)
      → IsLiveAfter a → ((b : T) → IsLive b → AreDistinct b a) → AreOwn IsLiveAfter AreDistinct new
  own_bound new key a is keeps live apart =
      own_changed new key (Some a) is
      (λ k b differ was. keeps b (own.live k b was))
      (λ b e. subst IsLiveAfter (some_same a b e) live)
      (λ k b c differ e was. subst (λ z. AreDistinct z c) (some_same a b e) (symmetric c a (apart c (own.live k c was))))

  -- a number stands for nothing any more, and what it stood for is gone
  pub own_freed : (new : Bindings T) (key : ℕ) (a : T) → old key ≡ Some a → new ≡ bind old key None
      → ((b : T) → IsLive b → AreDistinct b a → IsLiveAfter b) → AreOwn IsLiveAfter AreDistinct new
  own_freed new key a was is keeps =
      own_changed new key None is
      (λ k b differ bound. keeps b (own.live k b bound) (own.apart k key b a bound was (λ same. differ (sym same))))
      (λ b e. absurd (none_some b e))
      (λ k b c differ e. absurd (none_some b e))

  -- what a number stands for changed, and is live where it was
  pub own_changed_in_place : (new : Bindings T) (key : ℕ) (a b : T) → old key ≡ Some a → new ≡ bind old key (Some b) → ((c : T) → IsLive c → IsLiveAfter c)
      → IsLiveAfter b → ((c : T) → AreDistinct a c → AreDistinct b c) → AreOwn IsLiveAfter AreDistinct new
  own_changed_in_place new key a b was is keeps live alike =
      own_changed new key (Some b) is
      (λ k c differ bound. keeps c (own.live k c bound))
      (λ c e. subst IsLiveAfter (some_same b c e) live)
      (λ k c d differ e bound. subst (λ z. AreDistinct z d) (some_same b c e) (alike d (own.apart key k a d was bound differ)))
