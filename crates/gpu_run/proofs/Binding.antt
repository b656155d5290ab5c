-- What changes of a map say of what its numbers stand for.
use Rattle.std.proofs.Common.{◌≡◌, ℕ, List, Option, Some, None, Bool, true, false, refl, ap, sym, ◌∙◌, arith, inl, inr, cond}
use Rattle.std.specs.Prelude.{if◌then◌else◌, ◌==◌, nat_eq}
use Rattle.std.specs.Map.{lookup}
use Rattle.std.specs.Option.{is_some}
use Rattle.std.proofs.lemmas.Bool.{cases_eq}
use Rattle.std.proofs.lemmas.Bool.Decides.{nat_tests}
use Rattle.gpu_run.specs.Bindings.{Bindings, bind, bindings_of}

pub eq_true : (key k : ℕ) → key ≡ k → (key == k) ≡ true
eq_true key k e = grind (arith, nat_tests, e)

pub eq_false : (key k : ℕ) → (key ≡ k → ⊥) → (key == k) ≡ false
eq_false key k apart = grind (arith, nat_tests, apart)

pub none_bound : {T : Type 0} (o : Option T) (b : Bool) → b ≡ is_some o → b ≡ false → o ≡ None
none_bound None b e t = refl
none_bound (Some a) b e t = absurd (let f = sym e ∙ t in cc)

pub some_bound : {T : Type 0} (o : Option T) (b : Bool) → b ≡ is_some o → b ≡ true → (a : T) × (o ≡ Some a)
some_bound None b e t = absurd (let f = sym e ∙ t in cc)
some_bound (Some a) b e t = (a, refl)

module _ {T : Type 0} where
  pub bound_here : (b : Bindings T) (key k : ℕ) (to : Option T) → key ≡ k → bind b key to k ≡ to
  bound_here b key k to e = ap (λ z. if z then to else b k) (eq_true key k e)

  pub bound_other : (b : Bindings T) (key k : ℕ) (to : Option T) → (key ≡ k → ⊥) → bind b key to k ≡ b k
  bound_other b key k to apart = ap (λ z. if z then to else b k) (eq_false key k apart)

  -- binding what is bound changes nothing
  pub bind_same : (b : Bindings T) (key : ℕ) (to : Option T) → b key ≡ to → bind b key to ≡ b
  bind_same b key to e = λ i k. at k i
    where
      at : (k : ℕ) → bind b key to k ≡ b k
      at k = elim (cases_eq key k) [
        | inl same ↦ bound_here b key k to same ∙ sym e ∙ ap b same
        | inr apart ↦ bound_other b key k to apart
      ]

  -- one number of the map changed
  pub rebound : (old new : List (ℕ × T)) (key : ℕ) (to : Option T) → ((k : ℕ) → lookup (nat_eq k) new ≡ cond (nat_eq key k) to (lookup (nat_eq k) old))
      → bindings_of new ≡ bind (bindings_of old) key to
  rebound old new key to h = λ i k. h k i

  -- none did
  pub same_bindings : (old new : List (ℕ × T)) → ((k : ℕ) → lookup (nat_eq k) new ≡ lookup (nat_eq k) old) → bindings_of new ≡ bindings_of old
  same_bindings old new h = λ i k. h k i

  -- room is made, and a number bound in it
  pub bound_after : (old mid new : List (ℕ × T)) (key : ℕ) (to : Option T) → ((k : ℕ) → lookup (nat_eq k) mid ≡ lookup (nat_eq k) old)
      → ((k : ℕ) → lookup (nat_eq k) new ≡ cond (nat_eq key k) to (lookup (nat_eq k) mid)) → bindings_of new ≡ bind (bindings_of old) key to
  bound_after old mid new key to same put = rebound old new key to (λ k. put k ∙ ap (λ o. cond (nat_eq key k) to o) (same k))
