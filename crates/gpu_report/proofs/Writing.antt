-- Texts that are written part by part.
use Rattle.std.proofs.Common.{◌≡◌, List, [], ◌∷◌, ◌++◌, ℕ, append_assoc, append-nil, ap, subst, sym, ◌∙◌}
use Rattle.std.specs.List.{flat_map}
use Rattle.std.specs.Fmt.{HasWritten, IsPlainFormatter}
use Rattle.std.specs.declared.fmt.Formatter.{Formatter}
use Rattle.gpu_report.specs.Json.{listed}
use Rattle.std.proofs.Output.{has_written_append, has_written_of_eq, writes_in_calls_nil}

module _ {W : Type 0} (took : W → List ℕ → W → Type 0) where
  -- what was written so far, and the rest, are the whole
  abbrev pub WritesBefore : Formatter W → Formatter W → (rest whole : List ℕ) → Type 0
  WritesBefore f g rest whole = IsPlainFormatter f → (done : List ℕ) × HasWritten took f done g × (done ++ rest ≡ whole)

  pub writes-more : (f g h : Formatter W) (part rest whole : List ℕ) → WritesBefore f g (part ++ rest) whole → (IsPlainFormatter g → HasWritten took g part h) → WritesBefore f h rest whole
  writes-more f g h part rest whole before more plain =
      let b = before plain in
      (b.0 ++ part, has_written_append took f b.0 g part h b.1 (more b.1.plain), append_assoc b.0 part rest ∙ b.2)

  pub writes-all : (f g : Formatter W) (whole : List ℕ) → WritesBefore f g [] whole → IsPlainFormatter f → HasWritten took f whole g
  writes-all f g whole before plain =
      let b = before plain in
      has_written_of_eq took f b.0 whole g (sym (append-nil b.0) ∙ b.2) b.1

  pub writes-none : (f : Formatter W) (rest whole : List ℕ) → rest ≡ whole → WritesBefore f f rest whole
  writes-none f rest whole e plain = ([], record { wrote = writes_in_calls_nil took f.writer; plain = plain }, e)

  -- ---- lists with a comma between each two

  pub writes-next : {X : Type 0} (text : X → List ℕ) (first f g h : Formatter W) (x : X) (xs rest : List X) (whole : List ℕ) → xs ≡ x ∷ rest
      → WritesBefore first f (flat_map (λ y. 44 ∷ text y) xs) whole → (IsPlainFormatter f → HasWritten took f (44 ∷ []) g) → (IsPlainFormatter g → HasWritten took g (text x) h)
      → WritesBefore first h (flat_map (λ y. 44 ∷ text y) rest) whole
  writes-next text first f g h x xs rest whole e before comma more =
      writes-more first f h (44 ∷ text x) (flat_map (λ y. 44 ∷ text y) rest) whole
      (subst (λ ys. WritesBefore first f (flat_map (λ y. 44 ∷ text y) ys) whole) e before)
      (λ plain. let c = comma plain in has_written_append took f (44 ∷ []) g (text x) h c (more c.plain))

  pub writes-listed : {X : Type 0} (text : X → List ℕ) (f g h : Formatter W) (x : X) (xs others iterated end : List X) → xs ≡ x ∷ others → iterated ≡ others → end ≡ []
      → HasWritten took f (text x) g → WritesBefore g h (flat_map (λ y. 44 ∷ text y) end) (flat_map (λ y. 44 ∷ text y) iterated) → HasWritten took f (listed text xs) h
  writes-listed text f g h x xs others iterated end e o n one before =
      let rest : List ℕ = flat_map (λ y. 44 ∷ text y) iterated in
      has_written_of_eq took f (text x ++ rest) (listed text xs) h (ap (λ ys. text x ++ flat_map (λ y. 44 ∷ text y) ys) o ∙ sym (ap (listed text) e))
      (has_written_append took f (text x) g rest h one
      (writes-all g h rest (subst (λ ys. WritesBefore g h (flat_map (λ y. 44 ∷ text y) ys) rest) n before) one.plain))
