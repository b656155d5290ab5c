-- What is read of a reader that tells its bytes.
use Rattle.std.proofs.Common.{◌≡◌, ℕ, ◌+◌, ◌<◌, ◌≤◌, List, [], ◌++◌, length, take, Option, Some, None, refl, ap, ◌∙◌, inl, inr, arith, length-take}
use Rattle.std.specs.Prelude.{IfSome}
use Rattle.std.specs.Option.{option_map}
use Rattle.std.specs.Io.KnownBytes.{Appends, Keeps}
use Rattle.std.proofs.lemmas.List.{take_all}
use Rattle.gpu_block_session.specs.Run.{Does, Answers, HasRun, lines_of, bad_text, longest_trace}
use Rattle.gpu_block_session.proofs.Runs.{Appends-kept}

pub read_known : (known : Option (List ℕ)) (n : ℕ) (items : List ℕ) → IfSome (option_map (take n) known) (λ xs. items ≡ [] ++ xs) → IfSome known (λ input. items ≡ take n input)
read_known None n items h = tt
read_known (Some xs) n items h = h

module _ {S R : Type 0} (does : Does S R) (reply_line : R → List ℕ) (start : S) where
  -- more than the limit was there
  pub too_long : (known : Option (List ℕ)) (text : List ℕ) (old mid new : Option (List ℕ)) → IfSome known (λ input. text ≡ take (longest_trace + 1) input) → longest_trace < length text
      → Appends old mid (bad_text (Some 1)) → Keeps mid new → IfSome known (λ input. Answers does reply_line start input old new (Some 1))
  too_long None text old mid new read long wrote kept = tt
  too_long (Some input) text old mid new read long wrote kept = record {
    replies = [];
    run = inl (omega (arith, ap length read, length-take (longest_trace + 1) input), refl, refl);
    text = Appends-kept old mid new _ wrote kept;
  }

  -- all was read
  pub all_read : (known : Option (List ℕ)) (text : List ℕ) (lines : List (List ℕ)) (old mid new : Option (List ℕ)) (bad : Option ℕ)
      → IfSome known (λ input. text ≡ take (longest_trace + 1) input) → length text ≤ longest_trace
      → lines ≡ lines_of text → HasRun does reply_line start lines old mid bad → Keeps mid new → IfSome known (λ input. Answers does reply_line start input old new bad)
  all_read None text lines old mid new bad read short is ran kept = tt
  all_read (Some input) text lines old mid new bad read short is ran kept =
      let len : length input ≤ longest_trace = omega (arith, ap length read, length-take (longest_trace + 1) input) in
      let more : length input ≤ longest_trace + 1 = omega arith in
      let same : text ≡ input = read ∙ take_all (longest_trace + 1) input more in
      let split : lines ≡ lines_of input = is ∙ ap lines_of same in
      record { replies = ran.replies; run = inr (len, rw split at ran.run); text = Appends-kept old mid new _ ran.text kept }
