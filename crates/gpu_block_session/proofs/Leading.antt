-- The lines up to the n-th lead to a stage.
use Rattle.std.proofs.Common.{◌≡◌, true, false, ℕ, ◌+◌, ◌<◌, ◌≤◌, List, [], length, take, get_or, Option, Some, None, refl, ap, ◌∙◌, inl, inr, arith, length-take, take-suc, add-one}
use Rattle.std.specs.Prelude.{IfSome}
use Rattle.std.specs.Borrow.{Bor}
use Rattle.std.proofs.lemmas.List.{length-map, take_all}
use Rattle.gpu_block_session.specs.Words.{texts}
use Rattle.gpu_block_session.specs.declared.replay.Replayed.{Replayed}
use Rattle.gpu_block_session.specs.declared.replay.Replayed.TheVariants as replayed
use Rattle.gpu_block_session.specs.declared.outcome.Outcome.{Outcome}
use Rattle.gpu_block_session.specs.declared.outcome.Outcome.TheVariants.{Nothing, Replied, Bad}
use Rattle.gpu_block_session.specs.Run.{Does, is_bad, lines_of, longest_trace}
use Rattle.gpu_block_session.specs.Replay.{LeadTo, serve, StopAt, Replays, ReplaysTrace}
use Rattle.gpu_block_session.proofs.Runs.{text_at, texts_below}

module _ {S R : Type 0} (does : Does S R) (start : S) where
  module _ (lines : List (Bor (List ℕ))) (d : Bor (List ℕ)) (stage next : S) (n : ℕ) where
    -- one line more
    pub line_more : (o : Outcome R) → LeadTo does start (take n (texts lines)) stage → n < length lines → does stage (get_or lines n d).now o next → is_bad o ≡ false
        → LeadTo does start (take (n + 1) (texts lines)) next
    line_more o led lt did goes =
        let did' : does stage (get_or (texts lines) n []) o next = rw (← text_at lines n d lt) did in
        rw (add-one, take-suc (texts lines) n [] (texts_below lines n lt)) (serve (take n (texts lines)) (get_or (texts lines) n []) stage o led did' goes)

    -- the line at which it stops
    pub line_bad : (o : Outcome R) → LeadTo does start (take n (texts lines)) stage → n < length lines → does stage (get_or lines n d).now o next → is_bad o ≡ true
        → StopAt does start (texts lines) n
    line_bad Nothing led lt did stop = cc
    line_bad (Replied r) led lt did stop = cc
    line_bad Bad led lt did stop =
        record { within = texts_below lines n lt; stage = stage; left = next; before = led; bad = rw (← text_at lines n d lt) did }

  -- all lines
  pub all_lines : (lines : List (Bor (List ℕ))) (stage : S) (n : ℕ) → LeadTo does start (take n (texts lines)) stage → length lines ≤ n → LeadTo does start (texts lines) stage
  all_lines lines stage n led le =
      let same : take n (texts lines) ≡ texts lines = take_all n (texts lines) (rw length-map le) in
      rw same at led

  -- more than the limit was there
  pub too_long : (known : Option (List ℕ)) (text : List ℕ) → IfSome known (λ input. text ≡ take (longest_trace + 1) input) → longest_trace < length text
      → IfSome known (λ input. ReplaysTrace does start input (replayed.Bad 1))
  too_long None text read long = tt
  too_long (Some input) text read long = inl (omega (arith, ap length read, length-take (longest_trace + 1) input), refl)

  -- all was read
  pub all_read : (known : Option (List ℕ)) (text : List ℕ) (lines : List (List ℕ)) (r : Replayed S) → IfSome known (λ input. text ≡ take (longest_trace + 1) input)
      → length text ≤ longest_trace → lines ≡ lines_of text → Replays does start lines r → IfSome known (λ input. ReplaysTrace does start input r)
  all_read None text lines r read short is ran = tt
  all_read (Some input) text lines r read short is ran =
      let len : length input ≤ longest_trace = omega (arith, ap length read, length-take (longest_trace + 1) input) in
      let more : length input ≤ longest_trace + 1 = omega arith in
      let same : text ≡ input = read ∙ take_all (longest_trace + 1) input more in
      let split : lines ≡ lines_of input = is ∙ ap lines_of same in
      inr (len, rw split at ran)
