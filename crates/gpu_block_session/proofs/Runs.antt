-- A run, line by line.
use Rattle.std.proofs.Common.{◌≡◌, true, false, ℕ, suc, ◌+◌, ◌<◌, ◌≤◌, List, [], ◌∷◌, ◌++◌, length, get_or, drop, Option, Some, None, sym, ap, ◌∙◌, append_assoc, drop-cons, add-one}
use Rattle.std.specs.Borrow.{Bor}
use Rattle.std.specs.List.{flat_map}
use Rattle.std.specs.Io.KnownBytes.{Appends, Keeps}
use Rattle.std.proofs.lemmas.List.{append-nil, length-map, get_or-map}
use Rattle.std.proofs.lemmas.List.Concat.{flat_map-append}
use Rattle.std.proofs.Math.ListN.{drop_of_length-le}
use Rattle.gpu_block_session.specs.Words.{texts}
use Rattle.gpu_block_session.specs.declared.outcome.Outcome.{Outcome}
use Rattle.gpu_block_session.specs.declared.outcome.Outcome.TheVariants.{Nothing, Replied, Bad}
use Rattle.gpu_block_session.specs.Run.{Does, Runs, ends, quiet, serves, stops, HasRun, bad_text, outcome_text, is_bad}

-- ---- what a writer tells of its bytes

pub Appends-none : (a : Option (List ℕ)) → Appends a a []
Appends-none None = tt
Appends-none (Some xs) = sym (append-nil xs)

pub Appends-more : (a b c : Option (List ℕ)) (xs ys : List ℕ) → Appends a b xs → Appends b c ys → Appends a c (xs ++ ys)
Appends-more None b c xs ys h k = tt
Appends-more (Some os) None c xs ys h k = absurd h
Appends-more (Some os) (Some bs) None xs ys h k = absurd k
Appends-more (Some os) (Some bs) (Some cs) xs ys h k = k ∙ ap (λ (t : List ℕ). t ++ ys) h ∙ append_assoc os xs ys

pub Appends-kept : (a b c : Option (List ℕ)) (xs : List ℕ) → Appends a b xs → Keeps b c → Appends a c xs
Appends-kept None b c xs h k = tt
Appends-kept (Some os) None c xs h k = absurd h
Appends-kept (Some os) (Some bs) None xs h k = absurd k
Appends-kept (Some os) (Some bs) (Some cs) xs h k = k ∙ h

-- the line n, and those behind it
split_at : (lines : List (List ℕ)) (n : ℕ) (line : List ℕ) → n < length lines → line ≡ get_or lines n [] → drop n lines ≡ line ∷ drop (n + 1) lines
split_at lines n line lt is = rw (is, add-one) (drop-cons lines n [] lt)

pub text_at : (lines : List (Bor (List ℕ))) (n : ℕ) (d : Bor (List ℕ)) → n < length lines → (get_or lines n d).now ≡ get_or (texts lines) n []
text_at lines n d lt = sym (get_or-map (λ w. w.now) lines n d [] lt)

pub texts_below : (lines : List (Bor (List ℕ))) (n : ℕ) → n < length lines → n < length (texts lines)
texts_below lines n lt = rw length-map lt

module _ {S R : Type 0} (does : Does S R) (reply_line : R → List ℕ) (first : S) where
  -- the lines up to n were served, the replies to them are written, and whatever run the rest has completes the run of all
  pub record SoFar (lines : List (List ℕ)) (start now : Option (List ℕ)) (stage : S) (n : ℕ) : Type 0 where
    pub replies : List R
    pub written : Appends start now (flat_map reply_line replies)
    pub whole : (rs : List R) (bad : Option ℕ) → Runs does stage (suc n) (drop n lines) rs bad → Runs does first 1 lines (replies ++ rs) bad

  pub begins : (lines : List (List ℕ)) (start : Option (List ℕ)) → SoFar lines start start first 0
  begins lines start = record { replies = []; written = Appends-none start; whole = λ rs bad t. t }

  one_more : (rs : List R) (r : R) → flat_map reply_line (rs ++ r ∷ []) ≡ flat_map reply_line rs ++ reply_line r
  one_more rs r = flat_map-append reply_line rs (r ∷ []) ∙ ap (λ (t : List ℕ). flat_map reply_line rs ++ t) (append-nil (reply_line r))

  module _ (lines : List (List ℕ)) (start now next : Option (List ℕ)) (stage after : S) (n : ℕ) (line : List ℕ) (s : SoFar lines start now stage n) (lt : n < length lines)
      (is : line ≡ get_or lines n []) where
    after_quiet : does stage line Nothing after → Appends now next [] → SoFar lines start next after (n + 1)
    after_quiet did wrote = record {
      replies = s.replies;
      written = rw (← append-nil (flat_map reply_line s.replies)) (Appends-more start now next _ _ s.written wrote);
      whole = λ rs bad t.
          let rest : Runs does after (suc (suc n)) (drop (n + 1) lines) rs bad = rw (← add-one n) t in
          s.whole rs bad (rw (split_at lines n line lt is) (quiet did rest));
    }

    after_reply : (r : R) → does stage line (Replied r) after → Appends now next (reply_line r) → SoFar lines start next after (n + 1)
    after_reply r did wrote = record {
      replies = s.replies ++ r ∷ [];
      written = rw (one_more s.replies r) (Appends-more start now next _ _ s.written wrote);
      whole = λ rs bad t.
          let rest : Runs does after (suc (suc n)) (drop (n + 1) lines) rs bad = rw (← add-one n) t in
          let all : Runs does first 1 lines (s.replies ++ r ∷ rs) bad = s.whole (r ∷ rs) bad (rw (split_at lines n line lt is) (serves did rest)) in
          rw (append_assoc s.replies (r ∷ []) rs) all;
    }

    at_bad : does stage line Bad after → Appends now next (bad_text (Some (n + 1))) → HasRun does reply_line first lines start next (Some (n + 1))
    at_bad bad wrote = record {
      replies = s.replies ++ [];
      run = s.whole [] (Some (n + 1)) (rw (split_at lines n line lt is, add-one) (stops bad));
      text = rw (append-nil s.replies) (Appends-more start now next _ _ s.written wrote);
    }

  pub at_end : (lines : List (List ℕ)) (start now : Option (List ℕ)) (stage : S) (n : ℕ) → SoFar lines start now stage n → length lines ≤ n → HasRun does reply_line first lines start now None
  at_end lines start now stage n s le = record {
    replies = s.replies ++ [];
    run = s.whole [] None (rw (drop_of_length-le lines le) ends);
    text = rw (append-nil s.replies, append-nil (flat_map reply_line s.replies)) s.written;
  }

  -- ---- the same of borrowed lines, by what serving the line n did

  module _ (lines : List (Bor (List ℕ))) (d : Bor (List ℕ)) (start now next : Option (List ℕ)) (stage after : S) (n : ℕ) where
    pub line_done : (o : Outcome R) → SoFar (texts lines) start now stage n → n < length lines → does stage (get_or lines n d).now o after → is_bad o ≡ false
        → Appends now next (outcome_text reply_line (n + 1) o) → SoFar (texts lines) start next after (n + 1)
    line_done Nothing s lt did goes wrote =
        after_quiet (texts lines) start now next stage after n (get_or lines n d).now s (texts_below lines n lt) (text_at lines n d lt) did wrote
    line_done (Replied r) s lt did goes wrote =
        after_reply (texts lines) start now next stage after n (get_or lines n d).now s (texts_below lines n lt) (text_at lines n d lt) r did wrote
    line_done Bad s lt did goes wrote = cc

    pub bad_done : (o : Outcome R) → SoFar (texts lines) start now stage n → n < length lines → does stage (get_or lines n d).now o after → is_bad o ≡ true
        → Appends now next (outcome_text reply_line (n + 1) o) → HasRun does reply_line first (texts lines) start next (Some (n + 1))
    bad_done Nothing s lt did stop wrote = cc
    bad_done (Replied r) s lt did stop wrote = cc
    bad_done Bad s lt did stop wrote =
        at_bad (texts lines) start now next stage after n (get_or lines n d).now s (texts_below lines n lt) (text_at lines n d lt) did wrote
