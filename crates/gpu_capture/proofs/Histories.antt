-- What a capture has of its calls.
use Rattle.std.proofs.Common.{◌≡◌, ◌↔◌, refl, sym, ap, ◌∙◌, subst, ℕ, ◌+◌, ◌≤◌, ◌<◌, ◌^◌, List, [], ◌∷◌, ◌++◌, length, append_assoc, append-nil, length-append, arith}
use Rattle.std.specs.List.{flat_map}
use Rattle.gpu_capture.specs.declared.answer.Answer.{Answer}
use Rattle.gpu_capture.specs.declared.capture.CaptureEnd.{CaptureEnd}
use Rattle.gpu_capture.specs.declared.capture.CaptureEnd.TheVariants.{Whole, TooLong, HostOutOfMemory}
use Rattle.gpu_capture.specs.Answers.{answer_line, answer_lines}
use Rattle.gpu_capture.specs.CaptureState.{CaptureState, HasRoom}
use Rattle.gpu_capture.specs.History.{Call, Kept, call_line, answers_of, with_kept}
use Rattle.gpu_capture.specs.History as calls
use Rattle.gpu_capture.specs.Keeps.{Keeps, KeepsFrom, GoesOn, ended}

-- the answers to the questions of one call after another
pub answers-append : (before : ℕ) (xs ys : List Answer) → answer_lines before (xs ++ ys) ≡ answer_lines before xs ++ answer_lines (before + length xs) ys
answers-append before [] ys = ap (λ (n : ℕ). answer_lines n ys) (omega arith)
answers-append before (a ∷ xs) ys =
    let behind : before + 1 + length xs ≡ before + length (a ∷ xs) = omega arith in
    ap (λ (ls : List ℕ). answer_line (before + 1) a ++ ls) (answers-append (before + 1) xs ys)
    ∙ sym (append_assoc (answer_line (before + 1) a) (answer_lines (before + 1) xs) (answer_lines (before + 1 + length xs) ys))
    ∙ ap (λ (n : ℕ). (answer_line (before + 1) a ++ answer_lines (before + 1) xs) ++ answer_lines n ys) behind

-- what is whole now was whole before
whole_next : (e : CaptureEnd) (old next new : CaptureState) → old.end ≡ e → KeepsFrom e old next new → new.end ≡ Whole → (old.end ≡ Whole)
whole_next Whole old next new is k w = is
whole_next TooLong old next new is k w = let no : TooLong ≡ Whole = sym is ∙ ap (λ (s : CaptureState). s.end) (sym k) ∙ w in cc
whole_next HostOutOfMemory old next new is k w = let no : HostOutOfMemory ≡ Whole = sym is ∙ ap (λ (s : CaptureState). s.end) (sym k) ∙ w in cc

goes_on : (e : CaptureEnd) (old next new : CaptureState) → new.end ≡ e → GoesOn old next e new → new.end ≡ Whole → HasRoom next × (new ≡ next)
goes_on Whole old next new is g w = g
goes_on TooLong old next new is g w = let no : TooLong ≡ Whole = sym is ∙ w in cc
goes_on HostOutOfMemory old next new is g w = let no : HostOutOfMemory ≡ Whole = sym is ∙ w in cc

-- a call that is kept whole adds its lines
pub kept_whole : (old next new : CaptureState) → Keeps old next new → new.end ≡ Whole → (old.end ≡ Whole) × HasRoom next × (new ≡ next)
kept_whole old next new k w =
    let was = whole_next old.end old next new refl k w in
    let on = goes_on new.end old next new refl (subst (λ (e : CaptureEnd). KeepsFrom e old next new) was k) w in (was, on.0, on.1)

-- what a call adds
pub record Adds (old new : CaptureState) (device line : List ℕ) (questions : ℕ) : Type 0 where
  pub device_is : new.device ≡ old.device ++ device
  pub calls_are : new.calls ≡ old.calls ++ line
  pub questions_are : new.questions ≡ old.questions + questions

added : (s : CaptureState) (c : Call) → Adds s (with_kept s c) (answer_lines s.questions (answers_of c)) (call_line c) (length (answers_of c))
added s (calls.Bounded t b) = record { device_is = refl; calls_are = refl; questions_are = refl }
added s (calls.Allocated number r answers) = record { device_is = refl; calls_are = refl; questions_are = refl }
added s (calls.Moved from to r) = record { device_is = refl; calls_are = refl; questions_are = refl }
added s (calls.Committed number r answers) = record { device_is = refl; calls_are = refl; questions_are = refl }
added s (calls.Freed number) = record { device_is = refl; calls_are = refl; questions_are = refl }
added s (calls.Released number) = record { device_is = refl; calls_are = refl; questions_are = refl }
added s (calls.Renamed number name) = record { device_is = refl; calls_are = refl; questions_are = refl }
added s calls.SetCommitted = record { device_is = refl; calls_are = refl; questions_are = refl }

-- a call in front of others adds its lines in front of theirs
adds_one : (c : Call) (cs : List Call) (old next new : CaptureState) → next ≡ with_kept old c
    → Adds next new (answer_lines next.questions (flat_map answers_of cs)) (flat_map call_line cs) (length (flat_map answers_of cs))
    → Adds old new (answer_lines old.questions (flat_map answers_of (c ∷ cs))) (flat_map call_line (c ∷ cs)) (length (flat_map answers_of (c ∷ cs)))
adds_one c cs old next new same rest =
    let mine = added old c in
    let device : next.device ≡ old.device ++ answer_lines old.questions (answers_of c) = ap (λ (s : CaptureState). s.device) same ∙ mine.device_is in
    let lines : next.calls ≡ old.calls ++ call_line c = ap (λ (s : CaptureState). s.calls) same ∙ mine.calls_are in
    let asked : next.questions ≡ old.questions + length (answers_of c) = ap (λ (s : CaptureState). s.questions) same ∙ mine.questions_are in
    let later = flat_map answers_of cs in record {
      device_is =
          rest.device_is
          ∙ ap (λ (d : List ℕ). d ++ answer_lines next.questions later) device
          ∙ append_assoc old.device (answer_lines old.questions (answers_of c)) (answer_lines next.questions later)
          ∙ ap (λ (n : ℕ). old.device ++ (answer_lines old.questions (answers_of c) ++ answer_lines n later)) asked
          ∙ ap (λ (d : List ℕ). old.device ++ d) (sym (answers-append old.questions (answers_of c) later));
      calls_are = rest.calls_are ∙ ap (λ (d : List ℕ). d ++ flat_map call_line cs) lines ∙ append_assoc old.calls (call_line c) (flat_map call_line cs);
      questions_are = omega (arith, rest.questions_are, asked, length-append (answers_of c) later);
    }

-- no call adds nothing
adds_none : (old new : CaptureState) → new.device ≡ old.device → new.calls ≡ old.calls → new.questions ≡ old.questions → Adds old new [] [] 0
adds_none old new device calls questions = record {
  device_is = device ∙ sym (append-nil old.device);
  calls_are = calls ∙ sym (append-nil old.calls);
  questions_are = questions ∙ omega arith;
}

-- ---- a capture that may have ended

-- what has ended stays as it is
stays : (e : CaptureEnd) (old next new : CaptureState) → (e ≡ Whole → ⊥) → KeepsFrom e old next new → new ≡ old
stays Whole old next new ended k = absurd (ended refl)
stays TooLong old next new ended k = k
stays HostOutOfMemory old next new ended k = k

all_stay : (cs : List Call) (old new : CaptureState) → Kept cs old new → (old.end ≡ Whole → ⊥) → new ≡ old
all_stay [] old new k e = k
all_stay (c ∷ cs) old new k e =
    let next = k.0 in
    let same = stays old.end old (with_kept old c) next e k.1 in
    all_stay cs next new k.2 (λ w. e (sym (ap (λ (s : CaptureState). s.end) same) ∙ w)) ∙ same

-- and has room as before
ended_room : (s : CaptureState) (e : CaptureEnd) → HasRoom s → HasRoom (ended s e)
ended_room s e h = record { bytes = h.bytes; count = h.count }

-- a call goes on, or the capture ends before it
pub data Ends (old next new : CaptureState) : Type 0 where
  goes : new.end ≡ Whole → HasRoom next → new ≡ next → Ends old next new
  stops : (e : CaptureEnd) → (e ≡ Whole → ⊥) → new ≡ ended old e → Ends old next new

ends_by : (e : CaptureEnd) (old next new : CaptureState) → new.end ≡ e → GoesOn old next e new → Ends old next new
ends_by Whole old next new is g = goes is g.0 g.1
ends_by TooLong old next new is g = stops TooLong (λ (no : TooLong ≡ Whole). cc) g.1
ends_by HostOutOfMemory old next new is g = stops HostOutOfMemory (λ (no : HostOutOfMemory ≡ Whole). cc) g

ends_at : (old next new : CaptureState) → old.end ≡ Whole → Keeps old next new → Ends old next new
ends_at old next new was k = ends_by new.end old next new refl (subst (λ (e : CaptureEnd). KeepsFrom e old next new) was k)

-- a capture that is whole now was whole before these calls
pub was_whole : (cs : List Call) (old new : CaptureState) → Kept cs old new → new.end ≡ Whole → old.end ≡ Whole
was_whole [] old new k w = ap (λ (s : CaptureState). s.end) (sym k) ∙ w
was_whole (c ∷ cs) old new k w = (kept_whole old (with_kept old c) k.0 k.1 (was_whole cs k.0 new k.2 w)).0

-- the history of a capture tells its lines: those of the calls up to its end
pub record Tells (cs : List Call) (old new : CaptureState) : Type 0 where
  pub calls : List Call
  pub left : List Call
  pub split : cs ≡ calls ++ left
  pub whole : (new.end ≡ Whole) ↔ (left ≡ [])
  pub adds : Adds old new (answer_lines old.questions (flat_map answers_of calls)) (flat_map call_line calls) (length (flat_map answers_of calls))
  pub room : HasRoom old → HasRoom new

pub history : (cs : List Call) (old new : CaptureState) → Kept cs old new → old.end ≡ Whole → Tells cs old new
history [] old new k was = record {
  calls = [];
  left = [];
  split = refl;
  whole = (λ _. refl, λ _. ap (λ (s : CaptureState). s.end) k ∙ was);
  adds = adds_none old new (ap (λ (s : CaptureState). s.device) k) (ap (λ (s : CaptureState). s.calls) k) (ap (λ (s : CaptureState). s.questions) k);
  room = λ h. subst HasRoom (sym k) h;
}
history (c ∷ cs) old new k was =
    let next = k.0 in
    elim (ends_at old (with_kept old c) next was k.1) as (λ _. Tells (c ∷ cs) old new) [
      | goes whole room same ↦
          let rest = history cs next new k.2 whole in record {
            calls = c ∷ rest.calls;
            left = rest.left;
            split = ap (λ (xs : List Call). c ∷ xs) rest.split;
            whole = rest.whole;
            adds = adds_one c rest.calls old next new same rest.adds;
            room = λ h. rest.room (subst HasRoom (sym same) room);
          }
      | stops e early same ↦
          let last : new ≡ ended old e = all_stay cs next new k.2 (λ w. early (sym (ap (λ (s : CaptureState). s.end) same) ∙ w)) ∙ same in record {
            calls = [];
            left = c ∷ cs;
            split = refl;
            whole = (λ w. absurd (early (sym (ap (λ (s : CaptureState). s.end) last) ∙ w)), λ (no : c ∷ cs ≡ []). cc);
            adds = adds_none old new (ap (λ (s : CaptureState). s.device) last) (ap (λ (s : CaptureState). s.calls) last) (ap (λ (s : CaptureState). s.questions) last);
            room = λ h. subst HasRoom (sym last) (ended_room old e h);
          }
    ]
