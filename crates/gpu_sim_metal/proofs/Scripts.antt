-- What a device is told before any question.
use Rattle.std.proofs.Common.{◌≡◌, ℕ, ◌==◌, if◌then◌else◌, Bool, true, false, List, [], ◌∷◌, Option, Some, refl, ap}
use Rattle.gpu_device.specs.MetalHistory.{scripted, scripted_in, questions_in, refused_in, sets_in}
use Rattle.gpu_device.specs.declared.refusal.Refusal.{Refusal}
use Rattle.gpu_sim_base.specs.Script.{refusal_at}
use Rattle.gpu_sim_metal.specs.Scripted.{EndAsScripted, told, issued_in}

of_script : (es : List (ℕ × Refusal)) (question : ℕ) → scripted_in (scripted es) question ≡ refusal_at es question
of_script [] question = refl
of_script (e ∷ es) question = ap (λ (rest : Option Refusal). if e.0 == question then Some e.1 else rest) (of_script es question)

pub same_entries : (residency : Bool) (es : List (ℕ × Refusal)) (question : ℕ) → scripted_in (told residency es) question ≡ refusal_at es question
same_entries true es question = of_script es question
same_entries false es question = of_script es question

none_of_script : (es : List (ℕ × Refusal)) → 0 ≡ questions_in (scripted es)
none_of_script [] = refl
none_of_script (e ∷ es) = none_of_script es

pub no_question : (residency : Bool) (es : List (ℕ × Refusal)) → 0 ≡ questions_in (told residency es)
no_question true es = none_of_script es
no_question false es = none_of_script es

none_by_script : (es : List (ℕ × Refusal)) → refused_in (scripted es) ≡ 0
none_by_script [] = refl
none_by_script (e ∷ es) = none_by_script es

pub no_refusal : (residency : Bool) (es : List (ℕ × Refusal)) → refused_in (told residency es) ≡ 0
no_refusal true es = none_by_script es
no_refusal false es = none_by_script es

none_with_script : (es : List (ℕ × Refusal)) → 0 ≡ issued_in (scripted es)
none_with_script [] = refl
none_with_script (e ∷ es) = none_with_script es

pub none_issued : (residency : Bool) (es : List (ℕ × Refusal)) → 0 ≡ issued_in (told residency es)
none_issued true es = none_with_script es
none_issued false es = none_with_script es

sets_beside_script : (es : List (ℕ × Refusal)) → true ≡ sets_in (scripted es)
sets_beside_script [] = refl
sets_beside_script (e ∷ es) = sets_beside_script es

pub told_sets : (residency : Bool) (es : List (ℕ × Refusal)) → residency ≡ sets_in (told residency es)
told_sets true es = sets_beside_script es
told_sets false es = refl

script_ends : (es : List (ℕ × Refusal)) → EndAsScripted (scripted es)
script_ends [] = tt
script_ends (e ∷ es) = (tt, script_ends es)

pub ends : (residency : Bool) (es : List (ℕ × Refusal)) → EndAsScripted (told residency es)
ends true es = script_ends es
ends false es = (tt, script_ends es)
