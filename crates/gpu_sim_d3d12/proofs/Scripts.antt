-- A script before any question.
use Rattle.std.proofs.Common.{◌≡◌, ℕ, ◌==◌, if◌then◌else◌, List, [], ◌∷◌, Option, Some, refl, ap}
use Rattle.gpu_device.specs.D3D12History.{scripted, scripted_in, questions_in, refused_in}
use Rattle.gpu_device.specs.declared.refusal.Refusal.{Refusal}
use Rattle.gpu_sim_base.specs.Script.{refusal_at}
use Rattle.gpu_sim_d3d12.specs.Scripted.{EndAsScripted, issued_in}

pub same_entries : (es : List (ℕ × Refusal)) (question : ℕ) → scripted_in (scripted es) question ≡ refusal_at es question
same_entries [] question = refl
same_entries (e ∷ es) question = ap (λ (rest : Option Refusal). if e.0 == question then Some e.1 else rest) (same_entries es question)

pub no_question : (es : List (ℕ × Refusal)) → 0 ≡ questions_in (scripted es)
no_question [] = refl
no_question (e ∷ es) = no_question es

pub no_refusal : (es : List (ℕ × Refusal)) → refused_in (scripted es) ≡ 0
no_refusal [] = refl
no_refusal (e ∷ es) = no_refusal es

pub none_issued : (es : List (ℕ × Refusal)) → 0 ≡ issued_in (scripted es)
none_issued [] = refl
none_issued (e ∷ es) = none_issued es

pub ends : (es : List (ℕ × Refusal)) → EndAsScripted (scripted es)
ends [] = tt
ends (e ∷ es) = (tt, ends es)
