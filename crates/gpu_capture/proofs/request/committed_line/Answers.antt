use Rattle.std.proofs.Common.{◌≡◌, ◌∷◌, [], ◌++◌, List, ℕ, ap, append_assoc, codes, ◌∙◌}
use Rattle.std.specs.Fmt.{decimal}
use Rattle.gpu_capture.specs.Line.{name_word}
use Rattle.gpu_capture.proofs.request.committed_line.Goals as goal

-- what is written, with its parts behind one another
regroup : (n l k s w location category size : List ℕ) → l ≡ location → k ≡ category → s ≡ size
    → (codes "create " ++ (n ++ (codes " committed " ++ (l ++ (codes " " ++ (k ++ (codes " buffer " ++ (s ++ codes " 1 1 0 state:0 none none ")))))))) ++ (w ++ 10 ∷ [])
    ≡ codes "create " ++ (n ++ (codes " committed " ++ (location ++ (codes " " ++ (category ++ (codes " buffer " ++ (size ++ (codes " 1 1 0 state:0 none none " ++ (w ++ 10 ∷ [])))))))))
regroup n l k s w location category size p q r = rw (← p, ← q, ← r) (simp append_assoc)

pub returns : goal.returns
returns c =
    let end : List ℕ = name_word c.args.request.now.name.now ++ 10 ∷ [] in
    c.in_ok-end_with_name.ensures ∙ (ap (λ (bs : List ℕ). bs ++ end) c.in_ok-line.ensures.ok
    ∙ regroup _ _ _ _ _ _ _ _ c.location_word-location.ensures c.category_word-category.ensures (ap decimal c.whole_units-size.ensures))
