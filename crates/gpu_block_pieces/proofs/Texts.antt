-- One more text in the list of leak texts.
use Rattle.std.proofs.Common.{◌≡◌, ℕ, List, [], ◌∷◌, ◌++◌, map, append_assoc, string_bytes, String, Global}
use Rattle.std.proofs.lemmas.List.{map-append}
use Rattle.gpu_block_pieces.specs.Leak.{LeakOf, leak_text}

pub text_step : (texts more : List (String Global)) (s : String Global) (leak : LeakOf) (before rest : List LeakOf) (all : List (List ℕ)) → more ≡ texts ++ s ∷ [] → before ≡ leak ∷ rest →
    string_bytes s ≡ leak_text leak → map string_bytes texts ++ map leak_text before ≡ all → map string_bytes more ++ map leak_text rest ≡ all
text_step texts more s leak before rest all m b e inv =
    let f : map string_bytes texts ++ (leak_text leak ∷ map leak_text rest) ≡ all = rw b at inv in
    rw (m, map-append string_bytes texts (s ∷ []), append_assoc (map string_bytes texts) (string_bytes s ∷ []) (map leak_text rest), e) f
