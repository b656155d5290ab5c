-- The text of a value, part by part, which reads back as the value.
use Rattle.std.proofs.Common.{◌≡◌, ℕ, ◌≤◌, Bool, true, false, cond, ◌&&◌, List, [], ◌∷◌, ◌++◌, Some, refl, sym, ap, ◌∙◌, append_assoc, append-nil}
use Rattle.json.specs.Token.{Token}
use Rattle.json.specs.Json.{Json, null, boolean, number, string, array, object, Items, no_items, item, Members, no_members, member, max_depth, document}
use Rattle.json.specs.Print.{quoted, token_text, print_from, print}
use Rattle.json.specs.Tree.{json_tokens, items_tokens, members_tokens, depth, HasNumbers}
use Rattle.json.proofs.Printed.Trees.{document-print}

abbrev pub comma : Bool → List ℕ
comma after = cond after (44 ∷ []) []

-- the text of a value, and what follows it; of items and members with the closing bracket, and whether some stand before them
abbrev mutual
  pub text_of : Json → List ℕ → List ℕ
  text_of null rest = token_text Token.null ++ rest
  text_of (boolean b) rest = token_text (Token.boolean b) ++ rest
  text_of (number s) rest = s ++ rest
  text_of (string s) rest = quoted s ++ rest
  text_of (array js) rest = 91 ∷ items_text false js rest
  text_of (object ms) rest = 123 ∷ members_text false ms rest

  pub items_text : Bool → Items → List ℕ → List ℕ
  items_text after no_items rest = 93 ∷ rest
  items_text after (item j js) rest = comma after ++ text_of j (items_text true js rest)

  pub members_text : Bool → Members → List ℕ → List ℕ
  members_text after no_members rest = 125 ∷ rest
  members_text after (member k j ms) rest = comma after ++ (quoted k ++ (58 ∷ text_of j (members_text true ms rest)))

begun : (after : Bool) (xs : List ℕ) → cond (after && true) (44 ∷ []) [] ++ xs ≡ comma after ++ xs
begun true xs = refl
begun false xs = refl

closed : (after : Bool) (xs : List ℕ) → cond (after && false) (44 ∷ []) [] ++ xs ≡ xs
closed true xs = refl
closed false xs = refl

mutual
  unfolding print_from

  print-value : (j : Json) (after : Bool) (ts : List Token) → print_from after (json_tokens j ++ ts) ≡ comma after ++ text_of j (print_from true ts)
  print-value null after ts = begun after _
  print-value (boolean b) after ts = begun after _
  print-value (number s) after ts = begun after _
  print-value (string s) after ts = begun after _
  print-value (array js) after ts = begun after _ ∙ ap (λ l. comma after ++ (91 ∷ l)) (print-items js false ts)
  print-value (object ms) after ts = begun after _ ∙ ap (λ l. comma after ++ (123 ∷ l)) (print-members ms false ts)

  print-items : (js : Items) (after : Bool) (ts : List Token) → print_from after (items_tokens js ++ ts) ≡ items_text after js (print_from true ts)
  print-items no_items after ts = closed after _
  print-items (item j js) after ts =
      ap (print_from after) (append_assoc (json_tokens j) (items_tokens js) ts)
      ∙ print-value j after (items_tokens js ++ ts)
      ∙ ap (λ l. comma after ++ text_of j l) (print-items js true ts)

  print-members : (ms : Members) (after : Bool) (ts : List Token) → print_from after (members_tokens ms ++ ts) ≡ members_text after ms (print_from true ts)
  print-members no_members after ts = closed after _
  print-members (member k j ms) after ts =
      begun after _
      ∙ ap (λ l. comma after ++ l) (append_assoc (quoted k) (58 ∷ []) _)
      ∙ ap (λ l. comma after ++ (quoted k ++ (58 ∷ print_from false l))) (append_assoc (json_tokens j) (members_tokens ms) ts)
      ∙ ap (λ l. comma after ++ (quoted k ++ (58 ∷ l))) (print-value j false (members_tokens ms ++ ts))
      ∙ ap (λ l. comma after ++ (quoted k ++ (58 ∷ text_of j l))) (print-members ms true ts)

print-text : (j : Json) → print (json_tokens j) ≡ text_of j []
unfolding print_from
print-text j = ap print (sym (append-nil (json_tokens j))) ∙ print-value j false []

-- the text of a value reads back as that value
pub document-text : (j : Json) → HasNumbers j → depth j ≤ max_depth → document (text_of j []) ≡ Some j
document-text j numbers shallow = ap document (sym (print-text j)) ∙ document-print j numbers shallow

-- ---- what follows stands behind

mutual
  text_of-append : (j : Json) (rest more : List ℕ) → text_of j (rest ++ more) ≡ text_of j rest ++ more
  text_of-append null rest more = refl
  text_of-append (boolean true) rest more = refl
  text_of-append (boolean false) rest more = refl
  text_of-append (number s) rest more = sym (append_assoc s rest more)
  text_of-append (string s) rest more = sym (append_assoc (quoted s) rest more)
  text_of-append (array js) rest more = ap (λ l. 91 ∷ l) (items-append js false rest more)
  text_of-append (object ms) rest more = ap (λ l. 123 ∷ l) (members-append ms false rest more)

  items-append : (js : Items) (after : Bool) (rest more : List ℕ) → items_text after js (rest ++ more) ≡ items_text after js rest ++ more
  items-append no_items after rest more = refl
  items-append (item j js) after rest more =
      ap (λ l. comma after ++ text_of j l) (items-append js true rest more)
      ∙ ap (λ l. comma after ++ l) (text_of-append j (items_text true js rest) more)
      ∙ sym (append_assoc (comma after) _ more)

  members-append : (ms : Members) (after : Bool) (rest more : List ℕ) → members_text after ms (rest ++ more) ≡ members_text after ms rest ++ more
  members-append no_members after rest more = refl
  members-append (member k j ms) after rest more =
      ap (λ l. comma after ++ (quoted k ++ (58 ∷ text_of j l))) (members-append ms true rest more)
      ∙ ap (λ l. comma after ++ (quoted k ++ (58 ∷ l))) (text_of-append j (members_text true ms rest) more)
      ∙ ap (λ l. comma after ++ l) (sym (append_assoc (quoted k) _ more))
      ∙ sym (append_assoc (comma after) _ more)

pub text-then : (j : Json) (more : List ℕ) → text_of j more ≡ text_of j [] ++ more
text-then j more = text_of-append j [] more
