-- Rows in pages.
use Rattle.std.proofs.Common.{◌≡◌, ℕ, zero, suc, ◌+◌, ◌-◌, ◌*◌, ◌<◌, ◌≤◌, min, List, [], ◌∷◌, ◌++◌, length, get_or, set, vec_len, vec_capacity}
use Rattle.std.proofs.Common.{sym, ◌∙◌, ap, subst, arith, append_assoc, append-nil, length-append}
use Rattle.std.proofs.lemmas.List.{nil_from_length, get_or_append_left, get_or-append_right, set-append_left, set-append_right}
use Rattle.std.specs.declared.alloc.Global.{Global}
use Rattle.std.specs.declared.vec.Vec.{Vec}
use Rattle.gpu_rows.specs.Pages.{rows_of, ArePages}

module _ {T : Type 0} where
  -- the pages have as many rows as they say
  pub length-rows : (size held : ℕ) (pages : List (Vec T Global)) (rows : ℕ) → ArePages size held pages rows → length (rows_of pages) ≡ rows
  length-rows size held [] rows h = sym h
  length-rows size held (p ∷ pages) rows h = omega (arith, length-append p.items (rows_of pages), length-rows size held pages (rows - size) h.2, p.ok.0, h.0)

  -- pages without rows
  pub rows_none : (size held : ℕ) (pages : List (Vec T Global)) → ArePages size held pages 0 → rows_of pages ≡ []
  rows_none size held pages h = nil_from_length (rows_of pages) (length-rows size held pages 0 h)

  -- the page of a place within the room
  pub page_there : (size : ℕ) (pages : List (Vec T Global)) (i q r : ℕ) → i < size * length pages → i ≡ size * q + r → q < length pages
  page_there size [] i q r lt e = absurd (omega arith)
  page_there size (p ∷ pages) i zero r lt e = omega arith
  page_there size (p ∷ pages) i (suc q) r lt e = let rest : q < length pages = page_there size pages (i - size) q r (omega arith) (omega arith) in omega arith

  -- how many rows a page has
  pub page_at : (size held : ℕ) (pages : List (Vec T Global)) (rows q : ℕ) (page : Vec T Global) → ArePages size held pages rows → q < length pages → page ≡ get_or pages q page
      → (vec_len page ≡ min size (rows - size * q)) × (held ≤ vec_capacity page)
  page_at size held [] rows q page h lt e = absurd (omega arith)
  page_at size held (p ∷ pages) rows zero page h lt e = (ap vec_len e ∙ omega (arith, h.0), omega (arith, ap vec_capacity e, h.1))
  page_at size held (p ∷ pages) rows (suc q) page h lt e = let rest = page_at size held pages (rows - size) q page h.2 (omega arith) e in (omega (arith, rest.0), rest.1)

  -- a row in its page
  pub row_at : (size held : ℕ) (pages : List (Vec T Global)) (rows i q r : ℕ) (page : Vec T Global) (x : T) → ArePages size held pages rows → i < rows → i ≡ size * q + r → r < size
      → page ≡ get_or pages q page → x ≡ get_or page.items r x → x ≡ get_or (rows_of pages) i x
  row_at size held [] rows i q r page x h lt e in_page at found = absurd (omega (arith, h))
  row_at size held (p ∷ pages) rows i zero r page x h lt e in_page at found =
      let same : i ≡ r = omega arith in
      let within : i < length p.items = omega (arith, p.ok.0, h.0) in
      found ∙ ap (λ (v : Vec T Global). get_or v.items r x) at ∙ ap (λ (k : ℕ). get_or p.items k x) (sym same) ∙ sym (get_or_append_left p.items (rows_of pages) x i within)
  row_at size held (p ∷ pages) rows i (suc q) r page x h lt e in_page at found =
      let full : length p.items ≡ size = omega (arith, p.ok.0, h.0) in
      row_at size held pages (rows - size) (i - size) q r page x h.2 (omega arith) (omega arith) in_page at found
      ∙ sym (get_or-append_right p.items (rows_of pages) size i x full (omega arith))

  -- another page with so many rows that the pages behind it have as many as before
  pub set_page : (size held : ℕ) (pages : List (Vec T Global)) (rows now q : ℕ) (page : Vec T Global) → ArePages size held pages rows → q < length pages → size * q ≤ rows → size * q ≤ now
      → rows - size * (q + 1) ≡ now - size * (q + 1) → vec_len page ≡ min size (now - size * q) → held ≤ vec_capacity page → ArePages size held (set pages q page) now
  set_page size held [] rows now q page h lt from to same has wide = absurd (omega arith)
  set_page size held (p ∷ pages) rows now zero page h lt from to same has wide =
      let behind : rows - size ≡ now - size = omega arith in
      (omega arith, wide, subst (ArePages size held pages) behind h.2)
  set_page size held (p ∷ pages) rows now (suc q) page h lt from to same has wide =
      (omega (arith, h.0), h.1, set_page size held pages (rows - size) (now - size) q page h.2 (omega arith) (omega arith) (omega arith) (omega arith) (omega arith) wide)

  -- a row is written
  pub rows_set : (size held : ℕ) (pages : List (Vec T Global)) (rows i q r : ℕ) (old page : Vec T Global) (x : T) → ArePages size held pages rows → i < rows → i ≡ size * q + r → r < size
      → old ≡ get_or pages q old → page.items ≡ set old.items r x → rows_of (set pages q page) ≡ set (rows_of pages) i x
  rows_set size held [] rows i q r old page x h lt e in_page at written = absurd (omega (arith, h))
  rows_set size held (p ∷ pages) rows i zero r old page x h lt e in_page at written =
      let same : i ≡ r = omega arith in
      let within : i < length p.items = omega (arith, p.ok.0, h.0) in
      ap (λ (xs : List T). xs ++ rows_of pages) (written ∙ ap (λ (v : Vec T Global). set v.items r x) at ∙ ap (λ (k : ℕ). set p.items k x) (sym same))
      ∙ sym (set-append_left p.items (rows_of pages) i x within)
  rows_set size held (p ∷ pages) rows i (suc q) r old page x h lt e in_page at written =
      let full : length p.items ≡ size = omega (arith, p.ok.0, h.0) in
      ap (λ (xs : List T). p.items ++ xs) (rows_set size held pages (rows - size) (i - size) q r old page x h.2 (omega arith) (omega arith) in_page at written)
      ∙ sym (set-append_right p.items (rows_of pages) size i x full (omega arith))

  -- one more row
  pub rows_push : (size held : ℕ) (pages : List (Vec T Global)) (rows q r : ℕ) (old page : Vec T Global) (x : T) → ArePages size held pages rows → rows ≡ size * q + r → r < size
      → q < length pages → old ≡ get_or pages q old → page.items ≡ old.items ++ x ∷ [] → rows_of (set pages q page) ≡ rows_of pages ++ x ∷ []
  rows_push size held [] rows q r old page x h e in_page lt at written = absurd (omega arith)
  rows_push size held (p ∷ pages) rows zero r old page x h e in_page lt at written =
      let behind : rows - size ≡ 0 = omega arith in
      let none : rows_of pages ≡ [] = rows_none size held pages (subst (ArePages size held pages) behind h.2) in
      ap (λ (xs : List T). xs ++ rows_of pages) (written ∙ ap (λ (v : Vec T Global). v.items ++ x ∷ []) at)
      ∙ ap (λ (xs : List T). p.items ++ x ∷ [] ++ xs) none ∙ append-nil (p.items ++ x ∷ [])
      ∙ ap (λ (xs : List T). xs ++ x ∷ []) (sym (append-nil p.items) ∙ ap (λ (xs : List T). p.items ++ xs) (sym none))
  rows_push size held (p ∷ pages) rows (suc q) r old page x h e in_page lt at written =
      ap (λ (xs : List T). p.items ++ xs) (rows_push size held pages (rows - size) q r old page x h.2 (omega arith) in_page (omega arith) at written)
      ∙ sym (append_assoc p.items (rows_of pages) (x ∷ []))

  -- the last row is taken out
  pub rows_pop : (size held : ℕ) (pages : List (Vec T Global)) (rows q r : ℕ) (old page : Vec T Global) (x : T) → ArePages size held pages rows → rows ≡ size * q + r + 1 → r < size
      → q < length pages → old ≡ get_or pages q old → old.items ≡ page.items ++ x ∷ [] → rows_of pages ≡ rows_of (set pages q page) ++ x ∷ []
  rows_pop size held [] rows q r old page x h e in_page lt at taken = absurd (omega arith)
  rows_pop size held (p ∷ pages) rows zero r old page x h e in_page lt at taken =
      let behind : rows - size ≡ 0 = omega arith in
      let none : rows_of pages ≡ [] = rows_none size held pages (subst (ArePages size held pages) behind h.2) in
      ap (λ (xs : List T). xs ++ rows_of pages) (ap (λ (v : Vec T Global). v.items) (sym at) ∙ taken)
      ∙ ap (λ (xs : List T). page.items ++ x ∷ [] ++ xs) none ∙ append-nil (page.items ++ x ∷ [])
      ∙ ap (λ (xs : List T). xs ++ x ∷ []) (sym (append-nil page.items) ∙ ap (λ (xs : List T). page.items ++ xs) (sym none))
  rows_pop size held (p ∷ pages) rows (suc q) r old page x h e in_page lt at taken =
      ap (λ (xs : List T). p.items ++ xs) (rows_pop size held pages (rows - size) q r old page x h.2 (omega arith) in_page (omega arith) at taken)
      ∙ sym (append_assoc p.items (rows_of (set pages q page)) (x ∷ []))

  -- one more page without rows
  pub pages_more : (size held : ℕ) (pages : List (Vec T Global)) (rows : ℕ) (page : Vec T Global) → ArePages size held pages rows → vec_len page ≡ 0 → held ≤ vec_capacity page
      → ArePages size held (pages ++ page ∷ []) rows
  pages_more size held [] rows page h none wide = (omega (arith, h, none), wide, omega (arith, h))
  pages_more size held (p ∷ pages) rows page h none wide = (h.0, h.1, pages_more size held pages (rows - size) page h.2 none wide)

  pub rows_more : (pages : List (Vec T Global)) (page : Vec T Global) → page.items ≡ [] → rows_of (pages ++ page ∷ []) ≡ rows_of pages
  rows_more [] page none = ap (λ (xs : List T). xs ++ []) none
  rows_more (p ∷ pages) page none = ap (λ (xs : List T). p.items ++ xs) (rows_more pages page none)
