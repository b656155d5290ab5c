-- Links from id to id of a chain, after an id is put into a slot or taken out of one.
use Rattle.std.proofs.Common.{◌≡◌, ◌≢◌, ℕ, ◌<◌, ◌≤◌, List, length, set, Option, Some, None, refl, sym, ap, ◌∙◌, subst, ◌⊎◌, inl, inr, arith}
use Rattle.std.proofs.lemmas.Bool.{cases_eq, cases_lt}
use Rattle.std.proofs.lemmas.Option.{same_Some}
use Rattle.std.proofs.lemmas.List.{get_or-set_same, get_or-set_other}
use Rattle.gpu_block_chunks.specs.ChunkIds.{id_at, HasGreatest, LeadsTo, IsOf, IsBelow, AreLinked, NoneAbove}

-- an id that is no less, to which the link leads
pub record Reached (ids : List (Option ℕ)) (P : ℕ → Type 0) (link : Option ℕ) (k : ℕ) : Type 0 where
  pub slot : ℕ
  pub id : ℕ
  pub leads : link ≡ Some slot
  pub at : id_at ids slot ≡ Some id
  pub holds : P id
  pub no_less : k ≤ id

pub reach : (ids : List (Option ℕ)) (P : ℕ → Type 0) (link : Option ℕ) → LeadsTo ids P link → (slot k : ℕ) → id_at ids slot ≡ Some k → P k → Reached ids P link k
reach ids P None leads slot k at holds = absurd (leads slot k at holds)
reach ids P (Some s) leads slot k at holds =
    record { slot = s; id = leads.id; leads = refl; at = leads.at; holds = leads.holds; no_less = leads.greatest slot k at holds }

-- the same for a property that holds of the same ids
pub same_leads : (ids : List (Option ℕ)) (P Q : ℕ → Type 0) (link : Option ℕ) → ((k : ℕ) → P k → Q k) → ((k : ℕ) → Q k → P k) → LeadsTo ids P link → LeadsTo ids Q link
same_leads ids P Q None to from leads = λ slot k at holds. leads slot k at (from k holds)
same_leads ids P Q (Some s) to from leads =
    record { id = leads.id; at = leads.at; holds = to leads.id leads.holds; greatest = λ other k at holds. leads.greatest other k at (from k holds) }

pub same_id : (ids : List (Option ℕ)) (slot a b : ℕ) → id_at ids slot ≡ Some a → id_at ids slot ≡ Some b → a ≡ b
same_id ids slot a b at_a at_b = same_Some a b (sym at_a ∙ at_b)

-- ---- an id is put into a slot without one
module _ (ids : List (Option ℕ)) (s k : ℕ) (within : s < length ids) (vacant : id_at ids s ≡ None) where
  pub was : (t m : ℕ) → id_at (set ids s (Some k)) t ≡ Some m → ((t ≡ s) × (m ≡ k)) ⊎ (id_at ids t ≡ Some m)
  was t m at =
      elim (cases_eq t s) as (λ _. ((t ≡ s) × (m ≡ k)) ⊎ (id_at ids t ≡ Some m)) [
        | inl is ↦ inl (is, same_Some m k (sym at ∙ ap (λ (u : ℕ). id_at (set ids s (Some k)) u) is ∙ get_or-set_same ids s (Some k) None within))
        | inr ne ↦ inr (sym (get_or-set_other ids s t (Some k) None ne) ∙ at)
      ]

  here : id_at (set ids s (Some k)) s ≡ Some k
  here = get_or-set_same ids s (Some k) None within

  another : (t m : ℕ) → id_at ids t ≡ Some m → t ≢ s
  another t m at = λ (is : t ≡ s). let no : None ≡ Some m = sym vacant ∙ ap (id_at ids) (sym is) ∙ at in cc

  still : (t m : ℕ) → id_at ids t ≡ Some m → id_at (set ids s (Some k)) t ≡ Some m
  still t m at = get_or-set_other ids s t (Some k) None (another t m at) ∙ at

  -- a link that leads past it
  put_past : (P : ℕ → Type 0) (link : Option ℕ) → LeadsTo ids P link → (P k → Reached ids P link k) → LeadsTo (set ids s (Some k)) P link
  put_past P None leads past = λ t m at holds.
      elim (was t m at) as (λ _. ⊥) [
        | inl e ↦ let r = past (subst P e.1 holds) in let no = r.leads in cc
        | inr old ↦ leads t m old holds
      ]
  put_past P (Some t) leads past =
      record {
        id = leads.id;
        at = still t leads.id leads.at;
        holds = leads.holds;
        greatest = λ u m at holds.
            elim (was u m at) as (λ _. m ≤ leads.id) [
              | inl e ↦
                  let r = past (subst P e.1 holds) in
                  let there = subst (λ (v : ℕ). id_at ids v ≡ Some r.id) (same_Some r.slot t (sym r.leads)) r.at in
                  let one = same_id ids t r.id leads.id there leads.at in
                  let more = r.no_less in
                  let is = e.1 in
                  omega arith
              | inr old ↦ leads.greatest u m old holds
            ];
      }

  -- the link that leads to it now
  put_first : (P : ℕ → Type 0) (link : Option ℕ) → LeadsTo ids P link → P k → NoneAbove ids link k → LeadsTo (set ids s (Some k)) P (Some s)
  put_first P link leads holds none =
      record {
        id = k;
        at = here;
        holds = holds;
        greatest = λ u m at h.
            elim (was u m at) as (λ _. m ≤ k) [
              | inl e ↦ let is = e.1 in omega arith
              | inr old ↦ let r = reach ids P link leads u m old h in let more = r.no_less in let less = none r.slot r.id r.leads r.at in omega arith
            ];
      }

  -- the link that was there leads on from it
  put_rest : (P Q : ℕ → Type 0) (link : Option ℕ) → LeadsTo ids P link → NoneAbove ids link k → ((t : ℕ) → id_at ids t ≢ Some k)
      → ((m : ℕ) → Q m → P m × (m < k)) → ((m : ℕ) → P m → m < k → Q m) → LeadsTo (set ids s (Some k)) Q link
  put_rest P Q None leads none absent to from = λ t m at holds.
      elim (was t m at) as (λ _. ⊥) [
        | inl e ↦ let is = e.1 in let less = (to m holds).1 in omega arith
        | inr old ↦ leads t m old (to m holds).0
      ]
  put_rest P Q (Some t) leads none absent to from =
      let most = none t leads.id refl leads.at in
      let below : leads.id < k = elim (cases_eq leads.id k) as (λ _. leads.id < k) [ inl is ↦ absurd (absent t (leads.at ∙ ap (λ (u : ℕ). Some u) is)) | inr ne ↦ omega arith ] in
      record {
        id = leads.id;
        at = still t leads.id leads.at;
        holds = from leads.id leads.holds below;
        greatest = λ u m at holds.
            elim (was u m at) as (λ _. m ≤ leads.id) [
              | inl e ↦ let is = e.1 in let less = (to m holds).1 in omega arith
              | inr old ↦ leads.greatest u m old (to m holds).0
            ];
      }

-- ---- an id is taken out of its slot
module _ (ids : List (Option ℕ)) (s k : ℕ) (there : id_at ids s ≡ Some k) (within : s < length ids) where
  pub left : (t m : ℕ) → id_at (set ids s None) t ≡ Some m → (t ≢ s) × (id_at ids t ≡ Some m)
  left t m at =
      elim (cases_eq t s) as (λ _. (t ≢ s) × (id_at ids t ≡ Some m)) [
        | inl is ↦ absurd (let no : None ≡ Some m = sym (get_or-set_same ids s None None within) ∙ ap (λ (u : ℕ). id_at (set ids s None) u) (sym is) ∙ at in cc)
        | inr ne ↦ (ne, sym (get_or-set_other ids s t None None ne) ∙ at)
      ]

  kept : (t m : ℕ) → t ≢ s → id_at ids t ≡ Some m → id_at (set ids s None) t ≡ Some m
  kept t m ne at = get_or-set_other ids s t None None ne ∙ at

  -- a link that does not lead to it
  out_past : (P : ℕ → Type 0) (link : Option ℕ) → link ≢ Some s → LeadsTo ids P link → LeadsTo (set ids s None) P link
  out_past P None ne leads = λ t m at holds. leads t m (left t m at).1 holds
  out_past P (Some t) ne leads =
      record {
        id = leads.id;
        at = kept t leads.id (λ (is : t ≡ s). ne (ap (λ (u : ℕ). Some u) is)) leads.at;
        holds = leads.holds;
        greatest = λ u m at holds. leads.greatest u m (left u m at).1 holds;
      }

  -- the link that led to it leads on
  out_first : (P Q : ℕ → Type 0) (next : Option ℕ) → HasGreatest ids P s → LeadsTo ids Q next → ((t : ℕ) → id_at ids t ≡ Some k → t ≡ s)
      → ((m : ℕ) → P m → m < k → Q m) → ((m : ℕ) → Q m → P m × (m < k)) → LeadsTo (set ids s None) P next
  out_first P Q next has leads alone to from = by_link next leads
    where
      lower : (t m : ℕ) → id_at (set ids s None) t ≡ Some m → P m → Q m
      lower t m at holds =
          let old = left t m at in
          let most = has.greatest t m old.1 holds in
          let mine = same_id ids s has.id k has.at there in
          to m holds (elim (cases_eq m k) as (λ _. m < k) [ inl is ↦ absurd (old.0 (alone t (old.1 ∙ ap (λ (u : ℕ). Some u) is))) | inr ne ↦ omega arith ])

      by_link : (link : Option ℕ) → LeadsTo ids Q link → LeadsTo (set ids s None) P link
      by_link None leads = λ t m at holds. leads t m (left t m at).1 (lower t m at holds)
      by_link (Some t) leads =
          let less = (from leads.id leads.holds).1 in
          record {
            id = leads.id;
            at = kept t leads.id (λ (is : t ≡ s). let one = same_id ids s leads.id k (ap (id_at ids) (sym is) ∙ leads.at) there in omega arith) leads.at;
            holds = (from leads.id leads.holds).0;
            greatest = λ u m at holds. leads.greatest u m (left u m at).1 (lower u m at holds);
          }

-- ---- two links of one chain
module _ (ids : List (Option ℕ)) (chain_of : ℕ → ℕ) (chains : ℕ) (link : ℕ → Option ℕ → Option ℕ) (linked : AreLinked ids chain_of chains link)
    (distinct : (s t k : ℕ) → id_at ids s ≡ Some k → id_at ids t ≡ Some k → s ≡ t) (chain : ℕ) (inside : chain < chains) where
  -- the id of a slot is below that of another
  under : (q n m : ℕ) → id_at ids q ≡ Some n → m < n → IsBelow ids (Some q) m
  under q n m at less = λ top e. let one = same_id ids q top n e at in omega arith

  -- where one has the place of an id, another one above that leads past it
  past : (before p : Option ℕ) (k : ℕ) → p ≢ before → IsOf ids chain_of chain before → IsBelow ids before k → NoneAbove ids (link chain before) k → IsOf ids chain_of chain p → IsBelow ids p k
      → Reached ids (λ m. (chain_of m ≡ chain) × IsBelow ids p m) (link chain p) k
  past None None k ne of below none of' below' = absurd (ne refl)
  past (Some q) None k ne of below none of' below' =
      let less = below of.0 of.1 in
      let r = reach ids _ (link chain None) (linked chain None inside tt) q of.0 of.1 (of.2, tt) in
      let more = r.no_less in
      record { slot = r.slot; id = r.id; leads = r.leads; at = r.at; holds = r.holds; no_less = omega arith }
  past None (Some q) k ne of below none of' below' =
      let less = below' of'.0 of'.1 in
      let r = reach ids _ (link chain None) (linked chain None inside tt) q of'.0 of'.1 (of'.2, tt) in
      let more = r.no_less in
      let most = none r.slot r.id r.leads r.at in
      absurd (omega arith)
  past (Some q) (Some p) k ne of below none of' below' =
      let less = below of.0 of.1 in
      let less' = below' of'.0 of'.1 in
      elim (cases_lt of.0 of'.0) as (λ _. Reached ids (λ m. (chain_of m ≡ chain) × IsBelow ids (Some p) m) (link chain (Some p)) k) [
        | inl lt ↦
            let r = reach ids _ (link chain (Some p)) (linked chain (Some p) inside of') q of.0 of.1 (of.2, under p of'.0 of.0 of'.1 lt) in
            let more = r.no_less in
            record { slot = r.slot; id = r.id; leads = r.leads; at = r.at; holds = r.holds; no_less = omega arith }
        | inr ge ↦
            elim (cases_eq of.0 of'.0) as (λ _. Reached ids (λ m. (chain_of m ≡ chain) × IsBelow ids (Some p) m) (link chain (Some p)) k) [
              | inl is ↦ absurd (ne (ap (λ (u : ℕ). Some u) (distinct p q of.0 (of'.1 ∙ ap (λ (u : ℕ). Some u) (sym is)) of.1)))
              | inr differs ↦
                  let r = reach ids _ (link chain (Some q)) (linked chain (Some q) inside of) p of'.0 of'.1 (of'.2, under q of.0 of'.0 of.1 (omega arith)) in
                  let more = r.no_less in
                  let most = none r.slot r.id r.leads r.at in
                  absurd (omega arith)
            ]
      ]

  -- one link alone leads to a slot
  only : (before p : Option ℕ) (s k : ℕ) → id_at ids s ≡ Some k → IsOf ids chain_of chain before → HasGreatest ids (λ m. (chain_of m ≡ chain) × IsBelow ids before m) s
      → IsOf ids chain_of chain p → HasGreatest ids (λ m. (chain_of m ≡ chain) × IsBelow ids p m) s → p ≡ before
  only None None s k at of has of' has' = refl
  only (Some q) None s k at of has of' has' =
      let mine = same_id ids s has.id k has.at at in
      let mine' = same_id ids s has'.id k has'.at at in
      let less = has.holds.1 of.0 of.1 in
      let most = has'.greatest q of.0 of.1 (of.2, tt) in
      absurd (omega arith)
  only None (Some p) s k at of has of' has' =
      let mine = same_id ids s has.id k has.at at in
      let mine' = same_id ids s has'.id k has'.at at in
      let less = has'.holds.1 of'.0 of'.1 in
      let most = has.greatest p of'.0 of'.1 (of'.2, tt) in
      absurd (omega arith)
  only (Some q) (Some p) s k at of has of' has' =
      let mine = same_id ids s has.id k has.at at in
      let mine' = same_id ids s has'.id k has'.at at in
      let less = has.holds.1 of.0 of.1 in
      let less' = has'.holds.1 of'.0 of'.1 in
      elim (cases_eq of.0 of'.0) as (λ _. Some p ≡ Some q) [
        | inl is ↦ ap (λ (u : ℕ). Some u) (distinct p q of.0 (of'.1 ∙ ap (λ (u : ℕ). Some u) (sym is)) of.1)
        | inr differs ↦
            elim (cases_lt of.0 of'.0) as (λ _. Some p ≡ Some q) [
              | inl lt ↦ let most = has'.greatest q of.0 of.1 (of.2, under p of'.0 of.0 of'.1 lt) in absurd (omega arith)
              | inr ge ↦ let most = has.greatest p of'.0 of'.1 (of'.2, under q of.0 of'.0 of.1 (omega arith)) in absurd (omega arith)
            ]
      ]

-- ---- all links, after one was made to lead to a new id
module _ (ids : List (Option ℕ)) (chain_of : ℕ → ℕ) (chains : ℕ) (link new : ℕ → Option ℕ → Option ℕ) (linked : AreLinked ids chain_of chains link)
    (distinct : (s t k : ℕ) → id_at ids s ≡ Some k → id_at ids t ≡ Some k → s ≡ t) (s k : ℕ) (before : Option ℕ) where
  -- the place of the id, seen from a chain that is its own
  pub record Place (chain : ℕ) : Type 0 where
    pub inside : IsOf ids chain_of chain before
    pub below : IsBelow ids before k
    pub last : NoneAbove ids (link chain before) k

  some_other : (q p : ℕ) → q ≢ p → Some q ≢ Some p
  some_other q p ne = λ (e : Some q ≡ Some p). ne (same_Some q p e)

  same_before : (p : ℕ) (other : Option ℕ) → (Some p ≡ other) ⊎ (Some p ≢ other)
  same_before p None = inr (λ (e : Some p ≡ None). cc)
  same_before p (Some q) = elim (cases_eq p q) as (λ _. (Some p ≡ Some q) ⊎ (Some p ≢ Some q)) [ inl is ↦ inl (ap (λ (u : ℕ). Some u) is) | inr ne ↦ inr (some_other p q ne) ]

  module _ (within : s < length ids) (vacant : id_at ids s ≡ None) (absent : (t : ℕ) → id_at ids t ≢ Some k) (place : Place (chain_of k))
      (first : new (chain_of k) before ≡ Some s) (rest : (chain : ℕ) → new chain (Some s) ≡ link (chain_of k) before)
      (others : (chain : ℕ) (p : Option ℕ) → p ≢ before → p ≢ Some s → new chain p ≡ link chain p) (heads : (chain : ℕ) → chain ≢ chain_of k → new chain None ≡ link chain None) where
    put_other : (chain : ℕ) (p : Option ℕ) → chain < chains → IsOf ids chain_of chain p → (chain_of k ≡ chain → p ≢ before)
        → LeadsTo (set ids s (Some k)) (λ m. (chain_of m ≡ chain) × IsBelow ids p m) (link chain p)
    put_other chain p lt of' ne =
        put_past ids s k within vacant (λ m. (chain_of m ≡ chain) × IsBelow ids p m) (link chain p) (linked chain p lt of') (λ holds.
        let here = subst Place holds.0 place in
        past ids chain_of chains link linked distinct chain lt before p k (ne holds.0) here.inside here.below here.last of' holds.1)

    put_here : (chain : ℕ) → chain < chains → chain_of k ≡ chain → LeadsTo (set ids s (Some k)) (λ m. (chain_of m ≡ chain) × IsBelow ids before m) (Some s)
    put_here chain lt is =
        let here = subst Place is place in
        put_first ids s k within vacant (λ m. (chain_of m ≡ chain) × IsBelow ids before m) (link chain before) (linked chain before lt here.inside) (is, here.below) here.last

    put_head : (chain : ℕ) → chain < chains → (other : Option ℕ) → before ≡ other → LeadsTo (set ids s (Some k)) (λ m. (chain_of m ≡ chain) × Unit {0}) (new chain None)
    put_head chain lt None is =
        elim (cases_eq chain (chain_of k)) as (λ _. LeadsTo (set ids s (Some k)) (λ m. (chain_of m ≡ chain) × Unit {0}) (new chain None)) [
          | inl same ↦
              let lead : new chain None ≡ Some s = ap (λ (c : ℕ). new c None) same ∙ ap (new (chain_of k)) (sym is) ∙ first in
              subst (LeadsTo (set ids s (Some k)) (λ m. (chain_of m ≡ chain) × Unit {0})) (sym lead)
              (subst (λ (o : Option ℕ). LeadsTo (set ids s (Some k)) (λ m. (chain_of m ≡ chain) × IsBelow ids o m) (Some s)) is (put_here chain lt (sym same)))
          | inr differs ↦
              subst (LeadsTo (set ids s (Some k)) (λ m. (chain_of m ≡ chain) × Unit {0})) (sym (heads chain differs)) (put_other chain None lt tt (λ same. absurd (differs (sym same))))
        ]
    put_head chain lt (Some q) is =
        let ne : None ≢ before = λ (e : None ≡ before). let no : None ≡ Some q = e ∙ is in cc in
        subst (LeadsTo (set ids s (Some k)) (λ m. (chain_of m ≡ chain) × Unit {0})) (sym (others chain None ne (λ (e : None ≡ Some s). cc))) (put_other chain None lt tt (λ same. ne))

    put_slot : (chain p : ℕ) → chain < chains → IsOf (set ids s (Some k)) chain_of chain (Some p) → p ≢ s
        → LeadsTo (set ids s (Some k)) (λ m. (chain_of m ≡ chain) × IsBelow ids (Some p) m) (new chain (Some p))
    put_slot chain p lt of' ne =
        let at = sym (get_or-set_other ids s p (Some k) None ne) ∙ of'.1 in
        elim (same_before p before) as (λ _. LeadsTo (set ids s (Some k)) (λ m. (chain_of m ≡ chain) × IsBelow ids (Some p) m) (new chain (Some p))) [
          | inl is ↦
              let mine = subst (λ (o : Option ℕ). IsOf ids chain_of (chain_of k) o) (sym is) place.inside in
              let one = same_id ids p mine.0 of'.0 mine.1 at in
              let same : chain_of k ≡ chain = sym mine.2 ∙ ap (λ (u : ℕ). chain_of u) one ∙ of'.2 in
              let lead : new chain (Some p) ≡ Some s = ap (λ (c : ℕ). new c (Some p)) (sym same) ∙ ap (new (chain_of k)) is ∙ first in
              subst (LeadsTo (set ids s (Some k)) (λ m. (chain_of m ≡ chain) × IsBelow ids (Some p) m)) (sym lead)
              (subst (λ (o : Option ℕ). LeadsTo (set ids s (Some k)) (λ m. (chain_of m ≡ chain) × IsBelow ids o m) (Some s)) (sym is) (put_here chain lt same))
          | inr differs ↦
              subst (LeadsTo (set ids s (Some k)) (λ m. (chain_of m ≡ chain) × IsBelow ids (Some p) m)) (sym (others chain (Some p) differs (some_other p s ne)))
              (put_other chain (Some p) lt (of'.0, at, of'.2) (λ same. differs))
        ]

    put_after : (chain : ℕ) → chain < chains → IsOf (set ids s (Some k)) chain_of chain (Some s)
        → LeadsTo (set ids s (Some k)) (λ m. (chain_of m ≡ chain) × IsBelow (set ids s (Some k)) (Some s) m) (new chain (Some s))
    put_after chain lt of' =
        let mine = same_id (set ids s (Some k)) s of'.0 k of'.1 (here ids s k within vacant) in
        let same : chain_of k ≡ chain = ap (λ (u : ℕ). chain_of u) (sym mine) ∙ of'.2 in
        let at = subst Place same place in
        let lead : new chain (Some s) ≡ link chain before = rest chain ∙ ap (λ (c : ℕ). link c before) same in
        subst (LeadsTo (set ids s (Some k)) (λ m. (chain_of m ≡ chain) × IsBelow (set ids s (Some k)) (Some s) m)) (sym lead)
        (put_rest ids s k within vacant (λ m. (chain_of m ≡ chain) × IsBelow ids before m) (λ m. (chain_of m ≡ chain) × IsBelow (set ids s (Some k)) (Some s) m) (link chain before)
        (linked chain before lt at.inside) at.last absent
        (λ m q. ((q.0, lower before at.below m (q.1 k (here ids s k within vacant))), q.1 k (here ids s k within vacant)))
        (λ m holds less. (holds.0, λ top e. let one = same_id (set ids s (Some k)) s top k e (here ids s k within vacant) in omega arith)))
      where
        lower : (o : Option ℕ) → IsBelow ids o k → (m : ℕ) → m < k → IsBelow ids o m
        lower None below m less = tt
        lower (Some q) below m less = λ top e. let more = below top e in omega arith

    pub inserted : AreLinked (set ids s (Some k)) chain_of chains new
    inserted chain None lt of' = put_head chain lt before refl
    inserted chain (Some p) lt of' =
        elim (cases_eq p s) as (λ _. LeadsTo (set ids s (Some k)) (λ m. (chain_of m ≡ chain) × IsBelow (set ids s (Some k)) (Some p) m) (new chain (Some p))) [
          | inl is ↦
              subst (λ (u : ℕ). LeadsTo (set ids s (Some k)) (λ m. (chain_of m ≡ chain) × IsBelow (set ids s (Some k)) (Some u) m) (new chain (Some u))) (sym is)
              (put_after chain lt (subst (λ (u : ℕ). IsOf (set ids s (Some k)) chain_of chain (Some u)) is of'))
          | inr ne ↦
              same_leads (set ids s (Some k)) _ _ (new chain (Some p))
              (λ m holds. (holds.0, λ top e. holds.1 top (sym (get_or-set_other ids s p (Some k) None ne) ∙ e)))
              (λ m holds. (holds.0, λ top e. holds.1 top (get_or-set_other ids s p (Some k) None ne ∙ e)))
              (put_slot chain p lt of' ne)
        ]

  -- ---- or one was made to lead past an id that is no longer there
  module _ (within : s < length ids) (there : id_at ids s ≡ Some k) (inside : IsOf ids chain_of (chain_of k) before) (led : link (chain_of k) before ≡ Some s) (bound : chain_of k < chains)
      (first : new (chain_of k) before ≡ link (chain_of k) (Some s)) (others : (chain : ℕ) (p : Option ℕ) → p ≢ before → p ≢ Some s → new chain p ≡ link chain p)
      (heads : (chain : ℕ) → chain ≢ chain_of k → new chain None ≡ link chain None) where
    has : (chain : ℕ) (p : Option ℕ) → chain < chains → IsOf ids chain_of chain p → link chain p ≡ Some s → HasGreatest ids (λ m. (chain_of m ≡ chain) × IsBelow ids p m) s
    has chain p lt of' leads = subst (LeadsTo ids (λ m. (chain_of m ≡ chain) × IsBelow ids p m)) leads (linked chain p lt of')

    out_other : (chain : ℕ) (p : Option ℕ) → chain < chains → IsOf ids chain_of chain p → (chain_of k ≡ chain → p ≢ before)
        → LeadsTo (set ids s None) (λ m. (chain_of m ≡ chain) × IsBelow ids p m) (link chain p)
    out_other chain p lt of' ne =
        out_past ids s k there within (λ m. (chain_of m ≡ chain) × IsBelow ids p m) (link chain p)
        (λ (leads : link chain p ≡ Some s).
        let mine = has chain p lt of' leads in
        let one = same_id ids s mine.id k mine.at there in
        let same : chain_of k ≡ chain = ap (λ (u : ℕ). chain_of u) (sym one) ∙ mine.holds.0 in
        let at = subst (λ (c : ℕ). IsOf ids chain_of c before) same inside in
        let before_leads = subst (λ (c : ℕ). link c before ≡ Some s) same led in
        ne same (only ids chain_of chains link linked distinct chain lt before p s k there at (has chain before lt at before_leads) of' mine))
        (linked chain p lt of')

    out_here : LeadsTo (set ids s None) (λ m. (chain_of m ≡ chain_of k) × IsBelow ids before m) (link (chain_of k) (Some s))
    out_here =
        let mine = has (chain_of k) before bound inside led in
        let one = same_id ids s mine.id k mine.at there in
        out_first ids s k there within (λ m. (chain_of m ≡ chain_of k) × IsBelow ids before m) (λ m. (chain_of m ≡ chain_of k) × IsBelow ids (Some s) m) (link (chain_of k) (Some s))
        mine (linked (chain_of k) (Some s) bound (k, there, refl)) (λ t at. distinct t s k at there)
        (λ m holds less. (holds.0, λ top e. let same = same_id ids s top k e there in omega arith))
        (λ m q. ((q.0, lower before (subst (IsBelow ids before) one mine.holds.1) m (q.1 k there)), q.1 k there))
      where
        lower : (o : Option ℕ) → IsBelow ids o k → (m : ℕ) → m < k → IsBelow ids o m
        lower None below m less = tt
        lower (Some q) below m less = λ top e. let more = below top e in omega arith

    out_chain : (chain : ℕ) → chain_of k ≡ chain → (p : Option ℕ) → p ≡ before → LeadsTo (set ids s None) (λ m. (chain_of m ≡ chain) × IsBelow ids p m) (new chain p)
    out_chain chain same p is =
        subst (λ (c : ℕ). LeadsTo (set ids s None) (λ m. (chain_of m ≡ c) × IsBelow ids p m) (new c p)) same
        (subst (λ (o : Option ℕ). LeadsTo (set ids s None) (λ m. (chain_of m ≡ chain_of k) × IsBelow ids o m) (new (chain_of k) o)) (sym is)
        (subst (LeadsTo (set ids s None) (λ m. (chain_of m ≡ chain_of k) × IsBelow ids before m)) (sym first) out_here))

    out_head : (chain : ℕ) → chain < chains → (other : Option ℕ) → before ≡ other → LeadsTo (set ids s None) (λ m. (chain_of m ≡ chain) × Unit {0}) (new chain None)
    out_head chain lt None is =
        elim (cases_eq chain (chain_of k)) as (λ _. LeadsTo (set ids s None) (λ m. (chain_of m ≡ chain) × Unit {0}) (new chain None)) [
          | inl same ↦ out_chain chain (sym same) None (sym is)
          | inr differs ↦ subst (LeadsTo (set ids s None) (λ m. (chain_of m ≡ chain) × Unit {0})) (sym (heads chain differs)) (out_other chain None lt tt (λ same. absurd (differs (sym same))))
        ]
    out_head chain lt (Some q) is =
        let ne : None ≢ before = λ (e : None ≡ before). let no : None ≡ Some q = e ∙ is in cc in
        subst (LeadsTo (set ids s None) (λ m. (chain_of m ≡ chain) × Unit {0})) (sym (others chain None ne (λ (e : None ≡ Some s). cc))) (out_other chain None lt tt (λ same. ne))

    out_slot : (chain p : ℕ) → chain < chains → IsOf ids chain_of chain (Some p) → p ≢ s → LeadsTo (set ids s None) (λ m. (chain_of m ≡ chain) × IsBelow ids (Some p) m) (new chain (Some p))
    out_slot chain p lt of' ne =
        elim (same_before p before) as (λ _. LeadsTo (set ids s None) (λ m. (chain_of m ≡ chain) × IsBelow ids (Some p) m) (new chain (Some p))) [
          | inl is ↦
              let mine = subst (λ (o : Option ℕ). IsOf ids chain_of (chain_of k) o) (sym is) inside in
              let one = same_id ids p mine.0 of'.0 mine.1 of'.1 in
              out_chain chain (sym mine.2 ∙ ap (λ (u : ℕ). chain_of u) one ∙ of'.2) (Some p) is
          | inr differs ↦
              subst (LeadsTo (set ids s None) (λ m. (chain_of m ≡ chain) × IsBelow ids (Some p) m)) (sym (others chain (Some p) differs (some_other p s ne)))
              (out_other chain (Some p) lt of' (λ same. differs))
        ]

    pub removed : AreLinked (set ids s None) chain_of chains new
    removed chain None lt of' = out_head chain lt before refl
    removed chain (Some p) lt of' =
        let old = left ids s k there within p of'.0 of'.1 in
        same_leads (set ids s None) _ _ (new chain (Some p))
        (λ m holds. (holds.0, λ top e. holds.1 top (left ids s k there within p top e).1))
        (λ m holds. (holds.0, λ top e. holds.1 top (get_or-set_other ids s p None None old.0 ∙ e)))
        (out_slot chain p lt (of'.0, old.1, of'.2) old.0)
