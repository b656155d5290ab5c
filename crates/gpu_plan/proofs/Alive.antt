-- What is alive in a pass, and that most of it is alive where a life begins.
use Rattle.std.proofs.Common.{◌≡◌, ◌∙◌, refl, sym, ap, subst, ℕ, suc, ◌+◌, ◌<◌, ◌≤◌, ◌⊎◌, inl, inr, if◌then◌else◌, true, false, List, [], ◌∷◌, length, get_or, take, arith}
use Rattle.std.specs.Prelude.{All, Contains, nat_le}
use Rattle.std.proofs.lemmas.Bool.{le-leb, lt-leb, leb-true, and_parts, and_from, and_left, and_right, cases_lt, cases_Bool, both_ways}
use Rattle.std.proofs.lemmas.List.{get_or_default}
use Rattle.std.proofs.lemmas.List.Sums.{sum_by-cons, sum_by_more}
use Rattle.std.proofs.lemmas.List.Elements.{All-nil, All-cons, All-head, All-tail, All-contains}
use Rattle.gpu_plan.specs.declared.resource.Resource.{Resource}
use Rattle.gpu_plan.specs.declared.passes.Start.{Start}
use Rattle.gpu_plan.specs.Plan.{no_resource, resource_at}
use Rattle.gpu_plan.specs.Passes.{is_alive, bytes_alive, AreTrue, HasStart, AreStarts, IsPeak, IsBusiest}

pub alive_in : (pass : ℕ) (r : Resource) → r.first ≤ pass → pass ≤ r.last → is_alive pass r ≡ true
alive_in pass r begun going = and_from (nat_le r.first pass) (nat_le pass r.last) (le-leb r.first pass begun) (le-leb pass r.last going)

pub alive_from : (pass : ℕ) (r : Resource) → is_alive pass r ≡ true → (r.first ≤ pass) × (pass ≤ r.last)
alive_from pass r e =
    let parts = and_parts (nat_le r.first pass) (nat_le pass r.last) e in
    (leb-true r.first pass parts.0, leb-true pass r.last parts.1)

pub dead_before : (pass : ℕ) (r : Resource) → pass < r.first → is_alive pass r ≡ false
dead_before pass r lt = and_left (nat_le r.first pass) (nat_le pass r.last) (lt-leb r.first pass lt)

pub dead_after : (pass : ℕ) (r : Resource) → r.last < pass → is_alive pass r ≡ false
dead_after pass r lt = and_right (nat_le r.first pass) (nat_le pass r.last) (lt-leb pass r.last lt)

-- what a resource adds to a pass
abbrev pub adds : (pass : ℕ) → Resource → ℕ
adds pass r = if is_alive pass r then r.size else 0

pub adds_alive : (pass : ℕ) (r : Resource) → is_alive pass r ≡ true → adds pass r ≡ r.size
adds_alive pass r e = rw e refl

pub adds_none : (pass : ℕ) (r : Resource) → is_alive pass r ≡ false → adds pass r ≡ 0
adds_none pass r e = rw e refl

pub alive_more : (resources : List Resource) (pass i : ℕ) (d : Resource) → i < length resources → bytes_alive (take (i + 1) resources) pass ≡ bytes_alive (take i resources) pass + adds pass (get_or resources i d)
alive_more resources pass i d lt = sum_by_more (adds pass) resources i d lt

-- where all that are alive in p are alive in q
pub alive_le : (p q : ℕ) (resources : List Resource) → All (λ r. is_alive p r ≡ true → is_alive q r ≡ true) resources → bytes_alive resources p ≤ bytes_alive resources q
alive_le p q [] all = omega arith
alive_le p q (r ∷ rs) all =
    let rest = alive_le p q rs (All-tail (λ r. is_alive p r ≡ true → is_alive q r ≡ true) r rs all) in
    let a = sum_by-cons (adds p) r rs in
    let b = sum_by-cons (adds q) r rs in
    elim (cases_Bool (is_alive p r)) [
      | inl alive_here ↦
          let x = adds_alive p r alive_here in
          let y = adds_alive q r (All-head (λ r. is_alive p r ≡ true → is_alive q r ≡ true) r rs all alive_here) in
          omega (arith, rest, a, b, x, y)
      | inr dead ↦ let x = adds_none p r dead in omega (arith, rest, a, b, x)
    ]

pub alive_none : (p : ℕ) (resources : List Resource) → All (λ r. is_alive p r ≡ false) resources → bytes_alive resources p ≡ 0
alive_none p [] all = refl
alive_none p (r ∷ rs) all =
    let rest = alive_none p rs (All-tail (λ r. is_alive p r ≡ false) r rs all) in
    let a = sum_by-cons (adds p) r rs in
    let x = adds_none p r (All-head (λ r. is_alive p r ≡ false) r rs all) in
    omega (arith, rest, a, x)

-- of those alive in a pass, one whose life began last
pub record Latest (resources : List Resource) (pass : ℕ) : Type 0 where
  pub index : ℕ
  pub here : index < length resources
  pub one : Resource
  pub is : (d : Resource) → get_or resources index d ≡ one
  pub alive : is_alive pass one ≡ true
  pub last : All (λ r. is_alive pass r ≡ true → r.first ≤ one.first) resources

pub latest : (pass : ℕ) (resources : List Resource) → All (λ r. is_alive pass r ≡ false) resources ⊎ Latest resources pass
latest pass [] = inl (All-nil (λ r. is_alive pass r ≡ false))
latest pass (r ∷ rs) = elim (cases_Bool (is_alive pass r)) [
  | inr dead ↦ elim (latest pass rs) [
    | inl none ↦ inl (All-cons (λ r. is_alive pass r ≡ false) r rs dead none)
    | inr l ↦ inr (record {
      index = suc l.index;
      here = let h = l.here in omega arith;
      one = l.one;
      is = λ d. l.is d;
      alive = l.alive;
      last = All-cons (λ r. is_alive pass r ≡ true → r.first ≤ l.one.first) r rs (λ alive_here. absurd (both_ways (is_alive pass r) dead alive_here)) l.last;
    })
  ]
  | inl here ↦ elim (latest pass rs) [
    | inl none ↦ inr (record {
      index = 0;
      here = omega arith;
      one = r;
      is = λ d. refl;
      alive = here;
      last = All-cons (λ s. is_alive pass s ≡ true → s.first ≤ r.first) r rs (λ alive_here. omega arith) (λ k d lt alive_here. absurd (both_ways (is_alive pass (get_or rs k d)) (none k d lt) alive_here));
    })
    | inr l ↦ elim (cases_lt r.first l.one.first) [
      | inl lt ↦ inr (record {
        index = suc l.index;
        here = let h = l.here in omega arith;
        one = l.one;
        is = λ d. l.is d;
        alive = l.alive;
        last = All-cons (λ r. is_alive pass r ≡ true → r.first ≤ l.one.first) r rs (λ alive_here. omega arith) l.last;
      })
      | inr ge ↦ inr (record {
        index = 0;
        here = omega arith;
        one = r;
        is = λ d. refl;
        alive = here;
        last = All-cons (λ s. is_alive pass s ≡ true → s.first ≤ r.first) r rs (λ alive_here. omega arith) (λ k d lt alive_here. let h = l.last k d lt alive_here in omega arith);
      })
    ]
  ]
]

-- where its life began at least as much is alive
pub latest_most : (resources : List Resource) (pass : ℕ) (l : Latest resources pass) → bytes_alive resources pass ≤ bytes_alive resources l.one.first
latest_most resources pass l = alive_le pass l.one.first resources (λ k d lt alive_here.
    let begun = l.last k d lt alive_here in
    let on = alive_from pass l.one l.alive in
    let up = alive_from pass (get_or resources k d) alive_here in
    alive_in l.one.first (get_or resources k d) begun (omega arith))

-- the bytes at the pass of a start that is there
pub start_bytes : (resources : List Resource) (starts : List Start) (pass : ℕ) (h : HasStart starts pass) → AreTrue resources starts → h.start.bytes ≡ bytes_alive resources pass
start_bytes resources starts pass h told =
    All-contains (λ (s : Start). s.bytes ≡ bytes_alive resources s.pass) starts h.start told h.listed ∙ ap (λ (p : ℕ). bytes_alive resources p) h.at

-- where the life began that began last of those alive in a pass
has_latest : (resources : List Resource) (starts : List Start) (pass : ℕ) (l : Latest resources pass) → AreStarts resources starts → HasStart starts l.one.first
has_latest resources starts pass l are = subst (λ (r : Resource). HasStart starts r.first) (l.is l.one) (are.each l.index l.one l.here)

-- what is known of the greatest start
pub peak_is : (resources : List Resource) (starts : List Start) (bytes : ℕ) → AreStarts resources starts → All (λ s. s.bytes ≤ bytes) starts
    → (bytes ≡ 0) ⊎ ((k : ℕ) × (k < length starts) × ((d : Start) → (get_or starts k d).bytes ≡ bytes)) → IsPeak resources bytes
peak_is resources starts bytes are below met =
    let most : (pass : ℕ) → bytes_alive resources pass ≤ bytes = λ pass. elim (latest pass resources) [
      | inl none ↦ let e = alive_none pass resources none in omega arith
      | inr l ↦
          let up = latest_most resources pass l in
          let h = has_latest resources starts pass l are in
          let at = start_bytes resources starts l.one.first h are.told in
          let here = All-contains (λ (s : Start). s.bytes ≤ bytes) starts h.start below h.listed in
          omega arith
    ] in
    elim met [
      | inl none ↦ record { most = most; pass = 0; met = let m = most 0 in omega arith }
      | inr one ↦
          let d : Start = record { pass = 0; bytes = 0 } in
          record { most = most; pass = (get_or starts one.0 d).pass; met = sym (are.told one.0 d one.1) ∙ one.2 d }
    ]

-- the best start of a life among the first ones
pub record IsBestStart (starts : List Start) (first last i : ℕ) (best : Start) : Type 0 where
  pub begun : first ≤ best.pass
  pub going : first ≤ last → best.pass ≤ last
  pub told : (resources : List Resource) → AreTrue resources starts → HasStart starts first → best.bytes ≡ bytes_alive resources best.pass
  pub most : (k : ℕ) (d : Start) → k < i → first ≤ (get_or starts k d).pass → (get_or starts k d).pass ≤ last
      → ((get_or starts k d).bytes < best.bytes) ⊎ (((get_or starts k d).bytes ≡ best.bytes) × (best.pass ≤ (get_or starts k d).pass))

-- the start is in the life and better
abbrev pub IsBusier : (first last : ℕ) → Start → Start → Type 0
IsBusier first last start than = (first ≤ start.pass) × (start.pass ≤ last) × ((than.bytes < start.bytes) ⊎ ((start.bytes ≡ than.bytes) × (start.pass < than.pass)))

pub best_first : (starts : List Start) (first last : ℕ) (best : Start) → best.pass ≡ first → ((resources : List Resource) → AreTrue resources starts → HasStart starts first → best.bytes ≡ bytes_alive resources first) → IsBestStart starts first last 0 best
best_first starts first last best at told = record {
  begun = omega arith;
  going = λ le. omega arith;
  told = λ resources true has. told resources true has ∙ ap (λ (p : ℕ). bytes_alive resources p) (sym at);
  most = λ k e none. absurd (omega arith);
}

pub best_new : (starts : List Start) (first last i : ℕ) (best d : Start) → i < length starts → IsBestStart starts first last i best → IsBusier first last (get_or starts i d) best → IsBestStart starts first last (i + 1) (get_or starts i d)
best_new starts first last i best d lt b better = record {
  begun = better.0;
  going = λ le. better.1;
  told = λ resources true has. true i d lt;
  most = λ k e below from to. elim (cases_lt k i) [
    | inl low ↦ let was = b.most k e low from to in elim was [
      | inl less ↦ elim better.2 [ inl up ↦ inl (omega arith) | inr eq ↦ let a = eq.0 in inl (omega arith) ]
      | inr same ↦ let a = same.0 in let c = same.1 in elim better.2 [ inl up ↦ inl (omega arith) | inr eq ↦ let x = eq.0 in let y = eq.1 in inr (omega arith, omega arith) ]
    ]
    | inr high ↦
        let k_is : k ≡ i = omega arith in
        let here : get_or starts k e ≡ get_or starts i d = ap (λ (j : ℕ). get_or starts j e) k_is ∙ get_or_default starts i e d lt in
        let a : (get_or starts k e).bytes ≡ (get_or starts i d).bytes = ap (λ (s : Start). s.bytes) here in
        let c : (get_or starts k e).pass ≡ (get_or starts i d).pass = ap (λ (s : Start). s.pass) here in
        inr (a, omega arith)
  ];
}

pub best_old : (starts : List Start) (first last i : ℕ) (best d : Start) → i < length starts → IsBestStart starts first last i best → (IsBusier first last (get_or starts i d) best → ⊥) → IsBestStart starts first last (i + 1) best
best_old starts first last i best d lt b not = record {
  begun = b.begun;
  going = b.going;
  told = b.told;
  most = λ k e below from to. elim (cases_lt k i) [
    | inl low ↦ b.most k e low from to
    | inr high ↦
        let k_is : k ≡ i = omega arith in
        let here : get_or starts k e ≡ get_or starts i d = ap (λ (j : ℕ). get_or starts j e) k_is ∙ get_or_default starts i e d lt in
        let a : (get_or starts k e).bytes ≡ (get_or starts i d).bytes = ap (λ (s : Start). s.bytes) here in
        let c : (get_or starts k e).pass ≡ (get_or starts i d).pass = ap (λ (s : Start). s.pass) here in
        elim (cases_lt (get_or starts k e).bytes best.bytes) [
          | inl less ↦ inl less
          | inr ge ↦ elim (cases_lt best.bytes (get_or starts k e).bytes) [
            | inl up ↦ absurd (not (omega arith, omega arith, inl (omega arith)))
            | inr le ↦ elim (cases_lt (get_or starts k e).pass best.pass) [
              | inl before ↦ absurd (not (omega arith, omega arith, inr (omega arith, omega arith)))
              | inr after ↦ inr (omega arith, after)
            ]
          ]
        ]
  ];
}

-- the best one beside one of the list
most_of : (starts : List Start) (first last i : ℕ) (best : Start) → IsBestStart starts first last i best → length starts ≤ i → (s : Start) → Contains starts s → first ≤ s.pass → s.pass ≤ last → (s.bytes < best.bytes) ⊎ ((s.bytes ≡ best.bytes) × (best.pass ≤ s.pass))
most_of starts first last i best b all s listed = All-contains (λ (x : Start). first ≤ x.pass → x.pass ≤ last → (x.bytes < best.bytes) ⊎ ((x.bytes ≡ best.bytes) × (best.pass ≤ x.pass))) starts s (λ k d lt from to. b.most k d (omega arith) from to) listed

-- what is known of the best start in a life
pub busiest_is : (resources : List Resource) (starts : List Start) (index i : ℕ) (best : Start) → AreStarts resources starts → index < length resources → (resource_at resources index).first ≤ (resource_at resources index).last
    → length starts ≤ i → IsBestStart starts (resource_at resources index).first (resource_at resources index).last i best → IsBusiest resources (resource_at resources index) best.pass × (best.bytes ≡ bytes_alive resources best.pass)
busiest_is resources starts index i best_one are here lives all b =
    let pass : ℕ = best_one.pass in
    let bytes : ℕ = best_one.bytes in
    let begun = b.begun in
    let going = b.going lives in
    let r : Resource = resource_at resources index in
    let bytes_is : bytes ≡ bytes_alive resources pass = b.told resources are.told (are.each index no_resource here) in
    let reach : (p : ℕ) → r.first ≤ p → p ≤ r.last → (q : ℕ) × (q ≤ p) × (bytes_alive resources p ≤ bytes_alive resources q) × ((bytes_alive resources q < bytes) ⊎ ((bytes_alive resources q ≡ bytes) × (pass ≤ q))) =
    λ p from to. elim (latest p resources) [
      | inl none ↦ absurd (both_ways (is_alive p r) (none index no_resource here) (alive_in p r from to))
      | inr l ↦
          let up = latest_most resources p l in
          let on = alive_from p l.one l.alive in
          let low = l.last index no_resource here (alive_in p r from to) in
          let h = has_latest resources starts p l are in
          let e_pass = h.at in
          let e_bytes = start_bytes resources starts l.one.first h are.told in
          let m = most_of starts r.first r.last i best_one b all h.start h.listed (omega arith) (omega arith) in (
            l.one.first,
            on.0,
            up,
            elim m [
              | inl lt ↦ inl (omega arith)
              | inr eq ↦ let e1 = eq.0 in let e2 = eq.1 in inr (omega arith, omega arith)
            ],
          )
    ] in (
      record {
        begun = begun;
        going = going;
        most = λ p from to. let x = reach p from to in let up = x.2 in elim x.3 [ inl lt ↦ omega arith | inr eq ↦ let e1 = eq.0 in omega arith ];
        first = λ p from lt. let x = reach p from (omega arith) in let low = x.1 in let up = x.2 in elim x.3 [ inl less ↦ omega arith | inr eq ↦ let e2 = eq.1 in absurd (omega arith) ];
      },
      bytes_is,
    )

pub busiest_from : (resources : List Resource) (starts : List Start) (first last index i : ℕ) (best : Start) → AreStarts resources starts → index < length resources → (resource_at resources index).first ≡ first → (resource_at resources index).last ≡ last
    → first ≤ last → length starts ≤ i → IsBestStart starts first last i best → IsBusiest resources (resource_at resources index) best.pass × (best.bytes ≡ bytes_alive resources best.pass)
busiest_from resources starts first last index i best are here begins ends lives all b =
    let at_first : IsBestStart starts (resource_at resources index).first last i best = subst (λ (f : ℕ). IsBestStart starts f last i best) (sym begins) b in
    let at_last : IsBestStart starts (resource_at resources index).first (resource_at resources index).last i best = subst (λ (l : ℕ). IsBestStart starts (resource_at resources index).first l i best) (sym ends) at_first in
    busiest_is resources starts index i best are here (omega arith) all at_last
