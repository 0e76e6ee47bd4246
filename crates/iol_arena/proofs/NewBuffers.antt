-- Buffers made on pending parts: the pages that they take, and those that become free again.
use Rattle.std.proofs.Common.{◌≡◌, true, ℕ, zero, suc, ◌+◌, ◌-◌, ◌*◌, ◌<◌, ◌≤◌, ◌⊎◌, inl, inr, List, [], ◌∷◌, ◌++◌}
use Rattle.std.proofs.Common.{length, get_or, map, take, drop, min, refl, sym, ap, ◌∙◌, arith, subst}
use Rattle.std.specs.List.{All, Contains, range_with_len}
use Rattle.std.proofs.lemmas.Bool.{cases_lt}
use Rattle.iol_arena.specs.State.{State, entry_at, entry_in, generation_at, pages_for, marked, each_from, with_marked}
use Rattle.iol_arena.specs.State.{is_free}
use Rattle.iol_arena.specs.Buffers.{len_of, kind_len}
use Rattle.iol_arena.specs.Chunks.{IsRisingFrom, usable}
use Rattle.iol_arena.specs.Parts.{IsAll, AreAll, AreApart, IsSameAround, no_part, part_pages}
use Rattle.iol_arena.specs.WriteSteps.{published_part, published_entries}
use Rattle.iol_arena.specs.Adds.{IsNew}
use Rattle.iol_arena.specs.Pages.{IsSameBut, AreUsable, Raises, MadeOn, begun_on}
use Rattle.iol_arena.specs.declared.pages.PageKind.TheVariants.{Free, Pending, Head, Tail}
use Rattle.iol_arena.specs.declared.pages.Entry.{Entry}
use Rattle.iol_arena.specs.declared.pages.Part.{Part}
use Rattle.iol_core.specs.declared.numbers.BufId.{BufId}
use Rattle.iol_arena.proofs.Each.{order, length-each_from, each_before, each_after, each_there, generation-each_from}
use Rattle.iol_arena.proofs.Marks.{pages_some, pages_fit, published_before, published_after}
use Rattle.iol_arena.proofs.MarkedParts.{usable_left, pages-more, before_part, all_same}
use Rattle.iol_arena.proofs.Steps.{all_at}
use Rattle.std.proofs.lemmas.List.{append-nil, map-append, take_more}
use Rattle.std.proofs.lemmas.Grind.{flat_map-append}
use Rattle.iol_arena.proofs.Keeps.{published_first}
use Rattle.iol_arena.proofs.Members.{In, in_left, in_right, in_either, in_or_out, in_range, range_in, in_rising}
use Rattle.iol_arena.proofs.Members.{rising_range, rising_from, contains_in, in_contains}

-- Pages for n bytes.

pub pages_split : (n c : ℕ) → c * 4096 ≤ n → pages_for n ≡ c + pages_for (n - c * 4096)
unfolding pages_for
pages_split n c h = omega arith

pub pages_whole : (c : ℕ) → pages_for (c * 4096) ≡ c
unfolding pages_for
pages_whole c = omega arith

pub pages_none : pages_for 0 ≡ 0
unfolding pages_for
pages_none = refl

-- the runs that n bytes take: whole parts, and the first pages of the last
abbrev pub needed : List Part → ℕ → List Part
needed [] n = []
needed (p ∷ ps) zero = []
needed (p ∷ ps) (suc n) = record { first = p.first; count = pages_for (min (suc n) (p.count * 4096)) }
    ∷ needed ps (suc n - p.count * 4096)

needed-none : (ps : List Part) → needed ps 0 ≡ []
needed-none [] = refl
needed-none (p ∷ ps) = refl

-- the number of n bytes for which the parts have no room
abbrev pub left_after : List Part → ℕ → ℕ
left_after [] n = n
left_after (p ∷ ps) n = left_after ps (n - p.count * 4096)

left_none : (ps : List Part) → left_after ps 0 ≡ 0
left_none [] = refl
left_none (p ∷ ps) = let e : 0 - p.count * 4096 ≡ 0 = omega arith in ap (left_after ps) e ∙ left_none ps

left-snoc : (ps : List Part) (p : Part) (n : ℕ) → left_after (ps ++ p ∷ []) n ≡ left_after ps n - p.count * 4096
left-snoc [] p n = refl
left-snoc (r ∷ ps) p n = left-snoc ps p (n - r.count * 4096)

needed-snoc : (ps : List Part) (p : Part) (n : ℕ)
    → needed (ps ++ p ∷ []) n ≡ needed ps n ++ needed (p ∷ []) (left_after ps n)
needed-snoc [] p n = refl
needed-snoc (r ∷ ps) p zero = sym (ap (needed (p ∷ [])) (left_none (r ∷ ps)))
needed-snoc (r ∷ ps) p (suc n) =
    ap (λ t. (let x : Part = record { first = r.first; count = pages_for (min (suc n) (r.count * 4096)) } in x) ∷ t)
    (needed-snoc ps p (suc n - r.count * 4096))

pub left-more : (ps : List Part) (i n : ℕ) → i < length ps
    → left_after (take (i + 1) ps) n ≡ left_after (take i ps) n - (get_or ps i no_part).count * 4096
left-more ps i n h = ap (λ l. left_after l n) (take_more ps i no_part h) ∙ left-snoc (take i ps) (get_or ps i no_part) n

needed-more : (ps : List Part) (i n : ℕ) → i < length ps → needed (take (i + 1) ps) n ≡ needed (take i ps) n
    ++ needed (get_or ps i no_part ∷ []) (left_after (take i ps) n)
needed-more ps i n h = ap (λ l. needed l n) (take_more ps i no_part h) ∙ needed-snoc (take i ps) (get_or ps i no_part) n

-- if bytes are left, the next part adds a run; otherwise it adds none
pub needed_some : (ps : List Part) (i n left here : ℕ) → i < length ps → left ≡ left_after (take i ps) n → 0 < left
    → here ≡ min left ((get_or ps i no_part).count * 4096)
    → needed (take (i + 1) ps) n ≡ needed (take i ps) n
    ++ (let r : Part = record { first = (get_or ps i no_part).first; count = pages_for here } in r) ∷ []
needed_some ps i n zero here h e some is = absurd (omega arith)
needed_some ps i n (suc left) here h e some is =
    let p = get_or ps i no_part in
    needed-more ps i n h ∙ ap (λ k. needed (take i ps) n ++ needed (p ∷ []) k) (sym e)
    ∙ ap (λ k. needed (take i ps) n ++ (let r : Part = record { first = p.first; count = pages_for k } in r) ∷ [])
    (sym is)

pub needed_past : (ps : List Part) (i n : ℕ) → i < length ps → left_after (take i ps) n ≡ 0
    → needed (take (i + 1) ps) n ≡ needed (take i ps) n ++ []
needed_past ps i n h e = needed-more ps i n h ∙ ap (λ k. needed (take i ps) n ++ needed (get_or ps i no_part ∷ []) k) e

-- the bytes fit in the first part, or they fill it
first_case : (n c : ℕ) → ((suc n < c * 4096) × (min (suc n) (c * 4096) ≡ suc n) × (suc n - c * 4096 ≡ 0))
    ⊎ ((c * 4096 ≤ suc n) × (min (suc n) (c * 4096) ≡ c * 4096))
first_case n c = elim (cases_lt (suc n) (c * 4096)) [
  | inl few ↦ inl (few, omega (arith, few), omega (arith, few))
  | inr many ↦ inr (many, omega (arith, many))
]

-- The first pages of a run and of the pages after it.

take-range_less : (k a c : ℕ) (rest : List ℕ) → k ≤ c → take k (range_with_len a c ++ rest) ≡ range_with_len a k
take-range_less zero a c rest h = refl
take-range_less (suc k) a zero rest h = absurd (omega arith)
take-range_less (suc k) a (suc c) rest h = ap (λ t. a ∷ t) (take-range_less k (a + 1) c rest (omega arith))

take-range_more : (c m a : ℕ) (rest : List ℕ) → take (c + m) (range_with_len a c ++ rest) ≡ range_with_len a c
    ++ take m rest
take-range_more zero m a rest = let e : 0 + m ≡ m = omega arith in ap (λ k. take k rest) e
take-range_more (suc c) m a rest = let e : suc c + m ≡ suc (c + m) = omega arith in
    rw e (ap (λ t. a ∷ t) (take-range_more c m (a + 1) rest))

take-nil : (m : ℕ) → take m (let l : List ℕ = [] in l) ≡ []
take-nil zero = refl
take-nil (suc m) = refl

-- the runs cover the first pages of the parts
pub cover : (ps : List Part) (n : ℕ) → part_pages (needed ps n) ≡ take (pages_for n) (part_pages ps)
cover [] n = sym (take-nil (pages_for n))
cover (p ∷ ps) zero = ap (λ k. take k (part_pages (p ∷ ps))) (sym pages_none)
cover (p ∷ ps) (suc n) =
    let here : ℕ = min (suc n) (p.count * 4096) in
    let left : ℕ = suc n - p.count * 4096 in
    elim (first_case n p.count) [
      | inl few ↦ (
          let k : pages_for here ≡ pages_for (suc n) = ap pages_for few.1 in
          let fit = pages_fit (suc n) p.count (omega (arith, few.0)) in
          ap (λ m. range_with_len p.first (pages_for here) ++ part_pages (needed ps m)) few.2
          ∙ ap (λ l. range_with_len p.first (pages_for here) ++ part_pages l) (needed-none ps)
          ∙ append-nil (range_with_len p.first (pages_for here))
          ∙ ap (range_with_len p.first) k
          ∙ sym (take-range_less (pages_for (suc n)) p.first p.count (part_pages ps) fit))
      | inr many ↦ (
          let k : pages_for here ≡ p.count = ap pages_for many.1 ∙ pages_whole p.count in
          ap (λ m. range_with_len p.first m ++ part_pages (needed ps left)) k
          ∙ ap (λ l. range_with_len p.first p.count ++ l) (cover ps left)
          ∙ sym (take-range_more p.count (pages_for left) p.first (part_pages ps))
          ∙ ap (λ m. take m (part_pages (p ∷ ps))) (sym (pages_split (suc n) p.count many.0)))
    ]

-- the runs are apart if the parts are
pub needed_apart : (low : ℕ) (ps : List Part) (n : ℕ) → AreApart low ps → AreApart low (needed ps n)
needed_apart low [] n apart = tt
needed_apart low (p ∷ ps) zero apart = tt
needed_apart low (p ∷ ps) (suc n) apart =
    let here : ℕ = min (suc n) (p.count * 4096) in
    let left : ℕ = suc n - p.count * 4096 in
    let some : 0 < here = omega (arith, apart.0.some) in
    let fit = pages_fit here p.count (omega arith) in (
      record {
        rising = apart.0.rising;
        some = pages_some here some;
        chunk = omega (arith, apart.0.chunk, fit);
        apart =
            apart.0.apart;
      },
      elim (first_case n p.count) [
        | inl few ↦ subst (λ l. AreApart (p.first + pages_for here) l) (sym (ap (needed ps) few.2 ∙ needed-none ps)) tt
        | inr many ↦
            subst (λ k. AreApart (p.first + k) (needed ps left)) (sym (ap pages_for many.1 ∙ pages_whole p.count))
            (needed_apart (p.first + p.count) ps left apart.1)
      ],
    )

-- a page of the runs is a page of the parts
needed_in : (ps : List Part) (n q : ℕ) → In (part_pages (needed ps n)) q → In (part_pages ps) q
needed_in [] n q h = h
needed_in (p ∷ ps) zero q h = absurd h
needed_in (p ∷ ps) (suc n) q h =
    let here : ℕ = min (suc n) (p.count * 4096) in
    elim (in_either (range_with_len p.first (pages_for here)) (part_pages (needed ps (suc n - p.count * 4096))) q h) [
      | inl k ↦
          (let r = range_in p.first (pages_for here) q k in
          in_left (range_with_len p.first p.count) (part_pages ps) q
          (in_range p.first p.count q r.0 (omega (arith, r.1, pages_fit here p.count (omega arith)))))
      | inr k ↦ in_right (range_with_len p.first p.count) (part_pages ps) q (needed_in ps (suc n - p.count * 4096) q k)
    ]

-- the pages of parts rise
pub pages_rising : (low : ℕ) (ps : List Part) → AreApart low ps → IsRisingFrom low (part_pages ps)
pages_rising low [] apart = tt
pages_rising low (p ∷ ps) apart =
    rising_from low p.first (part_pages (p ∷ ps)) apart.0.rising
    (rising_range p.first p.count (part_pages ps) (pages_rising (p.first + p.count) ps apart.1))

in_drop : (k : ℕ) (xs : List ℕ) (q : ℕ) → In (drop k xs) q → In xs q
in_drop zero xs q h = h
in_drop (suc k) [] q h = h
in_drop (suc k) (x ∷ xs) q h = inr (in_drop k xs q h)

-- an element dropped from a rising list is not among those taken
drop_out : (low k : ℕ) (xs : List ℕ) (q : ℕ) → IsRisingFrom low xs → In (drop k xs) q → In (take k xs) q → ⊥
drop_out low zero xs q rising h t = t
drop_out low (suc k) [] q rising h t = t
drop_out low (suc k) (x ∷ xs) q rising h (inl e) =
    (let r = in_rising (x + 1) xs q rising.1 (in_drop k xs q h) in omega (arith, r, e))
drop_out low (suc k) (x ∷ xs) q rising h (inr t) = drop_out (x + 1) k xs q rising.1 h t

-- One part is published.

module _ (s : State) (p : Part) (n : ℕ) (all : IsAll Pending s.limit s.entries p) (some : 0 < n)
    (fit : n ≤ p.count * 4096) where
  abbrev t : State
  t = published_part s p n

  -- the pages of the buffer are raised
  part_incremented : (q : ℕ) → p.first ≤ q → q < p.first + pages_for n → generation_at t q ≡ generation_at s q + 1
  unfolding published_entries
  part_incremented q lo hi =
      let k = pages_for n in
      let es = s.entries in
      let k1 = pages_some n some in
      let k2 = pages_fit n p.count fit in
      let tails = each_from (p.first + 1) (k - 1) (marked (Tail p.first) 1) es in
      let heads = each_from p.first 1 (marked (Head n) 1) tails in
      let long1 = length-each_from (marked (Tail p.first) 1) (p.first + 1) (k - 1) es in
      let rest = each_before (marked Free 0) (p.first + k) (p.count - k) q heads hi in
      elim (order p.first 1 q) [
        | inl h ↦ absurd (omega arith)
        | inr r ↦ elim r [
          | inl h ↦
              ap (λ e. e.generation) (rest
              ∙ each_there (marked (Head n) 1) p.first 1 q tails h.0 h.1 (omega (arith, all.within)))
              ∙ ap (λ e. e.generation + 1)
              (each_before (marked (Tail p.first) 1) (p.first + 1) (k - 1) q es (omega (arith, h.1)))
          | inr h ↦ ap (λ e. e.generation) (rest ∙ each_after (marked (Head n) 1) p.first 1 q tails h
              ∙ each_there (marked (Tail p.first) 1) (p.first + 1) (k - 1) q es h (omega arith)
              (omega (arith, all.within)))
        ]
      ]

  -- the other pages become free, unraised
  part_left : (q : ℕ) → p.first + pages_for n ≤ q → q < p.first + p.count → entry_at t q ≡ marked Free 0 (entry_at s q)
  unfolding published_entries
  part_left q lo hi =
      let k = pages_for n in
      let es = s.entries in
      let k1 = pages_some n some in
      let tails = each_from (p.first + 1) (k - 1) (marked (Tail p.first) 1) es in
      let heads = each_from p.first 1 (marked (Head n) 1) tails in
      let long1 = length-each_from (marked (Tail p.first) 1) (p.first + 1) (k - 1) es in
      let long2 = length-each_from (marked (Head n) 1) p.first 1 tails in
      each_there (marked Free 0) (p.first + k) (p.count - k) q heads lo (omega arith)
      (omega (arith, long1, long2, all.within))
      ∙ ap (λ e. marked Free 0 e) (each_after (marked (Head n) 1) p.first 1 q tails (omega arith)
      ∙ each_after (marked (Tail p.first) 1) (p.first + 1) (k - 1) q es (omega arith))

  part_out : (q : ℕ) → (In (range_with_len p.first p.count) q → ⊥) → entry_at t q ≡ entry_at s q
  part_out q out = elim (order p.first p.count q) [
    | inl h ↦ published_before s.entries p n q h
    | inr r ↦ elim r [
      | inl h ↦ absurd (out (in_range p.first p.count q h.0 h.1))
      | inr h ↦ published_after s.entries p n q some fit h
    ]
  ]

  pub part_whole : kind_len (entry_at t p.first).kind ≡ n
  part_whole = ap (λ e. kind_len e.kind) (published_first s.entries p n some (omega (arith, all.within, some, fit)))

-- The change of one part from t to u; the runs are the pages of it that were filled.
pub record OnPart (t u : State) (p : Part) (runs : List Part) : Type 0 where
  pub inside : (q : ℕ) → In (part_pages runs) q → In (range_with_len p.first p.count) q
  pub out : (q : ℕ) → (In (range_with_len p.first p.count) q → ⊥) → entry_at u q ≡ entry_at t q
  pub incremented : (q : ℕ) → In (part_pages runs) q → generation_at u q ≡ generation_at t q + 1
  pub kept : (q : ℕ) → (In (part_pages runs) q → ⊥) → generation_at u q ≡ generation_at t q
  pub back : (q : ℕ) → In (range_with_len p.first p.count) q → (In (part_pages runs) q → ⊥) → usable u q ≡ true

pub one_run : (r : Part) (q : ℕ) → In (part_pages (r ∷ [])) q → In (range_with_len r.first r.count) q
one_run r q h = subst (λ l. In l q) (append-nil (range_with_len r.first r.count)) h

pub run_one : (r : Part) (q : ℕ) → In (range_with_len r.first r.count) q → In (part_pages (r ∷ [])) q
run_one r q h = subst (λ l. In l q) (sym (append-nil (range_with_len r.first r.count))) h

-- bytes are published on a part
pub part_published : (s : State) (p : Part) (n : ℕ) → IsAll Pending s.limit s.entries p → 0 < n → n ≤ p.count * 4096
    → OnPart s (published_part s p n) p ((let r : Part = record { first = p.first; count = pages_for n } in r) ∷ [])
part_published s p n all some fit =
    let r : Part = record { first = p.first; count = pages_for n } in
    let few = pages_fit n p.count fit in
    let out = part_out s p n all some fit in
    let left : (q : ℕ) → p.first ≤ q → q < p.first + p.count → (In (part_pages (r ∷ [])) q → ⊥)
    → entry_at (published_part s p n) q ≡ marked Free 0 (entry_at s q) =
    λ q lo hi off. elim (cases_lt q (p.first + pages_for n)) [
      | inl on ↦ absurd (off (run_one r q (in_range p.first (pages_for n) q lo on)))
      | inr past ↦ part_left s p n all some fit q past hi
    ] in
    record {
      inside =
          λ q h. (let k = range_in p.first (pages_for n) q (one_run r q h) in
          in_range p.first p.count q k.0 (omega (arith, k.1, few)));
      out = out;
      incremented =
          λ q h. (let k = range_in p.first (pages_for n) q (one_run r q h) in
          part_incremented s p n all some fit q k.0 k.1);
      kept = λ q off. elim (in_or_out (range_with_len p.first p.count) q) [
        | inl a ↦ (let k = range_in p.first p.count q a in ap (λ e. e.generation) (left q k.0 k.1 off) ∙ omega arith)
        | inr a ↦ ap (λ e. e.generation) (out q a)
      ];
      back = λ q a off. (let k = range_in p.first p.count q a in ap (λ e. is_free s.limit e) (left q k.0 k.1 off)
          ∙ usable_left s.limit (entry_at s q) (all.below q k.0 k.1));
    }

-- a part is filled whole
pub part_filled : (t u : State) (p : Part) → IsSameAround p t u → Raises t u (part_pages (p ∷ []))
    → OnPart t u p (p ∷ [])
part_filled t u p around raises = record {
  inside = one_run p;
  out = λ q off. around.each q (elim (order p.first p.count q) [
    | inl h ↦ inl h
    | inr r ↦ elim r [ inl h ↦ absurd (off (in_range p.first p.count q h.0 h.1)) | inr h ↦ inr h ]
  ]);
  incremented = λ q h. raises.incremented q (contains_in (part_pages (p ∷ [])) q h);
  kept = λ q off. raises.kept q (λ h. off (in_contains (part_pages (p ∷ [])) q h));
  back = λ q a off. absurd (off (run_one p q a));
}

-- no byte is published on a part
pub part_dropped : (s : State) (p : Part) → IsAll Pending s.limit s.entries p
    → OnPart s (with_marked s p.first p.count Free 0) p []
part_dropped s p all = record {
  inside = λ q h. elim h [ ];
  out = λ q off. elim (order p.first p.count q) [
    | inl h ↦ each_before (marked Free 0) p.first p.count q s.entries h
    | inr r ↦ elim r [
      | inl h ↦ absurd (off (in_range p.first p.count q h.0 h.1))
      | inr h ↦
          each_after (marked Free 0) p.first p.count q s.entries h
    ]
  ];
  incremented = λ q h. elim h [ ];
  kept = λ q off. generation-each_from (marked Free 0) (λ e. omega arith) p.first p.count q s.entries;
  back = λ q a off. (
      let k = range_in p.first p.count q a in
      ap (λ e. is_free s.limit e)
      (each_there (marked Free 0) p.first p.count q s.entries k.0 k.1 (omega (arith, k.1, all.within)))
      ∙ usable_left s.limit (entry_at s q) (all.below q k.0 k.1));
}

-- Parts on which the first n bytes were placed, one after another.

-- the runs that the bytes need were filled, each by the buffer that begins there; the rest of the parts is free, and no
-- other page changed
pub record Placed (s t : State) (bufs : List BufId) (ps : List Part) (n : ℕ) : Type 0 where
  pub begun : bufs ≡ map (begun_on s) (needed ps n)
  pub whole : map (λ b. pages_for (len_of t b)) bufs ≡ map (λ p. p.count) (needed ps n)
  pub incremented : (q : ℕ) → In (part_pages (needed ps n)) q → generation_at t q ≡ generation_at s q + 1
  pub kept : (q : ℕ) → (In (part_pages (needed ps n)) q → ⊥) → generation_at t q ≡ generation_at s q
  pub others : (q : ℕ) → (In (part_pages ps) q → ⊥) → entry_at t q ≡ entry_at s q
  pub back : (q : ℕ) → In (part_pages ps) q → (In (part_pages (needed ps n)) q → ⊥) → usable t q ≡ true

pub placed_none : (s : State) (n : ℕ) → Placed s s [] [] n
placed_none s n = record {
  begun = refl;
  whole = refl;
  incremented = λ q h. elim h [ ];
  kept = λ q h. refl;
  others =
      λ q h. refl;
  back = λ q h. elim h [ ];
}

-- new buffers begin on pages that changed
pub new_places : {s t : State} (pages : List ℕ) (bufs : List BufId)
    → ((q : ℕ) → (In pages q → ⊥) → entry_at t q ≡ entry_at s q) → All (IsNew s t) bufs
    → All (λ b. In pages b.page) bufs
new_places {s = s} pages bufs others new = λ k d h.
    let b = get_or bufs k d in
    let x = new k d h in
    elim (in_or_out pages b.page) [
      | inl there ↦ there
      | inr out ↦ absurd (omega (arith, x.live.generation, x.next, ap (λ e. e.generation) (others b.page out)))
    ]

map_same : (f g : BufId → ℕ) (xs : List BufId) → All (λ x. f x ≡ g x) xs → map f xs ≡ map g xs
map_same f g [] same = refl
map_same f g (x ∷ xs) same =
    let first = same 0 x (omega arith) in
    let rest = map_same f g xs (λ k d h. same (suc k) d (omega arith)) in
    λ i. first i ∷ rest i

-- one more part
module _ (s t : State) (ps : List Part) (i n : ℕ) (bufs : List BufId) (apart : AreApart 0 ps) (h : i < length ps)
    (m : Placed s t bufs (take i ps) n) where
  abbrev p : Part
  p = get_or ps i no_part

  abbrev so_far : List ℕ
  so_far = part_pages (take i ps)

  abbrev here : List ℕ
  here = range_with_len p.first p.count

  -- the next part is unchanged
  pub still_same : (q : ℕ) → (get_or ps i no_part).first ≤ q → entry_at t q ≡ entry_at s q
  still_same q lo = m.others q (λ a. (let r = before_part 0 ps i q apart h a in omega (arith, r, lo)))

  pub still_waits : AreAll Pending s.limit s.entries ps → t.limit ≡ s.limit → length t.entries ≡ length s.entries
      → IsAll Pending t.limit t.entries (get_or ps i no_part)
  still_waits all limit long =
      all_same Pending s t p limit long still_same (all_at Pending s.limit s.entries ps i all h)

  away : (q : ℕ) → In so_far q → In here q → ⊥
  away q a b = (let k = range_in p.first p.count q b in omega (arith, before_part 0 ps i q apart h a, k.0))

  pub placed_more : (u : State) (more : List BufId) (rs : List Part) → All (IsNew s t) bufs → u.limit ≡ t.limit
      → OnPart t u (get_or ps i no_part) rs → needed (take (i + 1) ps) n ≡ needed (take i ps) n ++ rs
      → more ≡ map (begun_on s) rs → map (λ b. pages_for (len_of u b)) more ≡ map (λ r. r.count) rs
      → Placed s u (bufs ++ more) (take (i + 1) ps) n
  placed_more u more rs new limit o needs begins fill =
      let was = needed (take i ps) n in
      let old = part_pages was in
      let add = part_pages rs in
      let all = ap part_pages needs ∙ flat_map-append (λ (r : Part). range_with_len r.first r.count) was rs in
      let pages = pages-more ps i h in
      let left : (q : ℕ) → In old q → In (part_pages (needed (take (i + 1) ps) n)) q =
      λ q a. subst (λ l. In l q) (sym all) (in_left old add q a) in
      let right : (q : ℕ) → In add q → In (part_pages (needed (take (i + 1) ps) n)) q =
      λ q a. subst (λ l. In l q) (sym all) (in_right old add q a) in
      let lens : List BufId → List ℕ = map (λ b. pages_for (len_of u b)) in
      record {
        begun = ap (λ l. bufs ++ l) begins ∙ ap (λ l. l ++ map (begun_on s) rs) m.begun
            ∙ sym (map-append (begun_on s) was rs) ∙ ap (map (begun_on s)) (sym needs);
        whole = map-append (λ b. pages_for (len_of u b)) bufs more ∙ ap (λ l. l ++ lens more)
            (map_same (λ b. pages_for (len_of u b)) (λ b. pages_for (len_of t b)) bufs
            (λ k d lt. ap (λ e. pages_for (kind_len e.kind))
            (o.out (get_or bufs k d).page
            (away (get_or bufs k d).page (new_places so_far bufs m.others new k d lt)))))
            ∙ ap (λ l. l ++ lens more) m.whole ∙ ap (λ l. map (λ (r : Part). r.count) was ++ l) fill
            ∙ sym (map-append (λ (r : Part). r.count) was rs) ∙ ap (map (λ (r : Part). r.count)) (sym needs);
        incremented = λ q a. elim (in_either old add q (subst (λ l. In l q) all a)) [
          | inl b ↦ o.kept q (λ r. away q (needed_in (take i ps) n q b) (o.inside q r)) ∙ m.incremented q b
          | inr b ↦ o.incremented q b
              ∙ ap (λ g. g + 1) (m.kept q (λ r. away q (needed_in (take i ps) n q r) (o.inside q b)))
        ];
        kept = λ q off. o.kept q (λ b. off (right q b)) ∙ m.kept q (λ b. off (left q b));
        others = λ q off. o.out q (λ b. off (subst (λ l. In l q) (sym pages) (in_right so_far here q b)))
            ∙ m.others q (λ b. off (subst (λ l. In l q) (sym pages) (in_left so_far here q b)));
        back = λ q a off. elim (in_either so_far here q (subst (λ l. In l q) pages a)) [
          | inl b ↦ ap (λ e. is_free u.limit e) (o.out q (away q b)) ∙ ap (λ l. is_free l (entry_at t q)) limit
              ∙ m.back q b (λ r. off (left q r))
          | inr b ↦ o.back q b (λ r. off (right q r))
        ];
      }

-- All parts.

module _ (s t : State) (bufs : List BufId) (ps : List Part) (n : ℕ) (apart : AreApart 0 ps) (m : Placed s t bufs ps n)
  where
    pub made-placed : MadeOn s t bufs (take (pages_for n) (part_pages ps))
    made-placed =
        let pages = take (pages_for n) (part_pages ps) in
        record {
          runs = needed ps n;
          apart = needed_apart 0 ps n apart;
          cover = cover ps n;
          begun = m.begun;
          whole = m.whole;
          raises = record {
            incremented = λ q h. m.incremented q (subst (λ l. In l q) (sym (cover ps n)) (in_contains pages q h));
            kept = λ q out. m.kept q (λ h. out (contains_in pages q (subst (λ l. In l q) (cover ps n) h)));
          };
        }

    pub others-placed : IsSameBut (part_pages ps) s t
    others-placed = record { each = λ q out. m.others q (λ h. out (contains_in (part_pages ps) q h)) }

    pub returned-placed : AreUsable t (drop (pages_for n) (part_pages ps))
    returned-placed = record {
      each = λ q h.
          let there = in_contains (drop (pages_for n) (part_pages ps)) q h in
          m.back q (in_drop (pages_for n) (part_pages ps) q there)
          (λ j. drop_out 0 (pages_for n) (part_pages ps) q (pages_rising 0 ps apart) there
          (subst (λ l. In l q) (cover ps n) j));
    }

begun_since : (s t : State) (rs : List Part) → ((q : ℕ) → generation_at t q ≡ generation_at s q)
    → map (begun_on t) rs ≡ map (begun_on s) rs
begun_since s t [] same = refl
begun_since s t (r ∷ rs) same =
    let g = same r.first in
    let rest = begun_since s t rs same in
    λ i. (let b : BufId = record { page = r.first; generation = g i + 1 } in b) ∷ rest i

-- buffers are made after a change that raised no page
pub made_since : {s t u : State} {bufs : List BufId} {placed : List ℕ}
    → ((q : ℕ) → generation_at t q ≡ generation_at s q) → MadeOn t u bufs placed → MadeOn s u bufs placed
made_since {s = s} {t = t} same m = record {
  runs = m.runs;
  apart = m.apart;
  cover = m.cover;
  begun = m.begun ∙ begun_since s t m.runs same;
  whole = m.whole;
  raises = record {
    incremented = λ q h. m.raises.incremented q h ∙ ap (λ g. g + 1) (same q);
    kept = λ q h. m.raises.kept q h ∙ same q;
  };
}

pub same_but_trans : {a b c : State} {pages : List ℕ} → IsSameBut pages a b → IsSameBut pages b c → IsSameBut pages a c
same_but_trans m n = record { each = λ q out. n.each q out ∙ m.each q out }

pub same_but_entries : {a b : State} (pages : List ℕ) → b.entries ≡ a.entries → IsSameBut pages a b
same_but_entries pages e = record { each = λ q out. ap (λ (es : List Entry). entry_in es q) e }

-- zero bytes make no buffer
pub made_none : (s : State) (pages : List ℕ) → MadeOn s s [] (take (pages_for 0) pages)
made_none s pages =
    let none : take (pages_for 0) pages ≡ [] = ap (λ k. take k pages) pages_none in
    record {
      runs = [];
      apart = tt;
      cover = sym none;
      begun = refl;
      whole = refl;
      raises = record {
        incremented = λ q h. absurd (in_contains [] q (subst (λ l. Contains l q) none h));
        kept =
            λ q out. refl;
      };
    }
