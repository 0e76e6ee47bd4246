-- Buffers made on pending pages, each held once. The other pending pages become free.
use Rattle.std.proofs.Common.{◌≡◌, true, ℕ, suc, ◌+◌, ◌<◌, ◌⊎◌, inl, inr, List, [], ◌∷◌, ◌++◌, Bool, length, map}
use Rattle.std.proofs.Common.{get_or, set, drop, nat_lt, ◌&&◌, refl, sym, ap, ◌∙◌, arith, subst, length-set}
use Rattle.std.specs.List.{All, range_with_len}
use Rattle.std.proofs.lemmas.List.Elements.{All-map}
use Rattle.std.proofs.lemmas.List.{get_or-set_same, get_or-set_other, get_or_past}
use Rattle.std.proofs.lemmas.Bool.{cases_eq, cases_lt}
use Rattle.iol_core.specs.declared.numbers.BufId.{BufId}
use Rattle.iol_arena.specs.State.{State, HasRuns, entry_at, generation_at, is_free, kind_free, kind_head, no_entry}
use Rattle.iol_arena.specs.State.{page_count, pages_for}
use Rattle.iol_arena.specs.Adds.{IsNew}
use Rattle.iol_arena.specs.Buffers.{IsSpared, LiesOn, Grows, kind_len, len_of}
use Rattle.iol_arena.specs.Chunks.{IsRisingFrom, usable}
use Rattle.iol_arena.specs.Pages.{IsSameBut, MadeOn, begun_on}
use Rattle.iol_arena.specs.Parts.{AreApart, part_pages}
use Rattle.iol_arena.specs.declared.pages.Part.{Part}
use Rattle.iol_arena.specs.declared.pages.Entry.{Entry}
use Rattle.iol_arena.specs.declared.pages.PageKind.TheVariants.{Free, Pending, Head, Tail}
use Rattle.iol_arena.proofs.Good.{and_left, kind_is_free}
use Rattle.iol_arena.proofs.Members.{In, in_either, in_or_out, in_rising, range_in, rising_from, in_contains}
use Rattle.iol_hold.specs.StoreState.{Stored, Buffer, IsInPool, count_in, count_of, held_bufs, held_in}
use Rattle.iol_hold.specs.Moves.{same, tally, Counts}
use Rattle.iol_hold.specs.Texts.{IsFilled}
use Rattle.iol_hold.specs.PendingPages.{Publishes, all_held}
use Rattle.iol_hold.proofs.Counts.{bufs-held_in, tally_none, same_self, equal_bufs, other_page, other_generation}
use Rattle.iol_hold.proofs.Counts.{no_head, absent, present, count_live}
use Rattle.iol_hold.proofs.LiveBuffers.{HoldsAll, live_stays, placed_stays}

-- New buffers in a list.

abbrev pub firsts : List BufId → List ℕ
firsts bs = map (λ (b : BufId). b.page) bs

abbrev next : State → ℕ → BufId
next s q = record { page = q; generation = generation_at s q + 1 }

is_next : (s t : State) (b : BufId) (q : ℕ) → IsNew s t b → q ≡ b.page → b ≡ next s q
is_next s t b q new e = equal_bufs b (next s q) (sym e) (new.next ∙ ap (λ p. generation_at s p + 1) (sym e))

new_at : (s t : State) (bs : List BufId) (q : ℕ) → All (IsNew s t) bs → In (firsts bs) q → IsNew s t (next s q)
new_at s t [] q new h = elim h [ ]
new_at s t (b ∷ bs) q new (inl e) = (let x = new 0 b (omega arith) in subst (IsNew s t) (is_next s t b q x e) x)
new_at s t (b ∷ bs) q new (inr h) = new_at s t bs q (λ k d lt. new (suc k) d (omega arith)) h

tally_off : (a : BufId) (bs : List BufId) → (In (firsts bs) a.page → ⊥) → tally a bs ≡ 0
unfolding tally
tally_off a [] out = refl
tally_off a (b ∷ bs) out = omega (arith, other_page a b (λ e. out (inl e)), tally_off a bs (λ h. out (inr h)))

tally_on : (s t : State) (low : ℕ) (a : BufId) (bs : List BufId) → All (IsNew s t) bs → IsRisingFrom low (firsts bs)
    → In (firsts bs) a.page → tally a bs ≡ same a (next s a.page)
unfolding tally
tally_on s t low a [] new rising h = elim h [ ]
tally_on s t low a (b ∷ bs) new rising (inl e) =
    let rest =
    tally_off a bs (λ h. (let l = in_rising (b.page + 1) (firsts bs) a.page rising.1 h in omega (arith, l, e))) in
    omega (arith, rest, ap (same a) (is_next s t b a.page (new 0 b (omega arith)) e))
tally_on s t low a (b ∷ bs) new rising (inr h) =
    let l = in_rising (b.page + 1) (firsts bs) a.page rising.1 h in
    omega (
      arith,
      other_page a b (λ e. omega (arith, l, e)),
      tally_on s t (b.page + 1) a bs (λ k d lt. new (suc k) d (omega arith)) rising.1 h,
    )

held_off : (counts : List ℕ) (bs : List BufId) (q : ℕ) → (In (firsts bs) q → ⊥)
    → get_or (all_held counts bs) q 0 ≡ get_or counts q 0
held_off counts [] q out = refl
held_off counts (b ∷ bs) q out = held_off (set counts b.page 1) bs q (λ h. out (inr h))
    ∙ get_or-set_other counts b.page q 1 0 (λ e. out (inl e))

held_on : (counts : List ℕ) (bs : List BufId) (q : ℕ) → q < length counts → In (firsts bs) q
    → get_or (all_held counts bs) q 0 ≡ 1
held_on counts [] q h there = elim there [ ]
held_on counts (b ∷ bs) q h there = elim (in_or_out (firsts bs) q) [
  | inl on ↦ held_on (set counts b.page 1) bs q (omega (arith, h, length-set counts b.page 1)) on
  | inr off ↦ held_off (set counts b.page 1) bs q off ∙ elim there [
    | inl e ↦ ap (λ p. get_or (set counts b.page 1) p 0) e ∙ get_or-set_same counts b.page 1 0 (omega (arith, h, e))
    | inr k ↦ absurd (off k)
  ]
]

pub length-all_held : (counts : List ℕ) (bs : List BufId) → length (all_held counts bs) ≡ length counts
length-all_held counts [] = refl
length-all_held counts (b ∷ bs) = length-all_held (set counts b.page 1) bs ∙ length-set counts b.page 1

pub all_held-append : (counts : List ℕ) (xs ys : List BufId)
    → all_held counts (xs ++ ys) ≡ all_held (all_held counts xs) ys
all_held-append counts [] ys = refl
all_held-append counts (x ∷ xs) ys = all_held-append (set counts x.page 1) xs ys

-- The runs on which they were made.

firsts_rising : (s : State) (low : ℕ) (rs : List Part) → AreApart low rs
    → IsRisingFrom low (firsts (map (begun_on s) rs))
firsts_rising s low [] apart = tt
firsts_rising s low (r ∷ rs) apart = (
  apart.0.rising,
  rising_from (r.first + 1) (r.first + r.count) (firsts (map (begun_on s) rs))
      (omega (arith, apart.0.some)) (firsts_rising s (r.first + r.count) rs apart.1),
)

-- the page is in a new buffer
abbrev pub IsOn : State → List BufId → ℕ → Type 0
IsOn t bs q = (b : BufId) × In (firsts bs) b.page × LiesOn t b q

run_of : (s t : State) (rs : List Part) (q : ℕ) → map (λ (b : BufId). pages_for (len_of t b)) (map (begun_on s) rs)
    ≡ map (λ (r : Part). r.count) rs → In (part_pages rs) q → IsOn t (map (begun_on s) rs) q
run_of s t [] q whole h = elim h [ ]
run_of s t (r ∷ rs) q whole h = elim (in_either (range_with_len r.first r.count) (part_pages rs) q h) [
  | inl k ↦
      (let x = range_in r.first r.count q k in
      (begun_on s r, inl refl, record { from = x.0; to = omega (arith, x.1, ap (λ l. get_or l 0 0) whole) }))
  | inr k ↦ (let x = run_of s t rs q (ap (drop 1) whole) k in (x.0, inr x.1, x.2))
]

-- The pages were pending. Those that are placed are in new buffers, each held once, and the others are free. Nothing
-- else changed.
pub record Makes (s t : Stored) (pages placed : List ℕ) (bufs : List BufId) : Type 0 where
  pub waited : (q : ℕ) → In pages q → (entry_at s.arena q).kind ≡ Pending
  pub others : IsSameBut pages s.arena t.arena
  pub back : (q : ℕ) → In pages q → (In placed q → ⊥) → usable t.arena q ≡ true
  pub on : MadeOn s.arena t.arena bufs placed
  pub new : All (IsNew s.arena t.arena) bufs
  pub runs : HasRuns t.arena.entries
  pub long : length s.counts ≡ page_count s.arena
  pub counts : t.counts ≡ all_held s.counts bufs

module _ (s t : Stored) (pages placed : List ℕ) (bufs : List BufId) (m : Makes s t pages placed bufs) where
  fresh : (q : ℕ) → In (firsts bufs) q → IsNew s.arena t.arena (next s.arena q)
  fresh q h = new_at s.arena t.arena bufs q m.new h

  out_same : (q : ℕ) → (In pages q → ⊥) → entry_at t.arena q ≡ entry_at s.arena q
  out_same q out = m.others.each q (λ h. out (in_contains pages q h))

  -- a new buffer begins on one of the pages
  place : (q : ℕ) → In (firsts bufs) q → In pages q
  place q h =
      elim (in_or_out pages q) [
        | inl there ↦ there
        | inr out ↦
            absurd (omega (arith, (fresh q h).live.generation, ap (λ e. e.generation) (out_same q out)))
      ]

  lies : (q : ℕ) → In placed q → IsOn t.arena bufs q
  lies q h =
      let there : In (part_pages m.on.runs) q = subst (λ l. In l q) (sym m.on.cover) h in
      let whole = ap (map (λ (b : BufId). pages_for (len_of t.arena b))) (sym m.on.begun) ∙ m.on.whole in
      subst (λ bs. IsOn t.arena bs q) (sym m.on.begun) (run_of s.arena t.arena m.on.runs q whole there)

  -- the kind of a page in a new buffer
  kind_on : (q : ℕ) → IsOn t.arena bufs q
      → (In (firsts bufs) q × ((entry_at t.arena q).kind ≡ Head (len_of t.arena (next s.arena q))))
      ⊎ ((p : ℕ) × ((entry_at t.arena q).kind ≡ Tail p))
  kind_on q (b, on, at) =
      let head = (fresh b.page on).live.head in
      elim (cases_eq q b.page) [
        | inl e ↦
            inl (
              subst (In (firsts bufs)) (sym e) on,
              subst (λ p. (entry_at t.arena p).kind ≡ Head (kind_len (entry_at t.arena p).kind)) (sym e) head,
            )
        | inr ne ↦ inr (b.page, (m.runs.each b.page (len_of t.arena b) head).tails q (omega (arith, at.from, ne)) at.to)
      ]

  -- a page that was pending is free, or in a new buffer
  kind_now : (q : ℕ) → In pages q → ((entry_at t.arena q).kind ≡ Free) ⊎ IsOn t.arena bufs q
  kind_now q h = elim (in_or_out placed q) [
    | inl p ↦ inr (lies q p)
    | inr off ↦
        inl
        (kind_is_free (entry_at t.arena q).kind
        (and_left (kind_free (entry_at t.arena q).kind) (nat_lt (entry_at t.arena q).generation t.arena.limit)
        (m.back q h off)))
  ]

  -- where no new buffer begins, no buffer was made or freed
  spared : (q : ℕ) → (In (firsts bufs) q → ⊥) → IsSpared s.arena t.arena q
  spared q off = elim (in_or_out pages q) [
    | inl there ↦ inr (
      ap kind_head (m.waited q there),
      elim (kind_now q there) [
        | inl free ↦ ap kind_head free
        | inr on ↦ elim (kind_on q on) [ inl h ↦ absurd (off h.0) | inr tail ↦ ap kind_head tail.1 ]
      ],
    )
    | inr out ↦ inl (out_same q out)
  ]

  within : (q : ℕ) → In pages q → q < length s.counts
  within q h = elim (cases_lt q (page_count s.arena)) [
    | inl lt ↦ omega (arith, lt, m.long)
    | inr past ↦ (let none = ap (λ (e : Entry). e.kind) (get_or_past s.arena.entries q no_entry past) in let pending =
        m.waited q h in absurd (cc (none, pending)))
  ]

  held_once : (q : ℕ) → In (firsts bufs) q → get_or t.counts q 0 ≡ 1
  held_once q h = ap (λ l. get_or l q 0) m.counts ∙ held_on s.counts bufs q (within q (place q h)) h

  count_stays : (q : ℕ) → (In (firsts bufs) q → ⊥) → get_or t.counts q 0 ≡ get_or s.counts q 0
  count_stays q off = ap (λ l. get_or l q 0) m.counts ∙ held_off s.counts bufs q off

  counts_on : (a : BufId) → In (firsts bufs) a.page → count_of t a + tally a [] ≡ count_of s a + tally a bufs
  unfolding count_of
  counts_on a on =
      let x = fresh a.page on in
      let b = next s.arena a.page in
      let rising =
      subst (λ bs. IsRisingFrom 0 (firsts bs)) (sym m.on.begun) (firsts_rising s.arena 0 m.on.runs m.on.apart) in
      let was =
      no_head (entry_at s.arena a.page) (get_or s.counts a.page 0) a.generation
      (ap kind_head (m.waited a.page (place a.page on))) in
      let given = tally_on s.arena t.arena 0 a bufs m.new rising on in
      elim (cases_eq a.generation b.generation) [
        | inl g ↦ (
            let now =
            present (entry_at t.arena a.page) (get_or t.counts a.page 0) a.generation (ap kind_head x.live.head)
            (x.live.generation ∙ sym g) in
            omega (
              arith,
              tally_none a,
              was,
              now,
              held_once a.page on,
              given,
              ap (same a) (sym (equal_bufs a b refl g)),
              same_self a,
            ))
        | inr ne ↦ (
            let now =
            absent (entry_at t.arena a.page) (get_or t.counts a.page 0) a.generation
            (λ e. ne (sym e ∙ x.live.generation)) in
            omega (arith, tally_none a, was, now, given, other_generation a b refl ne))
      ]

  counts_off : (a : BufId) → (In (firsts bufs) a.page → ⊥) → count_of t a + tally a [] ≡ count_of s a + tally a bufs
  unfolding count_of
  counts_off a off =
      let n : ℕ = get_or t.counts a.page 0 in
      elim (spared a.page off) [
        | inl e ↦ omega (
          arith,
          tally_none a,
          tally_off a bufs off,
          ap (λ x. count_in x n a.generation) e,
          ap (λ k. count_in (entry_at s.arena a.page) k a.generation) (count_stays a.page off),
        )
        | inr none ↦
            omega (
              arith,
              tally_none a,
              tally_off a bufs off,
              no_head (entry_at t.arena a.page) n a.generation none.1,
              no_head (entry_at s.arena a.page) (get_or s.counts a.page 0) a.generation none.0,
            )
      ]

  -- each page is in a held buffer, or free, or pending
  pub made_holds : HoldsAll s → HoldsAll t
  made_holds tidy = record {
    held = λ b live. elim (in_or_out (firsts bufs) b.page) [
      | inl on ↦ omega (arith, count_live t b live, held_once b.page on)
      | inr off ↦ elim (spared b.page off) [
        | inl e ↦ (let was = live_stays t.arena s.arena b (sym e) live in
            omega (arith, count_live t b live, count_stays b.page off, count_live s b was, tidy.held b was))
        | inr none ↦ (let head = ap kind_head live.head in absurd (cc (head, none.1)))
      ]
    ];
    placed = λ q. elim (in_or_out pages q) [
      | inl there ↦
          elim (kind_now q there) [
            | inl free ↦ inl free
            | inr (b, on, at) ↦
                inr (inr (next s.arena b.page, (fresh b.page on).live, record { from = at.from; to = at.to }))
          ]
      | inr out ↦ placed_stays s.arena t.arena q (out_same q out) (λ b live lies. elim (in_or_out pages b.page) [
        | inl there ↦ (let pending = m.waited b.page there in let head = live.head in absurd (cc (pending, head)))
        | inr off ↦ out_same b.page off
      ]) (tidy.placed q)
    ];
  }

  -- the pages are no longer pending
  done : (q : ℕ) → In pages q → (entry_at t.arena q).kind ≡ Pending → ⊥
  done q there pending = elim (kind_now q there) [
    | inl free ↦ cc (free, pending)
    | inr on ↦ elim (kind_on q on) [
      | inl h ↦ (let head = h.1 in cc (head, pending))
      | inr h ↦
          (let tail = h.1 in cc (tail, pending))
    ]
  ]

  pub made_still : (q : ℕ) → (entry_at t.arena q).kind ≡ Pending → ((entry_at s.arena q).kind ≡ Pending)
      × (In pages q → ⊥)
  made_still q pending = elim (in_or_out pages q) [
    | inl there ↦ absurd (done q there pending)
    | inr out ↦ (sym (ap (λ e. e.kind) (out_same q out)) ∙ pending, out)
  ]

  -- if all pages are placed, the pages that may be used are the same as before
  pub made_usable : t.arena.limit ≡ s.arena.limit → ((q : ℕ) → In pages q → In placed q) → (q : ℕ)
      → usable t.arena q ≡ usable s.arena q
  made_usable limit all q = elim (in_or_out pages q) [
    | inl there ↦ (
        let old = ap (λ k. kind_free k && nat_lt (entry_at s.arena q).generation s.arena.limit) (m.waited q there) in
        let test : Bool → Bool = λ b. b && nat_lt (entry_at t.arena q).generation t.arena.limit in
        elim (kind_on q (lies q (all q there))) [
          | inl h ↦ ap (λ k. test (kind_free k)) h.1 ∙ sym old
          | inr h ↦
              ap (λ k. test (kind_free k)) h.1 ∙ sym old
        ])
    | inr out ↦ ap (λ e. is_free t.arena.limit e) (out_same q out) ∙ ap (λ l. is_free l (entry_at s.arena q)) limit
  ]

  pub made_counts : Counts s t [] bufs
  made_counts =
      record {
        each =
            λ a. elim (in_or_out (firsts bufs) a.page) [ inl on ↦ counts_on a on | inr off ↦ counts_off a off ];
      }

pub made_publishes : (s t : Stored) (ps : List Part) (placed : List ℕ) (bufs : List BufId)
    → Makes s t (part_pages ps) placed bufs → Grows s.arena t.arena → t.pools ≡ s.pools → Publishes s t ps bufs
made_publishes s t ps placed bufs m grows pools = record {
  counts = made_counts s t (part_pages ps) placed bufs m;
  grows = grows;
  pools = pools;
  still =
      λ h. record {
        each = λ q pending. (let w = made_still s t (part_pages ps) placed bufs m q pending in
            w.1 (in_contains (part_pages ps) q (h.each q w.0)));
      };
}

-- Holds on the new buffers.

pub held_named : (p : ℕ) (bufs : List BufId) (holds : List Buffer) → holds ≡ held_in p bufs → held_bufs holds ≡ bufs
held_named p bufs holds is = ap (map (λ (h : Buffer). h.buf)) is ∙ bufs-held_in p bufs

pub held_pool : (p : ℕ) (bufs : List BufId) (holds : List Buffer) → holds ≡ held_in p bufs → All (λ h. h.pool ≡ p) holds
held_pool p bufs holds is =
    let P : Buffer → Type 0 = λ h. h.pool ≡ p in
    let one : BufId → Buffer = λ b. record { pool = p; buf = b } in
    subst (All P) (sym is) (All-map P one bufs (λ k d h. refl))

pub held_filled : (s t : Stored) (p : ℕ) (bufs : List BufId) (holds : List Buffer) → holds ≡ held_in p bufs
    → All (IsNew s.arena t.arena) bufs → All (IsInPool t p) bufs → All (IsFilled t) holds
held_filled s t p bufs holds is made homes =
    let one : BufId → Buffer = λ b. record { pool = p; buf = b } in
    subst (All (IsFilled t)) (sym is)
    (All-map (IsFilled t) one bufs
    (λ k d h. (let new = made k d h in record { live = new.live; home = homes k d h; some = new.some })))
