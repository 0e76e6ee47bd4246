-- The number of pages that a range needs does not depend on how its hits are sliced.
use Rattle.std.proofs.Common.{inl, inr, ◌≡◌, ◌∙◌, ℕ, zero, suc, ◌+◌, ◌<◌, ◌≤◌, nat_lt, cond, List, [], ◌∷◌, ◌++◌}
use Rattle.std.proofs.Common.{length, map, min, refl, sym, ap, arith, subst, Option, Some, None}
use Rattle.std.specs.Prelude.{not, ◌||◌}
use Rattle.std.specs.List.{filter, flat_map, range_with_len}
use Rattle.std.proofs.lemmas.Bool.{cases_lt}
use Rattle.std.proofs.lemmas.Bool.Decides.{nat_tests}
use Rattle.iol_core.specs.declared.numbers.BufId.{BufId}
use Rattle.iol_arena.specs.State.{State, entry_at, generation_at}
use Rattle.iol_arena.specs.Chunks.{chunk_pages}
use Rattle.iol_back.specs.Disk.{Disk}
use Rattle.iol_extent.proofs.Alone.{gaps_alone}
use Rattle.iol_pool.specs.Pools.{Pool, pool_in}
use Rattle.iol_arena.specs.Firsts.{first_on}
use Rattle.iol_hold.specs.StoreState.{Stored, count_of}
use Rattle.iol_hold.specs.Moves.{Covers, Shares, same, tally}
use Rattle.iol_hold.specs.Places.{Place, place_in, places, slice_places}
use Rattle.iol_hold.specs.Releases.{buf_at}
use Rattle.iol_hold.specs.Room.{pages_of}
use Rattle.iol_hold.specs.Texts.{bufs_of}
use Rattle.iol_hold.specs.declared.slices.Slice.{Slice}
use Rattle.iol_hold.proofs.Counts.{tally-append, tally_none}
use Rattle.iol_cache.specs.CacheState.{Cached, clean_held, extents_in, file_in}
use Rattle.iol_cache.specs.Evictions.{Holding}
use Rattle.iol_cache.specs.Gaps.{gap_pages}
use Rattle.iol_cache.specs.ReadSteps.{HasRoom, LacksRoom, Pins, wanted_pages}
use Rattle.iol_cache.specs.Marks.{is_held_beside}
use Rattle.iol_cache.specs.PinnedPages.{is_begun, is_pinned, pinned_beside}
use Rattle.iol_cache.specs.ReadResults.{IsEnd, NoRoomToRead, RoomToRead}
use Rattle.iol_cache.specs.Sound.{IsSound}
use Rattle.iol_cache.specs.Weave.{places_beside}
use Rattle.iol_cache.proofs.Extents.HeldSlices.{covers_all}

-- the buffers of places
abbrev bufs_at : List Place → List BufId
bufs_at ls = map (λ (l : Place). l.buf) ls

bufs_at-append : (xs ys : List Place) → bufs_at (xs ++ ys) ≡ bufs_at xs ++ bufs_at ys
bufs_at-append [] ys = refl
bufs_at-append (x ∷ xs) ys = ap (λ l. x.buf ∷ l) (bufs_at-append xs ys)

abbrev row : (x : Slice) (at n : ℕ) → List BufId
row x at n = bufs_at (map (place_in x) (range_with_len at n))

row_none : (b : BufId) (x : Slice) (at n : ℕ) → same b x.hold.buf ≡ 0 → tally b (row x at n) ≡ 0
unfolding tally
row_none b x at zero none = refl
row_none b x at (suc n) none = omega (arith, none, row_none b x (at + 1) n none)

row_some : (b : BufId) (x : Slice) (at n : ℕ) → 0 < n → same b x.hold.buf ≤ tally b (row x at n)
unfolding tally
row_some b x at zero some = absurd (omega (arith, some))
row_some b x at (suc n) some = omega arith

-- slices hold a buffer exactly if one of their places is in it
held_there : (b : BufId) (xs : List Slice) → 0 < tally b (bufs_of xs) → 0 < tally b (bufs_at (places xs))
unfolding tally
held_there b [] h = h
held_there b (x ∷ xs) h =
    let all : tally b (bufs_at (places (x ∷ xs))) ≡ tally b (row x x.from x.len) + tally b (bufs_at (places xs)) =
    ap (tally b) (bufs_at-append (slice_places x) (places xs))
    ∙ tally-append b (row x x.from x.len) (bufs_at (places xs)) in
    elim (cases_lt 0 (tally b (bufs_of xs))) [
      | inl later ↦ omega (arith, all, held_there b xs later)
      | inr none ↦ omega (arith, all, h, none, row_some b x x.from x.len x.some)
    ]

there_held : (b : BufId) (xs : List Slice) → 0 < tally b (bufs_at (places xs)) → 0 < tally b (bufs_of xs)
unfolding tally
there_held b [] h = h
there_held b (x ∷ xs) h =
    let all : tally b (bufs_at (places (x ∷ xs))) ≡ tally b (row x x.from x.len) + tally b (bufs_at (places xs)) =
    ap (tally b) (bufs_at-append (slice_places x) (places xs))
    ∙ tally-append b (row x x.from x.len) (bufs_at (places xs)) in
    elim (cases_lt 0 (same b x.hold.buf)) [
      | inl here ↦ omega (arith, here)
      | inr none ↦ (let nothing = row_none b x x.from x.len (omega (arith, none)) in let rest =
          there_held b xs (omega (arith, all, h, nothing)) in omega (arith, rest))
    ]

-- slices of the same places hold the same buffers
pub held_alike : (b : BufId) (xs ys : List Slice) → places xs ≡ places ys → 0 < tally b (bufs_of xs)
    → 0 < tally b (bufs_of ys)
held_alike b xs ys same h = there_held b ys (subst (λ ls. 0 < tally b (bufs_at ls)) same (held_there b xs h))

-- Slices of the same places were shared in two copies of a store: both have the same pinned pages.

module _ (s t u : Stored) (clean : List BufId) (xs ys : List Slice) (same : places xs ≡ places ys)
    (covers : Covers s clean) (m : Shares s t [] (bufs_of xs)) (n : Shares s u [] (bufs_of ys)) where
  beside_alike : (b : BufId) → is_held_beside t clean b ≡ is_held_beside u clean b
  beside_alike b = elim (cases_lt 0 (tally b (bufs_of xs))) [
    | inl some ↦ (
        let more = held_alike b xs ys same some in
        let p : tally b clean < count_of t b = omega (arith, covers.each b, m.counts.each b, tally_none b, some) in
        let q : tally b clean < count_of u b = omega (arith, covers.each b, n.counts.each b, tally_none b, more) in
        grind (arith, nat_tests, p, q))
    | inr none ↦ elim (cases_lt 0 (tally b (bufs_of ys))) [
      | inl some ↦ absurd (let more = held_alike b ys xs (sym same) some in omega (arith, more, none))
      | inr nothing ↦
          (let e : count_of t b ≡ count_of u b =
          omega (arith, m.counts.each b, n.counts.each b, tally_none b, none, nothing) in ap (nat_lt (tally b clean)) e)
    ]
  ]

  arenas : t.arena ≡ u.arena
  arenas = m.arena ∙ sym n.arena

  begun_alike : (o : Option ℕ) → is_begun t clean o ≡ is_begun u clean o
  begun_alike None = refl
  begun_alike (Some p) = ap (λ (a : State). is_held_beside t clean (buf_at a p)) arenas
      ∙ beside_alike (buf_at u.arena p)

  pinned_alike : (q : ℕ) → is_pinned t clean q ≡ is_pinned u clean q
  unfolding is_pinned
  pinned_alike q =
      ap (λ (a : State). not (nat_lt (generation_at a q) a.limit) || is_begun t clean (first_on (entry_at a q).kind q))
      arenas
      ∙ ap (λ b. not (nat_lt (generation_at u.arena q) u.arena.limit) || b)
      (begun_alike (first_on (entry_at u.arena q).kind q))

  filter_alike : (qs : List ℕ) → filter (is_pinned t clean) qs ≡ filter (is_pinned u clean) qs
  filter_alike [] = refl
  filter_alike (q ∷ qs) =
      ap (λ b. cond b (q ∷ filter (is_pinned t clean) qs) (filter (is_pinned t clean) qs)) (pinned_alike q)
      ∙ ap (λ l. cond (is_pinned u clean q) (q ∷ l) l) (filter_alike qs)

  pub pinned_one : (p : ℕ) → pinned_beside t clean p ≡ pinned_beside u clean p
  pinned_one p =
      ap (λ (ps : List Pool). length (filter (is_pinned t clean) (flat_map chunk_pages (pool_in ps p).chunks))) (m.pools
      ∙ sym n.pools)
      ∙ ap length (filter_alike (pages_of u p))

pub wants_one : (s : Stored) (c : Cached) (f from to : ℕ) → IsSound s c → (x y : Pins s c f from to)
    → wanted_pages x ≡ wanted_pages y
wants_one s c f from to sound x y =
    let es = extents_in c.files f in
    let gaps = gaps_alone es from to x.hits x.gaps y.hits y.gaps x.tile y.tile in
    let lies : places x.pins ≡ places y.pins = x.lies ∙ ap (places_beside es from to) gaps ∙ sym y.lies in
    let pinned = pinned_one s x.mid y.mid (clean_held c.files) x.pins y.pins lies (covers_all c.files sound.covered)
    x.shares y.shares (file_in c.files f).pool in
    ap (λ n. n + gap_pages x.gaps) pinned
    ∙ ap (λ l. pinned_beside y.mid (clean_held c.files) (file_in c.files f).pool + gap_pages l) gaps

pub has_or_lacks : (s : Stored) (c : Cached) (f from to : ℕ) → IsSound s c → HasRoom s c f from to
    → LacksRoom s c f from to → ⊥
has_or_lacks s c f from to sound has lacks =
    omega (arith, has.fits, lacks.lacks, wants_one s c f from to sound has.pinned lacks.pinned)

-- A read.

pub end_one : (disk : Disk) (c : Cached) (f m n : ℕ) → IsEnd disk c f m → IsEnd disk c f n → m ≡ n
end_one disk c f m n a b = a.is ∙ sym b.is

pub reads_or_lacks : (f at n : ℕ) (disk : Disk) (h : Holding) → IsSound h.store h.cache → RoomToRead f at n disk h
    → NoRoomToRead f at n disk h → ⊥
reads_or_lacks f at n disk h sound x y =
    let end = end_one disk h.cache f x.range.end y.range.end x.range.ends y.range.ends in
    let from : x.range.from ≡ y.range.from = x.range.begins ∙ ap (min at) end ∙ sym y.range.begins in
    let to : x.range.to ≡ y.range.to = x.range.stops ∙ ap (min (at + n)) end ∙ sym y.range.stops in
    has_or_lacks h.store h.cache f y.range.from y.range.to sound
    (subst (λ k. HasRoom h.store h.cache f y.range.from k) to
    (subst (λ k. HasRoom h.store h.cache f k x.range.to) from x.room)) y.lacks
