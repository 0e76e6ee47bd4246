-- The extents over the bytes of files, after clean extents of one pool may have been evicted.
use Rattle.std.proofs.Common.{inl, inr, ◌≡◌, ◌⊎◌, ◌∙◌, ℕ, zero, suc, ◌+◌, ◌<◌, ◌≤◌, true, false, List, [], ◌∷◌, length}
use Rattle.std.proofs.Common.{Option, None, Some, refl, sym, ap, subst}
use Rattle.std.proofs.lemmas.Bool.{cases_eq, cases_lt}
use Rattle.iol_core.specs.declared.refusals.Refusal.{Refusal}
use Rattle.iol_arena.specs.State as arena
use Rattle.iol_core.specs.NumberedLists.{is_numbered}
use Rattle.iol_back.specs.Disk.{Disk}
use Rattle.iol_extent.specs.Extents.{Cell, IsApart, cover, without_at}
use Rattle.iol_pool.specs.Pools.{Pool, pool_in}
use Rattle.iol_arena.specs.Chunks.{free_pages}
use Rattle.iol_hold.specs.Places.{byte_len}
use Rattle.iol_hold.specs.Room.{free_of}
use Rattle.iol_hold.specs.declared.slices.Slice.{Slice}
use Rattle.iol_extent.specs.Spans.{Tile}
use Rattle.iol_extent.specs.declared.spans.Span.{Span}
use Rattle.iol_cache.specs.CacheState.{Cached, extents_in, file_in, lacking}
use Rattle.iol_cache.specs.Composition.{copied_pages}
use Rattle.iol_cache.specs.Evictions.{AreEvicted, Evicts, EvictsAll, EvictsPools, Holding}
use Rattle.iol_cache.specs.Gaps.{gap_pages}
use Rattle.iol_cache.specs.KeptCover.{KeepsCover, KeepsDirty}
use Rattle.iol_cache.specs.Overwrites.{OnlyMakesRoom, WritesFile}
use Rattle.iol_cache.specs.Ranges.{PinsRange}
use Rattle.iol_cache.specs.ReadResults.{LeavesRange, Range, ReadsFile, RefusesRead}
use Rattle.iol_cache.specs.declared.files.CachedFile.{CachedFile}
use Rattle.iol_cache.proofs.Extents.FewerExtents.{apart-without_at}
use Rattle.iol_cache.proofs.Extents.FileEntries.{file_other, file_same}
use Rattle.iol_cache.proofs.Extents.KeptCover.{AreApart, evictions_keep, nothing_goes, read_keeps, read_keeps_all}
use Rattle.iol_cache.proofs.Extents.KeptCover.{refused_keeps, write_keeps, write_keeps_all}
use Rattle.iol_cache.proofs.Extents.HeldSlices.{clean_numbered}
use Rattle.iol_kernel.specs.FileCalls.{holding_of}
use Rattle.iol_kernel.specs.KeptCover.{GaveWay, KeepsBeside, KeepsUnless, LacksPages, LacksPagesToRead}
use Rattle.iol_kernel.specs.KernelState.{KernelState}
use Rattle.iol_kernel.specs.Room.{MakesRoom}

-- Evictions leave the files of other pools unchanged.

one_other : (f at : ℕ) (old new : Holding) → Evicts f at old new → (g : ℕ) → (g ≡ f → ⊥)
    → file_in new.cache.files g ≡ file_in old.cache.files g
one_other f at old new gone g ne = ap (λ fs. file_in fs g) gone.files
    ∙ file_other old.cache.files f g (lacking (file_in old.cache.files f) at) ne

some_other : (p : ℕ) (w : Option ℕ) (vs : List (ℕ × ℕ)) (old new : Holding) → AreEvicted p w vs old new → (g : ℕ)
    → ((file_in old.cache.files g).pool ≡ p → ⊥) → file_in new.cache.files g ≡ file_in old.cache.files g
some_other p w [] old new is g ne = ap (λ (h : Holding). file_in h.cache.files g) is
some_other p w (v ∷ vs) old new is g ne =
    let before = some_other p w vs old is.0 is.1 g ne in
    let there : (file_in is.0.cache.files g).pool ≡ p → ⊥ =
    λ e. ne (ap (λ (x : CachedFile). x.pool) (sym before) ∙ e) in
    one_other v.0 v.1 is.0 new is.2.evicts g (λ e. there (ap (λ n. (file_in is.0.cache.files n).pool) e ∙ is.2.pool))
    ∙ before

evicted_other : (p : ℕ) (w : Option ℕ) (old new : Holding) → EvictsAll p w old new → (g : ℕ)
    → ((file_in old.cache.files g).pool ≡ p → ⊥) → extents_in new.cache.files g ≡ extents_in old.cache.files g
evicted_other p w old new x g ne =
    ap (λ (y : CachedFile). y.extents.extents) (some_other p w x.places old new x.each g ne)

-- and after evictions the extents of a file are still apart

one_apart : (f at : ℕ) (old new : Holding) → Evicts f at old new → AreApart old.cache → AreApart new.cache
one_apart f at old new gone apart = record {
  each = λ g. elim (cases_eq g f) [
    | inl same ↦ (let n = clean_numbered gone.there in
        let fs = old.cache.files in
        let here : extents_in new.cache.files f ≡ without_at (extents_in fs f) at = ap (λ l. extents_in l f) gone.files
        ∙ ap (λ (x : CachedFile). x.extents.extents) (file_same fs f (lacking (file_in fs f) at) n.0 n.1) in
        subst (IsApart 0) (sym (ap (extents_in new.cache.files) same ∙ here))
        (apart-without_at 0 (extents_in fs f) at (apart.each f)))
    | inr ne ↦ subst (IsApart 0) (sym (ap (λ (x : CachedFile). x.extents.extents) (one_other f at old new gone g ne)))
        (apart.each g)
  ];
}

some_apart : (p : ℕ) (w : Option ℕ) (vs : List (ℕ × ℕ)) (old new : Holding) → AreEvicted p w vs old new
    → AreApart old.cache → AreApart new.cache
some_apart p w [] old new is apart = subst (λ (h : Holding). AreApart h.cache) (sym is) apart
some_apart p w (v ∷ vs) old new is apart =
    one_apart v.0 v.1 is.0 new is.2.evicts (some_apart p w vs old is.0 is.1 apart)

pools_keep : (n : ℕ) (old new : Holding) → EvictsPools n old new → AreApart old.cache → KeepsDirty old.cache new.cache
    × AreApart new.cache
pools_keep zero old new is apart =
    subst (λ (h : Holding). KeepsDirty old.cache h.cache × AreApart h.cache) (sym is)
    (record { each = λ f i c here. inl here }, apart)
pools_keep (suc n) old new is apart =
    let before = pools_keep n old is.0 is.1 apart in
    let then = evictions_keep (suc n) None is.0 new is.2 before.1 in (
      record {
        each = λ f i c here. elim (before.0.each f i c here) [
          | inl stays ↦ then.each f i c stays
          | inr clean ↦
              inr clean
        ];
      },
      some_apart (suc n) None is.2.places is.0 new is.2.each before.1,
    )

pub drop_keeps : (n : ℕ) (old new : Holding) → EvictsPools n old new → AreApart old.cache
    → KeepsDirty old.cache new.cache
drop_keeps n old new is apart = (pools_keep n old new is apart).0

-- If enough pages are free no extent is evicted, and otherwise only clean ones, of one pool.

module _ (p free wanted : ℕ) (Lacks : Type 0) (old new : Cached) (lacks : free < wanted → Lacks) (others : (g : ℕ)
    → ((file_in old.files g).pool ≡ p → ⊥) → extents_in new.files g ≡ extents_in old.files g) where
  one_unless : (g i : ℕ) (c : Cell) → ((cover (extents_in new.files g) i ≡ Some c) ⊎ (c.dirty ≡ false))
      → (wanted ≤ free → cover (extents_in new.files g) i ≡ Some c) → cover (extents_in old.files g) i ≡ Some c
      → (cover (extents_in new.files g) i ≡ Some c) ⊎ GaveWay p Lacks old g c
  one_unless g i c dirty all is = elim (cases_lt free wanted) [
    | inl less ↦ elim (cases_eq (file_in old.files g).pool p) [
      | inl same ↦
          elim dirty [
            | inl stays ↦ inl stays
            | inr clean ↦
                inr (record { clean = clean; pooled = same; lacks = lacks less })
          ]
      | inr ne ↦ inl (ap (λ es. cover es i) (others g ne) ∙ is)
    ]
    | inr enough ↦ inl (all enough)
  ]

  keeps_unless : KeepsDirty old new → (wanted ≤ free → KeepsCover old new) → KeepsUnless p Lacks old new
  keeps_unless dirty all =
      record { each = λ g i c is. one_unless g i c (dirty.each g i c is) (λ enough. (all enough).each g i c is) is }

pub keeps_same : (p : ℕ) (Lacks : Type 0) (old new : Cached) → new ≡ old → KeepsUnless p Lacks old new
keeps_same p Lacks old new same =
    record { each = λ g i c is. inl (ap (λ (x : Cached). cover (extents_in x.files g) i) same ∙ is) }

pub beside_same : (f at n p : ℕ) (Lacks : Type 0) (old new : Cached) → new ≡ old → KeepsBeside f at n p Lacks old new
beside_same f at n p Lacks old new same =
    record { each = λ g i c out is. inl (ap (λ (x : Cached). cover (extents_in x.files g) i) same ∙ is) }

-- Room was made.
pub room_keeps : (p wanted : ℕ) (h k : KernelState) → MakesRoom p wanted h k
    → KeepsUnless p (LacksPages h p wanted) h.cache k.cache
room_keeps p wanted h k room =
    keeps_unless p (length (free_of h.store p)) wanted (LacksPages h p wanted) h.cache k.cache (λ less. less)
    (evicted_other p (Some wanted) (holding_of h) (holding_of k) room.victims) room.keeps
    (λ enough. record {
      each =
          λ g i c is. ap (λ (l : KernelState). cover (extents_in l.cache.files g) i) (room.enough enough) ∙ is;
    })

-- Reads.

module _ (f from to : ℕ) (old hit : Holding) (pins : List Slice) (gaps : List Span)
    (x : PinsRange f from to old hit pins gaps) where
  hit_extents : (g : ℕ) → extents_in hit.cache.files g ≡ extents_in old.cache.files g
  hit_extents g = ap (λ fs. extents_in fs g) x.counted.files ∙ x.rooms.extents g

  hit_pool : (g : ℕ) → (file_in hit.cache.files g).pool ≡ (file_in old.cache.files g).pool
  hit_pool g = ap (λ fs. (file_in fs g).pool) x.counted.files ∙ x.rooms.pools g

  -- as many pages are free as before
  hit_free : length (free_of hit.store (file_in hit.cache.files f).pool)
      ≡ length (free_of old.store (file_in old.cache.files f).pool)
  hit_free =
      ap (λ p. length (free_of hit.store p)) (hit_pool f)
      ∙ ap
      (λ (a : arena.State). length (free_pages a (pool_in hit.store.pools (file_in old.cache.files f).pool).chunks))
      x.shares.arena
      ∙ ap
      (λ (ps : List Pool). length (free_pages old.store.arena (pool_in ps (file_in old.cache.files f).pool).chunks))
      x.shares.pools

  -- the extents that are evicted for its gaps are of its pool
  hit_other : (mid : Holding) → EvictsAll (file_in hit.cache.files f).pool (Some (gap_pages gaps)) hit mid → (g : ℕ)
      → ((file_in old.cache.files g).pool ≡ (file_in old.cache.files f).pool → ⊥)
      → extents_in mid.cache.files g ≡ extents_in old.cache.files g
  hit_other mid victims g ne = evicted_other (file_in hit.cache.files f).pool (Some (gap_pages gaps)) hit mid victims g
      (λ e. ne (sym (hit_pool g) ∙ e ∙ hit_pool f)) ∙ hit_extents g

  lacks_gaps : (at n : ℕ) (disk : Disk) (range : Range disk old.cache f at n) → range.from ≡ from → range.to ≡ to
      → length (free_of old.store (file_in old.cache.files f).pool) < gap_pages gaps → LacksPagesToRead f at n disk old
  lacks_gaps at n disk range begins ends less =
      record {
        range = range;
        hits = x.hits;
        gaps = gaps;
        tile =
            subst (λ a. Tile (extents_in old.cache.files f) a range.to x.hits gaps) (sym begins)
            (subst (λ b. Tile (extents_in old.cache.files f) from b x.hits gaps) (sym ends) x.tile);
        lacks = less;
      }

pub read_unless : (f at n : ℕ) (disk : Disk) (old new : Holding) (xs : List Slice)
    → is_numbered old.cache.files f ≡ true → AreApart old.cache → ReadsFile f at n disk old new xs
    → KeepsUnless (file_in old.cache.files f).pool (LacksPagesToRead f at n disk old) old.cache new.cache
read_unless f at n disk old new xs there apart x =
    let r = x.reads in
    let a = x.range.from in
    let b = x.range.to in
    let p = (file_in old.cache.files f).pool in
    keeps_unless p (length (free_of old.store p)) (gap_pages r.gaps) (LacksPagesToRead f at n disk old) old.cache
    new.cache
    (lacks_gaps f a b old r.hit r.pins r.gaps r.pinned at n disk x.range refl refl)
    (λ g ne. elim r.completed [
      | inl e ↦ ap (λ (h : Holding). extents_in h.cache.files g) e.same
          ∙ hit_extents f a b old r.hit r.pins r.gaps r.pinned g
      | inr u ↦
          (let filled : CachedFile = record { pool = (file_in u.mid.cache.files f).pool; extents = u.fills.extents } in
          ap (λ (c : Cached). extents_in c.files g) u.cache
          ∙ ap (λ fs. extents_in fs g) u.fills.files
          ∙ ap (λ (y : CachedFile). y.extents.extents)
          (file_other u.mid.cache.files f g filled (λ e. ne (ap (λ m. (file_in old.cache.files m).pool) e)))
          ∙ hit_other f a b old r.hit r.pins r.gaps r.pinned u.mid u.victims g ne)
    ])
    (read_keeps f at n disk old new xs there x apart)
    (λ enough. read_keeps_all f at n disk old new xs there x
    (subst (λ m. gap_pages r.gaps ≤ m) (sym (hit_free f a b old r.hit r.pins r.gaps r.pinned)) enough))

-- a read that was refused
module _ (f at n : ℕ) (disk : Disk) (old new : Holding) (apart : AreApart old.cache)
    (range : Range disk old.cache f at n) where
  abbrev pool : ℕ
  pool = (file_in old.cache.files f).pool

  leaves_unless : (y : Refusal) → LeavesRange f range.from range.to old new y → KeepsDirty old.cache new.cache
      → KeepsUnless pool (LacksPagesToRead f at n disk old) old.cache new.cache
  leaves_unless y (inl (is, x)) dirty =
      record { each = λ g i c is. inl (ap (λ es. cover es i) (x.same.extents g) ∙ is) }
  leaves_unless y (inr x) dirty =
      let u = x.undone in
      let last : (g : ℕ) → extents_in new.cache.files g ≡ extents_in u.mid.cache.files g =
      λ g. ap (λ (c : Cached). extents_in c.files g) u.cache ∙ u.same.extents g in
      keeps_unless pool (length (free_of old.store pool)) (gap_pages x.gaps) (LacksPagesToRead f at n disk old)
      old.cache new.cache
      (lacks_gaps f range.from range.to old x.hit x.pins x.gaps x.pinned at n disk range refl refl)
      (λ g ne. last g ∙ hit_other f range.from range.to old x.hit x.pins x.gaps x.pinned u.mid u.victims g ne)
      dirty
      (λ enough. record {
        each = λ g i c is.
            let still =
            nothing_goes (file_in x.hit.cache.files f).pool (gap_pages x.gaps) x.hit u.mid
            (subst (λ m. gap_pages x.gaps ≤ m)
            (sym (hit_free f range.from range.to old x.hit x.pins x.gaps x.pinned)) enough) u.victims in
            ap (λ es. cover es i) (last g ∙ ap (λ (h : Holding). extents_in h.cache.files g) still
            ∙ hit_extents f range.from range.to old x.hit x.pins x.gaps x.pinned g) ∙ is;
      })

pub refused_unless : (f at n : ℕ) (disk : Disk) (old new : Holding) (y : Refusal) → AreApart old.cache
    → RefusesRead f at n disk old new y
    → KeepsUnless (file_in old.cache.files f).pool (LacksPagesToRead f at n disk old) old.cache new.cache
refused_unless f at n disk old new y apart x =
    leaves_unless f at n disk old new apart x.range y x.leaves (refused_keeps f at n disk old new y apart x)

-- Writes.

module _ (h : KernelState) (f at : ℕ) (source : List Slice) (new : Holding) (from_apart : AreApart h.cache) where
  abbrev own : ℕ
  own = (file_in h.cache.files f).pool

  abbrev copies : ℕ
  copies = copied_pages own source

  pub write_unless : is_numbered h.cache.files f ≡ true → WritesFile f at source (holding_of h) new
      → KeepsBeside f at (byte_len source) own (LacksPages h own copies) h.cache new.cache
  write_unless there x = record {
    each = λ g i c out is. one_unless own (length (free_of h.store own)) copies (LacksPages h own copies) h.cache
        new.cache (λ less. less) others g i c
        (write_keeps f at source (holding_of h) new there x from_apart g i c out is)
        (λ enough. write_keeps_all f at source (holding_of h) new there x enough g i c out is) is;
  }
    where
      others : (g : ℕ) → ((file_in h.cache.files g).pool ≡ own → ⊥)
          → extents_in new.cache.files g ≡ extents_in h.cache.files g
      others g ne =
          let mid : Holding = x.mid in
          let start : Holding = record { store = h.store; cache = x.room.reserved } in
          let written : CachedFile =
          record { pool = (file_in mid.cache.files f).pool; extents = x.over.puts.extents } in
          ap (λ fs. extents_in fs g) x.over.puts.files
          ∙ ap (λ (y : CachedFile). y.extents.extents)
          (file_other mid.cache.files f g written (λ e. ne (ap (λ m. (file_in h.cache.files m).pool) e)))
          ∙ evicted_other own (Some copies) start mid x.room.victims g (λ e. ne (sym (x.room.rooms.pools g) ∙ e))
          ∙ x.room.rooms.extents g

  module _ (x : OnlyMakesRoom own copies (holding_of h) new) where
    abbrev start : Holding
    start = record { store = h.store; cache = x.room.reserved }

    start_apart : AreApart x.room.reserved
    start_apart = record { each = λ n. subst (IsApart 0) (sym (x.room.rooms.extents n)) (from_apart.each n) }

    last : (g : ℕ) → extents_in new.cache.files g ≡ extents_in x.mid.cache.files g
    last g = ap (λ (c : Cached). extents_in c.files g) x.cache

    others_left : (g : ℕ) → ((file_in h.cache.files g).pool ≡ own → ⊥)
        → extents_in new.cache.files g ≡ extents_in h.cache.files g
    others_left g ne =
        last g ∙ evicted_other own (Some copies) start x.mid x.room.victims g (λ e. ne (sym (x.room.rooms.pools g) ∙ e))
        ∙ x.room.rooms.extents g

    pub unwritten_unless : KeepsBeside f at (byte_len source) own (LacksPages h own copies) h.cache new.cache
    unwritten_unless = record {
      each = λ g i c out is. one_unless own (length (free_of h.store own)) copies (LacksPages h own copies) h.cache
          new.cache (λ less. less) others_left g i c
          (elim ((evictions_keep own (Some copies) start x.mid x.room.victims start_apart).each g i c
          (ap (λ es. cover es i) (x.room.rooms.extents g) ∙ is)) [
            | inl stays ↦ inl (ap (λ es. cover es i) (last g) ∙ stays)
            | inr clean ↦ inr clean
          ])
          (λ enough. ap (λ es. cover es i) (last g
          ∙ ap (λ (k : Holding). extents_in k.cache.files g)
          (nothing_goes own copies start x.mid enough x.room.victims) ∙ x.room.rooms.extents g) ∙ is) is;
    }

-- One after the other.

-- no pages were lacking, so all cells are unchanged
pub beside_none : (f at n m p q : ℕ) (Lacks : Type 0) (old new : Cached) → n ≡ m → (Lacks → ⊥)
    → KeepsBeside f at n p Lacks old new → KeepsBeside f at m q ⊥ old new
beside_none f at n m p q Lacks old new same none keeps = record {
  each = λ g i c out is. elim (keeps.each g i c (λ e. subst (λ k. (i < at) ⊎ (at + k ≤ i)) (sym same) (out e)) is) [
    | inl stays ↦ inl stays
    | inr gave ↦ absurd (none gave.lacks)
  ];
}

pub unless_beside : (f at n p : ℕ) (Lacks : Type 0) (old new : Cached) → KeepsUnless p Lacks old new
    → KeepsBeside f at n p Lacks old new
unless_beside f at n p Lacks old new keeps = record { each = λ g i c out is. keeps.each g i c is }

pub unless_then : (f at n p q : ℕ) (Lacks : Type 0) (a b c : Cached) → KeepsUnless p Lacks a b
    → KeepsBeside f at n q ⊥ b c → KeepsBeside f at n p Lacks a c
unless_then f at n p q Lacks a b c first then = record {
  each = λ g i x out is. elim (first.each g i x is) [
    | inl stays ↦ elim (then.each g i x out stays) [ inl here ↦ inl here | inr gave ↦ absurd gave.lacks ]
    | inr gave ↦ inr gave
  ];
}
