-- The extents over the bytes of files after evictions, reads and writes.
use Rattle.std.proofs.Common.{inl, inr, ◌≡◌, ◌⊎◌, ◌∙◌, ℕ, ◌+◌, ◌<◌, ◌≤◌, Bool, true, false, cond, List, [], ◌∷◌, length}
use Rattle.std.proofs.Common.{Option, Some, None, refl, sym, ap, arith, subst}
use Rattle.std.proofs.lemmas.Bool.{cases_eq}
use Rattle.std.specs.List.{All}
use Rattle.iol_core.specs.NumberedLists.{is_numbered}
use Rattle.iol_back.specs.Disk.{Disk}
use Rattle.iol_extent.specs.Extents.{Cell, Extent, IsApart, begins_at, cell_at, cover, is_over, without_at}
use Rattle.iol_extent.specs.Spans.{AreInOrder, IsGapSpan}
use Rattle.iol_extent.specs.declared.spans.Span.{Span}
use Rattle.iol_hold.specs.Places.{Place, byte_len, places}
use Rattle.iol_hold.specs.Room.{free_of}
use Rattle.iol_hold.specs.declared.slices.Slice.{Slice}
use Rattle.iol_cache.specs.declared.files.CachedFile.{CachedFile}
use Rattle.iol_core.specs.declared.refusals.Refusal.{Refusal}
use Rattle.iol_cache.specs.CacheState.{Cached, extents_in, file_in, lacking}
use Rattle.iol_cache.specs.Evictions.{AreEvicted, Evicts, EvictsAll, Holding}
use Rattle.iol_cache.specs.Composition.{copied_pages}
use Rattle.iol_cache.specs.Gaps.{all_put, gap_pages}
use Rattle.iol_cache.specs.ReadSteps.{FillsFile}
use Rattle.iol_cache.specs.KeptCover.{KeepsCover, KeepsDirty}
use Rattle.iol_cache.specs.Overwrites.{WritesFile}
use Rattle.iol_cache.specs.Ranges.{PinsRange, FillsAfter, IsAllShared}
use Rattle.iol_cache.specs.ReadResults.{LeavesRange, ReadsFile, ReadsRange, RefusesRead}
use Rattle.iol_cache.specs.Sound.{IsSound}
use Rattle.iol_cache.proofs.Extents.FewerExtents.{apart-without_at, cover-begins, cover-without_at, over_not}
use Rattle.iol_cache.proofs.Extents.FileEntries.{file_other, file_same, numbered_bounds, numbered_yes}
use Rattle.iol_cache.proofs.RangeWrites.Preparation.{prepared_ends}
use Rattle.iol_cache.proofs.RangeReads.PutExtents.{cover-stays, made_fits}
use Rattle.iol_cache.proofs.RangeReads.RangeHolds.{extents_filled, gaps_kept}
use Rattle.iol_cache.proofs.Extents.HeldSlices.{clean_numbered}

-- One step after another.

dirty_then : (a b c : Cached) → KeepsDirty a b → KeepsDirty b c → KeepsDirty a c
dirty_then a b c m n =
    record { each = λ f i x is. elim (m.each f i x is) [ inl same ↦ n.each f i x same | inr clean ↦ inr clean ] }

dirty_cover : (a b c : Cached) → KeepsDirty a b → KeepsCover b c → KeepsDirty a c
dirty_cover a b c m n =
    record { each = λ f i x is. elim (m.each f i x is) [ inl same ↦ inl (n.each f i x same) | inr clean ↦ inr clean ] }

cover_then : (a b c : Cached) → KeepsCover a b → KeepsCover b c → KeepsCover a c
cover_then a b c m n = record { each = λ f i x is. n.each f i x (m.each f i x is) }

cover_same : (a b : Cached) → ((f : ℕ) → extents_in b.files f ≡ extents_in a.files f) → KeepsCover a b
cover_same a b same = record { each = λ f i x is. ap (λ es. cover es i) (same f) ∙ is }

dirty_of : (a b : Cached) → KeepsCover a b → KeepsDirty a b
dirty_of a b m = record { each = λ f i x is. inl (m.each f i x is) }

-- Evictions.

pub record AreApart (c : Cached) : Type 0 where
  pub each : (f : ℕ) → IsApart 0 (extents_in c.files f)

without_keeps : (es : List Extent) (at : ℕ) (e : Extent) (i : ℕ) (c : Cell) → IsApart 0 es → begins_at es at ≡ Some e
    → e.dirty ≡ false → cover es i ≡ Some c → (cover (without_at es at) i ≡ Some c) ⊎ (c.dirty ≡ false)
without_keeps es at e i c apart begins clean is = pick (is_over e i) refl where
  same_cell : {a b : Cell} → Some a ≡ Some b → a ≡ b
  same_cell h = cc

  pick : (b : Bool) → is_over e i ≡ b → (cover (without_at es at) i ≡ Some c) ⊎ (c.dirty ≡ false)
  pick true over = inr (ap (λ (x : Cell). x.dirty) (same_cell (sym is ∙ cover-begins 0 es at e i apart begins over))
      ∙ clean)
  pick false beside = inl (cover-without_at 0 es at e i apart begins ∙ ap (λ b. cond b None (cover es i)) beside ∙ is)

module _ (f at : ℕ) (old new : Holding) (gone : Evicts f at old new) (apart : AreApart old.cache) where
  abbrev fs : List CachedFile
  fs = old.cache.files

  here : extents_in new.cache.files f ≡ without_at (extents_in fs f) at
  here =
      let n = clean_numbered gone.there in
      ap (λ l. extents_in l f) gone.files
      ∙ ap (λ (x : CachedFile). x.extents.extents) (file_same fs f (lacking (file_in fs f) at) n.0 n.1)

  others : (g : ℕ) → (g ≡ f → ⊥) → extents_in new.cache.files g ≡ extents_in fs g
  others g ne = ap (λ l. extents_in l g) gone.files
      ∙ ap (λ (x : CachedFile). x.extents.extents) (file_other fs f g (lacking (file_in fs f) at) ne)

  evicted_keeps : KeepsDirty old.cache new.cache
  evicted_keeps = record {
    each = λ g i c is. elim (cases_eq g f) [
      | inl same ↦ (
          let was : cover (extents_in fs f) i ≡ Some c = ap (λ n. cover (extents_in fs n) i) (sym same) ∙ is in
          let now : extents_in new.cache.files g ≡ without_at (extents_in fs f) at =
          ap (extents_in new.cache.files) same ∙ here in
          elim (without_keeps (extents_in fs f) at gone.there.extent i c (apart.each f) gone.there.begins
          gone.there.clean was) [
            | inl stays ↦ inl (ap (λ es. cover es i) now ∙ stays)
            | inr clean ↦ inr clean
          ])
      | inr ne ↦ inl (ap (λ es. cover es i) (others g ne) ∙ is)
    ];
  }

  evicted_apart : AreApart new.cache
  evicted_apart = record {
    each = λ g. elim (cases_eq g f) [
      | inl same ↦
          subst (IsApart 0) (sym (ap (extents_in new.cache.files) same ∙ here))
          (apart-without_at 0 (extents_in fs f) at (apart.each f))
      | inr ne ↦ subst (IsApart 0) (sym (others g ne)) (apart.each g)
    ];
  }

all_keep : (p : ℕ) (w : Option ℕ) (vs : List (ℕ × ℕ)) (old new : Holding) → AreEvicted p w vs old new
    → AreApart old.cache → KeepsDirty old.cache new.cache × AreApart new.cache
all_keep p w [] old new is apart =
    subst (λ (h : Holding). KeepsDirty old.cache h.cache × AreApart h.cache) (sym is)
    (record { each = λ f i c here. inl here }, apart)
all_keep p w (v ∷ vs) old new is apart =
    let before = all_keep p w vs old is.0 is.1 apart in (
      dirty_then old.cache is.0.cache new.cache before.0 (evicted_keeps v.0 v.1 is.0 new is.2.evicts before.1),
      evicted_apart v.0 v.1 is.0 new is.2.evicts before.1,
    )

pub evictions_keep : (p : ℕ) (w : Option ℕ) (old new : Holding) → EvictsAll p w old new → AreApart old.cache
    → KeepsDirty old.cache new.cache
evictions_keep p w old new x apart = (all_keep p w x.places old new x.each apart).0

-- if that many pages are free, no extent is evicted
none_go : (p n : ℕ) (vs : List (ℕ × ℕ)) (old new : Holding) → n ≤ length (free_of old.store p)
    → AreEvicted p (Some n) vs old new → new ≡ old
none_go p n [] old new free is = is
none_go p n (v ∷ vs) old new free is =
    let before = none_go p n vs old is.0 free is.1 in
    absurd (omega (arith, is.2.wants, free, ap (λ (h : Holding). length (free_of h.store p)) before))

pub nothing_goes : (p n : ℕ) (old new : Holding) → n ≤ length (free_of old.store p) → EvictsAll p (Some n) old new
    → new ≡ old
nothing_goes p n old new free x = none_go p n x.places old new free x.each

pub apart_of : {h : Holding} → IsSound h.store h.cache → AreApart h.cache
apart_of sound = record { each = λ f. (sound.files f).apart }

-- Reads.

module _ (f from to : ℕ) (old hit : Holding) (pins : List Slice) (gaps : List Span)
    (x : PinsRange f from to old hit pins gaps) where
  hit_extents : (g : ℕ) → extents_in hit.cache.files g ≡ extents_in old.cache.files g
  hit_extents g = ap (λ fs. extents_in fs g) x.counted.files ∙ x.rooms.extents g

  hit_keeps : KeepsCover old.cache hit.cache
  hit_keeps = cover_same old.cache hit.cache hit_extents

  hit_apart : AreApart old.cache → AreApart hit.cache
  hit_apart apart = record { each = λ g. subst (IsApart 0) (sym (hit_extents g)) (apart.each g) }

  hit_gaps : All (IsGapSpan (extents_in hit.cache.files f)) gaps
  hit_gaps = subst (λ es. All (IsGapSpan es) gaps) (sym (hit_extents f)) x.tile.empty

  hit_numbered : is_numbered old.cache.files f ≡ true → is_numbered hit.cache.files f ≡ true
  hit_numbered there =
      (let b = numbered_bounds old.cache.files f there in
      numbered_yes hit.cache.files f b.0 (omega (arith, b.1, ap length x.counted.files, x.rooms.files)))

filled_keeps : (f from to : ℕ) (mid full : Holding) (beside : List Place) (gaps : List Span) (disk : Disk)
    (xs : List Slice) → is_numbered mid.cache.files f ≡ true → AreInOrder from to gaps
    → All (IsGapSpan (extents_in mid.cache.files f)) gaps → FillsFile f from to beside gaps disk mid full xs
    → KeepsCover mid.cache full.cache
filled_keeps f from to mid full beside gaps disk xs there order empty x =
    let fills = x.range.fills in
    let es = extents_in mid.cache.files f in
    let fits = made_fits mid.store x.range.mid (file_in mid.cache.files f).pool from to es gaps fills.made order empty
    fills.each.each in
    let now : extents_in full.cache.files f ≡ all_put es fills.made =
    extents_filled f from to mid full beside gaps disk xs there x ∙ fills.extents in
    record {
      each = λ g i c is. elim (cases_eq g f) [
        | inl same ↦ ap (λ n. cover (extents_in full.cache.files n) i) same ∙ ap (λ l. cover l i) now
            ∙ cover-stays es fills.made i c fits (ap (λ n. cover (extents_in mid.cache.files n) i) (sym same) ∙ is)
        | inr ne ↦ ap (λ fs. cover (extents_in fs g) i) x.files
            ∙ ap (λ (y : CachedFile). cover y.extents.extents i) (file_other mid.cache.files f g (let y : CachedFile =
            record { pool = (file_in mid.cache.files f).pool; extents = x.extents } in y) ne) ∙ is
      ];
    }

module _ (f at n : ℕ) (disk : Disk) (old new : Holding) (xs : List Slice) (there : is_numbered old.cache.files f ≡ true)
    (x : ReadsFile f at n disk old new xs) where
  abbrev r : ReadsRange f x.range.from x.range.to disk old new xs
  r = x.reads

  abbrev pinned : PinsRange f x.range.from x.range.to old r.hit r.pins r.gaps
  pinned = r.pinned

  abbrev Fills : Type 0
  Fills = FillsAfter f x.range.from x.range.to r.pins r.gaps disk r.hit new xs

  after_room : (u : Fills) → KeepsCover u.mid.cache new.cache
  after_room u =
      let mid = u.mid in
      let keeps = u.less.keeps in
      let b =
      numbered_bounds r.hit.cache.files f (hit_numbered f x.range.from x.range.to old r.hit r.pins r.gaps pinned
      there) in
      let mid_there = numbered_yes mid.cache.files f b.0 (omega (arith, b.1, keeps.count)) in
      let empty =
      gaps_kept r.hit mid f r.gaps keeps (hit_gaps f x.range.from x.range.to old r.hit r.pins r.gaps pinned) in
      subst (KeepsCover mid.cache) (sym u.cache)
      (filled_keeps f x.range.from x.range.to mid u.full (places r.pins) r.gaps disk xs mid_there pinned.tile.gaps
      empty u.fills)

  -- no byte was missing
  all_shared : IsAllShared r.pins r.gaps r.hit new xs → KeepsCover r.hit.cache new.cache
  all_shared e = cover_same r.hit.cache new.cache (λ g. ap (λ (h : Holding). extents_in h.cache.files g) e.same)

  pub read_keeps : AreApart old.cache → KeepsDirty old.cache new.cache
  read_keeps apart =
      let apart' = hit_apart f x.range.from x.range.to old r.hit r.pins r.gaps pinned apart in
      let later : KeepsDirty r.hit.cache new.cache = elim r.completed [
        | inl e ↦ dirty_of r.hit.cache new.cache (all_shared e)
        | inr u ↦
            dirty_cover r.hit.cache u.mid.cache new.cache
            (evictions_keep (file_in r.hit.cache.files f).pool (Some (gap_pages r.gaps)) r.hit u.mid u.victims apart')
            (after_room u)
      ] in
      dirty_then old.cache r.hit.cache new.cache
      (dirty_of old.cache r.hit.cache (hit_keeps f x.range.from x.range.to old r.hit r.pins r.gaps pinned)) later

  -- if the pages for its gaps are free
  pub read_keeps_all : gap_pages r.gaps ≤ length (free_of r.hit.store (file_in r.hit.cache.files f).pool)
      → KeepsCover old.cache new.cache
  read_keeps_all free =
      let later : KeepsCover r.hit.cache new.cache = elim r.completed [
        | inl e ↦ all_shared e
        | inr u ↦
            (let same = nothing_goes (file_in r.hit.cache.files f).pool (gap_pages r.gaps) r.hit u.mid free u.victims in
            subst (λ (h : Holding). KeepsCover h.cache new.cache) same (after_room u))
      ] in
      cover_then old.cache r.hit.cache new.cache (hit_keeps f x.range.from x.range.to old r.hit r.pins r.gaps pinned)
      later

leaves_keeps : (f from to : ℕ) (old new : Holding) (y : Refusal) → AreApart old.cache → LeavesRange f from to old new y
    → KeepsDirty old.cache new.cache
leaves_keeps f from to old new y apart (inl (is, x)) =
    dirty_of old.cache new.cache (cover_same old.cache new.cache x.same.extents)
leaves_keeps f from to old new y apart (inr x) =
    let u = x.undone in
    let hit = x.hit in
    let apart' = hit_apart f from to old hit x.pins x.gaps x.pinned apart in
    let last : KeepsCover u.mid.cache new.cache =
    subst (KeepsCover u.mid.cache) (sym u.cache) (cover_same u.mid.cache u.full.cache u.same.extents) in
    dirty_then old.cache hit.cache new.cache
    (dirty_of old.cache hit.cache (hit_keeps f from to old hit x.pins x.gaps x.pinned))
    (dirty_cover hit.cache u.mid.cache new.cache
    (evictions_keep (file_in hit.cache.files f).pool (Some (gap_pages x.gaps)) hit u.mid u.victims apart') last)

pub refused_keeps : (f at n : ℕ) (disk : Disk) (old new : Holding) (y : Refusal) → AreApart old.cache
    → RefusesRead f at n disk old new y → KeepsDirty old.cache new.cache
refused_keeps f at n disk old new y apart x = leaves_keeps f x.range.from x.range.to old new y apart x.leaves

-- Writes, outside the range that is written.

module _ (f at : ℕ) (source : List Slice) (old new : Holding) (there : is_numbered old.cache.files f ≡ true)
    (x : WritesFile f at source old new) where
  abbrev mid : Holding
  mid = x.mid

  abbrev start : Holding
  start = record { store = old.store; cache = x.room.reserved }

  start_keeps : KeepsCover old.cache x.room.reserved
  start_keeps = cover_same old.cache x.room.reserved x.room.rooms.extents

  -- the byte is not in the range
  abbrev IsBeside : (g i : ℕ) → Type 0
  IsBeside g i = g ≡ f → (i < at) ⊎ (at + byte_len source ≤ i)

  abbrev written : CachedFile
  written = record { pool = (file_in mid.cache.files f).pool; extents = x.over.puts.extents }

  numbered_mid : (0 < f) × (f ≤ length mid.cache.files)
  numbered_mid =
      (let b = numbered_bounds old.cache.files f there in
      (b.0, omega (arith, b.1, x.room.rooms.files, x.room.gives_up.keeps.count)))

  now_is : extents_in new.cache.files f ≡ x.over.puts.extents.extents
  now_is = ap (λ fs. extents_in fs f) x.over.puts.files
      ∙ ap (λ (y : CachedFile). y.extents.extents) (file_same mid.cache.files f written numbered_mid.0 numbered_mid.1)

  beside_range : (i : ℕ) → (i < at) ⊎ (at + byte_len source ≤ i)
      → cover x.over.puts.extents.extents i ≡ cover (extents_in mid.cache.files f) i
  beside_range i out =
      let e = x.over.bytes in
      let begins = x.over.prepares.begins in
      let ends = prepared_ends x.over.prepares in
      let none : is_over e i ≡ false =
      elim out [
        | inl h ↦ over_not e i (inl (omega (arith, h, begins)))
        | inr h ↦
            over_not e i (inr (omega (arith, h, ends)))
      ] in
      x.over.puts.adds.each i ∙ ap (λ b. cond b (Some (cell_at e i)) (cover (extents_in mid.cache.files f) i)) none

  after_write : (g i : ℕ) → IsBeside g i
      → cover (extents_in new.cache.files g) i ≡ cover (extents_in mid.cache.files g) i
  after_write g i out = elim (cases_eq g f) [
    | inl same ↦ ap (λ n. cover (extents_in new.cache.files n) i) same ∙ ap (λ es. cover es i) now_is
        ∙ beside_range i (out same) ∙ ap (λ n. cover (extents_in mid.cache.files n) i) (sym same)
    | inr ne ↦ ap (λ fs. cover (extents_in fs g) i) x.over.puts.files
        ∙ ap (λ (y : CachedFile). cover y.extents.extents i) (file_other mid.cache.files f g written ne)
  ]

  pub write_keeps : AreApart old.cache → (g i : ℕ) (c : Cell) → IsBeside g i
      → cover (extents_in old.cache.files g) i ≡ Some c → (cover (extents_in new.cache.files g) i ≡ Some c)
      ⊎ (c.dirty ≡ false)
  write_keeps apart g i c out is =
      let apart' : AreApart x.room.reserved =
      record { each = λ h. subst (IsApart 0) (sym (x.room.rooms.extents h)) (apart.each h) } in
      let evicted =
      evictions_keep (file_in old.cache.files f).pool (Some (copied_pages (file_in old.cache.files f).pool source))
      start mid x.room.victims apart' in
      elim ((dirty_then old.cache x.room.reserved mid.cache (dirty_of old.cache x.room.reserved start_keeps)
      evicted).each g i c is) [
        | inl same ↦ inl (after_write g i out ∙ same)
        | inr clean ↦ inr clean
      ]

  -- if the pages of its copies are free
  pub write_keeps_all : (let p = (file_in old.cache.files f).pool in
      copied_pages p source ≤ length (free_of old.store p)) → (g i : ℕ) (c : Cell) → IsBeside g i
      → cover (extents_in old.cache.files g) i ≡ Some c → cover (extents_in new.cache.files g) i ≡ Some c
  write_keeps_all free g i c out is =
      let p = (file_in old.cache.files f).pool in
      let same = nothing_goes p (copied_pages p source) start mid free x.room.victims in
      after_write g i out ∙ (subst (λ (h : Holding). KeepsCover old.cache h.cache) (sym same) start_keeps).each g i c is
