-- A file in which a range was overwritten, and the others.
use Rattle.std.proofs.Common.{inl, inr, ◌≡◌, ◌∙◌, ℕ, ◌+◌, ◌-◌, ◌<◌, ◌≤◌, ◌⊎◌, true, false, List, ◌++◌, length, map}
use Rattle.std.specs.List.{AllByRecursion}
use Rattle.std.proofs.Common.{get_or, max, Some, refl, sym, ap, arith, subst}
use Rattle.std.specs.Prelude.{slice_index}
use Rattle.std.proofs.lemmas.Bool.{cases_eq, cases_lt}
use Rattle.std.proofs.lemmas.List.{ext_get_or, get_or-map, length-map}
use Rattle.std.proofs.lemmas.List.FromFn.{get_or-map-range_with_len, length-map-range_with_len}
use Rattle.iol_back.specs.Disk.{content, overwritten}
use Rattle.iol_core.specs.NumberedLists.{is_numbered}
use Rattle.iol_core.specs.Text as text
use Rattle.iol_hold.specs.Moves.{Covers, Moves, Stays, tally}
use Rattle.iol_hold.specs.Places.{byte_len, places}
use Rattle.iol_hold.specs.Texts.{bufs_of, byte_at, text_of}
use Rattle.iol_hold.specs.declared.slices.Slice.{Slice}
use Rattle.iol_hold.proofs.Counts.{bufs-append, tally-append, tally_none}
use Rattle.iol_hold.proofs.Moves.{shares_move, stays_trans}
use Rattle.iol_hold.proofs.ReadSlices.{bytes_of-labelled, length-text_of, text_stays}
use Rattle.iol_extent.specs.Extents.{Extent, IsApart, cell_at, cover, end_of, no_place, unmet}
use Rattle.iol_extent.specs.declared.spans.Span.{Span}
use Rattle.iol_cache.specs.declared.files.CachedFile.{CachedFile}
use Rattle.iol_cache.specs.CacheState.{extents_in, file_in, held, all_parts}
use Rattle.iol_cache.specs.Composition.{KeepsOwn}
use Rattle.iol_cache.specs.Contents.{AreStored, IsStored, byte_in, file_byte, file_bytes, file_len, read_or}
use Rattle.iol_cache.specs.Evictions.{Holding}
use Rattle.iol_cache.specs.Overwrites.{IsWritten, KeepsMirrors, KeepsOthers, LiesDirty, Overwrites, is_dirty}
use Rattle.iol_cache.specs.Replacement.{put_some}
use Rattle.iol_cache.specs.SharedBytes.{place_in, place_over, places_over}
use Rattle.iol_cache.specs.Sound.{IsLaid, IsSound}
use Rattle.iol_cache.specs.Writes.{Changes, parts_put}
use Rattle.iol_cache.specs.declared.write.cut.Replacement.{Replacement}
use Rattle.iol_cache.proofs.Extents.ChangedFile as changed
use Rattle.iol_cache.proofs.Evictions.Files.{file_stays, read_stays, stored_stays}
use Rattle.iol_cache.proofs.RangeWrites.Overlay.{beside_is, last_end-over, map_over, over_is}
use Rattle.iol_cache.proofs.RangeWrites.Preparation.{prepared_covers, prepared_ends, prepared_laid, prepared_long}
use Rattle.iol_cache.proofs.RangeWrites.Preparation.{prepared_moves, prepared_sound}
use Rattle.iol_cache.proofs.RangeWrites.Replacement.{some-parts}
use Rattle.iol_cache.proofs.RangeReads.SharedBytes.{length-places_over}
use Rattle.iol_cache.proofs.Extents.HeldSlices.{covers_file}
use Rattle.iol_cache.proofs.RangeWrites.ReplacedRange as put

module _ (old new : Holding) (f at : ℕ) (source : List Slice) (sound : IsSound old.store old.cache)
    (there : is_numbered old.cache.files f ≡ true) (sound' : IsSound new.store new.cache) (some : 0 < byte_len source)
    (w : Overwrites f at source old new) where
  abbrev n : ℕ
  n = byte_len source

  abbrev es : List Extent
  es = extents_in old.cache.files f

  abbrev e : Extent
  e = w.bytes

  abbrev p : ℕ
  p = (file_in old.cache.files f).pool

  abbrev ready : Holding
  ready = record { store = w.ready; cache = old.cache }

  ready_sound : IsSound w.ready old.cache
  ready_sound = prepared_sound w.prepares old.cache sound

  ready_held : Covers w.ready (held old.cache.files ++ bufs_of (parts_put w.left w.right e))
  ready_held = prepared_covers w.prepares (held old.cache.files) sound.covered

  abbrev parts : List Slice
  parts = parts_put w.left w.right e

  abbrev range : Span
  range = record { from = at; to = at + n }

  abbrev whole : Replacement
  whole = record { left = w.left; right = w.right; bytes = e }

  abbrev change : Changes f parts ready new
  change = put.changes ready new f range whole ready_sound there w.puts ready_held

  file_is : file_in new.cache.files f ≡ (let x : CachedFile = record { pool = p; extents = w.puts.extents } in x)
  file_is = changed.file_is ready new f parts ready_sound there change ready_held

  extents_is : extents_in new.cache.files f ≡ w.puts.extents.extents
  extents_is = ap (λ (y : CachedFile). y.extents.extents) file_is

  other_is : (g : ℕ) → (g ≡ f → ⊥) → file_in new.cache.files g ≡ file_in old.cache.files g
  other_is = changed.other_is ready new f parts ready_sound there change ready_held

  ends : end_of e ≡ at + n
  ends = prepared_ends w.prepares

  long : byte_len e.parts ≡ n
  long = prepared_long w.prepares

  ready_stays : Stays old.store w.ready
  ready_stays = (prepared_moves w.prepares).stays

  stays : Stays old.store new.store
  stays = stays_trans ready_stays w.puts.moves.stays

  covers_es : Covers w.ready (bufs_of (all_parts es))
  covers_es = covers_file old.cache.files f ready_sound.covered

  covers_new : Covers new.store (bufs_of (all_parts w.puts.extents.extents))
  covers_new =
      subst (λ (l : List Extent). Covers new.store (bufs_of (all_parts l))) extents_is
      (covers_file new.cache.files f sound'.covered)

  laid_new : AllByRecursion (IsLaid w.ready p) w.puts.extents.extents
  laid_new = put.laid_put ready new f range whole ready_sound there w.puts ready_held (omega (arith, some))
      w.prepares.before w.prepares.after (prepared_laid w.prepares)

  covers_own : Covers new.store (bufs_of e.parts)
  covers_own = record {
    each = λ b. omega (
      arith,
      covers_new.each b,
      ap (λ (l : List Extent). tally b (bufs_of (all_parts l))) w.puts.is,
      some-parts b (put_some (put_some (unmet es at (at + n)) w.left) w.right) e,
    );
  }

  apart : IsApart 0 es
  apart = (sound.files f).apart

  abbrev es' : List Extent
  es' = w.puts.extents.extents

  over : (i : ℕ) → at ≤ i → i < at + n → cover es' i ≡ Some (cell_at e i)
  over i lo hi =
      over_is es es' e apart w.puts.apart (omega (arith, some, long)) w.puts.adds i
      (omega (arith, lo, w.prepares.begins)) (omega (arith, hi, ends))

  beside : (i : ℕ) → (i < at) ⊎ (at + n ≤ i) → cover es' i ≡ cover es i
  beside i out =
      beside_is es es' e apart w.puts.apart (omega (arith, some, long)) w.puts.adds i
      (elim out [ inl lo ↦ inl (omega (arith, lo, w.prepares.begins)) | inr hi ↦ inr (omega (arith, hi, ends)) ])

  -- The bytes that were written.

  abbrev bytes : List ℕ
  bytes = text.bytes_of (text_of old.store source)

  text_is : text_of new.store e.parts ≡ text.labelled p bytes
  text_is =
      text_stays {old = w.prepares.mid} {new = new.store} e.parts
      (stays_trans (shares_move w.prepares.shares).stays w.puts.moves.stays) covers_own w.prepares.composes.readable
      ∙ w.prepares.composes.is

  bytes_are : text.bytes_of (text_of new.store e.parts) ≡ bytes
  bytes_are = ap text.bytes_of text_is ∙ bytes_of-labelled p bytes

  bytes_long : length bytes ≡ n
  bytes_long =
      omega (arith, length-map (text_of old.store source) (λ (b : ℕ × ℕ). b.0), length-text_of old.store source)

  byte_over : (k : ℕ) → k < n → byte_in new.store (get_or (places e.parts) k no_place) ≡ get_or bytes k 0
  byte_over k h =
      let ps = places e.parts in
      let t = new.store in
      let first : ℕ × ℕ → ℕ = λ b. b.0 in
      let none : ℕ × ℕ = (0, 0) in
      let there : k < length ps = omega (arith, h, long) in
      let a : get_or (map first (map (byte_at t) ps)) k 0 ≡ first (get_or (map (byte_at t) ps) k none) =
      get_or-map first (map (byte_at t) ps) k none 0 (omega (arith, there, length-map ps (byte_at t))) in
      let b : get_or (map (byte_at t) ps) k none ≡ byte_at t (get_or ps k no_place) =
      get_or-map (byte_at t) ps k no_place none there in
      sym (a ∙ ap first b) ∙ ap (λ l. get_or l k 0) bytes_are

  module _ (stored : List ℕ) where
    inside : (k : ℕ) → k < length bytes → file_byte (byte_in new.store) stored es' (at + k) ≡ get_or bytes k 0
    inside k h =
        let i = at + k in
        let is : i - e.at ≡ k = omega (arith, w.prepares.begins) in
        ap (read_or (byte_in new.store) (slice_index stored i)) (over i (omega arith) (omega (arith, h, bytes_long)))
        ∙ ap (λ z. byte_in new.store (get_or (places e.parts) z no_place)) is
        ∙ byte_over k (omega (arith, h, bytes_long))

    outside : (i : ℕ) → (i < at) ⊎ (at + n ≤ i)
        → file_byte (byte_in new.store) stored es' i ≡ file_byte (byte_in old.store) stored es i
    outside i out =
        read_stays p es' (slice_index stored i) i w.puts.moves.stays covers_new laid_new
        ∙ ap (read_or (byte_in w.ready) (slice_index stored i)) (beside i out)
        ∙ read_stays p es (slice_index stored i) i ready_stays covers_es (sound.files f).laid

    file_long : file_len stored es' ≡ max (at + length bytes) (file_len stored es)
    file_long = omega (
      arith,
      last_end-over es es' e apart w.puts.apart (omega (arith, some, long)) w.puts.adds,
      ends,
      bytes_long,
    )

    file_written : at ≤ length (file_bytes (byte_in old.store) stored es)
        → file_bytes (byte_in new.store) stored es' ≡ overwritten at bytes (file_bytes (byte_in old.store) stored es)
    file_written begins = map_over (file_byte (byte_in old.store) stored es) (file_byte (byte_in new.store) stored es')
        bytes at (file_len stored es) (file_len stored es')
        (omega (
          arith,
          begins,
          length-map-range_with_len (file_byte (byte_in old.store) stored es) 0
              (file_len stored es),
        )) file_long inside
        (λ i out. outside i (elim out [ inl lo ↦ inl lo | inr hi ↦ inr (omega (arith, hi, bytes_long)) ]))

    dirty_stored : (i : ℕ) → at ≤ i → i < at + n → IsStored new.store stored i (cover es' i)
    dirty_stored i lo hi =
        subst (IsStored new.store stored i) (sym (over i lo hi))
        (λ clean. absurd (true_false (sym w.prepares.dirty ∙ clean)))
      where
        true_false : true ≡ false → ⊥
        true_false h = cc

    file_mirrors : AreStored old.store stored es → AreStored new.store stored es'
    file_mirrors all = record {
      each = λ i. (let out : (i < at) ⊎ (at + n ≤ i) → IsStored new.store stored i (cover es' i) = λ o.
          stored_stays p es' stored i w.puts.moves.stays covers_new laid_new
          (subst (IsStored w.ready stored i) (sym (beside i o))
          (stored_stays p es stored i ready_stays covers_es (sound.files f).laid (all.each i))) in
          elim (cases_lt i at) [
            | inl lo ↦ out (inl lo)
            | inr ge ↦ elim (cases_lt i (at + n)) [ inl lt ↦ dirty_stored i ge lt | inr hi ↦ out (inr hi) ]
          ]);
    }

  -- The other files.

  covers_other : (g : ℕ) → (g ≡ f → ⊥) → Covers new.store (bufs_of (all_parts (extents_in old.cache.files g)))
  covers_other g ne =
      subst (λ (y : CachedFile). Covers new.store (bufs_of (all_parts y.extents.extents))) (other_is g ne)
      (covers_file new.cache.files g sound'.covered)

  pub over_written : IsWritten f at source old new
  over_written = record {
    each = λ slots m begins. ap (file_bytes (byte_in new.store) (content slots f)) extents_is
        ∙ file_written (content slots f) begins;
  }

  pub over_others : KeepsOthers f old new
  over_others = record {
    each = λ slots m g ne. ap (λ (y : CachedFile). file_bytes (byte_in new.store) (content slots g) y.extents.extents)
        (other_is g ne)
        ∙ (file_stays (file_in old.cache.files g).pool (content slots g) (extents_in old.cache.files g) stays
        (covers_other g ne) (sound.files g).laid (m.each g)).bytes;
  }

  pub over_mirrors : KeepsMirrors old new
  over_mirrors = record {
    each = λ slots m. record {
      each = λ g. elim (cases_eq g f) [
        | inl same ↦ subst (λ k. AreStored new.store (content slots k) (extents_in new.cache.files k)) (sym same)
            (subst (AreStored new.store (content slots f)) (sym extents_is) (file_mirrors (content slots f) (m.each f)))
        | inr ne ↦ subst (λ (y : CachedFile). AreStored new.store (content slots g) y.extents.extents)
            (sym (other_is g ne))
            (file_stays (file_in old.cache.files g).pool (content slots g) (extents_in old.cache.files g) stays
            (covers_other g ne) (sound.files g).laid (m.each g)).mirrors
      ];
    };
  }

  -- The places of the written bytes.

  places_are : places_over es' at (at + n) ≡ places e.parts
  places_are =
      ext_get_or no_place _ _ (omega (arith, length-places_over es' at (at + n), long))
      (λ i h. each i (omega (arith, h, length-places_over es' at (at + n))))
    where
      each : (i : ℕ) → i < n → get_or (places_over es' at (at + n)) i no_place ≡ get_or (places e.parts) i no_place
      each i h =
          get_or-map-range_with_len (place_over es') at ((at + n) - at) i (at + i) no_place (omega (arith, h)) refl
          ∙ ap place_in (over (at + i) (omega arith) (omega (arith, h)))
          ∙ ap (λ z. get_or (places e.parts) z no_place) (let is : (at + i) - e.at ≡ i =
          omega (arith, w.prepares.begins) in is)

  pub over_lies : LiesDirty f at source new.cache
  over_lies = record {
    dirty =
        λ i lo hi. subst (λ (l : List Extent). is_dirty (cover l i)) (sym extents_is)
        (subst is_dirty (sym (over i lo hi)) w.prepares.dirty);
    own = subst (λ (y : CachedFile). KeepsOwn y.pool (places source) (places_over y.extents.extents at (at + n)))
        (sym file_is) (subst (KeepsOwn p (places source)) (sym places_are) w.prepares.composes.own);
  }

  -- Holds.

  pub over_moves : Moves old.store new.store (held old.cache.files) (held new.cache.files)
  over_moves =
      let first = prepared_moves w.prepares in
      let last = w.puts.moves in
      record {
        counts = record {
          each = λ b. omega (
            arith,
            first.counts.each b,
            last.counts.each b,
            tally_none b,
            ap (tally b) (bufs-append (all_parts es) parts),
            tally-append b (bufs_of (all_parts es)) (bufs_of parts),
            changed.held_is ready new f parts ready_sound there change ready_held b,
          );
        };
        stays = stays;
        still = λ h. last.still (first.still h);
        tidy = λ h. last.tidy (first.tidy h);
      }
