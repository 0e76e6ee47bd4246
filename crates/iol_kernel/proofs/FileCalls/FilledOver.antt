-- New bytes are placed in a file's pool, written over those of the file, and released: the steps, one after another.
use Rattle.std.proofs.Common.{inl, inr, ◌≡◌, ℕ, ◌<◌, ◌≤◌, ◌++◌, ◌^◌, List, [], length, map, refl, sym, ap, ◌∙◌, subst}
use Rattle.std.proofs.Common.{arith, true}
use Rattle.std.proofs.lemmas.Bool.{cases_lt}
use Rattle.iol_core.specs.Text.{Text, bytes_of}
use Rattle.iol_core.specs.NumberedLists.{is_numbered}
use Rattle.iol_core.specs.declared.limits.TheConstants.{MAX_AGGREGATE_BYTES}
use Rattle.iol_core.specs.declared.numbers.BufId.{BufId}
use Rattle.iol_arena.specs.State.{page_count}
use Rattle.iol_back.specs.Disk.{overwritten}
use Rattle.iol_hold.specs.Moves.{Covers, Moves, SameLists, pool_meant}
use Rattle.iol_hold.specs.Places.{byte_len}
use Rattle.iol_hold.specs.Releases.{FreesOnly}
use Rattle.iol_hold.specs.StoreState.{Stored, AllReclaimed}
use Rattle.iol_hold.specs.Texts.{AllReadable, bufs_of, text_of}
use Rattle.iol_hold.specs.declared.slices.Slice.{Slice}
use Rattle.iol_hold.proofs.Counts.{tally-append, tally_none}
use Rattle.iol_hold.proofs.Moves.{stays_trans}
use Rattle.iol_hold.proofs.PageChanges.{keeps_pages_frees}
use Rattle.iol_hold.proofs.ReadSlices.{readable_stays}
use Rattle.iol_cache.specs.CacheState.{Cached, held}
use Rattle.iol_cache.specs.Composition.{copied_pages}
use Rattle.iol_cache.specs.Contents.{Mirrors, bytes_in_slot}
use Rattle.iol_cache.specs.Evictions.{Holding}
use Rattle.iol_cache.specs.Overwrites.{IsWritten, KeepsFiles, KeepsMirrors, KeepsOthers, OnlyMakesRoom, WritesFile}
use Rattle.iol_cache.specs.PageChanges.{FillsLowest}
use Rattle.iol_cache.specs.SharedBytes.{CountsBelow}
use Rattle.iol_cache.specs.Sound as cache
use Rattle.iol_cache.proofs.RangeReads.PageChanges.{pages_kept}
use Rattle.iol_cache.proofs.Extents.OtherCalls.{mirrors_stay, slot_stays, sound_beside}
use Rattle.iol_kernel.specs.FileCalls.{holding_of}
use Rattle.iol_kernel.specs.KernelState.{KernelState, IsSound, objects_of}
use Rattle.iol_kernel.specs.FileWrites.{pool_of_file}
use Rattle.iol_kernel.proofs.FileCalls.FileWrites.{Puts, SamePools, unwritten_pools, written_pools}
use Rattle.iol_kernel.proofs.FileCalls.FileNames.{cache_sound}
use Rattle.iol_kernel.proofs.FileCalls.ExtentChanges.{Recaches}
use Rattle.iol_kernel.proofs.State.Slots.{uses_few}
use Rattle.iol_kernel.proofs.State.Uses.{all_few}

-- Bytes were placed, and only the caller holds them.
module _ (h : KernelState) (s : Stored) (xs : List Slice) (sound : IsSound h) (fills : Moves h.store s [] (bufs_of xs))
    (pools : s.pools ≡ h.store.pools) (pages : page_count s.arena ≡ page_count h.store.arena) where
  abbrev c : Cached
  c = h.cache

  pub filled_covers : Covers s (held h.cache.files ++ bufs_of xs)
  filled_covers =
      record {
        each =
            λ b. omega (
              arith,
              tally-append b (held c.files) (bufs_of xs),
              fills.counts.each b,
              tally_none b,
              (cache_sound h sound).covered.each b,
            );
      }

  filled_held : Covers s (held c.files)
  filled_held = record { each = λ b. omega (arith, tally-append b (held c.files) (bufs_of xs), filled_covers.each b) }

  pub filled_few : byte_len xs ≤ MAX_AGGREGATE_BYTES → CountsBelow s (2 ^ 60)
  filled_few small =
      record {
        each =
            λ b. omega (
              arith,
              fills.counts.each b,
              tally_none b,
              sound.counted.each b,
              all_few b h.domains (objects_of h) sound.limits,
              uses_few b xs,
              small,
            );
      }

  pub filled_sound : cache.IsSound s h.cache
  filled_sound =
      sound_beside [] (bufs_of xs) c (cache_sound h sound)
      (record {
        each =
            λ b. omega (arith, tally-append b (held c.files) [], tally_none b, (cache_sound h sound).covered.each b);
      }) fills
      (ap (map pool_meant) pools) pages

  -- whichever extents change
  pub still_covers : {t : Stored} {left : List BufId} → Moves s t (held h.cache.files) left → Covers t (bufs_of xs)
  still_covers moves =
      record {
        each =
            λ b. omega (arith, moves.counts.each b, filled_covers.each b, tally-append b (held c.files) (bufs_of xs));
      }

  -- They are written, and then released.
  module _ (t u : Stored) (d : Cached) (f : ℕ) (readable : AllReadable s xs)
      (moves : Moves s t (held h.cache.files) (held d.files)) (lists : SameLists s t) (reclaims : AllReclaimed s
      → AllReclaimed t) (filling : FillsLowest (pool_of_file h f) s t) (after : cache.IsSound t d)
      (mirrors : KeepsMirrors (record { store = s; cache = h.cache }) (record { store = t; cache = d }))
      (gone : Moves t u (bufs_of xs) []) (lists' : SameLists t u) (frees : FreesOnly t u) (reclaims' : AllReadable t xs
      → AllReclaimed t → AllReclaimed u) where
    both_covers : Covers t (held d.files ++ bufs_of xs)
    both_covers =
        record {
          each =
              λ b. omega (
                arith,
                moves.counts.each b,
                filled_covers.each b,
                tally-append b (held c.files) (bufs_of xs),
                tally-append b (held d.files) (bufs_of xs),
              );
        }

    left_covers : Covers u (held d.files)
    left_covers =
        record {
          each =
              λ b. omega (
                arith,
                both_covers.each b,
                gone.counts.each b,
                tally_none b,
                tally-append b (held d.files) (bufs_of xs),
              );
        }

    abbrev mid : Holding
    mid = record { store = s; cache = h.cache }

    abbrev put : Holding
    put = record { store = t; cache = d }

    abbrev new : Holding
    new = record { store = u; cache = d }

    pub through : SamePools mid put → (AllReclaimed h.store → AllReclaimed s) → Recaches h.store u h.cache d
    through same reclaimed = record {
      moves = record {
        counts =
            record {
              each =
                  λ b. omega (arith, fills.counts.each b, moves.counts.each b, gone.counts.each b, tally_none b);
            };
        stays = stays_trans (stays_trans fills.stays moves.stays) gone.stays;
        still = λ x. gone.still (moves.still (fills.still x));
        tidy = λ x. gone.tidy (moves.tidy (fills.tidy x));
      };
      lists = lists' ∙ lists ∙ ap (map pool_meant) pools;
      reclaims = λ x. reclaims' (readable_stays xs moves.stays (still_covers moves) readable) (reclaims (reclaimed x));
      pages = (keeps_pages_frees frees).count ∙ (pages_kept filling).count ∙ pages;
      files = same.0;
      pools = same.1;
      sound = sound_beside (bufs_of xs) [] d after both_covers gone lists' (keeps_pages_frees frees).count;
    }

    early : (stored : List (List ℕ)) (g : ℕ) → bytes_in_slot s stored c.files g ≡ bytes_in_slot h.store stored c.files g
    early stored g = slot_stays stored c.files g (cache_sound h sound).files fills.stays filled_held

    late : (stored : List (List ℕ)) (g : ℕ) → bytes_in_slot u stored d.files g ≡ bytes_in_slot t stored d.files g
    late stored g = slot_stays stored d.files g after.files gone.stays left_covers

    mirrored : (stored : List (List ℕ)) → Mirrors h.store stored c.files → Mirrors s stored c.files
    mirrored stored m = mirrors_stay stored c.files (cache_sound h sound).files fills.stays filled_held m

    pub through_mirrors : KeepsMirrors (holding_of h) new
    through_mirrors =
        record {
          each =
              λ stored m. mirrors_stay stored d.files after.files gone.stays left_covers
              (mirrors.each stored (mirrored stored m));
        }

    pub through_puts : (at : ℕ) (w : Text) → IsWritten f at xs mid put → KeepsOthers f mid put → text_of s xs ≡ w
        → Puts f at (bytes_of w) (holding_of h) new
    through_puts at w written others text = record {
      written = λ stored m begins.
          late stored f
          ∙ written.each stored (mirrored stored m) (omega (arith, begins, ap length (early stored f)))
          ∙ ap (λ z. overwritten at (bytes_of z) (bytes_in_slot s stored c.files f)) text
          ∙ ap (overwritten at (bytes_of w)) (early stored f);
      others = record {
        each = λ stored m g ne. late stored g ∙ others.each stored (mirrored stored m) g ne
            ∙ early stored g;
      };
      mirrors = through_mirrors;
    }

    pub through_files : KeepsFiles mid put → KeepsFiles (holding_of h) new
    through_files keeps =
        record {
          each = λ stored m. record {
            each = λ g. late stored g ∙ (keeps.each stored (mirrored stored m)).each g
                ∙ early stored g;
          };
        }

    pub put_pools : (at : ℕ) → is_numbered h.cache.files f ≡ true → (0 < byte_len xs → WritesFile f at xs mid put)
        → (byte_len xs ≡ 0 → put ≡ mid) → SamePools mid put
    put_pools at there writes nothing = elim (cases_lt 0 (byte_len xs)) [
      | inl some ↦ written_pools f at xs mid put there (writes some)
      | inr none ↦ subst (λ (x : Holding). SamePools mid x) (sym (nothing (omega (arith, none)))) (refl, λ g. refl)
    ]

    pub unput_pools : OnlyMakesRoom (pool_of_file h f) (copied_pages (pool_of_file h f) xs) mid put → SamePools mid put
    unput_pools room = unwritten_pools (pool_of_file h f) (copied_pages (pool_of_file h f) xs) mid put room
