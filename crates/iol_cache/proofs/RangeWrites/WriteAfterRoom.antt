-- A write, from the room that is made for it on.
use Rattle.std.proofs.Common.{◌≡◌, ◌∙◌, ℕ, ◌<◌, ◌≤◌, ◌++◌, true, List, [], length, refl, sym, ap, arith, subst}
use Rattle.iol_back.specs.Disk.{Disk, overwritten}
use Rattle.iol_core.specs.NumberedLists.{is_numbered}
use Rattle.iol_core.specs.Text as text
use Rattle.iol_core.specs.declared.numbers.BufId.{BufId}
use Rattle.iol_hold.specs.Moves.{Covers, Moves, SameLists}
use Rattle.iol_hold.specs.Places.{byte_len}
use Rattle.iol_hold.specs.StoreState.{AllReclaimed, Stored}
use Rattle.iol_hold.specs.Texts.{AllReadable, bufs_of, text_of}
use Rattle.iol_hold.specs.declared.slices.Slice.{Slice}
use Rattle.iol_hold.proofs.Counts.{tally-append, tally_none}
use Rattle.iol_hold.proofs.Moves.{stays_trans}
use Rattle.iol_hold.proofs.ReadSlices.{readable_stays, text_stays}
use Rattle.iol_arena.specs.State.{page_count}
use Rattle.iol_cache.specs.CacheState.{held}
use Rattle.iol_cache.specs.Evictions.{Holding}
use Rattle.iol_cache.specs.ReadSteps.{Goes}
use Rattle.iol_cache.specs.Overwrites.{IsWritten, KeepsFiles, KeepsMirrors, KeepsOthers, LiesDirty, MakesRoom}
use Rattle.iol_cache.specs.Overwrites.{Overwrites, bytes_in}
use Rattle.iol_cache.specs.Sound.{IsSound}
use Rattle.iol_cache.proofs.Extents.FileEntries.{numbered_bounds, numbered_yes}
use Rattle.iol_cache.proofs.RangeWrites.OverwrittenFile.{over_lies, over_mirrors, over_moves, over_others, over_written}
use Rattle.iol_cache.proofs.Extents.Steps.{covers_right, goes_cache, goes_covers, goes_less, goes_store, goes_trans}

-- an honest store of these bytes
abbrev honest_of : List (List ℕ) → Disk
honest_of slots = record { slots = slots; failures = 0; honest = true; reported = [] }

pub goes_room : (d : Disk) (own : List BufId) (p n : ℕ) (old new : Holding) → MakesRoom p n old new
    → Goes d own own old new
goes_room d own p n old new m =
    let s = m.rooms in
    let mid : Holding = record { store = old.store; cache = m.reserved } in
    goes_trans d own own own old mid new (goes_cache d own old.store old.cache m.reserved s.files s.pools s.extents
    s.held) (goes_less d own mid new m.gives_up)

-- A step in which no file changes.
pub record KeepsAll (f : ℕ) (old new : Holding) : Type 0 where
  pub files : KeepsFiles old new
  pub mirrors : KeepsMirrors old new
  pub others : KeepsOthers f old new
  pub moves : Moves old.store new.store (held old.cache.files) (held new.cache.files)

pub goes_all : (f : ℕ) (old new : Holding) → ((d : Disk) → Goes d [] [] old new) → KeepsAll f old new
goes_all f old new g =
    let m = (g (honest_of [])).moves in
    record {
      files = record { each = λ slots is. (g (honest_of slots)).files refl is };
      mirrors = record { each = λ slots is. (g (honest_of slots)).mirrors refl is };
      others = record { each = λ slots is k ne. ((g (honest_of slots)).files refl is).each k };
      moves = record {
        counts =
            record {
              each =
                  λ b. omega (
                    arith,
                    m.counts.each b,
                    tally-append b (held old.cache.files) [],
                    tally-append b (held new.cache.files) [],
                    tally_none b,
                  );
            };
        stays = m.stays;
        still = m.still;
        tidy = m.tidy;
      };
    }

-- A write that was refused after room was made.

pub goes_refused : (d : Disk) (p n : ℕ) (old mid : Holding) (t : Stored) → MakesRoom p n old mid
    → IsSound mid.store mid.cache → Moves mid.store t [] [] → SameLists mid.store t
    → (AllReclaimed mid.store → AllReclaimed t) → page_count t.arena ≡ page_count mid.store.arena
    → Goes d [] [] old (record { store = t; cache = mid.cache })
goes_refused d p n old mid t m sound none lists reclaims pages =
    let covers : Covers t (held mid.cache.files) =
    record { each = λ b. omega (arith, sound.covered.each b, none.counts.each b, tally_none b) } in
    goes_trans d [] [] [] old mid _ (goes_room d [] p n old mid m)
    (goes_store d [] [] mid.store t mid.cache sound none covers lists reclaims pages)

-- The conditions of the write, after room was made.

pub room_numbered : (p n f : ℕ) (old mid : Holding) → MakesRoom p n old mid → is_numbered old.cache.files f ≡ true
    → is_numbered mid.cache.files f ≡ true
room_numbered p n f old mid m h =
    let b = numbered_bounds old.cache.files f h in
    let g = goes_room (honest_of []) [] p n old mid m in
    numbered_yes mid.cache.files f b.0 (omega (arith, b.1, g.count))

pub room_held : (p n : ℕ) (source : List Slice) (old mid : Holding) → MakesRoom p n old mid
    → Covers old.store (held old.cache.files ++ bufs_of source)
    → Covers mid.store (held mid.cache.files ++ bufs_of source)
room_held p n source old mid m covers =
    goes_covers (honest_of []) (bufs_of source) (bufs_of source) old mid
    (goes_room (honest_of []) (bufs_of source) p n old mid m) covers

pub room_readable : (p n : ℕ) (source : List Slice) (old mid : Holding) → MakesRoom p n old mid
    → Covers old.store (held old.cache.files ++ bufs_of source) → AllReadable old.store source
    → AllReadable mid.store source
room_readable p n source old mid m covers readable =
    readable_stays {old = old.store} {new = mid.store} source (goes_room (honest_of []) [] p n old mid m).moves.stays
    (covers_right mid.store (held mid.cache.files) (bufs_of source) (room_held p n source old mid m covers)) readable

-- A write that was carried out.
pub record Wrote (f at : ℕ) (source : List Slice) (old new : Holding) : Type 0 where
  pub written : IsWritten f at source old new
  pub others : KeepsOthers f old new
  pub mirrors : KeepsMirrors old new
  pub lies : LiesDirty f at source new.cache
  pub moves : Moves old.store new.store (held old.cache.files) (held new.cache.files)

module _ (old mid new : Holding) (f at p n : ℕ) (source : List Slice) (m : MakesRoom p n old mid)
    (sound : IsSound mid.store mid.cache) (numbered : is_numbered old.cache.files f ≡ true)
    (sound' : IsSound new.store new.cache) (some : 0 < byte_len source) (w : Overwrites f at source mid new)
    (covers : Covers old.store (held old.cache.files ++ bufs_of source)) (readable : AllReadable old.store source) where
  there : is_numbered mid.cache.files f ≡ true
  there = room_numbered p n f old mid m numbered

  room : (d : Disk) → Goes d [] [] old mid
  room d = goes_room d [] p n old mid m

  source_held : Covers mid.store (bufs_of source)
  source_held =
      covers_right mid.store (held mid.cache.files) (bufs_of source)
      (goes_covers (honest_of []) (bufs_of source) (bufs_of source) old mid
      (goes_room (honest_of []) (bufs_of source) p n old mid m) covers)

  same_text : text_of mid.store source ≡ text_of old.store source
  same_text = text_stays {old = old.store} {new = mid.store} source (room (honest_of [])).moves.stays source_held
      readable

  pub all_wrote : Wrote f at source old new
  all_wrote =
      let a = (goes_all f old mid room).moves in
      let b = over_moves mid new f at source sound there sound' some w in
      record {
        written = record {
          each = λ slots mirrors begins. (let same = ((room (honest_of slots)).files refl mirrors).each f in
              (over_written mid new f at source sound there sound' some w).each slots
              ((room (honest_of slots)).mirrors refl mirrors)
              (subst (λ (l : List ℕ). at ≤ length l) (sym same) begins)
              ∙ ap (λ l. overwritten at (text.bytes_of l) (bytes_in mid slots f)) same_text
              ∙ ap (overwritten at (text.bytes_of (text_of old.store source))) same);
        };
        others = record {
          each = λ slots mirrors g ne. (over_others mid new f at source sound there sound' some w).each slots
              ((room (honest_of slots)).mirrors refl mirrors) g ne
              ∙ ((room (honest_of slots)).files refl mirrors).each g;
        };
        mirrors =
            record {
              each = λ slots mirrors. (over_mirrors mid new f at source sound there sound' some w).each slots
                  ((room (honest_of slots)).mirrors refl mirrors);
            };
        lies = over_lies mid new f at source sound there sound' some w;
        moves = record {
          counts = record { each = λ x. omega (arith, a.counts.each x, b.counts.each x) };
          stays = stays_trans a.stays b.stays;
          still = λ h. b.still (a.still h);
          tidy = λ h. b.tidy (a.tidy h);
        };
      }
