-- An aggregate is written over the bytes of a file: the meaning of the call and its effects, from the contract of the
-- cache.
use Rattle.std.proofs.Common.{inl, inr, ◌≡◌, ℕ, ◌+◌, ◌<◌, ◌≤◌, ◌++◌, ◌^◌, List, [], length, take, refl, sym, ap, ◌∙◌}
use Rattle.std.proofs.Common.{subst, arith, Option, Some, None, true}
use Rattle.std.specs.Prelude.{Result, Ok, Err}
use Rattle.std.proofs.lemmas.Bool.{cases_lt}
use Rattle.std.proofs.lemmas.List.{take_all}
use Rattle.iol_core.specs.Text.{Text}
use Rattle.iol_core.specs.NumberedLists.{in_place, is_numbered, numbered_or}
use Rattle.iol_core.specs.Meaning.{Meaning, WantOfRoom}
use Rattle.iol_core.specs.State as machine
use Rattle.iol_core.specs.State.{Domain, State}
use Rattle.iol_core.specs.Calls.Writes as writing
use Rattle.iol_core.specs.declared.refusals.Refusal.{Refusal}
use Rattle.iol_core.specs.declared.refusals.Refusal.TheVariants.{NoRoom}
use Rattle.iol_core.specs.declared.descriptors.Mode.{Mode}
use Rattle.iol_core.specs.declared.descriptors.Descriptor.{Descriptor}
use Rattle.iol_core.specs.declared.descriptors.Descriptor.TheVariants as on
use Rattle.iol_core.specs.declared.limits.TheConstants.{MAX_FILE_BYTES}
use Rattle.iol_hold.specs.Moves.{Covers, Moves, SameLists}
use Rattle.iol_hold.specs.Places.{byte_len}
use Rattle.iol_hold.specs.Room.{pages_of}
use Rattle.iol_hold.specs.StoreState.{Stored, AllReclaimed}
use Rattle.iol_hold.specs.Texts.{bufs_of, text_of}
use Rattle.iol_hold.specs.declared.slices.Slice.{Slice}
use Rattle.iol_hold.proofs.AtPlaces.{length-read}
use Rattle.iol_hold.proofs.Counts.{tally-append}
use Rattle.iol_hold.proofs.Releases.{frees_none}
use Rattle.iol_desc.specs.Tables.{agg_in, domain_in, with_fds_in}
use Rattle.iol_cache.specs.CacheState.{Cached, file_in, held, no_file}
use Rattle.iol_cache.specs.Composition.{copied_pages}
use Rattle.iol_cache.specs.Evictions.{Holding}
use Rattle.iol_cache.specs.Overwrites.{IsWritten, KeepsFiles, KeepsMirrors, KeepsOthers, LeavesAll, LiesDirty}
use Rattle.iol_cache.specs.Overwrites.{OnlyMakesRoom, WritesFile}
use Rattle.iol_cache.specs.PageChanges.{FillsLowest}
use Rattle.iol_cache.specs.SharedBytes.{CountsBelow}
use Rattle.iol_cache.specs.Sound as cache
use Rattle.iol_cache.specs.declared.files.CachedFile.{CachedFile}
use Rattle.iol_cache.proofs.Extents.FileEntries.{numbered_bounds, numbered_yes}
use Rattle.iol_cache.proofs.RangeReads.PageChanges.{fills_none, pages_kept}
use Rattle.iol_kernel.specs.FileCalls.{Serves, holding_of}
use Rattle.iol_kernel.specs.Calls.{CarriesOut}
use Rattle.iol_kernel.specs.KernelState.{KernelState, IsSound, machine_of, objects_of, read_of, slices_in}
use Rattle.iol_kernel.specs.Readings.{Reading, bytes_over}
use Rattle.iol_kernel.specs.Views.{state_view}
use Rattle.iol_kernel.specs.KeptCover.{KeepsBeside, LacksPages}
use Rattle.iol_kernel.specs.AggregateWrites.{MayWriteAgg}
use Rattle.iol_kernel.specs.FileWrites.{WritesAgg, WritesOn, WritesOver, pages_to_write, pool_of_file}
use Rattle.iol_cache.proofs.Extents.KeptCover.{apart_of}
use Rattle.iol_kernel.proofs.FileCalls.KeptCover.{beside_same, unwritten_unless, write_unless}
use Rattle.iol_kernel.proofs.FileCalls.FileWrites.{SamePools, late_serves, unwritten_pools, write_serves, written_pools}
use Rattle.iol_kernel.proofs.FileCalls.WritesAtPosition.{repositioned}
use Rattle.iol_kernel.proofs.FileCalls.FileNames.{as_many, cache_sound}
use Rattle.iol_kernel.proofs.State.TableCalls.{refusal_of}
use Rattle.iol_kernel.proofs.Queues.PassedTests.{agg_short}
use Rattle.iol_kernel.proofs.State.ReadOf.{descriptor-read_of, length_text-read_of, live_held, text-read_of}
use Rattle.iol_kernel.proofs.FileCalls.ExtentChanges.{Recaches}
use Rattle.iol_kernel.proofs.Queues.PipeEnds.{end_held}
use Rattle.iol_kernel.proofs.AggregateCalls.Slices.{slices_found}
use Rattle.iol_kernel.proofs.State.Uses.{all_few, uses-without_agg}
use Rattle.iol_kernel.proofs.State.Views.{numbered_or-map}

-- The conditions of the cache for an aggregate that is written.

pub agg_beside : (h : KernelState) (d a : ℕ) (xs : List Slice) → IsSound h → (domain_in h.domains d).live ≡ true
    → Some xs ≡ agg_in h.domains d a → Covers h.store (held h.cache.files ++ bufs_of xs)
agg_beside h d a xs sound live found = record {
  each =
      λ b. omega (
        arith,
        tally-append b (held h.cache.files) (bufs_of xs),
        sound.counted.each b,
        uses-without_agg b h.domains d a xs live found,
      );
}

pub counts_below : (h : KernelState) → IsSound h → CountsBelow h.store (2 ^ 60)
counts_below h sound =
    record { each = λ b. omega (arith, sound.counted.each b, all_few b h.domains (objects_of h) sound.limits) }

pub counts_lower : (h : KernelState) → IsSound h → CountsBelow h.store (2 ^ 61)
counts_lower h sound =
    record { each = λ b. omega (arith, sound.counted.each b, all_few b h.domains (objects_of h) sound.limits) }

pub in_cache : (h : KernelState) (f : ℕ) → IsSound h → is_numbered h.files f ≡ true → is_numbered h.cache.files f ≡ true
in_cache h f sound there = let b = numbered_bounds h.files f there in
    numbered_yes h.cache.files f b.0 (omega (arith, b.1, as_many h sound.filed))

-- the pool of a file, as the machine has it
pub pool-file : (r : Reading) (h : KernelState) (f : ℕ) → IsSound h
    → (machine.file (read_of r h) f).pool ≡ pool_of_file h f
unfolding read_of state_view machine.file file_in
pool-file r h f sound =
    sym (numbered_or-map (λ (x : machine.File). x.pool) h.files f machine.no_file)
    ∙ ap (λ ps. numbered_or ps f 0) (sym sound.filed)
    ∙ numbered_or-map (λ (x : CachedFile). x.pool) h.cache.files f no_file

-- a refusal before any effect
pub refused_leaves : (h : KernelState) (f at : ℕ) (xs : List Slice) (x : Refusal)
    → ((p : ℕ) → ◌≡◌ {A = Result ℕ Refusal} (Err x) (Err (NoRoom p)) → ⊥) → WritesOver {A = ℕ} f at xs h (Err x) h
refused_leaves h f at xs x roomy = record {
  lies = tt;
  over = λ some. tt;
  nothing = λ none. tt;
  moves = tt;
  beside =
      (let p = pool_of_file h f in beside_same f at (byte_len xs) p (LacksPages h p (copied_pages p xs)) h.cache h.cache
      refl);
  room = tt;
  no_room = λ p e. absurd (roomy p e);
  pages = fills_none (pool_of_file h f) (frees_none h.store h.store refl refl refl);
  lists = refl;
  same = refl;
  refused = refl;
  leaves = inl refl;
}

-- by the object of the descriptor

pub refused_on : (d fd a : ℕ) (h : KernelState) (x : Refusal) (o : Option Descriptor)
    → CarriesOut (λ s. writing.iol_write s d fd a) h (Err x) h → WritesOn d fd a o h (Err x) h
refused_on d fd a h x None c = c
refused_on d fd a h x (Some (on.File f at mode)) c = refused_leaves h f at (slices_in h.domains d a) x c.roomy
refused_on d fd a h x (Some (on.ReadEnd p)) c = c
refused_on d fd a h x (Some (on.WriteEnd p)) c = c
refused_on d fd a h x (Some (on.Connection n)) c = c

pub queued_on : (d fd a : ℕ) (h k : KernelState) (r : Result ℕ Refusal) (x : Descriptor)
    → ((f at : ℕ) (mode : Mode) → x ≡ on.File f at mode → ⊥) → CarriesOut (λ s. writing.iol_write s d fd a) h r k
    → WritesOn d fd a (Some x) h r k
queued_on d fd a h k r (on.File f at mode) other c = absurd (other f at mode refl)
queued_on d fd a h k r (on.ReadEnd p) other c = c
queued_on d fd a h k r (on.WriteEnd p) other c = c
queued_on d fd a h k r (on.Connection n) other c = c

-- an aggregate that may be written to a file fits in it
pub agg_fits : {h : KernelState} {by fd a f at : ℕ} {mode : Mode} {xs : List Slice}
    → MayWriteAgg by fd a (on.File f at mode) h → Some xs ≡ agg_in h.domains by a → at + byte_len xs ≤ MAX_FILE_BYTES
agg_fits {h} {by} {fd} {a} {f} {at} {mode} {xs} may found =
    let r = bytes_over [] h.store in
    omega (
      arith,
      agg_short (machine_of [] h) by fd a (may.passed r) f at mode (may.held.from r),
      length_text-read_of r h by a,
      ap byte_len (slices_found h.domains by a xs found),
    )

module _ (h : KernelState) (t : Stored) (d : Cached) (by fd a f at : ℕ) (mode : Mode) (xs : List Slice)
    (may : MayWriteAgg by fd a (on.File f at mode) h) (found : Some xs ≡ agg_in h.domains by a)
    (moves : Moves h.store t (held h.cache.files) (held d.files)) (lists : SameLists h.store t)
    (reclaims : AllReclaimed h.store → AllReclaimed t) (pages : FillsLowest (pool_of_file h f) h.store t)
    (after : cache.IsSound t d) (mirrors : KeepsMirrors (holding_of h) (record { store = t; cache = d })) where
  abbrev new : Holding
  new = record { store = t; cache = d }

  abbrev over : List (List ℕ) → Reading
  over stored = bytes_over stored h.store

  live : (domain_in h.domains by).live ≡ true
  live = live_held (over []) h by (may.held.live (over []))

  is : in_place (domain_in h.domains by).fds fd ≡ Some (on.File f at mode)
  is = sym (descriptor-read_of (over []) h by fd) ∙ may.held.from (over [])

  there : is_numbered h.cache.files f ≡ true
  there =
      in_cache h f may.held.sound
      (end_held (over []) h by fd (on.File f at mode) may.held.sound (may.held.from (over []))).0

  same_source : xs ≡ slices_in h.domains by a
  same_source = slices_found h.domains by a xs found

  recaches : SamePools (holding_of h) new → Recaches h.store t h.cache d
  recaches same = record {
    moves = moves;
    lists = lists;
    reclaims = reclaims;
    pages = (pages_kept pages).count;
    files =
        same.0;
    pools = same.1;
    sound = after;
  }

  abbrev m : State → Meaning ℕ
  m s = writing.iol_write s by fd a

  source : (stored : List (List ℕ)) → machine.text (machine_of stored h) by a ≡ text_of h.store xs
  source stored = text-read_of (over stored) h by a ∙ ap (text_of h.store) (sym same_source)

  long : length (text_of h.store xs) ≡ byte_len xs
  long = length-read (over []).at xs

  answered : (stored : List (List ℕ)) → length (text_of h.store xs) ≡ (m (machine_of stored h)).answer
  answered stored =
      let s : State = machine_of stored h in
      sym (ap (λ (o : Option Descriptor). writing.fitting s o (length (machine.text s by a)))
      (may.held.from (over stored)) ∙ ap (λ (w : Text). length w) (source stored))

  left : (stored : List (List ℕ))
      → (m (machine_of stored h)).after ≡ writing.written (machine_of stored h) by fd (Some (on.File f at mode))
      (text_of h.store xs)
  left stored =
      let s : State = machine_of stored h in
      ap
      (λ (o : Option Descriptor). writing.written s by fd o
      (take (writing.fitting s o (length (machine.text s by a))) (machine.text s by a)))
      (may.held.from (over stored))
      ∙ ap (λ (w : Text). writing.written s by fd (Some (on.File f at mode)) (take (length w) w)) (source stored)
      ∙ ap (λ (w : Text). writing.written s by fd (Some (on.File f at mode)) w)
      (take_all (length (text_of h.store xs)) (text_of h.store xs) (omega arith))

  module _ (lies : LiesDirty f at xs d) (writes : 0 < byte_len xs → WritesFile f at xs (holding_of h) new)
      (nothing : byte_len xs ≡ 0 → new ≡ holding_of h) where
    pools : SamePools (holding_of h) new
    pools = elim (cases_lt 0 (byte_len xs)) [
      | inl some ↦ written_pools f at xs (holding_of h) new there (writes some)
      | inr none ↦ subst (λ (x : Holding). SamePools (holding_of h) x) (sym (nothing (omega (arith, none))))
          (refl, λ g. refl)
    ]

    beside : let p = pool_of_file h f in KeepsBeside f at (byte_len xs) p (LacksPages h p (copied_pages p xs)) h.cache d
    beside = elim (cases_lt 0 (byte_len xs)) [
      | inl some ↦ write_unless h f at xs new (apart_of {h = holding_of h} (cache_sound h may.held.sound)) there
          (writes some)
      | inr none ↦
          (let p = pool_of_file h f in
          beside_same f at (byte_len xs) p (LacksPages h p (copied_pages p xs)) h.cache d
          (ap (λ (x : Holding). x.cache) (nothing (omega (arith, none)))))
    ]

    pub overwritten : (ds : List (Domain (List Slice))) (n : ℕ) → IsWritten f at xs (holding_of h) new
        → KeepsOthers f (holding_of h) new → n ≡ byte_len xs
        → pages_to_write h f xs ≤ length (pages_of h.store (pool_of_file h f))
        → ds ≡ with_fds_in h.domains by (repositioned h by fd f (at + n) mode)
        → WritesAgg by fd a f at h (Ok n) (record h { store = t; cache = d; domains = ds })
    overwritten ds n written others count room moved = let k : KernelState =
        record h { store = t; cache = d; domains = ds } in record {
          serves = λ disk. subst (λ z. Serves m disk h (Ok z) disk k) (long ∙ sym count)
              (write_serves m h k t d by fd f at mode (text_of h.store xs) may.held.sound live is (recaches pools)
              (record { written = written.each; others = others; mirrors = mirrors })
              (omega (arith, agg_fits may found, long)) (λ stored. may.passed (over stored)) answered left
              (ap (λ (es : List (Domain (List Slice))). let l : KernelState =
              record h { store = t; cache = d; domains = es } in l) (moved_by (count ∙ sym long))) disk);
          over = subst (λ (ys : List Slice). WritesOver f at ys h (Ok n) k) same_source (record {
            lies = lies;
            over = writes;
            nothing = nothing;
            moves = record { domain = by; fd = fd; mode = mode; is = moved_by count };
            beside = beside;
            room = room;
            no_room = λ p e. absurd (cc e);
            pages = pages;
            lists = lists;
            same = refl;
            refused = tt;
            leaves = tt;
          });
        }
      where
        moved_by : {z : ℕ} → n ≡ z → ds ≡ with_fds_in h.domains by (repositioned h by fd f (at + z) mode)
        moved_by e = moved ∙ ap (λ z. with_fds_in h.domains by (repositioned h by fd f (at + z) mode)) e

  -- refused late
  pub unwritten : (x : Refusal)
      → OnlyMakesRoom (pool_of_file h f) (copied_pages (pool_of_file h f) xs) (holding_of h) new
      → KeepsFiles (holding_of h) new
      → ((p : ℕ) → x ≡ NoRoom p → length (pages_of h.store (pool_of_file h f)) < pages_to_write h f xs)
      → ((p : ℕ) → x ≡ NoRoom p → LeavesAll (holding_of h) new) → WantOfRoom (pool_of_file h f) x
      → WritesAgg by fd a f at h (Err x) (record h { store = t; cache = d })
  unwritten x room keeps lacks kept late = let k : KernelState = record h { store = t; cache = d } in record {
    serves =
        late_serves m h k t d x may.held.sound
        (recaches (unwritten_pools (pool_of_file h f) (copied_pages (pool_of_file h f) xs) (holding_of h) new room))
        keeps mirrors (λ stored. may.passed (over stored))
        (λ stored. subst (λ (o : Option Descriptor). writing.write_late (machine_of stored h) o x)
        (sym (may.held.from (over stored)))
        (subst (λ p. WantOfRoom p x) (sym (pool-file (over stored) h f may.held.sound)) late))
        refl;
    over = subst (λ (ys : List Slice). WritesOver {A = ℕ} f at ys h (Err x) k) same_source (record {
      lies = tt;
      over = λ some. tt;
      nothing = λ none. tt;
      moves = tt;
      beside = unwritten_unless h f at xs new (apart_of {h = holding_of h} (cache_sound h may.held.sound)) room;
      room = tt;
      no_room = λ p e. lacks p (refusal_of x (NoRoom p) e);
      pages = pages;
      lists = lists;
      same = refl;
      refused = refl;
      leaves = inr (late, room, kept);
    });
  }
