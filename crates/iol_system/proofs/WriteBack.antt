-- The content of the store after events that write back, and the extents after events that drop.
use Rattle.std.proofs.Common.{◌≡◌, ◌∙◌, ℕ, ◌-◌, ◌<◌, ◌≤◌, Bool, true, false, cond, List, [], ◌∷◌, length, max, Option}
use Rattle.std.proofs.Common.{Some, None, refl, sym, ap, subst, arith, inl, inr}
use Rattle.std.proofs.lemmas.Bool.{true≢false}
use Rattle.std.specs.Prelude.{Result, Ok, Err, OnOk, slice_index, option_map, unwrap_or}
use Rattle.iol_back.specs.Disk.{Disk, content}
use Rattle.iol_core.specs.NumberedLists.{is_numbered}
use Rattle.iol_core.specs.State.{descriptor}
use Rattle.iol_core.specs.Calls.Files.{file_on, open_on}
use Rattle.iol_core.specs.declared.descriptors.Descriptor.{Descriptor}
use Rattle.iol_core.specs.declared.descriptors.Descriptor.TheVariants as on
use Rattle.iol_core.specs.declared.events.Call.{Call}
use Rattle.iol_core.specs.declared.events.Call.TheVariants as call
use Rattle.iol_core.specs.declared.events.Event.{Event}
use Rattle.iol_core.specs.declared.events.Event.TheVariants as event
use Rattle.iol_core.specs.declared.events.Reply.{Reply}
use Rattle.iol_core.specs.declared.events.Reply.TheVariants as reply
use Rattle.iol_core.specs.declared.refusals.Refusal.{Refusal}
use Rattle.iol_extent.specs.Extents.{Cell, Extent, IsApart, cell_at, cover, dirty_count, dirty_in, end_of, is_over}
use Rattle.iol_extent.specs.Extents.{last_end}
use Rattle.iol_hold.specs.StoreState.{Stored}
use Rattle.iol_cache.specs.CacheState.{Cached, dirty_in_all, extents_in, file_in}
use Rattle.iol_cache.specs.Contents.{AreStored, IsStored, byte_in, file_bytes, read_or}
use Rattle.iol_cache.specs.Sound as cache
use Rattle.iol_cache.specs.WriteBack.{AllClean, Cleans, Flushes}
use Rattle.iol_cache.specs.declared.files.CachedFile.{CachedFile}
use Rattle.iol_cache.specs.declared.sync.Flushed.{Flushed}
use Rattle.iol_cache.specs.declared.sync.Flushed.TheVariants.{Nothing, Wrote}
use Rattle.iol_cache.proofs.RangeWrites.CleanExtents.{bytes_alike, count-cleaned, first_dirty}
use Rattle.iol_cache.proofs.Extents.FewerExtents.{over_yes}
use Rattle.iol_cache.proofs.Extents.FileEntries.{file_other, file_same, numbered_bounds, sum-with_file}
use Rattle.iol_kernel.specs.FileCalls.{IsBackedBy}
use Rattle.iol_kernel.specs.KernelState.{KernelState, IsSound}
use Rattle.iol_kernel.specs.Readings.{bytes_over}
use Rattle.iol_kernel.specs.WriteBack.{FlushesOne, SyncsFile, done_of}
use Rattle.iol_kernel.proofs.State.Beside.{content-machine_of}
use Rattle.iol_kernel.proofs.FileCalls.Opens.{file_within}
use Rattle.iol_kernel.proofs.FileCalls.FileNames.{cache_sound}
use Rattle.iol_kernel.proofs.Queues.PipeEnds.{end_held}
use Rattle.iol_kernel.proofs.State.Slots.{file_bytes-none}
use Rattle.iol_kernel.proofs.FileCalls.WriteBack.{dirty_there}
use Rattle.iol_system.specs.Machine.{system_of, tables_of}
use Rattle.iol_system.specs.Replies.{reported}
use Rattle.iol_system.specs.Room.{IsDone}
use Rattle.iol_system.specs.WriteBack.{CleansFirst, DropsClean, IsCleanFile, IsFlushed, IsStoredFile, SyncsOn}
use Rattle.iol_system.specs.WriteBack.{WritesBack}

-- The store has exactly the bytes of a file without dirty extents.

cell_clean : (es : List Extent) (i : ℕ) (c : Cell) → dirty_in es ≡ None → cover es i ≡ Some c → c.dirty ≡ false
cell_clean [] i c none is = cc
cell_clean (e ∷ es) i c none is = pick e.dirty (is_over e i) refl none is (λ m k. cell_clean es i c m k)
  where
    pick : (d o : Bool) → e.dirty ≡ d → cond d (Some e) (dirty_in es) ≡ None
        → cond o (Some (cell_at e i)) (cover es i) ≡ Some c
        → (dirty_in es ≡ None → cover es i ≡ Some c → c.dirty ≡ false) → c.dirty ≡ false
    pick true o dirty none is ih = cc
    pick false true dirty none is ih = let same : cell_at e i ≡ c = cc in ap (λ (x : Cell). x.dirty) (sym same) ∙ dirty
    pick false false dirty none is ih = ih none is

end_stored : (n low : ℕ) (es : List Extent) → IsApart low es → ((i : ℕ) (c : Cell) → cover es i ≡ Some c → i < n)
    → last_end es ≤ n
end_stored n low [] apart each = omega arith
end_stored n low (e ∷ es) apart each =
    omega (arith, end_stored n (end_of e) es apart.2 (λ i c is. rest i c (is_over e i) refl is), last, apart.1)
  where
    rest : (i : ℕ) (c : Cell) (o : Bool) → is_over e i ≡ o → cover es i ≡ Some c → i < n
    rest i c true over is = each i (cell_at e i) (ap (λ b. cond b (Some (cell_at e i)) (cover es i)) over)
    rest i c false over is = each i c (ap (λ b. cond b (Some (cell_at e i)) (cover es i)) over ∙ is)

    last : end_of e - 1 < n
    last =
        let i : ℕ = end_of e - 1 in
        each i (cell_at e i)
        (ap (λ b. cond b (Some (cell_at e i)) (cover es i))
        (over_yes e i (omega (arith, apart.1)) (omega (arith, apart.1))))

stored_whole : (s : Stored) (stored : List ℕ) (es : List Extent) → IsApart 0 es → dirty_in es ≡ None
    → AreStored s stored es → file_bytes (byte_in s) stored es ≡ stored
stored_whole s stored es apart none are =
    bytes_alike (byte_in s) stored stored [] es (λ i. byte i (cover es i) refl (are.each i))
    (let len : max (length stored) (last_end es) ≡ max (length stored) 0 = omega (arith, within) in len)
    ∙ file_bytes-none (byte_in s) stored
  where
    byte : (i : ℕ) (o : Option Cell) → cover es i ≡ o → IsStored s stored i o
        → read_or (byte_in s) (slice_index stored i) o ≡ slice_index stored i
    byte i None is st = refl
    byte i (Some c) is st = (st (cell_clean es i c none is)).1

    covered : (i : ℕ) (c : Cell) → cover es i ≡ Some c → i < length stored
    covered i c is = (subst (IsStored s stored i) is (are.each i) (cell_clean es i c none is)).0

    within : last_end es ≤ length stored
    within = end_stored (length stored) 0 es apart covered

-- The state after `fsync`.

module _ (by fd : ℕ) (disk after : Disk) (old new : KernelState) (r : Result (Unit {0}) Refusal) where
  abbrev on_file : Option Descriptor → ℕ
  on_file o = unwrap_or (option_map (λ x. x.0) (open_on o)) 0

  -- no extent of the file is dirty
  abbrev AllSynced : Option Descriptor → Type 0
  AllSynced o = dirty_in (extents_in new.cache.files (on_file o)) ≡ None

  synced_file : (o : Option Descriptor) → AllSynced o → IsCleanFile o new
  synced_file None none = tt
  synced_file (Some (on.File f at mode)) none = none
  synced_file (Some (on.ReadEnd p)) none = tt
  synced_file (Some (on.WriteEnd p)) none = tt
  synced_file (Some (on.Connection c)) none = tt

  kept_file : (o : Option Descriptor) → descriptor (tables_of old) by fd ≡ o → AllSynced o → IsSound old → IsSound new
      → new.files ≡ old.files → IsBackedBy after new → IsStoredFile o (system_of new after)
  kept_file None is none sound now same backed = tt
  kept_file (Some (on.File f at mode)) is none sound now same backed =
      let there : is_numbered new.files f ≡ true =
      subst (λ fs. is_numbered fs f ≡ true) (sym same)
      (end_held (bytes_over [] old.store) old by fd (on.File f at mode) sound is).0 in
      let b = file_within new f now there in
      sym (content-machine_of after.slots new f b.0 b.1
      ∙ stored_whole new.store (content after.slots f) (extents_in new.cache.files f)
      ((cache_sound new now).files f).apart none (backed.mirrors.each f))
  kept_file (Some (on.ReadEnd p)) is none sound now same backed = tt
  kept_file (Some (on.WriteEnd p)) is none sound now same backed = tt
  kept_file (Some (on.Connection c)) is none sound now same backed = tt

  sync_clean : (s : Result (Unit {0}) Refusal) (X : Type 0) → OnOk s X → IsDone (reported (λ u. reply.Done) s) → X
  sync_clean (Ok u) X ok done = ok
  sync_clean (Err x) X ok done = absurd done

  whole_file : (o : Option Descriptor) → SyncsFile (on_file o) disk old r after new
      → SyncsOn o disk old (reported (λ u. reply.Done) r) after new
  whole_file None syncs = tt
  whole_file (Some (on.File f at mode)) syncs = record { answer = r; is = refl; syncs = syncs }
  whole_file (Some (on.ReadEnd p)) syncs = tt
  whole_file (Some (on.WriteEnd p)) syncs = tt
  whole_file (Some (on.Connection c)) syncs = tt

  pub syncs_back : IsSound old → IsSound new → SyncsFile (file_on (tables_of old) by fd) disk old r after new
      → WritesBack disk old (event.Call by (call.Fsync fd)) (reported (λ u. reply.Done) r) after new
  syncs_back sound now syncs =
      let o : Option Descriptor = descriptor (tables_of old) by fd in record {
        synced = λ done. synced_file o (sync_clean r _ syncs.clean done);
        kept =
            λ backed done. kept_file o refl (sync_clean r _ syncs.clean done) sound now
            (ap (λ (h : KernelState). h.files) syncs.same) backed;
        flushed = λ done. tt;
        dropped = tt;
        stores_back = whole_file o syncs;
      }

-- The state after `flush`.

pub cleans_first : (s : Stored) (f : ℕ) (old new : Cached) (d e : Disk) → cache.IsSound s old → AllClean (f - 1) old
    → Cleans s f old new d e → CleansFirst old new
cleans_first s f old new d e sound least w =
    let b = numbered_bounds old.files f (dirty_there old.files f w.extent w.first) in
    let es = extents_in old.files f in
    let y : CachedFile = record { pool = (file_in old.files f).pool; extents = w.extents } in
    let first = first_dirty 0 es w.extent (sound.files f).apart w.first in record {
      file = f;
      extent = w.extent;
      least = least;
      first = w.first;
      cleaned = ap (λ fs. extents_in fs f) w.files
          ∙ ap (λ (z : CachedFile). z.extents.extents) (file_same old.files f y b.0 b.1) ∙ w.is;
      others = λ g ne. ap (λ fs. extents_in fs g) w.files
          ∙ ap (λ (z : CachedFile). z.extents.extents) (file_other old.files f g y ne);
      fewer = omega (
        arith,
        ap dirty_in_all w.files,
        sum-with_file (λ (z : CachedFile). dirty_count z.extents.extents) old.files f y b.0 b.1,
        ap dirty_count w.is,
        count-cleaned es w.extent.at w.extent (sound.files f).apart first.0 first.1,
      );
    }

module _ (disk after : Disk) (old new : KernelState) where
  flushed_back : (x : Result Flushed Refusal) → IsSound old → Flushes old.store old.cache new.cache disk after x
      → new ≡ record old { cache = new.cache } → IsDone (reported (λ u. reply.Done) (done_of x))
      → IsFlushed old event.Flush new
  flushed_back (Ok Nothing) sound m same done =
      inr (m.0, same ∙ ap (λ (c : Cached). let h : KernelState = record old { cache = c } in h) m.1)
  flushed_back (Ok (Wrote f)) sound m same done =
      inl (cleans_first old.store f old.cache new.cache disk after (cache_sound old sound) m.0 m.1)
  flushed_back (Err x) sound m same done = absurd done

  pub flushes_back : (r : Result (Unit {0}) Refusal) → IsSound old → FlushesOne disk old r after new
      → WritesBack disk old event.Flush (reported (λ u. reply.Done) r) after new
  flushes_back r sound m = record {
    synced = λ done. tt;
    kept = λ backed done. tt;
    flushed =
        λ done. flushed_back m.flushed sound m.flushes m.same
        (subst (λ (x : Result (Unit {0}) Refusal). IsDone (reported (λ u. reply.Done) x)) m.reported done);
    dropped = tt;
    stores_back = record { answer = r; is = refl; flushes = m };
  }

-- The state after `drop_clean`.
pub drops_back : (old new : KernelState) (after : Disk) → DropsClean old new
    → WritesBack after old event.DropClean reply.Done after new
drops_back old new after drops = record {
  synced = λ done. tt;
  kept = λ backed done. tt;
  flushed = λ done. tt;
  dropped = drops;
  stores_back = tt;
}

-- Other events write nothing back.

abbrev pub writes_back : Event → Bool
writes_back (event.Call by (call.Fsync fd)) = true
writes_back event.Flush = true
writes_back event.DropClean = true
writes_back e = false

module _ (disk : Disk) (old : KernelState) (r : Reply) (after : Disk) (new : KernelState) where
  call_none_back : (by : ℕ) (c : Call) → writes_back (event.Call by c) ≡ false
      → WritesBack disk old (event.Call by c) r after new
  call_none_back by (call.Fsync fd) none = absurd (true≢false none)
  call_none_back by c none = record {
    synced = λ done. tt;
    kept = λ backed done. tt;
    flushed = λ done. tt;
    dropped =
        tt;
    stores_back = tt;
  }

  pub none_back : (e : Event) → writes_back e ≡ false → WritesBack disk old e r after new
  none_back (event.Call by c) none = call_none_back by c none
  none_back event.Flush none = absurd (true≢false none)
  none_back event.DropClean none = absurd (true≢false none)
  none_back e none = record {
    synced = λ done. tt;
    kept = λ backed done. tt;
    flushed = λ done. tt;
    dropped =
        tt;
    stores_back = tt;
  }
