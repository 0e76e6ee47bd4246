-- A write to a file: its meaning over each store, and the state after a late refusal.
use Rattle.std.proofs.Common.{inl, inr, ◌≡◌, ℕ, ◌+◌, ◌<◌, ◌≤◌, List, [], length, refl, sym, ap, ◌∙◌, subst, arith, Some}
use Rattle.std.proofs.Common.{None, true}
use Rattle.std.specs.Prelude.{MatchOption, Ok, Err}
use Rattle.std.proofs.lemmas.Bool.{cases_eq}
use Rattle.iol_core.specs.Text.{Text, bytes_of}
use Rattle.iol_core.specs.NumberedLists.{in_place, is_numbered, with_numbered}
use Rattle.iol_core.specs.Meaning.{Meaning, first}
use Rattle.iol_core.specs.Positions.{ArePlaced}
use Rattle.iol_core.specs.State as machine
use Rattle.iol_core.specs.State.{State}
use Rattle.iol_core.specs.Calls.Writes as writing
use Rattle.iol_core.specs.declared.refusals.Refusal.{Refusal}
use Rattle.iol_core.specs.declared.descriptors.Mode.{Mode}
use Rattle.iol_core.specs.declared.descriptors.Descriptor.TheVariants as on
use Rattle.iol_core.specs.declared.limits.TheConstants.{MAX_FILES, MAX_FILE_BYTES}
use Rattle.iol_back.specs.Disk.{Disk, overwritten}
use Rattle.iol_hold.specs.StoreState.{Stored}
use Rattle.iol_hold.specs.declared.slices.Slice.{Slice}
use Rattle.iol_desc.specs.Tables.{domain_in, with_fds_in}
use Rattle.iol_cache.specs.CacheState.{Cached, file_in, with_file}
use Rattle.iol_cache.specs.Contents.{Mirrors}
use Rattle.iol_cache.specs.Evictions.{Holding}
use Rattle.iol_cache.specs.Overwrites.{KeepsFiles, KeepsMirrors, KeepsOthers, MakesRoom, OnlyMakesRoom, WritesFile}
use Rattle.iol_cache.specs.Overwrites.{bytes_in}
use Rattle.iol_cache.specs.ReadResults.{IsBacked}
use Rattle.iol_cache.specs.declared.files.CachedFile.{CachedFile}
use Rattle.iol_cache.proofs.Extents.FileEntries.{file_other, file_same, length-with_file, numbered_bounds, numbered_yes}
use Rattle.iol_kernel.specs.FileCalls.{Serves, holding_of, with_slots}
use Rattle.iol_kernel.specs.KernelState.{KernelState, IsSound, machine_of}
use Rattle.iol_kernel.specs.Readings.{bytes_over, slot_read, slots_read}
use Rattle.iol_kernel.proofs.FileCalls.WritesAtPosition.{content_is, file_there, moved_sound, moved_written}
use Rattle.iol_kernel.proofs.FileCalls.WritesAtPosition.{repositioned, slots_kept, slots_set}
use Rattle.iol_kernel.proofs.FileCalls.FileNames.{as_many}
use Rattle.iol_kernel.proofs.State.ReadOf.{descriptor-read_of}
use Rattle.iol_kernel.proofs.FileCalls.ExtentChanges.{Recaches, machine-slots, recached_beside, recached_same}
use Rattle.iol_kernel.proofs.FileCalls.ExtentChanges.{recached_sound}

-- Files and their pools are unchanged.

abbrev pub SamePools : (old new : Holding) → Type 0
SamePools old new = (length new.cache.files ≡ length old.cache.files)
    × ((g : ℕ) → (file_in new.cache.files g).pool ≡ (file_in old.cache.files g).pool)

roomy_pools : (p n : ℕ) (old new : Holding) → MakesRoom p n old new → SamePools old new
roomy_pools p n old new x = (x.gives_up.keeps.count ∙ x.rooms.files, λ g. x.gives_up.keeps.pools g ∙ x.rooms.pools g)

pub unwritten_pools : (p n : ℕ) (old new : Holding) → OnlyMakesRoom p n old new → SamePools old new
unwritten_pools p n old new x =
    let before = roomy_pools p n old x.mid x.room in (
      ap (λ (c : Cached). length c.files) x.cache ∙ before.0,
      λ g. ap (λ (c : Cached). (file_in c.files g).pool) x.cache
          ∙ before.1 g,
    )

pub written_pools : (f at : ℕ) (source : List Slice) (old new : Holding) → is_numbered old.cache.files f ≡ true
    → WritesFile f at source old new → SamePools old new
written_pools f at source old new there x =
    let before = roomy_pools (file_in old.cache.files f).pool _ old x.mid x.room in
    let fs = x.mid.cache.files in
    let put : CachedFile = record { pool = (file_in fs f).pool; extents = x.over.puts.extents } in
    let bounds = numbered_bounds old.cache.files f there in (
      ap length x.over.puts.files ∙ length-with_file fs f put ∙ before.0,
      λ g. ap (λ (l : List CachedFile). (file_in l g).pool) x.over.puts.files ∙ elim (cases_eq g f) [
        | inl same ↦ ap (λ n. (file_in (with_file fs f put) n).pool) same
            ∙ ap (λ (y : CachedFile). y.pool) (file_same fs f put bounds.0 (omega (arith, bounds.1, before.0)))
            ∙ ap (λ n. (file_in fs n).pool) (sym same)
        | inr ne ↦ ap (λ (y : CachedFile). y.pool) (file_other fs f g put ne)
      ] ∙ before.1 g,
    )

-- The bytes of a file are overwritten, and those of others are unchanged.
pub record Puts (f at : ℕ) (bytes : List ℕ) (old new : Holding) : Type 0 where
  pub written : (stored : List (List ℕ)) → Mirrors old.store stored old.cache.files
      → at ≤ length (bytes_in old stored f) → bytes_in new stored f ≡ overwritten at bytes (bytes_in old stored f)
  pub others : KeepsOthers f old new
  pub mirrors : KeepsMirrors old new

-- an honest store still backs the cache
pub backed_kept : (disk : Disk) (old new : Holding) → length new.cache.files ≡ length old.cache.files
    → KeepsMirrors old new → IsBacked disk old → IsBacked disk new
backed_kept disk old new long mirrors backed = record {
  honest = backed.honest;
  short =
      λ g there. (let b = numbered_bounds new.cache.files g there in
      backed.short g (numbered_yes old.cache.files g b.0 (omega (arith, b.1, long))));
  mirrors = mirrors.each disk.slots backed.mirrors;
}

module _ (m : State → Meaning ℕ) (h k : KernelState) (t : Stored) (d : Cached) (by fd f at : ℕ) (mode : Mode) (w : Text)
    (sound : IsSound h) (live : (domain_in h.domains by).live ≡ true) (is : in_place (domain_in h.domains by).fds fd
    ≡ Some (on.File f at mode)) (re : Recaches h.store t h.cache d)
    (puts : Puts f at (bytes_of w) (holding_of h) (record { store = t; cache = d }))
    (short : at + length w ≤ MAX_FILE_BYTES) (passed : (stored : List (List ℕ))
    → first (m (machine_of stored h)).refusals ≡ None) (answer : (stored : List (List ℕ))
    → length w ≡ (m (machine_of stored h)).answer)
    (after : (stored : List (List ℕ))
    → (m (machine_of stored h)).after ≡ writing.written (machine_of stored h) by fd (Some (on.File f at mode)) w)
  where
    abbrev over : KernelState
    over =
        record h {
          store = t;
          cache = d;
          domains =
              with_fds_in h.domains by (repositioned h by fd f (at + length w) mode);
        }

    some : (0 < f) × (f ≤ MAX_FILES)
    some =
        let b = numbered_bounds h.files f (file_there h t d by fd f at (at + length w) mode sound re live is) in
        (b.0, omega (arith, b.1, as_many h sound.filed, sound.limits.objects.few_files))

    abbrev before : List (List ℕ) → List (List ℕ)
    before stored = slots_read (bytes_over stored h.store) h.cache.files

    abbrev set : List (List ℕ) → List (List ℕ)
    set z = with_numbered z f (overwritten at (bytes_of w) (machine.content (with_slots z h) f))

    -- the file's bytes, with an honest store
    bytes_set : (stored : List (List ℕ)) → Mirrors h.store stored h.cache.files → ArePlaced (machine_of stored h)
        → slots_read (bytes_over stored t) d.files ≡ set (before stored)
    bytes_set stored mirrors placed =
        let r = bytes_over stored h.store in
        let content' : machine.content (machine_of stored h) f ≡ slot_read r h.cache.files f =
        content_is r h f some.0 some.1 in
        let there : machine.descriptor (machine_of stored h) by fd ≡ Some (on.File f at mode) =
        descriptor-read_of r h by fd ∙ is in
        let place = placed.each by fd f at mode there in
        let begins : at ≤ length (slot_read r h.cache.files f) = omega (arith, place.1, ap length content') in
        slots_set r (bytes_over stored t) h.cache.files d.files f
        (overwritten at (bytes_of w) (machine.content (with_slots (before stored) h) f)) some.0 some.1
        (puts.written stored mirrors begins
        ∙ ap (overwritten at (bytes_of w)) (sym content'
        ∙ ap (λ (s : State). machine.content s f) (machine-slots stored h)))
        (puts.others.each stored mirrors)

    put_after : (stored : List (List ℕ)) → with_slots (set (before stored)) over ≡ (m (machine_of stored h)).after
    put_after stored =
        moved_written h t d by fd f at (at + length w) mode sound re live is (before stored) w refl
        ∙ ap (λ (s : State). writing.written s by fd (Some (on.File f at mode)) w) (sym (machine-slots stored h))
        ∙ sym (after stored)

    pub write_serves : k ≡ over → (disk : Disk) → Serves m disk h (Ok (length w)) disk k
    write_serves same disk = subst (λ (l : KernelState). Serves m disk h (Ok (length w)) disk l) (sym same) (record {
      step = λ backed placed. (
        passed disk.slots,
        answer disk.slots,
        machine-slots disk.slots over ∙ ap (λ z. with_slots z over) (bytes_set disk.slots backed.mirrors placed)
            ∙ put_after disk.slots,
      );
      backed = backed_kept disk (holding_of h) (record { store = t; cache = d }) re.files puts.mirrors;
      beside = record {
        before = before [];
        after = set (before []);
        step = (
          subst (λ (s : State). first (m s).refusals ≡ None) (machine-slots [] h) (passed []),
          subst (λ (s : State). length w ≡ (m s).answer) (machine-slots [] h) (answer []),
          put_after [] ∙ ap (λ (s : State). (m s).after) (machine-slots [] h),
        );
      };
      honest = refl;
      sums = refl;
      sound = moved_sound h t d by fd f at (at + length w) mode sound re live is short;
      stays = re.moves.stays;
    })

-- a late refusal: extents may have been evicted, and files keep their bytes
pub late_serves : (m : State → Meaning ℕ) (h k : KernelState) (t : Stored) (d : Cached) (x : Refusal) → IsSound h
    → Recaches h.store t h.cache d → KeepsFiles (holding_of h) (record { store = t; cache = d })
    → KeepsMirrors (holding_of h) (record { store = t; cache = d })
    → ((stored : List (List ℕ)) → first (m (machine_of stored h)).refusals ≡ None)
    → ((stored : List (List ℕ)) → (m (machine_of stored h)).Late x)
    → k ≡ record h { store = t; cache = d } → (disk : Disk) → Serves m disk h (Err x) disk k
late_serves m h k t d x sound re keeps mirrors passed late same disk =
    subst (λ (l : KernelState). Serves m disk h (Err x) disk l) (sym same) (record {
      step = λ backed placed. (
        of (m (machine_of disk.slots h)) (passed disk.slots) (late disk.slots),
        recached_same h t d disk.slots disk.slots sound re
            (slots_kept (bytes_over disk.slots h.store) (bytes_over disk.slots t) h.cache.files d.files
            (keeps.each disk.slots backed.mirrors).each),
      );
      backed = backed_kept disk (holding_of h) (record { store = t; cache = d }) re.files mirrors;
      beside = record {
        before = before;
        after = before;
        step = (
          subst (λ (s : State). MatchOption (first (m s).refusals) ((m s).Late x) (λ y. x ≡ y)) (machine-slots [] h)
              (of (m (machine_of [] h)) (passed []) (late [])),
          recached_beside h t d sound re before,
        );
      };
      honest = refl;
      sums = refl;
      sound = recached_sound h t d sound re;
      stays = re.moves.stays;
    })
  where
    before : List (List ℕ)
    before = slots_read (bytes_over [] h.store) h.cache.files

    of : (n : Meaning ℕ) → first n.refusals ≡ None → n.Late x → MatchOption (first n.refusals) (n.Late x) (λ y. x ≡ y)
    of n none late = rw none late
