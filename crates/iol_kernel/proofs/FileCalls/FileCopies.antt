-- The bytes of a file are copied out, and the slices read are released.
use Rattle.std.proofs.Common.{◌≡◌, ◌∙◌, ℕ, ◌+◌, ◌≤◌, List, [], ◌++◌, length, refl, sym, ap, subst, arith, Some, None}
use Rattle.std.proofs.Common.{true, false}
use Rattle.std.specs.Prelude.{Ok, Err}
use Rattle.std.proofs.lemmas.List.{length-map}
use Rattle.iol_core.specs.Text.{bytes_of, labelled}
use Rattle.iol_core.specs.State.{Domain}
use Rattle.iol_core.specs.Meaning.{first}
use Rattle.iol_core.specs.Calls.Reads as reading
use Rattle.iol_core.specs.declared.limits.TheConstants.{MAX_FILE_BYTES}
use Rattle.iol_core.specs.declared.refusals.Refusal.{Refusal}
use Rattle.iol_core.specs.declared.refusals.Refusal.TheVariants.{Memory}
use Rattle.iol_back.specs.Disk.{Disk}
use Rattle.iol_hold.specs.Moves.{Covers, Moves, SameLists}
use Rattle.iol_hold.specs.Releases.{FreesOnly}
use Rattle.iol_hold.specs.StoreState.{Stored, AllReclaimed}
use Rattle.iol_hold.specs.Places.{byte_len}
use Rattle.iol_hold.specs.Texts.{bufs_of, text_of}
use Rattle.iol_hold.proofs.ReadSlices.{bytes_of-labelled, length-text_of}
use Rattle.iol_hold.specs.declared.slices.Slice.{Slice}
use Rattle.iol_hold.proofs.Counts.{tally-append, tally_none}
use Rattle.iol_hold.proofs.Releases.{frees_none}
use Rattle.iol_cache.specs.CacheState as cached
use Rattle.iol_cache.specs.CacheState.{Cached}
use Rattle.iol_cache.specs.ReadSteps.{Goes}
use Rattle.iol_cache.specs.ReadResults.{IsBacked, bytes_read}
use Rattle.iol_cache.specs.Sound as cache
use Rattle.iol_cache.proofs.Extents.OtherCalls.{mirrors_stay, sound_beside}
use Rattle.iol_cache.proofs.Extents.Steps.{covers_right, goes_covers, goes_store, goes_trans}
use Rattle.iol_kernel.specs.FileCalls.{IsBackedBy, Serves, holding_of}
use Rattle.iol_kernel.specs.FileReads.{CopiesFromFile, FileRead, IsBeforeRoom, IsOpenAt, moved_on, pool_read}
use Rattle.iol_kernel.specs.FileReads.{read_tests}
use Rattle.iol_kernel.specs.KernelState.{KernelState, machine_of}
use Rattle.iol_kernel.proofs.FileCalls.FileReads.{copied_serves, untouched_read}
use Rattle.iol_kernel.proofs.FileCalls.ReadEffects.{copies_nothing}
use Rattle.iol_kernel.proofs.FileCalls.FileTests.{read-first, refuses_read}
use Rattle.iol_kernel.proofs.FileCalls.FileNames.{cache_sound}
use Rattle.iol_kernel.proofs.FileCalls.StoreSteps.{over}

abbrev Domains : Type 0
Domains = List (Domain (List Slice))

pub frees_here : (s : Stored) → FreesOnly s s
frees_here s = frees_none s s refl refl refl

module _ {x : FileRead} {h : KernelState} (disk : Disk) (m : Stored) (c : Cached) (xs : List Slice)
    (held : IsOpenAt h x) (kept : cache.IsSound m c) (goes : Goes disk [] (bufs_of xs) (holding_of h) (over m c)) where
  covers_all : Covers m (cached.held c.files ++ bufs_of xs)
  covers_all =
      goes_covers disk [] (bufs_of xs) (holding_of h) (over m c) goes
      (record {
        each =
            λ b. omega (
              arith,
              (cache_sound h held.is.sound).covered.each b,
              tally-append b (cached.held h.cache.files) [],
              tally_none b,
            );
      })

  pub covers_read : Covers m (bufs_of xs)
  covers_read = covers_right m (cached.held c.files) (bufs_of xs) covers_all

  module _ (after : Disk) (t : Stored) (moves : Moves m t (bufs_of xs) []) (lists : SameLists m t)
      (frees : FreesOnly m t) (reclaims : AllReclaimed m → AllReclaimed t) where
    pub kept_released : cache.IsSound t c
    kept_released = sound_beside (bufs_of xs) [] c kept covers_all moves lists frees.count

    pub goes_released : Goes disk [] [] (holding_of h) (over t c)
    goes_released =
        goes_trans disk [] (bufs_of xs) [] (holding_of h) (over m c) (over t c) goes
        (goes_store disk (bufs_of xs) [] m t c kept moves kept_released.covered lists reclaims frees.count)

    pub backed_released : IsBacked after (over m c) → IsBacked after (over t c)
    backed_released backed = record {
      honest = backed.honest;
      short = backed.short;
      mirrors = mirrors_stay after.slots c.files kept.files moves.stays kept_released.covered backed.mirrors;
    }

    -- the copied bytes are those that the machine reads
    pub copied_as : first (reading.read (machine_of [] h) x.domain x.fd x.count).refusals ≡ None
        → after.honest ≡ disk.honest → (disk.honest ≡ true → after.slots ≡ disk.slots)
        → (IsBackedBy disk h → IsBacked after (over m c)) → (bytes : List ℕ) (ds : Domains)
        → bytes ≡ bytes_of (text_of m xs) → byte_len xs ≤ x.count → x.at + byte_len xs ≤ MAX_FILE_BYTES
        → (IsBackedBy disk h
        → text_of m xs ≡ labelled (pool_read h x) (bytes_read h.store disk.slots h.cache x.file x.at x.count))
        → ds ≡ moved_on h.domains x (byte_len xs)
        → Serves (λ s. reading.read s x.domain x.fd x.count) disk h (Ok bytes) after
        (record h { store = t; domains = ds; cache = c })
    copied_as passed honest slots backed bytes ds is short fits text moved =
        let long : length bytes ≡ byte_len xs = ap length is ∙ length-map (text_of m xs) (λ (b : ℕ × ℕ). b.0)
        ∙ length-text_of m xs in
        let done = copied_serves disk after t c held kept_released honest slots (λ b. backed_released (backed b)) bytes
        goes_released (omega (arith, long, short)) (omega (arith, long, fits)) passed
        (λ b. is ∙ ap bytes_of (text b)
        ∙ bytes_of-labelled (pool_read h x) (bytes_read h.store disk.slots h.cache x.file x.at x.count)) in
        subst (λ (ys : Domains). Serves (λ s. reading.read s x.domain x.fd x.count) disk h (Ok bytes) after
        (record h { store = t; domains = ys; cache = c })) (sym (moved ∙ ap (moved_on h.domains x) (sym long))) done

-- A read that a test refused, or that found no memory, changed nothing.

pub copies_refused : {x : FileRead} {h : KernelState} → IsOpenAt h x → (disk : Disk) (y : Refusal)
    → first (read_tests (machine_of [] h) x.domain x.file x.mode false) ≡ Some y → IsBeforeRoom y
    → CopiesFromFile x disk h (Err y) disk h
copies_refused {x} {h} held disk y is before = record {
  serves = refuses_read h h x.domain x.fd x.count y held.is.sound (read-first held ∙ is) refl disk;
  copies = copies_nothing x disk h y before;
  short = tt;
}

pub copies_unmade : {x : FileRead} {h : KernelState} → IsOpenAt h x → (disk : Disk)
    → first (reading.read (machine_of [] h) x.domain x.fd x.count).refusals ≡ None
    → CopiesFromFile x disk h (Err Memory) disk h
copies_unmade {x} {h} held disk passed = record {
  serves = untouched_read held h Memory passed tt refl disk;
  copies = copies_nothing x disk h Memory tt;
  short = tt;
}
