-- Reads of files: with the bytes that an honest store has they are the machine's, and with some bytes over any store.
use Rattle.std.proofs.Common.{◌≡◌, ℕ, zero, suc, ◌+◌, ◌-◌, ◌<◌, ◌≤◌, ◌==◌, List, [], ◌∷◌, ◌++◌, length, get_or, take}
use Rattle.std.proofs.Common.{drop, replicate, ap, ◌∙◌, refl, sym, subst, arith, Option, Some, None, true, inl, inr}
use Rattle.std.specs.Prelude.{MatchOption, Result, Ok, Err, slice_set}
use Rattle.std.proofs.Math.Seq.{drop-append_seam}
use Rattle.std.proofs.lemmas.Bool.{cases_lt}
use Rattle.std.proofs.lemmas.Bool.Decides.{nat_tests}
use Rattle.std.proofs.lemmas.List.{get_or_past, length-map, length-replicate, take_all}
use Rattle.std.proofs.lemmas.List.Elements.{All-weaker}
use Rattle.std.proofs.lemmas.List.FromFn.{get_or-map-range_with_len}
use Rattle.std.proofs.lemmas.List.Sums.{sum_by-set}
use Rattle.iol_core.specs.NumberedLists.{in_place, is_numbered, numbered_or}
use Rattle.iol_core.specs.Text.{Text, bytes_of, labelled}
use Rattle.iol_core.specs.State as machine
use Rattle.iol_core.specs.State.{State, Domain}
use Rattle.iol_core.specs.Meaning.{Meaning, Step, first, WantOfRoomOrFault}
use Rattle.iol_core.specs.Calls.Aggregates as aggs
use Rattle.iol_core.specs.Calls.Descriptors as fds
use Rattle.iol_core.specs.Calls.Reads as reading
use Rattle.iol_core.specs.declared.descriptors.Descriptor.{Descriptor}
use Rattle.iol_core.specs.declared.descriptors.Descriptor.TheVariants as on
use Rattle.iol_core.specs.declared.descriptors.Mode.{Mode}
use Rattle.iol_core.specs.declared.limits.TheConstants.{MAX_AGGREGATES, MAX_FILES, MAX_FILE_BYTES}
use Rattle.iol_core.specs.declared.refusals.Refusal.{Refusal}
use Rattle.iol_back.specs.Disk.{Disk}
use Rattle.iol_hold.specs.Places.{byte_len, places}
use Rattle.iol_hold.specs.StoreState.{Stored}
use Rattle.iol_hold.specs.Texts.{AllReadable, bufs_of, text_of}
use Rattle.iol_hold.specs.declared.slices.Slice.{Slice}
use Rattle.iol_hold.specs.Moves.{Stays}
use Rattle.iol_hold.proofs.ReadSlices.{bytes_of-labelled, length-text_of}
use Rattle.iol_desc.specs.Tables.{domain_in, fds_in, live_aggs_in, with_agg_in, with_fds_in}
use Rattle.iol_cache.specs.CacheState as cached
use Rattle.iol_cache.specs.CacheState.{Cached, file_in}
use Rattle.iol_cache.specs.Contents.{bytes_in_slot}
use Rattle.iol_cache.specs.Gaps.{AreOf}
use Rattle.iol_cache.specs.ReadSteps.{Goes}
use Rattle.iol_cache.specs.ReadResults.{IsBacked, bytes_read}
use Rattle.iol_cache.specs.Sound as cache
use Rattle.iol_cache.specs.declared.files.CachedFile.{CachedFile}
use Rattle.iol_cache.proofs.RangeWrites.Composition.{own_places, own_text}
use Rattle.iol_cache.proofs.Extents.FileEntries.{numbered_bounds, numbered_yes}
use Rattle.iol_kernel.specs.FileCalls.{IsBackedBy, Serves, holding_of, with_slots}
use Rattle.iol_kernel.specs.EndCounts.{ends_on, on_end, same_end}
use Rattle.iol_kernel.specs.FileLengths.{HasFileFor}
use Rattle.iol_kernel.specs.FileReads.{FileRead, IsOpenAt, moved_on, pool_read, read_at}
use Rattle.iol_kernel.specs.KernelState.{KernelState, objects_of, AreFiled, IsOpenEnd, IsSound, machine_of, read_of}
use Rattle.iol_kernel.specs.Readings.{Reading, bytes_over, slot_read, slots_read}
use Rattle.iol_kernel.specs.Views.{state_view}
use Rattle.iol_kernel.specs.declared.open_file.OpenFile.{OpenFile}
use Rattle.iol_kernel.proofs.State.Effects.{fds-sound}
use Rattle.iol_kernel.proofs.FileCalls.FileNames.{as_many, cache_sound}
use Rattle.iol_kernel.proofs.State.Once.{once_fewer}
use Rattle.iol_kernel.proofs.State.ReadOf.{descriptor-read_of, fds-read_of, next_agg-read_of, open_row, open_row_kept}
use Rattle.iol_kernel.proofs.FileCalls.StoreSteps.{over, agg-with_slots, fds-with_slots, gained_sound, machine-refilled}
use Rattle.iol_kernel.proofs.FileCalls.StoreSteps.{refilled, still_sound, with_slots-refilled}
use Rattle.iol_kernel.proofs.State.Rows.{domain_in-with_same}
use Rattle.iol_kernel.proofs.State.CacheUntouched.{still_serves, with_slots-same}
use Rattle.iol_kernel.proofs.State.Stay.{stays_here}
use Rattle.iol_kernel.proofs.State.Sound.{each-get, each-set, ends_open}
use Rattle.iol_kernel.proofs.State.Uses.{sum-with_domain}
use Rattle.iol_kernel.proofs.State.Views.{numbered_or-map}

abbrev Domains : Type 0
Domains = List (Domain (List Slice))

-- The meaning of the two calls for a descriptor of a file.

module _ (s : State) (d fd f at n : ℕ) (mode : Mode) (from : machine.descriptor s d fd ≡ Some (on.File f at mode)) where
  -- the bytes of the file from the position on
  abbrev asked : Text
  asked = labelled (machine.file s f).pool (take n (drop at (machine.content s f)))

  abbrev moved_to : ℕ → State
  moved_to len = fds.with_descriptor s d fd (Some (on.File f (at + len) mode))

  iol_read-after : (t : Text) → t ≡ asked → aggs.with_agg (moved_to (length t)) d t ≡ (reading.iol_read s d fd n).after
  iol_read-after t is =
      ap (λ (u : Text). aggs.with_agg (moved_to (length u)) d u) is
      ∙ ap (λ (o : Option Descriptor). aggs.with_agg (reading.read_on s d fd o (length (reading.read_text s d o n))) d
      (reading.read_text s d o n)) (sym from)

  read-after : (t : Text) → t ≡ asked → moved_to (length t) ≡ (reading.read s d fd n).after
  read-after t is =
      ap (λ (u : Text). moved_to (length u)) is
      ∙ ap (λ (o : Option Descriptor). reading.read_on s d fd o (length (reading.read_text s d o n))) (sym from)

  read-answer : (t : Text) → t ≡ asked → bytes_of t ≡ (reading.read s d fd n).answer
  read-answer t is = ap bytes_of is ∙ ap (λ (o : Option Descriptor). bytes_of (reading.read_text s d o n)) (sym from)

  late_read : (x : Refusal) → WantOfRoomOrFault (machine.file s f).pool f x
      → reading.read_late s (machine.descriptor s d fd) x
  late_read x late = subst (λ (o : Option Descriptor). reading.read_late s o x) (sym from) late

-- a descriptor is set to an equal one
pub set_to : (ds : Domains) (d fd : ℕ) {es : Domains} {o p : Descriptor}
    → es ≡ with_fds_in ds d (slice_set (fds_in ds d) fd (Some o)) → o ≡ p
    → es ≡ with_fds_in ds d (slice_set (fds_in ds d) fd (Some p))
set_to ds d fd set is = set ∙ ap (λ (x : Descriptor). with_fds_in ds d (slice_set (fds_in ds d) fd (Some x))) is

-- The machine's state, for any bytes of files.

module _ (slots : List (List ℕ)) (h : KernelState) where
  descriptor-with_slots : (d fd : ℕ)
      → machine.descriptor (with_slots slots h) d fd ≡ in_place (domain_in h.domains d).fds fd
  unfolding with_slots machine.domain
  descriptor-with_slots d fd =
      ap (λ (xs : List (Option Descriptor)). in_place xs fd) (fds-read_of (bytes_over [] h.store) h d)

  fds_of-with_slots : (d : ℕ) → (machine.domain (with_slots slots h) d).fds ≡ (domain_in h.domains d).fds
  unfolding with_slots machine.domain
  fds_of-with_slots d = fds-read_of (bytes_over [] h.store) h d

  next_agg-with_slots : (d : ℕ) → aggs.next_agg (with_slots slots h) d ≡ (domain_in h.domains d).next_agg
  unfolding with_slots machine.domain
  next_agg-with_slots d = next_agg-read_of (bytes_over [] h.store) h d

  pool-with_slots : (f : ℕ) → AreFiled h.files h.cache.files
      → (machine.file (with_slots slots h) f).pool ≡ (file_in h.cache.files f).pool
  unfolding with_slots machine.file file_in read_of state_view
  pool-with_slots f filed =
      sym (numbered_or-map (λ (x : machine.File). x.pool) h.files f machine.no_file)
      ∙ ap (λ ps. numbered_or ps f 0) (sym filed)
      ∙ numbered_or-map (λ (x : CachedFile). x.pool) h.cache.files f cached.no_file

  content-with_slots : (f : ℕ) → machine.content (with_slots slots h) f ≡ numbered_or slots f []
  unfolding with_slots machine.content
  content-with_slots f = refl

  -- the tests do not look at files
  pub iol_read-tests : (d fd n : ℕ) → first (reading.iol_read (with_slots slots h) d fd n).refusals
      ≡ first (reading.iol_read (machine_of [] h) d fd n).refusals
  unfolding with_slots machine.domain machine.pool machine.file machine.pipe_at machine.conn_at
  iol_read-tests d fd n = refl

  pub read-tests : (d fd n : ℕ) → first (reading.read (with_slots slots h) d fd n).refusals
      ≡ first (reading.read (machine_of [] h) d fd n).refusals
  unfolding with_slots machine.domain machine.pool machine.file machine.pipe_at machine.conn_at
  read-tests d fd n = refl

-- the bytes of the file in a slot
slot_bytes : (stored : List (List ℕ)) (h : KernelState) (f : ℕ) → 0 < f → f ≤ MAX_FILES
    → machine.content (with_slots (machine_of stored h).slots h) f ≡ bytes_in_slot h.store stored h.cache.files f
unfolding read_of state_view machine.content slots_read with_slots
slot_bytes stored h f some within =
    let slots : List (List ℕ) = slots_read (bytes_over stored h.store) h.cache.files in
    let at : numbered_or slots f [] ≡ get_or slots (f - 1) [] = grind (arith, nat_tests, some) in
    at ∙ get_or-map-range_with_len (slot_read (bytes_over stored h.store) h.cache.files) 1 MAX_FILES (f - 1) f []
    (omega (arith, some, within)) (omega (arith, some))

-- Slots in which a file has these bytes at a place.

in_slot : (k : ℕ) (b : List ℕ) → get_or (replicate {A = List ℕ} k [] ++ b ∷ []) k [] ≡ b
in_slot zero b = refl
in_slot (suc k) b = in_slot k b

abbrev reported : (f at : ℕ) → List ℕ → List (List ℕ)
reported f at bytes = replicate {A = List ℕ} (f - 1) [] ++ (replicate at 0 ++ bytes) ∷ []

reported_there : (f at n : ℕ) (bytes : List ℕ) → 0 < f → length bytes ≤ n
    → take n (drop at (numbered_or (reported f at bytes) f [])) ≡ bytes
reported_there f at n bytes some short =
    let here : numbered_or (reported f at bytes) f [] ≡ get_or (reported f at bytes) (f - 1) [] =
    grind (arith, nat_tests, some) in
    ap (λ b. take n (drop at b)) (here ∙ in_slot (f - 1) (replicate at 0 ++ bytes))
    ∙ ap (λ k. take n (drop k (replicate at 0 ++ bytes))) (sym (length-replicate at 0))
    ∙ ap (take n) (drop-append_seam (replicate at 0) bytes)
    ∙ take_all n bytes short

-- The position of a file's descriptor moves.

same_end-file : (e : Descriptor) (f at : ℕ) (mode : Mode) → same_end e (on.File f at mode) ≡ 0
same_end-file (on.ReadEnd p) f at mode = refl
same_end-file (on.WriteEnd p) f at mode = refl
same_end-file (on.File g was how) f at mode = refl
same_end-file (on.Connection c) f at mode = refl

file_ends : (e : Descriptor) (xs : List (Option Descriptor)) (fd f at : ℕ) (mode : Mode) (was : Descriptor)
    → in_place xs fd ≡ Some was → ends_on e (slice_set xs fd (Some (on.File f at mode))) ≤ ends_on e xs
file_ends e xs fd f at mode was is = elim (cases_lt fd (length xs)) [
  | inl k ↦
      (let none : Option Descriptor = None in
      omega (arith, sum_by-set (on_end e) xs fd (Some (on.File f at mode)) none k, same_end-file e f at mode))
  | inr k ↦ (let none : Option Descriptor = None in absurd (no (sym (get_or_past xs fd none k) ∙ is)))
]
  where
    no : ◌≡◌ {A = Option Descriptor} None (Some was) → ⊥
    no e = cc

-- A refusal that changes nothing, for any bytes of files.
pub refuses : {A : Type 0} (m : State → Meaning A) (h k : KernelState) (y : Refusal) → IsSound h
    → ((slots : List (List ℕ)) → MatchOption (first (m (with_slots slots h)).refusals) ((m (with_slots slots h)).Late y)
    (λ z. y ≡ z)) → k ≡ h → (disk : Disk) → Serves m disk h (Err y) disk k
refuses m h k y sound is same disk = subst (λ (l : KernelState). Serves m disk h (Err y) disk l) (sym same)
    (still_serves m h h (Err y) sound sound
    (λ stored. subst (λ (s : State). Step (m s) s (Err y) s) (with_slots-same h stored)
    (is (machine_of stored h).slots, refl)) refl refl (stays_here h.store) disk)

refused_late : {A : Type 0} (m : Meaning A) (y : Refusal) → first m.refusals ≡ None → m.Late y
    → MatchOption (first m.refusals) (m.Late y) (λ z. y ≡ z)
refused_late m y passed late = subst (λ (o : Option Refusal). MatchOption o (m.Late y) (λ z. y ≡ z)) (sym passed) late

-- A domain's row, if its descriptor is open on a file.

pub open_at : (h : KernelState) (d fd : ℕ) (found : OpenFile) (n : ℕ) → IsSound h
    → ((f : Reading) → machine.is_live (read_of f h) d ≡ true)
    → ((f : Reading) → machine.descriptor (read_of f h) d fd ≡ Some (on.File found.file found.at found.mode))
    → IsOpenAt h (read_at d fd found n)
open_at h d fd found n sound live from = record { is = record { sound = sound; live = live; from = from } }

pub row_live : {x : FileRead} {h : KernelState} → IsOpenAt h x → (domain_in h.domains x.domain).live ≡ true
row_live held = open_row held.is

pub row_holds : {x : FileRead} {h : KernelState} → IsOpenAt h x
    → in_place (domain_in h.domains x.domain).fds x.fd ≡ Some (on.File x.file x.at x.mode)
row_holds {x} {h} held = sym (descriptor-read_of (bytes_over [] h.store) h x.domain x.fd)
    ∙ held.is.from (bytes_over [] h.store)

module _ {x : FileRead} {h : KernelState} (held : IsOpenAt h x) where
  -- in an unchanged table
  pub live_there : {ds : Domains} → ds ≡ h.domains → (domain_in ds x.domain).live ≡ true
  live_there same = open_row_kept held.is same

  pub open_there : {ds : Domains} → ds ≡ h.domains → in_place (fds_in ds x.domain) x.fd ≡ None → ⊥
  open_there same none =
      (let was = sym (row_holds held) ∙ sym (ap (λ (ds : Domains). in_place (fds_in ds x.domain) x.fd) same) ∙ none in
      absurd (cc was))

  is_open : IsOpenEnd (objects_of h) (Some (on.File x.file x.at x.mode))
  is_open =
      subst (IsOpenEnd (objects_of h)) (row_holds held)
      (each-get (IsOpenEnd (objects_of h)) (domain_in h.domains x.domain).fds x.fd None
      (ends_open h x.domain held.is.sound) tt)

  pub file_for : HasFileFor h x.domain x.file
  file_for = record {
    file = record { sound = held.is.sound; there = is_open.0 };
    live =
        held.is.live (bytes_over [] h.store);
  }

  pub numbered_here : is_numbered h.cache.files x.file ≡ true
  numbered_here =
      (let b = numbered_bounds h.files x.file is_open.0 in
      numbered_yes h.cache.files x.file b.0 (omega (arith, b.1, as_many h held.is.sound.filed)))

  pub position_short : x.at ≤ MAX_FILE_BYTES
  position_short = is_open.1

  slot_here : (0 < x.file) × (x.file ≤ MAX_FILES)
  slot_here =
      (let b = numbered_bounds h.cache.files x.file numbered_here in
      (b.0, omega (arith, b.1, (cache_sound h held.is.sound).few_files)))

  abbrev moved_fds : ℕ → List (Option Descriptor)
  moved_fds len = slice_set (domain_in h.domains x.domain).fds x.fd (Some (on.File x.file (x.at + len) x.mode))

  abbrev pub moved : ℕ → KernelState
  moved len = record h { domains = moved_on h.domains x len }

  pub moved_sound : (len : ℕ) → x.at + len ≤ MAX_FILE_BYTES → IsSound (moved len)
  moved_sound len short =
      fds-sound h (moved_on h.domains x len) x.domain (moved_fds len) held.is.sound (row_live held) refl
      (each-set (IsOpenEnd (objects_of h)) (domain_in h.domains x.domain).fds x.fd
      (Some (on.File x.file (x.at + len) x.mode)) (ends_open h x.domain held.is.sound) (is_open.0, short))
      (once_fewer h.domains x.domain (record (domain_in h.domains x.domain) { fds = moved_fds len }) (row_live held)
      (λ e. file_ends e (domain_in h.domains x.domain).fds x.fd x.file (x.at + len) x.mode (on.File x.file x.at x.mode)
      (row_holds held)) held.is.sound.once)

  moved-with_slots : (slots : List (List ℕ)) (len : ℕ)
      → with_slots slots (moved len) ≡ fds.with_descriptor (with_slots slots h) x.domain x.fd
      (Some (on.File x.file (x.at + len) x.mode))
  moved-with_slots slots len =
      fds-with_slots slots h x.domain (moved_fds len)
      ∙ ap (λ (xs : List (Option Descriptor)). fds.with_fds (with_slots slots h) x.domain
      (slice_set xs x.fd (Some (on.File x.file (x.at + len) x.mode)))) (sym (fds_of-with_slots slots h x.domain))

  -- its descriptor, for any bytes of files
  from_file : (slots : List (List ℕ))
      → machine.descriptor (with_slots slots h) x.domain x.fd ≡ Some (on.File x.file x.at x.mode)
  from_file slots = descriptor-with_slots slots h x.domain x.fd ∙ row_holds held

  -- the text is the requested one, if the file has its bytes at the position
  asked_there : (slots : List (List ℕ)) (t : Text) → t ≡ labelled (pool_read h x) (bytes_of t)
      → take x.count (drop x.at (machine.content (with_slots slots h) x.file)) ≡ bytes_of t
      → t ≡ labelled (machine.file (with_slots slots h) x.file).pool
      (take x.count (drop x.at (machine.content (with_slots slots h) x.file)))
  asked_there slots t pooled bytes =
      pooled ∙ ap (λ p. labelled p (bytes_of t)) (sym (pool-with_slots slots h x.file held.is.sound.filed))
      ∙ ap (labelled (machine.file (with_slots slots h) x.file).pool) (sym bytes)

  some_have : (bytes : List ℕ) → length bytes ≤ x.count
      → take x.count (drop x.at (machine.content (with_slots (reported x.file x.at bytes) h) x.file)) ≡ bytes
  some_have bytes short =
      ap (λ b. take x.count (drop x.at b)) (content-with_slots (reported x.file x.at bytes) h x.file)
      ∙ reported_there x.file x.at x.count bytes slot_here.0 short

  late_at : (slots : List (List ℕ)) (y : Refusal) → WantOfRoomOrFault (pool_read h x) x.file y
      → reading.read_late (with_slots slots h) (machine.descriptor (with_slots slots h) x.domain x.fd) y
  late_at slots y late =
      late_read (with_slots slots h) x.domain x.fd x.file x.at x.count x.mode (from_file slots) y
      (subst (λ p. WantOfRoomOrFault p x.file y) (sym (pool-with_slots slots h x.file held.is.sound.filed)) late)

  -- a late refusal that changed nothing
  untouched : {A : Type 0} (m : State → Meaning A) (k : KernelState) (y : Refusal)
      → ((slots : List (List ℕ)) → first (m (with_slots slots h)).refusals ≡ None)
      → ((slots : List (List ℕ)) → (m (with_slots slots h)).Late y) → k ≡ h → (disk : Disk)
      → Serves m disk h (Err y) disk k
  untouched m k y passed late =
      refuses m h k y held.is.sound (λ slots. refused_late (m (with_slots slots h)) y (passed slots) (late slots))

  pub untouched_iol_read : (k : KernelState) (y : Refusal)
      → first (reading.iol_read (machine_of [] h) x.domain x.fd x.count).refusals ≡ None
      → WantOfRoomOrFault (pool_read h x) x.file y → k ≡ h → (disk : Disk)
      → Serves (λ s. reading.iol_read s x.domain x.fd x.count) disk h (Err y) disk k
  untouched_iol_read k y passed late =
      untouched (λ s. reading.iol_read s x.domain x.fd x.count) k y
      (λ slots. iol_read-tests slots h x.domain x.fd x.count ∙ passed) (λ slots. late_at slots y late)

  pub untouched_read : (k : KernelState) (y : Refusal)
      → first (reading.read (machine_of [] h) x.domain x.fd x.count).refusals ≡ None
      → WantOfRoomOrFault (pool_read h x) x.file y → k ≡ h → (disk : Disk)
      → Serves (λ s. reading.read s x.domain x.fd x.count) disk h (Err y) disk k
  untouched_read k y passed late =
      untouched (λ s. reading.read s x.domain x.fd x.count) k y (λ slots. read-tests slots h x.domain x.fd x.count
      ∙ passed) (λ slots. late_at slots y late)

  -- of the domain's row only the descriptors change
  row_moved : (len : ℕ) → domain_in (moved_on h.domains x len) x.domain ≡ record (domain_in h.domains x.domain) {
    fds =
        moved_fds len;
  }
  row_moved len = domain_in-with_same h.domains x.domain (record (domain_in h.domains x.domain) { fds = moved_fds len })
      (row_live held)

  -- the position moved, in a table that was unchanged before
  module _ {ds es : Domains} (len : ℕ) (same : ds ≡ h.domains) (set : es ≡ moved_on ds x len) where
    pub moved_here : es ≡ moved_on h.domains x len
    moved_here = set ∙ ap (λ (ys : Domains). moved_on ys x len) same

    row : domain_in es x.domain ≡ record (domain_in h.domains x.domain) { fds = moved_fds len }
    row = ap (λ (ys : Domains). domain_in ys x.domain) moved_here ∙ row_moved len

    pub live_moved : (domain_in es x.domain).live ≡ true
    live_moved = ap (λ (y : Domain (List Slice)). y.live) row ∙ row_live held

    pub next_moved : (domain_in es x.domain).next_agg ≡ (domain_in h.domains x.domain).next_agg
    next_moved = ap (λ (y : Domain (List Slice)). y.next_agg) row

    pub agg_added : {fs : Domains} (xs : List Slice) → fs ≡ with_agg_in es x.domain xs → len ≡ byte_len xs
        → fs ≡ with_agg_in (moved_on h.domains x (byte_len xs)) x.domain xs
    agg_added xs added long =
        added ∙ ap (λ (ys : Domains). with_agg_in ys x.domain xs) (moved_here ∙ ap (moved_on h.domains x) long)

pub pooled_text : (s : Stored) (p : ℕ) (xs : List Slice) → AreOf p xs
    → text_of s xs ≡ labelled p (bytes_of (text_of s xs))
pooled_text s p xs all =
    own_text s p (places xs)
    (own_places p xs (All-weaker (λ (y : Slice). y.hold.pool ≡ p) (λ (y : Slice). (y.hold.pool == p) ≡ true)
    (λ y e. grind (arith, nat_tests, e)) xs all.each))

-- The state after a read of a file, with the store t and the cache c.

module _ {x : FileRead} {h : KernelState} (disk after : Disk) (t : Stored) (c : Cached) (held : IsOpenAt h x)
    (kept : cache.IsSound t c) (honest : after.honest ≡ disk.honest) (slots_same : disk.honest ≡ true
    → after.slots ≡ disk.slots) (backed : IsBackedBy disk h → IsBacked after (over t c)) where
  abbrev own : List (List ℕ)
  own = (machine_of disk.slots h).slots

  own_moved : (len : ℕ) → (machine_of disk.slots (moved held len)).slots ≡ own
  unfolding read_of state_view
  own_moved len = refl

  -- the bytes of an honest store are those of the machine's file
  own_have : (bytes : List ℕ) → bytes ≡ bytes_read h.store disk.slots h.cache x.file x.at x.count
      → take x.count (drop x.at (machine.content (with_slots own h) x.file)) ≡ bytes
  own_have bytes is =
      let here = slot_here held in
      ap (λ b. take x.count (drop x.at b)) (slot_bytes disk.slots h x.file here.0 here.1) ∙ sym is

  -- from a step with the machine's bytes of files, and a step with some bytes
  serve : {A : Type 0} (m : State → Meaning A) (r : Result A Refusal) (k : KernelState) (some : List (List ℕ))
      → (IsBackedBy disk h → machine_of after.slots k ≡ with_slots own k)
      → (IsBackedBy disk h → Step (m (with_slots own h)) (with_slots own h) r (with_slots own k))
      → Step (m (with_slots some h)) (with_slots some h) r (with_slots some k) → k.sums ≡ h.sums → k.store ≡ t
      → k.cache ≡ c → IsSound k → Stays h.store k.store → Serves m disk h r after k
  serve m r k some machine' step step' sums store' cache' sound' stays = record {
    step = λ b placed. subst (λ (s : State). Step (m s) s r (machine_of after.slots k)) (with_slots-same h disk.slots)
        (subst (λ (s : State). Step (m (with_slots own h)) (with_slots own h) r s) (sym (machine' b)) (step b));
    backed =
        λ b. subst (λ (s : Stored). IsBacked after (over s k.cache)) (sym store')
        (subst (λ (d : Cached). IsBacked after (over t d)) (sym cache') (backed b));
    beside = record { before = some; after = some; step = step' };
    honest = honest;
    sums = sums;
    sound = sound';
    stays = stays;
  }

  -- It was refused.
  module _ (goes : Goes disk [] [] (holding_of h) (over t c)) where
    abbrev pub unread : KernelState
    unread = refilled disk [] h t c held.is.sound goes kept h.domains

    unread_machine : IsBackedBy disk h → machine_of after.slots unread ≡ with_slots own unread
    unread_machine b =
        machine-refilled disk [] h t c held.is.sound goes kept h.domains after.slots b (slots_same b.honest)

    unread_sound : IsSound unread
    unread_sound = still_sound disk [] h t c held.is.sound goes kept refl

    refused : {A : Type 0} (m : State → Meaning A) (y : Refusal)
        → ((slots : List (List ℕ)) → first (m (with_slots slots h)).refusals ≡ None)
        → ((slots : List (List ℕ)) → (m (with_slots slots h)).Late y) → Serves m disk h (Err y) after unread
    refused m y passed late =
        let step : (slots : List (List ℕ))
        → Step (m (with_slots slots h)) (with_slots slots h) (Err y) (with_slots slots unread) =
        λ slots. (
          refused_late (m (with_slots slots h)) y (passed slots) (late slots),
          with_slots-refilled disk [] h t c held.is.sound goes kept slots,
        ) in
        serve m (Err y) unread [] unread_machine (λ b. step own) (step []) refl refl refl unread_sound goes.moves.stays

    pub refused_read : (y : Refusal) → first (reading.read (machine_of [] h) x.domain x.fd x.count).refusals ≡ None
        → WantOfRoomOrFault (pool_read h x) x.file y
        → Serves (λ s. reading.read s x.domain x.fd x.count) disk h (Err y) after unread
    refused_read y passed late =
        refused (λ s. reading.read s x.domain x.fd x.count) y (λ slots. read-tests slots h x.domain x.fd x.count
        ∙ passed) (λ slots. late_at held slots y late)

    -- in an unchanged table
    pub refused_iol_read : (ds : Domains) (y : Refusal) → ds ≡ h.domains
        → first (reading.iol_read (machine_of [] h) x.domain x.fd x.count).refusals ≡ None
        → WantOfRoomOrFault (pool_read h x) x.file y
        → Serves (λ s. reading.iol_read s x.domain x.fd x.count) disk h (Err y) after
        (record h { store = t; domains = ds; cache = c })
    refused_iol_read ds y same passed late =
        subst (λ (ys : Domains). Serves (λ s. reading.iol_read s x.domain x.fd x.count) disk h (Err y) after
        (record h { store = t; domains = ys; cache = c })) (sym same)
        (refused (λ s. reading.iol_read s x.domain x.fd x.count) y
        (λ slots. iol_read-tests slots h x.domain x.fd x.count ∙ passed) (λ slots. late_at held slots y late))

  -- Its bytes were copied out.
  module _ (bytes : List ℕ) (goes : Goes disk [] [] (holding_of h) (over t c)) (short : length bytes ≤ x.count)
      (fits : x.at + length bytes ≤ MAX_FILE_BYTES) where
    abbrev on' : KernelState
    on' = moved held (length bytes)

    pub sound_on : IsSound on'
    sound_on = moved_sound held (length bytes) fits

    abbrev pub copied : KernelState
    copied = refilled disk [] on' t c sound_on goes kept on'.domains

    abbrev copied_text : Text
    copied_text = labelled (pool_read h x) bytes

    copied_step : (slots : List (List ℕ)) → first (reading.read (machine_of [] h) x.domain x.fd x.count).refusals ≡ None
        → take x.count (drop x.at (machine.content (with_slots slots h) x.file)) ≡ bytes
        → Step (reading.read (with_slots slots h) x.domain x.fd x.count) (with_slots slots h) (Ok bytes)
        (with_slots slots copied)
    copied_step slots passed have =
        let from' = from_file held slots in
        let is =
        asked_there held slots copied_text
        (ap (labelled (pool_read h x)) (sym (bytes_of-labelled (pool_read h x) bytes))) (have
        ∙ sym (bytes_of-labelled (pool_read h x) bytes)) in (
          read-tests slots h x.domain x.fd x.count ∙ passed,
          sym (bytes_of-labelled (pool_read h x) bytes)
              ∙ read-answer (with_slots slots h) x.domain x.fd x.file x.at x.count x.mode from' copied_text is,
          with_slots-refilled disk [] on' t c sound_on goes kept slots ∙ moved-with_slots held slots (length bytes)
              ∙ ap
              (λ l. fds.with_descriptor (with_slots slots h) x.domain x.fd
              (Some (on.File x.file (x.at + l) x.mode))) (sym (length-map bytes (λ b. (b, pool_read h x))))
              ∙ read-after (with_slots slots h) x.domain x.fd x.file x.at x.count x.mode from' copied_text is,
        )

    pub copied_serves : first (reading.read (machine_of [] h) x.domain x.fd x.count).refusals ≡ None
        → (IsBackedBy disk h → bytes ≡ bytes_read h.store disk.slots h.cache x.file x.at x.count)
        → Serves (λ s. reading.read s x.domain x.fd x.count) disk h (Ok bytes) after copied
    copied_serves passed given =
        serve (λ s. reading.read s x.domain x.fd x.count) (Ok bytes) copied (reported x.file x.at bytes)
        (λ b. machine-refilled disk [] on' t c sound_on goes kept on'.domains after.slots b (slots_same b.honest)
        ∙ ap (λ (slots : List (List ℕ)). with_slots slots copied) (own_moved (length bytes)))
        (λ b. copied_step own passed (own_have bytes (given b)))
        (copied_step (reported x.file x.at bytes) passed (some_have held bytes short))
        refl refl refl (still_sound disk [] on' t c sound_on goes kept refl) goes.moves.stays

  -- Its bytes are the next aggregate.
  module _ (xs : List Slice) (goes : Goes disk [] (bufs_of xs) (holding_of h) (over t c))
      (short : byte_len xs ≤ x.count) (fits : x.at + byte_len xs ≤ MAX_FILE_BYTES) (pooled : AreOf (pool_read h x) xs)
    where
      abbrev now : KernelState
      now = moved held (byte_len xs)

      pub now_sound : IsSound now
      now_sound = moved_sound held (byte_len xs) fits

      abbrev pub given : KernelState
      given = refilled disk (bufs_of xs) now t c now_sound goes kept (with_agg_in now.domains x.domain xs)

      given_step : (slots : List (List ℕ)) (a : ℕ) → a ≡ (domain_in h.domains x.domain).next_agg
          → first (reading.iol_read (machine_of [] h) x.domain x.fd x.count).refusals ≡ None
          → take x.count (drop x.at (machine.content (with_slots slots h) x.file)) ≡ bytes_of (text_of t xs)
          → Step (reading.iol_read (with_slots slots h) x.domain x.fd x.count) (with_slots slots h) (Ok a)
          (with_slots slots given)
      given_step slots a number passed have =
          let from' = from_file held slots in
          let text : Text = text_of t xs in (
            iol_read-tests slots h x.domain x.fd x.count ∙ passed,
            number ∙ sym (next_agg-with_slots slots h x.domain),
            agg-with_slots slots (refilled disk (bufs_of xs) now t c now_sound goes kept now.domains) x.domain xs
                ∙ ap (λ (s : State). aggs.with_agg s x.domain text)
                (with_slots-refilled disk (bufs_of xs) now t c now_sound goes kept slots
                ∙ moved-with_slots held slots (byte_len xs))
                ∙ ap
                (λ l. aggs.with_agg
                (fds.with_descriptor (with_slots slots h) x.domain x.fd (Some (on.File x.file (x.at + l) x.mode)))
                x.domain text) (sym (length-text_of t xs))
                ∙ iol_read-after (with_slots slots h) x.domain x.fd x.file x.at x.count x.mode from' text
                (asked_there held slots text (pooled_text t (pool_read h x) xs pooled) have),
          )

      abbrev moved_row : Domain (List Slice)
      moved_row = record (domain_in h.domains x.domain) { fds = moved_fds held (byte_len xs) }

      live_on : (domain_in now.domains x.domain).live ≡ true
      live_on =
          ap (λ (y : Domain (List Slice)). y.live) (domain_in-with_same h.domains x.domain moved_row (row_live held))
          ∙ row_live held

      few_on : live_aggs_in h.domains < MAX_AGGREGATES → live_aggs_in now.domains < MAX_AGGREGATES
      few_on few =
          omega (
            arith,
            few,
            sum-with_domain (λ (y : Domain (List Slice)). length y.aggs) h.domains x.domain moved_row
                (row_live held),
          )

      pub given_serves : (a : ℕ) → a ≡ (domain_in h.domains x.domain).next_agg
          → first (reading.iol_read (machine_of [] h) x.domain x.fd x.count).refusals ≡ None
          → live_aggs_in h.domains < MAX_AGGREGATES → AllReadable t xs
          → (IsBackedBy disk h
          → text_of t xs ≡ labelled (pool_read h x) (bytes_read h.store disk.slots h.cache x.file x.at x.count))
          → Serves (λ s. reading.iol_read s x.domain x.fd x.count) disk h (Ok a) after given
      given_serves a number passed few readable text =
          let bytes : List ℕ = bytes_of (text_of t xs) in
          let long : length bytes ≤ x.count =
          omega (arith, short, length-map (text_of t xs) (λ b. b.0), length-text_of t xs) in
          serve (λ s. reading.iol_read s x.domain x.fd x.count) (Ok a) given (reported x.file x.at bytes)
          (λ b. machine-refilled disk (bufs_of xs) now t c now_sound goes kept (with_agg_in now.domains x.domain xs)
          after.slots b (slots_same b.honest)
          ∙ ap (λ (slots : List (List ℕ)). with_slots slots given) (own_moved (byte_len xs)))
          (λ b. given_step own a number passed
          (own_have bytes (ap bytes_of (text b)
          ∙ bytes_of-labelled (pool_read h x) (bytes_read h.store disk.slots h.cache x.file x.at x.count))))
          (given_step (reported x.file x.at bytes) a number passed (some_have held bytes long))
          refl refl refl (gained_sound disk (bufs_of xs) now t c now_sound goes kept x.domain xs refl live_on
          (few_on few)
          (omega (arith, fits)) readable) goes.moves.stays

      -- in an equal table
      pub given_as : (ds : Domains) (a : ℕ) → ds ≡ with_agg_in (moved_on h.domains x (byte_len xs)) x.domain xs
          → a ≡ (domain_in h.domains x.domain).next_agg
          → first (reading.iol_read (machine_of [] h) x.domain x.fd x.count).refusals ≡ None
          → live_aggs_in h.domains < MAX_AGGREGATES → AllReadable t xs
          → (IsBackedBy disk h
          → text_of t xs ≡ labelled (pool_read h x) (bytes_read h.store disk.slots h.cache x.file x.at x.count))
          → Serves (λ s. reading.iol_read s x.domain x.fd x.count) disk h (Ok a) after
          (record h { store = t; domains = ds; cache = c })
      given_as ds a added number passed few readable text =
          subst (λ (ys : Domains). Serves (λ s. reading.iol_read s x.domain x.fd x.count) disk h (Ok a) after
          (record h { store = t; domains = ys; cache = c })) (sym added)
          (given_serves a number passed few readable text)
