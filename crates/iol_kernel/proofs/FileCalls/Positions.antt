-- Positions and lengths of files.
use Rattle.std.proofs.Common.{◌≡◌, ℕ, ◌<◌, ◌≤◌, ◌∙◌, Bool, true, false, List, [], ◌∷◌, length, Option, Some, None, refl}
use Rattle.std.proofs.Common.{sym, ap, subst, arith}
use Rattle.std.specs.Prelude.{MatchOption, Ok, Err, option_map, unwrap_or, is_none, not, nat_lt, slice_set}
use Rattle.std.proofs.lemmas.Bool.Decides.{nat_tests}
use Rattle.iol_core.specs.NumberedLists.{is_numbered}
use Rattle.iol_core.specs.State as machine
use Rattle.iol_core.specs.State.{State, Domain}
use Rattle.iol_core.specs.Meaning.{Meaning, Step, first, ◌when◌}
use Rattle.iol_core.specs.Calls.Descriptors as fds
use Rattle.iol_core.specs.Calls.Files as calls
use Rattle.iol_core.specs.Calls.Files.{open_on}
use Rattle.iol_core.specs.declared.descriptors.Descriptor.{Descriptor}
use Rattle.iol_core.specs.declared.descriptors.Descriptor.TheVariants as on
use Rattle.iol_core.specs.declared.descriptors.Mode.{Mode}
use Rattle.iol_core.specs.declared.limits.TheConstants.{MAX_FILES, MAX_FILE_BYTES}
use Rattle.iol_core.specs.declared.refusals.Refusal.{Refusal}
use Rattle.iol_core.specs.declared.refusals.Refusal.TheVariants.{NoDomain, BadFd, WrongMode, BadRange, Fault, NoRoom}
use Rattle.iol_back.specs.Disk.{Disk}
use Rattle.iol_extent.specs.Extents.{last_end}
use Rattle.iol_cache.specs.CacheState.{extents_in}
use Rattle.iol_cache.specs.Contents.{bytes_in_slot}
use Rattle.iol_desc.specs.Tables.{domain_in, with_fds_in}
use Rattle.iol_kernel.specs.FileCalls.{IsBackedBy, LooksUp, Serves, with_slots}
use Rattle.iol_kernel.specs.EndCounts.{IsOpenOnce}
use Rattle.iol_kernel.specs.KernelState.{KernelState, objects_of, IsOpenEnd, IsSound, machine_of, read_of}
use Rattle.iol_kernel.specs.OpenDescriptors.{IsOnFile, IsOpenOn}
use Rattle.iol_kernel.specs.Readings.{Reading, KeepsPools, bytes_over}
use Rattle.iol_kernel.proofs.State.TableCalls.{refusal_of}
use Rattle.iol_kernel.proofs.State.Beside.{content-machine_of, descriptor-with_slots, even, fds-with_slots}
use Rattle.iol_kernel.proofs.State.Beside.{length_content-even, live-with_slots, open-with_slots, serves_refused}
use Rattle.iol_kernel.proofs.State.Beside.{serves_where, with_slots-own}
use Rattle.iol_kernel.proofs.FileCalls.Opens.{file_within, same_end-file}
use Rattle.iol_kernel.proofs.State.Effects.{fds-changed, fds-sound}
use Rattle.iol_kernel.proofs.FileCalls.FileNames.{cache_sound}
use Rattle.iol_kernel.proofs.State.Once.{ends-set, once_fewer}
use Rattle.iol_kernel.proofs.Queues.PipeEnds.{end_held}
use Rattle.iol_kernel.proofs.State.ReadOf.{descriptor-read_of, fds-read_of, live_held}
use Rattle.iol_kernel.proofs.State.Sound.{each-set, ends_open}
use Rattle.iol_kernel.proofs.State.Uses.{Domains}

-- a descriptor on a file
pub open_file : {h : KernelState} {d fd f at : ℕ} {mode : Mode} → IsOpenOn h d fd (on.File f at mode)
    → IsOnFile h d fd f at mode
open_file {h} {d} {fd} {f} {at} {mode} held =
    let is =
    end_held (bytes_over [] h.store) h d fd (on.File f at mode) held.sound (held.from (bytes_over [] h.store)) in
    record { held = held; there = is.0; within = is.1 }

-- The refusals of the two calls, by the domain and the descriptor.

abbrev on_file : Option Descriptor → ℕ
on_file o = unwrap_or (option_map (λ x. x.0) (open_on o)) 0

seek-first : (s : State) (d fd at : ℕ) (live : Bool) (o : Option Descriptor) → machine.is_live s d ≡ live
    → machine.descriptor s d fd ≡ o
    → first (calls.seek s d fd at).refusals ≡ first ((NoDomain when not live) ∷ (BadFd when is_none o)
    ∷ (WrongMode when is_none (open_on o)) ∷ (BadRange when nat_lt (length (machine.content s (on_file o))) at)
    ∷ [])
seek-first s d fd at live o is there =
    ap
    (λ b. first ((NoDomain when not b) ∷ (BadFd when is_none (machine.descriptor s d fd))
    ∷ (WrongMode when is_none (open_on (machine.descriptor s d fd)))
    ∷ (BadRange when nat_lt (length (machine.content s (on_file (machine.descriptor s d fd)))) at) ∷ [])) is
    ∙ ap
    (λ (p : Option Descriptor). first ((NoDomain when not live) ∷ (BadFd when is_none p)
    ∷ (WrongMode when is_none (open_on p)) ∷ (BadRange when nat_lt (length (machine.content s (on_file p))) at)
    ∷ [])) there

length-first : (s : State) (d fd : ℕ) (live : Bool) (o : Option Descriptor) → machine.is_live s d ≡ live
    → machine.descriptor s d fd ≡ o
    → first (calls.file_length s d fd).refusals ≡ first ((NoDomain when not live) ∷ (BadFd when is_none o)
    ∷ (WrongMode when is_none (open_on o)) ∷ [])
length-first s d fd live o is there =
    ap
    (λ b. first ((NoDomain when not b) ∷ (BadFd when is_none (machine.descriptor s d fd))
    ∷ (WrongMode when is_none (open_on (machine.descriptor s d fd))) ∷ [])) is
    ∙ ap
    (λ (p : Option Descriptor). first ((NoDomain when not live) ∷ (BadFd when is_none p)
    ∷ (WrongMode when is_none (open_on p)) ∷ [])) there

-- a descriptor on an object that is not a file
pub wrong_kind : (s : State) (d fd : ℕ) (x : Descriptor) → machine.is_live s d ≡ true
    → machine.descriptor s d fd ≡ Some x → ((f was : ℕ) (mode : Mode) → x ≡ on.File f was mode → ⊥)
    → first (calls.file_length s d fd).refusals ≡ Some WrongMode
wrong_kind s d fd x live there differs = length-first s d fd true (Some x) live there ∙ of x differs
  where
    of : (x : Descriptor) → ((f was : ℕ) (mode : Mode) → x ≡ on.File f was mode → ⊥)
        → first ((NoDomain when not true) ∷ (BadFd when is_none (Some x)) ∷ (WrongMode when is_none (open_on (Some x)))
        ∷ []) ≡ Some WrongMode
    of (on.File f was mode) differs = absurd (differs f was mode refl)
    of (on.ReadEnd p) differs = refl
    of (on.WriteEnd p) differs = refl
    of (on.Connection c) differs = refl

-- the first refusal of a call is its result
refuses : {A : Type 0} (m : Meaning A) (s : State) (x : Refusal) → first m.refusals ≡ Some x → Step m s (Err x) s
refuses m s x is = (subst (λ (o : Option Refusal). MatchOption o (m.Late x) (λ y. x ≡ y)) (sym is) refl, refl)

-- Refusals of a descriptor on an object that is not a file. They do not ask for a length.

refused_more : (a b c e : Option Refusal) (x : Refusal) → first (a ∷ b ∷ c ∷ []) ≡ Some x
    → first (a ∷ b ∷ c ∷ e ∷ []) ≡ Some x
refused_more (Some y) b c e x is = is
refused_more None (Some y) c e x is = is
refused_more None None (Some y) e x is = is
refused_more None None None e x is = absurd (cc is)

-- one of these three
by_three : (P : Refusal → Type 0) (a b c : Bool) (x : Refusal) → P NoDomain → P BadFd → P WrongMode
    → first ((NoDomain when a) ∷ (BadFd when b) ∷ (WrongMode when c) ∷ []) ≡ Some x → P x
by_three P true b c x one two three is = subst P (some is) one
  where
    some : {y : Refusal} → ◌≡◌ {A = Option Refusal} (Some NoDomain) (Some y) → NoDomain ≡ y
    some e = cc e
by_three P false true c x one two three is = subst P (some is) two
  where
    some : {y : Refusal} → ◌≡◌ {A = Option Refusal} (Some BadFd) (Some y) → BadFd ≡ y
    some e = cc e
by_three P false false true x one two three is = subst P (some is) three
  where
    some : {y : Refusal} → ◌≡◌ {A = Option Refusal} (Some WrongMode) (Some y) → WrongMode ≡ y
    some e = cc e
by_three P false false false x one two three is = absurd (cc is)

module _ (disk : Disk) (h : KernelState) (d fd : ℕ) (x : Refusal) (sound : IsSound h)
    (refused : first (calls.file_length (machine_of [] h) d fd).refusals ≡ Some x) where
  early : (P : Refusal → Type 0) → P NoDomain → P BadFd → P WrongMode → P x
  early P one two three = let s : State = machine_of [] h in
      by_three P (not (machine.is_live s d)) (is_none (machine.descriptor s d fd))
      (is_none (open_on (machine.descriptor s d fd))) x one two three refused

  pub no_fault : (n : ℕ) → x ≡ Fault n → ⊥
  no_fault n = early (λ y. y ≡ Fault n → ⊥) (λ e. cc e) (λ e. cc e) (λ e. cc e)

  no_room : (p : ℕ) → x ≡ NoRoom p → ⊥
  no_room p = early (λ y. y ≡ NoRoom p → ⊥) (λ e. cc e) (λ e. cc e) (λ e. cc e)

  refused_over : (slots : List (List ℕ)) → first (calls.file_length (with_slots slots h) d fd).refusals ≡ Some x
  refused_over slots =
      length-first (with_slots slots h) d fd (machine.is_live (machine_of [] h) d)
      (machine.descriptor (machine_of [] h) d fd) (live-with_slots slots h d) (descriptor-with_slots slots h d fd)
      ∙ refused

  looks : {A : Type 0} (m : State → Meaning A) → Serves m disk h (Err x) disk h → LooksUp m disk h (Err x) h
  looks {A} m served = record {
    serves = served;
    places = tt;
    store = refl;
    cache = refl;
    roomy =
        λ p e. no_room p (refusal_of x (NoRoom p) e);
    refused = refl;
  }

  pub seek_refused : (at : ℕ) → LooksUp (λ s. calls.seek s d fd at) disk h (Err x) h
  seek_refused at = looks (λ s. calls.seek s d fd at) (serves_refused (λ s. calls.seek s d fd at) disk h x
      (λ slots. let s : State = with_slots slots h in let o : Option Descriptor = machine.descriptor s d fd in
      refuses (calls.seek s d fd at) s x (refused_more (NoDomain when not (machine.is_live s d)) (BadFd when is_none o)
      (WrongMode when is_none (open_on o)) (BadRange when nat_lt (length (machine.content s (on_file o))) at) x
      (refused_over slots))) sound)

  pub length_refused : LooksUp (λ s. calls.file_length s d fd) disk h (Err x) h
  length_refused =
      looks (λ s. calls.file_length s d fd)
      (serves_refused (λ s. calls.file_length s d fd) disk h x
      (λ slots. refuses (calls.file_length (with_slots slots h) d fd) (with_slots slots h) x (refused_over slots))
      sound)

  pub fsync_refused : Serves (λ s. calls.fsync s d fd) disk h (Err x) disk h
  fsync_refused =
      serves_refused (λ s. calls.fsync s d fd) disk h x
      (λ slots. refuses (calls.fsync (with_slots slots h) d fd) (with_slots slots h) x (refused_over slots)) sound

-- A descriptor on a file of a known length.

beyond : (n at : ℕ) → n < at → first ((BadRange when nat_lt n at) ∷ []) ≡ Some BadRange
beyond n at lt = let b : nat_lt n at ≡ true = grind (arith, nat_tests, lt) in ap (λ b. first ((BadRange when b) ∷ [])) b

within : (n at : ℕ) → at ≤ n → first ((BadRange when nat_lt n at) ∷ []) ≡ None
within n at le = let b : nat_lt n at ≡ false = grind (arith, nat_tests, le) in
    ap (λ b. first ((BadRange when b) ∷ [])) b

module _ (disk : Disk) (h : KernelState) (d fd f was len : ℕ) (mode : Mode)
    (held : IsOpenOn h d fd (on.File f was mode))
    (sized : IsBackedBy disk h → len ≡ length (machine.content (machine_of disk.slots h) f)) where
  sound : IsSound h
  sound = held.sound

  live : machine.is_live (machine_of [] h) d ≡ true
  live = held.live (bytes_over [] h.store)

  there : machine.descriptor (machine_of [] h) d fd ≡ Some (on.File f was mode)
  there = held.from (bytes_over [] h.store)

  is_open : IsOpenEnd (objects_of h) (Some (on.File f was mode))
  is_open = end_held (bytes_over [] h.store) h d fd (on.File f was mode) sound there

  -- the file has `len` bytes
  abbrev HasLength : List (List ℕ) → Type 0
  HasLength slots = length (machine.content (with_slots slots h) f) ≡ len

  own : IsBackedBy disk h → HasLength (machine_of disk.slots h).slots
  own backed = ap (λ (s : State). length (machine.content s f)) (with_slots-own disk.slots h) ∙ sym (sized backed)

  some : HasLength (even MAX_FILES len)
  some = let bounds = file_within h f sound is_open.0 in length_content-even len h f bounds.0 bounds.1

  seek-tests : (at : ℕ) (slots : List (List ℕ)) → HasLength slots
      → first (calls.seek (with_slots slots h) d fd at).refusals ≡ first ((BadRange when nat_lt len at) ∷ [])
  seek-tests at slots has =
      seek-first (with_slots slots h) d fd at true (Some (on.File f was mode)) (live-with_slots slots h d ∙ live)
      (descriptor-with_slots slots h d fd ∙ there)
      ∙ ap (λ n. first ((BadRange when nat_lt n at) ∷ [])) has

  pub seek_beyond : (at : ℕ) → len < at → Serves (λ s. calls.seek s d fd at) disk h (Err BadRange) disk h
  seek_beyond at lt =
      serves_where HasLength (λ s. calls.seek s d fd at) disk h h.domains (Err BadRange) (even MAX_FILES len)
      (λ slots has. refuses (calls.seek (with_slots slots h) d fd at) (with_slots slots h) BadRange
      (seek-tests at slots has ∙ beyond len at lt)) own some sound

  pub length_reported : Serves (λ s. calls.file_length s d fd) disk h (Ok len) disk h
  length_reported =
      serves_where HasLength (λ s. calls.file_length s d fd) disk h h.domains (Ok len) (even MAX_FILES len)
      (λ slots has. (
        length-first (with_slots slots h) d fd true (Some (on.File f was mode)) (live-with_slots slots h d ∙ live)
            (descriptor-with_slots slots h d fd ∙ there),
        sym has ∙ ap (λ (o : Option Descriptor). length (machine.content (with_slots slots h) (on_file o)))
            (sym (descriptor-with_slots slots h d fd ∙ there)),
        refl,
      ))
      own some sound

  -- the position moves

  abbrev moved : ℕ → List (Option Descriptor)
  moved at = slice_set (domain_in h.domains d).fds fd (Some (on.File f at mode))

  moved_once : (at : ℕ) → IsOpenOnce (with_fds_in h.domains d (moved at))
  moved_once at =
      once_fewer h.domains d (record (domain_in h.domains d) { fds = moved at })
      (live_held (bytes_over [] h.store) h d live)
      (λ e. omega (
        arith,
        ends-set e (Some (on.File f at mode)) (domain_in h.domains d).fds fd (on.File f was mode)
            (sym (descriptor-read_of (bytes_over [] h.store) h d fd) ∙ there),
        same_end-file e f at mode,
        same_end-file e f was mode,
      )) sound.once

  pub moved-sound : (at : ℕ) (ds : Domains) → at ≤ MAX_FILE_BYTES → ds ≡ with_fds_in h.domains d (moved at)
      → IsSound (record h { domains = ds })
  moved-sound at ds short is = fds-sound h ds d (moved at) sound (live_held (bytes_over [] h.store) h d live) is
      (each-set (IsOpenEnd (objects_of h)) (domain_in h.domains d).fds fd (Some (on.File f at mode))
      (ends_open h d sound) (is_open.0, short)) (moved_once at)

  moved-read : (at : ℕ) (ds : Domains) (slots : List (List ℕ)) → ds ≡ with_fds_in h.domains d (moved at)
      → with_slots slots (record h { domains = ds }) ≡ (calls.seek (with_slots slots h) d fd at).after
  moved-read at ds slots is =
      let s : State = with_slots slots h in
      fds-with_slots slots h (record h { domains = ds }) d (moved at)
      (fds-changed (bytes_over [] h.store) h ds d (moved at) is)
      ∙ ap (λ (ys : List (Option Descriptor)). fds.with_fds s d (slice_set ys fd (Some (on.File f at mode))))
      (sym (open-with_slots slots h d ∙ fds-read_of (bytes_over [] h.store) h d))
      ∙ ap (λ (o : Option Descriptor). fds.with_descriptor s d fd (option_map (λ x. on.File x.0 at x.2) (open_on o)))
      (sym (descriptor-with_slots slots h d fd ∙ there))

  -- for each reading of the places of bytes
  pub moved-places : (at : ℕ) (ds : Domains) → ds ≡ with_fds_in h.domains d (moved at) → (g : Reading) → KeepsPools g
      → read_of g (record h { domains = ds }) ≡ (calls.seek (read_of g h) d fd at).after
  moved-places at ds is g keeps =
      let s : State = read_of g h in
      let here : machine.descriptor s d fd ≡ Some (on.File f was mode) = descriptor-read_of g h d fd
      ∙ sym (descriptor-read_of (bytes_over [] h.store) h d fd) ∙ there in
      fds-changed g h ds d (moved at) is
      ∙ ap (λ (ys : List (Option Descriptor)). fds.with_fds s d (slice_set ys fd (Some (on.File f at mode))))
      (sym (fds-read_of g h d))
      ∙ ap (λ (o : Option Descriptor). fds.with_descriptor s d fd (option_map (λ x. on.File x.0 at x.2) (open_on o)))
      (sym here)

  pub sought : (at : ℕ) (ds : Domains) → at ≤ len → len ≤ MAX_FILE_BYTES → ds ≡ with_fds_in h.domains d (moved at)
      → Serves (λ s. calls.seek s d fd at) disk h (Ok tt) disk (record h { domains = ds })
  sought at ds le short is = serves_where HasLength (λ s. calls.seek s d fd at) disk h ds (Ok tt) (even MAX_FILES len)
      (λ slots has. (seek-tests at slots has ∙ within len at le, refl, moved-read at ds slots is)) own some
      (moved-sound at ds (omega (arith, le, short)) is)

-- the length of a file
pub length_is : (disk : Disk) (h : KernelState) (f n : ℕ) → IsSound h → is_numbered h.files f ≡ true
    → (IsBackedBy disk h → n ≡ length (bytes_in_slot h.store disk.slots h.cache.files f)) → IsBackedBy disk h
    → n ≡ length (machine.content (machine_of disk.slots h) f)
length_is disk h f n sound there is backed = let bounds = file_within h f sound there in
    is backed ∙ ap length (sym (content-machine_of disk.slots h f bounds.0 bounds.1))

-- no extent ends after the greatest length of a file
pub extents_short : (h : KernelState) (f : ℕ) → IsSound h → last_end (extents_in h.cache.files f) ≤ MAX_FILE_BYTES
extents_short h f sound = let filed = (cache_sound h sound).files f in filed.short
