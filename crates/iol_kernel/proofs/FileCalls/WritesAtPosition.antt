-- A file is written at a descriptor's position, which moves past the bytes written.
use Rattle.std.proofs.Common.{inl, inr, ◌≡◌, ◌≢◌, ℕ, zero, suc, ◌+◌, ◌-◌, ◌<◌, ◌≤◌, List, [], ◌∷◌, ◌++◌, length, take}
use Rattle.std.proofs.Common.{drop, get_or, map, refl, sym, ap, ◌∙◌, subst, arith, Option, Some, None, true}
use Rattle.std.specs.Prelude.{slice_set}
use Rattle.std.specs.List.{range_with_len}
use Rattle.std.proofs.lemmas.Bool.{cases_lt}
use Rattle.std.proofs.lemmas.Bool.Decides.{nat_tests}
use Rattle.std.proofs.lemmas.List.{get_or_past, length-map}
use Rattle.std.proofs.lemmas.List.FromFn.{get_or-map-range_with_len}
use Rattle.std.proofs.lemmas.List.Sums.{sum_by-set}
use Rattle.iol_core.specs.Text.{Text, bytes_of}
use Rattle.iol_core.specs.NumberedLists.{in_place, is_numbered, numbered_or, with_numbered}
use Rattle.iol_core.specs.State as machine
use Rattle.iol_core.specs.State.{State}
use Rattle.iol_core.specs.Calls.Descriptors as fds
use Rattle.iol_core.specs.Calls.Writes as writing
use Rattle.iol_core.specs.declared.descriptors.Mode.{Mode}
use Rattle.iol_core.specs.declared.descriptors.Descriptor.{Descriptor}
use Rattle.iol_core.specs.declared.descriptors.Descriptor.TheVariants as on
use Rattle.iol_core.specs.declared.limits.TheConstants.{MAX_FILES, MAX_FILE_BYTES}
use Rattle.iol_back.specs.Disk.{overwritten}
use Rattle.iol_hold.specs.StoreState.{Stored}
use Rattle.iol_desc.specs.Tables.{domain_in, with_fds_in}
use Rattle.iol_cache.specs.CacheState.{Cached}
use Rattle.iol_cache.specs.declared.files.CachedFile.{CachedFile}
use Rattle.iol_kernel.specs.FileCalls.{with_slots}
use Rattle.iol_kernel.specs.EndCounts.{same_end, on_end, ends_on}
use Rattle.iol_kernel.specs.KernelState.{KernelState, objects_of, read_of, IsOpenEnd, IsSound}
use Rattle.iol_kernel.specs.Readings.{Reading, bytes_over, slot_read, slots_read}
use Rattle.iol_kernel.specs.Views.{state_view}
use Rattle.iol_kernel.proofs.State.Effects.{fds-changed, fds-sound}
use Rattle.iol_kernel.proofs.State.Once.{once_fewer}
use Rattle.iol_kernel.proofs.State.ReadOf.{fds-read_of}
use Rattle.iol_kernel.proofs.FileCalls.ExtentChanges.{Recaches, recached_beside, recached_sound}
use Rattle.iol_kernel.proofs.State.Sound.{each-get, each-set, ends_open}

-- The bytes of all files, of which one changes.

map_rest : (u v : ℕ → List ℕ) (a k : ℕ) → ((m : ℕ) → a ≤ m → v m ≡ u m)
    → map v (range_with_len a k) ≡ map u (range_with_len a k)
map_rest u v a zero same = refl
map_rest u v a (suc k) same =
    ap (λ y. y ∷ map v (range_with_len (a + 1) k)) (same a (omega arith))
    ∙ ap (λ l. u a ∷ l) (map_rest u v (a + 1) k (λ m le. same m (omega (arith, le))))

map_set : (u v : ℕ → List ℕ) (a k i : ℕ) → i < k → ((m : ℕ) → m ≢ a + i → v m ≡ u m)
    → map v (range_with_len a k) ≡ slice_set (map u (range_with_len a k)) i (v (a + i))
map_set u v a zero i less same = absurd (omega (arith, less))
map_set u v a (suc k) zero less same =
    let here : a ≡ a + 0 = omega arith in
    ap (λ n. v n ∷ map v (range_with_len (a + 1) k)) here
    ∙ ap (λ l. v (a + 0) ∷ l) (map_rest u v (a + 1) k (λ m le. same m (λ e. omega (arith, e, le))))
map_set u v a (suc k) (suc i) less same =
    let next : a + 1 + i ≡ a + suc i = omega arith in
    ap (λ y. y ∷ map v (range_with_len (a + 1) k)) (same a (λ e. omega (arith, e)))
    ∙ ap (λ l. u a ∷ l) (map_set u v (a + 1) k i (omega (arith, less)) (λ m ne. same m (λ e. ne (omega (arith, e))))
    ∙ ap (λ n. slice_set (map u (range_with_len (a + 1) k)) i (v n)) next)

pub slots_kept : (f g : Reading) (fs gs : List CachedFile) → ((n : ℕ) → slot_read g gs n ≡ slot_read f fs n)
    → slots_read g gs ≡ slots_read f fs
unfolding slots_read
slots_kept f g fs gs same = λ i. map (λ n. same n i) (range_with_len 1 MAX_FILES)

pub slots_set : (f g : Reading) (fs gs : List CachedFile) (n : ℕ) (bytes : List ℕ) → 0 < n → n ≤ MAX_FILES
    → slot_read g gs n ≡ bytes → ((m : ℕ) → m ≢ n → slot_read g gs m ≡ slot_read f fs m)
    → slots_read g gs ≡ with_numbered (slots_read f fs) n bytes
unfolding slots_read
slots_set f g fs gs n bytes some few is others =
    let old : List (List ℕ) = map (slot_read f fs) (range_with_len 1 MAX_FILES) in
    let at : 1 + (n - 1) ≡ n = omega (arith, some) in
    let set : with_numbered old n bytes ≡ slice_set old (n - 1) bytes = grind (arith, nat_tests, some) in
    map_set (slot_read f fs) (slot_read g gs) 1 MAX_FILES (n - 1) (omega (arith, some, few))
    (λ m ne. others m (λ e. ne (omega (arith, e, at))))
    ∙ ap (slice_set old (n - 1)) (ap (slot_read g gs) at ∙ is)
    ∙ sym set

-- the bytes of a file, as the machine has them
pub content_is : (f : Reading) (h : KernelState) (n : ℕ) → 0 < n → n ≤ MAX_FILES
    → machine.content (read_of f h) n ≡ slot_read f h.cache.files n
unfolding read_of state_view machine.content slots_read
content_is f h n some few =
    let slots : List (List ℕ) = map (slot_read f h.cache.files) (range_with_len 1 MAX_FILES) in
    let at : numbered_or slots n [] ≡ get_or slots (n - 1) [] = grind (arith, nat_tests, some) in
    at ∙ get_or-map-range_with_len (slot_read f h.cache.files) 1 MAX_FILES (n - 1) n [] (omega (arith, some, few))
    (omega (arith, some))

-- A descriptor of a file has another position.

no_end : (e : Descriptor) (f at : ℕ) (mode : Mode) → same_end e (on.File f at mode) ≡ 0
no_end (on.ReadEnd p) f at mode = refl
no_end (on.WriteEnd p) f at mode = refl
no_end (on.File g i m) f at mode = refl
no_end (on.Connection c) f at mode = refl

within : (xs : List (Option Descriptor)) (n : ℕ) (x : Descriptor) → in_place xs n ≡ Some x → n < length xs
within xs n x is = elim (cases_lt n (length xs)) [
  | inl k ↦ k
  | inr k ↦ (let none : Option Descriptor = None in absurd (not_some (sym (get_or_past xs n none k) ∙ is)))
]
  where
    not_some : ◌≡◌ {A = Option Descriptor} None (Some x) → ⊥
    not_some e = cc

abbrev pub repositioned : KernelState → (by fd f to : ℕ) → Mode → List (Option Descriptor)
repositioned h by fd f to mode = slice_set (domain_in h.domains by).fds fd (Some (on.File f to mode))

ends_fewer : (e : Descriptor) (xs : List (Option Descriptor)) (fd f at to : ℕ) (mode : Mode)
    → in_place xs fd ≡ Some (on.File f at mode) → ends_on e (slice_set xs fd (Some (on.File f to mode))) ≤ ends_on e xs
ends_fewer e xs fd f at to mode is =
    let none : Option Descriptor = None in
    let set = sum_by-set (on_end e) xs fd (Some (on.File f to mode)) none (within xs fd (on.File f at mode) is) in
    omega (arith, set, no_end e f to mode, no_end e f at mode, ap (on_end e) is)

-- as the machine has it, for any bytes of files
fds-with_slots : (slots : List (List ℕ)) (h : KernelState) (by : ℕ)
    → (machine.domain (with_slots slots h) by).fds ≡ (domain_in h.domains by).fds
unfolding with_slots machine.domain
fds-with_slots slots h by = fds-read_of (bytes_over [] h.store) h by

with_fds-slots : (slots : List (List ℕ)) (h : KernelState) (by : ℕ) (xs : List (Option Descriptor))
    → with_slots slots (record h { domains = with_fds_in h.domains by xs }) ≡ fds.with_fds (with_slots slots h) by xs
unfolding with_slots machine.domain machine.with_domain
with_fds-slots slots h by xs =
    ap (λ (s : State). record s { slots = slots })
    (fds-changed (bytes_over [] h.store) h (with_fds_in h.domains by xs) by xs refl)

module _ (h : KernelState) (t : Stored) (d : Cached) (by fd f at to : ℕ) (mode : Mode) (sound : IsSound h)
    (m : Recaches h.store t h.cache d) (live : (domain_in h.domains by).live ≡ true)
    (is : in_place (domain_in h.domains by).fds fd ≡ Some (on.File f at mode)) where
  abbrev next : KernelState
  next = record h { store = t; cache = d }

  abbrev pub moved : KernelState
  moved = record next { domains = with_fds_in h.domains by (repositioned h by fd f to mode) }

  open_here : IsOpenEnd (objects_of h) (Some (on.File f at mode))
  open_here =
      subst (IsOpenEnd (objects_of h)) is (each-get (IsOpenEnd (objects_of h)) (domain_in h.domains by).fds fd None
      (ends_open h by sound) tt)

  pub file_there : is_numbered h.files f ≡ true
  file_there = open_here.0

  pub moved_sound : to ≤ MAX_FILE_BYTES → IsSound moved
  moved_sound short =
      let after = recached_sound h t d sound m in
      let once = once_fewer h.domains by (record (domain_in h.domains by) { fds = repositioned h by fd f to mode }) live
      (λ e. ends_fewer e (domain_in h.domains by).fds fd f at to mode is) sound.once in
      fds-sound next (with_fds_in h.domains by (repositioned h by fd f to mode)) by (repositioned h by fd f to mode)
      after live refl
      (each-set (IsOpenEnd (objects_of next)) (domain_in h.domains by).fds fd (Some (on.File f to mode))
      (ends_open next by after) (file_there, short)) once

  moved_beside : (slots : List (List ℕ))
      → with_slots slots moved ≡ fds.with_descriptor (with_slots slots h) by fd (Some (on.File f to mode))
  moved_beside slots =
      with_fds-slots slots next by (repositioned h by fd f to mode)
      ∙ ap (λ (s : State). fds.with_fds s by (repositioned h by fd f to mode)) (recached_beside h t d sound m slots)
      ∙ ap (λ xs. fds.with_fds (with_slots slots h) by (slice_set xs fd (Some (on.File f to mode))))
      (sym (fds-with_slots slots h by))

  content_set : (slots : List (List ℕ)) (bytes : List ℕ)
      → machine.with_content (with_slots slots h) f bytes ≡ with_slots (with_numbered slots f bytes) h
  unfolding with_slots machine.with_content
  content_set slots bytes = refl

  -- the machine's state after the write
  pub moved_written : (slots : List (List ℕ)) (w : Text) → at + length w ≡ to
      → with_slots (with_numbered slots f (overwritten at (bytes_of w) (machine.content (with_slots slots h) f))) moved
      ≡ writing.written (with_slots slots h) by fd (Some (on.File f at mode)) w
  moved_written slots w long =
      let s : State = with_slots slots h in
      let old : List ℕ = machine.content s f in
      let bytes : List ℕ = overwritten at (bytes_of w) old in
      let count : length (bytes_of w) ≡ length w = length-map w (λ (b : ℕ × ℕ). b.0) in
      moved_beside (with_numbered slots f bytes)
      ∙ ap (λ (z : State). fds.with_descriptor z by fd (Some (on.File f to mode))) (sym (content_set slots bytes))
      ∙ ap (λ n. fds.with_descriptor (machine.with_content s f (take at old ++ bytes_of w ++ drop (at + n) old)) by fd
      (Some (on.File f to mode))) count
      ∙ ap (λ n. fds.with_descriptor (machine.with_content s f (take at old ++ bytes_of w ++ drop (at + length w) old))
      by fd (Some (on.File f n mode))) (sym long)
