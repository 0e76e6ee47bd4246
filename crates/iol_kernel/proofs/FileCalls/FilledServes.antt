-- The meaning of a copying write to a file, once its bytes are in the file's pool.
use Rattle.std.proofs.Common.{◌≡◌, ℕ, ◌+◌, ◌≤◌, true, List, [], length, take, refl, sym, ap, ◌∙◌, subst, arith, Option}
use Rattle.std.proofs.Common.{Some, None}
use Rattle.std.specs.Prelude.{Result, Ok, Err, MatchOption, OnOk}
use Rattle.std.proofs.lemmas.List.{length-map, take_all}
use Rattle.iol_core.specs.Text.{bytes_of, labelled}
use Rattle.iol_core.specs.NumberedLists.{in_place, is_numbered}
use Rattle.iol_core.specs.Meaning.{Meaning, Step, first}
use Rattle.iol_core.specs.State as machine
use Rattle.iol_core.specs.State.{State}
use Rattle.iol_core.specs.Positions.{ArePlaced}
use Rattle.iol_core.specs.Calls.Writes as writing
use Rattle.iol_core.specs.declared.refusals.Refusal.{Refusal}
use Rattle.iol_core.specs.declared.refusals.Refusal.TheVariants.{Memory}
use Rattle.iol_core.specs.declared.descriptors.Mode.{Mode}
use Rattle.iol_core.specs.declared.descriptors.Descriptor.{Descriptor}
use Rattle.iol_core.specs.declared.descriptors.Descriptor.TheVariants as on
use Rattle.iol_core.specs.declared.limits.TheConstants.{MAX_FILE_BYTES}
use Rattle.iol_back.specs.Disk.{Disk}
use Rattle.iol_hold.specs.Places.{byte_len}
use Rattle.iol_hold.specs.StoreState.{Stored}
use Rattle.iol_hold.specs.Texts.{text_of}
use Rattle.iol_hold.specs.declared.slices.Slice.{Slice}
use Rattle.iol_hold.proofs.AtPlaces.{length-read}
use Rattle.iol_hold.proofs.Moves.{stays_trans}
use Rattle.iol_desc.specs.Tables.{domain_in, with_fds_in}
use Rattle.iol_cache.specs.CacheState.{Cached}
use Rattle.iol_cache.specs.Overwrites.{KeepsFiles, KeepsMirrors}
use Rattle.iol_kernel.specs.FileCalls.{Serves, holding_of, with_slots}
use Rattle.iol_kernel.specs.KernelState.{KernelState, machine_of, read_of}
use Rattle.iol_kernel.specs.Room.{MakesRoom}
use Rattle.iol_kernel.specs.WritesByCopy.{MayPut}
use Rattle.iol_kernel.specs.Readings.{Reading, bytes_over}
use Rattle.iol_kernel.proofs.FileCalls.FileWrites.{Puts, late_serves, write_serves}
use Rattle.iol_kernel.proofs.FileCalls.WritesAtPosition.{repositioned}
use Rattle.iol_kernel.proofs.FileCalls.Overwrites.{in_cache}
use Rattle.iol_kernel.proofs.Queues.PipeEnds.{end_held}
use Rattle.iol_kernel.proofs.State.ReadOf.{descriptor-read_of, live_held}
use Rattle.iol_kernel.proofs.FileCalls.ExtentChanges.{Recaches}
use Rattle.iol_kernel.proofs.Queues.PassedTests.{passed_live, passed_short}
use Rattle.iol_kernel.proofs.State.CacheUntouched.{still_serves}
use Rattle.iol_kernel.proofs.State.Stay.{stays_here}

pub filled_len : (s : Stored) (xs : List Slice) (pool : ℕ) (bytes : List ℕ) → text_of s xs ≡ labelled pool bytes
    → byte_len xs ≡ length bytes
filled_len s xs pool bytes text = sym (length-read (bytes_over [] s).at xs) ∙ ap length text
    ∙ length-map bytes (λ b. (b, pool))

-- The meaning of the call for a file.

module _ (h : KernelState) (by fd f at pool : ℕ) (mode : Mode) (bytes : List ℕ)
    (may : MayPut by fd (on.File f at mode) pool bytes h) where
  abbrev m : State → Meaning ℕ
  m s = writing.write s by fd bytes

  abbrev over : List (List ℕ) → Reading
  over stored = bytes_over stored h.store

  pub held_live : (domain_in h.domains by).live ≡ true
  held_live = live_held (over []) h by (passed_live (machine_of [] h) by fd bytes (may.passes.passed (over [])))

  pub held_file : in_place (domain_in h.domains by).fds fd ≡ Some (on.File f at mode)
  held_file = sym (descriptor-read_of (over []) h by fd) ∙ may.to (over [])

  pub held_there : is_numbered h.cache.files f ≡ true
  held_there = in_cache h f may.sound (end_held (over []) h by fd (on.File f at mode) may.sound (may.to (over []))).0

  pub held_short : at + length bytes ≤ MAX_FILE_BYTES
  held_short = passed_short (machine_of [] h) by fd bytes (may.passes.passed (over [])) f at mode (may.to (over []))

  pub file_count : (r : Reading) → (writing.write (read_of r h) by fd bytes).answer ≡ length bytes
  file_count r = ap (λ (o : Option Descriptor). writing.fitting (read_of r h) o (length bytes)) (may.to r)

  long : length (labelled pool bytes) ≡ length bytes
  long = length-map bytes (λ b. (b, pool))

  left : (stored : List (List ℕ))
      → (m (machine_of stored h)).after ≡ writing.written (machine_of stored h) by fd (Some (on.File f at mode))
      (labelled pool bytes)
  left stored =
      let s : State = machine_of stored h in
      ap
      (λ p. writing.written s by fd (machine.descriptor s by fd)
      (labelled p (take (writing.fitting s (machine.descriptor s by fd) (length bytes)) bytes)))
      (sym (may.passes.pool (over stored)))
      ∙ ap
      (λ (o : Option Descriptor). writing.written s by fd o
      (labelled pool (take (writing.fitting s o (length bytes)) bytes))) (may.to (over stored))
      ∙ ap (λ (l : List ℕ). writing.written s by fd (Some (on.File f at mode)) (labelled pool l))
      (take_all (length bytes) bytes (omega arith))

  pub filled_serves : (k : KernelState) (u : Stored) (d : Cached) (n : ℕ) → Recaches h.store u h.cache d
      → Puts f at (bytes_of (labelled pool bytes)) (holding_of h) (record { store = u; cache = d }) → n ≡ length bytes
      → k ≡ record h {
        store = u;
        cache = d;
        domains =
            with_fds_in h.domains by (repositioned h by fd f (at + length bytes) mode);
      } → (disk : Disk)
      → Serves m disk h (Ok n) disk k
  filled_serves k u d n re puts count same disk =
      subst (λ z. Serves m disk h (Ok z) disk k) (long ∙ sym count)
      (write_serves m h k u d by fd f at mode (labelled pool bytes) may.sound held_live held_file re puts
      (omega (arith, held_short, long)) (λ stored. may.passes.passed (over stored)) (λ stored. long
      ∙ sym (file_count (over stored))) left
      (same
      ∙ ap (λ z. let l : KernelState =
      record h {
        store = u;
        cache = d;
        domains =
            with_fds_in h.domains by (repositioned h by fd f (at + z) mode);
      } in l) (sym long)) disk)

  pub unfilled_serves : (k : KernelState) (u : Stored) (d : Cached) → Recaches h.store u h.cache d
      → KeepsFiles (holding_of h) (record { store = u; cache = d })
      → KeepsMirrors (holding_of h) (record { store = u; cache = d }) → k ≡ record h { store = u; cache = d }
      → (disk : Disk) → Serves m disk h (Err Memory) disk k
  unfilled_serves k u d re keeps mirrors same =
      late_serves m h k u d Memory may.sound re keeps mirrors (λ stored. may.passes.passed (over stored)) (λ stored. tt)
      same

  pub unplaced_serves : (k : KernelState) → k ≡ h → (disk : Disk) → Serves m disk h (Err Memory) disk k
  unplaced_serves k same disk = subst (λ (l : KernelState). Serves m disk h (Err Memory) disk l) (sym same)
      (still_serves m h h (Err Memory) may.sound may.sound
      (λ stored. (late (m (machine_of stored h)) (may.passes.passed (over stored)) tt, refl)) refl refl
      (stays_here h.store) disk)
    where
      late : (n : Meaning ℕ) → first n.refusals ≡ None → n.Late Memory
          → MatchOption (first n.refusals) (n.Late Memory) (λ y. Memory ≡ y)
      late n none is = rw none is

-- Room was made before.
pub roomed_serves : {A : Type 0} (m : State → Meaning A) (pool pages : ℕ) (h k l : KernelState) (r : Result A Refusal)
    → MakesRoom pool pages h k → (disk after : Disk) → Serves m disk k r after l → Serves m disk h r after l
roomed_serves m pool pages h k l r room disk after x = record {
  step = λ backed placed. (let same = room.same.files disk backed in
      subst (λ (s : State). Step (m s) s r (machine_of after.slots l)) same
      (x.step (room.same.backed disk backed) (subst ArePlaced (sym same) placed)));
  backed = λ backed. x.backed (room.same.backed disk backed);
  beside = record {
    before = x.beside.before;
    after = x.beside.after;
    step = subst (λ (s : State). Step (m s) s r (with_slots x.beside.after l)) (room.same.beside x.beside.before)
        x.beside.step;
  };
  honest = x.honest;
  sums = x.sums ∙ ap (λ (z : KernelState). z.sums) room.rest;
  sound = x.sound;
  stays = stays_trans room.gives_up.moves.stays x.stays;
}

pub on_ok : {A E P : Type 0} (r : Result A E) → P → OnOk r P
on_ok (Ok x) p = p
on_ok (Err x) p = tt
