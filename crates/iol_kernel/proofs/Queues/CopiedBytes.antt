-- A read by copying of a queue has the same result if it requests no more bytes than are queued.
use Rattle.std.proofs.Common.{◌≡◌, ℕ, List, [], ◌∷◌, ◌++◌, length, take, ap, ◌∙◌, sym, Option, Some, None, Bool, true}
use Rattle.std.proofs.Common.{false}
use Rattle.std.specs.Prelude.{MatchOption, Result, Ok, Err, is_none, min, not, if◌then◌else◌, option_map}
use Rattle.std.proofs.lemmas.List.{take_at, take_min}
use Rattle.iol_core.specs.Text.{Text, bytes_of, admitted, barred}
use Rattle.iol_core.specs.Meaning.{Never, first, ◌when◌}
use Rattle.iol_core.specs.State as machine
use Rattle.iol_core.specs.State.{State}
use Rattle.iol_core.specs.Calls.Files.{open_on}
use Rattle.iol_core.specs.Calls.Reads as reading
use Rattle.iol_core.specs.declared.descriptors.Descriptor.{Descriptor}
use Rattle.iol_core.specs.declared.descriptors.Descriptor.TheVariants as on
use Rattle.iol_core.specs.declared.refusals.Refusal.{Refusal}
use Rattle.iol_core.specs.declared.refusals.Refusal.TheVariants.{BadFd, Denied, Memory, NoDomain, NoRoom, WouldBlock}
use Rattle.iol_core.specs.declared.refusals.Refusal.TheVariants.{WrongMode}
use Rattle.iol_kernel.specs.Calls.{Leaves}
use Rattle.iol_kernel.specs.ReadsByCopy.{ReadsOut}
use Rattle.iol_kernel.specs.FileReads.{held_by}
use Rattle.iol_kernel.specs.KernelState.{KernelState, IsSound, read_of, machine_of}
use Rattle.iol_kernel.specs.Readings.{Reading, bytes_over}
use Rattle.iol_kernel.proofs.State.TableCalls.{refusal_of}
use Rattle.iol_kernel.proofs.State.Effects.{leaves_as}
use Rattle.iol_kernel.proofs.State.ReadOf.{is_live-read_of}
use Rattle.iol_kernel.proofs.State.Stay.{pages_equal}
use Rattle.iol_kernel.proofs.Queues.ReadsOverStores.{refused_first, refused_serves, taken_serves, unread_serves}

of_queue : (s : State) (d n m : ℕ) (q : Text) → m ≡ min n (length q)
    → admitted (machine.may_read s d) (take m q) ≡ admitted (machine.may_read s d) (take n q)
of_queue s d n m q all = ap (λ k. admitted (machine.may_read s d) (take k q)) all
    ∙ ap (admitted (machine.may_read s d)) (take_min n q)

of_end : (s : State) (d n m : ℕ) (o : Option Descriptor) → open_on o ≡ None → m ≡ min n (length (reading.unread s o))
    → reading.read_text s d o m ≡ reading.read_text s d o n
of_end s d n m None queue all = of_queue s d n m [] all
of_end s d n m (Some (on.File f at mode)) queue all = absurd (cc queue)
of_end s d n m (Some (on.ReadEnd p)) queue all = of_queue s d n m (machine.pipe_at s p).queue all
of_end s d n m (Some (on.WriteEnd p)) queue all = of_queue s d n m [] all
of_end s d n m (Some (on.Connection c)) queue all = of_queue s d n m (machine.conn_at s c).incoming all

-- a live domain's descriptor that is held on no file is on none
pub held_none : (live : Bool) (o : Option Descriptor) → live ≡ true → open_on (if live then o else None) ≡ None
    → open_on o ≡ None
held_none live o is none = ap (λ b. open_on (if b then o else None)) (sym is) ∙ none

pub on_no_file : (h : KernelState) (d fd : ℕ) → machine.is_live (machine_of [] h) d ≡ true
    → ((f : Reading) → open_on (held_by (read_of f h) d fd) ≡ None) → (f : Reading)
    → open_on (machine.descriptor (read_of f h) d fd) ≡ None
on_no_file h d fd live none f =
    held_none (machine.is_live (read_of f h) d) (machine.descriptor (read_of f h) d fd) (is_live-read_of f h d
    ∙ sym (is_live-read_of (bytes_over [] h.store) h d) ∙ live) (none f)

module _ (f : Reading) (h : KernelState) (d fd n m : ℕ) (none : open_on (machine.descriptor (read_of f h) d fd) ≡ None)
    (all : m ≡ min n (length (reading.unread (read_of f h) (machine.descriptor (read_of f h) d fd)))) where
  same : reading.read_text (read_of f h) d (machine.descriptor (read_of f h) d fd) m ≡ reading.read_text (read_of f h) d
      (machine.descriptor (read_of f h) d fd) n
  same = of_end (read_of f h) d n m (machine.descriptor (read_of f h) d fd) none all

  same_after : (reading.read (read_of f h) d fd m).after ≡ (reading.read (read_of f h) d fd n).after
  same_after = ap (λ (t : Text). reading.read_on (read_of f h) d fd (machine.descriptor (read_of f h) d fd) (length t))
      same

  same_answer : (reading.read (read_of f h) d fd m).answer ≡ (reading.read (read_of f h) d fd n).answer
  same_answer = ap (λ (t : Text). bytes_of t) same

-- the bytes at the front of a memory
pub front_is : (bytes rest into : List ℕ) (k : ℕ) → into ≡ bytes ++ rest → k ≡ length bytes → take k into ≡ bytes
front_is bytes rest into k is count = ap (take k) is ∙ take_at bytes rest k (sym count)

-- the requested number of bytes was taken off
pub taken_out : (h k : KernelState) (d fd n : ℕ) (items : List ℕ) → IsSound h
    → ((f : Reading) → open_on (machine.descriptor (read_of f h) d fd) ≡ None)
    → first (reading.read (machine_of [] h) d fd n).refusals ≡ None
    → items ≡ (reading.read (machine_of [] h) d fd n).answer
    → Leaves (λ s. (reading.read s d fd n).after) h k → ReadsOut d fd n h (Ok items) k
taken_out h k d fd n items sound none passed bytes left = record {
  serves = taken_serves h d fd n k items sound (none (bytes_over [] h.store)) passed bytes left;
  places = left.places;
  roomy = λ p e. never items p e;
  pages = left.pages;
  cache = left.cache;
  refused = tt;
}
  where
    never : (xs : List ℕ) (p : ℕ) → ◌≡◌ {A = Result (List ℕ) Refusal} (Ok xs) (Err (NoRoom p)) → ⊥
    never xs p e = cc e

-- the smaller of the requested and the queued number was taken off
pub listed : (h k : KernelState) (d fd n m : ℕ) (items : List ℕ) → IsSound h
    → ((f : Reading) → open_on (machine.descriptor (read_of f h) d fd) ≡ None)
    → first (reading.read (machine_of [] h) d fd n).refusals ≡ None
    → ((f : Reading) → m ≡ min n (length (reading.unread (read_of f h) (machine.descriptor (read_of f h) d fd))))
    → items ≡ (reading.read (machine_of [] h) d fd m).answer
    → Leaves (λ s. (reading.read s d fd m).after) h k → ReadsOut d fd n h (Ok items) k
listed h k d fd n m items sound none passed all bytes left =
    let f0 = bytes_over [] h.store in
    taken_out h k d fd n items sound none passed (bytes ∙ same_answer f0 h d fd n m (none f0) (all f0))
    (leaves_as (λ s. (reading.read s d fd m).after) (λ s. (reading.read s d fd n).after) h k
    (λ f. same_after f h d fd n m (none f) (all f)) left)

-- A refused read.

four_tests : (a b c e : Bool) (o : Option Refusal) (p : ℕ) → (o ≡ Some (NoRoom p) → ⊥)
    → first ((NoDomain when a) ∷ (BadFd when b) ∷ (WrongMode when c) ∷ o ∷ (WouldBlock when e) ∷ []) ≡ Some (NoRoom p)
    → ⊥
four_tests true b c e o p other is = cc is
four_tests false true c e o p other is = cc is
four_tests false false true e o p other is = cc is
four_tests false false false e (Some q) p other is = other is
four_tests false false false true None p other is = cc is
four_tests false false false false None p other is = cc is

denied_alone : (b : Bool) (q p : ℕ) → (Denied q when b) ≡ Some (NoRoom p) → ⊥
denied_alone true q p is = cc is
denied_alone false q p is = cc is

denied_first : (o : Option ℕ) (p : ℕ) → option_map Denied o ≡ Some (NoRoom p) → ⊥
denied_first None p is = cc is
denied_first (Some q) p is = cc is

denied_no_room : (s : State) (d n p : ℕ) (o : Option Descriptor) → reading.read_denied s d o n ≡ Some (NoRoom p) → ⊥
denied_no_room s d n p None is =
    denied_first (barred (machine.may_read s d) (take (min n 1) (reading.unread s None))) p is
denied_no_room s d n p (Some (on.File f at mode)) is =
    denied_alone (not (machine.may_read s d (machine.file s f).pool)) (machine.file s f).pool p is
denied_no_room s d n p (Some (on.ReadEnd q)) is =
    denied_first (barred (machine.may_read s d) (take (min n 1) (reading.unread s (Some (on.ReadEnd q))))) p is
denied_no_room s d n p (Some (on.WriteEnd q)) is =
    denied_first (barred (machine.may_read s d) (take (min n 1) (reading.unread s (Some (on.WriteEnd q))))) p is
denied_no_room s d n p (Some (on.Connection q)) is =
    denied_first (barred (machine.may_read s d) (take (min n 1) (reading.unread s (Some (on.Connection q))))) p is

pub read_refused : (h k : KernelState) (d fd n : ℕ) (y : Refusal) → IsSound h
    → MatchOption (first (reading.read (machine_of [] h) d fd n).refusals) (Never y) (λ z. y ≡ z) → k ≡ h
    → ReadsOut d fd n h (Err y) k
read_refused h k d fd n y sound refused same = record {
  serves = refused_serves h d fd n k y sound refused same;
  places = tt;
  roomy = λ p e. roomy p (refusal_of y (NoRoom p) e);
  pages = pages_equal h.store k.store (ap (λ (l : KernelState). l.store) same);
  cache = ap (λ (l : KernelState). l.cache) same;
  refused = same;
}
  where
    roomy : (p : ℕ) → y ≡ NoRoom p → ⊥
    roomy p is =
        let s = machine_of [] h in
        let o = machine.descriptor s d fd in
        four_tests (not (machine.is_live s d)) (is_none o) (not (reading.can_read o)) (reading.must_wait s o n)
        (reading.read_denied s d o n) p (denied_no_room s d n p o)
        (refused_first h d fd n (first (reading.read s d fd n).refusals) y refused ∙ ap Some is)

-- None of the tests is refused for lack of memory.

tests_need_none : (a b c e : Bool) (o : Option Refusal) → (o ≡ Some Memory → ⊥)
    → first ((NoDomain when a) ∷ (BadFd when b) ∷ (WrongMode when c) ∷ o ∷ (WouldBlock when e) ∷ []) ≡ Some Memory → ⊥
tests_need_none true b c e o other is = cc is
tests_need_none false true c e o other is = cc is
tests_need_none false false true e o other is = cc is
tests_need_none false false false e (Some q) other is = other is
tests_need_none false false false true None other is = cc is
tests_need_none false false false false None other is = cc is

barred_needs_none : (b : Bool) (q : ℕ) → (Denied q when b) ≡ Some Memory → ⊥
barred_needs_none true q is = cc is
barred_needs_none false q is = cc is

first_needs_none : (o : Option ℕ) → option_map Denied o ≡ Some Memory → ⊥
first_needs_none None is = cc is
first_needs_none (Some q) is = cc is

denied_needs_none : (s : State) (d n : ℕ) (o : Option Descriptor) → reading.read_denied s d o n ≡ Some Memory → ⊥
denied_needs_none s d n None is =
    first_needs_none (barred (machine.may_read s d) (take (min n 1) (reading.unread s None))) is
denied_needs_none s d n (Some (on.File f at mode)) is =
    barred_needs_none (not (machine.may_read s d (machine.file s f).pool)) (machine.file s f).pool is
denied_needs_none s d n (Some (on.ReadEnd q)) is =
    first_needs_none (barred (machine.may_read s d) (take (min n 1) (reading.unread s (Some (on.ReadEnd q))))) is
denied_needs_none s d n (Some (on.WriteEnd q)) is =
    first_needs_none (barred (machine.may_read s d) (take (min n 1) (reading.unread s (Some (on.WriteEnd q))))) is
denied_needs_none s d n (Some (on.Connection q)) is =
    first_needs_none (barred (machine.may_read s d) (take (min n 1) (reading.unread s (Some (on.Connection q))))) is

-- a read that is refused by its tests is not refused for lack of memory
pub tests_not_memory : (h : KernelState) (d fd n : ℕ) (y : Refusal)
    → MatchOption (first (reading.read (machine_of [] h) d fd n).refusals) (Never y) (λ z. y ≡ z) → y ≡ Memory → ⊥
tests_not_memory h d fd n y refused is =
    let s = machine_of [] h in
    let o = machine.descriptor s d fd in
    tests_need_none (not (machine.is_live s d)) (is_none o) (not (reading.can_read o)) (reading.must_wait s o n)
    (reading.read_denied s d o n) (denied_needs_none s d n o)
    (refused_first h d fd n (first (reading.read s d fd n).refusals) y refused ∙ ap Some is)

pub read_unlisted : (h k : KernelState) (d fd n : ℕ) → IsSound h
    → first (reading.read (machine_of [] h) d fd n).refusals ≡ None → k ≡ h → ReadsOut d fd n h (Err Memory) k
read_unlisted h k d fd n sound passed same = record {
  serves = unread_serves h d fd n k sound passed same;
  places = tt;
  roomy = λ p e. cc e;
  pages = pages_equal h.store k.store (ap (λ (l : KernelState). l.store) same);
  cache = ap (λ (l : KernelState). l.cache) same;
  refused = same;
}
