-- Closing the end of a pipe, as the machine sees it.
use Rattle.std.proofs.Common.{◌≡◌, ℕ, ◌+◌, ◌<◌, ◌≤◌, List, [], ◌∷◌, length, ap, ◌∙◌, refl, sym, subst, arith, Option}
use Rattle.std.proofs.Common.{Some, None, inl, inr, ◌⊎◌, get_or, true, false, Bool, length-set, ◌≢◌}
use Rattle.std.specs.List.{AllByRecursion}
use Rattle.std.specs.Prelude.{slice_set, unwrap_or, if◌then◌else◌, ◌||◌, sum_by, cond, eqb}
use Rattle.std.proofs.lemmas.Bool.{cases_eq}
use Rattle.std.proofs.lemmas.Bool.Decides.{nat_tests}
use Rattle.std.proofs.lemmas.List.{set-set, get_or-set_same, get_or-set_other, get_or_default}
use Rattle.std.proofs.lemmas.List.Sums.{sum_by-set, sum_by-cons}
use Rattle.iol_core.specs.NumberedLists.{in_place}
use Rattle.iol_core.specs.State as machine
use Rattle.iol_core.specs.State.{Domain}
use Rattle.iol_core.specs.Calls.Descriptors as fds
use Rattle.iol_core.specs.declared.descriptors.Descriptor.{Descriptor}
use Rattle.iol_core.specs.declared.descriptors.Descriptor.TheVariants as on
use Rattle.iol_core.specs.declared.numbers.BufId.{BufId}
use Rattle.iol_hold.specs.StoreState.{Stored}
use Rattle.iol_hold.specs.Moves.{Moves}
use Rattle.iol_hold.specs.Places.{byte_len}
use Rattle.iol_hold.specs.Texts.{AllReadable}
use Rattle.iol_hold.specs.declared.slices.Slice.{Slice}
use Rattle.iol_hold.proofs.Counts.{tally_none}
use Rattle.iol_hold.specs.Releases.{FreesOnly, Releases}
use Rattle.iol_hold.proofs.PageChanges.{keeps_pages_frees}
use Rattle.iol_hold.proofs.Releases.{frees_none}
use Rattle.iol_hold.proofs.Moves.{moves_none}
use Rattle.iol_hold.proofs.ReadSlices.{readable_none}
use Rattle.iol_kernel.specs.Views.{Pipe, Objects, pipe_view, state_view}
use Rattle.iol_kernel.specs.HoldCounts.{uses, pipe_uses, IsCounted}
use Rattle.iol_kernel.specs.EndCounts.{same_end, on_end, ends_on, all_ends_on}
use Rattle.iol_kernel.specs.KernelState.{KernelState, objects_of, IsOpenEnd, IsPipeReadable, AreReadable, IsShort}
use Rattle.iol_kernel.specs.KernelState.{IsLimited, IsSound, queue_at, read_of}
use Rattle.iol_kernel.specs.Readings.{Reading, read}
use Rattle.iol_kernel.specs.ClosedEnds.{without_reader, without_writer, with_pipe_in, Closes, ClosesEnd, IsLetGo}
use Rattle.iol_kernel.specs.ClosedEnds.{KeepsEnds}
use Rattle.iol_kernel.proofs.State.Uses.{uses-set_pipe, uses_at, Pipes}
use Rattle.iol_kernel.proofs.State.Sound.{each-set, with_pipes}
use Rattle.iol_kernel.proofs.Queues.EndCounts.{there_if_open, closed_pipe}
use Rattle.iol_kernel.proofs.State.Pools.{same_pooled}
use Rattle.iol_kernel.proofs.State.Effects.{moved-sound, leaves}
use Rattle.iol_kernel.proofs.Queues.SoundPipes.{queue_readable, queue_short}
use Rattle.iol_kernel.proofs.State.ReadOf.{pipe_at-read_of}
use Rattle.iol_kernel.proofs.State.Views.{with_pipe_in-view, pools-view}

pub moves_same : (s : Stored) (xs : List BufId) → Moves s s xs xs
moves_same s xs = let m = moves_none s in
    record { counts = record { each = λ b. refl }; stays = m.stays; still = m.still; tidy = m.tidy }

pub frees_same : (s : Stored) → FreesOnly s s
frees_same s = frees_none s s refl refl refl

pub ruleset same_rules = (moves_same, frees_same)

-- a pipe is removed, in two steps

-- an element that was read by its index is found there, if the index is within the list
pub found_there : (old : Pipes) (n : ℕ) (z : Option (Pipe (List Slice))) (x : Pipe (List Slice)) → n < length old
    → z ≡ Some x → z ≡ get_or old n z → Some x ≡ in_place old n
found_there old n z x there is read = sym is ∙ read ∙ get_or_default old n z None there

pub closes_gone : (s t : Stored) (old : Pipes) (n p : ℕ) (x y : Pipe (List Slice)) (after : Pipe (List Slice)
    → Pipe (List Slice)) → n ≡ p → Some x ≡ in_place old n → y ≡ after x
    → ((after x).reading || (after x).writing) ≡ false → Releases s t x.queue y.queue
    → ClosesEnd s t old (slice_set (slice_set old n (Some y)) n None) p after
closes_gone s t old n p x y after same there is gone releases =
    let found : queue_at old p ≡ x = ap (queue_at old) (sym same)
    ∙ ap (λ (o : Option (Pipe (List Slice))). unwrap_or o (record { queue = []; reading = false; writing = false }))
    (sym there) in
    let become : after (queue_at old p) ≡ y = ap after found ∙ sym is in
    record {
      pipes = set-set old n (Some y) None ∙ ap (λ k. slice_set old k None) same
          ∙ sym (ap (λ (z : Pipe (List Slice)). slice_set old p (if z.reading || z.writing then Some z else None))
          (ap after found) ∙ rw gone refl);
      releases = subst (λ (z : Pipe (List Slice)). Releases s t z.queue (after (queue_at old p)).queue) (sym found)
          (subst (λ (z : Pipe (List Slice)). Releases s t x.queue z.queue) (sym become) releases);
    }

pub neither : (r : Bool) → r ≡ false → (r || false) ≡ false
neither r e = rw e refl

-- counts

uses-with_pipe : (b : BufId) (qs : Pipes) (p : ℕ) (x : Pipe (List Slice)) → p < length qs
    → ((x.reading || x.writing) ≡ false → x.queue ≡ [])
    → sum_by (pipe_uses b) (with_pipe_in qs p x) + uses b (queue_at qs p).queue ≡ sum_by (pipe_uses b) qs
    + uses b x.queue
uses-with_pipe b qs p x there empty = pick (x.reading || x.writing) refl
  where
    pick : (k : Bool) → (x.reading || x.writing) ≡ k
        → sum_by (pipe_uses b) (slice_set qs p (if k then Some x else None)) + uses b (queue_at qs p).queue
        ≡ sum_by (pipe_uses b) qs + uses b x.queue
    pick true is = uses-set_pipe b qs p x there
    pick false is =
        let none : Option (Pipe (List Slice)) = None in
        let e = sum_by-set (pipe_uses b) qs p none none there in
        omega (arith, e, uses_at b qs p, ap (uses b) (empty is), tally_none b)

-- the machine's change of the pipe
reader-read : (f : Reading) (h : KernelState) (p : ℕ)
    → machine.with_pipe (read_of f h) p (pipe_view (read f) (without_reader (queue_at h.pipes p)))
    ≡ fds.closed_on (read_of f h) (Some (on.ReadEnd p))
reader-read f h p =
    ap (λ (y : machine.Pipe). machine.with_pipe (read_of f h) p (record y { queue = []; reading = false }))
    (sym (pipe_at-read_of f h p))

writer-read : (f : Reading) (h : KernelState) (p : ℕ)
    → machine.with_pipe (read_of f h) p (pipe_view (read f) (without_writer (queue_at h.pipes p)))
    ≡ fds.closed_on (read_of f h) (Some (on.WriteEnd p))
unfolding machine.with_pipe
writer-read f h p = gone (queue_at h.pipes p).queue (queue_at h.pipes p).reading
    ∙ ap (λ (y : machine.Pipe). machine.with_pipe (read_of f h) p (record y { writing = false }))
    (sym (pipe_at-read_of f h p))
  where
    gone : (q : List Slice) (r : Bool)
        → machine.with_pipe (read_of f h) p (record {
          queue = read f (if r then q else []);
          reading = r;
          writing =
              false;
        }) ≡ machine.with_pipe (read_of f h) p (record { queue = read f q; reading = r; writing = false })
    gone q true = refl
    gone q false = refl

-- other ends stay open

queue-here : (qs : Pipes) (p : ℕ) (o : Option (Pipe (List Slice))) → p < length qs
    → queue_at (slice_set qs p o) p ≡ unwrap_or o closed_pipe
queue-here qs p o there = let none : Option (Pipe (List Slice)) = None in
    ap (λ (y : Option (Pipe (List Slice))). unwrap_or y closed_pipe) (get_or-set_same qs p o none there)

queue-elsewhere : (qs : Pipes) (p n : ℕ) (o : Option (Pipe (List Slice))) → n ≢ p
    → queue_at (slice_set qs p o) n ≡ queue_at qs n
queue-elsewhere qs p n o differ = let none : Option (Pipe (List Slice)) = None in
    ap (λ (y : Option (Pipe (List Slice))). unwrap_or y closed_pipe) (get_or-set_other qs p n o none differ)

pub not_same : (p n : ℕ) → ◌≡◌ {A = ℕ} (cond (eqb p n) 1 0) 0 → n ≢ p
not_same p n differ e = absurd (omega (arith, differ, same))
  where
    same : ◌≡◌ {A = ℕ} (cond (eqb p n) 1 0) 1
    same = grind (arith, nat_tests, e)

writer_stays : (w : Bool) → w ≡ true
    → (unwrap_or (if false || w then Some (record { queue = []; reading = false; writing = w }) else None)
    closed_pipe).writing ≡ true
writer_stays true e = refl
writer_stays false e = e

reader_stays : (q : List Slice) (r : Bool) → r ≡ true
    → (unwrap_or
    (if r || false then Some (record { queue = if r then q else []; reading = r; writing = false }) else None)
    closed_pipe).reading ≡ true
reader_stays q true e = refl
reader_stays q false e = e

-- a pipe with one closed end stays open for the other, and other pipes are unchanged
stays_open : (is_open : Pipe (List Slice) → Bool) (qs : Pipes) (p n : ℕ) (o : Option (Pipe (List Slice)))
    → p < length qs → (is_open (queue_at qs p) ≡ true → is_open (unwrap_or o closed_pipe) ≡ true)
    → is_open (queue_at qs n) ≡ true → is_open (queue_at (slice_set qs p o) n) ≡ true
stays_open is_open qs p n o there here h = elim (cases_eq n p) [
  | inl k ↦ subst (λ i. is_open (queue_at (slice_set qs p o) i) ≡ true) (sym k) (ap is_open (queue-here qs p o there)
      ∙ here (subst (λ i. is_open (queue_at qs i) ≡ true) k h))
  | inr k ↦ ap is_open (queue-elsewhere qs p n o k) ∙ h
]

pub reader_keeps : (o : Objects (List Slice)) (p : ℕ) → p < length o.pipes
    → KeepsEnds (on.ReadEnd p) o (record o { pipes = with_pipe_in o.pipes p (without_reader (queue_at o.pipes p)) })
reader_keeps o p there = record { each = each }
  where
    each : (e : Descriptor) → same_end (on.ReadEnd p) e ≡ 0 → IsOpenEnd o (Some e)
        → IsOpenEnd (record o { pipes = with_pipe_in o.pipes p (without_reader (queue_at o.pipes p)) }) (Some e)
    each (on.ReadEnd n) differ h =
        ap (λ (y : Pipe (List Slice)). y.reading) (queue-elsewhere o.pipes p n _ (not_same p n differ)) ∙ h
    each (on.WriteEnd n) differ h =
        stays_open (λ y. y.writing) o.pipes p n _ there (writer_stays (queue_at o.pipes p).writing) h
    each (on.File f at mode) differ h = h
    each (on.Connection c) differ h = h

pub writer_keeps : (o : Objects (List Slice)) (p : ℕ) → p < length o.pipes
    → KeepsEnds (on.WriteEnd p) o (record o { pipes = with_pipe_in o.pipes p (without_writer (queue_at o.pipes p)) })
writer_keeps o p there = record { each = each }
  where
    each : (e : Descriptor) → same_end (on.WriteEnd p) e ≡ 0 → IsOpenEnd o (Some e)
        → IsOpenEnd (record o { pipes = with_pipe_in o.pipes p (without_writer (queue_at o.pipes p)) }) (Some e)
    each (on.WriteEnd n) differ h =
        ap (λ (y : Pipe (List Slice)). y.writing) (queue-elsewhere o.pipes p n _ (not_same p n differ)) ∙ h
    each (on.ReadEnd n) differ h =
        stays_open (λ y. y.reading) o.pipes p n _ there
        (reader_stays (queue_at o.pipes p).queue (queue_at o.pipes p).reading) h
    each (on.File f at mode) differ h = h
    each (on.Connection c) differ h = h

-- all ends except the closed one stay open
pub ends_kept : (end : Descriptor) (old new : Objects (List Slice)) → KeepsEnds end old new
    → (fds : List (Option Descriptor)) → AllByRecursion (IsOpenEnd old) fds → ends_on end fds ≡ 0
    → AllByRecursion (IsOpenEnd new) fds
ends_kept end old new keeps [] e none = tt
ends_kept end old new keeps (None ∷ fds) e none = let nothing : Option Descriptor = None in let c =
    sum_by-cons (on_end end) nothing fds in (tt, ends_kept end old new keeps fds e.1 (omega (arith, c, none)))
ends_kept end old new keeps (Some y ∷ fds) e none =
    let c = sum_by-cons (on_end end) (Some y) fds in
    (keeps.each y (omega (arith, c, none)) e.0, ends_kept end old new keeps fds e.1 (omega (arith, c, none)))

pub all_ends_kept : (end : Descriptor) (old new : Objects (List Slice)) → KeepsEnds end old new
    → (ds : List (Domain (List Slice))) → AllByRecursion (λ d. AllByRecursion (IsOpenEnd old) d.fds) ds
    → all_ends_on end ds ≡ 0 → AllByRecursion (λ d. AllByRecursion (IsOpenEnd new) d.fds) ds
all_ends_kept end old new keeps [] e none = tt
all_ends_kept end old new keeps (d ∷ ds) e none =
    let c = sum_by-cons (λ (y : Domain (List Slice)). ends_on end y.fds) d ds in (
      ends_kept end old new keeps d.fds e.0 (omega (arith, c, none)),
      all_ends_kept end old new keeps ds e.1 (omega (arith, c, none)),
    )

-- and all stays sound

if_kept : (P : Option (Pipe (List Slice)) → Type 0) (b : Bool) (x : Pipe (List Slice)) → P None → P (Some x)
    → P (if b then Some x else None)
if_kept P true x none some = some
if_kept P false x none some = none

module _ (h : KernelState) (t : Stored) (qs : Pipes) (p : ℕ) (x : Pipe (List Slice)) (sound : IsSound h)
    (there : p < length h.pipes) (set : qs ≡ with_pipe_in h.pipes p x)
    (releases : Releases h.store t (queue_at h.pipes p).queue x.queue)
    (part : (x.queue ≡ []) ⊎ (x.queue ≡ (queue_at h.pipes p).queue)) (empty : (x.reading || x.writing) ≡ false
    → x.queue ≡ []) where
  abbrev less : Pipes
  less = with_pipe_in h.pipes p x

  less_counted : IsCounted t h.domains (record (objects_of h) { pipes = less })
  less_counted =
      record {
        each =
            λ b. omega (
              arith,
              sound.counted.each b,
              releases.moves.counts.each b,
              uses-with_pipe b h.pipes p x there empty,
            );
      }

  queue_good : AllReadable h.store x.queue
  queue_good = elim part [
    | inl e ↦ subst (AllReadable h.store) (sym e) (readable_none h.store)
    | inr e ↦
        subst (AllReadable h.store) (sym e) (queue_readable h p sound)
  ]

  queue_small : byte_len x.queue ≤ 65536
  queue_small =
      elim part [
        | inl e ↦ (let n = ap byte_len e in omega (arith, n))
        | inr e ↦
            (let n = ap byte_len e in let s = queue_short h p sound in omega (arith, n, s))
      ]

  less_good : AreReadable h.store (record (objects_of h) { pipes = less })
  less_good = record {
    pipes = each-set (IsPipeReadable h.store) h.pipes p (if x.reading || x.writing then Some x else None)
        sound.objects.pipes (if_kept (IsPipeReadable h.store) (x.reading || x.writing) x tt queue_good);
    conns = sound.objects.conns;
    files = sound.objects.files;
  }

  less_limits : IsLimited h.domains (record (objects_of h) { pipes = less })
  less_limits = record {
    aggs = sound.limits.aggs;
    few = sound.limits.few;
    objects =
        with_pipes sound.limits.objects (each-set IsShort h.pipes p (if x.reading || x.writing then Some x else None)
        sound.limits.objects.queues (if_kept IsShort (x.reading || x.writing) x tt queue_small))
        (omega (
          arith,
          sound.limits.objects.few_pipes,
          length-set h.pipes p (if x.reading || x.writing then Some x else None),
        ));
  }

  closed_pipe-read : (f : Reading)
      → read_of f (record h { store = t; pipes = qs }) ≡ machine.with_pipe (read_of f h) p (pipe_view (read f) x)
  unfolding read_of
  closed_pipe-read f =
      ap (λ (ys : Pipes). state_view f h.domains t.pools (record (objects_of h) { pipes = ys })) set
      ∙ pools-view f h.domains h.store.pools t.pools (record (objects_of h) { pipes = less }) releases.lists
      ∙ with_pipe_in-view f h.domains h.store.pools (objects_of h) p x

  qs_good : AreReadable h.store (record (objects_of h) { pipes = qs })
  qs_good = subst (λ (ys : Pipes). AreReadable h.store (record (objects_of h) { pipes = ys })) (sym set) less_good

  closed_pipe-sound : (end : Descriptor) → KeepsEnds end (objects_of h) (record (objects_of h) { pipes = less })
      → all_ends_on end h.domains ≡ 0 → IsSound (record h { store = t; pipes = qs })
  closed_pipe-sound end keeps free = subst (λ (ys : Pipes). IsSound (record h { store = t; pipes = ys })) (sym set)
      (moved-sound h.store (record h { store = t; pipes = less }) releases.moves.stays less_counted
      (releases.moves.tidy sound.tidy) (releases.moves.still sound.still)
      (releases.reclaims (queue_readable h p sound) sound.reclaimed) sound.domains less_good
      (all_ends_kept end (objects_of h) (record (objects_of h) { pipes = less }) keeps h.domains sound.fds free)
      sound.once less_limits (same_pooled h.store t h.conns h.cache.files releases.lists sound.pooled) sound.sums
      sound.filed sound.cached (keeps_pages_frees releases.frees).count)

  -- an end of it is closed
  closed_pipe-closes : (end : Descriptor) → KeepsEnds end (objects_of h) (record (objects_of h) { pipes = less })
      → all_ends_on end h.domains ≡ 0
      → ((f : Reading) → machine.with_pipe (read_of f h) p (pipe_view (read f) x) ≡ fds.closed_on (read_of f h)
      (Some end)) → Closes end h (record h { store = t; pipes = qs })
  closed_pipe-closes end keeps free means = record {
    closed = leaves (λ s. fds.closed_on s (Some end)) h (record h { store = t; pipes = qs }) (λ f. closed_pipe-read f
        ∙ means f) refl refl releases.moves.stays (keeps_pages_frees releases.frees) sound.domains qs_good
        (closed_pipe-sound end keeps free);
    domains = refl;
    others = subst (λ (ys : Pipes). KeepsEnds end (objects_of h) (record (objects_of h) { pipes = ys })) (sym set)
        keeps;
  }

-- a read end

module _ (h : KernelState) (t : Stored) (qs : Pipes) (p : ℕ) (free : IsLetGo h (on.ReadEnd p))
    (closes : ClosesEnd h.store t h.pipes qs p without_reader) where
  reader_there : p < length h.pipes
  reader_there = there_if_open h.pipes p (inl free.opened)

  pub reader_closes : Closes (on.ReadEnd p) h (record h { store = t; pipes = qs })
  reader_closes = closed_pipe-closes h t qs p (without_reader (queue_at h.pipes p)) free.sound reader_there closes.pipes
      closes.releases (inl refl) (λ e. refl) (on.ReadEnd p) (reader_keeps (objects_of h) p reader_there) free.free
      (λ f. reader-read f h p)

-- a write end

part_of : (q : List Slice) (r : Bool) → ((if r then q else []) ≡ []) ⊎ ((if r then q else []) ≡ q)
part_of q true = inr refl
part_of q false = inl refl

none_of : (q : List Slice) (r : Bool) → (r || false) ≡ false → (if r then q else []) ≡ []
none_of q true e = absurd (cc)
none_of q false e = refl

module _ (h : KernelState) (t : Stored) (qs : Pipes) (p : ℕ) (free : IsLetGo h (on.WriteEnd p))
    (closes : ClosesEnd h.store t h.pipes qs p without_writer) where
  writer_there : p < length h.pipes
  writer_there = there_if_open h.pipes p (inr free.opened)

  pub writer_closes : Closes (on.WriteEnd p) h (record h { store = t; pipes = qs })
  writer_closes = closed_pipe-closes h t qs p (without_writer (queue_at h.pipes p)) free.sound writer_there closes.pipes
      closes.releases (part_of (queue_at h.pipes p).queue (queue_at h.pipes p).reading)
      (none_of (queue_at h.pipes p).queue (queue_at h.pipes p).reading) (on.WriteEnd p)
      (writer_keeps (objects_of h) p writer_there) free.free (λ f. writer-read f h p)
