-- Pipes stay sound when a queue gets bytes or gives them to a domain.
use Rattle.std.proofs.Common.{◌≡◌, ◌∙◌, ℕ, ◌+◌, ◌-◌, ◌<◌, ◌≤◌, List, [], ◌∷◌, ◌++◌, length, take, drop, ap, refl, sym}
use Rattle.std.proofs.Common.{subst, arith, Option, Some, None, true, false, inl, inr, length-set}
use Rattle.std.specs.Prelude.{slice_set, unwrap_or, min}
use Rattle.std.specs.List.{prefix_len, take_while, AllByRecursion}
use Rattle.std.proofs.lemmas.List.{length-take, length-drop}
use Rattle.iol_core.specs.NumberedLists.{in_place}
use Rattle.iol_core.specs.Calls.Aggregates as aggs
use Rattle.iol_core.specs.Calls.Reads as reading
use Rattle.iol_core.specs.Calls.Writes as writing
use Rattle.iol_core.specs.declared.descriptors.Descriptor.{Descriptor}
use Rattle.iol_core.specs.State as machine
use Rattle.iol_core.specs.State.{State, Domain}
use Rattle.iol_core.specs.declared.descriptors.Descriptor.TheVariants as on
use Rattle.iol_hold.specs.StoreState.{Stored}
use Rattle.iol_arena.specs.State.{page_count}
use Rattle.iol_hold.specs.Moves.{Covers, Shares}
use Rattle.iol_hold.specs.Places.{places, byte_len}
use Rattle.iol_hold.specs.Texts.{bufs_of, AllReadable}
use Rattle.iol_hold.specs.declared.slices.Slice.{Slice}
use Rattle.iol_hold.proofs.Counts.{tally-append}
use Rattle.iol_hold.proofs.EmptyPools.{all_reclaimed_same}
use Rattle.iol_hold.proofs.Moves.{shares_move}
use Rattle.iol_hold.proofs.ReadSlices.{readable_none, readable_rest}
use Rattle.iol_pipe.specs.Queue.{may_see}
use Rattle.iol_pipe.proofs.Texts.{readable_pushed, readable_given}
use Rattle.iol_desc.specs.Tables.{agg_in, domain_in, with_agg_in, live_aggs_in}
use Rattle.iol_kernel.specs.Views.{Pipe}
use Rattle.iol_kernel.specs.HoldCounts.{IsCounted}
use Rattle.iol_kernel.specs.KernelState.{KernelState, objects_of, IsOpenEnd, IsPipeReadable, AreReadable}
use Rattle.iol_kernel.specs.KernelState.{IsDomainReadable, IsShort, IsLimited, IsSound, queue_at, read_of}
use Rattle.iol_kernel.specs.OpenDescriptors.{IsOpenOn}
use Rattle.iol_kernel.specs.Readings.{Reading, bytes_over}
use Rattle.iol_kernel.proofs.State.TableCalls.{answers_shared}
use Rattle.iol_kernel.proofs.State.Uses.{queue_covered, uses-set_pipe, uses-with_agg}
use Rattle.iol_kernel.proofs.State.Once.{once_same}
use Rattle.iol_kernel.proofs.State.Sound.{with_pipes, each-get, each-set, each-weaker, agg_readable, add_readable}
use Rattle.iol_kernel.proofs.State.Sound.{fds_stay, limits_agg}
use Rattle.iol_kernel.proofs.Queues.EndCounts.{ends_queued, there_if_open}
use Rattle.iol_kernel.proofs.State.Pools.{pools_pooled}
use Rattle.iol_kernel.proofs.State.Effects.{moved-sound}
use Rattle.iol_kernel.proofs.Queues.PipeEnds.{end_held}
use Rattle.iol_core.specs.declared.limits.TheConstants.{MAX_AGGREGATES, MAX_QUEUE_BYTES}
use Rattle.iol_kernel.specs.NewAggregates.{TakesFront}
use Rattle.iol_kernel.specs.QueueEnds.{GivesFront}
use Rattle.iol_kernel.specs.QueueSlices.{DividesFront}
use Rattle.iol_kernel.proofs.Queues.ReadsAndWrites.{fits, pushed-read, taken-read}
use Rattle.iol_kernel.proofs.State.ReadOf.{next_agg-read_of, open_row}
use Rattle.iol_kernel.specs.Calls.{Answers}
use Rattle.iol_kernel.specs.Queues.{with_queue_of}

pub queue_readable : (h : KernelState) (p : ℕ) → IsSound h → AllReadable h.store (queue_at h.pipes p).queue
queue_readable h p sound =
    pick (in_place h.pipes p) (each-get (IsPipeReadable h.store) h.pipes p None sound.objects.pipes tt)
  where
    pick : (o : Option (Pipe (List Slice))) → IsPipeReadable h.store o
        → AllReadable h.store (unwrap_or o (record { queue = []; reading = false; writing = false })).queue
    pick None r = readable_none h.store
    pick (Some x) r = r

-- within the limits
pub queue_limits : (h : KernelState) (p : ℕ) (q : List Slice) → IsSound h → byte_len q ≤ 65536
    → IsLimited h.domains
    (record (objects_of h) { pipes = slice_set h.pipes p (Some (record (queue_at h.pipes p) { queue = q })) })
queue_limits h p q sound short =
    let limits = sound.limits.objects in
    record {
      aggs = sound.limits.aggs;
      few = sound.limits.few;
      objects =
          with_pipes limits (each-set IsShort h.pipes p (Some (record (queue_at h.pipes p) { queue = q })) limits.queues
          short)
          (omega (arith, limits.few_pipes, length-set h.pipes p (Some (record (queue_at h.pipes p) { queue = q }))));
    }

pub queue_short : (h : KernelState) (p : ℕ) → IsSound h → byte_len (queue_at h.pipes p).queue ≤ 65536
queue_short h p sound = pick (in_place h.pipes p) (each-get IsShort h.pipes p None sound.limits.objects.queues tt)
  where
    pick : (o : Option (Pipe (List Slice))) → IsShort o
        → byte_len (unwrap_or o (record { queue = []; reading = false; writing = false })).queue ≤ 65536
    pick None r = omega arith
    pick (Some x) r = r

-- and the store counts the shared slices
module _ (h : KernelState) (t : Stored) (qs : List (Option (Pipe (List Slice)))) (p n d a : ℕ) (from : List Slice)
    (sound : IsSound h) (writing : (queue_at h.pipes p).writing ≡ true) (found : Some from ≡ agg_in h.domains d a)
    (short : byte_len (queue_at qs p).queue ≤ 65536)
    (places' : places (queue_at qs p).queue ≡ places (queue_at h.pipes p).queue ++ take n (places from))
    (pipes' : qs ≡ slice_set h.pipes p (Some (record (queue_at h.pipes p) { queue = (queue_at qs p).queue })))
    (shares : Shares h.store t (bufs_of (queue_at h.pipes p).queue) (bufs_of (queue_at qs p).queue)) where
  abbrev more : List (Option (Pipe (List Slice)))
  more = slice_set h.pipes p (Some (record (queue_at h.pipes p) { queue = (queue_at qs p).queue }))

  there : p < length h.pipes
  there = there_if_open h.pipes p (inr writing)

  more_counted : IsCounted t h.domains (record (objects_of h) { pipes = more })
  more_counted =
      record {
        each =
            λ b. omega (
              arith,
              sound.counted.each b,
              shares.counts.each b,
              uses-set_pipe b h.pipes p (record (queue_at h.pipes p) { queue = (queue_at qs p).queue }) there,
            );
      }

  queue_good : AllReadable h.store (queue_at qs p).queue
  queue_good =
      readable_pushed (queue_at qs p).queue (queue_at h.pipes p).queue from n places' (queue_readable h p sound)
      (agg_readable h d a from sound found)

  more_good : AreReadable h.store (record (objects_of h) { pipes = more })
  more_good =
      record {
        pipes =
            each-set (IsPipeReadable h.store) h.pipes p
            (Some (record (queue_at h.pipes p) { queue = (queue_at qs p).queue }))
            sound.objects.pipes queue_good;
        conns = sound.objects.conns;
        files = sound.objects.files;
      }

  pub pushed-sound : IsSound (record h { store = t; pipes = qs })
  pushed-sound = subst (λ (ys : List (Option (Pipe (List Slice)))). IsSound (record h { store = t; pipes = ys }))
      (sym pipes')
      (moved-sound h.store (record h { store = t; pipes = more }) (shares_move shares).stays more_counted
      (shares.tidy sound.tidy) ((shares_move shares).still sound.still)
      (all_reclaimed_same h.store t shares.arena shares.pools sound.reclaimed) sound.domains more_good
      (each-weaker (λ (x : Domain (List Slice)). AllByRecursion (IsOpenEnd (objects_of h)) x.fds)
      (λ (x : Domain (List Slice)). AllByRecursion (IsOpenEnd (record (objects_of h) { pipes = more })) x.fds) h.domains
      (λ x e. ends_queued (objects_of h) p (queue_at qs p).queue there x.fds e) sound.fds) sound.once
      (queue_limits h p (queue_at qs p).queue sound short)
      (pools_pooled h.store t h.conns h.cache.files shares.pools sound.pooled) sound.sums sound.filed sound.cached
      (ap page_count shares.arena))

pub writing_held : (f : Reading) (h : KernelState) (d fd p : ℕ) → IsSound h
    → machine.descriptor (read_of f h) d fd ≡ Some (on.WriteEnd p) → (queue_at h.pipes p).writing ≡ true
writing_held f h d fd p sound is = end_held f h d fd (on.WriteEnd p) sound is

pub reading_held : {h : KernelState} {d fd p : ℕ} → IsOpenOn h d fd (on.ReadEnd p) → (queue_at h.pipes p).reading ≡ true
reading_held {h} {d} {fd} {p} held =
    end_held (bytes_over [] h.store) h d fd (on.ReadEnd p) held.sound (held.from (bytes_over [] h.store))

-- its buffers are counted
pub reading_covered : (h : KernelState) (p : ℕ) → IsSound h → (queue_at h.pipes p).reading ≡ true
    → Covers h.store (bufs_of (queue_at h.pipes p).queue)
reading_covered h p sound reading' =
    queue_covered h.store h.domains (objects_of h) p sound.counted (there_if_open h.pipes p (inl reading'))

-- Reading: a domain gets the front.

module _ (h : KernelState) (t : Stored) (ds : List (Domain (List Slice))) (qs : List (Option (Pipe (List Slice))))
    (p d n : ℕ) (sound : IsSound h) (reading' : (queue_at h.pipes p).reading ≡ true)
    (takes : TakesFront h.store t (queue_at h.pipes p).queue (queue_at qs p).queue h.domains ds d n)
    (pipes' : qs ≡ slice_set h.pipes p (Some (record (queue_at h.pipes p) { queue = (queue_at qs p).queue }))) where
  abbrev less : List (Option (Pipe (List Slice)))
  less = slice_set h.pipes p (Some (record (queue_at h.pipes p) { queue = (queue_at qs p).queue }))

  abbrev given : List (Domain (List Slice))
  given = with_agg_in h.domains d takes.slices

  there' : p < length h.pipes
  there' = there_if_open h.pipes p (inl reading')

  slices_good : AllReadable h.store takes.slices
  slices_good =
      readable_given takes.slices (queue_at h.pipes p).queue h.store.pools d n takes.given (queue_readable h p sound)

  less_good : AreReadable h.store (record (objects_of h) { pipes = less })
  less_good = record {
    pipes =
        each-set (IsPipeReadable h.store) h.pipes p
        (Some (record (queue_at h.pipes p) { queue = (queue_at qs p).queue })) sound.objects.pipes
        (readable_rest (queue_at qs p).queue (queue_at h.pipes p).queue (byte_len takes.slices) takes.left
        (queue_readable h p sound));
    conns = sound.objects.conns;
    files = sound.objects.files;
  }

  given_good : AllByRecursion (IsDomainReadable h.store) given
  given_good = add_readable h.store h.domains d takes.slices sound.domains slices_good

  module _ (live : (domain_in h.domains d).live ≡ true) (few : live_aggs_in h.domains < MAX_AGGREGATES) where
    pub taken_counted : IsCounted t given (record (objects_of h) { pipes = less })
    taken_counted = record {
      each = λ b. omega (
        arith,
        sound.counted.each b,
        takes.shares.counts.each b,
        uses-with_agg b h.domains d takes.slices live,
        uses-set_pipe b h.pipes p (record (queue_at h.pipes p) { queue = (queue_at qs p).queue }) there',
        tally-append b (bufs_of takes.slices) (bufs_of (queue_at qs p).queue),
      );
    }

    parts_short : (byte_len takes.slices ≤ 65536) × (byte_len (queue_at qs p).queue ≤ 65536)
    parts_short =
        let short = queue_short h p sound in
        let q = places (queue_at h.pipes p).queue in
        let l = length-drop (byte_len takes.slices) q in (
          omega (
            arith,
            short,
            ap length takes.given,
            length-take (prefix_len (may_see h.store.pools d) (take n q))
                (take n q),
            length-take n q,
          ),
          omega (arith, short, ap length takes.left, l),
        )

    pub taken-sound : IsSound (record h { store = t; domains = ds; pipes = qs })
    taken-sound =
        let x : Domain (List Slice) = domain_in h.domains d in
        subst (λ (ys : List (Option (Pipe (List Slice)))). IsSound (record h { store = t; domains = ds; pipes = ys }))
        (sym pipes')
        (subst (λ (ys : List (Domain (List Slice))). IsSound (record h { store = t; domains = ys; pipes = less }))
        (sym takes.added)
        (moved-sound h.store (record h { store = t; domains = given; pipes = less }) (shares_move takes.shares).stays
        taken_counted (takes.shares.tidy sound.tidy) ((shares_move takes.shares).still sound.still)
        (all_reclaimed_same h.store t takes.shares.arena takes.shares.pools sound.reclaimed) given_good less_good
        (fds_stay (record (objects_of h) { pipes = less }) h.domains d
        (record x { aggs = x.aggs ++ (x.next_agg, takes.slices) ∷ []; next_agg = x.next_agg + 1 })
        (each-weaker (λ (x : Domain (List Slice)). AllByRecursion (IsOpenEnd (objects_of h)) x.fds)
        (λ (x : Domain (List Slice)). AllByRecursion (IsOpenEnd (record (objects_of h) { pipes = less })) x.fds)
        h.domains
        (λ x e. ends_queued (objects_of h) p (queue_at qs p).queue there' x.fds e) sound.fds) refl)
        (once_same h.domains d (record x {
          aggs = x.aggs ++ (x.next_agg, takes.slices) ∷ [];
          next_agg =
              x.next_agg + 1;
        }) live refl sound.once)
        (limits_agg h.domains (record (objects_of h) { pipes = less }) d takes.slices
        (queue_limits h p (queue_at qs p).queue sound parts_short.1) live (omega (arith, parts_short.0)) few)
        (pools_pooled h.store t h.conns h.cache.files takes.shares.pools sound.pooled) sound.sums sound.filed
        sound.cached (ap page_count takes.shares.arena)))

-- The answers of the calls.

pub taken_answers : (h : KernelState) (t : Stored) (ds : List (Domain (List Slice)))
    (qs : List (Option (Pipe (List Slice)))) (fd p d n a : ℕ) → IsOpenOn h d fd (on.ReadEnd p)
    → TakesFront h.store t (queue_at h.pipes p).queue (queue_at qs p).queue h.domains ds d n
    → qs ≡ with_queue_of h.pipes p qs → live_aggs_in h.domains < MAX_AGGREGATES
    → a ≡ (domain_in h.domains d).next_agg
    → Answers (λ s. reading.iol_read s d fd n) h a (record h { store = t; domains = ds; pipes = qs })
taken_answers h t ds qs fd p d n a held takes pipes' few number =
    let reading' = reading_held held in
    answers_shared (λ s. reading.iol_read s d fd n) h (record h { store = t; domains = ds; pipes = qs }) a
    (taken-sound h t ds qs p d n held.sound reading' takes pipes' (open_row held) few) refl refl (λ f. number
    ∙ sym (next_agg-read_of f h d)) takes.shares
    (λ f keeps. taken-read h t ds qs p d n reading' takes pipes' f keeps
    ∙ ap
    (λ (o : Option Descriptor).
    aggs.with_agg (reading.read_on (read_of f h) d fd o (length (reading.read_text (read_of f h) d o n))) d
    (reading.read_text (read_of f h) d o n)) (sym (held.from f)))

pub pushed_answers : (h : KernelState) (t : Stored) (qs : List (Option (Pipe (List Slice)))) (fd p n d a : ℕ)
    (from : List Slice) → IsSound h → ((f : Reading) → machine.descriptor (read_of f h) d fd ≡ Some (on.WriteEnd p))
    → Some from ≡ agg_in h.domains d a → byte_len (queue_at qs p).queue ≤ MAX_QUEUE_BYTES
    → n ≡ min (byte_len from) (MAX_QUEUE_BYTES - byte_len (queue_at h.pipes p).queue)
    → places (queue_at qs p).queue ≡ places (queue_at h.pipes p).queue ++ take n (places from)
    → qs ≡ with_queue_of h.pipes p qs
    → Shares h.store t (bufs_of (queue_at h.pipes p).queue) (bufs_of (queue_at qs p).queue)
    → Answers (λ s. writing.iol_write s d fd a) h n (record h { store = t; pipes = qs })
pushed_answers h t qs fd p n d a from sound to found short is places' pipes' shares =
    let writing' = writing_held (bytes_over [] h.store) h d fd p sound (to (bytes_over [] h.store)) in
    answers_shared (λ s. writing.iol_write s d fd a) h (record h { store = t; pipes = qs }) n
    (pushed-sound h t qs p n d a from sound writing' found short places' pipes' shares) refl refl
    (λ f. fits f h p d a from n found is
    ∙ ap (λ (o : Option Descriptor). writing.fitting (read_of f h) o (length (machine.text (read_of f h) d a)))
    (sym (to f))) shares
    (λ f keeps. pushed-read h t qs p n d a from writing' found places' pipes' shares f
    ∙ ap
    (λ k. machine.with_pipe (read_of f h) p
    (record (machine.pipe_at (read_of f h) p) {
      queue =
          (machine.pipe_at (read_of f h) p).queue ++ take k (machine.text (read_of f h) d a);
    }))
    (fits f h p d a from n found is)
    ∙ ap
    (λ (o : Option Descriptor). writing.written (read_of f h) d fd o
    (take (writing.fitting (read_of f h) o (length (machine.text (read_of f h) d a)))
    (machine.text (read_of f h) d a))) (sym (to f)))

-- A front that was taken off, to be given to a domain.
pub pipe_front : (h : KernelState) (t : Stored) (qs : List (Option (Pipe (List Slice)))) (p d n : ℕ)
    (slices : List Slice)
    → places slices ≡ take_while (may_see h.store.pools d) (take n (places (queue_at h.pipes p).queue))
    → places (queue_at qs p).queue ≡ drop (byte_len slices) (places (queue_at h.pipes p).queue)
    → qs ≡ with_queue_of h.pipes p qs
    → Shares h.store t (bufs_of (queue_at h.pipes p).queue) (bufs_of slices ++ bufs_of (queue_at qs p).queue)
    → DividesFront slices (queue_at h.pipes p).queue (queue_at qs p).queue
    → GivesFront (on.ReadEnd p) d n h (record h { store = t; pipes = qs }) slices
pipe_front h t qs p d n slices given' left pipes' shares divides = record {
  answers =
      λ fd held few. taken_answers h t (with_agg_in h.domains d slices) qs fd p d n (domain_in h.domains d).next_agg
      held (record { slices = slices; given = given'; left = left; shares = shares; added = refl }) pipes' few refl;
  divides = divides;
}

-- It is given to the domain.
pub front_added : (h old k : KernelState) (x : Descriptor) (d fd n a : ℕ) (slices : List Slice)
    (ds : List (Domain (List Slice))) → old ≡ h → k.domains ≡ h.domains → GivesFront x d n old k slices
    → IsOpenOn h d fd x → live_aggs_in h.domains < MAX_AGGREGATES → a ≡ (domain_in k.domains d).next_agg
    → ds ≡ with_agg_in k.domains d slices
    → Answers (λ s. reading.iol_read s d fd n) h a (record k { domains = ds })
front_added h old k x d fd n a slices ds is kept gives held few number added =
    let g : GivesFront x d n h k slices = subst (λ (w : KernelState). GivesFront x d n w k slices) is gives in
    let same : with_agg_in h.domains d slices ≡ ds =
    sym (added ∙ ap (λ (es : List (Domain (List Slice))). with_agg_in es d slices) kept) in
    subst (λ (b : ℕ). Answers (λ s. reading.iol_read s d fd n) h b (record k { domains = ds }))
    (sym (number ∙ ap (λ (es : List (Domain (List Slice))). (domain_in es d).next_agg) kept))
    (subst (λ (es : List (Domain (List Slice))). Answers (λ s. reading.iol_read s d fd n) h
    (domain_in h.domains d).next_agg (record k { domains = es })) same (g.answers fd held few))
