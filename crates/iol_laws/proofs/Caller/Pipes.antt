-- The effect of calls on pipes for their caller.
use Rattle.std.proofs.Common.{◌≡◌, ℕ, List, [], ◌++◌, length, take, drop, ap, ◌∙◌, refl, sym, arith, Option, Some, None}
use Rattle.std.proofs.Common.{true, false, Bool}
use Rattle.iol_core.specs.declared.limits.TheConstants.{MAX_QUEUE_BYTES}
use Rattle.std.specs.Prelude.{◌-◌, not, ◌||◌}
use Rattle.iol_core.specs.Text.{Text}
use Rattle.iol_core.specs.NumberedLists.{in_place, lowest, placed}
use Rattle.iol_core.specs.State.{State, Domain, Pipe, domain, text, descriptor, may_read, pipe_at, new_pipe, is_live}
use Rattle.iol_core.specs.State.{with_domain, with_pipe}
use Rattle.iol_core.specs.Run.{StepsTo}
use Rattle.iol_core.specs.Calls.Aggregates as aggs
use Rattle.iol_core.specs.Calls.Descriptors as fds
use Rattle.iol_core.specs.Calls.Reads as reading
use Rattle.iol_core.specs.declared.descriptors.Descriptor.{Descriptor}
use Rattle.iol_core.specs.declared.descriptors.Descriptor.TheVariants as on
use Rattle.iol_core.specs.declared.events.Call.TheVariants as call
use Rattle.iol_core.specs.declared.events.Event.TheVariants as event
use Rattle.iol_core.specs.declared.events.Reply.{Reply}
use Rattle.iol_core.specs.declared.events.Reply.TheVariants as reply
use Rattle.iol_core.proofs.Lookups.{domain-same}
use Rattle.iol_laws.specs.Order.{IsOrderly}
use Rattle.iol_laws.specs.Caller.{readable_at, PutsInPipe, ReadsPipe, WritesPipe, MakesPipe, ClosesReadEnd}
use Rattle.iol_laws.specs.Caller.{ClosesWriteEnd}
use Rattle.iol_laws.proofs.Caller.Queues.{FitsIn, fits_in, front, read_passes, takes_front, wrote_agg}
use Rattle.iol_laws.proofs.Domains.{domain-with_same, domains-with_pipe, live-first}
use Rattle.iol_laws.proofs.Order.Ends.{pipe-gone, pipe-there, pipe-twice, pipe-with_same}
use Rattle.iol_laws.proofs.Frame.Pipes.{pipes_same}
use Rattle.iol_laws.proofs.Numbers.{got-agg, new-fd, number, text-of}
use Rattle.iol_laws.proofs.Places.{lowest-free, place-placed}
use Rattle.iol_laws.proofs.Tests.{left-true, right-true, not-false}

pipes-with_agg : (s : State) (d : ℕ) (x : Text) (p : ℕ) → pipe_at (aggs.with_agg s d x) p ≡ pipe_at s p
unfolding with_domain
pipes-with_agg s d x p = pipes_same s (aggs.with_agg s d x) (λ k. false) refl p refl

pipes-with_fds : (s : State) (d : ℕ) (xs : List (Option Descriptor)) (p : ℕ)
    → pipe_at (fds.with_fds s d xs) p ≡ pipe_at s p
unfolding with_domain
pipes-with_fds s d xs p = pipes_same s (fds.with_fds s d xs) (λ k. false) refl p refl

pub does_read_pipe : (s t : State) (d fd p n : ℕ) (r : Reply) → IsOrderly s → descriptor s d fd ≡ Some (on.ReadEnd p)
    → StepsTo s (event.Call d (call.IolRead fd n)) r t → ReadsPipe s d p n r t
does_read_pipe s t d fd p n (reply.Agg a) order is step =
    let passes = read_passes s d fd n _ is step.0 in
    let on_yet = left-true (pipe_at s p).reading (pipe_at s p).writing (order.all_stand d fd (on.ReadEnd p) is) in
    let q : Text = (pipe_at s p).queue in
    let taken = takes_front (may_read s d) n q (pipe_at s p).writing passes.0 passes.1 in
    let x : Pipe = record (pipe_at s p) { queue = drop (length (front (may_read s d) n q)) q } in
    let mid : State = with_pipe s p x in
    let same : t ≡ aggs.with_agg mid d (front (may_read s d) n q) =
    step.2
    ∙ ap (λ o. aggs.with_agg (reading.read_on s d fd o (length (reading.read_text s d o n))) d
    (reading.read_text s d o n)) is in
    let got = got-agg s mid t d a (front (may_read s d) n q) (order.aggs d (aggs.next_agg s d) (omega arith))
    (domain-same s mid d (domains-with_pipe s p x)) (live-first s d _ step.0) (ap number step.1) same in
    record {
      text = front (may_read s d) n q;
      rest = x.queue;
      is_readable = got.0;
      new = got.1;
      was = taken.was;
      most = refl;
      pipe = ap (λ u. pipe_at u p) same
          ∙ (pipes-with_agg mid d (front (may_read s d) n q) p ∙ pipe-with_same s p x on_yet on_yet);
      ended = taken.ended;
    }
does_read_pipe s t d fd p n (reply.Refused x) order is step = step.1
does_read_pipe s t d fd p n r order is step = (let e = step.1 in absurd (cc))

-- a text is appended to the queue
pub puts_pipe : (s t : State) (p : ℕ) (bytes : List ℕ) (k : ℕ) (x : Text)
    → FitsIn bytes (MAX_QUEUE_BYTES - length (pipe_at s p).queue) k x → not (pipe_at s p).reading ≡ false
    → t ≡ with_pipe s p (record (pipe_at s p) { queue = (pipe_at s p).queue ++ x }) → PutsInPipe s p bytes k t
puts_pipe s t p bytes k x fits unbroken same =
    let reads : (pipe_at s p).reading ≡ true = not-false (pipe_at s p).reading unbroken in
    let on_yet = left-true (pipe_at s p).reading (pipe_at s p).writing reads in
    record {
      text = x;
      within = fits.within;
      text_is = fits.text_is;
      most = fits.most;
      takes = reads;
      pipe =
          ap (λ u. pipe_at u p) same ∙ pipe-with_same s p (record (pipe_at s p) { queue = (pipe_at s p).queue ++ x })
          on_yet on_yet;
    }

pub does_write_pipe : (s t : State) (d fd p a : ℕ) (bytes : List ℕ) (r : Reply) → IsOrderly s
    → descriptor s d fd ≡ Some (on.WriteEnd p) → readable_at s d a ≡ Some bytes
    → StepsTo s (event.Call d (call.IolWrite fd a)) r t → WritesPipe s p bytes r t
does_write_pipe s t d fd p a bytes (reply.Count k) order is has step =
    let wrote = wrote_agg s t d fd k _ is a step in
    puts_pipe s t p bytes k (take k (text s d a))
    (fits_in (text s d a) bytes (MAX_QUEUE_BYTES - length (pipe_at s p).queue) k (text-of s d a bytes has) wrote.0)
    wrote.2 wrote.1
does_write_pipe s t d fd p a bytes (reply.Refused x) order is has step = step.1
does_write_pipe s t d fd p a bytes r order is has step = (let e = step.1 in absurd (cc))

pub does_close_write_end : (s t : State) (d fd p : ℕ) (r : Reply) → IsOrderly s
    → descriptor s d fd ≡ Some (on.WriteEnd p) → StepsTo s (event.Call d (call.Close fd)) r t → ClosesWriteEnd s p r t
does_close_write_end s t d fd p reply.Done order is step =
    let x : Pipe = record (pipe_at s p) { writing = false } in
    let same : t ≡ fds.with_fds (with_pipe s p x) d (fds.freed s d fd) =
    step.2 ∙ ap (λ o. fds.with_fds (fds.closed_on s o) d (fds.freed s d fd)) is in
    let found : pipe_at t p ≡ pipe_at (with_pipe s p x) p = ap (λ u. pipe_at u p) same
    ∙ pipes-with_fds (with_pipe s p x) d (fds.freed s d fd) p in
    let writes : (pipe_at s p).writing ≡ true = order.all_stand d fd (on.WriteEnd p) is in
    by (pipe_at s p).reading refl found (right-true (pipe_at s p).reading (pipe_at s p).writing writes)
  where
    by : (b : Bool) → (pipe_at s p).reading ≡ b
        → pipe_at t p ≡ pipe_at (with_pipe s p (record (pipe_at s p) { writing = false })) p
        → ((pipe_at s p).reading || (pipe_at s p).writing) ≡ true
        → ((pipe_at t p).writing ≡ false)
        × ((pipe_at s p).reading ≡ true → pipe_at t p ≡ record (pipe_at s p) { writing = false })
    by true reads found was =
        let e =
        found ∙ pipe-with_same s p (record (pipe_at s p) { writing = false }) was
        (left-true (pipe_at s p).reading false reads) in
        (ap (λ (k : Pipe). k.writing) e, λ yet. e)
    by false unread found was =
        let off : ((pipe_at s p).reading || false) ≡ false = ap (λ b. b || false) unread in
        let e = found ∙ pipe-gone s p (record (pipe_at s p) { writing = false }) off in
        (ap (λ (k : Pipe). k.writing) e, λ yet. absurd (cc (unread, yet)))
does_close_write_end s t d fd p (reply.Refused x) order is step = step.1
does_close_write_end s t d fd p r order is step = (let e = step.1 in absurd (cc))

pub does_close_read_end : (s t : State) (d fd p : ℕ) (r : Reply) → IsOrderly s → descriptor s d fd ≡ Some (on.ReadEnd p)
    → StepsTo s (event.Call d (call.Close fd)) r t → ClosesReadEnd s p r t
does_close_read_end s t d fd p reply.Done order is step =
    let x : Pipe = record (pipe_at s p) { queue = []; reading = false } in
    let same : t ≡ fds.with_fds (with_pipe s p x) d (fds.freed s d fd) =
    step.2 ∙ ap (λ o. fds.with_fds (fds.closed_on s o) d (fds.freed s d fd)) is in
    let found : pipe_at t p ≡ pipe_at (with_pipe s p x) p = ap (λ u. pipe_at u p) same
    ∙ pipes-with_fds (with_pipe s p x) d (fds.freed s d fd) p in
    let reads : (pipe_at s p).reading ≡ true = order.all_stand d fd (on.ReadEnd p) is in
    by (pipe_at s p).writing refl found (left-true (pipe_at s p).reading (pipe_at s p).writing reads)
  where
    by : (b : Bool) → (pipe_at s p).writing ≡ b
        → pipe_at t p ≡ pipe_at (with_pipe s p (record (pipe_at s p) { queue = []; reading = false })) p
        → ((pipe_at s p).reading || (pipe_at s p).writing) ≡ true
        → ((pipe_at t p).reading ≡ false) × ((pipe_at t p).queue ≡ []) × ((pipe_at t p).writing ≡ (pipe_at s p).writing)
    by true writes found was =
        let e = found ∙ pipe-with_same s p (record (pipe_at s p) { queue = []; reading = false }) was writes in
        (ap (λ (k : Pipe). k.reading) e, ap (λ (k : Pipe). k.queue) e, ap (λ (k : Pipe). k.writing) e)
    by false unwritten found was =
        let e = found ∙ pipe-gone s p (record (pipe_at s p) { queue = []; reading = false }) unwritten in
        (ap (λ (k : Pipe). k.reading) e, ap (λ (k : Pipe). k.queue) e, ap (λ (k : Pipe). k.writing) e ∙ sym unwritten)
does_close_read_end s t d fd p (reply.Refused x) order is step = step.1
does_close_read_end s t d fd p r order is step = (let e = step.1 in absurd (cc))

-- the two descriptors of a reply
abbrev pub first_fd : Reply → ℕ
first_fd (reply.Fds a b) = a
first_fd r = 0

abbrev pub second_fd : Reply → ℕ
second_fd (reply.Fds a b) = b
second_fd r = 0

still-free : (xs : List (Option Descriptor)) (x : Descriptor) (m : ℕ) → in_place (placed xs (lowest xs) x) m ≡ None
    → in_place xs m ≡ None
still-free xs x m free = by (in_place xs m) refl
  where
    by : (o : Option Descriptor) → in_place xs m ≡ o → o ≡ None
    by None is = refl
    by (Some y) is = absurd (let e = place-placed xs x m y is in cc (e, free))

pub does_make_pipe : (s t : State) (d : ℕ) (r : Reply) → StepsTo s (event.Call d call.Pipe) r t → MakesPipe s d r t
does_make_pipe s t d (reply.Fds a b) step =
    let live = live-first s d _ step.0 in
    let new : ℕ = lowest s.pipes in
    let u : State = record s { pipes = placed s.pipes new new_pipe } in
    let dom_u : domain u d ≡ domain s d = domain-same s u d refl in
    let live_u : is_live u d ≡ true = ap (λ (y : Domain Text). y.live) dom_u ∙ live in
    let v : State = fds.opened u d (on.ReadEnd new) in
    let dom_v : domain v d ≡ record (domain u d) { fds = placed (domain u d).fds (fds.next_fd u d) (on.ReadEnd new) } =
    domain-with_same u d _ live_u in
    let live_v : is_live v d ≡ true = ap (λ (y : Domain Text). y.live) dom_v ∙ live_u in
    let same : t ≡ fds.opened v d (on.WriteEnd new) = step.2 ∙ sym (pipe-twice s d live) in
    let fds_v : (domain v d).fds ≡ fds.with_read_end (domain s d).fds new = ap (λ (y : Domain Text). y.fds) dom_v
    ∙ ap (λ (y : Domain Text). placed y.fds (lowest y.fds) (on.ReadEnd new)) dom_u in
    let a_is : a ≡ fds.next_fd u d = ap first_fd step.1 ∙ sym (ap (λ (y : Domain Text). lowest y.fds) dom_u) in
    let b_is : b ≡ fds.next_fd v d = ap second_fd step.1
    ∙ sym (ap (λ (l : List (Option Descriptor)). lowest l) fds_v) in
    let kept =
    place-placed (domain v d).fds (on.WriteEnd new) (fds.next_fd u d) (on.ReadEnd new)
    (new-fd u d (on.ReadEnd new) live_u) in
    record {
      pipe = new;
      empty = ap (λ w. pipe_at w new) same
          ∙ (pipes-with_fds v d (placed (domain v d).fds (fds.next_fd v d) (on.WriteEnd new)) new
          ∙ (pipes-with_fds u d (placed (domain u d).fds (fds.next_fd u d) (on.ReadEnd new)) new ∙ pipe-there s));
      read_end = ap (λ k. descriptor t d k) a_is
          ∙ (ap (λ w. descriptor w d (fds.next_fd u d)) same
          ∙ (ap (λ (y : Domain Text). in_place y.fds (fds.next_fd u d)) (domain-with_same v d _ live_v) ∙ kept));
      write_end = ap (λ k. descriptor t d k) b_is
          ∙ (ap (λ w. descriptor w d (fds.next_fd v d)) same ∙ new-fd v d (on.WriteEnd new) live_v);
      new_reads = ap (λ k. descriptor s d k) (ap first_fd step.1) ∙ lowest-free (domain s d).fds;
      new_writes = ap (λ k. descriptor s d k) (ap second_fd step.1)
          ∙ still-free (domain s d).fds (on.ReadEnd new) (lowest (fds.with_read_end (domain s d).fds new))
          (lowest-free (fds.with_read_end (domain s d).fds new));
    }
does_make_pipe s t d (reply.Refused x) step = step.1
does_make_pipe s t d r step = (let e = step.1 in absurd (cc))
