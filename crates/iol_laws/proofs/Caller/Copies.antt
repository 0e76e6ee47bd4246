-- The effect of the copying calls for their caller.
use Rattle.std.proofs.Common.{◌≡◌, ℕ, ◌+◌, ◌≤◌, List, [], ◌∷◌, ◌++◌, length, take, drop, ap, ◌∙◌, refl, subst, arith}
use Rattle.std.proofs.Common.{Option, Some, None, true, false, Bool}
use Rattle.std.specs.Prelude.{option_map, slice_set, not, is_none, min, nat_lt, ◌&&◌, ◌==◌, MatchOption}
use Rattle.std.proofs.lemmas.Bool.Decides.{nat_tests}
use Rattle.std.proofs.lemmas.List.{take_all}
use Rattle.iol_core.specs.Text.{Text, bytes_of, labelled}
use Rattle.iol_core.specs.NumberedLists.{lookup}
use Rattle.iol_core.specs.State.{State, Domain, Pipe, Connection, domain, pool, descriptor, content, file, may_read}
use Rattle.iol_core.specs.State.{conn_at, pipe_at, is_live, with_conn, with_content, with_pipe}
use Rattle.iol_core.specs.Positions.{ArePlaced}
use Rattle.iol_core.specs.Meaning.{first, ◌when◌, WantOfRoom}
use Rattle.iol_core.specs.Run.{StepsTo}
use Rattle.iol_core.specs.Calls.Aggregates.{default_pool}
use Rattle.iol_core.specs.Calls.Descriptors as fds
use Rattle.iol_core.specs.Calls.Reads as reading
use Rattle.iol_core.specs.Calls.Writes as writing
use Rattle.iol_core.specs.declared.limits.TheConstants.{MAX_FILE_BYTES}
use Rattle.iol_core.specs.declared.refusals.Refusal.TheVariants as refuse
use Rattle.iol_core.specs.declared.descriptors.Mode.{Mode}
use Rattle.iol_core.specs.declared.descriptors.Descriptor.{Descriptor}
use Rattle.iol_core.specs.declared.descriptors.Descriptor.TheVariants as on
use Rattle.iol_core.specs.declared.events.Call.TheVariants as call
use Rattle.iol_core.specs.declared.events.Event.TheVariants as event
use Rattle.iol_core.specs.declared.events.Reply.{Reply}
use Rattle.iol_core.specs.declared.events.Reply.TheVariants as reply
use Rattle.iol_core.proofs.Lookups.{domain-same}
use Rattle.iol_laws.specs.Order.{IsOrderly}
use Rattle.iol_laws.specs.Caller.{WritesConn, WritesPipe}
use Rattle.iol_laws.specs.CallerCopies.{SameReadable, CopiesFile, CopiesConn, CopiesPipe}
use Rattle.iol_laws.specs.CallerFiles.{WritesFile, laid_over}
use Rattle.iol_laws.proofs.Caller.Descriptors.{puts_conn}
use Rattle.iol_laws.proofs.Caller.FileBytes.{file-left, refused-write, resource_failure-late, wrote, write-left}
use Rattle.iol_laws.proofs.Caller.Files.{moved-fd}
use Rattle.iol_laws.proofs.Caller.Pipes.{puts_pipe}
use Rattle.iol_laws.proofs.Caller.Queues.{copy_passes, front, takes_front, wrote_bytes}
use Rattle.iol_laws.proofs.Connections.{conn-with_same, not-over}
use Rattle.iol_laws.proofs.Domains.{domain-with_same, domains-with_conn, domains-with_pipe}
use Rattle.iol_laws.proofs.Order.Ends.{pipe-with_same}
use Rattle.iol_laws.proofs.Numbers.{number}
use Rattle.iol_laws.proofs.Refusals.Rest.{past-live}
use Rattle.iol_laws.proofs.Tests.{left-true}
use Rattle.iol_laws.proofs.Texts.{bytes-labelled, length-labelled}
use Rattle.iol_laws.proofs.Streams.WaitingConn.{opened-conn}

-- the bytes of a reply
abbrev reported : Reply → List ℕ
reported (reply.Bytes bytes) = bytes
reported r = []

-- Writing.

within : (k n room : ℕ) → k ≡ min n room → k ≤ n
within k n room is = grind (arith, nat_tests, is)

pub does_copy_to_conn : (s t : State) (d fd c : ℕ) (bytes : List ℕ) (r : Reply) → IsOrderly s
    → descriptor s d fd ≡ Some (on.Connection c) → StepsTo s (event.Call d (call.Write fd bytes)) r t
    → WritesConn s c bytes r t
does_copy_to_conn s t d fd c bytes (reply.Count k) order is step =
    let wrote = wrote_bytes s t d fd k _ is bytes step in
    let p : ℕ = default_pool s d in
    puts_conn s t d fd c bytes k (labelled p (take k bytes)) order is
    (record {
      within = within k (length bytes) _ wrote.0;
      most = wrote.0;
      text_is =
          bytes-labelled p (take k bytes);
    }) wrote.2 wrote.1
does_copy_to_conn s t d fd c bytes (reply.Refused x) order is step = step.1
does_copy_to_conn s t d fd c bytes r order is step = (let e = step.1 in absurd (cc))

pub does_copy_to_pipe : (s t : State) (d fd p : ℕ) (bytes : List ℕ) (r : Reply) → IsOrderly s
    → descriptor s d fd ≡ Some (on.WriteEnd p) → StepsTo s (event.Call d (call.Write fd bytes)) r t
    → WritesPipe s p bytes r t
does_copy_to_pipe s t d fd q bytes (reply.Count k) order is step =
    let wrote = wrote_bytes s t d fd k _ is bytes step in
    let p : ℕ = default_pool s d in
    puts_pipe s t q bytes k (labelled p (take k bytes)) (record {
      within = within k (length bytes) _ wrote.0;
      most =
          wrote.0;
      text_is = bytes-labelled p (take k bytes);
    }) wrote.2 wrote.1
does_copy_to_pipe s t d fd q bytes (reply.Refused x) order is step = step.1
does_copy_to_pipe s t d fd q bytes r order is step = (let e = step.1 in absurd (cc))

pub does_copy_to_file : (s t : State) (d fd f at : ℕ) (mode : Mode) (bytes : List ℕ) (r : Reply) → ArePlaced s
    → is_live s d ≡ true → writing.writes mode ≡ true → descriptor s d fd ≡ Some (on.File f at mode)
    → StepsTo s (event.Call d (call.Write fd bytes)) r t → WritesFile s d fd f at mode bytes r t
does_copy_to_file s t d fd f at mode bytes (reply.Count k) placed live writes is step =
    let o : Option Descriptor = Some (on.File f at mode) in
    let p : ℕ = (file s f).pool in
    let taken : take (length bytes) bytes ≡ bytes = take_all (length bytes) bytes (omega arith) in
    let to : t ≡ writing.written s d fd o (labelled p bytes) =
    step.2
    ∙ (ap
    (λ o. writing.written s d fd o
    (labelled (writing.pool_for s d o) (take (writing.fitting s o (length bytes)) bytes))) is
    ∙ ap (λ l. writing.written s d fd o (labelled p l)) taken) in
    let same : t ≡ fds.with_descriptor (with_content s f (laid_over (content s f) at bytes)) d fd
    (Some (on.File f (at + length bytes) mode)) = to ∙ as_bytes p in
    let after = wrote s d fd f at mode bytes placed live is in
    record {
      all = ap number step.1 ∙ ap (λ o. writing.fitting s o (length bytes)) is;
      bytes_are = ap (λ u. content u f) same ∙ after.0;
      now_at = ap (λ u. descriptor u d fd) same ∙ after.1;
    }
  where
    as_bytes : (p : ℕ) → writing.written s d fd (Some (on.File f at mode)) (labelled p bytes)
        ≡ fds.with_descriptor (with_content s f (laid_over (content s f) at bytes)) d fd
        (Some (on.File f (at + length bytes) mode))
    as_bytes p =
        ap
        (λ (l : List ℕ). fds.with_descriptor
        (with_content s f (take at (content s f) ++ l ++ drop (at + length (labelled p bytes)) (content s f))) d fd
        (Some (on.File f (at + length (labelled p bytes)) mode))) (bytes-labelled p bytes)
        ∙ ap
        (λ n. fds.with_descriptor (with_content s f (take at (content s f) ++ bytes ++ drop (at + n) (content s f)))
        d fd (Some (on.File f (at + n) mode))) (length-labelled p bytes)
does_copy_to_file s t d fd f at mode bytes (reply.Refused x) placed live writes is step =
    refused-write s t d fd f at (file s f).pool mode bytes x step.1
    (subst (λ o. MatchOption o (WantOfRoom (file s f).pool x) (λ y. x ≡ y)) left
    (subst (λ o. MatchOption (first (writing.write s d fd bytes).refusals) (WantOfRoom (writing.pool_for s d o) x)
    (λ y. x ≡ y)) is step.0))
  where
    left : first (writing.write s d fd bytes).refusals
        ≡ first ((refuse.TooLong when nat_lt MAX_FILE_BYTES (at + length bytes)) ∷ [])
    left = past-live s d _ live
        ∙ (ap
        (λ o.
        first ((refuse.BadFd when is_none o)
        ∷ (refuse.NoPool when (not (writing.is_file o) && is_none (domain s d).default))
        ∷ (refuse.WrongMode when not (writing.can_write o))
        ∷ (refuse.TooLong when writing.is_too_long o (length bytes))
        ∷ (refuse.PoolClosed (default_pool s d) when
        (not (writing.is_file o) && (pool s (default_pool s d)).closed))
        ∷ (refuse.BrokenPipe when writing.is_broken s o)
        ∷ (refuse.WouldBlock when writing.takes_none s o (length bytes)) ∷ [])) is
        ∙ (unpooled (not (writing.writes mode)) (nat_lt MAX_FILE_BYTES (at + length bytes))
        ∙ write-left s f at (length bytes) mode writes))
      where
        unpooled : (wrong long : Bool)
            → first ((refuse.WrongMode when wrong) ∷ (refuse.TooLong when long) ∷ None ∷ None
            ∷ (refuse.WouldBlock when (nat_lt 0 (length bytes) && (length bytes == 0))) ∷ [])
            ≡ first ((refuse.WrongMode when wrong) ∷ (refuse.TooLong when long) ∷ None
            ∷ (refuse.WouldBlock when (nat_lt 0 (length bytes) && (length bytes == 0))) ∷ [])
        unpooled true long = refl
        unpooled false true = refl
        unpooled false false = refl
does_copy_to_file s t d fd f at mode bytes r placed live writes is step = (let e = step.1 in absurd (cc))

-- Reading.

same_readable : (s t : State) (d : ℕ) → (domain t d).aggs ≡ (domain s d).aggs → SameReadable s d t
same_readable s t d same a = ap (λ (l : List (ℕ × Text)). option_map bytes_of (lookup l a)) same

pub does_copy_from_file : (s t : State) (d fd f at n : ℕ) (mode : Mode) (r : Reply) → is_live s d ≡ true
    → may_read s d (file s f).pool ≡ true → reading.reads mode ≡ true → descriptor s d fd ≡ Some (on.File f at mode)
    → StepsTo s (event.Call d (call.Read fd n)) r t → CopiesFile s d fd f at mode (take n (drop at (content s f))) r t
does_copy_from_file s t d fd f at n mode (reply.Bytes found) live may reads is step =
    let p : ℕ = (file s f).pool in
    let bytes : List ℕ = take n (drop at (content s f)) in
    let y : Descriptor = on.File f (at + length (labelled p bytes)) mode in
    let same : t ≡ fds.with_descriptor s d fd (Some y) =
    step.2 ∙ ap (λ o. reading.read_on s d fd o (length (reading.read_text s d o n))) is in
    let dom : domain t d ≡ record (domain s d) { fds = slice_set (domain s d).fds fd (Some y) } =
    ap (λ u. domain u d) same
    ∙ domain-with_same s d (record (domain s d) { fds = slice_set (domain s d).fds fd (Some y) }) live in
    record {
      found_is = ap reported step.1 ∙ (ap (λ o. bytes_of (reading.read_text s d o n)) is ∙ bytes-labelled p bytes);
      proceeds = ap (λ u. descriptor u d fd) same
          ∙ (moved-fd s d fd (on.File f at mode) y live is
          ∙ ap (λ k. Some (on.File f (at + k) mode)) (length-labelled p bytes));
      readable = same_readable s t d (ap (λ (z : Domain Text). z.aggs) dom);
    }
does_copy_from_file s t d fd f at n mode (reply.Refused x) live may reads is step = (
  resource_failure-late s f at mode x
      (subst (λ o. MatchOption o (reading.read_late s (Some (on.File f at mode)) x) (λ y. x ≡ y)) left
      (subst (λ o. MatchOption (first (reading.read s d fd n).refusals) (reading.read_late s o x) (λ y. x ≡ y)) is
      step.0)),
  step.1,
)
  where
    left : first (reading.read s d fd n).refusals ≡ None
    left = past-live s d _ live
        ∙ (ap
        (λ o. first ((refuse.BadFd when is_none o) ∷ (refuse.WrongMode when not (reading.can_read o))
        ∷ reading.read_denied s d o n ∷ (refuse.WouldBlock when reading.must_wait s o n) ∷ [])) is
        ∙ file-left s d f at n mode may reads)
does_copy_from_file s t d fd f at n mode r live may reads is step = (let e = step.1 in absurd (cc))

pub does_copy_from_conn : (s t : State) (d fd c n : ℕ) (r : Reply) → IsOrderly s
    → descriptor s d fd ≡ Some (on.Connection c) → StepsTo s (event.Call d (call.Read fd n)) r t
    → CopiesConn s d c n r t
does_copy_from_conn s t d fd c n (reply.Bytes found) order is step =
    let passes = copy_passes s d fd n _ is step.0 in
    let both = opened-conn s d fd c order is in
    let inc : Text = (conn_at s c).incoming in
    let taken = takes_front (may_read s d) n inc (is_none (conn_at s c).peer) passes.0 passes.1 in
    let x : Connection = record (conn_at s c) { incoming = drop (length (front (may_read s d) n inc)) inc } in
    let same : t ≡ with_conn s c x =
    step.2 ∙ ap (λ o. reading.read_on s d fd o (length (reading.read_text s d o n))) is in
    record {
      text = front (may_read s d) n inc;
      incoming = x.incoming;
      found_is = ap reported step.1 ∙ ap (λ o. bytes_of (reading.read_text s d o n)) is;
      was = taken.was;
      most = refl;
      conn = ap (λ u. conn_at u c) same ∙ conn-with_same s c x both.1 (not-over x both.0 both.1);
      readable =
          same_readable s t d (ap (λ u. (domain u d).aggs) same
          ∙ ap (λ (z : Domain Text). z.aggs) (domain-same s (with_conn s c x) d (domains-with_conn s c x)));
      ended = taken.ended;
    }
does_copy_from_conn s t d fd c n (reply.Refused x) order is step = step.1
does_copy_from_conn s t d fd c n r order is step = (let e = step.1 in absurd (cc))

pub does_copy_from_pipe : (s t : State) (d fd p n : ℕ) (r : Reply) → IsOrderly s
    → descriptor s d fd ≡ Some (on.ReadEnd p) → StepsTo s (event.Call d (call.Read fd n)) r t → CopiesPipe s d p n r t
does_copy_from_pipe s t d fd p n (reply.Bytes found) order is step =
    let passes = copy_passes s d fd n _ is step.0 in
    let on_yet = left-true (pipe_at s p).reading (pipe_at s p).writing (order.all_stand d fd (on.ReadEnd p) is) in
    let q : Text = (pipe_at s p).queue in
    let taken = takes_front (may_read s d) n q (pipe_at s p).writing passes.0 passes.1 in
    let x : Pipe = record (pipe_at s p) { queue = drop (length (front (may_read s d) n q)) q } in
    let same : t ≡ with_pipe s p x =
    step.2 ∙ ap (λ o. reading.read_on s d fd o (length (reading.read_text s d o n))) is in
    record {
      text = front (may_read s d) n q;
      rest = x.queue;
      found_is = ap reported step.1 ∙ ap (λ o. bytes_of (reading.read_text s d o n)) is;
      was = taken.was;
      most = refl;
      pipe = ap (λ u. pipe_at u p) same ∙ pipe-with_same s p x on_yet on_yet;
      readable =
          same_readable s t d (ap (λ u. (domain u d).aggs) same
          ∙ ap (λ (z : Domain Text). z.aggs) (domain-same s (with_pipe s p x) d (domains-with_pipe s p x)));
      ended = taken.ended;
    }
does_copy_from_pipe s t d fd p n (reply.Refused x) order is step = step.1
does_copy_from_pipe s t d fd p n r order is step = (let e = step.1 in absurd (cc))
