-- Objects that a run no longer uses are given up.
use Rattle.std.proofs.Common.{◌≡◌, ℕ, ◌==◌, List, [], ◌∷◌, ap, ◌∙◌, refl, sym, arith, Option, Some, None, true, false}
use Rattle.std.proofs.Common.{Bool, if◌then◌else◌, length}
use Rattle.std.specs.Prelude.{◌||◌, nat_lt}
use Rattle.iol_core.specs.State.{State, descriptor}
use Rattle.iol_core.specs.Run.{StepsTo}
use Rattle.iol_core.specs.Values.{gives_up}
use Rattle.iol_core.specs.declared.descriptors.Descriptor.TheVariants as on
use Rattle.iol_core.specs.declared.refusals.Refusal.{Refusal}
use Rattle.iol_core.specs.declared.refusals.Refusal.TheVariants as no
use Rattle.iol_core.specs.declared.events.Call.{Call}
use Rattle.iol_core.specs.declared.events.Call.TheVariants as call
use Rattle.iol_core.specs.declared.events.Event.TheVariants as event
use Rattle.iol_core.specs.declared.events.Reply.{Reply}
use Rattle.iol_core.specs.declared.events.Reply.TheVariants as reply
use Rattle.iol_laws.specs.Aggregates.{AggregatesComeAndGo, is_refusal}
use Rattle.iol_laws.specs.Caller as caller
use Rattle.iol_laws.specs.Caller.{CallsServeTheirDomain, readable_at}
use Rattle.iol_laws.specs.Order.{IsOrderly}
use Rattle.flash_http.specs.Request.{serve, Wanted}
use Rattle.flash_laws.specs.Conn as conn
use Rattle.flash_laws.specs.Conn.{Following, has_followed, count_of}
use Rattle.flash_laws.specs.Run.Fits.{Progress, Goes, Ends, IsHeld, HasReceived, HasAll, HasPart, HasStep, HasRun}
use Rattle.flash_laws.specs.Run.Holdings.{has_end}
use Rattle.flash_laws.specs.Run.{both, worker_domain, has_frame, step_agg, ends_of, uses_agg, step_call, next_call}
use Rattle.flash_laws.specs.Run.{is_again, after_give, after_sending, after_output, filled, holding, on_output, unread}
use Rattle.flash_laws.specs.Run.{finishing, after_step, after_reply}
use Rattle.flash_laws.specs.Site.{server}
use Rattle.flash_laws.specs.declared.phase.Phase.{Phase}
use Rattle.flash_laws.specs.declared.phase.Phase.TheVariants as phase
use Rattle.flash_laws.specs.declared.script_run.TheConstants.{CHUNK_BYTES}
use Rattle.flash_laws.specs.declared.script_run.Run.{Run}
use Rattle.flash_laws.specs.declared.script_run.Step.{Step}
use Rattle.flash_laws.specs.declared.script_run.Step.TheVariants.{GivingPipe, MakingJob, WritingJob, DroppingJob}
use Rattle.flash_laws.specs.declared.script_run.Step.TheVariants.{MakingHead, SendingPart, ReadingOutput}
use Rattle.flash_laws.specs.declared.script_run.Step.TheVariants.{DroppingOutput, JoiningOutput, MakingFrame}
use Rattle.flash_laws.specs.declared.script_run.Step.TheVariants.{FillingFrame, DroppingHeld, DroppingEnd}
use Rattle.flash_laws.specs.declared.script_run.Step.TheVariants.{DiscardingHeld}
use Rattle.flash_laws.specs.declared.script_run.Step.TheVariants.{ClosingOutput, DroppingFrame, MakingEnd, FillingEnd}
use Rattle.flash_laws.specs.declared.script_run.Step.TheVariants.{DroppingLast, DroppingLastFrame}
use Rattle.flash_laws.specs.declared.script_run.Step.TheVariants.{ClosingPipe, DiscardingJob, Failing}
use Rattle.flash_laws.specs.declared.script_run.Running.{Running}
use Rattle.flash_laws.specs.declared.script_run.Running.TheVariants.{InProgress, Finishing}
use Rattle.flash_laws.proofs.Moves.{after-done, after-agg, either-way, either-of}
use Rattle.flash_laws.proofs.Conn.Holdings.{leaves-after_reply}
use Rattle.flash_laws.proofs.Lists.{clash, later_of, amid, bare, bare-none, former_by, former_of, swapped}
use Rattle.flash_laws.proofs.Conn.Uses.{same-number}

later_by : (a b : Bool) → (a || b) ≡ true → a ≡ false → b ≡ true
later_by true b is unused = absurd (cc (unused))
later_by false b is unused = is

swapped-none : (a b : Bool) → (b || a) ≡ false → (a || b) ≡ false
swapped-none true true is = is
swapped-none true false is = is
swapped-none false b is = bare-none b is

plain : (a b : Bool) → ((a || false) || b) ≡ false → (a || b) ≡ false
plain true b is = is
plain false b is = is

-- no aggregate is held if no bytes are, or if the body is not chunked
held-none : (m : State) (w : Wanted) (held : Following) (bytes : List ℕ) → IsHeld m w held bytes → bytes ≡ []
    → held ≡ None
held-none m w None bytes has none = refl
held-none m w (Some x) bytes has none = let c = has.count in let s = has.some in let e =
    ap (λ (l : List ℕ). length l) none in absurd (omega (arith, c, s, e))

held-plain : (m : State) (w : Wanted) (held : Following) (bytes : List ℕ) → IsHeld m w held bytes → w.chunked ≡ false
    → held ≡ None
held-plain m w None bytes has plain = refl
held-plain m w (Some x) bytes has plain = let c = has.chunked in absurd (cc (c, plain))

unheld : (held : Following) (a : ℕ) → held ≡ None → has_followed held a ≡ false
unheld held a none = ap (λ (h : Following). has_followed h a) none

-- ---- aggregates no longer used are given up

abbrev Gone : Call → Reply → (a : ℕ) → Type 0
Gone k r a = (gives_up (event.Call server k) server a ≡ true) × (is_refusal r ≡ false)

holding-frame : (n size : ℕ) (frame : Option ℕ) (a : ℕ) → has_frame frame a ≡ true
    → step_agg (holding n size frame) a ≡ true
holding-frame n size frame a u = by (nat_lt size CHUNK_BYTES)
  where
    set : (frame : Option ℕ) → has_frame frame a ≡ true → step_agg (filled n frame) a ≡ true
    set None u = absurd (cc (u))
    set (Some f) u = later_of (n == a) (f == a) u

    by : (b : Bool) → step_agg (if b then ReadingOutput (Some (n, size)) frame else filled n frame) a ≡ true
    by true = later_of (n == a) (has_frame frame a) u
    by false = set frame u

pub holding-new : (n size : ℕ) (frame : Option ℕ) (a : ℕ) → (n == a) ≡ true → step_agg (holding n size frame) a ≡ true
holding-new n size frame a u = by (nat_lt size CHUNK_BYTES)
  where
    set : (frame : Option ℕ) → step_agg (filled n frame) a ≡ true
    set None = u
    set (Some f) = former_of (n == a) (f == a) u

    by : (b : Bool) → step_agg (if b then ReadingOutput (Some (n, size)) frame else filled n frame) a ≡ true
    by true = former_of (n == a) (has_frame frame a) u
    by false = set frame

-- the held output and the frame are used after output was read, too
on_output-uses : (m : State) (w : Wanted) (o : Progress) (c d : Bool) (held : Following) (frame : Option ℕ) (n len : ℕ)
    (bytes : List ℕ) (a : ℕ)
    → IsHeld m w held bytes → Goes c w o bytes → w.chunked ≡ d → (has_followed held a || has_frame frame a) ≡ true
    → step_agg (on_output c d held frame n len) a ≡ true
on_output-uses m w o true d held frame n len bytes a holds goes is u =
    later_of (n == a) (has_frame frame a)
    (later_by (has_followed held a) (has_frame frame a) u (unheld held a (held-none m w held bytes holds goes.1)))
on_output-uses m w o false false held frame n len bytes a holds goes is u =
    later_of ((n == a) || false) (has_frame frame a)
    (later_by (has_followed held a) (has_frame frame a) u (unheld held a (held-plain m w held bytes holds is)))
on_output-uses m w o false true None frame n len bytes a holds goes is u = holding-frame n len frame a u
on_output-uses m w o false true (Some x) frame n len bytes a holds goes is u = by (x.0 == a) u
  where
    by : (b : Bool) → (b || has_frame frame a) ≡ true → (b || ((n == a) || has_frame frame a)) ≡ true
    by true u = refl
    by false u = later_of (n == a) (has_frame frame a) u

-- so is the output that was read
pub on_output-new : (c d : Bool) (held : Following) (frame : Option ℕ) (n len a : ℕ) → (n == a) ≡ true
    → step_agg (on_output c d held frame n len) a ≡ true
on_output-new true d held frame n len a u = former_of (n == a) (has_frame frame a) u
on_output-new false false held frame n len a u =
    former_of ((n == a) || false) (has_frame frame a) (former_of (n == a) false u)
on_output-new false true None frame n len a u = holding-new n len frame a u
on_output-new false true (Some x) frame n len a u =
    later_of (x.0 == a) ((n == a) || has_frame frame a) (former_of (n == a) (has_frame frame a) u)

unread-uses : (held : Following) (frame : Option ℕ) (a : ℕ) → (has_followed held a || has_frame frame a) ≡ true
    → step_agg (unread held frame) a ≡ true
unread-uses None frame a u = u
unread-uses (Some x) frame a u = u

-- at the end of the output the held output is still used
finishing-uses : (m : State) (w : Wanted) (o : Progress) (run : Run) (b c : Bool) (held : Following) (bytes : List ℕ)
    (a : ℕ) → IsHeld m w held bytes
    → Ends b w o bytes → w.chunked ≡ c → uses_agg (finishing b c run held) a ≡ false → has_followed held a ≡ false
finishing-uses m w o run false true held bytes a holds ends is unused = unused
finishing-uses m w o run false false held bytes a holds ends is unused =
    unheld held a (held-plain m w held bytes holds is)
finishing-uses m w o run true c held bytes a holds ends is unused =
    unheld held a (held-none m w held bytes holds ends.1)

-- an aggregate that is used before, and not after, is not the frame, which is used both times
apart : {A : Type 0} (x y f : Bool) → (x || f) ≡ true → (y || f) ≡ false → (x ≡ true → y ≡ false → A) → A
apart x y true u unused leaves = absurd (clash (y || true) (later_of y true refl) unused)
apart x y false u unused leaves = leaves (former_by x false u refl) (bare-none y unused)

module _ (job : ℕ → List ℕ) (m : State) (fd : ℕ) (w : Wanted) (o : Progress) (run : Run) (a : ℕ) where
  abbrev LeavesAt : Step → Reply → Running → Type 0
  LeavesAt s r y = step_agg s a ≡ true → uses_agg y a ≡ false → Gone (step_call job fd w run s) r a

  sending : (d : Phase) (frame : Option ℕ) (r : Reply) → HasPart m w o run d frame
      → LeavesAt (SendingPart d frame) r (after_sending run d frame r)
  sending (phase.DroppingSent b taken None) frame reply.Done h u unused =
      apart ((b == a) || false) false (has_frame frame a) u unused (λ x y. (bare (b == a) x, refl))
  sending (phase.DroppingSent b taken None) frame r h u unused =
      absurd (clash (step_agg (SendingPart (phase.DroppingSent b taken None) frame) a) u unused)
  sending (phase.Aborting b None) frame reply.Done h u unused =
      apart ((b == a) || false) false (has_frame frame a) u unused (λ x y. (bare (b == a) x, refl))
  sending (phase.Aborting b None) frame r h u unused =
      absurd (clash (step_agg (SendingPart (phase.Aborting b None) frame) a) u unused)
  sending (phase.SendingWhole s) frame r h u unused =
      apart (conn.uses_agg (phase.SendingWhole s) a) (conn.uses_agg (conn.after_send s r) a)
      (has_frame frame a) u unused
      (leaves-after_reply fd [] (serve w) (phase.SendingWhole s) r [] a)
  sending (phase.CuttingPiece s) frame r h u unused =
      apart (conn.uses_agg (phase.CuttingPiece s) a)
      (conn.uses_agg (conn.after_cut s r) a) (has_frame frame a) u unused
      (leaves-after_reply fd [] (serve w) (phase.CuttingPiece s) r [] a)
  sending (phase.SendingPiece s piece) frame r h u unused =
      apart (conn.uses_agg (phase.SendingPiece s piece) a)
      (conn.uses_agg (conn.after_offer s piece r) a) (has_frame frame a) u unused
      (leaves-after_reply fd [] (serve w) (phase.SendingPiece s piece) r [] a)
  sending (phase.DroppingPiece s piece) frame r h u unused =
      apart (conn.uses_agg (phase.DroppingPiece s piece) a)
      (conn.uses_agg (conn.after_swap s piece r) a) (has_frame frame a) u unused
      (leaves-after_reply fd [] (serve w) (phase.DroppingPiece s piece) r [] a)
  sending (phase.AbortingPiece piece b None) frame r h u unused =
      apart (conn.uses_agg (phase.AbortingPiece piece b None) a) (conn.uses_agg (conn.after_break piece b None r) a)
      (has_frame frame a) u unused
      (leaves-after_reply fd [] (serve w) (phase.AbortingPiece piece b None) r [] a)
  sending d frame r h u unused = absurd h.is_part

  receives : (held : Following) (frame : Option ℕ) (r : Reply) (received : List ℕ) → HasReceived m w o run held frame
      → LeavesAt (ReadingOutput held frame) r (after_output w run held frame r received)
  receives held frame (reply.Agg n) [] h u unused =
      absurd
      (clash (step_agg (DroppingEnd n held frame) a)
      (later_of (n == a) (has_followed held a || has_frame frame a) u)
      unused)
  receives held frame (reply.Agg n) (b ∷ received) h u unused =
      absurd (clash (step_agg (on_output run.broken w.chunked held frame n (count_of (b ∷ received))) a)
      (on_output-uses m w o run.broken w.chunked held frame n (count_of (b ∷ received)) h.bytes a h.has.holds h.goes
      refl
      u) unused)
  receives held frame (reply.Refused (no.Denied p)) received h u unused =
      absurd (clash (step_agg (unread held frame) a) (unread-uses held frame a u) unused)
  receives held frame r received h u unused = absurd (clash (step_agg (ReadingOutput held frame) a) u unused)

  stops : (held : Following) (frame : Option ℕ) (r : Reply) (received : List ℕ) → HasAll m w o run held frame
      → LeavesAt (ClosingOutput held frame) r (after_step w run (ClosingOutput held frame) r received)
  stops held None reply.Done received h u unused =
      absurd
      (clash (has_followed held a) (bare (has_followed held a) u)
      (finishing-uses m w o run run.broken w.chunked held h.bytes a h.has.holds h.ends refl unused))
  stops held (Some f) reply.Done received h u unused =
      absurd (clash (step_agg (DroppingFrame f held) a) (swapped (has_followed held a) (f == a) u) unused)
  stops held frame r received h u unused = absurd (clash (step_agg (ClosingOutput held frame) a) u unused)

  unframes : (f : ℕ) (held : Following) (r : Reply) (received : List ℕ) → HasAll m w o run held (Some f)
      → LeavesAt (DroppingFrame f held) r (after_step w run (DroppingFrame f held) r received)
  unframes f held reply.Done received h u unused = (
    former_by (f == a) (has_followed held a) u
        (finishing-uses m w o run run.broken w.chunked held h.bytes a h.has.holds h.ends refl unused),
    refl,
  )
  unframes f held r received h u unused = absurd (clash (step_agg (DroppingFrame f held) a) u unused)

  lasts : (held : Following) (r : Reply) (received : List ℕ)
      → LeavesAt (MakingEnd held) r (after_step w run (MakingEnd held) r received)
  lasts None r received u unused = absurd (cc (u))
  lasts (Some x) (reply.Agg n) received u unused =
      absurd (clash (step_agg (FillingEnd x.0 x.1 n) a) (former_of (x.0 == a) (n == a) u) unused)
  lasts (Some x) r received u unused = absurd (clash (step_agg (MakingEnd (Some x)) a) u unused)

  gathers : (held size piece len : ℕ) (frame : Option ℕ) (r : Reply) (received : List ℕ)
      → LeavesAt (JoiningOutput held size piece len frame) r
      (after_step w run (JoiningOutput held size piece len frame) r received)
  gathers held size piece len frame (reply.Agg n) received u unused =
      (by (has_frame frame a) refl (held == a) (piece == a) u, refl)
    where
      by : (f : Bool) → has_frame frame a ≡ f → (x y : Bool) → (x || (y || f)) ≡ true → (x || y) ≡ true
      by true is x y u =
          absurd (clash (step_agg (holding n (both size len) frame) a) (holding-frame n (both size len) frame a is)
          unused)
      by false is true y u = refl
      by false is false y u = bare y u
  gathers held size piece len frame r received u unused =
      absurd (clash (step_agg (JoiningOutput held size piece len frame) a) u unused)

  hands : (j f : ℕ) (r : Reply) (received : List ℕ)
      → LeavesAt (WritingJob j f) r (after_step w run (WritingJob j f) r received)
  hands j f (reply.Count n) received u unused = absurd (clash (j == a) u unused)
  hands j f (reply.Refused x) received u unused =
      absurd (either-of (λ (s : Step). step_agg s a ≡ false → ⊥) (is_again x) (WritingJob j f) (DiscardingJob j)
      (λ unused. clash (j == a) u unused) (λ unused. clash (j == a) u unused) unused)
  hands j f r received u unused = absurd (clash (j == a) u unused)

  step-leaves : (s : Step) (r : Reply) (received : List ℕ) → HasStep job m w o run s
      → LeavesAt s r (after_step w run s r received)
  step-leaves (GivingPipe write) r received has u unused = absurd (cc (u))
  step-leaves (MakingJob f) r received has u unused = absurd (cc (u))
  step-leaves MakingHead r received has u unused = absurd (cc (u))
  step-leaves (ClosingPipe write) r received has u unused = absurd (cc (u))
  step-leaves Failing r received has u unused = absurd (cc (u))
  step-leaves (WritingJob j f) r received has u unused = hands j f r received u unused
  step-leaves (DroppingJob j) reply.Done received has u unused = (u, refl)
  step-leaves (SendingPart d frame) r received has u unused = sending d frame r has u unused
  step-leaves (ReadingOutput held frame) r received has u unused = receives held frame r received has u unused
  step-leaves (DroppingOutput b frame) reply.Done received has u unused =
      (former_by (b == a) (has_frame frame a) u unused, refl)
  step-leaves (JoiningOutput held size piece len frame) r received has u unused =
      gathers held size piece len frame r received u unused
  step-leaves (MakingFrame held) (reply.Agg n) received has u unused =
      absurd (clash (step_agg (FillingFrame held n) a) (former_of (held == a) (n == a) u) unused)
  step-leaves (FillingFrame held frame) (reply.Agg n) received has u unused =
      absurd
      (clash (step_agg (DroppingHeld held n (count_of received) frame) a) (amid (held == a) (n == a) (frame == a) u)
      unused)
  step-leaves (DroppingHeld held chunk len frame) reply.Done received has u unused =
      (former_by (held == a) ((chunk == a) || (frame == a)) u (plain (chunk == a) (frame == a) unused), refl)
  step-leaves (DroppingEnd b held frame) reply.Done received has u unused =
      (former_by (b == a) (has_followed held a || has_frame frame a) u unused, refl)
  step-leaves (DiscardingHeld held frame) reply.Done received has u unused =
      (former_by (held == a) (has_frame frame a) u unused, refl)
  step-leaves (ClosingOutput held frame) r received has u unused = stops held frame r received has.1 u unused
  step-leaves (DroppingFrame f held) r received has u unused = unframes f held r received has u unused
  step-leaves (MakingEnd held) r received has u unused = lasts held r received u unused
  step-leaves (FillingEnd held size frame) (reply.Agg n) received has u unused =
      absurd
      (clash (step_agg (DroppingLast held n (count_of received) frame) a) (amid (held == a) (n == a) (frame == a) u)
      unused)
  step-leaves (DroppingLast held chunk len frame) reply.Done received has u unused =
      (former_by (held == a) ((chunk == a) || (frame == a)) u (swapped-none (chunk == a) (frame == a) unused), refl)
  step-leaves (DroppingLastFrame frame chunk len) reply.Done received has u unused =
      (former_by (frame == a) (chunk == a) u (bare-none (chunk == a) unused), refl)
  step-leaves (DiscardingJob j) reply.Done received has u unused = (u, refl)
  step-leaves s r received has u unused = absurd (clash (step_agg s a) u unused)

pub left : (come : AggregatesComeAndGo) (job : ℕ → List ℕ) (m n : State) (fd worker : ℕ) (w : Wanted) (x : Running)
    (o : Progress) (r : Reply) (received : List ℕ) (a : ℕ)
    → IsOrderly m → HasRun job m w o x → StepsTo m (event.Call server (next_call job fd w x)) r n
    → uses_agg x a ≡ true → uses_agg (after_reply worker w x r received) a ≡ false → readable_at n server a ≡ None
left come job m n fd worker w (InProgress run s) o r received a order has step u unused =
    let gives = step-leaves job m fd w o run a s r received has.1 u unused in
    come.gone m n (event.Call server (next_call job fd w (InProgress run s))) r server a order step gives.0 gives.1
left come job m n fd worker w (Finishing d) o r received a order has step u unused =
    let gives = leaves-after_reply fd [] (serve w) d r received a u unused in
    come.gone m n (event.Call server (next_call job fd w (Finishing d))) r server a order step gives.0 gives.1
left come job m n fd worker w x o r received a order has step u unused = absurd (cc (u))

-- ---- an end of the pipe that the run no longer has is closed, or given away

module _ (own : CallsServeTheirDomain) (job : ℕ → List ℕ) (m n : State) (fd : ℕ) (w : Wanted) (o : Progress) (run : Run)
    (g : ℕ) where
  abbrev ShutsAt : Step → Reply → Running → Type 0
  ShutsAt s r y = StepsTo m (event.Call server (step_call job fd w run s)) r n → ends_of run s g ≡ true
      → has_end y g ≡ false → descriptor n server g ≡ None

  -- an end that the run closes
  closed : (f : ℕ) (s : Step) (r : Reply) (y : Reply → Running) → StepsTo m (event.Call server (call.Close f)) r n
      → ((x : Refusal) → has_end (y (reply.Refused x)) g ≡ ends_of run s g)
      → (has_end (y reply.Done) g ≡ false → (f == g) ≡ true)
      → ends_of run s g ≡ true → has_end (y r) g ≡ false → descriptor n server g ≡ None
  closed f s r y step same which u unused = by r (own.closes m n server f r step) unused
    where
      by : (r : Reply) → caller.Closes m server f r n → has_end (y r) g ≡ false → descriptor n server g ≡ None
      by reply.Done did unused = ap (λ z. descriptor n server z) (sym (same-number f g (which unused))) ∙ did
      by (reply.Refused x) did unused = absurd (clash (ends_of run s g) u (sym (same x) ∙ unused))
      by r did unused = absurd did

  gives : (write : ℕ) (r : Reply) (received : List ℕ) → HasStep job m w o run (GivingPipe write)
      → ShutsAt (GivingPipe write) r (after_step w run (GivingPipe write) r received)
  gives write r received has step u unused =
      by r (own.gives_fd m n server write (worker_domain run.worker) (on.WriteEnd has.0.pipe) r has.0.write_end step)
      unused
    where
      again : (b : Bool) → has_end (InProgress run (if b then GivingPipe write else ClosingPipe write)) g ≡ false → ⊥
      again true unused = clash (ends_of run (GivingPipe write) g) u unused
      again false unused = clash (ends_of run (GivingPipe write) g) u unused

      other : server ≡ worker_domain run.worker → ⊥
      other is = absurd (omega (arith, is))

      by : (r : Reply) → caller.GivesFd m server write (worker_domain run.worker) (on.WriteEnd has.0.pipe) r n
          → has_end (InProgress run (after_give write r)) g ≡ false → descriptor n server g ≡ None
      by (reply.Fd f) did unused =
          ap (λ z. descriptor n server z)
          (sym (same-number write g (later_by (run.from == g) (write == g) u (none (run.from == g) unused))))
          ∙ did.left other
        where
          none : (b : Bool) → (b || false) ≡ false → b ≡ false
          none true is = is
          none false is = refl
      by (reply.Refused y) did unused = absurd (again (is_again y) unused)
      by r did unused = absurd did

  holding-ends : (held size : ℕ) (frame : Option ℕ)
      → has_end (InProgress run (holding held size frame)) g ≡ ((run.from == g) || false)
  holding-ends held size frame = by (nat_lt size CHUNK_BYTES) frame
    where
      by : (b : Bool) (frame : Option ℕ)
          → has_end (InProgress run (if b then ReadingOutput (Some (held, size)) frame else filled held frame)) g
          ≡ ((run.from == g) || false)
      by true frame = refl
      by false None = refl
      by false (Some f) = refl

  on_output-ends : (c d : Bool) (held : Following) (frame : Option ℕ) (k len : ℕ)
      → has_end (InProgress run (on_output c d held frame k len)) g ≡ ((run.from == g) || false)
  on_output-ends true d held frame k len = refl
  on_output-ends false false held frame k len = refl
  on_output-ends false true None frame k len = holding-ends k len frame
  on_output-ends false true (Some x) frame k len = refl

  sending-ends : (d : Phase) (frame : Option ℕ) (r : Reply)
      → has_end (after_sending run d frame r) g ≡ ((run.from == g) || false)
  sending-ends (phase.DroppingSent b taken None) frame reply.Done = refl
  sending-ends (phase.Aborting b None) frame reply.Done = refl
  sending-ends d frame r = refl

  receives-ends : (held : Following) (frame : Option ℕ) (r : Reply) (received : List ℕ)
      → has_end (after_output w run held frame r received) g ≡ ((run.from == g) || false)
  receives-ends held frame (reply.Agg k) [] = refl
  receives-ends held frame (reply.Agg k) (b ∷ received) =
      on_output-ends run.broken w.chunked held frame k (count_of (b ∷ received))
  receives-ends None frame (reply.Refused (no.Denied p)) received = refl
  receives-ends (Some x) frame (reply.Refused (no.Denied p)) received = refl
  receives-ends held frame r received = refl

  hands-ends : (j f : ℕ) (r : Reply) (received : List ℕ)
      → has_end (after_step w run (WritingJob j f) r received) g ≡ ((run.from == g) || false)
  hands-ends j f (reply.Count k) received = refl
  hands-ends j f (reply.Refused x) received =
      either-way (λ (s : Step). has_end (InProgress run s) g ≡ ((run.from == g) || false)) (is_again x) refl refl
  hands-ends j f r received = refl

  -- of the ends of the pipe, a run in this step has only the read end
  abbrev Stays : Step → Type 0
  Stays t = has_end (InProgress run t) g ≡ ((run.from == g) || false)

  buffered : (s : Step) (r : Reply) (received : List ℕ) → ends_of run s g ≡ true
      → has_end (after_step w run s r received) g ≡ ends_of run s g
      → has_end (after_step w run s r received) g ≡ false → descriptor n server g ≡ None
  buffered s r received u same unused = absurd (clash (ends_of run s g) u (sym same ∙ unused))

  step-shuts : (s : Step) (r : Reply) (received : List ℕ) → HasStep job m w o run s
      → ShutsAt s r (after_step w run s r received)
  step-shuts (GivingPipe write) r received has step u unused = gives write r received has step u unused
  step-shuts (ClosingPipe write) r received has step u unused =
      closed write (ClosingPipe write) r (λ k. after_step w run (ClosingPipe write) k received) step (λ x. refl)
      (λ none. later_by (run.from == g) (write == g) u (bare-none (run.from == g) none)) u unused
  step-shuts (ClosingOutput held frame) r received has step u unused =
      closed run.from (ClosingOutput held frame) r (λ k. after_step w run (ClosingOutput held frame) k received) step
      (λ x. refl)
      (λ none. bare (run.from == g) u) u unused
  step-shuts Failing r received has step u unused =
      closed run.from Failing r (λ k. after_step w run Failing k received) step (λ x. refl)
      (λ none. bare (run.from == g) u)
      u unused
  step-shuts (MakingJob f) r received has step u unused =
      buffered (MakingJob f) r received u (after-agg Stays r refl (λ k. refl)) unused
  step-shuts (WritingJob j f) r received has step u unused =
      buffered (WritingJob j f) r received u (hands-ends j f r received) unused
  step-shuts (DroppingJob j) r received has step u unused =
      buffered (DroppingJob j) r received u (after-done Stays r refl refl) unused
  step-shuts MakingHead r received has step u unused =
      buffered MakingHead r received u (after-agg Stays r refl (λ k. refl)) unused
  step-shuts (SendingPart d frame) r received has step u unused =
      buffered (SendingPart d frame) r received u (sending-ends d frame r) unused
  step-shuts (ReadingOutput held frame) r received has step u unused =
      buffered (ReadingOutput held frame) r received u (receives-ends held frame r received) unused
  step-shuts (DroppingOutput b frame) r received has step u unused =
      buffered (DroppingOutput b frame) r received u (after-done Stays r refl refl) unused
  step-shuts (JoiningOutput held size piece len frame) r received has step u unused =
      buffered (JoiningOutput held size piece len frame) r received u
      (after-agg Stays r refl (λ k. holding-ends k (both size len) frame)) unused
  step-shuts (MakingFrame held) r received has step u unused =
      buffered (MakingFrame held) r received u (after-agg Stays r refl (λ k. refl)) unused
  step-shuts (FillingFrame held frame) r received has step u unused =
      buffered (FillingFrame held frame) r received u (after-agg Stays r refl (λ k. refl)) unused
  step-shuts (DroppingHeld held chunk len frame) r received has step u unused =
      buffered (DroppingHeld held chunk len frame) r received u (after-done Stays r refl refl) unused
  step-shuts (DroppingEnd b held frame) r received has step u unused =
      buffered (DroppingEnd b held frame) r received u (after-done Stays r refl refl) unused
  step-shuts (DiscardingHeld held frame) r received has step u unused =
      buffered (DiscardingHeld held frame) r received u (after-done Stays r refl refl) unused
  step-shuts (DiscardingJob j) r received has step u unused =
      buffered (DiscardingJob j) r received u (after-done Stays r refl refl) unused
  step-shuts s r received has step u unused = absurd (cc (u))

pub shut : (own : CallsServeTheirDomain) (job : ℕ → List ℕ) (m n : State) (fd worker : ℕ) (w : Wanted) (x : Running)
    (o : Progress) (r : Reply) (received : List ℕ) (g : ℕ)
    → HasRun job m w o x → StepsTo m (event.Call server (next_call job fd w x)) r n
    → has_end x g ≡ true → has_end (after_reply worker w x r received) g ≡ false → descriptor n server g ≡ None
shut own job m n fd worker w (InProgress run s) o r received g has step u unused =
    step-shuts own job m n fd w o run g s r received has.1 step u unused
shut own job m n fd worker w x o r received g has step u unused = absurd (cc (u))
