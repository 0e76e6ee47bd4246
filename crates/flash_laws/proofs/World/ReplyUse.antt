-- A client uses after a reply only objects that it used before, or that the reply returned.
use Rattle.std.proofs.Common.{inl, inr, ◌≡◌, ◌⊎◌, ℕ, ◌==◌, List, [], ◌∷◌, ap, ◌∙◌, refl, sym, subst, Option, Some, None}
use Rattle.std.proofs.Common.{true, false, Bool}
use Rattle.std.specs.Prelude.{◌||◌}
use Rattle.iol_core.specs.State.{State, descriptor}
use Rattle.iol_core.specs.Run.{StepsTo}
use Rattle.iol_core.specs.declared.refusals.Refusal.TheVariants as no
use Rattle.iol_core.specs.declared.events.Call.{Call}
use Rattle.iol_core.specs.declared.events.Call.TheVariants as call
use Rattle.iol_core.specs.declared.events.Event.TheVariants as event
use Rattle.iol_core.specs.declared.events.Reply.{Reply}
use Rattle.iol_core.specs.declared.events.Reply.TheVariants as reply
use Rattle.iol_laws.specs.Caller.{readable_at, is_agg, is_fd, gives_away}
use Rattle.iol_laws.specs.Order.{IsOrderly}
use Rattle.flash_http.specs.Request.{Answer, serve, refuse, Wanted}
use Rattle.flash_laws.specs.Client.{is_for_script, conn_call, run_call, next_call, uses_agg, after_drop_whole}
use Rattle.flash_laws.specs.Client.{file_after_reply, after_run, proceeds, run_after_reply, after_reply}
use Rattle.flash_laws.specs.Client.Holdings.{has_fd}
use Rattle.flash_laws.specs.Conn as conn
use Rattle.flash_laws.specs.Conn.{Conn, is_head_only}
use Rattle.flash_laws.specs.Run.Holdings.{has_end}
use Rattle.flash_laws.specs.Run as running
use Rattle.flash_laws.specs.Run.{is_left, is_over, in_phase}
use Rattle.flash_laws.specs.Site.{server}
use Rattle.flash_laws.specs.declared.phase.Payload.TheVariants.{Script}
use Rattle.flash_laws.specs.declared.phase.Phase.{Phase}
use Rattle.flash_laws.specs.declared.phase.Phase.TheVariants.{Reading as Reading, ClosingFile, DroppingWhole}
use Rattle.flash_laws.specs.declared.phase.Phase.TheVariants.{MakingHead, SendingWhole, CuttingPiece}
use Rattle.flash_laws.specs.declared.phase.Phase.TheVariants.{SendingPiece, DroppingPiece, DroppingSent, AbortingPiece}
use Rattle.flash_laws.specs.declared.phase.Phase.TheVariants.{Aborting}
use Rattle.flash_laws.specs.declared.script_run.Run.{Run}
use Rattle.flash_laws.specs.declared.script_run.Step.{Step}
use Rattle.flash_laws.specs.declared.script_run.Step.TheVariants as step
use Rattle.flash_laws.specs.declared.script_run.Running.{Running}
use Rattle.flash_laws.specs.declared.script_run.Running.TheVariants.{AwaitingWorker, InProgress, Finishing}
use Rattle.flash_laws.specs.declared.script_run.Running.TheVariants.{Disconnecting as Ends}
use Rattle.flash_laws.proofs.Forms.{at, of}
use Rattle.flash_laws.proofs.TheLaws.{TheLaws}
use Rattle.flash_laws.proofs.Conn.Uses.{same-number, no-more, uses-after_reply, uses_fd-after_reply, one-of}
use Rattle.flash_laws.proofs.World.Calls.{is_client_call}
use Rattle.flash_laws.proofs.World.RunUses.{is_fds, run-uses, run-ends, step-has}
use Rattle.flash_laws.proofs.Lists.{not-false}

-- ---- aggregates

abbrev NewAgg : Reply → (a : ℕ) → (was : Bool) → Type 0
NewAgg r a was = (was ≡ true) ⊎ (is_agg r a ≡ true)

script-uses : (buffered : List ℕ) (q : Answer) (d : Phase) (script : List ℕ) (r : Reply) (received : List ℕ) (a : ℕ)
    → uses_agg (file_after_reply true (of (at buffered q d) None script) r received) a ≡ true
    → NewAgg r a (conn.uses_agg d a)
script-uses buffered q (Reading f) script (reply.Agg n) received a u = inr u
script-uses buffered q (Reading f) script r received a u = uses-after_reply buffered q (Reading f) r received a u
script-uses buffered q (DroppingWhole b Script) script r received a u = by (is_head_only q) r u
  where
    by : (h : Bool) (r : Reply)
        → uses_agg (of (conn.after_reply (at buffered q (DroppingWhole b Script)) r received) (after_drop_whole h r)
        script)
        a
        ≡ true → NewAgg r a ((b == a) || false)
    by false reply.Done u = absurd (cc (u))
    by other r u = uses-after_reply buffered q (DroppingWhole b Script) r received a u
script-uses buffered q d script r received a u = uses-after_reply buffered q d r received a u

over-uses : (z : Running) (a : ℕ) → is_over z ≡ true → conn.uses_agg (after_run z) a ≡ true
    → running.uses_agg z a ≡ true
over-uses (Finishing d) a over u = u
over-uses Ends a over u = absurd (cc (u))
over-uses x a over u = absurd (cc (over))

pub client-uses : (scripts : Bool) (worker : ℕ) (c : Conn) (run : Option Running) (script : List ℕ) (r : Reply)
    (received : List ℕ) (a : ℕ)
    → uses_agg (after_reply scripts worker (of c run script) r received) a ≡ true
    → NewAgg r a (uses_agg (of c run script) a)
client-uses scripts worker c None script r received a u = by (is_for_script scripts c.request) u
  where
    by : (b : Bool) → uses_agg (file_after_reply b (of c None script) r received) a ≡ true
        → NewAgg r a (conn.uses_agg c.phase a)
    by true u = script-uses c.buffered c.request c.phase script r received a u
    by false u = uses-after_reply c.buffered c.request c.phase r received a u
client-uses scripts worker c (Some y) script r received a u = by c.request u
  where
    on : (w : Wanted) (b e : Bool) → is_over (running.after_reply worker w y r received) ≡ e
        → uses_agg (proceeds b e (of c (Some y) script) y (running.after_reply worker w y r received)) a ≡ true
        → NewAgg r a (running.uses_agg y a)
    on w false true over u =
        run-uses worker w y r received a (over-uses (running.after_reply worker w y r received) a over u)
    on w true true over u = run-uses worker w y r received a u
    on w true false over u = run-uses worker w y r received a u
    on w false false over u = run-uses worker w y r received a u

    by : (q : Answer) → uses_agg (run_after_reply worker q (of c (Some y) script) y r received) a ≡ true
        → NewAgg r a (running.uses_agg y a)
    by (serve w) u = on w (is_over y) (is_over (running.after_reply worker w y r received)) refl u
    by (refuse status head_only close) u = inl u

-- an aggregate that the reply to a call for a client names is new
pub agg-new : (laws : TheLaws) (m n : State) (k : Call) (r : Reply) (a : ℕ) → IsOrderly m → is_client_call k ≡ true
    → StepsTo m (event.Call server k) r n → is_agg r a ≡ true → readable_at m server a ≡ None
agg-new laws m n (call.AggGive b to) r a order kind step u = absurd (cc (kind))
agg-new laws m n (call.GiveFd f to) (reply.Agg b) a order kind step u = (let e = step.1 in absurd (cc))
agg-new laws m n (call.GiveFd f to) r a order kind step u = absurd (cc (u))
agg-new laws m n k r a order kind step u = laws.fresh.agg m n server k r a order step refl u

-- ---- descriptors

-- the descriptor was used before, or the reply returned it: for a file, or as an end of a pipe
abbrev NewFd : Option Running → Reply → (g : ℕ) → (was : Bool) → Type 0
NewFd run r g was =
    (was ≡ true) ⊎ (((run ≡ None) × (is_fd r g ≡ true)) ⊎ ((run ≡ Some AwaitingWorker) × (is_fds r g ≡ true)))

plain-fds : (buffered : List ℕ) (q : Answer) (d : Phase) (r : Reply) (received : List ℕ) (g : ℕ)
    → conn.uses_fd (conn.after_reply (at buffered q d) r received).phase g ≡ true → NewFd None r g (conn.uses_fd d g)
plain-fds buffered q d r received g u =
    elim (uses_fd-after_reply buffered q d r received g u) [ inl had ↦ inl had | inr new ↦ inr (inl (refl, new)) ]

script-fds : (buffered : List ℕ) (q : Answer) (d : Phase) (script : List ℕ) (r : Reply) (received : List ℕ) (g : ℕ)
    → has_fd (file_after_reply true (of (at buffered q d) None script) r received) g ≡ true
    → NewFd None r g (conn.uses_fd d g)
script-fds buffered q (Reading f) script (reply.Agg n) received g u = inl u
script-fds buffered q (Reading f) script r received g u = plain-fds buffered q (Reading f) r received g u
script-fds buffered q (DroppingWhole b Script) script r received g u = by (is_head_only q) r u
  where
    by : (h : Bool) (r : Reply)
        → has_fd (of (conn.after_reply (at buffered q (DroppingWhole b Script)) r received) (after_drop_whole h r)
        script) g
        ≡ true
        → NewFd None r g false
    by false reply.Done u = absurd (cc (u))
    by other r u = plain-fds buffered q (DroppingWhole b Script) r received g u
script-fds buffered q d script r received g u = plain-fds buffered q d r received g u

-- the rest of a response uses no descriptor
left-fd : (w : Wanted) (d : Phase) (r : Reply) (received : List ℕ) (g : ℕ) → is_left d ≡ true
    → conn.uses_fd (conn.after_reply (in_phase w d) r received).phase g ≡ true → ⊥
left-fd w d r received g left u = elim (uses_fd-after_reply [] (serve w) d r received g u) [
  | inl was ↦ old d left was
  | inr new ↦ made r new d left u
]
  where
    old : (d : Phase) → is_left d ≡ true → conn.uses_fd d g ≡ true → ⊥
    old (Reading f) left u = cc (left)
    old (ClosingFile f k) left u = cc (left)
    old d left u = cc (u)

    made : (r : Reply) → is_fd r g ≡ true → (d : Phase) → is_left d ≡ true
        → conn.uses_fd (conn.after_reply (in_phase w d) r received).phase g ≡ true → ⊥
    made (reply.Fd f) new (MakingHead k) left u = cc (u)
    made (reply.Fd f) new (SendingWhole s) left u = cc (u)
    made (reply.Fd f) new (CuttingPiece s) left u = cc (u)
    made (reply.Fd f) new (SendingPiece s piece) left u = cc (u)
    made (reply.Fd f) new (DroppingPiece s piece) left u = cc (u)
    made (reply.Fd f) new (DroppingSent a taken more) left u = cc (u)
    made (reply.Fd f) new (AbortingPiece piece a more) left u = cc (u)
    made (reply.Fd f) new (Aborting a more) left u = cc (u)
    made (reply.Fd f) new d left u = cc (left)
    made r new d left u = cc (new)

-- a run that is over after its step uses no descriptor
module _ (w : Wanted) (run : Run) (g : ℕ) where
  abbrev NoFd : Running → Type 0
  NoFd z = is_over z ≡ true → conn.uses_fd (after_run z) g ≡ true → ⊥

  finishing-fd : (b c : Bool) (held : conn.Following) → NoFd (running.finishing b c run held)
  finishing-fd false true held over u = cc (over)
  finishing-fd false false held over u = cc (u)
  finishing-fd true c held over u = cc (u)

  sending-fd : (d : Phase) (frame : Option ℕ) (r : Reply) → NoFd (running.after_sending run d frame r)
  sending-fd (DroppingSent a taken None) frame reply.Done over u = cc (over)
  sending-fd (Aborting a None) frame reply.Done over u = cc (over)
  sending-fd d frame r over u = cc (over)

  receives-fd : (held : conn.Following) (frame : Option ℕ) (r : Reply) (received : List ℕ)
      → NoFd (running.after_output w run held frame r received)
  receives-fd held frame (reply.Agg n) [] over u = cc (over)
  receives-fd held frame (reply.Agg n) (b ∷ received) over u = cc (over)
  receives-fd held frame (reply.Refused (no.Denied p)) received over u = cc (over)
  receives-fd held frame r received over u = cc (over)

  step-fd : (s : Step) (r : Reply) (received : List ℕ) → NoFd (running.after_step w run s r received)
  step-fd (step.SendingPart d frame) r received over u = sending-fd d frame r over u
  step-fd (step.ReadingOutput held frame) r received over u = receives-fd held frame r received over u
  step-fd (step.ClosingOutput held (Some f)) reply.Done received over u = cc (over)
  step-fd (step.ClosingOutput held None) reply.Done received over u = finishing-fd run.broken w.chunked held over u
  step-fd (step.DroppingFrame f held) reply.Done received over u = finishing-fd run.broken w.chunked held over u
  step-fd (step.MakingEnd None) (reply.Agg n) received over u = cc (over)
  step-fd (step.MakingEnd (Some x)) (reply.Agg n) received over u = cc (over)
  step-fd (step.DroppingLastFrame frame chunk len) reply.Done received over u = cc (over)
  step-fd step.Failing reply.Done received over u = cc (over)
  step-fd s r received over u = cc (over)

over-fds : (worker : ℕ) (w : Wanted) (y : Running) (r : Reply) (received : List ℕ) (g : ℕ) → is_over y ≡ false
    → is_over (running.after_reply worker w y r received) ≡ true
    → conn.uses_fd (after_run (running.after_reply worker w y r received)) g ≡ true → ⊥
over-fds worker w AwaitingWorker (reply.Fds from write) received g ongoing over u = cc (over)
over-fds worker w AwaitingWorker r received g ongoing over u = cc (over)
over-fds worker w (Finishing d) r received g ongoing over u = left-fd w d r received g (not-false (is_left d) ongoing) u
over-fds worker w Ends r received g ongoing over u = cc (u)
over-fds worker w (InProgress run s) r received g ongoing over u = step-fd w run g s r received over u

run-fds : (worker : ℕ) (w : Wanted) (y : Running) (r : Reply) (received : List ℕ) (g : ℕ)
    → has_end (running.after_reply worker w y r received) g ≡ true → NewFd (Some y) r g (has_end y g)
run-fds worker w AwaitingWorker (reply.Fds from write) received g u = inr (inr (refl, u))
run-fds worker w (InProgress run s) r received g u =
    elim (run-ends worker w (InProgress run s) r received g u) [ inl had ↦ inl had | inr new ↦ by r u new ]
  where
    by : (r : Reply) → has_end (running.after_step w run s r received) g ≡ true → is_fds r g ≡ true
        → NewFd (Some (InProgress run s)) r g (has_end (InProgress run s) g)
    by r u new = inl (step-has w run g s r received u)
run-fds worker w y r received g u = absurd (cc (u))

-- a client's descriptor after a reply was used before, or the reply returned it, if its run was not over
pub client-fds : (scripts : Bool) (worker : ℕ) (c : Conn) (run : Option Running) (script : List ℕ) (r : Reply)
    (received : List ℕ) (g : ℕ)
    → ((y : Running) → run ≡ Some y → is_over y ≡ false)
    → has_fd (after_reply scripts worker (of c run script) r received) g ≡ true
    → NewFd run r g (has_fd (of c run script) g)
client-fds scripts worker c None script r received g ongoing u = by (is_for_script scripts c.request) u
  where
    by : (b : Bool) → has_fd (file_after_reply b (of c None script) r received) g ≡ true
        → NewFd None r g (conn.uses_fd c.phase g)
    by true u = script-fds c.buffered c.request c.phase script r received g u
    by false u = plain-fds c.buffered c.request c.phase r received g u
client-fds scripts worker c (Some y) script r received g ongoing u = by c.request u
  where
    on : (w : Wanted) (b e : Bool) → is_over y ≡ b → is_over (running.after_reply worker w y r received) ≡ e
        → has_fd (proceeds b e (of c (Some y) script) y (running.after_reply worker w y r received)) g ≡ true
        → NewFd (Some y) r g (has_end y g)
    on w false true going over u = absurd (over-fds worker w y r received g going over u)
    on w true e going over u = absurd (let n = ongoing y refl in cc (n, going))
    on w false false going over u = run-fds worker w y r received g u

    by : (q : Answer) → has_fd (run_after_reply worker q (of c (Some y) script) y r received) g ≡ true
        → NewFd (Some y) r g (has_end y g)
    by (serve w) u = on w (is_over y) (is_over (running.after_reply worker w y r received)) refl refl u
    by (refuse status head_only close) u = inl u

-- ---- a returned descriptor is new

fds-new : (laws : TheLaws) (m n : State) (r : Reply) (g : ℕ) → StepsTo m (event.Call server call.Pipe) r n
    → is_fds r g ≡ true → descriptor m server g ≡ None
fds-new laws m n (reply.Fds from write) g step u =
    let made = laws.own.makes_pipe m n server (reply.Fds from write) step in
    elim (one-of (from == g) (write == g) u) [
      | inl is ↦ ap (λ h. descriptor m server h) (sym (same-number from g is)) ∙ made.new_reads
      | inr is ↦ ap (λ h. descriptor m server h) (sym (same-number write g is)) ∙ made.new_writes
    ]
fds-new laws m n r g step u = absurd (cc (u))

script-away : (b : Bool) (fd : ℕ) (c : Conn) → gives_away (conn_call b fd c) ≡ false
script-away false fd c = no-more fd c.buffered c.request c.phase
script-away true fd c = by c.phase
  where
    by : (d : Phase) → gives_away (conn_call true fd (at c.buffered c.request d)) ≡ false
    by (Reading f) = refl
    by d = no-more fd c.buffered c.request d

pub fd-new : (laws : TheLaws) (m n : State) (scripts : Bool) (fd : ℕ) (c : Conn) (run : Option Running)
    (script : List ℕ) (w : Wanted) (r : Reply) (g : ℕ) → IsOrderly m
    → (run ≡ Some AwaitingWorker → c.request ≡ serve w)
    → StepsTo m (event.Call server (next_call scripts fd (of c run script))) r n
    → ((run ≡ None) × (is_fd r g ≡ true)) ⊎ ((run ≡ Some AwaitingWorker) × (is_fds r g ≡ true))
    → descriptor m server g ≡ None
fd-new laws m n scripts fd c None script w r g order asks step (inl new) =
    laws.fresh.fd m n server (conn_call (is_for_script scripts c.request) fd c) r g order step
    (script-away (is_for_script scripts c.request) fd c) new.1
fd-new laws m n scripts fd c (Some AwaitingWorker) script w r g order asks step (inr new) =
    fds-new laws m n r g
    (subst (λ (q : Answer). StepsTo m (event.Call server (run_call fd q script AwaitingWorker)) r n)
    (asks refl) step) new.1
fd-new laws m n scripts fd c (Some y) script w r g order asks step (inl new) = absurd (let e = new.0 in cc (e))
fd-new laws m n scripts fd c run script w r g order asks step (inr new) = absurd (let e = new.0 in cc (e))
