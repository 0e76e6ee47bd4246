-- A run uses only objects that it had before, or that the reply returned, and these exist.
use Rattle.std.proofs.Common.{inl, inr, ◌≡◌, ◌⊎◌, ℕ, ◌==◌, List, [], ◌∷◌, ap, ◌∙◌, refl, sym, Option, Some, None, true}
use Rattle.std.proofs.Common.{false, Bool, if◌then◌else◌}
use Rattle.std.specs.Prelude.{◌||◌, ◌&&◌, nat_lt}
use Rattle.iol_core.specs.State.{State, descriptor}
use Rattle.iol_core.specs.declared.descriptors.Descriptor.TheVariants as on
use Rattle.iol_core.specs.declared.refusals.Refusal.TheVariants as no
use Rattle.iol_core.specs.declared.events.Reply.{Reply}
use Rattle.iol_core.specs.declared.events.Reply.TheVariants as reply
use Rattle.iol_laws.specs.Caller.{readable_at, is_agg}
use Rattle.flash_http.specs.Request.{serve, Wanted}
use Rattle.flash_laws.specs.Conn as conn
use Rattle.flash_laws.specs.Conn.{Following, has_followed, count_of}
use Rattle.flash_laws.specs.Conn.Fits.{IsReadable}
use Rattle.flash_laws.specs.Run.Fits.{Progress, HasStep, HasRun, HasLeft, HasFrame, IsHeld, HasOutput, HasPart}
use Rattle.flash_laws.specs.Run.Holdings.{has_end}
use Rattle.flash_laws.specs.Run.{has_frame, step_agg, ends_of, is_reading, step_fd, uses_agg, is_again, after_sending}
use Rattle.flash_laws.specs.Run.{holding, filled, on_output, after_output, both, finishing, after_step, after_reply}
use Rattle.flash_laws.specs.Run.{sends_part, in_phase}
use Rattle.flash_laws.specs.Site.{server}
use Rattle.flash_laws.specs.declared.phase.Phase.{Phase}
use Rattle.flash_laws.specs.declared.phase.Phase.TheVariants as phase
use Rattle.flash_laws.specs.declared.script_run.TheConstants.{CHUNK_BYTES}
use Rattle.flash_laws.specs.declared.script_run.Run.{Run}
use Rattle.flash_laws.specs.declared.script_run.Step.{Step}
use Rattle.flash_laws.specs.declared.script_run.Step.TheVariants.{GivingPipe, MakingJob, WritingJob, DroppingJob}
use Rattle.flash_laws.specs.declared.script_run.Step.TheVariants.{MakingHead, SendingPart, ReadingOutput}
use Rattle.flash_laws.specs.declared.script_run.Step.TheVariants.{DroppingOutput, JoiningOutput, MakingFrame}
use Rattle.flash_laws.specs.declared.script_run.Step.TheVariants.{FillingFrame, DroppingHeld, DroppingEnd}
use Rattle.flash_laws.specs.declared.script_run.Step.TheVariants.{DiscardingHeld}
use Rattle.flash_laws.specs.declared.script_run.Step.TheVariants.{ClosingOutput, DroppingFrame, MakingEnd, FillingEnd}
use Rattle.flash_laws.specs.declared.script_run.Step.TheVariants.{DroppingLast, DroppingLastFrame}
use Rattle.flash_laws.specs.declared.script_run.Step.TheVariants.{ClosingPipe, DiscardingJob, Failing}
use Rattle.flash_laws.specs.declared.script_run.Running.{Running}
use Rattle.flash_laws.specs.declared.script_run.Running.TheVariants.{AwaitingWorker, InProgress, Finishing}
use Rattle.flash_laws.proofs.Lists.{later_of, bare, former_of, swapped}
use Rattle.flash_laws.proofs.Conn.Uses.{same-number, uses-after_reply, has-agg, one-of}
use Rattle.flash_laws.proofs.Moves.{either-of}

-- the aggregate was used before, or the reply returned it
abbrev New : Reply → (a : ℕ) → (was : Bool) → Type 0
New r a was = (was ≡ true) ⊎ (is_agg r a ≡ true)

around : (x y z : Bool) → (x || (y || z)) ≡ true → ((x || z) ≡ true) ⊎ (y ≡ true)
around true y z u = inl refl
around false true z u = inr refl
around false false z u = inl u

module _ (worker : ℕ) (w : Wanted) (run : Run) (a : ℕ) where
  abbrev UsesNew : Step → Reply → Running → Type 0
  UsesNew s r z = uses_agg z a ≡ true → New r a (step_agg s a)

  part-new : (d : Phase) (frame : Option ℕ) (r : Reply)
      → (conn.uses_agg (conn.after_reply (in_phase w d) r []).phase a || has_frame frame a) ≡ true
      → New r a (conn.uses_agg d a || has_frame frame a)
  part-new d frame r u = elim
      (one-of (conn.uses_agg (conn.after_reply (in_phase w d) r []).phase a) (has_frame frame a) u) [
        | inl is ↦ elim (uses-after_reply [] (serve w) d r [] a is) [
          | inl old ↦ inl (former_of (conn.uses_agg d a) (has_frame frame a) old)
          | inr made ↦ inr made
        ]
        | inr is ↦ inl (later_of (conn.uses_agg d a) (has_frame frame a) is)
      ]

  sending-new : (d : Phase) (frame : Option ℕ) (r : Reply)
      → UsesNew (SendingPart d frame) r (after_sending run d frame r)
  sending-new (phase.DroppingSent b taken None) frame reply.Done u =
      inl (later_of ((b == a) || false) (has_frame frame a) u)
  sending-new (phase.Aborting b None) frame reply.Done u = inl (later_of ((b == a) || false) (has_frame frame a) u)
  sending-new (phase.SendingWhole s) frame r u = part-new (phase.SendingWhole s) frame r u
  sending-new (phase.CuttingPiece s) frame r u = part-new (phase.CuttingPiece s) frame r u
  sending-new (phase.SendingPiece s piece) frame r u = part-new (phase.SendingPiece s piece) frame r u
  sending-new (phase.DroppingPiece s piece) frame r u = part-new (phase.DroppingPiece s piece) frame r u
  sending-new (phase.AbortingPiece piece b more) frame r u = part-new (phase.AbortingPiece piece b more) frame r u
  sending-new d frame r u = inl u

  holding-new : (n size : ℕ) (frame : Option ℕ) (r : Reply) (was : Bool) → (n == a ≡ true → is_agg r a ≡ true)
      → (has_frame frame a ≡ true → was ≡ true)
      → step_agg (holding n size frame) a ≡ true → New r a was
  holding-new n size frame r was made old u = by (nat_lt size CHUNK_BYTES) u
    where
      set : (frame : Option ℕ) → (has_frame frame a ≡ true → was ≡ true) → step_agg (filled n frame) a ≡ true
          → New r a was
      set None old u = inr (made u)
      set (Some f) old u = elim (one-of (n == a) (f == a) u) [ inl is ↦ inr (made is) | inr is ↦ inl (old is) ]

      by : (b : Bool) → step_agg (if b then ReadingOutput (Some (n, size)) frame else filled n frame) a ≡ true
          → New r a was
      by true u = elim (one-of (n == a) (has_frame frame a) u) [ inl is ↦ inr (made is) | inr is ↦ inl (old is) ]
      by false u = set frame old u

  on_output-new : (c d : Bool) (held : Following) (frame : Option ℕ) (n len : ℕ)
      → step_agg (on_output c d held frame n len) a ≡ true
      → New (reply.Agg n) a (has_followed held a || has_frame frame a)
  on_output-new true d held frame n len u =
      elim (one-of (n == a) (has_frame frame a) u) [
        | inl is ↦ inr is
        | inr is ↦
            inl (later_of (has_followed held a) (has_frame frame a) is)
      ]
  on_output-new false false held frame n len u =
      elim (one-of ((n == a) || false) (has_frame frame a) u) [
        | inl is ↦ inr (bare (n == a) is)
        | inr is ↦
            inl (later_of (has_followed held a) (has_frame frame a) is)
      ]
  on_output-new false true None frame n len u =
      holding-new n len frame (reply.Agg n) (has_frame frame a) (λ is. is) (λ is. is) u
  on_output-new false true (Some x) frame n len u = elim (one-of (x.0 == a) ((n == a) || has_frame frame a) u) [
    | inl is ↦ inl (former_of (x.0 == a) (has_frame frame a) is)
    | inr is ↦ elim (one-of (n == a) (has_frame frame a) is) [
      | inl made ↦ inr made
      | inr old ↦
          inl (later_of (x.0 == a) (has_frame frame a) old)
    ]
  ]

  receives-new : (held : Following) (frame : Option ℕ) (r : Reply) (received : List ℕ)
      → UsesNew (ReadingOutput held frame) r (after_output w run held frame r received)
  receives-new held frame (reply.Agg n) [] u =
      elim (one-of (n == a) (has_followed held a || has_frame frame a) u) [ inl is ↦ inr is | inr is ↦ inl is ]
  receives-new held frame (reply.Agg n) (b ∷ received) u =
      on_output-new run.broken w.chunked held frame n (count_of (b ∷ received)) u
  receives-new None frame (reply.Refused (no.Denied p)) received u = inl u
  receives-new (Some x) frame (reply.Refused (no.Denied p)) received u = inl u
  receives-new held frame r received u = inl u

  finishing-new : (b c : Bool) (held : Following) → uses_agg (finishing b c run held) a ≡ true
      → has_followed held a ≡ true
  finishing-new false true held u = u
  finishing-new false false held u = absurd (cc (u))
  finishing-new true c held u = absurd (cc (u))

  step-new : (s : Step) (r : Reply) (received : List ℕ) → UsesNew s r (after_step w run s r received)
  step-new (GivingPipe write) (reply.Fd f) received u = absurd (cc (u))
  step-new (GivingPipe write) (reply.Refused x) received u =
      absurd (either-of (λ (s : Step). step_agg s a ≡ true → ⊥) (is_again x) (GivingPipe write) (ClosingPipe write)
      (λ u. cc (u))
      (λ u. cc (u)) u)
  step-new (GivingPipe write) r received u = absurd (cc (u))
  step-new (MakingJob f) (reply.Agg n) received u = inr u
  step-new (MakingJob f) r received u = absurd (cc (u))
  step-new (WritingJob j f) (reply.Count n) received u = inl u
  step-new (WritingJob j f) (reply.Refused x) received u =
      inl (either-of (λ (s : Step). step_agg s a ≡ true → (j == a) ≡ true) (is_again x) (WritingJob j f)
      (DiscardingJob j) (λ u. u)
      (λ u. u) u)
  step-new (DroppingJob j) reply.Done received u = absurd (cc (u))
  step-new MakingHead (reply.Agg n) received u = inr (bare (n == a) (bare ((n == a) || false) u))
  step-new MakingHead r received u = absurd (cc (u))
  step-new (SendingPart d frame) r received u = sending-new d frame r u
  step-new (ReadingOutput held frame) r received u = receives-new held frame r received u
  step-new (DroppingOutput b frame) reply.Done received u = inl (later_of (b == a) (has_frame frame a) u)
  step-new (JoiningOutput held size piece len frame) (reply.Agg n) received u =
      holding-new n (both size len) frame (reply.Agg n) ((held == a) || ((piece == a) || has_frame frame a)) (λ is. is)
      (λ is. later_of (held == a) ((piece == a) || has_frame frame a) (later_of (piece == a) (has_frame frame a) is)) u
  step-new (MakingFrame held) (reply.Agg n) received u =
      elim (one-of (held == a) (n == a) u) [ inl is ↦ inl is | inr is ↦ inr is ]
  step-new (FillingFrame held frame) (reply.Agg n) received u = around (held == a) (n == a) (frame == a) u
  step-new (DroppingHeld held chunk len frame) reply.Done received u = inl (by (held == a) (chunk == a) (frame == a) u)
    where
      by : (x y z : Bool) → (((y || false) || z)) ≡ true → (x || (y || z)) ≡ true
      by x true z u = later_of x true refl
      by x false z u = later_of x z u
  step-new (DroppingEnd b held frame) reply.Done received u =
      inl (later_of (b == a) (has_followed held a || has_frame frame a) u)
  step-new (DiscardingHeld held frame) reply.Done received u = inl (later_of (held == a) (has_frame frame a) u)
  step-new (ClosingOutput held None) reply.Done received u =
      inl (former_of (has_followed held a) false (finishing-new run.broken w.chunked held u))
  step-new (ClosingOutput held (Some f)) reply.Done received u = inl (swapped (f == a) (has_followed held a) u)
  step-new (DroppingFrame f held) reply.Done received u =
      inl (later_of (f == a) (has_followed held a) (finishing-new run.broken w.chunked held u))
  step-new (MakingEnd None) (reply.Agg n) received u = inr (bare (n == a) u)
  step-new (MakingEnd (Some x)) (reply.Agg n) received u =
      elim (one-of (x.0 == a) (n == a) u) [ inl is ↦ inl is | inr is ↦ inr is ]
  step-new (FillingEnd held size frame) (reply.Agg n) received u = around (held == a) (n == a) (frame == a) u
  step-new (DroppingLast held chunk len frame) reply.Done received u = inl (by (held == a) (chunk == a) (frame == a) u)
    where
      by : (x y z : Bool) → (z || y) ≡ true → (x || (y || z)) ≡ true
      by x true z u = later_of x true refl
      by x false z u = later_of x z (bare z u)
  step-new (DroppingLastFrame frame chunk len) reply.Done received u =
      inl (later_of (frame == a) (chunk == a) (bare (chunk == a) u))
  step-new (ClosingPipe write) reply.Done received u = absurd (cc (u))
  step-new (ClosingPipe write) r received u = absurd (cc (u))
  step-new (DiscardingJob j) reply.Done received u = absurd (cc (u))
  step-new Failing reply.Done received u = absurd (cc (u))
  step-new Failing r received u = absurd (cc (u))
  step-new s r received u = inl u

pub run-uses : (worker : ℕ) (w : Wanted) (y : Running) (r : Reply) (received : List ℕ) (a : ℕ)
    → uses_agg (after_reply worker w y r received) a ≡ true
    → New r a (uses_agg y a)
run-uses worker w AwaitingWorker (reply.Fds from write) received a u = absurd (cc (u))
run-uses worker w (InProgress run s) r received a u = step-new worker w run a s r received u
run-uses worker w (Finishing d) r received a u = uses-after_reply [] (serve w) d r received a u
run-uses worker w x r received a u = absurd (cc (u))

-- ---- the ends of its pipe

abbrev pub is_fds : Reply → (g : ℕ) → Bool
is_fds (reply.Fds f h) g = (f == g) || (h == g)
is_fds r g = false

module _ (w : Wanted) (run : Run) (g : ℕ) where
  abbrev Has : Step → Running → Type 0
  Has s z = has_end z g ≡ true → ends_of run s g ≡ true

  from-end : (f x : Bool) → ((f && x) || false) ≡ true → x ≡ true
  from-end true x u = bare x u
  from-end false x u = absurd (cc (u))

  -- a reading run has its read end
  on-reading : (s : Step) → is_reading s ≡ true → (run.from == g) ≡ true → ends_of run s g ≡ true
  on-reading s reads is =
      former_of (is_reading s && (run.from == g)) (step_fd s g) (ap (λ b. b && (run.from == g)) reads ∙ is)

  only-from : (s : Step) → ((h : ℕ) → step_fd s h ≡ false) → ends_of run s g ≡ true → (run.from == g) ≡ true
  only-from s none u =
      from-end (is_reading s) (run.from == g) (ap (λ b. (is_reading s && (run.from == g)) || b) (sym (none g)) ∙ u)

  holding-fd : (n size : ℕ) (frame : Option ℕ) (h : ℕ) → step_fd (holding n size frame) h ≡ false
  holding-fd n size frame h = by (nat_lt size CHUNK_BYTES)
    where
      set : (frame : Option ℕ) → step_fd (filled n frame) h ≡ false
      set None = refl
      set (Some f) = refl

      by : (b : Bool) → step_fd (if b then ReadingOutput (Some (n, size)) frame else filled n frame) h ≡ false
      by true = refl
      by false = set frame

  on_output-fd : (c d : Bool) (held : Following) (frame : Option ℕ) (n len h : ℕ)
      → step_fd (on_output c d held frame n len) h ≡ false
  on_output-fd true d held frame n len h = refl
  on_output-fd false false held frame n len h = refl
  on_output-fd false true None frame n len h = holding-fd n len frame h
  on_output-fd false true (Some x) frame n len h = refl

  sending-has : (d : Phase) (frame : Option ℕ) (r : Reply) → Has (SendingPart d frame) (after_sending run d frame r)
  sending-has (phase.DroppingSent b taken None) frame reply.Done u = u
  sending-has (phase.Aborting b None) frame reply.Done u = u
  sending-has d frame r u = u

  receives-has : (held : Following) (frame : Option ℕ) (r : Reply) (received : List ℕ)
      → Has (ReadingOutput held frame) (after_output w run held frame r received)
  receives-has held frame (reply.Agg n) [] u = u
  receives-has held frame (reply.Agg n) (b ∷ received) u = on-reading (ReadingOutput held frame) refl
      (only-from (on_output run.broken w.chunked held frame n (count_of (b ∷ received)))
      (on_output-fd run.broken w.chunked held frame n (count_of (b ∷ received))) u)
  receives-has None frame (reply.Refused (no.Denied p)) received u = u
  receives-has (Some x) frame (reply.Refused (no.Denied p)) received u = u
  receives-has held frame r received u = u

  finishing-has : (b c : Bool) (held : Following) → has_end (finishing b c run held) g ≡ true → ⊥
  finishing-has false true held u = cc (u)
  finishing-has false false held u = cc (u)
  finishing-has true c held u = cc (u)

  pub step-has : (s : Step) (r : Reply) (received : List ℕ) → Has s (after_step w run s r received)
  step-has (GivingPipe write) (reply.Fd f) received u =
      on-reading (GivingPipe write) refl (only-from (MakingJob f) (λ h. refl) u)
  step-has (GivingPipe write) (reply.Refused x) received u =
      either-of (λ (s : Step). ends_of run s g ≡ true → ends_of run (GivingPipe write) g ≡ true) (is_again x)
      (GivingPipe write)
      (ClosingPipe write) (λ u. u) (λ u. u) u
  step-has (MakingJob f) (reply.Agg n) received u = u
  step-has (WritingJob j f) (reply.Count n) received u = u
  step-has (WritingJob j f) (reply.Refused x) received u =
      either-of (λ (s : Step). ends_of run s g ≡ true → ends_of run (WritingJob j f) g ≡ true) (is_again x)
      (WritingJob j f)
      (DiscardingJob j) (λ u. u) (λ u. u) u
  step-has MakingHead (reply.Agg n) received u = u
  step-has (SendingPart d frame) r received u = sending-has d frame r u
  step-has (ReadingOutput held frame) r received u = receives-has held frame r received u
  step-has (JoiningOutput held size piece len frame) (reply.Agg n) received u =
      on-reading (JoiningOutput held size piece len frame) refl
      (only-from (holding n (both size len) frame) (holding-fd n (both size len) frame) u)
  step-has (MakingFrame held) (reply.Agg n) received u = u
  step-has (FillingFrame held frame) (reply.Agg n) received u = u
  step-has (ClosingOutput held None) reply.Done received u = absurd (finishing-has run.broken w.chunked held u)
  step-has (ClosingOutput held (Some f)) reply.Done received u = absurd (cc (u))
  step-has (DroppingFrame f held) reply.Done received u = absurd (finishing-has run.broken w.chunked held u)
  step-has (MakingEnd None) (reply.Agg n) received u = absurd (cc (u))
  step-has (MakingEnd (Some x)) (reply.Agg n) received u = absurd (cc (u))
  step-has (FillingEnd held size frame) (reply.Agg n) received u = u
  step-has (DroppingLastFrame frame chunk len) reply.Done received u = absurd (cc (u))
  step-has (ClosingPipe write) reply.Done received u =
      on-reading (ClosingPipe write) refl (only-from Failing (λ h. refl) u)
  step-has Failing reply.Done received u = absurd (cc (u))
  step-has other reply.Done received u = u
  step-has s r received u = u

pub run-ends : (worker : ℕ) (w : Wanted) (y : Running) (r : Reply) (received : List ℕ) (g : ℕ)
    → has_end (after_reply worker w y r received) g ≡ true
    → (has_end y g ≡ true) ⊎ (is_fds r g ≡ true)
run-ends worker w AwaitingWorker (reply.Fds from write) received g u = inr u
run-ends worker w (InProgress run s) r received g u = inl (step-has w run g s r received u)
run-ends worker w y r received g u = absurd (cc (u))

-- ---- the objects that a run uses exist

module _ (m : State) (a : ℕ) where
  at : (b : ℕ) → (b == a) ≡ true → (bytes : List ℕ) → readable_at m server b ≡ Some bytes → IsReadable m a
  at b is bytes readable = (bytes, ap (λ n. readable_at m server n) (sym (same-number b a is)) ∙ readable)

  two : (b : ℕ) (rest : Bool) → ((b == a) || rest) ≡ true → (bytes : List ℕ) → readable_at m server b ≡ Some bytes
      → (rest ≡ true → IsReadable m a) → IsReadable m a
  two b rest u bytes readable other =
      elim (one-of (b == a) rest u) [ inl is ↦ at b is bytes readable | inr is ↦ other is ]

  frame-there : (frame : Option ℕ) → has_frame frame a ≡ true → HasFrame m frame → IsReadable m a
  frame-there None u has = absurd (cc (u))
  frame-there (Some f) u has = at f u _ has

  held-there : (w : Wanted) (held : Following) (bytes : List ℕ) → has_followed held a ≡ true → IsHeld m w held bytes
      → IsReadable m a
  held-there w None bytes u has = absurd (cc (u))
  held-there w (Some x) bytes u has = at x.0 u bytes has.is_readable

  output-there : (w : Wanted) (held : Following) (frame : Option ℕ) (bytes : List ℕ)
      → (has_followed held a || has_frame frame a) ≡ true
      → HasOutput m w held frame bytes → IsReadable m a
  output-there w held frame bytes u has =
      elim (one-of (has_followed held a) (has_frame frame a) u) [
        | inl is ↦
            held-there w held bytes is has.holds
        | inr is ↦ frame-there frame is has.frames
      ]

  part-there : (w : Wanted) (o : Progress) (run : Run) (d : Phase) (frame : Option ℕ)
      → (conn.uses_agg d a || has_frame frame a) ≡ true
      → HasPart m w o run d frame → IsReadable m a
  part-there w o run d frame u has =
      elim (one-of (conn.uses_agg d a) (has_frame frame a) u) [
        | inl is ↦
            has-agg m (serve w) has.part d a is has.has
        | inr is ↦ frame-there frame is has.frames
      ]

  step-there : (job : ℕ → List ℕ) (w : Wanted) (o : Progress) (run : Run) (s : Step) → step_agg s a ≡ true
      → HasStep job m w o run s → IsReadable m a
  step-there job w o run (WritingJob j f) u has = at j u (job f) has.1
  step-there job w o run (DroppingJob j) u has = at j u has.1.0 has.1.1
  step-there job w o run (SendingPart d frame) u has = part-there w o run d frame u has
  step-there job w o run (ReadingOutput held frame) u has = output-there w held frame has.bytes u has.has
  step-there job w o run (DroppingOutput b frame) u has =
      two b (has_frame frame a) u has.0.0.0 has.0.0.1 (λ is. frame-there frame is has.1.has.frames)
  step-there job w o run (JoiningOutput held size piece len frame) u has =
      two held ((piece == a) || has_frame frame a) u has.bytes has.has.holds.is_readable
      (λ v. two piece (has_frame frame a) v has.more has.is_readable (λ is. frame-there frame is has.has.frames))
  step-there job w o run (MakingFrame held) u has = at held u has.bytes has.is_readable
  step-there job w o run (FillingFrame held frame) u has =
      two held (frame == a) u has.0.bytes has.0.is_readable (λ is. at frame is _ has.1)
  step-there job w o run (DroppingHeld held chunk len frame) u has =
      two held ((chunk == a) || (frame == a)) u has.0.0.0 has.0.0.1
      (λ v. part-there w o run (sends_part chunk len) (Some frame) (widen (chunk == a) (frame == a) v) has.1)
    where
      widen : (x y : Bool) → (x || y) ≡ true → ((x || false) || y) ≡ true
      widen true y v = refl
      widen false y v = v
  step-there job w o run (DroppingEnd b held frame) u has =
      two b (has_followed held a || has_frame frame a) u has.0.0.0 has.0.0.1
      (λ v. output-there w held frame has.2.bytes v has.2.has)
  step-there job w o run (DiscardingHeld held frame) u has =
      two held (has_frame frame a) u has.0.0.0 has.0.0.1 (λ is. frame-there frame is has.2.has.frames)
  step-there job w o run (ClosingOutput held frame) u has = output-there w held frame has.1.bytes u has.1.has
  step-there job w o run (DroppingFrame f held) u has =
      elim (one-of (f == a) (has_followed held a) u) [
        | inl is ↦ at f is _ has.has.frames
        | inr is ↦
            held-there w held has.bytes is has.has.holds
      ]
  step-there job w o run (MakingEnd held) u has = held-there w held has.2.bytes u has.2.has.holds
  step-there job w o run (FillingEnd held size frame) u has =
      two held (frame == a) u has.bytes has.holds.is_readable (λ is. at frame is _ has.frames)
  step-there job w o run (DroppingLast held chunk len frame) u has =
      two held ((chunk == a) || (frame == a)) u has.0.0.0 has.0.0.1
      (λ v. two chunk (frame == a) v has.2.bytes has.2.is_readable (λ is. at frame is has.1.0.0 has.1.0.1))
  step-there job w o run (DroppingLastFrame frame chunk len) u has =
      two frame (chunk == a) u has.0.0.0 has.0.0.1 (λ is. at chunk is has.1.bytes has.1.is_readable)
  step-there job w o run (DiscardingJob j) u has = at j u has.1.0 has.1.1
  step-there job w o run s u has = absurd (cc (u))

  left-there : (w : Wanted) (o : Progress) (d : Phase) → conn.uses_agg d a ≡ true → HasLeft m w o d → IsReadable m a
  left-there w o phase.Receiving u has = absurd (cc (u))
  left-there w o phase.Disconnecting u has = absurd (cc (u))
  left-there w o d u has = has-agg m (serve w) has.expected d a u has.has

  pub run-there : (job : ℕ → List ℕ) (w : Wanted) (o : Progress) (y : Running) → uses_agg y a ≡ true
      → HasRun job m w o y → IsReadable m a
  run-there job w o (InProgress run s) u has = step-there job w o run s u has.1
  run-there job w o (Finishing d) u has = left-there w o d u has
  run-there job w o x u has = absurd (cc (u))

-- an end of a pipe
abbrev pub IsEnd : State → (g : ℕ) → Type 0
IsEnd m g = (p : ℕ) × ((descriptor m server g ≡ Some (on.ReadEnd p)) ⊎ (descriptor m server g ≡ Some (on.WriteEnd p)))

module _ (m : State) (g : ℕ) where
  read-there : (f p : ℕ) → (f == g) ≡ true → descriptor m server f ≡ Some (on.ReadEnd p) → IsEnd m g
  read-there f p is there = (p, inl (ap (λ n. descriptor m server n) (sym (same-number f g is)) ∙ there))

  write-there : (f p : ℕ) → (f == g) ≡ true → descriptor m server f ≡ Some (on.WriteEnd p) → IsEnd m g
  write-there f p is there = (p, inr (ap (λ n. descriptor m server n) (sym (same-number f g is)) ∙ there))

  of-one : (x : Bool) → ((true && x) || false) ≡ true → x ≡ true
  of-one x u = bare x u

  step-end : (job : ℕ → List ℕ) (w : Wanted) (o : Progress) (run : Run) (s : Step) → ends_of run s g ≡ true
      → HasStep job m w o run s → IsEnd m g
  step-end job w o run (GivingPipe write) u has =
      elim (one-of (run.from == g) (write == g) u) [
        | inl is ↦
            read-there run.from has.0.pipe is has.0.read_end
        | inr is ↦ write-there write has.0.pipe is has.0.write_end
      ]
  step-end job w o run (ClosingPipe write) u has =
      elim (one-of (run.from == g) (write == g) u) [
        | inl is ↦
            read-there run.from has.0.pipe is has.0.read_end
        | inr is ↦ write-there write has.0.pipe is has.0.write_end
      ]
  step-end job w o run (MakingJob f) u has = read-there run.from has.0.0 (of-one (run.from == g) u) has.0.1
  step-end job w o run (WritingJob j f) u has = read-there run.from has.0.0 (of-one (run.from == g) u) has.0.1
  step-end job w o run (DroppingJob j) u has = read-there run.from has.0.0 (of-one (run.from == g) u) has.0.1
  step-end job w o run MakingHead u has = read-there run.from has.0.0 (of-one (run.from == g) u) has.0.1
  step-end job w o run (SendingPart d frame) u has =
      read-there run.from has.reads.0 (of-one (run.from == g) u) has.reads.1
  step-end job w o run (ReadingOutput held frame) u has =
      read-there run.from has.reads.0 (of-one (run.from == g) u) has.reads.1
  step-end job w o run (DroppingOutput b frame) u has =
      read-there run.from has.1.reads.0 (of-one (run.from == g) u) has.1.reads.1
  step-end job w o run (JoiningOutput held size piece len frame) u has =
      read-there run.from has.reads.0 (of-one (run.from == g) u) has.reads.1
  step-end job w o run (MakingFrame held) u has = read-there run.from has.reads.0 (of-one (run.from == g) u) has.reads.1
  step-end job w o run (FillingFrame held frame) u has =
      read-there run.from has.0.reads.0 (of-one (run.from == g) u) has.0.reads.1
  step-end job w o run (DroppingHeld held chunk len frame) u has =
      read-there run.from has.1.reads.0 (of-one (run.from == g) u) has.1.reads.1
  step-end job w o run (DroppingEnd b held frame) u has = read-there run.from has.1.0 (of-one (run.from == g) u) has.1.1
  step-end job w o run (DiscardingHeld held frame) u has =
      read-there run.from has.1.0 (of-one (run.from == g) u) has.1.1
  step-end job w o run (ClosingOutput held frame) u has = read-there run.from has.0.0 (of-one (run.from == g) u) has.0.1
  step-end job w o run (DiscardingJob j) u has = read-there run.from has.0.0 (of-one (run.from == g) u) has.0.1
  step-end job w o run Failing u has = read-there run.from has.0.0 (of-one (run.from == g) u) has.0.1
  step-end job w o run s u has = absurd (cc (u))

  pub run-end : (job : ℕ → List ℕ) (w : Wanted) (o : Progress) (y : Running) → has_end y g ≡ true → HasRun job m w o y
      → IsEnd m g
  run-end job w o (InProgress run s) u has = step-end job w o run s u has.1
  run-end job w o y u has = absurd (cc (u))
