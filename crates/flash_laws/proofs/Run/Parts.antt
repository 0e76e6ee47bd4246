-- A part of a script's response is sent by the phases of a file's response.
use Rattle.std.proofs.Common.{◌≡◌, ℕ, ◌-◌, ◌==◌, List, [], ap, ◌∙◌, refl, sym, subst, arith, Option, Some, None}
use Rattle.std.proofs.Common.{true, false, Bool}
use Rattle.std.specs.Prelude.{◌||◌, ◌&&◌, slice_range}
use Rattle.std.proofs.lemmas.Bool.{or_parts, or_from}
use Rattle.std.proofs.lemmas.Bool.Decides.{nat_tests}
use Rattle.iol_core.specs.State.{State, descriptor}
use Rattle.iol_core.specs.Calls.Writes.{is_file}
use Rattle.iol_core.specs.Run.{StepsTo}
use Rattle.iol_core.specs.Values.{gives_up}
use Rattle.iol_core.specs.declared.descriptors.Descriptor.{Descriptor}
use Rattle.iol_core.specs.declared.descriptors.Descriptor.TheVariants as on
use Rattle.iol_core.specs.declared.events.Call.{Call}
use Rattle.iol_core.specs.declared.events.Call.TheVariants as call
use Rattle.iol_core.specs.declared.events.Event.TheVariants as event
use Rattle.iol_core.specs.declared.events.Reply.{Reply}
use Rattle.iol_core.specs.declared.events.Reply.TheVariants as reply
use Rattle.iol_laws.specs.Frame.{EachStepLeavesTheRest, touches_fd}
use Rattle.iol_laws.specs.Order.{IsOrderly}
use Rattle.iol_laws.specs.Caller.{CallsServeTheirDomain, readable_at}
use Rattle.flash_http.specs.Request.{Wanted}
use Rattle.flash_laws.specs.Conn as conn
use Rattle.flash_laws.specs.Conn.{has_followed, piece_end, after_taking}
use Rattle.flash_laws.specs.Run.Fits.{Progress, Ran, HoldsBack, Continues, Goes, HasFrame, HasReceived, sends_frame}
use Rattle.flash_laws.specs.Run.Fits.{HasPart}
use Rattle.flash_laws.specs.Run.OfferedBytes.{takes_on}
use Rattle.flash_laws.specs.Run.{has_frame}
use Rattle.flash_laws.specs.Answers.Scripts.{frame_of}
use Rattle.flash_laws.specs.Site.{server}
use Rattle.flash_laws.specs.declared.phase.Sending.{Sending}
use Rattle.flash_laws.specs.declared.phase.Phase.{Phase}
use Rattle.flash_laws.specs.declared.phase.Phase.TheVariants as phase
use Rattle.flash_laws.specs.declared.script_run.TheConstants.{CHUNK_BYTES}
use Rattle.flash_laws.specs.declared.script_run.Run.{Run}
use Rattle.flash_laws.proofs.Conn.ReadableBytes.{readable-stays, new-other}
use Rattle.flash_laws.proofs.Lists.{not-equal, turned}
use Rattle.flash_laws.proofs.Run.Rest as left
use Rattle.flash_laws.proofs.Run.Rest.{SendsAll}
use Rattle.flash_laws.proofs.Run.Stays.{frame-on, reading-on}
use Rattle.flash_laws.proofs.Moves.{made, after-done, after-write, either-next}

-- a number that is not used differs from one that is used
pub other : (uses : ℕ → Bool) (b a : ℕ) → uses b ≡ false → uses a ≡ true → (b == a) ≡ false
other uses b a not_b is_a = not-equal b a (λ e. let p = ap uses e in absurd (cc (p, not_b, is_a)))

pub and-false : (b c : Bool) → c ≡ false → (b && c) ≡ false
and-false true c is = is
and-false false c is = refl

-- a call on a descriptor without a file moves no position
pub no-position : (m : State) (f g : ℕ) (x : Descriptor) → descriptor m server f ≡ Some x → is_file (Some x) ≡ false
    → ((f == g) && is_file (descriptor m server f)) ≡ false
no-position m f g x is no_file = and-false (f == g) (is_file (descriptor m server f)) (ap (λ d. is_file d) is ∙ no_file)

-- a new aggregate is not the frame
pub new-frame : (m : State) (frame : Option ℕ) (x : ℕ) → HasFrame m frame → readable_at m server x ≡ None
    → has_frame frame x ≡ false
new-frame m None x has new = refl
new-frame m (Some f) x has new = new-other m f x (frame_of CHUNK_BYTES) has new

sends-none : (d e : Phase) (frame : Option ℕ) → ((f : ℕ) → conn.uses_agg d f ≡ false → conn.uses_agg e f ≡ false)
    → sends_frame d frame ≡ false → sends_frame e frame ≡ false
sends-none d e None fewer apart = refl
sends-none d e (Some f) fewer apart = fewer f apart

-- likewise if the phase e also uses the piece
with-piece : (m : State) (piece : ℕ) (d e : Phase) (frame : Option ℕ)
    → ((f : ℕ) → (piece == f) ≡ false → conn.uses_agg d f ≡ false → conn.uses_agg e f ≡ false)
    → has_frame frame piece ≡ false → sends_frame d frame ≡ false → sends_frame e frame ≡ false
with-piece m piece d e None both new apart = refl
with-piece m piece d e (Some f) both new apart = both f (turned f piece new) apart

pub continued : (w : Wanted) (o : Progress) (part held : List ℕ) → Continues w o part held
    → HoldsBack w (takes_on o part) held
continued w (Ran received ended past) part held is = is
continued w x part held is = absurd is

pub proceeds-on : (b : Bool) (w : Wanted) (o : Progress) (held : List ℕ) → b ≡ false → HoldsBack w o held
    → Goes b w o held
proceeds-on true w o held is back = absurd (cc (is))
proceeds-on false w o held is back = back

module _ (steps : EachStepLeavesTheRest) (own : CallsServeTheirDomain) (m n : State) (order : IsOrderly m)
    (w : Wanted) (o : Progress) (run : Run) (frame : Option ℕ) where
  is_readable : (k : Call) (r : Reply) → StepsTo m (event.Call server k) r n → (a : ℕ) (bytes : List ℕ)
      → gives_up (event.Call server k) server a ≡ false → readable_at m server a ≡ Some bytes
      → readable_at n server a ≡ Some bytes
  is_readable k r step a bytes un is = readable-stays steps m n (event.Call server k) r step a bytes is un

  abbrev Apart : Phase → Type 0
  Apart e = sends_frame e frame ≡ false

  -- the read end and the frame stay
  fits : (k : Call) (r : Reply) → StepsTo m (event.Call server k) r n
      → touches_fd m (event.Call server k) server run.from ≡ false
      → ((f : ℕ) → has_frame frame f ≡ true → gives_up (event.Call server k) server f ≡ false)
      → (d e : Phase) (h : HasPart m w o run d frame) → SendsAll n w h.part e → sends_frame e frame ≡ false
      → HasPart n w o run e frame
  fits k r step still un d e h has apart = record {
    reads = reading-on m n run (λ x is. (steps.leaves m n (event.Call server k) r step).fds server run.from x is still)
        h.reads;
    frames = frame-on m n frame (λ a bytes u is. is_readable k r step a bytes (un a u) is) h.frames;
    part = h.part;
    is_part = has.1;
    has = has.0;
    within = has.2;
    apart = apart;
    whole = h.whole;
    continues = h.continues;
  }

  pub sends : (fd c : ℕ) (s : Sending) (r : Reply) → descriptor m server fd ≡ Some (on.Connection c)
      → HasPart m w o run (phase.SendingWhole s) frame → StepsTo m (event.Call server (call.IolWrite fd s.agg)) r n
      → HasPart n w o run (conn.after_send s r) frame
  sends fd c s r open_on h step =
      fits (call.IolWrite fd s.agg) r step (no-position m fd run.from (on.Connection c) open_on refl) (λ f u. refl)
      (phase.SendingWhole s) (conn.after_send s r) h
      (left.sends steps own m n order w h.part fd c s r open_on (h.has, h.is_part, h.within) step)
      (after-write Apart r h.apart (fewer (phase.Aborting s.agg s.more) (λ f is. is))
      (λ k. either-next Apart (after_taking s k) (fewer (phase.CuttingPiece (after_taking s k)) (λ f is. is))
      (fewer (phase.DroppingSent s.agg (after_taking s k).taken s.more) (λ f is. is))))
    where
      fewer : (e : Phase)
          → ((f : ℕ) → conn.uses_agg (phase.SendingWhole s) f ≡ false → conn.uses_agg e f ≡ false) → Apart e
      fewer e of = sends-none (phase.SendingWhole s) e frame of h.apart

  pub cuts : (s : Sending) (r : Reply) → HasPart m w o run (phase.CuttingPiece s) frame
      → StepsTo m (event.Call server (call.AggCut s.agg s.from (piece_end s))) r n
      → HasPart n w o run (conn.after_cut s r) frame
  cuts s r h step =
      fits (call.AggCut s.agg s.from (piece_end s)) r step refl (λ f u. refl) (phase.CuttingPiece s)
      (conn.after_cut s r) h
      (left.cuts steps own m n order w h.part s r (h.has, h.is_part, h.within) step)
      (made m n Apart (slice_range h.has.0.bytes s.from (piece_end s)) r
      (own.cut m n server s.agg s.from (piece_end s) h.has.0.bytes r order h.has.0.is_readable step) (λ same. h.apart)
      (λ x readable new. with-piece m x (phase.CuttingPiece s) (phase.SendingPiece s x) frame
      (λ f new is. or_from (x == f) ((s.agg == f) || has_followed s.more f) new is) (new-frame m frame x h.frames new)
      h.apart))

  pub offers : (fd c : ℕ) (s : Sending) (piece : ℕ) (r : Reply) → descriptor m server fd ≡ Some (on.Connection c)
      → HasPart m w o run (phase.SendingPiece s piece) frame
      → StepsTo m (event.Call server (call.IolWrite fd piece)) r n
      → HasPart n w o run (conn.after_offer s piece r) frame
  offers fd c s piece r open_on h step =
      fits (call.IolWrite fd piece) r step (no-position m fd run.from (on.Connection c) open_on refl) (λ f u. refl)
      (phase.SendingPiece s piece) (conn.after_offer s piece r) h
      (left.offers steps own m n order w h.part fd c s piece r open_on (h.has, h.is_part, h.within) step)
      (after-write Apart r h.apart (fewer (phase.AbortingPiece piece s.agg s.more) (λ f is. is))
      (λ k. fewer (phase.DroppingPiece (after_taking s k) piece) (λ f is. is)))
    where
      fewer : (e : Phase)
          → ((f : ℕ) → conn.uses_agg (phase.SendingPiece s piece) f ≡ false → conn.uses_agg e f ≡ false)
          → Apart e
      fewer e of = sends-none (phase.SendingPiece s piece) e frame of h.apart

  -- the aggregate that is dropped is not the frame
  not-frame : (b : ℕ) (d : Phase) → ((f : ℕ) → conn.uses_agg d f ≡ false → (b == f) ≡ false)
      → sends_frame d frame ≡ false
      → (f : ℕ) → has_frame frame f ≡ true → (b == f) ≡ false
  not-frame b d parts apart f is = by frame apart is
    where
      by : (frame : Option ℕ) → sends_frame d frame ≡ false → has_frame frame f ≡ true → (b == f) ≡ false
      by None apart is = absurd (cc (is))
      by (Some g) apart is = let e : g ≡ f = grind (arith, nat_tests, is) in
          subst (λ z. (b == z) ≡ false) e (parts g apart)

  pub swaps : (s : Sending) (piece : ℕ) (r : Reply)
      → HasPart m w o run (phase.DroppingPiece s piece) frame
      → StepsTo m (event.Call server (call.AggDrop piece)) r n
      → HasPart n w o run (conn.after_swap s piece r) frame
  swaps s piece r h step =
      fits (call.AggDrop piece) r step refl
      (not-frame piece (phase.DroppingPiece s piece)
      (λ f is. (or_parts (piece == f) ((s.agg == f) || has_followed s.more f) is).0) h.apart)
      (phase.DroppingPiece s piece) (conn.after_swap s piece r) h
      (left.swaps steps own m n order w h.part s piece r (h.has, h.is_part, h.within) step)
      (after-done Apart r h.apart
      (either-next Apart s (less (phase.CuttingPiece s) (λ f is. is))
      (less (phase.DroppingSent s.agg s.taken s.more) (λ f is. is))))
    where
      less : (e : Phase) → ((f : ℕ) → ((s.agg == f) || has_followed s.more f) ≡ false → conn.uses_agg e f ≡ false)
          → Apart e
      less e of =
          sends-none (phase.DroppingPiece s piece) e frame
          (λ f is. of f (or_parts (piece == f) ((s.agg == f) || has_followed s.more f) is).1) h.apart

  pub breaks : (piece a : ℕ) (r : Reply) → HasPart m w o run (phase.AbortingPiece piece a None) frame
      → StepsTo m (event.Call server (call.AggDrop piece)) r n
      → HasPart n w o run (conn.after_break piece a None r) frame
  breaks piece a r h step =
      fits (call.AggDrop piece) r step refl
      (not-frame piece (phase.AbortingPiece piece a None) (λ f is. (or_parts (piece == f) ((a == f) || false) is).0)
      h.apart)
      (phase.AbortingPiece piece a None) (conn.after_break piece a None r) h
      (left.breaks steps own m n order w h.part piece a r (h.has, h.is_part, h.within) step)
      (after-done Apart r h.apart
      (sends-none (phase.AbortingPiece piece a None) (phase.Aborting a None) frame
      (λ f is. (or_parts (piece == f) ((a == f) || false) is).1)
      h.apart))

  -- the part is dropped, output is read next, and the frame stays
  pub receives-again : (a : ℕ) (d : Phase) (after : Progress) (next : Run)
      → StepsTo m (event.Call server (call.AggDrop a)) reply.Done n
      → ((f : ℕ) → conn.uses_agg d f ≡ false → (a == f) ≡ false) → next.from ≡ run.from → Goes next.broken w after []
      → HasPart m w o run d frame → HasReceived n w after next None frame
  receives-again a d after next step uses same goes h = record {
    reads = subst (λ f. (p : ℕ) × (descriptor n server f ≡ Some (on.ReadEnd p))) (sym same)
        (reading-on m n run (λ x is. (steps.leaves m n (event.Call server (call.AggDrop a)) reply.Done step).fds server
        run.from x is refl) h.reads);
    bytes = [];
    has =
        record {
          holds = refl;
          frames =
              frame-on m n frame
              (λ b bytes u is. is_readable (call.AggDrop a) reply.Done step b bytes (not-frame a d uses h.apart b u) is)
              h.frames;
          apart = refl;
        };
    goes = goes;
  }
