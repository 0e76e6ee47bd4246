-- The objects that a phase uses, before its call and after the reply.
use Rattle.std.proofs.Common.{inl, inr, ◌≡◌, ℕ, ◌+◌, ◌==◌, ◌⊎◌, List, [], ◌∷◌, ap, ◌∙◌, refl, sym, arith, Some, None}
use Rattle.std.proofs.Common.{true, false, Bool, if◌then◌else◌}
use Rattle.std.specs.Prelude.{nat_le, ◌||◌, slice_range}
use Rattle.std.proofs.lemmas.Bool.Decides.{nat_tests}
use Rattle.iol_core.specs.State.{State, descriptor}
use Rattle.iol_core.specs.Values.{gives_up}
use Rattle.iol_laws.specs.Caller.{readable_at, is_agg, is_fd, gives_away}
use Rattle.iol_core.specs.declared.limits.TheConstants.{MAX_AGGREGATE_BYTES}
use Rattle.iol_core.specs.declared.descriptors.Descriptor.TheVariants as on
use Rattle.iol_core.specs.declared.descriptors.Mode.TheVariants as modes
use Rattle.iol_core.specs.declared.refusals.Refusal.TheVariants as no
use Rattle.iol_core.specs.declared.events.Call.TheVariants as call
use Rattle.iol_core.specs.declared.events.Event.TheVariants as event
use Rattle.iol_core.specs.declared.events.Reply.{Reply}
use Rattle.iol_core.specs.declared.events.Reply.TheVariants as reply
use Rattle.flash_http.specs.declared.ranges.Selection.{Selection}
use Rattle.flash_http.specs.declared.ranges.Selection.TheVariants.{Bytes, Unsatisfiable}
use Rattle.flash_http.specs.Range.{selected}
use Rattle.flash_http.specs.Request.{Answer, serve, refuse}
use Rattle.flash_laws.specs.Answers.{keeps}
use Rattle.flash_laws.specs.Conn.{Following, has_followed, file_result_agg, content_agg, uses_agg, uses_fd}
use Rattle.flash_laws.specs.Conn.{is_head_only, most_read, piece_end, count_of, next_call, sends_of, resolved}
use Rattle.flash_laws.specs.Conn.{following}
use Rattle.flash_laws.specs.Conn.{headed, proceeds, drops_next, after_reply, after_receive, begins}
use Rattle.flash_laws.specs.Conn.{after_taking, next_piece, whole}
use Rattle.flash_laws.specs.declared.phase.FileResult.{FileResult}
use Rattle.flash_laws.specs.declared.phase.FileResult.TheVariants.{File, Length, Fails, Text as TextOf}
use Rattle.flash_laws.specs.declared.phase.Payload.{Payload}
use Rattle.flash_laws.specs.declared.phase.Payload.TheVariants.{Body}
use Rattle.flash_laws.specs.declared.phase.Sending.{Sending}
use Rattle.flash_laws.specs.declared.phase.Phase.{Phase}
use Rattle.flash_laws.specs.declared.phase.Phase.TheVariants.{Receiving, DroppingInput, Opening, Reading as Reading}
use Rattle.flash_laws.specs.declared.phase.Phase.TheVariants.{ClosingFile, Slicing, DroppingWhole}
use Rattle.flash_laws.specs.declared.phase.Phase.TheVariants.{MakingHead, Joining, SendingWhole, CuttingPiece}
use Rattle.flash_laws.specs.declared.phase.Phase.TheVariants.{SendingPiece, DroppingPiece, DroppingSent, AbortingPiece}
use Rattle.flash_laws.specs.declared.phase.Phase.TheVariants.{Aborting, Disconnecting, Closed}
use Rattle.flash_laws.specs.Conn.Fits.{IsReadable, MoreIsReadable, HasContent, HasFileResult, Has}
use Rattle.flash_laws.specs.Conn.Fits.{HoldsRestFrom}
use Rattle.flash_laws.specs.Site.{server}
use Rattle.flash_laws.proofs.Forms.{at}
use Rattle.flash_laws.proofs.Lists.{clash, later_of, bare}
use Rattle.iol_core.specs.declared.events.Call.{Call}
use Rattle.flash_laws.proofs.Moves.{either-way, either-next}

pub one-of : (a b : Bool) → (a || b) ≡ true → (a ≡ true) ⊎ (b ≡ true)
one-of true b u = inl refl
one-of false b u = inr u

pub same-number : (a b : ℕ) → (a == b) ≡ true → a ≡ b
same-number a b is = grind (arith, nat_tests, is)

-- a call gives up only aggregates that its connection uses
pub gives-call : (fd : ℕ) (buffered : List ℕ) (q : Answer) (d : Phase) (a : ℕ)
    → gives_up (event.Call server (next_call fd (at buffered q d))) server a ≡ true → uses_agg d a ≡ true
gives-call fd buffered q (DroppingInput b) a is = is
gives-call fd buffered q (Reading f) a is = absurd (by (is_head_only q) is)
  where
    by : (b : Bool) → gives_up (event.Call server (if b then call.Length f else call.IolRead f most_read)) server a
        ≡ true
        → ⊥
    by true is = cc
    by false is = cc
gives-call fd buffered q (DroppingWhole b k) a is = grind (arith, is)
gives-call fd buffered q (Joining b size body len) a is = grind (arith, is)
gives-call fd buffered q (DroppingPiece s piece) a is = grind (arith, is)
gives-call fd buffered q (DroppingSent b taken more) a is = grind (arith, is)
gives-call fd buffered q (AbortingPiece piece b more) a is = grind (arith, is)
gives-call fd buffered q (Aborting b more) a is = grind (arith, is)
gives-call fd buffered q d a is = absurd (cc)

-- no call gives an object to another domain
pub no-more : (fd : ℕ) (buffered : List ℕ) (q : Answer) (d : Phase)
    → gives_away (next_call fd (at buffered q d)) ≡ false
no-more fd buffered q (Reading f) = either-way (λ (k : Call). gives_away k ≡ false) (is_head_only q) refl refl
no-more fd buffered q d = refl

-- After the reply a phase uses only aggregates that it used before, or that the reply names.

abbrev Uses : Phase → Reply → Phase → (a : ℕ) → Type 0
Uses d r after a = uses_agg after a ≡ true → (uses_agg d a ≡ true) ⊎ (is_agg r a ≡ true)

uses-rests : (buffered : List ℕ) (q : Answer) (r : Reply) (received : List ℕ) (a : ℕ)
    → Uses Receiving r (after_receive buffered q r received).phase a
uses-rests buffered q (reply.Agg n) [] a u = inr (bare (n == a) u)
uses-rests buffered q (reply.Agg n) (b ∷ received) a u = inr u
uses-rests buffered q r received a u = absurd (cc)

uses-resolved : (q : Answer) (g : ℕ) (k : FileResult) (a : ℕ) → uses_agg (resolved q k) a ≡ true
    → file_result_agg k a ≡ true
uses-resolved (serve w) g (File b len) a u = by (selected w.range len) u
  where
    by : (sel : Selection) → uses_agg (sends_of sel b len) a ≡ true → (b == a) ≡ true
    by Unsatisfiable u = bare (b == a) u
    by x u = u
uses-resolved (refuse status head_only close) g (File b len) a u = u
uses-resolved (serve w) g (Length len) a u = absurd (cc)
uses-resolved (refuse status head_only close) g (Length len) a u = absurd (cc)
uses-resolved (serve w) g (Fails status) a u = absurd (cc)
uses-resolved (refuse status head_only close) g (Fails was) a u = absurd (cc)
uses-resolved (serve w) g (TextOf b true) a u = bare (b == a) u
uses-resolved (serve w) g (TextOf b false) a u = bare (b == a) u
uses-resolved (refuse status head_only close) g (TextOf b true) a u = bare (b == a) u
uses-resolved (refuse status head_only close) g (TextOf b false) a u = bare (b == a) u

uses-following : (k : Payload) (a : ℕ) → has_followed (following k) a ≡ true → content_agg k a ≡ true
uses-following (Body b size len) a u = u
uses-following k a u = absurd (cc)

uses-headed : (n size : ℕ) (more : Following) (a : ℕ) → uses_agg (headed n size more) a ≡ true
    → ((n == a) || has_followed more a) ≡ true
uses-headed n size None a u = u
uses-headed n size (Some x) a u = by (nat_le (size + x.1) MAX_AGGREGATE_BYTES) u
  where
    by : (t : Bool) → uses_agg (if t then Joining n size x.0 x.1 else SendingWhole (whole n size 0 (Some x))) a ≡ true
        → ((n == a) || (x.0 == a)) ≡ true
    by true u = u
    by false u = u

uses-proceeds : (q : Answer) (b taken : ℕ) (more : Following) (a : ℕ)
    → uses_agg (proceeds q taken more) a ≡ true → ((b == a) || has_followed more a) ≡ true
uses-proceeds q b taken (Some x) a u = later_of (b == a) (x.0 == a) (bare (x.0 == a) u)
uses-proceeds q b taken None a u = by (keeps q) u
  where
    by : (t : Bool) → uses_agg (if t then Receiving else Disconnecting) a ≡ true → ((b == a) || false) ≡ true
    by true u = absurd (cc)
    by false u = absurd (cc)

uses-drops : (b : ℕ) (more : Following) (a : ℕ) → uses_agg (drops_next more) a ≡ true
    → ((b == a) || has_followed more a) ≡ true
uses-drops b (Some x) a u = later_of (b == a) (x.0 == a) (bare (x.0 == a) u)
uses-drops b None a u = absurd (cc)

pub next-uses : (s : Sending) (a : ℕ) → uses_agg (next_piece s) a ≡ ((s.agg == a) || has_followed s.more a)
next-uses s a = either-next (λ (e : Phase). uses_agg e a ≡ ((s.agg == a) || has_followed s.more a)) s refl refl

next-no_fd : (s : Sending) (g : ℕ) → uses_fd (next_piece s) g ≡ false
next-no_fd s g = either-next (λ (e : Phase). uses_fd e g ≡ false) s refl refl

pub uses-after_reply : (buffered : List ℕ) (q : Answer) (d : Phase) (r : Reply) (received : List ℕ) (a : ℕ)
    → Uses d r (after_reply (at buffered q d) r received).phase a
uses-after_reply buffered q Receiving r received a u = uses-rests buffered q r received a u
uses-after_reply buffered q (DroppingInput b) reply.Done received a u = absurd (cc)
uses-after_reply buffered q Opening (reply.Fd f) received a u = absurd (cc)
uses-after_reply buffered q Opening (reply.Refused no.WouldBlock) received a u = absurd (cc)
uses-after_reply buffered q Opening (reply.Refused x) received a u = absurd (cc)
uses-after_reply buffered q Opening r received a u = absurd (cc)
uses-after_reply buffered q (Reading f) (reply.Agg n) received a u = inr u
uses-after_reply buffered q (Reading f) (reply.Count n) received a u = absurd (cc)
uses-after_reply buffered q (Reading f) (reply.Refused no.WouldBlock) received a u = absurd (cc)
uses-after_reply buffered q (Reading f) (reply.Refused x) received a u = absurd (cc)
uses-after_reply buffered q (Reading f) r received a u = absurd (cc)
uses-after_reply buffered q (ClosingFile f k) reply.Done received a u = inl (uses-resolved q f k a u)
uses-after_reply buffered q (Slicing b first last len) (reply.Agg n) received a u =
    elim (one-of (b == a) (n == a) u) [ inl is ↦ inl is | inr is ↦ inr is ]
uses-after_reply buffered q (DroppingWhole b k) reply.Done received a u = inl (later_of (b == a) (content_agg k a) u)
uses-after_reply buffered q (MakingHead k) (reply.Agg n) received a u =
    elim (one-of (n == a) (has_followed (following k) a) (uses-headed n (count_of received) (following k) a u)) [
      | inl
          is ↦ inr is
      | inr is ↦ inl (uses-following k a is)
    ]
uses-after_reply buffered q (Joining b size body len) (reply.Agg n) received a u = inr (bare (n == a) u)
uses-after_reply buffered q (SendingWhole s) (reply.Count k) received a u =
    inl (sym (next-uses (after_taking s k) a) ∙ u)
uses-after_reply buffered q (SendingWhole s) (reply.Refused no.BrokenPipe) received a u = inl u
uses-after_reply buffered q (CuttingPiece s) (reply.Agg n) received a u =
    elim (one-of (n == a) ((s.agg == a) || has_followed s.more a) u) [ inl new ↦ inr new | inr old ↦ inl old ]
uses-after_reply buffered q (SendingPiece s piece) (reply.Count k) received a u = inl u
uses-after_reply buffered q (SendingPiece s piece) (reply.Refused no.BrokenPipe) received a u = inl u
uses-after_reply buffered q (DroppingPiece s piece) reply.Done received a u =
    inl (later_of (piece == a) ((s.agg == a) || has_followed s.more a) (sym (next-uses s a) ∙ u))
uses-after_reply buffered q (DroppingSent b taken more) reply.Done received a u = inl (uses-proceeds q b taken more a u)
uses-after_reply buffered q (AbortingPiece piece b more) reply.Done received a u =
    inl (later_of (piece == a) ((b == a) || has_followed more a) u)
uses-after_reply buffered q (Aborting b more) reply.Done received a u = inl (uses-drops b more a u)
uses-after_reply buffered q Disconnecting reply.Done received a u = absurd (cc)
uses-after_reply buffered q d r received a u = inl u

abbrev UsesFd : Phase → Reply → Phase → (g : ℕ) → Type 0
UsesFd d r after g = uses_fd after g ≡ true → (uses_fd d g ≡ true) ⊎ (is_fd r g ≡ true)

uses_fd-rests : (buffered : List ℕ) (q : Answer) (r : Reply) (received : List ℕ) (g : ℕ)
    → UsesFd Receiving r (after_receive buffered q r received).phase g
uses_fd-rests buffered q (reply.Agg n) [] g u = absurd (cc)
uses_fd-rests buffered q (reply.Agg n) (b ∷ received) g u = absurd (cc)
uses_fd-rests buffered q r received g u = absurd (cc)

no_fd-resolved : (q : Answer) (k : FileResult) (g : ℕ) → uses_fd (resolved q k) g ≡ false
no_fd-resolved (serve w) (File b len) g = by (selected w.range len)
  where
    by : (sel : Selection) → uses_fd (sends_of sel b len) g ≡ false
    by (Bytes first last) = refl
    by x = refl
no_fd-resolved (refuse status head_only close) (File b len) g = refl
no_fd-resolved q k g = refl

no_fd-headed : (n size : ℕ) (more : Following) (g : ℕ) → uses_fd (headed n size more) g ≡ false
no_fd-headed n size None g = refl
no_fd-headed n size (Some x) g =
    either-way (λ (e : Phase). uses_fd e g ≡ false) (nat_le (size + x.1) MAX_AGGREGATE_BYTES) refl refl

no_fd-proceeds : (q : Answer) (taken : ℕ) (more : Following) (g : ℕ) → uses_fd (proceeds q taken more) g ≡ false
no_fd-proceeds q taken (Some x) g = refl
no_fd-proceeds q taken None g = either-way (λ (e : Phase). uses_fd e g ≡ false) (keeps q) refl refl

no_fd-drops : (more : Following) (g : ℕ) → uses_fd (drops_next more) g ≡ false
no_fd-drops (Some x) g = refl
no_fd-drops None g = refl

pub uses_fd-after_reply : (buffered : List ℕ) (q : Answer) (d : Phase) (r : Reply) (received : List ℕ) (g : ℕ)
    → UsesFd d r (after_reply (at buffered q d) r received).phase g
uses_fd-after_reply buffered q Receiving r received g u = uses_fd-rests buffered q r received g u
uses_fd-after_reply buffered q (DroppingInput b) reply.Done received g u = absurd (cc)
uses_fd-after_reply buffered q Opening (reply.Fd f) received g u = inr u
uses_fd-after_reply buffered q Opening (reply.Refused no.WouldBlock) received g u = absurd (cc)
uses_fd-after_reply buffered q Opening (reply.Refused x) received g u = absurd (cc)
uses_fd-after_reply buffered q Opening r received g u = absurd (cc)
uses_fd-after_reply buffered q (Reading f) (reply.Agg n) received g u = inl u
uses_fd-after_reply buffered q (Reading f) (reply.Count n) received g u = inl u
uses_fd-after_reply buffered q (Reading f) (reply.Refused no.WouldBlock) received g u = inl u
uses_fd-after_reply buffered q (Reading f) (reply.Refused x) received g u = inl u
uses_fd-after_reply buffered q (ClosingFile f k) reply.Done received g u =
    absurd (clash (uses_fd (resolved q k) g) u (no_fd-resolved q k g))
uses_fd-after_reply buffered q (Slicing b first last len) (reply.Agg n) received g u = absurd (cc)
uses_fd-after_reply buffered q (DroppingWhole b k) reply.Done received g u = absurd (cc)
uses_fd-after_reply buffered q (MakingHead k) (reply.Agg n) received g u =
    absurd
    (clash (uses_fd (headed n (count_of received) (following k)) g) u
    (no_fd-headed n (count_of received) (following k) g))
uses_fd-after_reply buffered q (Joining b size body len) (reply.Agg n) received g u = absurd (cc)
uses_fd-after_reply buffered q (SendingWhole s) (reply.Count k) received g u =
    absurd (clash (uses_fd (next_piece (after_taking s k)) g) u (next-no_fd (after_taking s k) g))
uses_fd-after_reply buffered q (SendingWhole s) (reply.Refused no.BrokenPipe) received g u = absurd (cc)
uses_fd-after_reply buffered q (CuttingPiece s) (reply.Agg n) received g u = absurd (cc)
uses_fd-after_reply buffered q (SendingPiece s piece) (reply.Count k) received g u = absurd (cc)
uses_fd-after_reply buffered q (SendingPiece s piece) (reply.Refused no.BrokenPipe) received g u = absurd (cc)
uses_fd-after_reply buffered q (DroppingPiece s piece) reply.Done received g u =
    absurd (clash (uses_fd (next_piece s) g) u (next-no_fd s g))
uses_fd-after_reply buffered q (DroppingSent b taken more) reply.Done received g u =
    absurd (clash (uses_fd (proceeds q taken more) g) u (no_fd-proceeds q taken more g))
uses_fd-after_reply buffered q (AbortingPiece piece b more) reply.Done received g u = absurd (cc)
uses_fd-after_reply buffered q (Aborting b more) reply.Done received g u =
    absurd (clash (uses_fd (drops_next more) g) u (no_fd-drops more g))
uses_fd-after_reply buffered q Disconnecting reply.Done received g u = absurd (cc)
uses_fd-after_reply buffered q d r received g u = inl u

pub begins-none : (q : Answer) (a : ℕ) → uses_agg (begins q) a ≡ false
begins-none (serve w) a = refl
begins-none (refuse status head_only close) a = refl

pub begins-no_fd : (q : Answer) (g : ℕ) → uses_fd (begins q) g ≡ false
begins-no_fd (serve w) g = refl
begins-no_fd (refuse status head_only close) g = refl

-- The aggregates that a connection uses are readable.

at-number : (m : State) (b a : ℕ) → (b == a) ≡ true → (bytes : List ℕ) → readable_at m server b ≡ Some bytes
    → IsReadable m a
at-number m b a is bytes readable = (bytes, ap (λ n. readable_at m server n) (sym (same-number b a is)) ∙ readable)

at-following : (m : State) (more : Following) (bytes : List ℕ) (a : ℕ) → has_followed more a ≡ true
    → MoreIsReadable m more bytes → IsReadable m a
at-following m None bytes a u is = absurd (cc)
at-following m (Some x) bytes a u is = at-number m x.0 a u bytes is.0

at-content : (m : State) (q : Answer) (expected : List ℕ) (k : Payload) (a : ℕ) → content_agg k a ≡ true
    → HasContent m q expected k → IsReadable m a
at-content m q expected (Body b size len) a u h = at-number m b a u h.bytes h.is_readable
at-content m q expected k a u h = absurd (cc)

at-file_result : (m : State) (q : Answer) (expected : List ℕ) (k : FileResult) (a : ℕ) → file_result_agg k a ≡ true
    → HasFileResult m q expected k → IsReadable m a
at-file_result m (serve w) expected (File b len) a u h = at-number m b a u h.bytes h.is_readable
at-file_result m (refuse status head_only close) expected (File b len) a u h = absurd h
at-file_result m q expected (TextOf b runs) a u h = at-number m b a u h.0.0 h.0.1
at-file_result m q expected x a u h = absurd (cc)

two : (m : State) (b : ℕ) (rest : Bool) (a : ℕ) → ((b == a) || rest) ≡ true → (bytes : List ℕ)
    → readable_at m server b ≡ Some bytes → (rest ≡ true → IsReadable m a) → IsReadable m a
two m b rest a u bytes readable other =
    elim (one-of (b == a) rest u) [ inl is ↦ at-number m b a is bytes readable | inr is ↦ other is ]

at-rest : (m : State) (expected : List ℕ) (s : Sending) (a : ℕ) → ((s.agg == a) || has_followed s.more a) ≡ true
    → HoldsRestFrom m expected s → IsReadable m a
at-rest m expected s a u h =
    two m s.agg (has_followed s.more a) a u h.bytes h.is_readable (λ is. at-following m s.more h.after a is h.follows)

pub has-agg : (m : State) (q : Answer) (expected : List ℕ) (d : Phase) (a : ℕ) → uses_agg d a ≡ true
    → Has m q expected d → IsReadable m a
has-agg m q expected (DroppingInput b) a u has = at-number m b a u has.0 has.1
has-agg m q expected (ClosingFile f k) a u has = at-file_result m q expected k a u has.1
has-agg m q expected (Slicing b first last len) a u has = at-number m b a u has.bytes has.is_readable
has-agg m q expected (DroppingWhole b k) a u has =
    two m b (content_agg k a) a u has.0.0 has.0.1 (λ is. at-content m q expected k a is has.2)
has-agg m q expected (MakingHead k) a u has = at-content m q expected k a u has
has-agg m q expected (Joining b size body len) a u has =
    two m b (body == a) a u has.0.bytes has.0.is_readable (λ is. at-number m body a is has.0.after has.0.follows.0)
has-agg m q expected (SendingWhole s) a u has = at-rest m expected s a u has.0
has-agg m q expected (CuttingPiece s) a u has = at-rest m expected s a u has.0
has-agg m q expected (SendingPiece s piece) a u has =
    two m piece ((s.agg == a) || has_followed s.more a) a u (slice_range has.whole.bytes s.from (piece_end s))
    has.is_readable (λ v. at-rest m expected s a v has.whole)
has-agg m q expected (DroppingPiece s piece) a u has =
    two m piece ((s.agg == a) || has_followed s.more a) a u has.0.0 has.0.1 (λ v. at-rest m expected s a v has.2)
has-agg m q expected (DroppingSent b taken more) a u has =
    two m b (has_followed more a) a u has.bytes has.is_readable (λ is. at-following m more has.after a is has.follows)
has-agg m q expected (AbortingPiece piece b more) a u has =
    two m piece ((b == a) || has_followed more a) a u has.0.0 has.0.1
    (λ v. two m b (has_followed more a) a v has.2.readable.0 has.2.readable.1
    (λ is. at-following m more has.2.after a is has.2.follows))
has-agg m q expected (Aborting b more) a u has =
    two m b (has_followed more a) a u has.readable.0 has.readable.1
    (λ is. at-following m more has.after a is has.follows)
has-agg m q expected Closed a u has = absurd has
has-agg m q expected d a u has = absurd (cc)

pub has-fd : (m : State) (q : Answer) (expected : List ℕ) (d : Phase) (g : ℕ) → uses_fd d g ≡ true
    → Has m q expected d → (f pos : ℕ) × (descriptor m server g ≡ Some (on.File f pos modes.Read))
has-fd m q expected (Reading f) g u has =
    (has.1.0, has.1.1, ap (λ n. descriptor m server n) (sym (same-number f g u)) ∙ has.1.2)
has-fd m q expected (ClosingFile f k) g u has =
    (has.0.0, has.0.1, ap (λ n. descriptor m server n) (sym (same-number f g u)) ∙ has.0.2)
has-fd m q expected Closed g u has = absurd has
has-fd m q expected d g u has = absurd (cc)
