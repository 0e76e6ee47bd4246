-- The server's data of its responses remains, if the objects that it uses remain.
use Rattle.std.proofs.Common.{◌≡◌, ℕ, ◌==◌, List, [], ◌++◌, drop, ap, ◌∙◌, refl, sym, arith}
use Rattle.std.proofs.Common.{Option, Some, None, true, false}
use Rattle.std.specs.Prelude.{option_map, ◌||◌, slice_range}
use Rattle.std.proofs.lemmas.Bool.Decides.{nat_tests}
use Rattle.iol_core.specs.Text.{Text, bytes_of}
use Rattle.iol_core.specs.NumberedLists.{numbered_or}
use Rattle.iol_core.specs.State.{State, File as FileEntry, no_file, aggregate, descriptor, content, file}
use Rattle.iol_core.specs.Run.{StepsTo}
use Rattle.iol_core.specs.Values.{gives_up}
use Rattle.iol_core.specs.declared.descriptors.Descriptor.{Descriptor}
use Rattle.iol_core.specs.declared.descriptors.Descriptor.TheVariants as on
use Rattle.iol_core.specs.declared.descriptors.Mode.TheVariants as modes
use Rattle.iol_core.specs.declared.events.Event.{Event}
use Rattle.iol_core.specs.declared.events.Reply.{Reply}
use Rattle.iol_laws.specs.Caller.{readable_at}
use Rattle.iol_laws.specs.Frame.{EachStepLeavesTheRest}
use Rattle.flash_http.specs.Request.{Answer, serve, refuse}
use Rattle.flash_laws.specs.Conn.{Following, has_followed, file_result_agg, content_agg, uses_agg, uses_fd, piece_end}
use Rattle.flash_laws.specs.Conn.{text_of, whole}
use Rattle.flash_laws.specs.declared.phase.FileResult.{FileResult}
use Rattle.flash_laws.specs.declared.phase.FileResult.TheVariants.{File, Text as TextOf}
use Rattle.flash_laws.specs.declared.phase.Payload.{Payload}
use Rattle.flash_laws.specs.declared.phase.Payload.TheVariants.{Body}
use Rattle.flash_laws.specs.declared.phase.Sending.{Sending}
use Rattle.flash_laws.specs.declared.phase.Phase.{Phase}
use Rattle.flash_laws.specs.declared.phase.Phase.TheVariants.{DroppingInput, Opening, Reading as Reading, ClosingFile}
use Rattle.flash_laws.specs.declared.phase.Phase.TheVariants.{Slicing, DroppingWhole, MakingHead}
use Rattle.flash_laws.specs.declared.phase.Phase.TheVariants.{Joining, SendingWhole, CuttingPiece, SendingPiece}
use Rattle.flash_laws.specs.declared.phase.Phase.TheVariants.{DroppingPiece, DroppingSent, AbortingPiece, Aborting}
use Rattle.flash_laws.specs.declared.phase.Phase.TheVariants.{Closed}
use Rattle.flash_laws.specs.Conn.Fits.{IsReadable, MoreIsReadable, HoldsRestFrom, HoldsUnsent, HasFileResult}
use Rattle.flash_laws.specs.Conn.Fits.{HasContent, Has}
use Rattle.flash_laws.specs.Site.{server}
use Rattle.flash_laws.proofs.Lists.{not-equal, self, first_of, later_of}

-- the head depends on the length of the file, not on the aggregate of the body
pub text-same : (q : Answer) (a b s t len : ℕ) → text_of q (Body a s len) ≡ text_of q (Body b t len)
text-same (serve w) a b s t len = refl
text-same (refuse status head_only close) a b s t len = refl

pub file-same : (m n : State) (f : ℕ) → n.files ≡ m.files → file n f ≡ file m f
unfolding file
file-same m n f same = ap (λ (fs : List FileEntry). numbered_or fs f no_file) same

pub content-same : (m n : State) (f : ℕ) → n.slots ≡ m.slots → content n f ≡ content m f
unfolding content
content-same m n f same = ap (λ (ss : List (List ℕ)). numbered_or ss f []) same

-- an aggregate that the server does not give up is still readable, with the same bytes
pub readable-stays : (steps : EachStepLeavesTheRest) (m n : State) (e : Event) (r : Reply) → StepsTo m e r n
    → (a : ℕ) (bytes : List ℕ) → readable_at m server a ≡ Some bytes → gives_up e server a ≡ false
    → readable_at n server a ≡ Some bytes
readable-stays steps m n e r step a bytes is un = by (aggregate m server a) refl
  where
    by : (x : Option Text) → aggregate m server a ≡ x → readable_at n server a ≡ Some bytes
    by None none = (let e = sym (ap (λ (t : Option Text). option_map bytes_of t) none) ∙ is in absurd (cc))
    by (Some t) some =
        ap (λ (y : Option Text). option_map bytes_of y) ((steps.values m n e r step).each server a t some un)
        ∙ (sym (ap (λ (y : Option Text). option_map bytes_of y) some) ∙ is)

-- the number of a new aggregate differs from that of each readable one
pub new-other : (m : State) (a x : ℕ) (bytes : List ℕ) → readable_at m server a ≡ Some bytes
    → readable_at m server x ≡ None → (a == x) ≡ false
new-other m a x bytes is none =
    not-equal a x (λ same. let e = ap (λ k. readable_at m server k) same in absurd (cc (e, is, none)))

pub new-follows : (m : State) (more : Following) (bytes : List ℕ) (x : ℕ) → MoreIsReadable m more bytes
    → readable_at m server x ≡ None → has_followed more x ≡ false
new-follows m None bytes x is none = refl
new-follows m (Some y) bytes x is none = new-other m y.0 x bytes is.0 none

pub follows-stay : (m n : State) (more : Following) (bytes : List ℕ) → ((a : ℕ) (l : List ℕ)
    → has_followed more a ≡ true → readable_at m server a ≡ Some l → readable_at n server a ≡ Some l)
    → MoreIsReadable m more bytes → MoreIsReadable n more bytes
follows-stay m n None bytes stays is = is
follows-stay m n (Some x) bytes stays is = (stays x.0 bytes (grind (arith, nat_tests)) is.0, is.1)

abbrev IsReadableOn : State → State → Phase → Type 0
IsReadableOn m n d = (a : ℕ) (bytes : List ℕ) → uses_agg d a ≡ true → readable_at m server a ≡ Some bytes
    → readable_at n server a ≡ Some bytes

abbrev OpensOn : State → State → Phase → Type 0
OpensOn m n d = (g : ℕ) (x : Descriptor) → uses_fd d g ≡ true → descriptor m server g ≡ Some x
    → descriptor n server g ≡ Some x

abbrev KeepsFollowing : State → State → Following → Type 0
KeepsFollowing m n more = (a : ℕ) (bytes : List ℕ) → has_followed more a ≡ true → readable_at m server a ≡ Some bytes
    → readable_at n server a ≡ Some bytes

pub readable-on : (m n : State) (a : ℕ) → ((bytes : List ℕ) → readable_at m server a ≡ Some bytes
    → readable_at n server a ≡ Some bytes) → IsReadable m a → IsReadable n a
readable-on m n a stays is = (is.0, stays is.0 is.1)

file_result-on : (m n : State) (q : Answer) (expected : List ℕ) (k : FileResult) → ((a : ℕ) (bytes : List ℕ)
    → file_result_agg k a ≡ true → readable_at m server a ≡ Some bytes → readable_at n server a ≡ Some bytes)
    → HasFileResult m q expected k → HasFileResult n q expected k
file_result-on m n (serve w) expected (File a len) is_readable h =
    record {
      bytes = h.bytes;
      is_readable = is_readable a h.bytes (self a) h.is_readable;
      count = h.count;
      whole = h.whole;
      expected_is = h.expected_is;
    }
file_result-on m n (refuse status head_only close) expected (File a len) is_readable h = h
file_result-on m n q expected (TextOf a runs) is_readable h =
    (readable-on m n a (λ l is. is_readable a l (self a) is) h.0, h.1)
file_result-on m n q expected x is_readable h = h

pub content-on : (m n : State) (q : Answer) (expected : List ℕ) (k : Payload) → ((a : ℕ) (bytes : List ℕ)
    → content_agg k a ≡ true → readable_at m server a ≡ Some bytes → readable_at n server a ≡ Some bytes)
    → HasContent m q expected k → HasContent n q expected k
content-on m n q expected (Body a size len) is_readable h =
    record {
      bytes = h.bytes;
      is_readable = is_readable a h.bytes (self a) h.is_readable;
      count = h.count;
      expected_is = h.expected_is;
    }
content-on m n q expected k is_readable h = h

-- the rest of a response that is being sent stays, if its aggregates do
abbrev pub rest-on : (m n : State) (expected : List ℕ) (s : Sending) → ((a : ℕ) (bytes : List ℕ)
    → ((s.agg == a) || has_followed s.more a) ≡ true → readable_at m server a ≡ Some bytes
    → readable_at n server a ≡ Some bytes) → HoldsRestFrom m expected s → HoldsRestFrom n expected s
rest-on m n expected s is_readable h =
    record {
      bytes = h.bytes;
      after = h.after;
      is_readable = is_readable s.agg h.bytes (first_of s.agg (has_followed s.more s.agg)) h.is_readable;
      size = h.size;
      follows =
          follows-stay m n s.more h.after
          (λ b l u is. is_readable b l (later_of (s.agg == b) (has_followed s.more b) u) is) h.follows;
      next = h.next;
      apart = h.apart;
    }

-- if none of its bytes were taken, the rest of the response begins with all of them
pub at-start : {m : State} {expected : List ℕ} {s : Sending} (h : HoldsRestFrom m expected s) → s.from ≡ 0
    → h.bytes ++ h.after ≡ drop s.taken expected
at-start h is = ap (λ z. drop z h.bytes ++ h.after) (sym is) ∙ h.next

unsent-on : (m n : State) (a : ℕ) (more : Following) → ((bytes : List ℕ)
    → readable_at m server a ≡ Some bytes → readable_at n server a ≡ Some bytes) → KeepsFollowing m n more
    → HoldsUnsent m a more → HoldsUnsent n a more
unsent-on m n a more is_readable follows h =
    record {
      after = h.after;
      readable = readable-on m n a is_readable h.readable;
      follows = follows-stay m n more h.after follows h.follows;
      apart = h.apart;
    }

pub has-stays : (m n : State) (q : Answer) (expected : List ℕ) (d : Phase) → IsReadableOn m n d → OpensOn m n d
    → Has m q expected d → Has n q expected d
has-stays m n q expected (DroppingInput a) is_readable opens has =
    readable-on m n a (λ l is. is_readable a l (self a) is) has
has-stays m n q expected Opening is_readable opens has = has
has-stays m n q expected (Reading f) is_readable opens has =
    (has.0, (has.1.0, has.1.1, opens f (on.File has.1.0 has.1.1 modes.Read) (self f) has.1.2))
has-stays m n q expected (ClosingFile f k) is_readable opens has = (
  (has.0.0, has.0.1, opens f (on.File has.0.0 has.0.1 modes.Read) (self f) has.0.2),
  file_result-on m n q expected k (λ a l u is. is_readable a l u is) has.1,
)
has-stays m n q expected (Slicing a first last len) is_readable opens has =
    record {
      bytes = has.bytes;
      is_readable = is_readable a has.bytes (self a) has.is_readable;
      some = has.some;
      count = has.count;
      expected_is = has.expected_is;
    }
has-stays m n q expected (DroppingWhole a k) is_readable opens has = (
  readable-on m n a (λ l is. is_readable a l (first_of a (content_agg k a)) is) has.0,
  has.1,
  content-on m n q expected k (λ b l u is. is_readable b l (later_of (a == b) (content_agg k b) u) is) has.2,
)
has-stays m n q expected (MakingHead k) is_readable opens has =
    content-on m n q expected k (λ b l u is. is_readable b l u is) has
has-stays m n q expected (Joining a size body len) is_readable opens has =
    (rest-on m n expected (whole a size 0 (Some (body, len))) is_readable has.0, has.1)
has-stays m n q expected (SendingWhole s) is_readable opens has = (rest-on m n expected s is_readable has.0, has.1)
has-stays m n q expected (CuttingPiece s) is_readable opens has = (rest-on m n expected s is_readable has.0, has.1)
has-stays m n q expected (SendingPiece s piece) is_readable opens has = record {
  whole =
      rest-on m n expected s
      (λ a l u is. is_readable a l (later_of (piece == a) ((s.agg == a) || has_followed s.more a) u) is) has.whole;
  some = has.some;
  is_readable =
      is_readable piece (slice_range has.whole.bytes s.from (piece_end s))
      (first_of piece ((s.agg == piece) || has_followed s.more piece)) has.is_readable;
  other = has.other;
}
has-stays m n q expected (DroppingPiece s piece) is_readable opens has = (
  readable-on m n piece
      (λ l is. is_readable piece l (first_of piece ((s.agg == piece) || has_followed s.more piece)) is) has.0,
  has.1,
  rest-on m n expected s
      (λ a l u is. is_readable a l (later_of (piece == a) ((s.agg == a) || has_followed s.more a) u) is) has.2,
)
has-stays m n q expected (DroppingSent a taken more) is_readable opens has =
    record {
      bytes = has.bytes;
      after = has.after;
      is_readable = is_readable a has.bytes (first_of a (has_followed more a)) has.is_readable;
      follows =
          follows-stay m n more has.after (λ b l u is. is_readable b l (later_of (a == b) (has_followed more b) u) is)
          has.follows;
      next = has.next;
      apart = has.apart;
    }
has-stays m n q expected (AbortingPiece piece a more) is_readable opens has = (
  readable-on m n piece (λ l is. is_readable piece l (first_of piece ((a == piece) || has_followed more piece)) is)
      has.0,
  has.1,
  unsent-on m n a more
      (λ l is. is_readable a l
      (later_of (piece == a) ((a == a) || has_followed more a) (first_of a (has_followed more a))) is)
      (λ b l u is. is_readable b l
      (later_of (piece == b) ((a == b) || has_followed more b) (later_of (a == b) (has_followed more b) u)) is) has.2,
)
has-stays m n q expected (Aborting a more) is_readable opens has =
    unsent-on m n a more (λ l is. is_readable a l (first_of a (has_followed more a)) is)
    (λ b l u is. is_readable b l (later_of (a == b) (has_followed more b) u) is) has
has-stays m n q expected Closed is_readable opens has = has
has-stays m n q expected x is_readable opens has = tt
