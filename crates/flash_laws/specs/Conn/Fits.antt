-- The invariant of one connection, by its input and output.
use Rattle.std.specs.Prelude.{◌≡◌, ◌≤◌, ◌<◌, ℕ, ◌+◌, ◌-◌, ◌||◌, ◌==◌, Bool, true, false, List, [], ◌∷◌, ◌++◌, length}
use Rattle.std.specs.Prelude.{drop, slice_range, Some, None, IsFalse, ⊤}
use Rattle.iol_core.specs.State.{State, descriptor}
use Rattle.iol_laws.specs.Caller.{readable_at}
use Rattle.iol_core.specs.declared.limits.TheConstants.{MAX_AGGREGATE_BYTES}
use Rattle.iol_core.specs.declared.descriptors.Descriptor.TheVariants as on
use Rattle.iol_core.specs.declared.descriptors.Mode.TheVariants as modes
use Rattle.iol_core.specs.declared.events.Reply.{Reply}
use Rattle.iol_core.specs.declared.events.Reply.TheVariants as reply
use Rattle.flash_http.specs.Request.{Answer, serve, refuse, Wanted}
use Rattle.flash_laws.specs.Answers.{Found, response}
use Rattle.flash_laws.specs.Site.{server}
use Rattle.flash_laws.specs.Conn.{Following, has_followed, content_agg, piece_end, whole, text_of, script_payload}
use Rattle.flash_laws.specs.declared.phase.FileResult.{FileResult}
use Rattle.flash_laws.specs.declared.phase.FileResult.TheVariants.{File, Length, Fails, Text}
use Rattle.flash_laws.specs.declared.phase.Payload.{Payload}
use Rattle.flash_laws.specs.declared.phase.Payload.TheVariants.{Body, Bare, Error, Script}
use Rattle.flash_laws.specs.declared.phase.Sending.{Sending}
use Rattle.flash_laws.specs.declared.phase.Phase.{Phase}
use Rattle.flash_laws.specs.declared.phase.Phase.TheVariants.{Receiving, DroppingInput, Opening, Reading as Reading}
use Rattle.flash_laws.specs.declared.phase.Phase.TheVariants.{ClosingFile, Slicing, DroppingWhole}
use Rattle.flash_laws.specs.declared.phase.Phase.TheVariants.{MakingHead, Joining, SendingWhole, CuttingPiece}
use Rattle.flash_laws.specs.declared.phase.Phase.TheVariants.{SendingPiece, DroppingPiece, DroppingSent, AbortingPiece}
use Rattle.flash_laws.specs.declared.phase.Phase.TheVariants.{Aborting, Disconnecting, Closed}

-- ---- the machine's data of a response: the server offers the next bytes of the expected response

abbrev pub IsReadable : State → (a : ℕ) → Type 0
IsReadable m a = (bytes : List ℕ) × (readable_at m server a ≡ Some bytes)

abbrev pub MoreIsReadable : State → Following → List ℕ → Type 0
MoreIsReadable m None bytes = bytes ≡ []
MoreIsReadable m (Some x) bytes = (readable_at m server x.0 ≡ Some bytes) × (x.1 ≡ length bytes)

-- an aggregate without its bytes before `from`, and the one that follows it, are the part of the response that is not
-- yet taken
pub record HoldsRestFrom (m : State) (expected : List ℕ) (s : Sending) : Type 0 where
  pub bytes : List ℕ
  pub after : List ℕ
  pub is_readable : readable_at m server s.agg ≡ Some bytes
  pub size : s.len ≡ length bytes
  pub follows : MoreIsReadable m s.more after
  pub next : drop s.from bytes ++ after ≡ drop s.taken expected
  pub apart : IsFalse (has_followed s.more s.agg)

-- the same, with some bytes left, and a piece of them as another aggregate
pub record HoldsPiece (m : State) (expected : List ℕ) (s : Sending) (piece : ℕ) : Type 0 where
  pub whole : HoldsRestFrom m expected s
  pub some : s.from < s.len
  pub is_readable : readable_at m server piece ≡ Some (slice_range whole.bytes s.from (piece_end s))
  pub other : IsFalse ((s.agg == piece) || has_followed s.more piece)

-- all its bytes are taken
pub record HoldsMore (m : State) (expected : List ℕ) (a taken : ℕ) (more : Following) : Type 0 where
  pub bytes : List ℕ
  pub after : List ℕ
  pub is_readable : readable_at m server a ≡ Some bytes
  pub follows : MoreIsReadable m more after
  pub next : after ≡ drop taken expected
  pub apart : IsFalse (has_followed more a)

-- an aggregate, and one that follows it, are to be dropped
pub record HoldsUnsent (m : State) (a : ℕ) (more : Following) : Type 0 where
  pub after : List ℕ
  pub readable : IsReadable m a
  pub follows : MoreIsReadable m more after
  pub apart : IsFalse (has_followed more a)

-- the expected response is the text followed by the bytes of an aggregate
pub record HasBody (m : State) (expected text : List ℕ) (a size : ℕ) : Type 0 where
  pub bytes : List ℕ
  pub is_readable : readable_at m server a ≡ Some bytes
  pub count : size ≡ length bytes
  pub expected_is : expected ≡ text ++ bytes

-- the same, if only these of its bytes are sent, and at least one
pub record HasPart (m : State) (expected text : List ℕ) (a from to : ℕ) : Type 0 where
  pub bytes : List ℕ
  pub is_readable : readable_at m server a ≡ Some bytes
  pub some : from < to
  pub count : to - from ≡ length (slice_range bytes from to)
  pub expected_is : expected ≡ text ++ slice_range bytes from to

-- the expected response has the bytes of an aggregate, which are the whole file
pub record HasFile (m : State) (w : Wanted) (expected : List ℕ) (a len : ℕ) : Type 0 where
  pub bytes : List ℕ
  pub is_readable : readable_at m server a ≡ Some bytes
  pub count : len ≡ length bytes
  pub whole : IsFalse w.head_only
  pub expected_is : expected ≡ response (serve w) (Found bytes)

abbrev pub HasWhole : State → Answer → (expected : List ℕ) → (a len : ℕ) → Type 0
HasWhole m (serve w) expected a len = HasFile m w expected a len
HasWhole m (refuse status head_only close) expected a len = ⊥

abbrev pub HasFileResult : State → Answer → (expected : List ℕ) → FileResult → Type 0
HasFileResult m q expected (File a len) = HasWhole m q expected a len
HasFileResult m q expected (Length len) = expected ≡ text_of q (Bare len)
HasFileResult m q expected (Fails status) = expected ≡ text_of q (Error status)
HasFileResult m q expected (Text a runs) = IsReadable m a × (expected ≡ text_of q (script_payload runs))

abbrev pub HasContent : State → Answer → (expected : List ℕ) → Payload → Type 0
HasContent m q expected (Body a size len) = HasBody m expected (text_of q (Body a size len)) a size
HasContent m q expected (Bare len) = expected ≡ text_of q (Bare len)
HasContent m q expected (Error status) = expected ≡ text_of q (Error status)
HasContent m q expected Script = expected ≡ text_of q Script

-- a descriptor of the server that reads a file
abbrev pub IsFile : State → (fd : ℕ) → Type 0
IsFile m fd = (f at : ℕ) × (descriptor m server fd ≡ Some (on.File f at modes.Read))

abbrev pub IsServed : Answer → Type 0
IsServed (serve w) = ⊤
IsServed (refuse status head_only close) = ⊥

-- The machine has the data that a phase needs; `expected` is the response to the request in progress.
abbrev pub Has : State → Answer → (expected : List ℕ) → Phase → Type 0
Has m q expected Receiving = ⊤
Has m q expected (DroppingInput a) = IsReadable m a
Has m q expected Opening = IsServed q
Has m q expected (Reading f) = IsServed q × IsFile m f
Has m q expected (ClosingFile f k) = IsFile m f × HasFileResult m q expected k
Has m q expected (Slicing a from to len) = HasPart m expected (text_of q (Body a 0 len)) a from to
Has m q expected (DroppingWhole a k) = IsReadable m a × IsFalse (content_agg k a) × HasContent m q expected k
Has m q expected (MakingHead k) = HasContent m q expected k
Has m q expected (Joining a size body len) = HoldsRestFrom m expected (whole a size 0 (Some (body, len)))
    × (size + len ≤ MAX_AGGREGATE_BYTES)
Has m q expected (SendingWhole s) = HoldsRestFrom m expected s × (s.from ≡ 0)
Has m q expected (CuttingPiece s) = HoldsRestFrom m expected s × (s.from < s.len)
Has m q expected (SendingPiece s piece) = HoldsPiece m expected s piece
Has m q expected (DroppingPiece s piece) = IsReadable m piece
    × IsFalse ((s.agg == piece) || has_followed s.more piece) × HoldsRestFrom m expected s
Has m q expected (DroppingSent a taken more) = HoldsMore m expected a taken more
Has m q expected (AbortingPiece piece a more) = IsReadable m piece
    × IsFalse ((a == piece) || has_followed more piece) × HoldsUnsent m a more
Has m q expected (Aborting a more) = HoldsUnsent m a more
Has m q expected Disconnecting = ⊤
Has m q expected Closed = ⊥

-- ---- the answered requests

-- whether nothing more is sent
abbrev pub quits : Phase → Bool
quits (AbortingPiece piece a more) = true
quits (Aborting a more) = true
quits Disconnecting = true
quits Closed = true
quits d = false

-- whether the next call closes its descriptor
abbrev pub is_closing : Phase → Bool
is_closing Disconnecting = true
is_closing Closed = true
is_closing d = false

-- the request in progress
abbrev pub asked : Answer → Phase → List Answer
asked q Receiving = []
asked q (DroppingInput a) = []
asked q d = q ∷ []

-- the contents of the aggregate in a reply
abbrev pub Names : State → Reply → List ℕ → Type 0
Names m (reply.Agg a) received = readable_at m server a ≡ Some received
Names m r received = received ≡ []
