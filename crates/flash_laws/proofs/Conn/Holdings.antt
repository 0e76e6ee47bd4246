-- The result of a call belongs to its connection, and is given up when that connection no longer uses it.
use Rattle.std.proofs.Common.{◌≡◌, ℕ, ◌+◌, ◌-◌, ◌==◌, List, [], ◌∷◌, ◌++◌, ap, ◌∙◌, refl, sym, Some, None, true, false}
use Rattle.std.proofs.Common.{Bool, if◌then◌else◌, length, take, drop}
use Rattle.std.specs.Prelude.{nat_le, ◌||◌, slice_range}
use Rattle.iol_core.specs.Access.{HasAccess}
use Rattle.iol_core.specs.State.{State, descriptor, is_live, content}
use Rattle.iol_core.specs.Run.{StepsTo}
use Rattle.iol_core.specs.Values.{gives_up}
use Rattle.iol_core.specs.declared.limits.TheConstants.{MAX_AGGREGATE_BYTES}
use Rattle.iol_core.specs.declared.descriptors.Descriptor.TheVariants as on
use Rattle.iol_core.specs.declared.descriptors.Mode.TheVariants as modes
use Rattle.iol_core.specs.declared.refusals.Refusal.{Refusal}
use Rattle.iol_core.specs.declared.refusals.Refusal.TheVariants as no
use Rattle.iol_core.specs.declared.events.Call.{Call}
use Rattle.iol_core.specs.declared.events.Call.TheVariants as call
use Rattle.iol_core.specs.declared.events.Event.{Event}
use Rattle.iol_core.specs.declared.events.Event.TheVariants as event
use Rattle.iol_core.specs.declared.events.Reply.{Reply}
use Rattle.iol_core.specs.declared.events.Reply.TheVariants as reply
use Rattle.iol_laws.specs.Aggregates.{AggregatesComeAndGo, brings, is_refusal}
use Rattle.iol_laws.specs.Caller.{CallsServeTheirDomain, readable_at}
use Rattle.iol_laws.specs.Caller as o
use Rattle.iol_laws.specs.CallerFiles.{FileCallsServeTheirDomain}
use Rattle.iol_laws.specs.CallerFiles as of
use Rattle.iol_laws.specs.Order.{IsOrderly}
use Rattle.flash_http.specs.declared.ranges.Selection.{Selection}
use Rattle.flash_http.specs.declared.ranges.Selection.TheVariants.{Unsatisfiable}
use Rattle.flash_http.specs.Range.{selected}
use Rattle.flash_http.specs.Request.{Answer, serve, refuse}
use Rattle.flash_laws.specs.Answers.{response}
use Rattle.flash_laws.specs.Conn.{Following, Conn, has_followed, file_result_agg, content_agg, uses_agg, uses_fd}
use Rattle.flash_laws.specs.Conn.{name_of, text_of, is_head_only, most_buffered, most_read, piece_end, count_of}
use Rattle.flash_laws.specs.Conn.{next_call}
use Rattle.flash_laws.specs.Conn.{sends_of, script_payload, resolved, following, headed, proceeds, drops_next}
use Rattle.flash_laws.specs.Conn.{after_receive}
use Rattle.flash_laws.specs.Conn.{after_reply, after_taking, whole}
use Rattle.flash_laws.specs.declared.phase.FileResult.{FileResult}
use Rattle.flash_laws.specs.declared.phase.FileResult.TheVariants.{File, Length, Fails, Text as TextOf}
use Rattle.flash_laws.specs.declared.phase.Payload.{Payload}
use Rattle.flash_laws.specs.declared.phase.Payload.TheVariants.{Body}
use Rattle.flash_laws.specs.declared.phase.Sending.{Sending}
use Rattle.flash_laws.specs.declared.phase.Phase.{Phase}
use Rattle.flash_laws.specs.declared.phase.Phase.TheVariants.{Receiving, DroppingInput, Opening, Reading as Reading}
use Rattle.flash_laws.specs.declared.phase.Phase.TheVariants.{ClosingFile, Slicing, DroppingWhole}
use Rattle.flash_laws.specs.declared.phase.Phase.TheVariants.{MakingHead, Joining, SendingWhole, CuttingPiece}
use Rattle.flash_laws.specs.declared.phase.Phase.TheVariants.{SendingPiece, DroppingPiece, DroppingSent, AbortingPiece}
use Rattle.flash_laws.specs.declared.phase.Phase.TheVariants.{Aborting, Disconnecting, Closed}
use Rattle.flash_laws.specs.Conn.Fits.{Has}
use Rattle.flash_laws.specs.Conn.Holdings.{KeepsNothing}
use Rattle.flash_laws.specs.Site.{server}
use Rattle.flash_laws.proofs.Forms.{at}
use Rattle.flash_laws.proofs.Lists.{clash, later_of, former_by, former_of}
use Rattle.flash_laws.proofs.Conn.DoneCalls.{conn-opened}
use Rattle.flash_laws.proofs.Conn.Touches.{fds-call, conns-call, pipes-call, files-call, admits-call}
use Rattle.flash_laws.proofs.Conn.Uses.{same-number, gives-call, next-uses}

-- ---- aggregates no longer used are given up

abbrev Leaves : (fd : ℕ) → Conn → Reply → Phase → (a : ℕ) → Type 0
Leaves fd x r after a = uses_agg x.phase a ≡ true → uses_agg after a ≡ false
    → (gives_up (event.Call server (next_call fd x)) server a ≡ true) × (is_refusal r ≡ false)

resolved-uses : (q : Answer) (k : FileResult) (a : ℕ) → file_result_agg k a ≡ true → uses_agg (resolved q k) a ≡ true
resolved-uses (serve w) (File b len) a u = by (selected w.range len)
  where
    by : (sel : Selection) → uses_agg (sends_of sel b len) a ≡ true
    by Unsatisfiable = former_of (b == a) false u
    by x = u
resolved-uses (refuse status head_only close) (File b len) a u = u
resolved-uses q (Length len) a u = absurd (cc (u))
resolved-uses q (Fails status) a u = absurd (cc (u))
resolved-uses x (TextOf b runs) a u = former_of (b == a) (content_agg (script_payload runs) a) u

following-uses : (k : Payload) (a : ℕ) → content_agg k a ≡ true → has_followed (following k) a ≡ true
following-uses (Body b size len) a u = u
following-uses k a u = absurd (cc (u))

headed-more : (n size : ℕ) (more : Following) (a : ℕ) → has_followed more a ≡ true
    → uses_agg (headed n size more) a ≡ true
headed-more n size None a u = absurd (cc (u))
headed-more n size (Some x) a u = by (nat_le (size + x.1) MAX_AGGREGATE_BYTES)
  where
    by : (t : Bool) → uses_agg (if t then Joining n size x.0 x.1 else SendingWhole (whole n size 0 (Some x))) a ≡ true
    by true = later_of (n == a) (x.0 == a) u
    by false = later_of (n == a) (x.0 == a) u

proceeds-more : (q : Answer) (taken : ℕ) (more : Following) (a : ℕ) → uses_agg (proceeds q taken more) a ≡ false
    → has_followed more a ≡ false
proceeds-more q taken (Some x) a unused = by (x.0 == a) unused
  where
    by : (t : Bool) → (t || false) ≡ false → t ≡ false
    by true unused = absurd (cc (unused))
    by false unused = refl
proceeds-more q taken None a unused = refl

drops-more : (more : Following) (a : ℕ) → uses_agg (drops_next more) a ≡ false → has_followed more a ≡ false
drops-more (Some x) a unused = by (x.0 == a) unused
  where
    by : (t : Bool) → (t || false) ≡ false → t ≡ false
    by true unused = absurd (cc (unused))
    by false unused = refl
drops-more None a unused = refl

pub leaves-after_reply : (fd : ℕ) (buffered : List ℕ) (q : Answer) (d : Phase) (r : Reply) (received : List ℕ) (a : ℕ)
    → Leaves fd (at buffered q d) r (after_reply (at buffered q d) r received).phase a
leaves-after_reply fd buffered q Receiving r received a u unused = absurd (cc (u))
leaves-after_reply fd buffered q Opening r received a u unused = absurd (cc (u))
leaves-after_reply fd buffered q (Reading f) r received a u unused = absurd (cc (u))
leaves-after_reply fd buffered q Disconnecting r received a u unused = absurd (cc (u))
leaves-after_reply fd buffered q Closed r received a u unused = absurd (cc (u))
leaves-after_reply fd buffered q (DroppingInput b) reply.Done received a u unused = (u, refl)
leaves-after_reply fd buffered q (ClosingFile f k) reply.Done received a u unused =
    absurd (clash (uses_agg (resolved q k) a) (resolved-uses q k a u) unused)
leaves-after_reply fd buffered q (Slicing b first last len) (reply.Agg n) received a u unused =
    absurd (clash ((b == a) || (n == a)) (former_of (b == a) (n == a) u) unused)
leaves-after_reply fd buffered q (DroppingWhole b k) reply.Done received a u unused =
    (former_by (b == a) (content_agg k a) u unused, refl)
leaves-after_reply fd buffered q (MakingHead k) (reply.Agg n) received a u unused =
    absurd
    (clash (uses_agg (headed n (count_of received) (following k)) a)
    (headed-more n (count_of received) (following k) a (following-uses k a u)) unused)
leaves-after_reply fd buffered q (Joining b size body len) (reply.Agg n) received a u unused = (u, refl)
leaves-after_reply fd buffered q (SendingWhole s) (reply.Count k) received a u unused =
    absurd (clash ((s.agg == a) || has_followed s.more a) u (sym (next-uses (after_taking s k) a) ∙ unused))
leaves-after_reply fd buffered q (SendingWhole s) (reply.Refused no.BrokenPipe) received a u unused =
    absurd (clash ((s.agg == a) || has_followed s.more a) u unused)
leaves-after_reply fd buffered q (CuttingPiece s) (reply.Agg n) received a u unused =
    absurd
    (clash ((n == a) || ((s.agg == a) || has_followed s.more a))
    (later_of (n == a) ((s.agg == a) || has_followed s.more a) u) unused)
leaves-after_reply fd buffered q (SendingPiece s piece) (reply.Count k) received a u unused =
    absurd (clash ((piece == a) || ((s.agg == a) || has_followed s.more a)) u unused)
leaves-after_reply fd buffered q (SendingPiece s piece) (reply.Refused no.BrokenPipe) received a u unused =
    absurd (clash ((piece == a) || ((s.agg == a) || has_followed s.more a)) u unused)
leaves-after_reply fd buffered q (DroppingPiece s piece) reply.Done received a u unused =
    (former_by (piece == a) ((s.agg == a) || has_followed s.more a) u (sym (next-uses s a) ∙ unused), refl)
leaves-after_reply fd buffered q (DroppingSent b taken more) reply.Done received a u unused =
    (former_by (b == a) (has_followed more a) u (proceeds-more q taken more a unused), refl)
leaves-after_reply fd buffered q (AbortingPiece piece b more) reply.Done received a u unused =
    (former_by (piece == a) ((b == a) || has_followed more a) u unused, refl)
leaves-after_reply fd buffered q (Aborting b more) reply.Done received a u unused =
    (former_by (b == a) (has_followed more a) u (drops-more more a unused), refl)
leaves-after_reply fd buffered q d r received a u unused = absurd (clash (uses_agg d a) u unused)

-- ---- the descriptor of a file no longer used is closed

pub shuts : (own : CallsServeTheirDomain) (m n : State) (fd : ℕ) (buffered : List ℕ) (q : Answer) (d : Phase)
    (r : Reply)
    (received : List ℕ) (g : ℕ)
    → StepsTo m (event.Call server (next_call fd (at buffered q d))) r n
    → uses_fd d g ≡ true → uses_fd (after_reply (at buffered q d) r received).phase g ≡ false
    → descriptor n server g ≡ None
shuts own m n fd buffered q (Reading f) r received g step u unused = absurd (by r u unused)
  where
    by : (r : Reply) → (f == g) ≡ true → uses_fd (after_reply (at buffered q (Reading f)) r received).phase g ≡ false
        → ⊥
    by (reply.Agg k) u unused = clash (f == g) u unused
    by (reply.Count k) u unused = clash (f == g) u unused
    by (reply.Refused no.WouldBlock) u unused = clash (f == g) u unused
    by (reply.Refused x) u unused = clash (f == g) u unused
    by r u unused = clash (f == g) u unused
shuts own m n fd buffered q (ClosingFile f k) r received g step u unused = by r (own.closes m n server f r step) unused
  where
    by : (r : Reply) → o.Closes m server f r n
        → uses_fd (after_reply (at buffered q (ClosingFile f k)) r received).phase g
        ≡ false
        → descriptor n server g ≡ None
    by reply.Done did unused = ap (λ z. descriptor n server z) (sym (same-number f g u)) ∙ did
    by (reply.Refused x) did unused = absurd (clash (f == g) u unused)
    by r did unused = absurd did
shuts own m n fd buffered q d r received g step u unused = absurd (cc (u))

-- ---- new aggregates are used

pub headed-first : (n size : ℕ) (more : Following) (a : ℕ) → (n == a) ≡ true → uses_agg (headed n size more) a ≡ true
headed-first n size None a is = former_of (n == a) false is
headed-first n size (Some x) a is = by (nat_le (size + x.1) MAX_AGGREGATE_BYTES)
  where
    by : (t : Bool) → uses_agg (if t then Joining n size x.0 x.1 else SendingWhole (whole n size 0 (Some x))) a ≡ true
    by true = former_of (n == a) (x.0 == a) is
    by false = former_of (n == a) (x.0 == a) is

-- whether a reply names aggregates
abbrev names_some : Reply → Bool
names_some (reply.Agg x) = true
names_some (reply.Aggs x y) = true
names_some r = false

module _ (come : AggregatesComeAndGo) (own : CallsServeTheirDomain) (m n : State) (order : IsOrderly m)
    (a : ℕ) (bytes : List ℕ) (before : readable_at m server a ≡ None) (after : readable_at n server a ≡ Some bytes)
  where
    -- the reply names the new aggregate
    pub named : (e : Event) (r : Reply) → StepsTo m e r n → brings e r server a ≡ true
    named e r step = by (brings e r server a) refl
      where
        by : (b : Bool) → brings e r server a ≡ b → brings e r server a ≡ true
        by true is = is
        by false is = (let none = come.none m n e r server a step before is in absurd (cc (none, after)))

    -- a call whose replies name no aggregate brings none
    pub unnamed : (k : Call) (Word : Reply → Type 0) (r : Reply) → StepsTo m (event.Call server k) r n → Word r
        → ((x : ℕ) → Word (reply.Agg x) → ⊥) → ((x y : ℕ) → Word (reply.Aggs x y) → ⊥) → ⊥
    unnamed k Word r step did no_agg no_aggs = by r did (named-so k r (named (event.Call server k) r step))
      where
        named-so : (k : Call) (r : Reply) → brings (event.Call server k) r server a ≡ true → names_some r ≡ true
        named-so (call.AggGive b to) (reply.Agg x) is = refl
        named-so k (reply.Agg x) is = refl
        named-so k (reply.Aggs x y) is = refl
        named-so k r is = absurd (cc (is))

        by : (r : Reply) → Word r → names_some r ≡ true → ⊥
        by (reply.Agg x) did is = no_agg x did
        by (reply.Aggs x y) did is = no_aggs x y did
        by r did is = cc (is)

    -- so dropping an aggregate, closing and writing bring none
    pub dropped : (b : ℕ) (r : Reply) → StepsTo m (event.Call server (call.AggDrop b)) r n → ⊥
    dropped b r step =
        unnamed (call.AggDrop b) (λ x. o.Drops m server b x n) r step (own.drops m n server b r order step)
        (λ x bad. bad) (λ x y bad. bad)

    pub closed : (g : ℕ) (r : Reply) → StepsTo m (event.Call server (call.Close g)) r n → ⊥
    closed g r step = unnamed (call.Close g) (λ x. o.Closes m server g x n) r step (own.closes m n server g r step)
        (λ x bad. bad) (λ x y bad. bad)

    pub written : (fd c b : ℕ) (sent : List ℕ) (r : Reply) → descriptor m server fd ≡ Some (on.Connection c)
        → readable_at m server b ≡ Some sent → StepsTo m (event.Call server (call.IolWrite fd b)) r n → ⊥
    written fd c b sent r open_on is_readable step =
        unnamed (call.IolWrite fd b) (λ x. o.WritesConn m c sent x n) r step
        (own.write_conn m n server fd c b sent r order open_on is_readable step) (λ x bad. bad) (λ x y bad. bad)

    -- the reply names the aggregate that is made
    pub made : (k : Call) (it : List ℕ) (uses : Reply → Bool) (r : Reply) → StepsTo m (event.Call server k) r n
        → o.Makes m server it r n
        → ((x : ℕ) → brings (event.Call server k) (reply.Agg x) server a ≡ true → (x == a) ≡ true)
        → ((x : Refusal) → brings (event.Call server k) (reply.Refused x) server a ≡ true → ⊥)
        → ((x : ℕ) → (x == a) ≡ true → uses (reply.Agg x) ≡ true) → uses r ≡ true
    made k it uses r step did number refused new = by r did (named (event.Call server k) r step)
      where
        by : (r : Reply) → o.Makes m server it r n → brings (event.Call server k) r server a ≡ true → uses r ≡ true
        by (reply.Agg x) did is = new x (number x is)
        by (reply.Refused x) did is = absurd (refused x is)
        by r did is = absurd did

    module _ (files : FileCallsServeTheirDomain) (buffered : List ℕ) where
      opened-nothing : (name : List ℕ) (r : Reply) → is_live m server ≡ true
          → StepsTo m (event.Call server (call.OpenFile name modes.Read)) r n → ⊥
      opened-nothing name r lives step =
          by r (files.opens m n server name modes.Read r lives step)
          (named (event.Call server (call.OpenFile name modes.Read)) r step)
        where
          by : (r : Reply) → of.Opening m server name modes.Read r n
              → brings (event.Call server (call.OpenFile name modes.Read)) r server a ≡ true → ⊥
          by (reply.Fd g) did is = cc (is)
          by (reply.Refused x) did is = cc (is)
          by r did is = did

      rests : (fd c count : ℕ) (q : Answer) (r : Reply) (received : List ℕ)
          → descriptor m server fd ≡ Some (on.Connection c)
          → StepsTo m (event.Call server (call.IolRead fd count)) r n
          → uses_agg (after_receive buffered q r received).phase a ≡ true
      rests fd c count q r received open_on step =
          by r received (own.read_conn m n server fd c count r order open_on step)
          (named (event.Call server (call.IolRead fd count)) r step)
        where
          by : (r : Reply) (received : List ℕ) → o.ReadsConn m server c count r n
              → brings (event.Call server (call.IolRead fd count)) r server a ≡ true
              → uses_agg (after_receive buffered q r received).phase a ≡ true
          by (reply.Agg k) [] did is = former_of (k == a) false is
          by (reply.Agg k) (b ∷ received) did is = is
          by (reply.Refused x) received did is = absurd (cc (is))
          by r received did is = absurd did

      pub reads : (q : Answer) (g i pos : ℕ) (r : Reply) (received : List ℕ) → HasAccess m → is_live m server ≡ true
          → descriptor m server g ≡ Some (on.File i pos modes.Read) → (b : Bool)
          → StepsTo m (event.Call server (if b then call.Length g else call.IolRead g most_read)) r n
          → uses_agg (after_reply (at buffered q (Reading g)) r received).phase a ≡ true
      reads q g i pos r received access lives opened true step =
          absurd (by r (files.measures m n server g i pos modes.Read r lives opened step)
          (named (event.Call server (call.Length g)) r step))
        where
          by : (r : Reply) → of.Reports m (length (content m i)) r n
              → brings (event.Call server (call.Length g)) r server a ≡ true → ⊥
          by (reply.Count k) did is = cc (is)
          by r did is = did
      reads q g i pos r received access lives opened false step =
          by r (files.reads_file m n server g i pos most_read modes.Read r order lives
          (access.fds server g i pos modes.Read opened) refl opened step)
          (named (event.Call server (call.IolRead g most_read)) r step)
        where
          by : (r : Reply) → of.ReadsFile m server g i pos modes.Read (take most_read (drop pos (content m i))) r n
              → brings (event.Call server (call.IolRead g most_read)) r server a ≡ true
              → uses_agg (after_reply (at buffered q (Reading g)) r received).phase a ≡ true
          by (reply.Agg k) did is = is
          by (reply.Refused x) did is = absurd (cc (is))
          by r did is = absurd did

      picks : (b first last len : ℕ) (q : Answer) (part : List ℕ) (r : Reply) (received : List ℕ)
          → readable_at m server b ≡ Some part
          → StepsTo m (event.Call server (call.AggCut b first last)) r n
          → uses_agg (after_reply (at buffered q (Slicing b first last len)) r received).phase a ≡ true
      picks b first last len q part r received is_readable step =
          made (call.AggCut b first last) (slice_range part first last)
          (λ z. uses_agg (after_reply (at buffered q (Slicing b first last len)) z received).phase a) r step
          (own.cut m n server b first last part r order is_readable step) (λ x is. is) (λ x is. cc (is))
          (λ x is. later_of (b == a) (x == a) is)

      heads : (fd : ℕ) (q : Answer) (k : Payload) (r : Reply) (received : List ℕ)
          → StepsTo m (event.Call server (call.AggMake (text_of q k))) r n
          → uses_agg (after_reply (at buffered q (MakingHead k)) r received).phase a ≡ true
      heads fd q k r received step =
          made (call.AggMake (text_of q k)) (text_of q k)
          (λ z. uses_agg (after_reply (at buffered q (MakingHead k)) z received).phase a) r step
          (own.make m n server (text_of q k) r order step) (λ x is. is) (λ x is. cc (is))
          (λ x is. headed-first x (count_of received) (following k) a is)

      joins : (b size body len : ℕ) (q : Answer) (xs ys : List ℕ) (r : Reply) (received : List ℕ)
          → readable_at m server b ≡ Some xs
          → readable_at m server body ≡ Some ys → StepsTo m (event.Call server (call.AggJoin b body)) r n
          → uses_agg (after_reply (at buffered q (Joining b size body len)) r received).phase a ≡ true
      joins b size body len q xs ys r received is_readable more step =
          made (call.AggJoin b body) (xs ++ ys)
          (λ z. uses_agg (after_reply (at buffered q (Joining b size body len)) z received).phase a) r step
          (own.join m n server b body xs ys r order is_readable more step) (λ x is. is) (λ x is. cc (is))
          (λ x is. former_of (x == a) false is)

      cuts : (s : Sending) (q : Answer) (whole : List ℕ) (r : Reply) (received : List ℕ)
          → readable_at m server s.agg ≡ Some whole
          → StepsTo m (event.Call server (call.AggCut s.agg s.from (piece_end s))) r n
          → uses_agg (after_reply (at buffered q (CuttingPiece s)) r received).phase a ≡ true
      cuts s q whole r received is_readable step =
          made (call.AggCut s.agg s.from (piece_end s)) (slice_range whole s.from (piece_end s))
          (λ z. uses_agg (after_reply (at buffered q (CuttingPiece s)) z received).phase a) r step
          (own.cut m n server s.agg s.from (piece_end s) whole r order is_readable step) (λ x is. is) (λ x is. cc (is))
          (λ x is. former_of (x == a) ((s.agg == a) || has_followed s.more a) is)

      pub brought : (fd c : ℕ) (q : Answer) (d : Phase) (expected : List ℕ) (r : Reply) (received : List ℕ)
          → HasAccess m
          → is_live m server ≡ true
          → descriptor m server fd ≡ Some (on.Connection c) → Has m q expected d
          → StepsTo m (event.Call server (next_call fd (at buffered q d))) r n
          → uses_agg (after_reply (at buffered q d) r received).phase a ≡ true
      brought fd c q Receiving expected r received access lives open_on has step =
          rests fd c (most_buffered - length buffered) q r received open_on step
      brought fd c q (DroppingInput b) expected r received access lives open_on has step = absurd (dropped b r step)
      brought fd c q Opening expected r received access lives open_on has step =
          absurd (opened-nothing (name_of q) r lives step)
      brought fd c q (Reading g) expected r received access lives open_on has step =
          reads q g has.1.0 has.1.1 r received access lives has.1.2 (is_head_only q) step
      brought fd c q (ClosingFile g k) expected r received access lives open_on has step = absurd (closed g r step)
      brought fd c q (Slicing b first last len) expected r received access lives open_on has step =
          picks b first last len q has.bytes r received has.is_readable step
      brought fd c q (DroppingWhole b k) expected r received access lives open_on has step = absurd (dropped b r step)
      brought fd c q (MakingHead k) expected r received access lives open_on has step = heads fd q k r received step
      brought fd c q (Joining b size body len) expected r received access lives open_on has step =
          joins b size body len q has.0.bytes has.0.after r received has.0.is_readable has.0.follows.0 step
      brought fd c q (SendingWhole s) expected r received access lives open_on has step =
          absurd (written fd c s.agg has.0.bytes r open_on has.0.is_readable step)
      brought fd c q (CuttingPiece s) expected r received access lives open_on has step =
          cuts s q has.0.bytes r received has.0.is_readable step
      brought fd c q (SendingPiece s piece) expected r received access lives open_on has step =
          absurd (written fd c piece (slice_range has.whole.bytes s.from (piece_end s)) r open_on has.is_readable step)
      brought fd c q (DroppingPiece s piece) expected r received access lives open_on has step =
          absurd (dropped piece r step)
      brought fd c q (DroppingSent b taken more) expected r received access lives open_on has step =
          absurd (dropped b r step)
      brought fd c q (AbortingPiece piece b more) expected r received access lives open_on has step =
          absurd (dropped piece r step)
      brought fd c q (Aborting b more) expected r received access lives open_on has step = absurd (dropped b r step)
      brought fd c q Disconnecting expected r received access lives open_on has step = absurd (closed fd r step)
      brought fd c q Closed expected r received access lives open_on has step = absurd has

pub keeps_nothing : AggregatesComeAndGo → CallsServeTheirDomain → FileCallsServeTheirDomain → KeepsNothing
keeps_nothing come own files = record {
  brought = λ m n fd c x o r received bytes a order access lives open_on has step before after. brought come own m n
      order a bytes before after files x.buffered fd c x.request x.phase (response x.request o) r received access lives
      open_on has
      step;
  opened = conn-opened;
  left = λ m n fd x r received a order step u unused.
      let gives = leaves-after_reply fd x.buffered x.request x.phase r received a u unused in
      come.gone m n (event.Call server (next_call fd x)) r server a order step gives.0 gives.1;
  shut = λ m n fd x r received g step u unused. shuts own m n fd x.buffered x.request x.phase r received g step u
      unused;
  alone = λ m fd c x o is has. record {
    aggs = λ a u. gives-call fd x.buffered x.request x.phase a u;
    fds = λ g t. fds-call m fd c x.buffered x.request x.phase g is t;
    conns = λ e t. conns-call m fd c x.buffered x.request (response x.request o) x.phase e is has t;
    pipes = λ p. pipes-call m fd c x.buffered x.request (response x.request o) x.phase p is has;
    files = files-call m fd c x.buffered x.request x.phase is;
    pools = λ p. admits-call fd x.buffered x.request x.phase p;
  };
}
