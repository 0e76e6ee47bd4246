-- The errors with which a head may be refused, and the bounds that each phase preserves.
use Rattle.std.proofs.Common.{◌≡◌, ℕ, ◌+◌, ◌||◌, List, [], ◌∷◌, refl, sym, subst, Option, Some, None, true, false, Bool}
use Rattle.std.proofs.Common.{if◌then◌else◌}
use Rattle.std.specs.Prelude.{nat_le, not, MatchOption}
use Rattle.iol_core.specs.State.{State}
use Rattle.iol_core.specs.declared.limits.TheConstants.{MAX_AGGREGATE_BYTES}
use Rattle.iol_core.specs.declared.refusals.Refusal.{Refusal}
use Rattle.iol_core.specs.declared.refusals.Refusal.TheVariants as no
use Rattle.iol_core.specs.declared.events.Reply.{Reply}
use Rattle.iol_core.specs.declared.events.Reply.TheVariants as reply
use Rattle.flash_http.specs.Fields.{has_content, is_served_method, is_known_method}
use Rattle.flash_http.specs.Range.{selected}
use Rattle.flash_http.specs.Target.{TargetIs}
use Rattle.flash_http.specs.declared.ranges.Selection.{Selection}
use Rattle.flash_http.specs.declared.ranges.Selection.TheVariants.{Whole, Bytes, Unsatisfiable}
use Rattle.flash_http.specs.Request.{Answer, serve, refuse, Reading, IsAnswerTo, Asks, bad_request, refusal, served}
use Rattle.flash_http.specs.Request.{is_head_only, is_host_fine, closes}
use Rattle.flash_laws.specs.Answers.{keeps}
use Rattle.flash_laws.specs.Client.Fits.{Finds}
use Rattle.flash_laws.specs.Client.ResponseState.{is_read, is_opening}
use Rattle.flash_laws.specs.Conn.{Following, following, headed, count_of, status_of, sends_of, resolved, proceeds}
use Rattle.flash_laws.specs.Conn.{drops_next, after_reply}
use Rattle.flash_laws.specs.Conn.{after_taking}
use Rattle.flash_laws.specs.Conn.ShortHeads.{is_error_status, FileResultIsShort}
use Rattle.flash_laws.specs.SiteContents.{SiteContents}
use Rattle.flash_laws.specs.declared.phase.FileResult.{FileResult}
use Rattle.flash_laws.specs.declared.phase.FileResult.TheVariants.{File, Length, Fails, Text as TextOf}
use Rattle.flash_laws.specs.declared.phase.Payload.TheVariants.{Script}
use Rattle.flash_laws.specs.declared.phase.Phase.{Phase}
use Rattle.flash_laws.specs.declared.phase.Phase.TheVariants.{Receiving, DroppingInput, Opening, Reading as ReadsFile}
use Rattle.flash_laws.specs.declared.phase.Phase.TheVariants.{ClosingFile, Slicing}
use Rattle.flash_laws.specs.declared.phase.Phase.TheVariants.{DroppingWhole, MakingHead, Joining, SendingWhole}
use Rattle.flash_laws.specs.declared.phase.Phase.TheVariants.{CuttingPiece, SendingPiece, DroppingPiece, DroppingSent}
use Rattle.flash_laws.specs.declared.phase.Phase.TheVariants.{AbortingPiece, Aborting, Disconnecting, Closed}
use Rattle.flash_laws.proofs.Forms.{at}
use Rattle.flash_laws.proofs.Moves.{after-done, after-agg, after-write, either-way, either-next}

-- ---- statuses

-- the status of each refusal is an error status of this server
pub refusal-status : (x : Refusal) → is_error_status (status_of x) ≡ true
refusal-status no.NoFile = refl
refusal-status (no.Denied p) = refl
refusal-status (no.Fault f) = refl
refusal-status x = refl

-- so has each answer except a file
abbrev IsListed : Answer → Type 0
IsListed (serve w) = Unit {0}
IsListed (refuse status head_only close) = is_error_status status ≡ true

served-listed : (r : Reading) (file : Option (List ℕ × List ℕ)) → IsListed (served r file)
served-listed r None = refl
served-listed r (Some file) = tt

refusal-listed : (r : Reading) (x : Answer) → refusal r ≡ Some x → IsListed x
refusal-listed r x is =
    cases (not (is_host_fine r) || has_content r.fields) (is_served_method r.method) (is_known_method r.method) is
  where
    same : (y : Answer) → Some y ≡ Some x → IsListed y → IsListed x
    same y e listed = subst IsListed (the-same e) listed
      where
        the-same : Some y ≡ Some x → y ≡ x
        the-same e = cc (e)

    cases : (a b k : Bool)
        → (if a then Some
        (bad_request r) else (if b then None else Some (refuse (if k then 405 else 501) (is_head_only r) (closes r))))
        ≡ Some x → IsListed x
    cases true b k e = same (bad_request r) e refl
    cases false true k e = absurd (cc (e))
    cases false false true e = same (refuse 405 (is_head_only r) (closes r)) e refl
    cases false false false e = same (refuse 501 (is_head_only r) (closes r)) e refl

asks-listed : (reading : Option Reading) (a : Answer) → Asks reading a → IsListed a
asks-listed None a is = subst IsListed (sym is) refl
asks-listed (Some r) a is = by (refusal r) refl is
  where
    by : (o : Option Answer) → refusal r ≡ o
        → MatchOption o ((file : Option (List ℕ × List ℕ)) × TargetIs r.target file × (a ≡ served r file))
        (λ refused. a ≡ refused) → IsListed a
    by None same is = subst IsListed (sym is.2) (served-listed r is.0)
    by (Some x) same is = subst IsListed (sym is) (refusal-listed r x same)

-- The status of each refused head is an error status of this server.
pub refused-status : (head : List ℕ) (status : ℕ) (head_only close : Bool)
    → IsAnswerTo head (refuse status head_only close) → is_error_status status ≡ true
refused-status head status head_only close is = asks-listed is.0 (refuse status head_only close) is.2

-- ---- phases

resolved-short : (site_contents : SiteContents) (n : State) (q : Answer) (script : List ℕ) (f : ℕ) (k : FileResult)
    → is_read (ClosingFile f k) ≡ false → FileResultIsShort k
    → Finds site_contents n q script (resolved q k)
resolved-short site_contents n (serve w) script f (File a len) unread short = by (selected w.range len)
  where
    by : (sel : Selection) → Finds site_contents n (serve w) script (sends_of sel a len)
    by Whole = short
    by (Bytes first last) = short
    by Unsatisfiable = short
resolved-short site_contents n (refuse status head_only close) script f (File a len) unread short = short
resolved-short site_contents n q script f (Length len) unread short = short
resolved-short site_contents n q script f (Fails status) unread short = short
resolved-short site_contents n q script f (TextOf a true) unread short = absurd (cc (unread))
resolved-short site_contents n q script f (TextOf a false) unread short = refl

headed-finds : (site_contents : SiteContents) (n : State) (q : Answer) (script : List ℕ) (a size : ℕ) (more : Following)
    → Finds site_contents n q script (headed a size more)
headed-finds site_contents n q script a size None = tt
headed-finds site_contents n q script a size (Some x) =
    either-way (Finds site_contents n q script) (nat_le (size + x.1) MAX_AGGREGATE_BYTES) tt tt

goes-finds : (site_contents : SiteContents) (n : State) (q : Answer) (script : List ℕ) (taken : ℕ) (more : Following)
    → Finds site_contents n q script (proceeds q taken more)
goes-finds site_contents n q script taken (Some x) = tt
goes-finds site_contents n q script taken None = either-way (Finds site_contents n q script) (keeps q) tt tt

drops-finds : (site_contents : SiteContents) (n : State) (q : Answer) (script : List ℕ) (more : Following)
    → Finds site_contents n q script (drops_next more)
drops-finds site_contents n q script None = tt
drops-finds site_contents n q script (Some x) = tt

-- After a call that opens and reads no file, the head to be made still has lengths and a status within the bounds.
pub finds-after_reply : (site_contents : SiteContents) (m n : State) (buffered : List ℕ) (q : Answer) (script : List ℕ)
    (d : Phase) (r : Reply) (received : List ℕ)
    → is_opening d ≡ false → is_read d ≡ false → Finds site_contents m q script d
    → Finds site_contents n q script (after_reply (at buffered q d) r received).phase
finds-after_reply site_contents m n buffered q script Receiving (reply.Agg a) [] un unread h = tt
finds-after_reply site_contents m n buffered q script Receiving (reply.Agg a) (b ∷ received) un unread h = tt
finds-after_reply site_contents m n buffered q script Receiving r received un unread h = tt
finds-after_reply site_contents m n buffered q script (DroppingInput a) r received un unread h =
    after-done (Finds site_contents n q script) r tt tt
finds-after_reply site_contents m n buffered q script Opening r received un unread h = absurd (cc (un))
finds-after_reply site_contents m n buffered q script (ReadsFile f) r received un unread h = absurd (cc (un))
finds-after_reply site_contents m n buffered q script (ClosingFile f (TextOf a true)) r received un unread h =
    absurd (cc (unread))
finds-after_reply site_contents m n buffered q script (ClosingFile f k) r received un unread h =
    after-done (Finds site_contents n q script) r h (resolved-short site_contents n q script f k refl h)
finds-after_reply site_contents m n buffered q script (Slicing a from to len) r received un unread h =
    after-agg (Finds site_contents n q script) r h (λ x. h)
finds-after_reply site_contents m n buffered q script (DroppingWhole a Script) r received un unread h =
    absurd (cc (unread))
finds-after_reply site_contents m n buffered q script (DroppingWhole a k) r received un unread h =
    after-done (Finds site_contents n q script) r h h
finds-after_reply site_contents m n buffered q script (MakingHead k) r received un unread h =
    after-agg (Finds site_contents n q script) r h
    (λ x. headed-finds site_contents n q script x (count_of received) (following k))
finds-after_reply site_contents m n buffered q script (Joining a size body len) r received un unread h =
    after-agg (Finds site_contents n q script) r tt (λ x. tt)
finds-after_reply site_contents m n buffered q script (SendingWhole s) r received un unread h =
    after-write (Finds site_contents n q script) r tt tt
    (λ k. either-next (Finds site_contents n q script) (after_taking s k) tt tt)
finds-after_reply site_contents m n buffered q script (CuttingPiece s) r received un unread h =
    after-agg (Finds site_contents n q script) r tt (λ x. tt)
finds-after_reply site_contents m n buffered q script (SendingPiece s piece) r received un unread h =
    after-write (Finds site_contents n q script) r tt tt (λ k. tt)
finds-after_reply site_contents m n buffered q script (DroppingPiece s piece) r received un unread h =
    after-done (Finds site_contents n q script) r tt (either-next (Finds site_contents n q script) s tt tt)
finds-after_reply site_contents m n buffered q script (DroppingSent a taken more) r received un unread h =
    after-done (Finds site_contents n q script) r tt (goes-finds site_contents n q script taken more)
finds-after_reply site_contents m n buffered q script (AbortingPiece piece a more) r received un unread h =
    after-done (Finds site_contents n q script) r tt tt
finds-after_reply site_contents m n buffered q script (Aborting a more) r received un unread h =
    after-done (Finds site_contents n q script) r tt (drops-finds site_contents n q script more)
finds-after_reply site_contents m n buffered q script Disconnecting r received un unread h =
    after-done (Finds site_contents n q script) r tt tt
finds-after_reply site_contents m n buffered q script Closed r received un unread h = tt
