-- The bound is at least the measure.
use Rattle.std.proofs.Common.{◌≡◌, ℕ, ◌+◌, ◌*◌, ◌-◌, ◌≤◌, List, ◌++◌, length, drop, ap, refl, arith, Option, Some, None}
use Rattle.std.proofs.Common.{true, false, Bool, length-append, length-drop, if◌then◌else◌}
use Rattle.iol_core.specs.NumberedLists.{in_place}
use Rattle.iol_core.specs.State.{State, conn_at}
use Rattle.iol_core.specs.declared.limits.TheConstants.{MAX_OPEN}
use Rattle.iol_proc.specs.declared.process_slot.ProcessSlot.{ProcessSlot}
use Rattle.flash_http.specs.Request.{Answer, serve}
use Rattle.flash_laws.specs.Client.{Client, is_for_script}
use Rattle.flash_laws.specs.Client.Fits.{FitsBy}
use Rattle.flash_laws.specs.Conn.{Conn, Following, whole}
use Rattle.flash_laws.specs.Conn.Fits.{Has, MoreIsReadable, HoldsRestFrom}
use Rattle.flash_laws.specs.SiteContents.{SiteContents}
use Rattle.flash_laws.specs.Site.ClientConsistency.{AllFit}
use Rattle.flash_laws.specs.Site.Past.{Past}
use Rattle.flash_laws.specs.Workers.WorkerSet.{WorkerSet}
use Rattle.flash_laws.specs.declared.phase.Sending.{Sending}
use Rattle.flash_laws.specs.declared.phase.Phase.{Phase}
use Rattle.flash_laws.specs.declared.phase.Phase.TheVariants.{Receiving, DroppingInput, Opening, Reading as Reading}
use Rattle.flash_laws.specs.declared.phase.Phase.TheVariants.{ClosingFile, Slicing, DroppingWhole}
use Rattle.flash_laws.specs.declared.phase.Phase.TheVariants.{MakingHead, Joining, SendingWhole, CuttingPiece}
use Rattle.flash_laws.specs.declared.phase.Phase.TheVariants.{SendingPiece, DroppingPiece, DroppingSent, AbortingPiece}
use Rattle.flash_laws.specs.declared.phase.Phase.TheVariants.{Aborting, Disconnecting, Closed}
use Rattle.flash_laws.specs.declared.script_run.Running.{Running}
use Rattle.flash_laws.proofs.Conn.Progress.{sent_after}
use Rattle.flash_laws.proofs.Lists.{clash}
use Rattle.flash_progress.specs.Bound.{turns_for, turns_of, turns_at, turns_of_waiting, unread_at, sum_to}
use Rattle.flash_progress.proofs.Measure.{request_turns, ahead, reads_on, buffered_turns, unread_turns}
use Rattle.flash_progress.proofs.RequestProgress.{conn_turns, made-short, few-drops}
use Rattle.flash_progress.proofs.TurnsLeft.{AreShort, expected-short, no-script, no_more, of_place, place_turns}
use Rattle.flash_progress.proofs.TurnsLeft.{accept_step_turns, all_left}

-- ---- a request in progress

more-calls : (m : State) (more : Following) (bytes : List ℕ) → MoreIsReadable m more bytes
    → sent_after more ≤ 3 * length bytes + 4
more-calls m None bytes is_readable = omega arith
more-calls m (Some x) bytes is_readable = let size = is_readable.1 in omega (arith, size)

rest-long : (expected bytes after : List ℕ) (taken : ℕ) → bytes ++ after ≡ drop taken expected
    → length bytes + length after ≤ length expected
rest-long expected bytes after taken is =
    let all = ap (λ (l : List ℕ). length l) is in
    let both = length-append bytes after in
    let rest = length-drop taken expected in
    omega (arith, all, both, rest)

from-long : (m : State) (expected : List ℕ) (s : Sending) → HoldsRestFrom m expected s
    → 3 * (s.len - s.from) + sent_after s.more ≤ 3 * length expected + 4
from-long m expected s h =
    let calls = more-calls m s.more h.after h.follows in
    let long = rest-long expected (drop s.from h.bytes) h.after s.taken h.next in
    let part = length-drop s.from h.bytes in
    let size = h.size in
    omega (arith, calls, long, part, size)

pub ahead-short : (m : State) (q : Answer) (expected : List ℕ) (longest : ℕ) (d : Phase) → Has m q expected d
    → length expected ≤ longest → ahead longest q d ≤ 3 * longest + 21
ahead-short m q expected longest Receiving has short = omega arith
ahead-short m q expected longest (DroppingInput a) has short = omega arith
ahead-short m q expected longest Opening has short = omega arith
ahead-short m q expected longest (Reading f) has short = omega arith
ahead-short m q expected longest (ClosingFile f k) has short = omega arith
ahead-short m q expected longest (Slicing a from to len) has short = let few =
    made-short m q expected longest (Slicing a from to len) refl has short in omega (arith, few)
ahead-short m q expected longest (DroppingWhole a k) has short = let few =
    made-short m q expected longest (DroppingWhole a k) refl has short in omega (arith, few)
ahead-short m q expected longest (MakingHead k) has short = let few =
    made-short m q expected longest (MakingHead k) refl has short in omega (arith, few)
ahead-short m q expected longest (Joining a size body len) has short =
    let h : HoldsRestFrom m expected (whole a size 0 (Some (body, len))) = has.0 in
    let long = rest-long expected h.bytes h.after 0 h.next in
    let one = h.size in
    let two = h.follows.1 in
    omega (arith, long, one, two, short)
ahead-short m q expected longest (SendingWhole s) has short =
    let few = from-long m expected s has.0 in omega (arith, few, short)
ahead-short m q expected longest (CuttingPiece s) has short =
    let few = from-long m expected s has.0 in omega (arith, few, short)
ahead-short m q expected longest (SendingPiece s piece) has short =
    let few = from-long m expected s has.whole in omega (arith, few, short)
ahead-short m q expected longest (DroppingPiece s piece) has short =
    let few = from-long m expected s has.2 in omega (arith, few, short)
ahead-short m q expected longest (DroppingSent a taken more) has short =
    let calls = more-calls m more has.after has.follows in
    let rest = ap (λ (l : List ℕ). length l) has.next in
    let part = length-drop taken expected in
    omega (arith, calls, rest, part, short)
ahead-short m q expected longest (AbortingPiece piece a more) has short = omega arith
ahead-short m q expected longest (Aborting a more) has short = let few = few-drops q a more in omega (arith, few)
ahead-short m q expected longest Disconnecting has short = omega arith
ahead-short m q expected longest Closed has short = omega arith

-- ---- a connection

-- the measure of one connection is at most its part of the bound
within : (longest unread buffered ahead buffered_now : ℕ) → ahead ≤ 3 * longest + 21
    → buffered_now ≤ request_turns longest * buffered
    → ahead + (buffered_now + (request_turns longest + 2) * unread) ≤ (3 * longest + 22) * (buffered + unread + 1)
within longest unread buffered ahead buffered_now few less =
    let split : (3 * longest + 22) * (buffered + unread + 1) ≡ request_turns longest * buffered + 6 * buffered
    + ((request_turns longest + 2) * unread + 4 * unread) + (3 * longest + 22) = grind (arith) in
    omega (arith, few, less, split)

buffered-most : (longest : ℕ) (on : Bool) (buffered : List ℕ)
    → buffered_turns longest on buffered ≤ request_turns longest * length buffered
buffered-most longest true buffered = omega arith
buffered-most longest false buffered = omega arith

conn-within : (m : State) (expected : List ℕ) (longest unread : ℕ) (x : Conn) → Has m x.request expected x.phase
    → length expected ≤ longest
    → conn_turns longest unread x ≤ turns_for longest (length x.buffered + unread)
conn-within m expected longest unread x has short =
    within longest unread (length x.buffered) (ahead longest x.request x.phase)
    (buffered_turns longest (reads_on x.request x.phase) x.buffered)
    (ahead-short m x.request expected longest x.phase has short)
    (buffered-most longest (reads_on x.request x.phase) x.buffered)

-- ---- all

module _ (site_contents : SiteContents) (worker_set : WorkerSet) (files : site_contents.scripts ≡ false) (longest : ℕ)
    (short : AreShort site_contents longest) (m : State) (p : Past) (clients : List (Option Client))
    (process_slots : List (ProcessSlot worker_set.Worker))
    (fit : AllFit site_contents worker_set m p clients process_slots) where
  client-within : (unread fd c : ℕ) (x : Client) (run : Option Running)
      → FitsBy site_contents worker_set run m (p.came c) (p.sent c) fd c x process_slots
      → conn_turns longest unread x.conn ≤ turns_for longest (length x.conn.buffered + unread)
  client-within unread fd c x None f =
      conn-within m _ longest unread x.conn f.has
      (expected-short site_contents longest x.conn.request f.expected x.conn.phase f.proper short f.may)
  client-within unread fd c x (Some y) f =
      absurd (clash (is_for_script site_contents.scripts (serve f.wanted)) f.script.is_for
      (no-script site_contents.scripts (serve f.wanted) files))

  place-within : (fd : ℕ) → place_turns longest m clients fd ≤ turns_at longest m clients fd
  place-within fd = by (in_place clients fd) refl
    where
      by : (o : Option Client) → in_place clients fd ≡ o
          → of_place longest (unread_at m fd) o ≤ turns_of longest (unread_at m fd) o
      by None none = omega arith
      by (Some x) there =
          client-within (unread_at m fd) fd (fit.each fd x there).conn x x.run (fit.each fd x there).fits

  accept_step-within : (c : ℕ) → accept_step_turns longest m c ≤ turns_of_waiting longest m c
  accept_step-within c = by (conn_at m c).accepted
    where
      unread : ℕ
      unread = length (conn_at m c).incoming

      by : (b : Bool) → (if b then 0 else unread_turns longest unread + 7) ≤ (if b then 0 else turns_for longest unread)
      by true = omega arith
      by false =
          let split : (3 * longest + 22) * (unread + 1) ≡ (request_turns longest + 2) * unread + 4 * unread
          + (3 * longest + 22) = grind (arith) in
          omega (arith, split)

  -- The measure of all is at most the bound.
  pub left-within : (conns : ℕ)
      → all_left longest MAX_OPEN conns m clients ≤ sum_to MAX_OPEN (turns_at longest m clients) + sum_to conns
      (turns_of_waiting longest m)
  left-within conns =
      let places = no_more MAX_OPEN (turns_at longest m clients) (place_turns longest m clients) place-within in
      let accept_steps = no_more conns (turns_of_waiting longest m) (accept_step_turns longest m) accept_step-within in
      omega (arith, places, accept_steps)
