-- The state of a client without a running script whose call would block.
use Rattle.std.proofs.Common.{inl, inr, ◌≡◌, ℕ, ◌-◌, ◌⊎◌, List, [], ◌++◌, length, ap, ◌∙◌, refl, sym, subst, Option}
use Rattle.std.proofs.Common.{None, true, false, Bool, append-nil}
use Rattle.iol_core.specs.Text.{Text, bytes_of}
use Rattle.iol_core.specs.State.{State, conn_at, is_gone}
use Rattle.iol_core.specs.declared.descriptors.How.{How}
use Rattle.iol_core.specs.declared.descriptors.Mode.TheVariants as modes
use Rattle.iol_core.specs.declared.refusals.Refusal.TheVariants as no
use Rattle.iol_core.specs.declared.events.Call.{Call}
use Rattle.iol_core.specs.declared.events.Call.TheVariants as call
use Rattle.iol_core.specs.declared.events.Reply.TheVariants as reply
use Rattle.iol_laws.specs.Order.{IsOrderly}
use Rattle.iol_laws.specs.RefusalsLeft.{may_wait}
use Rattle.flash_http.specs.Request.{Answer}
use Rattle.flash_laws.specs.Answers.{Reads}
use Rattle.flash_laws.specs.Client.{IsAwaiting, uses_agg, script_call, conn_call}
use Rattle.flash_laws.specs.Client.Fits.{FitsAlone, ConsistencyAlone}
use Rattle.flash_laws.specs.Conn.{most_buffered, most_read, name_of, text_of, is_head_only, piece_end, next_call}
use Rattle.flash_laws.specs.Workers.WorkerSet.{WorkerSet, IsFixedFor}
use Rattle.flash_laws.specs.World.Remains.{StaysOpen}
use Rattle.flash_laws.specs.World.Idle.{WouldWait}
use Rattle.flash_laws.specs.SiteContents.{SiteContents, Responds, IsAnswer}
use Rattle.flash_laws.specs.Site.{server}
use Rattle.flash_laws.specs.World.Done.{IsHeldUp}
use Rattle.flash_laws.specs.declared.phase.Phase.{Phase}
use Rattle.flash_laws.specs.declared.phase.Phase.TheVariants.{Receiving, DroppingInput, Opening, Reading as Reading}
use Rattle.flash_laws.specs.declared.phase.Phase.TheVariants.{ClosingFile, Slicing, DroppingWhole}
use Rattle.flash_laws.specs.declared.phase.Phase.TheVariants.{MakingHead, Joining, SendingWhole, CuttingPiece}
use Rattle.flash_laws.specs.declared.phase.Phase.TheVariants.{SendingPiece, DroppingPiece, DroppingSent, AbortingPiece}
use Rattle.flash_laws.specs.declared.phase.Phase.TheVariants.{Aborting, Disconnecting, Closed}
use Rattle.flash_laws.proofs.Forms.{at}
use Rattle.flash_laws.proofs.Conn.Responses.{order-all}
use Rattle.flash_laws.proofs.Lists.{clash}
use Rattle.flash_laws.proofs.World.AllLaws.{AllLaws}
use Rattle.flash_laws.proofs.World.Alone.Consistencies.{alone}
use Rattle.flash_laws.proofs.Moves.{either-of}

-- all requests on a connection are answered, and its peer may send more
pub record IsAnsweredSoFar (site_contents : SiteContents) (m : State) (came sent : List ℕ) (c : ℕ) : Type 0 where
  pub whole : IsAnswer site_contents came (sent ++ bytes_of (conn_at m c).outgoing)
  pub peer : (conn_at m c).peer ≡ None
  pub stays : StaysOpen came

-- a call that may not wait is never refused WouldBlock
pub goes : (worker_set : WorkerSet) → AllLaws worker_set → (m : State) (k : Call) → may_wait k ≡ false
    → WouldWait m server k → ⊥
goes worker_set laws m k never step = clash (may_wait k) (laws.left.waits m m server k step) never

module _ (site_contents : SiteContents) (worker_set : WorkerSet) (laws : AllLaws worker_set) (m : State)
    (order : IsOrderly m) (fixed : IsFixedFor site_contents worker_set m) where
  -- a read of a file never waits
  reads-on : (came sent : List ℕ) (fd c g : ℕ) (buffered : List ℕ) (q : Answer) (script : List ℕ)
      → FitsAlone site_contents m came sent fd c (alone buffered script q (Reading g))
      → WouldWait m server (call.IolRead g most_read) → ⊥
  reads-on came sent fd c g buffered q script f step =
      let bad =
      (laws.the.files.reads_file m m server g f.finds.number 0 most_read modes.Read (reply.Refused no.WouldBlock)
      order fixed.site.lives f.finds.may refl f.finds.open_on step).0 in
      cc (bad)

  -- a connection that reads, with all its input taken
  rests : (came sent : List ℕ) (fd c : ℕ) (buffered : List ℕ) (q : Answer) (script : List ℕ)
      → FitsAlone site_contents m came sent fd c (alone buffered script q Receiving)
      → IsAwaiting (alone buffered script q Receiving) → ((conn_at m c).incoming ≡ []) × ((conn_at m c).peer ≡ None)
      → IsAnsweredSoFar site_contents m came sent c
  rests came sent fd c buffered q script f waits empty = by f.consistency
    where
      came-is : came ≡ f.took
      came-is = f.came_is ∙ (ap (λ (t : Text). f.took ++ bytes_of t) empty.0 ∙ append-nil f.took)

      by : ConsistencyAlone site_contents f.expected (conn_at m c) f.took sent (alone buffered script q Receiving)
          → IsAnsweredSoFar site_contents m came sent c
      by (inl o) =
          let reads : Reads f.took o.1.done buffered =
          subst (λ (l : List Answer). Reads f.took l buffered) (append-nil o.1.done) o.1.reads in
          record {
            whole = subst (λ (l : List ℕ). IsAnswer site_contents l (sent ++ bytes_of (conn_at m c).outgoing))
                (sym came-is) (record {
                  qs = o.1.done;
                  rest = buffered;
                  reads = reads;
                  order = order-all o.1.done o.1.open_yet;
                  responds =
                      subst (λ (l : List ℕ). Responds site_contents o.1.done l)
                      (sym (o.1.out_is ∙ append-nil o.1.before))
                      o.1.responds;
                  no_more = inl waits;
                });
            peer = empty.1;
            stays =
                subst (λ (l : List ℕ). StaysOpen l) (sym came-is)
                (record { qs = o.1.done; rest = buffered; reads = reads; open_yet = o.1.open_yet; no_more = waits });
          }
      by (inr (inl finished)) = absurd (let bad = finished.quits in cc (bad))
      by (inr (inr left)) =
          absurd (clash (is_gone (conn_at m c).peer) left.gone (ap (λ (w : Option How). is_gone w) empty.1))

  -- a client without a run is answered, and uses no aggregate, or is held up
  abbrev pub AloneLeft : (came sent : List ℕ) (c : ℕ) (buffered script : List ℕ) → Answer → Phase → Type 0
  AloneLeft came sent c buffered script q d =
      (IsAnsweredSoFar site_contents m came sent c × ((a : ℕ) → uses_agg (alone buffered script q d) a ≡ false))
      ⊎ IsHeldUp m c

  by-phase : (came sent : List ℕ) (fd c : ℕ) (buffered script : List ℕ) (q : Answer) (d : Phase)
      → FitsAlone site_contents m came sent fd c (alone buffered script q d)
      → IsAwaiting (alone buffered script q d) → WouldWait m server (next_call fd (at buffered q d))
      → AloneLeft came sent c buffered script q d
  by-phase came sent fd c buffered script q Receiving f waits step =
      let empty = laws.the.reasons.conn_is_empty m m server fd c (most_buffered - length buffered) f.open_on step in
      inl (rests came sent fd c buffered q script f waits empty, λ a. refl)
  by-phase came sent fd c buffered script q (SendingWhole s) f waits step =
      inr (laws.the.reasons.conn_is_full m m server fd c s.agg f.open_on step)
  by-phase came sent fd c buffered script q (SendingPiece s piece) f waits step =
      inr (laws.the.reasons.conn_is_full m m server fd c piece f.open_on step)
  by-phase came sent fd c buffered script q (DroppingInput a) f waits step =
      absurd (goes worker_set laws m (call.AggDrop a) refl step)
  by-phase came sent fd c buffered script q Opening f waits step =
      absurd (goes worker_set laws m (call.OpenFile (name_of q) modes.Read) refl step)
  by-phase came sent fd c buffered script q (Reading g) f waits step =
      absurd (either-of (λ (k : Call). WouldWait m server k → ⊥) (is_head_only q) (call.Length g)
      (call.IolRead g most_read) (λ step. goes worker_set laws m (call.Length g) refl step)
      (λ step. reads-on came sent fd c g buffered q script f step) step)
  by-phase came sent fd c buffered script q (ClosingFile g k) f waits step =
      absurd (goes worker_set laws m (call.Close g) refl step)
  by-phase came sent fd c buffered script q (Slicing a first last len) f waits step =
      absurd (goes worker_set laws m (call.AggCut a first last) refl step)
  by-phase came sent fd c buffered script q (DroppingWhole a k) f waits step =
      absurd (goes worker_set laws m (call.AggDrop a) refl step)
  by-phase came sent fd c buffered script q (MakingHead k) f waits step =
      absurd (goes worker_set laws m (call.AggMake (text_of q k)) refl step)
  by-phase came sent fd c buffered script q (Joining a size body len) f waits step =
      absurd (goes worker_set laws m (call.AggJoin a body) refl step)
  by-phase came sent fd c buffered script q (CuttingPiece s) f waits step =
      absurd (goes worker_set laws m (call.AggCut s.agg s.from (piece_end s)) refl step)
  by-phase came sent fd c buffered script q (DroppingPiece s piece) f waits step =
      absurd (goes worker_set laws m (call.AggDrop piece) refl step)
  by-phase came sent fd c buffered script q (DroppingSent a taken more) f waits step =
      absurd (goes worker_set laws m (call.AggDrop a) refl step)
  by-phase came sent fd c buffered script q (AbortingPiece piece a more) f waits step =
      absurd (goes worker_set laws m (call.AggDrop piece) refl step)
  by-phase came sent fd c buffered script q (Aborting a more) f waits step =
      absurd (goes worker_set laws m (call.AggDrop a) refl step)
  by-phase came sent fd c buffered script q Disconnecting f waits step =
      absurd (goes worker_set laws m (call.Close fd) refl step)
  by-phase came sent fd c buffered script q Closed f waits step = absurd f.has

  -- the same for a request for a script, whose text is read whole
  for-script : (came sent : List ℕ) (fd c : ℕ) (buffered script : List ℕ) (q : Answer) (d : Phase)
      → FitsAlone site_contents m came sent fd c (alone buffered script q d)
      → IsAwaiting (alone buffered script q d) → WouldWait m server (script_call fd (at buffered q d))
      → AloneLeft came sent c buffered script q d
  for-script came sent fd c buffered script q (Reading g) f waits step =
      absurd (reads-on came sent fd c g buffered q script f step)
  for-script came sent fd c buffered script q d f waits step = by-phase came sent fd c buffered script q d f waits step

  -- the same for every client without a run
  pub alone-left : (came sent : List ℕ) (fd c : ℕ) (scripts : Bool) (buffered script : List ℕ) (q : Answer) (d : Phase)
      → FitsAlone site_contents m came sent fd c (alone buffered script q d) → IsAwaiting (alone buffered script q d)
      → WouldWait m server (conn_call scripts fd (at buffered q d)) → AloneLeft came sent c buffered script q d
  alone-left came sent fd c true buffered script q d f waits step =
      for-script came sent fd c buffered script q d f waits step
  alone-left came sent fd c false buffered script q d f waits step =
      by-phase came sent fd c buffered script q d f waits step
