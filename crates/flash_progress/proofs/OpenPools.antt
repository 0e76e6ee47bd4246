-- No call for a connection of files meets a closed pool: it makes bytes only in the default pool, which is open.
use Rattle.std.proofs.Common.{◌≡◌, ℕ, ◌-◌, List, length, refl, arith, Some, true, false, Bool, if◌then◌else◌}
use Rattle.iol_core.specs.State.{State, descriptor, is_live}
use Rattle.iol_core.specs.Run.{StepsTo}
use Rattle.iol_core.specs.declared.descriptors.Descriptor.TheVariants as on
use Rattle.iol_core.specs.declared.descriptors.Mode.TheVariants as modes
use Rattle.iol_core.specs.declared.refusals.Refusal.TheVariants as no
use Rattle.iol_core.specs.declared.events.Call.TheVariants as call
use Rattle.iol_core.specs.declared.events.Event.TheVariants as event
use Rattle.iol_core.specs.declared.events.Reply.TheVariants as reply
use Rattle.iol_laws.specs.Order.{IsOrderly}
use Rattle.flash_http.specs.Request.{Answer, serve, refuse}
use Rattle.flash_laws.specs.Client.Fits.{expected_in, Finds}
use Rattle.flash_laws.specs.Conn.{most_buffered, most_read, text_of, piece_end, is_head_only, next_call}
use Rattle.flash_laws.specs.Conn.Fits.{Has}
use Rattle.flash_laws.specs.Conn.Progress.{CanMake}
use Rattle.flash_laws.specs.SiteContents.{SiteContents}
use Rattle.flash_laws.specs.Site.{server}
use Rattle.flash_laws.specs.Workers.WorkerSet.{WorkerSet}
use Rattle.flash_laws.specs.declared.phase.Phase.{Phase}
use Rattle.flash_laws.specs.declared.phase.Phase.TheVariants.{Receiving, DroppingInput, Opening, Reading as Reading}
use Rattle.flash_laws.specs.declared.phase.Phase.TheVariants.{ClosingFile, Slicing, DroppingWhole}
use Rattle.flash_laws.specs.declared.phase.Phase.TheVariants.{MakingHead, Joining, SendingWhole, CuttingPiece}
use Rattle.flash_laws.specs.declared.phase.Phase.TheVariants.{SendingPiece, DroppingPiece, DroppingSent, AbortingPiece}
use Rattle.flash_laws.specs.declared.phase.Phase.TheVariants.{Aborting, Disconnecting, Closed}
use Rattle.flash_laws.proofs.Forms.{at}
use Rattle.flash_laws.proofs.Lists.{turned, differ, within-part}
use Rattle.flash_laws.proofs.World.AllLaws.{AllLaws}

module _ (site_contents : SiteContents) (worker_set : WorkerSet) (laws : AllLaws worker_set) (m n : State) (fd c : ℕ)
    (buffered script expected : List ℕ) (order : IsOrderly m) (lives : is_live m server ≡ true)
    (open_on : descriptor m server fd ≡ Some (on.Connection c)) (p : ℕ) where
  -- its call is refused since a pool is closed
  abbrev Refuses : Answer → Phase → Type 0
  Refuses q d = StepsTo m (event.Call server (next_call fd (at buffered q d))) (reply.Refused (no.PoolClosed p)) n

  reads-on : (q : Answer) (g : ℕ) → Has m q (expected_in expected q (Reading g)) (Reading g)
      → Finds site_contents m q script (Reading g) → Refuses q (Reading g) → ⊥
  reads-on q g has found step = by (is_head_only q) step
    where
      by : (b : Bool) → StepsTo m (event.Call server (if b then call.Length g else call.IolRead g most_read))
          (reply.Refused (no.PoolClosed p)) n → ⊥
      by true step = laws.left.measures m n server g found.number 0 modes.Read (no.PoolClosed p) lives found.open_on
          step
      by false step =
          let did =
          laws.the.files.reads_file m n server g found.number 0 most_read modes.Read
          (reply.Refused (no.PoolClosed p)) order lives found.may refl found.open_on step in
          let bad = did.0 in cc (bad)

  pub never-closed : (q : Answer) (d : Phase) → Has m q (expected_in expected q d) d → Finds site_contents m q script d
      → CanMake m (next_call fd (at buffered q d)) → Refuses q d → ⊥
  never-closed q Receiving has found can step =
      laws.left.reads_queue m n server fd (most_buffered - length buffered) (on.Connection c) (no.PoolClosed p) lives
      open_on
      refl refl step
  never-closed q (DroppingInput a) has found can step =
      laws.left.drops m n server a has.0 (no.PoolClosed p) lives has.1 step
  never-closed (serve w) Opening has found can step =
      let did = laws.the.files.opens m n server w.name modes.Read (reply.Refused (no.PoolClosed p)) lives step in
      let bad = did.0 in cc (bad)
  never-closed (refuse status head_only close) Opening has found can step = has
  never-closed q (Reading g) has found can step = reads-on q g has found step
  never-closed q (ClosingFile g k) has found can step =
      laws.left.closes m n server g (on.File has.0.0 has.0.1 modes.Read) (no.PoolClosed p) lives has.0.2 step
  never-closed q (Slicing a from to len) has found can step =
      laws.left.cut m n server a from to has.bytes (no.PoolClosed p) lives has.is_readable (let some = has.some in
      omega (arith, some)) (within-part from to has.bytes has.some has.count) step
  never-closed q (DroppingWhole a k) has found can step =
      laws.left.drops m n server a has.0.0 (no.PoolClosed p) lives has.0.1 step
  never-closed q (MakingHead k) has found can step =
      laws.left.make m n server can.place (text_of q k) (no.PoolClosed p) lives can.default can.open_yet can.fits step
  never-closed q (Joining a size body len) has found can step =
      laws.left.join m n server a body has.0.bytes has.0.after (no.PoolClosed p) lives has.0.is_readable has.0.follows.0
      (differ a body (turned body a has.0.apart))
      (let one = has.0.size in let two = has.0.follows.1 in let fits = has.1 in omega (arith, one, two, fits)) step
  never-closed q (SendingWhole s) has found can step =
      laws.left.writes_queue m n server fd s.agg (on.Connection c) has.0.bytes (no.PoolClosed p) lives open_on refl refl
      has.0.is_readable step
  never-closed q (CuttingPiece s) has found can step =
      laws.left.cut m n server s.agg s.from (piece_end s) has.0.bytes (no.PoolClosed p) lives has.0.is_readable
      (let some = has.1 in omega (arith, some)) (let size = has.0.size in omega (arith, size)) step
  never-closed q (SendingPiece s piece) has found can step =
      laws.left.writes_queue m n server fd piece (on.Connection c) _ (no.PoolClosed p) lives open_on refl refl
      has.is_readable step
  never-closed q (DroppingPiece s piece) has found can step =
      laws.left.drops m n server piece has.0.0 (no.PoolClosed p) lives has.0.1 step
  never-closed q (DroppingSent a taken more) has found can step =
      laws.left.drops m n server a has.bytes (no.PoolClosed p) lives has.is_readable step
  never-closed q (AbortingPiece piece a more) has found can step =
      laws.left.drops m n server piece has.0.0 (no.PoolClosed p) lives has.0.1 step
  never-closed q (Aborting a more) has found can step =
      laws.left.drops m n server a has.readable.0 (no.PoolClosed p) lives has.readable.1 step
  never-closed q Disconnecting has found can step =
      laws.left.closes m n server fd (on.Connection c) (no.PoolClosed p) lives open_on step
  never-closed q Closed has found can step = has
