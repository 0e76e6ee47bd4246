-- The effect of each call, from the kernel's contract.
use Rattle.std.proofs.Common.{refl, subst, ℕ, List}
use Rattle.iol_core.specs.Calls.Domains as domains
use Rattle.iol_core.specs.Calls.Pools as pools
use Rattle.iol_core.specs.Calls.Aggregates as aggs
use Rattle.iol_core.specs.Calls.Descriptors as fds
use Rattle.iol_core.specs.Calls.Files as files
use Rattle.iol_core.specs.declared.events.Call.TheVariants as call
use Rattle.iol_core.specs.declared.events.Event.TheVariants as event
use Rattle.iol_core.specs.declared.events.Reply.TheVariants as reply
use Rattle.iol_kernel.specs.Kernel.{state_of}
use Rattle.iol_system.specs.Effects.{Does}
use Rattle.iol_system.specs.Replies.{reported}
use Rattle.iol_system.specs.Wants.{for_made}
use Rattle.iol_core.proofs.Values.{values_with_agg}
use Rattle.iol_system.proofs.HeldPlaces.{values_seek}
use Rattle.iol_system.proofs.Effects.{as_call, carried_does, kept_does, domain_admitted, looks_does, names_does, never}
use Rattle.iol_system.proofs.Effects.{file_created, shown}
use Rattle.iol_system.proofs.ReplyAnswers.{done, reported_step}
use Rattle.iol_system.proofs.FileEffects.{copies_does, puts_does, places_does, reads_does, writes_does}
use Rattle.iol_system.proofs.FileLengths.{length_ends, new_ends, seek_ends}
use Rattle.iol_system.proofs.BackEffects.{syncs_does, creates_does}
use Rattle.iol_system.proofs.calls.answer_call.Goals as goal

pub returns-in-DomainNew : goal.returns-in-DomainNew
returns-in-DomainNew g c =
    as_call c.in-DomainNew.is c.domain.ensures
    (carried_does reply.Domain (λ s. domains.domain_new s c.args.by) (λ a. refl) refl
    (λ s. reported_step reply.Domain (λ a. refl) (domains.domain_new s c.args.by) s) tt tt (λ k. k) refl c.requires
    c.domain_new.ensures)

pub returns-in-Exit : goal.returns-in-Exit
returns-in-Exit g c =
    as_call c.in-Exit.is c.done.ensures
    (kept_does done (λ s. domains.exit s c.args.by) (λ a. refl) refl
    (λ s. reported_step done (λ a. refl) (domains.exit s c.args.by) s) tt tt (λ k. k) (λ s. refl) refl c.requires
    c.exit.ensures.exit c.exit.ensures.roomy)

pub returns-in-PoolClose : goal.returns-in-PoolClose
returns-in-PoolClose g c =
    as_call c.in-PoolClose.is c.done-in-PoolClose.ensures
    (kept_does done (λ s. pools.pool_close s c.args.by c.in-PoolClose.pool) (λ a. refl) refl
    (λ s. reported_step done (λ a. refl) (pools.pool_close s c.args.by c.in-PoolClose.pool) s) tt tt (λ k. k)
    (λ s. refl) refl c.requires c.pool_close.ensures.pool_close c.pool_close.ensures.roomy)

pub returns-in-PoolAdmit : goal.returns-in-PoolAdmit
returns-in-PoolAdmit g c =
    as_call c.in-PoolAdmit.is c.done-in-PoolAdmit.ensures
    (kept_does done (λ s. pools.pool_admit s c.args.by c.in-PoolAdmit.pool c.in-PoolAdmit.domain) (λ a. refl) refl
    (λ s. reported_step done (λ a. refl) (pools.pool_admit s c.args.by c.in-PoolAdmit.pool c.in-PoolAdmit.domain) s) tt
    (domain_admitted c.args.by c.in-PoolAdmit.pool c.in-PoolAdmit.domain (state_of c.args.kernel.now)
    (state_of c.pool_admit.new.self) c.pool_admit.result c.pool_admit.ensures.list) (λ k. k) (λ s. refl) refl c.requires
    c.pool_admit.ensures.admit c.pool_admit.ensures.roomy)

pub returns-in-SetPool : goal.returns-in-SetPool
returns-in-SetPool g c =
    as_call c.in-SetPool.is c.done-in-SetPool.ensures
    (carried_does done (λ s. pools.set_pool s c.args.by c.in-SetPool.pool) (λ a. refl) refl
    (λ s. reported_step done (λ a. refl) (pools.set_pool s c.args.by c.in-SetPool.pool) s) tt tt (λ k. k) refl
    c.requires c.set_pool.ensures)

pub returns-in-AggDup : goal.returns-in-AggDup
returns-in-AggDup g c =
    as_call c.in-AggDup.is c.agg-in-AggDup.ensures
    (carried_does reply.Agg (λ s. aggs.agg_dup s c.args.by c.in-AggDup.agg) (λ a. refl) refl
    (λ s. reported_step reply.Agg (λ a. refl) (aggs.agg_dup s c.args.by c.in-AggDup.agg) s) tt tt (λ k. k) refl
    c.requires c.agg_dup.ensures)

pub returns-in-AggCut : goal.returns-in-AggCut
returns-in-AggCut g c =
    as_call c.in-AggCut.is c.agg-in-AggCut.ensures
    (carried_does reply.Agg (λ s. aggs.agg_cut s c.args.by c.in-AggCut.agg c.in-AggCut.from c.in-AggCut.to) (λ a. refl)
    refl
    (λ s. reported_step reply.Agg (λ a. refl) (aggs.agg_cut s c.args.by c.in-AggCut.agg c.in-AggCut.from c.in-AggCut.to)
    s) tt tt (λ k. k) refl c.requires c.agg_cut.ensures)

pub returns-in-AggSplit : goal.returns-in-AggSplit
returns-in-AggSplit g c =
    as_call c.in-AggSplit.is c.aggs.ensures
    (carried_does (λ two. reply.Aggs two.0 two.1) (λ s. aggs.agg_split s c.args.by c.in-AggSplit.agg c.in-AggSplit.at)
    (λ a. refl) refl
    (λ s. reported_step (λ two. reply.Aggs two.0 two.1) (λ a. refl)
    (aggs.agg_split s c.args.by c.in-AggSplit.agg c.in-AggSplit.at) s) tt tt (λ k. k) refl c.requires
    c.agg_split.ensures)

pub returns-in-AggJoin : goal.returns-in-AggJoin
returns-in-AggJoin g c =
    as_call c.in-AggJoin.is c.agg-in-AggJoin.ensures
    (carried_does reply.Agg (λ s. aggs.agg_join s c.args.by c.in-AggJoin.first c.in-AggJoin.second) (λ a. refl) refl
    (λ s. reported_step reply.Agg (λ a. refl) (aggs.agg_join s c.args.by c.in-AggJoin.first c.in-AggJoin.second) s) tt
    tt (λ k. k) refl c.requires c.agg_join.ensures)

pub returns-in-AggReplace : goal.returns-in-AggReplace
returns-in-AggReplace g c =
    as_call c.in-AggReplace.is c.agg-in-AggReplace.ensures
    (carried_does reply.Agg (λ s. aggs.agg_replace s c.args.by c.in-AggReplace.agg c.in-AggReplace.from
    c.in-AggReplace.to c.in-AggReplace.with) (λ a. refl) refl
    (λ s. reported_step reply.Agg (λ a. refl)
    (aggs.agg_replace s c.args.by c.in-AggReplace.agg c.in-AggReplace.from c.in-AggReplace.to c.in-AggReplace.with) s)
    tt tt (λ k. k) refl c.requires c.agg_replace.ensures)

pub returns-in-AggDrop : goal.returns-in-AggDrop
returns-in-AggDrop g c =
    as_call c.in-AggDrop.is c.done-in-AggDrop.ensures
    (kept_does done (λ s. aggs.agg_drop s c.args.by c.in-AggDrop.agg) (λ a. refl) refl
    (λ s. reported_step done (λ a. refl) (aggs.agg_drop s c.args.by c.in-AggDrop.agg) s) tt tt (λ k. k) (λ s. refl) refl
    c.requires c.agg_drop.ensures.agg_drop c.agg_drop.ensures.roomy)

pub returns-in-AggGive : goal.returns-in-AggGive
returns-in-AggGive g c =
    as_call c.in-AggGive.is c.agg-in-AggGive.ensures
    (carried_does reply.Agg (λ s. aggs.agg_give s c.args.by c.in-AggGive.agg c.in-AggGive.to) (λ a. refl) refl
    (λ s. reported_step reply.Agg (λ a. refl) (aggs.agg_give s c.args.by c.in-AggGive.agg c.in-AggGive.to) s) tt tt
    (λ k. k) refl c.requires c.agg_give.ensures)

pub returns-in-Show : goal.returns-in-Show
returns-in-Show g c =
    as_call c.in-Show.is c.bytes.ensures (looks_does reply.Bytes (λ s. aggs.show s c.args.by c.in-Show.agg) (λ a. refl)
    refl (λ s. reported_step reply.Bytes (λ a. refl) (aggs.show s c.args.by c.in-Show.agg) s) tt tt (λ k. k) (λ s. refl)
    refl (λ s. refl) (λ s d a t is kept. is) (λ is. refl)
    (shown c.args.by c.in-Show.agg (g.B.Backing.disk c.args.backing.now) (state_of c.args.kernel.now) c.show.result
    c.requires c.show.ensures.show c.show.ensures.roomy))

pub returns-in-FileNew : goal.returns-in-FileNew
returns-in-FileNew g c =
    as_call c.in-FileNew.is c.file.ensures
    (names_does reply.File (λ s. files.file_new s c.args.by c.in-FileNew.name c.in-FileNew.pool) (λ a. refl) refl
    (λ s. reported_step reply.File (λ a. refl) (files.file_new s c.args.by c.in-FileNew.name c.in-FileNew.pool) s)
    (new_ends (g.B.Backing.disk c.args.backing.now) (state_of c.args.kernel.now) c.args.by c.in-FileNew.name
    c.in-FileNew.pool c.file_new.result c.file_new.ensures.fits)
    (file_created (g.B.Backing.disk c.args.backing.now)
    (λ s. files.file_new s c.args.by c.in-FileNew.name c.in-FileNew.pool) c.args.by c.in-FileNew.pool c.in-FileNew.name
    (state_of c.args.kernel.now) (state_of c.file_new.new.self) c.file_new.result c.file_new.ensures.names) (λ k. k)
    (λ s. refl) (λ s. refl) refl refl refl c.file_new.ensures.names)

pub returns-in-OpenFile : goal.returns-in-OpenFile
returns-in-OpenFile g c =
    as_call c.in-OpenFile.is c.fd.ensures
    (carried_does reply.Fd (λ s. files.open_file s c.args.by c.in-OpenFile.name c.in-OpenFile.mode) (λ a. refl) refl
    (λ s. reported_step reply.Fd (λ a. refl) (files.open_file s c.args.by c.in-OpenFile.name c.in-OpenFile.mode) s) tt
    tt (λ k. k) refl c.requires c.open_file.ensures)

pub returns-in-Pipe : goal.returns-in-Pipe
returns-in-Pipe g c =
    as_call c.in-Pipe.is c.fds.ensures (carried_does (λ two. reply.Fds two.0 two.1) (λ s. fds.pipe s c.args.by)
    (λ a. refl) refl (λ s. reported_step (λ two. reply.Fds two.0 two.1) (λ a. refl) (fds.pipe s c.args.by) s) tt tt
    (λ k. k) refl c.requires c.pipe.ensures)

pub returns-in-GiveFd : goal.returns-in-GiveFd
returns-in-GiveFd g c =
    as_call c.in-GiveFd.is c.fd-in-GiveFd.ensures
    (carried_does reply.Fd (λ s. fds.give_fd s c.args.by c.in-GiveFd.fd c.in-GiveFd.to) (λ a. refl) refl
    (λ s. reported_step reply.Fd (λ a. refl) (fds.give_fd s c.args.by c.in-GiveFd.fd c.in-GiveFd.to) s) tt tt (λ k. k)
    refl c.requires c.give_fd.ensures)

pub returns-in-Close : goal.returns-in-Close
returns-in-Close g c =
    as_call c.in-Close.is c.done-in-Close.ensures
    (kept_does done (λ s. fds.close s c.args.by c.in-Close.fd) (λ a. refl) refl
    (λ s. reported_step done (λ a. refl) (fds.close s c.args.by c.in-Close.fd) s) tt tt (λ k. k) (λ s. refl) refl
    c.requires c.close.ensures.close c.close.ensures.roomy)

pub returns-in-Seek : goal.returns-in-Seek
returns-in-Seek g c =
    as_call c.in-Seek.is c.done-in-Seek.ensures (looks_does done (λ s. files.seek s c.args.by c.in-Seek.fd c.in-Seek.at)
    (λ a. refl) refl (λ s. reported_step done (λ a. refl) (files.seek s c.args.by c.in-Seek.fd c.in-Seek.at) s)
    (seek_ends (g.B.Backing.disk c.args.backing.now) (state_of c.args.kernel.now) c.args.by c.in-Seek.fd c.in-Seek.at
    c.seek.result c.seek.ensures.ends) tt (λ k. k) (λ s. refl) refl (λ s. refl)
    (values_seek c.args.by c.in-Seek.fd c.in-Seek.at) (never refl) c.seek.ensures.looks)

pub returns-in-Length : goal.returns-in-Length
returns-in-Length g c =
    as_call c.in-Length.is c.count.ensures (looks_does reply.Count (λ s. files.file_length s c.args.by c.in-Length.fd)
    (λ a. refl) refl (λ s. reported_step reply.Count (λ a. refl) (files.file_length s c.args.by c.in-Length.fd) s)
    (length_ends (g.B.Backing.disk c.args.backing.now) (state_of c.args.kernel.now) c.args.by c.in-Length.fd
    c.file_length.result c.file_length.ensures.ends) tt (λ k. k) (λ s. refl) refl (λ s. refl) (λ s d a t is kept. is)
    (λ is. refl) c.file_length.ensures.reported)

pub returns-in-Accept : goal.returns-in-Accept
returns-in-Accept g c =
    as_call c.in-Accept.is c.fd-in-Accept.ensures
    (carried_does reply.Fd (λ s. fds.accept s c.args.by) (λ a. refl) refl
    (λ s. reported_step reply.Fd (λ a. refl) (fds.accept s c.args.by) s) tt tt (λ k. k) refl c.requires
    c.accept.ensures)

pub returns-in-AggMake : goal.returns-in-AggMake
returns-in-AggMake g c =
    as_call c.in-AggMake.is c.agg.ensures
    (subst (λ (l : List ℕ). Does (g.B.Backing.disk c.args.backing.now) (state_of c.args.kernel.now)
    (event.Call c.args.by (call.AggMake l)) (reported reply.Agg c.agg_make.result)
    (g.B.Backing.disk c.args.backing.now) (state_of c.agg_make.new.self)) c.as_slice.ensures
    (places_does reply.Agg (λ s. (aggs.agg_make s c.args.by c.as_slice.result.now)) (λ s t. aggs.with_agg s c.args.by t)
    (for_made (state_of c.args.kernel.now) c.args.by c.as_slice.result.now)
    (event.Call c.args.by (call.AggMake c.as_slice.result.now)) (g.B.Backing.disk c.args.backing.now)
    (state_of c.args.kernel.now) (state_of c.agg_make.new.self) c.agg_make.result (λ a. refl)
    (record {
      unwritten = refl;
      unlent = refl;
      goes = λ d p k. k;
      asks = λ s. refl;
      uses = λ s. refl;
      unshared =
          λ s. refl;
      moving = refl;
      inside = λ s. refl;
      changes = refl;
      keeps = λ s t. values_with_agg s c.args.by t;
      has = λ d k. k;
      lacks = λ d k. k;
      fits = λ d k. k;
      publishes = λ n k. k;
      creates = λ x n. tt;
      late =
          λ d x n k. k;
      sums = λ x n k. k;
    })
    (λ s t r step. reported_step reply.Agg (λ a. refl) (aggs.agg_make s c.args.by c.as_slice.result.now) s t r step)
    tt c.agg_make.ensures.places c.agg_make.ensures.slices))

pub returns-in-PoolCreate : goal.returns-in-PoolCreate
returns-in-PoolCreate g c =
    as_call c.in-PoolCreate.is c.pool.ensures
    (creates_does c.args.by c.in-PoolCreate.chunks c.in-PoolCreate.domains (g.B.Backing.disk c.args.backing.now)
    (state_of c.args.kernel.now) (state_of c.pool_create.new.self) c.pool_create.result c.requires
    c.pool_create.ensures.create c.pool_create.ensures.chunks c.pool_create.ensures.room c.pool_create.ensures.no_room)

pub returns-in-IolRead : goal.returns-in-IolRead
returns-in-IolRead g c =
    as_call c.in-IolRead.is c.agg-in-IolRead.ensures
    (reads_does c.args.by c.in-IolRead.fd c.in-IolRead.count (g.B.Backing.disk c.args.backing.now)
    (g.B.Backing.disk c.iol_read.new.backing) (state_of c.args.kernel.now) (state_of c.iol_read.new.self)
    c.iol_read.result c.iol_read.ensures.serves c.iol_read.ensures.reads c.iol_read.ensures.slices)

pub returns-in-IolWrite : goal.returns-in-IolWrite
returns-in-IolWrite g c =
    as_call c.in-IolWrite.is c.count-in-IolWrite.ensures
    (writes_does c.args.by c.in-IolWrite.fd c.in-IolWrite.agg (g.B.Backing.disk c.args.backing.now)
    (state_of c.args.kernel.now) (state_of c.iol_write.new.self) c.iol_write.result
    (c.iol_write.ensures.serves (g.B.Backing.disk c.args.backing.now)) c.iol_write.ensures.writes
    c.iol_write.ensures.slices)

pub returns-in-Fsync : goal.returns-in-Fsync
returns-in-Fsync g c =
    as_call c.in-Fsync.is c.done-in-Fsync.ensures
    (syncs_does c.args.by c.in-Fsync.fd (g.B.Backing.disk c.args.backing.now) (g.B.Backing.disk c.fsync.new.backing)
    (state_of c.args.kernel.now) (state_of c.fsync.new.self) c.fsync.result c.requires c.fsync.ensures.serves
    c.fsync.ensures.syncs)

pub returns-in-Read : goal.returns-in-Read
returns-in-Read g c =
    as_call c.in-Read.is c.bytes-in-Read.ensures
    (copies_does c.args.by c.in-Read.fd c.in-Read.count (g.B.Backing.disk c.args.backing.now)
    (g.B.Backing.disk c.read_bytes.new.backing) (state_of c.args.kernel.now) (state_of c.read_bytes.new.kernel)
    c.read_bytes.result c.read_bytes.ensures.serves c.read_bytes.ensures.copies)

pub returns-in-Write : goal.returns-in-Write
returns-in-Write g c =
    as_call c.in-Write.is c.count-in-Write.ensures
    (subst (λ (l : List ℕ). Does (g.B.Backing.disk c.args.backing.now) (state_of c.args.kernel.now)
    (event.Call c.args.by (call.Write c.in-Write.fd l)) (reported reply.Count c.write.result)
    (g.B.Backing.disk c.args.backing.now) (state_of c.write.new.kernel)) c.as_slice-in-Write.ensures
    (puts_does c.args.by c.in-Write.fd c.as_slice-in-Write.result.now (g.B.Backing.disk c.args.backing.now)
    (state_of c.args.kernel.now) (state_of c.write.new.kernel) c.write.result
    (c.write.ensures.serves (g.B.Backing.disk c.args.backing.now)) c.write.ensures.queue c.write.ensures.slices
    c.write.ensures.room c.write.ensures.no_room c.write.ensures.memory c.write.ensures.puts c.write.ensures.lays
    c.write.ensures.refused))
