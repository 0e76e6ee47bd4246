-- External events: examples.
use Rattle.std.proofs.Common.{◌≡◌, ◌+◌, [], ◌∷◌, length, replicate, refl, Some}
use Rattle.std.specs.Prelude.{codes, Ok, Err}
use Rattle.iol_core.specs.Text.{Text, labelled, bytes_of}
use Rattle.iol_core.specs.State.{new_conn, domain, pool, file, content, pipe_at, conn_at, with_domain, with_pipe}
use Rattle.iol_core.specs.State.{with_conn, with_content}
use Rattle.iol_core.specs.declared.refusals.Refusal.TheVariants.{BadFd, NoPool, BadRange, TooMany, PoolClosed}
use Rattle.iol_core.specs.declared.refusals.Refusal.TheVariants.{BrokenPipe, WouldBlock}
use Rattle.iol_core.specs.declared.descriptors.How.TheVariants as how
use Rattle.iol_core.specs.declared.limits.TheConstants.{MAX_QUEUE_BYTES, LAST_CONNECTION}
use Rattle.iol_core.proofs.Examples.World.{answered, world}
use Rattle.iol_core.specs.Calls.Outside.{conn_new, arrive, peer_closed, transmit, flush, drop_clean}
use Rattle.iol_core.specs.Calls.Descriptors.{close}
use Rattle.iol_core.specs.Checksum.{checksum, folded, word_sum}

-- a full queue
arrive_full : (q : Text) → length q ≡ MAX_QUEUE_BYTES
    → answered (arrive (record world { conns = (1, record (new_conn 1) { incoming = q }) ∷ [] }) 1 (codes "!"))
    ≡ Err WouldBlock
unfolding domain pool file content pipe_at conn_at with_domain with_pipe with_conn with_content
arrive_full q long = rw long refl

conn_new_waits :
    (answered (conn_new world 1) ≡ Ok 4)
    × (conn_at (conn_new world 1).after 4 ≡ new_conn 1)
unfolding domain pool file content pipe_at conn_at with_domain with_pipe with_conn with_content
conn_new_waits = (refl, refl)

conn_new_refused :
    (answered (conn_new world 5) ≡ Err NoPool)
    × (answered (conn_new (record world { conns = replicate 1024 (1, new_conn 1) }) 1) ≡ Err TooMany)
    × (answered (conn_new (record world { next_conn = LAST_CONNECTION + 1 }) 1) ≡ Err TooMany)
    × (answered (conn_new world 4) ≡ Err (PoolClosed 4))
unfolding domain pool file content pipe_at conn_at with_domain with_pipe with_conn with_content
conn_new_refused = (refl, refl, refl, refl)

arrive_in_its_pool :
    (answered (arrive world 1 (codes "!")) ≡ Ok 1)
    × ((conn_at (arrive world 1 (codes "!")).after 1).incoming ≡ labelled 1 (codes "in!"))
    × (answered (arrive world 1 []) ≡ Ok 0)
unfolding domain pool file content pipe_at conn_at with_domain with_pipe with_conn with_content
arrive_in_its_pool = (refl, refl, refl)

arrive_refused :
    (answered (arrive world 9 []) ≡ Err BadFd)
    × (answered (arrive (peer_closed world 1 how.Done).after 1 []) ≡ Err BrokenPipe)
    × (answered (arrive (close world 1 4).after 1 (codes "!")) ≡ Err BrokenPipe)
unfolding domain pool file content pipe_at conn_at with_domain with_pipe with_conn with_content
arrive_refused = (refl, refl, refl)

-- a peer that is gone stays gone, and its output is dropped; a connection that was never accepted is then removed
peer_closed_and_gone :
    (answered (peer_closed world 1 how.Done) ≡ Ok tt)
    × ((conn_at (peer_closed world 1 how.Done).after 1).peer ≡ Some how.Done)
    × (bytes_of (conn_at (peer_closed world 1 how.Done).after 1).outgoing ≡ codes "out")
    × ((conn_at (peer_closed world 1 how.Gone).after 1).outgoing ≡ [])
    × ((conn_at (peer_closed (peer_closed world 1 how.Gone).after 1 how.Done).after 1).peer ≡ Some how.Gone)
    × (answered (peer_closed (peer_closed world 3 how.Gone).after 3 how.Gone) ≡ Err BadFd)
unfolding domain pool file content pipe_at conn_at with_domain with_pipe with_conn with_content
peer_closed_and_gone = (refl, refl, refl, refl, refl, refl)

peer_closed_refused : answered (peer_closed world 9 how.Done) ≡ Err BadFd
unfolding domain pool file content pipe_at conn_at with_domain with_pipe with_conn with_content
peer_closed_refused = refl

transmit_with_its_own_checksum :
    (answered (transmit world 1 2) ≡ Ok (codes "ou", checksum (codes "ou")))
    × (bytes_of (conn_at (transmit world 1 2).after 1).outgoing ≡ codes "t")
    × (answered (transmit (transmit (close world 1 4).after 1 9).after 1 9) ≡ Err BadFd)
unfolding domain pool file content pipe_at conn_at with_domain with_pipe with_conn with_content
transmit_with_its_own_checksum = (refl, refl, refl)

transmit_refused :
    (answered (transmit world 9 1) ≡ Err BadFd)
    × (answered (transmit world 1 0) ≡ Err BadRange)
    × (answered (transmit world 2 1) ≡ Err WouldBlock)
unfolding domain pool file content pipe_at conn_at with_domain with_pipe with_conn with_content
transmit_refused = (refl, refl, refl)

flush_and_drop_clean :
    (answered (flush world) ≡ Ok tt)
    × ((flush world).after ≡ world)
    × (answered (drop_clean world) ≡ Ok tt)
    × ((drop_clean world).after ≡ world)
unfolding domain pool file content pipe_at conn_at with_domain with_pipe with_conn with_content
flush_and_drop_clean = (refl, refl, refl, refl)

-- RFC 1071, section 3, and short texts
checksums :
    (folded (word_sum (0x00 ∷ 0x01 ∷ 0xf2 ∷ [])) ≡ 0xf201)
    × (folded (word_sum (0x03 ∷ 0xf4 ∷ 0xf5 ∷ 0xf6 ∷ 0xf7 ∷ [])) ≡ 0xf0eb)
    × (folded (word_sum (0x00 ∷ 0x01 ∷ 0xf2 ∷ 0x03 ∷ 0xf4 ∷ 0xf5 ∷ 0xf6 ∷ 0xf7 ∷ [])) ≡ 0xddf2)
    × (checksum (0x00 ∷ 0x01 ∷ 0xf2 ∷ 0x03 ∷ 0xf4 ∷ 0xf5 ∷ 0xf6 ∷ 0xf7 ∷ []) ≡ 0x220d)
    × (checksum (codes "abc") ≡ 0x3b9d)
    × (checksum (codes "abd") ≡ 0x3a9d)
    × (checksum (codes "xy") ≡ 0x8786)
    × (checksum (codes "z") ≡ 0x85ff)
    × (checksum (codes "ET") ≡ 0xbaab)
    × (checksum (0 ∷ 0 ∷ []) ≡ 0xffff)
    × (checksum (255 ∷ 255 ∷ []) ≡ 0)
    × (checksum [] ≡ 0xffff)
unfolding domain pool file content pipe_at conn_at with_domain with_pipe with_conn with_content
checksums = (refl, refl, refl, refl, refl, refl, refl, refl, refl, refl, refl, refl)
