-- Writing: examples.
use Rattle.std.proofs.Common.{◌≡◌, ℕ, ◌-◌, [], ◌∷◌, ◌++◌, length, refl, true, Some}
use Rattle.std.specs.Prelude.{codes, Ok, Err}
use Rattle.iol_core.specs.Text.{Text, labelled, bytes_of}
use Rattle.iol_core.specs.State.{State, new_domain, no_domain, domain, pool, text, descriptor, file, content, pipe_at}
use Rattle.iol_core.specs.State.{conn_at, with_domain, with_pipe, with_conn, with_content}
use Rattle.iol_core.specs.declared.refusals.Refusal.TheVariants.{NoDomain, BadFd, BadAgg, NoPool, WrongMode, TooLong}
use Rattle.iol_core.specs.declared.refusals.Refusal.TheVariants.{PoolClosed, BrokenPipe, WouldBlock}
use Rattle.iol_core.specs.declared.descriptors.Descriptor.TheVariants as on
use Rattle.iol_core.specs.declared.descriptors.Mode.TheVariants as mode
use Rattle.iol_core.specs.declared.limits.TheConstants.{MAX_FILE_BYTES, MAX_QUEUE_BYTES}
use Rattle.iol_core.proofs.Examples.World.{answered, caller, world, with_receiver}
use Rattle.iol_core.specs.Calls.Writes.{iol_write, write}

-- the file's position is at its end, or one byte before the limit of a file; the default pool is closed
abbrev at_position : ℕ → State
at_position at =
    record world { domains = record caller { fds = Some (on.File 1 at mode.Both) ∷ [] } ∷ new_domain ∷ no_domain ∷ [] }

abbrev at_the_end : State
at_the_end = at_position 6

abbrev far : State
far = at_position (MAX_FILE_BYTES - 1)

abbrev placing_in_closed : State
placing_in_closed = record world { domains = record caller { default = Some 4 } ∷ new_domain ∷ no_domain ∷ [] }

-- the queue of pipe 0
abbrev with_queue : Text → State
with_queue q = record world { pipes = Some (record { queue = q; reading = true; writing = true }) ∷ [] }

iol_write_what_fits : (q : Text) → length q ≡ MAX_QUEUE_BYTES - 1 → answered (iol_write (with_queue q) 1 3 1) ≡ Ok 1
unfolding domain pool file content pipe_at conn_at with_domain with_pipe with_conn with_content
iol_write_what_fits q long = rw long refl

iol_write_full : (q : Text) → length q ≡ MAX_QUEUE_BYTES → answered (iol_write (with_queue q) 1 3 1) ≡ Err WouldBlock
unfolding domain pool file content pipe_at conn_at with_domain with_pipe with_conn with_content
iol_write_full q long = rw long refl

write_full : (q : Text) → length q ≡ MAX_QUEUE_BYTES → answered (write (with_queue q) 1 3 (codes "XY")) ≡ Err WouldBlock
unfolding domain pool file content pipe_at conn_at with_domain with_pipe with_conn with_content
write_full q long = rw long refl

iol_write_over_a_file :
    (answered (iol_write world 1 0 2) ≡ Ok 2)
    × (content (iol_write world 1 0 2).after 1 ≡ codes "acddef")
    × (descriptor (iol_write world 1 0 2).after 1 0 ≡ Some (on.File 1 3 mode.Both))
    × (text (iol_write world 1 0 2).after 1 2 ≡ labelled 2 (codes "cd"))
    × (content (iol_write at_the_end 1 0 2).after 1 ≡ codes "abcdefcd")
unfolding domain pool file content pipe_at conn_at with_domain with_pipe with_conn with_content
iol_write_over_a_file = (refl, refl, refl, refl, refl)

iol_write_to_a_queue :
    (answered (iol_write world 1 3 1) ≡ Ok 2)
    × ((pipe_at (iol_write world 1 3 1).after 0).queue ≡ labelled 1 (codes "ab") ++ labelled 2 (codes "cd")
    ++ labelled 1 (codes "ab"))
    × (bytes_of (conn_at (iol_write world 1 4 2).after 1).outgoing ≡ codes "outcd")
unfolding domain pool file content pipe_at conn_at with_domain with_pipe with_conn with_content
iol_write_to_a_queue = (refl, refl, refl)

iol_write_refused :
    (answered (iol_write world 3 0 1) ≡ Err NoDomain)
    × (answered (iol_write world 1 2 1) ≡ Err BadFd)
    × (answered (iol_write world 1 0 9) ≡ Err BadAgg)
    × (answered (iol_write world 1 5 1) ≡ Err WrongMode)
    × (answered (iol_write world 1 1 1) ≡ Err WrongMode)
    × (answered (iol_write far 1 0 1) ≡ Err TooLong)
    × (answered (iol_write world 1 6 1) ≡ Err BrokenPipe)
unfolding domain pool file content pipe_at conn_at with_domain with_pipe with_conn with_content
iol_write_refused = (refl, refl, refl, refl, refl, refl, refl)

write_copies :
    (answered (write world 1 0 (codes "XY")) ≡ Ok 2)
    × (content (write world 1 0 (codes "XY")).after 1 ≡ codes "aXYdef")
    × ((conn_at (write world 1 4 (codes "XY")).after 1).outgoing ≡ labelled 1 (codes "outXY"))
    × ((domain (write world 1 0 (codes "XY")).after 1).aggs ≡ caller.aggs)
unfolding domain pool file content pipe_at conn_at with_domain with_pipe with_conn with_content
write_copies = (refl, refl, refl, refl)

write_refused :
    (answered (write world 3 0 []) ≡ Err NoDomain)
    × (answered (write world 1 2 []) ≡ Err BadFd)
    × (answered (write (with_receiver world (record (new_domain {A = Text}) { fds = Some (on.WriteEnd 0) ∷ [] })) 2 0
    []) ≡ Err NoPool)
    × (answered (write world 1 1 []) ≡ Err WrongMode)
    × (answered (write far 1 0 (codes "XY")) ≡ Err TooLong)
    × (answered (write placing_in_closed 1 3 []) ≡ Err (PoolClosed 4))
    × (answered (write world 1 6 (codes "XY")) ≡ Err BrokenPipe)
unfolding domain pool file content pipe_at conn_at with_domain with_pipe with_conn with_content
write_refused = (refl, refl, refl, refl, refl, refl, refl)
