-- Reading: examples.
use Rattle.std.proofs.Common.{◌≡◌, ◌+◌, [], ◌∷◌, ◌++◌, refl, true, false, Some}
use Rattle.std.specs.Prelude.{codes, Ok, Err}
use Rattle.iol_core.specs.Text.{Text, labelled, bytes_of}
use Rattle.iol_core.specs.State.{State, new_domain, no_domain, domain, pool, text, descriptor, file, content, pipe_at}
use Rattle.iol_core.specs.State.{conn_at, with_domain, with_pipe, with_conn, with_content}
use Rattle.iol_core.specs.declared.refusals.Refusal.TheVariants.{NoDomain, BadFd, WrongMode, TooMany, Denied}
use Rattle.iol_core.specs.declared.refusals.Refusal.TheVariants.{WouldBlock}
use Rattle.iol_core.specs.declared.descriptors.Descriptor.TheVariants as on
use Rattle.iol_core.specs.declared.descriptors.Mode.TheVariants as mode
use Rattle.iol_core.specs.declared.limits.TheConstants.{LAST_AGGREGATE}
use Rattle.iol_core.proofs.Examples.World.{answered, caller, world, with_receiver}
use Rattle.iol_core.specs.Calls.Reads.{iol_read, read}

-- domain 2 has the pipe's read end; the pipe is empty, with an open or a closed write end; file 1 is open only for
-- writing; no aggregate number is left
abbrev other : State
other = with_receiver world (record (new_domain {A = Text}) { fds = Some (on.ReadEnd 0) ∷ [] })

abbrev empty : State
empty = record world { pipes = Some (record { queue = []; reading = true; writing = true }) ∷ [] }

abbrev ended : State
ended = record world { pipes = Some (record { queue = []; reading = true; writing = false }) ∷ [] }

abbrev writing : State
writing =
    record world { domains = record caller { fds = Some (on.File 1 0 mode.Write) ∷ [] } ∷ new_domain ∷ no_domain ∷ [] }

abbrev tired : State
tired = record world { domains = record caller { next_agg = LAST_AGGREGATE + 1 } ∷ new_domain ∷ no_domain ∷ [] }

iol_read_of_a_file :
    (answered (iol_read world 1 0 3) ≡ Ok 3)
    × (text (iol_read world 1 0 3).after 1 3 ≡ labelled 1 (codes "bcd"))
    × (descriptor (iol_read world 1 0 3).after 1 0 ≡ Some (on.File 1 4 mode.Both))
    × (text (iol_read world 1 0 9).after 1 3 ≡ labelled 1 (codes "bcdef"))
    × (descriptor (iol_read world 1 0 9).after 1 0 ≡ Some (on.File 1 6 mode.Both))
    × (text (iol_read (iol_read world 1 0 9).after 1 0 9).after 1 4 ≡ [])
unfolding domain pool file content pipe_at conn_at with_domain with_pipe with_conn with_content
iol_read_of_a_file = (refl, refl, refl, refl, refl, refl)

iol_read_of_a_queue :
    (answered (iol_read world 1 1 3) ≡ Ok 3)
    × (text (iol_read world 1 1 3).after 1 3 ≡ labelled 1 (codes "ab") ++ labelled 2 (codes "c"))
    × ((pipe_at (iol_read world 1 1 3).after 0).queue ≡ labelled 2 (codes "d"))
    × (text (iol_read other 2 0 9).after 2 1 ≡ labelled 1 (codes "ab"))
    × ((pipe_at (iol_read other 2 0 9).after 0).queue ≡ labelled 2 (codes "cd"))
    × (bytes_of (text (iol_read world 1 4 9).after 1 3) ≡ codes "in")
unfolding domain pool file content pipe_at conn_at with_domain with_pipe with_conn with_content
iol_read_of_a_queue = (refl, refl, refl, refl, refl, refl)

-- no byte is requested, or the pipe is empty and its write end is closed
iol_read_at_the_end :
    (answered (iol_read world 1 1 0) ≡ Ok 3)
    × (text (iol_read world 1 1 0).after 1 3 ≡ [])
    × (answered (iol_read ended 1 1 5) ≡ Ok 3)
    × (text (iol_read ended 1 1 5).after 1 3 ≡ [])
unfolding domain pool file content pipe_at conn_at with_domain with_pipe with_conn with_content
iol_read_at_the_end = (refl, refl, refl, refl)

iol_read_refused :
    (answered (iol_read world 3 0 1) ≡ Err NoDomain)
    × (answered (iol_read world 1 2 1) ≡ Err BadFd)
    × (answered (iol_read world 1 3 1) ≡ Err WrongMode)
    × (answered (iol_read writing 1 0 1) ≡ Err WrongMode)
    × (answered (iol_read tired 1 0 1) ≡ Err TooMany)
    × (answered (iol_read (iol_read other 2 0 9).after 2 0 9) ≡ Err (Denied 2))
    × (answered (iol_read empty 1 1 1) ≡ Err WouldBlock)
unfolding domain pool file content pipe_at conn_at with_domain with_pipe with_conn with_content
iol_read_refused = (refl, refl, refl, refl, refl, refl, refl)

read_copies :
    (answered (read world 1 0 3) ≡ Ok (codes "bcd"))
    × (descriptor (read world 1 0 3).after 1 0 ≡ Some (on.File 1 4 mode.Both))
    × ((domain (read world 1 0 3).after 1).aggs ≡ caller.aggs)
    × (answered (read world 1 1 9) ≡ Ok (codes "abcd"))
    × ((pipe_at (read world 1 1 9).after 0).queue ≡ [])
unfolding domain pool file content pipe_at conn_at with_domain with_pipe with_conn with_content
read_copies = (refl, refl, refl, refl, refl)

read_refused :
    (answered (read world 3 0 1) ≡ Err NoDomain)
    × (answered (read world 1 2 1) ≡ Err BadFd)
    × (answered (read world 1 3 1) ≡ Err WrongMode)
    × (answered (read (read other 2 0 9).after 2 0 9) ≡ Err (Denied 2))
    × (answered (read empty 1 1 1) ≡ Err WouldBlock)
unfolding domain pool file content pipe_at conn_at with_domain with_pipe with_conn with_content
read_refused = (refl, refl, refl, refl, refl)
