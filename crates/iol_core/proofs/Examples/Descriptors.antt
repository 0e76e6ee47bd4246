-- Descriptors: examples.
use Rattle.std.proofs.Common.{◌≡◌, [], ◌∷◌, replicate, refl, true, false, Some, None}
use Rattle.std.specs.Prelude.{codes, Ok, Err}
use Rattle.iol_core.specs.Text.{Text, bytes_of}
use Rattle.iol_core.specs.State.{State, Domain, new_domain, new_pipe, domain, pool, descriptor, file, content, pipe_at}
use Rattle.iol_core.specs.State.{conn_at, with_domain, with_pipe, with_conn, with_content}
use Rattle.iol_core.specs.declared.refusals.Refusal.TheVariants.{NoDomain, BadFd, TooMany, Denied, WouldBlock}
use Rattle.iol_core.specs.declared.descriptors.Descriptor.TheVariants as on
use Rattle.iol_core.specs.declared.limits.TheConstants.{MAX_OPEN, MAX_PIPES}
use Rattle.iol_core.proofs.Examples.World.{answered, world, with_receiver}
use Rattle.iol_core.specs.Calls.Descriptors.{pipe, give_fd, close, accept}

-- no pipe; as many pipes as the limit; a domain with as many descriptors as the limit
abbrev quiet : State
quiet = record world { pipes = [] }

abbrev full : State
full = record world { pipes = replicate MAX_PIPES (Some new_pipe) }

abbrev crowded : Domain Text
crowded = record (new_domain {A = Text}) { fds = replicate MAX_OPEN (Some (on.WriteEnd 0)) }

pipe_takes_the_two_lowest :
    (answered (pipe quiet 1) ≡ Ok (2, 7))
    × (descriptor (pipe quiet 1).after 1 2 ≡ Some (on.ReadEnd 0))
    × (descriptor (pipe quiet 1).after 1 7 ≡ Some (on.WriteEnd 0))
    × (pipe_at (pipe quiet 1).after 0 ≡ record { queue = []; reading = true; writing = true })
    × (answered (pipe world 1) ≡ Ok (2, 7))
    × (descriptor (pipe world 1).after 1 2 ≡ Some (on.ReadEnd 1))
unfolding domain pool file content pipe_at conn_at with_domain with_pipe with_conn with_content
pipe_takes_the_two_lowest = (refl, refl, refl, refl, refl, refl)

pipe_refused :
    (answered (pipe quiet 3) ≡ Err NoDomain)
    × (answered (pipe (with_receiver quiet crowded) 2) ≡ Err TooMany)
    × (answered (pipe full 1) ≡ Err TooMany)
unfolding domain pool file content pipe_at conn_at with_domain with_pipe with_conn with_content
pipe_refused = (refl, refl, refl)

give_fd_moves :
    (answered (give_fd world 1 1 2) ≡ Ok 0)
    × (descriptor (give_fd world 1 1 2).after 2 0 ≡ Some (on.ReadEnd 0))
    × (descriptor (give_fd world 1 1 2).after 1 1 ≡ None)
    × (answered (give_fd world 1 6 1) ≡ Ok 2)
    × (descriptor (give_fd world 1 6 1).after 1 2 ≡ Some (on.WriteEnd 2))
    × (descriptor (give_fd world 1 6 1).after 1 6 ≡ None)
    × (answered (give_fd world 1 0 1) ≡ Ok 0)
unfolding domain pool file content pipe_at conn_at with_domain with_pipe with_conn with_content
give_fd_moves = (refl, refl, refl, refl, refl, refl, refl)

give_fd_refused :
    (answered (give_fd world 3 0 1) ≡ Err NoDomain)
    × (answered (give_fd world 1 0 3) ≡ Err NoDomain)
    × (answered (give_fd world 1 2 2) ≡ Err BadFd)
    × (answered (give_fd world 1 9 2) ≡ Err BadFd)
    × (answered (give_fd (with_receiver world crowded) 1 0 2) ≡ Err TooMany)
    × (answered (give_fd world 1 5 2) ≡ Err (Denied 2))
unfolding domain pool file content pipe_at conn_at with_domain with_pipe with_conn with_content
give_fd_refused = (refl, refl, refl, refl, refl, refl)

close_drops_what_is_unread :
    (answered (close world 1 1) ≡ Ok tt)
    × (descriptor (close world 1 1).after 1 1 ≡ None)
    × (pipe_at (close world 1 1).after 0 ≡ record { queue = []; reading = false; writing = true })
    × ((pipe_at (close world 1 3).after 0).writing ≡ false)
    × (bytes_of (pipe_at (close world 1 3).after 0).queue ≡ codes "abcd")
    × ((conn_at (close world 1 4).after 1).incoming ≡ [])
    × (bytes_of (conn_at (close world 1 4).after 1).outgoing ≡ codes "out")
    × ((close world 1 6).after.pipes ≡ Some (pipe_at world 0) ∷ None ∷ None ∷ [])
unfolding domain pool file content pipe_at conn_at with_domain with_pipe with_conn with_content
close_drops_what_is_unread = (refl, refl, refl, refl, refl, refl, refl, refl)

close_refused :
    (answered (close world 3 0) ≡ Err NoDomain)
    × (answered (close world 1 2) ≡ Err BadFd)
unfolding domain pool file content pipe_at conn_at with_domain with_pipe with_conn with_content
close_refused = (refl, refl)

accept_takes_the_lowest_that_names_it :
    (answered (accept world 1) ≡ Ok 2)
    × (descriptor (accept world 1).after 1 2 ≡ Some (on.Connection 3))
    × ((conn_at (accept world 1).after 3).accepted ≡ true)
    × (descriptor (accept world 2).after 2 0 ≡ Some (on.Connection 2))
unfolding domain pool file content pipe_at conn_at with_domain with_pipe with_conn with_content
accept_takes_the_lowest_that_names_it = (refl, refl, refl, refl)

accept_refused :
    (answered (accept world 3) ≡ Err NoDomain)
    × (answered (accept (with_receiver world crowded) 2) ≡ Err TooMany)
    × (answered (accept (accept world 1).after 1) ≡ Err WouldBlock)
unfolding domain pool file content pipe_at conn_at with_domain with_pipe with_conn with_content
accept_refused = (refl, refl, refl)
