-- Files: examples.
use Rattle.std.proofs.Common.{◌≡◌, ℕ, ◌+◌, List, [], ◌∷◌, length, replicate, refl, Some}
use Rattle.std.specs.Prelude.{codes, Ok, Err}
use Rattle.iol_core.specs.Text.{Text}
use Rattle.iol_core.specs.State.{Domain, new_domain, domain, pool, descriptor, file, content, pipe_at, conn_at}
use Rattle.iol_core.specs.State.{with_domain, with_pipe, with_conn, with_content}
use Rattle.iol_core.specs.declared.refusals.Refusal.TheVariants.{NoDomain, BadFd, NoPool, NoFile, WrongMode, BadRange}
use Rattle.iol_core.specs.declared.refusals.Refusal.TheVariants.{TooLong, TooMany, Denied, PoolClosed}
use Rattle.iol_core.specs.declared.descriptors.Descriptor.TheVariants as on
use Rattle.iol_core.specs.declared.descriptors.Mode.TheVariants as mode
use Rattle.iol_core.specs.declared.limits.TheConstants.{MAX_FILE_BYTES, MAX_OPEN}
use Rattle.iol_core.proofs.Examples.World.{answered, world, with_receiver}
use Rattle.iol_core.specs.Calls.Files.{file_new, open_file, seek, file_length, fsync}

abbrev crowded : Domain Text
crowded = record (new_domain {A = Text}) { fds = replicate MAX_OPEN (Some (on.WriteEnd 0)) }

file_new_too_long : (bytes : List ℕ) → length bytes ≡ MAX_FILE_BYTES + 1
    → answered (file_new (record world { files = []; slots = bytes ∷ [] }) 1 (codes "n") 1) ≡ Err TooLong
unfolding domain pool file content pipe_at conn_at with_domain with_pipe with_conn with_content
file_new_too_long bytes long = rw long refl

file_new_takes_the_next_slot :
    (answered (file_new world 1 (codes "n") 1) ≡ Ok 4)
    × (file (file_new world 1 (codes "n") 1).after 4 ≡ record { name = codes "n"; pool = 1 })
    × (content (file_new world 1 (codes "n") 1).after 4 ≡ codes "new")
    × (answered (file_new world 1 (replicate 255 97) 1) ≡ Ok 4)
unfolding domain pool file content pipe_at conn_at with_domain with_pipe with_conn with_content
file_new_takes_the_next_slot = (refl, refl, refl, refl)

file_new_refused :
    (answered (file_new world 3 (codes "n") 1) ≡ Err NoDomain)
    × (answered (file_new world 1 (codes "n") 5) ≡ Err NoPool)
    × (answered (file_new world 1 (codes "f") 1) ≡ Err WrongMode)
    × (answered (file_new world 1 [] 1) ≡ Err BadRange)
    × (answered (file_new world 1 (replicate 256 97) 1) ≡ Err BadRange)
    × (answered (file_new (record world { files = replicate 1024 (record { name = codes "f"; pool = 1 }) }) 1
    (codes "n") 1) ≡ Err TooMany)
    × (answered (file_new world 1 (codes "n") 3) ≡ Err (Denied 3))
    × (answered (file_new world 1 (codes "n") 4) ≡ Err (PoolClosed 4))
unfolding domain pool file content pipe_at conn_at with_domain with_pipe with_conn with_content
file_new_refused = (refl, refl, refl, refl, refl, refl, refl, refl)

open_file_at_its_begin :
    (answered (open_file world 1 (codes "f") mode.Both) ≡ Ok 2)
    × (descriptor (open_file world 1 (codes "f") mode.Both).after 1 2 ≡ Some (on.File 1 0 mode.Both))
unfolding domain pool file content pipe_at conn_at with_domain with_pipe with_conn with_content
open_file_at_its_begin = (refl, refl)

open_file_refused :
    (answered (open_file world 3 (codes "f") mode.Read) ≡ Err NoDomain)
    × (answered (open_file world 1 (codes "n") mode.Read) ≡ Err NoFile)
    × (answered (open_file (with_receiver world crowded) 2 (codes "f") mode.Read) ≡ Err TooMany)
    × (answered (open_file world 2 (codes "g") mode.Read) ≡ Err (Denied 2))
unfolding domain pool file content pipe_at conn_at with_domain with_pipe with_conn with_content
open_file_refused = (refl, refl, refl, refl)

seek_up_to_the_end :
    (answered (seek world 1 0 6) ≡ Ok tt)
    × (descriptor (seek world 1 0 6).after 1 0 ≡ Some (on.File 1 6 mode.Both))
unfolding domain pool file content pipe_at conn_at with_domain with_pipe with_conn with_content
seek_up_to_the_end = (refl, refl)

seek_refused :
    (answered (seek world 3 0 0) ≡ Err NoDomain)
    × (answered (seek world 1 2 0) ≡ Err BadFd)
    × (answered (seek world 1 1 0) ≡ Err WrongMode)
    × (answered (seek world 1 0 7) ≡ Err BadRange)
unfolding domain pool file content pipe_at conn_at with_domain with_pipe with_conn with_content
seek_refused = (refl, refl, refl, refl)

length_in_bytes : answered (file_length world 1 0) ≡ Ok 6
unfolding domain pool file content pipe_at conn_at with_domain with_pipe with_conn with_content
length_in_bytes = refl

length_refused :
    (answered (file_length world 3 0) ≡ Err NoDomain)
    × (answered (file_length world 1 2) ≡ Err BadFd)
    × (answered (file_length world 1 4) ≡ Err WrongMode)
unfolding domain pool file content pipe_at conn_at with_domain with_pipe with_conn with_content
length_refused = (refl, refl, refl)

fsync_in_any_mode :
    (answered (fsync world 1 0) ≡ Ok tt)
    × (answered (fsync world 1 5) ≡ Ok tt)
    × ((fsync world 1 0).after ≡ world)
unfolding domain pool file content pipe_at conn_at with_domain with_pipe with_conn with_content
fsync_in_any_mode = (refl, refl, refl)

fsync_refused :
    (answered (fsync world 3 0) ≡ Err NoDomain)
    × (answered (fsync world 1 2) ≡ Err BadFd)
    × (answered (fsync world 1 3) ≡ Err WrongMode)
unfolding domain pool file content pipe_at conn_at with_domain with_pipe with_conn with_content
fsync_refused = (refl, refl, refl)
