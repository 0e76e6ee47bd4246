-- Creating and ending domains: examples.
use Rattle.std.proofs.Common.{◌≡◌, [], ◌∷◌, replicate, refl, true, false, None}
use Rattle.std.specs.Prelude.{codes, Ok, Err}
use Rattle.iol_core.specs.Text.{Text, bytes_of}
use Rattle.iol_core.specs.State.{new_domain, domain, is_live, pool, aggregate, descriptor, file, content, pipe_at}
use Rattle.iol_core.specs.State.{conn_at, with_domain, with_pipe, with_conn, with_content}
use Rattle.iol_core.specs.declared.refusals.Refusal.TheVariants.{NoDomain, TooMany}
use Rattle.iol_core.proofs.Examples.World.{answered, world}
use Rattle.iol_core.specs.Calls.Domains.{domain_new, exit}

domain_new_gives_the_next :
    (answered (domain_new world 1) ≡ Ok 4)
    × (is_live (domain_new world 1).after 4 ≡ true)
unfolding domain pool file content pipe_at conn_at with_domain with_pipe with_conn with_content
domain_new_gives_the_next = (refl, refl)

domain_new_refused :
    (answered (domain_new world 3) ≡ Err NoDomain)
    × (answered (domain_new (record world { domains = replicate 4096 (new_domain {A = Text}) }) 1) ≡ Err TooMany)
unfolding domain pool file content pipe_at conn_at with_domain with_pipe with_conn with_content
domain_new_refused = (refl, refl)

-- `exit` closes both ends of a pipe, which is then removed; the queued output of a connection stays
exit_leaves_nothing :
    (answered (exit world 1) ≡ Ok tt)
    × (is_live (exit world 1).after 1 ≡ false)
    × (aggregate (exit world 1).after 1 1 ≡ None)
    × (descriptor (exit world 1).after 1 0 ≡ None)
    × ((exit world 1).after.pipes ≡ None ∷ None ∷ None ∷ [])
    × ((conn_at (exit world 1).after 1).closed ≡ true)
    × ((conn_at (exit world 1).after 1).incoming ≡ [])
    × (bytes_of (conn_at (exit world 1).after 1).outgoing ≡ codes "out")
    × (is_live (exit world 1).after 2 ≡ true)
unfolding domain pool file content pipe_at conn_at with_domain with_pipe with_conn with_content
exit_leaves_nothing = (refl, refl, refl, refl, refl, refl, refl, refl, refl)

exit_refused : answered (exit world 3) ≡ Err NoDomain
unfolding domain pool file content pipe_at conn_at with_domain with_pipe with_conn with_content
exit_refused = refl
