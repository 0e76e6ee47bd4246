-- Aggregates: examples.
use Rattle.std.proofs.Common.{◌≡◌, ℕ, ◌+◌, ◌-◌, List, [], ◌∷◌, ◌++◌, length, refl, length-append, Some, None}
use Rattle.std.specs.Prelude.{codes, Ok, Err}
use Rattle.iol_core.specs.Text.{Text, labelled, bytes_of}
use Rattle.iol_core.specs.State.{State, new_domain, no_domain, domain, pool, aggregate, text, file, content, pipe_at}
use Rattle.iol_core.specs.State.{conn_at, with_domain, with_pipe, with_conn, with_content}
use Rattle.iol_core.specs.declared.refusals.Refusal.TheVariants.{NoDomain, BadAgg, NoPool, BadRange, TooLong, TooMany}
use Rattle.iol_core.specs.declared.refusals.Refusal.TheVariants.{Denied, PoolClosed}
use Rattle.iol_core.specs.declared.limits.TheConstants.{MAX_AGGREGATE_BYTES, LAST_AGGREGATE}
use Rattle.iol_core.proofs.Examples.World.{answered, caller, world, with_receiver}
use Rattle.iol_core.specs.Calls.Aggregates.{agg_make, agg_dup, agg_cut, agg_split, agg_join, agg_replace, agg_drop}
use Rattle.iol_core.specs.Calls.Aggregates.{agg_give, show}

-- domain 1 with no aggregate number left, with one left, and with a closed pool as its default pool
abbrev tired : State
tired = record world { domains = record caller { next_agg = LAST_AGGREGATE + 1 } ∷ new_domain ∷ no_domain ∷ [] }

abbrev last : State
last = record world { domains = record caller { next_agg = LAST_AGGREGATE } ∷ new_domain ∷ no_domain ∷ [] }

abbrev placing_in_closed : State
placing_in_closed = record world { domains = record caller { default = Some 4 } ∷ new_domain ∷ no_domain ∷ [] }

agg_make_too_long : (bytes : List ℕ) → length bytes ≡ MAX_AGGREGATE_BYTES + 1
    → answered (agg_make world 1 bytes) ≡ Err TooLong
unfolding domain pool file content pipe_at conn_at with_domain with_pipe with_conn with_content
agg_make_too_long bytes long = rw long refl

-- aggregate 1 has this text, and aggregate 2 is "cd"
abbrev beside : Text → State
beside t =
    record world {
      domains = record caller { aggs = (1, t) ∷ (2, labelled 2 (codes "cd")) ∷ [] } ∷ new_domain
          ∷ no_domain ∷ [];
    }

agg_join_too_long : (t : Text) → length t ≡ MAX_AGGREGATE_BYTES - 1 → answered (agg_join (beside t) 1 1 2) ≡ Err TooLong
unfolding domain pool file content pipe_at conn_at with_domain with_pipe with_conn with_content
agg_join_too_long t long = rw long refl

agg_join_as_long_as_may_be : (t : Text) → length t ≡ MAX_AGGREGATE_BYTES - 2
    → answered (agg_join (beside t) 1 1 2) ≡ Ok 3
unfolding domain pool file content pipe_at conn_at with_domain with_pipe with_conn with_content
agg_join_as_long_as_may_be t long = rw long refl

agg_replace_too_long : (t : Text) → length t ≡ MAX_AGGREGATE_BYTES
    → answered (agg_replace (beside t) 1 2 1 1 1) ≡ Err TooLong
unfolding domain pool file content pipe_at conn_at with_domain with_pipe with_conn with_content
agg_replace_too_long t long = rw (length-append {A = ℕ × ℕ}, long) refl

agg_make_in_the_default_pool :
    (answered (agg_make world 1 (codes "new")) ≡ Ok 3)
    × (text (agg_make world 1 (codes "new")).after 1 3 ≡ labelled 1 (codes "new"))
    × (text (agg_make world 1 (codes "new")).after 1 1 ≡ labelled 1 (codes "ab"))
    × (answered (agg_make world 1 []) ≡ Ok 3)
unfolding domain pool file content pipe_at conn_at with_domain with_pipe with_conn with_content
agg_make_in_the_default_pool = (refl, refl, refl, refl)

agg_make_refused :
    (answered (agg_make world 3 []) ≡ Err NoDomain)
    × (answered (agg_make world 2 []) ≡ Err NoPool)
    × (answered (agg_make tired 1 []) ≡ Err TooMany)
    × (answered (agg_make placing_in_closed 1 []) ≡ Err (PoolClosed 4))
unfolding domain pool file content pipe_at conn_at with_domain with_pipe with_conn with_content
agg_make_refused = (refl, refl, refl, refl)

agg_dup_shows_the_same :
    (answered (agg_dup world 1 2) ≡ Ok 3)
    × (text (agg_dup world 1 2).after 1 3 ≡ labelled 2 (codes "cd"))
    × (text (agg_dup world 1 2).after 1 2 ≡ labelled 2 (codes "cd"))
unfolding domain pool file content pipe_at conn_at with_domain with_pipe with_conn with_content
agg_dup_shows_the_same = (refl, refl, refl)

agg_dup_refused :
    (answered (agg_dup world 3 1) ≡ Err NoDomain)
    × (answered (agg_dup world 1 3) ≡ Err BadAgg)
    × (answered (agg_dup tired 1 1) ≡ Err TooMany)
unfolding domain pool file content pipe_at conn_at with_domain with_pipe with_conn with_content
agg_dup_refused = (refl, refl, refl)

agg_cut_inside :
    (answered (agg_cut world 1 1 1 2) ≡ Ok 3)
    × (text (agg_cut world 1 1 1 2).after 1 3 ≡ labelled 1 (codes "b"))
    × (answered (agg_cut world 1 1 2 2) ≡ Ok 3)
    × (text (agg_cut world 1 1 2 2).after 1 3 ≡ [])
unfolding domain pool file content pipe_at conn_at with_domain with_pipe with_conn with_content
agg_cut_inside = (refl, refl, refl, refl)

agg_cut_refused :
    (answered (agg_cut world 3 1 0 0) ≡ Err NoDomain)
    × (answered (agg_cut world 1 9 0 0) ≡ Err BadAgg)
    × (answered (agg_cut world 1 1 2 1) ≡ Err BadRange)
    × (answered (agg_cut world 1 1 0 3) ≡ Err BadRange)
    × (answered (agg_cut tired 1 1 0 1) ≡ Err TooMany)
unfolding domain pool file content pipe_at conn_at with_domain with_pipe with_conn with_content
agg_cut_refused = (refl, refl, refl, refl, refl)

agg_split_gives_two :
    (answered (agg_split world 1 1 1) ≡ Ok (3, 4))
    × (text (agg_split world 1 1 1).after 1 3 ≡ labelled 1 (codes "a"))
    × (text (agg_split world 1 1 1).after 1 4 ≡ labelled 1 (codes "b"))
    × (aggregate (agg_split world 1 1 1).after 1 1 ≡ None)
    × (answered (agg_make (agg_split world 1 1 1).after 1 []) ≡ Ok 5)
unfolding domain pool file content pipe_at conn_at with_domain with_pipe with_conn with_content
agg_split_gives_two = (refl, refl, refl, refl, refl)

agg_split_refused :
    (answered (agg_split world 3 1 0) ≡ Err NoDomain)
    × (answered (agg_split world 1 9 0) ≡ Err BadAgg)
    × (answered (agg_split world 1 1 3) ≡ Err BadRange)
    × (answered (agg_split last 1 1 1) ≡ Err TooMany)
unfolding domain pool file content pipe_at conn_at with_domain with_pipe with_conn with_content
agg_split_refused = (refl, refl, refl, refl)

agg_join_one_after_the_other :
    (answered (agg_join world 1 2 1) ≡ Ok 3)
    × (text (agg_join world 1 2 1).after 1 3 ≡ labelled 2 (codes "cd") ++ labelled 1 (codes "ab"))
    × (aggregate (agg_join world 1 2 1).after 1 1 ≡ None)
    × (aggregate (agg_join world 1 2 1).after 1 2 ≡ None)
unfolding domain pool file content pipe_at conn_at with_domain with_pipe with_conn with_content
agg_join_one_after_the_other = (refl, refl, refl, refl)

agg_join_refused :
    (answered (agg_join world 3 1 2) ≡ Err NoDomain)
    × (answered (agg_join world 1 1 9) ≡ Err BadAgg)
    × (answered (agg_join world 1 9 1) ≡ Err BadAgg)
    × (answered (agg_join world 1 1 1) ≡ Err BadAgg)
    × (answered (agg_join tired 1 1 2) ≡ Err TooMany)
unfolding domain pool file content pipe_at conn_at with_domain with_pipe with_conn with_content
agg_join_refused = (refl, refl, refl, refl, refl)

agg_replace_inside :
    (answered (agg_replace world 1 1 1 2 2) ≡ Ok 3)
    × (bytes_of (text (agg_replace world 1 1 1 2 2).after 1 3) ≡ codes "acd")
    × (bytes_of (text (agg_replace world 1 1 1 1 1).after 1 3) ≡ codes "aabb")
    × (bytes_of (text (agg_replace world 1 1 1 2 2).after 1 1) ≡ codes "ab")
    × (bytes_of (text (agg_replace world 1 1 1 2 2).after 1 2) ≡ codes "cd")
unfolding domain pool file content pipe_at conn_at with_domain with_pipe with_conn with_content
agg_replace_inside = (refl, refl, refl, refl, refl)

agg_replace_refused :
    (answered (agg_replace world 3 1 0 0 1) ≡ Err NoDomain)
    × (answered (agg_replace world 1 9 0 0 1) ≡ Err BadAgg)
    × (answered (agg_replace world 1 1 0 0 9) ≡ Err BadAgg)
    × (answered (agg_replace world 1 1 2 1 2) ≡ Err BadRange)
    × (answered (agg_replace world 1 1 0 3 2) ≡ Err BadRange)
    × (answered (agg_replace tired 1 1 0 1 2) ≡ Err TooMany)
unfolding domain pool file content pipe_at conn_at with_domain with_pipe with_conn with_content
agg_replace_refused = (refl, refl, refl, refl, refl, refl)

agg_drop_forgets :
    (answered (agg_drop world 1 1) ≡ Ok tt)
    × (aggregate (agg_drop world 1 1).after 1 1 ≡ None)
    × (text (agg_drop world 1 1).after 1 2 ≡ labelled 2 (codes "cd"))
    × (answered (agg_make (agg_drop world 1 2).after 1 []) ≡ Ok 3)
unfolding domain pool file content pipe_at conn_at with_domain with_pipe with_conn with_content
agg_drop_forgets = (refl, refl, refl, refl)

agg_drop_refused :
    (answered (agg_drop world 3 1) ≡ Err NoDomain)
    × (answered (agg_drop world 2 1) ≡ Err BadAgg)
unfolding domain pool file content pipe_at conn_at with_domain with_pipe with_conn with_content
agg_drop_refused = (refl, refl)

agg_give_moves :
    (answered (agg_give world 1 1 2) ≡ Ok 1)
    × (text (agg_give world 1 1 2).after 2 1 ≡ labelled 1 (codes "ab"))
    × (aggregate (agg_give world 1 1 2).after 1 1 ≡ None)
    × (answered (agg_give world 1 1 1) ≡ Ok 3)
    × (text (agg_give world 1 1 1).after 1 3 ≡ labelled 1 (codes "ab"))
    × (aggregate (agg_give world 1 1 1).after 1 1 ≡ None)
unfolding domain pool file content pipe_at conn_at with_domain with_pipe with_conn with_content
agg_give_moves = (refl, refl, refl, refl, refl, refl)

agg_give_refused :
    (answered (agg_give world 3 1 1) ≡ Err NoDomain)
    × (answered (agg_give world 1 1 3) ≡ Err NoDomain)
    × (answered (agg_give world 1 9 2) ≡ Err BadAgg)
    × (answered (agg_give (with_receiver world (record (new_domain {A = Text}) { next_agg = LAST_AGGREGATE + 1 })) 1 1
    2) ≡ Err TooMany)
    × (answered (agg_give world 1 2 2) ≡ Err (Denied 2))
unfolding domain pool file content pipe_at conn_at with_domain with_pipe with_conn with_content
agg_give_refused = (refl, refl, refl, refl, refl)

show_copies_the_bytes : answered (show world 1 2) ≡ Ok (codes "cd")
unfolding domain pool file content pipe_at conn_at with_domain with_pipe with_conn with_content
show_copies_the_bytes = refl

show_refused :
    (answered (show world 3 1) ≡ Err NoDomain)
    × (answered (show world 1 3) ≡ Err BadAgg)
unfolding domain pool file content pipe_at conn_at with_domain with_pipe with_conn with_content
show_refused = (refl, refl)
